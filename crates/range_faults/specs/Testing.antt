-- The test that a search makes of an environment.
use Rattle.std.specs.Prelude.{ℕ, Bool, true, false, ◌||◌, List, ◌∷◌, drop, Option, Some, None}
use Rattle.std.specs.List.{list_all, list_any}
use Rattle.tel_term.specs.declared.terms.Value.{Value}
use Rattle.tel_term.specs.declared.arithmetic.EvalFault.{EvalFault}
use Rattle.tel_term.specs.declared.arithmetic.EvalFault.TheVariants.{Undefined, Range}
use Rattle.tel_term.specs.declared.exprs.Expr.{Expr}
use Rattle.tel_term.specs.Arithmetic.{expr_value}
use Rattle.rule_binding.specs.Binding.{Vars, Setting, has}
use Rattle.live_instances.specs.Reached.{is_same, set_by}
use Rattle.join_plans.specs.Join.{at}
use Rattle.rule_goals.specs.Said.{Said, Row, Equal, Compare}
use Rattle.range_faults.specs.Stops.{Stop, stop}

-- whether a goal agrees, where these variables aren't set: an argument that reads one of them isn't compared
abbrev pub agrees : Vars → List Value → Said → Bool
agrees unset env (Row table places) = true
agrees unset env (Equal place expr reads) = list_any unset reads || is_same (expr_value env expr) (at env place)
agrees unset env (Compare relation left right reads) = true

abbrev pub all_agree : Vars → List Value → List Said → Bool
all_agree unset env goals = list_all (agrees unset env) goals

abbrev pub stop_agrees : List Said → Option Stop → Bool
stop_agrees late None = false
stop_agrees late (Some found) = all_agree (has found.unset) found.env late

-- whether the setting equations stop from an environment on, with the late goals in agreement
abbrev pub leaves : List Expr → List Setting → List Said → List Value → Bool
leaves exprs settings late env = stop_agrees late (stop exprs env settings)

-- a stop at the setting equation with this number, or behind the last one
abbrev pub stop_at : List Setting → List Value → Option ℕ → Option Stop
stop_at settings env None = None
stop_at settings env (Some number) = Some (record { unset = set_by (drop number settings); env = env })

-- where a fault at the setting equation with this number stops the search
abbrev pub stop_number : EvalFault → ℕ → Option ℕ
stop_number Undefined number = None
stop_number Range number = Some number

-- how it goes on behind a setting equation, which has a fault or not
abbrev pub behind : List Expr → Setting → List Setting → List Value → Option EvalFault → Option Stop
behind exprs setting more env None = stop exprs env more
behind exprs setting more env (Some Undefined) = None
behind exprs setting more env (Some Range) = Some (record { unset = set_by (setting ∷ more); env = env })
