-- Where the setting equations stop, and which first fault there is, from the values that rows give.
use Rattle.std.specs.Prelude.{◌≡◌, ◌⊎◌, ℕ, Bool, true, false, List, [], ◌∷◌, map, Ok, Err, Option, Some, None, slice_set, IsTrue, if◌then◌else◌}
use Rattle.std.specs.List.{list_any}
use Rattle.tel_base.specs.Members.{In}
use Rattle.tel_term.specs.declared.terms.Value.{Value}
use Rattle.tel_term.specs.declared.arithmetic.EvalFault.{EvalFault}
use Rattle.tel_term.specs.declared.arithmetic.EvalFault.TheVariants.{Undefined, Range}
use Rattle.tel_term.specs.declared.exprs.Expr.{Expr}
use Rattle.tel_term.specs.Arithmetic.{Valued, expr_value}
use Rattle.rule_binding.specs.Binding.{Setting, has}
use Rattle.join_plans.specs.Join.{at}
use Rattle.join_plans.specs.Goals.{Goal, IsRow, HasValue, Compares}
use Rattle.live_instances.specs.Reached.{first_fault, set_by}

-- the variables that aren't set, and the values so far
pub record Stop : Type 0 where
  pub unset : List ℕ
  pub env : List Value

abbrev pub is_range : Option EvalFault → Bool
is_range None = false
is_range (Some Undefined) = false
is_range (Some Range) = true

-- a setting equation goes on with its value, and stops where it leaves the range
abbrev pub stopped : Option Stop → (Value → Option Stop) → Valued → Option Stop
stopped here on (Ok value) = on value
stopped here on (Err Undefined) = None
stopped here on (Err Range) = here

-- where the first fault leaves the range: that of a setting equation, in their order, or else of other expressions, from left to right
abbrev pub stop : List Expr → List Value → List Setting → Option Stop
stop exprs env [] = if is_range (first_fault (map (expr_value env) exprs)) then Some (record { unset = []; env = env }) else None
stop exprs env (setting ∷ more) =
    stopped (Some (record { unset = set_by (setting ∷ more); env = env })) (λ (value : Value). stop exprs (slice_set env setting.var value) more) (expr_value env setting.value)

-- what a goal asks for, where some variables aren't set: an argument with one of these isn't compared
abbrev pub Agrees : List ℕ → List Value → Goal → Type 0
Agrees unset b (IsRow places rows) = In (map (at b) places) rows
Agrees unset b (HasValue place e) = IsTrue (list_any (has unset) e.reads) ⊎ (e.value b ≡ Some (at b place))
Agrees unset b (Compares c) = Unit {0}

abbrev pub AllAgree : List ℕ → List Value → List Goal → Type 0
AllAgree unset b goals = (goal : Goal) → In goal goals → Agrees unset b goal
