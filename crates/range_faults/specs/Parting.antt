-- Early and late goals of a rule, and goals that give the variables that no row binds the number 0.
use Rattle.std.specs.Prelude.{ℕ, suc, Bool, true, List, [], ◌∷◌, ◌++◌, if◌then◌else◌}
use Rattle.std.specs.List.{list_all, flat_map}
use Rattle.tel_term.specs.declared.exprs.Expr.{Expr}
use Rattle.rule_binding.specs.Closure.{marked}
use Rattle.rule_goals.specs.Said.{Said, Row, Equal, Compare}

-- whether a goal reads marked variables alone, which are those that rows bind
abbrev pub is_early : List Bool → Said → Bool
is_early marks (Row table places) = true
is_early marks (Equal place expr reads) = list_all (marked marks) reads
is_early marks (Compare relation left right reads) = true

abbrev pub early_of : List Bool → Said → List Said
early_of marks goal = if is_early marks goal then goal ∷ [] else []

abbrev pub late_of : List Bool → Said → List Said
late_of marks goal = if is_early marks goal then [] else goal ∷ []

abbrev pub early_goals : List Bool → List Said → List Said
early_goals marks goals = flat_map (early_of marks) goals

abbrev pub late_goals : List Bool → List Said → List Said
late_goals marks goals = flat_map (late_of marks) goals

-- an unmarked variable has the value of this expression
abbrev pub zero_goal : Expr → ℕ → Bool → List Said
zero_goal expr v mark = if mark then [] else Equal v expr [] ∷ []

-- those of the variables from this one on
abbrev pub zero_goals : Expr → ℕ → List Bool → List Said
zero_goals expr v [] = []
zero_goals expr v (mark ∷ marks) = zero_goal expr v mark ++ zero_goals expr (suc v) marks
