-- One operation more, one goal more, and operations of expressions one list behind another.
use Rattle.std.proofs.Common.{◌≡◌, ◌∙◌, List, [], ◌∷◌, ◌++◌, refl, ap}
use Rattle.std.proofs.lemmas.Grind.{flat_map-append}
use Rattle.tel_term.specs.declared.exprs.Expr.{Expr}
use Rattle.plan_order.specs.declared.goals.Goal.{Goal}
use Rattle.rule_goals.specs.Said as goals
use Rattle.range_faults.specs.declared.operations.Operation.{Operation}
use Rattle.range_faults.specs.Operations.{operation_of, operations, said, all_said}

operations_said : (list : List Operation) (operation : Operation) → all_said (list ++ operation ∷ []) ≡ all_said list ++ said operation ∷ []
operations_said [] operation = refl
operations_said (one ∷ list) operation = ap (λ (l : List Expr). said one ∷ l) (operations_said list operation)

pub one_operation : (old new : List Operation) (operation : Operation) → new ≡ old ++ operation ∷ [] → all_said new ≡ all_said old ++ said operation ∷ []
one_operation old new operation is = ap all_said is ∙ operations_said old operation

goals_said : (list : List Goal) (goal : Goal) → goals.all_said (list ++ goal ∷ []) ≡ goals.all_said list ++ goals.said goal ∷ []
goals_said [] goal = refl
goals_said (one ∷ list) goal = ap (λ (l : List goals.Said). goals.said one ∷ l) (goals_said list goal)

pub one_goal : (old new : List Goal) (goal : Goal) → new ≡ old ++ goal ∷ [] → goals.all_said new ≡ goals.all_said old ++ goals.said goal ∷ []
one_goal old new goal is = ap goals.all_said is ∙ goals_said old goal

pub with_both : (xs ys : List Expr) → operations (xs ++ ys) ≡ operations xs ++ operations ys
with_both xs ys = flat_map-append operation_of xs ys
