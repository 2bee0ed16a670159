-- One goal more.
use Rattle.std.proofs.Common.{◌≡◌, ◌∙◌, List, [], ◌∷◌, ◌++◌, refl, ap}
use Rattle.plan_order.specs.declared.goals.Goal.{Goal}
use Rattle.rule_goals.specs.Said.{Said, said, all_said}

said_more : (list : List Goal) (goal : Goal) → all_said (list ++ goal ∷ []) ≡ all_said list ++ said goal ∷ []
said_more [] goal = refl
said_more (one ∷ list) goal = ap (λ (l : List Said). said one ∷ l) (said_more list goal)

pub one_more : (old new : List Goal) (goal : Goal) → new ≡ old ++ goal ∷ [] → all_said new ≡ all_said old ++ said goal ∷ []
one_more old new goal is = ap all_said is ∙ said_more old goal
