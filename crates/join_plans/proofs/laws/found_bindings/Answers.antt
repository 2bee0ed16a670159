use Rattle.join_plans.proofs.Counting.{fewer}
use Rattle.join_plans.proofs.Exact.{exact}
use Rattle.join_plans.proofs.Once.{indexed, once}
use Rattle.join_plans.proofs.laws.found_bindings.Goals as goal

pub returns : goal.returns
returns c = record { exact = exact; once = once; index = indexed; fewer = λ xs ys. fewer xs ys }
