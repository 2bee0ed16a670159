use Rattle.instance_laws.proofs.Leaving.{some-none, first-one}
use Rattle.instance_laws.proofs.laws.some_or_none_leaves.Goals as goal

pub returns-clause-some : goal.returns-clause-some
returns-clause-some c = some-none

pub returns-clause-one : goal.returns-clause-one
returns-clause-one c = first-one
