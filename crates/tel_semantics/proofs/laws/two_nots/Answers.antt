use Rattle.tel_semantics.proofs.NodeLaws.{two_nots, two_nots_before}
use Rattle.tel_semantics.proofs.laws.two_nots.Goals as goal

pub returns-clause-now : goal.returns-clause-now
returns-clause-now c = two_nots

pub returns-clause-before : goal.returns-clause-before
returns-clause-before c = two_nots_before
