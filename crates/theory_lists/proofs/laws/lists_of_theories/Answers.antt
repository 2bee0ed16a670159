use Rattle.theory_lists.proofs.SameLists.{lists-same}
use Rattle.theory_lists.proofs.laws.lists_of_theories.Goals as goal

pub returns : goal.returns
returns c = lists-same
