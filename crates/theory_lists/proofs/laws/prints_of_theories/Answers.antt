use Rattle.theory_lists.proofs.SamePrint.{prints-same, lists-print-same}
use Rattle.theory_lists.proofs.laws.prints_of_theories.Goals as goal

pub returns : goal.returns
returns c = record { traces = prints-same; models = lists-print-same }
