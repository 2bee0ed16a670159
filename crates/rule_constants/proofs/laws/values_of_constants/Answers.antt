use Rattle.rule_constants.specs.Constants.{links_of}
use Rattle.rule_constants.proofs.Rounds.{one}
use Rattle.rule_constants.proofs.OneReplaced.{one_replaced}
use Rattle.rule_constants.proofs.laws.values_of_constants.Goals as goal

pub returns-clause-value : goal.returns-clause-value
returns-clause-value c = λ statements symbols number a b first second. one statements (links_of statements symbols) first.0 second.0 number a b first.1 second.1

pub returns-clause-replaced : goal.returns-clause-replaced
returns-clause-replaced c = one_replaced
