use Rattle.tel_lex.proofs.Going.{lexed_only, some_lexed}
use Rattle.tel_lex.proofs.scan.one_reading.Goals as goal

pub returns-clause-once : goal.returns-clause-once
returns-clause-once c = λ file bytes tokens others fault other end last first second. lexed_only file bytes tokens fault end first others other last second

pub returns-clause-some : goal.returns-clause-some
returns-clause-some c = some_lexed
