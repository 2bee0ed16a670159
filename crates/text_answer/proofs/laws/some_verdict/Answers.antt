use Rattle.text_answer.proofs.Verdicts.{some_verdict}
use Rattle.text_answer.proofs.laws.some_verdict.Goals as goal

pub returns : goal.returns
returns c = some_verdict
