use Rattle.formula_syntax.proofs.Stood.{expr-answer, formula-answer}
use Rattle.formula_syntax.proofs.laws.one_answer.Goals as goal

pub returns : goal.returns
returns c = record { expr = expr-answer; formula = formula-answer }
