use Rattle.formula_syntax.proofs.Stood.{expr-outcome, formula-outcome}
use Rattle.formula_syntax.proofs.laws.one_outcome.Goals as goal

pub returns : goal.returns
returns c = record { expr = expr-outcome; formula = formula-outcome }
