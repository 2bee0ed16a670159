use Rattle.formula_syntax.proofs.Stood.{one_expr, one_formula}
use Rattle.formula_syntax.proofs.laws.one_tree.Goals as goal

pub returns : goal.returns
returns c = record { expr = one_expr; formula = one_formula }
