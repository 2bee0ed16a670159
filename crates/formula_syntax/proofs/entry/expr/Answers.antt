use Rattle.formula_syntax.specs.Given.{most_levels}
use Rattle.formula_syntax.specs.Grammar.{IsExpr}
use Rattle.formula_syntax.specs.Reading.{read_expr}
use Rattle.formula_syntax.proofs.Families.{more_expr, expr-family, expr-steady}
use Rattle.formula_syntax.proofs.Stood.{stood, stopped, deepened}
use Rattle.formula_syntax.proofs.entry.expr.Goals as goal

pub returns-clause-ok : goal.returns-clause-ok
returns-clause-ok c = stood IsExpr read_expr more_expr expr-family expr-steady most_levels c.args.names.now c.read.new.names c.args.tokens.now c.args.place c.read.result c.read.ensures.ok

pub returns-clause-syntax : goal.returns-clause-syntax
returns-clause-syntax c = stopped IsExpr read_expr more_expr expr-family expr-steady most_levels c.args.names.now c.args.tokens.now c.args.place c.read.result c.read.ensures.syntax

pub returns-clause-too_deep : goal.returns-clause-too_deep
returns-clause-too_deep c = deepened IsExpr read_expr more_expr expr-family expr-steady most_levels c.args.names.now c.args.tokens.now c.args.place c.read.result c.read.ensures.too_deep
