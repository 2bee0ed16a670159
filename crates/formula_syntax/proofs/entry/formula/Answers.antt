use Rattle.formula_syntax.specs.Given.{most_levels}
use Rattle.formula_syntax.specs.Grammar.{IsFormula}
use Rattle.formula_syntax.specs.Reading.{read_formula}
use Rattle.formula_syntax.proofs.Families.{more_formula, formula-family, formula-steady}
use Rattle.formula_syntax.proofs.Stood.{stood, stopped, deepened}
use Rattle.formula_syntax.proofs.entry.formula.Goals as goal

pub returns-clause-ok : goal.returns-clause-ok
returns-clause-ok c = stood IsFormula read_formula more_formula formula-family formula-steady most_levels c.args.names.now c.read.new.names c.args.tokens.now c.args.place c.read.result c.read.ensures.ok

pub returns-clause-syntax : goal.returns-clause-syntax
returns-clause-syntax c = stopped IsFormula read_formula more_formula formula-family formula-steady most_levels c.args.names.now c.args.tokens.now c.args.place c.read.result c.read.ensures.syntax

pub returns-clause-too_deep : goal.returns-clause-too_deep
returns-clause-too_deep c = deepened IsFormula read_formula more_formula formula-family formula-steady most_levels c.args.names.now c.args.tokens.now c.args.place c.read.result c.read.ensures.too_deep
