use Rattle.std.proofs.Common.{rules, arith}
use Rattle.std.proofs.lemmas.Grind.{common_steps}
use Rattle.formula_syntax.proofs.Seen.{onward_var}
use Rattle.formula_syntax.proofs.reading.Reading.var.Goals as goal

pub returns-clause-onward : goal.returns-clause-onward
returns-clause-onward c = onward_var _ _ c.args.name.now c.requires (first_of (search rules, grind (arith, common_steps))) (first_of (search rules, grind (arith, common_steps))) (first_of (search rules, grind (arith, common_steps)))
