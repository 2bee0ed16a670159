use Rattle.std.proofs.Common.{rules, arith}
use Rattle.std.proofs.lemmas.Grind.{common_steps}
use Rattle.formula_syntax.proofs.Seen.{onward_term}
use Rattle.formula_syntax.proofs.reading.Reading.term.Goals as goal

pub returns-clause-onward : goal.returns-clause-onward
returns-clause-onward c = onward_term _ _ c.args.term c.requires (first_of (search rules, grind (arith, common_steps))) (first_of (search rules, grind (arith, common_steps))) (first_of (search rules, grind (arith, common_steps)))
