use Rattle.std.proofs.Common.{rules, arith}
use Rattle.std.proofs.lemmas.Grind.{common_steps}
use Rattle.formula_syntax.proofs.Onwards.{onward_is}
use Rattle.formula_syntax.proofs.reading.Reading.skip.Goals as goal

pub returns-in-len1-up-clause-onward : goal.returns-in-len1-up-clause-onward
returns-in-len1-up-clause-onward c = onward_is _ _ (first_of (search rules, grind (arith, common_steps)))
