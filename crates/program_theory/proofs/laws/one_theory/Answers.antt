use Rattle.program_theory.proofs.OneTheory.{theories-one}
use Rattle.program_theory.proofs.laws.one_theory.Goals as goal

pub returns : goal.returns
returns c = theories-one
