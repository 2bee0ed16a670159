use Rattle.atom_space.proofs.OneToOne.{names_apart, numbers_below}
use Rattle.atom_space.proofs.laws.numbering.Goals as goal

pub returns-clause-apart : goal.returns-clause-apart
returns-clause-apart c = names_apart

pub returns-clause-below : goal.returns-clause-below
returns-clause-below c = numbers_below
