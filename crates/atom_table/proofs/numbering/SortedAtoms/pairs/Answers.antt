use Rattle.std.proofs.Common.{◌∙◌}
use Rattle.atom_table.proofs.PairNumbers.{pairs_same}
use Rattle.atom_table.proofs.numbering.SortedAtoms.pairs.Goals as goal

pub returns : goal.returns
returns c = c.in_ok-pairs.ensures ∙ pairs_same c.args.self.now.symbols c.args.self.now.atoms c.args.self.now.numbers c.requires
