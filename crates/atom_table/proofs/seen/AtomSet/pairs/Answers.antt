use Rattle.std.proofs.Common.{◌∙◌, ap}
use Rattle.atom_table.specs.Named.{named_pairs}
use Rattle.atom_table.proofs.PairNumbers.{same_pairs}
use Rattle.atom_table.proofs.seen.AtomSet.pairs.Goals as goal

pub returns : goal.returns
returns c =
    c.in_ok-pairs.ensures ∙ same_pairs c.self.inside.names.keys c.self.inside.keys.keys c.self.invariant.distinct c.self.invariant.held ∙ ap named_pairs c.self.view_is
