use Rattle.std.proofs.Common.{length}
use Rattle.tel_semantics.proofs.candidates.+subsets_of.Given as goal

abbrev pub decreases-subsets_of : goal.decreases-subsets_of
decreases-subsets_of l = length l.atoms.now
