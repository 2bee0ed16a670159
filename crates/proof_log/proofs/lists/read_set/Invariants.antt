use Rattle.std.proofs.Common.{false, map, length, ◌-◌}
use Rattle.tel_base.specs.Literals.{lit_of}
use Rattle.proof_log.proofs.Listings.{IsListing}
use Rattle.proof_log.proofs.lists.read_set.Given as goal

abbrev pub invariant-entries : goal.invariant-entries
invariant-entries l = IsListing false 32 l.bytes l.at l.place l.low (map lit_of l.set)

abbrev pub decreases-entries : goal.decreases-entries
decreases-entries l = length l.bytes - l.place
