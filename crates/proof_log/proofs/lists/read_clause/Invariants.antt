use Rattle.std.proofs.Common.{true, length, ◌-◌}
use Rattle.proof_log.proofs.Listings.{IsListing}
use Rattle.proof_log.proofs.lists.read_clause.Given as goal

abbrev pub invariant-entries : goal.invariant-entries
invariant-entries l = IsListing true 10 l.bytes l.at l.place l.low l.lits.items

abbrev pub decreases-entries : goal.decreases-entries
decreases-entries l = length l.bytes - l.place
