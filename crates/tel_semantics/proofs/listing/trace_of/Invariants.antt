use Rattle.std.proofs.Common.{◌≡◌, take}
use Rattle.tel_semantics.proofs.listing.trace_of.Given as goal

abbrev pub invariant-loop-state : goal.invariant-loop-state
invariant-loop-state l = l.copies ≡ take l.state-index l.states
