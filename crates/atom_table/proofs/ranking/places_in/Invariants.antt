use Rattle.std.proofs.Common.{◌≡◌, ◌<◌, ℕ, length, slice_index_or}
use Rattle.atom_table.specs.Ranks.{IsRanked}
use Rattle.atom_table.proofs.ranking.places_in.Given as goal

abbrev pub invariant-loop-place : goal.invariant-loop-place
invariant-loop-place l = (length l.ranks.items ≡ length l.order) × ((before : ℕ) → before < l.place → IsRanked l.order l.ranks.items l.place (slice_index_or l.order before 0))
