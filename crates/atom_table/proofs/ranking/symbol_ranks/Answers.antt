use Rattle.std.proofs.Common.{◌<◌, ℕ, List, length, slice_index_or, subst}
use Rattle.atom_table.specs.Ranks.{IsRanked}
use Rattle.atom_table.proofs.Ranked.{are_ranks}
use Rattle.atom_table.proofs.ranking.symbol_ranks.Goals as goal

pub returns : goal.returns
returns c =
    let order = c.in_ok-order.order.items in
    let ranks = c.in_ok-ranks.ranks.items in
    are_ranks c.args.symbols.now order ranks c.len-count.ensures.table c.in_ok-order.ensures.sorted c.in_ok-order.ensures.all
    (subst (λ (list : List ℕ). (place : ℕ) → place < length list → IsRanked list ranks (length list) (slice_index_or list place 0)) c.as_slice.ensures.value c.in_ok-ranks.ensures)
