use Rattle.std.proofs.Common.{rules}
use Rattle.std.specs.Ordering.{is_lt}
use Rattle.std.proofs.lemmas.Fn.{always_returns_same}
use Rattle.std.proofs.lemmas.List.Sorted.{ranks_by}
use Rattle.atom_table.specs.Keys.{key_rank_cmp}
use Rattle.atom_table.proofs.Ranked.{key_rank_total}
use Rattle.atom_table.proofs.sorting.sort_keys.Goals as goal

pub returns-in-Ok-clause-sorted : goal.returns-in-Ok-clause-sorted
returns-in-Ok-clause-sorted c =
    let ranks = c.args.ranks.now in
    let numbers = c.args.numbers.now in
    c.in-Ok.ensures.sorted (λ x y. is_lt (key_rank_cmp ranks numbers x y)) (ranks_by (key_rank_total ranks numbers) (λ x. x)) (always_returns_same _ _ _ (λ a r f' k. search rules))
