use Rattle.std.proofs.Common.{◌≡◌, ◌∙◌, map, subst, List, ℕ}
use Rattle.atom_table.specs.Keys.{ground_by, is_held, is_ranged, key_rank_cmp}
use Rattle.atom_table.proofs.Arranged.{ranged_stay, moved_all, moved_members, arranged}
use Rattle.std.specs.List.Sorted.{IsSorted}
use Rattle.atom_table.proofs.Risen.{ranked_rises}
use Rattle.atom_table.proofs.sorting.arrange_keys.Goals as goal

pub returns-in_err-sort_keys-clause-held : goal.returns-in_err-sort_keys-clause-held
returns-in_err-sort_keys-clause-held c = moved_all (is_held c.args.names.now) c.args.keys.now.keys c.sort_keys.new.keys.keys c.sort_keys.ensures.moved c.requires.held

pub returns-in_err-atoms-clause-held : goal.returns-in_err-atoms-clause-held
returns-in_err-atoms-clause-held c = moved_all (is_held c.args.names.now) c.args.keys.now.keys c.sort_keys.new.keys.keys c.sort_keys.ensures.moved c.requires.held

pub returns-clause-held : goal.returns-clause-held
returns-clause-held c = moved_all (is_held c.args.names.now) c.args.keys.now.keys c.sort_keys.new.keys.keys c.sort_keys.ensures.moved c.requires.held

pub returns-clause-members : goal.returns-clause-members
returns-clause-members c = moved_members c.args.names.now c.args.keys.now.keys c.sort_keys.new.keys.keys c.sort_keys.ensures.moved

pub returns-clause-sorted : goal.returns-clause-sorted
returns-clause-sorted c =
    let names = c.args.names.now in
    let old = c.args.keys.now.keys in
    let new = c.sort_keys.new.keys.keys in
    let symbols = c.name_symbols.new.symbols in
    let numbers = c.in_ok-numbers.numbers.items in
    let ranks = c.in_ok-ranks.ranks.items in
    let moved = c.sort_keys.ensures.moved in
    let keys_are : c.as_slice-3.result.now ≡ new = c.as_slice-3.ensures.keys in
    let numbers_are : c.as_slice-4.result.now ≡ numbers = c.as_slice-4.ensures.value in
    let held = moved_all (is_held names) old new moved c.requires.held in
    let ranged = ranged_stay c.args.symbols.now symbols new c.in_ok-numbers.ensures.grows (moved_all (is_ranged c.args.symbols.now) old new moved c.requires.ranged) in
    let by_ranks : IsSorted (key_rank_cmp ranks numbers) new =
    subst (λ (ns : List ℕ). IsSorted (key_rank_cmp ranks ns) new) c.as_slice-2.ensures.value (subst (λ (rs : List ℕ). IsSorted (key_rank_cmp rs c.as_slice-2.result.now) new) c.as_slice.ensures.value c.in_ok-sort_keys.ensures.sorted)
    in
    arranged symbols names numbers c.in_ok-numbers.ensures.numbers new c.in_ok-atoms.atoms c.len-count.ensures.table held ranged
    (ranked_rises symbols names numbers ranks new c.len-count.ensures.table c.requires.distinct c.in_ok-numbers.ensures.numbers c.in_ok-ranks.ensures held ranged by_ranks c.sort_keys.ensures.distinct)
    (c.in_ok-atoms.ensures ∙ (λ i. map (ground_by (numbers_are i)) (keys_are i)))
