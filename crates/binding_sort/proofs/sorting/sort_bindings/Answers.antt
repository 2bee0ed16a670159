use Rattle.std.proofs.Common.{rules}
use Rattle.std.specs.Ordering.{is_lt}
use Rattle.std.proofs.lemmas.Fn.{always_returns_same}
use Rattle.std.proofs.lemmas.List.Sorted.{ranks_by, IsPermutation-sym}
use Rattle.live_instances.specs.Bindings.{binding_cmp}
use Rattle.live_instances.proofs.BindingOrder.{bindings-total, level_one}
use Rattle.binding_sort.proofs.Counted.{permuted_members, permuted_once}
use Rattle.binding_sort.proofs.Sorted.{sorted_rises}
use Rattle.binding_sort.proofs.sorting.sort_bindings.Goals as goal

pub returns-in-Ok-clause-members : goal.returns-in-Ok-clause-members
returns-in-Ok-clause-members c =
    let old = c.args.bindings.now.items in
    let new = c.sort_by.new.self.items in
    λ binding. (permuted_members new old (IsPermutation-sym old new c.sort_by.ensures.permutation) binding, permuted_members old new c.sort_by.ensures.permutation binding)

pub returns-in-Ok-clause-rise : goal.returns-in-Ok-clause-rise
returns-in-Ok-clause-rise c =
    let symbols = c.args.symbols.now in
    let old = c.args.bindings.now.items in
    let new = c.sort_by.new.self.items in
    let back = permuted_members new old (IsPermutation-sym old new c.sort_by.ensures.permutation) in
    sorted_rises (binding_cmp symbols) new (bindings-total symbols)
    (λ x y in_x in_y level. level_one symbols x y c.len-symbols.ensures.table (c.requires.terms x (back x in_x)) (c.requires.terms y (back y in_y)) level)
    (c.in-Ok.ensures.sorted (λ x y. is_lt (binding_cmp symbols x y)) (ranks_by (bindings-total symbols) (λ x. x)) (always_returns_same _ _ _ (λ a r f' k. search rules)))
    (permuted_once old new c.sort_by.ensures.permutation c.requires.once)
