use Rattle.std.proofs.Common.{◌↔◌, ◌<◌, ℕ, List, sym, subst}
use Rattle.std.proofs.lemmas.List.Sorted.{IsPermutation-sym}
use Rattle.tel_base.specs.Members.{In}
use Rattle.plan_order.proofs.Ordered.{moved_in}
use Rattle.plan_order.proofs.ordering.ranked.Goals as goal

pub returns : goal.returns
returns c =
    let old = c.in_ok-numbers.numbers.items in
    let new = c.sort_unstable_by_key.new.self.items in
    let moved = c.sort_unstable_by_key.ensures.permutation in
    subst (λ (l : List ℕ). (n : ℕ) → In n l ↔ (n < c.args.count)) (sym c.from_vec.ensures)
    (λ n. ((λ there. (c.in_ok-numbers.ensures n).0 (moved_in new old n (IsPermutation-sym old new moved) there)), (λ less. moved_in old new n moved ((c.in_ok-numbers.ensures n).1 less))))
