use Rattle.std.proofs.Common.{rules, ◌≡◌, List, sym, subst, ap, ◌∙◌}
use Rattle.std.proofs.lemmas.List.Sorted.{IsNonDecreasingBy-from_sort_by_key}
use Rattle.std.specs.List.Sorted.{IsPermutation}
use Rattle.tel_base.specs.declared.literals.Lit.{Lit}
use Rattle.search_log.proofs.Sorting.{sorted_order}
use Rattle.search_log.proofs.writer.LineWriter.sort.Goals as goal

pub returns : goal.returns
returns c =
    let taken : c.extend_from_slice.new.self.items ≡ c.args.clause.now = search rules in
    sorted_order c.requires.0 c.args.clause.now _ c.requires.1 (subst (λ (xs : List Lit). IsPermutation xs c.sort_unstable_by_key.new.self.items) taken c.sort_unstable_by_key.ensures.permutation)
    (IsNonDecreasingBy-from_sort_by_key (λ (lit : Lit). lit.var) _ c.sort_unstable_by_key.ensures.sorted (λ a r q k. search rules))
