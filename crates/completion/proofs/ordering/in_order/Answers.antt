use Rattle.std.proofs.Common.{rules, ◌≡◌, List, sym, ap, ◌∙◌, subst}
use Rattle.std.proofs.lemmas.Result.{IfOk-weaker}
use Rattle.std.proofs.lemmas.List.Sorted.{IsNonDecreasingBy-from_sort_by_key}
use Rattle.std.specs.List.Sorted.{IsNonDecreasingBy}
use Rattle.tel_base.specs.declared.literals.Lit.{Lit}
use Rattle.normal_program.specs.ModuleClauses.{rank, in_order}
use Rattle.completion.proofs.Orders.{permuted_order}
use Rattle.completion.proofs.ordering.in_order.Goals as goal

pub are_apart-requires : goal.are_apart-requires
are_apart-requires c =
    subst (λ (xs : List Lit). IsNonDecreasingBy rank xs) (sym c.as_slice.ensures.value)
    (IsNonDecreasingBy-from_sort_by_key rank _ c.sort_unstable_by_key.ensures.sorted (λ a r q k. search rules))

pub once-requires : goal.once-requires
once-requires c =
    subst (λ (xs : List Lit). IsNonDecreasingBy rank xs) (sym c.as_slice-2.ensures.value)
    (IsNonDecreasingBy-from_sort_by_key rank _ c.sort_unstable_by_key.ensures.sorted (λ a r q k. search rules))

pub returns-then-are_apart : goal.returns-then-are_apart
returns-then-are_apart c =
    let value = c.as_slice.ensures.value in
    sym value ∙ sym (c.are_apart.ensures c.if-are_apart.true) ∙ ap in_order value ∙ sym (permuted_order c.args.lits.items _ c.sort_unstable_by_key.ensures.permutation)

pub returns : goal.returns
returns c =
    IfOk-weaker c.once.result _ (λ order. order.items ≡ in_order c.args.lits.items)
    (λ order same. same ∙ ap in_order c.as_slice-2.ensures.value ∙ sym (permuted_order c.args.lits.items _ c.sort_unstable_by_key.ensures.permutation))
    c.once.ensures
