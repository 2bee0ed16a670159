use Rattle.std.proofs.Common.{◌≡◌, ℕ, suc, ◌+◌, ◌<◌, ◌==◌, false, length, ◌∷◌, get_or, drop, sym, ap, ◌∙◌, arith}
use Rattle.tel_base.specs.declared.literals.Lit.{Lit}
use Rattle.std.proofs.lemmas.Bool.{eqb-true, eqb-false, not-true, not-false}
use Rattle.std.proofs.lemmas.List.{get_or_default}
use Rattle.normal_program.specs.ModuleClauses.{rank, in_order}
use Rattle.completion.proofs.Orders.{last_order, less_order, again_order}
use Rattle.completion.proofs.ordering.is_last.Goals as goal

abbrev none : Lit
none = record { var = 0; positive = false }

pub returns-then-place-sorted-clause-last : goal.returns-then-place-sorted-clause-last
returns-then-place-sorted-clause-last c _ d =
    let xs = c.args.sorted.now in
    let i = c.args.place in
    let next : i + 1 ≡ suc i = omega arith in
    let end = c.if-place-sorted.true in
    last_order xs i c.requires.order c.requires.within (omega (arith, end)) d ∙ ap (λ (k : ℕ). get_or xs i d ∷ in_order (drop k xs)) (sym next)

pub returns-clause-last : goal.returns-clause-last
returns-clause-last c apart d =
    let xs = c.args.sorted.now in
    let i = c.args.place in
    let inside = c.requires.within in
    let other = c.if-place-sorted.false in
    let next : i + 1 ≡ suc i = omega arith in
    let within : suc i < length xs = omega (arith, inside, other) in
    let x = get_or xs i none in
    let y = get_or xs (i + 1) none in
    let there : get_or xs (suc i) y ≡ y = get_or_default xs (suc i) y none within ∙ ap (λ (k : ℕ). get_or xs k none) (sym next) in
    let here : get_or xs i d ≡ x = get_or_default xs i d none inside in
    let differ : (rank (get_or xs i d) ≡ rank y → ⊥) =
    λ e. eqb-false c.rank.result c.rank-2.result (not-true (c.rank.result == c.rank-2.result) apart) (c.rank.ensures ∙ ap rank (sym here) ∙ e ∙ sym c.rank-2.ensures) in
    less_order xs i y c.requires.order within there d differ ∙ ap (λ (k : ℕ). get_or xs i d ∷ in_order (drop k xs)) (sym next)

pub returns-clause-again : goal.returns-clause-again
returns-clause-again c same =
    let xs = c.args.sorted.now in
    let i = c.args.place in
    let inside = c.requires.within in
    let other = c.if-place-sorted.false in
    let next : i + 1 ≡ suc i = omega arith in
    let within : suc i < length xs = omega (arith, inside, other) in
    let y = get_or xs (i + 1) none in
    let there : get_or xs (suc i) y ≡ y = get_or_default xs (suc i) y none within ∙ ap (λ (k : ℕ). get_or xs k none) (sym next) in
    let here : get_or xs i y ≡ get_or xs i none = get_or_default xs i y none inside in
    let equal : rank (get_or xs i y) ≡ rank y = ap rank here ∙ sym c.rank.ensures ∙ eqb-true c.rank.result c.rank-2.result (not-false (c.rank.result == c.rank-2.result) same) ∙ c.rank-2.ensures in
    again_order xs i y within there equal ∙ ap (λ (k : ℕ). in_order (drop k xs)) (sym next)
