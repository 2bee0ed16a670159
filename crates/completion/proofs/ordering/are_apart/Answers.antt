use Rattle.std.proofs.Common.{◌≡◌, ℕ, suc, ◌+◌, false, List, ◌∷◌, get_or, drop, sym, ap, ◌∙◌, drop-cons, arith}
use Rattle.std.proofs.lemmas.List.{drop_all}
use Rattle.tel_base.specs.declared.literals.Lit.{Lit}
use Rattle.normal_program.specs.ModuleClauses.{in_order}
use Rattle.completion.proofs.Orders.{order_none}
use Rattle.completion.proofs.ordering.are_apart.Goals as goal

abbrev none : Lit
none = record { var = 0; positive = false }

pub reading-preserved : goal.reading-preserved
reading-preserved c =
    let xs = c.args.sorted.now in
    let i = c.reading.place in
    let inside = c.reading-test.true in
    let next : suc i ≡ i + 1 = omega arith in
    let first = get_or xs i none in
    let last = c.is_last.ensures.last c.if-not-is_last.false none in
    record {
      within = omega (arith, inside);
      rest = λ done. c.reading.invariant.rest (last ∙ ap (λ (more : List Lit). first ∷ more) done ∙ sym (drop-cons xs i none inside ∙ ap (λ (k : ℕ). first ∷ drop k xs) next));
    }

pub returns : goal.returns
returns c =
    let end = drop_all c.reading.place c.args.sorted.now c.reading-test.false in
    λ same. c.reading.invariant.rest (ap in_order end ∙ order_none ∙ sym end)
