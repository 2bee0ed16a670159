use Rattle.std.proofs.Common.{◌≡◌, ℕ, suc, ◌+◌, false, get_or, drop, sym, ap, ◌∙◌, arith}
use Rattle.tel_base.specs.declared.literals.Lit.{Lit}
use Rattle.std.proofs.lemmas.Bool.{ne_eqb}
use Rattle.normal_program.specs.ModuleClauses.{has_both}
use Rattle.completion.proofs.Orders.{both_here, both_next, both_end}
use Rattle.completion.proofs.ordering.has_both.Goals as goal

abbrev none : Lit
none = record { var = 0; positive = false }

pub returns-then-rising-place : goal.returns-then-rising-place
returns-then-rising-place c =
    let xs = c.args.rising.now in
    let i = c.reading.place in
    let next : i + 1 ≡ suc i = omega arith in
    let within = c.reading-test.true in
    sym (both_here xs i none (omega (arith, within)) (c.if-rising-place.true ∙ ap (λ (k : ℕ). (get_or xs k none).var) next)) ∙ c.reading.invariant.rest

pub reading-preserved : goal.reading-preserved
reading-preserved c =
    let xs = c.args.rising.now in
    let i = c.reading.place in
    let next : i + 1 ≡ suc i = omega arith in
    let within = c.reading-test.true in
    let apart = λ (e : (get_or xs i none).var ≡ (get_or xs (suc i) none).var). c.if-rising-place.false (e ∙ ap (λ (k : ℕ). (get_or xs k none).var) (sym next)) in
    record {
      within = omega (arith, within);
      rest = ap (λ (k : ℕ). has_both (drop k xs)) next ∙ sym (both_next xs i none (omega (arith, within)) (ne_eqb (get_or xs i none).var (get_or xs (suc i) none).var apart)) ∙ c.reading.invariant.rest;
    }

pub returns : goal.returns
returns c =
    let end = c.reading-test.false in
    sym (both_end c.args.rising.now c.reading.place (omega (arith, end))) ∙ c.reading.invariant.rest
