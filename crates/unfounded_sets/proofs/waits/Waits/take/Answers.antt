use Rattle.std.proofs.Common.{◌≡◌, ◌<◌, ◌∙◌, ℕ, List, get_or, refl, sym, ap, arith}
use Rattle.unfounded_sets.specs.Waiting.{Waiting, row}
use Rattle.unfounded_sets.proofs.Chains.{take_linked, take_rows, none_rows, row_range}
use Rattle.unfounded_sets.proofs.waits.Waits.take.Goals as goal

pub returns-then-number-eq0-clause-rows : goal.returns-then-number-eq0-clause-rows
returns-then-number-eq0-clause-rows c =
    let first = c.self.inside.first.items in
    let is : c.number_at-number.result ≡ get_or first c.args.var 0 = c.number_at-number.ensures ∙ ap (λ (list : List ℕ). get_or list c.args.var 0) c.deref.ensures.value in
    (ap (λ (w : Waiting). row w c.args.var) (sym c.self.view_is) ∙ none_rows first c.self.inside.links.items c.args.var c.number_at-number.result is c.if-number-eq0.true, λ v. refl)

pub invariant_of-self : goal.invariant_of-self
invariant_of-self c =
    let first = c.self.inside.first.items in
    let is : c.number_at-number.result ≡ get_or first c.args.var 0 = c.number_at-number.ensures ∙ ap (λ (list : List ℕ). get_or list c.args.var 0) c.deref.ensures.value in
    let some = c.if-number-eq0.false in
    take_linked first c.self.inside.links.items c.args.var c.number_at-number.result c.index-link.result.now c.index-link.result.now c.self.invariant is (omega (arith, some)) c.index-link.ensures

pub returns-clause-rows : goal.returns-clause-rows
returns-clause-rows c v =
    let first = c.self.inside.first.items in
    let is : c.number_at-number.result ≡ get_or first c.args.var 0 = c.number_at-number.ensures ∙ ap (λ (list : List ℕ). get_or list c.args.var 0) c.deref.ensures.value in
    let some = c.if-number-eq0.false in
    let positive : 0 < c.number_at-number.result = omega (arith, some) in
    ap (λ (w : Waiting). row w v) (sym c.self.view_is) ∙ take_rows first c.self.inside.links.items c.args.var c.number_at-number.result c.index-link.result.now c.index-link.result.now c.self.invariant (row_range first c.args.var c.number_at-number.result is positive) is positive c.index-link.ensures v
