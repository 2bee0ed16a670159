use Rattle.std.proofs.Common.{◌≡◌, ◌∙◌, ◌+◌, ◌-◌, ◌<◌, ℕ, List, sym, ap, subst, reverse, length, get_or, arith}
use Rattle.std.specs.Prelude.{Option, None}
use Rattle.std.proofs.lemmas.List.{length-reverse, get_or-reverse}
use Rattle.tel_base.specs.declared.literals.Lit.{Lit}
use Rattle.lit_trail.specs.Entries.{View, decision_in}
use Rattle.lit_trail.proofs.LevelSteps.{none_at_first, decided_at, decision_above}
use Rattle.lit_trail.proofs.trail.Trail.decision.Goals as goal

pub returns-then-level-eq0 : goal.returns-then-level-eq0
returns-then-level-eq0 c =
    let decisions = c.self.inside.decisions.items in
    sym (ap (λ (v : View). decision_in v.entries c.args.level) (sym c.self.view_is) ∙ ap (decision_in c.self.inside.assignment.entries) (omega (arith, c.if-level-eq0.true)) ∙ none_at_first c.self.inside.assignment.entries (reverse decisions) c.self.invariant.decided)

pub returns-in-Some : goal.returns-in-Some
returns-in-Some c =
    let xs = c.self.inside.decisions.items in
    let entries = c.self.inside.assignment.entries in
    let slice = c.as_slice-decisions.ensures.value in
    let k = c.args.level - 1 in
    let n = length-reverse xs in
    let above = c.if-level-eq0.false in
    let inside : k < length xs = subst (λ (ys : List (Option Lit)). k < length ys) slice c.in-Some.ensures.lookup.3.0 in
    let j = length (reverse xs) - 1 - k in
    let here = get_or-reverse xs j None (omega (arith, n, inside)) in
    let place : length xs - 1 - j ≡ k = omega (arith, n, inside) in
    let next : k + 1 ≡ c.args.level = omega (arith, above) in
    let found = decided_at entries (reverse xs) k c.self.invariant.decided (omega (arith, n, inside)) in
    c.in-Some.ensures.lookup.3.1 None ∙ ap (λ (ys : List (Option Lit)). get_or ys k None) slice ∙ ap (λ (i : ℕ). get_or xs i None) (sym place) ∙ sym here ∙ found ∙ ap (decision_in entries) next ∙ ap (λ (v : View). decision_in v.entries c.args.level) c.self.view_is

pub returns-in-None : goal.returns-in-None
returns-in-None c =
    let xs = c.self.inside.decisions.items in
    let entries = c.self.inside.assignment.entries in
    let slice = ap length c.as_slice-decisions.ensures.value in
    let n = length-reverse xs in
    let above = c.if-level-eq0.false in
    let past = c.in-None.ensures.lookup.3 in
    sym (ap (λ (v : View). decision_in v.entries c.args.level) (sym c.self.view_is) ∙ decision_above entries (length (reverse xs)) c.args.level c.self.invariant.levels (omega (arith, slice, n, above, past)))
