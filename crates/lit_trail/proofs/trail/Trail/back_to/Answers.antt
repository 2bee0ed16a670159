use Rattle.std.proofs.Common.{◌≤◌, ℕ, List, reverse, take, length, sym, ap, subst, ◌∙◌, arith}
use Rattle.std.specs.Prelude.{Option, vec_capacity}
use Rattle.std.proofs.lemmas.List.{length-reverse, length-take-le}
use Rattle.tel_base.specs.declared.literals.Lit.{Lit}
use Rattle.lit_trail.specs.Entries.{View, view_of, back}
use Rattle.lit_trail.specs.Levels.{IsTrail}
use Rattle.lit_trail.proofs.LevelSteps.{back_top, back_trail, reverse_take}
use Rattle.lit_trail.proofs.SoundSteps.{sound_back}
use Rattle.lit_trail.proofs.trail.Trail.back_to.Goals as goal

pub invariant_of-self : goal.invariant_of-self
invariant_of-self c =
    let old = c.self.inside.assignment in
    let decisions = c.self.inside.decisions.items in
    let level = c.args.level in
    let low = c.top.ensures in
    let test = c.popping-test.false in
    let n = length-reverse decisions in
    let opened = ap (λ (v : View). v.level) c.self.view_is in
    let fits = c.requires in
    let below : level ≤ length (reverse decisions) = omega (arith, n, opened, fits) in
    let is = sym (back_top c.popping.self-inside.assignment.entries level (omega (arith, low, test))) ∙ c.popping.invariant.0 in
    let cut = ap reverse (c.truncate.ensures.items ∙ ap (λ v. take level v.items) c.popping.invariant.2) ∙ reverse_take decisions level in
    let room = c.truncate.ensures.capacity ∙ ap vec_capacity c.popping.invariant.2 in
    let trail = back_trail old c.popping.self-inside.assignment (reverse decisions) (vec_capacity c.self.inside.decisions) level c.self.invariant is c.popping.invariant.1 below in
    subst (λ (n : ℕ). IsTrail c.popping.self-inside.assignment (reverse c.truncate.new.self.items) n) (sym room) (subst (λ (ds : List (Option Lit)). IsTrail c.popping.self-inside.assignment ds (vec_capacity c.self.inside.decisions)) (sym cut) trail)

pub returns-clause-keeps : goal.returns-clause-keeps
returns-clause-keeps c =
    let low = c.top.ensures in
    let test = c.popping-test.false in
    let is = sym (back_top c.popping.self-inside.assignment.entries c.args.level (omega (arith, low, test))) ∙ c.popping.invariant.0 ∙ ap (λ (v : View). back c.args.level v.entries) c.self.view_is in
    sound_back c.args.self.now (view_of c.popping.self-inside.assignment (length c.truncate.new.self.items)) c.args.level c.requires is (
    let cut = ap length (c.truncate.ensures.items ∙ ap (λ v. take c.args.level v.items) c.popping.invariant.2) in
    let n = length-take-le c.args.level c.self.inside.decisions.items (subst (λ (v : View). c.args.level ≤ v.level) (sym c.self.view_is) c.requires) in
    cut ∙ n)
