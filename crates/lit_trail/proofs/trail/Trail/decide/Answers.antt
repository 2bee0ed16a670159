use Rattle.std.proofs.Common.{◌∙◌, ◌+◌, ◌<◌, ℕ, List, [], ◌∷◌, sym, ap, subst, reverse, length, arith}
use Rattle.std.specs.Prelude.{Option, Some, None, vec_capacity}
use Rattle.std.proofs.lemmas.List.{length-append, length-reverse}
use Rattle.tel_base.specs.declared.literals.Lit.{Lit}
use Rattle.lit_trail.specs.Entries.{View, view_of, spot_in}
use Rattle.lit_trail.specs.Levels.{AreLevels, IsTrail}
use Rattle.lit_trail.proofs.LevelSteps.{decide_trail, decide_room, reverse_push}
use Rattle.lit_trail.proofs.SoundSteps.{sound_decide}
use Rattle.lit_trail.proofs.trail.Trail.decide.Goals as goal

pub overflow_add-level : goal.overflow_add-level
overflow_add-level c =
    let decisions = c.self.inside.decisions in
    let at = c.level-level.ensures ∙ sym (ap (λ (v : View). v.level) c.self.view_is) ∙ sym (length-reverse decisions.items) in
    let room = decide_room c.self.inside.assignment (reverse decisions.items) (vec_capacity decisions) c.self.invariant c.leaves_room.ensures in
    omega (arith, at, room.1)

pub unreachable-requires : goal.unreachable-requires
unreachable-requires c =
    let decisions = c.self.inside.decisions in
    let n = length-reverse decisions.items in
    let room = decide_room c.self.inside.assignment (reverse decisions.items) (vec_capacity decisions) c.self.invariant c.leaves_room.ensures in
    let full = c.in-Err.ensures.full in
    let ok = decisions.ok in
    absurd (omega (arith, n, room.0, full, ok))

pub invariant_of-self : goal.invariant_of-self
invariant_of-self c =
    let decisions = c.self.inside.decisions in
    let at = c.level-level.ensures ∙ sym (ap (λ (v : View). v.level) c.self.view_is) ∙ sym (length-reverse decisions.items) in
    let entry = λ (level : ℕ). record { lit = c.args.lit; level = level; reason = None } ∷ c.self.inside.assignment.entries in
    let pushed = ap reverse c.in-Ok.ensures.items ∙ reverse_push decisions.items (Some c.args.lit) in
    let wider = c.push.ensures.capacity in
    subst (λ (ds : List (Option Lit)). IsTrail c.put.new.self ds (vec_capacity c.push.new.self)) (sym pushed) (decide_trail c.self.inside.assignment c.put.new.self (reverse decisions.items) (vec_capacity decisions) (vec_capacity c.push.new.self) c.args.lit c.self.invariant (c.put.ensures.entries ∙ ap (λ (l : ℕ). entry (l + 1)) at) c.put.ensures.vars c.put.ensures.room wider (ap (λ (v : View). spot_in v.entries c.args.lit.var) c.self.view_is ∙ c.requires.free) (subst (λ (v : View). c.args.lit.var < v.vars) (sym c.self.view_is) c.requires.within))

pub returns-clause-keeps : goal.returns-clause-keeps
returns-clause-keeps c =
    let decisions = c.self.inside.decisions in
    let level = ap (λ (v : View). v.level) c.self.view_is in
    let at = c.level-level.ensures in
    let levels = subst (λ (v : View). AreLevels v.level v.entries) c.self.view_is (subst (λ (n : ℕ). AreLevels n c.self.inside.assignment.entries) (length-reverse decisions.items) c.self.invariant.levels) in
    sound_decide c.args.self.now (view_of c.put.new.self (length c.push.new.self.items)) c.args.lit levels (c.put.ensures.entries ∙ (λ i. record { lit = c.args.lit; level = at i + 1; reason = None } ∷ (c.self.view_is i).entries)) (ap length c.in-Ok.ensures.items ∙ length-append decisions.items (Some c.args.lit ∷ []) ∙ ap (λ (n : ℕ). n + 1) level)
