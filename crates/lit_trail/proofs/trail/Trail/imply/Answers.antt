use Rattle.std.proofs.Common.{◌∙◌, ◌<◌, ◌∷◌, refl, sym, ap, subst, reverse, length}
use Rattle.std.specs.Prelude.{Some, vec_capacity}
use Rattle.std.proofs.lemmas.List.{length-reverse}
use Rattle.lit_trail.specs.Entries.{View, view_of, spot_in}
use Rattle.lit_trail.proofs.LevelSteps.{imply_trail}
use Rattle.lit_trail.proofs.SoundSteps.{sound_imply}
use Rattle.lit_trail.proofs.trail.Trail.imply.Goals as goal

pub invariant_of-self : goal.invariant_of-self
invariant_of-self c =
    let decisions = c.self.inside.decisions in
    let at = c.level-level.ensures ∙ sym (ap (λ (v : View). v.level) c.self.view_is) ∙ sym (length-reverse decisions.items) in
    imply_trail c.self.inside.assignment c.put.new.self (reverse decisions.items) (vec_capacity decisions) (record { lit = c.args.lit; level = c.level-level.result; reason = Some c.args.reason }) c.self.invariant c.put.ensures.entries c.put.ensures.vars c.put.ensures.room at refl (ap (λ (v : View). spot_in v.entries c.args.lit.var) c.self.view_is ∙ c.requires.free) (subst (λ (v : View). c.args.lit.var < v.vars) (sym c.self.view_is) c.requires.within)

pub returns-clause-keeps : goal.returns-clause-keeps
returns-clause-keeps c =
    let level = ap (λ (v : View). v.level) c.self.view_is in
    sound_imply c.args.self.now (view_of c.put.new.self (length c.self.inside.decisions.items)) c.args.lit c.args.reason (c.put.ensures.entries ∙ (λ i. record { lit = c.args.lit; level = c.level-level.ensures i; reason = Some c.args.reason } ∷ (c.self.view_is i).entries)) level
