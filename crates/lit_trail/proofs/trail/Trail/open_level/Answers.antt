use Rattle.std.proofs.Common.{◌∙◌, ◌+◌, List, [], ◌∷◌, sym, ap, subst, reverse, length, ℕ}
use Rattle.std.specs.Prelude.{Option, None, vec_capacity}
use Rattle.tel_base.specs.declared.literals.Lit.{Lit}
use Rattle.lit_trail.specs.Entries.{View, view_of}
use Rattle.lit_trail.specs.Levels.{IsTrail}
use Rattle.lit_trail.proofs.LevelSteps.{open_trail, reverse_push, no_decisions}
use Rattle.std.proofs.lemmas.List.{length-append, length-reverse}
use Rattle.lit_trail.specs.Levels.{AreLevels}
use Rattle.lit_trail.proofs.SoundSteps.{sound_open}
use Rattle.lit_trail.proofs.trail.Trail.open_level.Goals as goal

pub invariant_of-self : goal.invariant_of-self
invariant_of-self c =
    let decisions = c.self.inside.decisions in
    let none = no_decisions decisions.items (ap (λ (v : View). v.level) c.self.view_is ∙ c.requires.level) in
    let pushed = ap reverse c.in-Ok.ensures.items ∙ reverse_push decisions.items None ∙ ap (λ (ds : List (Option Lit)). None ∷ ds) none in
    let trail = subst (λ (ds : List (Option Lit)). IsTrail c.self.inside.assignment ds (vec_capacity decisions)) none c.self.invariant in
    subst (λ (ds : List (Option Lit)). IsTrail c.self.inside.assignment ds (vec_capacity c.push.new.self)) (sym pushed) (open_trail c.self.inside.assignment (vec_capacity decisions) (vec_capacity c.push.new.self) trail c.push.ensures.capacity)

pub returns-clause-keeps : goal.returns-clause-keeps
returns-clause-keeps c =
    let decisions = c.self.inside.decisions in
    let levels = subst (λ (v : View). AreLevels v.level v.entries) c.self.view_is (subst (λ (n : ℕ). AreLevels n c.self.inside.assignment.entries) (length-reverse decisions.items) c.self.invariant.levels) in
    sound_open c.args.self.now (view_of c.self.inside.assignment (length c.push.new.self.items)) levels (ap (λ (v : View). v.entries) c.self.view_is) (ap length c.in-Ok.ensures.items ∙ length-append decisions.items (None ∷ []) ∙ ap (λ (v : View). v.level + 1) c.self.view_is)
