use Rattle.std.proofs.Common.{◌≡◌, sym, ap, subst, ◌∙◌, ℕ, true, ◌&&◌, List}
use Rattle.std.specs.Prelude.{nat_lt}
use Rattle.std.specs.List.{list_all}
use Rattle.tel_rule.specs.Ground.{Ground, IsGround}
use Rattle.atom_space.specs.Numbers.{Counts}
use Rattle.step_module.proofs.StepLoops.{pairs_right}
use Rattle.step_module.proofs.steps.without_open.Goals as goal

pub pairs_of-requires-clause-in_range : goal.pairs_of-requires-clause-in_range
pairs_of-requires-clause-in_range c =
    let program = c.args.template.now in
    let ground = subst (λ (p : Ground). IsGround p) c.template.view_is c.template.invariant in
    let pairs = c.as_slice.ensures ∙ ap (λ (p : Ground). p.pairs) c.template.view_is in
    let right = pairs_right program ground in
    subst (λ (list : List (ℕ × ℕ)). list_all (λ (pair : ℕ × ℕ). nat_lt pair.0 c.args.space.now.counts.atoms && nat_lt pair.1 c.args.space.now.counts.atoms) list ≡ true) (sym pairs)
    (subst (λ (k : Counts). list_all (λ (pair : ℕ × ℕ). nat_lt pair.0 k.atoms && nat_lt pair.1 k.atoms) program.pairs ≡ true) (sym c.requires.counts) right)
