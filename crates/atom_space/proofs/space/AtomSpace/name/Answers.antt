use Rattle.std.proofs.Common.{◌/◌, ◌%◌, ◌≤◌, ◌∙◌, ℕ, ap, subst}
use Rattle.atom_space.specs.Numbers.{Space}
use Rattle.atom_space.specs.Naming.{name_at}
use Rattle.atom_space.proofs.OneToOne.{inverse}
use Rattle.atom_space.proofs.space.AtomSpace.name.Goals as goal

pub returns-then-t-self-clause-inverse : goal.returns-then-t-self-clause-inverse
returns-then-t-self-clause-inverse c =
    let w = c.width-width.ensures.is in
    inverse c.args.self.now c.args.var c.name_at.result
    (c.name_at.ensures ∙ ap (λ (x : ℕ). name_at c.args.self.now.counts (c.args.var % x) (c.args.var / x)) w)
    (subst (λ (x : ℕ). c.args.var / x ≤ c.args.self.now.greatest) w (subst (λ (g : ℕ). c.args.var / c.width-width.result ≤ g) (ap (λ (space : Space). space.greatest) c.self.view_is) c.if-t-self.true))
