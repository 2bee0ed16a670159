use Rattle.std.proofs.Common.{◌<◌, ℕ, subst, arith, sym}
use Rattle.atom_space.proofs.space.AtomSpace.at.Goals as goal
use Rattle.atom_space.proofs.OneToOne.{in_space}

pub overflow_mul-result : goal.overflow_mul-result
overflow_mul-result c =
    let w = c.width.result in
    let small = in_space c.args.t c.args.self.now.greatest w c.args.place c.requires.state (subst (λ (x : ℕ). c.args.place < x) (sym c.width.ensures.is) c.requires.place) c.width.ensures.small in
    omega (arith, small)

pub overflow_add-result : goal.overflow_add-result
overflow_add-result c =
    let w = c.width.result in
    let small = in_space c.args.t c.args.self.now.greatest w c.args.place c.requires.state (subst (λ (x : ℕ). c.args.place < x) (sym c.width.ensures.is) c.requires.place) c.width.ensures.small in
    omega (arith, small)
