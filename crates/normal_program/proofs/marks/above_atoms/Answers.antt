use Rattle.std.proofs.Common.{◌≡◌, ℕ, suc, ◌+◌, true, get_or, take, subst, refl, arith}
use Rattle.std.specs.Prelude.{nat_lt}
use Rattle.std.specs.List.{list_all}
use Rattle.normal_program.proofs.Places.{above_more}
use Rattle.normal_program.proofs.marks.above_atoms.Goals as goal

pub loop-atom-preserved : goal.loop-atom-preserved
loop-atom-preserved c =
    let i = c.loop-atom.atom-index in
    let xs = c.args.atoms.now in
    let one : suc i ≡ i + 1 = omega arith in
    let size = c.max-size.ensures in
    subst (λ (n : ℕ). list_all (λ (var : ℕ). nat_lt var c.max-size.result) (take n xs) ≡ true) one
    (above_more (λ (x : ℕ). x) xs i (get_or xs i 0) 0 c.loop-atom.size c.max-size.result c.loop-atom.invariant c.loop-atom-test.true refl (omega (arith, size)) (omega (arith, size)))
