use Rattle.std.proofs.Common.{◌≡◌, ℕ, suc, ◌+◌, true, get_or, take, subst, refl, arith}
use Rattle.std.specs.Prelude.{nat_le}
use Rattle.std.specs.List.{list_all}
use Rattle.std.proofs.lemmas.Bool.{leb-true, le-leb}
use Rattle.completion.proofs.Fronts.{front_more}
use Rattle.completion.proofs.supports.least.Goals as goal

pub loop-atom-preserved : goal.loop-atom-preserved
loop-atom-preserved c =
    let i = c.loop-atom.atom-index in
    let xs = c.args.atoms.now in
    let one : suc i ≡ i + 1 = omega arith in
    let low = c.min-low.result in
    let least = c.min-low.ensures in
    subst (λ (n : ℕ). list_all (λ (atom : ℕ). nat_le low atom) (take n xs) ≡ true) one
    (front_more (λ (a : ℕ). nat_le c.loop-atom.low a) (λ (a : ℕ). nat_le low a) xs i (get_or xs i 0) 0 (λ y h. le-leb low y (let before = leb-true c.loop-atom.low y h in omega (arith, least, before))) c.loop-atom.invariant c.loop-atom-test.true refl (le-leb low (get_or xs i 0) (omega (arith, least))))
