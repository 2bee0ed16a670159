use Rattle.std.proofs.Common.{◌≡◌, ℕ, suc, ◌+◌, ◌-◌, true, get_or, take, subst, refl, arith}
use Rattle.std.specs.Prelude.{nat_lt}
use Rattle.std.specs.List.{list_all}
use Rattle.std.proofs.lemmas.Bool.{ltb-true, lt-ltb}
use Rattle.completion.proofs.Fronts.{front_more}
use Rattle.completion.proofs.supports.span.Goals as goal

pub loop-atom-preserved : goal.loop-atom-preserved
loop-atom-preserved c =
    let i = c.loop-atom.atom-index in
    let xs = c.args.atoms.now in
    let low = c.args.low in
    let one : suc i ≡ i + 1 = omega arith in
    let width = c.max-width.result in
    let greatest = c.max-width.ensures in
    subst (λ (n : ℕ). list_all (λ (atom : ℕ). nat_lt (atom - low) width) (take n xs) ≡ true) one
    (front_more (λ (a : ℕ). nat_lt (a - low) c.loop-atom.width) (λ (a : ℕ). nat_lt (a - low) width) xs i (get_or xs i 0) 0 (λ y h. lt-ltb (y - low) width (let before = ltb-true (y - low) c.loop-atom.width h in omega (arith, greatest, before))) c.loop-atom.invariant c.loop-atom-test.true refl (lt-ltb (get_or xs i 0 - low) width (omega (arith, greatest))))
