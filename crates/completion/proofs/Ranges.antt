-- What is in a list of numbers one after another.
use Rattle.std.proofs.Common.{◌≡◌, ℕ, zero, suc, ◌+◌, ◌<◌, ◌≤◌, true, false, inl, inr, ⊎_elim, arith}
use Rattle.std.specs.Prelude.{nat_lt}
use Rattle.std.specs.List.{range_with_len}
use Rattle.std.proofs.lemmas.Bool.{cases_Bool, ltb-true, ltb-false}
use Rattle.tel_base.proofs.Members.{In}

pub range_cases : (count low x : ℕ) → In x (range_with_len low count) → (low ≤ x) × (x < low + count)
range_cases zero low x h = absurd h
range_cases (suc count) low x h =
    ⊎_elim (λ e. (omega (arith, e), omega (arith, e))) (λ m. let w = range_cases count (low + 1) x m in (omega (arith, w.0), omega (arith, w.1))) h

same_low : (low x : ℕ) → low ≤ x → nat_lt low x ≡ false → low ≡ x
same_low low x l t = omega (arith, l, ltb-false low x t)

pub range_from : (count low x : ℕ) → low ≤ x → x < low + count → In x (range_with_len low count)
range_from zero low x l u = absurd (omega (arith, l, u))
range_from (suc count) low x l u =
    ⊎_elim (λ (t : nat_lt low x ≡ true). inr (range_from count (low + 1) x (omega (arith, ltb-true low x t)) (omega (arith, u)))) (λ (t : nat_lt low x ≡ false). inl (same_low low x l t)) (cases_Bool (nat_lt low x))
