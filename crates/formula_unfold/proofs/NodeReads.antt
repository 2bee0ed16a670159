-- A value of a list, whatever stands for those past its end.
use Rattle.std.proofs.Common.{◌≡◌, ℕ, zero, suc, ◌<◌, List, [], ◌∷◌, length, get_or, refl, arith}

pub get_same : {A : Type 0} (xs : List A) (i : ℕ) (d e : A) → i < length xs → get_or xs i d ≡ get_or xs i e
get_same [] i d e l = absurd (omega (arith, l))
get_same (x ∷ xs) zero d e l = refl
get_same (x ∷ xs) (suc i) d e l = get_same xs i d e (omega (arith, l))
