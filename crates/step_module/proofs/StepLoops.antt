-- Steps of the loops that make a module.
use Rattle.std.proofs.Common.{◌≡◌, ℕ, zero, suc, ◌+◌, true, ◌&&◌, List, [], ◌∷◌, ◌++◌, length, map, sym, ap, subst, ◌∙◌, arith}
use Rattle.std.specs.Prelude.{nat_lt}
use Rattle.std.specs.List.{list_all, range_with_len}
use Rattle.std.proofs.lemmas.Bool.{and_from, lt-ltb}
use Rattle.tel_rule.specs.Ground.{Ground, IsGround}
use Rattle.tel_base.proofs.Members.{In, list_all-from_In}
use Rattle.tel_semantics.proofs.InRange.{pair_below}

map_range : {A : Type 0} (f : ℕ → A) (count low : ℕ) → map f (range_with_len low (suc count)) ≡ (map f (range_with_len low count) ++ (f (low + count) ∷ []))
map_range f zero low = ap (λ (x : ℕ). f x ∷ []) (omega arith)
map_range f (suc count) low =
    ap (λ rest. f low ∷ rest) (map_range f count (low + 1) ∙ ap (λ (x : ℕ). map f (range_with_len (low + 1) count) ++ (f x ∷ [])) (omega arith))

-- what is made of each number below k, and one more
pub range_step : {A : Type 0} (f : ℕ → A) (k : ℕ) (old new : List A) (x : A) → old ≡ map f (range_with_len 0 k) → x ≡ f k → new ≡ old ++ (x ∷ []) → new ≡ map f (range_with_len 0 (k + 1))
range_step f k old new x done is more =
    let one : ((0 + k) ≡ k) × (suc k ≡ k + 1) = (omega arith, omega arith) in
    more ∙ (λ i. done i ++ (is i ∷ [])) ∙ ap (λ (y : ℕ). map f (range_with_len 0 k) ++ (f y ∷ [])) (sym one.0)
    ∙ sym (map_range f k 0) ∙ ap (λ (y : ℕ). map f (range_with_len 0 y)) one.1

-- the pairs of a program are of its atoms
pub pairs_right : (program : Ground) → IsGround program → list_all (λ (pair : ℕ × ℕ). nat_lt pair.0 (length program.atoms) && nat_lt pair.1 (length program.atoms)) program.pairs ≡ true
pairs_right program ground =
    list_all-from_In (λ (pair : ℕ × ℕ). nat_lt pair.0 (length program.atoms) && nat_lt pair.1 (length program.atoms)) program.pairs (λ pair found.
    let below = pair_below program.atoms pair (subst (λ (all : List (ℕ × ℕ)). In pair all) ground.paired found) in
    and_from (nat_lt pair.0 (length program.atoms)) (nat_lt pair.1 (length program.atoms)) (lt-ltb pair.0 (length program.atoms) below.0) (lt-ltb pair.1 (length program.atoms) below.1))
