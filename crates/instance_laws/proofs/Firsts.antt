-- What is decided of each element of a list is decided of all of them, and there is a first one of which it holds.
use Rattle.std.proofs.Common.{◌≡◌, ◌⊎◌, inl, inr, ℕ, zero, suc, ◌<◌, List, [], ◌∷◌, refl, sym, ap, subst, ◌∙◌, ⊎_elim, arith}
use Rattle.std.specs.Prelude.{Some, slice_get}
use Rattle.std.proofs.lemmas.Bool.{cases_order}
use Rattle.tel_base.specs.Members.{In}

-- it holds, or it doesn't
abbrev pub Decided : Type 0 → Type 0
Decided A = A ⊎ (A → ⊥)

-- the first element of which this holds
pub record IsFirst {X : Type 0} (P : X → Type 0) (xs : List X) : Type 0 where
  pub number : ℕ
  pub it : X
  pub at : slice_get xs number ≡ Some it
  pub holds : P it
  pub before : (other : ℕ) (earlier : X) → other < number → slice_get xs other ≡ Some earlier → P earlier → ⊥

module _ {X : Type 0} (P : X → Type 0) where
  some_here : (x y : X) → Some x ≡ Some y → P y → P x
  some_here x y e holds = let same : x ≡ y = cc in subst P (sym same) holds

  first-here : (x : X) (xs : List X) → P x → IsFirst P (x ∷ xs)
  first-here x xs holds = record { number = 0; it = x; at = refl; holds = holds; before = λ other earlier less. absurd (omega (arith, less)) }

  first-later : (x : X) (xs : List X) → (P x → ⊥) → IsFirst P xs → IsFirst P (x ∷ xs)
  first-later x xs fails first = record { number = suc first.number; it = first.it; at = first.at; holds = first.holds; before = before }
    where
      before : (other : ℕ) (earlier : X) → other < suc first.number → slice_get (x ∷ xs) other ≡ Some earlier → P earlier → ⊥
      before zero earlier less at holds = fails (some_here x earlier at holds)
      before (suc other) earlier less at holds = first.before other earlier (omega (arith, less)) at holds

  -- none, or a first one
  pub first-none : ((x : X) → Decided (P x)) → (xs : List X) → ((x : X) → In x xs → P x → ⊥) ⊎ IsFirst P xs
  first-none decide [] = inl (λ x there holds. there)
  first-none decide (x ∷ xs) = by (first-none decide xs) (decide x)
    where
      by : ((y : X) → In y xs → P y → ⊥) ⊎ IsFirst P xs → Decided (P x) → ((y : X) → In y (x ∷ xs) → P y → ⊥) ⊎ IsFirst P (x ∷ xs)
      by rest (inl holds) = inr (first-here x xs holds)
      by (inl none) (inr fails) = inl (λ y there holds. ⊎_elim (λ (same : x ≡ y). fails (subst P (sym same) holds)) (λ later. none y later holds) there)
      by (inr first) (inr fails) = inr (first-later x xs fails first)

  -- some element, or none
  pub some-decided : ((x : X) → Decided (P x)) → (xs : List X) → Decided ((x : X) × In x xs × P x)
  some-decided decide [] = inr (λ found. found.1)
  some-decided decide (x ∷ xs) = by (some-decided decide xs) (decide x)
    where
      by : Decided ((y : X) × In y xs × P y) → Decided (P x) → Decided ((y : X) × In y (x ∷ xs) × P y)
      by rest (inl holds) = inl (x, inl refl, holds)
      by (inl found) (inr fails) = inl (found.0, inr found.1, found.2)
      by (inr none) (inr fails) = inr (λ found. ⊎_elim (λ (same : x ≡ found.0). fails (subst P (sym same) found.2)) (λ later. none (found.0, later, found.2)) found.1)

-- both
pub both-decided : {A B : Type 0} → Decided A → Decided B → Decided (A × B)
both-decided (inl a) (inl b) = inl (a, b)
both-decided (inl a) (inr no_b) = inr (λ both. no_b both.1)
both-decided (inr no_a) b = inr (λ both. no_a both.0)

-- two first ones stand at one place
pub same-number : {X : Type 0} (P : X → Type 0) (xs : List X) (a b : ℕ) (x y : X) → slice_get xs a ≡ Some x → slice_get xs b ≡ Some y → P x → P y
    → ((other : ℕ) (earlier : X) → other < a → slice_get xs other ≡ Some earlier → P earlier → ⊥)
    → ((other : ℕ) (earlier : X) → other < b → slice_get xs other ≡ Some earlier → P earlier → ⊥) → x ≡ y
same-number {X} P xs a b x y at_a at_b holds_x holds_y before_a before_b = by (cases_order a b)
  where
    by : (a ≡ b) ⊎ ((a < b) ⊎ (b < a)) → x ≡ y
    by (inl same) = let found : Some x ≡ Some y = sym at_a ∙ ap (slice_get xs) same ∙ at_b in cc
    by (inr (inl less)) = absurd (before_b a x less at_a holds_x)
    by (inr (inr more)) = absurd (before_a b y more at_b holds_y)
