-- Words by numbers, and sets of them that have none in common.
use Rattle.std.proofs.Common.{◌≡◌, ℕ, Bool, true, false, not, List, [], ◌∷◌, ◌++◌, refl, sym, ap, ◌∙◌, inl, inr, ◌||◌, ◌&&◌}
use Rattle.std.specs.Prelude.{◌⊎◌, ◌==◌}
use Rattle.std.proofs.lemmas.Bool.{cases_Bool, false≢true, eqb-true}
use Rattle.grammar_laws.proofs.Readers.{nothing}
use Rattle.grammar_laws.proofs.Lifting.{Apart}

abbrev pub member : ℕ → List ℕ → Bool
member n [] = false
member n (m ∷ ms) = (n == m) || member n ms

abbrev pub none_of : List ℕ → List ℕ → Bool
none_of [] other = true
none_of (n ∷ ns) other = not (member n other) && none_of ns other

pub and-first : (a b : Bool) → (a && b) ≡ true → a ≡ true
and-first true b e = refl
and-first false b e = e

pub and-second : (a b : Bool) → (a && b) ≡ true → b ≡ true
and-second true b e = e
and-second false b e = absurd (false≢true e)

or-cases : (a b : Bool) → (a || b) ≡ true → (a ≡ true) ⊎ (b ≡ true)
or-cases true b e = inl refl
or-cases false b e = inr e

or-first : (a b : Bool) → a ≡ true → (a || b) ≡ true
or-first true b e = refl
or-first false b e = absurd (false≢true e)

or-second : (a b : Bool) → b ≡ true → (a || b) ≡ true
or-second true b e = refl
or-second false b e = e

not-true : (a : Bool) → not a ≡ true → a ≡ false
not-true true e = absurd (false≢true e)
not-true false e = refl

none : (n : ℕ) (some other : List ℕ) → none_of some other ≡ true → member n some ≡ true → member n other ≡ false
none n [] other e is = absurd (false≢true is)
none n (m ∷ ms) other e is = elim (or-cases (n == m) (member n ms) is) [
  | inl a ↦ ap (λ (k : ℕ). member k other) (eqb-true n m a) ∙ not-true (member m other) (and-first (not (member m other)) (none_of ms other) e)
  | inr b ↦ none n ms other (and-second (not (member m other)) (none_of ms other) e) b
]

member-left : (n : ℕ) (a b : List ℕ) → member n a ≡ true → member n (a ++ b) ≡ true
member-left n [] b is = absurd (false≢true is)
member-left n (m ∷ a) b is = elim (or-cases (n == m) (member n a) is) [
  | inl e ↦ or-first (n == m) (member n (a ++ b)) e
  | inr e ↦ or-second (n == m) (member n (a ++ b)) (member-left n a b e)
]

member-right : (n : ℕ) (a b : List ℕ) → member n b ≡ true → member n (a ++ b) ≡ true
member-right n [] b is = is
member-right n (m ∷ a) b is = or-second (n == m) (member n (a ++ b)) (member-right n a b is)

-- words that pass the test lie in the set
abbrev pub LiesIn : {Word : Type 0} → (Word → ℕ) → (Word → Bool) → List ℕ → Type 0
LiesIn {Word = Word} code test set = (w : Word) → test w ≡ true → member (code w) set ≡ true

module _ {Word : Type 0} (code : Word → ℕ) where
  pub nothing-lies : LiesIn code nothing []
  nothing-lies w is = absurd (false≢true is)

  pub or-lies : (test other : Word → Bool) (a b : List ℕ) → LiesIn code test a → LiesIn code other b → (w : Word) → (test w || other w) ≡ true → member (code w) (a ++ b) ≡ true
  or-lies test other a b f g w is = elim (or-cases (test w) (other w) is) [
    | inl e ↦ member-left (code w) a b (f w e)
    | inr e ↦ member-right (code w) a b (g w e)
  ]

  -- tests that lie in sets with none in common
  pub apart-by : (test other : Word → Bool) (a b : List ℕ) → LiesIn code test a → LiesIn code other b → none_of a b ≡ true → Apart test other
  apart-by test other a b f g e w is = elim (cases_Bool (other w)) [
    | inl y ↦ absurd (false≢true (sym (none (code w) a b e (f w is)) ∙ g w y))
    | inr n ↦ n
  ]
