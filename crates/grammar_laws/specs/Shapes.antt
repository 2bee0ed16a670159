-- The shapes of productions. A grammar of things says which thing stands from one point to another.
use Rattle.std.specs.Prelude.{◌≡◌, ◌⊎◌, ◌≤◌, ℕ, List, [], ◌∷◌, length, Option, Some, None}
use Rattle.grammar_laws.specs.Points.{Point}

abbrev pub Grammar : Type 0 → Type 0 → Type 0 → Type 1
Grammar Word Known A = Point Word Known → A → Point Word Known → Type 0

-- one word, of which `value` makes the thing
pub record One {Word Known A : Type 0} (value : Word → Option (Known → A × Known)) (from : Point Word Known) (thing : A) (to : Point Word Known) : Type 0 where
  pub word : Word
  pub make : Known → A × Known
  pub first : from.words ≡ word ∷ to.words
  pub gives : value word ≡ Some make
  pub thing_is : thing ≡ (make from.known).0
  pub known_is : to.known ≡ (make from.known).1

-- one thing and then another
pub record Then {Word Known A B : Type 0} (F : Grammar Word Known A) (G : Grammar Word Known B) (from : Point Word Known) (both : A × B) (to : Point Word Known) : Type 0 where
  pub middle : Point Word Known
  pub first : F from both.0 middle
  pub second : G middle both.1 to

-- a thing made of another one
pub record Made {Word Known A B : Type 0} (make : A → B) (F : Grammar Word Known A) (from : Point Word Known) (thing : B) (to : Point Word Known) : Type 0 where
  pub of : A
  pub reads : F from of to
  pub made : thing ≡ make of

-- one of two things
abbrev pub Either : {Word Known A : Type 0} → Grammar Word Known A → Grammar Word Known A → Grammar Word Known A
Either F G = λ from thing to. F from thing to ⊎ G from thing to

-- any number of things, one after another
abbrev pub Each : {Word Known A : Type 0} → Grammar Word Known A → Point Word Known → List A → Point Word Known → Type 0
Each F from [] to = from ≡ to
Each {Word = Word} {Known = Known} F from (thing ∷ things) to = (middle : Point Word Known) × F from thing middle × Each F middle things to

-- at most so many things, one after another
abbrev pub AtMost : {Word Known A : Type 0} → ℕ → Grammar Word Known A → Grammar Word Known (List A)
AtMost most F = λ from things to. (length things ≤ most) × Each F from things to

-- a thing, if there is one
abbrev pub Maybe : {Word Known A : Type 0} → Grammar Word Known A → Point Word Known → Option A → Point Word Known → Type 0
Maybe F from None to = from ≡ to
Maybe F from (Some thing) to = F from thing to

-- one thing and then another one, which depends on it
pub record After {Word Known A B : Type 0} (F : Grammar Word Known A) (G : A → Grammar Word Known B) (from : Point Word Known) (thing : B) (to : Point Word Known) : Type 0 where
  pub of : A
  pub middle : Point Word Known
  pub first : F from of middle
  pub second : G of middle thing to
