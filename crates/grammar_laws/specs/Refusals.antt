-- Where a reading ends, and why it is refused. The grammar of a thing stands for each number of levels that may be opened.
use Rattle.std.specs.Prelude.{◌≡◌, ℕ, List, [], ◌∷◌, ◌++◌}
use Rattle.grammar_laws.specs.Points.{Point, at}
use Rattle.grammar_laws.specs.Shapes.{Grammar}
use Rattle.grammar_laws.specs.Steps.{Unexpected, Deep, Read, Got, Stuck}

-- with some words behind them the words are a thing
pub record Begins {Word Known A : Type 0} (F : Grammar Word Known A) (known : Known) (words : List Word) : Type 0 where
  pub more : List Word
  pub thing : A
  pub later : Known
  pub reads : F (at known (words ++ more)) thing (at later [])

-- the words are a thing, all of them
pub record IsWhole {Word Known A : Type 0} (F : Grammar Word Known A) (known : Known) (words : List Word) : Type 0 where
  pub thing : A
  pub later : Known
  pub reads : F (at known words) thing (at later [])

-- a thing, however many levels are opened
abbrev pub AtSomeLevel : {Word Known A : Type 0} → (ℕ → Grammar Word Known A) → Grammar Word Known A
AtSomeLevel F = λ from thing to. (levels : ℕ) × F levels from thing to

-- a thing stands here, and with the word behind it the words begin none
pub record Stands {Word Known A : Type 0} (F : ℕ → Grammar Word Known A) (levels : ℕ) (from : Point Word Known) (thing : A) (to : Point Word Known) : Type 0 where
  pub reads : F levels from thing to
  pub front : List Word
  pub whole : from.words ≡ front ++ to.words
  pub longest : (word : Word) (behind : List Word) → to.words ≡ word ∷ behind → Begins (AtSomeLevel F) from.known (front ++ word ∷ []) → ⊥

-- the words before the rest begin a thing and are none, and with its first word they begin none
pub record IsSyntax {Word Known A : Type 0} (F : ℕ → Grammar Word Known A) (levels : ℕ) (from : Point Word Known) (rest : List Word) : Type 0 where
  pub front : List Word
  pub whole : from.words ≡ front ++ rest
  pub begun : Begins (F levels) from.known front
  pub none : IsWhole (AtSomeLevel F) from.known front → ⊥
  pub stops : (word : Word) (behind : List Word) → rest ≡ word ∷ behind → Begins (AtSomeLevel F) from.known (front ++ word ∷ []) → ⊥

-- the words before the rest begin a thing; with its first word they begin one too, but none of so few levels
pub record IsTooDeep {Word Known A : Type 0} (F : ℕ → Grammar Word Known A) (levels : ℕ) (from : Point Word Known) (rest : List Word) : Type 0 where
  pub front : List Word
  pub whole : from.words ≡ front ++ rest
  pub begun : Begins (F levels) from.known front
  pub word : Word
  pub behind : List Word
  pub first : rest ≡ word ∷ behind
  pub deeper : Begins (AtSomeLevel F) from.known (front ++ word ∷ [])
  pub none : Begins (F levels) from.known (front ++ word ∷ []) → ⊥

-- what stands at a point, or why nothing does
abbrev pub IsOutcome : {Word Known A : Type 0} → (ℕ → Grammar Word Known A) → ℕ → Point Word Known → Read Word Known A → Type 0
IsOutcome F levels from (Got thing to) = Stands F levels from thing to
IsOutcome F levels from (Stuck Unexpected rest) = IsSyntax F levels from rest
IsOutcome F levels from (Stuck Deep rest) = IsTooDeep F levels from rest

-- at each point there is one outcome, and no other
abbrev pub OneOutcome : {Word Known A : Type 0} → (ℕ → Grammar Word Known A) → Type 0
OneOutcome {Word = Word} {Known = Known} {A = A} F = (levels : ℕ) (from : Point Word Known) → (outcome : Read Word Known A) × IsOutcome F levels from outcome × ((other : Read Word Known A) → IsOutcome F levels from other → other ≡ outcome)
