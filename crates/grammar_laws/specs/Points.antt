-- Words, and the points between them at which a reading stands. What is known changes along the words.
use Rattle.std.specs.Prelude.{Bool, false, List, [], ◌∷◌}

-- a point of a reading: what is known there, and the words that are left
pub record Point (Word Known : Type 0) : Type 0 where
  pub known : Known
  pub words : List Word

abbrev pub at : {Word Known : Type 0} → Known → List Word → Point Word Known
at known words = record { known = known; words = words }

-- the words begin with one that passes
abbrev pub begins : {Word : Type 0} → (Word → Bool) → List Word → Bool
begins test [] = false
begins test (word ∷ words) = test word
