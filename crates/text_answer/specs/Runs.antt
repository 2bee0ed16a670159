-- A run: the ends of its lengths, its status and what it prints.
use Rattle.std.specs.Prelude.{◌≡◌, ℕ, ◌+◌, true, List, [], ◌∷◌, ◌++◌, length, map}
use Rattle.tel_settings.specs.declared.fields.Settings.{Settings}
use Rattle.tel_settings.specs.Run.{Ending, is_run, run_status}
use Rattle.tel_engine.specs.Ends.{End}

-- how a length ended, and how many of its traces were printed
abbrev pub ending_of : End → Ending
ending_of end = record { how = end.how; traces = length end.traces }

-- each end is one of its length, of which the first is n
abbrev pub AreEnds : (ℕ → End → Type 0) → ℕ → List End → Type 0
AreEnds IsOne n [] = Unit {0}
AreEnds IsOne n (end ∷ more) = IsOne n end × AreEnds IsOne (n + 1) more

-- their texts in order
abbrev pub texts_from : (ℕ → End → List ℕ) → ℕ → List End → List ℕ
texts_from text n [] = []
texts_from text n (end ∷ more) = text n end ++ texts_from text (n + 1) more

-- these are the ends of the lengths of a run
pub record IsRunOf (IsOne : ℕ → End → Type 0) (settings : Settings) (ends : List End) : Type 0 where
  pub are : AreEnds IsOne 1 ends
  pub run : is_run settings (map ending_of ends) ≡ true

-- `D` holds of the status of some run and of what it prints, which is the text of each length, and nothing else
pub record Runs (IsOne : ℕ → End → Type 0) (text : ℕ → End → List ℕ) (settings : Settings) (D : ℕ → List ℕ → Type 0) : Type 0 where
  pub ends : List End
  pub is : IsRunOf IsOne settings ends
  pub delivered : D (run_status (map ending_of ends)) (texts_from text 1 ends)
