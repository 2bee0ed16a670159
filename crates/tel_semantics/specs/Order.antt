-- The order of traces: by the first place where two differ, state 0 first and within a state by the atoms, false before true.
use Rattle.std.specs.Prelude.{◌≡◌, ℕ, ◌<◌, List, IsTrue, IsFalse}
use Rattle.tel_semantics.specs.Traces.{test_of}

-- at this instant and atom the first trace has it false and the second true, and at each earlier place they agree
pub record PrecedesAt (first second : List (List ℕ)) (k atom : ℕ) : Type 0 where
  pub is_false : IsFalse (test_of first k atom)
  pub is_true : IsTrue (test_of second k atom)
  pub same_state : (earlier : ℕ) → earlier < atom → test_of first k earlier ≡ test_of second k earlier
  pub same_before : (earlier : ℕ) → earlier < k → (other : ℕ) → test_of first earlier other ≡ test_of second earlier other

-- the first trace comes before the second
abbrev pub Precedes : List (List ℕ) → List (List ℕ) → Type 0
Precedes first second = (k : ℕ) × (atom : ℕ) × PrecedesAt first second k atom
