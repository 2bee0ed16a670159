-- Where a text of some kind stands in bytes, and where bytes stop being the begin of one.
use Rattle.std.specs.Prelude.{◌≡◌, ℕ, ◌+◌, ◌-◌, ◌<◌, ◌≤◌, List, ◌++◌, length, take, drop}
use Rattle.proof_log.specs.declared.line.Line.{Line}
use Rattle.proof_log.specs.Lines.{HasForm, line_text}

-- some text of the kind begins so
abbrev pub Begins : (List ℕ → Type 0) → List ℕ → Type 0
Begins Text front = (rest : List ℕ) × Text (front ++ rest)

-- some text of the kind stands at the front of the bytes
abbrev pub Fronts : (List ℕ → Type 0) → List ℕ → Type 0
Fronts Text bytes = (text rest : List ℕ) × Text text × (bytes ≡ text ++ rest)

-- no text stands at the front, the first bytes up to a place begin one, and with the byte there they begin none
pub record Stops (Text : List ℕ → Type 0) (bytes : List ℕ) (place : ℕ) : Type 0 where
  pub within : place ≤ length bytes
  pub begun : Begins Text (take place bytes)
  pub none : Fronts Text bytes → ⊥
  pub no_more : place < length bytes → Begins Text (take (place + 1) bytes) → ⊥

-- the same for what stands from a place on
abbrev pub StopsAt : (List ℕ → Type 0) → List ℕ → ℕ → ℕ → Type 0
StopsAt Text bytes at place = (at ≤ place) × Stops Text (drop at bytes) (place - at)

-- a text of the kind stands between two places
pub record StandsAt (Text : List ℕ → Type 0) (bytes : List ℕ) (at after : ℕ) : Type 0 where
  pub text : List ℕ
  pub is : Text text
  pub stands : drop at bytes ≡ text ++ drop after bytes
  pub reaches : after ≡ at + length text
  pub within : after ≤ length bytes

-- the texts of lines
abbrev pub IsLineText : List ℕ → Type 0
IsLineText text = (line : Line) × HasForm line × (text ≡ line_text line)

-- this line stands between two places
pub record IsLineAt (line : Line) (bytes : List ℕ) (at after : ℕ) : Type 0 where
  pub form : HasForm line
  pub stands : drop at bytes ≡ line_text line ++ drop after bytes
  pub reaches : after ≡ at + length (line_text line)
  pub within : after ≤ length bytes
