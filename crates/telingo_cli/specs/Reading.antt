-- How a text is read in pieces.
use Rattle.std.specs.Prelude.{◌≡◌, ℕ, ◌≤◌, ◌<◌, List, Option, length, take, IfSome}

-- the bytes are a front of the text, where that is told
abbrev pub IsFrontOf : Option (List ℕ) → List ℕ → Type 0
IsFrontOf told bytes = IfSome told (λ text. (length bytes ≤ length text) × (bytes ≡ take (length bytes) text))

-- the text, where it is told, is this one
abbrev pub IsTold : Option (List ℕ) → List ℕ → Type 0
IsTold told text = IfSome told (λ bytes. bytes ≡ text)

-- the text, which is the told one where it is told, has more bytes than this
abbrev pub HasMore : Option (List ℕ) → ℕ → Type 0
HasMore told most = (text : List ℕ) × IsTold told text × (most < length text)
