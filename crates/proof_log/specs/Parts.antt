-- The parts of a line, as they are read one after another.
use Rattle.std.specs.Prelude.{◌≡◌, ℕ, zero, suc, ◌-◌, ◌<◌, ◌≤◌, Bool, true, false, List, [], ◌∷◌, ◌++◌, Option, Some, None, decimal, map}
use Rattle.tel_base.specs.declared.literals.Lit.{Lit}
use Rattle.proof_log.specs.Lines.{greatest, lit_number, lit_text, line_of}
use Rattle.proof_log.specs.declared.line.Line.{Line}
use Rattle.proof_log.specs.declared.line.Line.TheVariants as lines
use Rattle.proof_log.specs.declared.line.Kind.TheVariants as kinds
use Rattle.proof_log.specs.declared.reading.Opening.{Opening}
use Rattle.proof_log.specs.declared.reading.Opening.TheVariants as openings

-- the texts of things of a kind
abbrev pub AnyOf : {Thing : Type 0} → (Thing → List ℕ → Type 0) → List ℕ → Type 0
AnyOf {Thing} Is text = (thing : Thing) × Is thing text

-- the text of a thing, and behind it a text that may depend on the thing
abbrev pub Then : {Thing : Type 0} → (Thing → List ℕ → Type 0) → (Thing → List ℕ → Type 0) → List ℕ → Type 0
Then {Thing} First Next text = (thing : Thing) × (a b : List ℕ) × (text ≡ a ++ b) × First thing a × Next thing b

abbrev pub IsDigit : ℕ → Type 0
IsDigit byte = (48 ≤ byte) × (byte ≤ 57)

-- the digits of what was read of a number, none where nothing was
abbrev pub shown : ℕ → List ℕ
shown zero = []
shown (suc value) = decimal (suc value)

-- some number above `low` begins with what was read
abbrev pub GrowsAbove : ℕ → ℕ → Type 0
GrowsAbove low value = (n : ℕ) × (rest : List ℕ) × (low < n) × (n ≤ greatest) × (decimal n ≡ shown value ++ rest)

-- a number above `low`, and the byte behind it
abbrev pub IsNumber : ℕ → ℕ → ℕ → List ℕ → Type 0
IsNumber low end n text = (low < n) × (n ≤ greatest) × (text ≡ decimal n ++ end ∷ [])

-- an entry of a list: a literal whose number is above `low`, or, where one came before, the end
abbrev pub IsEntry : Bool → ℕ → ℕ → Option Lit → List ℕ → Type 0
IsEntry signed low end None text = (1 ≤ low) × (text ≡ 48 ∷ end ∷ [])
IsEntry signed low end (Some lit) text = (low < lit_number lit) × (lit_number lit ≤ greatest) × (signed ≡ false → lit.positive ≡ true) × (text ≡ lit_text lit ++ 32 ∷ [])

-- entries one after another, up to the end
abbrev pub IsList : Bool → ℕ → ℕ → List Lit → List ℕ → Type 0
IsList signed low end [] text = IsEntry signed low end None text
IsList signed low end (lit ∷ lits) text = (a b : List ℕ) × (text ≡ a ++ b) × IsEntry signed low end (Some lit) a × IsList signed (lit_number lit) end lits b

-- the letter that a line begins with
abbrev pub letter : Opening → ℕ
letter openings.Length = 110
letter openings.End = 101
letter openings.Loop = 117
letter (openings.Clause kinds.Module) = 109
letter (openings.Clause kinds.Learnt) = 114
letter (openings.Clause kinds.Block) = 98

-- the letter and a space
abbrev pub IsOpening : Opening → List ℕ → Type 0
IsOpening opening text = text ≡ letter opening ∷ 32 ∷ []

-- a loop clause behind its first atom and its set
abbrev pub IsLoopClause : ℕ → List Lit → Line → List ℕ → Type 0
IsLoopClause number set line text = (clause : List Lit) × (line ≡ lines.Loop (number - 1) (map (λ lit. lit.var) set) clause) × IsList true 0 10 clause text

-- what stands behind the opening of a line
abbrev pub IsTail : Opening → Line → List ℕ → Type 0
IsTail openings.Length line text = (n : ℕ) × (line ≡ lines.Length n) × IsNumber 0 10 n text
IsTail openings.End line text = (n : ℕ) × (line ≡ lines.End n) × IsNumber 0 10 n text
IsTail (openings.Clause kind) line text = (clause : List Lit) × (line ≡ line_of kind clause) × IsList true 0 10 clause text
IsTail openings.Loop line text = Then (IsNumber 0 32) (λ number. Then (IsList false 0 32) (λ set. IsLoopClause number set line)) text
