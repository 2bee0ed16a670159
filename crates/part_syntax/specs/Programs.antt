-- The program of several texts, and their first fault.
use Rattle.std.specs.Prelude.{◌≡◌, ◌⊎◌, ℕ, ◌+◌, List, [], ◌∷◌, ◌++◌, length, Option, Some, None}
use Rattle.std.specs.List.{sum_by}
use Rattle.tel_base.specs.declared.places.Place.{Place}
use Rattle.tel_lex.specs.declared.fault.LexFault.{LexFault}
use Rattle.tel_lex.specs.declared.fault.LexFault.TheVariants as lexing
use Rattle.tel_lex.specs.Tokens.{IsLexed}
use Rattle.tel_rule.specs.declared.parts.Part.TheVariants as parts
use Rattle.tel_rule.specs.declared.statements.Statement.{Statement}
use Rattle.tel_rule.specs.declared.statements.Program.{Program}
use Rattle.formula_syntax.specs.Points.{Word, Known}
use Rattle.grammar_laws.specs.Points.{at}
use Rattle.grammar_laws.specs.Refusals.{Begins, IsWhole, AtSomeLevel}
use Rattle.part_syntax.specs.declared.fault.ReadFault.{ReadFault}
use Rattle.part_syntax.specs.declared.fault.ReadFault.TheVariants as faults
use Rattle.part_syntax.specs.Grammar.{Stated, IsText, statements_in}

-- one less than the levels that may be open at once, of which there are 64
unfoldable pub levels : ℕ
levels = 63

-- nothing is known yet
abbrev pub unknown : Known
unknown = record { symbols = []; vars = [] }

-- The bytes are tokens of items, in the file of this number.
pub record ReadsText (n file : ℕ) (text : List ℕ) (known : Known) (stated : List Stated) (later : Known) : Type 0 where
  pub words : List Word
  pub end : Place
  pub lexed : IsLexed file text words None end
  pub items : IsText n (at known words) stated (at later [])

-- The texts are these statements, one text after another, from the file of this number on. The statements of a text are of the
-- initial part, up to the first item that names another one.
abbrev pub ReadTexts : ℕ → ℕ → List (List ℕ) → Known → List Statement → Known → Type 0
ReadTexts n file [] known statements later = (statements ≡ []) × (known ≡ later)
ReadTexts n file (text ∷ texts) known statements later =
    (stated : List Stated) × (middle : Known) × (more : List Statement)
    × ReadsText n file text known stated middle × (statements ≡ statements_in parts.Initial stated ++ more) × ReadTexts n (file + 1) texts middle more later

-- the texts are this program
pub record IsProgram (texts : List (List ℕ)) (program : Program) : Type 0 where
  pub later : Known
  pub reads : ReadTexts levels 1 texts unknown program.statements later
  pub symbols_are : program.symbols ≡ later.symbols

-- the words behind a front stop a text: with the first of them the front begins none, or there are none, the text has no
-- lexical fault, and the front is no text
abbrev pub Stops : ℕ → Known → List Word → List Word → Option LexFault → Place → Place → Type 0
Stops n known front [] fault end place = (fault ≡ None) × (place ≡ end) × (IsWhole (AtSomeLevel IsText) known front → ⊥)
Stops n known front (word ∷ behind) fault end place = (place ≡ word.place) × (Begins (AtSomeLevel IsText) known (front ++ word ∷ []) → ⊥)

-- Where a text's words stop being a text: the words before a place begin one, and with the word there they begin none; or
-- the words end there, and are none.
pub record IsSyntaxAt (n : ℕ) (known : Known) (words : List Word) (fault : Option LexFault) (end place : Place) : Type 0 where
  pub front : List Word
  pub rest : List Word
  pub whole : words ≡ front ++ rest
  pub begun : Begins (IsText n) known front
  pub stops : Stops n known front rest fault end place

-- where one of its words opens one level too many: the words before it begin a text, and with it they do so only with more levels
pub record IsDeepAt (n : ℕ) (known : Known) (words : List Word) (place : Place) : Type 0 where
  pub front : List Word
  pub word : Word
  pub behind : List Word
  pub whole : words ≡ front ++ word ∷ behind
  pub place_is : place ≡ word.place
  pub begun : Begins (IsText n) known front
  pub deeper : Begins (AtSomeLevel IsText) known (front ++ word ∷ [])
  pub none : Begins (IsText n) known (front ++ word ∷ []) → ⊥

-- the words of a text up to its first lexical fault begin a text, if there is that fault
pub record IsLexicalAt (n : ℕ) (known : Known) (words : List Word) (fault : Option LexFault) (first : LexFault) : Type 0 where
  pub fault_is : fault ≡ Some first
  pub begun : Begins (IsText n) known words

-- the fault of one text, whose words these are, with their first lexical fault and the place behind its last byte
abbrev pub FaultOfWords : ℕ → Known → List Word → Option LexFault → Place → ReadFault → Type 0
FaultOfWords n known words fault end (faults.BadByte place) = IsLexicalAt n known words fault (lexing.BadByte place)
FaultOfWords n known words fault end (faults.NumberRange place) = IsLexicalAt n known words fault (lexing.NumberRange place)
FaultOfWords n known words fault end (faults.TooDeep place) = IsDeepAt n known words place
FaultOfWords n known words fault end (faults.Syntax place) = IsSyntaxAt n known words fault end place
FaultOfWords n known words fault end faults.Memory = ⊥

-- the fault of one text, in the file of this number
pub record FaultOfText (n file : ℕ) (text : List ℕ) (known : Known) (fault : ReadFault) : Type 0 where
  pub words : List Word
  pub lexical : Option LexFault
  pub end : Place
  pub lexed : IsLexed file text words lexical end
  pub stands : FaultOfWords n known words lexical end fault

-- the first fault of the texts: the texts before the one with the fault are read
abbrev pub FaultOfTexts : ℕ → ℕ → List (List ℕ) → Known → ReadFault → Type 0
FaultOfTexts n file [] known fault = ⊥
FaultOfTexts n file (text ∷ texts) known fault =
    FaultOfText n file text known fault
    ⊎ ((stated : List Stated) × (middle : Known) × ReadsText n file text known stated middle × FaultOfTexts n (file + 1) texts middle fault)

abbrev pub IsFirstFault : List (List ℕ) → ReadFault → Type 0
IsFirstFault texts fault = FaultOfTexts levels 1 texts unknown fault

-- how many bytes the texts have
abbrev pub total_bytes : List (List ℕ) → ℕ
total_bytes texts = sum_by (λ (text : List ℕ). length text) texts
