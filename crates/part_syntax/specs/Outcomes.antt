-- What reading texts gives, by the readers. Only private functions are held to it; the public contracts speak of the grammar.
use Rattle.std.specs.Prelude.{◌≡◌, ◌⊎◌, ℕ, ◌+◌, List, [], ◌∷◌, ◌++◌, Option, Some, None}
use Rattle.tel_base.specs.declared.places.Place.{Place}
use Rattle.tel_lex.specs.declared.fault.LexFault.{LexFault}
use Rattle.tel_lex.specs.declared.fault.LexFault.TheVariants as lexing
use Rattle.tel_lex.specs.Tokens.{IsLexed}
use Rattle.tel_term.specs.declared.terms.Term.{Term}
use Rattle.tel_rule.specs.declared.parts.Part.TheVariants as parts
use Rattle.tel_rule.specs.declared.statements.Statement.{Statement}
use Rattle.formula_syntax.specs.Points.{Word, Known, Read}
use Rattle.grammar_laws.specs.Points.{at}
use Rattle.grammar_laws.specs.Steps.{Why, Unexpected, Deep, Got, Stuck}
use Rattle.part_syntax.specs.declared.fault.ReadFault.{ReadFault}
use Rattle.part_syntax.specs.declared.fault.ReadFault.TheVariants as faults
use Rattle.part_syntax.specs.Grammar.{Stated, statements_in}
use Rattle.part_syntax.specs.Reading.{read_text}

-- a lexical fault as a fault of a text
abbrev pub lexical : LexFault → ReadFault
lexical (lexing.BadByte place) = faults.BadByte place
lexical (lexing.NumberRange place) = faults.NumberRange place
lexical lexing.Memory = faults.Memory

-- the fault where the words of a text end too early: its lexical fault, if it has one
abbrev pub cut_at : Option LexFault → Place → ReadFault
cut_at None end = faults.Syntax end
cut_at (Some fault) end = lexical fault

-- the fault of the words that are left behind the items of a text
abbrev pub left_over : Option LexFault → List Word → Option ReadFault
left_over fault (word ∷ words) = Some (faults.Syntax word.place)
left_over None [] = None
left_over (Some fault) [] = Some (lexical fault)

-- the fault where a reading stops before these words
abbrev pub stuck_at : Option LexFault → Place → Why → List Word → ReadFault
stuck_at fault end why [] = cut_at fault end
stuck_at fault end Unexpected (word ∷ words) = faults.Syntax word.place
stuck_at fault end Deep (word ∷ words) = faults.TooDeep word.place

-- the fault of a text that is read so, if it has one
abbrev pub fault_of : Option LexFault → Place → Read (List Stated) → Option ReadFault
fault_of fault end (Got stated to) = left_over fault to.words
fault_of fault end (Stuck why rest) = Some (stuck_at fault end why rest)

-- these names and strings are known, and no variables
abbrev pub knowing : List Term → Known
knowing symbols = record { symbols = symbols; vars = [] }

-- words, all of them, are read as these statements, and then these names and strings are known
pub record WordsRead (n : ℕ) (words : List Word) (symbols : List Term) (statements : List Statement) (later : List Term) : Type 0 where
  pub stated : List Stated
  pub known : Known
  pub reads : read_text n (at (knowing symbols) words) ≡ Got stated (at known [])
  pub statements_are : statements ≡ statements_in parts.Initial stated
  pub later_is : later ≡ known.symbols

-- a text, in the file of this number, is read so
pub record TextReads (n file : ℕ) (text : List ℕ) (symbols : List Term) (statements : List Statement) (later : List Term) : Type 0 where
  pub words : List Word
  pub end : Place
  pub lexed : IsLexed file text words None end
  pub read : WordsRead n words symbols statements later

-- a text, in the file of this number, has this fault
pub record TextFails (n file : ℕ) (text : List ℕ) (symbols : List Term) (fault : ReadFault) : Type 0 where
  pub words : List Word
  pub first : Option LexFault
  pub end : Place
  pub lexed : IsLexed file text words first end
  pub fails : fault_of first end (read_text n (at (knowing symbols) words)) ≡ Some fault

-- texts, from the file of this number on, are read as these statements
abbrev pub TextsRead : ℕ → ℕ → List (List ℕ) → List Term → List Statement → List Term → Type 0
TextsRead n file [] symbols statements later = (statements ≡ []) × (symbols ≡ later)
TextsRead n file (text ∷ texts) symbols statements later =
    (first : List Statement) × (middle : List Term) × (more : List Statement)
    × TextReads n file text symbols first middle × (statements ≡ first ++ more) × TextsRead n (file + 1) texts middle more later

-- the first fault of texts, from the file of this number on: those before the one with the fault are read
abbrev pub TextsFail : ℕ → ℕ → List (List ℕ) → List Term → ReadFault → Type 0
TextsFail n file [] symbols fault = ⊥
TextsFail n file (text ∷ texts) symbols fault =
    TextFails n file text symbols fault
    ⊎ ((first : List Statement) × (middle : List Term) × TextReads n file text symbols first middle × TextsFail n (file + 1) texts middle fault)
