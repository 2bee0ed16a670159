-- Texts are a program or have a first fault, for the reading of each of them gives something.
use Rattle.std.proofs.Common.{◌≡◌, ℕ, ◌+◌, List, [], ◌∷◌, ◌++◌, Option, Some, None, refl, inl, inr}
use Rattle.std.specs.Prelude.{◌⊎◌}
use Rattle.tel_base.specs.declared.places.Place.{Place}
use Rattle.tel_lex.specs.declared.fault.LexFault.{LexFault}
use Rattle.tel_lex.specs.declared.fault.LexFault.TheVariants as lexing
use Rattle.tel_lex.specs.Tokens.{IsLexed}
use Rattle.tel_lex.proofs.Once.{lexes_fault}
use Rattle.tel_lex.proofs.Going.{some_lexed}
use Rattle.tel_rule.specs.declared.parts.Part.TheVariants as parts
use Rattle.tel_rule.specs.declared.statements.Statement.{Statement}
use Rattle.tel_rule.specs.declared.statements.Program.{Program}
use Rattle.formula_syntax.specs.Points.{Word, Known, Read}
use Rattle.grammar_laws.specs.Points.{at}
use Rattle.grammar_laws.specs.Refusals.{Begins}
use Rattle.grammar_laws.specs.Steps.{Why, Unexpected, Deep, Got, Stuck}
use Rattle.part_syntax.specs.declared.fault.ReadFault.{ReadFault}
use Rattle.part_syntax.specs.declared.fault.ReadFault.TheVariants as faults
use Rattle.part_syntax.specs.Grammar.{Stated, IsText, statements_in}
use Rattle.part_syntax.specs.Reading.{read_text}
use Rattle.part_syntax.specs.Programs.{levels, unknown, ReadsText, ReadTexts, IsProgram, FaultOfWords, FaultOfText, FaultOfTexts, IsFirstFault}
use Rattle.part_syntax.proofs.TextOutcomes.{text-whole, text-ended, text-stuck, text-short, text-deep, begun-whole, begun-short, deep-some}

-- ---- the words of one text

-- words with no lexical fault that are items
record WordsRead (n : ℕ) (known : Known) (words : List Word) (fault : Option LexFault) : Type 0 where
  stated : List Stated
  later : Known
  faultless : fault ≡ None
  items : IsText n (at known words) stated (at later [])

-- words that have a fault
record WordsFail (n : ℕ) (known : Known) (words : List Word) (fault : Option LexFault) (end : Place) : Type 0 where
  why : ReadFault
  stands : FaultOfWords n known words fault end why

cut : (n : ℕ) (known : Known) (words : List Word) (first : LexFault) (end : Place) → (Some first ≡ Some lexing.Memory → ⊥) → Begins (IsText n) known words → WordsFail n known words (Some first) end
cut n known words (lexing.BadByte place) end some begun = record { why = faults.BadByte place; stands = record { fault_is = refl; begun = begun } }
cut n known words (lexing.NumberRange place) end some begun = record { why = faults.NumberRange place; stands = record { fault_is = refl; begun = begun } }
cut n known words lexing.Memory end some begun = absurd (some refl)

ended : (n : ℕ) (known : Known) (words : List Word) (fault : Option LexFault) (end : Place) → (fault ≡ Some lexing.Memory → ⊥) → (stated : List Stated) (later : Known) (left : List Word) → read_text n (at known words) ≡ Got stated (at later left) → WordsRead n known words fault ⊎ WordsFail n known words fault end
ended n known words fault end some stated later (word ∷ behind) is = inr (record { why = faults.Syntax word.place; stands = text-ended n known words stated later word behind fault end is })
ended n known words None end some stated later [] is = inl (record { stated = stated; later = later; faultless = refl; items = text-whole n known later words stated is })
ended n known words (Some first) end some stated later [] is = inr (cut n known words first end some (begun-whole n known later words stated is))

stuck : (n : ℕ) (known : Known) (words : List Word) (fault : Option LexFault) (end : Place) → (fault ≡ Some lexing.Memory → ⊥) → (why : Why) (rest : List Word) → read_text n (at known words) ≡ Stuck why rest → WordsFail n known words fault end
stuck n known words fault end some Unexpected (word ∷ behind) is = record { why = faults.Syntax word.place; stands = text-stuck n known words word behind fault end is }
stuck n known words fault end some Deep (word ∷ behind) is = record { why = faults.TooDeep word.place; stands = text-deep n known words word behind is }
stuck n known words None end some Unexpected [] is = record { why = faults.Syntax end; stands = text-short n known words end is }
stuck n known words (Some first) end some Unexpected [] is = cut n known words first end some (begun-short n known words is)
stuck n known words fault end some Deep [] is = absurd (deep-some n known words is)

words-decided : (n : ℕ) (known : Known) (words : List Word) (fault : Option LexFault) (end : Place) → (fault ≡ Some lexing.Memory → ⊥) → (out : Read (List Stated)) → read_text n (at known words) ≡ out → WordsRead n known words fault ⊎ WordsFail n known words fault end
words-decided n known words fault end some (Got stated to) is = ended n known words fault end some stated to.known to.words is
words-decided n known words fault end some (Stuck why rest) is = inr (stuck n known words fault end some why rest is)

-- ---- one text

abbrev TextDecided : ℕ → ℕ → List ℕ → Known → Type 0
TextDecided n file text known =
    ((stated : List Stated) × (later : Known) × ReadsText n file text known stated later)
    ⊎ ((why : ReadFault) × FaultOfText n file text known why)

lexed-decided : (n file : ℕ) (text : List ℕ) (known : Known) (words : List Word) (fault : Option LexFault) (end : Place) → IsLexed file text words fault end → WordsRead n known words fault ⊎ WordsFail n known words fault end → TextDecided n file text known
lexed-decided n file text known words None end lexed (inl r) = inl (r.stated, r.later, record { words = words; end = end; lexed = lexed; items = r.items })
lexed-decided n file text known words (Some first) end lexed (inl r) = let e = r.faultless in absurd cc
lexed-decided n file text known words fault end lexed (inr f) = inr (f.why, record { words = words; lexical = fault; end = end; lexed = lexed; stands = f.stands })

text-decided : (n file : ℕ) (text : List ℕ) (known : Known) → TextDecided n file text known
text-decided n file text known =
    let l = some_lexed file text in
    lexed-decided n file text known l.0 l.1 l.2 l.3 (words-decided n known l.0 l.1 l.2 (lexes_fault l.3.lexes) (read_text n (at known l.0)) refl)

-- ---- several texts

abbrev TextsDecided : ℕ → ℕ → List (List ℕ) → Known → Type 0
TextsDecided n file texts known =
    ((statements : List Statement) × (later : Known) × ReadTexts n file texts known statements later)
    ⊎ ((why : ReadFault) × FaultOfTexts n file texts known why)

texts-decided : (n file : ℕ) (texts : List (List ℕ)) (known : Known) → TextsDecided n file texts known
texts-decided n file [] known = inl ([], known, (refl, refl))
texts-decided n file (text ∷ texts) known = elim (text-decided n file text known) [
  | inl r ↦ elim (texts-decided n (file + 1) texts r.1) [
    | inl more ↦ inl (statements_in parts.Initial r.0 ++ more.0, more.1, (r.0, r.1, more.0, r.2, refl, more.2))
    | inr f ↦ inr (f.0, inr (r.0, r.1, r.2, f.1))
  ]
  | inr f ↦ inr (f.0, inl f.1)
]

pub some_verdict : (texts : List (List ℕ)) → ((program : Program) × IsProgram texts program) ⊎ ((why : ReadFault) × IsFirstFault texts why)
some_verdict texts = elim (texts-decided levels 1 texts unknown) [
  | inl r ↦ inl (record { statements = r.0; symbols = r.1.symbols }, record { later = r.1; reads = r.2; symbols_are = refl })
  | inr f ↦ inr (f.0, f.1)
]
