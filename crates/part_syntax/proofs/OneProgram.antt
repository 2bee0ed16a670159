-- Texts are one program at the most, and none where they have a fault.
use Rattle.std.proofs.Common.{◌≡◌, ℕ, ◌+◌, List, [], ◌∷◌, ◌++◌, Option, Some, None, sym, ap, subst, ◌∙◌, append_assoc, inl, inr}
use Rattle.std.proofs.lemmas.List.{append-nil}
use Rattle.tel_base.specs.declared.places.Place.{Place}
use Rattle.tel_lex.specs.declared.fault.LexFault.{LexFault}
use Rattle.tel_lex.specs.Tokens.{IsLexed}
use Rattle.tel_lex.proofs.Once.{one_reading}
use Rattle.tel_rule.specs.declared.parts.Part.TheVariants as parts
use Rattle.tel_rule.specs.declared.statements.Statement.{Statement}
use Rattle.tel_rule.specs.declared.statements.Program.{Program}
use Rattle.formula_syntax.specs.Points.{Word, Known, Point, Read}
use Rattle.grammar_laws.specs.Points.{at}
use Rattle.grammar_laws.specs.Refusals.{Begins}
use Rattle.grammar_laws.specs.Steps.{Got}
use Rattle.grammar_laws.proofs.Fronts.{some-level}
use Rattle.part_syntax.specs.declared.fault.ReadFault.{ReadFault}
use Rattle.part_syntax.specs.declared.fault.ReadFault.TheVariants as faults
use Rattle.part_syntax.specs.Grammar.{Stated, IsText, statements_in}
use Rattle.part_syntax.specs.Reading.{read_text}
use Rattle.part_syntax.specs.Programs.{levels, unknown, ReadsText, ReadTexts, IsProgram, IsLexicalAt, Stops, FaultOfWords, FaultOfText, FaultOfTexts, IsFirstFault}
use Rattle.part_syntax.proofs.TextOutcomes.{text-one}

-- ---- one text

pub record SameText (stated other : List Stated) (later last : Known) : Type 0 where
  pub stated_is : stated ≡ other
  pub later_is : later ≡ last

same-words : (n file : ℕ) (text : List ℕ) (known : Known) (stated : List Stated) (later : Known) (r : ReadsText n file text known stated later) (words : List Word) (fault : Option LexFault) (end : Place) → IsLexed file text words fault end → (words ≡ r.words) × (fault ≡ None)
same-words n file text known stated later r words fault end lexed =
    let o = one_reading r.lexed.lexes lexed.lexes in
    (sym o.same_tokens, sym o.same_fault)

got-same : (stated other : List Stated) (later last : Known) → ◌≡◌ {A = Read (List Stated)} (Got stated (at later [])) (Got other (at last [])) → SameText stated other later last
got-same stated other later last e =
    let a : stated ≡ other = cc in
    let b : at later [] ≡ at last [] = cc in
    record { stated_is = a; later_is = ap (λ (p : Point). p.known) b }

pub same-text : (n file : ℕ) (text : List ℕ) (known : Known) (stated other : List Stated) (later last : Known) → ReadsText n file text known stated later → ReadsText n file text known other last → SameText stated other later last
same-text n file text known stated other later last r s =
    let w = (same-words n file text known stated later r s.words None s.end s.lexed).0 in
    got-same stated other later last
    (sym (text-one n known later r.words stated r.items) ∙ ap (λ (ws : List Word). read_text n (at known ws)) (sym w) ∙ text-one n known last s.words other s.items)

-- ---- several texts

record SameTexts (statements others : List Statement) (later last : Known) : Type 0 where
  statements_are : statements ≡ others
  pub later_is : later ≡ last

same-texts : (n file : ℕ) (texts : List (List ℕ)) (known : Known) (statements others : List Statement) (later last : Known) → ReadTexts n file texts known statements later → ReadTexts n file texts known others last → SameTexts statements others later last
same-texts n file [] known statements others later last r s = record { statements_are = r.0 ∙ sym s.0; later_is = sym r.1 ∙ s.1 }
same-texts n file (text ∷ texts) known statements others later last r s =
    let t = same-text n file text known r.0 s.0 r.1 s.1 r.3 s.3 in
    let on : ReadTexts n (file + 1) texts s.1 r.2 later = subst (λ (k : Known). ReadTexts n (file + 1) texts k r.2 later) t.later_is r.5 in
    let u = same-texts n (file + 1) texts s.1 r.2 s.2 later last on s.5 in
    record {
      statements_are = r.4 ∙ ap (λ (x : List Stated). statements_in parts.Initial x ++ r.2) t.stated_is ∙ ap (λ (x : List Statement). statements_in parts.Initial s.0 ++ x) u.statements_are ∙ sym s.4;
      later_is = u.later_is;
    }

pub one-program : (texts : List (List ℕ)) (a b : Program) → IsProgram texts a → IsProgram texts b → a ≡ b
one-program texts a b p q =
    let s = same-texts levels 1 texts unknown a.statements b.statements p.later q.later p.reads q.reads in
    let x : a.symbols ≡ b.symbols = p.symbols_are ∙ ap (λ (k : Known). k.symbols) s.later_is ∙ sym q.symbols_are in
    let y : a.statements ≡ b.statements = s.statements_are in
    ap (λ (l : List Statement). record a { statements = l }) y ∙ ap (λ (l : List _). record b { symbols = l }) x

-- ---- a text with a fault is none

text-begins : (n : ℕ) (known later : Known) (words front : List Word) (word : Word) (behind : List Word) (stated : List Stated) → IsText n (at known words) stated (at later []) → words ≡ front ++ word ∷ behind → Begins (IsText n) known (front ++ word ∷ [])
text-begins n known later words front word behind stated items whole =
    record {
      more = behind;
      thing = stated;
      later = later;
      reads = subst (λ (ws : List Word). IsText n (at known ws) stated (at later [])) (whole ∙ sym (append_assoc front (word ∷ []) behind)) items;
    }

stops-no : (n : ℕ) (known later : Known) (words front rest : List Word) (fault : Option LexFault) (end place : Place) (stated : List Stated) → IsText n (at known words) stated (at later []) → words ≡ front ++ rest → Stops n known front rest fault end place → ⊥
stops-no n known later words front [] fault end place stated items whole stops =
    stops.2 (record { thing = stated; later = later; reads = (n, subst (λ (ws : List Word). IsText n (at known ws) stated (at later [])) (whole ∙ append-nil front) items) })
stops-no n known later words front (word ∷ behind) fault end place stated items whole stops =
    stops.1 (some-level IsText n known (front ++ word ∷ []) (text-begins n known later words front word behind stated items whole))

lexical-no : (n : ℕ) (known : Known) (words : List Word) (fault : Option LexFault) (first : LexFault) → IsLexicalAt n known words fault first → fault ≡ None → ⊥
lexical-no n known words fault first l none = let e : Some first ≡ None = sym l.fault_is ∙ none in absurd cc

words-no : (n : ℕ) (known later : Known) (words : List Word) (lexical : Option LexFault) (end : Place) (fault : ReadFault) (stated : List Stated) → IsText n (at known words) stated (at later []) → lexical ≡ None → FaultOfWords n known words lexical end fault → ⊥
words-no n known later words lexical end (faults.BadByte place) stated items none stands = lexical-no n known words lexical _ stands none
words-no n known later words lexical end (faults.NumberRange place) stated items none stands = lexical-no n known words lexical _ stands none
words-no n known later words lexical end (faults.TooDeep place) stated items none stands = stands.none (text-begins n known later words stands.front stands.word stands.behind stated items stands.whole)
words-no n known later words lexical end (faults.Syntax place) stated items none stands = stops-no n known later words stands.front stands.rest lexical end place stated items stands.whole stands.stops
words-no n known later words lexical end faults.Memory stated items none stands = stands

pub text-no : (n file : ℕ) (text : List ℕ) (known : Known) (fault : ReadFault) (stated : List Stated) (later : Known) → FaultOfText n file text known fault → ReadsText n file text known stated later → ⊥
text-no n file text known fault stated later f r =
    let w = same-words n file text known stated later r f.words f.lexical f.end f.lexed in
    words-no n known later f.words f.lexical f.end fault stated (subst (λ (ws : List Word). IsText n (at known ws) stated (at later [])) (sym w.0) r.items) w.1 f.stands

texts-no : (n file : ℕ) (texts : List (List ℕ)) (known : Known) (fault : ReadFault) (statements : List Statement) (later : Known) → FaultOfTexts n file texts known fault → ReadTexts n file texts known statements later → ⊥
texts-no n file [] known fault statements later f r = f
texts-no n file (text ∷ texts) known fault statements later (inl f) r = text-no n file text known fault r.0 r.1 f r.3
texts-no n file (text ∷ texts) known fault statements later (inr f) r =
    let t = same-text n file text known f.0 r.0 f.1 r.1 f.2 r.3 in
    texts-no n (file + 1) texts r.1 fault r.2 later (subst (λ (k : Known). FaultOfTexts n (file + 1) texts k fault) t.later_is f.3) r.5

pub fault-no_program : (texts : List (List ℕ)) (fault : ReadFault) (program : Program) → IsFirstFault texts fault → IsProgram texts program → ⊥
fault-no_program texts fault program f p = texts-no levels 1 texts unknown fault program.statements p.later f p.reads
