-- What the readers give of texts is the program that the texts are, or their first fault.
use Rattle.std.proofs.Common.{◌≡◌, ℕ, zero, suc, ◌+◌, List, [], ◌∷◌, ◌++◌, length, Option, Some, None, refl, sym, ap, subst, ◌∙◌, inl, inr}
use Rattle.std.specs.Prelude.{◌≢◌, Result, Ok, Err, IfOk, IfErr}
use Rattle.std.proofs.lemmas.Bool.{cases_Bool}
use Rattle.tel_base.specs.declared.places.Place.{Place}
use Rattle.tel_lex.specs.declared.fault.LexFault.{LexFault}
use Rattle.tel_lex.specs.declared.fault.LexFault.TheVariants as lexing
use Rattle.tel_term.specs.declared.terms.Term.{Term}
use Rattle.tel_rule.specs.declared.statements.Statement.{Statement}
use Rattle.tel_rule.specs.declared.statements.Program.{Program}
use Rattle.formula_syntax.specs.Points.{Word, Known, Point, Read}
use Rattle.grammar_laws.specs.Points.{at, begins}
use Rattle.grammar_laws.specs.Refusals.{Begins}
use Rattle.grammar_laws.specs.Steps.{Why, Unexpected, Deep, Got, Stuck, at_most}
use Rattle.grammar_laws.proofs.Readers.{round, at_most-more, at_most-end}
use Rattle.part_syntax.specs.declared.fault.ReadFault.{ReadFault}
use Rattle.part_syntax.specs.declared.fault.ReadFault.TheVariants as faults
use Rattle.part_syntax.specs.Grammar.{IsItem, Stated, IsText, afresh}
use Rattle.part_syntax.specs.Reading.{read_stated, read_text, starts_item}
use Rattle.part_syntax.specs.Programs.{levels, unknown, ReadsText, ReadTexts, IsProgram, FaultOfWords, FaultOfText, FaultOfTexts, IsFirstFault}
use Rattle.part_syntax.specs.Outcomes.{lexical, left_over, stuck_at, fault_of, knowing, TextReads, TextFails, TextsRead, TextsFail}
use Rattle.part_syntax.proofs.TextOutcomes.{text-whole, text-ended, text-stuck, text-short, text-deep, begun-whole, begun-short, deep-some}

-- ---- the variables of the statement before don't matter

same-afresh : (known : Known) (symbols : List Term) → known.symbols ≡ symbols → afresh known ≡ knowing symbols
same-afresh known symbols same = ap knowing same

-- items read where only the names and strings are known
record Elsewhere (n : ℕ) (known : Known) (words : List Word) (stated : List Stated) (later : Known) : Type 0 where
  known_then : Known
  items : IsText n (at known words) stated (at known_then [])
  symbols_are : known_then.symbols ≡ later.symbols

elsewhere : (n : ℕ) (known : Known) (symbols : List Term) (words : List Word) (stated : List Stated) (later : Known) → known.symbols ≡ symbols → IsText n (at (knowing symbols) words) stated (at later []) → Elsewhere n known words stated later
elsewhere n known symbols words [] later same items =
    let ends : words ≡ [] = ap (λ (p : Point). p.words) items in
    record { known_then = known; items = ap (at known) ends; symbols_are = same ∙ ap (λ (p : Point). p.known.symbols) items }
elsewhere n known symbols words (first ∷ more) later same items =
    let s = items.1 in
    record {
      known_then = later;
      items = (items.0, record { word = s.word; behind = s.behind; first = s.first; reads = subst (λ (k : Known). IsItem n (at k words) first.item items.0) (sym (same-afresh known symbols same)) s.reads; place_is = s.place_is; vars_are = s.vars_are }, items.2);
      symbols_are = refl;
    }

round-same : (n m : ℕ) (known : Known) (symbols : List Term) (words : List Word) → known.symbols ≡ symbols → round (read_stated n) (at_most m starts_item (read_stated n)) (at known words) ≡ round (read_stated n) (at_most m starts_item (read_stated n)) (at (knowing symbols) words)
round-same n m known symbols words same = ap (λ (s : List Term). round (read_stated n) (at_most m starts_item (read_stated n)) (at (knowing s) words)) same

rounds-same : (n m : ℕ) (known : Known) (symbols : List Term) (words : List Word) (fault : Option LexFault) (end : Place) → known.symbols ≡ symbols → fault_of fault end (at_most m starts_item (read_stated n) (at known words)) ≡ fault_of fault end (at_most m starts_item (read_stated n) (at (knowing symbols) words))
rounds-same n zero known symbols words fault end same = refl
rounds-same n (suc m) known symbols words fault end same = elim (cases_Bool (begins starts_item words)) [
  | inl is ↦ ap (fault_of fault end) (at_most-more m starts_item (read_stated n) (at known words) is ∙ round-same n m known symbols words same ∙ sym (at_most-more m starts_item (read_stated n) (at (knowing symbols) words) is))
  | inr isnt ↦ ap (fault_of fault end) (at_most-end (suc m) starts_item (read_stated n) (at known words) isnt) ∙ sym (ap (fault_of fault end) (at_most-end (suc m) starts_item (read_stated n) (at (knowing symbols) words) isnt))
]

fault-same : (n : ℕ) (known : Known) (symbols : List Term) (words : List Word) (fault : Option LexFault) (end : Place) → known.symbols ≡ symbols → fault_of fault end (read_text n (at known words)) ≡ fault_of fault end (read_text n (at (knowing symbols) words))
fault-same n known symbols words fault end same = rounds-same n (length words) known symbols words fault end same

-- ---- one text

text-reads_from : (n file : ℕ) (text : List ℕ) (known : Known) (symbols : List Term) (statements : List Statement) (later : List Term) → known.symbols ≡ symbols → (r : TextReads n file text symbols statements later) → (then_known : Known) × (ReadsText n file text known r.read.stated then_known) × (then_known.symbols ≡ later)
text-reads_from n file text known symbols statements later same r =
    let items = text-whole n (knowing symbols) r.read.known r.words r.read.stated r.read.reads in
    let e = elsewhere n known symbols r.words r.read.stated r.read.known same items in
    (e.known_then, record { words = r.words; end = r.end; lexed = r.lexed; items = e.items }, e.symbols_are ∙ sym r.read.later_is)

-- a lexical fault of words that begin a text
lexical-stands : (n : ℕ) (known : Known) (words : List Word) (end : Place) (first : LexFault) (why : ReadFault) → why ≢ faults.Memory → lexical first ≡ why → Begins (IsText n) known words → FaultOfWords n known words (Some first) end why
lexical-stands n known words end (lexing.BadByte place) why some is begun = subst (λ (f : ReadFault). FaultOfWords n known words (Some (lexing.BadByte place)) end f) is (record { fault_is = refl; begun = begun })
lexical-stands n known words end (lexing.NumberRange place) why some is begun = subst (λ (f : ReadFault). FaultOfWords n known words (Some (lexing.NumberRange place)) end f) is (record { fault_is = refl; begun = begun })
lexical-stands n known words end lexing.Memory why some is begun = absurd (some (sym is))

some-same : (a b : ReadFault) → Some a ≡ Some b → a ≡ b
some-same a b e = cc

ended-stands : (n : ℕ) (known : Known) (words : List Word) (fault : Option LexFault) (end : Place) (why : ReadFault) (stated : List Stated) (later : Known) (left : List Word) → why ≢ faults.Memory → read_text n (at known words) ≡ Got stated (at later left) → left_over fault left ≡ Some why → FaultOfWords n known words fault end why
ended-stands n known words fault end why stated later (word ∷ behind) some is fails =
    subst (λ (f : ReadFault). FaultOfWords n known words fault end f) (some-same (faults.Syntax word.place) why fails) (text-ended n known words stated later word behind fault end is)
ended-stands n known words (Some first) end why stated later [] some is fails =
    lexical-stands n known words end first why some (some-same (lexical first) why fails) (begun-whole n known later words stated is)
ended-stands n known words None end why stated later [] some is fails = absurd cc

stuck-stands : (n : ℕ) (known : Known) (words : List Word) (fault : Option LexFault) (end : Place) (why : ReadFault) (reason : Why) (rest : List Word) → why ≢ faults.Memory → read_text n (at known words) ≡ Stuck reason rest → stuck_at fault end reason rest ≡ why → FaultOfWords n known words fault end why
stuck-stands n known words fault end why Deep [] some is fails = absurd (deep-some n known words is)
stuck-stands n known words None end why Unexpected [] some is fails = subst (λ (f : ReadFault). FaultOfWords n known words None end f) fails (text-short n known words end is)
stuck-stands n known words (Some first) end why Unexpected [] some is fails = lexical-stands n known words end first why some fails (begun-short n known words is)
stuck-stands n known words fault end why Unexpected (word ∷ behind) some is fails = subst (λ (f : ReadFault). FaultOfWords n known words fault end f) fails (text-stuck n known words word behind fault end is)
stuck-stands n known words fault end why Deep (word ∷ behind) some is fails = subst (λ (f : ReadFault). FaultOfWords n known words fault end f) fails (text-deep n known words word behind is)

words-stand : (n : ℕ) (known : Known) (words : List Word) (fault : Option LexFault) (end : Place) (why : ReadFault) (out : Read (List Stated)) → why ≢ faults.Memory → read_text n (at known words) ≡ out → fault_of fault end out ≡ Some why → FaultOfWords n known words fault end why
words-stand n known words fault end why (Got stated to) some is fails = ended-stands n known words fault end why stated to.known to.words some is fails
words-stand n known words fault end why (Stuck reason rest) some is fails = stuck-stands n known words fault end why reason rest some is (some-same (stuck_at fault end reason rest) why fails)

text-fails_from : (n file : ℕ) (text : List ℕ) (known : Known) (symbols : List Term) (why : ReadFault) → known.symbols ≡ symbols → why ≢ faults.Memory → TextFails n file text symbols why → FaultOfText n file text known why
text-fails_from n file text known symbols why same some f =
    record {
      words = f.words;
      lexical = f.first;
      end = f.end;
      lexed = f.lexed;
      stands = words-stand n known f.words f.first f.end why (read_text n (at known f.words)) some refl (fault-same n known symbols f.words f.first f.end same ∙ f.fails);
    }

-- ---- several texts

texts-read : (n file : ℕ) (texts : List (List ℕ)) (known : Known) (symbols : List Term) (statements : List Statement) (later : List Term) → known.symbols ≡ symbols → TextsRead n file texts symbols statements later → (then_known : Known) × (ReadTexts n file texts known statements then_known) × (then_known.symbols ≡ later)
texts-read n file [] known symbols statements later same r = (known, (r.0, refl), same ∙ r.1)
texts-read n file (text ∷ texts) known symbols statements later same r =
    let one = text-reads_from n file text known symbols r.0 r.1 same r.3 in
    let more = texts-read n (file + 1) texts one.0 r.1 r.2 later one.2 r.5 in
    (more.0, (r.3.read.stated, one.0, r.2, one.1, r.4 ∙ ap (λ (x : List Statement). x ++ r.2) r.3.read.statements_are, more.1), more.2)

texts-fail : (n file : ℕ) (texts : List (List ℕ)) (known : Known) (symbols : List Term) (why : ReadFault) → known.symbols ≡ symbols → why ≢ faults.Memory → TextsFail n file texts symbols why → FaultOfTexts n file texts known why
texts-fail n file [] known symbols why same some f = f
texts-fail n file (text ∷ texts) known symbols why same some (inl f) = inl (text-fails_from n file text known symbols why same some f)
texts-fail n file (text ∷ texts) known symbols why same some (inr f) =
    let one = text-reads_from n file text known symbols f.0 f.1 same f.2 in
    inr (f.2.read.stated, one.0, one.1, texts-fail n (file + 1) texts one.0 f.1 why one.2 some f.3)

pub program-read : (texts : List (List ℕ)) (program : Program) → TextsRead 63 1 texts [] program.statements program.symbols → IsProgram texts program
unfolding levels
program-read texts program r =
    let t = texts-read 63 1 texts unknown [] program.statements program.symbols refl r in
    record { later = t.0; reads = t.1; symbols_are = sym t.2 }

pub program-fails : (texts : List (List ℕ)) (why : ReadFault) → why ≢ faults.Memory → TextsFail 63 1 texts [] why → IsFirstFault texts why
unfolding levels
program-fails texts why some f = texts-fail 63 1 texts unknown [] why refl some f

-- what holds of the program that was read
pub if_read : (texts : List (List ℕ)) (result : Result Program ReadFault) (P : Program → Type 0) → ((program : Program) → IsProgram texts program → P program) → IfOk result (λ program. TextsRead 63 1 texts [] program.statements program.symbols) → IfOk result P
if_read texts (Ok program) P holds r = holds program (program-read texts program r)
if_read texts (Err why) P holds r = r

-- what holds of the fault that was found
pub if_failed : (texts : List (List ℕ)) (result : Result Program ReadFault) (P : ReadFault → Type 0) → ((why : ReadFault) → IsFirstFault texts why → P why) → IfErr result (λ why. why ≢ faults.Memory → TextsFail 63 1 texts [] why) → IfErr result (λ why. why ≢ faults.Memory → P why)
if_failed texts (Ok program) P holds f = f
if_failed texts (Err why) P holds f = λ some. holds why (program-fails texts why some (f some))
