-- The words of a text, all of them, and the fault of a text.
use Rattle.std.proofs.Common.{◌≡◌, ℕ, List, [], ◌∷◌, ◌++◌, Option, Some, None, refl, sym, ap, ◌∙◌}
use Rattle.std.specs.Prelude.{◌≢◌}
use Rattle.tel_base.specs.declared.places.Place.{Place}
use Rattle.tel_lex.specs.declared.fault.LexFault.{LexFault}
use Rattle.tel_term.specs.declared.terms.Term.{Term}
use Rattle.tel_rule.specs.declared.parts.Part.TheVariants as parts
use Rattle.tel_rule.specs.declared.statements.Statement.{Statement}
use Rattle.formula_syntax.specs.Points.{Word, Point, Read}
use Rattle.grammar_laws.specs.Points.{at}
use Rattle.grammar_laws.specs.Steps.{Why, Got, Stuck, made, each}
use Rattle.formula_syntax.specs.declared.reading.Stop.{Stop}
use Rattle.formula_syntax.specs.declared.reading.Stop.TheVariants as stops
use Rattle.formula_syntax.specs.Given.{why_of}
use Rattle.grammar_laws.proofs.Readers.{map-got, map-stuck}
use Rattle.part_syntax.specs.declared.fault.ReadFault.{ReadFault}
use Rattle.part_syntax.specs.declared.fault.ReadFault.TheVariants as faults
use Rattle.part_syntax.specs.Grammar.{Stated, statements_in}
use Rattle.part_syntax.specs.Reading.{read_text, starts_item}
use Rattle.part_syntax.specs.Given.{forgotten, fresh_stated}
use Rattle.part_syntax.specs.Outcomes.{left_over, stuck_at, fault_of, knowing, WordsRead}
use Rattle.part_syntax.proofs.Fresh.{cleared, fresh_text}

pub no_vars : (symbols : List Term) (vars : List (List ℕ)) (words : List Word) → vars ≡ [] → at (record { symbols = symbols; vars = vars }) words ≡ at (knowing symbols) words
no_vars symbols vars words is = ap (λ (xs : List (List ℕ)). at (record { symbols = symbols; vars = xs }) words) is

record Forgot {A : Type 0} (out : Read A) (thing : A) (to : Point) : Type 0 where
  place : Point
  is : out ≡ Got thing place
  same : cleared place ≡ to

forgot_got : {A : Type 0} (out : Read A) (thing : A) (to : Point) → forgotten out ≡ Got thing to → Forgot out thing to
forgot_got {A = A} (Got thing' place) thing to is = let a : thing' ≡ thing = cc in let b : cleared place ≡ to = cc in record { place = place; is = ap (λ (x : A). Got x place) a; same = b }
forgot_got (Stuck why rest) thing to is = absurd cc

forgot_stuck : {A : Type 0} (out : Read A) (why : Why) (rest : List Word) → forgotten out ≡ Stuck why rest → out ≡ Stuck why rest
forgot_stuck (Got thing place) why rest is = absurd cc
forgot_stuck (Stuck why' rest') why rest is = is

-- what the statements of a text are made of
pub record TextGot (n : ℕ) (from : Point) (before all : List Statement) (to : Point) : Type 0 where
  pub stated : List Stated
  pub place : Point
  pub reads : read_text n from ≡ Got stated place
  pub all_is : all ≡ before ++ statements_in parts.Initial stated
  pub symbols_are : place.known.symbols ≡ to.known.symbols
  pub words_are : place.words ≡ to.words

pub text_got : (n : ℕ) (from : Point) (before all : List Statement) (to : Point) → made (λ (stated : List Stated). before ++ statements_in parts.Initial stated) (each starts_item (fresh_stated n)) from ≡ Got all to → TextGot n from before all to
text_got n from before all to is =
    let m = map-got (λ (stated : List Stated). before ++ statements_in parts.Initial stated) (each starts_item (fresh_stated n) from) all to is in
    let f = forgot_got (read_text n from) m.of (cleared to) (fresh_text n from ∙ ap (λ (x : Read (List Stated)). forgotten x) m.one_is) in
    record {
      stated = m.of;
      place = f.place;
      reads = f.is;
      all_is = m.thing_is;
      symbols_are = ap (λ (p : Point). p.known.symbols) f.same;
      words_are = ap (λ (p : Point). p.words) f.same;
    }

pub text_stuck : (n : ℕ) (from : Point) (before : List Statement) (why : Why) (rest : List Word) → made (λ (stated : List Stated). before ++ statements_in parts.Initial stated) (each starts_item (fresh_stated n)) from ≡ Stuck why rest → read_text n from ≡ Stuck why rest
text_stuck n from before why rest is =
    let m = map-stuck (λ (stated : List Stated). before ++ statements_in parts.Initial stated) (each starts_item (fresh_stated n) from) why rest is in
    forgot_stuck (read_text n from) why rest (fresh_text n from ∙ ap (λ (x : Read (List Stated)). forgotten x) m)

nothing_left : (fault : Option LexFault) (words : List Word) → left_over fault words ≡ None → (fault ≡ None) × (words ≡ [])
nothing_left fault (word ∷ words) is = absurd cc
nothing_left None [] is = (refl, refl)
nothing_left (Some fault) [] is = absurd cc

-- a text whose items leave nothing over
pub words_whole : (n : ℕ) (from : Point) (words : List Word) (symbols : List Term) (before all : List Statement) (to : Point) (fault : Option LexFault) (left : List Word) (later : List Term) → from ≡ at (knowing symbols) words →
    made (λ (stated : List Stated). before ++ statements_in parts.Initial stated) (each starts_item (fresh_stated n)) from ≡ Got all to → left ≡ to.words → later ≡ to.known.symbols → None ≡ left_over fault left →
    (fault ≡ None) × (first : List Statement) × (all ≡ before ++ first) × WordsRead n words symbols first later
words_whole n from words symbols before all to fault left later starts is left_is named none =
    let g = text_got n from before all to is in
    let e = nothing_left fault to.words (ap (left_over fault) (sym left_is) ∙ sym none) in
    let ends : g.place ≡ at g.place.known [] = ap (λ (ws : List Word). at g.place.known ws) (g.words_are ∙ e.1) in (
      e.0,
      statements_in parts.Initial g.stated,
      g.all_is,
      record {
        stated = g.stated;
        known = g.place.known;
        reads = ap (read_text n) (sym starts) ∙ g.reads ∙ ap (λ (p : Point). Got g.stated p) ends;
        statements_are = refl;
        later_is = named ∙ sym g.symbols_are;
      },
    )

pub words_left : (n : ℕ) (from : Point) (words : List Word) (symbols : List Term) (before all : List Statement) (to : Point) (fault : Option LexFault) (end : Place) (why : ReadFault) (left : List Word) → from ≡ at (knowing symbols) words →
    made (λ (stated : List Stated). before ++ statements_in parts.Initial stated) (each starts_item (fresh_stated n)) from ≡ Got all to → left ≡ to.words → Some why ≡ left_over fault left →
    fault_of fault end (read_text n (at (knowing symbols) words)) ≡ Some why
words_left n from words symbols before all to fault end why left starts is left_is some =
    let g = text_got n from before all to is in
    ap (λ (p : Point). fault_of fault end (read_text n p)) (sym starts) ∙ ap (fault_of fault end) g.reads ∙ ap (left_over fault) (g.words_are ∙ sym left_is) ∙ sym some

pub words_stuck : (n : ℕ) (from : Point) (words : List Word) (symbols : List Term) (before : List Statement) (to : Point) (fault : Option LexFault) (end : Place) (stop : Stop) (why : ReadFault) (left : List Word) → from ≡ at (knowing symbols) words →
    (stop ≢ stops.Memory → made (λ (stated : List Stated). before ++ statements_in parts.Initial stated) (each starts_item (fresh_stated n)) from ≡ Stuck (why_of stop) to.words) →
    left ≡ to.words → (stop ≢ stops.Memory → why ≡ stuck_at fault end (why_of stop) left) → (stop ≡ stops.Memory → why ≡ faults.Memory) → why ≢ faults.Memory →
    fault_of fault end (read_text n (at (knowing symbols) words)) ≡ Some why
words_stuck n from words symbols before to fault end stop why left starts is left_is other memory some =
    let not_memory : stop ≢ stops.Memory = λ (e : stop ≡ stops.Memory). some (memory e) in
    let t = text_stuck n from before (why_of stop) to.words (is not_memory) in
    ap (λ (p : Point). fault_of fault end (read_text n p)) (sym starts) ∙ ap (fault_of fault end) t ∙ ap Some (ap (stuck_at fault end (why_of stop)) (sym left_is) ∙ sym (other not_memory))
