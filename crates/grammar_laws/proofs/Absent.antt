-- Where a production doesn't begin nothing is read, and one word alone is none that has two.
use Rattle.std.proofs.Common.{◌≡◌, Bool, true, false, List, [], ◌∷◌, length, Option, Some, None, refl, sym, ◌∙◌, ◌||◌, ◌&&◌, inl, inr}
use Rattle.std.specs.Prelude.{is_some}
use Rattle.std.proofs.lemmas.Bool.{cases_Bool, false≢true}
use Rattle.grammar_laws.specs.Points.{Point, at, begins}
use Rattle.grammar_laws.specs.Steps.{Unexpected, Got, Stuck, Reader, one, or_also, passes}
use Rattle.grammar_laws.specs.Productions.{Production, terminal, given, led, ended, ended_from, made_of, and, and_on, and_from, or, many, few, perhaps, begun_by, reader}
use Rattle.grammar_laws.proofs.Readers.{at_most-end, either-got}
use Rattle.grammar_laws.proofs.Sets.{and-first, and-second}

module _ {Word : Type 0} where
  pub not-first : (a b : Word → Bool) (words : List Word) → begins (or_also a b) words ≡ false → begins a words ≡ false
  not-first a b [] is = refl
  not-first a b (w ∷ words) is = elim (a w) as (λ (x : Bool). (x || b w) ≡ false → x ≡ false) [ true ↦ λ e. e | false ↦ λ e. refl ] is

  pub not-second : (a b : Word → Bool) (words : List Word) → begins (or_also a b) words ≡ false → begins b words ≡ false
  not-second a b [] is = refl
  not-second a b (w ∷ words) is = elim (a w) as (λ (x : Bool). (x || b w) ≡ false → b w ≡ false) [ true ↦ λ e. absurd (false≢true (sym e)) | false ↦ λ e. e ] is

none-of : {A : Type 0} (o : Option A) → is_some o ≡ false → o ≡ None
none-of None is = refl
none-of (Some a) is = absurd (false≢true (sym is))

record SomeOf {A : Type 0} (o : Option A) : Type 0 where
  value : A
  is : o ≡ Some value

some-of : {A : Type 0} (o : Option A) → is_some o ≡ true → SomeOf o
some-of None is = absurd (false≢true is)
some-of (Some a) is = record { value = a; is = refl }

module _ {Word Known : Type 0} where
  pub record GotAll {A : Type 0} (read : Reader Word Known A) (from : Point Word Known) : Type 0 where
    pub thing : A
    pub known : Known
    pub is : read from ≡ Got thing (at known [])

  pub one-absent : {A : Type 0} (value : Word → Option (Known → A × Known)) (known : Known) (words : List Word) → begins (passes value) words ≡ false → one value (at known words) ≡ Stuck Unexpected words
  one-absent value known [] is = refl
  one-absent value known (w ∷ words) is = rw (none-of (value w) is) refl

  got-one : {A : Type 0} (value : Word → Option (Known → A × Known)) (known : Known) (w : Word) → SomeOf (value w) → GotAll (one value) (at known (w ∷ []))
  got-one value known w s = record { thing = (s.value known).0; known = (s.value known).1; is = rw s.is refl }

  pub one-whole : {A : Type 0} (value : Word → Option (Known → A × Known)) (known : Known) (w : Word) → passes value w ≡ true → GotAll (one value) (at known (w ∷ []))
  one-whole value known w is = got-one value known w (some-of (value w) is)

  abbrev pub Absent : Bool → {A : Type 0} → Reader Word Known A → Point Word Known → Type 0
  Absent false read from = read from ≡ Stuck Unexpected from.words
  Absent true {A = A} read from = (thing : A) × (read from ≡ Got thing from)

  module _ {T I : Type 0} {WordOf : T → Type 0} {Of : I → Type 0} (value : (t : T) → Word → Option (Known → WordOf t × Known)) (starts : I → Word → Bool) (read : (i : I) → Reader Word Known (Of i)) (known : Known) (words : List Word) (given-absent : (i : I) → begins (starts i) words ≡ false → read i (at known words) ≡ Stuck Unexpected words) where
    pub absent-it : {b : Bool} {A : Type 0} (p : Production T WordOf I Of b A) → begins (begun_by value starts p) words ≡ false → Absent b (reader value starts read p) (at known words)
    absent-it (terminal t) is = one-absent (value t) known words is
    absent-it (given i) is = given-absent i is
    absent-it (led t p) is = rw (one-absent (value t) known words is) refl
    absent-it (ended p t) is = rw (absent-it p is) refl
    absent-it (ended_from p t) is =
        let a = absent-it p (not-first (begun_by value starts p) (passes (value t)) words is) in
        let b = one-absent (value t) known words (not-second (begun_by value starts p) (passes (value t)) words is) in
        rw (a.1, b) refl
    absent-it (made_of make p) is = rw (absent-it p is) refl
    absent-it (and p q) is = rw (absent-it p is) refl
    absent-it (and_on p q) is = rw (absent-it p is) refl
    absent-it (and_from p q) is =
        let a = absent-it p (not-first (begun_by value starts p) (begun_by value starts q) words is) in
        let b = absent-it q (not-second (begun_by value starts p) (begun_by value starts q) words is) in
        rw (a.1, b) refl
    absent-it (or p q) is =
        either-got (begun_by value starts p) (reader value starts read p) (reader value starts read q) (at known words) false (not-first (begun_by value starts p) (begun_by value starts q) words is)
        ∙ absent-it q (not-second (begun_by value starts p) (begun_by value starts q) words is)
    absent-it (many p) is = ([], at_most-end (length words) (begun_by value starts p) (reader value starts read p) (at known words) is)
    absent-it (few most p) is = ([], at_most-end most (begun_by value starts p) (reader value starts read p) (at known words) is)
    absent-it (perhaps p) is = (None, rw is refl)

-- productions of two words at least, of which the first is a terminal
module _ {T I : Type 0} {WordOf : T → Type 0} {Of : I → Type 0} where
  abbrev pub one_word : {b : Bool} {A : Type 0} → Production T WordOf I Of b A → Bool
  one_word (terminal t) = true
  one_word _ = false

  abbrev pub longer : {b : Bool} {A : Type 0} → Production T WordOf I Of b A → Bool
  longer (led t p) = true
  longer (made_of make p) = longer p
  longer (and p q) = one_word p
  longer (or p q) = longer p && longer q
  longer _ = false

module _ {Word Known T I : Type 0} {WordOf : T → Type 0} {Of : I → Type 0} (value : (t : T) → Word → Option (Known → WordOf t × Known)) (starts : I → Word → Bool) (read : (i : I) → Reader Word Known (Of i)) (empty : (i : I) (known : Known) → read i (at known []) ≡ Stuck Unexpected []) (known : Known) (w : Word) where
  one-it : {b : Bool} {A : Type 0} (p : Production T WordOf I Of b A) → one_word p ≡ true → begun_by value starts p w ≡ true → GotAll (reader value starts read p) (at known (w ∷ []))
  one-it (terminal t) ok is = one-whole (value t) known w is
  one-it (given i) ok is = absurd (false≢true ok)
  one-it (led t p) ok is = absurd (false≢true ok)
  one-it (ended p t) ok is = absurd (false≢true ok)
  one-it (ended_from p t) ok is = absurd (false≢true ok)
  one-it (made_of make p) ok is = absurd (false≢true ok)
  one-it (and p q) ok is = absurd (false≢true ok)
  one-it (and_on p q) ok is = absurd (false≢true ok)
  one-it (and_from p q) ok is = absurd (false≢true ok)
  one-it (or p q) ok is = absurd (false≢true ok)
  one-it (many p) ok is = absurd (false≢true ok)
  one-it (few most p) ok is = absurd (false≢true ok)
  one-it (perhaps p) ok is = absurd (false≢true ok)

  abbrev Alone : Bool → {A : Type 0} → Reader Word Known A → Type 0
  Alone false read = read (at known (w ∷ [])) ≡ Stuck Unexpected []
  Alone true read = Unit {0}

  or-other : (a b : Bool) → a ≡ false → (a || b) ≡ true → b ≡ true
  or-other true b isnt is = absurd (false≢true (sym isnt))
  or-other false b isnt is = is

  pub alone-it : {b : Bool} {A : Type 0} (p : Production T WordOf I Of b A) → longer p ≡ true → begun_by value starts p w ≡ true → Alone b (reader value starts read p)
  alone-it (terminal t) ok is = absurd (false≢true ok)
  alone-it (given i) ok is = absurd (false≢true ok)
  alone-it (led t p) ok is =
      let g = one-whole (value t) known w is in
      rw (g.is, absent-it value starts read g.known [] (λ i none. empty i g.known) p refl) refl
  alone-it (ended p t) ok is = absurd (false≢true ok)
  alone-it (ended_from p t) ok is = absurd (false≢true ok)
  alone-it (made_of make p) ok is = rw (alone-it p ok is) refl
  alone-it (and p q) ok is =
      let g = one-it p ok is in
      rw (g.is, absent-it value starts read g.known [] (λ i none. empty i g.known) q refl) refl
  alone-it (and_on p q) ok is = absurd (false≢true ok)
  alone-it (and_from p q) ok is = absurd (false≢true ok)
  alone-it (or p q) ok is = elim (cases_Bool (begun_by value starts p w)) [
    | inl a ↦ either-got (begun_by value starts p) (reader value starts read p) (reader value starts read q) (at known (w ∷ [])) true a ∙ alone-it p (and-first (longer p) (longer q) ok) a
    | inr b ↦
        either-got (begun_by value starts p) (reader value starts read p) (reader value starts read q) (at known (w ∷ [])) false b
        ∙ alone-it q (and-second (longer p) (longer q) ok) (or-other (begun_by value starts p w) (begun_by value starts q w) b is)
  ]
  alone-it (many p) ok is = tt
  alone-it (few most p) ok is = tt
  alone-it (perhaps p) ok is = tt
