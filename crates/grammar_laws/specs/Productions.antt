-- Productions as data: what one means, with which words it begins, and how it is read.
use Rattle.std.specs.Prelude.{ℕ, Bool, true, false, List, Option}
use Rattle.grammar_laws.specs.Shapes.{Grammar, One, Then, Made, Either, Each, AtMost, Maybe}
use Rattle.grammar_laws.specs.Steps.{Reader, made, one, both, either, at_most, each, maybe, passes, or_also}

-- the first and the second of two things
abbrev pub first_of : {A B : Type 0} → A × B → A
first_of pair = pair.0

abbrev pub behind : {A B : Type 0} → A × B → B
behind pair = pair.1

-- A production of things of a type, made of terminals, which are words, and of things that are given. The Bool says whether it
-- may take no word.
pub data Production (T : Type 0) (WordOf : T → Type 0) (I : Type 0) (Of : I → Type 0) : Bool → Type 0 → Type 1 where
  terminal : (t : T) → Production T WordOf I Of false (WordOf t)
  given : (i : I) → Production T WordOf I Of false (Of i)
  -- a thing behind a word, and before one, whose values are dropped
  led : {A : Type 0} → T → Production T WordOf I Of false A → Production T WordOf I Of false A
  ended : {A : Type 0} → Production T WordOf I Of false A → T → Production T WordOf I Of false A
  ended_from : {A : Type 0} → Production T WordOf I Of true A → T → Production T WordOf I Of false A
  -- a thing made of another one; two things, where none, the second or the first may take no word; one of two
  made_of : {A B : Type 0} → (A → B) → Production T WordOf I Of false A → Production T WordOf I Of false B
  and : {A B : Type 0} → Production T WordOf I Of false A → Production T WordOf I Of false B → Production T WordOf I Of false (A × B)
  and_on : {A B : Type 0} → Production T WordOf I Of false A → Production T WordOf I Of true B → Production T WordOf I Of false (A × B)
  and_from : {A B : Type 0} → Production T WordOf I Of true A → Production T WordOf I Of false B → Production T WordOf I Of false (A × B)
  or : {A : Type 0} → Production T WordOf I Of false A → Production T WordOf I Of false A → Production T WordOf I Of false A
  -- any number of things, at most so many, and one or none
  many : {A : Type 0} → Production T WordOf I Of false A → Production T WordOf I Of true (List A)
  few : {A : Type 0} → ℕ → Production T WordOf I Of false A → Production T WordOf I Of true (List A)
  perhaps : {A : Type 0} → Production T WordOf I Of false A → Production T WordOf I Of true (Option A)

-- the grammar of a production, for those of the things that are given
abbrev pub means : {Word Known T I : Type 0} {WordOf : T → Type 0} {Of : I → Type 0} → ((t : T) → Word → Option (Known → WordOf t × Known)) → ((i : I) → Grammar Word Known (Of i)) → {b : Bool} {A : Type 0} → Production T WordOf I Of b A → Grammar Word Known A
means value G (terminal t) = One (value t)
means value G (given i) = G i
means value G (led t p) = Made behind (Then (One (value t)) (means value G p))
means value G (ended p t) = Made first_of (Then (means value G p) (One (value t)))
means value G (ended_from p t) = Made first_of (Then (means value G p) (One (value t)))
means value G (made_of make p) = Made make (means value G p)
means value G (and p q) = Then (means value G p) (means value G q)
means value G (and_on p q) = Then (means value G p) (means value G q)
means value G (and_from p q) = Then (means value G p) (means value G q)
means value G (or p q) = Either (means value G p) (means value G q)
means value G (many p) = Each (means value G p)
means value G (few most p) = AtMost most (means value G p)
means value G (perhaps p) = Maybe (means value G p)

-- the words that a production begins with, where those of the given things are known
abbrev pub begun_by : {Word Known T I : Type 0} {WordOf : T → Type 0} {Of : I → Type 0} → ((t : T) → Word → Option (Known → WordOf t × Known)) → (I → Word → Bool) → {b : Bool} {A : Type 0} → Production T WordOf I Of b A → Word → Bool
begun_by value starts (terminal t) = passes (value t)
begun_by value starts (given i) = starts i
begun_by value starts (led t p) = passes (value t)
begun_by value starts (ended p t) = begun_by value starts p
begun_by value starts (ended_from p t) = or_also (begun_by value starts p) (passes (value t))
begun_by value starts (made_of make p) = begun_by value starts p
begun_by value starts (and p q) = begun_by value starts p
begun_by value starts (and_on p q) = begun_by value starts p
begun_by value starts (and_from p q) = or_also (begun_by value starts p) (begun_by value starts q)
begun_by value starts (or p q) = or_also (begun_by value starts p) (begun_by value starts q)
begun_by value starts (many p) = begun_by value starts p
begun_by value starts (few most p) = begun_by value starts p
begun_by value starts (perhaps p) = begun_by value starts p

-- the reader of a production, which looks at one word to choose
abbrev pub reader : {Word Known T I : Type 0} {WordOf : T → Type 0} {Of : I → Type 0} → ((t : T) → Word → Option (Known → WordOf t × Known)) → (I → Word → Bool) → ((i : I) → Reader Word Known (Of i)) → {b : Bool} {A : Type 0} → Production T WordOf I Of b A → Reader Word Known A
reader value starts read (terminal t) = one (value t)
reader value starts read (given i) = read i
reader value starts read (led t p) = made behind (both (one (value t)) (reader value starts read p))
reader value starts read (ended p t) = made first_of (both (reader value starts read p) (one (value t)))
reader value starts read (ended_from p t) = made first_of (both (reader value starts read p) (one (value t)))
reader value starts read (made_of make p) = made make (reader value starts read p)
reader value starts read (and p q) = both (reader value starts read p) (reader value starts read q)
reader value starts read (and_on p q) = both (reader value starts read p) (reader value starts read q)
reader value starts read (and_from p q) = both (reader value starts read p) (reader value starts read q)
reader value starts read (or p q) = either (begun_by value starts p) (reader value starts read p) (reader value starts read q)
reader value starts read (many p) = each (begun_by value starts p) (reader value starts read p)
reader value starts read (few most p) = at_most most (begun_by value starts p) (reader value starts read p)
reader value starts read (perhaps p) = maybe (begun_by value starts p) (reader value starts read p)
