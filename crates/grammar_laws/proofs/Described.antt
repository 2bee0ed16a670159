-- The reader of a production reads its grammar, where no word both begins a part and goes on with the one before.
use Rattle.std.proofs.Common.{◌≡◌, Bool, true, false, List, [], ◌++◌, Option, refl, ◌&&◌, ℕ, nat_lt}
use Rattle.std.proofs.lemmas.Bool.{false≢true}
use Rattle.grammar_laws.specs.Points.{Point}
use Rattle.grammar_laws.specs.Shapes.{Grammar, One, Then, Made}
use Rattle.grammar_laws.specs.Steps.{Reader, made, one, both, passes, or_also}
use Rattle.grammar_laws.specs.Productions.{Production, terminal, given, led, ended, ended_from, made_of, and, and_on, and_from, or, many, few, perhaps, means, begun_by, reader, first_of, behind}
use Rattle.grammar_laws.proofs.Readers.{Near, nothing}
use Rattle.grammar_laws.proofs.Lifting.{Lifts, Apart, Passing, one-lifts, made-lifts, then-lifts, either-lifts, maybe-lifts}
use Rattle.grammar_laws.proofs.ReadBy.{Read_by, Opened_by, one-read, operand-read, made-read, then-read, then-read_on, then-read_from, either-read, maybe-opened, each-opened, at_most-opened, each-lifts, at_most-lifts}
use Rattle.grammar_laws.proofs.Sets.{LiesIn, member, none_of, and-first, and-second, or-lies, apart-by}

-- the terminals, each with a set of words, which have numbers; and what begins and goes on with the things that are given, as tests and as such sets
pub record Words (Word Known T : Type 0) (WordOf : T → Type 0) (I : Type 0) : Type 0 where
  pub code : Word → ℕ
  pub value : (t : T) → Word → Option (Known → WordOf t × Known)
  pub some : (t : T) → Passing (value t)
  pub word_set : T → List ℕ
  pub word_in : (t : T) → LiesIn code (passes (value t)) (word_set t)
  pub starts : I → Word → Bool
  pub more : I → Word → Bool
  pub start_set : I → List ℕ
  pub more_set : I → List ℕ
  pub starts_in : (i : I) → LiesIn code (starts i) (start_set i)
  pub more_in : (i : I) → LiesIn code (more i) (more_set i)

module _ {Word Known T I : Type 0} {WordOf : T → Type 0} {Of : I → Type 0} (e : Words Word Known T WordOf I) where
  -- the words that go on with a production
  abbrev pub gone_on_by : {b : Bool} {A : Type 0} → Production T WordOf I Of b A → Word → Bool
  gone_on_by (terminal t) = nothing
  gone_on_by (given i) = e.more i
  gone_on_by (led t p) = gone_on_by p
  gone_on_by (ended p t) = nothing
  gone_on_by (ended_from p t) = nothing
  gone_on_by (made_of make p) = gone_on_by p
  gone_on_by (and p q) = gone_on_by q
  gone_on_by (and_on p q) = or_also (gone_on_by p) (gone_on_by q)
  gone_on_by (and_from p q) = gone_on_by q
  gone_on_by (or p q) = or_also (gone_on_by p) (gone_on_by q)
  gone_on_by (many p) = or_also (begun_by e.value e.starts p) (gone_on_by p)
  gone_on_by (few most p) = or_also (begun_by e.value e.starts p) (gone_on_by p)
  gone_on_by (perhaps p) = or_also (begun_by e.value e.starts p) (gone_on_by p)

  -- what begins it and goes on with it, as sets
  abbrev pub begun_set : {b : Bool} {A : Type 0} → Production T WordOf I Of b A → List ℕ
  begun_set (terminal t) = e.word_set t
  begun_set (given i) = e.start_set i
  begun_set (led t p) = e.word_set t
  begun_set (ended p t) = begun_set p
  begun_set (ended_from p t) = begun_set p ++ e.word_set t
  begun_set (made_of make p) = begun_set p
  begun_set (and p q) = begun_set p
  begun_set (and_on p q) = begun_set p
  begun_set (and_from p q) = begun_set p ++ begun_set q
  begun_set (or p q) = begun_set p ++ begun_set q
  begun_set (many p) = begun_set p
  begun_set (few most p) = begun_set p
  begun_set (perhaps p) = begun_set p

  abbrev pub more_set : {b : Bool} {A : Type 0} → Production T WordOf I Of b A → List ℕ
  more_set (terminal t) = []
  more_set (given i) = e.more_set i
  more_set (led t p) = more_set p
  more_set (ended p t) = []
  more_set (ended_from p t) = []
  more_set (made_of make p) = more_set p
  more_set (and p q) = more_set q
  more_set (and_on p q) = more_set p ++ more_set q
  more_set (and_from p q) = more_set q
  more_set (or p q) = more_set p ++ more_set q
  more_set (many p) = begun_set p ++ more_set p
  more_set (few most p) = begun_set p ++ more_set p
  more_set (perhaps p) = begun_set p ++ more_set p

  -- no word both begins the next part and goes on with the one before, or begins both of two
  abbrev pub fine : {b : Bool} {A : Type 0} → Production T WordOf I Of b A → Bool
  fine (terminal t) = true
  fine (given i) = true
  fine (led t p) = fine p
  fine (ended p t) = none_of (e.word_set t) (more_set p) && fine p
  fine (ended_from p t) = none_of (e.word_set t) (more_set p) && fine p
  fine (made_of make p) = fine p
  fine (and p q) = none_of (begun_set q) (more_set p) && (fine p && fine q)
  fine (and_on p q) = none_of (begun_set q) (more_set p) && (fine p && fine q)
  fine (and_from p q) = none_of (begun_set q) (more_set p) && (fine p && fine q)
  fine (or p q) = none_of (begun_set q) (begun_set p) && (fine p && fine q)
  fine (many p) = none_of (begun_set p) (more_set p) && fine p
  fine (few most p) = nat_lt 0 most && (none_of (begun_set p) (more_set p) && fine p)
  fine (perhaps p) = fine p

  pub begun-lies : {b : Bool} {A : Type 0} (p : Production T WordOf I Of b A) (w : Word) → begun_by e.value e.starts p w ≡ true → member (e.code w) (begun_set p) ≡ true
  begun-lies (terminal t) w is = e.word_in t w is
  begun-lies (given i) w is = e.starts_in i w is
  begun-lies (led t p) w is = e.word_in t w is
  begun-lies (ended p t) w is = begun-lies p w is
  begun-lies (ended_from p t) w is = or-lies e.code (begun_by e.value e.starts p) (passes (e.value t)) (begun_set p) (e.word_set t) (begun-lies p) (e.word_in t) w is
  begun-lies (made_of make p) w is = begun-lies p w is
  begun-lies (and p q) w is = begun-lies p w is
  begun-lies (and_on p q) w is = begun-lies p w is
  begun-lies (and_from p q) w is = or-lies e.code (begun_by e.value e.starts p) (begun_by e.value e.starts q) (begun_set p) (begun_set q) (begun-lies p) (begun-lies q) w is
  begun-lies (or p q) w is = or-lies e.code (begun_by e.value e.starts p) (begun_by e.value e.starts q) (begun_set p) (begun_set q) (begun-lies p) (begun-lies q) w is
  begun-lies (many p) w is = begun-lies p w is
  begun-lies (few most p) w is = begun-lies p w is
  begun-lies (perhaps p) w is = begun-lies p w is

  pub more-lies : {b : Bool} {A : Type 0} (p : Production T WordOf I Of b A) (w : Word) → gone_on_by p w ≡ true → member (e.code w) (more_set p) ≡ true
  more-lies (terminal t) w is = absurd (false≢true is)
  more-lies (given i) w is = e.more_in i w is
  more-lies (led t p) w is = more-lies p w is
  more-lies (ended p t) w is = absurd (false≢true is)
  more-lies (ended_from p t) w is = absurd (false≢true is)
  more-lies (made_of make p) w is = more-lies p w is
  more-lies (and p q) w is = more-lies q w is
  more-lies (and_on p q) w is = or-lies e.code (gone_on_by p) (gone_on_by q) (more_set p) (more_set q) (more-lies p) (more-lies q) w is
  more-lies (and_from p q) w is = more-lies q w is
  more-lies (or p q) w is = or-lies e.code (gone_on_by p) (gone_on_by q) (more_set p) (more_set q) (more-lies p) (more-lies q) w is
  more-lies (many p) w is = or-lies e.code (begun_by e.value e.starts p) (gone_on_by p) (begun_set p) (more_set p) (begun-lies p) (more-lies p) w is
  more-lies (few most p) w is = or-lies e.code (begun_by e.value e.starts p) (gone_on_by p) (begun_set p) (more_set p) (begun-lies p) (more-lies p) w is
  more-lies (perhaps p) w is = or-lies e.code (begun_by e.value e.starts p) (gone_on_by p) (begun_set p) (more_set p) (begun-lies p) (more-lies p) w is

  -- what begins the second goes on with no first one
  pub apart-next : {b c : Bool} {A B : Type 0} (p : Production T WordOf I Of b A) (q : Production T WordOf I Of c B) → none_of (begun_set q) (more_set p) ≡ true → Apart (begun_by e.value e.starts q) (gone_on_by p)
  apart-next p q ok = apart-by e.code (begun_by e.value e.starts q) (gone_on_by p) (begun_set q) (more_set p) (begun-lies q) (more-lies p) ok

  -- what begins one begins no other one
  pub apart-begun : {b c : Bool} {A B : Type 0} (p : Production T WordOf I Of b A) (q : Production T WordOf I Of c B) → none_of (begun_set q) (begun_set p) ≡ true → Apart (begun_by e.value e.starts q) (begun_by e.value e.starts p)
  apart-begun p q ok = apart-by e.code (begun_by e.value e.starts q) (begun_by e.value e.starts p) (begun_set q) (begun_set p) (begun-lies q) (begun-lies p) ok

module _ {Word Known : Type 0} where
  -- what is shown of a production
  abbrev pub Fact : Bool → {A : Type 0} → Grammar Word Known A → Reader Word Known A → (Word → Bool) → (Word → Bool) → Type 0
  Fact false F read starts more = Read_by F read starts more
  Fact true F read starts more = Opened_by F read starts more

  fact-near : (b : Bool) {A : Type 0} (F : Grammar Word Known A) (read : Reader Word Known A) (starts more : Word → Bool) → Fact b F read starts more → (from : Point Word Known) → Near read from (read from)
  fact-near false F read starts more f = f.reads.near
  fact-near true F read starts more f = f.reads.near

module _ {Word Known T I : Type 0} {WordOf : T → Type 0} {Of : I → Type 0} (e : Words Word Known T WordOf I) (G : (i : I) → Grammar Word Known (Of i)) (read : (i : I) → Reader Word Known (Of i)) (k : (i : I) → Read_by (G i) (read i) (e.starts i) (e.more i)) where
  -- the reader reads the grammar
  pub reads-it : {b : Bool} {A : Type 0} (p : Production T WordOf I Of b A) → fine e p ≡ true → Fact b (means e.value G p) (reader e.value e.starts read p) (begun_by e.value e.starts p) (gone_on_by e p)
  reads-it (terminal t) ok = one-read (e.value t) (e.some t)
  reads-it (given i) ok = k i
  reads-it (led t p) ok =
      made-read behind (Then (One (e.value t)) (means e.value G p)) (both (one (e.value t)) (reader e.value e.starts read p)) (passes (e.value t)) (gone_on_by e p)
      (operand-read (e.value t) (means e.value G p) (reader e.value e.starts read p) (begun_by e.value e.starts p) (gone_on_by e p) (e.some t) (reads-it p ok))
  reads-it (ended p t) ok =
      made-read first_of (Then (means e.value G p) (One (e.value t))) (both (reader e.value e.starts read p) (one (e.value t))) (begun_by e.value e.starts p) nothing
      (then-read (means e.value G p) (One (e.value t)) (reader e.value e.starts read p) (one (e.value t)) (begun_by e.value e.starts p) (gone_on_by e p) (passes (e.value t)) nothing
      (reads-it p (and-second (none_of (e.word_set t) (more_set e p)) (fine e p) ok)) (one-read (e.value t) (e.some t)) (apart-next e p (terminal t) (and-first (none_of (e.word_set t) (more_set e p)) (fine e p) ok)))
  reads-it (ended_from p t) ok =
      made-read first_of (Then (means e.value G p) (One (e.value t))) (both (reader e.value e.starts read p) (one (e.value t))) (or_also (begun_by e.value e.starts p) (passes (e.value t))) nothing
      (then-read_from (means e.value G p) (One (e.value t)) (reader e.value e.starts read p) (one (e.value t)) (begun_by e.value e.starts p) (gone_on_by e p) (passes (e.value t)) nothing
      (reads-it p (and-second (none_of (e.word_set t) (more_set e p)) (fine e p) ok)) (one-read (e.value t) (e.some t)) (apart-next e p (terminal t) (and-first (none_of (e.word_set t) (more_set e p)) (fine e p) ok)))
  reads-it (made_of make p) ok = made-read make (means e.value G p) (reader e.value e.starts read p) (begun_by e.value e.starts p) (gone_on_by e p) (reads-it p ok)
  reads-it (and p q) ok =
      let parts = and-second (none_of (begun_set e q) (more_set e p)) (fine e p && fine e q) ok in
      then-read (means e.value G p) (means e.value G q) (reader e.value e.starts read p) (reader e.value e.starts read q) (begun_by e.value e.starts p) (gone_on_by e p) (begun_by e.value e.starts q) (gone_on_by e q)
      (reads-it p (and-first (fine e p) (fine e q) parts)) (reads-it q (and-second (fine e p) (fine e q) parts)) (apart-next e p q (and-first (none_of (begun_set e q) (more_set e p)) (fine e p && fine e q) ok))
  reads-it (and_on p q) ok =
      let parts = and-second (none_of (begun_set e q) (more_set e p)) (fine e p && fine e q) ok in
      then-read_on (means e.value G p) (means e.value G q) (reader e.value e.starts read p) (reader e.value e.starts read q) (begun_by e.value e.starts p) (gone_on_by e p) (begun_by e.value e.starts q) (gone_on_by e q)
      (reads-it p (and-first (fine e p) (fine e q) parts)) (reads-it q (and-second (fine e p) (fine e q) parts)) (apart-next e p q (and-first (none_of (begun_set e q) (more_set e p)) (fine e p && fine e q) ok))
  reads-it (and_from p q) ok =
      let parts = and-second (none_of (begun_set e q) (more_set e p)) (fine e p && fine e q) ok in
      then-read_from (means e.value G p) (means e.value G q) (reader e.value e.starts read p) (reader e.value e.starts read q) (begun_by e.value e.starts p) (gone_on_by e p) (begun_by e.value e.starts q) (gone_on_by e q)
      (reads-it p (and-first (fine e p) (fine e q) parts)) (reads-it q (and-second (fine e p) (fine e q) parts)) (apart-next e p q (and-first (none_of (begun_set e q) (more_set e p)) (fine e p && fine e q) ok))
  reads-it (or p q) ok =
      let parts = and-second (none_of (begun_set e q) (begun_set e p)) (fine e p && fine e q) ok in
      either-read (means e.value G p) (means e.value G q) (reader e.value e.starts read p) (reader e.value e.starts read q) (begun_by e.value e.starts p) (gone_on_by e p) (begun_by e.value e.starts q) (gone_on_by e q)
      (reads-it p (and-first (fine e p) (fine e q) parts)) (reads-it q (and-second (fine e p) (fine e q) parts)) (apart-begun e p q (and-first (none_of (begun_set e q) (begun_set e p)) (fine e p && fine e q) ok))
  reads-it (many p) ok =
      each-opened (means e.value G p) (reader e.value e.starts read p) (begun_by e.value e.starts p) (gone_on_by e p)
      (reads-it p (and-second (none_of (begun_set e p) (more_set e p)) (fine e p) ok)) (apart-next e p p (and-first (none_of (begun_set e p) (more_set e p)) (fine e p) ok))
  reads-it (few most p) ok =
      let apart = and-second (nat_lt 0 most) (none_of (begun_set e p) (more_set e p) && fine e p) ok in
      at_most-opened most (means e.value G p) (reader e.value e.starts read p) (begun_by e.value e.starts p) (gone_on_by e p)
      (reads-it p (and-second (none_of (begun_set e p) (more_set e p)) (fine e p) apart)) (apart-next e p p (and-first (none_of (begun_set e p) (more_set e p)) (fine e p) apart))
  reads-it (perhaps p) ok = maybe-opened (means e.value G p) (reader e.value e.starts read p) (begun_by e.value e.starts p) (gone_on_by e p) (reads-it p ok)

  pub near-it : {b : Bool} {A : Type 0} (p : Production T WordOf I Of b A) → fine e p ≡ true → (from : Point Word Known) → Near (reader e.value e.starts read p) from (reader e.value e.starts read p from)
  near-it {b = b} p ok = fact-near b (means e.value G p) (reader e.value e.starts read p) (begun_by e.value e.starts p) (gone_on_by e p) (reads-it p ok)

-- and what it reads with a level more
module _ {Word Known T I : Type 0} {WordOf : T → Type 0} {Of : I → Type 0} (e : Words Word Known T WordOf I) (F G : (i : I) → Grammar Word Known (Of i)) (read higher : (i : I) → Reader Word Known (Of i)) (l : (i : I) → Lifts (F i) (G i) (read i) (higher i)) (k : (i : I) → Read_by (G i) (higher i) (e.starts i) (e.more i)) where
  abbrev Up : {b : Bool} {A : Type 0} → Production T WordOf I Of b A → Type 0
  Up p = Lifts (means e.value F p) (means e.value G p) (reader e.value e.starts read p) (reader e.value e.starts higher p)

  two : {b c : Bool} {A B : Type 0} (p : Production T WordOf I Of b A) (q : Production T WordOf I Of c B) → fine e p ≡ true → Up p → Up q → Lifts (Then (means e.value F p) (means e.value F q)) (Then (means e.value G p) (means e.value G q)) (both (reader e.value e.starts read p) (reader e.value e.starts read q)) (both (reader e.value e.starts higher p) (reader e.value e.starts higher q))
  two p q ok a b = then-lifts (means e.value F p) (means e.value G p) (means e.value F q) (means e.value G q) (reader e.value e.starts read p) (reader e.value e.starts higher p) (reader e.value e.starts read q) (reader e.value e.starts higher q) a b (near-it e G higher k p ok)

  before : {b : Bool} {A : Type 0} (p : Production T WordOf I Of b A) (t : T) → fine e p ≡ true → Up p → Lifts (Made first_of (Then (means e.value F p) (One (e.value t)))) (Made first_of (Then (means e.value G p) (One (e.value t)))) (made first_of (both (reader e.value e.starts read p) (one (e.value t)))) (made first_of (both (reader e.value e.starts higher p) (one (e.value t))))
  before p t ok a = made-lifts first_of (Then (means e.value F p) (One (e.value t))) (Then (means e.value G p) (One (e.value t))) (both (reader e.value e.starts read p) (one (e.value t))) (both (reader e.value e.starts higher p) (one (e.value t))) (two p (terminal t) ok a (one-lifts (e.value t)))

  pub lifts-it : {b : Bool} {A : Type 0} (p : Production T WordOf I Of b A) → fine e p ≡ true → Up p
  lifts-it (terminal t) ok = one-lifts (e.value t)
  lifts-it (given i) ok = l i
  lifts-it (led t p) ok =
      made-lifts behind (Then (One (e.value t)) (means e.value F p)) (Then (One (e.value t)) (means e.value G p)) (both (one (e.value t)) (reader e.value e.starts read p)) (both (one (e.value t)) (reader e.value e.starts higher p)) (two (terminal t) p refl (one-lifts (e.value t)) (lifts-it p ok))
  lifts-it (ended p t) ok = let part = and-second (none_of (e.word_set t) (more_set e p)) (fine e p) ok in before p t part (lifts-it p part)
  lifts-it (ended_from p t) ok = let part = and-second (none_of (e.word_set t) (more_set e p)) (fine e p) ok in before p t part (lifts-it p part)
  lifts-it (made_of make p) ok = made-lifts make (means e.value F p) (means e.value G p) (reader e.value e.starts read p) (reader e.value e.starts higher p) (lifts-it p ok)
  lifts-it (and p q) ok =
      let parts = and-second (none_of (begun_set e q) (more_set e p)) (fine e p && fine e q) ok in
      two p q (and-first (fine e p) (fine e q) parts) (lifts-it p (and-first (fine e p) (fine e q) parts)) (lifts-it q (and-second (fine e p) (fine e q) parts))
  lifts-it (and_on p q) ok =
      let parts = and-second (none_of (begun_set e q) (more_set e p)) (fine e p && fine e q) ok in
      two p q (and-first (fine e p) (fine e q) parts) (lifts-it p (and-first (fine e p) (fine e q) parts)) (lifts-it q (and-second (fine e p) (fine e q) parts))
  lifts-it (and_from p q) ok =
      let parts = and-second (none_of (begun_set e q) (more_set e p)) (fine e p && fine e q) ok in
      two p q (and-first (fine e p) (fine e q) parts) (lifts-it p (and-first (fine e p) (fine e q) parts)) (lifts-it q (and-second (fine e p) (fine e q) parts))
  lifts-it (or p q) ok =
      let parts = and-second (none_of (begun_set e q) (begun_set e p)) (fine e p && fine e q) ok in
      either-lifts (means e.value F p) (means e.value G p) (means e.value F q) (means e.value G q) (begun_by e.value e.starts p) (reader e.value e.starts read p) (reader e.value e.starts higher p) (reader e.value e.starts read q) (reader e.value e.starts higher q) (lifts-it p (and-first (fine e p) (fine e q) parts)) (lifts-it q (and-second (fine e p) (fine e q) parts))
  lifts-it (many p) ok =
      let part = and-second (none_of (begun_set e p) (more_set e p)) (fine e p) ok in
      each-lifts (means e.value F p) (means e.value G p) (reader e.value e.starts read p) (reader e.value e.starts higher p) (begun_by e.value e.starts p) (gone_on_by e p) (lifts-it p part) (reads-it e G higher k p part)
  lifts-it (few most p) ok =
      let part = and-second (none_of (begun_set e p) (more_set e p)) (fine e p) (and-second (nat_lt 0 most) (none_of (begun_set e p) (more_set e p) && fine e p) ok) in
      at_most-lifts most (means e.value F p) (means e.value G p) (reader e.value e.starts read p) (reader e.value e.starts higher p) (begun_by e.value e.starts p) (lifts-it p part) (near-it e G higher k p part)
  lifts-it (perhaps p) ok = maybe-lifts (means e.value F p) (means e.value G p) (reader e.value e.starts read p) (reader e.value e.starts higher p) (begun_by e.value e.starts p) (lifts-it p ok)
