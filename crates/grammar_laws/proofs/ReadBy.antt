-- Grammars that are read: with the words that their things begin and go on with, and one level more.
use Rattle.std.proofs.Common.{ℕ, Bool, Option, refl}
use Rattle.grammar_laws.specs.Points.{Point}
use Rattle.grammar_laws.specs.Shapes.{Grammar, One, Then, Made, Either, Each, AtMost, Maybe, After}
use Rattle.grammar_laws.specs.Steps.{Reader, made, one, both, either, at_most, each, maybe, after, passes, or_also}
use Rattle.grammar_laws.proofs.Dependents.{after-reads, after-starts}
use Rattle.grammar_laws.proofs.Readers.{Near, Reads, Starts, Opens, nothing, one-reads, one-starts, made-reads, made-starts, both-reads, both-reads_on, both-starts, both-starts_on, either-reads, either-starts, maybe-reads, maybe-opens, at_most-reads, at_most-opens, each-reads, each-opens}
use Rattle.grammar_laws.proofs.Levels.{each-raises, at_most-raises, after-raises}
use Rattle.grammar_laws.proofs.Lifting.{Lifts, Apart, Passing, each-wider}

module _ {Word Known : Type 0} where
  pub record Read_by {A : Type 0} (F : Grammar Word Known A) (read : Reader Word Known A) (starts more : Word → Bool) : Type 0 where
    pub reads : Reads F read more
    pub begun : Starts F starts

  -- of things that may take no word
  pub record Opened_by {A : Type 0} (F : Grammar Word Known A) (read : Reader Word Known A) (starts more : Word → Bool) : Type 0 where
    pub reads : Reads F read more
    pub opens : Opens F starts

  pub one-read : {A : Type 0} (value : Word → Option (Known → A × Known)) → Passing value → Read_by (One value) (one value) (passes value) nothing
  one-read value p = record { reads = one-reads value p.word p.make p.gives; begun = one-starts value }

  pub made-read : {A B : Type 0} (make : A → B) (F : Grammar Word Known A) (read : Reader Word Known A) (starts more : Word → Bool) → Read_by F read starts more → Read_by (Made make F) (made make read) starts more
  made-read make F read starts more k = record { reads = made-reads make F read more k.reads; begun = made-starts make F starts k.begun }

  pub then-read : {A B : Type 0} (F : Grammar Word Known A) (G : Grammar Word Known B) (first : Reader Word Known A) (second : Reader Word Known B) (startsF moreF startsG moreG : Word → Bool) → Read_by F first startsF moreF → Read_by G second startsG moreG → Apart startsG moreF → Read_by (Then F G) (both first second) startsF moreG
  then-read F G first second startsF moreF startsG moreG f g apart = record { reads = both-reads F G first second moreF moreG startsG f.reads g.reads g.begun apart; begun = both-starts F G second startsF moreG f.begun g.reads }

  pub then-read_on : {A B : Type 0} (F : Grammar Word Known A) (G : Grammar Word Known B) (first : Reader Word Known A) (second : Reader Word Known B) (startsF moreF startsG moreG : Word → Bool) → Read_by F first startsF moreF → Opened_by G second startsG moreG → Apart startsG moreF → Read_by (Then F G) (both first second) startsF (or_also moreF moreG)
  then-read_on F G first second startsF moreF startsG moreG f g apart = record { reads = both-reads_on F G first second moreF moreG startsG f.reads g.reads g.opens apart; begun = both-starts F G second startsF moreG f.begun g.reads }

  pub then-read_from : {A B : Type 0} (F : Grammar Word Known A) (G : Grammar Word Known B) (first : Reader Word Known A) (second : Reader Word Known B) (startsF moreF startsG moreG : Word → Bool) → Opened_by F first startsF moreF → Read_by G second startsG moreG → Apart startsG moreF → Read_by (Then F G) (both first second) (or_also startsF startsG) moreG
  then-read_from F G first second startsF moreF startsG moreG f g apart = record { reads = both-reads F G first second moreF moreG startsG f.reads g.reads g.begun apart; begun = both-starts_on F G first moreF startsF startsG f.reads f.opens g.begun }

  pub either-read : {A : Type 0} (F G : Grammar Word Known A) (first second : Reader Word Known A) (startsF moreF startsG moreG : Word → Bool) → Read_by F first startsF moreF → Read_by G second startsG moreG → Apart startsG startsF → Read_by (Either F G) (either startsF first second) (or_also startsF startsG) (or_also moreF moreG)
  either-read F G first second startsF moreF startsG moreG f g apart = record { reads = either-reads F G first second moreF moreG startsF startsG f.reads g.reads f.begun g.begun apart; begun = either-starts F G startsF startsG f.begun g.begun }

  pub maybe-opened : {A : Type 0} (F : Grammar Word Known A) (read : Reader Word Known A) (starts more : Word → Bool) → Read_by F read starts more → Opened_by (Maybe F) (maybe starts read) starts (or_also starts more)
  maybe-opened F read starts more k = record { reads = maybe-reads F read more starts k.reads k.begun; opens = maybe-opens F starts k.begun }

  -- an operator and what stands behind it
  pub operand-read : {A B : Type 0} (op : Word → Option (Known → A × Known)) (F : Grammar Word Known B) (read : Reader Word Known B) (starts more : Word → Bool) → Passing op → Read_by F read starts more → Read_by (Then (One op) F) (both (one op) read) (passes op) more
  operand-read op F read starts more p k = then-read (One op) F (one op) read (passes op) nothing starts more (one-read op p) k (λ word is. refl)

  pub each-opened : {A : Type 0} (F : Grammar Word Known A) (read : Reader Word Known A) (starts more : Word → Bool) → Read_by F read starts more → Apart starts more → Opened_by (Each F) (each starts read) starts (or_also starts more)
  each-opened F read starts more k apart = record { reads = each-reads F read more starts k.reads k.begun apart; opens = each-opens F starts k.begun }

  pub at_most-opened : {A : Type 0} (most : ℕ) (F : Grammar Word Known A) (read : Reader Word Known A) (starts more : Word → Bool) → Read_by F read starts more → Apart starts more → Opened_by (AtMost most F) (at_most most starts read) starts (or_also starts more)
  at_most-opened most F read starts more k apart = record { reads = at_most-reads most F read more starts k.reads k.begun apart; opens = at_most-opens most F starts k.begun }

  pub each-lifts : {A : Type 0} (F G : Grammar Word Known A) (read higher : Reader Word Known A) (starts more : Word → Bool) → Lifts F G read higher → Read_by G higher starts more → Lifts (Each F) (Each G) (each starts read) (each starts higher)
  each-lifts F G read higher starts more l k = record { raises = each-raises G read higher more starts k.reads k.begun l.raises; wider = each-wider F G l.wider }

  pub at_most-lifts : {A : Type 0} (most : ℕ) (F G : Grammar Word Known A) (read higher : Reader Word Known A) (starts : Word → Bool) → Lifts F G read higher → ((from : Point Word Known) → Near higher from (higher from)) → Lifts (AtMost most F) (AtMost most G) (at_most most starts read) (at_most most starts higher)
  at_most-lifts most F G read higher starts l near = record { raises = at_most-raises most starts read higher l.raises near; wider = λ from things to r. (r.0, each-wider F G l.wider from things to r.1) }

  pub after-read : {A B : Type 0} (F : Grammar Word Known A) (G : A → Grammar Word Known B) (first : Reader Word Known A) (second : A → Reader Word Known B) (startsF moreF startsG moreG : Word → Bool) → Read_by F first startsF moreF → ((a : A) → Read_by (G a) (second a) startsG moreG) → Apart startsG moreF → Read_by (After F G) (after first second) startsF moreG
  after-read F G first second startsF moreF startsG moreG f g apart = record {
    reads = after-reads F G first second moreF moreG startsG f.reads (λ a. (g a).reads) (λ a. (g a).begun) apart;
    begun = after-starts F G startsF f.begun (λ a. (g a).reads.framed);
  }

  pub after-lifts : {A B : Type 0} (F F' : Grammar Word Known A) (G G' : A → Grammar Word Known B) (first first' : Reader Word Known A) (second second' : A → Reader Word Known B) → Lifts F F' first first' → ((a : A) → Lifts (G a) (G' a) (second a) (second' a)) → ((from : Point Word Known) → Near first' from (first' from)) → Lifts (After F G) (After F' G') (after first second) (after first' second')
  after-lifts F F' G G' first first' second second' f g near = record {
    raises = after-raises first first' second second' f.raises (λ a. (g a).raises) near;
    wider = λ from thing to t. record { of = t.of; middle = t.middle; first = f.wider from t.of t.middle t.first; second = (g t.of).wider t.middle thing to t.second };
  }
