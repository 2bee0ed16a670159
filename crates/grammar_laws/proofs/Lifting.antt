-- Tests that are apart, words that pass, and what a level more changes.
use Rattle.std.proofs.Common.{◌≡◌, ℕ, Bool, true, false, List, [], ◌∷◌, Option, Some, None, inl, inr}
use Rattle.grammar_laws.specs.Points.{Point}
use Rattle.grammar_laws.specs.Shapes.{Grammar, One, Then, Made, Either, Each, Maybe}
use Rattle.grammar_laws.specs.Steps.{Reader, made, one, both, either, maybe}
use Rattle.grammar_laws.proofs.Readers.{Near}
use Rattle.grammar_laws.proofs.Levels.{Raises, one-raises, made-raises, both-raises, either-raises, maybe-raises}

module _ {Word : Type 0} where
  -- words that pass one test pass no other one
  abbrev pub Apart : (Word → Bool) → (Word → Bool) → Type 0
  Apart test other = (word : Word) → test word ≡ true → other word ≡ false

module _ {Word Known : Type 0} where
  -- what is read with a level more
  pub record Lifts {A : Type 0} (F G : Grammar Word Known A) (read higher : Reader Word Known A) : Type 0 where
    pub raises : Raises read higher
    pub wider : (from : Point Word Known) (thing : A) (to : Point Word Known) → F from thing to → G from thing to

  -- a word that passes
  pub record Passing {A : Type 0} (value : Word → Option (Known → A × Known)) : Type 0 where
    pub word : Word
    pub make : Known → A × Known
    pub gives : value word ≡ Some make

  pub one-lifts : {A : Type 0} (value : Word → Option (Known → A × Known)) → Lifts (One value) (One value) (one value) (one value)
  one-lifts value = record { raises = one-raises value; wider = λ from thing to reads. reads }

  pub made-lifts : {A B : Type 0} (make : A → B) (F G : Grammar Word Known A) (read higher : Reader Word Known A) → Lifts F G read higher → Lifts (Made make F) (Made make G) (made make read) (made make higher)
  made-lifts make F G read higher l = record {
    raises = made-raises make read higher l.raises;
    wider = λ from thing to m. record { of = m.of; reads = l.wider from m.of to m.reads; made = m.made };
  }

  pub then-lifts : {A B : Type 0} (F F' : Grammar Word Known A) (G G' : Grammar Word Known B) (first first' : Reader Word Known A) (second second' : Reader Word Known B) → Lifts F F' first first' → Lifts G G' second second' → ((from : Point Word Known) → Near first' from (first' from)) → Lifts (Then F G) (Then F' G') (both first second) (both first' second')
  then-lifts F F' G G' first first' second second' f g near = record {
    raises = both-raises first first' second second' f.raises g.raises near;
    wider = λ from thing to t. record { middle = t.middle; first = f.wider from thing.0 t.middle t.first; second = g.wider t.middle thing.1 to t.second };
  }

  pub either-lifts : {A : Type 0} (F F' G G' : Grammar Word Known A) (test : Word → Bool) (first first' second second' : Reader Word Known A) → Lifts F F' first first' → Lifts G G' second second' → Lifts (Either F G) (Either F' G') (either test first second) (either test first' second')
  either-lifts F F' G G' test first first' second second' f g = record {
    raises = either-raises test first second first' second' f.raises g.raises;
    wider = λ from thing to reads. elim reads [ inl a ↦ inl (f.wider from thing to a) | inr b ↦ inr (g.wider from thing to b) ];
  }

  pub each-wider : {A : Type 0} (F G : Grammar Word Known A) → ((from : Point Word Known) (thing : A) (to : Point Word Known) → F from thing to → G from thing to) → (from : Point Word Known) (things : List A) (to : Point Word Known) → Each F from things to → Each G from things to
  each-wider F G wider from [] to same = same
  each-wider F G wider from (thing ∷ things) to r = (r.0, wider from thing r.0 r.1, each-wider F G wider r.0 things to r.2)

  maybe-wider : {A : Type 0} (F G : Grammar Word Known A) → ((from : Point Word Known) (thing : A) (to : Point Word Known) → F from thing to → G from thing to) → (from : Point Word Known) (thing : Option A) (to : Point Word Known) → Maybe F from thing to → Maybe G from thing to
  maybe-wider F G wider from None to same = same
  maybe-wider F G wider from (Some thing) to r = wider from thing to r

  pub maybe-lifts : {A : Type 0} (F G : Grammar Word Known A) (read higher : Reader Word Known A) (test : Word → Bool) → Lifts F G read higher → Lifts (Maybe F) (Maybe G) (maybe test read) (maybe test higher)
  maybe-lifts F G read higher test l = record { raises = maybe-raises test read higher l.raises; wider = maybe-wider F G l.wider }
