-- A first part that may take no word, and takes one where its words begin.
use Rattle.std.proofs.Common.{◌≡◌, ℕ, suc, ◌<◌, Bool, true, false, List, [], ◌∷◌, length, Some, refl, sym, ap, ◌∙◌, arith, inl, inr, ◌||◌}
use Rattle.std.proofs.lemmas.List.{length-append}
use Rattle.std.proofs.lemmas.Bool.{cases_Bool, false≢true}
use Rattle.grammar_laws.specs.Points.{Point, at, begins}
use Rattle.grammar_laws.specs.Shapes.{Grammar}
use Rattle.grammar_laws.specs.Steps.{Unexpected, Got, Reader, map_read, both, at_most, each, maybe, or_also}
use Rattle.grammar_laws.proofs.Readers.{then-got, map-got, then-stuck, map-stuck, at_most-more, at_most-sound, each-length}
use Rattle.grammar_laws.proofs.Steady.{Takes, Moves, near-stuck}
use Rattle.grammar_laws.proofs.ReadBy.{Read_by, Opened_by}

module _ {Word : Type 0} where
  second-begins : (a b : Word → Bool) (words : List Word) → begins a words ≡ false → begins (or_also a b) words ≡ true → begins b words ≡ true
  second-begins a b [] isnt is = absurd (false≢true is)
  second-begins a b (word ∷ words) isnt is = or-other (a word) (b word) isnt is where
    or-other : (c d : Bool) → c ≡ false → (c || d) ≡ true → d ≡ true
    or-other true d isnt' is' = absurd (false≢true (sym isnt'))
    or-other false d isnt' is' = is'

module _ {Word Known : Type 0} where
  pub record Gains {A : Type 0} (read : Reader Word Known A) (starts : Word → Bool) : Type 0 where
    pub gain : (from : Point Word Known) (thing : A) (to : Point Word Known) → begins starts from.words ≡ true → read from ≡ Got thing to → length to.words < length from.words

  maybe-some : {A : Type 0} (read : Reader Word Known A) (starts : Word → Bool) (from : Point Word Known) → begins starts from.words ≡ true → maybe starts read from ≡ map_read Some (read from)
  maybe-some read starts from is = rw is refl

  pub maybe-gains : {A : Type 0} (F : Grammar Word Known A) (read : Reader Word Known A) (starts more : Word → Bool) → Read_by F read starts more → Gains (maybe starts read) starts
  maybe-gains F read starts more k = record {
    gain = λ from thing to is e.
        let g = map-got Some (read from) thing to (sym (maybe-some read starts from is) ∙ e) in
        k.begun.less from g.of to (k.reads.sound from g.of to g.one_is);
  }

  pub at_most-gains : {A : Type 0} (most : ℕ) (F : Grammar Word Known A) (read : Reader Word Known A) (starts more : Word → Bool) → Read_by F read starts more → Gains (at_most (suc most) starts read) starts
  at_most-gains {A = A} most F read starts more k = record {
    gain = λ from things to is e.
        let t = then-got (read from) (λ (thing : A) (p : Point Word Known). map_read (λ (things : List A). thing ∷ things) (at_most most starts read p)) things to (sym (at_most-more most starts read from is) ∙ e) in
        let m = map-got (λ (things : List A). t.of ∷ things) (at_most most starts read t.middle) things to t.two_is in
        omega (arith, k.begun.less from t.of t.middle (k.reads.sound from t.of t.middle t.one_is), each-length F starts k.begun t.middle m.of to (at_most-sound most F starts read k.reads.sound t.middle m.of to m.one_is).1);
  }

  each-gain : {A : Type 0} (F : Grammar Word Known A) (read : Reader Word Known A) (starts more : Word → Bool) → Read_by F read starts more → (known : Known) (words : List Word) (things : List A) (to : Point Word Known) → begins starts words ≡ true → at_most (length words) starts read (at known words) ≡ Got things to → length to.words < length words
  each-gain F read starts more k known [] things to is e = absurd (false≢true is)
  each-gain F read starts more k known (word ∷ words) things to is e = (at_most-gains (length words) F read starts more k).gain (at known (word ∷ words)) things to is e

  pub each-gains : {A : Type 0} (F : Grammar Word Known A) (read : Reader Word Known A) (starts more : Word → Bool) → Read_by F read starts more → Gains (each starts read) starts
  each-gains F read starts more k = record { gain = λ from things to is e. each-gain F read starts more k from.known from.words things to is e }

  pub from-takes : {A B : Type 0} (F : Grammar Word Known A) (G : Grammar Word Known B) (first : Reader Word Known A) (second : Reader Word Known B) (startsF moreF startsG moreG : Word → Bool) → Opened_by F first startsF moreF → Moves first → Gains first startsF → Read_by G second startsG moreG → Takes second startsG → Takes (both first second) (or_also startsF startsG)
  from-takes {A = A} {B = B} F G first second startsF moreF startsG moreG f moves gains g takes = record {
    take = λ from rest is e.
        elim (then-stuck (first from) (λ (a : A) (p : Point Word Known). map_read (λ (b : B). (a, b)) (second p)) Unexpected rest e) [
          | inl stuck ↦ moves.move from rest stuck
          | inr later ↦
              let s = map-stuck (λ (b : B). (later.of, b)) (second later.middle) Unexpected rest later.two_is in
              let n = near-stuck second later.middle Unexpected rest (g.reads.near later.middle) s in
              elim (cases_Bool (begins startsF from.words)) [
                | inl a ↦ omega (arith, gains.gain from later.of later.middle a later.one_is, ap length n.whole, length-append n.front rest)
                | inr b ↦ elim (f.opens.some from later.of later.middle (f.reads.sound from later.of later.middle later.one_is)) [
                  | inl same ↦ omega (arith, takes.take later.middle rest (ap (λ (p : Point Word Known). begins startsG p.words) (sym same) ∙ second-begins startsF startsG from.words b is) s, ap (λ (p : Point Word Known). length p.words) same)
                  | inr c ↦ absurd (false≢true (sym b ∙ c))
                ]
              ]
        ];
  }
