-- A grammar of one thing and then another, which depends on it, and its reader.
use Rattle.std.proofs.Common.{◌≡◌, Bool, true, false, List, [], ◌++◌, refl, sym, ap, subst, ◌∙◌, append_assoc, arith, inl, inr}
use Rattle.std.proofs.lemmas.List.{append-nil}
use Rattle.grammar_laws.specs.Points.{Point, at}
use Rattle.grammar_laws.specs.Shapes.{Grammar, After}
use Rattle.grammar_laws.specs.Steps.{Why, Read, Stuck, Reader, and_then, after}
use Rattle.grammar_laws.proofs.Readers.{Framed, Goes, Lives, Reads, Starts, apart-ends, near-then, framed-le, then-got, then-stuck}

module _ {Word Known : Type 0} where
  after-framed : {A B : Type 0} (F : Grammar Word Known A) (G : A → Grammar Word Known B) → ((from : Point Word Known) (thing : A) (to : Point Word Known) → F from thing to → Framed F from thing to) → ((a : A) (from : Point Word Known) (thing : B) (to : Point Word Known) → G a from thing to → Framed (G a) from thing to) → (from : Point Word Known) (thing : B) (to : Point Word Known) → After F G from thing to → Framed (After F G) from thing to
  after-framed F G framedF framedG from thing to t =
      let f = framedF from t.of t.middle t.first in
      let g = framedG t.of t.middle thing to t.second in
      record {
        front = f.front ++ g.front;
        whole = f.whole ∙ ap (λ (ws : List Word). f.front ++ ws) g.whole ∙ sym (append_assoc f.front g.front to.words);
        again = λ rest. subst (λ (ws : List Word). After F G (at from.known ws) thing (at to.known rest)) (sym (append_assoc f.front g.front rest))
            (record { of = t.of; middle = at t.middle.known (g.front ++ rest); first = f.again (g.front ++ rest); second = g.again rest });
      }

  after-goes_on : {A B : Type 0} (F : Grammar Word Known A) (G : A → Grammar Word Known B) → ((from : Point Word Known) (thing : A) (to : Point Word Known) → F from thing to → Framed F from thing to) → ((a : A) (known : Known) → Lives (G a) known) → (from : Point Word Known) (rest : List Word) → Goes F from rest → Goes (After F G) from rest
  after-goes_on F G framedF livesG from rest g =
      let l = livesG g.thing g.known in
      let f = framedF (at from.known (g.front ++ g.more)) g.thing (at g.known []) g.reads in
      let e : g.front ++ (g.more ++ l.words) ≡ f.front ++ l.words = sym (append_assoc g.front g.more l.words) ∙ ap (λ (ws : List Word). ws ++ l.words) (f.whole ∙ append-nil f.front) in
      record {
        front = g.front;
        whole = g.whole;
        more = g.more ++ l.words;
        thing = l.thing;
        known = l.later;
        reads = subst (λ (ws : List Word). After F G (at from.known ws) l.thing (at l.later [])) (sym e) (record { of = g.thing; middle = at g.known l.words; first = f.again l.words; second = l.reads });
      }

  after-goes_in : {A B : Type 0} (F : Grammar Word Known A) (G : A → Grammar Word Known B) → ((from : Point Word Known) (thing : A) (to : Point Word Known) → F from thing to → Framed F from thing to) → (from : Point Word Known) (a : A) (middle : Point Word Known) (rest : List Word) → F from a middle → Goes (G a) middle rest → Goes (After F G) from rest
  after-goes_in F G framedF from a middle rest reads g =
      let f = framedF from a middle reads in
      record {
        front = f.front ++ g.front;
        whole = f.whole ∙ ap (λ (ws : List Word). f.front ++ ws) g.whole ∙ sym (append_assoc f.front g.front rest);
        more = g.more;
        thing = g.thing;
        known = g.known;
        reads = subst (λ (ws : List Word). After F G (at from.known ws) g.thing (at g.known [])) (sym (append_assoc f.front g.front g.more)) (record { of = a; middle = at middle.known (g.front ++ g.more); first = f.again (g.front ++ g.more); second = g.reads });
      }

  after-lives : {A B : Type 0} (F : Grammar Word Known A) (G : A → Grammar Word Known B) → ((from : Point Word Known) (thing : A) (to : Point Word Known) → F from thing to → Framed F from thing to) → ((known : Known) → Lives F known) → ((a : A) (known : Known) → Lives (G a) known) → (known : Known) → Lives (After F G) known
  after-lives F G framedF livesF livesG known =
      let l = livesF known in
      let m = livesG l.thing l.later in
      let f = framedF (at known l.words) l.thing (at l.later []) l.reads in
      record {
        words = f.front ++ m.words;
        thing = m.thing;
        later = m.later;
        reads = record { of = l.thing; middle = at l.later m.words; first = f.again m.words; second = m.reads };
      }

  after-goes : {A B : Type 0} (F : Grammar Word Known A) (G : A → Grammar Word Known B) (first : Reader Word Known A) (second : A → Reader Word Known B) (moreF moreG : Word → Bool) → Reads F first moreF → ((a : A) → Reads (G a) (second a) moreG) → (from : Point Word Known) (why : Why) (rest : List Word) → after first second from ≡ Stuck why rest → Goes (After F G) from rest
  after-goes F G first second moreF moreG f g from why rest e =
      elim (then-stuck (first from) second why rest e) [
        | inl stuck ↦ after-goes_on F G f.framed (λ a. (g a).lives) from rest (f.goes from why rest stuck)
        | inr later ↦ after-goes_in F G f.framed from later.of later.middle rest (f.sound from later.of later.middle later.one_is) ((g later.of).goes later.middle why rest later.two_is)
      ]

  pub after-reads : {A B : Type 0} (F : Grammar Word Known A) (G : A → Grammar Word Known B) (first : Reader Word Known A) (second : A → Reader Word Known B) (moreF moreG startsG : Word → Bool) → Reads F first moreF → ((a : A) → Reads (G a) (second a) moreG) → ((a : A) → Starts (G a) startsG) → ((word : Word) → startsG word ≡ true → moreF word ≡ false) → Reads (After F G) (after first second) moreG
  after-reads {A = A} F G first second moreF moreG startsG f g s apart = record {
    sound = λ from thing to e. let t = then-got (first from) second thing to e in
        record { of = t.of; middle = t.middle; first = f.sound from t.of t.middle t.one_is; second = (g t.of).sound t.middle thing to t.two_is };
    full = λ from thing to t end.
        ap (λ (r : Read Word Known A). and_then r second) (f.full from t.of t.middle t.first (apart-ends startsG moreF apart t.middle.words ((s t.of).some t.middle thing to t.second)))
        ∙ (g t.of).full t.middle thing to t.second end;
    near = λ from. near-then first second from (first from) refl (f.near from) (λ a middle. (g a).near middle);
    framed = after-framed F G f.framed (λ a. (g a).framed);
    goes = after-goes F G first second moreF moreG f g;
    lives = after-lives F G f.framed f.lives (λ a. (g a).lives);
  }

  pub after-starts : {A B : Type 0} (F : Grammar Word Known A) (G : A → Grammar Word Known B) (starts : Word → Bool) → Starts F starts → ((a : A) (from : Point Word Known) (thing : B) (to : Point Word Known) → G a from thing to → Framed (G a) from thing to) → Starts (After F G) starts
  after-starts F G starts s framed = record {
    some = λ from thing to t. s.some from t.of t.middle t.first;
    less = λ from thing to t. omega (arith, s.less from t.of t.middle t.first, framed-le (G t.of) t.middle thing to (framed t.of t.middle thing to t.second));
  }
