-- The readers of texts read their grammar: items, each with the place of its first token and its variables.
use Rattle.std.proofs.Common.{◌≡◌, ℕ, suc, ◌<◌, Bool, true, List, [], ◌∷◌, ◌++◌, length, refl, sym, ap, ◌∙◌, arith}
use Rattle.std.proofs.lemmas.List.{length-append}
use Rattle.std.proofs.lemmas.Bool.{false≢true}
use Rattle.tel_base.specs.declared.places.Place.{Place}
use Rattle.formula_syntax.specs.Points.{Word, Known, Point, Read}
use Rattle.grammar_laws.specs.Points.{at, begins}
use Rattle.grammar_laws.specs.Steps.{Why, Unexpected, Deep, Got, Stuck, rest_of, with_rest, or_also}
use Rattle.grammar_laws.proofs.Readers.{head, ends, Near, Framed, Goes, Lives, Reads, nothing}
use Rattle.grammar_laws.proofs.Levels.{Raised}
use Rattle.grammar_laws.proofs.Lifting.{Lifts}
use Rattle.part_syntax.specs.Grammar.{Item, IsItem, Stated, IsStated, IsText, afresh}
use Rattle.part_syntax.specs.Reading.{read_item, starts_item, place_at, noted, read_stated, read_text}
use Rattle.grammar_laws.proofs.ReadBy.{Read_by, each-opened, each-lifts}
use Rattle.part_syntax.proofs.StatementReads.{item-read, item-lifts}

-- ---- items with their places and variables

record NotedGot (words : List Word) (read : Read Item) (stated : Stated) (to : Point) : Type 0 where
  read_is : read ≡ Got stated.item to
  place_is : stated.place ≡ place_at words
  vars_are : stated.vars ≡ to.known.vars

noted-got : (words : List Word) (read : Read Item) (stated : Stated) (to : Point) → noted (place_at words) read ≡ Got stated to → NotedGot words read stated to
noted-got words (Got item middle) stated to e =
    let same : middle ≡ to = cc in
    let noted_is : ◌≡◌ {A = Stated} (record { place = place_at words; vars = middle.known.vars; item = item }) stated = cc in
    record {
      read_is = ap (λ (i : Item). Got i middle) (ap (λ (s : Stated). s.item) noted_is) ∙ ap (Got stated.item) same;
      place_is = sym (ap (λ (s : Stated). s.place) noted_is);
      vars_are = sym (ap (λ (s : Stated). s.vars) noted_is) ∙ ap (λ (p : Point). p.known.vars) same;
    }
noted-got words (Stuck why rest) stated to e = absurd cc

noted-stuck : (place : Place) (read : Read Item) (why : Why) (rest : List Word) → noted place read ≡ Stuck why rest → read ≡ Stuck why rest
noted-stuck place (Got item middle) why rest e = absurd cc
noted-stuck place (Stuck why' rest') why rest e =
    let a : why' ≡ why = cc in
    let b : rest' ≡ rest = cc in
    ap (λ (w : Why). Stuck w rest') a ∙ ap (Stuck why) b

rest-noted : (place : Place) (read : Read Item) → rest_of (noted place read) ≡ rest_of read
rest-noted place (Got item to) = refl
rest-noted place (Stuck why rest) = refl

-- the words have a first one
record First (words : List Word) : Type 0 where
  word : Word
  behind : List Word
  is : words ≡ word ∷ behind

first-of : (words : List Word) → begins starts_item words ≡ true → First words
first-of [] is = absurd (false≢true is)
first-of (word ∷ words) is = record { word = word; behind = words; is = refl }

stated-of : (n : ℕ) (from : Point) (stated : Stated) (to : Point) → (place_is : stated.place ≡ place_at from.words) → stated.vars ≡ to.known.vars → IsItem n (at (afresh from.known) from.words) stated.item to → IsStated n from stated to
stated-of n from stated to place_is vars_are reads =
    let f = first-of from.words ((item-read n).begun.some (at (afresh from.known) from.words) stated.item to reads) in
    record { word = f.word; behind = f.behind; first = f.is; reads = reads; place_is = place_is ∙ ap place_at f.is; vars_are = vars_are }

stated-full : (n : ℕ) (from : Point) (stated : Stated) (to : Point) → IsStated n from stated to → read_stated n from ≡ Got stated to
stated-full n from stated to s =
    let read_is = (item-read n).reads.full (at (afresh from.known) from.words) stated.item to s.reads (ends-nothing to.words) in
    let place : place_at from.words ≡ stated.place = ap place_at s.first ∙ sym s.place_is in
    let vars : to.known.vars ≡ stated.vars = sym s.vars_are in
    ap (noted (place_at from.words)) read_is
    ∙ ap (λ (p : Place). Got (record { place = p; vars = to.known.vars; item = stated.item }) to) place
    ∙ ap (λ (vs : List (List ℕ)). Got (record { place = stated.place; vars = vs; item = stated.item }) to) vars
  where
    ends-nothing : (words : List Word) → ends nothing words ≡ true
    ends-nothing [] = refl
    ends-nothing (word ∷ words) = refl

place-front : (front a b : List Word) → 0 < length front → place_at (front ++ a) ≡ place_at (front ++ b)
place-front [] a b some = absurd (omega arith)
place-front (word ∷ front) a b some = refl

noted-rest : (n : ℕ) (known : Known) (front rest old : List Word) (out : Read Item) → ((item : Item) (to : Point) → out ≡ Got item to → 0 < length front) → noted (place_at (front ++ rest)) (with_rest out rest) ≡ with_rest (noted (place_at (front ++ old)) out) rest
noted-rest n known front rest old (Got item to) some = ap (λ (p : Place). Got (record { place = p; vars = to.known.vars; item = item }) (at to.known rest)) (place-front front rest old (some item to refl))
noted-rest n known front rest old (Stuck why behind) some = refl

stated-near : (n : ℕ) (from : Point) → Near (read_stated n) from (read_stated n from)
stated-near n from =
    let m = (item-read n).reads.near (at (afresh from.known) from.words) in
    let out = read_item n (at (afresh from.known) from.words) in
    let some = λ (item : Item) (to : Point) (is : out ≡ Got item to).
    let less : length to.words < length from.words = (item-read n).begun.less (at (afresh from.known) from.words) item to ((item-read n).reads.sound (at (afresh from.known) from.words) item to is) in
    let taken : from.words ≡ m.front ++ to.words = m.whole ∙ ap (λ (r : Read Item). m.front ++ rest_of r) is in
    let positive : 0 < length m.front = omega (arith, less, ap length taken, length-append m.front to.words) in positive in
    record {
      front = m.front;
      whole = m.whole ∙ ap (λ (ws : List Word). m.front ++ ws) (sym (rest-noted (place_at from.words) out));
      again = λ rest same.
          ap (noted (place_at (m.front ++ rest))) (m.again rest (ap head (sym (rest-noted (place_at from.words) out)) ∙ same))
          ∙ noted-rest n from.known m.front rest (rest_of out) out some
          ∙ ap (λ (ws : List Word). with_rest (noted (place_at ws) out) rest) (sym m.whole);
    }

stated-framed : (n : ℕ) (from : Point) (stated : Stated) (to : Point) → IsStated n from stated to → Framed (IsStated n) from stated to
stated-framed n from stated to s =
    let f = (item-read n).reads.framed (at (afresh from.known) from.words) stated.item to s.reads in
    let less : length to.words < length from.words = (item-read n).begun.less (at (afresh from.known) from.words) stated.item to s.reads in
    let positive : 0 < length f.front = omega (arith, less, ap length f.whole, length-append f.front to.words) in
    let place : stated.place ≡ place_at (f.front ++ to.words) = s.place_is ∙ ap place_at (sym s.first ∙ f.whole) in
    record {
      front = f.front;
      whole = f.whole;
      again = λ rest. stated-of n (at from.known (f.front ++ rest)) stated (at to.known rest) (place ∙ place-front f.front to.words rest positive) s.vars_are (f.again rest);
    }

stated-goes : (n : ℕ) (from : Point) (why : Why) (rest : List Word) → read_stated n from ≡ Stuck why rest → Goes (IsStated n) from rest
stated-goes n from why rest e =
    let g = (item-read n).reads.goes (at (afresh from.known) from.words) why rest (noted-stuck (place_at from.words) (read_item n (at (afresh from.known) from.words)) why rest e) in
    record {
      front = g.front;
      whole = g.whole;
      more = g.more;
      thing = record { place = place_at (g.front ++ g.more); vars = g.known.vars; item = g.thing };
      known = g.known;
      reads = stated-of n (at from.known (g.front ++ g.more)) (record { place = place_at (g.front ++ g.more); vars = g.known.vars; item = g.thing }) (at g.known []) refl refl g.reads;
    }

stated-lives : (n : ℕ) (known : Known) → Lives (IsStated n) known
stated-lives n known =
    let l = (item-read n).reads.lives (afresh known) in
    record {
      words = l.words;
      thing = record { place = place_at l.words; vars = l.later.vars; item = l.thing };
      later = l.later;
      reads = stated-of n (at known l.words) (record { place = place_at l.words; vars = l.later.vars; item = l.thing }) (at l.later []) refl refl l.reads;
    }

pub stated-read : (n : ℕ) → Read_by (IsStated n) (read_stated n) starts_item nothing
stated-read n = record {
  reads = record {
    sound = λ from stated to e. let g = noted-got from.words (read_item n (at (afresh from.known) from.words)) stated to e in
        stated-of n from stated to g.place_is g.vars_are ((item-read n).reads.sound (at (afresh from.known) from.words) stated.item to g.read_is);
    full = λ from stated to s end. stated-full n from stated to s;
    near = stated-near n;
    framed = stated-framed n;
    goes = stated-goes n;
    lives = stated-lives n;
  };
  begun = record {
    some = λ from stated to s. (item-read n).begun.some (at (afresh from.known) from.words) stated.item to s.reads;
    less = λ from stated to s. (item-read n).begun.less (at (afresh from.known) from.words) stated.item to s.reads;
  };
}

noted-raised : (n : ℕ) (from : Point) (out : Read Item) → Raised (read_item (suc n)) (at (afresh from.known) from.words) out → Raised (read_stated (suc n)) from (noted (place_at from.words) out)
noted-raised n from (Got item to) r = ap (noted (place_at from.words)) r
noted-raised n from (Stuck Unexpected rest) r = ap (noted (place_at from.words)) r
noted-raised n from (Stuck Deep rest) r =
    record { word = r.word; behind = r.behind; is = r.is; front = r.front; whole = r.whole; on = ap (noted (place_at (r.front ++ r.word ∷ []))) r.on }

pub stated-lifts : (n : ℕ) → Lifts (IsStated n) (IsStated (suc n)) (read_stated n) (read_stated (suc n))
stated-lifts n = record {
  raises = record { raise = λ from. noted-raised n from (read_item n (at (afresh from.known) from.words)) ((item-lifts n).raises.raise (at (afresh from.known) from.words)) };
  wider = λ from stated to s. record { word = s.word; behind = s.behind; first = s.first; reads = (item-lifts n).wider (at (afresh from.known) from.words) stated.item to s.reads; place_is = s.place_is; vars_are = s.vars_are };
}

-- ---- texts

abbrev pub more_text : Word → Bool
more_text = or_also starts_item nothing

pub text-reads : (n : ℕ) → Reads (IsText n) (read_text n) more_text
text-reads n = (each-opened (IsStated n) (read_stated n) starts_item nothing (stated-read n) (λ word is. refl)).reads

pub text-lifts : (n : ℕ) → Lifts (IsText n) (IsText (suc n)) (read_text n) (read_text (suc n))
text-lifts n = each-lifts (IsStated n) (IsStated (suc n)) (read_stated n) (read_stated (suc n)) starts_item nothing (stated-lifts n) (stated-read (suc n))
