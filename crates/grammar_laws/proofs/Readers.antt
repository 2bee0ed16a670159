-- Grammars and the readers that read them: what is read is in the grammar and nothing of it is missed, a reading depends on
-- no word behind the one at which it ends, and where a reading stops the words before begin a thing of the grammar.
use Rattle.std.proofs.Common.{◌≡◌, ℕ, zero, suc, ◌+◌, ◌<◌, ◌≤◌, Bool, true, false, not, List, [], ◌∷◌, ◌++◌, length, Option, Some, None, refl, sym, ap, subst, ◌∙◌, append_assoc, arith, inl, inr, ◌||◌}
use Rattle.std.specs.Prelude.{◌⊎◌, is_some}
use Rattle.std.proofs.lemmas.List.{append-nil, length-append}
use Rattle.std.proofs.lemmas.Bool.{cases_Bool, false≢true}
use Rattle.grammar_laws.specs.Points.{Point, at, begins}
use Rattle.grammar_laws.specs.Shapes.{Grammar, One, Then, Made, Either, Each, AtMost, Maybe}
use Rattle.grammar_laws.specs.Steps.{Why, Unexpected, Deep, Read, Got, Stuck, Reader, rest_of, with_rest, and_then, give, map_read, made, one_made, one_in, one, both, either, at_most, each, maybe, too_deep, passes, or_also}

module _ {Word : Type 0} where
  abbrev pub head : List Word → Option Word
  head [] = None
  head (word ∷ words) = Some word

  -- no word that passes comes first
  abbrev pub ends : (Word → Bool) → List Word → Bool
  ends test words = not (begins test words)

  pub head-front : (front a b : List Word) → head a ≡ head b → head (front ++ a) ≡ head (front ++ b)
  head-front [] a b same = same
  head-front (word ∷ front) a b same = refl

  pub begins-head : (test : Word → Bool) (a b : List Word) → head a ≡ head b → begins test a ≡ begins test b
  begins-head test [] [] same = refl
  begins-head test [] (word ∷ b) same = absurd cc
  begins-head test (word ∷ a) [] same = absurd cc
  begins-head test (word ∷ a) (word' ∷ b) same = let e : word ≡ word' = cc in ap test e

  pub begins-front : (test : Word → Bool) (front a b : List Word) → head a ≡ head b → begins test (front ++ a) ≡ begins test (front ++ b)
  begins-front test front a b same = begins-head test (front ++ a) (front ++ b) (head-front front a b same)

  pub not-ends : (test : Word → Bool) (words : List Word) → ends test words ≡ true → begins test words ≡ false
  not-ends test words end = elim (cases_Bool (begins test words)) [ inl is ↦ absurd (false≢true (sym (ap not is) ∙ end)) | inr is ↦ is ]

  -- where the front goes on with words that begin so, what comes behind doesn't go on in another way
  pub apart-ends : (starts more : Word → Bool) → ((word : Word) → starts word ≡ true → more word ≡ false) → (words : List Word) → begins starts words ≡ true → ends more words ≡ true
  apart-ends starts more apart [] is = absurd (false≢true is)
  apart-ends starts more apart (word ∷ words) is = ap not (apart word is)

  abbrev pub nothing : Word → Bool
  nothing word = false

  pub ends-first : (first second : Word → Bool) (words : List Word) → ends (or_also first second) words ≡ true → ends first words ≡ true
  ends-first first second [] end = refl
  ends-first first second (word ∷ words) end = elim (first word) as (λ b. not (b || second word) ≡ true → not b ≡ true) [ true ↦ λ e. e | false ↦ λ e. refl ] end

  pub ends-second : (first second : Word → Bool) (words : List Word) → ends (or_also first second) words ≡ true → ends second words ≡ true
  ends-second first second [] end = refl
  ends-second first second (word ∷ words) end = elim (first word) as (λ b. not (b || second word) ≡ true → not (second word) ≡ true) [ true ↦ λ e. absurd (false≢true e) | false ↦ λ e. e ] end

  -- where a word begins with what passes one of two tests that exclude each other
  apart-begins : (starts other : Word → Bool) → ((word : Word) → starts word ≡ true → other word ≡ false) → (words : List Word) → begins starts words ≡ true → begins other words ≡ false
  apart-begins starts other apart [] is = absurd (false≢true is)
  apart-begins starts other apart (word ∷ words) is = apart word is

  begins-first : (first second : Word → Bool) (words : List Word) → begins first words ≡ true → begins (or_also first second) words ≡ true
  begins-first first second [] is = is
  begins-first first second (word ∷ words) is = rw is refl

  begins-second : (first second : Word → Bool) (words : List Word) → begins second words ≡ true → begins (or_also first second) words ≡ true
  begins-second first second [] is = is
  begins-second first second (word ∷ words) is = elim (first word) as (λ b. (b || second word) ≡ true) [ true ↦ refl | false ↦ is ]

  pub none-begins : (test : Word → Bool) (words : List Word) → length words ≤ 0 → begins test words ≡ false
  none-begins test [] le = refl
  none-begins test (word ∷ words) le = absurd (omega arith)

  ends-narrower : (more more' : Word → Bool) → ((word : Word) → more word ≡ true → more' word ≡ true) → (words : List Word) → ends more' words ≡ true → ends more words ≡ true
  ends-narrower more more' wider [] end = refl
  ends-narrower more more' wider (word ∷ words) end = elim (cases_Bool (more word)) [
    | inl is ↦ absurd (false≢true (ap not (sym (wider word is)) ∙ end))
    | inr is ↦ ap not is
  ]

module _ {Word Known : Type 0} where
  -- a reading takes the words of a front, and depends on no word behind the first one that it leaves
  pub record Near {A : Type 0} (read : Reader Word Known A) (from : Point Word Known) (out : Read Word Known A) : Type 0 where
    pub front : List Word
    pub whole : from.words ≡ front ++ rest_of out
    pub again : (rest : List Word) → head (rest_of out) ≡ head rest → read (at from.known (front ++ rest)) ≡ with_rest out rest

  -- a thing of a grammar takes the words of a front, at least one, and depends on no word behind them
  pub record Framed {A : Type 0} (F : Grammar Word Known A) (from : Point Word Known) (thing : A) (to : Point Word Known) : Type 0 where
    pub front : List Word
    pub whole : from.words ≡ front ++ to.words
    pub again : (rest : List Word) → F (at from.known (front ++ rest)) thing (at to.known rest)

  -- the words in front of the rest can be completed
  pub record Goes {A : Type 0} (F : Grammar Word Known A) (from : Point Word Known) (rest : List Word) : Type 0 where
    pub front : List Word
    pub whole : from.words ≡ front ++ rest
    pub more : List Word
    pub thing : A
    pub known : Known
    pub reads : F (at from.known (front ++ more)) thing (at known [])

  -- some words are a thing
  pub record Lives {A : Type 0} (F : Grammar Word Known A) (known : Known) : Type 0 where
    pub words : List Word
    pub thing : A
    pub later : Known
    pub reads : F (at known words) thing (at later [])

  -- The reader reads the grammar. Its things begin with words that pass `starts`, where they have any; a thing is read
  -- wherever the word behind it doesn't pass `more`.
  pub record Reads {A : Type 0} (F : Grammar Word Known A) (read : Reader Word Known A) (more : Word → Bool) : Type 0 where
    pub sound : (from : Point Word Known) (thing : A) (to : Point Word Known) → read from ≡ Got thing to → F from thing to
    pub full : (from : Point Word Known) (thing : A) (to : Point Word Known) → F from thing to → ends more to.words ≡ true → read from ≡ Got thing to
    pub near : (from : Point Word Known) → Near read from (read from)
    pub framed : (from : Point Word Known) (thing : A) (to : Point Word Known) → F from thing to → Framed F from thing to
    pub goes : (from : Point Word Known) (why : Why) (rest : List Word) → read from ≡ Stuck why rest → Goes F from rest
    pub lives : (known : Known) → Lives F known

  -- each thing begins with a word that passes, and takes at least that word
  pub record Starts {A : Type 0} (F : Grammar Word Known A) (starts : Word → Bool) : Type 0 where
    pub some : (from : Point Word Known) (thing : A) (to : Point Word Known) → F from thing to → begins starts from.words ≡ true
    pub less : (from : Point Word Known) (thing : A) (to : Point Word Known) → F from thing to → length to.words < length from.words

  -- each thing takes no word, or begins with one that passes
  pub record Opens {A : Type 0} (F : Grammar Word Known A) (starts : Word → Bool) : Type 0 where
    pub some : (from : Point Word Known) (thing : A) (to : Point Word Known) → F from thing to → (from ≡ to) ⊎ (begins starts from.words ≡ true)

  -- ---- words in front

  -- ---- what a reading gave

  pub record ThenGot {A B : Type 0} (first : Read Word Known A) (next : A → Reader Word Known B) (thing : B) (to : Point Word Known) : Type 0 where
    pub of : A
    pub middle : Point Word Known
    pub one_is : first ≡ Got of middle
    pub two_is : next of middle ≡ Got thing to

  pub then-got : {A B : Type 0} (first : Read Word Known A) (next : A → Reader Word Known B) (thing : B) (to : Point Word Known) → and_then first next ≡ Got thing to → ThenGot first next thing to
  then-got (Got a middle) next thing to e = record { of = a; middle = middle; one_is = refl; two_is = e }
  then-got (Stuck why rest) next thing to e = absurd cc

  pub record MapGot {A B : Type 0} (make : A → B) (first : Read Word Known A) (thing : B) (to : Point Word Known) : Type 0 where
    pub of : A
    pub one_is : first ≡ Got of to
    pub thing_is : thing ≡ make of

  pub map-got : {A B : Type 0} (make : A → B) (first : Read Word Known A) (thing : B) (to : Point Word Known) → map_read make first ≡ Got thing to → MapGot make first thing to
  map-got make (Got a middle) thing to e =
      let same : middle ≡ to = cc in
      let made : make a ≡ thing = cc in
      record { of = a; one_is = ap (Got a) same; thing_is = sym made }
  map-got make (Stuck why rest) thing to e = absurd cc

  pub map-stuck : {A B : Type 0} (make : A → B) (first : Read Word Known A) (why : Why) (rest : List Word) → map_read make first ≡ Stuck why rest → first ≡ Stuck why rest
  map-stuck make (Got a middle) why rest e = absurd cc
  map-stuck make (Stuck why' rest') why rest e =
      let a : why' ≡ why = cc in
      let b : rest' ≡ rest = cc in
      ap (λ (w : Why). Stuck w rest') a ∙ ap (Stuck why) b

  pub record ThenStuck {A B : Type 0} (first : Read Word Known A) (next : A → Reader Word Known B) (why : Why) (rest : List Word) : Type 0 where
    pub of : A
    pub middle : Point Word Known
    pub one_is : first ≡ Got of middle
    pub two_is : next of middle ≡ Stuck why rest

  pub then-stuck : {A B : Type 0} (first : Read Word Known A) (next : A → Reader Word Known B) (why : Why) (rest : List Word) → and_then first next ≡ Stuck why rest → (first ≡ Stuck why rest) ⊎ ThenStuck first next why rest
  then-stuck (Got a middle) next why rest e = inr (record { of = a; middle = middle; one_is = refl; two_is = e })
  then-stuck (Stuck why' rest') next why rest e =
      let a : why' ≡ why = cc in
      let b : rest' ≡ rest = cc in
      inl (ap (λ (w : Why). Stuck w rest') a ∙ ap (Stuck why) b)

  pub rest-map : {A B : Type 0} (make : A → B) (first : Read Word Known A) → rest_of (map_read make first) ≡ rest_of first
  rest-map make (Got a to) = refl
  rest-map make (Stuck why rest) = refl

  pub map-with_rest : {A B : Type 0} (make : A → B) (first : Read Word Known A) (rest : List Word) → map_read make (with_rest first rest) ≡ with_rest (map_read make first) rest
  map-with_rest make (Got a to) rest = refl
  map-with_rest make (Stuck why old) rest = refl

  -- ---- one word

  one_made-got : {A : Type 0} (value : Word → Option (Known → A × Known)) (made : Option (Known → A × Known)) (known : Known) (word : Word) (words : List Word) (thing : A) (to : Point Word Known) → value word ≡ made → one_made made known word words ≡ Got thing to → One value (at known (word ∷ words)) thing to
  one_made-got value None known word words thing to is e = absurd cc
  one_made-got value (Some make) known word words thing to is e =
      let a : (make known).0 ≡ thing = cc in
      let b : at (make known).1 words ≡ to = cc in
      record { word = word; make = make; first = ap (λ (p : Point Word Known). word ∷ p.words) b; gives = is; thing_is = sym a; known_is = sym (ap (λ (p : Point Word Known). p.known) b) }

  one-sound : {A : Type 0} (value : Word → Option (Known → A × Known)) (known : Known) (words : List Word) (thing : A) (to : Point Word Known) → one_in value known words ≡ Got thing to → One value (at known words) thing to
  one-sound value known [] thing to e = absurd cc
  one-sound value known (word ∷ words) thing to e = one_made-got value (value word) known word words thing to refl e

  one-full : {A : Type 0} (value : Word → Option (Known → A × Known)) (from : Point Word Known) (thing : A) (to : Point Word Known) → One value from thing to → one value from ≡ Got thing to
  one-full {A = A} value from thing to o =
      ap (one_in value from.known) o.first
      ∙ ap (λ (m : Option (Known → A × Known)). one_made m from.known o.word to.words) o.gives
      ∙ ap (λ (a : A). Got a (at (o.make from.known).1 to.words)) (sym o.thing_is)
      ∙ ap (λ (k : Known). Got thing (at k to.words)) (sym o.known_is)

  one-refused : {A : Type 0} (value : Word → Option (Known → A × Known)) (known : Known) (word : Word) (words rest : List Word) → value word ≡ None → Some word ≡ head rest → one_in value known rest ≡ Stuck Unexpected rest
  one-refused value known word words [] is same = refl
  one-refused {A = A} value known word words (first ∷ rest) is same =
      let e : value first ≡ None = let f : word ≡ first = cc in ap value (sym f) ∙ is in
      ap (λ (m : Option (Known → A × Known)). one_made m known first rest) e

  one_made-near : {A : Type 0} (value : Word → Option (Known → A × Known)) (made : Option (Known → A × Known)) (known : Known) (word : Word) (words : List Word) → value word ≡ made → Near (one value) (at known (word ∷ words)) (one_made made known word words)
  one_made-near value None known word words is =
      record { front = []; whole = refl; again = λ rest same. one-refused value known word words rest is same }
  one_made-near {A = A} value (Some make) known word words is =
      record { front = word ∷ []; whole = refl; again = λ rest same. ap (λ (m : Option (Known → A × Known)). one_made m known word rest) is }

  one-empty : {A : Type 0} (value : Word → Option (Known → A × Known)) (known : Known) (rest : List Word) → None ≡ head rest → one_in value known rest ≡ Stuck Unexpected rest
  one-empty value known [] same = refl
  one-empty value known (word ∷ rest) same = absurd cc

  one-near : {A : Type 0} (value : Word → Option (Known → A × Known)) (known : Known) (words : List Word) → Near (one value) (at known words) (one_in value known words)
  one-near value known [] = record { front = []; whole = refl; again = λ rest same. one-empty value known rest same }
  one-near value known (word ∷ words) = one_made-near value (value word) known word words refl

  one-framed : {A : Type 0} (value : Word → Option (Known → A × Known)) (from : Point Word Known) (thing : A) (to : Point Word Known) → One value from thing to → Framed (One value) from thing to
  one-framed value from thing to o =
      record { front = o.word ∷ []; whole = o.first; again = λ rest. record { word = o.word; make = o.make; first = refl; gives = o.gives; thing_is = o.thing_is; known_is = o.known_is } }

  one-lives : {A : Type 0} (value : Word → Option (Known → A × Known)) (word : Word) (make : Known → A × Known) → value word ≡ Some make → (known : Known) → Lives (One value) known
  one-lives value word make is known =
      record { words = word ∷ []; thing = (make known).0; later = (make known).1; reads = record { word = word; make = make; first = refl; gives = is; thing_is = refl; known_is = refl } }

  one_made-stuck : {A : Type 0} (made : Option (Known → A × Known)) (known : Known) (word : Word) (words : List Word) (why : Why) (rest : List Word) → one_made made known word words ≡ Stuck why rest → word ∷ words ≡ rest
  one_made-stuck None known word words why rest e = cc
  one_made-stuck (Some make) known word words why rest e = absurd cc

  one-stuck : {A : Type 0} (value : Word → Option (Known → A × Known)) (known : Known) (words : List Word) (why : Why) (rest : List Word) → one_in value known words ≡ Stuck why rest → words ≡ rest
  one-stuck value known [] why rest e = cc
  one-stuck value known (word ∷ words) why rest e = one_made-stuck (value word) known word words why rest e

  -- where nothing was taken, any thing of the grammar completes what was read
  stays-goes : {A : Type 0} (F : Grammar Word Known A) (from : Point Word Known) (rest : List Word) → Lives F from.known → from.words ≡ rest → Goes F from rest
  stays-goes F from rest lives same =
      record { front = []; whole = same; more = lives.words; thing = lives.thing; known = lives.later; reads = lives.reads }

  pub one-reads : {A : Type 0} (value : Word → Option (Known → A × Known)) (word : Word) (make : Known → A × Known) → value word ≡ Some make → Reads (One value) (one value) nothing
  one-reads value word make is = record {
    sound = λ from thing to e. one-sound value from.known from.words thing to e;
    full = λ from thing to o end. one-full value from thing to o;
    near = λ from. one-near value from.known from.words;
    framed = one-framed value;
    goes = λ from why rest e. stays-goes (One value) from rest (one-lives value word make is from.known) (one-stuck value from.known from.words why rest e);
    lives = one-lives value word make is;
  }

  pub one-starts_in : {A : Type 0} (value : Word → Option (Known → A × Known)) (word : Word) (make : Known → A × Known) → value word ≡ Some make → passes value word ≡ true
  one-starts_in value word make is = ap is_some is

  pub one-starts : {A : Type 0} (value : Word → Option (Known → A × Known)) → Starts (One value) (passes value)
  one-starts value = record {
    some = λ from thing to o. ap (begins (passes value)) o.first ∙ one-starts_in value o.word o.make o.gives;
    less = λ from thing to o. omega (arith, ap length o.first);
  }

  -- ---- a thing made of another

  pub made-reads : {A B : Type 0} (make : A → B) (F : Grammar Word Known A) (read : Reader Word Known A) (more : Word → Bool) → Reads F read more → Reads (Made make F) (made make read) more
  made-reads {A = A} {B = B} make F read more r = record {
    sound = λ from thing to e. let g = map-got make (read from) thing to e in record { of = g.of; reads = r.sound from g.of to g.one_is; made = g.thing_is };
    full = λ from thing to m end. ap (map_read make) (r.full from m.of to m.reads end) ∙ ap (λ (b : B). Got b to) (sym m.made);
    near = λ from. let n = r.near from in record {
      front = n.front;
      whole = n.whole ∙ ap (λ (ws : List Word). n.front ++ ws) (sym (rest-map make (read from)));
      again = λ rest same. ap (map_read make) (n.again rest (ap head (sym (rest-map make (read from))) ∙ same)) ∙ map-with_rest make (read from) rest;
    };
    framed = λ from thing to m. let f = r.framed from m.of to m.reads in record { front = f.front; whole = f.whole; again = λ rest. record { of = m.of; reads = f.again rest; made = m.made } };
    goes = λ from why rest e. let g = r.goes from why rest (map-stuck make (read from) why rest e) in record { front = g.front; whole = g.whole; more = g.more; thing = make g.thing; known = g.known; reads = record { of = g.thing; reads = g.reads; made = refl } };
    lives = λ known. let l = r.lives known in record { words = l.words; thing = make l.thing; later = l.later; reads = record { of = l.thing; reads = l.reads; made = refl } };
  }

  pub made-starts : {A B : Type 0} (make : A → B) (F : Grammar Word Known A) (starts : Word → Bool) → Starts F starts → Starts (Made make F) starts
  made-starts make F starts s = record { some = λ from thing to m. s.some from m.of to m.reads; less = λ from thing to m. s.less from m.of to m.reads }

  -- ---- one thing and then another

  pub near-then : {A B : Type 0} (read : Reader Word Known A) (next : A → Reader Word Known B) (from : Point Word Known) (out : Read Word Known A) → read from ≡ out → Near read from out → ((a : A) (middle : Point Word Known) → Near (next a) middle (next a middle)) → Near (λ p. and_then (read p) next) from (and_then out next)
  near-then read next from (Stuck why rest) is n later =
      record { front = n.front; whole = n.whole; again = λ rest' same. ap (λ r. and_then r next) (n.again rest' same) }
  near-then {A = A} {B = B} read next from (Got a middle) is n later =
      let m = later a middle in
      record {
        front = n.front ++ m.front;
        whole = n.whole ∙ ap (λ (ws : List Word). n.front ++ ws) m.whole ∙ sym (append_assoc n.front m.front (rest_of (next a middle)));
        again = λ rest' same.
            ap (λ (ws : List Word). and_then (read (at from.known ws)) next) (append_assoc n.front m.front rest')
            ∙ ap (λ (r : Read Word Known A). and_then r next) (n.again (m.front ++ rest') (ap head m.whole ∙ head-front m.front (rest_of (next a middle)) rest' same))
            ∙ m.again rest' same;
      }

  pub near-map_of : {A B : Type 0} (make : A → B) (read : Reader Word Known A) → ((from : Point Word Known) → Near read from (read from)) → (from : Point Word Known) → Near (made make read) from (map_read make (read from))
  near-map_of make read near from =
      let n = near from in
      record {
        front = n.front;
        whole = n.whole ∙ ap (λ (ws : List Word). n.front ++ ws) (sym (rest-map make (read from)));
        again = λ rest same. ap (map_read make) (n.again rest (ap head (sym (rest-map make (read from))) ∙ same)) ∙ map-with_rest make (read from) rest;
      }

  both-framed : {A B : Type 0} (F : Grammar Word Known A) (G : Grammar Word Known B) → ((from : Point Word Known) (thing : A) (to : Point Word Known) → F from thing to → Framed F from thing to) → ((from : Point Word Known) (thing : B) (to : Point Word Known) → G from thing to → Framed G from thing to) → (from : Point Word Known) (thing : A × B) (to : Point Word Known) → Then F G from thing to → Framed (Then F G) from thing to
  both-framed F G framedF framedG from thing to t =
      let f = framedF from thing.0 t.middle t.first in
      let g = framedG t.middle thing.1 to t.second in
      record {
        front = f.front ++ g.front;
        whole = f.whole ∙ ap (λ (ws : List Word). f.front ++ ws) g.whole ∙ sym (append_assoc f.front g.front to.words);
        again = λ rest. subst (λ (ws : List Word). Then F G (at from.known ws) thing (at to.known rest)) (sym (append_assoc f.front g.front rest))
            (record { middle = at t.middle.known (g.front ++ rest); first = f.again (g.front ++ rest); second = g.again rest });
      }

  -- what completes the first thing, and then some second thing
  both-goes_on : {A B : Type 0} (F : Grammar Word Known A) (G : Grammar Word Known B) → ((from : Point Word Known) (thing : A) (to : Point Word Known) → F from thing to → Framed F from thing to) → ((known : Known) → Lives G known) → (from : Point Word Known) (rest : List Word) → Goes F from rest → Goes (Then F G) from rest
  both-goes_on F G framedF livesG from rest g =
      let l = livesG g.known in
      let f = framedF (at from.known (g.front ++ g.more)) g.thing (at g.known []) g.reads in
      let e : g.front ++ (g.more ++ l.words) ≡ f.front ++ l.words = sym (append_assoc g.front g.more l.words) ∙ ap (λ (ws : List Word). ws ++ l.words) (f.whole ∙ append-nil f.front) in
      record {
        front = g.front;
        whole = g.whole;
        more = g.more ++ l.words;
        thing = (g.thing, l.thing);
        known = l.later;
        reads = subst (λ (ws : List Word). Then F G (at from.known ws) (g.thing, l.thing) (at l.later [])) (sym e) (record { middle = at g.known l.words; first = f.again l.words; second = l.reads });
      }

  -- a first thing, and what completes the second one
  both-goes_in : {A B : Type 0} (F : Grammar Word Known A) (G : Grammar Word Known B) → ((from : Point Word Known) (thing : A) (to : Point Word Known) → F from thing to → Framed F from thing to) → (from : Point Word Known) (a : A) (middle : Point Word Known) (rest : List Word) → F from a middle → Goes G middle rest → Goes (Then F G) from rest
  both-goes_in F G framedF from a middle rest reads g =
      let f = framedF from a middle reads in
      record {
        front = f.front ++ g.front;
        whole = f.whole ∙ ap (λ (ws : List Word). f.front ++ ws) g.whole ∙ sym (append_assoc f.front g.front rest);
        more = g.more;
        thing = (a, g.thing);
        known = g.known;
        reads = subst (λ (ws : List Word). Then F G (at from.known ws) (a, g.thing) (at g.known [])) (sym (append_assoc f.front g.front g.more)) (record { middle = at middle.known (g.front ++ g.more); first = f.again (g.front ++ g.more); second = g.reads });
      }

  both-lives : {A B : Type 0} (F : Grammar Word Known A) (G : Grammar Word Known B) → ((from : Point Word Known) (thing : A) (to : Point Word Known) → F from thing to → Framed F from thing to) → ((known : Known) → Lives F known) → ((known : Known) → Lives G known) → (known : Known) → Lives (Then F G) known
  both-lives F G framedF livesF livesG known =
      let l = livesF known in
      let m = livesG l.later in
      let f = framedF (at known l.words) l.thing (at l.later []) l.reads in
      record {
        words = f.front ++ m.words;
        thing = (l.thing, m.thing);
        later = m.later;
        reads = record { middle = at l.later m.words; first = f.again m.words; second = m.reads };
      }

  both-goes : {A B : Type 0} (F : Grammar Word Known A) (G : Grammar Word Known B) (first : Reader Word Known A) (second : Reader Word Known B) (moreF moreG : Word → Bool) → Reads F first moreF → Reads G second moreG → (from : Point Word Known) (why : Why) (rest : List Word) → both first second from ≡ Stuck why rest → Goes (Then F G) from rest
  both-goes {A = A} {B = B} F G first second moreF moreG f g from why rest e =
      elim (then-stuck (first from) (λ (a : A) (to : Point Word Known). map_read (λ (b : B). (a, b)) (second to)) why rest e) [
        | inl stuck ↦ both-goes_on F G f.framed g.lives from rest (f.goes from why rest stuck)
        | inr later ↦ both-goes_in F G f.framed from later.of later.middle rest (f.sound from later.of later.middle later.one_is) (g.goes later.middle why rest (map-stuck (λ (b : B). (later.of, b)) (second later.middle) why rest later.two_is))
      ]

  both-sound : {A B : Type 0} (F : Grammar Word Known A) (G : Grammar Word Known B) (first : Reader Word Known A) (second : Reader Word Known B) (moreF moreG : Word → Bool) → Reads F first moreF → Reads G second moreG → (from : Point Word Known) (thing : A × B) (to : Point Word Known) → both first second from ≡ Got thing to → Then F G from thing to
  both-sound {A = A} {B = B} F G first second moreF moreG f g from thing to e =
      let t = then-got (first from) (λ (a : A) (p : Point Word Known). map_read (λ (b : B). (a, b)) (second p)) thing to e in
      let m = map-got (λ (b : B). (t.of, b)) (second t.middle) thing to t.two_is in
      subst (λ (x : A × B). Then F G from x to) (sym m.thing_is) (record { middle = t.middle; first = f.sound from t.of t.middle t.one_is; second = g.sound t.middle m.of to m.one_is })

  pub both-reads : {A B : Type 0} (F : Grammar Word Known A) (G : Grammar Word Known B) (first : Reader Word Known A) (second : Reader Word Known B) (moreF moreG startsG : Word → Bool) → Reads F first moreF → Reads G second moreG → Starts G startsG → ((word : Word) → startsG word ≡ true → moreF word ≡ false) → Reads (Then F G) (both first second) moreG
  both-reads {A = A} {B = B} F G first second moreF moreG startsG f g s apart = record {
    sound = both-sound F G first second moreF moreG f g;
    full = λ from thing to t end.
        let one_is = f.full from thing.0 t.middle t.first (apart-ends startsG moreF apart t.middle.words (s.some t.middle thing.1 to t.second)) in
        ap (λ (r : Read Word Known A). and_then r (λ (a : A) (p : Point Word Known). map_read (λ (b : B). (a, b)) (second p))) one_is
        ∙ ap (map_read (λ (b : B). (thing.0, b))) (g.full t.middle thing.1 to t.second end);
    near = λ from. near-then first (λ a p. map_read (λ b. (a, b)) (second p)) from (first from) refl (f.near from) (λ a middle. near-map_of (λ b. (a, b)) second g.near middle);
    framed = both-framed F G f.framed g.framed;
    goes = both-goes F G first second moreF moreG f g;
    lives = both-lives F G f.framed f.lives g.lives;
  }

  pub framed-le : {A : Type 0} (F : Grammar Word Known A) (from : Point Word Known) (thing : A) (to : Point Word Known) → Framed F from thing to → length to.words ≤ length from.words
  framed-le F from thing to f = omega (arith, ap length f.whole, length-append f.front to.words)

  pub both-starts : {A B : Type 0} (F : Grammar Word Known A) (G : Grammar Word Known B) (read : Reader Word Known B) (starts more : Word → Bool) → Starts F starts → Reads G read more → Starts (Then F G) starts
  both-starts F G read starts more s g = record {
    some = λ from thing to t. s.some from thing.0 t.middle t.first;
    less = λ from thing to t. omega (arith, s.less from thing.0 t.middle t.first, framed-le G t.middle thing.1 to (g.framed t.middle thing.1 to t.second));
  }

  -- one thing and then one that may take no word
  pub both-reads_on : {A B : Type 0} (F : Grammar Word Known A) (G : Grammar Word Known B) (first : Reader Word Known A) (second : Reader Word Known B) (moreF moreG startsG : Word → Bool) → Reads F first moreF → Reads G second moreG → Opens G startsG → ((word : Word) → startsG word ≡ true → moreF word ≡ false) → Reads (Then F G) (both first second) (or_also moreF moreG)
  both-reads_on {A = A} {B = B} F G first second moreF moreG startsG f g s apart = record {
    sound = both-sound F G first second moreF moreG f g;
    full = λ from thing to t end.
        let stops : ends moreF t.middle.words ≡ true = elim (s.some t.middle thing.1 to t.second) [
          | inl same ↦ ap (λ (p : Point Word Known). ends moreF p.words) same ∙ ends-first moreF moreG to.words end
          | inr some ↦ apart-ends startsG moreF apart t.middle.words some
        ] in
        ap (λ (r : Read Word Known A). and_then r (λ (a : A) (p : Point Word Known). map_read (λ (b : B). (a, b)) (second p))) (f.full from thing.0 t.middle t.first stops)
        ∙ ap (map_read (λ (b : B). (thing.0, b))) (g.full t.middle thing.1 to t.second (ends-second moreF moreG to.words end));
    near = λ from. near-then first (λ a p. map_read (λ b. (a, b)) (second p)) from (first from) refl (f.near from) (λ a middle. near-map_of (λ b. (a, b)) second g.near middle);
    framed = both-framed F G f.framed g.framed;
    goes = both-goes F G first second moreF moreG f g;
    lives = both-lives F G f.framed f.lives g.lives;
  }

  -- ---- one of two things

  pub either-got : {A : Type 0} (test : Word → Bool) (first second : Reader Word Known A) (from : Point Word Known) (b : Bool) → begins test from.words ≡ b → either test first second from ≡ (elim b [ true ↦ first from | false ↦ second from ])
  either-got test first second from true is = rw is refl
  either-got test first second from false is = rw is refl

  near-either : {A : Type 0} (test : Word → Bool) (first second : Reader Word Known A) (from : Point Word Known) → Near first from (first from) → Near second from (second from) → (b : Bool) → begins test from.words ≡ b → Near (either test first second) from (elim b [ true ↦ first from | false ↦ second from ])
  near-either test first second from n m true is =
      record {
        front = n.front;
        whole = n.whole;
        again = λ rest same.
            either-got test first second (at from.known (n.front ++ rest)) true (begins-front test n.front rest (rest_of (first from)) (sym same) ∙ ap (begins test) (sym n.whole) ∙ is) ∙ n.again rest same;
      }
  near-either test first second from n m false is =
      record {
        front = m.front;
        whole = m.whole;
        again = λ rest same.
            either-got test first second (at from.known (m.front ++ rest)) false (begins-front test m.front rest (rest_of (second from)) (sym same) ∙ ap (begins test) (sym m.whole) ∙ is) ∙ m.again rest same;
      }

  near-either_of : {A : Type 0} (test : Word → Bool) (first second : Reader Word Known A) (from : Point Word Known) → Near first from (first from) → Near second from (second from) → Near (either test first second) from (either test first second from)
  near-either_of {A = A} test first second from n m =
      subst (λ (r : Read Word Known A). Near (either test first second) from r) (sym (either-got test first second from (begins test from.words) refl)) (near-either test first second from n m (begins test from.words) refl)

  pub goes-inl : {A : Type 0} (F G : Grammar Word Known A) (from : Point Word Known) (rest : List Word) → Goes F from rest → Goes (Either F G) from rest
  goes-inl F G from rest g = record { front = g.front; whole = g.whole; more = g.more; thing = g.thing; known = g.known; reads = inl g.reads }

  pub goes-inr : {A : Type 0} (F G : Grammar Word Known A) (from : Point Word Known) (rest : List Word) → Goes G from rest → Goes (Either F G) from rest
  goes-inr F G from rest g = record { front = g.front; whole = g.whole; more = g.more; thing = g.thing; known = g.known; reads = inr g.reads }

  pub framed-inl : {A : Type 0} (F G : Grammar Word Known A) (from : Point Word Known) (thing : A) (to : Point Word Known) → Framed F from thing to → Framed (Either F G) from thing to
  framed-inl F G from thing to f = record { front = f.front; whole = f.whole; again = λ rest. inl (f.again rest) }

  pub framed-inr : {A : Type 0} (F G : Grammar Word Known A) (from : Point Word Known) (thing : A) (to : Point Word Known) → Framed G from thing to → Framed (Either F G) from thing to
  framed-inr F G from thing to f = record { front = f.front; whole = f.whole; again = λ rest. inr (f.again rest) }

  pub either-reads : {A : Type 0} (F G : Grammar Word Known A) (first second : Reader Word Known A) (moreF moreG startsF startsG : Word → Bool) → Reads F first moreF → Reads G second moreG → Starts F startsF → Starts G startsG → ((word : Word) → startsG word ≡ true → startsF word ≡ false) → Reads (Either F G) (either startsF first second) (or_also moreF moreG)
  either-reads {A = A} F G first second moreF moreG startsF startsG f g s t apart = record {
    sound = λ from thing to e. elim (cases_Bool (begins startsF from.words)) [
      | inl is ↦ inl (f.sound from thing to (sym (either-got startsF first second from true is) ∙ e))
      | inr is ↦ inr (g.sound from thing to (sym (either-got startsF first second from false is) ∙ e))
    ];
    full = λ from thing to reads end. elim reads [
      | inl a ↦ either-got startsF first second from true (s.some from thing to a) ∙ f.full from thing to a (ends-first moreF moreG to.words end)
      | inr b ↦ either-got startsF first second from false (apart-begins startsG startsF apart from.words (t.some from thing to b)) ∙ g.full from thing to b (ends-second moreF moreG to.words end)
    ];
    near = λ from. near-either_of startsF first second from (f.near from) (g.near from);
    framed = λ from thing to reads. elim reads [
      | inl a ↦ framed-inl F G from thing to (f.framed from thing to a)
      | inr b ↦ framed-inr F G from thing to (g.framed from thing to b)
    ];
    goes = λ from why rest e. elim (cases_Bool (begins startsF from.words)) [
      | inl is ↦ goes-inl F G from rest (f.goes from why rest (sym (either-got startsF first second from true is) ∙ e))
      | inr is ↦ goes-inr F G from rest (g.goes from why rest (sym (either-got startsF first second from false is) ∙ e))
    ];
    lives = λ known. let l = f.lives known in record { words = l.words; thing = l.thing; later = l.later; reads = inl l.reads };
  }

  pub either-starts : {A : Type 0} (F G : Grammar Word Known A) (startsF startsG : Word → Bool) → Starts F startsF → Starts G startsG → Starts (Either F G) (or_also startsF startsG)
  either-starts F G startsF startsG s t = record {
    some = λ from thing to reads. elim reads [
      | inl a ↦ begins-first startsF startsG from.words (s.some from thing to a)
      | inr b ↦ begins-second startsF startsG from.words (t.some from thing to b)
    ];
    less = λ from thing to reads. elim reads [ inl a ↦ s.less from thing to a | inr b ↦ t.less from thing to b ];
  }

  -- ---- a thing, if there is one

  pub maybe-reads : {A : Type 0} (F : Grammar Word Known A) (read : Reader Word Known A) (more starts : Word → Bool) → Reads F read more → Starts F starts → Reads (Maybe F) (maybe starts read) (or_also starts more)
  maybe-reads {A = A} F read more starts f s = record {
    sound = λ from thing to e. elim (cases_Bool (begins starts from.words)) [
      | inl is ↦ let m = map-got {A = A} {B = Option A} Some (read from) thing to (sym (either-got starts (made Some read) (give None) from true is) ∙ e) in
          subst (λ (o : Option A). Maybe F from o to) (sym m.thing_is) (f.sound from m.of to m.one_is)
      | inr is ↦ let g : Got None from ≡ Got thing to = sym (either-got starts (made Some read) (give None) from false is) ∙ e in
          let a : None ≡ thing = cc in let b : from ≡ to = cc in subst (λ (o : Option A). Maybe F from o to) a b
    ];
    full = λ from thing to reads end. elim thing as (λ o. Maybe F from o to → maybe starts read from ≡ Got o to) [
      | None ↦ λ same. either-got starts (made Some read) (give None) from false (ap (λ (p : Point Word Known). begins starts p.words) same ∙ not-ends starts to.words (ends-first starts more to.words end)) ∙ ap (Got None) same
      | Some a ↦ λ r. either-got starts (made Some read) (give None) from true (s.some from a to r) ∙ ap (map_read Some) (f.full from a to r (ends-second starts more to.words end))
    ] reads;
    near = λ from. near-either_of starts (made Some read) (give None) from (near-map_of Some read f.near from) (record { front = []; whole = refl; again = λ rest same. refl });
    framed = λ from thing to reads. elim thing as (λ o. Maybe F from o to → Framed (Maybe F) from o to) [
      | None ↦ λ same. record { front = []; whole = ap (λ (p : Point Word Known). p.words) same; again = λ rest. ap (λ (p : Point Word Known). at p.known rest) same }
      | Some a ↦ λ r. let g = f.framed from a to r in record { front = g.front; whole = g.whole; again = g.again }
    ] reads;
    goes = λ from why rest e. elim (cases_Bool (begins starts from.words)) [
      | inl is ↦ let g = f.goes from why rest (map-stuck {A = A} {B = Option A} Some (read from) why rest (sym (either-got starts (made Some read) (give None) from true is) ∙ e)) in
          record { front = g.front; whole = g.whole; more = g.more; thing = Some g.thing; known = g.known; reads = g.reads }
      | inr is ↦ let g : Got None from ≡ Stuck why rest = sym (either-got starts (made Some read) (give None) from false is) ∙ e in absurd cc
    ];
    lives = λ known. record { words = []; thing = None; later = known; reads = refl };
  }

  pub maybe-opens : {A : Type 0} (F : Grammar Word Known A) (starts : Word → Bool) → Starts F starts → Opens (Maybe F) starts
  maybe-opens F starts s = record {
    some = λ from thing to reads. elim thing as (λ o. Maybe F from o to → (from ≡ to) ⊎ (begins starts from.words ≡ true)) [
      | None ↦ λ same. inl same
      | Some a ↦ λ r. inr (s.some from a to r)
    ] reads;
  }

  -- ---- things one after another

  -- one round of `at_most`
  abbrev pub round : {A : Type 0} → Reader Word Known A → Reader Word Known (List A) → Reader Word Known (List A)
  round read later = λ from. and_then (read from) (λ thing to. map_read (λ things. thing ∷ things) (later to))

  pub at_most-more : {A : Type 0} (most : ℕ) (test : Word → Bool) (read : Reader Word Known A) (from : Point Word Known) → begins test from.words ≡ true → at_most (suc most) test read from ≡ round read (at_most most test read) from
  at_most-more most test read from is = rw is refl

  pub at_most-end : {A : Type 0} (most : ℕ) (test : Word → Bool) (read : Reader Word Known A) (from : Point Word Known) → begins test from.words ≡ false → at_most most test read from ≡ Got [] from
  at_most-end zero test read from is = refl
  at_most-end (suc most) test read from is = rw is refl

  cons-sound : {A : Type 0} (most : ℕ) (F : Grammar Word Known A) (from middle to : Point Word Known) (thing : A) (things : List A) → F from thing middle → AtMost most F middle things to → AtMost (suc most) F from (thing ∷ things) to
  cons-sound most F from middle to thing things reads r = (omega (arith, r.0), (middle, reads, r.1))

  pub at_most-sound : {A : Type 0} (most : ℕ) (F : Grammar Word Known A) (test : Word → Bool) (read : Reader Word Known A) → ((from : Point Word Known) (thing : A) (to : Point Word Known) → read from ≡ Got thing to → F from thing to) → (from : Point Word Known) (things : List A) (to : Point Word Known) → at_most most test read from ≡ Got things to → AtMost most F from things to
  at_most-sound zero F test read sound from things to e =
      let a : [] ≡ things = cc in let b : from ≡ to = cc in
      subst (λ xs. AtMost 0 F from xs to) a (omega arith, b)
  at_most-sound {A = A} (suc most) F test read sound from things to e =
      elim (cases_Bool (begins test from.words)) [
        | inl is ↦
            let t = then-got (read from) (λ (thing : A) (p : Point Word Known). map_read (λ (xs : List A). thing ∷ xs) (at_most most test read p)) things to (sym (at_most-more most test read from is) ∙ e) in
            let m = map-got (λ (xs : List A). t.of ∷ xs) (at_most most test read t.middle) things to t.two_is in
            subst (λ (xs : List A). AtMost (suc most) F from xs to) (sym m.thing_is) (cons-sound most F from t.middle to t.of m.of (sound from t.of t.middle t.one_is) (at_most-sound most F test read sound t.middle m.of to m.one_is))
        | inr is ↦
            let g : Got [] from ≡ Got things to = sym (at_most-end (suc most) test read from is) ∙ e in
            let a : [] ≡ things = cc in let b : from ≡ to = cc in
            subst (λ (xs : List A). AtMost (suc most) F from xs to) a (omega arith, b)
      ]

  -- what follows a thing of several: the next one, or the word that ends them
  each-ends : {A : Type 0} (F : Grammar Word Known A) (more starts : Word → Bool) → Starts F starts → ((word : Word) → starts word ≡ true → more word ≡ false) → (from : Point Word Known) (things : List A) (to : Point Word Known) → Each F from things to → ends more to.words ≡ true → ends more from.words ≡ true
  each-ends F more starts s apart from [] to same end = ap (λ (p : Point Word Known). ends more p.words) same ∙ end
  each-ends F more starts s apart from (thing ∷ things) to r end = apart-ends starts more apart from.words (s.some from thing r.0 r.1)

  at_most-full : {A : Type 0} (most : ℕ) (F : Grammar Word Known A) (read : Reader Word Known A) (more starts : Word → Bool) → Reads F read more → Starts F starts → ((word : Word) → starts word ≡ true → more word ≡ false) → (from : Point Word Known) (things : List A) (to : Point Word Known) → length things ≤ most → Each F from things to → ends (or_also starts more) to.words ≡ true → at_most most starts read from ≡ Got things to
  at_most-full most F read more starts f s apart from [] to le same end =
      at_most-end most starts read from (ap (λ (p : Point Word Known). begins starts p.words) same ∙ not-ends starts to.words (ends-first starts more to.words end)) ∙ ap (Got []) same
  at_most-full zero F read more starts f s apart from (thing ∷ things) to le r end = absurd (omega arith)
  at_most-full {A = A} (suc most) F read more starts f s apart from (thing ∷ things) to le r end =
      at_most-more most starts read from (s.some from thing r.0 r.1)
      ∙ ap (λ (x : Read Word Known A). and_then x (λ (a : A) (p : Point Word Known). map_read (λ (xs : List A). a ∷ xs) (at_most most starts read p))) (f.full from thing r.0 r.1 (each-ends F more starts s apart r.0 things to r.2 (ends-second starts more to.words end)))
      ∙ ap (map_read (λ (xs : List A). thing ∷ xs)) (at_most-full most F read more starts f s apart r.0 things to (omega arith) r.2 end)

  at_most-near : {A : Type 0} (most : ℕ) (test : Word → Bool) (read : Reader Word Known A) → ((from : Point Word Known) → Near read from (read from)) → (from : Point Word Known) → Near (at_most most test read) from (at_most most test read from)
  at_most-near zero test read near from = record { front = []; whole = refl; again = λ rest same. refl }
  at_most-near {A = A} (suc most) test read near from =
      near-either_of test (round read (at_most most test read)) (give []) from
      (near-then read (λ (thing : A) (p : Point Word Known). map_read (λ (xs : List A). thing ∷ xs) (at_most most test read p)) from (read from) refl (near from) (λ (a : A) (middle : Point Word Known). near-map_of (λ (xs : List A). a ∷ xs) (at_most most test read) (at_most-near most test read near) middle))
      (record { front = []; whole = refl; again = λ rest same. refl })

  each-framed : {A : Type 0} (F : Grammar Word Known A) → ((from : Point Word Known) (thing : A) (to : Point Word Known) → F from thing to → Framed F from thing to) → (from : Point Word Known) (things : List A) (to : Point Word Known) → Each F from things to → Framed (Each F) from things to
  each-framed F framed from [] to same = record { front = []; whole = ap (λ (p : Point Word Known). p.words) same; again = λ rest. ap (λ (p : Point Word Known). at p.known rest) same }
  each-framed F framed from (thing ∷ things) to r =
      let f = framed from thing r.0 r.1 in
      let g = each-framed F framed r.0 things to r.2 in
      record {
        front = f.front ++ g.front;
        whole = f.whole ∙ ap (λ (ws : List Word). f.front ++ ws) g.whole ∙ sym (append_assoc f.front g.front to.words);
        again = λ rest. subst (λ (ws : List Word). Each F (at from.known ws) (thing ∷ things) (at to.known rest)) (sym (append_assoc f.front g.front rest)) (at r.0.known (g.front ++ rest), f.again (g.front ++ rest), g.again rest);
      }

  at_most-framed : {A : Type 0} (most : ℕ) (F : Grammar Word Known A) → ((from : Point Word Known) (thing : A) (to : Point Word Known) → F from thing to → Framed F from thing to) → (from : Point Word Known) (things : List A) (to : Point Word Known) → AtMost most F from things to → Framed (AtMost most F) from things to
  at_most-framed most F framed from things to r = let g = each-framed F framed from things to r.1 in record { front = g.front; whole = g.whole; again = λ rest. (r.0, g.again rest) }

  at_most-goes : {A : Type 0} (most : ℕ) (F : Grammar Word Known A) (read : Reader Word Known A) (more starts : Word → Bool) → Reads F read more → (from : Point Word Known) (why : Why) (rest : List Word) → at_most most starts read from ≡ Stuck why rest → Goes (AtMost most F) from rest
  at_most-goes zero F read more starts f from why rest e = absurd cc
  at_most-goes {A = A} (suc most) F read more starts f from why rest e =
      elim (cases_Bool (begins starts from.words)) [
        | inl is ↦ elim (then-stuck (read from) (λ (thing : A) (p : Point Word Known). map_read (λ (xs : List A). thing ∷ xs) (at_most most starts read p)) why rest (sym (at_most-more most starts read from is) ∙ e)) [
          | inl stuck ↦
              let g = f.goes from why rest stuck in
              record { front = g.front; whole = g.whole; more = g.more; thing = g.thing ∷ []; known = g.known; reads = (omega arith, (at g.known [], g.reads, refl)) }
          | inr later ↦
              let g = at_most-goes most F read more starts f later.middle why rest (map-stuck (λ (xs : List A). later.of ∷ xs) (at_most most starts read later.middle) why rest later.two_is) in
              let h = f.framed from later.of later.middle (f.sound from later.of later.middle later.one_is) in
              record {
                front = h.front ++ g.front;
                whole = h.whole ∙ ap (λ (ws : List Word). h.front ++ ws) g.whole ∙ sym (append_assoc h.front g.front rest);
                more = g.more;
                thing = later.of ∷ g.thing;
                known = g.known;
                reads = subst (λ (ws : List Word). AtMost (suc most) F (at from.known ws) (later.of ∷ g.thing) (at g.known [])) (sym (append_assoc h.front g.front g.more))
                    (cons-sound most F (at from.known (h.front ++ (g.front ++ g.more))) (at later.middle.known (g.front ++ g.more)) (at g.known []) later.of g.thing (h.again (g.front ++ g.more)) g.reads);
              }
        ]
        | inr is ↦ let g : Got [] from ≡ Stuck why rest = sym (at_most-end (suc most) starts read from is) ∙ e in absurd cc
      ]

  pub at_most-reads : {A : Type 0} (most : ℕ) (F : Grammar Word Known A) (read : Reader Word Known A) (more starts : Word → Bool) → Reads F read more → Starts F starts → ((word : Word) → starts word ≡ true → more word ≡ false) → Reads (AtMost most F) (at_most most starts read) (or_also starts more)
  at_most-reads most F read more starts f s apart = record {
    sound = at_most-sound most F starts read f.sound;
    full = λ from things to r end. at_most-full most F read more starts f s apart from things to r.0 r.1 end;
    near = at_most-near most starts read f.near;
    framed = at_most-framed most F f.framed;
    goes = at_most-goes most F read more starts f;
    lives = λ known. record { words = []; thing = []; later = known; reads = (omega arith, refl) };
  }

  each-opens_in : {A : Type 0} (F : Grammar Word Known A) (starts : Word → Bool) → Starts F starts → (from : Point Word Known) (things : List A) (to : Point Word Known) → Each F from things to → (from ≡ to) ⊎ (begins starts from.words ≡ true)
  each-opens_in F starts s from [] to same = inl same
  each-opens_in F starts s from (thing ∷ things) to r = inr (s.some from thing r.0 r.1)

  pub at_most-opens : {A : Type 0} (most : ℕ) (F : Grammar Word Known A) (starts : Word → Bool) → Starts F starts → Opens (AtMost most F) starts
  at_most-opens most F starts s = record { some = λ from things to r. each-opens_in F starts s from things to r.1 }

  pub each-opens : {A : Type 0} (F : Grammar Word Known A) (starts : Word → Bool) → Starts F starts → Opens (Each F) starts
  each-opens F starts s = record { some = each-opens_in F starts s }

  -- several things take at least a word each
  pub each-length : {A : Type 0} (F : Grammar Word Known A) (starts : Word → Bool) → Starts F starts → (from : Point Word Known) (things : List A) (to : Point Word Known) → Each F from things to → length things + length to.words ≤ length from.words
  each-length F starts s from [] to same = omega (arith, ap (λ (p : Point Word Known). length p.words) same)
  each-length F starts s from (thing ∷ things) to r = omega (arith, s.less from thing r.0 r.1, each-length F starts s r.0 things to r.2)

  enough-round : {A : Type 0} (F : Grammar Word Known A) (read : Reader Word Known A) (more starts : Word → Bool) → Reads F read more → Starts F starts → (m n : ℕ) (from : Point Word Known) (out : Read Word Known A) → read from ≡ out → length from.words ≤ suc m → length from.words ≤ suc n → ((middle : Point Word Known) → length middle.words ≤ m → length middle.words ≤ n → at_most m starts read middle ≡ at_most n starts read middle) → and_then out (λ thing to. map_read (λ things. thing ∷ things) (at_most m starts read to)) ≡ and_then out (λ thing to. map_read (λ things. thing ∷ things) (at_most n starts read to))
  enough-round F read more starts f s m n from (Stuck why rest) is a b same = refl
  enough-round {A = A} F read more starts f s m n from (Got thing to) is a b same =
      let less = s.less from thing to (f.sound from thing to is) in
      ap (map_read (λ (things : List A). thing ∷ things)) (same to (omega arith) (omega arith))

  -- as many rounds as there are words are enough
  pub enough : {A : Type 0} (F : Grammar Word Known A) (read : Reader Word Known A) (more starts : Word → Bool) → Reads F read more → Starts F starts → (m n : ℕ) (from : Point Word Known) → length from.words ≤ m → length from.words ≤ n → at_most m starts read from ≡ at_most n starts read from
  enough F read more starts f s zero n from a b = sym (at_most-end n starts read from (none-begins starts from.words (omega arith)))
  enough F read more starts f s (suc m) zero from a b = at_most-end (suc m) starts read from (none-begins starts from.words (omega arith))
  enough {A = A} F read more starts f s (suc m) (suc n) from a b =
      elim (cases_Bool (begins starts from.words)) [
        | inl is ↦ at_most-more m starts read from is ∙ enough-round F read more starts f s m n from (read from) refl a b (λ (middle : Point Word Known) (c : length middle.words ≤ m) (d : length middle.words ≤ n). enough F read more starts f s m n middle c d) ∙ sym (at_most-more n starts read from is)
        | inr is ↦ at_most-end (suc m) starts read from is ∙ sym (at_most-end (suc n) starts read from is)
      ]

  -- several things, however many rounds are made
  record EachNear {A : Type 0} (test : Word → Bool) (read : Reader Word Known A) (from : Point Word Known) (out : Read Word Known (List A)) : Type 0 where
    front : List Word
    whole : from.words ≡ front ++ rest_of out
    again : (rest : List Word) (m : ℕ) → length (front ++ rest) ≤ m → head (rest_of out) ≡ head rest → at_most m test read (at from.known (front ++ rest)) ≡ with_rest out rest

  each-near_end : {A : Type 0} (test : Word → Bool) (read : Reader Word Known A) (from : Point Word Known) → begins test from.words ≡ false → EachNear test read from (Got [] from)
  each-near_end test read from is =
      record { front = []; whole = refl; again = λ rest m le same. at_most-end m test read (at from.known rest) (begins-head test rest from.words (sym same) ∙ is) }

  -- words that begin with a word that passes take at least one round
  some-round : {A : Type 0} (test : Word → Bool) (read : Reader Word Known A) (m : ℕ) (from : Point Word Known) (out : Read Word Known (List A)) → length from.words ≤ m → begins test from.words ≡ true → ((n : ℕ) → m ≡ suc n → round read (at_most n test read) from ≡ out) → at_most m test read from ≡ out
  some-round test read zero from out le is next = absurd (false≢true (sym (none-begins test from.words le) ∙ is))
  some-round test read (suc n) from out le is next = at_most-more n test read from is ∙ next n refl

  each-near_round : {A : Type 0} (F : Grammar Word Known A) (read : Reader Word Known A) (more starts : Word → Bool) → Reads F read more → Starts F starts → (n : ℕ) (from : Point Word Known) → begins starts from.words ≡ true → length from.words ≤ suc n → (out : Read Word Known A) → read from ≡ out → Near read from out → ((middle : Point Word Known) → length middle.words ≤ n → EachNear starts read middle (at_most n starts read middle)) → EachNear starts read from (and_then out (λ thing to. map_read (λ things. thing ∷ things) (at_most n starts read to)))
  each-near_round {A = A} F read more starts f s n from is le (Stuck why old) e near later =
      record {
        front = near.front;
        whole = near.whole;
        again = λ rest m enough_rounds same. some-round starts read m (at from.known (near.front ++ rest)) (Stuck why rest) enough_rounds
            (begins-front starts near.front rest old (sym same) ∙ ap (begins starts) (sym near.whole) ∙ is)
            (λ k k-is. ap (λ (x : Read Word Known A). and_then x (λ (a : A) (p : Point Word Known). map_read (λ (xs : List A). a ∷ xs) (at_most k starts read p))) (near.again rest same));
      }
  each-near_round {A = A} F read more starts f s n from is le (Got thing middle) e near later =
      let less : length middle.words < length from.words = s.less from thing middle (f.sound from thing middle e) in
      let l = later middle (omega arith) in
      let out = at_most n starts read middle in
      let whole_is : from.words ≡ (near.front ++ l.front) ++ rest_of out = near.whole ∙ ap (λ (ws : List Word). near.front ++ ws) l.whole ∙ sym (append_assoc near.front l.front (rest_of out)) in
      let some_word : 0 < length near.front = omega (arith, ap length near.whole, length-append near.front middle.words) in
      record {
        front = near.front ++ l.front;
        whole = whole_is ∙ ap (λ (ws : List Word). (near.front ++ l.front) ++ ws) (sym (rest-map (λ (xs : List A). thing ∷ xs) out));
        again = λ rest m rounds same.
            let same_behind : head (rest_of out) ≡ head rest = ap head (sym (rest-map (λ (xs : List A). thing ∷ xs) out)) ∙ same in
            some-round starts read m (at from.known ((near.front ++ l.front) ++ rest)) (with_rest (map_read (λ (xs : List A). thing ∷ xs) out) rest) rounds
            (begins-front starts (near.front ++ l.front) rest (rest_of out) (sym same_behind) ∙ ap (begins starts) (sym whole_is) ∙ is)
            (λ k k-is.
            ap (λ (ws : List Word). round read (at_most k starts read) (at from.known ws)) (append_assoc near.front l.front rest)
            ∙ ap (λ (x : Read Word Known A). and_then x (λ (a : A) (p : Point Word Known). map_read (λ (xs : List A). a ∷ xs) (at_most k starts read p))) (near.again (l.front ++ rest) (ap head l.whole ∙ head-front l.front (rest_of out) rest same_behind))
            ∙ ap (map_read (λ (xs : List A). thing ∷ xs)) (l.again rest k (omega (arith, length-append near.front (l.front ++ rest), ap length (append_assoc near.front l.front rest))) same_behind)
            ∙ map-with_rest (λ (xs : List A). thing ∷ xs) out rest);
      }

  each-near_in : {A : Type 0} (F : Grammar Word Known A) (read : Reader Word Known A) (more starts : Word → Bool) → Reads F read more → Starts F starts → (n : ℕ) (from : Point Word Known) → length from.words ≤ n → EachNear starts read from (at_most n starts read from)
  each-near_in F read more starts f s zero from le = each-near_end starts read from (none-begins starts from.words le)
  each-near_in {A = A} F read more starts f s (suc n) from le =
      elim (cases_Bool (begins starts from.words)) [
        | inl is ↦ subst (λ (x : Read Word Known (List A)). EachNear starts read from x) (sym (at_most-more n starts read from is))
            (each-near_round F read more starts f s n from is le (read from) refl (f.near from) (λ (middle : Point Word Known) (a : length middle.words ≤ n). each-near_in F read more starts f s n middle a))
        | inr is ↦ subst (λ (x : Read Word Known (List A)). EachNear starts read from x) (sym (at_most-end (suc n) starts read from is)) (each-near_end starts read from is)
      ]

  pub each-reads : {A : Type 0} (F : Grammar Word Known A) (read : Reader Word Known A) (more starts : Word → Bool) → Reads F read more → Starts F starts → ((word : Word) → starts word ≡ true → more word ≡ false) → Reads (Each F) (each starts read) (or_also starts more)
  each-reads F read more starts f s apart = record {
    sound = λ from things to e. (at_most-sound (length from.words) F starts read f.sound from things to e).1;
    full = λ from things to r end. at_most-full (length from.words) F read more starts f s apart from things to (omega (arith, each-length F starts s from things to r)) r end;
    near = λ from. let n = each-near_in F read more starts f s (length from.words) from (omega arith) in
        record { front = n.front; whole = n.whole; again = λ rest same. n.again rest (length (n.front ++ rest)) (omega arith) same };
    framed = each-framed F f.framed;
    goes = λ from why rest e. let g = at_most-goes (length from.words) F read more starts f from why rest e in
        record { front = g.front; whole = g.whole; more = g.more; thing = g.thing; known = g.known; reads = g.reads.1 };
    lives = λ known. record { words = []; thing = []; later = known; reads = refl };
  }

  -- ---- levels

  -- where no level may be opened, a word that opens one stops the reading
  pub too_deep-got : {A : Type 0} (opens : Word → Bool) (from : Point Word Known) (b : Bool) → begins opens from.words ≡ b → too_deep {A = A} opens from ≡ Stuck (elim b [ true ↦ Deep | false ↦ Unexpected ]) from.words
  too_deep-got opens from true is = rw is refl
  too_deep-got opens from false is = rw is refl

  pub too_deep-never : {A : Type 0} (opens : Word → Bool) (from : Point Word Known) (thing : A) (to : Point Word Known) → too_deep opens from ≡ Got thing to → ⊥
  too_deep-never {A = A} opens from thing to e =
      elim (cases_Bool (begins opens from.words)) [
        | inl is ↦ let g : Stuck Deep from.words ≡ Got thing to = sym (too_deep-got {A = A} opens from true is) ∙ e in absurd cc
        | inr is ↦ let g : Stuck Unexpected from.words ≡ Got thing to = sym (too_deep-got {A = A} opens from false is) ∙ e in absurd cc
      ]

  too_deep-near : {A : Type 0} (opens : Word → Bool) (from : Point Word Known) → Near {A = A} (too_deep opens) from (too_deep opens from)
  too_deep-near {A = A} opens from = near-deep_in (begins opens from.words) refl where
    near-deep_in : (b : Bool) → begins opens from.words ≡ b → Near {A = A} (too_deep opens) from (too_deep opens from)
    near-deep_in b is = subst (λ (x : Read Word Known A). Near (too_deep opens) from x) (sym (too_deep-got {A = A} opens from b is))
        (record { front = []; whole = refl; again = λ rest same. too_deep-got {A = A} opens (at from.known rest) b (begins-head opens rest from.words (sym same) ∙ is) })

  pub too_deep-stuck : {A : Type 0} (opens : Word → Bool) (from : Point Word Known) (why : Why) (rest : List Word) → too_deep {A = A} opens from ≡ Stuck why rest → from.words ≡ rest
  too_deep-stuck {A = A} opens from why rest e = ap (rest_of {A = A}) (too_deep-at opens from ∙ e) where
    too_deep-at : (opens' : Word → Bool) (p : Point Word Known) → Stuck (elim (begins opens' p.words) [ true ↦ Deep | false ↦ Unexpected ]) p.words ≡ too_deep {A = A} opens' p
    too_deep-at opens' p = sym (too_deep-got {A = A} opens' p (begins opens' p.words) refl)

  -- a grammar that no level is opened in, read where none may be
  pub flat-reads : {A : Type 0} (F : Grammar Word Known A) (read : Reader Word Known A) (more starts opens : Word → Bool) → Reads F read more → Starts F starts → Reads F (either starts read (too_deep opens)) more
  flat-reads {A = A} F read more starts opens f s = record {
    sound = λ from thing to e. elim (cases_Bool (begins starts from.words)) [
      | inl is ↦ f.sound from thing to (sym (either-got starts read (too_deep opens) from true is) ∙ e)
      | inr is ↦ absurd (too_deep-never opens from thing to (sym (either-got starts read (too_deep opens) from false is) ∙ e))
    ];
    full = λ from thing to reads end. either-got starts read (too_deep opens) from true (s.some from thing to reads) ∙ f.full from thing to reads end;
    near = λ from. near-either_of starts read (too_deep opens) from (f.near from) (too_deep-near opens from);
    framed = f.framed;
    goes = λ from why rest e. elim (cases_Bool (begins starts from.words)) [
      | inl is ↦ f.goes from why rest (sym (either-got starts read (too_deep opens) from true is) ∙ e)
      | inr is ↦ stays-goes F from rest (f.lives from.known) (too_deep-stuck {A = A} opens from why rest (sym (either-got starts read (too_deep opens) from false is) ∙ e))
    ];
    lives = f.lives;
  }

  -- ---- more tests

  pub wider-starts : {A : Type 0} (F : Grammar Word Known A) (starts starts' : Word → Bool) → Starts F starts → ((word : Word) → starts word ≡ true → starts' word ≡ true) → Starts F starts'
  wider-starts F starts starts' s wider = record { some = λ from thing to reads. begins-wider starts starts' wider from.words (s.some from thing to reads); less = s.less } where
    begins-wider : (a b : Word → Bool) → ((word : Word) → a word ≡ true → b word ≡ true) → (words : List Word) → begins a words ≡ true → begins b words ≡ true
    begins-wider a b more [] is = is
    begins-wider a b more (word ∷ words) is = more word is

  -- a first thing that may take no word
  pub both-starts_on : {A B : Type 0} (F : Grammar Word Known A) (G : Grammar Word Known B) (read : Reader Word Known A) (more startsF startsG : Word → Bool) → Reads F read more → Opens F startsF → Starts G startsG → Starts (Then F G) (or_also startsF startsG)
  both-starts_on F G read more startsF startsG f o g = record {
    some = λ from thing to t. elim (o.some from thing.0 t.middle t.first) [
      | inl same ↦ begins-second startsF startsG from.words (ap (λ (p : Point Word Known). begins startsG p.words) same ∙ g.some t.middle thing.1 to t.second)
      | inr is ↦ begins-first startsF startsG from.words is
    ];
    less = λ from thing to t. omega (arith, framed-le F from thing.0 t.middle (f.framed from thing.0 t.middle t.first), g.less t.middle thing.1 to t.second);
  }

  pub wider-more : {A : Type 0} (F : Grammar Word Known A) (read : Reader Word Known A) (more more' : Word → Bool) → Reads F read more → ((word : Word) → more word ≡ true → more' word ≡ true) → Reads F read more'
  wider-more F read more more' f wider = record {
    sound = f.sound;
    full = λ from thing to reads end. f.full from thing to reads (ends-narrower more more' wider to.words end);
    near = f.near;
    framed = f.framed;
    goes = f.goes;
    lives = f.lives;
  }
