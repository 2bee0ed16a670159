-- Readers of one level more: where a reading stops at a word that opens one level too many, the reader that may open one more
-- goes on with that word; everywhere else the two give the same.
use Rattle.std.proofs.Common.{◌≡◌, ℕ, zero, suc, ◌≤◌, Bool, true, false, List, [], ◌∷◌, ◌++◌, length, Option, Some, None, refl, sym, ap, subst, ◌∙◌, append_assoc, arith, inl, inr}
use Rattle.std.proofs.lemmas.List.{length-append}
use Rattle.std.proofs.lemmas.Bool.{cases_Bool, false≢true}
use Rattle.grammar_laws.specs.Points.{Point, at, begins}
use Rattle.grammar_laws.specs.Shapes.{Grammar}
use Rattle.grammar_laws.specs.Steps.{Unexpected, Deep, Read, Got, Stuck, Reader, and_then, give, map_read, made, one_made, one_in, one, both, either, at_most, each, maybe, too_deep, after}
use Rattle.grammar_laws.proofs.Readers.{head, Near, Reads, Starts, head-front, begins-front, either-got, too_deep-got, round, enough}

module _ {Word Known : Type 0} where
  -- the reader goes on with the word at which another one stopped
  pub record Deeper {A : Type 0} (read : Reader Word Known A) (from : Point Word Known) (rest : List Word) : Type 0 where
    pub word : Word
    pub behind : List Word
    pub is : rest ≡ word ∷ behind
    pub front : List Word
    pub whole : from.words ≡ front ++ rest
    pub on : read (at from.known (front ++ word ∷ [])) ≡ Stuck Unexpected []

  -- what the reader gives where one with a level less gave this
  abbrev pub Raised : {A : Type 0} → Reader Word Known A → Point Word Known → Read Word Known A → Type 0
  Raised read from (Got thing to) = read from ≡ Got thing to
  Raised read from (Stuck Unexpected rest) = read from ≡ Stuck Unexpected rest
  Raised read from (Stuck Deep rest) = Deeper read from rest

  pub record Raises {A : Type 0} (read higher : Reader Word Known A) : Type 0 where
    pub raise : (from : Point Word Known) → Raised higher from (read from)

  -- ---- one word

  one_in-raised : {A : Type 0} (value : Word → Option (Known → A × Known)) (known : Known) (word : Word) (words : List Word) (make : Option (Known → A × Known)) → value word ≡ make → Raised (one value) (at known (word ∷ words)) (one_made make known word words)
  one_in-raised {A = A} value known word words None is = ap (λ (m : Option (Known → A × Known)). one_made m known word words) is
  one_in-raised {A = A} value known word words (Some make) is = ap (λ (m : Option (Known → A × Known)). one_made m known word words) is

  one-raised : {A : Type 0} (value : Word → Option (Known → A × Known)) (known : Known) (words : List Word) → Raised (one value) (at known words) (one_in value known words)
  one-raised value known [] = refl
  one-raised value known (word ∷ words) = one_in-raised value known word words (value word) refl

  pub one-raises : {A : Type 0} (value : Word → Option (Known → A × Known)) → Raises (one value) (one value)
  one-raises value = record { raise = λ from. one-raised value from.known from.words }

  -- ---- a thing made of another

  made-raised : {A B : Type 0} (make : A → B) (higher : Reader Word Known A) (from : Point Word Known) (out : Read Word Known A) → Raised higher from out → Raised (made make higher) from (map_read make out)
  made-raised make higher from (Got thing to) r = ap (map_read make) r
  made-raised make higher from (Stuck Unexpected rest) r = ap (map_read make) r
  made-raised make higher from (Stuck Deep rest) r = record { word = r.word; behind = r.behind; is = r.is; front = r.front; whole = r.whole; on = ap (map_read make) r.on }

  pub made-raises : {A B : Type 0} (make : A → B) (read higher : Reader Word Known A) → Raises read higher → Raises (made make read) (made make higher)
  made-raises make read higher r = record { raise = λ from. made-raised make higher from (read from) (r.raise from) }

  -- ---- one thing and then another

  -- a deeper second reading behind a first one
  deeper-behind : {A B : Type 0} (higher : Reader Word Known A) (next : A → Reader Word Known B) (from : Point Word Known) (thing : A) (middle : Point Word Known) (rest : List Word) → higher from ≡ Got thing middle → Near higher from (higher from) → Deeper (next thing) middle rest → Deeper (λ p. and_then (higher p) next) from rest
  deeper-behind {A = A} {B = B} higher next from thing middle rest is near' d =
      let n : Near higher from (Got thing middle) = subst (λ (x : Read Word Known A). Near higher from x) is near' in
      record {
        word = d.word;
        behind = d.behind;
        is = d.is;
        front = n.front ++ d.front;
        whole = n.whole ∙ ap (λ (ws : List Word). n.front ++ ws) d.whole ∙ sym (append_assoc n.front d.front rest);
        on =
            ap (λ (ws : List Word). and_then (higher (at from.known ws)) next) (append_assoc n.front d.front (d.word ∷ []))
            ∙ ap (λ (r : Read Word Known A). and_then r next) (n.again (d.front ++ d.word ∷ []) (ap head d.whole ∙ head-front d.front rest (d.word ∷ []) (ap head d.is)))
            ∙ d.on;
      }

  then-got_raised : {A B : Type 0} (higher : Reader Word Known A) (next : A → Reader Word Known B) (from : Point Word Known) (thing : A) (middle : Point Word Known) → higher from ≡ Got thing middle → Near higher from (higher from) → (out : Read Word Known B) → Raised (next thing) middle out → Raised (λ p. and_then (higher p) next) from out
  then-got_raised {A = A} higher next from thing middle is near (Got b to) r = ap (λ (x : Read Word Known A). and_then x next) is ∙ r
  then-got_raised {A = A} higher next from thing middle is near (Stuck Unexpected rest) r = ap (λ (x : Read Word Known A). and_then x next) is ∙ r
  then-got_raised higher next from thing middle is near (Stuck Deep rest) r = deeper-behind higher next from thing middle rest is near r

  then-raised : {A B : Type 0} (higher : Reader Word Known A) (next next' : A → Reader Word Known B) (from : Point Word Known) (out : Read Word Known A) → Raised higher from out → Near higher from (higher from) → ((thing : A) (middle : Point Word Known) → Raised (next' thing) middle (next thing middle)) → Raised (λ p. and_then (higher p) next') from (and_then out next)
  then-raised higher next next' from (Got thing middle) r near later = then-got_raised higher next' from thing middle r near (next thing middle) (later thing middle)
  then-raised {A = A} higher next next' from (Stuck Unexpected rest) r near later = ap (λ (x : Read Word Known A). and_then x next') r
  then-raised {A = A} higher next next' from (Stuck Deep rest) r near later =
      record { word = r.word; behind = r.behind; is = r.is; front = r.front; whole = r.whole; on = ap (λ (x : Read Word Known A). and_then x next') r.on }

  pub both-raises : {A B : Type 0} (first higher : Reader Word Known A) (second higher' : Reader Word Known B) → Raises first higher → Raises second higher' → ((from : Point Word Known) → Near higher from (higher from)) → Raises (both first second) (both higher higher')
  both-raises {A = A} {B = B} first higher second higher' r r' near = record {
    raise = λ from. then-raised higher (λ (a : A) (p : Point Word Known). map_read (λ (b : B). (a, b)) (second p)) (λ (a : A) (p : Point Word Known). map_read (λ (b : B). (a, b)) (higher' p)) from (first from) (r.raise from) (near from)
        (λ a middle. made-raised (λ (b : B). (a, b)) higher' middle (second middle) (r'.raise middle));
  }

  -- ---- one of two things

  either-raised : {A : Type 0} (test : Word → Bool) (higher higher' : Reader Word Known A) (from : Point Word Known) (out : Read Word Known A) (b : Bool) → begins test from.words ≡ b → Raised (elim b as (λ x. Reader Word Known A) [ true ↦ higher | false ↦ higher' ]) from out → Raised (either test higher higher') from out
  either-raised test higher higher' from (Got thing to) true is r = either-got test higher higher' from true is ∙ r
  either-raised test higher higher' from (Got thing to) false is r = either-got test higher higher' from false is ∙ r
  either-raised test higher higher' from (Stuck Unexpected rest) true is r = either-got test higher higher' from true is ∙ r
  either-raised test higher higher' from (Stuck Unexpected rest) false is r = either-got test higher higher' from false is ∙ r
  either-raised test higher higher' from (Stuck Deep rest) true is r =
      record {
        word = r.word;
        behind = r.behind;
        is = r.is;
        front = r.front;
        whole = r.whole;
        on = either-got test higher higher' (at from.known (r.front ++ r.word ∷ [])) true (begins-front test r.front (r.word ∷ []) rest (sym (ap head r.is)) ∙ ap (begins test) (sym r.whole) ∙ is) ∙ r.on;
      }
  either-raised test higher higher' from (Stuck Deep rest) false is r =
      record {
        word = r.word;
        behind = r.behind;
        is = r.is;
        front = r.front;
        whole = r.whole;
        on = either-got test higher higher' (at from.known (r.front ++ r.word ∷ [])) false (begins-front test r.front (r.word ∷ []) rest (sym (ap head r.is)) ∙ ap (begins test) (sym r.whole) ∙ is) ∙ r.on;
      }

  either-raises_at : {A : Type 0} (test : Word → Bool) (first second higher higher' : Reader Word Known A) (from : Point Word Known) → Raised higher from (first from) → Raised higher' from (second from) → (b : Bool) → begins test from.words ≡ b → Raised (either test higher higher') from (either test first second from)
  either-raises_at {A = A} test first second higher higher' from r r' true is =
      subst (λ (x : Read Word Known A). Raised (either test higher higher') from x) (sym (either-got test first second from true is)) (either-raised test higher higher' from (first from) true is r)
  either-raises_at {A = A} test first second higher higher' from r r' false is =
      subst (λ (x : Read Word Known A). Raised (either test higher higher') from x) (sym (either-got test first second from false is)) (either-raised test higher higher' from (second from) false is r')

  pub either-raises : {A : Type 0} (test : Word → Bool) (first second higher higher' : Reader Word Known A) → Raises first higher → Raises second higher' → Raises (either test first second) (either test higher higher')
  either-raises test first second higher higher' r r' = record { raise = λ from. either-raises_at test first second higher higher' from (r.raise from) (r'.raise from) (begins test from.words) refl }

  pub maybe-raises : {A : Type 0} (test : Word → Bool) (read higher : Reader Word Known A) → Raises read higher → Raises (maybe test read) (maybe test higher)
  maybe-raises {A = A} test read higher r = record {
    raise = λ from. either-raises_at test (made Some read) (give None) (made Some higher) (give None) from (made-raised Some higher from (read from) (r.raise from)) refl (begins test from.words) refl;
  }

  -- ---- things one after another

  at_most-raised : {A : Type 0} (most : ℕ) (test : Word → Bool) (read higher : Reader Word Known A) → Raises read higher → ((from : Point Word Known) → Near higher from (higher from)) → (from : Point Word Known) → Raised (at_most most test higher) from (at_most most test read from)
  at_most-raised zero test read higher r near from = refl
  at_most-raised {A = A} (suc most) test read higher r near from =
      either-raises_at test (round read (at_most most test read)) (give []) (round higher (at_most most test higher)) (give []) from
      (then-raised higher (λ (a : A) (p : Point Word Known). map_read (λ (xs : List A). a ∷ xs) (at_most most test read p)) (λ (a : A) (p : Point Word Known). map_read (λ (xs : List A). a ∷ xs) (at_most most test higher p)) from (read from) (r.raise from) (near from)
      (λ a middle. made-raised (λ (xs : List A). a ∷ xs) (at_most most test higher) middle (at_most most test read middle) (at_most-raised most test read higher r near middle)))
      refl (begins test from.words) refl

  pub at_most-raises : {A : Type 0} (most : ℕ) (test : Word → Bool) (read higher : Reader Word Known A) → Raises read higher → ((from : Point Word Known) → Near higher from (higher from)) → Raises (at_most most test read) (at_most most test higher)
  at_most-raises most test read higher r near = record { raise = at_most-raised most test read higher r near }

  each-raised : {A : Type 0} (F : Grammar Word Known A) (higher : Reader Word Known A) (more starts : Word → Bool) → Reads F higher more → Starts F starts → (from : Point Word Known) (out : Read Word Known (List A)) → Raised (at_most (length from.words) starts higher) from out → Raised (each starts higher) from out
  each-raised F higher more starts f s from (Got things to) r = r
  each-raised F higher more starts f s from (Stuck Unexpected rest) r = r
  each-raised F higher more starts f s from (Stuck Deep rest) r =
      let fewer : length (r.front ++ r.word ∷ []) ≤ length from.words = omega (arith, ap length r.whole, length-append r.front rest, length-append r.front (r.word ∷ []), ap length r.is) in
      record {
        word = r.word;
        behind = r.behind;
        is = r.is;
        front = r.front;
        whole = r.whole;
        on = enough F higher more starts f s (length (r.front ++ r.word ∷ [])) (length from.words) (at from.known (r.front ++ r.word ∷ [])) (omega arith) fewer ∙ r.on;
      }

  pub each-raises : {A : Type 0} (F : Grammar Word Known A) (read higher : Reader Word Known A) (more starts : Word → Bool) → Reads F higher more → Starts F starts → Raises read higher → Raises (each starts read) (each starts higher)
  each-raises F read higher more starts f s r = record {
    raise = λ from. each-raised F higher more starts f s from (at_most (length from.words) starts read from) (at_most-raised (length from.words) starts read higher r f.near from);
  }

  -- ---- levels

  flat-raised : {A : Type 0} (starts opens : Word → Bool) (leaf deep : Reader Word Known A) → ((known : Known) (words : List Word) → begins opens words ≡ false → deep (at known words) ≡ Stuck Unexpected words) → ((known : Known) (word : Word) → opens word ≡ true → deep (at known (word ∷ [])) ≡ Stuck Unexpected []) → (known : Known) (words : List Word) → begins starts words ≡ false → (b : Bool) → begins opens words ≡ b → Raised (either starts leaf deep) (at known words) (Stuck (elim b [ true ↦ Deep | false ↦ Unexpected ]) words)
  flat-raised starts opens leaf deep flat goes known words not_leaf false is = either-got starts leaf deep (at known words) false not_leaf ∙ flat known words is
  flat-raised starts opens leaf deep flat goes known [] not_leaf true is = absurd (false≢true is)
  flat-raised starts opens leaf deep flat goes known (word ∷ words) not_leaf true is =
      record {
        word = word;
        behind = words;
        is = refl;
        front = [];
        whole = refl;
        on = either-got starts leaf deep (at known (word ∷ [])) false not_leaf ∙ goes known word is;
      }

  -- a reader that may open no level, and one that may open one
  pub flat-raises : {A : Type 0} (starts opens : Word → Bool) (leaf higher deep : Reader Word Known A) → Raises leaf higher → ((known : Known) (words : List Word) → begins opens words ≡ false → deep (at known words) ≡ Stuck Unexpected words) → ((known : Known) (word : Word) → opens word ≡ true → deep (at known (word ∷ [])) ≡ Stuck Unexpected []) → Raises (either starts leaf (too_deep opens)) (either starts higher deep)
  flat-raises {A = A} starts opens leaf higher deep r flat goes = record {
    raise = λ from. elim (cases_Bool (begins starts from.words)) [
      | inl is ↦ subst (λ (x : Read Word Known A). Raised (either starts higher deep) from x) (sym (either-got starts leaf (too_deep opens) from true is)) (either-raised starts higher deep from (leaf from) true is (r.raise from))
      | inr is ↦ subst (λ (x : Read Word Known A). Raised (either starts higher deep) from x)
          (sym (either-got starts leaf (too_deep opens) from false is ∙ too_deep-got {A = A} opens from (begins opens from.words) refl))
          (flat-raised starts opens higher deep flat goes from.known from.words is (begins opens from.words) refl)
    ];
  }

  pub after-raises : {A B : Type 0} (first higher : Reader Word Known A) (second higher' : A → Reader Word Known B) → Raises first higher → ((a : A) → Raises (second a) (higher' a)) → ((from : Point Word Known) → Near higher from (higher from)) → Raises (after first second) (after higher higher')
  after-raises first higher second higher' r r' near = record {
    raise = λ from. then-raised higher second higher' from (first from) (r.raise from) (near from) (λ a middle. (r' a).raise middle);
  }
