-- A reading that would have ended with the words is never stopped by the next word there: it ends before it or takes it.
use Rattle.std.proofs.Common.{◌≡◌, ℕ, zero, suc, ◌<◌, Bool, true, false, List, [], ◌∷◌, ◌++◌, length, Option, Some, None, refl, sym, ap, subst, ◌∙◌, append_assoc, arith, inl, inr, ◌||◌}
use Rattle.std.proofs.lemmas.List.{length-append, append_cancel_right}
use Rattle.std.proofs.lemmas.Bool.{cases_Bool, false≢true}
use Rattle.grammar_laws.specs.Points.{Point, at, begins}
use Rattle.grammar_laws.specs.Shapes.{Grammar}
use Rattle.grammar_laws.specs.Steps.{Why, Unexpected, Deep, Read, Got, Stuck, Reader, rest_of, and_then, give, map_read, made, one_made, one_in, one, both, either, at_most, each, maybe, too_deep, passes, or_also}
use Rattle.grammar_laws.proofs.Readers.{head, Near, Reads, Starts, then-got, map-got, then-stuck, map-stuck, either-got, too_deep-got, too_deep-never, at_most-more, at_most-end, round, enough, at_most-reads, near-map_of}

module _ {Word : Type 0} where
  some-words : (starts : Word → Bool) (words : List Word) → begins starts words ≡ true → 0 < length words
  some-words starts [] is = absurd (false≢true is)
  some-words starts (word ∷ words) is = omega arith

  empty-or : (words rest : List Word) (test : Word → Bool) → 0 < length words → begins test (words ++ rest) ≡ begins test words
  empty-or [] rest test some = absurd (omega arith)
  empty-or (word ∷ words) rest test some = refl

  or-cases : (first second : Word → Bool) (words : List Word) → begins (or_also first second) words ≡ true → begins first words ≡ false → begins second words ≡ true
  or-cases first second [] is isnt = is
  or-cases first second (word ∷ words) is isnt = elim (first word) as (λ (b : Bool). (b || second word) ≡ true → b ≡ false → second word ≡ true) [ true ↦ λ p q. absurd (false≢true (sym q)) | false ↦ λ p q. p ] is isnt

module _ {Word Known : Type 0} where
  -- a reading that begins with a word that passes takes that word
  pub record Takes {A : Type 0} (read : Reader Word Known A) (starts : Word → Bool) : Type 0 where
    pub take : (from : Point Word Known) (rest : List Word) → begins starts from.words ≡ true → read from ≡ Stuck Unexpected rest → length rest < length from.words

  -- no reading is stopped before it takes a word
  pub record Moves {A : Type 0} (read : Reader Word Known A) : Type 0 where
    pub move : (from : Point Word Known) (rest : List Word) → read from ≡ Stuck Unexpected rest → length rest < length from.words

  pub record Steady {A : Type 0} (read : Reader Word Known A) : Type 0 where
    pub steady : (known : Known) (front rest : List Word) (thing : A) (later : Known) → read (at known front) ≡ Got thing (at later []) → read (at known (front ++ rest)) ≡ Stuck Unexpected rest → ⊥

  -- ---- one word

  one-stuck_no : {A : Type 0} (value : Word → Option (Known → A × Known)) (make : Option (Known → A × Known)) (known : Known) (word : Word) (words rest : List Word) (thing : A) (later : Point Word Known) (front : List Word) → one_made make known word front ≡ Got thing later → one_made make known word words ≡ Stuck Unexpected rest → ⊥
  one-stuck_no value None known word words rest thing later front e f = absurd cc
  one-stuck_no value (Some make) known word words rest thing later front e f = absurd cc

  one-steady_in : {A : Type 0} (value : Word → Option (Known → A × Known)) (known : Known) (front rest : List Word) (thing : A) (later : Known) → one_in value known front ≡ Got thing (at later []) → one_in value known (front ++ rest) ≡ Stuck Unexpected rest → ⊥
  one-steady_in value known [] rest thing later e f = absurd cc
  one-steady_in value known (word ∷ front) rest thing later e f = one-stuck_no value (value word) known word (front ++ rest) rest thing (at later []) front e f

  pub one-steady : {A : Type 0} (value : Word → Option (Known → A × Known)) → Steady (one value)
  one-steady value = record { steady = one-steady_in value }

  one_made-takes : {A : Type 0} (make : Option (Known → A × Known)) (known : Known) (word : Word) (words rest : List Word) → passes (λ (w : Word). make) word ≡ true → one_made make known word words ≡ Stuck Unexpected rest → ⊥
  one_made-takes None known word words rest is e = absurd (false≢true is)
  one_made-takes (Some make) known word words rest is e = absurd cc

  one_in-takes : {A : Type 0} (value : Word → Option (Known → A × Known)) (known : Known) (words rest : List Word) → begins (passes value) words ≡ true → one_in value known words ≡ Stuck Unexpected rest → ⊥
  one_in-takes value known [] rest is e = absurd (false≢true is)
  one_in-takes value known (word ∷ words) rest is e = one_made-takes (value word) known word words rest is e

  pub one-takes : {A : Type 0} (value : Word → Option (Known → A × Known)) → Takes (one value) (passes value)
  one-takes value = record { take = λ from rest is e. absurd (one_in-takes value from.known from.words rest is e) }

  -- ---- a thing made of another

  pub made-steady : {A B : Type 0} (make : A → B) (read : Reader Word Known A) → Steady read → Steady (made make read)
  made-steady make read s = record {
    steady = λ known front rest thing later e f. let m = map-got make (read (at known front)) thing (at later []) e in
        s.steady known front rest m.of later m.one_is (map-stuck make (read (at known (front ++ rest))) Unexpected rest f);
  }

  pub made-takes : {A B : Type 0} (make : A → B) (read : Reader Word Known A) (starts : Word → Bool) → Takes read starts → Takes (made make read) starts
  made-takes make read starts t = record { take = λ from rest is e. t.take from rest is (map-stuck make (read from) Unexpected rest e) }

  -- ---- one thing and then another

  -- where a first reading ends
  pub near-got : {A : Type 0} (read : Reader Word Known A) (from : Point Word Known) (thing : A) (to : Point Word Known) → Near read from (read from) → read from ≡ Got thing to → Near read from (Got thing to)
  near-got {A = A} read from thing to n is = subst (λ (x : Read Word Known A). Near read from x) is n

  pub near-stuck : {A : Type 0} (read : Reader Word Known A) (from : Point Word Known) (why : Why) (rest : List Word) → Near read from (read from) → read from ≡ Stuck why rest → Near read from (Stuck why rest)
  near-stuck {A = A} read from why rest n is = subst (λ (x : Read Word Known A). Near read from x) is n

  -- What the second reading took is none of the words of the front: the first one would have left it.
  none-left : {A : Type 0} (read : Reader Word Known A) (known : Known) (front rest : List Word) (thing : A) (later : Known) → read (at known front) ≡ Got thing (at later []) → (thing' : A) (middle : Point Word Known) → (n : Near read (at known (front ++ rest)) (Got thing' middle)) → (took : List Word) → middle.words ≡ took ++ rest → front ≡ n.front ++ took → took ≡ []
  none-left read known front rest thing later e thing' middle n [] whole is = refl
  none-left read known front rest thing later e thing' middle n (word ∷ took) whole is =
      let a : read (at known (n.front ++ word ∷ took)) ≡ Got thing' (at middle.known (word ∷ took)) = n.again (word ∷ took) (ap head whole) in
      let b : Got thing (at later []) ≡ Got thing' (at middle.known (word ∷ took)) = sym e ∙ ap (λ (ws : List Word). read (at known ws)) is ∙ a in
      let c : [] ≡ word ∷ took = ap rest_of b in
      absurd cc

  then-steady_cut : {A B : Type 0} (read : Reader Word Known A) (next : A → Reader Word Known B) (known : Known) (front rest : List Word) (thing : A) (later : Known) → read (at known front) ≡ Got thing (at later []) → (thing' : A) (middle : Point Word Known) → Near read (at known (front ++ rest)) (Got thing' middle) → Near (next thing') middle (Stuck Unexpected rest) → (length rest < length middle.words) → ⊥
  then-steady_cut read next known front rest thing later e thing' middle n m less =
      let whole : front ++ rest ≡ (n.front ++ m.front) ++ rest = n.whole ∙ ap (λ (ws : List Word). n.front ++ ws) m.whole ∙ sym (append_assoc n.front m.front rest) in
      let none : m.front ≡ [] = none-left read known front rest thing later e thing' middle n m.front m.whole (append_cancel_right front (n.front ++ m.front) rest whole) in
      let same : middle.words ≡ rest = m.whole ∙ ap (λ (ws : List Word). ws ++ rest) none in
      absurd (omega (arith, ap length same))

  stuck-again : {A B : Type 0} (why : Why) (old rest : List Word) → ◌≡◌ {A = Read Word Known B} (Stuck why old) (Stuck Unexpected rest) → ◌≡◌ {A = Read Word Known A} (Stuck why old) (Stuck Unexpected rest)
  stuck-again why old rest e =
      let a : why ≡ Unexpected = cc in
      let b : old ≡ rest = cc in
      ap (λ (w : Why). Stuck w old) a ∙ ap (Stuck Unexpected) b

  -- the first reading ended with the words, and the second one took nothing
  then-steady_end : {A B : Type 0} (read : Reader Word Known A) (next : A → Reader Word Known B) → Steady read → ((from : Point Word Known) → Near read from (read from)) → ((thing : A) (from : Point Word Known) → Near (next thing) from (next thing from)) → ((thing : A) → Moves (next thing)) → (known : Known) (front rest : List Word) (thing : A) (later : Known) → read (at known front) ≡ Got thing (at later []) → (out : Read Word Known A) → read (at known (front ++ rest)) ≡ out → and_then out next ≡ Stuck Unexpected rest → ⊥
  then-steady_end read next s near near' moves known front rest thing later e (Stuck why old) is f = s.steady known front rest thing later e (is ∙ stuck-again why old rest f)
  then-steady_end {A = A} read next s near near' moves known front rest thing later e (Got thing' middle) is f =
      then-steady_cut read next known front rest thing later e thing' middle
      (near-got read (at known (front ++ rest)) thing' middle (near (at known (front ++ rest))) is)
      (near-stuck (next thing') middle Unexpected rest (near' thing' middle) f)
      ((moves thing').move middle rest f)

  -- the second reading took the last of the words
  then-steady_on : {A B : Type 0} (read : Reader Word Known A) (next : A → Reader Word Known B) → ((thing : A) → Steady (next thing)) → (known : Known) (front rest : List Word) (thing : B) (later : Known) (of : A) (middle : Point Word Known) → Near read (at known front) (Got of middle) → (words : List Word) → middle.words ≡ words → 0 < length words → next of (at middle.known words) ≡ Got thing (at later []) → and_then (read (at known (front ++ rest))) next ≡ Stuck Unexpected rest → ⊥
  then-steady_on read next s known front rest thing later of middle n [] same some e f = absurd (omega arith)
  then-steady_on {A = A} {B = B} read next s known front rest thing later of middle n (word ∷ words) same some e f =
      let a : read (at known (n.front ++ (word ∷ words ++ rest))) ≡ Got of (at middle.known (word ∷ words ++ rest)) = n.again (word ∷ words ++ rest) (ap head same) in
      let b : front ++ rest ≡ n.front ++ ((word ∷ words) ++ rest) = ap (λ (ws : List Word). ws ++ rest) (n.whole ∙ ap (λ (ws : List Word). n.front ++ ws) same) ∙ append_assoc n.front (word ∷ words) rest in
      let c : next of (at middle.known ((word ∷ words) ++ rest)) ≡ Stuck Unexpected rest = sym (ap (λ (r : Read Word Known A). and_then r next) (ap (λ (ws : List Word). read (at known ws)) b ∙ a)) ∙ f in
      (s of).steady middle.known (word ∷ words) rest thing later e c

  -- a second reading that may take nothing
  then-steady_in : {A B : Type 0} (read : Reader Word Known A) (next : A → Reader Word Known B) → Steady read → ((thing : A) → Steady (next thing)) → ((from : Point Word Known) → Near read from (read from)) → ((thing : A) (from : Point Word Known) → Near (next thing) from (next thing from)) → ((thing : A) → Moves (next thing)) → (known : Known) (front rest : List Word) (thing : B) (later : Known) (of : A) (middle : Point Word Known) → read (at known front) ≡ Got of middle → (words : List Word) → middle.words ≡ words → next of middle ≡ Got thing (at later []) → and_then (read (at known (front ++ rest))) next ≡ Stuck Unexpected rest → ⊥
  then-steady_in {A = A} read next s s' near near' moves known front rest thing later of middle is [] same e f =
      then-steady_end read next s near near' moves known front rest of middle.known (is ∙ ap (λ (ws : List Word). Got of (at middle.known ws)) same) (read (at known (front ++ rest))) refl f
  then-steady_in {A = A} {B = B} read next s s' near near' moves known front rest thing later of middle is (word ∷ words) same e f =
      then-steady_on read next s' known front rest thing later of middle (near-got read (at known front) of middle (near (at known front)) is) (word ∷ words) same (omega arith)
      (ap (λ (ws : List Word). next of (at middle.known ws)) (sym same) ∙ e) f

  pub then-steady : {A B : Type 0} (read : Reader Word Known A) (next : A → Reader Word Known B) → Steady read → ((thing : A) → Steady (next thing)) → ((from : Point Word Known) → Near read from (read from)) → ((thing : A) (from : Point Word Known) → Near (next thing) from (next thing from)) → ((thing : A) → Moves (next thing)) → Steady (λ p. and_then (read p) next)
  then-steady read next s s' near near' moves = record {
    steady = λ known front rest thing later e f. let t = then-got (read (at known front)) next thing (at later []) e in
        then-steady_in read next s s' near near' moves known front rest thing later t.of t.middle t.one_is t.middle.words refl t.two_is f;
  }

  -- a second reading that takes a word
  pub both-steady : {A B : Type 0} (G : Grammar Word Known B) (first : Reader Word Known A) (second : Reader Word Known B) (more starts : Word → Bool) → ((from : Point Word Known) → Near first from (first from)) → Reads G second more → Starts G starts → Steady second → Steady (both first second)
  both-steady {A = A} {B = B} G first second more starts near g s s' = record {
    steady = λ known front rest thing later e f.
        let t = then-got (first (at known front)) (λ (a : A) (p : Point Word Known). map_read (λ (b : B). (a, b)) (second p)) thing (at later []) e in
        let m = map-got (λ (b : B). (t.of, b)) (second t.middle) thing (at later []) t.two_is in
        then-steady_on first (λ (a : A) (p : Point Word Known). map_read (λ (b : B). (a, b)) (second p)) (λ a. made-steady (λ (b : B). (a, b)) second s') known front rest thing later t.of t.middle
        (near-got first (at known front) t.of t.middle (near (at known front)) t.one_is) t.middle.words refl
        (some-words starts t.middle.words (s.some t.middle m.of (at later []) (g.sound t.middle m.of (at later []) m.one_is)))
        t.two_is f;
  }

  -- a second reading that may take nothing
  pub both-steady_on : {A B : Type 0} (first : Reader Word Known A) (second : Reader Word Known B) → Steady first → ((from : Point Word Known) → Near first from (first from)) → ((from : Point Word Known) → Near second from (second from)) → Steady second → Moves second → Steady (both first second)
  both-steady_on {A = A} {B = B} first second s near near' s' moves =
      then-steady first (λ (a : A) (p : Point Word Known). map_read (λ (b : B). (a, b)) (second p)) s (λ a. made-steady (λ (b : B). (a, b)) second s') near (λ a p. near-map_of (λ (b : B). (a, b)) second near' p)
      (λ a. record { move = λ from rest e. moves.move from rest (map-stuck (λ (b : B). (a, b)) (second from) Unexpected rest e) })

  both-takes_in : {A B : Type 0} (F : Grammar Word Known A) (first : Reader Word Known A) (second : Reader Word Known B) (more starts : Word → Bool) → Reads F first more → Starts F starts → ((from : Point Word Known) → Near second from (second from)) → Takes first starts → (from : Point Word Known) (rest : List Word) → begins starts from.words ≡ true → both first second from ≡ Stuck Unexpected rest → length rest < length from.words
  both-takes_in {A = A} {B = B} F first second more starts f s near t from rest is e =
      elim (then-stuck (first from) (λ (a : A) (p : Point Word Known). map_read (λ (b : B). (a, b)) (second p)) Unexpected rest e) [
        | inl stuck ↦ t.take from rest is stuck
        | inr later ↦
            let less = s.less from later.of later.middle (f.sound from later.of later.middle later.one_is) in
            let m = near-stuck second later.middle Unexpected rest (near later.middle) (map-stuck (λ (b : B). (later.of, b)) (second later.middle) Unexpected rest later.two_is) in
            omega (arith, less, ap length m.whole, length-append m.front rest)
      ]

  pub both-takes : {A B : Type 0} (F : Grammar Word Known A) (first : Reader Word Known A) (second : Reader Word Known B) (more starts : Word → Bool) → Reads F first more → Starts F starts → ((from : Point Word Known) → Near second from (second from)) → Takes first starts → Takes (both first second) starts
  both-takes F first second more starts f s near t = record { take = both-takes_in F first second more starts f s near t }

  -- ---- one of two things

  pub either-steady : {A : Type 0} (F G : Grammar Word Known A) (first second : Reader Word Known A) (moreF moreG startsF startsG : Word → Bool) → Reads F first moreF → Reads G second moreG → Starts F startsF → Starts G startsG → Steady first → Steady second → Steady (either startsF first second)
  either-steady F G first second moreF moreG startsF startsG f g s t s' t' = record {
    steady = λ known front rest thing later e e'. elim (cases_Bool (begins startsF front)) [
      | inl is ↦ s'.steady known front rest thing later (sym (either-got startsF first second (at known front) true is) ∙ e)
          (sym (either-got startsF first second (at known (front ++ rest)) true (empty-or front rest startsF (some-words startsF front is) ∙ is)) ∙ e')
      | inr is ↦
          let reads = sym (either-got startsF first second (at known front) false is) ∙ e in
          let some = some-words startsG front (t.some (at known front) thing (at later []) (g.sound (at known front) thing (at later []) reads)) in
          t'.steady known front rest thing later reads (sym (either-got startsF first second (at known (front ++ rest)) false (empty-or front rest startsF some ∙ is)) ∙ e')
    ];
  }

  pub either-takes : {A : Type 0} (first second : Reader Word Known A) (startsF startsG : Word → Bool) → Takes first startsF → Takes second startsG → Takes (either startsF first second) (or_also startsF startsG)
  either-takes first second startsF startsG t t' = record {
    take = λ from rest is e. elim (cases_Bool (begins startsF from.words)) [
      | inl a ↦ t.take from rest a (sym (either-got startsF first second from true a) ∙ e)
      | inr b ↦ t'.take from rest (or-cases startsF startsG from.words is b) (sym (either-got startsF first second from false b) ∙ e)
    ];
  }

  -- ---- a thing, if there is one

  pub maybe-moves : {A : Type 0} (read : Reader Word Known A) (starts : Word → Bool) → Takes read starts → Moves (maybe starts read)
  maybe-moves {A = A} read starts t = record {
    move = λ from rest e. elim (cases_Bool (begins starts from.words)) [
      | inl is ↦ t.take from rest is (map-stuck {A = A} {B = Option A} Some (read from) Unexpected rest (sym (either-got starts (made Some read) (give None) from true is) ∙ e))
      | inr is ↦ let g : Got None from ≡ Stuck Unexpected rest = sym (either-got starts (made Some read) (give None) from false is) ∙ e in absurd cc
    ];
  }

  -- a reading that takes nothing unless a word passes
  optional-steady : {B : Type 0} (starts : Word → Bool) (read : Reader Word Known B) (none : B) → Steady read → Moves (either starts read (give none)) → Steady (either starts read (give none))
  optional-steady {B = B} starts read none s moves = record {
    steady = λ known front rest thing later e f. elim (cases_Bool (begins starts front)) [
      | inl is ↦ s.steady known front rest thing later (sym (either-got starts read (give none) (at known front) true is) ∙ e)
          (sym (either-got starts read (give none) (at known (front ++ rest)) true (empty-or front rest starts (some-words starts front is) ∙ is)) ∙ f)
      | inr is ↦
          let g : Got none (at known front) ≡ Got thing (at later []) = sym (either-got starts read (give none) (at known front) false is) ∙ e in
          let empty : front ≡ [] = ap rest_of g in
          let f' : either starts read (give none) (at known rest) ≡ Stuck Unexpected rest = ap (λ (ws : List Word). either starts read (give none) (at known (ws ++ rest))) (sym empty) ∙ f in
          absurd (omega (arith, moves.move (at known rest) rest f'))
    ];
  }

  pub maybe-steady : {A : Type 0} (read : Reader Word Known A) (starts : Word → Bool) → Steady read → Takes read starts → Steady (maybe starts read)
  maybe-steady {A = A} read starts s t = optional-steady {B = Option A} starts (made Some read) None (made-steady Some read s) (maybe-moves read starts t)

  -- ---- things one after another

  at_most-moves_in : {A : Type 0} (F : Grammar Word Known A) (read : Reader Word Known A) (more starts : Word → Bool) → Reads F read more → Starts F starts → Takes read starts → (most : ℕ) (from : Point Word Known) (rest : List Word) → at_most most starts read from ≡ Stuck Unexpected rest → length rest < length from.words
  at_most-moves_in F read more starts f s t zero from rest e = absurd cc
  at_most-moves_in {A = A} F read more starts f s t (suc most) from rest e =
      elim (cases_Bool (begins starts from.words)) [
        | inl is ↦ elim (then-stuck (read from) (λ (a : A) (p : Point Word Known). map_read (λ (xs : List A). a ∷ xs) (at_most most starts read p)) Unexpected rest (sym (at_most-more most starts read from is) ∙ e)) [
          | inl stuck ↦ t.take from rest is stuck
          | inr later ↦
              let less = s.less from later.of later.middle (f.sound from later.of later.middle later.one_is) in
              let less' = at_most-moves_in F read more starts f s t most later.middle rest (map-stuck (λ (xs : List A). later.of ∷ xs) (at_most most starts read later.middle) Unexpected rest later.two_is) in
              omega (arith, less, less')
        ]
        | inr is ↦ let g : Got [] from ≡ Stuck Unexpected rest = sym (at_most-end (suc most) starts read from is) ∙ e in absurd cc
      ]

  pub at_most-moves : {A : Type 0} (F : Grammar Word Known A) (read : Reader Word Known A) (more starts : Word → Bool) → Reads F read more → Starts F starts → Takes read starts → (most : ℕ) → Moves (at_most most starts read)
  at_most-moves F read more starts f s t most = record { move = at_most-moves_in F read more starts f s t most }

  pub each-moves : {A : Type 0} (F : Grammar Word Known A) (read : Reader Word Known A) (more starts : Word → Bool) → Reads F read more → Starts F starts → Takes read starts → Moves (each starts read)
  each-moves F read more starts f s t = record { move = λ from rest e. at_most-moves_in F read more starts f s t (length from.words) from rest e }

  pub at_most-steady : {A : Type 0} (F : Grammar Word Known A) (read : Reader Word Known A) (more starts : Word → Bool) → Reads F read more → Starts F starts → ((word : Word) → starts word ≡ true → more word ≡ false) → Takes read starts → Steady read → (most : ℕ) → Steady (at_most most starts read)
  at_most-steady F read more starts f s apart t s' zero = record { steady = λ known front rest thing later e e'. absurd cc }
  at_most-steady {A = A} F read more starts f s apart t s' (suc most) =
      optional-steady {B = List A} starts (round read (at_most most starts read)) []
      (then-steady read (λ (a : A) (p : Point Word Known). map_read (λ (xs : List A). a ∷ xs) (at_most most starts read p)) s'
      (λ a. made-steady (λ (xs : List A). a ∷ xs) (at_most most starts read) (at_most-steady F read more starts f s apart t s' most)) f.near
      (λ a p. near-map_of (λ (xs : List A). a ∷ xs) (at_most most starts read) ((at_most-reads most F read more starts f s apart).near) p)
      (λ a. record { move = λ from rest e. at_most-moves_in F read more starts f s t most from rest (map-stuck (λ (xs : List A). a ∷ xs) (at_most most starts read from) Unexpected rest e) }))
      (at_most-moves F read more starts f s t (suc most))

  pub each-steady : {A : Type 0} (F : Grammar Word Known A) (read : Reader Word Known A) (more starts : Word → Bool) → Reads F read more → Starts F starts → ((word : Word) → starts word ≡ true → more word ≡ false) → Takes read starts → Steady read → Steady (each starts read)
  each-steady F read more starts f s apart t s' = record {
    steady = λ known front rest thing later e e'.
        let rounds = length (front ++ rest) in
        (at_most-steady F read more starts f s apart t s' rounds).steady known front rest thing later
        (enough F read more starts f s rounds (length front) (at known front) (omega (arith, length-append front rest)) (omega arith) ∙ e) e';
  }

  -- ---- levels

  pub flat-steady : {A : Type 0} (read : Reader Word Known A) (starts opens : Word → Bool) → Steady read → Steady (either starts read (too_deep opens))
  flat-steady read starts opens s = record {
    steady = λ known front rest thing later e f. elim (cases_Bool (begins starts front)) [
      | inl is ↦ s.steady known front rest thing later (sym (either-got starts read (too_deep opens) (at known front) true is) ∙ e)
          (sym (either-got starts read (too_deep opens) (at known (front ++ rest)) true (empty-or front rest starts (some-words starts front is) ∙ is)) ∙ f)
      | inr is ↦ absurd (too_deep-never opens (at known front) thing (at later []) (sym (either-got starts read (too_deep opens) (at known front) false is) ∙ e))
    ];
  }

  too_deep-takes : {A : Type 0} (opens : Word → Bool) (from : Point Word Known) (rest : List Word) → begins opens from.words ≡ true → too_deep {A = A} opens from ≡ Stuck Unexpected rest → ⊥
  too_deep-takes {A = A} opens from rest is e = let g : ◌≡◌ {A = Read Word Known A} (Stuck Deep from.words) (Stuck Unexpected rest) = sym (too_deep-got {A = A} opens from true is) ∙ e in absurd cc

  pub flat-takes : {A : Type 0} (read : Reader Word Known A) (starts opens : Word → Bool) → Takes read starts → Takes (either starts read (too_deep opens)) (or_also starts opens)
  flat-takes {A = A} read starts opens t = either-takes read (too_deep opens) starts opens t (record { take = λ from rest is e. absurd (too_deep-takes {A = A} opens from rest is e) })
