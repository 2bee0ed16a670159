-- What readers of each number of levels give: a thing that stands there, or the refusal that does.
use Rattle.std.proofs.Common.{◌≡◌, ℕ, zero, suc, ◌+◌, Bool, List, [], ◌∷◌, ◌++◌, refl, sym, ap, subst, ◌∙◌, append_assoc, arith}
use Rattle.std.proofs.lemmas.List.{append-nil, append_cancel_right}
use Rattle.grammar_laws.specs.Points.{Point, at}
use Rattle.grammar_laws.specs.Shapes.{Grammar}
use Rattle.grammar_laws.specs.Refusals.{Begins, AtSomeLevel, Stands, IsSyntax, IsTooDeep}
use Rattle.grammar_laws.specs.Steps.{Why, Unexpected, Deep, Read, Got, Stuck, Reader, rest_of}
use Rattle.grammar_laws.proofs.Readers.{head, Reads}
use Rattle.grammar_laws.proofs.Levels.{Deeper, Raised, Raises}
use Rattle.grammar_laws.proofs.Steady.{Steady, near-got, near-stuck}

-- so many levels more
pub up : ℕ → ℕ → ℕ
up zero n = n
up (suc k) n = suc (up k n)

up-sum : (k n : ℕ) → up k n ≡ k + n
unfolding up
up-sum zero n = omega arith
up-sum (suc k) n = omega (arith, up-sum k n)

pub up_comm : (k n : ℕ) → up k n ≡ up n k
up_comm k n = omega (arith, up-sum k n, up-sum n k)

module _ {Word Known : Type 0} where
  -- a grammar and a reader of it for each number of levels
  pub record Family {A : Type 0} (F : ℕ → Grammar Word Known A) (read : ℕ → Reader Word Known A) (more : Word → Bool) : Type 0 where
    pub reads : (n : ℕ) → Reads (F n) (read n) more
    pub raises : (n : ℕ) → Raises (read n) (read (suc n))
    pub wider : (n : ℕ) (from : Point Word Known) (thing : A) (to : Point Word Known) → F n from thing to → F (suc n) from thing to

  module _ {A : Type 0} (F : ℕ → Grammar Word Known A) (read : ℕ → Reader Word Known A) (more : Word → Bool) (family : Family F read more) where
    pub wider-up : (k n : ℕ) (from : Point Word Known) (thing : A) (to : Point Word Known) → F n from thing to → F (up k n) from thing to
    unfolding up
    wider-up zero n from thing to reads = reads
    wider-up (suc k) n from thing to reads = family.wider (up k n) from thing to (wider-up k n from thing to reads)

    raised-got : (n : ℕ) (from : Point Word Known) (thing : A) (to : Point Word Known) → read n from ≡ Got thing to → read (suc n) from ≡ Got thing to
    raised-got n from thing to e = subst (λ (x : Read Word Known A). Raised (read (suc n)) from x) e ((family.raises n).raise from)

    raised-stuck : (n : ℕ) (from : Point Word Known) (rest : List Word) → read n from ≡ Stuck Unexpected rest → read (suc n) from ≡ Stuck Unexpected rest
    raised-stuck n from rest e = subst (λ (x : Read Word Known A). Raised (read (suc n)) from x) e ((family.raises n).raise from)

    raised-deep : (n : ℕ) (from : Point Word Known) (rest : List Word) → read n from ≡ Stuck Deep rest → Deeper (read (suc n)) from rest
    raised-deep n from rest e = subst (λ (x : Read Word Known A). Raised (read (suc n)) from x) e ((family.raises n).raise from)

    got-up : (k n : ℕ) (from : Point Word Known) (thing : A) (to : Point Word Known) → read n from ≡ Got thing to → read (up k n) from ≡ Got thing to
    unfolding up
    got-up zero n from thing to e = e
    got-up (suc k) n from thing to e = raised-got (up k n) from thing to (got-up k n from thing to e)

    pub stuck-up : (k n : ℕ) (from : Point Word Known) (rest : List Word) → read n from ≡ Stuck Unexpected rest → read (up k n) from ≡ Stuck Unexpected rest
    unfolding up
    stuck-up zero n from rest e = e
    stuck-up (suc k) n from rest e = raised-stuck (up k n) from rest (stuck-up k n from rest e)

    -- a whole thing of some level is read at a level that is high enough
    pub whole-read : (k n : ℕ) (from : Point Word Known) (thing : A) (later : Known) → F k from thing (at later []) → read (up k n) from ≡ Got thing (at later [])
    whole-read k n from thing later reads =
        ap (λ (m : ℕ). read m from) (up_comm k n) ∙ (family.reads (up n k)).full from thing (at later []) (wider-up n k from thing (at later []) reads) refl

    -- ---- where a thing stands

    pub stands-longest : (n : ℕ) (from : Point Word Known) (thing : A) (to : Point Word Known) → read n from ≡ Got thing to → (front : List Word) → from.words ≡ front ++ to.words → (word : Word) (behind : List Word) → to.words ≡ word ∷ behind → Begins (AtSomeLevel F) from.known (front ++ word ∷ []) → ⊥
    stands-longest n from thing to e front whole word behind is b =
        let k = b.reads.0 in
        let got : read (up k n) (at from.known ((front ++ word ∷ []) ++ b.more)) ≡ Got b.thing (at b.later []) = whole-read k n (at from.known ((front ++ word ∷ []) ++ b.more)) b.thing b.later b.reads.1 in
        let near = near-got (read (up k n)) from thing to ((family.reads (up k n)).near from) (got-up k n from thing to e) in
        let same : front ≡ near.front = append_cancel_right front near.front to.words (sym whole ∙ near.whole) in
        let here : read (up k n) (at from.known (near.front ++ word ∷ b.more)) ≡ Got thing (at to.known (word ∷ b.more)) = near.again (word ∷ b.more) (ap head is) in
        let words : (front ++ word ∷ []) ++ b.more ≡ near.front ++ word ∷ b.more = append_assoc front (word ∷ []) b.more ∙ ap (λ (ws : List Word). ws ++ word ∷ b.more) same in
        let both : Got b.thing (at b.later []) ≡ Got thing (at to.known (word ∷ b.more)) = sym got ∙ ap (λ (ws : List Word). read (up k n) (at from.known ws)) words ∙ here in
        let empty : [] ≡ word ∷ b.more = ap rest_of both in
        absurd cc

    pub stands : (n : ℕ) (from : Point Word Known) (thing : A) (to : Point Word Known) → read n from ≡ Got thing to → Stands F n from thing to
    stands n from thing to e =
        let near = near-got (read n) from thing to ((family.reads n).near from) e in
        record {
          reads = (family.reads n).sound from thing to e;
          front = near.front;
          whole = near.whole;
          longest = stands-longest n from thing to e near.front near.whole;
        }

    -- ---- where a reading is refused

    pub stuck-stops : (n : ℕ) (from : Point Word Known) (why : Why) (rest : List Word) (m : ℕ) → read m from ≡ Stuck why rest → (front : List Word) → from.words ≡ front ++ rest → (word : Word) (behind : List Word) → rest ≡ word ∷ behind → (more' : List Word) (thing : A) (later : Known) → read m (at from.known ((front ++ word ∷ []) ++ more')) ≡ Got thing (at later []) → ⊥
    stuck-stops n from why rest m e front whole word behind is more' thing later got =
        let near = near-stuck (read m) from why rest ((family.reads m).near from) e in
        let same : front ≡ near.front = append_cancel_right front near.front rest (sym whole ∙ near.whole) in
        let here : read m (at from.known (near.front ++ word ∷ more')) ≡ Stuck why (word ∷ more') = near.again (word ∷ more') (ap head is) in
        let words : (front ++ word ∷ []) ++ more' ≡ near.front ++ word ∷ more' = append_assoc front (word ∷ []) more' ∙ ap (λ (ws : List Word). ws ++ word ∷ more') same in
        let both : Got thing (at later []) ≡ Stuck why (word ∷ more') = sym got ∙ ap (λ (ws : List Word). read m (at from.known ws)) words ∙ here in
        absurd cc

    pub syntax : ((n : ℕ) → Steady (read n)) → (n : ℕ) (from : Point Word Known) (rest : List Word) → read n from ≡ Stuck Unexpected rest → IsSyntax F n from rest
    syntax steady n from rest e =
        let g = (family.reads n).goes from Unexpected rest e in
        record {
          front = g.front;
          whole = g.whole;
          begun = record { more = g.more; thing = g.thing; later = g.known; reads = g.reads };
          none = λ w.
              let k = w.reads.0 in
              (steady (up k n)).steady from.known g.front rest w.thing w.later (whole-read k n (at from.known g.front) w.thing w.later w.reads.1)
              (ap (λ (ws : List Word). read (up k n) (at from.known ws)) (sym g.whole) ∙ stuck-up k n from rest e);
          stops = λ word behind is b.
              let k = b.reads.0 in
              stuck-stops n from Unexpected rest (up k n) (stuck-up k n from rest e) g.front g.whole word behind is b.more b.thing b.later (whole-read k n (at from.known ((g.front ++ word ∷ []) ++ b.more)) b.thing b.later b.reads.1);
        }

    pub too_deep : (n : ℕ) (from : Point Word Known) (rest : List Word) → read n from ≡ Stuck Deep rest → IsTooDeep F n from rest
    too_deep n from rest e =
        let g = (family.reads n).goes from Deep rest e in
        let d = raised-deep n from rest e in
        let h = (family.reads (suc n)).goes (at from.known (d.front ++ d.word ∷ [])) Unexpected [] d.on in
        let same : g.front ≡ d.front = append_cancel_right g.front d.front rest (sym g.whole ∙ d.whole) in
        let front_is : g.front ++ d.word ∷ [] ≡ h.front = ap (λ (ws : List Word). ws ++ d.word ∷ []) same ∙ h.whole ∙ append-nil h.front in
        record {
          front = g.front;
          whole = g.whole;
          begun = record { more = g.more; thing = g.thing; later = g.known; reads = g.reads };
          word = d.word;
          behind = d.behind;
          first = d.is;
          deeper = record { more = h.more; thing = h.thing; later = h.known; reads = (suc n, subst (λ (ws : List Word). F (suc n) (at from.known (ws ++ h.more)) h.thing (at h.known [])) (sym front_is) h.reads) };
          none = λ b. stuck-stops n from Deep rest n e g.front g.whole d.word d.behind d.is b.more b.thing b.later ((family.reads n).full (at from.known ((g.front ++ d.word ∷ []) ++ b.more)) b.thing (at b.later []) b.reads refl);
        }

    -- words are one thing at the most
    pub one_thing : (j k : ℕ) (from : Point Word Known) (a b : A) (later later' : Known) → F j from a (at later []) → F k from b (at later' []) → ◌≡◌ {A = Read Word Known A} (Got a (at later [])) (Got b (at later' []))
    one_thing j k from a b later later' reads reads' =
        sym (whole-read j k from a later reads) ∙ ap (λ (m : ℕ). read m from) (up_comm j k) ∙ whole-read k j from b later' reads'
