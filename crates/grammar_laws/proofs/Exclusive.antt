-- Of what may stand at a point, and of the refusals there, one stands and no other.
use Rattle.std.proofs.Common.{◌≡◌, ℕ, Bool, List, [], ◌∷◌, ◌++◌, refl, sym, ap, subst, ◌∙◌, inl, inr}
use Rattle.std.proofs.lemmas.List.{append-nil, append_cancel_right}
use Rattle.grammar_laws.specs.Points.{Point, at}
use Rattle.grammar_laws.specs.Shapes.{Grammar}
use Rattle.grammar_laws.specs.Steps.{Unexpected, Deep, Read, Got, Stuck, Reader}
use Rattle.grammar_laws.specs.Refusals.{Begins, AtSomeLevel, Stands, IsSyntax, IsTooDeep, IsOutcome}
use Rattle.grammar_laws.proofs.Steady.{Steady}
use Rattle.grammar_laws.proofs.Outcomes.{Family, stands, syntax, too_deep, one_thing}
use Rattle.grammar_laws.proofs.Fronts.{GoesPast, compared, past-begins, some-level}

module _ {Word Known : Type 0} where
  module _ {A : Type 0} (F : ℕ → Grammar Word Known A) (read : ℕ → Reader Word Known A) (more : Word → Bool) (family : Family F read more) (steady : (n : ℕ) → Steady (read n)) (n : ℕ) (from : Point Word Known) where
    -- the words of a thing are that thing, alone
    alone : (thing : A) (to : Point Word Known) (s : Stands F n from thing to) → F n (at from.known s.front) thing (at to.known [])
    alone thing to s =
        let f = (family.reads n).framed from thing to s.reads in
        let same : f.front ≡ s.front = append_cancel_right f.front s.front to.words (sym f.whole ∙ s.whole) in
        subst (λ (ws : List Word). F n (at from.known ws) thing (at to.known [])) (append-nil f.front ∙ same) (f.again [])

    begun : (thing : A) (to : Point Word Known) (s : Stands F n from thing to) → Begins (F n) from.known s.front
    begun thing to s = record { more = []; thing = thing; later = to.known; reads = subst (λ (ws : List Word). F n (at from.known ws) thing (at to.known [])) (sym (append-nil s.front)) (alone thing to s) }

    -- where a front goes past another one, it begins a thing with the word there
    past : (front rest other : List Word) (g : GoesPast front rest other) → Begins (F n) from.known other → Begins (AtSomeLevel F) from.known (front ++ g.word ∷ [])
    past front rest other g b = some-level F n from.known (front ++ g.word ∷ []) (past-begins (F n) from.known front rest other g b)

    deep-past : (rest : List Word) (d : IsTooDeep F n from rest) (other : List Word) (g : GoesPast d.front rest other) → Begins (F n) from.known other → ⊥
    deep-past rest d other g b =
        let r : d.word ∷ d.behind ≡ g.word ∷ g.behind = sym d.first ∙ g.rest_is in
        let w : g.word ≡ d.word = cc in
        d.none (subst (λ (x : Word). Begins (F n) from.known (d.front ++ x ∷ [])) w (past-begins (F n) from.known d.front rest other g b))

    deeper-at : (rest : List Word) (d : IsTooDeep F n from rest) (front : List Word) → d.front ≡ front → Begins (AtSomeLevel F) from.known (front ++ d.word ∷ [])
    deeper-at rest d front same = subst (λ (ws : List Word). Begins (AtSomeLevel F) from.known (ws ++ d.word ∷ [])) same d.deeper

    got-same : (a b : A) (to end : Point Word Known) → ◌≡◌ {A = Read Word Known A} (Got a (at to.known [])) (Got b (at end.known [])) → to.words ≡ end.words → ◌≡◌ {A = Read Word Known A} (Got a to) (Got b end)
    got-same a b to end e rests =
        let x : a ≡ b = cc in
        let y : at to.known [] ≡ at end.known [] = cc in
        ap (λ (thing : A). Got thing to) x ∙ ap (λ (k : Known). Got b (at k to.words)) (ap (λ (p : Point Word Known). p.known) y) ∙ ap (λ (ws : List Word). Got b (at end.known ws)) rests

    stands-same : (a b : A) (to end : Point Word Known) → Stands F n from a to → Stands F n from b end → ◌≡◌ {A = Read Word Known A} (Got a to) (Got b end)
    stands-same a b to end s t = elim (compared s.front to.words t.front end.words (sym s.whole ∙ t.whole)) [
      | inl same ↦
          got-same a b to end
          (one_thing F read more family n n (at from.known t.front) a b to.known end.known (subst (λ (ws : List Word). F n (at from.known ws) a (at to.known [])) same.fronts_are (alone a to s)) (alone b end t))
          same.rests_are
      | inr (inl g) ↦ absurd (s.longest g.word g.behind g.rest_is (past s.front to.words t.front g (begun b end t)))
      | inr (inr g) ↦ absurd (t.longest g.word g.behind g.rest_is (past t.front end.words s.front g (begun a to s)))
    ]

    stands-syntax : (a : A) (to : Point Word Known) (rest : List Word) → Stands F n from a to → IsSyntax F n from rest → ⊥
    stands-syntax a to rest s t = elim (compared s.front to.words t.front rest (sym s.whole ∙ t.whole)) [
      | inl same ↦ t.none (record { thing = a; later = to.known; reads = (n, subst (λ (ws : List Word). F n (at from.known ws) a (at to.known [])) same.fronts_are (alone a to s)) })
      | inr (inl g) ↦ s.longest g.word g.behind g.rest_is (past s.front to.words t.front g t.begun)
      | inr (inr g) ↦ t.stops g.word g.behind g.rest_is (past t.front rest s.front g (begun a to s))
    ]

    stands-deep : (a : A) (to : Point Word Known) (rest : List Word) → Stands F n from a to → IsTooDeep F n from rest → ⊥
    stands-deep a to rest s d = elim (compared s.front to.words d.front rest (sym s.whole ∙ d.whole)) [
      | inl same ↦ s.longest d.word d.behind (same.rests_are ∙ d.first) (deeper-at rest d s.front (sym same.fronts_are))
      | inr (inl g) ↦ s.longest g.word g.behind g.rest_is (past s.front to.words d.front g d.begun)
      | inr (inr g) ↦ deep-past rest d s.front g (begun a to s)
    ]

    syntax-same : (rest other : List Word) → IsSyntax F n from rest → IsSyntax F n from other → rest ≡ other
    syntax-same rest other s t = elim (compared s.front rest t.front other (sym s.whole ∙ t.whole)) [
      | inl same ↦ same.rests_are
      | inr (inl g) ↦ absurd (s.stops g.word g.behind g.rest_is (past s.front rest t.front g t.begun))
      | inr (inr g) ↦ absurd (t.stops g.word g.behind g.rest_is (past t.front other s.front g s.begun))
    ]

    syntax-deep : (rest other : List Word) → IsSyntax F n from rest → IsTooDeep F n from other → ⊥
    syntax-deep rest other s d = elim (compared s.front rest d.front other (sym s.whole ∙ d.whole)) [
      | inl same ↦ s.stops d.word d.behind (same.rests_are ∙ d.first) (deeper-at other d s.front (sym same.fronts_are))
      | inr (inl g) ↦ s.stops g.word g.behind g.rest_is (past s.front rest d.front g d.begun)
      | inr (inr g) ↦ deep-past other d s.front g s.begun
    ]

    deep-same : (rest other : List Word) → IsTooDeep F n from rest → IsTooDeep F n from other → rest ≡ other
    deep-same rest other d e = elim (compared d.front rest e.front other (sym d.whole ∙ e.whole)) [
      | inl same ↦ same.rests_are
      | inr (inl g) ↦ absurd (deep-past rest d e.front g e.begun)
      | inr (inr g) ↦ absurd (deep-past other e d.front g d.begun)
    ]

    pub outcome-same : (a b : Read Word Known A) → IsOutcome F n from a → IsOutcome F n from b → a ≡ b
    outcome-same (Got a to) (Got b end) s t = stands-same a b to end s t
    outcome-same (Got a to) (Stuck Unexpected rest) s t = absurd (stands-syntax a to rest s t)
    outcome-same (Got a to) (Stuck Deep rest) s t = absurd (stands-deep a to rest s t)
    outcome-same (Stuck Unexpected rest) (Got b end) s t = absurd (stands-syntax b end rest t s)
    outcome-same (Stuck Unexpected rest) (Stuck Unexpected other) s t = ap (Stuck Unexpected) (syntax-same rest other s t)
    outcome-same (Stuck Unexpected rest) (Stuck Deep other) s t = absurd (syntax-deep rest other s t)
    outcome-same (Stuck Deep rest) (Got b end) s t = absurd (stands-deep b end rest t s)
    outcome-same (Stuck Deep rest) (Stuck Unexpected other) s t = absurd (syntax-deep other rest t s)
    outcome-same (Stuck Deep rest) (Stuck Deep other) s t = ap (Stuck Deep) (deep-same rest other s t)

    -- what the reader gives stands there
    outcome : (out : Read Word Known A) → read n from ≡ out → IsOutcome F n from out
    outcome (Got thing to) is = stands F read more family n from thing to is
    outcome (Stuck Unexpected rest) is = syntax F read more family steady n from rest is
    outcome (Stuck Deep rest) is = too_deep F read more family n from rest is

    pub one_outcome : (a : Read Word Known A) × IsOutcome F n from a × ((b : Read Word Known A) → IsOutcome F n from b → b ≡ a)
    one_outcome =
        let stood : IsOutcome F n from (read n from) = outcome (read n from) refl in
        (read n from, stood, λ b also. outcome-same b (read n from) also stood)
