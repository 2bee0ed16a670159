-- The order of sets is that of traces.
use Rattle.std.proofs.Common.{◌≡◌, ℕ, zero, suc, ◌+◌, ◌≤◌, ◌<◌, true, false, List, [], ◌∷◌, ◌++◌, refl, ap, subst, ◌⊎◌, inl, inr, ⊎_elim, arith}
use Rattle.std.specs.List.{flat_map, range_with_len}
use Rattle.std.proofs.lemmas.Bool.{cases_lt}
use Rattle.normal_program.specs.StableSets.{Set}
use Rattle.search_laws.specs.Walks.{Before, Agree, FirstApart}
use Rattle.search_laws.specs.Laws.{OrderOfTraces}
use Rattle.search_laws.proofs.Along.{agree_at}

first_apart : (vars : List ℕ) (S R : Set) → Before vars S R → FirstApart vars S R
first_apart [] S R h = absurd h
first_apart (v ∷ vars) S R h =
    ⊎_elim (λ (d : (S v ≡ false) × (R v ≡ true)). record { front = []; var = v; back = vars; whole = refl; is_false = d.0; is_true = d.1; same = λ u i. absurd i }) (λ (d : (S v ≡ R v) × Before vars S R).
    let rest = first_apart vars S R d.1 in
    record {
      front = v ∷ rest.front;
      var = rest.var;
      back = rest.back;
      whole = ap (λ (us : List ℕ). v ∷ us) rest.whole;
      is_false = rest.is_false;
      is_true = rest.is_true;
      same = λ u i. ⊎_elim (λ (e : v ≡ u). subst (λ (x : ℕ). S x ≡ R x) e d.0) (λ m. rest.same u m) i;
    }) h

before_parts : (xs ys : List ℕ) (S R : Set) → Before (xs ++ ys) S R → Before xs S R ⊎ (Agree xs S R × Before ys S R)
before_parts [] ys S R h = inr (tt, h)
before_parts (v ∷ xs) ys S R h =
    ⊎_elim (λ (d : (S v ≡ false) × (R v ≡ true)). inl (inl d)) (λ (d : (S v ≡ R v) × Before (xs ++ ys) S R).
    ⊎_elim (λ b. inl (inr (d.0, b))) (λ (r : Agree xs S R × Before ys S R). inr ((d.0, r.0), r.1)) (before_parts xs ys S R d.1)) h

-- the first of these states where they differ
pub record AtState (atoms : ℕ → List ℕ) (low count : ℕ) (S R : Set) : Type 0 where
  pub state : ℕ
  pub from : low ≤ state
  pub within : state < low + count
  pub here : Before (atoms state) S R
  pub earlier : (u : ℕ) → low ≤ u → u < state → Agree (atoms u) S R

pub at_state : (atoms : ℕ → List ℕ) (count low : ℕ) (S R : Set) → Before (flat_map atoms (range_with_len low count)) S R → AtState atoms low count S R
at_state atoms zero low S R h = absurd h
at_state atoms (suc count) low S R h =
    ⊎_elim (λ (b : Before (atoms low) S R). record { state = low; from = omega arith; within = omega arith; here = b; earlier = λ u a l. absurd (omega (arith, a, l)) }) (λ (r : Agree (atoms low) S R × Before (flat_map atoms (range_with_len (low + 1) count)) S R).
    let rest = at_state atoms count (low + 1) S R r.1 in
    let from = rest.from in
    let within = rest.within in
    record {
      state = rest.state;
      from = omega (arith, from);
      within = omega (arith, within);
      here = rest.here;
      earlier = λ u a l. ⊎_elim (λ (above : low < u). rest.earlier u (omega (arith, above)) l) (λ (below : u ≤ low). let same : low ≡ u = omega (arith, a, below) in subst (λ (x : ℕ). Agree (atoms x) S R) same r.0) (cases_lt low u);
    }) (before_parts (atoms low) (flat_map atoms (range_with_len (low + 1) count)) S R h)

pub order_of_traces : OrderOfTraces
order_of_traces steps n S R h =
    let atoms : ℕ → List ℕ = λ (t : ℕ). (steps t).atoms in
    let w = at_state atoms n 0 S R h in
    let within = w.within in
    (w.state, omega (arith, within), first_apart (steps w.state).atoms S R w.here, λ u l v i. agree_at (steps u).atoms S R (w.earlier u (omega arith) l) v i)
