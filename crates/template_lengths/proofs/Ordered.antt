-- The order of sets is that of their traces.
use Rattle.std.proofs.Common.{◌≡◌, ℕ, zero, suc, ◌+◌, ◌<◌, ◌≤◌, Bool, true, false, ◌&&◌, List, [], ◌∷◌, length, map, refl, sym, ap, subst, ◌∙◌, inl, inr, ⊎_elim, arith}
use Rattle.std.specs.Prelude.{nat_lt}
use Rattle.std.specs.List.{range_with_len}
use Rattle.std.proofs.lemmas.Bool.{lt-ltb, cases_Bool, cases_lt}
use Rattle.tel_rule.specs.Ground.{Ground}
use Rattle.tel_semantics.specs.Traces.{test_of, IsTrace}
use Rattle.tel_semantics.specs.Order.{PrecedesAt}
use Rattle.normal_program.specs.StableSets.{Set}
use Rattle.atom_space.specs.Numbers.{visible}
use Rattle.formula_unfold.specs.Nodes.{counts_of}
use Rattle.step_module.specs.Modules.{module_of}
use Rattle.stable_models.specs.Laws.{full_of}
use Rattle.stable_models.proofs.Numbering.{full-visible}
use Rattle.stable_models.proofs.LawProofs.{test_range}
use Rattle.search_laws.specs.Walks.{Before, Agree}
use Rattle.search_laws.proofs.TraceOrder.{at_state}
use Rattle.template_lengths.specs.Laws.{SetsAreOrdered}

-- ---- traces

-- past the last atom none is true
past_last : (n count : ℕ) (trace : List (List ℕ)) (k atom : ℕ) → IsTrace n count trace → count ≤ atom → test_of trace k atom ≡ false
past_last n count trace k atom is l =
    ⊎_elim (λ (t : test_of trace k atom ≡ true). let range = test_range count trace k atom is.1 t in absurd (omega (arith, range.1, l))) (λ f. f) (cases_Bool (test_of trace k atom))

-- ---- sets

-- the first of these numbers at whose variables the sets differ
record AtAtom (f : ℕ → ℕ) (low count : ℕ) (S R : Set) : Type 0 where
  pub atom : ℕ
  pub from : low ≤ atom
  pub within : atom < low + count
  pub is_false : S (f atom) ≡ false
  pub is_true : R (f atom) ≡ true
  pub same : (earlier : ℕ) → low ≤ earlier → earlier < atom → S (f earlier) ≡ R (f earlier)

at_atom : (f : ℕ → ℕ) (count low : ℕ) (S R : Set) → Before (map f (range_with_len low count)) S R → AtAtom f low count S R
at_atom f zero low S R h = absurd h
at_atom f (suc count) low S R h =
    ⊎_elim
    (λ (d : (S (f low) ≡ false) × (R (f low) ≡ true)). record { atom = low; from = omega arith; within = omega arith; is_false = d.0; is_true = d.1; same = λ e a l. absurd (omega (arith, a, l)) })
    (λ (d : (S (f low) ≡ R (f low)) × Before (map f (range_with_len (low + 1) count)) S R).
    let rest = at_atom f count (low + 1) S R d.1 in
    let from = rest.from in
    let within = rest.within in
    record {
      atom = rest.atom;
      from = omega (arith, from);
      within = omega (arith, within);
      is_false = rest.is_false;
      is_true = rest.is_true;
      same = λ e a l. ⊎_elim (λ (above : low < e). rest.same e (omega (arith, above)) l) (λ (below : e ≤ low). let equal : low ≡ e = omega (arith, a, below) in subst (λ (x : ℕ). S (f x) ≡ R (f x)) equal d.0) (cases_lt low e);
    })
    h

agree_below : (f : ℕ → ℕ) (count low : ℕ) (S R : Set) → Agree (map f (range_with_len low count)) S R → (e : ℕ) → low ≤ e → e < low + count → S (f e) ≡ R (f e)
agree_below f zero low S R h e a l = absurd (omega (arith, a, l))
agree_below f (suc count) low S R h e a l =
    ⊎_elim (λ (above : low < e). agree_below f count (low + 1) S R h.1 e (omega (arith, above)) (omega (arith, l))) (λ (below : e ≤ low). let equal : low ≡ e = omega (arith, a, below) in subst (λ (x : ℕ). S (f x) ≡ R (f x)) equal h.0) (cases_lt low e)

-- ---- the sets of traces

of_trace : (program : Ground) (n : ℕ) (trace : List (List ℕ)) (a k : ℕ) → a < length program.atoms → k < n → full_of program n trace (visible (counts_of program) a k) ≡ test_of trace k a
of_trace program n trace a k within l =
    let T = test_of trace in
    full-visible program n T T a k within ∙ (λ i. lt-ltb k n l i && T k a)

pub sets_ordered : SetsAreOrdered
sets_ordered program n first second is_first is_second before =
    let counts = counts_of program in
    let atoms = length program.atoms in
    let S = full_of program n first in
    let R = full_of program n second in
    let w = at_state (λ (t : ℕ). (module_of program t).atoms) n 0 S R before in
    let k = w.state in
    let within = w.within in
    let below : k < n = omega (arith, within) in
    let a = at_atom (λ (atom : ℕ). visible counts atom k) atoms 0 S R w.here in
    let inside = a.within in
    let small : a.atom < atoms = omega (arith, inside) in
    let both : (t e : ℕ) → t < n → e < atoms → S (visible counts e t) ≡ R (visible counts e t) → test_of first t e ≡ test_of second t e = λ t e m o same. sym (of_trace program n first e t o m) ∙ same ∙ of_trace program n second e t o m in (
      k,
      a.atom,
      record {
        is_false = sym (of_trace program n first a.atom k small below) ∙ a.is_false;
        is_true = sym (of_trace program n second a.atom k small below) ∙ a.is_true;
        same_state = λ e l. both k e below (omega (arith, l, small)) (a.same e (omega arith) l);
        same_before = λ t l e. ⊎_elim
            (λ (o : e < atoms). both t e (omega (arith, l, below)) o (agree_below (λ (atom : ℕ). visible counts atom t) atoms 0 S R (w.earlier t (omega arith) l) e (omega arith) (omega (arith, o))))
            (λ (o : atoms ≤ e). past_last n atoms first t e is_first o ∙ sym (past_last n atoms second t e is_second o))
            (cases_lt e atoms);
      },
    )
