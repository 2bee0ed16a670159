-- Closed sets without unfounded variables are stable.
use Rattle.std.proofs.Common.{◌≡◌, ℕ, true, false, not, ◌&&◌, refl, sym, ◌∙◌, inl, inr, ⊎_elim}
use Rattle.std.specs.Prelude.{Option, Some, None}
use Rattle.std.specs.List.{list_all}
use Rattle.std.proofs.lemmas.Bool.{and_parts, and_from, cases_Bool, not_from_false, not-true, false≢true}
use Rattle.tel_base.proofs.Members.{In-list_all, all_lost}
use Rattle.normal_program.specs.StableSets.{Set, body_holds}
use Rattle.unfounded_sets.specs.Unfounded.{head_in}
use Rattle.completion.proofs.Sets.{kept}
use Rattle.search_laws.specs.Founded.{FoundedIsStable}

pub head_found : (U : Set) (o : Option ℕ) → head_in U o ≡ true → (h : ℕ) × (o ≡ Some h) × (U h ≡ true)
head_found U None t = absurd (false≢true t)
head_found U (Some h) t = (h, refl, t)

pub founded_is_stable : FoundedIsStable
founded_is_stable rules pairs S closed met apart founded = record {
  closed = closed;
  least = λ X keep v t. ⊎_elim (λ (h : X v ≡ true). h) (λ (f : X v ≡ false).
      let U : Set = λ u. S u && not (X u) in
      absurd (founded U (λ u m. (and_parts (S u) (not (X u)) m).0) (λ rule i inside.
      let h = head_found U rule.head inside in
      let p = and_parts (S h.0) (not (X h.0)) h.2 in
      let out : X h.0 ≡ false = not-true (X h.0) p.1 in
      ⊎_elim (λ (body : body_holds S S rule ≡ true).
      let b = and_parts (list_all S rule.pos) (list_all (λ u. not (S u)) rule.neg) body in
      ⊎_elim (λ (all : list_all X rule.pos ≡ true). absurd (false≢true (sym out ∙ kept rules S X rule h.0 keep i h.1 (λ c. p.0) (and_from (list_all X rule.pos) (list_all (λ u. not (S u)) rule.neg) all b.1)))) (λ (some : list_all X rule.pos ≡ false).
      let w = all_lost X rule.pos some in
      inr (w.0, w.1, and_from (S w.0) (not (X w.0)) (In-list_all S w.0 rule.pos b.0 w.1) (not_from_false (X w.0) w.2))) (cases_Bool (list_all X rule.pos))) (λ (none : body_holds S S rule ≡ false). inl none) (cases_Bool (body_holds S S rule))) v (and_from (S v) (not (X v)) t (not_from_false (X v) f)))) (cases_Bool (X v));
  met = met;
  apart = apart;
}
