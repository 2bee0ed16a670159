-- What the least set of supported variables leaves is the largest unfounded set.
use Rattle.std.proofs.Common.{◌≡◌, ℕ, ◌<◌, Bool, true, false, not, ◌&&◌, ◌||◌, List, refl, sym, ◌∙◌, ⊎_elim}
use Rattle.std.specs.Prelude.{Option, Some, None, nat_lt}
use Rattle.std.specs.List.{list_any}
use Rattle.std.proofs.lemmas.Bool.{and_parts, and_from, or_cases, or_left, or_right, false≢true, cases_Bool, not_from_false, not-true, lt-ltb}
use Rattle.tel_base.specs.Literals.{lit_of}
use Rattle.tel_base.specs.Members.{In}
use Rattle.tel_base.proofs.Members.{In-list_all, list_all-from_In, all_lost, any_found, any_from}
use Rattle.normal_program.specs.declared.rules.NRule.{NRule}
use Rattle.normal_program.specs.Grounds.{Layers, is_head}
use Rattle.normal_program.specs.StableSets.{Set}
use Rattle.lit_trail.specs.declared.assignment.Entry.{Entry}
use Rattle.unfounded_sets.specs.Unfounded.{is_false, is_off, head_in, IsUnfounded}
use Rattle.unfounded_sets.specs.Least.{wanted_below, all_of, supports, keeps_rule, is_kept}
use Rattle.unfounded_sets.specs.Marks.{rest_of, all_below, are_below}

-- within what is wanted, and fed by itself alone
pub record IsFed (rules : List NRule) (entries : List Entry) (wanted U : Set) : Type 0 where
  pub within : (v : ℕ) → U v ≡ true → wanted v ≡ true
  pub fed : (rule : NRule) → In rule rules → head_in U rule.head ≡ true → (is_off entries rule || list_any U rule.pos) ≡ true

pub head_more : (U W : Set) (head : Option ℕ) → ((v : ℕ) → U v ≡ true → W v ≡ true) → head_in U head ≡ true → head_in W head ≡ true
head_more U W None up h = h
head_more U W (Some head) up h = up head h

head_not : (U : Set) (head : Option ℕ) → head_in U head ≡ false → (w : ℕ) × (head ≡ Some w) → head_in (λ v. not (U v)) head ≡ true
head_not U None f w = absurd (cc)
head_not U (Some head) f w = not_from_false (U head) f

some_head : (U : Set) (head : Option ℕ) → head_in U head ≡ true → (w : ℕ) × (head ≡ Some w)
some_head U None h = absurd (false≢true h)
some_head U (Some head) h = (head, refl)

-- what isn't in such a set has what is supported by it
pub outside_closed : (rules : List NRule) (entries : List Entry) (wanted U : Set) → IsFed rules entries wanted U → is_kept rules entries wanted (λ v. not (U v)) ≡ true
outside_closed rules entries wanted U fed =
    let X : Set = λ v. not (U v) in
    list_all-from_In (keeps_rule entries wanted X) rules (λ rule i.
    let body : Bool = supports entries wanted X rule in
    ⊎_elim (λ (b : body ≡ true).
    let parts = and_parts (not (is_off entries rule) && head_in wanted rule.head) (all_of wanted X rule.pos) b in
    let halves = and_parts (not (is_off entries rule)) (head_in wanted rule.head) parts.0 in
    or_right (not body) (head_in X rule.head) (⊎_elim (λ (t : head_in U rule.head ≡ true).
    absurd (⊎_elim (λ (o : is_off entries rule ≡ true). false≢true (sym (not-true (is_off entries rule) halves.0) ∙ o)) (λ (a : list_any U rule.pos ≡ true).
    let w = any_found U rule.pos a in
    let kept = In-list_all (λ v. not (wanted v) || X v) w.0 rule.pos parts.1 w.1 in
    ⊎_elim (λ n. false≢true (sym (not-true (wanted w.0) n) ∙ fed.within w.0 w.2)) (λ n. false≢true (sym (not-true (U w.0) n) ∙ w.2)) (or_cases (not (wanted w.0)) (X w.0) kept)) (or_cases (is_off entries rule) (list_any U rule.pos) (fed.fed rule i t)))) (λ (f : head_in U rule.head ≡ false). head_not U rule.head f (some_head wanted rule.head halves.1)) (cases_Bool (head_in U rule.head)))) (λ (f : body ≡ false). or_left (not body) (head_in X rule.head) (not_from_false body f)) (cases_Bool body))

left_over : (w x : Bool) → (not w || x) ≡ false → (w && not x) ≡ true
left_over true true h = absurd (false≢true (sym h))
left_over true false h = refl
left_over false x h = absurd (false≢true (sym h))

head_left : (wanted X : Set) (head : Option ℕ) → head_in (rest_of wanted X) head ≡ true → (head_in wanted head ≡ true) × (head_in X head ≡ false)
head_left wanted X None h = absurd (false≢true h)
head_left wanted X (Some head) h = let both = and_parts (wanted head) (not (X head)) h in (both.0, not-true (X head) both.1)

-- what such a set leaves of the wanted is fed by itself alone
pub rest_fed : (rules : List NRule) (entries : List Entry) (wanted X : Set) → is_kept rules entries wanted X ≡ true → IsFed rules entries wanted (rest_of wanted X)
rest_fed rules entries wanted X closed = record {
  within = λ v h. (and_parts (wanted v) (not (X v)) h).0;
  fed = λ rule i h.
      let head = head_left wanted X rule.head h in
      let kept = In-list_all (keeps_rule entries wanted X) rule rules closed i in
      ⊎_elim (λ (o : is_off entries rule ≡ true). or_left (is_off entries rule) (list_any (rest_of wanted X) rule.pos) o) (λ (o : is_off entries rule ≡ false).
      or_right (is_off entries rule) (list_any (rest_of wanted X) rule.pos) (⊎_elim (λ (all : all_of wanted X rule.pos ≡ true).
      let body : supports entries wanted X rule ≡ true = and_from (not (is_off entries rule) && head_in wanted rule.head) (all_of wanted X rule.pos) (and_from (not (is_off entries rule)) (head_in wanted rule.head) (not_from_false (is_off entries rule) o) head.0) all in
      absurd (⊎_elim (λ n. false≢true (sym (not-true (supports entries wanted X rule) n) ∙ body)) (λ x. false≢true (sym head.1 ∙ x)) (or_cases (not (supports entries wanted X rule)) (head_in X rule.head) kept))) (λ lost.
      let bad = all_lost (λ v. not (wanted v) || X v) rule.pos lost in
      any_from (rest_of wanted X) rule.pos bad.0 bad.1 (left_over (wanted bad.0) (X bad.0) bad.2)) (cases_Bool (all_of wanted X rule.pos)))) (cases_Bool (is_off entries rule));
}

-- ---- unfounded sets

want_parts : (layers : Layers) (entries : List Entry) (bound v : ℕ) → wanted_below layers entries bound v ≡ true → (nat_lt v bound ≡ true) × (is_head layers.modules v ≡ true) × (not (is_false entries (lit_of v)) ≡ true)
want_parts layers entries bound v h =
    let one = and_parts (nat_lt v bound) (is_head layers.modules v && not (is_false entries (lit_of v))) h in
    let two = and_parts (is_head layers.modules v) (not (is_false entries (lit_of v))) one.1 in
    (one.0, two.0, two.1)

pub rest_unfounded : (layers : Layers) (entries : List Entry) (bound : ℕ) (X : Set) → is_kept layers.rules entries (wanted_below layers entries bound) X ≡ true → IsUnfounded layers entries (rest_of (wanted_below layers entries bound) X)
rest_unfounded layers entries bound X closed =
    let wanted : Set = wanted_below layers entries bound in
    let fed = rest_fed layers.rules entries wanted X closed in
    record {
      heads = λ v h. (want_parts layers entries bound v (fed.within v h)).1;
      not_false = λ v h. (want_parts layers entries bound v (fed.within v h)).2;
      fed = fed.fed;
    }

head_both : (U : Set) (bound : ℕ) (head : Option ℕ) → head_in (λ v. nat_lt v bound && U v) head ≡ true → head_in U head ≡ true
head_both U bound head = head_more (λ v. nat_lt v bound && U v) U head (λ v h. (and_parts (nat_lt v bound) (U v) h).1)

-- the part of an unfounded set below the bound
below_fed : (layers : Layers) (entries : List Entry) (bound : ℕ) (U : Set) → are_below bound layers.rules ≡ true → IsUnfounded layers entries U → IsFed layers.rules entries (wanted_below layers entries bound) (λ v. nat_lt v bound && U v)
below_fed layers entries bound U below unfounded = record {
  within = λ v h.
      let both = and_parts (nat_lt v bound) (U v) h in
      and_from (nat_lt v bound) (is_head layers.modules v && not (is_false entries (lit_of v))) both.0 (and_from (is_head layers.modules v) (not (is_false entries (lit_of v))) (unfounded.heads v both.1) (unfounded.not_false v both.1));
  fed = λ rule i h.
      ⊎_elim (λ (o : is_off entries rule ≡ true). or_left (is_off entries rule) (list_any (λ v. nat_lt v bound && U v) rule.pos) o) (λ (a : list_any U rule.pos ≡ true).
      let w = any_found U rule.pos a in
      let all = In-list_all (λ (r : NRule). all_below bound r.pos) rule layers.rules below i in
      let low = In-list_all (λ v. nat_lt v bound) w.0 rule.pos all w.1 in
      or_right (is_off entries rule) (list_any (λ v. nat_lt v bound && U v) rule.pos) (any_from (λ v. nat_lt v bound && U v) rule.pos w.0 w.1 (and_from (nat_lt w.0 bound) (U w.0) low w.2))) (or_cases (is_off entries rule) (list_any U rule.pos) (unfounded.fed rule i (head_both U bound rule.head h)));
}

-- each variable of an unfounded set below the bound is left, where the found ones are in each closed set
pub unfounded_left : (layers : Layers) (entries : List Entry) (bound : ℕ) (X U : Set) → are_below bound layers.rules ≡ true →
    ((Y : Set) → is_kept layers.rules entries (wanted_below layers entries bound) Y ≡ true → (v : ℕ) → X v ≡ true → Y v ≡ true) →
    IsUnfounded layers entries U → (v : ℕ) → v < bound → U v ≡ true → rest_of (wanted_below layers entries bound) X v ≡ true
unfounded_left layers entries bound X U below least unfounded v low h =
    let V : Set = λ u. nat_lt u bound && U u in
    let fed = below_fed layers entries bound U below unfounded in
    let here : V v ≡ true = and_from (nat_lt v bound) (U v) (lt-ltb v bound low) h in
    let closed = outside_closed layers.rules entries (wanted_below layers entries bound) V fed in
    and_from (wanted_below layers entries bound v) (not (X v)) (fed.within v here) (⊎_elim (λ (x : X v ≡ true). absurd (false≢true (sym (not-true (V v) (least (λ u. not (V u)) closed v x)) ∙ here))) (λ (f : X v ≡ false). not_from_false (X v) f) (cases_Bool (X v)))
