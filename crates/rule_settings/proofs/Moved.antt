-- Candidates that are taken in.
use Rattle.std.proofs.Common.{◌≡◌, ◌∙◌, ℕ, ◌+◌, ◌<◌, Bool, true, false, ◌&&◌, ◌||◌, List, [], ◌∷◌, ◌++◌, length, refl, sym, ap, subst, true≢false, inl, ⊎_elim, arith, IsTrue}
use Rattle.std.specs.Prelude.{IsFalse, ◌==◌, if◌then◌else◌}
use Rattle.std.specs.List.{list_all}
use Rattle.std.proofs.Math.Bool.{and_comm}
use Rattle.std.proofs.lemmas.Bool.{or_cases, or_left, or_right, eqb-true, eq-eqb}
use Rattle.tel_base.specs.Members.{In}
use Rattle.tel_base.proofs.Members.{In-append_left, In-append_right, In-append_cases}
use Rattle.rule_binding.specs.Binding.{Vars, Setting}
use Rattle.rule_settings.specs.declared.waiters.Waiter.{Waiter}
use Rattle.rule_settings.specs.Waiting.{is_ready, is_open, holds_at, waiters_from, Within, IsWaiter, IsState}
use Rattle.rule_settings.proofs.Numbered.{IsNumbered, numbered, all_numbered}

-- ---- none was looked at

first_waiter : (cs : List Setting) (bound : Vars) (waiter : Waiter) → IsNumbered 0 cs waiter → IsWaiter cs bound (λ (X : Vars). true) waiter
first_waiter cs bound waiter is =
    let number = is.is in
    let same : is.place ≡ waiter.number = omega (arith, number) in
    record {
      within = subst (λ (n : ℕ). n < length cs) same is.within;
      is_ready_by = λ X w. subst (λ (n : ℕ). holds_at (is_ready X) cs n ≡ list_all X waiter.needs) same (is.ready X);
    }

pub started : (cs : List Setting) (bound ready : Vars) (waiting : ℕ → List Waiter) → ((i : ℕ) → ready i ≡ false) → ((v : ℕ) → waiting v ≡ []) → IsState cs bound ready waiting (waiters_from 0 cs)
started cs bound ready waiting none_ready none_waiting = record {
  ready_are = λ i h. absurd (true≢false (sym h ∙ none_ready i));
  waiting_are = λ v waiter there. absurd (subst (λ (l : List Waiter). In waiter l) (none_waiting v) there);
  rest_are = λ waiter there. first_waiter cs bound waiter (numbered 0 cs waiter there);
  all_are = λ p of_ready of_waiting of_rest i unbound.
      let is = all_numbered 0 cs p of_rest (is_open bound) i unbound in
      let same : i + 0 ≡ i = omega arith in
      subst (λ (n : ℕ). IsTrue (p n)) same is;
}

-- ---- one is ready

pub one_ready : (cs : List Setting) (bound ready new : Vars) (waiting : ℕ → List Waiter) (rest : List Waiter) (waiter : Waiter) → ((i : ℕ) → new i ≡ ((waiter.number == i) || ready i)) → ((X : Vars) → Within bound X → IsTrue (list_all X waiter.needs)) → IsState cs bound ready waiting (rest ++ waiter ∷ []) → IsState cs bound new waiting rest
one_ready cs bound ready new waiting rest waiter are needs was = record {
  ready_are = λ i h.
      ⊎_elim
      (λ (same : (waiter.number == i) ≡ true).
      let last = was.rest_are waiter (In-append_right waiter rest (waiter ∷ []) (inl refl)) in
      subst (λ (n : ℕ). IsTrue (holds_at (is_ready bound) cs n)) (eqb-true waiter.number i same) (last.is_ready_by bound (λ v b. b) ∙ needs bound (λ v b. b)))
      (λ (before : ready i ≡ true). was.ready_are i before)
      (or_cases (waiter.number == i) (ready i) (sym (are i) ∙ h));
  waiting_are = was.waiting_are;
  rest_are = λ other there. was.rest_are other (In-append_left other rest (waiter ∷ []) there);
  all_are = λ p of_ready of_waiting of_rest.
      was.all_are p (λ i h. of_ready i (are i ∙ or_right (waiter.number == i) (ready i) h)) of_waiting
      (λ other there.
      ⊎_elim (λ (l : In other rest). of_rest other l)
      (λ (r : In other (waiter ∷ [])).
      ⊎_elim
      (λ (same : waiter ≡ other). subst (λ (w : Waiter). IsTrue (p w.number)) same (of_ready waiter.number (are waiter.number ∙ or_left (waiter.number == waiter.number) (ready waiter.number) (eq-eqb waiter.number waiter.number refl))))
      (λ (none : ⊥). absurd none)
      r)
      (In-append_cases other rest (waiter ∷ []) there));
}

-- ---- one waits

in_if : (b : Bool) (x y : Waiter) → In x (if b then y ∷ [] else []) → IsTrue b × (y ≡ x)
in_if true x y there = (refl, ⊎_elim (λ (e : y ≡ x). e) (λ (none : ⊥). absurd none) there)
in_if false x y there = absurd there

if_in : (b : Bool) (x : Waiter) → IsTrue b → In x (if b then x ∷ [] else [])
if_in true x h = inl refl
if_in false x h = absurd (true≢false (sym h))

pub one_waits : (cs : List Setting) (bound ready : Vars) (waiting new : ℕ → List Waiter) (rest : List Waiter) (v : ℕ) (waiter later : Waiter) → later.number ≡ waiter.number → IsFalse (bound v) → ((X : Vars) → Within bound X → list_all X waiter.needs ≡ (list_all X later.needs && X v)) → ((u : ℕ) → new u ≡ waiting u ++ (if v == u then later ∷ [] else [])) → IsState cs bound ready waiting (rest ++ waiter ∷ []) → IsState cs bound ready new rest
one_waits cs bound ready waiting new rest v waiter later number unbound needs are was = record {
  ready_are = was.ready_are;
  waiting_are = λ u other there.
      ⊎_elim (λ (l : In other (waiting u)). was.waiting_are u other l)
      (λ (r : In other (if v == u then later ∷ [] else [])).
      let both = in_if (v == u) other later r in
      subst (λ (w : Waiter). IsWaiter cs bound (λ (X : Vars). X u) w) both.1 (subst (λ (n : ℕ). IsWaiter cs bound (λ (X : Vars). X n) later) (eqb-true v u both.0) is_waiter))
      (In-append_cases other (waiting u) (if v == u then later ∷ [] else []) (subst (λ (l : List Waiter). In other l) (are u) there));
  rest_are = λ other there. was.rest_are other (In-append_left other rest (waiter ∷ []) there);
  all_are = λ p of_ready of_waiting of_rest.
      was.all_are p of_ready
      (λ u none other there. of_waiting u none other (subst (λ (l : List Waiter). In other l) (sym (are u)) (In-append_left other (waiting u) (if v == u then later ∷ [] else []) there)))
      (λ other there.
      ⊎_elim (λ (l : In other rest). of_rest other l)
      (λ (r : In other (waiter ∷ [])).
      ⊎_elim
      (λ (same : waiter ≡ other). subst (λ (w : Waiter). IsTrue (p w.number)) same (subst (λ (n : ℕ). IsTrue (p n)) number (of_waiting v unbound later later_there)))
      (λ (none : ⊥). absurd none)
      r)
      (In-append_cases other rest (waiter ∷ []) there));
}
  where
    last : IsWaiter cs bound (λ (X : Vars). true) waiter
    last = was.rest_are waiter (In-append_right waiter rest (waiter ∷ []) (inl refl))

    is_waiter : IsWaiter cs bound (λ (X : Vars). X v) later
    is_waiter = record {
      within = subst (λ (n : ℕ). n < length cs) (sym number) last.within;
      is_ready_by = λ X w. ap (λ (n : ℕ). holds_at (is_ready X) cs n) number ∙ last.is_ready_by X w ∙ needs X w ∙ and_comm (list_all X later.needs) (X v);
    }

    later_there : In later (new v)
    later_there = subst (λ (l : List Waiter). In later l) (sym (are v)) (In-append_right later (waiting v) (if v == v then later ∷ [] else []) (if_in (v == v) later (eq-eqb v v refl)))
