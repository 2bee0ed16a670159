-- A variable more is bound, and rules that are taken in.
use Rattle.std.proofs.Common.{◌≡◌, ◌⊎◌, ◌↔◌, ℕ, ◌<◌, Bool, true, false, ◌&&◌, ◌||◌, not, List, [], ◌∷◌, ◌++◌, length, refl, sym, subst, ◌∙◌, inl, inr, arith, IsTrue, rules, Result, Ok, Err}
use Rattle.std.specs.Prelude.{slice_set, ◌==◌, OnOk}
use Rattle.std.specs.List.{list_all}
use Rattle.std.proofs.lemmas.Bool.{and_parts, and_from, or_left, or_right}
use Rattle.std.proofs.lemmas.List.Folds.{list_all-append, list_any-append}
use Rattle.rule_binding.specs.declared.rules.BindingRule.{BindingRule}
use Rattle.rule_binding.specs.declared.state.State.{State}
use Rattle.rule_binding.specs.Binding.{Vars, has}
use Rattle.rule_binding.specs.Closure.{marked, keeps_rule, keeps}
use Rattle.rule_binding.specs.Waiting.{waiting_at, Holds, Meets}
use Rattle.rule_binding.proofs.Marks.{all_more, marked-set, marked-of_set, marked-kept}

-- one more is among these
pub has-last : (vars : List ℕ) (v : ℕ) → IsTrue (has (vars ++ v ∷ []) v)
has-last [] v = let same : (v == v) ≡ true = search rules in or_left (v == v) false same
has-last (w ∷ vars) v = or_right (w == v) (has (vars ++ v ∷ []) v) (has-last vars v)

pub has-more : (vars more : List ℕ) (v : ℕ) → IsTrue (has vars v) → IsTrue (has (vars ++ more) v)
has-more vars more v h = list_any-append (λ (w : ℕ). w == v) vars more ∙ or_left (has vars v) (has more v) h

-- the queue is bound, with the new one
pub queued_more : (marks : List Bool) (queue : List ℕ) (v : ℕ) → v < length marks → IsTrue (list_all (marked marks) queue) → IsTrue (list_all (marked (slice_set marks v true)) (queue ++ v ∷ []))
queued_more marks queue v l h =
    list_all-append (marked (slice_set marks v true)) queue (v ∷ [])
    ∙ and_from (list_all (marked (slice_set marks v true)) queue) (marked (slice_set marks v true) v && true) (all_more (marked marks) (marked (slice_set marks v true)) (marked-kept marks v) queue h)
    (and_from (marked (slice_set marks v true) v) true (marked-set marks v l) refl)

-- no rule waits at a bound variable, but for those in the queue
pub drained_more : (marks : List Bool) (waiting : List (List BindingRule)) (queue : List ℕ) (v : ℕ) → ((u : ℕ) → IsTrue (marked marks u) → IsTrue (has queue u) ⊎ (waiting_at waiting u ≡ [])) → (u : ℕ) → IsTrue (marked (slice_set marks v true) u) → IsTrue (has (queue ++ v ∷ []) u) ⊎ (waiting_at waiting u ≡ [])
drained_more marks waiting queue v old u h =
    elim (marked-of_set marks v u h) [
      | inl e ↦ inl (subst (λ (w : ℕ). IsTrue (has (queue ++ v ∷ []) w)) (sym e) (has-last queue v))
      | inr e ↦
          elim (old u e) [
            | inl q ↦ inl (has-more queue (v ∷ []) u q)
            | inr none ↦ inr none
          ]
    ]

-- a rule whose needs are all bound
pub free_rule : (X : Vars) (state : State) (rule : BindingRule) → (Holds X state.bound.items → IsTrue (list_all X rule.needs)) → (Meets X state × IsTrue (X rule.var)) ↔ (Meets X state × IsTrue (keeps_rule X rule))
free_rule X state rule bound = (
  λ h. (h.0, or_left (X rule.var) (not (list_all X rule.needs)) h.1),
  λ h. let needs : list_all X rule.needs ≡ true = bound h.0.bound in
      let kept : (X rule.var || not (list_all X rule.needs)) ≡ true = h.1 in
      (h.0, grind (arith, needs, kept)),
)

-- ---- one more at the end

pub all_front : {A : Type 0} (p : A → Bool) (xs : List A) (x : A) → IsTrue (list_all p (xs ++ x ∷ [])) → IsTrue (list_all p xs) × IsTrue (p x)
all_front p xs x h =
    let both = and_parts (list_all p xs) (p x && true) (sym (list_all-append p xs (x ∷ [])) ∙ h) in
    (both.0, (and_parts (p x) true both.1).0)

pub all_back : {A : Type 0} (p : A → Bool) (xs : List A) (x : A) → IsTrue (list_all p xs) → IsTrue (p x) → IsTrue (list_all p (xs ++ x ∷ []))
all_back p xs x front last = list_all-append p xs (x ∷ []) ∙ and_from (list_all p xs) (p x && true) front (and_from (p x) true last refl)

-- one rule of those that are left is taken in
pub taken_in : (X : Vars) (old new : State) (rest front : List BindingRule) (rule : BindingRule) (G : Type 0) → rest ≡ front ++ rule ∷ [] → (Meets X new ↔ (Meets X old × IsTrue (keeps_rule X rule))) → ((Meets X old × IsTrue (keeps X rest)) ↔ G) → ((Meets X new × IsTrue (keeps X front)) ↔ G)
taken_in X old new rest front rule G is step start = (
  λ h. let before = step.0 h.0 in
      start.0 (before.0, subst (λ (rules : List BindingRule). IsTrue (keeps X rules)) (sym is) (all_back (keeps_rule X) front rule h.1 before.1)),
  λ g. let before = start.1 g in
      let both = all_front (keeps_rule X) front rule (subst (λ (rules : List BindingRule). IsTrue (keeps X rules)) is before.1) in
      (step.1 (before.0, both.1), both.0),
)

pub through : {A B C D : Type 0} → (A ↔ B) → (C ↔ B) → (C ↔ D) → (A ↔ D)
through ab cb cd = (λ a. cd.0 (cb.1 (ab.0 a)), λ d. ab.1 (cb.0 (cd.1 d)))

pub on_ok : {T E P Q : Type 0} (result : Result T E) → (P → Q) → OnOk result P → OnOk result Q
on_ok (Ok value) f h = f h
on_ok (Err fault) f h = h
