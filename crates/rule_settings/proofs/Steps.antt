-- The next setting equation, and a variable more that is bound.
use Rattle.std.proofs.Common.{◌≡◌, ◌⊎◌, ◌∙◌, ℕ, Bool, true, false, not, ◌&&◌, ◌||◌, List, [], Option, Some, None, refl, sym, ap, subst, true≢false, ⊎_elim, IsTrue}
use Rattle.std.specs.Prelude.{IsFalse, ◌==◌, if◌then◌else◌, nat_lt}
use Rattle.std.specs.List.{list_all}
use Rattle.std.proofs.lemmas.Bool.{or_cases, or_left, or_right, and_parts, and_from, cases_Bool, eqb-true, eq-eqb, ltb-true, lt-ltb, false_from_ne_true, not_from_false}
use Rattle.tel_base.specs.Members.{In}
use Rattle.rule_binding.specs.Binding.{Vars, Setting}
use Rattle.rule_settings.specs.declared.waiters.Waiter.{Waiter}
use Rattle.rule_settings.specs.Waiting.{is_ready, is_open, can_set, passes, holds_at, Within, IsWaiter, IsState, NoneOpen, IsNext, first_setting, IsBound}
use Rattle.rule_settings.proofs.Numbered.{more_ready, fewer_open, can_set_is, one_fewer}
use Rattle.rule_settings.proofs.Firsts.{none_passes, first_passes}

-- ---- the first one that can set its variable

-- what is closed, or isn't ready, can't
closed_cannot : (bound : Vars) (cs : List Setting) (i : ℕ) → IsFalse (holds_at (is_open bound) cs i) → IsFalse (holds_at (can_set bound) cs i)
closed_cannot bound cs i h = can_set_is bound cs i ∙ ap (λ (b : Bool). b && holds_at (is_ready bound) cs i) h

and_false : (b : Bool) → (b && false) ≡ false
and_false true = refl
and_false false = refl

unready_cannot : (bound : Vars) (cs : List Setting) (i : ℕ) → IsFalse (holds_at (is_ready bound) cs i) → IsFalse (holds_at (can_set bound) cs i)
unready_cannot bound cs i h = can_set_is bound cs i ∙ ap (λ (b : Bool). holds_at (is_open bound) cs i && b) h ∙ and_false (holds_at (is_open bound) cs i)

-- what waits for an unbound variable can't
waiting_cannot : (cs : List Setting) (bound ready : Vars) (waiting : ℕ → List Waiter) → IsState cs bound ready waiting [] → (v : ℕ) → IsFalse (bound v) → (waiter : Waiter) → In waiter (waiting v) → IsFalse (holds_at (can_set bound) cs waiter.number)
waiting_cannot cs bound ready waiting state v unbound waiter there =
    let is = state.waiting_are v waiter there in
    unready_cannot bound cs waiter.number (is.is_ready_by bound (λ u b. b) ∙ ap (λ (b : Bool). b && list_all bound waiter.needs) unbound)

-- where those below a number that are ready are closed, none below it can
none_below : (cs : List Setting) (bound ready : Vars) (waiting : ℕ → List Waiter) → IsState cs bound ready waiting [] → (q : ℕ → Bool) → ((i : ℕ) → IsTrue (q i) → IsTrue (ready i) → IsFalse (holds_at (is_open bound) cs i)) → (i : ℕ) → IsTrue (q i) → IsFalse (holds_at (can_set bound) cs i)
none_below cs bound ready waiting state q closed i below =
    false_from_ne_true (holds_at (can_set bound) cs i)
    (λ can.
    let unbound = (and_parts (holds_at (is_open bound) cs i) (holds_at (is_ready bound) cs i) (sym (can_set_is bound cs i) ∙ can)).0 in
    let either = state.all_are p of_ready of_waiting (λ waiter there. absurd there) i unbound in
    ⊎_elim (λ (isnt : not (q i) ≡ true). true≢false (sym isnt ∙ ap not below)) (λ (cannot : not (holds_at (can_set bound) cs i) ≡ true). true≢false (sym cannot ∙ ap not can)) (or_cases (not (q i)) (not (holds_at (can_set bound) cs i)) either))
  where
    p : ℕ → Bool
    p = λ j. not (q j) || not (holds_at (can_set bound) cs j)

    of_ready : (j : ℕ) → IsTrue (ready j) → IsTrue (not (q j) || not (holds_at (can_set bound) cs j))
    of_ready j h =
        ⊎_elim (λ (is : q j ≡ true). or_right (not (q j)) (not (holds_at (can_set bound) cs j)) (not_from_false (holds_at (can_set bound) cs j) (closed_cannot bound cs j (closed j is h))))
        (λ (isnt : q j ≡ false). or_left (not (q j)) (not (holds_at (can_set bound) cs j)) (not_from_false (q j) isnt))
        (cases_Bool (q j))

    of_waiting : (v : ℕ) → IsFalse (bound v) → (waiter : Waiter) → In waiter (waiting v) → IsTrue (not (q waiter.number) || not (holds_at (can_set bound) cs waiter.number))
    of_waiting v unbound waiter there =
        or_right (not (q waiter.number)) (not (holds_at (can_set bound) cs waiter.number)) (not_from_false (holds_at (can_set bound) cs waiter.number) (waiting_cannot cs bound ready waiting state v unbound waiter there))

pub none_first : (cs : List Setting) (bound ready : Vars) (waiting : ℕ → List Waiter) → IsState cs bound ready waiting [] → NoneOpen bound cs ready → first_setting bound cs ≡ None
none_first cs bound ready waiting state none =
    none_passes (can_set bound) cs (λ i. none_below cs bound ready waiting state (λ (j : ℕ). true) (λ j is h. none j h) i refl)

pub next_first : (cs : List Setting) (bound ready later : Vars) (waiting : ℕ → List Waiter) (found : Setting) → IsState cs bound ready waiting [] → IsNext bound cs ready later found → first_setting bound cs ≡ Some found
next_first cs bound ready later waiting found state next =
    let is_ready_found : IsTrue (is_ready bound found) = subst (λ (o : Option Setting). IsTrue (passes (is_ready bound) o)) next.is (state.ready_are next.number next.was) in
    first_passes (can_set bound) cs next.number found next.is (and_from (not (bound found.var)) (is_ready bound found) (not_from_false (bound found.var) next.unbound) is_ready_found)
    (λ i less.
    none_below cs bound ready waiting state (λ (j : ℕ). nat_lt j next.number) (λ j below h. next.least j (ltb-true j next.number below) h) i (lt-ltb i next.number less))

-- ---- a variable more is bound

in_unless : (b : Bool) (x : Waiter) (l : List Waiter) → In x (if b then [] else l) → In x l
in_unless true x l there = absurd there
in_unless false x l there = there

weaker : (cs : List Setting) (old new : Vars) (also : Vars → Bool) (waiter : Waiter) → Within old new → IsWaiter cs old also waiter → IsWaiter cs new also waiter
weaker cs old new also waiter more is = record {
  within = is.within;
  is_ready_by = λ X w. is.is_ready_by X (λ v h. w v (more v h));
}

pub grows : (v : ℕ) (old new : Vars) → ((u : ℕ) → new u ≡ ((v == u) || old u)) → Within old new
grows v old new are u h = are u ∙ or_right (v == u) (old u) h

pub has_it : (v : ℕ) (old new : Vars) → ((u : ℕ) → new u ≡ ((v == u) || old u)) → IsTrue (new v)
has_it v old new are = are v ∙ or_left (v == v) (old v) (eq-eqb v v refl)

pub bound_next : (cs : List Setting) (old new ready later : Vars) (waiting after : ℕ → List Waiter) (found : Setting) → IsState cs old ready waiting [] → IsNext old cs ready later found → ((v : ℕ) → new v ≡ ((found.var == v) || old v)) → ((v : ℕ) → after v ≡ (if found.var == v then [] else waiting v)) → IsState cs new later after (waiting found.var)
bound_next cs old new ready later waiting after found was next are left = record {
  ready_are = λ i h. more_ready old new more cs i (was.ready_are i (next.no_more i h));
  waiting_are = λ v waiter there. weaker cs old new (λ (X : Vars). X v) waiter more (was.waiting_are v waiter (in_unless (found.var == v) waiter (waiting v) (subst (λ (l : List Waiter). In waiter l) (left v) there)));
  rest_are = λ waiter there.
      let is = weaker cs old new (λ (X : Vars). X found.var) waiter more (was.waiting_are found.var waiter there) in
      record {
        within = is.within;
        is_ready_by = λ X w. is.is_ready_by X w ∙ ap (λ (b : Bool). b && list_all X waiter.needs) (w found.var (has_it found.var old new are));
      };
  all_are = all;
}
  where
    more : Within old new
    more = grows found.var old new are

    now : ℕ → Bool
    now = λ i. holds_at (is_open new) cs i

    -- the variable of the next one is bound now
    closed_next : IsFalse (holds_at (is_open new) cs next.number)
    closed_next = ap (passes (is_open new)) next.is ∙ ap not (has_it found.var old new are)

    closed_still : (i : ℕ) → IsFalse (holds_at (is_open old) cs i) → IsFalse (holds_at (is_open new) cs i)
    closed_still i closed = false_from_ne_true (holds_at (is_open new) cs i) (λ unbound. true≢false (sym (fewer_open old new more cs i unbound) ∙ closed))

    either_closed : (p : ℕ → Bool) (i : ℕ) → IsFalse (holds_at (is_open new) cs i) → IsTrue (not (holds_at (is_open new) cs i) || p i)
    either_closed p i closed = or_left (not (holds_at (is_open new) cs i)) (p i) (not_from_false (holds_at (is_open new) cs i) closed)

    all : (p : ℕ → Bool) → ((i : ℕ) → IsTrue (later i) → IsTrue (p i)) → ((v : ℕ) → IsFalse (new v) → (waiter : Waiter) → In waiter (after v) → IsTrue (p waiter.number)) → ((waiter : Waiter) → In waiter (waiting found.var) → IsTrue (p waiter.number)) → (i : ℕ) → IsTrue (holds_at (is_open new) cs i) → IsTrue (p i)
    all p of_ready of_waiting of_rest i unbound =
        let either = was.all_are (λ (j : ℕ). not (holds_at (is_open new) cs j) || p j) ready_either waiting_either (λ waiter there. absurd there) i (fewer_open old new more cs i unbound) in
        ⊎_elim (λ (closed : not (holds_at (is_open new) cs i) ≡ true). absurd (true≢false (sym closed ∙ ap not unbound))) (λ (is : p i ≡ true). is) (or_cases (not (holds_at (is_open new) cs i)) (p i) either)
      where
        ready_either : (j : ℕ) → IsTrue (ready j) → IsTrue (not (holds_at (is_open new) cs j) || p j)
        ready_either j h =
            ⊎_elim (λ (same : j ≡ next.number). either_closed p j (subst (λ (n : ℕ). IsFalse (holds_at (is_open new) cs n)) (sym same) closed_next))
            (λ (others : IsTrue (later j) ⊎ IsFalse (holds_at (is_open old) cs j)).
            ⊎_elim (λ (still : IsTrue (later j)). or_right (not (holds_at (is_open new) cs j)) (p j) (of_ready j still)) (λ (closed : IsFalse (holds_at (is_open old) cs j)). either_closed p j (closed_still j closed)) others)
            (next.kept j h)

        waiting_either : (v : ℕ) → IsFalse (old v) → (waiter : Waiter) → In waiter (waiting v) → IsTrue (not (holds_at (is_open new) cs waiter.number) || p waiter.number)
        waiting_either v unbound waiter there =
            or_right (not (holds_at (is_open new) cs waiter.number)) (p waiter.number)
            (⊎_elim
            (λ (same : (found.var == v) ≡ true). of_rest waiter (subst (λ (n : ℕ). In waiter (waiting n)) (sym (eqb-true found.var v same)) there))
            (λ (other : (found.var == v) ≡ false).
            of_waiting v (are v ∙ ap (λ (b : Bool). b || old v) other ∙ unbound) waiter
            (subst (λ (l : List Waiter). In waiter l) (sym (left v ∙ ap (λ (b : Bool). if b then [] else waiting v) other)) there))
            (cases_Bool (found.var == v)))

pub step_bound : (cs : List Setting) (old new ready later : Vars) (waiting : ℕ → List Waiter) (found : Setting) → IsState cs old ready waiting [] → IsNext old cs ready later found → ((v : ℕ) → new v ≡ ((found.var == v) || old v)) → IsBound cs old new found
step_bound cs old new ready later waiting found state next are = record {
  first = next_first cs old ready later waiting found state next;
  bound = are;
  fewer = one_fewer old new (grows found.var old new are) cs next.number found next.is next.unbound (has_it found.var old new are);
}
