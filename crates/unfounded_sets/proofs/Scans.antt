-- The steps of the scan.
use Rattle.std.proofs.Common.{◌≡◌, ℕ, suc, ◌+◌, ◌<◌, ◌≤◌, Bool, true, false, not, ◌&&◌, ◌||◌, List, [], ◌∷◌, ◌++◌, length, get_or, set, take, replicate, refl, sym, ap, subst, inl, inr, ◌∙◌, ⊎_elim, arith, get_or-set_other, get_or-set_same}
use Rattle.std.specs.Prelude.{◌⊎◌, ◌==◌, Some, None}
use Rattle.std.specs.List.{list_all}
use Rattle.std.proofs.lemmas.List.{length-set, length-append, take_all, get_or_read}
use Rattle.std.proofs.lemmas.List.Folds.{list_any-append}
use Rattle.std.proofs.lemmas.Bool.{and_parts, and_from, or_cases, or_left, or_right, false≢true, cases_Bool, not_from_false, not-true, cases_eq, cond-true, cond-false, eq-eqb, eqb-true, ne_eqb}
use Rattle.normal_program.specs.declared.rules.NRule.{NRule}
use Rattle.normal_program.specs.Grounds.{Layers}
use Rattle.normal_program.specs.StableSets.{Set}
use Rattle.lit_trail.specs.declared.assignment.Entry.{Entry}
use Rattle.tel_base.specs.Members.{In}
use Rattle.tel_base.proofs.Members.{In-list_all}
use Rattle.unfounded_sets.specs.declared.waits.Wait.{Wait}
use Rattle.unfounded_sets.specs.Unfounded.{head_in, is_off}
use Rattle.unfounded_sets.specs.LoopClauses.{among}
use Rattle.unfounded_sets.specs.Least.{wanted_below, at, all_of, supports, keeps_rule, is_kept}
use Rattle.unfounded_sets.specs.Marks.{rest_of}
use Rattle.unfounded_sets.specs.Waiting.{Rows, Adds, Takes}
use Rattle.unfounded_sets.specs.Scanning.{no_rule, rule_at, is_live, State, IsWait, IsScan, is_busy, IsWaiting, IsServed, AreServed, none, IsStep, found_with, fresh_with}
use Rattle.unfounded_sets.proofs.Growing.{In-get_or, fewer_missing, more_found, Supports, least_more, want_range}
use Rattle.unfounded_sets.proofs.Unfoundedness.{head_more}

-- ---- rows

-- what waits keeps waiting
adds_keeps : (var v : ℕ) (wait one : Wait) (old new : Rows) → Adds var wait old new → In one (old v) → In one (new v)
adds_keeps var v wait one old new adds i =
    subst (In one) (sym (adds v)) (⊎_elim (λ (t : (v == var) ≡ true). subst (In one) (sym (cond-true (v == var) (wait ∷ old v) (old v) t)) (inr i)) (λ (f : (v == var) ≡ false). subst (In one) (sym (cond-false (v == var) (wait ∷ old v) (old v) f)) i) (cases_Bool (v == var)))

adds_here : (var : ℕ) (wait : Wait) (old new : Rows) → Adds var wait old new → In wait (new var)
adds_here var wait old new adds = subst (In wait) (sym (adds var ∙ cond-true (var == var) (wait ∷ old var) (old var) (eq-eqb var var refl))) (inl refl)

adds_cases : (var v : ℕ) (wait one : Wait) (old new : Rows) → Adds var wait old new → In one (new v) → (wait ≡ one) ⊎ In one (old v)
adds_cases var v wait one old new adds i =
    ⊎_elim (λ (t : (v == var) ≡ true). subst (In one) (adds v ∙ cond-true (v == var) (wait ∷ old v) (old v) t) i) (λ (f : (v == var) ≡ false). inr (subst (In one) (adds v ∙ cond-false (v == var) (wait ∷ old v) (old v) f) i)) (cases_Bool (v == var))

-- ---- a rule waits

abbrev waiting_state : State → Rows → ℕ → State
waiting_state state rows vars = record { found = state.found; fresh = state.fresh; row = rows; vars = vars }

pub wait_scan : (layers : Layers) (entries : List Entry) (bound : ℕ) (state : State) (rows : Rows) (vars var : ℕ) (next : Wait) → IsScan layers entries bound state → IsWait layers entries bound state.found next → Adds var next state.row rows → vars ≡ state.vars → IsScan layers entries bound (waiting_state state rows vars)
wait_scan layers entries bound state rows vars var next scan fits adds same = record {
  least = scan.least;
  waits = λ v one i. ⊎_elim (λ (e : next ≡ one). subst (IsWait layers entries bound state.found) e fits) (λ old. scan.waits v one old) (adds_cases var v next one state.row rows adds i);
  fresh_found = scan.fresh_found;
  long = scan.long;
  wide = same ∙ scan.wide;
}

pub wait_step : (layers : Layers) (entries : List Entry) (bound : ℕ) (state : State) (rows : Rows) (vars var : ℕ) (next : Wait) → In var (rule_at layers.rules next.rule).pos → rest_of (wanted_below layers entries bound) (at state.found) var ≡ true → Adds var next state.row rows → IsStep layers entries bound next.rule state (waiting_state state rows vars)
wait_step layers entries bound state rows vars var next has left adds =
    let both = and_parts (wanted_below layers entries bound var) (not (at state.found var)) left in
    record {
      serves = λ more. inr (record {
        var = var;
        wait = next;
        there = adds_here var next state.row rows adds;
        of_rule = refl;
        has = has;
        want = both.0;
        blocked = or_left (not (at state.found var)) (is_busy more state.fresh var) both.1;
      });
      keeps = λ more other served. ⊎_elim (λ f. inl f) (λ (w : IsWaiting layers entries bound more state other). inr (record {
        var = w.var;
        wait = w.wait;
        there = adds_keeps var w.var next w.wait state.row rows adds w.there;
        of_rule = w.of_rule;
        has = w.has;
        want = w.want;
        blocked = w.blocked;
      })) served;
      work = omega arith;
      grows = λ v h. h;
      stays = λ v h. adds v ∙ cond-false (v == var) (next ∷ state.row v) (state.row v) (ne_eqb v var (λ e. absurd (false≢true (sym (not-true (at state.found var) both.1) ∙ subst (λ (u : ℕ). at state.found u ≡ true) e h))));
    }

-- ---- a head is taken in

abbrev head_state : State → ℕ → State
head_state state head = record { found = found_with state.found head; fresh = fresh_with state.found state.fresh head; row = state.row; vars = state.vars }

abbrev new_state : State → ℕ → State
new_state state head = record { found = set state.found head true; fresh = state.fresh ++ (head ∷ []); row = state.row; vars = state.vars }

head_old : (state : State) (head : ℕ) → at state.found head ≡ true → state ≡ head_state state head
head_old state head t =
    let f : state.found ≡ found_with state.found head = sym (cond-true (at state.found head) state.found (set state.found head true) t) in
    let g : state.fresh ≡ fresh_with state.found state.fresh head = sym (cond-true (at state.found head) state.fresh (state.fresh ++ (head ∷ [])) t) in
    λ i. record { found = f i; fresh = g i; row = state.row; vars = state.vars }

head_new : (state : State) (head : ℕ) → at state.found head ≡ false → new_state state head ≡ head_state state head
head_new state head t =
    let f : set state.found head true ≡ found_with state.found head = sym (cond-false (at state.found head) state.found (set state.found head true) t) in
    let g : (state.fresh ++ (head ∷ [])) ≡ fresh_with state.found state.fresh head = sym (cond-false (at state.found head) state.fresh (state.fresh ++ (head ∷ [])) t) in
    λ i. record { found = f i; fresh = g i; row = state.row; vars = state.vars }

-- a rule whose wanted atoms are all found, and its head
pub record IsReady (layers : Layers) (entries : List Entry) (bound : ℕ) (state : State) (number head : ℕ) : Type 0 where
  pub within : number < length layers.rules
  pub live : is_live entries (wanted_below layers entries bound) (rule_at layers.rules number) ≡ true
  pub head_is : (rule_at layers.rules number).head ≡ Some head
  pub all : all_of (wanted_below layers entries bound) (at state.found) (rule_at layers.rules number).pos ≡ true

ready_supports : (layers : Layers) (entries : List Entry) (bound : ℕ) (state : State) (number head : ℕ) → IsReady layers entries bound state number head → Supports entries (wanted_below layers entries bound) (at state.found) (rule_at layers.rules number) head
ready_supports layers entries bound state number head ready =
    let rule = rule_at layers.rules number in
    let W : Set = wanted_below layers entries bound in
    let live = and_parts (not (is_off entries rule)) (head_in W rule.head) ready.live in
    record { head_is = ready.head_is; on = not-true (is_off entries rule) live.0; want = ap (head_in W) (sym ready.head_is) ∙ live.1; all = ready.all }

pub head_range : (layers : Layers) (entries : List Entry) (bound : ℕ) (state : State) (number head : ℕ) → IsReady layers entries bound state number head → head < bound
head_range layers entries bound state number head ready = want_range layers entries bound head (ready_supports layers entries bound state number head ready).want

set_grows : (found : List Bool) (head v : ℕ) → head < length found → at found v ≡ true → at (set found head true) v ≡ true
set_grows found head v l h =
    ⊎_elim (λ (e : head ≡ v). subst (λ (u : ℕ). at (set found head true) u ≡ true) e (get_or-set_same found head true false l)) (λ ne. get_or-set_other found head v true false (λ e. ne (sym e)) ∙ h) (cases_eq head v)

among_more : (fresh : List ℕ) (head v : ℕ) → among (fresh ++ (head ∷ [])) v ≡ (among fresh v || (head == v || false))
among_more fresh head v = list_any-append (λ (u : ℕ). u == v) fresh (head ∷ [])

new_scan : (layers : Layers) (entries : List Entry) (bound : ℕ) (state : State) (number head : ℕ) → IsScan layers entries bound state → IsReady layers entries bound state number head → IsScan layers entries bound (new_state state head)
new_scan layers entries bound state number head scan ready =
    let W : Set = wanted_below layers entries bound in
    let rule = rule_at layers.rules number in
    let low = head_range layers entries bound state number head ready in
    let long = scan.long in
    let within : head < length state.found = omega (arith, low, long) in
    let up : (v : ℕ) → at state.found v ≡ true → at (set state.found head true) v ≡ true = λ v h. set_grows state.found head v within h in
    record {
      least = least_more layers.rules entries W (replicate bound false) state.found rule head scan.least (In-get_or layers.rules number no_rule ready.within) (ready_supports layers entries bound state number head ready);
      waits = λ v wait i.
          let old = scan.waits v wait i in
          record { within = old.within; live = old.live; short = old.short; passed = more_found W (at state.found) (at (set state.found head true)) (take wait.place (rule_at layers.rules wait.rule).pos) up old.passed };
      fresh_found = λ v h.
          ⊎_elim (λ old. up v (scan.fresh_found v old)) (λ new. ⊎_elim (λ e. subst (λ (u : ℕ). at (set state.found head true) u ≡ true) (eqb-true head v e) (get_or-set_same state.found head true false within)) (λ f. absurd (false≢true f)) (or_cases (head == v) false new)) (or_cases (among state.fresh v) (head == v || false) (sym (among_more state.fresh head v) ∙ h));
      long = length-set state.found head true ∙ scan.long;
      wide = scan.wide;
    }

new_step : (layers : Layers) (entries : List Entry) (bound : ℕ) (state : State) (number head : ℕ) → IsScan layers entries bound state → IsReady layers entries bound state number head → at state.found head ≡ false → IsStep layers entries bound number state (new_state state head)
new_step layers entries bound state number head scan ready new =
    let rule = rule_at layers.rules number in
    let low = head_range layers entries bound state number head ready in
    let long = scan.long in
    let within : head < length state.found = omega (arith, low, long) in
    let now : List Bool = set state.found head true in
    let fresh : List ℕ = state.fresh ++ (head ∷ []) in
    let up : (v : ℕ) → at state.found v ≡ true → at now v ≡ true = λ v h. set_grows state.found head v within h in
    let less = fewer_missing state.found head within new in
    let one : length fresh ≡ length state.fresh + 1 = length-append state.fresh (head ∷ []) in
    record {
      serves = λ more. inl (ap (head_in (at now)) ready.head_is ∙ get_or-set_same state.found head true false within);
      keeps = λ more other served. ⊎_elim (λ f. inl (head_more (at state.found) (at now) (rule_at layers.rules other).head up f)) (λ (w : IsWaiting layers entries bound more state other). inr (record {
        var = w.var;
        wait = w.wait;
        there = w.there;
        of_rule = w.of_rule;
        has = w.has;
        want = w.want;
        blocked =
            ⊎_elim (λ (free : not (at state.found w.var) ≡ true).
            ⊎_elim (λ (e : head ≡ w.var).
            or_right (not (at now w.var)) (is_busy more fresh w.var) (or_right (more w.var) (among fresh w.var) (among_more state.fresh head w.var ∙ or_right (among state.fresh w.var) (head == w.var || false) (or_left (head == w.var) false (eq-eqb head w.var e))))) (λ ne.
            or_left (not (at now w.var)) (is_busy more fresh w.var) (ap not (get_or-set_other state.found head w.var true false (λ e. ne (sym e))) ∙ free)) (cases_eq head w.var)) (λ (busy : is_busy more state.fresh w.var ≡ true).
            or_right (not (at now w.var)) (is_busy more fresh w.var) (⊎_elim (λ m. or_left (more w.var) (among fresh w.var) m) (λ m. or_right (more w.var) (among fresh w.var) (among_more state.fresh head w.var ∙ or_left (among state.fresh w.var) (head == w.var || false) m)) (or_cases (more w.var) (among state.fresh w.var) busy))) (or_cases (not (at state.found w.var)) (is_busy more state.fresh w.var) w.blocked);
      })) served;
      work = omega (arith, less, one);
      grows = up;
      stays = λ v h. refl;
    }

same_step : (layers : Layers) (entries : List Entry) (bound : ℕ) (state : State) (number head : ℕ) → IsReady layers entries bound state number head → at state.found head ≡ true → IsStep layers entries bound number state state
same_step layers entries bound state number head ready there = record {
  serves = λ more. inl (ap (head_in (at state.found)) ready.head_is ∙ there);
  keeps = λ more other served. served;
  work = omega arith;
  grows = λ v h. h;
  stays = λ v h. refl;
}

pub head_scan : (layers : Layers) (entries : List Entry) (bound : ℕ) (state : State) (number head : ℕ) → IsScan layers entries bound state → IsReady layers entries bound state number head → IsScan layers entries bound (head_state state head)
head_scan layers entries bound state number head scan ready =
    ⊎_elim (λ (t : at state.found head ≡ true). subst (IsScan layers entries bound) (head_old state head t) scan) (λ (f : at state.found head ≡ false). subst (IsScan layers entries bound) (head_new state head f) (new_scan layers entries bound state number head scan ready)) (cases_Bool (at state.found head))

pub head_step : (layers : Layers) (entries : List Entry) (bound : ℕ) (state : State) (number head : ℕ) → IsScan layers entries bound state → IsReady layers entries bound state number head → IsStep layers entries bound number state (head_state state head)
head_step layers entries bound state number head scan ready =
    ⊎_elim (λ (t : at state.found head ≡ true). subst (IsStep layers entries bound number state) (head_old state head t) (same_step layers entries bound state number head ready t)) (λ (f : at state.found head ≡ false). subst (IsStep layers entries bound number state) (head_new state head f) (new_step layers entries bound state number head scan ready f)) (cases_Bool (at state.found head))

-- ---- a wait is taken away

took_here : (var : ℕ) (wait : Wait) (old new : Rows) → Takes (Some wait) var old new → In wait (old var)
took_here var wait old new takes = subst (In wait) (sym (takes var ∙ cond-true (var == var) (wait ∷ new var) (new var) (eq-eqb var var refl))) (inl refl)

took_from : (var v : ℕ) (wait one : Wait) (old new : Rows) → Takes (Some wait) var old new → In one (new v) → In one (old v)
took_from var v wait one old new takes i =
    subst (In one) (sym (takes v)) (⊎_elim (λ (t : (v == var) ≡ true). subst (In one) (sym (cond-true (v == var) (wait ∷ new v) (new v) t)) (inr i)) (λ (f : (v == var) ≡ false). subst (In one) (sym (cond-false (v == var) (wait ∷ new v) (new v) f)) i) (cases_Bool (v == var)))

took_cases : (var v : ℕ) (wait one : Wait) (old new : Rows) → Takes (Some wait) var old new → In one (old v) → (wait ≡ one) ⊎ In one (new v)
took_cases var v wait one old new takes i =
    ⊎_elim (λ (t : (v == var) ≡ true). subst (In one) (takes v ∙ cond-true (v == var) (wait ∷ new v) (new v) t) i) (λ (f : (v == var) ≡ false). inr (subst (In one) (takes v ∙ cond-false (v == var) (wait ∷ new v) (new v) f) i)) (cases_Bool (v == var))

pub take_scan : (layers : Layers) (entries : List Entry) (bound : ℕ) (state : State) (rows : Rows) (vars var : ℕ) (wait : Wait) → IsScan layers entries bound state → Takes (Some wait) var state.row rows → vars ≡ state.vars → IsScan layers entries bound (waiting_state state rows vars)
take_scan layers entries bound state rows vars var wait scan takes same = record {
  least = scan.least;
  waits = λ v one i. scan.waits v one (took_from var v wait one state.row rows takes i);
  fresh_found = scan.fresh_found;
  long = scan.long;
  wide = same ∙ scan.wide;
}

pub take_wait : (layers : Layers) (entries : List Entry) (bound : ℕ) (state : State) (rows : Rows) (var : ℕ) (wait : Wait) → IsScan layers entries bound state → Takes (Some wait) var state.row rows → IsWait layers entries bound state.found wait
take_wait layers entries bound state rows var wait scan takes = scan.waits var wait (took_here var wait state.row rows takes)

-- all are served again when the rule of the wait is
pub take_served : (layers : Layers) (entries : List Entry) (bound count : ℕ) (more : Set) (state new : State) (rows : Rows) (vars var : ℕ) (wait : Wait) → AreServed layers entries bound more count state → Takes (Some wait) var state.row rows → IsStep layers entries bound wait.rule (waiting_state state rows vars) new → AreServed layers entries bound more count new
take_served layers entries bound count more state new rows vars var wait served takes step number l live =
    ⊎_elim (λ f. step.keeps more number (inl f)) (λ (w : IsWaiting layers entries bound more state number).
    ⊎_elim (λ (e : wait ≡ w.wait). subst (λ (k : ℕ). IsServed layers entries bound more new k) (ap (λ (x : Wait). x.rule) e ∙ w.of_rule) (step.serves more)) (λ i.
    step.keeps more number (inr (record { var = w.var; wait = w.wait; there = i; of_rule = w.of_rule; has = w.has; want = w.want; blocked = w.blocked }))) (took_cases var w.var wait w.wait state.row rows takes w.there)) (served number l live)

-- ---- no more waits

pub empty_scan : (layers : Layers) (entries : List Entry) (bound : ℕ) (state : State) (rows : Rows) (vars var : ℕ) → IsScan layers entries bound state → Takes None var state.row rows → vars ≡ state.vars → IsScan layers entries bound (waiting_state state rows vars)
empty_scan layers entries bound state rows vars var scan takes same = record {
  least = scan.least;
  waits = λ v one i. scan.waits v one (subst (In one) (takes.1 v) i);
  fresh_found = scan.fresh_found;
  long = scan.long;
  wide = same ∙ scan.wide;
}

-- ---- the end

all_at : {A : Type 0} (p : A → Bool) (xs : List A) (d : A) → ((k : ℕ) → k < length xs → p (get_or xs k d) ≡ true) → list_all p xs ≡ true
all_at p [] d h = refl
all_at p (x ∷ xs) d h = and_from (p x) (list_all p xs) (h 0 (omega arith)) (all_at p xs d (λ k l. h (suc k) (omega (arith, l))))

-- where nothing is fresh, what is supported was found
pub end_closed : (layers : Layers) (entries : List Entry) (bound : ℕ) (state : State) → AreServed layers entries bound none (length layers.rules) state → state.fresh ≡ [] → is_kept layers.rules entries (wanted_below layers entries bound) (at state.found) ≡ true
end_closed layers entries bound state served empty =
    let W : Set = wanted_below layers entries bound in
    let X : Set = at state.found in
    all_at (keeps_rule entries W X) layers.rules no_rule (λ number l.
    let rule = rule_at layers.rules number in
    ⊎_elim (λ (s : supports entries W X rule ≡ true).
    let parts = and_parts (not (is_off entries rule) && head_in W rule.head) (all_of W X rule.pos) s in
    or_right (not (supports entries W X rule)) (head_in X rule.head) (⊎_elim (λ f. f) (λ (w : IsWaiting layers entries bound none state number).
    let kept = In-list_all (λ v. not (W v) || X v) w.var rule.pos parts.1 w.has in
    let found : X w.var ≡ true = ⊎_elim (λ n. absurd (false≢true (sym (not-true (W w.var) n) ∙ w.want))) (λ x. x) (or_cases (not (W w.var)) (X w.var) kept) in
    absurd (⊎_elim (λ n. false≢true (sym (not-true (X w.var) n) ∙ found)) (λ m. false≢true (sym (ap (λ (list : List ℕ). among list w.var) empty) ∙ m)) (or_cases (not (X w.var)) (is_busy none state.fresh w.var) w.blocked))) (served number l parts.0))) (λ (f : supports entries W X rule ≡ false). or_left (not (supports entries W X rule)) (head_in X rule.head) (not_from_false (supports entries W X rule) f)) (cases_Bool (supports entries W X rule)))

-- ---- one rule more at the start

pub start_more : (layers : Layers) (entries : List Entry) (bound count : ℕ) (old new : State) → AreServed layers entries bound none count old → IsStep layers entries bound count old new → AreServed layers entries bound none (count + 1) new
start_more layers entries bound count old new served step number l live =
    ⊎_elim (λ (e : number ≡ count). subst (λ (k : ℕ). IsServed layers entries bound none new k) (sym e) (step.serves none)) (λ ne. step.keeps none number (served number (omega (arith, l, ne)) live)) (cases_eq number count)

pub start_left : (layers : Layers) (entries : List Entry) (bound count : ℕ) (old : State) (rule : NRule) → AreServed layers entries bound none count old → count < length layers.rules → rule ≡ get_or layers.rules count rule → is_live entries (wanted_below layers entries bound) rule ≡ false → AreServed layers entries bound none (count + 1) old
start_left layers entries bound count old rule served within is dead number l live =
    let same : rule ≡ rule_at layers.rules count = get_or_read layers.rules count rule within is no_rule in
    ⊎_elim (λ (e : number ≡ count). absurd (false≢true (sym dead ∙ ap (is_live entries (wanted_below layers entries bound)) (same ∙ ap (rule_at layers.rules) (sym e)) ∙ live))) (λ ne. served number (omega (arith, l, ne)) live) (cases_eq number count)

-- ---- from what was read to what is said of it

pub rule_read : (layers : Layers) (read : List NRule) (number : ℕ) (rule : NRule) → read ≡ layers.rules → number < length layers.rules → rule ≡ get_or read number rule → rule ≡ rule_at layers.rules number
rule_read layers read number rule same within is = get_or_read layers.rules number rule within (is ∙ ap (λ (list : List NRule). get_or list number rule) same) no_rule

pub next_wait : (layers : Layers) (entries : List Entry) (bound : ℕ) (found : List Bool) (wait next : Wait) (vars : List ℕ) → IsWait layers entries bound found wait → next.rule ≡ wait.rule → vars ≡ (rule_at layers.rules wait.rule).pos → next.place ≤ length vars → all_of (wanted_below layers entries bound) (at found) (take next.place vars) ≡ true → IsWait layers entries bound found next
next_wait layers entries bound found wait next vars old same pos short passed =
    let here : vars ≡ (rule_at layers.rules next.rule).pos = pos ∙ ap (λ (k : ℕ). (rule_at layers.rules k).pos) (sym same) in
    record {
      within = subst (λ (k : ℕ). k < length layers.rules) (sym same) old.within;
      live = subst (λ (k : ℕ). is_live entries (wanted_below layers entries bound) (rule_at layers.rules k) ≡ true) (sym same) old.live;
      short = subst (λ (list : List ℕ). next.place ≤ length list) here short;
      passed = subst (λ (list : List ℕ). all_of (wanted_below layers entries bound) (at found) (take next.place list) ≡ true) here passed;
    }

pub ready_from : (layers : Layers) (entries : List Entry) (bound : ℕ) (state : State) (wait : Wait) (rule : NRule) (head place : ℕ) (vars : List ℕ) → IsWait layers entries bound state.found wait → rule ≡ rule_at layers.rules wait.rule → vars ≡ rule.pos → rule.head ≡ Some head → length vars ≤ place → all_of (wanted_below layers entries bound) (at state.found) (take place vars) ≡ true → IsReady layers entries bound state wait.rule head
ready_from layers entries bound state wait rule head place vars old same pos head_is past passed = record {
  within = old.within;
  live = old.live;
  head_is = ap (λ (r : NRule). r.head) (sym same) ∙ head_is;
  all = subst (λ (list : List ℕ). all_of (wanted_below layers entries bound) (at state.found) list ≡ true) (take_all place vars past ∙ pos ∙ ap (λ (r : NRule). r.pos) same) passed;
}

pub In-read : (vars : List ℕ) (place : ℕ) (pos : List ℕ) → vars ≡ pos → place < length vars → In (get_or vars place 0) pos
In-read vars place pos same l = subst (In (get_or vars place 0)) same (In-get_or vars place 0 l)

pub empty_list : (xs : List ℕ) → length xs ≡ 0 → xs ≡ []
empty_list [] h = refl
empty_list (x ∷ xs) h = absurd (omega (arith, h))
