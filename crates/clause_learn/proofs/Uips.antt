-- The walk along the trail up to the first UIP.
use Rattle.std.proofs.Common.{◌≡◌, ℕ, zero, suc, ◌+◌, ◌<◌, ◌≤◌, Bool, true, false, cond, not, ◌&&◌, ◌||◌, List, [], ◌∷◌, length, get_or, drop, refl, sym, ap, subst, inr, ◌∙◌, ⊎_elim, arith}
use Rattle.std.specs.Prelude.{Option, Some, None, ◌==◌, nat_lt}
use Rattle.std.proofs.lemmas.List.{drop_all, drop_more}
use Rattle.std.proofs.lemmas.Bool.{and_parts, and_from, or_cases, or_left, eq-eqb, eqb-true, ltb-true, cases_Bool, cond-true, cond-false, false≢true, not_from_false, not-true}
use Rattle.tel_base.specs.declared.literals.Lit.{Lit}
use Rattle.tel_base.specs.Literals.{negate}
use Rattle.clause_store.proofs.Levels.{In-at}
use Rattle.clause_store.specs.declared.store.ClauseId.{ClauseId}
use Rattle.clause_store.specs.Held.{clause_at}
use Rattle.clause_store.specs.Closure.{In, Clause, Lits, same_lit, others, refutes}
use Rattle.clause_store.specs.Counts.{has_lit}
use Rattle.tel_base.proofs.Members.{In-list_all, list_all-from_In, In-filter, any_found, any_from}
use Rattle.clause_store.proofs.Closures.{same_lit-true, same_lit-self}
use Rattle.lit_trail.specs.declared.assignment.Entry.{Entry}
use Rattle.lit_trail.specs.Entries.{View, spot_in, level_in, Apart}
use Rattle.lit_trail.specs.Levels.{AreLevels, AreOpened}
use Rattle.lit_trail.specs.Sound.{holds, IsReason, HasReason, ReasonsHold}
use Rattle.lit_trail.proofs.Values.{none_holds, last_or_older, held_entry, entry_holds, holds_on}
use Rattle.clause_learn.specs.declared.notes.Notes.{Notes}
use Rattle.clause_learn.specs.Room.{marked_at}
use Rattle.clause_learn.specs.FirstUip.{resolvent, has_more, by_reason, first_uip}
use Rattle.clause_learn.specs.Noted.{picks, at_level, tally, IsNoted, AreReady, OthersFalse, HasLeft, IsUip}
use Rattle.clause_learn.specs.LearntClause.{level_or}
use Rattle.clause_learn.proofs.Tallies.{other_var, level_at, level_most, var_within, negate_twice}
use Rattle.clause_learn.proofs.Resolutions.{IsTop, top_marked, from_has}

-- ---- the entries from a place on

of_drop : (P : List Entry → Type 0) (k : ℕ) (entries : List Entry) → ((entry : Entry) (older : List Entry) → P (entry ∷ older) → P older) → P entries → P (drop k entries)
of_drop P zero entries less h = h
of_drop P (suc k) [] less h = h
of_drop P (suc k) (e ∷ entries) less h = of_drop P k entries less (less e entries h)

pub In-drop : (entry : Entry) (k : ℕ) (entries : List Entry) → In entry (drop k entries) → In entry entries
In-drop entry zero entries i = i
In-drop entry (suc k) [] i = i
In-drop entry (suc k) (e ∷ entries) i = inr (In-drop entry k entries i)

drop_apart : (k : ℕ) (entries : List Entry) → Apart entries → Apart (drop k entries)
drop_apart k entries = of_drop Apart k entries (λ e older h. h.1)

drop_opened : (k : ℕ) (entries : List Entry) → AreOpened entries → AreOpened (drop k entries)
drop_opened k entries = of_drop AreOpened k entries (λ e older h. h.1)

drop_reasons : (clauses : List Clause) (k : ℕ) (entries : List Entry) → ReasonsHold clauses entries → ReasonsHold clauses (drop k entries)
drop_reasons clauses k entries = of_drop (ReasonsHold clauses) k entries (λ e older h. h.1)

abbrev SomeLevels : List Entry → Type 0
SomeLevels entries = (top : ℕ) × AreLevels top entries

drop_levels : (k top : ℕ) (entries : List Entry) → AreLevels top entries → SomeLevels (drop k entries)
drop_levels k top entries h = of_drop SomeLevels k entries (λ e older h. (e.level, h.1.1)) (top, h)

pub at_place : (entries : List Entry) (place : ℕ) (entry : Entry) → place < length entries → entry ≡ get_or entries place entry → drop place entries ≡ entry ∷ drop (place + 1) entries
at_place entries place entry l e = drop_more entries place entry l ∙ ap (λ (x : Entry). x ∷ drop (place + 1) entries) (sym e)

-- what holds among the older holds
pub older_holds : (k : ℕ) (entries : List Entry) (lit : Lit) → Apart entries → holds (drop k entries) lit ≡ true → holds entries lit ≡ true
older_holds zero entries lit apart h = h
older_holds (suc k) [] lit apart h = h
older_holds (suc k) (e ∷ entries) lit apart h = holds_on e entries lit apart.0 (older_holds k entries lit apart.1 h)

-- ---- how many are left

abbrev pub AllFalse : List Entry → Lits → Type 0
AllFalse entries X = (m : Lit) → X m ≡ true → holds entries (negate m) ≡ true

-- a newer entry isn't in a set that is false among the older
not_newer : (x : Entry) (more : List Entry) (k : ℕ) (X : Lits) → spot_in more x.lit.var ≡ None → AllFalse (drop k more) X → X (negate x.lit) ≡ false
not_newer x more k X free older =
    ⊎_elim (λ (t : X (negate x.lit) ≡ true).
    let w = held_entry (drop k more) x.lit (subst (λ (l : Lit). holds (drop k more) l ≡ true) (negate_twice x.lit) (older (negate x.lit) t)) in
    absurd (other_var more w.0 x.lit.var free (In-drop w.0 k more w.1) (ap (λ (l : Lit). l.var) w.2))) (λ f. f) (cases_Bool (X (negate x.lit)))

tally_drop : (test : ℕ → Bool) (X : Lits) (k : ℕ) (entries : List Entry) → Apart entries → AllFalse (drop k entries) X → tally (picks test X) entries ≡ tally (picks test X) (drop k entries)
tally_drop test X zero entries apart older = refl
tally_drop test X (suc k) [] apart older = refl
tally_drop test X (suc k) (x ∷ more) apart older =
    let out : picks test X x ≡ false = ap (λ (b : Bool). b && test x.level) (not_newer x more k X apart.0 older) in
    cond-false (picks test X x) (suc (tally (picks test X) more)) (tally (picks test X) more) out ∙ tally_drop test X k more apart.1 older

none_left : (level : ℕ) (entries : List Entry) (X : Lits) → tally (picks (at_level level) X) entries ≡ 0 → has_more level entries X ≡ false
none_left level [] X e = refl
none_left level (x ∷ older) X e =
    (elim (picks (at_level level) X x) as (λ (b : Bool). cond b (suc (tally (picks (at_level level) X) older)) (tally (picks (at_level level) X) older) ≡ 0 → (b || has_more level older X) ≡ false) [
      | true ↦ λ m. absurd (omega (arith, m))
      | false ↦ λ m. none_left level older X m
    ]) e

no_tally : (level : ℕ) (entries : List Entry) (X : Lits) → has_more level entries X ≡ false → tally (picks (at_level level) X) entries ≡ 0
no_tally level [] X h = refl
no_tally level (x ∷ older) X h =
    (elim (picks (at_level level) X x) as (λ (b : Bool). (b || has_more level older X) ≡ false → cond b (suc (tally (picks (at_level level) X) older)) (tally (picks (at_level level) X) older) ≡ 0) [
      | true ↦ λ m. absurd (false≢true (sym m))
      | false ↦ λ m. no_tally level older X m
    ]) h

pub more_at : (level : ℕ) (entries : List Entry) (X : Lits) → has_more level entries X ≡ true → (x : Entry) × In x entries × (X (negate x.lit) ≡ true) × (x.level ≡ level)
more_at level entries X h =
    let w = any_found (λ (e : Entry). X (negate e.lit) && (e.level == level)) entries h in
    let p = and_parts (X (negate w.0.lit)) (w.0.level == level) w.2 in
    (w.0, w.1, p.0, eqb-true w.0.level level p.1)

pub more_from : (level : ℕ) (entries : List Entry) (X : Lits) (x : Entry) → In x entries → X (negate x.lit) ≡ true → x.level ≡ level → has_more level entries X ≡ true
more_from level entries X x i h e =
    any_from (λ (y : Entry). X (negate y.lit) && (y.level == level)) entries x i (and_from (X (negate x.lit)) (x.level == level) h (eq-eqb x.level level e))

-- ---- the walk

pub record Resolving (clauses : List Clause) (trail : View) (first : Lits) (notes : Notes) (place : ℕ) : Type 0 where
  pub set : Lits
  pub noted : IsNoted trail set notes
  pub older : AllFalse (drop place trail.entries) set
  pub left : has_more trail.level (drop place trail.entries) set ≡ true
  pub same : first_uip clauses trail.level (drop place trail.entries) set ≡ first_uip clauses trail.level trail.entries first

pub resolving_start : (clauses : List Clause) (trail : View) (notes : Notes) (first : Lits) → IsNoted trail first notes → has_more trail.level trail.entries first ≡ true → Resolving clauses trail first notes 0
resolving_start clauses trail notes first is left = record { set = first; noted = is; older = is.within; left = left; same = refl }

pub here_in : (entries : List Entry) (place : ℕ) (entry : Entry) → place < length entries → entry ≡ get_or entries place entry → In entry entries
here_in entries place entry l e = subst (λ (x : Entry). In x entries) (sym e) (In-at entries place entry l)

-- the entry at the place is of the trail's level
here_at : (clauses : List Clause) (trail : View) (first : Lits) (notes : Notes) (place : ℕ) (entry : Entry) → AreReady trail notes → Resolving clauses trail first notes place → place < length trail.entries → entry ≡ get_or trail.entries place entry → entry.level ≡ trail.level
here_at clauses trail first notes place entry ready state l e =
    let is = at_place trail.entries place entry l e in
    let top = level_most trail.level trail.entries entry ready.levels (here_in trail.entries place entry l e) in
    let levels = drop_levels place trail.level trail.entries ready.levels in
    let w = more_at trail.level (drop place trail.entries) state.set state.left in
    let low : w.0.level ≤ entry.level = level_most entry.level (entry ∷ drop (place + 1) trail.entries) w.0 (omega arith, (subst (AreLevels levels.0) is levels.1).1) (subst (λ (es : List Entry). In w.0 es) is w.1) in
    let at = w.3 in
    omega (arith, top, low, at)

pub at_top : (clauses : List Clause) (trail : View) (first : Lits) (notes : Notes) (place : ℕ) (entry : Entry) → AreReady trail notes → Resolving clauses trail first notes place → place < length trail.entries → entry ≡ get_or trail.entries place entry → IsTop trail entry.lit
at_top clauses trail first notes place entry ready state l e =
    record { entry = entry; there = here_in trail.entries place entry l e; is = refl; at = here_at clauses trail first notes place entry ready state l e }

-- whether its variable is marked
at_mark : (clauses : List Clause) (trail : View) (first : Lits) (notes : Notes) (place : ℕ) (entry : Entry) (b : Bool) → AreReady trail notes → (state : Resolving clauses trail first notes place) → place < length trail.entries → entry ≡ get_or trail.entries place entry → marked_at notes.marks.items entry.lit.var ≡ b → state.set (negate entry.lit) ≡ b
at_mark clauses trail first notes place entry b ready state l e marked =
    sym (top_marked trail state.set notes entry.lit ready state.noted (at_top clauses trail first notes place entry ready state l e)) ∙ marked

-- a false literal that isn't the negation of the last one was false before
fails_before : (entry : Entry) (older : List Entry) (m : Lit) → holds (entry ∷ older) (negate m) ≡ true → (m ≡ negate entry.lit → ⊥) → holds older (negate m) ≡ true
fails_before entry older m h ne =
    ⊎_elim (λ (e : entry.lit ≡ negate m). absurd (ne (sym (negate_twice m) ∙ ap negate (sym e)))) (λ out. out.1) (last_or_older entry older (negate m) h)

older_false : (entry : Entry) (older : List Entry) (X : Lits) → X (negate entry.lit) ≡ false → AllFalse (entry ∷ older) X → AllFalse older X
older_false entry older X out all m c =
    fails_before entry older m (all m c) (λ e. false≢true (sym out ∙ ap X (sym e) ∙ c))

pub resolving_pass : (clauses : List Clause) (trail : View) (first : Lits) (notes : Notes) (place : ℕ) (entry : Entry) → AreReady trail notes → Resolving clauses trail first notes place → place < length trail.entries → entry ≡ get_or trail.entries place entry → marked_at notes.marks.items entry.lit.var ≡ false → Resolving clauses trail first notes (place + 1)
resolving_pass clauses trail first notes place entry ready state l e marked =
    let is = at_place trail.entries place entry l e in
    let older = drop (place + 1) trail.entries in
    let X = state.set in
    let out = at_mark clauses trail first notes place entry false ready state l e marked in
    record {
      set = X;
      noted = state.noted;
      older = older_false entry older X out (subst (λ (es : List Entry). AllFalse es X) is state.older);
      left = sym (ap (λ (b : Bool). (b && (entry.level == trail.level)) || has_more trail.level older X) out) ∙ ap (λ (es : List Entry). has_more trail.level es X) (sym is) ∙ state.left;
      same = sym (cond-false (X (negate entry.lit)) (by_reason (has_more trail.level older X) entry.reason (λ id. first_uip clauses trail.level older (resolvent X entry.lit (clause_at clauses id.place))) X) (first_uip clauses trail.level older X) out) ∙ ap (λ (es : List Entry). first_uip clauses trail.level es X) (sym is) ∙ state.same;
    }

-- how many are left behind a marked one
left_behind : (clauses : List Clause) (trail : View) (first : Lits) (notes : Notes) (place : ℕ) (entry : Entry) → AreReady trail notes → (state : Resolving clauses trail first notes place) → place < length trail.entries → entry ≡ get_or trail.entries place entry → marked_at notes.marks.items entry.lit.var ≡ true → notes.left ≡ suc (tally (picks (at_level trail.level) state.set) (drop (place + 1) trail.entries))
left_behind clauses trail first notes place entry ready state l e marked =
    let is = at_place trail.entries place entry l e in
    let older = drop (place + 1) trail.entries in
    let X = state.set in
    let top = here_at clauses trail first notes place entry ready state l e in
    let held = at_mark clauses trail first notes place entry true ready state l e marked in
    state.noted.counted ∙ tally_drop (at_level trail.level) X place trail.entries ready.ordered.apart state.older ∙ ap (tally (picks (at_level trail.level) X)) is ∙ cond-true (picks (at_level trail.level) X entry) (suc (tally (picks (at_level trail.level) X) older)) (tally (picks (at_level trail.level) X) older) (and_from (X (negate entry.lit)) (at_level trail.level entry.level) held (eq-eqb entry.level trail.level top))

more_left : (clauses : List Clause) (trail : View) (first : Lits) (notes : Notes) (place : ℕ) (entry : Entry) → AreReady trail notes → (state : Resolving clauses trail first notes place) → place < length trail.entries → entry ≡ get_or trail.entries place entry → marked_at notes.marks.items entry.lit.var ≡ true → (notes.left ≡ 1 → ⊥) → has_more trail.level (drop (place + 1) trail.entries) state.set ≡ true
more_left clauses trail first notes place entry ready state l e marked ne =
    ⊎_elim (λ t. t) (λ f. let n = left_behind clauses trail first notes place entry ready state l e marked in let z = no_tally trail.level (drop (place + 1) trail.entries) state.set f in absurd (ne (omega (arith, n, z)))) (cases_Bool (has_more trail.level (drop (place + 1) trail.entries) state.set))

-- where literals of the level are left, the entry was not decided
pub given_here : (clauses : List Clause) (trail : View) (first : Lits) (notes : Notes) (place : ℕ) (entry : Entry) → AreReady trail notes → Resolving clauses trail first notes place → place < length trail.entries → entry ≡ get_or trail.entries place entry → marked_at notes.marks.items entry.lit.var ≡ true → (notes.left ≡ 1 → ⊥) → entry.reason ≡ None → ⊥
given_here clauses trail first notes place entry ready state l e marked ne none =
    let is = at_place trail.entries place entry l e in
    let older = drop (place + 1) trail.entries in
    let here = here_at clauses trail first notes place entry ready state l e in
    let opened = (subst AreOpened is (drop_opened place trail.entries ready.ordered.opened)).0 none in
    let w = more_at trail.level older state.set (more_left clauses trail first notes place entry ready state l e marked ne) in
    let low = ltb-true w.0.level entry.level (In-list_all (λ (x : Entry). nat_lt x.level entry.level) w.0 older opened.1 w.1) in
    let at = w.3 in
    omega (arith, low, at, here)

-- the reason of the entry
pub reason_here : (clauses : List Clause) (trail : View) (place : ℕ) (entry : Entry) (id : ClauseId) → ReasonsHold clauses trail.entries → place < length trail.entries → entry ≡ get_or trail.entries place entry → entry.reason ≡ Some id → IsReason clauses (drop (place + 1) trail.entries) entry.lit id
reason_here clauses trail place entry id reasons l e is =
    subst (HasReason clauses (drop (place + 1) trail.entries) entry.lit) is (subst (ReasonsHold clauses) (at_place trail.entries place entry l e) (drop_reasons clauses place trail.entries reasons)).0

not_self : (b : Bool) → not b ≡ b → ⊥
not_self true e = false≢true e
not_self false e = false≢true (sym e)

-- no literal of the reason is the negation of the entry's
reason_apart : (older : List Entry) (lit : Lit) (reason : Clause) → spot_in older lit.var ≡ None → refutes (holds older) (others lit reason) ≡ true → In (negate lit) reason → ⊥
reason_apart older lit reason free rest i =
    let differs : same_lit (negate lit) lit ≡ false = ⊎_elim (λ (t : same_lit (negate lit) lit ≡ true). absurd (not_self lit.positive (ap (λ (l : Lit). l.positive) (same_lit-true (negate lit) lit t)))) (λ f. f) (cases_Bool (same_lit (negate lit) lit)) in
    let h = In-list_all (λ (l : Lit). holds older (negate l)) (negate lit) (others lit reason) rest (In-filter (λ (l : Lit). not (same_lit l lit)) (negate lit) reason i (not_from_false (same_lit (negate lit) lit) differs)) in
    false≢true (sym (none_holds older (negate (negate lit)) free) ∙ h)

pub others_here : (clauses : List Clause) (trail : View) (place : ℕ) (entry : Entry) (id : ClauseId) → Apart trail.entries → ReasonsHold clauses trail.entries → place < length trail.entries → entry ≡ get_or trail.entries place entry → entry.reason ≡ Some id → OthersFalse trail entry.lit (clause_at clauses id.place)
others_here clauses trail place entry id apart reasons l e is =
    let reason = reason_here clauses trail place entry id reasons l e is in
    let clause = clause_at clauses id.place in
    let free = (subst Apart (at_place trail.entries place entry l e) (drop_apart place trail.entries apart)).0 in
    (reason_apart (drop (place + 1) trail.entries) entry.lit clause free reason.2, list_all-from_In (λ (k : Lit). holds trail.entries (negate k)) (others entry.lit clause) (λ k i. older_holds (place + 1) trail.entries (negate k) apart (In-list_all (λ (l : Lit). holds (drop (place + 1) trail.entries) (negate l)) k (others entry.lit clause) reason.2 i)))

resolvent_false : (clauses : List Clause) (entry : Entry) (older : List Entry) (X : Lits) (id : ClauseId) → IsReason clauses older entry.lit id → AllFalse (entry ∷ older) X → AllFalse older (resolvent X entry.lit (clause_at clauses id.place))
resolvent_false clauses entry older X id reason all m h =
    let clause = clause_at clauses id.place in
    ⊎_elim (λ a. let p = and_parts (X m) (not (same_lit m (negate entry.lit))) a in fails_before entry older m (all m p.0) (λ e. false≢true (sym (not-true (same_lit m (negate entry.lit)) p.1) ∙ subst (λ (l : Lit). same_lit m l ≡ true) e (same_lit-self m)))) (λ b. let p = and_parts (has_lit m clause) (not (same_lit m entry.lit)) b in In-list_all (λ (l : Lit). holds older (negate l)) m (others entry.lit clause) reason.2 (In-filter (λ (l : Lit). not (same_lit l entry.lit)) m clause (from_has m clause p.0) p.1)) (or_cases (X m && not (same_lit m (negate entry.lit))) (has_lit m clause && not (same_lit m entry.lit)) h)

-- a literal of the level is kept by the resolvent
more_resolved : (level : ℕ) (older : List Entry) (X : Lits) (lit : Lit) (reason : Clause) → spot_in older lit.var ≡ None → has_more level older X ≡ true → has_more level older (resolvent X lit reason) ≡ true
more_resolved level older X lit reason free h =
    let w = more_at level older X h in
    let differs : same_lit (negate w.0.lit) (negate lit) ≡ false = ⊎_elim (λ (t : same_lit (negate w.0.lit) (negate lit) ≡ true). absurd (other_var older w.0 lit.var free w.1 (ap (λ (l : Lit). l.var) (same_lit-true (negate w.0.lit) (negate lit) t)))) (λ f. f) (cases_Bool (same_lit (negate w.0.lit) (negate lit))) in
    more_from level older (resolvent X lit reason) w.0 w.1 (or_left (X (negate w.0.lit) && not (same_lit (negate w.0.lit) (negate lit))) (has_lit (negate w.0.lit) reason && not (same_lit (negate w.0.lit) lit)) (and_from (X (negate w.0.lit)) (not (same_lit (negate w.0.lit) (negate lit))) w.2 (not_from_false (same_lit (negate w.0.lit) (negate lit)) differs))) w.3

pub resolving_go : (clauses : List Clause) (trail : View) (first : Lits) (notes after : Notes) (place : ℕ) (entry : Entry) (id : ClauseId) → AreReady trail notes → ReasonsHold clauses trail.entries → (state : Resolving clauses trail first notes place) → place < length trail.entries → entry ≡ get_or trail.entries place entry → marked_at notes.marks.items entry.lit.var ≡ true → (notes.left ≡ 1 → ⊥) → entry.reason ≡ Some id → IsNoted trail (resolvent state.set entry.lit (clause_at clauses id.place)) after → Resolving clauses trail first after (place + 1)
resolving_go clauses trail first notes after place entry id ready reasons state l e marked ne reason noted =
    let is = at_place trail.entries place entry l e in
    let older = drop (place + 1) trail.entries in
    let X = state.set in
    let held = at_mark clauses trail first notes place entry true ready state l e marked in
    let more = more_left clauses trail first notes place entry ready state l e marked ne in
    let free = (subst Apart is (drop_apart place trail.entries ready.ordered.apart)).0 in
    let go : ClauseId → Lits = λ k. first_uip clauses trail.level older (resolvent X entry.lit (clause_at clauses k.place)) in
    record {
      set = resolvent X entry.lit (clause_at clauses id.place);
      noted = noted;
      older = resolvent_false clauses entry older X id (reason_here clauses trail place entry id reasons l e reason) (subst (λ (es : List Entry). AllFalse es X) is state.older);
      left = more_resolved trail.level older X entry.lit (clause_at clauses id.place) free more;
      same = sym (ap (λ (es : List Entry). first_uip clauses trail.level es X) is ∙ cond-true (X (negate entry.lit)) (by_reason (has_more trail.level older X) entry.reason go X) (first_uip clauses trail.level older X) held ∙ (λ i. by_reason (more i) (reason i) go X)) ∙ state.same;
    }

stopped : (b : Bool) (reason : Option ClauseId) (go : ClauseId → Lits) (stop : Lits) → b ≡ false → by_reason b reason go stop ≡ stop
stopped true reason go stop e = absurd (false≢true (sym e))
stopped false reason go stop e = refl

pub resolving_stop : (clauses : List Clause) (trail : View) (first : Lits) (notes : Notes) (place : ℕ) (entry : Entry) → AreReady trail notes → (state : Resolving clauses trail first notes place) → place < length trail.entries → entry ≡ get_or trail.entries place entry → marked_at notes.marks.items entry.lit.var ≡ true → notes.left ≡ 1 → IsNoted trail (first_uip clauses trail.level trail.entries first) notes × IsUip trail (first_uip clauses trail.level trail.entries first) (negate entry.lit)
resolving_stop clauses trail first notes place entry ready state l e marked one =
    let is = at_place trail.entries place entry l e in
    let older = drop (place + 1) trail.entries in
    let X = state.set in
    let apart = ready.ordered.apart in
    let top = here_at clauses trail first notes place entry ready state l e in
    let held = at_mark clauses trail first notes place entry true ready state l e marked in
    let n = left_behind clauses trail first notes place entry ready state l e marked in
    let none = none_left trail.level older X (omega (arith, n, one)) in
    let go : ClauseId → Lits = λ k. first_uip clauses trail.level older (resolvent X entry.lit (clause_at clauses k.place)) in
    let same : X ≡ first_uip clauses trail.level trail.entries first = sym (ap (λ (es : List Entry). first_uip clauses trail.level es X) is ∙ cond-true (X (negate entry.lit)) (by_reason (has_more trail.level older X) entry.reason go X) (first_uip clauses trail.level older X) held ∙ stopped (has_more trail.level older X) entry.reason go X none) ∙ state.same in
    let uip : IsUip trail X (negate entry.lit) = record {
      held = held;
      level = level_at trail.entries entry apart (here_in trail.entries place entry l e) ∙ ap Some top;
      alone = λ m c at.
          let w = held_entry (entry ∷ older) (negate m) (subst (λ (es : List Entry). holds es (negate m) ≡ true) is (state.older m c)) in
          let back : negate w.0.lit ≡ m = ap negate w.2 ∙ negate_twice m in
          ⊎_elim (λ (here : entry ≡ w.0). sym back ∙ ap (λ (x : Entry). negate x.lit) (sym here)) (λ r.
          let i = In-drop w.0 (place + 1) trail.entries r in
          let level : w.0.level ≡ trail.level = ap level_or (sym (level_at trail.entries w.0 apart i) ∙ ap (λ (v : ℕ). level_in trail.entries v) (ap (λ (k : Lit). k.var) w.2) ∙ at) in
          absurd (false≢true (sym none ∙ more_from trail.level older X w.0 r (ap X back ∙ c) level))) w.1;
    } in
    (subst (λ (Y : Lits). IsNoted trail Y notes) same state.noted, subst (λ (Y : Lits). IsUip trail Y (negate entry.lit)) same uip)

pub resolving_end : (clauses : List Clause) (trail : View) (first : Lits) (notes : Notes) (place : ℕ) → Resolving clauses trail first notes place → length trail.entries ≤ place → ⊥
resolving_end clauses trail first notes place state l =
    false≢true (ap (λ (es : List Entry). has_more trail.level es state.set) (sym (drop_all place trail.entries l)) ∙ state.left)

pub here_level : (clauses : List Clause) (trail : View) (first : Lits) (notes : Notes) (place : ℕ) (entry : Entry) → AreReady trail notes → Resolving clauses trail first notes place → place < length trail.entries → entry ≡ get_or trail.entries place entry → level_in trail.entries entry.lit.var ≡ Some trail.level
here_level clauses trail first notes place entry ready state l e =
    level_at trail.entries entry ready.ordered.apart (here_in trail.entries place entry l e) ∙ ap Some (here_at clauses trail first notes place entry ready state l e)

pub here_holds : (trail : View) (place : ℕ) (entry : Entry) → Apart trail.entries → place < length trail.entries → entry ≡ get_or trail.entries place entry → holds trail.entries entry.lit ≡ true
here_holds trail place entry apart l e = entry_holds trail.entries entry apart (here_in trail.entries place entry l e)

pub here_range : (trail : View) (notes : Notes) (place : ℕ) (entry : Entry) → AreReady trail notes → place < length trail.entries → entry ≡ get_or trail.entries place entry → entry.lit.var < length notes.marks.items
here_range trail notes place entry ready l e =
    let v = var_within trail.vars trail.entries entry ready.ordered.within (here_in trail.entries place entry l e) in
    let m = ready.marks in
    omega (arith, v, m)

-- what the loop keeps
pub record Walking (clauses : List Clause) (trail : View) (old notes : Notes) (place : ℕ) : Type 0 where
  pub ready : AreReady trail notes
  pub size : length notes.marks.items ≡ length old.marks.items
  pub capacity : old.lits.capacity ≤ notes.lits.capacity
  pub state : (set : Lits) → IsNoted trail set old → HasLeft trail set → Resolving clauses trail set notes place
