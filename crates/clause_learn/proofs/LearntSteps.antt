-- What the learnt clause is, from the notes at the end of resolution.
use Rattle.std.proofs.Common.{◌≡◌, ℕ, zero, suc, ◌+◌, ◌<◌, ◌≤◌, Bool, true, false, cond, not, ◌&&◌, ◌||◌, List, [], ◌∷◌, length, set, refl, sym, ap, subst, inl, inr, ◌∙◌, ⊎_elim, arith}
use Rattle.std.specs.Prelude.{Option, Some, None, ◌==◌, ◌⊎◌, nat_lt}
use Rattle.std.proofs.lemmas.List.{length-set}
use Rattle.std.proofs.lemmas.Bool.{and_parts, and_from, or_cases, or_left, or_right, eq-eqb, eqb-true, lt-ltb, ltb-true, cases_Bool, cases_order, cond-true, cond-false, false≢true, not_from_false, ne_eqb}
use Rattle.tel_base.specs.declared.literals.Lit.{Lit}
use Rattle.tel_base.specs.Literals.{negate}
use Rattle.clause_store.specs.declared.store.ClauseId.{ClauseId}
use Rattle.clause_store.specs.Held.{clause_at, lacks, are_distinct}
use Rattle.clause_store.specs.Closure.{In, Clause, Lits, same_lit, negations, others, refutes, keeps_unit, keeps_units, Up}
use Rattle.clause_store.specs.Counts.{has_lit}
use Rattle.tel_base.proofs.Members.{In-list_all, list_all-from_In, In-map, In-filter_from}
use Rattle.clause_store.proofs.Closures.{same_lit-true}
use Rattle.clause_store.proofs.Levels.{In-clause_at}
use Rattle.lit_trail.specs.declared.assignment.Entry.{Entry}
use Rattle.lit_trail.specs.Entries.{View, level_in, back, Apart}
use Rattle.lit_trail.specs.Levels.{AreLevels, AreOpened}
use Rattle.lit_trail.specs.Sound.{holds, IsReason, HasReason, ReasonsHold}
use Rattle.lit_trail.proofs.LevelSteps.{back_levels}
use Rattle.lit_trail.proofs.Ordered.{of_back}
use Rattle.lit_trail.proofs.Derived.{trail_up}
use Rattle.clause_learn.specs.declared.notes.Notes.{Notes}
use Rattle.clause_learn.specs.Room.{marked_at, AreClear}
use Rattle.clause_learn.specs.FirstUip.{set_of, resolvent, has_more, by_reason, first_uip, is_above}
use Rattle.clause_learn.specs.LearntClause.{is_between, is_lower, level_or, highest, IsAsserting, IsLearnt}
use Rattle.clause_learn.specs.Noted.{picks, above, at_level, under, tally, seen, joined, IsNoted, AreReady, IsUip, unmarked}
use Rattle.clause_learn.proofs.Tallies.{level_at, level_most, negate_twice}
use Rattle.clause_learn.proofs.NoteSteps.{Falsified, falsified, level_of_lit, var_range}
use Rattle.clause_learn.proofs.Resolutions.{has_from, from_has, joined_lit, joined_cases, bool_ext}
use Rattle.clause_learn.proofs.Backing.{level_stays, level_gone, lower_level, highest_most, highest_below}

-- ---- the notes at the start

abbrev pub no_lits : Lits
no_lits lit = false

tally_empty : (test : ℕ → Bool) (entries : List Entry) → 0 ≡ tally (picks test no_lits) entries
tally_empty test [] = refl
tally_empty test (x ∷ older) = tally_empty test older

seen_empty : (entries : List Entry) (v : ℕ) → false ≡ seen (picks above no_lits) entries v
seen_empty [] v = refl
seen_empty (x ∷ older) v =
    (elim (x.lit.var == v) as (λ (b : Bool). false ≡ cond b false (seen (picks above no_lits) older v)) [
      | true ↦ refl
      | false ↦ seen_empty older v
    ])

pub noted_empty : (trail : View) (notes : Notes) → AreClear notes.marks.items → notes.lits.items ≡ [] → notes.left ≡ 0 → IsNoted trail no_lits notes
noted_empty trail notes clear none left = record {
  within = λ m h. absurd (false≢true h);
  marked = λ v. clear v ∙ seen_empty trail.entries v;
  counted = left ∙ tally_empty (at_level trail.level) trail.entries;
  few = ap length none ∙ tally_empty (under trail.level) trail.entries;
  listed = λ m i. absurd (subst (λ (xs : List Lit). In m xs) none i);
  whole = λ m h low. absurd (false≢true h);
  apart = subst (λ (xs : List Lit). are_distinct trail.vars xs ≡ true) (sym none) refl;
}

pub set_joined : (entries : List Entry) (clause : Clause) → refutes (holds entries) clause ≡ true → joined entries no_lits clause ≡ set_of clause
set_joined entries clause all = λ i k. (bool_ext (joined entries no_lits clause k) (has_lit k clause) (λ h. ⊎_elim (λ none. absurd (false≢true none)) (λ (r : In k clause × (holds entries (negate k) ≡ true)). has_from k clause r.0) (joined_cases entries no_lits clause k h)) (λ h. let j = from_has k clause h in joined_lit entries no_lits clause k j (In-list_all (λ (l : Lit). holds entries (negate l)) k clause all j))) i

-- ---- room for the first literal

tally_two : (p q : Entry → Bool) (entries : List Entry) → ((x : Entry) → p x ≡ true → q x ≡ true → ⊥) → tally p entries + tally q entries ≤ length entries
tally_two p q [] apart = omega arith
tally_two p q (x ∷ older) apart =
    let rest = tally_two p q older apart in
    (elim (p x) as (λ (b : Bool). p x ≡ b → cond b (suc (tally p older)) (tally p older) + cond (q x) (suc (tally q older)) (tally q older) ≤ suc (length older)) [
      | true ↦ λ t. let f : q x ≡ false = ⊎_elim (λ (u : q x ≡ true). absurd (apart x t u)) (λ f. f) (cases_Bool (q x)) in let n = cond-false (q x) (suc (tally q older)) (tally q older) f in omega (arith, rest, n)
      | false ↦ λ _. (elim (q x) as (λ (c : Bool). tally p older + cond c (suc (tally q older)) (tally q older) ≤ suc (length older)) [
        | true ↦ omega (arith, rest)
        | false ↦ omega (arith, rest)
      ])
    ]) refl

tally_some : (p : Entry → Bool) (entries : List Entry) (entry : Entry) → In entry entries → p entry ≡ true → 0 < tally p entries
tally_some p [] entry i t = absurd i
tally_some p (x ∷ older) entry i t =
    ⊎_elim (λ (e : x ≡ entry). let n = cond-true (p x) (suc (tally p older)) (tally p older) (ap p e ∙ t) in omega (arith, n)) (λ r. let m = tally_some p older entry r t in (elim (p x) as (λ (b : Bool). 0 < cond b (suc (tally p older)) (tally p older)) [
      | true ↦ omega arith
      | false ↦ m
    ])) i

-- the entry of the literal of the trail's level
uip_entry : (trail : View) (X : Lits) (notes : Notes) (lit : Lit) → Apart trail.entries → IsNoted trail X notes → (uip : IsUip trail X lit) → (by : Falsified trail.entries lit) × (by.entry.level ≡ trail.level)
uip_entry trail X notes lit apart is uip =
    let by = falsified trail.entries lit (is.within lit uip.held) in
    (by, ap level_or (sym (level_of_lit trail.entries lit by apart) ∙ uip.level))

pub first_room : (trail : View) (X : Lits) (notes : Notes) (lit : Lit) → AreReady trail notes → IsNoted trail X notes → IsUip trail X lit → length notes.lits.items < trail.vars
first_room trail X notes lit ready is uip =
    let w = uip_entry trail X notes lit ready.ordered.apart is uip in
    let held : X (negate w.0.entry.lit) ≡ true = ap X (ap negate w.0.is ∙ negate_twice lit) ∙ uip.held in
    let one = tally_some (picks (at_level trail.level) X) trail.entries w.0.entry w.0.there (and_from (X (negate w.0.entry.lit)) (at_level trail.level w.0.entry.level) held (eq-eqb w.0.entry.level trail.level w.1)) in
    let two = tally_two (picks (under trail.level) X) (picks (at_level trail.level) X) trail.entries (λ x a b.
    let low = ltb-true x.level trail.level (and_parts (nat_lt 0 x.level) (nat_lt x.level trail.level) (and_parts (X (negate x.lit)) (under trail.level x.level) a).1).1 in
    let top = eqb-true x.level trail.level (and_parts (X (negate x.lit)) (at_level trail.level x.level) b).1 in
    absurd (omega (arith, low, top))) in
    let few = is.few in
    let count = ready.few in
    omega (arith, one, two, few, count)

-- ---- the marks are cleared

pub length_unmarked : (lits : List Lit) (marks : List Bool) → length (unmarked lits marks) ≡ length marks
length_unmarked [] marks = refl
length_unmarked (lit ∷ more) marks = length_unmarked more (set marks lit.var false) ∙ length-set marks lit.var false

set_false : (marks : List Bool) (v w : ℕ) → marked_at (set marks v false) w ≡ true → (marked_at marks w ≡ true) × (w ≡ v → ⊥)
set_false [] v w h = absurd (false≢true h)
set_false (b ∷ marks) zero zero h = absurd (false≢true h)
set_false (b ∷ marks) zero (suc w) h = (h, λ e. absurd (omega (arith, e)))
set_false (b ∷ marks) (suc v) zero h = (h, λ e. absurd (omega (arith, e)))
set_false (b ∷ marks) (suc v) (suc w) h = let rest = set_false marks v w h in (rest.0, λ e. rest.1 (omega (arith, e)))

still_marked : (lits : List Lit) (marks : List Bool) (v : ℕ) → marked_at (unmarked lits marks) v ≡ true → (marked_at marks v ≡ true) × ((lit : Lit) → In lit lits → v ≡ lit.var → ⊥)
still_marked [] marks v h = (h, λ lit i. absurd i)
still_marked (x ∷ more) marks v h =
    let rest = still_marked more (set marks x.var false) v h in
    let first = set_false marks x.var v rest.0 in
    (first.0, λ lit i e. ⊎_elim (λ (s : x ≡ lit). first.1 (e ∙ ap (λ (l : Lit). l.var) (sym s))) (λ r. rest.1 lit r e) i)

-- each marked variable is that of the first literal or of a listed one
seen_from : (test : ℕ → Bool) (X : Lits) (entries : List Entry) (v : ℕ) → seen (picks test X) entries v ≡ true → (x : Entry) × In x entries × (x.lit.var ≡ v) × (picks test X x ≡ true)
seen_from test X [] v h = absurd (false≢true h)
seen_from test X (x ∷ older) v h =
    ⊎_elim (λ (e : (x.lit.var == v) ≡ true). (x, inl refl, eqb-true x.lit.var v e, sym (cond-true (x.lit.var == v) (picks test X x) (seen (picks test X) older v) e) ∙ h)) (λ (f : (x.lit.var == v) ≡ false). let w = seen_from test X older v (sym (cond-false (x.lit.var == v) (picks test X x) (seen (picks test X) older v) f) ∙ h) in (w.0, inr w.1, w.2, w.3)) (cases_Bool (x.lit.var == v))

lower_or_top : (trail : View) (level : ℕ) → level ≤ trail.level → 0 < level → (level ≡ trail.level) ⊎ (under trail.level level ≡ true)
lower_or_top trail level most some =
    ⊎_elim (λ e. inl e) (λ ne. ⊎_elim (λ (l : level < trail.level). inr (and_from (nat_lt 0 level) (nat_lt level trail.level) (lt-ltb 0 level some) (lt-ltb level trail.level l))) (λ (l : trail.level < level). absurd (omega (arith, l, most))) ne) (cases_order level trail.level)

pub cleared : (trail : View) (X : Lits) (notes : Notes) (lit : Lit) → AreReady trail notes → IsNoted trail X notes → IsUip trail X lit → AreClear (unmarked (lit ∷ notes.lits.items) notes.marks.items)
cleared trail X notes lit ready is uip v =
    ⊎_elim (λ (t : marked_at (unmarked (lit ∷ notes.lits.items) notes.marks.items) v ≡ true).
    let left = still_marked (lit ∷ notes.lits.items) notes.marks.items v t in
    let w = seen_from above X trail.entries v (sym (is.marked v) ∙ left.0) in
    let p = and_parts (X (negate w.0.lit)) (above w.0.level) w.3 in
    let m : Lit = negate w.0.lit in
    let at : level_in trail.entries m.var ≡ Some w.0.level = level_at trail.entries w.0 ready.ordered.apart w.1 in
    absurd (⊎_elim (λ (e : w.0.level ≡ trail.level). left.1 lit (inl refl) (sym w.2 ∙ ap (λ (l : Lit). l.var) (uip.alone m p.0 (at ∙ ap Some e)))) (λ low. left.1 m (inr (is.whole m p.0 (ap (is_between trail.level) at ∙ low))) (sym w.2)) (lower_or_top trail w.0.level (level_most trail.level trail.entries w.0 ready.levels w.1) (ltb-true 0 w.0.level p.1)))) (λ f. f) (cases_Bool (marked_at (unmarked (lit ∷ notes.lits.items) notes.marks.items) v))

-- ---- the clause follows

-- what keeps the unit rule has the literal of a reason whose other literals it negates
reason_gives : (clauses : List Clause) (Y : Lits) (older : List Entry) (lit : Lit) (id : ClauseId) → keeps_units clauses Y ≡ true → IsReason clauses older lit id → refutes Y (others lit (clause_at clauses id.place)) ≡ true → Y lit ≡ true
reason_gives clauses Y older lit id keep reason all =
    let clause = clause_at clauses id.place in
    let unit = In-list_all (λ (l : Lit). Y l || not (refutes Y (others l clause))) lit clause (In-list_all (keeps_unit Y) clause clauses keep (In-clause_at clauses id.place reason.0)) reason.1 in
    ⊎_elim (λ t. t) (λ (u : not (refutes Y (others lit clause)) ≡ true). absurd (false≢true (sym (ap not all) ∙ u))) (or_cases (Y lit) (not (refutes Y (others lit clause))) unit)

-- Y negates each literal of the set
abbrev pub Negates : Lits → Lits → Type 0
Negates Y X = (m : Lit) → X m ≡ true → Y (negate m) ≡ true

resolvent_up : (clauses : List Clause) (older : List Entry) (X : Lits) (lit : Lit) (id : ClauseId) → IsReason clauses older lit id → (Y : Lits) → keeps_units clauses Y ≡ true → Negates Y (resolvent X lit (clause_at clauses id.place)) → Negates Y X
resolvent_up clauses older X lit id reason Y keep up m c =
    let clause = clause_at clauses id.place in
    ⊎_elim (λ (e : same_lit m (negate lit) ≡ true).
    let same : lit ≡ negate m = sym (negate_twice lit) ∙ ap negate (sym (same_lit-true m (negate lit) e)) in
    subst (λ (l : Lit). Y l ≡ true) same (reason_gives clauses Y older lit id keep reason (list_all-from_In (λ (l : Lit). Y (negate l)) (others lit clause) (λ k i.
    let w = In-filter_from (λ (l : Lit). not (same_lit l lit)) k clause i in
    up k (or_right (X k && not (same_lit k (negate lit))) (has_lit k clause && not (same_lit k lit)) (and_from (has_lit k clause) (not (same_lit k lit)) (has_from k clause w.0) w.1)))))) (λ (f : same_lit m (negate lit) ≡ false). up m (or_left (X m && not (same_lit m (negate lit))) (has_lit m clause && not (same_lit m lit)) (and_from (X m) (not (same_lit m (negate lit))) c (not_from_false (same_lit m (negate lit)) f)))) (cases_Bool (same_lit m (negate lit)))

-- what negates the first-UIP clause negates the clause that it began with
pub uip_up : (clauses : List Clause) (level : ℕ) (entries : List Entry) (X : Lits) → ReasonsHold clauses entries → (Y : Lits) → keeps_units clauses Y ≡ true → Negates Y (first_uip clauses level entries X) → Negates Y X
uip_up clauses level [] X reasons Y keep up = up
uip_up clauses level (entry ∷ older) X reasons Y keep up =
    let next : ClauseId → Lits = λ id. first_uip clauses level older (resolvent X entry.lit (clause_at clauses id.place)) in
    (elim (X (negate entry.lit)) as (λ (b : Bool). Negates Y (cond b (by_reason (has_more level older X) entry.reason next X) (first_uip clauses level older X)) → Negates Y X) [
      | false ↦ λ u. uip_up clauses level older X reasons.1 Y keep u
      | true ↦ λ u. (elim (has_more level older X) as (λ (more : Bool). Negates Y (by_reason more entry.reason next X) → Negates Y X) [
        | false ↦ λ v. v
        | true ↦ λ v. (elim (entry.reason) as (λ (o : Option ClauseId). HasReason clauses older entry.lit o → Negates Y (by_reason true o next X) → Negates Y X) [
          | None ↦ λ a w. w
          | Some id ↦ λ a w. resolvent_up clauses older X entry.lit id a Y keep (uip_up clauses level older (resolvent X entry.lit (clause_at clauses id.place)) reasons.1 Y keep w)
        ]) reasons.0 v
      ]) u
    ]) up

opened_above : (entries : List Entry) (entry : Entry) → AreOpened entries → In entry entries → entry.reason ≡ None → 0 < entry.level
opened_above [] entry opened i none = absurd i
opened_above (x ∷ older) entry opened i none =
    ⊎_elim (λ (e : x ≡ entry). subst (λ (y : Entry). 0 < y.level) e (opened.0 (ap (λ (y : Entry). y.reason) e ∙ none)).0) (λ r. opened_above older entry opened.1 r none) i

-- what holds at level 0 is in each closure
ground_up : (clauses : List Clause) (start : List Lit) (trail : View) (lit : Lit) → AreLevels trail.level trail.entries → AreOpened trail.entries → ReasonsHold clauses trail.entries → holds trail.entries lit ≡ true → level_in trail.entries lit.var ≡ Some 0 → Up clauses start lit
ground_up clauses start trail lit levels opened reasons h at =
    let ground = back 0 trail.entries in
    let low : AreLevels 0 ground = back_levels trail.entries trail.level 0 levels in
    let first : AreOpened ground = of_back AreOpened 0 trail.entries (λ entry older o. o.1) opened in
    let hold : ReasonsHold clauses ground = of_back (ReasonsHold clauses) 0 trail.entries (λ entry older r. r.1) reasons in
    trail_up clauses start ground hold (λ entry i none. let above = opened_above ground entry first i none in let most = level_most 0 ground entry low i in absurd (omega (arith, above, most))) lit (level_stays 0 0 trail.entries lit h at (omega arith))

-- ---- all of it

member_first : (trail : View) (X : Lits) (notes : Notes) (lit m : Lit) → IsNoted trail X notes → IsUip trail X lit → In m (lit ∷ notes.lits.items) → (X m ≡ true) × ((m ≡ lit) ⊎ (is_lower trail.level trail.entries m ≡ true))
member_first trail X notes lit m is uip i =
    ⊎_elim (λ (e : lit ≡ m). (subst (λ (l : Lit). X l ≡ true) e uip.held, inl (sym e))) (λ r. let old = is.listed m r in (old.0, inr old.1)) i

above_lower : (level : ℕ) (o : Option ℕ) → is_between level o ≡ true → is_above o ≡ true
above_lower level None h = absurd (false≢true h)
above_lower level (Some other) h = (and_parts (nat_lt 0 other) (nat_lt other level) h).0

first_above : (trail : View) (X : Lits) (notes : Notes) (lit m : Lit) → AreReady trail notes → IsNoted trail X notes → IsUip trail X lit → In m (lit ∷ notes.lits.items) → (X m && is_above (level_in trail.entries m.var)) ≡ true
first_above trail X notes lit m ready is uip i =
    let opened = ready.opened in
    let w = member_first trail X notes lit m is uip i in
    and_from (X m) (is_above (level_in trail.entries m.var)) w.0 (⊎_elim (λ (e : m ≡ lit). ap is_above (ap (λ (l : Lit). level_in trail.entries l.var) e ∙ uip.level) ∙ lt-ltb 0 trail.level opened) (λ low. above_lower trail.level (level_in trail.entries m.var) low) w.1)

first_member : (trail : View) (X : Lits) (notes : Notes) (lit m : Lit) → AreReady trail notes → IsNoted trail X notes → IsUip trail X lit → (X m && is_above (level_in trail.entries m.var)) ≡ true → In m (lit ∷ notes.lits.items)
first_member trail X notes lit m ready is uip h =
    let p = and_parts (X m) (is_above (level_in trail.entries m.var)) h in
    let by = falsified trail.entries m (is.within m p.0) in
    let at = level_of_lit trail.entries m by ready.ordered.apart in
    let some = ltb-true 0 by.entry.level (sym (ap is_above at) ∙ p.1) in
    ⊎_elim (λ (e : by.entry.level ≡ trail.level). inl (sym (uip.alone m p.0 (at ∙ ap Some e)))) (λ low. inr (is.whole m p.0 (ap (is_between trail.level) at ∙ low))) (lower_or_top trail by.entry.level (level_most trail.level trail.entries by.entry ready.levels by.there) some)

first_apart : (trail : View) (X : Lits) (notes : Notes) (lit : Lit) → IsNoted trail X notes → IsUip trail X lit → lacks lit.var notes.lits.items ≡ true
first_apart trail X notes lit is uip =
    list_all-from_In (λ (k : Lit). not (k.var == lit.var)) notes.lits.items (λ k i. not_from_false (k.var == lit.var) (ne_eqb k.var lit.var (λ e.
    let w = lower_level trail.level trail.entries k (is.listed k i).1 in
    let same = ap level_or (sym w.1 ∙ ap (level_in trail.entries) e ∙ uip.level) in
    let less = w.3 in
    absurd (omega (arith, same, less)))))

no_level : (level : ℕ) → nat_lt 0 level ≡ false → level ≡ 0
no_level level f = ⊎_elim (λ e. e) (λ ne. ⊎_elim (λ (l : level < 0). absurd (omega (arith, l))) (λ (l : 0 < level). absurd (false≢true (sym f ∙ lt-ltb 0 level l))) ne) (cases_order level 0)

pub is_learnt : (clauses : List Clause) (trail : View) (notes : Notes) (lit : Lit) (id : ClauseId) → id.place < length clauses → AreReady trail notes → ReasonsHold clauses trail.entries → IsNoted trail (first_uip clauses trail.level trail.entries (set_of (clause_at clauses id.place))) notes → IsUip trail (first_uip clauses trail.level trail.entries (set_of (clause_at clauses id.place))) lit → IsLearnt clauses trail (clause_at clauses id.place) (lit ∷ notes.lits.items)
is_learnt clauses trail notes lit id held ready reasons is uip =
    let clause = clause_at clauses id.place in
    let X = first_uip clauses trail.level trail.entries (set_of clause) in
    let lits : List Lit = lit ∷ notes.lits.items in
    let by = falsified trail.entries lit (is.within lit uip.held) in
    record {
      exact = λ m. (first_above trail X notes lit m ready is uip, first_member trail X notes lit m ready is uip);
      distinct = and_from (nat_lt 0 (length lits)) (are_distinct trail.vars lits) (lt-ltb 0 (length lits) (omega arith)) (and_from (nat_lt lit.var trail.vars) (lacks lit.var notes.lits.items && are_distinct trail.vars notes.lits.items) (lt-ltb lit.var trail.vars (var_range trail notes lit ready by)) (and_from (lacks lit.var notes.lits.items) (are_distinct trail.vars notes.lits.items) (first_apart trail X notes lit is uip) is.apart));
      first = (uip.level, list_all-from_In (is_lower trail.level trail.entries) notes.lits.items (λ k i. (is.listed k i).1));
      refuted = list_all-from_In (λ (l : Lit). holds trail.entries (negate l)) lits (λ k i. is.within k (member_first trail X notes lit k is uip i).0);
      follows = inr (
        clause,
        In-clause_at clauses id.place held,
        λ m i Y start keep. uip_up clauses trail.level trail.entries (set_of clause) reasons Y keep (λ k u.
            ⊎_elim (λ (t : is_above (level_in trail.entries k.var) ≡ true). In-list_all Y (negate k) (negations lits) start (In-map negate k lits (first_member trail X notes lit k ready is uip (and_from (X k) (is_above (level_in trail.entries k.var)) u t)))) (λ (f : is_above (level_in trail.entries k.var) ≡ false).
            let false_there = is.within k u in
            let by_k = falsified trail.entries k false_there in
            let at = level_of_lit trail.entries k by_k ready.ordered.apart in
            ground_up clauses (negations lits) trail (negate k) ready.levels ready.ordered.opened reasons false_there (at ∙ ap Some (no_level by_k.entry.level (sym (ap is_above at) ∙ f))) Y start keep) (cases_Bool (is_above (level_in trail.entries k.var)))) m (has_from m clause i),
      );
    }

pub lower_back : (trail : View) (X : Lits) (notes : Notes) → AreReady trail notes → IsNoted trail X notes → highest trail.entries notes.lits.items < trail.level
lower_back trail X notes ready is =
    highest_below trail.level trail.entries notes.lits.items ready.opened (list_all-from_In (is_lower trail.level trail.entries) notes.lits.items (λ k i. (is.listed k i).1))

pub is_asserting : (trail : View) (X : Lits) (notes : Notes) (lit : Lit) (level : ℕ) → AreReady trail notes → IsNoted trail X notes → IsUip trail X lit → level ≡ highest trail.entries notes.lits.items → IsAsserting (back level trail.entries) (lit ∷ notes.lits.items)
is_asserting trail X notes lit level ready is uip e =
    let low = lower_back trail X notes ready is in (
      level_gone level trail.level trail.level trail.entries lit.var ready.ordered.apart ready.levels uip.level (omega (arith, low, e)),
      list_all-from_In (λ (k : Lit). holds (back level trail.entries) (negate k)) notes.lits.items (λ k i.
          let old = is.listed k i in
          let w = lower_level trail.level trail.entries k old.1 in
          let most = highest_most trail.entries notes.lits.items k w.0 i w.1 in
          level_stays level w.0 trail.entries (negate k) (is.within k old.0) w.1 (omega (arith, most, e))),
    )

pub first_range : (trail : View) (X : Lits) (notes : Notes) (lit m : Lit) → AreReady trail notes → IsNoted trail X notes → IsUip trail X lit → In m (lit ∷ notes.lits.items) → m.var < trail.vars
first_range trail X notes lit m ready is uip i = var_range trail notes m ready (falsified trail.entries m (is.within m (member_first trail X notes lit m is uip i).0))
