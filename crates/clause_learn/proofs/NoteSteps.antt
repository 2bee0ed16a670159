-- The notes stand for the set as literals come and go.
use Rattle.std.proofs.Common.{◌≡◌, ℕ, zero, suc, ◌+◌, ◌<◌, ◌≤◌, Bool, true, false, not, ◌&&◌, ◌||◌, List, [], ◌∷◌, ◌++◌, length, get_or, set, refl, sym, ap, subst, inl, inr, ◌∙◌, ⊎_elim, arith, get_or-set_other, get_or-set_same}
use Rattle.std.specs.Prelude.{Some, ◌==◌, ◌⊎◌, nat_lt}
use Rattle.std.proofs.lemmas.List.{length-append, get_or_default}
use Rattle.std.proofs.lemmas.Bool.{and_parts, and_from, or_cases, or_left, or_right, eq-eqb, ne_eqb, eqb-true, lt-ltb, ltb-true, cases_Bool, cases_eq, cases_order, false≢true, not_from_false, not-true}
use Rattle.tel_base.specs.declared.literals.Lit.{Lit}
use Rattle.tel_base.specs.Literals.{negate}
use Rattle.clause_store.specs.Held.{lacks, are_distinct}
use Rattle.clause_store.specs.Closure.{In, Lits, same_lit}
use Rattle.tel_base.proofs.Members.{In-append_left, In-append_right, In-append_cases, list_all-from_In}
use Rattle.clause_store.proofs.Closures.{same_lit-true, same_lit-self}
use Rattle.lit_trail.specs.declared.assignment.Entry.{Entry}
use Rattle.lit_trail.specs.Entries.{View, level_in, Apart}
use Rattle.lit_trail.specs.Sound.{holds}
use Rattle.lit_trail.proofs.Values.{held_entry}
use Rattle.clause_learn.specs.declared.notes.Notes.{Notes}
use Rattle.clause_learn.specs.Room.{marked_at}
use Rattle.clause_learn.specs.LearntClause.{is_between, is_lower, level_or}
use Rattle.clause_learn.specs.Noted.{picks, above, at_level, under, tally, seen, added, IsNoted, AreReady, FalseOrMarked, MarksStay}
use Rattle.clause_learn.proofs.Tallies.{AgreeOff, one_if, tally_at, tally_most, seen_off, seen_at, level_at, level_most, var_within, negate_twice}

and_false : (a b : Bool) → b ≡ false → (a && b) ≡ false
and_false true b h = h
and_false false b h = refl

false_and : (a b : Bool) → a ≡ false → (a && b) ≡ false
false_and a b h = ap (λ (x : Bool). x && b) h

or_false : (a b : Bool) → b ≡ false → (a || b) ≡ a
or_false true b h = refl
or_false false b h = h

pub past_at : (marks : List Bool) (v : ℕ) → marked_at marks v ≡ true → v < length marks
past_at [] v h = absurd (false≢true h)
past_at (b ∷ more) zero h = omega arith
past_at (b ∷ more) (suc v) h = let rest = past_at more v h in omega (arith, rest)

-- the entry that makes a literal false
pub record Falsified (entries : List Entry) (lit : Lit) : Type 0 where
  pub entry : Entry
  pub there : In entry entries
  pub is : entry.lit ≡ negate lit

pub falsified : (entries : List Entry) (lit : Lit) → holds entries (negate lit) ≡ true → Falsified entries lit
falsified entries lit h = let w = held_entry entries (negate lit) h in record { entry = w.0; there = w.1; is = w.2 }

back_to_lit : (entries : List Entry) (lit : Lit) (by : Falsified entries lit) → negate by.entry.lit ≡ lit
back_to_lit entries lit by = ap negate by.is ∙ negate_twice lit

pub var_of : (entries : List Entry) (lit : Lit) (by : Falsified entries lit) → by.entry.lit.var ≡ lit.var
var_of entries lit by = ap (λ (l : Lit). l.var) by.is

pub level_of_lit : (entries : List Entry) (lit : Lit) (by : Falsified entries lit) → Apart entries → level_in entries lit.var ≡ Some by.entry.level
level_of_lit entries lit by apart = ap (level_in entries) (sym (var_of entries lit by)) ∙ level_at entries by.entry apart by.there

-- ---- a literal whose variable is marked changes nothing

added_same : (entries : List Entry) (X : Lits) (lit : Lit) → Apart entries → seen (picks above X) entries lit.var ≡ true → (k : Lit) → added entries X lit k ≡ X k
added_same entries X lit apart marked k =
    ⊎_elim (λ (t : (holds entries (negate lit) && same_lit lit k) ≡ true).
    let p = and_parts (holds entries (negate lit)) (same_lit lit k) t in
    let by = falsified entries lit p.0 in
    let pick : picks above X by.entry ≡ true = sym (seen_at (picks above X) by.entry entries apart by.there) ∙ ap (seen (picks above X) entries) (var_of entries lit by) ∙ marked in
    let held : X k ≡ true = ap X (sym (back_to_lit entries lit by ∙ same_lit-true lit k p.1)) ∙ (and_parts (X (negate by.entry.lit)) (above by.entry.level) pick).0 in
    or_left (X k) (holds entries (negate lit) && same_lit lit k) held ∙ sym held) (λ f. or_false (X k) (holds entries (negate lit) && same_lit lit k) f) (cases_Bool (holds entries (negate lit) && same_lit lit k))

pub note_marked : (trail : View) (X : Lits) (notes : Notes) (lit : Lit) → Apart trail.entries → marked_at notes.marks.items lit.var ≡ true → IsNoted trail X notes → IsNoted trail (added trail.entries X lit) notes
note_marked trail X notes lit apart marked is =
    let same = added_same trail.entries X lit apart (sym (is.marked lit.var) ∙ marked) in
    subst (λ (Y : Lits). IsNoted trail Y notes) (λ i k. sym (same k) i) is

-- ---- a false literal whose variable isn't marked

agree_added : (entries : List Entry) (X : Lits) (lit : Lit) (v : ℕ) → lit.var ≡ v → AgreeOff v X (added entries X lit)
agree_added entries X lit v e k ne =
    or_false (X k) (holds entries (negate lit) && same_lit lit k) (and_false (holds entries (negate lit)) (same_lit lit k) (⊎_elim (λ (t : same_lit lit k ≡ true). absurd (ne (ap (λ (l : Lit). l.var) (sym (same_lit-true lit k t)) ∙ e))) (λ f. f) (cases_Bool (same_lit lit k))))

pub added_here : (entries : List Entry) (X : Lits) (lit : Lit) → holds entries (negate lit) ≡ true → added entries X lit lit ≡ true
added_here entries X lit h = or_right (X lit) (holds entries (negate lit) && same_lit lit lit) (and_from (holds entries (negate lit)) (same_lit lit lit) h (same_lit-self lit))

added_within : (entries : List Entry) (X : Lits) (lit : Lit) → ((m : Lit) → X m ≡ true → holds entries (negate m) ≡ true) → (m : Lit) → added entries X lit m ≡ true → holds entries (negate m) ≡ true
added_within entries X lit within m h =
    ⊎_elim (λ a. within m a) (λ b. let p = and_parts (holds entries (negate lit)) (same_lit lit m) b in subst (λ (l : Lit). holds entries (negate l) ≡ true) (same_lit-true lit m p.1) p.0) (or_cases (X m) (holds entries (negate lit) && same_lit lit m) h)

-- an added literal was there before, or is the one that was added
added_cases : (entries : List Entry) (X : Lits) (lit m : Lit) → added entries X lit m ≡ true → (X m ≡ true) ⊎ (lit ≡ m)
added_cases entries X lit m h =
    ⊎_elim (λ a. inl a) (λ b. inr (same_lit-true lit m (and_parts (holds entries (negate lit)) (same_lit lit m) b).1)) (or_cases (X m) (holds entries (negate lit) && same_lit lit m) h)

pub added_more : (entries : List Entry) (X : Lits) (lit m : Lit) → X m ≡ true → added entries X lit m ≡ true
added_more entries X lit m h = or_left (X m) (holds entries (negate lit) && same_lit lit m) h

tally_left : (m n : ℕ) (x y : Bool) → x ≡ false → m + one_if x ≡ n + one_if y → y ≡ false → m ≡ n
tally_left m n x y a e b = let p = ap one_if a in let q = ap one_if b in omega (arith, e, p, q)

tally_one : (m n : ℕ) (x y : Bool) → x ≡ false → m + one_if x ≡ n + one_if y → y ≡ true → m ≡ n + 1
tally_one m n x y a e b = let p = ap one_if a in let q = ap one_if b in omega (arith, e, p, q)

-- what is known of it
pub record IsNew (trail : View) (X : Lits) (lit : Lit) : Type 0 where
  pub by : Falsified trail.entries lit
  pub false_here : holds trail.entries (negate lit) ≡ true
  pub unseen : picks above X by.entry ≡ false
  pub level : level_in trail.entries lit.var ≡ Some by.entry.level
  pub counts : (test : ℕ → Bool) → tally (picks test (added trail.entries X lit)) trail.entries + one_if (picks test X by.entry) ≡ tally (picks test X) trail.entries + one_if (picks test (added trail.entries X lit) by.entry)
  pub picked : (test : ℕ → Bool) → picks test (added trail.entries X lit) by.entry ≡ test by.entry.level
  pub top : by.entry.level ≤ trail.level

and_true : (a b : Bool) → a ≡ true → (a && b) ≡ b
and_true a b h = ap (λ (x : Bool). x && b) h

pub is_new : (trail : View) (X : Lits) (notes : Notes) (lit : Lit) → AreReady trail notes → IsNoted trail X notes → FalseOrMarked trail notes lit → marked_at notes.marks.items lit.var ≡ false → IsNew trail X lit
is_new trail X notes lit ready is known unmarked =
    let h : holds trail.entries (negate lit) ≡ true = ⊎_elim (λ t. t) (λ m. absurd (false≢true (sym unmarked ∙ m))) known in
    let by = falsified trail.entries lit h in
    let apart = ready.ordered.apart in
    record {
      by = by;
      false_here = h;
      unseen = sym (seen_at (picks above X) by.entry trail.entries apart by.there) ∙ ap (seen (picks above X) trail.entries) (var_of trail.entries lit by) ∙ sym (is.marked lit.var) ∙ unmarked;
      level = level_of_lit trail.entries lit by apart;
      counts = λ test. tally_at test X (added trail.entries X lit) by.entry trail.entries apart by.there (agree_added trail.entries X lit by.entry.lit.var (sym (var_of trail.entries lit by)));
      picked = λ test. and_true (added trail.entries X lit (negate by.entry.lit)) (test by.entry.level) (ap (added trail.entries X lit) (back_to_lit trail.entries lit by) ∙ added_here trail.entries X lit h);
      top = level_most trail.level trail.entries by.entry ready.levels by.there;
    }

-- where its level is above 0 the set doesn't have it
not_held : (trail : View) (X : Lits) (lit : Lit) (new : IsNew trail X lit) → 0 < new.by.entry.level → X (negate new.by.entry.lit) ≡ false
not_held trail X lit new l =
    ⊎_elim (λ (t : X (negate new.by.entry.lit) ≡ true). absurd (false≢true (sym new.unseen ∙ and_from (X (negate new.by.entry.lit)) (above new.by.entry.level) t (lt-ltb 0 new.by.entry.level l)))) (λ f. f) (cases_Bool (X (negate new.by.entry.lit)))

tally_stays : (trail : View) (X : Lits) (lit : Lit) (test : ℕ → Bool) (new : IsNew trail X lit) → test new.by.entry.level ≡ false → tally (picks test (added trail.entries X lit)) trail.entries ≡ tally (picks test X) trail.entries
tally_stays trail X lit test new f =
    tally_left _ _ (picks test X new.by.entry) (picks test (added trail.entries X lit) new.by.entry) (and_false (X (negate new.by.entry.lit)) (test new.by.entry.level) f) (new.counts test) (new.picked test ∙ f)

tally_grows : (trail : View) (X : Lits) (lit : Lit) (test : ℕ → Bool) (new : IsNew trail X lit) → 0 < new.by.entry.level → test new.by.entry.level ≡ true → tally (picks test (added trail.entries X lit)) trail.entries ≡ tally (picks test X) trail.entries + 1
tally_grows trail X lit test new l t =
    tally_one _ _ (picks test X new.by.entry) (picks test (added trail.entries X lit) new.by.entry) (false_and (X (negate new.by.entry.lit)) (test new.by.entry.level) (not_held trail X lit new l)) (new.counts test) (new.picked test ∙ t)

-- its mark, by the test of its level
marks_at : (trail : View) (X : Lits) (lit : Lit) (new : IsNew trail X lit) → Apart trail.entries → seen (picks above (added trail.entries X lit)) trail.entries lit.var ≡ above new.by.entry.level
marks_at trail X lit new apart =
    ap (seen (picks above (added trail.entries X lit)) trail.entries) (sym (var_of trail.entries lit new.by)) ∙ seen_at (picks above (added trail.entries X lit)) new.by.entry trail.entries apart new.by.there ∙ new.picked above

marks_off : (trail : View) (X : Lits) (lit : Lit) (v : ℕ) → (v ≡ lit.var → ⊥) → seen (picks above (added trail.entries X lit)) trail.entries v ≡ seen (picks above X) trail.entries v
marks_off trail X lit v ne = seen_off above X (added trail.entries X lit) lit.var v trail.entries (agree_added trail.entries X lit lit.var refl) ne

not_less : (a b : ℕ) → b ≤ a → nat_lt a b ≡ false
not_less a b l = ⊎_elim (λ (t : nat_lt a b ≡ true). let m = ltb-true a b t in absurd (omega (arith, l, m))) (λ f. f) (cases_Bool (nat_lt a b))

apart_of : (a b : ℕ) → (a ≡ b → ⊥) → (a < b) ⊎ (b < a)
apart_of a b ne = ⊎_elim (λ e. absurd (ne e)) (λ o. o) (cases_order a b)

marked_on : (trail : View) (X : Lits) (notes after : Notes) (lit : Lit) → IsNoted trail X notes → lit.var < length notes.marks.items → (new : IsNew trail X lit) → Apart trail.entries → 0 < new.by.entry.level → after.marks.items ≡ set notes.marks.items lit.var true → (v : ℕ) → marked_at after.marks.items v ≡ seen (picks above (added trail.entries X lit)) trail.entries v
marked_on trail X notes after lit is range new apart some marks v =
    ap (λ (xs : List Bool). marked_at xs v) marks ∙ ⊎_elim (λ (e : v ≡ lit.var). ap (marked_at (set notes.marks.items lit.var true)) e ∙ get_or-set_same notes.marks.items lit.var true false range ∙ sym (ap (seen (picks above (added trail.entries X lit)) trail.entries) e ∙ marks_at trail X lit new apart ∙ lt-ltb 0 new.by.entry.level some)) (λ ne. get_or-set_other notes.marks.items lit.var v true false ne ∙ is.marked v ∙ sym (marks_off trail X lit v ne)) (cases_eq v lit.var)

pub var_range : (trail : View) (notes : Notes) (lit : Lit) → AreReady trail notes → Falsified trail.entries lit → lit.var < trail.vars
var_range trail notes lit ready by = subst (λ (v : ℕ). v < trail.vars) (var_of trail.entries lit by) (var_within trail.vars trail.entries by.entry ready.ordered.within by.there)

-- the variable of a literal that may be noted is in range of the marks
pub mark_range : (trail : View) (notes : Notes) (lit : Lit) → AreReady trail notes → FalseOrMarked trail notes lit → lit.var < length notes.marks.items
mark_range trail notes lit ready known =
    ⊎_elim (λ h. let v = var_range trail notes lit ready (falsified trail.entries lit h) in let m = ready.marks in omega (arith, v, m)) (λ m. past_at notes.marks.items lit.var m) known

-- a listed literal is marked
listed_marked : (trail : View) (X : Lits) (notes : Notes) (lit : Lit) → AreReady trail notes → IsNoted trail X notes → In lit notes.lits.items → marked_at notes.marks.items lit.var ≡ true
listed_marked trail X notes lit ready is i =
    let old = is.listed lit i in
    let by = falsified trail.entries lit (is.within lit old.0) in
    let apart = ready.ordered.apart in
    let low : under trail.level by.entry.level ≡ true = sym (ap (is_between trail.level) (level_of_lit trail.entries lit by apart)) ∙ old.1 in
    is.marked lit.var ∙ ap (seen (picks above X) trail.entries) (sym (var_of trail.entries lit by)) ∙ seen_at (picks above X) by.entry trail.entries apart by.there ∙ and_from (X (negate by.entry.lit)) (above by.entry.level) (ap X (back_to_lit trail.entries lit by) ∙ old.0) (and_parts (nat_lt 0 by.entry.level) (nat_lt by.entry.level trail.level) low).0

lacks_push : (v : ℕ) (lits : List Lit) (lit : Lit) → lacks v lits ≡ true → not (lit.var == v) ≡ true → lacks v (lits ++ lit ∷ []) ≡ true
lacks_push v [] lit h n = and_from (not (lit.var == v)) true n refl
lacks_push v (x ∷ lits) lit h n = let p = and_parts (not (x.var == v)) (lacks v lits) h in and_from (not (x.var == v)) (lacks v (lits ++ lit ∷ [])) p.0 (lacks_push v lits lit p.1 n)

eqb_other : (a b : ℕ) → (a == b) ≡ false → (b == a) ≡ false
eqb_other a b f = ne_eqb b a (λ e. false≢true (sym f ∙ eq-eqb a b (sym e)))

distinct_push : (vars : ℕ) (lits : List Lit) (lit : Lit) → lit.var < vars → are_distinct vars lits ≡ true → lacks lit.var lits ≡ true → are_distinct vars (lits ++ lit ∷ []) ≡ true
distinct_push vars [] lit l h new = and_from (nat_lt lit.var vars) true (lt-ltb lit.var vars l) refl
distinct_push vars (x ∷ lits) lit l h new =
    let p = and_parts (nat_lt x.var vars) (lacks x.var lits && are_distinct vars lits) h in
    let q = and_parts (lacks x.var lits) (are_distinct vars lits) p.1 in
    let n = and_parts (not (x.var == lit.var)) (lacks lit.var lits) new in
    and_from (nat_lt x.var vars) (lacks x.var (lits ++ lit ∷ []) && are_distinct vars (lits ++ lit ∷ [])) p.0 (and_from (lacks x.var (lits ++ lit ∷ [])) (are_distinct vars (lits ++ lit ∷ [])) (lacks_push x.var lits lit q.0 (not_from_false (lit.var == x.var) (eqb_other x.var lit.var (not-true (x.var == lit.var) n.0)))) (distinct_push vars lits lit l q.1 n.1))

-- of level 0 it is left out
pub note_ground : (trail : View) (X : Lits) (notes : Notes) (lit : Lit) → AreReady trail notes → IsNoted trail X notes → marked_at notes.marks.items lit.var ≡ false → (new : IsNew trail X lit) → new.by.entry.level ≡ 0 → IsNoted trail (added trail.entries X lit) notes
note_ground trail X notes lit ready is unmarked new ground =
    let no_above : above new.by.entry.level ≡ false = ap above ground in
    let opened = ready.opened in
    record {
      within = added_within trail.entries X lit is.within;
      marked = λ v. ⊎_elim (λ (e : v ≡ lit.var). ap (marked_at notes.marks.items) e ∙ unmarked ∙ sym (ap (seen (picks above (added trail.entries X lit)) trail.entries) e ∙ marks_at trail X lit new ready.ordered.apart ∙ no_above)) (λ ne. is.marked v ∙ sym (marks_off trail X lit v ne)) (cases_eq v lit.var);
      counted = is.counted ∙ sym (tally_stays trail X lit (at_level trail.level) new (ne_eqb new.by.entry.level trail.level (λ e. absurd (omega (arith, e, ground, opened)))));
      few = is.few ∙ sym (tally_stays trail X lit (under trail.level) new (false_and (nat_lt 0 new.by.entry.level) (nat_lt new.by.entry.level trail.level) no_above));
      listed = λ m i. let old = is.listed m i in (added_more trail.entries X lit m old.0, old.1);
      whole = λ m y low. ⊎_elim (λ x. is.whole m x low) (λ (e : lit ≡ m).
          let at : is_lower trail.level trail.entries lit ≡ true = subst (λ (k : Lit). is_lower trail.level trail.entries k ≡ true) (sym e) low in
          absurd (false≢true (sym (ap (is_between trail.level) new.level ∙ false_and (nat_lt 0 new.by.entry.level) (nat_lt new.by.entry.level trail.level) no_above) ∙ at))) (added_cases trail.entries X lit m y);
      apart = is.apart;
    }

-- of the trail's level it is marked and counted
pub note_level : (trail : View) (X : Lits) (notes after : Notes) (lit : Lit) → AreReady trail notes → IsNoted trail X notes → lit.var < length notes.marks.items → (new : IsNew trail X lit) → new.by.entry.level ≡ trail.level → after.marks.items ≡ set notes.marks.items lit.var true → after.left ≡ notes.left + 1 → after.lits.items ≡ notes.lits.items → IsNoted trail (added trail.entries X lit) after
note_level trail X notes after lit ready is range new top marks left lits =
    let opened = ready.opened in
    let some : 0 < new.by.entry.level = omega (arith, opened, top) in
    let counted = is.counted in
    let grows = tally_grows trail X lit (at_level trail.level) new some (eq-eqb new.by.entry.level trail.level top) in
    let low : under trail.level new.by.entry.level ≡ false = and_false (nat_lt 0 new.by.entry.level) (nat_lt new.by.entry.level trail.level) (not_less new.by.entry.level trail.level (omega (arith, top))) in
    record {
      within = added_within trail.entries X lit is.within;
      marked = marked_on trail X notes after lit is range new ready.ordered.apart some marks;
      counted = omega (arith, counted, grows, left);
      few = ap length lits ∙ is.few ∙ sym (tally_stays trail X lit (under trail.level) new low);
      listed = λ m i. let old = is.listed m (subst (λ (xs : List Lit). In m xs) lits i) in (added_more trail.entries X lit m old.0, old.1);
      whole = λ m y lower. subst (λ (xs : List Lit). In m xs) (sym lits) (⊎_elim (λ x. is.whole m x lower) (λ (e : lit ≡ m).
          let at : is_lower trail.level trail.entries lit ≡ true = subst (λ (k : Lit). is_lower trail.level trail.entries k ≡ true) (sym e) lower in
          absurd (false≢true (sym (ap (is_between trail.level) new.level ∙ low) ∙ at))) (added_cases trail.entries X lit m y));
      apart = subst (λ (xs : List Lit). are_distinct trail.vars xs ≡ true) (sym lits) is.apart;
    }

-- of a level between it is marked and listed
pub note_lower : (trail : View) (X : Lits) (notes after : Notes) (lit : Lit) → AreReady trail notes → IsNoted trail X notes → marked_at notes.marks.items lit.var ≡ false → lit.var < length notes.marks.items → (new : IsNew trail X lit) → 0 < new.by.entry.level → (new.by.entry.level ≡ trail.level → ⊥) → after.marks.items ≡ set notes.marks.items lit.var true → after.left ≡ notes.left → after.lits.items ≡ notes.lits.items ++ lit ∷ [] → IsNoted trail (added trail.entries X lit) after
note_lower trail X notes after lit ready is unmarked range new some ne marks left lits =
    let top = new.top in
    let less : new.by.entry.level < trail.level = ⊎_elim (λ (l : new.by.entry.level < trail.level). l) (λ (l : trail.level < new.by.entry.level). absurd (omega (arith, l, top))) (apart_of new.by.entry.level trail.level ne) in
    let low : under trail.level new.by.entry.level ≡ true = and_from (nat_lt 0 new.by.entry.level) (nat_lt new.by.entry.level trail.level) (lt-ltb 0 new.by.entry.level some) (lt-ltb new.by.entry.level trail.level less) in
    let few = is.few in
    let grows = tally_grows trail X lit (under trail.level) new some low in
    let longer : length after.lits.items ≡ length notes.lits.items + 1 = ap length lits ∙ length-append notes.lits.items (lit ∷ []) in
    record {
      within = added_within trail.entries X lit is.within;
      marked = marked_on trail X notes after lit is range new ready.ordered.apart some marks;
      counted = left ∙ is.counted ∙ sym (tally_stays trail X lit (at_level trail.level) new (ne_eqb new.by.entry.level trail.level ne));
      few = omega (arith, few, grows, longer);
      listed = λ m i. ⊎_elim (λ before. let old = is.listed m before in (added_more trail.entries X lit m old.0, old.1)) (λ here. ⊎_elim (λ (e : lit ≡ m). subst (λ (k : Lit). (added trail.entries X lit k ≡ true) × (is_lower trail.level trail.entries k ≡ true)) e (added_here trail.entries X lit new.false_here, ap (is_between trail.level) new.level ∙ low)) (λ none. absurd none) here) (In-append_cases m notes.lits.items (lit ∷ []) (subst (λ (xs : List Lit). In m xs) lits i));
      whole = λ m y lower. subst (λ (xs : List Lit). In m xs) (sym lits) (⊎_elim (λ x. In-append_left m notes.lits.items (lit ∷ []) (is.whole m x lower)) (λ (e : lit ≡ m). In-append_right m notes.lits.items (lit ∷ []) (inl e)) (added_cases trail.entries X lit m y));
      apart = subst (λ (xs : List Lit). are_distinct trail.vars xs ≡ true) (sym lits) (distinct_push trail.vars notes.lits.items lit (var_range trail notes lit ready new.by) is.apart (list_all-from_In (λ (k : Lit). not (k.var == lit.var)) notes.lits.items (λ k i. not_from_false (k.var == lit.var) (⊎_elim (λ (t : (k.var == lit.var) ≡ true). absurd (false≢true (sym unmarked ∙ ap (marked_at notes.marks.items) (sym (eqb-true k.var lit.var t)) ∙ listed_marked trail X notes k ready is i))) (λ f. f) (cases_Bool (k.var == lit.var))))));
    }

-- ---- the forms that the functions ask for

pub mark_read : (marks : List Bool) (v : ℕ) (b : Bool) → v < length marks → b ≡ get_or marks v b → marked_at marks v ≡ b
mark_read marks v b l e = sym (e ∙ get_or_default marks v b false l)

pub same_level : (trail : View) (X : Lits) (lit : Lit) (level : ℕ) → Some level ≡ level_in trail.entries lit.var → (new : IsNew trail X lit) → new.by.entry.level ≡ level
same_level trail X lit level said new = sym (ap level_or (said ∙ new.level))

pub level_room : (trail : View) (X : Lits) (notes : Notes) (lit : Lit) → AreReady trail notes → IsNoted trail X notes → (new : IsNew trail X lit) → new.by.entry.level ≡ trail.level → notes.left < trail.vars
level_room trail X notes lit ready is new top =
    let opened = ready.opened in
    let some : 0 < new.by.entry.level = omega (arith, opened, top) in
    let counted = is.counted in
    let grows = tally_grows trail X lit (at_level trail.level) new some (eq-eqb new.by.entry.level trail.level top) in
    let most = tally_most (picks (at_level trail.level) (added trail.entries X lit)) trail.entries in
    let few = ready.few in
    omega (arith, counted, grows, most, few)

pub lower_room : (trail : View) (X : Lits) (notes : Notes) (lit : Lit) → AreReady trail notes → IsNoted trail X notes → (new : IsNew trail X lit) → 0 < new.by.entry.level → (new.by.entry.level ≡ trail.level → ⊥) → length notes.lits.items < trail.vars
lower_room trail X notes lit ready is new some ne =
    let top = new.top in
    let less : new.by.entry.level < trail.level = ⊎_elim (λ (l : new.by.entry.level < trail.level). l) (λ (l : trail.level < new.by.entry.level). absurd (omega (arith, l, top))) (apart_of new.by.entry.level trail.level ne) in
    let low : under trail.level new.by.entry.level ≡ true = and_from (nat_lt 0 new.by.entry.level) (nat_lt new.by.entry.level trail.level) (lt-ltb 0 new.by.entry.level some) (lt-ltb new.by.entry.level trail.level less) in
    let listed = is.few in
    let grows = tally_grows trail X lit (under trail.level) new some low in
    let most = tally_most (picks (under trail.level) (added trail.entries X lit)) trail.entries in
    let few = ready.few in
    omega (arith, listed, grows, most, few)

pub known_later : (trail : View) (old new : Notes) (lit : Lit) → MarksStay old new → FalseOrMarked trail old lit → FalseOrMarked trail new lit
known_later trail old new lit stay known = ⊎_elim (λ h. inl h) (λ m. inr (stay lit.var m)) known
