-- Resolution along the trail, and the notes beside it.
use Rattle.std.proofs.Common.{◌≡◌, ℕ, ◌+◌, ◌-◌, ◌<◌, Bool, true, false, not, ◌&&◌, List, [], ◌∷◌, length, set, refl, sym, ap, subst, inl, inr, ◌∙◌, ⊎_elim, arith, get_or-set_other, get_or-set_same}
use Rattle.std.specs.Prelude.{Some, ◌⊎◌, nat_lt}
use Rattle.std.proofs.lemmas.Bool.{and_parts, and_from, or_cases, or_left, or_right, eq-eqb, lt-ltb, ltb-true, cases_Bool, cases_eq, false≢true, not_from_false}
use Rattle.tel_base.specs.declared.literals.Lit.{Lit}
use Rattle.tel_base.specs.Literals.{negate}
use Rattle.clause_store.specs.Held.{are_distinct}
use Rattle.clause_store.specs.Closure.{In, Clause, Lits, same_lit, others}
use Rattle.clause_store.specs.Counts.{has_lit}
use Rattle.tel_base.proofs.Members.{In-list_all, In-filter, any_found, any_from}
use Rattle.clause_store.proofs.Closures.{same_lit-true, same_lit-self}
use Rattle.lit_trail.specs.declared.assignment.Entry.{Entry}
use Rattle.lit_trail.specs.Entries.{View, level_in, Apart}
use Rattle.lit_trail.specs.Sound.{holds}
use Rattle.lit_trail.proofs.Values.{one_value, held_entry}
use Rattle.clause_learn.specs.declared.notes.Notes.{Notes}
use Rattle.clause_learn.specs.Room.{marked_at}
use Rattle.clause_learn.specs.FirstUip.{resolvent}
use Rattle.clause_learn.specs.Noted.{picks, above, at_level, under, tally, seen, added, joined, IsNoted, AreReady, OthersFalse, FalseOrMarked}
use Rattle.clause_learn.specs.LearntClause.{is_between, level_or}
use Rattle.clause_learn.proofs.Tallies.{AgreeOff, one_if, tally_at, seen_off, seen_at, level_at}
use Rattle.clause_learn.proofs.NoteSteps.{added_more, added_here, past_at}

-- ---- sets

pub has_from : (lit : Lit) (clause : Clause) → In lit clause → has_lit lit clause ≡ true
has_from lit clause i = any_from (same_lit lit) clause lit i (same_lit-self lit)

pub from_has : (lit : Lit) (clause : Clause) → has_lit lit clause ≡ true → In lit clause
from_has lit clause h = let w = any_found (same_lit lit) clause h in subst (λ (k : Lit). In k clause) (sym (same_lit-true lit w.0 w.2)) w.1

pub joined_more : (entries : List Entry) (X : Lits) (clause : Clause) (k : Lit) → X k ≡ true → joined entries X clause k ≡ true
joined_more entries X [] k h = h
joined_more entries X (m ∷ more) k h = joined_more entries (added entries X m) more k (added_more entries X m k h)

pub joined_lit : (entries : List Entry) (X : Lits) (clause : Clause) (k : Lit) → In k clause → holds entries (negate k) ≡ true → joined entries X clause k ≡ true
joined_lit entries X [] k i h = absurd i
joined_lit entries X (m ∷ more) k i h =
    ⊎_elim (λ (e : m ≡ k). joined_more entries (added entries X m) more k (subst (λ (l : Lit). added entries X l k ≡ true) (sym e) (added_here entries X k h))) (λ r. joined_lit entries (added entries X m) more k r h) i

pub joined_cases : (entries : List Entry) (X : Lits) (clause : Clause) (k : Lit) → joined entries X clause k ≡ true → (X k ≡ true) ⊎ (In k clause × (holds entries (negate k) ≡ true))
joined_cases entries X [] k h = inl h
joined_cases entries X (m ∷ more) k h =
    ⊎_elim (λ a. ⊎_elim (λ x. inl x) (λ b. let p = and_parts (holds entries (negate m)) (same_lit m k) b in let e = same_lit-true m k p.1 in inr (inl e, subst (λ (l : Lit). holds entries (negate l) ≡ true) e p.0)) (or_cases (X k) (holds entries (negate m) && same_lit m k) a)) (λ (r : In k more × (holds entries (negate k) ≡ true)). inr (inr r.0, r.1)) (joined_cases entries (added entries X m) more k h)

pub bool_ext : (a b : Bool) → (a ≡ true → b ≡ true) → (b ≡ true → a ≡ true) → a ≡ b
bool_ext true b f g = sym (f refl)
bool_ext false true f g = g refl
bool_ext false false f g = refl

abbrev pub without : Lits → Lit → Lits
without X lit k = X k && not (same_lit k lit)

-- taking the literal out of the joined set gives the resolvent
resolvent_at : (trail : View) (X : Lits) (lit : Lit) (reason : Clause) → holds trail.entries lit ≡ true → OthersFalse trail lit reason → (k : Lit) → without (joined trail.entries X reason) (negate lit) k ≡ resolvent X lit reason k
resolvent_at trail X lit reason h rest k =
    bool_ext (without (joined trail.entries X reason) (negate lit) k) (resolvent X lit reason k) (λ a.
    let p = and_parts (joined trail.entries X reason k) (not (same_lit k (negate lit))) a in
    ⊎_elim (λ x. or_left (X k && not (same_lit k (negate lit))) (has_lit k reason && not (same_lit k lit)) (and_from (X k) (not (same_lit k (negate lit))) x p.1)) (λ (r : In k reason × (holds trail.entries (negate k) ≡ true)).
    or_right (X k && not (same_lit k (negate lit))) (has_lit k reason && not (same_lit k lit)) (and_from (has_lit k reason) (not (same_lit k lit)) (has_from k reason r.0) (not_from_false (same_lit k lit) (⊎_elim (λ (t : same_lit k lit ≡ true). absurd (one_value trail.entries lit h (subst (λ (l : Lit). holds trail.entries (negate l) ≡ true) (same_lit-true k lit t) r.1))) (λ f. f) (cases_Bool (same_lit k lit)))))) (joined_cases trail.entries X reason k p.0)) (λ b.
    ⊎_elim (λ c. let p = and_parts (X k) (not (same_lit k (negate lit))) c in and_from (joined trail.entries X reason k) (not (same_lit k (negate lit))) (joined_more trail.entries X reason k p.0) p.1) (λ c.
    let p = and_parts (has_lit k reason) (not (same_lit k lit)) c in
    let i = from_has k reason p.0 in
    let false_there = In-list_all (λ (l : Lit). holds trail.entries (negate l)) k (others lit reason) rest.1 (In-filter (λ (l : Lit). not (same_lit l lit)) k reason i p.1) in
    and_from (joined trail.entries X reason k) (not (same_lit k (negate lit))) (joined_lit trail.entries X reason k i false_there) (not_from_false (same_lit k (negate lit)) (⊎_elim (λ (t : same_lit k (negate lit) ≡ true). absurd (rest.0 (subst (λ (l : Lit). In l reason) (same_lit-true k (negate lit) t) i))) (λ f. f) (cases_Bool (same_lit k (negate lit)))))) (or_cases (X k && not (same_lit k (negate lit))) (has_lit k reason && not (same_lit k lit)) b))

pub resolvent_is : (trail : View) (X : Lits) (lit : Lit) (reason : Clause) → holds trail.entries lit ≡ true → OthersFalse trail lit reason → without (joined trail.entries X reason) (negate lit) ≡ resolvent X lit reason
resolvent_is trail X lit reason h rest = λ i k. resolvent_at trail X lit reason h rest k i

-- ---- a literal of the level is taken out

and_yes : (a b : Bool) → b ≡ true → (a && b) ≡ a
and_yes true b h = h
and_yes false b h = refl

and_no : (a b : Bool) → b ≡ false → (a && b) ≡ false
and_no true b h = h
and_no false b h = refl

agree_without : (X : Lits) (lit : Lit) (v : ℕ) → lit.var ≡ v → AgreeOff v X (without X lit)
agree_without X lit v e k ne =
    and_yes (X k) (not (same_lit k lit)) (not_from_false (same_lit k lit) (⊎_elim (λ (t : same_lit k lit ≡ true). absurd (ne (ap (λ (l : Lit). l.var) (same_lit-true k lit t) ∙ e))) (λ f. f) (cases_Bool (same_lit k lit))))

without_self : (X : Lits) (lit : Lit) → without X lit lit ≡ false
without_self X lit = and_no (X lit) (not (same_lit lit lit)) (ap not (same_lit-self lit))

-- what is known of a literal of the trail's level
pub record IsTop (trail : View) (lit : Lit) : Type 0 where
  pub entry : Entry
  pub there : In entry trail.entries
  pub is : entry.lit ≡ lit
  pub at : entry.level ≡ trail.level

pub is_top : (trail : View) (lit : Lit) → Apart trail.entries → holds trail.entries lit ≡ true → level_in trail.entries lit.var ≡ Some trail.level → IsTop trail lit
is_top trail lit apart h level =
    let w = held_entry trail.entries lit h in
    record {
      entry = w.0;
      there = w.1;
      is = w.2;
      at = ap level_or (sym (level_at trail.entries w.0 apart w.1) ∙ ap (λ (l : Lit). level_in trail.entries l.var) w.2 ∙ level);
    }

-- its mark says that the set has its negation
pub top_marked : (trail : View) (X : Lits) (notes : Notes) (lit : Lit) → AreReady trail notes → IsNoted trail X notes → IsTop trail lit → marked_at notes.marks.items lit.var ≡ X (negate lit)
top_marked trail X notes lit ready is top =
    let opened = ready.opened in
    let at = top.at in
    let some : above top.entry.level ≡ true = lt-ltb 0 top.entry.level (omega (arith, opened, at)) in
    ap (marked_at notes.marks.items) (ap (λ (l : Lit). l.var) (sym top.is)) ∙ is.marked top.entry.lit.var ∙ seen_at (picks above X) top.entry trail.entries ready.ordered.apart top.there ∙ and_yes (X (negate top.entry.lit)) (above top.entry.level) some ∙ ap (λ (l : Lit). X (negate l)) top.is

count_out : (m n : ℕ) (x y : Bool) → m + one_if x ≡ n + one_if y → x ≡ true → y ≡ false → m + 1 ≡ n
count_out m n x y e a b = let p = ap one_if a in let q = ap one_if b in omega (arith, e, p, q)

count_same : (m n : ℕ) (x y : Bool) → m + one_if x ≡ n + one_if y → x ≡ false → y ≡ false → m ≡ n
count_same m n x y e a b = let p = ap one_if a in let q = ap one_if b in omega (arith, e, p, q)

top_counts : (trail : View) (X : Lits) (lit : Lit) (test : ℕ → Bool) → Apart trail.entries → (top : IsTop trail lit) → tally (picks test (without X (negate lit))) trail.entries + one_if (picks test X top.entry) ≡ tally (picks test X) trail.entries + one_if (picks test (without X (negate lit)) top.entry)
top_counts trail X lit test apart top =
    tally_at test X (without X (negate lit)) top.entry trail.entries apart top.there (agree_without X (negate lit) top.entry.lit.var (ap (λ (l : Lit). l.var) (sym top.is)))

top_gone : (trail : View) (X : Lits) (lit : Lit) (test : ℕ → Bool) → (top : IsTop trail lit) → picks test (without X (negate lit)) top.entry ≡ false
top_gone trail X lit test top =
    ap (λ (b : Bool). b && test top.entry.level) (ap (λ (l : Lit). without X (negate lit) (negate l)) top.is ∙ without_self X (negate lit))

pub top_left : (trail : View) (X : Lits) (notes : Notes) (lit : Lit) → AreReady trail notes → IsNoted trail X notes → (top : IsTop trail lit) → X (negate lit) ≡ true → tally (picks (at_level trail.level) (without X (negate lit))) trail.entries + 1 ≡ notes.left
top_left trail X notes lit ready is top held =
    count_out _ _ (picks (at_level trail.level) X top.entry) (picks (at_level trail.level) (without X (negate lit)) top.entry) (top_counts trail X lit (at_level trail.level) ready.ordered.apart top) (and_from (X (negate top.entry.lit)) (at_level trail.level top.entry.level) (ap (λ (l : Lit). X (negate l)) top.is ∙ held) (eq-eqb top.entry.level trail.level top.at)) (top_gone trail X lit (at_level trail.level) top) ∙ sym is.counted

pub note_removed : (trail : View) (X : Lits) (notes after : Notes) (lit : Lit) → AreReady trail notes → IsNoted trail X notes → (top : IsTop trail lit) → X (negate lit) ≡ true → lit.var < length notes.marks.items → after.marks.items ≡ set notes.marks.items lit.var false → after.left ≡ notes.left - 1 → after.lits.items ≡ notes.lits.items → IsNoted trail (without X (negate lit)) after
note_removed trail X notes after lit ready is top held range marks left lits =
    let one = top_left trail X notes lit ready is top held in
    let Y = without X (negate lit) in
    let apart = ready.ordered.apart in
    let low : under trail.level top.entry.level ≡ false = and_no (nat_lt 0 top.entry.level) (nat_lt top.entry.level trail.level) (⊎_elim (λ (t : nat_lt top.entry.level trail.level ≡ true). let m = ltb-true top.entry.level trail.level t in let e = top.at in absurd (omega (arith, m, e))) (λ f. f) (cases_Bool (nat_lt top.entry.level trail.level))) in
    record {
      within = λ m y. is.within m (and_parts (X m) (not (same_lit m (negate lit))) y).0;
      marked = λ v. ap (λ (xs : List Bool). marked_at xs v) marks ∙ ⊎_elim (λ (e : v ≡ lit.var). ap (marked_at (set notes.marks.items lit.var false)) e ∙ get_or-set_same notes.marks.items lit.var false false range ∙ sym (ap (seen (picks above Y) trail.entries) (e ∙ ap (λ (l : Lit). l.var) (sym top.is)) ∙ seen_at (picks above Y) top.entry trail.entries apart top.there ∙ top_gone trail X lit above top)) (λ ne. get_or-set_other notes.marks.items lit.var v false false ne ∙ is.marked v ∙ sym (seen_off above X Y lit.var v trail.entries (agree_without X (negate lit) lit.var refl) ne)) (cases_eq v lit.var);
      counted = omega (arith, one, left);
      few = ap length lits ∙ is.few ∙ sym (count_same _ _ (picks (under trail.level) X top.entry) (picks (under trail.level) Y top.entry) (top_counts trail X lit (under trail.level) apart top) (and_no (X (negate top.entry.lit)) (under trail.level top.entry.level) low) (top_gone trail X lit (under trail.level) top));
      listed = λ m i.
          let old = is.listed m (subst (λ (xs : List Lit). In m xs) lits i) in (
            and_from (X m) (not (same_lit m (negate lit))) old.0 (not_from_false (same_lit m (negate lit)) (⊎_elim (λ (t : same_lit m (negate lit) ≡ true).
                let at : level_in trail.entries m.var ≡ Some top.entry.level = ap (λ (l : Lit). level_in trail.entries l.var) (same_lit-true m (negate lit) t) ∙ ap (λ (l : Lit). level_in trail.entries l.var) (sym top.is) ∙ level_at trail.entries top.entry apart top.there in
                absurd (false≢true (sym (ap (is_between trail.level) at ∙ low) ∙ old.1))) (λ f. f) (cases_Bool (same_lit m (negate lit))))),
            old.1,
          );
      whole = λ m y lower. subst (λ (xs : List Lit). In m xs) (sym lits) (is.whole m (and_parts (X m) (not (same_lit m (negate lit))) y).0 lower);
      apart = subst (λ (xs : List Lit). are_distinct trail.vars xs ≡ true) (sym lits) is.apart;
    }

-- each literal of a reason is false, or its variable is marked
pub reason_known : (trail : View) (notes : Notes) (lit : Lit) (reason : Clause) → marked_at notes.marks.items lit.var ≡ true → OthersFalse trail lit reason → (m : Lit) → In m reason → FalseOrMarked trail notes m
reason_known trail notes lit reason marked rest m i =
    ⊎_elim (λ (t : same_lit m lit ≡ true). inr (ap (marked_at notes.marks.items) (ap (λ (l : Lit). l.var) (same_lit-true m lit t)) ∙ marked)) (λ (f : same_lit m lit ≡ false). inl (In-list_all (λ (l : Lit). holds trail.entries (negate l)) m (others lit reason) rest.1 (In-filter (λ (l : Lit). not (same_lit l lit)) m reason i (not_from_false (same_lit m lit) f)))) (cases_Bool (same_lit m lit))

-- the false literals of the reason were added, and the literal is taken out
pub note_resolved : (trail : View) (X : Lits) (notes after : Notes) (lit : Lit) (reason : Clause) → AreReady trail notes → IsNoted trail (joined trail.entries X reason) notes → holds trail.entries lit ≡ true → level_in trail.entries lit.var ≡ Some trail.level → marked_at notes.marks.items lit.var ≡ true → OthersFalse trail lit reason → after.marks.items ≡ set notes.marks.items lit.var false → after.left ≡ notes.left - 1 → after.lits.items ≡ notes.lits.items → IsNoted trail (resolvent X lit reason) after
note_resolved trail X notes after lit reason ready is h level marked rest marks left lits =
    let whole = joined trail.entries X reason in
    let top = is_top trail lit ready.ordered.apart h level in
    let held = sym (top_marked trail whole notes lit ready is top) ∙ marked in
    subst (λ (Y : Lits). IsNoted trail Y after) (resolvent_is trail X lit reason h rest) (note_removed trail whole notes after lit ready is top held (past_at notes.marks.items lit.var marked) marks left lits)
