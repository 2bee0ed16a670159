-- A look at each clause in turn.
use Rattle.std.proofs.Common.{◌≡◌, ℕ, suc, ◌+◌, ◌<◌, ◌≤◌, Bool, true, not, ◌&&◌, List, [], ◌∷◌, ◌++◌, length, take, refl, sym, ap, subst, inl, inr, ◌∙◌, ⊎_elim, arith}
use Rattle.std.specs.Prelude.{Option, Some, None, nat_lt, ◌==◌}
use Rattle.std.specs.List.{list_all}
use Rattle.std.proofs.lemmas.Bool.{and_parts, and_from, eq-eqb, ltb-true, false≢true}
use Rattle.std.proofs.lemmas.List.{take_more, take_all}
use Rattle.tel_base.specs.declared.literals.Lit.{Lit}
use Rattle.tel_base.specs.Literals.{negate}
use Rattle.clause_store.specs.declared.store.ClauseId.{ClauseId}
use Rattle.clause_store.specs.Held.{clause_at, is_clause}
use Rattle.clause_store.specs.Closure.{In, Clause, Up, Conflict, IsSettled, IsClosedLevel, IsClosure}
use Rattle.tel_base.proofs.Members.{In-list_all, list_all-from_In, In-append_cases}
use Rattle.clause_store.proofs.Closures.{up_start}
use Rattle.clause_store.proofs.Levels.{In-clause_at, closed_closure}
use Rattle.lit_trail.specs.declared.assignment.Spot.{Spot}
use Rattle.lit_trail.specs.declared.assignment.Entry.{Entry}
use Rattle.lit_trail.specs.Entries.{View, spot_in, spot_value, is_decided, Apart}
use Rattle.lit_trail.specs.Sound.{holds, trail_lits, ReasonsHold, IsReason, IsClosedTrail, IsSound}
use Rattle.lit_trail.proofs.Values.{one_value, holds_on, lits_hold}
use Rattle.lit_trail.proofs.Derived.{trail_up, closed_trail}
use Rattle.watch_propagate.specs.declared.examining.Examined.TheVariants as found
use Rattle.watch_propagate.specs.Status.{status}
use Rattle.watch_propagate.specs.Propagation.{are_below, Grown, IsFalseClause, AreSettled}
use Rattle.watch_propagate.proofs.Statuses.{settled_none, unit_none, unit_others}

abbrev given_at : ℕ → Entry → Bool
given_at level entry = (entry.level == level) && not (is_decided entry.reason)

-- ---- a literal more

grown_same : (level : ℕ) (old : List Entry) → Grown level old old
grown_same level old = ([], refl, refl)

grown_more : (level : ℕ) (old now new : List Entry) (lit : Lit) (at : ℕ) (id : ClauseId) → Grown level old now → at ≡ level → new ≡ record { lit = lit; level = at; reason = Some id } ∷ now → Grown level old new
grown_more level old now new lit at id grown e is =
    let entry : Entry = record { lit = lit; level = at; reason = Some id } in
    (entry ∷ grown.0, is ∙ ap (λ (es : List Entry). entry ∷ es) grown.1, and_from (given_at level entry) (list_all (given_at level) grown.0) (and_from (at == level) true (eq-eqb at level e) refl) grown.2)

append_assoc_of : (a b c : List Entry) → a ++ (b ++ c) ≡ (a ++ b) ++ c
append_assoc_of [] b c = refl
append_assoc_of (x ∷ a) b c = ap (λ (es : List Entry). x ∷ es) (append_assoc_of a b c)

all_append : (level : ℕ) (a b : List Entry) → list_all (given_at level) a ≡ true → list_all (given_at level) b ≡ true → list_all (given_at level) (a ++ b) ≡ true
all_append level [] b ha hb = hb
all_append level (x ∷ a) b ha hb =
    let both = and_parts (given_at level x) (list_all (given_at level) a) ha in
    and_from (given_at level x) (list_all (given_at level) (a ++ b)) both.0 (all_append level a b both.1 hb)

pub grown_then : (level next : ℕ) (old now new : List Entry) → Grown level old now → next ≡ level → Grown next now new → Grown level old new
grown_then level next old now new first e second =
    let there_too = subst (λ (n : ℕ). list_all (given_at n) second.0 ≡ true) e second.2 in
    (second.0 ++ first.0, second.1 ∙ ap (λ (es : List Entry). second.0 ++ es) first.1 ∙ append_assoc_of second.0 first.0 old, all_append level second.0 first.0 there_too first.2)

free_spot : (o : Option Spot) (positive : Bool) → spot_value positive o ≡ None → o ≡ None
free_spot None positive h = refl
free_spot (Some spot) positive h = absurd (cc)

pub unit_free : (clause : Clause) (entries : List Entry) (lit : Lit) → status entries clause None ≡ found.Unit lit → spot_in entries lit.var ≡ None
unit_free clause entries lit unit = free_spot (spot_in entries lit.var) lit.positive (unit_none entries clause lit unit).free

pub unit_below : (clauses : List Clause) (vars place : ℕ) (entries : List Entry) (lit : Lit) → are_below vars clauses ≡ true → place < length clauses → status entries (clause_at clauses place) None ≡ found.Unit lit → lit.var < vars
unit_below clauses vars place entries lit below l unit =
    let clause = clause_at clauses place in
    ltb-true lit.var vars (In-list_all (λ (k : Lit). nat_lt k.var vars) lit clause (In-list_all (λ (c : Clause). list_all (λ (k : Lit). nat_lt k.var vars) c) clause clauses below (In-clause_at clauses place l)) (unit_none entries clause lit unit).held)

pub unit_reason : (clauses : List Clause) (id : ClauseId) (entries : List Entry) (lit : Lit) → id.place < length clauses → status entries (clause_at clauses id.place) None ≡ found.Unit lit → IsReason clauses entries lit id
unit_reason clauses id entries lit l unit =
    let is = unit_none entries (clause_at clauses id.place) lit unit in
    (l, is.held, unit_others entries (clause_at clauses id.place) lit is)

-- ---- the round

pub record RoundState (clauses : List Clause) (old now : View) (place : ℕ) : Type 0 where
  pub sound : IsSound clauses now
  pub grown : Grown old.level old.entries now.entries
  pub level : now.level ≡ old.level
  pub vars : now.vars ≡ old.vars
  pub longer : length old.entries ≤ length now.entries
  pub quiet : length now.entries ≡ length old.entries → AreSettled (take place clauses) now.entries

pub round_start : (clauses : List Clause) (old : View) → IsSound clauses old → RoundState clauses old old 0
round_start clauses old sound =
    record { sound = sound; grown = grown_same old.level old.entries; level = refl; vars = refl; longer = omega arith; quiet = λ _ clause i. absurd i }

pub round_unit : (clauses : List Clause) (old now new : View) (place : ℕ) (lit : Lit) (id : ClauseId) → RoundState clauses old now place → IsSound clauses new → new.entries ≡ record { lit = lit; level = now.level; reason = Some id } ∷ now.entries → new.level ≡ now.level → new.vars ≡ now.vars → RoundState clauses old new (place + 1)
round_unit clauses old now new place lit id state sound entries level vars =
    let longer = state.longer in
    let count : length new.entries ≡ suc (length now.entries) = ap length entries in
    record {
      sound = sound;
      grown = grown_more old.level old.entries now.entries new.entries lit now.level id state.grown state.level entries;
      level = level ∙ state.level;
      vars = vars ∙ state.vars;
      longer = omega (arith, longer, count);
      quiet = λ same. absurd (omega (arith, longer, count, same));
    }

pub round_settled : (clauses : List Clause) (old now : View) (place vars : ℕ) → RoundState clauses old now place → place < length clauses → is_clause vars (clause_at clauses place) ≡ true → status now.entries (clause_at clauses place) None ≡ found.Settled → RoundState clauses old now (place + 1)
round_settled clauses old now place vars state l is settled = record {
  sound = state.sound;
  grown = state.grown;
  level = state.level;
  vars = state.vars;
  longer = state.longer;
  quiet = λ same clause i.
      ⊎_elim (λ before. state.quiet same clause before) (λ here. ⊎_elim (λ (e : clause_at clauses place ≡ clause). subst (IsSettled (holds now.entries)) e (settled_none now.entries vars (clause_at clauses place) settled is)) (λ none. absurd none) here) (In-append_cases clause (take place clauses) (clause_at clauses place ∷ []) (subst (λ (cs : List Clause). In clause cs) (take_more clauses place [] l) i));
}

pub round_end : (clauses : List Clause) (old now : View) (place : ℕ) → RoundState clauses old now place → length clauses ≤ place → length now.entries ≡ length old.entries → AreSettled clauses now.entries
round_end clauses old now place state l same clause i =
    state.quiet same clause (subst (λ (cs : List Clause). In clause cs) (sym (take_all place clauses l)) i)

-- ---- what propagation leaves

-- what has no reason stood there before
undecided : (level : ℕ) (more old : List Entry) (entry : Entry) → list_all (given_at level) more ≡ true → In entry (more ++ old) → entry.reason ≡ None → In entry old
undecided level [] old entry g i none = i
undecided level (e ∷ more) old entry g i none =
    let given = and_parts (given_at level e) (list_all (given_at level) more) g in
    ⊎_elim (λ (same : e ≡ entry). absurd (false≢true (sym (ap (λ (x : Entry). not (is_decided x.reason)) same ∙ ap (λ (o : Option ClauseId). not (is_decided o)) none) ∙ (and_parts (e.level == level) (not (is_decided e.reason)) given.0).1))) (λ r. undecided level more old entry given.1 r none) i

In-lits : (entries : List Entry) (entry : Entry) → In entry entries → In entry.lit (trail_lits entries)
In-lits [] entry i = i
In-lits (e ∷ entries) entry i = ⊎_elim (λ same. inl (ap (λ (x : Entry). x.lit) same)) (λ r. inr (In-lits entries entry r)) i

still_holds : (more old : List Entry) → Apart (more ++ old) → (lit : Lit) → holds old lit ≡ true → holds (more ++ old) lit ≡ true
still_holds [] old apart lit h = h
still_holds (entry ∷ more) old apart lit h = holds_on entry (more ++ old) lit apart.0 (still_holds more old apart.1 lit h)

before_apart : (more old : List Entry) → Apart (more ++ old) → Apart old
before_apart [] old apart = apart
before_apart (entry ∷ more) old apart = before_apart more old apart.1

-- each literal of the trail is in the closure of what stood there before
pub grown_up : (clauses : List Clause) (level : ℕ) (old new : List Entry) → ReasonsHold clauses new → Grown level old new → (lit : Lit) → holds new lit ≡ true → Up clauses (trail_lits old) lit
grown_up clauses level old new reasons grown =
    trail_up clauses (trail_lits old) new reasons (λ entry i none. up_start clauses (trail_lits old) entry.lit (In-lits old entry (undecided level grown.0 old entry grown.2 (subst (λ (es : List Entry). In entry es) grown.1 i) none)))

settled_level : (clauses : List Clause) (entries : List Entry) → AreSettled clauses entries → IsClosedLevel clauses (holds entries)
settled_level clauses entries settled = record { one_value = one_value entries; settled = settled }

pub quiet_closure : (clauses : List Clause) (level : ℕ) (old new : List Entry) → Apart new → ReasonsHold clauses new → Grown level old new → AreSettled clauses new → IsClosure clauses (trail_lits old) (holds new)
quiet_closure clauses level old new apart reasons grown settled =
    let is = subst Apart grown.1 apart in
    let old_hold = lits_hold old (before_apart grown.0 old is) in
    closed_closure clauses (trail_lits old) (holds new) (list_all-from_In (holds new) (trail_lits old) (λ lit i. subst (λ (es : List Entry). holds es lit ≡ true) (sym grown.1) (still_holds grown.0 old is lit (In-list_all (holds old) lit (trail_lits old) old_hold i)))) (grown_up clauses level old new reasons grown) (settled_level clauses new settled)

pub quiet_closed : (clauses : List Clause) (entries : List Entry) → Apart entries → ReasonsHold clauses entries → AreSettled clauses entries → IsClosedTrail clauses entries
quiet_closed clauses entries apart reasons settled = closed_trail clauses entries apart reasons (settled_level clauses entries settled)

pub false_conflict : (clauses : List Clause) (level : ℕ) (id : ClauseId) (old new : List Entry) → ReasonsHold clauses new → Grown level old new → IsFalseClause clauses new id → Conflict clauses (trail_lits old)
false_conflict clauses level id old new reasons grown bad =
    let clause = clause_at clauses id.place in
    inr (clause, In-clause_at clauses id.place bad.0, λ lit i. grown_up clauses level old new reasons grown (negate lit) (In-list_all (λ (l : Lit). holds new (negate l)) lit clause bad.1 i))
