-- A clause more, while the trail is empty.
use Rattle.std.proofs.Common.{◌≡◌, ℕ, ◌≤◌, Bool, true, false, not, List, [], ◌∷◌, ◌++◌, length, refl, sym, ap, subst, ◌∙◌, arith}
use Rattle.std.specs.Prelude.{Option, Some, None}
use Rattle.std.specs.Option.{option_eq}
use mathlib.Core.Bool.{beq}
use Rattle.std.proofs.lemmas.Bool.{false≢true}
use Rattle.std.proofs.lemmas.List.{map-append}
use Rattle.tel_base.specs.declared.literals.Lit.{Lit}
use Rattle.clause_store.specs.Held.{Held, clauses_in, is_clause}
use Rattle.clause_store.specs.Closure.{In, Clause}
use Rattle.lit_trail.specs.declared.assignment.Entry.{Entry}
use Rattle.lit_trail.specs.declared.assignment.Spot.{Spot}
use Rattle.lit_trail.specs.Entries.{View, same_sign, spot_in, spot_value, value_in, level_in, Apart}
use Rattle.lit_trail.specs.Sound.{holds, is_true, IsSound, ReasonsHold}
use Rattle.tel_base.specs.Literals.{negate}
use Rattle.clause_learn.specs.FirstUip.{set_of, has_more}
use Rattle.clause_learn.specs.LearntClause.{level_or}
use Rattle.clause_learn.proofs.Tallies.{negate_twice}
use Rattle.clause_learn.proofs.NoteSteps.{falsified, level_of_lit}
use Rattle.clause_learn.proofs.Resolutions.{has_from}
use Rattle.clause_learn.proofs.Uips.{more_from}
use Rattle.watch_propagate.specs.Propagation.{are_below}
use Rattle.watch_propagate.proofs.Bounds.{below_more}

pub held_below : (vars : ℕ) (old new : List Held) (one : Held) → are_below vars (clauses_in old) ≡ true → is_clause vars one.lits ≡ true → new ≡ old ++ one ∷ [] → are_below vars (clauses_in new) ≡ true
held_below vars old new one h clause is =
    ap (λ (hs : List Held). are_below vars (clauses_in hs)) is ∙ ap (are_below vars) (map-append (λ (c : Held). c.lits) old (one ∷ [])) ∙ below_more vars (clauses_in old) one.lits h clause

no_entries : (entries : List Entry) → length entries ≤ 0 → entries ≡ []
no_entries [] l = refl
no_entries (e ∷ entries) l = absurd (omega (arith, l))

pub empty_sound : (clauses : List Clause) (trail : View) → length trail.entries ≤ 0 → trail.level ≤ 0 → IsSound clauses trail
empty_sound clauses trail none ground = record {
  reasons = subst (ReasonsHold clauses) (sym (no_entries trail.entries none)) tt;
  below = λ level l. absurd (omega (arith, l, ground));
}

sign_not : (s p : Bool) → same_sign s p ≡ false → same_sign s (not p) ≡ true
sign_not true true h = absurd (false≢true (sym h))
sign_not true false h = refl
sign_not false true h = refl
sign_not false false h = absurd (false≢true (sym h))

false_holds : (entries : List Entry) (lit : Lit) → value_in entries lit ≡ Some false → holds entries (negate lit) ≡ true
false_holds entries lit h =
    (elim (spot_in entries lit.var) as (λ (o : Option Spot). spot_value lit.positive o ≡ Some false → is_true (spot_value (not lit.positive) o) ≡ true) [
      | None ↦ λ e. absurd (cc)
      | Some spot ↦ λ e. sign_not spot.positive lit.positive (ap is_true e)
    ]) h

-- a false literal of the level is one of those that are left
pub top_there : (entries : List Entry) (clause : Clause) (lit : Lit) (level : ℕ) → Apart entries → In lit clause → value_in entries lit ≡ Some false → level_in entries lit.var ≡ Some level → has_more level entries (set_of clause) ≡ true
top_there entries clause lit level apart i value at =
    let by = falsified entries lit (false_holds entries lit value) in
    let back : negate by.entry.lit ≡ lit = ap negate by.is ∙ negate_twice lit in
    more_from level entries (set_of clause) by.entry by.there (ap (set_of clause) back ∙ has_from lit clause i) (ap level_or (sym (level_of_lit entries lit by apart) ∙ at))

pub option_same : {X : Type 0} (eq : X → X → Bool) → ((x y : X) → eq x y ≡ true → x ≡ y) → (o : Option X) (b : X) → option_eq eq o (Some b) ≡ true → o ≡ Some b
option_same eq same None b h = absurd (false≢true h)
option_same eq same (Some a) b h = ap Some (same a b h)

pub bool_same : (x y : Bool) → beq x y ≡ true → x ≡ y
bool_same true true h = refl
bool_same true false h = absurd (false≢true h)
bool_same false true h = absurd (false≢true h)
bool_same false false h = refl
