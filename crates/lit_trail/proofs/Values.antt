-- What a trail says of a literal, and of those that stand earlier.
use Rattle.std.proofs.Common.{◌≡◌, Bool, true, false, not, List, [], ◌∷◌, refl, sym, ap, subst, inl, inr, ◌∙◌, ⊎_elim}
use Rattle.std.specs.Prelude.{Option, Some, None, ◌⊎◌}
use Rattle.std.specs.List.{list_all}
use Rattle.std.proofs.lemmas.Bool.{false≢true, cases_eq}
use Rattle.tel_base.specs.declared.literals.Lit.{Lit}
use Rattle.tel_base.specs.Literals.{negate}
use Rattle.clause_store.specs.Closure.{In}
use Rattle.tel_base.proofs.Members.{list_all-from_In}
use Rattle.lit_trail.specs.declared.assignment.Spot.{Spot}
use Rattle.lit_trail.specs.declared.assignment.Entry.{Entry}
use Rattle.lit_trail.specs.Entries.{spot_in, spot_of, spot_value, same_sign, Apart}
use Rattle.lit_trail.specs.Sound.{holds, is_true, trail_lits}
use Rattle.lit_trail.proofs.TableSteps.{here, there}

pub same_sign_eq : (a b : Bool) → same_sign a b ≡ true → a ≡ b
same_sign_eq true b h = sym h
same_sign_eq false true h = absurd (false≢true h)
same_sign_eq false false h = refl

pub same_sign_refl : (a : Bool) → same_sign a a ≡ true
same_sign_refl true = refl
same_sign_refl false = refl

sign_apart : (s p : Bool) → same_sign s p ≡ true → same_sign s (not p) ≡ true → ⊥
sign_apart true true a b = false≢true b
sign_apart true false a b = false≢true a
sign_apart false true a b = false≢true a
sign_apart false false a b = false≢true b

-- no literal holds with its negation
pub one_value : (entries : List Entry) (lit : Lit) → holds entries lit ≡ true → holds entries (negate lit) ≡ true → ⊥
one_value entries lit a b =
    (elim (spot_in entries lit.var) as (λ (o : Option Spot). is_true (spot_value lit.positive o) ≡ true → is_true (spot_value (not lit.positive) o) ≡ true → ⊥) [
      | None ↦ λ x y. false≢true x
      | Some spot ↦ λ x y. sign_apart spot.positive lit.positive x y
    ]) a b

-- what holds by the trail's word of a variable
by_spot : (entries : List Entry) (lit : Lit) (o : Option Spot) → spot_in entries lit.var ≡ o → holds entries lit ≡ is_true (spot_value lit.positive o)
by_spot entries lit o e = ap (λ (p : Option Spot). is_true (spot_value lit.positive p)) e

-- an entry's variable says what the entry says
pub spot_there : (older : List Entry) (entry : Entry) → Apart older → In entry older → spot_in older entry.lit.var ≡ Some (spot_of entry)
spot_there [] entry apart i = absurd i
spot_there (e ∷ older) entry apart i =
    ⊎_elim (λ (same : e ≡ entry). subst (λ (x : Entry). spot_in (e ∷ older) x.lit.var ≡ Some (spot_of x)) same (here e older e.lit.var refl)) (λ r.
    let found = spot_there older entry apart.1 r in
    ⊎_elim (λ (same : e.lit.var ≡ entry.lit.var). let p : None ≡ Some (spot_of entry) = sym (ap (spot_in older) (sym same) ∙ apart.0) ∙ found in absurd (cc)) (λ ne. there e older entry.lit.var ne ∙ found) (cases_eq e.lit.var entry.lit.var)) i

pub entry_holds : (entries : List Entry) (entry : Entry) → Apart entries → In entry entries → holds entries entry.lit ≡ true
entry_holds entries entry apart i = by_spot entries entry.lit (Some (spot_of entry)) (spot_there entries entry apart i) ∙ same_sign_refl entry.lit.positive

-- a literal that holds is the last one, or held before
pub last_or_older : (entry : Entry) (older : List Entry) (lit : Lit) → holds (entry ∷ older) lit ≡ true → (entry.lit ≡ lit) ⊎ ((entry.lit.var ≡ lit.var → ⊥) × (holds older lit ≡ true))
last_or_older entry older lit h =
    ⊎_elim (λ (e : entry.lit.var ≡ lit.var).
    let s = same_sign_eq entry.lit.positive lit.positive (sym (by_spot (entry ∷ older) lit (Some (spot_of entry)) (here entry older lit.var e)) ∙ h) in
    inl (λ i. record { var = e i; positive = s i })) (λ ne. inr (ne, sym (by_spot (entry ∷ older) lit (spot_in older lit.var) (there entry older lit.var ne)) ∙ h)) (cases_eq entry.lit.var lit.var)

-- a variable without a value has no literal that holds
pub none_holds : (entries : List Entry) (lit : Lit) → spot_in entries lit.var ≡ None → holds entries lit ≡ false
none_holds entries lit free = by_spot entries lit None free

-- what held before holds still
pub holds_on : (entry : Entry) (older : List Entry) (lit : Lit) → spot_in older entry.lit.var ≡ None → holds older lit ≡ true → holds (entry ∷ older) lit ≡ true
holds_on entry older lit free h =
    ⊎_elim (λ (e : entry.lit.var ≡ lit.var). absurd (false≢true (sym (none_holds older lit (ap (spot_in older) (sym e) ∙ free)) ∙ h))) (λ ne. by_spot (entry ∷ older) lit (spot_in older lit.var) (there entry older lit.var ne) ∙ h) (cases_eq entry.lit.var lit.var)

-- a literal that holds stands in the trail
pub held_entry : (entries : List Entry) (lit : Lit) → holds entries lit ≡ true → (entry : Entry) × In entry entries × (entry.lit ≡ lit)
held_entry [] lit h = absurd (false≢true h)
held_entry (entry ∷ older) lit h =
    ⊎_elim (λ e. (entry, inl refl, e)) (λ out. let w = held_entry older lit out.1 in (w.0, inr w.1, w.2)) (last_or_older entry older lit h)

lit_holds : (entries : List Entry) (lit : Lit) → Apart entries → In lit (trail_lits entries) → holds entries lit ≡ true
lit_holds [] lit apart i = absurd i
lit_holds (entry ∷ older) lit apart i =
    ⊎_elim (λ (e : entry.lit ≡ lit). subst (λ (l : Lit). holds (entry ∷ older) l ≡ true) e (entry_holds (entry ∷ older) entry apart (inl refl))) (λ r. holds_on entry older lit apart.0 (lit_holds older lit apart.1 r)) i

-- and each literal of the trail holds
pub lits_hold : (entries : List Entry) → Apart entries → list_all (holds entries) (trail_lits entries) ≡ true
lits_hold entries apart = list_all-from_In (holds entries) (trail_lits entries) (λ lit i. lit_holds entries lit apart i)
