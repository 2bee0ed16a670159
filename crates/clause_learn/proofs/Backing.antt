-- What holds after levels are given up.
use Rattle.std.proofs.Common.{◌≡◌, ℕ, ◌<◌, ◌≤◌, true, false, List, [], ◌∷◌, refl, sym, ap, ◌∙◌, ⊎_elim, arith}
use Rattle.std.specs.Prelude.{Option, Some, None, nat_lt}
use Rattle.std.specs.List.{list_all}
use Rattle.std.proofs.lemmas.Bool.{and_parts, cases_Bool, cases_eq, cond-true, cond-false, lt-ltb, ltb-true, false≢true}
use Rattle.tel_base.specs.declared.literals.Lit.{Lit}
use Rattle.clause_store.specs.Closure.{In}
use Rattle.lit_trail.specs.declared.assignment.Spot.{Spot}
use Rattle.lit_trail.specs.declared.assignment.Entry.{Entry}
use Rattle.lit_trail.specs.Entries.{spot_in, spot_of, spot_value, spot_level, level_in, back, Apart}
use Rattle.lit_trail.specs.Levels.{AreLevels}
use Rattle.lit_trail.specs.Sound.{holds, is_true}
use Rattle.lit_trail.proofs.TableSteps.{here, there, not_here}
use Rattle.clause_learn.specs.LearntClause.{is_between, is_lower, level_or, highest}

abbrev spot_or : Spot → Option Spot → Spot
spot_or a None = a
spot_or a (Some b) = b

some_spot : (a b : Spot) → Some a ≡ Some b → a ≡ b
some_spot a b e = ap (spot_or a) e

-- a variable's level is at most the top
spot_most : (top : ℕ) (entries : List Entry) (v : ℕ) (spot : Spot) → AreLevels top entries → spot_in entries v ≡ Some spot → spot.level ≤ top
spot_most top [] v spot levels h = absurd (cc)
spot_most top (entry ∷ older) v spot levels h =
    let a = levels.0 in
    ⊎_elim (λ (e : entry.lit.var ≡ v). let s = ap (λ (x : Spot). x.level) (some_spot (spot_of entry) spot (sym (here entry older v e) ∙ h)) in omega (arith, a, s)) (λ ne. let b = spot_most entry.level older v spot levels.1 (sym (there entry older v ne) ∙ h) in omega (arith, a, b)) (cases_eq entry.lit.var v)

pub back_none : (level : ℕ) (entries : List Entry) (v : ℕ) → spot_in entries v ≡ None → spot_in (back level entries) v ≡ None
back_none level [] v h = refl
back_none level (entry ∷ older) v h =
    let out = not_here entry older v h in
    ⊎_elim (λ (t : nat_lt level entry.level ≡ true). ap (λ (es : List Entry). spot_in es v) (cond-true (nat_lt level entry.level) (back level older) (entry ∷ older) t) ∙ back_none level older v out.1) (λ (f : nat_lt level entry.level ≡ false). ap (λ (es : List Entry). spot_in es v) (cond-false (nat_lt level entry.level) (back level older) (entry ∷ older) f) ∙ h) (cases_Bool (nat_lt level entry.level))

-- what was assigned up to the level stays
pub back_stays : (level : ℕ) (entries : List Entry) (v : ℕ) (spot : Spot) → spot_in entries v ≡ Some spot → spot.level ≤ level → spot_in (back level entries) v ≡ Some spot
back_stays level [] v spot h l = h
back_stays level (entry ∷ older) v spot h l =
    ⊎_elim (λ (t : nat_lt level entry.level ≡ true). ap (λ (es : List Entry). spot_in es v) (cond-true (nat_lt level entry.level) (back level older) (entry ∷ older) t) ∙ ⊎_elim (λ (e : entry.lit.var ≡ v). let s = ap (λ (x : Spot). x.level) (some_spot (spot_of entry) spot (sym (here entry older v e) ∙ h)) in let m = ltb-true level entry.level t in absurd (omega (arith, l, s, m))) (λ ne. back_stays level older v spot (sym (there entry older v ne) ∙ h) l) (cases_eq entry.lit.var v)) (λ (f : nat_lt level entry.level ≡ false). ap (λ (es : List Entry). spot_in es v) (cond-false (nat_lt level entry.level) (back level older) (entry ∷ older) f) ∙ h) (cases_Bool (nat_lt level entry.level))

-- what was assigned above it is gone
pub back_gone : (level top : ℕ) (entries : List Entry) (v : ℕ) (spot : Spot) → Apart entries → AreLevels top entries → spot_in entries v ≡ Some spot → level < spot.level → spot_in (back level entries) v ≡ None
back_gone level top [] v spot apart levels h l = refl
back_gone level top (entry ∷ older) v spot apart levels h l =
    ⊎_elim (λ (t : nat_lt level entry.level ≡ true). ap (λ (es : List Entry). spot_in es v) (cond-true (nat_lt level entry.level) (back level older) (entry ∷ older) t) ∙ ⊎_elim (λ (e : entry.lit.var ≡ v). back_none level older v (ap (spot_in older) (sym e) ∙ apart.0)) (λ ne. back_gone level entry.level older v spot apart.1 levels.1 (sym (there entry older v ne) ∙ h) l) (cases_eq entry.lit.var v)) (λ (f : nat_lt level entry.level ≡ false).
    let m = spot_most entry.level (entry ∷ older) v spot (omega arith, levels.1) h in
    absurd (false≢true (sym f ∙ lt-ltb level entry.level (omega (arith, m, l))))) (cases_Bool (nat_lt level entry.level))

spot_with : (entries : List Entry) (v level : ℕ) → level_in entries v ≡ Some level → (spot : Spot) × (spot_in entries v ≡ Some spot) × (spot.level ≡ level)
spot_with entries v level h =
    (elim (spot_in entries v) as (λ (o : Option Spot). spot_in entries v ≡ o → spot_level o ≡ Some level → (spot : Spot) × (spot_in entries v ≡ Some spot) × (spot.level ≡ level)) [
      | None ↦ λ e a. absurd (cc)
      | Some spot ↦ λ e a. (spot, e, ap level_or a)
    ]) refl h

pub level_stays : (level other : ℕ) (entries : List Entry) (lit : Lit) → holds entries lit ≡ true → level_in entries lit.var ≡ Some other → other ≤ level → holds (back level entries) lit ≡ true
level_stays level other entries lit h at l =
    let w = spot_with entries lit.var other at in
    let n = w.2 in
    ap (λ (o : Option Spot). is_true (spot_value lit.positive o)) (back_stays level entries lit.var w.0 w.1 (omega (arith, n, l)) ∙ sym w.1) ∙ h

pub level_gone : (level top other : ℕ) (entries : List Entry) (v : ℕ) → Apart entries → AreLevels top entries → level_in entries v ≡ Some other → level < other → spot_in (back level entries) v ≡ None
level_gone level top other entries v apart levels at l =
    let w = spot_with entries v other at in
    let n = w.2 in
    back_gone level top entries v w.0 apart levels w.1 (omega (arith, n, l))

-- ---- the highest level

between_parts : (level : ℕ) (o : Option ℕ) → is_between level o ≡ true → (other : ℕ) × (o ≡ Some other) × (0 < other) × (other < level)
between_parts level None h = absurd (false≢true h)
between_parts level (Some other) h =
    let p = and_parts (nat_lt 0 other) (nat_lt other level) h in
    (other, refl, ltb-true 0 other p.0, ltb-true other level p.1)

pub lower_level : (level : ℕ) (entries : List Entry) (lit : Lit) → is_lower level entries lit ≡ true → (other : ℕ) × (level_in entries lit.var ≡ Some other) × (0 < other) × (other < level)
lower_level level entries lit h = between_parts level (level_in entries lit.var) h

pub highest_most : (entries : List Entry) (lits : List Lit) (lit : Lit) (other : ℕ) → In lit lits → level_in entries lit.var ≡ Some other → other ≤ highest entries lits
highest_most entries [] lit other i at = absurd i
highest_most entries (x ∷ lits) lit other i at =
    ⊎_elim (λ (e : x ≡ lit). let n : level_or (level_in entries x.var) ≡ other = ap (λ (l : Lit). level_or (level_in entries l.var)) e ∙ ap level_or at in omega (arith, n)) (λ r. let m = highest_most entries lits lit other r at in omega (arith, m)) i

pub highest_below : (level : ℕ) (entries : List Entry) (lits : List Lit) → 0 < level → list_all (is_lower level entries) lits ≡ true → highest entries lits < level
highest_below level entries [] l h = l
highest_below level entries (x ∷ lits) l h =
    let p = and_parts (is_lower level entries x) (list_all (is_lower level entries) lits) h in
    let w = lower_level level entries x p.0 in
    let n = ap level_or w.1 in
    let m = w.3 in
    let rest = highest_below level entries lits l p.1 in
    omega (arith, n, m, rest)
