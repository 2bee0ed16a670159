-- A total trail whose levels are the walk is what the walk finds, or shows that a clause is needed.
use Rattle.std.proofs.Common.{◌≡◌, ℕ, suc, Bool, true, false, cond, not, List, refl, sym, ap, subst, ◌∙◌, ⊎_elim, arith}
use Rattle.std.specs.Prelude.{Option, Some, None, is_some}
use Rattle.std.specs.List.{list_any, find}
use Rattle.std.proofs.lemmas.Bool.{and_parts, and_from, false≢true}
use Rattle.tel_base.specs.declared.literals.Lit.{Lit}
use Rattle.tel_base.specs.Literals.{lit_of, negate}
use Rattle.tel_base.proofs.Members.{any_found, any_from}
use Rattle.normal_program.specs.declared.modules.StepModule.{StepModule}
use Rattle.normal_program.specs.StableSets.{Set}
use Rattle.clause_store.specs.Closure.{Clause, TwoOpen, IsClosure}
use Rattle.lit_trail.specs.declared.assignment.Entry.{Entry}
use Rattle.lit_trail.specs.declared.assignment.Spot.{Spot}
use Rattle.lit_trail.specs.Entries.{back, value_in, spot_in, spot_value, same_sign}
use Rattle.lit_trail.specs.Unassigned.{is_open}
use Rattle.lit_trail.specs.Sound.{holds}
use Rattle.lit_trail.specs.Sound as sounds
use Rattle.lit_trail.proofs.LevelSteps.{back_all}
use Rattle.unfounded_sets.specs.Unfounded.{is_no, is_true}
use Rattle.completion.specs.Completions.{lit_true}
use Rattle.search_laws.specs.Walks.{IsTotalWalk}
use Rattle.search_laws.specs.Lengths.{Length, length_of, in_program}
use Rattle.search_laws.specs.Needed.{IsWalkSet}
use Rattle.search_laws.specs.Founded.{true_set, IsTotalAt, TrailIsFound, TrailIsUnstable, ClosedMakesTrue}
use Rattle.search_laws.proofs.TrailLevels.{levels_are_total}
use Rattle.search_laws.proofs.TotalTrails.{none_is_stable, some_is_unstable}

-- ---- values

true_same : (spot : Option Spot) → is_no (spot_value false spot) ≡ sounds.is_true (spot_value true spot)
true_same None = refl
true_same (Some spot) = (elim (spot.positive) as (λ (b : Bool). not (same_sign b false) ≡ same_sign b true) [ true ↦ refl | false ↦ refl ])

-- a variable is true where it holds
pub true_holds : (entries : List Entry) (v : ℕ) → is_true entries v ≡ holds entries (lit_of v)
true_holds entries v = true_same (spot_in entries v)

false_same : (spot : Option Spot) → sounds.is_true (spot_value false spot) ≡ true → is_no (spot_value false spot) ≡ false
false_same None h = absurd (false≢true h)
false_same (Some spot) h = ap not h

-- so a literal is true that holds
pub lit_holds_true : (entries : List Entry) (lit : Lit) → holds entries lit ≡ true → lit_true (is_true entries) lit ≡ true
lit_holds_true entries lit h =
    (elim (lit.positive) as (λ (b : Bool). sounds.is_true (spot_value b (spot_in entries lit.var)) ≡ true → cond b (is_true entries lit.var) (not (is_true entries lit.var)) ≡ true) [
      | true ↦ λ t. true_holds entries lit.var ∙ t
      | false ↦ λ t. ap not (false_same (spot_in entries lit.var) t)
    ]) h

value_open : (positive : Bool) (spot : Option Spot) → is_some (spot_value positive spot) ≡ true → sounds.is_true (spot_value (not positive) spot) ≡ false → sounds.is_true (spot_value positive spot) ≡ true
value_open positive None some f = absurd (false≢true some)
value_open true (Some spot) some f = (elim (spot.positive) as (λ (b : Bool). same_sign b false ≡ false → same_sign b true ≡ true) [ true ↦ λ _. refl | false ↦ λ g. absurd (false≢true (sym g)) ]) f
value_open false (Some spot) some f = (elim (spot.positive) as (λ (b : Bool). same_sign b true ≡ false → same_sign b false ≡ true) [ true ↦ λ g. absurd (false≢true (sym g)) | false ↦ λ _. refl ]) f

-- a literal with a value that isn't false holds
pub value_holds : (entries : List Entry) (lit : Lit) → is_some (value_in entries lit) ≡ true → holds entries (negate lit) ≡ false → holds entries lit ≡ true
value_holds entries lit some f = value_open lit.positive (spot_in entries lit.var) some f

pub closed_makes_true : ClosedMakesTrue
closed_makes_true clauses entries clause level i all =
    ⊎_elim (λ (t : list_any (holds entries) clause ≡ true).
    let w = any_found (holds entries) clause t in
    any_from (lit_true (is_true entries)) clause w.0 w.1 (lit_holds_true entries w.0 w.2)) (λ (two : TwoOpen (holds entries) clause).
    any_from (lit_true (is_true entries)) clause two.first two.has_first (lit_holds_true entries two.first (value_holds entries two.first (all two.first two.has_first) two.first_open))) (level.settled clause i)

-- ---- the walk

walk_set : (length : Length) (clauses : List Clause) (entries : List Entry) (decisions : List Lit) → IsClosure clauses decisions (holds entries) → IsWalkSet length clauses decisions (true_set length entries)
walk_set length clauses entries decisions closure = record {
  own = λ v t. (and_parts (in_program length v) (is_true entries v) t).0;
  derived = λ v t. closure.derived (lit_of v) (sym (true_holds entries v) ∙ (and_parts (in_program length v) (is_true entries v) t).1);
  whole = λ v own up. and_from (in_program length v) (is_true entries v) own (true_holds entries v ∙ closure.whole (lit_of v) up);
}

module _ (steps : ℕ → StepModule) (n : ℕ) (plain : Set) (clauses : List Clause) (entries : List Entry) (m : ℕ) (decisions : List Lit) (total : IsTotalAt steps n plain clauses entries m decisions) where
  all : back (suc m) entries ≡ entries
  all = back_all entries (suc m) (suc m) total.top (omega arith)

  walk : IsTotalWalk clauses (length_of steps n).ending (length_of steps n).visible decisions × IsClosure clauses decisions (holds (back (suc m) entries))
  walk = levels_are_total (length_of steps n) clauses entries m decisions total.walking (subst (λ (es : List Entry). find (is_open es) (length_of steps n).visible ≡ None) (sym all) total.visible)

  pub set_of : IsWalkSet (length_of steps n) clauses decisions (true_set (length_of steps n) entries)
  set_of = walk_set (length_of steps n) clauses entries decisions (subst (λ (es : List Entry). IsClosure clauses decisions (holds es)) all walk.1)

  pub total_of : IsTotalWalk clauses (length_of steps n).ending (length_of steps n).visible decisions
  total_of = walk.0

pub trail_is_found : TrailIsFound
trail_is_found steps n plain clauses entries m decisions total none = record {
  total = total_of steps n plain clauses entries m decisions total;
  set = set_of steps n plain clauses entries m decisions total;
  stable = none_is_stable steps n plain entries total.modules total.trail none;
}

pub trail_is_unstable : TrailIsUnstable
trail_is_unstable steps n plain clauses entries m decisions U v total unfounded inside t = record {
  total = total_of steps n plain clauses entries m decisions total;
  set = set_of steps n plain clauses entries m decisions total;
  unstable = λ stable. some_is_unstable steps n plain entries U v total.modules total.trail unfounded inside t stable;
}
