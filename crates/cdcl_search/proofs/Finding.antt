-- What a walk along the trail says of the length of modules.
use Rattle.std.proofs.Common.{◌≡◌, ℕ, zero, suc, ◌+◌, Bool, true, false, not, List, [], ◌∷◌, refl, sym, ap, subst, ◌∙◌, ◌⊎◌, inl, inr, ⊎_elim, arith}
use Rattle.std.specs.Prelude.{Option, Some, None, is_some, nat_lt}
use Rattle.std.specs.List.{find}
use Rattle.std.proofs.lemmas.Bool.{or_left, or_right, cond-true, cond-false, false≢true, cases_Bool}
use Rattle.tel_base.specs.declared.literals.Lit.{Lit}
use Rattle.tel_base.specs.Literals.{lit_of, negate}
use Rattle.tel_base.proofs.Members.{In, In-list_all}
use Rattle.normal_program.specs.declared.modules.StepModule.{StepModule}
use Rattle.normal_program.specs.ModuleClauses.{no_lit}
use Rattle.normal_program.specs.Grounds.{Layers}
use Rattle.clause_store.specs.Closure.{Clause, refutes, IsClosure}
use Rattle.clause_store.proofs.Levels.{closure_closed}
use Rattle.lit_trail.specs.declared.assignment.Entry.{Entry}
use Rattle.lit_trail.specs.declared.assignment.Spot.{Spot}
use Rattle.lit_trail.specs.Entries.{View, spot_in, spot_value, same_sign, back, Apart}
use Rattle.lit_trail.proofs.Values.{holds_on}
use Rattle.lit_trail.specs.Levels.{AreLevels, AreOrdered}
use Rattle.lit_trail.specs.Sound.{holds, is_true, decided_lits, IsSound}
use Rattle.lit_trail.specs.Unassigned.{is_open, visible_below}
use Rattle.lit_trail.proofs.LevelSteps.{back_all}
use Rattle.search_laws.specs.Lengths.{Length, length_of}
use Rattle.search_laws.specs.Levels.{AreDecisions}
use Rattle.search_laws.specs.Walks.{IsStuckWalk}
use Rattle.search_laws.specs.Needed.{IsFound, Needed, IsCut}
use Rattle.search_laws.specs.Founded.{IsTotalAt, true_set}
use Rattle.search_laws.specs.Gaps.{has_value, IsVisibleTotal}
use Rattle.search_laws.proofs.TrailLevels.{levels_are_total}
use Rattle.search_laws.proofs.FoundTrails.{trail_is_found, trail_is_unstable}
use Rattle.search_laws.proofs.Bases.{visible_is_base}
use Rattle.search_laws.proofs.AllValues.{gaps_are_total}
use Rattle.unfounded_sets.specs.declared.founded.LoopNogood.{LoopNogood}
use Rattle.unfounded_sets.specs.LoopClauses.{IsFalseLoop, NoneHolds, among}
use Rattle.unfounded_sets.specs.Unfounded.{IsUnfounded}
use Rattle.trail_walk.specs.Ways.{IsEnded, IsOnWay}
use Rattle.trail_walk.proofs.WalkEnding.{walking}
use Rattle.cdcl_search.proofs.Ends.{min_left}
use Rattle.cdcl_search.specs.Searches as searches
use Rattle.cdcl_search.specs.Searches.{Begun, clauses_of, visible_of, ending_of, walk_length, IsLength}
use Rattle.cdcl_search.specs.Advancing.{IsStuck, IsTotal}
use Rattle.cdcl_search.specs.Steps.{IsOfModules, IsNeeded, CutsWalk}

-- ---- the way of a length

decisions_same : (a b : Length) (entries : List Entry) (m : ℕ) (decisions : List Lit) → a.ending ≡ b.ending → a.visible ≡ b.visible → AreDecisions a entries m decisions → AreDecisions b entries m decisions
decisions_same a b entries zero decisions e v d = subst (λ (x : ℕ). lit_of x ∷ [] ≡ decisions) e d
decisions_same a b entries (suc m) decisions e v d =
    (d.0, d.1, subst (λ (vs : List ℕ). find (is_open (back (suc m) entries)) vs ≡ Some d.0) v d.2, d.3, d.4, decisions_same a b entries m d.1 e v d.5)

pub way_same : (a b : Length) (trail : View) → a.ending ≡ b.ending → a.visible ≡ b.visible → IsOnWay a trail → IsOnWay b trail
way_same a b trail e v way = record {
  ended = subst (λ (x : ℕ). IsEnded (lit_of x) trail) e way.ended;
  last = way.last;
  level = way.level;
  decisions = way.decisions;
  decided = decisions_same a b trail.entries way.last way.decisions e v way.decided;
}

-- ---- values

has_by_spot : (spot : Option Spot) → not (is_some spot) ≡ false → (is_true (spot_value true spot) ≡ true) ⊎ (is_true (spot_value false spot) ≡ true)
has_by_spot None h = absurd (false≢true (sym h))
has_by_spot (Some spot) h = (elim (spot.positive) as (λ (p : Bool). (same_sign p true ≡ true) ⊎ (same_sign p false ≡ true)) [ true ↦ inl refl | false ↦ inr refl ])

valued : (entries : List Entry) (v : ℕ) → is_open entries v ≡ false → has_value (holds entries) v ≡ true
valued entries v h = ⊎_elim (λ t. or_left (holds entries (lit_of v)) (holds entries (no_lit v)) t) (λ t. or_right (holds entries (lit_of v)) (holds entries (no_lit v)) t) (has_by_spot (spot_in entries v) h)

none_in : (p : ℕ → Bool) (xs : List ℕ) (v : ℕ) → find p xs ≡ None → In v xs → p v ≡ false
none_in p [] v h i = absurd i
none_in p (x ∷ xs) v h i =
    ⊎_elim (λ (t : p x ≡ true). absurd (none_some x (sym h ∙ cond-true (p x) (Some x) (find p xs) t))) (λ (f : p x ≡ false). ⊎_elim (λ (e : x ≡ v). subst (λ (y : ℕ). p y ≡ false) e f) (λ m. none_in p xs v (sym (cond-false (p x) (Some x) (find p xs) f) ∙ h) m) i) (cases_Bool (p x))
  where
    none_some : (y : ℕ) → None ≡ Some y → ⊥
    none_some y e = absurd (cc)

-- what holds of a part of the trail holds
pub of_back : (level : ℕ) (entries : List Entry) (lit : Lit) → Apart entries → holds (back level entries) lit ≡ true → holds entries lit ≡ true
of_back level [] lit apart h = h
of_back level (entry ∷ older) lit apart h =
    ⊎_elim
    (λ (t : nat_lt level entry.level ≡ true). holds_on entry older lit apart.0 (of_back level older lit apart.1 (subst (λ (es : List Entry). holds es lit ≡ true) (cond-true (nat_lt level entry.level) (back level older) (entry ∷ older) t) h)))
    (λ (f : nat_lt level entry.level ≡ false). subst (λ (es : List Entry). holds es lit ≡ true) (cond-false (nat_lt level entry.level) (back level older) (entry ∷ older) f) h)
    (cases_Bool (nat_lt level entry.level))

-- ---- the length of modules

module _ (search : searches.View) (begun : Begun) (sound : IsSound (clauses_of search) search.trail) (levels : AreLevels search.trail.level search.trail.entries) (ordered : AreOrdered search.trail.vars search.trail.entries) (is : IsLength search.vars begun) (total : IsTotal (clauses_of search) begun search.trail) (steps : ℕ → StepModule) (of : IsOfModules search begun steps) where
  way : IsOnWay (length_of steps begun.n) search.trail
  way = way_same (walk_length begun) (length_of steps begun.n) search.trail (sym of.ending) (sym of.visible) total.way

  none_open : find (is_open search.trail.entries) (length_of steps begun.n).visible ≡ None
  none_open =
      let within = is.within in
      ap (find (is_open search.trail.entries)) of.visible
      ∙ ap (λ (n : ℕ). find (is_open search.trail.entries) (visible_below begun.space.counts n)) (sym (min_left begun.n (begun.space.greatest + 1) (omega (arith, within))))
      ∙ total.whole

  ended : holds search.trail.entries (lit_of (length_of steps begun.n).ending) ≡ true
  ended = of_back 1 search.trail.entries (lit_of (length_of steps begun.n).ending) ordered.apart (way.ended.holds_there)

  visible_total : IsVisibleTotal steps begun.n (clauses_of search) (holds search.trail.entries)
  visible_total = record {
    level = closure_closed (clauses_of search) (decided_lits search.trail.entries) (holds search.trail.entries) total.closed;
    held = of.held;
    ended = ended;
    visible = λ v i. valued search.trail.entries v (none_in (is_open search.trail.entries) (length_of steps begun.n).visible v none_open i);
  }

  at_total : IsTotalAt steps begun.n of.plain (clauses_of search) search.trail.entries way.last way.decisions
  at_total =
      let entries = search.trail.entries in
      let base = visible_is_base steps begun.n (clauses_of search) (holds entries) of.modules.some of.modules.settled visible_total in
      record {
        modules = of.modules;
        walking = walking (clauses_of search) (length_of steps begun.n) search.trail sound levels ordered.opened total.closed way;
        top = subst (λ (n : ℕ). AreLevels n entries) way.level levels;
        visible = none_open;
        trail = gaps_are_total steps begun.n of.plain of.rank (clauses_of search) entries of.modules of.ranked base ended;
      }

  closure : IsClosure (clauses_of search) way.decisions (holds search.trail.entries)
  closure =
      let entries = search.trail.entries in
      let all : back (suc way.last) entries ≡ entries = back_all entries (suc way.last) (suc way.last) at_total.top (omega arith) in
      let none : find (is_open (back (suc way.last) entries)) (length_of steps begun.n).visible ≡ None = subst (λ (es : List Entry). find (is_open es) (length_of steps begun.n).visible ≡ None) (sym all) none_open in
      subst (λ (es : List Entry). IsClosure (clauses_of search) way.decisions (holds es)) all (levels_are_total (length_of steps begun.n) (clauses_of search) entries way.last way.decisions at_total.walking none).1

  pub found_at : NoneHolds search.ground search.trail.entries → (decisions : List Lit) × IsFound (length_of steps begun.n) (clauses_of search) decisions (true_set (length_of steps begun.n) search.trail.entries) × IsClosure (clauses_of search) decisions (holds search.trail.entries)
  found_at none = (way.decisions, trail_is_found steps begun.n of.plain (clauses_of search) search.trail.entries way.last way.decisions at_total (subst (λ (layers : Layers). NoneHolds layers search.trail.entries) (sym of.ground) none), closure)

  pub needed_at : (nogood : LoopNogood) → IsFalseLoop search.ground search.trail.entries nogood → Needed (length_of steps begun.n) (clauses_of search)
  needed_at nogood false_loop =
      let entries = search.trail.entries in
      inr (way.decisions, true_set (length_of steps begun.n) entries, trail_is_unstable steps begun.n of.plain (clauses_of search) entries way.last way.decisions (among nogood.set.items) nogood.atom at_total (subst (λ (layers : Layers). IsUnfounded layers entries (among nogood.set.items)) (sym of.ground) false_loop.unfounded) false_loop.loop.within false_loop.holds)

  -- a clause that is false under the trail cuts the walk
  pub cuts_at : (nogood : LoopNogood) → IsFalseLoop search.ground search.trail.entries nogood → (clause : Clause) → refutes (holds search.trail.entries) clause ≡ true → IsCut (length_of steps begun.n) (clauses_of search) clause
  cuts_at nogood false_loop clause refuted =
      let entries = search.trail.entries in
      inr (
        way.decisions,
        true_set (length_of steps begun.n) entries,
        trail_is_unstable steps begun.n of.plain (clauses_of search) entries way.last way.decisions (among nogood.set.items) nogood.atom at_total (subst (λ (layers : Layers). IsUnfounded layers entries (among nogood.set.items)) (sym of.ground) false_loop.unfounded) false_loop.loop.within false_loop.holds,
        λ lit i. closure.derived (negate lit) (In-list_all (λ (k : Lit). holds entries (negate k)) lit clause refuted i),
      )

-- a stuck walk needs a clause
pub stuck_needed : (search : searches.View) (begun : Begun) (trail : View) → IsStuck (clauses_of search) begun trail → IsNeeded search begun
stuck_needed search begun trail stuck steps of =
    inl (stuck.decisions, subst (λ (vs : List ℕ). IsStuckWalk (clauses_of search) (length_of steps begun.n).ending vs stuck.decisions) (sym of.visible) (subst (λ (x : ℕ). IsStuckWalk (clauses_of search) x (visible_of begun) stuck.decisions) (sym of.ending) stuck.walk))

-- and one that is false under the trail cuts it
pub stuck_cuts : (search : searches.View) (begun : Begun) (trail : View) → IsStuck (clauses_of search) begun trail → (clause : Clause) → refutes (holds trail.entries) clause ≡ true → CutsWalk search begun clause
stuck_cuts search begun trail stuck clause refuted steps of =
    inl (
      stuck.decisions,
      subst (λ (vs : List ℕ). IsStuckWalk (clauses_of search) (length_of steps begun.n).ending vs stuck.decisions) (sym of.visible) (subst (λ (x : ℕ). IsStuckWalk (clauses_of search) x (visible_of begun) stuck.decisions) (sym of.ending) stuck.walk),
      λ lit i. stuck.derived (negate lit) (In-list_all (λ (k : Lit). holds trail.entries (negate k)) lit clause refuted i),
    )
