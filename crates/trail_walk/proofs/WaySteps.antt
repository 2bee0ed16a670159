-- How a trail stays on its way.
use Rattle.std.proofs.Common.{◌≡◌, ℕ, zero, suc, ◌+◌, ◌<◌, ◌≤◌, Bool, true, false, not, ◌&&◌, List, [], ◌∷◌, ◌++◌, refl, sym, ap, subst, ◌∙◌, ◌⊎◌, inl, inr, ⊎_elim, arith}
use Rattle.std.specs.Prelude.{Option, Some, None, is_some, ◌==◌}
use Rattle.std.specs.List.{list_all, find}
use Rattle.std.proofs.lemmas.Bool.{cases_Bool, and_parts, eqb-true, eq-eqb, cond-true, cond-false, false≢true}
use Rattle.tel_base.specs.declared.literals.Lit.{Lit}
use Rattle.tel_base.specs.Literals.{lit_of, negate}
use Rattle.tel_base.specs.Members.{In}
use Rattle.tel_base.proofs.Members.{In-list_all}
use Rattle.clause_store.specs.declared.store.ClauseId.{ClauseId}
use Rattle.clause_store.specs.Held.{clause_at}
use Rattle.clause_store.specs.Closure.{Clause, Up, Conflict}
use Rattle.clause_store.proofs.Closures.{up_start, up_grows}
use Rattle.clause_store.proofs.Levels.{In-clause_at}
use Rattle.normal_program.specs.ModuleClauses.{no_lit}
use Rattle.lit_trail.specs.declared.assignment.Spot.{Spot}
use Rattle.lit_trail.specs.declared.assignment.Entry.{Entry}
use Rattle.lit_trail.specs.Entries.{View, spot_in, spot_value, same_sign, value_in, decision_in, is_decided, back, Apart}
use Rattle.lit_trail.specs.Levels.{AreLevels, AreOpened, AreWithin}
use Rattle.lit_trail.specs.Sound.{holds, is_true, decided_lits, ReasonsHold}
use Rattle.lit_trail.specs.Unassigned.{is_open}
use Rattle.lit_trail.proofs.Derived.{decided_up}
use Rattle.lit_trail.proofs.LevelSteps.{levels_more, dropped, passed, given, back_all, decision_above}
use Rattle.lit_trail.proofs.Values.{holds_on}
use Rattle.lit_trail.proofs.TableSteps.{here}
use Rattle.watch_propagate.specs.Propagation.{Grown, IsFalseClause}
use Rattle.search_laws.specs.Lengths.{Length}
use Rattle.search_laws.specs.Levels.{AreDecisions}
use Rattle.trail_walk.specs.Ways.{IsOnWay}

pub within_wider : (vars more : ℕ) (entries : List Entry) → vars ≤ more → AreWithin vars entries → AreWithin more entries
within_wider vars more [] l within = tt
within_wider vars more (entry ∷ older) l within = (let a = within.0 in omega (arith, a, l), within_wider vars more older l within.1)

-- ---- conflicts

-- level 0 has no decision
pub none_decided : (entries : List Entry) → AreLevels 0 entries → AreOpened entries → decided_lits entries ≡ []
none_decided [] levels opened = refl
none_decided (entry ∷ older) levels opened =
    let rest = none_decided older (levels_more older entry.level 0 levels.0 levels.1) opened.1 in
    (elim (entry.reason) as (λ (o : Option ClauseId). (o ≡ None → 0 < entry.level) → decided_lits (record { lit = entry.lit; level = entry.level; reason = o } ∷ older) ≡ []) [
      | None ↦ λ above. absurd (let a = levels.0 in let b = above refl in omega (arith, a, b))
      | Some id ↦ λ above. rest
    ]) (λ none. (opened.0 none).0)

-- a false clause conflicts with what its decisions derive from
pub false_conflict : (clauses : List Clause) (entries : List Entry) (start : List Lit) (id : ClauseId) → ReasonsHold clauses entries → IsFalseClause clauses entries id → ((lit : Lit) → In lit (decided_lits entries) → Up clauses start lit) → Conflict clauses start
false_conflict clauses entries start id reasons false_clause has =
    let clause = clause_at clauses id.place in
    inr (clause, In-clause_at clauses id.place false_clause.0, λ lit i. up_grows clauses clauses (decided_lits entries) start (λ c j. j) has (negate lit) (decided_up clauses entries reasons (negate lit) (In-list_all (λ (l : Lit). holds entries (negate l)) lit clause false_clause.1 i)))

other_sign : (s p : Bool) → same_sign s p ≡ false → same_sign s (not p) ≡ true
other_sign true true h = absurd (false≢true (sym h))
other_sign true false h = refl
other_sign false true h = refl
other_sign false false h = absurd (false≢true (sym h))

-- a false literal has a negation that holds
pub value_false : (entries : List Entry) (lit : Lit) → value_in entries lit ≡ Some false → holds entries (negate lit) ≡ true
value_false entries lit h =
    (elim (spot_in entries lit.var) as (λ (o : Option Spot). spot_value lit.positive o ≡ Some false → is_true (spot_value (not lit.positive) o) ≡ true) [
      | None ↦ λ e. absurd (cc)
      | Some spot ↦ λ e. other_sign spot.positive lit.positive (cc)
    ]) h

pub value_true : (entries : List Entry) (lit : Lit) → value_in entries lit ≡ Some true → holds entries lit ≡ true
value_true entries lit h = ap is_true h

pub value_none : (entries : List Entry) (lit : Lit) → value_in entries lit ≡ None → spot_in entries lit.var ≡ None
value_none entries lit h =
    (elim (spot_in entries lit.var) as (λ (o : Option Spot). spot_value lit.positive o ≡ None → o ≡ None) [ None ↦ λ e. refl | Some spot ↦ λ e. absurd (cc) ]) h

-- the end conflicts where it is false already
pub end_conflict : (clauses : List Clause) (entries : List Entry) (end : Lit) → ReasonsHold clauses entries → AreLevels 0 entries → AreOpened entries → holds entries (negate end) ≡ true → Conflict clauses (end ∷ [])
end_conflict clauses entries end reasons levels opened denied =
    let start = end ∷ [] in
    let has : (lit : Lit) → In lit (decided_lits entries) → Up clauses start lit = λ lit i. absurd (subst (λ (ls : List Lit). In lit ls) (none_decided entries levels opened) i) in
    inl (end, up_start clauses start end (inl refl), up_grows clauses clauses (decided_lits entries) start (λ c j. j) has (negate end) (decided_up clauses entries reasons (negate end) denied))

pub false_at_first : (clauses : List Clause) (entries : List Entry) (end : Lit) (id : ClauseId) → ReasonsHold clauses entries → AreLevels 0 entries → AreOpened entries → IsFalseClause clauses entries id → Conflict clauses (end ∷ [])
false_at_first clauses entries end id reasons levels opened false_clause =
    false_conflict clauses entries (end ∷ []) id reasons false_clause (λ lit i. absurd (subst (λ (ls : List Lit). In lit ls) (none_decided entries levels opened) i))

-- ---- the end

pub ended_open : (entries : List Entry) (end : Lit) → AreLevels 0 entries → holds entries end ≡ true → (holds (back 1 entries) end ≡ true) × ((lit : Lit) → decision_in entries 1 ≡ Some lit → end ≡ lit)
ended_open entries end levels h =
    (subst (λ (es : List Entry). holds es end ≡ true) (sym (back_all entries 0 1 levels (omega arith))) h, λ lit is. absurd (let none = decision_above entries 0 1 levels (omega arith) in cc))

pub ended_decide : (entries : List Entry) (end : Lit) → AreLevels 0 entries → spot_in entries end.var ≡ None →
    (holds (back 1 (record { lit = end; level = 1; reason = None } ∷ entries)) end ≡ true) × ((lit : Lit) → decision_in (record { lit = end; level = 1; reason = None } ∷ entries) 1 ≡ Some lit → end ≡ lit)
ended_decide entries end levels free =
    let entry : Entry = record { lit = end; level = 1; reason = None } in
    let all = back_all (entry ∷ entries) 1 1 (omega arith, levels_more entries 0 1 (omega arith) levels) (omega arith) in
    (subst (λ (es : List Entry). holds es end ≡ true) (sym all) (said_holds end (spot_in (entry ∷ entries) end.var) (here entry entries end.var refl)), λ lit is. cc)
  where
    said_holds : (lit : Lit) (o : Option Spot) → o ≡ Some (record { positive = lit.positive; level = 1; reason = None }) → is_true (spot_value lit.positive o) ≡ true
    said_holds lit o is = subst (λ (p : Option Spot). is_true (spot_value lit.positive p) ≡ true) (sym is) (elim (lit.positive) as (λ (b : Bool). same_sign b b ≡ true) [ true ↦ refl | false ↦ refl ])

-- ---- implied literals

abbrev are_implied : ℕ → List Entry → Bool
are_implied level more = list_all (λ (entry : Entry). (entry.level == level) && not (is_decided entry.reason)) more

first_implied : (level : ℕ) (entry : Entry) (more : List Entry) → are_implied level (entry ∷ more) ≡ true → (entry.level ≡ level) × (is_decided entry.reason ≡ false) × (are_implied level more ≡ true)
first_implied level entry more h =
    let both = and_parts ((entry.level == level) && not (is_decided entry.reason)) (are_implied level more) h in
    let one = and_parts (entry.level == level) (not (is_decided entry.reason)) both.0 in
    (eqb-true entry.level level one.0, ⊎_elim (λ (t : is_decided entry.reason ≡ true). absurd (false≢true (sym (ap not t) ∙ one.1))) (λ (f : is_decided entry.reason ≡ false). f) (cases_Bool (is_decided entry.reason)), both.1)

back_implied : (more old : List Entry) (level k : ℕ) → are_implied level more ≡ true → k < level → back k (more ++ old) ≡ back k old
back_implied [] old level k h l = refl
back_implied (entry ∷ more) old level k h l =
    let f = first_implied level entry more h in
    let at = f.0 in
    dropped k entry (more ++ old) (omega (arith, at, l)) ∙ back_implied more old level k f.2 l

decision_implied : (more old : List Entry) (level k : ℕ) → are_implied level more ≡ true → decision_in (more ++ old) k ≡ decision_in old k
decision_implied [] old level k h = refl
decision_implied (entry ∷ more) old level k h =
    let f = first_implied level entry more h in
    given entry (more ++ old) k f.1 ∙ decision_implied more old level k f.2

holds_implied : (more old : List Entry) (lit : Lit) → Apart (more ++ old) → holds old lit ≡ true → holds (more ++ old) lit ≡ true
holds_implied [] old lit apart h = h
holds_implied (entry ∷ more) old lit apart h = holds_on entry (more ++ old) lit apart.0 (holds_implied more old lit apart.1 h)

levels_old : (more old : List Entry) (top : ℕ) → AreLevels top (more ++ old) → AreLevels top old
levels_old [] old top levels = levels
levels_old (entry ∷ more) old top levels = levels_more old entry.level top levels.0 (levels_old more old entry.level levels.1)

-- ---- decisions

-- they are those of what stands below the levels
decisions_same : (length : Length) (old new : List Entry) (m : ℕ) (decisions : List Lit) → ((k : ℕ) → k ≤ m → back k new ≡ back k old) → ((k : ℕ) → k ≤ suc m → decision_in new k ≡ decision_in old k) → AreDecisions length old m decisions → AreDecisions length new m decisions
decisions_same length old new zero decisions backs at are = are
decisions_same length old new (suc m) decisions backs at are = (
  are.0,
  are.1,
  ap (λ (es : List Entry). find (is_open es) length.visible) (backs (suc m) (omega arith)) ∙ are.2,
  at (suc (suc m)) (omega arith) ∙ are.3,
  are.4,
  decisions_same length old new m are.1 (λ k l. backs k (omega (arith, l))) (λ k l. at k (omega (arith, l))) are.5,
)

zero_or : (n : ℕ) → (n ≡ 0) ⊎ (0 < n)
zero_or zero = inl refl
zero_or (suc n) = inr (omega arith)

-- a way goes on where literals are implied
pub way_implied : (length : Length) (old new : View) → Grown old.level old.entries new.entries → new.level ≡ old.level → AreLevels new.level new.entries → Apart new.entries → IsOnWay length old → IsOnWay length new
way_implied length old new grown same levels apart way =
    let more = grown.0 in
    let is = grown.1 in
    let implied = grown.2 in
    let last = way.last in
    let level = way.level in
    let levels_all : AreLevels old.level (more ++ old.entries) = subst (AreLevels old.level) is (subst (λ (n : ℕ). AreLevels n new.entries) same levels) in
    let backs : (k : ℕ) → k ≤ last → back k new.entries ≡ back k old.entries = λ k l. ap (back k) is ∙ back_implied more old.entries old.level k implied (omega (arith, l, level)) in
    let at : (k : ℕ) → decision_in new.entries k ≡ decision_in old.entries k = λ k. ap (λ (es : List Entry). decision_in es k) is ∙ decision_implied more old.entries old.level k implied in
    record {
      ended = record {
        holds_there = there way.ended.holds_there;
        first = λ lit d. way.ended.first lit (sym (at 1) ∙ d);
      };
      last = last;
      level = same ∙ level;
      decisions = way.decisions;
      decided = decisions_same length old.entries new.entries last way.decisions backs (λ k l. at k) way.decided;
    }
  where
    there : holds (back 1 old.entries) (lit_of length.ending) ≡ true → holds (back 1 new.entries) (lit_of length.ending) ≡ true
    there h =
        let more = grown.0 in
        let is = grown.1 in
        let level = way.level in
        let all : AreLevels old.level (more ++ old.entries) = subst (AreLevels old.level) is (subst (λ (n : ℕ). AreLevels n new.entries) same levels) in
        ⊎_elim (λ (first : way.last ≡ 0).
        let under : AreLevels 1 old.entries = levels_more old.entries old.level 1 (omega (arith, level, first)) (levels_old more old.entries old.level all) in
        let whole : back 1 new.entries ≡ more ++ old.entries = ap (back 1) is ∙ back_all (more ++ old.entries) old.level 1 all (omega (arith, level, first)) in
        let held : holds old.entries (lit_of length.ending) ≡ true = subst (λ (es : List Entry). holds es (lit_of length.ending) ≡ true) (back_all old.entries 1 1 under (omega arith)) h in
        subst (λ (es : List Entry). holds es (lit_of length.ending) ≡ true) (sym whole) (holds_implied more old.entries (lit_of length.ending) (subst Apart is apart) held)) (λ (above : 0 < way.last).
        subst (λ (es : List Entry). holds es (lit_of length.ending) ≡ true) (sym (ap (back 1) is ∙ back_implied more old.entries old.level 1 grown.2 (omega (arith, level, above)))) h) (zero_or way.last)

-- and by the next decision
pub way_decided : (length : Length) (old new : View) (v : ℕ) → AreLevels old.level old.entries → new.entries ≡ record { lit = no_lit v; level = old.level + 1; reason = None } ∷ old.entries → new.level ≡ old.level + 1 → find (is_open old.entries) length.visible ≡ Some v → IsOnWay length old → IsOnWay length new
way_decided length old new v levels is same first way =
    let entry : Entry = record { lit = no_lit v; level = old.level + 1; reason = None } in
    let level = way.level in
    let last = way.last in
    let back_old : (k : ℕ) → k ≤ suc last → back k new.entries ≡ back k old.entries = λ k l. ap (back k) is ∙ dropped k entry old.entries (omega (arith, l, level)) in
    let at : (k : ℕ) → k ≤ suc last → decision_in new.entries k ≡ decision_in old.entries k = λ k l. ap (λ (es : List Entry). decision_in es k) is ∙ passed entry old.entries k (λ e. absurd (omega (arith, e, l, level))) in
    let all : back (suc last) new.entries ≡ old.entries = back_old (suc last) (omega arith) ∙ back_all old.entries old.level (suc last) levels (omega (arith, level)) in
    let there : ((old.level + 1) == suc (suc last)) ≡ true = eq-eqb (old.level + 1) (suc (suc last)) (omega (arith, level)) in
    let decision : decision_in new.entries (suc (suc last)) ≡ Some (no_lit v) = ap (λ (es : List Entry). decision_in es (suc (suc last))) is ∙ cond-true (((old.level + 1) == suc (suc last)) && true) (Some (no_lit v)) (decision_in old.entries (suc (suc last))) (ap (λ (b : Bool). b && true) there) in
    record {
      ended = record {
        holds_there = subst (λ (es : List Entry). holds es (lit_of length.ending) ≡ true) (sym (back_old 1 (omega arith))) way.ended.holds_there;
        first = λ lit d. way.ended.first lit (sym (at 1 (omega arith)) ∙ d);
      };
      last = suc last;
      level = omega (arith, same, level);
      decisions = no_lit v ∷ way.decisions;
      decided = (
        v,
        way.decisions,
        ap (λ (es : List Entry). find (is_open es) length.visible) all ∙ first,
        decision,
        refl,
        decisions_same length old.entries new.entries last way.decisions (λ k l. back_old k (omega (arith, l))) (λ k l. at k l) way.decided,
      );
    }

-- what is found is among the elements, and passes
pub found_in : (p : ℕ → Bool) (xs : List ℕ) (v : ℕ) → find p xs ≡ Some v → In v xs × (p v ≡ true)
found_in p [] v h = absurd (cc)
found_in p (x ∷ xs) v h =
    ⊎_elim (λ (t : p x ≡ true). let is : x ≡ v = (let e = sym (cond-true (p x) (Some x) (find p xs) t) ∙ h in cc) in (inl is, subst (λ (y : ℕ). p y ≡ true) is t)) (λ (f : p x ≡ false).
    let rest = found_in p xs v (sym (cond-false (p x) (Some x) (find p xs) f) ∙ h) in
    (inr rest.0, rest.1)) (cases_Bool (p x))

pub open_free : (entries : List Entry) (v : ℕ) → is_open entries v ≡ true → spot_in entries v ≡ None
open_free entries v h =
    (elim (spot_in entries v) as (λ (o : Option Spot). not (is_some o) ≡ true → o ≡ None) [ None ↦ λ e. refl | Some spot ↦ λ e. absurd (false≢true e) ]) h
