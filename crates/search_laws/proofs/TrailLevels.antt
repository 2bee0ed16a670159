-- The decisions of a trail level by level.
use Rattle.std.proofs.Common.{◌≡◌, ℕ, zero, suc, ◌≤◌, Bool, true, false, cond, not, ◌&&◌, ◌||◌, List, [], ◌∷◌, refl, sym, ap, subst, ◌∙◌, ◌⊎◌, inl, inr, ⊎_elim, arith}
use Rattle.std.specs.Prelude.{Option, Some, None, is_some, nat_lt, ◌==◌}
use Rattle.std.specs.List.{list_all, find}
use Rattle.std.proofs.lemmas.Bool.{cases_Bool, and_right, cond-true, cond-false, and_parts, and_from, ltb-true, ltb-false, lt-ltb, eqb-true, eq-eqb, false≢true}
use Rattle.std.proofs.lemmas.Option.{none-some, same_Some}
use Rattle.tel_base.specs.declared.literals.Lit.{Lit}
use Rattle.tel_base.specs.Literals.{lit_of}
use Rattle.tel_base.specs.Members.{In}
use Rattle.normal_program.specs.ModuleClauses.{no_lit}
use Rattle.clause_store.specs.declared.store.ClauseId.{ClauseId}
use Rattle.clause_store.specs.Closure.{Clause, Lits, Up, Conflict, IsClosure}
use Rattle.clause_store.proofs.Closures.{up_start, up_grows, conflict_grows}
use Rattle.lit_trail.specs.declared.assignment.Entry.{Entry}
use Rattle.lit_trail.specs.declared.assignment.Spot.{Spot}
use Rattle.lit_trail.specs.Entries.{back, decision_in, is_decided, spot_in, spot_value, same_sign}
use Rattle.lit_trail.specs.Levels.{AreLevels, AreOpened}
use Rattle.lit_trail.specs.Unassigned.{is_open}
use Rattle.lit_trail.specs.Sound.{holds, is_true, decided_lits}
use Rattle.lit_trail.proofs.LevelSteps.{back_all, back_back}
use Rattle.search_laws.specs.Lengths.{Length}
use Rattle.search_laws.specs.Levels.{AreDecisions, IsWalking, LevelsAreTotal, LevelsAreStuck}
use Rattle.search_laws.proofs.Climbing.{is_free, GoesUp, GoesUpTo, climb, climb_stuck}

-- ---- decisions among the literals

decided_on : (entry : Entry) (older : List Entry) (lit : Lit) → In lit (decided_lits older) → In lit (decided_lits (entry ∷ older))
decided_on entry older lit i =
    elim (is_decided entry.reason) as (λ (b : Bool). In lit (cond b (entry.lit ∷ decided_lits older) (decided_lits older))) [ true ↦ inr i | false ↦ i ]

decided_of : (k : ℕ) (entries : List Entry) (lit : Lit) → In lit (decided_lits (back k entries)) → In lit (decided_lits entries)
decided_of k [] lit i = i
decided_of k (entry ∷ older) lit i =
    ⊎_elim (λ (t : nat_lt k entry.level ≡ true).
    decided_on entry older lit (decided_of k older lit (subst (λ (es : List Entry). In lit (decided_lits es)) (cond-true (nat_lt k entry.level) (back k older) (entry ∷ older) t) i))) (λ (f : nat_lt k entry.level ≡ false).
    subst (λ (es : List Entry). In lit (decided_lits es)) (cond-false (nat_lt k entry.level) (back k older) (entry ∷ older) f) i) (cases_Bool (nat_lt k entry.level))

-- those of a level stand among those of the next one
decided_up_to : (k : ℕ) (entries : List Entry) (lit : Lit) → In lit (decided_lits (back k entries)) → In lit (decided_lits (back (suc k) entries))
decided_up_to k entries lit i =
    decided_of k (back (suc k) entries) lit (subst (λ (es : List Entry). In lit (decided_lits es)) (sym (back_back entries k (suc k) (omega arith))) i)

pub below_all : (entries : List Entry) (top k : ℕ) → AreLevels top entries → list_all (λ (e : Entry). nat_lt e.level (suc k)) entries ≡ true → AreLevels k entries
below_all [] top k levels h = tt
below_all (entry ∷ older) top k levels h =
    let p = and_parts (nat_lt entry.level (suc k)) (list_all (λ (e : Entry). nat_lt e.level (suc k)) older) h in
    (omega (arith, ltb-true entry.level (suc k) p.0), levels.1)

ne_eqb : (a b : ℕ) → (a ≡ b → ⊥) → (a == b) ≡ false
ne_eqb a b ne = ⊎_elim (λ (t : (a == b) ≡ true). absurd (ne (eqb-true a b t))) (λ f. f) (cases_Bool (a == b))

le-ltb-false : (k level : ℕ) → level ≡ k → nat_lt k level ≡ false
le-ltb-false k level e = ⊎_elim (λ (t : nat_lt k level ≡ true). absurd (omega (arith, e, ltb-true k level t))) (λ f. f) (cases_Bool (nat_lt k level))

reason_none : (reason : Option ClauseId) → is_decided reason ≡ true → reason ≡ None
reason_none None h = refl
reason_none (Some id) h = absurd (false≢true h)

-- the decision of a level is among the decisions up to it
decision_there : (k : ℕ) (entries : List Entry) (lit : Lit) → decision_in entries k ≡ Some lit → In lit (decided_lits (back k entries))
decision_there k [] lit h = absurd (none-some lit h)
decision_there k (entry ∷ older) lit h =
    let here = (entry.level == k) && is_decided entry.reason in
    ⊎_elim (λ (t : here ≡ true).
    let p = and_parts (entry.level == k) (is_decided entry.reason) t in
    let is : entry.lit ≡ lit = same_Some entry.lit lit (sym (cond-true here (Some entry.lit) (decision_in older k) t) ∙ h) in
    let at : nat_lt k entry.level ≡ false = le-ltb-false k entry.level (eqb-true entry.level k p.0) in
    subst (λ (es : List Entry). In lit (decided_lits es)) (sym (cond-false (nat_lt k entry.level) (back k older) (entry ∷ older) at)) (subst (λ (ls : List Lit). In lit ls) (sym (cond-true (is_decided entry.reason) (entry.lit ∷ decided_lits older) (decided_lits older) p.1)) (inl is))) (λ (f : here ≡ false).
    let rest : In lit (decided_lits (back k older)) = decision_there k older lit (sym (cond-false here (Some entry.lit) (decision_in older k) f) ∙ h) in
    ⊎_elim (λ (t : nat_lt k entry.level ≡ true). subst (λ (es : List Entry). In lit (decided_lits es)) (sym (cond-true (nat_lt k entry.level) (back k older) (entry ∷ older) t)) rest) (λ (g : nat_lt k entry.level ≡ false).
    subst (λ (es : List Entry). In lit (decided_lits es)) (sym (cond-false (nat_lt k entry.level) (back k older) (entry ∷ older) g)) (decided_on entry older lit (decided_of k older lit rest))) (cases_Bool (nat_lt k entry.level))) (cases_Bool here)

-- level 0 has none
pub none_decided : (top : ℕ) (entries : List Entry) (lit : Lit) → AreLevels top entries → AreOpened entries → In lit (decided_lits (back 0 entries)) → ⊥
none_decided top [] lit levels opened i = i
none_decided top (entry ∷ older) lit levels opened i =
    ⊎_elim (λ (t : nat_lt 0 entry.level ≡ true).
    none_decided entry.level older lit levels.1 opened.1 (subst (λ (es : List Entry). In lit (decided_lits es)) (cond-true (nat_lt 0 entry.level) (back 0 older) (entry ∷ older) t) i)) (λ (f : nat_lt 0 entry.level ≡ false).
    let low : entry.level ≤ 0 = ltb-false 0 entry.level f in
    let j : In lit (decided_lits (entry ∷ older)) = subst (λ (es : List Entry). In lit (decided_lits es)) (cond-false (nat_lt 0 entry.level) (back 0 older) (entry ∷ older) f) i in
    ⊎_elim (λ (d : is_decided entry.reason ≡ true). absurd (omega (arith, (opened.0 (reason_none entry.reason d)).0, low))) (λ (d : is_decided entry.reason ≡ false).
    let all : back 0 older ≡ older = back_all older entry.level 0 levels.1 low in
    none_decided entry.level older lit levels.1 opened.1 (subst (λ (es : List Entry). In lit (decided_lits es)) (sym all) (subst (λ (ls : List Lit). In lit ls) (cond-false (is_decided entry.reason) (entry.lit ∷ decided_lits older) (decided_lits older) d) j))) (cases_Bool (is_decided entry.reason))) (cases_Bool (nat_lt 0 entry.level))

-- a decision up to a level is one of a lower level, or its own
pub decided_cases : (k top : ℕ) (entries : List Entry) (lit : Lit) → AreLevels top entries → AreOpened entries → In lit (decided_lits (back (suc k) entries)) → In lit (decided_lits (back k entries)) ⊎ (decision_in entries (suc k) ≡ Some lit)
decided_cases k top [] lit levels opened i = absurd i
decided_cases k top (entry ∷ older) lit levels opened i =
    let here = (entry.level == suc k) && is_decided entry.reason in
    let Goal : Type 0 = In lit (decided_lits (back k (entry ∷ older))) ⊎ (decision_in (entry ∷ older) (suc k) ≡ Some lit) in
    let past : here ≡ false → nat_lt k entry.level ≡ true → In lit (decided_lits (back (suc k) older)) → Goal = λ f t j.
    ⊎_elim (λ l. inl (subst (λ (es : List Entry). In lit (decided_lits es)) (sym (cond-true (nat_lt k entry.level) (back k older) (entry ∷ older) t)) l)) (λ r. inr (cond-false here (Some entry.lit) (decision_in older (suc k)) f ∙ r)) (decided_cases k entry.level older lit levels.1 opened.1 j) in
    ⊎_elim (λ (t : nat_lt (suc k) entry.level ≡ true).
    let above = ltb-true (suc k) entry.level t in
    let other : here ≡ false = ap (λ (b : Bool). b && is_decided entry.reason) (ne_eqb entry.level (suc k) (λ e. absurd (omega (arith, e, above)))) in
    past other (lt-ltb k entry.level (omega (arith, above))) (subst (λ (es : List Entry). In lit (decided_lits es)) (cond-true (nat_lt (suc k) entry.level) (back (suc k) older) (entry ∷ older) t) i)) (λ (f : nat_lt (suc k) entry.level ≡ false).
    let j : In lit (decided_lits (entry ∷ older)) = subst (λ (es : List Entry). In lit (decided_lits es)) (cond-false (nat_lt (suc k) entry.level) (back (suc k) older) (entry ∷ older) f) i in
    ⊎_elim (λ (t : nat_lt k entry.level ≡ true).
    let at : entry.level ≡ suc k = omega (arith, ltb-true k entry.level t, ltb-false (suc k) entry.level f) in
    ⊎_elim (λ (d : is_decided entry.reason ≡ true).
    let is : here ≡ true = and_from (entry.level == suc k) (is_decided entry.reason) (eq-eqb entry.level (suc k) at) d in
    ⊎_elim (λ (e : entry.lit ≡ lit). inr (cond-true here (Some entry.lit) (decision_in older (suc k)) is ∙ ap Some e)) (λ (m : In lit (decided_lits older)).
    let low = (opened.0 (reason_none entry.reason d)).1 in
    let all : back k older ≡ older = back_all older k k (below_all older entry.level k levels.1 (subst (λ (l : ℕ). list_all (λ (e : Entry). nat_lt e.level l) older ≡ true) at low)) (omega arith) in
    inl (subst (λ (es : List Entry). In lit (decided_lits es)) (sym (cond-true (nat_lt k entry.level) (back k older) (entry ∷ older) t)) (subst (λ (es : List Entry). In lit (decided_lits es)) (sym all) m))) (subst (λ (ls : List Lit). In lit ls) (cond-true (is_decided entry.reason) (entry.lit ∷ decided_lits older) (decided_lits older) d) j)) (λ (d : is_decided entry.reason ≡ false).
    let all : back (suc k) older ≡ older = back_all older entry.level (suc k) levels.1 (omega (arith, at)) in
    past (ap (λ (b : Bool). (entry.level == suc k) && b) d ∙ and_right (entry.level == suc k) false refl) t (subst (λ (es : List Entry). In lit (decided_lits es)) (sym all) (subst (λ (ls : List Lit). In lit ls) (cond-false (is_decided entry.reason) (entry.lit ∷ decided_lits older) (decided_lits older) d) j))) (cases_Bool (is_decided entry.reason))) (λ (g : nat_lt k entry.level ≡ false).
    inl (subst (λ (es : List Entry). In lit (decided_lits es)) (sym (cond-false (nat_lt k entry.level) (back k older) (entry ∷ older) g)) j)) (cases_Bool (nat_lt k entry.level))) (cases_Bool (nat_lt (suc k) entry.level))

-- ---- closures

closure_moved : (clauses : List Clause) (a b : List Lit) (X : Lit → Bool) → IsClosure clauses a X → ((l : Lit) → In l a → Up clauses b l) → ((l : Lit) → In l b → Up clauses a l) → IsClosure clauses b X
closure_moved clauses a b X closure there back_ = record {
  derived = λ lit t. up_grows clauses clauses a b (λ c i. i) there lit (closure.derived lit t);
  whole = λ lit up. closure.whole lit (up_grows clauses clauses b a (λ c i. i) back_ lit up);
  calm = λ clash. closure.calm (conflict_grows clauses clauses b a (λ c i. i) back_ clash);
}

open_by : (spot : Option Spot) → not (is_some spot) ≡ not (is_true (spot_value true spot) || is_true (spot_value false spot))
open_by None = refl
open_by (Some spot) = (elim (spot.positive) as (λ (b : Bool). false ≡ not (same_sign b true || same_sign b false)) [ true ↦ refl | false ↦ refl ])

open_free : (entries : List Entry) → is_open entries ≡ is_free (holds entries)
open_free entries i v = open_by (spot_in entries v) i

module _ (length : Length) (clauses : List Clause) (entries : List Entry) where
  first_closure : (m : ℕ) (decisions : List Lit) → IsWalking length clauses entries m decisions → IsClosure clauses (lit_of length.ending ∷ []) (holds (back 1 entries))
  first_closure m decisions walking =
      let closed = walking.closed 1 (omega arith) (omega arith) in
      closure_moved clauses (decided_lits (back 1 entries)) (lit_of length.ending ∷ []) (holds (back 1 entries)) closed (λ lit i. up_start clauses (lit_of length.ending ∷ []) lit (⊎_elim (λ low. absurd (none_decided walking.levels.0 entries lit walking.levels.1 walking.opened low)) (λ is. inl (walking.first lit is)) (decided_cases 0 walking.levels.0 entries lit walking.levels.1 walking.opened i))) (λ lit i. ⊎_elim (λ (e : lit_of length.ending ≡ lit). subst (λ (l : Lit). Up clauses (decided_lits (back 1 entries)) l) e (closed.derived (lit_of length.ending) walking.ended)) (λ m. absurd m) i)

  -- what the decisions of a level and those of the trail up to it give each other
  module _ (k v : ℕ) (older : List Lit) (lower : IsClosure clauses older (holds (back k entries))) (closed : IsClosure clauses (decided_lits (back k entries)) (holds (back k entries))) (levels : (top : ℕ) × AreLevels top entries) (opened : AreOpened entries) (decision : decision_in entries (suc k) ≡ Some (no_lit v)) where
    pub into : (lit : Lit) → In lit (decided_lits (back (suc k) entries)) → Up clauses (no_lit v ∷ older) lit
    into lit i =
        ⊎_elim (λ low. up_grows clauses clauses older (no_lit v ∷ older) (λ c j. j) (λ l j. up_start clauses (no_lit v ∷ older) l (inr j)) lit (lower.derived lit (closed.whole lit (up_start clauses (decided_lits (back k entries)) lit low)))) (λ (is : decision_in entries (suc k) ≡ Some lit).
        up_start clauses (no_lit v ∷ older) lit (inl (same_Some (no_lit v) lit (sym decision ∙ is)))) (decided_cases k levels.0 entries lit levels.1 opened i)

    pub out_of : (lit : Lit) → In lit (no_lit v ∷ older) → Up clauses (decided_lits (back (suc k) entries)) lit
    out_of lit i =
        let all = decided_lits (back (suc k) entries) in
        ⊎_elim (λ (e : no_lit v ≡ lit). up_start clauses all lit (subst (λ (l : Lit). In l all) e (decision_there (suc k) entries (no_lit v) decision))) (λ m.
        up_grows clauses clauses (decided_lits (back k entries)) all (λ c j. j) (λ l j. up_start clauses all l (decided_up_to k entries l j)) lit (closed.derived lit (lower.whole lit (up_start clauses older lit m)))) i

  closure_at : (m : ℕ) (decisions : List Lit) → (levels : (top : ℕ) × AreLevels top entries) → AreOpened entries → IsClosure clauses (lit_of length.ending ∷ []) (holds (back 1 entries)) → ((level : ℕ) → 1 ≤ level → level ≤ suc m → IsClosure clauses (decided_lits (back level entries)) (holds (back level entries))) → AreDecisions length entries m decisions → IsClosure clauses decisions (holds (back (suc m) entries))
  closure_at zero decisions levels opened base closed decided = subst (λ (ls : List Lit). IsClosure clauses ls (holds (back 1 entries))) decided base
  closure_at (suc m) decisions levels opened base closed decided =
      let v = decided.0 in
      let older = decided.1 in
      let lower = closure_at m older levels opened base (λ level a b. closed level a (omega (arith, b))) decided.5 in
      let at = closed (suc m) (omega arith) (omega arith) in
      subst (λ (ls : List Lit). IsClosure clauses ls (holds (back (suc (suc m)) entries))) decided.4 (closure_moved clauses (decided_lits (back (suc (suc m)) entries)) (no_lit v ∷ older) (holds (back (suc (suc m)) entries)) (closed (suc (suc m)) (omega arith) (omega arith)) (into (suc m) v older lower at levels opened decided.3) (out_of (suc m) v older lower at levels opened decided.3))

  next_open : (m v : ℕ) → find (is_open (back (suc m) entries)) length.visible ≡ Some v → find (is_free (holds (back (suc m) entries))) length.visible ≡ Some v
  next_open m v h = ap (λ (f : ℕ → Bool). find f length.visible) (sym (open_free (back (suc m) entries))) ∙ h

  all_levels : (m : ℕ) (decisions : List Lit) → IsWalking length clauses entries m decisions → AreDecisions length entries m decisions → IsClosure clauses decisions (holds (back (suc m) entries))
  all_levels m decisions walking decided = closure_at m decisions walking.levels walking.opened (first_closure m decisions walking) walking.closed decided

  below : (k : ℕ) (older : List Lit) (m : ℕ) (decisions : List Lit) → IsWalking length clauses entries m decisions → k ≤ m → AreDecisions length entries k older → IsClosure clauses older (holds (back (suc k) entries))
  below k older m decisions walking short decided =
      closure_at k older walking.levels walking.opened (first_closure m decisions walking) (λ level a b. walking.closed level a (omega (arith, b, short))) decided

  -- what goes up from a level goes up from the first
  down : (m : ℕ) (top : List Lit) → IsWalking length clauses entries m top → (k : ℕ) → k ≤ m → (decisions : List Lit) (rest : List (ℕ × Lits)) (ending : List Lit) → AreDecisions length entries k decisions → GoesUp clauses length.visible decisions (holds (back (suc k) entries)) rest ending → (levels : List (ℕ × Lits)) × GoesUp clauses length.visible (lit_of length.ending ∷ []) (holds (back 1 entries)) levels ending
  down m top walking zero short decisions rest ending decided up = (rest, subst (λ (ls : List Lit). GoesUp clauses length.visible ls (holds (back 1 entries)) rest ending) (sym decided) up)
  down m top walking (suc k) short decisions rest ending decided up =
      let v = decided.0 in
      let older = decided.1 in
      let here = below (suc k) decisions m top walking short decided in
      let step : GoesUp clauses length.visible older (holds (back (suc k) entries)) ((v, holds (back (suc (suc k)) entries)) ∷ rest) ending = (next_open k v decided.2, subst (λ (ls : List Lit). IsClosure clauses ls (holds (back (suc (suc k)) entries))) (sym decided.4) here, subst (λ (ls : List Lit). GoesUp clauses length.visible ls (holds (back (suc (suc k)) entries)) rest ending) (sym decided.4) up) in
      down m top walking k (omega (arith, short)) older ((v, holds (back (suc (suc k)) entries)) ∷ rest) ending decided.5 step

  down_stuck : (m : ℕ) (top : List Lit) → IsWalking length clauses entries m top → (k : ℕ) → k ≤ m → (decisions : List Lit) (rest : List (ℕ × Lits)) (ending : List Lit) → AreDecisions length entries k decisions → GoesUpTo clauses length.visible decisions (holds (back (suc k) entries)) rest ending → (levels : List (ℕ × Lits)) × GoesUpTo clauses length.visible (lit_of length.ending ∷ []) (holds (back 1 entries)) levels ending
  down_stuck m top walking zero short decisions rest ending decided up = (rest, subst (λ (ls : List Lit). GoesUpTo clauses length.visible ls (holds (back 1 entries)) rest ending) (sym decided) up)
  down_stuck m top walking (suc k) short decisions rest ending decided up =
      let v = decided.0 in
      let older = decided.1 in
      let here = below (suc k) decisions m top walking short decided in
      let step : GoesUpTo clauses length.visible older (holds (back (suc k) entries)) ((v, holds (back (suc (suc k)) entries)) ∷ rest) ending = (next_open k v decided.2, subst (λ (ls : List Lit). IsClosure clauses ls (holds (back (suc (suc k)) entries))) (sym decided.4) here, subst (λ (ls : List Lit). GoesUpTo clauses length.visible ls (holds (back (suc (suc k)) entries)) rest ending) (sym decided.4) up) in
      down_stuck m top walking k (omega (arith, short)) older ((v, holds (back (suc (suc k)) entries)) ∷ rest) ending decided.5 step

pub levels_are_total : LevelsAreTotal
levels_are_total length clauses entries m decisions walking none =
    let first = first_closure length clauses entries m decisions walking in
    let last : find (is_free (holds (back (suc m) entries))) length.visible ≡ None = ap (λ (f : ℕ → Bool). find f length.visible) (sym (open_free (back (suc m) entries))) ∙ none in
    let up = down length clauses entries m decisions walking m (omega arith) decisions [] decisions walking.decided (last, refl) in
    (record { begins = first.calm; goes = climb clauses length.visible (lit_of length.ending ∷ []) (holds (back 1 entries)) up.0 decisions first up.1 }, all_levels length clauses entries m decisions walking walking.decided)

-- what is decided up to the level of the next decision follows from the decisions of the walk and this one
pub next_decided : (length : Length) (clauses : List Clause) (entries : List Entry) (m v : ℕ) (decisions : List Lit) → IsWalking length clauses entries m decisions → decision_in entries (suc (suc m)) ≡ Some (no_lit v) → (lit : Lit) → In lit (decided_lits (back (suc (suc m)) entries)) → Up clauses (no_lit v ∷ decisions) lit
next_decided length clauses entries m v decisions walking decision =
    into length clauses entries (suc m) v decisions (all_levels length clauses entries m decisions walking walking.decided) (walking.closed (suc m) (omega arith) (omega arith)) walking.levels walking.opened decision

pub levels_are_stuck : LevelsAreStuck
levels_are_stuck length clauses entries m v decisions walking next decision clash =
    let first = first_closure length clauses entries m decisions walking in
    let all = decided_lits (back (suc (suc m)) entries) in
    let moved : Conflict clauses (no_lit v ∷ decisions) = conflict_grows clauses clauses all (no_lit v ∷ decisions) (λ c i. i) (next_decided length clauses entries m v decisions walking decision) clash in
    let up = down_stuck length clauses entries m decisions walking m (omega arith) decisions [] (no_lit v ∷ decisions) walking.decided (v, next_open length clauses entries m v next, moved, refl) in
    record { begins = first.calm; goes = climb_stuck clauses length.visible (lit_of length.ending ∷ []) (holds (back 1 entries)) up.0 (no_lit v ∷ decisions) first up.1 }
