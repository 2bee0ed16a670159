-- The second-highest level of the literals of a clause: below it two of them have no value.
use Rattle.std.proofs.Common.{◌≡◌, ℕ, ◌<◌, ◌≤◌, Bool, true, false, cond, not, List, [], ◌∷◌, length, refl, sym, ap, subst, ◌∙◌, inl, inr, ⊎_elim, arith}
use Rattle.std.specs.Prelude.{Option, Some, None, unwrap_or, ◌==◌, ◌&&◌, nat_lt, ◌⊎◌}
use Rattle.std.proofs.lemmas.Bool.{cases_Bool, cases_lt, and_parts, eq-eqb, false≢true, not_from_false, not-true}
use Rattle.tel_base.specs.declared.literals.Lit.{Lit}
use Rattle.tel_base.specs.Literals.{negate}
use Rattle.tel_base.proofs.Members.{In-list_all, list_all-from_In, In-filter_from}
use Rattle.clause_store.specs.Held.{lacks, are_distinct, is_clause}
use Rattle.clause_store.specs.Closure.{In, Clause, same_lit, others, refutes}
use Rattle.clause_store.proofs.Closures.{same_lit-true, same_lit-self}
use Rattle.lit_trail.specs.declared.assignment.Entry.{Entry}
use Rattle.lit_trail.specs.Entries.{spot_in, spot_of, spot_level, level_in, back, Apart}
use Rattle.lit_trail.specs.Levels.{AreLevels}
use Rattle.lit_trail.specs.Sound.{holds}
use Rattle.lit_trail.proofs.Values.{none_holds}
use Rattle.clause_learn.specs.LearntClause.{level_or, highest, others_of, LeadsAt}
use Rattle.clause_learn.proofs.Backing.{level_gone, level_stays}
use Rattle.clause_learn.proofs.NoteSteps.{falsified, level_of_lit}
use Rattle.back_jump.specs.Jumps.{IsSettledBelow, IsFalseOrUnit, second_highest}

abbrev pub lit_level : List Entry → Lit → ℕ
lit_level entries lit = level_or (level_in entries lit.var)

-- a variable without a value counts as one of level 0
pub level_said : (o : Option ℕ) → unwrap_or o 0 ≡ level_or o
level_said None = refl
level_said (Some level) = refl

-- ---- levels are at most the trail's

level_top : (top : ℕ) (entries : List Entry) (v : ℕ) → AreLevels top entries → level_or (level_in entries v) ≤ top
level_top top [] v levels = omega arith
level_top top (entry ∷ older) v levels =
    let a = levels.0 in
    let rest = level_top entry.level older v levels.1 in
    elim (entry.lit.var == v) as (λ (b : Bool). level_or (spot_level (cond b (Some (spot_of entry)) (spot_in older v))) ≤ top) [ true ↦ a | false ↦ omega (arith, a, rest) ]

highest_top : (top : ℕ) (entries : List Entry) (lits : List Lit) → AreLevels top entries → highest entries lits ≤ top
highest_top top entries [] levels = omega arith
highest_top top entries (lit ∷ more) levels =
    let a = level_top top entries lit.var levels in
    let rest = highest_top top entries more levels in
    omega (arith, a, rest)

pub second_top : (top : ℕ) (entries : List Entry) (lits : List Lit) → AreLevels top entries → second_highest entries lits ≤ top
second_top top entries [] levels = omega arith
second_top top entries (lit ∷ more) levels =
    let a = highest_top top entries more levels in
    let rest = second_top top entries more levels in
    omega (arith, a, rest)

-- ---- two literals above a lower level

one_above : (entries : List Entry) (lits : List Lit) (lower : ℕ) → lower < highest entries lits → (lit : Lit) × In lit lits × (lower < lit_level entries lit)
one_above entries [] lower l = absurd (omega (arith, l))
one_above entries (lit ∷ more) lower l =
    ⊎_elim (λ (here : lower < lit_level entries lit). (lit, inl refl, here)) (λ (under : lit_level entries lit ≤ lower). let w = one_above entries more lower (omega (arith, l, under)) in (w.0, inr w.1, w.2)) (cases_lt lower (lit_level entries lit))

pub record TwoAbove (entries : List Entry) (lits : List Lit) (lower : ℕ) : Type 0 where
  pub first : Lit
  pub second : Lit
  pub apart : same_lit first second ≡ false
  pub has_first : In first lits
  pub has_second : In second lits
  pub first_above : lower < lit_level entries first
  pub second_above : lower < lit_level entries second

lacks_same : (lit k : Lit) (lits : List Lit) → lacks lit.var lits ≡ true → In k lits → same_lit lit k ≡ false
lacks_same lit k lits h i =
    ⊎_elim (λ (t : same_lit lit k ≡ true).
    let same : k.var ≡ lit.var = ap (λ (l : Lit). l.var) (sym (same_lit-true lit k t)) in
    absurd (false≢true (sym (ap not (eq-eqb k.var lit.var same)) ∙ In-list_all (λ (l : Lit). not (l.var == lit.var)) k lits h i))) (λ f. f) (cases_Bool (same_lit lit k))

two_above : (vars : ℕ) (entries : List Entry) (lits : List Lit) (lower : ℕ) → are_distinct vars lits ≡ true → lower < second_highest entries lits → TwoAbove entries lits lower
two_above vars entries [] lower distinct l = absurd (omega (arith, l))
two_above vars entries (lit ∷ more) lower distinct l =
    let p = and_parts (nat_lt lit.var vars) (lacks lit.var more && are_distinct vars more) distinct in
    let q = and_parts (lacks lit.var more) (are_distinct vars more) p.1 in
    ⊎_elim (λ (rest : lower < second_highest entries more).
    let w = two_above vars entries more lower q.1 rest in
    record { first = w.first; second = w.second; apart = w.apart; has_first = inr w.has_first; has_second = inr w.has_second; first_above = w.first_above; second_above = w.second_above }) (λ (under : second_highest entries more ≤ lower).
    let w = one_above entries more lower (omega (arith, l, under)) in
    record { first = lit; second = w.0; apart = lacks_same lit w.0 more q.0 w.1; has_first = inl refl; has_second = inr w.1; first_above = omega (arith, l, under); second_above = w.2 }) (cases_lt lower (second_highest entries more))

-- ---- which have no value there

some_level : (o : Option ℕ) (lower : ℕ) → lower < level_or o → (other : ℕ) × (o ≡ Some other) × (lower < other)
some_level None lower l = absurd (omega (arith, l))
some_level (Some other) lower l = (other, refl, l)

open_below : (top lower : ℕ) (entries : List Entry) (lit : Lit) → Apart entries → AreLevels top entries → lower < lit_level entries lit → holds (back lower entries) (negate lit) ≡ false
open_below top lower entries lit apart levels l =
    let w = some_level (level_in entries lit.var) lower l in
    none_holds (back lower entries) (negate lit) (level_gone lower top w.0 entries lit.var apart levels w.1 w.2)

-- so at each level below the second-highest nothing is left to derive from the clause
pub settled_below : (vars top level : ℕ) (entries : List Entry) (clause : Clause) → Apart entries → AreLevels top entries → is_clause vars clause ≡ true → level ≤ second_highest entries clause → IsSettledBelow level entries clause
settled_below vars top level entries clause apart levels is most lower l =
    let w = two_above vars entries clause lower (and_parts (nat_lt 0 (length clause)) (are_distinct vars clause) is).1 (omega (arith, l, most)) in
    inr (record {
      first = w.first;
      second = w.second;
      apart = not_from_false (same_lit w.first w.second) w.apart;
      has_first = w.has_first;
      has_second = w.has_second;
      first_open = open_below top lower entries w.first apart levels w.first_above;
      second_open = open_below top lower entries w.second apart levels w.second_above;
    })

-- the highest level of the others is the second-highest where the first literal is above them
pub learnt_second : (level : ℕ) (entries : List Entry) (lits : List Lit) → LeadsAt level entries lits → highest entries (others_of lits) < level → highest entries (others_of lits) ≤ second_highest entries lits
learnt_second level entries [] leads low = absurd leads
learnt_second level entries (first ∷ rest) leads low =
    let at = ap level_or leads.0 in
    omega (arith, at, low)

-- ---- and at it all literals but at most one stay false

highest_all : (entries : List Entry) (lits : List Lit) (lit : Lit) → In lit lits → lit_level entries lit ≤ highest entries lits
highest_all entries [] lit i = absurd i
highest_all entries (x ∷ more) lit i =
    ⊎_elim (λ (e : x ≡ lit). let n : lit_level entries x ≡ lit_level entries lit = ap (lit_level entries) e in omega (arith, n)) (λ r. let m = highest_all entries more lit r in omega (arith, m)) i

pub record OneAbove (entries : List Entry) (lits : List Lit) (level : ℕ) : Type 0 where
  pub lit : Lit
  pub there : In lit lits
  pub above : level < lit_level entries lit
  pub others : (k : Lit) → In k lits → same_lit k lit ≡ false → lit_level entries k ≤ level

at_most_one : (entries : List Entry) (lits : List Lit) (level : ℕ) → second_highest entries lits ≤ level → ((k : Lit) → In k lits → lit_level entries k ≤ level) ⊎ OneAbove entries lits level
at_most_one entries [] level most = inl (λ k i. absurd i)
at_most_one entries (x ∷ more) level most =
    ⊎_elim (λ (over : level < lit_level entries x). inr (record {
      lit = x;
      there = inl refl;
      above = over;
      others = λ k i apart. ⊎_elim (λ (e : x ≡ k). absurd (false≢true (sym apart ∙ subst (λ (l : Lit). same_lit l x ≡ true) e (same_lit-self x)))) (λ r. let m = highest_all entries more k r in omega (arith, m, most, over)) i;
    })) (λ (under : lit_level entries x ≤ level).
    let here : (k : Lit) → x ≡ k → lit_level entries k ≤ level = λ k e. subst (λ (l : Lit). lit_level entries l ≤ level) e under in
    ⊎_elim (λ (all : (k : Lit) → In k more → lit_level entries k ≤ level). inl (λ k i. ⊎_elim (here k) (all k) i)) (λ (one : OneAbove entries more level).
    inr (record { lit = one.lit; there = inr one.there; above = one.above; others = λ k i apart. ⊎_elim (here k) (λ r. one.others k r apart) i })) (at_most_one entries more level (omega (arith, most)))) (cases_lt level (lit_level entries x))

stays_false : (level : ℕ) (entries : List Entry) (clause : Clause) (lit : Lit) → Apart entries → refutes (holds entries) clause ≡ true → In lit clause → lit_level entries lit ≤ level → holds (back level entries) (negate lit) ≡ true
stays_false level entries clause lit apart all i low =
    let denied = In-list_all (λ (l : Lit). holds entries (negate l)) lit clause all i in
    let by = falsified entries lit denied in
    let at = level_of_lit entries lit by apart in
    let n = ap level_or at in
    level_stays level by.entry.level entries (negate lit) denied at (omega (arith, n, low))

pub false_or_unit : (top level : ℕ) (entries : List Entry) (clause : Clause) → Apart entries → AreLevels top entries → refutes (holds entries) clause ≡ true → second_highest entries clause ≤ level → IsFalseOrUnit (back level entries) clause
false_or_unit top level entries clause apart levels all most =
    let below = back level entries in
    let denied : (k : Lit) → In k clause → lit_level entries k ≤ level → holds below (negate k) ≡ true = λ k. stays_false level entries clause k apart all in
    ⊎_elim (λ (low : (k : Lit) → In k clause → lit_level entries k ≤ level). inl (list_all-from_In (λ (l : Lit). holds below (negate l)) clause (λ k i. denied k i (low k i)))) (λ (one : OneAbove entries clause level).
    let w = some_level (level_in entries one.lit.var) level one.above in
    inr (
      one.lit,
      one.there,
      level_gone level top w.0 entries one.lit.var apart levels w.1 w.2,
      list_all-from_In (λ (l : Lit). holds below (negate l)) (others one.lit clause) (λ k i.
          let there = In-filter_from (λ (l : Lit). not (same_lit l one.lit)) k clause i in
          denied k there.0 (one.others k there.0 (not-true (same_lit k one.lit) there.1))),
    )) (at_most_one entries clause level most)
