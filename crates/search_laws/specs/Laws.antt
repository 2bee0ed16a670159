-- The laws of the search.
use Rattle.std.specs.Prelude.{◌≡◌, ℕ, ◌<◌, ◌≤◌, Bool, List, [], Some, None, IsTrue, IsFalse, ◌⊎◌}
use Rattle.std.specs.List.{list_all}
use Rattle.tel_base.specs.declared.literals.Lit.{Lit}
use Rattle.tel_base.specs.Members.{In}
use Rattle.clause_store.specs.declared.store.ClauseKind.TheVariants as kinds
use Rattle.clause_store.specs.Closure.{Clause, Conflict}
use Rattle.normal_program.specs.declared.rules.NRule.{NRule}
use Rattle.normal_program.specs.declared.modules.BodyDef.{BodyDef}
use Rattle.normal_program.specs.declared.modules.StepModule.{StepModule}
use Rattle.normal_program.specs.Grounds.{is_head}
use Rattle.normal_program.specs.StableSets.{Set, body_holds, lits_hold}
use Rattle.completion.specs.Completions.{clause_true, AreSettled}
use Rattle.completion.specs.Lengths.{IsStableOf, AreApart, ArePlain}
use Rattle.search_laws.specs.Walks.{IsClosedWalk, Before, Agree, UpTo, FirstApart}
use Rattle.search_laws.specs.Lengths.{Length, length_of, bodies_of, is_plain, IsStableAt, IsValued, Stands, with_bodies}
use Rattle.search_laws.specs.Origins.{Kept, lits_of, Finds, IsBlock, Origin, Grown}
use Rattle.search_laws.specs.Needed.{IsFound, Needed}
use Rattle.search_laws.specs.Runs.{Run, InOrder}

-- ---- the walk

-- it ends in one way: a stable set is found, or a further clause is needed, or it is closed
abbrev pub EndsAreApart : Type 0
EndsAreApart =
    (length : Length) (clauses : List Clause) →
    ((decisions : List Lit) (S : Set) → IsFound length clauses decisions S → Needed length clauses → ⊥)
    × ((decisions : List Lit) (S : Set) → IsFound length clauses decisions S → IsClosedWalk clauses length.ending → ⊥)
    × (Needed length clauses → IsClosedWalk clauses length.ending → ⊥)

-- with one set
abbrev pub FoundIsOne : Type 0
FoundIsOne =
    (length : Length) (clauses : List Clause) (decisions others : List Lit) (S R : Set) → IsFound length clauses decisions S → IsFound length clauses others R → (decisions ≡ others) × (S ≡ R)

-- where each Body variable has one body, each set gives values
abbrev pub ValuesStand : Type 0
ValuesStand =
    (length : Length) (S : Set) → ((def other : BodyDef) → In def (bodies_of length) → In other (bodies_of length) → def.var ≡ other.var → def.lits ≡ other.lits) → IsValued length S (with_bodies (bodies_of length) S)

-- ---- lengths made of modules

-- what the lengths up to n are to that of n: each rule for a head of a shorter length stands there already; each rule with a Body variable has the
-- body that this stands for, and another one no Body variable in its body; Body variables are no heads and no ends; ends are no heads, and different;
-- and the stable sets with the values of the bodies make the clauses of the modules true
pub record AreComposed (lengths : ℕ → Length) (n : ℕ) : Type 0 where
  pub some : 0 < n
  pub composed : (k : ℕ) → 0 < k → k ≤ n → (rule : NRule) (head : ℕ) → In rule (lengths n).ground.rules → rule.head ≡ Some head → IsTrue (is_head (lengths k).ground.modules head) → In rule (lengths k).ground.rules
  pub heads : (rule : NRule) (head : ℕ) → In rule (lengths n).ground.rules → rule.head ≡ Some head → IsTrue (is_head (lengths n).ground.modules head)
  pub named : (rule : NRule) (head var : ℕ) → In rule (lengths n).ground.rules → rule.head ≡ Some head → rule.body ≡ Some var → (def : BodyDef) × In def (bodies_of (lengths n)) × (def.var ≡ var) × ((S : Set) → body_holds S S rule ≡ lits_hold S S def.lits)
  pub one_body : (def other : BodyDef) → In def (bodies_of (lengths n)) → In other (bodies_of (lengths n)) → def.var ≡ other.var → def.lits ≡ other.lits
  pub plain_heads : (k var : ℕ) → 0 < k → k ≤ n → IsTrue (is_head (lengths k).ground.modules var) → IsTrue (is_plain (lengths n) var)
  pub plain_pos : (rule : NRule) (head var : ℕ) → In rule (lengths n).ground.rules → rule.head ≡ Some head → rule.body ≡ None → In var rule.pos → IsTrue (is_plain (lengths n) var)
  pub plain_neg : (rule : NRule) (head var : ℕ) → In rule (lengths n).ground.rules → rule.head ≡ Some head → rule.body ≡ None → In var rule.neg → IsTrue (is_plain (lengths n) var)
  pub visible_heads : (var : ℕ) → In var (lengths n).visible → IsTrue (is_head (lengths n).ground.modules var)
  pub plain_end : (k : ℕ) → 0 < k → k ≤ n → IsTrue (is_plain (lengths n) (lengths k).ending)
  pub ends_no_heads : (j k : ℕ) → 0 < j → j ≤ n → 0 < k → k ≤ n → IsFalse (is_head (lengths j).ground.modules (lengths k).ending)
  pub ends_differ : (k : ℕ) → 0 < k → k < n → (lengths k).ending ≡ (lengths n).ending → ⊥
  pub completed : (S values : Set) → Stands (lengths n) S values → (k : ℕ) → 0 < k → k ≤ n → (clause : Clause) → In clause (lengths k).clauses → IsTrue (clause_true values clause)

-- modules that their rules settle, with variables that are apart, are so composed
abbrev pub ModulesAreComposed : Type 0
ModulesAreComposed = (steps : ℕ → StepModule) (n : ℕ) (plain : Set) → 0 < n → AreSettled steps n → AreApart steps n → ArePlain steps n plain → AreComposed (length_of steps) n

-- their stable sets are those of the length
abbrev pub StableSetsAgree : Type 0
StableSetsAgree = (steps : ℕ → StepModule) (n : ℕ) (S : Set) → (IsStableOf steps n S → IsStableAt (length_of steps n) S) × (IsStableAt (length_of steps n) S → IsStableOf steps n S)

-- ---- kept clauses are right

abbrev pub all_true : Set → List Clause → Bool
all_true values clauses = list_all (clause_true values) clauses

-- the clauses of modules and loop clauses are true in each stable set, with its bodies' values, of their own and of each later length
abbrev pub ModulesAndLoopsAreRight : Type 0
ModulesAndLoopsAreRight =
    (lengths : ℕ → Length) (n : ℕ) (held : List Kept) (one : Kept) (S values : Set) → AreComposed lengths n → Grown lengths n held → Stands (lengths n) S values →
    In one held → (one.kind ≡ kinds.Module) ⊎ (one.kind ≡ kinds.Loop) → IsTrue (clause_true values one.lits)

-- a learnt clause is true in each stable set that no blocking clause of its length before it forbids
abbrev pub LearntAreRight : Type 0
LearntAreRight =
    (lengths : ℕ → Length) (n : ℕ) (before : List Kept) (one : Kept) (S values : Set) → AreComposed lengths n → Grown lengths n before → Stands (lengths n) S values →
    Origin lengths before one → one.kind ≡ kinds.Learnt → ((block : Kept) → In block before → block.kind ≡ kinds.Block → block.length ≡ n → IsTrue (clause_true values block.lits)) → IsTrue (clause_true values one.lits)

-- a blocking clause is false in the set that it blocks, and true in each stable set of its length that comes after this one
abbrev pub BlocksAreRight : Type 0
BlocksAreRight =
    (lengths : ℕ → Length) (n : ℕ) (before : List Kept) (clause : Clause) (decisions : List Lit) (S values : Set) → AreComposed lengths n → Grown lengths n before → Stands (lengths n) S values →
    IsBlock (lengths n) (lits_of before) clause decisions S →
    IsFalse (clause_true values clause)
    × ((R others : Set) → Stands (lengths n) R others → Before (lengths n).visible S R → IsTrue (clause_true others clause))

-- at each later length all kept clauses are true in each stable set
abbrev pub KeptAreRight : Type 0
KeptAreRight =
    (lengths : ℕ → Length) (n k : ℕ) (held : List Kept) (S values : Set) → AreComposed lengths n → Grown lengths k held → k < n → Stands (lengths n) S values → IsTrue (all_true values (lits_of held))

-- so where they conflict without any end, no later length has a stable set
abbrev pub NeverIsRight : Type 0
NeverIsRight =
    (lengths : ℕ → Length) (n k : ℕ) (held : List Kept) (S : Set) → AreComposed lengths n → Grown lengths k held → k < n → Conflict (lits_of held) [] → IsStableAt (lengths n) S → ⊥

-- a set that was found makes all held clauses true
abbrev pub FoundMeetsAll : Type 0
FoundMeetsAll =
    (lengths : ℕ → Length) (n : ℕ) (held : List Kept) (decisions : List Lit) (S values : Set) → AreComposed lengths n → Grown lengths n held → Stands (lengths n) S values → Finds (lengths n) (lits_of held) decisions S → IsTrue (all_true values (lits_of held))

-- ---- search in order

-- what a walk finds comes after all sets that were found before, and before each other stable set that wasn't
abbrev pub NextIsNext : Type 0
NextIsNext =
    (lengths : ℕ → Length) (n : ℕ) (held : List Kept) (sets : List Set) (decisions : List Lit) (S : Set) → AreComposed lengths n → Run lengths n held sets → Finds (lengths n) (lits_of held) decisions S →
    ((set : Set) → In set sets → Before (lengths n).visible set S)
    × ((R : Set) → IsStableAt (lengths n) R → ((set : Set) × In set sets × Agree (lengths n).visible R set) ⊎ UpTo (lengths n).visible S R)

-- the sets found are stable, each once, in order
abbrev pub FoundInOrder : Type 0
FoundInOrder =
    (lengths : ℕ → Length) (n : ℕ) (held : List Kept) (sets : List Set) → AreComposed lengths n → Run lengths n held sets →
    InOrder (lengths n).visible sets × ((set : Set) → In set sets → IsStableAt (lengths n) set)

-- where the walk is closed, they are all
abbrev pub ClosedFoundAll : Type 0
ClosedFoundAll =
    (lengths : ℕ → Length) (n : ℕ) (held : List Kept) (sets : List Set) (S : Set) → AreComposed lengths n → Run lengths n held sets → IsClosedWalk (lits_of held) (lengths n).ending →
    IsStableAt (lengths n) S → (set : Set) × In set sets × Agree (lengths n).visible S set

-- the set of the true variables of the closure of a walk is one that it finds
abbrev pub FoundIsFinds : Type 0
FoundIsFinds =
    (length : Length) (clauses : List Clause) (decisions : List Lit) (S : Set) → ((var : ℕ) → In var length.visible → IsTrue (is_head length.ground.modules var)) → IsFound length clauses decisions S → Finds length clauses decisions S

-- the order of sets is that of their traces: at the first state where they differ, the atoms say which comes first
abbrev pub OrderOfTraces : Type 0
OrderOfTraces =
    (steps : ℕ → StepModule) (n : ℕ) (S R : Set) → Before (length_of steps n).visible S R
    → (t : ℕ) × (t < n) × FirstApart (steps t).atoms S R × ((u : ℕ) → u < t → (v : ℕ) → In v (steps u).atoms → S v ≡ R v)
