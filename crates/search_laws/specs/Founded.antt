-- When the true variables of a trail are a stable set: they are a model of the rules, and none of them is unfounded (Van Gelder, Ross and Schlipf,
-- 1991; Lin and Zhao, 2004).
use Rattle.std.specs.Prelude.{◌≡◌, ℕ, suc, ◌-◌, ◌<◌, not, ◌&&◌, List, Some, None, is_some, IsTrue, IsFalse, ◌⊎◌}
use Rattle.std.specs.List.{find, list_all}
use Rattle.tel_base.specs.declared.literals.Lit.{Lit}
use Rattle.tel_base.specs.Members.{In}
use Rattle.normal_program.specs.declared.rules.NRule.{NRule}
use Rattle.normal_program.specs.declared.shapes.NodeRule.{NodeRule}
use Rattle.normal_program.specs.declared.modules.BodyDef.{BodyDef}
use Rattle.normal_program.specs.declared.modules.StepModule.{StepModule}
use Rattle.normal_program.specs.Shapes.{shape_bodies}
use Rattle.normal_program.specs.StableSets.{Set, body_holds, is_closed, is_met, IsStable}
use Rattle.lit_trail.specs.declared.assignment.Entry.{Entry}
use Rattle.lit_trail.specs.Entries.{value_in}
use Rattle.lit_trail.specs.Levels.{AreLevels}
use Rattle.lit_trail.specs.Unassigned.{is_open}
use Rattle.lit_trail.specs.Sound.{holds}
use Rattle.unfounded_sets.specs.Unfounded.{is_true, body_lits, head_in, IsUnfounded}
use Rattle.unfounded_sets.specs.LoopClauses.{NoneHolds}
use Rattle.clause_store.specs.Closure.{Clause, IsClosedLevel}
use Rattle.completion.specs.Completions.{clause_true, AreSettled, IsHead}
use Rattle.completion.specs.Lengths.{AreApart, ArePlain}
use Rattle.completion.specs.Laws.{SatisfiesClauses}
use Rattle.search_laws.specs.Needed.{IsFound, IsUnstable}
use Rattle.search_laws.specs.Levels.{IsWalking}
use Rattle.search_laws.specs.Lengths.{Length, length_of, in_program, IsStableAt}

-- ---- of any rules

-- in a set S, a set U is unfounded: each rule with its head in U has a body that doesn't hold, or a positive body atom in U
abbrev pub IsUnfoundedIn : List NRule → Set → Set → Type 0
IsUnfoundedIn rules S U = (rule : NRule) → In rule rules → IsTrue (head_in U rule.head) → IsFalse (body_holds S S rule) ⊎ ((v : ℕ) × In v rule.pos × IsTrue (U v))

-- a closed set that meets the constraints and has no pair whole is stable where no unfounded set is a part of it, but the empty one
abbrev pub FoundedIsStable : Type 0
FoundedIsStable =
    (rules : List NRule) (pairs : List (ℕ × ℕ)) (S : Set) → IsTrue (is_closed rules S S) → IsTrue (list_all (λ (rule : NRule). is_met S (body_holds S S rule) rule.head) rules) → IsTrue (list_all (λ (pair : ℕ × ℕ). not (S pair.0 && S pair.1)) pairs)
    → ((U : Set) → ((v : ℕ) → IsTrue (U v) → IsTrue (S v)) → IsUnfoundedIn rules S U → (v : ℕ) → IsTrue (U v) → ⊥) → IsStable rules pairs S

-- ---- of a trail

-- the modules before n speak of this variable: it is a head or the end of one of their states, or open in the last one
abbrev pub IsKnown : (ℕ → StepModule) → ℕ → ℕ → Type 0
IsKnown steps n var = ((t : ℕ) × (t < n) × IsHead (steps t) var) ⊎ (((t : ℕ) × (t < n) × ((steps t).end ≡ var)) ⊎ In var (steps (n - 1)).open_vars)

pub record AreKnown (steps : ℕ → StepModule) (n : ℕ) : Type 0 where
  pub bodies : (t : ℕ) → t < n → (def : BodyDef) (lit : Lit) → In def (steps t).bodies → In lit def.lits → IsKnown steps n lit.var
  pub shapes : (t : ℕ) → t < n → (node : NodeRule) (lits : List Lit) (lit : Lit) → In node (steps t).nodes → In lits (shape_bodies node.shape) → In lit lits → IsKnown steps n lit.var
  pub pairs : (t : ℕ) → t < n → (pair : ℕ × ℕ) → In pair (steps t).pairs → IsKnown steps n pair.0 × IsKnown steps n pair.1
  pub opens : (t : ℕ) → t < n → (var : ℕ) → In var (steps t).open_vars → IsKnown steps n var

-- the modules before n are as those of a program
pub record AreModules (steps : ℕ → StepModule) (n : ℕ) (plain : Set) : Type 0 where
  pub some : 0 < n
  pub settled : AreSettled steps n
  pub separate : AreApart steps n
  pub speak : ArePlain steps n plain
  pub known : AreKnown steps n

-- the variables of the program of a length that are true under the trail
abbrev pub true_set : Length → List Entry → Set
true_set length entries v = in_program length v && is_true entries v

-- the trail makes the clauses of the modules and the end true, and gives each literal that stands for a body of a rule with a head a value
pub record IsTotalTrail (steps : ℕ → StepModule) (n : ℕ) (entries : List Entry) : Type 0 where
  pub satisfies : SatisfiesClauses steps n (is_true entries)
  pub ended : IsTrue (is_true entries (steps (n - 1)).end)
  pub total : (rule : NRule) (head : ℕ) (lit : Lit) → In rule (length_of steps n).ground.rules → rule.head ≡ Some head → In lit (body_lits rule) → IsTrue (is_some (value_in entries lit))

-- then its true variables are stable where no unfounded set holds one of them
abbrev pub NoneIsStable : Type 0
NoneIsStable =
    (steps : ℕ → StepModule) (n : ℕ) (plain : Set) (entries : List Entry) → AreModules steps n plain → IsTotalTrail steps n entries → NoneHolds (length_of steps n).ground entries → IsStableAt (length_of steps n) (true_set (length_of steps n) entries)

-- and aren't where one does
abbrev pub SomeIsUnstable : Type 0
SomeIsUnstable =
    (steps : ℕ → StepModule) (n : ℕ) (plain : Set) (entries : List Entry) (U : Set) (v : ℕ) → AreModules steps n plain → IsTotalTrail steps n entries → IsUnfounded (length_of steps n).ground entries U → IsTrue (U v) → IsTrue (is_true entries v)
    → IsStableAt (length_of steps n) (true_set (length_of steps n) entries) → ⊥

-- ---- of a walk

-- a trail whose levels are a total walk, all levels of it, and which is total
pub record IsTotalAt (steps : ℕ → StepModule) (n : ℕ) (plain : Set) (clauses : List Clause) (entries : List Entry) (m : ℕ) (decisions : List Lit) : Type 0 where
  pub modules : AreModules steps n plain
  pub walking : IsWalking (length_of steps n) clauses entries m decisions
  pub top : AreLevels (suc m) entries
  pub visible : find (is_open entries) (length_of steps n).visible ≡ None
  pub trail : IsTotalTrail steps n entries

-- then the walk finds the true variables where no unfounded set holds one of them
abbrev pub TrailIsFound : Type 0
TrailIsFound =
    (steps : ℕ → StepModule) (n : ℕ) (plain : Set) (clauses : List Clause) (entries : List Entry) (m : ℕ) (decisions : List Lit) → IsTotalAt steps n plain clauses entries m decisions → NoneHolds (length_of steps n).ground entries
    → IsFound (length_of steps n) clauses decisions (true_set (length_of steps n) entries)

-- and else a further clause is needed
abbrev pub TrailIsUnstable : Type 0
TrailIsUnstable =
    (steps : ℕ → StepModule) (n : ℕ) (plain : Set) (clauses : List Clause) (entries : List Entry) (m : ℕ) (decisions : List Lit) (U : Set) (v : ℕ) → IsTotalAt steps n plain clauses entries m decisions → IsUnfounded (length_of steps n).ground entries U → IsTrue (U v) → IsTrue (is_true entries v)
    → IsUnstable (length_of steps n) clauses decisions (true_set (length_of steps n) entries)

-- a trail that leaves nothing to derive makes each clause true of whose variables it says the values
abbrev pub ClosedMakesTrue : Type 0
ClosedMakesTrue =
    (clauses : List Clause) (entries : List Entry) (clause : Clause) → IsClosedLevel clauses (holds entries) → In clause clauses → ((lit : Lit) → In lit clause → IsTrue (is_some (value_in entries lit))) → IsTrue (clause_true (is_true entries) clause)
