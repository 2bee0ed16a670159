-- What a step of a search answers.
use Rattle.std.specs.Prelude.{◌≡◌, ℕ, ◌+◌, ◌<◌, ◌≤◌, Bool, true, false, List, [], ◌∷◌, ◌++◌, length, reverse, ◌==◌, Option, Some, None, IsTrue, ◌⊎◌}
use Rattle.std.specs.List.{find}
use Rattle.tel_base.specs.declared.literals.Lit.{Lit}
use Rattle.tel_base.specs.Literals.{lit_of, negations}
use Rattle.tel_base.specs.Members.{In}
use Rattle.normal_program.specs.declared.modules.StepModule.{StepModule}
use Rattle.normal_program.specs.ModuleClauses as clauses
use Rattle.normal_program.specs.StableSets.{Set}
use Rattle.clause_store.specs.declared.store.ClauseId.{ClauseId}
use Rattle.clause_store.specs.declared.store.ClauseKind.TheVariants as kinds
use Rattle.clause_store.specs.Held.{is_clause}
use Rattle.clause_store.specs.Closure.{Clause, refutes, Absorbed, Conflict, IsClosure}
use Rattle.lit_trail.specs.Sound.{holds}
use Rattle.model_block.specs.Blocking.{block_of}
use Rattle.search_laws.specs.Lengths.{Length, length_of}
use Rattle.search_laws.specs.Origins.{Kept, IsBlock}
use Rattle.unfounded_sets.specs.LoopClauses.{IsLoopClause, among, rises}
use Rattle.search_laws.specs.Needed.{IsFound, Needed, IsCut}
use Rattle.search_laws.specs.Founded.{AreModules, true_set}
use Rattle.search_laws.specs.Gaps.{AreRanked}
use Rattle.search_laws.specs.Walks.{IsClosedWalk}
use Rattle.cdcl_search.specs.declared.loops.LoopSet.{LoopSet}
use Rattle.cdcl_search.specs.declared.steps.Step.{Step}
use Rattle.cdcl_search.specs.declared.steps.Step.TheVariants as steps
use Rattle.cdcl_search.specs.Searches.{Begun, View, clauses_of, visible_of, ending_of}

-- the length of a search is that of these modules, which are as those of a program: the search has their rules and parts, their atoms and their
-- end, and holds all their clauses
pub record IsOfModules (search : View) (begun : Begun) (steps : ℕ → StepModule) : Type 0 where
  pub plain : Set
  pub modules : AreModules steps begun.n plain
  pub rank : ℕ → ℕ
  pub ranked : AreRanked steps begun.n rank
  pub ground : (length_of steps begun.n).ground ≡ search.ground
  pub visible : (length_of steps begun.n).visible ≡ visible_of begun
  pub ending : (length_of steps begun.n).ending ≡ ending_of begun
  pub held : (t : ℕ) → t < begun.n → (clause : Clause) → In clause (clauses.clauses_of (steps t)) → In clause (clauses_of search)

-- what holds for the length of each such modules
abbrev pub OfLengths : View → Begun → (Length → Type 0) → Type 0
OfLengths search begun P = (steps : ℕ → StepModule) → IsOfModules search begun steps → P (length_of steps begun.n)

-- ---- the walk

-- a further clause is needed
abbrev pub IsNeeded : View → Begun → Type 0
IsNeeded search begun = OfLengths search begun (λ length. Needed length (clauses_of search))

-- and this clause cuts the walk
abbrev pub CutsWalk : View → Begun → Clause → Type 0
CutsWalk search begun clause = OfLengths search begun (λ length. IsCut length (clauses_of search) clause)

-- the trail is the closure of a walk that is total and stable
abbrev pub IsAtFound : View → Begun → Type 0
IsAtFound search begun =
    OfLengths search begun (λ length. (decisions : List Lit) × IsFound length (clauses_of search) decisions (true_set length search.trail.entries) × IsClosure (clauses_of search) decisions (holds search.trail.entries))

-- ---- an added clause

-- it was learnt: from its negations the unit rule conflicts
pub record IsLearntOne (old new : View) (one : Kept) : Type 0 where
  pub kind : one.kind ≡ kinds.Learnt
  pub follows : Conflict (clauses_of old) (negations one.lits)
  pub loops : new.loops ≡ old.loops

-- it is a loop clause of a set of head variables and one of them, which stand beside it
pub record IsLoopOne (old new : View) (one : Kept) : Type 0 where
  pub kind : one.kind ≡ kinds.Loop
  pub set : LoopSet
  pub clause : IsLoopClause old.ground (among set.set.items) set.atom one.lits
  pub rising : IsTrue (rises set.set.items)
  pub place : set.clause ≡ length old.kept
  pub loops : new.loops ≡ old.loops ++ set ∷ []

-- one clause more, of different variables of the search, which was counted and which the clauses before don't absorb
pub record IsOneMore (old new : View) (begun : Begun) (id : ClauseId) : Type 0 where
  pub one : Kept
  pub number : id.place ≡ length old.kept
  pub kept : new.kept ≡ old.kept ++ one ∷ []
  pub length : one.length ≡ begun.n
  pub distinct : IsTrue (is_clause old.vars one.lits)
  pub came : IsLearntOne old new one ⊎ IsLoopOne old new one
  pub free : Absorbed (clauses_of old) one.lits → ⊥
  pub count : new.begun ≡ Some (record begun { counted = begun.counted + 1 })

-- a clause more that is false under the trail
abbrev pub IsFalseOne : View → View → Begun → ClauseId → Type 0
IsFalseOne old new begun id = (more : IsOneMore old new begun id) × IsTrue (refutes (holds old.trail.entries) more.one.lits)

-- a clause of different variables that blocks the walk that the trail is, with the set of its true variables
pub record IsBlocked (old new : View) (begun : Begun) (id : ClauseId) : Type 0 where
  pub one : Kept
  pub number : id.place ≡ length old.kept
  pub kept : new.kept ≡ old.kept ++ one ∷ []
  pub length : one.length ≡ begun.n
  pub kind : one.kind ≡ kinds.Block
  pub distinct : IsTrue (is_clause old.vars one.lits)
  pub lits : one.lits ≡ block_of old.trail.entries (lit_of (ending_of begun))
  pub blocks : IsAtFound old begun → OfLengths old begun (λ length. (decisions : List Lit) × IsBlock length (clauses_of old) one.lits decisions (true_set length old.trail.entries))

-- ---- the answers

-- the budget allows a clause more
abbrev pub Allows : Option ℕ → ℕ → Type 0
Allows None counted = Unit {0}
Allows (Some budget) counted = counted < budget

-- it is used up
abbrev pub IsUsedUp : Option ℕ → ℕ → Type 0
IsUsedUp None counted = ⊥
IsUsedUp (Some budget) counted = budget ≤ counted

-- whether the budget is used up
abbrev pub Allowed : Option ℕ → ℕ → Bool → Type 0
Allowed budget counted true = IsUsedUp budget counted
Allowed budget counted false = Allows budget counted

-- the search holds what it held
pub record HoldsSame (old new : View) : Type 0 where
  pub kept : new.kept ≡ old.kept
  pub loops : new.loops ≡ old.loops
  pub begun : new.begun ≡ old.begun

-- a clause was added where one is needed and the budget allows it, and it cuts the walk; or the walk is found, which is the trail; or it is closed; or a clause is needed and
-- the budget is used up
abbrev pub Steps : View → View → Begun → Option ℕ → Step → Type 0
Steps old new begun budget (steps.Added id) = (more : IsOneMore old new begun id) × Allows budget begun.counted × CutsWalk old begun more.one.lits
Steps old new begun budget steps.Found = HoldsSame old new × (0 < new.trail.level) × IsAtFound new begun
Steps old new begun budget steps.Closed = HoldsSame old new × IsClosedWalk (clauses_of old) (ending_of begun)
Steps old new begun budget steps.Spent = HoldsSame old new × IsUsedUp budget begun.counted × IsNeeded old begun

-- what is said of the length that a search is at
abbrev pub AtLength : Option Begun → (Begun → Type 0) → Type 0
AtLength None P = Unit {0}
AtLength (Some begun) P = P begun

-- the set of a loop clause, where there is one: of the last entry with its number
abbrev pub loop_set : List LoopSet → ℕ → Option LoopSet
loop_set loops place = find (λ (one : LoopSet). one.clause == place) (reverse loops)
