-- A search that has a length of a program, and what it keeps for the next one.
use Rattle.std.specs.Prelude.{◌≡◌, ℕ, ◌+◌, ◌-◌, ◌<◌, max, List, [], ◌∷◌, ◌++◌}
use Rattle.tel_base.specs.Members.{In}
use Rattle.tel_rule.specs.Ground.{Ground, IsGround}
use Rattle.atom_space.specs.Numbers.{end_at}
use Rattle.normal_program.specs.declared.modules.StepModule.{StepModule}
use Rattle.normal_program.specs.Grounds.{layers_of, all_rules, parts_of}
use Rattle.normal_program.specs.ModuleClauses as modules
use Rattle.normal_program.specs.StableSets.{Set}
use Rattle.clause_store.specs.Closure.{Clause}
use Rattle.lit_trail.specs.Unassigned.{visible_below}
use Rattle.formula_unfold.specs.Nodes.{counts_of}
use Rattle.step_module.specs.Modules.{module_of}
use Rattle.search_laws.specs.Lengths.{length_of}
use Rattle.search_laws.specs.Origins.{Grown}
use Rattle.search_laws.specs.Runs.{Run}
use Rattle.cdcl_search.specs.Searches.{View, clauses_of, vars_for, kept_of_module, IsAsBefore}

-- the search has the rules and the parts of the modules of the states below n, holds their clauses, and has the variables of their atoms and ends
pub record HasModules (program : Ground) (n : ℕ) (search : View) : Type 0 where
  pub ground : search.ground ≡ (length_of (module_of program) n).ground
  pub held : (t : ℕ) → t < n → (clause : Clause) → In clause (modules.clauses_of (module_of program t)) → In clause (clauses_of search)
  pub atoms : (t : ℕ) → t < n → (var : ℕ) → In var (module_of program t).atoms → var < search.vars
  pub ends : (t : ℕ) → t < n → (module_of program t).end < search.vars

-- it has the length n of the program: each clause has its origin, and at this length these sets were found and blocked
pub record HasLength (program : Ground) (n : ℕ) (search : View) (sets : List Set) : Type 0 where
  pub modules : HasModules program n search
  pub run : Run (length_of (module_of program)) n search.kept sets

-- it has what the lengths up to n left
pub record HasLeft (program : Ground) (n : ℕ) (search : View) : Type 0 where
  pub modules : HasModules program n search
  pub grown : Grown (length_of (module_of program)) n search.kept

-- a search has what it had, and a module with its clauses
pub record IsExtended (old new : View) (step : StepModule) (clauses : List Clause) : Type 0 where
  pub rules : new.ground.rules ≡ old.ground.rules ++ all_rules step
  pub parts : new.ground.modules ≡ old.ground.modules ++ parts_of step ∷ []
  pub kept : new.kept ≡ old.kept ++ kept_of_module (step.t + 1) clauses
  pub vars : new.vars ≡ max old.vars (vars_for step clauses)

-- ---- from length to length

-- a search without modules and clauses has what no length left
abbrev pub NewHasLeft : Type 0
NewHasLeft = (program : Ground) (search : View) → search.ground ≡ layers_of [] [] → search.kept ≡ [] → HasLeft program 0 search

-- with the next module it has the next length, of which nothing is found yet
abbrev pub ExtendedHasLength : Type 0
ExtendedHasLength =
    (program : Ground) (n : ℕ) (old new : View) → HasLeft program n old → IsExtended old new (module_of program n) (modules.clauses_of (module_of program n)) → HasLength program (n + 1) new []

-- whatever was listed of a length, it leaves this
abbrev pub LengthHasLeft : Type 0
LengthHasLeft = (program : Ground) (n : ℕ) (search : View) (sets : List Set) → IsGround program → HasLength program n search sets → HasLeft program n search

-- and it stays where the room alone has changed
abbrev pub LeftStays : Type 0
LeftStays = (program : Ground) (n : ℕ) (old new : View) → HasLeft program n old → IsAsBefore old new → HasLeft program n new

-- a search with a length has the variables that it asks for
abbrev pub LengthHasVars : Type 0
LengthHasVars =
    (program : Ground) (n : ℕ) (search : View) (sets : List Set) → HasLength program n search sets
    → (0 < n) × ((var : ℕ) → In var (visible_below (counts_of program) n) → var < search.vars) × (end_at (counts_of program) (n - 1) < search.vars)
