-- What contracts see of a search.
use Rattle.std.specs.Prelude.{◌≡◌, ℕ, ◌+◌, ◌-◌, ◌<◌, ◌≤◌, max, List, [], ◌∷◌, map, length, Option, Some, None, ◌⊎◌}
use Rattle.tel_base.specs.Members.{In}
use Rattle.atom_space.specs.Numbers.{Space, end_at}
use Rattle.normal_program.specs.Grounds.{Layers, layers_of}
use Rattle.normal_program.specs.declared.modules.StepModule.{StepModule}
use Rattle.clause_store.specs.declared.store.ClauseKind.TheVariants as kinds
use Rattle.clause_store.specs.Held.{Held}
use Rattle.clause_store.specs.Held as held
use Rattle.clause_store.specs.Closure.{Clause}
use Rattle.lit_trail.specs.Entries as trails
use Rattle.lit_trail.specs.Unassigned.{visible_below}
use Rattle.horizon_external.specs.Occurring.{lit_vars}
use Rattle.search_laws.specs.Lengths.{Length}
use Rattle.search_laws.specs.Origins.{Kept, lits_of}
use Rattle.trail_walk.specs.Ways.{IsReady, IsOnWay}
use Rattle.cdcl_search.specs.declared.loops.LoopSet.{LoopSet}

-- the length that a search is at: the variables of its states, the length, and how many clauses were counted since it began
pub record Begun : Type 0 where
  pub space : Space
  pub n : ℕ
  pub counted : ℕ

-- a length at its beginning
abbrev pub begun_at : Space → ℕ → Begun
begun_at space n = record { space = space; n = n; counted = 0 }

-- the rules and the other parts of the modules, the clauses with the lengths at which they came, the number of variables, the trail, the sets of
-- loop clauses, and the length
pub record View : Type 0 where
  pub ground : Layers
  pub kept : List Kept
  pub vars : ℕ
  pub trail : trails.View
  pub loops : List LoopSet
  pub begun : Option Begun

-- the held clauses with their lengths
abbrev pub kept_of : List Held → List ℕ → List Kept
kept_of [] lengths = []
kept_of (clause ∷ more) [] = record { kind = clause.kind; length = 0; lits = clause.lits } ∷ kept_of more []
kept_of (clause ∷ more) (n ∷ lengths) = record { kind = clause.kind; length = n; lits = clause.lits } ∷ kept_of more lengths

abbrev pub view_of : Layers → held.View → List ℕ → trails.View → List LoopSet → Option Begun → View
view_of ground store lengths trail loops begun = record {
  ground = ground;
  kept = kept_of store.clauses lengths;
  vars = trail.vars;
  trail = trail;
  loops = loops;
  begun = begun;
}

-- the clauses alone
abbrev pub clauses_of : View → List Clause
clauses_of search = lits_of search.kept

-- the variables of the atoms of a length, in the order of traces, and that of its end
abbrev pub visible_of : Begun → List ℕ
visible_of begun = visible_below begun.space.counts begun.n

abbrev pub ending_of : Begun → ℕ
ending_of begun = end_at begun.space.counts (begun.n - 1)

-- a length that a walk goes along, whatever its rules are
abbrev pub walk_length : Begun → Length
walk_length begun = record { ground = layers_of [] []; ending = ending_of begun; visible = visible_of begun; clauses = [] }

-- ---- a module more

-- the greatest of these variables, 0 where there are none
abbrev pub greatest : List ℕ → ℕ
greatest [] = 0
greatest (var ∷ more) = max var (greatest more)

abbrev pub greatest_in : List Clause → ℕ
greatest_in [] = 0
greatest_in (clause ∷ more) = max (greatest (lit_vars clause)) (greatest_in more)

-- how many variables a search needs for the atoms and the end of a module, and for its clauses
abbrev pub vars_for : StepModule → List Clause → ℕ
vars_for step clauses = max step.end (max (greatest step.atoms) (greatest_in clauses)) + 1

-- how many literals the clauses have
abbrev pub literal_count : List Clause → ℕ
literal_count [] = 0
literal_count (clause ∷ more) = length clause + literal_count more

-- the clauses of a module as a store holds them, the lengths at which they came, and both
abbrev pub held_of_module : List Clause → List Held
held_of_module clauses = map (λ (clause : Clause). record { kind = kinds.Module; lits = clause }) clauses

abbrev pub lengths_of_module : ℕ → List Clause → List ℕ
lengths_of_module n clauses = map (λ (clause : Clause). n) clauses

abbrev pub kept_of_module : ℕ → List Clause → List Kept
kept_of_module n clauses = map (λ (clause : Clause). record { kind = kinds.Module; length = n; lits = clause }) clauses

-- ---- a length

-- a length of the space, whose variables are below the number
pub record IsLength (vars : ℕ) (begun : Begun) : Type 0 where
  pub some : 0 < begun.n
  pub within : begun.n ≤ begun.space.greatest
  pub visible : (var : ℕ) → In var (visible_of begun) → var < vars
  pub ending : ending_of begun < vars

-- the trail is at level 0, or on the way of the length
abbrev pub IsUnderWay : Begun → trails.View → Type 0
IsUnderWay begun trail = (trail.level ≡ 0) ⊎ IsOnWay (walk_length begun) trail

pub record IsBegun (vars held : ℕ) (trail : trails.View) (begun : Begun) : Type 0 where
  pub length : IsLength vars begun
  pub few : begun.counted ≤ held
  pub way : IsUnderWay begun trail

abbrev pub HasBegun : ℕ → ℕ → trails.View → Option Begun → Type 0
HasBegun vars held trail None = Unit {0}
HasBegun vars held trail (Some begun) = IsBegun vars held trail begun

-- a store and a trail that are sound together, with the length of each clause
pub record IsSearch (store : held.View) (trail : trails.View) (scratch : ℕ) (lengths : List ℕ) (begun : Option Begun) : Type 0 where
  pub ready : IsReady store trail
  pub room : trail.vars ≤ scratch
  pub each : length lengths ≡ length store.clauses
  pub at : HasBegun trail.vars (length store.clauses) trail begun

-- a search as it was, but for its room
pub record IsAsBefore (old new : View) : Type 0 where
  pub ground : new.ground ≡ old.ground
  pub kept : new.kept ≡ old.kept
  pub trail : (new.trail.entries ≡ old.trail.entries) × (new.trail.level ≡ old.trail.level)
  pub vars : old.vars ≤ new.vars
  pub loops : new.loops ≡ old.loops
  pub begun : new.begun ≡ old.begun
