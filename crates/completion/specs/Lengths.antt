-- The program of a length, made of the modules of its states, and what the values of its bodies add to a stable set.
use Rattle.std.specs.Prelude.{◌≡◌, ℕ, ◌-◌, ◌<◌, ◌≤◌, false, List, [], ◌∷◌, map, Some, None, IsTrue, IsFalse}
use Rattle.std.specs.List.{flat_map, range_with_len}
use Rattle.tel_base.specs.declared.literals.Lit.{Lit}
use Rattle.tel_base.specs.Members.{In}
use Rattle.normal_program.specs.declared.rules.NRule.{NRule}
use Rattle.normal_program.specs.declared.shapes.NodeRule.{NodeRule}
use Rattle.normal_program.specs.declared.modules.BodyDef.{BodyDef}
use Rattle.normal_program.specs.declared.modules.StepModule.{StepModule}
use Rattle.normal_program.specs.Shapes.{shape_bodies}
use Rattle.normal_program.specs.Grounds.{all_rules}
use Rattle.normal_program.specs.StableSets.{Set, lits_hold, IsStable}
use Rattle.completion.specs.Completions.{IsHead}

-- ---- the program of a length

-- the fact that this variable is true
abbrev pub fact_of : ℕ → NRule
fact_of var = record { head = Some var; choice = false; pos = []; neg = []; body = None }

-- the modules of the states below n
abbrev pub modules_below : (ℕ → StepModule) → ℕ → List StepModule
modules_below steps n = map steps (range_with_len 0 n)

-- the rules of modules, with a fact, and their pairs
abbrev pub rules_of_modules : NRule → List StepModule → List NRule
rules_of_modules fact steps = fact ∷ flat_map all_rules steps

abbrev pub pairs_of_modules : List StepModule → List (ℕ × ℕ)
pairs_of_modules steps = flat_map (λ (step : StepModule). step.pairs) steps

-- a set is stable for the length n: for the rules of the modules of its states, the end of the last one as a fact, and for their pairs
abbrev pub IsStableOf : (ℕ → StepModule) → ℕ → Set → Type 0
IsStableOf steps n S = IsStable (rules_of_modules (fact_of (steps (n - 1)).end) (modules_below steps n)) (pairs_of_modules (modules_below steps n)) S

-- ---- the variables of modules

-- a variable stands for one body; an end is no head and that of one state alone; an open variable of a state is no head and no end of a state up to it
pub record AreApart (steps : ℕ → StepModule) (n : ℕ) : Type 0 where
  pub bodies : (t u : ℕ) → t < n → u < n → (def other : BodyDef) → In def (steps t).bodies → In other (steps u).bodies → def.var ≡ other.var → def ≡ other
  pub ends : (t u : ℕ) → t < n → u < n → (steps t).end ≡ (steps u).end → t ≡ u
  pub end_heads : (t u : ℕ) → t < n → u < n → IsHead (steps u) (steps t).end → ⊥
  pub open_heads : (t u : ℕ) → t < n → u ≤ t → (var : ℕ) → In var (steps t).open_vars → IsHead (steps u) var → ⊥
  pub open_ends : (t u : ℕ) → t < n → u ≤ t → (var : ℕ) → In var (steps t).open_vars → (steps u).end ≡ var → ⊥

-- `plain` has all variables of which the modules before n speak, but none that stands for a body
pub record ArePlain (steps : ℕ → StepModule) (n : ℕ) (plain : Set) : Type 0 where
  pub no_body : (t : ℕ) → t < n → (def : BodyDef) → In def (steps t).bodies → IsFalse (plain def.var)
  pub heads : (t : ℕ) → t < n → (var : ℕ) → IsHead (steps t) var → IsTrue (plain var)
  pub ends : (t : ℕ) → t < n → IsTrue (plain (steps t).end)
  pub opens : (t : ℕ) → t < n → (var : ℕ) → In var (steps t).open_vars → IsTrue (plain var)
  pub bodies : (t : ℕ) → t < n → (def : BodyDef) (lit : Lit) → In def (steps t).bodies → In lit def.lits → IsTrue (plain lit.var)
  pub shapes : (t : ℕ) → t < n → (node : NodeRule) (lits : List Lit) (lit : Lit) → In node (steps t).nodes → In lits (shape_bodies node.shape) → In lit lits → IsTrue (plain lit.var)
  pub pairs : (t : ℕ) → t < n → (pair : ℕ × ℕ) → In pair (steps t).pairs → IsTrue (plain pair.0) × IsTrue (plain pair.1)

-- the set S with the values of the bodies: where it is plain its own, and for each body whether its literals hold in S
pub record IsValued (steps : ℕ → StepModule) (n : ℕ) (plain S values : Set) : Type 0 where
  pub same : (var : ℕ) → IsTrue (plain var) → values var ≡ S var
  pub bodies : (t : ℕ) → t < n → (def : BodyDef) → In def (steps t).bodies → values def.var ≡ lits_hold S S def.lits
