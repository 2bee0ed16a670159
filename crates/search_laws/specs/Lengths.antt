-- What the search knows of a length: the program of the states below it, its end, and the order of its variables.
use Rattle.std.specs.Prelude.{◌≡◌, ℕ, ◌-◌, not, ◌||◌, List, [], ◌∷◌, map, IsTrue, ◌==◌, if◌then◌else◌}
use Rattle.std.specs.List.{list_any, flat_map, range_with_len}
use Rattle.tel_base.specs.Members.{In}
use Rattle.clause_store.specs.Closure.{Clause}
use Rattle.normal_program.specs.declared.rules.NRule.{NRule}
use Rattle.normal_program.specs.declared.modules.BodyDef.{BodyDef}
use Rattle.normal_program.specs.declared.modules.ModuleParts.{ModuleParts}
use Rattle.normal_program.specs.declared.modules.StepModule.{StepModule}
use Rattle.normal_program.specs.Grounds.{is_head, Layers, layers_of, all_rules, parts_of}
use Rattle.normal_program.specs.StableSets.{Set, IsStable, lits_hold}
use Rattle.normal_program.specs.ModuleClauses.{clauses_of}
use Rattle.completion.specs.Lengths.{fact_of, modules_below}

-- a length: the rules and the other parts of the modules of its states, the variable of its end, the variables of the atoms of its states in
-- the order of traces, and the clauses of its last module
pub record Length : Type 0 where
  pub ground : Layers
  pub ending : ℕ
  pub visible : List ℕ
  pub clauses : List Clause

-- the length n of these modules, one for each state
abbrev pub length_of : (ℕ → StepModule) → ℕ → Length
length_of steps n = record {
  ground = layers_of (flat_map all_rules (modules_below steps n)) (map parts_of (modules_below steps n));
  ending = (steps (n - 1)).end;
  visible = flat_map (λ (t : ℕ). (steps t).atoms) (range_with_len 0 n);
  clauses = clauses_of (steps (n - 1));
}

-- ---- its stable sets

-- the rules, with the end as a fact, the pairs and the bodies
abbrev pub rules_of : Length → List NRule
rules_of length = fact_of length.ending ∷ length.ground.rules

abbrev pub pairs_of : Length → List (ℕ × ℕ)
pairs_of length = flat_map (λ (parts : ModuleParts). parts.pairs) length.ground.modules

abbrev pub bodies_of : Length → List BodyDef
bodies_of length = flat_map (λ (parts : ModuleParts). parts.bodies) length.ground.modules

-- S is stable for the program of the length: for the rules of its modules, with its end as a fact
abbrev pub IsStableAt : Length → Set → Type 0
IsStableAt length S = IsStable (rules_of length) (pairs_of length) S

-- whether it may hold a variable: a head of a module, or the end
abbrev pub in_program : Length → Set
in_program length v = is_head length.ground.modules v || (v == length.ending)

-- ---- with the values of bodies

-- whether a variable stands for no body
abbrev pub is_plain : Length → Set
is_plain length v = not (list_any (λ (def : BodyDef). def.var == v) (bodies_of length))

-- the values that a set gives: its own, and for the variable of each entry of `bodies` that of the literals of the entry
pub record IsValued (length : Length) (S values : Set) : Type 0 where
  pub same : (v : ℕ) → IsTrue (is_plain length v) → values v ≡ S v
  pub bodies : (def : BodyDef) → In def (bodies_of length) → values def.var ≡ lits_hold S S def.lits

-- such values, where each of the variables has one body
abbrev pub with_bodies : List BodyDef → Set → Set
with_bodies [] S v = S v
with_bodies (def ∷ more) S v = if def.var == v then lits_hold S S def.lits else with_bodies more S v

-- a stable set of the length with its values
pub record Stands (length : Length) (S values : Set) : Type 0 where
  pub stable : IsStableAt length S
  pub valued : IsValued length S values
