-- The theory of an instantiated program: each instance is the formula body -> head, demanded at the instants of its part, and no
-- atom holds together with its negative.
use Rattle.std.specs.Prelude.{ℕ, ◌+◌, Bool, true, not, ◌||◌, List, [], ◌∷◌, ◌++◌, map, if◌then◌else◌, nat_lt, ◌==◌}
use Rattle.std.specs.List.{list_all}
use Rattle.tel_rule.specs.declared.parts.Part.{Part}
use Rattle.tel_rule.specs.declared.parts.Part.TheVariants as parts
use Rattle.tel_rule.specs.declared.nodes.Node.{Node}
use Rattle.tel_rule.specs.declared.ground.Instance.{Instance}
use Rattle.tel_rule.specs.declared.ground.GroundHead.{GroundHead}
use Rattle.tel_rule.specs.declared.ground.GroundHead.TheVariants as heads
use Rattle.tel_rule.specs.declared.ground.BodyLit.{BodyLit}
use Rattle.tel_rule.specs.declared.ground.BodyItem.{BodyItem}
use Rattle.tel_rule.specs.declared.ground.BodyItem.TheVariants as items
use Rattle.tel_rule.specs.Ground.{Ground}
use Rattle.tel_semantics.specs.Traces.{each_below}
use Rattle.tel_semantics.specs.Formula.{FormulaOver, Formula, True, False, Atom, And, Or, Arrow, Previous, Next, negation}
use Rattle.tel_semantics.specs.NodeFormula.{node_formula}
use Rattle.tel_semantics.specs.Satisfaction.{sat}

-- a formula, and the part at whose instants it is demanded
pub record DemandOver (X : Type 0) : Type 0 where
  pub part : Part
  pub formula : FormulaOver X

abbrev pub Demand : Type 0
Demand = DemandOver ℕ

-- an atom at the same instant, or one instant before, or what a node means
abbrev pub item_formula : List Node → BodyItem → Formula
item_formula nodes (items.Atom atom) = Atom atom
item_formula nodes (items.Before atom) = Previous (Atom atom)
item_formula nodes (items.Node node) = node_formula nodes node

abbrev pub literal_formula : List Node → BodyLit → Formula
literal_formula nodes literal = if literal.positive then item_formula nodes literal.item else negation (item_formula nodes literal.item)

-- the `and` of the literals of a body
abbrev pub body_formula : List Node → List BodyLit → Formula
body_formula nodes [] = True
body_formula nodes (literal ∷ more) = And (literal_formula nodes literal) (body_formula nodes more)

-- an atom at the same instant, or at the next one
abbrev pub derived_formula : ℕ → Bool → Formula
derived_formula atom after = if after then Next (Atom atom) else Atom atom

-- p, next p, `p or not p`, `next p or not next p`, or false
abbrev pub head_formula : GroundHead → Formula
head_formula (heads.Normal atom after) = derived_formula atom after
head_formula (heads.Choice atom after) = Or (derived_formula atom after) (negation (derived_formula atom after))
head_formula heads.None = False

-- body -> head
abbrev pub instance_formula : List Node → Instance → Formula
instance_formula nodes instance = Arrow (body_formula nodes instance.body) (head_formula instance.head)

abbrev pub demand_of : List Node → Instance → Demand
demand_of nodes instance = record { part = instance.part; formula = instance_formula nodes instance }

-- an atom and its negative: not both, at every instant
abbrev pub pair_formula : ℕ × ℕ → Formula
pair_formula pair = negation (And (Atom pair.0) (Atom pair.1))

abbrev pub pair_demand : ℕ × ℕ → Demand
pair_demand pair = record { part = parts.Always; formula = pair_formula pair }

-- the formulas of a program with their parts: its instances in order, and its pairs
abbrev pub theory : Ground → List Demand
theory program = map (demand_of program.nodes) program.instances ++ map pair_demand program.pairs

-- whether a part demands its formulas at the instant k of a trace of length n
abbrev pub is_demanded : Part → ℕ → ℕ → Bool
is_demanded parts.Initial n k = k == 0
is_demanded parts.Dynamic n k = nat_lt 0 k
is_demanded parts.Always n k = true
is_demanded parts.Final n k = k + 1 == n

-- whether (H, T) satisfies a formula wherever it is demanded
abbrev pub meets : {X : Type 0} → ℕ → (ℕ → X → Bool) → (ℕ → X → Bool) → DemandOver X → Bool
meets n H T demand = each_below n (λ k. not (is_demanded demand.part n k) || sat demand.formula n H T k)

-- whether (H, T) is a model of a theory, in traces of length n
abbrev pub is_model : {X : Type 0} → List (DemandOver X) → ℕ → (ℕ → X → Bool) → (ℕ → X → Bool) → Bool
is_model demands n H T = list_all (meets n H T) demands
