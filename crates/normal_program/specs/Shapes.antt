-- The rules of shapes.
use Rattle.std.specs.Prelude.{ℕ, false, List, [], ◌∷◌, map, Some, None}
use Rattle.tel_base.specs.declared.literals.Lit.{Lit}
use Rattle.tel_base.specs.Literals.{negate}
use Rattle.normal_program.specs.declared.rules.NRule.{NRule}
use Rattle.normal_program.specs.declared.shapes.Shape.{Shape}
use Rattle.normal_program.specs.declared.shapes.Shape.TheVariants as shapes
use Rattle.normal_program.specs.declared.shapes.NodeRule.{NodeRule}
use Rattle.normal_program.specs.Rules.{rule_of}

-- a shape is a disjunction of conjunctions of literals
abbrev pub shape_bodies : Shape → List (List Lit)
shape_bodies shapes.True = [] ∷ []
shape_bodies shapes.False = []
shape_bodies (shapes.Is y) = (y ∷ []) ∷ []
shape_bodies (shapes.All ys) = ys ∷ []
shape_bodies (shapes.Any ys) = map (λ (y : Lit). y ∷ []) ys
shape_bodies (shapes.AllAny y zs) = map (λ (z : Lit). y ∷ z ∷ []) zs
shape_bodies (shapes.AnyAll y z w) = (y ∷ []) ∷ (z ∷ w ∷ []) ∷ []
shape_bodies (shapes.Same y z) = (y ∷ z ∷ []) ∷ (negate y ∷ negate z ∷ []) ∷ []

-- the rule of a variable with this body, for which no variable stands
abbrev pub node_rule : ℕ → List Lit → NRule
node_rule var lits = rule_of (Some var) false lits None

-- a rule for each body of its shape
abbrev pub rules_of_node : NodeRule → List NRule
rules_of_node node = map (node_rule node.var) (shape_bodies node.shape)
