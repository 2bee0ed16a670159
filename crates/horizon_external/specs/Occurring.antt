-- The variables that a module speaks of.
use Rattle.std.specs.Prelude.{ℕ, Bool, List, [], ◌∷◌, ◌++◌, map, Option, Some, None, ◌==◌}
use Rattle.std.specs.List.{flat_map, list_any}
use Rattle.tel_base.specs.declared.literals.Lit.{Lit}
use Rattle.normal_program.specs.declared.rules.NRule.{NRule}
use Rattle.normal_program.specs.declared.shapes.Shape.{Shape}
use Rattle.normal_program.specs.declared.shapes.Shape.TheVariants as shapes
use Rattle.normal_program.specs.declared.shapes.NodeRule.{NodeRule}
use Rattle.normal_program.specs.declared.modules.BodyHead.{BodyHead}
use Rattle.normal_program.specs.declared.modules.BodyHead.TheVariants as heads
use Rattle.normal_program.specs.declared.modules.BodyDef.{BodyDef}
use Rattle.normal_program.specs.declared.modules.StepModule.{StepModule}

abbrev pub lit_vars : List Lit → List ℕ
lit_vars lits = map (λ (lit : Lit). lit.var) lits

abbrev pub option_vars : Option ℕ → List ℕ
option_vars None = []
option_vars (Some var) = var ∷ []

abbrev pub head_vars : BodyHead → List ℕ
head_vars (heads.Normal var) = var ∷ []
head_vars (heads.Choice var) = var ∷ []
head_vars heads.Nothing = []
head_vars heads.NextNormal = []
head_vars heads.NextChoice = []

abbrev pub body_vars : BodyDef → List ℕ
body_vars body = body.var ∷ (lit_vars body.lits ++ head_vars body.head)

abbrev pub rule_vars : NRule → List ℕ
rule_vars rule = option_vars rule.head ++ (rule.pos ++ (rule.neg ++ option_vars rule.body))

abbrev pub shape_vars : Shape → List ℕ
shape_vars shapes.True = []
shape_vars shapes.False = []
shape_vars (shapes.Is y) = y.var ∷ []
shape_vars (shapes.All ys) = lit_vars ys
shape_vars (shapes.Any ys) = lit_vars ys
shape_vars (shapes.AllAny y zs) = y.var ∷ lit_vars zs
shape_vars (shapes.AnyAll y z w) = y.var ∷ z.var ∷ w.var ∷ []
shape_vars (shapes.Same y z) = y.var ∷ z.var ∷ []

abbrev pub node_vars : NodeRule → List ℕ
node_vars node = node.var ∷ shape_vars node.shape

abbrev pub pair_vars : ℕ × ℕ → List ℕ
pair_vars pair = pair.0 ∷ pair.1 ∷ []

-- those of its bodies, rules, nodes, pairs and atoms
abbrev pub module_vars : StepModule → List ℕ
module_vars step = flat_map body_vars step.bodies ++ (flat_map rule_vars step.rules ++ (flat_map node_vars step.nodes ++ (flat_map pair_vars step.pairs ++ step.atoms)))

abbrev pub occurs : ℕ → List ℕ → Bool
occurs var vars = list_any (λ (other : ℕ). other == var) vars
