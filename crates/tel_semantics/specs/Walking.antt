-- What the walk over the nodes of a formula answers, in one world of an HT-trace.
use Rattle.std.specs.Prelude.{◌≡◌, ℕ, ◌-◌, ◌<◌, IsTrue, Bool, true, ◌&&◌, List, [], ◌∷◌, map, max, if◌then◌else◌}
use Rattle.std.specs.List.{list_all}
use Rattle.tel_rule.specs.declared.formulas.ManyOp.TheVariants as many
use Rattle.tel_rule.specs.declared.nodes.NodeOp.{NodeOp}
use Rattle.tel_rule.specs.declared.nodes.Kid.{Kid}
use Rattle.tel_rule.specs.declared.nodes.Kid.TheVariants as kids
use Rattle.tel_rule.specs.declared.nodes.Node.{Node}
use Rattle.tel_rule.specs.Nodes.{kid_in_range, takes_kids, is_kid}
use Rattle.tel_rule.specs.Ground.{Ground}
use Rattle.std.specs.Prelude.{length}
use Rattle.tel_semantics.specs.declared.walking.World.{World}
use Rattle.tel_semantics.specs.declared.walking.World.TheVariants.{Here, There}
use Rattle.tel_semantics.specs.declared.walking.HtTrace.{HtTrace}
use Rattle.tel_semantics.specs.declared.walking.Operand.{Operand}
use Rattle.tel_semantics.specs.declared.walking.Operand.TheVariants.{Constant, Child}
use Rattle.tel_semantics.specs.declared.walking.Operation.{Operation}
use Rattle.tel_semantics.specs.declared.walking.Operation.TheVariants as operations
use Rattle.tel_semantics.specs.Traces.{test_of}
use Rattle.tel_semantics.specs.Formula.{Formula, True, False, Since, Trigger, Until, Release}
use Rattle.tel_semantics.specs.NodeFormula.{const_formula, unary_formula, binary_formula, many_formula, op_formula, node_formula, kid_formula}
use Rattle.tel_semantics.specs.Satisfaction.{sat}

-- the trace of a world of (H, T): H here, and T there
abbrev pub seen : World → List (List ℕ) → List (List ℕ) → List (List ℕ)
seen Here H T = H
seen There H T = T

-- whether a formula holds at an instant in the world of this pair
abbrev pub holds_in : HtTrace → Formula → ℕ → Bool
holds_in pair f k = sat f pair.length (test_of (seen pair.world pair.here.now pair.there.now)) (test_of pair.there.now) k

-- what an operand means: true or false, or what a child means
abbrev pub operand_formula : List Node → Operand → Formula
operand_formula nodes (Constant value) = if value then True else False
operand_formula nodes (Child kid) = kid_formula nodes kid

abbrev pub operand_in_range : Ground → Operand → Bool
operand_in_range program (Constant value) = true
operand_in_range program (Child kid) = kid_in_range (length program.atoms) (length program.nodes) kid

-- what is known of a node of a program: its children are as many as its operator takes, each may be a child of it, and its formula
pub record IsNodeAt (program : Ground) (x : ℕ) (op : NodeOp) (list : List Kid) : Type 0 where
  pub counted : IsTrue (takes_kids op (length list))
  pub right : IsTrue (list_all (is_kid (length program.atoms) (length program.nodes) x) list)
  pub means : node_formula program.nodes x ≡ op_formula op (map (kid_formula program.nodes) list)

-- what an operation means
abbrev pub operation_formula : List Node → Operation → Formula
operation_formula nodes (operations.Const op) = const_formula op
operation_formula nodes (operations.Unary op kid) = unary_formula op (kid_formula nodes kid)
operation_formula nodes (operations.Binary op first second) = binary_formula op (kid_formula nodes first) (kid_formula nodes second)
operation_formula nodes (operations.And list) = many_formula many.And (map (kid_formula nodes) list.now)
operation_formula nodes (operations.Or list) = many_formula many.Or (map (kid_formula nodes) list.now)

abbrev pub operation_in_range : Ground → Operation → Bool
operation_in_range program (operations.Const op) = true
operation_in_range program (operations.Unary op kid) = kid_in_range (length program.atoms) (length program.nodes) kid
operation_in_range program (operations.Binary op first second) =
    kid_in_range (length program.atoms) (length program.nodes) first && kid_in_range (length program.atoms) (length program.nodes) second
operation_in_range program (operations.And list) = list_all (kid_in_range (length program.atoms) (length program.nodes)) list.now
operation_in_range program (operations.Or list) = list_all (kid_in_range (length program.atoms) (length program.nodes)) list.now

-- how many nodes are left from a child on, of the total: how far a walk may still go
abbrev pub kid_rank : ℕ → Kid → ℕ
kid_rank total (kids.Atom atom) = 0
kid_rank total (kids.Node node) = total - node

abbrev pub most_rank : ℕ → List Kid → ℕ
most_rank total [] = 0
most_rank total (kid ∷ more) = max (kid_rank total kid) (most_rank total more)

abbrev pub operand_rank : ℕ → Operand → ℕ
operand_rank total (Constant value) = 0
operand_rank total (Child kid) = kid_rank total kid

abbrev pub operation_rank : ℕ → Operation → ℕ
operation_rank total (operations.Const op) = 0
operation_rank total (operations.Unary op kid) = kid_rank total kid
operation_rank total (operations.Binary op first second) = max (kid_rank total first) (kid_rank total second)
operation_rank total (operations.And list) = most_rank total list.now
operation_rank total (operations.Or list) = most_rank total list.now

-- the operation of a node of a program: what the node means, over children that are in range and behind it
pub record IsOperationOf (program : Ground) (x : ℕ) (operation : Operation) : Type 0 where
  pub means : node_formula program.nodes x ≡ operation_formula program.nodes operation
  pub in_range : IsTrue (operation_in_range program operation)
  pub below : operation_rank (length program.nodes) operation < length program.nodes - x

-- since, which wants some instant of its way, or trigger, which wants each
abbrev pub back_formula : Bool → Formula → Formula → Formula
back_formula some f g = if some then Since f g else Trigger f g

-- until, which wants some instant of its way, or release, which wants each
abbrev pub on_formula : Bool → Formula → Formula → Formula
on_formula some f g = if some then Until f g else Release f g
