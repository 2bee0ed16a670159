use Rattle.std.proofs.Common.{◌∙◌, ◌++◌, ◌∷◌, [], ℕ, map}
use Rattle.tel_rule.specs.declared.nodes.NodeOp.TheVariants as ops
use Rattle.instance_build.specs.Instances.{in_row, node_over, grown}
use Rattle.instance_build.proofs.NodesAdded.{finished, one_kid, one_row, two_kids, two_rows, row_behind, grown_as, unary_as, binary_as, many_as}
use Rattle.instance_build.proofs.growing.+growing.Goals as goal

pub grow-returns-in_ok-kids-in-Unary-clause-nodes : goal.grow-returns-in_ok-kids-in-Unary-clause-nodes
grow-returns-in_ok-kids-in-Unary-clause-nodes g t c =
    let number = g.N.AtomNumbers.number c.args.numbers.now in
    let old = c.args.nodes.now in
    let begun = c.begin-in-Unary.new.nodes in
    let inner = grown number c.get.result.now in
    let begun_is = c.in_ok-number-in-Unary.ensures.nodes in
    grown_as number c.args.formula.now (node_over (ops.Unary c.in-Unary.op) (inner ∷ [])) old c.finish.new.nodes
    (unary_as number c.args.formula.now c.in-Unary.op c.in-Unary.operand c.get.result.now c.in-Unary.is c.get.ensures)
    (finished (ops.Unary c.in-Unary.op) (inner ∷ []) (record { op = ops.Unary c.in-Unary.op; kids = [] }) old c.grow.new.nodes c.finish.new.nodes c.in_ok-number-in-Unary.number c.in_ok-kids-in-Unary.kids c.in_ok-number-in-Unary.ensures.number
    (one_kid inner old begun _ c.in_ok-kid-in-Unary.kid c.in_ok-kids-in-Unary.kids begun_is c.in_ok-kid-in-Unary.ensures.kid c.in_ok-kids-in-Unary.ensures)
    (one_row inner old begun c.grow.new.nodes _ begun_is c.in_ok-kid-in-Unary.ensures.nodes)
    c.finish.ensures.nodes)

pub grow-returns-in_ok-kids-in-Binary-clause-nodes : goal.grow-returns-in_ok-kids-in-Binary-clause-nodes
grow-returns-in_ok-kids-in-Binary-clause-nodes g t c =
    let number = g.N.AtomNumbers.number c.args.numbers.now in
    let old = c.args.nodes.now in
    let begun = c.begin-in-Binary.new.nodes in
    let mid = c.grow-in-Binary.new.nodes in
    let left = grown number c.get-in-Binary.result.now in
    let right = grown number c.get-in-Binary-2.result.now in
    let begun_is = c.in_ok-number-in-Binary.ensures.nodes in
    let mid_is = c.in_ok-left-in-Binary.ensures.nodes in
    grown_as number c.args.formula.now (node_over (ops.Binary c.in-Binary.op) (left ∷ right ∷ [])) old c.finish-in-Binary.new.nodes
    (binary_as number c.args.formula.now c.in-Binary.op c.in-Binary.left c.in-Binary.right c.get-in-Binary.result.now c.get-in-Binary-2.result.now c.in-Binary.is c.get-in-Binary.ensures c.get-in-Binary-2.ensures)
    (finished (ops.Binary c.in-Binary.op) (left ∷ right ∷ []) (record { op = ops.Binary c.in-Binary.op; kids = [] }) old c.grow-in-Binary-2.new.nodes c.finish-in-Binary.new.nodes c.in_ok-number-in-Binary.number c.in_ok-kids-in-Binary.kids c.in_ok-number-in-Binary.ensures.number
    (two_kids left right old begun mid _ c.in_ok-left-in-Binary.left c.in_ok-right-in-Binary.right c.in_ok-kids-in-Binary.kids begun_is mid_is c.in_ok-left-in-Binary.ensures.kid c.in_ok-right-in-Binary.ensures.kid c.in_ok-kids-in-Binary.ensures)
    (two_rows left right old begun mid c.grow-in-Binary-2.new.nodes _ begun_is mid_is c.in_ok-right-in-Binary.ensures.nodes)
    c.finish-in-Binary.ensures.nodes)

pub grow-returns-in_ok-kids-in-Many-clause-nodes : goal.grow-returns-in_ok-kids-in-Many-clause-nodes
grow-returns-in_ok-kids-in-Many-clause-nodes g t c =
    let number = g.N.AtomNumbers.number c.args.numbers.now in
    let old = c.args.nodes.now in
    let begun = c.begin-in-Many.new.nodes in
    let operands = map (grown number) c.as_slice.result.now in
    let begun_is = c.in_ok-number-in-Many.ensures.nodes in
    grown_as number c.args.formula.now (node_over (ops.Many c.in-Many.op) operands) old c.finish-in-Many.new.nodes
    (many_as number c.args.formula.now c.in-Many.op c.in-Many.operands c.as_slice.result.now c.in-Many.is c.as_slice.ensures)
    (finished (ops.Many c.in-Many.op) operands (record { op = ops.Many c.in-Many.op; kids = [] }) old c.grow_all.new.nodes c.finish-in-Many.new.nodes c.in_ok-number-in-Many.number c.in_ok-kids-in-Many.kids c.in_ok-number-in-Many.ensures.number
    (c.in_ok-kids-in-Many.ensures.kids ∙ row_behind (λ (n : ℕ). (in_row operands n).0) old begun _ begun_is)
    (c.in_ok-kids-in-Many.ensures.nodes ∙ (λ i. begun_is i ++ (row_behind (λ (n : ℕ). (in_row operands n).1) old begun _ begun_is) i))
    c.finish-in-Many.ensures.nodes)
