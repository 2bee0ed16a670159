use Rattle.std.proofs.Common.{length, ap, subst, ◌∙◌}
use Rattle.tel_rule.specs.declared.nodes.NodeOp.{NodeOp}
use Rattle.tel_rule.specs.declared.nodes.NodeOp.TheVariants as ops
use Rattle.tel_semantics.specs.Walking.{IsNodeAt}
use Rattle.tel_semantics.proofs.Ranks.{most_rank-below, kids-in_range}
use Rattle.tel_semantics.proofs.walking.operation_of.Goals as goal

pub returns-in-And : goal.returns-in-And
returns-in-And c =
    let program = c.args.template.now in
    let x = c.args.node in
    let kids = c.node_of-op.result.1.now in
    let node = subst (λ (op : NodeOp). IsNodeAt program x op kids) (c.in-Many.is ∙ ap ops.Many c.in-And.is) c.node_of-op.ensures in
    record { means = node.means; in_range = kids-in_range (length program.atoms) (length program.nodes) x kids node.right; below = most_rank-below (length program.atoms) (length program.nodes) x kids c.requires node.right }

pub returns-in-Or : goal.returns-in-Or
returns-in-Or c =
    let program = c.args.template.now in
    let x = c.args.node in
    let kids = c.node_of-op.result.1.now in
    let node = subst (λ (op : NodeOp). IsNodeAt program x op kids) (c.in-Many.is ∙ ap ops.Many c.in-Or.is) c.node_of-op.ensures in
    record { means = node.means; in_range = kids-in_range (length program.atoms) (length program.nodes) x kids node.right; below = most_rank-below (length program.atoms) (length program.nodes) x kids c.requires node.right }
