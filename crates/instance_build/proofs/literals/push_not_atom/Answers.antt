use Rattle.std.proofs.Common.{◌∷◌, []}
use Rattle.tel_rule.specs.declared.formulas.UnaryOp.TheVariants as unary
use Rattle.tel_rule.specs.declared.nodes.NodeOp.TheVariants as ops
use Rattle.instance_build.specs.Instances.{atom_grown}
use Rattle.instance_build.proofs.NodesAdded.{finished, one_kid, one_row}
use Rattle.instance_build.proofs.literals.push_not_atom.Goals as goal

pub returns-clause-nodes : goal.returns-clause-nodes
returns-clause-nodes g c =
    let op = ops.Unary unary.Not in
    let child = atom_grown (g.N.AtomNumbers.number c.args.numbers.now) c.args.atom.now in
    let old = c.args.nodes.now in
    let begun = c.begin.new.nodes in
    let begun_is = c.in_ok-number.ensures.nodes in
    finished op (child ∷ []) (record { op = op; kids = [] }) old c.grow_atom.new.nodes c.finish.new.nodes c.in_ok-number.number c.in_ok-kids.kids c.in_ok-number.ensures.number
    (one_kid child old begun _ c.in_ok-kid.kid c.in_ok-kids.kids begun_is c.in_ok-kid.ensures.kid c.in_ok-kids.ensures)
    (one_row child old begun c.grow_atom.new.nodes _ begun_is c.in_ok-kid.ensures.nodes)
    c.finish.ensures.nodes
