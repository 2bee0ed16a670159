use Rattle.std.proofs.Common.{◌∙◌, ◌++◌, ◌∷◌, [], sym}
use Rattle.std.proofs.lemmas.List.{append-nil}
use Rattle.tel_rule.specs.declared.formulas.UnaryOp.TheVariants as unary
use Rattle.tel_rule.specs.declared.nodes.NodeOp.TheVariants as ops
use Rattle.instance_build.specs.Instances.{atom_kid, node_over, atom_grown}
use Rattle.instance_build.proofs.NodesAdded.{finished, before_as, atom_children, item_as}
use Rattle.instance_build.proofs.growing.grow_atom.Goals as goal

pub returns-in_ok-kids-clause-nodes : goal.returns-in_ok-kids-clause-nodes
returns-in_ok-kids-clause-nodes g c =
    let op = ops.Unary unary.Previous in
    let number = g.N.AtomNumbers.number c.args.numbers.now in
    let leaf = atom_kid (number c.args.atom.now) in
    let old = c.args.nodes.now in
    let begun = c.begin.new.nodes in
    item_as (node_over op (leaf ∷ [])) (atom_grown number c.args.atom.now) old c.finish.new.nodes (before_as number c.args.atom.now c.if-atom-gt0.true)
    (finished op (leaf ∷ []) (record { op = op; kids = [] }) old begun c.finish.new.nodes c.in_ok-number.number c.in_ok-kids.kids c.in_ok-number.ensures.number
    (atom_children number c.args.atom.now c.in_ok-found.found c.in_ok-kids.kids c.in_ok-found.ensures c.in_ok-kids.ensures)
    (c.in_ok-number.ensures.nodes ∙ sym (append-nil (old ++ record { op = op; kids = [] } ∷ [])))
    c.finish.ensures.nodes)
