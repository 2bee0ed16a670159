use Rattle.std.proofs.Common.{ℕ, arith}
use Rattle.std.specs.Prelude.{vec_len}
use Rattle.normal_program.specs.declared.shapes.NodeRule.{NodeRule}
use Rattle.normal_program.proofs.Places.{above_grows}
use Rattle.normal_program.proofs.marks.make_room.Goals as goal

pub returns-clause-atoms : goal.returns-clause-atoms
returns-clause-atoms c =
    let one = c.in_ok-grow.ensures in
    let two = c.in_ok-grow-2.ensures in
    above_grows (λ (x : ℕ). x) c.args.atoms.now c.above_atoms.result (vec_len c.grow-2.new.marks) c.above_atoms.ensures (omega (arith, one.size, two.stays))

pub returns-clause-nodes : goal.returns-clause-nodes
returns-clause-nodes c =
    let two = c.in_ok-grow-2.ensures in
    above_grows (λ (node : NodeRule). node.var) c.args.nodes.now c.above_nodes.result (vec_len c.grow-2.new.marks) c.above_nodes.ensures (omega (arith, two.size))
