use Rattle.std.proofs.Common.{◌≡◌, ℕ, suc, ◌+◌, true, take, subst, sym, arith}
use Rattle.std.specs.Prelude.{nat_lt}
use Rattle.std.specs.List.{list_all}
use Rattle.normal_program.specs.declared.shapes.NodeRule.{NodeRule}
use Rattle.normal_program.proofs.Places.{above_more}
use Rattle.normal_program.proofs.marks.above_nodes.Goals as goal

pub loop-node-preserved : goal.loop-node-preserved
loop-node-preserved c =
    let i = c.loop-node.node-index in
    let xs = c.args.nodes.now in
    let one : suc i ≡ i + 1 = omega arith in
    let size = c.max-size.ensures in
    subst (λ (n : ℕ). list_all (λ (node : NodeRule). nat_lt node.var c.max-size.result) (take n xs) ≡ true) one
    (above_more (λ (node : NodeRule). node.var) xs i c.node-item.result c.node-item.result c.loop-node.size c.max-size.result c.loop-node.invariant c.loop-node-test.true (sym c.node-item.is) (omega (arith, size)) (omega (arith, size)))
