use Rattle.formula_unfold.specs.Nodes.{node_at}
use Rattle.step_module.proofs.StepLoops.{range_step}
use Rattle.step_module.proofs.steps.nodes_at.Goals as goal

pub loop-node-preserved : goal.loop-node-preserved
loop-node-preserved c =
    range_step (node_at c.args.template.now c.args.t) c.loop-node.node c.loop-node.nodes c.push.new.self c.in_ok-unfold.field-0 c.loop-node.invariant c.in_ok-unfold.ensures c.in_ok-push.ensures.ok
