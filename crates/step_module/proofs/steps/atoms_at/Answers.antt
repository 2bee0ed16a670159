use Rattle.std.proofs.Common.{ℕ}
use Rattle.atom_space.specs.Numbers.{visible}
use Rattle.step_module.proofs.StepLoops.{range_step}
use Rattle.step_module.proofs.steps.atoms_at.Goals as goal

pub loop-atom-preserved : goal.loop-atom-preserved
loop-atom-preserved c =
    range_step (λ (atom : ℕ). visible c.args.space.now.counts atom c.args.t) c.loop-atom.atom c.loop-atom.list c.push.new.self c.visible.result c.loop-atom.invariant c.visible.ensures c.in_ok-push.ensures.ok
