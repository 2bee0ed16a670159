use Rattle.std.proofs.Common.{◌∙◌}
use Rattle.std.specs.List.{range_with_len}
use Rattle.tel_semantics.proofs.ListSteps.{replicate_step}
use Rattle.tel_semantics.proofs.candidates.full_trace_of.Goals as goal

pub loop-preserved : goal.loop-preserved
loop-preserved c =
    replicate_step c.loop.counter (range_with_len 0 c.args.count) c.from_vec.result c.loop.trace c.push.new.self c.loop.invariant (c.from_vec.ensures ∙ c.in_ok-state.ensures) c.in_ok-push.ensures.ok
