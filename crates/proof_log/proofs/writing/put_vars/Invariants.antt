use Rattle.std.proofs.Common.{drop}
use Rattle.std.specs.List.{flat_map}
use Rattle.std.specs.Prelude.{codes, decimal, ◌+◌, ◌++◌}
use Rattle.proof_log.proofs.Steps.{PutSoFar}
use Rattle.proof_log.proofs.writing.put_vars.Given as goal

abbrev pub invariant-loop-var : goal.invariant-loop-var
invariant-loop-var g l =
    let text = flat_map (λ var. decimal (var + 1) ++ codes " ") in
    PutSoFar (text l.vars) (text (drop l.var-index l.vars)) (g.L.Sink.bytes l.initial.log) (g.L.Sink.bytes l.log) l.initial.waiting.items l.waiting.items (g.L.Sink.faults l.initial.log) (g.L.Sink.faults l.log)
