use Rattle.std.proofs.Common.{drop}
use Rattle.std.specs.List.{flat_map}
use Rattle.std.specs.Prelude.{codes, ◌++◌}
use Rattle.proof_log.specs.Lines.{lit_text}
use Rattle.proof_log.proofs.Steps.{PutSoFar}
use Rattle.proof_log.proofs.writing.put_lits.Given as goal

abbrev pub invariant-loop-lit : goal.invariant-loop-lit
invariant-loop-lit g l =
    let text = flat_map (λ lit. lit_text lit ++ codes " ") in
    PutSoFar (text l.lits) (text (drop l.lit-index l.lits)) (g.L.Sink.bytes l.initial.log) (g.L.Sink.bytes l.log) l.initial.waiting.items l.waiting.items (g.L.Sink.faults l.initial.log) (g.L.Sink.faults l.log)
