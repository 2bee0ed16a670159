use Rattle.std.proofs.Common.{drop}
use Rattle.std.specs.List.{flat_map}
use Rattle.tel_semantics.specs.Print.{escaped}
use Rattle.trace_print.proofs.Steps.{PutSoFar}
use Rattle.trace_print.proofs.atoms.put_each.Given as goal

abbrev pub invariant-loop-byte : goal.invariant-loop-byte
invariant-loop-byte g l =
    let text = flat_map escaped in
    PutSoFar (text l.bytes) (text (drop l.byte-index l.bytes)) (g.O.Sink.bytes l.initial.out) (g.O.Sink.bytes l.out) l.initial.waiting.items l.waiting.items (g.O.Sink.faults l.initial.out) (g.O.Sink.faults l.out)
