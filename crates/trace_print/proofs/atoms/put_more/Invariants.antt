use Rattle.std.proofs.Common.{drop}
use Rattle.std.specs.List.{flat_map}
use Rattle.tel_semantics.specs.Print.{next_text}
use Rattle.trace_print.proofs.Steps.{PutSoFar}
use Rattle.trace_print.proofs.atoms.put_more.Given as goal

abbrev pub invariant-loop-value : goal.invariant-loop-value
invariant-loop-value g l =
    let text = flat_map (next_text l.symbols) in
    PutSoFar (text l.args) (text (drop l.value-index l.args)) (g.O.Sink.bytes l.initial.out) (g.O.Sink.bytes l.out) l.initial.waiting.items l.waiting.items (g.O.Sink.faults l.initial.out) (g.O.Sink.faults l.out)
