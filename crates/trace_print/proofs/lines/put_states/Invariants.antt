use Rattle.std.proofs.Common.{drop}
use Rattle.tel_semantics.specs.Print.{state_lines}
use Rattle.trace_print.proofs.Steps.{PutSoFar}
use Rattle.trace_print.proofs.lines.put_states.Given as goal

abbrev pub invariant-loop-instant : goal.invariant-loop-instant
invariant-loop-instant g l =
    PutSoFar (state_lines l.template 0 l.states) (state_lines l.template l.instant (drop l.instant l.states)) (g.O.Sink.bytes l.initial.out) (g.O.Sink.bytes l.out) l.initial.waiting.items l.waiting.items (g.O.Sink.faults l.initial.out) (g.O.Sink.faults l.out)
