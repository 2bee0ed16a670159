use Rattle.std.proofs.Common.{◌≡◌, take}
use Rattle.std.specs.List.{flat_map}
use Rattle.tel_base.specs.Bytes.{Appends}
use Rattle.tel_semantics.specs.Print.{trace_lines}
use Rattle.trace_print.proofs.lengths.print_traces.Given as goal

abbrev pub invariant-loop-trace : goal.invariant-loop-trace
invariant-loop-trace g l = record {
  printed : Appends (g.O.Sink.bytes l.initial.out) (g.O.Sink.bytes l.out) (flat_map (trace_lines l.template) (take l.trace-index l.traces));
  stands : g.O.Sink.faults l.out ≡ g.O.Sink.faults l.initial.out;
}
