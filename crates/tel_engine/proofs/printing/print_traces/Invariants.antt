use Rattle.std.proofs.Common.{◌≡◌}
use Rattle.tel_engine.proofs.Left.{left}
use Rattle.tel_engine.proofs.Printed.{IsPrinted}
use Rattle.tel_engine.proofs.printing.print_traces.Given as goal

abbrev pub invariant-listing : goal.invariant-listing
invariant-listing g l = record {
  printed : IsPrinted l.template l.fn.listing.n l.fn.search.kept l.models l.listing l.search l.traces (g.O.Sink.bytes l.initial.out) (g.O.Sink.bytes l.out) (g.O.Sink.faults l.initial.out) (g.O.Sink.faults l.out);
  conflicts : l.listing.conflicts ≡ l.initial.listing.conflicts;
  vars : l.search.vars ≡ l.initial.search.vars;
}

abbrev pub decreases-listing : goal.decreases-listing
decreases-listing g l = left l.template l.listing l.search
