use Rattle.std.proofs.Common.{◌≡◌, ◌-◌, ◌≤◌, take, length}
use Rattle.tel_base.specs.Bytes.{Appends}
use Rattle.tel_base.proofs.writing.write_whole.Given as goal

abbrev pub invariant-writing : goal.invariant-writing
invariant-writing g l = record {
  within : l.done ≤ length l.piece;
  taken : Appends (g.O.Sink.bytes l.initial.sink) (g.O.Sink.bytes l.sink) (take l.done l.piece);
  stands : g.O.Sink.faults l.sink ≡ g.O.Sink.faults l.initial.sink;
}

abbrev pub decreases-writing : goal.decreases-writing
decreases-writing g l = length l.piece - l.done
