use Rattle.std.proofs.Common.{◌≡◌}
use Rattle.trace_list.specs.Listing.{AddsSome, left_of, Fits, StaysEnded}
use Rattle.trace_list.specs.Seeking.{Seeks, IsSame}
use Rattle.trace_list.specs.Logging.{LogsWhole}
use Rattle.trace_list.proofs.Going.{weight}
use Rattle.trace_list.proofs.listing.Listing.seek.Given as goal

abbrev pub invariant-seeking : goal.invariant-seeking
invariant-seeking g l =
    Fits l.self l.search
    × IsSame l.initial.self l.self
    × StaysEnded l.initial.self l.initial.search l.self l.search
    × Seeks l.initial.self l.initial.search l.self l.search
    × AddsSome l.initial.search.kept l.search.kept
    × (l.search.ground ≡ l.initial.search.ground)
    × (l.search.vars ≡ l.initial.search.vars)
    × LogsWhole l.initial.self l.initial.search l.self l.search (g.L.Sink.bytes l.initial.log) (g.L.Sink.bytes l.log)
    × (g.L.Sink.faults l.log ≡ g.L.Sink.faults l.initial.log)

abbrev pub decreases-seeking : goal.decreases-seeking
decreases-seeking g l = weight l.self.stage (left_of l.search)
