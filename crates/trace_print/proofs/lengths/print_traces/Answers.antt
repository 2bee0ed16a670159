use Rattle.std.proofs.Common.{suc, take, drop, ◌++◌, sym, subst, ℕ, List}
use Rattle.std.specs.List.{flat_map}
use Rattle.tel_semantics.specs.Print.{trace_lines}
use Rattle.trace_print.specs.Waiting.{Writes}
use Rattle.trace_print.proofs.Writing.{fault_at, writes-after, writes-short, flat_map_at}
use Rattle.trace_print.proofs.lengths.print_traces.Goals as goal

pub returns-in-Err : goal.returns-in-Err
returns-in-Err g c =
    let lines = trace_lines c.args.template.now in
    let traces = c.args.traces.now in
    let at = c.loop-trace.trace-index in
    let here = lines c.trace-item.result in
    let rest = flat_map lines (drop (suc at) traces) in
    let bytes = g.O.Sink.bytes in
    let faults = g.O.Sink.faults in
    let new = c.print_trace.new.out in
    subst (λ (w : List ℕ). Writes (fault_at (Unit {0}) c.in-Err.fault) w (bytes c.args.out.now) (bytes new) (faults c.args.out.now) (faults new))
    (sym (flat_map_at lines traces at c.trace-item.result c.loop-trace-test.true c.trace-item.is))
    (writes-after (fault_at (Unit {0}) c.in-Err.fault) (flat_map lines (take at traces)) (here ++ rest) (bytes c.args.out.now) (bytes c.loop-trace.out) (bytes new)
    (faults c.args.out.now) (faults c.loop-trace.out) (faults new) c.loop-trace.invariant.printed c.loop-trace.invariant.stands
    (writes-short (Unit {0}) (Unit {0}) c.in-Err.fault here rest (bytes c.loop-trace.out) (bytes new) (faults c.loop-trace.out) (faults new)
    (record { ok = tt; err = c.in-Err.ensures.err; cause = c.in-Err.ensures.cause })))
