use Rattle.std.proofs.Common.{◌++◌, length, Ok}
use Rattle.std.specs.List.{flat_map}
use Rattle.tel_semantics.specs.Print.{header_line, closing_line, trace_lines}
use Rattle.trace_print.proofs.Writing.{fault_at, writes-then, writes-short}
use Rattle.trace_print.proofs.lengths.print_all.Goals as goal

pub returns-in-Err : goal.returns-in-Err
returns-in-Err g c =
    let header = header_line c.args.n in
    let lines = flat_map (trace_lines c.args.template.now) c.args.traces.now in
    let closing = closing_line c.args.how (length c.args.traces.now) in
    let bytes = g.O.Sink.bytes in
    let faults = g.O.Sink.faults in
    let old = c.args.out.now in
    let new = c.print_length.new.out in
    writes-short (Unit {0}) (Unit {0}) c.in-Err.fault (header ++ lines) closing (bytes old) (bytes new) (faults old) (faults new)
    (writes-short (Unit {0}) (Unit {0}) c.in-Err.fault header lines (bytes old) (bytes new) (faults old) (faults new)
    (record { ok = tt; err = c.in-Err.ensures.err; cause = c.in-Err.ensures.cause }))

pub returns-in-Ok-print_traces : goal.returns-in-Ok-print_traces
returns-in-Ok-print_traces g c =
    let header = header_line c.args.n in
    let lines = flat_map (trace_lines c.args.template.now) c.args.traces.now in
    let closing = closing_line c.args.how (length c.args.traces.now) in
    let bytes = g.O.Sink.bytes in
    let faults = g.O.Sink.faults in
    let old = c.args.out.now in
    let one = c.print_length.new.out in
    let two = c.print_traces.new.out in
    let new = c.print_end.new.out in
    writes-then tt c.print_end.result (header ++ lines) closing (bytes old) (bytes two) (bytes new) (faults old) (faults two) (faults new)
    (writes-then tt (Ok tt) header lines (bytes old) (bytes one) (bytes two) (faults old) (faults one) (faults two)
    (record { ok = c.in-Ok.ensures.ok; err = tt; cause = c.in-Ok.ensures.cause }) c.in-Ok-print_traces.ensures)
    (record { ok = c.print_end.ensures.ok; err = c.print_end.ensures.err; cause = c.print_end.ensures.cause })

pub returns-in-Err-print_traces : goal.returns-in-Err-print_traces
returns-in-Err-print_traces g c =
    let header = header_line c.args.n in
    let lines = flat_map (trace_lines c.args.template.now) c.args.traces.now in
    let closing = closing_line c.args.how (length c.args.traces.now) in
    let bytes = g.O.Sink.bytes in
    let faults = g.O.Sink.faults in
    let old = c.args.out.now in
    let one = c.print_length.new.out in
    let new = c.print_traces.new.out in
    let fault = fault_at (Unit {0}) c.in-Err-print_traces.fault in
    writes-short (Unit {0}) (Unit {0}) c.in-Err-print_traces.fault (header ++ lines) closing (bytes old) (bytes new) (faults old) (faults new)
    (writes-then tt fault header lines (bytes old) (bytes one) (bytes new) (faults old) (faults one) (faults new)
    (record { ok = c.in-Ok.ensures.ok; err = tt; cause = c.in-Ok.ensures.cause }) c.in-Err-print_traces.ensures)
