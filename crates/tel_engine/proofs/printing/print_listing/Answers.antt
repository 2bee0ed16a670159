use Rattle.std.proofs.Common.{ℕ, Ok, subst}
use Rattle.trace_print.proofs.Writing.{fault_at}
use Rattle.tel_engine.specs.declared.ends.LengthEnd.{LengthEnd}
use Rattle.tel_engine.specs.Lists.{lines_of, Prints}
use Rattle.tel_engine.proofs.Closed.{closed_header, closed_traces, closed_line, closed}
use Rattle.tel_engine.proofs.printing.print_listing.Goals as goal

pub returns-in-Err-clause-prints : goal.returns-in-Err-clause-prints
returns-in-Err-clause-prints g c =
    closed_header c.args.template.now c.args.n c.args.models c.args.listing.now.conflicts (g.O.Sink.bytes c.args.out.now) (g.O.Sink.bytes c.print_length.new.out) (g.O.Sink.faults c.args.out.now) (g.O.Sink.faults c.print_length.new.out) c.in-Err.ensures.err c.in-Err.ensures.cause.rose

pub returns-in-Err-print_traces-clause-prints : goal.returns-in-Err-print_traces-clause-prints
returns-in-Err-print_traces-clause-prints g c =
    closed_traces c.args.template.now c.args.n c.args.models c.args.listing.now.conflicts c.in-Err-print_traces.fault (g.O.Sink.bytes c.args.out.now) (g.O.Sink.bytes c.print_length.new.out) (g.O.Sink.bytes c.print_traces.new.out) (g.O.Sink.faults c.args.out.now) (g.O.Sink.faults c.print_length.new.out) (g.O.Sink.faults c.print_traces.new.out) c.in-Ok.ensures.ok c.in-Ok.ensures.cause.stands
    (subst (λ (k : ℕ). Prints (lines_of c.args.template.now) c.args.template.now k c.args.models c.args.listing.now.conflicts (fault_at LengthEnd c.in-Err-print_traces.fault) (g.O.Sink.bytes c.print_length.new.out) (g.O.Sink.bytes c.print_traces.new.out) (g.O.Sink.faults c.print_length.new.out) (g.O.Sink.faults c.print_traces.new.out)) c.requires.listing.number c.in-Err-print_traces.ensures.prints)

pub returns-in-Ok-print_end-clause-prints : goal.returns-in-Ok-print_end-clause-prints
returns-in-Ok-print_end-clause-prints g c =
    let traces = subst (λ (k : ℕ). Prints (lines_of c.args.template.now) c.args.template.now k c.args.models c.args.listing.now.conflicts (Ok c.in-Ok-print_traces.end) (g.O.Sink.bytes c.print_length.new.out) (g.O.Sink.bytes c.print_traces.new.out) (g.O.Sink.faults c.print_length.new.out) (g.O.Sink.faults c.print_traces.new.out)) c.requires.listing.number c.in-Ok-print_traces.ensures.prints in
    closed c.args.template.now c.args.n c.args.models c.args.listing.now.conflicts c.in-Ok-print_traces.end (g.O.Sink.bytes c.args.out.now) (g.O.Sink.bytes c.print_length.new.out) (g.O.Sink.bytes c.print_traces.new.out) (g.O.Sink.bytes c.print_end.new.out) (g.O.Sink.faults c.args.out.now) (g.O.Sink.faults c.print_length.new.out) (g.O.Sink.faults c.print_traces.new.out) (g.O.Sink.faults c.print_end.new.out) c.in-Ok.ensures.ok c.in-Ok.ensures.cause.stands traces c.in-Ok-print_end.ensures.ok c.in-Ok-print_end.ensures.cause.stands

pub returns-in-Err-print_end-clause-prints : goal.returns-in-Err-print_end-clause-prints
returns-in-Err-print_end-clause-prints g c =
    let traces = subst (λ (k : ℕ). Prints (lines_of c.args.template.now) c.args.template.now k c.args.models c.args.listing.now.conflicts (Ok c.in-Ok-print_traces.end) (g.O.Sink.bytes c.print_length.new.out) (g.O.Sink.bytes c.print_traces.new.out) (g.O.Sink.faults c.print_length.new.out) (g.O.Sink.faults c.print_traces.new.out)) c.requires.listing.number c.in-Ok-print_traces.ensures.prints in
    closed_line c.args.template.now c.args.n c.args.models c.args.listing.now.conflicts c.in-Ok-print_traces.end (g.O.Sink.bytes c.args.out.now) (g.O.Sink.bytes c.print_length.new.out) (g.O.Sink.bytes c.print_traces.new.out) (g.O.Sink.bytes c.print_end.new.out) (g.O.Sink.faults c.args.out.now) (g.O.Sink.faults c.print_length.new.out) (g.O.Sink.faults c.print_traces.new.out) (g.O.Sink.faults c.print_end.new.out) c.in-Ok.ensures.ok c.in-Ok.ensures.cause.stands traces c.in-Err-print_end.ensures.err c.in-Err-print_end.ensures.cause.rose
