use Rattle.std.proofs.Common.{◌≤◌, [], ◌∷◌, ◌++◌, refl, sym, subst, ◌∙◌, arith}
use Rattle.tel_semantics.specs.Print.{greatest_count}
use Rattle.trace_list.specs.declared.stages.Next.{Next}
use Rattle.trace_list.specs.Listing.{Goes}
use Rattle.tel_engine.proofs.Printable.{last-below}
use Rattle.tel_engine.proofs.Left.{left_falls}
use Rattle.tel_engine.proofs.Printed.{printed_start, printed_memory, printed_write, printed_more, printed_limit, printed_complete, printed_spent, spent_small, listing_left, listing_few, spent_all}
use Rattle.tel_engine.proofs.printing.print_traces.Goals as goal

pub listing-init : goal.listing-init
listing-init g c = record {
  printed = printed_start c.args.template.now c.args.listing.now.n c.args.search.now.kept c.args.models c.args.listing.now c.args.search.now (g.O.Sink.bytes c.args.out.now) (g.O.Sink.faults c.args.out.now) c.requires.listing;
  conflicts = refl;
  vars = refl;
}

pub next_trace-requires : goal.next_trace-requires
next_trace-requires g c = c.listing.invariant.printed.listed.fits

pub returns-in-Err-clause-prints : goal.returns-in-Err-clause-prints
returns-in-Err-clause-prints g c =
    printed_memory c.args.template.now c.args.listing.now.n c.args.search.now.kept c.args.models c.listing.listing c.listing.search c.listing.traces (g.O.Sink.bytes c.args.out.now) (g.O.Sink.bytes c.listing.out) (g.O.Sink.faults c.args.out.now) (g.O.Sink.faults c.listing.out) c.listing.invariant.printed c.args.listing.now.conflicts

pub returns-in-Complete-clause-prints : goal.returns-in-Complete-clause-prints
returns-in-Complete-clause-prints g c =
    let went = subst (λ (next : Next). Goes c.args.template.now c.args.listing.now.n c.args.search.now.kept c.listing.invariant.printed.traces c.next_trace.new.self c.next_trace.new.search next) c.in-Complete.is (c.in-Ok.ensures.goes c.args.template.now c.args.listing.now.n c.args.search.now.kept c.listing.invariant.printed.traces c.requires.ground c.listing.invariant.printed.listed) in
    printed_complete c.args.template.now c.args.listing.now.n c.args.search.now.kept c.args.models c.listing.listing c.listing.search c.listing.traces (g.O.Sink.bytes c.args.out.now) (g.O.Sink.bytes c.listing.out) (g.O.Sink.faults c.args.out.now) (g.O.Sink.faults c.listing.out) c.listing.invariant.printed c.args.listing.now.conflicts went.1

pub returns-in-Complete-clause-left : goal.returns-in-Complete-clause-left
returns-in-Complete-clause-left g c =
    let went = subst (λ (next : Next). Goes c.args.template.now c.args.listing.now.n c.args.search.now.kept c.listing.invariant.printed.traces c.next_trace.new.self c.next_trace.new.search next) c.in-Complete.is (c.in-Ok.ensures.goes c.args.template.now c.args.listing.now.n c.args.search.now.kept c.listing.invariant.printed.traces c.requires.ground c.listing.invariant.printed.listed) in
    listing_left c.args.template.now c.args.listing.now.n c.args.search.now.kept c.next_trace.new.self c.next_trace.new.search c.listing.invariant.printed.traces c.requires.ground went.0

pub returns-in-Complete-clause-keeps : goal.returns-in-Complete-clause-keeps
returns-in-Complete-clause-keeps g c =
    let went = subst (λ (next : Next). Goes c.args.template.now c.args.listing.now.n c.args.search.now.kept c.listing.invariant.printed.traces c.next_trace.new.self c.next_trace.new.search next) c.in-Complete.is (c.in-Ok.ensures.goes c.args.template.now c.args.listing.now.n c.args.search.now.kept c.listing.invariant.printed.traces c.requires.ground c.listing.invariant.printed.listed) in
    let conflicts = c.in-Ok.ensures.conflicts ∙ c.listing.invariant.conflicts in
    listing_few c.args.template.now c.args.listing.now.n c.args.search.now.kept c.args.listing.now.conflicts c.next_trace.new.self c.next_trace.new.search c.listing.invariant.printed.traces conflicts went.0

pub returns-in-Spent-clause-prints : goal.returns-in-Spent-clause-prints
returns-in-Spent-clause-prints g c =
    let went = subst (λ (next : Next). Goes c.args.template.now c.args.listing.now.n c.args.search.now.kept c.listing.invariant.printed.traces c.next_trace.new.self c.next_trace.new.search next) c.in-Spent.is (c.in-Ok.ensures.goes c.args.template.now c.args.listing.now.n c.args.search.now.kept c.listing.invariant.printed.traces c.requires.ground c.listing.invariant.printed.listed) in
    let conflicts = c.in-Ok.ensures.conflicts ∙ c.listing.invariant.conflicts in
    printed_spent c.args.template.now c.args.listing.now.n c.args.search.now.kept c.args.models c.listing.listing c.listing.search c.listing.traces (g.O.Sink.bytes c.args.out.now) (g.O.Sink.bytes c.listing.out) (g.O.Sink.faults c.args.out.now) (g.O.Sink.faults c.listing.out) c.listing.invariant.printed c.args.listing.now.conflicts went.1.counted (sym conflicts ∙ went.1.budget)
    (spent_small c.args.template.now c.args.listing.now.n c.args.search.now.kept c.next_trace.new.self.conflicts c.next_trace.new.search c.args.search.now.vars went.1 (c.in-Ok.ensures.vars ∙ c.listing.invariant.vars) c.requires.few)

pub returns-in-Spent-clause-left : goal.returns-in-Spent-clause-left
returns-in-Spent-clause-left g c =
    let went = subst (λ (next : Next). Goes c.args.template.now c.args.listing.now.n c.args.search.now.kept c.listing.invariant.printed.traces c.next_trace.new.self c.next_trace.new.search next) c.in-Spent.is (c.in-Ok.ensures.goes c.args.template.now c.args.listing.now.n c.args.search.now.kept c.listing.invariant.printed.traces c.requires.ground c.listing.invariant.printed.listed) in
    listing_left c.args.template.now c.args.listing.now.n c.args.search.now.kept c.next_trace.new.self c.next_trace.new.search c.listing.invariant.printed.traces c.requires.ground went.0

pub returns-in-Spent-clause-keeps : goal.returns-in-Spent-clause-keeps
returns-in-Spent-clause-keeps g c =
    let went = subst (λ (next : Next). Goes c.args.template.now c.args.listing.now.n c.args.search.now.kept c.listing.invariant.printed.traces c.next_trace.new.self c.next_trace.new.search next) c.in-Spent.is (c.in-Ok.ensures.goes c.args.template.now c.args.listing.now.n c.args.search.now.kept c.listing.invariant.printed.traces c.requires.ground c.listing.invariant.printed.listed) in
    let conflicts = c.in-Ok.ensures.conflicts ∙ c.listing.invariant.conflicts in
    spent_all c.args.template.now c.args.listing.now.n c.args.search.now.kept c.args.listing.now.conflicts c.next_trace.new.self c.next_trace.new.search conflicts went.1

pub print_trace-requires : goal.print_trace-requires
print_trace-requires g c =
    let went = subst (λ (next : Next). Goes c.args.template.now c.args.listing.now.n c.args.search.now.kept c.listing.invariant.printed.traces c.next_trace.new.self c.next_trace.new.search next) c.in-Trace.is (c.in-Ok.ensures.goes c.args.template.now c.args.listing.now.n c.args.search.now.kept c.listing.invariant.printed.traces c.requires.ground c.listing.invariant.printed.listed) in
    last-below c.args.template.now c.args.listing.now.n c.listing.invariant.printed.traces c.in-Trace.trace went.1

pub returns-in-Err-print_trace-clause-prints : goal.returns-in-Err-print_trace-clause-prints
returns-in-Err-print_trace-clause-prints g c =
    let went = subst (λ (next : Next). Goes c.args.template.now c.args.listing.now.n c.args.search.now.kept c.listing.invariant.printed.traces c.next_trace.new.self c.next_trace.new.search next) c.in-Trace.is (c.in-Ok.ensures.goes c.args.template.now c.args.listing.now.n c.args.search.now.kept c.listing.invariant.printed.traces c.requires.ground c.listing.invariant.printed.listed) in
    printed_write c.args.template.now c.args.listing.now.n c.args.search.now.kept c.args.models c.listing.listing c.listing.search c.listing.traces (g.O.Sink.bytes c.args.out.now) (g.O.Sink.bytes c.listing.out) (g.O.Sink.faults c.args.out.now) (g.O.Sink.faults c.listing.out) c.listing.invariant.printed c.args.listing.now.conflicts c.in-Trace.trace (g.O.Sink.bytes c.print_trace.new.out) (g.O.Sink.faults c.print_trace.new.out) went.1 c.in-Err-print_trace.ensures.err c.in-Err-print_trace.ensures.cause.rose

pub returns-then-traces-models-clause-prints : goal.returns-then-traces-models-clause-prints
returns-then-traces-models-clause-prints g c =
    let went = subst (λ (next : Next). Goes c.args.template.now c.args.listing.now.n c.args.search.now.kept c.listing.invariant.printed.traces c.next_trace.new.self c.next_trace.new.search next) c.in-Trace.is (c.in-Ok.ensures.goes c.args.template.now c.args.listing.now.n c.args.search.now.kept c.listing.invariant.printed.traces c.requires.ground c.listing.invariant.printed.listed) in
    printed_limit c.args.template.now c.args.listing.now.n c.args.search.now.kept c.args.models c.listing.listing c.listing.search c.listing.traces (g.O.Sink.bytes c.args.out.now) (g.O.Sink.bytes c.listing.out) (g.O.Sink.faults c.args.out.now) (g.O.Sink.faults c.listing.out) c.listing.invariant.printed c.args.listing.now.conflicts c.in-Trace.trace c.saturating_add-traces.result (g.O.Sink.bytes c.print_trace.new.out) (g.O.Sink.faults c.print_trace.new.out) went.1 c.in-Ok-print_trace.ensures.ok c.in-Ok-print_trace.ensures.cause.stands c.saturating_add-traces.ensures c.if-traces-models.true

pub returns-then-traces-models-clause-left : goal.returns-then-traces-models-clause-left
returns-then-traces-models-clause-left g c =
    let went = subst (λ (next : Next). Goes c.args.template.now c.args.listing.now.n c.args.search.now.kept c.listing.invariant.printed.traces c.next_trace.new.self c.next_trace.new.search next) c.in-Trace.is (c.in-Ok.ensures.goes c.args.template.now c.args.listing.now.n c.args.search.now.kept c.listing.invariant.printed.traces c.requires.ground c.listing.invariant.printed.listed) in
    listing_left c.args.template.now c.args.listing.now.n c.args.search.now.kept c.next_trace.new.self c.next_trace.new.search (c.listing.invariant.printed.traces ++ c.in-Trace.trace ∷ []) c.requires.ground went.0

pub returns-then-traces-models-clause-keeps : goal.returns-then-traces-models-clause-keeps
returns-then-traces-models-clause-keeps g c =
    let went = subst (λ (next : Next). Goes c.args.template.now c.args.listing.now.n c.args.search.now.kept c.listing.invariant.printed.traces c.next_trace.new.self c.next_trace.new.search next) c.in-Trace.is (c.in-Ok.ensures.goes c.args.template.now c.args.listing.now.n c.args.search.now.kept c.listing.invariant.printed.traces c.requires.ground c.listing.invariant.printed.listed) in
    let conflicts = c.in-Ok.ensures.conflicts ∙ c.listing.invariant.conflicts in
    listing_few c.args.template.now c.args.listing.now.n c.args.search.now.kept c.args.listing.now.conflicts c.next_trace.new.self c.next_trace.new.search (c.listing.invariant.printed.traces ++ c.in-Trace.trace ∷ []) conflicts went.0

pub listing-smaller : goal.listing-smaller
listing-smaller g c =
    let went = subst (λ (next : Next). Goes c.args.template.now c.args.listing.now.n c.args.search.now.kept c.listing.invariant.printed.traces c.next_trace.new.self c.next_trace.new.search next) c.in-Trace.is (c.in-Ok.ensures.goes c.args.template.now c.args.listing.now.n c.args.search.now.kept c.listing.invariant.printed.traces c.requires.ground c.listing.invariant.printed.listed) in
    left_falls c.args.template.now c.args.listing.now.n c.args.search.now.kept c.listing.listing c.next_trace.new.self c.listing.search c.next_trace.new.search c.listing.invariant.printed.traces c.in-Trace.trace c.listing.invariant.printed.listed went.0 went.1

pub listing-preserved : goal.listing-preserved
listing-preserved g c =
    let went = subst (λ (next : Next). Goes c.args.template.now c.args.listing.now.n c.args.search.now.kept c.listing.invariant.printed.traces c.next_trace.new.self c.next_trace.new.search next) c.in-Trace.is (c.in-Ok.ensures.goes c.args.template.now c.args.listing.now.n c.args.search.now.kept c.listing.invariant.printed.traces c.requires.ground c.listing.invariant.printed.listed) in
    let range : c.args.models ≤ greatest_count = omega (arith, c.ranges.models) in
    record {
      printed = printed_more c.args.template.now c.args.listing.now.n c.args.search.now.kept c.args.models c.listing.listing c.listing.search c.listing.traces (g.O.Sink.bytes c.args.out.now) (g.O.Sink.bytes c.listing.out) (g.O.Sink.faults c.args.out.now) (g.O.Sink.faults c.listing.out) c.listing.invariant.printed c.next_trace.new.self c.next_trace.new.search c.in-Trace.trace c.saturating_add-traces.result (g.O.Sink.bytes c.print_trace.new.out) (g.O.Sink.faults c.print_trace.new.out) went.0 went.1 c.in-Ok-print_trace.ensures.ok c.in-Ok-print_trace.ensures.cause.stands c.saturating_add-traces.ensures range c.if-traces-models.false;
      conflicts = c.in-Ok.ensures.conflicts ∙ c.listing.invariant.conflicts;
      vars = c.next_trace.ensures.vars ∙ c.listing.invariant.vars;
    }
