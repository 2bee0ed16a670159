use Rattle.std.proofs.Common.{ℕ, ◌+◌, ◌≤◌, Ok, refl, sym, subst, ◌∙◌, arith}
use Rattle.tel_engine.specs.declared.ends.LengthEnd.{LengthEnd}
use Rattle.tel_engine.specs.Lists.{text_of}
use Rattle.trace_print.proofs.Writing.{fault_at}
use Rattle.text_answer.specs.Delivery.{code_of}
use Rattle.text_answer.specs.Running.{IsTemplateEnd}
use Rattle.text_answer.proofs.Runs.{running_start, running_more, running_last, running_done}
use Rattle.text_answer.proofs.Lengths.{run_cut, length_at}
use Rattle.text_answer.proofs.running.print_lengths.Goals as goal

pub running-init : goal.running-init
running-init g c = record {
  running = running_start (IsTemplateEnd c.args.settings.now c.args.engine.now.template) (text_of c.args.engine.now.template) c.args.settings.now (g.O.Sink.bytes c.args.out.now) (g.O.Sink.faults c.args.out.now);
  within = omega arith;
  imax = refl;
  enough = c.requires.within;
  template = refl;
  length = c.requires.begun;
  stage = c.requires.listed;
}

pub returns-in-Err : goal.returns-in-Err
returns-in-Err g c =
    let at = c.running.invariant in
    let bytes = g.O.Sink.bytes in
    let faults = g.O.Sink.faults in
    record {
      prints = run_cut c.args.settings.now c.args.engine.now.template c.running.n c.running.found c.running.cut (bytes c.args.out.now) (bytes c.running.out) (bytes c.print_next.new.out) (faults c.args.out.now) (faults c.running.out) (faults c.print_next.new.out) at.running c.in-Err.fault c.running-test.true
          (length_at c.args.settings.now c.args.engine.now.template c.running.engine.template c.running.n c.running.engine.length (fault_at LengthEnd c.in-Err.fault) (bytes c.running.out) (bytes c.print_next.new.out) (faults c.running.out) (faults c.print_next.new.out) at.template at.length c.in-Err.ensures.prints);
    }

pub returns-then-stops : goal.returns-then-stops
returns-then-stops g c =
    let settings = c.args.settings.now in
    let template = c.args.engine.now.template in
    let at = c.running.invariant in
    let bytes = g.O.Sink.bytes in
    let faults = g.O.Sink.faults in
    let prints = length_at settings template c.running.engine.template c.running.n c.running.engine.length (Ok c.in-Ok.end) (bytes c.running.out) (bytes c.print_next.new.out) (faults c.running.out) (faults c.print_next.new.out) at.template at.length c.in-Ok.ensures.prints in
    let whole = prints.0 in record {
      prints = (
        running_last (IsTemplateEnd settings template) (text_of template) settings c.running.n c.running.found c.running.cut (bytes c.args.out.now) (bytes c.running.out) (faults c.args.out.now) (faults c.running.out) at.running whole.end c.in-Ok.end c.running-test.true whole.is_end whole.tells (bytes c.print_next.new.out) (faults c.print_next.new.out) whole.printed prints.1
            (sym c.if-stops.ensures) c.has_trace-some.result c.has_cut-short.result c.has_trace-some.ensures c.has_cut-short.ensures (code_of c.status_after.result) c.status_after.ensures,
        prints.1 ∙ at.running.stands,
      );
    }

pub running-preserved : goal.running-preserved
running-preserved g c =
    let settings = c.args.settings.now in
    let template = c.args.engine.now.template in
    let at = c.running.invariant in
    let bytes = g.O.Sink.bytes in
    let faults = g.O.Sink.faults in
    let prints = length_at settings template c.running.engine.template c.running.n c.running.engine.length (Ok c.in-Ok.end) (bytes c.running.out) (bytes c.print_next.new.out) (faults c.running.out) (faults c.print_next.new.out) at.template at.length c.in-Ok.ensures.prints in
    let whole = prints.0 in
    record {
      running = running_more (IsTemplateEnd settings template) (text_of template) settings c.running.n c.running.found c.running.cut (bytes c.args.out.now) (bytes c.running.out) (faults c.args.out.now) (faults c.running.out) at.running whole.end c.in-Ok.end c.running-test.true whole.is_end whole.tells (bytes c.print_next.new.out) (faults c.print_next.new.out) whole.printed prints.1
          (sym c.if-stops.ensures) c.has_trace-some.result c.has_cut-short.result c.has_trace-some.ensures c.has_cut-short.ensures;
      within = omega arith;
      imax = at.imax;
      enough = subst (λ (m : ℕ). settings.imax ≤ m) (sym c.print_next.ensures.greatest) at.enough;
      template = c.print_next.ensures.template ∙ at.template;
      length = c.in-Ok.ensures.length ∙ (λ i. at.length i + 1);
      stage = c.in-Ok.ensures.stage;
    }

pub returns : goal.returns
returns g c =
    let settings = c.args.settings.now in
    let template = c.args.engine.now.template in
    let at = c.running.invariant in
    let bytes = g.O.Sink.bytes in
    let faults = g.O.Sink.faults in record {
      prints = (
        running_done (IsTemplateEnd settings template) (text_of template) settings c.running.n c.running.found c.running.cut (bytes c.args.out.now) (bytes c.running.out) (faults c.args.out.now) (faults c.running.out) at.running
            (omega (arith, at.imax, c.running-test.false)) (code_of c.status_after-2.result) c.status_after-2.ensures,
        at.running.stands,
      );
    }
