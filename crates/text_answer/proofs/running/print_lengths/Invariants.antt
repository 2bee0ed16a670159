use Rattle.std.proofs.Common.{◌≡◌, ◌-◌, ◌≤◌}
use Rattle.tel_engine.specs.declared.stages.Stage.TheVariants.{Listed}
use Rattle.tel_engine.specs.Lists.{text_of}
use Rattle.text_answer.specs.Running.{IsTemplateEnd}
use Rattle.text_answer.proofs.Runs.{IsRunning}
use Rattle.text_answer.proofs.running.print_lengths.Given as goal

abbrev pub invariant-running : goal.invariant-running
invariant-running g l = record {
  running : IsRunning (IsTemplateEnd l.settings l.initial.engine.template) (text_of l.initial.engine.template) l.settings l.n l.found l.cut (g.O.Sink.bytes l.initial.out) (g.O.Sink.bytes l.out) (g.O.Sink.faults l.initial.out) (g.O.Sink.faults l.out);
  within : l.n ≤ l.imax;
  imax : l.imax ≡ l.settings.imax;
  enough : l.imax ≤ l.engine.greatest;
  template : l.engine.template ≡ l.initial.engine.template;
  length : l.engine.length ≡ l.n;
  stage : l.engine.stage ≡ Listed;
}

abbrev pub decreases-running : goal.decreases-running
decreases-running g l = l.imax - l.n
