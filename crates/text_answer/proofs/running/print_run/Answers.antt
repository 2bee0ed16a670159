use Rattle.std.proofs.Common.{ℕ, subst}
use Rattle.tel_rule.specs.Ground.{Ground}
use Rattle.text_answer.specs.Running.{PrintsRun}
use Rattle.text_answer.proofs.running.print_run.Goals as goal

pub returns : goal.returns
returns g c =
    record {
      prints = subst (λ (template : Ground). PrintsRun c.args.settings.now template c.print_lengths.result (g.O.Sink.bytes c.args.out.now) (g.O.Sink.bytes c.print_lengths.new.out) (g.O.Sink.faults c.args.out.now) (g.O.Sink.faults c.print_lengths.new.out))
          c.new-engine.ensures.template c.print_lengths.ensures.prints;
    }
