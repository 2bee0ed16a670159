use Rattle.std.proofs.Common.{List, ap}
use Rattle.rule_binding.specs.Closure.{marked}
use Rattle.rule_settings.specs.declared.waiters.Waiter.{Waiter}
use Rattle.rule_settings.specs.Numbers.{is_in}
use Rattle.rule_settings.specs.Waiting.{waiting_at}
use Rattle.rule_settings.proofs.Moved.{started}
use Rattle.rule_settings.proofs.state.State.start.Goals as goal

pub returns-clause-state : goal.returns-clause-state
returns-clause-state c = λ cs. started cs (marked c.in_ok-bound.bound.items) (is_in c.no_numbers.result) (waiting_at c.new.result.items) c.no_numbers.ensures (λ v. ap (λ (waiting : List (List Waiter)). waiting_at waiting v) c.new.ensures.items)
