use Rattle.std.proofs.Common.{◌≡◌, List, Bool, false, refl, sym, subst}
use Rattle.rule_binding.specs.Closure.{marked}
use Rattle.rule_binding.specs.Waiting.{Holds}
use Rattle.rule_settings.specs.Numbers.{is_in}
use Rattle.rule_settings.specs.Waiting.{waiting_at}
use Rattle.rule_settings.proofs.Moved.{one_ready, one_waits}
use Rattle.rule_settings.proofs.state.State.settle.Goals as goal

pub returns-in_ok-wait-in-Some-clause-state : goal.returns-in_ok-wait-in-Some-clause-state
returns-in_ok-wait-in-Some-clause-state c = λ cs rest was.
    let state = c.args.self.now in
    let same = c.as_slice.ensures.value in
    one_waits cs (marked state.bound.items) (is_in state.ready) (waiting_at state.waiting.items) (waiting_at c.wait.new.waiting.items) rest c.in-Some.v c.args.waiter (record { number = c.args.waiter.number; needs = c.open_need.new.needs }) refl
    (subst (λ (marks : List Bool). marked marks c.in-Some.v ≡ false) same c.in-Some.ensures.0)
    (λ X w. c.in-Some.ensures.1 X (subst (λ (marks : List Bool). Holds X marks) (sym same) w))
    c.in_ok-wait-in-Some.ensures was

pub returns-in_ok-add_number-in-None-clause-state : goal.returns-in_ok-add_number-in-None-clause-state
returns-in_ok-add_number-in-None-clause-state c = λ cs rest was.
    let state = c.args.self.now in
    one_ready cs (marked state.bound.items) (is_in state.ready) (is_in c.add_number.new.numbers) (waiting_at state.waiting.items) rest c.args.waiter c.in_ok-add_number-in-None.ensures
    (λ X w. c.in-None.ensures X (subst (λ (marks : List Bool). Holds X marks) (sym c.as_slice.ensures.value) w))
    was
