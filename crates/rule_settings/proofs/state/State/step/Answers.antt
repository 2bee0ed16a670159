use Rattle.std.proofs.Common.{◌≡◌, rules, List, Bool, sym, subst}
use Rattle.rule_binding.specs.Closure.{marked}
use Rattle.rule_settings.specs.Said.{said, all_said}
use Rattle.rule_settings.specs.Numbers.{is_in}
use Rattle.rule_settings.specs.declared.waiters.Waiter.{Waiter}
use Rattle.rule_settings.specs.Waiting.{waiting_at, IsState, IsNext, IsBound, NoneOpen}
use Rattle.rule_settings.proofs.Steps.{none_first, bound_next, step_bound}
use Rattle.rule_settings.proofs.state.State.step.Goals as goal

pub returns-in_ok-settle_all-in-Some : goal.returns-in_ok-settle_all-in-Some
returns-in_ok-settle_all-in-Some c = λ was.
    let cs = all_said c.args.candidates.now in
    let state = c.args.self.now in
    let found = said c.in-Some.setting in
    let old = marked state.bound.items in
    let new = marked c.mark.new.marks.items in
    let ready = is_in state.ready in
    let later = is_in c.next_open.new.ready in
    let waiting = waiting_at state.waiting.items in
    let after = waiting_at c.wake-woken.new.waiting.items in
    let next : IsNext old cs ready later found = subst (λ (marks : List Bool). IsNext (marked marks) cs ready later found) c.as_slice.ensures.value c.in-Some.ensures in
    let begun : IsState cs new later after (waiting found.var) = bound_next cs old new ready later waiting after found was next c.in_ok-mark-in-Some.ensures c.wake-woken.ensures.waiting in
    let step = step_bound cs old new ready later waiting found was next c.in_ok-mark-in-Some.ensures in
    let same : c.settle_all.new.self.bound.items ≡ c.mark.new.marks.items = search rules in (
      c.in_ok-settle_all-in-Some.ensures.state cs (subst (λ (rest : List Waiter). IsState cs new later after rest) (sym c.wake-woken.ensures.woken) begun),
      subst (λ (marks : List Bool). IsBound cs old (marked marks) found) (sym same) step,
    )

pub returns-in-None : goal.returns-in-None
returns-in-None c = λ was.
    let cs = all_said c.args.candidates.now in
    let state = c.args.self.now in
    let ready = is_in state.ready in
    none_first cs (marked state.bound.items) ready (waiting_at state.waiting.items) was (subst (λ (marks : List Bool). NoneOpen (marked marks) cs ready) c.as_slice.ensures.value c.in-None.ensures)
