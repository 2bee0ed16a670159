use Rattle.std.proofs.Common.{◌≡◌, ◌⊎◌, ◌+◌, ◌<◌, ◌++◌, ◌∷◌, [], ℕ, List, length, sym, ap, subst, ◌∙◌, true, false, IsTrue, arith, length-append}
use Rattle.std.specs.Prelude.{slice_set}
use Rattle.std.specs.List.{list_all}
use Rattle.rule_binding.specs.Binding.{has}
use Rattle.rule_binding.specs.Closure.{marked}
use Rattle.rule_binding.specs.Waiting.{waiting_at}
use Rattle.rule_binding.proofs.Marks.{open_count-set}
use Rattle.rule_binding.proofs.States.{queued_more, drained_more}
use Rattle.rule_binding.proofs.state.State.bind.Goals as goal

pub returns-in_ok-push-clause-state : goal.returns-in_ok-push-clause-state
returns-in_ok-push-clause-state c =
    let state = c.args.self.now in
    let marks = state.bound.items in
    let v = c.args.v in
    let old = c.requires.state in
    let within : v < length marks = grind (arith, c.requires.within, c.as_slice.ensures.value, c.as_slice.ensures.len) in
    let queue : c.push.new.self ≡ state.queue ++ v ∷ [] = c.in_ok-push.ensures.ok in
    record {
      in_step = old.in_step;
      queued = subst (λ (q : List ℕ). IsTrue (list_all (marked (slice_set marks v true)) q)) (sym queue) (queued_more marks state.queue v within old.queued);
      drained = λ u h. subst (λ (q : List ℕ). IsTrue (has q u) ⊎ (waiting_at state.waiting.items u ≡ [])) (sym queue) (drained_more marks state.waiting.items state.queue v old.drained u h);
      below = old.below;
    }

pub returns-in_ok-push-clause-left : goal.returns-in_ok-push-clause-left
returns-in_ok-push-clause-left c =
    let marks = c.args.self.now.bound.items in
    let v = c.args.v in
    let within : v < length marks = grind (arith, c.requires.within, c.as_slice.ensures.value, c.as_slice.ensures.len) in
    let none : marked marks v ≡ false = grind (arith, c.if-not-is_marked.true, c.is_marked.ensures, c.as_slice.ensures.value) in
    let queue : length c.push.new.self ≡ length (c.args.self.now.queue) + 1 = ap (λ (q : List ℕ). length q) c.in_ok-push.ensures.ok ∙ length-append c.args.self.now.queue (v ∷ []) in
    let marked_one = open_count-set marks v within none in
    omega (arith, queue, marked_one)
