use Rattle.std.proofs.Common.{◌∙◌, ℕ, ◌+◌, List, drop, sym, subst, get_or}
use Rattle.plan_search.proofs.Dropping.{In-get}
use Rattle.plan_order.specs.Goals.{IsSound}
use Rattle.plan_order.proofs.Columns.{in_get, drop_one}
use Rattle.plan_order.proofs.Passed.{IsPassing, tried_taken, tried_kept}
use Rattle.plan_order.proofs.passing.pass.Goals as goal
use Rattle.plan_order.proofs.passing.pass.Goals.{then-not-branch+in_ok-push, else-not-branch}

pub goal_at-goal-requires : goal.goal_at-goal-requires
goal_at-goal-requires c = c.requires.inside (get_or c.args.left.now c.loop-index.index 0) (in_get c.args.left.now c.loop-index.index 0 c.loop-index-test.true)

pub offer-requires : goal.offer-requires
offer-requires c =
    record { sound = subst (λ (n : ℕ). IsSound n c.goal_at-goal.result.now) (sym c.loop-index.invariant.long) (c.requires.sound c.goal_at-goal.result.now (In-get c.args.goals.now (get_or c.args.left.now c.loop-index.index 0) c.goal_at-goal.result.now c.goal_at-goal.ensures)) }

pub loop-index-preserved : goal.loop-index-preserved
loop-index-preserved c =
    let n = get_or c.args.left.now c.loop-index.index 0 in
    let less = c.requires.inside n (in_get c.args.left.now c.loop-index.index 0 c.loop-index-test.true) in
    let passing = subst (λ (l : List ℕ). IsPassing c.args.goals.now c.args.left.now c.loop-index.next l c.args.known.now c.loop-index.known c.args.steps.now.items c.loop-index.steps.items c.loop-index.index) (drop_one c.args.left.now c.loop-index.index 0 c.loop-index-test.true) c.loop-index.invariant in
    elim c.if-not-branch.branch [
      | then-not-branch+in_ok-push w ↦
          tried_kept c.args.goals.now c.args.left.now c.loop-index.next (drop (c.loop-index.index + 1) c.args.left.now) c.args.known.now c.loop-index.known c.args.steps.now.items c.loop-index.steps.items c.loop-index.index n c.goal_at-goal.result.now c.goal_at-goal.ensures passing
          c.in_ok-offer.field-0 c.offer.new.known c.offer.new.steps.items c.if-not-branch.next w.if-not-branch.true c.in_ok-offer.ensures less (w.next-is ∙ w.in_ok-push.ensures.ok)
      | else-not-branch w ↦
          subst (λ (l : List ℕ). IsPassing c.args.goals.now c.args.left.now l (drop (c.loop-index.index + 1) c.args.left.now) c.args.known.now c.offer.new.known c.args.steps.now.items c.offer.new.steps.items (c.loop-index.index + 1)) (sym w.next-is)
          (tried_taken c.args.goals.now c.args.left.now c.loop-index.next (drop (c.loop-index.index + 1) c.args.left.now) c.args.known.now c.loop-index.known c.args.steps.now.items c.loop-index.steps.items c.loop-index.index n c.goal_at-goal.result.now c.goal_at-goal.ensures passing
          c.in_ok-offer.field-0 c.offer.new.known c.offer.new.steps.items w.if-not-branch.false c.in_ok-offer.ensures)
    ]
