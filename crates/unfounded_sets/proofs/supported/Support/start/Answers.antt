use Rattle.std.proofs.Common.{◌∙◌, ◌+◌, ◌<◌, List, get_or, length, subst, sym, ap}
use Rattle.normal_program.specs.declared.rules.NRule.{NRule}
use Rattle.unfounded_sets.specs.declared.supported.Support.{Support}
use Rattle.unfounded_sets.specs.Scanning.{IsScan, AreServed, none, state_of}
use Rattle.unfounded_sets.proofs.Scans.{start_more, start_left}
use Rattle.unfounded_sets.proofs.supported.Support.start.Goals as goal
use Rattle.unfounded_sets.proofs.supported.Support.start.Goals.{then-is_live+in_ok-go_on, else-is_live}

pub loop-number-preserved : goal.loop-number-preserved
loop-number-preserved c =
    let layers = c.args.ground.now in
    let entries = c.args.trail.now.entries in
    let bound = c.args.bound in
    elim c.if-is_live.branch [
      | then-is_live+in_ok-go_on w ↦ record {
        scan = subst (λ (s : Support). IsScan layers entries bound (state_of s)) (sym w.self-is) w.in_ok-go_on.ensures.scan;
        served = subst (λ (s : Support). AreServed layers entries bound none (c.loop-number.number + 1) (state_of s)) (sym w.self-is) (start_more layers entries bound c.loop-number.number (state_of c.loop-number.self) (state_of w.go_on.new.self) c.loop-number.invariant.served w.in_ok-go_on.ensures.step);
      }
      | else-is_live w ↦
          let same = c.rules-rules.ensures in
          let within = subst (λ (rules : List NRule). c.loop-number.number < length rules) same c.loop-number-test.true in
          record {
            scan = subst (λ (s : Support). IsScan layers entries bound (state_of s)) (sym w.self-is) c.loop-number.invariant.scan;
            served = subst (λ (s : Support). AreServed layers entries bound none (c.loop-number.number + 1) (state_of s)) (sym w.self-is) (start_left layers entries bound c.loop-number.number (state_of c.loop-number.self) c.index-rules-number.result c.loop-number.invariant.served within (c.index-rules-number.is ∙ ap (λ (list : List NRule). get_or list c.loop-number.number c.index-rules-number.result) same) (sym w.if-is_live.ensures));
          }
    ]
