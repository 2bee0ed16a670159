use Rattle.std.proofs.Common.{length, arith}
use Rattle.std.specs.Prelude.{◌==◌}
use Rattle.unfounded_sets.specs.Waiting.{row, vars_in}
use Rattle.unfounded_sets.specs.Scanning.{state_of}
use Rattle.unfounded_sets.proofs.Scans.{take_scan, take_wait, take_served, empty_scan}
use Rattle.unfounded_sets.proofs.supported.Support.release.Goals as goal

pub go_on-requires-clause-scan : goal.go_on-requires-clause-scan
go_on-requires-clause-scan c = take_scan c.args.ground.now c.args.trail.now.entries c.args.bound (state_of c.waiting.self) (row c.take.new.self) (vars_in c.take.new.self) c.args.var c.in-Some.wait c.waiting.invariant.scan c.in-Some.ensures.rows c.in-Some.ensures.vars

pub go_on-requires-clause-wait : goal.go_on-requires-clause-wait
go_on-requires-clause-wait c = take_wait c.args.ground.now c.args.trail.now.entries c.args.bound (state_of c.waiting.self) (row c.take.new.self) c.args.var c.in-Some.wait c.waiting.invariant.scan c.in-Some.ensures.rows

pub waiting-preserved : goal.waiting-preserved
waiting-preserved c =
    let step = c.in_ok-go_on.ensures.step in
    let before = c.waiting.invariant.work in
    let work = step.work in
    record {
      scan = c.in_ok-go_on.ensures.scan;
      found = step.grows c.args.var c.waiting.invariant.found;
      served = take_served c.args.ground.now c.args.trail.now.entries c.args.bound (length c.args.ground.now.rules) (λ v. c.args.var == v) (state_of c.waiting.self) (state_of c.go_on.new.self) (row c.take.new.self) (vars_in c.take.new.self) c.args.var c.in-Some.wait c.waiting.invariant.served c.in-Some.ensures.rows step;
      work = omega (arith, before, work);
    }

pub returns-clause-scan : goal.returns-clause-scan
returns-clause-scan c = empty_scan c.args.ground.now c.args.trail.now.entries c.args.bound (state_of c.waiting.self) (row c.take.new.self) (vars_in c.take.new.self) c.args.var c.waiting.invariant.scan c.in_default.ensures.rows c.in_default.ensures.vars
