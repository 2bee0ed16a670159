use Rattle.std.proofs.Common.{true, false, subst, refl}
use Rattle.std.specs.Prelude.{Bool}
use Rattle.live_instances.specs.Reached.{LeavesRange}
use Rattle.range_faults.specs.Rules.{Tells}
use Rattle.range_faults.proofs.Firsts.{get_in, one_more, none_leaves}
use Rattle.range_faults.proofs.finding.first_leaving.Goals as goal

pub leaves_range-requires : goal.leaves_range-requires
leaves_range-requires g c = (c.args.statements.now, c.requires.0, record { program = c.requires.1; there = get_in c.args.statements.now c.loop-number.number c.statement_at-statement.result.now c.statement_at-statement.ensures })

pub returns-then-leaves : goal.returns-then-leaves
returns-then-leaves g c = record {
  number = c.loop-number.number;
  statement = c.statement_at-statement.result.now;
  at = c.statement_at-statement.ensures;
  leaves = subst (λ (t : Bool). Tells t (LeavesRange c.args.statements.now c.args.symbols.now c.statement_at-statement.result.now)) c.if-leaves.true
      (c.in_ok-leaves.ensures c.args.statements.now c.requires.0 (record { program = c.requires.1; there = get_in c.args.statements.now c.loop-number.number c.statement_at-statement.result.now c.statement_at-statement.ensures }));
  before = c.loop-number.invariant;
  stands = refl;
}

pub loop-number-preserved : goal.loop-number-preserved
loop-number-preserved g c =
    one_more c.args.statements.now c.args.symbols.now c.loop-number.number c.statement_at-statement.result.now c.statement_at-statement.ensures
    (subst (λ (t : Bool). Tells t (LeavesRange c.args.statements.now c.args.symbols.now c.statement_at-statement.result.now)) c.if-leaves.false
    (c.in_ok-leaves.ensures c.args.statements.now c.requires.0 (record { program = c.requires.1; there = get_in c.args.statements.now c.loop-number.number c.statement_at-statement.result.now c.statement_at-statement.ensures })))
    c.loop-number.invariant

pub returns : goal.returns
returns g c = none_leaves c.args.statements.now c.args.symbols.now c.loop-number.number c.loop-number-test.false c.loop-number.invariant
