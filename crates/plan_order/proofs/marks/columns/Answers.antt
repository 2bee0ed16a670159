use Rattle.std.proofs.Common.{◌+◌, arith, drop, get_or}
use Rattle.plan_order.proofs.Columns.{in_get, drop_one, one_more}
use Rattle.plan_order.proofs.marks.columns.Goals as goal

pub column-requires : goal.column-requires
column-requires c = omega (arith, c.requires (get_or c.args.places.now c.loop-at.at-index 0) (in_get c.args.places.now c.loop-at.at-index 0 c.loop-at-test.true), c.loop-at.invariant.long)

pub loop-at-preserved : goal.loop-at-preserved
loop-at-preserved c =
    one_more c.args.places.now c.args.known.now c.loop-at.known c.column.new.known c.loop-at.columns c.push.new.self (drop c.loop-at.at-index c.args.places.now) (drop (c.loop-at.at-index + 1) c.args.places.now) (get_or c.args.places.now c.loop-at.at-index 0) c.column.result c.loop-at.invariant
    (drop_one c.args.places.now c.loop-at.at-index 0 c.loop-at-test.true) c.in_ok-push.ensures.ok c.column.ensures.place c.column.ensures.right c.column.ensures.learn
