use Rattle.std.proofs.Common.{◌≡◌, List, get_or, sym, subst}
use Rattle.tel_term.specs.declared.terms.Value.{Value}
use Rattle.fact_instantiate.proofs.RowSteps.{more_instances, more_nodes}
use Rattle.fact_instantiate.proofs.building.Built.push_all.Goals as goal

pub loop-number-preserved : goal.loop-number-preserved
loop-number-preserved c =
    let rows = c.as_slice.result.now in
    let live = c.args.live.now in
    let place = c.loop-number.number in
    let statement = c.index-statements-number.result in
    let has = subst (λ (list : List (List Value)). list ≡ get_or live place list) (sym c.as_slice.ensures) c.index-live-number.is in
    let old = c.loop-number.self in
    let new = c.push_statement.new.self in
    let pushed = c.in_ok-push_statement.ensures in
    record {
      instances = more_instances c.args.numbers.now c.args.statements.now live place statement rows c.loop-number-test.true c.requires.each c.index-statements-number.is has old.instances new.instances _ old.nodes new.nodes c.loop-number.invariant.instances pushed.instances pushed.nodes;
      nodes = more_nodes c.args.numbers.now c.args.statements.now live place statement rows c.loop-number-test.true c.requires.each c.index-statements-number.is has old.nodes new.nodes _ c.loop-number.invariant.nodes pushed.nodes;
    }
