use Rattle.std.proofs.Common.{add-one}
use Rattle.tel_rule.proofs.NameSteps.{names_at, with_name-less, with_name-equal, with_name-greater}
use Rattle.tel_rule.proofs.names.place_of.Goals as goal

pub returns-in-Less-clause-place : goal.returns-in-Less-clause-place
returns-in-Less-clause-place c =
    let rest = names_at c.args.names.now c.loop-place.place c.index-names-place.result _ c.loop-place-test.true c.index-names-place.is c.as_slice.ensures in
    with_name-less _ _ _ _ rest c.in-Less.ensures c.loop-place.invariant

pub returns-in-Equal-clause-place : goal.returns-in-Equal-clause-place
returns-in-Equal-clause-place c =
    let rest = names_at c.args.names.now c.loop-place.place c.index-names-place.result _ c.loop-place-test.true c.index-names-place.is c.as_slice.ensures in
    with_name-equal _ _ _ _ rest c.in-Equal.ensures c.loop-place.invariant

pub loop-place-preserved : goal.loop-place-preserved
loop-place-preserved c =
    let rest = names_at c.args.names.now c.loop-place.place c.index-names-place.result _ c.loop-place-test.true c.index-names-place.is c.as_slice.ensures in
    rw add-one (with_name-greater _ _ _ _ rest c.in-Greater.ensures c.loop-place.invariant)
