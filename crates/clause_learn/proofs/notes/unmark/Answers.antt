use Rattle.std.proofs.Common.{false, get_or, arith}
use Rattle.tel_base.specs.declared.literals.Lit.{Lit}
use Rattle.clause_store.proofs.Levels.{In-at}
use Rattle.clause_learn.proofs.notes.unmark.Goals as goal

pub index_mut-requires : goal.index_mut-requires
index_mut-requires c =
    let d : Lit = record { var = 0; positive = false } in
    let within = c.requires (get_or c.args.lits.now c.loop-lit.lit-index d) (In-at c.args.lits.now c.loop-lit.lit-index d c.loop-lit-test.true) in
    let same = c.loop-lit.invariant.1 in
    let ok = c.loop-lit.marks.ok in
    omega (arith, within, same, ok)
