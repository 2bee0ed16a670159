use Rattle.std.proofs.Common.{List, sym, subst, arith}
use Rattle.clause_store.specs.Held.{clauses_in}
use Rattle.lit_trail.specs.declared.assignment.Entry.{Entry}
use Rattle.back_jump.specs.Jumps.{IsFalseOrUnit}
use Rattle.back_jump.proofs.SecondLevels.{settled_below, second_top, false_or_unit}
use Rattle.back_jump.proofs.Conflicts.{false_free}
use Rattle.back_jump.proofs.holding.hold_false.Goals as goal

pub hold-requires-clause-level : goal.hold-requires-clause-level
hold-requires-clause-level c =
    let at = c.second_level-level.ensures in
    let top = second_top c.args.trail.now.level c.args.trail.now.entries c.args.lits.now c.len-count.ensures.levels in
    omega (arith, at, top)

pub hold-requires-clause-settled : goal.hold-requires-clause-settled
hold-requires-clause-settled c =
    let known = c.len-count.ensures in
    let at = c.second_level-level.ensures in
    settled_below c.args.trail.now.vars c.args.trail.now.level _ c.args.trail.now.entries c.args.lits.now known.ordered.apart known.levels c.requires.clause (omega (arith, at))

pub returns-clause-leaves : goal.returns-clause-leaves
returns-clause-leaves c =
    let known = c.len-count.ensures in
    let at = c.second_level-level.ensures in
    subst (λ (es : List Entry). IsFalseOrUnit es c.args.lits.now) (sym c.hold.ensures.entries) (false_or_unit c.args.trail.now.level _ c.args.trail.now.entries c.args.lits.now known.ordered.apart known.levels c.requires.refuted (omega (arith, at)))

pub returns-clause-free : goal.returns-clause-free
returns-clause-free c = false_free c.args.trail.now.vars (clauses_in c.args.store.now.clauses) c.args.lits.now c.args.trail.now.entries c.requires.clause c.requires.refuted

pub returns-in_err-reserve-clause-free : goal.returns-in_err-reserve-clause-free
returns-in_err-reserve-clause-free c = false_free c.args.trail.now.vars (clauses_in c.args.store.now.clauses) c.args.lits.now c.args.trail.now.entries c.requires.clause c.requires.refuted
