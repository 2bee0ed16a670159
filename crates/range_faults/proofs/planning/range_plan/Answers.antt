use Rattle.std.proofs.Common.{List, subst}
use Rattle.std.proofs.lemmas.Option.{MatchOption-at_none, MatchOption-at_some}
use Rattle.tel_base.specs.Members.{In}
use Rattle.plan_order.specs.declared.goals.Goal.{Goal}
use Rattle.plan_order.specs.Passing.{IsOrdered, IsStuck}
use Rattle.range_faults.proofs.Planned.{all_sound, not_stuck, is_range_plan}
use Rattle.range_faults.proofs.planning.range_plan.Goals as goal

pub order_goals-requires : goal.order_goals-requires
order_goals-requires g c = λ wanted there.
    let r = c.requires.rule in
    all_sound (g.N.TableNumbers.number c.args.numbers.now) r.0 r.1 c.args.tables.now r.2 c.args.rule.now r.3 c.args.body.now r.4 c.args.marks.now r.5 c.requires.len c.args.zero.now c.requires.zero c.in_ok-vars.vars c.in_ok-made.made.places c.in_ok-made.made.goals.items c.in_ok-vars.ensures c.in_ok-made.ensures.goals c.in_ok-made.ensures.fit
    c.in_ok-parted.parted.early.items c.in_ok-parted.parted.late.items c.in_ok-parted.ensures.early c.in_ok-parted.ensures.late wanted (subst (λ (l : List Goal). In wanted l) c.as_slice.ensures.value there)

pub unreachable-requires : goal.unreachable-requires
unreachable-requires g c =
    let r = c.requires.rule in
    not_stuck (g.N.TableNumbers.number c.args.numbers.now) r.0 r.1 c.args.tables.now r.2 c.args.rule.now r.3 c.args.body.now r.4 c.args.marks.now r.5 c.requires.len c.args.zero.now c.requires.zero c.in_ok-vars.vars c.in_ok-made.made.places c.in_ok-made.made.goals.items c.in_ok-vars.ensures c.in_ok-made.ensures.goals c.in_ok-made.ensures.fit
    c.in_ok-parted.parted.early.items c.in_ok-parted.parted.late.items c.in_ok-parted.ensures.early c.in_ok-parted.ensures.late (subst (λ (l : List Goal). IsStuck c.in_ok-made.made.places l) c.as_slice.ensures.value (MatchOption-at_none _ _ c.in-None.is c.in_ok-steps.ensures))

pub returns : goal.returns
returns g c = λ statements rows symbols head rule_in marks_are.
    is_range_plan (g.N.TableNumbers.number c.args.numbers.now) statements rows c.args.tables.now symbols c.args.rule.now head c.args.body.now rule_in c.args.marks.now marks_are c.requires.len c.args.zero.now c.requires.zero c.in_ok-vars.vars c.in_ok-made.made.places c.in_ok-made.made.goals.items c.in_ok-vars.ensures c.in_ok-made.ensures.goals c.in_ok-made.ensures.fit
    c.in_ok-parted.parted.early.items c.in_ok-parted.parted.late.items c.in_ok-parted.ensures.early c.in_ok-parted.ensures.late c.in-Some.steps.items
    (subst (λ (l : List Goal). IsOrdered c.args.tables.now symbols c.in_ok-made.made.places l c.in-Some.steps.items) c.as_slice.ensures.value (MatchOption-at_some _ _ c.in-Some.steps c.in-Some.is c.in_ok-steps.ensures c.args.tables.now symbols))
