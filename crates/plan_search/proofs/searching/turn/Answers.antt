use Rattle.std.proofs.Common.{List, length, ap, sym, subst, ◌∙◌}
use Rattle.tel_term.specs.declared.terms.Value.{Value}
use Rattle.tel_term.specs.Arithmetic.{expr_value}
use Rattle.live_instances.specs.Instances.{both_relate}
use Rattle.rule_plans.specs.Goals.{expression_of, comparison_of}
use Rattle.plan_search.specs.Steps.{plan_of}
use Rattle.plan_search.specs.Searching.{Opens}
use Rattle.plan_search.proofs.Marks.{equal_inside}
use Rattle.plan_search.proofs.StepAt.{plan_step, step_terms}
use Rattle.plan_search.proofs.TurnCases.{equal_turn_fails, equal_turn_passes, compare_turn_fails, compare_turn_passes}
use Rattle.plan_search.proofs.searching.turn.Goals as goal

pub sets-requires : goal.sets-requires
sets-requires c = equal_inside (plan_of c.args.tables.now c.args.symbols.now c.args.steps.now) c.args.frame.level (length c.args.env.now) c.in-Equal.column (expression_of c.in-Equal.expr.now) c.requires.plan (plan_step c.args.tables.now c.args.symbols.now c.args.steps.now c.args.frame.level c.index-steps-frame.result _ c.requires.level c.index-steps-frame.is c.in-Equal.is)

pub returns-then-not-sets-clause-turns : goal.returns-then-not-sets-clause-turns
returns-then-not-sets-clause-turns c =
    equal_turn_fails (plan_of c.args.tables.now c.args.symbols.now c.args.steps.now) c.args.frame c.args.env.now c.args.stack.now c.requires.plan c.in-Equal.column (expression_of c.in-Equal.expr.now) (plan_step c.args.tables.now c.args.symbols.now c.args.steps.now c.args.frame.level c.index-steps-frame.result _ c.requires.level c.index-steps-frame.is c.in-Equal.is) c.sets.new.env c.sets.ensures.len c.sets.ensures.stays (c.sets.ensures.other c.if-not-sets.true)

pub returns-then-not-sets-clause-env : goal.returns-then-not-sets-clause-env
returns-then-not-sets-clause-env c = c.sets.ensures.terms c.args.symbols.now (step_terms c.args.symbols.now c.args.steps.now c.args.frame.level c.index-steps-frame.result _ c.requires.terms c.requires.level c.index-steps-frame.is c.in-Equal.is) c.requires.env

pub returns-in_err-go_on-in-Equal-clause-env : goal.returns-in_err-go_on-in-Equal-clause-env
returns-in_err-go_on-in-Equal-clause-env c = c.sets.ensures.terms c.args.symbols.now (step_terms c.args.symbols.now c.args.steps.now c.args.frame.level c.index-steps-frame.result _ c.requires.terms c.requires.level c.index-steps-frame.is c.in-Equal.is) c.requires.env

pub compares-requires-clause-left : goal.compares-requires-clause-left
compares-requires-clause-left c = (step_terms c.args.symbols.now c.args.steps.now c.args.frame.level c.index-steps-frame.result _ c.requires.terms c.requires.level c.index-steps-frame.is c.in-Compare.is).0

pub compares-requires-clause-right : goal.compares-requires-clause-right
compares-requires-clause-right c = (step_terms c.args.symbols.now c.args.steps.now c.args.frame.level c.index-steps-frame.result _ c.requires.terms c.requires.level c.index-steps-frame.is c.in-Compare.is).1

pub returns-then-not-compares-clause-turns : goal.returns-then-not-compares-clause-turns
returns-then-not-compares-clause-turns c = compare_turn_fails (plan_of c.args.tables.now c.args.symbols.now c.args.steps.now) c.args.frame c.args.env.now c.args.stack.now c.requires.plan (comparison_of c.args.symbols.now c.in-Compare.relation c.in-Compare.left.now c.in-Compare.right.now) (plan_step c.args.tables.now c.args.symbols.now c.args.steps.now c.args.frame.level c.index-steps-frame.result _ c.requires.level c.index-steps-frame.is c.in-Compare.is) (sym (c.compares.ensures ∙ ap (λ (env : List Value). both_relate c.args.symbols.now c.in-Compare.relation (expr_value env c.in-Compare.left.now) (expr_value env c.in-Compare.right.now)) c.as_slice-in-Compare.ensures) ∙ c.if-not-compares.true)

pub returns-in_ok-go_on-in-Equal-clause-turns : goal.returns-in_ok-go_on-in-Equal-clause-turns
returns-in_ok-go_on-in-Equal-clause-turns c =
    equal_turn_passes (plan_of c.args.tables.now c.args.symbols.now c.args.steps.now) c.args.frame c.args.env.now c.args.stack.now c.requires.plan c.in-Equal.column (expression_of c.in-Equal.expr.now) (plan_step c.args.tables.now c.args.symbols.now c.args.steps.now c.args.frame.level c.index-steps-frame.result _ c.requires.level c.index-steps-frame.is c.in-Equal.is) c.sets.new.env c.sets.ensures.len c.sets.ensures.stays (c.sets.ensures.fits c.if-not-sets.false) c.go_on.new.stack
    (subst (λ (env : List Value). Opens (plan_of c.args.tables.now c.args.symbols.now c.args.steps.now) c.args.frame.level env c.args.stack.now c.go_on.new.stack) c.as_slice-in-Equal.ensures c.in_ok-go_on-in-Equal.ensures)

pub returns-in_ok-go_on-in-Equal-clause-env : goal.returns-in_ok-go_on-in-Equal-clause-env
returns-in_ok-go_on-in-Equal-clause-env c = c.sets.ensures.terms c.args.symbols.now (step_terms c.args.symbols.now c.args.steps.now c.args.frame.level c.index-steps-frame.result _ c.requires.terms c.requires.level c.index-steps-frame.is c.in-Equal.is) c.requires.env

pub returns-in_ok-go_on-in-Compare-clause-turns : goal.returns-in_ok-go_on-in-Compare-clause-turns
returns-in_ok-go_on-in-Compare-clause-turns c =
    compare_turn_passes (plan_of c.args.tables.now c.args.symbols.now c.args.steps.now) c.args.frame c.args.env.now c.args.stack.now c.requires.plan (comparison_of c.args.symbols.now c.in-Compare.relation c.in-Compare.left.now c.in-Compare.right.now) (plan_step c.args.tables.now c.args.symbols.now c.args.steps.now c.args.frame.level c.index-steps-frame.result _ c.requires.level c.index-steps-frame.is c.in-Compare.is) (sym (c.compares.ensures ∙ ap (λ (env : List Value). both_relate c.args.symbols.now c.in-Compare.relation (expr_value env c.in-Compare.left.now) (expr_value env c.in-Compare.right.now)) c.as_slice-in-Compare.ensures) ∙ c.if-not-compares.false) c.go_on-in-Compare.new.stack
    (subst (λ (env : List Value). Opens (plan_of c.args.tables.now c.args.symbols.now c.args.steps.now) c.args.frame.level env c.args.stack.now c.go_on-in-Compare.new.stack) c.as_slice-in-Compare-2.ensures c.in_ok-go_on-in-Compare.ensures)
