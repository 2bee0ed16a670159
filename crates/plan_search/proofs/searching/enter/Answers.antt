use Rattle.std.proofs.Common.{◌<◌, List, length, refl, subst, sym}
use Rattle.std.specs.List.{All}
use Rattle.std.specs.Option.{option_copied}
use Rattle.fact_table.specs.Rows.{rows_of}
use Rattle.join_plans.specs.declared.columns.Column.{Column}
use Rattle.join_plans.specs.Join.{place}
use Rattle.rule_plans.specs.Goals.{expression_of, comparison_of}
use Rattle.plan_search.specs.Steps.{step_of, plan_of}
use Rattle.plan_search.specs.Trying.{AreEnough}
use Rattle.plan_search.proofs.Marks.{row_inside}
use Rattle.plan_search.proofs.Dropping.{get_past}
use Rattle.plan_search.proofs.StepAt.{plan_step}
use Rattle.plan_search.proofs.Entering.{get_map_none, enter_rows, enter_equal, enter_compare, enter_end}
use Rattle.plan_search.proofs.searching.enter.Goals as goal

pub listed-requires : goal.listed-requires
listed-requires c =
    subst (λ (columns : List Column). All (λ (d : Column). place d < length c.args.env.now) columns) (sym c.as_slice.ensures)
    (row_inside (plan_of c.args.tables.now c.args.symbols.now c.args.steps.now) c.args.level (length c.args.env.now) c.in-Row.columns (rows_of c.args.tables.now c.in-Row.predicate) c.requires.plan (plan_step c.args.tables.now c.args.symbols.now c.args.steps.now c.args.level c.in-Some.step.now _ c.in-Some.ensures.lookup.3.0 c.in-Some.ensures.lookup.1 c.in-Row.is))

pub returns-in-Row : goal.returns-in-Row
returns-in-Row c =
    enter_rows (plan_of c.args.tables.now c.args.symbols.now c.args.steps.now) c.args.level c.args.env.now (record { level = c.args.level; listed = c.listed.result; turn = 0 }) refl c.in-Row.columns (rows_of c.args.tables.now c.in-Row.predicate) (plan_step c.args.tables.now c.args.symbols.now c.args.steps.now c.args.level c.in-Some.step.now _ c.in-Some.ensures.lookup.3.0 c.in-Some.ensures.lookup.1 c.in-Row.is) refl
    (subst (λ (columns : List Column). AreEnough columns (rows_of c.args.tables.now c.in-Row.predicate) c.args.env.now (option_copied c.listed.result)) c.as_slice.ensures c.listed.ensures.enough) c.listed.ensures.few

pub returns-in-Equal : goal.returns-in-Equal
returns-in-Equal c = enter_equal (plan_of c.args.tables.now c.args.symbols.now c.args.steps.now) c.args.level c.args.env.now c.first.result c.first.ensures c.in-Equal.field-0 (expression_of c.in-Equal.field-1.now) (plan_step c.args.tables.now c.args.symbols.now c.args.steps.now c.args.level c.in-Some.step.now _ c.in-Some.ensures.lookup.3.0 c.in-Some.ensures.lookup.1 c.in-Equal.is)

pub returns-in-Compare : goal.returns-in-Compare
returns-in-Compare c =
    enter_compare (plan_of c.args.tables.now c.args.symbols.now c.args.steps.now) c.args.level c.args.env.now c.first-in-Compare.result c.first-in-Compare.ensures (comparison_of c.args.symbols.now c.in-Compare.field-0 c.in-Compare.field-1.now c.in-Compare.field-2.now) (plan_step c.args.tables.now c.args.symbols.now c.args.steps.now c.args.level c.in-Some.step.now _ c.in-Some.ensures.lookup.3.0 c.in-Some.ensures.lookup.1 c.in-Compare.is)

pub returns-in-None : goal.returns-in-None
returns-in-None c = enter_end (plan_of c.args.tables.now c.args.symbols.now c.args.steps.now) c.args.level c.args.env.now c.first-in-None.result c.first-in-None.ensures (get_map_none (step_of c.args.tables.now c.args.symbols.now) c.args.steps.now c.args.level (get_past c.args.steps.now c.args.level c.in-None.ensures.lookup.3))
