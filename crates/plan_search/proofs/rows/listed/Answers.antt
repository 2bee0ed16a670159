use Rattle.std.proofs.Common.{List, ap, ◌∙◌, subst, length, ℕ, ◌≤◌, sym}
use Rattle.std.specs.Prelude.{Some}
use Rattle.fact_table.specs.Rows.{rows_of}
use Rattle.join_plans.specs.Join.{at}
use Rattle.plan_search.specs.Trying.{tries, all_behind}
use Rattle.plan_search.proofs.Indexing.{index_enough, index_few, index_inside}
use Rattle.plan_search.proofs.rows.listed.Goals as goal

pub bounds-env-place : goal.bounds-env-place
bounds-env-place c = index_inside c.args.columns.now _ c.in-Some.column c.in-Some.place c.requires c.in-Some.ensures

pub returns-in-Some-clause-enough : goal.returns-in-Some-clause-enough
returns-in-Some-clause-enough c = λ more.
    ap (λ (places : List ℕ). all_behind c.args.columns.now more c.args.env.now (tries (rows_of c.args.tables.now c.args.predicate) (Some places))) c.rows_with.ensures
    ∙ index_enough c.args.columns.now (rows_of c.args.tables.now c.args.predicate) c.args.env.now c.in-Some.column c.in-Some.place c.in-Some.ensures more

pub returns-in-Some-clause-few : goal.returns-in-Some-clause-few
returns-in-Some-clause-few c =
    subst (λ (places : List ℕ). length (tries (rows_of c.args.tables.now c.args.predicate) (Some places)) ≤ length (rows_of c.args.tables.now c.args.predicate)) (sym c.rows_with.ensures)
    (index_few (rows_of c.args.tables.now c.args.predicate) c.in-Some.column (at c.args.env.now c.in-Some.place))
