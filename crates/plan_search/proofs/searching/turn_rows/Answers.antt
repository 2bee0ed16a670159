use Rattle.std.proofs.Common.{◌≡◌, ◌<◌, ◌≤◌, ℕ, List, length, subst, sym}
use Rattle.std.specs.Prelude.{slice_get, Some}
use Rattle.std.specs.Option.{option_copied}
use Rattle.tel_base.specs.Members.{In}
use Rattle.tel_term.specs.declared.terms.Value.{Value}
use Rattle.fact_table.specs.Rows.{rows_of}
use Rattle.plan_search.specs.Trying.{tries}
use Rattle.plan_search.specs.Steps.{plan_of}
use Rattle.plan_search.specs.Searching.{Opens}
use Rattle.plan_search.proofs.Marks.{row_inside}
use Rattle.plan_search.proofs.TurnCases.{rows_turn_end, rows_turn_misfits, rows_turn_fits}
use Rattle.plan_search.proofs.searching.turn_rows.Goals as goal

pub returns-then-frame-count-clause-turns : goal.returns-then-frame-count-clause-turns
returns-then-frame-count-clause-turns c =
    rows_turn_end (plan_of c.args.tables.now c.args.symbols.now c.args.steps.now) c.args.frame c.args.env.now c.args.stack.now c.requires.plan c.args.columns.now (rows_of c.args.tables.now c.args.predicate) c.requires.step
    (subst (λ (rows : List (List Value)). length (tries rows (option_copied c.args.frame.listed)) ≤ c.args.frame.turn) c.rows-rows.ensures
    (subst (λ (n : ℕ). n ≤ c.args.frame.turn) c.count.ensures c.if-frame-count.true))

pub fits-requires-clause-columns : goal.fits-requires-clause-columns
fits-requires-clause-columns c =
    row_inside (plan_of c.args.tables.now c.args.symbols.now c.args.steps.now) c.args.frame.level (length c.args.env.now) c.args.columns.now (rows_of c.args.tables.now c.args.predicate) c.requires.plan c.requires.step

pub returns-then-not-fits-clause-turns : goal.returns-then-not-fits-clause-turns
returns-then-not-fits-clause-turns c =
    rows_turn_misfits (plan_of c.args.tables.now c.args.symbols.now c.args.steps.now) c.args.frame c.args.env.now c.args.stack.now c.requires.plan c.args.columns.now (rows_of c.args.tables.now c.args.predicate) c.requires.step
    (subst (λ (rows : List (List Value)). c.args.frame.turn < length (tries rows (option_copied c.args.frame.listed))) c.rows-rows.ensures
    (subst (λ (n : ℕ). c.args.frame.turn < n) c.count.ensures c.if-frame-count.false))
    c.fits.new.env c.fits.ensures.len c.fits.ensures.stays c.push.new.self c.in_ok-push.ensures.ok
    (λ row is. c.fits.ensures.other row (subst (λ (rows : List (List Value)). slice_get (tries rows (option_copied c.args.frame.listed)) c.args.frame.turn ≡ Some row) (sym c.rows-rows.ensures) is) c.if-not-fits.true)

pub returns-then-not-fits-clause-env : goal.returns-then-not-fits-clause-env
returns-then-not-fits-clause-env c =
    c.fits.ensures.terms c.args.symbols.now (λ row there. c.requires.rows c.args.predicate row (subst (λ (rows : List (List Value)). In row rows) c.rows-rows.ensures there)) c.requires.env

pub returns-in_err-go_on-clause-env : goal.returns-in_err-go_on-clause-env
returns-in_err-go_on-clause-env c =
    c.fits.ensures.terms c.args.symbols.now (λ row there. c.requires.rows c.args.predicate row (subst (λ (rows : List (List Value)). In row rows) c.rows-rows.ensures there)) c.requires.env

pub returns-clause-turns : goal.returns-clause-turns
returns-clause-turns c =
    rows_turn_fits (plan_of c.args.tables.now c.args.symbols.now c.args.steps.now) c.args.frame c.args.env.now c.args.stack.now c.requires.plan c.args.columns.now (rows_of c.args.tables.now c.args.predicate) c.requires.step
    (subst (λ (rows : List (List Value)). c.args.frame.turn < length (tries rows (option_copied c.args.frame.listed))) c.rows-rows.ensures
    (subst (λ (n : ℕ). c.args.frame.turn < n) c.count.ensures c.if-frame-count.false))
    c.fits.new.env c.fits.ensures.len c.fits.ensures.stays c.push.new.self c.in_ok-push.ensures.ok
    (λ row is. c.fits.ensures.fits row (subst (λ (rows : List (List Value)). slice_get (tries rows (option_copied c.args.frame.listed)) c.args.frame.turn ≡ Some row) (sym c.rows-rows.ensures) is) c.if-not-fits.false)
    c.go_on.new.stack
    (subst (λ (env : List Value). Opens (plan_of c.args.tables.now c.args.symbols.now c.args.steps.now) c.args.frame.level env c.push.new.self c.go_on.new.stack) c.as_slice.ensures c.in_ok-go_on.ensures)

pub returns-clause-env : goal.returns-clause-env
returns-clause-env c =
    c.fits.ensures.terms c.args.symbols.now (λ row there. c.requires.rows c.args.predicate row (subst (λ (rows : List (List Value)). In row rows) c.rows-rows.ensures there)) c.requires.env
