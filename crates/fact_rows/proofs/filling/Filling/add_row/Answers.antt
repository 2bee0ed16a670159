use Rattle.std.proofs.Common.{◌-◌, arith}
use Rattle.fact_table.specs.Rows.{rows_of, has_row}
use Rattle.fact_rows.proofs.Held.{put-adds, put-over}
use Rattle.fact_rows.proofs.Steps.{left-known, left-new, not-there}
use Rattle.fact_rows.proofs.filling.Filling.add_row.Goals as goal

pub returns-then-not-is_new-clause-added : goal.returns-then-not-is_new-clause-added
returns-then-not-is_new-clause-added c =
    let old = c.args.self.now in
    let has = has_row (rows_of old.tables c.args.table) c.args.row in
    λ number predicate its.
    put-adds number old (record { tables = c.add.new.self; left = old.left }) predicate c.args.table c.args.row its
    (record { rows = c.in-Ok.ensures.rows; others = c.in-Ok.ensures.others; left = left-known has c.in-Ok.is_new old.left c.in-Ok.ensures.added c.if-not-is_new.true })

pub returns-then-self-eq0-clause-large : goal.returns-then-self-eq0-clause-large
returns-then-self-eq0-clause-large c =
    let old = c.args.self.now in
    let has = has_row (rows_of old.tables c.args.table) c.args.row in
    λ large number predicate its. put-over number old predicate c.args.table c.args.row its (not-there has c.in-Ok.is_new c.in-Ok.ensures.added c.if-not-is_new.false) c.if-self-eq0.true

pub returns-clause-added : goal.returns-clause-added
returns-clause-added c =
    let old = c.args.self.now in
    let has = has_row (rows_of old.tables c.args.table) c.args.row in
    λ number predicate its.
    put-adds number old (record { tables = c.add.new.self; left = old.left - 1 }) predicate c.args.table c.args.row its
    (record { rows = c.in-Ok.ensures.rows; others = c.in-Ok.ensures.others; left = left-new has c.in-Ok.is_new old.left c.in-Ok.ensures.added c.if-not-is_new.false (omega arith) })
