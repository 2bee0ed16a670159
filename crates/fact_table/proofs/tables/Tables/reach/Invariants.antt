use Rattle.std.proofs.Common.{◌≡◌, ℕ, ◌+◌, ◌-◌, length}
use Rattle.fact_table.specs.Rows.{rows_of}
use Rattle.fact_table.proofs.tables.Tables.reach.Given as goal

abbrev pub invariant-loop-self : goal.invariant-loop-self
invariant-loop-self l = (other : ℕ) → rows_of l.self-inside.tables.items other ≡ rows_of l.initial.self-inside.tables.items other

abbrev pub decreases-loop-self : goal.decreases-loop-self
decreases-loop-self l = l.predicate + 1 - length l.self-inside.tables.items
