use Rattle.std.proofs.Common.{◌≡◌, ◌+◌, ◌≤◌, ◌++◌, length, drop}
use Rattle.std.specs.Prelude.{vec_capacity}
use Rattle.trail_walk.specs.Ways.{IsReady}
use Rattle.cdcl_search.specs.Searches.{literal_count, held_of_module, lengths_of_module}
use Rattle.cdcl_search.proofs.adding.add_clauses.Given as goal

abbrev pub invariant-loop-clause : goal.invariant-loop-clause
invariant-loop-clause l =
    let rest = drop l.clause-index l.clauses in
    IsReady l.store l.trail
    × (l.trail.level ≡ 0)
    × (l.trail.entries ≡ l.fn.trail.entries)
    × (l.trail.vars ≡ l.fn.trail.vars)
    × (length rest ≤ l.store.clause_room)
    × (literal_count rest ≤ l.store.lit_room)
    × (length l.lengths.items + length rest ≤ vec_capacity l.lengths)
    × (l.store.clauses ++ held_of_module rest ≡ l.fn.store.clauses ++ held_of_module l.clauses)
    × (l.lengths.items ++ lengths_of_module l.n rest ≡ l.fn.lengths.items ++ lengths_of_module l.n l.clauses)
