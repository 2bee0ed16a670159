use Rattle.std.proofs.Common.{◌≡◌, ◌≤◌, ◌++◌, take}
use Rattle.std.specs.Prelude.{vec_capacity}
use Rattle.clause_store.proofs.store.put_all.Given as goal

abbrev pub invariant-loop-lit : goal.invariant-loop-lit
invariant-loop-lit l = (l.items.items ≡ l.fn.items.items ++ take l.lit-index l.lits) × (vec_capacity l.fn.items ≤ vec_capacity l.items)
