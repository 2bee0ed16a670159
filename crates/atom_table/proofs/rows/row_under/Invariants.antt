use Rattle.std.proofs.Common.{◌≡◌, take}
use Rattle.atom_table.specs.Collected.{args_under}
use Rattle.atom_table.proofs.rows.row_under.Given as goal

abbrev pub invariant-loop-arg : goal.invariant-loop-arg
invariant-loop-arg l = l.values.items ≡ args_under l.binding (take l.arg-index l.args)
