use Rattle.std.proofs.Common.{length, ◌*◌, ◌≡◌, vec_len}
use Rattle.row_tables.proofs.values.repeated.Given as goal

abbrev pub invariant-repeating : goal.invariant-repeating
invariant-repeating l = vec_len l.all ≡ l.counter * length l.text
