use Rattle.std.proofs.Common.{◌≡◌, ◌++◌, ◌+◌, ◌<◌, ℕ, [], drop, vec_len, get_or}
use Rattle.normal_program.specs.ModuleClauses.{bodies_with}
use Rattle.completion.proofs.supports.rows_of.Given as goal

abbrev pub invariant-loop-rule : goal.invariant-loop-rule
invariant-loop-rule l = record {
  len : vec_len l.rows ≡ l.width;
  rows : (k : ℕ) → k < l.width → get_or l.rows.items k [] ++ bodies_with (drop l.rule-index l.rules) (l.low + k) ≡ bodies_with l.rules (l.low + k);
}
