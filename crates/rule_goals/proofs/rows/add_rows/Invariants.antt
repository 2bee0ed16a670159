use Rattle.std.proofs.Common.{◌≡◌, ◌++◌, drop}
use Rattle.rule_goals.specs.Said.{all_said, body_rows, behind_body}
use Rattle.rule_goals.proofs.rows.add_rows.Given as goal

abbrev pub invariant-loop-literal : goal.invariant-loop-literal
invariant-loop-literal g l = record {
  goals : all_said l.goals.items ++ body_rows (g.N.TableNumbers.number l.numbers) l.next (drop l.literal-index l.body) ≡ all_said l.initial.goals.items ++ body_rows (g.N.TableNumbers.number l.numbers) l.free l.body;
  free : behind_body (g.N.TableNumbers.number l.numbers) l.next (drop l.literal-index l.body) ≡ behind_body (g.N.TableNumbers.number l.numbers) l.free l.body;
}
