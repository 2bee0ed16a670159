use Rattle.std.proofs.Common.{◌≡◌, ℕ, [], ◌++◌, get_or, take}
use Rattle.normal_program.specs.Numbering.{ids_from}
use Rattle.normal_program.proofs.rows.add_ids.Given as goal

abbrev pub invariant-loop-rule : goal.invariant-loop-rule
invariant-loop-rule l = record {
  place : l.count ≡ l.rule-index;
  rows : (var : ℕ) → get_or l.rows.items var [] ≡ get_or l.initial.rows.items var [] ++ ids_from l.first var (take l.rule-index l.rules);
}
