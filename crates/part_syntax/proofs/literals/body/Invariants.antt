use Rattle.std.proofs.Common.{◌≡◌, ◌-◌}
use Rattle.grammar_laws.specs.Steps.{one, both, passes}
use Rattle.part_syntax.specs.Grammar.{separator}
use Rattle.part_syntax.specs.Reading.{read_literal, read_body}
use Rattle.part_syntax.specs.Given.{IsFrugal}
use Rattle.part_syntax.proofs.Rows.{rows, steps}
use Rattle.part_syntax.proofs.literals.body.Given as goal

abbrev pub invariant-loop-turn : goal.invariant-loop-turn
invariant-loop-turn l = record {
  reads : read_body l.levels l.fn.reading ≡ rows l.body (steps (passes separator) (both (one separator) (read_literal l.levels)) (l._turn-end - l._turn) l.reading);
  room : IsFrugal l.fn.reading l.reading;
}
