use Rattle.formula_syntax.specs.declared.marks.Mark.TheVariants as marks
use Rattle.std.proofs.Common.{◌≡◌, ◌-◌}
use Rattle.grammar_laws.specs.Steps.{made, one, both, each, passes}
use Rattle.part_syntax.specs.Grammar.{chain_of}
use Rattle.part_syntax.specs.Reading.{read_tuple}
use Rattle.part_syntax.specs.Given.{IsFrugal}
use Rattle.part_syntax.proofs.Rows.{rows, steps}
use Rattle.part_syntax.proofs.facts.open_tuples.Given as goal
use Rattle.formula_syntax.specs.Grammar.{sign}

abbrev pub invariant-loop-turn : goal.invariant-loop-turn
invariant-loop-turn l = record {
  reads : made chain_of (both (read_tuple l.levels) (each (passes (sign marks.Semicolon)) (both (one (sign marks.Semicolon)) (read_tuple l.levels)))) l.fn.reading ≡ rows l.tuples (steps (passes (sign marks.Semicolon)) (both (one (sign marks.Semicolon)) (read_tuple l.levels)) (l._turn-end - l._turn) l.reading);
  room : IsFrugal l.fn.reading l.reading;
}
