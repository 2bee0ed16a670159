use Rattle.std.proofs.Common.{◌≡◌, ◌+◌, ◌-◌, ◌≤◌, length}
use Rattle.grammar_laws.specs.Steps.{each}
use Rattle.tel_rule.specs.declared.parts.Part.TheVariants as parts
use Rattle.part_syntax.specs.Reading.{starts_item}
use Rattle.part_syntax.specs.Given.{IsFrugal, fresh_stated}
use Rattle.part_syntax.proofs.Told.{told, turns}
use Rattle.part_syntax.proofs.texts.text.Given as goal

abbrev pub invariant-loop-turn : goal.invariant-loop-turn
invariant-loop-turn l = record {
  reads : told l.fn.statements parts.Initial (each starts_item (fresh_stated l.levels) l.fn.reading) ≡ told l.statements l.part (turns starts_item (fresh_stated l.levels) (l._turn-end - l._turn) l.reading);
  room : IsFrugal l.fn.reading l.reading;
  few : length l.statements ≤ length l.fn.statements + l._turn;
}
