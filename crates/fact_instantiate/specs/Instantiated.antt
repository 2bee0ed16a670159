-- What instantiating a program gives.
use Rattle.std.specs.Prelude.{◌≡◌, ◌⊎◌, ℕ, ◌+◌, ◌*◌, ◌<◌, ◌≤◌, List, length}
use Rattle.tel_term.specs.declared.terms.Value.{Value}
use Rattle.tel_rule.specs.declared.statements.Program.{Program}
use Rattle.tel_rule.specs.Ground.{Ground}
use Rattle.fact_rows.specs.Limit.{HaveMoreRows}
use Rattle.program_theory.specs.Templates.{IsTemplateOf}
use Rattle.theory_lists.specs.Theories.{ProgramTheory}
use Rattle.program_theory.specs.Theory.{IsTheoryOf, width_of}
use Rattle.range_faults.specs.Ranges.{NoneLeavesRange, IsFirstLeaving}
use Rattle.fact_instantiate.specs.declared.fault.GroundFault.{GroundFault}
use Rattle.fact_instantiate.specs.declared.fault.GroundFault.TheVariants as faults

-- the most places that all states of the greatest length may have together, and the most rows of all tables
abbrev pub most_places : ℕ
most_places = 4194304

-- how many places a state of a template has
abbrev pub template_width : Ground → ℕ
template_width template = length template.atoms + length template.nodes + length template.instances + 1

-- the template of a program, of which no statement leaves the range, and whose states haven't too many places at the greatest length
pub record IsInstantiated (program : Program) (greatest : ℕ) (template : Ground) : Type 0 where
  pub live : List (List (List Value))
  pub is : IsTemplateOf program live template
  pub ranges : NoneLeavesRange program.statements program.symbols
  pub few : greatest * template_width template ≤ most_places

-- all states of the greatest length have more places than they may
abbrev pub IsTooLarge : Program → ℕ → Type 0
IsTooLarge program greatest =
    (live : List (List (List Value))) (theory : ProgramTheory) → IsTheoryOf program live theory → most_places < greatest * width_of program live theory

-- A statement leaves the range, which is said where the tables haven't too many rows; or there are too many places, which is said where no statement leaves the range or there are
-- too many rows.
abbrev pub IsGroundFault : Program → ℕ → GroundFault → Type 0
IsGroundFault program greatest (faults.Range place) = (HaveMoreRows program.statements most_places → ⊥) × IsFirstLeaving program.statements program.symbols place
IsGroundFault program greatest faults.Large = (HaveMoreRows program.statements most_places ⊎ NoneLeavesRange program.statements program.symbols) × IsTooLarge program greatest
IsGroundFault program greatest faults.Memory = Unit {0}
