-- What is answered for a fault of the reader, and for a program as it is read.
use Rattle.std.specs.Prelude.{◌≡◌, ℕ, ◌<◌, ◌≤◌, ◌⊎◌, List, Option, MatchOption}
use Rattle.tel_base.specs.declared.places.Place.{Place}
use Rattle.tel_term.specs.declared.terms.Value.{Value}
use Rattle.tel_rule.specs.declared.statements.Program.{Program}
use Rattle.tel_settings.specs.declared.fields.Settings.{Settings}
use Rattle.part_syntax.specs.declared.fault.ReadFault.{ReadFault}
use Rattle.rule_constants.specs.Replaced.{IsReplaced}
use Rattle.rule_check.specs.declared.faults.CheckFault.{CheckFault}
use Rattle.rule_check.specs.declared.faults.CheckFault.TheVariants as causes
use Rattle.rule_check.specs.Causes.{IsSound, IsFirstCause}
use Rattle.fact_rows.specs.Limit.{HaveMoreRows}
use Rattle.range_faults.specs.Ranges.{NoneLeavesRange, IsFirstLeaving}
use Rattle.theory_lists.specs.Theories.{ProgramTheory}
use Rattle.program_theory.specs.Theory.{IsTheoryOf, width_of}
use Rattle.fact_instantiate.specs.Instantiated.{most_places}
use Rattle.text_answer.specs.Delivery.{Delivers}
use Rattle.text_answer.specs.Verdict.{line_at, named, cause_line, range_line, large_line, places_in, RunsTheory}

-- a fault of the reader is delivered, and for want of memory nothing is printed
abbrev pub DeliversFault : ReadFault → ℕ → Option (List ℕ) → Option (List ℕ) → Type 0
DeliversFault fault result old new =
    MatchOption (named fault) ((result ≡ 71) × (new ≡ old)) (λ cause. Delivers result 65 (line_at cause.0 cause.1) old new)

-- a cause is delivered, and for want of memory nothing is printed
abbrev pub DeliversCause : CheckFault → ℕ → Option (List ℕ) → Option (List ℕ) → Type 0
DeliversCause causes.Memory result old new = (result ≡ 71) × (new ≡ old)
DeliversCause (causes.Unbound place name) result old new = Delivers result 65 (cause_line (causes.Unbound place name)) old new
DeliversCause (causes.Arrow place) result old new = Delivers result 65 (cause_line (causes.Arrow place)) old new
DeliversCause (causes.Prime place) result old new = Delivers result 65 (cause_line (causes.Prime place)) old new
DeliversCause (causes.Const place name) result old new = Delivers result 65 (cause_line (causes.Const place name)) old new

-- what is delivered for a program without a cause: its theory's run, its first statement that leaves the range, or its size
pub record DeliversProgram (D : ℕ → List ℕ → Type 0) (settings : Settings) (program : Program) : Type 0 where
  pub accepted : NoneLeavesRange program.statements program.symbols → (live : List (List (List Value))) (theory : ProgramTheory) → IsTheoryOf program live theory → (width : ℕ) → width ≡ width_of program live theory → places_in settings width ≤ most_places → RunsTheory D settings theory width
  pub leaving : (HaveMoreRows program.statements most_places → ⊥) → (place : Place) → IsFirstLeaving program.statements program.symbols place → D 65 (range_line place)
  pub large : HaveMoreRows program.statements most_places ⊎ NoneLeavesRange program.statements program.symbols → (live : List (List (List Value))) (theory : ProgramTheory) → IsTheoryOf program live theory → most_places < places_in settings (width_of program live theory) → D 69 large_line

-- what is delivered for a program as it is read: as for what it is with its constants replaced, or for its first cause
pub record DeliversRead (D : ℕ → List ℕ → Type 0) (settings : Settings) (program : Program) : Type 0 where
  pub checked : IsSound program → (replaced : Program) → IsReplaced program replaced → DeliversProgram D settings replaced
  pub faulty : (cause : CheckFault) → IsFirstCause program cause → D 65 (cause_line cause)
