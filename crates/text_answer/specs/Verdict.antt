-- What texts are: accepted as a program, or refused; and what is answered for them.
use Rattle.std.specs.Prelude.{◌≡◌, ℕ, ◌+◌, ◌*◌, ◌^◌, ◌≤◌, ◌<◌, ◌==◌, ◌⊎◌, Bool, List, [], ◌∷◌, ◌++◌, Option, Some, None, length, map, max, codes, decimal, IfSome, IsTrue}
use Rattle.std.specs.List.{list_any}
use Rattle.std.specs.Option.{option_map_or}
use Rattle.tel_base.specs.declared.places.Place.{Place}
use Rattle.tel_base.specs.Bytes.{Appends}
use Rattle.tel_term.specs.declared.terms.Value.{Value}
use Rattle.tel_rule.specs.declared.statements.Program.{Program}
use Rattle.tel_settings.specs.declared.fields.Settings.{Settings}
use Rattle.tel_settings.specs.Run.{run_status}
use Rattle.part_syntax.specs.declared.fault.ReadFault.{ReadFault}
use Rattle.part_syntax.specs.declared.fault.ReadFault.TheVariants as faults
use Rattle.part_syntax.specs.Programs.{IsProgram, IsFirstFault, total_bytes}
use Rattle.rule_constants.specs.Replaced.{IsReplaced}
use Rattle.rule_check.specs.declared.faults.CheckFault.{CheckFault}
use Rattle.rule_check.specs.declared.faults.CheckFault.TheVariants as causes
use Rattle.rule_check.specs.Causes.{IsSound, IsFirstCause}
use Rattle.fact_rows.specs.Limit.{HaveMoreRows}
use Rattle.range_faults.specs.Ranges.{NoneLeavesRange, IsFirstLeaving}
use Rattle.theory_lists.specs.Theories.{ProgramTheory}
use Rattle.theory_lists.specs.Lists.{equilibria}
use Rattle.theory_lists.specs.Print.{print_theory}
use Rattle.program_theory.specs.Theory.{IsTheoryOf, width_of}
use Rattle.fact_instantiate.specs.Instantiated.{most_places}
use Rattle.tel_engine.specs.Ends.{End, whole_end, IsEnd}
use Rattle.text_answer.specs.Runs.{ending_of, AreEnds, texts_from, IsRunOf, Runs}

-- the most bytes that all texts together may have
abbrev pub largest_text : ℕ
largest_text = 1048576

-- Accepted, with the theory that they mean and how many variables it has in a state; refused for their first fault, for the first cause of a statement, for the first statement that leaves
-- the range of numbers, or for their size.
pub data Verdict : Type 0 where
  Accepted : ProgramTheory → ℕ → Verdict
  Refused : ReadFault → Verdict
  Faulty : CheckFault → Verdict
  Leaving : Place → Verdict
  Large : Verdict

-- how many places all states of the greatest length have, or one state where no length is run, where a state has so many
abbrev pub places_in : Settings → ℕ → ℕ
places_in settings width = max settings.imax 1 * width

-- the texts are a program, whose first cause is this one
pub record SayFaulty (texts : List (List ℕ)) (cause : CheckFault) : Type 0 where
  pub program : Program
  pub reads : IsProgram texts program
  pub first : IsFirstCause program cause

-- or in which no cause stands, and with its constants replaced it is this one
pub record SayChecked (texts : List (List ℕ)) (program : Program) : Type 0 where
  pub source : Program
  pub reads : IsProgram texts source
  pub sound : IsSound source
  pub replaced : IsReplaced source program

-- the first statement of this program that leaves the range stands here, and its tables haven't too many rows
pub record SayLeaving (texts : List (List ℕ)) (place : Place) : Type 0 where
  pub program : Program
  pub checked : SayChecked texts program
  pub few : HaveMoreRows program.statements most_places → ⊥
  pub first : IsFirstLeaving program.statements program.symbols place

-- its states have too many places, and its tables too many rows, or no statement leaves the range
pub record SayLarge (settings : Settings) (texts : List (List ℕ)) : Type 0 where
  pub program : Program
  pub checked : SayChecked texts program
  pub ranges : HaveMoreRows program.statements most_places ⊎ NoneLeavesRange program.statements program.symbols
  pub live : List (List (List Value))
  pub theory : ProgramTheory
  pub is : IsTheoryOf program live theory
  pub many : most_places < places_in settings (width_of program live theory)

-- no statement leaves the range, and the program means this theory, whose states have so many places, and not too many
pub record SayTheory (settings : Settings) (texts : List (List ℕ)) (theory : ProgramTheory) (width : ℕ) : Type 0 where
  pub program : Program
  pub checked : SayChecked texts program
  pub ranges : NoneLeavesRange program.statements program.symbols
  pub live : List (List (List Value))
  pub is : IsTheoryOf program live theory
  pub wide : width ≡ width_of program live theory
  pub few : places_in settings width ≤ most_places

-- The size is looked at first, then the grammar, then the causes of statements, then the range of numbers, and then the places at the greatest length.
abbrev pub IsVerdict : Settings → List (List ℕ) → Verdict → Type 0
IsVerdict settings texts (Accepted theory width) = (total_bytes texts ≤ largest_text) × SayTheory settings texts theory width
IsVerdict settings texts (Refused fault) = (total_bytes texts ≤ largest_text) × IsFirstFault texts fault
IsVerdict settings texts (Faulty cause) = (total_bytes texts ≤ largest_text) × SayFaulty texts cause
IsVerdict settings texts (Leaving place) = (total_bytes texts ≤ largest_text) × SayLeaving texts place
IsVerdict settings texts Large = (largest_text < total_bytes texts) ⊎ ((total_bytes texts ≤ largest_text) × SayLarge settings texts)

-- ---- the run of a theory

-- as many clauses as there are over the variables of n + 1 states, of which each has so many
unfoldable pub most_clauses : ℕ → ℕ → ℕ
most_clauses width n = 3 ^ ((n + 1) * width)

-- An end of length n: its temporal equilibrium models in their order, all of them or as many as are asked for; or a front of these, which a budget of conflicts
-- cut that is smaller than the number of clauses.
abbrev pub IsLengthEnd : Settings → ProgramTheory → ℕ → ℕ → End → Type 0
IsLengthEnd settings theory width n end = IsEnd (equilibria theory n) settings.models settings.conflicts (most_clauses width n) end

-- what is printed for length n
abbrev pub length_text : ProgramTheory → ℕ → End → List ℕ
length_text theory n end = print_theory theory n end.traces end.how

-- `D` holds of the status of some run and of what it prints
abbrev pub RunsTheory : (ℕ → List ℕ → Type 0) → Settings → ProgramTheory → ℕ → Type 0
RunsTheory D settings theory width = Runs (IsLengthEnd settings theory width) (length_text theory) settings D

-- there is no budget of conflicts, or it is no smaller than the number of clauses of each length up to the greatest
abbrev pub IsAmple : Option ℕ → ℕ → ℕ → Type 0
IsAmple conflicts width greatest = IfSome conflicts (λ budget. (n : ℕ) → n ≤ greatest → most_clauses width n ≤ budget)

-- no budget cuts a length: all its traces are printed, or as many as are asked for
abbrev pub IsWholeEnd : Settings → ProgramTheory → ℕ → End → Type 0
IsWholeEnd settings theory n end = end ≡ whole_end (equilibria theory n) settings.models

-- the status is that of a run, whose whole text was added; where the budget is ample for the lengths that were printed, it cut none
pub record Completes (settings : Settings) (theory : ProgramTheory) (width status : ℕ) (old new : Option (List ℕ)) : Type 0 where
  pub ends : List End
  pub is : IsRunOf (IsLengthEnd settings theory width) settings ends
  pub status_is : status ≡ run_status (map ending_of ends)
  pub printed : Appends old new (texts_from (length_text theory) 1 ends)
  pub whole : IsAmple settings.conflicts width (length ends) → AreEnds (IsWholeEnd settings theory) 1 ends

-- ---- the lines of refusals

abbrev pub usage_line : List ℕ
usage_line = codes "error: usage\n"

abbrev pub large_line : List ℕ
large_line = codes "error: large\n"

-- the line and the byte of a place, and before them its file, in decimal digits with colons between
abbrev pub position_text : Place → List ℕ
position_text place = decimal place.line ++ codes ":" ++ decimal place.at

abbrev pub place_text : Place → List ℕ
place_text place = decimal place.file ++ codes ":" ++ position_text place

-- the end of the line of a refusal that has a place
abbrev pub end_at : Place → List ℕ
end_at place = codes " at " ++ place_text place ++ codes "\n"

abbrev pub line_at : List ℕ → Place → List ℕ
line_at cause place = codes "error: " ++ cause ++ end_at place

-- the cause and the place of a fault of the reader; want of memory has none
abbrev pub named : ReadFault → Option (List ℕ × Place)
named (faults.BadByte place) = Some (codes "BadByte", place)
named (faults.NumberRange place) = Some (codes "NumberRange", place)
named (faults.TooDeep place) = Some (codes "TooDeep", place)
named (faults.Syntax place) = Some (codes "Syntax", place)
named faults.Memory = None

abbrev pub fault_line : ReadFault → List ℕ
fault_line fault = option_map_or (λ cause. line_at cause.0 cause.1) (named fault) []

-- the line of a cause; want of memory has none
abbrev pub cause_line : CheckFault → List ℕ
cause_line (causes.Unbound place name) = line_at (codes "Unbound " ++ name) place
cause_line (causes.Arrow place) = line_at (codes "Arrow") place
cause_line (causes.Prime place) = line_at (codes "Prime") place
cause_line (causes.Const place name) = line_at (codes "Const " ++ name) place
cause_line causes.Memory = []

abbrev pub range_line : Place → List ℕ
range_line place = line_at (codes "Range") place

-- the line of a failed read of the file word at this place, from 0
abbrev pub read_line : ℕ → List ℕ
read_line place = codes "error: read " ++ decimal (place + 1) ++ codes "\n"

-- ---- what is answered

-- `D` holds of the status of texts with this verdict and of what is printed for them: those of a run, or 65 or 69 and the line of the refusal
abbrev pub HasOutcome : (ℕ → List ℕ → Type 0) → Settings → Verdict → Type 0
HasOutcome D settings (Accepted theory width) = RunsTheory D settings theory width
HasOutcome D settings (Refused fault) = D 65 (fault_line fault)
HasOutcome D settings (Faulty cause) = D 65 (cause_line cause)
HasOutcome D settings (Leaving place) = D 65 (range_line place)
HasOutcome D settings Large = D 69 large_line

abbrev pub is_among : List ℕ → ℕ → Bool
is_among statuses status = list_any (λ other. other == status) statuses

-- a status that tells of the texts
abbrev pub TellsOfText : ℕ → Type 0
TellsOfText status = IsTrue (is_among (10 ∷ 20 ∷ 30 ∷ 65 ∷ 69 ∷ []) status)

-- a status that comes once the texts are read
abbrev pub ComesOfText : ℕ → Type 0
ComesOfText status = IsTrue (is_among (10 ∷ 20 ∷ 30 ∷ 65 ∷ 69 ∷ 71 ∷ 74 ∷ []) status)

-- some verdict of the texts has this status, and its whole output was added
abbrev pub Answers : Settings → List (List ℕ) → ℕ → Option (List ℕ) → Option (List ℕ) → Type 0
Answers settings texts status old new =
    (verdict : Verdict) × IsVerdict settings texts verdict × HasOutcome (λ code bytes. (status ≡ code) × Appends old new bytes) settings verdict
