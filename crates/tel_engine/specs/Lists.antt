-- What a listing has printed, and which clauses it has added.
use Rattle.std.specs.Prelude.{◌≡◌, ℕ, List, Option, Some, Result, Ok, Err}
use Rattle.std.specs.List.{flat_map}
use Rattle.tel_base.specs.Bytes.{Appends, AppendsFront}
use Rattle.tel_base.specs.Counts.{Rose}
use Rattle.tel_rule.specs.Ground.{Ground}
use Rattle.tel_semantics.specs.declared.ends.How.{How}
use Rattle.tel_semantics.specs.declared.ends.How.TheVariants as hows
use Rattle.tel_semantics.specs.Equilibrium.{list_of}
use Rattle.tel_semantics.specs.Print.{trace_lines, print}
use Rattle.step_module.specs.Modules.{module_of}
use Rattle.search_laws.specs.Lengths.{length_of}
use Rattle.search_laws.specs.Origins.{Kept, lits_of}
use Rattle.search_laws.specs.Needed.{Needed}
use Rattle.trace_list.specs.Listing.{Adds, IsWithin}
use Rattle.tel_engine.specs.declared.ends.LengthEnd.{LengthEnd}
use Rattle.tel_engine.specs.declared.ends.EngineFault.{EngineFault}
use Rattle.tel_engine.specs.declared.ends.EngineFault.TheVariants.{Write, Memory}
use Rattle.tel_engine.specs.Ends.{End, IsEnd, most_counted, Tells}

-- ---- what is printed

-- an end of the listing, whose text was printed whole
pub record PrintsWhole (text : End → List ℕ) (program : Ground) (n models : ℕ) (conflicts : Option ℕ) (answer : LengthEnd) (old new : Option (List ℕ)) : Type 0 where
  pub end : End
  pub is_end : IsEnd (list_of program n) models conflicts (most_counted program n) end
  pub tells : Tells end answer
  pub printed : Appends old new (text end)

-- an end of the listing, of whose text a front was printed
pub record PrintsFront (text : End → List ℕ) (program : Ground) (n models : ℕ) (conflicts : Option ℕ) (old new : Option (List ℕ)) : Type 0 where
  pub end : End
  pub is_end : IsEnd (list_of program n) models conflicts (most_counted program n) end
  pub printed : AppendsFront old new (text end)

-- What was added to the sink and what its count of faults says: the text of an end and no fault; or a front of one, and a fault where it is the
-- sink's.
abbrev pub Prints : (End → List ℕ) → Ground → ℕ → ℕ → Option ℕ → Result LengthEnd EngineFault → Option (List ℕ) → Option (List ℕ) → ℕ → ℕ → Type 0
Prints text program n models conflicts (Ok answer) old new before now = PrintsWhole text program n models conflicts answer old new × (now ≡ before)
Prints text program n models conflicts (Err Write) old new before now = PrintsFront text program n models conflicts old new × Rose before now
Prints text program n models conflicts (Err Memory) old new before now = PrintsFront text program n models conflicts old new × (now ≡ before)

-- the lines of its traces, and all that is printed of the length
abbrev pub lines_of : Ground → End → List ℕ
lines_of program end = flat_map (trace_lines program) end.traces

abbrev pub text_of : Ground → ℕ → End → List ℕ
text_of program n end = print program n end.traces end.how

abbrev pub Lists : Ground → ℕ → ℕ → Option ℕ → Result LengthEnd EngineFault → Option (List ℕ) → Option (List ℕ) → ℕ → ℕ → Type 0
Lists program n models conflicts result old new before now = Prints (text_of program n) program n models conflicts result old new before now

-- ---- clauses

-- clauses came, of which the loop clauses and the learnt ones aren't absorbed by those before them and are no more than the budget
pub record AddsFew (conflicts : Option ℕ) (old new : List Kept) : Type 0 where
  pub counted : ℕ
  pub added : Adds old new counted
  pub few : IsWithin conflicts counted

-- they are as many as the budget, and a further one is needed
pub record AddsAll (program : Ground) (n : ℕ) (conflicts : Option ℕ) (old new : List Kept) : Type 0 where
  pub budget : ℕ
  pub given : conflicts ≡ Some budget
  pub added : Adds old new budget
  pub needed : Needed (length_of (module_of program) n) (lits_of new)

-- by how the listing ended
abbrev pub Keeps : Ground → ℕ → Option ℕ → How → List Kept → List Kept → Type 0
Keeps program n conflicts hows.Complete old new = AddsFew conflicts old new
Keeps program n conflicts hows.Limit old new = AddsFew conflicts old new
Keeps program n conflicts hows.Budget old new = AddsAll program n conflicts old new
