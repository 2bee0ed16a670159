-- What a call that writes lines has done.
use Rattle.std.specs.Prelude.{◌≡◌, ℕ, List, Option, Result, Ok, Err, OnOk, OnErr, IsTrue}
use Rattle.std.specs.List.{flat_map}
use Rattle.tel_base.specs.Bytes.{Appends, AppendsFront}
use Rattle.tel_base.specs.Counts.{Rose}
use Rattle.clause_store.specs.Held.{is_clause}
use Rattle.clause_store.specs.Closure.{Clause}
use Rattle.normal_program.specs.Grounds.{Layers}
use Rattle.search_laws.specs.Origins.{Kept}
use Rattle.proof_log.specs.declared.line.Line.{Line}
use Rattle.proof_log.specs.Lines.{line_text}
use Rattle.search_log.specs.declared.fault.ListFault.{ListFault}
use Rattle.search_log.specs.declared.fault.ListFault.TheVariants.{Write, Memory}
use Rattle.search_log.specs.Held.{IsLineOf}

-- the bytes of lines
abbrev pub log_text : List Line → List ℕ
log_text log = flat_map line_text log

-- what the count of faults of the sink says: it rose where a write failed, and else stands
abbrev pub CountsFaults : {T : Type 0} → Result T ListFault → ℕ → ℕ → Type 0
CountsFaults (Ok done) before now = now ≡ before
CountsFaults (Err Write) before now = Rose before now
CountsFaults (Err Memory) before now = now ≡ before

-- the text was added to the sink; or a front of it was, with a fault where it is the sink's
pub record WritesText {T : Type 0} (result : Result T ListFault) (text : List ℕ) (old new : Option (List ℕ)) (before now : ℕ) : Type 0 where
  pub ok : OnOk result (Appends old new text)
  pub err : OnErr result (AppendsFront old new text)
  pub faults : CountsFaults result before now

-- literals of different variables
abbrev pub AreDistinct : Clause → Type 0
AreDistinct clause = (vars : ℕ) × IsTrue (is_clause vars clause)
