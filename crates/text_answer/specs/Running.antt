-- What a call that runs a template has printed.
use Rattle.std.specs.Prelude.{◌≡◌, ℕ, List, Option, Result, Ok, Err}
use Rattle.tel_base.specs.Bytes.{Appends, AppendsFront}
use Rattle.tel_base.specs.Counts.{Rose}
use Rattle.tel_rule.specs.Ground.{Ground}
use Rattle.tel_semantics.specs.Equilibrium.{list_of}
use Rattle.tel_settings.specs.declared.fields.Settings.{Settings}
use Rattle.tel_engine.specs.declared.ends.LengthEnd.{LengthEnd}
use Rattle.tel_engine.specs.Ends.{End, IsEnd, most_counted}
use Rattle.tel_engine.specs.Lists.{PrintsWhole, PrintsFront, text_of}
use Rattle.text_answer.specs.declared.running.RunFault.{RunFault}
use Rattle.text_answer.specs.declared.running.RunFault.TheVariants.{Write, Memory}
use Rattle.text_answer.specs.declared.status.Status.{Status}
use Rattle.text_answer.specs.Delivery.{code_of}
use Rattle.text_answer.specs.Runs.{Runs}

-- an end of length n
abbrev pub IsTemplateEnd : Settings → Ground → ℕ → End → Type 0
IsTemplateEnd settings template n end = IsEnd (list_of template n) settings.models settings.conflicts (most_counted template n) end

-- `D` holds of the status of some run and of what it prints
abbrev pub RunsTemplate : Settings → Ground → (ℕ → List ℕ → Type 0) → Type 0
RunsTemplate settings template D = Runs (IsTemplateEnd settings template) (text_of template) settings D

-- What was added to the sink for length n and what its count of faults says: the text of an end and no fault; or a front of one, and a fault where
-- it is the sink's.
abbrev pub PrintsLength : Settings → Ground → ℕ → Result LengthEnd RunFault → Option (List ℕ) → Option (List ℕ) → ℕ → ℕ → Type 0
PrintsLength settings template n (Ok answer) old new before now = PrintsWhole (text_of template n) template n settings.models settings.conflicts answer old new × (now ≡ before)
PrintsLength settings template n (Err Write) old new before now = PrintsFront (text_of template n) template n settings.models settings.conflicts old new × Rose before now
PrintsLength settings template n (Err Memory) old new before now = PrintsFront (text_of template n) template n settings.models settings.conflicts old new × (now ≡ before)

-- The same for a whole run, whose status is answered.
abbrev pub PrintsRun : Settings → Ground → Result Status RunFault → Option (List ℕ) → Option (List ℕ) → ℕ → ℕ → Type 0
PrintsRun settings template (Ok status) old new before now = RunsTemplate settings template (λ code bytes. (code_of status ≡ code) × Appends old new bytes) × (now ≡ before)
PrintsRun settings template (Err Write) old new before now = RunsTemplate settings template (λ code bytes. AppendsFront old new bytes) × Rose before now
PrintsRun settings template (Err Memory) old new before now = RunsTemplate settings template (λ code bytes. AppendsFront old new bytes) × (now ≡ before)
