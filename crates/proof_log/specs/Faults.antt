-- What an answer of the reader says.
use Rattle.std.specs.Prelude.{◌≡◌, ℕ, Result, IfOk, IfErr}
use Rattle.proof_log.specs.declared.line.Line.{Line}
use Rattle.proof_log.specs.declared.line.LogFault.{LogFault}
use Rattle.proof_log.specs.declared.line.LogFault.TheVariants as faults

-- what is said of the place of a fault, unless it is want of memory
abbrev pub OnSyntax : LogFault → (ℕ → Type 0) → Type 0
OnSyntax (faults.Syntax place) Says = Says place
OnSyntax faults.Memory Says = Unit {0}

-- this line was read up to this place, unless memory was wanting
abbrev pub IsRead : Line → ℕ → Result (Line × ℕ) LogFault → Type 0
IsRead line after result = IfOk result (λ found. (found.0 ≡ line) × (found.1 ≡ after)) × IfErr result (λ fault. fault ≡ faults.Memory)
