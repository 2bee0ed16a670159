-- What a call that reads files says of the source's count.
use Rattle.std.specs.Prelude.{◌≡◌, ℕ, Result, Ok, Err}
use Rattle.telingo_cli.specs.declared.files.FilesFault.{FilesFault}
use Rattle.telingo_cli.specs.declared.files.FilesFault.TheVariants.{Large, Read, Memory}

-- but for a failed read the count stands
abbrev pub KeepsCount : {T : Type 0} → Result T FilesFault → ℕ → ℕ → Type 0
KeepsCount (Ok read) before now = now ≡ before
KeepsCount (Err Large) before now = now ≡ before
KeepsCount (Err (Read place)) before now = Unit {0}
KeepsCount (Err Memory) before now = now ≡ before
