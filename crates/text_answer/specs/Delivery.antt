-- What a call gives, and what it gives where it is cut short.
use Rattle.std.specs.Prelude.{◌≡◌, ℕ, List, Option, ◌⊎◌}
use Rattle.tel_base.specs.Bytes.{Appends, AppendsFront}
use Rattle.tel_base.specs.Counts.{Rose}
use Rattle.text_answer.specs.declared.status.Status.{Status}
use Rattle.text_answer.specs.declared.status.Status.TheVariants as statuses

-- the status as a number
abbrev pub code_of : Status → ℕ
code_of statuses.Models = 10
code_of statuses.NoModel = 20
code_of statuses.Unfinished = 30
code_of statuses.Usage = 64
code_of statuses.Refused = 65
code_of statuses.Read = 66
code_of statuses.Large = 69
code_of statuses.Memory = 71
code_of statuses.Write = 74

-- want of memory or a fault of the sink
abbrev pub IsCutShort : ℕ → Type 0
IsCutShort result = (result ≡ 71) ⊎ (result ≡ 74)

-- the status is this one and the bytes were added, or the call was cut short and a front of them was
abbrev pub Delivers : ℕ → ℕ → List ℕ → Option (List ℕ) → Option (List ℕ) → Type 0
Delivers result status bytes old new =
    ((result ≡ status) × Appends old new bytes) ⊎ (IsCutShort result × AppendsFront old new bytes)

-- the count of the sink's faults rose where the status is 74, and else it stands
pub record TellsFaults (result before now : ℕ) : Type 0 where
  pub rose : result ≡ 74 → Rose before now
  pub stands : (result ≡ 74 → ⊥) → now ≡ before
