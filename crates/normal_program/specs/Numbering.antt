-- Rules numbered one after another.
use Rattle.std.specs.Prelude.{ℕ, ◌+◌, Bool, false, List, [], ◌∷◌, ◌++◌, Option, Some, None, ◌==◌, if◌then◌else◌}
use Rattle.normal_program.specs.declared.rules.NRule.{NRule}

-- whether a head is this variable
abbrev pub head_is : ℕ → Option ℕ → Bool
head_is var None = false
head_is var (Some head) = head == var

-- the number of a rule, where its head is this variable
abbrev pub id_at : ℕ → ℕ → Option ℕ → List ℕ
id_at id var head = if head_is var head then id ∷ [] else []

-- the numbers of the rules with this head, where these are numbered from the first one on
abbrev pub ids_from : ℕ → ℕ → List NRule → List ℕ
ids_from first var [] = []
ids_from first var (rule ∷ more) = id_at first var rule.head ++ ids_from (first + 1) var more
