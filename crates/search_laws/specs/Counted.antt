-- How many of the held clauses were not absorbed by those before them.
use Rattle.std.specs.Prelude.{◌≡◌, ℕ, suc, ◌^◌, ◌≤◌, List, [], ◌∷◌, ◌++◌}
use Rattle.tel_base.specs.Members.{In}
use Rattle.clause_store.specs.Closure.{Absorbed}
use Rattle.clause_store.specs.Counts.{IsBelow}
use Rattle.search_laws.specs.Origins.{Kept, lits_of}

-- this many clauses of the list, each not absorbed by all clauses before it; others may be left out
pub data Counted : List Kept → ℕ → Type 0 where
  none : (held : List Kept) (count : ℕ) → held ≡ [] → count ≡ 0 → Counted held count
  passed : (held before : List Kept) (one : Kept) (count : ℕ) → held ≡ before ++ one ∷ [] → Counted before count → Counted held count
  counted : (held before : List Kept) (one : Kept) (count less : ℕ) → held ≡ before ++ one ∷ [] → count ≡ suc less → Counted before less → (Absorbed (lits_of before) one.lits → ⊥) → Counted held count

-- over v variables there are at most 3 ^ v
abbrev pub AtMostCounted : Type 0
AtMostCounted = (v : ℕ) (held : List Kept) (count : ℕ) → ((one : Kept) → In one held → IsBelow v one.lits) → Counted held count → count ≤ 3 ^ v
