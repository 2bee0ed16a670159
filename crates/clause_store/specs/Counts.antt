-- How many further clauses there can be of which none is absorbed by those before it.
use Rattle.std.specs.Prelude.{ℕ, zero, suc, Bool, ◌+◌, ◌*◌, ◌^◌, ◌<◌, List, map, ◌==◌, if◌then◌else◌}
use Rattle.std.specs.List.{list_any}
use Rattle.tel_base.specs.declared.literals.Lit.{Lit}
use Rattle.tel_base.specs.Literals.{lit_of, negate}
use Rattle.clause_store.specs.Closure.{In, Clause, same_lit}

abbrev pub has_lit : Lit → Clause → Bool
has_lit lit clause = list_any (same_lit lit) clause

-- how a variable stands in a clause: itself, negated, or not at all
abbrev pub digit : ℕ → Clause → ℕ
digit v clause = if has_lit (lit_of v) clause then 1 else (if has_lit (negate (lit_of v)) clause then 2 else 0)

-- the clause as a number to the base 3, with a digit for each variable below v
abbrev pub code : ℕ → Clause → ℕ
code zero clause = 0
code (suc v) clause = 3 * code v clause + digit v clause

-- how many numbers below the bound aren't in the list
abbrev pub unused : List ℕ → ℕ → ℕ
unused codes zero = 0
unused codes (suc k) = unused codes k + (if list_any (λ c. c == k) codes then 0 else 1)

-- how many clauses over the variables below v differ from all of these
abbrev pub left_over : ℕ → List Clause → ℕ
left_over v clauses = unused (map (code v) clauses) (3 ^ v)

-- its variables are below v, and it holds no literal with its negation
pub record IsBelow (v : ℕ) (clause : Clause) : Type 0 where
  pub below : (lit : Lit) → In lit clause → lit.var < v
  pub apart : (lit : Lit) → In lit clause → In (negate lit) clause → ⊥
