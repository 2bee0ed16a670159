-- What propagation leaves.
use Rattle.std.specs.Prelude.{◌≡◌, ℕ, ◌<◌, Bool, not, ◌&&◌, List, ◌++◌, length, nat_lt, ◌==◌, IsTrue}
use Rattle.std.specs.List.{list_all}
use Rattle.tel_base.specs.declared.literals.Lit.{Lit}
use Rattle.clause_store.specs.declared.store.ClauseId.{ClauseId}
use Rattle.clause_store.specs.Held.{clause_at}
use Rattle.clause_store.specs.Closure.{In, Clause, refutes, IsSettled}
use Rattle.lit_trail.specs.declared.assignment.Entry.{Entry}
use Rattle.lit_trail.specs.Entries.{is_decided}
use Rattle.lit_trail.specs.Sound.{holds}
use Rattle.watch_propagate.specs.declared.unit_rule.Propagated.{Propagated}
use Rattle.watch_propagate.specs.declared.unit_rule.Propagated.TheVariants as outcomes

-- the variables of the clauses are below the number
abbrev pub are_below : ℕ → List Clause → Bool
are_below vars clauses = list_all (λ (clause : Clause). list_all (λ (lit : Lit). nat_lt lit.var vars) clause) clauses

-- implied literals were put on, at this level
abbrev pub Grown : ℕ → List Entry → List Entry → Type 0
Grown level old new =
    (more : List Entry) × (new ≡ more ++ old) × IsTrue (list_all (λ (entry : Entry). (entry.level == level) && not (is_decided entry.reason)) more)

-- a held clause whose literals are all false
abbrev pub IsFalseClause : List Clause → List Entry → ClauseId → Type 0
IsFalseClause clauses entries id = (id.place < length clauses) × IsTrue (refutes (holds entries) (clause_at clauses id.place))

abbrev pub OnQuiet : Propagated → Type 0 → Type 0
OnQuiet outcomes.Quiet P = P
OnQuiet (outcomes.Conflict id) P = Unit {0}

abbrev pub OnConflict : Propagated → (ClauseId → Type 0) → Type 0
OnConflict outcomes.Quiet P = Unit {0}
OnConflict (outcomes.Conflict id) P = P id

-- each clause has a true literal, or two without a value
abbrev pub AreSettled : List Clause → List Entry → Type 0
AreSettled clauses entries = (clause : Clause) → In clause clauses → IsSettled (holds entries) clause
