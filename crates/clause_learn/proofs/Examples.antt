-- Worked rows of the first-UIP clause.
use Rattle.std.proofs.Common.{◌≡◌, ℕ, true, false, List, [], ◌∷◌, refl}
use Rattle.std.specs.Prelude.{Option, Some, None}
use Rattle.tel_base.specs.declared.literals.Lit.{Lit}
use Rattle.clause_store.specs.declared.store.ClauseId.{ClauseId}
use Rattle.clause_store.specs.Closure.{Clause}
use Rattle.lit_trail.specs.declared.assignment.Entry.{Entry}
use Rattle.lit_trail.specs.Entries.{View}
use Rattle.clause_learn.specs.FirstUip.{learnt_set}
use Rattle.clause_learn.specs.LearntClause.{highest}

abbrev is : ℕ → Lit
is var = record { var = var; positive = true }

abbrev isnt : ℕ → Lit
isnt var = record { var = var; positive = false }

abbrev by : ℕ → Option ClauseId
by place = Some (record { place = place })

abbrev put : ℕ → ℕ → Option ClauseId → Entry
put var level reason = record { lit = is var; level = level; reason = reason }

-- 3 follows from 2, and with 0 and 1 the literals 4 and 5, which exclude each other
abbrev clauses : List Clause
clauses = (isnt 2 ∷ is 3 ∷ []) ∷ (isnt 3 ∷ isnt 0 ∷ is 4 ∷ []) ∷ (isnt 3 ∷ isnt 1 ∷ is 5 ∷ []) ∷ (isnt 4 ∷ isnt 5 ∷ []) ∷ []

-- 0, 1 and 2 were decided
abbrev trail : View
trail = record { level = 3; entries = put 5 3 (by 2) ∷ put 4 3 (by 1) ∷ put 3 3 (by 0) ∷ put 2 3 None ∷ put 1 2 None ∷ put 0 1 None ∷ []; vars = 6 }

-- the first UIP is 3, and no decision
uip : learnt_set clauses trail (isnt 4 ∷ isnt 5 ∷ []) (isnt 3) ≡ true
uip = refl

lower : learnt_set clauses trail (isnt 4 ∷ isnt 5 ∷ []) (isnt 1) ≡ true
lower = refl

lowest : learnt_set clauses trail (isnt 4 ∷ isnt 5 ∷ []) (isnt 0) ≡ true
lowest = refl

resolved_away : learnt_set clauses trail (isnt 4 ∷ isnt 5 ∷ []) (isnt 4) ≡ false
resolved_away = refl

not_the_decision : learnt_set clauses trail (isnt 4 ∷ isnt 5 ∷ []) (isnt 2) ≡ false
not_the_decision = refl

back_to_2 : highest trail.entries (isnt 1 ∷ isnt 0 ∷ []) ≡ 2
back_to_2 = refl

-- the same with 1 at level 0, which is dropped
abbrev grounded : View
grounded = record { level = 2; entries = put 5 2 (by 2) ∷ put 4 2 (by 1) ∷ put 3 2 (by 0) ∷ put 2 2 None ∷ put 0 1 None ∷ put 1 0 (by 4) ∷ []; vars = 6 }

dropped : learnt_set clauses grounded (isnt 4 ∷ isnt 5 ∷ []) (isnt 1) ≡ false
dropped = refl

kept : learnt_set clauses grounded (isnt 4 ∷ isnt 5 ∷ []) (isnt 3) ≡ true
kept = refl
