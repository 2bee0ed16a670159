-- A store and a trail that are sound together.
use Rattle.std.specs.Prelude.{◌≡◌, ℕ, ◌≤◌, Bool, Option, Some, None, IsTrue}
use Rattle.clause_store.specs.declared.store.ClauseId.{ClauseId}
use Rattle.clause_store.specs.Held.{View as Held_view, clauses_in}
use Rattle.lit_trail.specs.Entries.{View}
use Rattle.lit_trail.specs.Sound.{IsClosedTrail, IsSound}
use Rattle.watch_propagate.specs.Propagation.{are_below, IsFalseClause}

abbrev pub AtConflict : Held_view → View → Option ClauseId → Type 0
AtConflict store trail None = Unit {0}
AtConflict store trail (Some id) = IsFalseClause (clauses_in store.clauses) trail.entries id

pub record IsSession (store : Held_view) (trail : View) (room : ℕ) (quiet : Bool) (conflict : Option ClauseId) : Type 0 where
  pub same : store.vars ≡ trail.vars
  pub grown : trail.vars ≤ room
  pub below : IsTrue (are_below trail.vars (clauses_in store.clauses))
  pub sound : IsSound (clauses_in store.clauses) trail
  pub closed : IsTrue quiet → IsClosedTrail (clauses_in store.clauses) trail.entries
  pub at_conflict : AtConflict store trail conflict
