-- What the walk from where a search stands comes to.
use Rattle.std.specs.Prelude.{◌≡◌, ◌<◌, Bool, true, false, List, None}
use Rattle.tel_base.specs.declared.literals.Lit.{Lit}
use Rattle.clause_store.specs.Closure.{Clause}
use Rattle.lit_trail.specs.Entries.{View}
use Rattle.lit_trail.specs.Sound.{IsClosedTrail}
use Rattle.lit_trail.specs.Unassigned.{first_open}
use Rattle.watch_propagate.specs.Propagation.{IsFalseClause}
use Rattle.search_laws.specs.Walks.{IsClosedWalk, IsStuckWalk}
use Rattle.trail_walk.specs.Ways.{IsDerived, IsOnWay}
use Rattle.cdcl_search.specs.declared.advancing.Advanced.{Advanced}
use Rattle.cdcl_search.specs.declared.advancing.Advanced.TheVariants as ends
use Rattle.cdcl_search.specs.Searches.{Begun, visible_of, ending_of, walk_length, IsUnderWay}

-- a clause is false above level 1, so the walk is stuck
pub record IsStuck (clauses : List Clause) (begun : Begun) (trail : View) : Type 0 where
  pub level : 1 < trail.level
  pub way : IsOnWay (walk_length begun) trail
  pub decisions : List Lit
  pub walk : IsStuckWalk clauses (ending_of begun) (visible_of begun) decisions
  pub derived : IsDerived clauses decisions trail.entries

-- the trail is closed and gives each visible variable a value
pub record IsTotal (clauses : List Clause) (begun : Begun) (trail : View) : Type 0 where
  pub way : IsOnWay (walk_length begun) trail
  pub closed : IsClosedTrail clauses trail.entries
  pub whole : first_open trail.entries begun.space begun.n ≡ None

-- whether the trail could be put on the way of the length
abbrev pub Starts : List Clause → Begun → View → Bool → Type 0
Starts clauses begun trail true = IsOnWay (walk_length begun) trail
Starts clauses begun trail false = IsClosedWalk clauses (ending_of begun) × IsUnderWay begun trail

abbrev pub Advances : List Clause → Begun → View → Advanced → Type 0
Advances clauses begun trail ends.Closed = IsClosedWalk clauses (ending_of begun) × IsUnderWay begun trail
Advances clauses begun trail (ends.Stuck id) = IsFalseClause clauses trail.entries id × IsStuck clauses begun trail
Advances clauses begun trail ends.Total = IsTotal clauses begun trail
