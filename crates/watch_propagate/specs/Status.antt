-- What a clause is under a trail, by its literals in order.
use Rattle.std.specs.Prelude.{Bool, true, false, List, [], ◌∷◌, Option, Some, None}
use Rattle.tel_base.specs.declared.literals.Lit.{Lit}
use Rattle.lit_trail.specs.declared.assignment.Entry.{Entry}
use Rattle.lit_trail.specs.Entries.{value_in}
use Rattle.watch_propagate.specs.declared.examining.Examined.{Examined}
use Rattle.watch_propagate.specs.declared.examining.Examined.TheVariants as found

-- by the value of a literal, where an earlier one without a value was seen or not
abbrev pub status_at : Option Bool → Option Lit → Examined → Examined → Examined
status_at (Some true) left skip take = found.Settled
status_at (Some false) left skip take = skip
status_at None None skip take = take
status_at None (Some lit) skip take = found.Settled

abbrev pub status_end : Option Lit → Examined
status_end None = found.False
status_end (Some lit) = found.Unit lit

abbrev pub status : List Entry → List Lit → Option Lit → Examined
status entries [] left = status_end left
status entries (lit ∷ more) left = status_at (value_in entries lit) left (status entries more left) (status entries more (Some lit))
