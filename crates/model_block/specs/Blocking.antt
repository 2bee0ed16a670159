-- Blocking clauses, by the decisions alone (Gebser, Kaufmann, Neumann and Schaub, "Conflict-driven answer set enumeration", 2007).
use Rattle.std.specs.Prelude.{ℕ, ◌&&◌, nat_lt, List, [], ◌∷◌, ◌++◌, reverse, if◌then◌else◌}
use Rattle.tel_base.specs.declared.literals.Lit.{Lit}
use Rattle.tel_base.specs.Literals.{negate, negations}
use Rattle.lit_trail.specs.declared.assignment.Entry.{Entry}
use Rattle.lit_trail.specs.Entries.{is_decided}

-- the decisions of the levels above this one, the last one first
abbrev pub decided_above : ℕ → List Entry → List Lit
decided_above level [] = []
decided_above level (entry ∷ older) =
    if is_decided entry.reason && nat_lt level entry.level then entry.lit ∷ decided_above level older else decided_above level older

-- some decision above level 1 is undone, or the length is another one
abbrev pub block_of : List Entry → Lit → List Lit
block_of entries end = negations (reverse (decided_above 1 entries)) ++ negate end ∷ []
