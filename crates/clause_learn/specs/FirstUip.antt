-- The first-UIP clause of a false clause: it is resolved with the reason of its literal of the trail's level that was assigned last,
-- again and again, until one literal of that level is left (Zhang, Madigan, Moskewicz and Malik, "Efficient conflict driven learning in
-- a Boolean satisfiability solver", 2001). A clause is the set of its literals here.
use Rattle.std.specs.Prelude.{ℕ, Bool, true, false, not, ◌&&◌, ◌||◌, List, [], ◌∷◌, Option, Some, None, nat_lt, ◌==◌, if◌then◌else◌}
use Rattle.std.specs.List.{list_any}
use Rattle.tel_base.specs.declared.literals.Lit.{Lit}
use Rattle.tel_base.specs.Literals.{negate}
use Rattle.clause_store.specs.declared.store.ClauseId.{ClauseId}
use Rattle.clause_store.specs.Held.{clause_at}
use Rattle.clause_store.specs.Closure.{Clause, Lits, same_lit}
use Rattle.clause_store.specs.Counts.{has_lit}
use Rattle.lit_trail.specs.declared.assignment.Entry.{Entry}
use Rattle.lit_trail.specs.Entries.{View, level_in}

abbrev pub set_of : Clause → Lits
set_of clause lit = has_lit lit clause

-- the resolvent of a set that has the negation of the literal, and of a clause that has the literal
abbrev pub resolvent : Lits → Lit → Clause → Lits
resolvent set lit reason m = (set m && not (same_lit m (negate lit))) || (has_lit m reason && not (same_lit m lit))

-- one of these entries is of the level, and the set has its negation
abbrev pub has_more : ℕ → List Entry → Lits → Bool
has_more level entries set = list_any (λ (entry : Entry). set (negate entry.lit) && (entry.level == level)) entries

-- by the reason, where there is one and another literal of the level is left
abbrev pub by_reason : Bool → Option ClauseId → (ClauseId → Lits) → Lits → Lits
by_reason true (Some id) go stop = go id
by_reason true None go stop = stop
by_reason false reason go stop = stop

-- along the entries, the last one first
abbrev pub first_uip : List Clause → ℕ → List Entry → Lits → Lits
first_uip clauses level [] set = set
first_uip clauses level (entry ∷ older) set =
    if set (negate entry.lit) then by_reason (has_more level older set) entry.reason (λ id. first_uip clauses level older (resolvent set entry.lit (clause_at clauses id.place))) set else first_uip clauses level older set

abbrev pub is_above : Option ℕ → Bool
is_above None = false
is_above (Some level) = nat_lt 0 level

-- the first-UIP clause of a clause, without literals of level 0
abbrev pub learnt_set : List Clause → View → Clause → Lits
learnt_set clauses trail clause lit = first_uip clauses trail.level trail.entries (set_of clause) lit && is_above (level_in trail.entries lit.var)
