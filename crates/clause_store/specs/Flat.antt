-- Clauses that stand in one list of literals.
use Rattle.std.specs.Prelude.{ℕ, ◌+◌, ◌-◌, ◌≤◌, List, [], ◌∷◌, map, take, drop, length, IsTrue}
use Rattle.tel_base.specs.declared.literals.Lit.{Lit}
use Rattle.clause_store.specs.declared.store.Head.{Head}
use Rattle.clause_store.specs.Held.{Held, View, is_clause}

abbrev pub part_at : List Lit → Head → List Lit
part_at lits head = take head.count (drop head.start lits)

abbrev pub held_of : List Lit → Head → Held
held_of lits head = record { kind = head.kind; lits = part_at lits head }

abbrev pub clauses_of : List Lit → List Head → List Held
clauses_of lits heads = map (held_of lits) heads

-- each clause stands among the literals, and is one
abbrev pub IsFlat : ℕ → List Lit → List Head → Type 0
IsFlat vars lits [] = Unit {0}
IsFlat vars lits (head ∷ more) = (head.start + head.count ≤ length lits) × IsTrue (is_clause vars (part_at lits head)) × IsFlat vars lits more

abbrev pub view_of : List Lit → List Head → ℕ → ℕ → ℕ → View
view_of lits heads vars lit_capacity head_capacity =
    record { clauses = clauses_of lits heads; vars = vars; clause_room = head_capacity - length heads; lit_room = lit_capacity - length lits }
