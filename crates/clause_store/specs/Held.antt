-- What contracts see of a store: its clauses with their kinds, the reserved number of variables, and its room.
use Rattle.std.specs.Prelude.{ℕ, Bool, true, not, ◌&&◌, List, [], ◌∷◌, map, slice_index_or, length, nat_lt, ◌==◌}
use Rattle.std.specs.List.{list_all}
use Rattle.tel_base.specs.declared.literals.Lit.{Lit}
use Rattle.clause_store.specs.declared.store.ClauseKind.{ClauseKind}
use Rattle.clause_store.specs.declared.store.ClauseKind.TheVariants as kinds

-- a clause with its kind
pub record Held : Type 0 where
  pub kind : ClauseKind
  pub lits : List Lit

pub record View : Type 0 where
  pub clauses : List Held
  pub vars : ℕ
  pub clause_room : ℕ
  pub lit_room : ℕ

-- the clause with this number
abbrev pub held_at : List Held → ℕ → Held
held_at clauses place = slice_index_or clauses place (record { kind = kinds.Module; lits = [] })

-- the clauses alone
abbrev pub clauses_in : List Held → List (List Lit)
clauses_in held = map (λ (clause : Held). clause.lits) held

-- that with this number
abbrev pub clause_at : List (List Lit) → ℕ → List Lit
clause_at clauses place = slice_index_or clauses place []

-- no literal has this variable
abbrev pub lacks : ℕ → List Lit → Bool
lacks var lits = list_all (λ (lit : Lit). not (lit.var == var)) lits

-- the literals have different variables below the number
abbrev pub are_distinct : ℕ → List Lit → Bool
are_distinct vars [] = true
are_distinct vars (lit ∷ more) = nat_lt lit.var vars && (lacks lit.var more && are_distinct vars more)

-- at least one literal, with different variables below the number
abbrev pub is_clause : ℕ → List Lit → Bool
is_clause vars lits = nat_lt 0 (length lits) && are_distinct vars lits
