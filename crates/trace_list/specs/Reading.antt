-- The trace of a trail.
use Rattle.std.specs.Prelude.{◌≡◌, ℕ, ◌<◌, List, map}
use Rattle.std.specs.List.{filter, range_with_len, Contains}
use Rattle.tel_base.specs.declared.literals.Lit.{Lit}
use Rattle.tel_base.specs.Literals.{lit_of}
use Rattle.tel_rule.specs.Ground.{Ground, IsGround}
use Rattle.tel_semantics.specs.Equilibrium.{list_of}
use Rattle.atom_space.specs.Numbers.{Counts, visible}
use Rattle.clause_store.specs.Closure.{Clause}
use Rattle.lit_trail.specs.declared.assignment.Entry.{Entry}
use Rattle.lit_trail.specs.Sound.{holds}
use Rattle.formula_unfold.specs.Nodes.{counts_of}
use Rattle.step_module.specs.Modules.{module_of}
use Rattle.stable_models.specs.Laws.{full_of}
use Rattle.search_laws.specs.Lengths.{length_of}
use Rattle.search_laws.specs.Needed.{IsFound}
use Rattle.search_laws.specs.Founded.{true_set}

-- the atoms that are true at a state, rising
abbrev pub state_of : List Entry → Counts → ℕ → List ℕ
state_of entries counts k = filter (λ (a : ℕ). holds entries (lit_of (visible counts a k))) (range_with_len 0 counts.atoms)

-- the states below n
abbrev pub trace_of : List Entry → Counts → ℕ → List (List ℕ)
trace_of entries counts n = map (state_of entries counts) (range_with_len 0 n)

-- where the walk is found, the trace of its trail is a temporal equilibrium model of the length, whose set are the true variables
abbrev pub FoundAreModels : Type 0
FoundAreModels =
    (program : Ground) (n : ℕ) (clauses : List Clause) (decisions : List Lit) (entries : List Entry) → IsGround program → 0 < n
    → IsFound (length_of (module_of program) n) clauses decisions (true_set (length_of (module_of program) n) entries)
    → Contains (list_of program n) (trace_of entries (counts_of program) n)
    × ((v : ℕ) → true_set (length_of (module_of program) n) entries v ≡ full_of program n (trace_of entries (counts_of program) n) v)
