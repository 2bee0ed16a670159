use Rattle.std.proofs.Common.{◌≡◌, ◌++◌, ◌∷◌, ◌-◌, ℕ, [], map, drop, get_or}
use Rattle.tel_base.specs.Literals.{lit_of}
use Rattle.normal_program.specs.ModuleClauses.{no_lit}
use Rattle.completion.proofs.supports.add_by_rows.Given as goal

abbrev pub invariant-loop-atom : goal.invariant-loop-atom
invariant-loop-atom l =
    l.clauses.items ++ map (λ (atom : ℕ). no_lit atom ∷ map lit_of (get_or l.rows (atom - l.low) [])) (drop l.atom-index l.atoms)
    ≡ l.initial.clauses.items ++ map (λ (atom : ℕ). no_lit atom ∷ map lit_of (get_or l.rows (atom - l.low) [])) l.atoms
