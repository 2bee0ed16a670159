-- The rows of bodies give the clauses of the atoms.
use Rattle.std.proofs.Common.{◌≡◌, ℕ, ◌+◌, ◌-◌, ◌<◌, true, List, [], ◌∷◌, map, get_or, refl, ap, ◌∙◌, arith}
use Rattle.std.specs.Prelude.{nat_lt, nat_le}
use Rattle.std.specs.List.{list_all}
use Rattle.std.proofs.lemmas.Bool.{and_parts, ltb-true, leb-true}
use Rattle.tel_base.specs.Literals.{lit_of}
use Rattle.normal_program.specs.declared.rules.NRule.{NRule}
use Rattle.normal_program.specs.ModuleClauses.{no_lit, bodies_with, support_clause}

pub rows_support :
    (rules : List NRule) (low width : ℕ) (rows : List (List ℕ)) (atoms : List ℕ) → ((k : ℕ) → k < width → get_or rows k [] ≡ bodies_with rules (low + k))
    → list_all (λ (atom : ℕ). nat_le low atom) atoms ≡ true → list_all (λ (atom : ℕ). nat_lt (atom - low) width) atoms ≡ true
    → map (λ (atom : ℕ). no_lit atom ∷ map lit_of (get_or rows (atom - low) [])) atoms ≡ map (support_clause rules) atoms
rows_support rules low width rows [] at least near = refl
rows_support rules low width rows (atom ∷ atoms) at least near =
    let low_parts = and_parts (nat_le low atom) (list_all (λ (a : ℕ). nat_le low a) atoms) least in
    let near_parts = and_parts (nat_lt (atom - low) width) (list_all (λ (a : ℕ). nat_lt (a - low) width) atoms) near in
    let up = leb-true low atom low_parts.0 in
    let back : low + (atom - low) ≡ atom = omega (arith, up) in
    let row : get_or rows (atom - low) [] ≡ bodies_with rules atom =
    at (atom - low) (ltb-true (atom - low) width near_parts.0) ∙ ap (bodies_with rules) back in
    λ i. (no_lit atom ∷ map lit_of (row i)) ∷ rows_support rules low width rows atoms at low_parts.1 near_parts.1 i
