-- The variables of a state, but for those of bodies.
use Rattle.std.proofs.Common.{◌≡◌, ℕ, ◌+◌, ◌-◌, ◌*◌, ◌%◌, ◌<◌, ◌≤◌, Bool, true, false, ◌||◌, List, length, refl, sym, ap, subst, ◌∙◌, ◌⊎◌, inl, inr, ⊎_elim, arith}
use Rattle.std.specs.Prelude.{nat_lt, ◌==◌}
use Rattle.std.specs.List.{range_with_len}
use Rattle.std.proofs.lemmas.Bool.{or_cases, ltb-true, ltb-false, eqb-true, eq-eqb, cases_Bool}
use Rattle.std.proofs.lemmas.Nat.{mod-mul-add}
use Rattle.tel_base.proofs.Members.{In, In-map, In-filter, any_from}
use Rattle.tel_rule.specs.Ground.{Ground}
use Rattle.normal_program.specs.declared.shapes.NodeRule.{NodeRule}
use Rattle.atom_space.specs.Numbers.{width, visible, part, end_at}
use Rattle.horizon_external.specs.Occurring.{module_vars, occurs}
use Rattle.formula_unfold.specs.Nodes.{counts_of, node_at}
use Rattle.step_module.specs.Modules.{stated, module_of}
use Rattle.completion.specs.Completions.{IsHead}
use Rattle.completion.proofs.Ranges.{range_from}
use Rattle.stable_models.specs.Values.{is_plain}
use Rattle.stable_models.proofs.PlainShapes.{IsUpTo}
use Rattle.stable_models.proofs.SettledModules.{at_atom}

-- the variable is of an atom, of the end or of a node of this state
abbrev pub IsAtState : Ground → ℕ → ℕ → Type 0
IsAtState program k v =
    ((a : ℕ) × (a < length program.atoms) × (visible (counts_of program) a k ≡ v))
    ⊎ ((end_at (counts_of program) k ≡ v) ⊎ ((y : ℕ) × (y < length program.nodes) × (part (counts_of program) y k ≡ v)))

pub of_up_to : (program : Ground) (last v : ℕ) → IsUpTo program last v → (k : ℕ) × (k ≤ last) × IsAtState program k v
of_up_to program last v up =
    ⊎_elim
    (λ a. (a.0, a.2, inl (a.1, a.3, a.4)))
    (λ r. ⊎_elim (λ e. (e.0, e.1, inr (inl e.2))) (λ b. (b.0, b.2, inr (inr (b.1, b.3, b.4)))) r)
    up

-- its place in the state
pub place_at : (program : Ground) (k v : ℕ) → IsAtState program k v → (place : ℕ) × (place < width (counts_of program)) × (k * width (counts_of program) + place ≡ v)
place_at program k v at =
    ⊎_elim
    (λ a. let l = a.1 in (a.0, omega (arith, l), a.2))
    (λ r. ⊎_elim
    (λ e. (length program.atoms + length program.nodes + length program.instances, omega arith, e))
    (λ b. let l = b.1 in (length program.atoms + b.0, omega (arith, l), b.2))
    r)
    at

-- a plain variable is one of them
pub plain_state : (program : Ground) (k place : ℕ) → place < width (counts_of program) → is_plain program (k * width (counts_of program) + place) ≡ true → IsAtState program k (k * width (counts_of program) + place)
plain_state program k place within h =
    let w = width (counts_of program) in
    let atoms = length program.atoms in
    let nodes = length program.nodes in
    let last = atoms + nodes + length program.instances in
    let m = mod-mul-add k w place within in
    let here : (nat_lt place (atoms + nodes) || (place == last)) ≡ true = sym (λ i. nat_lt (m i) (atoms + nodes) || (m i == last)) ∙ h in
    ⊎_elim
    (λ low. ⊎_elim
    (λ (t : nat_lt place atoms ≡ true). inl (place, ltb-true place atoms t, refl))
    (λ (t : nat_lt place atoms ≡ false).
    let l = ltb-true place (atoms + nodes) low in
    let u = ltb-false place atoms t in
    inr (inr (place - atoms, omega (arith, l, u), ap (λ (p : ℕ). k * w + p) (omega (arith, u)))))
    (cases_Bool (nat_lt place atoms)))
    (λ same. inr (inl (ap (λ (p : ℕ). k * w + p) (sym (eqb-true place last same)))))
    (or_cases (nat_lt place (atoms + nodes)) (place == last) here)

-- ---- heads and open variables

pub node_in : (program : Ground) (t x : ℕ) → x < length program.nodes → In (node_at program t x) (module_of program t).nodes
node_in program t x l = In-map (node_at program t) x (range_with_len 0 (length program.nodes)) (range_from (length program.nodes) 0 x (omega arith) (omega (arith, l)))

-- an atom or a node is a head of its state
pub head_or_end : (program : Ground) (k v : ℕ) → IsAtState program k v → IsHead (module_of program k) v ⊎ (end_at (counts_of program) k ≡ v)
head_or_end program k v at =
    ⊎_elim
    (λ a. inl (inl (subst (λ (u : ℕ). In u (module_of program k).atoms) a.2 (at_atom program k a.0 a.1))))
    (λ r. ⊎_elim (λ e. inr e) (λ b. inl (inr (node_at program k b.0, node_in program k b.0 b.1, b.2))) r)
    at

within_row : (low w place : ℕ) → place < w → (low ≤ low + place) × (low + place < low + w)
within_row low w place l = (omega arith, omega (arith, l))

-- what a module says of the next state is open
pub open_next : (program : Ground) (t place : ℕ) → place < width (counts_of program) → In ((t + 1) * width (counts_of program) + place) (module_vars (stated program t)) → In ((t + 1) * width (counts_of program) + place) (module_of program t).open_vars
open_next program t place l i =
    let w = width (counts_of program) in
    let low = (t + 1) * w in
    let v = low + place in
    let vars = module_vars (stated program t) in
    let r = within_row low w place l in
    In-filter (λ (u : ℕ). occurs u vars) v (range_with_len low w) (range_from w low v r.0 r.1) (any_from (λ (other : ℕ). other == v) vars v i (eq-eqb v v refl))
