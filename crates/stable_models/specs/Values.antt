-- The values that the variables have in an HT-trace.
use Rattle.std.specs.Prelude.{ℕ, ◌+◌, ◌-◌, ◌/◌, ◌%◌, Bool, false, ◌&&◌, ◌||◌, List, map, length, Option, Some, None, nat_lt, nat_le, ◌==◌, slice_get, if◌then◌else◌}
use Rattle.std.specs.List.{filter, range_with_len}
use Rattle.tel_rule.specs.declared.ground.Instance.{Instance}
use Rattle.tel_rule.specs.Ground.{Ground}
use Rattle.tel_semantics.specs.Traces.{Test}
use Rattle.tel_semantics.specs.NodeFormula.{node_formula}
use Rattle.tel_semantics.specs.Satisfaction.{sat}
use Rattle.atom_space.specs.Numbers.{width, visible}
use Rattle.normal_program.specs.StableSets.{Set, lits_hold}
use Rattle.formula_unfold.specs.Nodes.{counts_of}
use Rattle.step_module.specs.Bodies.{stands, body_lits}

-- the value of the variable at this place of the state t: an atom's in H, a node's in (H, T), that of the end; a body's variable has none
abbrev pub place_value : Ground → ℕ → Test → Test → ℕ → ℕ → Bool
place_value program n H T t place =
    if nat_lt place (length program.atoms) then H t place
    else if nat_lt place (length program.atoms + length program.nodes) then sat (node_formula program.nodes (place - length program.atoms)) n H T t
    else (place == length program.atoms + length program.nodes + length program.instances) && (t + 1 == n)

-- the set of the atoms, nodes and ends that are true in (H, T); what is of no state below n is false
abbrev pub full : Ground → ℕ → Test → Test → Set
full program n H T v =
    let w = width (counts_of program) in
    nat_lt (v / w) n && place_value program n H T (v / w) (v % w)

-- whether the body of an instance holds in S at the state t, where it stands there
abbrev pub body_value : Ground → Set → ℕ → Option Instance → Bool
body_value program S t None = false
body_value program S t (Some instance) = stands t instance && lits_hold S S (body_lits (counts_of program) t instance)

-- the set of the trace T, and the variables of the bodies that stand and hold in it
abbrev pub full_with_bodies : Ground → ℕ → Test → Set
full_with_bodies program n T v =
    let w = width (counts_of program) in
    let first = length program.atoms + length program.nodes in
    full program n T T v || (nat_lt (v / w) n && (nat_le first (v % w) && body_value program (full program n T T) (v / w) (slice_get program.instances (v % w - first))))

-- whether a variable is of an atom, a node or an end; the others stand for bodies
abbrev pub is_plain : Ground → Set
is_plain program v =
    let place = v % width (counts_of program) in
    nat_lt place (length program.atoms + length program.nodes) || (place == length program.atoms + length program.nodes + length program.instances)

-- the trace of length n of the atoms that are true in a set
abbrev pub read_trace : Ground → ℕ → Set → List (List ℕ)
read_trace program n S = map (λ (k : ℕ). filter (λ (a : ℕ). S (visible (counts_of program) a k)) (range_with_len 0 (length program.atoms))) (range_with_len 0 n)
