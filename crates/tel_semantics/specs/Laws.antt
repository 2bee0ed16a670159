-- Laws of the definitions.
use Rattle.std.specs.Prelude.{◌≡◌, ℕ, ◌<◌, false, List, [], ◌∷◌, map, length, Some, slice_get, IsTrue, IsFalse, ◌↔◌}
use Rattle.std.specs.List.{Contains, AllPairs}
use Rattle.tel_rule.specs.declared.formulas.UnaryOp.TheVariants as unary
use Rattle.tel_rule.specs.declared.nodes.Node.{Node}
use Rattle.tel_rule.specs.declared.nodes.NodeOp.TheVariants as ops
use Rattle.tel_rule.specs.declared.nodes.Kid.{Kid}
use Rattle.tel_rule.specs.declared.nodes.Kid.TheVariants as kids
use Rattle.tel_rule.specs.declared.ground.BodyItem.TheVariants as items
use Rattle.tel_rule.specs.declared.ground.Instance.{Instance}
use Rattle.tel_rule.specs.Ground.{Ground, IsGround}
use Rattle.tel_semantics.specs.Traces.{Test, test_of, IsTrace, IsBelow, Agree, Differ}
use Rattle.tel_semantics.specs.Formula.{Formula, Atom, Previous, atoms_below, negation}
use Rattle.tel_semantics.specs.NodeFormula.{op_formula, node_formula, kid_formula}
use Rattle.tel_semantics.specs.Satisfaction.{sat}
use Rattle.tel_semantics.specs.Theory.{literal_formula, theory, is_model, instance_formula, pair_formula, is_demanded}
use Rattle.tel_semantics.specs.Equilibrium.{list_of}
use Rattle.tel_semantics.specs.Order.{Precedes}

-- satisfaction looks only at instants below the length, and at the atoms of the formula
abbrev pub LooksInRange : Type 0
LooksInRange =
    (f : Formula) (n count : ℕ) (H T S U : Test) → IsTrue (atoms_below count f) → Agree n count H S → Agree n count T U → (k : ℕ) → k < n → sat f n H T k ≡ sat f n S U k

-- what (H, T) satisfies with H below T, (T, T) satisfies
abbrev pub Persists : Type 0
Persists =
    (f : Formula) (n count : ℕ) (H T : Test) → IsTrue (atoms_below count f) → IsBelow n count H T → (k : ℕ) → k < n → IsTrue (sat f n H T k) → IsTrue (sat f n T T k)

-- a negation holds in (H, T) with H below T exactly where it holds in (T, T)
abbrev pub NegationIsThere : Type 0
NegationIsThere =
    (f : Formula) (n count : ℕ) (H T : Test) → IsTrue (atoms_below count f) → IsBelow n count H T → (k : ℕ) → k < n → sat (negation f) n H T k ≡ sat (negation f) n T T k

-- a node means its operator over what its children mean
abbrev pub NodesMeanOperators : Type 0
NodesMeanOperators =
    (program : Ground) (x : ℕ) (node : Node) → IsGround program → slice_get program.nodes x ≡ Some node → node_formula program.nodes x ≡ op_formula node.op (map (kid_formula program.nodes) node.kids)

-- the node with this number is ~ of this child
abbrev pub IsNot : List Node → ℕ → Kid → Type 0
IsNot nodes x kid = slice_get nodes x ≡ Some (record { op = ops.Unary unary.Not; kids = kid ∷ [] })

-- the node with this number is < of this atom
abbrev pub IsBefore : List Node → ℕ → ℕ → Type 0
IsBefore nodes x atom = slice_get nodes x ≡ Some (record { op = ops.Unary unary.Previous; kids = kids.Atom atom ∷ [] })

-- `not x` with x the node ~f means `not not f`, for an atom f and for a node f
abbrev pub TwoNotsAreANode : Type 0
TwoNotsAreANode =
    (program : Ground) (x : ℕ) (kid : Kid) → IsGround program → IsNot program.nodes x kid
    → literal_formula program.nodes (record { positive = false; item = items.Node x }) ≡ negation (negation (kid_formula program.nodes kid))

-- `not x` with x the node ~y and y the node < a means `not not 'a`
abbrev pub TwoNotsBeforeAreNodes : Type 0
TwoNotsBeforeAreNodes =
    (program : Ground) (x y atom : ℕ) → IsGround program → IsNot program.nodes x (kids.Node y) → IsBefore program.nodes y atom
    → literal_formula program.nodes (record { positive = false; item = items.Node x }) ≡ negation (negation (Previous (Atom atom)))

-- (H, T) satisfies each instance, as body -> head, at each instant at which its part demands it, and each pair at every instant
pub record MeetsAll (program : Ground) (n : ℕ) (H T : Test) : Type 0 where
  pub instances : (instance : Instance) → Contains program.instances instance → (k : ℕ) → k < n → IsTrue (is_demanded instance.part n k) → IsTrue (sat (instance_formula program.nodes instance) n H T k)
  pub pairs : (pair : ℕ × ℕ) → Contains program.pairs pair → (k : ℕ) → k < n → IsTrue (sat (pair_formula pair) n H T k)

-- (H, T) is a model exactly where it meets all of these
abbrev pub ModelsMeetAll : Type 0
ModelsMeetAll = (program : Ground) (n : ℕ) (H T : Test) → IsTrue (is_model (theory program) n H T) ↔ MeetsAll program n H T

-- T is a trace of this length over the atoms, (T, T) is a model, and no (H, T) is one whose H, any test, is below T and differs
pub record IsEquilibrium (program : Ground) (n : ℕ) (trace : List (List ℕ)) : Type 0 where
  pub not_empty : 0 < n
  pub is_trace : IsTrace n (length program.atoms) trace
  pub total : IsTrue (is_model (theory program) n (test_of trace) (test_of trace))
  pub minimal : (H : Test) → IsBelow n (length program.atoms) H (test_of trace) → Differ n (length program.atoms) H (test_of trace) → IsFalse (is_model (theory program) n H (test_of trace))

-- the list of a length has exactly the temporal equilibrium models
abbrev pub ListsEquilibria : Type 0
ListsEquilibria =
    (program : Ground) (n : ℕ) (trace : List (List ℕ)) → IsGround program → Contains (list_of program n) trace ↔ IsEquilibrium program n trace

-- the list of a length strictly rises in the order of traces, so that each is in it once
abbrev pub ListRises : Type 0
ListRises = (program : Ground) (n : ℕ) → AllPairs Precedes (list_of program n)
