-- Small programs: their temporal equilibrium models at the lengths 1 to 3, and the variables that are true in the stable set of a model, worked out by
-- hand.
use Rattle.std.proofs.Common.{◌≡◌, ℕ, ◌*◌, true, false, List, [], ◌∷◌, map, refl}
use Rattle.std.specs.List.{filter, range_with_len}
use Rattle.tel_rule.specs.declared.formulas.ConstOp.TheVariants as constants
use Rattle.tel_rule.specs.declared.formulas.UnaryOp.TheVariants as unary
use Rattle.tel_rule.specs.declared.formulas.BinaryOp.TheVariants as binary
use Rattle.tel_rule.specs.declared.parts.Part.{Part}
use Rattle.tel_rule.specs.declared.parts.Part.TheVariants as parts
use Rattle.tel_rule.specs.declared.nodes.NodeOp.TheVariants as ops
use Rattle.tel_rule.specs.declared.nodes.Kid.TheVariants as kids
use Rattle.tel_rule.specs.declared.nodes.Node.{Node}
use Rattle.tel_rule.specs.declared.ground.GroundAtom.{GroundAtom}
use Rattle.tel_rule.specs.declared.ground.GroundHead.{GroundHead}
use Rattle.tel_rule.specs.declared.ground.GroundHead.TheVariants as heads
use Rattle.tel_rule.specs.declared.ground.BodyLit.{BodyLit}
use Rattle.tel_rule.specs.declared.ground.BodyItem.TheVariants as items
use Rattle.tel_rule.specs.declared.ground.Instance.{Instance}
use Rattle.tel_rule.specs.declared.ground.Show.TheVariants as shows
use Rattle.tel_rule.specs.Ground.{Ground}
use Rattle.tel_semantics.specs.NodeFormula.{node_formula}
use Rattle.tel_semantics.specs.Equilibrium.{list_of}
use Rattle.atom_space.specs.Numbers.{width}
use Rattle.formula_unfold.specs.Nodes.{counts_of}
use Rattle.stable_models.specs.Laws.{full_of}

abbrev pub atom : ℕ → GroundAtom
atom name = record { negative = false; name = name; args = [] }

abbrev pub program : List GroundAtom → List (ℕ × ℕ) → List Node → List Instance → Ground
program atoms pairs nodes instances = record { symbols = []; atoms = atoms; pairs = pairs; nodes = nodes; instances = instances; show = shows.All }

abbrev pub instance : Part → GroundHead → List BodyLit → Instance
instance part head body = record { statement = 0; part = part; head = head; body = body }

abbrev now : ℕ → BodyLit
now a = record { positive = true; item = items.Atom a }

abbrev no_now : ℕ → BodyLit
no_now a = record { positive = false; item = items.Atom a }

abbrev before : ℕ → BodyLit
before a = record { positive = true; item = items.Before a }

abbrev holds : ℕ → BodyLit
holds x = record { positive = true; item = items.Node x }

abbrev fails : ℕ → BodyLit
fails x = record { positive = false; item = items.Node x }

-- the true variables of the set of each model of a length
abbrev pub sets_of : Ground → ℕ → List (List ℕ)
sets_of p n = map (λ (trace : List (List ℕ)). filter (full_of p n trace) (range_with_len 0 ((n) * width (counts_of p)))) (list_of p n)

-- ---- a positive loop through two states: p :- &tel { >? q }. #program dynamic. q :- 'p.

abbrev pub loop : Ground
loop =
    program (atom 0 ∷ atom 1 ∷ []) [] (record { op = ops.Unary unary.OnceAfter; kids = kids.Atom 1 ∷ [] } ∷ [])
    (instance parts.Always (heads.Normal 0 false) (holds 0 ∷ []) ∷ instance parts.Dynamic (heads.Normal 1 false) (before 0 ∷ []) ∷ [])

loop-1 : sets_of loop 1 ≡ (5 ∷ []) ∷ []
unfolding node_formula
loop-1 = refl

loop-2 : sets_of loop 2 ≡ (11 ∷ []) ∷ []
unfolding node_formula
loop-2 = refl

loop-3 : sets_of loop 3 ≡ (17 ∷ []) ∷ []
unfolding node_formula
loop-3 = refl

-- ---- a choice: {a}. at the first state

abbrev choice : Ground
choice = program (atom 0 ∷ []) [] [] (instance parts.Initial (heads.Choice 0 false) [] ∷ [])

choice-1 : sets_of choice 1 ≡ (2 ∷ []) ∷ (0 ∷ 2 ∷ []) ∷ []
choice-1 = refl

choice-2 : sets_of choice 2 ≡ (5 ∷ []) ∷ (0 ∷ 5 ∷ []) ∷ []
choice-2 = refl

choice-3 : sets_of choice 3 ≡ (8 ∷ []) ∷ (0 ∷ 8 ∷ []) ∷ []
choice-3 = refl

-- ---- a primed head: {a}. b' :- a. at the first state, which at length 1 forbids a

abbrev primed : Ground
primed = program (atom 0 ∷ atom 1 ∷ []) [] [] (instance parts.Initial (heads.Choice 0 false) [] ∷ instance parts.Initial (heads.Normal 1 true) (now 0 ∷ []) ∷ [])

primed-1 : sets_of primed 1 ≡ (4 ∷ []) ∷ []
primed-1 = refl

primed-2 : sets_of primed 2 ≡ (9 ∷ []) ∷ (0 ∷ 6 ∷ 9 ∷ []) ∷ []
primed-2 = refl

primed-3 : sets_of primed 3 ≡ (14 ∷ []) ∷ (0 ∷ 6 ∷ 14 ∷ []) ∷ []
primed-3 = refl

-- ---- a primed choice: {a'}. at every state, which at the last one says nothing

abbrev primed_choice : Ground
primed_choice = program (atom 0 ∷ []) [] [] (instance parts.Always (heads.Choice 0 true) [] ∷ [])

primed_choice-1 : sets_of primed_choice 1 ≡ (2 ∷ []) ∷ []
primed_choice-1 = refl

primed_choice-2 : sets_of primed_choice 2 ≡ (5 ∷ []) ∷ (3 ∷ 5 ∷ []) ∷ []
primed_choice-2 = refl

primed_choice-3 : sets_of primed_choice 3 ≡ (8 ∷ []) ∷ (6 ∷ 8 ∷ []) ∷ (3 ∷ 8 ∷ []) ∷ (3 ∷ 6 ∷ 8 ∷ []) ∷ []
primed_choice-3 = refl

-- ---- a final part: {a}. at every state, and :- not a. at the last one

abbrev final : Ground
final = program (atom 0 ∷ []) [] [] (instance parts.Always (heads.Choice 0 false) [] ∷ instance parts.Final heads.None (no_now 0 ∷ []) ∷ [])

final-1 : sets_of final 1 ≡ (0 ∷ 3 ∷ []) ∷ []
final-1 = refl

final-2 : sets_of final 2 ≡ (4 ∷ 7 ∷ []) ∷ (0 ∷ 4 ∷ 7 ∷ []) ∷ []
final-2 = refl

final-3 : sets_of final 3 ≡ (8 ∷ 11 ∷ []) ∷ (4 ∷ 8 ∷ 11 ∷ []) ∷ (0 ∷ 8 ∷ 11 ∷ []) ∷ (0 ∷ 4 ∷ 8 ∷ 11 ∷ []) ∷ []
final-3 = refl

-- ---- two negations: a :- not not a. at the first state; the node is ~a

abbrev twice : Ground
twice = program (atom 0 ∷ []) [] (record { op = ops.Unary unary.Not; kids = kids.Atom 0 ∷ [] } ∷ []) (instance parts.Initial (heads.Normal 0 false) (fails 0 ∷ []) ∷ [])

twice-1 : sets_of twice 1 ≡ (1 ∷ 3 ∷ []) ∷ (0 ∷ 3 ∷ []) ∷ []
unfolding node_formula
twice-1 = refl

twice-2 : sets_of twice 2 ≡ (1 ∷ 5 ∷ 7 ∷ []) ∷ (0 ∷ 5 ∷ 7 ∷ []) ∷ []
unfolding node_formula
twice-2 = refl

twice-3 : sets_of twice 3 ≡ (1 ∷ 5 ∷ 9 ∷ 11 ∷ []) ∷ (0 ∷ 5 ∷ 9 ∷ 11 ∷ []) ∷ []
unfolding node_formula
twice-3 = refl

-- ---- strong negation: {a}. {-a}. at the first state

abbrev strong : Ground
strong =
    program (atom 0 ∷ record { negative = true; name = 0; args = [] } ∷ []) ((0, 1) ∷ []) []
    (instance parts.Initial (heads.Choice 0 false) [] ∷ instance parts.Initial (heads.Choice 1 false) [] ∷ [])

strong-1 : sets_of strong 1 ≡ (4 ∷ []) ∷ (1 ∷ 4 ∷ []) ∷ (0 ∷ 4 ∷ []) ∷ []
strong-1 = refl

strong-2 : sets_of strong 2 ≡ (9 ∷ []) ∷ (1 ∷ 9 ∷ []) ∷ (0 ∷ 9 ∷ []) ∷ []
strong-2 = refl

strong-3 : sets_of strong 3 ≡ (14 ∷ []) ∷ (1 ∷ 14 ∷ []) ∷ (0 ∷ 14 ∷ []) ∷ []
strong-3 = refl

-- ---- a loop through negations: a :- not b. b :- not a. at the first state

abbrev either : Ground
either = program (atom 0 ∷ atom 1 ∷ []) [] [] (instance parts.Initial (heads.Normal 0 false) (no_now 1 ∷ []) ∷ instance parts.Initial (heads.Normal 1 false) (no_now 0 ∷ []) ∷ [])

either-1 : sets_of either 1 ≡ (1 ∷ 4 ∷ []) ∷ (0 ∷ 4 ∷ []) ∷ []
either-1 = refl

either-2 : sets_of either 2 ≡ (1 ∷ 9 ∷ []) ∷ (0 ∷ 9 ∷ []) ∷ []
either-2 = refl

either-3 : sets_of either 3 ≡ (1 ∷ 14 ∷ []) ∷ (0 ∷ 14 ∷ []) ∷ []
either-3 = refl

-- ---- an until: {b}. at every state, a :- &tel { &true until b }. at the first one

abbrev until : Ground
until =
    program (atom 0 ∷ atom 1 ∷ []) []
    (record { op = ops.Binary binary.Until; kids = kids.Node 1 ∷ kids.Atom 1 ∷ [] } ∷ record { op = ops.Const constants.True; kids = [] } ∷ [])
    (instance parts.Always (heads.Choice 1 false) [] ∷ instance parts.Initial (heads.Normal 0 false) (holds 0 ∷ []) ∷ [])

until-1 : sets_of until 1 ≡ (3 ∷ 6 ∷ []) ∷ (0 ∷ 1 ∷ 2 ∷ 3 ∷ 6 ∷ []) ∷ []
unfolding node_formula
until-1 = refl

until-2 : sets_of until 2 ≡ (3 ∷ 10 ∷ 13 ∷ [])
    ∷ (0 ∷ 2 ∷ 3 ∷ 8 ∷ 9 ∷ 10 ∷ 13 ∷ [])
    ∷ (0 ∷ 1 ∷ 2 ∷ 3 ∷ 10 ∷ 13 ∷ [])
    ∷ (0 ∷ 1 ∷ 2 ∷ 3 ∷ 8 ∷ 9 ∷ 10 ∷ 13 ∷ [])
    ∷ []
unfolding node_formula
until-2 = refl

-- ---- past and future in one: {a}. at every state, and at the last one :- not &tel { <? > a }, for a true at the second state or later

abbrev mixed : Ground
mixed =
    program (atom 0 ∷ []) []
    (record { op = ops.Unary unary.OnceBefore; kids = kids.Node 1 ∷ [] } ∷ record { op = ops.Unary unary.Next; kids = kids.Atom 0 ∷ [] } ∷ [])
    (instance parts.Always (heads.Choice 0 false) [] ∷ instance parts.Final heads.None (fails 0 ∷ []) ∷ [])

mixed-1 : sets_of mixed 1 ≡ []
unfolding node_formula
mixed-1 = refl

-- a state has a, <? > a, > a, two bodies and its end: 0 to 5, 6 to 11, 12 to 17
mixed-2 : sets_of mixed 2 ≡ (1 ∷ 2 ∷ 6 ∷ 7 ∷ 11 ∷ []) ∷ (0 ∷ 1 ∷ 2 ∷ 6 ∷ 7 ∷ 11 ∷ []) ∷ []
unfolding node_formula
mixed-2 = refl

mixed-3 : sets_of mixed 3 ≡ (7 ∷ 8 ∷ 12 ∷ 13 ∷ 17 ∷ [])
    ∷ (1 ∷ 2 ∷ 6 ∷ 7 ∷ 13 ∷ 17 ∷ [])
    ∷ (1 ∷ 2 ∷ 6 ∷ 7 ∷ 8 ∷ 12 ∷ 13 ∷ 17 ∷ [])
    ∷ (0 ∷ 7 ∷ 8 ∷ 12 ∷ 13 ∷ 17 ∷ [])
    ∷ (0 ∷ 1 ∷ 2 ∷ 6 ∷ 7 ∷ 13 ∷ 17 ∷ [])
    ∷ (0 ∷ 1 ∷ 2 ∷ 6 ∷ 7 ∷ 8 ∷ 12 ∷ 13 ∷ 17 ∷ [])
    ∷ []
unfolding node_formula
mixed-3 = refl
