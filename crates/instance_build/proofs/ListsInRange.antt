-- The literals and the heads of rules are in range, and so are their instances.
use Rattle.std.proofs.Common.{◌≡◌, ℕ, ◌+◌, ◌≤◌, Bool, true, false, ◌&&◌, cond, nat_lt, List, [], ◌∷◌, ◌++◌, length, IsTrue, refl, ◌∙◌, arith}
use Rattle.std.specs.Prelude.{◌==◌, nat_le}
use Rattle.std.specs.List.{list_all, flat_map}
use Rattle.std.proofs.lemmas.List.{length-append}
use Rattle.std.proofs.lemmas.List.Folds.{list_all-append}
use Rattle.tel_rule.specs.declared.formulas.Atom.{Atom}
use Rattle.tel_rule.specs.declared.formulas.UnaryOp.TheVariants as unary
use Rattle.tel_rule.specs.declared.statements.LitItem.{LitItem}
use Rattle.tel_rule.specs.declared.statements.LitItem.TheVariants as lits
use Rattle.tel_rule.specs.declared.statements.Literal.{Literal}
use Rattle.tel_rule.specs.declared.statements.Head.{Head}
use Rattle.tel_rule.specs.declared.statements.Head.TheVariants as heads
use Rattle.tel_rule.specs.declared.nodes.NodeOp.TheVariants as ops
use Rattle.tel_rule.specs.declared.nodes.Kid.{Kid}
use Rattle.tel_rule.specs.declared.nodes.Kid.TheVariants as kids
use Rattle.tel_rule.specs.declared.ground.BodyLit.{BodyLit}
use Rattle.tel_rule.specs.declared.ground.BodyItem.TheVariants as items
use Rattle.tel_rule.specs.Nodes.{are_nodes, kid_in_range}
use Rattle.tel_rule.specs.Ground.{head_in_range, item_in_range, literal_in_range}
use Rattle.instance_build.specs.RuleAtoms.{item_atoms, literal_atoms, head_atoms}
use Rattle.instance_build.specs.Instances.{Numbered, atom_kid, node_over, grown, kid_item, atom_item, once, atom_grown, not_node, twice, ground_literal, ground_body, ground_head}
use Rattle.instance_build.specs.Laws.{InstancesAreInRange}
use Rattle.instance_build.proofs.InRange.{AreBelow, below_left, below_right, below_one, nodes-append, Fits, no_row, row_more, node_fits, atom_fits, formula_fits}

-- ---- lists of things with nodes

-- what is made is in range, by a test that knows how many nodes there are, and so are its nodes
pub record ListFits {X : Type 0} (atoms : ℕ) (test : ℕ → X → Bool) (made : Numbered (List X)) : Type 0 where
  pub nodes : (first total : ℕ) → first + length (made first).1 ≤ total → IsTrue (are_nodes atoms total first (made first).1)
  pub all : (first total : ℕ) → first + length (made first).1 ≤ total → IsTrue (list_all (test total) (made first).0)

pub none_fit : {X : Type 0} (atoms : ℕ) (test : ℕ → X → Bool) → ListFits {X = X} atoms test (λ first. ([], []))
none_fit atoms test = record { nodes = λ first total within. refl; all = λ first total within. refl }

-- one list behind another, which may be other ones for each number
pub both_fit : {X : Type 0} (atoms : ℕ) (test : ℕ → X → Bool) (g h k : Numbered (List X)) → ((first : ℕ) → k first ≡ ((g first).0 ++ (h (first + length (g first).1)).0, (g first).1 ++ (h (first + length (g first).1)).1)) → ListFits atoms test g → ListFits atoms test h → ListFits atoms test k
both_fit atoms test g h k is front back = record {
  nodes = λ first total within.
      let second = first + length (g first).1 in
      let all = length-append (g first).1 (h second).1 in
      let count : length (k first).1 ≡ length ((g first).1 ++ (h second).1) = (λ i. length (is first i).1) in
      (λ i. are_nodes atoms total first (is first i).1)
      ∙ nodes-append atoms total first (g first).1 (h second).1 (front.nodes first total (omega (arith, all, count, within))) (back.nodes second total (omega (arith, all, count, within)));
  all = λ first total within.
      let second = first + length (g first).1 in
      let all = length-append (g first).1 (h second).1 in
      let count : length (k first).1 ≡ length ((g first).1 ++ (h second).1) = (λ i. length (is first i).1) in
      let here = front.all first total (omega (arith, all, count, within)) in
      let later = back.all second total (omega (arith, all, count, within)) in
      (λ i. list_all (test total) (is first i).0) ∙ list_all-append (test total) (g first).0 (h second).0 ∙ (λ i. here i && later i);
}

-- ---- literals

abbrev LiteralsFit : ℕ → Numbered (List BodyLit) → Type 0
LiteralsFit atoms made = ListFits atoms (λ total. literal_in_range atoms total) made

kid_below : (atoms total : ℕ) (kid : Kid) → IsTrue (kid_in_range atoms total kid) → IsTrue (item_in_range atoms total (kid_item kid))
kid_below atoms total (kids.Atom atom) below = below
kid_below atoms total (kids.Node node) below = below

-- one literal over a child
kid_literal_fits : (atoms : ℕ) (positive : Bool) (g : Numbered Kid) → Fits atoms g → LiteralsFit atoms (λ first. (record { positive = positive; item = kid_item (g first).0 } ∷ [], (g first).1))
kid_literal_fits atoms positive g fits = record {
  nodes = λ first total within. fits.nodes first total within;
  all = λ first total within.
      let below = kid_below atoms total (g first).0 (fits.range first total within) in
      (λ i. below i && true);
}

atom_below : (number : Atom → ℕ) (atoms total : ℕ) (atom : Atom) → IsTrue (nat_lt (number atom) atoms) → IsTrue (item_in_range atoms total (atom_item number atom))
atom_below number atoms total atom below =
    elim (nat_lt 0 atom.before) as (λ b. IsTrue (item_in_range atoms total (cond b (items.Before (number atom)) (items.Atom (number atom))))) [
      | true ↦ below
      | false ↦ below
    ]

once_fits : (number : Atom → ℕ) (atoms : ℕ) (positive : Bool) (item : LitItem) → AreBelow number atoms (item_atoms item) → LiteralsFit atoms (once number positive item)
once_fits number atoms positive (lits.Atom atom) below = record {
  nodes = λ first total within. refl;
  all = λ first total within. (let here = atom_below number atoms total atom (below_one number atoms atom below) in λ i. here i && true);
}
once_fits number atoms positive (lits.Tel formula) below = kid_literal_fits atoms positive (grown number formula) (formula_fits number atoms formula below)
once_fits number atoms positive (lits.Compare relation left right) below = none_fit atoms (λ total. literal_in_range atoms total)

atom_grown_fits : (number : Atom → ℕ) (atoms : ℕ) (atom : Atom) → IsTrue (nat_lt (number atom) atoms) → Fits atoms (atom_grown number atom)
atom_grown_fits number atoms atom below =
    let leaf = atom_fits atoms (number atom) below in
    elim (nat_lt 0 atom.before) as (λ b. Fits atoms (cond b (node_over (ops.Unary unary.Previous) (atom_kid (number atom) ∷ [])) (atom_kid (number atom)))) [
      | true ↦ node_fits atoms (ops.Unary unary.Previous) (atom_kid (number atom) ∷ []) refl (row_more atoms (atom_kid (number atom)) [] leaf (no_row atoms))
      | false ↦ leaf
    ]

not_node_fits : (atoms : ℕ) (child : Numbered Kid) → Fits atoms child → LiteralsFit atoms (not_node child)
not_node_fits atoms child fits =
    kid_literal_fits atoms false (node_over (ops.Unary unary.Not) (child ∷ []))
    (node_fits atoms (ops.Unary unary.Not) (child ∷ []) refl (row_more atoms child [] fits (no_row atoms)))

twice_fits : (number : Atom → ℕ) (atoms : ℕ) (item : LitItem) → AreBelow number atoms (item_atoms item) → LiteralsFit atoms (twice number item)
twice_fits number atoms (lits.Atom atom) below = not_node_fits atoms (atom_grown number atom) (atom_grown_fits number atoms atom (below_one number atoms atom below))
twice_fits number atoms (lits.Tel formula) below = not_node_fits atoms (grown number formula) (formula_fits number atoms formula below)
twice_fits number atoms (lits.Compare relation left right) below = none_fit atoms (λ total. literal_in_range atoms total)

literal_fits : (number : Atom → ℕ) (atoms : ℕ) (literal : Literal) → AreBelow number atoms (literal_atoms literal) → LiteralsFit atoms (ground_literal number literal)
literal_fits number atoms literal below =
    elim (nat_le literal.nots 1) as (λ b. LiteralsFit atoms (λ first. cond b (once number (literal.nots == 0) literal.item first) (twice number literal.item first))) [
      | true ↦ once_fits number atoms (literal.nots == 0) literal.item below
      | false ↦ twice_fits number atoms literal.item below
    ]

body_fits : (number : Atom → ℕ) (atoms : ℕ) (body : List Literal) → AreBelow number atoms (flat_map literal_atoms body) → LiteralsFit atoms (ground_body number body)
body_fits number atoms [] below = none_fit atoms (λ total. literal_in_range atoms total)
body_fits number atoms (literal ∷ more) below =
    let here = literal_atoms literal in
    let later = flat_map literal_atoms more in
    both_fit atoms (λ total. literal_in_range atoms total) (ground_literal number literal) (ground_body number more) (ground_body number (literal ∷ more)) (λ first. refl)
    (literal_fits number atoms literal (below_left number atoms here later below)) (body_fits number atoms more (below_right number atoms here later below))

-- ---- rules

head_below : (number : Atom → ℕ) (atoms : ℕ) (head : Head) → AreBelow number atoms (head_atoms head) → IsTrue (head_in_range atoms (ground_head number head))
head_below number atoms (heads.Normal atom) below = below_one number atoms atom below
head_below number atoms (heads.Choice atom) below = below_one number atoms atom below
head_below number atoms heads.None below = refl

pub instances_are_in_range : InstancesAreInRange
instances_are_in_range number atoms statement part head body below =
    let here = head_atoms head in
    let later = flat_map literal_atoms body in
    let derived = head_below number atoms head (below_left number atoms here later below) in
    let inside = body_fits number atoms body (below_right number atoms here later below) in
    record {
      nodes = λ first total within. inside.nodes first total within;
      instance = λ first total within. (let these = inside.all first total within in λ i. derived i && these i);
    }
