-- The nodes of formulas are in range: each has the children that it may have, which are atoms or nodes behind it.
use Rattle.std.proofs.Common.{◌≡◌, ℕ, suc, ◌+◌, ◌<◌, ◌≤◌, ◌&&◌, nat_lt, List, [], ◌∷◌, ◌++◌, length, map, IsTrue, refl, sym, ap, ◌∙◌, subst, inl, arith}
use Rattle.std.specs.List.{list_all}
use Rattle.std.proofs.lemmas.Bool.{and_parts}
use Rattle.std.proofs.lemmas.List.{length-append}
use borrow.Author.Tests.{lt-ltb}
use Rattle.tel_base.proofs.Members.{In, In-append_left, In-append_right}
use Rattle.tel_rule.specs.declared.formulas.Atom.{Atom}
use Rattle.tel_rule.specs.declared.formulas.UnaryOp.{UnaryOp}
use Rattle.tel_rule.specs.declared.formulas.BinaryOp.{BinaryOp}
use Rattle.tel_rule.specs.declared.formulas.ManyOp.{ManyOp}
use Rattle.tel_rule.specs.declared.formulas.Formula.{Formula}
use Rattle.tel_rule.specs.declared.formulas.Formula.TheVariants as formulas
use Rattle.tel_rule.specs.declared.nodes.Node.{Node}
use Rattle.tel_rule.specs.declared.nodes.NodeOp.{NodeOp}
use Rattle.tel_rule.specs.declared.nodes.NodeOp.TheVariants as ops
use Rattle.tel_rule.specs.declared.nodes.Kid.{Kid}
use Rattle.tel_rule.specs.Nodes.{takes_kids, is_kid, is_node, are_nodes, kid_in_range}
use Rattle.instance_build.specs.RuleAtoms.{joined_atoms, formula_atoms}
use Rattle.instance_build.specs.Instances.{Numbered, in_row, atom_kid, node_over, grown}
use Rattle.instance_build.proofs.FormulaLayers.{by_operands, value-atom, value-unary, value-binary, value-many}
use Rattle.instance_build.proofs.NodesAdded.{grown-const, grown-atom, grown-unary, grown-binary, grown-many}

-- ---- numbers of atoms

-- the numbers of these atoms are below a count
abbrev pub AreBelow : (Atom → ℕ) → ℕ → List Atom → Type 0
AreBelow number count atoms = (atom : Atom) → In atom atoms → number atom < count

pub below_left : (number : Atom → ℕ) (count : ℕ) (xs ys : List Atom) → AreBelow number count (xs ++ ys) → AreBelow number count xs
below_left number count xs ys below = λ atom there. below atom (In-append_left atom xs ys there)

pub below_right : (number : Atom → ℕ) (count : ℕ) (xs ys : List Atom) → AreBelow number count (xs ++ ys) → AreBelow number count ys
below_right number count xs ys below = λ atom there. below atom (In-append_right atom xs ys there)

below_as : (number : Atom → ℕ) (count : ℕ) (xs ys : List Atom) → xs ≡ ys → AreBelow number count xs → AreBelow number count ys
below_as number count xs ys same below = subst (AreBelow number count) same below

-- one atom
pub below_one : (number : Atom → ℕ) (count : ℕ) (atom : Atom) → AreBelow number count (atom ∷ []) → IsTrue (nat_lt (number atom) count)
below_one number count atom below = lt-ltb (number atom) count (below atom (inl refl))

-- ---- children and rows of them

pub nodes-append : (atoms total first : ℕ) (xs ys : List Node) → IsTrue (are_nodes atoms total first xs) → IsTrue (are_nodes atoms total (first + length xs) ys) → IsTrue (are_nodes atoms total first (xs ++ ys))
nodes-append atoms total first [] ys here later = subst (λ (n : ℕ). IsTrue (are_nodes atoms total n ys)) (omega arith) later
nodes-append atoms total first (x ∷ xs) ys here later =
    let both = and_parts (is_node atoms total first x) (are_nodes atoms total (first + 1) xs) here in
    let rest = nodes-append atoms total (first + 1) xs ys both.1 (subst (λ (n : ℕ). IsTrue (are_nodes atoms total n ys)) (omega arith) later) in
    λ i. both.0 i && rest i

-- a child and its nodes are in range, wherever they are numbered from
pub record Fits (atoms : ℕ) (g : Numbered Kid) : Type 0 where
  pub nodes : (first total : ℕ) → first + length (g first).1 ≤ total → IsTrue (are_nodes atoms total first (g first).1)
  pub child : (first total number : ℕ) → number < first → first + length (g first).1 ≤ total → IsTrue (is_kid atoms total number (g first).0)
  pub range : (first total : ℕ) → first + length (g first).1 ≤ total → IsTrue (kid_in_range atoms total (g first).0)

pub record RowFits (atoms : ℕ) (gs : List (Numbered Kid)) : Type 0 where
  pub nodes : (first total : ℕ) → first + length (in_row gs first).1 ≤ total → IsTrue (are_nodes atoms total first (in_row gs first).1)
  pub children : (first total number : ℕ) → number < first → first + length (in_row gs first).1 ≤ total → IsTrue (list_all (is_kid atoms total number) (in_row gs first).0)

pub no_row : (atoms : ℕ) → RowFits atoms []
no_row atoms = record { nodes = λ first total within. refl; children = λ first total number below within. refl }

pub row_more : (atoms : ℕ) (g : Numbered Kid) (gs : List (Numbered Kid)) → Fits atoms g → RowFits atoms gs → RowFits atoms (g ∷ gs)
row_more atoms g gs fits more = record {
  nodes = λ first total within.
      let second = first + length (g first).1 in
      let all = length-append (g first).1 (in_row gs second).1 in
      nodes-append atoms total first (g first).1 (in_row gs second).1 (fits.nodes first total (omega (arith, all, within))) (more.nodes second total (omega (arith, all, within)));
  children = λ first total number below within.
      let second = first + length (g first).1 in
      let all = length-append (g first).1 (in_row gs second).1 in
      let here = fits.child first total number below (omega (arith, all, within)) in
      let later = more.children second total number (omega (arith, below)) (omega (arith, all, within)) in
      (λ i. here i && later i);
}

length-row : (gs : List (Numbered Kid)) (first : ℕ) → length (in_row gs first).0 ≡ length gs
length-row [] first = refl
length-row (g ∷ gs) first = ap suc (length-row gs (first + length (g first).1))

pub node_fits : (atoms : ℕ) (op : NodeOp) (gs : List (Numbered Kid)) → IsTrue (takes_kids op (length gs)) → RowFits atoms gs → Fits atoms (node_over op gs)
node_fits atoms op gs takes row = record {
  nodes = λ first total within.
      let below = in_row gs (first + 1) in
      let inside : first + 1 + length below.1 ≤ total = omega (arith, within) in
      let count : IsTrue (takes_kids op (length below.0)) = ap (takes_kids op) (length-row gs (first + 1)) ∙ takes in
      let all = row.children (first + 1) total first (omega arith) inside in
      let rest = row.nodes (first + 1) total inside in
      (λ i. (count i && all i) && rest i);
  child = λ first total number below within.
      (λ i. lt-ltb number first below i && lt-ltb first total (omega (arith, within)) i);
  range = λ first total within. lt-ltb first total (omega (arith, within));
}

pub atom_fits : (atoms number : ℕ) → IsTrue (nat_lt number atoms) → Fits atoms (atom_kid number)
atom_fits atoms number below = record { nodes = λ first total within. refl; child = λ first total at before within. below; range = λ first total within. below }

-- ---- formulas

atoms-unary : (op : UnaryOp) (f : Formula) → formula_atoms (formulas.Unary op f) ≡ formula_atoms f ++ []
atoms-unary op f = value-unary (λ (atom : Atom). atom ∷ []) (λ (op : NodeOp) (below : List (List Atom)). joined_atoms below) op f

atoms-binary : (op : BinaryOp) (f g : Formula) → formula_atoms (formulas.Binary op f g) ≡ formula_atoms f ++ (formula_atoms g ++ [])
atoms-binary op f g = value-binary (λ (atom : Atom). atom ∷ []) (λ (op : NodeOp) (below : List (List Atom)). joined_atoms below) op f g

atoms-many : (op : ManyOp) (fs : List Formula) → formula_atoms (formulas.Many op fs) ≡ joined_atoms (map formula_atoms fs)
atoms-many op fs = value-many (λ (atom : Atom). atom ∷ []) (λ (op : NodeOp) (below : List (List Atom)). joined_atoms below) op fs

atoms-atom : (atom : Atom) → formula_atoms (formulas.Atom atom) ≡ atom ∷ []
atoms-atom atom = value-atom (λ (atom : Atom). atom ∷ []) (λ (op : NodeOp) (below : List (List Atom)). joined_atoms below) atom

abbrev FormulaFits : (Atom → ℕ) → ℕ → Formula → Type 0
FormulaFits number count formula = AreBelow number count (formula_atoms formula) → Fits count (grown number formula)

row_of : (number : Atom → ℕ) (count : ℕ) (es : List ((f : Formula) × FormulaFits number count f)) → AreBelow number count (joined_atoms (map formula_atoms (map (λ e. e.0) es))) → RowFits count (map (grown number) (map (λ e. e.0) es))
row_of number count [] below = no_row count
row_of number count (e ∷ es) below =
    let here = formula_atoms e.0 in
    let later = joined_atoms (map formula_atoms (map (λ e. e.0) es)) in
    row_more count (grown number e.0) (map (grown number) (map (λ e. e.0) es)) (e.1 (below_left number count here later below)) (row_of number count es (below_right number count here later below))

pub formula_fits : (number : Atom → ℕ) (count : ℕ) (formula : Formula) → AreBelow number count (formula_atoms formula) → Fits count (grown number formula)
formula_fits number count = by_operands (FormulaFits number count) (record {
  const = λ op below. subst (Fits count) (sym (grown-const number op)) (node_fits count (ops.Const op) [] refl (no_row count));
  atom = λ atom below.
      subst (Fits count) (sym (grown-atom number atom)) (atom_fits count (number atom) (below_one number count atom (below_as number count _ _ (atoms-atom atom) below)));
  unary = λ op f fits below.
      let all = below_as number count _ _ (atoms-unary op f) below in
      subst (Fits count) (sym (grown-unary number op f)) (node_fits count (ops.Unary op) (grown number f ∷ []) refl (row_more count (grown number f) [] (fits (below_left number count (formula_atoms f) [] all)) (no_row count)));
  binary = λ op f g fits_f fits_g below.
      let all = below_as number count _ _ (atoms-binary op f g) below in
      let second = below_left number count (formula_atoms g) [] (below_right number count (formula_atoms f) (formula_atoms g ++ []) all) in
      subst (Fits count) (sym (grown-binary number op f g))
      (node_fits count (ops.Binary op) (grown number f ∷ grown number g ∷ []) refl
      (row_more count (grown number f) (grown number g ∷ []) (fits_f (below_left number count (formula_atoms f) (formula_atoms g ++ []) all))
      (row_more count (grown number g) [] (fits_g second) (no_row count))));
  many = λ op es below.
      let fs = map (λ (e : (f : Formula) × FormulaFits number count f). e.0) es in
      subst (Fits count) (sym (grown-many number op fs)) (node_fits count (ops.Many op) (map (grown number) fs) refl (row_of number count es (below_as number count _ _ (atoms-many op fs) below)));
})
