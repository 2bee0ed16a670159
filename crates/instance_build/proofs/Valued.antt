-- What a value of nodes, made from the last one on, says of the child that a formula is: the formula's own value.
use Rattle.std.proofs.Common.{◌≡◌, ℕ, suc, ◌+◌, ◌-◌, ◌≤◌, List, [], ◌∷◌, ◌++◌, length, map, refl, sym, ap, ◌∙◌, subst, arith}
use Rattle.std.specs.Prelude.{slice_index_or}
use Rattle.std.proofs.lemmas.List.{length-append, append_assoc}
use Rattle.tel_rule.specs.declared.formulas.Atom.{Atom}
use Rattle.tel_rule.specs.declared.formulas.Formula.{Formula}
use Rattle.tel_rule.specs.declared.nodes.Node.{Node}
use Rattle.tel_rule.specs.declared.nodes.NodeOp.{NodeOp}
use Rattle.tel_rule.specs.declared.nodes.NodeOp.TheVariants as ops
use Rattle.tel_rule.specs.declared.nodes.Kid.{Kid}
use Rattle.tel_rule.specs.declared.nodes.Kid.TheVariants as kids
use Rattle.tel_rule.specs.Nodes.{kid_value, node_values}
use Rattle.instance_build.specs.FormulaValues.{formula_value}
use Rattle.instance_build.specs.Placed.{Placed}
use Rattle.instance_build.specs.Instances.{Numbered, in_row, atom_kid, node_over, grown}
use Rattle.instance_build.proofs.FormulaLayers.{by_operands, value-const, value-atom, value-unary, value-binary, value-many}
use Rattle.instance_build.proofs.NodesAdded.{grown-const, grown-atom, grown-unary, grown-binary, grown-many}

-- an atom, or a node from a number on
abbrev pub IsFrom : ℕ → Kid → Type 0
IsFrom first (kids.Atom atom) = Unit {0}
IsFrom first (kids.Node node) = first ≤ node

from-less : (low high : ℕ) (kid : Kid) → low ≤ high → IsFrom high kid → IsFrom low kid
from-less low high (kids.Atom atom) le from = tt {0}
from-less low high (kids.Node node) le from = omega (arith, le, from)

-- nodes in front don't matter to those behind them
pub shift : {X : Type 0} (of_atom : ℕ → X) (none : X) (make : NodeOp → List X → X) (first : ℕ) (xs ys : List Node) (kid : Kid) → IsFrom (first + length xs) kid → kid_value of_atom none first (node_values of_atom none make first (xs ++ ys)) kid ≡ kid_value of_atom none (first + length xs) (node_values of_atom none make (first + length xs) ys) kid
shift of_atom none make first [] ys kid from =
    ap (λ (n : ℕ). kid_value of_atom none n (node_values of_atom none make n ys) kid) (omega arith)
shift of_atom none make first (x ∷ xs) ys (kids.Atom atom) from = refl
shift of_atom none make first (x ∷ xs) ys (kids.Node node) from =
    let later = node_values of_atom none make (first + 1) (xs ++ ys) in
    let value = make x.op (map (kid_value of_atom none (first + 1) later) x.kids) in
    let moved : first + 1 + length xs ≡ first + suc (length xs) = omega arith in
    let above : node - first ≡ suc (node - (first + 1)) = omega (arith, from) in
    ap (λ (n : ℕ). slice_index_or (value ∷ later) n none) above
    ∙ shift of_atom none make (first + 1) xs ys (kids.Node node) (omega (arith, from))
    ∙ ap (λ (n : ℕ). slice_index_or (node_values of_atom none make n ys) (node - n) none) moved

-- a child has a value, wherever its nodes are numbered from and whatever nodes come behind
pub record Valued {X : Type 0} (of_atom : ℕ → X) (none : X) (make : NodeOp → List X → X) (g : Numbered Kid) (value : X) : Type 0 where
  pub from : (first : ℕ) → IsFrom first (g first).0
  pub is : (first : ℕ) (rest : List Node) → kid_value of_atom none first (node_values of_atom none make first ((g first).1 ++ rest)) (g first).0 ≡ value

-- each child of a row has a value
pub data EachValued {X : Type 0} (of_atom : ℕ → X) (none : X) (make : NodeOp → List X → X) : List (Numbered Kid) → List X → Type 0 where
  none_valued : EachValued of_atom none make [] []
  more_valued : {g : Numbered Kid} {gs : List (Numbered Kid)} {value : X} {values : List X} → Valued of_atom none make g value → EachValued of_atom none make gs values → EachValued of_atom none make (g ∷ gs) (value ∷ values)

from-sum : (first second : ℕ) (xs : List Node) (kid : Kid) → second ≡ first + length xs → IsFrom second kid → IsFrom (first + length xs) kid
from-sum first second xs kid is from = subst (λ (n : ℕ). IsFrom n kid) is from

shift_to : {X : Type 0} (of_atom : ℕ → X) (none : X) (make : NodeOp → List X → X) (first second : ℕ) (xs ys : List Node) (kid : Kid) → second ≡ first + length xs → IsFrom second kid → kid_value of_atom none first (node_values of_atom none make first (xs ++ ys)) kid ≡ kid_value of_atom none second (node_values of_atom none make second ys) kid
shift_to of_atom none make first second xs ys kid is from =
    shift of_atom none make first xs ys kid (from-sum first second xs kid is from)
    ∙ ap (λ (n : ℕ). kid_value of_atom none n (node_values of_atom none make n ys) kid) (sym is)

-- nodes in front of a row don't matter to its children
row_shift : {X : Type 0} (of_atom : ℕ → X) (none : X) (make : NodeOp → List X → X) (gs : List (Numbered Kid)) (values : List X) → EachValued of_atom none make gs values → (first low second : ℕ) (xs ys : List Node) → low ≡ first + length xs → low ≤ second → map (kid_value of_atom none first (node_values of_atom none make first (xs ++ ys))) (in_row gs second).0 ≡ map (kid_value of_atom none low (node_values of_atom none make low ys)) (in_row gs second).0
row_shift of_atom none make [] [] none_valued first low second xs ys is le = refl
row_shift of_atom none make [] (value ∷ values) each first low second xs ys is le = elim each [ ]
row_shift of_atom none make (g ∷ gs) [] each first low second xs ys is le = elim each [ ]
row_shift of_atom none make (g ∷ gs) (value ∷ values) (more_valued one more) first low second xs ys is le =
    let third = second + length (g second).1 in
    let same = shift_to of_atom none make first low xs ys (g second).0 is (from-less low second (g second).0 le (one.from second)) in
    let rest = row_shift of_atom none make gs values more first low third xs ys is (omega (arith, le)) in
    λ i. same i ∷ rest i

pub row_valued : {X : Type 0} (of_atom : ℕ → X) (none : X) (make : NodeOp → List X → X) (gs : List (Numbered Kid)) (values : List X) → EachValued of_atom none make gs values → (first : ℕ) (rest : List Node) → map (kid_value of_atom none first (node_values of_atom none make first ((in_row gs first).1 ++ rest))) (in_row gs first).0 ≡ values
row_valued of_atom none make [] [] none_valued first rest = refl
row_valued of_atom none make [] (value ∷ values) each first rest = elim each [ ]
row_valued of_atom none make (g ∷ gs) [] each first rest = elim each [ ]
row_valued of_atom none make (g ∷ gs) (value ∷ values) (more_valued one more) first rest =
    let here = g first in
    let second = first + length here.1 in
    let later = in_row gs second in
    let whole : (here.1 ++ later.1) ++ rest ≡ here.1 ++ (later.1 ++ rest) = append_assoc here.1 later.1 rest in
    let head : kid_value of_atom none first (node_values of_atom none make first ((here.1 ++ later.1) ++ rest)) here.0 ≡ value =
    ap (λ (nodes : List Node). kid_value of_atom none first (node_values of_atom none make first nodes) here.0) whole ∙ one.is first (later.1 ++ rest) in
    let tail : map (kid_value of_atom none first (node_values of_atom none make first ((here.1 ++ later.1) ++ rest))) later.0 ≡ values =
    ap (λ (nodes : List Node). map (kid_value of_atom none first (node_values of_atom none make first nodes)) later.0) whole
    ∙ row_shift of_atom none make gs values more first second second here.1 (later.1 ++ rest) refl (omega arith)
    ∙ row_valued of_atom none make gs values more second rest in
    λ i. head i ∷ tail i

-- an operator over children that have values
pub node_valued : {X : Type 0} (of_atom : ℕ → X) (none : X) (make : NodeOp → List X → X) (op : NodeOp) (gs : List (Numbered Kid)) (values : List X) → EachValued of_atom none make gs values → Valued of_atom none make (node_over op gs) (make op values)
node_valued of_atom none make op gs values each = record {
  from = λ first. omega arith;
  is = λ first rest.
      let below = in_row gs (first + 1) in
      let later = node_values of_atom none make (first + 1) (below.1 ++ rest) in
      let value = make op (map (kid_value of_atom none (first + 1) later) below.0) in
      let itself : first - first ≡ 0 = omega arith in
      ap (λ (n : ℕ). slice_index_or (value ∷ later) n none) itself
      ∙ ap (make op) (row_valued of_atom none make gs values each (first + 1) rest);
}

pub atom_valued : {X : Type 0} (of_atom : ℕ → X) (none : X) (make : NodeOp → List X → X) (number : ℕ) → Valued of_atom none make (atom_kid number) (of_atom number)
atom_valued of_atom none make number = record { from = λ first. tt {0}; is = λ first rest. refl }

-- ---- formulas

abbrev pub value_in : {X : Type 0} → (ℕ → X) → (NodeOp → List X → X) → (Atom → ℕ) → Formula → X
value_in of_atom make number formula = formula_value (λ atom. of_atom (number atom)) make formula

abbrev HasValue : {X : Type 0} → (ℕ → X) → X → (NodeOp → List X → X) → (Atom → ℕ) → Formula → Type 0
HasValue of_atom none make number formula = Valued of_atom none make (grown number formula) (value_in of_atom make number formula)

each_of : {X : Type 0} (of_atom : ℕ → X) (none : X) (make : NodeOp → List X → X) (number : Atom → ℕ) (es : List ((f : Formula) × HasValue of_atom none make number f)) → EachValued of_atom none make (map (grown number) (map (λ e. e.0) es)) (map (value_in of_atom make number) (map (λ e. e.0) es))
each_of of_atom none make number [] = none_valued
each_of of_atom none make number (e ∷ es) = more_valued e.1 (each_of of_atom none make number es)

valued_as : {X : Type 0} (of_atom : ℕ → X) (none : X) (make : NodeOp → List X → X) (g h : Numbered Kid) (value other : X) → h ≡ g → other ≡ value → Valued of_atom none make g value → Valued of_atom none make h other
valued_as of_atom none make g h value other same too valued =
    subst (λ (v : _). Valued of_atom none make h v) (sym too) (subst (λ (k : Numbered Kid). Valued of_atom none make k value) (sym same) valued)

pub formula_valued : {X : Type 0} (of_atom : ℕ → X) (none : X) (make : NodeOp → List X → X) (number : Atom → ℕ) (formula : Formula) → Valued of_atom none make (grown number formula) (value_in of_atom make number formula)
formula_valued of_atom none make number = by_operands (HasValue of_atom none make number) (record {
  const = λ op. valued_as of_atom none make _ _ _ _ (grown-const number op) (value-const (λ atom. of_atom (number atom)) make op) (node_valued of_atom none make (ops.Const op) [] [] none_valued);
  atom = λ atom. valued_as of_atom none make _ _ _ _ (grown-atom number atom) (value-atom (λ atom. of_atom (number atom)) make atom) (atom_valued of_atom none make (number atom));
  unary = λ op f valued. valued_as of_atom none make _ _ _ _ (grown-unary number op f) (value-unary (λ atom. of_atom (number atom)) make op f) (node_valued of_atom none make (ops.Unary op) _ _ (more_valued valued none_valued));
  binary = λ op f g left right. valued_as of_atom none make _ _ _ _ (grown-binary number op f g) (value-binary (λ atom. of_atom (number atom)) make op f g) (node_valued of_atom none make (ops.Binary op) _ _ (more_valued left (more_valued right none_valued)));
  many = λ op es. valued_as of_atom none make _ _ _ _ (grown-many number op (map (λ e. e.0) es)) (value-many (λ atom. of_atom (number atom)) make op (map (λ e. e.0) es)) (node_valued of_atom none make (ops.Many op) _ _ (each_of of_atom none make number es));
})

-- ---- nodes among others

pub placed_left : (nodes : List Node) (first : ℕ) (xs ys : List Node) → Placed nodes first (xs ++ ys) → Placed nodes first xs
placed_left nodes first xs ys placed = record {
  front = placed.front;
  back = ys ++ placed.back;
  whole = placed.whole ∙ ap (λ (more : List Node). placed.front ++ more) (append_assoc xs ys placed.back);
  count = placed.count;
}

pub placed_right : (nodes : List Node) (first : ℕ) (xs ys : List Node) → Placed nodes first (xs ++ ys) → Placed nodes (first + length xs) ys
placed_right nodes first xs ys placed = record {
  front = placed.front ++ xs;
  back = placed.back;
  whole = placed.whole ∙ ap (λ (more : List Node). placed.front ++ more) (append_assoc xs ys placed.back) ∙ sym (append_assoc placed.front xs (ys ++ placed.back));
  count = ap (λ (n : ℕ). n + length xs) placed.count ∙ sym (length-append placed.front xs);
}

-- the value of a child among all nodes
pub placed_value : {X : Type 0} (of_atom : ℕ → X) (none : X) (make : NodeOp → List X → X) (g : Numbered Kid) (value : X) → Valued of_atom none make g value → (nodes : List Node) (first : ℕ) → Placed nodes first (g first).1 → kid_value of_atom none 0 (node_values of_atom none make 0 nodes) (g first).0 ≡ value
placed_value of_atom none make g value valued nodes first placed =
    ap (λ (all : List Node). kid_value of_atom none 0 (node_values of_atom none make 0 all) (g first).0) placed.whole
    ∙ shift_to of_atom none make 0 first placed.front ((g first).1 ++ placed.back) (g first).0 (omega (arith, placed.count)) (valued.from first)
    ∙ valued.is first placed.back
