-- The nodes of a formula: what a call adds is what the definition says, operator by operator.
use Rattle.std.proofs.Common.{◌≡◌, ℕ, ◌+◌, List, [], ◌∷◌, ◌++◌, length, map, nat_lt, ◌<◌, refl, sym, ap, ◌∙◌}
use Rattle.std.specs.Prelude.{slice_set}
use Rattle.std.proofs.lemmas.Bool.{cond-true}
use Rattle.std.proofs.lemmas.List.{append-nil, append_assoc, length-append}
use borrow.Author.Tests.{lt-ltb}
use Rattle.tel_rule.specs.declared.formulas.Atom.{Atom}
use Rattle.tel_rule.specs.declared.formulas.UnaryOp.TheVariants as unary
use Rattle.tel_rule.specs.declared.formulas.UnaryOp.{UnaryOp}
use Rattle.tel_rule.specs.declared.formulas.BinaryOp.{BinaryOp}
use Rattle.tel_rule.specs.declared.formulas.ManyOp.{ManyOp}
use Rattle.tel_rule.specs.declared.formulas.Formula.{Formula}
use Rattle.tel_rule.specs.declared.formulas.Formula.TheVariants as formulas
use Rattle.tel_rule.specs.declared.nodes.Node.{Node}
use Rattle.tel_rule.specs.declared.nodes.NodeOp.{NodeOp}
use Rattle.tel_rule.specs.declared.nodes.NodeOp.TheVariants as ops
use Rattle.tel_rule.specs.declared.nodes.Kid.{Kid}
use Rattle.tel_rule.specs.declared.nodes.Kid.TheVariants as kids
use Rattle.instance_build.specs.Instances.{Numbered, in_row, atom_kid, node_over, grown, atom_grown}
use Rattle.instance_build.proofs.FormulaLayers.{value-const, value-atom, value-unary, value-binary, value-many}

-- ---- what a formula grows to, variant by variant

pub grown-const : (number : Atom → ℕ) (op : _) → grown number (formulas.Const op) ≡ node_over (ops.Const op) []
grown-const number op = value-const (λ (atom : Atom). atom_kid (number atom)) node_over op

pub grown-atom : (number : Atom → ℕ) (atom : Atom) → grown number (formulas.Atom atom) ≡ atom_kid (number atom)
grown-atom number atom = value-atom (λ (atom : Atom). atom_kid (number atom)) node_over atom

pub grown-unary : (number : Atom → ℕ) (op : UnaryOp) (f : Formula) → grown number (formulas.Unary op f) ≡ node_over (ops.Unary op) (grown number f ∷ [])
grown-unary number op f = value-unary (λ (atom : Atom). atom_kid (number atom)) node_over op f

pub grown-binary : (number : Atom → ℕ) (op : BinaryOp) (f g : Formula) → grown number (formulas.Binary op f g) ≡ node_over (ops.Binary op) (grown number f ∷ grown number g ∷ [])
grown-binary number op f g = value-binary (λ (atom : Atom). atom_kid (number atom)) node_over op f g

pub grown-many : (number : Atom → ℕ) (op : ManyOp) (fs : List Formula) → grown number (formulas.Many op fs) ≡ node_over (ops.Many op) (map (grown number) fs)
grown-many number op fs = value-many (λ (atom : Atom). atom_kid (number atom)) node_over op fs

-- ---- a node that got its children

set_in_middle : (old : List Node) (blank node : Node) (more : List Node) → slice_set ((old ++ blank ∷ []) ++ more) (length old) node ≡ old ++ node ∷ more
set_in_middle [] blank node more = refl
set_in_middle (first ∷ old) blank node more = ap (λ (rest : List Node). first ∷ rest) (set_in_middle old blank node more)

pub finished : (op : NodeOp) (operands : List (Numbered Kid)) (blank : Node) (old mid new : List Node) (number : ℕ) (children : List Kid) → number ≡ length old → children ≡ (in_row operands (length old + 1)).0 → mid ≡ (old ++ blank ∷ []) ++ (in_row operands (length old + 1)).1 → new ≡ slice_set mid number (record { op = op; kids = children }) → new ≡ old ++ (node_over op operands (length old)).1
finished op operands blank old mid new number children numbered children_are mid_is set =
    set
    ∙ (λ i. slice_set (mid_is i) (numbered i) (record { op = op; kids = children_are i }))
    ∙ set_in_middle old blank (record { op = op; kids = (in_row operands (length old + 1)).0 }) (in_row operands (length old + 1)).1

one_longer : (old begun : List Node) (blank : Node) → begun ≡ old ++ blank ∷ [] → length begun ≡ length old + 1
one_longer old begun blank is = ap length is ∙ length-append old (blank ∷ [])

-- one operand
pub one_kid : (g : Numbered Kid) (old begun : List Node) (blank : Node) (kid : Kid) (children : List Kid) → begun ≡ old ++ blank ∷ [] → kid ≡ (g (length begun)).0 → children ≡ kid ∷ [] → children ≡ (in_row (g ∷ []) (length old + 1)).0
one_kid g old begun blank kid children begun_is kid_is are =
    are ∙ ap (λ (k : Kid). k ∷ []) (kid_is ∙ ap (λ (n : ℕ). (g n).0) (one_longer old begun blank begun_is))

pub one_row : (g : Numbered Kid) (old begun mid : List Node) (blank : Node) → begun ≡ old ++ blank ∷ [] → mid ≡ begun ++ (g (length begun)).1 → mid ≡ (old ++ blank ∷ []) ++ (in_row (g ∷ []) (length old + 1)).1
one_row g old begun mid blank begun_is mid_is =
    mid_is
    ∙ (λ i. begun_is i ++ (g (one_longer old begun blank begun_is i)).1)
    ∙ ap (λ (more : List Node). (old ++ blank ∷ []) ++ more) (sym (append-nil (g (length old + 1)).1))

-- two operands
behind_two : (g : Numbered Kid) (old begun mid : List Node) (blank : Node) → begun ≡ old ++ blank ∷ [] → mid ≡ begun ++ (g (length begun)).1 → length mid ≡ length old + 1 + length (g (length old + 1)).1
behind_two g old begun mid blank begun_is mid_is =
    let front = one_longer old begun blank begun_is in
    ap length mid_is ∙ length-append begun (g (length begun)).1 ∙ (λ i. front i + length (g (front i)).1)

pub two_kids : (g h : Numbered Kid) (old begun mid : List Node) (blank : Node) (left right : Kid) (children : List Kid) → begun ≡ old ++ blank ∷ [] → mid ≡ begun ++ (g (length begun)).1 → left ≡ (g (length begun)).0 → right ≡ (h (length mid)).0 → children ≡ left ∷ right ∷ [] → children ≡ (in_row (g ∷ h ∷ []) (length old + 1)).0
two_kids g h old begun mid blank left right children begun_is mid_is left_is right_is are =
    are
    ∙ (λ i. left_is i ∷ right_is i ∷ [])
    ∙ (λ i. (g (one_longer old begun blank begun_is i)).0 ∷ (h (behind_two g old begun mid blank begun_is mid_is i)).0 ∷ [])

pub two_rows : (g h : Numbered Kid) (old begun mid last : List Node) (blank : Node) → begun ≡ old ++ blank ∷ [] → mid ≡ begun ++ (g (length begun)).1 → last ≡ mid ++ (h (length mid)).1 → last ≡ (old ++ blank ∷ []) ++ (in_row (g ∷ h ∷ []) (length old + 1)).1
two_rows g h old begun mid last blank begun_is mid_is last_is =
    let first = length old + 1 in
    let second = first + length (g first).1 in
    last_is
    ∙ (λ i. (mid_is ∙ (λ j. begun_is j ++ (g (one_longer old begun blank begun_is j)).1)) i ++ (h (behind_two g old begun mid blank begun_is mid_is i)).1)
    ∙ append_assoc (old ++ blank ∷ []) (g first).1 (h second).1
    ∙ ap (λ (more : List Node). (old ++ blank ∷ []) ++ ((g first).1 ++ more)) (sym (append-nil (h second).1))

-- ---- the formula of a call, by its variant

pub grown_as : (number : Atom → ℕ) (formula : Formula) (g : Numbered Kid) (old new : List Node) → grown number formula ≡ g → new ≡ old ++ (g (length old)).1 → new ≡ old ++ (grown number formula (length old)).1
grown_as number formula g old new is added = added ∙ ap (λ (made : Numbered Kid). old ++ (made (length old)).1) (sym is)

pub unary_as : (number : Atom → ℕ) (formula : Formula) (op : UnaryOp) (f g : Formula) → formula ≡ formulas.Unary op f → g ≡ f → grown number formula ≡ node_over (ops.Unary op) (grown number g ∷ [])
unary_as number formula op f g is same = ap (grown number) (is ∙ ap (formulas.Unary op) (sym same)) ∙ grown-unary number op g

pub binary_as : (number : Atom → ℕ) (formula : Formula) (op : BinaryOp) (f g h k : Formula) → formula ≡ formulas.Binary op f g → h ≡ f → k ≡ g → grown number formula ≡ node_over (ops.Binary op) (grown number h ∷ grown number k ∷ [])
binary_as number formula op f g h k is same too = ap (grown number) (is ∙ (λ i. formulas.Binary op (sym same i) (sym too i))) ∙ grown-binary number op h k

pub many_as : (number : Atom → ℕ) (formula : Formula) (op : ManyOp) (fs gs : List Formula) → formula ≡ formulas.Many op fs → gs ≡ fs → grown number formula ≡ node_over (ops.Many op) (map (grown number) gs)
many_as number formula op fs gs is same = ap (grown number) (is ∙ ap (formulas.Many op) (sym same)) ∙ grown-many number op gs

-- the children and nodes of a row that begins behind a new node
pub row_behind : {X : Type 0} (made : ℕ → X) (old begun : List Node) (blank : Node) → begun ≡ old ++ blank ∷ [] → made (length begun) ≡ made (length old + 1)
row_behind made old begun blank is = ap made (one_longer old begun blank is)

-- ---- atoms of bodies

pub before_as : (number : Atom → ℕ) (atom : Atom) → 0 < atom.before → atom_grown number atom ≡ node_over (ops.Unary unary.Previous) (atom_kid (number atom) ∷ [])
before_as number atom later =
    cond-true (nat_lt 0 atom.before) (node_over (ops.Unary unary.Previous) (atom_kid (number atom) ∷ [])) (atom_kid (number atom)) (lt-ltb 0 atom.before later)

pub atom_children : (number : Atom → ℕ) (atom : Atom) (found : ℕ) (children : List Kid) → found ≡ number atom → children ≡ kids.Atom found ∷ [] → children ≡ kids.Atom (number atom) ∷ []
atom_children number atom found children is are = are ∙ ap (λ (n : ℕ). kids.Atom n ∷ []) is

pub item_as : (g h : Numbered Kid) (old new : List Node) → h ≡ g → new ≡ old ++ (g (length old)).1 → new ≡ old ++ (h (length old)).1
item_as g h old new is added = added ∙ ap (λ (made : Numbered Kid). old ++ (made (length old)).1) (sym is)
