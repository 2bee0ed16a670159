-- What the value of a formula is, variant by variant; and induction on formulas.
use Rattle.std.proofs.Common.{◌≡◌, List, [], ◌∷◌, map, sym, ap, subst, ◌∙◌}
use Rattle.tel_rule.specs.declared.formulas.Atom.{Atom}
use Rattle.tel_rule.specs.declared.formulas.ConstOp.{ConstOp}
use Rattle.tel_rule.specs.declared.formulas.UnaryOp.{UnaryOp}
use Rattle.tel_rule.specs.declared.formulas.BinaryOp.{BinaryOp}
use Rattle.tel_rule.specs.declared.formulas.ManyOp.{ManyOp}
use Rattle.tel_rule.specs.declared.formulas.Formula.{Formula, map-Formula}
use Rattle.tel_rule.specs.declared.formulas.Formula.TheVariants as formulas
use Rattle.tel_rule.specs.declared.formulas.Formula.TheVariants.{rolls-Const, rolls-Atom, rolls-Unary, rolls-Binary, rolls-Many}
use Rattle.tel_rule.specs.declared.formulas.Formula.TheOpen.{Formula-F}
use Rattle.tel_rule.specs.declared.formulas.Formula.TheOpen as layers
use Rattle.tel_rule.specs.declared.formulas.Formula.TheViews.{roll-Formula}
use Rattle.tel_rule.specs.declared.formulas.Formula.TheFolds.{fold-roll-Formula, ind-Formula}
use Rattle.tel_rule.specs.declared.nodes.NodeOp.{NodeOp}
use Rattle.tel_rule.specs.declared.nodes.NodeOp.TheVariants as ops
use Rattle.instance_build.specs.FormulaValues.{layer_value, formula_value}

pub value-const : {X : Type 0} (of_atom : Atom → X) (make : NodeOp → List X → X) (op : ConstOp) → formula_value of_atom make (formulas.Const op) ≡ make (ops.Const op) []
value-const {X} of_atom make op =
    ap (formula_value of_atom make) (sym (rolls-Const op)) ∙ fold-roll-Formula X (layer_value of_atom make) (layers.Const op)

pub value-atom : {X : Type 0} (of_atom : Atom → X) (make : NodeOp → List X → X) (atom : Atom) → formula_value of_atom make (formulas.Atom atom) ≡ of_atom atom
value-atom {X} of_atom make atom =
    ap (formula_value of_atom make) (sym (rolls-Atom atom)) ∙ fold-roll-Formula X (layer_value of_atom make) (layers.Atom atom)

pub value-unary : {X : Type 0} (of_atom : Atom → X) (make : NodeOp → List X → X) (op : UnaryOp) (f : Formula) → formula_value of_atom make (formulas.Unary op f) ≡ make (ops.Unary op) (formula_value of_atom make f ∷ [])
value-unary {X} of_atom make op f =
    ap (formula_value of_atom make) (sym (rolls-Unary op f)) ∙ fold-roll-Formula X (layer_value of_atom make) (layers.Unary op f)

pub value-binary : {X : Type 0} (of_atom : Atom → X) (make : NodeOp → List X → X) (op : BinaryOp) (f g : Formula) → formula_value of_atom make (formulas.Binary op f g) ≡ make (ops.Binary op) (formula_value of_atom make f ∷ formula_value of_atom make g ∷ [])
value-binary {X} of_atom make op f g =
    ap (formula_value of_atom make) (sym (rolls-Binary op f g)) ∙ fold-roll-Formula X (layer_value of_atom make) (layers.Binary op f g)

pub value-many : {X : Type 0} (of_atom : Atom → X) (make : NodeOp → List X → X) (op : ManyOp) (fs : List Formula) → formula_value of_atom make (formulas.Many op fs) ≡ make (ops.Many op) (map (formula_value of_atom make) fs)
value-many {X} of_atom make op fs =
    ap (formula_value of_atom make) (sym (rolls-Many op fs)) ∙ fold-roll-Formula X (layer_value of_atom make) (layers.Many op fs)

-- what has to be shown of a formula, where it is known of its operands
pub record Steps (P : Formula → Type 0) : Type 0 where
  pub const : (op : ConstOp) → P (formulas.Const op)
  pub atom : (atom : Atom) → P (formulas.Atom atom)
  pub unary : (op : UnaryOp) (f : Formula) → P f → P (formulas.Unary op f)
  pub binary : (op : BinaryOp) (f g : Formula) → P f → P g → P (formulas.Binary op f g)
  pub many : (op : ManyOp) (fs : List ((f : Formula) × P f)) → P (formulas.Many op (map (λ e. e.0) fs))

one_layer : (P : Formula → Type 0) → Steps P → (y : Formula-F ((f : Formula) × P f)) → P (roll-Formula (map-Formula ((f : Formula) × P f) Formula (λ e. e.0) y))
one_layer P steps (layers.Const op) = subst P (sym (rolls-Const op)) (steps.const op)
one_layer P steps (layers.Atom atom) = subst P (sym (rolls-Atom atom)) (steps.atom atom)
one_layer P steps (layers.Unary op e) = subst P (sym (rolls-Unary op e.0)) (steps.unary op e.0 e.1)
one_layer P steps (layers.Binary op d e) = subst P (sym (rolls-Binary op d.0 e.0)) (steps.binary op d.0 e.0 d.1 e.1)
one_layer P steps (layers.Many op es) = subst P (sym (rolls-Many op (map (λ e. e.0) es))) (steps.many op es)

pub by_operands : (P : Formula → Type 0) → Steps P → (formula : Formula) → P formula
by_operands P steps = ind-Formula P (λ x y is. subst (λ (z : Formula-F Formula). P (roll-Formula z)) is (one_layer P steps y))
