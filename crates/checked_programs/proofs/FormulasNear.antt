-- Formulas as they are read speak of what is known then.
use Rattle.std.proofs.Common.{◌≡◌, inl, inr, ℕ, zero, suc, List, [], ◌∷◌, ◌++◌, map, Option, Some, None, sym, ap, subst, ◌∙◌}
use Rattle.std.specs.List.{flat_map}
use Rattle.tel_term.specs.declared.exprs.Expr.{Expr}
use Rattle.tel_rule.specs.declared.formulas.Atom.{Atom}
use Rattle.tel_rule.specs.declared.formulas.ConstOp.{ConstOp}
use Rattle.tel_rule.specs.declared.formulas.UnaryOp.{UnaryOp}
use Rattle.tel_rule.specs.declared.formulas.BinaryOp.{BinaryOp}
use Rattle.tel_rule.specs.declared.formulas.ManyOp.{ManyOp}
use Rattle.tel_rule.specs.declared.formulas.ManyOp.TheVariants as manies
use Rattle.tel_rule.specs.declared.formulas.Formula.{Formula}
use Rattle.tel_rule.specs.declared.formulas.Formula.TheVariants as formulas
use Rattle.tel_rule.specs.declared.formulas.Formula.TheVariants.{rolls-Const, rolls-Atom, rolls-Unary, rolls-Binary, rolls-Many}
use Rattle.tel_rule.specs.declared.formulas.Formula.TheOpen as layers
use Rattle.tel_rule.specs.declared.formulas.Formula.TheFolds.{fold-Formula, fold-roll-Formula}
use Rattle.formula_syntax.specs.Points.{Known}
use Rattle.formula_syntax.specs.Grammar.{meant, it, flat_formula, prefixed, paired, pair, many_of, conjunction, disjunction, formula, deep_formula, IsUnary, IsFormula, IsExpr, behind_all}
use Rattle.live_instances.specs.Instances.{layer_exprs}
use Rattle.checked_programs.proofs.Holding.{OfEach, OfMaybe, Gives, Stays, either-gives}
use Rattle.checked_programs.proofs.Nearness.{Near, Later, later-now, later-then, near-stays}
use Rattle.checked_programs.proofs.Expressions.{Of, over-gives, so-gives, expr-gives, EachNear, each-near-stays, no-near, both-near, AtomNear, atom-near}

-- the expressions of a formula, from left to right
abbrev pub formula_exprs : Formula → List Expr
formula_exprs f = fold-Formula (List Expr) layer_exprs f

abbrev pub FormulaNear : Formula → Known → Type 0
FormulaNear f known = EachNear (formula_exprs f) known

pub formula-stays : Stays Later FormulaNear
formula-stays f known later more h = each-near-stays (formula_exprs f) known later more h

from : (xs ys : List Expr) (known : Known) → ys ≡ xs → EachNear xs known → EachNear ys known
from xs ys known same h = subst (λ (list : List Expr). EachNear list known) (sym same) h

const-near : (op : ConstOp) (known : Known) → FormulaNear (formulas.Const op) known
const-near op known =
    from [] (formula_exprs (formulas.Const op)) known (ap formula_exprs (sym (rolls-Const op)) ∙ fold-roll-Formula (List Expr) layer_exprs (layers.Const op)) (no-near known)

atom-formula : (a : Atom) (known : Known) → AtomNear a known → FormulaNear (formulas.Atom a) known
atom-formula a known h =
    from a.args (formula_exprs (formulas.Atom a)) known (ap formula_exprs (sym (rolls-Atom a)) ∙ fold-roll-Formula (List Expr) layer_exprs (layers.Atom a)) h

unary-near : (op : UnaryOp) (f : Formula) (known : Known) → FormulaNear f known → FormulaNear (formulas.Unary op f) known
unary-near op f known h =
    from (formula_exprs f) (formula_exprs (formulas.Unary op f)) known (ap formula_exprs (sym (rolls-Unary op f)) ∙ fold-roll-Formula (List Expr) layer_exprs (layers.Unary op f)) h

binary-near : (op : BinaryOp) (f g : Formula) (known : Known) → FormulaNear f known → FormulaNear g known → FormulaNear (formulas.Binary op f g) known
binary-near op f g known h k =
    from (formula_exprs f ++ formula_exprs g) (formula_exprs (formulas.Binary op f g)) known (ap formula_exprs (sym (rolls-Binary op f g)) ∙ fold-roll-Formula (List Expr) layer_exprs (layers.Binary op f g)) (both-near (formula_exprs f) (formula_exprs g) known h k)

all-near : (fs : List Formula) (known : Known) → OfEach FormulaNear fs known → EachNear (flat_map (λ (exprs : List Expr). exprs) (map formula_exprs fs)) known
all-near [] known h = no-near known
all-near (f ∷ fs) known h = both-near (formula_exprs f) (flat_map (λ (exprs : List Expr). exprs) (map formula_exprs fs)) known h.0 (all-near fs known h.1)

many-near : (op : ManyOp) (fs : List Formula) (known : Known) → OfEach FormulaNear fs known → FormulaNear (formulas.Many op fs) known
many-near op fs known h =
    from (flat_map (λ (exprs : List Expr). exprs) (map formula_exprs fs)) (formula_exprs (formulas.Many op fs)) known (ap formula_exprs (sym (rolls-Many op fs)) ∙ fold-roll-Formula (List Expr) layer_exprs (layers.Many op fs)) (all-near fs known h)

-- ---- productions, where so much holds of their operands

paired-near : (read : Formula × Option (BinaryOp × Formula)) (known : Known) → FormulaNear read.0 known → OfMaybe (λ (both : BinaryOp × Formula) (k : Known). Unit {0} × FormulaNear both.1 k) read.1 known → FormulaNear (paired read) known
paired-near (first, None) known h more = h
paired-near (first, Some (op, second)) known h more = binary-near op first second known h more.1

behind-formulas : {A : Type 0} (pairs : List (A × Formula)) (known : Known) → OfEach (λ (both : A × Formula) (k : Known). Unit {0} × FormulaNear both.1 k) pairs known → OfEach FormulaNear (behind_all pairs) known
behind-formulas [] known h = tt
behind-formulas (pair ∷ pairs) known h = (h.0.1, behind-formulas pairs known h.1)

chain-near : {A : Type 0} (op : ManyOp) (read : Formula × List (A × Formula)) (known : Known) → FormulaNear read.0 known → OfEach (λ (both : A × Formula) (k : Known). Unit {0} × FormulaNear both.1 k) read.1 known → FormulaNear (many_of op read) known
chain-near op (first, []) known h more = h
chain-near op (first, next ∷ more) known h all = many-near op (first ∷ behind_all (next ∷ more)) known (h, behind-formulas (next ∷ more) known all)

-- operands of which something holds that says that they speak of what is known
abbrev Says : (Formula → Known → Type 0) → Type 0
Says F = (f : Formula) (known : Known) → F f known → FormulaNear f known

maybe-near : {A : Type 0} (F : Formula → Known → Type 0) → Says F → (read : Option (A × Formula)) (known : Known) → OfMaybe (λ (both : A × Formula) (k : Known). Unit {0} × F both.1 k) read known → OfMaybe (λ (both : A × Formula) (k : Known). Unit {0} × FormulaNear both.1 k) read known
maybe-near F so None known h = tt
maybe-near F so (Some both) known h = (tt, so both.1 known h.1)

each-near : {A : Type 0} (F : Formula → Known → Type 0) → Says F → (read : List (A × Formula)) (known : Known) → OfEach (λ (both : A × Formula) (k : Known). Unit {0} × F both.1 k) read known → OfEach (λ (both : A × Formula) (k : Known). Unit {0} × FormulaNear both.1 k) read known
each-near F so [] known h = tt
each-near F so (both ∷ more) known h = ((tt, so both.1 known h.0.1), each-near F so more known h.1)

pair-near : Says (Of FormulaNear (pair it))
pair-near f known h = subst (λ (x : Formula). FormulaNear x known) (sym h.is) (paired-near h.of known h.holds.0 h.holds.1)

conjunction-near : Says (Of FormulaNear (conjunction (pair it)))
conjunction-near f known h =
    subst (λ (x : Formula). FormulaNear x known) (sym h.is) (chain-near manies.And h.of known (pair-near h.of.0 known h.holds.0) (each-near (Of FormulaNear (pair it)) pair-near h.of.1 known h.holds.1))

disjunction-near : Says (Of FormulaNear (disjunction (conjunction (pair it))))
disjunction-near f known h =
    subst (λ (x : Formula). FormulaNear x known) (sym h.is) (chain-near manies.Or h.of known (conjunction-near h.of.0 known h.holds.0) (each-near (Of FormulaNear (conjunction (pair it))) conjunction-near h.of.1 known h.holds.1))

formula-near : Says (Of FormulaNear (formula it))
formula-near f known h =
    subst (λ (x : Formula). FormulaNear x known) (sym h.is) (paired-near h.of known (disjunction-near h.of.0 known h.holds.0) (maybe-near (Of FormulaNear (disjunction (conjunction (pair it)))) disjunction-near h.of.1 known h.holds.1))

prefix-made : (read : UnaryOp × Formula) (known : Known) → FormulaNear read.1 known → FormulaNear (prefixed read) known
prefix-made (op, f) known h = unary-near op f known h

deep-near : Says (Of FormulaNear deep_formula)
deep-near f known h = elim h [
  | inl m ↦ subst (λ (x : Formula). FormulaNear x known) (sym m.is) (prefix-made m.of known m.holds.1)
  | inr b ↦ formula-near f known b
]

flat-near : (f : Formula) (known : Known) → Of Near flat_formula f known → FormulaNear f known
flat-near f known h = elim h [
  | inl m ↦ subst (λ (x : Formula). FormulaNear x known) (sym m.is) (const-near m.of known)
  | inr m ↦ subst (λ (x : Formula). FormulaNear x known) (sym m.is) (atom-formula m.of known (atom-near m.of known m.holds))
]

-- ---- formulas

flat-gives : (levels : ℕ) → Gives Later (meant (IsExpr levels) flat_formula) FormulaNear
flat-gives levels =
    so-gives (meant (IsExpr levels) flat_formula) (Of Near flat_formula) FormulaNear flat-near (over-gives (IsExpr levels) Near near-stays (expr-gives levels) flat_formula)

unary-gives : (levels : ℕ) → Gives Later (IsUnary levels) FormulaNear
unfolding IsUnary
unary-gives zero = flat-gives zero
unary-gives (suc levels) =
    either-gives Later later-now later-then (meant (IsExpr (suc levels)) flat_formula) (meant (IsUnary levels) deep_formula) FormulaNear (flat-gives (suc levels))
    (so-gives (meant (IsUnary levels) deep_formula) (Of FormulaNear deep_formula) FormulaNear deep-near (over-gives (IsUnary levels) FormulaNear formula-stays (unary-gives levels) deep_formula))

pub formula-gives : (levels : ℕ) → Gives Later (IsFormula levels) FormulaNear
formula-gives levels =
    so-gives (IsFormula levels) (Of FormulaNear (formula it)) FormulaNear formula-near (over-gives (IsUnary levels) FormulaNear formula-stays (unary-gives levels) (formula it))
