-- Renaming commutes with what rules mean, and a name that keeps the atoms of a formula keeps the formula.
use Rattle.std.proofs.Common.{◌≡◌, ℕ, zero, suc, Bool, true, false, List, [], ◌∷◌, ◌++◌, map, refl, sym, ap, ap₂, ◌∙◌, inl}
use Rattle.std.specs.Prelude.{slice_index_or, nat_lt, if◌then◌else◌}
use Rattle.tel_base.specs.Members.{In}
use Rattle.tel_base.proofs.Members.{In-append_left, In-append_right}
use Rattle.tel_rule.specs.declared.formulas.Atom.{Atom}
use Rattle.tel_rule.specs.declared.formulas.Formula as read
use Rattle.tel_rule.specs.declared.formulas.ConstOp.{ConstOp}
use Rattle.tel_rule.specs.declared.formulas.ConstOp.TheVariants as constants
use Rattle.tel_rule.specs.declared.formulas.UnaryOp.{UnaryOp}
use Rattle.tel_rule.specs.declared.formulas.UnaryOp.TheVariants as unary
use Rattle.tel_rule.specs.declared.formulas.BinaryOp.{BinaryOp}
use Rattle.tel_rule.specs.declared.formulas.BinaryOp.TheVariants as binary
use Rattle.tel_rule.specs.declared.formulas.ManyOp.{ManyOp}
use Rattle.tel_rule.specs.declared.formulas.ManyOp.TheVariants as many
use Rattle.tel_rule.specs.declared.nodes.NodeOp.{NodeOp}
use Rattle.tel_rule.specs.declared.nodes.NodeOp.TheVariants as ops
use Rattle.tel_rule.specs.declared.statements.LitItem.{LitItem}
use Rattle.tel_rule.specs.declared.statements.LitItem.TheVariants as items
use Rattle.tel_rule.specs.declared.statements.Literal.{Literal}
use Rattle.tel_rule.specs.declared.statements.Head.{Head}
use Rattle.tel_rule.specs.declared.statements.Head.TheVariants as heads
use Rattle.tel_semantics.specs.Formula as semantic
use Rattle.tel_semantics.specs.Formula.{FormulaOver, True, False, And, Or, Arrow, Previous, Since, Trigger, Next, Until, Release, negation}
use Rattle.tel_semantics.specs.NodeFormula.{const_formula, unary_formula, binary_formula, many_formula, op_formula}
use Rattle.instance_build.specs.Meaning.{formula_meaning, item_meaning, behind_nots, literal_meaning, is_comparison, body_meaning, derived_meaning, head_meaning, rule_meaning}
use Rattle.instance_build.proofs.FormulaLayers.{by_operands, value-const, value-atom, value-unary, value-binary, value-many}
use Rattle.theory_lists.specs.Renaming.{renamed}
use Rattle.program_theory.specs.Theory.{formula_atoms}

pub index-map : {X Y : Type 0} (f : X → Y) (xs : List X) (none : X) (place : ℕ) → slice_index_or (map f xs) place (f none) ≡ f (slice_index_or xs place none)
index-map f [] none place = refl
index-map f (x ∷ xs) none zero = refl
index-map f (x ∷ xs) none (suc place) = index-map f xs none place

-- ---- operators

module _ {X Y : Type 0} (f : X → Y) where
  renamed-const : (op : ConstOp) → renamed f (const_formula op) ≡ const_formula op
  renamed-const constants.True = refl
  renamed-const constants.False = refl
  renamed-const constants.Initial = refl
  renamed-const constants.Final = refl

  renamed-unary : (op : UnaryOp) (g : FormulaOver X) → renamed f (unary_formula op g) ≡ unary_formula op (renamed f g)
  renamed-unary unary.Not g = refl
  renamed-unary unary.Previous g = refl
  renamed-unary unary.WeakPrevious g = refl
  renamed-unary unary.AlwaysBefore g = refl
  renamed-unary unary.OnceBefore g = refl
  renamed-unary unary.Initially g = refl
  renamed-unary unary.Next g = refl
  renamed-unary unary.WeakNext g = refl
  renamed-unary unary.AlwaysAfter g = refl
  renamed-unary unary.OnceAfter g = refl
  renamed-unary unary.Finally g = refl

  renamed-binary : (op : BinaryOp) (g h : FormulaOver X) → renamed f (binary_formula op g h) ≡ binary_formula op (renamed f g) (renamed f h)
  renamed-binary binary.Since g h = refl
  renamed-binary binary.Trigger g h = refl
  renamed-binary binary.Until g h = refl
  renamed-binary binary.Release g h = refl
  renamed-binary binary.Implies g h = refl
  renamed-binary binary.ImpliedBy g h = refl
  renamed-binary binary.Same g h = refl

  renamed-many : (op : ManyOp) (gs : List (FormulaOver X)) → renamed f (many_formula op gs) ≡ many_formula op (map (renamed f) gs)
  renamed-many many.And [] = refl
  renamed-many many.And (g ∷ gs) = ap (And (renamed f g)) (renamed-many many.And gs)
  renamed-many many.Or [] = refl
  renamed-many many.Or (g ∷ gs) = ap (Or (renamed f g)) (renamed-many many.Or gs)

  renamed-op : (op : NodeOp) (below : List (FormulaOver X)) → renamed f (op_formula op below) ≡ op_formula op (map (renamed f) below)
  renamed-op (ops.Const op) below = renamed-const op
  renamed-op (ops.Unary op) below = renamed-unary op (slice_index_or below 0 False) ∙ ap (unary_formula op) (sym (index-map (renamed f) below False 0))
  renamed-op (ops.Binary op) below =
      renamed-binary op (slice_index_or below 0 False) (slice_index_or below 1 False)
      ∙ ap₂ (binary_formula op) (sym (index-map (renamed f) below False 0)) (sym (index-map (renamed f) below False 1))
  renamed-op (ops.Many op) below = renamed-many op below

-- ---- rules

module _ {X Y : Type 0} (f : X → Y) (g : Atom → X) where
  abbrev through : Atom → Y
  through atom = f (g atom)

  abbrev IsRenamed : read.Formula → Type 0
  IsRenamed formula = renamed f (formula_meaning g formula) ≡ formula_meaning through formula

  renamed-each : (es : List ((formula : read.Formula) × IsRenamed formula)) → map (renamed f) (map (formula_meaning g) (map (λ e. e.0) es)) ≡ map (formula_meaning through) (map (λ e. e.0) es)
  renamed-each [] = refl
  renamed-each (e ∷ es) = ap₂ (λ (h : FormulaOver Y) (hs : List (FormulaOver Y)). h ∷ hs) e.1 (renamed-each es)

  renamed-formula : (formula : read.Formula) → IsRenamed formula
  renamed-formula = by_operands IsRenamed (record {
    const = λ op. ap (renamed f) (value-const (λ atom. semantic.Atom (g atom)) op_formula op) ∙ renamed-op f (ops.Const op) [] ∙ sym (value-const (λ atom. semantic.Atom (through atom)) op_formula op);
    atom = λ atom. ap (renamed f) (value-atom (λ atom. semantic.Atom (g atom)) op_formula atom) ∙ sym (value-atom (λ atom. semantic.Atom (through atom)) op_formula atom);
    unary = λ op h is. ap (renamed f) (value-unary (λ atom. semantic.Atom (g atom)) op_formula op h) ∙ renamed-op f (ops.Unary op) (formula_meaning g h ∷ [])
        ∙ ap (λ (k : FormulaOver Y). op_formula (ops.Unary op) (k ∷ [])) is ∙ sym (value-unary (λ atom. semantic.Atom (through atom)) op_formula op h);
    binary = λ op h k left right. ap (renamed f) (value-binary (λ atom. semantic.Atom (g atom)) op_formula op h k) ∙ renamed-op f (ops.Binary op) (formula_meaning g h ∷ formula_meaning g k ∷ [])
        ∙ ap₂ (λ (l r : FormulaOver Y). op_formula (ops.Binary op) (l ∷ r ∷ [])) left right ∙ sym (value-binary (λ atom. semantic.Atom (through atom)) op_formula op h k);
    many = λ op es. ap (renamed f) (value-many (λ atom. semantic.Atom (g atom)) op_formula op (map (λ e. e.0) es)) ∙ renamed-op f (ops.Many op) (map (formula_meaning g) (map (λ e. e.0) es))
        ∙ ap (op_formula (ops.Many op)) (renamed-each es) ∙ sym (value-many (λ atom. semantic.Atom (through atom)) op_formula op (map (λ e. e.0) es));
  })

  renamed-timed : (late : Bool) (one two : FormulaOver X) → renamed f (if late then one else two) ≡ (if late then renamed f one else renamed f two)
  renamed-timed true one two = refl
  renamed-timed false one two = refl

  renamed-item : (item : LitItem) → renamed f (item_meaning g item) ≡ item_meaning through item
  renamed-item (items.Atom atom) = renamed-timed (nat_lt 0 atom.before) (Previous (semantic.Atom (g atom))) (semantic.Atom (g atom))
  renamed-item (items.Tel formula) = renamed-formula formula
  renamed-item (items.Compare relation left right) = refl

  renamed-nots : (nots : ℕ) (h : FormulaOver X) (k : FormulaOver Y) → renamed f h ≡ k → renamed f (behind_nots nots h) ≡ behind_nots nots k
  renamed-nots zero h k is = is
  renamed-nots (suc nots) h k is = ap negation (renamed-nots nots h k is)

  renamed-conjunct : (left_out : Bool) (literal : Literal) (rest : FormulaOver X) (other : FormulaOver Y) → renamed f rest ≡ other → renamed f (if left_out then rest else And (literal_meaning g literal) rest) ≡ (if left_out then other else And (literal_meaning through literal) other)
  renamed-conjunct true literal rest other is = is
  renamed-conjunct false literal rest other is =
      ap₂ (λ (h k : FormulaOver Y). And h k) (renamed-nots literal.nots (item_meaning g literal.item) (item_meaning through literal.item) (renamed-item literal.item)) is

  renamed-body : (body : List Literal) → renamed f (body_meaning g body) ≡ body_meaning through body
  renamed-body [] = refl
  renamed-body (literal ∷ more) = renamed-conjunct (is_comparison literal.item) literal (body_meaning g more) (body_meaning through more) (renamed-body more)

  renamed-derived : (atom : Atom) → renamed f (derived_meaning g atom) ≡ derived_meaning through atom
  renamed-derived atom = renamed-timed (nat_lt 0 atom.after) (Next (semantic.Atom (g atom))) (semantic.Atom (g atom))

  renamed-head : (head : Head) → renamed f (head_meaning g head) ≡ head_meaning through head
  renamed-head (heads.Normal atom) = renamed-derived atom
  renamed-head (heads.Choice atom) = ap (λ (h : FormulaOver Y). Or h (negation h)) (renamed-derived atom)
  renamed-head heads.None = refl

  pub renamed-rule : (head : Head) (body : List Literal) → renamed f (rule_meaning g head body) ≡ rule_meaning (λ atom. f (g atom)) head body
  renamed-rule head body = ap₂ (λ (h k : FormulaOver Y). Arrow h k) (renamed-body body) (renamed-head head)

-- ---- twice, and to itself

pub renamed-twice : {X Y Z : Type 0} (f : Y → Z) (g : X → Y) (h : FormulaOver X) → renamed f (renamed g h) ≡ renamed (λ x. f (g x)) h
renamed-twice f g True = refl
renamed-twice f g False = refl
renamed-twice f g (semantic.Atom atom) = refl
renamed-twice f g (And h k) = ap₂ (λ l r. And l r) (renamed-twice f g h) (renamed-twice f g k)
renamed-twice f g (Or h k) = ap₂ (λ l r. Or l r) (renamed-twice f g h) (renamed-twice f g k)
renamed-twice f g (Arrow h k) = ap₂ (λ l r. Arrow l r) (renamed-twice f g h) (renamed-twice f g k)
renamed-twice f g (Previous h) = ap (λ l. Previous l) (renamed-twice f g h)
renamed-twice f g (Since h k) = ap₂ (λ l r. Since l r) (renamed-twice f g h) (renamed-twice f g k)
renamed-twice f g (Trigger h k) = ap₂ (λ l r. Trigger l r) (renamed-twice f g h) (renamed-twice f g k)
renamed-twice f g (Next h) = ap (λ l. Next l) (renamed-twice f g h)
renamed-twice f g (Until h k) = ap₂ (λ l r. Until l r) (renamed-twice f g h) (renamed-twice f g k)
renamed-twice f g (Release h k) = ap₂ (λ l r. Release l r) (renamed-twice f g h) (renamed-twice f g k)

abbrev pub Keeps : {X : Type 0} → (X → X) → List X → Type 0
Keeps {X} f atoms = (x : X) → In x atoms → f x ≡ x

keeps_left : {X : Type 0} (f : X → X) (xs ys : List X) → Keeps f (xs ++ ys) → Keeps f xs
keeps_left f xs ys keeps x found = keeps x (In-append_left x xs ys found)

keeps_right : {X : Type 0} (f : X → X) (xs ys : List X) → Keeps f (xs ++ ys) → Keeps f ys
keeps_right f xs ys keeps x found = keeps x (In-append_right x xs ys found)

module _ {X : Type 0} (f : X → X) where
  kept_pair : (make : FormulaOver X → FormulaOver X → FormulaOver X) (h k : FormulaOver X) → (Keeps f (formula_atoms h) → renamed f h ≡ h) → (Keeps f (formula_atoms k) → renamed f k ≡ k)
      → Keeps f (formula_atoms h ++ formula_atoms k) → make (renamed f h) (renamed f k) ≡ make h k
  kept_pair make h k left right keeps =
      ap₂ make (left (keeps_left f (formula_atoms h) (formula_atoms k) keeps)) (right (keeps_right f (formula_atoms h) (formula_atoms k) keeps))

  pub kept : (h : FormulaOver X) → Keeps f (formula_atoms h) → renamed f h ≡ h
  kept True keeps = refl
  kept False keeps = refl
  kept (semantic.Atom atom) keeps = ap (λ x. semantic.Atom x) (keeps atom (inl refl))
  kept (And h k) keeps = kept_pair (λ l r. And l r) h k (kept h) (kept k) keeps
  kept (Or h k) keeps = kept_pair (λ l r. Or l r) h k (kept h) (kept k) keeps
  kept (Arrow h k) keeps = kept_pair (λ l r. Arrow l r) h k (kept h) (kept k) keeps
  kept (Previous h) keeps = ap (λ l. Previous l) (kept h keeps)
  kept (Since h k) keeps = kept_pair (λ l r. Since l r) h k (kept h) (kept k) keeps
  kept (Trigger h k) keeps = kept_pair (λ l r. Trigger l r) h k (kept h) (kept k) keeps
  kept (Next h) keeps = ap (λ l. Next l) (kept h keeps)
  kept (Until h k) keeps = kept_pair (λ l r. Until l r) h k (kept h) (kept k) keeps
  kept (Release h k) keeps = kept_pair (λ l r. Release l r) h k (kept h) (kept k) keeps
