-- A program whose constants are replaced has no cause where the program had none.
use Rattle.std.proofs.Common.{◌≡◌, ℕ, Bool, true, false, not, ◌&&◌, ◌||◌, List, [], ◌∷◌, ◌++◌, map, length, Option, Some, None, refl, sym, ap, subst, ◌∙◌}
use Rattle.std.specs.Prelude.{◌==◌, if◌then◌else◌, slice_get}
use Rattle.std.specs.List.{list_all, list_any, flat_map}
use Rattle.std.proofs.lemmas.List.{length-map, map-append}
use Rattle.tel_term.specs.declared.terms.Term.{Term}
use Rattle.tel_term.specs.declared.terms.Value.{Value}
use Rattle.tel_term.specs.declared.exprs.Expr.{Expr}
use Rattle.tel_rule.specs.declared.formulas.Atom.{Atom}
use Rattle.tel_rule.specs.declared.formulas.Formula.{Formula, map-Formula}
use Rattle.tel_rule.specs.declared.formulas.Formula.TheVariants.{rolls-Const, rolls-Atom, rolls-Unary, rolls-Binary, rolls-Many}
use Rattle.tel_rule.specs.declared.formulas.Formula.TheOpen.{Formula-F}
use Rattle.tel_rule.specs.declared.formulas.Formula.TheOpen as layers
use Rattle.tel_rule.specs.declared.formulas.Formula.TheViews.{roll-Formula}
use Rattle.tel_rule.specs.declared.formulas.Formula.TheFolds.{fold-Formula, fold-roll-Formula, ind-Formula}
use Rattle.tel_rule.specs.declared.statements.Head.TheVariants as heads
use Rattle.tel_rule.specs.declared.statements.Relation.{Relation}
use Rattle.tel_rule.specs.declared.statements.Relation.TheVariants as relations
use Rattle.tel_rule.specs.declared.statements.LitItem.{LitItem}
use Rattle.tel_rule.specs.declared.statements.LitItem.TheVariants as items
use Rattle.tel_rule.specs.declared.statements.Literal.{Literal}
use Rattle.tel_rule.specs.declared.statements.Arg.{Arg}
use Rattle.tel_rule.specs.declared.statements.Fact.{Fact}
use Rattle.tel_rule.specs.declared.statements.Signature.{Signature}
use Rattle.tel_rule.specs.declared.statements.Kind.{Kind}
use Rattle.tel_rule.specs.declared.statements.Kind.TheVariants as kinds
use Rattle.tel_rule.specs.declared.statements.Statement.{Statement}
use Rattle.tel_rule.specs.declared.statements.Program.{Program}
use Rattle.tel_semantics.specs.Tables.{same_predicate, predicate_of, tuple_predicate, head_predicates, has_head, is_fact, is_unprimed_fact, is_always, gives_rows, is_table}
use Rattle.rule_binding.specs.Binding.{Vars, has, layer_vars, vars_of, layer_whole, whole_var, one_var, is_table_atom, whole_args, item_row_vars, row_vars, Equation, relation_equations, item_equations, equations_of, Setting, var_set, side_set, sets, possible, first_of, AreSettings, bound_by, body_of, IsFirstMissing, IsFirstUnbound}
use Rattle.rule_constants.specs.Constants.{expr_replaced, links_of, replacement}
use Rattle.rule_constants.specs.Replaced.{atom_replaced, layer_replaced, formula_replaced, item_replaced, literal_replaced, arg_replaced, fact_replaced, kind_replaced, statement_replaced, IsReplaced}
use Rattle.rule_constants.proofs.Kept.{fold-kept}
use Rattle.rule_constants.proofs.Ended.{NoneIsFaulty, none-is-faulty, replaced-at, at-replaced}
use Rattle.rule_check.specs.declared.faults.CheckFault.{CheckFault}
use Rattle.rule_check.specs.declared.faults.CheckFault.TheVariants as causes
use Rattle.rule_check.specs.Causes.{layer_has_arrow, has_arrow, item_has_arrow, literal_has_arrow, has_bare_arrow, layer_has_prime, has_prime, item_has_bad_prime, literal_has_bad_prime, head_has_bad_prime, has_bad_prime, IsCause, IsSound}
use Rattle.rule_check.proofs.FirstCauses.{get-in}

-- ---- lists

any-map : {X Y : Type 0} (p : Y → Bool) (q : X → Bool) (f : X → Y) → ((x : X) → p (f x) ≡ q x) → (xs : List X) → list_any p (map f xs) ≡ list_any q xs
any-map p q f same [] = refl
any-map p q f same (x ∷ xs) = ap (λ (b : Bool). b || list_any p (map f xs)) (same x) ∙ ap (λ (b : Bool). q x || b) (any-map p q f same xs)

all-map : {X Y : Type 0} (p : Y → Bool) (q : X → Bool) (f : X → Y) → ((x : X) → p (f x) ≡ q x) → (xs : List X) → list_all p (map f xs) ≡ list_all q xs
all-map p q f same [] = refl
all-map p q f same (x ∷ xs) = ap (λ (b : Bool). b && list_all p (map f xs)) (same x) ∙ ap (λ (b : Bool). q x && b) (all-map p q f same xs)

flat-map : {X Y Z : Type 0} (p : Y → List Z) (q : X → List Z) (f : X → Y) → ((x : X) → p (f x) ≡ q x) → (xs : List X) → flat_map p (map f xs) ≡ flat_map q xs
flat-map p q f same [] = refl
flat-map {X} {Y} {Z} p q f same (x ∷ xs) = ap (λ (zs : List Z). zs ++ flat_map p (map f xs)) (same x) ∙ ap (λ (zs : List Z). q x ++ zs) (flat-map p q f same xs)

-- what each gives is mapped
flat-mapped : {X Z : Type 0} (p : X → List Z) (f : X → X) (g : Z → Z) → ((x : X) → p (f x) ≡ map g (p x)) → (xs : List X) → flat_map p (map f xs) ≡ map g (flat_map p xs)
flat-mapped p f g same [] = refl
flat-mapped {X} {Z} p f g same (x ∷ xs) =
    ap (λ (zs : List Z). zs ++ flat_map p (map f xs)) (same x) ∙ ap (λ (zs : List Z). map g (p x) ++ zs) (flat-mapped p f g same xs)
    ∙ sym (map-append g (p x) (flat_map p xs))

-- ---- formulas

module _ (X : Type 0) (layer : Formula-F X → X) (new : Value → Value) where
  abbrev of : Formula → X
  of formula = fold-Formula X layer formula

  abbrev Stays : Formula → Type 0
  Stays formula = of (formula_replaced new formula) ≡ of formula

  each-stays : (fs : List ((f : Formula) × Stays f)) → map of (map (formula_replaced new) (map (λ e. e.0) fs)) ≡ map of (map (λ e. e.0) fs)
  each-stays [] = refl
  each-stays (f ∷ fs) =
      ap (λ (x : X). x ∷ map of (map (formula_replaced new) (map (λ e. e.0) fs))) f.1
      ∙ ap (λ (xs : List X). of f.0 ∷ xs) (each-stays fs)

  rolled : (z : Formula-F Formula) → of (roll-Formula z) ≡ layer (map-Formula Formula X of z)
  rolled z = fold-roll-Formula X layer z

  replaced-rolled : (z : Formula-F Formula) → formula_replaced new (roll-Formula z) ≡ layer_replaced new (map-Formula Formula Formula (formula_replaced new) z)
  replaced-rolled z = fold-roll-Formula Formula (layer_replaced new) z

  module _ (same : (atom : Atom) → layer (layers.Atom (atom_replaced new atom)) ≡ layer (layers.Atom atom)) where
    one-layer : (y : Formula-F ((f : Formula) × Stays f)) → Stays (roll-Formula (map-Formula ((f : Formula) × Stays f) Formula (λ e. e.0) y))
    one-layer (layers.Const op) = ap of (replaced-rolled (layers.Const op) ∙ sym (rolls-Const op))
    one-layer (layers.Atom atom) =
        ap of (replaced-rolled (layers.Atom atom) ∙ sym (rolls-Atom (atom_replaced new atom))) ∙ rolled (layers.Atom (atom_replaced new atom))
        ∙ same atom ∙ sym (rolled (layers.Atom atom))
    one-layer (layers.Unary op e) =
        ap of (replaced-rolled (layers.Unary op e.0) ∙ sym (rolls-Unary op (formula_replaced new e.0))) ∙ rolled (layers.Unary op (formula_replaced new e.0))
        ∙ ap (λ (x : X). layer (layers.Unary op x)) e.1 ∙ sym (rolled (layers.Unary op e.0))
    one-layer (layers.Binary op d e) =
        ap of (replaced-rolled (layers.Binary op d.0 e.0) ∙ sym (rolls-Binary op (formula_replaced new d.0) (formula_replaced new e.0)))
        ∙ rolled (layers.Binary op (formula_replaced new d.0) (formula_replaced new e.0))
        ∙ ap (λ (x : X). layer (layers.Binary op x (of (formula_replaced new e.0)))) d.1
        ∙ ap (λ (x : X). layer (layers.Binary op (of d.0) x)) e.1 ∙ sym (rolled (layers.Binary op d.0 e.0))
    one-layer (layers.Many op es) =
        let fs = map (λ (e : (f : Formula) × Stays f). e.0) es in
        ap of (replaced-rolled (layers.Many op fs) ∙ sym (rolls-Many op (map (formula_replaced new) fs)))
        ∙ rolled (layers.Many op (map (formula_replaced new) fs))
        ∙ ap (λ (xs : List X). layer (layers.Many op xs)) (each-stays es) ∙ sym (rolled (layers.Many op fs))

    formula-kept : (formula : Formula) → of (formula_replaced new formula) ≡ of formula
    formula-kept = ind-Formula Stays (λ x y is. subst (λ (z : Formula-F Formula). Stays (roll-Formula z)) is (one-layer y))

module _ (new : Value → Value) where
  abbrev new-statement : Statement → Statement
  new-statement statement = statement_replaced new statement

  -- ---- arrows and primes

  arrow-kept : (formula : Formula) → has_arrow (formula_replaced new formula) ≡ has_arrow formula
  arrow-kept formula = formula-kept Bool layer_has_arrow new (λ atom. refl) formula

  prime-kept : (formula : Formula) → has_prime (formula_replaced new formula) ≡ has_prime formula
  prime-kept formula = formula-kept Bool layer_has_prime new (λ atom. refl) formula

  item_arrow-kept : (item : LitItem) → item_has_arrow (item_replaced new item) ≡ item_has_arrow item
  item_arrow-kept (items.Atom atom) = refl
  item_arrow-kept (items.Tel formula) = arrow-kept formula
  item_arrow-kept (items.Compare relation left right) = refl

  item_prime-kept : (item : LitItem) → item_has_bad_prime (item_replaced new item) ≡ item_has_bad_prime item
  item_prime-kept (items.Atom atom) = refl
  item_prime-kept (items.Tel formula) = prime-kept formula
  item_prime-kept (items.Compare relation left right) = refl

  arrows-kept : (body : List Literal) → list_any literal_has_arrow (map (literal_replaced new) body) ≡ list_any literal_has_arrow body
  arrows-kept body = any-map literal_has_arrow literal_has_arrow (literal_replaced new) (λ literal. ap (λ (b : Bool). (literal.nots == 0) && b) (item_arrow-kept literal.item)) body

  primes-kept : (body : List Literal) → list_any literal_has_bad_prime (map (literal_replaced new) body) ≡ list_any literal_has_bad_prime body
  primes-kept body = any-map literal_has_bad_prime literal_has_bad_prime (literal_replaced new) (λ literal. item_prime-kept literal.item) body

  bare_arrow-kept : (kind : Kind) → has_bare_arrow (kind_replaced new kind) ≡ has_bare_arrow kind
  bare_arrow-kept (kinds.Rule (heads.Normal atom) body) = arrows-kept body
  bare_arrow-kept (kinds.Rule (heads.Choice atom) body) = arrows-kept body
  bare_arrow-kept (kinds.Rule heads.None body) = refl
  bare_arrow-kept (kinds.Facts fact) = refl
  bare_arrow-kept (kinds.Const name expr) = refl
  bare_arrow-kept (kinds.Show shown) = refl

  bad_prime-kept : (kind : Kind) → has_bad_prime (kind_replaced new kind) ≡ has_bad_prime kind
  bad_prime-kept (kinds.Rule (heads.Normal atom) body) = ap (λ (b : Bool). head_has_bad_prime (heads.Normal atom) || b) (primes-kept body)
  bad_prime-kept (kinds.Rule (heads.Choice atom) body) = ap (λ (b : Bool). head_has_bad_prime (heads.Choice atom) || b) (primes-kept body)
  bad_prime-kept (kinds.Rule heads.None body) = primes-kept body
  bad_prime-kept (kinds.Facts fact) = refl
  bad_prime-kept (kinds.Const name expr) = refl
  bad_prime-kept (kinds.Show shown) = refl

  -- ---- tables

  predicate-kept : (atom : Atom) → predicate_of (atom_replaced new atom) ≡ predicate_of atom
  predicate-kept atom = ap (λ (n : ℕ). record { negative = atom.negative; name = atom.name; arity = n }) (length-map atom.args (expr_replaced new))

  tuples-kept : (fact : Fact) (tuples : List (List Arg)) → map (tuple_predicate (fact_replaced new fact)) (map (map (arg_replaced new)) tuples) ≡ map (tuple_predicate fact) tuples
  tuples-kept fact [] = refl
  tuples-kept fact (tuple ∷ more) =
      ap (λ (n : ℕ). record { negative = fact.negative; name = fact.name; arity = n } ∷ map (tuple_predicate (fact_replaced new fact)) (map (map (arg_replaced new)) more)) (length-map tuple (arg_replaced new))
      ∙ ap (λ (xs : List Signature). tuple_predicate fact tuple ∷ xs) (tuples-kept fact more)

  heads-kept : (kind : Kind) → head_predicates (kind_replaced new kind) ≡ head_predicates kind
  heads-kept (kinds.Rule (heads.Normal atom) body) = ap (λ (s : Signature). s ∷ []) (predicate-kept atom)
  heads-kept (kinds.Rule (heads.Choice atom) body) = ap (λ (s : Signature). s ∷ []) (predicate-kept atom)
  heads-kept (kinds.Rule heads.None body) = refl
  heads-kept (kinds.Facts fact) = tuples-kept fact fact.tuples
  heads-kept (kinds.Const name expr) = refl
  heads-kept (kinds.Show shown) = refl

  fact-kept : (kind : Kind) → is_fact (kind_replaced new kind) ≡ is_fact kind
  fact-kept (kinds.Rule head body) = refl
  fact-kept (kinds.Facts fact) = refl
  fact-kept (kinds.Const name expr) = refl
  fact-kept (kinds.Show shown) = refl

  unprimed-kept : (kind : Kind) → is_unprimed_fact (kind_replaced new kind) ≡ is_unprimed_fact kind
  unprimed-kept (kinds.Rule head body) = refl
  unprimed-kept (kinds.Facts fact) = refl
  unprimed-kept (kinds.Const name expr) = refl
  unprimed-kept (kinds.Show shown) = refl

  has_head-kept : (predicate : Signature) (s : Statement) → has_head predicate (new-statement s) ≡ has_head predicate s
  has_head-kept predicate s = ap (list_any (same_predicate predicate)) (heads-kept s.kind)

  rows-kept : (s : Statement) → gives_rows (new-statement s) ≡ gives_rows s
  rows-kept s = ap (λ (b : Bool). b && (is_always s.part && (length s.vars == 0))) (unprimed-kept s.kind)

  table-kept : (S : List Statement) (predicate : Signature) → is_table (map (statement_replaced new) S) predicate ≡ is_table S predicate
  table-kept S predicate =
      let some = λ (s : Statement). is_fact s.kind && has_head predicate s in
      let each = λ (s : Statement). not (has_head predicate s) || gives_rows s in
      ap (λ (b : Bool). b && list_all each (map (statement_replaced new) S))
      (any-map some some (statement_replaced new) (λ s. ap (λ (b : Bool). b && has_head predicate (new-statement s)) (fact-kept s.kind) ∙ ap (λ (b : Bool). is_fact s.kind && b) (has_head-kept predicate s)) S)
      ∙ ap (λ (b : Bool). list_any some S && b)
      (all-map each each (statement_replaced new) (λ s. ap (λ (b : Bool). not b || gives_rows (new-statement s)) (has_head-kept predicate s) ∙ ap (λ (b : Bool). not (has_head predicate s) || b) (rows-kept s)) S)

  -- ---- what binds

  vars-kept : (expr : Expr) → vars_of (expr_replaced new expr) ≡ vars_of expr
  vars-kept expr = fold-kept (List ℕ) layer_vars new (λ value. refl) expr

  whole-kept : (expr : Expr) → whole_var (expr_replaced new expr) ≡ whole_var expr
  whole-kept expr = fold-kept (Option ℕ) layer_whole new (λ value. refl) expr

  args-kept : (args : List Expr) → whole_args (map (expr_replaced new) args) ≡ whole_args args
  args-kept args = flat-map (λ (arg : Expr). one_var (whole_var arg)) (λ (arg : Expr). one_var (whole_var arg)) (expr_replaced new) (λ arg. ap one_var (whole-kept arg)) args

  table_atom-kept : (tables : Signature → Bool) (nots : ℕ) (atom : Atom) → is_table_atom tables nots (atom_replaced new atom) ≡ is_table_atom tables nots atom
  table_atom-kept tables nots atom = ap (λ (s : Signature). (nots == 0) && ((atom.before == 0) && ((atom.after == 0) && tables s))) (predicate-kept atom)

  item_rows-kept : (tables : Signature → Bool) (nots : ℕ) (item : LitItem) → item_row_vars tables nots (item_replaced new item) ≡ item_row_vars tables nots item
  item_rows-kept tables nots (items.Atom atom) =
      ap (λ (b : Bool). if b then whole_args (map (expr_replaced new) atom.args) else []) (table_atom-kept tables nots atom)
      ∙ ap (λ (vs : List ℕ). if is_table_atom tables nots atom then vs else []) (args-kept atom.args)
  item_rows-kept tables nots (items.Tel formula) = refl
  item_rows-kept tables nots (items.Compare relation left right) = refl

  row_vars-kept : (tables : Signature → Bool) (body : List Literal) → row_vars tables (map (literal_replaced new) body) ≡ row_vars tables body
  row_vars-kept tables body =
      let of_literal = λ (literal : Literal). item_row_vars tables literal.nots literal.item in
      flat-map of_literal of_literal (literal_replaced new) (λ literal. item_rows-kept tables literal.nots literal.item) body

  abbrev equation-replaced : Equation → Equation
  equation-replaced equation = record { left = expr_replaced new equation.left; right = expr_replaced new equation.right }

  abbrev setting-replaced : Setting → Setting
  setting-replaced setting = record { var = setting.var; value = expr_replaced new setting.value }

  relation-kept : (left right : Expr) (relation : Relation) → relation_equations (expr_replaced new left) (expr_replaced new right) relation ≡ map equation-replaced (relation_equations left right relation)
  relation-kept left right relations.Equal = refl
  relation-kept left right relations.Unequal = refl
  relation-kept left right relations.Less = refl
  relation-kept left right relations.LessEqual = refl
  relation-kept left right relations.Greater = refl
  relation-kept left right relations.GreaterEqual = refl

  item_equations-kept : (item : LitItem) → item_equations (item_replaced new item) ≡ map equation-replaced (item_equations item)
  item_equations-kept (items.Atom atom) = refl
  item_equations-kept (items.Tel formula) = refl
  item_equations-kept (items.Compare relation left right) = relation-kept left right relation

  equations-kept : (body : List Literal) → equations_of (map (literal_replaced new) body) ≡ map equation-replaced (equations_of body)
  equations-kept body = flat-mapped (λ (literal : Literal). item_equations literal.item) (literal_replaced new) equation-replaced (λ literal. item_equations-kept literal.item) body

  var_set-kept : (B : Vars) (other : Expr) (whole : Option ℕ) → var_set B (expr_replaced new other) whole ≡ map setting-replaced (var_set B other whole)
  var_set-kept B other None = refl
  var_set-kept B other (Some v) =
      ap (λ (vs : List ℕ). if not (B v) && list_all B vs then record { var = v; value = expr_replaced new other } ∷ [] else []) (vars-kept other)
      ∙ by (not (B v) && list_all B (vars_of other))
    where
      by : (b : Bool) → (if b then record { var = v; value = expr_replaced new other } ∷ [] else []) ≡ map setting-replaced (if b then record { var = v; value = other } ∷ [] else [])
      by true = refl
      by false = refl

  side-kept : (B : Vars) (side other : Expr) → side_set B (expr_replaced new side) (expr_replaced new other) ≡ map setting-replaced (side_set B side other)
  side-kept B side other = ap (var_set B (expr_replaced new other)) (whole-kept side) ∙ var_set-kept B other (whole_var side)

  sets-kept : (B : Vars) (equation : Equation) → sets B (equation-replaced equation) ≡ map setting-replaced (sets B equation)
  sets-kept B equation =
      ap (λ (xs : List Setting). xs ++ side_set B (expr_replaced new equation.right) (expr_replaced new equation.left)) (side-kept B equation.left equation.right)
      ∙ ap (λ (xs : List Setting). map setting-replaced (side_set B equation.left equation.right) ++ xs) (side-kept B equation.right equation.left)
      ∙ sym (map-append setting-replaced (side_set B equation.left equation.right) (side_set B equation.right equation.left))

  possible-kept : (B : Vars) (equations : List Equation) → possible B (map equation-replaced equations) ≡ map setting-replaced (possible B equations)
  possible-kept B equations = flat-mapped (sets B) equation-replaced setting-replaced (sets-kept B) equations

  none-first : (settings : List Setting) → first_of (map setting-replaced settings) ≡ None → first_of settings ≡ None
  none-first [] is = refl
  none-first (s ∷ more) is = absurd cc

  some-first : (settings : List Setting) (t : Setting) → first_of (map setting-replaced settings) ≡ Some t → (s : Setting) × (first_of settings ≡ Some s) × (s.var ≡ t.var)
  some-first [] t is = absurd cc
  some-first (s ∷ more) t is = let e : setting-replaced s ≡ t = cc in (s, refl, ap (λ (x : Setting). x.var) e)

  -- replaced equations set the same variables
  settings-kept : (equations : List Equation) (bound : List ℕ) (settings : List Setting) → AreSettings (map equation-replaced equations) bound settings → (own : List Setting) × AreSettings equations bound own × (bound_by bound own ≡ bound_by bound settings)
  settings-kept equations bound [] are =
      ([], none-first (possible (has bound) equations) (ap first_of (sym (possible-kept (has bound) equations)) ∙ are), refl)
  settings-kept equations bound (t ∷ more) are =
      let s = some-first (possible (has bound) equations) t (ap first_of (sym (possible-kept (has bound) equations)) ∙ are.0) in
      let rest = settings-kept equations (t.var ∷ bound) more are.1 in
      (s.0 ∷ rest.0, (s.1, subst (λ (v : ℕ). AreSettings equations (v ∷ bound) rest.0) (sym s.2) rest.1), ap (λ (v : ℕ). bound_by (v ∷ bound) rest.0) s.2 ∙ rest.2)

  body-kept : (kind : Kind) → body_of (kind_replaced new kind) ≡ map (literal_replaced new) (body_of kind)
  body-kept (kinds.Rule head body) = refl
  body-kept (kinds.Facts fact) = refl
  body-kept (kinds.Const name expr) = refl
  body-kept (kinds.Show shown) = refl

  -- what is unbound in a replaced statement was so before
  unbound-kept : (tables : Signature → Bool) (s : Statement) (first : Option ℕ) → IsFirstUnbound tables (new-statement s) first → IsFirstUnbound tables s first
  unbound-kept tables s first unbound =
      let body = body_of s.kind in
      let rows : row_vars tables (body_of (kind_replaced new s.kind)) ≡ row_vars tables body = ap (row_vars tables) (body-kept s.kind) ∙ row_vars-kept tables body in
      let equations : equations_of (body_of (kind_replaced new s.kind)) ≡ map equation-replaced (equations_of body) = ap equations_of (body-kept s.kind) ∙ equations-kept body in
      let are : AreSettings (map equation-replaced (equations_of body)) (row_vars tables body) unbound.settings =
      subst (λ (vs : List ℕ). AreSettings (map equation-replaced (equations_of body)) vs unbound.settings) rows
      (subst (λ (es : List Equation). AreSettings es (row_vars tables (body_of (kind_replaced new s.kind))) unbound.settings) equations unbound.are) in
      let own = settings-kept (equations_of body) (row_vars tables body) unbound.settings are in
      record {
        settings = own.0;
        are = own.1;
        is = subst (λ (vs : List ℕ). IsFirstMissing (has vs) (length s.vars) first) (ap (λ (vs : List ℕ). bound_by vs unbound.settings) rows ∙ sym own.2) unbound.is;
      }

-- ---- a replaced program

module _ (source : Program) (sound : IsSound source) where
  abbrev S : List Statement
  S = source.statements

  none-faulty : NoneIsFaulty S source.symbols
  none-faulty n s at name faulty = sound n s (get-in S n s at) at (causes.Const s.place name) (refl, faulty)

  module _ (new : Value → Value) (faultless : NoneIsFaulty (map (statement_replaced new) S) source.symbols) where
    abbrev made : Program
    made = record { statements = map (statement_replaced new) S; symbols = source.symbols }

    tables-kept : is_table (map (statement_replaced new) S) ≡ is_table S
    tables-kept = λ i predicate. table-kept new S predicate i

    no-cause : (n : ℕ) (s : Statement) → slice_get S n ≡ Some s → (cause : CheckFault) → IsCause made n (statement_replaced new s) cause → ⊥
    no-cause n s at (causes.Unbound place name) is =
        let unbound = is.1 in
        let there : IsFirstUnbound (is_table S) (statement_replaced new s) (Some unbound.0) = subst (λ (T : Signature → Bool). IsFirstUnbound T (statement_replaced new s) (Some unbound.0)) tables-kept unbound.1 in
        sound n s (get-in S n s at) at (causes.Unbound place name) (is.0, (unbound.0, unbound-kept new (is_table S) s (Some unbound.0) there, unbound.2))
    no-cause n s at (causes.Arrow place) is = sound n s (get-in S n s at) at (causes.Arrow place) (is.0, sym (bare_arrow-kept new s.kind) ∙ is.1)
    no-cause n s at (causes.Prime place) is = sound n s (get-in S n s at) at (causes.Prime place) (is.0, sym (bad_prime-kept new s.kind) ∙ is.1)
    no-cause n s at (causes.Const place name) is = faultless n (statement_replaced new s) (at-replaced (statement_replaced new) S n s at) name is.1
    no-cause n s at causes.Memory is = is

    made-sound : IsSound made
    made-sound n t less at cause is =
        let w = replaced-at (statement_replaced new) S n t at in
        no-cause n w.0 w.1 cause (subst (λ (x : Statement). IsCause made n x cause) (sym w.2) is)

-- a sound program is sound with its constants replaced
pub sound-kept : (source program : Program) → IsSound source → IsReplaced source program → IsSound program
sound-kept source program sound replaced =
    let links = links_of source.statements source.symbols in
    let new = replacement links replaced.known in
    let faultless = none-is-faulty source.statements source.symbols replaced.known replaced.values (none-faulty source sound) in
    let made : Program = record { statements = map (statement_replaced new) source.statements; symbols = source.symbols } in
    let same : made ≡ program =
    ap (λ (x : List Statement). record { statements = x; symbols = source.symbols }) (sym replaced.statements)
    ∙ ap (λ (y : List Term). record { statements = program.statements; symbols = y }) (sym replaced.symbols) in
    subst IsSound same (made-sound source sound new faultless)
