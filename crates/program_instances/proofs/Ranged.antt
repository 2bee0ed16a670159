-- The atoms of live instances are over the symbols of the program.
use Rattle.std.proofs.Common.{◌≡◌, inl, inr, ℕ, pos, true, List, [], ◌∷◌, ◌++◌, length, map, refl, sym, ap, ap₂, ◌∙◌, subst, ⊎_elim}
use Rattle.std.specs.Prelude.{◌==◌, Ok, Err}
use Rattle.std.specs.List.{flat_map, list_all}
use Rattle.std.specs.Result.{result_unwrap_or}
use Rattle.std.proofs.lemmas.Bool.{and_parts, and_from}
use Rattle.std.proofs.lemmas.List.{append-nil}
use Rattle.std.proofs.lemmas.Grind.{flat_map-append}
use Rattle.tel_base.specs.Members.{In}
use Rattle.tel_base.proofs.Members.{In-append_left, In-append_right, In-append_cases, In-map_from, In-flat_map, In-flat_map_from, list_all-from_In}
use Rattle.tel_term.specs.declared.terms.Term.{Term}
use Rattle.tel_term.specs.declared.terms.Value.{Value}
use Rattle.tel_term.specs.declared.terms.Value.TheVariants as values
use Rattle.tel_term.specs.declared.exprs.Expr.{Expr}
use Rattle.tel_term.specs.Arithmetic.{Valued, expr_value}
use Rattle.tel_term.specs.Order.{value_in_range}
use Rattle.tel_rule.specs.declared.formulas.Atom.{Atom}
use Rattle.tel_rule.specs.declared.formulas.Formula.{Formula}
use Rattle.tel_rule.specs.declared.formulas.Formula.TheVariants.{rolls-Const, rolls-Atom, rolls-Unary, rolls-Binary, rolls-Many}
use Rattle.tel_rule.specs.declared.formulas.Formula.TheOpen as layers
use Rattle.tel_rule.specs.declared.formulas.Formula.TheFolds.{fold-Formula, fold-roll-Formula}
use Rattle.tel_rule.specs.declared.statements.LitItem.{LitItem}
use Rattle.tel_rule.specs.declared.statements.LitItem.TheVariants as items
use Rattle.tel_rule.specs.declared.statements.Literal.{Literal}
use Rattle.tel_rule.specs.declared.statements.Head.{Head}
use Rattle.tel_rule.specs.declared.statements.Head.TheVariants as heads
use Rattle.tel_rule.specs.declared.statements.Kind.{Kind}
use Rattle.tel_rule.specs.declared.statements.Kind.TheVariants as kinds
use Rattle.tel_rule.specs.declared.statements.Statement.{Statement}
use Rattle.tel_rule.specs.declared.statements.Program.{Program}
use Rattle.tel_semantics.specs.Tables.{tuple_rows}
use Rattle.instance_build.proofs.FormulaLayers.{by_operands}
use Rattle.live_instances.specs.Bindings.{is_value}
use Rattle.live_instances.specs.Instances.{layer_exprs, item_exprs, head_exprs, rule_exprs}
use Rattle.rule_plans.specs.Within.{values_in, IsWithin, AreWithin, tuple_exprs, kind_exprs, StatementsAreWithin}
use Rattle.plan_search.proofs.Terms.{expr_term}
use Rattle.fact_rows.proofs.Terms.{tuple-terms}
use Rattle.program_theory.specs.Instances.{KindHasInstances, HaveInstances, AreInstances}
use Rattle.atom_table.specs.Named.{NamedAtom, args_in_range}
use Rattle.atom_table.specs.Collected.{args_under, atom_under, fact_atom, joined, formula_atoms, item_atoms, literal_atoms, head_atoms, rule_atoms}
use Rattle.program_instances.specs.Gathered.{kind_named, named_atoms}
use Rattle.program_instances.proofs.Named.{atoms-const, atoms-atom, atoms-unary, atoms-binary, atoms-many}

-- ---- the arguments of a rule's atoms are among its expressions

abbrev args_of : Atom → List Expr
args_of atom = atom.args

abbrev formula_exprs : Formula → List Expr
formula_exprs formula = fold-Formula (List Expr) layer_exprs formula

abbrev HasArgs : Formula → Type 0
HasArgs formula = formula_exprs formula ≡ flat_map args_of (formula_atoms formula)

each-args : (es : List ((formula : Formula) × HasArgs formula)) → flat_map (λ (exprs : List Expr). exprs) (map formula_exprs (map (λ e. e.0) es)) ≡ flat_map args_of (joined (map formula_atoms (map (λ e. e.0) es)))
each-args [] = refl
each-args (e ∷ es) =
    ap₂ (λ (xs ys : List Expr). xs ++ ys) e.1 (each-args es) ∙ sym (flat_map-append args_of (formula_atoms e.0) (joined (map formula_atoms (map (λ d. d.0) es))))

formula-args : (formula : Formula) → HasArgs formula
formula-args = by_operands HasArgs (record {
  const = λ op. ap formula_exprs (sym (rolls-Const op)) ∙ fold-roll-Formula (List Expr) layer_exprs (layers.Const op) ∙ sym (ap (flat_map args_of) (atoms-const op));
  atom = λ atom. ap formula_exprs (sym (rolls-Atom atom)) ∙ fold-roll-Formula (List Expr) layer_exprs (layers.Atom atom) ∙ sym (ap (flat_map args_of) (atoms-atom atom) ∙ append-nil atom.args);
  unary = λ op f is. ap formula_exprs (sym (rolls-Unary op f)) ∙ fold-roll-Formula (List Expr) layer_exprs (layers.Unary op f) ∙ is ∙ sym (ap (flat_map args_of) (atoms-unary op f));
  binary = λ op f g left right. ap formula_exprs (sym (rolls-Binary op f g)) ∙ fold-roll-Formula (List Expr) layer_exprs (layers.Binary op f g) ∙ ap₂ (λ (xs ys : List Expr). xs ++ ys) left right
      ∙ sym (ap (flat_map args_of) (atoms-binary op f g) ∙ flat_map-append args_of (formula_atoms f) (formula_atoms g));
  many = λ op es. ap formula_exprs (sym (rolls-Many op (map (λ e. e.0) es))) ∙ fold-roll-Formula (List Expr) layer_exprs (layers.Many op (map (λ e. e.0) es)) ∙ each-args es
      ∙ sym (ap (flat_map args_of) (atoms-many op (map (λ e. e.0) es)));
})

item-args : (item : LitItem) (atom : Atom) (expr : Expr) → In atom (item_atoms item) → In expr atom.args → In expr (item_exprs item)
item-args (items.Atom other) atom expr there own =
    ⊎_elim (λ (is : other ≡ atom). subst (λ (a : Atom). In expr a.args) (sym is) own) (λ none. absurd none) there
item-args (items.Tel formula) atom expr there own =
    subst (λ (exprs : List Expr). In expr exprs) (sym (formula-args formula)) (In-flat_map args_of atom expr (formula_atoms formula) there own)
item-args (items.Compare relation left right) atom expr there own = absurd there

head-args : (head : Head) (atom : Atom) (expr : Expr) → In atom (head_atoms head) → In expr atom.args → In expr (head_exprs head)
head-args (heads.Normal other) atom expr there own =
    ⊎_elim (λ (is : other ≡ atom). subst (λ (a : Atom). In expr a.args) (sym is) own) (λ none. absurd none) there
head-args (heads.Choice other) atom expr there own =
    ⊎_elim (λ (is : other ≡ atom). subst (λ (a : Atom). In expr a.args) (sym is) own) (λ none. absurd none) there
head-args heads.None atom expr there own = absurd there

abbrev exprs_of : Literal → List Expr
exprs_of literal = item_exprs literal.item

rule-args : (head : Head) (body : List Literal) (atom : Atom) (expr : Expr) → In atom (rule_atoms head body) → In expr atom.args → In expr (rule_exprs head body)
rule-args head body atom expr there own =
    ⊎_elim
    (λ (here : In atom (head_atoms head)). In-append_left expr (head_exprs head) (flat_map exprs_of body) (head-args head atom expr here own))
    (λ (later : In atom (flat_map literal_atoms body)).
    (let from = In-flat_map_from literal_atoms atom body later in
    In-append_right expr (head_exprs head) (flat_map exprs_of body) (In-flat_map exprs_of from.0 expr body from.1 (item-args from.0.item atom expr from.2 own))))
    (In-append_cases atom (head_atoms head) (flat_map literal_atoms body) there)

-- ---- values

module _ (symbols : List Term) where
  value-range : (value : Value) → is_value symbols value ≡ true → value_in_range symbols value ≡ true
  value-range (values.Num number) is = refl
  value-range (values.Sym number) is = is

  row-range : (row : List Value) → list_all (is_value symbols) row ≡ true → list_all (value_in_range symbols) row ≡ true
  row-range [] all = refl
  row-range (value ∷ row) all =
      let both = and_parts (is_value symbols value) (list_all (is_value symbols) row) all in
      and_from (value_in_range symbols value) (list_all (value_in_range symbols) row) (value-range value both.0) (row-range row both.1)

  under-range : (count : ℕ) (binding : List Value) (expr : Expr) → list_all (is_value symbols) binding ≡ true → IsWithin symbols count expr → (v : Valued) → expr_value binding expr ≡ v → value_in_range symbols (result_unwrap_or v (values.Num (pos 0))) ≡ true
  under-range count binding expr all within (Ok value) is =
      value-range value (expr_term symbols binding expr value all (list_all-from_In (is_value symbols) (values_in expr) within.values) is)
  under-range count binding expr all within (Err fault) is = refl

  args-range : (count : ℕ) (binding : List Value) (args : List Expr) → list_all (is_value symbols) binding ≡ true → AreWithin symbols count args → list_all (value_in_range symbols) (args_under binding args) ≡ true
  args-range count binding [] all within = refl
  args-range count binding (arg ∷ more) all within =
      and_from (value_in_range symbols (result_unwrap_or (expr_value binding arg) (values.Num (pos 0)))) (list_all (value_in_range symbols) (args_under binding more))
      (under-range count binding arg all (within arg (inl refl)) (expr_value binding arg) refl) (args-range count binding more all (λ expr there. within expr (inr there)))

  -- ---- live instances

  kind-range : (statements : List Statement) (count : ℕ) (kind : Kind) (live : List (List Value)) → AreWithin symbols count (kind_exprs kind) → KindHasInstances statements symbols count kind live
      → (atom : NamedAtom) → In atom (kind_named kind live) → args_in_range symbols atom ≡ true
  kind-range statements count (kinds.Rule head body) live within are atom there =
      let binding = In-flat_map_from (λ (b : List Value). map (atom_under b) (rule_atoms head body)) atom live there in
      let from = In-map_from (atom_under binding.0) atom (rule_atoms head body) binding.2 in
      let is = ((are.members binding.0).0 binding.1).0 in
      let terms = (and_parts (length binding.0 == count) (list_all (is_value symbols) binding.0) is).1 in
      subst (λ (a : NamedAtom). args_in_range symbols a ≡ true) from.2
      (args-range count binding.0 from.0.args terms (λ expr own. within expr (rule-args head body from.0 expr from.1 own)))
  kind-range statements count (kinds.Facts fact) live within are atom there =
      let from = In-map_from (fact_atom fact) atom live there in
      let row = subst (λ (l : List (List Value)). In from.0 l) are from.1 in
      let tuple = In-flat_map_from tuple_rows from.0 fact.tuples row in
      subst (λ (a : NamedAtom). args_in_range symbols a ≡ true) from.2
      (row-range from.0 (tuple-terms symbols count tuple.0 from.0 (λ expr own. within expr (In-flat_map tuple_exprs tuple.0 expr fact.tuples tuple.1 own)) tuple.2))
  kind-range statements count (kinds.Const name value) live within are atom there = absurd there
  kind-range statements count (kinds.Show shown) live within are atom there = absurd there

  each-range : (statements some : List Statement) (live : List (List (List Value))) → StatementsAreWithin symbols some → HaveInstances statements symbols some live
      → (atom : NamedAtom) → In atom (named_atoms some live) → args_in_range symbols atom ≡ true
  each-range statements [] live within are atom there = absurd there
  each-range statements (statement ∷ more) [] within are atom there = absurd there
  each-range statements (statement ∷ more) (live ∷ later) within are atom there =
      ⊎_elim
      (λ (here : In atom (kind_named statement.kind live)). kind-range statements (length statement.vars) statement.kind live (within statement (inl refl)) are.0 atom here)
      (λ (rest : In atom (named_atoms more later)). each-range statements more later (λ other found. within other (inr found)) are.1 atom rest)
      (In-append_cases atom (kind_named statement.kind live) (named_atoms more later) there)

pub named-range : (program : Program) (live : List (List (List Value))) → StatementsAreWithin program.symbols program.statements → AreInstances program live
    → (atom : NamedAtom) → In atom (named_atoms program.statements live) → args_in_range program.symbols atom ≡ true
named-range program live within are = each-range program.symbols program.statements program.statements live within are
