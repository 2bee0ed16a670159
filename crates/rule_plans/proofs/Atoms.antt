-- Table atoms as a plan sees them.
use Rattle.std.proofs.Common.{◌≡◌, inl, inr, ℕ, suc, ◌<◌, ◌≤◌, Bool, true, false, List, [], ◌∷◌, map, refl, sym, ap, ◌∙◌, subst, ⊎_elim, arith, true≢false}
use Rattle.std.specs.Prelude.{◌&&◌, ◌==◌, Ok, Err, Option, Some, None, if◌then◌else◌}
use Rattle.std.specs.List.{list_all, flat_map}
use Rattle.std.proofs.lemmas.Bool.{and_parts, and_from}
use Rattle.tel_base.specs.Members.{In}
use Rattle.tel_base.proofs.Members.{In-append_right, In-flat_map, In-flat_map_from}
use Rattle.tel_term.specs.declared.terms.Term.{Term}
use Rattle.tel_term.specs.declared.terms.Value.{Value}
use Rattle.tel_term.specs.declared.exprs.Expr.{Expr}
use Rattle.tel_term.specs.Arithmetic.{Valued, expr_value}
use Rattle.tel_rule.specs.declared.formulas.Atom.{Atom}
use Rattle.tel_rule.specs.declared.statements.Head.{Head}
use Rattle.tel_rule.specs.declared.statements.LitItem.{LitItem}
use Rattle.tel_rule.specs.declared.statements.LitItem.TheVariants as items
use Rattle.tel_rule.specs.declared.statements.Literal.{Literal}
use Rattle.tel_rule.specs.declared.statements.Statement.{Statement}
use Rattle.tel_semantics.specs.Tables.{predicate_of, is_table, is_row}
use Rattle.rule_binding.specs.Binding.{vars_of, whole_var, is_table_atom}
use Rattle.live_instances.specs.Instances.{item_exprs, head_exprs, rule_exprs, item_table_atoms, table_atoms, with_value, values_of, passes, atom_is_row}
use Rattle.join_plans.specs.Join.{at}
use Rattle.join_plans.specs.Atoms.{Arg, Whole, Other, TableAtom, ArgsAre, IsRow, AreRows, after_args, after_atoms, ArgsBelow, AtomsBelow}
use Rattle.rule_plans.specs.Goals.{ok_value, arg_from, arg_of, Rows, table_atom_of}
use Rattle.rule_plans.specs.Within.{AreRowsOf}
use Rattle.rule_plans.proofs.Exprs.{value_reads, whole_is}

-- ---- options and results

pub ok_from : (x : Valued) (value : Value) → ok_value x ≡ Some value → x ≡ Ok value
ok_from (Ok other) value e = let same : other ≡ value = cc in ap Ok same
ok_from (Err fault) value e = absurd cc

pub ok_one : (x y : Value) → ◌≡◌ {A = Valued} (Ok x) (Ok y) → x ≡ y
ok_one x y e = cc

some_one : {X : Type 0} (x y : X) → Some x ≡ Some y → x ≡ y
some_one x y e = cc

-- ---- arguments

module _ (b : List Value) where
  one_to : (expr : Expr) (x : Value) (args : List Arg) (row : List Value) (whole : Option ℕ) → whole_var expr ≡ whole → expr_value b expr ≡ Ok x → ArgsAre b args row → ArgsAre b (arg_from expr whole ∷ args) (x ∷ row)
  one_to expr x args row None e is rest = (ap ok_value is, rest)
  one_to expr x args row (Some v) e is rest = (ok_one (at b v) x (sym ((whole_is expr v e).1 b) ∙ is), rest)

  one_from : (expr : Expr) (x : Value) (args : List Arg) (row : List Value) (whole : Option ℕ) → whole_var expr ≡ whole → ArgsAre b (arg_from expr whole ∷ args) (x ∷ row) → (expr_value b expr ≡ Ok x) × ArgsAre b args row
  one_from expr x args row None e are = (ok_from (expr_value b expr) x are.0, are.1)
  one_from expr x args row (Some v) e are = ((whole_is expr v e).1 b ∙ ap Ok are.0, are.1)

  one_none : {P : Type 0} (arg : Arg) (args : List Arg) → ArgsAre b (arg ∷ args) [] → P
  one_none (Whole v) args are = absurd are
  one_none (Other e) args are = absurd are

  with_value_is : (x : Valued) (o : Option (List Value)) (row : List Value) → with_value x o ≡ Some row → (value : Value) × (rest : List Value) × (x ≡ Ok value) × (o ≡ Some rest) × (row ≡ value ∷ rest)
  with_value_is (Ok value) (Some rest) row e = (value, rest, refl, refl, sym (some_one (value ∷ rest) row e))
  with_value_is (Ok value) None row e = absurd cc
  with_value_is (Err fault) o row e = absurd cc

  pub args_to : (args : List Expr) (row : List Value) → values_of b args ≡ Some row → ArgsAre b (map arg_of args) row
  args_to [] row e = subst (λ (r : List Value). ArgsAre b [] r) (some_one [] row e) tt
  args_to (expr ∷ more) row e =
      let parts = with_value_is (expr_value b expr) (values_of b more) row e in
      subst (λ (r : List Value). ArgsAre b (arg_of expr ∷ map arg_of more) r) (sym parts.4) (one_to expr parts.0 (map arg_of more) parts.1 (whole_var expr) refl parts.2 (args_to more parts.1 parts.3))

  pub args_from : (args : List Expr) (row : List Value) → ArgsAre b (map arg_of args) row → values_of b args ≡ Some row
  args_from [] [] are = refl
  args_from [] (x ∷ row) are = absurd are
  args_from (expr ∷ more) [] are = one_none (arg_of expr) (map arg_of more) are
  args_from (expr ∷ more) (x ∷ row) are =
      let parts = one_from expr x (map arg_of more) row (whole_var expr) refl are in
      ap (λ (y : Valued). with_value y (values_of b more)) parts.0 ∙ ap (with_value (Ok x)) (args_from more row parts.1)

-- ---- atoms

passes_is : (test : List Value → Bool) (o : Option (List Value)) → passes test o ≡ true → (row : List Value) × (o ≡ Some row) × (test row ≡ true)
passes_is test None h = absurd (true≢false (sym h))
passes_is test (Some row) h = (row, refl, h)

-- the predicates of these are tables
abbrev pub AreTables : List Statement → List Atom → Type 0
AreTables statements atoms = (atom : Atom) → In atom atoms → is_table statements (predicate_of atom) ≡ true

module _ (statements : List Statement) (symbols : List Term) (rows : Rows) (are : AreRowsOf statements symbols rows) (b : List Value) where
  atom_to : (atom : Atom) → is_table statements (predicate_of atom) ≡ true → atom_is_row statements b atom ≡ true → IsRow b (table_atom_of rows atom)
  atom_to atom table h =
      let found = passes_is (is_row statements (predicate_of atom)) (values_of b atom.args) h in
      record { row = found.0; has = (are.same (predicate_of atom) table found.0).1 found.2; is = args_to b atom.args found.0 found.1 }

  atom_from : (atom : Atom) → is_table statements (predicate_of atom) ≡ true → IsRow b (table_atom_of rows atom) → atom_is_row statements b atom ≡ true
  atom_from atom table is =
      ap (passes (is_row statements (predicate_of atom))) (args_from b atom.args is.row is.is) ∙ (are.same (predicate_of atom) table is.row).0 is.has

  pub atoms_to : (atoms : List Atom) → AreTables statements atoms → list_all (atom_is_row statements b) atoms ≡ true → AreRows b (map (table_atom_of rows) atoms)
  atoms_to [] tables h = tt
  atoms_to (atom ∷ more) tables h =
      let both = and_parts (atom_is_row statements b atom) (list_all (atom_is_row statements b) more) h in
      (atom_to atom (tables atom (inl refl)) both.0, atoms_to more (λ other there. tables other (inr there)) both.1)

  pub atoms_from : (atoms : List Atom) → AreTables statements atoms → AreRows b (map (table_atom_of rows) atoms) → list_all (atom_is_row statements b) atoms ≡ true
  atoms_from [] tables h = refl
  atoms_from (atom ∷ more) tables h =
      and_from (atom_is_row statements b atom) (list_all (atom_is_row statements b) more) (atom_from atom (tables atom (inl refl)) h.0) (atoms_from more (λ other there. tables other (inr there)) h.1)

-- ---- table atoms are of tables

item_table : (statements : List Statement) (nots : ℕ) (item : LitItem) (atom : Atom) → In atom (item_table_atoms statements nots item) → is_table statements (predicate_of atom) ≡ true
item_table statements nots (items.Atom other) atom there = of (is_table_atom (is_table statements) nots other) refl there
  where
    table : is_table_atom (is_table statements) nots other ≡ true → is_table statements (predicate_of other) ≡ true
    table is =
        let unprimed = and_parts (nots == 0) ((other.before == 0) && ((other.after == 0) && is_table statements (predicate_of other))) is in
        let after = and_parts (other.before == 0) ((other.after == 0) && is_table statements (predicate_of other)) unprimed.1 in
        (and_parts (other.after == 0) (is_table statements (predicate_of other)) after.1).1

    of : (t : Bool) → is_table_atom (is_table statements) nots other ≡ t → In atom (if t then other ∷ [] else []) → is_table statements (predicate_of atom) ≡ true
    of true is here = ⊎_elim (λ (same : other ≡ atom). subst (λ (a : Atom). is_table statements (predicate_of a) ≡ true) same (table is)) (λ none. absurd none) here
    of false is here = absurd here
item_table statements nots (items.Tel formula) atom there = absurd there
item_table statements nots (items.Compare relation left right) atom there = absurd there

pub table_atoms_are : (statements : List Statement) (body : List Literal) → AreTables statements (table_atoms statements body)
table_atoms_are statements body atom there =
    let from = In-flat_map_from (λ (l : Literal). item_table_atoms statements l.nots l.item) atom body there in
    item_table statements from.0.nots from.0.item atom from.2

-- ---- variables below a number

abbrev VarsBelow : ℕ → List Expr → Type 0
VarsBelow n exprs = (expr : Expr) → In expr exprs → (v : ℕ) → In v (vars_of expr) → v < n

arg_below : (n : ℕ) (expr : Expr) (more : List Arg) (whole : Option ℕ) → whole_var expr ≡ whole → ((v : ℕ) → In v (vars_of expr) → v < n) → ArgsBelow n more → ArgsBelow n (arg_from expr whole ∷ more)
arg_below n expr more None e below rest = ((λ a b same. ap ok_value (value_reads a b expr (λ v there. same v (below v there)))), rest)
arg_below n expr more (Some v) e below rest = (below v (subst (λ (vars : List ℕ). In v vars) (sym (whole_is expr v e).0) (inl refl)), rest)

args_below : (n : ℕ) (args : List Expr) → VarsBelow n args → ArgsBelow n (map arg_of args)
args_below n [] below = tt
args_below n (expr ∷ more) below = arg_below n expr (map arg_of more) (whole_var expr) refl (below expr (inl refl)) (args_below n more (λ e there. below e (inr there)))

pub atoms_below : (n : ℕ) (rows : Rows) (atoms : List Atom) → ((atom : Atom) → In atom atoms → VarsBelow n atom.args) → AtomsBelow n (map (table_atom_of rows) atoms)
atoms_below n rows [] below = tt
atoms_below n rows (atom ∷ more) below = (args_below n atom.args (below atom (inl refl)), atoms_below n rows more (λ other there. below other (inr there)))

-- ---- the expressions of table atoms are those of their rule

item_atom : (statements : List Statement) (nots : ℕ) (item : LitItem) (atom : Atom) (expr : Expr) → In atom (item_table_atoms statements nots item) → In expr atom.args → In expr (item_exprs item)
item_atom statements nots (items.Atom other) atom expr there arg = of (is_table_atom (is_table statements) nots other) there
  where
    of : (t : Bool) → In atom (if t then other ∷ [] else []) → In expr other.args
    of true here = ⊎_elim (λ (same : other ≡ atom). subst (λ (a : Atom). In expr a.args) (sym same) arg) (λ none. absurd none) here
    of false here = absurd here
item_atom statements nots (items.Tel formula) atom expr there arg = absurd there
item_atom statements nots (items.Compare relation left right) atom expr there arg = absurd there

pub item_in_rule : (head : Head) (body : List Literal) (literal : Literal) (expr : Expr) → In literal body → In expr (item_exprs literal.item) → In expr (rule_exprs head body)
item_in_rule head body literal expr there arg =
    In-append_right expr (head_exprs head) (flat_map (λ (l : Literal). item_exprs l.item) body) (In-flat_map (λ (l : Literal). item_exprs l.item) literal expr body there arg)

pub atom_in_rule : (statements : List Statement) (head : Head) (body : List Literal) (atom : Atom) (expr : Expr) → In atom (table_atoms statements body) → In expr atom.args → In expr (rule_exprs head body)
atom_in_rule statements head body atom expr there arg =
    let from = In-flat_map_from (λ (l : Literal). item_table_atoms statements l.nots l.item) atom body there in
    item_in_rule head body from.0 expr from.1 (item_atom statements from.0.nots from.0.item atom expr from.2 arg)

-- ---- places

after_args_least : (k : ℕ) (args : List Arg) → k ≤ after_args k args
after_args_least k [] = omega arith
after_args_least k (Whole v ∷ args) = after_args_least k args
after_args_least k (Other e ∷ args) = omega (arith, after_args_least (suc k) args)

pub after_atoms_least : (k : ℕ) (atoms : List TableAtom) → k ≤ after_atoms k atoms
after_atoms_least k [] = omega arith
after_atoms_least k (atom ∷ more) = omega (arith, after_args_least k atom.args, after_atoms_least (after_args k atom.args) more)
