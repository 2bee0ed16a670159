-- What the goals of a body mean.
use Rattle.std.proofs.Common.{◌≡◌, ◌∙◌, ℕ, Bool, true, false, ◌&&◌, List, [], ◌∷◌, ◌++◌, map, refl, sym, ap, subst}
use Rattle.std.specs.Prelude.{Option, Some, None, ◌==◌, if◌then◌else◌}
use Rattle.std.specs.List.{flat_map}
use Rattle.std.proofs.lemmas.List.{map-append}
use Rattle.std.proofs.lemmas.Grind.{flat_map-append}
use Rattle.tel_base.specs.Members.{In}
use Rattle.tel_base.proofs.Members.{In-append_left, In-append_cases}
use Rattle.tel_term.specs.declared.terms.Term.{Term}
use Rattle.tel_term.specs.declared.exprs.Expr.{Expr}
use Rattle.tel_rule.specs.declared.formulas.Atom.{Atom}
use Rattle.tel_rule.specs.declared.statements.Relation.{Relation}
use Rattle.tel_rule.specs.declared.statements.Relation.TheVariants as relations
use Rattle.tel_rule.specs.declared.statements.LitItem.{LitItem}
use Rattle.tel_rule.specs.declared.statements.LitItem.TheVariants as items
use Rattle.tel_rule.specs.declared.statements.Literal.{Literal}
use Rattle.tel_rule.specs.declared.statements.Statement.{Statement}
use Rattle.tel_semantics.specs.Tables.{predicate_of, is_table}
use Rattle.rule_binding.specs.Binding.{whole_var, is_table_atom, item_equations, relation_equations, equations_of}
use Rattle.live_instances.specs.Instances.{item_table_atoms, table_atoms}
use Rattle.join_plans.specs.Goals as plans
use Rattle.join_plans.specs.Goals.{arg_goals, atom_goals}
use Rattle.join_plans.specs.Atoms.{Arg, TableAtom, places, after_args, after_atoms}
use Rattle.fact_table.specs.Rows.{rows_of}
use Rattle.rule_plans.specs.Goals.{Rows, expression_of, comparison_of, arg_from, arg_of, table_atom_of, rule_atoms, place_count, row_goals, side_goals, equation_goals, item_goals, body_goals}
use Rattle.plan_search.specs.Steps.{Tables}
use Rattle.plan_order.specs.declared.goals.Goal.{Goal}
use Rattle.plan_order.specs.declared.goals.Goal.TheVariants as goals
use Rattle.plan_order.specs.Goals.{meant}
use Rattle.rule_goals.specs.Said.{Said, Row, Equal, Compare, said, all_said, Numbers, own_place, next_free, arg_places, behind_args, arg_said, args_said, table_of, row_said, behind_row, item_rows, behind_item, body_rows, behind_body, side_said, sides_said, equation_said, comparison_said, equations_said, comparisons_said, SayBody, SayRows}
use Rattle.rule_goals.specs.Numbers.{has_number, AreNumbered}
use Rattle.rule_goals.specs.Laws.{AreGoalsOf, AreRowGoalsOf, GoalsOfBodiesAreRuleGoals}

-- ---- places

places_step : (free : ℕ) (arg : Expr) (args : List Arg) (rest : List ℕ) (whole : Option ℕ) → rest ≡ places (next_free free whole) args → own_place free whole ∷ rest ≡ places free (arg_from arg whole ∷ args)
places_step free arg args rest None is = ap (λ (l : List ℕ). free ∷ l) is
places_step free arg args rest (Some v) is = ap (λ (l : List ℕ). v ∷ l) is

places_are : (free : ℕ) (args : List Expr) → arg_places free args ≡ places free (map arg_of args)
places_are free [] = refl
places_are free (arg ∷ args) = places_step free arg (map arg_of args) (arg_places (next_free free (whole_var arg)) args) (whole_var arg) (places_are (next_free free (whole_var arg)) args)

behind_step : (free end : ℕ) (arg : Expr) (args : List Arg) (whole : Option ℕ) → end ≡ after_args (next_free free whole) args → end ≡ after_args free (arg_from arg whole ∷ args)
behind_step free end arg args None is = is
behind_step free end arg args (Some v) is = is

behind_are : (free : ℕ) (args : List Expr) → behind_args free args ≡ after_args free (map arg_of args)
behind_are free [] = refl
behind_are free (arg ∷ args) = behind_step free (behind_args (next_free free (whole_var arg)) args) arg (map arg_of args) (whole_var arg) (behind_are (next_free free (whole_var arg)) args)

-- ---- tables

has_if : (a b c : Bool) (o : Option ℕ) → has_number (if a && (b && c) then o else None) ≡ (a && (b && (c && has_number o)))
has_if true true true o = refl
has_if true true false o = refl
has_if true false c o = refl
has_if false b c o = refl

some_if : (a : Bool) (o : Option ℕ) (t : ℕ) → (if a then o else None) ≡ Some t → o ≡ Some t
some_if true o t e = e
some_if false o t e = absurd cc

module _ (tables : Tables) (symbols : List Term) where
  abbrev means : Said → plans.Goal
  means (Row table where_to) = plans.IsRow where_to (rows_of tables table)
  means (Equal place expr reads) = plans.HasValue place (expression_of expr)
  means (Compare relation left right reads) = plans.Compares (comparison_of symbols relation left right)

  means_one : (goal : Goal) → meant tables symbols goal ≡ means (said goal)
  means_one (goals.Row predicate where_to) = refl
  means_one (goals.Equal place expr reads) = refl
  means_one (goals.Compare relation left right reads) = refl

  means_all : (list : List Goal) → map (meant tables symbols) list ≡ map means (all_said list)
  means_all [] = refl
  means_all (goal ∷ list) = λ i. means_one goal i ∷ means_all list i

  -- ---- arguments

  args_step : (free : ℕ) (arg : Expr) (args : List Arg) (rest : List Said) (whole : Option ℕ) → map means rest ≡ arg_goals (next_free free whole) args → map means (arg_said free arg whole ++ rest) ≡ arg_goals free (arg_from arg whole ∷ args)
  args_step free arg args rest None is = ap (λ (l : List plans.Goal). plans.HasValue free (expression_of arg) ∷ l) is
  args_step free arg args rest (Some v) is = is

  args_are : (free : ℕ) (args : List Expr) → map means (args_said free args) ≡ arg_goals free (map arg_of args)
  args_are free [] = refl
  args_are free (arg ∷ args) = args_step free arg (map arg_of args) (args_said (next_free free (whole_var arg)) args) (whole_var arg) (args_are (next_free free (whole_var arg)) args)

  -- ---- equations and comparisons

  both_sides : (left right : Expr) (a b : Option ℕ) → map means (side_said right a ++ side_said left b) ≡ (side_goals right a ++ side_goals left b) ++ []
  both_sides left right None None = refl
  both_sides left right None (Some w) = refl
  both_sides left right (Some v) None = refl
  both_sides left right (Some v) (Some w) = refl

  relation_are : (left right : Expr) (relation : Relation) → map means (sides_said left right relation) ≡ flat_map equation_goals (relation_equations left right relation)
  relation_are left right relations.Equal = both_sides left right (whole_var left) (whole_var right)
  relation_are left right relations.Unequal = refl
  relation_are left right relations.Less = refl
  relation_are left right relations.LessEqual = refl
  relation_are left right relations.Greater = refl
  relation_are left right relations.GreaterEqual = refl

  equation_are : (item : LitItem) → map means (equation_said item) ≡ flat_map equation_goals (item_equations item)
  equation_are (items.Atom atom) = refl
  equation_are (items.Tel formula) = refl
  equation_are (items.Compare relation left right) = relation_are left right relation

  equations_are : (body : List Literal) → map means (equations_said body) ≡ flat_map equation_goals (equations_of body)
  equations_are [] = refl
  equations_are (literal ∷ body) =
      map-append means (equation_said literal.item) (equations_said body)
      ∙ (λ i. equation_are literal.item i ++ equations_are body i)
      ∙ sym (flat_map-append equation_goals (item_equations literal.item) (equations_of body))

  comparison_are : (item : LitItem) → map means (comparison_said item) ≡ item_goals symbols item
  comparison_are (items.Atom atom) = refl
  comparison_are (items.Tel formula) = refl
  comparison_are (items.Compare relation left right) = refl

  comparisons_are : (body : List Literal) → map means (comparisons_said body) ≡ flat_map (λ (literal : Literal). item_goals symbols literal.item) body
  comparisons_are [] = refl
  comparisons_are (literal ∷ body) = map-append means (comparison_said literal.item) (comparisons_said body) ∙ (λ i. comparison_are literal.item i ++ comparisons_are body i)

  -- ---- table atoms

  module _ (number : Numbers) (statements : List Statement) (rows : Rows) (fits : AreNumbered number statements rows tables) where
    has_table : (nots : ℕ) (atom : Atom) → has_number (table_of number nots atom) ≡ is_table_atom (is_table statements) nots atom
    has_table nots atom =
        has_if (nots == 0) (atom.before == 0) (atom.after == 0) (number (predicate_of atom))
        ∙ ap (λ (b : Bool). (nots == 0) && ((atom.before == 0) && ((atom.after == 0) && b))) (fits.tables_have (predicate_of atom))

    rows_here : (nots : ℕ) (atom : Atom) (table : ℕ) → table_of number nots atom ≡ Some table → rows_of tables table ≡ rows (predicate_of atom)
    rows_here nots atom table is = sym (fits.rows_are (predicate_of atom) table (some_if ((nots == 0) && ((atom.before == 0) && (atom.after == 0))) (number (predicate_of atom)) table is))

    abbrev atoms_if : Atom → Option ℕ → List TableAtom
    atoms_if atom table = map (table_atom_of rows) (if has_number table then atom ∷ [] else [])

    atom_are : (free : ℕ) (atom : Atom) (more : List TableAtom) (rest : List Said) (table : Option ℕ) → ((t : ℕ) → table ≡ Some t → rows_of tables t ≡ rows (predicate_of atom)) → map means rest ≡ atom_goals (behind_row free atom.args table) more
        → map means (row_said free atom.args table ++ rest) ≡ atom_goals free (atoms_if atom table ++ more)
    atom_are free atom more rest None has is = is
    atom_are free atom more rest (Some t) has is =
        let first = has t refl in
        let where_to = places_are free atom.args in
        let later =
        map-append means (args_said free atom.args) rest
        ∙ (λ i. args_are free atom.args i ++ is i)
        ∙ ap (λ (k : ℕ). arg_goals free (map arg_of atom.args) ++ atom_goals k more) (behind_are free atom.args) in
        λ i. plans.IsRow (where_to i) (first i) ∷ later i

    atom_behind : (free : ℕ) (atom : Atom) (more : List TableAtom) (end : ℕ) (table : Option ℕ) → end ≡ after_atoms (behind_row free atom.args table) more → end ≡ after_atoms free (atoms_if atom table ++ more)
    atom_behind free atom more end None is = is
    atom_behind free atom more end (Some t) is = is ∙ ap (λ (k : ℕ). after_atoms k more) (behind_are free atom.args)

    item_are : (free nots : ℕ) (item : LitItem) (more : List TableAtom) (rest : List Said) → map means rest ≡ atom_goals (behind_item number free nots item) more
        → map means (item_rows number free nots item ++ rest) ≡ atom_goals free (map (table_atom_of rows) (item_table_atoms statements nots item) ++ more)
    item_are free nots (items.Atom atom) more rest is =
        atom_are free atom more rest (table_of number nots atom) (rows_here nots atom) is
        ∙ ap (λ (b : Bool). atom_goals free (map (table_atom_of rows) (if b then atom ∷ [] else []) ++ more)) (has_table nots atom)
    item_are free nots (items.Tel formula) more rest is = is
    item_are free nots (items.Compare relation left right) more rest is = is

    item_behind : (free nots : ℕ) (item : LitItem) (more : List TableAtom) (end : ℕ) → end ≡ after_atoms (behind_item number free nots item) more → end ≡ after_atoms free (map (table_atom_of rows) (item_table_atoms statements nots item) ++ more)
    item_behind free nots (items.Atom atom) more end is =
        atom_behind free atom more end (table_of number nots atom) is
        ∙ ap (λ (b : Bool). after_atoms free (map (table_atom_of rows) (if b then atom ∷ [] else []) ++ more)) (has_table nots atom)
    item_behind free nots (items.Tel formula) more end is = is
    item_behind free nots (items.Compare relation left right) more end is = is

    atoms_apart : (literal : Literal) (body : List Literal) → rule_atoms statements rows (literal ∷ body) ≡ map (table_atom_of rows) (item_table_atoms statements literal.nots literal.item) ++ rule_atoms statements rows body
    atoms_apart literal body = map-append (table_atom_of rows) (item_table_atoms statements literal.nots literal.item) (table_atoms statements body)

    rows_are : (free : ℕ) (body : List Literal) → map means (body_rows number free body) ≡ row_goals statements rows free body
    rows_are free [] = refl
    rows_are free (literal ∷ body) =
        item_are free literal.nots literal.item (rule_atoms statements rows body) (body_rows number (behind_item number free literal.nots literal.item) body) (rows_are (behind_item number free literal.nots literal.item) body)
        ∙ ap (atom_goals free) (sym (atoms_apart literal body))

    behind_is : (free : ℕ) (body : List Literal) → behind_body number free body ≡ place_count statements rows free body
    behind_is free [] = refl
    behind_is free (literal ∷ body) =
        item_behind free literal.nots literal.item (rule_atoms statements rows body) (behind_body number (behind_item number free literal.nots literal.item) body) (behind_is (behind_item number free literal.nots literal.item) body)
        ∙ ap (after_atoms free) (sym (atoms_apart literal body))

    -- ---- bodies

    pub row_goals_of : (vars : ℕ) (body : List Literal) (count : ℕ) (list : List Goal) → SayRows number vars body count list → AreRowGoalsOf statements symbols rows tables vars body count list
    row_goals_of vars body count list say = record {
      places_are = say.places_are ∙ behind_is vars body;
      goals_are = means_all list ∙ ap (map means) say.goals_are ∙ rows_are vars body;
    }

    pub goals_of : (vars : ℕ) (body : List Literal) (count : ℕ) (list : List Goal) → SayBody number vars body count list → AreGoalsOf statements symbols rows tables vars body count list
    goals_of vars body count list say = record {
      places_are = say.places_are ∙ behind_is vars body;
      goals_are =
          means_all list
          ∙ ap (map means) say.goals_are
          ∙ map-append means (body_rows number vars body) (equations_said body ++ comparisons_said body)
          ∙ ap (λ (l : List plans.Goal). map means (body_rows number vars body) ++ l) (map-append means (equations_said body) (comparisons_said body))
          ∙ (λ i. rows_are vars body i ++ (equations_are body i ++ comparisons_are body i));
    }

pub rule_goals_are : GoalsOfBodiesAreRuleGoals
rule_goals_are statements symbols rows tables vars body count list are = record {
  places_are = are.places_are;
  all = λ goal there. subst (λ (l : List plans.Goal). In goal l) (sym are.goals_are) (In-append_left goal (row_goals statements rows vars body) (body_goals symbols body) there);
  only = λ goal there. In-append_cases goal (row_goals statements rows vars body) (body_goals symbols body) (subst (λ (l : List plans.Goal). In goal l) are.goals_are there);
}
