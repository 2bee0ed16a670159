-- A plan of a rule finds its live bindings.
use Rattle.std.proofs.Common.{◌≡◌, inl, inr, ℕ, zero, suc, ◌<◌, ◌≤◌, ◌+◌, Bool, true, false, ◌==◌, List, [], ◌∷◌, ◌++◌, map, length, take, drop, replicate, refl, sym, ap, ap₂, ◌∙◌, subst, ⊎_elim, arith}
use Rattle.std.specs.Prelude.{Option, Some, None}
use Rattle.std.specs.List.{list_all, flat_map}
use Rattle.std.proofs.lemmas.Bool.{and_parts, and_from, eqb-true, eq-eqb}
use Rattle.std.proofs.lemmas.List.{length-append, length-take-le, take-append-drop}
use Rattle.tel_base.specs.Members.{In}
use Rattle.tel_base.proofs.Members.{In-append_cases, In-flat_map_from}
use Rattle.tel_term.specs.declared.terms.Term.{Term}
use Rattle.tel_term.specs.declared.terms.Value.{Value}
use Rattle.tel_term.specs.declared.exprs.Expr.{Expr}
use Rattle.tel_term.specs.Arithmetic.{expr_value}
use Rattle.tel_term.specs.Symbols.{IsTable}
use Rattle.tel_rule.specs.declared.formulas.Atom.{Atom}
use Rattle.tel_rule.specs.declared.statements.Head.{Head}
use Rattle.tel_rule.specs.declared.statements.Relation.{Relation}
use Rattle.tel_rule.specs.declared.statements.LitItem.{LitItem}
use Rattle.tel_rule.specs.declared.statements.LitItem.TheVariants as items
use Rattle.tel_rule.specs.declared.statements.Literal.{Literal}
use Rattle.tel_rule.specs.declared.statements.Signature.{Signature}
use Rattle.tel_rule.specs.declared.statements.Statement.{Statement}
use Rattle.tel_semantics.specs.Tables.{predicate_of}
use Rattle.rule_binding.specs.Binding.{whole_var, equations_of}
use Rattle.live_instances.specs.Bindings.{is_value, is_binding}
use Rattle.live_instances.specs.Instances.{rule_exprs, table_atoms, atom_is_row, makes_instance, is_live}
use Rattle.join_plans.specs.Join.{at, place, Step, Row, Equal, Compare, answers, IsPlan}
use Rattle.join_plans.specs.Once.{IsOnce, RowsOnce}
use Rattle.join_plans.proofs.Once.{once}
use Rattle.join_plans.specs.Atoms.{TableAtom, AreRows, PlanHolds, places, after_args, after_atoms, AtomsBelow, Filled}
use Rattle.join_plans.specs.Goals.{Goal, IsRow, HasValue, Compares, goal_of, AreMet, arg_goals, atom_goals, Gives}
use Rattle.join_plans.proofs.Arranged.{length_none, plans_meet_goals, atom_goals_are, found_values_pass}
use Rattle.join_plans.proofs.Filling.{plans_are_atoms, filled_once}
use Rattle.rule_plans.specs.Goals.{Rows, expression_of, arg_from, arg_of, comparison_of, table_atom_of, rule_atoms, place_count, side_goals, equation_goals, item_goals, body_goals, IsRulePlan}
use Rattle.rule_plans.specs.Within.{AreWithin, AreRowsOf}
use Rattle.rule_plans.specs.Laws.{IsFront, RulePlansFindTheLive}
use Rattle.rule_plans.proofs.Exprs.{value_term}
use Rattle.rule_plans.proofs.Atoms.{ok_from, atoms_to, atoms_from, table_atoms_are, atoms_below, atom_in_rule, after_atoms_least}
use Rattle.rule_plans.proofs.Bodies.{equation_literal, body_met}

-- ---- fronts of lists

at_take : (n : ℕ) (xs : List Value) (v : ℕ) → v < n → at (take n xs) v ≡ at xs v
at_take zero xs v less = absurd (omega (arith, less))
at_take (suc n) [] v less = refl
at_take (suc n) (x ∷ xs) zero less = refl
at_take (suc n) (x ∷ xs) (suc v) less = at_take n xs v (omega (arith, less))

take_front : (xs ys : List Value) → take (length xs) (xs ++ ys) ≡ xs
take_front [] ys = refl
take_front (x ∷ xs) ys = ap (λ (l : List Value). x ∷ l) (take_front xs ys)

at_front : (b more : List Value) (v : ℕ) → v < length b → at (b ++ more) v ≡ at b v
at_front [] more v less = absurd (omega (arith, less))
at_front (x ∷ b) more zero less = refl
at_front (x ∷ b) more (suc v) less = at_front b more v (omega (arith, less))

all_from_places : (test : Value → Bool) (xs : List Value) → ((v : ℕ) → v < length xs → test (at xs v) ≡ true) → list_all test xs ≡ true
all_from_places test [] pass = refl
all_from_places test (x ∷ xs) pass = and_from (test x) (list_all test xs) (pass 0 (omega arith)) (all_from_places test xs (λ v less. pass (suc v) (omega (arith, less))))

places_from_all : (test : Value → Bool) (xs : List Value) → list_all test xs ≡ true → (v : ℕ) → v < length xs → test (at xs v) ≡ true
places_from_all test [] all v less = absurd (omega (arith, less))
places_from_all test (x ∷ xs) all zero less = (and_parts (test x) (list_all test xs) all).0
places_from_all test (x ∷ xs) all (suc v) less = places_from_all test xs (and_parts (test x) (list_all test xs) all).1 v (omega (arith, less))

-- what a binding and what goes on with it have in common
record GoesOn (count : ℕ) (whole : List Value) (more : List Value) : Type 0 where
  pub long : length (take count whole) ≡ count
  pub parts : take count whole ++ more ≡ whole
  pub lengths : count + length more ≡ length whole

goes_on : (count : ℕ) (whole : List Value) → count ≤ length whole → GoesOn count whole (drop count whole)
goes_on count whole less =
    let long = length-take-le count whole less in
    let parts = take-append-drop count whole in
    let sum = length-append (take count whole) (drop count whole) in
    let total = ap length parts in
    record { long = long; parts = parts; lengths = omega (arith, long, sum, total) }

-- what one list is filled with the same list is
filled_same : (atoms : List TableAtom) (c d : List Value) → c ≡ d → AtomsBelow (length c) atoms → (x : Filled c atoms) (y : Filled d atoms) → x.more ≡ y.more
filled_same atoms c d same below x y = subst (λ (z : List Value). (w : Filled z atoms) → x.more ≡ w.more) same (λ w. filled_once c atoms below x w) y

-- the rows of a goal stand once
abbrev HasOnce : Goal → Type 0
HasOnce (IsRow spots rows) = IsOnce rows
HasOnce (HasValue spot e) = Unit {0}
HasOnce (Compares c) = Unit {0}

module _ (statements : List Statement) (symbols : List Term) (rows : Rows) (count : ℕ) (head : Head) (body : List Literal) (steps : List Step) (env : List Value) (table : IsTable symbols) (are : AreRowsOf statements symbols rows)
    (within : AreWithin symbols count (rule_exprs head body)) (plan : IsRulePlan statements symbols rows count body steps) (long : length env ≡ place_count statements rows count body) where
  abbrev atoms : List TableAtom
  atoms = rule_atoms statements rows body

  runs : IsPlan (replicate (length env) false) steps
  runs = subst (λ (n : ℕ). IsPlan (replicate n false) steps) (sym long) plan.runs

  below : AtomsBelow count atoms
  below = atoms_below count rows (table_atoms statements body) (λ atom there expr arg v reads. (within expr (atom_in_rule statements head body atom expr there arg)).vars v reads)

  least : count ≤ place_count statements rows count body
  least = after_atoms_least count atoms

  -- ---- what is found

  found_long : (whole : List Value) → In whole (answers steps env) → length whole ≡ place_count statements rows count body
  found_long whole found = ((plans_meet_goals steps env whole runs).0 found).0 ∙ long

  found_holds : (whole : List Value) → In whole (answers steps env) → PlanHolds whole count atoms
  found_holds whole found =
      let met = ((plans_meet_goals steps env whole runs).0 found).1 in
      (atom_goals_are whole count atoms).0 (λ goal there. met goal (plan.all goal there))

  found_on : (whole : List Value) → In whole (answers steps env) → GoesOn count whole (drop count whole)
  found_on whole found =
      let size = found_long whole found in
      let less = least in
      goes_on count whole (omega (arith, size, less))

  below_front : (whole : List Value) → In whole (answers steps env) → AtomsBelow (length (take count whole)) atoms
  below_front whole found = subst (λ (n : ℕ). AtomsBelow n atoms) (sym (found_on whole found).long) below

  abbrev found_filled : (whole : List Value) → In whole (answers steps env) → Filled (take count whole) atoms
  found_filled whole found =
      let on = found_on whole found in
      record {
        more = drop count whole;
        long =
            ap (λ (n : ℕ). n + length (drop count whole)) on.long ∙ on.lengths ∙ found_long whole found
            ∙ ap (λ (n : ℕ). after_atoms n atoms) (sym on.long);
        holds = subst (λ (n : ℕ). PlanHolds (take count whole ++ drop count whole) n atoms) (sym on.long)
            (subst (λ (b : List Value). PlanHolds b count atoms) (sym on.parts) (found_holds whole found));
      }

  -- ---- what holds of each goal of the plan

  module _ (G : Goal → Type 0) (of_row : (spots : List ℕ) (predicate : Signature) → G (IsRow spots (rows predicate)))
      (of_value : (spot : ℕ) (expr : Expr) → In expr (rule_exprs head body) → G (HasValue spot (expression_of expr)))
      (of_compare : (relation : Relation) (left right : Expr) → G (Compares (comparison_of symbols relation left right))) where
    arg_has :
        (k : ℕ) (expr : Expr) (more : List Expr) → In expr (rule_exprs head body) → ((j : ℕ) (goal : Goal) → In goal (arg_goals j (map arg_of more)) → G goal) → (goal : Goal) (whole : Option ℕ) → In goal (arg_goals k (arg_from expr whole ∷ map arg_of more)) → G goal
    arg_has k expr more here rest goal (Some v) there = rest k goal there
    arg_has k expr more here rest goal None there =
        ⊎_elim (λ (is : HasValue k (expression_of expr) ≡ goal). subst G is (of_value k expr here)) (λ later. rest (suc k) goal later) there

    args_have : (k : ℕ) (args : List Expr) → ((expr : Expr) → In expr args → In expr (rule_exprs head body)) → (goal : Goal) → In goal (arg_goals k (map arg_of args)) → G goal
    args_have k [] args_in goal there = absurd there
    args_have k (expr ∷ more) args_in goal there =
        arg_has k expr more (args_in expr (inl refl)) (λ j other i. args_have j more (λ e h. args_in e (inr h)) other i) goal (whole_var expr) there

    atoms_have : (k : ℕ) (list : List Atom) → ((atom : Atom) (expr : Expr) → In atom list → In expr atom.args → In expr (rule_exprs head body)) → (goal : Goal) → In goal (atom_goals k (map (table_atom_of rows) list)) → G goal
    atoms_have k [] atoms_in goal there = absurd there
    atoms_have k (atom ∷ more) atoms_in goal there =
        ⊎_elim
        (λ (is : IsRow (places k (map arg_of atom.args)) (rows (predicate_of atom)) ≡ goal). subst G is (of_row (places k (map arg_of atom.args)) (predicate_of atom)))
        (λ later. ⊎_elim (λ own. args_have k atom.args (λ expr arg. atoms_in atom expr (inl refl) arg) goal own)
        (λ rest. atoms_have (after_args k (map arg_of atom.args)) more (λ other expr i arg. atoms_in other expr (inr i) arg) goal rest)
        (In-append_cases goal (arg_goals k (map arg_of atom.args)) (atom_goals (after_args k (map arg_of atom.args)) (map (table_atom_of rows) more)) later))
        there

    side_has : (other : Expr) (whole : Option ℕ) → In other (rule_exprs head body) → (goal : Goal) → In goal (side_goals other whole) → G goal
    side_has other None o goal there = absurd there
    side_has other (Some v) o goal there =
        ⊎_elim (λ (is : HasValue v (expression_of other) ≡ goal). subst G is (of_value v other o)) (λ none. absurd none) there

    item_has : (item : LitItem) (goal : Goal) → In goal (item_goals symbols item) → G goal
    item_has (items.Atom atom) goal there = absurd there
    item_has (items.Tel formula) goal there = absurd there
    item_has (items.Compare relation left right) goal there =
        ⊎_elim (λ (is : Compares (comparison_of symbols relation left right) ≡ goal). subst G is (of_compare relation left right)) (λ none. absurd none) there

    body_has : (goal : Goal) → In goal (body_goals symbols body) → G goal
    body_has goal there =
        ⊎_elim
        (λ l.
        let from = In-flat_map_from equation_goals goal (equations_of body) l in
        let literal = equation_literal head body from.0 from.1 in
        ⊎_elim (λ h. side_has from.0.right (whole_var from.0.left) literal.right goal h) (λ h. side_has from.0.left (whole_var from.0.right) literal.left goal h)
        (In-append_cases goal (side_goals from.0.right (whole_var from.0.left)) (side_goals from.0.left (whole_var from.0.right)) from.2))
        (λ r. let from = In-flat_map_from (λ (l : Literal). item_goals symbols l.item) goal body r in item_has from.0.item goal from.2)
        (In-append_cases goal (flat_map equation_goals (equations_of body)) (flat_map (λ (l : Literal). item_goals symbols l.item) body) there)

    all_have : (goal : Goal) → In goal (map goal_of steps) → G goal
    all_have goal there =
        ⊎_elim (λ row. atoms_have count (table_atoms statements body) (λ atom expr i arg. atom_in_rule statements head body atom expr i arg) goal row) (λ own. body_has goal own) (plan.only goal there)

  -- ---- each once

  rows_once : (list : List Step) → ((goal : Goal) → In goal (map goal_of list) → HasOnce goal) → RowsOnce list
  rows_once [] all = tt
  rows_once (Row columns given ∷ more) all = (all (IsRow (map place columns) given) (inl refl), rows_once more (λ goal there. all goal (inr there)))
  rows_once (Equal column e ∷ more) all = rows_once more (λ goal there. all goal (inr there))
  rows_once (Compare c ∷ more) all = rows_once more (λ goal there. all goal (inr there))

  found_once : IsOnce (answers steps env)
  found_once = once steps (replicate (length env) false) env runs (length_none (length env)) (rows_once steps (all_have HasOnce (λ spots predicate. are.once predicate) (λ spot expr there. tt) (λ relation left right. tt)))

  -- ---- values are terms of the program

  gives : (goal : Goal) → In goal (map goal_of steps) → Gives (is_value symbols) goal
  gives =
      all_have (Gives (is_value symbols)) (λ spots predicate row has. are.terms predicate row has)
      (λ spot expr there b x reads got. value_term symbols b expr (within expr there).values reads x (ok_from (expr_value b expr) x got)) (λ relation left right. tt)

  found_terms : (whole : List Value) → In whole (answers steps env) → (v : ℕ) → v < length whole → is_value symbols (at whole v) ≡ true
  found_terms whole found v less = found_values_pass (is_value symbols) steps env whole runs gives found v less

  found_binding : (whole : List Value) → In whole (answers steps env) → is_binding symbols count (take count whole) ≡ true
  found_binding whole found =
      let on = found_on whole found in
      let size = on.long in
      let total = found_long whole found in
      let less = least in
      and_from (length (take count whole) == count) (list_all (is_value symbols) (take count whole)) (eq-eqb (length (take count whole)) count on.long)
      (all_from_places (is_value symbols) (take count whole)
      (λ v under. ap (is_value symbols) (at_take count whole v (omega (arith, under, size))) ∙ found_terms whole found v (omega (arith, under, size, total, less))))

  -- ---- live bindings

  live_from : (b : List Value) → makes_instance symbols head body b ≡ true → IsFront b (answers steps env) → is_binding symbols count b ≡ true → is_live statements symbols head body b ≡ true
  live_from b makes front binding =
      let size = eqb-true (length b) count (and_parts (length b == count) (list_all (is_value symbols) b) binding).0 in
      let begins : take count front.whole ≡ b = ap (λ (n : ℕ). take n front.whole) (sym size) ∙ front.begins in
      let rows_hold = (plans_are_atoms (take count front.whole) atoms (below_front front.whole front.there)).1 (found_filled front.whole front.there) in
      and_from (makes_instance symbols head body b) (list_all (atom_is_row statements b) (table_atoms statements body)) makes
      (atoms_from statements symbols rows are b (table_atoms statements body) (table_atoms_are statements body) (subst (λ (c : List Value). AreRows c atoms) begins rows_hold))

  live_found : (b : List Value) → is_binding symbols count b ≡ true → is_live statements symbols head body b ≡ true → (makes_instance symbols head body b ≡ true) × IsFront b (answers steps env)
  live_found b binding live =
      let both = and_parts (makes_instance symbols head body b) (list_all (atom_is_row statements b) (table_atoms statements body)) live in
      let parts = and_parts (length b == count) (list_all (is_value symbols) b) binding in
      let size = eqb-true (length b) count parts.0 in
      let below_b = subst (λ (n : ℕ). AtomsBelow n atoms) (sym size) below in
      let filled = (plans_are_atoms b atoms below_b).0 (atoms_to statements symbols rows are b (table_atoms statements body) (table_atoms_are statements body) both.1) in
      let whole = b ++ filled.more in
      let total : length whole ≡ length env = length-append b filled.more ∙ filled.long ∙ ap (λ (n : ℕ). after_atoms n atoms) size ∙ sym long in
      let row_met = (atom_goals_are whole count atoms).1 (subst (λ (n : ℕ). PlanHolds whole n atoms) size filled.holds) in
      let own_met = body_met head body symbols count table within b (λ v less. places_from_all (is_value symbols) b parts.1 v (omega (arith, less, size))) both.0 whole
      (λ v less. at_front b filled.more v (omega (arith, less, size))) in
      let met : AreMet whole (map goal_of steps) = λ goal there. ⊎_elim (λ row. row_met goal row) (λ own. own_met goal own) (plan.only goal there) in
      (both.0, record { whole = whole; there = (plans_meet_goals steps env whole runs).1 (total, met); begins = take_front b filled.more })

  found_apart : (a b : List Value) → In a (answers steps env) → In b (answers steps env) → take count a ≡ take count b → a ≡ b
  found_apart a b in_a in_b same =
      sym (found_on a in_a).parts
      ∙ ap₂ (λ (xs ys : List Value). xs ++ ys) same (filled_same atoms (take count a) (take count b) same (below_front a in_a) (found_filled a in_a) (found_filled b in_b))
      ∙ (found_on b in_b).parts

pub rule_plans_find : RulePlansFindTheLive
rule_plans_find statements symbols rows count head body steps env table are within plan long = record {
  bindings = λ whole found. found_binding statements symbols rows count head body steps env table are within plan long whole found;
  live = λ b binding. (
    (λ live. live_found statements symbols rows count head body steps env table are within plan long b binding live),
    (λ both. live_from statements symbols rows count head body steps env table are within plan long b both.0 both.1 binding),
  );
  once = found_once statements symbols rows count head body steps env table are within plan long;
  apart = found_apart statements symbols rows count head body steps env table are within plan long;
}
