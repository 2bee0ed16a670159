-- Where all variables are bound, no goals are stuck.
use Rattle.std.proofs.Common.{◌≡◌, ◌∙◌, ◌⊎◌, inl, inr, ℕ, zero, suc, ◌<◌, ◌≤◌, Bool, true, false, not, ◌||◌, List, [], ◌∷◌, ◌++◌, map, length, refl, sym, ap, subst, ⊎_elim, arith, true≢false}
use Rattle.std.specs.Prelude.{Option, Some, None, IsTrue, if◌then◌else◌}
use Rattle.std.specs.List.{list_all, flat_map}
use Rattle.std.proofs.lemmas.Bool.{and_from, or_left, or_right, cases_Bool, cases_lt}
use Rattle.std.proofs.lemmas.List.{append-nil}
use Rattle.std.proofs.lemmas.List.Folds.{list_all-append}
use Rattle.std.proofs.lemmas.Grind.{flat_map-append}
use Rattle.tel_base.specs.Members.{In}
use Rattle.tel_base.proofs.Members.{In-append_left, In-append_right, In-append_cases, In-map_from, In-list_all, list_all-from_In}
use Rattle.tel_term.specs.declared.terms.Term.{Term}
use Rattle.tel_term.specs.declared.terms.Value.{Value}
use Rattle.tel_term.specs.declared.exprs.Expr.{Expr}
use Rattle.tel_rule.specs.declared.formulas.Atom.{Atom}
use Rattle.tel_rule.specs.declared.statements.Head.TheVariants as heads
use Rattle.tel_rule.specs.declared.statements.LitItem.{LitItem}
use Rattle.tel_rule.specs.declared.statements.LitItem.TheVariants as items
use Rattle.tel_rule.specs.declared.statements.Literal.{Literal}
use Rattle.tel_rule.specs.declared.statements.Statement.{Statement}
use Rattle.tel_semantics.specs.Tables.{is_table}
use Rattle.rule_binding.specs.Binding.{Vars, vars_of, whole_var, one_var, whole_args, item_row_vars, row_vars, is_table_atom, Equation, equations_of, bound_by, body_of}
use Rattle.rule_binding.specs.Closure.{keeps_rule, keeps}
use Rattle.rule_binding.specs.Rules.{var_rules, equation_rules}
use Rattle.rule_binding.proofs.Settings.{closed, sound, some_order, all_of_has}
use Rattle.live_instances.specs.Instances.{item_table_atoms, table_atoms}
use Rattle.join_plans.specs.Join.{Expression, is_known}
use Rattle.join_plans.specs.Goals as plans
use Rattle.join_plans.specs.Goals.{arg_goals, atom_goals}
use Rattle.join_plans.specs.Atoms.{Arg, places, after_args, after_atoms}
use Rattle.rule_plans.specs.Goals.{Rows, expression_of, arg_from, arg_of, table_atom_of, rule_atoms, row_goals, side_goals, equation_goals, item_goals, body_goals}
use Rattle.rule_plans.proofs.Atoms.{atom_in_rule}
use Rattle.plan_search.specs.Steps.{Tables}
use Rattle.plan_order.specs.declared.goals.Goal.{Goal}
use Rattle.plan_order.specs.declared.goals.Goal.TheVariants as goals
use Rattle.plan_order.specs.Goals.{meant, ready, IsSound, IsDone}
use Rattle.rule_goals.specs.Laws.{AreFit, BoundRulesHaveOrders}

-- ---- what goals are

abbrev is_row_goal : plans.Goal → Bool
is_row_goal (plans.IsRow where_to rows) = true
is_row_goal (plans.HasValue place e) = false
is_row_goal (plans.Compares c) = false

abbrev is_value_goal : plans.Goal → Bool
is_value_goal (plans.IsRow where_to rows) = false
is_value_goal (plans.HasValue place e) = true
is_value_goal (plans.Compares c) = false

abbrev row_places : plans.Goal → List ℕ
row_places (plans.IsRow where_to rows) = where_to
row_places (plans.HasValue place e) = []
row_places (plans.Compares c) = []

abbrev value_place : plans.Goal → ℕ
value_place (plans.IsRow where_to rows) = 0
value_place (plans.HasValue place e) = place
value_place (plans.Compares c) = 0

abbrev value_reads : plans.Goal → List ℕ
value_reads (plans.IsRow where_to rows) = []
value_reads (plans.HasValue place e) = e.reads
value_reads (plans.Compares c) = []

-- ---- variables of rows

abbrev pub atom_vars : Atom → List ℕ
atom_vars atom = whole_args atom.args

if_vars : (t : Bool) (atom : Atom) → (if t then whole_args atom.args else []) ≡ flat_map atom_vars (if t then atom ∷ [] else [])
if_vars true atom = sym (append-nil (whole_args atom.args))
if_vars false atom = refl

item_vars : (statements : List Statement) (nots : ℕ) (item : LitItem) → item_row_vars (is_table statements) nots item ≡ flat_map atom_vars (item_table_atoms statements nots item)
item_vars statements nots (items.Atom atom) = if_vars (is_table_atom (is_table statements) nots atom) atom
item_vars statements nots (items.Tel formula) = refl
item_vars statements nots (items.Compare relation left right) = refl

pub vars_are : (statements : List Statement) (body : List Literal) → row_vars (is_table statements) body ≡ flat_map atom_vars (table_atoms statements body)
vars_are statements [] = refl
vars_are statements (literal ∷ body) =
    (λ i. item_vars statements literal.nots literal.item i ++ vars_are statements body i)
    ∙ sym (flat_map-append atom_vars (item_table_atoms statements literal.nots literal.item) (table_atoms statements body))

whole_step : (k v : ℕ) (arg : Expr) (args : List Arg) (more : List ℕ) (whole : Option ℕ) → ((k : ℕ) → In v more → In v (places k args)) → In v (one_var whole ++ more) → In v (places k (arg_from arg whole ∷ args))
whole_step k v arg args more None rest there = inr (rest (suc k) there)
whole_step k v arg args more (Some w) rest there = ⊎_elim (λ (same : w ≡ v). inl same) (λ later. inr (rest k later)) there

whole_in_places : (v : ℕ) (args : List Expr) (k : ℕ) → In v (whole_args args) → In v (places k (map arg_of args))
whole_in_places v [] k there = absurd there
whole_in_places v (arg ∷ args) k there = whole_step k v arg (map arg_of args) (whole_args args) (whole_var arg) (λ j. whole_in_places v args j) there

at_or_above : (k v : ℕ) → k ≤ v → (k ≡ v) ⊎ (suc k ≤ v)
at_or_above zero zero least = inl refl
at_or_above zero (suc v) least = inr (omega arith)
at_or_above (suc k) zero least = absurd (omega (arith, least))
at_or_above (suc k) (suc v) least = ⊎_elim (λ (same : k ≡ v). inl (ap suc same)) (λ (above : suc k ≤ v). inr (omega (arith, above))) (at_or_above k v (omega (arith, least)))

module _ (symbols : List Term) (rows : Rows) (tables : Tables) (count : ℕ) (list : List Goal) (fit : AreFit symbols count list) (known : List Bool) (done : (goal : Goal) → In goal list → IsTrue (ready known goal) → IsDone known goal) where
  -- a goal that a plan asks for
  abbrev Asked : plans.Goal → Type 0
  Asked g = In g (map (meant tables symbols) list)

  abbrev AllAsked : List plans.Goal → Type 0
  AllAsked gs = (g : plans.Goal) → In g gs → Asked g

  abbrev X : Vars
  X = is_known known

  row_known_by : (where_to : List ℕ) (its : List (List Value)) (goal : Goal) → In goal list → meant tables symbols goal ≡ plans.IsRow where_to its → (v : ℕ) → In v where_to → IsTrue (X v)
  row_known_by where_to its (goals.Row predicate own) there is v here = done (goals.Row predicate own) there refl v (subst (λ (l : List ℕ). In v l) (sym (ap row_places is)) here)
  row_known_by where_to its (goals.Equal place expr reads) there is v here = absurd (true≢false (sym (ap is_row_goal is)))
  row_known_by where_to its (goals.Compare relation left right reads) there is v here = absurd (true≢false (sym (ap is_row_goal is)))

  row_known : (where_to : List ℕ) (its : List (List Value)) → Asked (plans.IsRow where_to its) → (v : ℕ) → In v where_to → IsTrue (X v)
  row_known where_to its asked v here = let from = In-map_from (meant tables symbols) (plans.IsRow where_to its) list asked in row_known_by where_to its from.0 from.1 from.2 v here

  value_known_by : (p : ℕ) (e : Expression) (goal : Goal) → In goal list → meant tables symbols goal ≡ plans.HasValue p e → ((v : ℕ) → In v e.reads → IsTrue (X v)) → IsTrue (X p)
  value_known_by p e (goals.Row predicate own) there is all = absurd (true≢false (sym (ap is_value_goal is)))
  value_known_by p e (goals.Equal place expr reads) there is all =
      let sound_one : IsSound count (goals.Equal place expr reads) = fit.sound (goals.Equal place expr reads) there in
      let same : reads ≡ e.reads = sound_one.1 ∙ ap value_reads is in
      let is_ready : list_all X reads ≡ true = list_all-from_In X reads (λ v here. all v (subst (λ (l : List ℕ). In v l) same here)) in
      subst (λ (v : ℕ). IsTrue (X v)) (ap value_place is) (done (goals.Equal place expr reads) there is_ready)
  value_known_by p e (goals.Compare relation left right reads) there is all = absurd (true≢false (sym (ap is_value_goal is)))

  value_known : (p : ℕ) (e : Expression) → Asked (plans.HasValue p e) → ((v : ℕ) → In v e.reads → IsTrue (X v)) → IsTrue (X p)
  value_known p e asked all = let from = In-map_from (meant tables symbols) (plans.HasValue p e) list asked in value_known_by p e from.0 from.1 from.2 all

  -- ---- the variables of rows

  rows_known : (k : ℕ) (atoms : List Atom) → AllAsked (atom_goals k (map (table_atom_of rows) atoms)) → (v : ℕ) → In v (flat_map atom_vars atoms) → IsTrue (X v)
  rows_known k [] asked v there = absurd there
  rows_known k (atom ∷ atoms) asked v there =
      ⊎_elim
      (λ (here : In v (whole_args atom.args)). row_known (places k (map arg_of atom.args)) (table_atom_of rows atom).rows (asked (plans.IsRow (places k (map arg_of atom.args)) (table_atom_of rows atom).rows) (inl refl)) v (whole_in_places v atom.args k here))
      (λ (later : In v (flat_map atom_vars atoms)).
      rows_known (after_args k (map arg_of atom.args)) atoms
      (λ g here. asked g (inr (In-append_right g (arg_goals k (map arg_of atom.args)) (atom_goals (after_args k (map arg_of atom.args)) (map (table_atom_of rows) atoms)) here))) v later)
      (In-append_cases v (whole_args atom.args) (flat_map atom_vars atoms) there)

  -- ---- equations

  rule_kept : (v : ℕ) (needs : List ℕ) → (IsTrue (list_all X needs) → IsTrue (X v)) → IsTrue (X v || not (list_all X needs))
  rule_kept v needs known_then = elim (cases_Bool (list_all X needs)) [
    | inl is ↦ or_left (X v) (not (list_all X needs)) (known_then is)
    | inr isnt ↦ or_right (X v) (not (list_all X needs)) (ap not isnt)
  ]

  side_kept : (other : Expr) (whole : Option ℕ) → AllAsked (side_goals other whole) → IsTrue (keeps X (var_rules other whole))
  side_kept other None asked = refl
  side_kept other (Some v) asked =
      and_from (X v || not (list_all X (vars_of other))) true
      (rule_kept v (vars_of other) (λ is. value_known v (expression_of other) (asked (plans.HasValue v (expression_of other)) (inl refl)) (λ w here. In-list_all X w (vars_of other) is here)))
      refl

  equations_kept : (equations : List Equation) → AllAsked (flat_map equation_goals equations) → IsTrue (closed X equations)
  equations_kept [] asked = refl
  equations_kept (equation ∷ more) asked =
      let left = side_goals equation.right (whole_var equation.left) in
      let right = side_goals equation.left (whole_var equation.right) in
      let rest = flat_map equation_goals more in
      let one = side_kept equation.right (whole_var equation.left) (λ g here. asked g (In-append_left g (left ++ right) rest (In-append_left g left right here))) in
      let two = side_kept equation.left (whole_var equation.right) (λ g here. asked g (In-append_left g (left ++ right) rest (In-append_right g left right here))) in
      let three = equations_kept more (λ g here. asked g (In-append_right g (left ++ right) rest here)) in
      let first = var_rules equation.right (whole_var equation.left) in
      let second = var_rules equation.left (whole_var equation.right) in
      list_all-append (keeps_rule X) (first ++ second) (flat_map equation_rules more)
      ∙ and_from (keeps X (first ++ second)) (keeps X (flat_map equation_rules more)) (list_all-append (keeps_rule X) first second ∙ and_from (keeps X first) (keeps X second) one two) three

  -- ---- places of other arguments

  module _ (vars : ℕ) (bound : (v : ℕ) → v < vars → IsTrue (X v)) where
    abbrev Reads : Expr → Type 0
    Reads expr = (v : ℕ) → In v (vars_of expr) → v < vars

    arg_known : (k v : ℕ) (arg : Expr) (args : List Arg) (whole : Option ℕ) → Reads arg → AllAsked (arg_goals k (arg_from arg whole ∷ args)) → ((k : ℕ) → AllAsked (arg_goals k args) → k ≤ v → v < after_args k args → IsTrue (X v)) → k ≤ v → v < after_args k (arg_from arg whole ∷ args) → IsTrue (X v)
    arg_known k v arg args None reads asked rest least less =
        ⊎_elim
        (λ (same : k ≡ v). subst (λ (w : ℕ). IsTrue (X w)) same (value_known k (expression_of arg) (asked (plans.HasValue k (expression_of arg)) (inl refl)) (λ w here. bound w (reads w here))))
        (λ (above : suc k ≤ v). rest (suc k) (λ g here. asked g (inr here)) above less)
        (at_or_above k v least)
    arg_known k v arg args (Some w) reads asked rest least less = rest k asked least less

    args_known : (v : ℕ) (args : List Expr) → ((expr : Expr) → In expr args → Reads expr) → (k : ℕ) → AllAsked (arg_goals k (map arg_of args)) → k ≤ v → v < after_args k (map arg_of args) → IsTrue (X v)
    args_known v [] reads k asked least less = absurd (omega (arith, least, less))
    args_known v (arg ∷ args) reads k asked least less = arg_known k v arg (map arg_of args) (whole_var arg) (reads arg (inl refl)) asked (λ j. args_known v args (λ expr here. reads expr (inr here)) j) least less

    atoms_known : (v k : ℕ) (atoms : List Atom) → ((atom : Atom) (expr : Expr) → In atom atoms → In expr atom.args → Reads expr) → AllAsked (atom_goals k (map (table_atom_of rows) atoms)) → k ≤ v → v < after_atoms k (map (table_atom_of rows) atoms) → IsTrue (X v)
    atoms_known v k [] reads asked least less = absurd (omega (arith, least, less))
    atoms_known v k (atom ∷ atoms) reads asked least less =
        let next = after_args k (map arg_of atom.args) in
        let here_goals = arg_goals k (map arg_of atom.args) in
        let later_goals = atom_goals next (map (table_atom_of rows) atoms) in
        ⊎_elim
        (λ (below : v < next). args_known v atom.args (λ expr here. reads atom expr (inl refl) here) k (λ g here. asked g (inr (In-append_left g here_goals later_goals here))) least below)
        (λ (above : next ≤ v). atoms_known v next atoms (λ other expr there here. reads other expr (inr there) here) (λ g here. asked g (inr (In-append_right g here_goals later_goals here))) above less)
        (cases_lt v next)

-- ---- the law

pub bound_rules : BoundRulesHaveOrders
bound_rules statements symbols rows tables rule count list are fit within first stuck =
    let vars = length rule.vars in
    let body = body_of rule.kind in
    let X : Vars = is_known stuck.known in
    let of_rows = row_goals statements rows vars body in
    let of_body = body_goals symbols body in
    let of_equations = flat_map equation_goals (equations_of body) in
    let of_comparisons = flat_map (λ (literal : Literal). item_goals symbols literal.item) body in
    let asked : (g : plans.Goal) → In g (of_rows ++ of_body) → In g (map (meant tables symbols) list) = λ g there. subst (λ (l : List plans.Goal). In g l) (sym are.goals_are) there in
    let rows_asked : (g : plans.Goal) → In g of_rows → In g (map (meant tables symbols) list) = λ g there. asked g (In-append_left g of_rows of_body there) in
    let equations_asked : (g : plans.Goal) → In g of_equations → In g (map (meant tables symbols) list) = λ g there. asked g (In-append_right g of_rows of_body (In-append_left g of_equations of_comparisons there)) in
    let kept : IsTrue (closed X (equations_of body)) = equations_kept symbols rows tables count list fit stuck.known stuck.closed (equations_of body) equations_asked in
    let row_ones : IsTrue (list_all X (row_vars (is_table statements) body)) =
    list_all-from_In X (row_vars (is_table statements) body)
    (λ v there. rows_known symbols rows tables count list fit stuck.known stuck.closed vars (table_atoms statements body) rows_asked v (subst (λ (l : List ℕ). In v l) (vars_are statements body) there)) in
    let all = sound X (equations_of body) (row_vars (is_table statements) body) first.settings kept row_ones (some_order (equations_of body) (row_vars (is_table statements) body) first.settings first.are) in
    let bound : (v : ℕ) → v < vars → IsTrue (X v) = λ v less. all_of_has X (bound_by (row_vars (is_table statements) body) first.settings) all v (first.is v less) in
    let v = stuck.misses.0 in
    let less : v < after_atoms vars (rule_atoms statements rows body) = subst (λ (n : ℕ). v < n) are.places_are stuck.misses.1 in
    let is : IsTrue (X v) =
    ⊎_elim (λ (below : v < vars). bound v below)
    (λ (above : vars ≤ v).
    atoms_known symbols rows tables count list fit stuck.known stuck.closed vars bound v vars (table_atoms statements body)
    (λ atom expr there here w read. (within expr (atom_in_rule statements heads.None body atom expr there here)).vars w read) rows_asked above less)
    (cases_lt v vars) in
    true≢false (sym is ∙ stuck.misses.2)
