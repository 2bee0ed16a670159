-- Which atoms are possible: the rows of tables, and atoms of other predicates. Each head is possible, and an instance that isn't live has a positive atom that isn't.
use Rattle.std.proofs.Common.{◌≡◌, inl, inr, ℕ, suc, Bool, true, false, not, ◌&&◌, ◌||◌, List, [], ◌∷◌, map, length, refl, sym, ap, ap₂, ◌∙◌, subst, ⊎_elim}
use Rattle.std.specs.Prelude.{◌==◌, Ok, Err, Option, Some, bytes_eq, if◌then◌else◌}
use Rattle.std.specs.List.{list_all, list_any, flat_map}
use Rattle.std.proofs.lemmas.Bool.{and_parts, and_from, or_left, or_right, cases_Bool, eq-eqb, eqb-true, false≢true, true≢false}
use Rattle.std.proofs.lemmas.List.{length-map}
use Rattle.std.proofs.lemmas.Slice.Eq.{bytes_eq-Decides}
use Rattle.tel_base.specs.Members.{In}
use Rattle.tel_base.proofs.Members.{In-map_from, In-flat_map, In-flat_map_from, In-list_all, any_found, any_from, all_lost}
use Rattle.tel_term.specs.declared.terms.Term.{Term}
use Rattle.tel_term.specs.declared.terms.Value.{Value}
use Rattle.tel_term.specs.declared.exprs.Expr.{Expr}
use Rattle.tel_term.specs.Arithmetic.{Valued, expr_value}
use Rattle.tel_term.specs.Symbols.{IsTable}
use Rattle.tel_term.specs.Order.{term_at, value_in_range}
use Rattle.tel_rule.specs.Atoms.{values_eq}
use Rattle.tel_rule.specs.declared.formulas.Atom.{Atom}
use Rattle.tel_rule.specs.declared.statements.Arg.{Arg}
use Rattle.tel_rule.specs.declared.statements.Fact.{Fact}
use Rattle.tel_rule.specs.declared.statements.Head.{Head}
use Rattle.tel_rule.specs.declared.statements.Head.TheVariants as heads
use Rattle.tel_rule.specs.declared.statements.LitItem.{LitItem}
use Rattle.tel_rule.specs.declared.statements.LitItem.TheVariants as items
use Rattle.tel_rule.specs.declared.statements.Literal.{Literal}
use Rattle.tel_rule.specs.declared.statements.Signature.{Signature}
use Rattle.tel_rule.specs.declared.statements.Kind.{Kind}
use Rattle.tel_rule.specs.declared.statements.Kind.TheVariants as kinds
use Rattle.tel_rule.specs.declared.statements.Statement.{Statement}
use Rattle.tel_semantics.specs.Tables.{same_predicate, predicate_of, tuple_predicate, head_predicates, has_head, is_fact, gives_rows, is_table, arg_values, choices, tuple_rows, fact_rows, stated_rows, is_row}
use Rattle.rule_binding.specs.Binding.{is_table_atom}
use Rattle.live_instances.specs.Bindings.{is_value}
use Rattle.live_instances.specs.Instances.{rule_exprs, has_value, compares, makes_instance, item_table_atoms, table_atoms, with_value, values_of, passes, atom_is_row, is_live}
use Rattle.rule_plans.specs.Within.{AreWithin, StatementsAreWithin}
use Rattle.rule_plans.proofs.Atoms.{atom_in_rule}
use Rattle.theory_lists.specs.Atoms.{TermAtom, terms_eq}
use Rattle.theory_lists.proofs.AtomOrder.{atoms-one}
use Rattle.program_theory.specs.Theory.{value_term, atom_under, fact_atom}
use Rattle.all_instances.proofs.Shapes.{HeadPasses, IsPositive}
use Rattle.all_instances.proofs.Terms.{values_themselves, one_row, value_ranges, stated_range}

-- ---- atoms and predicates that are the same

abbrev pub predicate : TermAtom → Signature
predicate atom = record { negative = atom.negative; name = atom.name; arity = length atom.args }

pub terms_themselves : (xs : List Term) → terms_eq xs xs ≡ true
terms_themselves xs =
    let atom : TermAtom = record { negative = false; name = []; args = xs } in
    (atoms-one atom atom).1 refl

terms_same : (xs ys : List Term) → xs ≡ ys → terms_eq xs ys ≡ true
terms_same xs ys same = subst (λ (zs : List Term). terms_eq xs zs ≡ true) same (terms_themselves xs)

sign_itself : (a : Bool) → (if a then a else not a) ≡ true
sign_itself true = refl
sign_itself false = refl

predicate_itself : (a : Signature) → same_predicate a a ≡ true
predicate_itself a =
    and_from (if a.negative then a.negative else not a.negative) (bytes_eq a.name a.name && (a.arity == a.arity)) (sign_itself a.negative)
    (and_from (bytes_eq a.name a.name) (a.arity == a.arity) ((bytes_eq-Decides a.name a.name).1 refl) (eq-eqb a.arity a.arity refl))

predicates_same : (a b : Signature) → a ≡ b → same_predicate a b ≡ true
predicates_same a b same = subst (λ (c : Signature). same_predicate a c ≡ true) same (predicate_itself a)

-- ---- lengths of rows

choices_length : (lists : List (List Value)) (row : List Value) → In row (choices lists) → length row ≡ length lists
choices_length [] row there = ⊎_elim (λ (is : [] ≡ row). ap length (sym is)) (λ none. absurd none) there
choices_length (here ∷ more) row there =
    let first = In-flat_map_from (λ (value : Value). map (λ (rest : List Value). value ∷ rest) (choices more)) row here there in
    let rest = In-map_from (λ (r : List Value). first.0 ∷ r) row (choices more) first.2 in
    sym (ap length rest.2) ∙ ap suc (choices_length more rest.0 rest.1)

row_length : (tuple : List Arg) (row : List Value) → In row (tuple_rows tuple) → length row ≡ length tuple
row_length tuple row there = choices_length (map arg_values tuple) row there ∙ length-map tuple arg_values

-- ---- table atoms

record IsTableAtom (statements : List Statement) (body : List Literal) (atom : Atom) : Type 0 where
  literal : Literal
  there : In literal body
  positive : IsPositive literal atom
  table : is_table statements (predicate_of atom) ≡ true

record IsOfItem (statements : List Statement) (nots : ℕ) (item : LitItem) (atom : Atom) : Type 0 where
  of_item : item ≡ items.Atom atom
  of_nots : nots ≡ 0
  of_before : atom.before ≡ 0
  of_table : is_table statements (predicate_of atom) ≡ true

of_atom_item : (statements : List Statement) (nots : ℕ) (atom other : Atom) (test : Bool) → is_table_atom (is_table statements) nots atom ≡ test → In other (if test then atom ∷ [] else []) → IsOfItem statements nots (items.Atom atom) other
of_atom_item statements nots atom other true is there =
    let tables = is_table statements (predicate_of atom) in
    let first = and_parts (nots == 0) ((atom.before == 0) && ((atom.after == 0) && tables)) is in
    let second = and_parts (atom.before == 0) ((atom.after == 0) && tables) first.1 in
    let third = and_parts (atom.after == 0) tables second.1 in
    ⊎_elim (λ (same : atom ≡ other). subst (λ (a : Atom). IsOfItem statements nots (items.Atom atom) a) same
    (record { of_item = refl; of_nots = eqb-true nots 0 first.0; of_before = eqb-true atom.before 0 second.0; of_table = third.1 })) (λ none. absurd none) there
of_atom_item statements nots atom other false is there = absurd there

of_item : (statements : List Statement) (nots : ℕ) (item : LitItem) (atom : Atom) → In atom (item_table_atoms statements nots item) → IsOfItem statements nots item atom
of_item statements nots (items.Atom one) atom there = of_atom_item statements nots one atom (is_table_atom (is_table statements) nots one) refl there
of_item statements nots (items.Tel formula) atom there = absurd there
of_item statements nots (items.Compare relation left right) atom there = absurd there

table_atom : (statements : List Statement) (body : List Literal) (atom : Atom) → In atom (table_atoms statements body) → IsTableAtom statements body atom
table_atom statements body atom there =
    let from = In-flat_map_from (λ (literal : Literal). item_table_atoms statements literal.nots literal.item) atom body there in
    let is = of_item statements from.0.nots from.0.item atom from.2 in
    record { literal = from.0; there = from.1; positive = record { item = is.of_item; nots = is.of_nots; before = is.of_before }; table = is.of_table }

-- ---- possible atoms

module _ (statements : List Statement) (symbols : List Term) where
  -- a row that facts state has these arguments
  abbrev is_stated : TermAtom → Bool
  is_stated atom = list_any (λ (row : List Value). terms_eq atom.args (map (term_at symbols) row)) (stated_rows statements (predicate atom))

  abbrev pub is_possible : TermAtom → Bool
  is_possible atom = not (is_table statements (predicate atom)) || is_stated atom

  -- ---- heads of rules

  not_table : (statement : Statement) (head : Head) (body : List Literal) (signature : Signature) → In statement statements → statement.kind ≡ kinds.Rule head body → In signature (head_predicates (kinds.Rule head body))
      → is_table statements signature ≡ true → ⊥
  not_table statement head body signature there is has table =
      let test = λ (s : Statement). not (has_head signature s) || gives_rows s in
      let all = (and_parts (list_any (λ (s : Statement). is_fact s.kind && has_head signature s) statements) (list_all test statements) table).1 in
      let here = In-list_all test statement statements all there in
      let headed : has_head signature statement ≡ true = any_from (same_predicate signature) (head_predicates statement.kind) signature
      (subst (λ (kind : Kind). In signature (head_predicates kind)) (sym is) has) (predicate_itself signature) in
      let rule : gives_rows statement ≡ false = ap (λ (kind : Kind). gives_rows (record { place = statement.place; part = statement.part; vars = statement.vars; kind = kind })) is in
      let clash : false ≡ true = sym (ap₂ (λ (a b : Bool). not a || b) headed rule) ∙ here in
      false≢true clash

  rule_atom : (statement : Statement) (head : Head) (body : List Literal) (atom : Atom) (binding : List Value) → In statement statements → statement.kind ≡ kinds.Rule head body → In (predicate_of atom) (head_predicates (kinds.Rule head body))
      → is_possible (atom_under symbols binding atom) ≡ true
  rule_atom statement head body atom binding there is has =
      let term_atom = atom_under symbols binding atom in
      let same : predicate term_atom ≡ predicate_of atom = λ i. record { negative = atom.negative; name = atom.name; arity = length-map atom.args (λ (arg : Expr). value_term symbols (expr_value binding arg)) i } in
      ⊎_elim (λ (table : is_table statements (predicate term_atom) ≡ true). absurd (not_table statement head body (predicate_of atom) there is has (sym (ap (is_table statements) same) ∙ table)))
      (λ (other : is_table statements (predicate term_atom) ≡ false). or_left (not (is_table statements (predicate term_atom))) (is_stated term_atom) (ap not other))
      (cases_Bool (is_table statements (predicate term_atom)))

  pub head_possible : (statement : Statement) (head : Head) (body : List Literal) (binding : List Value) → In statement statements → statement.kind ≡ kinds.Rule head body → HeadPasses is_possible (atom_under symbols binding) head
  head_possible statement (heads.Normal atom) body binding there is = rule_atom statement (heads.Normal atom) body atom binding there is (inl refl)
  head_possible statement (heads.Choice atom) body binding there is = rule_atom statement (heads.Choice atom) body atom binding there is (inl refl)
  head_possible statement heads.None body binding there is = tt

  -- ---- facts

  pub fact_possible : (statement : Statement) (fact : Fact) (row : List Value) → In statement statements → statement.kind ≡ kinds.Facts fact → In row (flat_map tuple_rows fact.tuples) → is_possible (fact_atom symbols fact row) ≡ true
  fact_possible statement fact row there is stated =
      let atom = fact_atom symbols fact row in
      let from = In-flat_map_from tuple_rows row fact.tuples stated in
      let tuple = from.0 in
      let same : predicate atom ≡ tuple_predicate fact tuple = λ i. record { negative = fact.negative; name = fact.name; arity = (length-map row (term_at symbols) ∙ row_length tuple row from.2) i } in
      let by_tuple = λ (t : List Arg). if same_predicate (predicate atom) (tuple_predicate fact t) then tuple_rows t else [] in
      let in_tuple : In row (by_tuple tuple) = subst (λ (test : Bool). In row (if test then tuple_rows tuple else [])) (sym (predicates_same (predicate atom) (tuple_predicate fact tuple) same)) from.2 in
      let in_fact : In row (fact_rows (predicate atom) statement.kind) = subst (λ (kind : Kind). In row (fact_rows (predicate atom) kind)) (sym is) (In-flat_map by_tuple tuple row fact.tuples from.1 in_tuple) in
      let in_all : In row (stated_rows statements (predicate atom)) = In-flat_map (λ (s : Statement). fact_rows (predicate atom) s.kind) statement row statements there in_fact in
      or_right (not (is_table statements (predicate atom))) (is_stated atom)
      (any_from (λ (r : List Value). terms_eq atom.args (map (term_at symbols) r)) (stated_rows statements (predicate atom)) row in_all (terms_themselves atom.args))

  -- ---- the values of arguments

  record AreValued (binding : List Value) (args : List Expr) : Type 0 where
    row : List Value
    are : values_of binding args ≡ Some row
    terms : map (λ (arg : Expr). value_term symbols (expr_value binding arg)) args ≡ map (term_at symbols) row
    range : list_all (value_in_range symbols) row ≡ true

  one_more : (binding : List Value) (first : Expr) (more : List Expr) (v : Valued) → expr_value binding first ≡ v → has_value v ≡ true → ((value : Value) → v ≡ Ok value → value_in_range symbols value ≡ true) → AreValued binding more → AreValued binding (first ∷ more)
  one_more binding first more (Ok value) is has ranges rest = record {
    row = value ∷ rest.row;
    are = ap₂ (λ (v : Valued) (row : Option (List Value)). with_value v row) is rest.are;
    terms = ap₂ (λ (t : Term) (ts : List Term). t ∷ ts) (ap (value_term symbols) is) rest.terms;
    range = and_from (value_in_range symbols value) (list_all (value_in_range symbols) rest.row) (ranges value refl) rest.range;
  }
  one_more binding first more (Err fault) is has ranges rest = absurd (false≢true has)

  valued : (binding : List Value) (args : List Expr) → ((expr : Expr) → In expr args → has_value (expr_value binding expr) ≡ true)
      → ((expr : Expr) (value : Value) → In expr args → expr_value binding expr ≡ Ok value → value_in_range symbols value ≡ true) → AreValued binding args
  valued binding [] has ranges = record { row = []; are = refl; terms = refl; range = refl }
  valued binding (first ∷ more) has ranges =
      one_more binding first more (expr_value binding first) refl (has first (inl refl)) (λ value is. ranges first value (inl refl) is)
      (valued binding more (λ expr found. has expr (inr found)) (λ expr value found. ranges expr value (inr found)))

  -- ---- instances that aren't live

  -- a positive atom of the body that isn't possible
  pub record HasImpossible (body : List Literal) (binding : List Value) : Type 0 where
    pub literal : Literal
    pub atom : Atom
    pub there : In literal body
    pub positive : IsPositive literal atom
    pub fails : is_possible (atom_under symbols binding atom) ≡ false

  module _ (table : IsTable symbols) (within : StatementsAreWithin symbols statements) where
    row_atom : (binding : List Value) (atom : Atom) → AreValued binding atom.args → is_stated (atom_under symbols binding atom) ≡ true → atom_is_row statements binding atom ≡ true
    row_atom binding atom values stated =
        let term_atom = atom_under symbols binding atom in
        let same : predicate term_atom ≡ predicate_of atom = λ i. record { negative = atom.negative; name = atom.name; arity = length-map atom.args (λ (arg : Expr). value_term symbols (expr_value binding arg)) i } in
        let found = any_found (λ (row : List Value). terms_eq term_atom.args (map (term_at symbols) row)) (stated_rows statements (predicate term_atom)) stated in
        let row = found.0 in
        let alike : terms_eq (map (term_at symbols) values.row) (map (term_at symbols) row) ≡ true = subst (λ (ts : List Term). terms_eq ts (map (term_at symbols) row) ≡ true) values.terms found.2 in
        let one : values.row ≡ row = one_row symbols table values.row row values.range (stated_range symbols statements within (predicate term_atom) row found.1) alike in
        let there : In row (stated_rows statements (predicate_of atom)) = subst (λ (p : Signature). In row (stated_rows statements p)) same found.1 in
        ap (passes (is_row statements (predicate_of atom))) values.are
        ∙ any_from (values_eq values.row) (stated_rows statements (predicate_of atom)) row there (subst (λ (r : List Value). values_eq values.row r ≡ true) one (values_themselves values.row))

    not_possible : (binding : List Value) (atom : Atom) → is_table statements (predicate_of atom) ≡ true → AreValued binding atom.args → atom_is_row statements binding atom ≡ false → is_possible (atom_under symbols binding atom) ≡ false
    not_possible binding atom is values fails =
        let term_atom = atom_under symbols binding atom in
        let same : predicate term_atom ≡ predicate_of atom = λ i. record { negative = atom.negative; name = atom.name; arity = length-map atom.args (λ (arg : Expr). value_term symbols (expr_value binding arg)) i } in
        let its_table : is_table statements (predicate term_atom) ≡ true = ap (is_table statements) same ∙ is in
        ⊎_elim (λ (stated : is_stated term_atom ≡ true). absurd (true≢false (sym (row_atom binding atom values stated) ∙ fails)))
        (λ (other : is_stated term_atom ≡ false). ap₂ (λ (a b : Bool). not a || b) its_table other) (cases_Bool (is_stated term_atom))

    pub lacking : (count : ℕ) (head : Head) (body : List Literal) (binding : List Value) → AreWithin symbols count (rule_exprs head body) → list_all (is_value symbols) binding ≡ true
        → makes_instance symbols head body binding ≡ true → is_live statements symbols head body binding ≡ false → HasImpossible body binding
    lacking count head body binding own all makes fails =
        let atoms = table_atoms statements body in
        let lost : list_all (atom_is_row statements binding) atoms ≡ false = sym (ap (λ (b : Bool). b && list_all (atom_is_row statements binding) atoms) makes) ∙ fails in
        let one = all_lost (atom_is_row statements binding) atoms lost in
        let atom = one.0 in
        let is = table_atom statements body atom one.1 in
        let exprs = rule_exprs head body in
        let has = (and_parts (list_all (λ (expr : Expr). has_value (expr_value binding expr)) exprs) (list_all (λ (literal : Literal). compares symbols binding literal.item) body) makes).0 in
        let values = valued binding atom.args
        (λ expr found. In-list_all (λ (e : Expr). has_value (expr_value binding e)) expr exprs has (atom_in_rule statements head body atom expr one.1 found))
        (λ expr value found given. value_ranges symbols count binding expr value all (own expr (atom_in_rule statements head body atom expr one.1 found)) given) in
        record { literal = is.literal; atom = atom; there = is.there; positive = is.positive; fails = not_possible binding atom is.table values one.2 }
