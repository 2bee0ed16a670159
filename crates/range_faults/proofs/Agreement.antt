-- Table atoms that agree with rows, as goals with places for their arguments.
use Rattle.std.proofs.Common.{◌≡◌, ◌⊎◌, inl, inr, ℕ, suc, ◌<◌, ◌≤◌, ◌+◌, true, false, ◌||◌, List, [], ◌∷◌, ◌++◌, map, length, refl, sym, ap, subst, ◌∙◌, ⊎_elim, true≢false, arith}
use Rattle.std.specs.Prelude.{Ok, Err, Option, Some, None, IsTrue}
use Rattle.std.specs.List.{list_any}
use Rattle.std.proofs.lemmas.Bool.{and_parts, and_from, or_cases, or_left, or_right, cases_Bool}
use Rattle.std.proofs.lemmas.List.{length-append}
use Rattle.tel_base.specs.Members.{In}
use Rattle.tel_base.proofs.Members.{In-append_left, In-append_right, In-append_cases, any_found, any_from, none_found}
use Rattle.tel_term.specs.declared.terms.Term.{Term}
use Rattle.tel_term.specs.declared.terms.Value.{Value}
use Rattle.tel_term.specs.declared.exprs.Expr.{Expr}
use Rattle.tel_term.specs.Arithmetic.{Valued, expr_value}
use Rattle.tel_rule.specs.Atoms.{values_eq}
use Rattle.tel_rule.specs.declared.formulas.Atom.{Atom}
use Rattle.tel_rule.specs.declared.statements.Statement.{Statement}
use Rattle.tel_semantics.specs.Tables.{predicate_of, is_table, stated_rows}
use Rattle.rule_binding.specs.Binding.{has, vars_of, whole_var, one_var, whole_args}
use Rattle.live_instances.specs.Reached.{is_same, arg_agrees, args_agree, atom_agrees, all_agree}
use Rattle.join_plans.specs.Join.{at}
use Rattle.join_plans.specs.Atoms.{Arg, places, after_args, after_atoms}
use Rattle.join_plans.specs.Goals.{Goal, IsRow, HasValue, arg_goals, atom_goals}
use Rattle.join_plans.proofs.Exact.{value_eq-Decides}
use Rattle.rule_plans.specs.Goals.{Rows, ok_value, expression_of, arg_from, arg_of, table_atom_of}
use Rattle.rule_plans.specs.Within.{IsWithin, AreWithin, AreRowsOf}
use Rattle.rule_plans.proofs.Exprs.{value_reads, whole_is}
use Rattle.rule_plans.proofs.Atoms.{AreTables, ok_from}
use Rattle.fact_table.specs.Equal.{values_one, values_itself}
use Rattle.range_faults.specs.Stops.{Agrees, AllAgree}

-- ---- values at places

-- the values xs stand from k on
abbrev pub Puts : ℕ → List Value → List Value → Type 0
Puts k [] w = Unit {0}
Puts k (x ∷ xs) w = (at w k ≡ x) × Puts (suc k) xs w

pub puts_left : (k : ℕ) (xs ys w : List Value) → Puts k (xs ++ ys) w → Puts k xs w
puts_left k [] ys w p = tt
puts_left k (x ∷ xs) ys w p = (p.0, puts_left (suc k) xs ys w p.1)

pub puts_right : (k : ℕ) (xs ys w : List Value) → Puts k (xs ++ ys) w → Puts (k + length xs) ys w
puts_right k [] ys w p = subst (λ (i : ℕ). Puts i ys w) (omega arith) p
puts_right k (x ∷ xs) ys w p = subst (λ (i : ℕ). Puts i ys w) (omega arith) (puts_right (suc k) xs ys w p.1)

pub puts_kept : (k : ℕ) (xs a c : List Value) → ((v : ℕ) → k ≤ v → at c v ≡ at a v) → Puts k xs a → Puts k xs c
puts_kept k [] a c same p = tt
puts_kept k (x ∷ xs) a c same p = (same k (omega arith) ∙ p.0, puts_kept (suc k) xs a c (λ v least. same v (omega (arith, least))) p.1)

-- ---- the values of a row at arguments that are no variables

abbrev own_one : Option ℕ → Value → List Value → List Value
own_one None x rest = x ∷ rest
own_one (Some v) x rest = rest

abbrev own : List Expr → List Value → List Value
own [] row = []
own (arg ∷ args) [] = []
own (arg ∷ args) (x ∷ row) = own_one (whole_var arg) x (own args row)

same_value : (x y : Value) → Some x ≡ Some y → x ≡ y
same_value x y e = cc

module _ (symbols : List Term) (count : ℕ) (unset : List ℕ) (b : List Value) where
  after_step : (k : ℕ) (arg : Expr) (args : List Arg) (x : Value) (rest : List Value) (whole : Option ℕ) → ((j : ℕ) → after_args j args ≡ j + length rest) → after_args k (arg_from arg whole ∷ args) ≡ k + length (own_one whole x rest)
  after_step k arg args x rest None later = let l = later (suc k) in omega (arith, l)
  after_step k arg args x rest (Some v) later = later k

  after_own : (k : ℕ) (args : List Expr) (row : List Value) → IsTrue (args_agree unset b args row) → after_args k (map arg_of args) ≡ k + length (own args row)
  after_own k [] [] h = omega arith
  after_own k [] (x ∷ row) h = absurd (true≢false (sym h))
  after_own k (arg ∷ args) [] h = absurd (true≢false (sym h))
  after_own k (arg ∷ args) (x ∷ row) h =
      let both = and_parts (arg_agrees unset b arg x) (args_agree unset b args row) h in
      after_step k arg (map arg_of args) x (own args row) (whole_var arg) (λ j. after_own j args row both.1)

  -- ---- where w has the values of b at all variables that are set

  module _ (w : List Value) (near : (v : ℕ) → v < count → has unset v ≡ false → at w v ≡ at b v) where
    value_near : (expr : Expr) → IsWithin symbols count expr → list_any (has unset) (vars_of expr) ≡ false → expr_value w expr ≡ expr_value b expr
    value_near expr within none = value_reads w b expr (λ v there. near v (within.vars v there) (none_found (has unset) (vars_of expr) v none there))

    same_from : (valued : Valued) (x : Value) → is_same valued x ≡ true → valued ≡ Ok x
    same_from (Ok value) x h = ap Ok ((value_eq-Decides value x).0 h)
    same_from (Err fault) x h = absurd (true≢false (sym h))

    same_to : (valued : Valued) (x : Value) → valued ≡ Ok x → is_same valued x ≡ true
    same_to valued x is = ap (λ (y : Valued). is_same y x) is ∙ (value_eq-Decides x x).1 refl

    agrees_to : (expr : Expr) (x : Value) → IsWithin symbols count expr → IsTrue (arg_agrees unset b expr x) → IsTrue (list_any (has unset) (vars_of expr)) ⊎ (ok_value (expr_value w expr) ≡ Some x)
    agrees_to expr x within h = elim (cases_Bool (list_any (has unset) (vars_of expr))) [
      | inl is ↦ inl is
      | inr isnt ↦ elim (or_cases (list_any (has unset) (vars_of expr)) (is_same (expr_value b expr) x) h) [
        | inl is ↦ absurd (true≢false (sym is ∙ isnt))
        | inr same ↦ inr (ap ok_value (value_near expr within isnt ∙ same_from (expr_value b expr) x same))
      ]
    ]

    agrees_from : (expr : Expr) (x : Value) → IsWithin symbols count expr → IsTrue (list_any (has unset) (vars_of expr)) ⊎ (ok_value (expr_value w expr) ≡ Some x) → IsTrue (arg_agrees unset b expr x)
    agrees_from expr x within (inl is) = or_left (list_any (has unset) (vars_of expr)) (is_same (expr_value b expr) x) is
    agrees_from expr x within (inr is) = elim (cases_Bool (list_any (has unset) (vars_of expr))) [
      | inl some ↦ or_left (list_any (has unset) (vars_of expr)) (is_same (expr_value b expr) x) some
      | inr none ↦ or_right (list_any (has unset) (vars_of expr)) (is_same (expr_value b expr) x) (same_to (expr_value b expr) x (sym (value_near expr within none) ∙ ok_from (expr_value w expr) x is))
    ]

    -- ---- from goals

    args_step : (k : ℕ) (arg : Expr) (args : List Expr) (whole : Option ℕ) → whole_var arg ≡ whole → IsWithin symbols count arg → AllAgree unset w (arg_goals k (arg_from arg whole ∷ map arg_of args))
        → ((j : ℕ) → AllAgree unset w (arg_goals j (map arg_of args)) → IsTrue (args_agree unset b args (map (at w) (places j (map arg_of args)))))
        → IsTrue (args_agree unset b (arg ∷ args) (map (at w) (places k (arg_from arg whole ∷ map arg_of args))))
    args_step k arg args None is within all later =
        and_from (arg_agrees unset b arg (at w k)) (args_agree unset b args (map (at w) (places (suc k) (map arg_of args))))
        (agrees_from arg (at w k) within (all (HasValue k (expression_of arg)) (inl refl))) (later (suc k) (λ goal there. all goal (inr there)))
    args_step k arg args (Some v) is within all later =
        and_from (arg_agrees unset b arg (at w v)) (args_agree unset b args (map (at w) (places k (map arg_of args))))
        (agrees_from arg (at w v) within (inr (ap ok_value ((whole_is arg v is).1 w)))) (later k all)

    args_from : (k : ℕ) (args : List Expr) → AreWithin symbols count args → AllAgree unset w (arg_goals k (map arg_of args)) → IsTrue (args_agree unset b args (map (at w) (places k (map arg_of args))))
    args_from k [] within all = refl
    args_from k (arg ∷ args) within all = args_step k arg args (whole_var arg) refl (within arg (inl refl)) all (λ j. args_from j args (λ expr there. within expr (inr there)))

    -- ---- to goals

    abbrev Clear : List Expr → Type 0
    Clear args = (v : ℕ) → In v (whole_args args) → has unset v ≡ false

    abbrev IsFilled : ℕ → List Arg → List Value → Type 0
    IsFilled k args row = (map (at w) (places k args) ≡ row) × AllAgree unset w (arg_goals k args)

    whole_value : (arg : Expr) (v : ℕ) (x : Value) → whole_var arg ≡ Some v → has unset v ≡ false → IsWithin symbols count arg → IsTrue (arg_agrees unset b arg x) → at w v ≡ x
    whole_value arg v x is clear within h = elim (agrees_to arg x within h) [
      | inl some ↦
          let own_var : list_any (has unset) (vars_of arg) ≡ (has unset v || false) = ap (list_any (has unset)) (whole_is arg v is).0 in
          elim (or_cases (has unset v) false (sym own_var ∙ some)) [
            | inl there ↦ absurd (true≢false (sym there ∙ clear))
            | inr never ↦ absurd (true≢false (sym never))
          ]
      | inr same ↦ same_value (at w v) x (sym (ap ok_value ((whole_is arg v is).1 w)) ∙ same)
    ]

    fill_step : (k : ℕ) (arg : Expr) (x : Value) (args : List Arg) (rest row : List Value) (whole : Option ℕ) → whole_var arg ≡ whole → ((v : ℕ) → whole ≡ Some v → has unset v ≡ false) → IsWithin symbols count arg → IsTrue (arg_agrees unset b arg x)
        → Puts k (own_one whole x rest) w → ((j : ℕ) → Puts j rest w → IsFilled j args row) → IsFilled k (arg_from arg whole ∷ args) (x ∷ row)
    fill_step k arg x args rest row None is clear within h puts later =
        let behind = later (suc k) puts.1 in
        let first = puts.0 in (
          (λ i. first i ∷ behind.0 i),
          λ goal there.
              ⊎_elim
              (λ (same : HasValue k (expression_of arg) ≡ goal). subst (λ (g : Goal). Agrees unset w g) same (agrees_to arg (at w k) within (subst (λ (y : Value). IsTrue (arg_agrees unset b arg y)) (sym first) h)))
              (λ rest_of. behind.1 goal rest_of)
              there,
        )
    fill_step k arg x args rest row (Some v) is clear within h puts later =
        let behind = later k puts in
        let first = whole_value arg v x is (clear v refl) within h in
        ((λ i. first i ∷ behind.0 i), behind.1)

    one_clear : (arg : Expr) (args : List Expr) → Clear (arg ∷ args) → (v : ℕ) → whole_var arg ≡ Some v → has unset v ≡ false
    one_clear arg args clear v is = clear v (In-append_left v (one_var (whole_var arg)) (whole_args args) (subst (λ (o : Option ℕ). In v (one_var o)) (sym is) (inl refl)))

    args_filled : (k : ℕ) (args : List Expr) (row : List Value) → AreWithin symbols count args → Clear args → IsTrue (args_agree unset b args row) → Puts k (own args row) w → IsFilled k (map arg_of args) row
    args_filled k [] [] within clear h puts = (refl, λ goal there. absurd there)
    args_filled k [] (x ∷ row) within clear h puts = absurd (true≢false (sym h))
    args_filled k (arg ∷ args) [] within clear h puts = absurd (true≢false (sym h))
    args_filled k (arg ∷ args) (x ∷ row) within clear h puts =
        let both = and_parts (arg_agrees unset b arg x) (args_agree unset b args row) h in
        fill_step k arg x (map arg_of args) (own args row) row (whole_var arg) refl (one_clear arg args clear) (within arg (inl refl)) both.0 puts
        (λ j. args_filled j args row (λ expr there. within expr (inr there)) (λ v there. clear v (In-append_right v (one_var (whole_var arg)) (whole_args args) there)) both.1)

  -- ---- table atoms

  module _ (statements : List Statement) (rows : Rows) (are : AreRowsOf statements symbols rows) where
    row_stated : (atom : Atom) (row : List Value) → is_table statements (predicate_of atom) ≡ true → In row (rows (predicate_of atom)) → IsTrue (args_agree unset b atom.args row) → IsTrue (atom_agrees statements unset b atom)
    row_stated atom row table there agrees =
        let found = any_found (values_eq row) (stated_rows statements (predicate_of atom)) ((are.same (predicate_of atom) table row).0 there) in
        any_from (args_agree unset b atom.args) (stated_rows statements (predicate_of atom)) found.0 found.1 (subst (λ (r : List Value). IsTrue (args_agree unset b atom.args r)) (values_one row found.0 found.2) agrees)

    stated_row : (atom : Atom) → is_table statements (predicate_of atom) ≡ true → IsTrue (atom_agrees statements unset b atom) → (row : List Value) × In row (rows (predicate_of atom)) × IsTrue (args_agree unset b atom.args row)
    stated_row atom table h =
        let found = any_found (args_agree unset b atom.args) (stated_rows statements (predicate_of atom)) h in
        (found.0, (are.same (predicate_of atom) table found.0).1 (any_from (values_eq found.0) (stated_rows statements (predicate_of atom)) found.0 found.1 (values_itself found.0)), found.2)

    abbrev Within : List Atom → Type 0
    Within atoms = (atom : Atom) → In atom atoms → AreWithin symbols count atom.args

    pub all_from : (w : List Value) → ((v : ℕ) → v < count → has unset v ≡ false → at w v ≡ at b v) → (k : ℕ) (atoms : List Atom) → AreTables statements atoms → Within atoms → AllAgree unset w (atom_goals k (map (table_atom_of rows) atoms)) → IsTrue (all_agree statements unset b atoms)
    all_from w near k [] tables within all = refl
    all_from w near k (atom ∷ atoms) tables within all =
        let args = map arg_of atom.args in
        let later = atom_goals (after_args k args) (map (table_atom_of rows) atoms) in
        and_from (atom_agrees statements unset b atom) (all_agree statements unset b atoms)
        (row_stated atom (map (at w) (places k args)) (tables atom (inl refl)) (all (IsRow (places k args) (rows (predicate_of atom))) (inl refl))
        (args_from w near k atom.args (within atom (inl refl)) (λ goal there. all goal (inr (In-append_left goal (arg_goals k args) later there)))))
        (all_from w near (after_args k args) atoms (λ other there. tables other (inr there)) (λ other there. within other (inr there)) (λ goal there. all goal (inr (In-append_right goal (arg_goals k args) later there))))

    -- the values for the places of arguments
    pub record Filling (k : ℕ) (atoms : List Atom) : Type 0 where
      pub more : List Value
      pub long : k + length more ≡ after_atoms k (map (table_atom_of rows) atoms)
      pub agree : (w : List Value) → ((v : ℕ) → v < count → has unset v ≡ false → at w v ≡ at b v) → Puts k more w → AllAgree unset w (atom_goals k (map (table_atom_of rows) atoms))

    pub fill : (k : ℕ) (atoms : List Atom) → AreTables statements atoms → Within atoms → ((atom : Atom) (v : ℕ) → In atom atoms → In v (whole_args atom.args) → has unset v ≡ false) → IsTrue (all_agree statements unset b atoms) → Filling k atoms
    fill k [] tables within clear h = record { more = []; long = omega arith; agree = λ w near puts goal there. absurd there }
    fill k (atom ∷ atoms) tables within clear h =
        let both = and_parts (atom_agrees statements unset b atom) (all_agree statements unset b atoms) h in
        let row = stated_row atom (tables atom (inl refl)) both.0 in
        let args = map arg_of atom.args in
        let mine = own atom.args row.0 in
        let after = after_own k atom.args row.0 row.2 in
        let rest = fill (after_args k args) atoms (λ other there. tables other (inr there)) (λ other there. within other (inr there)) (λ other v there whole. clear other v (inr there) whole) both.1 in
        let sum = length-append mine rest.more in
        let long = rest.long in
        record {
          more = mine ++ rest.more;
          long = omega (arith, after, sum, long);
          agree = λ w near puts goal there.
              let here = args_filled w near k atom.args row.0 (within atom (inl refl)) (λ v whole. clear atom v (inl refl) whole) row.2 (puts_left k mine rest.more w puts) in
              let behind = rest.agree w near (subst (λ (j : ℕ). Puts j rest.more w) (sym after) (puts_right k mine rest.more w puts)) in
              ⊎_elim
              (λ (same : IsRow (places k args) (rows (predicate_of atom)) ≡ goal). subst (λ (g : Goal). Agrees unset w g) same (subst (λ (r : List Value). In r (rows (predicate_of atom))) (sym here.0) row.1))
              (λ later. ⊎_elim (λ mine_there. here.1 goal mine_there) (λ rest_there. behind goal rest_there) (In-append_cases goal (arg_goals k args) (atom_goals (after_args k args) (map (table_atom_of rows) atoms)) later))
              there;
        }
