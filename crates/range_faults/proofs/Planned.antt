-- The plan of a search for the faults of a rule.
use Rattle.std.proofs.Common.{◌≡◌, ◌∙◌, ◌⊎◌, ◌↔◌, inl, inr, ℕ, suc, ◌+◌, ◌<◌, ◌≤◌, Bool, true, false, ◌==◌, List, [], ◌∷◌, ◌++◌, map, length, refl, sym, ap, subst, ⊎_elim, arith, true≢false}
use Rattle.std.specs.Prelude.{Ok, Err, Some, pos, replicate, IsTrue}
use Rattle.std.specs.List.{list_all, list_any, flat_map}
use Rattle.std.proofs.lemmas.Bool.{cases_Bool, cases_lt, or_cases, or_left, or_right, false_from_ne_true, and_from, eq-eqb, eqb-true}
use Rattle.tel_base.specs.Members.{In}
use Rattle.tel_base.proofs.Members.{In-append_left, In-append_right, In-append_cases, In-map, In-map_from, In-list_all, list_all-from_In, any_found, any_from}
use Rattle.tel_term.specs.declared.terms.Term.{Term}
use Rattle.tel_term.specs.declared.terms.Value.{Value}
use Rattle.tel_term.specs.declared.terms.Value.TheVariants as values
use Rattle.tel_term.specs.declared.exprs.Expr.{Expr}
use Rattle.tel_term.specs.declared.exprs.Expr.TheVariants as exprs
use Rattle.tel_term.specs.Arithmetic.{Valued, expr_value, layer_value}
use Rattle.tel_rule.specs.declared.formulas.Atom.{Atom}
use Rattle.tel_rule.specs.declared.statements.Head.{Head}
use Rattle.tel_rule.specs.declared.statements.Literal.{Literal}
use Rattle.tel_rule.specs.declared.statements.Kind.{Kind}
use Rattle.tel_rule.specs.declared.statements.Statement.{Statement}
use Rattle.tel_semantics.specs.Tables.{is_table}
use Rattle.rule_binding.specs.Binding.{has, vars_of, layer_vars, row_vars, body_of, equations_of, Setting, SettingsOf, AreSettings}
use Rattle.rule_binding.specs.Closure.{marked}
use Rattle.rule_constants.proofs.Kept.{fold-value}
use Rattle.rule_settings.specs.Candidates.{AreMarked}
use Rattle.live_instances.specs.Bindings.{is_value}
use Rattle.live_instances.specs.Instances.{rule_exprs, head_exprs, table_atoms}
use Rattle.live_instances.specs.Reached.{is_same, set_by}
use Rattle.join_plans.specs.Join as plans
use Rattle.join_plans.specs.Join.{at, is_known, answers, IsPlan}
use Rattle.join_plans.specs.Atoms.{after_atoms}
use Rattle.join_plans.specs.Goals as plan_goals
use Rattle.join_plans.specs.Goals.{goal_of, IsMet, Gives, IsRow, HasValue, Compares}
use Rattle.join_plans.proofs.Arranged.{plans_meet_goals, found_values_pass}
use Rattle.join_plans.proofs.Exact.{value_eq-Decides}
use Rattle.fact_table.specs.Rows.{rows_of}
use Rattle.rule_plans.specs.Goals.{Rows, ok_value, expression_of, comparison_of, rule_atoms, row_goals}
use Rattle.rule_plans.specs.Within.{values_in, layer_values, AreWithin, kind_exprs}
use Rattle.rule_plans.proofs.Exprs.{value_reads, value_term}
use Rattle.rule_plans.proofs.Atoms.{ok_from, after_atoms_least}
use Rattle.plan_search.specs.declared.steps.Step.{Step}
use Rattle.plan_search.specs.Steps.{Tables, plan_of, AreTerms}
use Rattle.plan_order.specs.declared.goals.Goal.{Goal}
use Rattle.plan_order.specs.declared.goals.Goal.TheVariants as goals
use Rattle.plan_order.specs.Goals.{meant, IsSound, GoalHasTerms, GoalsHaveTerms, AreBelow, ready, IsDone}
use Rattle.plan_order.specs.Passing.{IsOrdered, IsStuck}
use Rattle.rule_goals.specs.Said.{Said, Row, Equal, Compare, said, all_said, Numbers}
use Rattle.rule_goals.specs.Laws.{AreRowGoalsOf, AreFit, body_exprs}
use Rattle.rule_goals.specs.Numbers.{AreNumbered}
use Rattle.rule_goals.proofs.Stuck.{atom_vars, vars_are}
use Rattle.range_faults.specs.Laws.{IsSteady, AreParted, AreBegun}
use Rattle.range_faults.specs.Ranges.{IsBoundProgram}
use Rattle.range_faults.specs.Rules.{IsRuleIn, IsRangePlan}
use Rattle.range_faults.specs.Stops.{Agrees, AllAgree}
use Rattle.range_faults.specs.Testing.{agrees, all_agree}
use Rattle.range_faults.specs.Parting.{is_early, early_goals, late_goals, zero_goals}
use Rattle.range_faults.proofs.RowGoals.{IsOfRows, of_rows, Covers, whole_covers, free_covers}
use Rattle.range_faults.proofs.Parts.{early_from, early_to, late_from, late_to, IsZeroGoal, zero_from, zero_to}
use Rattle.range_faults.proofs.Settled.{AreFine, settings_fine, not_set, set_small}

-- ---- what goals say

module _ (tables : Tables) (symbols : List Term) where
  abbrev pub means : Said → plan_goals.Goal
  means (Row table where_to) = IsRow where_to (rows_of tables table)
  means (Equal place expr reads) = HasValue place (expression_of expr)
  means (Compare relation left right reads) = Compares (comparison_of symbols relation left right)

  pub means_one : (goal : Goal) → meant tables symbols goal ≡ means (said goal)
  means_one (goals.Row predicate where_to) = refl
  means_one (goals.Equal place expr reads) = refl
  means_one (goals.Compare relation left right reads) = refl

  pub means_all : (list : List Goal) → map (meant tables symbols) list ≡ map means (all_said list)
  means_all [] = refl
  means_all (goal ∷ list) = λ i. means_one goal i ∷ means_all list i

abbrev pub SaidSound : ℕ → Said → Type 0
SaidSound count (Row table where_to) = AreBelow count where_to
SaidSound count (Equal place expr reads) = (place < count) × (reads ≡ vars_of expr) × AreBelow count reads
SaidSound count (Compare relation left right reads) = (reads ≡ vars_of left ++ vars_of right) × AreBelow count reads

sound_to : (count : ℕ) (goal : Goal) → IsSound count goal → SaidSound count (said goal)
sound_to count (goals.Row predicate where_to) sound = sound
sound_to count (goals.Equal place expr reads) sound = sound
sound_to count (goals.Compare relation left right reads) sound = sound

sound_from : (count : ℕ) (goal : Goal) → SaidSound count (said goal) → IsSound count goal
sound_from count (goals.Row predicate where_to) sound = sound
sound_from count (goals.Equal place expr reads) sound = sound
sound_from count (goals.Compare relation left right reads) sound = sound

abbrev pub SaidTerms : List Term → Said → Type 0
SaidTerms symbols (Row table where_to) = Unit {0}
SaidTerms symbols (Equal place expr reads) = AreTerms symbols (values_in expr)
SaidTerms symbols (Compare relation left right reads) = AreTerms symbols (values_in left) × AreTerms symbols (values_in right)

terms_to : (symbols : List Term) (goal : Goal) → GoalHasTerms symbols goal → SaidTerms symbols (said goal)
terms_to symbols (goals.Row predicate where_to) terms = tt
terms_to symbols (goals.Equal place expr reads) terms = terms
terms_to symbols (goals.Compare relation left right reads) terms = terms

terms_from : (symbols : List Term) (goal : Goal) → SaidTerms symbols (said goal) → GoalHasTerms symbols goal
terms_from symbols (goals.Row predicate where_to) terms = tt
terms_from symbols (goals.Equal place expr reads) terms = terms
terms_from symbols (goals.Compare relation left right reads) terms = terms

-- ---- what goals that are ready give

abbrev said_ready : List Bool → Said → Bool
said_ready known (Row table where_to) = true
said_ready known (Equal place expr reads) = list_all (is_known known) reads
said_ready known (Compare relation left right reads) = list_all (is_known known) reads

abbrev SaidDone : List Bool → Said → Type 0
SaidDone known (Row table where_to) = (v : ℕ) → In v where_to → IsTrue (is_known known v)
SaidDone known (Equal place expr reads) = IsTrue (is_known known place)
SaidDone known (Compare relation left right reads) = Unit {0}

ready_to : (known : List Bool) (goal : Goal) → ready known goal ≡ said_ready known (said goal)
ready_to known (goals.Row predicate where_to) = refl
ready_to known (goals.Equal place expr reads) = refl
ready_to known (goals.Compare relation left right reads) = refl

done_to : (known : List Bool) (goal : Goal) → IsDone known goal → SaidDone known (said goal)
done_to known (goals.Row predicate where_to) done = done
done_to known (goals.Equal place expr reads) done = done
done_to known (goals.Compare relation left right reads) done = tt

abbrev places_of : plan_goals.Goal → List ℕ
places_of (IsRow where_to its) = where_to
places_of (HasValue place e) = []
places_of (Compares c) = []

-- ---- numbers as expressions

module _ (expr : Expr) (is : expr ≡ exprs.Value (values.Num (pos 0))) where
  zero_vars : vars_of expr ≡ []
  zero_vars = ap vars_of is ∙ fold-value (List ℕ) layer_vars (values.Num (pos 0))

  zero_value : (b : List Value) → expr_value b expr ≡ Ok (values.Num (pos 0))
  zero_value b = ap (expr_value b) is ∙ fold-value Valued (layer_value b) (values.Num (pos 0))

  zero_values : values_in expr ≡ values.Num (pos 0) ∷ []
  zero_values = ap values_in is ∙ fold-value (List Value) layer_values (values.Num (pos 0))

some_value : (x y : Value) → Some x ≡ Some y → x ≡ y
some_value x y e = cc

all_at : (test : Value → Bool) (w : List Value) → ((v : ℕ) → v < length w → IsTrue (test (at w v))) → IsTrue (list_all test w)
all_at test [] all = refl
all_at test (x ∷ w) all = and_from (test x) (list_all test w) (all 0 (omega arith)) (all_at test w (λ v less. all (suc v) (omega (arith, less))))

-- ---- the plan

module _ (number : Numbers) (statements : List Statement) (rows : Rows) (tables : Tables) (symbols : List Term) (rule : Statement) (head : Head) (body : List Literal) (rule_in : IsRuleIn number statements rows tables symbols rule head body)
    (marks : List Bool) (marks_are : AreMarked marks (row_vars (is_table statements) body)) (marks_long : length marks ≡ length rule.vars) (zero_expr : Expr) (zero_is : zero_expr ≡ exprs.Value (values.Num (pos 0))) where
  abbrev count : ℕ
  count = length rule.vars

  abbrev bound : List ℕ
  bound = row_vars (is_table statements) body

  abbrev atoms : List Atom
  atoms = table_atoms statements body

  abbrev program : IsBoundProgram number statements rows tables symbols
  program = rule_in.inside.program

  within : AreWithin symbols count (rule_exprs head body)
  within = subst (λ (kind : Kind). AreWithin symbols count (kind_exprs kind)) rule_in.is (program.within rule rule_in.inside.there)

  body_is : body_of rule.kind ≡ body
  body_is = ap body_of rule_in.is

  pub body_within : AreWithin symbols count (body_exprs body)
  body_within expr there = within expr (In-append_right expr (head_exprs head) (body_exprs body) there)

  module _ (vars places : ℕ) (list : List Goal) (vars_are_count : vars ≡ count)
      (made : (ss : List Statement) (terms : List Term) (rs : Rows) (ts : Tables) → AreNumbered number ss rs ts → AreRowGoalsOf ss terms rs ts vars body places list)
      (fitting : (terms : List Term) → AreWithin terms vars (body_exprs body) → AreFit terms places list)
      (early_list late_list : List Goal) (early_is : all_said early_list ≡ zero_goals zero_expr 0 marks ++ early_goals marks (all_said list)) (late_is : all_said late_list ≡ late_goals marks (all_said list)) where
    are : AreRowGoalsOf statements symbols rows tables count body places list
    are = subst (λ (n : ℕ). AreRowGoalsOf statements symbols rows tables n body places list) vars_are_count (made statements symbols rows tables program.numbered)

    fit : AreFit symbols places list
    fit = fitting symbols (subst (λ (n : ℕ). AreWithin symbols n (body_exprs body)) (sym vars_are_count) body_within)

    least : count ≤ places
    least = let own = after_atoms_least count (rule_atoms statements rows body) in let is = are.places_are in omega (arith, own, is)

    abbrev all : List Said
    all = all_said list

    abbrev zeros : List Said
    zeros = zero_goals zero_expr 0 marks

    abbrev earlys : List Said
    earlys = early_goals marks all

    abbrev means_it : Said → plan_goals.Goal
    means_it = means tables symbols

    -- what the table atoms ask for is what the goals mean
    rows_mean : map means_it all ≡ row_goals statements rows count body
    rows_mean = sym (means_all tables symbols list) ∙ are.goals_are

    one_sound : (one : Said) → In one all → SaidSound places one
    one_sound one there = let from = In-map_from said one list there in subst (λ (o : Said). SaidSound places o) from.2 (sound_to places from.0 (fit.sound from.0 from.1))

    one_terms : (one : Said) → In one all → SaidTerms symbols one
    one_terms one there = let from = In-map_from said one list there in subst (λ (o : Said). SaidTerms symbols o) from.2 (terms_to symbols from.0 (fit.terms from.0 from.1))

    one_of_rows : (one : Said) → In one all → IsOfRows (flat_map atom_vars atoms) count (means_it one)
    one_of_rows one there = of_rows rows count atoms (means_it one) (subst (λ (l : List plan_goals.Goal). In (means_it one) l) rows_mean (In-map means_it one all there))

    -- ---- the goals that are ordered

    early_cases : (one : Said) → In one (all_said early_list) → In one zeros ⊎ In one earlys
    early_cases one there = In-append_cases one zeros earlys (subst (λ (l : List Said). In one l) early_is there)

    from_zeros : (one : Said) → In one zeros → In one (all_said early_list)
    from_zeros one there = subst (λ (l : List Said). In one l) (sym early_is) (In-append_left one zeros earlys there)

    from_early : (one : Said) → In one earlys → In one (all_said early_list)
    from_early one there = subst (λ (l : List Said). In one l) (sym early_is) (In-append_right one zeros earlys there)

    zero_sound : (one : Said) → In one zeros → SaidSound places one
    zero_sound one there =
        let of = zero_from zero_expr 0 marks one there in
        let less = of.inside in
        let own = least in
        subst (λ (o : Said). SaidSound places o) of.is (omega (arith, less, marks_long, own), sym (zero_vars zero_expr zero_is), λ v none. absurd none)

    zero_terms : (one : Said) → In one zeros → SaidTerms symbols one
    zero_terms one there =
        let of = zero_from zero_expr 0 marks one there in
        subst (λ (o : Said). SaidTerms symbols o) of.is (subst (λ (l : List Value). AreTerms symbols l) (sym (zero_values zero_expr zero_is)) refl)

    ordered_sound : (one : Said) → In one (all_said early_list) → SaidSound places one
    ordered_sound one there = ⊎_elim (λ zero_one. zero_sound one zero_one) (λ early. one_sound one (early_from marks all one early).0) (early_cases one there)

    ordered_terms : (one : Said) → In one (all_said early_list) → SaidTerms symbols one
    ordered_terms one there = ⊎_elim (λ zero_one. zero_terms one zero_one) (λ early. one_terms one (early_from marks all one early).0) (early_cases one there)

    pub all_sound : (goal : Goal) → In goal early_list → IsSound places goal
    all_sound goal there = sound_from places goal (ordered_sound (said goal) (In-map said goal early_list there))

    have_terms : GoalsHaveTerms symbols early_list
    have_terms goal there = terms_from symbols goal (ordered_terms (said goal) (In-map said goal early_list there))

    -- ---- they aren't stuck

    module _ (stuck : IsStuck places early_list) where
      abbrev known : List Bool
      known = stuck.known

      done : (one : Said) → In one (all_said early_list) → said_ready known one ≡ true → SaidDone known one
      done one there is =
          let from = In-map_from said one early_list there in
          subst (λ (o : Said). SaidDone known o) from.2
          (done_to known from.0 (stuck.closed from.0 from.1 (ready_to known from.0 ∙ ap (said_ready known) from.2 ∙ is)))

      row_known : (where_to : List ℕ) (its : List (List Value)) (one : Said) → In one all → means_it one ≡ IsRow where_to its → (v : ℕ) → In v where_to → IsTrue (is_known known v)
      row_known where_to its (Row table own) there is v here = done (Row table own) (from_early (Row table own) (early_to marks all (Row table own) there refl)) refl v (subst (λ (l : List ℕ). In v l) (sym (ap places_of is)) here)
      row_known where_to its (Equal place expr reads) there is v here = absurd cc
      row_known where_to its (Compare relation left right reads) there is v here = absurd cc

      covered_known : (v : ℕ) → Covers rows v (row_goals statements rows count body) → IsTrue (is_known known v)
      covered_known v covers =
          let from = In-map_from means_it (IsRow covers.where_to covers.its) all (subst (λ (l : List plan_goals.Goal). In (IsRow covers.where_to covers.its) l) (sym rows_mean) covers.there) in
          row_known covers.where_to covers.its from.0 from.1 from.2 v covers.own

      bound_known : (v : ℕ) → In v bound → IsTrue (is_known known v)
      bound_known v there = covered_known v (whole_covers rows v count atoms (subst (λ (l : List ℕ). In v l) (vars_are statements body) there))

      open_known : (v : ℕ) → v < count → marked marks v ≡ false → IsTrue (is_known known v)
      open_known v less isnt =
          let same : v + 0 ≡ v = omega arith in
          subst (λ (n : ℕ). IsTrue (is_known known n)) same
          (done (Equal (v + 0) zero_expr []) (from_zeros (Equal (v + 0) zero_expr []) (zero_to zero_expr 0 marks v (omega (arith, less, marks_long)) isnt)) refl)

      var_known : (v : ℕ) → v < count → IsTrue (is_known known v)
      var_known v less = elim (cases_Bool (marked marks v)) [
        | inl is ↦
            let found = any_found (λ (w : ℕ). w == v) bound (marks_are v ∙ is) in
            bound_known v (subst (λ (w : ℕ). In w bound) (eqb-true found.0 v found.2) found.1)
        | inr isnt ↦ open_known v less isnt
      ]

      pub not_stuck : ⊥
      not_stuck =
          let v = stuck.misses.0 in
          let less : v < after_atoms count (rule_atoms statements rows body) = subst (λ (n : ℕ). v < n) are.places_are stuck.misses.1 in
          let is : IsTrue (is_known known v) =
          ⊎_elim (λ (below : v < count). var_known v below) (λ (above : count ≤ v). covered_known v (free_covers rows v count atoms above less)) (cases_lt v count) in
          true≢false (sym is ∙ stuck.misses.2)

    -- ---- what the plan finds

    abbrev early : List plan_goals.Goal
    early = map means_it earlys

    module _ (steps : List Step) (ordered : IsOrdered tables symbols places early_list steps) where
      abbrev plan : List plans.Step
      plan = plan_of tables symbols steps

      asked_from : (goal : plan_goals.Goal) → In goal (map goal_of plan) → (one : Said) × In one (all_said early_list) × (means_it one ≡ goal)
      asked_from goal there = In-map_from means_it goal (all_said early_list) (subst (λ (l : List plan_goals.Goal). In goal l) (means_all tables symbols early_list) ((ordered.asks goal).0 there))

      asked_to : (one : Said) → In one (all_said early_list) → In (means_it one) (map goal_of plan)
      asked_to one there = (ordered.asks (means_it one)).1 (subst (λ (l : List plan_goals.Goal). In (means_it one) l) (sym (means_all tables symbols early_list)) (In-map means_it one (all_said early_list) there))

      runs_at : (env : List Value) → length env ≡ places → IsPlan (replicate (length env) false) plan
      runs_at env long = subst (λ (n : ℕ). IsPlan (replicate n false) plan) (sym long) ordered.runs

      finds_to : (env w : List Value) → length env ≡ places → In w (answers plan env) → AreBegun count places bound early w
      finds_to env w long there =
          let both = (plans_meet_goals plan env w (runs_at env long)).0 there in
          record {
            long = both.0 ∙ long;
            met = λ goal own.
                let from = In-map_from means_it goal earlys own in
                subst (λ (g : plan_goals.Goal). IsMet w g) from.2 (both.1 (means_it from.0) (asked_to from.0 (from_early from.0 from.1)));
            zeros = λ v less isnt.
                let same : v + 0 ≡ v = omega arith in
                let own = both.1 (HasValue (v + 0) (expression_of zero_expr)) (asked_to (Equal (v + 0) zero_expr []) (from_zeros (Equal (v + 0) zero_expr []) (zero_to zero_expr 0 marks v (omega (arith, less, marks_long)) (sym (marks_are v) ∙ isnt)))) in
                let value : Some (values.Num (pos 0)) ≡ Some (at w (v + 0)) = sym (ap ok_value (zero_value zero_expr zero_is w)) ∙ own in
                sym (some_value (values.Num (pos 0)) (at w v) (value ∙ ap (λ (n : ℕ). Some (at w n)) same));
          }

      finds_from : (env w : List Value) → length env ≡ places → AreBegun count places bound early w → In w (answers plan env)
      finds_from env w long begun =
          (plans_meet_goals plan env w (runs_at env long)).1 (
            begun.long ∙ sym long,
            λ goal there.
                let from = asked_from goal there in
                subst (λ (g : plan_goals.Goal). IsMet w g) from.2
                (⊎_elim
                (λ (zero_one : In from.0 zeros).
                let of = zero_from zero_expr 0 marks from.0 zero_one in
                let less = of.inside in
                let same : of.v + 0 ≡ of.v = omega arith in
                subst (λ (o : Said). IsMet w (means_it o)) of.is
                (ap ok_value (zero_value zero_expr zero_is w) ∙ ap Some (sym (begun.zeros of.v (omega (arith, less, marks_long)) (marks_are of.v ∙ of.unmarked))) ∙ ap (λ (n : ℕ). Some (at w n)) (sym same)))
                (λ (early_one : In from.0 earlys). begun.met (means_it from.0) (In-map means_it from.0 earlys early_one))
                (early_cases from.0 from.1)),
          )

      gives_one : (one : Said) → In one (all_said early_list) → Gives (is_value symbols) (means_it one)
      gives_one (Row table where_to) there = λ row own. program.terms table row own
      gives_one (Equal place expr reads) there =
          let terms = ordered_terms (Equal place expr reads) there in
          λ b x own is. value_term symbols b expr (λ value inside. In-list_all (is_value symbols) value (values_in expr) terms inside) own x (ok_from (expr_value b expr) x is)
      gives_one (Compare relation left right reads) there = tt

      values_found : (env w : List Value) → length env ≡ places → In w (answers plan env) → AreTerms symbols w
      values_found env w long there =
          all_at (is_value symbols) w
          (found_values_pass (is_value symbols) plan env w (runs_at env long)
          (λ goal asked. let from = asked_from goal asked in subst (λ (g : plan_goals.Goal). Gives (is_value symbols) g) from.2 (gives_one from.0 from.1)) there)

      -- ---- late goals

      late_mean : map (meant tables symbols) late_list ≡ map means_it (late_goals marks all)
      late_mean = means_all tables symbols late_list ∙ ap (map means_it) late_is

      one_late : (one : Said) → In one (all_said late_list) → In one all × (is_early marks one ≡ false)
      one_late one there = late_from marks all one (subst (λ (l : List Said). In one l) late_is there)

      module _ (unset : List ℕ) (env : List Value) where
        agrees_to : (one : Said) → In one (all_said late_list) → IsTrue (agrees (has unset) env one) → Agrees unset env (means_it one)
        agrees_to (Row table where_to) there is = absurd (true≢false (one_late (Row table where_to) there).1)
        agrees_to (Equal place expr reads) there is =
            let sound = one_sound (Equal place expr reads) (one_late (Equal place expr reads) there).0 in
            ⊎_elim (λ some. inl (subst (λ (l : List ℕ). IsTrue (list_any (has unset) l)) sound.1 some)) (λ same. inr (same_to (expr_value env expr) (at env place) same))
            (or_cases (list_any (has unset) reads) (is_same (expr_value env expr) (at env place)) is)
          where
            same_to : (valued : Valued) (x : Value) → is_same valued x ≡ true → ok_value valued ≡ Some x
            same_to (Ok value) x h = ap Some ((value_eq-Decides value x).0 h)
            same_to (Err fault) x h = absurd (true≢false (sym h))
        agrees_to (Compare relation left right reads) there is = tt

        agrees_from : (one : Said) → In one (all_said late_list) → Agrees unset env (means_it one) → IsTrue (agrees (has unset) env one)
        agrees_from (Row table where_to) there agree = refl
        agrees_from (Equal place expr reads) there agree =
            let sound = one_sound (Equal place expr reads) (one_late (Equal place expr reads) there).0 in
            ⊎_elim (λ some. or_left (list_any (has unset) reads) (is_same (expr_value env expr) (at env place)) (subst (λ (l : List ℕ). IsTrue (list_any (has unset) l)) (sym sound.1) some))
            (λ same. or_right (list_any (has unset) reads) (is_same (expr_value env expr) (at env place)) (ap (λ (y : Valued). is_same y (at env place)) (ok_from (expr_value env expr) (at env place) same) ∙ (value_eq-Decides (at env place) (at env place)).1 refl))
            agree
        agrees_from (Compare relation left right reads) there agree = refl

        agreement : IsTrue (all_agree (has unset) env (all_said late_list)) ↔ AllAgree unset env (map (meant tables symbols) late_list)
        agreement = (
          (λ all_one goal there.
              let from = In-map_from means_it goal (all_said late_list) (subst (λ (l : List plan_goals.Goal). In goal l) (means_all tables symbols late_list) there) in
              subst (λ (g : plan_goals.Goal). Agrees unset env g) from.2 (agrees_to from.0 from.1 (In-list_all (agrees (has unset) env) from.0 (all_said late_list) all_one from.1))),
          (λ all_one.
              list_all-from_In (agrees (has unset) env) (all_said late_list)
              (λ one there.
              agrees_from one there
              (all_one (means_it one) (subst (λ (l : List plan_goals.Goal). In (means_it one) l) (sym (means_all tables symbols late_list)) (In-map means_it one (all_said late_list) there))))),
        )

      -- ---- early goals are steady

      module _ (settings : List Setting) (settled : SettingsOf (is_table statements) rule settings) where
        settings_are : AreSettings (equations_of body) bound settings
        settings_are = subst (λ (l : List Literal). AreSettings (equations_of l) (row_vars (is_table statements) l) settings) body_is settled

        fine : AreFine symbols count bound settings
        fine = settings_fine symbols count head body within bound settings settings_are

        past_not_set : (v : ℕ) → count ≤ v → has (set_by settings) v ≡ false
        past_not_set v past = false_from_ne_true (has (set_by settings) v) (λ there. let small = set_small symbols count bound settings v fine there in absurd (omega (arith, past, small)))

        bound_not_set : (v : ℕ) → IsTrue (has bound v) → has (set_by settings) v ≡ false
        bound_not_set v is = not_set symbols count bound settings v fine is

        steady_one : (one : Said) → In one all → is_early marks one ≡ true → IsSteady (set_by settings) (means_it one)
        steady_one (Row table where_to) there is =
            let kind = one_of_rows (Row table where_to) there in
            λ v own.
            ⊎_elim
            (λ (whole : In v (flat_map atom_vars atoms)). bound_not_set v (any_from (λ (w : ℕ). w == v) bound v (subst (λ (l : List ℕ). In v l) (sym (vars_are statements body)) whole) (eq-eqb v v refl)))
            (λ (past : count ≤ v). past_not_set v past)
            (kind v own)
        steady_one (Equal place expr reads) there is =
            let kind = one_of_rows (Equal place expr reads) there in
            let sound = one_sound (Equal place expr reads) there in (
              past_not_set place kind,
              (λ v own. bound_not_set v (marks_are v ∙ In-list_all (marked marks) v reads is (subst (λ (l : List ℕ). In v l) (sym sound.1) own))),
              (λ a b same. ap ok_value (value_reads a b expr same)),
            )
        steady_one (Compare relation left right reads) there is = absurd (one_of_rows (Compare relation left right reads) there)

        parted : AreParted (set_by settings) (row_goals statements rows count body) early (map (meant tables symbols) late_list)
        parted = record {
          steady = λ goal there.
              let from = In-map_from means_it goal earlys there in
              let own = early_from marks all from.0 from.1 in
              subst (λ (g : plan_goals.Goal). IsSteady (set_by settings) g) from.2 (steady_one from.0 own.0 own.1);
          both = λ goal. (
            (λ there.
                let from = In-map_from means_it goal all (subst (λ (l : List plan_goals.Goal). In goal l) (sym rows_mean) there) in
                elim (cases_Bool (is_early marks from.0)) [
                  | inl is ↦ inl (subst (λ (g : plan_goals.Goal). In g early) from.2 (In-map means_it from.0 earlys (early_to marks all from.0 from.1 is)))
                  | inr isnt ↦ inr
                      (subst (λ (l : List plan_goals.Goal). In goal l) (sym late_mean)
                      (subst (λ (g : plan_goals.Goal). In g (map means_it (late_goals marks all))) from.2 (In-map means_it from.0 (late_goals marks all) (late_to marks all from.0 from.1 isnt))))
                ]),
            (λ either.
                subst (λ (l : List plan_goals.Goal). In goal l) rows_mean
                (⊎_elim
                (λ (there : In goal early).
                let from = In-map_from means_it goal earlys there in
                subst (λ (g : plan_goals.Goal). In g (map means_it all)) from.2 (In-map means_it from.0 all (early_from marks all from.0 from.1).0))
                (λ (there : In goal (map (meant tables symbols) late_list)).
                let from = In-map_from means_it goal (late_goals marks all) (subst (λ (l : List plan_goals.Goal). In goal l) late_mean there) in
                subst (λ (g : plan_goals.Goal). In g (map means_it all)) from.2 (In-map means_it from.0 all (late_from marks all from.0 from.1).0))
                either)),
          );
        }

      pub is_range_plan : IsRangePlan statements rows tables symbols rule body steps places late_list
      is_range_plan = record {
        places_are = are.places_are;
        early = early;
        parted = parted;
        runs = ordered.runs;
        terms = ordered.terms have_terms;
        finds = λ env w long. (finds_to env w long, finds_from env w long);
        values = values_found;
        agreement = agreement;
      }
