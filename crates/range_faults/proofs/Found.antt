-- A rule leaves the range exactly where a search finds values from which its setting equations stop.
use Rattle.std.proofs.Common.{◌≡◌, ◌⊎◌, inl, inr, ℕ, zero, suc, ◌<◌, ◌≤◌, ◌+◌, Bool, false, ◌==◌, List, [], ◌∷◌, ◌++◌, map, length, take, refl, sym, ap, subst, ◌∙◌, true≢false, arith}
use Rattle.std.specs.Prelude.{Some, None, IsTrue, pos, if◌then◌else◌}
use Rattle.std.specs.List.{list_all}
use Rattle.std.proofs.lemmas.Bool.{and_parts, and_from, or_cases, or_left, or_right, false_from_ne_true, eqb-true, eq-eqb}
use Rattle.std.proofs.lemmas.List.{length-append, length-take-le, append_assoc}
use Rattle.tel_base.specs.Members.{In}
use Rattle.tel_base.proofs.Members.{In-flat_map, any_found, any_from}
use Rattle.tel_term.specs.declared.terms.Term.{Term}
use Rattle.tel_term.specs.declared.terms.Value.{Value}
use Rattle.tel_term.specs.declared.terms.Value.TheVariants as values
use Rattle.tel_term.specs.declared.arithmetic.EvalFault.TheVariants.{Range}
use Rattle.tel_term.specs.declared.exprs.Expr.{Expr}
use Rattle.tel_rule.specs.declared.formulas.Atom.{Atom}
use Rattle.tel_rule.specs.declared.statements.Head.{Head}
use Rattle.tel_rule.specs.declared.statements.Literal.{Literal}
use Rattle.tel_rule.specs.declared.statements.Kind.TheVariants as kinds
use Rattle.tel_rule.specs.declared.statements.Statement.{Statement}
use Rattle.tel_semantics.specs.Tables.{is_table}
use Rattle.rule_binding.specs.Binding.{has, whole_args, equations_of, row_vars, body_of, Setting, SettingsOf, AreSettings, bound_by, IsFirstUnbound}
use Rattle.rule_binding.proofs.Settings.{one_list}
use Rattle.live_instances.specs.Bindings.{is_value, is_binding}
use Rattle.live_instances.specs.Instances.{table_atoms, rule_exprs}
use Rattle.live_instances.specs.Reached.{all_agree, set_by, IsReached}
use Rattle.live_instances.proofs.Outcomes.{rules-leave}
use Rattle.join_plans.specs.Join.{at}
use Rattle.join_plans.specs.Goals.{Goal, IsRow, HasValue, Compares, IsMet}
use Rattle.rule_plans.specs.Goals.{Rows, rule_atoms, place_count, row_goals}
use Rattle.rule_plans.specs.Within.{AreWithin, AreRowsOf}
use Rattle.rule_plans.proofs.Atoms.{table_atoms_are, atom_in_rule, after_atoms_least}
use Rattle.plan_search.specs.Steps.{AreTerms}
use Rattle.rule_goals.proofs.Stuck.{atom_vars, vars_are}
use Rattle.range_faults.specs.Stops.{Agrees, AllAgree}
use Rattle.range_faults.specs.Laws.{IsSteady, AreParted, AreBegun, AreLeaving, RangesAreFound}
use Rattle.range_faults.proofs.Settled.{AreFine, settings_fine, not_set, set_small}
use Rattle.range_faults.proofs.Stopping.{Stops, outcome_from, outcome_to, IsStop, is_stop, StopsSo, stops_so, stops_same}
use Rattle.range_faults.proofs.Agreement.{Puts, puts_kept, all_from, Filling, fill}

-- ---- lists

at_take : (n : ℕ) (xs : List Value) (v : ℕ) → v < n → at (take n xs) v ≡ at xs v
at_take zero xs v less = absurd (omega (arith, less))
at_take (suc n) [] v less = refl
at_take (suc n) (x ∷ xs) zero less = refl
at_take (suc n) (x ∷ xs) (suc v) less = at_take n xs v (omega (arith, less))

all_take : (test : Value → Bool) (n : ℕ) (xs : List Value) → IsTrue (list_all test xs) → IsTrue (list_all test (take n xs))
all_take test zero xs all = refl
all_take test (suc n) [] all = refl
all_take test (suc n) (x ∷ xs) all = let both = and_parts (test x) (list_all test xs) all in and_from (test x) (list_all test (take n xs)) both.0 (all_take test n xs both.1)

at_front : (b more : List Value) (v : ℕ) → v < length b → at (b ++ more) v ≡ at b v
at_front [] more v less = absurd (omega (arith, less))
at_front (x ∷ b) more zero less = refl
at_front (x ∷ b) more (suc v) less = at_front b more v (omega (arith, less))

at_behind : (b : List Value) (x : Value) (more : List Value) → at (b ++ x ∷ more) (length b) ≡ x
at_behind [] x more = refl
at_behind (y ∷ b) x more = at_behind b x more

puts_behind : (b more : List Value) → Puts (length b) more (b ++ more)
puts_behind b [] = tt
puts_behind b (x ∷ more) =
    let same : (b ++ x ∷ []) ++ more ≡ b ++ x ∷ more = append_assoc b (x ∷ []) more in
    let long : length (b ++ x ∷ []) ≡ suc (length b) = omega (arith, length-append b (x ∷ [])) in
    (at_behind b x more, subst (λ (l : List Value). Puts (suc (length b)) more l) same (subst (λ (i : ℕ). Puts i more ((b ++ x ∷ []) ++ more)) long (puts_behind (b ++ x ∷ []) more)))

places_same : (a b : List Value) (where_to : List ℕ) → ((v : ℕ) → In v where_to → at a v ≡ at b v) → map (at a) where_to ≡ map (at b) where_to
places_same a b [] same = refl
places_same a b (v ∷ where_to) same = let one = same v (inl refl) in let rest = places_same a b where_to (λ u there. same u (inr there)) in λ i. one i ∷ rest i

-- the values at these places, from place k on, and 0 at others
zeroed : List ℕ → ℕ → List Value → List Value
zeroed bound k [] = []
zeroed bound k (x ∷ b) = (if has bound k then x else values.Num (pos 0)) ∷ zeroed bound (suc k) b

zeroed_long : (bound : List ℕ) (k : ℕ) (b : List Value) → length (zeroed bound k b) ≡ length b
unfolding zeroed
zeroed_long bound k [] = refl
zeroed_long bound k (x ∷ b) = ap suc (zeroed_long bound (suc k) b)

zeroed_at : (bound : List ℕ) (k : ℕ) (b : List Value) (v : ℕ) → v < length b → at (zeroed bound k b) v ≡ (if has bound (k + v) then at b v else values.Num (pos 0))
unfolding zeroed
zeroed_at bound k [] v less = absurd (omega (arith, less))
zeroed_at bound k (x ∷ b) zero less = ap (λ (u : ℕ). if◌then◌else◌ {A = Value} (has bound u) x (values.Num (pos 0))) (omega arith)
zeroed_at bound k (x ∷ b) (suc v) less =
    let same : suc k + v ≡ k + suc v = omega arith in
    zeroed_at bound (suc k) b v (omega (arith, less)) ∙ ap (λ (u : ℕ). if◌then◌else◌ {A = Value} (has bound u) (at b v) (values.Num (pos 0))) same

-- ---- variables

-- what is bound in the end is bound at first or set
bound_or_set : (bound : List ℕ) (settings : List Setting) (v : ℕ) → IsTrue (has (bound_by bound settings) v) → IsTrue (has bound v) ⊎ IsTrue (has (set_by settings) v)
bound_or_set bound [] v is = inl is
bound_or_set bound (setting ∷ more) v is = elim (bound_or_set (setting.var ∷ bound) more v is) [
  | inl before ↦ elim (or_cases (setting.var == v) (has bound v) before) [
    | inl same ↦ inr (or_left (setting.var == v) (has (set_by more) v) same)
    | inr there ↦ inl there
  ]
  | inr later ↦ inr (or_right (setting.var == v) (has (set_by more) v) later)
]

-- what isn't set where the equations stop is set by one of them
stops_inside : (exprs : List Expr) (b : List Value) (settings : List Setting) (unset : List ℕ) → Stops exprs b settings unset → (v : ℕ) → IsTrue (has unset v) → IsTrue (has (set_by settings) v)
stops_inside exprs b [] unset stops v there = subst (λ (u : List ℕ). IsTrue (has u v)) stops.0 there
stops_inside exprs b (setting ∷ more) unset (inl stops) v there = subst (λ (u : List ℕ). IsTrue (has u v)) stops.1 there
stops_inside exprs b (setting ∷ more) unset (inr stops) v there = or_right (setting.var == v) (has (set_by more) v) (stops_inside exprs b more unset stops.1 v there)

-- ---- goals that aren't touched

module _ (set unset : List ℕ) (inside : (v : ℕ) → IsTrue (has unset v) → IsTrue (has set v)) (a b : List Value) (keeps : (v : ℕ) → has set v ≡ false → at a v ≡ at b v) where
  steady_agrees : (goal : Goal) → IsSteady set goal → IsMet b goal → Agrees unset a goal
  steady_agrees (IsRow where_to rows) steady met = subst (λ (row : List Value). In row rows) (sym (places_same a b where_to (λ v there. keeps v (steady v there)))) met
  steady_agrees (HasValue place e) steady met = inr (steady.2 a b (λ v there. keeps v (steady.1 v there)) ∙ met ∙ ap Some (sym (keeps place steady.0)))
  steady_agrees (Compares c) steady met = absurd steady

  steady_met : (goal : Goal) → IsSteady set goal → Agrees unset a goal → IsMet b goal
  steady_met (IsRow where_to rows) steady agrees = subst (λ (row : List Value). In row rows) (places_same a b where_to (λ v there. keeps v (steady v there))) agrees
  steady_met (HasValue place e) steady (inl some) =
      let found = any_found (has unset) e.reads some in
      absurd (true≢false (sym (inside found.0 found.2) ∙ steady.1 found.0 found.1))
  steady_met (HasValue place e) steady (inr same) = sym (steady.2 a b (λ v there. keeps v (steady.1 v there))) ∙ same ∙ ap Some (keeps place steady.0)
  steady_met (Compares c) steady agrees = absurd steady

-- ---- the law

module _ (statements : List Statement) (symbols : List Term) (rows : Rows) (rule : Statement) (head : Head) (body : List Literal) (settings : List Setting) (early late : List Goal) (is_rule : rule.kind ≡ kinds.Rule head body)
    (settled : SettingsOf (is_table statements) rule settings) (first : IsFirstUnbound (is_table statements) rule None) (are : AreRowsOf statements symbols rows) (within : AreWithin symbols (length rule.vars) (rule_exprs head body))
    (parted : AreParted (set_by settings) (row_goals statements rows (length rule.vars) body) early late) where
  abbrev count : ℕ
  count = length rule.vars

  abbrev atoms : List Atom
  atoms = table_atoms statements body

  abbrev exprs : List Expr
  exprs = rule_exprs head body

  abbrev bound : List ℕ
  bound = row_vars (is_table statements) body

  abbrev total : ℕ
  total = place_count statements rows count body

  abbrev set : List ℕ
  set = set_by settings

  body_is : body_of rule.kind ≡ body
  body_is = ap body_of is_rule

  settings_are : AreSettings (equations_of body) bound settings
  settings_are = subst (λ (l : List Literal). AreSettings (equations_of l) (row_vars (is_table statements) l) settings) body_is settled

  fine : AreFine symbols count bound settings
  fine = settings_fine symbols count head body within bound settings settings_are

  atoms_within : (atom : Atom) → In atom atoms → AreWithin symbols count atom.args
  atoms_within atom there expr arg = within expr (atom_in_rule statements head body atom expr there arg)

  least : count ≤ total
  least = after_atoms_least count (rule_atoms statements rows body)

  -- each variable is bound by a row or set
  row_or_set : (v : ℕ) → v < count → IsTrue (has bound v) ⊎ IsTrue (has set v)
  row_or_set v less =
      let same : first.settings ≡ settings = one_list (equations_of (body_of rule.kind)) (row_vars (is_table statements) (body_of rule.kind)) first.settings settings first.are settled in
      let all : IsTrue (has (bound_by (row_vars (is_table statements) (body_of rule.kind)) first.settings) v) = first.is v less in
      let all_bound : IsTrue (has (bound_by bound settings) v) = subst (λ (l : List Literal). IsTrue (has (bound_by (row_vars (is_table statements) l) settings) v)) body_is
      (subst (λ (ss : List Setting). IsTrue (has (bound_by (row_vars (is_table statements) (body_of rule.kind)) ss) v)) same all) in
      bound_or_set bound settings v all_bound

  whole_bound : (atom : Atom) (v : ℕ) → In atom atoms → In v (whole_args atom.args) → IsTrue (has bound v)
  whole_bound atom v there whole =
      any_from (λ (w : ℕ). w == v) bound v (subst (λ (l : List ℕ). In v l) (sym (vars_are statements body)) (In-flat_map atom_vars atom v atoms there whole)) (eq-eqb v v refl)

  past_not_set : (v : ℕ) → count ≤ v → has set v ≡ false
  past_not_set v past = false_from_ne_true (has set v) (λ there. let small = set_small symbols count bound settings v fine there in absurd (omega (arith, past, small)))

  -- ---- what is found is reached

  module _ (w : List Value) (begun : AreBegun count total bound early w) (leaving : AreLeaving exprs settings late w) (terms : AreTerms symbols w) where
    abbrev w' : List Value
    w' = leaving.found.env

    wide : count ≤ length w
    wide = let long = begun.long in let l = least in omega (arith, long, l)

    on : IsStop symbols count exprs w settings leaving.found
    on = is_stop symbols count exprs bound settings fine w wide leaving.found leaving.stops

    all_agree_there : AllAgree leaving.found.unset w' (row_goals statements rows count body)
    all_agree_there goal there = elim ((parted.both goal).0 there) [
      | inl e ↦ steady_agrees set leaving.found.unset on.inside w' w on.keeps goal (parted.steady goal e) (begun.met goal e)
      | inr l ↦ leaving.agree goal l
    ]

    abbrev b : List Value
    b = take count w'

    b_at : (v : ℕ) → v < count → at w' v ≡ at b v
    b_at v less = sym (at_take count w' v less)

    b_binding : IsTrue (is_binding symbols count b)
    b_binding =
        let on_long = on.long in
        let own = wide in
        let long : length (take count w') ≡ count = length-take-le count w' (omega (arith, on_long, own)) in
        and_from (length (take count w') == count) (list_all (is_value symbols) (take count w')) (eq-eqb (length (take count w')) count long) (all_take (is_value symbols) count w' (on.terms terms))

    b_reached : IsReached statements head body settings b (Some Range)
    b_reached =
        outcome_from statements atoms exprs b settings leaving.found.unset (stops_same symbols count exprs bound settings fine within w' b leaving.found.unset b_at on.stops)
        (all_from symbols count leaving.found.unset b statements rows are w' (λ v less none. b_at v less) count atoms (table_atoms_are statements body) atoms_within all_agree_there)

  -- ---- what is reached is found

  module _ (b : List Value) (binding : IsTrue (is_binding symbols count b)) (reached : IsReached statements head body settings b (Some Range)) where
    stage : (unset : List ℕ) × Stops exprs b settings unset × IsTrue (all_agree statements unset b atoms)
    stage = outcome_to statements atoms exprs b settings reached

    abbrev unset : List ℕ
    unset = stage.0

    inside : (v : ℕ) → IsTrue (has unset v) → IsTrue (has set v)
    inside = stops_inside exprs b settings unset stage.1

    clear : (atom : Atom) (v : ℕ) → In atom atoms → In v (whole_args atom.args) → has unset v ≡ false
    clear atom v there whole =
        false_from_ne_true (has unset v)
        (λ is. true≢false (sym (inside v is) ∙ not_set symbols count bound settings v fine (whole_bound atom v there whole)))

    filling : Filling symbols count unset b statements rows are count atoms
    filling = fill symbols count unset b statements rows are count atoms (table_atoms_are statements body) atoms_within clear stage.2

    b_long : length b ≡ count
    b_long = eqb-true (length b) count (and_parts (length b == count) (list_all (is_value symbols) b) binding).0

    abbrev front : List Value
    front = zeroed bound 0 b

    front_long : length front ≡ count
    front_long = zeroed_long bound 0 b ∙ b_long

    abbrev w : List Value
    w = front ++ filling.more

    w_at : (v : ℕ) → v < count → at w v ≡ (if has bound v then at b v else values.Num (pos 0))
    w_at v less = let size = front_long in let own = b_long in at_front front filling.more v (omega (arith, less, size)) ∙ zeroed_at bound 0 b v (omega (arith, less, own)) ∙ ap (λ (u : ℕ). if◌then◌else◌ {A = Value} (has bound u) (at b v) (values.Num (pos 0))) (omega arith)

    w_near : (v : ℕ) → v < count → has set v ≡ false → at w v ≡ at b v
    w_near v less none = elim (row_or_set v less) [
      | inl is ↦ w_at v less ∙ ap (λ (t : Bool). if◌then◌else◌ {A = Value} t (at b v) (values.Num (pos 0))) is
      | inr is ↦ absurd (true≢false (sym is ∙ none))
    ]

    w_long : length w ≡ total
    w_long = let sum = length-append front filling.more in let size = front_long in let long = filling.long in omega (arith, sum, size, long)

    w_wide : count ≤ length w
    w_wide = let long = w_long in let l = least in omega (arith, long, l)

    so : StopsSo symbols count exprs b w settings unset
    so = stops_so symbols count exprs bound settings fine within b w unset w_wide w_near stage.1

    w_on : IsStop symbols count exprs w settings so.found
    w_on = is_stop symbols count exprs bound settings fine w w_wide so.found so.is

    puts : Puts count filling.more so.found.env
    puts =
        puts_kept count filling.more w so.found.env (λ v past. w_on.keeps v (past_not_set v past))
        (subst (λ (n : ℕ). Puts n filling.more w) front_long (puts_behind front filling.more))

    agrees : AllAgree unset so.found.env (row_goals statements rows count body)
    agrees = filling.agree so.found.env so.near puts

    w_begun : AreBegun count total bound early w
    w_begun = record {
      long = w_long;
      met = λ goal there. steady_met set unset inside so.found.env w w_on.keeps goal (parted.steady goal there) (agrees goal ((parted.both goal).1 (inl there)));
      zeros = λ v less none. w_at v less ∙ ap (λ (t : Bool). if◌then◌else◌ {A = Value} t (at b v) (values.Num (pos 0))) none;
    }

    w_leaving : AreLeaving exprs settings late w
    w_leaving = record {
      found = so.found;
      stops = so.is;
      agree = λ goal there. subst (λ (u : List ℕ). Agrees u so.found.env goal) (sym so.same_unset) (agrees goal ((parted.both goal).1 (inr there)));
    }

pub ranges_are_found : RangesAreFound
ranges_are_found statements symbols rows rule head body settings early late is_rule settled first are within parted =
    let leaves = rules-leave statements symbols rule head body settings is_rule settled in (
      (λ l.
          let found = leaves.0 l in (
            w statements symbols rows rule head body settings early late is_rule settled first are within parted found.0 found.1 found.2,
            record {
              begun = w_begun statements symbols rows rule head body settings early late is_rule settled first are within parted found.0 found.1 found.2;
              leaving = w_leaving statements symbols rows rule head body settings early late is_rule settled first are within parted found.0 found.1 found.2;
            },
          )),
      (λ w terms found.
          leaves.1 (
            b statements symbols rows rule head body settings early late is_rule settled first are within parted w found.begun found.leaving terms,
            b_binding statements symbols rows rule head body settings early late is_rule settled first are within parted w found.begun found.leaving terms,
            b_reached statements symbols rows rule head body settings early late is_rule settled first are within parted w found.begun found.leaving terms,
          )),
    )
