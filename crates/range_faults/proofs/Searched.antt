-- What the search for the faults of a rule tells.
use Rattle.std.proofs.Common.{◌≡◌, ◌∙◌, inl, ℕ, zero, suc, ◌<◌, ◌≤◌, true, false, ◌==◌, List, [], ◌∷◌, map, take, length, replicate, refl, sym, ap, subst, arith, true≢false}
use Rattle.std.specs.Prelude.{Option, Some, None, pos}
use Rattle.std.specs.List.{filter}
use Rattle.std.proofs.lemmas.Bool.{eq-eqb}
use Rattle.std.proofs.lemmas.List.{length-replicate}
use Rattle.tel_base.specs.Members.{In}
use Rattle.tel_base.proofs.Members.{In-filter, In-filter_from, any_from}
use Rattle.tel_term.specs.declared.terms.Term.{Term}
use Rattle.tel_term.specs.declared.terms.Value.{Value}
use Rattle.tel_term.specs.declared.terms.Value.TheVariants as values
use Rattle.tel_term.specs.declared.exprs.Expr.{Expr}
use Rattle.tel_rule.specs.declared.statements.Head.{Head}
use Rattle.tel_rule.specs.declared.statements.Literal.{Literal}
use Rattle.tel_rule.specs.declared.statements.Kind.{Kind}
use Rattle.tel_rule.specs.declared.statements.Statement.{Statement}
use Rattle.tel_semantics.specs.Tables.{is_table}
use Rattle.rule_binding.specs.Binding.{row_vars, body_of, equations_of, Setting, AreSettings}
use Rattle.live_instances.specs.Instances.{rule_exprs}
use Rattle.live_instances.specs.Reached.{set_by, LeavesRange}
use Rattle.join_plans.specs.Join.{answers, IsPlan}
use Rattle.rule_plans.specs.Goals.{Rows, rule_atoms}
use Rattle.rule_plans.specs.Within.{AreWithin, kind_exprs}
use Rattle.rule_plans.proofs.Atoms.{after_atoms_least}
use Rattle.plan_search.specs.declared.steps.Step.{Step}
use Rattle.plan_search.specs.Steps.{Tables, plan_of, AreTerms, RowsHaveTerms}
use Rattle.plan_order.specs.declared.goals.Goal.{Goal}
use Rattle.plan_order.specs.Goals.{meant, AreBelow}
use Rattle.rule_goals.specs.Said.{Numbers, all_said}
use Rattle.range_faults.specs.Laws.{AreBegun, AreLeaving, IsFinding}
use Rattle.range_faults.specs.Ranges.{IsBoundProgram}
use Rattle.range_faults.specs.Rules.{IsSearch}
use Rattle.range_faults.specs.Stops.{Stop, stop}
use Rattle.range_faults.specs.Testing.{stop_agrees, leaves}
use Rattle.range_faults.proofs.Found.{ranges_are_found}
use Rattle.range_faults.proofs.Operated.{stop_same}
use Rattle.range_faults.proofs.Settled.{AreFine, settings_fine, set_small}

-- ---- lists

zeros_terms : (symbols : List Term) (count : ℕ) → AreTerms symbols (replicate count (values.Num (pos 0)))
zeros_terms symbols zero = refl
zeros_terms symbols (suc count) = zeros_terms symbols count

some_in : (xs : List (List Value)) → 0 < length (map (take 0) (take 1 xs)) → (x : List Value) × In x xs
some_in [] more = absurd (omega (arith, more))
some_in (x ∷ xs) more = (x, inl refl)

none_in : (xs : List (List Value)) → length (map (take 0) (take 1 xs)) ≤ 0 → (x : List Value) → In x xs → ⊥
none_in [] few x there = there
none_in (y ∷ xs) few x there = absurd (omega (arith, few))

-- ---- the search

module _ (number : Numbers) (statements : List Statement) (rows : Rows) (tables : Tables) (symbols : List Term) (rule : Statement) (head : Head) (body : List Literal) (exprs : List Expr) (settings : List Setting) (steps : List Step) (places : ℕ) (late : List Goal)
    (search_is : IsSearch number statements rows tables symbols rule head body exprs settings steps places late) where
  abbrev program : IsBoundProgram number statements rows tables symbols
  program = search_is.rule_in.inside.program

  abbrev bound : List ℕ
  bound = row_vars (is_table statements) body

  within : AreWithin symbols (length rule.vars) (rule_exprs head body)
  within = subst (λ (kind : Kind). AreWithin symbols (length rule.vars) (kind_exprs kind)) search_is.rule_in.is (program.within rule search_is.rule_in.inside.there)

  settings_are : AreSettings (equations_of body) bound settings
  settings_are = subst (λ (l : List Literal). AreSettings (equations_of l) (row_vars (is_table statements) l) settings) (ap body_of search_is.rule_in.is) search_is.settings_are

  fine : AreFine symbols (length rule.vars) bound settings
  fine = settings_fine symbols (length rule.vars) head body within bound settings settings_are

  -- the variables that are set have places
  pub set_below : AreBelow places (set_by settings)
  set_below v there =
      let least = after_atoms_least (length rule.vars) (rule_atoms statements rows body) in
      let are = search_is.plan.places_are in
      let small = set_small symbols (length rule.vars) bound settings v fine (any_from (λ (w : ℕ). w == v) (set_by settings) v there (eq-eqb v v refl)) in
      omega (arith, least, are, small)

  pub rows_terms : RowsHaveTerms symbols tables
  rows_terms = program.terms

  -- values from which the setting equations stop with the late goals in agreement
  stops_from : (w : List Value) (o : Option Stop) → stop (rule_exprs head body) w settings ≡ o → stop_agrees (all_said late) o ≡ true → AreLeaving (rule_exprs head body) settings (map (meant tables symbols) late) w
  stops_from w None is agree = absurd (true≢false (sym agree))
  stops_from w (Some found) is agree = record { found = found; stops = is; agree = (search_is.plan.agreement found.unset found.env).0 agree }

  stop_is : (w : List Value) → stop exprs w settings ≡ stop (rule_exprs head body) w settings
  stop_is w = ap (λ (l : List Expr). stop l w settings) search_is.exprs_are ∙ stop_same (rule_exprs head body) settings w

  leaving_from : (w : List Value) → leaves exprs settings (all_said late) w ≡ true → AreLeaving (rule_exprs head body) settings (map (meant tables symbols) late) w
  leaving_from w is = stops_from w (stop (rule_exprs head body) w settings) refl (sym (ap (stop_agrees (all_said late)) (stop_is w)) ∙ is)

  leaving_to : (w : List Value) → AreLeaving (rule_exprs head body) settings (map (meant tables symbols) late) w → leaves exprs settings (all_said late) w ≡ true
  leaving_to w leaving = ap (stop_agrees (all_said late)) (stop_is w ∙ leaving.stops) ∙ (search_is.plan.agreement leaving.found.unset leaving.found.env).1 leaving.agree

  -- from so many places, each with the number 0
  module _ (env : List Value) (env_is : env ≡ replicate places (values.Num (pos 0))) where
    pub long : length env ≡ places
    long = ap length env_is ∙ length-replicate places (values.Num (pos 0))

    pub runs : IsPlan (replicate (length env) false) (plan_of tables symbols steps)
    runs = subst (λ (n : ℕ). IsPlan (replicate n false) (plan_of tables symbols steps)) (sym long) search_is.plan.runs

    pub env_terms : AreTerms symbols env
    env_terms = subst (λ (e : List Value). AreTerms symbols e) (sym env_is) (zeros_terms symbols places)

    abbrev all_found : List (List Value)
    all_found = answers (plan_of tables symbols steps) env

    abbrev passing : List (List Value)
    passing = filter (leaves exprs settings (all_said late)) all_found

    abbrev Finding : List Value → Type 0
    Finding w = IsFinding statements rows rule head body settings search_is.plan.early (map (meant tables symbols) late) w

    laws : (LeavesRange statements symbols rule → (w : List Value) × Finding w) × ((w : List Value) → AreTerms symbols w → Finding w → LeavesRange statements symbols rule)
    laws =
        ranges_are_found statements symbols rows rule head body settings search_is.plan.early (map (meant tables symbols) late) search_is.rule_in.is search_is.settings_are (program.bound rule search_is.rule_in.inside.there) program.rows_are within
        (search_is.plan.parted settings search_is.settings_are)

    finding_from : (w : List Value) → In w passing → AreTerms symbols w × Finding w
    finding_from w there =
        let both = In-filter_from (leaves exprs settings (all_said late)) w all_found there in (
          search_is.plan.values env w long both.0,
          record {
            begun = subst (λ (n : ℕ). AreBegun (length rule.vars) n bound search_is.plan.early w) search_is.plan.places_are ((search_is.plan.finds env w long).0 both.0);
            leaving = leaving_from w both.1;
          },
        )

    finding_to : (w : List Value) → Finding w → In w passing
    finding_to w finding =
        In-filter (leaves exprs settings (all_said late)) w all_found
        ((search_is.plan.finds env w long).1 (subst (λ (n : ℕ). AreBegun (length rule.vars) n bound search_is.plan.early w) (sym search_is.plan.places_are) finding.begun))
        (leaving_to w finding.leaving)

    module _ (found : List (List Value)) (searched : found ≡ map (take 0) (take 1 passing)) where
      pub tells_some : 0 < length found → LeavesRange statements symbols rule
      tells_some more =
          let one = some_in passing (subst (λ (l : List (List Value)). 0 < length l) searched more) in
          let both = finding_from one.0 one.1 in
          laws.1 one.0 both.0 both.1

      pub tells_none : length found ≤ 0 → LeavesRange statements symbols rule → ⊥
      tells_none few leaving =
          let finding = laws.0 leaving in
          none_in passing (subst (λ (l : List (List Value)). length l ≤ 0) searched few) finding.0 (finding_to finding.0 finding.1)
