-- Where setting equations stop is where a binding is reached whose first fault leaves the range.
use Rattle.std.proofs.Common.{◌≡◌, ◌⊎◌, inl, inr, ℕ, ◌<◌, ◌≤◌, Bool, false, ◌||◌, List, [], ◌∷◌, map, length, refl, sym, ap, subst, ◌∙◌, true≢false, arith, length-set, get_or-set_same, get_or-set_other}
use Rattle.std.specs.Prelude.{Ok, Err, Option, Some, None, ◌==◌, IsTrue, slice_set, pos, if◌then◌else◌}
use Rattle.std.specs.List.{list_all}
use Rattle.std.proofs.lemmas.Bool.{or_left, or_right, cases_Bool, false_from_ne_true, eqb-true, eq-eqb}
use Rattle.tel_base.specs.Members.{In}
use Rattle.tel_base.proofs.Members.{In-list_all}
use Rattle.tel_term.specs.declared.terms.Term.{Term}
use Rattle.tel_term.specs.declared.terms.Value.{Value}
use Rattle.tel_term.specs.declared.terms.Value.TheVariants as values
use Rattle.tel_term.specs.declared.arithmetic.EvalFault.{EvalFault}
use Rattle.tel_term.specs.declared.arithmetic.EvalFault.TheVariants.{Undefined, Range}
use Rattle.tel_term.specs.declared.exprs.Expr.{Expr}
use Rattle.tel_term.specs.Arithmetic.{Valued, expr_value}
use Rattle.tel_rule.specs.declared.formulas.Atom.{Atom}
use Rattle.tel_rule.specs.declared.statements.Statement.{Statement}
use Rattle.rule_binding.specs.Binding.{has, vars_of, Setting}
use Rattle.rule_binding.proofs.Settings.{has-itself}
use Rattle.live_instances.specs.Bindings.{is_value}
use Rattle.live_instances.specs.Reached.{all_agree, first_fault, set_by, HasOutcome}
use Rattle.join_plans.specs.Join.{at}
use Rattle.rule_plans.specs.Within.{AreWithin}
use Rattle.rule_plans.proofs.Exprs.{value_reads, value_term}
use Rattle.plan_search.specs.Steps.{AreTerms}
use Rattle.plan_search.proofs.Terms.{place_term, all_set}
use Rattle.range_faults.specs.Stops.{Stop, is_range, stopped, stop}
use Rattle.range_faults.proofs.Settled.{AreFine, not_set}

-- the equations hold up to where they stop, where these variables aren't set
abbrev pub Stops : List Expr → List Value → List Setting → List ℕ → Type 0
Stops exprs b [] unset = (unset ≡ []) × (first_fault (map (expr_value b) exprs) ≡ Some Range)
Stops exprs b (setting ∷ more) unset =
    ((expr_value b setting.value ≡ Err Range) × (unset ≡ set_by (setting ∷ more)))
    ⊎ ((expr_value b setting.value ≡ Ok (at b setting.var)) × Stops exprs b more unset)

-- ---- reached bindings

module _ (statements : List Statement) (atoms : List Atom) (exprs : List Expr) (b : List Value) where
  abbrev Agreed : List ℕ → Type 0
  Agreed unset = IsTrue (all_agree statements unset b atoms)

  pub outcome_from : (settings : List Setting) (unset : List ℕ) → Stops exprs b settings unset → Agreed unset → HasOutcome statements atoms exprs b settings (Some Range)
  outcome_from [] unset stops agreed = (subst (λ (u : List ℕ). Agreed u) stops.0 agreed, stops.1)
  outcome_from (setting ∷ more) unset (inl stops) agreed = inl (Range, stops.0, refl, subst (λ (u : List ℕ). Agreed u) stops.1 agreed)
  outcome_from (setting ∷ more) unset (inr stops) agreed = inr (stops.0, outcome_from more unset stops.1 agreed)

  pub outcome_to : (settings : List Setting) → HasOutcome statements atoms exprs b settings (Some Range) → (unset : List ℕ) × Stops exprs b settings unset × Agreed unset
  outcome_to [] outcome = ([], (refl, outcome.1), outcome.0)
  outcome_to (setting ∷ more) (inl outcome) =
      let leaves : Some Range ≡ Some outcome.0 = outcome.2 in
      let same : Range ≡ outcome.0 = cc in
      (set_by (setting ∷ more), inl (subst (λ (fault : EvalFault). expr_value b setting.value ≡ Err fault) (sym same) outcome.1, refl), outcome.3)
  outcome_to (setting ∷ more) (inr outcome) = let rest = outcome_to more outcome.1 in (rest.0, inr (outcome.0, rest.1), rest.2)

-- ---- places

set_same : (w : List Value) (v : ℕ) (x : Value) → v < length w → at (slice_set w v x) v ≡ x
set_same w v x less = get_or-set_same w v x (values.Num (pos 0)) less

set_other : (w : List Value) (v u : ℕ) (x : Value) → (v == u) ≡ false → at (slice_set w v x) u ≡ at w u
set_other w v u x apart = get_or-set_other w v u x (values.Num (pos 0)) (λ e. true≢false (sym (eq-eqb v u (sym e)) ∙ apart))

-- a variable that these don't set
neither : (setting : Setting) (more : List Setting) (v : ℕ) → has (set_by (setting ∷ more)) v ≡ false → ((setting.var == v) ≡ false) × (has (set_by more) v ≡ false)
neither setting more v none = (
  false_from_ne_true (setting.var == v) (λ same. true≢false (sym (or_left (setting.var == v) (has (set_by more) v) same) ∙ none)),
  false_from_ne_true (has (set_by more) v) (λ there. true≢false (sym (or_right (setting.var == v) (has (set_by more) v) there) ∙ none)),
)

-- the bound variables of a list are bound
known_one : (bound vars : List ℕ) (v : ℕ) → IsTrue (list_all (has bound) vars) → In v vars → IsTrue (has bound v)
known_one bound vars v all there = In-list_all (has bound) v vars all there

module _ (symbols : List Term) (count : ℕ) (exprs : List Expr) where
  -- ---- from where the equations stop

  pub record IsStop (w : List Value) (settings : List Setting) (found : Stop) : Type 0 where
    pub stops : Stops exprs found.env settings found.unset
    pub keeps : (v : ℕ) → has (set_by settings) v ≡ false → at found.env v ≡ at w v
    pub inside : (v : ℕ) → IsTrue (has found.unset v) → IsTrue (has (set_by settings) v)
    pub long : length found.env ≡ length w
    pub terms : AreTerms symbols w → AreTerms symbols found.env

  some_stop : (a b : Stop) → Some a ≡ Some b → a ≡ b
  some_stop a b e = cc

  end_stop : (w : List Value) (found : Stop) (fault : Option EvalFault) → first_fault (map (expr_value w) exprs) ≡ fault → (if is_range fault then Some (record { unset = []; env = w }) else None) ≡ Some found → IsStop w [] found
  end_stop w found None is e = absurd cc
  end_stop w found (Some Undefined) is e = absurd cc
  end_stop w found (Some Range) is e =
      subst (λ (s : Stop). IsStop w [] s) (some_stop (record { unset = []; env = w }) found e)
      (record { stops = (refl, is); keeps = λ v none. refl; inside = λ v there. there; long = refl; terms = λ terms. terms })

  -- what is known where the equation comes isn't set from there on
  value_stays : (bound : List ℕ) (setting : Setting) (more : List Setting) (a b : List Value) → AreFine symbols count bound (setting ∷ more) → ((v : ℕ) → v < count → has (set_by (setting ∷ more)) v ≡ false → at a v ≡ at b v) → expr_value a setting.value ≡ expr_value b setting.value
  value_stays bound setting more a b fine same =
      value_reads a b setting.value
      (λ v there. same v (fine.0.within.vars v there) (not_set symbols count bound (setting ∷ more) v fine (known_one bound (vars_of setting.value) v fine.0.known there)))

  var_apart : (bound : List ℕ) (setting : Setting) (more : List Setting) → AreFine symbols count bound (setting ∷ more) → has (set_by more) setting.var ≡ false
  var_apart bound setting more fine = not_set symbols count (setting.var ∷ bound) more setting.var fine.1 (has-itself setting.var bound)

  step_stop : (bound : List ℕ) (setting : Setting) (more : List Setting) → AreFine symbols count bound (setting ∷ more) → (w : List Value) → count ≤ length w → (found : Stop)
      → ((value : Value) → stop exprs (slice_set w setting.var value) more ≡ Some found → IsStop (slice_set w setting.var value) more found)
      → (valued : Valued) → expr_value w setting.value ≡ valued
      → stopped (Some (record { unset = set_by (setting ∷ more); env = w })) (λ (value : Value). stop exprs (slice_set w setting.var value) more) valued ≡ Some found
      → IsStop w (setting ∷ more) found
  step_stop bound setting more fine w wide found later (Ok value) is e =
      let on = later value e in
      let keeps : (v : ℕ) → has (set_by (setting ∷ more)) v ≡ false → at found.env v ≡ at w v = λ v none.
      (let both = neither setting more v none in on.keeps v both.1 ∙ set_other w setting.var v value both.0) in
      let small = fine.0.small in
      let own : at found.env setting.var ≡ value = on.keeps setting.var (var_apart bound setting more fine) ∙ set_same w setting.var value (omega (arith, small, wide)) in
      record {
        stops = inr (value_stays bound setting more found.env w fine (λ v less none. keeps v none) ∙ is ∙ ap Ok (sym own), on.stops);
        keeps = keeps;
        inside = λ v there. or_right (setting.var == v) (has (set_by more) v) (on.inside v there);
        long = on.long ∙ length-set w setting.var value;
        terms = λ terms.
            on.terms
            (all_set (is_value symbols) w setting.var value
            (value_term symbols w setting.value (λ x there. fine.0.within.values x there) (λ v reads. place_term symbols w terms v) value is) terms);
      }
  step_stop bound setting more fine w wide found later (Err Undefined) is e = absurd cc
  step_stop bound setting more fine w wide found later (Err Range) is e =
      let here : Stop = record { unset = set_by (setting ∷ more); env = w } in
      subst (λ (s : Stop). IsStop w (setting ∷ more) s) (some_stop here found e)
      (record { stops = inl (is, refl); keeps = λ v none. refl; inside = λ v there. there; long = refl; terms = λ terms. terms })

  pub is_stop : (bound : List ℕ) (settings : List Setting) → AreFine symbols count bound settings → (w : List Value) → count ≤ length w → (found : Stop) → stop exprs w settings ≡ Some found → IsStop w settings found
  is_stop bound [] fine w wide found e = end_stop w found (first_fault (map (expr_value w) exprs)) refl e
  is_stop bound (setting ∷ more) fine w wide found e =
      let long : (value : Value) → length (slice_set w setting.var value) ≡ length w = λ value. length-set w setting.var value in
      step_stop bound setting more fine w wide found
      (λ value s. is_stop (setting.var ∷ bound) more fine.1 (slice_set w setting.var value) (subst (λ (n : ℕ). count ≤ n) (sym (long value)) wide) found s)
      (expr_value w setting.value) refl e

  -- ---- to where they stop

  values_same : (a b : List Value) → ((v : ℕ) → v < count → at a v ≡ at b v) → (list : List Expr) → AreWithin symbols count list → map (expr_value a) list ≡ map (expr_value b) list
  values_same a b same [] within = refl
  values_same a b same (expr ∷ list) within =
      let one = value_reads a b expr (λ v there. same v ((within expr (inl refl)).vars v there)) in
      let rest = values_same a b same list (λ e there. within e (inr there)) in
      λ i. one i ∷ rest i

  -- the equations stop from w on as under b
  pub record StopsSo (b w : List Value) (settings : List Setting) (unset : List ℕ) : Type 0 where
    pub found : Stop
    pub is : stop exprs w settings ≡ Some found
    pub same_unset : found.unset ≡ unset
    pub near : (v : ℕ) → v < count → has unset v ≡ false → at found.env v ≡ at b v

  pub stops_so : (bound : List ℕ) (settings : List Setting) → AreFine symbols count bound settings → AreWithin symbols count exprs → (b w : List Value) (unset : List ℕ) → count ≤ length w → ((v : ℕ) → v < count → has (set_by settings) v ≡ false → at w v ≡ at b v) → Stops exprs b settings unset → StopsSo b w settings unset
  stops_so bound [] fine within b w unset wide near stops =
      let same : first_fault (map (expr_value w) exprs) ≡ Some Range = ap first_fault (values_same w b (λ v less. near v less refl) exprs within) ∙ stops.1 in
      record {
        found = record { unset = []; env = w };
        is = ap (λ (fault : Option EvalFault). if◌then◌else◌ {A = Option Stop} (is_range fault) (Some (record { unset = []; env = w })) None) same;
        same_unset = sym stops.0;
        near = λ v less none. near v less refl;
      }
  stops_so bound (setting ∷ more) fine within b w unset wide near (inl stops) =
      let is = value_stays bound setting more w b fine near ∙ stops.0 in
      let here : Stop = record { unset = set_by (setting ∷ more); env = w } in
      record {
        found = here;
        is = ap (stopped (Some here) (λ (value : Value). stop exprs (slice_set w setting.var value) more)) is;
        same_unset = sym stops.1;
        near = λ v less none. near v less (subst (λ (u : List ℕ). has u v ≡ false) stops.1 none);
      }
  stops_so bound (setting ∷ more) fine within b w unset wide near (inr stops) =
      let value : Value = at b setting.var in
      let is : expr_value w setting.value ≡ Ok value = value_stays bound setting more w b fine near ∙ stops.0 in
      let after : List Value = slice_set w setting.var value in
      let small = fine.0.small in
      let long = length-set w setting.var value in
      let rest = stops_so (setting.var ∷ bound) more fine.1 within b after unset (subst (λ (n : ℕ). count ≤ n) (sym long) wide)
      (λ v less none. elim (cases_Bool (setting.var == v)) [
        | inl same ↦
            let e : setting.var ≡ v = eqb-true setting.var v same in
            subst (λ (u : ℕ). at after u ≡ at b u) e (set_same w setting.var value (omega (arith, small, wide)))
        | inr apart ↦ set_other w setting.var v value apart ∙ near v less (ap (λ (t : Bool). t || has (set_by more) v) apart ∙ none)
      ]) stops.1 in
      let here : Stop = record { unset = set_by (setting ∷ more); env = w } in
      record {
        found = rest.found;
        is = ap (stopped (Some here) (λ (x : Value). stop exprs (slice_set w setting.var x) more)) is ∙ rest.is;
        same_unset = rest.same_unset;
        near = rest.near;
      }

  -- ---- bindings that have the same values

  pub stops_same : (bound : List ℕ) (settings : List Setting) → AreFine symbols count bound settings → AreWithin symbols count exprs → (a b : List Value) (unset : List ℕ) → ((v : ℕ) → v < count → at a v ≡ at b v) → Stops exprs a settings unset → Stops exprs b settings unset
  stops_same bound [] fine within a b unset same stops = (stops.0, sym (ap first_fault (values_same a b same exprs within)) ∙ stops.1)
  stops_same bound (setting ∷ more) fine within a b unset same (inl stops) = inl (sym (value_stays bound setting more a b fine (λ v less none. same v less)) ∙ stops.0, stops.1)
  stops_same bound (setting ∷ more) fine within a b unset same (inr stops) =
      inr (sym (value_stays bound setting more a b fine (λ v less none. same v less)) ∙ stops.0 ∙ ap Ok (same setting.var fine.0.small), stops_same (setting.var ∷ bound) more fine.1 within a b unset same stops.1)
