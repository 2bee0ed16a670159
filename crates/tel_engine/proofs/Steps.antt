-- What an engine has between its calls.
use Rattle.std.proofs.Common.{◌≡◌, ℕ, ◌+◌, ◌-◌, ◌*◌, ◌^◌, ◌<◌, ◌≤◌, max, Bool, true, false, List, [], length, refl, sym, ap, subst, arith}
use Rattle.std.specs.List.{list_all}
use Rattle.std.proofs.lemmas.Nat.{mul-le}
use Rattle.tel_base.proofs.Members.{In}
use Rattle.tel_rule.specs.Ground.{Ground, IsGround}
use Rattle.atom_space.specs.Numbers.{Counts, Space, space_of, IsSpace, width, end_at}
use Rattle.normal_program.specs.declared.modules.StepModule.{StepModule}
use Rattle.normal_program.specs.Grounds.{layers_of}
use Rattle.normal_program.specs.ModuleClauses.{clauses_of}
use Rattle.normal_program.specs.StableSets.{Set}
use Rattle.clause_store.specs.Held.{is_clause}
use Rattle.clause_store.specs.Closure.{Clause}
use Rattle.lit_trail.specs.Unassigned.{visible_below}
use Rattle.formula_unfold.specs.Nodes.{counts_of}
use Rattle.step_module.specs.Modules.{module_of}
use Rattle.search_laws.specs.Lengths.{length_of}
use Rattle.search_laws.specs.Origins.{Kept, lits_of}
use Rattle.search_laws.specs.Runs.{Run}
use Rattle.cdcl_search.specs.Searches.{View, vars_for, IsAsBefore}
use Rattle.cdcl_search.proofs.ModuleFits.{module_fits}
use Rattle.trace_list.specs.Lengths.{HasLength, HasLeft, IsExtended}
use Rattle.trace_list.proofs.Extending.{new_has_left, modules_stay, extended_has_length, length_has_left, left_stays, length_has_vars}
use Rattle.tel_engine.specs.declared.stages.Stage.{Stage}
use Rattle.tel_engine.specs.declared.stages.Stage.TheVariants as stages
use Rattle.tel_engine.proofs.Fits.{module_vars_few, module_vars_fit}
use Rattle.tel_engine.specs.Engines.{IsSmall, IsAt, IsEngine}

-- ---- its variables

-- they fit, with a state to spare
pub small_space : (template : Ground) (greatest : ℕ) → IsSmall template greatest → (greatest + 1) * width (counts_of template) < 2 ^ 31
small_space template greatest small =
    let w = width (counts_of template) in
    let some = small.some in
    let few = small.few in
    let rows : 1 * w ≤ greatest * w = mul-le 1 w greatest w some (omega arith) in
    let next : (greatest + 1) * w ≡ greatest * w + 1 * w = omega arith in
    omega (arith, few, rows, next)

-- ---- from length to length

-- whatever was listed, the search has what the lengths up to this one left
pub usable_left : (program : Ground) (n : ℕ) (search : View) (stage : Stage) → IsGround program → (stage ≡ stages.Lost → ⊥) → IsAt program n search stage → HasLeft program n search
usable_left program n search stages.Extended ground usable at = length_has_left program n search [] ground at
usable_left program n search stages.Listed ground usable at = at
usable_left program n search stages.Lost ground usable at = absurd (usable refl)

length_stays : (program : Ground) (n : ℕ) (old new : View) (sets : List Set) → IsAsBefore old new → HasLength program n old sets → HasLength program n new sets
length_stays program n old new sets same has = record {
  modules = modules_stay program n old new has.modules same.ground same.vars (λ clause i. subst (λ (held : List Kept). In clause (lits_of held)) (sym same.kept) i);
  run = subst (λ (held : List Kept). Run (length_of (module_of program)) n held sets) (sym same.kept) has.run;
}

-- where only the room of the search has changed
pub at_stays : (program : Ground) (n : ℕ) (old new : View) (stage : Stage) → IsAsBefore old new → IsAt program n old stage → IsAt program n new stage
at_stays program n old new stages.Extended same at = length_stays program n old new [] same at
at_stays program n old new stages.Listed same at = left_stays program n old new at same
at_stays program n old new stages.Lost same at = tt

-- ---- a module more

module _ (program : Ground) (n : ℕ) (step : StepModule) (clauses : List Clause) (made : step ≡ module_of program n) (of_step : clauses ≡ clauses_of step) where
  pub step_vars : (space : Space) → IsGround program → space.counts ≡ counts_of program → n < space.greatest → IsSpace space → vars_for step clauses < 2 ^ 31
  step_vars space ground counts within small =
      subst (λ (cs : List Clause). vars_for step cs < 2 ^ 31) (sym of_step)
      (subst (λ (s : StepModule). vars_for s (clauses_of s) < 2 ^ 31) (sym made) (module_vars_fit program space n ground counts within small))

  pub step_clauses : list_all (is_clause (vars_for step clauses)) clauses ≡ true
  step_clauses = subst (λ (cs : List Clause). list_all (is_clause (vars_for step cs)) cs ≡ true) (sym of_step) (module_fits step)

  -- with it the search has the variables of one state more
  pub next_vars : (old new : View) → IsGround program → old.vars ≤ (n + 1) * width (counts_of program) → new.vars ≡ max old.vars (vars_for step clauses) → new.vars ≤ (n + 1 + 1) * width (counts_of program)
  next_vars old new ground few is =
      let w = width (counts_of program) in
      let more : vars_for step clauses ≤ (n + 2) * w =
      subst (λ (cs : List Clause). vars_for step cs ≤ (n + 2) * w) (sym of_step) (subst (λ (s : StepModule). vars_for s (clauses_of s) ≤ (n + 2) * w) (sym made) (module_vars_few program n ground)) in
      let rows : (n + 1) * w ≤ (n + 2) * w = mul-le (n + 1) w (n + 2) w (omega arith) (omega arith) in
      let two : n + 1 + 1 ≡ n + 2 = omega arith in
      let same : (n + 1 + 1) * w ≡ (n + 2) * w = ap (λ (k : ℕ). k * w) two in
      omega (arith, few, is, more, rows, same)

  -- with it the search has the next length
  pub at_next : (old new : View) → HasLeft program n old → IsExtended old new step clauses → HasLength program (n + 1) new []
  at_next old new left is =
      extended_has_length program n old new left
      (subst (λ (s : StepModule). IsExtended old new s (clauses_of s)) made (subst (λ (cs : List Clause). IsExtended old new step cs) of_step is))

-- ---- at a length that is to be listed

module _ (template : Ground) (space : Space) (search : View) (n : ℕ) (stage : Stage) (wide : Bool) (engine : IsEngine template space search n stage wide) (extended : stage ≡ stages.Extended) where
  pub extended_length : HasLength template n search []
  extended_length = subst (IsAt template n search) extended engine.at

  pub extended_some : 0 < n
  extended_some = (length_has_vars template n search [] extended_length).0

  pub extended_visible : (var : ℕ) → In var (visible_below space.counts n) → var < search.vars
  extended_visible var i = (length_has_vars template n search [] extended_length).1 var (subst (λ (counts : Counts). In var (visible_below counts n)) engine.counts i)

  pub extended_ending : end_at space.counts (n - 1) < search.vars
  extended_ending = subst (λ (counts : Counts). end_at counts (n - 1) < search.vars) (sym engine.counts) (length_has_vars template n search [] extended_length).2

-- ---- a new one

pub new_engine : (template : Ground) (atoms nodes bodies greatest : ℕ) (search : View) → IsGround template → IsSmall template greatest → atoms ≡ length template.atoms → nodes ≡ length template.nodes → bodies ≡ length template.instances → search.ground ≡ layers_of [] [] → search.kept ≡ [] → search.vars ≡ 0 → IsEngine template (space_of atoms nodes bodies greatest) search 0 stages.Listed false
new_engine template atoms nodes bodies greatest search ground small a n b none empty vars =
    let counts : (space_of atoms nodes bodies greatest).counts ≡ counts_of template = λ i. record { atoms = a i; nodes = n i; bodies = b i } in
    record {
      ground = ground;
      counts = counts;
      small = record { small = subst (λ (of : Counts). (greatest + 1) * width of < 2 ^ 31) (sym counts) (small_space template greatest small) };
      within = omega arith;
      at = new_has_left template search none empty;
      few = λ narrow. omega (arith, vars);
    }
