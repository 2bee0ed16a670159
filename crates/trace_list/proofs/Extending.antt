-- A search comes to the next length with the next module.
use Rattle.std.proofs.Common.{◌≡◌, ℕ, ◌+◌, ◌-◌, ◌<◌, ◌≤◌, List, [], ◌∷◌, ◌++◌, map, refl, sym, ap, subst, ◌∙◌, ◌⊎◌, inl, inr, ⊎_elim, arith}
use Rattle.std.specs.List.{flat_map, range_with_len}
use Rattle.std.proofs.Math.Nat.{le-max_left, le-max_right}
use Rattle.std.proofs.lemmas.Bool.{cases_order}
use Rattle.std.proofs.lemmas.Grind.{flat_map-append}
use Rattle.std.proofs.lemmas.List.{append-nil, map-append}
use Rattle.std.proofs.lemmas.List.FromFn.{map-range_with_len_more}
use Rattle.tel_base.proofs.Members.{In, In-append_left, In-append_right, In-flat_map_from}
use Rattle.tel_rule.specs.Ground.{Ground}
use Rattle.normal_program.specs.declared.rules.NRule.{NRule}
use Rattle.normal_program.specs.declared.modules.StepModule.{StepModule}
use Rattle.normal_program.specs.Grounds.{Layers, layers_of, all_rules, parts_of}
use Rattle.normal_program.specs.ModuleClauses as modules
use Rattle.normal_program.specs.StableSets.{Set}
use Rattle.clause_store.specs.declared.store.ClauseKind.TheVariants as kinds
use Rattle.clause_store.specs.Closure.{Clause}
use Rattle.step_module.specs.Modules.{module_of}
use Rattle.completion.specs.Lengths.{modules_below}
use Rattle.completion.proofs.Ranges.{range_cases}
use Rattle.search_laws.specs.Lengths.{Length, length_of}
use Rattle.search_laws.specs.Origins.{Kept, lits_of, Grown, none}
use Rattle.search_laws.specs.Runs.{Run, begins, adds, blocks}
use Rattle.search_laws.proofs.Along.{append_more}
use Rattle.search_laws.proofs.Listing.{run_grown}
use Rattle.cdcl_search.specs.Searches.{View, clauses_of, vars_for, kept_of_module}
use Rattle.cdcl_search.proofs.ModuleFits.{atom_below, ending_below}
use Rattle.template_lengths.proofs.Templates.{templates_composed, templates_visible}
use Rattle.trace_list.specs.Lengths.{HasModules, IsExtended, NewHasLeft, ExtendedHasLength, LengthHasLeft, LeftStays, LengthHasVars}

-- a length that runs has a state
pub run_some : (lengths : ℕ → Length) (n : ℕ) (held : List Kept) (sets : List Set) → Run lengths n held sets → 0 < n
run_some lengths n held sets (begins _ _ k l grown empty) = omega (arith, l)
run_some lengths n held sets (adds _ _ before one whole run of_length other origin) = run_some lengths n before sets run
run_some lengths n held sets (blocks _ _ before one past decisions set whole more run of_length is block) = run_some lengths n before past run

-- ---- a module more

ground_more : (steps : ℕ → StepModule) (n : ℕ) (old new : Layers) → old ≡ (length_of steps n).ground → new.rules ≡ old.rules ++ all_rules (steps n) → new.modules ≡ old.modules ++ parts_of (steps n) ∷ [] → new ≡ (length_of steps (n + 1)).ground
ground_more steps n old new is rules parts =
    let more : modules_below steps (n + 1) ≡ modules_below steps n ++ steps n ∷ [] = map-range_with_len_more steps 0 n n (omega arith) in
    let one : flat_map all_rules (steps n ∷ []) ≡ all_rules (steps n) = append-nil (all_rules (steps n)) in
    let first : new.rules ≡ flat_map all_rules (modules_below steps (n + 1)) =
    rules ∙ ap (λ (layers : Layers). layers.rules ++ all_rules (steps n)) is
    ∙ sym (ap (λ (ss : List StepModule). flat_map all_rules ss) more ∙ flat_map-append all_rules (modules_below steps n) (steps n ∷ []) ∙ ap (λ (rs : List NRule). flat_map all_rules (modules_below steps n) ++ rs) one) in
    let second : new.modules ≡ map parts_of (modules_below steps (n + 1)) =
    parts ∙ ap (λ (layers : Layers). layers.modules ++ parts_of (steps n) ∷ []) is
    ∙ sym (ap (λ (ss : List StepModule). map parts_of ss) more ∙ map-append parts_of (modules_below steps n) (steps n ∷ [])) in
    λ i. layers_of (first i) (second i)

module_lits : (n : ℕ) (clauses : List Clause) → lits_of (kept_of_module n clauses) ≡ clauses
module_lits n [] = refl
module_lits n (clause ∷ more) = ap (λ (rest : List Clause). clause ∷ rest) (module_lits n more)

below_or_last : (t n : ℕ) → t < n + 1 → (t < n) ⊎ (t ≡ n)
below_or_last t n l = ⊎_elim (λ (e : t ≡ n). inr e) (λ apart. ⊎_elim (λ (m : t < n). inl m) (λ (m : n < t). absurd (omega (arith, l, m))) apart) (cases_order t n)

modules_more : (program : Ground) (n : ℕ) (old new : View) → HasModules program n old → IsExtended old new (module_of program n) (modules.clauses_of (module_of program n)) → HasModules program (n + 1) new
modules_more program n old new has is =
    let clauses = modules.clauses_of (module_of program n) in
    let lits : clauses_of new ≡ clauses_of old ++ clauses =
    ap lits_of is.kept ∙ map-append (λ (one : Kept). one.lits) old.kept (kept_of_module (n + 1) clauses) ∙ ap (λ (cs : List Clause). clauses_of old ++ cs) (module_lits (n + 1) clauses) in
    let vars = is.vars in
    let left = le-max_left old.vars (vars_for (module_of program n) clauses) in
    let right = le-max_right old.vars (vars_for (module_of program n) clauses) in
    record {
      ground = ground_more (module_of program) n old.ground new.ground has.ground is.rules is.parts;
      held = λ t l clause i. subst (λ (cs : List Clause). In clause cs) (sym lits)
          (⊎_elim (λ (m : t < n). In-append_left clause (clauses_of old) clauses (has.held t m clause i)) (λ (e : t ≡ n).
          In-append_right clause (clauses_of old) clauses (subst (λ (k : ℕ). In clause (modules.clauses_of (module_of program k))) e i)) (below_or_last t n l));
      atoms = λ t l var i.
          ⊎_elim (λ (m : t < n). let below = has.atoms t m var i in omega (arith, below, vars, left)) (λ (e : t ≡ n).
          let below = atom_below (module_of program n) clauses var (subst (λ (k : ℕ). In var (module_of program k).atoms) e i) in omega (arith, below, vars, right)) (below_or_last t n l);
      ends = λ t l.
          ⊎_elim (λ (m : t < n). let below = has.ends t m in omega (arith, below, vars, left)) (λ (e : t ≡ n).
          let below : (module_of program n).end < vars_for (module_of program n) clauses = ending_below (module_of program n) clauses in
          subst (λ (k : ℕ). (module_of program k).end < new.vars) (sym e) (omega (arith, below, vars, right))) (below_or_last t n l);
    }

-- they stay where clauses come
pub modules_stay : (program : Ground) (n : ℕ) (old new : View) → HasModules program n old → new.ground ≡ old.ground → old.vars ≤ new.vars → ((clause : Clause) → In clause (clauses_of old) → In clause (clauses_of new)) → HasModules program n new
modules_stay program n old new has ground wider more = record {
  ground = ground ∙ has.ground;
  held = λ t l clause i. more clause (has.held t l clause i);
  atoms = λ t l var i. let below = has.atoms t l var i in omega (arith, below, wider);
  ends = λ t l. let below : (module_of program t).end < old.vars = has.ends t l in omega (arith, below, wider);
}

-- ---- its clauses have their origin

run_module : (lengths : ℕ → Length) (n : ℕ) (before : List Kept) (clauses : List Clause) → Run lengths n before [] → ((clause : Clause) → In clause clauses → In clause (lengths n).clauses) → Run lengths n (before ++ kept_of_module n clauses) []
run_module lengths n before [] run from = subst (λ (held : List Kept). Run lengths n held []) (sym (append-nil before)) run
run_module lengths n before (clause ∷ more) run from =
    let one : Kept = record { kind = kinds.Module; length = n; lits = clause } in
    let next = adds (before ++ one ∷ []) [] before one refl run refl (λ (e : kinds.Module ≡ kinds.Block). cc) (from clause (inl refl)) in
    subst (λ (held : List Kept). Run lengths n held []) (append_more before (one ∷ []) (kept_of_module n more)) (run_module lengths n (before ++ one ∷ []) more next (λ c i. from c (inr i)))

-- ---- the laws

pub new_has_left : NewHasLeft
new_has_left program search ground kept = record {
  modules = record {
    ground = ground;
    held = λ t l clause i. absurd (omega (arith, l));
    atoms = λ t l var i. absurd (omega (arith, l));
    ends = λ t l. absurd (omega (arith, l));
  };
  grown = none search.kept kept;
}

pub extended_has_length : ExtendedHasLength
extended_has_length program n old new left is =
    let clauses = modules.clauses_of (module_of program n) in
    let last : n + 1 - 1 ≡ n = omega arith in
    record {
      modules = modules_more program n old new left.modules is;
      run = subst (λ (held : List Kept). Run (length_of (module_of program)) (n + 1) held []) (sym is.kept) (run_module (length_of (module_of program)) (n + 1) old.kept clauses (begins old.kept [] n (omega arith) left.grown refl) (λ clause i. subst (λ (k : ℕ). In clause (modules.clauses_of (module_of program k))) (sym last) i));
    }

pub length_has_left : LengthHasLeft
length_has_left program n search sets ground has = record {
  modules = has.modules;
  grown = run_grown (length_of (module_of program)) n (templates_composed program n ground (run_some (length_of (module_of program)) n search.kept sets has.run)) search.kept sets has.run;
}

pub left_stays : LeftStays
left_stays program n old new left same = record {
  modules = modules_stay program n old new left.modules same.ground same.vars (λ clause i. subst (λ (held : List Kept). In clause (lits_of held)) (sym same.kept) i);
  grown = subst (λ (held : List Kept). Grown (length_of (module_of program)) n held) (sym same.kept) left.grown;
}

pub length_has_vars : LengthHasVars
length_has_vars program n search sets has =
    let some = run_some (length_of (module_of program)) n search.kept sets has.run in
    let last : n - 1 < n = omega (arith, some) in (
      some,
      λ var i.
          let w = In-flat_map_from (λ (t : ℕ). (module_of program t).atoms) var (range_with_len 0 n) (subst (λ (vars : List ℕ). In var vars) (sym (templates_visible program n)) i) in
          let l = range_cases n 0 w.0 w.1 in
          has.modules.atoms w.0 (omega (arith, l.1)) var w.2,
      has.modules.ends (n - 1) last,
    )
