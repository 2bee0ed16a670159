-- The models of a length are the stable sets of its program.
use Rattle.std.proofs.Common.{◌≡◌, ℕ, zero, suc, ◌+◌, ◌<◌, true, false, List, [], ◌∷◌, length, get_or, refl, sym, ap, subst, ◌∙◌, ⊎_elim, arith}
use Rattle.std.specs.Prelude.{nat_lt, ◌==◌, map, replicate}
use Rattle.std.specs.List.{list_all, filter, range_with_len, Contains}
use Rattle.std.proofs.lemmas.Bool.{and_parts, or_cases, ltb-true, eq-eqb, eqb-true, false≢true, cases_Bool, cases_order, false_from_ne_true}
use Rattle.tel_rule.specs.Ground.{Ground, IsGround}
use Rattle.tel_rule.specs.Rising.{numbers_rise}
use Rattle.tel_semantics.specs.Traces.{Test, test_of, is_member, is_state, IsTrace}
use Rattle.tel_semantics.specs.NodeFormula.{node_formula}
use Rattle.tel_semantics.specs.Satisfaction.{sat}
use Rattle.tel_base.proofs.Members.{Contains-from_In, In-from_Contains, any_from}
use Rattle.tel_semantics.specs.Lists.{full_trace}
use Rattle.tel_semantics.specs.Theory.{theory, is_model}
use Rattle.tel_semantics.specs.Equilibrium.{list_of}
use Rattle.tel_semantics.specs.Laws.{IsEquilibrium}
use Rattle.tel_semantics.specs.Order.{Precedes}
use Rattle.tel_semantics.proofs.Below.{Under-full}
use Rattle.tel_semantics.proofs.Minimal.{part_of, Under-part_of, Agree-part_of}
use Rattle.tel_semantics.proofs.ExactList.{list_of-equilibria, models_meet_all}
use Rattle.tel_semantics.proofs.Ordered.{list_of-rises}
use Rattle.tel_semantics.proofs.Expansions.{same_truth}
use Rattle.normal_program.specs.declared.rules.NRule.{NRule}
use Rattle.atom_space.specs.Numbers.{visible, part, end_at}
use Rattle.normal_program.specs.StableSets.{Set, is_closed, IsStable, IsSupported}
use Rattle.formula_unfold.specs.Nodes.{counts_of}
use Rattle.stable_models.specs.Values.{full, read_trace}
use Rattle.stable_models.proofs.ProgramRules.{program_rules, program_pairs}
use Rattle.stable_models.specs.Laws.{full_of, StableAreModels, trace_in, NodesOfSupported, StableAreSupported, NodesOfStable, NodesOfClosed, ModelsAreClosed, ClosedAreModels}
use Rattle.completion.specs.Lengths.{pairs_of_modules}
use Rattle.stable_models.specs.Programs.{IsStableAt, IsSupportedAt, is_closed_at, modules_of}
use Rattle.stable_models.proofs.ModuleRules.{same_rules, same_pairs}
use Rattle.formula_unfold.proofs.NodeReads.{get_same}
use Rattle.completion.proofs.Ranges.{range_from}
use Rattle.stable_models.proofs.ModelSets.{atom_there, there_atom, model_closed, nodes_closed, has_end}
use Rattle.stable_models.proofs.Numbering.{full-part}
use Rattle.stable_models.proofs.Parts.{within_n, closed_has}
use Rattle.completion.proofs.Sets.{stable_supported}
use Rattle.stable_models.proofs.Guarded.{is_guarded_node, guarded_is, guarded_free}
use Rattle.stable_models.proofs.Stables.{stable_from_model, last_is, closed_model}
use Rattle.stable_models.proofs.Found.{supported_is_full, stable_is_full, total_from_stable, minimal_from_stable}

stable_at : (program : Ground) (n : ℕ) (S : Set) → IsStable (program_rules program n) (program_pairs program n) S → IsStableAt program n S
stable_at program n S stable =
    subst (λ (rules : List NRule). IsStable rules (pairs_of_modules (modules_of program n)) S) (same_rules program n) (subst (λ (pairs : List (ℕ × ℕ)). IsStable (program_rules program n) pairs S) (same_pairs program n) stable)

at_stable : (program : Ground) (n : ℕ) (S : Set) → IsStableAt program n S → IsStable (program_rules program n) (program_pairs program n) S
at_stable program n S stable =
    subst (λ (pairs : List (ℕ × ℕ)). IsStable (program_rules program n) pairs S) (sym (same_pairs program n)) (subst (λ (rules : List NRule). IsStable rules (pairs_of_modules (modules_of program n)) S) (sym (same_rules program n)) stable)

pub models_are_stable : (program : Ground) (n : ℕ) (trace : List (List ℕ)) → IsGround program → 0 < n → Contains (list_of program n) trace → IsStableAt program n (full_of program n trace)
models_are_stable program n trace ground some listed =
    let T = test_of trace in
    let e = (list_of-equilibria program n trace ground).0 listed in
    stable_at program n (full program n T T) (stable_from_model program n T ground some ((models_meet_all program n T T).0 e.total) (λ H below meets k a l m t.
    ⊎_elim (λ (u : H k a ≡ true). u) (λ (u : H k a ≡ false). absurd (false≢true (sym (e.minimal H below (k, a, l, m, λ same. false≢true (sym u ∙ same ∙ t))) ∙ (models_meet_all program n H T).1 meets))) (cases_Bool (H k a))))

-- ---- what nodes are worth

supported_at : (program : Ground) (n : ℕ) (S : Set) → IsSupportedAt program n S → IsSupported (program_rules program n) S
supported_at program n S supported = subst (λ (rules : List NRule). IsSupported rules S) (sym (same_rules program n)) supported

pub supported_nodes : NodesOfSupported
supported_nodes program n S ground some all x k within l =
    let supported = supported_at program n S all in
    let T = trace_in program S in
    let values = supported_is_full program n T S ground some supported.closed (λ v h. let w = supported.supported v h in (w.0, In-from_Contains (program_rules program n) w.0 w.1, w.2, w.3)) (λ k a l m. refl) in
    values (part (counts_of program) x k) ∙ full-part program n T T x k within ∙ within_n k n (sat (node_formula program.nodes x) n T T k) l

pub stable_supported_at : StableAreSupported
stable_supported_at program n S stable =
    let here = at_stable program n S stable in
    subst (λ (rules : List NRule). IsSupported rules S) (same_rules program n) (record {
      closed = here.closed;
      supported = λ v h. let w = stable_supported (program_rules program n) (program_pairs program n) S here v h in (w.0, Contains-from_In (program_rules program n) w.0 w.1, w.2, w.3);
    })

pub stable_nodes : NodesOfStable
stable_nodes program n S ground some stable = supported_nodes program n S ground some (stable_supported_at program n S stable)

closed_at : (program : Ground) (n : ℕ) (S X : Set) → is_closed_at program n S X ≡ true → is_closed (program_rules program n) S X ≡ true
closed_at program n S X closed = subst (λ (rules : List NRule). is_closed rules S X ≡ true) (sym (same_rules program n)) closed

pub closed_nodes : NodesOfClosed
closed_nodes program n H T X ground some below all atoms x k within l guarded holds =
    let closed = closed_at program n (full program n T T) X all in
    closed_has program n H T X (is_guarded_node program.nodes) ground below (nodes_closed program n (full program n T T) X closed) (record {
      atoms = atoms;
      ending = λ k l t. subst (λ (j : ℕ). X (end_at (counts_of program) j) ≡ true) (last_is k n l t) (has_end program n (full program n T T) X closed);
    }) (guarded_free program n H T ground) x k within l (guarded_is program.nodes x guarded) holds

pub models_closed : ModelsAreClosed
models_closed program n H T ground some below meets =
    subst (λ (rules : List NRule). is_closed rules (full program n T T) (full program n H T) ≡ true) (same_rules program n) (model_closed program n H T ground some below meets)

pub closed_models : ClosedAreModels
closed_models program n T X ground some meets all = closed_model program n T X ground some meets (closed_at program n (full program n T T) X all)

-- in the full trace every atom is true everywhere
full_test : (count n k a : ℕ) → k < n → a < count → test_of (full_trace count n) k a ≡ true
full_test count zero k a l m = absurd (omega (arith, l))
full_test count (suc n) zero a l m = any_from (λ (x : ℕ). x == a) (range_with_len 0 count) a (range_from count 0 a (omega arith) (omega (arith, m))) (eq-eqb a a refl)
full_test count (suc n) (suc k) a l m = full_test count n k a (omega (arith, l)) m

-- a part of the full trace, state by state
pub part_rows : (H : Test) (row : List ℕ) (n k : ℕ) → part_of H k (replicate n row) ≡ map (λ (j : ℕ). filter (H j) row) (range_with_len k n)
part_rows H row zero k = refl
part_rows H row (suc n) k = ap (λ (rest : List (List ℕ)). filter (H k) row ∷ rest) (part_rows H row n (k + 1))

pub stable_are_models : StableAreModels
stable_are_models program n S ground some stable_of_modules =
    let stable = at_stable program n S stable_of_modules in
    let count = length program.atoms in
    let rules = program_rules program n in
    let pairs = program_pairs program n in
    let seen : Test = λ k a. S (visible (counts_of program) a k) in
    let trace = part_of seen 0 (full_trace count n) in
    let T = test_of trace in
    let agree = Agree-part_of n count seen (full_trace count n) (λ k a l m t. full_test count n k a l m) in
    let whole = Under-full count n trace (Under-part_of seen 0 (full_trace count n)) in
    let values = stable_is_full program n T S ground some stable (λ k a l m. sym (agree k a l m)) in
    let same : S ≡ full program n T T = λ i v. values v i in
    let here : IsStable rules pairs (full program n T T) = subst (λ (X : Set). IsStable rules pairs X) same stable in
    let total = total_from_stable program n T ground here in
    let e : IsEquilibrium program n trace = record {
      not_empty = some;
      is_trace = (whole.0, whole.1);
      total = (models_meet_all program n T T).1 total;
      minimal = λ H below differ. false_from_ne_true (is_model (theory program) n H T) (λ model.
          differ.4 (same_truth (H differ.0 differ.1) (T differ.0 differ.1) (below differ.0 differ.1 differ.2 differ.3) (minimal_from_stable program n T ground some here H below ((models_meet_all program n H T).0 model) differ.0 differ.1 differ.2 differ.3)));
    } in
    let read : trace ≡ read_trace program n S = part_rows seen (range_with_len 0 count) n 0 in
    subst (λ (t : List (List ℕ)). Contains (list_of program n) t × ((v : ℕ) → S v ≡ full_of program n t v)) read ((list_of-equilibria program n trace ground).1 e, values)

-- what is true in a trace is in its range
member_range : (count : ℕ) (state : List ℕ) (a : ℕ) → list_all (λ atom. nat_lt atom count) state ≡ true → is_member state a ≡ true → a < count
member_range count [] a h t = absurd (false≢true t)
member_range count (x ∷ xs) a h t =
    let both = and_parts (nat_lt x count) (list_all (λ atom. nat_lt atom count) xs) h in
    ⊎_elim (λ e. omega (arith, eqb-true x a e, ltb-true x count both.0)) (λ m. member_range count xs a both.1 m) (or_cases (x == a) (is_member xs a) t)

pub test_range : (count : ℕ) (trace : List (List ℕ)) (k a : ℕ) → list_all (is_state count) trace ≡ true → test_of trace k a ≡ true → (k < length trace) × (a < count)
test_range count [] k a h t = absurd (false≢true t)
test_range count (state ∷ more) zero a h t =
    let both = and_parts (is_state count state) (list_all (is_state count) more) h in
    (omega arith, member_range count state a (and_parts (numbers_rise state) (list_all (λ atom. nat_lt atom count) state) both.0).1 t)
test_range count (state ∷ more) (suc k) a h t =
    let w = test_range count more k a (and_parts (is_state count state) (list_all (is_state count) more) h).1 t in
    (omega (arith, w.0), w.1)

-- the sets of two traces agree on the atoms
abbrev pub AgreeOnAtoms : Ground → ℕ → List (List ℕ) → List (List ℕ) → Type 0
AgreeOnAtoms program n first second =
    (a k : ℕ) → a < length program.atoms → k < n → full_of program n first (visible (counts_of program) a k) ≡ full_of program n second (visible (counts_of program) a k)

apart_sets : (program : Ground) (n : ℕ) (first second : List (List ℕ)) → IsTrace n (length program.atoms) second → Precedes first second → AgreeOnAtoms program n first second → ⊥
apart_sets program n first second trace before same =
    let k = before.0 in
    let a = before.1 in
    let range = test_range (length program.atoms) second k a trace.1 before.2.is_true in
    let l : k < n = omega (arith, range.0, trace.0) in
    let v = visible (counts_of program) a k in
    let there = same a k range.1 l ∙ atom_there program n (test_of second) (test_of second) a k v range.1 l refl before.2.is_true in
    false≢true (sym before.2.is_false ∙ there_atom program n (test_of first) (test_of first) a k v range.1 l refl there)

pub atoms_differ : (program : Ground) (n : ℕ) (trace other : List (List ℕ)) → IsGround program → Contains (list_of program n) trace → Contains (list_of program n) other → AgreeOnAtoms program n trace other → trace ≡ other
atoms_differ program n trace other ground listed found same =
    let traces = list_of program n in
    let rises = list_of-rises program n in
    let i = listed.0 in
    let j = found.0 in
    let is_other : get_or traces j trace ≡ other = get_same traces j trace other found.1 ∙ found.2 in
    ⊎_elim (λ (e : i ≡ j). sym listed.2 ∙ ap (λ (k : ℕ). get_or traces k trace) e ∙ is_other) (λ apart. ⊎_elim (λ (l : i < j).
    absurd (apart_sets program n trace other ((list_of-equilibria program n other ground).0 found).is_trace (subst (λ (t : List (List ℕ)). Precedes t other) listed.2 (subst (λ (t : List (List ℕ)). Precedes (get_or traces i trace) t) is_other (rises i j trace l found.1))) same)) (λ (l : j < i).
    absurd (apart_sets program n other trace ((list_of-equilibria program n trace ground).0 listed).is_trace (subst (λ (t : List (List ℕ)). Precedes t trace) is_other (subst (λ (t : List (List ℕ)). Precedes (get_or traces j trace) t) listed.2 (rises j i trace l listed.1))) (λ a k m o. sym (same a k m o)))) apart) (cases_order i j)

pub sets_differ : (program : Ground) (n : ℕ) (trace other : List (List ℕ)) → IsGround program → Contains (list_of program n) trace → Contains (list_of program n) other → ((v : ℕ) → full_of program n trace v ≡ full_of program n other v) → trace ≡ other
sets_differ program n trace other ground listed found same = atoms_differ program n trace other ground listed found (λ a k l m. same (visible (counts_of program) a k))
