-- The list of a length has exactly the temporal equilibrium models.
use Rattle.std.proofs.Common.{◌≡◌, ◌<◌, ℕ, zero, suc, Bool, true, false, not, ◌&&◌, ◌||◌, List, [], ◌∷◌, length, map, refl, sym, ap, subst, ◌∙◌, ⊎_elim, arith}
use Rattle.std.specs.Prelude.{◌↔◌}
use Rattle.std.specs.List.{list_all, Contains}
use Rattle.std.proofs.lemmas.Bool.{and_parts, and_from, or_cases, or_left, or_right, or_parts, cases_Bool, not-true, not-false, false≢true}
use Rattle.std.proofs.lemmas.List.Folds.{list_all-map, list_all-append}
use Rattle.tel_rule.specs.Ground.{Ground, IsGround}
use Rattle.tel_semantics.specs.Traces.{Test, test_of, each_below, IsBelow, is_below, Agree, Differ}
use Rattle.tel_semantics.specs.Formula.{atoms_below}
use Rattle.tel_semantics.specs.Satisfaction.{sat}
use Rattle.tel_semantics.specs.Theory.{Demand, demand_of, pair_demand, theory, is_demanded, meets, is_model}
use Rattle.tel_semantics.specs.Lists.{traces_below, all_traces, full_trace}
use Rattle.tel_semantics.specs.Equilibrium.{is_minimal, tem, list_of}
use Rattle.tel_semantics.specs.Laws.{MeetsAll, IsEquilibrium}
use Rattle.tel_semantics.proofs.Quantifiers.{each_below-all, each_below-at, each_below-same, each_below-fails}
use Rattle.tel_semantics.proofs.SatLaws.{sat-agree}
use Rattle.tel_semantics.proofs.InRange.{demand_below, theory_below}
use Rattle.tel_base.proofs.Members.{In, In-filter, In-filter_from, In-list_all, list_all-from_In, In-from_Contains, Contains-from_In}
use Rattle.tel_semantics.proofs.Below.{Under-traces_below, traces_below-Under, Under-full, full-Under, list_of-suc}
use Rattle.tel_semantics.proofs.Minimal.{part_of, Under-part_of, Agree-part_of, IsBelow-Under}

-- tests that agree in range have the same models
meets_agree : (demand : Demand) (n count : ℕ) (H T S U : Test) → atoms_below count demand.formula ≡ true → Agree n count H S → Agree n count T U → meets n H T demand ≡ meets n S U demand
meets_agree demand n count H T S U a d e =
    each_below-same n (λ k. not (is_demanded demand.part n k) || sat demand.formula n H T k) (λ k. not (is_demanded demand.part n k) || sat demand.formula n S U k) (λ k l. ap (λ (b : Bool). not (is_demanded demand.part n k) || b) (sat-agree demand.formula n count H T S U a d e k l))

models_agree : (demands : List Demand) (n count : ℕ) (H T S U : Test) → list_all (demand_below count) demands ≡ true → Agree n count H S → Agree n count T U → is_model demands n H T ≡ is_model demands n S U
models_agree [] n count H T S U a d e = refl
models_agree (demand ∷ more) n count H T S U a d e =
    let both = and_parts (demand_below count demand) (list_all (demand_below count) more) a in
    let first = meets_agree demand n count H T S U both.0 d e in
    let rest = models_agree more n count H T S U both.1 d e in
    ap (λ (b : Bool). b && is_model more n H T) first ∙ ap (λ (b : Bool). meets n S U demand && b) rest

-- where T is below H and H below T they don't differ
no_difference : (h t : Bool) → (h ≡ true → t ≡ true) → (not t || h) ≡ true → h ≡ t
no_difference true t below above = sym (below refl)
no_difference false true below above = absurd (false≢true above)
no_difference false false below above = refl

minimal_for_all : (program : Ground) (n : ℕ) (trace : List (List ℕ)) → IsGround program → is_minimal program n trace ≡ true → (H : Test) → IsBelow n (length program.atoms) H (test_of trace) → Differ n (length program.atoms) H (test_of trace) → is_model (theory program) n H (test_of trace) ≡ true → ⊥
minimal_for_all program n trace ground minimal H below differ model =
    let count = length program.atoms in
    let T = test_of trace in
    let small = part_of H 0 trace in
    let agree = Agree-part_of n count H trace below in
    let listed = traces_below-Under small trace (Under-part_of H 0 trace) in
    let either = In-list_all (λ (smaller : List (List ℕ)). not (is_model (theory program) n (test_of smaller) T) || is_below n count T (test_of smaller)) small (traces_below trace) minimal listed in
    let same = models_agree (theory program) n count H T (test_of small) T (theory_below program ground) agree (λ k atom l m. refl) in
    ⊎_elim (λ no. false≢true (sym (not-true (is_model (theory program) n (test_of small) T) no) ∙ sym same ∙ model)) (λ above. let place = differ in let row = each_below-at n (λ k. each_below count (λ atom. not (T k atom) || test_of small k atom)) above place.0 place.2 in let at = each_below-at count (λ atom. not (T place.0 atom) || test_of small place.0 atom) row place.1 place.3 in let at_H : (not (T place.0 place.1) || H place.0 place.1) ≡ true = ap (λ (b : Bool). not (T place.0 place.1) || b) (agree place.0 place.1 place.2 place.3) ∙ at in place.4 (no_difference (H place.0 place.1) (T place.0 place.1) (below place.0 place.1 place.2 place.3) at_H)) (or_cases (not (is_model (theory program) n (test_of small) T)) (is_below n count T (test_of small)) either)

false_if_not : (b : Bool) → (b ≡ true → ⊥) → b ≡ false
false_if_not true h = absurd (h refl)
false_if_not false h = refl

-- where T is not below a listed trace, they differ
difference : (n count : ℕ) (S T : Test) → is_below n count T S ≡ false → Differ n count S T
difference n count S T h =
    let row = each_below-fails n (λ k. each_below count (λ atom. not (T k atom) || S k atom)) h in
    let at = each_below-fails count (λ atom. not (T row.0 atom) || S row.0 atom) row.2 in
    let parts = or_parts (not (T row.0 at.0)) (S row.0 at.0) at.2 in
    (row.0, at.0, row.1, at.1, λ same. false≢true (sym parts.1 ∙ same ∙ not-false (T row.0 at.0) parts.0))

minimal_from_all : (program : Ground) (n : ℕ) (trace : List (List ℕ)) → ((H : Test) → IsBelow n (length program.atoms) H (test_of trace) → Differ n (length program.atoms) H (test_of trace) → is_model (theory program) n H (test_of trace) ≡ false) → is_minimal program n trace ≡ true
minimal_from_all program n trace all =
    let count = length program.atoms in
    let T = test_of trace in
    list_all-from_In (λ (smaller : List (List ℕ)). not (is_model (theory program) n (test_of smaller) T) || is_below n count T (test_of smaller)) (traces_below trace) (λ small listed. ⊎_elim (λ above. or_right (not (is_model (theory program) n (test_of small) T)) (is_below n count T (test_of small)) above) (λ misses. let no = all (test_of small) (λ k atom l m. IsBelow-Under small trace (Under-traces_below small trace listed) k atom) (difference n count (test_of small) T misses) in or_left (not (is_model (theory program) n (test_of small) T)) (is_below n count T (test_of small)) (ap not no)) (cases_Bool (is_below n count T (test_of small))))

equilibrium_from_list : (program : Ground) (n : ℕ) (trace : List (List ℕ)) → IsGround program → In trace (list_of program n) → IsEquilibrium program n trace
equilibrium_from_list program zero trace ground h = absurd h
equilibrium_from_list program (suc n) trace ground h =
    let count = length program.atoms in
    let kept = In-filter_from (tem program (suc n)) trace (all_traces count (suc n)) (subst (λ (traces : List (List (List ℕ))). In trace traces) (list_of-suc program n) h) in
    let whole = Under-full count (suc n) trace (Under-traces_below trace (full_trace count (suc n)) kept.0) in
    let both = and_parts (is_model (theory program) (suc n) (test_of trace) (test_of trace)) (is_minimal program (suc n) trace) kept.1 in
    record {
      not_empty = omega arith;
      is_trace = (whole.0, whole.1);
      total = both.0;
      minimal = λ H below differ. false_if_not (is_model (theory program) (suc n) H (test_of trace)) (minimal_for_all program (suc n) trace ground both.1 H below differ);
    }

list_from_equilibrium : (program : Ground) (n : ℕ) (trace : List (List ℕ)) → IsEquilibrium program n trace → In trace (list_of program n)
list_from_equilibrium program zero trace e = absurd (omega (arith, e.not_empty))
list_from_equilibrium program (suc n) trace e =
    let count = length program.atoms in
    let listed = traces_below-Under trace (full_trace count (suc n)) (full-Under count (suc n) trace e.is_trace.0 e.is_trace.1) in
    let kept = and_from (is_model (theory program) (suc n) (test_of trace) (test_of trace)) (is_minimal program (suc n) trace) e.total (minimal_from_all program (suc n) trace e.minimal) in
    subst (λ (traces : List (List (List ℕ))). In trace traces) (sym (list_of-suc program n)) (In-filter (tem program (suc n)) trace (all_traces count (suc n)) listed kept)

pub list_of-equilibria : (program : Ground) (n : ℕ) (trace : List (List ℕ)) → IsGround program → Contains (list_of program n) trace ↔ IsEquilibrium program n trace
list_of-equilibria program n trace ground =
    (λ h. equilibrium_from_list program n trace ground (In-from_Contains (list_of program n) trace h), λ e. Contains-from_In (list_of program n) trace (list_from_equilibrium program n trace e))

unless : (b c : Bool) → (b ≡ true → c ≡ true) → (not b || c) ≡ true
unless true c h = h refl
unless false c h = refl

unless_at : (b c : Bool) → (not b || c) ≡ true → b ≡ true → c ≡ true
unless_at true c h t = h
unless_at false c h t = absurd (false≢true t)

-- each formula of a list is satisfied wherever it is demanded
abbrev MeetsEach : {X : Type 0} → (X → Demand) → List X → ℕ → Test → Test → Type 0
MeetsEach {X} demand xs n H T =
    (x : X) → Contains xs x → (k : ℕ) → k < n → is_demanded (demand x).part n k ≡ true → sat (demand x).formula n H T k ≡ true

meets_each : {X : Type 0} (demand : X → Demand) (xs : List X) (n : ℕ) (H T : Test) → is_model (map demand xs) n H T ≡ true ↔ MeetsEach demand xs n H T
meets_each {X} demand xs n H T =
    let over = list_all-map (meets n H T) demand xs in
    (λ h x found k l d. let met = In-list_all (λ (y : X). meets n H T (demand y)) x xs (sym over ∙ h) (In-from_Contains xs x found) in unless_at (is_demanded (demand x).part n k) (sat (demand x).formula n H T k) (each_below-at n (λ j. not (is_demanded (demand x).part n j) || sat (demand x).formula n H T j) met k l) d, λ h. over ∙ list_all-from_In (λ (y : X). meets n H T (demand y)) xs (λ x found. each_below-all n (λ j. not (is_demanded (demand x).part n j) || sat (demand x).formula n H T j) (λ k l. unless (is_demanded (demand x).part n k) (sat (demand x).formula n H T k) (h x (Contains-from_In xs x found) k l))))

pub models_meet_all : (program : Ground) (n : ℕ) (H T : Test) → is_model (theory program) n H T ≡ true ↔ MeetsAll program n H T
models_meet_all program n H T =
    let instances = map (demand_of program.nodes) program.instances in
    let pairs = map pair_demand program.pairs in
    let split = list_all-append (meets n H T) instances pairs in
    let each_instance = meets_each (demand_of program.nodes) program.instances n H T in
    let each_pair = meets_each pair_demand program.pairs n H T in
    (λ h. let both = and_parts (is_model instances n H T) (is_model pairs n H T) (sym split ∙ h) in record { instances = each_instance.0 both.0; pairs = λ pair found k l. each_pair.0 both.1 pair found k l refl }, λ m. split ∙ and_from (is_model instances n H T) (is_model pairs n H T) (each_instance.1 m.instances) (each_pair.1 (λ pair found k l d. m.pairs pair found k l)))
