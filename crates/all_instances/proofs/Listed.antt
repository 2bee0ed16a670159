-- The listed traces of a theory tell its temporal equilibrium models over all ground atoms.
use Rattle.std.proofs.Common.{◌≡◌, ℕ, ◌<◌, Bool, true, false, not, ◌||◌, List, [], length, refl, sym, ◌∙◌, subst, ⊎_elim, arith}
use Rattle.std.specs.Prelude.{◌==◌}
use Rattle.std.specs.List.{filter}
use Rattle.std.proofs.lemmas.Bool.{and_parts, and_from, cases_Bool, cond-true, cond-false, ne_eqb, false≢true}
use Rattle.tel_base.specs.Members.{In}
use Rattle.tel_base.proofs.Members.{In-list_all, list_all-from_In, In-filter, In-filter_from}
use Rattle.tel_rule.specs.Rising.{rises}
use Rattle.tel_semantics.specs.Traces.{test_of, each_below, is_below}
use Rattle.tel_semantics.specs.Theory.{DemandOver, meets}
use Rattle.tel_semantics.specs.Lists.{traces_below, all_traces, full_trace}
use Rattle.tel_semantics.proofs.Quantifiers.{each_below-at, each_below-all}
use Rattle.tel_semantics.proofs.Below.{Under-traces_below, traces_below-Under}
use Rattle.tel_semantics.proofs.Minimal.{part_of, Under-part_of, IsBelow-Under}
use Rattle.theory_lists.specs.Atoms.{TermAtom, term_atom_lt, atom_at}
use Rattle.theory_lists.specs.Theories.{ProgramTheory}
use Rattle.theory_lists.specs.Lists.{told, models, is_minimal, is_equilibrium, equilibria}
use Rattle.all_instances.specs.Traces.{Trace, IsBelow, AreSame, IsModel, IsEquilibrium}
use Rattle.all_instances.specs.Laws.{Among, HasOnly, IsToldOnce, ListedAreOfAll, ModelsOfAllAreListed}
use Rattle.all_instances.proofs.Persisting.{meets-same}
use Rattle.all_instances.proofs.Told.{same_test, told_from, told_to, at_places, part_tells, full_tells, listed_below, told_place, one_listed}
use Rattle.all_instances.proofs.Suffices.{theory_from_all, all_from_theory, only_known}

unless : (b c : Bool) → (b ≡ true → c ≡ true) → (not b || c) ≡ true
unless true c h = h refl
unless false c h = refl

unless_at : (b c : Bool) → (not b || c) ≡ true → b ≡ true → c ≡ true
unless_at true c h t = h
unless_at false c h t = absurd (false≢true t)

module _ (theory : ProgramTheory) (n : ℕ) where
  abbrev count : ℕ
  count = length theory.atoms

  abbrev tell : List (List ℕ) → Trace
  tell trace = told theory.atoms trace

  abbrev Demanded : DemandOver TermAtom → Type 0
  Demanded demand = Among theory.demands demand

  -- the test of a list of demands is what is said of each, for traces that are told and for others that are the same
  model_from : (small trace : List (List ℕ)) (H T : Trace) → AreSame n (tell small) H → AreSame n (tell trace) T → models theory n small trace ≡ true → IsModel Demanded n H T
  model_from small trace H T tells_small tells is demand there =
      sym (meets-same n (tell small) (tell trace) H T demand tells_small tells) ∙ In-list_all (meets n (tell small) (tell trace)) demand theory.demands is there

  model_to : (small trace : List (List ℕ)) (H T : Trace) → AreSame n (tell small) H → AreSame n (tell trace) T → IsModel Demanded n H T → models theory n small trace ≡ true
  model_to small trace H T tells_small tells model =
      list_all-from_In (meets n (tell small) (tell trace)) theory.demands (λ demand there. meets-same n (tell small) (tell trace) H T demand tells_small tells ∙ model demand there)

  itself : (T : Trace) → AreSame n T T
  itself T k atom l = refl

  -- where each place of a listed trace is one of another it is told so
  above_at : (trace small : List (List ℕ)) → is_below n count (test_of trace) (test_of small) ≡ true → (k place : ℕ) → k < n → place < count → test_of trace k place ≡ true → test_of small k place ≡ true
  above_at trace small above k place l m =
      unless_at (test_of trace k place) (test_of small k place)
      (each_below-at count (λ p. not (test_of trace k p) || test_of small k p) (each_below-at n (λ j. each_below count (λ p. not (test_of trace j p) || test_of small j p)) above k l) place m)

  listed_is : (trace : List (List ℕ)) → In trace (all_traces count n) → is_equilibrium theory n trace ≡ true → IsEquilibrium Demanded n (tell trace)
  listed_is trace listed is =
      let both = and_parts (models theory n trace trace) (is_minimal theory n trace) is in
      record { total = model_from trace trace (tell trace) (tell trace) (itself (tell trace)) (itself (tell trace)) both.0; minimal = minimal both.1 }
    where
      minimal : is_minimal theory n trace ≡ true → (H : Trace) → IsBelow n H (tell trace) → IsModel Demanded n H (tell trace) → AreSame n H (tell trace)
      minimal least H below model k atom l =
          let small = part_of (at_places theory.atoms H) 0 trace in
          let tells : AreSame n (tell small) H = λ j a m. part_tells theory.atoms H trace j a (λ on. below j a m on) in
          let is_one = model_to small trace H (tell trace) tells (itself (tell trace)) model in
          let either = In-list_all (λ (s : List (List ℕ)). not (models theory n s trace) || is_below n count (test_of trace) (test_of s)) small (traces_below trace) least
          (traces_below-Under small trace (Under-part_of (at_places theory.atoms H) 0 trace)) in
          let above = unless_at (models theory n small trace) (is_below n count (test_of trace) (test_of small)) either is_one in
          same_test (H k atom) (tell trace k atom) (λ on. below k atom l on)
          (λ on.
          let p = told_from theory.atoms trace k atom on in
          let there = above_at trace small above k p.place l (listed_below count n trace listed k p.place p.there) p.there in
          sym (tells k atom l) ∙ told_to theory.atoms small k p.place atom there p.is)

  module _ (up : rises term_atom_lt theory.atoms ≡ true) (T : Trace) (eq : IsEquilibrium Demanded n T) (only : HasOnly n theory.atoms T) where
    abbrev trace : List (List ℕ)
    trace = part_of (at_places theory.atoms T) 0 (full_trace count n)

    trace_tells : AreSame n (tell trace) T
    trace_tells k atom l = part_tells theory.atoms T (full_trace count n) k atom (λ on. full_tells theory.atoms n k atom l (only k atom l on))

    trace_listed : In trace (all_traces count n)
    trace_listed = traces_below-Under trace (full_trace count n) (Under-part_of (at_places theory.atoms T) 0 (full_trace count n))

    small_below : (small : List (List ℕ)) → In small (traces_below trace) → IsBelow n (tell small) T
    small_below small listed k atom l on =
        let p = told_from theory.atoms small k atom on in
        sym (trace_tells k atom l) ∙ told_to theory.atoms trace k p.place atom (IsBelow-Under small trace (Under-traces_below small trace listed) k p.place p.there) p.is

    small_places : (small : List (List ℕ)) → In small (traces_below trace) → (k place : ℕ) → test_of small k place ≡ true → place < count
    small_places small listed k place on =
        listed_below count n trace trace_listed k place (IsBelow-Under small trace (Under-traces_below small trace listed) k place on)

    small_is_all : (small : List (List ℕ)) → In small (traces_below trace) → models theory n small trace ≡ true → is_below n count (test_of trace) (test_of small) ≡ true
    small_is_all small listed is =
        let same = eq.minimal (tell small) (small_below small listed) (model_from small trace (tell small) T (itself (tell small)) trace_tells is) in
        each_below-all n (λ j. each_below count (λ p. not (test_of trace j p) || test_of small j p)) (λ k l.
        each_below-all count (λ p. not (test_of trace k p) || test_of small k p) (λ place m.
        unless (test_of trace k place) (test_of small k place) (λ on.
        let atom = atom_at theory.atoms place in
        told_place theory.atoms small k place up (small_places small listed) m
        (same k atom l ∙ sym (trace_tells k atom l) ∙ told_to theory.atoms trace k place atom on refl))))

    trace_is : is_equilibrium theory n trace ≡ true
    trace_is =
        and_from (models theory n trace trace) (is_minimal theory n trace) (model_to trace trace T T trace_tells trace_tells eq.total)
        (list_all-from_In (λ (s : List (List ℕ)). not (models theory n s trace) || is_below n count (test_of trace) (test_of s)) (traces_below trace)
        (λ small listed. unless (models theory n small trace) (is_below n count (test_of trace) (test_of small)) (small_is_all small listed)))

  -- the list, of a length that isn't 0
  found_in : (trace : List (List ℕ)) → In trace (equilibria theory n) → In trace (filter (is_equilibrium theory n) (all_traces count n))
  found_in trace there =
      let found = filter (is_equilibrium theory n) (all_traces count n) in
      ⊎_elim (λ (none : (n == 0) ≡ true). absurd (subst (λ (traces : List (List (List ℕ))). In trace traces) (cond-true (n == 0) [] found none) there))
      (λ (some : (n == 0) ≡ false). subst (λ (traces : List (List (List ℕ))). In trace traces) (cond-false (n == 0) [] found some) there)
      (cases_Bool (n == 0))

  in_list : 0 < n → (trace : List (List ℕ)) → In trace (filter (is_equilibrium theory n) (all_traces count n)) → In trace (equilibria theory n)
  in_list some trace there =
      let found = filter (is_equilibrium theory n) (all_traces count n) in
      subst (λ (traces : List (List (List ℕ))). In trace traces) (sym (cond-false (n == 0) [] found (ne_eqb n 0 (λ e. absurd (omega (arith, e, some)))))) there

  pub told_model : (trace : List (List ℕ)) → In trace (equilibria theory n) → IsEquilibrium Demanded n (tell trace)
  told_model trace there =
      let found = In-filter_from (is_equilibrium theory n) trace (all_traces count n) (found_in trace there) in
      listed_is trace found.0 found.1

  pub told_once : rises term_atom_lt theory.atoms ≡ true → 0 < n → (T : Trace) → IsEquilibrium Demanded n T → HasOnly n theory.atoms T → IsToldOnce theory n T
  told_once up some T eq only = record {
    trace = trace up T eq only;
    listed = in_list some (trace up T eq only) (In-filter (is_equilibrium theory n) (trace up T eq only) (all_traces count n) (trace_listed up T eq only) (trace_is up T eq only));
    tells = trace_tells up T eq only;
    alone = λ other there tells.
        let found = In-filter_from (is_equilibrium theory n) other (all_traces count n) (found_in other there) in
        one_listed theory.atoms n T other (trace up T eq only) up found.0 (trace_listed up T eq only) tells (trace_tells up T eq only);
  }

pub listed_of_all : ListedAreOfAll
listed_of_all program live theory n trace made is there =
    all_from_theory program live theory made is n (told theory.atoms trace) (told_model theory n trace there)

pub all_are_listed : ModelsOfAllAreListed
all_are_listed program live theory n T made is some eq =
    told_once theory n is.rise some T (theory_from_all program live theory made is n T eq) (only_known program live theory made is n T eq)
