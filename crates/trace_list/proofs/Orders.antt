-- The traces of the sets that were found are the first ones of the list of their length.
use Rattle.std.proofs.Common.{◌≡◌, ℕ, ◌<◌, true, false, List, [], ◌∷◌, ◌++◌, length, map, refl, sym, subst, ◌∙◌, ◌⊎◌, inl, inr, ⊎_elim, arith}
use Rattle.std.specs.List.{filter, range_with_len}
use Rattle.std.proofs.lemmas.Bool.{false≢true, cases_order}
use Rattle.tel_base.specs.declared.literals.Lit.{Lit}
use Rattle.tel_base.proofs.Members.{In, In-append_left, In-append_right, In-append_cases, In-map, In-map_from, In-flat_map, In-from_Contains, Contains-from_In}
use Rattle.tel_rule.specs.Ground.{Ground, IsGround}
use Rattle.tel_semantics.specs.Traces.{IsTrace, test_of}
use Rattle.tel_semantics.specs.Equilibrium.{list_of}
use Rattle.tel_semantics.specs.Order.{Precedes}
use Rattle.tel_semantics.proofs.ExactList.{list_of-equilibria}
use Rattle.tel_semantics.proofs.Ordered.{Ordered, list_of-rises}
use Rattle.normal_program.specs.StableSets.{Set}
use Rattle.atom_space.specs.Numbers.{visible}
use Rattle.formula_unfold.specs.Nodes.{counts_of}
use Rattle.step_module.specs.Modules.{module_of}
use Rattle.completion.proofs.Ranges.{range_cases}
use Rattle.stable_models.specs.Values.{read_trace}
use Rattle.stable_models.specs.Laws.{full_of}
use Rattle.stable_models.proofs.LawProofs.{models_are_stable, stable_are_models, sets_differ}
use Rattle.stable_models.proofs.SettledModules.{at_atom}
use Rattle.search_laws.specs.Walks.{IsClosedWalk, Before, Agree}
use Rattle.search_laws.specs.Lengths.{Length, length_of, IsStableAt}
use Rattle.search_laws.specs.Origins.{Kept, lits_of, Finds}
use Rattle.search_laws.specs.Runs.{Run, begins, adds, blocks}
use Rattle.search_laws.specs.Laws.{AreComposed}
use Rattle.search_laws.proofs.Along.{agree_at, agree_from}
use Rattle.search_laws.proofs.Composing.{stable_agree}
use Rattle.search_laws.proofs.Listing.{next_is_next, closed_found_all}
use Rattle.template_lengths.proofs.Ordered.{sets_ordered}
use Rattle.template_lengths.proofs.Templates.{templates_composed}
use Rattle.trace_list.specs.Listing.{IsFront}
use Rattle.trace_list.proofs.Models.{same_filter, same_map}
use Rattle.trace_list.proofs.Fronts.{ordered_pairs, ordered_more, ordered_map, least_front, least_all}

-- ---- sets

-- the sets strictly rise and are stable, and each other stable set comes after them
pub record AreFirst (length : Length) (sets : List Set) : Type 0 where
  pub order : Ordered (Before length.visible) sets
  pub stable : (set : Set) → In set sets → IsStableAt length set
  pub ahead : (R : Set) → IsStableAt length R → ((set : Set) × In set sets × Agree length.visible R set) ⊎ ((set : Set) → In set sets → Before length.visible set R)

in_end : {X : Type 0} (xs : List X) (x y : X) → In y (xs ++ x ∷ []) → In y xs ⊎ (x ≡ y)
in_end xs x y i = ⊎_elim (λ l. inl l) (λ r. ⊎_elim (λ e. inr e) (λ none. absurd none) r) (In-append_cases y xs (x ∷ []) i)

module _ (lengths : ℕ → Length) (n : ℕ) (laid : AreComposed lengths n) where
  -- with the set that the walk finds next
  pub first_more : (held : List Kept) (sets : List Set) (decisions : List Lit) (S : Set) → Run lengths n held sets → AreFirst (lengths n) sets → Finds (lengths n) (lits_of held) decisions S → AreFirst (lengths n) (sets ++ S ∷ [])
  first_more held sets decisions S run first finds =
      let next = next_is_next lengths n laid held sets decisions S run finds in
      record {
        order = ordered_more (Before (lengths n).visible) sets S first.order next.0;
        stable = λ set i. ⊎_elim (λ l. first.stable set l) (λ (e : S ≡ set). subst (λ (X : Set). IsStableAt (lengths n) X) e finds.stable) (in_end sets S set i);
        ahead = λ R is.
            let Known : Type 0 = (set : Set) × In set (sets ++ S ∷ []) × Agree (lengths n).visible R set in
            let known : ((set : Set) × In set sets × Agree (lengths n).visible R set) → Known = λ w. (w.0, In-append_left w.0 sets (S ∷ []) w.1, w.2) in
            ⊎_elim (λ w. inl (known w)) (λ all. ⊎_elim (λ w. inl (known w)) (λ up.
            ⊎_elim (λ (same : Agree (lengths n).visible S R). inl (S, In-append_right S sets (S ∷ []) (inl refl), agree_from (lengths n).visible R S (λ v i. sym (agree_at (lengths n).visible S R same v i)))) (λ (before : Before (lengths n).visible S R).
            inr (λ set i. ⊎_elim (λ l. all set l) (λ (e : S ≡ set). subst (λ (X : Set). Before (lengths n).visible X R) e before) (in_end sets S set i))) up) (next.1 R is)) (first.ahead R is);
      }

  pub run_first : (held : List Kept) (sets : List Set) → Run lengths n held sets → AreFirst (lengths n) sets
  run_first held sets (begins _ _ k l grown empty) =
      subst (λ (ss : List Set). AreFirst (lengths n) ss) (sym empty) (record { order = tt; stable = λ set i. absurd i; ahead = λ R is. inr (λ set i. absurd i) })
  run_first held sets (adds _ _ before one whole run of_length other origin) = run_first before sets run
  run_first held sets (blocks _ _ before one past decisions set whole more run of_length is block) =
      subst (λ (ss : List Set). AreFirst (lengths n) ss) (sym more) (first_more before past decisions set run (run_first before past run) block.found)

-- ---- traces

precedes_strict : (a b : List (List ℕ)) → Precedes a b → Precedes b a → ⊥
precedes_strict a b (k, x, p) (m, y, q) =
    ⊎_elim (λ (e : k ≡ m).
    let second : test_of b k y ≡ false = subst (λ (j : ℕ). test_of b j y ≡ false) (sym e) q.is_false in
    let first : test_of a k y ≡ true = subst (λ (j : ℕ). test_of a j y ≡ true) (sym e) q.is_true in
    let same : (earlier : ℕ) → earlier < y → test_of b k earlier ≡ test_of a k earlier = subst (λ (j : ℕ). (earlier : ℕ) → earlier < y → test_of b j earlier ≡ test_of a j earlier) (sym e) q.same_state in
    ⊎_elim (λ (f : x ≡ y). false≢true (sym second ∙ subst (λ (z : ℕ). test_of b k z ≡ true) f p.is_true)) (λ apart. ⊎_elim (λ (l : x < y). false≢true (sym p.is_false ∙ sym (same x l) ∙ p.is_true)) (λ (l : y < x). false≢true (sym second ∙ sym (p.same_state y l) ∙ first)) apart) (cases_order x y)) (λ apart.
    ⊎_elim (λ (l : k < m). false≢true (sym p.is_false ∙ sym (q.same_before k l x) ∙ p.is_true)) (λ (l : m < k). false≢true (sym q.is_false ∙ sym (p.same_before m l y) ∙ q.is_true)) apart) (cases_order k m)

module _ (program : Ground) (n : ℕ) (ground : IsGround program) (some : 0 < n) where
  -- a stable set is that of its trace, which is listed
  listed : (S : Set) → IsStableAt (length_of (module_of program) n) S → In (read_trace program n S) (list_of program n)
  listed S stable = In-from_Contains (list_of program n) (read_trace program n S) (stable_are_models program n S ground some ((stable_agree (module_of program) n S).1 stable)).0

  set_of : (S : Set) → IsStableAt (length_of (module_of program) n) S → S ≡ full_of program n (read_trace program n S)
  set_of S stable = λ i v. (stable_are_models program n S ground some ((stable_agree (module_of program) n S).1 stable)).1 v i

  is_trace : (trace : List (List ℕ)) → In trace (list_of program n) → IsTrace n (length program.atoms) trace
  is_trace trace i = ((list_of-equilibria program n trace ground).0 (Contains-from_In (list_of program n) trace i)).is_trace

  -- a listed trace has a stable set, of which it is the trace
  set_stable : (trace : List (List ℕ)) → In trace (list_of program n) → IsStableAt (length_of (module_of program) n) (full_of program n trace)
  set_stable trace i = (stable_agree (module_of program) n (full_of program n trace)).0 (models_are_stable program n trace ground some (Contains-from_In (list_of program n) trace i))

  trace_back : (trace : List (List ℕ)) → In trace (list_of program n) → trace ≡ read_trace program n (full_of program n trace)
  trace_back trace i =
      let S : Set = full_of program n trace in
      let stable = set_stable trace i in
      sets_differ program n trace (read_trace program n S) ground (Contains-from_In (list_of program n) trace i) (Contains-from_In (list_of program n) (read_trace program n S) (listed S stable)) (λ v i. set_of S stable i v)

  precedes : (S R : Set) → IsStableAt (length_of (module_of program) n) S → IsStableAt (length_of (module_of program) n) R → Before (length_of (module_of program) n).visible S R → Precedes (read_trace program n S) (read_trace program n R)
  precedes S R first second before =
      let seen = (length_of (module_of program) n).visible in
      sets_ordered program n (read_trace program n S) (read_trace program n R) (is_trace (read_trace program n S) (listed S first)) (is_trace (read_trace program n R) (listed R second))
      (subst (λ (X : Set). Before seen X (full_of program n (read_trace program n R))) (set_of S first) (subst (λ (Y : Set). Before seen S Y) (set_of R second) before))

  same_read : (S R : Set) → Agree (length_of (module_of program) n).visible S R → read_trace program n S ≡ read_trace program n R
  same_read S R same =
      same_map (λ (k : ℕ). filter (λ (a : ℕ). S (visible (counts_of program) a k)) (range_with_len 0 (length program.atoms))) (λ (k : ℕ). filter (λ (a : ℕ). R (visible (counts_of program) a k)) (range_with_len 0 (length program.atoms))) (range_with_len 0 n) (λ k i.
      let l = range_cases n 0 k i in
      same_filter (λ (a : ℕ). S (visible (counts_of program) a k)) (λ (a : ℕ). R (visible (counts_of program) a k)) (range_with_len 0 (length program.atoms)) (λ a j.
      let m = range_cases (length program.atoms) 0 a j in
      agree_at (length_of (module_of program) n).visible S R same (visible (counts_of program) a k) (In-flat_map (λ (t : ℕ). (module_of program t).atoms) k (visible (counts_of program) a k) (range_with_len 0 n) i (at_atom program k a (omega (arith, m.1))))))

  traces_rise : (sets : List Set) → AreFirst (length_of (module_of program) n) sets → Ordered Precedes (map (read_trace program n) sets)
  traces_rise sets first =
      ordered_map (Before (length_of (module_of program) n).visible) Precedes (read_trace program n) sets (λ S R i j before. precedes S R (first.stable S i) (first.stable R j) before) first.order

  all_listed : (sets : List Set) → AreFirst (length_of (module_of program) n) sets → (trace : List (List ℕ)) → In trace (map (read_trace program n) sets) → In trace (list_of program n)
  all_listed sets first trace i =
      let w = In-map_from (read_trace program n) trace sets i in
      subst (λ (t : List (List ℕ)). In t (list_of program n)) w.2 (listed w.0 (first.stable w.0 w.1))

  known_trace : (sets : List Set) (trace : List (List ℕ)) → In trace (list_of program n) → ((set : Set) × In set sets × Agree (length_of (module_of program) n).visible (full_of program n trace) set) → In trace (map (read_trace program n) sets)
  known_trace sets trace i (set, j, same) =
      subst (λ (t : List (List ℕ)). In t (map (read_trace program n) sets)) (sym (trace_back trace i ∙ same_read (full_of program n trace) set same)) (In-map (read_trace program n) set sets j)

  pub first_listed : (sets : List Set) → AreFirst (length_of (module_of program) n) sets → IsFront (map (read_trace program n) sets) (list_of program n)
  first_listed sets first =
      least_front Precedes precedes_strict (map (read_trace program n) sets) (list_of program n) (traces_rise sets first) (ordered_pairs Precedes (list_of program n) (list_of-rises program n)) (all_listed sets first) (λ trace i.
      ⊎_elim (λ w. inl (known_trace sets trace i w)) (λ all. inr (λ t j.
      let w = In-map_from (read_trace program n) t sets j in
      let p = precedes w.0 (full_of program n trace) (first.stable w.0 w.1) (set_stable trace i) (all w.0 w.1) in
      subst (λ (x : List (List ℕ)). Precedes x trace) w.2 (subst (λ (y : List (List ℕ)). Precedes (read_trace program n w.0) y) (sym (trace_back trace i)) p))) (first.ahead (full_of program n trace) (set_stable trace i)))

  -- where the walk is closed they are all
  pub closed_listed : (held : List Kept) (sets : List Set) → Run (length_of (module_of program)) n held sets → IsClosedWalk (lits_of held) (length_of (module_of program) n).ending → list_of program n ≡ map (read_trace program n) sets
  closed_listed held sets run clash =
      let laid = templates_composed program n ground some in
      let first = run_first (length_of (module_of program)) n laid held sets run in
      least_all Precedes precedes_strict (map (read_trace program n) sets) (list_of program n) (traces_rise sets first) (ordered_pairs Precedes (list_of program n) (list_of-rises program n)) (all_listed sets first) (λ trace i.
      known_trace sets trace i (closed_found_all (length_of (module_of program)) n laid held sets (full_of program n trace) run clash (set_stable trace i)))
