-- The sets found, in order.
use Rattle.std.proofs.Common.{◌≡◌, ℕ, true, false, List, [], ◌∷◌, ◌++◌, refl, sym, ap, subst, ◌∙◌, ◌⊎◌, inl, inr, ⊎_elim, arith}
use Rattle.std.specs.Prelude.{◌==◌}
use Rattle.std.proofs.lemmas.Bool.{or_left, and_from, cases_Bool}
use Rattle.tel_base.specs.declared.literals.Lit.{Lit}
use Rattle.tel_base.specs.Literals.{lit_of}
use Rattle.tel_base.proofs.Members.{In, In-append_left, In-append_right, In-append_cases}
use Rattle.normal_program.specs.Grounds.{is_head}
use Rattle.normal_program.specs.StableSets.{Set}
use Rattle.clause_store.specs.declared.store.ClauseKind.{ClauseKind}
use Rattle.clause_store.specs.Closure.{Clause}
use Rattle.completion.specs.Completions.{clause_true}
use Rattle.search_laws.specs.Walks.{IsClosedWalk, Before, Agree, UpTo}
use Rattle.search_laws.specs.Lengths.{Length, bodies_of, IsStableAt, Stands, with_bodies}
use Rattle.search_laws.specs.Origins.{Kept, lits_of, Finds, IsBlock, OriginBy, Grown, added}
use Rattle.search_laws.specs.Needed.{IsFound}
use Rattle.search_laws.specs.Runs.{Run, begins, adds, blocks, InOrder}
use Rattle.search_laws.specs.Laws.{AreComposed, NeverIsRight, all_true}
use Rattle.search_laws.proofs.Truths.{no_conflict}
use Rattle.search_laws.proofs.Ends.{values_stand}
use Rattle.search_laws.proofs.Along.{append_more, true_more, ending_true, seen_same, false_blocks, block_agrees, agree_from}
use Rattle.search_laws.proofs.Ordered.{after_walk, sets_rise, grown_more, kept_are_right}

pub run_grown : (lengths : ℕ → Length) (n : ℕ) → AreComposed lengths n → (held : List Kept) (sets : List Set) → Run lengths n held sets → Grown lengths n held
run_grown lengths n laid held sets (begins _ _ k l grown empty) = grown_more lengths k n held (omega (arith, l)) grown
run_grown lengths n laid held sets (adds _ _ before one whole run of_length other origin) =
    added held before one whole (run_grown lengths n laid before sets run) (omega (arith, laid.some, of_length)) (omega (arith, of_length)) origin
run_grown lengths n laid held sets (blocks _ _ before one past decisions set whole more run of_length is block) =
    added held before one whole (run_grown lengths n laid before past run) (omega (arith, laid.some, of_length)) (omega (arith, of_length)) (subst (λ (k : ClauseKind). OriginBy lengths (lits_of before) k one.length one.lits) (sym is) (decisions, set, subst (λ (k : ℕ). IsBlock (lengths k) (lits_of before) one.lits decisions set) (sym of_length) block))

-- the blocking clause of a set that was found
pub record At (lengths : ℕ → Length) (n : ℕ) (held : List Kept) (set : Set) : Type 0 where
  pub before : List Kept
  pub one : Kept
  pub rest : List Kept
  pub decisions : List Lit
  pub whole : held ≡ before ++ one ∷ rest
  pub block : IsBlock (lengths n) (lits_of before) one.lits decisions set

at_more : (lengths : ℕ → Length) (n : ℕ) (held before : List Kept) (one : Kept) (set : Set) → held ≡ before ++ one ∷ [] → At lengths n before set → At lengths n held set
at_more lengths n held before one set whole at = record {
  before = at.before;
  one = at.one;
  rest = at.rest ++ one ∷ [];
  decisions = at.decisions;
  whole = whole ∙ (ap (λ (hs : List Kept). hs ++ one ∷ []) at.whole ∙ append_more at.before (at.one ∷ at.rest) (one ∷ []));
  block = at.block;
}

run_at : (lengths : ℕ → Length) (n : ℕ) (held : List Kept) (sets : List Set) (set : Set) → Run lengths n held sets → In set sets → At lengths n held set
run_at lengths n held sets set (begins _ _ k l grown empty) i = absurd (subst (λ (ss : List Set). In set ss) empty i)
run_at lengths n held sets set (adds _ _ before one whole run of_length other origin) i = at_more lengths n held before one set whole (run_at lengths n before sets set run i)
run_at lengths n held sets set (blocks _ _ before one past decisions last whole more run of_length is block) i =
    ⊎_elim (λ l. at_more lengths n held before one set whole (run_at lengths n before past set run l)) (λ r. ⊎_elim (λ (e : last ≡ set). record {
      before = before;
      one = one;
      rest = [];
      decisions = decisions;
      whole = whole;
      block = subst (λ (s : Set). IsBlock (lengths n) (lits_of before) one.lits decisions s) e block;
    }) (λ m. absurd m) r) (In-append_cases set past (last ∷ []) (subst (λ (ss : List Set). In set ss) more i))

in_order_more : (seen : List ℕ) (sets : List Set) (last : Set) → InOrder seen sets → ((set : Set) → In set sets → Before seen set last) → InOrder seen (sets ++ last ∷ [])
in_order_more seen [] last rising h = ((λ later i. absurd i), tt)
in_order_more seen (set ∷ sets) last rising h =
    ((λ later i. ⊎_elim (λ m. rising.0 later m) (λ r. ⊎_elim (λ (e : last ≡ later). subst (λ (s : Set). Before seen set s) e (h set (inl refl))) (λ m. absurd m) r) (In-append_cases later sets (last ∷ []) i)), in_order_more seen sets last rising.1 (λ s m. h s (inr m)))

module _ (lengths : ℕ → Length) (n : ℕ) (laid : AreComposed lengths n) where
  -- each stable set has values
  stands_of : (S : Set) → IsStableAt (lengths n) S → Stands (lengths n) S (with_bodies (bodies_of (lengths n)) S)
  stands_of S stable = record { stable = stable; valued = values_stand (lengths n) S laid.one_body }

  -- a stable set makes all held clauses true or was found
  right_or_found : (held : List Kept) (sets : List Set) (S values : Set) → Run lengths n held sets → Stands (lengths n) S values → (all_true values (lits_of held) ≡ true) ⊎ ((set : Set) × In set sets × Agree (lengths n).visible S set)
  right_or_found held sets S values (begins _ _ k l grown empty) stands = inl (kept_are_right lengths n k held S values laid grown l stands)
  right_or_found held sets S values (adds _ _ before one whole run of_length other origin) stands =
      ⊎_elim (λ (h : all_true values (lits_of before) ≡ true).
      ⊎_elim (λ (t : clause_true values one.lits ≡ true). inl (subst (λ (hs : List Kept). all_true values (lits_of hs) ≡ true) (sym whole) (true_more values before one h t))) (λ (f : clause_true values one.lits ≡ false).
      absurd (other (false_blocks lengths n S values laid stands before one h (omega (arith, laid.some, of_length)) (omega (arith, of_length)) origin f).1)) (cases_Bool (clause_true values one.lits))) (λ found. inr found) (right_or_found before sets S values run stands)
  right_or_found held sets S values (blocks _ _ before one past decisions set whole more run of_length is block) stands =
      ⊎_elim (λ (h : all_true values (lits_of before) ≡ true).
      ⊎_elim (λ (t : clause_true values one.lits ≡ true). inl (subst (λ (hs : List Kept). all_true values (lits_of hs) ≡ true) (sym whole) (true_more values before one h t))) (λ (f : clause_true values one.lits ≡ false).
      inr (set, subst (λ (ss : List Set). In set ss) (sym more) (In-append_right set past (set ∷ []) (inl refl)), agree_from (lengths n).visible S set (λ v i. sym (seen_same lengths n S values laid stands v i) ∙ block_agrees (lengths n) (lits_of before) one.lits decisions set values block h f v i))) (cases_Bool (clause_true values one.lits))) (λ (found : (s : Set) × In s past × Agree (lengths n).visible S s).
      inr (found.0, subst (λ (ss : List Set). In found.0 ss) (sym more) (In-append_left found.0 past (set ∷ []) found.1), found.2)) (right_or_found before past S values run stands)

  pub next_after : (held : List Kept) (sets : List Set) (decisions : List Lit) (S : Set) → Run lengths n held sets → Finds (lengths n) (lits_of held) decisions S → (set : Set) → In set sets → Before (lengths n).visible set S
  next_after held sets decisions S run finds set i =
      let at = run_at lengths n held sets set run i in
      sets_rise lengths n laid held at.before at.rest at.one decisions at.decisions S (with_bodies (bodies_of (lengths n)) S) set (run_grown lengths n laid held sets run) (stands_of S finds.stable) finds.total finds.set at.whole at.block

  pub next_is_next : (held : List Kept) (sets : List Set) (decisions : List Lit) (S : Set) → Run lengths n held sets → Finds (lengths n) (lits_of held) decisions S → ((set : Set) → In set sets → Before (lengths n).visible set S) × ((R : Set) → IsStableAt (lengths n) R → ((set : Set) × In set sets × Agree (lengths n).visible R set) ⊎ UpTo (lengths n).visible S R)
  next_is_next held sets decisions S run finds = (
    next_after held sets decisions S run finds,
    λ R other.
        let others = with_bodies (bodies_of (lengths n)) R in
        let stands = stands_of R other in
        ⊎_elim (λ (h : all_true others (lits_of held) ≡ true). inr (after_walk lengths n laid held decisions S R others stands finds.total finds.set h)) (λ found. inl found) (right_or_found held sets R others run stands),
  )

  pub closed_found_all : (held : List Kept) (sets : List Set) (S : Set) → Run lengths n held sets → IsClosedWalk (lits_of held) (lengths n).ending → IsStableAt (lengths n) S → (set : Set) × In set sets × Agree (lengths n).visible S set
  closed_found_all held sets S run clash stable =
      let values = with_bodies (bodies_of (lengths n)) S in
      let stands = stands_of S stable in
      ⊎_elim (λ h. absurd (no_conflict values (lits_of held) (lit_of (lengths n).ending ∷ []) h (and_from (values (lengths n).ending) true (ending_true lengths n S values laid stands) refl) clash)) (λ found. found) (right_or_found held sets S values run stands)

  pub found_in_order : (held : List Kept) (sets : List Set) → Run lengths n held sets → InOrder (lengths n).visible sets × ((set : Set) → In set sets → IsStableAt (lengths n) set)
  found_in_order held sets (begins _ _ k l grown empty) =
      (subst (λ (ss : List Set). InOrder (lengths n).visible ss) (sym empty) tt, λ set i. absurd (subst (λ (ss : List Set). In set ss) empty i))
  found_in_order held sets (adds _ _ before one whole run of_length other origin) = found_in_order before sets run
  found_in_order held sets (blocks _ _ before one past decisions set whole more run of_length is block) =
      let rest = found_in_order before past run in (
        subst (λ (ss : List Set). InOrder (lengths n).visible ss) (sym more) (in_order_more (lengths n).visible past set rest.0 (next_after before past decisions set run block.found)),
        λ s i.
            ⊎_elim (λ l. rest.1 s l) (λ r. ⊎_elim (λ (e : set ≡ s). subst (λ (x : Set). IsStableAt (lengths n) x) e block.found.stable) (λ m. absurd m) r) (In-append_cases s past (set ∷ []) (subst (λ (ss : List Set). In s ss) more i)),
      )

pub never_is_right : NeverIsRight
never_is_right lengths n k held S laid grown l clash stable =
    let values = with_bodies (bodies_of (lengths n)) S in
    no_conflict values (lits_of held) [] (kept_are_right lengths n k held S values laid grown l (record { stable = stable; valued = values_stand (lengths n) S laid.one_body })) refl clash

pub found_finds : (length : Length) (clauses : List Clause) (decisions : List Lit) (S : Set) → ((var : ℕ) → In var length.visible → is_head length.ground.modules var ≡ true) → IsFound length clauses decisions S → Finds length clauses decisions S
found_finds length clauses decisions S heads found = record {
  total = found.total;
  set = record { derived = λ v i t. found.set.derived v t; whole = λ v i up. found.set.whole v (or_left (is_head length.ground.modules v) (v == length.ending) (heads v i)) up };
  stable = found.stable;
}
