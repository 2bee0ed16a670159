-- The order in which the sets are found.
use Rattle.std.proofs.Common.{◌≡◌, ℕ, ◌≤◌, ◌<◌, true, false, List, [], ◌∷◌, ◌++◌, refl, sym, subst, ◌∙◌, ◌⊎◌, inl, inr, ⊎_elim, arith}
use Rattle.std.specs.List.{list_all}
use Rattle.std.proofs.lemmas.Bool.{and_from, cases_Bool, not_from_false, false≢true}
use Rattle.tel_base.specs.declared.literals.Lit.{Lit}
use Rattle.tel_base.specs.Literals.{lit_of, negate, negations}
use Rattle.tel_base.proofs.Members.{In, In-list_all, list_all-from_In, In-append_cases, In-append_right, any_found}
use Rattle.normal_program.specs.ModuleClauses.{no_lit}
use Rattle.normal_program.specs.StableSets.{Set}
use Rattle.clause_store.specs.declared.store.ClauseKind.{ClauseKind}
use Rattle.clause_store.specs.declared.store.ClauseKind.TheVariants as kinds
use Rattle.clause_store.specs.Closure.{Clause, Up, Conflict}
use Rattle.clause_store.proofs.Closures.{up_start, up_grows}
use Rattle.completion.specs.Completions.{lit_true, clause_true}
use Rattle.completion.proofs.Signs.{both_true}
use Rattle.search_laws.specs.Walks.{IsTotalWalk, Before, Agree, UpTo}
use Rattle.search_laws.specs.Lengths.{Length, Stands}
use Rattle.search_laws.specs.Origins.{Kept, lits_of, IsSeen, IsBlock, OriginBy, Origin, Grown, none, added}
use Rattle.search_laws.specs.Laws.{AreComposed, all_true}
use Rattle.search_laws.proofs.Truths.{up_true, no_conflict, negations_true}
use Rattle.search_laws.proofs.Walking.{walk_grows, walk_calm, walk_values, walk_decides, false_seen, walk_first}
use Rattle.search_laws.proofs.Loops.{loop_true}
use Rattle.search_laws.proofs.Along.{FirstBlock, clauses_before, clause_there, ending_true, seen_same, right, block_agrees, agree_from, agree_at, up_to_same, order_strict}

-- the decisions of a walk are true in its set
decided_true : (length : Length) (clauses : List Clause) (decisions : List Lit) (S values : Set) → IsTotalWalk clauses length.ending length.visible decisions → IsSeen clauses decisions length.visible S → values length.ending ≡ true → ((v : ℕ) → In v length.visible → values v ≡ S v) → list_all (lit_true values) decisions ≡ true
decided_true length clauses decisions S values total set ending same =
    let calm = walk_calm clauses (lit_of length.ending ∷ []) length.visible decisions total.goes total.begins in
    list_all-from_In (lit_true values) decisions (λ lit i.
    ⊎_elim (λ l. ⊎_elim (λ (e : lit_of length.ending ≡ lit). subst (λ (k : Lit). lit_true values k ≡ true) e ending) (λ m. absurd m) l) (λ (w : (v : ℕ) × In v length.visible × (no_lit v ≡ lit)).
    let up : Up clauses decisions (no_lit w.0) = up_start clauses decisions (no_lit w.0) (subst (λ (k : Lit). In k decisions) (sym w.2) i) in
    subst (λ (k : Lit). lit_true values k ≡ true) w.2 (not_from_false (values w.0) (same w.0 w.1 ∙ false_seen clauses decisions S w.0 calm (set.derived w.0 w.1) up))) (walk_decides clauses (lit_of length.ending ∷ []) length.visible decisions total.goes lit i))

-- a clause whose literals are all negated by true literals is false
false_from : (values : Set) (clause : Clause) → ((lit : Lit) → In lit clause → lit_true values (negate lit) ≡ true) → clause_true values clause ≡ false
false_from values clause h =
    ⊎_elim (λ (t : clause_true values clause ≡ true). let w = any_found (lit_true values) clause t in absurd (both_true values w.0 w.2 (h w.0 w.1))) (λ f. f) (cases_Bool (clause_true values clause))

-- the blocking clause is false where the clauses before are true and the walk's set is this one
blocked : (length : Length) (before : List Clause) (clause : Clause) (decisions : List Lit) (S values : Set) → IsBlock length before clause decisions S → all_true values before ≡ true → values length.ending ≡ true → ((v : ℕ) → In v length.visible → values v ≡ S v) → clause_true values clause ≡ false
blocked length before clause decisions S values block h ending same =
    let made = decided_true length before decisions S values block.found.total block.found.set ending same in
    false_from values clause (λ lit i. up_true values before decisions (negate lit) h made (block.negated lit i))

all_before : (values : Set) (held before rest : List Kept) (one : Kept) → held ≡ before ++ one ∷ rest → all_true values (lits_of held) ≡ true → all_true values (lits_of before) ≡ true
all_before values held before rest one whole h =
    list_all-from_In (clause_true values) (lits_of before) (λ clause i. In-list_all (clause_true values) clause (lits_of held) h (clauses_before held before rest one whole clause i))

module _ (lengths : ℕ → Length) (n : ℕ) (laid : AreComposed lengths n) where
  -- the set of a walk makes all held clauses true
  pub own : (held : List Kept) (decisions : List Lit) (S values : Set) → Grown lengths n held → Stands (lengths n) S values → IsTotalWalk (lits_of held) (lengths n).ending (lengths n).visible decisions → IsSeen (lits_of held) decisions (lengths n).visible S → all_true values (lits_of held) ≡ true
  own held decisions S values grown stands total set =
      let length = lengths n in
      let clauses = lits_of held in
      let calm = walk_calm clauses (lit_of length.ending ∷ []) length.visible decisions total.goes total.begins in
      ⊎_elim (λ (h : all_true values clauses ≡ true). h) (λ (first : FirstBlock lengths n held values).
      let past = lits_of first.before in
      let block = first.block in
      let calm_past = walk_calm past (lit_of length.ending ∷ []) length.visible first.decisions block.found.total.goes block.found.total.begins in
      let agrees = block_agrees length past first.one.lits first.decisions first.set values block first.true_before first.is_false in
      let decided : (lit : Lit) → In lit first.decisions → Up clauses decisions lit = λ lit i.
      ⊎_elim (λ l. ⊎_elim (λ (e : lit_of length.ending ≡ lit). subst (λ (k : Lit). Up clauses decisions k) e (up_start clauses decisions (lit_of length.ending) (walk_grows clauses (lit_of length.ending ∷ []) length.visible decisions total.goes (lit_of length.ending) (inl refl)))) (λ m. absurd m) l) (λ (w : (v : ℕ) × In v length.visible × (no_lit v ≡ lit)).
      let up : Up past first.decisions (no_lit w.0) = up_start past first.decisions (no_lit w.0) (subst (λ (k : Lit). In k first.decisions) (sym w.2) i) in
      let f : values w.0 ≡ false = agrees w.0 w.1 ∙ false_seen past first.decisions first.set w.0 calm_past (block.found.set.derived w.0 w.1) up in
      subst (λ (k : Lit). Up clauses decisions k) w.2 (⊎_elim (λ (y : Up clauses decisions (lit_of w.0)). absurd (false≢true (sym f ∙ (seen_same lengths n S values laid stands w.0 w.1 ∙ set.whole w.0 w.1 y)))) (λ m. m) (walk_values clauses (lit_of length.ending ∷ []) length.visible decisions total.goes w.0 w.1))) (walk_decides past (lit_of length.ending ∷ []) length.visible first.decisions block.found.total.goes lit i) in
      let negated : (lit : Lit) → In lit first.one.lits → Up clauses decisions (negate lit) = λ lit i.
      up_grows past clauses first.decisions decisions (clauses_before held first.before first.rest first.one first.whole) decided (negate lit) (block.negated lit i) in
      absurd (calm (inr (first.one.lits, clause_there held first.before first.rest first.one first.whole, negated)))) (right lengths n S values laid stands held grown)

  -- a stable set makes all held clauses true, or all before the blocking clause of its own walk
  pub held_are_right : (held : List Kept) (S values : Set) → Grown lengths n held → Stands (lengths n) S values → (all_true values (lits_of held) ≡ true) ⊎ ((first : FirstBlock lengths n held values) × Agree (lengths n).visible S first.set)
  held_are_right held S values grown stands =
      ⊎_elim (λ h. inl h) (λ (first : FirstBlock lengths n held values). inr (first, agree_from (lengths n).visible S first.set (λ v i. sym (seen_same lengths n S values laid stands v i) ∙ block_agrees (lengths n) (lits_of first.before) first.one.lits first.decisions first.set values first.block first.true_before first.is_false v i))) (right lengths n S values laid stands held grown)

  -- another stable set that makes all held clauses true is not before it
  pub after_walk : (held : List Kept) (decisions : List Lit) (S R others : Set) → Stands (lengths n) R others → IsTotalWalk (lits_of held) (lengths n).ending (lengths n).visible decisions → IsSeen (lits_of held) decisions (lengths n).visible S → all_true others (lits_of held) ≡ true → UpTo (lengths n).visible S R
  after_walk held decisions S R others stands total set h =
      let length = lengths n in
      let calm = walk_calm (lits_of held) (lit_of length.ending ∷ []) length.visible decisions total.goes total.begins in
      up_to_same length.visible S others S R (λ v i. refl) (seen_same lengths n R others laid stands) (walk_first (lits_of held) (lit_of length.ending ∷ []) length.visible decisions S others total.goes calm set.derived set.whole h (and_from (others length.ending) true (ending_true lengths n R others laid stands) refl))

  pub blocks_later : (before : List Kept) (clause : Clause) (decisions : List Lit) (S values R others : Set) → Grown lengths n before → Stands (lengths n) S values → IsBlock (lengths n) (lits_of before) clause decisions S → Stands (lengths n) R others → clause_true others clause ≡ false → UpTo (lengths n).visible R S
  blocks_later before clause decisions S values R others grown stands block other f =
      let length = lengths n in
      ⊎_elim (λ (h : all_true others (lits_of before) ≡ true).
      inl (agree_from length.visible R S (λ v i. sym (seen_same lengths n R others laid other v i) ∙ block_agrees length (lits_of before) clause decisions S others block h f v i))) (λ (found : (first : FirstBlock lengths n before others) × Agree length.visible R first.set).
      let first = found.0 in
      let h = all_before values before first.before first.rest first.one first.whole (own before decisions S values grown stands block.found.total block.found.set) in
      up_to_same length.visible first.set S R S (λ v i. sym (agree_at length.visible R first.set found.1 v i)) (λ v i. refl) (after_walk first.before first.decisions first.set S values stands first.block.found.total first.block.found.set h)) (held_are_right before R others grown other)

  pub sets_rise : (held before rest : List Kept) (one : Kept) (decisions past : List Lit) (S values set : Set) → Grown lengths n held → Stands (lengths n) S values → IsTotalWalk (lits_of held) (lengths n).ending (lengths n).visible decisions → IsSeen (lits_of held) decisions (lengths n).visible S → held ≡ before ++ one ∷ rest → IsBlock (lengths n) (lits_of before) one.lits past set → Before (lengths n).visible set S
  sets_rise held before rest one decisions past S values set grown stands total seen whole block =
      let length = lengths n in
      let h = own held decisions S values grown stands total seen in
      let earlier = all_before values held before rest one whole h in
      let there = In-list_all (clause_true values) one.lits (lits_of held) h (clause_there held before rest one whole) in
      ⊎_elim (λ (same : Agree length.visible set S). absurd (false≢true (sym (blocked length (lits_of before) one.lits past set values block earlier (ending_true lengths n S values laid stands) (λ v i. seen_same lengths n S values laid stands v i ∙ sym (agree_at length.visible set S same v i))) ∙ there))) (λ b. b) (after_walk before past set S values stands block.found.total block.found.set earlier)

  pub blocked_own : (before : List Kept) (clause : Clause) (decisions : List Lit) (S values : Set) → Grown lengths n before → Stands (lengths n) S values → IsBlock (lengths n) (lits_of before) clause decisions S → clause_true values clause ≡ false
  blocked_own before clause decisions S values grown stands block =
      blocked (lengths n) (lits_of before) clause decisions S values block (own before decisions S values grown stands block.found.total block.found.set) (ending_true lengths n S values laid stands) (seen_same lengths n S values laid stands)

  pub blocks_are_right : (before : List Kept) (clause : Clause) (decisions : List Lit) (S values : Set) → Grown lengths n before → Stands (lengths n) S values → IsBlock (lengths n) (lits_of before) clause decisions S → (clause_true values clause ≡ false) × ((R others : Set) → Stands (lengths n) R others → Before (lengths n).visible S R → clause_true others clause ≡ true)
  blocks_are_right before clause decisions S values grown stands block =
      (blocked_own before clause decisions S values grown stands block, λ R others other after. ⊎_elim (λ (t : clause_true others clause ≡ true). t) (λ (f : clause_true others clause ≡ false). absurd (order_strict (lengths n).visible S R after (blocks_later before clause decisions S values R others grown stands block other f))) (cases_Bool (clause_true others clause)))

  pub learnt_are_right : (before : List Kept) (one : Kept) (S values : Set) → Grown lengths n before → Stands (lengths n) S values → Origin lengths before one → one.kind ≡ kinds.Learnt → ((block : Kept) → In block before → block.kind ≡ kinds.Block → block.length ≡ n → clause_true values block.lits ≡ true) → clause_true values one.lits ≡ true
  learnt_are_right before one S values grown stands origin is free =
      ⊎_elim (λ (h : all_true values (lits_of before) ≡ true).
      ⊎_elim (λ (t : clause_true values one.lits ≡ true). t) (λ (f : clause_true values one.lits ≡ false).
      let clash : Conflict (lits_of before) (negations one.lits) = subst (λ (k : ClauseKind). OriginBy lengths (lits_of before) k one.length one.lits) is origin in
      absurd (no_conflict values (lits_of before) (negations one.lits) h (negations_true values one.lits f) clash)) (cases_Bool (clause_true values one.lits))) (λ (first : FirstBlock lengths n before values).
      let there : In first.one before = subst (λ (hs : List Kept). In first.one hs) (sym first.whole) (In-append_right first.one first.before (first.one ∷ first.rest) (inl refl)) in
      absurd (false≢true (sym first.is_false ∙ free first.one there first.kind first.of_length))) (right lengths n S values laid stands before grown)

pub grown_more : (lengths : ℕ → Length) (n m : ℕ) (held : List Kept) → n ≤ m → Grown lengths n held → Grown lengths m held
grown_more lengths n m held l (none _ empty) = none held empty
grown_more lengths n m held l (added _ before one whole grown some short origin) = added held before one whole (grown_more lengths n m before l grown) some (omega (arith, l, short)) origin

-- the origin of a held clause
pub record From (lengths : ℕ → Length) (n : ℕ) (one : Kept) : Type 0 where
  pub before : List Kept
  pub some : 0 < one.length
  pub short : one.length ≤ n
  pub origin : Origin lengths before one

pub grown_from : (lengths : ℕ → Length) (n : ℕ) (held : List Kept) (one : Kept) → Grown lengths n held → In one held → From lengths n one
grown_from lengths n held one (none _ empty) i = absurd (subst (λ (hs : List Kept). In one hs) empty i)
grown_from lengths n held one (added _ before last whole grown some short origin) i =
    ⊎_elim (λ l. grown_from lengths n before one grown l) (λ r. ⊎_elim (λ (e : last ≡ one). subst (λ (h : Kept). From lengths n h) e (record { before = before; some = some; short = short; origin = origin })) (λ m. absurd m) r) (In-append_cases one before (last ∷ []) (subst (λ (hs : List Kept). In one hs) whole i))

pub kept_are_right : (lengths : ℕ → Length) (n k : ℕ) (held : List Kept) (S values : Set) → AreComposed lengths n → Grown lengths k held → k < n → Stands (lengths n) S values → all_true values (lits_of held) ≡ true
kept_are_right lengths n k held S values laid grown l stands =
    ⊎_elim (λ h. h) (λ (first : FirstBlock lengths n held values).
    let from = grown_from lengths k held first.one grown (subst (λ (hs : List Kept). In first.one hs) (sym first.whole) (In-append_right first.one first.before (first.one ∷ first.rest) (inl refl))) in
    absurd (omega (arith, from.short, first.of_length, l))) (right lengths n S values laid stands held (grown_more lengths k n held (omega (arith, l)) grown))

pub modules_and_loops : (lengths : ℕ → Length) (n : ℕ) (held : List Kept) (one : Kept) (S values : Set) → AreComposed lengths n → Grown lengths n held → Stands (lengths n) S values → In one held → (one.kind ≡ kinds.Module) ⊎ (one.kind ≡ kinds.Loop) → clause_true values one.lits ≡ true
modules_and_loops lengths n held one S values laid grown stands i kind =
    let from = grown_from lengths n held one grown i in
    let as_kind : (k : ClauseKind) → one.kind ≡ k → OriginBy lengths (lits_of from.before) k one.length one.lits = λ k is. subst (λ (x : ClauseKind). OriginBy lengths (lits_of from.before) x one.length one.lits) is from.origin in
    ⊎_elim (λ (m : one.kind ≡ kinds.Module). laid.completed S values stands one.length from.some from.short one.lits (as_kind kinds.Module m)) (λ (l : one.kind ≡ kinds.Loop).
    let o : OriginBy lengths (lits_of from.before) kinds.Loop one.length one.lits = as_kind kinds.Loop l in
    loop_true lengths n S values laid stands one.length from.some from.short o.0 o.1 one.lits o.2) kind
