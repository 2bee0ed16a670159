-- Along the held clauses: each is true in a stable set, or is the first blocking clause that is false.
use Rattle.std.proofs.Common.{◌≡◌, ℕ, ◌≤◌, ◌<◌, true, false, List, [], ◌∷◌, ◌++◌, refl, sym, ap, subst, ◌∙◌, ◌⊎◌, inl, inr, ⊎_elim, arith}
use Rattle.std.specs.Prelude.{IsTrue, IsFalse}
use Rattle.std.proofs.lemmas.Bool.{cases_Bool, cases_order, not_from_false, not-true, false≢true}
use Rattle.tel_base.specs.declared.literals.Lit.{Lit}
use Rattle.tel_base.specs.Literals.{lit_of, negate, negations}
use Rattle.tel_base.proofs.Members.{In, In-list_all, list_all-from_In, In-append_left, In-append_right, In-append_cases, In-map, In-map_from, any_from}
use Rattle.normal_program.specs.ModuleClauses.{no_lit}
use Rattle.normal_program.specs.StableSets.{Set}
use Rattle.clause_store.specs.declared.store.ClauseKind.{ClauseKind}
use Rattle.clause_store.specs.declared.store.ClauseKind.TheVariants as kinds
use Rattle.clause_store.specs.Closure.{Clause, Up}
use Rattle.clause_store.proofs.Closures.{up_grows}
use Rattle.completion.specs.Completions.{lit_true, clause_true}
use Rattle.search_laws.specs.Walks.{Before, Agree, UpTo}
use Rattle.search_laws.specs.Lengths.{Length, Stands}
use Rattle.search_laws.specs.Origins.{Kept, lits_of, IsBlock, OriginBy, Origin, Grown, none, added}
use Rattle.search_laws.specs.Laws.{AreComposed, all_true}
use Rattle.search_laws.proofs.Truths.{up_true, no_conflict, negations_true}
use Rattle.search_laws.proofs.Walking.{walk_calm, false_seen}
use Rattle.search_laws.proofs.Loops.{own_end, other_end, loop_true}

pub append_more : (xs ys zs : List Kept) → ((xs ++ ys) ++ zs) ≡ (xs ++ (ys ++ zs))
append_more [] ys zs = refl
append_more (x ∷ xs) ys zs = ap (λ (l : List Kept). x ∷ l) (append_more xs ys zs)

-- the clauses before are among those held
pub clauses_before : (held before rest : List Kept) (one : Kept) → held ≡ before ++ one ∷ rest → (clause : Clause) → In clause (lits_of before) → In clause (lits_of held)
clauses_before held before rest one whole clause i =
    let w = In-map_from (λ (h : Kept). h.lits) clause before i in
    subst (λ (c : Clause). In c (lits_of held)) w.2 (In-map (λ (h : Kept). h.lits) w.0 held (subst (λ (hs : List Kept). In w.0 hs) (sym whole) (In-append_left w.0 before (one ∷ rest) w.1)))

pub clause_there : (held before rest : List Kept) (one : Kept) → held ≡ before ++ one ∷ rest → In one.lits (lits_of held)
clause_there held before rest one whole =
    In-map (λ (h : Kept). h.lits) one held (subst (λ (hs : List Kept). In one hs) (sym whole) (In-append_right one before (one ∷ rest) (inl refl)))

-- a clause more
pub true_more : (values : Set) (before : List Kept) (one : Kept) → all_true values (lits_of before) ≡ true → clause_true values one.lits ≡ true → all_true values (lits_of (before ++ one ∷ [])) ≡ true
true_more values before one h t =
    list_all-from_In (clause_true values) (lits_of (before ++ one ∷ [])) (λ clause i.
    let w = In-map_from (λ (x : Kept). x.lits) clause (before ++ one ∷ []) i in
    subst (λ (c : Clause). clause_true values c ≡ true) w.2 (⊎_elim (λ l. In-list_all (clause_true values) w.0.lits (lits_of before) h (In-map (λ (x : Kept). x.lits) w.0 before l)) (λ r. ⊎_elim (λ (e : one ≡ w.0). subst (λ (x : Kept). clause_true values x.lits ≡ true) e t) (λ m. absurd m) r) (In-append_cases w.0 before (one ∷ []) w.1)))

-- a clause is true that has the negation of a false variable
met : (values : Set) (v : ℕ) (clause : Clause) → In (no_lit v) clause → values v ≡ false → clause_true values clause ≡ true
met values v clause i f = any_from (lit_true values) clause (no_lit v) i (not_from_false (values v) f)

-- the first held clause that is false is a blocking clause of the length n
pub record FirstBlock (lengths : ℕ → Length) (n : ℕ) (held : List Kept) (values : Set) : Type 0 where
  pub before : List Kept
  pub one : Kept
  pub rest : List Kept
  pub whole : held ≡ before ++ one ∷ rest
  pub grown : Grown lengths n before
  pub of_length : one.length ≡ n
  pub kind : one.kind ≡ kinds.Block
  pub decisions : List Lit
  pub set : Set
  pub block : IsBlock (lengths n) (lits_of before) one.lits decisions set
  pub true_before : IsTrue (all_true values (lits_of before))
  pub is_false : IsFalse (clause_true values one.lits)

module _ (lengths : ℕ → Length) (n : ℕ) (S values : Set) (laid : AreComposed lengths n) (stands : Stands (lengths n) S values) where
  pub ending_true : values (lengths n).ending ≡ true
  ending_true = stands.valued.same (lengths n).ending (laid.plain_end n laid.some (omega arith)) ∙ own_end (lengths n) S stands.stable

  pub seen_same : (v : ℕ) → In v (lengths n).visible → values v ≡ S v
  seen_same v i = stands.valued.same v (laid.plain_heads n v laid.some (omega arith) (laid.visible_heads v i))

  -- a clause that is false where all before are true is a blocking clause of this length
  pub false_blocks : (before : List Kept) (one : Kept) → all_true values (lits_of before) ≡ true → 0 < one.length → one.length ≤ n → Origin lengths before one → clause_true values one.lits ≡ false → (one.length ≡ n) × (one.kind ≡ kinds.Block)
  false_blocks before one h some short origin f =
      (elim (one.kind) as (λ (k : ClauseKind). one.kind ≡ k → OriginBy lengths (lits_of before) k one.length one.lits → (one.length ≡ n) × (one.kind ≡ kinds.Block)) [
        | kinds.Module ↦ λ is o. absurd (false≢true (sym f ∙ laid.completed S values stands one.length some short one.lits o))
        | kinds.Loop ↦ λ is o. absurd (false≢true (sym f ∙ loop_true lengths n S values laid stands one.length some short o.0 o.1 one.lits o.2))
        | kinds.Learnt ↦ λ is o. absurd (no_conflict values (lits_of before) (negations one.lits) h (negations_true values one.lits f) o)
        | kinds.Block ↦ λ is o. (⊎_elim (λ (e : one.length ≡ n). e) (λ apart. ⊎_elim (λ (l : one.length < n). absurd (false≢true (sym f ∙ met values (lengths one.length).ending one.lits o.2.ended (stands.valued.same (lengths one.length).ending (laid.plain_end one.length some short) ∙ other_end lengths n laid S stands.stable one.length some l)))) (λ (l : n < one.length). absurd (omega (arith, l, short))) apart) (cases_order one.length n), is)
      ]) refl origin

  further : (before : List Kept) (one : Kept) → all_true values (lits_of before) ≡ true → Grown lengths n before → 0 < one.length → one.length ≤ n → Origin lengths before one → clause_true values one.lits ≡ false → FirstBlock lengths n (before ++ one ∷ []) values
  further before one h grown some short origin f =
      let is = false_blocks before one h some short origin f in
      let o : OriginBy lengths (lits_of before) kinds.Block one.length one.lits = subst (λ (k : ClauseKind). OriginBy lengths (lits_of before) k one.length one.lits) is.1 origin in
      record {
        before = before;
        one = one;
        rest = [];
        whole = refl;
        grown = grown;
        of_length = is.0;
        kind = is.1;
        decisions = o.0;
        set = o.1;
        block = subst (λ (k : ℕ). IsBlock (lengths k) (lits_of before) one.lits o.0 o.1) is.0 o.2;
        true_before = h;
        is_false = f;
      }

  -- all held clauses are true, or all before a blocking clause that is false
  pub right : (held : List Kept) → Grown lengths n held → (all_true values (lits_of held) ≡ true) ⊎ FirstBlock lengths n held values
  right held (none _ empty) = inl (subst (λ (hs : List Kept). all_true values (lits_of hs) ≡ true) (sym empty) refl)
  right held (added _ before one whole grown some short origin) =
      ⊎_elim (λ (h : all_true values (lits_of before) ≡ true).
      ⊎_elim (λ (t : clause_true values one.lits ≡ true). inl (subst (λ (hs : List Kept). all_true values (lits_of hs) ≡ true) (sym whole) (true_more values before one h t))) (λ (f : clause_true values one.lits ≡ false). inr (subst (λ (hs : List Kept). FirstBlock lengths n hs values) (sym whole) (further before one h grown some short origin f))) (cases_Bool (clause_true values one.lits))) (λ (first : FirstBlock lengths n before values).
      inr (record {
        before = first.before;
        one = first.one;
        rest = first.rest ++ one ∷ [];
        whole = whole ∙ (ap (λ (hs : List Kept). hs ++ one ∷ []) first.whole ∙ append_more first.before (first.one ∷ first.rest) (one ∷ []));
        grown = first.grown;
        of_length = first.of_length;
        kind = first.kind;
        decisions = first.decisions;
        set = first.set;
        block = first.block;
        true_before = first.true_before;
        is_false = first.is_false;
      })) (right before grown)

-- a set that makes the clauses before true and the blocking clause false is the set of its walk
pub block_agrees : (length : Length) (before : List Clause) (clause : Clause) (decisions : List Lit) (set values : Set) → IsBlock length before clause decisions set → all_true values before ≡ true → clause_true values clause ≡ false → (v : ℕ) → In v length.visible → values v ≡ set v
block_agrees length before clause decisions set values block h f v i =
    let negs = negations_true values clause f in
    let calm = walk_calm before (lit_of length.ending ∷ []) length.visible decisions block.found.total.goes block.found.total.begins in
    let within : (lit : Lit) → Up before (negations clause) lit → Up before decisions lit = up_grows before before (negations clause) decisions (λ c k. k) (λ l m. let w = In-map_from negate l clause m in subst (λ (k : Lit). Up before decisions k) w.2 (block.negated w.0 w.1)) in
    ⊎_elim (λ (y : Up before (negations clause) (lit_of v)). up_true values before (negations clause) (lit_of v) h negs y ∙ sym (block.found.set.whole v i (within (lit_of v) y))) (λ (m : Up before (negations clause) (no_lit v)).
    not-true (values v) (up_true values before (negations clause) (no_lit v) h negs m) ∙ sym (false_seen before decisions set v calm (block.found.set.derived v i) (within (no_lit v) m))) (block.valued v i)

-- ---- the order

pub agree_from : (seen : List ℕ) (S R : Set) → ((v : ℕ) → In v seen → S v ≡ R v) → Agree seen S R
agree_from [] S R h = tt
agree_from (v ∷ seen) S R h = (h v (inl refl), agree_from seen S R (λ u i. h u (inr i)))

pub agree_at : (seen : List ℕ) (S R : Set) → Agree seen S R → (v : ℕ) → In v seen → S v ≡ R v
agree_at [] S R h v i = absurd i
agree_at (u ∷ seen) S R h v i = ⊎_elim (λ (e : u ≡ v). subst (λ w. S w ≡ R w) e h.0) (λ m. agree_at seen S R h.1 v m) i

-- it speaks of the variables alone
pub up_to_same : (seen : List ℕ) (S R S2 R2 : Set) → ((v : ℕ) → In v seen → S v ≡ S2 v) → ((v : ℕ) → In v seen → R v ≡ R2 v) → UpTo seen S R → UpTo seen S2 R2
up_to_same [] S R S2 R2 s r h = inl tt
up_to_same (v ∷ seen) S R S2 R2 s r h =
    let a = s v (inl refl) in
    let b = r v (inl refl) in
    let on : S v ≡ R v → UpTo seen S R → UpTo (v ∷ seen) S2 R2 = λ e rest. ⊎_elim (λ (x : Agree seen S2 R2). inl (sym a ∙ (e ∙ b), x)) (λ (x : Before seen S2 R2). inr (inr (sym a ∙ (e ∙ b), x))) (up_to_same seen S R S2 R2 (λ u i. s u (inr i)) (λ u i. r u (inr i)) rest) in
    ⊎_elim (λ (g : (S v ≡ R v) × Agree seen S R). on g.0 (inl g.1)) (λ (g : ((S v ≡ false) × (R v ≡ true)) ⊎ ((S v ≡ R v) × Before seen S R)). ⊎_elim (λ (d : (S v ≡ false) × (R v ≡ true)). inr (inl (sym a ∙ d.0, sym b ∙ d.1))) (λ (d : (S v ≡ R v) × Before seen S R). on d.0 (inr d.1)) g) h

-- no set comes before one that isn't after it
pub order_strict : (seen : List ℕ) (S R : Set) → Before seen S R → UpTo seen R S → ⊥
order_strict [] S R b u = b
order_strict (v ∷ seen) S R b u =
    ⊎_elim (λ (d : (S v ≡ false) × (R v ≡ true)).
    ⊎_elim (λ (g : (R v ≡ S v) × Agree seen R S). false≢true (sym d.0 ∙ (sym g.0 ∙ d.1))) (λ (g : ((R v ≡ false) × (S v ≡ true)) ⊎ ((R v ≡ S v) × Before seen R S)).
    ⊎_elim (λ (e : (R v ≡ false) × (S v ≡ true)). false≢true (sym e.0 ∙ d.1)) (λ (e : (R v ≡ S v) × Before seen R S). false≢true (sym d.0 ∙ (sym e.0 ∙ d.1))) g) u) (λ (d : (S v ≡ R v) × Before seen S R).
    ⊎_elim (λ (g : (R v ≡ S v) × Agree seen R S). order_strict seen S R d.1 (inl g.1)) (λ (g : ((R v ≡ false) × (S v ≡ true)) ⊎ ((R v ≡ S v) × Before seen R S)).
    ⊎_elim (λ (e : (R v ≡ false) × (S v ≡ true)). false≢true (sym e.0 ∙ (sym d.0 ∙ e.1))) (λ (e : (R v ≡ S v) × Before seen R S). order_strict seen S R d.1 (inr e.1)) g) u) b
