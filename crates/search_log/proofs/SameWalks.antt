-- Over clauses that are alike the walk is the same: what it needs, what cuts it, and what it finds and blocks.
use Rattle.std.proofs.Common.{◌≡◌, ℕ, List, [], ◌∷◌, ◌⊎◌, inl, inr, ⊎_elim}
use Rattle.tel_base.specs.declared.literals.Lit.{Lit}
use Rattle.tel_base.specs.Literals.{lit_of, negate, negations}
use Rattle.clause_store.specs.Closure.{Clause, Up, Conflict}
use Rattle.normal_program.specs.ModuleClauses.{no_lit}
use Rattle.normal_program.specs.StableSets.{Set}
use Rattle.search_laws.specs.Walks.{HasValue, WalksOn, SticksOn, IsTotalWalk, IsStuckWalk}
use Rattle.search_laws.specs.Lengths.{Length}
use Rattle.search_laws.specs.Origins.{IsBlock}
use Rattle.search_laws.specs.Needed.{IsUnstable, Needed, IsNegated, IsCut}
use Rattle.search_log.specs.Alike.{IsAlike, AreAlike}
use Rattle.search_log.specs.ValidLogs.{IsCounted}
use Rattle.search_log.proofs.SameClauses.{alike_self, alike_back, all_alike_back, negations_alike, up_alike, conflict_alike, absorbed_alike}

module _ (clauses fellows : List Clause) (alike : AreAlike clauses fellows) where
  up_on : (start : List Lit) (lit : Lit) → Up clauses start lit → Up fellows start lit
  up_on start = up_alike clauses fellows alike start start (alike_self start)

  up_back : (start : List Lit) (lit : Lit) → Up fellows start lit → Up clauses start lit
  up_back start = up_alike fellows clauses (all_alike_back clauses fellows alike) start start (alike_self start)

  conflict_on : (start : List Lit) → Conflict clauses start → Conflict fellows start
  conflict_on start = conflict_alike clauses fellows alike start start (alike_self start)

  conflict_back : (start : List Lit) → Conflict fellows start → Conflict clauses start
  conflict_back start = conflict_alike fellows clauses (all_alike_back clauses fellows alike) start start (alike_self start)

  value_on : (start : List Lit) (v : ℕ) → HasValue clauses start v → HasValue fellows start v
  value_on start v value = ⊎_elim (λ y. inl (up_on start (lit_of v) y)) (λ n. inr (up_on start (no_lit v) n)) value

  value_back : (start : List Lit) (v : ℕ) → HasValue fellows start v → HasValue clauses start v
  value_back start v value = ⊎_elim (λ y. inl (up_back start (lit_of v) y)) (λ n. inr (up_back start (no_lit v) n)) value

  -- the walk goes the same way
  walks_on : (start : List Lit) (vars : List ℕ) (decisions : List Lit) → WalksOn clauses start vars decisions → WalksOn fellows start vars decisions
  walks_on start [] decisions walk = walk
  walks_on start (v ∷ vars) decisions walk =
      ⊎_elim
      (λ (p : HasValue clauses start v × WalksOn clauses start vars decisions). inl (value_on start v p.0, walks_on start vars decisions p.1))
      (λ (p : (HasValue clauses start v → ⊥) × (Conflict clauses (no_lit v ∷ start) → ⊥) × WalksOn clauses (no_lit v ∷ start) vars decisions).
      inr ((λ value. p.0 (value_back start v value)), (λ clash. p.1 (conflict_back (no_lit v ∷ start) clash)), walks_on (no_lit v ∷ start) vars decisions p.2))
      walk

  -- and is stuck at the same variable
  sticks_on : (start : List Lit) (vars : List ℕ) (decisions : List Lit) → SticksOn clauses start vars decisions → SticksOn fellows start vars decisions
  sticks_on start [] decisions stuck = stuck
  sticks_on start (v ∷ vars) decisions stuck =
      ⊎_elim
      (λ (p : HasValue clauses start v × SticksOn clauses start vars decisions). inl (value_on start v p.0, sticks_on start vars decisions p.1))
      (λ (p : (HasValue clauses start v → ⊥) × ((Conflict clauses (no_lit v ∷ start) × ((no_lit v ∷ start) ≡ decisions)) ⊎ ((Conflict clauses (no_lit v ∷ start) → ⊥) × SticksOn clauses (no_lit v ∷ start) vars decisions))).
      inr (
        (λ value. p.0 (value_back start v value)),
        ⊎_elim
            (λ (q : Conflict clauses (no_lit v ∷ start) × ((no_lit v ∷ start) ≡ decisions)). inl (conflict_on (no_lit v ∷ start) q.0, q.1))
            (λ (q : (Conflict clauses (no_lit v ∷ start) → ⊥) × SticksOn clauses (no_lit v ∷ start) vars decisions). inr ((λ clash. q.0 (conflict_back (no_lit v ∷ start) clash)), sticks_on (no_lit v ∷ start) vars decisions q.1))
            p.1,
      ))
      stuck

  total_on : (ending : ℕ) (vars : List ℕ) (decisions : List Lit) → IsTotalWalk clauses ending vars decisions → IsTotalWalk fellows ending vars decisions
  total_on ending vars decisions total = record { begins = λ clash. total.begins (conflict_back (lit_of ending ∷ []) clash); goes = walks_on (lit_of ending ∷ []) vars decisions total.goes }

  stuck_on : (ending : ℕ) (vars : List ℕ) (decisions : List Lit) → IsStuckWalk clauses ending vars decisions → IsStuckWalk fellows ending vars decisions
  stuck_on ending vars decisions stuck = record { begins = λ clash. stuck.begins (conflict_back (lit_of ending ∷ []) clash); goes = sticks_on (lit_of ending ∷ []) vars decisions stuck.goes }

  negated_on : (decisions : List Lit) (clause other : Clause) → IsAlike clause other → IsNegated clauses decisions clause → IsNegated fellows decisions other
  negated_on decisions clause other same negated lit i = up_on decisions (negate lit) (negated lit (same.from lit i))

  module _ (length : Length) where
    unstable_on : (decisions : List Lit) (S : Set) → IsUnstable length clauses decisions S → IsUnstable length fellows decisions S
    unstable_on decisions S unstable = record {
      total = total_on length.ending length.visible decisions unstable.total;
      set = record {
        own = unstable.set.own;
        derived = λ v is. up_on decisions (lit_of v) (unstable.set.derived v is);
        whole = λ v is up. unstable.set.whole v is (up_back decisions (lit_of v) up);
      };
      unstable = unstable.unstable;
    }

    pub needed_alike : Needed length clauses → Needed length fellows
    needed_alike needed =
        ⊎_elim
        (λ (w : (decisions : List Lit) × IsStuckWalk clauses length.ending length.visible decisions). inl (w.0, stuck_on length.ending length.visible w.0 w.1))
        (λ (w : (decisions : List Lit) × (S : Set) × IsUnstable length clauses decisions S). inr (w.0, w.1, unstable_on w.0 w.1 w.2))
        needed

    pub cut_alike : (clause other : Clause) → IsAlike clause other → IsCut length clauses clause → IsCut length fellows other
    cut_alike clause other same cut =
        ⊎_elim
        (λ (w : (decisions : List Lit) × IsStuckWalk clauses length.ending length.visible decisions × IsNegated clauses decisions clause). inl (w.0, stuck_on length.ending length.visible w.0 w.1, negated_on w.0 clause other same w.2))
        (λ (w : (decisions : List Lit) × (S : Set) × IsUnstable length clauses decisions S × IsNegated clauses decisions clause). inr (w.0, w.1, unstable_on w.0 w.1 w.2, negated_on w.0 clause other same w.3))
        cut

    pub counted_alike : (clause other : Clause) → IsAlike clause other → IsCounted length clauses clause → IsCounted length fellows other
    counted_alike clause other same counted = record {
      cut = cut_alike clause other same counted.cut;
      free = λ absorbed. counted.free (absorbed_alike fellows clauses (all_alike_back clauses fellows alike) other clause (alike_back clause other same) absorbed);
    }

    pub block_alike : (clause other : Clause) (decisions : List Lit) (S : Set) → IsAlike clause other → IsBlock length clauses clause decisions S → IsBlock length fellows other decisions S
    block_alike clause other decisions S same block = record {
      found = record {
        total = total_on length.ending length.visible decisions block.found.total;
        set = record {
          derived = λ v i is. up_on decisions (lit_of v) (block.found.set.derived v i is);
          whole = λ v i up. block.found.set.whole v i (up_back decisions (lit_of v) up);
        };
        stable = block.found.stable;
      };
      ended = same.into (no_lit length.ending) block.ended;
      negated = negated_on decisions clause other same block.negated;
      valued = λ v i.
          let begun = negations_alike clause other same in
          ⊎_elim (λ y. inl (up_alike clauses fellows alike (negations clause) (negations other) begun (lit_of v) y)) (λ n. inr (up_alike clauses fellows alike (negations clause) (negations other) begun (no_lit v) n)) (block.valued v i);
    }
