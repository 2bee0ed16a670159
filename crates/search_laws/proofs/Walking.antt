-- The walk: what it has, and that its set is the first.
use Rattle.std.proofs.Common.{◌≡◌, ℕ, true, false, not, List, [], ◌∷◌, refl, sym, subst, ◌∙◌, ◌⊎◌, inl, inr, ⊎_elim}
use Rattle.std.specs.List.{list_all}
use Rattle.std.proofs.lemmas.Bool.{and_from, cases_Bool, not_from_false, not-true}
use Rattle.tel_base.specs.declared.literals.Lit.{Lit}
use Rattle.tel_base.specs.Literals.{lit_of}
use Rattle.tel_base.specs.Members.{In}
use Rattle.normal_program.specs.ModuleClauses.{no_lit}
use Rattle.normal_program.specs.StableSets.{Set}
use Rattle.clause_store.specs.Closure.{Clause, Up, Conflict}
use Rattle.clause_store.proofs.Closures.{up_start, up_grows}
use Rattle.completion.specs.Completions.{lit_true}
use Rattle.search_laws.specs.Walks.{HasValue, WalksOn, Before, Agree}
use Rattle.search_laws.specs.Laws.{all_true}
use Rattle.search_laws.proofs.Truths.{up_true}

-- the two ways on, by name
pub walk_cases : (clauses : List Clause) (start : List Lit) (v : ℕ) (seen : List ℕ) (decisions : List Lit) (P : Type 0) → WalksOn clauses start (v ∷ seen) decisions → (HasValue clauses start v → WalksOn clauses start seen decisions → P) → ((HasValue clauses start v → ⊥) → (Conflict clauses (no_lit v ∷ start) → ⊥) → WalksOn clauses (no_lit v ∷ start) seen decisions → P) → P
walk_cases clauses start v seen decisions P walk old made =
    ⊎_elim (λ (p : HasValue clauses start v × WalksOn clauses start seen decisions). old p.0 p.1) (λ (p : (HasValue clauses start v → ⊥) × (Conflict clauses (no_lit v ∷ start) → ⊥) × WalksOn clauses (no_lit v ∷ start) seen decisions). made p.0 p.1 p.2) walk

pub walk_grows : (clauses : List Clause) (start : List Lit) (seen : List ℕ) (decisions : List Lit) → WalksOn clauses start seen decisions → (lit : Lit) → In lit start → In lit decisions
walk_grows clauses start [] decisions walk lit i = subst (λ ls. In lit ls) walk i
walk_grows clauses start (v ∷ seen) decisions walk lit i =
    walk_cases clauses start v seen decisions (In lit decisions) walk (λ value rest. walk_grows clauses start seen decisions rest lit i) (λ free calm rest. walk_grows clauses (no_lit v ∷ start) seen decisions rest lit (inr i))

pub walk_calm : (clauses : List Clause) (start : List Lit) (seen : List ℕ) (decisions : List Lit) → WalksOn clauses start seen decisions → (Conflict clauses start → ⊥) → Conflict clauses decisions → ⊥
walk_calm clauses start [] decisions walk calm clash = calm (subst (λ ls. Conflict clauses ls) (sym walk) clash)
walk_calm clauses start (v ∷ seen) decisions walk calm clash =
    walk_cases clauses start v seen decisions ⊥ walk (λ value rest. walk_calm clauses start seen decisions rest calm clash) (λ free calm_on rest. walk_calm clauses (no_lit v ∷ start) seen decisions rest calm_on clash)

-- what the closure had at some point it has at the end
pub walk_keeps : (clauses : List Clause) (start : List Lit) (seen : List ℕ) (decisions : List Lit) → WalksOn clauses start seen decisions → (lit : Lit) → Up clauses start lit → Up clauses decisions lit
walk_keeps clauses start seen decisions walk lit up =
    up_grows clauses clauses start decisions (λ c k. k) (λ l i. up_start clauses decisions l (walk_grows clauses start seen decisions walk l i)) lit up

pub walk_values : (clauses : List Clause) (start : List Lit) (seen : List ℕ) (decisions : List Lit) → WalksOn clauses start seen decisions → (v : ℕ) → In v seen → HasValue clauses decisions v
walk_values clauses start [] decisions walk v i = absurd i
walk_values clauses start (u ∷ seen) decisions walk v i =
    walk_cases clauses start u seen decisions (HasValue clauses decisions v) walk (λ value rest.
    ⊎_elim (λ (e : u ≡ v). subst (λ w. HasValue clauses decisions w) e (⊎_elim (λ y. inl (walk_keeps clauses start seen decisions rest (lit_of u) y)) (λ n. inr (walk_keeps clauses start seen decisions rest (no_lit u) n)) value)) (λ m. walk_values clauses start seen decisions rest v m) i) (λ free calm rest.
    ⊎_elim (λ (e : u ≡ v). subst (λ w. HasValue clauses decisions w) e (inr (up_start clauses decisions (no_lit u) (walk_grows clauses (no_lit u ∷ start) seen decisions rest (no_lit u) (inl refl))))) (λ m. walk_values clauses (no_lit u ∷ start) seen decisions rest v m) i)

-- a decision is one that was there, or makes a variable false
pub walk_decides : (clauses : List Clause) (start : List Lit) (seen : List ℕ) (decisions : List Lit) → WalksOn clauses start seen decisions → (lit : Lit) → In lit decisions → In lit start ⊎ ((v : ℕ) × In v seen × (no_lit v ≡ lit))
walk_decides clauses start [] decisions walk lit i = inl (subst (λ ls. In lit ls) (sym walk) i)
walk_decides clauses start (u ∷ seen) decisions walk lit i =
    walk_cases clauses start u seen decisions (In lit start ⊎ ((v : ℕ) × In v (u ∷ seen) × (no_lit v ≡ lit))) walk (λ value rest.
    ⊎_elim (λ l. inl l) (λ (w : (v : ℕ) × In v seen × (no_lit v ≡ lit)). inr (w.0, inr w.1, w.2)) (walk_decides clauses start seen decisions rest lit i)) (λ free calm rest.
    ⊎_elim (λ l. ⊎_elim (λ (e : no_lit u ≡ lit). inr (u, inl refl, e)) (λ m. inl m) l) (λ (w : (v : ℕ) × In v seen × (no_lit v ≡ lit)). inr (w.0, inr w.1, w.2)) (walk_decides clauses (no_lit u ∷ start) seen decisions rest lit i))

-- where the closure has the negation of a variable, the set of the walk doesn't have the variable
pub false_seen : (clauses : List Clause) (decisions : List Lit) (S : Set) (v : ℕ) → (Conflict clauses decisions → ⊥) → (S v ≡ true → Up clauses decisions (lit_of v)) → Up clauses decisions (no_lit v) → S v ≡ false
false_seen clauses decisions S v calm has none =
    ⊎_elim (λ (t : S v ≡ true). absurd (calm (inl (lit_of v, has t, none)))) (λ f. f) (cases_Bool (S v))

-- each set that makes all clauses true agrees with the set of a total walk, or comes after it
pub walk_first : (clauses : List Clause) (start : List Lit) (seen : List ℕ) (decisions : List Lit) (S R : Set) → WalksOn clauses start seen decisions → (Conflict clauses decisions → ⊥) → ((v : ℕ) → In v seen → S v ≡ true → Up clauses decisions (lit_of v)) → ((v : ℕ) → In v seen → Up clauses decisions (lit_of v) → S v ≡ true) → all_true R clauses ≡ true → list_all (lit_true R) start ≡ true → Agree seen S R ⊎ Before seen S R
walk_first clauses start [] decisions S R walk calm has gets h s = inl tt
walk_first clauses start (v ∷ seen) decisions S R walk calm has gets h s =
    let Goal : Type 0 = Agree (v ∷ seen) S R ⊎ Before (v ∷ seen) S R in
    let on : S v ≡ R v → (Agree seen S R ⊎ Before seen S R) → Goal = λ e. ⊎_elim (λ a. inl (e, a)) (λ b. inr (inr (e, b))) in
    walk_cases clauses start v seen decisions Goal walk (λ value rest.
    let same : S v ≡ R v = ⊎_elim (λ (y : Up clauses start (lit_of v)). gets v (inl refl) (walk_keeps clauses start seen decisions rest (lit_of v) y) ∙ sym (up_true R clauses start (lit_of v) h s y)) (λ (n : Up clauses start (no_lit v)).
    false_seen clauses decisions S v calm (has v (inl refl)) (walk_keeps clauses start seen decisions rest (no_lit v) n) ∙ sym (not-true (R v) (up_true R clauses start (no_lit v) h s n))) value in
    on same (walk_first clauses start seen decisions S R rest calm (λ u m. has u (inr m)) (λ u m. gets u (inr m)) h s)) (λ free calm_on rest.
    let none = up_start clauses decisions (no_lit v) (walk_grows clauses (no_lit v ∷ start) seen decisions rest (no_lit v) (inl refl)) in
    let f = false_seen clauses decisions S v calm (has v (inl refl)) none in
    ⊎_elim (λ (t : R v ≡ true). inr (inl (f, t))) (λ (u : R v ≡ false).
    on (f ∙ sym u) (walk_first clauses (no_lit v ∷ start) seen decisions S R rest calm (λ w m. has w (inr m)) (λ w m. gets w (inr m)) h (and_from (not (R v)) (list_all (lit_true R) start) (not_from_false (R v) u) s))) (cases_Bool (R v)))
