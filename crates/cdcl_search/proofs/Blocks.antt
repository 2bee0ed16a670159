-- The clause that blocks a walk has the negations of its decisions.
use Rattle.std.proofs.Common.{◌≡◌, ℕ, Bool, true, false, cond, not, ◌&&◌, List, [], ◌∷◌, ◌++◌, reverse, refl, sym, ap, subst, ◌∙◌, ◌⊎◌, inl, inr, ⊎_elim, arith}
use Rattle.std.specs.Prelude.{Option, Some, None, nat_lt, ◌==◌}
use Rattle.std.specs.List.{list_all}
use Rattle.std.proofs.lemmas.Bool.{and_from, cond-true, cond-false, ltb-true, ltb-false, eq-eqb, false≢true, cases_Bool}
use Rattle.std.proofs.lemmas.List.{map-append, reverse-append}
use Rattle.tel_base.specs.declared.literals.Lit.{Lit}
use Rattle.tel_base.specs.Literals.{negate, negations}
use Rattle.tel_base.proofs.Members.{In, In-append_left, In-append_right, In-map}
use Rattle.clause_store.specs.declared.store.ClauseId.{ClauseId}
use Rattle.clause_store.specs.Closure.{Clause, Up}
use Rattle.clause_store.proofs.Closures.{up_start, up_grows}
use Rattle.lit_trail.specs.declared.assignment.Entry.{Entry}
use Rattle.lit_trail.specs.Entries.{is_decided, decision_in}
use Rattle.lit_trail.specs.Levels.{AreLevels, AreOpened}
use Rattle.lit_trail.specs.Sound.{decided_lits}
use Rattle.lit_trail.proofs.LevelSteps.{passed, given, decision_above}
use Rattle.model_block.specs.Blocking.{decided_above, block_of}
use Rattle.search_laws.proofs.TrailLevels.{below_all}

-- ---- the decisions above a level

above_one : (low : ℕ) (entry : Entry) (older : List Entry) → (is_decided entry.reason && nat_lt low entry.level) ≡ true → decided_above low (entry ∷ older) ≡ entry.lit ∷ decided_above low older
above_one low entry older t = cond-true (is_decided entry.reason && nat_lt low entry.level) (entry.lit ∷ decided_above low older) (decided_above low older) t

above_skip : (low : ℕ) (entry : Entry) (older : List Entry) → (is_decided entry.reason && nat_lt low entry.level) ≡ false → decided_above low (entry ∷ older) ≡ decided_above low older
above_skip low entry older f = cond-false (is_decided entry.reason && nat_lt low entry.level) (entry.lit ∷ decided_above low older) (decided_above low older) f

above_more : (low : ℕ) (entry : Entry) (older : List Entry) (lit : Lit) → In lit (decided_above low older) → In lit (decided_above low (entry ∷ older))
above_more low entry older lit i =
    (elim (is_decided entry.reason && nat_lt low entry.level) as (λ (b : Bool). In lit (cond b (entry.lit ∷ decided_above low older) (decided_above low older))) [ true ↦ inr i | false ↦ i ])

decided_none : (reason : Option ClauseId) → is_decided reason ≡ true → reason ≡ None
decided_none None h = refl
decided_none (Some id) h = absurd (false≢true h)

-- each decision is that of level 1, or above it
pub decided_from : (top : ℕ) (entries : List Entry) (lit : Lit) → AreLevels top entries → AreOpened entries → In lit (decided_lits entries) → (decision_in entries 1 ≡ Some lit) ⊎ In lit (decided_above 1 entries)
decided_from top [] lit levels opened i = absurd i
decided_from top (entry ∷ older) lit levels opened i =
    let Goal : Type 0 = (decision_in (entry ∷ older) 1 ≡ Some lit) ⊎ In lit (decided_above 1 (entry ∷ older)) in
    let later : In lit (decided_lits older) → (decision_in (entry ∷ older) 1 ≡ decision_in older 1) → Goal = λ j same. ⊎_elim (λ e. inl (same ∙ e)) (λ m. inr (above_more 1 entry older lit m)) (decided_from entry.level older lit levels.1 opened.1 j) in
    ⊎_elim
    (λ (d : is_decided entry.reason ≡ true).
    let first = opened.0 (decided_none entry.reason d) in
    let here : In lit (entry.lit ∷ decided_lits older) = subst (λ (ls : List Lit). In lit ls) (cond-true (is_decided entry.reason) (entry.lit ∷ decided_lits older) (decided_lits older) d) i in
    ⊎_elim
    (λ (high : nat_lt 1 entry.level ≡ true).
    ⊎_elim
    (λ (e : entry.lit ≡ lit). inr (subst (λ (ls : List Lit). In lit ls) (sym (above_one 1 entry older (and_from (is_decided entry.reason) (nat_lt 1 entry.level) d high))) (inl e)))
    (λ j. later j (passed entry older 1 (λ same. let l = ltb-true 1 entry.level high in absurd (omega (arith, same, l)))))
    here)
    (λ (low : nat_lt 1 entry.level ≡ false).
    let under = ltb-false 1 entry.level low in
    let above = first.0 in
    let one : entry.level ≡ 1 = omega (arith, under, above) in
    ⊎_elim
    (λ (e : entry.lit ≡ lit). inl (cond-true ((entry.level == 1) && is_decided entry.reason) (Some entry.lit) (decision_in older 1) (and_from (entry.level == 1) (is_decided entry.reason) (eq-eqb entry.level 1 one) d) ∙ ap Some e))
    (λ j.
    let lower : AreLevels 0 older = below_all older entry.level 0 levels.1 (subst (λ (l : ℕ). list_all (λ (e : Entry). nat_lt e.level l) older ≡ true) one first.1) in
    ⊎_elim
    (λ (is : decision_in older 1 ≡ Some lit). absurd (let e = sym (decision_above older 0 1 lower (omega arith)) ∙ is in cc))
    (λ m. inr (above_more 1 entry older lit m))
    (decided_from entry.level older lit levels.1 opened.1 j))
    here)
    (cases_Bool (nat_lt 1 entry.level)))
    (λ (n : is_decided entry.reason ≡ false).
    later (subst (λ (ls : List Lit). In lit ls) (cond-false (is_decided entry.reason) (entry.lit ∷ decided_lits older) (decided_lits older) n) i) (given entry older 1 n))
    (cases_Bool (is_decided entry.reason))

-- ---- the clause

-- the negations of decisions, the first one first
abbrev raised : List Lit → Clause
raised lits = negations (reverse lits)

raised_push : (lit : Lit) (lits : List Lit) → raised (lit ∷ lits) ≡ raised lits ++ negate lit ∷ []
raised_push lit lits = ap negations (reverse-append (lit ∷ []) lits) ∙ map-append negate (reverse lits) (lit ∷ [])

in_raised : (lits : List Lit) (lit : Lit) → In lit lits → In (negate lit) (raised lits)
in_raised [] lit i = absurd i
in_raised (first ∷ lits) lit i =
    subst (λ (ls : List Lit). In (negate lit) ls) (sym (raised_push first lits))
    (⊎_elim (λ (e : first ≡ lit). In-append_right (negate lit) (raised lits) (negate first ∷ []) (inl (ap negate e))) (λ m. In-append_left (negate lit) (raised lits) (negate first ∷ []) (in_raised lits lit m)) i)

twice : (lit : Lit) → negate (negate lit) ≡ lit
twice lit = (elim (lit.positive) as (λ (b : Bool). record { var = lit.var; positive = not (not b) } ≡ record { var = lit.var; positive = b }) [ true ↦ refl | false ↦ refl ])

-- what the decisions derive, the negations of the clause derive
pub block_derives : (clauses : List Clause) (top : ℕ) (entries : List Entry) (end lit : Lit) → AreLevels top entries → AreOpened entries → ((first : Lit) → decision_in entries 1 ≡ Some first → end ≡ first) → Up clauses (decided_lits entries) lit → Up clauses (negations (block_of entries end)) lit
block_derives clauses top entries end lit levels opened first up =
    let clause = block_of entries end in
    let negated : (k d : Lit) → In k clause → negate k ≡ d → Up clauses (negations clause) d = λ k d i e. up_start clauses (negations clause) d (subst (λ (l : Lit). In l (negations clause)) e (In-map negate k clause i)) in
    up_grows clauses clauses (decided_lits entries) (negations clause) (λ c i. i) (λ d i.
    ⊎_elim
    (λ is. negated (negate end) d (In-append_right (negate end) (raised (decided_above 1 entries)) (negate end ∷ []) (inl refl)) (twice end ∙ first d is))
    (λ m. negated (negate d) d (In-append_left (negate d) (raised (decided_above 1 entries)) (negate end ∷ []) (in_raised (decided_above 1 entries) d m)) (twice d))
    (decided_from top entries d levels opened i)) lit up
