-- The decisions of one level more.
use Rattle.std.proofs.Common.{◌≡◌, ℕ, suc, ◌<◌, ◌≤◌, Bool, true, false, List, [], ◌∷◌, ◌++◌, reverse, refl, sym, ap, subst, ◌∙◌, inl, ⊎_elim, arith}
use Rattle.std.specs.Prelude.{Option, Some, None, ◌==◌, ◌&&◌, nat_lt, option_to_list, IsTrue}
use Rattle.std.specs.List.{list_all}
use Rattle.std.proofs.lemmas.Bool.{cases_Bool, and_right, eq-eqb, lt-ltb, ltb-true, cond-true, cond-false}
use Rattle.std.proofs.lemmas.List.{append-nil, append_assoc, map-append, reverse-append}
use Rattle.tel_base.specs.declared.literals.Lit.{Lit}
use Rattle.tel_base.specs.Literals.{negate, negations}
use Rattle.tel_base.proofs.Members.{In-list_all}
use Rattle.clause_store.specs.declared.store.ClauseId.{ClauseId}
use Rattle.lit_trail.specs.declared.assignment.Entry.{Entry}
use Rattle.lit_trail.specs.Entries.{back, top_level, decision_in, is_decided}
use Rattle.lit_trail.specs.Levels.{AreLevels, AreOpened}
use Rattle.lit_trail.proofs.LevelSteps.{not_lt, kept, dropped, order_of, passed, given, back_all, back_top, decision_above}
use Rattle.model_block.specs.Blocking.{decided_above}

skipped : (low : ℕ) (entry : Entry) (older : List Entry) → is_decided entry.reason && nat_lt low entry.level ≡ false → decided_above low (entry ∷ older) ≡ decided_above low older
skipped low entry older f = cond-false (is_decided entry.reason && nat_lt low entry.level) (entry.lit ∷ decided_above low older) (decided_above low older) f

-- no level above the last one
pub none_above : (entries : List Entry) (low top : ℕ) → AreLevels top entries → top ≤ low → decided_above low entries ≡ []
none_above [] low top levels l = refl
none_above (entry ∷ older) low top levels l =
    let a = levels.0 in
    skipped low entry older (ap (λ (b : Bool). is_decided entry.reason && b) (not_lt low entry.level (omega (arith, a, l))) ∙ and_right (is_decided entry.reason) false refl) ∙ none_above older low entry.level levels.1 (omega (arith, a, l))

top_below : (older : List Entry) (k : ℕ) → IsTrue (list_all (λ (e : Entry). nat_lt e.level (suc k)) older) → top_level older ≤ k
top_below [] k all = omega arith
top_below (e ∷ older) k all = let l = ltb-true e.level (suc k) (In-list_all (λ (e : Entry). nat_lt e.level (suc k)) e (e ∷ older) all (inl refl)) in omega (arith, l)

no_reason : (reason : Option ClauseId) → is_decided reason ≡ true → reason ≡ None
no_reason None t = refl
no_reason (Some id) t = absurd (cc)

-- the decision of a level stands before those of the levels below
pub one_level : (entries : List Entry) (low k top : ℕ) → low ≤ k → AreLevels top entries → AreOpened entries → decided_above low (back (suc k) entries) ≡ option_to_list (decision_in entries (suc k)) ++ decided_above low (back k entries)
one_level [] low k top l levels opened = refl
one_level (entry ∷ older) low k top l levels opened =
    let both : (o : Option Lit) (es : List Entry) → decision_in (entry ∷ older) (suc k) ≡ o → back k (entry ∷ older) ≡ es → option_to_list o ++ decided_above low es ≡ option_to_list (decision_in (entry ∷ older) (suc k)) ++ decided_above low (back k (entry ∷ older)) =
    λ o es d b. ap (λ (x : Option Lit). option_to_list x ++ decided_above low es) (sym d) ∙ ap (λ (x : List Entry). option_to_list (decision_in (entry ∷ older) (suc k)) ++ decided_above low x) (sym b) in
    ⊎_elim (λ (over : suc k < entry.level).
    ap (decided_above low) (dropped (suc k) entry older over) ∙ one_level older low k entry.level l levels.1 opened.1 ∙ both (decision_in older (suc k)) (back k older) (passed entry older (suc k) (λ e. absurd (omega (arith, e, over)))) (dropped k entry older (omega (arith, over)))) (λ (under : entry.level ≤ suc k).
    let whole = ap (decided_above low) (kept (suc k) entry older under) in
    ⊎_elim (λ (over : k < entry.level).
    let at : entry.level ≡ suc k = omega (arith, over, under) in
    ⊎_elim (λ (t : is_decided entry.reason ≡ true).
    let first : decided_above low (entry ∷ older) ≡ entry.lit ∷ decided_above low older = cond-true (is_decided entry.reason && nat_lt low entry.level) (entry.lit ∷ decided_above low older) (decided_above low older) (ap (λ (b : Bool). b && nat_lt low entry.level) t ∙ lt-ltb low entry.level (omega (arith, l, over))) in
    let decision : decision_in (entry ∷ older) (suc k) ≡ Some entry.lit = cond-true ((entry.level == suc k) && is_decided entry.reason) (Some entry.lit) (decision_in older (suc k)) (ap (λ (b : Bool). b && is_decided entry.reason) (eq-eqb entry.level (suc k) at) ∙ t) in
    let below = opened.0 (no_reason entry.reason t) in
    let lower : back k (entry ∷ older) ≡ older = dropped k entry older over ∙ back_top older k (top_below older k (subst (λ (n : ℕ). IsTrue (list_all (λ (e : Entry). nat_lt e.level n) older)) at below.1)) in
    whole ∙ first ∙ both (Some entry.lit) older decision lower) (λ (f : is_decided entry.reason ≡ false).
    let rest : decided_above low older ≡ decided_above low (back (suc k) older) = ap (decided_above low) (sym (back_all older entry.level (suc k) levels.1 under)) in
    whole ∙ skipped low entry older (ap (λ (b : Bool). b && nat_lt low entry.level) f) ∙ rest ∙ one_level older low k entry.level l levels.1 opened.1 ∙ both (decision_in older (suc k)) (back k older) (given entry older (suc k) f) (dropped k entry older over)) (cases_Bool (is_decided entry.reason))) (λ (low_level : entry.level ≤ k).
    whole ∙ both None (entry ∷ older) (decision_above (entry ∷ older) k (suc k) (low_level, levels.1) (omega arith)) (kept k entry older low_level)) (order_of k entry)) (order_of (suc k) entry)

-- its negation comes behind those of the levels below
pub push_decision : (lits : List Lit) (decision : Option Lit) (lower : List Lit) → lits ++ negations (reverse (option_to_list decision ++ lower)) ≡ lits ++ negations (reverse lower) ++ negations (option_to_list decision)
push_decision lits None lower = sym (append-nil (lits ++ negations (reverse lower)))
push_decision lits (Some lit) lower =
    ap (λ (x : List Lit). lits ++ negations x) (reverse-append (lit ∷ []) lower) ∙ ap (λ (x : List Lit). lits ++ x) (map-append negate (reverse lower) (lit ∷ [])) ∙ sym (append_assoc lits (negations (reverse lower)) (negate lit ∷ []))
