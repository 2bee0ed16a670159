-- Loop clauses and blocking clauses are clauses that are false under their trail.
use Rattle.std.proofs.Common.{◌≡◌, ℕ, suc, ◌<◌, Bool, true, false, not, List, [], ◌∷◌, ◌++◌, map, reverse, length, refl, sym, ap, subst, ◌∙◌, inl, inr, ⊎_elim, arith}
use Rattle.std.specs.Prelude.{Option, Some, None, ◌==◌, ◌&&◌, nat_lt}
use Rattle.std.specs.List.{list_all}
use Rattle.std.proofs.lemmas.Bool.{cases_Bool, and_parts, and_from, ltb-true, lt-ltb, eq-eqb, ne_eqb, not_from_false, cond-true, cond-false, false≢true}
use Rattle.std.proofs.lemmas.List.{reverse-append}
use Rattle.tel_base.specs.declared.literals.Lit.{Lit}
use Rattle.tel_base.specs.Literals.{negate, negations}
use Rattle.tel_base.proofs.Members.{In-list_all, list_all-from_In, In-map, In-map_from, In-append_cases, In-append_right}
use Rattle.normal_program.specs.Grounds.{Layers}
use Rattle.clause_store.specs.Held.{lacks, are_distinct}
use Rattle.clause_store.specs.Closure.{In, Clause, refutes}
use Rattle.lit_trail.specs.declared.assignment.Entry.{Entry}
use Rattle.lit_trail.specs.Entries.{View, value_in, level_in, is_decided, back, Apart}
use Rattle.lit_trail.specs.Levels.{AreLevels, AreWithin, AreOrdered}
use Rattle.lit_trail.specs.Sound.{holds}
use Rattle.lit_trail.proofs.LevelSteps.{back_levels}
use Rattle.lit_trail.proofs.Ordered.{of_back}
use Rattle.lit_trail.proofs.Values.{held_entry, entry_holds}
use Rattle.clause_learn.specs.LearntClause.{level_or}
use Rattle.clause_learn.proofs.Tallies.{other_var, level_at, level_most, var_within, negate_twice}
use Rattle.clause_learn.proofs.NoteSteps.{falsified, var_of}
use Rattle.unfounded_sets.specs.declared.founded.LoopNogood.{LoopNogood}
use Rattle.unfounded_sets.specs.Unfounded.{is_no, is_false}
use Rattle.unfounded_sets.specs.LoopClauses.{rises, IsFalseLoop}
use Rattle.model_block.specs.Blocking.{decided_above, block_of}
use Rattle.trail_walk.proofs.WaySteps.{value_false}
use Rattle.back_jump.specs.Laws.{IsFalseUnder}

false_in_range : (trail : View) (clause : Clause) (lit : Lit) → AreOrdered trail.vars trail.entries → refutes (holds trail.entries) clause ≡ true → In lit clause → lit.var < trail.vars
false_in_range trail clause lit ordered all i =
    let by = falsified trail.entries lit (In-list_all (λ (l : Lit). holds trail.entries (negate l)) lit clause all i) in
    subst (λ (n : ℕ). n < trail.vars) (var_of trail.entries lit by) (var_within trail.vars trail.entries by.entry ordered.within by.there)

some_lit : (clause : Clause) (lit : Lit) → In lit clause → nat_lt 0 (length clause) ≡ true
some_lit [] lit i = absurd i
some_lit (x ∷ more) lit i = lt-ltb 0 (suc (length more)) (omega arith)

lacks_from : (v : ℕ) (lits : List Lit) → ((k : Lit) → In k lits → k.var ≡ v → ⊥) → lacks v lits ≡ true
lacks_from v lits apart = list_all-from_In (λ (k : Lit). not (k.var == v)) lits (λ k i. not_from_false (k.var == v) (ne_eqb k.var v (apart k i)))

-- ---- loop clauses

no_value : (o : Option Bool) → is_no o ≡ true → o ≡ Some false
no_value None h = absurd (false≢true h)
no_value (Some true) h = absurd (false≢true h)
no_value (Some false) h = refl

all_false : (entries : List Entry) (clause : Clause) → list_all (is_false entries) clause ≡ true → refutes (holds entries) clause ≡ true
all_false entries clause h =
    list_all-from_In (λ (l : Lit). holds entries (negate l)) clause (λ k i. value_false entries k (no_value (value_in entries k) (In-list_all (is_false entries) k clause h i)))

abbrev var_of_lit : Lit → ℕ
var_of_lit lit = lit.var

rising_distinct : (vars : ℕ) (lits : List Lit) → ((k : Lit) → In k lits → k.var < vars) → rises (map var_of_lit lits) ≡ true → are_distinct vars lits ≡ true
rising_distinct vars [] within h = refl
rising_distinct vars (lit ∷ more) within h =
    let p = and_parts (list_all (λ (u : ℕ). nat_lt lit.var u) (map var_of_lit more)) (rises (map var_of_lit more)) h in
    let apart = lacks_from lit.var more (λ k i e. let l = ltb-true lit.var k.var (In-list_all (λ (u : ℕ). nat_lt lit.var u) k.var (map var_of_lit more) p.0 (In-map var_of_lit k more i)) in absurd (omega (arith, e, l))) in
    and_from (nat_lt lit.var vars) (lacks lit.var more && are_distinct vars more) (lt-ltb lit.var vars (within lit (inl refl))) (and_from (lacks lit.var more) (are_distinct vars more) apart (rising_distinct vars more (λ k i. within k (inr i)) p.1))

pub loop_false : (layers : Layers) (trail : View) (nogood : LoopNogood) → AreOrdered trail.vars trail.entries → IsFalseLoop layers trail.entries nogood → IsFalseUnder trail nogood.clause
loop_false layers trail nogood ordered found =
    let clause = nogood.clause in
    let all = all_false trail.entries clause found.conflict in
    let distinct = rising_distinct trail.vars clause (λ k i. false_in_range trail clause k ordered all i) found.clause_rises in
    (and_from (nat_lt 0 (length clause)) (are_distinct trail.vars clause) (some_lit clause _ found.loop.negated) distinct, all)

-- ---- blocking clauses

record IsDecision (level : ℕ) (entries : List Entry) (lit : Lit) : Type 0 where
  entry : Entry
  there : In entry entries
  is : entry.lit ≡ lit
  above : level < entry.level

decision_of : (level : ℕ) (entries : List Entry) (lit : Lit) → In lit (decided_above level entries) → IsDecision level entries lit
decision_of level [] lit i = absurd i
decision_of level (entry ∷ older) lit i =
    let rest = decided_above level older in
    let test = is_decided entry.reason && nat_lt level entry.level in
    let later : In lit rest → IsDecision level (entry ∷ older) lit = λ j. let w = decision_of level older lit j in record { entry = w.entry; there = inr w.there; is = w.is; above = w.above } in
    ⊎_elim (λ (t : test ≡ true). ⊎_elim (λ (same : entry.lit ≡ lit). record { entry = entry; there = inl refl; is = same; above = ltb-true level entry.level (and_parts (is_decided entry.reason) (nat_lt level entry.level) t).1 }) later (subst (λ (ls : List Lit). In lit ls) (cond-true test (entry.lit ∷ rest) rest t) i)) (λ (f : test ≡ false). later (subst (λ (ls : List Lit). In lit ls) (cond-false test (entry.lit ∷ rest) rest f) i)) (cases_Bool test)

decisions_distinct : (vars level : ℕ) (entries : List Entry) → Apart entries → AreWithin vars entries → are_distinct vars (decided_above level entries) ≡ true
decisions_distinct vars level [] apart within = refl
decisions_distinct vars level (entry ∷ older) apart within =
    let rest = decided_above level older in
    let test = is_decided entry.reason && nat_lt level entry.level in
    let lower = decisions_distinct vars level older apart.1 within.1 in
    let free = lacks_from entry.lit.var rest (λ k i e. let w = decision_of level older k i in other_var older w.entry entry.lit.var apart.0 w.there (ap (λ (l : Lit). l.var) w.is ∙ e)) in
    let first = and_from (nat_lt entry.lit.var vars) (lacks entry.lit.var rest && are_distinct vars rest) (lt-ltb entry.lit.var vars within.0) (and_from (lacks entry.lit.var rest) (are_distinct vars rest) free lower) in
    ⊎_elim (λ (t : test ≡ true). subst (λ (ls : List Lit). are_distinct vars ls ≡ true) (sym (cond-true test (entry.lit ∷ rest) rest t)) first) (λ (f : test ≡ false). subst (λ (ls : List Lit). are_distinct vars ls ≡ true) (sym (cond-false test (entry.lit ∷ rest) rest f)) lower) (cases_Bool test)

distinct_end : (vars : ℕ) (lits : List Lit) (last : Lit) → are_distinct vars lits ≡ true → last.var < vars → ((k : Lit) → In k lits → k.var ≡ last.var → ⊥) → are_distinct vars (lits ++ last ∷ []) ≡ true
distinct_end vars [] last h within apart = and_from (nat_lt last.var vars) true (lt-ltb last.var vars within) refl
distinct_end vars (lit ∷ more) last h within apart =
    let p = and_parts (nat_lt lit.var vars) (lacks lit.var more && are_distinct vars more) h in
    let q = and_parts (lacks lit.var more) (are_distinct vars more) p.1 in
    let whole : List Lit = more ++ last ∷ [] in
    let free = lacks_from lit.var whole (λ k i e. ⊎_elim (λ old. false≢true (sym (ap not (eq-eqb k.var lit.var e)) ∙ In-list_all (λ (l : Lit). not (l.var == lit.var)) k more q.0 old)) (λ new. ⊎_elim (λ (same : last ≡ k). apart lit (inl refl) (sym e ∙ ap (λ (l : Lit). l.var) (sym same))) (λ none. absurd none) new) (In-append_cases k more (last ∷ []) i)) in
    and_from (nat_lt lit.var vars) (lacks lit.var whole && are_distinct vars whole) p.0 (and_from (lacks lit.var whole) (are_distinct vars whole) free (distinct_end vars more last q.1 within (λ k i. apart k (inr i))))

In-reversed : (lit : Lit) (lits : List Lit) → In lit (reverse lits) → In lit lits
In-reversed lit [] i = i
In-reversed lit (x ∷ more) i =
    ⊎_elim (λ old. inr (In-reversed lit more old)) (λ new. ⊎_elim (λ (same : x ≡ lit). inl same) (λ none. absurd none) new) (In-append_cases lit (reverse more) (x ∷ []) (subst (λ (ls : List Lit). In lit ls) (reverse-append (x ∷ []) more) i))

distinct_reversed : (vars : ℕ) (lits : List Lit) → are_distinct vars lits ≡ true → are_distinct vars (reverse lits) ≡ true
distinct_reversed vars [] h = refl
distinct_reversed vars (lit ∷ more) h =
    let p = and_parts (nat_lt lit.var vars) (lacks lit.var more && are_distinct vars more) h in
    let q = and_parts (lacks lit.var more) (are_distinct vars more) p.1 in
    subst (λ (ls : List Lit). are_distinct vars ls ≡ true) (sym (reverse-append (lit ∷ []) more)) (distinct_end vars (reverse more) lit (distinct_reversed vars more q.1) (ltb-true lit.var vars p.0) (λ k i e. false≢true (sym (ap not (eq-eqb k.var lit.var e)) ∙ In-list_all (λ (l : Lit). not (l.var == lit.var)) k more q.0 (In-reversed k more i))))

lacks_negations : (v : ℕ) (lits : List Lit) → lacks v (negations lits) ≡ lacks v lits
lacks_negations v [] = refl
lacks_negations v (lit ∷ more) = ap (λ (b : Bool). not (lit.var == v) && b) (lacks_negations v more)

distinct_negations : (vars : ℕ) (lits : List Lit) → are_distinct vars (negations lits) ≡ are_distinct vars lits
distinct_negations vars [] = refl
distinct_negations vars (lit ∷ more) =
    let free = lacks_negations lit.var more in
    let rest = distinct_negations vars more in
    λ i. nat_lt lit.var vars && (free i && rest i)

below_there : (entries : List Entry) (entry : Entry) → In entry (back 1 entries) → In entry entries
below_there entries entry = of_back (λ (es : List Entry). In entry es → In entry entries) 1 entries (λ e older on i. on (inr i)) (λ i. i)

-- a decision above the level 1 is of another variable than what holds there
end_apart : (trail : View) (end lit : Lit) → AreOrdered trail.vars trail.entries → AreLevels trail.level trail.entries → holds (back 1 trail.entries) end ≡ true → IsDecision 1 trail.entries lit → lit.var ≡ end.var → ⊥
end_apart trail end lit ordered levels h decision e =
    let w = held_entry (back 1 trail.entries) end h in
    let low = level_most 1 (back 1 trail.entries) w.0 (back_levels trail.entries trail.level 1 levels) w.1 in
    let a = level_at trail.entries decision.entry ordered.apart decision.there in
    let b = level_at trail.entries w.0 ordered.apart (below_there trail.entries w.0 w.1) in
    let same : decision.entry.lit.var ≡ w.0.lit.var = ap (λ (l : Lit). l.var) decision.is ∙ e ∙ ap (λ (l : Lit). l.var) (sym w.2) in
    let level : decision.entry.level ≡ w.0.level = ap level_or (sym a ∙ ap (λ (v : ℕ). level_in trail.entries v) same ∙ b) in
    let above = decision.above in
    omega (arith, low, level, above)

pub block_false : (trail : View) (end : Lit) → AreOrdered trail.vars trail.entries → AreLevels trail.level trail.entries → holds (back 1 trail.entries) end ≡ true → IsFalseUnder trail (block_of trail.entries end)
block_false trail end ordered levels h =
    let entries = trail.entries in
    let decided = decided_above 1 entries in
    let clause = block_of entries end in
    let found : (k : Lit) → In k (negations (reverse decided)) → (lit : Lit) × IsDecision 1 entries lit × (negate lit ≡ k) = λ k i. let w = In-map_from negate k (reverse decided) i in (w.0, decision_of 1 entries w.0 (In-reversed w.0 decided w.1), w.2) in
    let there = held_entry (back 1 entries) end h in
    let within : end.var < trail.vars = subst (λ (l : Lit). l.var < trail.vars) there.2 (var_within trail.vars entries there.0 ordered.within (below_there entries there.0 there.1)) in
    let distinct = distinct_end trail.vars (negations (reverse decided)) (negate end) (distinct_negations trail.vars (reverse decided) ∙ distinct_reversed trail.vars decided (decisions_distinct trail.vars 1 entries ordered.apart ordered.within)) within (λ k i e. let w = found k i in end_apart trail end w.0 ordered levels h w.1 (ap (λ (l : Lit). l.var) w.2 ∙ e)) in
    let denied : (lit : Lit) (k : Lit) → holds entries lit ≡ true → negate lit ≡ k → holds entries (negate k) ≡ true = λ lit k t is. subst (λ (l : Lit). holds entries l ≡ true) (sym (negate_twice lit) ∙ ap negate is) t in
    let end_holds : holds entries end ≡ true = subst (λ (l : Lit). holds entries l ≡ true) there.2 (entry_holds entries there.0 ordered.apart (below_there entries there.0 there.1)) in (
      and_from (nat_lt 0 (length clause)) (are_distinct trail.vars clause) (some_lit clause (negate end) (In-append_right (negate end) (negations (reverse decided)) (negate end ∷ []) (inl refl))) distinct,
      list_all-from_In (λ (l : Lit). holds entries (negate l)) clause (λ k i.
          ⊎_elim (λ old. let w = found k old in denied w.0 k (subst (λ (l : Lit). holds entries l ≡ true) w.1.is (entry_holds entries w.1.entry ordered.apart w.1.there)) w.2) (λ new. ⊎_elim (λ (same : negate end ≡ k). denied end k end_holds same) (λ none. absurd none) new) (In-append_cases k (negations (reverse decided)) (negate end ∷ []) i)),
    )
