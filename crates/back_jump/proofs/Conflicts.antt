-- A false clause: it has a literal of the trail's level where the levels below are closed, and what a closed level doesn't absorb.
use Rattle.std.proofs.Common.{◌≡◌, ℕ, ◌+◌, ◌-◌, ◌<◌, ◌≤◌, true, false, not, List, [], ◌∷◌, refl, sym, ap, subst, ◌∙◌, inl, ⊎_elim, arith}
use Rattle.std.proofs.lemmas.Bool.{cases_Bool, cases_order, false≢true, not-true}
use Rattle.tel_base.specs.declared.literals.Lit.{Lit}
use Rattle.tel_base.specs.Literals.{negate}
use Rattle.tel_base.proofs.Members.{In-list_all, list_all-from_In, In-filter_from}
use Rattle.clause_store.specs.Held.{is_clause, clause_at}
use Rattle.clause_store.specs.declared.store.ClauseId.{ClauseId}
use Rattle.clause_store.specs.Closure.{In, Clause, same_lit, others, refutes, Absorbed}
use Rattle.clause_store.proofs.Closures.{same_lit-self}
use Rattle.clause_store.proofs.Free.{settled_calm, added_is_free}
use Rattle.clause_store.proofs.Levels.{In-clause_at, closure_closed}
use Rattle.lit_trail.specs.declared.assignment.Entry.{Entry}
use Rattle.lit_trail.specs.Entries.{View, back, Apart}
use Rattle.lit_trail.specs.Levels.{AreLevels}
use Rattle.lit_trail.specs.Sound.{holds, decided_lits, IsClosedTrail, IsSound}
use Rattle.lit_trail.proofs.Values.{one_value, none_holds}
use Rattle.clause_learn.specs.FirstUip.{set_of, has_more}
use Rattle.clause_learn.specs.LearntClause.{IsAsserting}
use Rattle.clause_learn.proofs.Tallies.{level_most, negate_twice}
use Rattle.clause_learn.proofs.NoteSteps.{falsified, level_of_lit}
use Rattle.clause_learn.proofs.Resolutions.{has_from}
use Rattle.clause_learn.proofs.Uips.{more_from}
use Rattle.clause_learn.proofs.Backing.{level_stays}
use Rattle.watch_propagate.specs.Propagation.{IsFalseClause}

-- ---- a literal of the trail's level

-- a false literal none of whose level is left is false one level below
false_lower : (entries : List Entry) (clause : Clause) (level lower : ℕ) (lit : Lit) → Apart entries → AreLevels level entries → level ≤ lower + 1 → has_more level entries (set_of clause) ≡ false → refutes (holds entries) clause ≡ true → In lit clause → holds (back lower entries) (negate lit) ≡ true
false_lower entries clause level lower lit apart levels next none all i =
    let denied = In-list_all (λ (l : Lit). holds entries (negate l)) lit clause all i in
    let by = falsified entries lit denied in
    let at = level_of_lit entries lit by apart in
    let most = level_most level entries by.entry levels by.there in
    let there : set_of clause (negate by.entry.lit) ≡ true = ap (set_of clause) (ap negate by.is ∙ negate_twice lit) ∙ has_from lit clause i in
    level_stays lower by.entry.level entries (negate lit) denied at (⊎_elim (λ (e : by.entry.level ≡ level). absurd (false≢true (sym none ∙ more_from level entries (set_of clause) by.entry by.there there e))) (λ ne. ⊎_elim (λ (l : by.entry.level < level). omega (arith, l, next)) (λ (l : level < by.entry.level). absurd (omega (arith, l, most))) ne) (cases_order by.entry.level level))

pub false_has_more : (clauses : List Clause) (trail : View) (id : ClauseId) → Apart trail.entries → AreLevels trail.level trail.entries → IsSound clauses trail → 0 < trail.level → IsFalseClause clauses trail.entries id → has_more trail.level trail.entries (set_of (clause_at clauses id.place)) ≡ true
false_has_more clauses trail id apart levels sound above conflict =
    let clause = clause_at clauses id.place in
    let lower : ℕ = trail.level - 1 in
    let level = closure_closed clauses (decided_lits (back lower trail.entries)) (holds (back lower trail.entries)) (sound.below lower (omega (arith, above))) in
    ⊎_elim (λ t. t) (λ (none : has_more trail.level trail.entries (set_of clause) ≡ false).
    let all : refutes (holds (back lower trail.entries)) clause ≡ true = list_all-from_In (λ (l : Lit). holds (back lower trail.entries) (negate l)) clause (λ lit i. false_lower trail.entries clause trail.level lower lit apart levels (omega (arith, above)) none conflict.1 i) in
    absurd ((settled_calm clauses (holds (back lower trail.entries)) level).none_false clause (In-clause_at clauses id.place conflict.0) all)) (cases_Bool (has_more trail.level trail.entries (set_of clause)))

-- ---- not absorbed

-- a false clause, by a closed trail
pub false_free : (vars : ℕ) (clauses : List Clause) (clause : Clause) (entries : List Entry) → is_clause vars clause ≡ true → refutes (holds entries) clause ≡ true → IsClosedTrail clauses entries → Absorbed clauses clause → ⊥
false_free vars clauses [] entries is all closed = absurd (false≢true is)
false_free vars clauses (lit ∷ more) entries is all closed =
    let X = holds entries in
    let clause : Clause = lit ∷ more in
    let denied = In-list_all (λ (l : Lit). X (negate l)) lit clause all (inl refl) in
    added_is_free clauses X clause lit (closure_closed clauses (decided_lits entries) X closed) (inl refl) (list_all-from_In (λ (l : Lit). X (negate l)) (others lit clause) (λ k i. In-list_all (λ (l : Lit). X (negate l)) k clause all (In-filter_from (λ (l : Lit). not (same_lit l lit)) k clause i).0)) (⊎_elim (λ (t : X lit ≡ true). absurd (one_value entries lit t denied)) (λ f. f) (cases_Bool (X lit)))

-- an asserting one, by a closed level
pub asserting_free : (clauses : List Clause) (lits : List Lit) (entries : List Entry) → IsAsserting entries lits → IsClosedTrail clauses entries → Absorbed clauses lits → ⊥
asserting_free clauses [] entries asserting closed = absurd asserting
asserting_free clauses (first ∷ rest) entries asserting closed =
    let X = holds entries in
    let clause : Clause = first ∷ rest in
    added_is_free clauses X clause first (closure_closed clauses (decided_lits entries) X closed) (inl refl) (list_all-from_In (λ (l : Lit). X (negate l)) (others first clause) (λ k i.
    let w = In-filter_from (λ (l : Lit). not (same_lit l first)) k clause i in
    ⊎_elim (λ (e : first ≡ k). absurd (false≢true (sym (not-true (same_lit k first) w.1) ∙ subst (λ (l : Lit). same_lit l first ≡ true) e (same_lit-self first)))) (λ r. In-list_all (λ (l : Lit). X (negate l)) k rest asserting.1 r) w.0)) (none_holds entries first asserting.0)
