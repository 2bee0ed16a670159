-- A trail that is ready stays so where it goes back and a clause comes that is settled at each lower level.
use Rattle.std.proofs.Common.{◌≡◌, ℕ, ◌≤◌, true, List, [], ◌∷◌, ◌++◌, sym, ap, subst, ◌∙◌, inl, inr, ⊎_elim, arith}
use Rattle.std.specs.Prelude.{Option, Some, None}
use Rattle.std.proofs.lemmas.List.{length-append, map-append, get_or_append_left}
use Rattle.tel_base.specs.declared.literals.Lit.{Lit}
use Rattle.tel_base.proofs.Members.{In-append_left, In-append_cases}
use Rattle.clause_store.specs.declared.store.ClauseId.{ClauseId}
use Rattle.clause_store.specs.Held as held
use Rattle.clause_store.specs.Held.{Held, clauses_in, clause_at, lacks, are_distinct, is_clause}
use Rattle.clause_store.specs.Closure.{In, Clause, others, refutes, IsSettled}
use Rattle.clause_store.proofs.Levels.{closure_stays}
use Rattle.lit_trail.specs.declared.assignment.Entry.{Entry}
use Rattle.lit_trail.specs.Entries.{View, back}
use Rattle.lit_trail.specs.Levels.{AreWithin}
use Rattle.lit_trail.specs.Sound.{holds, decided_lits, IsReason, HasReason, ReasonsHold, IsClosedTrail, IsSound, Keeps}
use Rattle.lit_trail.proofs.LevelSteps.{back_back}
use Rattle.lit_trail.proofs.Ordered.{of_back}
use Rattle.watch_propagate.specs.Propagation.{are_below}
use Rattle.watch_propagate.proofs.Bounds.{below_more}
use Rattle.trail_walk.specs.Ways.{IsReady}
use Rattle.back_jump.specs.Jumps.{IsSettledBelow}

-- ---- a sound trail with a clause more

reason_more : (clauses : List Clause) (clause : Clause) (older : List Entry) (lit : Lit) (id : ClauseId) → IsReason clauses older lit id → IsReason (clauses ++ clause ∷ []) older lit id
reason_more clauses clause older lit id reason =
    let l = reason.0 in
    let n = length-append clauses (clause ∷ []) in
    let same : clause_at (clauses ++ clause ∷ []) id.place ≡ clause_at clauses id.place = get_or_append_left clauses (clause ∷ []) [] id.place l in
    (omega (arith, l, n), subst (λ (c : Clause). In lit c) (sym same) reason.1, subst (λ (c : Clause). refutes (holds older) (others lit c) ≡ true) (sym same) reason.2)

reasons_more : (clauses : List Clause) (clause : Clause) (entries : List Entry) → ReasonsHold clauses entries → ReasonsHold (clauses ++ clause ∷ []) entries
reasons_more clauses clause [] hold = tt
reasons_more clauses clause (entry ∷ older) hold = (
  (elim (entry.reason) as (λ (o : Option ClauseId). HasReason clauses older entry.lit o → HasReason (clauses ++ clause ∷ []) older entry.lit o) [
    | None ↦ λ h. tt
    | Some id ↦ λ h. reason_more clauses clause older entry.lit id h
  ]) hold.0,
  reasons_more clauses clause older hold.1,
)

closed_more : (clauses : List Clause) (clause : Clause) (entries : List Entry) → IsSettled (holds entries) clause → IsClosedTrail clauses entries → IsClosedTrail (clauses ++ clause ∷ []) entries
closed_more clauses clause entries settled closed =
    closure_stays clauses (clauses ++ clause ∷ []) (decided_lits entries) (holds entries) (λ c i. In-append_left c clauses (clause ∷ []) i) (λ c i. ⊎_elim (λ old. inl old) (λ new. inr (⊎_elim (λ (e : clause ≡ c). subst (IsSettled (holds entries)) e settled) (λ none. absurd none) new)) (In-append_cases c clauses (clause ∷ []) i)) closed

sound_more : (clauses : List Clause) (clause : Clause) (trail : View) → IsSettledBelow trail.level trail.entries clause → IsSound clauses trail → IsSound (clauses ++ clause ∷ []) trail
sound_more clauses clause trail settled sound = record {
  reasons = reasons_more clauses clause trail.entries sound.reasons;
  below = λ lower l. closed_more clauses clause (back lower trail.entries) (settled lower l) (sound.below lower l);
}

-- ---- ready again

-- after the call that goes back, and the one that adds
pub ready_held : (store new : held.View) (old trail : View) (one : Held) (level : ℕ) → IsReady store old → level ≤ old.level → is_clause old.vars one.lits ≡ true → IsSettledBelow level old.entries one.lits → new.clauses ≡ store.clauses ++ one ∷ [] → new.vars ≡ store.vars → trail.level ≡ level → trail.entries ≡ back level old.entries → trail.vars ≡ old.vars → Keeps old trail → IsReady new trail
ready_held store new old trail one level ready low is settled added reserved at entries vars keeps =
    let clauses = clauses_in store.clauses in
    let more : clauses_in new.clauses ≡ clauses ++ one.lits ∷ [] = ap clauses_in added ∙ map-append (λ (c : Held). c.lits) store.clauses (one ∷ []) in
    let there : IsSettledBelow trail.level trail.entries one.lits = λ lower l. subst (λ (es : List Entry). IsSettled (holds es) one.lits) (sym (ap (back lower) entries ∙ back_back old.entries lower level (omega (arith, l, at)))) (settled lower (omega (arith, l, at))) in
    let wide = ready.reserved in
    record {
      sound = subst (λ (cs : List Clause). IsSound cs trail) (sym more) (sound_more clauses one.lits trail there (keeps clauses ready.sound));
      below = subst (λ (cs : List Clause). are_below trail.vars cs ≡ true) (sym more) (subst (λ (n : ℕ). are_below n (clauses ++ one.lits ∷ []) ≡ true) (sym vars) (below_more old.vars clauses one.lits ready.below is));
      known = subst (λ (n : ℕ). AreWithin n trail.entries) (sym reserved) (subst (AreWithin store.vars) (sym entries) (of_back (AreWithin store.vars) level old.entries (λ entry older w. w.1) ready.known));
      reserved = omega (arith, wide, reserved, vars);
    }
