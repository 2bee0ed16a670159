-- What each call of a trail keeps.
use Rattle.std.proofs.Common.{◌≡◌, ℕ, ◌+◌, ◌<◌, ◌≤◌, List, ◌∷◌, sym, ap, subst, ◌∙◌, ⊎_elim, arith}
use Rattle.std.specs.Prelude.{Some, None, nat_lt}
use Rattle.std.proofs.lemmas.Bool.{cases_order, cond-true, lt-ltb}
use Rattle.tel_base.specs.declared.literals.Lit.{Lit}
use Rattle.clause_store.specs.declared.store.ClauseId.{ClauseId}
use Rattle.clause_store.specs.Closure.{Clause}
use Rattle.lit_trail.specs.declared.assignment.Entry.{Entry}
use Rattle.lit_trail.specs.Entries.{View, back}
use Rattle.lit_trail.specs.Levels.{AreLevels}
use Rattle.lit_trail.specs.Sound.{ReasonsHold, IsClosedTrail, IsSound, Keeps, KeepsClosed, KeepsByReason}
use Rattle.lit_trail.proofs.LevelSteps.{back_all, back_back}
use Rattle.lit_trail.proofs.Ordered.{of_back}

-- a literal of a level above isn't among those up to it
back_past : (level : ℕ) (entry : Entry) (older : List Entry) → level < entry.level → back level (entry ∷ older) ≡ back level older
back_past level entry older l = cond-true (nat_lt level entry.level) (back level older) (entry ∷ older) (lt-ltb level entry.level l)

pub sound_same : (old new : View) → new.entries ≡ old.entries → new.level ≡ old.level → Keeps old new
sound_same old new is same clauses sound = record {
  reasons = subst (ReasonsHold clauses) (sym is) sound.reasons;
  below = λ level l. subst (λ (es : List Entry). IsClosedTrail clauses (back level es)) (sym is) (sound.below level (omega (arith, l, same)));
}

pub sound_imply : (old new : View) (lit : Lit) (id : ClauseId) → new.entries ≡ record { lit = lit; level = old.level; reason = Some id } ∷ old.entries → new.level ≡ old.level → KeepsByReason lit id old new
sound_imply old new lit id is same clauses reason sound =
    let entry : Entry = record { lit = lit; level = old.level; reason = Some id } in
    record {
      reasons = subst (ReasonsHold clauses) (sym is) (reason, sound.reasons);
      below = λ level l.
          let under : level < old.level = omega (arith, l, same) in
          subst (IsClosedTrail clauses) (sym (ap (back level) is ∙ back_past level entry old.entries under)) (sound.below level under);
    }

-- the levels below a new one
pub opened_below : (old : View) (clauses : List Clause) (level : ℕ) → AreLevels old.level old.entries → IsClosedTrail clauses old.entries → IsSound clauses old → level < old.level + 1 → IsClosedTrail clauses (back level old.entries)
opened_below old clauses level levels closed sound l =
    ⊎_elim (λ (e : level ≡ old.level). subst (IsClosedTrail clauses) (sym (back_all old.entries old.level level levels (omega (arith, e)))) closed) (λ ne.
    ⊎_elim (λ (m : level < old.level). sound.below level m) (λ (m : old.level < level). absurd (omega (arith, m, l))) ne) (cases_order level old.level)

pub sound_decide : (old new : View) (lit : Lit) → AreLevels old.level old.entries → new.entries ≡ record { lit = lit; level = old.level + 1; reason = None } ∷ old.entries → new.level ≡ old.level + 1 → KeepsClosed old new
sound_decide old new lit levels is same clauses closed sound =
    let entry : Entry = record { lit = lit; level = old.level + 1; reason = None } in
    record {
      reasons = subst (ReasonsHold clauses) (sym is) (tt, sound.reasons);
      below = λ level l.
          let under : level < old.level + 1 = omega (arith, l, same) in
          subst (IsClosedTrail clauses) (sym (ap (back level) is ∙ back_past level entry old.entries under)) (opened_below old clauses level levels closed sound under);
    }

pub sound_open : (old new : View) → AreLevels old.level old.entries → new.entries ≡ old.entries → new.level ≡ old.level + 1 → KeepsClosed old new
sound_open old new levels is same clauses closed sound = record {
  reasons = subst (ReasonsHold clauses) (sym is) sound.reasons;
  below = λ level l. subst (IsClosedTrail clauses) (sym (ap (back level) is)) (opened_below old clauses level levels closed sound (omega (arith, l, same)));
}

pub sound_back : (old new : View) (to : ℕ) → to ≤ old.level → new.entries ≡ back to old.entries → new.level ≡ to → Keeps old new
sound_back old new to fits is same clauses sound = record {
  reasons = subst (ReasonsHold clauses) (sym is) (of_back (ReasonsHold clauses) to old.entries (λ entry older r. r.1) sound.reasons);
  below = λ level l. subst (IsClosedTrail clauses) (sym (ap (back level) is ∙ back_back old.entries level to (omega (arith, l, same)))) (sound.below level (omega (arith, l, same, fits)));
}
