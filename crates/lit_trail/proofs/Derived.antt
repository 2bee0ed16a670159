-- What the reasons of a trail derive.
use Rattle.std.proofs.Common.{◌≡◌, true, false, List, [], ◌∷◌, refl, sym, ap, subst, inl, inr, ◌∙◌, ⊎_elim}
use Rattle.std.specs.Prelude.{Option, Some, None}
use Rattle.std.proofs.lemmas.Bool.{cases_Bool, cond-true, cond-false}
use Rattle.tel_base.specs.declared.literals.Lit.{Lit}
use Rattle.tel_base.specs.Literals.{negate}
use Rattle.clause_store.specs.declared.store.ClauseId.{ClauseId}
use Rattle.clause_store.specs.Held.{clause_at}
use Rattle.clause_store.specs.Closure.{In, Clause, others, Up, IsClosedLevel}
use Rattle.tel_base.proofs.Members.{In-list_all, list_all-from_In}
use Rattle.clause_store.proofs.Closures.{up_start, up_keeps}
use Rattle.clause_store.proofs.Levels.{In-clause_at, closed_closure}
use Rattle.lit_trail.specs.declared.assignment.Entry.{Entry}
use Rattle.lit_trail.specs.Entries.{Apart, is_decided}
use Rattle.lit_trail.specs.Sound.{holds, decided_lits, IsReason, HasReason, ReasonsHold, IsClosedTrail}
use Rattle.lit_trail.proofs.Values.{last_or_older, holds_on, entry_holds}

-- a reason derives its literal
pub reason_up : (clauses : List Clause) (start : List Lit) (older : List Entry) (lit : Lit) (id : ClauseId) → IsReason clauses older lit id → ((m : Lit) → holds older m ≡ true → Up clauses start m) → Up clauses start lit
reason_up clauses start older lit id reason up =
    let clause = clause_at clauses id.place in
    up_keeps clauses start clause lit (In-clause_at clauses id.place reason.0) reason.1 (λ other i. up (negate other) (In-list_all (λ (l : Lit). holds older (negate l)) other (others lit clause) reason.2 i))

-- and the reasons of a trail derive all of it from what has no reason
pub trail_up : (clauses : List Clause) (start : List Lit) (entries : List Entry) → ReasonsHold clauses entries → ((entry : Entry) → In entry entries → entry.reason ≡ None → Up clauses start entry.lit) → (lit : Lit) → holds entries lit ≡ true → Up clauses start lit
trail_up clauses start [] reasons given lit h = absurd (cc)
trail_up clauses start (entry ∷ older) reasons given lit h =
    let rest = trail_up clauses start older reasons.1 (λ e i. given e (inr i)) in
    ⊎_elim (λ (e : entry.lit ≡ lit). subst (Up clauses start) e ((elim (entry.reason) as (λ (o : Option ClauseId). entry.reason ≡ o → HasReason clauses older entry.lit o → Up clauses start entry.lit) [
      | None ↦ λ is a. given entry (inl refl) is
      | Some id ↦ λ is a. reason_up clauses start older entry.lit id a rest
    ]) refl reasons.0)) (λ out. rest lit out.1) (last_or_older entry older lit h)

pub In-decided : (entries : List Entry) (entry : Entry) → In entry entries → entry.reason ≡ None → In entry.lit (decided_lits entries)
In-decided [] entry i none = absurd i
In-decided (e ∷ older) entry i none =
    ⊎_elim (λ (same : e ≡ entry).
    let decided : is_decided e.reason ≡ true = ap (λ (x : Entry). is_decided x.reason) same ∙ ap is_decided none in
    subst (λ (xs : List Lit). In entry.lit xs) (sym (cond-true (is_decided e.reason) (e.lit ∷ decided_lits older) (decided_lits older) decided)) (inl (ap (λ (x : Entry). x.lit) same))) (λ r.
    let rest = In-decided older entry r none in
    ⊎_elim (λ (t : is_decided e.reason ≡ true). subst (λ (xs : List Lit). In entry.lit xs) (sym (cond-true (is_decided e.reason) (e.lit ∷ decided_lits older) (decided_lits older) t)) (inr rest)) (λ (f : is_decided e.reason ≡ false). subst (λ (xs : List Lit). In entry.lit xs) (sym (cond-false (is_decided e.reason) (e.lit ∷ decided_lits older) (decided_lits older) f)) rest) (cases_Bool (is_decided e.reason))) i

pub decided_hold : (entries : List Entry) (lit : Lit) → Apart entries → In lit (decided_lits entries) → holds entries lit ≡ true
decided_hold [] lit apart i = absurd i
decided_hold (entry ∷ older) lit apart i =
    let rest : In lit (decided_lits older) → holds (entry ∷ older) lit ≡ true = λ j. holds_on entry older lit apart.0 (decided_hold older lit apart.1 j) in
    ⊎_elim (λ (t : is_decided entry.reason ≡ true). ⊎_elim (λ (e : entry.lit ≡ lit). subst (λ (l : Lit). holds (entry ∷ older) l ≡ true) e (entry_holds (entry ∷ older) entry apart (inl refl))) rest (subst (λ (xs : List Lit). In lit xs) (cond-true (is_decided entry.reason) (entry.lit ∷ decided_lits older) (decided_lits older) t) i)) (λ (f : is_decided entry.reason ≡ false). rest (subst (λ (xs : List Lit). In lit xs) (cond-false (is_decided entry.reason) (entry.lit ∷ decided_lits older) (decided_lits older) f) i)) (cases_Bool (is_decided entry.reason))

-- what holds is derived from the decisions
pub decided_up : (clauses : List Clause) (entries : List Entry) → ReasonsHold clauses entries → (lit : Lit) → holds entries lit ≡ true → Up clauses (decided_lits entries) lit
decided_up clauses entries reasons =
    trail_up clauses (decided_lits entries) entries reasons (λ entry i none. up_start clauses (decided_lits entries) entry.lit (In-decided entries entry i none))

-- a trail whose reasons hold is closed where nothing is left to derive
pub closed_trail : (clauses : List Clause) (entries : List Entry) → Apart entries → ReasonsHold clauses entries → IsClosedLevel clauses (holds entries) → IsClosedTrail clauses entries
closed_trail clauses entries apart reasons level =
    closed_closure clauses (decided_lits entries) (holds entries) (list_all-from_In (holds entries) (decided_lits entries) (λ lit i. decided_hold entries lit apart i)) (decided_up clauses entries reasons) level
