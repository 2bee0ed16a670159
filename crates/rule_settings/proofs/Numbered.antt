-- Candidates by their numbers.
use Rattle.std.proofs.Common.{◌≡◌, ◌∙◌, ℕ, zero, suc, ◌+◌, ◌<◌, ◌≤◌, Bool, true, false, not, ◌&&◌, List, [], ◌∷◌, length, Option, Some, None, refl, sym, ap, subst, true≢false, inl, inr, ⊎_elim, arith, IsTrue}
use Rattle.std.specs.Prelude.{slice_get, IsFalse, if◌then◌else◌}
use Rattle.std.specs.List.{list_all}
use Rattle.tel_base.specs.Members.{In}
use Rattle.rule_binding.specs.Binding.{Vars, Setting, vars_of}
use Rattle.rule_binding.proofs.Marks.{all_more}
use Rattle.rule_settings.specs.declared.waiters.Waiter.{Waiter}
use Rattle.rule_settings.specs.Waiting.{is_ready, is_open, can_set, passes, holds_at, open_count, waiters_from, Within}

passes_more : (p q : Setting → Bool) → ((s : Setting) → IsTrue (p s) → IsTrue (q s)) → (o : Option Setting) → IsTrue (passes p o) → IsTrue (passes q o)
passes_more p q more None h = absurd (true≢false (sym h))
passes_more p q more (Some s) h = more s h

-- a test that passes wherever another one does
pub holds_more : (p q : Setting → Bool) → ((s : Setting) → IsTrue (p s) → IsTrue (q s)) → (cs : List Setting) (i : ℕ) → IsTrue (holds_at p cs i) → IsTrue (holds_at q cs i)
holds_more p q more cs i h = passes_more p q more (slice_get cs i) h

pub more_ready : (old new : Vars) → Within old new → (cs : List Setting) (i : ℕ) → IsTrue (holds_at (is_ready old) cs i) → IsTrue (holds_at (is_ready new) cs i)
more_ready old new more cs i h = holds_more (is_ready old) (is_ready new) (λ s. all_more old new more (vars_of s.value)) cs i h

not_more : (a b : Bool) → (IsTrue a → IsTrue b) → IsTrue (not b) → IsTrue (not a)
not_more true b more h = absurd (true≢false (sym h ∙ ap not (more refl)))
not_more false b more h = refl

pub fewer_open : (old new : Vars) → Within old new → (cs : List Setting) (i : ℕ) → IsTrue (holds_at (is_open new) cs i) → IsTrue (holds_at (is_open old) cs i)
fewer_open old new more cs i h = holds_more (is_open new) (is_open old) (λ s. not_more (old s.var) (new s.var) (more s.var)) cs i h

passes_both : (bound : Vars) (o : Option Setting) → passes (can_set bound) o ≡ (passes (is_open bound) o && passes (is_ready bound) o)
passes_both bound None = refl
passes_both bound (Some s) = refl

pub can_set_is : (bound : Vars) (cs : List Setting) (i : ℕ) → holds_at (can_set bound) cs i ≡ (holds_at (is_open bound) cs i && holds_at (is_ready bound) cs i)
can_set_is bound cs i = passes_both bound (slice_get cs i)

-- ---- candidates that were not looked at yet

pub record IsNumbered (number : ℕ) (cs : List Setting) (waiter : Waiter) : Type 0 where
  pub place : ℕ
  pub is : waiter.number ≡ place + number
  pub within : place < length cs
  pub ready : (X : Vars) → holds_at (is_ready X) cs place ≡ list_all X waiter.needs

placed_first : (number : ℕ) (c : Setting) (cs : List Setting) (waiter : Waiter) → record { number = number; needs = vars_of c.value } ≡ waiter → IsNumbered number (c ∷ cs) waiter
placed_first number c cs waiter e =
    let same : number ≡ waiter.number = ap (λ (w : Waiter). w.number) e in
    record {
      place = 0;
      is = omega (arith, same);
      within = omega arith;
      ready = λ X. ap (λ (w : Waiter). list_all X w.needs) e;
    }

placed_later : (number : ℕ) (c : Setting) (cs : List Setting) (waiter : Waiter) → IsNumbered (suc number) cs waiter → IsNumbered number (c ∷ cs) waiter
placed_later number c cs waiter rest =
    let is = rest.is in
    let within = rest.within in
    record {
      place = suc rest.place;
      is = omega (arith, is);
      within = omega (arith, within);
      ready = rest.ready;
    }

pub numbered : (number : ℕ) (cs : List Setting) (waiter : Waiter) → In waiter (waiters_from number cs) → IsNumbered number cs waiter
numbered number [] waiter there = absurd there
numbered number (c ∷ cs) waiter there =
    ⊎_elim (λ (e : record { number = number; needs = vars_of c.value } ≡ waiter). placed_first number c cs waiter e)
    (λ (later : In waiter (waiters_from (suc number) cs)). placed_later number c cs waiter (numbered (suc number) cs waiter later))
    there

-- what holds of all of them holds of each candidate
pub all_numbered : (number : ℕ) (cs : List Setting) (p : ℕ → Bool) → ((waiter : Waiter) → In waiter (waiters_from number cs) → IsTrue (p waiter.number)) → (q : Setting → Bool) (i : ℕ) → IsTrue (holds_at q cs i) → IsTrue (p (i + number))
all_numbered number [] p all q i h = absurd (true≢false (sym h))
all_numbered number (c ∷ cs) p all q zero h =
    let first = all (record { number = number; needs = vars_of c.value }) (inl refl) in
    let same : number ≡ zero + number = omega arith in
    subst (λ (n : ℕ). IsTrue (p n)) same first
all_numbered number (c ∷ cs) p all q (suc i) h =
    let rest = all_numbered (suc number) cs p (λ waiter there. all waiter (inr there)) q i h in
    let same : i + suc number ≡ suc i + number = omega arith in
    subst (λ (n : ℕ). IsTrue (p n)) same rest

-- ---- how many are open

pub no_more_open : (old new : Vars) → Within old new → (cs : List Setting) → open_count new cs ≤ open_count old cs
no_more_open old new more [] = omega arith
no_more_open old new more (c ∷ cs) = by (old c.var) (new c.var) (more c.var) (no_more_open old new more cs)
  where
    by : (a b : Bool) → (IsTrue a → IsTrue b) → open_count new cs ≤ open_count old cs → (if b then open_count new cs else suc (open_count new cs)) ≤ (if a then open_count old cs else suc (open_count old cs))
    by true true follows less = less
    by true false follows less = absurd (true≢false (sym (follows refl)))
    by false true follows less = omega (arith, less)
    by false false follows less = omega (arith, less)

pub one_fewer : (old new : Vars) → Within old new → (cs : List Setting) (i : ℕ) (s : Setting) → slice_get cs i ≡ Some s → IsFalse (old s.var) → IsTrue (new s.var) → open_count new cs < open_count old cs
one_fewer old new more [] i s is unbound bound = absurd cc
one_fewer old new more (c ∷ cs) zero s is unbound bound =
    let same : c ≡ s = cc in
    let less = no_more_open old new more cs in
    let before : open_count old (c ∷ cs) ≡ suc (open_count old cs) = ap (λ (b : Bool). if b then open_count old cs else suc (open_count old cs)) (subst (λ (t : Setting). IsFalse (old t.var)) (sym same) unbound) in
    let now : open_count new (c ∷ cs) ≡ open_count new cs = ap (λ (b : Bool). if b then open_count new cs else suc (open_count new cs)) (subst (λ (t : Setting). IsTrue (new t.var)) (sym same) bound) in
    omega (arith, less, before, now)
one_fewer old new more (c ∷ cs) (suc i) s is unbound bound = by (old c.var) (new c.var) (more c.var) (one_fewer old new more cs i s is unbound bound)
  where
    by : (a b : Bool) → (IsTrue a → IsTrue b) → open_count new cs < open_count old cs → (if b then open_count new cs else suc (open_count new cs)) < (if a then open_count old cs else suc (open_count old cs))
    by true true follows less = less
    by true false follows less = absurd (true≢false (sym (follows refl)))
    by false true follows less = omega (arith, less)
    by false false follows less = omega (arith, less)
