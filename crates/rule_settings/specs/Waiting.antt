-- Candidates that are ready, candidates that wait for a variable, and how the first one is found that can set its variable.
use Rattle.std.specs.Prelude.{◌≡◌, ◌⊎◌, ℕ, suc, ◌<◌, Bool, true, false, not, ◌&&◌, ◌||◌, ◌==◌, List, [], ◌∷◌, length, Option, Some, None, slice_index_or, slice_get, IsTrue, IsFalse, if◌then◌else◌}
use Rattle.std.specs.List.{list_all, filter}
use Rattle.tel_base.specs.Members.{In}
use Rattle.rule_binding.specs.Binding.{Vars, Setting, vars_of, first_of}
use Rattle.rule_binding.specs.Closure.{marked}
use Rattle.rule_settings.specs.declared.candidates.Setting as shown
use Rattle.rule_settings.specs.declared.waiters.Waiter.{Waiter}
use Rattle.rule_settings.specs.declared.state.State.{State}
use Rattle.rule_settings.specs.Said.{said}
use Rattle.rule_settings.specs.Numbers.{is_in}

-- ---- candidates, by their numbers

-- no variable of the other side is unbound
abbrev pub is_ready : Vars → Setting → Bool
is_ready bound candidate = list_all bound (vars_of candidate.value)

-- the variable is unbound
abbrev pub is_open : Vars → Setting → Bool
is_open bound candidate = not (bound candidate.var)

-- the candidate can set its variable
abbrev pub can_set : Vars → Setting → Bool
can_set bound candidate = is_open bound candidate && is_ready bound candidate

-- there is a candidate, and it passes
abbrev pub passes : (Setting → Bool) → Option Setting → Bool
passes p None = false
passes p (Some candidate) = p candidate

-- the candidate with this number is there and passes
abbrev pub holds_at : (Setting → Bool) → List Setting → ℕ → Bool
holds_at p cs i = passes p (slice_get cs i)

-- how many candidates have an unbound variable
abbrev pub open_count : Vars → List Setting → ℕ
open_count bound [] = 0
open_count bound (candidate ∷ more) = if bound candidate.var then open_count bound more else suc (open_count bound more)

-- ---- candidates that wait

-- the candidates that wait for a variable
abbrev pub waiting_at : List (List Waiter) → ℕ → List Waiter
waiting_at waiting v = slice_index_or waiting v []

-- candidates with numbers from this one on, each with all variables of its other side
abbrev pub waiters_from : ℕ → List Setting → List Waiter
waiters_from number [] = []
waiters_from number (candidate ∷ more) = record { number = number; needs = vars_of candidate.value } ∷ waiters_from (suc number) more

-- the second set has what the first one has
abbrev pub Within : Vars → Vars → Type 0
Within X Y = (v : ℕ) → IsTrue (X v) → IsTrue (Y v)

-- whatever will be bound, this candidate is ready where its needs are bound and one thing more holds of what is bound
pub record IsWaiter (cs : List Setting) (bound : Vars) (also : Vars → Bool) (waiter : Waiter) : Type 0 where
  pub within : waiter.number < length cs
  pub is_ready_by : (X : Vars) → Within bound X → holds_at (is_ready X) cs waiter.number ≡ (also X && list_all X waiter.needs)

-- candidates are ready or wait for a variable. Each of them with an unbound variable is among these, or among the rest, which is still to be
-- looked at: what holds of all of these holds of it
pub record IsState (cs : List Setting) (bound ready : Vars) (waiting : ℕ → List Waiter) (rest : List Waiter) : Type 0 where
  pub ready_are : (i : ℕ) → IsTrue (ready i) → IsTrue (holds_at (is_ready bound) cs i)
  pub waiting_are : (v : ℕ) (waiter : Waiter) → In waiter (waiting v) → IsWaiter cs bound (λ X. X v) waiter
  pub rest_are : (waiter : Waiter) → In waiter rest → IsWaiter cs bound (λ X. true) waiter
  pub all_are : (p : ℕ → Bool) → ((i : ℕ) → IsTrue (ready i) → IsTrue (p i)) → ((v : ℕ) → IsFalse (bound v) → (waiter : Waiter) → In waiter (waiting v) → IsTrue (p waiter.number)) → ((waiter : Waiter) → In waiter rest → IsTrue (p waiter.number)) → (i : ℕ) → IsTrue (holds_at (is_open bound) cs i) → IsTrue (p i)

abbrev pub StateIs : List Setting → State → List Waiter → Type 0
StateIs cs state rest = IsState cs (marked state.bound.items) (is_in state.ready) (waiting_at state.waiting.items) rest

-- ---- the next setting equation

-- no ready candidate has an unbound variable
abbrev pub NoneOpen : Vars → List Setting → Vars → Type 0
NoneOpen bound cs ready = (i : ℕ) → IsTrue (ready i) → IsFalse (holds_at (is_open bound) cs i)

-- the first ready candidate with an unbound variable was found, and it and those before it were taken away
pub record IsNext (bound : Vars) (cs : List Setting) (old new : Vars) (found : Setting) : Type 0 where
  pub number : ℕ
  pub was : IsTrue (old number)
  pub is : slice_get cs number ≡ Some found
  pub unbound : IsFalse (bound found.var)
  pub least : (i : ℕ) → i < number → IsTrue (old i) → IsFalse (holds_at (is_open bound) cs i)
  pub kept : (i : ℕ) → IsTrue (old i) → (i ≡ number) ⊎ (IsTrue (new i) ⊎ IsFalse (holds_at (is_open bound) cs i))
  pub no_more : (i : ℕ) → IsTrue (new i) → IsTrue (old i)

-- the first candidate that can set its variable
abbrev pub first_setting : Vars → List Setting → Option Setting
first_setting bound cs = first_of (filter (can_set bound) cs)

-- a step binds the variable of the first candidate that can set it
pub record IsBound (cs : List Setting) (old new : Vars) (found : Setting) : Type 0 where
  pub first : first_setting old cs ≡ Some found
  pub bound : (v : ℕ) → new v ≡ ((found.var == v) || old v)
  pub fewer : open_count new cs < open_count old cs

-- what a step does, where it finds a candidate that can set its variable, and where it finds none
abbrev pub IsStep : List Setting → State → State → Option shown.Setting → Type 0
IsStep cs old new None = first_setting (marked old.bound.items) cs ≡ None
IsStep cs old new (Some found) = StateIs cs new [] × IsBound cs (marked old.bound.items) (marked new.bound.items) (said found)
