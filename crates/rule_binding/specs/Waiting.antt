-- Rules that wait for a variable, and the variables that are bound so far.
use Rattle.std.specs.Prelude.{◌≡◌, ◌⊎◌, ℕ, suc, ◌+◌, Bool, true, false, ◌&&◌, List, [], ◌∷◌, length, nat_lt, vec_len, slice_index_or, IsTrue}
use Rattle.std.specs.List.{list_all}
use Rattle.rule_binding.specs.declared.rules.BindingRule.{BindingRule}
use Rattle.rule_binding.specs.declared.state.State.{State}
use Rattle.rule_binding.specs.Binding.{Vars, has}
use Rattle.rule_binding.specs.Closure.{keeps, marked}

-- the rules that wait at a variable
abbrev pub waiting_at : List (List BindingRule) → ℕ → List BindingRule
waiting_at waiting v = slice_index_or waiting v []

-- the variables of a rule are below a number
abbrev pub is_below : ℕ → BindingRule → Bool
is_below size rule = nat_lt rule.var size && list_all (λ (v : ℕ). nat_lt v size) rule.needs

abbrev pub are_below : ℕ → List BindingRule → Bool
are_below size rules = list_all (is_below size) rules

-- how many variables have no mark
abbrev pub open_count : List Bool → ℕ
open_count [] = 0
open_count (true ∷ more) = open_count more
open_count (false ∷ more) = suc (open_count more)

-- the set has each variable with a mark
abbrev pub Holds : Vars → List Bool → Type 0
Holds X marks = (v : ℕ) → IsTrue (marked marks v) → IsTrue (X v)

-- no rule waits at a variable that is bound, but for those that are still to be looked at
pub record IsState (state : State) : Type 0 where
  pub in_step : vec_len state.waiting ≡ vec_len state.bound
  pub queued : IsTrue (list_all (marked state.bound.items) state.queue)
  pub drained : (v : ℕ) → IsTrue (marked state.bound.items v) → IsTrue (has state.queue v) ⊎ (waiting_at state.waiting.items v ≡ [])
  pub below : (v : ℕ) → IsTrue (are_below (vec_len state.bound) (waiting_at state.waiting.items v))

-- a set has what is bound, and keeps the rules that wait, where it has the variable that they wait at
pub record Meets (X : Vars) (state : State) : Type 0 where
  pub bound : Holds X state.bound.items
  pub waiting : (v : ℕ) → IsTrue (X v) → IsTrue (keeps X (waiting_at state.waiting.items v))

-- what is left to do: each variable is bound once, and looked at once
abbrev pub left_of : State → ℕ
left_of state = open_count state.bound.items + length state.queue
