-- A run in its own words: how far it goes, and its status.
use Rattle.std.specs.Prelude.{◌≡◌, ◌⊎◌, ℕ, ◌<◌, ◌≤◌, zero, suc, true, List, length, Some, ◌↔◌}
use Rattle.std.specs.List.{slice_get, Contains}
use Rattle.tel_semantics.specs.declared.ends.How.{How}
use Rattle.tel_semantics.specs.declared.ends.How.TheVariants.{Complete, Budget}
use Rattle.tel_settings.specs.declared.fields.Stop.{Stop}
use Rattle.tel_settings.specs.declared.fields.Stop.TheVariants.{Sat, Unsat, Unknown}
use Rattle.tel_settings.specs.declared.fields.Settings.{Settings}
use Rattle.tel_settings.specs.Run.{Ending, is_run, run_status}

-- the end of a length meets the stop rule: `sat` by some trace, `unsat` by none where all were listed, and `unknown` by the budget
abbrev pub IsMet : Stop → How → ℕ → Type 0
IsMet Sat how traces = 0 < traces
IsMet Unsat how traces = (how ≡ Complete) × (traces ≡ 0)
IsMet Unknown how traces = how ≡ Budget

-- the end of length n, where the first in the list is that of length 1
abbrev pub EndsAs : List Ending → ℕ → Ending → Type 0
EndsAs ends zero end = ⊥
EndsAs ends (suc before) end = slice_get ends before ≡ Some end

-- the run stops after length n: this is at least imin, and meets the stop rule
abbrev pub StopsAfter : Settings → List Ending → ℕ → Type 0
StopsAfter settings ends n = (end : Ending) × EndsAs ends n end × (settings.imin ≤ n) × IsMet settings.stop end.how end.traces

-- these are the ends of a run: those of the lengths 1, 2, .. which are at most imax; no length before the last one stops the run; and the last one
-- stops it, or is imax
pub record IsRun (settings : Settings) (ends : List Ending) : Type 0 where
  pub most : length ends ≤ settings.imax
  pub going : (n : ℕ) → n < length ends → ¬ StopsAfter settings ends n
  pub last : StopsAfter settings ends (length ends) ⊎ (length ends ≡ settings.imax)

-- which lists of ends are those of a run
abbrev pub RunsSo : Type 0
RunsSo = (settings : Settings) (ends : List Ending) → is_run settings ends ≡ true ↔ IsRun settings ends

-- some length has a trace
abbrev pub HasTrace : List Ending → Type 0
HasTrace ends = (end : Ending) × Contains ends end × (0 < end.traces)

-- some length was cut by the budget
abbrev pub HasCut : List Ending → Type 0
HasCut ends = (end : Ending) × Contains ends end × (end.how ≡ Budget)

-- the status is 10 exactly where some length has a trace, 30 exactly where none has and the budget cut one, and else 20
pub record Tells (ends : List Ending) : Type 0 where
  pub found : HasTrace ends → run_status ends ≡ 10
  pub cut : ¬ HasTrace ends → HasCut ends → run_status ends ≡ 30
  pub missed : ¬ HasTrace ends → ¬ HasCut ends → run_status ends ≡ 20

abbrev pub StatusTells : Type 0
StatusTells = (ends : List Ending) → Tells ends
