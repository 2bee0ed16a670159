-- A run: how far it goes by the ends of its lengths, and its status.
use Rattle.std.specs.Prelude.{ℕ, ◌+◌, zero, suc, Bool, true, false, ◌&&◌, ◌==◌, List, [], ◌∷◌, nat_le, nat_lt, if◌then◌else◌}
use Rattle.std.specs.List.{list_any}
use Rattle.tel_semantics.specs.declared.ends.How.{How}
use Rattle.tel_semantics.specs.declared.ends.How.TheVariants.{Complete, Limit, Budget}
use Rattle.tel_settings.specs.declared.fields.Stop.{Stop}
use Rattle.tel_settings.specs.declared.fields.Stop.TheVariants.{Sat, Unsat, Unknown}
use Rattle.tel_settings.specs.declared.fields.Settings.{Settings}

-- the end of a length: how it ended, and how many of its traces were printed
pub record Ending : Type 0 where
  pub how : How
  pub traces : ℕ

abbrev pub is_complete : How → Bool
is_complete Complete = true
is_complete Limit = false
is_complete Budget = false

abbrev pub is_unfinished : How → Bool
is_unfinished Complete = false
is_unfinished Limit = false
is_unfinished Budget = true

-- the stop rule is met: `sat` by a trace, `unsat` by a length that is complete and has none, `unknown` by one that the budget cut
abbrev pub is_met : Stop → How → ℕ → Bool
is_met Sat how traces = nat_lt 0 traces
is_met Unsat how traces = is_complete how && traces == 0
is_met Unknown how traces = is_unfinished how

-- the run stops after length n, which ended so
abbrev pub stops_at : Settings → ℕ → How → ℕ → Bool
stops_at settings n how traces = nat_le settings.imin n && is_met settings.stop how traces

-- there is no end
abbrev pub is_empty : List Ending → Bool
is_empty [] = true
is_empty (end ∷ ends) = false

-- these are the ends of a run from length n on, where so many lengths are left: each length up to the first after which the run stops
abbrev pub is_run_from : Settings → ℕ → ℕ → List Ending → Bool
is_run_from settings n zero ends = is_empty ends
is_run_from settings n (suc more) [] = false
is_run_from settings n (suc more) (end ∷ ends) = if stops_at settings n end.how end.traces then is_empty ends else is_run_from settings (n + 1) more ends

-- these are the ends of the lengths of a run: 1, 2, .. up to imax, and none after the run has stopped
abbrev pub is_run : Settings → List Ending → Bool
is_run settings ends = is_run_from settings 1 settings.imax ends

-- the status: 10 where a length has a trace, else 30 where the budget cut one, else 20
abbrev pub run_status : List Ending → ℕ
run_status ends = if list_any (λ end. nat_lt 0 end.traces) ends then 10 else (if list_any (λ end. is_unfinished end.how) ends then 30 else 20)
