-- The ends of a run, by the recursion and in words, and its status.
use Rattle.std.proofs.Common.{◌≡◌, ℕ, ◌+◌, ◌<◌, ◌≤◌, zero, suc, Bool, true, false, List, [], ◌∷◌, length, Some, refl, sym, ap, subst, ◌∙◌, inl, inr, ⊎_elim, arith}
use Rattle.std.specs.Prelude.{◌==◌, nat_le, nat_lt}
use Rattle.std.specs.List.{slice_get, list_any}
use Rattle.std.proofs.lemmas.Bool.{and_parts, and_from, cases_Bool, cond-true, cond-false, false≢true, le-leb, leb-true, ltb-true}
use Rattle.std.proofs.lemmas.Bool.Decides.{leb_tells}
use Rattle.std.proofs.lemmas.Option.{same_Some}
use Rattle.tel_base.proofs.Members.{In-from_Contains, Contains-from_In, any_found, any_from}
use Rattle.tel_semantics.specs.declared.ends.How.{How}
use Rattle.tel_semantics.specs.declared.ends.How.TheVariants.{Complete, Limit, Budget}
use Rattle.tel_settings.specs.declared.fields.Stop.{Stop}
use Rattle.tel_settings.specs.declared.fields.Stop.TheVariants.{Sat, Unsat, Unknown}
use Rattle.tel_settings.specs.declared.fields.Settings.{Settings}
use Rattle.tel_settings.specs.Run.{Ending, is_complete, is_unfinished, is_met, stops_at, is_empty, is_run_from}
use Rattle.tel_settings.specs.Laws.{IsMet, StopsAfter, IsRun, RunsSo, HasTrace, HasCut, StatusTells}

-- the run stops after this end, which is that of length n
abbrev stops_with : Settings → ℕ → Ending → Bool
stops_with settings n end = stops_at settings n end.how end.traces

-- the run stops after the end at this place of those from length n on
abbrev StopsFrom : Settings → ℕ → List Ending → ℕ → Type 0
StopsFrom settings n ends i = (end : Ending) × (slice_get ends i ≡ Some end) × (stops_with settings (n + i) end ≡ true)

-- these are the ends from length n on, where so many lengths are left
record RunsFrom (settings : Settings) (n more : ℕ) (ends : List Ending) : Type 0 where
  most : length ends ≤ more
  going : (i : ℕ) (end : Ending) → slice_get ends i ≡ Some end → i + 1 < length ends → stops_with settings (n + i) end ≡ false
  last : length ends < more → (i : ℕ) × (i + 1 ≡ length ends) × StopsFrom settings n ends i

later : (settings : Settings) (n i : ℕ) (end : Ending) (b : Bool) → stops_with settings (n + 1 + i) end ≡ b → stops_with settings (n + suc i) end ≡ b
later settings n i end b h =
    let same : n + 1 + i ≡ n + suc i = omega arith in
    subst (λ k. stops_with settings k end ≡ b) same h

sooner : (settings : Settings) (n i : ℕ) (end : Ending) (b : Bool) → stops_with settings (n + suc i) end ≡ b → stops_with settings (n + 1 + i) end ≡ b
sooner settings n i end b h =
    let same : n + suc i ≡ n + 1 + i = omega arith in
    subst (λ k. stops_with settings k end ≡ b) same h

at_once : (settings : Settings) (n : ℕ) (end : Ending) (b : Bool) → stops_with settings n end ≡ b → stops_with settings (n + 0) end ≡ b
at_once settings n end b h =
    let same : n ≡ n + 0 = omega arith in
    subst (λ k. stops_with settings k end ≡ b) same h

at_last : (settings : Settings) (n : ℕ) (end : Ending) (b : Bool) → stops_with settings (n + 0) end ≡ b → stops_with settings n end ≡ b
at_last settings n end b h =
    let same : n + 0 ≡ n = omega arith in
    subst (λ k. stops_with settings k end ≡ b) same h

-- a list without elements
only : (ends : List Ending) → is_empty ends ≡ true → ends ≡ []
only [] h = refl
only (end ∷ ends) h = absurd (false≢true h)

-- no end
no_more : (settings : Settings) (n : ℕ) → RunsFrom settings n 0 []
no_more settings n = record { most = omega arith; going = λ i end e h. absurd (omega arith); last = λ h. absurd (omega arith) }

-- one end, after which the run stops
one_more : (settings : Settings) (n more : ℕ) (end : Ending) → stops_with settings n end ≡ true → RunsFrom settings n (suc more) (end ∷ [])
one_more settings n more end t = record {
  most = omega arith;
  going = λ i other e h. absurd (omega arith);
  last = λ h. (0, omega arith, (end, refl, at_once settings n end true t));
}

-- one end, after which the run goes on
going_on : (settings : Settings) (n : ℕ) (end : Ending) (ends : List Ending) (more : ℕ) → stops_with settings n end ≡ false → RunsFrom settings (n + 1) more ends → (i : ℕ) (other : Ending) → slice_get (end ∷ ends) i ≡ Some other → i + 1 < length (end ∷ ends) → stops_with settings (n + i) other ≡ false
going_on settings n end ends more f r zero other e h = subst (λ x. stops_with settings (n + 0) x ≡ false) (same_Some end other e) (at_once settings n end false f)
going_on settings n end ends more f r (suc i) other e h = later settings n i other false (r.going i other e (omega arith))

goes_more : (settings : Settings) (n more : ℕ) (end : Ending) (ends : List Ending) → stops_with settings n end ≡ false → RunsFrom settings (n + 1) more ends → RunsFrom settings n (suc more) (end ∷ ends)
goes_more settings n more end ends f r = record {
  most = omega (arith, r.most);
  going = going_on settings n end ends more f r;
  last = λ h. let w = r.last (omega arith) in (suc w.0, omega (arith, w.1), (w.2.0, w.2.1, later settings n w.0 w.2.0 true w.2.2));
}

runs_from : (settings : Settings) (n more : ℕ) (ends : List Ending) → is_run_from settings n more ends ≡ true → RunsFrom settings n more ends
runs_from settings n zero [] h = no_more settings n
runs_from settings n zero (end ∷ ends) h = absurd (false≢true h)
runs_from settings n (suc more) [] h = absurd (false≢true h)
runs_from settings n (suc more) (end ∷ ends) h =
    ⊎_elim (λ t. let none : ends ≡ [] = only ends (sym (cond-true (stops_with settings n end) (is_empty ends) (is_run_from settings (n + 1) more ends) t) ∙ h) in subst (λ xs. RunsFrom settings n (suc more) (end ∷ xs)) (sym none) (one_more settings n more end t)) (λ f. goes_more settings n more end ends f (runs_from settings (n + 1) more ends (sym (cond-false (stops_with settings n end) (is_empty ends) (is_run_from settings (n + 1) more ends) f) ∙ h))) (cases_Bool (stops_with settings n end))

-- after the run has stopped there is no end
stopped : (settings : Settings) (n more : ℕ) (end : Ending) (ends : List Ending) → RunsFrom settings n (suc more) (end ∷ ends) → stops_with settings n end ≡ true → is_empty ends ≡ true
stopped settings n more end [] r t = refl
stopped settings n more end (next ∷ ends) r t =
    absurd (false≢true (sym (at_last settings n end false (r.going 0 end refl (omega arith))) ∙ t))

-- the last end is that behind which the run stops, also without the first one
last_later : (settings : Settings) (n : ℕ) (end : Ending) (ends : List Ending) → stops_with settings n end ≡ false → (i : ℕ) → i + 1 ≡ length (end ∷ ends) → StopsFrom settings n (end ∷ ends) i → (k : ℕ) × (k + 1 ≡ length ends) × StopsFrom settings (n + 1) ends k
last_later settings n end ends f zero e s =
    let here : stops_with settings n end ≡ true = subst (λ x. stops_with settings n x ≡ true) (sym (same_Some end s.0 s.1)) (at_last settings n s.0 true s.2) in
    absurd (false≢true (sym f ∙ here))
last_later settings n end ends f (suc i) e s = (i, omega (arith, e), (s.0, s.1, sooner settings n i s.0 true s.2))

without_first : (settings : Settings) (n more : ℕ) (end : Ending) (ends : List Ending) → stops_with settings n end ≡ false → RunsFrom settings n (suc more) (end ∷ ends) → RunsFrom settings (n + 1) more ends
without_first settings n more end ends f r = record {
  most = omega (arith, r.most);
  going = λ i other e h. sooner settings n i other false (r.going (suc i) other e (omega (arith, h)));
  last = λ h. let w = r.last (omega (arith, h)) in last_later settings n end ends f w.0 w.1 w.2;
}

runs_to : (settings : Settings) (n more : ℕ) (ends : List Ending) → RunsFrom settings n more ends → is_run_from settings n more ends ≡ true
runs_to settings n zero [] r = refl
runs_to settings n zero (end ∷ ends) r = absurd (omega (arith, r.most))
runs_to settings n (suc more) [] r = let w = r.last (omega arith) in absurd (omega (arith, w.1))
runs_to settings n (suc more) (end ∷ ends) r =
    ⊎_elim (λ t. cond-true (stops_with settings n end) (is_empty ends) (is_run_from settings (n + 1) more ends) t ∙ stopped settings n more end ends r t) (λ f. cond-false (stops_with settings n end) (is_empty ends) (is_run_from settings (n + 1) more ends) f ∙ runs_to settings (n + 1) more ends (without_first settings n more end ends f r)) (cases_Bool (stops_with settings n end))

-- the two forms of the stop rule are one
complete-from : (how : How) → how ≡ Complete → is_complete how ≡ true
complete-from how e = ap is_complete e

complete-to : (how : How) → is_complete how ≡ true → how ≡ Complete
complete-to Complete h = refl
complete-to Limit h = absurd (false≢true h)
complete-to Budget h = absurd (false≢true h)

cut-from : (how : How) → how ≡ Budget → is_unfinished how ≡ true
cut-from how e = ap is_unfinished e

cut-to : (how : How) → is_unfinished how ≡ true → how ≡ Budget
cut-to Complete h = absurd (false≢true h)
cut-to Limit h = absurd (false≢true h)
cut-to Budget h = refl

none-from : (traces : ℕ) → traces ≡ 0 → (traces == 0) ≡ true
none-from traces e = ap (λ x. x == 0) e

none-to : (traces : ℕ) → (traces == 0) ≡ true → traces ≡ 0
none-to traces h = grind arith

met-from : (rule : Stop) (how : How) (traces : ℕ) → IsMet rule how traces → is_met rule how traces ≡ true
met-from Sat how traces h = le-leb 1 traces (omega arith)
met-from Unsat how traces h = and_from _ _ (complete-from how h.0) (none-from traces h.1)
met-from Unknown how traces h = cut-from how h

met-to : (rule : Stop) (how : How) (traces : ℕ) → is_met rule how traces ≡ true → IsMet rule how traces
met-to Sat how traces h = ltb-true 0 traces h
met-to Unsat how traces h = let both = and_parts (is_complete how) (traces == 0) h in (complete-to how both.0, none-to traces both.1)
met-to Unknown how traces h = cut-to how h

-- the run stops after length n, by the test and in words
stops-to : (settings : Settings) (n : ℕ) (end : Ending) → stops_with settings n end ≡ true → (settings.imin ≤ n) × IsMet settings.stop end.how end.traces
stops-to settings n end h =
    let both = and_parts (nat_le settings.imin n) (is_met settings.stop end.how end.traces) h in
    (leb-true settings.imin n both.0, met-to settings.stop end.how end.traces both.1)

stops-from : (settings : Settings) (n : ℕ) (end : Ending) → settings.imin ≤ n → IsMet settings.stop end.how end.traces → stops_with settings n end ≡ true
stops-from settings n end least met = and_from _ _ (le-leb settings.imin n least) (met-from settings.stop end.how end.traces met)

goes_on : (settings : Settings) (ends : List Ending) → RunsFrom settings 1 settings.imax ends → (n : ℕ) → n < length ends → StopsAfter settings ends n → ⊥
goes_on settings ends r zero h s = absurd s.1
goes_on settings ends r (suc i) h s =
    let still : stops_with settings (1 + i) s.0 ≡ false = r.going i s.0 s.1 (omega (arith, h)) in
    let same : 1 + i ≡ suc i = omega arith in
    false≢true (sym (subst (λ k. stops_with settings k s.0 ≡ false) same still) ∙ stops-from settings (suc i) s.0 s.2 s.3)

stops_last : (settings : Settings) (ends : List Ending) → (i : ℕ) → i + 1 ≡ length ends → StopsFrom settings 1 ends i → StopsAfter settings ends (length ends)
stops_last settings ends i e s =
    let same : 1 + i ≡ suc i = omega arith in
    let told = stops-to settings (suc i) s.0 (subst (λ k. stops_with settings k s.0 ≡ true) same s.2) in
    let all : suc i ≡ length ends = omega (arith, e) in
    subst (λ k. StopsAfter settings ends k) all (s.0, s.1, told.0, told.1)

run-to : (settings : Settings) (ends : List Ending) → RunsFrom settings 1 settings.imax ends → IsRun settings ends
run-to settings ends r = record {
  most = r.most;
  going = goes_on settings ends r;
  last = ⊎_elim (λ w. let l = r.last (omega (arith, w.1)) in inl (stops_last settings ends l.0 l.1 l.2)) (λ w. inr (omega (arith, w.1, r.most))) (leb_tells (length ends + 1) settings.imax);
}

-- the length before a place is its number
stops_at_place : (settings : Settings) (ends : List Ending) (n : ℕ) → StopsAfter settings ends n → (i : ℕ) × (i + 1 ≡ n) × StopsFrom settings 1 ends i
stops_at_place settings ends zero s = absurd s.1
stops_at_place settings ends (suc i) s =
    let same : suc i ≡ 1 + i = omega arith in
    (i, omega arith, (s.0, s.1, subst (λ k. stops_with settings k s.0 ≡ true) same (stops-from settings (suc i) s.0 s.2 s.3)))

run-goes : (settings : Settings) (ends : List Ending) → IsRun settings ends → (i : ℕ) (end : Ending) → slice_get ends i ≡ Some end → i + 1 < length ends → stops_with settings (1 + i) end ≡ false
run-goes settings ends r i end e h =
    let same : 1 + i ≡ suc i = omega arith in
    ⊎_elim (λ t. let told = stops-to settings (suc i) end (subst (λ k. stops_with settings k end ≡ true) same t) in absurd (r.going (suc i) (omega (arith, h)) (end, e, told.0, told.1))) (λ f. f) (cases_Bool (stops_with settings (1 + i) end))

run-from : (settings : Settings) (ends : List Ending) → IsRun settings ends → RunsFrom settings 1 settings.imax ends
run-from settings ends r = record {
  most = r.most;
  going = run-goes settings ends r;
  last = λ h. ⊎_elim (λ s. stops_at_place settings ends (length ends) s) (λ e. absurd (omega (arith, h, e))) r.last;
}

pub runs_so : RunsSo
runs_so settings ends =
    (λ h. run-to settings ends (runs_from settings 1 settings.imax ends h), λ r. runs_to settings 1 settings.imax ends (run-from settings ends r))

-- some end passes a test, or none does
abbrev has_trace : Ending → Bool
has_trace end = nat_lt 0 end.traces

abbrev is_cut : Ending → Bool
is_cut end = is_unfinished end.how

trace-any : (ends : List Ending) → HasTrace ends → list_any has_trace ends ≡ true
trace-any ends h = any_from has_trace ends h.0 (In-from_Contains ends h.0 h.1) (le-leb 1 h.0.traces (omega (arith, h.2)))

any-trace : (ends : List Ending) → list_any has_trace ends ≡ true → HasTrace ends
any-trace ends h = let w = any_found has_trace ends h in (w.0, Contains-from_In ends w.0 w.1, ltb-true 0 w.0.traces w.2)

no_trace : (ends : List Ending) → (HasTrace ends → ⊥) → list_any has_trace ends ≡ false
no_trace ends h = ⊎_elim (λ t. absurd (h (any-trace ends t))) (λ f. f) (cases_Bool (list_any has_trace ends))

cut-any : (ends : List Ending) → HasCut ends → list_any is_cut ends ≡ true
cut-any ends h = any_from is_cut ends h.0 (In-from_Contains ends h.0 h.1) (cut-from h.0.how h.2)

any-cut : (ends : List Ending) → list_any is_cut ends ≡ true → HasCut ends
any-cut ends h = let w = any_found is_cut ends h in (w.0, Contains-from_In ends w.0 w.1, cut-to w.0.how w.2)

no_cut : (ends : List Ending) → (HasCut ends → ⊥) → list_any is_cut ends ≡ false
no_cut ends h = ⊎_elim (λ t. absurd (h (any-cut ends t))) (λ f. f) (cases_Bool (list_any is_cut ends))

pub status_tells : StatusTells
status_tells ends = record {
  found = λ h. rw (trace-any ends h);
  cut = λ n h. rw (no_trace ends n, cut-any ends h);
  missed = λ n m. rw (no_trace ends n, no_cut ends m);
}
