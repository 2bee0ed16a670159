-- The ways in which a turn ends.
use Rattle.std.proofs.Common.{◌≡◌, ℕ, zero, suc, ◌+◌, ◌<◌, ◌≤◌, Bool, true, false, List, [], ◌∷◌, ◌++◌, length, drop, replicate, refl, sym, ap, ◌∙◌, subst, arith, append_assoc}
use Rattle.std.specs.Prelude.{Option, Some, None, slice_get, if◌then◌else◌}
use Rattle.std.specs.Option.{option_copied}
use Rattle.std.proofs.lemmas.List.{append-nil}
use Rattle.tel_term.specs.declared.terms.Value.{Value}
use Rattle.join_plans.specs.declared.columns.Column.{Column}
use Rattle.join_plans.specs.Join.{Expression, Comparison, Step, Row, Equal, Compare, put, put_row, and_then, then_found, answers, IsPlan}
use Rattle.join_plans.proofs.Arranged.{length_none}
use Rattle.plan_search.specs.declared.searching.Frame.{Frame}
use Rattle.plan_search.specs.Putting.{Stays}
use Rattle.plan_search.specs.Trying.{Try, tries}
use Rattle.plan_search.specs.Searching.{marks_at, Opens, AgreeOn, IsTurned, Turns}
use Rattle.plan_search.proofs.Dropping.{drop_at}
use Rattle.plan_search.proofs.Marks.{marks_long, plan_from, agree_put}
use Rattle.plan_search.proofs.Turning.{rows_end, row_misfits, row_fits, step_fails, step_passes}

pub some_at : {X : Type 0} (xs : List X) (i : ℕ) → i < length xs → (x : X) × (slice_get xs i ≡ Some x)
some_at [] i less = absurd (omega (arith, less))
some_at (x ∷ xs) zero less = (x, refl)
some_at (x ∷ xs) (suc i) less = some_at xs i (omega (arith, less))

module _ (plan : List Step) (frame : Frame) (old : List Value) (stack : List Frame) (is : IsPlan (replicate (length old) false) plan) where
  nothing : (new : List Value) (after : List Frame) → after ≡ stack → IsTurned plan frame old new [] → Turns plan frame old new stack after
  nothing new after same turned = record { pushed = []; is = same ∙ sym (append-nil stack); turned = turned }

  -- ---- rows

  module _ (cs : List Column) (rows : List (List Value)) (step : slice_get plan frame.level ≡ Some (Row cs rows)) where
    here : drop frame.level plan ≡ Row cs rows ∷ drop (suc frame.level) plan
    here = drop_at plan frame.level (Row cs rows) step

    pub rows_turn_end : length (tries rows (option_copied frame.listed)) ≤ frame.turn → Turns plan frame old old stack stack
    rows_turn_end past = nothing old stack refl (rows_end plan (drop (suc frame.level) plan) frame old is cs rows here past)

    module _ (less : frame.turn < length (tries rows (option_copied frame.listed))) (new : List Value) (long : length new ≡ length old) (stays : Stays cs old new) (after : List Frame)
        (put : after ≡ stack ++ record { level = frame.level; listed = frame.listed; turn = frame.turn + 1 } ∷ []) where
      pub rows_turn_misfits : ((row : Try) → slice_get (tries rows (option_copied frame.listed)) frame.turn ≡ Some row → and_then (λ r. put_row cs r old) row ≡ None) → Turns plan frame old new stack after
      rows_turn_misfits none =
          let try = some_at (tries rows (option_copied frame.listed)) frame.turn less in
          record {
            pushed = record { level = frame.level; listed = frame.listed; turn = frame.turn + 1 } ∷ [];
            is = put;
            turned = row_misfits plan (drop (suc frame.level) plan) frame old is cs rows here try.0 try.1 new long stays (none try.0 try.1);
          }

      pub rows_turn_fits : ((row : Try) → slice_get (tries rows (option_copied frame.listed)) frame.turn ≡ Some row → and_then (λ r. put_row cs r old) row ≡ Some new) → (end : List Frame) → Opens plan frame.level new after end → Turns plan frame old new stack end
      rows_turn_fits some end opens =
          let try = some_at (tries rows (option_copied frame.listed)) frame.turn less in
          let next : Frame = record { level = frame.level; listed = frame.listed; turn = frame.turn + 1 } in
          record {
            pushed = next ∷ opens.fresh ∷ [];
            is = opens.is ∙ ap (λ (l : List Frame). l ++ opens.fresh ∷ []) put ∙ append_assoc stack (next ∷ []) (opens.fresh ∷ []);
            turned = row_fits plan (drop (suc frame.level) plan) frame old is cs rows here try.0 try.1 new long stays (some try.0 try.1) opens.fresh opens.entered;
          }

  -- ---- a setting equation or a check

  value_then : (f : List Value → List (List Value)) (g : Value → Option (List Value)) (o : Option Value) → then_found (λ x. then_found f (g x)) o ≡ then_found f (and_then g o)
  value_then f g None = refl
  value_then f g (Some x) = refl

  module _ (c : Column) (e : Expression) (step : slice_get plan frame.level ≡ Some (Equal c e)) (new : List Value) (long : length new ≡ length old) (stays : Stays (c ∷ []) old new) where
    equal_here : drop frame.level plan ≡ Equal c e ∷ drop (suc frame.level) plan
    equal_here = drop_at plan frame.level (Equal c e) step

    equal_agree : AgreeOn (marks_at (replicate (length old) false) plan frame.level) old new
    equal_agree =
        let marks = marks_at (replicate (length old) false) plan frame.level in
        let from = subst (λ (p : List Step). IsPlan marks p) equal_here (plan_from (replicate (length old) false) plan frame.level is) in
        agree_put marks (c ∷ []) old new (from.1, tt) (marks_long (replicate (length old) false) plan frame.level ∙ length_none (length old)) long stays

    found : answers (Equal c e ∷ drop (suc frame.level) plan) old ≡ then_found (answers (drop (suc frame.level) plan)) (and_then (λ x. put c x old) (e.value old))
    found = value_then (answers (drop (suc frame.level) plan)) (λ x. put c x old) (e.value old)

    pub equal_turn_fails : and_then (λ x. put c x old) (e.value old) ≡ None → Turns plan frame old new stack stack
    equal_turn_fails none =
        nothing new stack refl
        (step_fails plan (drop (suc frame.level) plan) frame old is (Equal c e) equal_here refl refl new equal_agree (found ∙ ap (then_found (answers (drop (suc frame.level) plan))) none))

    pub equal_turn_passes : and_then (λ x. put c x old) (e.value old) ≡ Some new → (end : List Frame) → Opens plan frame.level new stack end → Turns plan frame old new stack end
    equal_turn_passes some end opens = record {
      pushed = opens.fresh ∷ [];
      is = opens.is;
      turned =
          step_passes plan (drop (suc frame.level) plan) frame old is (Equal c e) equal_here refl refl new equal_agree (found ∙ ap (then_found (answers (drop (suc frame.level) plan))) some) opens.fresh opens.entered;
    }

  -- ---- a comparison

  module _ (c : Comparison) (step : slice_get plan frame.level ≡ Some (Compare c)) where
    compare_here : drop frame.level plan ≡ Compare c ∷ drop (suc frame.level) plan
    compare_here = drop_at plan frame.level (Compare c) step

    compare_agree : AgreeOn (marks_at (replicate (length old) false) plan frame.level) old old
    compare_agree = record { same = λ v known. refl; marks = marks_long (replicate (length old) false) plan frame.level ∙ length_none (length old); long = refl }

    pub compare_turn_fails : c.holds old ≡ false → Turns plan frame old old stack stack
    compare_turn_fails fails =
        nothing old stack refl
        (step_fails plan (drop (suc frame.level) plan) frame old is (Compare c) compare_here refl refl old compare_agree (ap (λ (t : Bool). if t then answers (drop (suc frame.level) plan) old else []) fails))

    pub compare_turn_passes : c.holds old ≡ true → (end : List Frame) → Opens plan frame.level old stack end → Turns plan frame old old stack end
    compare_turn_passes holds end opens = record {
      pushed = opens.fresh ∷ [];
      is = opens.is;
      turned =
          step_passes plan (drop (suc frame.level) plan) frame old is (Compare c) compare_here refl refl old compare_agree (ap (λ (t : Bool). if t then answers (drop (suc frame.level) plan) old else []) holds) opens.fresh opens.entered;
    }
