-- What a turn does to what is left.
use Rattle.std.proofs.Common.{◌≡◌, ℕ, zero, suc, ◌+◌, ◌<◌, ◌≤◌, Bool, false, List, [], ◌∷◌, ◌++◌, length, drop, replicate, refl, sym, ap, ap₂, ◌∙◌, subst, arith, add-one}
use Rattle.std.specs.Prelude.{Option, Some, None, slice_get}
use Rattle.std.specs.Option.{option_copied}
use Rattle.tel_term.specs.declared.terms.Value.{Value}
use Rattle.join_plans.specs.declared.columns.Column.{Column}
use Rattle.join_plans.specs.Join.{Step, Row, put_row, and_then, then_found, answers, IsPlan}
use Rattle.join_plans.proofs.Arranged.{length_none}
use Rattle.plan_search.specs.declared.searching.Frame.{Frame}
use Rattle.plan_search.specs.Putting.{Stays}
use Rattle.plan_search.specs.Trying.{Try, tries, behind, all_behind}
use Rattle.plan_search.specs.Searching.{frame_finds, finds, marks_at, times, turns, frame_tries, frame_turns, most_rows, IsEntered, AgreeOn, IsTurned}
use Rattle.plan_search.proofs.Dropping.{drop_next, drop_past, drop_at, dropped_within}
use Rattle.plan_search.proofs.Agreeing.{behind_agree}
use Rattle.plan_search.proofs.Marks.{marks_long, plan_from, agree_put}

-- ---- counts of turns

times_more : (a b n : ℕ) → a ≤ b → times a n ≤ times b n
times_more zero b n less = omega arith
times_more (suc a) zero n less = absurd (omega (arith, less))
times_more (suc a) (suc b) n less = omega (arith, times_more a b n (omega (arith, less)))

turns_more : (most steps a b : ℕ) → a ≤ b → turns most steps a ≤ turns most steps b
turns_more most zero a b less = omega arith
turns_more most (suc steps) a b less = omega (arith, times_more a b (1 + turns most steps most) less)

pub some_turn : (most steps count : ℕ) → 0 < turns most steps count
some_turn most zero count = omega arith
some_turn most (suc steps) count = omega arith

row_turns : (most steps left few : ℕ) → few ≤ most → turns most (suc steps) left + turns most steps few < turns most (suc steps) (suc left)
row_turns most steps left few less = omega (arith, turns_more most steps few most less)

left_turns : (most steps left : ℕ) → turns most (suc steps) left < turns most (suc steps) (suc left)
left_turns most steps left = omega arith

step_turns : (most steps few : ℕ) → few ≤ most → turns most steps few < turns most (suc steps) 1
step_turns most steps few less = omega (arith, turns_more most steps few most less)

-- ---- values

same_values : (known : List Bool) (a : List Value) → length known ≡ length a → AgreeOn known a a
same_values known a marks = record { same = λ v is. refl; marks = marks; long = refl }

then_some : (f : List Value → List (List Value)) (o : Option (List Value)) (x : List Value) → o ≡ Some x → then_found f o ≡ f x
then_some f o x e = ap (then_found f) e

then_none : (f : List Value → List (List Value)) (o : Option (List Value)) → o ≡ None → then_found f o ≡ []
then_none f o e = ap (then_found f) e

value_then : (f : List Value → List (List Value)) (g : Value → Option (List Value)) (o : Option Value) → then_found (λ x. then_found f (g x)) o ≡ then_found f (and_then g o)
value_then f g None = refl
value_then f g (Some x) = refl

-- ---- a plan at a level

module _ (plan more : List Step) (frame : Frame) (old : List Value) (is : IsPlan (replicate (length old) false) plan) where
  abbrev marks : List Bool
  marks = marks_at (replicate (length old) false) plan frame.level

  marks_old : length marks ≡ length old
  marks_old = marks_long (replicate (length old) false) plan frame.level ∙ length_none (length old)

  at_level : (step : Step) → drop frame.level plan ≡ step ∷ more → IsPlan marks (step ∷ more)
  at_level step here = subst (λ (p : List Step). IsPlan marks p) here (plan_from (replicate (length old) false) plan frame.level is)

  level_within : (step : Step) → drop frame.level plan ≡ step ∷ more → frame.level < length plan
  level_within step here = dropped_within plan more frame.level step here

  next_level : (step : Step) → drop frame.level plan ≡ step ∷ more → drop (frame.level + 1) plan ≡ more
  next_level step here = ap (λ (n : ℕ). drop n plan) (add-one frame.level) ∙ drop_next plan more frame.level step here

  -- ---- a row

  abbrev left : List (List Value) → List Try
  left rows = tries rows (option_copied frame.listed)

  abbrev next : Frame
  next = record { level = frame.level; listed = frame.listed; turn = frame.turn + 1 }

  pub rows_end : (cs : List Column) (rows : List (List Value)) → drop frame.level plan ≡ Row cs rows ∷ more → length (left rows) ≤ frame.turn → IsTurned plan frame old old []
  rows_end cs rows here past = record {
    same = sym (ap (λ (p : List Step). frame_finds p old frame) here ∙ ap (all_behind cs more old) (drop_past (left rows) frame.turn past));
    stays = same_values marks old marks_old;
    rise = tt;
    fewer = some_turn (most_rows plan) (length (drop frame.level plan)) (frame_tries (drop frame.level plan) frame);
  }

  module _ (cs : List Column) (rows : List (List Value)) (here : drop frame.level plan ≡ Row cs rows ∷ more) (try : Try) (tried : slice_get (left rows) frame.turn ≡ Some try) (new : List Value) (long : length new ≡ length old) (stays : Stays cs old new) where
    agree : AgreeOn marks old new
    agree = agree_put marks cs old new (at_level (Row cs rows) here).0 marks_old long stays

    old_finds : finds plan old frame ≡ behind cs more old try ++ all_behind cs more old (drop (suc frame.turn) (left rows))
    old_finds = ap (λ (p : List Step). frame_finds p old frame) here ∙ ap (all_behind cs more old) (drop_at (left rows) frame.turn try tried)

    next_finds : finds plan new next ≡ all_behind cs more old (drop (suc frame.turn) (left rows))
    next_finds =
        ap (λ (p : List Step). frame_finds p new next) here
        ∙ ap (λ (n : ℕ). all_behind cs more new (drop n (left rows))) (add-one frame.turn)
        ∙ sym (behind_agree cs more marks old new (drop (suc frame.turn) (left rows)) (at_level (Row cs rows) here).0 (at_level (Row cs rows) here).1 agree)

    old_turns : frame_turns (most_rows plan) (drop frame.level plan) frame ≡ turns (most_rows plan) (suc (length more)) (suc (length (drop (suc frame.turn) (left rows))))
    old_turns =
        ap (λ (p : List Step). frame_turns (most_rows plan) p frame) here ∙ ap (λ (l : List Try). turns (most_rows plan) (suc (length more)) (length l)) (drop_at (left rows) frame.turn try tried)

    next_turns : frame_turns (most_rows plan) (drop frame.level plan) next ≡ turns (most_rows plan) (suc (length more)) (length (drop (suc frame.turn) (left rows)))
    next_turns =
        ap (λ (p : List Step). frame_turns (most_rows plan) p next) here ∙ ap (λ (n : ℕ). turns (most_rows plan) (suc (length more)) (length (drop n (left rows)))) (add-one frame.turn)

    pub row_misfits : and_then (λ row. put_row cs row old) try ≡ None → IsTurned plan frame old new (next ∷ [])
    row_misfits none = record {
      same = next_finds ∙ sym (old_finds ∙ ap (λ (l : List (List Value)). l ++ all_behind cs more old (drop (suc frame.turn) (left rows))) (then_none (answers more) (and_then (λ row. put_row cs row old) try) none));
      stays = agree;
      rise = (omega arith, omega (arith, level_within (Row cs rows) here), tt);
      fewer = omega (arith, old_turns, next_turns, left_turns (most_rows plan) (length more) (length (drop (suc frame.turn) (left rows))));
    }

    pub row_fits : and_then (λ row. put_row cs row old) try ≡ Some new → (fresh : Frame) → IsEntered plan (frame.level + 1) new fresh → IsTurned plan frame old new (next ∷ fresh ∷ [])
    row_fits some fresh entered = record {
      same =
          ap₂ (λ (a b : List (List Value)). a ++ b) (entered.all ∙ ap (λ (p : List Step). answers p new) (next_level (Row cs rows) here)) next_finds
          ∙ sym (old_finds ∙ ap (λ (l : List (List Value)). l ++ all_behind cs more old (drop (suc frame.turn) (left rows))) (then_some (answers more) (and_then (λ row. put_row cs row old) try) new some));
      stays = agree;
      rise = (omega arith, omega (arith, level_within (Row cs rows) here), (omega (arith, entered.at), omega (arith, entered.at, level_within (Row cs rows) here), tt));
      fewer =
          let few = entered.few in
          let fresh_turns : frame_turns (most_rows plan) (drop fresh.level plan) fresh ≡ turns (most_rows plan) (length more) (frame_tries (drop fresh.level plan) fresh) =
          ap (λ (n : ℕ). turns (most_rows plan) n (frame_tries (drop fresh.level plan) fresh)) (ap length (ap (λ (n : ℕ). drop n plan) entered.at ∙ next_level (Row cs rows) here)) in
          let small = ap (λ (n : ℕ). frame_tries (drop n plan) fresh) entered.at in
          omega (arith, old_turns, next_turns, fresh_turns, row_turns (most_rows plan) (length more) (length (drop (suc frame.turn) (left rows))) (frame_tries (drop fresh.level plan) fresh) (omega (arith, few, small)));
    }

  -- ---- another step

  module _ (step : Step) (here : drop frame.level plan ≡ step ∷ more) (one : frame_tries (step ∷ more) frame ≡ 1) (answered : frame_finds (step ∷ more) old frame ≡ answers (step ∷ more) old) (new : List Value) (agree : AgreeOn marks old new) where
    one_turns : frame_turns (most_rows plan) (drop frame.level plan) frame ≡ turns (most_rows plan) (suc (length more)) 1
    one_turns = ap (λ (p : List Step). frame_turns (most_rows plan) p frame) here ∙ ap (turns (most_rows plan) (suc (length more))) one

    pub step_fails : answers (step ∷ more) old ≡ [] → IsTurned plan frame old new []
    step_fails none = record {
      same = sym (ap (λ (p : List Step). frame_finds p old frame) here ∙ answered ∙ none);
      stays = agree;
      rise = tt;
      fewer = some_turn (most_rows plan) (length (drop frame.level plan)) (frame_tries (drop frame.level plan) frame);
    }

    pub step_passes : answers (step ∷ more) old ≡ answers more new → (fresh : Frame) → IsEntered plan (frame.level + 1) new fresh → IsTurned plan frame old new (fresh ∷ [])
    step_passes some fresh entered = record {
      same = entered.all ∙ ap (λ (p : List Step). answers p new) (next_level step here) ∙ sym (ap (λ (p : List Step). frame_finds p old frame) here ∙ answered ∙ some);
      stays = agree;
      rise = (omega (arith, entered.at), omega (arith, entered.at, level_within step here), tt);
      fewer =
          let few = entered.few in
          let fresh_turns : frame_turns (most_rows plan) (drop fresh.level plan) fresh ≡ turns (most_rows plan) (length more) (frame_tries (drop fresh.level plan) fresh) =
          ap (λ (n : ℕ). turns (most_rows plan) n (frame_tries (drop fresh.level plan) fresh)) (ap length (ap (λ (n : ℕ). drop n plan) entered.at ∙ next_level step here)) in
          let small = ap (λ (n : ℕ). frame_tries (drop n plan) fresh) entered.at in
          omega (arith, one_turns, fresh_turns, step_turns (most_rows plan) (length more) (frame_tries (drop fresh.level plan) fresh) (omega (arith, few, small)));
    }
