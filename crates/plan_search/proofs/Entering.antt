-- A frame at the beginning of a step.
use Rattle.std.proofs.Common.{◌≡◌, ℕ, zero, suc, ◌≤◌, List, [], ◌∷◌, ◌++◌, map, length, drop, refl, sym, ap, ◌∙◌, subst, arith}
use Rattle.std.specs.Prelude.{Some, None, slice_get}
use Rattle.std.specs.Option.{option_copied}
use Rattle.tel_term.specs.declared.terms.Value.{Value}
use Rattle.join_plans.specs.declared.columns.Column.{Column}
use Rattle.join_plans.specs.Join.{Expression, Comparison, Step, Row, Equal, Compare, put_row, then_found, answers}
use Rattle.plan_search.specs.declared.searching.Frame.{Frame}
use Rattle.plan_search.specs.Trying.{tries, all_behind, AreEnough}
use Rattle.plan_search.specs.Searching.{frame_finds, frame_tries, most_rows, IsEntered}
use Rattle.plan_search.proofs.Dropping.{drop_at}

pub get_map : {X Y : Type 0} (f : X → Y) (xs : List X) (i : ℕ) (x : X) → slice_get xs i ≡ Some x → slice_get (map f xs) i ≡ Some (f x)
get_map f [] i x e = absurd (cc)
get_map f (y ∷ xs) zero x e = let same : y ≡ x = cc in ap (λ z. Some (f z)) same
get_map f (y ∷ xs) (suc i) x e = get_map f xs i x e

pub get_map_none : {X Y : Type 0} (f : X → Y) (xs : List X) (i : ℕ) → slice_get xs i ≡ None → slice_get (map f xs) i ≡ None
get_map_none f [] i e = refl
get_map_none f (y ∷ xs) zero e = absurd (cc)
get_map_none f (y ∷ xs) (suc i) e = get_map_none f xs i e

all_of_rows : (cs : List Column) (more : List Step) (env : List Value) (rows : List (List Value)) → all_behind cs more env (tries rows None) ≡ answers (Row cs rows ∷ more) env
all_of_rows cs more env [] = refl
all_of_rows cs more env (row ∷ rows) = ap (λ (l : List (List Value)). then_found (answers more) (put_row cs row env) ++ l) (all_of_rows cs more env rows)

some_row : (plan : List Step) → 1 ≤ most_rows plan
some_row [] = omega arith
some_row (Row cs rows ∷ more) = omega (arith, some_row more)
some_row (Equal c e ∷ more) = some_row more
some_row (Compare c ∷ more) = some_row more

rows_most : (plan : List Step) (level : ℕ) (cs : List Column) (rows : List (List Value)) (more : List Step) → drop level plan ≡ Row cs rows ∷ more → length rows ≤ most_rows plan
rows_most [] zero cs rows more e = absurd (cc)
rows_most [] (suc n) cs rows more e = absurd (cc)
rows_most (step ∷ plan) zero cs rows more e = subst (λ (p : List Step). length rows ≤ most_rows p) (sym e) (omega arith)
rows_most (Row ds others ∷ plan) (suc n) cs rows more e = omega (arith, rows_most plan n cs rows more e)
rows_most (Equal c v ∷ plan) (suc n) cs rows more e = rows_most plan n cs rows more e
rows_most (Compare c ∷ plan) (suc n) cs rows more e = rows_most plan n cs rows more e

past : (plan : List Step) (level : ℕ) → slice_get plan level ≡ None → drop level plan ≡ []
past [] zero none = refl
past [] (suc n) none = refl
past (step ∷ plan) zero none = absurd (cc)
past (step ∷ plan) (suc n) none = past plan n none

module _ (plan : List Step) (level : ℕ) (env : List Value) (frame : Frame) (at : frame.level ≡ level) where
  at_frame : (steps : List Step) → drop level plan ≡ steps → drop frame.level plan ≡ steps
  at_frame steps here = ap (λ (n : ℕ). drop n plan) at ∙ here

  pub enter_rows : (cs : List Column) (rows : List (List Value)) → slice_get plan level ≡ Some (Row cs rows) → frame.turn ≡ 0 → AreEnough cs rows env (option_copied frame.listed) → length (tries rows (option_copied frame.listed)) ≤ length rows
      → IsEntered plan level env frame
  enter_rows cs rows step first enough few =
      let here = drop_at plan level (Row cs rows) step in
      let more = drop (suc level) plan in
      record {
        at = at;
        all =
            ap (λ (p : List Step). frame_finds p env frame) (at_frame (Row cs rows ∷ more) here)
            ∙ ap (λ (n : ℕ). all_behind cs more env (drop n (tries rows (option_copied frame.listed)))) first
            ∙ enough more ∙ all_of_rows cs more env rows ∙ ap (λ (p : List Step). answers p env) (sym here);
        few =
            let count : frame_tries (drop level plan) frame ≡ length (tries rows (option_copied frame.listed)) =
            ap (λ (p : List Step). frame_tries p frame) here ∙ ap (λ (n : ℕ). length (drop n (tries rows (option_copied frame.listed)))) first in
            omega (arith, count, few, rows_most plan level cs rows more here);
      }

  pub enter_equal : (c : Column) (e : Expression) → slice_get plan level ≡ Some (Equal c e) → IsEntered plan level env frame
  enter_equal c e step =
      let here = drop_at plan level (Equal c e) step in
      record {
        at = at;
        all = ap (λ (p : List Step). frame_finds p env frame) (at_frame (Equal c e ∷ drop (suc level) plan) here) ∙ ap (λ (p : List Step). answers p env) (sym here);
        few = let count : frame_tries (drop level plan) frame ≡ 1 = ap (λ (p : List Step). frame_tries p frame) here in omega (arith, count, some_row plan);
      }

  pub enter_compare : (c : Comparison) → slice_get plan level ≡ Some (Compare c) → IsEntered plan level env frame
  enter_compare c step =
      let here = drop_at plan level (Compare c) step in
      record {
        at = at;
        all = ap (λ (p : List Step). frame_finds p env frame) (at_frame (Compare c ∷ drop (suc level) plan) here) ∙ ap (λ (p : List Step). answers p env) (sym here);
        few = let count : frame_tries (drop level plan) frame ≡ 1 = ap (λ (p : List Step). frame_tries p frame) here in omega (arith, count, some_row plan);
      }

  pub enter_end : slice_get plan level ≡ None → IsEntered plan level env frame
  enter_end none =
      let here = past plan level none in
      record {
        at = at;
        all = ap (λ (p : List Step). frame_finds p env frame) (at_frame [] here) ∙ ap (λ (p : List Step). answers p env) (sym here);
        few = let count : frame_tries (drop level plan) frame ≡ 1 = ap (λ (p : List Step). frame_tries p frame) here in omega (arith, count, some_row plan);
      }
