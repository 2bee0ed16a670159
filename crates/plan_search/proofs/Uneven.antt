-- Rows put to columns one by one.
use Rattle.std.proofs.Common.{◌≡◌, ◌≢◌, suc, List, [], ◌∷◌, length, refl, ap}
use Rattle.std.specs.Prelude.{Option, Some, None}
use Rattle.tel_term.specs.declared.terms.Value.{Value}
use Rattle.join_plans.specs.declared.columns.Column.{Column}
use Rattle.join_plans.specs.Join.{put, put_row, and_then}

none_then : {X Y : Type 0} (f : X → Option Y) (o : Option X) → ((x : X) → f x ≡ None) → and_then f o ≡ None
none_then f None h = refl
none_then f (Some x) h = h x

pub uneven : (cs : List Column) (row env : List Value) → length cs ≢ length row → put_row cs row env ≡ None
uneven [] [] env h = absurd (h refl)
uneven [] (x ∷ row) env h = refl
uneven (c ∷ cs) [] env h = refl
uneven (c ∷ cs) (x ∷ row) env h = none_then (put_row cs row) (put c x env) (λ after. uneven cs row after (λ e. h (ap suc e)))
