-- The join finds each binding once, and its rows may be taken from an index.
use Rattle.std.proofs.Common.{◌≡◌, inl, inr, Bool, true, false, List, [], ◌∷◌, ◌++◌, length, refl, sym, ap, ◌∙◌, subst, ⊎_elim}
use Rattle.std.specs.Prelude.{Option, Some, None, if◌then◌else◌}
use Rattle.std.specs.List.{flat_map, filter}
use Rattle.tel_term.specs.declared.terms.Value.{Value}
use Rattle.join_plans.specs.declared.columns.Column.{Column}
use Rattle.tel_base.specs.Members.{In}
use Rattle.join_plans.specs.Join.{Step, Row, Equal, Compare, put, then_found, put_row, answers, learn, learn_all, IsPlan}
use Rattle.join_plans.specs.Once.{IsOnce, RowsOnce}
use Rattle.join_plans.proofs.Exact.{has_cases, from_flat, found_cases, row-sound, put-length, row-length, length-learn, length-learn_all, at_columns, sound}

once_append : {X : Type 0} (xs ys : List X) → IsOnce xs → IsOnce ys → ((b : X) → In b xs → In b ys → ⊥) → IsOnce (xs ++ ys)
once_append [] ys one two apart = two
once_append {X} (x ∷ xs) ys one two apart =
    ((λ h. ⊎_elim (λ l. one.0 l) (λ r. apart x (inl refl) r) (has_cases xs ys x h)), once_append xs ys one.1 two (λ b l r. apart b (inr l) r))

once_flat :
    {X Y : Type 0} (f : X → List Y) (xs : List X) → IsOnce xs → ((x : X) → In x xs → IsOnce (f x)) → ((x y : X) (b : Y) → In b (f x) → In b (f y) → x ≡ y) → IsOnce (flat_map f xs)
once_flat f [] one each apart = tt
once_flat {X} f (x ∷ xs) one each apart =
    once_append (f x) (flat_map f xs) (each x (inl refl)) (once_flat f xs one.1 (λ y h. each y (inr h)) apart)
    (λ b l r. let g = from_flat f xs b r in one.0 (subst (λ (z : X). In z xs) (sym (apart x g.from b l g.gives)) g.has))

once_found : {X Y : Type 0} (f : X → List Y) (o : Option X) → ((x : X) → o ≡ Some x → IsOnce (f x)) → IsOnce (then_found f o)
once_found f None h = tt
once_found f (Some x) h = h x refl

once_if : {X : Type 0} (t : Bool) (xs : List X) → IsOnce xs → IsOnce (if t then xs else [])
once_if true xs h = h
once_if false xs h = tt

-- a binding that a row gave has this row at the columns
read_off :
    (cs : List Column) (more : List Step) (known : List Bool) (env row b : List Value) → IsPlan known (Row cs [] ∷ more) → length known ≡ length env → In b (then_found (answers more) (put_row cs row env)) → at_columns b cs ≡ row
read_off cs more known env row b plan marks h =
    let f = found_cases (answers more) (put_row cs row env) b h in
    let later = sound more (learn_all known cs) f.0 b plan.1 (length-learn_all known cs ∙ marks ∙ sym (row-length cs row env f.0 f.1)) f.2 in
    (row-sound cs row known env f.0 b plan.0 marks f.1 later.0).1

pub once :
    (steps : List Step) (known : List Bool) (env : List Value) → IsPlan known steps → length known ≡ length env → RowsOnce steps → IsOnce (answers steps env)
once [] known env plan marks rows = ((λ none. none), tt)
once (Row cs rows ∷ more) known env plan marks one =
    once_flat (λ row. then_found (answers more) (put_row cs row env)) rows one.0
    (λ row h. once_found (answers more) (put_row cs row env) (λ after is. once more (learn_all known cs) after plan.1 (length-learn_all known cs ∙ marks ∙ sym (row-length cs row env after is)) one.1))
    (λ x y b l r. sym (read_off cs more known env x b plan marks l) ∙ read_off cs more known env y b plan marks r)
once (Equal c e ∷ more) known env plan marks one =
    once_found (λ x. then_found (answers more) (put c x env)) (e.value env) (λ x got.
    once_found (answers more) (put c x env) (λ after is. once more (learn known c) after plan.2 (length-learn known c ∙ marks ∙ sym (put-length c x env after is)) one))
once (Compare c ∷ more) known env plan marks one = once_if (c.holds env) (answers more env) (once more known env plan.1 marks one)

pub indexed :
    (f : List Value → List (List Value)) (test : List Value → Bool) (rows : List (List Value)) → ((row : List Value) → test row ≡ false → f row ≡ []) → flat_map f (filter test rows) ≡ flat_map f rows
indexed f test [] h = refl
indexed f test (row ∷ rows) h =
    elim (test row) as (λ t. test row ≡ t → flat_map f (if t then row ∷ filter test rows else filter test rows) ≡ f row ++ flat_map f rows) [
      | true ↦ λ e. ap (λ (l : List (List Value)). f row ++ l) (indexed f test rows h)
      | false ↦ λ e. indexed f test rows h ∙ ap (λ (l : List (List Value)). l ++ flat_map f rows) (sym (h row e))
    ]
    refl
