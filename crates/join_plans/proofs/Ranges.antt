-- The search meets a fault that leaves the range exactly where a reached binding has one.
use Rattle.std.proofs.Common.{◌≡◌, ◌⊎◌, inl, inr, ℕ, suc, ◌<◌, Bool, true, List, [], ◌∷◌, length, refl, sym, ap, ap₂, ◌∙◌, subst, true≢false, ⊎_elim, arith}
use Rattle.std.specs.Prelude.{Option, Some, None, Result, Ok, Err}
use Rattle.std.specs.List.{list_any}
use Rattle.std.proofs.lemmas.Bool.{or_cases, or_left, or_right}
use Rattle.tel_term.specs.declared.terms.Value.{Value}
use Rattle.join_plans.specs.declared.columns.Column.{Column}
use Rattle.tel_base.specs.Members.{In}
use Rattle.join_plans.specs.Join.{at, place, put, put_row, learn, learn_all, Fits}
use Rattle.tel_term.specs.declared.arithmetic.EvalFault.{EvalFault}
use Rattle.tel_term.specs.declared.arithmetic.EvalFault.TheVariants.{Undefined, Range}
use Rattle.join_plans.specs.Faults.{Term, Turn, Row, Check, Set, RangeAt, found_any, checked, set, ranges, CanRun, IsReady, SomeRange, RangesAreExact}
use Rattle.join_plans.proofs.Exact.{put-sound, put-full, row-sound, row-full, put-length, row-length, length-learn, length-learn_all, at_columns}

any_has : {X : Type 0} (f : X → Bool) (xs : List X) → list_any f xs ≡ true → (x : X) × In x xs × (f x ≡ true)
any_has f [] h = absurd (true≢false (sym h))
any_has f (x ∷ xs) h = ⊎_elim (λ here. (x, inl refl, here)) (λ later. let p = any_has f xs later in (p.0, inr p.1, p.2)) (or_cases (f x) (list_any f xs) h)

to_any : {X : Type 0} (f : X → Bool) (xs : List X) (x : X) → In x xs → f x ≡ true → list_any f xs ≡ true
to_any f [] x h t = absurd h
to_any {X} f (y ∷ xs) x h t = ⊎_elim (λ e. or_left (f y) (list_any f xs) (subst (λ (z : X). f z ≡ true) (sym e) t)) (λ m. or_right (f y) (list_any f xs) (to_any f xs x m t)) h

found : {X : Type 0} (f : X → Bool) (o : Option X) → found_any f o ≡ true → (x : X) × (o ≡ Some x) × (f x ≡ true)
found f None h = absurd (true≢false (sym h))
found f (Some x) h = (x, refl, h)

to_found : {X : Type 0} (f : X → Bool) (o : Option X) (x : X) → o ≡ Some x → f x ≡ true → found_any f o ≡ true
to_found f o x e h = ap (found_any f) e ∙ h

check_cases : (f : Value → Bool) (r : Result Value EvalFault) → checked f r ≡ true → (x : Value) × (r ≡ Ok x) × (f x ≡ true)
check_cases f (Ok x) h = (x, refl, h)
check_cases f (Err fault) h = absurd (true≢false (sym h))

set_cases : (f : Value → Bool) (r : Result Value EvalFault) → set f r ≡ true → (r ≡ Err Range) ⊎ ((x : Value) × (r ≡ Ok x) × (f x ≡ true))
set_cases f (Ok x) h = inr (x, refl, h)
set_cases f (Err Range) h = inl refl
set_cases f (Err Undefined) h = absurd (true≢false (sym h))

itself : (known : List Bool) (env : List Value) → length known ≡ length env → Fits known env env
itself known env marks = record { marks = marks; places = refl; same = λ v k. refl }

-- what is left where the value of an expression was put to its column
put_on :
    (c : Column) (e : Term) (more : List Turn) (last : List Value → Bool) (known : List Bool) (env : List Value) (x : Value) → IsReady known e → length known ≡ length env → e.value env ≡ Ok x → found_any (ranges more last) (put c x env) ≡ true → ((after : List Value) → put c x env ≡ Some after → ranges more last after ≡ true → SomeRange (learn known c) after more last) → ((after b : List Value) → put c x env ≡ Some after → Fits (learn known c) after b → Fits known env b × (at b (place c) ≡ x))
    → (b : List Value) × Fits known env b × (e.value b ≡ Ok (at b (place c))) × RangeAt more last b
put_on c e more last known env x ready marks is h rec back =
    let f = found (ranges more last) (put c x env) h in
    let s = rec f.0 f.1 f.2 in
    let here = back f.0 s.binding f.1 s.fits in
    (s.binding, here.0, ready.reads s.binding env (λ w r. here.0.same w (ready.there w r)) ∙ is ∙ ap Ok (sym here.1), s.range)

pub ranges-sound : (turns : List Turn) (last : List Value → Bool) (known : List Bool) (env : List Value) → CanRun known turns → length known ≡ length env → ranges turns last env ≡ true → SomeRange known env turns last
ranges-sound [] last known env plan marks h = record { binding = env; fits = itself known env marks; range = h }
ranges-sound (Row cs rows ∷ more) last known env plan marks h =
    let a = any_has (λ row. found_any (ranges more last) (put_row cs row env)) rows h in
    let f = found (ranges more last) (put_row cs a.0 env) a.2 in
    let s = ranges-sound more last (learn_all known cs) f.0 plan.1 (length-learn_all known cs ∙ marks ∙ sym (row-length cs a.0 env f.0 f.1)) f.2 in
    let here = row-sound cs a.0 known env f.0 s.binding plan.0 marks f.1 s.fits in
    record { binding = s.binding; fits = here.0; range = (subst (λ (r : List Value). In r rows) (sym here.1) a.1, s.range) }
ranges-sound (Check c e ∷ more) last known env plan marks h =
    let v = check_cases (λ x. found_any (ranges more last) (put c x env)) (e.value env) h in
    let p = put_on c e more last known env v.0 plan.0 marks v.1 v.2
    (λ after is r. ranges-sound more last (learn known c) after plan.2 (length-learn known c ∙ marks ∙ sym (put-length c v.0 env after is)) r)
    (λ after b is fits. put-sound c v.0 known env after b plan.1 marks is fits) in
    record { binding = p.0; fits = p.1; range = (p.2, p.3) }
ranges-sound (Set c e ∷ more) last known env plan marks h =
    ⊎_elim
    (λ r. record { binding = env; fits = itself known env marks; range = inl r })
    (λ v.
    let p = put_on c e more last known env v.0 plan.0 marks v.1 v.2
    (λ after is r. ranges-sound more last (learn known c) after plan.2 (length-learn known c ∙ marks ∙ sym (put-length c v.0 env after is)) r)
    (λ after b is fits. put-sound c v.0 known env after b plan.1 marks is fits) in
    record { binding = p.0; fits = p.1; range = inr (p.2, p.3) })
    (set_cases (λ x. found_any (ranges more last) (put c x env)) (e.value env) h)

same_lists : (a b : List Value) → length a ≡ length b → ((v : ℕ) → v < length b → at a v ≡ at b v) → a ≡ b
same_lists [] [] l h = refl
same_lists [] (y ∷ b) l h = absurd (omega (arith, l))
same_lists (x ∷ a) [] l h = absurd (omega (arith, l))
same_lists (x ∷ a) (y ∷ b) l h =
    ap₂ (λ (z : Value) (zs : List Value). z ∷ zs) (h 0 (omega arith)) (same_lists a b (omega (arith, l)) (λ v k. h (suc v) (omega (arith, k))))

pub ranges-full : (turns : List Turn) (last : List Value → Bool) (known : List Bool) (env b : List Value) → CanRun known turns → Fits known env b → RangeAt turns last b → ranges turns last env ≡ true
ranges-full [] last known env b plan fits r = ap last (sym (same_lists b env fits.places (λ v k. fits.same v (plan v (omega (arith, k, fits.marks)))))) ∙ r
ranges-full (Row cs rows ∷ more) last known env b plan fits r =
    let goes = row-full cs known env b plan.0 fits in
    to_any (λ row. found_any (ranges more last) (put_row cs row env)) rows (at_columns b cs) r.0
    (to_found (ranges more last) (put_row cs (at_columns b cs) env) goes.after goes.is (ranges-full more last (learn_all known cs) goes.after b plan.1 goes.fits r.1))
ranges-full (Check c e ∷ more) last known env b plan fits r =
    let goes = put-full c (at b (place c)) known env b plan.1 fits refl in
    let valued : e.value env ≡ Ok (at b (place c)) = sym (plan.0.reads b env (λ w k. fits.same w (plan.0.there w k))) ∙ r.0 in
    ap (checked (λ x. found_any (ranges more last) (put c x env))) valued
    ∙ to_found (ranges more last) (put c (at b (place c)) env) goes.after goes.is (ranges-full more last (learn known c) goes.after b plan.2 goes.fits r.1)
ranges-full (Set c e ∷ more) last known env b plan fits r =
    let same = sym (plan.0.reads b env (λ w k. fits.same w (plan.0.there w k))) in
    ⊎_elim
    (λ out. ap (set (λ x. found_any (ranges more last) (put c x env))) (same ∙ out))
    (λ goes_on.
    let goes = put-full c (at b (place c)) known env b plan.1 fits refl in
    ap (set (λ x. found_any (ranges more last) (put c x env))) (same ∙ goes_on.0)
    ∙ to_found (ranges more last) (put c (at b (place c)) env) goes.after goes.is (ranges-full more last (learn known c) goes.after b plan.2 goes.fits goes_on.1))
    r

pub ranges_exact : RangesAreExact
ranges_exact turns last known env plan marks = (λ h. ranges-sound turns last known env plan marks h, λ s. ranges-full turns last known env s.binding plan s.fits s.range)
