-- The join finds exactly what the definition says.
use Rattle.std.proofs.Common.{◌≡◌, ◌⊎◌, inl, inr, ℕ, suc, ◌<◌, Bool, true, false, List, [], ◌∷◌, ◌++◌, map, length, refl, sym, ap, ap₂, ◌∙◌, subst, true≢false, ⊎_elim, arith, length-set, get_or-set_same, get_or-set_other}
use Rattle.std.specs.Prelude.{Option, Some, None, slice_set, pos, if◌then◌else◌}
use Rattle.std.proofs.lemmas.Bool.{cases_eq, eqb-true, eq-eqb}
use Rattle.std.proofs.lemmas.Bool.Decides.{Decides-int_eq}
use Rattle.std.specs.Bool.{Decides}
use Rattle.std.specs.List.{flat_map}
use Rattle.tel_term.specs.declared.terms.Value.{Value}
use Rattle.tel_term.specs.declared.terms.Value.TheVariants as values
use Rattle.join_plans.specs.declared.columns.Column.{Column}
use Rattle.join_plans.specs.declared.columns.Column.TheVariants.{New, Old}
use Rattle.tel_base.specs.Members.{In}
use Rattle.tel_rule.specs.Atoms.{value_eq}
use Rattle.join_plans.specs.Join.{at, place, Step, Row, Equal, Compare, HoldAll, put, then_found, and_then, put_row, answers, is_known, IsRight, learn, AreRight, learn_all, IsPlan, Fits, JoinIsExact}

-- ---- members

pub has_left : {X : Type 0} (xs ys : List X) (b : X) → In b xs → In b (xs ++ ys)
has_left [] ys b h = absurd h
has_left (x ∷ xs) ys b h = ⊎_elim (λ e. inl e) (λ m. inr (has_left xs ys b m)) h

pub has_right : {X : Type 0} (xs ys : List X) (b : X) → In b ys → In b (xs ++ ys)
has_right [] ys b h = h
has_right (x ∷ xs) ys b h = inr (has_right xs ys b h)

pub has_cases : {X : Type 0} (xs ys : List X) (b : X) → In b (xs ++ ys) → In b xs ⊎ In b ys
has_cases [] ys b h = inr h
has_cases (x ∷ xs) ys b h = ⊎_elim (λ e. inl (inl e)) (λ m. ⊎_elim (λ l. inl (inr l)) (λ r. inr r) (has_cases xs ys b m)) h

-- x of xs gives b
pub record Gives {X Y : Type 0} (f : X → List Y) (xs : List X) (b : Y) : Type 0 where
  pub from : X
  pub has : In from xs
  pub gives : In b (f from)

pub from_flat : {X Y : Type 0} (f : X → List Y) (xs : List X) (b : Y) → In b (flat_map f xs) → Gives f xs b
from_flat f [] b h = absurd h
from_flat f (x ∷ xs) b h =
    ⊎_elim (λ l. record { from = x; has = inl refl; gives = l })
    (λ r. let g = from_flat f xs b r in record { from = g.from; has = inr g.has; gives = g.gives })
    (has_cases (f x) (flat_map f xs) b h)

pub to_flat : {X Y : Type 0} (f : X → List Y) (xs : List X) (x : X) (b : Y) → In x xs → In b (f x) → In b (flat_map f xs)
to_flat f [] x b h g = absurd h
to_flat {X} {Y} f (y ∷ xs) x b h g =
    ⊎_elim (λ e. has_left (f y) (flat_map f xs) b (subst (λ (z : X). In b (f z)) (sym e) g))
    (λ m. has_right (f y) (flat_map f xs) b (to_flat f xs x b m g))
    h

-- ---- values

pub value_eq-Decides : (x y : Value) → Decides (value_eq x y) (x ≡ y)
value_eq-Decides (values.Num m) (values.Num n) = (λ e. ap values.Num ((Decides-int_eq m n).0 e), λ e. (Decides-int_eq m n).1 (cc))
value_eq-Decides (values.Num m) (values.Sym n) = (λ e. absurd (true≢false (sym e)), λ e. cc)
value_eq-Decides (values.Sym m) (values.Num n) = (λ e. absurd (true≢false (sym e)), λ e. cc)
value_eq-Decides (values.Sym m) (values.Sym n) = (λ e. ap values.Sym (eqb-true m n e), λ e. eq-eqb m n (cc))

-- ---- one value put to a column

none_is_some : {X P : Type 0} (x : X) → None ≡ Some x → P
none_is_some x e = absurd (cc)

if_some : {X : Type 0} (t : Bool) (x y : X) → (if t then Some x else None) ≡ Some y → (t ≡ true) × (x ≡ y)
if_some true x y e = (refl, cc)
if_some false x y e = none_is_some y e

pub put-sound :
    (c : Column) (x : Value) (known : List Bool) (env after b : List Value) → IsRight known c → length known ≡ length env → put c x env ≡ Some after → Fits (learn known c) after b → Fits known env b × (at b (place c) ≡ x)
put-sound (New v) x known env after b right marks is fits =
    let to : slice_set env v x ≡ after = cc in
    let lens : length (slice_set env v x) ≡ length env = length-set env v x in
    let said = fits.same v (get_or-set_same known v true false right.0) in (
      record {
        marks = marks;
        places = fits.places ∙ ap length (sym to) ∙ lens;
        same = λ w k. elim (cases_eq w v) [
          | inl e ↦ absurd (true≢false (sym k ∙ ap (is_known known) e ∙ right.1))
          | inr n ↦ fits.same w (get_or-set_other known v w true false n ∙ k) ∙ ap (λ (l : List Value). at l w) (sym to) ∙ get_or-set_other env v w x (values.Num (pos 0)) n
        ];
      },
      said ∙ ap (λ (l : List Value). at l v) (sym to) ∙ get_or-set_same env v x (values.Num (pos 0)) (omega (arith, right.0, marks)),
    )
put-sound (Old v) x known env after b right marks is fits =
    let found = if_some (value_eq (at env v) x) env after is in
    let back : Fits known env b = subst (λ (l : List Value). Fits known l b) (sym found.1) fits in
    (back, back.same v right ∙ (value_eq-Decides (at env v) x).0 found.0)

-- after a value was put
pub record Goes (c : Column) (x : Value) (known : List Bool) (env b : List Value) : Type 0 where
  pub after : List Value
  pub is : put c x env ≡ Some after
  pub fits : Fits (learn known c) after b

pub put-full :
    (c : Column) (x : Value) (known : List Bool) (env b : List Value) → IsRight known c → Fits known env b → at b (place c) ≡ x → Goes c x known env b
put-full (New v) x known env b right fits is =
    record {
      after = slice_set env v x;
      is = refl;
      fits = record {
        marks = length-set known v true ∙ fits.marks ∙ sym (length-set env v x);
        places = fits.places ∙ sym (length-set env v x);
        same = λ w k. elim (cases_eq w v) [
          | inl e ↦ ap (at b) e ∙ is ∙ sym (get_or-set_same env v x (values.Num (pos 0)) (omega (arith, right.0, fits.marks))) ∙ ap (at (slice_set env v x)) (sym e)
          | inr n ↦ fits.same w (sym (get_or-set_other known v w true false n) ∙ k) ∙ sym (get_or-set_other env v w x (values.Num (pos 0)) n)
        ];
      };
    }
put-full (Old v) x known env b right fits is =
    record {
      after = env;
      is = ap (λ (t : Bool). if t then Some env else None) ((value_eq-Decides (at env v) x).1 (sym (fits.same v right) ∙ is));
      fits = fits;
    }

-- ---- a row

pub length-learn : (known : List Bool) (c : Column) → length (learn known c) ≡ length known
length-learn known (New v) = length-set known v true
length-learn known (Old v) = refl

abbrev pub at_columns : List Value → List Column → List Value
at_columns b columns = map (λ c. at b (place c)) columns

pub then_cases : {X Y : Type 0} (f : X → Option Y) (o : Option X) (y : Y) → and_then f o ≡ Some y → (x : X) × (o ≡ Some x) × (f x ≡ Some y)
then_cases f None y e = none_is_some y e
then_cases f (Some x) y e = (x, refl, e)

pub put-length : (c : Column) (x : Value) (env after : List Value) → put c x env ≡ Some after → length after ≡ length env
put-length (New v) x env after is =
    let to : slice_set env v x ≡ after = cc in
    ap length (sym to) ∙ length-set env v x
put-length (Old v) x env after is = ap length (sym (if_some (value_eq (at env v) x) env after is).1)

pub row-sound :
    (cs : List Column) (row : List Value) (known : List Bool) (env after b : List Value) → AreRight known cs → length known ≡ length env → put_row cs row env ≡ Some after → Fits (learn_all known cs) after b → Fits known env b × (at_columns b cs ≡ row)
row-sound [] [] known env after b right marks is fits =
    let to : env ≡ after = cc in
    (subst (λ (l : List Value). Fits known l b) (sym to) fits, refl)
row-sound [] (x ∷ row) known env after b right marks is fits = none_is_some after is
row-sound (c ∷ cs) [] known env after b right marks is fits = none_is_some after is
row-sound (c ∷ cs) (x ∷ row) known env after b right marks is fits =
    let step = then_cases (put_row cs row) (put c x env) after is in
    let later = row-sound cs row (learn known c) step.0 after b right.1 (length-learn known c ∙ marks ∙ sym (put-length c x env step.0 step.1)) step.2 fits in
    let here = put-sound c x known env step.0 b right.0 marks step.1 later.0 in
    (here.0, ap₂ (λ (y : Value) (ys : List Value). y ∷ ys) here.1 later.1)

pub record GoesRow (cs : List Column) (row : List Value) (known : List Bool) (env b : List Value) : Type 0 where
  pub after : List Value
  pub is : put_row cs row env ≡ Some after
  pub fits : Fits (learn_all known cs) after b

pub row-full :
    (cs : List Column) (known : List Bool) (env b : List Value) → AreRight known cs → Fits known env b → GoesRow cs (at_columns b cs) known env b
row-full [] known env b right fits = record { after = env; is = refl; fits = fits }
row-full (c ∷ cs) known env b right fits =
    let here = put-full c (at b (place c)) known env b right.0 fits refl in
    let later = row-full cs (learn known c) here.after b right.1 here.fits in
    record {
      after = later.after;
      is = ap (and_then (put_row cs (at_columns b cs))) here.is ∙ later.is;
      fits = later.fits;
    }

-- ---- the whole plan

pub found_cases : {X Y : Type 0} (f : X → List Y) (o : Option X) (b : Y) → In b (then_found f o) → (x : X) × (o ≡ Some x) × In b (f x)
found_cases f None b h = absurd h
found_cases f (Some x) b h = (x, refl, h)

pub to_found : {X Y : Type 0} (f : X → List Y) (o : Option X) (x : X) (b : Y) → o ≡ Some x → In b (f x) → In b (then_found f o)
to_found {X} f o x b is h = subst (λ (p : Option X). In b (then_found f p)) (sym is) h

pub row-length : (cs : List Column) (row env after : List Value) → put_row cs row env ≡ Some after → length after ≡ length env
row-length [] [] env after is = let to : env ≡ after = cc in ap length (sym to)
row-length [] (x ∷ row) env after is = none_is_some after is
row-length (c ∷ cs) [] env after is = none_is_some after is
row-length (c ∷ cs) (x ∷ row) env after is =
    let step = then_cases (put_row cs row) (put c x env) after is in
    row-length cs row step.0 after step.2 ∙ put-length c x env step.0 step.1

pub length-learn_all : (known : List Bool) (cs : List Column) → length (learn_all known cs) ≡ length known
length-learn_all known [] = refl
length-learn_all known (c ∷ cs) = length-learn_all (learn known c) cs ∙ length-learn known c

-- lists with the same values at each place are one
pub same_lists : (a b : List Value) → length a ≡ length b → ((v : ℕ) → v < length b → at a v ≡ at b v) → a ≡ b
same_lists [] [] l h = refl
same_lists [] (y ∷ b) l h = absurd (omega (arith, l))
same_lists (x ∷ a) [] l h = absurd (omega (arith, l))
same_lists (x ∷ a) (y ∷ b) l h =
    ap₂ (λ (z : Value) (zs : List Value). z ∷ zs) (h 0 (omega arith)) (same_lists a b (omega (arith, l)) (λ v k. h (suc v) (omega (arith, k))))

-- what is found only where a test passes
if_member : {X : Type 0} (t : Bool) (xs : List X) (b : X) → In b (if t then xs else []) → (t ≡ true) × In b xs
if_member true xs b h = (refl, h)
if_member false xs b h = absurd h

to_if : {X : Type 0} (t : Bool) (xs : List X) (b : X) → t ≡ true → In b xs → In b (if t then xs else [])
to_if true xs b is h = h
to_if false xs b is h = absurd (true≢false (sym is))

pub sound :
    (steps : List Step) (known : List Bool) (env b : List Value) → IsPlan known steps → length known ≡ length env → In b (answers steps env) → Fits known env b × HoldAll steps b
sound [] known env b plan marks h =
    ⊎_elim (λ e. (record { marks = marks; places = ap length (sym e); same = λ v k. ap (λ (l : List Value). at l v) (sym e) }, tt)) (λ none. absurd none) h
sound (Row cs rows ∷ more) known env b plan marks h =
    let g = from_flat (λ row. then_found (answers more) (put_row cs row env)) rows b h in
    let f = found_cases (answers more) (put_row cs g.from env) b g.gives in
    let later = sound more (learn_all known cs) f.0 b plan.1 (length-learn_all known cs ∙ marks ∙ sym (row-length cs g.from env f.0 f.1)) f.2 in
    let here = row-sound cs g.from known env f.0 b plan.0 marks f.1 later.0 in
    (here.0, (subst (λ (r : List Value). In r rows) (sym here.1) g.has, later.1))
sound (Equal c e ∷ more) known env b plan marks h =
    let v = found_cases (λ x. then_found (answers more) (put c x env)) (e.value env) b h in
    let f = found_cases (answers more) (put c v.0 env) b v.2 in
    let later = sound more (learn known c) f.0 b plan.2 (length-learn known c ∙ marks ∙ sym (put-length c v.0 env f.0 f.1)) f.2 in
    let here = put-sound c v.0 known env f.0 b plan.1 marks f.1 later.0 in
    (here.0, (plan.0.reads b env (λ w r. here.0.same w (plan.0.there w r)) ∙ v.1 ∙ ap Some (sym here.1), later.1))
sound (Compare c ∷ more) known env b plan marks h =
    let found = if_member (c.holds env) (answers more env) b h in
    let later = sound more known env b plan.1 marks found.1 in
    (later.0, (plan.0.reads b env (λ w r. later.0.same w (plan.0.there w r)) ∙ found.0, later.1))

pub full :
    (steps : List Step) (known : List Bool) (env b : List Value) → IsPlan known steps → Fits known env b → HoldAll steps b → In b (answers steps env)
full [] known env b plan fits hold = inl (sym (same_lists b env fits.places (λ v k. fits.same v (plan v (omega (arith, k, fits.marks))))))
full (Row cs rows ∷ more) known env b plan fits hold =
    let goes = row-full cs known env b plan.0 fits in
    to_flat (λ row. then_found (answers more) (put_row cs row env)) rows (at_columns b cs) b hold.0
    (to_found (answers more) (put_row cs (at_columns b cs) env) goes.after b goes.is (full more (learn_all known cs) goes.after b plan.1 goes.fits hold.1))
full (Equal c e ∷ more) known env b plan fits hold =
    let goes = put-full c (at b (place c)) known env b plan.1 fits refl in
    let valued : e.value env ≡ Some (at b (place c)) = sym (plan.0.reads b env (λ w r. fits.same w (plan.0.there w r))) ∙ hold.0 in
    to_found (λ x. then_found (answers more) (put c x env)) (e.value env) (at b (place c)) b valued
    (to_found (answers more) (put c (at b (place c)) env) goes.after b goes.is (full more (learn known c) goes.after b plan.2 goes.fits hold.1))
full (Compare c ∷ more) known env b plan fits hold =
    to_if (c.holds env) (answers more env) b (sym (plan.0.reads b env (λ w r. fits.same w (plan.0.there w r))) ∙ hold.0) (full more known env b plan.1 fits hold.1)

pub exact : JoinIsExact
exact steps known env plan marks b = (λ h. sound steps known env b plan marks h, λ p. full steps known env b plan p.0 p.1)
