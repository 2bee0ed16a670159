-- Places for expressions, filled from rows.
use Rattle.std.proofs.Common.{◌≡◌, inl, inr, ℕ, zero, suc, ◌<◌, ◌≤◌, ◌+◌, List, [], ◌∷◌, ◌++◌, map, length, refl, sym, ap, ap₂, ◌∙◌, subst, arith, append_assoc}
use Rattle.std.proofs.lemmas.Bool.{cases_order}
use Rattle.std.proofs.lemmas.List.{length-append}
use Rattle.std.specs.Prelude.{Option, Some, None}
use Rattle.tel_term.specs.declared.terms.Value.{Value}
use Rattle.tel_base.specs.Members.{In}
use Rattle.join_plans.specs.Join.{at}
use Rattle.join_plans.specs.Atoms.{Arg, Whole, Other, TableAtom, ArgsAre, AreRows, places, after_args, ChecksHold, PlanHolds, after_atoms, ArgsBelow, AtomsBelow, PlansAreAtoms, FilledOnce}

-- b' has the values of b at the variables below n
abbrev Extends : ℕ → List Value → List Value → Type 0
Extends n b b' = (v : ℕ) → v < n → at b' v ≡ at b v

-- the values xs stand from k on
abbrev Puts : ℕ → List Value → List Value → Type 0
Puts k [] b = Unit {0}
Puts k (x ∷ xs) b = (at b k ≡ x) × Puts (suc k) xs b

-- ---- from the plan

args_from : (args : List Arg) (n k : ℕ) (b b' : List Value) → ArgsBelow n args → Extends n b b' → ChecksHold b' k args → ArgsAre b args (map (at b') (places k args))
args_from [] n k b b' below ext checks = tt
args_from (Whole v ∷ args) n k b b' below ext checks = (sym (ext v below.0), args_from args n k b b' below.1 ext checks)
args_from (Other e ∷ args) n k b b' below ext checks = (below.0 b b' (λ v l. sym (ext v l)) ∙ checks.0, args_from args n (suc k) b b' below.1 ext checks.1)

rows_from : (atoms : List TableAtom) (n k : ℕ) (b b' : List Value) → AtomsBelow n atoms → Extends n b b' → PlanHolds b' k atoms → AreRows b atoms
rows_from [] n k b b' below ext holds = tt
rows_from (atom ∷ more) n k b b' below ext holds = (
  record { row = map (at b') (places k atom.args); has = holds.0; is = args_from atom.args n k b b' below.0 ext holds.1 },
  rows_from more n (after_args k atom.args) b b' below.1 ext holds.2,
)

-- ---- to the plan: the values of a row at its expressions

abbrev others : List Arg → List Value → List Value
others [] row = []
others args [] = []
others (Whole v ∷ args) (x ∷ row) = others args row
others (Other e ∷ args) (x ∷ row) = x ∷ others args row

row_places : (args : List Arg) (row : List Value) (n k : ℕ) (b b' : List Value) → ArgsBelow n args → Extends n b b' → ArgsAre b args row → Puts k (others args row) b' → map (at b') (places k args) ≡ row
row_places [] [] n k b b' below ext is puts = refl
row_places [] (x ∷ row) n k b b' below ext is puts = absurd is
row_places (Whole v ∷ args) [] n k b b' below ext is puts = absurd is
row_places (Other e ∷ args) [] n k b b' below ext is puts = absurd is
row_places (Whole v ∷ args) (x ∷ row) n k b b' below ext is puts = ap₂ (λ (y : Value) (ys : List Value). y ∷ ys) (ext v below.0 ∙ is.0) (row_places args row n k b b' below.1 ext is.1 puts)
row_places (Other e ∷ args) (x ∷ row) n k b b' below ext is puts = ap₂ (λ (y : Value) (ys : List Value). y ∷ ys) puts.0 (row_places args row n (suc k) b b' below.1 ext is.1 puts.1)

checks_to : (args : List Arg) (row : List Value) (n k : ℕ) (b b' : List Value) → ArgsBelow n args → Extends n b b' → ArgsAre b args row → Puts k (others args row) b' → ChecksHold b' k args
checks_to [] [] n k b b' below ext is puts = tt
checks_to [] (x ∷ row) n k b b' below ext is puts = absurd is
checks_to (Whole v ∷ args) [] n k b b' below ext is puts = absurd is
checks_to (Other e ∷ args) [] n k b b' below ext is puts = absurd is
checks_to (Whole v ∷ args) (x ∷ row) n k b b' below ext is puts = checks_to args row n k b b' below.1 ext is.1 puts
checks_to (Other e ∷ args) (x ∷ row) n k b b' below ext is puts = (below.0 b' b ext ∙ is.0 ∙ ap Some (sym puts.0), checks_to args row n (suc k) b b' below.1 ext is.1 puts.1)

after_others : (args : List Arg) (row : List Value) (k : ℕ) (b : List Value) → ArgsAre b args row → after_args k args ≡ k + length (others args row)
after_others [] [] k b is = omega arith
after_others [] (x ∷ row) k b is = absurd is
after_others (Whole v ∷ args) [] k b is = absurd is
after_others (Other e ∷ args) [] k b is = absurd is
after_others (Whole v ∷ args) (x ∷ row) k b is = after_others args row k b is.1
after_others (Other e ∷ args) (x ∷ row) k b is = omega (arith, after_others args row (suc k) b is.1)

abbrev all_others : (atoms : List TableAtom) (b : List Value) → AreRows b atoms → List Value
all_others [] b rows = []
all_others (atom ∷ more) b rows = others atom.args rows.0.row ++ all_others more b rows.1

puts_left : (k : ℕ) (xs ys b : List Value) → Puts k (xs ++ ys) b → Puts k xs b
puts_left k [] ys b p = tt
puts_left k (x ∷ xs) ys b p = (p.0, puts_left (suc k) xs ys b p.1)

puts_right : (k : ℕ) (xs ys b : List Value) → Puts k (xs ++ ys) b → Puts (k + length xs) ys b
puts_right k [] ys b p = subst (λ (i : ℕ). Puts i ys b) (omega arith) p
puts_right k (x ∷ xs) ys b p = subst (λ (i : ℕ). Puts i ys b) (omega arith) (puts_right (suc k) xs ys b p.1)

plan_to : (atoms : List TableAtom) (n k : ℕ) (b b' : List Value) → AtomsBelow n atoms → Extends n b b' → (rows : AreRows b atoms) → Puts k (all_others atoms b rows) b' → PlanHolds b' k atoms
plan_to [] n k b b' below ext rows puts = tt
plan_to (atom ∷ more) n k b b' below ext rows puts =
    let here = rows.0 in
    let own = puts_left k (others atom.args here.row) (all_others more b rows.1) b' puts in
    let later = puts_right k (others atom.args here.row) (all_others more b rows.1) b' puts in (
      subst (λ (r : List Value). In r atom.rows) (sym (row_places atom.args here.row n k b b' below.0 ext here.is own)) here.has,
      checks_to atom.args here.row n k b b' below.0 ext here.is own,
      plan_to more n (after_args k atom.args) b b' below.1 ext rows.1 (subst (λ (i : ℕ). Puts i (all_others more b rows.1) b') (sym (after_others atom.args here.row k b here.is)) later),
    )

length_others : (atoms : List TableAtom) (k : ℕ) (b : List Value) (rows : AreRows b atoms) → k + length (all_others atoms b rows) ≡ after_atoms k atoms
length_others [] k b rows = omega arith
length_others (atom ∷ more) k b rows =
    let one = length-append (others atom.args rows.0.row) (all_others more b rows.1) in
    let two = after_others atom.args rows.0.row k b rows.0.is in
    let three = length_others more (after_args k atom.args) b rows.1 in
    omega (arith, one, two, three)

at_front : (b more : List Value) (v : ℕ) → v < length b → at (b ++ more) v ≡ at b v
at_front [] more v l = absurd (omega (arith, l))
at_front (x ∷ b) more zero l = refl
at_front (x ∷ b) more (suc v) l = at_front b more v (omega (arith, l))

at_behind : (b : List Value) (x : Value) (more : List Value) → at (b ++ x ∷ more) (length b) ≡ x
at_behind [] x more = refl
at_behind (y ∷ b) x more = at_behind b x more

puts_behind : (b more : List Value) → Puts (length b) more (b ++ more)
puts_behind b [] = tt
puts_behind b (x ∷ more) =
    let same : (b ++ x ∷ []) ++ more ≡ b ++ x ∷ more = append_assoc b (x ∷ []) more in
    let long : length (b ++ x ∷ []) ≡ suc (length b) = omega (arith, length-append b (x ∷ [])) in
    (at_behind b x more, subst (λ (l : List Value). Puts (suc (length b)) more l) same (subst (λ (i : ℕ). Puts i more ((b ++ x ∷ []) ++ more)) long (puts_behind (b ++ x ∷ []) more)))

pub plans_are_atoms : PlansAreAtoms
plans_are_atoms b atoms below = (
  (λ rows. record {
    more = all_others atoms b rows;
    long = length_others atoms (length b) b rows;
    holds = plan_to atoms (length b) (length b) b (b ++ all_others atoms b rows) below (λ v l. at_front b (all_others atoms b rows) v l) rows (puts_behind b (all_others atoms b rows));
  }),
  (λ filled. rows_from atoms (length b) (length b) b (b ++ filled.more) below (λ v l. at_front b filled.more v l) filled.holds),
)

-- ---- a binding is filled in one way

value_in : Value → Option Value → Value
value_in other None = other
value_in other (Some value) = value

same_value : (a b : Value) → Some a ≡ Some b → a ≡ b
unfolding value_in
same_value a b same = ap (value_in a) same

checks_same : (args : List Arg) (n k : ℕ) (x y : List Value) → ArgsBelow n args → ((v : ℕ) → v < n → at x v ≡ at y v) → ChecksHold x k args → ChecksHold y k args
    → (v : ℕ) → k ≤ v → v < after_args k args → at x v ≡ at y v
checks_same [] n k x y below same one two v from to = absurd (omega (arith, from, to))
checks_same (Whole w ∷ args) n k x y below same one two v from to = checks_same args n k x y below.1 same one two v from to
checks_same (Other e ∷ args) n k x y below same one two v from to = elim (cases_order v k) [
  | inl here ↦
      let alike = same_value (at x k) (at y k) (sym one.0 ∙ below.0 x y same ∙ two.0) in
      subst (λ (i : ℕ). at x i ≡ at y i) (sym here) alike
  | inr apart ↦ elim apart [
    | inl less ↦ absurd (omega (arith, from, less))
    | inr more ↦ checks_same args n (suc k) x y below.1 same one.1 two.1 v (omega (arith, more)) to
  ]
]

atoms_same : (atoms : List TableAtom) (n k : ℕ) (x y : List Value) → AtomsBelow n atoms → ((v : ℕ) → v < n → at x v ≡ at y v) → PlanHolds x k atoms → PlanHolds y k atoms
    → (v : ℕ) → k ≤ v → v < after_atoms k atoms → at x v ≡ at y v
atoms_same [] n k x y below same one two v from to = absurd (omega (arith, from, to))
atoms_same (atom ∷ more) n k x y below same one two v from to = elim (cases_order v (after_args k atom.args)) [
  | inl end ↦ atoms_same more n (after_args k atom.args) x y below.1 same one.2 two.2 v (omega (arith, end)) to
  | inr apart ↦ elim apart [
    | inl less ↦ checks_same atom.args n k x y below.0 same one.1 two.1 v from less
    | inr past ↦ atoms_same more n (after_args k atom.args) x y below.1 same one.2 two.2 v (omega (arith, past)) to
  ]
]

lists_same : (xs ys : List Value) → length xs ≡ length ys → ((v : ℕ) → v < length xs → at xs v ≡ at ys v) → xs ≡ ys
lists_same [] [] len same = refl
lists_same [] (y ∷ ys) len same = absurd (omega (arith, len))
lists_same (x ∷ xs) [] len same = absurd (omega (arith, len))
lists_same (x ∷ xs) (y ∷ ys) len same =
    ap₂ (λ (z : Value) (zs : List Value). z ∷ zs) (same 0 (omega arith)) (lists_same xs ys (omega (arith, len)) (λ v less. same (suc v) (omega (arith, less))))

at_back : (b more : List Value) (v n : ℕ) → n ≡ length b + v → at (b ++ more) n ≡ at more v
at_back [] more v n is = let same : n ≡ v = omega (arith, is) in ap (at more) same
at_back (y ∷ b) more v zero is = absurd (omega (arith, is))
at_back (y ∷ b) more v (suc n) is = at_back b more v n (omega (arith, is))

pub filled_once : FilledOnce
filled_once b atoms below c d =
    let long_c = c.long in
    let long_d = d.long in
    lists_same c.more d.more (omega (arith, long_c, long_d))
    (λ v less.
    sym (at_back b c.more v (length b + v) refl)
    ∙ atoms_same atoms (length b) (length b) (b ++ c.more) (b ++ d.more) below (λ w under. at_front b c.more w under ∙ sym (at_front b d.more w under)) c.holds d.holds (length b + v) (omega arith) (omega (arith, less, long_c))
    ∙ at_back b d.more v (length b + v) refl)
