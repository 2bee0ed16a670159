-- The values of the variables of bodies.
use Rattle.std.proofs.Common.{◌≡◌, ℕ, ◌+◌, ◌-◌, ◌*◌, ◌<◌, Bool, true, false, ◌&&◌, ◌||◌, List, [], ◌∷◌, length, None, refl, ap, ◌∙◌, arith}
use Rattle.std.specs.Prelude.{nat_lt, nat_le, ◌==◌, slice_get}
use Rattle.std.proofs.lemmas.Bool.{cond-false, and_left, and_right, lt-ltb, le-ltb, lt-leb, le-leb, ne_eqb}
use Rattle.std.proofs.lemmas.Nat.{div-mul-add, mod-mul-add}
use Rattle.tel_rule.specs.declared.ground.Instance.{Instance}
use Rattle.tel_rule.specs.Ground.{Ground}
use Rattle.tel_semantics.specs.Traces.{Test}
use Rattle.atom_space.specs.Numbers.{width}
use Rattle.formula_unfold.specs.Nodes.{counts_of}
use Rattle.stable_models.specs.Values.{full, body_value, full_with_bodies}
use Rattle.stable_models.specs.Laws.{SetsHaveBodies}
use Rattle.stable_models.proofs.Numbering.{full-place}

-- the first place of a body
abbrev first_of : Ground → ℕ
first_of program = length program.atoms + length program.nodes

abbrev pub added : Ground → ℕ → Test → ℕ → ℕ → Bool
added program n T t place = nat_lt t n && (nat_le (first_of program) place && body_value program (full program n T T) t (slice_get program.instances (place - first_of program)))

at_place : (program : Ground) (n : ℕ) (T : Test) (t place : ℕ) → place < width (counts_of program) → full_with_bodies program n T (t * width (counts_of program) + place) ≡ (full program n T T (t * width (counts_of program) + place) || added program n T t place)
at_place program n T t place within =
    let w = width (counts_of program) in
    let d = div-mul-add t w place within in
    let m = mod-mul-add t w place within in
    λ i. full program n T T (t * w + place) || added program n T (d i) (m i)

pub or_none : (x z : Bool) → z ≡ false → (x || z) ≡ x
or_none true z is = refl
or_none false z is = is

pub none_below : (program : Ground) (n : ℕ) (T : Test) (t place : ℕ) → place < first_of program → added program n T t place ≡ false
none_below program n T t place below =
    and_right (nat_lt t n) _ (and_left (nat_le (first_of program) place) _ (lt-leb (first_of program) place below))

get_past : (xs : List Instance) → slice_get xs (length xs) ≡ None
get_past [] = refl
get_past (x ∷ xs) = get_past xs

pub none_at_end : (program : Ground) (n : ℕ) (T : Test) (t : ℕ) → added program n T t (first_of program + length program.instances) ≡ false
none_at_end program n T t =
    let place = first_of program + length program.instances in
    let past : slice_get program.instances (place - first_of program) ≡ None = ap (slice_get program.instances) (omega arith) ∙ get_past program.instances in
    and_right (nat_lt t n) _ (and_right (nat_le (first_of program) place) _ (ap (body_value program (full program n T T) t) past))

no_other : (program : Ground) (n : ℕ) (T : Test) (t r : ℕ) → r < length program.instances → full program n T T (t * width (counts_of program) + (first_of program + r)) ≡ false
no_other program n T t r within =
    let atoms = length program.atoms in
    let first = first_of program in
    let place = first + r in
    full-place program n T T t place (omega (arith, within))
    ∙ and_right (nat_lt t n) _ (cond-false (nat_lt place atoms) _ _ (le-ltb place atoms (omega arith))
    ∙ cond-false (nat_lt place first) _ _ (le-ltb place first (omega arith))
    ∙ and_left (place == first + length program.instances) (t + 1 == n) (ne_eqb place (first + length program.instances) (λ e. absurd (omega (arith, e, within)))))

there : (program : Ground) (n : ℕ) (T : Test) (t r : ℕ) → t < n → added program n T t (first_of program + r) ≡ body_value program (full program n T T) t (slice_get program.instances r)
there program n T t r l =
    let first = first_of program in
    let same : ((first + r) - first) ≡ r = omega arith in
    (λ i. lt-ltb t n l i && (le-leb first (first + r) (omega arith) i && body_value program (full program n T T) t (slice_get program.instances (same i))))

pub bodies_added : SetsHaveBodies
bodies_added program n T = record {
  atoms = λ a t within. at_place program n T t a (omega (arith, within)) ∙ or_none _ _ (none_below program n T t a (omega (arith, within)));
  nodes = λ x t within. at_place program n T t (length program.atoms + x) (omega (arith, within)) ∙ or_none _ _ (none_below program n T t (length program.atoms + x) (omega (arith, within)));
  ends = λ t. at_place program n T t (first_of program + length program.instances) (omega arith) ∙ or_none _ _ (none_at_end program n T t);
  bodies = λ r t within l.
      at_place program n T t (first_of program + r) (omega (arith, within))
      ∙ ap (λ (b : Bool). b || added program n T t (first_of program + r)) (no_other program n T t r within)
      ∙ there program n T t r l;
}
