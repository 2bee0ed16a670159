-- Names and numbers are one to one.
use Rattle.std.proofs.Common.{◌≡◌, ℕ, ◌+◌, ◌-◌, ◌*◌, ◌/◌, ◌%◌, ◌^◌, ◌<◌, ◌≤◌, ◌↔◌, Bool, true, false, ◌&&◌, cond, Option, Some, None, refl, sym, ap, ◌∙◌, arith}
use Rattle.std.specs.Prelude.{nat_lt, nat_le, is_some}
use Rattle.std.proofs.Math.Nat.{div-add-mod, mod-lt}
use Rattle.std.proofs.lemmas.Nat.{mul-le, div-mul-add, mod-mul-add}
use Rattle.std.proofs.lemmas.Bool.{cond-true, cond-false, cond_both, and_parts, and_from, ltb-true, ltb-false, lt-ltb, le-ltb, leb-true, le-leb, false≢true}
use Rattle.atom_space.specs.declared.space.VarName.{VarName}
use Rattle.atom_space.specs.declared.space.VarName.TheVariants as names
use Rattle.atom_space.specs.Numbers.{Counts, Space, width}
use Rattle.atom_space.specs.Names.{number_of, is_named, var_of}
use Rattle.atom_space.specs.Naming.{name_at}
use Rattle.atom_space.specs.Laws.{NamesApart, NumbersBelow}

step : (t w : ℕ) → (t + 1) * w ≡ t * w + w
step t w = omega arith

pub in_space : (t g w place : ℕ) → t ≤ g → place < w → (g + 1) * w < 2 ^ 31 → t * w + place < 2 ^ 31
in_space t g w place l p small =
    let one : (t + 1) * w ≤ (g + 1) * w = mul-le (t + 1) w (g + 1) w (omega (arith, l)) (omega arith) in
    omega (arith, p, small, one, step t w)

abbrev or_zero : Option ℕ → ℕ
or_zero None = 0
or_zero (Some x) = x

guarded : (b : Bool) (x v : ℕ) → cond b (Some x) None ≡ Some v → (b ≡ true) × (x ≡ v)
guarded true x v e = (refl, ap or_zero e)
guarded false x v e = absurd (false≢true (ap is_some e))

-- the place of a name among the variables of its state, and that state
abbrev place_of : Counts → VarName → ℕ
place_of counts (names.Visible atom t) = atom
place_of counts (names.Part node t) = counts.atoms + node
place_of counts (names.Body instance t) = counts.atoms + counts.nodes + instance
place_of counts (names.End t) = counts.atoms + counts.nodes + counts.bodies

abbrev state_of : VarName → ℕ
state_of (names.Visible atom t) = t
state_of (names.Part node t) = t
state_of (names.Body instance t) = t
state_of (names.End t) = t

number_is : (counts : Counts) (name : VarName) → number_of counts name ≡ state_of name * width counts + place_of counts name
number_is counts (names.Visible atom t) = refl
number_is counts (names.Part node t) = refl
number_is counts (names.Body instance t) = refl
number_is counts (names.End t) = refl

-- what a name that is of the space keeps
record Placed (space : Space) (name : VarName) : Type 0 where
  within : place_of space.counts name < width space.counts
  state : state_of name ≤ space.greatest
  back : name_at space.counts (place_of space.counts name) (state_of name) ≡ name

placed : (space : Space) (name : VarName) → is_named space name ≡ true → Placed space name
placed space (names.Visible atom t) h =
    let both = and_parts (nat_lt atom space.counts.atoms) (nat_le t space.greatest) h in
    let below = ltb-true atom space.counts.atoms both.0 in
    record { within = omega (arith, below); state = leb-true t space.greatest both.1; back = cond-true (nat_lt atom space.counts.atoms) _ _ both.0 }
placed space (names.Part node t) h =
    let a = space.counts.atoms in
    let both = and_parts (nat_lt node space.counts.nodes) (nat_le t space.greatest) h in
    let below = ltb-true node space.counts.nodes both.0 in
    record {
      within = omega (arith, below);
      state = leb-true t space.greatest both.1;
      back = cond-false (nat_lt (a + node) a) _ _ (le-ltb (a + node) a (omega arith))
          ∙ cond-true (nat_lt (a + node) (a + space.counts.nodes)) _ _ (lt-ltb (a + node) (a + space.counts.nodes) (omega (arith, below)))
          ∙ ap (λ (x : ℕ). names.Part x t) (omega arith);
    }
placed space (names.Body instance t) h =
    let a = space.counts.atoms in
    let n = space.counts.nodes in
    let both = and_parts (nat_lt instance space.counts.bodies) (nat_le t space.greatest) h in
    let below = ltb-true instance space.counts.bodies both.0 in
    record {
      within = omega (arith, below);
      state = leb-true t space.greatest both.1;
      back = cond-false (nat_lt (a + n + instance) a) _ _ (le-ltb (a + n + instance) a (omega arith))
          ∙ cond-false (nat_lt (a + n + instance) (a + n)) _ _ (le-ltb (a + n + instance) (a + n) (omega arith))
          ∙ cond-true (nat_lt (a + n + instance) (a + n + space.counts.bodies)) _ _ (lt-ltb (a + n + instance) (a + n + space.counts.bodies) (omega (arith, below)))
          ∙ ap (λ (x : ℕ). names.Body x t) (omega arith);
    }
placed space (names.End t) h =
    let a = space.counts.atoms in
    let n = space.counts.nodes in
    let b = space.counts.bodies in
    record {
      within = omega arith;
      state = leb-true t space.greatest h;
      back = cond-false (nat_lt (a + n + b) a) _ _ (le-ltb (a + n + b) a (omega arith))
          ∙ cond-false (nat_lt (a + n + b) (a + n)) _ _ (le-ltb (a + n + b) (a + n) (omega arith))
          ∙ cond-false (nat_lt (a + n + b) (a + n + b)) _ _ (le-ltb (a + n + b) (a + n + b) (omega arith));
    }

-- a variable with a name has this name by its quotient and remainder
pub named_by : (space : Space) (name : VarName) (var : ℕ) → var_of space name ≡ Some var → name_at space.counts (var % width space.counts) (var / width space.counts) ≡ name
named_by space name var is =
    let both = guarded (is_named space name) (number_of space.counts name) var is in
    let here = placed space name both.0 in
    let w = width space.counts in
    let number : state_of name * w + place_of space.counts name ≡ var = sym (number_is space.counts name) ∙ both.1 in
    let state : var / w ≡ state_of name = ap (λ (v : ℕ). v / w) (sym number) ∙ div-mul-add (state_of name) w (place_of space.counts name) here.within in
    let place : var % w ≡ place_of space.counts name = ap (λ (v : ℕ). v % w) (sym number) ∙ mod-mul-add (state_of name) w (place_of space.counts name) here.within in
    (λ i. name_at space.counts (place i) (state i)) ∙ here.back

-- so names are apart
pub names_apart : NamesApart
names_apart space name other var one two = sym (named_by space name var one) ∙ named_by space other var two

pub numbers_below : NumbersBelow
numbers_below space name var is =
    let both = guarded (is_named space name) (number_of space.counts name) var is in
    let here = placed space name both.0 in
    let w = width space.counts in
    let number : state_of name * w + place_of space.counts name ≡ var = sym (number_is space.counts name) ∙ both.1 in
    let one : (state_of name + 1) * w ≤ (space.greatest + 1) * w = mul-le (state_of name + 1) w (space.greatest + 1) w (omega (arith, here.state)) (omega arith) in
    omega (arith, number, here.within, one, step (state_of name) w)

-- the name at a place has that variable
pub at_place : (space : Space) (place t : ℕ) → place < width space.counts → t ≤ space.greatest → var_of space (name_at space.counts place t) ≡ Some (t * width space.counts + place)
at_place space place t within state =
    let a = space.counts.atoms in
    let n = space.counts.nodes in
    let b = space.counts.bodies in
    let w = width space.counts in
    let there = le-leb t space.greatest state in
    cond_both (nat_lt place a) (names.Visible place t) _ (λ (name : VarName). var_of space name ≡ Some (t * w + place))
    (λ one. cond-true (nat_lt place a && nat_le t space.greatest) _ _ (and_from (nat_lt place a) (nat_le t space.greatest) one there))
    (λ one. cond_both (nat_lt place (a + n)) (names.Part (place - a) t) _ (λ (name : VarName). var_of space name ≡ Some (t * w + place))
    (λ two.
    let above = ltb-false place a one in
    let below = ltb-true place (a + n) two in
    cond-true (nat_lt (place - a) n && nat_le t space.greatest) _ _ (and_from (nat_lt (place - a) n) (nat_le t space.greatest) (lt-ltb (place - a) n (omega (arith, above, below))) there)
    ∙ ap (λ (x : ℕ). Some (t * w + x)) (omega (arith, above)))
    (λ two. cond_both (nat_lt place (a + n + b)) (names.Body (place - (a + n)) t) (names.End t) (λ (name : VarName). var_of space name ≡ Some (t * w + place))
    (λ three.
    let above = ltb-false place (a + n) two in
    let below = ltb-true place (a + n + b) three in
    cond-true (nat_lt (place - (a + n)) b && nat_le t space.greatest) _ _ (and_from (nat_lt (place - (a + n)) b) (nat_le t space.greatest) (lt-ltb (place - (a + n)) b (omega (arith, above, below))) there)
    ∙ ap (λ (x : ℕ). Some (t * w + x)) (omega (arith, above)))
    (λ three.
    let above = ltb-false place (a + n + b) three in
    cond-true (nat_le t space.greatest) _ _ there ∙ ap (λ (x : ℕ). Some (t * w + x)) (omega (arith, above, within)))))

abbrev name_or : VarName → Option VarName → VarName
name_or other None = other
name_or other (Some name) = name

-- the name found for a variable is the one that has it
pub inverse : (space : Space) (var : ℕ) (found : VarName) → found ≡ name_at space.counts (var % width space.counts) (var / width space.counts) → var / width space.counts ≤ space.greatest → (name : VarName) → ◌↔◌ (◌≡◌ {A = Option VarName} (Some found) (Some name)) (var_of space name ≡ Some var)
inverse space var found is state name =
    let w = width space.counts in
    let split : var / w * w + var % w ≡ var = omega (arith, div-add-mod var w) in
    let there : var_of space found ≡ Some var = ap (var_of space) is ∙ at_place space (var % w) (var / w) (mod-lt var (omega arith)) state ∙ ap (λ (v : ℕ). Some v) split in
    (λ same. ap (var_of space) (sym (ap (name_or found) same)) ∙ there, λ has. ap (λ (n : VarName). Some n) (is ∙ named_by space name var has))
