-- How far a walk over nodes still has to go: a node has the rank of those after it and itself.
use Rattle.std.proofs.Common.{◌≡◌, ℕ, zero, suc, ◌-◌, ◌<◌, ◌≤◌, true, List, [], ◌∷◌, length, max, get_or, refl, arith}
use Rattle.std.specs.Prelude.{nat_lt}
use Rattle.std.specs.List.{list_all}
use Rattle.std.proofs.lemmas.Bool.{and_parts, and_from, ltb-true}
use Rattle.tel_rule.specs.declared.nodes.Kid.{Kid}
use Rattle.tel_rule.specs.declared.nodes.Kid.TheVariants as kids
use Rattle.tel_rule.specs.Nodes.{is_kid, kid_in_range}
use Rattle.tel_semantics.specs.Walking.{kid_rank, most_rank}

-- a child of a node in range has a smaller rank than the node
pub kid_rank-below : (atoms total x : ℕ) (kid : Kid) → x < total → is_kid atoms total x kid ≡ true → kid_rank total kid < total - x
kid_rank-below atoms total x (kids.Atom atom) within right = omega arith
kid_rank-below atoms total x (kids.Node node) within right =
    let both = and_parts (nat_lt x node) (nat_lt node total) right in
    omega (arith, ltb-true x node both.0, ltb-true node total both.1)

pub most_rank-below : (atoms total x : ℕ) (list : List Kid) → x < total → list_all (is_kid atoms total x) list ≡ true → most_rank total list < total - x
most_rank-below atoms total x [] within right = omega arith
most_rank-below atoms total x (kid ∷ more) within right =
    let both = and_parts (is_kid atoms total x kid) (list_all (is_kid atoms total x) more) right in
    omega (arith, kid_rank-below atoms total x kid within both.0, most_rank-below atoms total x more within both.1)

-- each of these children has at most the greatest rank of them
pub kid_rank-most : (total : ℕ) (list : List Kid) (i : ℕ) (d : Kid) → i < length list → kid_rank total (get_or list i d) ≤ most_rank total list
kid_rank-most total [] i d within = absurd (omega arith)
kid_rank-most total (first ∷ more) zero d within = omega arith
kid_rank-most total (first ∷ more) (suc i) d within = omega (arith, kid_rank-most total more i d (omega arith))

pub in_range-at : (atoms total : ℕ) (list : List Kid) (i : ℕ) (d : Kid) → list_all (kid_in_range atoms total) list ≡ true → i < length list → kid_in_range atoms total (get_or list i d) ≡ true
in_range-at atoms total [] i d right within = absurd (omega arith)
in_range-at atoms total (kid ∷ more) zero d right within = (and_parts (kid_in_range atoms total kid) (list_all (kid_in_range atoms total) more) right).0
in_range-at atoms total (kid ∷ more) (suc i) d right within =
    in_range-at atoms total more i d (and_parts (kid_in_range atoms total kid) (list_all (kid_in_range atoms total) more) right).1 (omega arith)

-- a child is in range
pub kid-in_range : (atoms total x : ℕ) (kid : Kid) → is_kid atoms total x kid ≡ true → kid_in_range atoms total kid ≡ true
kid-in_range atoms total x (kids.Atom atom) right = right
kid-in_range atoms total x (kids.Node node) right = (and_parts (nat_lt x node) (nat_lt node total) right).1

pub kids-in_range : (atoms total x : ℕ) (list : List Kid) → list_all (is_kid atoms total x) list ≡ true → list_all (kid_in_range atoms total) list ≡ true
kids-in_range atoms total x [] right = refl
kids-in_range atoms total x (kid ∷ more) right =
    let both = and_parts (is_kid atoms total x kid) (list_all (is_kid atoms total x) more) right in
    and_from (kid_in_range atoms total kid) (list_all (kid_in_range atoms total) more) (kid-in_range atoms total x kid both.0) (kids-in_range atoms total x more both.1)
