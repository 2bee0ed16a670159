-- Clauses that are alike derive the same, conflict and absorb alike.
use Rattle.std.proofs.Common.{◌≡◌, Bool, true, not, ◌&&◌, ◌||◌, List, [], ◌∷◌, ◌++◌, refl, ap, subst, ◌∙◌, inl, inr, ⊎_elim}
use Rattle.std.specs.List.{list_all}
use Rattle.tel_base.specs.declared.literals.Lit.{Lit}
use Rattle.tel_base.specs.Literals.{negate, negations}
use Rattle.tel_base.proofs.Members.{In, In-list_all, list_all-from_In, In-map, In-map_from, In-filter, In-filter_from}
use Rattle.clause_store.specs.Closure.{Clause, Lits, same_lit, others, refutes, keeps_unit, keeps_units, Up, Conflict, Absorbed}
use Rattle.normal_program.specs.ModuleClauses.{in_order}
use Rattle.completion.proofs.ShapeValues.{same_bits}
use Rattle.completion.proofs.Orders.{into_order, from_order}
use Rattle.search_log.specs.Alike.{IsAlike, AreAlike}

-- ---- alike

pub alike_self : (clause : Clause) → IsAlike clause clause
alike_self clause = record { into = λ lit i. i; from = λ lit i. i }

pub alike_back : (clause other : Clause) → IsAlike clause other → IsAlike other clause
alike_back clause other alike = record { into = alike.from; from = alike.into }

pub order_alike : (clause : Clause) → IsAlike (in_order clause) clause
order_alike clause = record { into = λ lit i. from_order lit clause i; from = λ lit i. into_order lit clause i }

pub all_alike_self : (clauses : List Clause) → AreAlike clauses clauses
all_alike_self [] = tt
all_alike_self (clause ∷ more) = (alike_self clause, all_alike_self more)

pub all_alike_back : (clauses fellows : List Clause) → AreAlike clauses fellows → AreAlike fellows clauses
all_alike_back [] [] alike = tt
all_alike_back [] (fellow ∷ fellows) alike = alike
all_alike_back (clause ∷ more) [] alike = alike
all_alike_back (clause ∷ more) (fellow ∷ fellows) alike = (alike_back clause fellow alike.0, all_alike_back more fellows alike.1)

pub all_alike_append : (clauses fellows later behind : List Clause) → AreAlike clauses fellows → AreAlike later behind → AreAlike (clauses ++ later) (fellows ++ behind)
all_alike_append [] [] later behind alike rest = rest
all_alike_append [] (fellow ∷ fellows) later behind alike rest = absurd alike
all_alike_append (clause ∷ more) [] later behind alike rest = absurd alike
all_alike_append (clause ∷ more) (fellow ∷ fellows) later behind alike rest = (alike.0, all_alike_append more fellows later behind alike.1 rest)

-- each clause has its fellow
fellow_of : (clauses fellows : List Clause) → AreAlike clauses fellows → (clause : Clause) → In clause clauses → (fellow : Clause) × In fellow fellows × IsAlike clause fellow
fellow_of [] fellows alike clause i = absurd i
fellow_of (first ∷ more) [] alike clause i = absurd alike
fellow_of (first ∷ more) (fellow ∷ fellows) alike clause i =
    ⊎_elim (λ (e : first ≡ clause). (fellow, inl refl, subst (λ (c : Clause). IsAlike c fellow) e alike.0)) (λ m. let w = fellow_of more fellows alike.1 clause m in (w.0, inr w.1, w.2)) i

pub negations_alike : (clause other : Clause) → IsAlike clause other → IsAlike (negations clause) (negations other)
negations_alike clause other alike = record { into = on clause other alike.into; from = on other clause alike.from }
  where
    on : (xs ys : Clause) → ((lit : Lit) → In lit xs → In lit ys) → (lit : Lit) → In lit (negations xs) → In lit (negations ys)
    on xs ys sub lit i = let w = In-map_from negate lit xs i in subst (λ (l : Lit). In l (negations ys)) w.2 (In-map negate w.0 ys (sub w.0 w.1))

others_alike : (lit : Lit) (clause other : Clause) → IsAlike clause other → IsAlike (others lit clause) (others lit other)
others_alike lit clause other alike = record { into = on clause other alike.into; from = on other clause alike.from }
  where
    on : (xs ys : Clause) → ((k : Lit) → In k xs → In k ys) → (k : Lit) → In k (others lit xs) → In k (others lit ys)
    on xs ys sub k i =
        let left : Lit → Bool = λ (l : Lit). not (same_lit l lit) in
        let w = In-filter_from left k xs i in
        In-filter left k ys (sub k w.0) w.1

-- ---- the unit rule

-- a test is met by all literals of one where it is by all of the other
all_same : (p : Lit → Bool) (clause other : Clause) → IsAlike clause other → list_all p clause ≡ list_all p other
all_same p clause other alike = same_bits (list_all p clause) (list_all p other) (on clause other alike.from) (on other clause alike.into)
  where
    on : (xs ys : Clause) → ((lit : Lit) → In lit ys → In lit xs) → list_all p xs ≡ true → list_all p ys ≡ true
    on xs ys sub all = list_all-from_In p ys (λ lit i. In-list_all p lit xs all (sub lit i))

-- the unit rule is kept on one clause where it is on the other
unit_same : (X : Lits) (clause other : Clause) → IsAlike clause other → keeps_unit X clause ≡ keeps_unit X other
unit_same X clause other alike =
    all_same (λ (lit : Lit). X lit || not (refutes X (others lit clause))) clause other alike
    ∙ ap (λ (p : Lit → Bool). list_all p other) (λ i lit. X lit || not (all_same (λ (l : Lit). X (negate l)) (others lit clause) (others lit other) (others_alike lit clause other alike) i))

units_same : (X : Lits) (clauses fellows : List Clause) → AreAlike clauses fellows → keeps_units clauses X ≡ keeps_units fellows X
units_same X [] [] alike = refl
units_same X [] (fellow ∷ fellows) alike = absurd alike
units_same X (clause ∷ more) [] alike = absurd alike
units_same X (clause ∷ more) (fellow ∷ fellows) alike = λ i. unit_same X clause fellow alike.0 i && units_same X more fellows alike.1 i

-- ---- what is derived

module _ (clauses fellows : List Clause) (alike : AreAlike clauses fellows) where
  pub up_alike : (start also : List Lit) → IsAlike start also → (lit : Lit) → Up clauses start lit → Up fellows also lit
  up_alike start also begun lit up X holds keep = up X (all_same X start also begun ∙ holds) (units_same X clauses fellows alike ∙ keep)

  pub conflict_alike : (start also : List Lit) → IsAlike start also → Conflict clauses start → Conflict fellows also
  conflict_alike start also begun clash =
      ⊎_elim
      (λ (two : (lit : Lit) × Up clauses start lit × Up clauses start (negate lit)). inl (two.0, up_alike start also begun two.0 two.1, up_alike start also begun (negate two.0) two.2))
      (λ (one : (clause : Clause) × In clause clauses × ((lit : Lit) → In lit clause → Up clauses start (negate lit))).
      let fellow = fellow_of clauses fellows alike one.0 one.1 in
      inr (fellow.0, fellow.1, λ lit i. up_alike start also begun (negate lit) (one.2 lit (fellow.2.from lit i))))
      clash

  pub absorbed_alike : (clause other : Clause) → IsAlike clause other → Absorbed clauses clause → Absorbed fellows other
  absorbed_alike clause other same absorbed lit i =
      let start = negations (others lit clause) in
      let also = negations (others lit other) in
      let begun = negations_alike (others lit clause) (others lit other) (others_alike lit clause other same) in
      ⊎_elim (λ (up : Up clauses start lit). inl (up_alike start also begun lit up)) (λ (clash : Conflict clauses start). inr (conflict_alike start also begun clash)) (absorbed lit (same.from lit i))
