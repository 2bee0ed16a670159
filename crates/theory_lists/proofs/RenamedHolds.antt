-- A formula with its atoms replaced holds where the formula holds of what they are replaced by.
use Rattle.std.proofs.Common.{◌≡◌, ℕ, ◌+◌, ◌-◌, Bool, true, not, ◌&&◌, ◌||◌, List, [], ◌∷◌, map, refl, ap, ap₂, ◌∙◌}
use Rattle.std.specs.Prelude.{nat_lt, nat_le}
use Rattle.std.specs.List.{list_all}
use Rattle.std.proofs.lemmas.Bool.{and_parts}
use Rattle.tel_semantics.specs.Traces.{Test, Agree}
use Rattle.tel_semantics.specs.Formula.{FormulaOver, True, False, Atom, And, Or, Arrow, Previous, Since, Trigger, Next, Until, Release}
use Rattle.tel_semantics.specs.Satisfaction.{sat}
use Rattle.tel_semantics.specs.Theory.{Demand, is_demanded, meets, is_model}
use Rattle.tel_semantics.proofs.Quantifiers.{each_below-same, some_below-same}
use Rattle.tel_semantics.proofs.SatLaws.{sat-agree}
use Rattle.tel_semantics.proofs.InRange.{demand_below}
use Rattle.theory_lists.specs.Renaming.{renamed, renamed_demand}

-- what a test of atoms of one kind says of those of another
abbrev pub through : {X Y : Type 0} → (X → Y) → (ℕ → Y → Bool) → ℕ → X → Bool
through r T k atom = T k (r atom)

pub sat-renamed : {X Y : Type 0} (r : X → Y) (f : FormulaOver X) (n : ℕ) (H T : ℕ → Y → Bool) (k : ℕ) → sat (renamed r f) n H T k ≡ sat f n (through r H) (through r T) k
sat-renamed r True n H T k = refl
sat-renamed r False n H T k = refl
sat-renamed r (Atom atom) n H T k = refl
sat-renamed r (And f g) n H T k = ap₂ (λ a b. a && b) (sat-renamed r f n H T k) (sat-renamed r g n H T k)
sat-renamed r (Or f g) n H T k = ap₂ (λ a b. a || b) (sat-renamed r f n H T k) (sat-renamed r g n H T k)
sat-renamed r (Arrow f g) n H T k =
    ap₂ (λ a b. a && b) (ap₂ (λ a b. not a || b) (sat-renamed r f n H T k) (sat-renamed r g n H T k)) (ap₂ (λ a b. not a || b) (sat-renamed r f n T T k) (sat-renamed r g n T T k))
sat-renamed r (Previous f) n H T k = ap (λ b. nat_lt 0 k && b) (sat-renamed r f n H T (k - 1))
sat-renamed r (Since f g) n H T k =
    some_below-same (k + 1) _ _ (λ j l. ap₂ (λ a b. a && b) (sat-renamed r g n H T j) (each_below-same (k + 1) _ _ (λ i m. ap (λ b. not (nat_lt j i) || b) (sat-renamed r f n H T i))))
sat-renamed r (Trigger f g) n H T k =
    each_below-same (k + 1) _ _ (λ j l. ap₂ (λ a b. a || b) (sat-renamed r g n H T j) (some_below-same (k + 1) _ _ (λ i m. ap (λ b. nat_lt j i && b) (sat-renamed r f n H T i))))
sat-renamed r (Next f) n H T k = ap (λ b. nat_lt (k + 1) n && b) (sat-renamed r f n H T (k + 1))
sat-renamed r (Until f g) n H T k =
    some_below-same n _ _ (λ j l. ap (λ b. nat_le k j && b) (ap₂ (λ a b. a && b) (sat-renamed r g n H T j) (each_below-same j _ _ (λ i m. ap (λ b. not (nat_le k i) || b) (sat-renamed r f n H T i)))))
sat-renamed r (Release f g) n H T k =
    each_below-same n _ _ (λ j l. ap (λ b. not (nat_le k j) || b) (ap₂ (λ a b. a || b) (sat-renamed r g n H T j) (some_below-same j _ _ (λ i m. ap (λ b. nat_le k i && b) (sat-renamed r f n H T i)))))

-- two pairs of tests, one through the replacement, that agree in range have the same models
meets-renamed : {Y : Type 0} (r : ℕ → Y) (demand : Demand) (n count : ℕ) (S U : ℕ → Y → Bool) (H T : Test) → demand_below count demand ≡ true → Agree n count (through r S) H → Agree n count (through r U) T → meets n S U (renamed_demand r demand) ≡ meets n H T demand
meets-renamed r demand n count S U H T a d e =
    each_below-same n _ _ (λ k l. ap (λ (b : Bool). not (is_demanded demand.part n k) || b)
    (sat-renamed r demand.formula n S U k ∙ sat-agree demand.formula n count (through r S) (through r U) H T a d e k l))

pub models-renamed : {Y : Type 0} (r : ℕ → Y) (demands : List Demand) (n count : ℕ) (S U : ℕ → Y → Bool) (H T : Test) → list_all (demand_below count) demands ≡ true → Agree n count (through r S) H → Agree n count (through r U) T → is_model (map (renamed_demand r) demands) n S U ≡ is_model demands n H T
models-renamed r [] n count S U H T a d e = refl
models-renamed r (demand ∷ more) n count S U H T a d e =
    let both = and_parts (demand_below count demand) (list_all (demand_below count) more) a in
    ap₂ (λ (b c : Bool). b && c) (meets-renamed r demand n count S U H T both.0 d e) (models-renamed r more n count S U H T both.1 d e)
