-- The value of a variable by its name.
use Rattle.std.proofs.Common.{◌≡◌, ℕ, ◌+◌, ◌*◌, ◌<◌, ◌≤◌, Bool, true, false, not, ◌&&◌, length, refl, sym, ap, ◌∙◌, ⊎_elim, arith}
use Rattle.std.specs.Prelude.{nat_lt, ◌==◌}
use Rattle.std.proofs.lemmas.Bool.{cond-true, cond-false, lt-ltb, ltb-true, ltb-false, false_from_ne_true, false≢true, eq-eqb, eqb-true, cases_Bool}
use Rattle.std.proofs.lemmas.Nat.{div-mul-add, mod-mul-add}
use Rattle.tel_rule.specs.Ground.{Ground}
use Rattle.tel_semantics.specs.Traces.{Test}
use Rattle.tel_semantics.specs.NodeFormula.{node_formula}
use Rattle.tel_semantics.specs.Satisfaction.{sat}
use Rattle.atom_space.specs.Numbers.{width, visible, part, end_at}
use Rattle.formula_unfold.specs.Nodes.{counts_of}
use Rattle.stable_models.specs.Values.{place_value, full}

pub full-place : (program : Ground) (n : ℕ) (H T : Test) (t place : ℕ) → place < width (counts_of program) → full program n H T (t * width (counts_of program) + place) ≡ (nat_lt t n && place_value program n H T t place)
full-place program n H T t place within =
    let w = width (counts_of program) in
    let d = div-mul-add t w place within in
    let m = mod-mul-add t w place within in
    λ i. nat_lt (d i) n && place_value program n H T (d i) (m i)

not_below : (a b : ℕ) → b ≤ a → nat_lt a b ≡ false
not_below a b h = false_from_ne_true (nat_lt a b) (λ t. absurd (omega (arith, ltb-true a b t, h)))

pub full-visible : (program : Ground) (n : ℕ) (H T : Test) (a t : ℕ) → a < length program.atoms → full program n H T (visible (counts_of program) a t) ≡ (nat_lt t n && H t a)
full-visible program n H T a t within =
    full-place program n H T t a (omega (arith, within))
    ∙ ap (λ (b : Bool). nat_lt t n && b) (cond-true (nat_lt a (length program.atoms)) _ _ (lt-ltb a (length program.atoms) within))

pub full-part : (program : Ground) (n : ℕ) (H T : Test) (x t : ℕ) → x < length program.nodes → full program n H T (part (counts_of program) x t) ≡ (nat_lt t n && sat (node_formula program.nodes x) n H T t)
full-part program n H T x t within =
    let atoms = length program.atoms in
    full-place program n H T t (atoms + x) (omega (arith, within))
    ∙ ap (λ (b : Bool). nat_lt t n && b)
    (cond-false (nat_lt (atoms + x) atoms) _ _ (not_below (atoms + x) atoms (omega arith))
    ∙ cond-true (nat_lt (atoms + x) (atoms + length program.nodes)) _ _ (lt-ltb (atoms + x) (atoms + length program.nodes) (omega (arith, within)))
    ∙ ap (λ (y : ℕ). sat (node_formula program.nodes y) n H T t) (omega arith))

pub same_end : (t n : ℕ) → t < n → (t + 1 == n) ≡ not (nat_lt (t + 1) n)
same_end t n l =
    ⊎_elim (λ (lit_of : (t + 1 == n) ≡ true). let e = eqb-true (t + 1) n lit_of in lit_of ∙ sym (ap not (not_below (t + 1) n (omega (arith, e))))) (λ (other : (t + 1 == n) ≡ false). let above : (t + 1) < n = ⊎_elim (λ u. ltb-true (t + 1) n u) (λ u. absurd (false≢true (sym other ∙ eq-eqb (t + 1) n (omega (arith, l, ltb-false (t + 1) n u))))) (cases_Bool (nat_lt (t + 1) n)) in other ∙ sym (ap not (lt-ltb (t + 1) n above))) (cases_Bool (t + 1 == n))

pub full-end : (program : Ground) (n : ℕ) (H T : Test) (t : ℕ) → t < n → full program n H T (end_at (counts_of program) t) ≡ not (nat_lt (t + 1) n)
full-end program n H T t l =
    let atoms = length program.atoms in
    let nodes = length program.nodes in
    let bodies = length program.instances in
    let here = atoms + nodes + bodies in
    full-place program n H T t here (omega arith)
    ∙ (λ i. lt-ltb t n l i && place_value program n H T t here)
    ∙ cond-false (nat_lt here atoms) _ _ (not_below here atoms (omega arith))
    ∙ cond-false (nat_lt here (atoms + nodes)) _ _ (not_below here (atoms + nodes) (omega arith))
    ∙ (λ i. eq-eqb here here refl i && (t + 1 == n))
    ∙ same_end t n l
