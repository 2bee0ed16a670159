-- A node holds exactly where a body of its shape does, where the variables have the values of what they stand for.
use Rattle.std.proofs.Common.{◌≡◌, ℕ, zero, suc, ◌+◌, ◌-◌, ◌<◌, Bool, true, false, not, ◌&&◌, ◌||◌, List, [], ◌∷◌, map, refl, sym, ap, ◌∙◌, arith}
use Rattle.std.specs.Prelude.{nat_lt, ◌==◌}
use Rattle.std.proofs.lemmas.Bool.{cond-false, ne_eqb, lt-ltb, false≢true}
use Rattle.tel_rule.specs.declared.formulas.ConstOp.{ConstOp}
use Rattle.tel_rule.specs.declared.formulas.ConstOp.TheVariants as constants
use Rattle.tel_rule.specs.declared.formulas.UnaryOp.{UnaryOp}
use Rattle.tel_rule.specs.declared.formulas.UnaryOp.TheVariants as unary
use Rattle.tel_rule.specs.declared.formulas.BinaryOp.{BinaryOp}
use Rattle.tel_rule.specs.declared.formulas.BinaryOp.TheVariants as binary
use Rattle.tel_rule.specs.declared.formulas.ManyOp.{ManyOp}
use Rattle.tel_rule.specs.declared.formulas.ManyOp.TheVariants as many
use Rattle.tel_rule.specs.Nodes.{is_arrow}
use Rattle.tel_semantics.specs.Traces.{Test}
use Rattle.tel_semantics.specs.Formula.{Formula, True, False, And, Since, Trigger, Until, Release, initially, final, finally}
use Rattle.tel_semantics.specs.NodeFormula.{const_formula, unary_formula, binary_formula, many_formula}
use Rattle.tel_semantics.specs.Satisfaction.{sat}
use Rattle.tel_semantics.proofs.Expansions.{since-step, trigger-step, until-step, release-step, initially-is}
use Rattle.normal_program.specs.declared.shapes.Shape.{Shape}
use Rattle.normal_program.specs.declared.shapes.Shape.TheVariants as shapes
use Rattle.normal_program.specs.StableSets.{Set, lits_hold, shape_holds}
use Rattle.tel_base.specs.Literals.{lit_of}
use Rattle.formula_unfold.specs.Unfold.{by_state, const_shape, unary_shape, binary_shape}

abbrev pub is_not : UnaryOp → Bool
is_not unary.Not = true
is_not op = false

abbrev pub looks_back : UnaryOp → Bool
looks_back unary.AlwaysBefore = true
looks_back unary.OnceBefore = true
looks_back unary.Initially = true
looks_back op = false

abbrev pub looks_on : UnaryOp → Bool
looks_on unary.AlwaysAfter = true
looks_on unary.OnceAfter = true
looks_on unary.Finally = true
looks_on op = false

-- what the variables of the shape of f's node say at the state k
pub record Seen (X S : Set) (op : UnaryOp) (f : Formula) (n : ℕ) (H T : Test) (kid own : ℕ → ℕ) (last k : ℕ) : Type 0 where
  pub here : is_not op ≡ false → (j : ℕ) → X (kid j) ≡ (nat_lt j n && sat f n H T j)
  pub there : S (kid k) ≡ sat f n T T k
  pub persists : sat f n H T k ≡ true → sat f n T T k ≡ true
  pub back : looks_back op ≡ true → 0 < k → X (own (k - 1)) ≡ sat (unary_formula op f) n H T (k - 1)
  pub on : looks_on op ≡ true → X (own (k + 1)) ≡ (nat_lt (k + 1) n && sat (unary_formula op f) n H T (k + 1))
  pub ending : X last ≡ not (nat_lt (k + 1) n)

-- ---- truth tables

is_bool : (a : Bool) → a ≡ ((a && true) || false)
is_bool true = refl
is_bool false = refl

not_bool : (a b : Bool) → (a ≡ true → b ≡ true) → ((not a || false) && (not b || false)) ≡ ((not b && true) || false)
not_bool true true h = refl
not_bool true false h = absurd (false≢true (h refl))
not_bool false true h = refl
not_bool false false h = refl

any_bool : (a b : Bool) → (a || b) ≡ ((a && true) || ((b && true) || false))
any_bool true b = refl
any_bool false true = refl
any_bool false false = refl

all_bool : (a b : Bool) → (a && b) ≡ ((a && (b && true)) || false)
all_bool true true = refl
all_bool true false = refl
all_bool false b = refl

left_bool : (a b : Bool) → (a || (b && false)) ≡ ((a && true) || false)
left_bool true b = refl
left_bool false true = refl
left_bool false false = refl

both_bool : (a b : Bool) → (a && (b || true)) ≡ ((a && true) || false)
both_bool true true = refl
both_bool true false = refl
both_bool false b = refl

weak_bool : (l s : Bool) → ((l && s) || ((not (l && true) || false) && (not (l && true) || false))) ≡ ((not l && true) || (((l && s) && true) || false))
weak_bool true true = refl
weak_bool true false = refl
weak_bool false s = refl

always_bool : (a l o : Bool) → (a && (not l || o)) ≡ ((a && (not l && true)) || ((a && ((l && o) && true)) || false))
always_bool true true true = refl
always_bool true true false = refl
always_bool true false o = refl
always_bool false l o = refl

finally_bool : (a l o : Bool) → ((((not (l && true) || false) && (not (l && true) || false)) && a) || (l && o)) ≡ (((l && o) && true) || ((a && (not l && true)) || false))
finally_bool true true true = refl
finally_bool true true false = refl
finally_bool true false o = refl
finally_bool false true true = refl
finally_bool false true false = refl
finally_bool false false o = refl

since_bool : (g f b : Bool) → (g || (f && b)) ≡ ((g && true) || ((f && (b && true)) || false))
since_bool true f b = refl
since_bool false true true = refl
since_bool false true false = refl
since_bool false false b = refl

trigger_bool : (g f b : Bool) → (g && (f || b)) ≡ ((g && (f && true)) || ((g && (b && true)) || false))
trigger_bool true true b = refl
trigger_bool true false true = refl
trigger_bool true false false = refl
trigger_bool false f b = refl

release_bool : (g f l o : Bool) → (g && (f || (not l || o))) ≡ ((g && (f && true)) || ((g && (not l && true)) || ((g && ((l && o) && true)) || false)))
release_bool true true l o = refl
release_bool true false true true = refl
release_bool true false true false = refl
release_bool true false false o = refl
release_bool false f l o = refl

final_bool : (l : Bool) → ((not (l && true) || false) && (not (l && true) || false)) ≡ ((not l && true) || false)
final_bool true = refl
final_bool false = refl

or_false : (a : Bool) → (a || ((false || false) && (false || false))) ≡ a
or_false true = refl
or_false false = refl

or_none : (a : Bool) → a ≡ (a || false)
or_none true = refl
or_none false = refl

and_true : (a b : Bool) → (a || b) ≡ ((a && true) || b)
and_true true b = refl
and_true false b = refl

-- ---- by the state

later_shape : (k : ℕ) (first later : Shape) → 0 < k → by_state k first later ≡ later
later_shape k first later l = cond-false (k == 0) first later (ne_eqb k 0 (λ e. absurd (omega (arith, e, l))))

-- what stands behind a test that passes
behind : (t s : Bool) → t ≡ true → (t && s) ≡ s
behind true s h = refl
behind false s h = absurd (false≢true h)

seen_below : (X : Set) (v n k : ℕ) (s : Bool) → X v ≡ (nat_lt k n && s) → k < n → s ≡ X v
seen_below X v n k s e l = sym (e ∙ behind (nat_lt k n) s (lt-ltb k n l))

-- ---- operators of one formula

pub unary_step : (op : UnaryOp) (f : Formula) (n : ℕ) (H T : Test) (X S : Set) (kid own : ℕ → ℕ) (last k : ℕ) → k < n → Seen X S op f n H T kid own last k → sat (unary_formula op f) n H T k ≡ shape_holds X S (unary_shape op kid own last k)
unary_step unary.Not f n H T X S kid own last k l seen =
    let e = sym seen.there in
    not_bool (sat f n H T k) (sat f n T T k) seen.persists ∙ (λ i. (not (e i) && true) || false)
unary_step unary.Previous f n H T X S kid own last zero l seen = refl
unary_step unary.Previous f n H T X S kid own last (suc t) l seen =
    let s = sat f n H T (suc t - 1) in
    let e = seen_below X (kid (suc t - 1)) n (suc t - 1) s (seen.here refl (suc t - 1)) (omega arith) in
    behind (nat_lt 0 (suc t)) s (lt-ltb 0 (suc t) (omega arith)) ∙ is_bool s ∙ (λ i. (e i && true) || false)
    ∙ ap (shape_holds X S) (sym (later_shape (suc t) shapes.False _ (omega arith)))
unary_step unary.WeakPrevious f n H T X S kid own last zero l seen = refl
unary_step unary.WeakPrevious f n H T X S kid own last (suc t) l seen =
    let s = sat f n H T (suc t - 1) in
    let e = seen_below X (kid (suc t - 1)) n (suc t - 1) s (seen.here refl (suc t - 1)) (omega arith) in
    let p = lt-ltb 0 (suc t) (omega arith) in
    (λ i. (p i && s) || ((not (p i && true) || false) && (not (p i && true) || false))) ∙ or_false s ∙ is_bool s ∙ (λ i. (e i && true) || false)
    ∙ ap (shape_holds X S) (sym (later_shape (suc t) shapes.True _ (omega arith)))
unary_step unary.AlwaysBefore f n H T X S kid own last zero l seen =
    let e = seen_below X (kid 0) n 0 (sat f n H T 0) (seen.here refl 0) l in
    trigger-step False f n H T 0 ∙ both_bool (sat f n H T 0) false ∙ (λ i. (e i && true) || false)
unary_step unary.AlwaysBefore f n H T X S kid own last (suc t) l seen =
    let s = sat f n H T (suc t) in
    let b = sat (Trigger False f) n H T (suc t - 1) in
    let p = lt-ltb 0 (suc t) (omega arith) in
    let e = seen_below X (kid (suc t)) n (suc t) s (seen.here refl (suc t)) l in
    let d = sym (seen.back refl (omega arith)) in
    trigger-step False f n H T (suc t) ∙ (λ i. s && (false || (not (p i) || b))) ∙ all_bool s b ∙ (λ i. (e i && (d i && true)) || false)
    ∙ ap (shape_holds X S) (sym (later_shape (suc t) (shapes.Is (lit_of (kid (suc t)))) _ (omega arith)))
unary_step unary.OnceBefore f n H T X S kid own last zero l seen =
    let e = seen_below X (kid 0) n 0 (sat f n H T 0) (seen.here refl 0) l in
    since-step True f n H T 0 ∙ left_bool (sat f n H T 0) true ∙ (λ i. (e i && true) || false)
unary_step unary.OnceBefore f n H T X S kid own last (suc t) l seen =
    let s = sat f n H T (suc t) in
    let b = sat (Since True f) n H T (suc t - 1) in
    let p = lt-ltb 0 (suc t) (omega arith) in
    let e = seen_below X (kid (suc t)) n (suc t) s (seen.here refl (suc t)) l in
    let d = sym (seen.back refl (omega arith)) in
    since-step True f n H T (suc t) ∙ (λ i. s || (true && (p i && b))) ∙ any_bool s b ∙ (λ i. (e i && true) || ((d i && true) || false))
    ∙ ap (shape_holds X S) (sym (later_shape (suc t) (shapes.Is (lit_of (kid (suc t)))) _ (omega arith)))
unary_step unary.Initially f n H T X S kid own last zero l seen =
    let e = seen_below X (kid 0) n 0 (sat f n H T 0) (seen.here refl 0) l in
    initially-is f n H T 0 l ∙ is_bool (sat f n H T 0) ∙ (λ i. (e i && true) || false)
unary_step unary.Initially f n H T X S kid own last (suc t) l seen =
    let b = sat (initially f) n H T (suc t - 1) in
    let d = sym (seen.back refl (omega arith)) in
    initially-is f n H T (suc t) l ∙ sym (initially-is f n H T (suc t - 1) (omega arith)) ∙ is_bool b ∙ (λ i. (d i && true) || false)
    ∙ ap (shape_holds X S) (sym (later_shape (suc t) (shapes.Is (lit_of (kid (suc t)))) _ (omega arith)))
unary_step unary.Next f n H T X S kid own last k l seen =
    let e = sym (seen.here refl (k + 1)) in
    is_bool (nat_lt (k + 1) n && sat f n H T (k + 1)) ∙ (λ i. (e i && true) || false)
unary_step unary.WeakNext f n H T X S kid own last k l seen =
    let e = sym (seen.here refl (k + 1)) in
    let z = sym seen.ending in
    weak_bool (nat_lt (k + 1) n) (sat f n H T (k + 1)) ∙ (λ i. (z i && true) || ((e i && true) || false))
unary_step unary.AlwaysAfter f n H T X S kid own last k l seen =
    let s = sat f n H T k in
    let o = sat (Release False f) n H T (k + 1) in
    let e = seen_below X (kid k) n k s (seen.here refl k) l in
    let d = sym (seen.on refl) in
    let z = sym seen.ending in
    release-step False f n H T k l ∙ always_bool s (nat_lt (k + 1) n) o ∙ (λ i. (e i && (z i && true)) || ((e i && (d i && true)) || false))
unary_step unary.OnceAfter f n H T X S kid own last k l seen =
    let s = sat f n H T k in
    let o = sat (Until True f) n H T (k + 1) in
    let e = seen_below X (kid k) n k s (seen.here refl k) l in
    let d = sym (seen.on refl) in
    until-step True f n H T k l ∙ any_bool s (nat_lt (k + 1) n && o) ∙ (λ i. (e i && true) || ((d i && true) || false))
unary_step unary.Finally f n H T X S kid own last k l seen =
    let s = sat f n H T k in
    let o = sat (finally f) n H T (k + 1) in
    let e = seen_below X (kid k) n k s (seen.here refl k) l in
    let d = sym (seen.on refl) in
    let z = sym seen.ending in
    until-step True (And final f) n H T k l ∙ finally_bool s (nat_lt (k + 1) n) o ∙ (λ i. (d i && true) || ((e i && (z i && true)) || false))

-- ---- operators of two formulas

abbrev pub looks_back2 : BinaryOp → Bool
looks_back2 binary.Since = true
looks_back2 binary.Trigger = true
looks_back2 op = false

abbrev pub looks_on2 : BinaryOp → Bool
looks_on2 binary.Until = true
looks_on2 binary.Release = true
looks_on2 op = false

-- what the variables of the shape of f's and g's node say at the state k
pub record Seen2 (X S : Set) (op : BinaryOp) (f g : Formula) (n : ℕ) (H T : Test) (left right own : ℕ → ℕ) (last k : ℕ) : Type 0 where
  pub of_f : X (left k) ≡ sat f n H T k
  pub of_g : X (right k) ≡ sat g n H T k
  pub back : looks_back2 op ≡ true → 0 < k → X (own (k - 1)) ≡ sat (binary_formula op f g) n H T (k - 1)
  pub on : looks_on2 op ≡ true → X (own (k + 1)) ≡ (nat_lt (k + 1) n && sat (binary_formula op f g) n H T (k + 1))
  pub ending : X last ≡ not (nat_lt (k + 1) n)
  -- an arrow is judged in (T, T) alone
  pub arrow_f : is_arrow op ≡ true → (S (left k) ≡ sat f n H T k) × (sat f n T T k ≡ sat f n H T k)
  pub arrow_g : is_arrow op ≡ true → (S (right k) ≡ sat g n H T k) × (sat g n T T k ≡ sat g n H T k)

implies_bool : (f g : Bool) → ((not f || g) && (not f || g)) ≡ ((not f && true) || ((g && true) || false))
implies_bool true true = refl
implies_bool true false = refl
implies_bool false g = refl

implied_bool : (f g : Bool) → ((not g || f) && (not g || f)) ≡ ((f && true) || ((not g && true) || false))
implied_bool true true = refl
implied_bool true false = refl
implied_bool false true = refl
implied_bool false false = refl

same_bool : (f g : Bool) → (((not f || g) && (not f || g)) && ((not g || f) && (not g || f))) ≡ ((f && (g && true)) || ((not f && (not g && true)) || false))
same_bool true true = refl
same_bool true false = refl
same_bool false true = refl
same_bool false false = refl

pub binary_step : (op : BinaryOp) (f g : Formula) (n : ℕ) (H T : Test) (X S : Set) (left right own : ℕ → ℕ) (last k : ℕ) → k < n → Seen2 X S op f g n H T left right own last k → sat (binary_formula op f g) n H T k ≡ shape_holds X S (binary_shape op left right own last k)
binary_step binary.Since f g n H T X S left right own last zero l seen =
    let v = sym seen.of_g in
    since-step f g n H T 0 ∙ left_bool (sat g n H T 0) (sat f n H T 0) ∙ (λ i. (v i && true) || false)
binary_step binary.Since f g n H T X S left right own last (suc t) l seen =
    let a = sat f n H T (suc t) in
    let b = sat g n H T (suc t) in
    let back = sat (Since f g) n H T (suc t - 1) in
    let p = lt-ltb 0 (suc t) (omega arith) in
    let u = sym seen.of_f in
    let v = sym seen.of_g in
    let d = sym (seen.back refl (omega arith)) in
    since-step f g n H T (suc t) ∙ (λ i. b || (a && (p i && back))) ∙ since_bool b a back ∙ (λ i. (v i && true) || ((u i && (d i && true)) || false))
    ∙ ap (shape_holds X S) (sym (later_shape (suc t) (shapes.Is (lit_of (right (suc t)))) _ (omega arith)))
binary_step binary.Trigger f g n H T X S left right own last zero l seen =
    let v = sym seen.of_g in
    trigger-step f g n H T 0 ∙ both_bool (sat g n H T 0) (sat f n H T 0) ∙ (λ i. (v i && true) || false)
binary_step binary.Trigger f g n H T X S left right own last (suc t) l seen =
    let a = sat f n H T (suc t) in
    let b = sat g n H T (suc t) in
    let back = sat (Trigger f g) n H T (suc t - 1) in
    let p = lt-ltb 0 (suc t) (omega arith) in
    let u = sym seen.of_f in
    let v = sym seen.of_g in
    let d = sym (seen.back refl (omega arith)) in
    trigger-step f g n H T (suc t) ∙ (λ i. b && (a || (not (p i) || back))) ∙ trigger_bool b a back ∙ (λ i. (v i && (u i && true)) || ((v i && (d i && true)) || false))
    ∙ ap (shape_holds X S) (sym (later_shape (suc t) (shapes.Is (lit_of (right (suc t)))) _ (omega arith)))
binary_step binary.Until f g n H T X S left right own last k l seen =
    let o = sat (Until f g) n H T (k + 1) in
    let u = sym seen.of_f in
    let v = sym seen.of_g in
    let d = sym (seen.on refl) in
    until-step f g n H T k l ∙ since_bool (sat g n H T k) (sat f n H T k) (nat_lt (k + 1) n && o) ∙ (λ i. (v i && true) || ((u i && (d i && true)) || false))
binary_step binary.Release f g n H T X S left right own last k l seen =
    let o = sat (Release f g) n H T (k + 1) in
    let u = sym seen.of_f in
    let v = sym seen.of_g in
    let d = sym (seen.on refl) in
    let z = sym seen.ending in
    release-step f g n H T k l ∙ release_bool (sat g n H T k) (sat f n H T k) (nat_lt (k + 1) n) o
    ∙ (λ i. (v i && (u i && true)) || ((v i && (z i && true)) || ((v i && (d i && true)) || false)))
binary_step binary.Implies f g n H T X S left right own last k l seen =
    let a = sat f n H T k in
    let b = sat g n H T k in
    let tf = (seen.arrow_f refl).1 in
    let tg = (seen.arrow_g refl).1 in
    let u = sym (seen.arrow_f refl).0 in
    let v = sym seen.of_g in
    (λ i. (not a || b) && (not (tf i) || tg i)) ∙ implies_bool a b ∙ (λ i. (not (u i) && true) || ((v i && true) || false))
binary_step binary.ImpliedBy f g n H T X S left right own last k l seen =
    let a = sat f n H T k in
    let b = sat g n H T k in
    let tf = (seen.arrow_f refl).1 in
    let tg = (seen.arrow_g refl).1 in
    let u = sym seen.of_f in
    let v = sym (seen.arrow_g refl).0 in
    (λ i. (not b || a) && (not (tg i) || tf i)) ∙ implied_bool a b ∙ (λ i. (u i && true) || ((not (v i) && true) || false))
binary_step binary.Same f g n H T X S left right own last k l seen =
    let a = sat f n H T k in
    let b = sat g n H T k in
    let tf = (seen.arrow_f refl).1 in
    let tg = (seen.arrow_g refl).1 in
    let u = sym seen.of_f in
    let v = sym seen.of_g in
    let us = sym (seen.arrow_f refl).0 in
    let vs = sym (seen.arrow_g refl).0 in
    (λ i. ((not a || b) && (not (tf i) || tg i)) && ((not b || a) && (not (tg i) || tf i))) ∙ same_bool a b
    ∙ (λ i. (u i && (v i && true)) || ((not (us i) && (not (vs i) && true)) || false))

-- ---- constants and chains

pub const_step : (op : ConstOp) (n : ℕ) (H T : Test) (X S : Set) (last k : ℕ) → k < n → X last ≡ not (nat_lt (k + 1) n) → sat (const_formula op) n H T k ≡ shape_holds X S (const_shape op last k)
const_step constants.True n H T X S last k l e = refl
const_step constants.False n H T X S last k l e = refl
const_step constants.Initial n H T X S last zero l e = refl
const_step constants.Initial n H T X S last (suc t) l e =
    let p = lt-ltb 0 (suc t) (omega arith) in
    (λ i. (not (p i && true) || false) && (not (p i && true) || false))
    ∙ ap (shape_holds X S) (sym (later_shape (suc t) shapes.True shapes.False (omega arith)))
const_step constants.Final n H T X S last k l e =
    let z = sym e in
    final_bool (nat_lt (k + 1) n) ∙ (λ i. (z i && true) || false)

-- each variable has the value of its formula
abbrev pub EachSeen : Set → List (ℕ → ℕ) → List Formula → ℕ → Test → Test → ℕ → Type 0
EachSeen X [] formulas n H T k = formulas ≡ []
EachSeen X (kid ∷ kids) [] n H T k = ⊥
EachSeen X (kid ∷ kids) (f ∷ formulas) n H T k = (X (kid k) ≡ sat f n H T k) × EachSeen X kids formulas n H T k

-- the shape of a chain over these variables
abbrev pub many_vars : ManyOp → List (ℕ → ℕ) → ℕ → Shape
many_vars many.And kids t = shapes.All (map (λ (kid : ℕ → ℕ). lit_of (kid t)) kids)
many_vars many.Or kids t = shapes.Any (map (λ (kid : ℕ → ℕ). lit_of (kid t)) kids)

pub and_step : (kids : List (ℕ → ℕ)) (formulas : List Formula) (n : ℕ) (H T : Test) (X S : Set) (k : ℕ) → EachSeen X kids formulas n H T k → sat (many_formula many.And formulas) n H T k ≡ lits_hold X S (map (λ (kid : ℕ → ℕ). lit_of (kid k)) kids)
and_step [] formulas n H T X S k seen = ap (λ (fs : List Formula). sat (many_formula many.And fs) n H T k) seen
and_step (kid ∷ kids) [] n H T X S k seen = absurd seen
and_step (kid ∷ kids) (f ∷ formulas) n H T X S k seen =
    let e = sym seen.0 in
    let more = and_step kids formulas n H T X S k seen.1 in
    λ i. e i && more i

pub or_step : (kids : List (ℕ → ℕ)) (formulas : List Formula) (n : ℕ) (H T : Test) (X S : Set) (k : ℕ) → EachSeen X kids formulas n H T k → sat (many_formula many.Or formulas) n H T k ≡ shape_holds X S (many_vars many.Or kids k)
or_step [] formulas n H T X S k seen = ap (λ (fs : List Formula). sat (many_formula many.Or fs) n H T k) seen
or_step (kid ∷ kids) [] n H T X S k seen = absurd seen
or_step (kid ∷ kids) (f ∷ formulas) n H T X S k seen =
    let e = sym seen.0 in
    let more = or_step kids formulas n H T X S k seen.1 in
    and_true (sat f n H T k) (sat (many_formula many.Or formulas) n H T k) ∙ (λ i. (e i && true) || more i)

pub many_step : (op : ManyOp) (kids : List (ℕ → ℕ)) (formulas : List Formula) (n : ℕ) (H T : Test) (X S : Set) (k : ℕ) → EachSeen X kids formulas n H T k → sat (many_formula op formulas) n H T k ≡ shape_holds X S (many_vars op kids k)
many_step many.And kids formulas n H T X S k seen =
    and_step kids formulas n H T X S k seen ∙ or_none (lits_hold X S (map (λ (kid : ℕ → ℕ). lit_of (kid k)) kids))
many_step many.Or kids formulas n H T X S k seen = or_step kids formulas n H T X S k seen
