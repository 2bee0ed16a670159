-- The literals of a body hold where its formula does.
use Rattle.std.proofs.Common.{◌≡◌, ℕ, ◌-◌, ◌<◌, Bool, true, false, cond, not, ◌&&◌, ◌||◌, List, [], ◌∷◌, length, refl, sym, ap, ◌∙◌, ⊎_elim, arith}
use Rattle.std.specs.Prelude.{nat_lt}
use Rattle.std.specs.List.{list_all, flat_map}
use Rattle.std.proofs.lemmas.Bool.{and_parts, and_from, or_right, cond-true, cond-false, lt-ltb, ltb-true, false≢true, cases_Bool}
use Rattle.std.proofs.lemmas.List.Folds.{list_all-append}
use Rattle.tel_rule.specs.declared.parts.Part.{Part}
use Rattle.tel_rule.specs.declared.parts.Part.TheVariants as parts
use Rattle.tel_rule.specs.declared.nodes.Node.{Node}
use Rattle.tel_rule.specs.declared.ground.Instance.{Instance}
use Rattle.tel_rule.specs.declared.ground.BodyLit.{BodyLit}
use Rattle.tel_rule.specs.declared.ground.BodyItem.{BodyItem}
use Rattle.tel_rule.specs.declared.ground.BodyItem.TheVariants as items
use Rattle.tel_rule.specs.Ground.{Ground, IsGround, item_in_range, literal_in_range}
use Rattle.tel_semantics.specs.Traces.{Test, IsBelow}
use Rattle.tel_semantics.specs.Formula.{negation}
use Rattle.tel_semantics.specs.NodeFormula.{node_formula}
use Rattle.tel_semantics.specs.Satisfaction.{sat}
use Rattle.tel_semantics.specs.Theory.{item_formula, literal_formula, body_formula, is_demanded}
use Rattle.tel_semantics.proofs.InRange.{item_below}
use Rattle.tel_semantics.proofs.SatLaws.{sat-persists}
use Rattle.atom_space.specs.Numbers.{Counts, visible, part, end_at}
use Rattle.normal_program.specs.StableSets.{Set, lit_holds, lits_hold}
use Rattle.formula_unfold.specs.Nodes.{counts_of}
use Rattle.stable_models.specs.Values.{full}
use Rattle.step_module.specs.Bodies.{part_stands, item_stands, literal_stands, stands, item_lits, literal_lits, part_lits, body_lits}
use Rattle.stable_models.proofs.Numbering.{full-visible, full-part, full-end, same_end}
use Rattle.stable_models.proofs.Parts.{Has}

item_var : Counts → ℕ → BodyItem → ℕ
item_var counts k (items.Atom atom) = visible counts atom k
item_var counts k (items.Before atom) = visible counts atom (k - 1)
item_var counts k (items.Node node) = part counts node k

-- whether an item looks back from the first state
is_early : ℕ → BodyItem → Bool
is_early k (items.Before atom) = not (nat_lt 0 k)
is_early k item = false

pub not_true : (b : Bool) → not b ≡ true → b ≡ false
not_true true h = sym h
not_true false h = refl

pub not_false : (b : Bool) → not b ≡ false → b ≡ true
not_false true h = refl
not_false false h = sym h

lits_late : (counts : Counts) (k : ℕ) (positive : Bool) (item : BodyItem) → is_early k item ≡ false → item_lits counts k positive item ≡ record { var = item_var counts k item; positive = positive } ∷ []
unfolding item_var is_early
lits_late counts k positive (items.Atom atom) h = refl
lits_late counts k positive (items.Before atom) h = cond-true (nat_lt 0 k) _ [] (not_false (nat_lt 0 k) h)
lits_late counts k positive (items.Node node) h = refl

lits_early : (counts : Counts) (k : ℕ) (positive : Bool) (item : BodyItem) → is_early k item ≡ true → item_lits counts k positive item ≡ []
unfolding is_early
lits_early counts k positive (items.Atom atom) h = absurd (false≢true h)
lits_early counts k positive (items.Before atom) h = cond-false (nat_lt 0 k) _ [] (not_true (nat_lt 0 k) h)
lits_early counts k positive (items.Node node) h = absurd (false≢true h)

stands_late : (k : ℕ) (positive : Bool) (item : BodyItem) → is_early k item ≡ false → item_stands k positive item ≡ true
unfolding is_early
stands_late k positive (items.Atom atom) h = refl
stands_late k positive (items.Before atom) h = or_right (not positive) (nat_lt 0 k) (not_false (nat_lt 0 k) h)
stands_late k positive (items.Node node) h = refl

stands_early : (k : ℕ) (positive : Bool) (item : BodyItem) → is_early k item ≡ true → item_stands k positive item ≡ not positive
unfolding is_early
stands_early k positive (items.Atom atom) h = absurd (false≢true h)
stands_early k true (items.Before atom) h = not_true (nat_lt 0 k) h
stands_early k false (items.Before atom) h = refl
stands_early k positive (items.Node node) h = absurd (false≢true h)

early_fails : (nodes : List Node) (n : ℕ) (H T : Test) (k : ℕ) (item : BodyItem) → is_early k item ≡ true → sat (item_formula nodes item) n H T k ≡ false
unfolding is_early
early_fails nodes n H T k (items.Atom atom) h = absurd (false≢true h)
early_fails nodes n H T k (items.Before atom) h = λ i. not_true (nat_lt 0 k) h i && H (k - 1) atom
early_fails nodes n H T k (items.Node node) h = absurd (false≢true h)

full_item : (program : Ground) (n : ℕ) (H T : Test) (k : ℕ) (item : BodyItem) → k < n → item_in_range (length program.atoms) (length program.nodes) item ≡ true → is_early k item ≡ false → full program n H T (item_var (counts_of program) k item) ≡ sat (item_formula program.nodes item) n H T k
unfolding item_var is_early
full_item program n H T k (items.Atom atom) l right late =
    full-visible program n H T atom k (ltb-true atom (length program.atoms) right) ∙ (λ i. lt-ltb k n l i && H k atom)
full_item program n H T k (items.Before atom) l right late =
    let above = not_false (nat_lt 0 k) late in
    full-visible program n H T atom (k - 1) (ltb-true atom (length program.atoms) right)
    ∙ (λ i. lt-ltb (k - 1) n (omega (arith, l)) i && H (k - 1) atom) ∙ sym (λ i. above i && H (k - 1) atom)
full_item program n H T k (items.Node node) l right late =
    full-part program n H T node k (ltb-true node (length program.nodes) right) ∙ (λ i. lt-ltb k n l i && sat (node_formula program.nodes node) n H T k)

-- ---- a literal

-- X has the nodes that hold in (H, T), where no arrow stands in them but below a Not
abbrev pub HasParts : Ground → ℕ → Test → Test → Set → (ℕ → Bool) → Type 0
HasParts program n H T X Q =
    (x k : ℕ) → x < length program.nodes → k < n → Q x ≡ true → sat (node_formula program.nodes x) n H T k ≡ true → X (part (counts_of program) x k) ≡ true

-- whether an item is an atom or such a node
abbrev pub item_free : (ℕ → Bool) → BodyItem → Bool
item_free Q (items.Atom atom) = true
item_free Q (items.Before atom) = true
item_free Q (items.Node node) = Q node

has_item : (program : Ground) (n : ℕ) (H T : Test) (X : Set) (Q : ℕ → Bool) (k : ℕ) (item : BodyItem) → Has program n H X → HasParts program n H T X Q → k < n → item_in_range (length program.atoms) (length program.nodes) item ≡ true → item_free Q item ≡ true → sat (item_formula program.nodes item) n H T k ≡ true → X (item_var (counts_of program) k item) ≡ true
unfolding item_var
has_item program n H T X Q k (items.Atom atom) has nodes l right free h = has.atoms atom k (ltb-true atom (length program.atoms) right) l h
has_item program n H T X Q k (items.Before atom) has nodes l right free h =
    has.atoms atom (k - 1) (ltb-true atom (length program.atoms) right) (omega (arith, l)) (and_parts (nat_lt 0 k) (H (k - 1) atom) h).1
has_item program n H T X Q k (items.Node node) has nodes l right free h = nodes node k (ltb-true node (length program.nodes) right) l free h

-- a negation that holds, by what it negates in (T, T)
pub negated : (a b : Bool) → ((not a || false) && (not b || false)) ≡ true → not b ≡ true
negated true b h = absurd (false≢true h)
negated false true h = h
negated false false h = refl

pub negates : (a b : Bool) → (a ≡ true → b ≡ true) → not b ≡ true → ((not a || false) && (not b || false)) ≡ true
negates true true p h = h
negates true false p h = absurd (false≢true (p refl))
negates false true p h = h
negates false false p h = refl

pub literal_from : (program : Ground) (n : ℕ) (H T : Test) (X : Set) (Q : ℕ → Bool) (k : ℕ) (positive : Bool) (item : BodyItem) → Has program n H X → HasParts program n H T X Q → k < n → item_in_range (length program.atoms) (length program.nodes) item ≡ true → (positive ≡ true → item_free Q item ≡ true) → sat (cond positive (item_formula program.nodes item) (negation (item_formula program.nodes item))) n H T k ≡ true → (item_stands k positive item ≡ true) × (lits_hold X (full program n T T) (item_lits (counts_of program) k positive item) ≡ true)
literal_from program n H T X Q k true item has nodes l right free h =
    ⊎_elim (λ (early : is_early k item ≡ true). absurd (false≢true (sym (early_fails program.nodes n H T k item early) ∙ h))) (λ (late : is_early k item ≡ false). (stands_late k true item late, ap (lits_hold X (full program n T T)) (lits_late (counts_of program) k true item late) ∙ and_from (X (item_var (counts_of program) k item)) true (has_item program n H T X Q k item has nodes l right (free refl) h) refl)) (cases_Bool (is_early k item))
literal_from program n H T X Q k false item has nodes l right free h =
    let f = item_formula program.nodes item in
    let S : Set = full program n T T in
    ⊎_elim (λ (early : is_early k item ≡ true). (stands_early k false item early, ap (lits_hold X S) (lits_early (counts_of program) k false item early))) (λ (late : is_early k item ≡ false). (stands_late k false item late, ap (lits_hold X S) (lits_late (counts_of program) k false item late) ∙ and_from (not (S (item_var (counts_of program) k item))) true (ap not (full_item program n T T k item l right late) ∙ negated (sat f n H T k) (sat f n T T k) h) refl)) (cases_Bool (is_early k item))

pub literal_to : (program : Ground) (n : ℕ) (H T : Test) (k : ℕ) (positive : Bool) (item : BodyItem) → IsGround program → IsBelow n (length program.atoms) H T → k < n → item_in_range (length program.atoms) (length program.nodes) item ≡ true → item_stands k positive item ≡ true → lits_hold (full program n H T) (full program n T T) (item_lits (counts_of program) k positive item) ≡ true → sat (cond positive (item_formula program.nodes item) (negation (item_formula program.nodes item))) n H T k ≡ true
literal_to program n H T k true item ground below l right stand h =
    let F : Set = full program n H T in
    ⊎_elim (λ (early : is_early k item ≡ true). absurd (false≢true (sym (stands_early k true item early) ∙ stand))) (λ (late : is_early k item ≡ false). let one = sym (ap (lits_hold F (full program n T T)) (lits_late (counts_of program) k true item late)) ∙ h in sym (full_item program n H T k item l right late) ∙ (and_parts (F (item_var (counts_of program) k item)) true one).0) (cases_Bool (is_early k item))
literal_to program n H T k false item ground below l right stand h =
    let f = item_formula program.nodes item in
    let F : Set = full program n H T in
    let S : Set = full program n T T in
    let persists = sat-persists f n (length program.atoms) H T (item_below (length program.atoms) (length program.nodes) program.nodes item ground.nodes right) below k l in
    negates (sat f n H T k) (sat f n T T k) persists (⊎_elim (λ (early : is_early k item ≡ true). ap not (early_fails program.nodes n T T k item early)) (λ (late : is_early k item ≡ false). let one = sym (ap (lits_hold F S) (lits_late (counts_of program) k false item late)) ∙ h in sym (ap not (full_item program n T T k item l right late)) ∙ (and_parts (not (S (item_var (counts_of program) k item))) true one).0) (cases_Bool (is_early k item)))

-- ---- a body

pub when : (a b : Bool) → (not a || b) ≡ true → a ≡ true → b ≡ true
when true b h t = h
when false b h t = absurd (false≢true t)

pub literals_from : (program : Ground) (n : ℕ) (H T : Test) (X : Set) (Q : ℕ → Bool) (k : ℕ) (body : List BodyLit) → Has program n H X → HasParts program n H T X Q → k < n → list_all (literal_in_range (length program.atoms) (length program.nodes)) body ≡ true → list_all (λ (literal : BodyLit). not literal.positive || item_free Q literal.item) body ≡ true → sat (body_formula program.nodes body) n H T k ≡ true → (list_all (literal_stands k) body ≡ true) × (lits_hold X (full program n T T) (flat_map (literal_lits (counts_of program) k) body) ≡ true)
literals_from program n H T X Q k [] has nodes l right free h = (refl, refl)
literals_from program n H T X Q k (literal ∷ more) has nodes l right free h =
    let S : Set = full program n T T in
    let r = and_parts (item_in_range (length program.atoms) (length program.nodes) literal.item) (list_all (literal_in_range (length program.atoms) (length program.nodes)) more) right in
    let q = and_parts (not literal.positive || item_free Q literal.item) (list_all (λ (other : BodyLit). not other.positive || item_free Q other.item) more) free in
    let s = and_parts (sat (literal_formula program.nodes literal) n H T k) (sat (body_formula program.nodes more) n H T k) h in
    let here = literal_from program n H T X Q k literal.positive literal.item has nodes l r.0 (λ t. when literal.positive (item_free Q literal.item) q.0 t) s.0 in
    let rest = literals_from program n H T X Q k more has nodes l r.1 q.1 s.1 in
    let lits = literal_lits (counts_of program) k literal in
    let others = flat_map (literal_lits (counts_of program) k) more in
    (and_from (literal_stands k literal) (list_all (literal_stands k) more) here.0 rest.0, list_all-append (lit_holds X S) lits others ∙ and_from (lits_hold X S lits) (lits_hold X S others) here.1 rest.1)

pub literals_to : (program : Ground) (n : ℕ) (H T : Test) (k : ℕ) (body : List BodyLit) → IsGround program → IsBelow n (length program.atoms) H T → k < n → list_all (literal_in_range (length program.atoms) (length program.nodes)) body ≡ true → list_all (literal_stands k) body ≡ true → lits_hold (full program n H T) (full program n T T) (flat_map (literal_lits (counts_of program) k) body) ≡ true → sat (body_formula program.nodes body) n H T k ≡ true
literals_to program n H T k [] ground below l right stand h = refl
literals_to program n H T k (literal ∷ more) ground below l right stand h =
    let F : Set = full program n H T in
    let S : Set = full program n T T in
    let lits = literal_lits (counts_of program) k literal in
    let others = flat_map (literal_lits (counts_of program) k) more in
    let r = and_parts (item_in_range (length program.atoms) (length program.nodes) literal.item) (list_all (literal_in_range (length program.atoms) (length program.nodes)) more) right in
    let s = and_parts (literal_stands k literal) (list_all (literal_stands k) more) stand in
    let p = and_parts (lits_hold F S lits) (lits_hold F S others) (sym (list_all-append (lit_holds F S) lits others) ∙ h) in
    and_from (sat (literal_formula program.nodes literal) n H T k) (sat (body_formula program.nodes more) n H T k) (literal_to program n H T k literal.positive literal.item ground below l r.0 s.0 p.0) (literals_to program n H T k more ground below l r.1 s.1 p.1)

-- ---- an instance

part_from : (program : Ground) (n : ℕ) (H T : Test) (X S : Set) (k : ℕ) (part : Part) → Has program n H X → k < n → is_demanded part n k ≡ true → (part_stands part k ≡ true) × (lits_hold X S (part_lits (counts_of program) k part) ≡ true)
part_from program n H T X S k parts.Initial has l h = (h, refl)
part_from program n H T X S k parts.Dynamic has l h = (h, refl)
part_from program n H T X S k parts.Always has l h = (refl, refl)
part_from program n H T X S k parts.Final has l h =
    (refl, and_from (X (end_at (counts_of program) k)) true (has.ending k l (sym (same_end k n l) ∙ h)) refl)

part_to : (program : Ground) (n : ℕ) (H T : Test) (S : Set) (k : ℕ) (part : Part) → k < n → part_stands part k ≡ true → lits_hold (full program n H T) S (part_lits (counts_of program) k part) ≡ true → is_demanded part n k ≡ true
part_to program n H T S k parts.Initial l s h = s
part_to program n H T S k parts.Dynamic l s h = s
part_to program n H T S k parts.Always l s h = refl
part_to program n H T S k parts.Final l s h =
    same_end k n l ∙ sym (full-end program n H T k l) ∙ (and_parts (full program n H T (end_at (counts_of program) k)) true h).0

pub instance_from : (program : Ground) (n : ℕ) (H T : Test) (X : Set) (Q : ℕ → Bool) (k : ℕ) (instance : Instance) → Has program n H X → HasParts program n H T X Q → k < n → list_all (literal_in_range (length program.atoms) (length program.nodes)) instance.body ≡ true → list_all (λ (literal : BodyLit). not literal.positive || item_free Q literal.item) instance.body ≡ true → is_demanded instance.part n k ≡ true → sat (body_formula program.nodes instance.body) n H T k ≡ true → (stands k instance ≡ true) × (lits_hold X (full program n T T) (body_lits (counts_of program) k instance) ≡ true)
instance_from program n H T X Q k instance has nodes l right free demanded h =
    let S : Set = full program n T T in
    let body = literals_from program n H T X Q k instance.body has nodes l right free h in
    let of_part = part_from program n H T X S k instance.part has l demanded in
    let lits = flat_map (literal_lits (counts_of program) k) instance.body in
    let others = part_lits (counts_of program) k instance.part in
    (and_from (part_stands instance.part k) (list_all (literal_stands k) instance.body) of_part.0 body.0, list_all-append (lit_holds X S) lits others ∙ and_from (lits_hold X S lits) (lits_hold X S others) body.1 of_part.1)

pub instance_to : (program : Ground) (n : ℕ) (H T : Test) (k : ℕ) (instance : Instance) → IsGround program → IsBelow n (length program.atoms) H T → k < n → list_all (literal_in_range (length program.atoms) (length program.nodes)) instance.body ≡ true → stands k instance ≡ true → lits_hold (full program n H T) (full program n T T) (body_lits (counts_of program) k instance) ≡ true → (is_demanded instance.part n k ≡ true) × (sat (body_formula program.nodes instance.body) n H T k ≡ true)
instance_to program n H T k instance ground below l right stand h =
    let F : Set = full program n H T in
    let S : Set = full program n T T in
    let lits = flat_map (literal_lits (counts_of program) k) instance.body in
    let others = part_lits (counts_of program) k instance.part in
    let p = and_parts (lits_hold F S lits) (lits_hold F S others) (sym (list_all-append (lit_holds F S) lits others) ∙ h) in
    let s = and_parts (part_stands instance.part k) (list_all (literal_stands k) instance.body) stand in
    (part_to program n H T S k instance.part l s.0 p.1, literals_to program n H T k instance.body ground below l right s.1 p.0)
