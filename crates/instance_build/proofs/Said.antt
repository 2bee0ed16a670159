-- What the literals of a rule say among all nodes: their meaning, guarded as they are.
use Rattle.std.proofs.Common.{◌≡◌, ℕ, zero, suc, ◌+◌, ◌-◌, Bool, true, false, ◌&&◌, cond, nat_lt, List, [], ◌∷◌, ◌++◌, length, IsTrue, refl, ap, ◌∙◌, arith}
use Rattle.std.specs.Prelude.{◌==◌, slice_index_or, nat_le}
use Rattle.std.specs.List.{list_all}
use Rattle.std.proofs.lemmas.Bool.{and_parts, leb-true}
use Rattle.std.proofs.lemmas.List.Folds.{list_all-append}
use Rattle.tel_rule.specs.declared.statements.Literal.{Literal}
use Rattle.tel_rule.specs.declared.statements.Head.{Head}
use Rattle.tel_rule.specs.declared.statements.Head.TheVariants as heads
use Rattle.tel_rule.specs.declared.formulas.Atom.{Atom}
use Rattle.tel_rule.specs.declared.formulas.UnaryOp.TheVariants as unary
use Rattle.tel_rule.specs.declared.statements.LitItem.{LitItem}
use Rattle.tel_rule.specs.declared.statements.LitItem.TheVariants as lits
use Rattle.tel_rule.specs.declared.nodes.Node.{Node}
use Rattle.tel_rule.specs.declared.nodes.NodeOp.TheVariants as ops
use Rattle.tel_rule.specs.declared.nodes.Kid.{Kid}
use Rattle.tel_rule.specs.declared.nodes.Kid.TheVariants as kids
use Rattle.tel_rule.specs.declared.ground.BodyLit.{BodyLit}
use Rattle.tel_rule.specs.declared.ground.BodyItem.TheVariants as items
use Rattle.tel_rule.specs.Nodes.{kid_value, guard, guards}
use Rattle.tel_rule.specs.Ground.{item_is_guarded, literal_is_guarded, body_is_guarded}
use Rattle.tel_semantics.specs.Formula as semantic
use Rattle.tel_semantics.specs.Formula.{False, Previous, And, Arrow, negation}
use Rattle.tel_semantics.specs.NodeFormula.{op_formula, node_formulas, node_formula}
use Rattle.tel_semantics.specs.Theory.{item_formula, body_formula, head_formula}
use Rattle.instance_build.specs.Guarded.{is_guarded_formula, is_guarded_item, is_guarded_literal, is_guarded_body}
use Rattle.instance_build.specs.Instances.{Numbered, atom_kid, node_over, grown, kid_item, atom_item, once, atom_grown, not_node, twice, ground_literal, ground_body, ground_head}
use Rattle.instance_build.specs.Meaning.{formula_meaning, item_meaning, literal_meaning, is_comparison, body_meaning, head_meaning}
use Rattle.instance_build.specs.Placed.{Placed}
use Rattle.instance_build.specs.Laws.{have_few_nots, InstancesMeanRules, InstancesAreGuarded}
use Rattle.instance_build.proofs.Valued.{Valued, none_valued, more_valued, node_valued, atom_valued, formula_valued, placed_left, placed_right, placed_value}

-- ---- children as what a literal looks at

kid_means : (nodes : List Node) (kid : Kid) → item_formula nodes (kid_item kid) ≡ kid_value semantic.Atom False 0 (node_formulas nodes) kid
unfolding node_formula
kid_means nodes (kids.Atom atom) = refl
kid_means nodes (kids.Node node) =
    let itself : node ≡ node - 0 = omega arith in
    ap (λ (n : ℕ). slice_index_or (node_formulas nodes) n False) itself

kid_guarded : (nodes : List Node) (kid : Kid) → item_is_guarded nodes (kid_item kid) ≡ kid_value (λ atom. true) true 0 (guards nodes) kid
kid_guarded nodes (kids.Atom atom) = refl
kid_guarded nodes (kids.Node node) =
    let itself : node ≡ node - 0 = omega arith in
    ap (λ (n : ℕ). slice_index_or (guards nodes) n true) itself

means_placed : (nodes : List Node) (g : Numbered Kid) (f : semantic.Formula) → Valued semantic.Atom False op_formula g f → (first : ℕ) → Placed nodes first (g first).1 → item_formula nodes (kid_item (g first).0) ≡ f
means_placed nodes g f valued first placed = kid_means nodes (g first).0 ∙ placed_value semantic.Atom False op_formula g f valued nodes first placed

guarded_placed : (nodes : List Node) (g : Numbered Kid) (b : Bool) → Valued (λ (atom : ℕ). true) true guard g b → (first : ℕ) → Placed nodes first (g first).1 → item_is_guarded nodes (kid_item (g first).0) ≡ b
guarded_placed nodes g b valued first placed = kid_guarded nodes (g first).0 ∙ placed_value (λ (atom : ℕ). true) true guard g b valued nodes first placed

-- ---- atoms

atom_means : (number : Atom → ℕ) (nodes : List Node) (atom : Atom) → item_formula nodes (atom_item number atom) ≡ item_meaning number (lits.Atom atom)
atom_means number nodes atom =
    let is = number atom in
    elim (nat_lt 0 atom.before) as (λ b. item_formula nodes (cond b (items.Before is) (items.Atom is)) ≡ cond b (Previous (semantic.Atom is)) (semantic.Atom is)) [
      | true ↦ refl
      | false ↦ refl
    ]

atom_guarded : (number : Atom → ℕ) (nodes : List Node) (atom : Atom) → item_is_guarded nodes (atom_item number atom) ≡ true
atom_guarded number nodes atom =
    let is = number atom in
    elim (nat_lt 0 atom.before) as (λ b. item_is_guarded nodes (cond b (items.Before is) (items.Atom is)) ≡ true) [
      | true ↦ refl
      | false ↦ refl
    ]

atom_grown_valued : (number : Atom → ℕ) (atom : Atom) → Valued semantic.Atom False op_formula (atom_grown number atom) (item_meaning number (lits.Atom atom))
atom_grown_valued number atom =
    let is = number atom in
    let leaf = atom_valued semantic.Atom False op_formula is in
    elim (nat_lt 0 atom.before) as (λ b. Valued semantic.Atom False op_formula (cond b (node_over (ops.Unary unary.Previous) (atom_kid is ∷ [])) (atom_kid is)) (cond b (Previous (semantic.Atom is)) (semantic.Atom is))) [
      | true ↦ node_valued semantic.Atom False op_formula (ops.Unary unary.Previous) (atom_kid is ∷ []) (semantic.Atom is ∷ []) (more_valued leaf none_valued)
      | false ↦ leaf
    ]

-- ---- what literals mean

-- what the literals of an instance that a literal is put before the others of a body
abbrev Adds : List Node → List BodyLit → Bool → semantic.Formula → Type 0
Adds nodes literals left_out meaning =
    (more : List BodyLit) (rest : semantic.Formula) → body_formula nodes more ≡ rest → body_formula nodes (literals ++ more) ≡ cond left_out rest (And meaning rest)

no_not : (number : Atom → ℕ) (nodes : List Node) (item : LitItem) (first : ℕ) → Placed nodes first (once number true item first).1 → Adds nodes (once number true item first).0 (is_comparison item) (item_meaning number item)
no_not number nodes (lits.Atom atom) first placed = λ more rest same i. And (atom_means number nodes atom i) (same i)
no_not number nodes (lits.Tel formula) first placed =
    let means = means_placed nodes (grown number formula) (formula_meaning number formula) (formula_valued semantic.Atom False op_formula number formula) first placed in
    λ more rest same i. And (means i) (same i)
no_not number nodes (lits.Compare relation left right) first placed = λ more rest same. same

one_not : (number : Atom → ℕ) (nodes : List Node) (item : LitItem) (first : ℕ) → Placed nodes first (once number false item first).1 → Adds nodes (once number false item first).0 (is_comparison item) (negation (item_meaning number item))
one_not number nodes (lits.Atom atom) first placed = λ more rest same i. And (negation (atom_means number nodes atom i)) (same i)
one_not number nodes (lits.Tel formula) first placed =
    let means = means_placed nodes (grown number formula) (formula_meaning number formula) (formula_valued semantic.Atom False op_formula number formula) first placed in
    λ more rest same i. And (negation (means i)) (same i)
one_not number nodes (lits.Compare relation left right) first placed = λ more rest same. same

not_node_means : (nodes : List Node) (child : Numbered Kid) (f : semantic.Formula) → Valued semantic.Atom False op_formula child f → (first : ℕ) → Placed nodes first (not_node child first).1 → Adds nodes (not_node child first).0 false (negation (negation f))
not_node_means nodes child f valued first placed =
    let g = node_over (ops.Unary unary.Not) (child ∷ []) in
    let above = node_valued semantic.Atom False op_formula (ops.Unary unary.Not) (child ∷ []) (f ∷ []) (more_valued valued none_valued) in
    let means = means_placed nodes g (negation f) above first placed in
    λ more rest same i. And (negation (means i)) (same i)

two_nots : (number : Atom → ℕ) (nodes : List Node) (item : LitItem) (first : ℕ) → Placed nodes first (twice number item first).1 → Adds nodes (twice number item first).0 (is_comparison item) (negation (negation (item_meaning number item)))
two_nots number nodes (lits.Atom atom) first placed = not_node_means nodes (atom_grown number atom) (item_meaning number (lits.Atom atom)) (atom_grown_valued number atom) first placed
two_nots number nodes (lits.Tel formula) first placed = not_node_means nodes (grown number formula) (formula_meaning number formula) (formula_valued semantic.Atom False op_formula number formula) first placed
two_nots number nodes (lits.Compare relation left right) first placed = λ more rest same. same

adds_at : (number : Atom → ℕ) (nodes : List Node) (nots : ℕ) (item : LitItem) (first : ℕ) → IsTrue (nat_le nots 2) → Placed nodes first (ground_literal number (record { nots = nots; item = item }) first).1 → Adds nodes (ground_literal number (record { nots = nots; item = item }) first).0 (is_comparison item) (literal_meaning number (record { nots = nots; item = item }))
adds_at number nodes zero item first few placed = no_not number nodes item first placed
adds_at number nodes (suc zero) item first few placed = one_not number nodes item first placed
adds_at number nodes (suc (suc zero)) item first few placed = two_nots number nodes item first placed
adds_at number nodes (suc (suc (suc n))) item first few placed = absurd (three n few)
  where
    three : (n : ℕ) → IsTrue (nat_le (suc (suc (suc n))) 2) → ⊥
    three n few = omega (arith, leb-true (suc (suc (suc n))) 2 few)

body_means : (number : Atom → ℕ) (nodes : List Node) (body : List Literal) (first : ℕ) → IsTrue (have_few_nots body) → Placed nodes first (ground_body number body first).1 → body_formula nodes (ground_body number body first).0 ≡ body_meaning number body
body_means number nodes [] first few placed = refl
body_means number nodes (literal ∷ more) first few placed =
    let here = ground_literal number literal first in
    let second = first + length here.1 in
    let later = ground_body number more second in
    let both = and_parts (nat_le literal.nots 2) (have_few_nots more) few in
    let rest = body_means number nodes more second both.1 (placed_right nodes first here.1 later.1 placed) in
    adds_at number nodes literal.nots literal.item first both.0 (placed_left nodes first here.1 later.1 placed) later.0 (body_meaning number more) rest

head_means : (number : Atom → ℕ) (head : Head) → head_formula (ground_head number head) ≡ head_meaning number head
head_means number (heads.Normal atom) = refl
head_means number (heads.Choice atom) = refl
head_means number heads.None = refl

pub instances_mean_rules : InstancesMeanRules
instances_mean_rules number statement part head body few nodes first placed =
    let means = body_means number nodes body first few placed in
    λ i. record { part = part; formula = Arrow (means i) (head_means number head i) }

-- ---- which literals are guarded

once_guarded : (number : Atom → ℕ) (nodes : List Node) (positive : Bool) (item : LitItem) (first : ℕ) → cond positive (is_guarded_item item) true ≡ true → Placed nodes first (once number positive item first).1 → list_all (literal_is_guarded nodes) (once number positive item first).0 ≡ true
once_guarded number nodes false (lits.Atom atom) first is placed = refl
once_guarded number nodes false (lits.Tel formula) first is placed = refl
once_guarded number nodes false (lits.Compare relation left right) first is placed = refl
once_guarded number nodes true (lits.Atom atom) first is placed = λ i. atom_guarded number nodes atom i && true
once_guarded number nodes true (lits.Tel formula) first is placed =
    let guarded = guarded_placed nodes (grown number formula) (is_guarded_formula formula) (formula_valued (λ (atom : ℕ). true) true guard number formula) first placed in
    λ i. (guarded ∙ is) i && true
once_guarded number nodes true (lits.Compare relation left right) first is placed = refl

twice_guarded : (number : Atom → ℕ) (nodes : List Node) (item : LitItem) (first : ℕ) → list_all (literal_is_guarded nodes) (twice number item first).0 ≡ true
twice_guarded number nodes (lits.Atom atom) first = refl
twice_guarded number nodes (lits.Tel formula) first = refl
twice_guarded number nodes (lits.Compare relation left right) first = refl

literal_guarded : (number : Atom → ℕ) (nodes : List Node) (literal : Literal) (first : ℕ) → is_guarded_literal literal ≡ true → Placed nodes first (ground_literal number literal first).1 → list_all (literal_is_guarded nodes) (ground_literal number literal first).0 ≡ true
literal_guarded number nodes literal first is placed =
    (elim (nat_le literal.nots 1) as (λ b. Placed nodes first (cond b (once number (literal.nots == 0) literal.item first) (twice number literal.item first)).1 → list_all (literal_is_guarded nodes) (cond b (once number (literal.nots == 0) literal.item first) (twice number literal.item first)).0 ≡ true) [
      | true ↦ λ there. once_guarded number nodes (literal.nots == 0) literal.item first is there
      | false ↦ λ there. twice_guarded number nodes literal.item first
    ]) placed

body_guarded : (number : Atom → ℕ) (nodes : List Node) (body : List Literal) (first : ℕ) → list_all is_guarded_literal body ≡ true → Placed nodes first (ground_body number body first).1 → list_all (literal_is_guarded nodes) (ground_body number body first).0 ≡ true
body_guarded number nodes [] first is placed = refl
body_guarded number nodes (literal ∷ more) first is placed =
    let here = ground_literal number literal first in
    let second = first + length here.1 in
    let later = ground_body number more second in
    let both = and_parts (is_guarded_literal literal) (list_all is_guarded_literal more) is in
    let one = literal_guarded number nodes literal first both.0 (placed_left nodes first here.1 later.1 placed) in
    let rest = body_guarded number nodes more second both.1 (placed_right nodes first here.1 later.1 placed) in
    list_all-append (literal_is_guarded nodes) here.0 later.0 ∙ (λ i. one i && rest i)

rule_guarded : (number : Atom → ℕ) (nodes : List Node) (head : Head) (body : List Literal) (first : ℕ) → IsTrue (is_guarded_body head body) → Placed nodes first (ground_body number body first).1 → IsTrue (body_is_guarded nodes (ground_head number head) (ground_body number body first).0)
rule_guarded number nodes (heads.Normal atom) body first is placed = body_guarded number nodes body first is placed
rule_guarded number nodes (heads.Choice atom) body first is placed = body_guarded number nodes body first is placed
rule_guarded number nodes heads.None body first is placed = refl

pub instances_are_guarded : InstancesAreGuarded
instances_are_guarded number statement part head body is nodes first placed = rule_guarded number nodes head body first is placed
