-- Nodes whose ways down to an arrow pass a Not.
use Rattle.std.proofs.Common.{◌≡◌, ℕ, ◌<◌, Bool, true, false, cond, not, ◌||◌, List, [], ◌∷◌, length, map, refl, sym, ap, ◌∙◌, arith}
use Rattle.std.specs.Prelude.{slice_index_or}
use Rattle.std.specs.List.{list_all}
use Rattle.std.proofs.lemmas.Bool.{and_parts, and_from, eqb-true, false≢true}
use Rattle.std.proofs.Math.Nat.{sub-zero}
use Rattle.tel_rule.specs.declared.formulas.UnaryOp.TheVariants as unary
use Rattle.tel_rule.specs.declared.nodes.Node.{Node}
use Rattle.tel_rule.specs.declared.nodes.NodeOp.{NodeOp}
use Rattle.tel_rule.specs.declared.nodes.NodeOp.TheVariants as ops
use Rattle.tel_rule.specs.declared.nodes.Kid.{Kid}
use Rattle.tel_rule.specs.declared.nodes.Kid.TheVariants as kids
use Rattle.tel_rule.specs.declared.ground.GroundHead.{GroundHead}
use Rattle.tel_rule.specs.declared.ground.GroundHead.TheVariants as heads
use Rattle.tel_rule.specs.declared.ground.BodyLit.{BodyLit}
use Rattle.tel_rule.specs.declared.ground.BodyItem.{BodyItem}
use Rattle.tel_rule.specs.declared.ground.BodyItem.TheVariants as items
use Rattle.tel_rule.specs.Nodes.{kid_value, takes_kids, is_arrow, guard, guards}
use Rattle.tel_rule.specs.Ground.{Ground, IsGround, item_is_guarded, literal_is_guarded, body_is_guarded}
use Rattle.tel_rule.proofs.NodeSteps.{value-at}
use Rattle.tel_semantics.specs.Traces.{Test}
use Rattle.tel_base.proofs.Members.{In, In-list_all, In-map}
use Rattle.formula_unfold.specs.Nodes.{node_of}
use Rattle.stable_models.proofs.NodeSteps.{is_not_op, is_arrow_op}
use Rattle.formula_unfold.proofs.NodeReads.{get_same}
use Rattle.stable_models.proofs.Parts.{at_node, Free}
use Rattle.stable_models.proofs.Bodies.{item_free}

no_arrow : (a b : Bool) → cond a false b ≡ true → (a ≡ false) × (b ≡ true)
no_arrow true b h = absurd (false≢true h)
no_arrow false b h = (refl, h)

guard_all : (op : NodeOp) (list : List Kid) (f : Kid → Bool) → takes_kids op (length list) ≡ true → guard op (map f list) ≡ true → is_not_op op ≡ false → (kid : Kid) → In kid list → f kid ≡ true
guard_all (ops.Const op) [] f t h other kid i = absurd i
guard_all (ops.Const op) (first ∷ more) f t h other kid i = absurd (omega (arith, eqb-true (length (first ∷ more)) 0 t))
guard_all (ops.Unary unary.Not) list f t h other kid i = absurd (false≢true (sym other))
guard_all (ops.Unary op) list f t h other kid i = In-list_all (λ (b : Bool). b) (f kid) (map f list) h (In-map f kid list i)
guard_all (ops.Binary op) list f t h other kid i = In-list_all (λ (b : Bool). b) (f kid) (map f list) (no_arrow (is_arrow op) (list_all (λ (b : Bool). b) (map f list)) h).1 (In-map f kid list i)
guard_all (ops.Many op) list f t h other kid i = In-list_all (λ (b : Bool). b) (f kid) (map f list) h (In-map f kid list i)

guard_arrow : (op : NodeOp) (below : List Bool) → guard op below ≡ true → is_arrow_op op ≡ true → ⊥
guard_arrow (ops.Binary op) below h t = false≢true (sym (no_arrow (is_arrow op) (list_all (λ (b : Bool). b) below) h).0 ∙ t)
guard_arrow op below h t = false≢true t

-- whether a node is one of these
pub is_guarded_node : List Node → ℕ → Bool
is_guarded_node nodes x = slice_index_or (guards nodes) x true

pub guarded_is : (nodes : List Node) (x : ℕ) → slice_index_or (guards nodes) x true ≡ true → is_guarded_node nodes x ≡ true
unfolding is_guarded_node
guarded_is nodes x h = h

guard_at : (program : Ground) (x : ℕ) → IsGround program → x < length program.nodes → is_guarded_node program.nodes x ≡ guard (node_of program.nodes x).op (map (kid_value (λ atom. true) true 0 (guards program.nodes)) (node_of program.nodes x).kids)
unfolding is_guarded_node
guard_at program x ground within =
    value-at (λ atom. true) true guard (length program.atoms) (length program.nodes) program.nodes x (node_of program.nodes x) ground.nodes within (get_same program.nodes x _ (node_of program.nodes x) within)

pub guarded_free : (program : Ground) (n : ℕ) (H T : Test) → IsGround program → Free program n H T (is_guarded_node program.nodes)
unfolding is_guarded_node
guarded_free program n H T ground = record {
  below = λ x y within q other found.
      let node = node_of program.nodes x in
      let at = at_node program x ground within in
      let f : Kid → Bool = kid_value (λ atom. true) true 0 (guards program.nodes) in
      ap (λ (number : ℕ). slice_index_or (guards program.nodes) number true) (sym (sub-zero y)) ∙ guard_all node.op node.kids f at.counted (sym (guard_at program x ground within) ∙ q) other (kids.Node y) found;
  arrows = λ x within q t. absurd (guard_arrow (node_of program.nodes x).op (map (kid_value (λ atom. true) true 0 (guards program.nodes)) (node_of program.nodes x).kids) (sym (guard_at program x ground within) ∙ q) t);
}

-- where H is T every node is as good
pub all_free : (program : Ground) (n : ℕ) (T : Test) → Free program n T T (λ x. true)
all_free program n T = record { below = λ x y within q other found. refl; arrows = λ x within q t f k l. refl }

literal_free : (nodes : List Node) (positive : Bool) (item : BodyItem) → cond positive (item_is_guarded nodes item) true ≡ true → (not positive || item_free (is_guarded_node nodes) item) ≡ true
unfolding is_guarded_node
literal_free nodes true (items.Atom atom) h = refl
literal_free nodes true (items.Before atom) h = refl
literal_free nodes true (items.Node node) h = h
literal_free nodes false item h = refl

body_free : (nodes : List Node) (body : List BodyLit) → list_all (literal_is_guarded nodes) body ≡ true → list_all (λ (literal : BodyLit). not literal.positive || item_free (is_guarded_node nodes) literal.item) body ≡ true
body_free nodes [] h = refl
body_free nodes (literal ∷ more) h =
    let both = and_parts (literal_is_guarded nodes literal) (list_all (literal_is_guarded nodes) more) h in
    and_from (not literal.positive || item_free (is_guarded_node nodes) literal.item) (list_all (λ (other : BodyLit). not other.positive || item_free (is_guarded_node nodes) other.item) more) (literal_free nodes literal.positive literal.item both.0) (body_free nodes more both.1)

abbrev pub is_none : GroundHead → Bool
is_none heads.None = true
is_none head = false

pub head_free : (nodes : List Node) (head : GroundHead) (body : List BodyLit) → is_none head ≡ false → body_is_guarded nodes head body ≡ true → list_all (λ (literal : BodyLit). not literal.positive || item_free (is_guarded_node nodes) literal.item) body ≡ true
head_free nodes (heads.Normal a after) body t h = body_free nodes body h
head_free nodes (heads.Choice a after) body t h = body_free nodes body h
head_free nodes heads.None body t h = absurd (false≢true (sym t))

item_any : (item : BodyItem) → item_free (λ x. true) item ≡ true
item_any (items.Atom atom) = refl
item_any (items.Before atom) = refl
item_any (items.Node node) = refl

either_way : (positive : Bool) (item : BodyItem) → (not positive || item_free (λ x. true) item) ≡ true
either_way true item = item_any item
either_way false item = refl

-- and any body has such nodes alone, where every node is one
pub every_free : (body : List BodyLit) → list_all (λ (literal : BodyLit). not literal.positive || item_free (λ x. true) literal.item) body ≡ true
every_free [] = refl
every_free (literal ∷ more) =
    and_from (not literal.positive || item_free (λ x. true) literal.item) (list_all (λ (other : BodyLit). not other.positive || item_free (λ x. true) other.item) more) (either_way literal.positive literal.item) (every_free more)
