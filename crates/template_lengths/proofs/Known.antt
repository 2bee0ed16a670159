-- The modules of a program speak of their heads, ends and open variables alone.
use Rattle.std.proofs.Common.{◌≡◌, ℕ, ◌+◌, ◌-◌, ◌*◌, ◌<◌, ◌≤◌, true, false, List, ◌++◌, length, refl, sym, ap, subst, ◌∙◌, ◌⊎◌, inl, inr, ⊎_elim, arith}
use Rattle.std.specs.Prelude.{nat_lt}
use Rattle.std.specs.List.{flat_map}
use Rattle.std.proofs.lemmas.Bool.{ltb-true, ltb-false, cases_Bool}
use Rattle.tel_base.specs.declared.literals.Lit.{Lit}
use Rattle.tel_base.proofs.Members.{In, In-append_left, In-append_right, In-flat_map}
use Rattle.tel_rule.specs.Ground.{Ground, IsGround}
use Rattle.normal_program.specs.declared.shapes.NodeRule.{NodeRule}
use Rattle.normal_program.specs.declared.modules.BodyDef.{BodyDef}
use Rattle.normal_program.specs.Shapes.{shape_bodies}
use Rattle.atom_space.specs.Numbers.{width}
use Rattle.horizon_external.specs.Occurring.{shape_vars, body_vars, rule_vars, node_vars, pair_vars, module_vars}
use Rattle.formula_unfold.specs.Nodes.{counts_of, shape_at}
use Rattle.step_module.specs.Modules.{stated, module_of}
use Rattle.search_laws.specs.Founded.{IsKnown, AreKnown}
use Rattle.stable_models.specs.Values.{is_plain}
use Rattle.stable_models.proofs.PlainShapes.{IsUpTo, shape_up_to, body_var}
use Rattle.stable_models.proofs.PlainModules.{up_to_body, up_to_pair, is_open, plain_open}
use Rattle.stable_models.proofs.SettledModules.{node_of_state}
use Rattle.template_lengths.proofs.States.{IsAtState, of_up_to, place_at, plain_state, head_or_end, open_next}

abbrev Known : Ground → ℕ → ℕ → Type 0
Known program n v = IsKnown (module_of program) n v

-- of a state below n
known_at : (program : Ground) (n k v : ℕ) → k < n → IsAtState program k v → Known program n v
known_at program n k v l at = ⊎_elim (λ h. inl (k, l, h)) (λ e. inr (inl (k, l, e))) (head_or_end program k v at)

known_up_to : (program : Ground) (n t v : ℕ) → t < n → IsUpTo program t v → Known program n v
known_up_to program n t v l up =
    let w = of_up_to program t v up in
    let m = w.1 in
    known_at program n w.0 v (omega (arith, l, m)) w.2

-- a variable of the state behind the last one, which the last module says
pub open_last : (program : Ground) (t n place v : ℕ) → t + 1 ≡ n → place < width (counts_of program) → (t + 1) * width (counts_of program) + place ≡ v → In v (module_vars (stated program t)) → In v (module_of program (n - 1)).open_vars
open_last program t n place v last l e i =
    let same : t ≡ n - 1 = omega (arith, last) in
    subst (λ (u : ℕ). In u (module_of program (n - 1)).open_vars) e
    (subst (λ (k : ℕ). In ((t + 1) * width (counts_of program) + place) (module_of program k).open_vars) same
    (open_next program t place l (subst (λ (u : ℕ). In u (module_vars (stated program t))) (sym e) i)))

-- of a state up to the one behind t, where the module of t says it
pub next_cases : (program : Ground) (n t k v : ℕ) → t < n → k ≤ t + 1 → IsAtState program k v → In v (module_vars (stated program t)) → (k < n) ⊎ In v (module_of program (n - 1)).open_vars
next_cases program n t k v l m at i =
    ⊎_elim
    (λ (b : nat_lt k n ≡ true). inl (ltb-true k n b))
    (λ (b : nat_lt k n ≡ false).
    let u = ltb-false k n b in
    let last : t + 1 ≡ n = omega (arith, l, m, u) in
    let same : k ≡ t + 1 = omega (arith, l, m, u) in
    let p = place_at program k v at in
    inr (open_last program t n p.0 v last p.1 (ap (λ (s : ℕ). s * width (counts_of program) + p.0) (sym same) ∙ p.2) i))
    (cases_Bool (nat_lt k n))

-- what the shape of a node says
pub in_shape : (program : Ground) (t v : ℕ) (node : NodeRule) → In node (module_of program t).nodes → In v (shape_vars node.shape) → In v (module_vars (stated program t))
in_shape program t v node m i =
    let step = stated program t in
    let last = flat_map pair_vars step.pairs ++ step.atoms in
    let nodes = flat_map node_vars step.nodes in
    In-append_right v (flat_map body_vars step.bodies) (flat_map rule_vars step.rules ++ (nodes ++ last))
    (In-append_right v (flat_map rule_vars step.rules) (nodes ++ last) (In-append_left v nodes last (In-flat_map node_vars node v step.nodes m (inr i))))

known_shape : (program : Ground) (n t : ℕ) (node : NodeRule) (lits : List Lit) (lit : Lit) → IsGround program → t < n → In node (module_of program t).nodes → In lits (shape_bodies node.shape) → In lit lits → Known program n lit.var
known_shape program n t node lits lit ground l m i j =
    let x = node_of_state program t node m in
    let said = body_var node.shape lits lit i j in
    let up = shape_up_to program x.0 t lit.var ground x.1 (subst (λ (k : NodeRule). In lit.var (shape_vars k.shape)) (sym x.2) said) in
    let w = of_up_to program (t + 1) lit.var up in
    ⊎_elim (λ k. known_at program n w.0 lit.var k w.2) (λ o. inr (inr o)) (next_cases program n t w.0 lit.var l w.1 w.2 (in_shape program t lit.var node m said))

known_open : (program : Ground) (n t v : ℕ) → IsGround program → t < n → In v (module_of program t).open_vars → Known program n v
known_open program n t v ground l i =
    let o = is_open program t v i in
    let at = subst (λ (u : ℕ). IsAtState program (t + 1) u) o.is (plain_state program (t + 1) o.place o.within (subst (λ (u : ℕ). is_plain program u ≡ true) (sym o.is) (plain_open program t v ground i))) in
    ⊎_elim (λ k. known_at program n (t + 1) v k at) (λ m. inr (inr m)) (next_cases program n t (t + 1) v l (omega arith) at o.inside)

pub templates_known : (program : Ground) (n : ℕ) → IsGround program → AreKnown (module_of program) n
templates_known program n ground = record {
  bodies = λ t l def lit m i. known_up_to program n t lit.var l (up_to_body program t def lit ground m i);
  shapes = λ t l node lits lit m i j. known_shape program n t node lits lit ground l m i j;
  pairs = λ t l pair i. let up = up_to_pair program t pair ground i in (known_up_to program n t pair.0 l up.0, known_up_to program n t pair.1 l up.1);
  opens = λ t l v i. known_open program n t v ground l i;
}
