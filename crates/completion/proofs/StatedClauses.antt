-- The clauses of a module by their parts.
use Rattle.std.proofs.Common.{◌≡◌, ℕ, Bool, true, false, cond, List, [], ◌∷◌, ◌++◌, map, refl, sym, ap, subst, inl, ⊎_elim}
use Rattle.std.specs.Prelude.{Option, Some, None}
use Rattle.std.specs.List.{flat_map}
use Rattle.std.proofs.lemmas.Bool.{cond-true, eqb-true, eq-eqb}
use Rattle.std.specs.Prelude.{◌==◌}
use Rattle.tel_base.specs.declared.literals.Lit.{Lit}
use Rattle.tel_base.specs.Members.{In}
use Rattle.tel_base.proofs.Members.{In-append_left, In-append_right, In-append_cases, In-map, In-map_from, In-flat_map, In-flat_map_from}
use Rattle.normal_program.specs.declared.rules.NRule.{NRule}
use Rattle.normal_program.specs.declared.shapes.NodeRule.{NodeRule}
use Rattle.normal_program.specs.declared.modules.BodyDef.{BodyDef}
use Rattle.normal_program.specs.declared.modules.StepModule.{StepModule}
use Rattle.normal_program.specs.ModuleClauses.{node_clauses, body_clauses, later_rules, later_clauses, body_with, bodies_with, support_clause, pair_clause, open_clause, close_clauses, stated_clauses}

abbrev opens : StepModule → List (List Lit)
opens step = map (open_clause step.end) step.open_vars

abbrev pairs : StepModule → List (List Lit)
pairs step = map pair_clause step.pairs ++ opens step

abbrev nodes : StepModule → List (List Lit)
nodes step = flat_map node_clauses step.nodes ++ pairs step

abbrev supports : StepModule → List (List Lit)
supports step = map (support_clause step.rules) step.atoms ++ nodes step

abbrev laters : StepModule → List (List Lit)
laters step = flat_map later_clauses (later_rules step) ++ supports step

abbrev bodies : StepModule → List (List Lit)
bodies step = flat_map (body_clauses step.end) step.bodies ++ laters step

pub of_close : (step : StepModule) (clause : List Lit) → In clause (close_clauses step.close) → In clause (stated_clauses step)
of_close step clause i = In-append_left clause (close_clauses step.close) (bodies step) i

from_bodies : (step : StepModule) (clause : List Lit) → In clause (bodies step) → In clause (stated_clauses step)
from_bodies step clause i = In-append_right clause (close_clauses step.close) (bodies step) i

from_laters : (step : StepModule) (clause : List Lit) → In clause (laters step) → In clause (stated_clauses step)
from_laters step clause i = from_bodies step clause (In-append_right clause (flat_map (body_clauses step.end) step.bodies) (laters step) i)

from_supports : (step : StepModule) (clause : List Lit) → In clause (supports step) → In clause (stated_clauses step)
from_supports step clause i = from_laters step clause (In-append_right clause (flat_map later_clauses (later_rules step)) (supports step) i)

from_nodes : (step : StepModule) (clause : List Lit) → In clause (nodes step) → In clause (stated_clauses step)
from_nodes step clause i = from_supports step clause (In-append_right clause (map (support_clause step.rules) step.atoms) (nodes step) i)

from_pairs : (step : StepModule) (clause : List Lit) → In clause (pairs step) → In clause (stated_clauses step)
from_pairs step clause i = from_nodes step clause (In-append_right clause (flat_map node_clauses step.nodes) (pairs step) i)

pub of_body : (step : StepModule) (def : BodyDef) (clause : List Lit) → In def step.bodies → In clause (body_clauses step.end def) → In clause (stated_clauses step)
of_body step def clause m i = from_bodies step clause (In-append_left clause (flat_map (body_clauses step.end) step.bodies) (laters step) (In-flat_map (body_clauses step.end) def clause step.bodies m i))

pub of_later : (step : StepModule) (rule : NRule) (clause : List Lit) → In rule (later_rules step) → In clause (later_clauses rule) → In clause (stated_clauses step)
of_later step rule clause m i = from_laters step clause (In-append_left clause (flat_map later_clauses (later_rules step)) (supports step) (In-flat_map later_clauses rule clause (later_rules step) m i))

pub of_support : (step : StepModule) (atom : ℕ) → In atom step.atoms → In (support_clause step.rules atom) (stated_clauses step)
of_support step atom m = from_supports step (support_clause step.rules atom) (In-append_left (support_clause step.rules atom) (map (support_clause step.rules) step.atoms) (nodes step) (In-map (support_clause step.rules) atom step.atoms m))

pub of_node : (step : StepModule) (node : NodeRule) (clause : List Lit) → In node step.nodes → In clause (node_clauses node) → In clause (stated_clauses step)
of_node step node clause m i = from_nodes step clause (In-append_left clause (flat_map node_clauses step.nodes) (pairs step) (In-flat_map node_clauses node clause step.nodes m i))

pub of_pair : (step : StepModule) (pair : ℕ × ℕ) → In pair step.pairs → In (pair_clause pair) (stated_clauses step)
of_pair step pair m = from_pairs step (pair_clause pair) (In-append_left (pair_clause pair) (map pair_clause step.pairs) (opens step) (In-map pair_clause pair step.pairs m))

pub of_open : (step : StepModule) (var : ℕ) → In var step.open_vars → In (open_clause step.end var) (stated_clauses step)
of_open step var m = from_pairs step (open_clause step.end var) (In-append_right (open_clause step.end var) (map pair_clause step.pairs) (opens step) (In-map (open_clause step.end) var step.open_vars m))

-- what holds of the clauses of each part holds of all
pub stated_all : (step : StepModule) (P : List Lit → Type 0) → ((clause : List Lit) → In clause (close_clauses step.close) → P clause) → ((def : BodyDef) → In def step.bodies → (clause : List Lit) → In clause (body_clauses step.end def) → P clause) → ((rule : NRule) → In rule (later_rules step) → (clause : List Lit) → In clause (later_clauses rule) → P clause) → ((atom : ℕ) → In atom step.atoms → P (support_clause step.rules atom)) → ((node : NodeRule) → In node step.nodes → (clause : List Lit) → In clause (node_clauses node) → P clause) → ((pair : ℕ × ℕ) → In pair step.pairs → P (pair_clause pair)) → ((var : ℕ) → In var step.open_vars → P (open_clause step.end var)) → (clause : List Lit) → In clause (stated_clauses step) → P clause
stated_all step P close body later support node pair open_ clause i =
    ⊎_elim (λ a. close clause a) (λ r1.
    ⊎_elim (λ a. let w = In-flat_map_from (body_clauses step.end) clause step.bodies a in body w.0 w.1 clause w.2) (λ r2.
    ⊎_elim (λ a. let w = In-flat_map_from later_clauses clause (later_rules step) a in later w.0 w.1 clause w.2) (λ r3.
    ⊎_elim (λ a. let w = In-map_from (support_clause step.rules) clause step.atoms a in subst P w.2 (support w.0 w.1)) (λ r4.
    ⊎_elim (λ a. let w = In-flat_map_from node_clauses clause step.nodes a in node w.0 w.1 clause w.2) (λ r5.
    ⊎_elim (λ a. let w = In-map_from pair_clause clause step.pairs a in subst P w.2 (pair w.0 w.1)) (λ a. let w = In-map_from (open_clause step.end) clause step.open_vars a in subst P w.2 (open_ w.0 w.1))
    (In-append_cases clause (map pair_clause step.pairs) (opens step) r5))
    (In-append_cases clause (flat_map node_clauses step.nodes) (pairs step) r4))
    (In-append_cases clause (map (support_clause step.rules) step.atoms) (nodes step) r3))
    (In-append_cases clause (flat_map later_clauses (later_rules step)) (supports step) r2))
    (In-append_cases clause (flat_map (body_clauses step.end) step.bodies) (laters step) r1))
    (In-append_cases clause (close_clauses step.close) (bodies step) i)

-- ---- the bodies of a head

in_with : (var atom : ℕ) (head body : Option ℕ) → head ≡ Some atom → body ≡ Some var → In var (body_with atom (Some atom) (Some var)) → In var (body_with atom head body)
in_with var atom head body h b i = subst (λ vs. In var vs) (λ k. body_with atom (sym h k) (sym b k)) i

same_head : (var atom : ℕ) → In var (body_with atom (Some atom) (Some var))
same_head var atom = subst (λ vs. In var vs) (sym (cond-true (atom == atom) (var ∷ []) [] (eq-eqb atom atom refl))) (inl refl)

pub in_bodies : (rules : List NRule) (rule : NRule) (atom var : ℕ) → In rule rules → rule.head ≡ Some atom → rule.body ≡ Some var → In var (bodies_with rules atom)
in_bodies rules rule atom var m h b = In-flat_map (λ (r : NRule). body_with atom r.head r.body) rule var rules m (in_with var atom rule.head rule.body h b (same_head var atom))

when_so : (c : Bool) (body var : ℕ) → In var (cond c (body ∷ []) []) → (c ≡ true) × (body ≡ var)
when_so true body var i = ⊎_elim (λ e. (refl, e)) (λ m. absurd m) i
when_so false body var i = absurd i

with_is : (atom var : ℕ) (head body : Option ℕ) → In var (body_with atom head body) → (head ≡ Some atom) × (body ≡ Some var)
with_is atom var None body i = absurd i
with_is atom var (Some h) None i = absurd i
with_is atom var (Some h) (Some b) i = let w = when_so (h == atom) b var i in (ap Some (eqb-true h atom w.0), ap Some w.1)

pub from_bodies_with : (rules : List NRule) (atom var : ℕ) → In var (bodies_with rules atom) → (rule : NRule) × In rule rules × (rule.head ≡ Some atom) × (rule.body ≡ Some var)
from_bodies_with rules atom var i =
    let w = In-flat_map_from (λ (r : NRule). body_with atom r.head r.body) var rules i in
    let e = with_is atom var w.0.head w.0.body w.2 in
    (w.0, w.1, e.0, e.1)
