-- The rules of a settled module: those of its bodies, and those with bodies of the state before.
use Rattle.std.proofs.Common.{◌≡◌, ℕ, suc, ◌-◌, ◌<◌, Bool, true, false, cond, ◌&&◌, List, [], ◌∷◌, ◌++◌, length, drop, refl, sym, ap, subst, ◌∙◌, ◌⊎◌, inl, inr, ⊎_elim, arith}
use Rattle.std.specs.Prelude.{Option, Some, None}
use Rattle.std.specs.List.{filter, flat_map}
use Rattle.std.proofs.lemmas.Bool.{false≢true}
use Rattle.tel_base.specs.declared.literals.Lit.{Lit}
use Rattle.tel_base.specs.Literals.{lit_of}
use Rattle.tel_base.specs.Members.{In}
use Rattle.tel_base.proofs.Members.{In-append_cases, In-map_from, In-flat_map_from}
use Rattle.normal_program.specs.declared.rules.NRule.{NRule}
use Rattle.normal_program.specs.declared.shapes.NodeRule.{NodeRule}
use Rattle.normal_program.specs.declared.modules.BodyHead.{BodyHead}
use Rattle.normal_program.specs.declared.modules.BodyHead.TheVariants.{Normal, Choice, Nothing, NextNormal, NextChoice}
use Rattle.normal_program.specs.declared.modules.BodyDef.{BodyDef}
use Rattle.normal_program.specs.declared.modules.StepModule.{StepModule}
use Rattle.normal_program.specs.Rules.{rule_of}
use Rattle.normal_program.specs.Shapes.{shape_bodies, node_rule, rules_of_node}
use Rattle.normal_program.specs.Grounds.{all_rules}
use Rattle.normal_program.specs.StableSets.{Set, lit_holds, lits_hold, body_holds}
use Rattle.normal_program.specs.ModuleClauses.{gives_rule, later_rules}
use Rattle.completion.specs.Completions.{rules_by, own_rules, IsLater, IsSettled}
use Rattle.completion.proofs.Sets.{first_one, lits-body}

-- ---- bodies

and_last : (a b : Bool) → (a && true) ≡ a
and_last true b = refl
and_last false b = refl

-- a body with a literal more
pub more_lits : (S : Set) (lits : List Lit) (var : ℕ) → lits_hold S S (lits ++ lit_of var ∷ []) ≡ (lits_hold S S lits && S var)
more_lits S [] var = and_last (S var) true
more_lits S (lit ∷ more) var = (λ i. lit_holds S S lit && more_lits S more var i) ∙ sym (first_one (lit_holds S S lit) (lits_hold S S more) (S var))

-- ---- heads

abbrev or_zero : Option ℕ → ℕ
or_zero None = 0
or_zero (Some v) = v

abbrev has_some : Option ℕ → Bool
has_some None = false
has_some (Some v) = true

pub some_is : (v w : ℕ) → Some v ≡ Some w → v ≡ w
some_is v w e = ap or_zero e

pub not_none : (v : ℕ) → Some v ≡ None → ⊥
not_none v e = false≢true (sym (ap has_some e))

-- what a rule of a body is, where it has a head
pub record OwnHead (kind : BodyHead) (var : ℕ) (lits : List Lit) (rule : NRule) (head : ℕ) : Type 0 where
  pub body : rule.body ≡ Some var
  pub holds : (S : Set) → body_holds S S rule ≡ lits_hold S S lits
  pub normal : rule.choice ≡ false → kind ≡ Normal head

pub own_head : (ending var : ℕ) (lits : List Lit) (kind : BodyHead) (rule : NRule) (head : ℕ) → In rule (rules_by ending var lits kind) → rule.head ≡ Some head → OwnHead kind var lits rule head
own_head ending var lits (Normal a) rule head i is =
    ⊎_elim
    (λ (e : rule_of (Some a) false lits (Some var) ≡ rule). record {
      body = ap (λ (r : NRule). r.body) (sym e);
      holds = λ S. ap (λ (r : NRule). body_holds S S r) (sym e) ∙ lits-body S S lits;
      normal = λ c. ap Normal (some_is a head (ap (λ (r : NRule). r.head) e ∙ is));
    })
    (λ m. absurd m) i
own_head ending var lits (Choice a) rule head i is =
    ⊎_elim
    (λ (e : rule_of (Some a) true lits (Some var) ≡ rule). record {
      body = ap (λ (r : NRule). r.body) (sym e);
      holds = λ S. ap (λ (r : NRule). body_holds S S r) (sym e) ∙ lits-body S S lits;
      normal = λ c. absurd (false≢true (sym c ∙ ap (λ (r : NRule). r.choice) (sym e)));
    })
    (λ m. absurd m) i
own_head ending var lits Nothing rule head i is =
    ⊎_elim (λ (e : rule_of None false lits (Some var) ≡ rule). absurd (not_none head (sym is ∙ ap (λ (r : NRule). r.head) (sym e)))) (λ m. absurd m) i
own_head ending var lits NextNormal rule head i is =
    ⊎_elim (λ (e : rule_of None false (lits ++ lit_of ending ∷ []) (Some var) ≡ rule). absurd (not_none head (sym is ∙ ap (λ (r : NRule). r.head) (sym e)))) (λ m. absurd m) i
own_head ending var lits NextChoice rule head i is = absurd i

-- what a constraint of a body is
pub own_none : (ending var : ℕ) (lits : List Lit) (kind : BodyHead) (rule : NRule) → In rule (rules_by ending var lits kind) → rule.head ≡ None → ((kind ≡ Nothing) × ((S : Set) → body_holds S S rule ≡ lits_hold S S lits)) ⊎ ((kind ≡ NextNormal) × ((S : Set) → body_holds S S rule ≡ (lits_hold S S lits && S ending)))
own_none ending var lits (Normal a) rule i is =
    ⊎_elim (λ (e : rule_of (Some a) false lits (Some var) ≡ rule). absurd (not_none a (ap (λ (r : NRule). r.head) e ∙ is))) (λ m. absurd m) i
own_none ending var lits (Choice a) rule i is =
    ⊎_elim (λ (e : rule_of (Some a) true lits (Some var) ≡ rule). absurd (not_none a (ap (λ (r : NRule). r.head) e ∙ is))) (λ m. absurd m) i
own_none ending var lits Nothing rule i is =
    ⊎_elim (λ (e : rule_of None false lits (Some var) ≡ rule). inl (refl, (λ S. ap (λ (r : NRule). body_holds S S r) (sym e) ∙ lits-body S S lits))) (λ m. absurd m) i
own_none ending var lits NextNormal rule i is =
    ⊎_elim
    (λ (e : rule_of None false (lits ++ lit_of ending ∷ []) (Some var) ≡ rule). inr (refl, (λ S. ap (λ (r : NRule). body_holds S S r) (sym e) ∙ (lits-body S S (lits ++ lit_of ending ∷ []) ∙ more_lits S lits ending))))
    (λ m. absurd m) i
own_none ending var lits NextChoice rule i is = absurd i

-- ---- the rules with bodies of the state before

one_more : (ending : ℕ) (def : BodyDef) (kind : BodyHead) (rest : List NRule) (more : List BodyDef) → length rest ≡ length more → length (rules_by ending def.var def.lits kind ++ rest) ≡ length (cond (gives_rule kind) (def ∷ more) more)
one_more ending def (Normal a) rest more e = ap suc e
one_more ending def (Choice a) rest more e = ap suc e
one_more ending def Nothing rest more e = ap suc e
one_more ending def NextNormal rest more e = ap suc e
one_more ending def NextChoice rest more e = e

length_rules : (ending : ℕ) (defs : List BodyDef) → length (flat_map (own_rules ending) defs) ≡ length (filter (λ (def : BodyDef). gives_rule def.head) defs)
length_rules ending [] = refl
length_rules ending (def ∷ defs) =
    one_more ending def def.head (flat_map (own_rules ending) defs) (filter (λ (d : BodyDef). gives_rule d.head) defs) (length_rules ending defs)

drop_front : {A : Type 0} (xs ys : List A) → drop (length xs) (xs ++ ys) ≡ ys
drop_front [] ys = refl
drop_front (x ∷ xs) ys = drop_front xs ys

pub later_are : (step : StepModule) (later : List NRule) → step.rules ≡ flat_map (own_rules step.end) step.bodies ++ later → later_rules step ≡ later
later_are step later e =
    let own = flat_map (own_rules step.end) step.bodies in
    (λ i. drop (sym (length_rules step.end step.bodies) i) (e i)) ∙ drop_front own later

-- ---- the rules of modules

-- a rule of a module is one of its bodies' or of a node
pub rule_kind : (step : StepModule) (rule : NRule) → In rule (all_rules step) → In rule step.rules ⊎ ((node : NodeRule) × In node step.nodes × ((lits : List Lit) × In lits (shape_bodies node.shape) × (node_rule node.var lits ≡ rule)))
rule_kind step rule i =
    ⊎_elim (λ l. inl l) (λ r. let w = In-flat_map_from rules_of_node rule step.nodes r in inr (w.0, w.1, In-map_from (node_rule w.0.var) rule (shape_bodies w.0.shape) w.2)) (In-append_cases rule step.rules (flat_map rules_of_node step.nodes) i)

pub node_head : (var head : ℕ) (lits : List Lit) (rule : NRule) → node_rule var lits ≡ rule → rule.head ≡ Some head → var ≡ head
node_head var head lits rule e is = some_is var head (ap (λ (r : NRule). r.head) e ∙ is)

-- the body that a rule of a module with a head has
pub record Sourced (steps : ℕ → StepModule) (n t : ℕ) (rule : NRule) (head : ℕ) : Type 0 where
  pub state : ℕ
  pub within : state < n
  pub def : BodyDef
  pub inside : In def (steps state).bodies
  pub body : rule.body ≡ Some def.var
  pub holds : (S : Set) → body_holds S S rule ≡ lits_hold S S def.lits
  pub normal : rule.choice ≡ false → ((state ≡ t) × (def.head ≡ Normal head)) ⊎ In rule (later_rules (steps t))

later_source : (steps : ℕ → StepModule) (n t : ℕ) (rule : NRule) (head : ℕ) → t < n → IsLater steps t rule → In rule (later_rules (steps t)) → Sourced steps n t rule head
later_source steps n t rule head l k i =
    let first = k.positive in
    record {
      state = t - 1;
      within = omega (arith, l, first);
      def = k.def;
      inside = k.before;
      body = ap (λ (r : NRule). r.body) k.is;
      holds = λ S. ap (λ (r : NRule). body_holds S S r) k.is ∙ lits-body S S k.def.lits;
      normal = λ c. inr i;
    }

pub source : (steps : ℕ → StepModule) (n t : ℕ) (rule : NRule) (head : ℕ) → t < n → IsSettled steps t → In rule (steps t).rules → rule.head ≡ Some head → Sourced steps n t rule head
source steps n t rule head l s i is =
    let own = flat_map (own_rules (steps t).end) (steps t).bodies in
    ⊎_elim
    (λ m.
    let w = In-flat_map_from (own_rules (steps t).end) rule (steps t).bodies m in
    let o = own_head (steps t).end w.0.var w.0.lits w.0.head rule head w.2 is in
    record { state = t; within = l; def = w.0; inside = w.1; body = o.body; holds = o.holds; normal = λ c. inl (refl, o.normal c) })
    (λ m. later_source steps n t rule head l (s.each_later rule m) (subst (λ rs. In rule rs) (sym (later_are (steps t) s.later s.rules)) m))
    (In-append_cases rule own s.later (subst (λ rs. In rule rs) s.rules i))

-- a constraint of a module is one of its bodies'
pub constraint : (steps : ℕ → StepModule) (t : ℕ) (rule : NRule) → IsSettled steps t → In rule (steps t).rules → rule.head ≡ None → (def : BodyDef) × In def (steps t).bodies × In rule (own_rules (steps t).end def)
constraint steps t rule s i is =
    let own = flat_map (own_rules (steps t).end) (steps t).bodies in
    ⊎_elim
    (λ m. In-flat_map_from (own_rules (steps t).end) rule (steps t).bodies m)
    (λ m. let k = s.each_later rule m in absurd (not_none k.head (sym (ap (λ (r : NRule). r.head) k.is) ∙ is)))
    (In-append_cases rule own s.later (subst (λ rs. In rule rs) s.rules i))
