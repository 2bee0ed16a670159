-- The modules of a program are settled.
use Rattle.std.proofs.Common.{◌≡◌, ℕ, zero, suc, ◌+◌, ◌-◌, ◌*◌, ◌/◌, ◌%◌, ◌<◌, Bool, true, false, cond, List, [], ◌∷◌, ◌++◌, length, refl, sym, ap, subst, ◌∙◌, inl, ⊎_elim, arith}
use Rattle.std.specs.Prelude.{Some, None, nat_lt}
use Rattle.std.specs.List.{flat_map, list_all, range_with_len}
use Rattle.std.proofs.lemmas.Bool.{and_parts, cond-true, lt-ltb, ltb-true}
use Rattle.std.proofs.lemmas.Nat.{div-mul-add, mod-mul-add}
use Rattle.std.proofs.lemmas.List.Concat.{flat_map-append}
use Rattle.tel_base.specs.declared.literals.Lit.{Lit}
use Rattle.tel_base.proofs.Members.{In, In-list_all, In-append_left, In-append_right, In-append_cases, In-map, In-map_from}
use Rattle.tel_rule.specs.declared.ground.Instance.{Instance}
use Rattle.tel_rule.specs.declared.ground.GroundHead.{GroundHead}
use Rattle.tel_rule.specs.declared.ground.GroundHead.TheVariants as heads
use Rattle.tel_rule.specs.Ground.{Ground, IsGround, head_in_range, literal_in_range, instance_in_range}
use Rattle.normal_program.specs.declared.rules.NRule.{NRule}
use Rattle.normal_program.specs.declared.shapes.NodeRule.{NodeRule}
use Rattle.normal_program.specs.declared.modules.BodyDef.{BodyDef}
use Rattle.normal_program.specs.Rules.{rule_of}
use Rattle.normal_program.specs.StableSets.{Set}
use Rattle.normal_program.specs.ModuleClauses.{no_lit}
use Rattle.atom_space.specs.Numbers.{Counts, width, visible, body_at, end_at}
use Rattle.formula_unfold.specs.Nodes.{counts_of, node_at}
use Rattle.step_module.specs.Bodies.{stands, body_lits}
use Rattle.step_module.specs.Rules.{head_use, instance_rule, head_rules, next_rules, instance_bodies, instance_rules, instance_next, numbered}
use Rattle.step_module.specs.Modules.{module_of}
use Rattle.completion.specs.Completions.{own_rules, close_at, IsSettled}
use Rattle.stable_models.specs.Laws.{TemplatesAreSettled}
use Rattle.completion.proofs.RuleLists.{some_is, not_none}
use Rattle.stable_models.proofs.RuleCases.{Derives, NowIs, NextIs, now_is, next_is, numbered_cases}
use Rattle.completion.proofs.Ranges.{range_cases, range_from}

-- ---- the rules of bodies

own_head : (counts : Counts) (t var : ℕ) (lits : List Lit) (head : GroundHead) → own_rules (end_at counts t) (record { var = var; lits = lits; head = head_use counts t head }) ++ [] ≡ head_rules counts t head lits var
own_head counts t var lits (heads.Normal atom true) = refl
own_head counts t var lits (heads.Normal atom false) = refl
own_head counts t var lits (heads.Choice atom true) = refl
own_head counts t var lits (heads.Choice atom false) = refl
own_head counts t var lits heads.None = refl

abbrev pub body_of : Counts → ℕ → ℕ → Instance → BodyDef
body_of counts t number instance = record { var = body_at counts number t; lits = body_lits counts t instance; head = head_use counts t instance.head }

own_one : (counts : Counts) (t number : ℕ) (instance : Instance) → flat_map (own_rules (end_at counts t)) (instance_bodies counts t number instance) ≡ instance_rules counts t number instance
own_one counts t number instance =
    let lits = body_lits counts t instance in
    let var = body_at counts number t in
    elim (stands t instance) as (λ (b : Bool). flat_map (own_rules (end_at counts t)) (cond b (body_of counts t number instance ∷ []) []) ≡ cond b (head_rules counts t instance.head lits var) []) [
      | true ↦ own_head counts t var lits instance.head
      | false ↦ refl
    ]

own_are : (counts : Counts) (t first : ℕ) (instances : List Instance) → flat_map (own_rules (end_at counts t)) (numbered (instance_bodies counts t) first instances) ≡ numbered (instance_rules counts t) first instances
own_are counts t first [] = refl
own_are counts t first (instance ∷ more) =
    flat_map-append (own_rules (end_at counts t)) (instance_bodies counts t first instance) (numbered (instance_bodies counts t) (first + 1) more)
    ∙ (λ i. own_one counts t first instance i ++ own_are counts t (first + 1) more i)

-- ---- the rules with a body of the state before

-- a body of the state u, whose rule this is
abbrev Later : Counts → ℕ → List BodyDef → NRule → Type 0
Later counts u defs rule = (def : BodyDef) × In def defs × (head : ℕ) × (rule ≡ rule_of (Some head) rule.choice def.lits (Some def.var))

later_head : (counts : Counts) (u var : ℕ) (lits : List Lit) (head : GroundHead) (rule : NRule) → In rule (next_rules counts u head lits var) → (atom : ℕ) × (rule ≡ rule_of (Some atom) rule.choice lits (Some var))
later_head counts u var lits (heads.Normal atom true) rule i =
    ⊎_elim (λ (e : instance_rule (Some (visible counts atom (u + 1))) false lits var ≡ rule). (visible counts atom (u + 1), subst (λ (r : NRule). r ≡ rule_of (Some (visible counts atom (u + 1))) r.choice lits (Some var)) e refl)) (λ m. absurd m) i
later_head counts u var lits (heads.Normal atom false) rule i = absurd i
later_head counts u var lits (heads.Choice atom true) rule i =
    ⊎_elim (λ (e : instance_rule (Some (visible counts atom (u + 1))) true lits var ≡ rule). (visible counts atom (u + 1), subst (λ (r : NRule). r ≡ rule_of (Some (visible counts atom (u + 1))) r.choice lits (Some var)) e refl)) (λ m. absurd m) i
later_head counts u var lits (heads.Choice atom false) rule i = absurd i
later_head counts u var lits heads.None rule i = absurd i

later_one : (counts : Counts) (u number : ℕ) (instance : Instance) (rule : NRule) → In rule (instance_next counts u number instance) → Later counts u (instance_bodies counts u number instance) rule
later_one counts u number instance rule =
    let lits = body_lits counts u instance in
    let var = body_at counts number u in
    elim (stands u instance) as (λ (b : Bool). In rule (cond b (next_rules counts u instance.head lits var) []) → Later counts u (cond b (body_of counts u number instance ∷ []) []) rule) [
      | true ↦ λ i. let w = later_head counts u var lits instance.head rule i in (body_of counts u number instance, inl refl, w.0, w.1)
      | false ↦ λ i. absurd i
    ]

later_are : (counts : Counts) (u first : ℕ) (instances : List Instance) (rule : NRule) → In rule (numbered (instance_next counts u) first instances) → Later counts u (numbered (instance_bodies counts u) first instances) rule
later_are counts u first [] rule i = absurd i
later_are counts u first (instance ∷ more) rule i =
    let here = instance_bodies counts u first instance in
    let rest = numbered (instance_bodies counts u) (first + 1) more in
    ⊎_elim
    (λ a. let w = later_one counts u first instance rule a in (w.0, In-append_left w.0 here rest w.1, w.2, w.3))
    (λ b. let w = later_are counts u (first + 1) more rule b in (w.0, In-append_right w.0 here rest w.1, w.2, w.3))
    (In-append_cases rule (instance_next counts u first instance) (numbered (instance_next counts u) (first + 1) more) i)

-- what stands behind a test
pub behind : {A : Type 0} (b : Bool) (xs : List A) (x : A) → In x (cond b xs []) → (b ≡ true) × In x xs
behind true xs x i = (refl, i)
behind false xs x i = absurd i

-- ---- heads

-- the variable is of an atom of the state
abbrev pub IsAtomAt : Ground → ℕ → ℕ → Type 0
IsAtomAt program t var = (atom : ℕ) × (atom < length program.atoms) × (visible (counts_of program) atom t ≡ var)

derived : (program : Ground) (t atom var : ℕ) (X : Set) (rule : NRule) (choice : Bool) (lits : List Lit) → nat_lt atom (length program.atoms) ≡ true → Derives X X rule (Some (visible (counts_of program) atom t)) choice lits → rule.head ≡ Some var → IsAtomAt program t var
derived program t atom var X rule choice lits right d is = (atom, ltb-true atom (length program.atoms) right, some_is (visible (counts_of program) atom t) var (sym d.head_is ∙ is))

now_head : (program : Ground) (t var : ℕ) (X : Set) (rule : NRule) (lits : List Lit) (head : GroundHead) → head_in_range (length program.atoms) head ≡ true → NowIs (counts_of program) t X X rule lits head → rule.head ≡ Some var → IsAtomAt program t var
now_head program t var X rule lits (heads.Normal atom true) right d is = absurd (not_none var (sym is ∙ d.head_is))
now_head program t var X rule lits (heads.Normal atom false) right d is = derived program t atom var X rule false lits right d is
now_head program t var X rule lits (heads.Choice atom true) right d is = absurd d
now_head program t var X rule lits (heads.Choice atom false) right d is = derived program t atom var X rule true lits right d is
now_head program t var X rule lits heads.None right d is = absurd (not_none var (sym is ∙ d.head_is))

next_head : (program : Ground) (u var : ℕ) (X : Set) (rule : NRule) (lits : List Lit) (head : GroundHead) → head_in_range (length program.atoms) head ≡ true → NextIs (counts_of program) u X X rule lits head → rule.head ≡ Some var → IsAtomAt program (u + 1) var
next_head program u var X rule lits (heads.Normal atom true) right d is = derived program (u + 1) atom var X rule false lits right d is
next_head program u var X rule lits (heads.Normal atom false) right d is = absurd d
next_head program u var X rule lits (heads.Choice atom true) right d is = derived program (u + 1) atom var X rule true lits right d is
next_head program u var X rule lits (heads.Choice atom false) right d is = absurd d
next_head program u var X rule lits heads.None right d is = absurd d

pub right_head : (program : Ground) (instance : Instance) → IsGround program → In instance program.instances → head_in_range (length program.atoms) instance.head ≡ true
right_head program instance ground member =
    let right = In-list_all (instance_in_range (length program.atoms) (length program.nodes)) instance program.instances ground.in_range member in
    (and_parts (head_in_range (length program.atoms) instance.head) (list_all (literal_in_range (length program.atoms) (length program.nodes)) instance.body) right).0

head_at : (program : Ground) (t var : ℕ) (rule : NRule) → IsGround program → In rule (module_of program t).rules → rule.head ≡ Some var → IsAtomAt program t var
head_at program t var rule ground i is =
    let counts = counts_of program in
    let X : Set = λ v. false in
    let now = numbered (instance_rules counts t) 0 program.instances in
    let next = numbered (instance_next counts (t - 1)) 0 program.instances in
    ⊎_elim
    (λ a.
    let w = numbered_cases (instance_rules counts t) 0 program.instances rule a in
    now_head program t var X rule (body_lits counts t w.1) w.1.head (right_head program w.1 ground w.2) (now_is counts t w.0 X X rule w.1 w.3).1 is)
    (λ b.
    let later = behind (nat_lt 0 t) next rule b in
    let w = numbered_cases (instance_next counts (t - 1)) 0 program.instances rule later.1 in
    let above = ltb-true 0 t later.0 in
    subst (λ (k : ℕ). IsAtomAt program k var) (omega (arith, above)) (next_head program (t - 1) var X rule (body_lits counts (t - 1) w.1) w.1.head (right_head program w.1 ground w.2) (next_is counts (t - 1) w.0 X X rule w.1 w.3).1 is))
    (In-append_cases rule now (cond (nat_lt 0 t) next []) i)

-- ---- the variables of states

pub atom_at : (program : Ground) (t var : ℕ) → In var (module_of program t).atoms → IsAtomAt program t var
atom_at program t var i =
    let w = In-map_from (λ (atom : ℕ). visible (counts_of program) atom t) var (range_with_len 0 (length program.atoms)) i in
    (w.0, omega (arith, (range_cases (length program.atoms) 0 w.0 w.1).1), w.2)

pub at_atom : (program : Ground) (t atom : ℕ) → atom < length program.atoms → In (visible (counts_of program) atom t) (module_of program t).atoms
at_atom program t atom l =
    In-map (λ (a : ℕ). visible (counts_of program) a t) atom (range_with_len 0 (length program.atoms)) (range_from (length program.atoms) 0 atom (omega arith) (omega (arith, l)))

-- the node is of this number
abbrev pub IsNodeOf : Ground → ℕ → NodeRule → Type 0
IsNodeOf program t node = (x : ℕ) × (x < length program.nodes) × (node_at program t x ≡ node)

pub node_of_state : (program : Ground) (t : ℕ) (node : NodeRule) → In node (module_of program t).nodes → IsNodeOf program t node
node_of_state program t node i =
    let w = In-map_from (node_at program t) node (range_with_len 0 (length program.nodes)) i in
    (w.0, omega (arith, (range_cases (length program.nodes) 0 w.0 w.1).1), w.2)

-- a place of a state is one of that state alone
pub one_state : (w t u p q : ℕ) → p < w → q < w → t * w + p ≡ u * w + q → t ≡ u
one_state w t u p q l m e = sym (div-mul-add t w p l) ∙ (ap (λ (v : ℕ). v / w) e ∙ div-mul-add u w q m)

pub one_place : (w t u p q : ℕ) → p < w → q < w → t * w + p ≡ u * w + q → p ≡ q
one_place w t u p q l m e = sym (mod-mul-add t w p l) ∙ (ap (λ (v : ℕ). v % w) e ∙ mod-mul-add u w q m)

-- ---- settled

close_is : (program : Ground) (t : ℕ) → (module_of program t).close ≡ close_at (module_of program) t
close_is program zero = refl
close_is program (suc t) =
    let counts = counts_of program in
    let back : (suc t - 1) ≡ t = omega arith in
    cond-true (nat_lt 0 (suc t)) (Some (no_lit (end_at counts (suc t - 1)))) None (lt-ltb 0 (suc t) (omega arith)) ∙ ap (λ (k : ℕ). Some (no_lit (end_at counts k))) back

pub each_settled : (program : Ground) (t : ℕ) → IsGround program → IsSettled (module_of program) t
each_settled program t ground =
    let counts = counts_of program in
    let next = numbered (instance_next counts (t - 1)) 0 program.instances in
    let later = cond (nat_lt 0 t) next [] in
    record {
      later = later;
      rules = ap (λ (rules : List NRule). rules ++ later) (sym (own_are counts t 0 program.instances));
      each_later = λ rule i.
          let b = behind (nat_lt 0 t) next rule i in
          let w = later_are counts (t - 1) 0 program.instances rule b.1 in
          record { positive = ltb-true 0 t b.0; def = w.0; before = w.1; head = w.2; is = w.3 };
      heads = λ rule head i is. let w = head_at program t head rule ground i is in subst (λ (v : ℕ). In v (module_of program t).atoms) w.2 (at_atom program t w.0 w.1);
      close = close_is program t;
    }

pub templates_settled : TemplatesAreSettled
templates_settled program n ground = record {
  each = λ t l. each_settled program t ground;
  atoms = λ t u l m atom i j.
      let a = atom_at program t atom i in
      let b = atom_at program u atom j in
      one_state (width (counts_of program)) t u a.0 b.0 (omega (arith, a.1)) (omega (arith, b.1)) (a.2 ∙ sym b.2);
  nodes = λ t u l m node other i j e.
      let a = node_of_state program t node i in
      let b = node_of_state program u other j in
      let w = width (counts_of program) in
      let atoms = length program.atoms in
      let same = ap (λ (k : NodeRule). k.var) a.2 ∙ (e ∙ ap (λ (k : NodeRule). k.var) (sym b.2)) in
      let state = one_state w t u (atoms + a.0) (atoms + b.0) (omega (arith, a.1)) (omega (arith, b.1)) same in
      let place = one_place w t u (atoms + a.0) (atoms + b.0) (omega (arith, a.1)) (omega (arith, b.1)) same in
      let number : a.0 ≡ b.0 = omega (arith, place) in
      sym a.2 ∙ ((λ k. node_at program (state k) (number k)) ∙ b.2);
  apart = λ t u l m atom node i j e.
      let a = atom_at program t atom i in
      let b = node_of_state program u node j in
      let w = width (counts_of program) in
      let atoms = length program.atoms in
      let place = one_place w t u a.0 (atoms + b.0) (omega (arith, a.1)) (omega (arith, b.1)) (a.2 ∙ (e ∙ ap (λ (k : NodeRule). k.var) (sym b.2))) in
      omega (arith, place, a.1);
}
