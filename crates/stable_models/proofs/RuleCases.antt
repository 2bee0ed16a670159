-- What rules the program of a length has.
use Rattle.std.proofs.Common.{◌≡◌, ℕ, ◌+◌, ◌-◌, ◌<◌, Bool, true, false, cond, List, [], ◌∷◌, ◌++◌, length, refl, sym, ap, subst, inl, inr, ◌∙◌, ⊎_elim, arith}
use Rattle.std.specs.Prelude.{Option, Some, None, nat_lt}
use Rattle.std.specs.List.{flat_map, range_with_len}
use Rattle.std.proofs.lemmas.Bool.{cond-true, cond-false, lt-ltb, ltb-true, false≢true, cases_Bool}
use Rattle.tel_rule.specs.declared.ground.Instance.{Instance}
use Rattle.tel_rule.specs.declared.ground.GroundHead.{GroundHead}
use Rattle.tel_rule.specs.declared.ground.GroundHead.TheVariants as heads
use Rattle.tel_rule.specs.Ground.{Ground}
use Rattle.tel_base.proofs.Members.{In, In-append_left, In-append_right, In-append_cases, In-map, In-map_from, In-flat_map, In-flat_map_from}
use Rattle.tel_base.specs.declared.literals.Lit.{Lit}
use Rattle.normal_program.specs.declared.rules.NRule.{NRule}
use Rattle.atom_space.specs.Numbers.{Counts, visible, part, body_at, end_at}
use Rattle.normal_program.specs.StableSets.{Set, lits_hold, body_holds}
use Rattle.normal_program.specs.Shapes.{shape_bodies, node_rule}
use Rattle.tel_base.specs.Literals.{lit_of}
use Rattle.formula_unfold.specs.Nodes.{counts_of, shape_at}
use Rattle.step_module.specs.Bodies.{stands, body_lits}
use Rattle.step_module.specs.Rules.{instance_rule, head_rules, next_rules, instance_rules, instance_next, numbered}
use Rattle.stable_models.proofs.ProgramRules.{node_rules, module_rules, program_rules}
use Rattle.stable_models.specs.Programs.{end_fact}
use Rattle.completion.proofs.Sets.{lits-body}
use Rattle.completion.proofs.Ranges.{range_cases, range_from}

-- a rule of an instance whose body is that of the state t
pub record OfInstance (program : Ground) (make : Counts → ℕ → ℕ → Instance → List NRule) (t : ℕ) (rule : NRule) : Type 0 where
  pub number : ℕ
  pub instance : Instance
  pub member : In instance program.instances
  pub made : In rule (make (counts_of program) t number instance)

-- a rule of a node at the state t
pub record OfNode (program : Ground) (t : ℕ) (rule : NRule) : Type 0 where
  pub node : ℕ
  pub within : node < length program.nodes
  pub lits : List Lit
  pub body : In lits (shape_bodies (shape_at program node t))
  pub is : node_rule (part (counts_of program) node t) lits ≡ rule

pub data Cases (program : Ground) (n : ℕ) (rule : NRule) : Type 0 where
  Fact : end_fact program (n - 1) ≡ rule → Cases program n rule
  Now : (t : ℕ) → t < n → OfInstance program instance_rules t rule → Cases program n rule
  Next : (t : ℕ) → (t + 1) < n → OfInstance program instance_next t rule → Cases program n rule
  OfPart : (t : ℕ) → t < n → OfNode program t rule → Cases program n rule

pub numbered_cases : (make : ℕ → Instance → List NRule) (first : ℕ) (instances : List Instance) (rule : NRule) → In rule (numbered make first instances) → (number : ℕ) × (instance : Instance) × In instance instances × In rule (make number instance)
numbered_cases make first [] rule h = absurd h
numbered_cases make first (instance ∷ more) rule h =
    ⊎_elim (λ here. (first, instance, inl refl, here)) (λ there. let w = numbered_cases make (first + 1) more rule there in (w.0, w.1, inr w.2, w.3)) (In-append_cases rule (make first instance) (numbered make (first + 1) more) h)

numbered_from : (make : ℕ → Instance → List NRule) (first : ℕ) (instances : List Instance) (instance : Instance) → In instance instances → (number : ℕ) × ((rule : NRule) → In rule (make number instance) → In rule (numbered make first instances))
numbered_from make first [] instance h = absurd h
numbered_from make first (other ∷ more) instance h =
    ⊎_elim (λ e. (first, λ rule found. In-append_left rule (make first other) (numbered make (first + 1) more) (subst (λ (i : Instance). In rule (make first i)) (sym e) found))) (λ m. let w = numbered_from make (first + 1) more instance m in (w.0, λ rule found. In-append_right rule (make first other) (numbered make (first + 1) more) (w.1 rule found))) h

-- the three parts of a module
next_case : (program : Ground) (n t : ℕ) (rule : NRule) → t < n → In rule (cond (nat_lt 0 t) (numbered (instance_next (counts_of program) (t - 1)) 0 program.instances) []) → Cases program n rule
next_case program n t rule l h =
    let next = numbered (instance_next (counts_of program) (t - 1)) 0 program.instances in
    ⊎_elim (λ (p : nat_lt 0 t ≡ true).
    let w = numbered_cases (instance_next (counts_of program) (t - 1)) 0 program.instances rule (subst (λ (rules : List NRule). In rule rules) (cond-true (nat_lt 0 t) next [] p) h) in
    Next (t - 1) (omega (arith, l, ltb-true 0 t p)) (record { number = w.0; instance = w.1; member = w.2; made = w.3 })) (λ (p : nat_lt 0 t ≡ false). absurd (subst (λ (rules : List NRule). In rule rules) (cond-false (nat_lt 0 t) next [] p) h)) (cases_Bool (nat_lt 0 t))

node_case : (program : Ground) (n t : ℕ) (rule : NRule) → t < n → In rule (flat_map (node_rules program t) (range_with_len 0 (length program.nodes))) → Cases program n rule
node_case program n t rule l h =
    let w = In-flat_map_from (node_rules program t) rule (range_with_len 0 (length program.nodes)) h in
    let v = In-map_from (node_rule (part (counts_of program) w.0 t)) rule (shape_bodies (shape_at program w.0 t)) w.2 in
    OfPart t l (record { node = w.0; within = omega (arith, (range_cases (length program.nodes) 0 w.0 w.1).1); lits = v.0; body = v.1; is = v.2 })

pub module_cases : (program : Ground) (n t : ℕ) (rule : NRule) → t < n → In rule (module_rules program t) → Cases program n rule
module_cases program n t rule l h =
    let counts = counts_of program in
    let now = numbered (instance_rules counts t) 0 program.instances in
    let next = cond (nat_lt 0 t) (numbered (instance_next counts (t - 1)) 0 program.instances) [] in
    let nodes = flat_map (node_rules program t) (range_with_len 0 (length program.nodes)) in
    ⊎_elim (λ a. let w = numbered_cases (instance_rules counts t) 0 program.instances rule a in Now t l (record { number = w.0; instance = w.1; member = w.2; made = w.3 })) (λ b. ⊎_elim (λ c. next_case program n t rule l c) (λ d. node_case program n t rule l d) (In-append_cases rule next nodes b)) (In-append_cases rule now (next ++ nodes) h)

-- each rule of the program is one of these
pub rule_cases : (program : Ground) (n : ℕ) (rule : NRule) → In rule (program_rules program n) → Cases program n rule
rule_cases program n rule h =
    ⊎_elim (λ e. Fact e) (λ m. let w = In-flat_map_from (module_rules program) rule (range_with_len 0 n) m in module_cases program n w.0 rule (omega (arith, (range_cases n 0 w.0 w.1).1)) w.2) h

in_module : (program : Ground) (n t : ℕ) (rule : NRule) → t < n → In rule (module_rules program t) → In rule (program_rules program n)
in_module program n t rule l h = inr (In-flat_map (module_rules program) t rule (range_with_len 0 n) (range_from n 0 t (omega arith) (omega (arith, l))) h)

-- and each of these is a rule of the program
pub in_part : (program : Ground) (n t x : ℕ) (lits : List Lit) → t < n → x < length program.nodes → In lits (shape_bodies (shape_at program x t)) → In (node_rule (part (counts_of program) x t) lits) (program_rules program n)
in_part program n t x lits l within h =
    let counts = counts_of program in
    let rule = node_rule (part counts x t) lits in
    let now = numbered (instance_rules counts t) 0 program.instances in
    let next = cond (nat_lt 0 t) (numbered (instance_next counts (t - 1)) 0 program.instances) [] in
    let nodes = flat_map (node_rules program t) (range_with_len 0 (length program.nodes)) in
    let found = In-flat_map (node_rules program t) x rule (range_with_len 0 (length program.nodes)) (range_from (length program.nodes) 0 x (omega arith) (omega (arith, within))) (In-map (node_rule (part counts x t)) lits (shape_bodies (shape_at program x t)) h) in
    in_module program n t rule l (In-append_right rule now (next ++ nodes) (In-append_right rule next nodes found))

pub in_now : (program : Ground) (n t : ℕ) (instance : Instance) → t < n → In instance program.instances → (number : ℕ) × ((rule : NRule) → In rule (instance_rules (counts_of program) t number instance) → In rule (program_rules program n))
in_now program n t instance l member =
    let counts = counts_of program in
    let w = numbered_from (instance_rules counts t) 0 program.instances instance member in
    let next = cond (nat_lt 0 t) (numbered (instance_next counts (t - 1)) 0 program.instances) [] in
    let nodes = flat_map (node_rules program t) (range_with_len 0 (length program.nodes)) in
    (w.0, λ rule found. in_module program n t rule l (In-append_left rule (numbered (instance_rules counts t) 0 program.instances) (next ++ nodes) (w.1 rule found)))

pub in_next : (program : Ground) (n t : ℕ) (instance : Instance) → (t + 1) < n → In instance program.instances → (number : ℕ) × ((rule : NRule) → In rule (instance_next (counts_of program) t number instance) → In rule (program_rules program n))
in_next program n t instance l member =
    let counts = counts_of program in
    let w = numbered_from (instance_next counts t) 0 program.instances instance member in
    let next = numbered (instance_next counts (t + 1 - 1)) 0 program.instances in
    let nodes = flat_map (node_rules program (t + 1)) (range_with_len 0 (length program.nodes)) in (
      w.0,
      λ rule found.
          let there : In rule next = subst (λ (k : ℕ). In rule (numbered (instance_next counts k) 0 program.instances)) (omega arith) (w.1 rule found) in
          let kept : In rule (cond (nat_lt 0 (t + 1)) next []) = subst (λ (rules : List NRule). In rule rules) (sym (cond-true (nat_lt 0 (t + 1)) next [] (lt-ltb 0 (t + 1) (omega arith)))) there in
          in_module program n (t + 1) rule l (In-append_right rule (numbered (instance_rules counts (t + 1)) 0 program.instances) (cond (nat_lt 0 (t + 1)) next [] ++ nodes) (In-append_left rule (cond (nat_lt 0 (t + 1)) next []) nodes kept)),
    )

-- ---- the rules of one instance

pub some_head : Option ℕ → ℕ
some_head None = 0
some_head (Some v) = v

pub some_same : (a b : ℕ) → Some a ≡ Some b → a ≡ b
unfolding some_head
some_same a b h = ap some_head h

-- what stands behind a test that a list passes
if_in : (t : Bool) (rules : List NRule) (rule : NRule) → In rule (cond t rules []) → (t ≡ true) × In rule rules
if_in true rules rule h = (refl, h)
if_in false rules rule h = absurd h

pub in_if : (t : Bool) (rules : List NRule) (rule : NRule) → t ≡ true → In rule rules → In rule (cond t rules [])
in_if true rules rule t h = h
in_if false rules rule t h = absurd (false≢true t)

-- a rule with this head and these literals
pub record Derives (X S : Set) (rule : NRule) (head : Option ℕ) (choice : Bool) (lits : List Lit) : Type 0 where
  pub head_is : rule.head ≡ head
  pub choice_is : rule.choice ≡ choice
  pub body_is : body_holds X S rule ≡ lits_hold X S lits

rule_derives : (X S : Set) (rule : NRule) (head : Option ℕ) (choice : Bool) (lits : List Lit) (body : ℕ) → instance_rule head choice lits body ≡ rule → Derives X S rule head choice lits
rule_derives X S rule head choice lits body e =
    record { head_is = sym (ap (λ (r : NRule). r.head) e); choice_is = sym (ap (λ (r : NRule). r.choice) e); body_is = sym (ap (body_holds X S) e) ∙ lits-body X S lits }

-- what a rule of an instance derives in its module, by its head
abbrev pub NowIs : Counts → ℕ → Set → Set → NRule → List Lit → GroundHead → Type 0
NowIs counts t X S rule lits (heads.Normal atom true) = Derives X S rule None false (lits ++ lit_of (end_at counts t) ∷ [])
NowIs counts t X S rule lits (heads.Normal atom false) = Derives X S rule (Some (visible counts atom t)) false lits
NowIs counts t X S rule lits (heads.Choice atom true) = ⊥
NowIs counts t X S rule lits (heads.Choice atom false) = Derives X S rule (Some (visible counts atom t)) true lits
NowIs counts t X S rule lits heads.None = Derives X S rule None false lits

abbrev pub NextIs : Counts → ℕ → Set → Set → NRule → List Lit → GroundHead → Type 0
NextIs counts t X S rule lits (heads.Normal atom true) = Derives X S rule (Some (visible counts atom (t + 1))) false lits
NextIs counts t X S rule lits (heads.Normal atom false) = ⊥
NextIs counts t X S rule lits (heads.Choice atom true) = Derives X S rule (Some (visible counts atom (t + 1))) true lits
NextIs counts t X S rule lits (heads.Choice atom false) = ⊥
NextIs counts t X S rule lits heads.None = ⊥

head_now : (counts : Counts) (t : ℕ) (X S : Set) (rule : NRule) (lits : List Lit) (body : ℕ) (head : GroundHead) → In rule (head_rules counts t head lits body) → NowIs counts t X S rule lits head
head_now counts t X S rule lits body (heads.Normal atom true) h = ⊎_elim (λ e. rule_derives X S rule None false (lits ++ lit_of (end_at counts t) ∷ []) body e) (λ f. absurd f) h
head_now counts t X S rule lits body (heads.Normal atom false) h = ⊎_elim (λ e. rule_derives X S rule (Some (visible counts atom t)) false lits body e) (λ f. absurd f) h
head_now counts t X S rule lits body (heads.Choice atom true) h = h
head_now counts t X S rule lits body (heads.Choice atom false) h = ⊎_elim (λ e. rule_derives X S rule (Some (visible counts atom t)) true lits body e) (λ f. absurd f) h
head_now counts t X S rule lits body heads.None h = ⊎_elim (λ e. rule_derives X S rule None false lits body e) (λ f. absurd f) h

head_next : (counts : Counts) (t : ℕ) (X S : Set) (rule : NRule) (lits : List Lit) (body : ℕ) (head : GroundHead) → In rule (next_rules counts t head lits body) → NextIs counts t X S rule lits head
head_next counts t X S rule lits body (heads.Normal atom true) h = ⊎_elim (λ e. rule_derives X S rule (Some (visible counts atom (t + 1))) false lits body e) (λ f. absurd f) h
head_next counts t X S rule lits body (heads.Normal atom false) h = h
head_next counts t X S rule lits body (heads.Choice atom true) h = ⊎_elim (λ e. rule_derives X S rule (Some (visible counts atom (t + 1))) true lits body e) (λ f. absurd f) h
head_next counts t X S rule lits body (heads.Choice atom false) h = h
head_next counts t X S rule lits body heads.None h = h

pub now_is : (counts : Counts) (t number : ℕ) (X S : Set) (rule : NRule) (instance : Instance) → In rule (instance_rules counts t number instance) → (stands t instance ≡ true) × NowIs counts t X S rule (body_lits counts t instance) instance.head
now_is counts t number X S rule instance h =
    let lits = body_lits counts t instance in
    let w = if_in (stands t instance) (head_rules counts t instance.head lits (body_at counts number t)) rule h in
    (w.0, head_now counts t X S rule lits (body_at counts number t) instance.head w.1)

pub next_is : (counts : Counts) (t number : ℕ) (X S : Set) (rule : NRule) (instance : Instance) → In rule (instance_next counts t number instance) → (stands t instance ≡ true) × NextIs counts t X S rule (body_lits counts t instance) instance.head
next_is counts t number X S rule instance h =
    let lits = body_lits counts t instance in
    let w = if_in (stands t instance) (next_rules counts t instance.head lits (body_at counts number t)) rule h in
    (w.0, head_next counts t X S rule lits (body_at counts number t) instance.head w.1)
