-- The modules of a program speak of atoms, nodes, ends and their own bodies; ends and open variables are apart.
use Rattle.std.proofs.Common.{◌≡◌, ℕ, suc, ◌+◌, ◌-◌, ◌*◌, ◌<◌, ◌≤◌, Bool, true, false, not, ◌||◌, List, [], ◌∷◌, ◌++◌, length, refl, sym, ap, subst, ◌∙◌, ◌⊎◌, inl, inr, ⊎_elim, arith}
use Rattle.std.specs.Prelude.{Option, Some, None, nat_lt, ◌==◌, slice_get}
use Rattle.std.specs.List.{flat_map, filter, list_all, range_with_len}
use Rattle.std.proofs.lemmas.Bool.{and_parts, ltb-true, eqb-true, ne_eqb, le-ltb}
use Rattle.std.proofs.lemmas.Nat.{mod-mul-add}
use Rattle.tel_base.specs.declared.literals.Lit.{Lit}
use Rattle.tel_base.specs.Literals.{lit_of}
use Rattle.tel_base.proofs.Members.{In, In-list_all, In-append_cases, In-map_from, In-flat_map_from, In-filter_from, any_found}
use Rattle.tel_rule.specs.declared.parts.Part.{Part}
use Rattle.tel_rule.specs.declared.parts.Part.TheVariants as parts
use Rattle.tel_rule.specs.declared.ground.Instance.{Instance}
use Rattle.tel_rule.specs.declared.ground.GroundHead.{GroundHead}
use Rattle.tel_rule.specs.declared.ground.GroundHead.TheVariants as heads
use Rattle.tel_rule.specs.declared.ground.BodyItem.{BodyItem}
use Rattle.tel_rule.specs.declared.ground.BodyItem.TheVariants as items
use Rattle.tel_rule.specs.Ground.{Ground, IsGround, head_in_range, item_in_range, literal_in_range, instance_in_range}
use Rattle.tel_semantics.proofs.InRange.{pair_below}
use Rattle.normal_program.specs.declared.rules.NRule.{NRule}
use Rattle.normal_program.specs.declared.shapes.NodeRule.{NodeRule}
use Rattle.normal_program.specs.declared.modules.BodyHead.{BodyHead}
use Rattle.normal_program.specs.declared.modules.BodyHead.TheVariants as uses
use Rattle.normal_program.specs.declared.modules.BodyDef.{BodyDef}
use Rattle.normal_program.specs.Rules.{rule_of, positives, negatives}
use Rattle.normal_program.specs.Shapes.{shape_bodies}
use Rattle.atom_space.specs.Numbers.{width, visible, part, end_at}
use Rattle.horizon_external.specs.Occurring.{lit_vars, option_vars, head_vars, body_vars, rule_vars, node_vars, pair_vars, module_vars, occurs}
use Rattle.formula_unfold.specs.Nodes.{counts_of, node_at}
use Rattle.step_module.specs.Bodies.{stands, item_lits, literal_lits, part_lits, body_lits}
use Rattle.step_module.specs.Rules.{head_use, instance_bodies, numbered}
use Rattle.step_module.specs.Modules.{pairs_at, stated, module_of}
use Rattle.completion.specs.Completions.{rules_by, own_rules, IsLater, IsHead}
use Rattle.completion.proofs.Ranges.{range_cases}
use Rattle.stable_models.specs.Values.{is_plain}
use Rattle.stable_models.specs.Laws.{TemplatesAreApart, TemplatesArePlain}
use Rattle.stable_models.proofs.PlainShapes.{plain_atom, plain_node, plain_end, IsUpTo, plain_up_to, shape_plain, plain_shape}
use Rattle.stable_models.proofs.SettledModules.{body_of, behind, right_head, atom_at, node_of_state, one_state, one_place, each_settled}

-- ---- bodies

-- the body of one of these instances, which stands at the state
record OfBody (program : Ground) (t first : ℕ) (instances : List Instance) (def : BodyDef) : Type 0 where
  pub number : ℕ
  pub instance : Instance
  pub within : number < length instances
  pub here : slice_get instances number ≡ Some instance
  pub member : In instance instances
  pub stand : stands t instance ≡ true
  pub is : body_of (counts_of program) t (first + number) instance ≡ def

of_body : (program : Ground) (t first : ℕ) (instances : List Instance) (def : BodyDef) → In def (numbered (instance_bodies (counts_of program) t) first instances) → OfBody program t first instances def
of_body program t first [] def i = absurd i
of_body program t first (instance ∷ more) def i =
    let counts = counts_of program in
    ⊎_elim
    (λ a.
    let b = behind (stands t instance) (body_of counts t first instance ∷ []) def a in
    record { number = 0; instance = instance; within = omega arith; here = refl; member = inl refl; stand = b.0; is = ap (λ (k : ℕ). body_of counts t k instance) (omega arith) ∙ ⊎_elim (λ e. e) (λ m. absurd m) b.1 })
    (λ b.
    let w = of_body program t (first + 1) more def b in
    let l = w.within in
    record {
      number = suc w.number;
      instance = w.instance;
      within = omega (arith, l);
      here = w.here;
      member = inr w.member;
      stand = w.stand;
      is = ap (λ (k : ℕ). body_of counts t k w.instance) (omega arith) ∙ w.is;
    })
    (In-append_cases def (instance_bodies counts t first instance) (numbered (instance_bodies counts t) (first + 1) more) i)

-- the body of an instance of the program
pub record IsBodyAt (program : Ground) (t : ℕ) (def : BodyDef) : Type 0 where
  pub number : ℕ
  pub instance : Instance
  pub within : number < length program.instances
  pub here : slice_get program.instances number ≡ Some instance
  pub member : In instance program.instances
  pub stand : stands t instance ≡ true
  pub is : body_of (counts_of program) t number instance ≡ def

pub body_at_state : (program : Ground) (t : ℕ) (def : BodyDef) → In def (module_of program t).bodies → IsBodyAt program t def
body_at_state program t def i =
    let w = of_body program t 0 program.instances def i in
    record {
      number = w.number;
      instance = w.instance;
      within = w.within;
      here = w.here;
      member = w.member;
      stand = w.stand;
      is = ap (λ (k : ℕ). body_of (counts_of program) t k w.instance) (omega arith) ∙ w.is;
    }

-- ---- literals

up_to_item : (program : Ground) (t : ℕ) (positive : Bool) (item : BodyItem) (lit : Lit) → item_in_range (length program.atoms) (length program.nodes) item ≡ true → In lit (item_lits (counts_of program) t positive item) → IsUpTo program t lit.var
up_to_item program t positive (items.Atom atom) lit right i =
    ⊎_elim (λ (e : record { var = visible (counts_of program) atom t; positive = positive } ≡ lit). inl (t, atom, omega arith, ltb-true atom (length program.atoms) right, ap (λ (l : Lit). l.var) e)) (λ m. absurd m) i
up_to_item program t positive (items.Before atom) lit right i =
    let b = behind (nat_lt 0 t) (record { var = visible (counts_of program) atom (t - 1); positive = positive } ∷ []) lit i in
    ⊎_elim (λ (e : record { var = visible (counts_of program) atom (t - 1); positive = positive } ≡ lit). inl (t - 1, atom, omega arith, ltb-true atom (length program.atoms) right, ap (λ (l : Lit). l.var) e)) (λ m. absurd m) b.1
up_to_item program t positive (items.Node node) lit right i =
    ⊎_elim (λ (e : record { var = part (counts_of program) node t; positive = positive } ≡ lit). inr (inr (t, node, omega arith, ltb-true node (length program.nodes) right, ap (λ (l : Lit). l.var) e))) (λ m. absurd m) i

up_to_part : (program : Ground) (t : ℕ) (of : Part) (lit : Lit) → In lit (part_lits (counts_of program) t of) → IsUpTo program t lit.var
up_to_part program t parts.Final lit i =
    ⊎_elim (λ (e : lit_of (end_at (counts_of program) t) ≡ lit). inr (inl (t, omega arith, ap (λ (l : Lit). l.var) e))) (λ m. absurd m) i
up_to_part program t parts.Initial lit i = absurd i
up_to_part program t parts.Dynamic lit i = absurd i
up_to_part program t parts.Always lit i = absurd i

right_body : (program : Ground) (instance : Instance) → IsGround program → In instance program.instances → list_all (literal_in_range (length program.atoms) (length program.nodes)) instance.body ≡ true
right_body program instance ground member =
    let right = In-list_all (instance_in_range (length program.atoms) (length program.nodes)) instance program.instances ground.in_range member in
    (and_parts (head_in_range (length program.atoms) instance.head) (list_all (literal_in_range (length program.atoms) (length program.nodes)) instance.body) right).1

pub up_to_body : (program : Ground) (t : ℕ) (def : BodyDef) (lit : Lit) → IsGround program → In def (module_of program t).bodies → In lit def.lits → IsUpTo program t lit.var
up_to_body program t def lit ground m i =
    let counts = counts_of program in
    let w = body_at_state program t def m in
    let here : In lit (body_lits counts t w.instance) = subst (λ (d : BodyDef). In lit d.lits) (sym w.is) i in
    ⊎_elim
    (λ a.
    let k = In-flat_map_from (literal_lits counts t) lit w.instance.body a in
    up_to_item program t k.0.positive k.0.item lit (In-list_all (literal_in_range (length program.atoms) (length program.nodes)) k.0 w.instance.body (right_body program w.instance ground w.member) k.1) k.2)
    (λ b. up_to_part program t w.instance.part lit b)
    (In-append_cases lit (flat_map (literal_lits counts t) w.instance.body) (part_lits counts t w.instance.part) here)

plain_body : (program : Ground) (t : ℕ) (def : BodyDef) (lit : Lit) → IsGround program → In def (module_of program t).bodies → In lit def.lits → is_plain program lit.var ≡ true
plain_body program t def lit ground m i = plain_up_to program t lit.var (up_to_body program t def lit ground m i)

-- ---- heads and pairs

plain_head : (program : Ground) (t var : ℕ) → IsHead (module_of program t) var → is_plain program var ≡ true
plain_head program t var h =
    ⊎_elim
    (λ i. let w = atom_at program t var i in subst (λ (v : ℕ). is_plain program v ≡ true) w.2 (plain_atom program t w.0 w.1))
    (λ (k : (node : NodeRule) × In node (module_of program t).nodes × (node.var ≡ var)).
    let w = node_of_state program t k.0 k.1 in
    subst (λ (v : ℕ). is_plain program v ≡ true) (ap (λ (node : NodeRule). node.var) w.2 ∙ k.2) (plain_node program t w.0 w.1))
    h

pub up_to_pair : (program : Ground) (t : ℕ) (pair : ℕ × ℕ) → IsGround program → In pair (pairs_at program t) → IsUpTo program t pair.0 × IsUpTo program t pair.1
up_to_pair program t pair ground i =
    let counts = counts_of program in
    let w = In-map_from (λ (p : ℕ × ℕ). (visible counts p.0 t, visible counts p.1 t)) pair program.pairs i in
    let l = pair_below program.atoms w.0 (subst (λ (all : List (ℕ × ℕ)). In w.0 all) ground.paired w.1) in
    (inl (t, w.0.0, omega arith, l.0, ap (λ (p : ℕ × ℕ). p.0) w.2), inl (t, w.0.1, omega arith, l.1, ap (λ (p : ℕ × ℕ). p.1) w.2))

plain_pair : (program : Ground) (t : ℕ) (pair : ℕ × ℕ) → IsGround program → In pair (pairs_at program t) → (is_plain program pair.0 ≡ true) × (is_plain program pair.1 ≡ true)
plain_pair program t pair ground i =
    let up = up_to_pair program t pair ground i in
    (plain_up_to program t pair.0 up.0, plain_up_to program t pair.1 up.1)

plain_node_lits : (program : Ground) (t : ℕ) (node : NodeRule) (lits : List Lit) (lit : Lit) → IsGround program → In node (module_of program t).nodes → In lits (shape_bodies node.shape) → In lit lits → is_plain program lit.var ≡ true
plain_node_lits program t node lits lit ground m i j =
    let w = node_of_state program t node m in
    plain_shape program w.0 t lits lit ground w.1 (subst (λ (k : NodeRule). In lits (shape_bodies k.shape)) (sym w.2) i) j

-- ---- open variables

-- a variable of a state up to t
pub record IsPast (program : Ground) (t var : ℕ) : Type 0 where
  pub state : ℕ
  pub place : ℕ
  pub upto : state ≤ t
  pub within : place < width (counts_of program)
  pub is : state * width (counts_of program) + place ≡ var

abbrev IsSaid : Ground → ℕ → ℕ → Type 0
IsSaid program t var = (is_plain program var ≡ true) ⊎ IsPast program t var

body_past : (program : Ground) (t u : ℕ) (def : BodyDef) → u ≤ t → In def (module_of program u).bodies → IsPast program t def.var
body_past program t u def l m =
    let w = body_at_state program u def m in
    let n = w.within in
    record { state = u; place = length program.atoms + length program.nodes + w.number; upto = l; within = omega (arith, n); is = ap (λ (d : BodyDef). d.var) w.is }

-- the variable of a literal
in_vars : (program : Ground) (lits : List Lit) (var : ℕ) → ((lit : Lit) → In lit lits → is_plain program lit.var ≡ true) → In var (lit_vars lits) → is_plain program var ≡ true
in_vars program lits var h i =
    let w = In-map_from (λ (lit : Lit). lit.var) var lits i in
    subst (λ (v : ℕ). is_plain program v ≡ true) w.2 (h w.0 w.1)

in_positives : (program : Ground) (lits : List Lit) (var : ℕ) → ((lit : Lit) → In lit lits → is_plain program lit.var ≡ true) → In var (positives lits) → is_plain program var ≡ true
in_positives program lits var h i =
    in_vars program (filter (λ (lit : Lit). lit.positive) lits) var (λ lit m. h lit (In-filter_from (λ (k : Lit). k.positive) lit lits m).0) i

in_negatives : (program : Ground) (lits : List Lit) (var : ℕ) → ((lit : Lit) → In lit lits → is_plain program lit.var ≡ true) → In var (negatives lits) → is_plain program var ≡ true
in_negatives program lits var h i =
    in_vars program (filter (λ (lit : Lit). not lit.positive) lits) var (λ lit m. h lit (In-filter_from (λ (k : Lit). not k.positive) lit lits m).0) i

in_option : (var : ℕ) (option : Option ℕ) → In var (option_vars option) → option ≡ Some var
in_option var None i = absurd i
in_option var (Some v) i = ⊎_elim (λ e. ap Some e) (λ m. absurd m) i

-- a rule of these literals
said_rule : (program : Ground) (t var : ℕ) (head : Option ℕ) (choice : Bool) (lits : List Lit) (body : ℕ) → (head ≡ Some var → is_plain program var ≡ true) → ((lit : Lit) → In lit lits → is_plain program lit.var ≡ true) → IsPast program t body → In var (rule_vars (rule_of head choice lits (Some body))) → IsSaid program t var
said_rule program t var head choice lits body of_head of_lits past i =
    ⊎_elim
    (λ a. inl (of_head (in_option var head a)))
    (λ b. ⊎_elim
    (λ c. inl (in_positives program lits var of_lits c))
    (λ d. ⊎_elim
    (λ e. inl (in_negatives program lits var of_lits e))
    (λ f. inr (⊎_elim (λ same. subst (λ (v : ℕ). IsPast program t v) same past) (λ m. absurd m) f))
    (In-append_cases var (negatives lits) (body ∷ []) d))
    (In-append_cases var (positives lits) (negatives lits ++ body ∷ []) b))
    (In-append_cases var (option_vars head) (positives lits ++ (negatives lits ++ body ∷ [])) i)

and_end : (program : Ground) (t : ℕ) (lits : List Lit) → ((lit : Lit) → In lit lits → is_plain program lit.var ≡ true) → (lit : Lit) → In lit (lits ++ lit_of (end_at (counts_of program) t) ∷ []) → is_plain program lit.var ≡ true
and_end program t lits h lit i =
    let last = lit_of (end_at (counts_of program) t) in
    ⊎_elim (h lit) (λ r. ⊎_elim (λ e. subst (λ (l : Lit). is_plain program l.var ≡ true) e (plain_end program t)) (λ m. absurd m) r) (In-append_cases lit lits (last ∷ []) i)

-- a rule of a body of this state
said_own : (program : Ground) (t var body : ℕ) (lits : List Lit) (kind : BodyHead) (rule : NRule) → (rule.head ≡ Some var → is_plain program var ≡ true) → ((lit : Lit) → In lit lits → is_plain program lit.var ≡ true) → IsPast program t body → In rule (rules_by (end_at (counts_of program) t) body lits kind) → In var (rule_vars rule) → IsSaid program t var
said_own program t var body lits (uses.Normal head) rule of_head of_lits past i =
    ⊎_elim (λ (e : rule_of (Some head) false lits (Some body) ≡ rule). subst (λ (r : NRule). (r.head ≡ Some var → is_plain program var ≡ true) → In var (rule_vars r) → IsSaid program t var) e (λ f. said_rule program t var (Some head) false lits body f of_lits past) of_head) (λ m. absurd m) i
said_own program t var body lits (uses.Choice head) rule of_head of_lits past i =
    ⊎_elim (λ (e : rule_of (Some head) true lits (Some body) ≡ rule). subst (λ (r : NRule). (r.head ≡ Some var → is_plain program var ≡ true) → In var (rule_vars r) → IsSaid program t var) e (λ f. said_rule program t var (Some head) true lits body f of_lits past) of_head) (λ m. absurd m) i
said_own program t var body lits uses.Nothing rule of_head of_lits past i =
    ⊎_elim (λ (e : rule_of None false lits (Some body) ≡ rule). subst (λ (r : NRule). (r.head ≡ Some var → is_plain program var ≡ true) → In var (rule_vars r) → IsSaid program t var) e (λ f. said_rule program t var None false lits body f of_lits past) of_head) (λ m. absurd m) i
said_own program t var body lits uses.NextNormal rule of_head of_lits past i =
    let all = lits ++ lit_of (end_at (counts_of program) t) ∷ [] in
    ⊎_elim (λ (e : rule_of None false all (Some body) ≡ rule). subst (λ (r : NRule). (r.head ≡ Some var → is_plain program var ≡ true) → In var (rule_vars r) → IsSaid program t var) e (λ f. said_rule program t var None false all body f (and_end program t lits of_lits) past) of_head) (λ m. absurd m) i
said_own program t var body lits uses.NextChoice rule of_head of_lits past i = absurd i

said_later : (program : Ground) (t var : ℕ) (rule : NRule) → IsGround program → (rule.head ≡ Some var → is_plain program var ≡ true) → IsLater (module_of program) t rule → In var (rule_vars rule) → IsSaid program t var
said_later program t var rule ground of_head later i =
    let l = later.positive in
    said_rule program t var (Some later.head) rule.choice later.def.lits later.def.var (λ e. of_head (ap (λ (r : NRule). r.head) later.is ∙ e)) (λ lit m. plain_body program (t - 1) later.def lit ground later.before m) (body_past program t (t - 1) later.def (omega arith) later.before)
    (subst (λ (r : NRule). In var (rule_vars r)) later.is i)

said_by_rule : (program : Ground) (t var : ℕ) (rule : NRule) → IsGround program → In rule (module_of program t).rules → In var (rule_vars rule) → IsSaid program t var
said_by_rule program t var rule ground m i =
    let settled = each_settled program t ground in
    let own = flat_map (own_rules (end_at (counts_of program) t)) (module_of program t).bodies in
    let of_head : rule.head ≡ Some var → is_plain program var ≡ true = λ e. plain_head program t var (inl (settled.heads rule var m e)) in
    ⊎_elim
    (λ a.
    let w = In-flat_map_from (own_rules (end_at (counts_of program) t)) rule (module_of program t).bodies a in
    said_own program t var w.0.var w.0.lits w.0.head rule of_head (λ lit k. plain_body program t w.0 lit ground w.1 k) (body_past program t t w.0 (omega arith) w.1) w.2 i)
    (λ b. said_later program t var rule ground of_head (settled.each_later rule b) i)
    (In-append_cases rule own settled.later (subst (λ (rules : List NRule). In rule rules) settled.rules m))

-- the variable of a body, those of its literals, and its head
said_by_head : (program : Ground) (t var : ℕ) (head : GroundHead) → head_in_range (length program.atoms) head ≡ true → In var (head_vars (head_use (counts_of program) t head)) → is_plain program var ≡ true
said_by_head program t var (heads.Normal atom true) right i = absurd i
said_by_head program t var (heads.Normal atom false) right i =
    ⊎_elim (λ e. subst (λ (v : ℕ). is_plain program v ≡ true) e (plain_atom program t atom (ltb-true atom (length program.atoms) right))) (λ m. absurd m) i
said_by_head program t var (heads.Choice atom true) right i = absurd i
said_by_head program t var (heads.Choice atom false) right i =
    ⊎_elim (λ e. subst (λ (v : ℕ). is_plain program v ≡ true) e (plain_atom program t atom (ltb-true atom (length program.atoms) right))) (λ m. absurd m) i
said_by_head program t var heads.None right i = absurd i

said_by_body : (program : Ground) (t var : ℕ) (def : BodyDef) → IsGround program → In def (module_of program t).bodies → In var (body_vars def) → IsSaid program t var
said_by_body program t var def ground m i =
    let w = body_at_state program t def m in
    ⊎_elim
    (λ e. inr (subst (λ (v : ℕ). IsPast program t v) e (body_past program t t def (omega arith) m)))
    (λ more. inl (⊎_elim
    (λ a. in_vars program def.lits var (λ lit k. plain_body program t def lit ground m k) a)
    (λ b. said_by_head program t var w.instance.head (right_head program w.instance ground w.member) (subst (λ (d : BodyDef). In var (head_vars d.head)) (sym w.is) b))
    (In-append_cases var (lit_vars def.lits) (head_vars def.head) more)))
    i

said_by_node : (program : Ground) (t var : ℕ) (node : NodeRule) → IsGround program → In node (module_of program t).nodes → In var (node_vars node) → is_plain program var ≡ true
said_by_node program t var node ground m i =
    let w = node_of_state program t node m in
    let here : In var (node_vars (node_at program t w.0)) = subst (λ (k : NodeRule). In var (node_vars k)) (sym w.2) i in
    ⊎_elim
    (λ e. subst (λ (v : ℕ). is_plain program v ≡ true) e (plain_node program t w.0 w.1))
    (λ s. shape_plain program w.0 t var ground w.1 s)
    here

said_by_pair : (program : Ground) (t var : ℕ) (pair : ℕ × ℕ) → IsGround program → In pair (module_of program t).pairs → In var (pair_vars pair) → is_plain program var ≡ true
said_by_pair program t var pair ground m i =
    let p = plain_pair program t pair ground m in
    let of = λ (v : ℕ) (e : v ≡ var) (h : is_plain program v ≡ true). subst (λ (u : ℕ). is_plain program u ≡ true) e h in
    ⊎_elim (λ e. of pair.0 e p.0) (λ r. ⊎_elim (λ e. of pair.1 e p.1) (λ k. absurd k) r) i

-- what a module speaks of
said : (program : Ground) (t var : ℕ) → IsGround program → In var (module_vars (stated program t)) → IsSaid program t var
said program t var ground i =
    let step = stated program t in
    let last = flat_map pair_vars step.pairs ++ step.atoms in
    let nodes = flat_map node_vars step.nodes ++ last in
    let rules = flat_map rule_vars step.rules ++ nodes in
    ⊎_elim
    (λ a. let w = In-flat_map_from body_vars var step.bodies a in said_by_body program t var w.0 ground w.1 w.2)
    (λ r1. ⊎_elim
    (λ a. let w = In-flat_map_from rule_vars var step.rules a in said_by_rule program t var w.0 ground w.1 w.2)
    (λ r2. ⊎_elim
    (λ a. let w = In-flat_map_from node_vars var step.nodes a in inl (said_by_node program t var w.0 ground w.1 w.2))
    (λ r3. ⊎_elim
    (λ a. let w = In-flat_map_from pair_vars var step.pairs a in inl (said_by_pair program t var w.0 ground w.1 w.2))
    (λ a. inl (plain_head program t var (inl a)))
    (In-append_cases var (flat_map pair_vars step.pairs) step.atoms r3))
    (In-append_cases var (flat_map node_vars step.nodes) last r2))
    (In-append_cases var (flat_map rule_vars step.rules) nodes r1))
    (In-append_cases var (flat_map body_vars step.bodies) rules i)

-- an open variable is of the next state, and the module speaks of it
pub record IsOpen (program : Ground) (t var : ℕ) : Type 0 where
  pub place : ℕ
  pub within : place < width (counts_of program)
  pub is : (t + 1) * width (counts_of program) + place ≡ var
  pub inside : In var (module_vars (stated program t))

place_of : (low w var : ℕ) → low ≤ var → var < low + w → (low + (var - low) ≡ var) × (var - low < w)
place_of low w var l u = (omega (arith, l), omega (arith, l, u))

pub is_open : (program : Ground) (t var : ℕ) → In var (module_of program t).open_vars → IsOpen program t var
is_open program t var i =
    let w = width (counts_of program) in
    let low = (t + 1) * w in
    let vars = module_vars (stated program t) in
    let f = In-filter_from (λ (v : ℕ). occurs v vars) var (range_with_len low w) i in
    let r = range_cases w low var f.0 in
    let p = place_of low w var r.0 r.1 in
    let o = any_found (λ (other : ℕ). other == var) vars f.1 in
    record { place = var - low; within = p.1; is = p.0; inside = subst (λ (v : ℕ). In v vars) (eqb-true o.0 var o.2) o.1 }

-- so it is of no state up to this one
not_past : (program : Ground) (t var : ℕ) → IsOpen program t var → IsPast program t var → ⊥
not_past program t var o past =
    let l = past.upto in
    let e = one_state (width (counts_of program)) (t + 1) past.state o.place past.place o.within past.within (o.is ∙ sym past.is) in
    omega (arith, e, l)

pub plain_open : (program : Ground) (t var : ℕ) → IsGround program → In var (module_of program t).open_vars → is_plain program var ≡ true
plain_open program t var ground i =
    let o = is_open program t var i in
    ⊎_elim (λ h. h) (λ past. absurd (not_past program t var o past)) (said program t var ground o.inside)

head_past : (program : Ground) (t u var : ℕ) → u ≤ t → IsHead (module_of program u) var → IsPast program t var
head_past program t u var l h =
    ⊎_elim
    (λ i. let w = atom_at program u var i in let n = w.1 in record { state = u; place = w.0; upto = l; within = omega (arith, n); is = w.2 })
    (λ (k : (node : NodeRule) × In node (module_of program u).nodes × (node.var ≡ var)).
    let w = node_of_state program u k.0 k.1 in
    let n = w.1 in
    record { state = u; place = length program.atoms + w.0; upto = l; within = omega (arith, n); is = ap (λ (node : NodeRule). node.var) w.2 ∙ k.2 })
    h

-- ---- the laws

last_place : Ground → ℕ
last_place program = length program.atoms + length program.nodes + length program.instances

end_within : (program : Ground) → last_place program < width (counts_of program)
unfolding last_place
end_within program = omega arith

end_no_head : (program : Ground) (t u : ℕ) → IsHead (module_of program u) (end_at (counts_of program) t) → ⊥
unfolding last_place
end_no_head program t u h =
    let w = width (counts_of program) in
    ⊎_elim
    (λ i.
    let a = atom_at program u (end_at (counts_of program) t) i in
    let l = a.1 in
    let e = one_place w u t a.0 (last_place program) (omega (arith, l)) (end_within program) a.2 in
    omega (arith, e, l))
    (λ (k : (node : NodeRule) × In node (module_of program u).nodes × (node.var ≡ end_at (counts_of program) t)).
    let a = node_of_state program u k.0 k.1 in
    let l = a.1 in
    let e = one_place w u t (length program.atoms + a.0) (last_place program) (omega (arith, l)) (end_within program) (ap (λ (node : NodeRule). node.var) a.2 ∙ k.2) in
    omega (arith, e, l))
    h

-- the variable of a body isn't plain
body_not_plain : (program : Ground) (t : ℕ) (def : BodyDef) → In def (module_of program t).bodies → is_plain program def.var ≡ false
body_not_plain program t def m =
    let w = body_at_state program t def m in
    let l = w.within in
    let first = length program.atoms + length program.nodes in
    let place = first + w.number in
    let at = mod-mul-add t (width (counts_of program)) place (omega (arith, l)) in
    ap (is_plain program) (sym (ap (λ (d : BodyDef). d.var) w.is))
    ∙ ((λ i. nat_lt (at i) first || (at i == first + length program.instances))
    ∙ (λ i. le-ltb place first (omega arith) i || ne_eqb place (first + length program.instances) (λ e. absurd (omega (arith, e, l))) i))

one_body : (program : Ground) (t u : ℕ) (def other : BodyDef) → In def (module_of program t).bodies → In other (module_of program u).bodies → def.var ≡ other.var → def ≡ other
one_body program t u def other m k e =
    let counts = counts_of program in
    let a = body_at_state program t def m in
    let b = body_at_state program u other k in
    let l = a.within in
    let r = b.within in
    let first = length program.atoms + length program.nodes in
    let same = ap (λ (d : BodyDef). d.var) a.is ∙ (e ∙ ap (λ (d : BodyDef). d.var) (sym b.is)) in
    let state = one_state (width counts) t u (first + a.number) (first + b.number) (omega (arith, l)) (omega (arith, r)) same in
    let place = one_place (width counts) t u (first + a.number) (first + b.number) (omega (arith, l)) (omega (arith, r)) same in
    let number : a.number ≡ b.number = omega (arith, place) in
    let instance : a.instance ≡ b.instance = some_instance a.instance b.instance (sym a.here ∙ (ap (slice_get program.instances) number ∙ b.here)) in
    sym a.is ∙ ((λ i. body_of counts (state i) (number i) (instance i)) ∙ b.is)
  where
    or_first : Instance → Option Instance → Instance
    or_first d None = d
    or_first d (Some x) = x

    some_instance : (x y : Instance) → Some x ≡ Some y → x ≡ y
    some_instance x y h = ap (or_first x) h

pub templates_apart : TemplatesAreApart
unfolding last_place
templates_apart program n ground = record {
  bodies = λ t u l m def other i j e. one_body program t u def other i j e;
  ends = λ t u l m e. one_state (width (counts_of program)) t u (last_place program) (last_place program) (end_within program) (end_within program) e;
  end_heads = λ t u l m h. end_no_head program t u h;
  open_heads = λ t u l m var i h. not_past program t var (is_open program t var i) (head_past program t u var m h);
  open_ends = λ t u l m var i e. not_past program t var (is_open program t var i) (record { state = u; place = last_place program; upto = m; within = end_within program; is = e });
}

pub templates_plain : TemplatesArePlain
templates_plain program n ground = record {
  no_body = λ t l def m. body_not_plain program t def m;
  heads = λ t l var h. plain_head program t var h;
  ends = λ t l. plain_end program t;
  opens = λ t l var i. plain_open program t var ground i;
  bodies = λ t l def lit m i. plain_body program t def lit ground m i;
  shapes = λ t l node lits lit m i j. plain_node_lits program t node lits lit ground m i j;
  pairs = λ t l pair i. plain_pair program t pair ground i;
}
