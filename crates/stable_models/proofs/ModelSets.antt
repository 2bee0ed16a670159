-- From models to closed sets, and back.
use Rattle.std.proofs.Common.{◌≡◌, ℕ, ◌+◌, ◌-◌, ◌<◌, Bool, true, false, not, ◌&&◌, ◌||◌, List, [], ◌∷◌, length, refl, sym, ap, subst, inl, ◌∙◌, arith}
use Rattle.std.specs.Prelude.{Option, Some, None, is_some, nat_lt}
use Rattle.std.specs.List.{list_all}
use Rattle.std.proofs.lemmas.Bool.{and_parts, and_from, lt-ltb, ltb-true, false≢true, false_from_ne_true}
use Rattle.std.proofs.lemmas.List.Folds.{list_all-append}
use Rattle.tel_rule.specs.declared.ground.Instance.{Instance}
use Rattle.tel_rule.specs.declared.ground.GroundHead.{GroundHead}
use Rattle.tel_rule.specs.declared.ground.GroundHead.TheVariants as heads
use Rattle.tel_rule.specs.Ground.{Ground, IsGround, head_in_range, literal_in_range, instance_in_range}
use Rattle.tel_semantics.specs.Traces.{Test, IsBelow}
use Rattle.tel_semantics.specs.Satisfaction.{sat}
use Rattle.tel_semantics.specs.Theory.{body_formula, head_formula}
use Rattle.tel_semantics.specs.Laws.{MeetsAll}
use Rattle.tel_base.proofs.Members.{In, In-list_all, list_all-from_In, Contains-from_In, any_found, any_from}
use Rattle.tel_base.specs.declared.literals.Lit.{Lit}
use Rattle.normal_program.specs.declared.rules.NRule.{NRule}
use Rattle.atom_space.specs.Numbers.{Counts, visible, part, body_at, end_at}
use Rattle.normal_program.specs.StableSets.{Set, lit_holds, lits_hold, body_holds, keeps, is_closed}
use Rattle.normal_program.specs.Shapes.{shape_bodies, node_rule}
use Rattle.tel_base.specs.Literals.{lit_of}
use Rattle.formula_unfold.specs.Nodes.{counts_of, shape_at}
use Rattle.stable_models.specs.Values.{full}
use Rattle.step_module.specs.Bodies.{stands, body_lits}
use Rattle.step_module.specs.Rules.{instance_rule, head_rules, next_rules}
use Rattle.stable_models.specs.Programs.{end_fact}
use Rattle.stable_models.proofs.ProgramRules.{program_rules}
use Rattle.stable_models.proofs.Numbering.{full-visible, full-end}
use Rattle.stable_models.proofs.Parts.{NodesClosed, full_closed}
use Rattle.completion.proofs.Sets.{lits-body, kept, keeps-from}
use Rattle.stable_models.proofs.RuleCases.{Fact, Now, OfPart, NowIs, NextIs, now_is, next_is, rule_cases, some_same, in_part, in_now, in_next, in_if, Next as Later}
use Rattle.stable_models.proofs.Bodies.{instance_to, not_true}

-- ---- a model's values are closed

-- the instance in its ranges
pub right_instance : (program : Ground) (instance : Instance) → IsGround program → In instance program.instances → (head_in_range (length program.atoms) instance.head ≡ true) × (list_all (literal_in_range (length program.atoms) (length program.nodes)) instance.body ≡ true)
right_instance program instance ground member =
    and_parts (head_in_range (length program.atoms) instance.head) (list_all (literal_in_range (length program.atoms) (length program.nodes)) instance.body)
    (In-list_all (instance_in_range (length program.atoms) (length program.nodes)) instance program.instances ground.in_range member)

-- what a body demands of its head
arrow_gives : (a b a2 b2 : Bool) → ((not a || b) && (not a2 || b2)) ≡ true → a ≡ true → b ≡ true
arrow_gives true true a2 b2 h t = refl
arrow_gives true false a2 b2 h t = absurd (false≢true h)
arrow_gives false b a2 b2 h t = absurd (false≢true t)

pub head_holds : (program : Ground) (n : ℕ) (H T : Test) (k : ℕ) (instance : Instance) → IsGround program → IsBelow n (length program.atoms) H T → MeetsAll program n H T → In instance program.instances → k < n → stands k instance ≡ true → lits_hold (full program n H T) (full program n T T) (body_lits (counts_of program) k instance) ≡ true → sat (head_formula instance.head) n H T k ≡ true
head_holds program n H T k instance ground below meets member l stand h =
    let w = instance_to program n H T k instance ground below l (right_instance program instance ground member).1 stand h in
    let body = body_formula program.nodes instance.body in
    let head = head_formula instance.head in
    arrow_gives (sat body n H T k) (sat head n H T k) (sat body n T T k) (sat head n T T k) (meets.instances instance (Contains-from_In program.instances instance member) k l w.0) w.1

pub none_some : (v : ℕ) (o : Option ℕ) → o ≡ None → o ≡ Some v → ⊥
none_some v o e f = false≢true (ap is_some (sym e ∙ f))

-- a derived atom of (H, T) at its variable
pub atom_there : (program : Ground) (n : ℕ) (H T : Test) (a k v : ℕ) → a < length program.atoms → k < n → visible (counts_of program) a k ≡ v → H k a ≡ true → full program n H T v ≡ true
atom_there program n H T a k v within l same h =
    ap (full program n H T) (sym same) ∙ full-visible program n H T a k within ∙ (λ i. lt-ltb k n l i && H k a) ∙ h

pub there_atom : (program : Ground) (n : ℕ) (H T : Test) (a k v : ℕ) → a < length program.atoms → k < n → visible (counts_of program) a k ≡ v → full program n H T v ≡ true → H k a ≡ true
there_atom program n H T a k v within l same h =
    sym (full-visible program n H T a k within ∙ (λ i. lt-ltb k n l i && H k a)) ∙ ap (full program n H T) same ∙ h

-- of p or not p, p where it holds in T
pub chosen : (a b : Bool) → (a || ((not a || false) && (not b || false))) ≡ true → b ≡ true → a ≡ true
chosen true b h t = refl
chosen false true h t = h
chosen false false h t = t

now_closed : (program : Ground) (n : ℕ) (H T : Test) (t v : ℕ) (rule : NRule) (lits : List Lit) (head : GroundHead) → t < n → head_in_range (length program.atoms) head ≡ true → NowIs (counts_of program) t (full program n H T) (full program n T T) rule lits head → rule.head ≡ Some v → (rule.choice ≡ true → full program n T T v ≡ true) → sat (head_formula head) n H T t ≡ true → full program n H T v ≡ true
now_closed program n H T t v rule lits (heads.Normal a true) l right now is choice h = absurd (none_some v rule.head now.head_is is)
now_closed program n H T t v rule lits (heads.Normal a false) l right now is choice h =
    atom_there program n H T a t v (ltb-true a (length program.atoms) right) l (some_same (visible (counts_of program) a t) v (sym now.head_is ∙ is)) h
now_closed program n H T t v rule lits (heads.Choice a true) l right now is choice h = absurd now
now_closed program n H T t v rule lits (heads.Choice a false) l right now is choice h =
    let same = some_same (visible (counts_of program) a t) v (sym now.head_is ∙ is) in
    let within = ltb-true a (length program.atoms) right in
    atom_there program n H T a t v within l same (chosen (H t a) (T t a) h (there_atom program n T T a t v within l same (choice now.choice_is)))
now_closed program n H T t v rule lits heads.None l right now is choice h = absurd (none_some v rule.head now.head_is is)

next_closed : (program : Ground) (n : ℕ) (H T : Test) (t v : ℕ) (rule : NRule) (lits : List Lit) (head : GroundHead) → (t + 1) < n → head_in_range (length program.atoms) head ≡ true → NextIs (counts_of program) t (full program n H T) (full program n T T) rule lits head → rule.head ≡ Some v → (rule.choice ≡ true → full program n T T v ≡ true) → sat (head_formula head) n H T t ≡ true → full program n H T v ≡ true
next_closed program n H T t v rule lits (heads.Normal a false) l right now is choice h = absurd now
next_closed program n H T t v rule lits (heads.Normal a true) l right now is choice h =
    atom_there program n H T a (t + 1) v (ltb-true a (length program.atoms) right) l (some_same (visible (counts_of program) a (t + 1)) v (sym now.head_is ∙ is)) (and_parts (nat_lt (t + 1) n) (H (t + 1) a) h).1
next_closed program n H T t v rule lits (heads.Choice a false) l right now is choice h = absurd now
next_closed program n H T t v rule lits (heads.Choice a true) l right now is choice h =
    let same = some_same (visible (counts_of program) a (t + 1)) v (sym now.head_is ∙ is) in
    let within = ltb-true a (length program.atoms) right in
    let there = there_atom program n T T a (t + 1) v within l same (choice now.choice_is) in
    let d = chosen (nat_lt (t + 1) n && H (t + 1) a) (nat_lt (t + 1) n && T (t + 1) a) h (and_from (nat_lt (t + 1) n) (T (t + 1) a) (lt-ltb (t + 1) n l) there) in
    atom_there program n H T a (t + 1) v within l same (and_parts (nat_lt (t + 1) n) (H (t + 1) a) d).1
next_closed program n H T t v rule lits heads.None l right now is choice h = absurd now

-- a rule with a head has the body of its instance
now_body : (counts : Counts) (t v : ℕ) (X S : Set) (rule : NRule) (lits : List Lit) (head : GroundHead) → NowIs counts t X S rule lits head → rule.head ≡ Some v → body_holds X S rule ≡ true → lits_hold X S lits ≡ true
now_body counts t v X S rule lits (heads.Normal a true) now is h = absurd (none_some v rule.head now.head_is is)
now_body counts t v X S rule lits (heads.Normal a false) now is h = sym now.body_is ∙ h
now_body counts t v X S rule lits (heads.Choice a true) now is h = absurd now
now_body counts t v X S rule lits (heads.Choice a false) now is h = sym now.body_is ∙ h
now_body counts t v X S rule lits heads.None now is h = sym now.body_is ∙ h

next_body : (counts : Counts) (t : ℕ) (X S : Set) (rule : NRule) (lits : List Lit) (head : GroundHead) → NextIs counts t X S rule lits head → body_holds X S rule ≡ true → lits_hold X S lits ≡ true
next_body counts t X S rule lits (heads.Normal a true) now h = sym now.body_is ∙ h
next_body counts t X S rule lits (heads.Normal a false) now h = absurd now
next_body counts t X S rule lits (heads.Choice a true) now h = sym now.body_is ∙ h
next_body counts t X S rule lits (heads.Choice a false) now h = absurd now
next_body counts t X S rule lits heads.None now h = absurd now

-- a rule of a next module has a head
pub next_head : (counts : Counts) (t : ℕ) (X S : Set) (rule : NRule) (lits : List Lit) (head : GroundHead) → NextIs counts t X S rule lits head → rule.head ≡ None → ⊥
next_head counts t X S rule lits (heads.Normal a true) now is = none_some (visible counts a (t + 1)) rule.head is now.head_is
next_head counts t X S rule lits (heads.Normal a false) now is = now
next_head counts t X S rule lits (heads.Choice a true) now is = none_some (visible counts a (t + 1)) rule.head is now.head_is
next_head counts t X S rule lits (heads.Choice a false) now is = now
next_head counts t X S rule lits heads.None now is = now

-- a constraint is one of a constraint's instance, or of a head that is derived at the next state, at the end
pub now_none : (program : Ground) (n : ℕ) (T : Test) (t : ℕ) (rule : NRule) (lits : List Lit) (head : GroundHead) → t < n → NowIs (counts_of program) t (full program n T T) (full program n T T) rule lits head → rule.head ≡ None → body_holds (full program n T T) (full program n T T) rule ≡ true → (lits_hold (full program n T T) (full program n T T) lits ≡ true) × (sat (head_formula head) n T T t ≡ false)
now_none program n T t rule lits (heads.Normal a true) l now is h =
    let S : Set = full program n T T in
    let e = end_at (counts_of program) t in
    let p = and_parts (lits_hold S S lits) (S e && true) (sym (list_all-append (lit_holds S S) lits (lit_of e ∷ [])) ∙ sym now.body_is ∙ h) in
    let last = not_true (nat_lt (t + 1) n) (sym (full-end program n T T t l) ∙ (and_parts (S e) true p.1).0) in
    (p.0, λ i. last i && T (t + 1) a)
now_none program n T t rule lits (heads.Normal a false) l now is h = absurd (none_some (visible (counts_of program) a t) rule.head is now.head_is)
now_none program n T t rule lits (heads.Choice a true) l now is h = absurd now
now_none program n T t rule lits (heads.Choice a false) l now is h = absurd (none_some (visible (counts_of program) a t) rule.head is now.head_is)
now_none program n T t rule lits heads.None l now is h = (sym now.body_is ∙ h, refl)

pub end_there : (program : Ground) (n : ℕ) (H T : Test) → 0 < n → full program n H T (end_at (counts_of program) (n - 1)) ≡ true
end_there program n H T some =
    full-end program n H T (n - 1) (omega (arith, some)) ∙ ap not (false_from_ne_true (nat_lt (n - 1 + 1) n) (λ t. absurd (omega (arith, some, ltb-true (n - 1 + 1) n t))))

-- the values of a model are closed under the program, in the reduct by those of (T, T)
pub model_closed : (program : Ground) (n : ℕ) (H T : Test) → IsGround program → 0 < n → IsBelow n (length program.atoms) H T → MeetsAll program n H T → is_closed (program_rules program n) (full program n T T) (full program n H T) ≡ true
model_closed program n H T ground some below meets =
    let counts = counts_of program in
    let F : Set = full program n H T in
    let S : Set = full program n T T in
    list_all-from_In (keeps S F) (program_rules program n) (λ rule found. keeps-from S F rule (λ v is choice body.
    elim (rule_cases program n rule found) as (λ _. F v ≡ true) [
      | Fact e ↦ subst (λ (u : ℕ). F u ≡ true) (some_same (end_at counts (n - 1)) v (ap (λ (r : NRule). r.head) e ∙ is)) (end_there program n H T some)
      | Now t l from ↦
          let w = now_is counts t from.number F S rule from.instance from.made in
          let lits = body_lits counts t from.instance in
          let holds = head_holds program n H T t from.instance ground below meets from.member l w.0 (now_body counts t v F S rule lits from.instance.head w.1 is body) in
          now_closed program n H T t v rule lits from.instance.head l (right_instance program from.instance ground from.member).0 w.1 is choice holds
      | Later t l from ↦
          let w = next_is counts t from.number F S rule from.instance from.made in
          let lits = body_lits counts t from.instance in
          let holds = head_holds program n H T t from.instance ground below meets from.member (omega (arith, l)) w.0 (next_body counts t F S rule lits from.instance.head w.1 body) in
          next_closed program n H T t v rule lits from.instance.head l (right_instance program from.instance ground from.member).0 w.1 is choice holds
      | OfPart t l from ↦
          let x = from.node in
          let lits = from.lits in
          let same = some_same (part counts x t) v (ap (λ (r : NRule). r.head) from.is ∙ is) in
          let holds : lits_hold F S lits ≡ true = sym (lits-body F S lits) ∙ ap (body_holds F S) from.is ∙ body in
          subst (λ (u : ℕ). F u ≡ true) same (full_closed program n H T ground below x t from.within l (any_from (lits_hold F S) (shape_bodies (shape_at program x t)) lits from.body holds))
    ]))

-- ---- what a closed set gives

pub nodes_closed : (program : Ground) (n : ℕ) (S X : Set) → is_closed (program_rules program n) S X ≡ true → NodesClosed program n S X
nodes_closed program n S X closed x t within l h =
    let w = any_found (lits_hold X S) (shape_bodies (shape_at program x t)) h in
    let rule = node_rule (part (counts_of program) x t) w.0 in
    kept (program_rules program n) S X rule (part (counts_of program) x t) closed (in_part program n t x w.0 l within w.1) refl (λ c. absurd (false≢true c)) (lits-body X S w.0 ∙ w.2)

pub has_end : (program : Ground) (n : ℕ) (S X : Set) → is_closed (program_rules program n) S X ≡ true → X (end_at (counts_of program) (n - 1)) ≡ true
has_end program n S X closed =
    kept (program_rules program n) S X (end_fact program (n - 1)) (end_at (counts_of program) (n - 1)) closed (inl refl) refl (λ c. absurd (false≢true c)) refl

-- the heads of an instance's rules, where its body holds
pub rule_now : (program : Ground) (n : ℕ) (S X : Set) (t a : ℕ) (choice : Bool) (instance : Instance) → is_closed (program_rules program n) S X ≡ true → In instance program.instances → t < n → stands t instance ≡ true → lits_hold X S (body_lits (counts_of program) t instance) ≡ true → (choice ≡ true → S (visible (counts_of program) a t) ≡ true) → ((body : ℕ) → In (instance_rule (Some (visible (counts_of program) a t)) choice (body_lits (counts_of program) t instance) body) (head_rules (counts_of program) t instance.head (body_lits (counts_of program) t instance) body)) → X (visible (counts_of program) a t) ≡ true
rule_now program n S X t a choice instance closed member l stand h chooses there =
    let counts = counts_of program in
    let lits = body_lits counts t instance in
    let w = in_now program n t instance l member in
    let body = body_at counts w.0 t in
    let rule = instance_rule (Some (visible counts a t)) choice lits body in
    let found = w.1 rule (in_if (stands t instance) (head_rules counts t instance.head lits body) rule stand (there body)) in
    kept (program_rules program n) S X rule (visible counts a t) closed found refl chooses (lits-body X S lits ∙ h)

pub rule_next : (program : Ground) (n : ℕ) (S X : Set) (t a : ℕ) (choice : Bool) (instance : Instance) → is_closed (program_rules program n) S X ≡ true → In instance program.instances → (t + 1) < n → stands t instance ≡ true → lits_hold X S (body_lits (counts_of program) t instance) ≡ true → (choice ≡ true → S (visible (counts_of program) a (t + 1)) ≡ true) → ((body : ℕ) → In (instance_rule (Some (visible (counts_of program) a (t + 1))) choice (body_lits (counts_of program) t instance) body) (next_rules (counts_of program) t instance.head (body_lits (counts_of program) t instance) body)) → X (visible (counts_of program) a (t + 1)) ≡ true
rule_next program n S X t a choice instance closed member l stand h chooses there =
    let counts = counts_of program in
    let lits = body_lits counts t instance in
    let w = in_next program n t instance l member in
    let body = body_at counts w.0 t in
    let rule = instance_rule (Some (visible counts a (t + 1))) choice lits body in
    let found = w.1 rule (in_if (stands t instance) (next_rules counts t instance.head lits body) rule stand (there body)) in
    kept (program_rules program n) S X rule (visible counts a (t + 1)) closed found refl chooses (lits-body X S lits ∙ h)
