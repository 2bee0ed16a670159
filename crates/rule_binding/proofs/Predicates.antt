-- Predicates that are one, and what is known of a predicate from all statements.
use Rattle.std.proofs.Common.{◌≡◌, ℕ, Bool, true, false, not, ◌&&◌, ◌||◌, cond, List, [], ◌∷◌, map, Option, Some, None, refl, sym, ap, subst, ◌∙◌, true≢false, inl, inr}
use Rattle.std.specs.Prelude.{bytes_eq, if◌then◌else◌, ◌==◌}
use Rattle.std.specs.List.{list_all, list_any}
use Rattle.std.proofs.lemmas.Bool.{and_parts, and_from, cases_Bool, false_from_ne_true, eqb-true, eq-eqb}
use Rattle.std.proofs.lemmas.Slice.Eq.{bytes_eq-Decides}
use Rattle.indexmap.specs.IndexMap.{IndexMap, get, Updates}
use Rattle.tel_rule.specs.declared.statements.Arg.{Arg}
use Rattle.tel_rule.specs.declared.statements.Fact.{Fact}
use Rattle.tel_rule.specs.declared.statements.Signature.{Signature}
use Rattle.tel_rule.specs.declared.statements.Kind.{Kind}
use Rattle.tel_rule.specs.declared.statements.Kind.TheVariants as kinds
use Rattle.tel_rule.specs.declared.statements.Statement.{Statement}
use Rattle.rule_binding.specs.declared.tables.Form.{Form}
use Rattle.rule_binding.specs.contracts.tables.FormPartialEq.TheImpl.{eq-value}
use Rattle.tel_semantics.specs.Tables.{same_predicate, tuple_predicate, head_predicates, has_head, is_fact, is_unprimed_fact, gives_rows, is_table}
use Rattle.rule_binding.specs.Heads.{or_true, or_false, noted, all_noted, known_of, form_of, tuple_form, same_form, form_noted, forms_noted, form_said, forms_said, said}

-- ---- predicates that are one

same_sign : (x y : Bool) → (if x then y else not y) ≡ true → x ≡ y
same_sign true true h = refl
same_sign true false h = absurd (true≢false (sym h))
same_sign false true h = absurd (true≢false (sym h))
same_sign false false h = refl

self_sign : (x : Bool) → (if x then x else not x) ≡ true
self_sign true = refl
self_sign false = refl

-- what `==` answers
pub derived_eq : (a b : Form) → eq-value.it a b ≡ same_form a b
derived_eq a b = by a.negative b.negative
  where
    by : (x y : Bool) → eq-value.it (record { negative = x; arity = a.arity }) (record { negative = y; arity = b.arity }) ≡ same_form (record { negative = x; arity = a.arity }) (record { negative = y; arity = b.arity })
    by true true = refl
    by true false = refl
    by false true = refl
    by false false = refl

pub one_form : (a b : Form) → same_form a b ≡ true → a ≡ b
one_form a b h =
    let both = and_parts (if a.negative then b.negative else not b.negative) (a.arity == b.arity) h in
    let sign = same_sign a.negative b.negative both.0 in
    let arity = eqb-true a.arity b.arity both.1 in
    λ i. record { negative = sign i; arity = arity i }

pub itself : (a : Form) → same_form a a ≡ true
itself a = and_from (if a.negative then a.negative else not a.negative) (a.arity == a.arity) (self_sign a.negative) (eq-eqb a.arity a.arity refl)

same_both : (a b : Form) → same_form a b ≡ same_form b a
same_both a b = elim (cases_Bool (same_form a b)) [
  | inl is ↦ is ∙ sym (subst (λ (x : Form). same_form x a ≡ true) (one_form a b is) (itself a))
  | inr isnt ↦ isnt ∙ sym (false_from_ne_true (same_form b a) (λ h. true≢false (sym (subst (λ (x : Form). same_form x b ≡ true) (one_form b a h) (itself b)) ∙ isnt)))
]

same_bytes : (a b : List ℕ) → bytes_eq a b ≡ bytes_eq b a
same_bytes a b = elim (cases_Bool (bytes_eq a b)) [
  | inl is ↦ is ∙ sym ((bytes_eq-Decides b a).1 (sym ((bytes_eq-Decides a b).0 is)))
  | inr isnt ↦ isnt ∙ sym (false_from_ne_true (bytes_eq b a) (λ h. true≢false (sym ((bytes_eq-Decides a b).1 (sym ((bytes_eq-Decides b a).0 h))) ∙ isnt)))
]

-- ---- a head more

module _ {S : Type 0} where
  pub noted-by : (old new : IndexMap Form Bool S) (head : Form) (rows all : Bool) → all ≡ (rows && or_true (form_said old head)) → Updates same_form old new head (Some all) → (form : Form) → form_said new form ≡ form_noted rows head form (form_said old form)
  noted-by old new head rows all is u form = elim (cases_Bool (same_form head form)) [
    | inl same ↦
        let e : head ≡ form = one_form head form same in
        let back : same_form form head ≡ true = same_both form head ∙ same in
        u.0 form ∙ ap (λ (b : Bool). cond b (Some all) (form_said old form)) same
        ∙ ap Some (is ∙ ap (λ (x : Form). rows && or_true (form_said old x)) e)
        ∙ sym (ap (λ (b : Bool). if b then Some (rows && or_true (form_said old form)) else form_said old form) back)
    | inr isnt ↦
        let back : same_form form head ≡ false = same_both form head ∙ isnt in
        u.0 form ∙ ap (λ (b : Bool). cond b (Some all) (form_said old form)) isnt
        ∙ sym (ap (λ (b : Bool). if b then Some (rows && or_true (form_said old form)) else form_said old form) back)
  ]

-- ---- the predicates of a name

-- the predicate with this name
abbrev pub named : List ℕ → Form → Signature
named name form = record { negative = form.negative; name = name; arity = form.arity }

-- a predicate of this name is one of these where its form is
same_name : (rows : Bool) (name : List ℕ) (heads : List Form) (predicate : Signature) (known : Option Bool) → bytes_eq predicate.name name ≡ true → forms_noted rows heads (form_of predicate) known ≡ all_noted rows (map (named name) heads) predicate known
same_name rows name [] predicate known is = refl
same_name rows name (head ∷ more) predicate known is =
    let test : same_form (form_of predicate) head ≡ same_predicate predicate (named name head) =
    ap (λ (b : Bool). (if predicate.negative then head.negative else not head.negative) && (b && (predicate.arity == head.arity))) (sym is) in
    ap (λ (b : Bool). forms_noted rows more (form_of predicate) (if b then Some (rows && or_true known) else known)) test
    ∙ same_name rows name more predicate (noted rows (named name head) predicate known) is

and_false : (b : Bool) → (b && false) ≡ false
and_false true = refl
and_false false = refl

-- a predicate of another name is none of these
other_name : (rows : Bool) (name : List ℕ) (heads : List Form) (predicate : Signature) (known : Option Bool) → bytes_eq predicate.name name ≡ false → all_noted rows (map (named name) heads) predicate known ≡ known
other_name rows name [] predicate known isnt = refl
other_name rows name (head ∷ more) predicate known isnt =
    let sign = if predicate.negative then head.negative else not head.negative in
    let test : same_predicate predicate (named name head) ≡ false =
    ap (λ (b : Bool). (if predicate.negative then head.negative else not head.negative) && (b && (predicate.arity == head.arity))) isnt ∙ and_false sign in
    ap (λ (b : Bool). all_noted rows (map (named name) more) predicate (if b then Some (rows && or_true known) else known)) test
    ∙ other_name rows name more predicate known isnt

module _ {S T : Type 0} where
  -- what is known of a name is taken away, made more and put back
  pub passed : (old mid new : IndexMap (List ℕ) (IndexMap Form Bool S) T) (name : List ℕ) (before after : IndexMap Form Bool S) (rows : Bool) (heads : List Form) → ((form : Form) → form_said before form ≡ forms_said (get bytes_eq old name) form) → ((other : List ℕ) → bytes_eq name other ≡ false → get bytes_eq mid other ≡ get bytes_eq old other) → ((form : Form) → form_said after form ≡ forms_noted rows heads form (form_said before form)) → ((other : List ℕ) → get bytes_eq new other ≡ (if bytes_eq name other then Some after else get bytes_eq mid other)) → (predicate : Signature) → said new predicate ≡ all_noted rows (map (named name) heads) predicate (said old predicate)
  passed old mid new name before after rows heads taken others made put predicate = elim (cases_Bool (bytes_eq name predicate.name)) [
    | inl is ↦
        let e : name ≡ predicate.name = (bytes_eq-Decides name predicate.name).0 is in
        let form = form_of predicate in
        let there : get bytes_eq new predicate.name ≡ Some after = put predicate.name ∙ ap (λ (b : Bool). if b then Some after else get bytes_eq mid predicate.name) is in
        ap (λ (forms : Option (IndexMap Form Bool S)). forms_said forms form) there
        ∙ made form
        ∙ ap (λ (known : Option Bool). forms_noted rows heads form known) (taken form ∙ ap (λ (n : List ℕ). forms_said (get bytes_eq old n) form) e)
        ∙ same_name rows name heads predicate (said old predicate) (same_bytes predicate.name name ∙ is)
    | inr isnt ↦
        let there : get bytes_eq new predicate.name ≡ get bytes_eq old predicate.name = put predicate.name ∙ ap (λ (b : Bool). if b then Some after else get bytes_eq mid predicate.name) isnt ∙ others predicate.name isnt in
        ap (λ (forms : Option (IndexMap Form Bool S)). forms_said forms (form_of predicate)) there
        ∙ sym (other_name rows name heads predicate (said old predicate) (same_bytes predicate.name name ∙ isnt))
  ]

-- the predicates of a fact have its name
pub tuples_named : (fact : Fact) (tuples : List (List Arg)) → map (named fact.name) (map (tuple_form fact.negative) tuples) ≡ map (tuple_predicate fact) tuples
tuples_named fact [] = refl
tuples_named fact (tuple ∷ more) = ap (λ (heads : List Signature). tuple_predicate fact tuple ∷ heads) (tuples_named fact more)

-- ---- all heads

again : (rows known : Bool) → (rows && (rows && known)) ≡ (rows && known)
again true known = refl
again false known = refl

-- heads of one statement: whether the predicate is among them is what counts
pub all_noted-is : (rows : Bool) (heads : List Signature) (predicate : Signature) (known : Option Bool) → all_noted rows heads predicate known ≡ (if list_any (same_predicate predicate) heads then Some (rows && or_true known) else known)
all_noted-is rows [] predicate known = refl
all_noted-is rows (head ∷ more) predicate known = by (all_noted-is rows more predicate) (same_predicate predicate head)
  where
    found : (b : Bool) → (if b then Some (rows && (rows && or_true known)) else Some (rows && or_true known)) ≡ Some (rows && or_true known)
    found true = ap Some (again rows (or_true known))
    found false = refl

    by : ((k : Option Bool) → all_noted rows more predicate k ≡ (if list_any (same_predicate predicate) more then Some (rows && or_true k) else k)) → (b : Bool) → all_noted rows more predicate (if b then Some (rows && or_true known) else known) ≡ (if b || list_any (same_predicate predicate) more then Some (rows && or_true known) else known)
    by rest true = rest (Some (rows && or_true known)) ∙ found (list_any (same_predicate predicate) more)
    by rest false = rest known

abbrev rows_stay : List Statement → Signature → Bool
rows_stay statements predicate = list_all (λ (statement : Statement). not (has_head predicate statement) || gives_rows statement) statements

abbrev is_stated : List Statement → Signature → Bool
is_stated statements predicate = list_any (λ (statement : Statement). is_fact statement.kind && has_head predicate statement) statements

swapped : (g b all : Bool) → ((g && b) && all) ≡ (b && (g && all))
swapped true b all = refl
swapped false true all = refl
swapped false false all = refl

known-some : (statements : List Statement) (predicate : Signature) (b : Bool) → or_false (known_of statements predicate (Some b)) ≡ (b && rows_stay statements predicate)
known-some [] predicate true = refl
known-some [] predicate false = refl
known-some (statement ∷ more) predicate b =
    ap (λ (k : Option Bool). or_false (known_of more predicate k)) (all_noted-is (gives_rows statement) (head_predicates statement.kind) predicate (Some b))
    ∙ by (known-some more predicate) (has_head predicate statement)
  where
    by : ((c : Bool) → or_false (known_of more predicate (Some c)) ≡ (c && rows_stay more predicate)) → (h : Bool) → or_false (known_of more predicate (if h then Some (gives_rows statement && b) else Some b)) ≡ (b && ((not h || gives_rows statement) && rows_stay more predicate))
    by rest true = rest (gives_rows statement && b) ∙ swapped (gives_rows statement) b (rows_stay more predicate)
    by rest false = rest b

-- what gives rows is a fact
kind_fact : (kind : Kind) (rest : Bool) → (is_unprimed_fact kind && rest) ≡ true → is_fact kind ≡ true
kind_fact (kinds.Facts fact) rest h = refl
kind_fact (kinds.Rule head body) rest h = absurd (true≢false (sym h))
kind_fact (kinds.Const name value) rest h = absurd (true≢false (sym h))
kind_fact (kinds.Show shown) rest h = absurd (true≢false (sym h))

first_head : (f g stated all : Bool) → (g ≡ true → f ≡ true) → ((g && true) && all) ≡ (((f && true) || stated) && (g && all))
first_head f true stated all is = ap (λ (x : Bool). ((x && true) || stated) && all) (sym (is refl))
first_head true false stated all is = refl
first_head false false true all is = refl
first_head false false false all is = refl

no_head : (f stated all : Bool) → (stated && all) ≡ (((f && false) || stated) && all)
no_head true stated all = refl
no_head false stated all = refl

-- what is known of a predicate in the end is whether it is a table
pub known-none : (statements : List Statement) (predicate : Signature) → or_false (known_of statements predicate None) ≡ is_table statements predicate
known-none [] predicate = refl
known-none (statement ∷ more) predicate =
    ap (λ (k : Option Bool). or_false (known_of more predicate k)) (all_noted-is (gives_rows statement) (head_predicates statement.kind) predicate None)
    ∙ by (known-none more predicate) (has_head predicate statement)
  where
    by : or_false (known_of more predicate None) ≡ (is_stated more predicate && rows_stay more predicate) → (h : Bool) → or_false (known_of more predicate (if h then Some (gives_rows statement && true) else None)) ≡ (((is_fact statement.kind && h) || is_stated more predicate) && ((not h || gives_rows statement) && rows_stay more predicate))
    by rest true = known-some more predicate (gives_rows statement && true) ∙ first_head (is_fact statement.kind) (gives_rows statement) (is_stated more predicate) (rows_stay more predicate) (kind_fact statement.kind _)
    by rest false = rest ∙ no_head (is_fact statement.kind) (is_stated more predicate) (rows_stay more predicate)
