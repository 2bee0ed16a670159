-- The least set that keeps the rules of a body has what the body binds.
use Rattle.std.proofs.Common.{◌≡◌, ℕ, Bool, true, false, ◌&&◌, ◌||◌, List, [], ◌∷◌, ◌++◌, length, Option, Some, None, refl, sym, ap, subst, ◌∙◌, true≢false, inl, inr, arith, IsTrue}
use Rattle.std.specs.Prelude.{if◌then◌else◌}
use Rattle.std.specs.List.{list_all, flat_map}
use Rattle.std.proofs.lemmas.Bool.{and_parts, and_from, cases_lt}
use Rattle.std.proofs.lemmas.List.Folds.{list_all-append}
use Rattle.std.proofs.lemmas.Grind.{flat_map-append}
use Rattle.tel_term.specs.declared.exprs.Expr.{Expr}
use Rattle.tel_rule.specs.declared.statements.LitItem.{LitItem}
use Rattle.tel_rule.specs.declared.statements.LitItem.TheVariants as items
use Rattle.tel_rule.specs.declared.statements.Literal.{Literal}
use Rattle.tel_rule.specs.declared.statements.Signature.{Signature}
use Rattle.tel_rule.specs.declared.statements.Statement.{Statement}
use Rattle.rule_binding.specs.declared.rules.BindingRule.{BindingRule}
use Rattle.rule_binding.specs.Binding.{Vars, has, whole_var, one_var, is_table_atom, whole_args, item_row_vars, row_vars, item_equations, equations_of, Setting, AreSettings, bound_by, body_of, IsFirstMissing, IsFirstUnbound}
use Rattle.rule_binding.specs.Closure.{keeps_rule, keeps, IsLeast}
use Rattle.rule_binding.specs.Rules.{free_rules, args_rules, item_rules, equation_rules, body_rules}
use Rattle.rule_binding.proofs.Marks.{all_more}
use Rattle.rule_binding.proofs.Settings.{closed, all_of_has, all-has, sound, end_closed, stays_bound, some_order, exist, one_list, both_ways}

one_kept : (X : Vars) (whole : Option ℕ) → keeps X (free_rules whole) ≡ list_all X (one_var whole)
one_kept X None = refl
one_kept X (Some v) = by (X v)
  where
    by : (b : Bool) → ((b || false) && true) ≡ (b && true)
    by true = refl
    by false = refl

args_kept : (X : Vars) (args : List Expr) → keeps X (args_rules args) ≡ list_all X (whole_args args)
args_kept X [] = refl
args_kept X (arg ∷ more) =
    list_all-append (keeps_rule X) (free_rules (whole_var arg)) (args_rules more)
    ∙ ap (λ (b : Bool). b && keeps X (args_rules more)) (one_kept X (whole_var arg))
    ∙ ap (λ (b : Bool). list_all X (one_var (whole_var arg)) && b) (args_kept X more)
    ∙ sym (list_all-append X (one_var (whole_var arg)) (whole_args more))

and_true : (b : Bool) → b ≡ (b && true)
and_true true = refl
and_true false = refl

item_kept : (X : Vars) (tables : Signature → Bool) (nots : ℕ) (item : LitItem) → keeps X (item_rules tables nots item) ≡ (list_all X (item_row_vars tables nots item) && closed X (item_equations item))
item_kept X tables nots (items.Atom atom) = by (is_table_atom tables nots atom)
  where
    by : (b : Bool) → keeps X (if b then args_rules atom.args else []) ≡ (list_all X (if b then whole_args atom.args else []) && true)
    by true = args_kept X atom.args ∙ and_true (list_all X (whole_args atom.args))
    by false = refl
item_kept X tables nots (items.Tel formula) = refl
item_kept X tables nots (items.Compare relation left right) = refl

shuffled : (a b c d : Bool) → ((a && b) && (c && d)) ≡ ((a && c) && (b && d))
shuffled true true c d = refl
shuffled true false true d = refl
shuffled true false false d = refl
shuffled false b c d = refl

-- a set keeps the rules of a body where it has what the tables bind, and is closed under the equations
pub body_kept : (X : Vars) (tables : Signature → Bool) (body : List Literal) → keeps X (body_rules tables body) ≡ (list_all X (row_vars tables body) && closed X (equations_of body))
body_kept X tables [] = refl
body_kept X tables (literal ∷ more) =
    let vars = item_row_vars tables literal.nots literal.item in
    let equations = item_equations literal.item in
    list_all-append (keeps_rule X) (item_rules tables literal.nots literal.item) (body_rules tables more)
    ∙ ap (λ (b : Bool). b && keeps X (body_rules tables more)) (item_kept X tables literal.nots literal.item)
    ∙ ap (λ (b : Bool). (list_all X vars && closed X equations) && b) (body_kept X tables more)
    ∙ shuffled (list_all X vars) (closed X equations) (list_all X (row_vars tables more)) (closed X (equations_of more))
    ∙ sym
    (ap (λ (b : Bool). b && closed X (equations ++ equations_of more)) (list_all-append X vars (row_vars tables more))
    ∙ ap (λ (b : Bool). (list_all X vars && list_all X (row_vars tables more)) && b)
    (ap (λ (rules : List BindingRule). keeps X rules) (flat_map-append equation_rules equations (equations_of more)) ∙ list_all-append (keeps_rule X) (flat_map equation_rules equations) (flat_map equation_rules (equations_of more))))

-- the least set is what is bound in the end
pub least_is_bound : (tables : Signature → Bool) (body : List Literal) (B : Vars) (settings : List Setting) → IsLeast (body_rules tables body) B → AreSettings (equations_of body) (row_vars tables body) settings → (v : ℕ) → B v ≡ has (bound_by (row_vars tables body) settings) v
least_is_bound tables body B settings least are v =
    let start = row_vars tables body in
    let equations = equations_of body in
    let ends = bound_by start settings in
    let some = some_order equations start settings are in
    let kept : IsTrue (keeps (has ends) (body_rules tables body)) =
    body_kept (has ends) tables body
    ∙ and_from (list_all (has ends) start) (closed (has ends) equations) (all_more (has start) (has ends) (stays_bound start settings) start (all-has start)) (end_closed equations start settings some) in
    let parts = and_parts (list_all B start) (closed B equations) (sym (body_kept B tables body) ∙ least.closed) in
    both_ways (B v) (has ends v) (least.least (has ends) kept v) (all_of_has B ends (sound B equations start settings parts.1 parts.0 some) v)

-- sets that are one have the same first gap
same_missing : (X Y : Vars) (count : ℕ) (first : Option ℕ) → ((v : ℕ) → X v ≡ Y v) → IsFirstMissing X count first → IsFirstMissing Y count first
same_missing X Y count None same is = λ v l. sym (same v) ∙ is v l
same_missing X Y count (Some first) same is = (is.0, sym (same first) ∙ is.1, λ v l. sym (same v) ∙ is.2 v l)

pub first_unbound_is : (tables : Signature → Bool) (statement : Statement) (B : Vars) (first : Option ℕ) → IsLeast (body_rules tables (body_of statement.kind)) B → IsFirstMissing B (length statement.vars) first → IsFirstUnbound tables statement first
first_unbound_is tables statement B first least missing =
    let body = body_of statement.kind in
    let found = exist (equations_of body) (row_vars tables body) in
    record {
      settings = found.0;
      are = found.1;
      is = same_missing B (has (bound_by (row_vars tables body) found.0)) (length statement.vars) first (least_is_bound tables body B found.0 least found.1) missing;
    }

one_missing : (X : Vars) (count : ℕ) (a b : Option ℕ) → IsFirstMissing X count a → IsFirstMissing X count b → a ≡ b
one_missing X count None None is_a is_b = refl
one_missing X count None (Some b) is_a is_b = absurd (true≢false (sym (is_a b is_b.0) ∙ is_b.1))
one_missing X count (Some a) None is_a is_b = absurd (true≢false (sym (is_b a is_a.0) ∙ is_a.1))
one_missing X count (Some a) (Some b) is_a is_b = elim (cases_lt a b) [
  | inl l ↦ absurd (true≢false (sym (is_b.2 a l) ∙ is_a.1))
  | inr le ↦
      elim (cases_lt b a) [
        | inl l ↦ absurd (true≢false (sym (is_a.2 b l) ∙ is_b.1))
        | inr ge ↦ let same : a ≡ b = omega (arith, le, ge) in ap Some same
      ]
]

pub one_unbound : (tables : Signature → Bool) (statement : Statement) (a b : Option ℕ) → IsFirstUnbound tables statement a → IsFirstUnbound tables statement b → a ≡ b
one_unbound tables statement a b is_a is_b =
    let start = row_vars tables (body_of statement.kind) in
    let same = one_list (equations_of (body_of statement.kind)) start is_a.settings is_b.settings is_a.are is_b.are in
    one_missing (has (bound_by start is_b.settings)) (length statement.vars) a b (subst (λ (settings : List Setting). IsFirstMissing (has (bound_by start settings)) (length statement.vars) a) same is_a.is) is_b.is
