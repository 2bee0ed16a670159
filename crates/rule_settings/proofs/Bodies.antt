-- The candidates of a body that can set their variables are what its equations can set, and a step more.
use Rattle.std.proofs.Common.{◌≡◌, ◌∙◌, ℕ, Bool, ◌||◌, List, [], ◌∷◌, ◌++◌, Option, Some, None, refl, sym, ap, subst, append_assoc}
use Rattle.std.specs.Prelude.{◌==◌}
use Rattle.std.specs.List.{filter}
use Rattle.std.proofs.lemmas.List.{append-nil}
use Rattle.std.proofs.lemmas.List.Elements.{filter-append}
use Rattle.std.proofs.lemmas.Grind.{flat_map-append}
use Rattle.tel_term.specs.declared.exprs.Expr.{Expr}
use Rattle.tel_rule.specs.declared.statements.Relation.{Relation}
use Rattle.tel_rule.specs.declared.statements.Relation.TheVariants as relations
use Rattle.tel_rule.specs.declared.statements.LitItem.{LitItem}
use Rattle.tel_rule.specs.declared.statements.LitItem.TheVariants as items
use Rattle.tel_rule.specs.declared.statements.Literal.{Literal}
use Rattle.rule_binding.specs.Binding.{Vars, has, whole_var, Setting, var_set, side_set, sets, possible, first_of, relation_equations, item_equations, equations_of, AreSettings}
use Rattle.rule_binding.specs.Closure.{marked}
use Rattle.rule_settings.specs.Candidates.{side_candidates, relation_candidates, item_candidates, body_candidates, AreMarked}
use Rattle.rule_settings.specs.Waiting.{can_set, first_setting, IsBound}

side_possible : (bound : Vars) (other : Expr) (whole : Option ℕ) → var_set bound other whole ≡ filter (can_set bound) (side_candidates other whole)
side_possible bound other None = refl
side_possible bound other (Some v) = refl

relation_possible : (bound : Vars) (left right : Expr) (relation : Relation) → possible bound (relation_equations left right relation) ≡ filter (can_set bound) (relation_candidates left right relation)
relation_possible bound left right relations.Equal =
    append-nil (side_set bound left right ++ side_set bound right left)
    ∙ ap (λ (l : List Setting). l ++ side_set bound right left) (side_possible bound right (whole_var left))
    ∙ ap (λ (l : List Setting). filter (can_set bound) (side_candidates right (whole_var left)) ++ l) (side_possible bound left (whole_var right))
    ∙ sym (filter-append (can_set bound) (side_candidates right (whole_var left)) (side_candidates left (whole_var right)))
relation_possible bound left right relations.Unequal = refl
relation_possible bound left right relations.Less = refl
relation_possible bound left right relations.LessEqual = refl
relation_possible bound left right relations.Greater = refl
relation_possible bound left right relations.GreaterEqual = refl

item_possible : (bound : Vars) (item : LitItem) → possible bound (item_equations item) ≡ filter (can_set bound) (item_candidates item)
item_possible bound (items.Atom atom) = refl
item_possible bound (items.Tel formula) = refl
item_possible bound (items.Compare relation left right) = relation_possible bound left right relation

pub body_possible : (bound : Vars) (body : List Literal) → possible bound (equations_of body) ≡ filter (can_set bound) (body_candidates body)
body_possible bound [] = refl
body_possible bound (literal ∷ body) =
    flat_map-append (sets bound) (item_equations literal.item) (equations_of body)
    ∙ ap (λ (l : List Setting). l ++ possible bound (equations_of body)) (item_possible bound literal.item)
    ∙ ap (λ (l : List Setting). filter (can_set bound) (item_candidates literal.item) ++ l) (body_possible bound body)
    ∙ sym (filter-append (can_set bound) (item_candidates literal.item) (body_candidates body))

-- ---- what is left, and what was found before

same_vars : (marks : List Bool) (vars : List ℕ) → AreMarked marks vars → marked marks ≡ has vars
same_vars marks vars are = λ i v. sym (are v) i

-- the first possible setting, where these are the bound variables
first_possible : (marks : List Bool) (vars : List ℕ) (body : List Literal) (first : Option Setting) → AreMarked marks vars → first_setting (marked marks) (body_candidates body) ≡ first → first_of (possible (has vars) (equations_of body)) ≡ first
first_possible marks vars body first are is =
    ap first_of (body_possible (has vars) body)
    ∙ subst (λ (bound : Vars). first_of (filter (can_set bound) (body_candidates body)) ≡ first) (same_vars marks vars are) is

pub none_left : (marks : List Bool) (vars : List ℕ) (body : List Literal) → AreMarked marks vars → first_setting (marked marks) (body_candidates body) ≡ None → AreSettings (equations_of body) vars []
none_left marks vars body are is = first_possible marks vars body None are is

abbrev pub Left : List Literal → List Bool → List Setting → Type 0
Left body marks settings = (vars : List ℕ) → AreMarked marks vars → AreSettings (equations_of body) vars settings

pub one_setting : (body : List Literal) (start old new : List Bool) (before after : List Setting) (found : Setting) → ((rest : List Setting) → Left body old rest → Left body start (before ++ rest)) → after ≡ before ++ found ∷ [] → IsBound (body_candidates body) (marked old) (marked new) found → (rest : List Setting) → Left body new rest → Left body start (after ++ rest)
one_setting body start old new before after found so_far is step rest left =
    subst (λ (l : List Setting). Left body start l) (sym (append_assoc before (found ∷ []) rest) ∙ ap (λ (l : List Setting). l ++ rest) (sym is))
    (so_far (found ∷ rest)
    (λ vars are.
    (first_possible old vars body (Some found) are step.first, left (found.var ∷ vars) (λ v. ap (λ (b : Bool). (found.var == v) || b) (are v) ∙ sym (step.bound v)))))
