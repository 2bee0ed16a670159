-- What a search by a plan of a rule found, up to a limit.
use Rattle.std.proofs.Common.{◌≡◌, ◌↔◌, inl, inr, ℕ, zero, suc, ◌+◌, ◌<◌, ◌≤◌, ◌==◌, Bool, true, false, List, [], ◌∷◌, map, take, length, replicate, refl, sym, ap, ◌∙◌, subst, arith}
use Rattle.std.specs.Prelude.{pos, if◌then◌else◌, IsTrue}
use Rattle.std.specs.List.{filter, list_all}
use Rattle.std.proofs.lemmas.Bool.{and_parts, and_from, eqb-true}
use Rattle.std.proofs.lemmas.List.{take-map}
use Rattle.tel_base.specs.Members.{In}
use Rattle.tel_base.proofs.Members.{In-map, In-map_from, In-filter, In-filter_from, list_all-from_In}
use Rattle.tel_term.specs.declared.terms.Term.{Term}
use Rattle.tel_term.specs.declared.terms.Value.{Value}
use Rattle.tel_term.specs.declared.terms.Value.TheVariants as values
use Rattle.tel_term.specs.declared.exprs.Expr.{Expr}
use Rattle.tel_rule.specs.Rising.{rises}
use Rattle.tel_rule.specs.declared.statements.Head.{Head}
use Rattle.tel_rule.specs.declared.statements.LitItem.{LitItem}
use Rattle.tel_rule.specs.declared.statements.LitItem.TheVariants as items
use Rattle.tel_rule.specs.declared.statements.Literal.{Literal}
use Rattle.tel_rule.specs.declared.statements.Statement.{Statement}
use Rattle.live_instances.specs.Bindings.{is_value, is_binding, binding_cmp, binding_lt}
use Rattle.live_instances.specs.Instances.{item_exprs, rule_exprs, makes_instance, is_live, AreLive}
use Rattle.live_instances.proofs.BindingOrder.{bindings-total}
use Rattle.join_plans.specs.Once.{IsOnce}
use Rattle.join_plans.proofs.Counting.{fewer}
use Rattle.rule_plans.specs.Laws.{AreTheLive}
use Rattle.rule_plans.specs.Within.{AreWithin, values_in}
use Rattle.rule_plans.proofs.Atoms.{item_in_rule}
use Rattle.plan_search.specs.Steps.{AreTerms}
use Rattle.instance_check.specs.Valued.{ItemHasTerms, BodyHasTerms}
use Rattle.binding_sort.specs.Sorting.{AreOfTerms}
use Rattle.live_bindings.specs.Limits.{AreMore}
use Rattle.live_bindings.proofs.RisingOnce.{rising_once}

-- ---- each once

pub once_map : {X Y : Type 0} (f : X → Y) (xs : List X) → IsOnce xs → ((a b : X) → In a xs → In b xs → f a ≡ f b → a ≡ b) → IsOnce (map f xs)
once_map f [] once apart = tt
once_map {X} f (x ∷ xs) once apart =
    ((λ there. let from = In-map_from f (f x) xs there in once.0 (subst (λ (y : X). In y xs) (apart from.0 x (inr from.1) (inl refl) from.2) from.1)), once_map f xs once.1 (λ a b in_a in_b. apart a b (inr in_a) (inr in_b)))

once_if : {X : Type 0} (t : Bool) (x : X) (xs : List X) → (In x xs → ⊥) → IsOnce xs → IsOnce (if t then x ∷ xs else xs)
once_if true x xs none once = (none, once)
once_if false x xs none once = once

pub once_filter : {X : Type 0} (p : X → Bool) (xs : List X) → IsOnce xs → IsOnce (filter p xs)
once_filter p [] once = tt
once_filter p (x ∷ xs) once = once_if (p x) x (filter p xs) (λ there. once.0 (In-filter_from p x xs there).0) (once_filter p xs once.1)

-- ---- terms

pub zeros_terms : (symbols : List Term) (count : ℕ) → AreTerms symbols (replicate count (values.Num (pos 0)))
zeros_terms symbols zero = refl
zeros_terms symbols (suc count) = zeros_terms symbols count

pub front_terms : (symbols : List Term) (count : ℕ) (values : List Value) → AreTerms symbols values → AreTerms symbols (take count values)
front_terms symbols zero values all = refl
front_terms symbols (suc count) [] all = refl
front_terms symbols (suc count) (x ∷ values) all =
    let both = and_parts (is_value symbols x) (list_all (is_value symbols) values) all in
    and_from (is_value symbols x) (list_all (is_value symbols) (take count values)) both.0 (front_terms symbols count values both.1)

module _ (symbols : List Term) (vars : ℕ) (head : Head) (body : List Literal) (within : AreWithin symbols vars (rule_exprs head body)) where
  own_terms : (literal : Literal) (item : LitItem) (expr : Expr) → literal.item ≡ item → In literal body → In expr (item_exprs item) → AreTerms symbols (values_in expr)
  own_terms literal item expr is there own =
      list_all-from_In (is_value symbols) (values_in expr) (within expr (item_in_rule head body literal expr there (subst (λ (i : LitItem). In expr (item_exprs i)) (sym is) own))).values

  item_terms : (literal : Literal) (item : LitItem) → literal.item ≡ item → In literal body → ItemHasTerms symbols item
  item_terms literal (items.Atom atom) is there = tt
  item_terms literal (items.Tel formula) is there = tt
  item_terms literal (items.Compare relation left right) is there =
      (own_terms literal (items.Compare relation left right) left is there (inl refl), own_terms literal (items.Compare relation left right) right is there (inr (inl refl)))

  pub body_terms : BodyHasTerms symbols body
  body_terms literal there = item_terms literal literal.item refl there

-- ---- limits

-- fewer than were asked for are all
all_of : {X : Type 0} (n : ℕ) (xs : List X) → length (take n xs) < n → take n xs ≡ xs
all_of zero xs less = absurd (omega (arith, less))
all_of (suc n) [] less = refl
all_of {X} (suc n) (x ∷ xs) less = ap (λ (l : List X). x ∷ l) (all_of n xs (omega (arith, less)))

taken_less : {X : Type 0} (n : ℕ) (xs : List X) → length (take n xs) ≤ length xs
taken_less zero xs = omega arith
taken_less (suc n) [] = omega arith
taken_less (suc n) (x ∷ xs) = omega (arith, taken_less n xs)

map_if : {X Y : Type 0} (f : X → Y) (t : Bool) (x : X) (xs : List X) → map f (if t then x ∷ xs else xs) ≡ (if t then f x ∷ map f xs else map f xs)
map_if f true x xs = refl
map_if f false x xs = refl

filter_map : {X Y : Type 0} (f : X → Y) (p : Y → Bool) (xs : List X) → map f (filter (λ (x : X). p (f x)) xs) ≡ filter p (map f xs)
filter_map f p [] = refl
filter_map {X} {Y} f p (x ∷ xs) = map_if f (p (f x)) x (filter (λ (y : X). p (f y)) xs) ∙ ap (λ (l : List Y). if p (f x) then f x ∷ l else l) (filter_map f p xs)

-- ---- bindings

-- `found` is what a plan finds
module _ (statements : List Statement) (symbols : List Term) (vars : ℕ) (head : Head) (body : List Literal) (found : List (List Value)) (are : AreTheLive statements symbols vars head body found) where
  abbrev bindings : List (List Value)
  bindings = map (take vars) found

  abbrev test : List Value → Bool
  test = makes_instance symbols head body

  -- those that make an instance
  abbrev pub live : List (List Value)
  live = filter test bindings

  binding_is : (b : List Value) → In b bindings → IsTrue (is_binding symbols vars b)
  binding_is b there =
      let from = In-map_from (take vars) b found there in
      subst (λ (c : List Value). IsTrue (is_binding symbols vars c)) from.2 (are.bindings from.0 from.1)

  terms_of : (b : List Value) → IsTrue (is_binding symbols vars b) → AreTerms symbols b
  terms_of b is = (and_parts (length b == vars) (list_all (is_value symbols) b) is).1

  size_of : (b : List Value) → IsTrue (is_binding symbols vars b) → length b ≡ vars
  size_of b is = eqb-true (length b) vars (and_parts (length b == vars) (list_all (is_value symbols) b) is).0

  -- the live bindings are those that make an instance
  live_from : (b : List Value) → In b live → IsTrue (is_binding symbols vars b) × IsTrue (is_live statements symbols head body b)
  live_from b there =
      let parts = In-filter_from test b bindings there in
      let is = binding_is b parts.0 in
      let from = In-map_from (take vars) b found parts.0 in
      (is, (are.live b is).1 (parts.1, record { whole = from.0; there = from.1; begins = ap (λ (n : ℕ). take n from.0) (size_of b is) ∙ from.2 }))

  live_to : (b : List Value) → IsTrue (is_binding symbols vars b) → IsTrue (is_live statements symbols head body b) → In b live
  live_to b is alive =
      let both = (are.live b is).0 alive in
      let begins = ap (λ (n : ℕ). take n both.1.whole) (sym (size_of b is)) ∙ both.1.begins in
      In-filter test b bindings (subst (λ (c : List Value). In c bindings) begins (In-map (take vars) both.1.whole found both.1.there)) both.0

  live_once : IsOnce live
  live_once = once_filter test bindings (once_map (take vars) found are.once are.apart)

  live_terms : AreOfTerms symbols live
  live_terms b there = terms_of b (live_from b there).0

  -- `got` is what a search by the plan found, which stops at a limit
  module _ (most : ℕ) (got : List (List Value)) (searched : got ≡ map (take vars) (take (most + 1) (filter (λ (env : List Value). makes_instance symbols head body (take vars env)) found))) where
    taken : got ≡ take (most + 1) live
    taken =
        searched
        ∙ sym (take-map (take vars) (most + 1) (filter (λ (env : List Value). test (take vars env)) found))
        ∙ ap (take (most + 1)) (filter_map (take vars) test found)

    -- all were found
    module _ (few : length got ≤ most) where
      all_live : got ≡ live
      all_live =
          let count = ap length taken in
          taken ∙ all_of (most + 1) live (omega (arith, count, few))

      pub found_once : IsOnce got
      found_once = subst (λ (l : List (List Value)). IsOnce l) (sym all_live) live_once

      pub found_terms : AreOfTerms symbols got
      found_terms = subst (λ (l : List (List Value)). AreOfTerms symbols l) (sym all_live) live_terms

      pub are_live : (sorted : List (List Value)) → IsTrue (rises (binding_lt symbols) sorted) → ((b : List Value) → In b sorted ↔ In b got) → AreLive statements symbols vars head body sorted
      are_live sorted up moved = record {
        rise = up;
        members = λ b. (
          (λ there. live_from b (subst (λ (l : List (List Value)). In b l) all_live ((moved b).0 there))),
          (λ alive. (moved b).1 (subst (λ (l : List (List Value)). In b l) (sym all_live) (live_to b alive.0 alive.1))),
        );
      }

      pub sorted_few : (sorted : List (List Value)) → IsTrue (rises (binding_lt symbols) sorted) → ((b : List Value) → In b sorted ↔ In b got) → length sorted ≤ most
      sorted_few sorted up moved =
          let less = fewer sorted got (rising_once (binding_cmp symbols) (bindings-total symbols) sorted up) (λ b. (moved b).0) in
          omega (arith, less, few)

    -- there are more
    pub are_more : most < length got → AreMore statements symbols vars head body most
    are_more more alive is =
        let count = ap length taken in
        let less = taken_less (most + 1) live in
        let all = fewer live alive live_once (λ b there. (is.members b).1 (live_from b there)) in
        omega (arith, more, count, less, all)
