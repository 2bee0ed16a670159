-- What is known of the predicates of heads, and their numbers.
use Rattle.std.proofs.Common.{◌≡◌, inl, inr, ℕ, ◌+◌, ◌<◌, ◌≤◌, ◌^◌, Bool, true, false, not, ◌&&◌, ◌||◌, cond, eqb, List, [], ◌∷◌, ◌++◌, map, length, refl, sym, ap, ◌∙◌, subst, true≢false, arith, get_or, length-append}
use Rattle.std.specs.Prelude.{◌==◌, bytes_eq, if◌then◌else◌, Option, Some, None, nat_lt}
use Rattle.std.specs.List.{list_any, position, position_or_len}
use Rattle.std.proofs.lemmas.Bool.{and_parts, and_from, cases_Bool, cases_lt, false_from_ne_true, eqb-true, eq-eqb, lt-ltb, ltb-false}
use Rattle.std.proofs.lemmas.List.Folds.{position_or_len_push}
use Rattle.std.proofs.lemmas.List.Sums.{passes_at_first}
use Rattle.std.proofs.lemmas.List.Quantifiers.{position-Some}
use Rattle.std.proofs.lemmas.Slice.Eq.{bytes_eq-Decides}
use Rattle.indexmap.specs.IndexMap.{IndexMap, keys, Updates}
use Rattle.std.specs.Map.{keys_of, lookup}
use Rattle.std.proofs.lemmas.Map.Entries.{length-keys_of}
use Rattle.indexmap.specs.IndexSet.{insert_key}
use Rattle.tel_rule.specs.declared.statements.Arg.{Arg}
use Rattle.tel_rule.specs.declared.statements.Fact.{Fact}
use Rattle.tel_rule.specs.declared.statements.Signature.{Signature}
use Rattle.tel_rule.specs.declared.statements.Statement.{Statement}
use Rattle.tel_semantics.specs.Tables.{same_predicate, tuple_predicate, is_table}
use Rattle.rule_binding.specs.Heads.{or_true, or_false, noted, all_noted, known_of}
use Rattle.rule_binding.proofs.Predicates.{known-none}
use Rattle.rule_goals.specs.Numbers.{has_number}
use Rattle.fact_rows.specs.declared.numbers.Form.{Form}
use Rattle.fact_rows.specs.declared.numbers.PredicateNumbers.{PredicateNumbers}
use Rattle.fact_rows.specs.contracts.numbers.FormPartialEq.TheImpl.{eq-value}
use Rattle.fact_rows.specs.Forms.{same_form, form_of, tuple_form, form_noted, forms_noted, form_said, name_number, said, AreNamed, number_at, number_if, form_number, number_in, AreApart}

-- ---- predicates that are one

same_sign : (x y : Bool) → (if x then y else not y) ≡ true → x ≡ y
same_sign true true h = refl
same_sign true false h = absurd (true≢false (sym h))
same_sign false true h = absurd (true≢false (sym h))
same_sign false false h = refl

self_sign : (x : Bool) → (if x then x else not x) ≡ true
self_sign true = refl
self_sign false = refl

-- what `==` answers
pub derived_eq : (a b : Form) → eq-value.it a b ≡ same_form a b
derived_eq a b = by a.negative b.negative
  where
    by : (x y : Bool) → eq-value.it (record { name = a.name; negative = x; arity = a.arity }) (record { name = b.name; negative = y; arity = b.arity }) ≡ same_form (record { name = a.name; negative = x; arity = a.arity }) (record { name = b.name; negative = y; arity = b.arity })
    by true true = refl
    by true false = refl
    by false true = refl
    by false false = refl

pub derived : eq-value.it ≡ same_form
derived = λ i a b. derived_eq a b i

pub one_form : (a b : Form) → same_form a b ≡ true → a ≡ b
one_form a b h =
    let parts = and_parts (a.name == b.name) ((if a.negative then b.negative else not b.negative) && (a.arity == b.arity)) h in
    let both = and_parts (if a.negative then b.negative else not b.negative) (a.arity == b.arity) parts.1 in
    let name = eqb-true a.name b.name parts.0 in
    let sign = same_sign a.negative b.negative both.0 in
    let arity = eqb-true a.arity b.arity both.1 in
    λ i. record { name = name i; negative = sign i; arity = arity i }

pub itself : (a : Form) → same_form a a ≡ true
itself a =
    and_from (a.name == a.name) ((if a.negative then a.negative else not a.negative) && (a.arity == a.arity)) (eq-eqb a.name a.name refl)
    (and_from (if a.negative then a.negative else not a.negative) (a.arity == a.arity) (self_sign a.negative) (eq-eqb a.arity a.arity refl))

same_both : (a b : Form) → same_form a b ≡ same_form b a
same_both a b = elim (cases_Bool (same_form a b)) [
  | inl is ↦ is ∙ sym (subst (λ (x : Form). same_form x a ≡ true) (one_form a b is) (itself a))
  | inr isnt ↦ isnt ∙ sym (false_from_ne_true (same_form b a) (λ h. true≢false (sym (subst (λ (x : Form). same_form x b ≡ true) (one_form b a h) (itself b)) ∙ isnt)))
]

pub one_predicate : (a b : Signature) → same_predicate a b ≡ true → a ≡ b
one_predicate a b h =
    let parts = and_parts (if a.negative then b.negative else not b.negative) (bytes_eq a.name b.name && (a.arity == b.arity)) h in
    let both = and_parts (bytes_eq a.name b.name) (a.arity == b.arity) parts.1 in
    let sign = same_sign a.negative b.negative parts.0 in
    let name : a.name ≡ b.name = (bytes_eq-Decides a.name b.name).0 both.0 in
    let arity = eqb-true a.arity b.arity both.1 in
    λ i. record { negative = sign i; name = name i; arity = arity i }

pub predicate_itself : (a : Signature) → same_predicate a a ≡ true
predicate_itself a =
    and_from (if a.negative then a.negative else not a.negative) (bytes_eq a.name a.name && (a.arity == a.arity)) (self_sign a.negative)
    (and_from (bytes_eq a.name a.name) (a.arity == a.arity) ((bytes_eq-Decides a.name a.name).1 refl) (eq-eqb a.arity a.arity refl))

-- ---- a head more

module _ {S : Type 0} where
  pub noted-by : (old new : IndexMap Form Bool S) (head : Form) (rows all : Bool) → all ≡ (rows && or_true (form_said old head)) → Updates same_form old new head (Some all) → (form : Form) → form_said new form ≡ form_noted rows head form (form_said old form)
  noted-by old new head rows all is u form = elim (cases_Bool (same_form head form)) [
    | inl same ↦
        let e : head ≡ form = one_form head form same in
        let back : same_form form head ≡ true = same_both form head ∙ same in
        u.0 form ∙ ap (λ (b : Bool). cond b (Some all) (form_said old form)) same
        ∙ ap Some (is ∙ ap (λ (x : Form). rows && or_true (form_said old x)) e)
        ∙ sym (ap (λ (b : Bool). if b then Some (rows && or_true (form_said old form)) else form_said old form) back)
    | inr isnt ↦
        let back : same_form form head ≡ false = same_both form head ∙ isnt in
        u.0 form ∙ ap (λ (b : Bool). cond b (Some all) (form_said old form)) isnt
        ∙ sym (ap (λ (b : Bool). if b then Some (rows && or_true (form_said old form)) else form_said old form) back)
  ]

-- ---- the numbers of names

least-place : {X : Type 0} (p : X → Bool) (xs : List X) → position_or_len p xs ≤ length xs
least-place p [] = omega arith
least-place p (x ∷ xs) = by (p x) (least-place p xs)
  where
    by : (b : Bool) → position_or_len p xs ≤ length xs → cond (not b) (1 + position_or_len p xs) 0 ≤ length (x ∷ xs)
    by true rest = omega arith
    by false rest = omega (arith, rest)

missing : {X : Type 0} (p : X → Bool) (xs : List X) → list_any p xs ≡ false → position_or_len p xs ≡ length xs
missing p [] none = refl
missing {X} p (x ∷ xs) none = by (missing p xs) (p x) refl
  where
    by : (list_any p xs ≡ false → position_or_len p xs ≡ length xs) → (b : Bool) → p x ≡ b → cond (not (p x)) (1 + position_or_len p xs) 0 ≡ length (x ∷ xs)
    by more true is = absurd (true≢false (sym (ap (λ (b : Bool). b || list_any p xs) is) ∙ none))
    by more false is =
        let rest = more (sym (ap (λ (b : Bool). b || list_any p xs) is) ∙ none) in
        let now : cond (not (p x)) (1 + position_or_len p xs) 0 ≡ 1 + position_or_len p xs = ap (λ (b : Bool). cond (not b) (1 + position_or_len p xs) 0) is in
        omega (arith, rest, now)

present : {X : Type 0} (p : X → Bool) (xs : List X) → list_any p xs ≡ true → position_or_len p xs < length xs
present p [] some = absurd (true≢false (sym some))
present {X} p (x ∷ xs) some = by (present p xs) (p x) refl
  where
    by : (list_any p xs ≡ true → position_or_len p xs < length xs) → (b : Bool) → p x ≡ b → cond (not (p x)) (1 + position_or_len p xs) 0 < length (x ∷ xs)
    by more true is =
        let now : cond (not (p x)) (1 + position_or_len p xs) 0 ≡ 0 = ap (λ (b : Bool). cond (not b) (1 + position_or_len p xs) 0) is in
        omega (arith, now)
    by more false is =
        let rest = more (sym (ap (λ (b : Bool). b || list_any p xs) is) ∙ some) in
        let now : cond (not (p x)) (1 + position_or_len p xs) 0 ≡ 1 + position_or_len p xs = ap (λ (b : Bool). cond (not b) (1 + position_or_len p xs) 0) is in
        omega (arith, rest, now)

-- how the number of a name is after another was added
record Stays (old new : List (List ℕ)) (name : List ℕ) : Type 0 where
  pub kept : name_number old name < length old → name_number new name ≡ name_number old name
  pub past : length old ≤ name_number old name → length old ≤ name_number new name

not_same : (m n : ℕ) → m < n → eqb m n ≡ false
not_same m n less = elim (cases_Bool (eqb m n)) [
  | inl is ↦ let same = eqb-true m n is in absurd (omega (arith, same, less))
  | inr isnt ↦ isnt
]

stays-pushed : (old : List (List ℕ)) (added name : List ℕ) → Stays old (old ++ added ∷ []) name
stays-pushed old added name =
    let p = bytes_eq name in
    let push = position_or_len_push p old added in record {
      kept = λ inside. push ∙ ap (λ (b : Bool). cond b (length old + cond (p added) 0 1) (position_or_len p old)) (not_same (position_or_len p old) (length old) inside);
      past = λ outside.
          let most = least-place p old in
          let is : position_or_len p old ≡ length old = omega (arith, most, outside) in
          let new : position_or_len p (old ++ added ∷ []) ≡ length old + cond (p added) 0 1 = push ∙ ap (λ (b : Bool). cond b (length old + cond (p added) 0 1) (position_or_len p old)) (eq-eqb (position_or_len p old) (length old) is) in
          omega (arith, new);
    }

stays : (old : List (List ℕ)) (added name : List ℕ) → Stays old (insert_key bytes_eq old added) name
stays old added name = by (list_any (bytes_eq added) old)
  where
    by : (b : Bool) → Stays old (if b then old else old ++ added ∷ []) name
    by true = record { kept = λ inside. refl; past = λ outside. outside }
    by false = stays-pushed old added name

-- the name that was added has a number, which is the one it had
pub record IsAdded (old new : List (List ℕ)) (name : List ℕ) : Type 0 where
  pub itself : name_number new name ≡ name_number old name
  pub there : name_number new name < length new
  pub longer : length old ≤ length new

pub is_added : (old : List (List ℕ)) (name : List ℕ) → IsAdded old (insert_key bytes_eq old name) name
is_added old name = by (list_any (bytes_eq name) old) refl
  where
    by : (b : Bool) → list_any (bytes_eq name) old ≡ b → IsAdded old (if b then old else old ++ name ∷ []) name
    by true some = record { itself = refl; there = present (bytes_eq name) old some; longer = omega arith }
    by false none =
        let p = bytes_eq name in
        let is = missing p old none in
        let long = length-append old (name ∷ []) in
        let own : p name ≡ true = (bytes_eq-Decides name name).1 refl in
        let new : position_or_len p (old ++ name ∷ []) ≡ length old + 0 =
        position_or_len_push p old name ∙ ap (λ (b : Bool). cond b (length old + cond (p name) 0 1) (position_or_len p old)) (eq-eqb (position_or_len p old) (length old) is) ∙ ap (λ (b : Bool). length old + cond b 0 1) own in
        record { itself = omega (arith, new, is); there = omega (arith, new, long); longer = omega (arith, long) }

-- names with one number are one
one_name : (names : List (List ℕ)) (a b : List ℕ) → name_number names a < length names → name_number names b ≡ name_number names a → a ≡ b
one_name names a b inside same =
    let at_a : a ≡ get_or names (name_number names a) [] = (bytes_eq-Decides a (get_or names (name_number names a) [])).0 (passes_at_first (bytes_eq a) names [] inside) in
    let at_b : b ≡ get_or names (name_number names b) [] = (bytes_eq-Decides b (get_or names (name_number names b) [])).0 (passes_at_first (bytes_eq b) names [] (omega (arith, inside, same))) in
    at_a ∙ ap (λ (n : ℕ). get_or names n []) (sym same) ∙ sym at_b

-- ---- what is said when a name comes

none-past : {S : Type 0} (names : List (List ℕ)) (forms : IndexMap Form Bool S) (form : Form) → AreNamed names forms → length names ≤ form.name → form_said forms form ≡ None
none-past names forms form named past = by (form_said forms form) refl
  where
    by : (o : Option Bool) → form_said forms form ≡ o → form_said forms form ≡ None
    by None is = is
    by (Some known) is = let less = named form known is in absurd (omega (arith, less, past))

said-stays : {S : Type 0} (old : List (List ℕ)) (name : List ℕ) (forms : IndexMap Form Bool S) (predicate : Signature) → AreNamed old forms
    → said (insert_key bytes_eq old name) forms predicate ≡ said old forms predicate
said-stays old name forms predicate named = elim (cases_lt (name_number old predicate.name) (length old)) [
  | inl inside ↦ ap (λ (n : ℕ). form_said forms (form_of n predicate)) (s.kept inside)
  | inr outside ↦
      none-past old forms (form_of (name_number (insert_key bytes_eq old name) predicate.name) predicate) named (s.past outside)
      ∙ sym (none-past old forms (form_of (name_number old predicate.name) predicate) named outside)
]
  where
    s : Stays old (insert_key bytes_eq old name) predicate.name
    s = stays old name predicate.name

-- ---- heads of one name

-- the predicate with this name
abbrev pub named : List ℕ → Form → Signature
named name form = record { negative = form.negative; name = name; arity = form.arity }

module _ (names : List (List ℕ)) (name : List ℕ) (inside : name_number names name < length names) where
  same_number : (other : List ℕ) → (name_number names other == (name_number names name)) ≡ bytes_eq other name
  same_number other = elim (cases_Bool (bytes_eq other name)) [
    | inl is ↦
        let e : other ≡ name = (bytes_eq-Decides other name).0 is in
        eq-eqb (name_number names other) (name_number names name) (ap (name_number names) e) ∙ sym is
    | inr isnt ↦
        false_from_ne_true (name_number names other == (name_number names name))
        (λ h. let e : name ≡ other = one_name names name other inside (eqb-true (name_number names other) (name_number names name) h) in true≢false (sym ((bytes_eq-Decides other name).1 (sym e)) ∙ isnt))
        ∙ sym isnt
  ]

  -- the forms have this name's number
  abbrev pub HaveNumber : List Form → Type 0
  HaveNumber [] = Unit {0}
  HaveNumber (form ∷ more) = (form.name ≡ (name_number names name)) × HaveNumber more

  swapped : (a b c : Bool) → (a && (b && c)) ≡ (b && (a && c))
  swapped true b c = refl
  swapped false true c = refl
  swapped false false c = refl

  pub forms-are : (rows : Bool) (heads : List Form) (predicate : Signature) (known : Option Bool) → HaveNumber heads
      → forms_noted rows heads (form_of (name_number names predicate.name) predicate) known ≡ all_noted rows (map (named name) heads) predicate known
  forms-are rows [] predicate known have = refl
  forms-are rows (head ∷ more) predicate known have =
      let sign = if predicate.negative then head.negative else not head.negative in
      let test : same_form (form_of (name_number names predicate.name) predicate) head ≡ same_predicate predicate (named name head) =
      ap (λ (n : ℕ). (name_number names predicate.name == n) && (sign && (predicate.arity == head.arity))) have.0
      ∙ ap (λ (b : Bool). b && (sign && (predicate.arity == head.arity))) (same_number predicate.name)
      ∙ swapped (bytes_eq predicate.name name) sign (predicate.arity == head.arity) in
      ap (λ (b : Bool). forms_noted rows more (form_of (name_number names predicate.name) predicate) (if b then Some (rows && or_true known) else known)) test
      ∙ forms-are rows more predicate (noted rows (named name head) predicate known) have.1

  -- a form that is known was, or it is one of the heads
  forms-inside : (rows : Bool) (heads : List Form) (form : Form) (old : Option Bool) (known : Bool) → HaveNumber heads → ((before : Bool) → old ≡ Some before → form.name < length names)
      → forms_noted rows heads form old ≡ Some known → form.name < length names
  forms-inside rows [] form old known have was is = was known is
  forms-inside rows (head ∷ more) form old known have was is = by (forms-inside rows more form old known have.1 was) (same_form form head) refl
    where
      by : (forms_noted rows more form old ≡ Some known → form.name < length names) → (b : Bool) → same_form form head ≡ b → form.name < length names
      by rest true same =
          let e = ap (λ (f : Form). f.name) (one_form form head same) in
          omega (arith, e, have.0, inside)
      by rest false differ =
          rest (sym (ap (λ (b : Bool). forms_noted rows more form (if b then Some (rows && or_true old) else old)) differ) ∙ is)

-- the heads of a statement are noted under the number of their name
pub record Noted {S : Type 0} (names new : List (List ℕ)) (old forms : IndexMap Form Bool S) (rows : Bool) (heads : List Signature) : Type 0 where
  pub named : AreNamed new forms
  pub noted : (predicate : Signature) → said new forms predicate ≡ all_noted rows heads predicate (said names old predicate)

pub noted-heads : {S : Type 0} (names : List (List ℕ)) (name : List ℕ) (old forms : IndexMap Form Bool S) (rows : Bool) (heads : List Form)
    → AreNamed names old → HaveNumber (insert_key bytes_eq names name) name (is_added names name).there heads
    → ((form : Form) → form_said forms form ≡ forms_noted rows heads form (form_said old form))
    → Noted names (insert_key bytes_eq names name) old forms rows (map (named name) heads)
noted-heads names name old forms rows heads are have made = record {
  named = λ form known is.
      forms-inside new name (is_added names name).there rows heads form (form_said old form) known have
      (λ before was. let less = are form before was in omega (arith, less, (is_added names name).longer)) (sym (made form) ∙ is);
  noted = λ predicate.
      made (form_of (name_number new predicate.name) predicate)
      ∙ ap (λ (known : Option Bool). forms_noted rows heads (form_of (name_number new predicate.name) predicate) known) (said-stays names name old predicate are)
      ∙ forms-are new name (is_added names name).there rows heads predicate (said names old predicate) have;
}
  where
    new : List (List ℕ)
    new = insert_key bytes_eq names name

have-tuples : (names : List (List ℕ)) (name : List ℕ) (inside : name_number names name < length names) (number : ℕ) (negative : Bool) (tuples : List (List Arg))
    → number ≡ name_number names name → HaveNumber names name inside (map (tuple_form number negative) tuples)
have-tuples names name inside number negative [] is = tt
have-tuples names name inside number negative (tuple ∷ more) is = (is, have-tuples names name inside number negative more is)

tuples_named : (fact : Fact) (number : ℕ) (tuples : List (List Arg)) → map (named fact.name) (map (tuple_form number fact.negative) tuples) ≡ map (tuple_predicate fact) tuples
tuples_named fact number [] = refl
tuples_named fact number (tuple ∷ more) = ap (λ (heads : List Signature). tuple_predicate fact tuple ∷ heads) (tuples_named fact number more)

-- the heads of a fact
pub noted-fact : {S : Type 0} (names new : List (List ℕ)) (old forms : IndexMap Form Bool S) (rows : Bool) (fact : Fact) (number : ℕ)
    → AreNamed names old → new ≡ insert_key bytes_eq names fact.name → number ≡ name_number names fact.name
    → ((form : Form) → form_said forms form ≡ forms_noted rows (map (tuple_form number fact.negative) fact.tuples) form (form_said old form))
    → Noted names new old forms rows (map (tuple_predicate fact) fact.tuples)
noted-fact {S} names new old forms rows fact number are made is said =
    let added = is_added names fact.name in
    let heads = map (tuple_form number fact.negative) fact.tuples in
    let all = noted-heads names fact.name old forms rows heads are
    (have-tuples (insert_key bytes_eq names fact.name) fact.name added.there number fact.negative fact.tuples (is ∙ sym added.itself)) said in
    subst (λ (n : List (List ℕ)). Noted names n old forms rows (map (tuple_predicate fact) fact.tuples)) (sym made)
    (subst (λ (l : List Signature). Noted names (insert_key bytes_eq names fact.name) old forms rows l) (tuples_named fact number fact.tuples) all)

-- the head of a rule
pub noted-rule : {S : Type 0} (names new : List (List ℕ)) (old forms : IndexMap Form Bool S) (rows : Bool) (predicate : Signature) (number : ℕ)
    → AreNamed names old → new ≡ insert_key bytes_eq names predicate.name → number ≡ name_number names predicate.name
    → ((form : Form) → form_said forms form ≡ form_noted rows (form_of number predicate) form (form_said old form))
    → Noted names new old forms rows (predicate ∷ [])
noted-rule names new old forms rows predicate number are made is said =
    let added = is_added names predicate.name in
    let all = noted-heads names predicate.name old forms rows (form_of number predicate ∷ []) are (is ∙ sym added.itself, tt) said in
    subst (λ (n : List (List ℕ)). Noted names n old forms rows (predicate ∷ [])) (sym made) all

-- ---- the numbers of tables

found_place : (form : Form) (known : Bool) (entries : List (Form × Bool)) → lookup (same_form form) entries ≡ Some known → position_or_len (same_form form) (keys_of entries) < length entries
found_place form known [] found = absurd cc
found_place form known (entry ∷ more) found = at (found_place form known more) (same_form form entry.0) refl
  where
    at : (lookup (same_form form) more ≡ Some known → position_or_len (same_form form) (keys_of more) < length more) → (b : Bool) → same_form form entry.0 ≡ b
        → cond (not (same_form form entry.0)) (1 + position_or_len (same_form form) (keys_of more)) 0 < length (entry ∷ more)
    at later true here =
        let now : cond (not (same_form form entry.0)) (1 + position_or_len (same_form form) (keys_of more)) 0 ≡ 0 = ap (λ (b : Bool). cond (not b) (1 + position_or_len (same_form form) (keys_of more)) 0) here in
        omega (arith, now)
    at later false differ =
        let rest = later (sym (ap (λ (b : Bool). cond b (Some entry.1) (lookup (same_form form) more)) differ) ∙ found) in
        let now : cond (not (same_form form entry.0)) (1 + position_or_len (same_form form) (keys_of more)) 0 ≡ 1 + position_or_len (same_form form) (keys_of more) = ap (λ (b : Bool). cond (not b) (1 + position_or_len (same_form form) (keys_of more)) 0) differ in
        omega (arith, rest, now)

first_place : (forms : List Form) (form : Form) → position_or_len (same_form form) forms < length forms → position (same_form form) forms ≡ Some (position_or_len (same_form form) forms)
first_place forms form inside =
    ap (λ (b : Bool). cond b (Some (position_or_len (same_form form) forms)) None) (lt-ltb (position_or_len (same_form form) forms) (length forms) inside)

below_bound : (place bound : ℕ) → place < bound → (if nat_lt place bound then Some place else None) ≡ Some place
below_bound place bound less = ap (λ (b : Bool). if b then Some place else None) (lt-ltb place bound less)

number-has : {S : Type 0} (forms : IndexMap Form Bool S) (form : Form) → length forms.entries < 2 ^ 32 → has_number (form_number forms form) ≡ or_false (form_said forms form)
number-has forms form few = by (form_said forms form) refl
  where
    place : ℕ
    place = position_or_len (same_form form) (keys forms)

    by : (known : Option Bool) → form_said forms form ≡ known → has_number (number_if (form_said forms form) (position (same_form form) (keys forms))) ≡ or_false (form_said forms form)
    by None is = ap (λ (o : Option Bool). has_number (number_if o (position (same_form form) (keys forms)))) is ∙ sym (ap or_false is)
    by (Some false) is = ap (λ (o : Option Bool). has_number (number_if o (position (same_form form) (keys forms)))) is ∙ sym (ap or_false is)
    by (Some true) is =
        let inside = found_place form true forms.entries is in
        let long = length-keys_of forms.entries in
        ap (λ (o : Option Bool). has_number (number_if o (position (same_form form) (keys forms)))) is
        ∙ ap (λ (o : Option ℕ). has_number (number_at o)) (first_place (keys forms) form (omega (arith, inside, long)))
        ∙ ap has_number (below_bound place (2 ^ 32) (omega (arith, inside, few)))
        ∙ sym (ap or_false is)

-- exactly the tables have numbers
pub tables-have : (numbers : PredicateNumbers) (statements : List Statement) → length numbers.forms.entries < 2 ^ 32
    → ((predicate : Signature) → said numbers.names.keys numbers.forms predicate ≡ known_of statements predicate None)
    → (predicate : Signature) → has_number (number_in numbers predicate) ≡ is_table statements predicate
tables-have numbers statements few are predicate =
    number-has numbers.forms (form_of (name_number numbers.names.keys predicate.name) predicate) few ∙ ap or_false (are predicate) ∙ known-none statements predicate

number_from : (known : Option Bool) (place : Option ℕ) (number : ℕ) → number_if known place ≡ Some number → (known ≡ Some true) × (place ≡ Some number)
number_from None place number is = absurd cc
number_from (Some false) place number is = absurd cc
number_from (Some true) None number is = absurd cc
number_from (Some true) (Some place) number is = (refl, by (nat_lt place (2 ^ 32)) is)
  where
    by : (b : Bool) → (if b then Some place else None) ≡ Some number → Some place ≡ Some number
    by true same = same
    by false none = absurd cc

-- different predicates have different numbers
pub numbers-apart : (numbers : PredicateNumbers) → AreNamed numbers.names.keys numbers.forms → AreApart (number_in numbers)
numbers-apart numbers are a b table is_a is_b =
    let names = numbers.names.keys in
    let form_a = form_of (name_number names a.name) a in
    let form_b = form_of (name_number names b.name) b in
    let own_a = number_from (form_said numbers.forms form_a) (position (same_form form_a) (keys numbers.forms)) table is_a in
    let own_b = number_from (form_said numbers.forms form_b) (position (same_form form_b) (keys numbers.forms)) table is_b in
    let at_a = one_form form_a (get_or (keys numbers.forms) table form_a) (position-Some (same_form form_a) (keys numbers.forms) table form_a own_a.1).1 in
    let at_b = one_form form_b (get_or (keys numbers.forms) table form_a) (position-Some (same_form form_b) (keys numbers.forms) table form_a own_b.1).1 in
    let same : form_a ≡ form_b = at_a ∙ sym at_b in
    let inside = are form_a true own_a.0 in
    let name : a.name ≡ b.name = one_name names a.name b.name inside (sym (ap (λ (f : Form). f.name) same)) in
    let sign : a.negative ≡ b.negative = ap (λ (f : Form). f.negative) same in
    let arity : a.arity ≡ b.arity = ap (λ (f : Form). f.arity) same in
    λ i. record { negative = sign i; name = name i; arity = arity i }

-- a name that has no place
pub no_place : (names : List (List ℕ)) (name : List ℕ) → position (bytes_eq name) names ≡ None → name_number names name ≡ length names
no_place names name none = by (nat_lt (name_number names name) (length names)) refl
  where
    by : (b : Bool) → nat_lt (name_number names name) (length names) ≡ b → name_number names name ≡ length names
    by true is =
        let there : Some (name_number names name) ≡ None = sym (ap (λ (b : Bool). cond b (Some (name_number names name)) None) is) ∙ none in absurd cc
    by false is = let past = ltb-false (name_number names name) (length names) is in let most = least-place (bytes_eq name) names in omega (arith, past, most)
