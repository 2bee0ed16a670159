-- Definitions of names, statement by statement, and what a search through all statements gives.
use Rattle.std.proofs.Common.{◌≡◌, ℕ, zero, suc, ◌+◌, ◌<◌, Bool, true, false, List, [], ◌∷◌, ◌++◌, length, map, take, get_or, Option, Some, None, refl, sym, ap, subst, ◌∙◌, ◌⊎◌, inl, inr, ⊎_elim, arith}
use Rattle.std.specs.Prelude.{is_some, slice_get, slice_index_or, replicate, if◌then◌else◌}
use Rattle.std.specs.Option.{option_map}
use Rattle.std.proofs.lemmas.Bool.{false≢true}
use Rattle.std.proofs.lemmas.List.{length-replicate, take_more, map-append}
use Rattle.tel_term.specs.declared.terms.Term.{Term}
use Rattle.tel_term.specs.declared.terms.Value.{Value}
use Rattle.tel_rule.specs.declared.statements.Kind.{Kind}
use Rattle.tel_rule.specs.declared.statements.Kind.TheVariants as kinds
use Rattle.tel_rule.specs.declared.statements.Statement.{Statement}
use Rattle.rule_constants.specs.Constants.{defines, definition_of, links_of, Values, values_after, statement_value, kind_value, IsSoundConstant, IsFaultyConstant, AreSoundConstants, IsFirstFaulty}
use Rattle.rule_constants.specs.Operands.{by_number}
use Rattle.rule_constants.specs.Solving.{AreSound, IsSettled, Grows, noted, IsFineKind, IsFine, AreFine, IsFaultyKind, IsFirstUnfit}
use Rattle.rule_constants.specs.Replaced.{AreValues}
use Rattle.rule_constants.proofs.Rounds.{one}

-- ---- the definition of a name

map-if : (b : Bool) (n : ℕ) → option_map suc (if b then Some n else None) ≡ (if b then Some (suc n) else None)
map-if true n = refl
map-if false n = refl

map-noted : (o : Option ℕ) (kind : Kind) (name : List ℕ) (n : ℕ) → option_map suc (noted o kind name n) ≡ noted (option_map suc o) kind name (suc n)
map-noted None kind name n = map-if (defines name kind) n
map-noted (Some m) kind name n = refl

pub definition_more : (xs : List Statement) (s : Statement) (name : List ℕ) → definition_of (xs ++ s ∷ []) name ≡ noted (definition_of xs name) s.kind name (length xs)
definition_more [] s name = refl
definition_more (x ∷ xs) s name = of (defines name x.kind) (definition_more xs s name)
  where
    of : (b : Bool) → definition_of (xs ++ s ∷ []) name ≡ noted (definition_of xs name) s.kind name (length xs) → (if b then Some 0 else option_map suc (definition_of (xs ++ s ∷ []) name)) ≡ noted (if b then Some 0 else option_map suc (definition_of xs name)) s.kind name (suc (length xs))
    of true before = refl
    of false before = ap (option_map suc) before ∙ map-noted (definition_of xs name) s.kind name (length xs)

-- ---- a list that is gone over by places

pub get-within : {X : Type 0} (xs : List X) (n : ℕ) (x : X) → slice_get xs n ≡ Some x → n < length xs
get-within [] n x at = absurd cc
get-within (y ∷ xs) zero x at = omega arith
get-within (y ∷ xs) (suc n) x at = let l = get-within xs n x at in omega (arith, l)

pub get-at : {X : Type 0} (xs : List X) (n : ℕ) (d : X) → n < length xs → slice_get xs n ≡ Some (get_or xs n d)
get-at [] n d l = absurd (omega arith)
get-at (y ∷ xs) zero d l = refl
get-at (y ∷ xs) (suc n) d l = get-at xs n d (omega (arith, l))

get_or-get : {X : Type 0} (xs : List X) (n : ℕ) (x d : X) → slice_get xs n ≡ Some x → get_or xs n d ≡ x
get_or-get [] n x d at = absurd cc
get_or-get (y ∷ xs) zero x d at = cc
get_or-get (y ∷ xs) (suc n) x d at = get_or-get xs n x d at

pub take-get_more : {X : Type 0} (xs : List X) (n : ℕ) (x : X) → slice_get xs n ≡ Some x → take (n + 1) xs ≡ take n xs ++ x ∷ []
take-get_more {X} xs n x at = take_more xs n x (get-within xs n x at) ∙ ap (λ (z : X). take n xs ++ z ∷ []) (get_or-get xs n x x at)

pub take-map_more : {X Y : Type 0} (f : X → Y) (xs : List X) (n : ℕ) (x : X) → slice_get xs n ≡ Some x → map f (take (n + 1) xs) ≡ map f (take n xs) ++ f x ∷ []
take-map_more f xs n x at = ap (map f) (take-get_more xs n x at) ∙ map-append f (take n xs) (x ∷ [])

pub length-take_within : {X : Type 0} (xs : List X) (n : ℕ) (x : X) → slice_get xs n ≡ Some x → length (take n xs) ≡ n
length-take_within [] n x at = absurd cc
length-take_within (y ∷ xs) zero x at = refl
length-take_within (y ∷ xs) (suc n) x at = ap suc (length-take_within xs n x at)

-- ---- over all statements

fine-kind : (statements : List Statement) (old new : Values) (number : ℕ) (kind : Kind) → ((n : ℕ) → is_some (old n) ≡ true → is_some (new n) ≡ true) → IsFineKind statements old number kind → IsFineKind statements new number kind
fine-kind statements old new number (kinds.Const name expr) grows fine = (fine.0, grows number fine.1)
fine-kind statements old new number (kinds.Rule head body) grows fine = tt
fine-kind statements old new number (kinds.Facts fact) grows fine = tt
fine-kind statements old new number (kinds.Show shown) grows fine = tt

fine-grows : (statements : List Statement) (old new : Values) (number : ℕ) (s : Option Statement) → ((n : ℕ) → is_some (old n) ≡ true → is_some (new n) ≡ true) → IsFine statements old number s → IsFine statements new number s
fine-grows statements old new number None grows fine = tt
fine-grows statements old new number (Some s) grows fine = fine-kind statements old new number s.kind grows fine

pub fine_more : (statements : List Statement) (old new : List (Option Value)) (count : ℕ) (s : Statement) → AreFine statements (by_number old) count → Grows old new → slice_get statements count ≡ Some s → IsFineKind statements (by_number new) count s.kind → AreFine statements (by_number new) (count + 1)
fine_more statements old new count s fine grows at this number l =
    ⊎_elim (λ (e : number ≡ count). subst (λ (n : ℕ). IsFine statements (by_number new) n (slice_get statements n)) (sym e) (subst (λ (o : Option Statement). IsFine statements (by_number new) count o) (sym at) this)) (λ (b : number < count). fine-grows statements (by_number old) (by_number new) number (slice_get statements number) grows (fine number b)) (split number count l)
  where
    split : (a b : ℕ) → a < b + 1 → (a ≡ b) ⊎ (a < b)
    split zero zero less = inl refl
    split zero (suc b) less = inr (omega arith)
    split (suc a) zero less = absurd (omega (arith, less))
    split (suc a) (suc b) less = ⊎_elim (λ e. inl (ap suc e)) (λ s'. inr (omega (arith, s'))) (split a b (omega (arith, less)))

given : (K : Values) (n : ℕ) → is_some (K n) ≡ true → (v : Value) × (K n ≡ Some v)
given K n is = of (K n) refl is
  where
    of : (o : Option Value) → K n ≡ o → is_some o ≡ true → (v : Value) × (K n ≡ Some v)
    of None e some = absurd (false≢true some)
    of (Some v) e some = (v, e)

module _ (statements : List Statement) (symbols : List Term) where
  abbrev links : List (Option ℕ)
  links = links_of statements symbols

  sound-kind : (known : Values) (number : ℕ) (kind : Kind) → AreSound statements links known → IsFineKind statements known number kind → IsSoundConstant statements symbols number kind
  sound-kind known number (kinds.Const name expr) sound fine =
      let g = given known number fine.1 in
      (fine.0, (g.0, (sound.0, sound.1 number g.0 g.1)))
  sound-kind known number (kinds.Rule head body) sound fine = tt
  sound-kind known number (kinds.Facts fact) sound fine = tt
  sound-kind known number (kinds.Show shown) sound fine = tt

  pub sound_constants : (known : Values) (count : ℕ) → AreSound statements links known → AreFine statements known count → AreSoundConstants statements symbols count
  sound_constants known count sound fine number s l at =
      sound-kind known number s.kind sound (subst (λ (o : Option Statement). IsFine statements known number o) at (fine number l))

  faulty-kind : (number : ℕ) (kind : Kind) → IsFaultyKind statements links number kind → (name : List ℕ) × IsFaultyConstant statements symbols number kind name
  faulty-kind number (kinds.Const name expr) faulty = (name, (refl, faulty))
  faulty-kind number (kinds.Rule head body) faulty = absurd faulty
  faulty-kind number (kinds.Facts fact) faulty = absurd faulty
  faulty-kind number (kinds.Show shown) faulty = absurd faulty

  pub first_faulty : (number : ℕ) → IsFirstUnfit statements links number → IsFirstFaulty statements symbols number
  first_faulty number unfit =
      let w = unfit.0 in
      ((w.0, w.1, faulty-kind number w.0.kind w.2), sound_constants unfit.1.0 number unfit.1.1 unfit.1.2)

  -- what has a value is a constant of a statement
  known-kind : (K known : Values) (number : ℕ) (value : Value) (kind : Kind) → kind_value links K kind ≡ Some value → IsFineKind statements known number kind → is_some (known number) ≡ true
  known-kind K known number value (kinds.Const name expr) is fine = fine.1
  known-kind K known number value (kinds.Rule head body) is fine = absurd cc
  known-kind K known number value (kinds.Facts fact) is fine = absurd cc
  known-kind K known number value (kinds.Show shown) is fine = absurd cc

  known-statement : (K known : Values) (number : ℕ) (value : Value) (s : Option Statement) → statement_value links K s ≡ Some value → IsFine statements known number s → is_some (known number) ≡ true
  known-statement K known number value None is fine = absurd cc
  known-statement K known number value (Some s) is fine = known-kind K known number value s.kind is fine

  within : (K : Values) (number : ℕ) (value : Value) (s : Option Statement) → statement_value links K s ≡ Some value → (x : Statement) × (s ≡ Some x)
  within K number value None is = absurd cc
  within K number value (Some s) is = (s, refl)

  has-known : (known : Values) (number : ℕ) (value : Value) (rounds : ℕ) → AreFine statements known (length statements) → values_after statements links rounds number ≡ Some value → is_some (known number) ≡ true
  has-known known number value zero fine is = absurd cc
  has-known known number value (suc rounds) fine is =
      let w = within (values_after statements links rounds) number value (slice_get statements number) is in
      known-statement (values_after statements links rounds) known number value (slice_get statements number) is (fine number (get-within statements number w.0 w.1))

  pub are_values : (known : Values) → AreSound statements links known → AreFine statements known (length statements) → AreValues statements symbols known
  are_values known sound fine number value = (
    λ is. (sound.0, sound.1 number value is),
    λ has.
        let g = given known number (has-known known number value has.0 fine has.1) in
        g.1 ∙ ap (λ (v : Value). Some v) (one statements links sound.0 has.0 number g.0 value (sound.1 number g.0 g.1) has.1),
  )

-- ---- at the start nothing is known

none-known : (count number : ℕ) → by_number (replicate count None) number ≡ None
none-known zero number = refl
none-known (suc count) zero = refl
none-known (suc count) (suc number) = none-known count number

none-tried : (count number : ℕ) → slice_index_or (replicate count false) number false ≡ false
none-tried zero number = refl
none-tried (suc count) zero = refl
none-tried (suc count) (suc number) = none-tried count number

pub settled-none : (statements : List Statement) (links : List (Option ℕ)) (count : ℕ) → count ≡ length statements → IsSettled statements links (replicate count None) (replicate count false)
settled-none statements links count is =
    record {
      known_count = length-replicate count None ∙ is;
      tried_count = length-replicate count false ∙ is;
      sound = (zero, λ number value e. absurd (none-some (none-known count number) e));
      settled = λ number e. absurd (false≢true (sym (none-tried count number) ∙ e));
    }
  where
    none-some : {o : Option Value} {value : Value} → o ≡ None → o ≡ Some value → ⊥
    none-some a b = absurd cc
