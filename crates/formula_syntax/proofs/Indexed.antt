-- What the index of the variables says of their list, and how both grow.
use Rattle.std.proofs.Common.{◌≡◌, ℕ, suc, ◌<◌, Bool, true, false, cond, List, [], ◌∷◌, ◌++◌, length, Option, Some, None, refl, sym, ap, ◌∙◌, arith, inl, inr}
use Rattle.std.specs.Prelude.{bytes_eq, if◌then◌else◌}
use Rattle.std.specs.Option.{option_map}
use Rattle.std.specs.Cmp.Lexicographic.{bytes_decides}
use Rattle.std.proofs.lemmas.Bool.{cases_Bool}
use Rattle.indexmap.specs.IndexMap.{IndexMap, get, Updates, IsEmpty}
use Rattle.formula_syntax.specs.Grammar.{place_in, with_var}
use Rattle.formula_syntax.specs.Variables.{found, IsIndex}

-- a name that is there: its place, and no variable more
pub record There (name : List ℕ) (names : List (List ℕ)) (place : ℕ) : Type 0 where
  pub place_is : place ≡ place_in name names
  pub within : place < length names
  pub same : names ≡ with_var name names

-- a name that isn't there yet
pub record New (name : List ℕ) (names : List (List ℕ)) : Type 0 where
  pub place_is : length names ≡ place_in name names
  pub grown : names ++ name ∷ [] ≡ with_var name names

map-some : (found_at : Option ℕ) (place : ℕ) → option_map suc found_at ≡ Some place → (before : ℕ) × (found_at ≡ Some before) × (place ≡ suc before)
map-some None place is = absurd cc
map-some (Some before) place is = (before, refl, let e : suc before ≡ place = cc in sym e)

map-none : (found_at : Option ℕ) → option_map suc found_at ≡ None → found_at ≡ None
map-none None is = refl
map-none (Some before) is = absurd cc

there_at : (name first : List ℕ) (more : List (List ℕ)) (place : ℕ) (test : Bool) → bytes_eq name first ≡ test → ((before : ℕ) → found name more ≡ Some before → There name more before) → (if test then Some 0 else option_map suc (found name more)) ≡ Some place → There name (first ∷ more) place
there_at name first more place true is later at =
    let zero_is : 0 ≡ place = cc in
    record { place_is = sym zero_is ∙ rw is refl; within = omega arith; same = rw is refl }
there_at name first more place false is later at =
    let m = map-some (found name more) place at in
    let t = later m.0 m.1 in
    record { place_is = rw is (m.2 ∙ ap suc t.place_is); within = omega (arith, m.2, t.within); same = rw is (ap (λ (ns : List (List ℕ)). first ∷ ns) t.same) }

pub there : (name : List ℕ) (names : List (List ℕ)) (place : ℕ) → found name names ≡ Some place → There name names place
there name [] place at = absurd cc
there name (first ∷ more) place at = there_at name first more place (bytes_eq name first) refl (there name more) at

new_at : (name first : List ℕ) (more : List (List ℕ)) (test : Bool) → bytes_eq name first ≡ test → (found name more ≡ None → New name more) → (if test then Some 0 else option_map suc (found name more)) ≡ None → New name (first ∷ more)
new_at name first more true is later at = absurd cc
new_at name first more false is later at =
    let n = later (map-none (found name more) at) in
    record { place_is = rw is (ap suc n.place_is); grown = rw is (ap (λ (ns : List (List ℕ)). first ∷ ns) n.grown) }

pub new : (name : List ℕ) (names : List (List ℕ)) → found name names ≡ None → New name names
new name [] at = record { place_is = refl; grown = refl }
new name (first ∷ more) at = new_at name first more (bytes_eq name first) refl (new name more) at

-- ---- one name more

-- where a name was before one more, it is still
kept_at : (name first last : List ℕ) (more : List (List ℕ)) (place : ℕ) (test : Bool) → ((before : ℕ) → found name more ≡ Some before → found name (more ++ last ∷ []) ≡ Some before) → (if test then Some 0 else option_map suc (found name more)) ≡ Some place → (if test then Some 0 else option_map suc (found name (more ++ last ∷ []))) ≡ Some place
kept_at name first last more place true later at = at
kept_at name first last more place false later at =
    let m = map-some (found name more) place at in
    ap (option_map suc) (later m.0 m.1) ∙ ap Some (sym m.2)

kept : (name last : List ℕ) (names : List (List ℕ)) (place : ℕ) → found name names ≡ Some place → found name (names ++ last ∷ []) ≡ Some place
kept name last [] place at = absurd cc
kept name last (first ∷ more) place at = kept_at name first last more place (bytes_eq name first) (kept name last more) at

added_at : (name first last : List ℕ) (more : List (List ℕ)) (test : Bool) → (found name more ≡ None → found name (more ++ last ∷ []) ≡ (if bytes_eq name last then Some (length more) else None)) → (if test then Some 0 else option_map suc (found name more)) ≡ None → (if test then Some 0 else option_map suc (found name (more ++ last ∷ []))) ≡ (if bytes_eq name last then Some (suc (length more)) else None)
added_at name first last more true later at = absurd cc
added_at name first last more false later at =
    ap (option_map suc) (later (map-none (found name more) at)) ∙ map-test (bytes_eq name last)
  where
    map-test : (b : Bool) → option_map suc (if b then Some (length more) else None) ≡ (if b then Some (suc (length more)) else None)
    map-test true = refl
    map-test false = refl

-- where it wasn't, it is the last one or none
added : (name last : List ℕ) (names : List (List ℕ)) → found name names ≡ None → found name (names ++ last ∷ []) ≡ (if bytes_eq name last then Some (length names) else None)
added name last [] at = refl
added name last (first ∷ more) at = added_at name first last more (bytes_eq name first) (added name last more) at

flipped : (a b : List ℕ) → bytes_eq a b ≡ false → bytes_eq b a ≡ false
flipped a b not_same = elim (cases_Bool (bytes_eq b a)) [
  | inl is ↦ let same : a ≡ b = sym ((bytes_decides b a).0 is) in let e : bytes_eq a b ≡ true = (bytes_decides a b).1 same in absurd cc
  | inr isnt ↦ isnt
]

module _ {S : Type 0} where
  pub indexed-none : (places : IndexMap (List ℕ) ℕ S) (names : List (List ℕ)) → IsEmpty places → names ≡ [] → IsIndex places names
  indexed-none places names none empty = record { finds = λ name. rw (none, empty) refl }

  -- a name that wasn't there
  other : (old new : IndexMap (List ℕ) ℕ S) (names : List (List ℕ)) (key name : List ℕ) → IsIndex old names → found key names ≡ None → Updates bytes_eq old new key (Some (length names)) → get bytes_eq new name ≡ found name (names ++ key ∷ [])
  other old new names key name i absent u = elim (cases_Bool (bytes_eq key name)) [
    | inl is ↦
        let same : key ≡ name = (bytes_decides key name).0 is in
        let none : found name names ≡ None = ap (λ (n : List ℕ). found n names) (sym same) ∙ absent in
        let back : bytes_eq name key ≡ true = (bytes_decides name key).1 (sym same) in
        u.0 name ∙ ap (λ (b : Bool). cond b (Some (length names)) (get bytes_eq old name)) is
        ∙ sym (added name key names none ∙ ap (λ (b : Bool). if b then Some (length names) else None) back)
    | inr isnt ↦ u.0 name ∙ ap (λ (b : Bool). cond b (Some (length names)) (get bytes_eq old name)) isnt ∙ i.finds name ∙ sym (beside name (found name names) refl isnt)
  ] where
    beside : (name' : List ℕ) (at : Option ℕ) → found name' names ≡ at → bytes_eq key name' ≡ false → found name' (names ++ key ∷ []) ≡ found name' names
    beside name' None is isnt' = added name' key names is ∙ ap (λ (b : Bool). if b then Some (length names) else None) (flipped key name' isnt') ∙ sym is
    beside name' (Some place) is isnt' = kept name' key names place is ∙ sym is

  pub indexed-new : (old new : IndexMap (List ℕ) ℕ S) (names : List (List ℕ)) (key : List ℕ) → IsIndex old names → found key names ≡ None → Updates bytes_eq old new key (Some (length names)) → IsIndex new (names ++ key ∷ [])
  indexed-new old new names key i absent u = record { finds = λ name. other old new names key name i absent u }

  -- a name that was there already
  pub indexed-again : (places : IndexMap (List ℕ) ℕ S) (names : List (List ℕ)) (key : List ℕ) (place : ℕ) → IsIndex places names → found key names ≡ Some place → IsIndex places (names ++ key ∷ [])
  indexed-again places names key place i there = record { finds = λ name. again name (found name names) refl }
    where
      again : (name : List ℕ) (at : Option ℕ) → found name names ≡ at → get bytes_eq places name ≡ found name (names ++ key ∷ [])
      again name (Some here) is = i.finds name ∙ is ∙ sym (kept name key names here is)
      again name None is = elim (cases_Bool (bytes_eq name key)) [
        | inl same ↦ let e : name ≡ key = (bytes_decides name key).0 same in let f : found name names ≡ Some place = ap (λ (n : List ℕ). found n names) e ∙ there in absurd cc
        | inr isnt ↦ i.finds name ∙ is ∙ sym (added name key names is ∙ ap (λ (b : Bool). if b then Some (length names) else None) isnt)
      ]
