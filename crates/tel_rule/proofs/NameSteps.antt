-- One name more in a rising list, at its place.
use Rattle.std.proofs.Common.{◌≡◌, ℕ, zero, suc, ◌<◌, List, [], ◌∷◌, ◌++◌, length, take, drop, get_or, insert, sym, ap, ◌∙◌, append_assoc}
use Rattle.std.proofs.Math.Seq.{drop-cons}
use Rattle.std.proofs.lemmas.List.{take-append-drop}
use Rattle.std.specs.Ordering.{match_ordering}
use Rattle.std.specs.declared.cmp.Ordering.{Ordering}
use Rattle.std.specs.declared.cmp.Ordering.TheVariants.{Less, Equal, Greater}
use Rattle.tel_rule.specs.Rising.{name_cmp, with_name}

-- the name at a place, and those after it
pub names_at : (names : List (List ℕ)) (place : ℕ) (other key : List ℕ) → place < length names → other ≡ get_or names place other → key ≡ other → drop place names ≡ key ∷ drop (suc place) names
names_at names place other key within there same =
    drop-cons names place other within ∙ ap (λ first. first ∷ drop (suc place) names) (sym there ∙ sym same)

-- how a name is put into a list that begins with another
with_name-by : (name first : List ℕ) (more : List (List ℕ)) (order : Ordering) → order ≡ name_cmp name first → with_name name (first ∷ more) ≡ match_ordering order (name ∷ first ∷ more) (first ∷ more) (first ∷ with_name name more)
with_name-by name first more order e = ap (λ (o : Ordering). match_ordering o (name ∷ first ∷ more) (first ∷ more) (first ∷ with_name name more)) (sym e)

pub with_name-less : (names : List (List ℕ)) (place : ℕ) (name first : List ℕ) → drop place names ≡ first ∷ drop (suc place) names → Less ≡ name_cmp name first → with_name name names ≡ take place names ++ with_name name (drop place names) → with_name name names ≡ insert names place name
with_name-less names place name first rest less whole =
    whole ∙ ap (λ tail. take place names ++ tail) (ap (with_name name) rest ∙ with_name-by name first (drop (suc place) names) Less less ∙ ap (λ tail. name ∷ tail) (sym rest))

pub with_name-equal : (names : List (List ℕ)) (place : ℕ) (name first : List ℕ) → drop place names ≡ first ∷ drop (suc place) names → Equal ≡ name_cmp name first → with_name name names ≡ take place names ++ with_name name (drop place names) → with_name name names ≡ names
with_name-equal names place name first rest equal whole =
    whole ∙ ap (λ tail. take place names ++ tail) (ap (with_name name) rest ∙ with_name-by name first (drop (suc place) names) Equal equal ∙ sym rest) ∙ take-append-drop place names

pub with_name-greater : (names : List (List ℕ)) (place : ℕ) (name first : List ℕ) → drop place names ≡ first ∷ drop (suc place) names → Greater ≡ name_cmp name first → with_name name names ≡ take place names ++ with_name name (drop place names) → with_name name names ≡ take (suc place) names ++ with_name name (drop (suc place) names)
with_name-greater names place name first rest greater whole =
    whole
    ∙ ap (λ tail. take place names ++ tail) (ap (with_name name) rest ∙ with_name-by name first (drop (suc place) names) Greater greater)
    ∙ sym (append_assoc (take place names) (first ∷ []) (with_name name (drop (suc place) names)))
    ∙ ap (λ front. front ++ with_name name (drop (suc place) names)) (sym (taken names place first rest))
  where
    taken : (names : List (List ℕ)) (place : ℕ) (first : List ℕ) → drop place names ≡ first ∷ drop (suc place) names → take (suc place) names ≡ take place names ++ first ∷ []
    taken [] zero first rest = absurd cc
    taken [] (suc place) first rest = absurd cc
    taken (x ∷ xs) zero first rest = cc
    taken (x ∷ xs) (suc place) first rest = ap (λ tail. x ∷ tail) (taken xs place first rest)
