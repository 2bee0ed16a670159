-- The texts of the file words, one after another.
use Rattle.std.proofs.Common.{map, ◌≡◌, ℕ, ◌+◌, ◌<◌, ◌≤◌, zero, suc, Bool, true, false, ◌||◌, cond, not, nat_lt, List, [], ◌∷◌, ◌++◌, length, take, drop, get_or, Option, Some, None, unwrap_or, refl, sym, ap, ◌∙◌, subst, arith, IfSome}
use Rattle.std.specs.List.{prefix_len, list_any}
use Rattle.std.specs.Str.{bytes_eq}
use Rattle.std.proofs.Math.Seq.{drop-cons}
use Rattle.std.proofs.lemmas.List.{take_more, take-append-drop}
use Rattle.std.proofs.lemmas.List.Sums.{sum_by-append, sum_by-cons, sum_by-take-drop}
use Rattle.std.proofs.lemmas.Slice.Eq.{bytes_eq-Decides}
use Rattle.tel_base.specs.Counts.{Rose}
use Rattle.tel_rule.specs.Rising.{has_name}
use Rattle.part_syntax.specs.Programs.{total_bytes}
use Rattle.text_answer.specs.Verdict.{largest_text}
use Rattle.telingo_cli.specs.Reading.{IsTold, HasMore}
use Rattle.telingo_cli.specs.Texts.{AreTold, HaveLargeTexts, FailsAt, first_place}

pub told-append : (told : List ℕ → Option (List ℕ)) (a b xs ys : List (List ℕ)) → AreTold told a xs → AreTold told b ys → AreTold told (a ++ b) (xs ++ ys)
told-append told [] b xs ys first second = subst (λ (zs : List (List ℕ)). AreTold told b (zs ++ ys)) (sym first) second
told-append told (name ∷ a) b xs ys first second =
    (first.0, first.1 ++ ys, ap (λ (zs : List (List ℕ)). zs ++ ys) first.2, first.3, told-append told a b first.1 ys first.4 second)

-- each name has one text
pub told-length : (told : List ℕ → Option (List ℕ)) (names texts : List (List ℕ)) → AreTold told names texts → length texts ≡ length names
told-length told [] texts is = ap length is
told-length told (name ∷ names) texts is = ap length is.2 ∙ omega (arith, told-length told names is.1 is.4)

-- one name more
pub told-more : (told : List ℕ → Option (List ℕ)) (names texts : List (List ℕ)) (place : ℕ) (name text : List ℕ) → place < length names → name ≡ get_or names place name → AreTold told (take place names) texts → IsTold (told name) text → AreTold told (take (place + 1) names) (texts ++ text ∷ [])
told-more told names texts place name text within there before here =
    subst (λ (front : List (List ℕ)). AreTold told front (texts ++ text ∷ [])) (sym (take_more names place name within ∙ ap (λ (n : List ℕ). take place names ++ n ∷ []) (sym there)))
    (told-append told (take place names) (name ∷ []) texts (text ∷ []) before (text, [], refl, here, refl))

told_or : (told : Option (List ℕ)) → (text : List ℕ) × IsTold told text
told_or None = ([], tt)
told_or (Some text) = (text, refl)

-- names have texts
told_texts : (told : List ℕ → Option (List ℕ)) (names : List (List ℕ)) → (texts : List (List ℕ)) × AreTold told names texts
told_texts told [] = ([], refl)
told_texts told (name ∷ names) =
    let first = told_or (told name) in
    let more = told_texts told names in
    (first.0 ∷ more.0, (first.0, more.0, refl, first.1, more.1))

total-append : (a b : List (List ℕ)) → total_bytes (a ++ b) ≡ total_bytes a + total_bytes b
total-append a b = sum_by-append (λ (text : List ℕ). length text) a b

pub total-more : (texts : List (List ℕ)) (text : List ℕ) → total_bytes (texts ++ text ∷ []) ≡ total_bytes texts + length text
total-more texts text = total-append texts (text ∷ []) ∙ ap (λ n. total_bytes texts + n) (sum_by-cons (λ (t : List ℕ). length t) text [] ∙ omega arith)

-- the texts so far and one that is too long for the rest
pub large_files : (told : List ℕ → Option (List ℕ)) (names texts : List (List ℕ)) (place most : ℕ) (name : List ℕ) → place < length names → name ≡ get_or names place name → AreTold told (take place names) texts → most + total_bytes texts ≡ largest_text → HasMore (told name) most → HaveLargeTexts told names
large_files told names texts place most name within there before total more =
    let rest = told_texts told (drop (suc place) names) in
    let parts : names ≡ take place names ++ (name ∷ drop (suc place) names) = sym (take-append-drop place names) ∙ ap (λ tail. take place names ++ tail) (drop-cons names place name within ∙ ap (λ y. y ∷ drop (suc place) names) (sym there)) in
    let all = texts ++ (more.0 ∷ rest.0) in
    let sum : total_bytes all ≡ total_bytes texts + (length more.0 + total_bytes rest.0) = total-append texts (more.0 ∷ rest.0) ∙ ap (λ n. total_bytes texts + n) (sum_by-cons (λ (t : List ℕ). length t) more.0 rest.0) in (
      all,
      subst (λ (ns : List (List ℕ)). AreTold told ns all) (sym parts) (told-append told (take place names) (name ∷ drop (suc place) names) texts (more.0 ∷ rest.0) before (more.0, rest.0, refl, more.1, rest.1)),
      omega (arith, sum, more.2),
    )

-- the whole texts are those that were read
pub whole-told : (told : List ℕ → Option (List ℕ)) (names texts read : List (List ℕ)) → map told names ≡ map Some texts → AreTold told names read → texts ≡ read
whole-told told [] [] read whole is = sym is
whole-told told [] (text ∷ texts) read whole is = absurd cc
whole-told told (name ∷ names) [] read whole is = absurd cc
whole-told told (name ∷ names) (text ∷ texts) read whole is =
    let here : told name ≡ Some text = cc in
    let more : map told names ≡ map Some texts = cc in
    let first : text ≡ is.0 = subst (λ (o : Option (List ℕ)). IsTold o is.0) here is.3 in
    (λ i. first i ∷ whole-told told names texts is.1 more is.4 i) ∙ sym is.2

told-take : (told : List ℕ → Option (List ℕ)) (names texts : List (List ℕ)) (k : ℕ) → AreTold told names texts → AreTold told (take k names) (take k texts)
told-take told names texts zero is = refl
told-take told [] texts (suc k) is = ap (take (suc k)) is
told-take told (name ∷ names) texts (suc k) is =
    (is.0, take k is.1, ap (take (suc k)) is.2, is.3, told-take told names is.1 k is.4)

total-take : (texts : List (List ℕ)) (k : ℕ) → total_bytes (take k texts) ≤ total_bytes texts
total-take texts k = omega (arith, sum_by-take-drop (λ (text : List ℕ). length text) texts k)

same_bytes : (name : List ℕ) → bytes_eq name name ≡ true
same_bytes name = (bytes_eq-Decides name name).1 refl

prefix_len-at : (names : List (List ℕ)) (place : ℕ) (name : List ℕ) → place < length names → name ≡ get_or names place name → prefix_len (λ x. not (bytes_eq name x)) names ≤ place
prefix_len-at [] place name within there = absurd (omega arith)
prefix_len-at (x ∷ xs) zero name within there =
    let same : bytes_eq name x ≡ true = subst (λ (y : List ℕ). bytes_eq name y ≡ true) there (same_bytes name) in
    subst (λ (b : Bool). cond (not b) (1 + prefix_len (λ y. not (bytes_eq name y)) xs) 0 ≤ 0) (sym same) (omega arith)
prefix_len-at (x ∷ xs) (suc place) name within there =
    let more = prefix_len-at xs place name (omega arith) there in
    elim (bytes_eq name x) as (λ b. cond (not b) (1 + prefix_len (λ y. not (bytes_eq name y)) xs) 0 ≤ suc place) [ true ↦ omega arith | false ↦ omega (arith, more) ]

chosen-le : (b : Bool) (place : ℕ) → unwrap_or (cond b (Some place) None) 0 ≤ place
chosen-le true place = omega arith
chosen-le false place = omega arith

first_place-le : (names : List (List ℕ)) (place : ℕ) (name : List ℕ) → place < length names → name ≡ get_or names place name → first_place names name ≤ place
first_place-le names place name within there =
    let chosen = chosen-le (nat_lt (prefix_len (λ x. not (bytes_eq name x)) names) (length names)) (prefix_len (λ x. not (bytes_eq name x)) names) in
    omega (arith, chosen, prefix_len-at names place name within there)

has_name-at : (names : List (List ℕ)) (place : ℕ) (name : List ℕ) → place < length names → name ≡ get_or names place name → has_name names name ≡ true
has_name-at [] place name within there = absurd (omega arith)
has_name-at (x ∷ xs) zero name within there =
    let same : bytes_eq name x ≡ true = subst (λ (y : List ℕ). bytes_eq name y ≡ true) there (same_bytes name) in
    ap (λ b. b || list_any (bytes_eq name) xs) same
has_name-at (x ∷ xs) (suc place) name within there =
    let more = has_name-at xs place name (omega arith) there in
    elim (bytes_eq name x) as (λ b. (b || list_any (bytes_eq name) xs) ≡ true) [ true ↦ refl | false ↦ more ]

take-take-le : (names : List (List ℕ)) (k place : ℕ) → k ≤ place → take k (take place names) ≡ take k names
take-take-le names zero place below = refl
take-take-le [] (suc k) zero below = absurd (omega arith)
take-take-le [] (suc k) (suc place) below = refl
take-take-le (x ∷ xs) (suc k) zero below = absurd (omega arith)
take-take-le (x ∷ xs) (suc k) (suc place) below = ap (λ (more : List (List ℕ)). x ∷ more) (take-take-le xs k place (omega arith))

-- a read of the name at a place failed, when the texts before it had been read
pub fails-at : (names texts : List (List ℕ)) (told : List ℕ → Option (List ℕ)) (failed : Option (List ℕ)) (before now place : ℕ) (name : List ℕ) → place < length names → name ≡ get_or names place name → AreTold told (take place names) texts → total_bytes texts ≤ largest_text → Rose before now → IfSome failed (λ word. word ≡ name) → FailsAt names told failed before now name
fails-at names texts told failed before now place name within there is small rose named =
    let k = first_place names name in
    record {
      is_file = has_name-at names place name within there;
      rose = rose;
      named = named;
      small_before = (take k texts, subst (λ (ns : List (List ℕ)). AreTold told ns (take k texts)) (take-take-le names k place (first_place-le names place name within there)) (told-take told (take place names) texts k is), omega (arith, total-take texts k));
    }
