-- Finding the text of a name, entry by entry.
use Rattle.std.specs.Prelude.{◌≡◌, ℕ, ◌+◌, ◌<◌, suc, true, false, List, ◌∷◌, Some, length, drop, map, bytes_eq}
use Rattle.std.proofs.Common.{refl, sym, ◌∙◌, ap, get_or, add-one, drop-cons}
use Rattle.std.proofs.lemmas.Option.{slice_get_read}
use Rattle.std.specs.List.{slice_get}
use Rattle.std.specs.Option.{option_map}
use Rattle.tel_base.specs.Given.{text_of}

-- what is left from the place of an entry begins with it
from_entry : {E : Type 0} (entries : List E) (place : ℕ) (entry : E) → place < length entries → entry ≡ get_or entries place entry
    → drop place entries ≡ entry ∷ drop (place + 1) entries
from_entry entries place entry h e =
    rw add-one (drop-cons entries place entry h ∙ ap (λ x. x ∷ drop (suc place) entries) (sym e))

-- an entry of another name tells nothing
pub text_of-other : {E : Type 0} (word text : E → List ℕ) (entries : List E) (place : ℕ) (entry : E) (name : List ℕ)
    → place < length entries → entry ≡ get_or entries place entry → bytes_eq (word entry) name ≡ false
    → text_of (map (λ e. (word e, text e)) (drop place entries)) name ≡ text_of (map (λ e. (word e, text e)) (drop (place + 1) entries)) name
text_of-other word text entries place entry name h e n = rw (from_entry entries place entry h e, n)

-- an entry of the name tells its text
pub text_of-found : {E : Type 0} (word text : E → List ℕ) (entries : List E) (place : ℕ) (entry : E) (name : List ℕ)
    → place < length entries → entry ≡ get_or entries place entry → bytes_eq (word entry) name ≡ true
    → text_of (map (λ e. (word e, text e)) (drop place entries)) name ≡ Some (text entry)
text_of-found word text entries place entry name h e n = rw (from_entry entries place entry h e, n)

-- the text of a name is that of the entry whose place was found
pub text_of-place : {E : Type 0} (word text : E → List ℕ) (entries shown : List E) (texts : List (List ℕ × List ℕ))
    (name bytes : List ℕ) (place : ℕ) (entry : E)
    → map (λ e. (word e, text e)) entries ≡ texts → shown ≡ entries → place < length shown
    → entry ≡ get_or entries place entry → bytes ≡ text entry
    → option_map text (slice_get shown place) ≡ text_of (map (λ e. (word e, text e)) shown) name
    → text_of texts name ≡ Some bytes
text_of-place word text entries shown texts name bytes place entry viewed same within where_is is found =
    let here : slice_get shown place ≡ Some entry = slice_get_read shown _ place entry refl within (rw same where_is) in
    rw (← viewed, ← same) (sym found ∙ ap (option_map text) here ∙ ap Some (sym is))
