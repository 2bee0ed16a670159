-- How the tokens of each kind are spelled.
use Rattle.std.specs.Prelude.{ℕ, Bool, false, not, ◌&&◌, ◌||◌, ◌==◌, nat_le, List, [], ◌∷◌, codes, if◌then◌else◌}
use Rattle.std.specs.List.{list_all, list_any}
use Rattle.std.specs.Str.{bytes_eq}
use Rattle.tel_lex.specs.declared.token.TokenKind.{TokenKind}
use Rattle.tel_lex.specs.declared.token.TokenKind.TheVariants as kinds

-- a space, a tab, a carriage return or a line feed
abbrev pub is_white : ℕ → Bool
is_white byte = byte == 32 || byte == 9 || byte == 13 || byte == 10

abbrev pub is_between : ℕ → ℕ → ℕ → Bool
is_between least most byte = nat_le least byte && nat_le byte most

abbrev pub is_lower : ℕ → Bool
is_lower byte = is_between 97 122 byte

abbrev pub is_upper : ℕ → Bool
is_upper byte = is_between 65 90 byte

abbrev pub is_digit : ℕ → Bool
is_digit byte = is_between 48 57 byte

-- a letter, a digit or `_`
abbrev pub is_word_byte : ℕ → Bool
is_word_byte byte = is_lower byte || is_upper byte || is_digit byte || byte == 95

-- a lower-case letter, and then letters, digits and `_`
abbrev pub is_name : List ℕ → Bool
is_name [] = false
is_name (first ∷ more) = is_lower first && list_all is_word_byte more

-- any number of `_`, an upper-case letter, and then letters, digits and `_`
abbrev pub is_variable : List ℕ → Bool
is_variable [] = false
is_variable (first ∷ more) = if first == 95 then is_variable more else is_upper first && list_all is_word_byte more

abbrev pub is_blank : List ℕ → Bool
is_blank bytes = bytes_eq bytes (codes "_")

-- one digit or more
abbrev pub is_number : List ℕ → Bool
is_number [] = false
is_number (first ∷ more) = is_digit first && list_all is_digit more

-- what may stand behind a backslash in a string: a quote, a backslash or `n`
abbrev pub is_escape : ℕ → Bool
is_escape byte = byte == 34 || byte == 92 || byte == 110

-- the rest of a string, behind its first quote: escapes and bytes other than a quote, a backslash and byte 10, and a quote at the end
abbrev pub is_string_rest : List ℕ → Bool
is_string_rest [] = false
is_string_rest (byte ∷ []) = byte == 34
is_string_rest (byte ∷ next ∷ more) =
    if byte == 92 then is_escape next && is_string_rest more
    else not (byte == 34 || byte == 10) && is_string_rest (next ∷ more)

abbrev pub is_str : List ℕ → Bool
is_str [] = false
is_str (first ∷ more) = first == 34 && is_string_rest more

abbrev pub hashes : List (List ℕ)
hashes = codes "#program" ∷ codes "#const" ∷ codes "#show" ∷ []

abbrev pub is_hash : List ℕ → Bool
is_hash bytes = list_any (bytes_eq bytes) hashes

abbrev pub signs : List (List ℕ)
signs =
    codes ":-" ∷ codes ".." ∷ codes "." ∷ codes "," ∷ codes ";" ∷ codes "(" ∷ codes ")" ∷ codes "{" ∷ codes "}" ∷ codes "'"
    ∷ codes "~" ∷ codes "&" ∷ codes "|" ∷ codes "->" ∷ codes "<-" ∷ codes "<>" ∷ codes "<*" ∷ codes "<?" ∷ codes "<:" ∷ codes "<<"
    ∷ codes "<=" ∷ codes "<" ∷ codes ">*" ∷ codes ">?" ∷ codes ">:" ∷ codes ">>" ∷ codes ">=" ∷ codes ">" ∷ codes "=" ∷ codes "!="
    ∷ codes "+" ∷ codes "-" ∷ codes "*" ∷ codes "/" ∷ codes "\\" ∷ []

abbrev pub is_sign : List ℕ → Bool
is_sign bytes = list_any (bytes_eq bytes) signs

-- the spellings of a kind
abbrev pub is_spelling : TokenKind → List ℕ → Bool
is_spelling kinds.Name bytes = is_name bytes
is_spelling kinds.Variable bytes = is_variable bytes
is_spelling kinds.Blank bytes = is_blank bytes
is_spelling kinds.Number bytes = is_number bytes
is_spelling kinds.Str bytes = is_str bytes
is_spelling kinds.Hash bytes = is_hash bytes
is_spelling kinds.Sign bytes = is_sign bytes
