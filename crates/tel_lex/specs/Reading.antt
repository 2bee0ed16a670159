-- Reading, by recursion on the bytes. Only private functions are held to it; the public contracts speak of the tokens.
use Rattle.std.specs.Prelude.{◌≡◌, ℕ, ◌+◌, ◌<◌, ◌≤◌, Bool, false, not, ◌&&◌, ◌||◌, ◌==◌, List, [], ◌∷◌, ◌++◌, IsTrue, length, take, drop, Option, Some, None, if◌then◌else◌}
use Rattle.std.specs.List.{list_all, prefix_len}
use Rattle.tel_base.specs.declared.places.Place.{Place}
use Rattle.tel_lex.specs.declared.token.TokenKind.TheVariants as kinds
use Rattle.tel_lex.specs.declared.fault.LexFault.{LexFault}
use Rattle.tel_lex.specs.declared.front.Front.{Front}
use Rattle.tel_lex.specs.declared.front.Front.TheVariants as fronts
use Rattle.tel_lex.specs.Spelling.{is_white, is_lower, is_upper, is_digit, is_word_byte, is_escape, is_hash, is_sign}
use Rattle.tel_lex.specs.Places.{place_after}
use Rattle.tel_lex.specs.Tokens.{Lexeme, begins, is_star, is_percent, is_in_line, IsSeparator, IsNext, IsStuck, is_in_range, Lexes}

-- a place that was found behind so many bytes
abbrev pub behind : ℕ → Option ℕ → Option ℕ
behind n None = None
behind n (Some m) = Some (n + m)

-- how long a variable without a `_` before it is
abbrev pub capital_len : List ℕ → Option ℕ
capital_len [] = None
capital_len (byte ∷ bytes) = if is_upper byte then Some (1 + prefix_len is_word_byte bytes) else None

-- how long the variable at the front is
abbrev pub variable_len : List ℕ → Option ℕ
variable_len [] = None
variable_len (byte ∷ bytes) = if byte == 95 then behind 1 (variable_len bytes) else capital_len (byte ∷ bytes)

abbrev pub begins_escape : List ℕ → Bool
begins_escape [] = false
begins_escape (byte ∷ []) = false
begins_escape (byte ∷ next ∷ more) = byte == 92 && is_escape next

-- how much of a string stands behind its first quote
abbrev pub string_len : List ℕ → Option ℕ
string_len [] = None
string_len (byte ∷ []) = if byte == 34 then Some 1 else None
string_len (byte ∷ next ∷ more) =
    if byte == 34 then Some 1
    else (if byte == 10 then None
    else (if byte == 92 then (if is_escape next then behind 2 (string_len more) else None)
    else behind 1 (string_len (next ∷ more))))

-- how much of a block comment stands behind its first two bytes
abbrev pub close_len : List ℕ → Option ℕ
close_len [] = None
close_len (byte ∷ bytes) =
    if is_star byte && begins is_percent bytes then Some 2 else behind 1 (close_len bytes)

-- a separator behind so many bytes, where it ends
abbrev pub gap_of : Option ℕ → ℕ → Front
gap_of None before = fronts.Bad
gap_of (Some n) before = fronts.Gap (before + n)

-- what stands where `%` does
abbrev pub comment_front : List ℕ → Front
comment_front [] = fronts.Gap 1
comment_front (byte ∷ bytes) =
    if is_star byte then gap_of (close_len bytes) 2 else fronts.Gap (1 + prefix_len is_in_line (byte ∷ bytes))

-- what stands where a quote does
abbrev pub str_of : Option ℕ → Front
str_of None = fronts.Bad
str_of (Some n) = fronts.Token kinds.Str (1 + n)

abbrev pub is_low_line : ℕ → Bool
is_low_line byte = byte == 95

-- what stands where `_` or an upper-case letter does
abbrev pub variable_of : Option ℕ → List ℕ → Front
variable_of None bytes = fronts.Blanks (prefix_len is_low_line bytes)
variable_of (Some n) bytes = fronts.Token kinds.Variable n

-- what stands where `#` does
abbrev pub hash_front : List ℕ → Front
hash_front bytes =
    let n = prefix_len is_word_byte bytes in
    if is_hash (35 ∷ take n bytes) then fronts.Token kinds.Hash (1 + n) else fronts.Bad

-- what stands where a digit does
abbrev pub number_front : List ℕ → Front
number_front bytes =
    let n = prefix_len is_digit bytes in
    if is_in_range kinds.Number (take n bytes) then fronts.Token kinds.Number n else fronts.Large

abbrev pub mark_front : ℕ → Front
mark_front byte = if is_sign (byte ∷ []) then fronts.Token kinds.Sign 1 else fronts.Bad

-- what stands where no other token can begin
abbrev pub sign_front : ℕ → List ℕ → Front
sign_front byte [] = mark_front byte
sign_front byte (next ∷ more) = if is_sign (byte ∷ next ∷ []) then fronts.Token kinds.Sign 2 else mark_front byte

-- what stands where neither white space, a comment nor a word does
abbrev pub other_front : ℕ → List ℕ → Front
other_front byte bytes =
    if byte == 34 then str_of (string_len bytes)
    else (if byte == 35 then hash_front bytes else sign_front byte bytes)

-- what stands at the front
unfoldable pub front_of : List ℕ → Front
front_of [] = fronts.Bad
front_of (byte ∷ bytes) =
    if is_white byte then fronts.Gap 1
    else (if is_lower byte then fronts.Token kinds.Name (1 + prefix_len is_word_byte bytes)
    else (if is_upper byte || is_low_line byte then variable_of (variable_len (byte ∷ bytes)) (byte ∷ bytes)
    else (if is_digit byte then number_front (byte ∷ bytes)
    else (if byte == 37 then comment_front bytes else other_front byte bytes))))

-- ---- what the fronts mean

pub record IsPart (n : ℕ) (bytes : List ℕ) : Type 0 where
  pub some : 0 < n
  pub within : n ≤ length bytes

-- this is what stands at the front of the bytes
abbrev pub StandsAt : List ℕ → Front → Type 0
StandsAt bytes (fronts.Gap n) = IsPart n bytes × IsSeparator (take n bytes) (drop n bytes)
StandsAt bytes (fronts.Token kind n) = IsPart n bytes × IsNext kind (take n bytes) (drop n bytes) × IsTrue (is_in_range kind (take n bytes))
StandsAt bytes (fronts.Blanks n) = IsPart n bytes × IsTrue (list_all is_low_line (take n bytes)) × (variable_len bytes ≡ None)
StandsAt bytes fronts.Large = (n : ℕ) × IsNext kinds.Number (take n bytes) (drop n bytes) × IsTrue (not (is_in_range kinds.Number (take n bytes)))
StandsAt bytes fronts.Bad = IsStuck bytes

-- tokens of one `_` each
abbrev pub blanks_from : Place → List ℕ → List Lexeme
blanks_from place [] = []
blanks_from place (byte ∷ bytes) = record { kind = kinds.Blank; text = byte ∷ []; place = place } ∷ blanks_from (record place { at = place.at + 1 }) bytes

-- the bytes from a place on are these tokens, and then what the rest is from the place where it begins
pub record Goes (place : Place) (bytes : List ℕ) (tokens : List Lexeme) (now : Place) (rest : List ℕ) : Type 0 where
  pub on : (more : List Lexeme) (fault : Option LexFault) → Lexes now rest more fault → Lexes place bytes (tokens ++ more) fault
  pub ends : place_after now rest ≡ place_after place bytes
  pub bytes_left : now.at + length rest ≤ place.at + length bytes
  pub lines_left : now.line + length rest ≤ place.line + length bytes
