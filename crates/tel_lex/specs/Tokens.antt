-- The tokens of a file and its first fault.
use Rattle.std.specs.Prelude.{◌≡◌, ℕ, ◌+◌, ◌-◌, ◌^◌, ◌<◌, Bool, true, false, not, ◌&&◌, ◌||◌, ◌==◌, nat_le, List, [], ◌∷◌, ◌++◌, length, map, IsTrue, Option, Some, None, ◌⊎◌}
use Rattle.std.specs.List.{list_all}
use Rattle.tel_base.specs.Digits.{decimal}
use Rattle.tel_base.specs.declared.places.Place.{Place}
use Rattle.tel_lex.specs.declared.token.Token.{Token}
use Rattle.tel_lex.specs.declared.token.TokenKind.{TokenKind}
use Rattle.tel_lex.specs.declared.token.TokenKind.TheVariants as kinds
use Rattle.tel_lex.specs.declared.fault.LexFault.{LexFault}
use Rattle.tel_lex.specs.declared.fault.LexFault.TheVariants as faults
use Rattle.tel_lex.specs.Spelling.{is_white, is_word_byte, is_spelling}
use Rattle.tel_lex.specs.Places.{start_of, place_after}

-- a token: its kind, its bytes and the place of the first of them
pub record Lexeme : Type 0 where
  pub kind : TokenKind
  pub text : List ℕ
  pub place : Place

-- a token of the code, without where its bytes lie
abbrev pub token_of : Token → Lexeme
token_of token = record { kind = token.kind; text = token.text.now; place = token.place }

abbrev pub tokens_of : List Token → List Lexeme
tokens_of tokens = map token_of tokens

-- the bytes begin with one that passes
abbrev pub begins : (ℕ → Bool) → List ℕ → Bool
begins test [] = false
begins test (first ∷ more) = test first

-- ---- separators

abbrev pub is_line_end : ℕ → Bool
is_line_end byte = byte == 10

abbrev pub is_in_line : ℕ → Bool
is_in_line byte = not (is_line_end byte)

-- one byte of white space
pub record IsWhite (front : List ℕ) : Type 0 where
  pub byte : ℕ
  pub white : IsTrue (is_white byte)
  pub whole : front ≡ byte ∷ []

abbrev pub is_star : ℕ → Bool
is_star byte = byte == 42

abbrev pub is_percent : ℕ → Bool
is_percent byte = byte == 37

-- `%` and the bytes behind it up to the end of the line or of the text; the first of them is no `*`
pub record IsLineComment (front rest : List ℕ) : Type 0 where
  pub text : List ℕ
  pub one_line : IsTrue (list_all is_in_line text)
  pub no_block : IsTrue (not (begins is_star text))
  pub line_end : IsTrue (not (begins is_in_line rest))
  pub whole : front ≡ 37 ∷ text

-- somewhere stands `*%`
abbrev pub has_close : List ℕ → Bool
has_close [] = false
has_close (byte ∷ bytes) = is_star byte && begins is_percent bytes || has_close bytes

-- `%*`, bytes, and the first `*%` behind the `%*`
pub record IsBlockComment (front : List ℕ) : Type 0 where
  pub text : List ℕ
  pub first : IsTrue (not (has_close (text ++ 42 ∷ [])))
  pub whole : front ≡ 37 ∷ 42 ∷ (text ++ 42 ∷ 37 ∷ [])

-- what separates tokens and means nothing, with the rest behind it
abbrev pub IsSeparator : List ℕ → List ℕ → Type 0
IsSeparator front rest = IsWhite front ⊎ (IsLineComment front rest ⊎ IsBlockComment front)

-- ---- tokens

-- no longer front than text is a spelling of any kind
abbrev pub IsLongest : List ℕ → List ℕ → Type 0
IsLongest text rest = (kind : TokenKind) (more behind : List ℕ) → rest ≡ more ++ behind → 0 < length more → is_spelling kind (text ++ more) ≡ false

-- the word behind a `#` goes on as long as letters, digits and `_` come
abbrev pub EndsWord : TokenKind → List ℕ → Type 0
EndsWord kinds.Hash rest = IsTrue (not (begins is_word_byte rest))
EndsWord kind rest = Unit {0}

-- text is the next token, and the rest stands behind it
pub record IsNext (kind : TokenKind) (text rest : List ℕ) : Type 0 where
  pub spelled : IsTrue (is_spelling kind text)
  pub longest : IsLongest text rest
  pub ends_word : EndsWord kind rest

-- a number is at most 2147483647
abbrev pub is_in_range : TokenKind → List ℕ → Bool
is_in_range kinds.Number text = nat_le (decimal text) (2 ^ 31 - 1)
is_in_range kind text = true

-- something stands there, and neither a separator nor a token begins it
pub record IsStuck (bytes : List ℕ) : Type 0 where
  pub some : 0 < length bytes
  pub no_separator : (front rest : List ℕ) → bytes ≡ front ++ rest → IsSeparator front rest → ⊥
  pub no_token : (kind : TokenKind) (text rest : List ℕ) → bytes ≡ text ++ rest → IsNext kind text rest → ⊥

-- from this place on, the bytes are these tokens, up to the first fault where there is one
pub data Lexes : Place → List ℕ → List Lexeme → Option LexFault → Type 0 where
  ended : {place : Place} → Lexes place [] [] None
  separated : {place : Place} {bytes : List ℕ} {tokens : List Lexeme} {fault : Option LexFault} (front rest : List ℕ) → bytes ≡ front ++ rest → IsSeparator front rest → Lexes (place_after place front) rest tokens fault → Lexes place bytes tokens fault
  token : {place : Place} {bytes : List ℕ} {tokens : List Lexeme} {fault : Option LexFault} (kind : TokenKind) (text rest : List ℕ) → bytes ≡ text ++ rest → IsNext kind text rest → IsTrue (is_in_range kind text) → Lexes (place_after place text) rest tokens fault → Lexes place bytes (record { kind = kind; text = text; place = place } ∷ tokens) fault
  large : {place : Place} {bytes : List ℕ} (kind : TokenKind) (text rest : List ℕ) → bytes ≡ text ++ rest → IsNext kind text rest → IsTrue (not (is_in_range kind text)) → Lexes place bytes [] (Some (faults.NumberRange place))
  bad : {place : Place} {bytes : List ℕ} → IsStuck bytes → Lexes place bytes [] (Some (faults.BadByte place))

-- a file's tokens before its first fault, and that fault
abbrev pub HasTokens : ℕ → List ℕ → List Lexeme → Option LexFault → Type 0
HasTokens file bytes tokens fault = Lexes (start_of file) bytes tokens fault

-- its first fault is this one
abbrev pub HasFault : ℕ → List ℕ → LexFault → Type 0
HasFault file bytes fault = (tokens : List Lexeme) × HasTokens file bytes tokens (Some fault)

-- its tokens before the first fault, that fault, and the place behind the last byte
pub record IsLexed (file : ℕ) (bytes : List ℕ) (tokens : List Lexeme) (fault : Option LexFault) (end : Place) : Type 0 where
  pub lexes : HasTokens file bytes tokens fault
  pub ends : end ≡ place_after (start_of file) bytes

-- each token is a part of the bytes, behind the one before, and its place is where that part begins
abbrev pub AreSlices : Place → List ℕ → List Lexeme → Type 0
AreSlices place bytes [] = Unit {0}
AreSlices place bytes (first ∷ more) =
    (gap : List ℕ) × (rest : List ℕ) × (bytes ≡ gap ++ (first.text ++ rest)) × (first.place ≡ place_after place gap) × AreSlices (place_after first.place first.text) rest more
