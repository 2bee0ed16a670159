-- What tokens say to the grammar.
use Rattle.std.specs.Prelude.{ℕ, ◌+◌, ◌-◌, ◌*◌, ◌^◌, Bool, nat_le, nat_lt, ◌&&◌, ◌==◌, List, [], ◌∷◌, Option, Some, None, if◌then◌else◌, codes}
use Rattle.std.specs.List.{list_all}
use Rattle.std.specs.Option.{option_map}
use Rattle.std.specs.Str.{bytes_eq}
use Rattle.tel_lex.specs.declared.token.TokenKind.{TokenKind}
use Rattle.tel_lex.specs.declared.token.TokenKind.TheVariants as kinds
use Rattle.formula_syntax.specs.declared.marks.Mark.{Mark}
use Rattle.formula_syntax.specs.declared.marks.Mark.TheVariants as marks
use Rattle.formula_syntax.specs.Points.{Word}

-- A name, but for `not`; a variable, by its name; a number and a string, by how they are written; a sign, which `not` and the
-- directives are too; and whatever is none of the language.
pub data Sense : Type 0 where
  Name : List ℕ → Sense
  Variable : List ℕ → Sense
  Blank : Sense
  Number : List ℕ → Sense
  Str : List ℕ → Sense
  Sign : Mark → Sense
  Other : Sense

-- the sign of one byte
abbrev pub single : ℕ → Option Mark
single byte =
    if byte == 46 then Some marks.Stop else
    (if byte == 44 then Some marks.Comma else
    (if byte == 59 then Some marks.Semicolon else
    (if byte == 40 then Some marks.Open else
    (if byte == 41 then Some marks.Close else
    (if byte == 123 then Some marks.OpenBrace else
    (if byte == 125 then Some marks.CloseBrace else
    (if byte == 39 then Some marks.Prime else
    (if byte == 126 then Some marks.Tilde else
    (if byte == 38 then Some marks.Ampersand else
    (if byte == 124 then Some marks.Bar else
    (if byte == 60 then Some marks.Less else
    (if byte == 62 then Some marks.Greater else
    (if byte == 61 then Some marks.Equal else
    (if byte == 43 then Some marks.Plus else
    (if byte == 45 then Some marks.Minus else
    (if byte == 42 then Some marks.Star else
    (if byte == 47 then Some marks.Slash else
    (if byte == 92 then Some marks.Backslash else None))))))))))))))))))

-- the sign of two bytes
abbrev pub double : ℕ → ℕ → Option Mark
double first second =
    if first == 58 && second == 45 then Some marks.If else
    (if first == 46 && second == 46 then Some marks.Dots else
    (if first == 45 && second == 62 then Some marks.RightArrow else
    (if first == 60 && second == 45 then Some marks.LeftArrow else
    (if first == 60 && second == 62 then Some marks.BothArrow else
    (if first == 60 && second == 42 then Some marks.LessStar else
    (if first == 60 && second == 63 then Some marks.LessQuery else
    (if first == 60 && second == 58 then Some marks.LessColon else
    (if first == 60 && second == 60 then Some marks.LessLess else
    (if first == 60 && second == 61 then Some marks.LessEqual else
    (if first == 62 && second == 42 then Some marks.GreaterStar else
    (if first == 62 && second == 63 then Some marks.GreaterQuery else
    (if first == 62 && second == 58 then Some marks.GreaterColon else
    (if first == 62 && second == 62 then Some marks.GreaterGreater else
    (if first == 62 && second == 61 then Some marks.GreaterEqual else
    (if first == 33 && second == 61 then Some marks.Unequal else None)))))))))))))))

-- the sign of these bytes
abbrev pub mark_of : List ℕ → Option Mark
mark_of (first ∷ []) = single first
mark_of (first ∷ second ∷ []) = double first second
mark_of _ = None

abbrev pub sign_sense : Option Mark → Sense
sign_sense None = Other
sign_sense (Some mark) = Sign mark

-- what the word behind `#` says
abbrev pub directive_sense : List ℕ → Sense
directive_sense text =
    if bytes_eq text (codes "#program") then Sign marks.Program
    else (if bytes_eq text (codes "#const") then Sign marks.Const
    else (if bytes_eq text (codes "#show") then Sign marks.Show else Other))

-- what a token of this kind and these bytes says
abbrev pub sense_of : TokenKind → List ℕ → Sense
sense_of kinds.Name text = if bytes_eq text (codes "not") then Sign marks.Not else Name text
sense_of kinds.Variable text = Variable text
sense_of kinds.Blank text = Blank
sense_of kinds.Number text = Number text
sense_of kinds.Str text = Str text
sense_of kinds.Hash text = directive_sense text
sense_of kinds.Sign text = sign_sense (mark_of text)

abbrev pub sense : Word → Sense
sense word = sense_of word.kind word.text

abbrev pub is_digit : ℕ → Bool
is_digit byte = nat_le 48 byte && nat_le byte 57

-- the number that digits are, the first of them the greatest
abbrev pub decimal_from : ℕ → List ℕ → ℕ
decimal_from value [] = value
decimal_from value (digit ∷ digits) = decimal_from (10 * value + (digit - 48)) digits

-- the greatest number
abbrev pub is_number : ℕ → Bool
is_number value = nat_lt value (2 ^ 31)

-- the number that is written so, where it is at most the greatest
unfoldable pub number_of : List ℕ → Option ℕ
number_of text =
    if list_all is_digit text && is_number (decimal_from 0 text) then Some (decimal_from 0 text) else None

-- the byte that stands behind a backslash for this one
abbrev pub escaped : ℕ → Option ℕ
escaped byte =
    if byte == 34 then Some 34 else (if byte == 92 then Some 92 else (if byte == 110 then Some 10 else None))

abbrev pub with_byte : Option ℕ → Option (List ℕ) → Option (List ℕ)
with_byte None read = None
with_byte (Some byte) read = option_map (λ more. byte ∷ more) read

-- the bytes of a string, from behind its first quote: up to the quote at the end, where `\n` is byte 10
unfoldable pub inner_of : List ℕ → Option (List ℕ)
inner_of [] = None
inner_of (byte ∷ []) = if byte == 34 then Some [] else None
inner_of (byte ∷ next ∷ more) =
    if byte == 92 then with_byte (escaped next) (inner_of more)
    else (if byte == 34 then None else option_map (λ bytes. byte ∷ bytes) (inner_of (next ∷ more)))

-- the bytes of the string that is written so
abbrev pub string_of : List ℕ → Option (List ℕ)
string_of [] = None
string_of (byte ∷ bytes) = if byte == 34 then inner_of bytes else None
