-- What the spelling of a kind tells.
use Rattle.std.proofs.Common.{◌≡◌, ℕ, ◌<◌, ◌≤◌, Bool, true, false, cond, not, eqb, ◌&&◌, ◌||◌, List, [], ◌∷◌, length, refl, sym, ap, subst, ◌∙◌, arith, inl, inr}
use Rattle.std.specs.Prelude.{codes}
use Rattle.std.specs.List.{list_all, list_any}
use Rattle.std.specs.Str.{bytes_eq}
use Rattle.std.proofs.lemmas.Bool.{cases_Bool, eqb-true, and_parts, or_cases, and_from, false≢true, not-true, leb-true, agree_below, agree_below_at}
use Rattle.std.proofs.lemmas.Slice.Eq.{bytes_eq-Decides}
use Rattle.tel_lex.specs.declared.token.TokenKind.{TokenKind}
use Rattle.tel_lex.specs.declared.token.TokenKind.TheVariants as kinds
use Rattle.tel_lex.specs.Spelling.{is_white, is_between, is_lower, is_upper, is_digit, is_word_byte, is_variable, is_escape, is_string_rest, hashes, is_hash, signs, is_sign, is_spelling}
use Rattle.tel_lex.specs.Tokens.{begins, is_percent, is_in_line}

-- ---- tests on bytes

-- what passes one test of bytes below n fails another
apart : (test other : ℕ → Bool) (n byte : ℕ) → agree_below test (λ x. test x && not (other x)) n ≡ true → byte < n → test byte ≡ true → other byte ≡ false
apart test other n byte table below passes =
    let both : (test byte && not (other byte)) ≡ true = sym (agree_below_at test (λ x. test x && not (other x)) n byte table below) ∙ passes in
    not-true (other byte) (and_parts (test byte) (not (other byte)) both).1

pub below_most : (least most byte : ℕ) → is_between least most byte ≡ true → byte ≤ most
below_most least most byte between = leb-true byte most (and_parts _ _ between).1

lower_apart : (other : ℕ → Bool) (byte : ℕ) → agree_below is_lower (λ x. is_lower x && not (other x)) 128 ≡ true → is_lower byte ≡ true → other byte ≡ false
lower_apart other byte table lower = apart is_lower other 128 byte table (omega (arith, below_most 97 122 byte lower)) lower

upper_apart : (other : ℕ → Bool) (byte : ℕ) → agree_below is_upper (λ x. is_upper x && not (other x)) 128 ≡ true → is_upper byte ≡ true → other byte ≡ false
upper_apart other byte table upper = apart is_upper other 128 byte table (omega (arith, below_most 65 90 byte upper)) upper

digit_apart : (other : ℕ → Bool) (byte : ℕ) → agree_below is_digit (λ x. is_digit x && not (other x)) 128 ≡ true → is_digit byte ≡ true → other byte ≡ false
digit_apart other byte table digit = apart is_digit other 128 byte table (omega (arith, below_most 48 57 byte digit)) digit

-- ---- words of a list

-- what equals a word of a list passes what all of them pass
pub one_of : (test : List ℕ → Bool) (bytes : List ℕ) (words : List (List ℕ)) → list_any (bytes_eq bytes) words ≡ true → list_all test words ≡ true → test bytes ≡ true
one_of test bytes [] among all = absurd (false≢true among)
one_of test bytes (word ∷ words) among all =
    let p = and_parts (test word) (list_all test words) all in
    elim (or_cases (bytes_eq bytes word) (list_any (bytes_eq bytes) words) among) [
      | inl same ↦ subst (λ (w : List ℕ). test w ≡ true) (sym ((bytes_eq-Decides bytes word).0 same)) p.0
      | inr other ↦ one_of test bytes words other p.1
    ]

is_hash_byte : ℕ → Bool
is_hash_byte byte = eqb byte 35

pub hash_first : (first : ℕ) (more : List ℕ) → is_hash (first ∷ more) ≡ true → first ≡ 35
unfolding is_hash_byte
hash_first first more spelled = eqb-true first 35 (one_of (begins is_hash_byte) (first ∷ more) hashes spelled refl)

-- behind the first byte
behind_first : (List ℕ → Bool) → List ℕ → Bool
behind_first test [] = true
behind_first test (first ∷ more) = test more

pub hash_word : (first : ℕ) (more : List ℕ) → is_hash (first ∷ more) ≡ true → list_all is_word_byte more ≡ true
unfolding behind_first
hash_word first more spelled = one_of (behind_first (list_all is_word_byte)) (first ∷ more) hashes spelled refl

at_most_two : List ℕ → Bool
at_most_two (first ∷ second ∷ third ∷ more) = false
at_most_two bytes = true

pub sign_short : (bytes : List ℕ) → is_sign bytes ≡ true → length bytes ≤ 2
unfolding at_most_two
sign_short [] spelled = omega arith
sign_short (first ∷ []) spelled = omega arith
sign_short (first ∷ second ∷ []) spelled = omega arith
sign_short (first ∷ second ∷ third ∷ more) spelled = absurd (false≢true (one_of at_most_two (first ∷ second ∷ third ∷ more) signs spelled refl))

-- ---- the kind of a spelling

low_kind : List ℕ → TokenKind
low_kind [] = kinds.Blank
low_kind (next ∷ more) = kinds.Variable

-- the only kind that may spell the bytes
pub kind_of : List ℕ → TokenKind
kind_of [] = kinds.Sign
kind_of (first ∷ more) =
    cond (is_lower first) kinds.Name (cond (is_upper first) kinds.Variable (cond (is_digit first) kinds.Number
    (cond (eqb first 95) (low_kind more) (cond (eqb first 34) kinds.Str (cond (eqb first 35) kinds.Hash kinds.Sign)))))

pub kind-lower : (first : ℕ) (more : List ℕ) → is_lower first ≡ true → kind_of (first ∷ more) ≡ kinds.Name
unfolding kind_of
kind-lower first more lower = rw lower refl

pub kind-upper : (first : ℕ) (more : List ℕ) → is_upper first ≡ true → kind_of (first ∷ more) ≡ kinds.Variable
unfolding kind_of
kind-upper first more upper = rw (upper_apart is_lower first refl upper, upper) refl

pub kind-digit : (first : ℕ) (more : List ℕ) → is_digit first ≡ true → kind_of (first ∷ more) ≡ kinds.Number
unfolding kind_of
kind-digit first more digit = rw (digit_apart is_lower first refl digit, digit_apart is_upper first refl digit, digit) refl

pub kind-low : (next : ℕ) (more : List ℕ) → kind_of (95 ∷ next ∷ more) ≡ kinds.Variable
unfolding kind_of low_kind
kind-low next more = refl

pub kind-blank : kind_of (95 ∷ []) ≡ kinds.Blank
unfolding kind_of low_kind
kind-blank = refl

pub kind-quote : (more : List ℕ) → kind_of (34 ∷ more) ≡ kinds.Str
unfolding kind_of
kind-quote more = refl

pub kind-hash : (more : List ℕ) → kind_of (35 ∷ more) ≡ kinds.Hash
unfolding kind_of
kind-hash more = refl

-- where none of these begins it, it is a sign
pub kind-other : (first : ℕ) (more : List ℕ) → is_lower first ≡ false → is_upper first ≡ false → is_digit first ≡ false → eqb first 95 ≡ false → eqb first 34 ≡ false → eqb first 35 ≡ false → kind_of (first ∷ more) ≡ kinds.Sign
unfolding kind_of
kind-other first more lower upper digit low quote hash = rw (lower, upper, digit, low, quote, hash) refl

is_sign_kind : TokenKind → Bool
is_sign_kind kinds.Sign = true
is_sign_kind kind = false

sign_kind : (kind : TokenKind) → is_sign_kind kind ≡ true → kind ≡ kinds.Sign
unfolding is_sign_kind
sign_kind kinds.Sign is = refl
sign_kind kinds.Name is = absurd (false≢true is)
sign_kind kinds.Variable is = absurd (false≢true is)
sign_kind kinds.Blank is = absurd (false≢true is)
sign_kind kinds.Number is = absurd (false≢true is)
sign_kind kinds.Str is = absurd (false≢true is)
sign_kind kinds.Hash is = absurd (false≢true is)

kind-sign : (bytes : List ℕ) → is_sign bytes ≡ true → kind_of bytes ≡ kinds.Sign
unfolding kind_of low_kind is_sign_kind
kind-sign bytes spelled = sign_kind (kind_of bytes) (one_of (λ w. is_sign_kind (kind_of w)) bytes signs spelled refl)

kind-variable : (bytes : List ℕ) → is_variable bytes ≡ true → kind_of bytes ≡ kinds.Variable
kind-variable [] spelled = absurd (false≢true spelled)
kind-variable (first ∷ []) spelled =
    elim (cases_Bool (eqb first 95)) [
      | inl low ↦ absurd (false≢true (rw low at spelled))
      | inr other ↦
          let upper : (is_upper first && true) ≡ true = rw other at spelled in
          kind-upper first [] (and_parts (is_upper first) true upper).0
    ]
kind-variable (first ∷ next ∷ more) spelled =
    elim (cases_Bool (eqb first 95)) [
      | inl low ↦ subst (λ (b : ℕ). kind_of (b ∷ next ∷ more) ≡ kinds.Variable) (sym (eqb-true first 95 low)) (kind-low next more)
      | inr other ↦
          let upper : (is_upper first && list_all is_word_byte (next ∷ more)) ≡ true = rw other at spelled in
          kind-upper first (next ∷ more) (and_parts (is_upper first) (list_all is_word_byte (next ∷ more)) upper).0
    ]

pub kind_spelled : (kind : TokenKind) (bytes : List ℕ) → is_spelling kind bytes ≡ true → kind_of bytes ≡ kind
kind_spelled kinds.Name [] spelled = absurd (false≢true spelled)
kind_spelled kinds.Name (first ∷ more) spelled = kind-lower first more (and_parts (is_lower first) (list_all is_word_byte more) spelled).0
kind_spelled kinds.Variable bytes spelled = kind-variable bytes spelled
kind_spelled kinds.Blank bytes spelled = subst (λ (w : List ℕ). kind_of w ≡ kinds.Blank) (sym ((bytes_eq-Decides bytes (codes "_")).0 spelled)) kind-blank
kind_spelled kinds.Number [] spelled = absurd (false≢true spelled)
kind_spelled kinds.Number (first ∷ more) spelled = kind-digit first more (and_parts (is_digit first) (list_all is_digit more) spelled).0
kind_spelled kinds.Str [] spelled = absurd (false≢true spelled)
kind_spelled kinds.Str (first ∷ more) spelled =
    subst (λ (b : ℕ). kind_of (b ∷ more) ≡ kinds.Str) (sym (eqb-true first 34 (and_parts (eqb first 34) (is_string_rest more) spelled).0)) (kind-quote more)
kind_spelled kinds.Hash [] spelled = absurd (false≢true spelled)
kind_spelled kinds.Hash (first ∷ more) spelled = subst (λ (b : ℕ). kind_of (b ∷ more) ≡ kinds.Hash) (sym (hash_first first more spelled)) (kind-hash more)
kind_spelled kinds.Sign bytes spelled = kind-sign bytes spelled

-- the kind of a spelling whose kind is known
pub kind_as : (kind known : TokenKind) (bytes : List ℕ) → kind_of bytes ≡ known → is_spelling kind bytes ≡ true → is_spelling known bytes ≡ true
kind_as kind known bytes known-is spelled = subst (λ (k : TokenKind). is_spelling k bytes ≡ true) (sym (kind_spelled kind bytes spelled) ∙ known-is) spelled

pub no_empty : (kind : TokenKind) → is_spelling kind [] ≡ false
no_empty kinds.Name = refl
no_empty kinds.Variable = refl
no_empty kinds.Blank = refl
no_empty kinds.Number = refl
no_empty kinds.Str = refl
no_empty kinds.Hash = refl
no_empty kinds.Sign = refl

-- ---- a token begins no separator, and has no end of a line in it

abbrev pub begins_gap : ℕ → Bool
begins_gap byte = is_white byte || is_percent byte

pub no_gap : (kind : TokenKind) (first : ℕ) (more : List ℕ) → is_spelling kind (first ∷ more) ≡ true → begins_gap first ≡ false
no_gap kinds.Name first more spelled = lower_apart begins_gap first refl (and_parts (is_lower first) (list_all is_word_byte more) spelled).0
no_gap kinds.Variable first more spelled =
    elim (cases_Bool (eqb first 95)) [
      | inl low ↦ ap begins_gap (eqb-true first 95 low)
      | inr other ↦
          let upper : (is_upper first && list_all is_word_byte more) ≡ true = rw other at spelled in
          upper_apart begins_gap first refl (and_parts (is_upper first) (list_all is_word_byte more) upper).0
    ]
no_gap kinds.Blank first more spelled = ap begins_gap (eqb-true first 95 (and_parts _ _ spelled).0)
no_gap kinds.Number first more spelled = digit_apart begins_gap first refl (and_parts (is_digit first) (list_all is_digit more) spelled).0
no_gap kinds.Str first more spelled = ap begins_gap (eqb-true first 34 (and_parts (eqb first 34) (is_string_rest more) spelled).0)
no_gap kinds.Hash first more spelled = ap begins_gap (hash_first first more spelled)
no_gap kinds.Sign first more spelled = not-true (begins_gap first) (one_of (begins (λ byte. not (begins_gap byte))) (first ∷ more) signs spelled refl)

all_of : (test other : ℕ → Bool) (bytes : List ℕ) → ((byte : ℕ) → test byte ≡ true → other byte ≡ true) → list_all test bytes ≡ true → list_all other bytes ≡ true
all_of test other [] implies all = refl
all_of test other (byte ∷ bytes) implies all =
    let p = and_parts (test byte) (list_all test bytes) all in
    and_from (other byte) (list_all other bytes) (implies byte p.0) (all_of test other bytes implies p.1)

-- a test that byte 10 fails
in_line : (test : ℕ → Bool) → test 10 ≡ false → (byte : ℕ) → test byte ≡ true → is_in_line byte ≡ true
in_line test fails byte passes =
    elim (cases_Bool (eqb byte 10)) [
      | inl same ↦ absurd (false≢true (sym fails ∙ ap test (sym (eqb-true byte 10 same)) ∙ passes))
      | inr other ↦ rw other refl
    ]

words_in_line : (bytes : List ℕ) → list_all is_word_byte bytes ≡ true → list_all is_in_line bytes ≡ true
words_in_line bytes all = all_of is_word_byte is_in_line bytes (in_line is_word_byte refl) all

variable_in_line : (bytes : List ℕ) → is_variable bytes ≡ true → list_all is_in_line bytes ≡ true
variable_in_line [] spelled = refl
variable_in_line (first ∷ more) spelled =
    elim (cases_Bool (eqb first 95)) [
      | inl low ↦
          let rest : is_variable more ≡ true = rw low at spelled in
          and_from (is_in_line first) (list_all is_in_line more) (ap is_in_line (eqb-true first 95 low)) (variable_in_line more rest)
      | inr other ↦
          let upper : (is_upper first && list_all is_word_byte more) ≡ true = rw other at spelled in
          let p = and_parts (is_upper first) (list_all is_word_byte more) upper in
          and_from (is_in_line first) (list_all is_in_line more) (in_line is_upper refl first p.0) (words_in_line more p.1)
    ]

string_in_line : (bytes : List ℕ) → is_string_rest bytes ≡ true → list_all is_in_line bytes ≡ true
string_in_line [] spelled = refl
string_in_line (byte ∷ []) spelled = and_from (is_in_line byte) true (ap is_in_line (eqb-true byte 34 spelled)) refl
string_in_line (byte ∷ next ∷ more) spelled =
    elim (cases_Bool (eqb byte 92)) [
      | inl slash ↦
          let both : (is_escape next && is_string_rest more) ≡ true = rw slash at spelled in
          let p = and_parts (is_escape next) (is_string_rest more) both in
          and_from (is_in_line byte) (list_all is_in_line (next ∷ more)) (ap is_in_line (eqb-true byte 92 slash))
          (and_from (is_in_line next) (list_all is_in_line more) (in_line is_escape refl next p.0) (string_in_line more p.1))
      | inr other ↦
          let both : (not (eqb byte 34 || eqb byte 10) && is_string_rest (next ∷ more)) ≡ true = rw other at spelled in
          let p = and_parts (not (eqb byte 34 || eqb byte 10)) (is_string_rest (next ∷ more)) both in
          and_from (is_in_line byte) (list_all is_in_line (next ∷ more)) (in_line (λ b. not (eqb b 34 || eqb b 10)) refl byte p.0) (string_in_line (next ∷ more) p.1)
    ]

pub spelled_in_line : (kind : TokenKind) (bytes : List ℕ) → is_spelling kind bytes ≡ true → list_all is_in_line bytes ≡ true
spelled_in_line kinds.Name [] spelled = refl
spelled_in_line kinds.Name (first ∷ more) spelled =
    let p = and_parts (is_lower first) (list_all is_word_byte more) spelled in
    and_from (is_in_line first) (list_all is_in_line more) (in_line is_lower refl first p.0) (words_in_line more p.1)
spelled_in_line kinds.Variable bytes spelled = variable_in_line bytes spelled
spelled_in_line kinds.Blank bytes spelled = ap (list_all is_in_line) ((bytes_eq-Decides bytes (codes "_")).0 spelled)
spelled_in_line kinds.Number [] spelled = refl
spelled_in_line kinds.Number (first ∷ more) spelled = all_of is_digit is_in_line (first ∷ more) (in_line is_digit refl) spelled
spelled_in_line kinds.Str [] spelled = refl
spelled_in_line kinds.Str (first ∷ more) spelled =
    let p = and_parts (eqb first 34) (is_string_rest more) spelled in
    and_from (is_in_line first) (list_all is_in_line more) (ap is_in_line (eqb-true first 34 p.0)) (string_in_line more p.1)
spelled_in_line kinds.Hash bytes spelled = one_of (list_all is_in_line) bytes hashes spelled refl
spelled_in_line kinds.Sign bytes spelled = one_of (list_all is_in_line) bytes signs spelled refl
