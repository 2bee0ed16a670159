-- A text has at most as many tokens as bytes.
use Rattle.std.proofs.Common.{ℕ, ◌+◌, ◌≤◌, List, [], ◌∷◌, length, Option, IsTrue, ap, arith, length-append}
use Rattle.std.specs.Prelude.{Result, Ok, Err, IfOk}
use Rattle.tel_base.specs.declared.places.Place.{Place}
use Rattle.tel_lex.specs.declared.fault.LexFault.{LexFault}
use Rattle.tel_lex.specs.declared.token.TokenKind.{TokenKind}
use Rattle.tel_lex.specs.Spelling.{is_spelling}
use Rattle.tel_lex.proofs.SpelledKinds.{no_empty}
use Rattle.tel_lex.specs.Tokens.{Lexeme, Lexes, ended, separated, token, large, bad, IsLexed}

spelled_some : (kind : TokenKind) (text : List ℕ) → IsTrue (is_spelling kind text) → 1 ≤ length text
spelled_some kind [] spelled = absurd (cc (no_empty kind, spelled))
spelled_some kind (byte ∷ bytes) spelled = omega arith

lexes_few : {place : Place} {bytes : List ℕ} {tokens : List Lexeme} {fault : Option LexFault} → Lexes place bytes tokens fault → length tokens ≤ length bytes
lexes_few ended = omega arith
lexes_few (separated front rest whole separator more) = omega (arith, lexes_few more, ap length whole, length-append front rest)
lexes_few (token kind text rest whole next range more) = omega (arith, lexes_few more, spelled_some kind text next.spelled, ap length whole, length-append text rest)
lexes_few (large kind text rest whole next range) = omega arith
lexes_few (bad stuck) = omega arith

pub lexed_few : (file : ℕ) (bytes : List ℕ) (tokens : List Lexeme) (fault : Option LexFault) (end : Place) → IsLexed file bytes tokens fault end → length tokens ≤ length bytes
lexed_few file bytes tokens fault end lexed = lexes_few lexed.lexes

pub ok_within : {A E : Type 0} (size : A → ℕ) (result : Result A E) (base few many : ℕ) → few ≤ many → IfOk result (λ a. size a ≤ base + few) → IfOk result (λ a. size a ≤ base + many)
ok_within size (Ok a) base few many le is = omega arith
ok_within size (Err e) base few many le is = is
