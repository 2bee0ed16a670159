-- Each text has at most one list of tokens and one first fault, and it has them.
use Rattle.std.proofs.Common.{◌≡◌, ℕ, ◌<◌, ◌≤◌, true, false, List, [], ◌∷◌, ◌++◌, length, Option, Some, None, refl, sym, ap, subst, ◌∙◌, append_assoc, arith, inl, inr}
use Rattle.std.proofs.lemmas.Bool.{not-true, false≢true, cases_lt, or_left, both_ways}
use Rattle.std.proofs.lemmas.List.{length-append}
use Rattle.tel_base.specs.declared.places.Place.{Place}
use Rattle.tel_lex.specs.declared.token.TokenKind.{TokenKind}
use Rattle.tel_lex.specs.declared.fault.LexFault.{LexFault}
use Rattle.tel_lex.specs.declared.fault.LexFault.TheVariants as faults
use Rattle.tel_lex.specs.declared.front.Front.{Front}
use Rattle.tel_lex.specs.declared.front.Front.TheVariants as fronts
use Rattle.tel_lex.specs.Spelling.{is_white, is_spelling}
use Rattle.tel_lex.specs.Places.{place_after}
use Rattle.tel_lex.specs.Tokens.{Lexeme, IsSeparator, IsNext, is_in_range, IsStuck, Lexes, ended, separated, token, large, bad, AreSlices}
use Rattle.tel_lex.specs.Reading.{front_of}
use Rattle.tel_lex.proofs.Lines.{place_after-append}
use Rattle.tel_lex.proofs.SpelledKinds.{kind_spelled, no_empty, no_gap, begins_gap}
use Rattle.tel_lex.proofs.Standing.{separator_front}

-- ---- fronts of one list

-- of two fronts the longer one goes on with the shorter
split : (a b c d : List ℕ) → a ++ b ≡ c ++ d → length a ≤ length c → (more : List ℕ) × (c ≡ a ++ more) × (b ≡ more ++ d)
split [] b c d same shorter = (c, refl, same)
split (x ∷ a) b [] d same shorter = absurd (omega arith)
split (x ∷ a) b (y ∷ c) d same shorter =
    let heads : x ≡ y = cc in
    let tails : a ++ b ≡ c ++ d = cc in
    let p = split a b c d tails (omega arith) in
    (p.0, ap (λ (t : List ℕ). y ∷ t) p.1 ∙ ap (λ (z : ℕ). z ∷ (a ++ p.0)) (sym heads), p.2)

same_fronts : (a b c d : List ℕ) → a ++ b ≡ c ++ d → length a ≡ length c → (a ≡ c) × (b ≡ d)
same_fronts [] b [] d same lengths = (refl, same)
same_fronts [] b (y ∷ c) d same lengths = absurd (omega arith)
same_fronts (x ∷ a) b [] d same lengths = absurd (omega arith)
same_fronts (x ∷ a) b (y ∷ c) d same lengths =
    let heads : x ≡ y = cc in
    let tails : a ++ b ≡ c ++ d = cc in
    let p = same_fronts a b c d tails (omega arith) in
    (cc (p.0), p.1)

-- ---- one separator, one token, and never both

gap_length : Front → ℕ
gap_length (fronts.Gap n) = n
gap_length front = 0

one_separator : (bytes a b c d : List ℕ) → bytes ≡ a ++ b → IsSeparator a b → bytes ≡ c ++ d → IsSeparator c d → (a ≡ c) × (b ≡ d)
unfolding gap_length
one_separator bytes a b c d first is_first second is_second =
    let at_first : front_of bytes ≡ fronts.Gap (length a) = ap front_of first ∙ separator_front a b is_first in
    let at_second : front_of bytes ≡ fronts.Gap (length c) = ap front_of second ∙ separator_front c d is_second in
    same_fronts a b c d (sym first ∙ second) (ap gap_length (sym at_first ∙ at_second))

-- a separator begins with white space or `%`
begun_gap : (front rest : List ℕ) → IsSeparator front rest → (first : ℕ) × (more : List ℕ) × (front ≡ first ∷ more) × (begins_gap first ≡ true)
begun_gap front rest (inl white) = (white.byte, [], white.whole, or_left (is_white white.byte) _ white.white)
begun_gap front rest (inr (inl line)) = (37, line.text, line.whole, refl)
begun_gap front rest (inr (inr block)) = (37, 42 ∷ (block.text ++ 42 ∷ 37 ∷ []), block.whole, refl)

not_both : (bytes a b text rest : List ℕ) (kind : TokenKind) → bytes ≡ a ++ b → IsSeparator a b → bytes ≡ text ++ rest → is_spelling kind text ≡ true → ⊥
not_both bytes a b [] rest kind first separator second spelled = false≢true (sym (no_empty kind) ∙ spelled)
not_both bytes a b (byte ∷ text) rest kind first separator second spelled =
    let p = begun_gap a b separator in
    let whole : p.0 ∷ (p.1 ++ b) ≡ byte ∷ (text ++ rest) = ap (λ (t : List ℕ). t ++ b) (sym p.2) ∙ sym first ∙ second in
    let same : p.0 ≡ byte = cc in
    both_ways (begins_gap byte) (no_gap kind byte text spelled) (ap begins_gap (sym same) ∙ p.3)

-- a token is no longer than another one there
no_longer : (bytes text rest other more : List ℕ) (kind another : TokenKind) → bytes ≡ text ++ rest → IsNext kind text rest → bytes ≡ other ++ more → IsNext another other more → length other ≤ length text
no_longer bytes text rest other more kind another first next second also =
    elim (cases_lt (length text) (length other)) [
      | inl longer ↦
          let p = split text rest other more (sym first ∙ second) (omega arith) in
          let some : 0 < length p.0 = omega (arith, ap length p.1, length-append text p.0) in
          absurd (both_ways _ (next.longest another p.0 more p.2 some) (ap (is_spelling another) (sym p.1) ∙ also.spelled))
      | inr within ↦ within
    ]

record SameToken (kind another : TokenKind) (text rest other more : List ℕ) : Type 0 where
  same_kind : kind ≡ another
  same_text : text ≡ other
  same_rest : rest ≡ more

one_token : (bytes text rest other more : List ℕ) (kind another : TokenKind) → bytes ≡ text ++ rest → IsNext kind text rest → bytes ≡ other ++ more → IsNext another other more → SameToken kind another text rest other more
one_token bytes text rest other more kind another first next second also =
    let lengths : length text ≡ length other = omega (arith, no_longer bytes text rest other more kind another first next second also, no_longer bytes other more text rest another kind second also first next) in
    let p = same_fronts text rest other more (sym first ∙ second) lengths in
    record {
      same_kind = sym (kind_spelled kind text next.spelled) ∙ kind_spelled another text (ap (is_spelling another) p.0 ∙ also.spelled);
      same_text = p.0;
      same_rest = p.1;
    }

-- ---- what a list of tokens is behind what stands at the front

some_front : (front rest : List ℕ) → IsSeparator front rest → 0 < length front
some_front front rest separator = let p = begun_gap front rest separator in omega (arith, ap length p.2)

some_text : (kind : TokenKind) (text : List ℕ) → is_spelling kind text ≡ true → 0 < length text
some_text kind [] spelled = absurd (false≢true (sym (no_empty kind) ∙ spelled))
some_text kind (byte ∷ text) spelled = omega arith

not_nothing : (front rest : List ℕ) → [] ≡ front ++ rest → 0 < length front → ⊥
not_nothing front rest whole some = omega (arith, ap length whole, length-append front rest)

after_separator : {place : Place} {bytes : List ℕ} {tokens : List Lexeme} {fault : Option LexFault} (front rest : List ℕ) → bytes ≡ front ++ rest → IsSeparator front rest → Lexes place bytes tokens fault → Lexes (place_after place front) rest tokens fault
after_separator front rest whole is ended = absurd (not_nothing front rest whole (some_front front rest is))
after_separator {place} {bytes} {tokens} {fault} front rest whole is (separated other more second also lexes) =
    let p = one_separator bytes other more front rest second also whole is in
    subst (λ (r : List ℕ). Lexes (place_after place front) r tokens fault) p.1 (subst (λ (f : List ℕ). Lexes (place_after place f) more tokens fault) p.0 lexes)
after_separator {place} {bytes} front rest whole is (token kind text more second next small lexes) = absurd (not_both bytes front rest text more kind whole is second next.spelled)
after_separator {place} {bytes} front rest whole is (large kind text more second next high) = absurd (not_both bytes front rest text more kind whole is second next.spelled)
after_separator front rest whole is (bad stuck) = absurd (stuck.no_separator front rest whole is)

-- the same behind a token: it is the first, or it is the fault
data Behind : Place → TokenKind → List ℕ → List ℕ → List Lexeme → Option LexFault → Type 0 where
  token_there : {place : Place} {kind : TokenKind} {text rest : List ℕ} {more : List Lexeme} {fault : Option LexFault} → is_in_range kind text ≡ true → Lexes (place_after place text) rest more fault → Behind place kind text rest (record { kind = kind; text = text; place = place } ∷ more) fault
  fault_there : {place : Place} {kind : TokenKind} {text rest : List ℕ} → is_in_range kind text ≡ false → Behind place kind text rest [] (Some (faults.NumberRange place))

same_behind : (place : Place) (tokens : List Lexeme) (fault : Option LexFault) (kind another : TokenKind) (text rest other more : List ℕ) → SameToken kind another text rest other more → Behind place another other more tokens fault → Behind place kind text rest tokens fault
same_behind place tokens fault kind another text rest other more same behind =
    subst (λ (k : TokenKind). Behind place k text rest tokens fault) (sym same.same_kind)
    (subst (λ (t : List ℕ). Behind place another t rest tokens fault) (sym same.same_text)
    (subst (λ (r : List ℕ). Behind place another other r tokens fault) (sym same.same_rest) behind))

after_token : {place : Place} {bytes : List ℕ} {tokens : List Lexeme} {fault : Option LexFault} (kind : TokenKind) (text rest : List ℕ) → bytes ≡ text ++ rest → IsNext kind text rest → Lexes place bytes tokens fault → Behind place kind text rest tokens fault
after_token kind text rest whole next ended = absurd (not_nothing text rest whole (some_text kind text next.spelled))
after_token {place} {bytes} kind text rest whole next (separated front more second is lexes) = absurd (not_both bytes front more text rest kind second is whole next.spelled)
after_token {place} {bytes} {tokens} {fault} kind text rest whole next (token another other more second also small lexes) =
    same_behind place _ fault kind another text rest other more (one_token bytes text rest other more kind another whole next second also) (token_there small lexes)
after_token {place} {bytes} kind text rest whole next (large another other more second also high) =
    same_behind place [] _ kind another text rest other more (one_token bytes text rest other more kind another whole next second also) (fault_there (not-true _ high))
after_token kind text rest whole next (bad stuck) = absurd (stuck.no_token kind text rest whole next)

-- ---- one reading

pub record AreSame (tokens others : List Lexeme) (fault other : Option LexFault) : Type 0 where
  pub same_tokens : tokens ≡ others
  pub same_fault : fault ≡ other

first_only : {place : Place} {kind : TokenKind} {text rest : List ℕ} {others : List Lexeme} {other : Option LexFault} (tokens : List Lexeme) (fault : Option LexFault) → is_in_range kind text ≡ true → ((more : List Lexeme) (last : Option LexFault) → Lexes (place_after place text) rest more last → AreSame tokens more fault last) → Behind place kind text rest others other → AreSame (record { kind = kind; text = text; place = place } ∷ tokens) others fault other
first_only {place} {kind} {text} tokens fault small same (token_there {more = more} also lexes) =
    let s = same more _ lexes in
    record { same_tokens = ap (λ (ts : List Lexeme). record { kind = kind; text = text; place = place } ∷ ts) s.same_tokens; same_fault = s.same_fault }
first_only tokens fault small same (fault_there high) = absurd (both_ways _ high small)

large_only : {place : Place} {kind : TokenKind} {text rest : List ℕ} {others : List Lexeme} {other : Option LexFault} → is_in_range kind text ≡ false → Behind place kind text rest others other → AreSame [] others (Some (faults.NumberRange place)) other
large_only high (token_there small lexes) = absurd (both_ways _ high small)
large_only high (fault_there also) = record { same_tokens = refl; same_fault = refl }

ended_only : {place : Place} {bytes : List ℕ} {tokens : List Lexeme} {fault : Option LexFault} → bytes ≡ [] → Lexes place bytes tokens fault → AreSame [] tokens None fault
ended_only none ended = record { same_tokens = refl; same_fault = refl }
ended_only none (separated front rest whole is lexes) = absurd (not_nothing front rest (sym none ∙ whole) (some_front front rest is))
ended_only none (token kind text rest whole next small lexes) = absurd (not_nothing text rest (sym none ∙ whole) (some_text kind text next.spelled))
ended_only none (large kind text rest whole next high) = absurd (not_nothing text rest (sym none ∙ whole) (some_text kind text next.spelled))
ended_only none (bad stuck) = absurd (omega (arith, stuck.some, ap length none))

stuck_only : {place : Place} {bytes : List ℕ} {tokens : List Lexeme} {fault : Option LexFault} → IsStuck bytes → Lexes place bytes tokens fault → AreSame [] tokens (Some (faults.BadByte place)) fault
stuck_only stuck ended = absurd (omega (arith, stuck.some))
stuck_only stuck (separated front rest whole is lexes) = absurd (stuck.no_separator front rest whole is)
stuck_only stuck (token kind text rest whole next small lexes) = absurd (stuck.no_token kind text rest whole next)
stuck_only stuck (large kind text rest whole next high) = absurd (stuck.no_token kind text rest whole next)
stuck_only stuck (bad also) = record { same_tokens = refl; same_fault = refl }

pub one_reading : {place : Place} {bytes : List ℕ} {tokens others : List Lexeme} {fault other : Option LexFault} → Lexes place bytes tokens fault → Lexes place bytes others other → AreSame tokens others fault other
one_reading ended second = ended_only refl second
one_reading (separated front rest whole is lexes) second = one_reading lexes (after_separator front rest whole is second)
one_reading (token kind text rest whole next small lexes) second =
    first_only _ _ small (λ more last behind. one_reading lexes behind) (after_token kind text rest whole next second)
one_reading (large kind text rest whole next high) second = large_only (not-true _ high) (after_token kind text rest whole next second)
one_reading (bad stuck) second = stuck_only stuck second

-- ---- the tokens are slices

wider : (place : Place) (bytes front rest : List ℕ) (tokens : List Lexeme) → bytes ≡ front ++ rest → AreSlices (place_after place front) rest tokens → AreSlices place bytes tokens
wider place bytes front rest [] whole slices = tt
wider place bytes front rest (first ∷ more) whole slices =
    let gap = slices.0 in
    (front ++ gap, slices.1, whole ∙ ap (λ (t : List ℕ). front ++ t) slices.2 ∙ sym (append_assoc front gap (first.text ++ slices.1)), slices.3 ∙ sym (place_after-append place front gap), slices.4)

pub lexes_slices : {place : Place} {bytes : List ℕ} {tokens : List Lexeme} {fault : Option LexFault} → Lexes place bytes tokens fault → AreSlices place bytes tokens
lexes_slices ended = tt
lexes_slices {place} {bytes} {tokens} (separated front rest whole is lexes) = wider place bytes front rest tokens whole (lexes_slices lexes)
lexes_slices (token kind text rest whole next small lexes) = ([], rest, whole, refl, lexes_slices lexes)
lexes_slices (large kind text rest whole next high) = tt
lexes_slices (bad stuck) = tt

-- no fault is want of memory
pub lexes_fault : {place : Place} {bytes : List ℕ} {tokens : List Lexeme} {fault : Option LexFault} → Lexes place bytes tokens fault → fault ≡ Some faults.Memory → ⊥
lexes_fault ended is = cc
lexes_fault (separated front rest whole separator lexes) is = lexes_fault lexes is
lexes_fault (token kind text rest whole next small lexes) is = lexes_fault lexes is
lexes_fault (large kind text rest whole next high) is = cc
lexes_fault (bad stuck) is = cc
