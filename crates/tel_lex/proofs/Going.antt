-- Reading on from a place.
use Rattle.std.proofs.Common.{◌≡◌, ℕ, zero, suc, ◌≤◌, Bool, true, cond, List, [], ◌∷◌, ◌++◌, length, take, drop, Option, Some, None, refl, sym, ap, subst, ◌∙◌, append_assoc, arith}
use Rattle.std.specs.List.{list_all}
use Rattle.std.proofs.lemmas.Bool.{and_parts, eqb-true, cond-true}
use Rattle.std.proofs.lemmas.List.{append-nil, take-append-drop, length-take-le, length-drop, nil_from_length, map_push}
use Rattle.tel_base.specs.declared.places.Place.{Place}
use Rattle.tel_lex.specs.declared.token.Token.{Token}
use Rattle.tel_lex.specs.declared.token.TokenKind.{TokenKind}
use Rattle.tel_lex.specs.declared.token.TokenKind.TheVariants as kinds
use Rattle.tel_lex.specs.declared.fault.LexFault.{LexFault}
use Rattle.tel_lex.specs.declared.fault.LexFault.TheVariants as faults
use Rattle.tel_lex.specs.declared.front.Front.{Front}
use Rattle.tel_lex.specs.declared.front.Front.TheVariants as fronts
use Rattle.tel_lex.specs.Places.{start_of, place_after}
use Rattle.tel_lex.specs.Tokens.{Lexeme, token_of, tokens_of, Lexes, ended, separated, token, large, bad, HasTokens, IsLexed, AreSlices}
use Rattle.tel_lex.specs.Reading.{behind, variable_len, is_low_line, front_of, StandsAt, blanks_from, Goes}
use Rattle.tel_lex.proofs.Lines.{place_after-append, along, place_in_line, bytes_rise, lines_rise}
use Rattle.tel_lex.proofs.SpelledKinds.{spelled_in_line}
use Rattle.tel_lex.proofs.Standing.{blank_next, front_stands}
use Rattle.tel_lex.proofs.Once.{one_reading, lexes_slices}

module _ (place : Place) (bytes : List ℕ) (tokens : List Lexeme) (now : Place) (rest : List ℕ) (goes : Goes place bytes tokens now rest) where
  whole_rest : (n : ℕ) → rest ≡ take n rest ++ drop n rest
  whole_rest n = sym (take-append-drop n rest)

  -- behind a part of the rest
  ends_behind : (n : ℕ) → place_after (place_after now (take n rest)) (drop n rest) ≡ place_after place bytes
  ends_behind n = sym (place_after-append now (take n rest) (drop n rest)) ∙ ap (place_after now) (take-append-drop n rest) ∙ goes.ends

  pub goes_gap : (n : ℕ) (next : Place) → next ≡ place_after now (take n rest) → StandsAt rest (fronts.Gap n) → Goes place bytes tokens next (drop n rest)
  goes_gap n next next-is stands =
      let counted : length (take n rest) ≡ n = length-take-le n rest stands.0.within in
      subst (λ (q : Place). Goes place bytes tokens q (drop n rest)) (sym next-is) (record {
        on = λ more fault lexes. goes.on more fault (separated (take n rest) (drop n rest) (whole_rest n) stands.1 lexes);
        ends = ends_behind n;
        bytes_left = omega (arith, bytes_rise now (take n rest), counted, length-drop n rest, goes.bytes_left, stands.0.within);
        lines_left = omega (arith, lines_rise now (take n rest), counted, length-drop n rest, goes.lines_left, stands.0.within);
      })

  pub goes_token : (kind : TokenKind) (n : ℕ) → StandsAt rest (fronts.Token kind n) → Goes place bytes (tokens ++ record { kind = kind; text = take n rest; place = now } ∷ []) (along now n) (drop n rest)
  goes_token kind n stands =
      let counted : length (take n rest) ≡ n = length-take-le n rest stands.0.within in
      let moved : place_after now (take n rest) ≡ along now n = place_in_line now (take n rest) (spelled_in_line kind (take n rest) stands.1.spelled) ∙ ap (along now) counted in
      let this : Lexeme = record { kind = kind; text = take n rest; place = now } in
      record {
        on = λ more fault lexes.
            let there : Lexes (place_after now (take n rest)) (drop n rest) more fault = subst (λ (q : Place). Lexes q (drop n rest) more fault) (sym moved) lexes in
            subst (λ (ts : List Lexeme). Lexes place bytes ts fault) (sym (append_assoc tokens (this ∷ []) more))
            (goes.on (this ∷ more) fault (token kind (take n rest) (drop n rest) (whole_rest n) stands.1 stands.2 there));
        ends = ap (λ (q : Place). place_after q (drop n rest)) (sym moved) ∙ ends_behind n;
        bytes_left = omega (arith, length-drop n rest, goes.bytes_left, stands.0.within);
        lines_left = omega (arith, length-drop n rest, goes.lines_left);
      }

  goes_end : length rest ≡ 0 → Lexes place bytes tokens None
  goes_end none =
      let last : Lexes now rest [] None = subst (λ (r : List ℕ). Lexes now r [] None) (sym (nil_from_length rest none)) ended in
      subst (λ (ts : List Lexeme). Lexes place bytes ts None) (append-nil tokens) (goes.on [] None last)

  goes_bad : StandsAt rest fronts.Bad → Lexes place bytes tokens (Some (faults.BadByte now))
  goes_bad stands = subst (λ (ts : List Lexeme). Lexes place bytes ts (Some (faults.BadByte now))) (append-nil tokens) (goes.on [] (Some (faults.BadByte now)) (bad stands))

  goes_large : StandsAt rest fronts.Large → Lexes place bytes tokens (Some (faults.NumberRange now))
  goes_large stands =
      let n = stands.0 in
      subst (λ (ts : List Lexeme). Lexes place bytes ts (Some (faults.NumberRange now))) (append-nil tokens)
      (goes.on [] (Some (faults.NumberRange now)) (large kinds.Number (take n rest) (drop n rest) (whole_rest n) stands.1 stands.2))

-- ---- tokens of one `_` each

low_in_line : (bytes : List ℕ) → list_all is_low_line bytes ≡ true → (place : Place) → place_after place bytes ≡ along place (length bytes)
low_in_line [] all place = place_in_line place [] refl
low_in_line (byte ∷ bytes) all place =
    let p = and_parts (is_low_line byte) (list_all is_low_line bytes) all in
    let low : byte ≡ 95 = eqb-true byte 95 p.0 in
    let here : place_after place (95 ∷ bytes) ≡ along place (suc (length bytes)) = low_in_line bytes p.1 (along place 1) ∙ ap (λ (at : ℕ). record place { at = at }) (omega arith) in
    subst (λ (b : ℕ). place_after place (b ∷ bytes) ≡ along place (suc (length bytes))) (sym low) here

behind_none : (n : ℕ) (found : Option ℕ) → behind n found ≡ None → found ≡ None
behind_none n None none = refl
behind_none n (Some m) none = absurd cc

lexes_blanks : (blanks rest : List ℕ) (place : Place) (more : List Lexeme) (fault : Option LexFault) → list_all is_low_line blanks ≡ true → variable_len (blanks ++ rest) ≡ None → Lexes (along place (length blanks)) rest more fault → Lexes place (blanks ++ rest) (blanks_from place blanks ++ more) fault
lexes_blanks [] rest place more fault all none lexes =
    subst (λ (q : Place). Lexes q rest more fault) (ap (λ (at : ℕ). record place { at = at }) (omega arith)) lexes
lexes_blanks (byte ∷ blanks) rest place more fault all none lexes =
    let p = and_parts (is_low_line byte) (list_all is_low_line blanks) all in
    let low : byte ≡ 95 = eqb-true byte 95 p.0 in
    let here : variable_len (95 ∷ (blanks ++ rest)) ≡ None = subst (λ (b : ℕ). variable_len (b ∷ (blanks ++ rest)) ≡ None) low none in
    let none_behind : variable_len (blanks ++ rest) ≡ None = behind_none 1 (variable_len (blanks ++ rest)) here in
    let moved : along place (suc (length blanks)) ≡ along (along place 1) (length blanks) = ap (λ (at : ℕ). record place { at = at }) (omega arith) in
    let there : Lexes (along place 1) (blanks ++ rest) (blanks_from (along place 1) blanks ++ more) fault =
    lexes_blanks blanks rest (along place 1) more fault p.1 none_behind (subst (λ (q : Place). Lexes q rest more fault) moved lexes) in
    let one : Lexes place (95 ∷ (blanks ++ rest)) (blanks_from place (95 ∷ blanks) ++ more) fault =
    token kinds.Blank (95 ∷ []) (blanks ++ rest) refl (blank_next (blanks ++ rest) here) refl there in
    subst (λ (b : ℕ). Lexes place (b ∷ (blanks ++ rest)) (blanks_from place (b ∷ blanks) ++ more) fault) (sym low) one

pub goes_blanks : (place : Place) (bytes : List ℕ) (tokens : List Lexeme) (now : Place) (rest : List ℕ) → Goes place bytes tokens now rest → (n : ℕ) → StandsAt rest (fronts.Blanks n) → Goes place bytes (tokens ++ blanks_from now (take n rest)) (along now n) (drop n rest)
goes_blanks place bytes tokens now rest goes n stands =
    let counted : length (take n rest) ≡ n = length-take-le n rest stands.0.within in
    let moved : place_after now (take n rest) ≡ along now n = low_in_line (take n rest) stands.1 now ∙ ap (along now) counted in
    let whole : take n rest ++ drop n rest ≡ rest = take-append-drop n rest in
    let blanks = blanks_from now (take n rest) in
    record {
      on = λ more fault lexes.
          let there : Lexes (along now (length (take n rest))) (drop n rest) more fault = subst (λ (m : ℕ). Lexes (along now m) (drop n rest) more fault) (sym counted) lexes in
          let none : variable_len (take n rest ++ drop n rest) ≡ None = ap variable_len whole ∙ stands.2 in
          let here : Lexes now (take n rest ++ drop n rest) (blanks ++ more) fault = lexes_blanks (take n rest) (drop n rest) now more fault stands.1 none there in
          subst (λ (ts : List Lexeme). Lexes place bytes ts fault) (sym (append_assoc tokens blanks more))
          (goes.on (blanks ++ more) fault (subst (λ (r : List ℕ). Lexes now r (blanks ++ more) fault) whole here));
      ends = ap (λ (q : Place). place_after q (drop n rest)) (sym moved) ∙ ends_behind place bytes tokens now rest goes n;
      bytes_left = omega (arith, length-drop n rest, goes.bytes_left, stands.0.within);
      lines_left = omega (arith, length-drop n rest, goes.lines_left);
    }

-- one token more
pub tokens-push : (old new : List Token) (next : Token) (ok : Bool) → ok ≡ true → new ≡ cond ok (old ++ next ∷ []) old → tokens_of new ≡ tokens_of old ++ token_of next ∷ []
tokens-push old new next ok is new-is = ap tokens_of (new-is ∙ cond-true ok (old ++ next ∷ []) old is) ∙ map_push token_of old next

-- ---- the end

module _ (file : ℕ) (bytes : List ℕ) (tokens : List Lexeme) (now : Place) (rest : List ℕ) (goes : Goes (start_of file) bytes tokens now rest) (end : Place) (end-is : end ≡ place_after now rest) where
  lexed_end : end ≡ place_after (start_of file) bytes
  lexed_end = end-is ∙ goes.ends

  pub lexed_bad : StandsAt rest fronts.Bad → IsLexed file bytes tokens (Some (faults.BadByte now)) end
  lexed_bad stands = record { lexes = goes_bad (start_of file) bytes tokens now rest goes stands; ends = lexed_end }

  pub lexed_large : StandsAt rest fronts.Large → IsLexed file bytes tokens (Some (faults.NumberRange now)) end
  lexed_large stands = record { lexes = goes_large (start_of file) bytes tokens now rest goes stands; ends = lexed_end }

  pub lexed_all : length rest ≡ 0 → IsLexed file bytes tokens None end
  lexed_all none = record { lexes = goes_end (start_of file) bytes tokens now rest goes none; ends = lexed_end }

pub lexed_only : (file : ℕ) (bytes : List ℕ) (tokens : List Lexeme) (fault : Option LexFault) (end : Place) → IsLexed file bytes tokens fault end → (others : List Lexeme) (other : Option LexFault) (last : Place) → IsLexed file bytes others other last → (others ≡ tokens) × (other ≡ fault) × (last ≡ end)
lexed_only file bytes tokens fault end lexed others other last also =
    let same = one_reading also.lexes lexed.lexes in
    (same.same_tokens, same.same_fault, also.ends ∙ sym lexed.ends)

pub lexed_slices : (file : ℕ) (bytes : List ℕ) (tokens : List Lexeme) (fault : Option LexFault) (end : Place) → IsLexed file bytes tokens fault end → AreSlices (start_of file) bytes tokens
lexed_slices file bytes tokens fault end lexed = lexes_slices lexed.lexes

-- ---- each text is read

-- a step on from a place
one_step : (n : ℕ) (place : Place) (bytes : List ℕ) → length bytes ≤ suc n → ((now : Place) (rest : List ℕ) → length rest ≤ n → (tokens : List Lexeme) × (fault : Option LexFault) × Lexes now rest tokens fault) → (front : Front) → StandsAt bytes front → (tokens : List Lexeme) × (fault : Option LexFault) × Lexes place bytes tokens fault
one_step n place bytes within read (fronts.Gap k) stands =
    let more = read (place_after place (take k bytes)) (drop k bytes) (omega (arith, length-drop k bytes, stands.0.some, stands.0.within)) in
    (more.0, more.1, separated (take k bytes) (drop k bytes) (sym (take-append-drop k bytes)) stands.1 more.2)
one_step n place bytes within read (fronts.Token kind k) stands =
    let more = read (place_after place (take k bytes)) (drop k bytes) (omega (arith, length-drop k bytes, stands.0.some, stands.0.within)) in
    (record { kind = kind; text = take k bytes; place = place } ∷ more.0, more.1, token kind (take k bytes) (drop k bytes) (sym (take-append-drop k bytes)) stands.1 stands.2 more.2)
one_step n place bytes within read (fronts.Blanks k) stands =
    let blanks = take k bytes in
    let whole : blanks ++ drop k bytes ≡ bytes = take-append-drop k bytes in
    let more = read (along place (length blanks)) (drop k bytes) (omega (arith, length-drop k bytes, stands.0.some, stands.0.within)) in (
      blanks_from place blanks ++ more.0,
      more.1,
      subst (λ (bs : List ℕ). Lexes place bs (blanks_from place blanks ++ more.0) more.1) whole
          (lexes_blanks blanks (drop k bytes) place more.0 more.1 stands.1 (ap variable_len whole ∙ stands.2) more.2),
    )
one_step n place bytes within read fronts.Large stands =
    let k = stands.0 in
    ([], Some (faults.NumberRange place), large kinds.Number (take k bytes) (drop k bytes) (sym (take-append-drop k bytes)) stands.1 stands.2)
one_step n place bytes within read fronts.Bad stands = ([], Some (faults.BadByte place), bad stands)

some_reading : (n : ℕ) (place : Place) (bytes : List ℕ) → length bytes ≤ n → (tokens : List Lexeme) × (fault : Option LexFault) × Lexes place bytes tokens fault
some_reading n place [] within = ([], None, ended)
some_reading zero place (byte ∷ bytes) within = absurd (omega arith)
some_reading (suc n) place (byte ∷ bytes) within =
    one_step n place (byte ∷ bytes) within (some_reading n) (front_of (byte ∷ bytes)) (front_stands (byte ∷ bytes) (omega arith))

pub some_lexed : (file : ℕ) (bytes : List ℕ) → (tokens : List Lexeme) × (fault : Option LexFault) × (end : Place) × IsLexed file bytes tokens fault end
some_lexed file bytes =
    let read = some_reading (length bytes) (start_of file) bytes (omega arith) in
    (read.0, read.1, place_after (start_of file) bytes, record { lexes = read.2; ends = refl })

pub tokens_only : (file : ℕ) (bytes : List ℕ) (tokens : List Lexeme) (fault : Option LexFault) (end : Place) → IsLexed file bytes tokens fault end → (others : List Lexeme) (other : Option LexFault) → HasTokens file bytes others other → (others ≡ tokens) × (other ≡ fault)
tokens_only file bytes tokens fault end lexed others other also =
    let same = one_reading also lexed.lexes in
    (same.same_tokens, same.same_fault)
