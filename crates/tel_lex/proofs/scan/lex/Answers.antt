use Rattle.std.proofs.Common.{◌≡◌, ◌∙◌, ◌++◌, ◌∷◌, [], true, not, length, take, eqb, Some, None, ap, sym, arith}
use Rattle.std.proofs.lemmas.Bool.{eqb-true}
use Rattle.std.proofs.lemmas.List.{take_rest, nil_from_length}
use Rattle.std.specs.Result.{is_ok}
use Rattle.tel_lex.specs.declared.fault.LexFault.TheVariants as faults
use Rattle.tel_lex.specs.Places.{start_of, place_after}
use Rattle.tel_lex.specs.Tokens.{tokens_of, IsLexed}
use Rattle.tel_lex.specs.Reading.{blanks_from}
use Rattle.tel_lex.proofs.Going.{goes_gap, goes_token, goes_blanks, tokens-push, lexed_bad, lexed_large, lexed_all, lexed_only, lexed_slices}
use Rattle.tel_lex.proofs.scan.lex.Goals as goal

pub reading-preserved-in-Gap : goal.reading-preserved-in-Gap
reading-preserved-in-Gap c =
    rw take_rest (goes_gap (start_of c.args.file) c.args.bytes.now (tokens_of c.reading.tokens.items) c.reading.place c.reading.rest.now c.reading.invariant
    c.in-Gap.length c.place_after-place.result c.place_after-place.ensures c.in-Gap.ensures)

pub reading-preserved-in-Token : goal.reading-preserved-in-Token
reading-preserved-in-Token c =
    let rest = c.reading.rest.now in
    let n = c.in-Token.length in
    let ok : is_ok c.push.result ≡ true = c.is_err.ensures.negation ∙ ap not c.if-is_err.false in
    let items : tokens_of c.push.new.self.items ≡ tokens_of c.reading.tokens.items ++ record { kind = c.in-Token.kind; text = take n rest; place = c.reading.place } ∷ [] = tokens-push _ _ _ _ ok c.push.ensures.items in
    rw (take_rest, items) (goes_token (start_of c.args.file) c.args.bytes.now (tokens_of c.reading.tokens.items) c.reading.place rest c.reading.invariant c.in-Token.kind n c.in-Token.ensures)

pub reading-preserved : goal.reading-preserved
reading-preserved c =
    let rest = c.reading.rest.now in
    let n = c.in-Blanks.count in
    let items : tokens_of c.push_blanks.new.tokens.items ≡ tokens_of c.reading.tokens.items ++ blanks_from c.reading.place (take n rest) = c.in-Ok.ensures in
    rw (take_rest, items) (goes_blanks (start_of c.args.file) c.args.bytes.now (tokens_of c.reading.tokens.items) c.reading.place rest c.reading.invariant n c.in-Blanks.ensures)

large_lexed : (c : goal.After-place_after-end) → IsLexed c.args.file c.args.bytes.now (tokens_of c.reading.tokens.items) (Some (faults.NumberRange c.reading.place)) c.place_after-end.result
large_lexed c = lexed_large c.args.file c.args.bytes.now (tokens_of c.reading.tokens.items) c.reading.place c.reading.rest.now c.reading.invariant c.place_after-end.result c.place_after-end.ensures c.in-Large.ensures

bad_lexed : (c : goal.After-place_after-end-in-Bad) → IsLexed c.args.file c.args.bytes.now (tokens_of c.reading.tokens.items) (Some (faults.BadByte c.reading.place)) c.place_after-end-in-Bad.result
bad_lexed c = lexed_bad c.args.file c.args.bytes.now (tokens_of c.reading.tokens.items) c.reading.place c.reading.rest.now c.reading.invariant c.place_after-end-in-Bad.result c.place_after-end-in-Bad.ensures c.in-Bad.ensures

all_lexed : (c : goal.After-reading) → IsLexed c.args.file c.args.bytes.now (tokens_of c.reading.tokens.items) None c.reading.place
all_lexed c =
    let none : eqb (length c.reading.rest.now) 0 ≡ true = grind arith in
    let nothing : length c.reading.rest.now ≡ 0 = eqb-true _ _ none in
    lexed_all c.args.file c.args.bytes.now (tokens_of c.reading.tokens.items) c.reading.place c.reading.rest.now c.reading.invariant c.reading.place (ap (place_after c.reading.place) (sym (nil_from_length c.reading.rest.now nothing))) nothing

pub returns-in-Large-clause-ok : goal.returns-in-Large-clause-ok
returns-in-Large-clause-ok c = large_lexed c

pub returns-in-Large-clause-only : goal.returns-in-Large-clause-only
returns-in-Large-clause-only c = lexed_only c.args.file c.args.bytes.now (tokens_of c.reading.tokens.items) (Some (faults.NumberRange c.reading.place)) c.place_after-end.result (large_lexed c)

pub returns-in-Large-clause-slices : goal.returns-in-Large-clause-slices
returns-in-Large-clause-slices c = lexed_slices c.args.file c.args.bytes.now (tokens_of c.reading.tokens.items) (Some (faults.NumberRange c.reading.place)) c.place_after-end.result (large_lexed c)

pub returns-in-Bad-clause-ok : goal.returns-in-Bad-clause-ok
returns-in-Bad-clause-ok c = bad_lexed c

pub returns-in-Bad-clause-only : goal.returns-in-Bad-clause-only
returns-in-Bad-clause-only c = lexed_only c.args.file c.args.bytes.now (tokens_of c.reading.tokens.items) (Some (faults.BadByte c.reading.place)) c.place_after-end-in-Bad.result (bad_lexed c)

pub returns-in-Bad-clause-slices : goal.returns-in-Bad-clause-slices
returns-in-Bad-clause-slices c = lexed_slices c.args.file c.args.bytes.now (tokens_of c.reading.tokens.items) (Some (faults.BadByte c.reading.place)) c.place_after-end-in-Bad.result (bad_lexed c)

pub returns-clause-ok : goal.returns-clause-ok
returns-clause-ok c = all_lexed c

pub returns-clause-only : goal.returns-clause-only
returns-clause-only c = lexed_only c.args.file c.args.bytes.now (tokens_of c.reading.tokens.items) None c.reading.place (all_lexed c)

pub returns-clause-slices : goal.returns-clause-slices
returns-clause-slices c = lexed_slices c.args.file c.args.bytes.now (tokens_of c.reading.tokens.items) None c.reading.place (all_lexed c)
