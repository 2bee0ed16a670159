use Rattle.std.proofs.Common.{◌≤◌, length, ap, arith}
use Rattle.std.proofs.lemmas.List.{length-map}
use Rattle.tel_lex.specs.Tokens.{token_of}
use Rattle.part_syntax.proofs.Lengths.{lexed_few, ok_within}
use Rattle.part_syntax.proofs.files.read_file.Goals as goal

pub read_tokens-requires : goal.read_tokens-requires
read_tokens-requires c =
    let few = lexed_few _ _ _ _ _ c.in-Ok.ensures.ok in
    omega (arith, few, length-map c.in-Ok.lexed.tokens.items token_of, ap length c.as_slice.ensures, ap length c.as_slice-in-Ok.ensures.value)

pub returns-in-Ok-clause-room : goal.returns-in-Ok-clause-room
returns-in-Ok-clause-room c =
    let few = lexed_few _ _ _ _ _ c.in-Ok.ensures.ok in
    let le : length c.as_slice-in-Ok.result.now ≤ length c.args.bytes.now = omega (arith, few, length-map c.in-Ok.lexed.tokens.items token_of, ap length c.as_slice.ensures, ap length c.as_slice-in-Ok.ensures.value) in
    ok_within (λ after. length after.symbols) c.read_tokens.result (length c.args.before.symbols) (length c.as_slice-in-Ok.result.now) (length c.args.bytes.now) le c.read_tokens.ensures.room

pub returns-in-Ok-clause-few : goal.returns-in-Ok-clause-few
returns-in-Ok-clause-few c =
    let few = lexed_few _ _ _ _ _ c.in-Ok.ensures.ok in
    let le : length c.as_slice-in-Ok.result.now ≤ length c.args.bytes.now = omega (arith, few, length-map c.in-Ok.lexed.tokens.items token_of, ap length c.as_slice.ensures, ap length c.as_slice-in-Ok.ensures.value) in
    ok_within (λ after. length after.statements) c.read_tokens.result (length c.args.before.statements) (length c.as_slice-in-Ok.result.now) (length c.args.bytes.now) le c.read_tokens.ensures.few
