use Rattle.std.proofs.Common.{sym, arith}
use Rattle.std.proofs.lemmas.Bool.{false_from_ne_true, not_from_false, not_from_true}
use Rattle.tel_lex.specs.Tokens.{is_in_line}
use Rattle.tel_lex.proofs.Runs.{prefix_place, prefix_whole}
use Rattle.tel_lex.proofs.front.line_len.Goals as goal

pub returns-in-Some-clause-len : goal.returns-in-Some-clause-len
returns-in-Some-clause-len c =
    let first = c.in-Some.ensures in
    sym (prefix_place is_in_line c.in-Some.length c.args.bytes.now first.0.high (λ k below. not_from_false _ (false_from_ne_true _ (first.0.before k (omega arith) below))) (not_from_true _ first.1))

pub returns-in-None-clause-len : goal.returns-in-None-clause-len
returns-in-None-clause-len c =
    sym (prefix_whole is_in_line c.args.bytes.now (λ k below. not_from_false _ (false_from_ne_true _ (c.in-None.ensures k (omega arith) below))))
