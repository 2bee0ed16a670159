use Rattle.std.proofs.Common.{◌∙◌, ap, sym}
use Rattle.std.proofs.lemmas.List.{take_rest}
use Rattle.tel_lex.specs.Reading.{behind}
use Rattle.tel_lex.proofs.Offsets.{variable_run}
use Rattle.tel_lex.proofs.front.variable_len.Goals as goal

pub returns-in-Some : goal.returns-in-Some
returns-in-Some c =
    sym (variable_run c.args.bytes.now c.low_lines_len-before.result c.low_lines_len-before.ensures.len ∙ ap (behind c.low_lines_len-before.result) (sym (rw take_rest at c.in-Some.ensures.len)))

pub returns-in-None : goal.returns-in-None
returns-in-None c =
    sym (variable_run c.args.bytes.now c.low_lines_len-before.result c.low_lines_len-before.ensures.len ∙ ap (behind c.low_lines_len-before.result) (sym (rw take_rest at c.in-None.ensures.len)))
