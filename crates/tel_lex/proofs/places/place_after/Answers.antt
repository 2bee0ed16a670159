use Rattle.std.proofs.Common.{◌+◌, ◌∙◌, sym, arith}
use Rattle.std.proofs.lemmas.List.{take_rest, length-drop}
use Rattle.tel_base.specs.declared.places.Place.{Place}
use Rattle.tel_lex.proofs.Lines.{next_line, last_line}
use Rattle.tel_lex.proofs.places.place_after.Goals as goal

pub lines-preserved : goal.lines-preserved
lines-preserved c =
    let n = c.in-Some.length in
    let here : Place = record { file = c.args.place.file; line = c.lines.line; at = c.lines.at } in
    rw take_rest (record {
      same = sym (next_line here n c.lines.rest.now c.in-Some.ensures) ∙ c.lines.invariant.same;
      bytes_left = omega (arith, length-drop (n + 1) c.lines.rest.now, c.in-Some.ensures.0.high);
      lines_left = omega (arith, length-drop (n + 1) c.lines.rest.now, c.in-Some.ensures.0.high);
    })

pub returns : goal.returns
returns c =
    let here : Place = record { file = c.args.place.file; line = c.lines.line; at = c.lines.at } in
    sym (last_line here c.lines.rest.now c.in_default.ensures) ∙ c.lines.invariant.same
