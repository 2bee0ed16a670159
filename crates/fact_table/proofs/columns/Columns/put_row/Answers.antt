use Rattle.std.proofs.Common.{◌∙◌, pos, ap, slice_index_or, arith}
use Rattle.std.proofs.lemmas.Option.{slice_get-get_or}
use Rattle.tel_term.specs.declared.terms.Value.TheVariants as values
use Rattle.fact_table.specs.declared.columns.Cell.{Cell}
use Rattle.fact_table.specs.Columns.{with_place, places}
use Rattle.fact_table.proofs.Placing.{put_more, columns_apart}
use Rattle.fact_table.proofs.columns.Columns.put_row.Goals as goal

pub put-requires-clause-room : goal.put-requires-clause-room
put-requires-clause-room c =
    let inside = c.loop-column-test.true in
    c.loop-column.invariant.2 c.loop-column.column _ (omega arith) inside (slice_get-get_or c.args.row.now c.loop-column.column (values.Num (pos 0)) inside)

pub loop-column-preserved : goal.loop-column-preserved
loop-column-preserved c =
    let column = c.loop-column.column in
    let row = c.args.row.now in
    let cell : Cell = record { column = column; value = slice_index_or row column (values.Num (pos 0)) } in (
      c.put.ensures.listed,
      λ other. c.put.ensures.places other ∙ ap (with_place cell c.args.place other) (c.loop-column.invariant.1 other)
          ∙ put_more row column (values.Num (pos 0)) c.loop-column-test.true other c.args.place (places c.args.self.now other),
      λ at value past inside is.
          c.put.ensures.rooms (record { column = at; value = value }) (columns_apart cell (record { column = at; value = value }) (omega (arith, past))) (c.loop-column.invariant.2 at value (omega (arith, past)) inside is),
    )
