use Rattle.std.proofs.Common.{◌≡◌, ◌∙◌, ◌++◌, ap, sym, length, List}
use Rattle.tel_term.specs.declared.terms.Value.{Value}
use Rattle.fact_table.specs.Rows.{with_row}
use Rattle.fact_table.specs.Columns.{places, if_in}
use Rattle.fact_table.proofs.Pushes.{held_more}
use Rattle.fact_table.proofs.table.Table.add.Goals as goal

pub invariant_of-self-2 : goal.invariant_of-self-2
invariant_of-self-2 c =
    let rows = c.self.inside.rows.keys in
    let mid = c.reserve_row.new.self in
    let place = c.len-place.result in
    let same : c.reserve.new.self.keys ≡ rows = c.in_ok-reserve.ensures.keys in
    held_more rows c.insert.new.self.keys c.args.row c.self.inside.columns mid c.put_row.new.self place c.self.invariant c.in_ok-reserve_row.ensures.keeps c.put_row.ensures.listed
    (λ cell. c.put_row.ensures.places cell ∙ ap (λ (row : List Value). places mid cell ++ if_in row cell place) c.as_slice-2.ensures)
    (c.len-place.ensures.len ∙ ap length same)
    (sym c.contains.ensures ∙ c.if-contains.false)
    (c.in-Ok.ensures.keys ∙ ap (λ (keys : List (List Value)). with_row keys c.args.row) same)
