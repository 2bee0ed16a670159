use Rattle.std.proofs.Common.{◌≡◌, ◌+◌, ℕ, pos, List, sym, subst, slice_get, slice_index_or, Some, inl, inr, arith}
use Rattle.std.proofs.lemmas.Bool.{cases_order}
use Rattle.std.proofs.lemmas.Option.{get_or_from_slice_get}
use Rattle.tel_term.specs.declared.terms.Value.{Value}
use Rattle.tel_term.specs.declared.terms.Value.TheVariants as values
use Rattle.fact_table.specs.declared.columns.Columns.{Columns}
use Rattle.fact_table.specs.Columns.{HasRoom, HaveRoom, Keeps}
use Rattle.fact_table.proofs.Placing.{keeps_then}
use Rattle.fact_table.proofs.columns.Columns.reserve_row.Goals as goal

-- room for one cell more
more_have : (old new : Columns) (row : List Value) (column : ℕ) (none : Value) → Keeps old new → HaveRoom old row 0 column
    → HasRoom new (record { column = column; value = slice_index_or row column none }) → HaveRoom new row 0 (column + 1)
more_have old new row column none keeps have room at value past below is = elim (cases_order at column) [
  | inl same ↦
      let here : slice_index_or row column none ≡ value = get_or_from_slice_get row column value none (subst (λ (n : ℕ). slice_get row n ≡ Some value) same is) in
      subst (HasRoom new) (λ i. record { column = sym same i; value = here i }) room
  | inr apart ↦ elim apart [
    | inl less ↦ keeps.room_stays (record { column = at; value = value }) (have at value past less is)
    | inr more ↦ absurd (omega (arith, below, more))
  ]
]

pub loop-column-preserved : goal.loop-column-preserved
loop-column-preserved c =
    let keeps = c.in_ok-reserve.ensures.keeps in (
      keeps_then c.args.self.now c.loop-column.self c.reserve.new.self c.loop-column.invariant.0 keeps,
      more_have c.loop-column.self c.reserve.new.self c.args.row.now c.loop-column.column (values.Num (pos 0)) keeps c.loop-column.invariant.1 c.in_ok-reserve.ensures.room,
    )
