use Rattle.std.proofs.Common.{◌≡◌, ◌∙◌, ◌<◌, ap, sym, subst, Bool, ℕ, List, Some, None, slice_index_or, length, position}
use Rattle.std.specs.Global.{Vec}
use Rattle.std.proofs.lemmas.Bool.{ltb-true}
use Rattle.fact_table.proofs.ListSteps.{list_at-get}
use Rattle.fact_table.specs.declared.columns.Cell.{Cell}
use Rattle.fact_table.specs.Lists.{lists_of, list_at}
use Rattle.fact_table.specs.Columns.{same_cell, number_of}
use Rattle.fact_table.proofs.Numbering.{derived, some_place, no_place}
use Rattle.fact_table.proofs.columns.Columns.places.Goals as goal

pub returns-in-Some-get : goal.returns-in-Some-get
returns-in-Some-get c =
    let items = c.args.self.now.lists.items in
    let list = c.in-Some-get.list.now in
    let found = c.in-Some-get.ensures.lookup in
    let inside = subst (λ (l : List (Vec ℕ)). c.in-Some.number < length l) c.deref.ensures.value (ltb-true c.in-Some.number (length c.deref.result.now) (sym found.0)) in
    let is = some_place (same_cell c.args.cell) c.args.self.now.cells.keys c.in-Some.number (subst (λ (eq : Cell → Cell → Bool). Some c.in-Some.number ≡ position (eq c.args.cell) c.args.self.now.cells.keys) derived c.in-Some.ensures.index) in
    c.as_slice.ensures.value ∙ ap (λ (l : Vec ℕ). l.items) found.1
    ∙ ap (λ (l : List (Vec ℕ)). (slice_index_or l c.in-Some.number list).items) c.deref.ensures.value
    ∙ sym (list_at-get items c.in-Some.number list inside)
    ∙ ap (list_at (lists_of items)) is

pub returns-in-None : goal.returns-in-None
returns-in-None c =
    sym (c.requires.spare (number_of c.args.self.now.cells.keys c.args.cell) (no_place (same_cell c.args.cell) c.args.self.now.cells.keys (subst (λ (eq : Cell → Cell → Bool). None ≡ position (eq c.args.cell) c.args.self.now.cells.keys) derived c.in-None.ensures.index)))
