use Rattle.std.proofs.Common.{◌≡◌, Bool, subst, Result, Ok, Err, OnOk}
use Rattle.std.specs.List.{position_or_len}
use Rattle.indexmap.specs.IndexSet.{insert_key}
use Rattle.fact_table.specs.declared.columns.Cell.{Cell}
use Rattle.fact_table.specs.declared.columns.Columns.{Columns}
use Rattle.fact_table.proofs.Numbering.{derived}
use Rattle.fact_table.proofs.Placing.{keeps_then, reserved, has_room}
use Rattle.fact_table.proofs.columns.Columns.reserve.Goals as goal

on_ok : {T E P Q : Type 0} (result : Result T E) → (P → Q) → OnOk result P → OnOk result Q
on_ok (Ok value) f h = f h
on_ok (Err fault) f h = h

pub returns-clause-keeps : goal.returns-clause-keeps
returns-clause-keeps c =
    let old = c.make_list.new.self in
    let keys = subst (λ (eq : Cell → Cell → Bool). c.insert_full.new.self.keys ≡ insert_key eq old.cells.keys c.args.cell) derived c.in-Ok.ensures.keys in
    keeps_then c.args.self.now old (record { alloc = old.alloc; cells = c.insert_full.new.self; lists = c.reserve_at.new.lists }) c.in_ok-make_list.ensures.keeps
    (reserved old (record { alloc = old.alloc; cells = c.insert_full.new.self; lists = c.reserve_at.new.lists }) c.args.cell c.in_ok-make_list.ensures.keeps.listed keys c.reserve_at.ensures.lists c.reserve_at.ensures.len c.reserve_at.ensures.rooms c.in_ok-make_list.ensures.more)

pub returns-clause-room : goal.returns-clause-room
returns-clause-room c =
    let old = c.make_list.new.self in
    let new : Columns = record { alloc = old.alloc; cells = c.insert_full.new.self; lists = c.reserve_at.new.lists } in
    let keys = subst (λ (eq : Cell → Cell → Bool). c.insert_full.new.self.keys ≡ insert_key eq old.cells.keys c.args.cell) derived c.in-Ok.ensures.keys in
    let is = subst (λ (eq : Cell → Cell → Bool). c.in-Ok.found.0 ≡ position_or_len (eq c.args.cell) old.cells.keys) derived c.in-Ok.ensures.index in
    on_ok c.reserve_at.result (has_room old new c.args.cell c.in_ok-make_list.ensures.keeps.listed keys c.in-Ok.found.0 is) c.reserve_at.ensures.room
