use Rattle.std.proofs.Common.{◌≡◌, Bool, subst, refl, Some, position}
use Rattle.fact_table.specs.declared.columns.Cell.{Cell}
use Rattle.fact_table.specs.Columns.{same_cell}
use Rattle.fact_table.proofs.Numbering.{derived, some_place}
use Rattle.fact_table.proofs.Placing.{put_places, put_rooms, put_listed}
use Rattle.fact_table.proofs.columns.Columns.put.Goals as goal

pub returns-clause-places : goal.returns-clause-places
returns-clause-places c =
    let is = some_place (same_cell c.args.cell) c.args.self.now.cells.keys c.in-Some.number (subst (λ (eq : Cell → Cell → Bool). Some c.in-Some.number ≡ position (eq c.args.cell) c.args.self.now.cells.keys) derived c.in-Some.ensures.index) in
    put_places c.args.self.now (record { alloc = c.args.self.now.alloc; cells = c.args.self.now.cells; lists = c.push_at.new.lists }) c.args.cell c.args.place c.in-Some.number c.requires.listed is c.in-Some.ensures.within refl c.push_at.ensures.lists

pub returns-clause-rooms : goal.returns-clause-rooms
returns-clause-rooms c =
    let is = some_place (same_cell c.args.cell) c.args.self.now.cells.keys c.in-Some.number (subst (λ (eq : Cell → Cell → Bool). Some c.in-Some.number ≡ position (eq c.args.cell) c.args.self.now.cells.keys) derived c.in-Some.ensures.index) in
    put_rooms c.args.self.now (record { alloc = c.args.self.now.alloc; cells = c.args.self.now.cells; lists = c.push_at.new.lists }) c.args.cell c.args.place c.in-Some.number c.requires.listed is c.in-Some.ensures.within refl c.push_at.ensures.rooms

pub returns-clause-listed : goal.returns-clause-listed
returns-clause-listed c =
    let is = some_place (same_cell c.args.cell) c.args.self.now.cells.keys c.in-Some.number (subst (λ (eq : Cell → Cell → Bool). Some c.in-Some.number ≡ position (eq c.args.cell) c.args.self.now.cells.keys) derived c.in-Some.ensures.index) in
    put_listed c.args.self.now (record { alloc = c.args.self.now.alloc; cells = c.args.self.now.cells; lists = c.push_at.new.lists }) c.args.cell c.args.place c.in-Some.number c.requires.listed is c.in-Some.ensures.within refl c.push_at.ensures.len c.push_at.ensures.lists
