use Rattle.std.proofs.Common.{◌≡◌, ◌∙◌, ◌<◌, ◌≤◌, ap, sym, List, ℕ, slice_set, slice_index_or, length, arith}
use Rattle.std.specs.Global.{Vec}
use Rattle.fact_table.specs.Lists.{lists_of, room_of, room_at}
use Rattle.fact_table.proofs.ListSteps.{lists_of-set, list_at-get, set_same, room_at-get, room_at-written, rooms_rise}
use Rattle.fact_table.proofs.lists.reserve_at.Goals as goal

-- the written list has the same places
same_lists : (xs : List (Vec ℕ)) (i : ℕ) (old new : Vec ℕ) → i < length xs → old ≡ slice_index_or xs i old → new.items ≡ old.items → lists_of (slice_set xs i new) ≡ lists_of xs
same_lists xs i old new inside is same =
    lists_of-set xs i new ∙ ap (slice_set (lists_of xs) i) (same ∙ ap (λ (list : Vec ℕ). list.items) is ∙ sym (list_at-get xs i old inside)) ∙ set_same (lists_of xs) i

more_room : (xs : List (Vec ℕ)) (i : ℕ) (old new : Vec ℕ) → i < length xs → old ≡ slice_index_or xs i old → room_of old ≤ room_of new → (other : ℕ) → room_at xs other ≤ room_at (slice_set xs i new) other
more_room xs i old new inside is more =
    let was : room_at xs i ≡ room_of old = room_at-get xs i old inside ∙ ap room_of (sym is) in
    rooms_rise xs i new inside (omega (arith, was, more))

pub returns-in-Ok-clause-lists : goal.returns-in-Ok-clause-lists
returns-in-Ok-clause-lists c = same_lists c.args.lists.now.items c.args.number c.index_mut-list.result.now c.reserve.new.self c.requires c.index_mut-list.ensures.value c.in-Ok.ensures.items

pub returns-in-Ok-clause-rooms : goal.returns-in-Ok-clause-rooms
returns-in-Ok-clause-rooms c =
    let len = c.in-Ok.ensures.len in
    let capacity = c.in-Ok.ensures.capacity in
    more_room c.args.lists.now.items c.args.number c.index_mut-list.result.now c.reserve.new.self c.requires c.index_mut-list.ensures.value (omega (arith, len, capacity))

pub returns-in-Ok-clause-room : goal.returns-in-Ok-clause-room
returns-in-Ok-clause-room c =
    let written = room_at-written c.args.lists.now.items c.args.number c.reserve.new.self c.requires in
    let room = c.in-Ok.ensures.ok in
    omega (arith, written, room)

pub returns-in-Err-clause-lists : goal.returns-in-Err-clause-lists
returns-in-Err-clause-lists c = same_lists c.args.lists.now.items c.args.number c.index_mut-list.result.now c.reserve.new.self c.requires c.index_mut-list.ensures.value c.in-Err.ensures.items

pub returns-in-Err-clause-rooms : goal.returns-in-Err-clause-rooms
returns-in-Err-clause-rooms c =
    let len = c.in-Err.ensures.len in
    let capacity = c.in-Err.ensures.capacity in
    more_room c.args.lists.now.items c.args.number c.index_mut-list.result.now c.reserve.new.self c.requires c.index_mut-list.ensures.value (omega (arith, len, capacity))
