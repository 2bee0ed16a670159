use Rattle.std.proofs.Common.{ℕ, ◌+◌, List, ◌++◌, length, sym, ap, ◌∙◌, arith}
use Rattle.std.proofs.lemmas.List.{length-append}
use Rattle.clause_store.specs.Held.{Held}
use Rattle.cdcl_search.specs.Searches.{View, vars_for, kept_of, held_of_module, lengths_of_module, kept_of_module}
use Rattle.cdcl_search.proofs.KeptLists.{kept_module, module_count}
use Rattle.cdcl_search.proofs.Rooms.{search_wider, begun_low, ready_low, clauses_wider}
use Rattle.cdcl_search.proofs.search.Search.extend.Goals as goal

pub invariant_of-self-in_err-make_room : goal.invariant_of-self-in_err-make_room
invariant_of-self-in_err-make_room g c =
    let made = c.make_room.ensures in
    search_wider c.self.inside.store c.make_room.new.store c.self.inside.trail c.make_room.new.trail c.self.inside.scratch.vars c.make_room.new.scratch.vars c.self.inside.lengths.items c.reserve.new.self.items c.self.inside.begun c.self.invariant made.ready made.room c.in_ok-reserve.ensures.items made.held made.entries made.level made.wider

pub invariant_of-self-in_err-add : goal.invariant_of-self-in_err-add
invariant_of-self-in_err-add g c =
    let made = c.make_room.ensures in
    search_wider c.self.inside.store c.make_room.new.store c.self.inside.trail c.make_room.new.trail c.self.inside.scratch.vars c.make_room.new.scratch.vars c.self.inside.lengths.items c.reserve.new.self.items c.self.inside.begun c.self.invariant made.ready made.room c.in_ok-reserve.ensures.items made.held made.entries made.level made.wider

pub add_clauses-requires-clause-ready : goal.add_clauses-requires-clause-ready
add_clauses-requires-clause-ready g c =
    ready_low c.make_room.new.store c.make_room.new.trail c.back_to.new.self 0 c.make_room.ensures.ready c.back_to.ensures.entries c.back_to.ensures.vars c.back_to.ensures.keeps

pub add_clauses-requires-clause-clauses : goal.add_clauses-requires-clause-clauses
add_clauses-requires-clause-clauses g c =
    let vars = c.back_to.ensures.vars in
    let made = c.in_ok-make_room.ensures.vars in
    let count = c.vars_for-vars.ensures in
    clauses_wider (vars_for c.args.step.now c.args.clauses.now) c.back_to.new.self.vars c.args.clauses.now (omega (arith, vars, made, count)) c.requires.clauses

pub invariant_of-self-2 : goal.invariant_of-self-2
invariant_of-self-2 g c =
    let made = c.make_room.ensures in
    let added = c.add_clauses.ensures in
    let old = c.self.inside in
    let room = made.room in
    let wider = made.wider in
    let back = c.back_to.ensures.vars in
    let same = added.vars in
    let held = added.held ∙ ap (λ (hs : List Held). hs ++ held_of_module c.args.clauses.now) made.held in
    let lengths = added.lengths ∙ ap (λ (ns : List ℕ). ns ++ lengths_of_module (c.args.step.now.t + 1) c.args.clauses.now) c.in_ok-reserve.ensures.items in
    let count = module_count old.store.clauses old.lengths.items c.args.clauses.now (c.args.step.now.t + 1) c.self.invariant.each in
    let longer = ap length held ∙ length-append old.store.clauses (held_of_module c.args.clauses.now) in
    record {
      ready = added.ready;
      room = omega (arith, room, back, same);
      each = ap length lengths ∙ count ∙ sym (ap length held);
      at = begun_low old.trail.vars c.add_clauses.new.trail.vars (length old.store.clauses) (length c.add_clauses.new.store.clauses) old.trail c.add_clauses.new.trail old.begun (omega (arith, wider, back, same)) (omega (arith, longer)) added.level c.self.invariant.at;
    }

pub returns-clause-kept : goal.returns-clause-kept
returns-clause-kept g c =
    let made = c.make_room.ensures in
    let added = c.add_clauses.ensures in
    let old = c.self.inside in
    let n = c.args.step.now.t + 1 in
    let held = added.held ∙ ap (λ (hs : List Held). hs ++ held_of_module c.args.clauses.now) made.held in
    let lengths = added.lengths ∙ ap (λ (ns : List ℕ). ns ++ lengths_of_module n c.args.clauses.now) c.in_ok-reserve.ensures.items in
    ap (λ (hs : List Held). kept_of hs c.add_clauses.new.lengths.items) held
    ∙ ap (kept_of (old.store.clauses ++ held_of_module c.args.clauses.now)) lengths
    ∙ kept_module old.store.clauses old.lengths.items c.args.clauses.now n c.self.invariant.each
    ∙ ap (λ (v : View). v.kept ++ kept_of_module n c.args.clauses.now) c.self.view_is
