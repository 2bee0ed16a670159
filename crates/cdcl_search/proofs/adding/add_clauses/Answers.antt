use Rattle.std.proofs.Common.{◌≡◌, ℕ, ◌+◌, ◌≤◌, List, [], ◌∷◌, ◌++◌, length, drop, refl, sym, ap, subst, ◌∙◌, arith}
use Rattle.std.specs.Prelude.{IsTrue}
use Rattle.std.proofs.Math.ListN.{drop_of_length-le}
use Rattle.std.proofs.lemmas.List.{append-nil, append_assoc, length-append}
use Rattle.tel_base.specs.declared.literals.Lit.{Lit}
use Rattle.tel_base.proofs.Members.{In-get_or, In-list_all}
use Rattle.clause_store.specs.declared.store.ClauseKind.TheVariants as kinds
use Rattle.clause_store.specs.Held.{Held, is_clause}
use Rattle.lit_trail.specs.Entries.{back}
use Rattle.lit_trail.proofs.LevelSteps.{back_all}
use Rattle.cdcl_search.specs.Searches.{literal_count, held_of_module, lengths_of_module}
use Rattle.cdcl_search.proofs.KeptLists.{next_item}
use Rattle.cdcl_search.proofs.adding.add_clauses.Goals as goal

pub loop-clause-init : goal.loop-clause-init
loop-clause-init c = (c.requires.ready, c.requires.level, refl, refl, c.requires.clause_room, c.requires.lit_room, c.requires.lengths_room, refl, refl)

pub hold-requires-clause-ready : goal.hold-requires-clause-ready
hold-requires-clause-ready c = c.loop-clause.invariant.0

pub hold-requires-clause-clause : goal.hold-requires-clause-clause
hold-requires-clause-clause c =
    let xs = c.args.clauses.now in
    let x = c.clause-item.result in
    let within = c.loop-clause-test.true in
    let there = In-get_or xs c.loop-clause.clause-index x within (sym c.clause-item.is) in
    let right = In-list_all (is_clause c.args.trail.now.vars) x xs c.requires.clauses there in
    subst (λ (n : ℕ). IsTrue (is_clause n c.as_slice.result.now)) (sym c.loop-clause.invariant.3) (subst (λ (ls : List Lit). IsTrue (is_clause c.args.trail.now.vars ls)) (sym c.as_slice.ensures) right)

pub hold-requires-clause-clause_room : goal.hold-requires-clause-clause_room
hold-requires-clause-clause_room c =
    let cons = ap length (next_item c.args.clauses.now c.loop-clause.clause-index c.clause-item.result c.loop-clause-test.true c.clause-item.is) in
    let room = c.loop-clause.invariant.4 in
    omega (arith, cons, room)

pub hold-requires-clause-lit_room : goal.hold-requires-clause-lit_room
hold-requires-clause-lit_room c =
    let cons = ap literal_count (next_item c.args.clauses.now c.loop-clause.clause-index c.clause-item.result c.loop-clause-test.true c.clause-item.is) in
    let room = c.loop-clause.invariant.5 in
    let same = ap length c.as_slice.ensures in
    omega (arith, cons, room, same)

pub push_length-requires : goal.push_length-requires
push_length-requires c =
    let cons = ap length (next_item c.args.clauses.now c.loop-clause.clause-index c.clause-item.result c.loop-clause-test.true c.clause-item.is) in
    let room = c.loop-clause.invariant.6 in
    omega (arith, cons, room)

pub loop-clause-preserved : goal.loop-clause-preserved
loop-clause-preserved c =
    let i = c.loop-clause.clause-index in
    let xs = c.args.clauses.now in
    let x = c.clause-item.result in
    let cons = next_item xs i x c.loop-clause-test.true c.clause-item.is in
    let count = ap length cons in
    let sum = ap literal_count cons in
    let same = c.as_slice.ensures in
    let size = ap length same in
    let inv = c.loop-clause.invariant in
    let hold = c.hold.ensures in
    let rest = drop (i + 1) xs in
    let clauses = inv.4 in
    let lits = inv.5 in
    let lengths = inv.6 in
    let pushed = ap length c.push_length.ensures.items ∙ length-append c.loop-clause.lengths.items (c.args.n ∷ []) in
    let grown = c.push_length.ensures.room in
    let clause_room = hold.clause_room in
    let lit_room = hold.lit_room in
    let one : Held = record { kind = kinds.Module; lits = x } in
    let added : c.hold.new.store.clauses ≡ c.loop-clause.store.clauses ++ one ∷ [] = hold.added ∙ ap (λ (ls : List Lit). c.loop-clause.store.clauses ++ record { kind = kinds.Module; lits = ls } ∷ []) same in
    let low : c.args.trail.now.level ≤ 0 = (let z = c.requires.level in omega (arith, z)) in (
      hold.ready,
      hold.level,
      hold.entries ∙ ap (back 0) inv.2 ∙ back_all c.args.trail.now.entries c.args.trail.now.level 0 c.len-count.ensures.levels low,
      hold.vars ∙ inv.3,
      omega (arith, count, clauses, clause_room),
      omega (arith, sum, lits, lit_room, size),
      omega (arith, count, lengths, pushed, grown),
      ap (λ (cs : List Held). cs ++ held_of_module rest) added ∙ append_assoc c.loop-clause.store.clauses (one ∷ []) (held_of_module rest) ∙ ap (λ ys. c.loop-clause.store.clauses ++ held_of_module ys) (sym cons) ∙ inv.7,
      ap (λ (ns : List ℕ). ns ++ lengths_of_module c.args.n rest) c.push_length.ensures.items ∙ append_assoc c.loop-clause.lengths.items (c.args.n ∷ []) (lengths_of_module c.args.n rest) ∙ ap (λ ys. c.loop-clause.lengths.items ++ lengths_of_module c.args.n ys) (sym cons) ∙ inv.8,
    )

pub returns-clause-ready : goal.returns-clause-ready
returns-clause-ready c = c.loop-clause.invariant.0

pub returns-clause-level : goal.returns-clause-level
returns-clause-level c = c.loop-clause.invariant.1

pub returns-clause-entries : goal.returns-clause-entries
returns-clause-entries c = c.loop-clause.invariant.2

pub returns-clause-vars : goal.returns-clause-vars
returns-clause-vars c = c.loop-clause.invariant.3

pub returns-clause-held : goal.returns-clause-held
returns-clause-held c =
    let past = drop_of_length-le c.args.clauses.now c.loop-clause-test.false in
    sym (append-nil c.loop-clause.store.clauses) ∙ ap (λ ys. c.loop-clause.store.clauses ++ held_of_module ys) (sym past) ∙ c.loop-clause.invariant.7

pub returns-clause-lengths : goal.returns-clause-lengths
returns-clause-lengths c =
    let past = drop_of_length-le c.args.clauses.now c.loop-clause-test.false in
    sym (append-nil c.loop-clause.lengths.items) ∙ ap (λ ys. c.loop-clause.lengths.items ++ lengths_of_module c.args.n ys) (sym past) ∙ c.loop-clause.invariant.8
