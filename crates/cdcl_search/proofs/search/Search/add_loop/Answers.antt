use Rattle.std.proofs.Common.{ℕ, ◌+◌, ◌<◌, List, [], ◌∷◌, ◌++◌, refl, sym, ap, subst, ◌∙◌, inr, arith}
use Rattle.std.specs.Prelude.{Option, Some, IsTrue}
use Rattle.tel_base.specs.declared.literals.Lit.{Lit}
use Rattle.clause_store.specs.declared.store.ClauseKind.TheVariants as kinds
use Rattle.clause_store.specs.Held.{clauses_in, is_clause}
use Rattle.clause_store.specs.Closure.{Clause, Absorbed}
use Rattle.lit_trail.specs.Sound.{IsClosedTrail}
use Rattle.unfounded_sets.specs.LoopClauses.{IsFalseLoop}
use Rattle.back_jump.proofs.FalseClauses.{loop_false}
use Rattle.search_laws.specs.Origins.{Kept}
use Rattle.cdcl_search.specs.Searches.{Begun, View, clauses_of, view_of, IsSearch}
use Rattle.cdcl_search.specs.Steps.{IsOneMore, IsFalseOne}
use Rattle.cdcl_search.proofs.KeptLists.{kept_clauses, kept_count}
use Rattle.cdcl_search.proofs.OneMore.{search_one, kept_more}
use Rattle.cdcl_search.proofs.Ends.{on_way}
use Rattle.cdcl_search.proofs.search.Search.add_loop.Goals as goal

pub hold_false-requires-clause-clause : goal.hold_false-requires-clause-clause
hold_false-requires-clause-clause g c =
    let i = c.self.inside in
    let nogood = c.args.nogood in
    let is = subst (λ (v : View). IsFalseLoop v.ground v.trail.entries nogood) (sym c.self.view_is) c.requires.nogood in
    subst (λ (ls : List Lit). IsTrue (is_clause i.trail.vars ls)) (sym c.as_slice.ensures) (loop_false i.ground i.trail nogood c.len-count.ensures.ordered is).0

pub invariant_of-self-2 : goal.invariant_of-self-2
invariant_of-self-2 g c =
    let i = c.self.inside in
    let hold = c.in_ok-id.ensures in
    let begun = c.args.begun in
    let is = subst (λ (o : Option Begun). IsSearch i.store i.trail i.scratch.vars i.lengths.items o) (ap (λ (v : View). v.begun) c.self.view_is ∙ c.requires.begun) c.self.invariant in
    let high = subst (λ (v : View). 0 < v.trail.level) (sym c.self.view_is) c.requires.level in
    let way = on_way begun i.trail is.at.way high in
    let added = hold.added ∙ ap (λ (ls : List Lit). i.store.clauses ++ record { kind = kinds.Loop; lits = ls } ∷ []) c.as_slice.ensures in
    subst (λ (b : Begun). IsSearch c.hold_false.new.store c.hold_false.new.trail i.scratch.vars c.push_length.new.lengths.items (Some b)) (sym c.counted_one.ensures)
    (search_one i.store c.hold_false.new.store i.trail c.hold_false.new.trail i.scratch.vars i.scratch.vars c.begun.inside.n (begun.counted + 1) i.lengths.items c.push_length.new.lengths.items begun (record { kind = kinds.Loop; lits = c.args.nogood.clause }) is way hold.ready hold.vars hold.way (omega arith) added (c.push_length.ensures.items ∙ ap (λ (ns : List ℕ). ns ++ c.begun.inside.n ∷ []) c.in_ok-reserve.ensures.items) (omega arith))

pub returns-clause-added : goal.returns-clause-added
returns-clause-added g c =
    let i = c.self.inside in
    let hold = c.in_ok-id.ensures in
    let begun = c.args.begun in
    let nogood = c.args.nogood in
    let clauses = kept_clauses i.store.clauses i.lengths.items in
    let count = kept_count i.store.clauses i.lengths.items in
    let one : Kept = record { kind = kinds.Loop; length = begun.n; lits = nogood.clause } in
    let is = subst (λ (v : View). IsFalseLoop v.ground v.trail.entries nogood) (sym c.self.view_is) c.requires.nogood in
    let closed = subst (λ (cs : List Clause). IsClosedTrail cs i.trail.entries) clauses (subst (λ (v : View). IsClosedTrail (clauses_of v) v.trail.entries) (sym c.self.view_is) c.requires.closed) in
    let added = hold.added ∙ ap (λ (ls : List Lit). i.store.clauses ++ record { kind = kinds.Loop; lits = ls } ∷ []) c.as_slice.ensures in
    let lengths = c.push_length.ensures.items ∙ ap (λ (ns : List ℕ). ns ++ c.begun.inside.n ∷ []) c.in_ok-reserve.ensures.items in
    let old = view_of i.ground i.store i.lengths.items i.trail i.loops.items i.begun in
    let new = view_of i.ground c.hold_false.new.store c.push_length.new.lengths.items c.hold_false.new.trail c.push_loop.new.loops.items (Some c.counted_one.result) in
    let more : IsOneMore old new begun c.in_ok-id.id = record {
      one = one;
      number = hold.id ∙ sym count;
      kept = kept_more i.store.clauses i.lengths.items c.hold_false.new.store.clauses c.push_length.new.lengths.items (record { kind = kinds.Loop; lits = nogood.clause }) c.begun.inside.n begun.n c.self.invariant.each added lengths (ap (λ (b : Begun). b.n) c.begun.view_is);
      length = refl;
      distinct = (loop_false i.ground i.trail nogood c.len-count.ensures.ordered is).0;
      came = inr (record {
        kind = refl;
        set = record { clause = c.in_ok-id.id.place; atom = nogood.atom; set = nogood.set };
        clause = is.loop;
        rising = is.set_rises;
        place = hold.id ∙ sym count;
        loops = c.push_loop.ensures ∙ ap (λ ls. ls ++ record { clause = c.in_ok-id.id.place; atom = nogood.atom; set = nogood.set } ∷ []) c.in_ok-reserve-2.ensures.items;
      });
      free = subst (λ (cs : List Clause). Absorbed cs nogood.clause → ⊥) (sym clauses) (subst (λ (ls : List Lit). Absorbed (clauses_in i.store.clauses) ls → ⊥) c.as_slice.ensures (hold.free closed));
      count = ap Some c.counted_one.ensures;
    } in
    let one_false : IsFalseOne old new begun c.in_ok-id.id = (more, (loop_false i.ground i.trail nogood c.len-count.ensures.ordered is).1) in
    subst (λ (v : View). IsFalseOne v new begun c.in_ok-id.id) c.self.view_is one_false
