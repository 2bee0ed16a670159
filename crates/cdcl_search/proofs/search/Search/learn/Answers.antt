use Rattle.std.proofs.Common.{ℕ, ◌+◌, ◌<◌, List, [], ◌∷◌, ◌++◌, refl, sym, ap, subst, ◌∙◌, inl, arith}
use Rattle.std.specs.Prelude.{Option, Some, IsTrue}
use Rattle.clause_store.specs.declared.store.ClauseKind.TheVariants as kinds
use Rattle.clause_store.specs.Closure.{Clause, refutes, Absorbed, Conflict, negations}
use Rattle.lit_trail.specs.Sound.{holds}
use Rattle.watch_propagate.specs.Propagation.{IsFalseClause}
use Rattle.search_laws.specs.Origins.{Kept}
use Rattle.cdcl_search.specs.Searches.{Begun, View, clauses_of, view_of, IsSearch}
use Rattle.cdcl_search.specs.Steps.{IsOneMore, IsFalseOne}
use Rattle.cdcl_search.proofs.KeptLists.{kept_clauses, kept_count}
use Rattle.cdcl_search.proofs.OneMore.{search_one, kept_more}
use Rattle.cdcl_search.proofs.Ends.{on_way}
use Rattle.cdcl_search.proofs.search.Search.learn.Goals as goal

pub hold_learnt-requires-clause-conflict : goal.hold_learnt-requires-clause-conflict
hold_learnt-requires-clause-conflict g c =
    let i = c.self.inside in
    subst (λ (cs : List Clause). IsFalseClause cs i.trail.entries c.args.conflict) (kept_clauses i.store.clauses i.lengths.items) (subst (λ (v : View). IsFalseClause (clauses_of v) v.trail.entries c.args.conflict) (sym c.self.view_is) c.requires.conflict)

pub invariant_of-self-2 : goal.invariant_of-self-2
invariant_of-self-2 g c =
    let i = c.self.inside in
    let hold = c.in_ok-id.ensures in
    let begun = c.args.begun in
    let is = subst (λ (o : Option Begun). IsSearch i.store i.trail i.scratch.vars i.lengths.items o) (ap (λ (v : View). v.begun) c.self.view_is ∙ c.requires.begun) c.self.invariant in
    let high = subst (λ (v : View). 1 < v.trail.level) (sym c.self.view_is) c.requires.level in
    let way = on_way begun i.trail is.at.way (omega (arith, high)) in
    let scratch = hold.scratch in
    subst (λ (b : Begun). IsSearch c.hold_learnt.new.store c.hold_learnt.new.trail c.hold_learnt.new.scratch.vars c.push_length.new.lengths.items (Some b)) (sym c.counted_one.ensures)
    (search_one i.store c.hold_learnt.new.store i.trail c.hold_learnt.new.trail i.scratch.vars c.hold_learnt.new.scratch.vars c.begun.inside.n (begun.counted + 1) i.lengths.items c.push_length.new.lengths.items begun (record { kind = kinds.Learnt; lits = hold.learns.lits }) is way hold.ready hold.vars hold.way (omega (arith, scratch)) hold.learns.added (c.push_length.ensures.items ∙ ap (λ (ns : List ℕ). ns ++ c.begun.inside.n ∷ []) c.in_ok-reserve.ensures.items) (omega arith))

pub returns-clause-added : goal.returns-clause-added
returns-clause-added g c =
    let i = c.self.inside in
    let hold = c.in_ok-id.ensures in
    let learns = hold.learns in
    let begun = c.args.begun in
    let clauses = kept_clauses i.store.clauses i.lengths.items in
    let one : Kept = record { kind = kinds.Learnt; length = begun.n; lits = learns.lits } in
    let lengths = c.push_length.ensures.items ∙ ap (λ (ns : List ℕ). ns ++ c.begun.inside.n ∷ []) c.in_ok-reserve.ensures.items in
    let old = view_of i.ground i.store i.lengths.items i.trail i.loops.items i.begun in
    let new = view_of i.ground c.hold_learnt.new.store c.push_length.new.lengths.items c.hold_learnt.new.trail i.loops.items (Some c.counted_one.result) in
    let is : IsOneMore old new begun c.in_ok-id.id = record {
      one = one;
      number = hold.id ∙ sym (kept_count i.store.clauses i.lengths.items);
      kept = kept_more i.store.clauses i.lengths.items c.hold_learnt.new.store.clauses c.push_length.new.lengths.items (record { kind = kinds.Learnt; lits = learns.lits }) c.begun.inside.n begun.n c.self.invariant.each learns.added lengths (ap (λ (b : Begun). b.n) c.begun.view_is);
      length = refl;
      distinct = learns.learnt.distinct;
      came = inl (record {
        kind = refl;
        follows = subst (λ (cs : List Clause). Conflict cs (negations learns.lits)) (sym clauses) learns.learnt.follows;
        loops = refl;
      });
      free = subst (λ (cs : List Clause). Absorbed cs learns.lits → ⊥) (sym clauses) learns.free;
      count = ap Some c.counted_one.ensures;
    } in
    let refuted : IsTrue (refutes (holds i.trail.entries) learns.lits) = learns.learnt.refuted in
    let more : IsFalseOne old new begun c.in_ok-id.id = (is, refuted) in
    subst (λ (v : View). IsFalseOne v new begun c.in_ok-id.id) c.self.view_is more
