use Rattle.std.proofs.Common.{ℕ, ◌<◌, List, [], ◌∷◌, ◌++◌, refl, sym, ap, subst, ◌∙◌, arith}
use Rattle.std.specs.Prelude.{Option, IsTrue}
use Rattle.tel_base.specs.declared.literals.Lit.{Lit}
use Rattle.tel_base.specs.Literals.{lit_of}
use Rattle.clause_store.specs.declared.store.ClauseKind.TheVariants as kinds
use Rattle.clause_store.specs.Held.{is_clause}
use Rattle.clause_store.specs.Closure.{Clause, refutes}
use Rattle.lit_trail.specs.Sound.{holds, ReasonsHold}
use Rattle.model_block.specs.Blocking.{block_of}
use Rattle.back_jump.proofs.FalseClauses.{block_false}
use Rattle.cdcl_search.specs.Searches.{Begun, View, ending_of, view_of, IsSearch}
use Rattle.cdcl_search.specs.Steps.{IsBlocked, AtLength}
use Rattle.cdcl_search.proofs.KeptLists.{kept_clauses, kept_count}
use Rattle.cdcl_search.proofs.OneMore.{search_one, kept_more}
use Rattle.cdcl_search.proofs.Ends.{on_way}
use Rattle.cdcl_search.proofs.BlockedWalks.{blocks_found}
use Rattle.cdcl_search.proofs.search.Search.block.Goals as goal

pub hold_false-requires-clause-clause : goal.hold_false-requires-clause-clause
hold_false-requires-clause-clause g c =
    let i = c.self.inside in
    let begun = c.in-Some.begun in
    let is = subst (λ (o : Option Begun). IsSearch i.store i.trail i.scratch.vars i.lengths.items o) c.in-Some.is c.self.invariant in
    let high = subst (λ (v : View). 0 < v.trail.level) (sym c.self.view_is) c.requires.level in
    let way = on_way begun i.trail is.at.way high in
    let trail = c.len-count.ensures in
    let end = c.of-end.ensures ∙ ap lit_of c.end_var.ensures ∙ ap (λ (b : Begun). lit_of (ending_of b)) c.begun.view_is in
    let clause = c.as_slice.ensures ∙ c.in_ok-clause.ensures ∙ ap (block_of i.trail.entries) end in
    subst (λ (ls : List Lit). IsTrue (is_clause i.trail.vars ls)) (sym clause) (block_false i.trail (lit_of (ending_of begun)) trail.ordered trail.levels way.ended.holds_there).0

pub hold_false-requires-clause-refuted : goal.hold_false-requires-clause-refuted
hold_false-requires-clause-refuted g c =
    let i = c.self.inside in
    let begun = c.in-Some.begun in
    let is = subst (λ (o : Option Begun). IsSearch i.store i.trail i.scratch.vars i.lengths.items o) c.in-Some.is c.self.invariant in
    let high = subst (λ (v : View). 0 < v.trail.level) (sym c.self.view_is) c.requires.level in
    let way = on_way begun i.trail is.at.way high in
    let trail = c.len-count.ensures in
    let end = c.of-end.ensures ∙ ap lit_of c.end_var.ensures ∙ ap (λ (b : Begun). lit_of (ending_of b)) c.begun.view_is in
    let clause = c.as_slice.ensures ∙ c.in_ok-clause.ensures ∙ ap (block_of i.trail.entries) end in
    subst (λ (ls : List Lit). IsTrue (refutes (holds i.trail.entries) ls)) (sym clause) (block_false i.trail (lit_of (ending_of begun)) trail.ordered trail.levels way.ended.holds_there).1

pub invariant_of-self-2 : goal.invariant_of-self-2
invariant_of-self-2 g c =
    let i = c.self.inside in
    let hold = c.in_ok-id.ensures in
    let begun = c.in-Some.begun in
    let is = subst (λ (o : Option Begun). IsSearch i.store i.trail i.scratch.vars i.lengths.items o) c.in-Some.is c.self.invariant in
    let high = subst (λ (v : View). 0 < v.trail.level) (sym c.self.view_is) c.requires.level in
    let way = on_way begun i.trail is.at.way high in
    subst (λ (o : Option Begun). IsSearch c.hold_false.new.store c.hold_false.new.trail i.scratch.vars c.push_length.new.lengths.items o) (sym c.in-Some.is)
    (search_one i.store c.hold_false.new.store i.trail c.hold_false.new.trail i.scratch.vars i.scratch.vars c.begun.inside.n begun.counted i.lengths.items c.push_length.new.lengths.items begun (record { kind = kinds.Block; lits = c.as_slice.result.now }) is way hold.ready hold.vars hold.way (omega arith) hold.added (c.push_length.ensures.items ∙ ap (λ (ns : List ℕ). ns ++ c.begun.inside.n ∷ []) c.in_ok-reserve.ensures.items) (omega arith))

pub returns-clause-blocked : goal.returns-clause-blocked
returns-clause-blocked g c =
    let i = c.self.inside in
    let hold = c.in_ok-id.ensures in
    let begun = c.in-Some.begun in
    let is = subst (λ (o : Option Begun). IsSearch i.store i.trail i.scratch.vars i.lengths.items o) c.in-Some.is c.self.invariant in
    let high = subst (λ (v : View). 0 < v.trail.level) (sym c.self.view_is) c.requires.level in
    let way = on_way begun i.trail is.at.way high in
    let trail = c.len-count.ensures in
    let end = c.of-end.ensures ∙ ap lit_of c.end_var.ensures ∙ ap (λ (b : Begun). lit_of (ending_of b)) c.begun.view_is in
    let lits = c.as_slice.ensures ∙ c.in_ok-clause.ensures ∙ ap (block_of i.trail.entries) end in
    let old = view_of i.ground i.store i.lengths.items i.trail i.loops.items i.begun in
    let clauses = kept_clauses i.store.clauses i.lengths.items in
    let lengths = c.push_length.ensures.items ∙ ap (λ (ns : List ℕ). ns ++ c.begun.inside.n ∷ []) c.in_ok-reserve.ensures.items in
    let new = view_of i.ground c.hold_false.new.store c.push_length.new.lengths.items c.hold_false.new.trail i.loops.items i.begun in
    let blocked : IsBlocked old new begun c.in_ok-id.id = record {
      one = record { kind = kinds.Block; length = begun.n; lits = c.as_slice.result.now };
      number = hold.id ∙ sym (kept_count i.store.clauses i.lengths.items);
      kept = kept_more i.store.clauses i.lengths.items c.hold_false.new.store.clauses c.push_length.new.lengths.items (record { kind = kinds.Block; lits = c.as_slice.result.now }) c.begun.inside.n begun.n c.self.invariant.each hold.added lengths (ap (λ (b : Begun). b.n) c.begun.view_is);
      length = refl;
      kind = refl;
      distinct = subst (λ (ls : List Lit). IsTrue (is_clause i.trail.vars ls)) (sym lits) (block_false i.trail (lit_of (ending_of begun)) trail.ordered trail.levels way.ended.holds_there).0;
      lits = lits;
      blocks = blocks_found old begun c.as_slice.result.now way (subst (λ (cs : List Clause). ReasonsHold cs i.trail.entries) (sym clauses) c.self.invariant.ready.sound.reasons) trail.levels trail.ordered lits;
    } in
    subst (λ (o : Option Begun). AtLength o (λ b. IsBlocked c.args.self.now new b c.in_ok-id.id)) (sym c.in-Some.is ∙ ap (λ (v : View). v.begun) c.self.view_is) (subst (λ (v : View). IsBlocked v new begun c.in_ok-id.id) c.self.view_is blocked)
