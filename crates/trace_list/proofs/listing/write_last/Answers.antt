use Rattle.std.proofs.Common.{◌≡◌, ℕ, List, refl, sym, ap, subst, ◌∙◌}
use Rattle.std.specs.Prelude.{Option, Some, IsTrue}
use Rattle.std.specs.Option.{option_copied}
use Rattle.clause_store.specs.declared.store.ClauseKind.TheVariants as kinds
use Rattle.clause_store.specs.Held.{Held}
use Rattle.unfounded_sets.specs.LoopClauses.{IsLoopClause, among, rises}
use Rattle.cdcl_search.specs.declared.loops.LoopSet.{LoopSet}
use Rattle.proof_log.specs.declared.line.Line.TheVariants as lines
use Rattle.search_laws.specs.Origins.{Kept}
use Rattle.trace_list.specs.Logging.{IsLast}
use Rattle.trace_list.proofs.Logging.{held_last, set_last, held_writes}
use Rattle.trace_list.proofs.listing.write_last.Goals as goal

pub returns-in-Learnt : goal.returns-in-Learnt
returns-in-Learnt g c before one is =
    let held = held_last c.args.search.now c.args.id before one c.store-store.result.now.clauses is c.store-store.ensures in
    let kind : one.kind ≡ kinds.Learnt = ap (λ (h : Held). h.kind) (sym held) ∙ sym c.kind.ensures ∙ c.in-Learnt.is in
    held_writes _ c.args.search.now.ground one lines.Learnt c.clause-clause.result.now _ _ _ _ (c.clause-clause.ensures.lits ∙ ap (λ (h : Held). h.lits) held) (kind, refl) c.write_clause-in-Learnt.ensures

pub returns-in-Block : goal.returns-in-Block
returns-in-Block g c before one is =
    let held = held_last c.args.search.now c.args.id before one c.store-store.result.now.clauses is c.store-store.ensures in
    let kind : one.kind ≡ kinds.Block = ap (λ (h : Held). h.kind) (sym held) ∙ sym c.kind.ensures ∙ c.in-Block.is in
    held_writes _ c.args.search.now.ground one lines.Block c.clause-clause.result.now _ _ _ _ (c.clause-clause.ensures.lits ∙ ap (λ (h : Held). h.lits) held) (kind, refl) c.write_clause-in-Block.ensures

pub returns-in-Some : goal.returns-in-Some
returns-in-Some g c before one is =
    let search = c.args.search.now in
    let held = held_last search c.args.id before one c.store-store.result.now.clauses is c.store-store.ensures in
    let kind : one.kind ≡ kinds.Loop = ap (λ (h : Held). h.kind) (sym held) ∙ sym c.kind.ensures ∙ c.in-Loop.is in
    let has = is.set kind in
    let found : Some c.in-Some.one.now ≡ Some has.last = sym (ap option_copied c.in-Some.is) ∙ c.loop_set.ensures ∙ set_last search c.args.id one has in
    let last : c.in-Some.one.now ≡ has.last = cc in
    let clause = c.clause-clause.ensures.lits ∙ ap (λ (h : Held). h.lits) held in
    held_writes _ search.ground one (lines.Loop c.in-Some.one.now.atom c.as_slice.result.now) c.clause-clause.result.now _ _ _ _ clause
    (kind, refl, subst (λ (set : List ℕ). IsTrue (rises set)) (sym (c.as_slice.ensures.value ∙ ap (λ (s : LoopSet). s.set.items) last)) has.rising, subst (λ (s : LoopSet). IsLoopClause search.ground (among c.as_slice.result.now) s.atom one.lits) (sym last) (subst (λ (set : List ℕ). IsLoopClause search.ground (among set) has.last.atom one.lits) (sym (c.as_slice.ensures.value ∙ ap (λ (s : LoopSet). s.set.items) last)) has.clause))
    c.write_loop.ensures
