-- The clause that blocks a walk that was found.
use Rattle.std.proofs.Common.{◌≡◌, ℕ, true, List, [], ◌∷◌, reverse, refl, sym, subst, inl, inr, ⊎_elim}
use Rattle.tel_base.specs.declared.literals.Lit.{Lit}
use Rattle.tel_base.specs.Literals.{lit_of, negate, negations}
use Rattle.tel_base.proofs.Members.{In, In-append_right, In-list_all}
use Rattle.normal_program.specs.StableSets.{Set}
use Rattle.normal_program.specs.ModuleClauses.{no_lit}
use Rattle.clause_store.specs.Closure.{Clause, Up}
use Rattle.lit_trail.specs.Levels.{AreLevels, AreOrdered}
use Rattle.lit_trail.specs.Sound.{holds, ReasonsHold}
use Rattle.lit_trail.proofs.Derived.{decided_up}
use Rattle.model_block.specs.Blocking.{decided_above, block_of}
use Rattle.search_laws.specs.Lengths.{length_of}
use Rattle.search_laws.specs.Founded.{true_set}
use Rattle.search_laws.specs.Origins.{IsBlock}
use Rattle.search_laws.proofs.Walking.{walk_values}
use Rattle.search_laws.proofs.Composing.{modules_composed}
use Rattle.search_laws.proofs.Listing.{found_finds}
use Rattle.trail_walk.specs.Ways.{IsOnWay}
use Rattle.back_jump.proofs.FalseClauses.{block_false}
use Rattle.cdcl_search.specs.Searches as searches
use Rattle.cdcl_search.specs.Searches.{Begun, clauses_of, ending_of, walk_length}
use Rattle.cdcl_search.specs.Steps.{OfLengths, IsAtFound}
use Rattle.cdcl_search.proofs.Blocks.{block_derives}

pub blocks_found : (search : searches.View) (begun : Begun) (lits : Clause) → IsOnWay (walk_length begun) search.trail → ReasonsHold (clauses_of search) search.trail.entries → AreLevels search.trail.level search.trail.entries → AreOrdered search.trail.vars search.trail.entries → lits ≡ block_of search.trail.entries (lit_of (ending_of begun)) → IsAtFound search begun → OfLengths search begun (λ length. (decisions : List Lit) × IsBlock length (clauses_of search) lits decisions (true_set length search.trail.entries))
blocks_found search begun lits way reasons levels ordered is found steps of =
    let entries = search.trail.entries in
    let clauses = clauses_of search in
    let end = lit_of (ending_of begun) in
    let length = length_of steps begun.n in
    let f = found steps of in
    let closure = f.2 in
    let S = true_set length entries in
    let refuted = (block_false search.trail end ordered levels way.ended.holds_there).1 in
    let composed = modules_composed steps begun.n of.plain of.modules.some of.modules.settled of.modules.separate of.modules.speak in
    let derives : (lit : Lit) → holds entries lit ≡ true → Up clauses (negations lits) lit = λ lit h.
    subst (λ (ls : Clause). Up clauses (negations ls) lit) (sym is) (block_derives clauses search.trail.level entries end lit levels ordered.opened way.ended.first (decided_up clauses entries reasons lit h)) in (
      f.0,
      record {
        found = found_finds length clauses f.0 S composed.visible_heads f.1;
        ended = subst (λ (ls : Clause). In (no_lit length.ending) ls) (sym is) (subst (λ (x : ℕ). In (no_lit x) (block_of entries end)) (sym of.ending) (In-append_right (negate end) (negations (reverse (decided_above 1 entries))) (negate end ∷ []) (inl refl)));
        negated = λ lit i. closure.derived (negate lit) (In-list_all (λ (k : Lit). holds entries (negate k)) lit (block_of entries end) refuted (subst (λ (ls : Clause). In lit ls) is i));
        valued = λ v i. ⊎_elim
            (λ (t : Up clauses f.0 (lit_of v)). inl (derives (lit_of v) (closure.whole (lit_of v) t)))
            (λ (t : Up clauses f.0 (no_lit v)). inr (derives (no_lit v) (closure.whole (no_lit v) t)))
            (walk_values clauses (lit_of length.ending ∷ []) length.visible f.0 f.1.total.goes v i);
      },
    )
