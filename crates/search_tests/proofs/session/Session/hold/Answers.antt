use Rattle.std.proofs.Common.{◌≡◌, ◌∙◌, true, sym, subst, ℕ, arith}
use Rattle.std.proofs.lemmas.Bool.{false≢true}
use Rattle.clause_store.specs.Held.{is_clause, clauses_in}
use Rattle.search_tests.proofs.Holding.{held_below, empty_sound}
use Rattle.search_tests.proofs.session.Session.hold.Goals as goal

pub invariant_of-self-2 : goal.invariant_of-self-2
invariant_of-self-2 c =
    let trail = c.self.inside.trail in
    let before = c.self.invariant in
    let vars = c.self.view_is in
    let none = c.if-len-gt0.false in
    let count = c.len.ensures.count in
    let ground = c.if-level-gt0.false in
    let level = c.level.ensures in
    record {
      same = c.add.ensures.vars ∙ before.same;
      grown = before.grown;
      below = held_below trail.vars c.self.inside.store.clauses c.add.new.self.clauses _ before.below (subst (λ (n : ℕ). is_clause n c.args.lits.now ≡ true) (sym vars ∙ before.same) c.requires) c.in_ok-add.ensures.added;
      sound = empty_sound (clauses_in c.add.new.self.clauses) trail (omega (arith, none, count)) (omega (arith, ground, level));
      closed = λ t. absurd (false≢true t);
      at_conflict = tt;
    }
