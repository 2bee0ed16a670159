use Rattle.std.proofs.Common.{ℕ, ◌<◌, length, ap, subst, sym, ◌∙◌}
use Rattle.std.proofs.lemmas.List.{length-map}
use Rattle.clause_store.specs.Held.{View}
use Rattle.clause_store.specs.Flat.{held_of}
use Rattle.clause_store.proofs.FlatSteps.{head_leads}
use Rattle.clause_store.proofs.store.Store.clause.Goals as goal

pub part-requires : goal.part-requires
part-requires c =
    let within : c.args.id.place < length c.self.inside.heads.items = subst (λ (n : ℕ). c.args.id.place < n) (ap (λ (v : View). length v.clauses) (sym c.self.view_is) ∙ length-map c.self.inside.heads.items (held_of c.self.inside.lits.items)) c.requires in
    let leads = head_leads c.self.inside.vars c.self.inside.lits.items c.self.inside.heads.items c.args.id.place c.index-head.result.now c.self.invariant within c.index-head.ensures in
    let same = c.deref.ensures.value in
    rw same leads.0

pub returns-clause-clause : goal.returns-clause-clause
returns-clause-clause c =
    let within : c.args.id.place < length c.self.inside.heads.items = subst (λ (n : ℕ). c.args.id.place < n) (ap (λ (v : View). length v.clauses) (sym c.self.view_is) ∙ length-map c.self.inside.heads.items (held_of c.self.inside.lits.items)) c.requires in
    let leads = head_leads c.self.inside.vars c.self.inside.lits.items c.self.inside.heads.items c.args.id.place c.index-head.result.now c.self.invariant within c.index-head.ensures in
    let same = c.deref.ensures.value in
    let found = c.part.ensures in
    let vars = ap (λ (v : View). v.vars) (sym c.self.view_is) in
    rw found (rw same (rw vars leads.1))
