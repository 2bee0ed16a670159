use Rattle.std.proofs.Common.{◌≡◌, ℕ, true, List, [], ◌∷◌, ◌++◌, length, ap, ap₂, subst, sym, ◌∙◌}
use Rattle.tel_base.specs.declared.literals.Lit.{Lit}
use Rattle.clause_store.specs.declared.store.Head.{Head}
use Rattle.clause_store.specs.Held.{View, is_clause}
use Rattle.clause_store.specs.Flat.{IsFlat, clauses_of}
use Rattle.clause_store.proofs.FlatSteps.{flat_added, clauses_added}
use Rattle.clause_store.proofs.store.Store.add_reserved.Goals as goal

pub invariant_of-self : goal.invariant_of-self
invariant_of-self c =
    let lits = c.self.inside.lits.items in
    let heads = c.self.inside.heads.items in
    let more = c.args.lits.now in
    let start = c.len-start.ensures ∙ c.self.inside.lits.ok.0 in
    let pushed = c.put.ensures.items ∙ ap (λ (s : ℕ). heads ++ record { kind = c.args.kind; start = s; count = length more } ∷ []) start in
    let vars = ap (λ (v : View). v.vars) (sym c.self.view_is) in
    let clause = subst (λ (n : ℕ). is_clause n more ≡ true) vars c.requires.clause in
    subst (λ (xs : List Head). IsFlat c.self.inside.vars c.put_all.new.items.items xs) (sym pushed) (subst (λ (xs : List Lit). IsFlat c.self.inside.vars xs (heads ++ record { kind = c.args.kind; start = length lits; count = length more } ∷ [])) (sym c.put_all.ensures.items) (flat_added c.self.inside.vars lits more heads c.args.kind c.self.invariant clause))

pub returns-clause-added : goal.returns-clause-added
returns-clause-added c =
    let lits = c.self.inside.lits.items in
    let heads = c.self.inside.heads.items in
    let more = c.args.lits.now in
    let start = c.len-start.ensures ∙ c.self.inside.lits.ok.0 in
    let pushed = c.put.ensures.items ∙ ap (λ (s : ℕ). heads ++ record { kind = c.args.kind; start = s; count = length more } ∷ []) start in
    ap₂ clauses_of c.put_all.ensures.items pushed ∙ clauses_added c.self.inside.vars lits more heads c.args.kind c.self.invariant ∙ ap (λ (v : View). v.clauses ++ record { kind = c.args.kind; lits = more } ∷ []) c.self.view_is
