-- The modules of a program are such as a search over its variables can take.
use Rattle.std.proofs.Common.{◌≡◌, ℕ, ◌+◌, ◌-◌, ◌*◌, ◌^◌, ◌<◌, ◌≤◌, max, List, [], ◌∷◌, length, refl, ap, subst, ◌∙◌, inl, inr, ⊎_elim, arith}
use Rattle.std.proofs.lemmas.Nat.{mul-le}
use Rattle.tel_base.specs.declared.literals.Lit.{Lit}
use Rattle.tel_base.proofs.Members.{In, In-map_from}
use Rattle.tel_rule.specs.Ground.{Ground, IsGround}
use Rattle.normal_program.specs.declared.shapes.NodeRule.{NodeRule}
use Rattle.normal_program.specs.declared.modules.BodyDef.{BodyDef}
use Rattle.normal_program.specs.ModuleClauses.{clauses_of}
use Rattle.clause_store.specs.Closure.{Clause}
use Rattle.atom_space.specs.Numbers.{Space, width, end_at, IsSpace}
use Rattle.horizon_external.specs.Occurring.{lit_vars}
use Rattle.formula_unfold.specs.Nodes.{counts_of}
use Rattle.step_module.specs.Modules.{module_of}
use Rattle.completion.specs.Completions.{IsHead}
use Rattle.stable_models.specs.Values.{is_plain}
use Rattle.stable_models.proofs.SettledModules.{atom_at, node_of_state}
use Rattle.stable_models.proofs.PlainModules.{body_at_state, is_open}
use Rattle.search_laws.proofs.Spoken.{module_says}
use Rattle.template_lengths.proofs.Ranked.{templates_ranked}
use Rattle.template_lengths.proofs.Templates.{templates_modules}
use Rattle.cdcl_search.specs.Searches.{greatest, greatest_in, vars_for}

-- ---- the variables of a module are of the states up to the next one

row_below : (w state place t v : ℕ) → state < t → place < w → state * w + place ≡ v → v < t * w
row_below w state place t v l m e =
    let rows : (state + 1) * w ≤ t * w = mul-le (state + 1) w t w (omega (arith, l)) (omega arith) in
    let row : (state + 1) * w ≡ state * w + w = omega arith in
    omega (arith, rows, row, m, e)

module _ (program : Ground) (t : ℕ) (ground : IsGround program) where
  abbrev w : ℕ
  w = width (counts_of program)

  abbrev IsBelow : ℕ → Type 0
  IsBelow v = v < (t + 2) * w

  head_below : (u v : ℕ) → u < t + 1 → IsHead (module_of program u) v → IsBelow v
  head_below u v l h =
      ⊎_elim
      (λ i. let a = atom_at program u v i in let m = a.1 in row_below w u a.0 (t + 2) v (omega (arith, l)) (omega (arith, m)) a.2)
      (λ (k : (node : NodeRule) × In node (module_of program u).nodes × (node.var ≡ v)).
      let a = node_of_state program u k.0 k.1 in
      let m = a.1 in
      row_below w u (length program.atoms + a.0) (t + 2) v (omega (arith, l)) (omega (arith, m)) (ap (λ (node : NodeRule). node.var) a.2 ∙ k.2))
      h

  end_below : (u : ℕ) → u < t + 1 → IsBelow (module_of program u).end
  end_below u l = row_below w u (length program.atoms + length program.nodes + length program.instances) (t + 2) (end_at (counts_of program) u) (omega (arith, l)) (omega arith) refl

  body_below : (u : ℕ) (def : BodyDef) → u < t + 1 → In def (module_of program u).bodies → IsBelow def.var
  body_below u def l m =
      let b = body_at_state program u def m in
      let k = b.within in
      row_below w u (length program.atoms + length program.nodes + b.number) (t + 2) def.var (omega (arith, l)) (omega (arith, k)) (ap (λ (d : BodyDef). d.var) b.is)

  open_below : (v : ℕ) → In v (module_of program (t + 1 - 1)).open_vars → IsBelow v
  open_below v i =
      let last : t + 1 - 1 ≡ t = omega arith in
      let o = is_open program t v (subst (λ (k : ℕ). In v (module_of program k).open_vars) last i) in
      row_below w (t + 1) o.place (t + 2) v (omega arith) o.within o.is

  clause_below : (clause : Clause) (lit : Lit) → In clause (clauses_of (module_of program t)) → In lit clause → IsBelow lit.var
  clause_below clause lit i j =
      let ranked = templates_ranked program (t + 1) ground in
      module_says (module_of program) (t + 1) (is_plain program) ranked.0 IsBelow (templates_modules program (t + 1) ground (omega arith)) ranked.1 head_below end_below body_below open_below t (omega arith) clause lit i j

-- ---- the greatest of them

greatest_below : (bound : ℕ) (vars : List ℕ) → 0 < bound → ((v : ℕ) → In v vars → v < bound) → greatest vars < bound
greatest_below bound [] some h = some
greatest_below bound (v ∷ more) some h =
    let here = h v (inl refl) in
    let rest = greatest_below bound more some (λ u i. h u (inr i)) in
    omega (arith, here, rest)

greatest_in_below : (bound : ℕ) (clauses : List Clause) → 0 < bound → ((clause : Clause) (lit : Lit) → In clause clauses → In lit clause → lit.var < bound) → greatest_in clauses < bound
greatest_in_below bound [] some h = some
greatest_in_below bound (clause ∷ more) some h =
    let here = greatest_below bound (lit_vars clause) some (λ v i. let w = In-map_from (λ (lit : Lit). lit.var) v clause i in subst (λ (u : ℕ). u < bound) w.2 (h clause w.0 (inl refl) w.1)) in
    let rest = greatest_in_below bound more some (λ c lit i j. h c lit (inr i) j) in
    omega (arith, here, rest)

-- the search needs at most the variables of the states up to the next one
pub module_vars_few : (program : Ground) (t : ℕ) → IsGround program → vars_for (module_of program t) (clauses_of (module_of program t)) ≤ (t + 2) * width (counts_of program)
module_vars_few program t ground =
    let bound = (t + 2) * width (counts_of program) in
    let ending = end_below program t ground t (omega arith) in
    let some : 0 < bound = omega (arith, ending) in
    let atoms = greatest_below bound (module_of program t).atoms some (λ v i. head_below program t ground t v (omega arith) (inl i)) in
    let clauses = greatest_in_below bound (clauses_of (module_of program t)) some (clause_below program t ground) in
    let all : max (module_of program t).end (max (greatest (module_of program t).atoms) (greatest_in (clauses_of (module_of program t)))) < bound = omega (arith, ending, atoms, clauses) in
    omega (arith, all)

-- so they fit, where there is a space for them
pub module_vars_fit : (program : Ground) (space : Space) (t : ℕ) → IsGround program → space.counts ≡ counts_of program → t < space.greatest → IsSpace space → vars_for (module_of program t) (clauses_of (module_of program t)) < 2 ^ 31
module_vars_fit program space t ground counts within small =
    let w = width (counts_of program) in
    let few = module_vars_few program t ground in
    let rows : (t + 2) * w ≤ (space.greatest + 1) * w = mul-le (t + 2) w (space.greatest + 1) w (omega (arith, within)) (omega arith) in
    let limit : (space.greatest + 1) * w < 2 ^ 31 = subst (λ c. (space.greatest + 1) * width c < 2 ^ 31) counts small.small in
    omega (arith, few, rows, limit)
