-- Instances of statements in a row, statement by statement.
use Rattle.std.proofs.Common.{◌≡◌, ℕ, suc, ◌+◌, ◌<◌, List, [], ◌∷◌, ◌++◌, length, map, get_or, drop, refl, sym, ap, ap₂, ◌∙◌, arith, append_assoc}
use Rattle.std.proofs.Math.Seq.{drop-cons}
use Rattle.std.proofs.lemmas.List.{length-append}
use Rattle.tel_term.specs.declared.terms.Value.{Value}
use Rattle.tel_rule.specs.declared.parts.Part.{Part}
use Rattle.tel_rule.specs.declared.statements.Fact.{Fact}
use Rattle.tel_rule.specs.declared.statements.Statement.{Statement}
use Rattle.tel_rule.specs.declared.nodes.Node.{Node}
use Rattle.tel_rule.specs.declared.ground.Instance.{Instance}
use Rattle.instance_build.specs.Instances.{Numbered, in_row}
use Rattle.atom_table.specs.Named.{NamedAtom}
use Rattle.fact_instantiate.specs.Building.{fact_instance, built_fact, built_kind, built_statements}

-- facts have no nodes
pub facts_in_row : (atoms : List NamedAtom) (number : ℕ) (part : Part) (fact : Fact) (live : List (List Value)) (first : ℕ) → in_row (map (built_fact atoms number part fact) live) first ≡ (map (fact_instance atoms number part fact) live, [])
facts_in_row atoms number part fact [] first = refl
facts_in_row atoms number part fact (row ∷ more) first =
    let rest = facts_in_row atoms number part fact more (first + 0) in
    λ i. (fact_instance atoms number part fact row ∷ (rest i).0, (rest i).1)

-- one row behind another
row_append : {X : Type 0} (some more : List (Numbered X)) (first : ℕ) → in_row (some ++ more) first ≡ ((in_row some first).0 ++ (in_row more (first + length (in_row some first).1)).0, (in_row some first).1 ++ (in_row more (first + length (in_row some first).1)).1)
row_append [] more first = let same : first ≡ first + 0 = omega arith in ap (in_row more) same
row_append {X} (made ∷ some) more first =
    let here = made first in
    let next = first + length here.1 in
    let rest = row_append some more next in
    let count : next + length (in_row some next).1 ≡ first + length (here.1 ++ (in_row some next).1) = omega (arith, length-append here.1 (in_row some next).1) in
    let nodes : (m : ℕ) → here.1 ++ ((in_row some next).1 ++ (in_row more m).1) ≡ (here.1 ++ (in_row some next).1) ++ (in_row more m).1 = (λ m. sym (append_assoc here.1 (in_row some next).1 (in_row more m).1)) in
    (λ i. (here.0 ∷ (rest i).0, here.1 ++ (rest i).1))
    ∙ (λ i. (here.0 ∷ ((in_row some next).0 ++ (in_row more (count i)).0), nodes (count i) i))

drop_next : {X : Type 0} (xs : List X) (place : ℕ) (x : X) → place < length xs → x ≡ get_or xs place x → drop place xs ≡ x ∷ drop (place + 1) xs
drop_next xs place x inside is =
    let more : suc place ≡ place + 1 = omega arith in
    drop-cons xs place x inside ∙ (λ i. sym is i ∷ drop (more i) xs)

module _ (atoms : List NamedAtom) (statements : List Statement) (live : List (List (List Value))) (place : ℕ) (statement : Statement) (rows : List (List Value)) (inside : place < length statements) (each : length live ≡ length statements) (is : statement ≡ get_or statements place statement) (has : rows ≡ get_or live place rows) where
  abbrev here : List (Numbered Instance)
  here = built_kind atoms place statement.part statement.kind rows

  abbrev before : ℕ → List Instance × List Node
  before first = in_row (built_statements atoms place (drop place statements) (drop place live)) first

  abbrev after : ℕ → List Instance × List Node
  after first = in_row (built_statements atoms (place + 1) (drop (place + 1) statements) (drop (place + 1) live)) first

  next_row : (first : ℕ) → before first ≡ ((in_row here first).0 ++ (after (first + length (in_row here first).1)).0, (in_row here first).1 ++ (after (first + length (in_row here first).1)).1)
  next_row first =
      let first_statement = drop_next statements place statement inside is in
      let first_rows = drop_next live place rows (omega (arith, each, inside)) has in
      (λ i. in_row (built_statements atoms place (first_statement i) (first_rows i)) first)
      ∙ row_append here (built_statements atoms (place + 1) (drop (place + 1) statements) (drop (place + 1) live)) first

  next_first : (old new : List Node) → new ≡ old ++ (in_row here (length old)).1 → length old + length (in_row here (length old)).1 ≡ length new
  next_first old new pushed = sym (length-append old (in_row here (length old)).1) ∙ sym (ap length pushed)

  pub more_instances : (old new whole : List Instance) (nodes grown : List Node) → old ++ (before (length nodes)).0 ≡ whole → new ≡ old ++ (in_row here (length nodes)).0 → grown ≡ nodes ++ (in_row here (length nodes)).1 → new ++ (after (length grown)).0 ≡ whole
  more_instances old new whole nodes grown so_far pushed added =
      let next = next_row (length nodes) in
      let first = next_first nodes grown added in
      ap₂ (λ (front : List Instance) (n : ℕ). front ++ (after n).0) pushed (sym first)
      ∙ append_assoc old (in_row here (length nodes)).0 (after (length nodes + length (in_row here (length nodes)).1)).0
      ∙ (λ i. old ++ (sym next i).0)
      ∙ so_far

  pub more_nodes : (nodes grown whole : List Node) → nodes ++ (before (length nodes)).1 ≡ whole → grown ≡ nodes ++ (in_row here (length nodes)).1 → grown ++ (after (length grown)).1 ≡ whole
  more_nodes nodes grown whole so_far added =
      let next = next_row (length nodes) in
      let first = next_first nodes grown added in
      ap₂ (λ (front : List Node) (n : ℕ). front ++ (after n).1) added (sym first)
      ∙ append_assoc nodes (in_row here (length nodes)).1 (after (length nodes + length (in_row here (length nodes)).1)).1
      ∙ (λ i. nodes ++ (sym next i).1)
      ∙ so_far
