-- The rows of tables are among what facts state, and each atom that a fact states is an instance.
use Rattle.std.proofs.Common.{◌≡◌, ◌⊎◌, inl, inr, ℕ, ◌+◌, ◌<◌, ◌≤◌, Bool, true, false, List, [], ◌∷◌, map, length, refl, sym, ap, ap₂, subst, ◌∙◌, arith}
use Rattle.std.specs.Prelude.{if◌then◌else◌}
use Rattle.std.specs.List.{flat_map, filter}
use Rattle.std.proofs.lemmas.Bool.{cases_lt}
use Rattle.std.proofs.lemmas.List.{length-append, length-map}
use Rattle.std.proofs.lemmas.List.Sums.{sum_by-cons}
use Rattle.tel_base.specs.Members.{In}
use Rattle.tel_base.proofs.Members.{In-map, In-map_from, In-flat_map, In-flat_map_from, In-filter, In-filter_from, any_found, any_from}
use Rattle.tel_term.specs.declared.terms.Term.{Term}
use Rattle.tel_term.specs.declared.terms.Value.{Value}
use Rattle.tel_rule.specs.Atoms.{values_eq}
use Rattle.tel_rule.specs.declared.statements.Arg.{Arg}
use Rattle.tel_rule.specs.declared.statements.Fact.{Fact}
use Rattle.tel_rule.specs.declared.statements.Signature.{Signature}
use Rattle.tel_rule.specs.declared.statements.Kind.{Kind}
use Rattle.tel_rule.specs.declared.statements.Kind.TheVariants as kinds
use Rattle.tel_rule.specs.declared.statements.Statement.{Statement}
use Rattle.tel_semantics.specs.Tables.{same_predicate, tuple_predicate, tuple_rows, fact_rows, stated_rows, is_table, is_row}
use Rattle.join_plans.proofs.Counting.{fewer}
use Rattle.fact_table.specs.Equal.{values_one, values_itself}
use Rattle.fact_rows.specs.Once.{each_once}
use Rattle.fact_rows.specs.Filling.{Stated, same_stated}
use Rattle.fact_rows.specs.Limit.{IsRowOf, HaveMoreRows}
use Rattle.fact_rows.proofs.Heads.{one_predicate, predicate_itself}
use Rattle.fact_rows.proofs.Onces.{in_once, once_in, is_once}
use Rattle.fact_rows.proofs.Held.{stated_one, stated_itself}
use Rattle.program_theory.specs.Instances.{KindHasInstances, HaveInstances, instance_count}
use Rattle.instance_laws.specs.Laws.{RowsAreInstances, RowsAreFewOrMore}

-- ---- what facts state, in their order

abbrev pub tuple_pairs : Fact → List Arg → List Stated
tuple_pairs fact tuple = map (λ (row : List Value). (tuple_predicate fact tuple, row)) (tuple_rows tuple)

abbrev pub kind_pairs : Kind → List Stated
kind_pairs (kinds.Facts fact) = flat_map (tuple_pairs fact) fact.tuples
kind_pairs (kinds.Rule head body) = []
kind_pairs (kinds.Const name value) = []
kind_pairs (kinds.Show shown) = []

abbrev pub all_pairs : List Statement → List Stated
all_pairs statements = flat_map (λ (statement : Statement). kind_pairs statement.kind) statements

-- ---- as many as the instances of facts

tuples-long : (fact : Fact) (tuples : List (List Arg)) → length (flat_map (tuple_pairs fact) tuples) ≡ length (flat_map tuple_rows tuples)
tuples-long fact [] = refl
tuples-long fact (tuple ∷ more) =
    length-append (tuple_pairs fact tuple) (flat_map (tuple_pairs fact) more)
    ∙ ap₂ (λ (m n : ℕ). m + n) (length-map (tuple_rows tuple) (λ (row : List Value). (tuple_predicate fact tuple, row))) (tuples-long fact more)
    ∙ sym (length-append (tuple_rows tuple) (flat_map tuple_rows more))

kind-most : (statements : List Statement) (symbols : List Term) (count : ℕ) (kind : Kind) (live : List (List Value)) → KindHasInstances statements symbols count kind live → length (kind_pairs kind) ≤ length live
kind-most statements symbols count (kinds.Rule head body) live has = omega arith
kind-most statements symbols count (kinds.Facts fact) live has = let same = tuples-long fact fact.tuples in let long = ap length has in omega (arith, same, long)
kind-most statements symbols count (kinds.Const name value) live has = omega arith
kind-most statements symbols count (kinds.Show shown) live has = omega arith

-- what facts state is no more than the instances
pub pairs-most : (statements : List Statement) (symbols : List Term) (some : List Statement) (live : List (List (List Value))) → HaveInstances statements symbols some live → length (all_pairs some) ≤ instance_count live
pairs-most statements symbols [] [] have = omega arith
pairs-most statements symbols [] (here ∷ later) have = absurd have
pairs-most statements symbols (statement ∷ more) [] have = absurd have
pairs-most statements symbols (statement ∷ more) (here ∷ later) have =
    let long = length-append (kind_pairs statement.kind) (all_pairs more) in
    let first = kind-most statements symbols (length statement.vars) statement.kind here have.0 in
    let rest = pairs-most statements symbols more later have.1 in
    let sum = sum_by-cons (λ (one : List (List Value)). length one) here later in
    omega (arith, long, first, rest, sum)

-- ---- the rows of predicates are among them

own : (predicate other : Signature) (rows : List (List Value)) (row : List Value) → In row (if same_predicate predicate other then rows else []) → (other ≡ predicate) × In row rows
own predicate other rows row = by (same_predicate predicate other) refl
  where
    by : (b : Bool) → same_predicate predicate other ≡ b → In row (if b then rows else []) → (other ≡ predicate) × In row rows
    by true same there = (sym (one_predicate predicate other same), there)
    by false differ there = absurd there

kind-pair : (predicate : Signature) (row : List Value) (kind : Kind) → In row (fact_rows predicate kind) → In (predicate, row) (kind_pairs kind)
kind-pair predicate row (kinds.Facts fact) there =
    let from = In-flat_map_from (λ (tuple : List Arg). if same_predicate predicate (tuple_predicate fact tuple) then tuple_rows tuple else []) row fact.tuples there in
    let its = own predicate (tuple_predicate fact from.0) (tuple_rows from.0) row from.2 in
    In-flat_map (tuple_pairs fact) from.0 (predicate, row) fact.tuples from.1
    (subst (λ (p : Signature). In (p, row) (tuple_pairs fact from.0)) its.0 (In-map (λ (r : List Value). (tuple_predicate fact from.0, r)) row (tuple_rows from.0) its.1))
kind-pair predicate row (kinds.Rule head body) there = absurd there
kind-pair predicate row (kinds.Const name value) there = absurd there
kind-pair predicate row (kinds.Show shown) there = absurd there

pub row-pair : (statements : List Statement) (predicate : Signature) (row : List Value) → is_row statements predicate row ≡ true → In (predicate, row) (all_pairs statements)
row-pair statements predicate row is =
    let found = any_found (values_eq row) (stated_rows statements predicate) is in
    let there : In row (stated_rows statements predicate) = subst (λ (r : List Value). In r (stated_rows statements predicate)) (sym (values_one row found.0 found.2)) found.1 in
    let from = In-flat_map_from (λ (statement : Statement). fact_rows predicate statement.kind) row statements there in
    In-flat_map (λ (statement : Statement). kind_pairs statement.kind) from.0 (predicate, row) statements from.1 (kind-pair predicate row from.0.kind from.2)

-- ---- what is among them is a row

kept : (predicate other : Signature) (rows : List (List Value)) (row : List Value) → other ≡ predicate → In row rows → In row (if same_predicate predicate other then rows else [])
kept predicate other rows row is there =
    subst (λ (b : Bool). In row (if b then rows else [])) (sym (ap (same_predicate predicate) is ∙ predicate_itself predicate)) there

pair-kind : (predicate : Signature) (row : List Value) (kind : Kind) → In (predicate, row) (kind_pairs kind) → In row (fact_rows predicate kind)
pair-kind predicate row (kinds.Facts fact) there =
    let from = In-flat_map_from (tuple_pairs fact) (predicate, row) fact.tuples there in
    let of_row = In-map_from (λ (r : List Value). (tuple_predicate fact from.0, r)) (predicate, row) (tuple_rows from.0) from.2 in
    let its : In row (tuple_rows from.0) = subst (λ (r : List Value). In r (tuple_rows from.0)) (ap (λ (one : Stated). one.1) of_row.2) of_row.1 in
    In-flat_map (λ (tuple : List Arg). if same_predicate predicate (tuple_predicate fact tuple) then tuple_rows tuple else []) from.0 row fact.tuples from.1
    (kept predicate (tuple_predicate fact from.0) (tuple_rows from.0) row (ap (λ (one : Stated). one.0) of_row.2) its)
pair-kind predicate row (kinds.Rule head body) there = absurd there
pair-kind predicate row (kinds.Const name value) there = absurd there
pair-kind predicate row (kinds.Show shown) there = absurd there

pub pair-row : (statements : List Statement) (predicate : Signature) (row : List Value) → In (predicate, row) (all_pairs statements) → is_row statements predicate row ≡ true
pair-row statements predicate row there =
    let from = In-flat_map_from (λ (statement : Statement). kind_pairs statement.kind) (predicate, row) statements there in
    any_from (values_eq row) (stated_rows statements predicate) row
    (In-flat_map (λ (statement : Statement). fact_rows predicate statement.kind) from.0 row statements from.1 (pair-kind predicate row from.0.kind from.2))
    (values_itself row)

-- ---- rows and instances

-- more rows than a limit are more instances
pub rows-instances : RowsAreInstances
rows-instances program most live have are =
    let less = fewer have.rows (all_pairs program.statements) have.once (λ one there. row-pair program.statements one.0 one.1 (have.are_rows one.0 one.1 there).has) in
    let counted = pairs-most program.statements program.symbols program.statements live are in
    omega (arith, less, counted, have.more)

-- ---- whether there are more rows than a limit

module _ (statements : List Statement) where
  abbrev of_table : Stated → Bool
  of_table one = is_table statements one.0

  -- the rows of tables, each once
  abbrev table_rows : List Stated
  table_rows = each_once same_stated (filter of_table (all_pairs statements))

  are-rows : (predicate : Signature) (row : List Value) → In (predicate, row) table_rows → IsRowOf statements predicate row
  are-rows predicate row there =
      let its = In-filter_from of_table (predicate, row) (all_pairs statements) (in_once same_stated stated_one stated_itself (predicate, row) (filter of_table (all_pairs statements)) there) in
      record { table = its.1; has = pair-row statements predicate row its.0 }

  is-there : (predicate : Signature) (row : List Value) → IsRowOf statements predicate row → In (predicate, row) table_rows
  is-there predicate row is =
      once_in same_stated stated_one stated_itself (predicate, row) (filter of_table (all_pairs statements))
      (In-filter of_table (predicate, row) (all_pairs statements) (row-pair statements predicate row is.has) is.table)

  few-rows : (most : ℕ) → length table_rows ≤ most → HaveMoreRows statements most → ⊥
  few-rows most few have =
      let less = fewer have.rows table_rows have.once (λ one there. is-there one.0 one.1 (have.are_rows one.0 one.1 there)) in
      omega (arith, less, few, have.more)

  decided : (most : ℕ) → (most < length table_rows) ⊎ (length table_rows ≤ most) → HaveMoreRows statements most ⊎ (HaveMoreRows statements most → ⊥)
  decided most (inl more) = inl (record { rows = table_rows; are_rows = are-rows; once = is_once same_stated stated_one stated_itself (filter of_table (all_pairs statements)); more = more })
  decided most (inr few) = inr (few-rows most few)

pub rows-decided : RowsAreFewOrMore
rows-decided statements most = decided statements most (cases_lt most (length (table_rows statements)))
