-- The tables of a program, and when the states of the greatest length have too many places.
use Rattle.std.proofs.Common.{◌≡◌, ℕ, ◌+◌, ◌*◌, ◌/◌, ◌<◌, ◌≤◌, List, length, sym, subst, arith}
use Rattle.std.proofs.Math.Nat.{mul-div-le, lt-mul-div-succ}
use Rattle.std.proofs.lemmas.Nat.{mul-le}
use Rattle.tel_base.specs.Members.{In}
use Rattle.tel_term.specs.declared.terms.Term.{Term}
use Rattle.tel_term.specs.declared.exprs.Expr.{Expr}
use Rattle.tel_rule.specs.declared.statements.Kind.{Kind}
use Rattle.tel_rule.specs.declared.statements.Kind.TheVariants as kinds
use Rattle.tel_rule.specs.declared.statements.Statement.{Statement}
use Rattle.tel_rule.specs.declared.statements.Program.{Program}
use Rattle.range_faults.specs.Ranges.{IsBoundProgram}
use Rattle.rule_plans.specs.Goals.{Rows}
use Rattle.rule_plans.specs.Within.{kind_exprs, StatementsAreWithin, AreRowsOf}
use Rattle.plan_search.specs.Steps.{Tables, RowsHaveTerms}
use Rattle.rule_goals.specs.Numbers.{AreNumbered}
use Rattle.fact_rows.specs.declared.numbers.PredicateNumbers.{PredicateNumbers}
use Rattle.fact_rows.specs.declared.tables.ProgramTables.{ProgramTables}
use Rattle.fact_rows.specs.Forms.{number_in}
use Rattle.fact_rows.specs.Limit.{rows_by, HaveMoreRows, fact_exprs, FactsAreWithin}
use Rattle.program_theory.specs.Instances.{instance_count, node_count}
use Rattle.program_theory.specs.Theory.{width_of}
use Rattle.program_theory.specs.Ready.{IsReady}
use Rattle.program_instances.specs.Tables.{AreTablesOf}
use Rattle.program_instances.specs.Gathered.{HasMorePlaces}
use Rattle.instance_laws.proofs.Rows.{rows-instances}
use Rattle.fact_instantiate.specs.Instantiated.{IsTooLarge, most_places}

-- ---- numbers

times_more : (greatest room width most : ℕ) → 1 ≤ greatest → room ≡ most / greatest → room < width → most < greatest * width
times_more greatest room width most some is more =
    let past : most < greatest * (most / greatest + 1) = lt-mul-div-succ most (omega (arith, some)) in
    let grown = mul-le greatest (most / greatest + 1) greatest width (omega arith) (omega (arith, is, more)) in
    omega (arith, past, grown)

once_more : (greatest width most : ℕ) → 1 ≤ greatest → most < width → most < greatest * width
once_more greatest width most some more =
    let grown = mul-le 1 width greatest width some (omega arith) in
    omega (arith, more, grown)

pub times_few : (greatest room count most : ℕ) → room ≡ most / greatest → count ≤ room → greatest * count ≤ most
times_few greatest room count most is few =
    let grown = mul-le greatest count greatest (most / greatest) (omega arith) (omega (arith, is, few)) in
    let whole = mul-div-le most greatest in
    omega (arith, grown, whole)

pub times_fewer : (greatest width count most : ℕ) → width ≤ count → greatest * count ≤ most → greatest * width ≤ most
times_fewer greatest width count most less few =
    let grown = mul-le greatest width greatest count (omega arith) less in
    omega (arith, grown, few)

-- ---- programs

pub large_places : (program : Program) (greatest room : ℕ) → 1 ≤ greatest → room ≡ most_places / greatest → HasMorePlaces program room → IsTooLarge program greatest
large_places program greatest room some is more =
    λ live theory its. times_more greatest room (width_of program live theory) most_places some is (more live theory its)

-- more rows are more instances, which are places of each state
pub large_rows : (program : Program) (greatest : ℕ) → 1 ≤ greatest → HaveMoreRows program.statements most_places → IsTooLarge program greatest
large_rows program greatest some more =
    λ live theory its. (let many = rows-instances program most_places live more its.instances in once_more greatest (width_of program live theory) most_places some (at_least most_places (length theory.atoms) (node_count program.statements live) (instance_count live) many))
  where
    at_least : (most atoms nodes instances : ℕ) → most < instances → most < atoms + nodes + instances + 1
    at_least most atoms nodes instances more = omega (arith, more)

fact_among : (kind : Kind) (expr : Expr) → In expr (fact_exprs kind) → In expr (kind_exprs kind)
fact_among (kinds.Rule head body) expr there = absurd there
fact_among (kinds.Facts fact) expr there = there
fact_among (kinds.Const name value) expr there = absurd there
fact_among (kinds.Show shown) expr there = absurd there

-- what holds of the expressions of statements holds of those of facts
pub facts_within : (symbols : List Term) (statements : List Statement) → StatementsAreWithin symbols statements → FactsAreWithin symbols statements
facts_within symbols statements within = λ statement here expr there. within statement here expr (fact_among statement.kind expr there)

-- ---- tables

pub tables_are : (program : Program) (tables : ProgramTables) (statements : List Statement) → statements ≡ program.statements → StatementsAreWithin program.symbols program.statements
    → AreNumbered (number_in tables.numbers) statements (rows_by (number_in tables.numbers) tables.tables) tables.tables
    → ((symbols : List Term) → FactsAreWithin symbols statements → AreRowsOf statements symbols (rows_by (number_in tables.numbers) tables.tables))
    → ((symbols : List Term) → FactsAreWithin symbols statements → RowsHaveTerms symbols tables.tables) → AreTablesOf program tables
tables_are program tables statements same within numbered rows terms =
    let facts = facts_within program.symbols statements (subst (λ (some : List Statement). StatementsAreWithin program.symbols some) (sym same) within) in
    record {
      numbered = subst (λ (some : List Statement). AreNumbered (number_in tables.numbers) some (rows_by (number_in tables.numbers) tables.tables) tables.tables) same numbered;
      are_rows = subst (λ (some : List Statement). AreRowsOf some program.symbols (rows_by (number_in tables.numbers) tables.tables)) same (rows program.symbols facts);
      terms = terms program.symbols facts;
    }

-- a program with these parts of its tables is one whose variables are all bound
pub bound_program : (program : Program) (tables : ProgramTables) (numbers : PredicateNumbers) (held : Tables) (statements : List Statement) → IsReady program → AreTablesOf program tables
    → numbers ≡ tables.numbers → held ≡ tables.tables → statements ≡ program.statements → (rows : Rows) × IsBoundProgram (number_in numbers) statements rows held program.symbols
bound_program program tables numbers held statements ready are numbers_are held_are statements_are =
    let base : (rows : Rows) × IsBoundProgram (number_in tables.numbers) program.statements rows tables.tables program.symbols = (
      rows_by (number_in tables.numbers) tables.tables,
      record { table = ready.table; rows_are = are.are_rows; numbered = are.numbered; within = ready.within; bound = ready.bound; terms = are.terms },
    ) in
    subst (λ (some : PredicateNumbers). (rows : Rows) × IsBoundProgram (number_in some) statements rows held program.symbols) (sym numbers_are)
    (subst (λ (some : Tables). (rows : Rows) × IsBoundProgram (number_in tables.numbers) statements rows some program.symbols) (sym held_are)
    (subst (λ (some : List Statement). (rows : Rows) × IsBoundProgram (number_in tables.numbers) some rows tables.tables program.symbols) (sym statements_are) base))
