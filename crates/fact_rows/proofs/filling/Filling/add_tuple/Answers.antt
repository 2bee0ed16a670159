use Rattle.std.proofs.Common.{◌≡◌, ◌∙◌, sym, ap, subst, map, List, Option, Some, ℕ}
use Rattle.std.specs.Prelude.{OnOk, IfErr, option_map}
use Rattle.std.specs.Global.{Vec}
use Rattle.tel_term.specs.declared.terms.Value.{Value}
use Rattle.tel_rule.specs.declared.statements.Signature.{Signature}
use Rattle.tel_semantics.specs.Tables.{choices, tuple_rows}
use Rattle.rule_goals.specs.Said.{Numbers}
use Rattle.fact_rows.specs.declared.filling.RowsFault.TheVariants as faults
use Rattle.fact_rows.specs.declared.values.Values.{Values}
use Rattle.fact_rows.specs.Walking.{all_of, AreColumns}
use Rattle.fact_rows.specs.Filling.{rows_stated, Adds, Overflows}
use Rattle.fact_rows.proofs.filling.Filling.add_tuple.Goals as goal

pub returns-in-Some-2-clause-added : goal.returns-in-Some-2-clause-added
returns-in-Some-2-clause-added c =
    let old = c.args.self.now in
    let new = c.add_rows.new.self in
    let rows = tuple_rows c.args.tuple.now in
    let columns : AreColumns (Some c.in-Some-2.columns.items) rows =
    subst (λ (o : Option (Vec Values)). AreColumns (option_map (λ (v : Vec Values). v.items) o) rows) c.in-Some-2.is c.in_ok-columns.ensures in
    let same : choices (map all_of c.as_slice.result.now) ≡ rows = ap (λ (l : List Values). choices (map all_of l)) c.as_slice.ensures.value ∙ columns.1 in
    subst (λ (t : Option ℕ). OnOk c.add_rows.result ((number : Numbers) (predicate : Signature) → number predicate ≡ t → Adds number (rows_stated t predicate rows) old new)) (sym c.in-Some.is)
    (subst (λ (l : List (List Value)). OnOk c.add_rows.result ((number : Numbers) (predicate : Signature) → number predicate ≡ Some c.in-Some.table → Adds number (rows_stated (Some c.in-Some.table) predicate l) old new)) same c.add_rows.ensures.added)

pub returns-in-Some-2-clause-large : goal.returns-in-Some-2-clause-large
returns-in-Some-2-clause-large c =
    let old = c.args.self.now in
    let rows = tuple_rows c.args.tuple.now in
    let columns : AreColumns (Some c.in-Some-2.columns.items) rows =
    subst (λ (o : Option (Vec Values)). AreColumns (option_map (λ (v : Vec Values). v.items) o) rows) c.in-Some-2.is c.in_ok-columns.ensures in
    let same : choices (map all_of c.as_slice.result.now) ≡ rows = ap (λ (l : List Values). choices (map all_of l)) c.as_slice.ensures.value ∙ columns.1 in
    subst (λ (t : Option ℕ). IfErr c.add_rows.result (λ fault. fault ≡ faults.Large → (number : Numbers) (predicate : Signature) → number predicate ≡ t → Overflows number (rows_stated t predicate rows) old)) (sym c.in-Some.is)
    (subst (λ (l : List (List Value)). IfErr c.add_rows.result (λ fault. fault ≡ faults.Large → (number : Numbers) (predicate : Signature) → number predicate ≡ Some c.in-Some.table → Overflows number (rows_stated (Some c.in-Some.table) predicate l) old)) same c.add_rows.ensures.large)
