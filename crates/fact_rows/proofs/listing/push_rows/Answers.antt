use Rattle.std.proofs.Common.{◌≡◌, ◌∙◌, ◌++◌, ◌+◌, ◌<◌, length, ap, subst, map, List, Option, Some}
use Rattle.std.specs.Prelude.{OnOk, IfErr, option_map}
use Rattle.std.specs.Global.{Vec}
use Rattle.tel_term.specs.declared.terms.Value.{Value}
use Rattle.tel_semantics.specs.Tables.{choices, tuple_rows}
use Rattle.fact_rows.specs.declared.filling.RowsFault.TheVariants as faults
use Rattle.fact_rows.specs.declared.values.Values.{Values}
use Rattle.fact_rows.specs.Walking.{all_of, AreColumns}
use Rattle.fact_rows.proofs.listing.push_rows.Goals as goal

pub returns-in-Some-clause-pushed : goal.returns-in-Some-clause-pushed
returns-in-Some-clause-pushed c =
    let rows = tuple_rows c.args.tuple.now in
    let columns : AreColumns (Some c.in-Some.columns.items) rows =
    subst (λ (o : Option (Vec Values)). AreColumns (option_map (λ (v : Vec Values). v.items) o) rows) c.in-Some.is c.in_ok-columns.ensures in
    let same : choices (map all_of c.as_slice.result.now) ≡ rows = ap (λ (l : List Values). choices (map all_of l)) c.as_slice.ensures.value ∙ columns.1 in
    subst (λ (l : List (List Value)). OnOk c.push_columns.result (c.push_columns.new.rows.items ≡ c.args.rows.now.items ++ l)) same c.push_columns.ensures.pushed

pub returns-in-Some-clause-large : goal.returns-in-Some-clause-large
returns-in-Some-clause-large c =
    let rows = tuple_rows c.args.tuple.now in
    let columns : AreColumns (Some c.in-Some.columns.items) rows =
    subst (λ (o : Option (Vec Values)). AreColumns (option_map (λ (v : Vec Values). v.items) o) rows) c.in-Some.is c.in_ok-columns.ensures in
    let same : choices (map all_of c.as_slice.result.now) ≡ rows = ap (λ (l : List Values). choices (map all_of l)) c.as_slice.ensures.value ∙ columns.1 in
    subst (λ (l : List (List Value)). IfErr c.push_columns.result (λ fault. fault ≡ faults.Large → c.args.most < length c.args.rows.now.items + length l)) same c.push_columns.ensures.large
