use Rattle.std.proofs.Common.{map, subst, sym, List}
use Rattle.tel_base.specs.Members.{In}
use Rattle.tel_base.proofs.Members.{In-map, In-get_or}
use Rattle.tel_term.specs.declared.terms.Value.{Value}
use Rattle.tel_semantics.specs.Tables.{arg_values}
use Rattle.fact_rows.proofs.Turned.{none-chosen}
use Rattle.fact_rows.proofs.walking.columns_of.Goals as goal

pub returns-in-None : goal.returns-in-None
returns-in-None c =
    let tuple = c.args.tuple.now in
    let arg = c.arg-item.result in
    let there : In arg tuple = In-get_or tuple c.loop-arg.arg-index arg c.loop-arg-test.true (sym c.arg-item.is) in
    none-chosen (map arg_values tuple) (subst (λ (list : List Value). In list (map arg_values tuple)) c.in-None.ensures (In-map arg_values arg tuple there))
