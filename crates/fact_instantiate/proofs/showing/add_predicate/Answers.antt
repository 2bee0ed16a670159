use Rattle.std.proofs.Common.{◌||◌, List, ℕ, ap, ◌∙◌}
use Rattle.tel_semantics.specs.Tables.{same_predicate}
use Rattle.fact_instantiate.specs.Named.{has_key}
use Rattle.fact_instantiate.proofs.NamedKeys.{key_added}
use Rattle.fact_instantiate.proofs.showing.add_predicate.Goals as goal

pub returns-in-Ok : goal.returns-in-Ok
returns-in-Ok c other =
    let one = c.args.predicate.now in
    key_added c.args.named.now c.insert.new.self _ other c.in-Ok.ensures.keys
    ∙ ap (λ (name : List ℕ). has_key c.args.named.now other || same_predicate other (record { negative = one.negative; name = name; arity = one.arity })) c.as_slice.ensures
