-- Predicates that are held as keys, which borrow their names.
use Rattle.std.specs.Prelude.{Bool}
use Rattle.std.specs.List.{list_any}
use Rattle.indexmap.specs.IndexSet.{IndexSet}
use Rattle.tel_rule.specs.declared.statements.Signature.{Signature}
use Rattle.tel_semantics.specs.Tables.{same_predicate}
use Rattle.fact_instantiate.specs.declared.showing.Key.{Key}

abbrev pub key_predicate : Key → Signature
key_predicate key = record { negative = key.negative; name = key.name.now; arity = key.arity }

-- whether a predicate is among the keys
abbrev pub has_key : {S : Type 0} → IndexSet Key S → Signature → Bool
has_key named predicate = list_any (λ (key : Key). same_predicate predicate (key_predicate key)) named.keys
