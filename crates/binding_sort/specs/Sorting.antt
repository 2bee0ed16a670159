-- Bindings of terms of the program.
use Rattle.std.specs.Prelude.{List, IsTrue}
use Rattle.std.specs.List.{list_all}
use Rattle.tel_base.specs.Members.{In}
use Rattle.tel_term.specs.declared.terms.Term.{Term}
use Rattle.tel_term.specs.declared.terms.Value.{Value}
use Rattle.live_instances.specs.Bindings.{is_value}

abbrev pub AreOfTerms : List Term → List (List Value) → Type 0
AreOfTerms symbols bindings = (binding : List Value) → In binding bindings → IsTrue (list_all (is_value symbols) binding)
