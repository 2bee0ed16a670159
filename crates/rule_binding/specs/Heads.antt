-- What is known of a predicate from the statements so far: whether one has it as head, and then whether each that has it gives rows.
use Rattle.std.specs.Prelude.{ℕ, Bool, true, false, not, ◌&&◌, ◌==◌, List, [], ◌∷◌, length, Option, Some, None, if◌then◌else◌, bytes_eq}
use Rattle.indexmap.specs.IndexMap.{IndexMap, get}
use Rattle.tel_rule.specs.declared.statements.Arg.{Arg}
use Rattle.tel_rule.specs.declared.statements.Signature.{Signature}
use Rattle.tel_rule.specs.declared.statements.Statement.{Statement}
use Rattle.rule_binding.specs.declared.tables.Form.{Form}
use Rattle.rule_binding.specs.declared.tables.Tables.{Tables}
use Rattle.tel_semantics.specs.Tables.{same_predicate, head_predicates, gives_rows}

abbrev pub or_true : Option Bool → Bool
or_true None = true
or_true (Some rows) = rows

abbrev pub or_false : Option Bool → Bool
or_false None = false
or_false (Some rows) = rows

-- ---- predicates

-- after one head more, of a statement that gives rows or not
abbrev pub noted : Bool → Signature → Signature → Option Bool → Option Bool
noted rows head predicate known = if same_predicate predicate head then Some (rows && or_true known) else known

abbrev pub all_noted : Bool → List Signature → Signature → Option Bool → Option Bool
all_noted rows [] predicate known = known
all_noted rows (head ∷ more) predicate known = all_noted rows more predicate (noted rows head predicate known)

abbrev pub statement_noted : Statement → Signature → Option Bool → Option Bool
statement_noted statement predicate known = all_noted (gives_rows statement) (head_predicates statement.kind) predicate known

abbrev pub known_of : List Statement → Signature → Option Bool → Option Bool
known_of [] predicate known = known
known_of (statement ∷ more) predicate known = known_of more predicate (statement_noted statement predicate known)

-- ---- forms: the predicates of one name

abbrev pub form_of : Signature → Form
form_of predicate = record { negative = predicate.negative; arity = predicate.arity }

abbrev pub tuple_form : Bool → List Arg → Form
tuple_form negative tuple = record { negative = negative; arity = length tuple }

abbrev pub same_form : Form → Form → Bool
same_form a b = (if a.negative then b.negative else not b.negative) && (a.arity == b.arity)

abbrev pub form_noted : Bool → Form → Form → Option Bool → Option Bool
form_noted rows head form known = if same_form form head then Some (rows && or_true known) else known

abbrev pub forms_noted : Bool → List Form → Form → Option Bool → Option Bool
forms_noted rows [] form known = known
forms_noted rows (head ∷ more) form known = forms_noted rows more form (form_noted rows head form known)

-- ---- what maps say

abbrev pub form_said : {S : Type 0} → IndexMap Form Bool S → Form → Option Bool
form_said forms form = get same_form forms form

abbrev pub forms_said : {S : Type 0} → Option (IndexMap Form Bool S) → Form → Option Bool
forms_said None form = None
forms_said (Some forms) form = form_said forms form

abbrev pub said : {S T : Type 0} → IndexMap (List ℕ) (IndexMap Form Bool S) T → Signature → Option Bool
said names predicate = forms_said (get bytes_eq names predicate.name) (form_of predicate)

-- whether the predicate is a table, as these tell
abbrev pub tells : Tables → Signature → Bool
tells tables predicate = or_false (said tables.names predicate)
