-- What all instances of a program demand, live or not.
use Rattle.std.specs.Prelude.{◌≡◌, ◌⊎◌, ℕ, List, length, IsTrue, IsFalse}
use Rattle.std.specs.List.{flat_map}
use Rattle.tel_base.specs.Members.{In}
use Rattle.tel_term.specs.declared.terms.Term.{Term}
use Rattle.tel_term.specs.declared.terms.Value.{Value}
use Rattle.tel_rule.specs.declared.parts.Part.{Part}
use Rattle.tel_rule.specs.declared.parts.Part.TheVariants as parts
use Rattle.tel_rule.specs.declared.statements.Kind.{Kind}
use Rattle.tel_rule.specs.declared.statements.Kind.TheVariants as kinds
use Rattle.tel_rule.specs.declared.statements.Statement.{Statement}
use Rattle.tel_rule.specs.declared.statements.Program.{Program}
use Rattle.tel_semantics.specs.Formula.{And, Atom, negation}
use Rattle.tel_semantics.specs.Tables.{tuple_rows}
use Rattle.tel_semantics.specs.Theory.{DemandOver}
use Rattle.live_instances.specs.Bindings.{is_binding}
use Rattle.live_instances.specs.Instances.{makes_instance}
use Rattle.theory_lists.specs.Atoms.{TermAtom, negative_of}
use Rattle.program_theory.specs.Theory.{rule_demand, fact_demand, formula_atoms}

-- one instance of a statement demands this: of a rule that of some binding that makes an instance, whichever of its atoms are rows of tables; of a fact that of
-- some tuple and one value of each of its arguments; a directive has no instance
abbrev pub KindSays : List Term → ℕ → Part → Kind → DemandOver TermAtom → Type 0
KindSays symbols count part (kinds.Rule head body) demand =
    (binding : List Value) × IsTrue (is_binding symbols count binding) × IsTrue (makes_instance symbols head body binding) × (demand ≡ rule_demand symbols part head body binding)
KindSays symbols count part (kinds.Facts fact) demand = (row : List Value) × In row (flat_map tuple_rows fact.tuples) × (demand ≡ fact_demand symbols part fact row)
KindSays symbols count part (kinds.Const name value) demand = ⊥
KindSays symbols count part (kinds.Show shown) demand = ⊥

-- some instance of some statement of a program demands this
abbrev pub InstanceSays : Program → DemandOver TermAtom → Type 0
InstanceSays program demand =
    (statement : Statement) × In statement program.statements × KindSays program.symbols (length statement.vars) statement.part statement.kind demand

-- an atom of some instance
abbrev pub IsSpokenOf : Program → TermAtom → Type 0
IsSpokenOf program atom = (demand : DemandOver TermAtom) × InstanceSays program demand × In atom (formula_atoms demand.formula)

-- a plain atom and its negative: not both, at every instant
abbrev pub apart : TermAtom → DemandOver TermAtom
apart atom = record { part = parts.Always; formula = negation (And (Atom atom) (Atom (negative_of atom))) }

-- a plain atom that stands with its negative among the atoms of all instances demands this
abbrev pub PairSays : Program → DemandOver TermAtom → Type 0
PairSays program demand =
    (atom : TermAtom) × IsFalse atom.negative × IsSpokenOf program atom × IsSpokenOf program (negative_of atom) × (demand ≡ apart atom)

-- what all instances of a program demand, and with them the pairs of their atoms
abbrev pub AllSay : Program → DemandOver TermAtom → Type 0
AllSay program demand = InstanceSays program demand ⊎ PairSays program demand
