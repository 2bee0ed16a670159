-- Laws of theories.
use Rattle.std.specs.Prelude.{◌≡◌, List, length}
use Rattle.tel_term.specs.declared.terms.Value.{Value}
use Rattle.tel_term.specs.Symbols.{IsTable}
use Rattle.tel_rule.specs.declared.statements.Program.{Program}
use Rattle.tel_rule.specs.Ground.{Ground, IsGround}
use Rattle.program_theory.specs.Instances.{AreInstances, instance_count, node_count}
use Rattle.theory_lists.specs.Theories.{ProgramTheory, Means}
use Rattle.program_theory.specs.Theory.{IsTheoryOf}
use Rattle.program_theory.specs.Templates.{HasFewNots, IsTemplateOf}

-- a program has at most one list of live instances, and at most one theory
abbrev pub TheoriesAreOne : Type 0
TheoriesAreOne =
    (program : Program) (a b : List (List (List Value))) (here there : ProgramTheory)
    → IsTheoryOf program a here → IsTheoryOf program b there → (a ≡ b) × (here ≡ there)

-- it has such a list, where its symbols are a table, as those of each `Symbols` are
abbrev pub ProgramsHaveInstances : Type 0
ProgramsHaveInstances =
    (program : Program) → IsTable program.symbols → (live : List (List (List Value))) × AreInstances program live

-- and with it a theory
abbrev pub InstancesHaveTheories : Type 0
InstancesHaveTheories =
    (program : Program) (live : List (List (List Value)))
    → AreInstances program live → (theory : ProgramTheory) × IsTheoryOf program live theory

-- the template of a program means its theory
abbrev pub TemplatesMeanTheories : Type 0
TemplatesMeanTheories =
    (program : Program) (live : List (List (List Value))) (template : Ground)
    → HasFewNots program → IsGround template → IsTemplateOf program live template → (said : ProgramTheory) × IsTheoryOf program live said × Means template said

-- a template has as many nodes and instances as are counted
abbrev pub TemplatesAreCounted : Type 0
TemplatesAreCounted =
    (program : Program) (live : List (List (List Value))) (template : Ground)
    → IsTemplateOf program live template → (length template.instances ≡ instance_count live) × (length template.nodes ≡ node_count program.statements live)
