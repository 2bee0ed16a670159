-- A rule of a program that can be instantiated, by the tables of the program, and what it leaves of the room.
use Rattle.std.proofs.Common.{◌≡◌, ℕ, ◌+◌, ◌-◌, ◌*◌, ◌/◌, ◌^◌, ◌<◌, ◌≤◌, List, length, sym, subst, arith}
use Rattle.std.specs.Prelude.{min, Result, Ok, Err, IfErr}
use Rattle.std.specs.List.{sum_by}
use Rattle.tel_term.specs.declared.terms.Term.{Term}
use Rattle.tel_term.specs.declared.terms.Value.{Value}
use Rattle.tel_rule.specs.declared.statements.Head.{Head}
use Rattle.tel_rule.specs.declared.statements.Literal.{Literal}
use Rattle.tel_rule.specs.declared.statements.Kind.{Kind}
use Rattle.tel_rule.specs.declared.statements.Kind.TheVariants as kinds
use Rattle.tel_rule.specs.declared.statements.Statement.{Statement}
use Rattle.tel_rule.specs.declared.statements.Program.{Program}
use Rattle.live_instances.specs.Instances.{AreLive}
use Rattle.live_instances.proofs.OneList.{live-one}
use Rattle.plan_search.specs.Steps.{Tables, RowsHaveTerms}
use Rattle.fact_rows.specs.declared.numbers.PredicateNumbers.{PredicateNumbers}
use Rattle.fact_rows.specs.declared.tables.ProgramTables.{ProgramTables}
use Rattle.atom_table.specs.Named.{NamedAtom}
use Rattle.program_theory.specs.Instances.{literal_nodes}
use Rattle.program_instances.specs.declared.fault.GatherFault.{GatherFault}
use Rattle.program_theory.specs.Ready.{IsReady}
use Rattle.program_instances.specs.Tables.{AreTablesOf}
use Rattle.program_instances.specs.Gathered.{kind_named}
use Rattle.program_instances.specs.Adding.{capped, with_all, kind_places, Gathers, Overflows}
use Rattle.program_instances.proofs.Costs.{cost-paid, cost-over}

module _ (program : Program) (tables : ProgramTables) (ready : IsReady program) (are : AreTablesOf program tables) (numbers : PredicateNumbers) (held : Tables) (numbers_are : numbers ≡ tables.numbers) (held_are : held ≡ tables.tables) where
  pub bound-terms : RowsHaveTerms program.symbols held
  bound-terms = subst (λ (h : Tables). RowsHaveTerms program.symbols h) (sym held_are) are.terms

-- ---- what an answer says

pub err-then : {X : Type 0} (result : Result X GatherFault) (P Q : GatherFault → Type 0) → ((fault : GatherFault) → P fault → Q fault) → IfErr result P → IfErr result Q
err-then (Ok found) P Q so says = tt
err-then (Err fault) P Q so says = so fault says

-- ---- a rule

module _ (statements : List Statement) (symbols : List Term) (count : ℕ) (head : Head) (body : List Literal) (old : List NamedAtom) (room cost : ℕ) (is : cost ≡ min (capped (sum_by literal_nodes body) + 1) (2 ^ 64 - 1)) (less : room < 2 ^ 64 - 1) where
  abbrev rule : Kind
  rule = kinds.Rule head body

  pub rule-gathers : (live : List (List Value)) (new : List NamedAtom) (left : ℕ) → AreLive statements symbols count head body live → length live ≤ room / cost → left ≡ room - length live * cost → new ≡ with_all old (kind_named rule live) → length new ≤ left
      → Gathers statements symbols count rule old new room left live
  rule-gathers live new left lives within rest added few =
      let paid = cost-paid (length live) (sum_by literal_nodes body) cost room is less within in
      let fits = paid.0 in
      let same = paid.1 in
      record { instances = lives; atoms = added; taken = omega (arith, fits, same, rest); few = few }

  pub rule-over : ((live : List (List Value)) → AreLive statements symbols count head body live → room / cost < length live) → Overflows statements symbols count rule old room
  rule-over more live lives =
      let over = cost-over (length live) (sum_by literal_nodes body) cost room is less (more live lives) in
      omega (arith, over)

  pub atoms-over : (live : List (List Value)) (left : ℕ) → AreLive statements symbols count head body live → length live ≤ room / cost → left ≡ room - length live * cost → left < length (with_all old (kind_named rule live))
      → Overflows statements symbols count rule old room
  atoms-over live left lives within rest over other others =
      let paid = cost-paid (length live) (sum_by literal_nodes body) cost room is less within in
      let fits = paid.0 in
      let same = paid.1 in
      let here : room < length (with_all old (kind_named rule live)) + kind_places rule live = omega (arith, fits, same, rest, over) in
      subst (λ (l : List (List Value)). room < length (with_all old (kind_named rule l)) + kind_places rule l) (live-one statements symbols count head body live other lives others) here
