-- The live instances of a program suffice.
use Rattle.std.proofs.Common.{◌≡◌, ◌⊎◌, inl, inr, ℕ, Bool, true, false, ◌&&◌, List, length, refl, sym, ap, subst, ⊎_elim}
use Rattle.std.specs.Prelude.{◌==◌, nat_lt}
use Rattle.std.specs.List.{list_all, list_any}
use Rattle.std.proofs.lemmas.Bool.{and_parts, and_from, cases_Bool}
use Rattle.tel_base.specs.Members.{In}
use Rattle.tel_base.proofs.Members.{In-append_left, In-append_right}
use Rattle.tel_term.specs.declared.terms.Value.{Value}
use Rattle.tel_rule.specs.declared.statements.Head.{Head}
use Rattle.tel_rule.specs.declared.statements.Head.TheVariants as heads
use Rattle.tel_rule.specs.declared.statements.Literal.{Literal}
use Rattle.tel_rule.specs.declared.statements.Kind.{Kind}
use Rattle.tel_rule.specs.declared.statements.Kind.TheVariants as kinds
use Rattle.tel_rule.specs.declared.statements.Statement.{Statement}
use Rattle.tel_rule.specs.declared.statements.Program.{Program}
use Rattle.tel_semantics.specs.Formula as formulas
use Rattle.tel_semantics.specs.Formula.{FormulaOver, negation}
use Rattle.live_instances.specs.Bindings.{is_value}
use Rattle.live_instances.specs.Instances.{rule_exprs, is_live}
use Rattle.instance_build.specs.Meaning.{body_meaning, head_meaning}
use Rattle.rule_plans.specs.Within.{AreWithin, kind_exprs}
use Rattle.theory_lists.specs.Atoms.{TermAtom, same_atom, negative_of}
use Rattle.theory_lists.specs.Theories.{ProgramTheory}
use Rattle.program_theory.specs.Theory.{atom_under, fact_atom, derived, formula_atoms, IsTheoryOf}
use Rattle.all_instances.specs.Traces.{Trace, IsEquilibrium}
use Rattle.all_instances.specs.AllInstances.{KindSays, InstanceSays, PairSays, AllSay}
use Rattle.all_instances.specs.Laws.{IsWellMade, Among, HasOnly, LiveInstancesSuffice}
use Rattle.all_instances.proofs.Split.{Form, IsKept, IsIdle, IsApart, IsSplit, negation_kept, live_from_all, all_from_live, known_from_all}
use Rattle.all_instances.proofs.Shapes.{HeadPasses, both_pass, rule_kept, fact_kept, rule_idle}
use Rattle.all_instances.proofs.Possible.{is_possible, head_possible, fact_possible, lacking}
use Rattle.all_instances.proofs.Says.{Demand, LiveKindSays, LiveSays, IsPairOf, atom_found, atom_there, demand_from, demand_live, demand_pair, atom_of_live, live_is_instance, pair_of_all}

-- ---- the atoms of heads

derived_in : (atom : TermAtom) (after : Bool) → In atom (formula_atoms (derived atom after))
derived_in atom true = inl refl
derived_in atom false = inl refl

module _ (program : Program) (live : List (List (List Value))) (theory : ProgramTheory) (made : IsWellMade program) (is : IsTheoryOf program live theory) where
  abbrev possible : TermAtom → Bool
  possible atom = is_possible program.statements program.symbols atom

  -- an atom of the theory
  abbrev known : TermAtom → Bool
  known atom = list_any (same_atom atom) theory.atoms

  abbrev both : TermAtom → Bool
  both atom = possible atom && known atom

  abbrev Live : Demand → Type 0
  Live demand = Among theory.demands demand

  known_of : (demand : Demand) (atom : TermAtom) → LiveSays program.statements program.symbols program.statements demand → In atom (formula_atoms demand.formula) → known atom ≡ true
  known_of demand atom says there = atom_there theory.atoms atom (atom_of_live program live theory is demand atom says there)

  -- ---- live instances stay

  head_known : (head : Head) (body : List Literal) (binding : List Value) → ((atom : TermAtom) → In atom (formula_atoms (head_meaning (atom_under program.symbols binding) head)) → known atom ≡ true) → HeadPasses known (atom_under program.symbols binding) head
  head_known (heads.Normal atom) body binding all = all (atom_under program.symbols binding atom) (derived_in (atom_under program.symbols binding atom) (nat_lt 0 atom.after))
  head_known (heads.Choice atom) body binding all =
      let one = atom_under program.symbols binding atom in
      all one (In-append_left one (formula_atoms (derived one (nat_lt 0 atom.after))) (formula_atoms (negation (derived one (nat_lt 0 atom.after)))) (derived_in one (nat_lt 0 atom.after)))
  head_known heads.None body binding all = tt

  kind_stays : (statement : Statement) (kind : Kind) (demand : Demand) → In statement program.statements → statement.kind ≡ kind → LiveKindSays program.statements program.symbols (length statement.vars) statement.part kind demand
      → ((atom : TermAtom) → In atom (formula_atoms demand.formula) → known atom ≡ true) → IsKept both demand.formula
  kind_stays statement (kinds.Rule head body) demand there at says all =
      let of_atom = atom_under program.symbols says.0 in
      let formula : demand.formula ≡ formulas.Arrow (body_meaning of_atom body) (head_meaning of_atom head) = ap (λ (d : Demand). d.formula) says.3 in
      let headed = head_known head body says.0 (λ atom found. all atom (subst (λ (f : Form). In atom (formula_atoms f)) (sym formula)
      (In-append_right atom (formula_atoms (body_meaning of_atom body)) (formula_atoms (head_meaning of_atom head)) found))) in
      subst (λ (f : Form). IsKept both f) (sym formula)
      (rule_kept both of_atom head body (both_pass possible known of_atom head (head_possible program.statements program.symbols statement head body says.0 there at) headed))
  kind_stays statement (kinds.Facts fact) demand there at says all =
      let atom = fact_atom program.symbols fact says.0 in
      let formula : demand.formula ≡ formulas.Arrow formulas.True (derived atom (nat_lt 0 fact.after)) = ap (λ (d : Demand). d.formula) says.2 in
      subst (λ (f : Form). IsKept both f) (sym formula)
      (fact_kept both atom (nat_lt 0 fact.after)
      (and_from (possible atom) (known atom) (fact_possible program.statements program.symbols statement fact says.0 there at says.1)
      (all atom (subst (λ (f : Form). In atom (formula_atoms f)) (sym formula) (derived_in atom (nat_lt 0 fact.after))))))
  kind_stays statement (kinds.Const name value) demand there at says all = absurd says
  kind_stays statement (kinds.Show shown) demand there at says all = absurd says

  stays : (demand : Demand) → Live demand → IsKept both demand.formula
  stays demand lives =
      ⊎_elim (λ (says : LiveSays program.statements program.symbols program.statements demand). kind_stays says.0 says.0.kind demand says.1 refl says.2 (λ atom found. known_of demand atom says found))
      (λ (pair : IsPairOf theory.atoms demand).
      subst (λ (d : Demand). IsKept both d.formula) (sym pair.is) (negation_kept both (formulas.And (formulas.Atom pair.atom) (formulas.Atom (negative_of pair.atom)))))
      (demand_from program live theory is demand lives)

  -- ---- others come to nothing

  kind_others : (statement : Statement) (kind : Kind) (demand : Demand) → In statement program.statements → statement.kind ≡ kind → KindSays program.symbols (length statement.vars) statement.part kind demand
      → LiveKindSays program.statements program.symbols (length statement.vars) statement.part kind demand ⊎ IsIdle possible demand.formula
  kind_others statement (kinds.Rule head body) demand there at says =
      let binding = says.0 in
      let own : AreWithin program.symbols (length statement.vars) (rule_exprs head body) = subst (λ (k : Kind). AreWithin program.symbols (length statement.vars) (kind_exprs k)) at (made.within statement there) in
      let all = (and_parts (length binding == length statement.vars) (list_all (is_value program.symbols) binding) says.1).1 in
      ⊎_elim (λ (lives : is_live program.statements program.symbols head body binding ≡ true). inl (binding, says.1, lives, says.3))
      (λ (fails : is_live program.statements program.symbols head body binding ≡ false).
      let lacks = lacking program.statements program.symbols made.table made.within (length statement.vars) head body binding own all says.2 fails in
      inr (subst (λ (d : Demand). IsIdle possible d.formula) (sym says.3) (rule_idle possible (atom_under program.symbols binding) head body lacks.literal lacks.atom lacks.there lacks.positive lacks.fails)))
      (cases_Bool (is_live program.statements program.symbols head body binding))
  kind_others statement (kinds.Facts fact) demand there at says = inl says
  kind_others statement (kinds.Const name value) demand there at says = absurd says
  kind_others statement (kinds.Show shown) demand there at says = absurd says

  others : (demand : Demand) → AllSay program demand → Live demand ⊎ (IsIdle possible demand.formula ⊎ IsApart Live known demand)
  others demand all =
      ⊎_elim (λ (says : InstanceSays program demand).
      ⊎_elim (λ (lives : LiveKindSays program.statements program.symbols (length says.0.vars) says.0.part says.0.kind demand). inl (demand_live program live theory is demand (says.0, says.1, lives)))
      (λ (idle : IsIdle possible demand.formula). inr (inl idle))
      (kind_others says.0 says.0.kind demand says.1 refl says.2))
      (λ (pair : PairSays program demand). inr (inr (record {
        one = pair.0;
        other = negative_of pair.0;
        is = ap (λ (d : Demand). d.formula) pair.4;
        lives = λ here there. demand_pair program live theory is demand
            (record { atom = pair.0; plain = pair.1; here = atom_found theory.atoms pair.0 here; there = atom_found theory.atoms (negative_of pair.0) there; is = pair.4 });
      })))
      all

  of_all : (demand : Demand) → Live demand → AllSay program demand
  of_all demand lives =
      ⊎_elim (λ (says : LiveSays program.statements program.symbols program.statements demand). inl (live_is_instance program live theory is demand says))
      (λ (pair : IsPairOf theory.atoms demand). inr (pair_of_all program live theory is demand pair))
      (demand_from program live theory is demand lives)

  split : IsSplit (AllSay program) Live possible known
  split = record { of_all = of_all; stays = stays; others = others }

  pub theory_from_all : (n : ℕ) (T : Trace) → IsEquilibrium (AllSay program) n T → IsEquilibrium (Among theory.demands) n T
  theory_from_all n T eq = live_from_all (AllSay program) Live possible known split n T eq

  pub all_from_theory : (n : ℕ) (T : Trace) → IsEquilibrium (Among theory.demands) n T → IsEquilibrium (AllSay program) n T
  all_from_theory n T eq = all_from_live (AllSay program) Live possible known split n T eq

  pub only_known : (n : ℕ) (T : Trace) → IsEquilibrium (AllSay program) n T → HasOnly n theory.atoms T
  only_known n T eq k atom l on = atom_found theory.atoms atom (known_from_all (AllSay program) Live possible known split n T eq k atom l on)

pub live_suffice : LiveInstancesSuffice
live_suffice program live theory n T made is = (
  λ eq. (theory_from_all program live theory made is n T eq, only_known program live theory made is n T eq),
  λ both. all_from_theory program live theory made is n T both.0,
)
