-- A template that a program is instantiated to runs as the program's theory.
use Rattle.std.proofs.Common.{◌≡◌, ℕ, ◌+◌, ◌*◌, ◌^◌, ◌≤◌, ◌⊎◌, zero, suc, inl, inr, Bool, true, false, ◌&&◌, cond, nat_lt, List, [], ◌∷◌, ◌++◌, take, length, Option, None, IfSome, refl, sym, ap, ◌∙◌, subst, arith}
use Rattle.std.specs.List.{list_all}
use Rattle.std.proofs.lemmas.Bool.{and_from, and_parts}
use Rattle.std.proofs.lemmas.List.{length-map}
use Rattle.std.proofs.lemmas.List.Folds.{list_all-append}
use Rattle.tel_base.specs.declared.places.Place.{Place}
use Rattle.tel_base.specs.Bytes.{AppendsFront}
use Rattle.tel_term.specs.declared.terms.Term.{Term}
use Rattle.tel_term.specs.declared.terms.Value.{Value}
use Rattle.tel_rule.specs.declared.statements.Statement.{Statement}
use Rattle.tel_rule.specs.declared.statements.Program.{Program}
use Rattle.tel_rule.specs.Ground.{Ground, IsGround}
use Rattle.tel_semantics.specs.declared.ends.How.TheVariants.{Limit, Complete}
use Rattle.tel_semantics.specs.Equilibrium.{list_of}
use Rattle.tel_settings.specs.declared.fields.Settings.{Settings}
use Rattle.tel_engine.specs.Ends.{End, is_reached, whole_end, IsEnd, most_counted}
use Rattle.tel_engine.specs.Lists.{text_of}
use Rattle.instance_build.proofs.Said.{instances_mean_rules}
use Rattle.instance_build.proofs.Rows.{rows_mean_instances}
use Rattle.theory_lists.specs.Atoms.{atom_over}
use Rattle.theory_lists.specs.Theories.{ProgramTheory, Means}
use Rattle.theory_lists.specs.Lists.{equilibria}
use Rattle.theory_lists.proofs.SameLists.{lists-same}
use Rattle.theory_lists.proofs.SamePrint.{prints-same, listed-below}
use Rattle.program_theory.specs.Theory.{IsTheoryOf, width_of}
use Rattle.program_theory.specs.Templates.{HasFewNots}
use Rattle.program_theory.specs.Ready.{IsReadable}
use Rattle.program_theory.proofs.Counted.{templates-counted}
use Rattle.program_theory.proofs.Meant.{templates-mean, means-theory}
use Rattle.program_theory.proofs.OneTheory.{theories-one}
use Rattle.plan_search.proofs.Dropping.{In-get}
use Rattle.range_faults.specs.Ranges.{NoneLeavesRange, IsFirstLeaving}
use Rattle.part_syntax.specs.Programs.{IsProgram, total_bytes}
use Rattle.checked_programs.proofs.Ready.{is_readable}
use Rattle.fact_instantiate.specs.Instantiated.{template_width, IsInstantiated}
use Rattle.text_answer.specs.Runs.{AreEnds, Runs}
use Rattle.text_answer.specs.Running.{IsTemplateEnd, RunsTemplate}
use Rattle.text_answer.specs.Verdict.{largest_text, most_clauses, IsLengthEnd, IsWholeEnd, IsAmple, length_text, RunsTheory}
use Rattle.text_answer.proofs.Runs.{runs-map, runs-text, running_start, short_before}

-- ---- templates

-- a template of a program means each theory of it
pub meant : (program : Program) (greatest : ℕ) (template : Ground) (live : List (List (List Value))) (theory : ProgramTheory) → HasFewNots program → IsGround template → IsInstantiated program greatest template → IsTheoryOf program live theory → Means template theory
meant program greatest template live theory nots ground made is =
    means-theory (templates-mean instances_mean_rules rows_mean_instances) program made.live live template theory nots ground made.is is

-- and has as many places in a state
pub same_width : (program : Program) (greatest : ℕ) (template : Ground) (live : List (List (List Value))) (theory : ProgramTheory) → HasFewNots program → IsGround template → IsInstantiated program greatest template → IsTheoryOf program live theory → template_width template ≡ width_of program live theory
same_width program greatest template live theory nots ground made is =
    let said = templates-mean instances_mean_rules rows_mean_instances program made.live template nots ground made.is in
    let one : made.live ≡ live = (theories-one program made.live live said.0 theory said.1 is).0 in
    let counts = templates-counted program made.live template made.is in
    let atoms : length theory.atoms ≡ length template.atoms = ap length (meant program greatest template live theory nots ground made is).atoms ∙ length-map template.atoms (atom_over template.symbols) in
    (λ i. sym atoms i + counts.1 i + counts.0 i + 1) ∙ ap (λ (instances : List (List (List Value))). width_of program instances theory) one

-- ---- what is run

-- the ends of a length of a template, and their text, are those of the theory that it means
same_ends : (settings : Settings) (template : Ground) (theory : ProgramTheory) (places : ℕ) → IsGround template → Means template theory → template_width template ≡ places → IsTemplateEnd settings template ≡ IsLengthEnd settings theory places
unfolding most_counted most_clauses
same_ends settings template theory places ground means wide =
    λ i n end. IsEnd (lists-same template theory n ground means i) settings.models settings.conflicts (3 ^ ((n + 1) * wide i)) end

-- the traces of an end are over the atoms of the template
taken_below : (p : List (List ℕ) → Bool) (models : ℕ) (all : List (List (List ℕ))) → list_all p all ≡ true → list_all p (take models all) ≡ true
taken_below p zero all h = refl
taken_below p (suc models) [] h = refl
taken_below p (suc models) (trace ∷ more) h =
    let both = and_parts (p trace) (list_all p more) h in
    and_from (p trace) (list_all p (take models more)) both.0 (taken_below p models more both.1)

whole_below : (p : List (List ℕ) → Bool) (models : ℕ) (all : List (List (List ℕ))) → list_all p all ≡ true → list_all p (whole_end all models).traces ≡ true
whole_below p models all h =
    elim (is_reached models (length all)) as (λ b. list_all p (cond {A = End} b (record { traces = take models all; how = Limit }) (record { traces = all; how = Complete })).traces ≡ true) [ true ↦ taken_below p models all h | false ↦ h ]

end_below : (p : List (List ℕ) → Bool) (models : ℕ) (conflicts : Option ℕ) (most : ℕ) (all : List (List (List ℕ))) (end : End) → list_all p all ≡ true → IsEnd all models conflicts most end → list_all p end.traces ≡ true
end_below p models conflicts most all end h (inl whole) = subst (λ (e : End). list_all p e.traces ≡ true) (sym whole) (whole_below p models all h)
end_below p models conflicts most all end h (inr cut) =
    (and_parts (list_all p end.traces) (list_all p cut.rest) (sym (list_all-append p end.traces cut.rest) ∙ sym (ap (list_all p) cut.front) ∙ whole_below p models all h)).0

-- so what is printed of it is what is printed of the theory
same_texts : (settings : Settings) (template : Ground) (theory : ProgramTheory) → Means template theory → (n : ℕ) (end : End) → IsTemplateEnd settings template n end → text_of template n end ≡ length_text theory n end
same_texts settings template theory means n end is =
    prints-same template theory n end.traces end.how means
    (end_below (list_all (list_all (λ place. nat_lt place (length template.atoms)))) settings.models settings.conflicts (most_counted template n) (list_of template n) end (listed-below template n) is)

-- the run of a template is that of the theory that it means, with its status
pub same_run : (D : ℕ → List ℕ → Type 0) (settings : Settings) (template : Ground) (theory : ProgramTheory) (places : ℕ) → IsGround template → Means template theory → template_width template ≡ places → RunsTemplate settings template D → RunsTheory D settings theory places
same_run D settings template theory places ground means wide runs =
    subst (λ (IsOne : ℕ → End → Type 0). Runs IsOne (length_text theory) settings D) (same_ends settings template theory places ground means wide)
    (runs-text (IsTemplateEnd settings template) (text_of template) (length_text theory) settings D (same_texts settings template theory means) runs)

-- each length of a theory has an end, and so the theory has a run
some_end : (settings : Settings) (theory : ProgramTheory) (places n : ℕ) → (end : End) × IsLengthEnd settings theory places n end
some_end settings theory places n = (whole_end (equilibria theory n) settings.models, inl refl)

pub some_run : (D : ℕ → List ℕ → Type 0) (settings : Settings) (theory : ProgramTheory) (places : ℕ) → ((status : ℕ) (bytes : List ℕ) → D status bytes) → RunsTheory D settings theory places
some_run D settings theory places all =
    let IsOne = IsLengthEnd settings theory places in
    let text = length_text theory in
    runs-map IsOne text settings (λ status bytes. AppendsFront None None bytes) D (λ status bytes _. all status bytes)
    (short_before IsOne text settings 0 false false None None 0 0 (running_start IsOne text settings None 0) (some_end settings theory places))

-- ---- budgets

-- an ample budget cuts no length
pub ample-whole : (settings : Settings) (theory : ProgramTheory) (places greatest k : ℕ) (ends : List End) → k + length ends ≤ greatest + 1 → IsAmple settings.conflicts places greatest → AreEnds (IsLengthEnd settings theory places) k ends → AreEnds (IsWholeEnd settings theory) k ends
ample-whole settings theory places greatest k [] few ample are = tt
ample-whole settings theory places greatest k (end ∷ more) few ample are = (
  elim are.0 [
    | inl whole ↦ whole
    | inr cut ↦
        let enough = subst (λ (o : Option ℕ). IfSome o (λ budget. (n : ℕ) → n ≤ greatest → most_clauses places n ≤ budget)) cut.given ample k (omega (arith, few)) in
        let small = cut.small in
        absurd (omega (arith, enough, small))
  ],
  ample-whole settings theory places greatest (k + 1) more (omega (arith, few)) ample are.1,
)

-- ---- ranges

-- where none leaves the range there is no first one
pub none_first : (statements : List Statement) (symbols : List Term) (place : Place) → NoneLeavesRange statements symbols → IsFirstLeaving statements symbols place → ⊥
none_first statements symbols place none first = none first.statement (In-get statements first.number first.statement first.at) first.leaves

-- ---- programs that are read

-- what is known of the program of texts that aren't too long
pub texts_readable : (texts : List (List ℕ)) (program : Program) → total_bytes texts ≤ largest_text → IsProgram texts program → IsReadable program
texts_readable texts program small reads = is_readable texts program reads (omega (arith, small))
