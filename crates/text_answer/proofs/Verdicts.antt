-- Texts have one verdict, and a status that tells of them is the verdict's.
use Rattle.std.proofs.Common.{◌≡◌, ◌≢◌, ℕ, zero, suc, ◌*◌, ◌<◌, ◌≤◌, ◌⊎◌, max, inl, inr, Bool, true, false, cond, refl, List, [], ◌∷◌, length, map, Option, Some, None, sym, ◌∙◌, subst, nat_lt, arith}
use Rattle.std.specs.List.{list_any}
use Rattle.std.proofs.lemmas.Bool.{false≢true, cases_lt}
use Rattle.tel_base.specs.declared.places.Place.{Place}
use Rattle.tel_base.specs.Bytes.{Appends}
use Rattle.tel_base.specs.Counts.{Rose, Stands}
use Rattle.tel_base.proofs.Told.{stands-not-rose, front-of-nothing}
use Rattle.tel_term.specs.declared.terms.Value.{Value}
use Rattle.tel_rule.specs.declared.statements.Program.{Program}
use Rattle.tel_rule.specs.Ground.{Ground, IsGround}
use Rattle.tel_settings.specs.declared.fields.Settings.{Settings}
use Rattle.tel_settings.specs.Run.{Ending, is_unfinished, run_status}
use Rattle.part_syntax.specs.declared.fault.ReadFault.{ReadFault}
use Rattle.part_syntax.specs.declared.fault.ReadFault.TheVariants as faults
use Rattle.part_syntax.specs.Programs.{IsProgram, IsFirstFault, total_bytes}
use Rattle.part_syntax.proofs.Decided.{some_verdict as program_or_fault}
use Rattle.text_answer.specs.Delivery.{Delivers}
use Rattle.rule_constants.specs.Replaced.{IsReplaced}
use Rattle.rule_check.specs.declared.faults.CheckFault.{CheckFault}
use Rattle.rule_check.specs.declared.faults.CheckFault.TheVariants as causes
use Rattle.rule_check.specs.Causes.{IsSound, IsFirstCause}
use Rattle.rule_constants.proofs.OneReplaced.{one_replaced}
use Rattle.rule_check.proofs.OneCause.{one_cause, sound_none}
use Rattle.rule_check.proofs.SomeCause.{sound_or_cause}
use Rattle.fact_rows.specs.Limit.{HaveMoreRows}
use Rattle.range_faults.specs.Ranges.{NoneLeavesRange, IsFirstLeaving}
use Rattle.theory_lists.specs.Theories.{ProgramTheory}
use Rattle.program_theory.specs.Instances.{instance_count}
use Rattle.program_theory.specs.Theory.{IsTheoryOf, width_of}
use Rattle.program_theory.specs.Templates.{HasFewNots}
use Rattle.program_theory.specs.Ready.{IsReadable, IsReady}
use Rattle.program_theory.proofs.OneTheory.{theories-one}
use Rattle.program_theory.proofs.SomeInstances.{programs-instances}
use Rattle.program_theory.proofs.SomeTheory.{instances-theory}
use Rattle.instance_laws.proofs.Rows.{rows-instances, rows-decided}
use Rattle.instance_laws.proofs.Leaving.{some-none, first-one}
use Rattle.fact_instantiate.specs.declared.fault.GroundFault.TheVariants as grounding
use Rattle.fact_instantiate.specs.Instantiated.{most_places, template_width, IsInstantiated, IsGroundFault}
use Rattle.text_answer.specs.Runs.{ending_of, texts_from}
use Rattle.text_answer.specs.Running.{RunsTemplate}
use Rattle.text_answer.specs.Verdict.{largest_text, Verdict, Accepted, Refused, Faulty, Leaving, Large, SayChecked, SayLarge, IsVerdict, places_in, length_text, IsLengthEnd, HasOutcome, Completes, cause_line, large_line, range_line, fault_line, TellsOfText, ComesOfText, Answers}
use Rattle.text_answer.specs.Refusals.{DeliversFault, DeliversCause, DeliversProgram, DeliversRead}
use Rattle.checked_programs.proofs.Ready.{is_ready}
use Rattle.text_answer.proofs.Runs.{runs-map}
use Rattle.text_answer.proofs.Theories.{meant, same_width, same_run, some_run, ample-whole, none_first, texts_readable}

-- what holds of each status and all bytes holds of those of an outcome
outcome_all : (D : ℕ → List ℕ → Type 0) (settings : Settings) (verdict : Verdict) → ((status : ℕ) (bytes : List ℕ) → D status bytes) → HasOutcome D settings verdict
outcome_all D settings (Accepted theory width) all = some_run D settings theory width all
outcome_all D settings (Refused fault) all = all 65 (fault_line fault)
outcome_all D settings (Faulty cause) all = all 65 (cause_line cause)
outcome_all D settings (Leaving place) all = all 65 (range_line place)
outcome_all D settings Large all = all 69 large_line

outcome_map : (D E : ℕ → List ℕ → Type 0) (settings : Settings) (verdict : Verdict) → ((status : ℕ) (bytes : List ℕ) → D status bytes → E status bytes) → HasOutcome D settings verdict → HasOutcome E settings verdict
outcome_map D E settings (Accepted theory width) then has = runs-map (IsLengthEnd settings theory width) (length_text theory) settings D E then has
outcome_map D E settings (Refused fault) then has = then 65 (fault_line fault) has
outcome_map D E settings (Faulty cause) then has = then 65 (cause_line cause) has
outcome_map D E settings (Leaving place) then has = then 65 (range_line place) has
outcome_map D E settings Large then has = then 69 large_line has

-- what is delivered for a program is so for what the texts say it is
read-delivers : (D : ℕ → List ℕ → Type 0) (settings : Settings) (texts : List (List ℕ)) (program : Program) → ((other : Program) → IsProgram texts other → other ≡ program) → DeliversRead D settings program → (other : Program) → IsProgram texts other → DeliversRead D settings other
read-delivers D settings texts program only delivers other reads = subst (DeliversRead D settings) (sym (only other reads)) delivers

checked-delivers : (D : ℕ → List ℕ → Type 0) (settings : Settings) (texts : List (List ℕ)) (program : Program) → ((other : Program) → IsProgram texts other → other ≡ program) → DeliversRead D settings program → (checked : Program) → SayChecked texts checked → DeliversProgram D settings checked
checked-delivers D settings texts program only delivers checked says =
    (read-delivers D settings texts program only delivers says.source says.reads).checked says.sound checked says.replaced

-- what is delivered for texts that are a program, whatever their verdict is said to be
pub program-delivers : (D : ℕ → List ℕ → Type 0) (settings : Settings) (texts : List (List ℕ)) (program : Program) → total_bytes texts ≤ largest_text → ((other : Program) → IsProgram texts other → other ≡ program) → ((fault : ReadFault) → IsFirstFault texts fault → ⊥) → DeliversRead D settings program → (verdict : Verdict) → IsVerdict settings texts verdict → HasOutcome D settings verdict
program-delivers D settings texts program small only sound delivers (Accepted theory width) v =
    let says = v.1 in
    (checked-delivers D settings texts program only delivers says.program says.checked).accepted says.ranges says.live theory says.is width says.wide says.few
program-delivers D settings texts program small only sound delivers (Refused fault) v = absurd (sound fault v.1)
program-delivers D settings texts program small only sound delivers (Faulty cause) v =
    let says = v.1 in
    (read-delivers D settings texts program only delivers says.program says.reads).faulty cause says.first
program-delivers D settings texts program small only sound delivers (Leaving place) v =
    let says = v.1 in
    (checked-delivers D settings texts program only delivers says.program says.checked).leaving says.few place says.first
program-delivers D settings texts program small only sound delivers Large (inl long) = absurd (omega arith)
program-delivers D settings texts program small only sound delivers Large (inr v) =
    let says = v.1 in
    (checked-delivers D settings texts program only delivers says.program says.checked).large says.ranges says.live says.theory says.is says.many

-- the same for texts that are no program, whose first fault is this one
pub refused-delivers : (D : ℕ → List ℕ → Type 0) (settings : Settings) (texts : List (List ℕ)) (fault : ReadFault) → total_bytes texts ≤ largest_text → ((other : ReadFault) → IsFirstFault texts other → other ≡ fault) → ((program : Program) → IsProgram texts program → ⊥) → D 65 (fault_line fault) → (verdict : Verdict) → IsVerdict settings texts verdict → HasOutcome D settings verdict
refused-delivers D settings texts fault small first none delivered (Accepted theory width) v = let says = v.1 in absurd (none says.checked.source says.checked.reads)
refused-delivers D settings texts fault small first none delivered (Refused other) v =
    subst (λ (f : ReadFault). D 65 (fault_line f)) (sym (first other v.1)) delivered
refused-delivers D settings texts fault small first none delivered (Faulty cause) v = let says = v.1 in absurd (none says.program says.reads)
refused-delivers D settings texts fault small first none delivered (Leaving place) v = let says = v.1 in absurd (none says.checked.source says.checked.reads)
refused-delivers D settings texts fault small first none delivered Large (inl long) = absurd (omega arith)
refused-delivers D settings texts fault small first none delivered Large (inr v) = let says = v.1 in absurd (none says.checked.source says.checked.reads)

-- and for texts that are too long
pub long-delivers : (D : ℕ → List ℕ → Type 0) (settings : Settings) (texts : List (List ℕ)) → largest_text < total_bytes texts → D 69 large_line → (verdict : Verdict) → IsVerdict settings texts verdict → HasOutcome D settings verdict
long-delivers D settings texts long delivered (Accepted theory width) v = absurd (omega (arith, v.0))
long-delivers D settings texts long delivered (Refused fault) v = absurd (omega (arith, v.0))
long-delivers D settings texts long delivered (Faulty cause) v = absurd (omega (arith, v.0))
long-delivers D settings texts long delivered (Leaving place) v = absurd (omega (arith, v.0))
long-delivers D settings texts long delivered Large v = delivered

-- what the reader says of a fault that isn't want of memory
pub record IsFaultOf (texts : List (List ℕ)) (fault : ReadFault) : Type 0 where
  pub is : IsFirstFault texts fault
  pub first : (other : ReadFault) → IsFirstFault texts other → other ≡ fault
  pub none : (program : Program) → IsProgram texts program → ⊥

-- nothing was printed, for want of memory
pub memory-delivers : (settings : Settings) (verdict : Verdict) (code : ℕ) (old new : Option (List ℕ)) → code ≡ 71 → new ≡ old → HasOutcome (λ status bytes. Delivers code status bytes old new) settings verdict
memory-delivers settings verdict code old new is same = outcome_all (λ status bytes. Delivers code status bytes old new) settings verdict (λ status bytes. inr (inl is, front-of-nothing old new bytes same))

named-delivers : (settings : Settings) (texts : List (List ℕ)) (fault : ReadFault) (code : ℕ) (old new : Option (List ℕ)) → total_bytes texts ≤ largest_text → IsFaultOf texts fault → Delivers code 65 (fault_line fault) old new → (verdict : Verdict) → IsVerdict settings texts verdict → HasOutcome (λ status bytes. Delivers code status bytes old new) settings verdict
named-delivers settings texts fault code old new small is delivered =
    refused-delivers (λ status bytes. Delivers code status bytes old new) settings texts fault small is.first is.none delivered

-- texts with a fault have it for their verdict, unless memory runs out
pub fault-delivers : (settings : Settings) (texts : List (List ℕ)) (fault : ReadFault) (code : ℕ) (old new : Option (List ℕ)) → total_bytes texts ≤ largest_text → (fault ≢ faults.Memory → IsFaultOf texts fault) → DeliversFault fault code old new → (verdict : Verdict) → IsVerdict settings texts verdict → HasOutcome (λ status bytes. Delivers code status bytes old new) settings verdict
fault-delivers settings texts faults.Memory code old new small of delivered = λ verdict v. memory-delivers settings verdict code old new delivered.0 delivered.1
fault-delivers settings texts (faults.BadByte place) code old new small of delivered = named-delivers settings texts (faults.BadByte place) code old new small (of (λ e. cc)) delivered
fault-delivers settings texts (faults.NumberRange place) code old new small of delivered = named-delivers settings texts (faults.NumberRange place) code old new small (of (λ e. cc)) delivered
fault-delivers settings texts (faults.TooDeep place) code old new small of delivered = named-delivers settings texts (faults.TooDeep place) code old new small (of (λ e. cc)) delivered
fault-delivers settings texts (faults.Syntax place) code old new small of delivered = named-delivers settings texts (faults.Syntax place) code old new small (of (λ e. cc)) delivered

not_cut : (code : ℕ) → (code ≡ 71) ⊎ (code ≡ 74) → TellsOfText code → ⊥
not_cut code (inl e) tells = false≢true (subst TellsOfText e tells)
not_cut code (inr e) tells = false≢true (subst TellsOfText e tells)

-- a status that tells of the texts is that of their verdict
pub delivered-answers : (settings : Settings) (texts : List (List ℕ)) (verdict : Verdict) (code : ℕ) (old new : Option (List ℕ)) → IsVerdict settings texts verdict → HasOutcome (λ status bytes. Delivers code status bytes old new) settings verdict → TellsOfText code → Answers settings texts code old new
delivered-answers settings texts verdict code old new is has tells =
    (verdict, is, outcome_map (λ status bytes. Delivers code status bytes old new) (λ status bytes. (code ≡ status) × Appends old new bytes) settings verdict (λ status bytes delivered. whole status bytes delivered) has)
  where
    whole : (status : ℕ) (bytes : List ℕ) → Delivers code status bytes old new → (code ≡ status) × Appends old new bytes
    whole status bytes (inl done) = done
    whole status bytes (inr cut) = absurd (not_cut code cut.0 tells)

-- ---- verdicts of programs

-- there are more places than so many where there are more instances
many_places : (settings : Settings) (program : Program) (live : List (List (List Value))) (theory : ProgramTheory) → most_places < instance_count live → most_places < places_in settings (width_of program live theory)
many_places settings program live theory more = above settings.imax (width_of program live theory) (omega (arith, more))
  where
    above : (imax width : ℕ) → most_places < width → most_places < max imax 1 * width
    above imax width below = at_least (max imax 1) width (omega arith) below
      where
        at_least : (times width : ℕ) → 1 ≤ times → most_places < width → most_places < times * width
        at_least zero width one below = absurd (omega (arith, one))
        at_least (suc more) width one below = omega (arith, below)

-- the verdict of a program in which no cause stands, and what is delivered for it
placed_has : (D : ℕ → List ℕ → Type 0) (settings : Settings) (texts : List (List ℕ)) (program : Program) → total_bytes texts ≤ largest_text → SayChecked texts program → DeliversProgram D settings program → NoneLeavesRange program.statements program.symbols → (live : List (List (List Value))) (theory : ProgramTheory) → IsTheoryOf program live theory → (verdict : Verdict) × IsVerdict settings texts verdict × HasOutcome D settings verdict
placed_has D settings texts program small says delivers none live theory is = elim (cases_lt most_places (places_in settings (width_of program live theory))) [
  | inl many ↦ (Large, inr (small, record { program = program; checked = says; ranges = inr none; live = live; theory = theory; is = is; many = many }), delivers.large (inr none) live theory is many)
  | inr few ↦ (Accepted theory (width_of program live theory), (small, record { program = program; checked = says; ranges = none; live = live; is = is; wide = refl; few = few }), delivers.accepted none live theory is (width_of program live theory) refl few)
]

checked_has : (D : ℕ → List ℕ → Type 0) (settings : Settings) (texts : List (List ℕ)) (program : Program) → IsReady program → total_bytes texts ≤ largest_text → SayChecked texts program → DeliversProgram D settings program → (verdict : Verdict) × IsVerdict settings texts verdict × HasOutcome D settings verdict
checked_has D settings texts program ready small says delivers =
    let live = programs-instances program ready.table in
    let theory = instances-theory program live.0 live.1 in
    elim (rows-decided program.statements most_places) [
      | inl more ↦
          let many = many_places settings program live.0 theory.0 (rows-instances program most_places live.0 more live.1) in
          (Large, inr (small, record { program = program; checked = says; ranges = inl more; live = live.0; theory = theory.0; is = theory.1; many = many }), delivers.large (inl more) live.0 theory.0 theory.1 many)
      | inr few ↦ elim (some-none program) [
        | inl none ↦ placed_has D settings texts program small says delivers none live.0 theory.0 theory.1
        | inr some ↦ (Leaving some.0, (small, record { program = program; checked = says; few = few; first = some.1 }), delivers.leaving few some.0 some.1)
      ]
    ]

-- and of one that was read
program_has : (D : ℕ → List ℕ → Type 0) (settings : Settings) (texts : List (List ℕ)) (program : Program) → IsReadable program → total_bytes texts ≤ largest_text → IsProgram texts program → DeliversRead D settings program → (verdict : Verdict) × IsVerdict settings texts verdict × HasOutcome D settings verdict
program_has D settings texts program read small reads delivers =
    elim (sound_or_cause program) [
      | inl s ↦ checked_has D settings texts s.1.0 (is_ready program s.1.0 read s.0 s.1.1) small (record { source = program; reads = reads; sound = s.0; replaced = s.1.1 }) (delivers.checked s.0 s.1.0 s.1.1)
      | inr c ↦ (Faulty c.0, (small, record { program = program; reads = reads; first = c.1 }), delivers.faulty c.0 c.1)
    ]

pub program-answers : (settings : Settings) (texts : List (List ℕ)) (program : Program) (code : ℕ) (old new : Option (List ℕ)) → IsReadable program → total_bytes texts ≤ largest_text → IsProgram texts program → DeliversRead (λ status bytes. Delivers code status bytes old new) settings program → TellsOfText code → Answers settings texts code old new
program-answers settings texts program code old new read small reads delivers tells =
    let has = program_has (λ status bytes. Delivers code status bytes old new) settings texts program read small reads delivers in
    delivered-answers settings texts has.0 code old new has.1 has.2 tells

-- the same of texts with a fault
pub fault-answers : (settings : Settings) (texts : List (List ℕ)) (fault : ReadFault) (code : ℕ) (old new : Option (List ℕ)) → total_bytes texts ≤ largest_text → (fault ≢ faults.Memory → IsFaultOf texts fault) → DeliversFault fault code old new → TellsOfText code → Answers settings texts code old new
fault-answers settings texts faults.Memory code old new small of delivered tells = absurd (not_cut code (inl delivered.0) tells)
fault-answers settings texts (faults.BadByte place) code old new small of delivered tells = delivered-answers settings texts (Refused (faults.BadByte place)) code old new (small, (of (λ e. cc)).is) delivered tells
fault-answers settings texts (faults.NumberRange place) code old new small of delivered tells = delivered-answers settings texts (Refused (faults.NumberRange place)) code old new (small, (of (λ e. cc)).is) delivered tells
fault-answers settings texts (faults.TooDeep place) code old new small of delivered tells = delivered-answers settings texts (Refused (faults.TooDeep place)) code old new (small, (of (λ e. cc)).is) delivered tells
fault-answers settings texts (faults.Syntax place) code old new small of delivered tells = delivered-answers settings texts (Refused (faults.Syntax place)) code old new (small, (of (λ e. cc)).is) delivered tells

-- a run ends with 10, 20 or 30
run_kind : (P : ℕ → Type 0) (found cut : Bool) → P 10 → P 20 → P 30 → P (cond found 10 (cond cut 30 20))
run_kind P true cut ten twenty thirty = ten
run_kind P false true ten twenty thirty = thirty
run_kind P false false ten twenty thirty = twenty

kind_of : (status : ℕ) (bytes : List ℕ) (code : ℕ) (old new : Option (List ℕ)) → ComesOfText status → Delivers code status bytes old new → ComesOfText code
kind_of status bytes code old new kind (inl whole) = subst ComesOfText (sym whole.0) kind
kind_of status bytes code old new kind (inr cut) = cut_kind code cut.0
  where
    cut_kind : (code : ℕ) → (code ≡ 71) ⊎ (code ≡ 74) → ComesOfText code
    cut_kind code (inl e) = subst ComesOfText (sym e) refl
    cut_kind code (inr e) = subst ComesOfText (sym e) refl

pub delivered-kind : (settings : Settings) (verdict : Verdict) (code : ℕ) (old new : Option (List ℕ)) → HasOutcome (λ status bytes. Delivers code status bytes old new) settings verdict → ComesOfText code
delivered-kind settings (Accepted theory width) code old new runs =
    let endings = map ending_of runs.ends in
    kind_of (run_status endings) (texts_from (length_text theory) 1 runs.ends) code old new
    (run_kind ComesOfText (list_any (λ (e : Ending). nat_lt 0 e.traces) endings) (list_any (λ (e : Ending). is_unfinished e.how) endings) refl refl refl) runs.delivered
delivered-kind settings (Refused fault) code old new delivered = kind_of 65 (fault_line fault) code old new refl delivered
delivered-kind settings (Faulty cause) code old new delivered = kind_of 65 (cause_line cause) code old new refl delivered
delivered-kind settings (Leaving place) code old new delivered = kind_of 65 (range_line place) code old new refl delivered
delivered-kind settings Large code old new delivered = kind_of 69 large_line code old new refl delivered

pub program-kind : (settings : Settings) (texts : List (List ℕ)) (program : Program) (code : ℕ) (old new : Option (List ℕ)) → IsReadable program → total_bytes texts ≤ largest_text → IsProgram texts program → DeliversRead (λ status bytes. Delivers code status bytes old new) settings program → ComesOfText code
program-kind settings texts program code old new read small reads delivers =
    let has = program_has (λ status bytes. Delivers code status bytes old new) settings texts program read small reads delivers in
    delivered-kind settings has.0 code old new has.2

pub fault-kind : (settings : Settings) (fault : ReadFault) (code : ℕ) (old new : Option (List ℕ)) → DeliversFault fault code old new → ComesOfText code
fault-kind settings faults.Memory code old new delivered = delivered-kind settings Large code old new (memory-delivers settings Large code old new delivered.0 delivered.1)
fault-kind settings (faults.BadByte place) code old new delivered = delivered-kind settings (Refused (faults.BadByte place)) code old new delivered
fault-kind settings (faults.NumberRange place) code old new delivered = delivered-kind settings (Refused (faults.NumberRange place)) code old new delivered
fault-kind settings (faults.TooDeep place) code old new delivered = delivered-kind settings (Refused (faults.TooDeep place)) code old new delivered
fault-kind settings (faults.Syntax place) code old new delivered = delivered-kind settings (Refused (faults.Syntax place)) code old new delivered

pub kind-not_read : (code : ℕ) → ComesOfText code → code ≡ 66 → ⊥
kind-not_read code kind e = false≢true (subst ComesOfText e kind)

pub kind-not_usage : (code : ℕ) → ComesOfText code → code ≡ 64 → ⊥
kind-not_usage code kind e = false≢true (subst ComesOfText e kind)

-- accepted texts are answered by a run, whose lengths are whole where the budget is ample, where no write failed and there was memory
pub accepted-complete : (settings : Settings) (theory : ProgramTheory) (width code : ℕ) (old new : Option (List ℕ)) (before now : ℕ) → HasOutcome (λ status bytes. Delivers code status bytes old new) settings (Accepted theory width) → (code ≡ 74 → Rose before now) → Stands before now → (code ≡ 71) ⊎ Completes settings theory width code old new
accepted-complete settings theory width code old new before now runs rose stands = elim runs.delivered [
  | inl whole ↦ inr (record {
    ends = runs.ends;
    is = runs.is;
    status_is = whole.0;
    printed = whole.1;
    whole = λ ample. ample-whole settings theory width (length runs.ends) 1 runs.ends (omega arith) ample runs.is.are;
  })
  | inr cut ↦ elim cut.0 [
    | inl e ↦ inl e
    | inr e ↦ absurd (stands-not-rose before now stands (rose e))
  ]
]

-- ---- some verdict

unit_program : (settings : Settings) (program : Program) → DeliversProgram (λ status bytes. Unit {0}) settings program
unit_program settings program = record { accepted = λ _ _ theory _ width _ _. some_run (λ status bytes. Unit {0}) settings theory width (λ _ _. tt); leaving = λ _ _ _. tt; large = λ _ _ _ _ _. tt }

unit_read : (settings : Settings) (program : Program) → DeliversRead (λ status bytes. Unit {0}) settings program
unit_read settings program = record { checked = λ _ replaced _. unit_program settings replaced; faulty = λ _ _. tt }

-- texts have a verdict
pub some_verdict : (settings : Settings) (texts : List (List ℕ)) → (verdict : Verdict) × IsVerdict settings texts verdict
some_verdict settings texts = elim (cases_lt largest_text (total_bytes texts)) [
  | inl long ↦ (Large, inl long)
  | inr small ↦ elim (program_or_fault texts) [
    | inl p ↦ let has = program_has (λ status bytes. Unit {0}) settings texts p.0 (texts_readable texts p.0 small p.1) small p.1 (unit_read settings p.0) in (has.0, has.1)
    | inr f ↦ (Refused f.0, (small, f.1))
  ]
]

-- ---- what instantiating a program answers

-- nothing was printed, for want of memory
pub cut_program : (code : ℕ) (old new : Option (List ℕ)) (settings : Settings) (program : Program) → code ≡ 71 → new ≡ old → DeliversProgram (λ status bytes. Delivers code status bytes old new) settings program
cut_program code old new settings program is same = record {
  accepted = λ _ live theory _ width _ _. some_run (λ status bytes. Delivers code status bytes old new) settings theory width (λ status bytes. inr (inl is, front-of-nothing old new bytes same));
  leaving = λ _ place _. inr (inl is, front-of-nothing old new _ same);
  large = λ _ live theory _ _. inr (inl is, front-of-nothing old new _ same);
}

-- a program with a template is answered by its run
pub template-delivers : (D : ℕ → List ℕ → Type 0) (settings : Settings) (program : Program) (template : Ground) → HasFewNots program → IsGround template → IsInstantiated program (max settings.imax 1) template → RunsTemplate settings template D → DeliversProgram D settings program
template-delivers D settings program template nots ground made runs = record {
  accepted = λ none live theory is width wide few.
      same_run D settings template theory width ground (meant program (max settings.imax 1) template live theory nots ground made is) (same_width program (max settings.imax 1) template live theory nots ground made is ∙ sym wide) runs;
  leaving = λ few place first. absurd (none_first program.statements program.symbols place made.ranges first);
  large = λ ranges live theory is many.
      let width = same_width program (max settings.imax 1) template live theory nots ground made is in
      absurd (not_both (places_in settings (width_of program live theory)) (subst (λ (n : ℕ). places_in settings n ≤ most_places) width made.few) many);
}
  where
    not_both : (places : ℕ) → places ≤ most_places → most_places < places → ⊥
    not_both places few many = omega (arith, few, many)

-- one with a statement that leaves the range is answered by that
pub range-delivers : (D : ℕ → List ℕ → Type 0) (settings : Settings) (program : Program) (greatest : ℕ) (place : Place) → IsGroundFault program greatest (grounding.Range place) → D 65 (range_line place) → DeliversProgram D settings program
range-delivers D settings program greatest place fault delivered = record {
  accepted = λ none live theory is width wide few. absurd (none_first program.statements program.symbols place none fault.1);
  leaving = λ few other first. subst (λ (p : Place). D 65 (range_line p)) (first-one program.statements program.symbols place other fault.1 first) delivered;
  large = λ ranges live theory is many. absurd (elim ranges [
    | inl more ↦ fault.0 more
    | inr none ↦ none_first program.statements program.symbols place none fault.1
  ]);
}

-- and one with too many places by that
pub large-delivers : (D : ℕ → List ℕ → Type 0) (settings : Settings) (program : Program) → IsGroundFault program (max settings.imax 1) grounding.Large → D 69 large_line → DeliversProgram D settings program
large-delivers D settings program fault delivered = record {
  accepted = λ none live theory is width wide few. absurd (not_both (places_in settings (width_of program live theory)) (subst (λ (w : ℕ). places_in settings w ≤ most_places) wide few) (fault.1 live theory is));
  leaving = λ few place first. absurd (elim fault.0 [
    | inl more ↦ few more
    | inr none ↦ none_first program.statements program.symbols place none first
  ]);
  large = λ ranges live theory is many. delivered;
}
  where
    not_both : (places : ℕ) → places ≤ most_places → most_places < places → ⊥
    not_both places few many = omega (arith, few, many)

-- ---- what a check answers

-- a program that passes is answered as what it is with its constants replaced
pub passed-delivers : (D : ℕ → List ℕ → Type 0) (settings : Settings) (program checked : Program) → IsSound program → IsReplaced program checked → DeliversProgram D settings checked → DeliversRead D settings program
passed-delivers D settings program checked sound replaced delivers = record {
  checked = λ _ other says. subst (DeliversProgram D settings) (one_replaced program checked other replaced says) delivers;
  faulty = λ cause first. absurd (sound_none program cause sound first);
}

first_delivers : (settings : Settings) (program : Program) (cause : CheckFault) (code : ℕ) (old new : Option (List ℕ)) → IsFirstCause program cause → Delivers code 65 (cause_line cause) old new → DeliversRead (λ status bytes. Delivers code status bytes old new) settings program
first_delivers settings program cause code old new is delivered = record {
  checked = λ sound other says. absurd (sound_none program cause sound is);
  faulty = λ other first. subst (λ (c : CheckFault). Delivers code 65 (cause_line c) old new) (one_cause program cause other is first) delivered;
}

-- and one that doesn't is answered by its first cause, unless memory runs out
pub cause-delivers : (settings : Settings) (program : Program) (cause : CheckFault) (code : ℕ) (old new : Option (List ℕ)) → (cause ≢ causes.Memory → IsFirstCause program cause) → DeliversCause cause code old new → DeliversRead (λ status bytes. Delivers code status bytes old new) settings program
cause-delivers settings program causes.Memory code old new of delivered = record {
  checked = λ sound other says. cut_program code old new settings other delivered.0 delivered.1;
  faulty = λ other first. inr (inl delivered.0, front-of-nothing old new _ delivered.1);
}
cause-delivers settings program (causes.Unbound place name) code old new of delivered = first_delivers settings program (causes.Unbound place name) code old new (of (λ e. cc)) delivered
cause-delivers settings program (causes.Arrow place) code old new of delivered = first_delivers settings program (causes.Arrow place) code old new (of (λ e. cc)) delivered
cause-delivers settings program (causes.Prime place) code old new of delivered = first_delivers settings program (causes.Prime place) code old new (of (λ e. cc)) delivered
cause-delivers settings program (causes.Const place name) code old new of delivered = first_delivers settings program (causes.Const place name) code old new (of (λ e. cc)) delivered
