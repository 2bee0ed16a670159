-- A length of a template within a run.
use Rattle.std.proofs.Common.{◌≡◌, ℕ, ◌+◌, ◌<◌, Bool, List, Option, Result, Ok, Err, ◌⊎◌, inl, inr, refl, subst, ◌∙◌}
use Rattle.tel_base.specs.Bytes.{Appends, AppendsFront}
use Rattle.tel_base.specs.Counts.{Rose}
use Rattle.tel_base.proofs.Told.{front-of-nothing}
use Rattle.tel_rule.specs.Ground.{Ground}
use Rattle.tel_semantics.specs.Equilibrium.{list_of}
use Rattle.tel_settings.specs.declared.fields.Settings.{Settings}
use Rattle.tel_engine.specs.declared.ends.LengthEnd.{LengthEnd}
use Rattle.tel_engine.specs.Ends.{End, whole_end}
use Rattle.tel_engine.specs.Lists.{PrintsFront, text_of}
use Rattle.trace_print.proofs.Writing.{fault_at}
use Rattle.text_answer.specs.declared.running.RunFault.{RunFault}
use Rattle.text_answer.specs.declared.running.RunFault.TheVariants.{Write, Memory}
use Rattle.text_answer.specs.declared.status.Status.{Status}
use Rattle.text_answer.specs.Delivery.{code_of, Delivers}
use Rattle.text_answer.specs.Running.{IsTemplateEnd, RunsTemplate, PrintsLength, PrintsRun}
use Rattle.text_answer.proofs.Runs.{IsRunning, short_within, runs-map}

-- each length has an end
pub template_end : (settings : Settings) (template : Ground) (n : ℕ) → (end : End) × IsTemplateEnd settings template n end
template_end settings template n = (whole_end (list_of template n) settings.models, inl refl)

-- nothing of a length is printed
pub nothing_printed : (settings : Settings) (template : Ground) (n : ℕ) (old : Option (List ℕ)) (before : ℕ) → PrintsLength settings template n (Err Memory) old old before before
unfolding template_end
nothing_printed settings template n old before = (
  record {
    end = (template_end settings template n).0;
    is_end = inl refl;
    printed = front-of-nothing old old (text_of template n (template_end settings template n).0) refl;
  },
  refl,
)

-- what is printed of an engine's template and next length
pub length_at : (settings : Settings) (template engine : Ground) (n length : ℕ) (result : Result LengthEnd RunFault) (old new : Option (List ℕ)) (before now : ℕ) → engine ≡ template → length ≡ n → PrintsLength settings engine (length + 1) result old new before now → PrintsLength settings template (n + 1) result old new before now
length_at settings template engine n length result old new before now same at prints =
    subst (λ (k : ℕ). PrintsLength settings template (k + 1) result old new before now) at
    (subst (λ (g : Ground). PrintsLength settings g (length + 1) result old new before now) same prints)

-- a run is cut short within its next length
pub run_cut : (settings : Settings) (template : Ground) (n : ℕ) (found cut : Bool) (old mid new : Option (List ℕ)) (before between now : ℕ) → IsRunning (IsTemplateEnd settings template) (text_of template) settings n found cut old mid before between → (fault : RunFault) → n < settings.imax → PrintsLength settings template (n + 1) (fault_at LengthEnd fault) mid new between now → PrintsRun settings template (fault_at Status fault) old new before now
run_cut settings template n found cut old mid new before between now state Write below prints =
    (short_within (IsTemplateEnd settings template) (text_of template) settings n found cut old mid before between state (template_end settings template) prints.0.end below prints.0.is_end new prints.0.printed, subst (λ (k : ℕ). Rose k now) state.stands prints.1)
run_cut settings template n found cut old mid new before between now state Memory below prints =
    (short_within (IsTemplateEnd settings template) (text_of template) settings n found cut old mid before between state (template_end settings template) prints.0.end below prints.0.is_end new prints.0.printed, prints.1 ∙ state.stands)

-- what is delivered of a run
pub run_delivers : (settings : Settings) (template : Ground) (status : Status) (old new : Option (List ℕ)) → RunsTemplate settings template (λ code bytes. (code_of status ≡ code) × Appends old new bytes) → RunsTemplate settings template (λ code bytes. Delivers (code_of status) code bytes old new)
run_delivers settings template status old new = runs-map (IsTemplateEnd settings template) (text_of template) settings (λ code bytes. (code_of status ≡ code) × Appends old new bytes) (λ code bytes. Delivers (code_of status) code bytes old new) (λ code bytes whole. inl whole)

cut_delivers : (settings : Settings) (template : Ground) (status : ℕ) (old new : Option (List ℕ)) → (status ≡ 71) ⊎ (status ≡ 74) → RunsTemplate settings template (λ code bytes. AppendsFront old new bytes) → RunsTemplate settings template (λ code bytes. Delivers status code bytes old new)
cut_delivers settings template status old new cut = runs-map (IsTemplateEnd settings template) (text_of template) settings (λ code bytes. AppendsFront old new bytes) (λ code bytes. Delivers status code bytes old new) (λ code bytes front. inr (cut, front))

pub write_delivers : (settings : Settings) (template : Ground) (fault : RunFault) (old new : Option (List ℕ)) (before now : ℕ) → fault ≡ Write → PrintsRun settings template (fault_at Status fault) old new before now → RunsTemplate settings template (λ code bytes. Delivers 74 code bytes old new)
write_delivers settings template fault old new before now is prints =
    let at : PrintsRun settings template (fault_at Status Write) old new before now = subst (λ (f : RunFault). PrintsRun settings template (fault_at Status f) old new before now) is prints in
    cut_delivers settings template 74 old new (inr refl) at.0

pub memory_delivers : (settings : Settings) (template : Ground) (fault : RunFault) (old new : Option (List ℕ)) (before now : ℕ) → fault ≡ Memory → PrintsRun settings template (fault_at Status fault) old new before now → RunsTemplate settings template (λ code bytes. Delivers 71 code bytes old new)
memory_delivers settings template fault old new before now is prints =
    let at : PrintsRun settings template (fault_at Status Memory) old new before now = subst (λ (f : RunFault). PrintsRun settings template (fault_at Status f) old new before now) is prints in
    cut_delivers settings template 71 old new (inl refl) at.0
