-- Things that open a level beside things that open none: with no level left, and with one more.
use Rattle.std.proofs.Common.{◌≡◌, Bool, true, false, List, [], ◌∷◌, refl, ◌∙◌, inl, ◌||◌}
use Rattle.grammar_laws.specs.Points.{at, begins}
use Rattle.grammar_laws.specs.Shapes.{Grammar, Either}
use Rattle.grammar_laws.specs.Steps.{Unexpected, Stuck, Reader, either, too_deep, or_also}
use Rattle.grammar_laws.proofs.Readers.{either-got, too_deep-got, flat-reads, wider-starts, wider-more}
use Rattle.grammar_laws.proofs.Absent.{not-first, not-second}
use Rattle.grammar_laws.proofs.Levels.{flat-raises}
use Rattle.grammar_laws.proofs.Steady.{flat-steady, flat-takes, either-steady, either-takes}
use Rattle.grammar_laws.proofs.Lifting.{Lifts, Apart}
use Rattle.grammar_laws.proofs.ReadBy.{Read_by, either-read}
use Rattle.grammar_laws.proofs.Steadies.{Keeps}

or-left : (a b : Bool) → a ≡ true → (a || b) ≡ true
or-left a b is = rw is refl

module _ {Word Known A : Type 0} (F : Grammar Word Known A) (read : Reader Word Known A) (starts more opens wide : Word → Bool) (r : Read_by F read starts more) where
  -- no level may be opened
  pub shut-read : ((w : Word) → more w ≡ true → wide w ≡ true) → Read_by F (either starts read (too_deep opens)) (or_also starts opens) wide
  shut-read wider = record {
    reads = wider-more F (either starts read (too_deep opens)) more wide (flat-reads F read more starts opens r.reads r.begun) wider;
    begun = wider-starts F starts (or_also starts opens) r.begun (λ w is. or-left (starts w) (opens w) is);
  }

  pub shut-keeps : Keeps false read starts → Keeps false (either starts read (too_deep opens)) (or_also starts opens)
  shut-keeps s = (flat-steady read starts opens s.0, flat-takes read starts opens s.1)

  -- one may be opened
  module _ (G : Grammar Word Known A) (deep : Reader Word Known A) (more_deep : Word → Bool) (d : Read_by G deep opens more_deep) where
    pub nest-read : Apart opens starts → ((w : Word) → or_also more more_deep w ≡ true → wide w ≡ true) → Read_by (Either F G) (either starts read deep) (or_also starts opens) wide
    nest-read apart wider =
        let e = either-read F G read deep starts more opens more_deep r d apart in
        record { reads = wider-more (Either F G) (either starts read deep) (or_also more more_deep) wide e.reads wider; begun = e.begun }

    pub nest-keeps : Keeps false read starts → Keeps false deep opens → Keeps false (either starts read deep) (or_also starts opens)
    nest-keeps s t = (either-steady F G read deep more more_deep starts opens r.reads d.reads r.begun d.begun s.0 t.0, either-takes read deep starts opens s.1 t.1)

-- one more than none
pub nest-lifts : {Word Known A : Type 0} (F F' G : Grammar Word Known A) (read read' deep : Reader Word Known A) (starts opens : Word → Bool) → Lifts F F' read read' → ((known : Known) (words : List Word) → begins opens words ≡ false → deep (at known words) ≡ Stuck Unexpected words) → ((known : Known) (word : Word) → opens word ≡ true → deep (at known (word ∷ [])) ≡ Stuck Unexpected []) → Lifts F (Either F' G) (either starts read (too_deep opens)) (either starts read' deep)
nest-lifts F F' G read read' deep starts opens l absent alone = record {
  raises = flat-raises starts opens read read' deep l.raises absent alone;
  wider = λ from thing to reads. inl (l.wider from thing to reads);
}

-- with no level left nothing is read where neither begins
pub shut-absent : {Word Known A : Type 0} (read : Reader Word Known A) (starts opens : Word → Bool) (known : Known) (words : List Word) → begins (or_also starts opens) words ≡ false → either starts read (too_deep opens) (at known words) ≡ Stuck Unexpected words
shut-absent {A = A} read starts opens known words is =
    either-got starts read (too_deep opens) (at known words) false (not-first starts opens words is)
    ∙ too_deep-got {A = A} opens (at known words) false (not-second starts opens words is)

pub nest-absent : {Word Known A : Type 0} (read deep : Reader Word Known A) (starts opens : Word → Bool) (known : Known) (words : List Word) → (begins opens words ≡ false → deep (at known words) ≡ Stuck Unexpected words) → begins (or_also starts opens) words ≡ false → either starts read deep (at known words) ≡ Stuck Unexpected words
nest-absent read deep starts opens known words none is =
    either-got starts read deep (at known words) false (not-first starts opens words is) ∙ none (not-second starts opens words is)
