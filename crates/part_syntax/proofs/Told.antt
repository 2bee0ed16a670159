-- The statements of a text that were read, and those that are read from there on.
use Rattle.std.proofs.Common.{◌≡◌, ℕ, suc, Bool, true, false, List, ◌∷◌, ◌++◌, refl, sym, ap, ◌∙◌, append_assoc}
use Rattle.std.specs.Prelude.{◌≢◌}
use Rattle.std.proofs.lemmas.List.{append-nil}
use Rattle.tel_rule.specs.declared.parts.Part.{Part}
use Rattle.tel_rule.specs.declared.statements.Statement.{Statement}
use Rattle.formula_syntax.specs.Points.{Word, Point, Read, Reader}
use Rattle.grammar_laws.specs.Points.{begins}
use Rattle.grammar_laws.specs.Steps.{Got, Stuck, and_then, map_read, at_most}
use Rattle.formula_syntax.specs.declared.reading.Stop.{Stop}
use Rattle.formula_syntax.specs.declared.reading.Stop.TheVariants as stops
use Rattle.formula_syntax.specs.Given.{why_of}
use Rattle.grammar_laws.proofs.Readers.{at_most-more, at_most-end}
use Rattle.part_syntax.specs.Grammar.{Stated, part_behind, said_in, statements_in}

-- the statements so far, and behind them those of the items, from this part on
abbrev pub told : List Statement → Part → Read (List Stated) → Read (List Statement)
told done part out = map_read (λ stated. done ++ statements_in part stated) out

told_one : (done : List Statement) (part : Part) (stated : Stated) (out : Read (List Stated)) →
    told done part (map_read (λ (more : List Stated). stated ∷ more) out) ≡ told (done ++ said_in part stated stated.item) (part_behind part stated.item) out
told_one done part stated (Got more to) = ap (λ (xs : List Statement). Got xs to) (sym (append_assoc done (said_in part stated stated.item) (statements_in (part_behind part stated.item) more)))
told_one done part stated (Stuck why rest) = refl

module _ (test : Word → Bool) (step : Reader Stated) where
  abbrev pub turns : ℕ → Reader (List Stated)
  turns most = at_most most test step

  told_turn : (whole : Read (List Statement)) (done : List Statement) (part : Part) (from : Point) (left n : ℕ) → whole ≡ told done part (turns left from) → left ≡ suc n → begins test from.words ≡ true →
      whole ≡ told done part (and_then (step from) (λ (stated : Stated) (to : Point). map_read (λ (more : List Stated). stated ∷ more) (turns n to)))
  told_turn whole done part from left n is next begun =
      is ∙ ap (λ (k : ℕ). told done part (turns k from)) next ∙ ap (told done part) (at_most-more n test step from begun)

  pub told_more : (whole : Read (List Statement)) (done later : List Statement) (part new : Part) (from to : Point) (stated : Stated) (left n : ℕ) → whole ≡ told done part (turns left from) → left ≡ suc n → begins test from.words ≡ true →
      step from ≡ Got stated to → later ≡ done ++ said_in part stated stated.item → new ≡ part_behind part stated.item → whole ≡ told later new (turns n to)
  told_more whole done later part new from to stated left n is next begun one kept behind =
      told_turn whole done part from left n is next begun
      ∙ ap (λ (x : Read Stated). told done part (and_then x (λ (stated : Stated) (to : Point). map_read (λ (more : List Stated). stated ∷ more) (turns n to)))) one
      ∙ told_one done part stated (turns n to)
      ∙ ap (λ (xs : List Statement). told xs (part_behind part stated.item) (turns n to)) (sym kept)
      ∙ ap (λ (p : Part). told later p (turns n to)) (sym behind)

  pub told_stop : (whole : Read (List Statement)) (done : List Statement) (part : Part) (from to : Point) (stop : Stop) (left n : ℕ) → whole ≡ told done part (turns left from) → left ≡ suc n → begins test from.words ≡ true →
      (stop ≢ stops.Memory → step from ≡ Stuck (why_of stop) to.words) → stop ≢ stops.Memory → whole ≡ Stuck (why_of stop) to.words
  told_stop whole done part from to stop left n is next begun one other =
      told_turn whole done part from left n is next begun
      ∙ ap (λ (x : Read Stated). told done part (and_then x (λ (stated : Stated) (to : Point). map_read (λ (more : List Stated). stated ∷ more) (turns n to)))) (one other)

  pub told_end : (whole : Read (List Statement)) (done : List Statement) (part : Part) (from : Point) (left : ℕ) → whole ≡ told done part (turns left from) → begins test from.words ≡ false → whole ≡ Got done from
  told_end whole done part from left is ends =
      is ∙ ap (told done part) (at_most-end left test step from ends) ∙ ap (λ (xs : List Statement). Got xs from) (append-nil done)
