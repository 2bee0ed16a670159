-- Things behind signs that are read turn by turn: those that were read, and what is read from there on.
use Rattle.std.proofs.Common.{◌≡◌, ℕ, suc, true, false, List, [], ◌∷◌, ◌++◌, Option, refl, sym, ap, ◌∙◌, append_assoc}
use Rattle.std.specs.Prelude.{◌≢◌}
use Rattle.std.proofs.lemmas.List.{append-nil}
use Rattle.formula_syntax.specs.Points.{Word, Known, Point, Read, Reader}
use Rattle.grammar_laws.specs.Points.{begins}
use Rattle.grammar_laws.specs.Steps.{Got, Stuck, and_then, map_read, one, both, at_most, passes}
use Rattle.formula_syntax.specs.Grammar.{behind_all}
use Rattle.formula_syntax.specs.declared.reading.Stop.{Stop}
use Rattle.formula_syntax.specs.declared.reading.Stop.TheVariants as stops
use Rattle.formula_syntax.specs.Given.{why_of}
use Rattle.grammar_laws.proofs.Readers.{at_most-more, at_most-end}
use Rattle.formula_syntax.proofs.Chains.{link_got}

-- the things that were read, and behind them those that are still to be read
abbrev pub gathered : {A B : Type 0} → List B → Read (List (A × B)) → Read (List B)
gathered done out = map_read (λ more. done ++ behind_all more) out

gathered_one : {A B : Type 0} (done : List B) (op : A) (thing : B) (out : Read (List (A × B))) → gathered done (map_read (λ (things : List (A × B)). (op, thing) ∷ things) out) ≡ gathered (done ++ thing ∷ []) out
gathered_one {B = B} done op thing (Got things to) = ap (λ (xs : List B). Got xs to) (sym (append_assoc done (thing ∷ []) (behind_all things)))
gathered_one done op thing (Stuck why rest) = refl

module _ {A B : Type 0} (value : Word → Option (Known → A × Known)) (read : Reader B) where
  abbrev pub tied : ℕ → Reader (List (A × B))
  tied most = at_most most (passes value) (both (one value) read)

  pub gather_end : (whole : Read (List B)) (done : List B) (from : Point) (left : ℕ) → whole ≡ gathered done (tied left from) → begins (passes value) from.words ≡ false → whole ≡ Got done from
  gather_end whole done from left is ends =
      is ∙ ap (gathered done) (at_most-end left (passes value) (both (one value) read) from ends) ∙ ap (λ (xs : List B). Got xs from) (append-nil done)

  gather_turn : (whole : Read (List B)) (done : List B) (from middle : Point) (op : A) (left n : ℕ) → whole ≡ gathered done (tied left from) → left ≡ suc n → begins (passes value) from.words ≡ true → one value from ≡ Got op middle → whole ≡ gathered done (and_then (map_read (λ (b : B). (op, b)) (read middle)) (λ (thing : A × B) (to : Point). map_read (λ (things : List (A × B)). thing ∷ things) (tied n to)))
  gather_turn whole done from middle op left n is next begun first =
      is ∙ ap (λ (k : ℕ). gathered done (tied k from)) next
      ∙ ap (gathered done) (at_most-more n (passes value) (both (one value) read) from begun)
      ∙ ap (λ (x : Read (A × B)). gathered done (and_then x (λ (thing : A × B) (to : Point). map_read (λ (things : List (A × B)). thing ∷ things) (tied n to)))) (link_got value read from middle op first)

  pub gather_more : (whole : Read (List B)) (done more : List B) (from middle to : Point) (op : A) (thing : B) (left n : ℕ) → whole ≡ gathered done (tied left from) → left ≡ suc n → begins (passes value) from.words ≡ true → one value from ≡ Got op middle → read middle ≡ Got thing to → more ≡ done ++ thing ∷ [] → whole ≡ gathered more (tied n to)
  gather_more whole done more from middle to op thing left n is next begun first second pushed =
      gather_turn whole done from middle op left n is next begun first
      ∙ ap (λ (x : Read B). gathered done (and_then (map_read (λ (b : B). (op, b)) x) (λ (thing : A × B) (to : Point). map_read (λ (things : List (A × B)). thing ∷ things) (tied n to)))) second
      ∙ gathered_one done op thing (tied n to)
      ∙ ap (λ (xs : List B). gathered xs (tied n to)) (sym pushed)

  pub gather_stuck : (whole : Read (List B)) (done : List B) (from middle : Point) (op : A) (stop : Stop) (to : Point) (left n : ℕ) → whole ≡ gathered done (tied left from) → left ≡ suc n → begins (passes value) from.words ≡ true → one value from ≡ Got op middle → (stop ≢ stops.Memory → read middle ≡ Stuck (why_of stop) to.words) → stop ≢ stops.Memory → whole ≡ Stuck (why_of stop) to.words
  gather_stuck whole done from middle op stop to left n is next begun first second other =
      gather_turn whole done from middle op left n is next begun first
      ∙ ap (λ (x : Read B). gathered done (and_then (map_read (λ (b : B). (op, b)) x) (λ (thing : A × B) (to : Point). map_read (λ (things : List (A × B)). thing ∷ things) (tied n to)))) (second other)
