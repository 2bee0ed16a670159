-- A chain that is read turn by turn: what was read, and what is read from there on.
use Rattle.std.proofs.Common.{◌≡◌, ℕ, suc, true, false, List, [], ◌∷◌, ◌++◌, Option, refl, sym, ap, ◌∙◌, append_assoc}
use Rattle.std.proofs.lemmas.List.{append-nil}
use Rattle.formula_syntax.specs.Points.{Word, Known, Point, Read, Reader}
use Rattle.grammar_laws.specs.Points.{begins}
use Rattle.grammar_laws.specs.Steps.{Got, Stuck, and_then, map_read, one, both, at_most, passes}
use Rattle.std.specs.Prelude.{◌≢◌}
use Rattle.formula_syntax.specs.declared.reading.Stop.{Stop}
use Rattle.formula_syntax.specs.declared.reading.Stop.TheVariants as stops
use Rattle.formula_syntax.specs.Given.{why_of}
use Rattle.grammar_laws.proofs.Readers.{at_most-more, at_most-end}

-- what was read, and behind it what is still to be read
abbrev pub joined : {A : Type 0} → List A → Read (List A) → Read (List A)
joined done out = map_read (λ more. done ++ more) out

joined_one : {A : Type 0} (done : List A) (thing : A) (out : Read (List A)) → joined done (map_read (λ (things : List A). thing ∷ things) out) ≡ joined (done ++ thing ∷ []) out
joined_one {A = A} done thing (Got things to) = ap (λ (xs : List A). Got xs to) (sym (append_assoc done (thing ∷ []) things))
joined_one done thing (Stuck why rest) = refl

-- a thing behind a word that passes
pub link_got : {A B : Type 0} (value : Word → Option (Known → A × Known)) (read : Reader B) (from middle : Point) (op : A) → one value from ≡ Got op middle → both (one value) read from ≡ map_read (λ (b : B). (op, b)) (read middle)
link_got {A = A} {B = B} value read from middle op is = ap (λ (x : Read A). and_then x (λ (a : A) (to : Point). map_read (λ (b : B). (a, b)) (read to))) is

module _ {A B : Type 0} (value : Word → Option (Known → A × Known)) (read : Reader B) where
  abbrev pub links : ℕ → Reader (List (A × B))
  links most = at_most most (passes value) (both (one value) read)

  pub chain_end : (whole : Read (List (A × B))) (done : List (A × B)) (from : Point) (left : ℕ) → whole ≡ joined done (links left from) → begins (passes value) from.words ≡ false → whole ≡ Got done from
  chain_end whole done from left is ends =
      is ∙ ap (joined done) (at_most-end left (passes value) (both (one value) read) from ends) ∙ ap (λ (xs : List (A × B)). Got xs from) (append-nil done)

  chain_turn : (whole : Read (List (A × B))) (done : List (A × B)) (from middle : Point) (op : A) (left n : ℕ) → whole ≡ joined done (links left from) → left ≡ suc n → begins (passes value) from.words ≡ true → one value from ≡ Got op middle → whole ≡ joined done (and_then (map_read (λ (b : B). (op, b)) (read middle)) (λ (thing : A × B) (to : Point). map_read (λ (things : List (A × B)). thing ∷ things) (links n to)))
  chain_turn whole done from middle op left n is more begun first =
      is ∙ ap (λ (k : ℕ). joined done (links k from)) more
      ∙ ap (joined done) (at_most-more n (passes value) (both (one value) read) from begun)
      ∙ ap (λ (x : Read (A × B)). joined done (and_then x (λ (thing : A × B) (to : Point). map_read (λ (things : List (A × B)). thing ∷ things) (links n to)))) (link_got value read from middle op first)

  pub chain_more : (whole : Read (List (A × B))) (done more : List (A × B)) (from middle to : Point) (op : A) (thing : B) (left n : ℕ) → whole ≡ joined done (links left from) → left ≡ suc n → begins (passes value) from.words ≡ true → one value from ≡ Got op middle → read middle ≡ Got thing to → more ≡ done ++ (op, thing) ∷ [] → whole ≡ joined more (links n to)
  chain_more whole done more from middle to op thing left n is next begun first second pushed =
      chain_turn whole done from middle op left n is next begun first
      ∙ ap (λ (x : Read B). joined done (and_then (map_read (λ (b : B). (op, b)) x) (λ (thing : A × B) (to : Point). map_read (λ (things : List (A × B)). thing ∷ things) (links n to)))) second
      ∙ joined_one done (op, thing) (links n to)
      ∙ ap (λ (xs : List (A × B)). joined xs (links n to)) (sym pushed)

  pub chain_stuck : (whole : Read (List (A × B))) (done : List (A × B)) (from middle : Point) (op : A) (stop : Stop) (to : Point) (left n : ℕ) → whole ≡ joined done (links left from) → left ≡ suc n → begins (passes value) from.words ≡ true → one value from ≡ Got op middle → (stop ≢ stops.Memory → read middle ≡ Stuck (why_of stop) to.words) → stop ≢ stops.Memory → whole ≡ Stuck (why_of stop) to.words
  chain_stuck whole done from middle op stop to left n is next begun first second other =
      chain_turn whole done from middle op left n is next begun first
      ∙ ap (λ (x : Read B). joined done (and_then (map_read (λ (b : B). (op, b)) x) (λ (thing : A × B) (to : Point). map_read (λ (things : List (A × B)). thing ∷ things) (links n to)))) (second other)
