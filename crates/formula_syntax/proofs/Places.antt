-- Where a reading of tokens ends.
use Rattle.std.proofs.Common.{◌≡◌, ℕ, ◌+◌, ◌≤◌, List, length, drop, sym, ap, ◌∙◌, arith}
use Rattle.std.specs.Prelude.{◌≢◌}
use Rattle.std.proofs.Math.Seq.{drop-append_seam}
use Rattle.std.proofs.lemmas.List.{drop-map, drop-drop, length-map, length-append, length-drop}
use Rattle.tel_lex.specs.declared.token.Token.{Token}
use Rattle.formula_syntax.specs.declared.names.Names.{Names}
use Rattle.formula_syntax.specs.declared.fault.FormulaFault.{FormulaFault}
use Rattle.formula_syntax.specs.declared.reading.Stop.{Stop}
use Rattle.formula_syntax.specs.declared.reading.Stop.TheVariants as stops
use Rattle.formula_syntax.specs.Points.{Word, Known, Point, word_of, words_of, Reader}
use Rattle.grammar_laws.specs.Points.{at}
use Rattle.grammar_laws.specs.Steps.{Why, Unexpected, Deep, Got, Stuck}
use Rattle.formula_syntax.specs.Given.{Onward, known_of, point_at, why_of, fault_of, IfSyntax, IfTooDeep, ReadUpTo, StopsAt}

-- the place of the next token
record Ended (tokens : List Token) (place end : ℕ) (new : Point) : Type 0 where
  from : place ≤ end
  within : end ≤ length tokens
  words : new.words ≡ words_of (drop end tokens)

ended : (names : Names) (tokens : List Token) (place end : ℕ) (new : Point) → place ≤ length tokens → Onward (point_at names tokens place) new → end + length new.words ≡ length tokens → Ended tokens place end new
ended names tokens place end new within onward whole =
    let front = onward.words.0 in
    let count = ap length onward.words.1 in
    let all : end ≡ place + length front = omega (arith, count, length-map (drop place tokens) word_of, length-drop place tokens, length-append front new.words) in
    record {
      from = omega arith;
      within = omega arith;
      words =
          sym (drop-append_seam front new.words)
          ∙ ap (λ (ws : List Word). drop (length front) ws) (sym onward.words.1)
          ∙ drop-map word_of (length front) (drop place tokens)
          ∙ ap (λ (ts : List Token). words_of ts) (drop-drop (length front) place tokens)
          ∙ ap (λ (k : ℕ). words_of (drop k tokens)) (sym all);
    }

pub read_up_to : {A : Type 0} (read : Reader A) (old new : Names) (tokens : List Token) (place end : ℕ) (to : Point) (thing : A) → place ≤ length tokens → Onward (point_at old tokens place) to → end + length to.words ≡ length tokens → known_of new ≡ to.known → read (point_at old tokens place) ≡ Got thing to → ReadUpTo read old new tokens place thing end
read_up_to {A = A} read old new tokens place end to thing within onward whole known is =
    let e = ended old tokens place end to within onward whole in
    let start = ap length e.words in
    record {
      from = e.from;
      within = e.within;
      reads = is ∙ ap (λ (k : Known). Got thing (at k to.words)) (sym known) ∙ ap (λ (ws : List Word). Got thing (at (known_of new) ws)) e.words;
      symbols_room = omega (arith, onward.symbols_room, ap (λ (k : Known). length k.symbols) known, length-map (drop place tokens) word_of, length-drop place tokens);
      vars_room = omega (arith, onward.vars_room, ap (λ (k : Known). length k.vars) known, length-map (drop place tokens) word_of, length-drop place tokens);
    }

stops_at : {A : Type 0} (read : Reader A) (old : Names) (tokens : List Token) (place end : ℕ) (to : Point) (why : Why) → place ≤ length tokens → Onward (point_at old tokens place) to → end + length to.words ≡ length tokens → read (point_at old tokens place) ≡ Stuck why to.words → StopsAt read why old tokens place end
stops_at {A = A} read old tokens place end to why within onward whole is =
    let e = ended old tokens place end to within onward whole in
    record { from = e.from; within = e.within; stops = is ∙ ap (λ (ws : List Word). Stuck why ws) e.words }

pub syntax_at : {A : Type 0} (read : Reader A) (old : Names) (tokens : List Token) (place end : ℕ) (to : Point) (stop : Stop) (fault : FormulaFault) → place ≤ length tokens → Onward (point_at old tokens place) to → end + length to.words ≡ length tokens → fault ≡ fault_of stop end → (stop ≢ stops.Memory → read (point_at old tokens place) ≡ Stuck (why_of stop) to.words) → IfSyntax fault (λ here. StopsAt read Unexpected old tokens place here)
syntax_at {A = A} read old tokens place end to stops.Unexpected fault within onward whole is stuck = rw is (stops_at read old tokens place end to Unexpected within onward whole (stuck (λ e. cc)))
syntax_at {A = A} read old tokens place end to stops.Deep fault within onward whole is stuck = rw is tt
syntax_at {A = A} read old tokens place end to stops.Memory fault within onward whole is stuck = rw is tt

pub too_deep_at : {A : Type 0} (read : Reader A) (old : Names) (tokens : List Token) (place end : ℕ) (to : Point) (stop : Stop) (fault : FormulaFault) → place ≤ length tokens → Onward (point_at old tokens place) to → end + length to.words ≡ length tokens → fault ≡ fault_of stop end → (stop ≢ stops.Memory → read (point_at old tokens place) ≡ Stuck (why_of stop) to.words) → IfTooDeep fault (λ here. StopsAt read Deep old tokens place here)
too_deep_at {A = A} read old tokens place end to stops.Deep fault within onward whole is stuck = rw is (stops_at read old tokens place end to Deep within onward whole (stuck (λ e. cc)))
too_deep_at {A = A} read old tokens place end to stops.Unexpected fault within onward whole is stuck = rw is tt
too_deep_at {A = A} read old tokens place end to stops.Memory fault within onward whole is stuck = rw is tt
