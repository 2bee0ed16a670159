-- What the reading of a text gives is what the text is: its items, or its fault.
use Rattle.std.proofs.Common.{◌≡◌, ℕ, List, [], ◌∷◌, ◌++◌, Option, None, refl, sym, ap, subst, ◌∙◌}
use Rattle.std.proofs.lemmas.List.{append-nil}
use Rattle.tel_base.specs.declared.places.Place.{Place}
use Rattle.tel_lex.specs.declared.fault.LexFault.{LexFault}
use Rattle.formula_syntax.specs.Points.{Word, Known, Point, Read}
use Rattle.grammar_laws.specs.Points.{at}
use Rattle.grammar_laws.specs.Refusals.{Begins, AtSomeLevel}
use Rattle.grammar_laws.specs.Steps.{Unexpected, Deep, Got, Stuck}
use Rattle.grammar_laws.proofs.Steady.{near-got}
use Rattle.grammar_laws.proofs.Outcomes.{Family, up, stands-longest, stuck-stops, whole-read, stuck-up, too_deep}
use Rattle.part_syntax.specs.Grammar.{Stated, IsText}
use Rattle.part_syntax.specs.Reading.{read_text}
use Rattle.part_syntax.specs.Programs.{IsSyntaxAt, IsDeepAt}
use Rattle.part_syntax.proofs.TextReads.{more_text, text-reads, text-lifts}

pub text-family : Family IsText read_text more_text
text-family = record { reads = text-reads; raises = λ n. (text-lifts n).raises; wider = λ n. (text-lifts n).wider }

-- the words of a reading that ends are a text
pub text-whole : (n : ℕ) (known later : Known) (words : List Word) (stated : List Stated) → read_text n (at known words) ≡ Got stated (at later []) → IsText n (at known words) stated (at later [])
text-whole n known later words stated e = (text-reads n).sound (at known words) stated (at later []) e

-- a text has one reading
pub text-one : (n : ℕ) (known later : Known) (words : List Word) (stated : List Stated) → IsText n (at known words) stated (at later []) → read_text n (at known words) ≡ Got stated (at later [])
text-one n known later words stated reads = (text-reads n).full (at known words) stated (at later []) reads refl

-- the words that a reading took begin a text
pub text-begun : (n : ℕ) (known : Known) (words : List Word) (stated : List Stated) (to : Point) (front : List Word) → IsText n (at known (front ++ [])) stated (at to.known []) → Begins (IsText n) known front
text-begun n known words stated to front reads = record { more = []; thing = stated; later = to.known; reads = reads }

-- where a reading ends before the last word, the next one begins no item
pub text-ended : (n : ℕ) (known : Known) (words : List Word) (stated : List Stated) (later : Known) (word : Word) (behind : List Word) (fault : Option LexFault) (end : Place) → read_text n (at known words) ≡ Got stated (at later (word ∷ behind)) → IsSyntaxAt n known words fault end word.place
text-ended n known words stated later word behind fault end e =
    let to : Point = at later (word ∷ behind) in
    let near = near-got (read_text n) (at known words) stated to ((text-reads n).near (at known words)) e in
    let framed = (text-reads n).framed (at known words) stated to ((text-reads n).sound (at known words) stated to e) in
    record {
      front = framed.front;
      rest = word ∷ behind;
      whole = framed.whole;
      begun = text-begun n known words stated to framed.front (framed.again []);
      stops = (refl, stands-longest IsText read_text more_text text-family n (at known words) stated to e framed.front framed.whole word behind refl);
    }

-- where a reading is stopped by a word
pub text-stuck : (n : ℕ) (known : Known) (words : List Word) (word : Word) (behind : List Word) (fault : Option LexFault) (end : Place) → read_text n (at known words) ≡ Stuck Unexpected (word ∷ behind) → IsSyntaxAt n known words fault end word.place
text-stuck n known words word behind fault end e =
    let g = (text-reads n).goes (at known words) Unexpected (word ∷ behind) e in
    record {
      front = g.front;
      rest = word ∷ behind;
      whole = g.whole;
      begun = record { more = g.more; thing = g.thing; later = g.known; reads = g.reads };
      stops = (
        refl,
        λ b.
            let k = b.reads.0 in
            stuck-stops IsText read_text more_text text-family n (at known words) Unexpected (word ∷ behind) (up k n) (stuck-up IsText read_text more_text text-family k n (at known words) (word ∷ behind) e) g.front g.whole word behind refl b.more b.thing b.later
            (whole-read IsText read_text more_text text-family k n (at known ((g.front ++ word ∷ []) ++ b.more)) b.thing b.later b.reads.1),
      );
    }

-- where a reading is stopped by the end of the words
pub text-short : (n : ℕ) (known : Known) (words : List Word) (end : Place) → read_text n (at known words) ≡ Stuck Unexpected [] → IsSyntaxAt n known words None end end
text-short n known words end e =
    let g = (text-reads n).goes (at known words) Unexpected [] e in
    let all : words ≡ g.front = g.whole ∙ append-nil g.front in
    record {
      front = g.front;
      rest = [];
      whole = g.whole;
      begun = record { more = g.more; thing = g.thing; later = g.known; reads = g.reads };
      stops = (
        refl,
        refl,
        λ w.
            let k = w.reads.0 in
            let got : read_text (up k n) (at known g.front) ≡ Got w.thing (at w.later []) = whole-read IsText read_text more_text text-family k n (at known g.front) w.thing w.later w.reads.1 in
            let stuck : read_text (up k n) (at known g.front) ≡ Stuck Unexpected [] = ap (λ (ws : List Word). read_text (up k n) (at known ws)) (sym all) ∙ stuck-up IsText read_text more_text text-family k n (at known words) [] e in
            let both : ◌≡◌ {A = Read (List Stated)} (Got w.thing (at w.later [])) (Stuck Unexpected []) = sym got ∙ stuck in
            absurd cc,
      );
    }

-- where a word opens one level too many
pub text-deep : (n : ℕ) (known : Known) (words : List Word) (word : Word) (behind : List Word) → read_text n (at known words) ≡ Stuck Deep (word ∷ behind) → IsDeepAt n known words word.place
text-deep n known words word behind e =
    let d = too_deep IsText read_text more_text text-family n (at known words) (word ∷ behind) e in
    let same : d.word ≡ word = let f = d.first in cc in
    record {
      front = d.front;
      word = word;
      behind = behind;
      whole = d.whole;
      place_is = refl;
      begun = d.begun;
      deeper = subst (λ (w : Word). Begins (AtSomeLevel IsText) known (d.front ++ w ∷ [])) same d.deeper;
      none = subst (λ (w : Word). Begins (IsText n) known (d.front ++ w ∷ []) → ⊥) same d.none;
    }

pub begun-whole : (n : ℕ) (known later : Known) (words : List Word) (stated : List Stated) → read_text n (at known words) ≡ Got stated (at later []) → Begins (IsText n) known words
begun-whole n known later words stated e =
    record { more = []; thing = stated; later = later; reads = subst (λ (ws : List Word). IsText n (at known ws) stated (at later [])) (sym (append-nil words)) (text-whole n known later words stated e) }

pub begun-short : (n : ℕ) (known : Known) (words : List Word) → read_text n (at known words) ≡ Stuck Unexpected [] → Begins (IsText n) known words
begun-short n known words e =
    let g = (text-reads n).goes (at known words) Unexpected [] e in
    let all : g.front ≡ words = sym (g.whole ∙ append-nil g.front) in
    record { more = g.more; thing = g.thing; later = g.known; reads = subst (λ (ws : List Word). IsText n (at known (ws ++ g.more)) g.thing (at g.known [])) all g.reads }

-- a reading is never stopped for its depth by the end of the words
pub deep-some : (n : ℕ) (known : Known) (words : List Word) → read_text n (at known words) ≡ Stuck Deep [] → ⊥
deep-some n known words e =
    let d = too_deep IsText read_text more_text text-family n (at known words) [] e in
    let f = d.first in
    absurd cc
