-- Texts have one first fault at the most.
use Rattle.std.proofs.Common.{◌≡◌, ℕ, ◌+◌, List, [], ◌∷◌, ◌++◌, Option, Some, None, sym, ap, subst, ◌∙◌, inl, inr}
use Rattle.tel_base.specs.declared.places.Place.{Place}
use Rattle.tel_lex.specs.declared.fault.LexFault.{LexFault}
use Rattle.tel_lex.specs.declared.fault.LexFault.TheVariants as lexing
use Rattle.tel_lex.proofs.Once.{one_reading}
use Rattle.formula_syntax.specs.Points.{Word, Known}
use Rattle.grammar_laws.specs.Refusals.{Begins, AtSomeLevel}
use Rattle.grammar_laws.proofs.Fronts.{SameSplit, compared, past-begins, all-begins, some-level}
use Rattle.part_syntax.specs.declared.fault.ReadFault.{ReadFault}
use Rattle.part_syntax.specs.declared.fault.ReadFault.TheVariants as faults
use Rattle.part_syntax.specs.Grammar.{IsText}
use Rattle.part_syntax.specs.Programs.{levels, unknown, IsSyntaxAt, IsDeepAt, IsLexicalAt, Stops, FaultOfWords, FaultOfText, FaultOfTexts, IsFirstFault}
use Rattle.part_syntax.proofs.OneProgram.{same-text, text-no}

-- ---- where words stop a text

-- where words stop a text, the word there goes on with none
stops-past : (n : ℕ) (known : Known) (front rest : List Word) (fault : Option LexFault) (end place : Place) → Stops n known front rest fault end place → (word : Word) (behind : List Word) → rest ≡ word ∷ behind → Begins (IsText n) known (front ++ word ∷ []) → ⊥
stops-past n known front [] fault end place s word behind is b = absurd cc
stops-past n known front (first ∷ more) fault end place s word behind is b =
    let e : word ≡ first = cc in
    s.1 (some-level IsText n known (front ++ first ∷ []) (subst (λ (w : Word). Begins (IsText n) known (front ++ w ∷ [])) e b))

deep-past : (n : ℕ) (known : Known) (words : List Word) (place : Place) (d : IsDeepAt n known words place) (word : Word) (behind : List Word) → d.word ∷ d.behind ≡ word ∷ behind → Begins (IsText n) known (d.front ++ word ∷ []) → ⊥
deep-past n known words place d word behind is b =
    let e : word ≡ d.word = cc in
    d.none (subst (λ (w : Word). Begins (IsText n) known (d.front ++ w ∷ [])) e b)

-- ---- two faults of the same words

lexical-same : (n : ℕ) (known : Known) (words : List Word) (fault : Option LexFault) (a b : LexFault) → IsLexicalAt n known words fault a → IsLexicalAt n known words fault b → a ≡ b
lexical-same n known words fault a b p q = let e : Some a ≡ Some b = sym p.fault_is ∙ q.fault_is in cc

lexical-deep : (n : ℕ) (known : Known) (words : List Word) (fault : Option LexFault) (a : LexFault) (place : Place) → IsLexicalAt n known words fault a → IsDeepAt n known words place → ⊥
lexical-deep n known words fault a place p d = d.none (all-begins (IsText n) known words d.front d.word d.behind d.whole p.begun)

lexical-stops : (n : ℕ) (known : Known) (words front rest : List Word) (fault : Option LexFault) (a : LexFault) (end place : Place) → IsLexicalAt n known words fault a → words ≡ front ++ rest → Stops n known front rest fault end place → ⊥
lexical-stops n known words front [] fault a end place p whole s = let e : Some a ≡ None = sym p.fault_is ∙ s.0 in absurd cc
lexical-stops n known words front (word ∷ behind) fault a end place p whole s = s.1 (some-level IsText n known (front ++ word ∷ []) (all-begins (IsText n) known words front word behind whole p.begun))

deep-same : (n : ℕ) (known : Known) (words : List Word) (a b : Place) → IsDeepAt n known words a → IsDeepAt n known words b → a ≡ b
deep-same n known words a b d e = elim (compared d.front (d.word ∷ d.behind) e.front (e.word ∷ e.behind) (sym d.whole ∙ e.whole)) [
  | inl same ↦ let w : d.word ≡ e.word = let r = same.rests_are in cc in d.place_is ∙ ap (λ (x : Word). x.place) w ∙ sym e.place_is
  | inr (inl g) ↦ absurd (deep-past n known words a d g.word g.behind g.rest_is (past-begins (IsText n) known d.front (d.word ∷ d.behind) e.front g e.begun))
  | inr (inr g) ↦ absurd (deep-past n known words b e g.word g.behind g.rest_is (past-begins (IsText n) known e.front (e.word ∷ e.behind) d.front g d.begun))
]

deep-stops : (n : ℕ) (known : Known) (words : List Word) (place : Place) → IsDeepAt n known words place → (fault : Option LexFault) (end other : Place) → IsSyntaxAt n known words fault end other → ⊥
deep-stops n known words place d fault end other s = elim (compared d.front (d.word ∷ d.behind) s.front s.rest (sym d.whole ∙ s.whole)) [
  | inl same ↦ deep-stops_at n known d.front d.word d.behind d.deeper s.front s.rest same fault end other s.stops
  | inr (inl g) ↦ deep-past n known words place d g.word g.behind g.rest_is (past-begins (IsText n) known d.front (d.word ∷ d.behind) s.front g s.begun)
  | inr (inr g) ↦ stops-past n known s.front s.rest fault end other s.stops g.word g.behind g.rest_is (past-begins (IsText n) known s.front s.rest d.front g d.begun)
] where
  deep-stops_at : (n' : ℕ) (known' : Known) (front : List Word) (word : Word) (behind : List Word) → Begins (AtSomeLevel IsText) known' (front ++ word ∷ []) → (front' rest : List Word) → SameSplit front (word ∷ behind) front' rest → (fault' : Option LexFault) (end' other' : Place) → Stops n' known' front' rest fault' end' other' → ⊥
  deep-stops_at n' known' front word behind b front' [] same fault' end' other' stops = let r = same.rests_are in absurd cc
  deep-stops_at n' known' front word behind b front' (first ∷ more) same fault' end' other' stops =
      let w : word ≡ first = let r = same.rests_are in cc in
      stops.1 (subst (λ (ws : List Word). Begins (AtSomeLevel IsText) known' ws) (ap (λ (ws : List Word). ws ++ word ∷ []) same.fronts_are ∙ ap (λ (x : Word). front' ++ x ∷ []) w) b)

stops-place : (n : ℕ) (known : Known) (front other rest behind : List Word) (fault : Option LexFault) (end a b : Place) → rest ≡ behind → Stops n known front rest fault end a → Stops n known other behind fault end b → a ≡ b
stops-place n known front other [] [] fault end a b same s t = s.1 ∙ sym t.1
stops-place n known front other [] (word ∷ behind) fault end a b same s t = absurd cc
stops-place n known front other (word ∷ rest) [] fault end a b same s t = absurd cc
stops-place n known front other (word ∷ rest) (word' ∷ behind) fault end a b same s t = let w : word ≡ word' = cc in s.0 ∙ ap (λ (x : Word). x.place) w ∙ sym t.0

syntax-same : (n : ℕ) (known : Known) (words : List Word) (fault : Option LexFault) (end a b : Place) → IsSyntaxAt n known words fault end a → IsSyntaxAt n known words fault end b → a ≡ b
syntax-same n known words fault end a b s t = elim (compared s.front s.rest t.front t.rest (sym s.whole ∙ t.whole)) [
  | inl same ↦ stops-place n known s.front t.front s.rest t.rest fault end a b same.rests_are s.stops t.stops
  | inr (inl g) ↦ absurd (stops-past n known s.front s.rest fault end a s.stops g.word g.behind g.rest_is (past-begins (IsText n) known s.front s.rest t.front g t.begun))
  | inr (inr g) ↦ absurd (stops-past n known t.front t.rest fault end b t.stops g.word g.behind g.rest_is (past-begins (IsText n) known t.front t.rest s.front g s.begun))
]

bad-same : (a b : Place) → lexing.BadByte a ≡ lexing.BadByte b → faults.BadByte a ≡ faults.BadByte b
bad-same a b e = let x : a ≡ b = cc in ap faults.BadByte x

range-same : (a b : Place) → lexing.NumberRange a ≡ lexing.NumberRange b → faults.NumberRange a ≡ faults.NumberRange b
range-same a b e = let x : a ≡ b = cc in ap faults.NumberRange x

bad-range : (a b : Place) → lexing.BadByte a ≡ lexing.NumberRange b → ⊥
bad-range a b e = absurd cc

words-same : (n : ℕ) (known : Known) (words : List Word) (fault : Option LexFault) (end : Place) (a b : ReadFault) → FaultOfWords n known words fault end a → FaultOfWords n known words fault end b → a ≡ b
words-same n known words fault end (faults.BadByte p) (faults.BadByte q) x y = bad-same p q (lexical-same n known words fault _ _ x y)
words-same n known words fault end (faults.BadByte p) (faults.NumberRange q) x y = absurd (bad-range p q (lexical-same n known words fault _ _ x y))
words-same n known words fault end (faults.BadByte p) (faults.TooDeep q) x y = absurd (lexical-deep n known words fault _ q x y)
words-same n known words fault end (faults.BadByte p) (faults.Syntax q) x y = absurd (lexical-stops n known words y.front y.rest fault _ end q x y.whole y.stops)
words-same n known words fault end (faults.NumberRange p) (faults.BadByte q) x y = absurd (bad-range q p (lexical-same n known words fault _ _ y x))
words-same n known words fault end (faults.NumberRange p) (faults.NumberRange q) x y = range-same p q (lexical-same n known words fault _ _ x y)
words-same n known words fault end (faults.NumberRange p) (faults.TooDeep q) x y = absurd (lexical-deep n known words fault _ q x y)
words-same n known words fault end (faults.NumberRange p) (faults.Syntax q) x y = absurd (lexical-stops n known words y.front y.rest fault _ end q x y.whole y.stops)
words-same n known words fault end (faults.TooDeep p) (faults.BadByte q) x y = absurd (lexical-deep n known words fault _ p y x)
words-same n known words fault end (faults.TooDeep p) (faults.NumberRange q) x y = absurd (lexical-deep n known words fault _ p y x)
words-same n known words fault end (faults.TooDeep p) (faults.TooDeep q) x y = ap faults.TooDeep (deep-same n known words p q x y)
words-same n known words fault end (faults.TooDeep p) (faults.Syntax q) x y = absurd (deep-stops n known words p x fault end q y)
words-same n known words fault end (faults.Syntax p) (faults.BadByte q) x y = absurd (lexical-stops n known words x.front x.rest fault _ end p y x.whole x.stops)
words-same n known words fault end (faults.Syntax p) (faults.NumberRange q) x y = absurd (lexical-stops n known words x.front x.rest fault _ end p y x.whole x.stops)
words-same n known words fault end (faults.Syntax p) (faults.TooDeep q) x y = absurd (deep-stops n known words q y fault end p x)
words-same n known words fault end (faults.Syntax p) (faults.Syntax q) x y = ap faults.Syntax (syntax-same n known words fault end p q x y)
words-same n known words fault end faults.Memory b x y = absurd x
words-same n known words fault end a faults.Memory x y = absurd y

-- ---- the texts

one-text_fault : (n file : ℕ) (text : List ℕ) (known : Known) (a b : ReadFault) → FaultOfText n file text known a → FaultOfText n file text known b → a ≡ b
one-text_fault n file text known a b p q =
    let o = one_reading p.lexed.lexes q.lexed.lexes in
    let ends : q.end ≡ p.end = q.lexed.ends ∙ sym p.lexed.ends in
    let at_words : FaultOfWords n known p.words q.lexical q.end b = subst (λ (ws : List Word). FaultOfWords n known ws q.lexical q.end b) (sym o.same_tokens) q.stands in
    let at_fault : FaultOfWords n known p.words p.lexical q.end b = subst (λ (f : Option LexFault). FaultOfWords n known p.words f q.end b) (sym o.same_fault) at_words in
    let at_end : FaultOfWords n known p.words p.lexical p.end b = subst (λ (e : Place). FaultOfWords n known p.words p.lexical e b) ends at_fault in
    words-same n known p.words p.lexical p.end a b p.stands at_end

one-texts_fault : (n file : ℕ) (texts : List (List ℕ)) (known : Known) (a b : ReadFault) → FaultOfTexts n file texts known a → FaultOfTexts n file texts known b → a ≡ b
one-texts_fault n file [] known a b p q = absurd p
one-texts_fault n file (text ∷ texts) known a b (inl p) (inl q) = one-text_fault n file text known a b p q
one-texts_fault n file (text ∷ texts) known a b (inl p) (inr q) = absurd (text-no n file text known a q.0 q.1 p q.2)
one-texts_fault n file (text ∷ texts) known a b (inr p) (inl q) = absurd (text-no n file text known b p.0 p.1 q p.2)
one-texts_fault n file (text ∷ texts) known a b (inr p) (inr q) =
    let t = same-text n file text known p.0 q.0 p.1 q.1 p.2 q.2 in
    one-texts_fault n (file + 1) texts q.1 a b (subst (λ (k : Known). FaultOfTexts n (file + 1) texts k a) t.later_is p.3) q.3

pub one-fault : (texts : List (List ℕ)) (a b : ReadFault) → IsFirstFault texts a → IsFirstFault texts b → a ≡ b
one-fault texts a b p q = one-texts_fault levels 1 texts unknown a b p q
