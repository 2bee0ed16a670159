-- A line is its opening and what stands behind that.
use Rattle.std.proofs.Common.{◌≡◌, ℕ, zero, suc, ◌+◌, ◌-◌, ◌<◌, Bool, true, false, List, [], ◌∷◌, ◌++◌, length, map, decimal, codes, refl, sym, ap, subst, ◌∙◌, arith, append_assoc}
use Rattle.std.specs.List.{flat_map}
use Rattle.std.proofs.lemmas.Bool.{false≢true}
use Rattle.std.proofs.lemmas.List.{length-map}
use Rattle.tel_base.specs.declared.literals.Lit.{Lit}
use Rattle.tel_base.specs.Literals.{lit_of}
use Rattle.proof_log.specs.declared.line.Line.{Line}
use Rattle.proof_log.specs.declared.line.Line.TheVariants as lines
use Rattle.proof_log.specs.declared.line.Kind.TheVariants as kinds
use Rattle.proof_log.specs.declared.reading.Opening.{Opening}
use Rattle.proof_log.specs.declared.reading.Opening.TheVariants as openings
use Rattle.proof_log.specs.Lines.{lit_number, lit_text, clause_text, set_text, line_text, Rises, IsClause, IsSet, HasForm}
use Rattle.proof_log.specs.Parts.{AnyOf, IsList, letter, IsTail}

-- the literals of a list from above a number, one after another
abbrev spaced : List Lit → List ℕ
spaced lits = flat_map (λ lit. lit_text lit ++ codes " ") lits

-- what a list says of its literals, and back
pub record IsListed (signed : Bool) (low end : ℕ) (lits : List Lit) (text : List ℕ) : Type 0 where
  pub some : low ≡ 0 → 0 < length lits
  pub rises : Rises low (map lit_number lits)
  pub spelled : text ≡ (spaced lits ++ 48 ∷ []) ++ end ∷ []

-- where literals have no sign, each is positive
abbrev AllPlain : Bool → List Lit → Type 0
AllPlain signed [] = Unit {0}
AllPlain signed (lit ∷ lits) = (signed ≡ false → lit.positive ≡ true) × AllPlain signed lits

listed-text : (lit : Lit) (a b rest : List ℕ) (end : ℕ) → a ≡ lit_text lit ++ 32 ∷ [] → b ≡ (rest ++ 48 ∷ []) ++ end ∷ [] → a ++ b ≡ ((lit_text lit ++ 32 ∷ []) ++ rest ++ 48 ∷ []) ++ end ∷ []
listed-text lit a b rest end e f =
    let head = lit_text lit ++ 32 ∷ [] in
    ap (λ t. t ++ b) e ∙ ap (λ t. head ++ t) f ∙ sym (append_assoc head (rest ++ 48 ∷ []) (end ∷ [])) ∙ ap (λ t. t ++ end ∷ []) (sym (append_assoc head rest (48 ∷ [])))

pub listed-from : (signed : Bool) (low end : ℕ) (lits : List Lit) (text : List ℕ) → IsList signed low end lits text → IsListed signed low end lits text
listed-from signed low end [] text is = record { some = λ none. absurd (omega (arith, is.0, none)); rises = tt; spelled = is.1 }
listed-from signed low end (lit ∷ lits) text is =
    let rest = listed-from signed (lit_number lit) end lits is.1 is.4 in
    record {
      some = λ none. omega arith;
      rises = (is.3.0, is.3.1, rest.rises);
      spelled = is.2 ∙ listed-text lit is.0 is.1 (spaced lits) end is.3.3 rest.spelled;
    }

listed-to : (signed : Bool) (low end : ℕ) (lits : List Lit) → AllPlain signed lits → (low ≡ 0 → 0 < length lits) → Rises low (map lit_number lits) → IsList signed low end lits ((spaced lits ++ 48 ∷ []) ++ end ∷ [])
listed-to signed zero end [] plain some rises = absurd (omega (arith, some refl))
listed-to signed (suc low) end [] plain some rises = (omega arith, refl)
listed-to signed low end (lit ∷ lits) plain some rises =
    let a = lit_text lit ++ 32 ∷ [] in
    let b = (spaced lits ++ 48 ∷ []) ++ end ∷ [] in
    (a, b, sym (listed-text lit a b (spaced lits) end refl refl), (rises.0, rises.1, plain.0, refl), listed-to signed (lit_number lit) end lits plain.1 (λ none. absurd (omega (arith, none))) rises.2)

all-signed : (lits : List Lit) → AllPlain true lits
all-signed [] = tt
all-signed (lit ∷ lits) = (λ none. absurd (false≢true (sym none)), all-signed lits)

plain-set : (set : List ℕ) → AllPlain false (map lit_of set)
plain-set [] = tt
plain-set (var ∷ set) = (λ _. refl, plain-set set)

-- clauses
pub clause-from : (clause : List Lit) (text : List ℕ) → IsList true 0 10 clause text → IsClause clause × (text ≡ clause_text clause ++ 10 ∷ [])
clause-from clause text is = let l = listed-from true 0 10 clause text is in ((l.some refl, l.rises), l.spelled)

pub clause-to : (clause : List Lit) → IsClause clause → IsList true 0 10 clause (clause_text clause ++ 10 ∷ [])
clause-to clause is = listed-to true 0 10 clause (all-signed clause) (λ _. is.0) is.1

-- sets, as positive literals
set-spaced : (set : List ℕ) → spaced (map lit_of set) ≡ flat_map (λ var. decimal (var + 1) ++ codes " ") set
set-spaced [] = refl
set-spaced (var ∷ set) = ap (λ t. (decimal (var + 1) ++ 32 ∷ []) ++ t) (set-spaced set)

set-numbers : (set : List ℕ) → map lit_number (map lit_of set) ≡ map (λ var. var + 1) set
set-numbers [] = refl
set-numbers (var ∷ set) = ap (λ (t : List ℕ). (var + 1) ∷ t) (set-numbers set)

pub set-vars : (set : List ℕ) → map (λ (lit : Lit). lit.var) (map lit_of set) ≡ set
set-vars [] = refl
set-vars (var ∷ set) = ap (λ (t : List ℕ). var ∷ t) (set-vars set)

pub set-to : (set : List ℕ) → IsSet set → IsList false 0 32 (map lit_of set) (set_text set ++ 32 ∷ [])
set-to set is =
    subst (λ (t : List ℕ). IsList false 0 32 (map lit_of set) ((t ++ 48 ∷ []) ++ 32 ∷ [])) (set-spaced set)
    (listed-to false 0 32 (map lit_of set) (plain-set set) (λ _. omega (arith, is.0, length-map set lit_of)) (subst (λ ns. Rises 0 ns) (sym (set-numbers set)) is.1))

-- the literals of a set are those of its variables
lits-plain : (lits : List Lit) → AllPlain false lits → map lit_of (map (λ (lit : Lit). lit.var) lits) ≡ lits
lits-plain [] plain = refl
lits-plain (lit ∷ lits) plain = λ i. (record { var = lit.var; positive = sym (plain.0 refl) i }) ∷ lits-plain lits plain.1 i

list-plain : (signed : Bool) (low end : ℕ) (lits : List Lit) (text : List ℕ) → IsList signed low end lits text → AllPlain signed lits
list-plain signed low end [] text is = tt
list-plain signed low end (lit ∷ lits) text is = (is.3.2, list-plain signed (lit_number lit) end lits is.1 is.4)

pub set-from : (lits : List Lit) (text : List ℕ) → IsList false 0 32 lits text → IsSet (map (λ (lit : Lit). lit.var) lits) × (text ≡ set_text (map (λ (lit : Lit). lit.var) lits) ++ 32 ∷ [])
set-from lits text is =
    let set = map (λ (lit : Lit). lit.var) lits in
    let same : map lit_of set ≡ lits = lits-plain lits (list-plain false 0 32 lits text is) in
    let l = listed-from false 0 32 (map lit_of set) text (subst (λ ls. IsList false 0 32 ls text) (sym same) is) in (
      (omega (arith, l.some refl, length-map set lit_of), subst (λ ns. Rises 0 ns) (set-numbers set) l.rises),
      l.spelled ∙ ap (λ t. (t ++ 48 ∷ []) ++ 32 ∷ []) (set-spaced set),
    )

-- ---- a line is an opening and a tail

AnyTail : Opening → List ℕ → Type 0
AnyTail opening = AnyOf (IsTail opening)

loop-split : (atom set clause : List ℕ) → 117 ∷ 32 ∷ [] ++ atom ++ 32 ∷ [] ++ set ++ 32 ∷ [] ++ clause ++ 10 ∷ [] ≡ 117 ∷ 32 ∷ ((atom ++ 32 ∷ []) ++ ((set ++ 32 ∷ []) ++ (clause ++ 10 ∷ [])))
loop-split atom set clause =
    let start = atom ++ 32 ∷ [] in
    ap (λ (t : List ℕ). 117 ∷ 32 ∷ t)
    (append_assoc (start ++ set ++ 32 ∷ []) clause (10 ∷ []) ∙ ap (λ t. t ++ (clause ++ 10 ∷ [])) (append_assoc start set (32 ∷ [])) ∙ append_assoc start (set ++ 32 ∷ []) (clause ++ 10 ∷ []))

-- what a line with the form has as its opening and its tail
pub line-opened : (line : Line) → HasForm line → (opening : Opening) × (tail : List ℕ) × (line_text line ≡ letter opening ∷ 32 ∷ tail) × IsTail opening line tail
line-opened (lines.Length n) form = (openings.Length, decimal n ++ 10 ∷ [], refl, (n, refl, (omega (arith, form.0), form.1, refl)))
line-opened (lines.End n) form = (openings.End, decimal n ++ 10 ∷ [], refl, (n, refl, (omega (arith, form.0), form.1, refl)))
line-opened (lines.Module clause) form = (openings.Clause kinds.Module, clause_text clause ++ 10 ∷ [], refl, (clause, refl, clause-to clause form))
line-opened (lines.Learnt clause) form = (openings.Clause kinds.Learnt, clause_text clause ++ 10 ∷ [], refl, (clause, refl, clause-to clause form))
line-opened (lines.Block clause) form = (openings.Clause kinds.Block, clause_text clause ++ 10 ∷ [], refl, (clause, refl, clause-to clause form))
line-opened (lines.Loop atom set clause) form = (
  openings.Loop,
  (decimal (atom + 1) ++ 32 ∷ []) ++ ((set_text set ++ 32 ∷ []) ++ (clause_text clause ++ 10 ∷ [])),
  loop-split (decimal (atom + 1)) (set_text set) (clause_text clause),
  (
    atom + 1,
    decimal (atom + 1) ++ 32 ∷ [],
    (set_text set ++ 32 ∷ []) ++ (clause_text clause ++ 10 ∷ []),
    refl,
    (omega arith, form.0, refl),
    (
      map lit_of set,
      set_text set ++ 32 ∷ [],
      clause_text clause ++ 10 ∷ [],
      refl,
      set-to set form.1,
      (clause, λ i. lines.Loop (atom-back atom i) (sym (set-vars set) i) clause, clause-to clause form.2),
    ),
  ),
)
  where
    atom-back : (atom : ℕ) → atom ≡ atom + 1 - 1
    atom-back atom = omega arith

-- and back
pub line-from : (opening : Opening) (line : Line) (tail : List ℕ) → IsTail opening line tail → HasForm line × (letter opening ∷ 32 ∷ tail ≡ line_text line)
line-from openings.Length line tail is =
    subst (λ l. HasForm l × (110 ∷ 32 ∷ tail ≡ line_text l)) (sym is.1) ((omega (arith, is.2.0), is.2.1), ap (λ (t : List ℕ). 110 ∷ 32 ∷ t) is.2.2)
line-from openings.End line tail is =
    subst (λ l. HasForm l × (101 ∷ 32 ∷ tail ≡ line_text l)) (sym is.1) ((omega (arith, is.2.0), is.2.1), ap (λ (t : List ℕ). 101 ∷ 32 ∷ t) is.2.2)
line-from (openings.Clause kinds.Module) line tail is =
    let c = clause-from is.0 tail is.2 in
    subst (λ l. HasForm l × (109 ∷ 32 ∷ tail ≡ line_text l)) (sym is.1) (c.0, ap (λ (t : List ℕ). 109 ∷ 32 ∷ t) c.1)
line-from (openings.Clause kinds.Learnt) line tail is =
    let c = clause-from is.0 tail is.2 in
    subst (λ l. HasForm l × (114 ∷ 32 ∷ tail ≡ line_text l)) (sym is.1) (c.0, ap (λ (t : List ℕ). 114 ∷ 32 ∷ t) c.1)
line-from (openings.Clause kinds.Block) line tail is =
    let c = clause-from is.0 tail is.2 in
    subst (λ l. HasForm l × (98 ∷ 32 ∷ tail ≡ line_text l)) (sym is.1) (c.0, ap (λ (t : List ℕ). 98 ∷ 32 ∷ t) c.1)
line-from openings.Loop line tail (number, a, b, e, is, (lits, s, t, f, is_set, (clause, same, is_clause))) =
    let set = set-from lits s is_set in
    let last = clause-from clause t is_clause in
    let back : number - 1 + 1 ≡ number = omega (arith, is.0) in
    let vars = map (λ (lit : Lit). lit.var) lits in
    subst (λ l. HasForm l × (117 ∷ 32 ∷ tail ≡ line_text l)) (sym same) (
      (omega (arith, is.0, is.1), set.0, last.0),
      ap (λ (x : List ℕ). 117 ∷ 32 ∷ x)
          (e ∙ ap (λ x. x ++ b) (is.2 ∙ ap (λ n. decimal n ++ 32 ∷ []) (sym back))
          ∙ ap (λ x. (decimal (number - 1 + 1) ++ 32 ∷ []) ++ x) (f ∙ ap (λ x. x ++ t) set.1 ∙ ap (λ x. (set_text vars ++ 32 ∷ []) ++ x) last.1))
          ∙ sym (loop-split (decimal (number - 1 + 1)) (set_text vars) (clause_text clause)),
    )

-- each opening begins a line
pub tail-live : (opening : Opening) → (text : List ℕ) × AnyOf (IsTail opening) text
unfolding line-opened
tail-live openings.Length = let o = line-opened (lines.Length 1) (omega arith, omega arith) in (o.1, (lines.Length 1, o.3))
tail-live openings.End = let o = line-opened (lines.End 1) (omega arith, omega arith) in (o.1, (lines.End 1, o.3))
tail-live openings.Loop =
    let o = line-opened (lines.Loop 0 (0 ∷ []) (lit_of 0 ∷ [])) (omega arith, (omega arith, (omega arith, omega arith, tt)), (omega arith, (omega arith, omega arith, tt))) in
    (o.1, (lines.Loop 0 (0 ∷ []) (lit_of 0 ∷ []), o.3))
tail-live (openings.Clause kinds.Module) = let o = line-opened (lines.Module (lit_of 0 ∷ [])) (omega arith, (omega arith, omega arith, tt)) in (o.1, (lines.Module (lit_of 0 ∷ []), o.3))
tail-live (openings.Clause kinds.Learnt) = let o = line-opened (lines.Learnt (lit_of 0 ∷ [])) (omega arith, (omega arith, omega arith, tt)) in (o.1, (lines.Learnt (lit_of 0 ∷ []), o.3))
tail-live (openings.Clause kinds.Block) = let o = line-opened (lines.Block (lit_of 0 ∷ [])) (omega arith, (omega arith, omega arith, tt)) in (o.1, (lines.Block (lit_of 0 ∷ []), o.3))
