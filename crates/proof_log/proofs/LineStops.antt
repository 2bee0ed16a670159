-- How a line is read: its opening, and what stands behind that.
use Rattle.std.proofs.Common.{◌≡◌, ℕ, ◌+◌, ◌-◌, ◌<◌, Bool, true, false, List, [], ◌∷◌, ◌++◌, Option, Some, None, length, drop, get_or, map, refl, sym, ap, subst, ◌∙◌, arith, append_assoc}
use Rattle.std.specs.Prelude.{nat_eq, if◌then◌else◌}
use Rattle.std.proofs.lemmas.List.{append_cancel_left}
use Rattle.tel_base.specs.declared.literals.Lit.{Lit}
use Rattle.tel_base.specs.Literals.{lit_of}
use Rattle.proof_log.specs.declared.line.Line.{Line}
use Rattle.proof_log.specs.declared.line.Line.TheVariants as lines
use Rattle.proof_log.specs.declared.line.Kind.{Kind}
use Rattle.proof_log.specs.declared.line.Kind.TheVariants as kinds
use Rattle.proof_log.specs.declared.line.LogFault.{LogFault}
use Rattle.proof_log.specs.declared.line.LogFault.TheVariants as faults
use Rattle.proof_log.specs.declared.reading.Opening.{Opening}
use Rattle.proof_log.specs.declared.reading.Opening.TheVariants as openings
use Rattle.proof_log.specs.Faults.{OnSyntax}
use Rattle.proof_log.specs.Lines.{lit_number, lit_text, line_text, line_of, HasForm}
use Rattle.proof_log.specs.Parts.{AnyOf, Then, IsNumber, IsList, letter, IsOpening, IsLoopClause, IsTail}
use Rattle.proof_log.specs.Texts.{Stops, StopsAt, StandsAt, IsLineAt, IsLineText}
use Rattle.proof_log.proofs.Numerals.{byte-there, number-free}
use Rattle.proof_log.proofs.Entries.{first-there}
use Rattle.proof_log.proofs.Listings.{entry-free}
use Rattle.proof_log.proofs.LineParts.{line-opened, line-from, set-vars, tail-live}
use Rattle.proof_log.proofs.Sequences.{IsPrefixFree, stops-at-same, stops-at-first, stops-at-second, stands-then, stops-here, stops-behind}

-- what is said of the place of a fault
pub on-syntax : (fault : LogFault) (Says Also : ℕ → Type 0) → ((place : ℕ) → Says place → Also place) → OnSyntax fault Says → OnSyntax fault Also
on-syntax (faults.Syntax place) Says Also to says = to place says
on-syntax faults.Memory Says Also to says = tt

-- ---- openings

opening_at : ℕ → Option Opening
opening_at n =
    if nat_eq n 110 then Some openings.Length else
    if nat_eq n 101 then Some openings.End else
    if nat_eq n 117 then Some openings.Loop else
    if nat_eq n 109 then Some (openings.Clause kinds.Module) else
    if nat_eq n 114 then Some (openings.Clause kinds.Learnt) else
    if nat_eq n 98 then Some (openings.Clause kinds.Block) else None

opening_of-letter : (opening : Opening) → opening_at (letter opening) ≡ Some opening
unfolding opening_at
opening_of-letter openings.Length = refl
opening_of-letter openings.End = refl
opening_of-letter openings.Loop = refl
opening_of-letter (openings.Clause kinds.Module) = refl
opening_of-letter (openings.Clause kinds.Learnt) = refl
opening_of-letter (openings.Clause kinds.Block) = refl

letter-same : (x y : Opening) → letter x ≡ letter y → x ≡ y
letter-same x y e =
    let both : Some x ≡ Some y = sym (opening_of-letter x) ∙ ap opening_at e ∙ opening_of-letter y in
    let same : x ≡ y = cc in
    same

pub opening-free : IsPrefixFree IsOpening
opening-free x y a b r s is also e =
    let whole : letter x ∷ 32 ∷ r ≡ letter y ∷ 32 ∷ s = ap (λ t. t ++ r) (sym is) ∙ e ∙ ap (λ t. t ++ s) also in
    let heads : letter x ≡ letter y = cc in
    (letter-same x y heads, is ∙ ap (λ (z : ℕ). z ∷ 32 ∷ []) heads ∙ sym also)

module _ (bytes : List ℕ) (at : ℕ) where
  pub opening-stops : ((opening : Opening) → at < length bytes → letter opening ≡ get_or bytes at 0 → ⊥) → StopsAt (AnyOf IsOpening) bytes at at
  opening-stops none =
      let here = stops-here (AnyOf IsOpening) (110 ∷ 32 ∷ [], (openings.Length, refl)) (λ e. absurd (omega (arith, ap length e.1))) (drop at bytes)
      (λ byte more text e f.
      let first = first-there bytes more at byte e in
      let whole : byte ∷ text ≡ letter f.0 ∷ 32 ∷ [] = f.1 in
      let same : letter f.0 ≡ byte = cc in
      none f.0 first.0 (same ∙ sym first.1)) in
      (omega arith, subst (λ n. Stops (AnyOf IsOpening) (drop at bytes) n) (omega arith) here)

  pub space-stops : (opening : Opening) → at < length bytes → letter opening ≡ get_or bytes at 0 → (at + 1 < length bytes → get_or bytes (at + 1) 0 ≡ 32 → ⊥)
      → StopsAt (AnyOf IsOpening) bytes at (at + 1)
  space-stops opening within is other =
      let there = byte-there bytes at (letter opening) within is in
      let here = stops-here (λ t. t ≡ 32 ∷ []) (32 ∷ [], refl) (λ e. absurd (omega (arith, ap length e))) (drop (at + 1) bytes)
      (λ byte more text e f.
      let first = first-there bytes more (at + 1) byte e in
      let same : byte ≡ 32 = cc in
      other first.0 (first.1 ∙ same)) in
      let behind = stops-behind (λ t. t ≡ 32 ∷ []) (AnyOf IsOpening) (letter opening)
      (λ text e. (opening, ap (λ (t : List ℕ). letter opening ∷ t) e))
      (λ text e.
      let whole : letter opening ∷ text ≡ letter e.0 ∷ 32 ∷ [] = e.1 in
      let tail : text ≡ 32 ∷ [] = cc in
      tail)
      (λ e. absurd (omega (arith, ap length e.1)))
      (drop at bytes) (drop (at + 1) bytes) 0 there here in
      (omega arith, subst (λ n. Stops (AnyOf IsOpening) (drop at bytes) n) (omega arith) behind)

  pub opening-stands : (opening : Opening) → at < length bytes → letter opening ≡ get_or bytes at 0 → at + 1 < length bytes → get_or bytes (at + 1) 0 ≡ 32
      → StandsAt (IsOpening opening) bytes at (at + 1 + 1)
  opening-stands opening within is also space = record {
    text = letter opening ∷ 32 ∷ [];
    is = refl;
    stands = byte-there bytes at (letter opening) within is ∙ ap (λ (t : List ℕ). letter opening ∷ t) (byte-there bytes (at + 1) 32 also (sym space));
    reaches = omega arith;
    within = omega arith;
  }

-- ---- tails

-- no list is a front of another
some-same : (x y : Lit) → Some x ≡ Some y → x ≡ y
some-same x y e = let same : x ≡ y = cc in same

none-some : (x : Lit) → None ≡ Some x → ⊥
none-some x e = cc

pub list-free : (signed : Bool) (low end : ℕ) → IsPrefixFree (IsList signed low end)
list-free signed low end [] [] a b r s is also e = (refl, (entry-free signed low end None None a b r s is also e).1)
list-free signed low end [] (lit ∷ lits) a b r s is also e =
    absurd (none-some lit (entry-free signed low end None (Some lit) a also.0 r (also.1 ++ s) is also.3 (e ∙ ap (λ t. t ++ s) also.2 ∙ append_assoc also.0 also.1 s)).0)
list-free signed low end (lit ∷ lits) [] a b r s is also e =
    absurd (none-some lit (sym (entry-free signed low end (Some lit) None is.0 b (is.1 ++ r) s is.3 also (sym (append_assoc is.0 is.1 r) ∙ ap (λ t. t ++ r) (sym is.2) ∙ e)).0))
list-free signed low end (lit ∷ lits) (other ∷ others) a b r s is also e =
    let whole : is.0 ++ (is.1 ++ r) ≡ also.0 ++ (also.1 ++ s) = sym (append_assoc is.0 is.1 r) ∙ ap (λ t. t ++ r) (sym is.2) ∙ e ∙ ap (λ t. t ++ s) also.2 ∙ append_assoc also.0 also.1 s in
    let first = entry-free signed low end (Some lit) (Some other) is.0 also.0 (is.1 ++ r) (also.1 ++ s) is.3 also.3 whole in
    let same : lit ≡ other = some-same lit other first.0 in
    let tails : is.1 ++ r ≡ also.1 ++ s = append_cancel_left also.0 (is.1 ++ r) (also.1 ++ s) (ap (λ t. t ++ (is.1 ++ r)) (sym first.1) ∙ whole) in
    let rest = list-free signed (lit_number lit) end lits others is.1 also.1 r s is.4 (subst (λ (l : Lit). IsList signed (lit_number l) end others also.1) (sym same) also.4) tails in
    ((λ i. same i ∷ rest.0 i), is.2 ∙ (λ i. first.1 i ++ rest.1 i) ∙ sym also.2)

-- what stands behind the first atom of a loop
abbrev LoopRest : ℕ → List ℕ → Type 0
LoopRest number = Then (IsList false 0 32) (λ set. AnyOf (IsLoopClause number set))

loop-to : (text : List ℕ) → Then (IsNumber 0 32) LoopRest text → AnyOf (IsTail openings.Loop) text
loop-to text (n, a, b, e, is, (set, s, t, f, is_set, (line, last))) = (line, (n, a, b, e, is, (set, s, t, f, is_set, last)))

loop-from : (text : List ℕ) → AnyOf (IsTail openings.Loop) text → Then (IsNumber 0 32) LoopRest text
loop-from text (line, (n, a, b, e, is, (set, s, t, f, is_set, last))) = (n, a, b, e, is, (set, s, t, f, is_set, (line, last)))

one : Lit
one = lit_of 0

one-listed : (signed : Bool) (end : ℕ) → (text : List ℕ) × IsList signed 0 end (one ∷ []) text
unfolding one
one-listed signed end = let a : List ℕ = lit_text one ++ 32 ∷ [] in (a ++ 48 ∷ end ∷ [], (a, 48 ∷ end ∷ [], refl, (omega arith, omega arith, λ _. refl, refl), (omega arith, refl)))

clause-live : (number : ℕ) (set : List Lit) → (text : List ℕ) × AnyOf (IsLoopClause number set) text
clause-live number set =
    let clause = one-listed true 10 in
    (clause.0, (lines.Loop (number - 1) (map (λ (lit : Lit). lit.var) set) (one ∷ []), (one ∷ [], refl, clause.1)))

rest-live : (number : ℕ) → (text : List ℕ) × LoopRest number text
rest-live number =
    let set = one-listed false 32 in
    let clause = clause-live number (one ∷ []) in
    (set.0 ++ clause.0, (one ∷ [], set.0, clause.0, refl, set.1, clause.1))

line-to : (text : List ℕ) → Then IsOpening (λ o. AnyOf (IsTail o)) text → IsLineText text
line-to text (o, a, b, e, is, (line, tail)) = let l = line-from o line b tail in (line, l.0, e ∙ ap (λ t. t ++ b) is ∙ l.1)

line-back : (text : List ℕ) → IsLineText text → Then IsOpening (λ o. AnyOf (IsTail o)) text
line-back text (line, form, e) = let o = line-opened line form in (o.0, letter o.0 ∷ 32 ∷ [], o.1, e ∙ o.2, refl, (line, o.3))

module _ (bytes : List ℕ) (at : ℕ) where
  loop-stops : (place : ℕ) → StopsAt (Then (IsNumber 0 32) LoopRest) bytes at place → StopsAt (AnyOf (IsTail openings.Loop)) bytes at place
  loop-stops place s = stops-at-same (Then (IsNumber 0 32) LoopRest) (AnyOf (IsTail openings.Loop)) loop-to loop-from bytes at place s

  pub loop-stops-first : (place : ℕ) → StopsAt (AnyOf (IsNumber 0 32)) bytes at place → StopsAt (AnyOf (IsTail openings.Loop)) bytes at place
  loop-stops-first place s = loop-stops place (stops-at-first (IsNumber 0 32) LoopRest bytes at place (λ n a is. rest-live n) s)

  pub loop-stops-set : (number mid place : ℕ) → StandsAt (IsNumber 0 32 number) bytes at mid → StopsAt (AnyOf (IsList false 0 32)) bytes mid place → StopsAt (AnyOf (IsTail openings.Loop)) bytes at place
  loop-stops-set number mid place n s =
      loop-stops place (stops-at-second (IsNumber 0 32) LoopRest (number-free 0 32 (omega arith)) number bytes at mid place n
      (stops-at-first (IsList false 0 32) (λ set. AnyOf (IsLoopClause number set)) bytes mid place (λ set a is. clause-live number set) s))

  pub loop-stops-clause : (number mid behind place : ℕ) (set : List Lit) → StandsAt (IsNumber 0 32 number) bytes at mid → StandsAt (IsList false 0 32 set) bytes mid behind
      → StopsAt (AnyOf (IsList true 0 10)) bytes behind place → StopsAt (AnyOf (IsTail openings.Loop)) bytes at place
  loop-stops-clause number mid behind place set n l s =
      loop-stops place (stops-at-second (IsNumber 0 32) LoopRest (number-free 0 32 (omega arith)) number bytes at mid place n
      (stops-at-second (IsList false 0 32) (λ set. AnyOf (IsLoopClause number set)) (list-free false 0 32) set bytes mid behind place l
      (stops-at-same (AnyOf (IsList true 0 10)) (AnyOf (IsLoopClause number set))
      (λ text e. (lines.Loop (number - 1) (map (λ (lit : Lit). lit.var) set) e.0, (e.0, refl, e.1))) (λ text e. (e.1.0, e.1.2)) bytes behind place s)))

  pub loop-stands : (number mid behind after : ℕ) (set : List ℕ) (clause : List Lit) → StandsAt (IsNumber 0 32 number) bytes at mid → StandsAt (IsList false 0 32 (map lit_of set)) bytes mid behind
      → StandsAt (IsList true 0 10 clause) bytes behind after → StandsAt (IsTail openings.Loop (lines.Loop (number - 1) set clause)) bytes at after
  loop-stands number mid behind after set clause n l c =
      let line = lines.Loop (number - 1) set clause in
      stands-then (IsNumber 0 32 number) (Then (IsList false 0 32) (λ vars. IsLoopClause number vars line)) (IsTail openings.Loop line) (λ a b is rest. (number, a, b, refl, is, rest)) bytes at mid after n
      (stands-then (IsList false 0 32 (map lit_of set)) (IsList true 0 10 clause) (Then (IsList false 0 32) (λ vars. IsLoopClause number vars line))
      (λ a b is last. (map lit_of set, a, b, refl, is, (clause, ap (λ (s : List ℕ). lines.Loop (number - 1) s clause) (sym (set-vars set)), last))) bytes mid behind after l c)

  pub length-stops : (opening : Opening) (place : ℕ) → opening ≡ openings.Length → StopsAt (AnyOf (IsNumber 0 10)) bytes at place → StopsAt (AnyOf (IsTail opening)) bytes at place
  length-stops opening place is s =
      subst (λ (o : Opening). StopsAt (AnyOf (IsTail o)) bytes at place) (sym is)
      (stops-at-same (AnyOf (IsNumber 0 10)) (AnyOf (IsTail openings.Length)) (λ text e. (lines.Length e.0, (e.0, refl, e.1))) (λ text e. (e.1.0, e.1.2)) bytes at place s)

  pub end-stops : (opening : Opening) (place : ℕ) → opening ≡ openings.End → StopsAt (AnyOf (IsNumber 0 10)) bytes at place → StopsAt (AnyOf (IsTail opening)) bytes at place
  end-stops opening place is s =
      subst (λ (o : Opening). StopsAt (AnyOf (IsTail o)) bytes at place) (sym is)
      (stops-at-same (AnyOf (IsNumber 0 10)) (AnyOf (IsTail openings.End)) (λ text e. (lines.End e.0, (e.0, refl, e.1))) (λ text e. (e.1.0, e.1.2)) bytes at place s)

  pub clause-stops : (opening : Opening) (kind : Kind) (place : ℕ) → opening ≡ openings.Clause kind → StopsAt (AnyOf (IsList true 0 10)) bytes at place → StopsAt (AnyOf (IsTail opening)) bytes at place
  clause-stops opening kind place is s =
      subst (λ (o : Opening). StopsAt (AnyOf (IsTail o)) bytes at place) (sym is)
      (stops-at-same (AnyOf (IsList true 0 10)) (AnyOf (IsTail (openings.Clause kind))) (λ text e. (line_of kind e.0, (e.0, refl, e.1))) (λ text e. (e.1.0, e.1.2)) bytes at place s)

  -- a line is an opening and a tail
  pub line-stops-opening : (place : ℕ) → StopsAt (AnyOf IsOpening) bytes at place → StopsAt IsLineText bytes at place
  line-stops-opening place s =
      stops-at-same (Then IsOpening (λ o. AnyOf (IsTail o))) IsLineText line-to line-back bytes at place (stops-at-first IsOpening (λ o. AnyOf (IsTail o)) bytes at place (λ o a is. tail-live o) s)

  pub line-stops-tail : (opening : Opening) (mid place : ℕ) → StandsAt (IsOpening opening) bytes at mid → StopsAt (AnyOf (IsTail opening)) bytes mid place → StopsAt IsLineText bytes at place
  line-stops-tail opening mid place o s =
      stops-at-same (Then IsOpening (λ o. AnyOf (IsTail o))) IsLineText line-to line-back bytes at place (stops-at-second IsOpening (λ o. AnyOf (IsTail o)) opening-free opening bytes at mid place o s)

  pub line-stands : (opening : Opening) (line : Line) (mid after : ℕ) → StandsAt (IsOpening opening) bytes at mid → StandsAt (IsTail opening line) bytes mid after → IsLineAt line bytes at after
  line-stands opening line mid after o t =
      let from = line-from opening line t.text t.is in
      let both = stands-then (IsOpening opening) (IsTail opening line) (λ x. x ≡ line_text line)
      (λ a b is tail. ap (λ x. x ++ b) is ∙ (line-from opening line b tail).1) bytes at mid after o t in
      record {
        form = from.0;
        stands = both.stands ∙ ap (λ x. x ++ drop after bytes) both.is;
        reaches = both.reaches ∙ ap (λ x. at + length x) both.is;
        within = both.within;
      }

-- ---- one line

tail-free : (opening : Opening) (line other : Line) (a b r s : List ℕ) → IsTail opening line a → IsTail opening other b → a ++ r ≡ b ++ s → line ≡ other
tail-free openings.Length line other a b r s is also e =
    is.1 ∙ ap lines.Length (number-free 0 10 (omega arith) is.0 also.0 a b r s is.2 also.2 e).0 ∙ sym also.1
tail-free openings.End line other a b r s is also e =
    is.1 ∙ ap lines.End (number-free 0 10 (omega arith) is.0 also.0 a b r s is.2 also.2 e).0 ∙ sym also.1
tail-free (openings.Clause kind) line other a b r s is also e =
    is.1 ∙ ap (line_of kind) (list-free true 0 10 is.0 also.0 a b r s is.2 also.2 e).0 ∙ sym also.1
tail-free openings.Loop line other a b r s (n, a1, a2, f, is, (set, a3, a4, g, is_set, (clause, same, is_clause))) (m, b1, b2, h, also, (vars, b3, b4, k, also_set, (lits, same', also_clause))) e =
    let whole : a1 ++ (a2 ++ r) ≡ b1 ++ (b2 ++ s) = sym (append_assoc a1 a2 r) ∙ ap (λ t. t ++ r) (sym f) ∙ e ∙ ap (λ t. t ++ s) h ∙ append_assoc b1 b2 s in
    let first = number-free 0 32 (omega arith) n m a1 b1 (a2 ++ r) (b2 ++ s) is also whole in
    let behind : a2 ++ r ≡ b2 ++ s = append_cancel_left b1 (a2 ++ r) (b2 ++ s) (ap (λ t. t ++ (a2 ++ r)) (sym first.1) ∙ whole) in
    let next : a3 ++ (a4 ++ r) ≡ b3 ++ (b4 ++ s) = sym (append_assoc a3 a4 r) ∙ ap (λ t. t ++ r) (sym g) ∙ behind ∙ ap (λ t. t ++ s) k ∙ append_assoc b3 b4 s in
    let second = list-free false 0 32 set vars a3 b3 (a4 ++ r) (b4 ++ s) is_set also_set next in
    let last : a4 ++ r ≡ b4 ++ s = append_cancel_left b3 (a4 ++ r) (b4 ++ s) (ap (λ t. t ++ (a4 ++ r)) (sym second.1) ∙ next) in
    let third = list-free true 0 10 clause lits a4 b4 r s is_clause also_clause last in
    same ∙ (λ i. lines.Loop (first.0 i - 1) (map (λ (lit : Lit). lit.var) (second.0 i)) (third.0 i)) ∙ sym same'

pub one-line : (line other : Line) (rest behind : List ℕ) → HasForm line → HasForm other → line_text line ++ rest ≡ line_text other ++ behind → line ≡ other
one-line line other rest behind form also e =
    let o = line-opened line form in
    let p = line-opened other also in
    let whole : letter o.0 ∷ 32 ∷ (o.1 ++ rest) ≡ letter p.0 ∷ 32 ∷ (p.1 ++ behind) = ap (λ t. t ++ rest) (sym o.2) ∙ e ∙ ap (λ t. t ++ behind) p.2 in
    let heads : letter o.0 ≡ letter p.0 = cc in
    let tails : o.1 ++ rest ≡ p.1 ++ behind = cc in
    tail-free o.0 line other o.1 p.1 rest behind o.3 (subst (λ (x : Opening). IsTail x other p.1) (sym (letter-same o.0 p.0 heads)) p.3) tails

-- ---- what is read

-- the line that stands is the one that is read
pub found-again : (line found : Line) (rest bytes : List ℕ) (at after : ℕ) → IsLineAt found bytes at after → HasForm line → drop at bytes ≡ line_text line ++ rest
    → (found ≡ line) × (after ≡ at + length (line_text line))
found-again line found rest bytes at after is form e =
    let same : found ≡ line = one-line found line (drop after bytes) rest is.form form (sym is.stands ∙ e) in
    (same, is.reaches ∙ ap (λ (l : Line). at + length (line_text l)) same)

pub fault-again : (fault : LogFault) (line : Line) (rest bytes : List ℕ) (at : ℕ) → OnSyntax fault (λ place. StopsAt IsLineText bytes at place) → HasForm line → drop at bytes ≡ line_text line ++ rest
    → fault ≡ faults.Memory
fault-again (faults.Syntax place) line rest bytes at stops form e = absurd (stops.1.none (line_text line, rest, (line, form, refl), e))
fault-again faults.Memory line rest bytes at stops form e = refl
