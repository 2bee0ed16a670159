-- The lines of held clauses: they have the clauses that are held, and are those of the search.
use Rattle.std.proofs.Common.{◌≡◌, ℕ, suc, ◌+◌, ◌<◌, ◌≤◌, List, [], ◌∷◌, ◌++◌, length, sym, ap, subst, ◌∙◌, arith}
use Rattle.std.specs.Prelude.{IsTrue}
use Rattle.std.proofs.lemmas.List.{append-nil, append_assoc, map-append, length-append, same_from_push}
use Rattle.std.proofs.lemmas.Grind.{flat_map-append}
use Rattle.tel_base.specs.declared.literals.Lit.{Lit}
use Rattle.tel_base.specs.Literals.{lit_of, negate, negations}
use Rattle.clause_store.specs.declared.store.ClauseKind.TheVariants as kinds
use Rattle.clause_store.specs.Held.{is_clause}
use Rattle.clause_store.specs.Closure.{Clause, Conflict}
use Rattle.normal_program.specs.Grounds.{Layers, is_head}
use Rattle.normal_program.specs.ModuleClauses.{in_order}
use Rattle.normal_program.specs.StableSets.{Set}
use Rattle.unfounded_sets.specs.LoopClauses.{IsLoopClause, among}
use Rattle.search_laws.specs.Lengths.{Length}
use Rattle.search_laws.specs.Origins.{Kept, lits_of, IsBlock}
use Rattle.proof_log.specs.declared.line.Line.{Line}
use Rattle.proof_log.specs.declared.line.Line.TheVariants as lines
use Rattle.proof_log.specs.Lines.{greatest}
use Rattle.search_log.specs.Alike.{IsAlike, AreAlike}
use Rattle.search_log.specs.ValidLogs.{clause_of, clauses_in, IsWritten, IsCounted, Searched}
use Rattle.search_log.specs.Held.{IsLineOf, AreLines, Came}
use Rattle.search_log.proofs.SameClauses.{alike_back, all_alike_self, all_alike_append, negations_alike, conflict_alike, order_alike}
use Rattle.search_log.proofs.SameWalks.{counted_alike, block_alike}
use Rattle.search_log.proofs.WrittenLines.{order_written, loop_written}

-- ---- the clauses of the lines

-- a line has the clause that it is of, in order
line_has : (ground : Layers) (one : Kept) (line : Line) → IsLineOf ground one line → clauses_in (line ∷ []) ≡ in_order one.lits ∷ []
line_has ground one (lines.Length n) is = absurd is
line_has ground one (lines.Module clause) is = absurd is
line_has ground one (lines.Loop atom set clause) is = ap (λ (c : Clause). c ∷ []) is.1
line_has ground one (lines.Learnt clause) is = ap (λ (c : Clause). c ∷ []) is.1
line_has ground one (lines.Block clause) is = ap (λ (c : Clause). c ∷ []) is.1
line_has ground one (lines.End n) is = absurd is

-- the lines have the clauses that are held
pub lines_alike : (vars : ℕ) (ground : Layers) (start held : List Kept) (log : List Line) → AreLines vars ground start held log → AreAlike (lits_of held) (lits_of start ++ clauses_in log)
lines_alike vars ground start _ _ (AreLines.nothing held log same empty) =
    let left : lits_of held ≡ lits_of start = ap lits_of same in
    let right : lits_of start ++ clauses_in log ≡ lits_of start = ap (λ (ls : List Line). lits_of start ++ clauses_in ls) empty ∙ append-nil (lits_of start) in
    subst (λ (cs : List Clause). AreAlike cs (lits_of start ++ clauses_in log)) (sym left) (subst (λ (cs : List Clause). AreAlike (lits_of start) cs) (sym right) (all_alike_self (lits_of start)))
lines_alike vars ground start _ _ (AreLines.more held before one log earlier line whole longer are distinct is) =
    let left : lits_of held ≡ lits_of before ++ one.lits ∷ [] = ap lits_of whole ∙ map-append (λ (kept : Kept). kept.lits) before (one ∷ []) in
    let right : lits_of start ++ clauses_in log ≡ (lits_of start ++ clauses_in earlier) ++ in_order one.lits ∷ [] =
    ap (λ (ls : List Line). lits_of start ++ clauses_in ls) longer
    ∙ ap (λ (cs : List Clause). lits_of start ++ cs) (flat_map-append clause_of earlier (line ∷ []) ∙ ap (λ (cs : List Clause). clauses_in earlier ++ cs) (line_has ground one line is))
    ∙ sym (append_assoc (lits_of start) (clauses_in earlier) (in_order one.lits ∷ [])) in
    let both = all_alike_append (lits_of before) (lits_of start ++ clauses_in earlier) (one.lits ∷ []) (in_order one.lits ∷ []) (lines_alike vars ground start before earlier are) (alike_back (in_order one.lits) one.lits (order_alike one.lits), tt) in
    subst (λ (cs : List Clause). AreAlike cs (lits_of start ++ clauses_in log)) (sym left) (subst (λ (cs : List Clause). AreAlike (lits_of before ++ one.lits ∷ []) cs) (sym right) both)

-- ---- step by step

lines_grow : (vars : ℕ) (ground : Layers) (start held : List Kept) (log : List Line) → AreLines vars ground start held log → length start ≤ length held
lines_grow vars ground start _ _ (AreLines.nothing held log same empty) = let counts : length held ≡ length start = ap length same in omega (arith, counts)
lines_grow vars ground start _ _ (AreLines.more held before one log earlier line whole longer are distinct is) =
    let counts : length held ≡ length before + 1 = ap length whole ∙ length-append before (one ∷ []) in
    let up = lines_grow vars ground start before earlier are in
    omega (arith, counts, up)

came_grow : (this : Length) (start held : List Kept) (sets : List Set) (count : ℕ) → Came this start held sets count → length start ≤ length held
came_grow this start _ _ _ (Came.nothing held sets count same none at_zero) = let counts : length held ≡ length start = ap length same in omega (arith, counts)
came_grow this start _ _ _ (Came.counting held before one sets count less whole more came other counted clash) =
    let counts : length held ≡ length before + 1 = ap length whole ∙ length-append before (one ∷ []) in
    let up = came_grow this start before sets less came in
    omega (arith, counts, up)
came_grow this start _ _ _ (Came.blocking held before one sets past decisions set count whole more came kind block) =
    let counts : length held ≡ length before + 1 = ap length whole ∙ length-append before (one ∷ []) in
    let up = came_grow this start before past count came in
    omega (arith, counts, up)

no_lines : (vars : ℕ) (ground : Layers) (start held : List Kept) (log : List Line) → AreLines vars ground start held log → held ≡ start → log ≡ []
no_lines vars ground start _ _ (AreLines.nothing held log same empty) begun = empty
no_lines vars ground start _ _ (AreLines.more held before one log earlier line whole longer are distinct is) begun =
    let counts : length start ≡ length before + 1 = ap length (sym begun ∙ whole) ∙ length-append before (one ∷ []) in
    let up = lines_grow vars ground start before earlier are in
    absurd (omega (arith, counts, up))

-- the line of the last clause, and the lines before it
record LastLine (vars : ℕ) (ground : Layers) (start before : List Kept) (one : Kept) (log : List Line) : Type 0 where
  earlier : List Line
  line : Line
  whole : log ≡ earlier ++ line ∷ []
  are : AreLines vars ground start before earlier
  distinct : IsTrue (is_clause vars one.lits)
  is : IsLineOf ground one line

last_line : (vars : ℕ) (ground : Layers) (start held before : List Kept) (one : Kept) (log : List Line) → AreLines vars ground start held log → held ≡ before ++ one ∷ [] → length start ≤ length before → LastLine vars ground start before one log
last_line vars ground start _ before one _ (AreLines.nothing held log same empty) ends up =
    let counts : length start ≡ length before + 1 = ap length (sym same ∙ ends) ∙ length-append before (one ∷ []) in
    absurd (omega (arith, counts, up))
last_line vars ground start _ before one _ (AreLines.more held first last log earlier line whole longer are distinct is) ends up =
    let same = same_from_push first before last one (sym whole ∙ ends) in
    record {
      earlier = earlier;
      line = line;
      whole = longer;
      are = subst (λ (held : List Kept). AreLines vars ground start held earlier) same.0 are;
      distinct = subst (λ (kept : Kept). IsTrue (is_clause vars kept.lits)) same.1 distinct;
      is = subst (λ (kept : Kept). IsLineOf ground kept line) same.1 is;
    }

-- a loop clause is one in any order of its literals
loop_alike : (ground : Layers) (U : Set) (first : ℕ) (clause other : Clause) → IsAlike clause other → IsLoopClause ground U first clause → IsLoopClause ground U first other
loop_alike ground U first clause other same loop = record {
  heads = loop.heads;
  within = loop.within;
  negated = same.into (negate (lit_of first)) loop.negated;
  each = λ rule i outside. let w = loop.each rule i outside in (w.0, same.into w.0 w.1, w.2);
  only = λ lit i. loop.only lit (same.from lit i);
}

-- ---- the lines of the search

module _ (length : Length) (bound : ℕ) (start : List Kept) (fits : bound ≤ greatest) (heads : (v : ℕ) → IsTrue (is_head length.ground.modules v) → v < bound) where
  -- the clause of a line in place of the held one
  same_of : (one : Kept) (clause : Clause) → clause ≡ in_order one.lits → IsAlike one.lits clause
  same_of one clause e = subst (λ (c : Clause). IsAlike one.lits c) (sym e) (alike_back (in_order one.lits) one.lits (order_alike one.lits))

  -- a counted clause makes one line of the search more
  counted_line : (before : List Kept) (one : Kept) (log earlier : List Line) (line : Line) (sets : List Set) (count less : ℕ) → log ≡ earlier ++ line ∷ [] → count ≡ suc less → Searched length bound (lits_of start) earlier sets less → AreAlike (lits_of before) (lits_of start ++ clauses_in earlier) → IsTrue (is_clause bound one.lits) → IsLineOf length.ground one line → (one.kind ≡ kinds.Block → ⊥) → IsCounted length (lits_of before) one.lits → (one.kind ≡ kinds.Learnt → Conflict (lits_of before) (negations one.lits)) → Searched length bound (lits_of start) log sets count
  counted_line before one log earlier (lines.Loop atom set clause) sets count less whole more searched alike distinct is other counted clash =
      let same = same_of one clause is.1 in
      Searched.loop log earlier atom set clause sets count less whole more searched
      (subst (λ (c : Clause). IsWritten bound (lines.Loop atom set c)) (sym is.1) (loop_written bound length.ground atom set one.lits fits heads is.2 is.3 distinct))
      (counted_alike (lits_of before) (lits_of start ++ clauses_in earlier) alike length one.lits clause same counted)
      (loop_alike length.ground (among set) atom one.lits clause same is.3)
  counted_line before one log earlier (lines.Learnt clause) sets count less whole more searched alike distinct is other counted clash =
      let same = same_of one clause is.1 in
      Searched.learnt log earlier clause sets count less whole more searched
      (subst (λ (c : Clause). IsWritten bound (lines.Learnt c)) (sym is.1) (order_written bound one.lits fits distinct).1)
      (counted_alike (lits_of before) (lits_of start ++ clauses_in earlier) alike length one.lits clause same counted)
      (conflict_alike (lits_of before) (lits_of start ++ clauses_in earlier) alike (negations one.lits) (negations clause) (negations_alike one.lits clause same) (clash is.0))
  counted_line before one log earlier (lines.Block clause) sets count less whole more searched alike distinct is other counted clash = absurd (other is.0)
  counted_line before one log earlier (lines.Length n) sets count less whole more searched alike distinct is other counted clash = absurd is
  counted_line before one log earlier (lines.Module clause) sets count less whole more searched alike distinct is other counted clash = absurd is
  counted_line before one log earlier (lines.End n) sets count less whole more searched alike distinct is other counted clash = absurd is

  -- and so does a blocking one
  block_line : (before : List Kept) (one : Kept) (log earlier : List Line) (line : Line) (sets past : List Set) (decisions : List Lit) (set : Set) (count : ℕ) → log ≡ earlier ++ line ∷ [] → sets ≡ past ++ set ∷ [] → Searched length bound (lits_of start) earlier past count → AreAlike (lits_of before) (lits_of start ++ clauses_in earlier) → IsTrue (is_clause bound one.lits) → IsLineOf length.ground one line → one.kind ≡ kinds.Block → IsBlock length (lits_of before) one.lits decisions set → Searched length bound (lits_of start) log sets count
  block_line before one log earlier (lines.Block clause) sets past decisions set count whole more searched alike distinct is kind block =
      Searched.block log earlier clause sets past decisions set count whole more searched
      (subst (λ (c : Clause). IsWritten bound (lines.Block c)) (sym is.1) (order_written bound one.lits fits distinct).2)
      (block_alike (lits_of before) (lits_of start ++ clauses_in earlier) alike length one.lits clause decisions set (same_of one clause is.1) block)
  block_line before one log earlier (lines.Loop atom of clause) sets past decisions set count whole more searched alike distinct is kind block = let e : kinds.Loop ≡ kinds.Block = sym is.0 ∙ kind in grind (arith, e)
  block_line before one log earlier (lines.Learnt clause) sets past decisions set count whole more searched alike distinct is kind block = let e : kinds.Learnt ≡ kinds.Block = sym is.0 ∙ kind in grind (arith, e)
  block_line before one log earlier (lines.Length n) sets past decisions set count whole more searched alike distinct is kind block = absurd is
  block_line before one log earlier (lines.Module clause) sets past decisions set count whole more searched alike distinct is kind block = absurd is
  block_line before one log earlier (lines.End n) sets past decisions set count whole more searched alike distinct is kind block = absurd is

  -- the clauses that came and their lines, step by step
  pub came_searched : (held : List Kept) (sets : List Set) (count : ℕ) (log : List Line) → Came length start held sets count → AreLines bound length.ground start held log → Searched length bound (lits_of start) log sets count
  came_searched _ _ _ log (Came.nothing held sets count same none at_zero) are = Searched.nothing log sets count (no_lines bound length.ground start held log are same) none at_zero
  came_searched _ _ _ log (Came.counting held before one sets count less whole more came other counted clash) are =
      let last = last_line bound length.ground start held before one log are whole (came_grow length start before sets less came) in
      counted_line before one log last.earlier last.line sets count less last.whole more (came_searched before sets less last.earlier came last.are) (lines_alike bound length.ground start before last.earlier last.are) last.distinct last.is other counted clash
  came_searched _ _ _ log (Came.blocking held before one sets past decisions set count whole more came kind block) are =
      let last = last_line bound length.ground start held before one log are whole (came_grow length start before past count came) in
      block_line before one log last.earlier last.line sets past decisions set count last.whole more (came_searched before past count last.earlier came last.are) (lines_alike bound length.ground start before last.earlier last.are) last.distinct last.is kind block
