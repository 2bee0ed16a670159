-- The lines of a length are as good behind clauses that are alike.
use Rattle.std.proofs.Common.{ℕ, Bool, List, [], ◌∷◌, ◌++◌}
use Rattle.tel_base.specs.Literals.{lit_of, negations}
use Rattle.clause_store.specs.Closure.{Clause}
use Rattle.normal_program.specs.StableSets.{Set}
use Rattle.search_laws.specs.Lengths.{Length}
use Rattle.proof_log.specs.declared.line.Line.{Line}
use Rattle.search_log.specs.Alike.{AreAlike}
use Rattle.search_log.specs.ValidLogs.{clauses_in, Searched, nothing, loop, learnt, block, opening, IsLengthLog}
use Rattle.search_log.proofs.SameClauses.{alike_self, all_alike_self, all_alike_append, conflict_alike}
use Rattle.search_log.proofs.SameWalks.{counted_alike, block_alike}

-- with more clauses behind them
behind_alike : (clauses fellows more : List Clause) → AreAlike clauses fellows → AreAlike (clauses ++ more) (fellows ++ more)
behind_alike clauses fellows more alike = all_alike_append clauses fellows more more alike (all_alike_self more)

searched_alike : (length : Length) (bound : ℕ) (before other : List Clause) → AreAlike before other → (log : List Line) (sets : List Set) (count : ℕ) → Searched length bound before log sets count → Searched length bound other log sets count
searched_alike length bound before other alike _ _ _ (nothing log sets count empty none at_zero) = nothing log sets count empty none at_zero
searched_alike length bound before other alike _ _ _ (loop log earlier atom set clause sets count less whole more searched written counted is) =
    let old = before ++ clauses_in earlier in
    let new = other ++ clauses_in earlier in
    let same = behind_alike before other (clauses_in earlier) alike in
    loop log earlier atom set clause sets count less whole more (searched_alike length bound before other alike earlier sets less searched) written (counted_alike old new same length clause clause (alike_self clause) counted) is
searched_alike length bound before other alike _ _ _ (learnt log earlier clause sets count less whole more searched written counted clash) =
    let old = before ++ clauses_in earlier in
    let new = other ++ clauses_in earlier in
    let same = behind_alike before other (clauses_in earlier) alike in
    learnt log earlier clause sets count less whole more (searched_alike length bound before other alike earlier sets less searched) written (counted_alike old new same length clause clause (alike_self clause) counted) (conflict_alike old new same (negations clause) (negations clause) (alike_self (negations clause)) clash)
searched_alike length bound before other alike _ _ _ (block log earlier clause sets past decisions set count whole more searched written is) =
    let old = before ++ clauses_in earlier in
    let new = other ++ clauses_in earlier in
    let same = behind_alike before other (clauses_in earlier) alike in
    block log earlier clause sets past decisions set count whole more (searched_alike length bound before other alike earlier past count searched) written (block_alike old new same length clause clause decisions set (alike_self clause) is)

pub length_alike : (length : Length) (bound n : ℕ) (before other : List Clause) (sets : List Set) (count : ℕ) (complete : Bool) (log : List Line) → AreAlike before other → IsLengthLog length bound n before sets count complete log → IsLengthLog length bound n other sets count complete log
length_alike length bound n before other sets count complete log alike is = record {
  searched = is.searched;
  whole = is.whole;
  written = is.written;
  lines = searched_alike length bound (before ++ length.clauses) (other ++ length.clauses) (behind_alike before other length.clauses alike) is.searched sets count is.lines;
  closed = λ done.
      let more = clauses_in (opening length n ++ is.searched) in
      let start = lit_of length.ending ∷ [] in
      conflict_alike (before ++ more) (other ++ more) (behind_alike before other more alike) start start (alike_self start) (is.closed done);
}
