-- How many traces a listing has still to find.
use Rattle.std.proofs.Common.{◌≡◌, ℕ, ◌+◌, ◌-◌, ◌<◌, Bool, true, false, ◌&&◌, List, [], ◌∷◌, ◌++◌, length, map, refl, sym, ap, subst, ◌∙◌, arith, length-append}
use Rattle.std.specs.Prelude.{◌==◌}
use Rattle.std.specs.List.{filter}
use Rattle.std.proofs.lemmas.Bool.{eq-eqb, ne_eqb, cond-true, cond-false}
use Rattle.std.proofs.lemmas.List.{length-map}
use Rattle.std.proofs.lemmas.List.Elements.{filter-append}
use Rattle.tel_rule.specs.Ground.{Ground}
use Rattle.tel_semantics.specs.Equilibrium.{list_of}
use Rattle.normal_program.specs.StableSets.{Set}
use Rattle.clause_store.specs.declared.store.ClauseKind.{ClauseKind}
use Rattle.clause_store.specs.declared.store.ClauseKind.TheVariants as kinds
use Rattle.search_laws.specs.Lengths.{Length}
use Rattle.search_laws.specs.Origins.{Kept, Grown, none, added}
use Rattle.search_laws.specs.Runs.{Run, begins, adds, blocks}
use Rattle.cdcl_search.specs.Searches as searches
use Rattle.stable_models.specs.Values.{read_trace}
use Rattle.trace_list.specs.declared.stages.Stage.{Stage}
use Rattle.trace_list.specs.declared.stages.Stage.TheVariants as stages
use Rattle.trace_list.specs.Reading.{trace_of}
use Rattle.trace_list.specs.Listing.{View, Stands, IsListing, IsFront}

-- ---- the blocking clauses of a length

abbrev is_block : ClauseKind → Bool
is_block kinds.Block = true
is_block kinds.Module = false
is_block kinds.Loop = false
is_block kinds.Learnt = false

abbrev blocks_at : ℕ → Kept → Bool
blocks_at n one = is_block one.kind && (one.length == n)

blocked : ℕ → List Kept → ℕ
blocked n kept = length (filter (blocks_at n) kept)

block_is : (kind : ClauseKind) → is_block kind ≡ true → kind ≡ kinds.Block
block_is kinds.Block h = refl
block_is kinds.Module h = absurd (cc)
block_is kinds.Loop h = absurd (cc)
block_is kinds.Learnt h = absurd (cc)

one_more : (n : ℕ) (held before : List Kept) (one : Kept) → held ≡ before ++ one ∷ [] → blocks_at n one ≡ true → blocked n held ≡ blocked n before + 1
unfolding blocked
one_more n held before one whole is =
    ap (λ (hs : List Kept). length (filter (blocks_at n) hs)) whole
    ∙ (ap length (filter-append (blocks_at n) before (one ∷ []))
    ∙ (length-append (filter (blocks_at n) before) (filter (blocks_at n) (one ∷ []))
    ∙ ap (λ (hs : List Kept). length (filter (blocks_at n) before) + length hs) (cond-true (blocks_at n one) (one ∷ []) [] is)))

no_more : (n : ℕ) (held before : List Kept) (one : Kept) → held ≡ before ++ one ∷ [] → blocks_at n one ≡ false → blocked n held ≡ blocked n before
unfolding blocked
no_more n held before one whole is =
    ap (λ (hs : List Kept). length (filter (blocks_at n) hs)) whole
    ∙ (ap length (filter-append (blocks_at n) before (one ∷ []))
    ∙ (length-append (filter (blocks_at n) before) (filter (blocks_at n) (one ∷ []))
    ∙ (ap (λ (hs : List Kept). length (filter (blocks_at n) before) + length hs) (cond-false (blocks_at n one) (one ∷ []) [] is)
    ∙ omega arith)))

and_lost : (x y : Bool) → y ≡ false → (x && y) ≡ false
and_lost true y h = h
and_lost false y h = refl

and_none : (x y : Bool) → x ≡ false → (x && y) ≡ false
and_none x y h = ap (λ (b : Bool). b && y) h

-- shorter lengths leave none
grown_blocked : (lengths : ℕ → Length) (k n : ℕ) (held : List Kept) → k < n → Grown lengths k held → blocked n held ≡ 0
unfolding blocked
grown_blocked lengths k n held l (none _ empty) = ap (λ (hs : List Kept). length (filter (blocks_at n) hs)) empty
grown_blocked lengths k n held l (added _ before one whole grown some upto origin) =
    no_more n held before one whole (and_lost (is_block one.kind) (one.length == n) (ne_eqb one.length n (λ e. absurd (omega (arith, e, upto, l))))) ∙ grown_blocked lengths k n before l grown

-- there is one for each set that was found and blocked
run_blocked : (lengths : ℕ → Length) (n : ℕ) (held : List Kept) (sets : List Set) → Run lengths n held sets → blocked n held ≡ length sets
run_blocked lengths n held sets (begins _ _ k l grown empty) = grown_blocked lengths k n held l grown ∙ sym (ap length empty)
run_blocked lengths n held sets (adds _ _ before one whole run of_length other origin) =
    no_more n held before one whole (and_none (is_block one.kind) (one.length == n) (not_block one.kind other)) ∙ run_blocked lengths n before sets run
  where
    not_block : (kind : ClauseKind) → (kind ≡ kinds.Block → ⊥) → is_block kind ≡ false
    not_block kinds.Block h = absurd (h refl)
    not_block kinds.Module h = refl
    not_block kinds.Loop h = refl
    not_block kinds.Learnt h = refl
run_blocked lengths n held sets (blocks _ _ before one past decisions set whole more run of_length is block) =
    let rest = run_blocked lengths n before past run in
    one_more n held before one whole (λ i. is_block (is i) && eq-eqb one.length n of_length i)
    ∙ (ap (λ (k : ℕ). k + 1) rest ∙ sym (ap length more ∙ length-append past (set ∷ [])))

-- ---- the traces so far

-- one where a trace was found and isn't blocked yet
pending : Stage → ℕ
pending stages.Found = 1
pending stages.Seeking = 0
pending stages.Complete = 0
pending stages.Spent = 0

abbrev so_far : View → searches.View → ℕ
so_far listing search = blocked listing.n search.kept + pending listing.stage

stands_length : (program : Ground) (n : ℕ) (start : List Kept) (listing : View) (stage : Stage) (search : searches.View) (counted : ℕ) (sets : List Set) (traces : List (List (List ℕ))) → Stands program n start listing stage search counted sets traces → length traces ≡ length sets + pending stage
unfolding pending
stands_length program n start listing stages.Seeking search counted sets traces h = sym (ap length h) ∙ (length-map sets (read_trace program n) ∙ omega arith)
stands_length program n start listing stages.Found search counted sets traces h =
    sym (ap length h.1)
    ∙ (length-append (map (read_trace program n) sets) (trace_of search.trail.entries listing.space.counts listing.n ∷ [])
    ∙ ap (λ (k : ℕ). k + 1) (length-map sets (read_trace program n)))
stands_length program n start listing stages.Complete search counted sets traces h = sym (ap length h.0) ∙ (length-map sets (read_trace program n) ∙ omega arith)
stands_length program n start listing stages.Spent search counted sets traces h = sym (ap length h.0) ∙ (length-map sets (read_trace program n) ∙ omega arith)

so_far_length : (program : Ground) (n : ℕ) (start : List Kept) (listing : View) (search : searches.View) (traces : List (List (List ℕ))) → IsListing program n start listing search traces → so_far listing search ≡ length traces
so_far_length program n start listing search traces is =
    let first = subst (λ (k : ℕ). blocked k search.kept ≡ length is.sets) (sym is.number) (run_blocked _ n search.kept is.sets is.length.run) in
    ap (λ (k : ℕ). k + pending listing.stage) first ∙ sym (stands_length program n start listing listing.stage search is.fits.counted is.sets traces is.stands)

-- ---- and those to come

pub left : Ground → View → searches.View → ℕ
left program listing search = length (list_of program listing.n) - so_far listing search

-- with each trace more they are one fewer
pub left_falls : (program : Ground) (n : ℕ) (start : List Kept) (old new : View) (before after : searches.View) (traces : List (List (List ℕ))) (trace : List (List ℕ)) → IsListing program n start old before traces → IsListing program n start new after (traces ++ trace ∷ []) → IsFront (traces ++ trace ∷ []) (list_of program n) → left program new after < left program old before
unfolding left
left_falls program n start old new before after traces trace was is front =
    let one = so_far_length program n start old before traces was in
    let two = so_far_length program n start new after (traces ++ trace ∷ []) is in
    let more = length-append traces (trace ∷ []) in
    let all = ap length front.1 ∙ length-append (traces ++ trace ∷ []) front.0 in
    falls (length (list_of program old.n)) (length (list_of program new.n)) (length (list_of program n)) (so_far old before) (so_far new after) (length traces) (length (traces ++ trace ∷ [])) (length front.0)
    (ap (λ (k : ℕ). length (list_of program k)) was.number) (ap (λ (k : ℕ). length (list_of program k)) is.number) one two more all
  where
    falls : (a b all x y k l rest : ℕ) → a ≡ all → b ≡ all → x ≡ k → y ≡ l → l ≡ k + 1 → all ≡ l + rest → b - y < a - x
    falls a b all x y k l rest p q r s t u = omega (arith, p, q, r, s, t, u)
