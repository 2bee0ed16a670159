-- A length, printed trace by trace.
use Rattle.std.proofs.Common.{◌≡◌, ℕ, ◌+◌, ◌-◌, ◌*◌, ◌^◌, ◌<◌, ◌≤◌, min, Bool, true, false, ◌&&◌, List, [], ◌∷◌, ◌++◌, length, take, append-nil, length-append, Option, Ok, Err, refl, sym, ap, subst, ◌∙◌, ◌⊎◌, inl, inr, ⊎_elim, arith}
use Rattle.std.specs.Prelude.{Some, nat_lt, nat_le}
use Rattle.std.specs.List.{flat_map}
use Rattle.std.proofs.Math.Nat.{pow-le-pow_right}
use Rattle.std.proofs.Math.Seq.{take-append-add, take-append_seam}
use Rattle.std.proofs.lemmas.Bool.{lt-ltb, le-leb, lt-leb, and_from, and_parts, ltb-true, cond-true, cond-false, cases_Bool, cases_lt}
use Rattle.std.proofs.lemmas.Grind.{flat_map-append}
use Rattle.tel_base.specs.Bytes.{Appends, AppendsFront}
use Rattle.tel_base.specs.Counts.{Rose}
use Rattle.tel_base.proofs.Told.{appends-nothing, appends-then, front-then, front-in-first, front-of-whole}
use Rattle.tel_rule.specs.Ground.{Ground, IsGround}
use Rattle.tel_semantics.specs.declared.ends.How.TheVariants.{Complete, Limit, Budget}
use Rattle.tel_semantics.specs.Equilibrium.{list_of}
use Rattle.tel_semantics.specs.Print.{trace_lines, greatest_count}
use Rattle.atom_space.specs.Numbers.{width}
use Rattle.formula_unfold.specs.Nodes.{counts_of}
use Rattle.search_laws.specs.Origins.{Kept}
use Rattle.cdcl_search.specs.Searches as searches
use Rattle.trace_list.specs.Lengths.{HasLeft}
use Rattle.trace_list.specs.Listing.{IsWithin, IsSpent, IsListing, IsFront}
use Rattle.trace_list.specs.Listing as listings
use Rattle.trace_list.proofs.Extending.{length_has_left}
use Rattle.tel_engine.specs.declared.ends.EngineFault.TheVariants.{Write, Memory}
use Rattle.tel_engine.specs.Ends.{End, is_reached, whole_end, most_counted, IsFewer}
use Rattle.tel_engine.specs.Lists.{PrintsFront, Prints, lines_of, AddsFew, AddsAll}

-- the traces that a listing has come to are printed, and further ones are asked for
pub record IsPrinted (program : Ground) (n : ℕ) (start : List Kept) (models : ℕ) (listing : listings.View) (search : searches.View) (count : ℕ) (old new : Option (List ℕ)) (before now : ℕ) : Type 0 where
  pub traces : List (List (List ℕ))
  pub listed : IsListing program n start listing search traces
  pub front : IsFront traces (list_of program n)
  pub fewer : IsFewer models (length traces)
  pub counted : count ≡ min (length traces) greatest_count
  pub printed : Appends old new (flat_map (trace_lines program) traces)
  pub stands : now ≡ before

-- ---- ends

unreached : (models count : ℕ) → IsFewer models count → is_reached models count ≡ false
unreached models count (inl none) = ap (λ (k : ℕ). nat_lt 0 k && nat_le k count) none
unreached models count (inr less) = and_last (nat_lt 0 models) (nat_le models count) (lt-leb models count less)
  where
    and_last : (x y : Bool) → y ≡ false → (x && y) ≡ false
    and_last true y h = h
    and_last false y h = refl

reached : (models count : ℕ) → 0 < models → models ≤ count → is_reached models count ≡ true
reached models count some enough = and_from (nat_lt 0 models) (nat_le models count) (lt-ltb 0 models some) (le-leb models count enough)

abbrev Traces : Type 0
Traces = List (List (List ℕ))

abbrev limited : Traces → ℕ → End
limited all models = record { traces = take models all; how = Limit }

abbrev completed : Traces → End
completed all = record { traces = all; how = Complete }

whole_limited : (all : Traces) (models : ℕ) → is_reached models (length all) ≡ true → whole_end all models ≡ limited all models
whole_limited all models h = cond-true (is_reached models (length all)) (limited all models) (completed all) h

whole_completed : (all : Traces) (models : ℕ) → is_reached models (length all) ≡ false → whole_end all models ≡ completed all
whole_completed all models h = cond-false (is_reached models (length all)) (limited all models) (completed all) h

front_of_taken : (models : ℕ) (all traces : Traces) → IsFront traces all → (models ≡ 0) ⊎ (length traces ≤ models) → is_reached models (length all) ≡ true → IsFront traces (take models all)
front_of_taken models all traces front (inl none) h =
    let some = ltb-true 0 models (and_parts (nat_lt 0 models) (nat_le models (length all)) h).0 in
    absurd (omega (arith, none, some))
front_of_taken models all traces front (inr enough) h =
    let rest : length traces + (models - length traces) ≡ models = omega (arith, enough) in
    (take (models - length traces) front.0, ap (take models) front.1 ∙ (ap (λ (k : ℕ). take k (traces ++ front.0)) (sym rest) ∙ take-append-add traces front.0 (models - length traces)))

-- a front of the list, not longer than what is asked for, is a front of what is printed where no budget cuts it
pub front_of_whole : (all : Traces) (models : ℕ) (traces : Traces) → IsFront traces all → (models ≡ 0) ⊎ (length traces ≤ models) → IsFront traces (whole_end all models).traces
front_of_whole all models traces front upto =
    ⊎_elim
    (λ h. subst (λ (end : End). IsFront traces end.traces) (sym (whole_limited all models h)) (front_of_taken models all traces front upto h))
    (λ h. subst (λ (end : End). IsFront traces end.traces) (sym (whole_completed all models h)) front)
    (cases_Bool (is_reached models (length all)))

fewer_is_upto : (models count : ℕ) → IsFewer models count → (models ≡ 0) ⊎ (count ≤ models)
fewer_is_upto models count (inl none) = inl none
fewer_is_upto models count (inr less) = inr (omega (arith, less))

fewer_is_upto_next : (models count : ℕ) → IsFewer models count → (models ≡ 0) ⊎ (count + 1 ≤ models)
fewer_is_upto_next models count (inl none) = inl none
fewer_is_upto_next models count (inr less) = inr (omega (arith, less))

limit_end : (all : Traces) (models : ℕ) (traces : Traces) → IsFront traces all → 0 < models → length traces ≡ models → record { traces = traces; how = Limit } ≡ whole_end all models
limit_end all models traces front some same =
    let size = ap length front.1 ∙ length-append traces front.0 in
    let enough : models ≤ length all = omega (arith, size, same) in
    let taken : take models all ≡ traces = ap (take models) front.1 ∙ (ap (λ (k : ℕ). take k (traces ++ front.0)) (sym same) ∙ take-append_seam traces front.0) in
    sym (whole_limited all models (reached models (length all) some enough) ∙ ap (λ (ts : Traces). record { traces = ts; how = Limit }) taken)

complete_end : (all : Traces) (models : ℕ) (traces : Traces) → all ≡ traces → IsFewer models (length traces) → record { traces = traces; how = Complete } ≡ whole_end all models
complete_end all models traces are fewer =
    let none = subst (λ (k : ℕ). is_reached models k ≡ false) (sym (ap length are)) (unreached models (length traces) fewer) in
    sym (whole_completed all models none ∙ ap completed are)

-- ---- counts

-- a count that isn't what is asked for is below it
next_fewer : (most models count more : ℕ) → IsFewer models count → more ≡ min (count + 1) most → models ≤ most → (more ≡ models → ⊥) → IsFewer models (count + 1)
next_fewer most models count more (inl none) is range other = inl none
next_fewer most models count more (inr less) is range other =
    ⊎_elim (λ (l : count + 1 < models). inr l) (λ (l : models ≤ count + 1). absurd (other (omega (arith, less, is, range, l)))) (cases_lt (count + 1) models)

at_limit : (most models count more : ℕ) → 0 < most → IsFewer models count → more ≡ min (count + 1) most → more ≡ models → (0 < models) × (count + 1 ≡ models)
at_limit most models count more some (inl none) is enough = absurd (omega (arith, some, none, is, enough))
at_limit most models count more some (inr less) is enough = (omega (arith, some, is, enough), omega (arith, less, is, enough))

-- ---- trace by trace

module _ (program : Ground) (n : ℕ) (start : List Kept) (models : ℕ) where
  abbrev lines : Traces → List ℕ
  lines traces = flat_map (trace_lines program) traces

  lines_more : (traces : Traces) (trace : List (List ℕ)) → lines (traces ++ trace ∷ []) ≡ lines traces ++ trace_lines program trace
  lines_more traces trace =
      flat_map-append (trace_lines program) traces (trace ∷ []) ∙ ap (λ (bytes : List ℕ). lines traces ++ bytes) (append-nil (trace_lines program trace))

  -- the lines of a front are a front of the lines
  front_lines : (traces all : Traces) (old new : Option (List ℕ)) → IsFront traces all → AppendsFront old new (lines traces) → AppendsFront old new (lines all)
  front_lines traces all old new front printed =
      subst (AppendsFront old new) (sym (ap lines front.1 ∙ flat_map-append (trace_lines program) traces front.0)) (front-in-first old new (lines traces) (lines front.0) printed)

  some_asked : (models : ℕ) → IsFewer models 0
  some_asked models = ⊎_elim (λ some. inr some) (λ none. inl (omega (arith, none))) (cases_lt 0 models)

  pub printed_start : (listing : listings.View) (search : searches.View) (old : Option (List ℕ)) (before : ℕ) → IsListing program n start listing search [] → IsPrinted program n start models listing search 0 old old before before
  printed_start listing search old before listed = record {
    traces = [];
    listed = listed;
    front = (list_of program n, refl);
    fewer = some_asked models;
    counted = refl;
    printed = appends-nothing old;
    stands = refl;
  }

  module _ (listing : listings.View) (search : searches.View) (count : ℕ) (old mid : Option (List ℕ)) (before between : ℕ) (state : IsPrinted program n start models listing search count old mid before between) where
    -- a front of an end is printed
    front_printed : (conflicts : Option ℕ) (new : Option (List ℕ)) (traces : Traces) → IsFront traces (list_of program n) → (models ≡ 0) ⊎ (length traces ≤ models) → AppendsFront old new (lines traces) → PrintsFront (lines_of program) program n models conflicts old new
    front_printed conflicts new traces front upto printed = record {
      end = whole_end (list_of program n) models;
      is_end = inl refl;
      printed = front_lines traces (whole_end (list_of program n) models).traces old new (front_of_whole (list_of program n) models traces front upto) printed;
    }

    -- where there is no memory for the next trace
    pub printed_memory : (conflicts : Option ℕ) → Prints (lines_of program) program n models conflicts (Err Memory) old mid before between
    printed_memory conflicts =
        (front_printed conflicts mid state.traces state.front (fewer_is_upto models (length state.traces) state.fewer) (front-of-whole old mid (lines state.traces) state.printed), state.stands)

    -- where the next trace can't be written
    pub printed_write : (conflicts : Option ℕ) (trace : List (List ℕ)) (new : Option (List ℕ)) (now : ℕ) → IsFront (state.traces ++ trace ∷ []) (list_of program n) → AppendsFront mid new (trace_lines program trace) → Rose between now → Prints (lines_of program) program n models conflicts (Err Write) old new before now
    printed_write conflicts trace new now front short rose =
        let size = length-append state.traces (trace ∷ []) in
        let upto : (models ≡ 0) ⊎ (length (state.traces ++ trace ∷ []) ≤ models) = subst (λ (k : ℕ). (models ≡ 0) ⊎ (k ≤ models)) (sym size) (fewer_is_upto_next models (length state.traces) state.fewer) in (
          front_printed conflicts new (state.traces ++ trace ∷ []) front upto (subst (AppendsFront old new) (sym (lines_more state.traces trace)) (front-then old mid new (lines state.traces) (trace_lines program trace) state.printed short)),
          subst (λ (k : ℕ). Rose k now) state.stands rose,
        )

    -- where it is written
    both_printed : (trace : List (List ℕ)) (new : Option (List ℕ)) → Appends mid new (trace_lines program trace) → Appends old new (lines (state.traces ++ trace ∷ []))
    both_printed trace new whole = subst (Appends old new) (sym (lines_more state.traces trace)) (appends-then old mid new (lines state.traces) (trace_lines program trace) state.printed whole)

    count_more : (trace : List (List ℕ)) (more : ℕ) → more ≡ min (count + 1) greatest_count → more ≡ min (length (state.traces ++ trace ∷ [])) greatest_count
    count_more trace more is =
        let size = length-append state.traces (trace ∷ []) in
        let was = state.counted in
        omega (arith, size, was, is)

    next_count : (trace : List (List ℕ)) (more : ℕ) → more ≡ min (count + 1) greatest_count → more ≡ min (length state.traces + 1) greatest_count
    next_count trace more is = count_more trace more is ∙ ap (λ (k : ℕ). min k greatest_count) (length-append state.traces (trace ∷ []))

    pub printed_more : (next : listings.View) (after : searches.View) (trace : List (List ℕ)) (more : ℕ) (new : Option (List ℕ)) (now : ℕ) → IsListing program n start next after (state.traces ++ trace ∷ []) → IsFront (state.traces ++ trace ∷ []) (list_of program n) → Appends mid new (trace_lines program trace) → now ≡ between → more ≡ min (count + 1) greatest_count → models ≤ greatest_count → (more ≡ models → ⊥) → IsPrinted program n start models next after more old new before now
    printed_more next after trace more new now listed front whole same is range other = record {
      traces = state.traces ++ trace ∷ [];
      listed = listed;
      front = front;
      fewer = subst (IsFewer models) (sym (length-append state.traces (trace ∷ []))) (next_fewer greatest_count models (length state.traces) more state.fewer (next_count trace more is) range other);
      counted = count_more trace more is;
      printed = both_printed trace new whole;
      stands = same ∙ state.stands;
    }

    -- where as many are printed as are asked for
    pub printed_limit : (conflicts : Option ℕ) (trace : List (List ℕ)) (more : ℕ) (new : Option (List ℕ)) (now : ℕ) → IsFront (state.traces ++ trace ∷ []) (list_of program n) → Appends mid new (trace_lines program trace) → now ≡ between → more ≡ min (count + 1) greatest_count → more ≡ models → Prints (lines_of program) program n models conflicts (Ok (record { how = Limit; traces = more })) old new before now
    printed_limit conflicts trace more new now front whole same is enough =
        let at = at_limit greatest_count models (length state.traces) more (omega arith) state.fewer (next_count trace more is) enough in (
          record {
            end = record { traces = state.traces ++ trace ∷ []; how = Limit };
            is_end = inl (limit_end (list_of program n) models (state.traces ++ trace ∷ []) front at.0 (length-append state.traces (trace ∷ []) ∙ at.1));
            tells = record { how = refl; traces = count_more trace more is };
            printed = both_printed trace new whole;
          },
          same ∙ state.stands,
        )

    -- where there is none
    pub printed_complete : (conflicts : Option ℕ) → list_of program n ≡ state.traces → Prints (lines_of program) program n models conflicts (Ok (record { how = Complete; traces = count })) old mid before between
    printed_complete conflicts all = (
      record {
        end = record { traces = state.traces; how = Complete };
        is_end = inl (complete_end (list_of program n) models state.traces all state.fewer);
        tells = record { how = refl; traces = state.counted };
        printed = state.printed;
      },
      state.stands,
    )

    -- where the budget is used up
    pub printed_spent : (conflicts : Option ℕ) (budget : ℕ) → conflicts ≡ Some budget → budget < most_counted program n → Prints (lines_of program) program n models conflicts (Ok (record { how = Budget; traces = count })) old mid before between
    printed_spent conflicts budget given small =
        let front = front_of_whole (list_of program n) models state.traces state.front (fewer_is_upto models (length state.traces) state.fewer) in (
          record {
            end = record { traces = state.traces; how = Budget };
            is_end = inr (record { budget = budget; given = given; small = small; how = refl; rest = front.0; front = front.1; fewer = state.fewer });
            tells = record { how = refl; traces = state.counted };
            printed = state.printed;
          },
          state.stands,
        )

-- ---- how many clauses a budget counts

-- one that is used up is below the number of clauses over the variables of n + 1 states
pub spent_small : (program : Ground) (n : ℕ) (start : List Kept) (conflicts : Option ℕ) (search : searches.View) (vars : ℕ) (is : IsSpent program n start conflicts search) → search.vars ≡ vars → vars ≤ (n + 1) * width (counts_of program) → is.counted < most_counted program n
unfolding most_counted
spent_small program n start conflicts search vars is same few =
    let small = is.few in
    let wider : search.vars ≤ (n + 1) * width (counts_of program) = omega (arith, same, few) in
    let most : 3 ^ search.vars ≤ 3 ^ ((n + 1) * width (counts_of program)) = pow-le-pow_right (omega arith) wider in
    omega (arith, small, most)

-- ---- what a listing leaves

-- the search can go on to the next length
pub listing_left : (program : Ground) (n : ℕ) (start : List Kept) (listing : listings.View) (search : searches.View) (traces : Traces) → IsGround program → IsListing program n start listing search traces → HasLeft program n search
listing_left program n start listing search traces ground is = length_has_left program n search is.sets ground is.length

-- the clauses that came are few
pub listing_few : (program : Ground) (n : ℕ) (start : List Kept) (conflicts : Option ℕ) (listing : listings.View) (search : searches.View) (traces : Traces) → listing.conflicts ≡ conflicts → IsListing program n start listing search traces → AddsFew conflicts start search.kept
listing_few program n start conflicts listing search traces same is = record {
  counted = is.fits.counted;
  added = is.added;
  few = subst (λ (o : Option ℕ). IsWithin o is.fits.counted) same is.budget;
}

-- or as many as the budget
pub spent_all : (program : Ground) (n : ℕ) (start : List Kept) (conflicts : Option ℕ) (listing : listings.View) (search : searches.View) → listing.conflicts ≡ conflicts → IsSpent program n start listing.conflicts search → AddsAll program n conflicts start search.kept
spent_all program n start conflicts listing search same is = record { budget = is.counted; given = sym same ∙ is.budget; added = is.added; needed = is.needed }
