-- Linked lists in one table.
use Rattle.std.proofs.Common.{◌≡◌, ℕ, zero, suc, ◌+◌, ◌-◌, ◌<◌, ◌≤◌, List, [], ◌∷◌, ◌++◌, length, reverse, get_or, set, refl, sym, ap, subst, ◌∙◌, ⊎_elim, arith, get_or-set_other, get_or-set_same}
use Rattle.std.specs.Prelude.{◌==◌, Some}
use Rattle.std.proofs.lemmas.List.{length-append, length-reverse, reverse-append, get_or-reverse}
use Rattle.std.proofs.lemmas.Bool.{cases_eq, cases_lt, cond-true, cond-false, eq-eqb, ne_eqb}
use Rattle.unfounded_sets.specs.declared.waits.Wait.{Wait}
use Rattle.unfounded_sets.specs.declared.waits.Link.{Link}
use Rattle.unfounded_sets.specs.Waiting.{chain, row, waiting_of, Earlier, IsLinked, Takes}

-- a later link changes no list
chain_more : (link : Link) (older : List Link) (k : ℕ) → k ≤ length older → chain (link ∷ older) k ≡ chain older k
chain_more link older k l = cond-false (k == suc (length older)) (link.wait ∷ chain older link.next) (chain older k) (ne_eqb k (suc (length older)) (λ e. absurd (omega (arith, e, l))))

chain_new : (link : Link) (older : List Link) (k : ℕ) → k ≡ suc (length older) → chain (link ∷ older) k ≡ (link.wait ∷ chain older link.next)
chain_new link older k e = cond-true (k == suc (length older)) (link.wait ∷ chain older link.next) (chain older k) (eq-eqb k (suc (length older)) e)

-- the link with a number
abbrev link_at : List Link → ℕ → Link → Link
link_at links k d = get_or links (length links - k) d

link_step : (link : Link) (older : List Link) (k : ℕ) (d : Link) → k ≤ length older → link_at (link ∷ older) k d ≡ link_at older k d
link_step link older k d l =
    let next : suc (length older) - k ≡ suc (length older - k) = omega (arith, l) in
    ap (λ (n : ℕ). get_or (link ∷ older) n d) next

link_last : (link : Link) (older : List Link) (k : ℕ) (d : Link) → k ≡ suc (length older) → link_at (link ∷ older) k d ≡ link
link_last link older k d e =
    let none : suc (length older) - k ≡ 0 = omega (arith, e) in
    ap (λ (n : ℕ). get_or (link ∷ older) n d) none

next_before : (links : List Link) (k : ℕ) (d : Link) → Earlier links → 0 < k → k ≤ length links → (link_at links k d).next < k
next_before [] k d earlier some l = absurd (omega (arith, some, l))
next_before (link ∷ older) k d earlier some l =
    ⊎_elim (λ (within : k < suc (length older)).
    let low : k ≤ length older = omega (arith, within) in
    let rest = next_before older k d earlier.1 some low in
    subst (λ (x : Link). x.next < k) (sym (link_step link older k d low)) rest) (λ (past : suc (length older) ≤ k).
    let last : k ≡ suc (length older) = omega (arith, past, l) in
    let here = earlier.0 in
    subst (λ (x : Link). x.next < k) (sym (link_last link older k d last)) (omega (arith, here, last))) (cases_lt k (suc (length older)))

chain_at : (links : List Link) (k : ℕ) (d : Link) → Earlier links → 0 < k → k ≤ length links → chain links k ≡ ((link_at links k d).wait ∷ chain links (link_at links k d).next)
chain_at [] k d earlier some l = absurd (omega (arith, some, l))
chain_at (link ∷ older) k d earlier some l =
    ⊎_elim (λ (within : k < suc (length older)).
    let low : k ≤ length older = omega (arith, within) in
    let before = next_before older k d earlier.1 some low in
    let rest = chain_at older k d earlier.1 some low in
    chain_more link older k low ∙ rest ∙ ap (λ (c : List Wait). (link_at older k d).wait ∷ c) (sym (chain_more link older (link_at older k d).next (omega (arith, before, low)))) ∙ ap (λ (x : Link). x.wait ∷ chain (link ∷ older) x.next) (sym (link_step link older k d low))) (λ (past : suc (length older) ≤ k).
    let last : k ≡ suc (length older) = omega (arith, past, l) in
    chain_new link older k last ∙ ap (λ (c : List Wait). link.wait ∷ c) (sym (chain_more link older link.next earlier.0)) ∙ ap (λ (x : Link). x.wait ∷ chain (link ∷ older) x.next) (sym (link_last link older k d last))) (cases_lt k (suc (length older)))

-- ---- a wait more

push_is : (links : List Link) (link : Link) → reverse (links ++ link ∷ []) ≡ link ∷ reverse links
push_is links link = reverse-append links (link ∷ [])

set_past : (xs : List ℕ) (i v x : ℕ) → length xs ≤ i → get_or (set xs i x) v 0 ≡ get_or xs v 0
set_past [] i v x l = refl
set_past (y ∷ xs) zero v x l = absurd (omega (arith, l))
set_past (y ∷ xs) (suc i) zero x l = refl
set_past (y ∷ xs) (suc i) (suc v) x l = set_past xs i v x (omega (arith, l))

pub add_linked : (first : List ℕ) (links : List Link) (var : ℕ) (link : Link) (count : ℕ) → IsLinked first links → link.next ≡ get_or first var 0 → count ≡ length links + 1 → IsLinked (set first var count) (links ++ link ∷ [])
add_linked first links var link count linked next many =
    let long : length (links ++ link ∷ []) ≡ length links + 1 = length-append links (link ∷ []) in
    record {
      firsts = λ v.
          let old = linked.firsts v in
          let all : get_or (set first var count) v 0 ≤ count = ⊎_elim (λ (e : var ≡ v). ⊎_elim (λ (l : var < length first). let is = get_or-set_same first var count 0 l in subst (λ (u : ℕ). get_or (set first var count) u 0 ≤ count) e (omega (arith, is))) (λ (l : length first ≤ var). let is = set_past first var v count l in omega (arith, is, old, many)) (cases_lt var (length first))) (λ ne. let is = get_or-set_other first var v count 0 (λ e. ne (sym e)) in omega (arith, is, old, many)) (cases_eq var v) in
          omega (arith, all, many, long);
      earlier = subst Earlier (sym (push_is links link)) (
          let old = linked.firsts var in
          let long_back = length-reverse links in
          (omega (arith, next, old, long_back), linked.earlier));
    }

-- ---- a wait less

vector_link : (links : List Link) (k : ℕ) (link d : Link) → 0 < k → k ≤ length links → link ≡ get_or links (k - 1) d → link ≡ link_at (reverse links) k d
vector_link links k link d some l is =
    let back = length-reverse links in
    let place : length (reverse links) - k < length links = omega (arith, some, l, back) in
    let there : length links - 1 - (length (reverse links) - k) ≡ k - 1 = omega (arith, some, l, back) in
    is ∙ ap (λ (n : ℕ). get_or links n d) (sym there) ∙ sym (get_or-reverse links (length (reverse links) - k) d place)

pub take_linked : (first : List ℕ) (links : List Link) (var k : ℕ) (link d : Link) → IsLinked first links → k ≡ get_or first var 0 → 0 < k → link ≡ get_or links (k - 1) d → IsLinked (set first var link.next) links
take_linked first links var k link d linked is some at_link =
    let low = linked.firsts var in
    let within : k ≤ length links = omega (arith, low, is) in
    let same = vector_link links k link d some within at_link in
    let before : link.next < k = subst (λ (x : Link). x.next < k) (sym same) (next_before (reverse links) k d linked.earlier some (let back = length-reverse links in omega (arith, within, back))) in
    record {
      firsts = λ v.
          let old = linked.firsts v in
          ⊎_elim (λ (e : var ≡ v). ⊎_elim (λ (l : var < length first). let here = get_or-set_same first var link.next 0 l in subst (λ (u : ℕ). get_or (set first var link.next) u 0 ≤ length links) e (omega (arith, here, before, within))) (λ (l : length first ≤ var). let past = set_past first var v link.next l in omega (arith, past, old)) (cases_lt var (length first))) (λ ne. let other = get_or-set_other first var v link.next 0 (λ e. ne (sym e)) in omega (arith, other, old)) (cases_eq var v);
      earlier = linked.earlier;
    }

pub take_rows : (first : List ℕ) (links : List Link) (var k : ℕ) (link d : Link) → IsLinked first links → var < length first → k ≡ get_or first var 0 → 0 < k → link ≡ get_or links (k - 1) d → Takes (Some link.wait) var (row (waiting_of first links)) (row (waiting_of (set first var link.next) links))
take_rows first links var k link d linked inside is some at_link v =
    let list : List Link = reverse links in
    let low = linked.firsts var in
    let back = length-reverse links in
    let within : k ≤ length links = omega (arith, low, is) in
    let same = vector_link links k link d some within at_link in
    ⊎_elim (λ (e : v ≡ var).
    let here : get_or (set first var link.next) v 0 ≡ link.next = ap (λ (u : ℕ). get_or (set first var link.next) u 0) e ∙ get_or-set_same first var link.next 0 inside in
    ap (chain list) (ap (λ (u : ℕ). get_or first u 0) e ∙ sym is) ∙ chain_at list k d linked.earlier some (omega (arith, within, back)) ∙ ap (λ (x : Link). x.wait ∷ chain list x.next) (sym same) ∙ ap (λ (n : ℕ). link.wait ∷ chain list n) (sym here) ∙ sym (cond-true (v == var) (link.wait ∷ chain list (get_or (set first var link.next) v 0)) (chain list (get_or (set first var link.next) v 0)) (eq-eqb v var e))) (λ ne.
    ap (chain list) (sym (get_or-set_other first var v link.next 0 ne)) ∙ sym (cond-false (v == var) (link.wait ∷ chain list (get_or (set first var link.next) v 0)) (chain list (get_or (set first var link.next) v 0)) (ne_eqb v var ne))) (cases_eq v var)

-- nothing waits behind the number 0
chain_none : (links : List Link) → chain links 0 ≡ []
chain_none [] = refl
chain_none (link ∷ older) = chain_more link older 0 (omega arith) ∙ chain_none older

pub none_rows : (first : List ℕ) (links : List Link) (var k : ℕ) → k ≡ get_or first var 0 → k ≡ 0 → row (waiting_of first links) var ≡ []
none_rows first links var k is none = ap (chain (reverse links)) (sym is ∙ none) ∙ chain_none (reverse links)

-- a variable with a link has a place
pub row_range : (first : List ℕ) (var k : ℕ) → k ≡ get_or first var 0 → 0 < k → var < length first
row_range [] var k is some = absurd (omega (arith, is, some))
row_range (x ∷ first) zero k is some = omega arith
row_range (x ∷ first) (suc var) k is some = let rest = row_range first var k is some in omega (arith, rest)
