use Rattle.std.proofs.Common.{◌≡◌, ℕ, ◌+◌, ◌<◌, ◌≤◌, true, false, List, [], ◌∷◌, ◌++◌, length, take, Option, Some, None, is_some, slice_index_or, slice_set, sym, subst, ap, ◌∙◌, arith}
use Rattle.std.proofs.lemmas.List.{length-append}
use Rattle.tel_base.proofs.Members.{In}
use Rattle.tel_term.specs.declared.terms.Value.{Value}
use Rattle.rule_constants.specs.declared.solving.Step.{Step}
use Rattle.rule_constants.specs.Constants.{all_known, next_values}
use Rattle.rule_constants.specs.Operands.{by_number}
use Rattle.rule_constants.proofs.Walks.{IsWalk, walk-init, moved, walk-moved, walk-down, walk-up, walk-done, stuck_again, stuck_here, in-get, untried-tried}
use Rattle.rule_constants.proofs.solving.solve.Goals as goal

pub solving-init : goal.solving-init
solving-init c =
    let S = c.args.statements.now in
    let L = c.args.links.now in
    let K = c.args.known.now.items in
    let T = c.args.tried.now.items in
    let e = c.in_ok-top.ensures in
    let w = walk-init S L c.args.start K T c.in_ok-top.top c.requires.settled c.requires.start e.definition e.needs e.next in
    subst (λ (b : List Step). IsWalk S L c.args.start K K (slice_set T c.args.start true) b c.in_ok-top.top) (sym c.new-below.ensures) w

pub returns-then-was_tried : goal.returns-then-was_tried
returns-then-was_tried c =
    let S = c.args.statements.now in
    let L = c.args.links.now in
    let top = c.solving.top in
    let at = c.first_unknown.result in
    let n2 = c.as_slice-then-top-len.ensures in
    let need = slice_index_or c.as_slice-then-top-len.result.now at 0 in
    let l : at < length top.needs = omega (arith, c.if-top-len.true, c.len.ensures) in
    let l2 : at < length c.as_slice-then-top-len.result.now = subst (λ (ns : List ℕ). at < length ns) (sym n2) l in
    let i : In need top.needs = subst (λ (ns : List ℕ). In need ns) n2 (in-get c.as_slice-then-top-len.result.now at 0 l2) in
    let l1 : at < length c.as_slice-in-solving-2.result.now = subst (λ (ns : List ℕ). at < length ns) (sym c.as_slice-in-solving-2.ensures) l in
    let u1 = c.first_unknown.ensures.unknown l1 in
    let u : is_some (by_number c.solving.known.items need) ≡ false = cc (u1, n2, c.as_slice-in-solving-2.ensures, c.as_slice-in-solving.ensures.value) in
    let was : slice_index_or c.solving.tried.items need true ≡ true = cc (c.was_tried.ensures, c.as_slice-then-top-len-2.ensures.value) in
    stuck_again S L c.args.start c.args.known.now.items c.solving.known.items c.solving.tried.items c.solving.below top need c.solving.invariant i u was

pub solving-smaller-in-Continue-branch-3 : goal.solving-smaller-in-Continue-branch-3
solving-smaller-in-Continue-branch-3 c =
    let need = slice_index_or c.as_slice-then-top-len.result.now c.first_unknown.result 0 in
    let fresh : slice_index_or c.solving.tried.items need true ≡ false = cc (c.was_tried.ensures, c.as_slice-then-top-len-2.ensures.value) in
    let u = untried-tried c.solving.tried.items need fresh in
    let len : length c.push.new.self ≡ length c.solving.below + 1 = ap length c.in_ok-push.ensures.ok ∙ length-append c.solving.below (c.replace.result ∷ []) in
    omega (arith, u, len)

pub solving-preserved-in-Continue-branch-3 : goal.solving-preserved-in-Continue-branch-3
solving-preserved-in-Continue-branch-3 c =
    let S = c.args.statements.now in
    let L = c.args.links.now in
    let K0 = c.args.known.now.items in
    let K = c.solving.known.items in
    let T = c.solving.tried.items in
    let top = c.solving.top in
    let at = c.first_unknown.result in
    let n2 = c.as_slice-then-top-len.ensures in
    let need = slice_index_or c.as_slice-then-top-len.result.now at 0 in
    let l : at < length top.needs = omega (arith, c.if-top-len.true, c.len.ensures) in
    let l2 : at < length c.as_slice-then-top-len.result.now = subst (λ (ns : List ℕ). at < length ns) (sym n2) l in
    let i : In need top.needs = subst (λ (ns : List ℕ). In need ns) n2 (in-get c.as_slice-then-top-len.result.now at 0 l2) in
    let fresh : slice_index_or T need true ≡ false = cc (c.was_tried.ensures, c.as_slice-then-top-len-2.ensures.value) in
    let known : all_known (by_number K) (take top.next top.needs) ≡ true → all_known (by_number K) (take at top.needs) ≡ true = subst (λ (k : List (Option Value)). all_known (by_number k) (take top.next top.needs) ≡ true → all_known (by_number k) (take at top.needs) ≡ true) c.as_slice-in-solving.ensures.value (subst (λ (ns : List ℕ). all_known (by_number c.as_slice-in-solving.result.now) (take top.next ns) ≡ true → all_known (by_number c.as_slice-in-solving.result.now) (take at ns) ≡ true) c.as_slice-in-solving-2.ensures c.first_unknown.ensures.known) in
    let m = walk-moved S L c.args.start K0 K T c.solving.below top at c.solving.invariant (omega (arith, l)) known in
    let e = c.in_ok-above.ensures in
    let w = walk-down S L c.args.start K0 K T c.solving.below (moved S L top at) c.in_ok-above.above need m i fresh e.definition e.needs e.next in
    let pushed : c.push.new.self ≡ c.solving.below ++ moved S L top at ∷ [] = c.in_ok-push.ensures.ok ∙ ap (λ (s : Step). c.solving.below ++ s ∷ []) c.replace.ensures.value in
    subst (λ (b : List Step). IsWalk S L c.args.start K0 K (slice_set T need true) b c.replace.new.dest) (sym pushed) (subst (λ (s : Step). IsWalk S L c.args.start K0 K (slice_set T need true) (c.solving.below ++ moved S L top at ∷ []) s) (sym c.replace.ensures.after) w)

pub returns-in-None : goal.returns-in-None
returns-in-None c =
    let S = c.args.statements.now in
    let L = c.args.links.now in
    let K0 = c.args.known.now.items in
    let K = c.solving.known.items in
    let T = c.solving.tried.items in
    let top = c.solving.top in
    let at = c.first_unknown.result in
    let within : at ≤ length top.needs = subst (λ (ns : List ℕ). at ≤ length ns) c.as_slice-in-solving-2.ensures c.first_unknown.ensures.within in
    let done : length top.needs ≤ at = omega (arith, c.if-top-len.false, c.len.ensures) in
    let known : all_known (by_number K) (take top.next top.needs) ≡ true → all_known (by_number K) (take at top.needs) ≡ true = subst (λ (k : List (Option Value)). all_known (by_number k) (take top.next top.needs) ≡ true → all_known (by_number k) (take at top.needs) ≡ true) c.as_slice-in-solving.ensures.value (subst (λ (ns : List ℕ). all_known (by_number c.as_slice-in-solving.result.now) (take top.next ns) ≡ true → all_known (by_number c.as_slice-in-solving.result.now) (take at ns) ≡ true) c.as_slice-in-solving-2.ensures c.first_unknown.ensures.known) in
    let m = walk-moved S L c.args.start K0 K T c.solving.below top at c.solving.invariant within known in
    let none : next_values S L (by_number K) top.definition ≡ None = subst (λ (k : List (Option Value)). next_values S L (by_number k) top.definition ≡ None) c.as_slice-else-top-len.ensures.value (sym c.in_ok-value.ensures ∙ c.in-None.is) in
    stuck_here S L c.args.start K0 K T c.solving.below (moved S L top at) m done none

pub solving-preserved : goal.solving-preserved
solving-preserved c =
    let S = c.args.statements.now in
    let L = c.args.links.now in
    let K0 = c.args.known.now.items in
    let K = c.solving.known.items in
    let T = c.solving.tried.items in
    let top = c.solving.top in
    let at = c.first_unknown.result in
    let v = c.in-Some.value in
    let within : at ≤ length top.needs = subst (λ (ns : List ℕ). at ≤ length ns) c.as_slice-in-solving-2.ensures c.first_unknown.ensures.within in
    let known : all_known (by_number K) (take top.next top.needs) ≡ true → all_known (by_number K) (take at top.needs) ≡ true = subst (λ (k : List (Option Value)). all_known (by_number k) (take top.next top.needs) ≡ true → all_known (by_number k) (take at top.needs) ≡ true) c.as_slice-in-solving.ensures.value (subst (λ (ns : List ℕ). all_known (by_number c.as_slice-in-solving.result.now) (take top.next ns) ≡ true → all_known (by_number c.as_slice-in-solving.result.now) (take at ns) ≡ true) c.as_slice-in-solving-2.ensures c.first_unknown.ensures.known) in
    let m = walk-moved S L c.args.start K0 K T c.solving.below top at c.solving.invariant within known in
    let some : next_values S L (by_number K) top.definition ≡ Some v = subst (λ (k : List (Option Value)). next_values S L (by_number k) top.definition ≡ Some v) c.as_slice-else-top-len.ensures.value (sym c.in_ok-value.ensures ∙ c.in-Some.is) in
    let w = subst (λ (b : List Step). IsWalk S L c.args.start K0 K T b (moved S L top at)) c.in-Some-pop.ensures m in
    walk-up S L c.args.start K0 K T c.pop.new.self (moved S L top at) c.in-Some-pop.step v w some

pub returns-in-None-pop : goal.returns-in-None-pop
returns-in-None-pop c =
    let S = c.args.statements.now in
    let L = c.args.links.now in
    let K0 = c.args.known.now.items in
    let K = c.solving.known.items in
    let T = c.solving.tried.items in
    let top = c.solving.top in
    let at = c.first_unknown.result in
    let v = c.in-Some.value in
    let within : at ≤ length top.needs = subst (λ (ns : List ℕ). at ≤ length ns) c.as_slice-in-solving-2.ensures c.first_unknown.ensures.within in
    let known : all_known (by_number K) (take top.next top.needs) ≡ true → all_known (by_number K) (take at top.needs) ≡ true = subst (λ (k : List (Option Value)). all_known (by_number k) (take top.next top.needs) ≡ true → all_known (by_number k) (take at top.needs) ≡ true) c.as_slice-in-solving.ensures.value (subst (λ (ns : List ℕ). all_known (by_number c.as_slice-in-solving.result.now) (take top.next ns) ≡ true → all_known (by_number c.as_slice-in-solving.result.now) (take at ns) ≡ true) c.as_slice-in-solving-2.ensures c.first_unknown.ensures.known) in
    let m = walk-moved S L c.args.start K0 K T c.solving.below top at c.solving.invariant within known in
    let some : next_values S L (by_number K) top.definition ≡ Some v = subst (λ (k : List (Option Value)). next_values S L (by_number k) top.definition ≡ Some v) c.as_slice-else-top-len.ensures.value (sym c.in_ok-value.ensures ∙ c.in-Some.is) in
    let w = subst (λ (b : List Step). IsWalk S L c.args.start K0 K T b (moved S L top at)) c.in-None-pop.ensures.0 m in
    walk-done S L c.args.start K0 K T (moved S L top at) v w some
