use Rattle.std.proofs.Common.{◌≡◌, ℕ, ◌+◌, ◌<◌, Bool, cond, List, [], ◌∷◌, ◌++◌, sym, ap, subst, ◌∙◌}
use Rattle.std.proofs.lemmas.List.{append_assoc}
use Rattle.tel_base.specs.Literals.{lit_of}
use Rattle.atom_space.specs.Numbers.{Space, visible}
use Rattle.lit_trail.specs.Sound.{holds}
use Rattle.trace_list.proofs.Places.{passing, passing_next}
use Rattle.trace_list.proofs.reading.read_state.Goals as goal

pub loop-atom-preserved : goal.loop-atom-preserved
loop-atom-preserved c =
    let entries = c.args.trail.now.entries in
    let counts = c.args.space.now.counts in
    let k = c.loop-atom.atom in
    let p : ℕ → Bool = λ a. holds entries (lit_of (visible counts a c.args.t)) in
    let same = ap (λ (space : Space). space.counts.atoms) c.space.view_is in
    let l : k < counts.atoms = subst (λ (n : ℕ). k < n) same c.loop-atom-test.true in
    let bit : c.holds-is_true.result ≡ p k = c.holds-is_true.ensures ∙ ap (holds entries) (c.of.ensures ∙ ap lit_of c.visible.ensures) in
    let added : c.push_true.new.state ≡ c.loop-atom.state ++ cond (p k) (k ∷ []) [] = c.in_ok-push_true.ensures ∙ ap (λ (b : Bool). c.loop-atom.state ++ cond b (k ∷ []) []) bit in
    ap (λ (xs : List ℕ). xs ++ passing p counts.atoms (k + 1)) added ∙ append_assoc c.loop-atom.state (cond (p k) (k ∷ []) []) (passing p counts.atoms (k + 1)) ∙ ap (λ (xs : List ℕ). c.loop-atom.state ++ xs) (sym (passing_next p counts.atoms k l)) ∙ c.loop-atom.invariant
