-- What the instances of a rule cost, where room is shared out by a division.
use Rattle.std.proofs.Common.{◌≡◌, ◌⊎◌, inl, inr, ℕ, ◌+◌, ◌-◌, ◌*◌, ◌/◌, ◌^◌, ◌<◌, ◌≤◌, sym, ap, ◌∙◌, ⊎_elim, arith}
use Rattle.std.specs.Prelude.{min}
use Rattle.std.proofs.lemmas.Bool.{cases_order}
use Rattle.std.proofs.lemmas.Nat.{div-add-mod', mul-le, div_below, le-div}
use Rattle.program_instances.specs.Adding.{capped}

le_or_more : (a b : ℕ) → (a ≤ b) ⊎ (b < a)
le_or_more a b =
    ⊎_elim (λ (same : a ≡ b). inl (omega (arith, same))) (λ other. ⊎_elim (λ (less : a < b). inl (omega (arith, less))) (λ (more : b < a). inr more) other) (cases_order a b)

shared : (n cost room : ℕ) → n ≤ room / cost → n * cost ≤ room
shared n cost room within =
    let whole = div-add-mod' room cost in
    let less = mul-le n cost (room / cost) cost within (omega arith) in
    omega (arith, whole, less)

paid-all : (n nodes : ℕ) → n * (nodes + 1) ≡ n * nodes + n
paid-all n nodes = omega arith

nothing-paid : (a b : ℕ) → 0 * a ≡ 0 * b + 0
nothing-paid a b = omega arith

nothing : (n : ℕ) → n ≤ 0 → n ≡ 0
nothing n none = omega (arith, none)

paid-at : (t n nodes cost room : ℕ) → cost ≡ min (min nodes t + 1) t → room < t → n ≤ room / cost → (n * cost ≤ room) × (n * cost ≡ n * nodes + n)
paid-at t n nodes cost room is less within =
    ⊎_elim
    (λ (fits : nodes + 1 ≤ t).
    (let exact : cost ≡ nodes + 1 = omega (arith, is, fits) in
    (shared n cost room within, ap (λ (m : ℕ). n * m) exact ∙ paid-all n nodes)))
    (λ (over : t < nodes + 1).
    (let most : cost ≡ t = omega (arith, is, over) in
    let one : room < 1 * cost = omega (arith, most, less) in
    let none : room / cost < 1 = div_below room cost 1 (omega (arith, most, less)) one in
    let empty : n ≡ 0 = nothing n (omega (arith, none, within)) in
    (shared n cost room within, ap (λ (m : ℕ). m * cost) empty ∙ nothing-paid cost nodes ∙ sym (ap (λ (m : ℕ). m * nodes + m) empty))))
    (le_or_more (nodes + 1) t)

over-at : (t n nodes cost room : ℕ) → cost ≡ min (min nodes t + 1) t → room < t → room / cost < n → room < n * nodes + n
over-at t n nodes cost room is less over =
    ⊎_elim
    (λ (fits : n * nodes + n ≤ room).
    (let low : cost ≤ nodes + 1 = omega (arith, is) in
    let some : 0 < cost = omega (arith, is, less) in
    let whole = mul-le n cost n (nodes + 1) (omega arith) low in
    let all = paid-all n nodes in
    let within = le-div n room cost some (omega (arith, whole, all, fits)) in
    absurd (omega (arith, within, over))))
    (λ (more : room < n * nodes + n). more)
    (le_or_more (n * nodes + n) room)

-- ---- the numbers of the code

pub cost-paid : (n nodes cost room : ℕ) → cost ≡ min (capped nodes + 1) (2 ^ 64 - 1) → room < 2 ^ 64 - 1 → n ≤ room / cost → (n * cost ≤ room) × (n * cost ≡ n * nodes + n)
cost-paid n nodes cost room is less within = paid-at (2 ^ 64 - 1) n nodes cost room is less within

pub cost-over : (n nodes cost room : ℕ) → cost ≡ min (capped nodes + 1) (2 ^ 64 - 1) → room < 2 ^ 64 - 1 → room / cost < n → room < n * nodes + n
cost-over n nodes cost room is less over = over-at (2 ^ 64 - 1) n nodes cost room is less over
