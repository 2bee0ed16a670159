use Rattle.std.proofs.Common.{◌≡◌, ◌∙◌, List, Bool, get_or, take, true, refl, sym, subst, ap}
use Rattle.normal_program.specs.declared.rules.NRule.{NRule}
use Rattle.unfounded_sets.specs.declared.waits.Wait.{Wait}
use Rattle.unfounded_sets.specs.Least.{wanted_below, at, all_of}
use Rattle.unfounded_sets.specs.Marks.{rest_of}
use Rattle.unfounded_sets.specs.Waiting.{row, vars_in}
use Rattle.unfounded_sets.specs.Scanning.{rule_at, State, IsScan, IsStep, found_with, fresh_with, state_of}
use Rattle.unfounded_sets.proofs.Scans.{wait_scan, wait_step, head_scan, head_step, rule_read, next_wait, ready_from, In-read}
use Rattle.unfounded_sets.proofs.supported.Support.go_on.Goals as goal

pub returns-then-place-vars-clause-scan : goal.returns-then-place-vars-clause-scan
returns-then-place-vars-clause-scan c =
    let layers = c.args.ground.now in
    let entries = c.args.trail.now.entries in
    let bound = c.args.bound in
    let vars = c.as_slice-vars.result.now in
    let place = c.blocker-place.result in
    let next : Wait = record { rule = c.args.wait.rule; place = place } in
    let same = rule_read layers c.rules.result.now c.args.wait.rule c.index-rules-wait.result c.rules.ensures c.requires.wait.within c.index-rules-wait.is in
    let pos : vars ≡ (rule_at layers.rules c.args.wait.rule).pos = c.as_slice-vars.ensures ∙ ap (λ (r : NRule). r.pos) same in
    let passed = subst (λ (table : List Bool). all_of (wanted_below layers entries bound) (at table) (take place vars) ≡ true) c.deref.ensures.value c.blocker-place.ensures.passed in
    wait_scan layers entries bound (state_of c.args.self.now) (row c.add.new.self) (vars_in c.add.new.self) (get_or vars place 0) next c.requires.scan (next_wait layers entries bound c.args.self.now.found.items c.args.wait next vars c.requires.wait refl pos c.blocker-place.ensures.short passed) c.in_ok-add.ensures.rows c.in_ok-add.ensures.vars

pub returns-then-place-vars-clause-step : goal.returns-then-place-vars-clause-step
returns-then-place-vars-clause-step c =
    let layers = c.args.ground.now in
    let entries = c.args.trail.now.entries in
    let bound = c.args.bound in
    let vars = c.as_slice-vars.result.now in
    let place = c.blocker-place.result in
    let next : Wait = record { rule = c.args.wait.rule; place = place } in
    let same = rule_read layers c.rules.result.now c.args.wait.rule c.index-rules-wait.result c.rules.ensures c.requires.wait.within c.index-rules-wait.is in
    let pos : vars ≡ (rule_at layers.rules c.args.wait.rule).pos = c.as_slice-vars.ensures ∙ ap (λ (r : NRule). r.pos) same in
    let left = subst (λ (table : List Bool). rest_of (wanted_below layers entries bound) (at table) (get_or vars place 0) ≡ true) c.deref.ensures.value (c.blocker-place.ensures.blocked c.if-place-vars.true) in
    wait_step layers entries bound (state_of c.args.self.now) (row c.add.new.self) (vars_in c.add.new.self) (get_or vars place 0) next (In-read vars place (rule_at layers.rules c.args.wait.rule).pos pos c.if-place-vars.true) left c.in_ok-add.ensures.rows

pub returns-in_ok-take_in-in-Some-clause-scan : goal.returns-in_ok-take_in-in-Some-clause-scan
returns-in_ok-take_in-in-Some-clause-scan c =
    let layers = c.args.ground.now in
    let entries = c.args.trail.now.entries in
    let bound = c.args.bound in
    let state : State = state_of c.args.self.now in
    let vars = c.as_slice-vars.result.now in
    let place = c.blocker-place.result in
    let same = rule_read layers c.rules.result.now c.args.wait.rule c.index-rules-wait.result c.rules.ensures c.requires.wait.within c.index-rules-wait.is in
    let passed = subst (λ (table : List Bool). all_of (wanted_below layers entries bound) (at table) (take place vars) ≡ true) c.deref.ensures.value c.blocker-place.ensures.passed in
    let ready = ready_from layers entries bound state c.args.wait c.index-rules-wait.result c.in-Some.head place vars c.requires.wait same c.as_slice-vars.ensures c.in-Some.is c.if-place-vars.false passed in
    let found : found_with state.found c.in-Some.head ≡ c.take_in.new.found.items = sym c.in_ok-take_in-in-Some.ensures.found in
    let fresh : fresh_with state.found state.fresh c.in-Some.head ≡ c.take_in.new.fresh.items = sym c.in_ok-take_in-in-Some.ensures.fresh in
    subst (IsScan layers entries bound) (λ i. record { found = found i; fresh = fresh i; row = state.row; vars = state.vars }) (head_scan layers entries bound state c.args.wait.rule c.in-Some.head c.requires.scan ready)

pub returns-in_ok-take_in-in-Some-clause-step : goal.returns-in_ok-take_in-in-Some-clause-step
returns-in_ok-take_in-in-Some-clause-step c =
    let layers = c.args.ground.now in
    let entries = c.args.trail.now.entries in
    let bound = c.args.bound in
    let state : State = state_of c.args.self.now in
    let vars = c.as_slice-vars.result.now in
    let place = c.blocker-place.result in
    let same = rule_read layers c.rules.result.now c.args.wait.rule c.index-rules-wait.result c.rules.ensures c.requires.wait.within c.index-rules-wait.is in
    let passed = subst (λ (table : List Bool). all_of (wanted_below layers entries bound) (at table) (take place vars) ≡ true) c.deref.ensures.value c.blocker-place.ensures.passed in
    let ready = ready_from layers entries bound state c.args.wait c.index-rules-wait.result c.in-Some.head place vars c.requires.wait same c.as_slice-vars.ensures c.in-Some.is c.if-place-vars.false passed in
    let found : found_with state.found c.in-Some.head ≡ c.take_in.new.found.items = sym c.in_ok-take_in-in-Some.ensures.found in
    let fresh : fresh_with state.found state.fresh c.in-Some.head ≡ c.take_in.new.fresh.items = sym c.in_ok-take_in-in-Some.ensures.fresh in
    subst (IsStep layers entries bound c.args.wait.rule state) (λ i. record { found = found i; fresh = fresh i; row = state.row; vars = state.vars }) (head_step layers entries bound state c.args.wait.rule c.in-Some.head c.requires.scan ready)
