use Rattle.std.proofs.Common.{◌≡◌, [], List, Option, Some, None, subst}
use Rattle.std.proofs.lemmas.List.{append-nil}
use Rattle.rule_binding.specs.Binding as binding
use Rattle.rule_binding.specs.Binding.{equations_of, AreSettings}
use Rattle.rule_binding.specs.Closure.{marked}
use Rattle.rule_settings.specs.declared.candidates.Setting.{Setting}
use Rattle.rule_settings.specs.Said.{said, all_said}
use Rattle.rule_settings.specs.Candidates.{body_candidates}
use Rattle.rule_settings.specs.Waiting.{StateIs, IsStep, IsBound, first_setting}
use Rattle.rule_settings.proofs.Bodies.{one_setting, none_left}
use Rattle.rule_settings.proofs.finding.find_settings.Goals as goal

pub setting-preserved : goal.setting-preserved
setting-preserved c =
    let body = c.args.body.now in
    let list = c.in_ok-candidates.candidates.items in
    let old = c.setting.state in
    let new = c.step.new.self in
    let found = c.in-Some.setting in
    let step : IsStep (all_said list) old new (Some found) = subst (λ (o : Option Setting). IsStep (all_said list) old new o) c.in-Some.is
    (subst (λ (l : List Setting). StateIs (all_said l) old [] → IsStep (all_said l) old new c.in_ok-setting.field-0) c.as_slice-in-setting.ensures.value c.in_ok-setting.ensures c.setting.invariant.state) in
    let bound : IsBound (body_candidates body) (marked old.bound.items) (marked new.bound.items) (said found) = subst (λ (cs : List binding.Setting). IsBound cs (marked old.bound.items) (marked new.bound.items) (said found)) c.in_ok-candidates.ensures step.1 in
    record {
      state = step.0;
      so_far = λ rest left. one_setting body c.args.bound.now old.bound.items new.bound.items (all_said c.setting.settings.items) (all_said c.push_setting.new.settings.items) (said found) c.setting.invariant.so_far c.in_ok-push_setting.ensures bound rest left;
    }

pub returns : goal.returns
returns c =
    let body = c.args.body.now in
    let list = c.in_ok-candidates.candidates.items in
    let old = c.setting.state in
    let new = c.step.new.self in
    let before = all_said c.setting.settings.items in
    let none_of : first_setting (marked old.bound.items) (all_said list) ≡ None = subst (λ (o : Option Setting). IsStep (all_said list) old new o) c.in_default.is
    (subst (λ (l : List Setting). StateIs (all_said l) old [] → IsStep (all_said l) old new c.in_ok-setting.field-0) c.as_slice-in-setting.ensures.value c.in_ok-setting.ensures c.setting.invariant.state) in
    let none : first_setting (marked old.bound.items) (body_candidates body) ≡ None = subst (λ (cs : List binding.Setting). first_setting (marked old.bound.items) cs ≡ None) c.in_ok-candidates.ensures none_of in
    λ vars are.
    subst (λ (settings : List binding.Setting). AreSettings (equations_of body) vars settings) (append-nil before)
    (c.setting.invariant.so_far [] (λ others same. none_left old.bound.items others body same none) vars are)
