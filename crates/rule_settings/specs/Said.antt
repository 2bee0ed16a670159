-- Setting equations as contracts see them, with their other sides themselves.
use Rattle.std.specs.Prelude.{List, map}
use Rattle.rule_binding.specs.Binding as binding
use Rattle.rule_settings.specs.declared.candidates.Setting.{Setting}

abbrev pub said : Setting → binding.Setting
said setting = record { var = setting.var; value = setting.value.now }

abbrev pub all_said : List Setting → List binding.Setting
all_said list = map said list
