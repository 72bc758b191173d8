use Rattle.std.proofs.Common.{sym, ◌∙◌, ap}
use Rattle.std.specs.Option.{option_copied}
use Rattle.toml.specs.View.{view}
use Rattle.dr_plan_text.proofs.OfValues.{no_other_named}
use Rattle.dr_plan_text.proofs.values.NamedValueForm.read.Goals as goal

pub returns-in-None-clause-field : goal.returns-in-None-clause-field
returns-in-None-clause-field c = λ e. no_other_named (view c.args.value.now) (sym (ap option_copied c.in-None.is) ∙ c.as_str.ensures)
