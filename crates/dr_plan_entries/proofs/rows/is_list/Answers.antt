use Rattle.std.proofs.Common.{◌≡◌, ℕ, [], ◌∷◌, List, length, true, false, refl, sym, ◌∙◌}
use Rattle.std.specs.Prelude.{◌==◌}
use Rattle.dr_plan_entries.proofs.RowLemmas.{takes_listed, is_none}
use Rattle.dr_plan_entries.proofs.rows.is_list.Goals as goal

pub returns-in-Listed : goal.returns-in-Listed
returns-in-Listed c = λ yes. takes_listed c.args.values.now _ c.in-Listed.is (is_none c.in-Listed.own.prefixes (sym c.is_empty.ensures ∙ yes))
