use Rattle.std.proofs.Common.{not, rules}
use Rattle.std.proofs.lemmas.Fn.{filter_same}
use Rattle.std.specs.Ordering.{eq_by_cmp}
use Rattle.dr_base.specs.Texts.{text_cmp}
use Rattle.dr_ledger.specs.Pairs.{Pair}
use Rattle.dr_ledger_memory.proofs.Trees.{others_left}
use Rattle.dr_ledger_memory.proofs.parts.let_callers_go.Goals as goal

pub returns : goal.returns
returns c = others_left c.args.uid.now c.args.arrivals.now c.retain.new.self (filter_same _ (λ (x : Pair). not (eq_by_cmp text_cmp x.1 c.args.uid.now)) _ (λ x b f' k. (search rules, search rules)) _ _ c.retain.ensures.filtered)
