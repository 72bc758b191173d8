use Rattle.std.proofs.Common.{rules, ◌≡◌, T, List, refl, sym, subst}
use Rattle.std.specs.List.{filter}
use Rattle.std.specs.FinMap.{is_sorted}
use Rattle.std.proofs.lemmas.Fn.{filter_same}
use Rattle.dr_base.specs.Texts.{text_cmp}
use Rattle.dr_ledger_memory.specs.Entries.{OwnRow, is_open}
use Rattle.dr_ledger_memory.proofs.Whole.{sorted_filter}
use Rattle.dr_ledger_memory.proofs.held.Held.prune.Goals as goal

pub invariant_of-self : goal.invariant_of-self
invariant_of-self c =
    let rows = c.args.self.now.rows.items in
    let is : c.retain.new.self.items ≡ filter is_open rows = filter_same _ is_open _ (λ x b f t. search rules) rows _ c.retain.ensures.filtered in
    let P : List OwnRow → Type 0 = λ es. T (is_sorted text_cmp es) in
    record { ordered = subst P (sym is) (sorted_filter is_open rows c.args.self.now.ordered) }

pub returns : goal.returns
returns c =
    let rows = c.args.self.now.rows.items in
    record { instance_is = refl; kept = refl; rows_are = filter_same _ is_open _ (λ x b f t. search rules) rows _ c.retain.ensures.filtered; body_is = refl }
