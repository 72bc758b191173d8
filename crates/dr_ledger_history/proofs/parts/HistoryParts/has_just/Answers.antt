use Rattle.std.proofs.Common.{◌≡◌, ◌∙◌, sym, true≢false}
use Rattle.dr_ledger_history.proofs.Just.{arrivals_alike, has_all, items_alike, kept_alike, rows_alike}
use Rattle.dr_ledger_history.proofs.parts.HistoryParts.has_just.Goals as goal
use Rattle.dr_ledger_history.proofs.parts.HistoryParts.has_just.Goals.{then-not-are_items-via-then-not-are_items, then-not-are_items-via-else-not-are_items+then-not-are_arrivals}

pub returns-then-not-are_items : goal.returns-then-not-are_items
returns-then-not-are_items c = record {
  has = λ said. absurd (true≢false (sym said));
  says = λ order same. elim c.then-not-are_items.branch [
    | then-not-are_items-via-then-not-are_items w ↦
        absurd (true≢false (sym (c.are_items.ensures.same.1 (items_alike c.args.self.now c.args.items.now c.args.arrivals.now c.args.kept.now c.args.rows.now order same c.are_items.ensures.ordered.0 c.are_items.ensures.ordered.1)) ∙ w.if-not-are_items.true))
    | then-not-are_items-via-else-not-are_items+then-not-are_arrivals w ↦
        absurd (true≢false (sym (w.are_arrivals.ensures.same.1 (arrivals_alike c.args.self.now c.args.items.now c.args.arrivals.now c.args.kept.now c.args.rows.now order same w.are_arrivals.ensures.ordered)) ∙ w.if-not-are_arrivals.true))
  ];
}

pub returns-then-are_kept : goal.returns-then-are_kept
returns-then-are_kept c = record {
  has = λ said. has_all c.args.self.now c.args.items.now c.args.arrivals.now c.args.kept.now c.args.rows.now (c.are_items.ensures.same.0 c.if-not-are_items.false) (c.are_arrivals.ensures.same.0 c.if-not-are_arrivals.false)
      (c.are_kept.ensures.same.0 c.if-are_kept.true) (c.are_rows.ensures.same.0 said);
  says = λ order same. c.are_rows.ensures.same.1 (rows_alike c.args.self.now c.args.items.now c.args.arrivals.now c.args.kept.now c.args.rows.now order same c.are_rows.ensures.ordered);
}

pub returns-else-are_kept : goal.returns-else-are_kept
returns-else-are_kept c = record {
  has = λ said. absurd (true≢false (sym said ∙ c.if-are_kept.false));
  says = λ order same. c.are_kept.ensures.same.1 (kept_alike c.args.self.now c.args.items.now c.args.arrivals.now c.args.kept.now c.args.rows.now order same c.are_kept.ensures.ordered);
}
