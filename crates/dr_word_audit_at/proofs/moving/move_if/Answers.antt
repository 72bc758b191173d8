use Rattle.std.proofs.Common.{List, ℕ, subst}
use Rattle.dr_word_audit_at.specs.Cuts.{MendsNowhere, cuts, lines_named}
use Rattle.dr_word_audit_at.proofs.Reached.{by_line, stays}
use Rattle.dr_word_audit_at.proofs.moving.move_if.Goals as goal

pub returns-then-not-is_lacking : goal.returns-then-not-is_lacking
returns-then-not-is_lacking c plan name line has rests = stays plan c.args.read.now c.args.counts.now.items

pub returns : goal.returns
returns c plan name line has rests =
    let lacking = subst (λ (ns : List ℕ). MendsNowhere c.args.missing.now (lines_named c.args.at.now (cuts ns c.args.read.now))) c.as_slice.ensures.value (c.in_ok-is_lacking.ensures c.if-not-is_lacking.false) in
    by_line plan c.args.read.now c.args.counts.now.items c.move_cut.new.counts.items name c.args.at.now line c.args.missing.now c.move_cut.result has rests lacking c.move_cut.ensures
