use Rattle.std.proofs.Common.{◌≡◌, ◌+◌, arith, rules, subst, sym, take}
use Rattle.dr_ledger_history.specs.Contents.{Content}
use Rattle.dr_ledger_history.specs.Told.{IsTold}
use Rattle.dr_store_begun.specs.Beginning.{lines_in}
use Rattle.dr_store_begun.proofs.Paged.{past_size}
use Rattle.dr_store_begun.proofs.Refused.{balance_stopped, not_read, stopped_on}
use Rattle.dr_store_begun.proofs.balanced.begin_from.Goals as goal

pub returns-clause-begun : goal.returns-clause-begun
returns-clause-begun g c clean is =
    let old = c.args.past.now in
    let reached = g.P.LedgerPast.reached old (c.tell_behind.ensures.read.clean clean) in
    let size = past_size g.P.LedgerPast.all_lines (g.P.LedgerPast.reach old) reached in
    let next : c.in-Some.first ≡ (g.P.LedgerPast.reach old).count + 1 = search rules in
    let P : Content → Type 0 = λ made. IsTold (take c.args.balance.count (lines_in g.P.LedgerPast old)) made in
    record {
      told = c.in-Ok-tell_behind.ensures.told clean (subst P (sym c.in-Ok.ensures) is.told);
      next = omega (arith, size, next);
    }

pub returns-in-Err-tell_behind-clause-why : goal.returns-in-Err-tell_behind-clause-why
returns-in-Err-tell_behind-clause-why g c =
    let old = c.args.past.now in
    let P : Content → Type 0 = λ made. IsTold (take c.args.balance.count (lines_in g.P.LedgerPast old)) made in
    balance_stopped g.P.LedgerPast old c.tell_behind.new.past c.args.balance.count _ c.in-Err-tell_behind.fault
    (stopped_on g.P.LedgerPast old old c.tell_behind.new.past _ _ (not_read g.P.LedgerPast old)
    (λ clean is. subst P (sym c.in-Ok.ensures) is.told) c.in-Err-tell_behind.fault c.in-Err-tell_behind.ensures.why)
