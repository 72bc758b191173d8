use Rattle.std.proofs.Common.{◌≡◌, ◌+◌, ap, arith, refl, rules, sym, take}
use Rattle.dr_ledger_history.specs.Contents.{content}
use Rattle.dr_ledger_history.specs.Told.{IsTold}
use Rattle.dr_store_sealed.specs.declared.seal.Seal.{Seal}
use Rattle.dr_store_begun.specs.Beginning.{lines_in}
use Rattle.dr_store_begun.proofs.Left.{told_as}
use Rattle.dr_store_begun.proofs.Paged.{past_whole, told_there}
use Rattle.dr_store_begun.proofs.Refused.{not_read, read_on, same_lines, stopped_on}
use Rattle.dr_store_begun.proofs.pages.tell_behind.Goals as goal

pub loop-after-init : goal.loop-after-init
loop-after-init g c = (
  not_read g.P.LedgerPast c.args.past.now,
  ap (λ (s : Seal). s.count) c.seal-count.ensures,
  omega arith,
  λ clean told. told,
)

pub loop-after-preserved : goal.loop-after-preserved
loop-after-preserved g c =
    let was = c.loop-after.invariant in
    let first = c.args.past.now in
    let now = c.loop-after.past in (
      read_on g.P.LedgerPast first now c.tell_next.new.past was.0 c.tell_next.ensures.read,
      was.1,
      search rules,
      λ clean told.
          told_there (lines_in g.P.LedgerPast first) (lines_in g.P.LedgerPast now) _ (c.loop-after.after + c.min-more.result) (content c.in-Ok.told.parts)
          (same_lines g.P.LedgerPast first now was.0) (search rules)
          (c.in-Ok.ensures.told clean
          (told_there (lines_in g.P.LedgerPast now) (lines_in g.P.LedgerPast first) c.loop-after.after c.loop-after.after _
          (sym (same_lines g.P.LedgerPast first now was.0)) refl (was.3 (c.tell_next.ensures.read.clean clean) told))),
    )

pub returns-in-Err-clause-why : goal.returns-in-Err-clause-why
returns-in-Err-clause-why g c =
    let was = c.loop-after.invariant in
    let first = c.args.past.now in
    let now = c.loop-after.past in
    let count = was.1 in
    let low = c.loop-after-test.true in
    let more = c.min-more.ensures in
    let reach : (g.P.LedgerPast.reach now).count ≡ (g.P.LedgerPast.reach first).count = ap (λ (s : Seal). s.count) was.0.reach in
    stopped_on g.P.LedgerPast first now c.tell_next.new.past _
    (IsTold (take c.loop-after.after (lines_in g.P.LedgerPast now)) (content c.loop-after.told.parts)) was.0
    (λ clean told.
    told_there (lines_in g.P.LedgerPast now) (lines_in g.P.LedgerPast first) c.loop-after.after c.loop-after.after _
    (sym (same_lines g.P.LedgerPast first now was.0)) refl (was.3 (c.tell_next.ensures.read.clean clean) told))
    c.in-Err.fault (c.in-Err.ensures.why (omega (arith, count, low, more, reach)))

pub returns-in-Err-clause-read : goal.returns-in-Err-clause-read
returns-in-Err-clause-read g c =
    read_on g.P.LedgerPast c.args.past.now c.loop-after.past c.tell_next.new.past c.loop-after.invariant.0 c.tell_next.ensures.read

pub returns-in-Err-clause-nothing : goal.returns-in-Err-clause-nothing
returns-in-Err-clause-nothing g c none =
    let was = c.loop-after.invariant in
    let count = was.1 in
    let low = was.2 in
    let more = c.loop-after-test.true in
    absurd (omega (arith, count, low, more, none))

pub returns-clause-told : goal.returns-clause-told
returns-clause-told g c clean told =
    let was = c.loop-after.invariant in
    let reach = g.P.LedgerPast.reach c.args.past.now in
    let over = c.loop-after-test.false in
    let count = was.1 in
    told_as (lines_in g.P.LedgerPast c.args.past.now) (take c.loop-after.after (lines_in g.P.LedgerPast c.args.past.now)) _
    (sym (past_whole g.P.LedgerPast.all_lines reach c.loop-after.after (omega (arith, over, count)))) (was.3 clean told)
