use Rattle.std.proofs.Common.{◌≡◌, ◌∙◌, List, Vec, Global, Ok, Err, ap, sym, subst}
use Rattle.sqlite.specs.Held.{state}
use Rattle.sqlite.specs.State.{State}
use Rattle.sqlite.specs.Tree.{Trees}
use Rattle.dr_store_sealed.specs.declared.seal.Seal.{Seal}
use Rattle.dr_store_past.specs.declared.lines.PastLine.{PastLine}
use Rattle.dr_store_past.specs.Shown.{AreNextIn}
use Rattle.dr_store_calls.proofs.Calls.{own_lasts}
use Rattle.dr_store.specs.Sealing.{AreOwnLines, SealsInto}
use Rattle.dr_store.proofs.Sealings.{left_as_was, left_of, not_tried, on_err, on_ok, sealed_into}
use Rattle.dr_store.proofs.sealing.seal_lines.Goals as goal

-- they were read and written
pub returns-in-Ok-write_behind-clause-sealed : goal.returns-in-Ok-write_behind-clause-sealed
returns-in-Ok-write_behind-clause-sealed g c clean =
    let n = c.args.n in
    let part = c.args.site.now in
    let all = g.P.LedgerPast.all_lines in
    let reach = g.P.LedgerPast.reach in
    let was = c.args.past.now in
    let mid = c.write_behind.new.past in
    let now = c.seal_and_turn.new.past in
    let r = c.seal_and_turn.result in
    let lines = c.as_slice.result.now in
    let last = c.in-Ok-write_behind.last in
    let w = c.in-Ok-write_behind.ensures in
    let e = c.seal_and_turn.ensures in
    let Shows : Trees → Vec PastLine Global → Type 0 = λ base all. AreOwnLines base all.items in
    let written = w.written in
    sealed_into n part (state g.S.Store c.args.conn.now) (state g.S.Store c.tell_own.new.conn) (state g.S.Store c.seal_and_turn.new.conn) last lines Shows c.in-Ok.lines
    (λ db it. subst (AreOwnLines db) (sym c.as_slice.ensures.value) it) (c.in-Ok.ensures.looked n part) r all (reach was) (reach now) e.sealed w.counts
    (on_ok r (λ turned. let it = turned lines written in (it.reach, subst (λ (seal : Seal). AreNextIn all seal lines) w.reach (it.next clean))) e.turned)
    (on_err r (λ still. ap reach still ∙ w.reach) e.still)

pub returns-in-Ok-write_behind-clause-left : goal.returns-in-Ok-write_behind-clause-left
returns-in-Ok-write_behind-clause-left g c before has =
    let n = c.args.n in
    let part = c.args.site.now in
    let holds = g.P.LedgerPast.holds in
    let has_written = g.P.LedgerPast.has_written in
    let now = c.seal_and_turn.new.past in
    let r = c.seal_and_turn.result in
    let lines = c.as_slice.result.now in
    let last = c.in-Ok-write_behind.last in
    let w = c.in-Ok-write_behind.ensures in
    let e = c.seal_and_turn.ensures in
    let Shows : Trees → Vec PastLine Global → Type 0 = λ base all. AreOwnLines base all.items in
    let held = w.holds before has in
    left_of n part (state g.S.Store c.args.conn.now) (state g.S.Store c.tell_own.new.conn) (state g.S.Store c.seal_and_turn.new.conn) last lines Shows c.in-Ok.lines
    (λ db it. subst (AreOwnLines db) (sym c.as_slice.ensures.value) it) (c.in-Ok.ensures.looked n part) r e.sealed (holds now) (has_written now) before
    (on_ok r (λ turned. (turned lines w.written).holds before held) e.turned)
    (on_err r (λ still. subst (λ past. holds past before × has_written past lines last) (sym still) (held, w.written)) e.still)

-- they weren't written
pub returns-in-Ok-clause-sealed : goal.returns-in-Ok-clause-sealed
returns-in-Ok-clause-sealed g c clean =
    let n = c.args.n in
    let part = c.args.site.now in
    let all = g.P.LedgerPast.all_lines in
    let from = g.P.LedgerPast.reach c.args.past.now in
    let old = state g.S.Store c.args.conn.now in
    let new = state g.S.Store c.tell_own.new.conn in
    let why = c.in-Err-write_behind.fault in
    let w = c.in-Err-write_behind.ensures in
    let Shows : Trees → Vec PastLine Global → Type 0 = λ base all. AreOwnLines base all.items in
    subst (SealsInto all n part (Err why) old new from) (sym w.reach)
    (not_tried n part old new Shows (Ok c.in-Ok.lines) (c.in-Ok.ensures.looked n part) all from why (λ clean k. own_lasts why _ w.fault))

pub returns-in-Ok-clause-left : goal.returns-in-Ok-clause-left
returns-in-Ok-clause-left g c before has =
    let n = c.args.n in
    let part = c.args.site.now in
    let now = c.write_behind.new.past in
    let Shows : Trees → Vec PastLine Global → Type 0 = λ base all. AreOwnLines base all.items in
    left_as_was n part (state g.S.Store c.args.conn.now) (state g.S.Store c.tell_own.new.conn) Shows (Ok c.in-Ok.lines) (c.in-Ok.ensures.looked n part)
    (g.P.LedgerPast.holds now) (g.P.LedgerPast.has_written now) before (c.in-Err-write_behind.ensures.holds before has)

-- they weren't read
pub returns-clause-sealed : goal.returns-clause-sealed
returns-clause-sealed g c clean =
    let n = c.args.n in
    let part = c.args.site.now in
    let looked = c.in-Err.ensures.looked n part in
    let Shows : Trees → Vec PastLine Global → Type 0 = λ base all. AreOwnLines base all.items in
    not_tried n part (state g.S.Store c.args.conn.now) (state g.S.Store c.tell_own.new.conn) Shows (Err c.in-Err.fault) looked g.P.LedgerPast.all_lines (g.P.LedgerPast.reach c.args.past.now) c.in-Err.fault (λ clean k. looked.lasts clean k tt)

pub returns-clause-left : goal.returns-clause-left
returns-clause-left g c before has =
    let n = c.args.n in
    let part = c.args.site.now in
    let was = c.args.past.now in
    let Shows : Trees → Vec PastLine Global → Type 0 = λ base all. AreOwnLines base all.items in
    left_as_was n part (state g.S.Store c.args.conn.now) (state g.S.Store c.tell_own.new.conn) Shows (Err c.in-Err.fault) (c.in-Err.ensures.looked n part)
    (g.P.LedgerPast.holds was) (g.P.LedgerPast.has_written was) before has
