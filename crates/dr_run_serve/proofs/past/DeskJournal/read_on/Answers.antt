use Rattle.std.proofs.Common.{arith, subst, Bool, ◌++◌, true, false, Ok}
use Rattle.dr_run_serve.specs.Pasts.{TellsPage, joined}
use Rattle.dr_run_serve.proofs.Leafing.{PageCame, came_fault, came_part, came_whole, so_more, so_none}
use Rattle.dr_run_serve.proofs.past.DeskJournal.read_on.Goals as goal

pub loop-turn-init : goal.loop-turn-init
loop-turn-init g c = λ lines had. so_none (TellsPage g.L.Ledger.site g.L.Ledger.book g.L.Ledger.bodies g.L.Ledger.stands g.L.Ledger.failed g.B.Sharing.site g.B.Sharing.first g.L.Views.numbered) lines c.args.past.now had

pub loop-turn-preserved : goal.loop-turn-preserved
loop-turn-preserved g c = λ lines had.
    let tells = TellsPage g.L.Ledger.site g.L.Ledger.book g.L.Ledger.bodies g.L.Ledger.stands g.L.Ledger.failed g.B.Sharing.site g.B.Sharing.first g.L.Views.numbered in
    let so = c.loop-turn.invariant lines had in
    let P : Bool → Type 0 = λ b. PageCame tells (lines ++ joined so.0) c.read_page.new.past (Ok b) in
    so_more tells lines c.loop-turn._turn c.loop-turn.past c.read_page.new.past so (subst P c.if-is_all.false (c.in-Ok.ensures (lines ++ joined so.0) so.3))

pub returns-then-is_all : goal.returns-then-is_all
returns-then-is_all g c = λ lines had.
    let tells = TellsPage g.L.Ledger.site g.L.Ledger.book g.L.Ledger.bodies g.L.Ledger.stands g.L.Ledger.failed g.B.Sharing.site g.B.Sharing.first g.L.Views.numbered in
    let so = c.loop-turn.invariant lines had in
    let P : Bool → Type 0 = λ b. PageCame tells (lines ++ joined so.0) c.read_page.new.past (Ok b) in
    came_whole tells lines c.loop-turn._turn c.loop-turn.past c.read_page.new.past so c.loop-turn.auto._turn-end (subst P c.if-is_all.true (c.in-Ok.ensures (lines ++ joined so.0) so.3))

pub returns-in-Err : goal.returns-in-Err
returns-in-Err g c = λ lines had.
    let tells = TellsPage g.L.Ledger.site g.L.Ledger.book g.L.Ledger.bodies g.L.Ledger.stands g.L.Ledger.failed g.B.Sharing.site g.B.Sharing.first g.L.Views.numbered in
    let so = c.loop-turn.invariant lines had in
    came_fault tells lines c.loop-turn._turn c.loop-turn.past c.read_page.new.past so c.in-Err.fault c.loop-turn.auto._turn-end (c.in-Err.ensures (lines ++ joined so.0) so.3)

pub returns : goal.returns
returns g c = λ lines had. came_part (TellsPage g.L.Ledger.site g.L.Ledger.book g.L.Ledger.bodies g.L.Ledger.stands g.L.Ledger.failed g.B.Sharing.site g.B.Sharing.first g.L.Views.numbered) lines c.loop-turn._turn c.loop-turn.past (omega (arith, c.loop-turn-test.false, c.loop-turn.auto._turn-end)) (c.loop-turn.invariant lines had)
