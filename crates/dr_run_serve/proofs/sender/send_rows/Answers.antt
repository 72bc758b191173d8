use Rattle.std.proofs.Common.{◌∙◌, ◌++◌, ◌∷◌, [], Bool, refl, subst, inl, inr}
use Rattle.dr_run_serve.proofs.Along.{looks_along}
use Rattle.dr_run_serve.proofs.Chained.{chain_more}
use Rattle.dr_run_serve.specs.Sendings.{IsTold, LooksOnce, TellsDue, VisitsBy}
use Rattle.dr_run_serve.specs.declared.signal.WakeUp.{WakeUp}
use Rattle.dr_run_serve.proofs.sender.send_rows.Goals as goal

pub returns-in_default : goal.returns-in_default
returns-in_default g c = ([], refl, inl (refl, inl c.in_default.ensures))

pub returns-then-not-begun : goal.returns-then-not-begun
returns-then-not-begun g c = ([], refl, inl (refl, inr (subst (g.W.Calling.begins c.args.calling.now) c.if-not-begun.true c.begun.ensures)))

pub returns-then-ending : goal.returns-then-ending
returns-then-ending g c =
    let h = c.loop-look.invariant in
    (h.0.0, h.0.1, inr (inl (subst (g.W.Calling.ends c.args.calling.now) c.if-ending.true c.ending.ensures)))

pub loop-look-init : goal.loop-look-init
loop-look-init g c = (([], refl), refl, refl)

pub loop-look-preserved : goal.loop-look-preserved
loop-look-preserved g c =
    let Visiting = VisitsBy g.L.Ledger.site g.L.Ledger.book g.L.Ledger.bodies g.L.Ledger.stands g.L.Ledger.failed g.B.Sharing.site g.B.Sharing.first (g.N.Network.connects c.args.network.now) g.N.Socket.Link.hears g.N.Socket.Link.sends g.N.Socket.Link.closes (g.C.Clock.tells c.args.node.now.clock.now) c.args.node.now.desk.now.site in
    let Told = IsTold g.L.Ledger.site g.L.Ledger.book g.L.Ledger.bodies g.L.Ledger.stands g.L.Ledger.failed g.B.Sharing.site g.B.Sharing.first in
    let FirstDue = TellsDue g.L.Ledger.site g.L.Ledger.book g.L.Ledger.bodies g.L.Ledger.stands g.L.Ledger.failed g.B.Sharing.site g.B.Sharing.first in
    let tells = g.C.Clock.tells c.args.node.now.clock.now in
    let old = c.args.sender.now in
    let mid = c.loop-look.sender in
    let new = c.look-visited.new.sender in
    let call = c.call-call.result in
    let h = c.loop-look.invariant in
    let One = LooksOnce (Visiting old.hop.dest old.hop.address) Told (FirstDue old.hop.dest) tells (g.W.Calling.calls c.args.calling.now c.args.number) in
    let looked : WakeUp × Bool = (call, c.look-visited.result) in
    let one : One (mid.rest, mid.hop.due) looked (new.rest, new.hop.due) = (
      c.call-call.ensures,
      looks_along Visiting Told FirstDue tells mid.hop.dest old.hop.dest mid.hop.address old.hop.address
          call.rows call.visit call.over (mid.rest, mid.hop.due) c.look-visited.result (new.rest, new.hop.due) h.1 h.2 c.look-visited.ensures.looks,
    ) in
    let more = chain_more One h.0.0 (old.rest, old.hop.due) (mid.rest, mid.hop.due) (new.rest, new.hop.due) looked h.0.1 one in
    ((h.0.0 ++ looked ∷ [], more), c.look-visited.ensures.hop.0 ∙ h.1, c.look-visited.ensures.hop.1 ∙ h.2)

pub returns-then-call : goal.returns-then-call
returns-then-call g c =
    let Visiting = VisitsBy g.L.Ledger.site g.L.Ledger.book g.L.Ledger.bodies g.L.Ledger.stands g.L.Ledger.failed g.B.Sharing.site g.B.Sharing.first (g.N.Network.connects c.args.network.now) g.N.Socket.Link.hears g.N.Socket.Link.sends g.N.Socket.Link.closes (g.C.Clock.tells c.args.node.now.clock.now) c.args.node.now.desk.now.site in
    let Told = IsTold g.L.Ledger.site g.L.Ledger.book g.L.Ledger.bodies g.L.Ledger.stands g.L.Ledger.failed g.B.Sharing.site g.B.Sharing.first in
    let FirstDue = TellsDue g.L.Ledger.site g.L.Ledger.book g.L.Ledger.bodies g.L.Ledger.stands g.L.Ledger.failed g.B.Sharing.site g.B.Sharing.first in
    let tells = g.C.Clock.tells c.args.node.now.clock.now in
    let old = c.args.sender.now in
    let mid = c.loop-look.sender in
    let new = c.look-visited.new.sender in
    let call = c.call-call.result in
    let h = c.loop-look.invariant in
    let One = LooksOnce (Visiting old.hop.dest old.hop.address) Told (FirstDue old.hop.dest) tells (g.W.Calling.calls c.args.calling.now c.args.number) in
    let looked : WakeUp × Bool = (call, c.look-visited.result) in
    let one : One (mid.rest, mid.hop.due) looked (new.rest, new.hop.due) = (
      c.call-call.ensures,
      looks_along Visiting Told FirstDue tells mid.hop.dest old.hop.dest mid.hop.address old.hop.address
          call.rows call.visit call.over (mid.rest, mid.hop.due) c.look-visited.result (new.rest, new.hop.due) h.1 h.2 c.look-visited.ensures.looks,
    ) in
    let more = chain_more One h.0.0 (old.rest, old.hop.due) (mid.rest, mid.hop.due) (new.rest, new.hop.due) looked h.0.1 one in
    (h.0.0 ++ looked ∷ [], more, inr (inr (h.0.0, call, c.look-visited.result, refl, c.if-call.true)))
