use Rattle.std.proofs.Common.{refl, sym, subst}
use Rattle.dr_site.specs.Parts.{Part}
use Rattle.dr_desk.specs.declared.adopting.AdoptFault.{AdoptFault}
use Rattle.dr_desk.specs.Adoptions.{HasTaken, RefusesPlan}
use Rattle.dr_desk.proofs.Taken.{lasts_still, refused, stayed, went_over}
use Rattle.dr_desk.proofs.adopting.go_over.Goals as goal

pub adopt-requires-clause-part : goal.adopt-requires-clause-part
adopt-requires-clause-part g c = c.requires.part

pub adopt-requires-clause-name : goal.adopt-requires-clause-name
adopt-requires-clause-name g c = c.requires.name

pub adopt-requires-clause-fit : goal.adopt-requires-clause-fit
adopt-requires-clause-fit g c = c.requires.fit

pub returns-in-Ok-clause-answers : goal.returns-in-Ok-clause-answers
returns-in-Ok-clause-answers g c =
    let e = c.in-Ok.ensures in
    subst
    (λ (p : Part). HasTaken g.L.Ledger.site g.L.Ledger.book g.L.Ledger.bodies g.L.Ledger.stands
    g.L.Ledger.failed c.args.next.now p c.args.ledger.now c.adopt.new.self) (sym c.requires.copy)
    (went_over g.L.Ledger.site g.L.Ledger.book g.L.Ledger.bodies g.L.Ledger.stands g.L.Ledger.failed
    c.args.next.now c.args.own c.args.ledger.now c.adopt.new.self g.L.Ledger.bodied c.requires.part
    c.requires.name c.requires.fit e.site e.stood e.reply e.bodies e.loses_none
    e.counts.never_falls)

pub returns-in-Err-clause-answers : goal.returns-in-Err-clause-answers
returns-in-Err-clause-answers g c =
    let e = c.in-Err.ensures in (
      subst
          (λ (w : AdoptFault). RefusesPlan g.L.Ledger.site g.L.Ledger.book g.L.Ledger.bodies
          g.L.Ledger.stands g.L.Ledger.failed c.args.next.now.plan w c.args.ledger.now
          c.adopt.new.self) (sym c.untaken.ensures)
          (refused g.L.Ledger.site g.L.Ledger.book g.L.Ledger.bodies g.L.Ledger.stands
          g.L.Ledger.failed c.args.next.now.plan c.in-Err.why _ c.args.ledger.now c.adopt.new.self
          refl c.requires.node e.counts),
      stayed g.L.Ledger.site g.L.Ledger.book g.L.Ledger.bodies g.L.Ledger.stands g.L.Ledger.failed
          c.in-Err.why c.args.own c.args.ledger.now c.adopt.new.self g.L.Ledger.bodied e.site
          e.stood e.reply e.bodies e.loses_none e.counts.never_falls,
    )

pub returns-in-Err-clause-lasts : goal.returns-in-Err-clause-lasts
returns-in-Err-clause-lasts g c = lasts_still c.in-Err.why c.untaken.result _ _ _ _
    c.untaken.ensures c.in-Err.ensures.lasts.trusted
