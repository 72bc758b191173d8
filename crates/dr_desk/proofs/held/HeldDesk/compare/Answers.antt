use Rattle.std.proofs.Common.{◌≤◌, length, map as mapped, refl, sym, ap, subst}
use Rattle.dr_ledger.specs.Books.{Book}
use Rattle.dr_ledger.specs.Replies.{entry_of}
use Rattle.dr_desk.proofs.Handed.{passes_disagree}
use Rattle.dr_desk.proofs.Journals.{fails_by, no_fewer}
use Rattle.dr_desk.proofs.Paged.{fails_of}
use Rattle.dr_desk.proofs.held.HeldDesk.compare.Goals as goal

pub returns-in-Err-Close-clause-refuses : goal.returns-in-Err-Close-clause-refuses
returns-in-Err-Close-clause-refuses g c = λ plan node fit. passes_disagree g.L.Ledger.site
    g.L.Ledger.book g.L.Ledger.bodies g.L.Ledger.stands g.L.Ledger.failed g.B.Sharing.site
    g.B.Sharing.first c.args.passes.now
    (λ p. p.receipts.items) plan c.in-Err-Close.why c.disagreed.result c.args.self.now.desk.ledger
    c.agree.new.ledger c.disagreed.ensures node
    (λ s.
    let e = c.in-Err-Close.ensures in
    let same = e.same.same s in
    let grows = c.args.self.now.grows (e.same.stood s) in (
      fit s,
      fails_by
          (λ p. p.receipts.items) c.in-Err-Close.why _ _ c.args.passes.now _ _ _ refl
          (ap (λ (b : Book). mapped entry_of b.lines) same)
          (λ begins. subst (λ (b : Book). c.args.self.now.before ≤ length b.lines) (sym same)
          (no_fewer _ _ _ grows.1 begins))
          (fails_of c.in-Err-Close.field-0 c.in-Err-Close.why _ _ _ _ c.in-Err-Close.field-0-is (e.fault s)),
    ))
