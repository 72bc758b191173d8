use Rattle.std.proofs.Common.{sym, subst, MatchResult}
use Rattle.dr_word_adopt.specs.Changings.{IsKept}
use Rattle.dr_word_adopt.specs.Lookings.{LooksInto}
use Rattle.dr_word_adopt.specs.declared.standing.Standing.{Standing}
use Rattle.dr_word_adopt.specs.declared.standing.Standing.TheVariants.{Ready}
use Rattle.dr_word_adopt.proofs.Changed.{looked_into, over_looked}
use Rattle.dr_word_adopt.proofs.looking.look_into.Goals as goal

pub returns-in-Over : goal.returns-in-Over
returns-in-Over g c = over_looked g.L.Ledger.site g.L.Ledger.book g.L.Ledger.stands c.args.next.now c.args.standing.now c.in-Over.field-0 c.in-Over.is

pub returns-in-Ready : goal.returns-in-Ready
returns-in-Ready g c =
    subst (λ (s : Standing g.row.L.Denot). MatchResult c.unfit.result
    (λ unfit. LooksInto g.L.Ledger.site g.L.Ledger.book g.L.Ledger.stands c.args.next.now s unfit (Ready c.unfit.new.self c.in-Ready.field-1))
    (λ why. IsKept g.L.Ledger.site g.L.Ledger.book g.L.Ledger.stands c.args.next.now s (Ready c.unfit.new.self c.in-Ready.field-1)))
    (sym c.in-Ready.is)
    (looked_into g.L.Ledger.site g.L.Ledger.book g.L.Ledger.stands c.args.next.now c.in-Ready.ledger c.unfit.new.self c.in-Ready.field-1 c.unfit.result c.unfit.ensures.site c.unfit.ensures.stood (λ st. (c.unfit.ensures.same st).0) c.unfit.ensures.reply)
