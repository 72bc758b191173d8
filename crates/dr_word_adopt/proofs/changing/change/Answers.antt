use Rattle.std.proofs.Common.{sym, subst, ap, ◌∙◌, MatchResult, Result}
use Rattle.dr_ledger.specs.Adopting.{IsFit}
use Rattle.dr_ledger.specs.declared.fault.LedgerFault.{LedgerFault}
use Rattle.dr_ledger.specs.declared.fault.LedgerFault.TheVariants.{Memory}
use Rattle.dr_site.specs.Parts.{Part, IsPartOf}
use Rattle.dr_word_adopt.specs.Changings.{IsChanged, IsKept, MayChange}
use Rattle.dr_word_adopt.specs.declared.standing.Standing.{Standing}
use Rattle.dr_word_adopt.specs.declared.standing.Standing.TheVariants.{Ready}
use Rattle.dr_word_adopt.proofs.Changed.{adopted, err_as, kept_same, over_same}
use Rattle.dr_word_adopt.proofs.changing.change.Goals as goal

pub returns-in-Over : goal.returns-in-Over
returns-in-Over g c = over_same g.L.Ledger.site g.L.Ledger.book g.L.Ledger.stands c.args.next.now c.args.standing.now c.in-Over.field-0 c.in-Over.is

pub adopt-requires-clause-part : goal.adopt-requires-clause-part
adopt-requires-clause-part g c =
    let may = subst (MayChange g.L.Ledger.site g.L.Ledger.book g.L.Ledger.stands c.args.next.now) c.in-Ready.is c.requires in
    subst (λ (p : Part). IsPartOf c.args.next.now.plan c.args.next.now.certificate p) (sym c.in_ok-own-in-Ready.ensures) may.0

pub adopt-requires-clause-name : goal.adopt-requires-clause-name
adopt-requires-clause-name g c =
    let may = subst (MayChange g.L.Ledger.site g.L.Ledger.book g.L.Ledger.stands c.args.next.now) c.in-Ready.is c.requires in
    ap (λ (p : Part). p.name) c.in_ok-own-in-Ready.ensures ∙ may.1

pub adopt-requires-clause-fit : goal.adopt-requires-clause-fit
adopt-requires-clause-fit g c =
    let may = subst (MayChange g.L.Ledger.site g.L.Ledger.book g.L.Ledger.stands c.args.next.now) c.in-Ready.is c.requires in
    λ st. subst (λ (p : Part). IsFit c.args.next.now.plan p.name (g.L.Ledger.book c.in-Ready.ledger)) (sym c.in_ok-own-in-Ready.ensures) (may.2 st)

pub returns-in_ok-own-in-Ready : goal.returns-in_ok-own-in-Ready
returns-in_ok-own-in-Ready g c =
    subst (λ (s : Standing g.row.L.Denot). MatchResult c.adopt.result
    (λ done. IsChanged g.L.Ledger.site g.L.Ledger.book g.L.Ledger.stands c.args.next.now s (Ready c.adopt.new.self c.in-Ready.own))
    (λ why. IsKept g.L.Ledger.site g.L.Ledger.book g.L.Ledger.stands c.args.next.now s (Ready c.adopt.new.self c.in-Ready.own)))
    (sym c.in-Ready.is)
    (adopted g.L.Ledger.site g.L.Ledger.book g.L.Ledger.stands c.args.next.now c.in-Ready.ledger c.adopt.new.self c.in-Ready.own c.in_ok-own-in-Ready.own c.adopt.result c.in_ok-own-in-Ready.ensures c.adopt.ensures.site
    c.adopt.ensures.stood c.adopt.ensures.reply)

pub returns-in_err-own-in-Ready : goal.returns-in_err-own-in-Ready
returns-in_err-own-in-Ready g c =
    err_as (λ (r : Result (Unit {0}) LedgerFault). MatchResult r
    (λ done. IsChanged g.L.Ledger.site g.L.Ledger.book g.L.Ledger.stands c.args.next.now c.args.standing.now (Ready c.in-Ready.ledger c.in-Ready.own))
    (λ why. IsKept g.L.Ledger.site g.L.Ledger.book g.L.Ledger.stands c.args.next.now c.args.standing.now (Ready c.in-Ready.ledger c.in-Ready.own)))
    Memory c.from_residual.result c.from_residual.ensures.0 c.from_residual.ensures.1
    (subst (λ (s : Standing g.row.L.Denot). IsKept g.L.Ledger.site g.L.Ledger.book g.L.Ledger.stands c.args.next.now s (Ready c.in-Ready.ledger c.in-Ready.own)) (sym c.in-Ready.is)
    (kept_same g.L.Ledger.site g.L.Ledger.book g.L.Ledger.stands c.args.next.now c.in-Ready.ledger c.in-Ready.own))
