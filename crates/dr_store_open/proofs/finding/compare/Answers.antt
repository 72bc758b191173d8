use Rattle.std.proofs.Common.{[], ◌≡◌, ◌∙◌, ℕ, Err, Global, Vec, ap, subst}
use Rattle.dr_base.specs.Texts.{Text}
use Rattle.dr_store_reads.specs.declared.finding.Print.{Print}
use Rattle.dr_store_audit.specs.Found.{AgreesAs, HoldTogether}
use Rattle.dr_store_audit.specs.declared.fault.FindingFault.{FindingFault}
use Rattle.dr_store_open.proofs.Wholly.{agreed, not_agreed}
use Rattle.dr_store_open.proofs.finding.compare.Goals as goal

pub returns-in-Ok : goal.returns-in-Ok
returns-in-Ok c db lists place =
    let all = c.args.lists in
    let next = c.number_after-next.result in
    let below = lists.numbers in
    record {
      agreed = agreed c.args.site.now db all.journal.notes.items next below.0 lists.journal.notes c.number_after-next.ensures below.1 (c.in-Ok.ensures db lists);
      place = place;
      prints = ap (λ (v : Vec (Text × Print) Global). v.items) c.prints_of.ensures ∙ lists.stock.prints;
    }

pub returns-in-Err-OtherSite : goal.returns-in-Err-OtherSite
returns-in-Err-OtherSite c db lists =
    let part = c.args.site.now in
    let notes = c.args.lists.journal.notes.items in
    let next = c.number_after-next.result in
    let If : FindingFault → Type 0 = λ why. AgreesAs (Err why) (HoldTogether [] next part db notes) in
    not_agreed part db notes next lists.journal.notes c.number_after-next.ensures (subst If c.in-Err-OtherSite.field-0-is (c.in-Err-OtherSite.ensures db lists))
