use Rattle.std.proofs.Common.{◌≡◌, Ok, Err, refl, subst}
use Rattle.sqlite.specs.Held.{state}
use Rattle.sqlite.specs.Tree.{Trees}
use Rattle.dr_ledger.specs.declared.fault.LedgerFault.TheVariants as fault
use Rattle.dr_ledger.specs.declared.item.Instance.{Instance}
use Rattle.dr_ledger.specs.Replies.{Admits}
use Rattle.dr_ledger.specs.SiteRoutes.{site_routing}
use Rattle.dr_route.specs.declared.key.Key.{Key}
use Rattle.dr_site.specs.Routing.{HasLineFor}
use Rattle.dr_store_schema.specs.Books.{book_of}
use Rattle.dr_store_calls.specs.Calling.{Called, Nothing}
use Rattle.dr_store_calls.proofs.Calls.{still_called}
use Rattle.dr_store.proofs.reading.admit.Goals as goal

pub returns-in-Ok-clause-called : goal.returns-in-Ok-clause-called
returns-in-Ok-clause-called g c n =
    let part = c.args.site.now in
    let r = c.admit_instance.result in
    let P : Instance → Type 0 = λ item. Called n n part r (state g.S.Store c.args.conn.now) (state g.S.Store c.admit_instance.new.conn) Nothing (λ base db. (db ≡ base) × Admits (site_routing part) c.args.caller.now item (book_of base) r) (λ base db. ⊥) in
    subst P c.in-Ok.ensures (c.admit_instance.ensures.called n)

pub returns-in-Err-clause-called : goal.returns-in-Err-clause-called
returns-in-Err-clause-called g c n =
    let part = c.args.site.now in
    let caller = c.args.caller.now in
    let P : Key → Type 0 = λ key. HasLineFor part caller key in
    let line : HasLineFor part caller c.args.item.now.key = subst P c.key.ensures (c.has_line.ensures.0 c.if-not-has_line.false) in
    let Answers : Trees → Trees → Type 0 = λ base db. (db ≡ base) × HasLineFor part caller c.args.item.now.key in
    still_called n part (Err fault.Memory) (state g.S.Store c.args.conn.now) Nothing Answers (λ base db. ⊥) (λ db any. (refl, line)) (λ P h. tt)
