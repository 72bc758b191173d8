use Rattle.std.proofs.Common.{◌∙◌, ◌≡◌, ◌&&◌, ◌==◌, not, false, Bool, ap, length, sym, subst, List, ℕ, Option}
use Rattle.sqlite.specs.Held.{state}
use Rattle.sqlite.specs.Tree.{Trees}
use Rattle.dr_ledger.specs.declared.item.Arrived.TheVariants.{New}
use Rattle.dr_store_changes.specs.declared.first.Taking.{Taking}
use Rattle.dr_store_calls.specs.Knowing.{FitsTables, taking_there}
use Rattle.dr_store_calls.specs.Receiving.{IsFoundFor, IsThereFor}
use Rattle.dr_store_calls.proofs.Fitting.{fits_there}
use Rattle.dr_store_calls.specs.Shelving.{IsPut}
use Rattle.dr_store_calls.proofs.Takings.{received_as}
use Rattle.dr_store_calls.proofs.receiving.bring_there.Goals as goal

pub returns-clause-called : goal.returns-clause-called
returns-clause-called g c =
    let Comes : Option (List ℕ) → Type 0 =
    IsPut (c.bring_item.new.shelf ≡ c.args.shelf.now) (g.B.Shelf.uses c.args.shelf.now) (g.B.Shelf.uses c.bring_item.new.shelf)
    (g.B.Shelf.stands c.bring_item.new.shelf) (g.B.Shelf.apart (g.B.Shelf.named c.args.shelf.now)) c.args.came.now.body.now in
    let came = c.args.came.now in
    let caller = came.caller.now in
    let item = came.instance.now in
    let first = c.args.first.now in
    let to = first.targets.to in
    let keep = first.targets.keep in
    let whole = c.args.whole in
    let again = first.again in
    let dests = first.dests in
    let ks = c.keeps_now-keeps.result in
    let t = c.taking_of-taking.result in
    let keeps : ks ≡ (keep && not first.kept) = c.keeps_now-keeps.ensures in
    let it_is = taking_there whole keep ((length again == 0) && (length dests == 0)) in
    let how : t ≡ it_is = c.taking_of-taking.ensures ∙ ap (λ none. taking_there whole keep none) c.are_none-none.ensures in
    let Wants : Taking → Bool → Trees → Type 0 = λ how k base. FitsTables how caller item to keep again dests k base in
    let Asks : Trees → Type 0 = λ base. IsThereFor came whole false base × IsFoundFor item.uid base first in
    received_as Comes came (state g.S.Store c.args.conn.now) (state g.S.Store c.bring_item.new.conn) Comes (λ there is. is) New c.bring_item.result (Wants t ks) Asks
    (λ past base l it. subst (λ x. Wants x ks base) (sym how) (subst (λ k. Wants it_is k base) (sym keeps)
    (fits_there came.n came.site.now caller item to keep whole first.kept again dests base l it.0.0 it.0.1 it.1.again it.1.dests it.1.kept)))
    c.bring_item.ensures.called
