use Rattle.std.proofs.Common.{◌≡◌, ◌∙◌, ◌==◌, [], List, ℕ, ap, length, sym, subst, Option}
use Rattle.sqlite.specs.Held.{state}
use Rattle.sqlite.specs.Tree.{Trees}
use Rattle.dr_base.specs.Texts.{Text}
use Rattle.dr_ledger.specs.declared.item.Arrived.TheVariants.{New}
use Rattle.dr_store_changes.specs.Changes.{HasNeither}
use Rattle.dr_store_changes.specs.declared.first.Taking.{Taking}
use Rattle.dr_store_calls.specs.Knowing.{FitsTables, taking_absent}
use Rattle.dr_store_calls.specs.Shelving.{IsPut}
use Rattle.dr_store_calls.proofs.Fitting.{fits_absent}
use Rattle.dr_store_calls.proofs.Takings.{no_memory, received_as}
use Rattle.dr_store_calls.proofs.receiving.arrive_new.Goals as goal

pub returns-in-Ok-clause-called : goal.returns-in-Ok-clause-called
returns-in-Ok-clause-called g c =
    let came = c.args.came.now in
    let caller = came.caller.now in
    let item = came.instance.now in
    let shelf = c.bring_item.new.shelf in
    let Comes : Option (List ℕ) → Type 0 =
    IsPut (shelf ≡ c.args.shelf.now) (g.B.Shelf.uses c.args.shelf.now) (g.B.Shelf.uses shelf) (g.B.Shelf.stands shelf)
    (g.B.Shelf.apart (g.B.Shelf.named c.args.shelf.now)) came.body.now in
    let to = c.in-Ok.targets.to in
    let keep = c.in-Ok.targets.keep in
    let t = c.taking_new-taking.result in
    let anew = c.new-none.result in
    let none : anew ≡ [] = c.new-none.ensures in
    let it_is = taking_absent keep (length to == 0) in
    let how : t ≡ it_is =
    c.taking_new-taking.ensures ∙ ap (λ none. taking_absent keep none) c.is_empty.ensures in
    let Wants : Taking → List Text → Trees → Type 0 =
    λ how again base. FitsTables how caller item to keep again to keep base in
    received_as Comes came (state g.S.Store c.args.conn.now) (state g.S.Store c.bring_item.new.conn)
    Comes
    (λ there is. is)
    New c.bring_item.result (Wants t anew) (HasNeither item.uid)
    (λ past base l neither. subst
    (λ x. Wants x anew base) (sym how)
    (subst (λ again. Wants it_is again base) (sym none)
    (fits_absent came.n came.site.now caller item to keep base l neither)))
    c.bring_item.ensures.called

pub returns-in-Err-clause-called : goal.returns-in-Err-clause-called
returns-in-Err-clause-called g c =
    let came = c.args.came.now in
    let Uses = g.B.Shelf.uses c.args.shelf.now in
    let Comes : Option (List ℕ) → Type 0 =
    IsPut (c.args.shelf.now ≡ c.args.shelf.now) Uses Uses (g.B.Shelf.stands c.args.shelf.now) (g.B.Shelf.apart (g.B.Shelf.named c.args.shelf.now)) came.body.now in
    no_memory Comes came (state g.S.Store c.args.conn.now) (HasNeither came.instance.now.uid)
    c.requires.delivered
