use Rattle.std.proofs.Common.{inl, refl, subst, List, ℕ, ◌≡◌, Option}
use Rattle.sqlite.specs.Held.{state}
use Rattle.sqlite.specs.Tree.{Trees}
use Rattle.dr_ledger.specs.declared.fault.LedgerFault.TheVariants as fault
use Rattle.dr_store_changes.specs.Changes.{HasNeither}
use Rattle.dr_store_calls.specs.declared.knowing.Known.{Known}
use Rattle.dr_store_calls.specs.Knowing.{IsWhatIsKnown, IsThere}
use Rattle.dr_store_calls.specs.Shelving.{IsPut}
use Rattle.dr_store_calls.proofs.Takings.{not_received, received}
use Rattle.dr_store_calls.proofs.receiving.arrive_by.Goals as goal

pub returns-in-No-clause-called : goal.returns-in-No-clause-called
returns-in-No-clause-called g c =
    let Comes : Option (List ℕ) → Type 0 =
    IsPut (c.arrive_new.new.shelf ≡ c.args.shelf.now) (g.B.Shelf.uses c.args.shelf.now) (g.B.Shelf.uses c.arrive_new.new.shelf)
    (g.B.Shelf.stands c.arrive_new.new.shelf) (g.B.Shelf.apart (g.B.Shelf.named c.args.shelf.now)) c.args.came.now.body.now in
    let came = c.args.came.now in
    let Knows : Known → Trees → Type 0 = λ what base. IsWhatIsKnown base came.instance.now what in
    received Comes came (state g.S.Store c.args.conn.now) (state g.S.Store c.arrive_new.new.conn) c.arrive_new.result (HasNeither came.instance.now.uid) (Knows c.args.known)
    (λ db is. subst (λ what. Knows what db) c.in-No.is is) c.arrive_new.ensures.called

pub returns-in-Other-clause-called : goal.returns-in-Other-clause-called
returns-in-Other-clause-called g c =
    let Comes : Option (List ℕ) → Type 0 =
    IsPut (c.args.shelf.now ≡ c.args.shelf.now) (g.B.Shelf.uses c.args.shelf.now) (g.B.Shelf.uses c.args.shelf.now)
    (g.B.Shelf.stands c.args.shelf.now) (g.B.Shelf.apart (g.B.Shelf.named c.args.shelf.now)) c.args.came.now.body.now in
    let came = c.args.came.now in
    let Knows : Known → Trees → Type 0 = λ what base. IsWhatIsKnown base came.instance.now what in
    not_received Comes came (state g.S.Store c.args.conn.now) (Knows c.args.known) fault.Conflict
    (λ db is. ((c.requires.delivered.line, subst (λ what. Knows what db) c.in-Other.is is, refl), λ uid there h. inl h, refl)) (λ P h. h)

pub returns-in-Same-clause-called : goal.returns-in-Same-clause-called
returns-in-Same-clause-called g c =
    let Comes : Option (List ℕ) → Type 0 =
    IsPut (c.arrive_there.new.shelf ≡ c.args.shelf.now) (g.B.Shelf.uses c.args.shelf.now) (g.B.Shelf.uses c.arrive_there.new.shelf)
    (g.B.Shelf.stands c.arrive_there.new.shelf) (g.B.Shelf.apart (g.B.Shelf.named c.args.shelf.now)) c.args.came.now.body.now in
    let came = c.args.came.now in
    let Knows : Known → Trees → Type 0 = λ what base. IsWhatIsKnown base came.instance.now what in
    received Comes came (state g.S.Store c.args.conn.now) (state g.S.Store c.arrive_there.new.conn) c.arrive_there.result (λ base. IsThere base came.instance.now c.in-Same.whole) (Knows c.args.known)
    (λ db is. subst (λ what. Knows what db) c.in-Same.is is) c.arrive_there.ensures.called
