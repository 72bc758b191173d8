use Rattle.std.proofs.Common.{◌≡◌, subst, sym, All, List, [], ℕ, Some}
use Rattle.std.proofs.lemmas.List.Elements.{All-contains}
use Rattle.dr_store_bodies.specs.declared.extent.Extent.{Extent}
use Rattle.dr_store_bodies.specs.Bodies.{IsUsable, extents}
use Rattle.dr_store_bodies.specs.Extents.{IsSafe, Stand}
use Rattle.dr_store_shelf.specs.Cells.{Passes, extent_in, shown}
use Rattle.dr_store_shelf.specs.Shelves.{IsWhyNotRead, Stands}
use Rattle.dr_store_shelf.specs.Tested.{read_all, read_in, read_none}
use Rattle.dr_store_shelf.proofs.Looked.{read_alike}
use Rattle.dr_store_shelf.specs.Held.{held_is_shown, seen_stands}
use Rattle.dr_store_shelf.proofs.in_file.InFileShelf.look.Goals as goal

-- what was read is what is seen at the cell's extent, which stands there
pub returns-in-Ok-clause-found : goal.returns-in-Ok-clause-found
returns-in-Ok-clause-found g c = λ clean used.
    let disk = c.args.self.now.bodies.disk in
    let seen : List ℕ = g.D.Disk.seen disk in
    let may : List ℕ → Type 0 = g.D.Disk.may_leave disk in
    let cell = c.args.cell.items in
    let e : Extent = extent_in cell in
    let all : All (IsSafe seen may) (extents c.args.self.now.bodies) =
    subst (All (IsSafe seen may)) c.extents-extents.ensures.all
    (c.extents-extents.ensures.safe (c.find.ensures.clean clean)) in
    let safe : IsSafe seen may e =
    All-contains (IsSafe seen may) (extents c.args.self.now.bodies) e all used.1 in
    let stands : Stand seen may e (shown seen e) = seen_stands seen e safe.0 may safe in
    let same : c.in-Ok.got.items ≡ shown seen e =
    c.in-Ok.ensures.read clean (shown seen e)
    (subst (λ x. Stand seen may (extent_in x) (shown seen e)) (sym c.deref.ensures.value) stands) in (
      subst (Stand seen may e) (sym same) stands,
      subst (λ x. Passes c.args.self.now.key x c.in-Ok.got.items) c.deref.ensures.value
          c.in-Ok.ensures.tested,
    )

pub returns-in-Err-NoCell-clause-found : goal.returns-in-Err-NoCell-clause-found
returns-in-Err-NoCell-clause-found g c = λ clean used bytes stands.
    let key = c.args.self.now.key in
    let file = c.args.self.now.bodies in
    let at = c.deref.result.now in
    subst (IsWhyNotRead (IsUsable file) (Stands key file at bytes)) c.in-Err-NoCell.field-0-is
    (c.in-Err-NoCell.ensures.why clean bytes)
    (subst (λ x. Stands key file x bytes) (sym c.deref.ensures.value) stands)

pub returns-in-Err-Unreadable-clause-found : goal.returns-in-Err-Unreadable-clause-found
returns-in-Err-Unreadable-clause-found g c = λ clean used bytes stands.
    let key = c.args.self.now.key in
    let file = c.args.self.now.bodies in
    let at = c.deref.result.now in
    subst (IsWhyNotRead (IsUsable file) (Stands key file at bytes)) c.in-Err-Unreadable.field-0-is
    (c.in-Err-Unreadable.ensures.why clean bytes)
    (subst (λ x. Stands key file x bytes) (sym c.deref.ensures.value) stands)

pub returns-in-Err-Unusable-clause-why : goal.returns-in-Err-Unusable-clause-why
returns-in-Err-Unusable-clause-why g c = λ clean.
    let key = c.args.self.now.key in
    let file = c.args.self.now.bodies in
    let at = c.deref.result.now in
    subst (IsWhyNotRead (IsUsable file) (Stands key file at [])) c.in-Err-Unusable.field-0-is
    (c.in-Err-Unusable.ensures.why clean [])

pub returns-clause-why : goal.returns-clause-why
returns-clause-why g c = λ clean.
    let key = c.args.self.now.key in
    let file = c.args.self.now.bodies in
    let at = c.deref.result.now in
    subst (IsWhyNotRead (IsUsable file) (Stands key file at [])) c.in-Err-Full.field-0-is
    (c.in-Err-Full.ensures.why clean [])

pub returns-in-Ok-clause-read : goal.returns-in-Ok-clause-read
returns-in-Ok-clause-read g c = λ clean used.
    let key = c.args.self.now.key in
    let cell = c.args.cell.items in
    let got = c.in-Ok.got.items in
    let it = returns-in-Ok-clause-found g c clean used in
    let same = held_is_shown _ _ (extent_in cell) got it.0 in
    sym (subst (λ bytes. read_in key cell bytes ≡ Some got) (sym same) (read_all key cell got it.1))

pub returns-in-Err-NoCell-clause-read : goal.returns-in-Err-NoCell-clause-read
returns-in-Err-NoCell-clause-read g c = λ clean used.
    let disk = c.args.self.now.bodies.disk in
    let seen : List ℕ = g.D.Disk.seen disk in
    let may : List ℕ → Type 0 = g.D.Disk.may_leave disk in
    let cell = c.args.cell.items in
    let e : Extent = extent_in cell in
    let all : All (IsSafe seen may) (extents c.args.self.now.bodies) =
    subst (All (IsSafe seen may)) c.extents-extents.ensures.all
    (c.extents-extents.ensures.safe (c.find.ensures.clean clean)) in
    let safe : IsSafe seen may e =
    All-contains (IsSafe seen may) (extents c.args.self.now.bodies) e all used.1 in
    let stands : Stand seen may e (shown seen e) = seen_stands seen e safe.0 may safe in
    sym (read_none c.args.self.now.key cell (shown seen e) (λ passes.
    returns-in-Err-NoCell-clause-found g c clean used (shown seen e) (stands, passes)))

pub returns-in-Err-Unreadable-clause-read : goal.returns-in-Err-Unreadable-clause-read
returns-in-Err-Unreadable-clause-read g c = λ clean used.
    let disk = c.args.self.now.bodies.disk in
    let seen : List ℕ = g.D.Disk.seen disk in
    let may : List ℕ → Type 0 = g.D.Disk.may_leave disk in
    let cell = c.args.cell.items in
    let e : Extent = extent_in cell in
    let all : All (IsSafe seen may) (extents c.args.self.now.bodies) =
    subst (All (IsSafe seen may)) c.extents-extents.ensures.all
    (c.extents-extents.ensures.safe (c.find.ensures.clean clean)) in
    let safe : IsSafe seen may e =
    All-contains (IsSafe seen may) (extents c.args.self.now.bodies) e all used.1 in
    let stands : Stand seen may e (shown seen e) = seen_stands seen e safe.0 may safe in
    sym (read_none c.args.self.now.key cell (shown seen e) (λ passes.
    returns-in-Err-Unreadable-clause-found g c clean used (shown seen e) (stands, passes)))

pub returns-in-Ok-clause-reads : goal.returns-in-Ok-clause-reads
returns-in-Ok-clause-reads g c = λ clean other used.
    read_alike _ _ other _ _ c.find.ensures.key (c.find.ensures.shows clean other used)
