use Rattle.std.proofs.Common.{◌≡◌, ◌==◌, Bool, not, true, subst, sym, ap, ◌∙◌, Contains}
use Rattle.std.proofs.Common.{filter}
use Rattle.std.proofs.lemmas.Bool.{eq-eqb, false≢true, ne_eqb}
use Rattle.std.proofs.lemmas.List.Elements.{All-contains, filter_passes}
use Rattle.dr_store_bodies.specs.declared.extent.Extent.{Extent}
use Rattle.dr_store_bodies.specs.Bodies.{extents}
use Rattle.dr_store_bodies.specs.Extents.{Stand}
use Rattle.dr_store_shelf.specs.Cells.{extent_in, shown}
use Rattle.dr_store_shelf.specs.Tested.{read_in}
use Rattle.dr_store_shelf.proofs.Kept.{kept_in}
use Rattle.dr_store_shelf.proofs.in_file.InFileShelf.let_go.Goals as goal

pub returns-in-Some-clause-keeps : goal.returns-in-Some-clause-keeps
returns-in-Some-clause-keeps g c = λ other bytes apart used stands.
    let gone : Extent = c.in-Some.extent in
    let file = c.args.self.now.bodies in
    let is : gone.at ≡ (extent_in c.args.cell.now).at =
    ap (λ (e : Extent). e.at) c.in-Some.ensures.1 in
    let stays : not ((extent_in other).at == gone.at) ≡ true =
    ap not (ne_eqb (extent_in other).at gone.at (λ same. apart (sym (same ∙ is)))) in (
      (
        used.0,
        subst (λ xs. Contains xs (extent_in other)) (sym c.free.ensures.listed)
            (kept_in (λ (e : Extent). not (e.at == gone.at)) (extents file) (extent_in other) used.1
            stays),
      ),
      (
        subst (λ disk. Stand (g.D.Disk.seen disk) (g.D.Disk.may_leave disk) (extent_in other) bytes)
            (sym c.free.ensures.untouched) stands.0,
        stands.1,
      ),
    )

pub returns-in-Some-clause-gone : goal.returns-in-Some-clause-gone
returns-in-Some-clause-gone g c = λ one used.
    let gone : Extent = c.in-Some.extent in
    let cell = c.args.cell.now in
    let test : Extent → Bool = λ e. not (e.at == gone.at) in
    let is : gone.at ≡ (extent_in cell).at = ap (λ (e : Extent). e.at) c.in-Some.ensures.1 in
    let left : Contains (filter test (extents c.args.self.now.bodies)) (extent_in cell) =
    subst (λ xs. Contains xs (extent_in cell)) c.free.ensures.listed used.1 in
    let stays : not ((extent_in cell).at == gone.at) ≡ true =
    All-contains (λ e. test e ≡ true) (filter test (extents c.args.self.now.bodies))
    (extent_in cell) (filter_passes test (extents c.args.self.now.bodies)) left in
    false≢true (sym (ap not (eq-eqb (extent_in cell).at gone.at (sym is))) ∙ stays)

pub returns-in-Some-clause-shows : goal.returns-in-Some-clause-shows
returns-in-Some-clause-shows g c = λ clean other used.
    ap (λ disk. shown (g.D.Disk.seen disk) (extent_in other)) c.free.ensures.untouched

pub returns-in-Some-clause-reads : goal.returns-in-Some-clause-reads
returns-in-Some-clause-reads g c = λ clean other used.
    ap (λ disk. read_in c.args.self.now.key other (shown (g.D.Disk.seen disk) (extent_in other)))
    c.free.ensures.untouched

pub returns-in-Some-clause-uses : goal.returns-in-Some-clause-uses
returns-in-Some-clause-uses g c = λ other apart used.
    let gone : Extent = c.in-Some.extent in
    let file = c.args.self.now.bodies in
    let is : gone.at ≡ (extent_in c.args.cell.now).at =
    ap (λ (e : Extent). e.at) c.in-Some.ensures.1 in
    let stays : not ((extent_in other).at == gone.at) ≡ true =
    ap not (ne_eqb (extent_in other).at gone.at (λ same. apart (sym (same ∙ is)))) in (
      used.0,
      subst (λ xs. Contains xs (extent_in other)) (sym c.free.ensures.listed)
          (kept_in (λ (e : Extent). not (e.at == gone.at)) (extents file) (extent_in other) used.1
          stays),
    )
