use Rattle.std.proofs.Common.{◌≢◌, ◌<◌, ◌≤◌, ◌^◌, [], ◌∷◌, length, All, Contains}
use Rattle.std.proofs.Common.{List, ℕ, subst, sym, ap, ◌∙◌, rules}
use Rattle.std.proofs.lemmas.List.Sorted.{Contains-permutation}
use Rattle.std.proofs.lemmas.List.Elements.{All-contains, Contains-append_left}
use Rattle.std.proofs.lemmas.List.Elements.{Contains-append_right, Contains-push}
use Rattle.dr_store_bodies.specs.declared.extent.Extent.{Extent}
use Rattle.dr_store_bodies.specs.Bodies.{extents}
use Rattle.dr_store_bodies.specs.Extents.{IsSafe, Stand, end_of}
use Rattle.dr_store_shelf.specs.Cells.{Passes, extent_in}
use Rattle.dr_store_shelf.proofs.CellLemmas.{extent_named}
use Rattle.dr_store_shelf.proofs.Kept.{all_fewer, on_err}
use Rattle.dr_store_shelf.proofs.Looked.{read_alike, shown_as_before}
use Rattle.dr_store_shelf.proofs.in_file.InFileShelf.put.Goals as goal

-- what was there before the file was cut is there behind that
pub returns-in_err-cut_once-clause-keeps : goal.returns-in_err-cut_once-clause-keeps
returns-in_err-cut_once-clause-keeps g c = λ cell bytes used stands. (
  (used.0, subst (λ xs. Contains xs (extent_in cell)) (sym c.cut_once.ensures.listed) used.1),
  (c.cut_once.ensures.keeps (extent_in cell) bytes used.1 stands.0, rw c.cut_once.ensures.key stands.1),
)

pub returns-in_err-cut_once-clause-unused : goal.returns-in_err-cut_once-clause-unused
returns-in_err-cut_once-clause-unused g c =
    on_err c.from_residual-in_err-cut_once.result (λ cell used. (
      used.0,
      subst (λ xs. Contains xs (extent_in cell)) c.cut_once.ensures.listed used.1,
    ))

pub returns-in_err-extent-clause-keeps : goal.returns-in_err-extent-clause-keeps
returns-in_err-extent-clause-keeps g c = λ cell bytes used stands.
    let e : Extent = extent_in cell in
    let within : Contains (extents c.cut_once.new.self.bodies) e =
    subst (λ xs. Contains xs e) (sym c.cut_once.ensures.listed) used.1 in (
      (used.0, subst (λ xs. Contains xs e) (sym c.in_err-extent.ensures.unlisted) within),
      (
        c.put.ensures.keeps e bytes within (c.cut_once.ensures.keeps e bytes used.1 stands.0),
        subst (λ key. Passes key cell bytes) (sym c.cut_once.ensures.key) stands.1,
      ),
    )

pub returns-in_err-extent-clause-unused : goal.returns-in_err-extent-clause-unused
returns-in_err-extent-clause-unused g c =
    on_err c.from_residual-in_err-extent.result (λ cell used. (
      used.0,
      subst (λ xs. Contains xs (extent_in cell)) c.cut_once.ensures.listed
          (subst (λ xs. Contains xs (extent_in cell)) c.in_err-extent.ensures.unlisted used.1),
    ))

pub returns-clause-stands : goal.returns-clause-stands
returns-clause-stands g c =
    let body = c.args.body.now in
    let e : Extent = c.in_ok-extent.extent in
    let held = c.in_ok-extent.ensures.held in
    let disk = c.put.new.self.disk in
    let one : e.at < 2 ^ 64 = search rules in
    let two : length body < 2 ^ 64 = search rules in
    let it = extent_named c.args.self.now.key e body c.in_ok-cell.cell.items
    c.placed_cell.result.items c.in_ok-cell.ensures held.whole one two
    c.placed_cell.ensures in (
      subst (λ (f : Extent). Stand (g.D.Disk.seen disk) (g.D.Disk.may_leave disk) f body)
          (sym it.0) held,
      subst (λ key. Passes key c.placed_cell.result.items body) (sym c.cut_once.ensures.key) it.1,
    )

pub returns-clause-used : goal.returns-clause-used
returns-clause-used g c =
    let body = c.args.body.now in
    let e : Extent = c.in_ok-extent.extent in
    let held = c.in_ok-extent.ensures.held in
    let old = extents c.cut_once.new.self.bodies in
    let new = extents c.put.new.self in
    let one : e.at < 2 ^ 64 = search rules in
    let two : length body < 2 ^ 64 = search rules in
    let it = extent_named c.args.self.now.key e body c.in_ok-cell.cell.items
    c.placed_cell.result.items c.in_ok-cell.ensures held.whole one two
    c.placed_cell.ensures in (
      it.1.ends,
      subst (Contains new) (sym it.0)
          (Contains-permutation (e ∷ old) new e c.in_ok-extent.ensures.listed
          (Contains-append_left (e ∷ []) old e (Contains-push [] e))),
    )

pub returns-clause-beside : goal.returns-clause-beside
returns-clause-beside g c = λ other used.
    let body = c.args.body.now in
    let e : Extent = c.in_ok-extent.extent in
    let held = c.in_ok-extent.ensures.held in
    let old = extents c.cut_once.new.self.bodies in
    let within : Contains old (extent_in other) =
    subst (λ xs. Contains xs (extent_in other)) (sym c.cut_once.ensures.listed) used.1 in
    let one : e.at < 2 ^ 64 = search rules in
    let two : length body < 2 ^ 64 = search rules in
    let it = extent_named c.args.self.now.key e body c.in_ok-cell.cell.items
    c.placed_cell.result.items c.in_ok-cell.ensures held.whole one two
    c.placed_cell.ensures in
    let another : (extent_in other).at ≢ e.at =
    All-contains (λ (f : Extent). f.at ≢ e.at) old (extent_in other)
    c.in_ok-extent.ensures.other within in
    λ same. another (sym same ∙ ap (λ (f : Extent). f.at) it.0)

pub returns-clause-keeps : goal.returns-clause-keeps
returns-clause-keeps g c = λ cell bytes used stands.
    let e : Extent = c.in_ok-extent.extent in
    let old = extents c.cut_once.new.self.bodies in
    let new = extents c.put.new.self in
    let within : Contains old (extent_in cell) =
    subst (λ xs. Contains xs (extent_in cell)) (sym c.cut_once.ensures.listed) used.1 in (
      (
        used.0,
        Contains-permutation (e ∷ old) new (extent_in cell) c.in_ok-extent.ensures.listed
            (Contains-append_right (e ∷ []) old (extent_in cell) within),
      ),
      (
        c.put.ensures.keeps (extent_in cell) bytes within
            (c.cut_once.ensures.keeps (extent_in cell) bytes used.1 stands.0),
        subst (λ key. Passes key cell bytes) (sym c.cut_once.ensures.key) stands.1,
      ),
    )

-- as the first one is put, the file was cut, and what was put ends where its extent does
pub returns-clause-ends : goal.returns-clause-ends
returns-clause-ends g c fresh size all =
    let e : Extent = c.in_ok-extent.extent in
    let old = extents c.cut_once.new.self.bodies in
    let new = extents c.put.new.self in
    let within : All (λ (f : Extent). end_of f ≤ size) (extents c.args.self.now.bodies) =
    subst (All (λ (f : Extent). end_of f ≤ size)) c.cut_once.ensures.listed
    (all_fewer (λ (f : Extent). end_of f ≤ size) old new
    (λ f there. Contains-permutation (e ∷ old) new f c.in_ok-extent.ensures.listed
    (Contains-append_right (e ∷ []) old f there)) all) in
    c.in_ok-extent.ensures.ends size (c.in_ok-cut_once.ensures.ends fresh size within) all

pub returns-in_err-cut_once-clause-shows : goal.returns-in_err-cut_once-clause-shows
returns-in_err-cut_once-clause-shows g c = λ clean cell used.
    let e : Extent = extent_in cell in
    let was = c.args.self.now.bodies.disk in
    let new = c.cut_once.new.self.bodies.disk in
    let seen : List ℕ = g.D.Disk.seen was in
    let may : List ℕ → Type 0 = g.D.Disk.may_leave was in
    let uses = extents c.args.self.now.bodies in
    let all : All (IsSafe seen may) uses =
    subst (All (IsSafe seen may)) c.extents-extents.ensures.all
    (c.extents-extents.ensures.safe (c.cut_once.ensures.clean clean)) in
    shown_as_before seen (g.D.Disk.seen new) may (g.D.Disk.may_leave new) uses e all used.1
    (λ held is. c.cut_once.ensures.keeps e held used.1 is)

pub returns-in_err-extent-clause-shows : goal.returns-in_err-extent-clause-shows
returns-in_err-extent-clause-shows g c = λ clean cell used.
    let e : Extent = extent_in cell in
    let was = c.args.self.now.bodies.disk in
    let new = c.put.new.self.disk in
    let seen : List ℕ = g.D.Disk.seen was in
    let may : List ℕ → Type 0 = g.D.Disk.may_leave was in
    let uses = extents c.args.self.now.bodies in
    let within : Contains (extents c.cut_once.new.self.bodies) e =
    subst (λ xs. Contains xs e) (sym c.cut_once.ensures.listed) used.1 in
    let all : All (IsSafe seen may) uses =
    subst (All (IsSafe seen may)) c.extents-extents.ensures.all
    (c.extents-extents.ensures.safe (c.cut_once.ensures.clean (c.put.ensures.clean clean))) in
    shown_as_before seen (g.D.Disk.seen new) may (g.D.Disk.may_leave new) uses e all used.1
    (λ held is. c.put.ensures.keeps e held within (c.cut_once.ensures.keeps e held used.1 is))

pub returns-clause-shows : goal.returns-clause-shows
returns-clause-shows g c = λ clean cell used.
    let e : Extent = extent_in cell in
    let was = c.args.self.now.bodies.disk in
    let new = c.put.new.self.disk in
    let seen : List ℕ = g.D.Disk.seen was in
    let may : List ℕ → Type 0 = g.D.Disk.may_leave was in
    let uses = extents c.args.self.now.bodies in
    let within : Contains (extents c.cut_once.new.self.bodies) e =
    subst (λ xs. Contains xs e) (sym c.cut_once.ensures.listed) used.1 in
    let all : All (IsSafe seen may) uses =
    subst (All (IsSafe seen may)) c.extents-extents.ensures.all
    (c.extents-extents.ensures.safe (c.cut_once.ensures.clean (c.put.ensures.clean clean))) in
    shown_as_before seen (g.D.Disk.seen new) may (g.D.Disk.may_leave new) uses e all used.1
    (λ held is. c.put.ensures.keeps e held within (c.cut_once.ensures.keeps e held used.1 is))

pub returns-in_err-cut_once-clause-reads : goal.returns-in_err-cut_once-clause-reads
returns-in_err-cut_once-clause-reads g c = λ clean cell used.
    read_alike _ _ cell _ _ c.cut_once.ensures.key
    (returns-in_err-cut_once-clause-shows g c clean cell used)

pub returns-in_err-extent-clause-reads : goal.returns-in_err-extent-clause-reads
returns-in_err-extent-clause-reads g c = λ clean cell used.
    read_alike _ _ cell _ _ c.cut_once.ensures.key
    (returns-in_err-extent-clause-shows g c clean cell used)

pub returns-clause-reads : goal.returns-clause-reads
returns-clause-reads g c = λ clean cell used.
    read_alike _ _ cell _ _ c.cut_once.ensures.key (returns-clause-shows g c clean cell used)

pub returns-in_err-cut_once-clause-uses : goal.returns-in_err-cut_once-clause-uses
returns-in_err-cut_once-clause-uses g c = λ cell used. (
  used.0,
  subst (λ xs. Contains xs (extent_in cell)) (sym c.cut_once.ensures.listed) used.1,
)

pub returns-in_err-extent-clause-uses : goal.returns-in_err-extent-clause-uses
returns-in_err-extent-clause-uses g c = λ cell used. (
  used.0,
  subst (λ xs. Contains xs (extent_in cell)) (sym c.in_err-extent.ensures.unlisted)
      (subst (λ xs. Contains xs (extent_in cell)) (sym c.cut_once.ensures.listed) used.1),
)

pub returns-clause-uses : goal.returns-clause-uses
returns-clause-uses g c = λ cell used.
    let e : Extent = c.in_ok-extent.extent in
    let old = extents c.cut_once.new.self.bodies in
    let new = extents c.put.new.self in (
      used.0,
      Contains-permutation (e ∷ old) new (extent_in cell) c.in_ok-extent.ensures.listed
          (Contains-append_right (e ∷ []) old (extent_in cell)
          (subst (λ xs. Contains xs (extent_in cell)) (sym c.cut_once.ensures.listed) used.1)),
    )
