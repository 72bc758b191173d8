use Rattle.std.proofs.Common.{◌≡◌, length, drop, take_at, ap, ◌∙◌, subst, sym, Contains, rules}
use Rattle.std.proofs.Common.{All, IsTrue, List, ℕ}
use Rattle.dr_store_bodies.specs.declared.extent.Extent.{Extent}
use Rattle.dr_store_bodies.specs.Bodies.{extents}
use Rattle.dr_store_bodies.specs.Extents.{IsSafe, Stand}
use Rattle.dr_store_shelf.specs.Cells.{Passes, extent_in}
use Rattle.dr_store_shelf.proofs.Looked.{shown_as_before}
use Rattle.dr_store_shelf.proofs.in_file.InFile.read.Goals as goal

pub returns-in_err-get-clause-keeps : goal.returns-in_err-get-clause-keeps
returns-in_err-get-clause-keeps g c = λ other bytes used stands. (
  (used.0, subst (λ xs. Contains xs (extent_in other)) (sym c.get.ensures.listed) used.1),
  (c.get.ensures.keeps (extent_in other) bytes stands.0, stands.1),
)

pub returns-then-not-passes-clause-keeps : goal.returns-then-not-passes-clause-keeps
returns-then-not-passes-clause-keeps g c = λ other bytes used stands. (
  (used.0, subst (λ xs. Contains xs (extent_in other)) (sym c.get.ensures.listed) used.1),
  (c.get.ensures.keeps (extent_in other) bytes stands.0, stands.1),
)

pub returns-clause-keeps : goal.returns-clause-keeps
returns-clause-keeps g c = λ other bytes used stands. (
  (used.0, subst (λ xs. Contains xs (extent_in other)) (sym c.get.ensures.listed) used.1),
  (c.get.ensures.keeps (extent_in other) bytes stands.0, stands.1),
)

pub returns-clause-read : goal.returns-clause-read
returns-clause-read g c = λ clean bytes there.
    let disk = c.args.self.now.bodies.disk in
    let held : Stand (g.D.Disk.seen disk) (g.D.Disk.may_leave disk) c.args.extent bytes =
    subst (λ (e : Extent). Stand (g.D.Disk.seen disk) (g.D.Disk.may_leave disk) e bytes)
    (sym c.requires) there in
    let same : c.get.new.buf ≡ bytes = c.in_ok-get.ensures.read clean bytes held in
    let long : length c.get.new.buf ≡ c.in_ok-bytes.bytes.len =
    ap length same ∙ held.whole ∙ sym c.in_ok-bytes.ensures.len in
    take_at c.get.new.buf (drop (length c.get.new.buf) c.in_ok-bytes.bytes.items)
    c.in_ok-bytes.bytes.len long ∙ same

pub returns-then-not-passes-clause-why : goal.returns-then-not-passes-clause-why
returns-then-not-passes-clause-why g c = λ clean bytes stands.
    let disk = c.args.self.now.bodies.disk in
    let held : Stand (g.D.Disk.seen disk) (g.D.Disk.may_leave disk) c.args.extent bytes =
    subst (λ (e : Extent). Stand (g.D.Disk.seen disk) (g.D.Disk.may_leave disk) e bytes)
    (sym c.requires) stands.0 in
    let same : c.get.new.buf ≡ bytes = c.in_ok-get.ensures.read clean bytes held in
    let long : length c.get.new.buf ≡ c.in_ok-bytes.bytes.len =
    ap length same ∙ held.whole ∙ sym c.in_ok-bytes.ensures.len in
    let shown : c.deref.result.now ≡ bytes =
    c.deref.ensures.value
    ∙ take_at c.get.new.buf (drop (length c.get.new.buf) c.in_ok-bytes.bytes.items)
    c.in_ok-bytes.bytes.len long
    ∙ same in
    let yes : IsTrue c.passes.result = c.passes.ensures.1
    (subst (Passes c.args.self.now.key c.args.cell.now) (sym shown) stands.1) in
    absurd (search rules)

pub returns-in_err-get-clause-uses : goal.returns-in_err-get-clause-uses
returns-in_err-get-clause-uses g c = λ other used. (
  used.0,
  subst (λ xs. Contains xs (extent_in other)) (sym c.get.ensures.listed) used.1,
)

pub returns-then-not-passes-clause-uses : goal.returns-then-not-passes-clause-uses
returns-then-not-passes-clause-uses g c = λ other used. (
  used.0,
  subst (λ xs. Contains xs (extent_in other)) (sym c.get.ensures.listed) used.1,
)

pub returns-clause-uses : goal.returns-clause-uses
returns-clause-uses g c = λ other used. (
  used.0,
  subst (λ xs. Contains xs (extent_in other)) (sym c.get.ensures.listed) used.1,
)

pub returns-in_err-get-clause-shows : goal.returns-in_err-get-clause-shows
returns-in_err-get-clause-shows g c = λ clean other used.
    let was = c.args.self.now.bodies.disk in
    let new = c.get.new.self.disk in
    let seen : List ℕ = g.D.Disk.seen was in
    let may : List ℕ → Type 0 = g.D.Disk.may_leave was in
    let uses = extents c.args.self.now.bodies in
    let all : All (IsSafe seen may) uses =
    subst (All (IsSafe seen may)) c.extents-extents.ensures.all
    (c.extents-extents.ensures.safe (c.get.ensures.clean clean)) in
    shown_as_before seen (g.D.Disk.seen new) may (g.D.Disk.may_leave new) uses (extent_in other) all used.1
    (λ held is. c.get.ensures.keeps (extent_in other) held is)

pub returns-then-not-passes-clause-shows : goal.returns-then-not-passes-clause-shows
returns-then-not-passes-clause-shows g c = λ clean other used.
    let was = c.args.self.now.bodies.disk in
    let new = c.get.new.self.disk in
    let seen : List ℕ = g.D.Disk.seen was in
    let may : List ℕ → Type 0 = g.D.Disk.may_leave was in
    let uses = extents c.args.self.now.bodies in
    let all : All (IsSafe seen may) uses =
    subst (All (IsSafe seen may)) c.extents-extents.ensures.all
    (c.extents-extents.ensures.safe (c.get.ensures.clean clean)) in
    shown_as_before seen (g.D.Disk.seen new) may (g.D.Disk.may_leave new) uses (extent_in other) all used.1
    (λ held is. c.get.ensures.keeps (extent_in other) held is)

pub returns-clause-shows : goal.returns-clause-shows
returns-clause-shows g c = λ clean other used.
    let was = c.args.self.now.bodies.disk in
    let new = c.get.new.self.disk in
    let seen : List ℕ = g.D.Disk.seen was in
    let may : List ℕ → Type 0 = g.D.Disk.may_leave was in
    let uses = extents c.args.self.now.bodies in
    let all : All (IsSafe seen may) uses =
    subst (All (IsSafe seen may)) c.extents-extents.ensures.all
    (c.extents-extents.ensures.safe (c.get.ensures.clean clean)) in
    shown_as_before seen (g.D.Disk.seen new) may (g.D.Disk.may_leave new) uses (extent_in other) all used.1
    (λ held is. c.get.ensures.keeps (extent_in other) held is)
