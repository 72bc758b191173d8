use Rattle.std.proofs.Common.{◌-◌, ℕ, List, refl, subst, arith, drop, length, take, length-drop, length-take}
use Rattle.std.proofs.lemmas.List.{take_rest}
use Rattle.dr_store_past.specs.Refusals.{IsWhyNotPut}
use Rattle.dr_store_past.specs.Shown.{ArePut}
use Rattle.dr_store_past.proofs.Growing.{keeps_all}
use Rattle.dr_store_past.proofs.Putting.{none_put, put_count}
use Rattle.dr_store_past.proofs.Steps.{all_put, keeps_texts, texts_on, texts_stop}
use Rattle.dr_store_past.proofs.Written.{err_told}
use Rattle.dr_store_past.proofs.writing.write_texts.Goals as goal

pub loop-done-init : goal.loop-done-init
loop-done-init g c = (
  none_put g.F.Disk.Disk c.args.disks.now.items c.args.from.now c.requires,
  keeps_all g.F.Disk.Disk _ c.args.disks.now.items c.args.disks.now.items refl,
  omega arith,
)

pub loop-done-preserved : goal.loop-done-preserved
loop-done-preserved g c =
    let done = c.loop-done.done in
    let texts = c.args.texts.now in
    let left = length-drop done texts in
    let cut = length-take (length texts - done) (drop done texts) in
    let less = c.loop-done-test.true in
    let was = c.loop-done.invariant in
    let put = c.in_ok-last.ensures.put (omega (arith, left, cut, less)) in
    let number = put_count g.F.Disk.Disk c.args.disks.now.items c.loop-done.disks.items c.args.from.now (take done texts) c.loop-done.last was.0 in
    let size = length-take done texts in
    let n = put.3 in
    let most = put.2 in
    let is = c.saturating_sub-done.ensures in (
      texts_on g.F.Disk.Disk c.args.disks.now.items c.loop-done.disks.items c.write_part.new.disks.items c.args.from.now c.loop-done.last c.requires was.1
          c.write_part.ensures.keeps texts done was.0 c.in_ok-last.last put.0 c.saturating_sub-done.result (omega (arith, is, n, number, size, less))
          (subst (λ (ls : List (List ℕ)). ArePut g.F.Disk.Disk c.loop-done.disks.items c.write_part.new.disks.items c.loop-done.last (take put.0 ls) c.in_ok-last.last)
          (take_rest texts done) put.4),
      keeps_texts g.F.Disk.Disk c.args.disks.now.items c.loop-done.disks.items c.write_part.new.disks.items c.args.from.now c.loop-done.last c.requires was.1
          c.write_part.ensures.keeps texts done was.0,
      omega (arith, is, n, number, size, less, most, left, cut),
    )

pub returns-in_err-last-clause-keeps : goal.returns-in_err-last-clause-keeps
returns-in_err-last-clause-keeps g c =
    keeps_texts g.F.Disk.Disk c.args.disks.now.items c.loop-done.disks.items c.write_part.new.disks.items c.args.from.now c.loop-done.last c.requires
    c.loop-done.invariant.1 c.write_part.ensures.keeps c.args.texts.now c.loop-done.done c.loop-done.invariant.0

pub returns-in_err-last-clause-why : goal.returns-in_err-last-clause-why
returns-in_err-last-clause-why g c =
    let done = c.loop-done.done in
    let texts = c.args.texts.now in
    err_told _ _ _ c.from_residual.ensures
    (texts_stop g.F.Disk.Disk c.args.disks.now.items c.loop-done.disks.items c.write_part.new.disks.items c.args.from.now c.loop-done.last c.requires
    c.loop-done.invariant.1 c.write_part.ensures.keeps texts done c.loop-done.invariant.0 _
    (subst (λ (ls : List (List ℕ)). IsWhyNotPut g.F.Disk.Disk c.loop-done.disks.items c.write_part.new.disks.items c.loop-done.last ls c.in_err-last.field-0.0)
    (take_rest texts done) c.in_err-last.ensures.why))

pub loop-done-smaller : goal.loop-done-smaller
loop-done-smaller g c =
    let done = c.loop-done.done in
    let texts = c.args.texts.now in
    let left = length-drop done texts in
    let cut = length-take (length texts - done) (drop done texts) in
    let less = c.loop-done-test.true in
    let put = c.in_ok-last.ensures.put (omega (arith, left, cut, less)) in
    let number = put_count g.F.Disk.Disk c.args.disks.now.items c.loop-done.disks.items c.args.from.now (take done texts) c.loop-done.last c.loop-done.invariant.0 in
    let size = length-take done texts in
    let n = put.3 in
    let some = put.1 in
    let is = c.saturating_sub-done.ensures in
    omega (arith, is, n, some, number, size, less)

pub returns-clause-put : goal.returns-clause-put
returns-clause-put g c =
    all_put g.F.Disk.Disk c.args.disks.now.items c.loop-done.disks.items c.args.from.now c.loop-done.last c.args.texts.now c.loop-done.done
    c.loop-done-test.false c.loop-done.invariant.0

pub returns-clause-keeps : goal.returns-clause-keeps
returns-clause-keeps g c = c.loop-done.invariant.1
