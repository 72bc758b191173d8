use Rattle.std.proofs.Common.{rules, ◌≡◌, ◌-◌, ◌∙◌, ℕ, List, refl, ap, subst, arith, drop, length, take, length-drop, length-take}
use Rattle.std.proofs.lemmas.List.{take_rest}
use Rattle.std.proofs.lemmas.List.Elements.{All-nil}
use Rattle.dr_store_past.specs.declared.lines.PastLine.{PastLine}
use Rattle.dr_store_past.specs.Counted.{texts_size}
use Rattle.dr_store_past.specs.Lines.{FitsPast, texts_behind}
use Rattle.dr_store_past.specs.Refusals.{IsWhyNotPut}
use Rattle.dr_store_past.specs.Shown.{ArePut}
use Rattle.dr_store_past.proofs.Growing.{keeps_all}
use Rattle.dr_store_past.proofs.Putting.{none_put, put_count}
use Rattle.dr_store_past.proofs.Steps.{all_pages, fit_on, keeps_page, page_on, page_stop, texts_not_made}
use Rattle.dr_store_past.proofs.Told.{all_fitting}
use Rattle.dr_store_past.proofs.Written.{err_told}
use Rattle.dr_store_past.proofs.writing.write_behind.Goals as goal

pub loop-done-init : goal.loop-done-init
loop-done-init g c = (
  none_put g.F.Disk.Disk c.args.disks.now.items c.args.from.now c.requires,
  keeps_all g.F.Disk.Disk _ c.args.disks.now.items c.args.disks.now.items refl,
  omega arith,
  All-nil FitsPast,
  omega arith,
  search rules,
)

pub loop-done-preserved : goal.loop-done-preserved
loop-done-preserved g c =
    let done = c.loop-done.done in
    let more = c.min-more.result in
    let lines = c.args.lines.now in
    let rest = take (length lines - done) (drop done lines) in
    let page = take more rest in
    let left = length-drop done lines in
    let cut = length-take (length lines - done) (drop done lines) in
    let part = length-take more rest in
    let size = c.min-more.ensures in
    let less = c.loop-done-test.true in
    let was = c.loop-done.invariant in
    let texts = texts_behind c.loop-done.last.count page in
    let is : page ≡ take more (drop done lines) = ap (λ (ls : List PastLine). take more ls) (take_rest lines done) in
    let put : ArePut g.F.Disk.Disk c.loop-done.disks.items c.write_texts.new.disks.items c.loop-done.last texts c.in_ok-last.last =
    subst (λ (ls : List (List ℕ)). ArePut g.F.Disk.Disk c.loop-done.disks.items c.write_texts.new.disks.items c.loop-done.last ls c.in_ok-last.last)
    (c.deref.ensures.value ∙ c.in_ok-texts.ensures.texts) c.in_ok-last.ensures.put in
    let n = put_count g.F.Disk.Disk c.loop-done.disks.items c.write_texts.new.disks.items c.loop-done.last texts c.in_ok-last.last put in
    let sizes = texts_size c.loop-done.last.count page in
    let number = was.4 in
    let low = c.in_ok-texts.ensures.counted in (
      page_on g.F.Disk.Disk c.args.disks.now.items c.loop-done.disks.items c.write_texts.new.disks.items c.args.from.now c.loop-done.last c.requires was.1
          c.write_texts.ensures.keeps lines done was.0 was.4 more page is c.in_ok-last.last put,
      keeps_page g.F.Disk.Disk c.args.disks.now.items c.loop-done.disks.items c.write_texts.new.disks.items c.args.from.now c.loop-done.last c.requires was.1
          c.write_texts.ensures.keeps lines done was.0 was.4 more page is,
      omega (arith, left, cut, size, less),
      fit_on g.F.Disk.Disk c.args.disks.now.items c.loop-done.disks.items c.write_texts.new.disks.items c.args.from.now c.loop-done.last c.requires was.1
          c.write_texts.ensures.keeps lines done was.0 was.4 more page is was.3 c.in_ok-texts.ensures.fits,
      omega (arith, n, sizes, number, part, left, cut, size, less),
      omega (arith, n, sizes, low),
    )

pub returns-in_err-texts-clause-why : goal.returns-in_err-texts-clause-why
returns-in_err-texts-clause-why g c =
    let done = c.loop-done.done in
    let more = c.min-more.result in
    let lines = c.args.lines.now in
    let page = take more (take (length lines - done) (drop done lines)) in
    let was = c.loop-done.invariant in
    err_told _ _ _ c.from_residual.ensures
    (texts_not_made g.F.Disk.Disk c.args.disks.now.items c.loop-done.disks.items c.loop-done.disks.items c.args.from.now c.loop-done.last c.requires was.1
    (keeps_all g.F.Disk.Disk _ c.loop-done.disks.items c.loop-done.disks.items refl)
    lines done was.0 was.4 more page (ap (λ (ls : List PastLine). take more ls) (take_rest lines done)) _ c.in_err-texts.ensures.why)

pub returns-in_err-last-clause-keeps : goal.returns-in_err-last-clause-keeps
returns-in_err-last-clause-keeps g c =
    let done = c.loop-done.done in
    let more = c.min-more.result in
    let lines = c.args.lines.now in
    let page = take more (take (length lines - done) (drop done lines)) in
    let was = c.loop-done.invariant in
    keeps_page g.F.Disk.Disk c.args.disks.now.items c.loop-done.disks.items c.write_texts.new.disks.items c.args.from.now c.loop-done.last c.requires was.1
    c.write_texts.ensures.keeps lines done was.0 was.4 more page (ap (λ (ls : List PastLine). take more ls) (take_rest lines done))

pub returns-in_err-last-clause-why : goal.returns-in_err-last-clause-why
returns-in_err-last-clause-why g c =
    let done = c.loop-done.done in
    let more = c.min-more.result in
    let lines = c.args.lines.now in
    let page = take more (take (length lines - done) (drop done lines)) in
    let was = c.loop-done.invariant in
    err_told _ _ _ c.from_residual-in_err-last.ensures
    (page_stop g.F.Disk.Disk c.args.disks.now.items c.loop-done.disks.items c.write_texts.new.disks.items c.args.from.now c.loop-done.last c.requires was.1
    c.write_texts.ensures.keeps lines done was.0 was.4 more page (ap (λ (ls : List PastLine). take more ls) (take_rest lines done)) _
    (subst
    (λ (ls : List (List ℕ)). IsWhyNotPut g.F.Disk.Disk c.loop-done.disks.items c.write_texts.new.disks.items c.loop-done.last ls c.in_err-last.field-0.0)
    (c.deref.ensures.value ∙ c.in_ok-texts.ensures.texts) c.in_err-last.ensures.why))

pub returns-clause-put : goal.returns-clause-put
returns-clause-put g c =
    all_pages g.F.Disk.Disk c.args.disks.now.items c.loop-done.disks.items c.args.from.now c.loop-done.last c.args.lines.now c.loop-done.done
    c.loop-done-test.false c.loop-done.invariant.0

pub returns-clause-fit : goal.returns-clause-fit
returns-clause-fit g c = all_fitting c.loop-done.done c.args.lines.now c.loop-done-test.false c.loop-done.invariant.3

pub returns-clause-counts : goal.returns-clause-counts
returns-clause-counts g c =
    let n = c.loop-done.invariant.4 in
    let low = c.loop-done.invariant.2 in
    let over = c.loop-done-test.false in
    omega (arith, n, low, over)

pub returns-clause-keeps : goal.returns-clause-keeps
returns-clause-keeps g c = c.loop-done.invariant.1
