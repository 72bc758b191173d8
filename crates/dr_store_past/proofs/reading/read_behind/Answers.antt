use Rattle.std.proofs.Common.{rules, ◌∙◌, refl, List, All, arith}
use Rattle.dr_ledger.specs.Books.{Line}
use Rattle.dr_ledger_history.specs.Lines.{lines_of}
use Rattle.dr_store_line_files.specs.Several.{AreClean, all_shown}
use Rattle.dr_store_past.specs.Lines.{texts_behind}
use Rattle.dr_store_past.specs.Places.{IsPlaceBefore}
use Rattle.dr_store_past.specs.Shown.{IsPlaceIn, ShowsPast}
use Rattle.dr_store_past.proofs.Noting.{none_noted, noted_next, noted_so_far}
use Rattle.dr_store_past.proofs.Onward.{IsToldTo, begun, never_more, page_read, right_read, told_end, told_full, told_read, unnoted, unpicked, unread}
use Rattle.dr_store_past.proofs.Written.{err_told}
use Rattle.dr_store_past.proofs.reading.read_behind.Goals as goal

pub loop-at-init : goal.loop-at-init
loop-at-init g c =
    let before : IsPlaceBefore c.args.places.now.items c.args.after c.place_before-at.result = rw c.as_slice.ensures.value at c.place_before-at.ensures in (
      refl,
      refl,
      λ number at entry has. has,
      λ clean. clean,
      refl,
      λ used. used,
      λ all clean it are. begun all _ c.args.seal.now c.args.after c.args.limit it _ are c.place_before-at.result before
          c.new-found.result c.new-found.ensures,
      none_noted _ _ c.args.seal.now _ c.requires,
    )

pub loop-at-preserved : goal.loop-at-preserved
loop-at-preserved g c =
    let made = c.read_next.ensures in
    let was = c.loop-at.invariant in
    let read = c.in-Ok.ensures in
    let told : (all : List Line) → AreClean g.D.Disk c.read_next.new.disks.items
    → (it : ShowsPast all (all_shown g.D.Disk c.args.disks.now.items) c.args.seal.now)
    → All (IsPlaceIn (texts_behind 0 it.lines)) c.args.places.now.items
    → IsToldTo all (texts_behind 0 it.lines) c.in-Ok.next c.args.after c.args.limit (lines_of c.pick_lines.new.found)
    = λ all clean it are.
    told_read g.D.Disk all c.args.seal.now c.args.after c.args.limit _ _ was.0 it c.loop-at.at c.in-Ok.next c.in-Ok.texts.items
    (read.reads clean) (lines_of c.loop-at.found) _
    (rw c.deref.ensures.value at c.in_ok-pick_lines-in-Ok.ensures.picked) (was.6 all (made.clean clean) it are) in (
      made.shows ∙ was.0,
      made.size ∙ was.1,
      λ number at entry has. made.keeps number at entry (was.2 number at entry has),
      λ clean. was.3 (made.clean clean),
      read.faults ∙ was.4,
      λ used. read.usable (was.5 used),
      told,
      noted_next _ _ _ c.args.seal.now _ _ was.7 made.clean c.in-Ok.next _ (search rules)
          (λ all clean it are. (told all clean it are).place) c.in_ok-note_place-in-Ok.ensures.noted,
    )

pub returns-clause-answer : goal.returns-clause-answer
returns-clause-answer g c all clean it are =
    told_end all _ c.args.seal.now c.args.after c.args.limit it c.loop-at.at (lines_of c.loop-at.found)
    c.loop-at-test.false (c.loop-at.invariant.6 all clean it are)

pub returns-then-len-limit-clause-answer : goal.returns-then-len-limit-clause-answer
returns-then-len-limit-clause-answer g c all clean it are =
    told_full all _ c.args.seal.now c.args.after c.args.limit it c.loop-at.at c.loop-at.found (search rules)
    (c.loop-at.invariant.6 all clean it are)

pub returns-in-Err-clause-why : goal.returns-in-Err-clause-why
returns-in-Err-clause-why g c all =
    let was = c.loop-at.invariant in
    let made = c.read_next.ensures in
    unread g.D.Disk c.args.seal.now c.loop-at.at _ _ _ _ was.4 was.5 (λ holds. holds.0)
    (λ holds. right_read g.D.Disk all c.args.seal.now c.args.after c.args.limit _ _ was.0 holds.1.0 c.loop-at.at (lines_of c.loop-at.found)
    (was.6 all (made.clean holds.0) holds.1.0 holds.1.1)) c.in-Err.fault c.in-Err.ensures.why

pub returns-in-Err-clause-notes : goal.returns-in-Err-clause-notes
returns-in-Err-clause-notes g c =
    noted_so_far _ _ _ c.args.seal.now _ _ c.loop-at.invariant.7 c.read_next.ensures.clean

pub returns-then-next-seal-clause-why : goal.returns-then-next-seal-clause-why
returns-then-next-seal-clause-why g c all =
    let was = c.loop-at.invariant in
    let made = c.read_next.ensures in
    λ holds.
    let low = never_more g.D.Disk all c.args.seal.now c.args.after c.args.limit _ _ was.0 holds.1.0 c.loop-at.at c.in-Ok.next c.in-Ok.texts.items
    (c.in-Ok.ensures.reads holds.0) (lines_of c.loop-at.found) (was.6 all (made.clean holds.0) holds.1.0 holds.1.1) in
    let over = c.if-next-seal.true in
    omega (arith, low, over)

pub returns-then-next-seal-clause-notes : goal.returns-then-next-seal-clause-notes
returns-then-next-seal-clause-notes g c =
    noted_so_far _ _ _ c.args.seal.now _ _ c.loop-at.invariant.7 c.read_next.ensures.clean

pub returns-in_err-pick_lines-in-Ok-clause-why : goal.returns-in_err-pick_lines-in-Ok-clause-why
returns-in_err-pick_lines-in-Ok-clause-why g c =
    let was = c.loop-at.invariant in
    let made = c.read_next.ensures in
    err_told _ _ _ c.from_residual.ensures (λ all.
    unpicked c.in-Ok.texts.items c.loop-at.at.count _ _ _ _ _
    (λ holds. (
      holds.1.0.lines,
      page_read g.D.Disk all c.args.seal.now c.args.after c.args.limit _ _ was.0 holds.1.0 c.loop-at.at c.in-Ok.next c.in-Ok.texts.items
          (c.in-Ok.ensures.reads holds.0) (lines_of c.loop-at.found) (was.6 all (made.clean holds.0) holds.1.0 holds.1.1),
    ))
    (rw c.deref.ensures.value at c.in_err-pick_lines-in-Ok.ensures.why))

pub returns-in_err-pick_lines-in-Ok-clause-notes : goal.returns-in_err-pick_lines-in-Ok-clause-notes
returns-in_err-pick_lines-in-Ok-clause-notes g c =
    noted_so_far _ _ _ c.args.seal.now _ _ c.loop-at.invariant.7 c.read_next.ensures.clean

pub returns-in_err-note_place-in-Ok-clause-why : goal.returns-in_err-note_place-in-Ok-clause-why
returns-in_err-note_place-in-Ok-clause-why g c =
    err_told _ _ _ c.from_residual-in_err-note_place-in-Ok.ensures (λ all. unnoted _ _ _ _ _ c.in_err-note_place-in-Ok.ensures.why)

pub returns-in_err-note_place-in-Ok-clause-notes : goal.returns-in_err-note_place-in-Ok-clause-notes
returns-in_err-note_place-in-Ok-clause-notes g c =
    rw c.in_err-note_place-in-Ok.ensures.unnoted
    (noted_so_far _ _ _ c.args.seal.now _ _ c.loop-at.invariant.7 c.read_next.ensures.clean)

pub returns-then-next-seal-clause-keeps : goal.returns-then-next-seal-clause-keeps
returns-then-next-seal-clause-keeps g c number at entry has = c.read_next.ensures.keeps number at entry (c.loop-at.invariant.2 number at entry has)

pub returns-in_err-pick_lines-in-Ok-clause-keeps : goal.returns-in_err-pick_lines-in-Ok-clause-keeps
returns-in_err-pick_lines-in-Ok-clause-keeps g c number at entry has = c.read_next.ensures.keeps number at entry (c.loop-at.invariant.2 number at entry has)

pub returns-in_err-note_place-in-Ok-clause-keeps : goal.returns-in_err-note_place-in-Ok-clause-keeps
returns-in_err-note_place-in-Ok-clause-keeps g c number at entry has = c.read_next.ensures.keeps number at entry (c.loop-at.invariant.2 number at entry has)

pub returns-in-Err-clause-keeps : goal.returns-in-Err-clause-keeps
returns-in-Err-clause-keeps g c number at entry has = c.read_next.ensures.keeps number at entry (c.loop-at.invariant.2 number at entry has)
