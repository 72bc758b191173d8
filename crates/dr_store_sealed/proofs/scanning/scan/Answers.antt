use Rattle.std.proofs.Common.{rules, ◌++◌, [], refl, sym, ◌∙◌, subst, arith}
use Rattle.std.proofs.lemmas.List.Elements.{All-append, All-nil}
use Rattle.dr_store_sealed.specs.Files.{HasLines}
use Rattle.dr_store_sealed.specs.Lines.{IsOneLine}
use Rattle.dr_store_sealed.proofs.LawLemmas.{lines_more, no_lines}
use Rattle.dr_store_sealed.proofs.Onward.{onward_refused}
use Rattle.dr_store_sealed.proofs.scanning.scan.Goals as goal

pub loop-at-init : goal.loop-at-init
loop-at-init g c = (
  refl,
  λ clean. clean,
  λ left may. may,
  omega (arith, c.requires),
  λ clean. ([], (All-nil IsOneLine, no_lines _ c.args.start.now c.requires)),
  refl,
  search rules,
)

pub loop-at-preserved : goal.loop-at-preserved
loop-at-preserved g c =
    let made = c.read_lines.ensures in
    let was = c.loop-at.invariant in
    let next = c.in-Ok.next in
    let more = c.in-Ok.lines.items in (
      made.shows ∙ was.0,
      λ clean. was.1 (made.clean clean),
      λ left may. was.2 left (made.leaves left may),
      c.in-Ok.ensures.within,
      λ clean.
          let (lines, parts) = was.4 (made.clean clean) in (
            lines ++ more,
            (
              All-append IsOneLine lines more parts.0 c.in-Ok.ensures.lines,
              lines_more _ c.args.start.now c.loop-at.at next lines more
                  (subst (λ file. HasLines file c.args.start.now lines c.loop-at.at) (sym made.shows) parts.1)
                  (c.in-Ok.ensures.reads clean),
            ),
          ),
      c.in-Ok.ensures.faults ∙ was.5,
      c.in-Ok.ensures.usable,
    )

pub returns-in-Err-clause-why : goal.returns-in-Err-clause-why
returns-in-Err-clause-why g c =
    let was = c.loop-at.invariant in
    let made = c.read_lines.ensures in
    onward_refused g.D.Disk c.args.start.now c.loop-at.at c.in_ok-size.size _ c.args.file.now _ c.read_lines.new.file
    (was.0 ∙ c.len.ensures.seen) (was.5 ∙ (search rules)) was.6 made.clean was.4 was.3
    (λ clean. c.in_ok-size.ensures.len (was.1 (made.clean clean))) c.in-Err.fault c.in-Err.ensures.why
