use Rattle.std.proofs.Common.{rules, ◌≡◌, ◌≤◌, ◌++◌, [], refl, sym, ◌∙◌, ap, subst, arith}
use Rattle.std.proofs.lemmas.List.Elements.{All-append, All-nil}
use Rattle.dr_store_sealed.specs.declared.seal.Seal.{Seal}
use Rattle.dr_store_sealed.specs.Files.{HasLines}
use Rattle.dr_store_sealed.specs.Lines.{IsOneLine}
use Rattle.dr_store_sealed.proofs.LawLemmas.{lines_more, no_lines}
use Rattle.dr_store_sealed.proofs.Onward.{onward_refused, other_end, whole_refused}
use Rattle.dr_store_sealed.proofs.file.LineFile.examine.Goals as goal

pub loop-at-init : goal.loop-at-init
loop-at-init g c = (
  refl,
  refl,
  λ clean. clean,
  λ first before held. held,
  λ clean. ([], (All-nil IsOneLine, no_lines _ c.args.start.now c.requires)),
  omega (arith, c.requires),
  refl,
  search rules,
)

pub loop-at-preserved : goal.loop-at-preserved
loop-at-preserved g c =
    let made = c.read_from.ensures in
    let was = c.loop-at.invariant in
    let next = c.in-Ok.next in
    let more = c.in-Ok.lines.items in (
      made.unsealed ∙ was.0,
      made.shows ∙ was.1,
      λ clean. was.2 (made.clean clean),
      λ first before held. made.keeps first before (was.3 first before held),
      λ clean.
          let (lines, parts) = was.4 (made.clean clean) in (
            lines ++ more,
            (
              All-append IsOneLine lines more parts.0 c.in-Ok.ensures.lines,
              lines_more _ c.args.start.now c.loop-at.at next lines more
                  (subst (λ file. HasLines file c.args.start.now lines c.loop-at.at) (sym made.shows) parts.1)
                  (c.in-Ok.ensures.reads clean),
            ),
          ),
      subst (λ (a : Seal). next.offset ≤ a.offset) (sym made.unsealed) c.in-Ok.ensures.within,
      c.in-Ok.ensures.faults ∙ was.6,
      c.in-Ok.ensures.usable,
    )

pub returns-in-Err-clause-why : goal.returns-in-Err-clause-why
returns-in-Err-clause-why g c =
    let was = c.loop-at.invariant in
    let made = c.read_from.ensures in
    let seal = c.args.self.now.seal in
    let same : c.loop-at.self.seal.offset ≡ seal.offset = ap (λ (a : Seal). a.offset) was.0 in
    whole_refused g.D.Disk c.args.start.now seal _ _ c.in-Err.fault
    (onward_refused g.D.Disk c.args.start.now c.loop-at.at c.loop-at.self.seal.offset seal.offset _ _ _
    was.1 was.6 was.7 made.clean was.4 was.5 (λ clean. same) c.in-Err.fault c.in-Err.ensures.why)

pub returns-then-not-are_one-clause-why : goal.returns-then-not-are_one-clause-why
returns-then-not-are_one-clause-why g c =
    let was = c.loop-at.invariant in
    let seal = c.args.self.now.seal in
    let place : seal.offset ≡ c.loop-at.at.offset =
    (let e : c.loop-at.self.seal.offset ≡ seal.offset = ap (λ (a : Seal). a.offset) was.0 in omega (arith, e, was.5, c.loop-at-test.false)) in
    other_end g.D.Disk c.args.start.now c.loop-at.at seal _ _ was.1 was.4 place (λ same. search rules)
