use Rattle.std.proofs.Common.{◌≡◌, ℕ, sym, subst, List, length, ◌≤◌, arith}
use Rattle.dr_plan_model.proofs.WalksAlike.{all_from_each}
use Rattle.dr_plan_sound.specs.declared.certificate.Line.{Line}
use Rattle.dr_plan_sound.specs.HopPairs.{AreNumbered, IsFirstTooMany}
use Rattle.dr_plan_sound.proofs.RankedLines.{lines_are_the_lines}
use Rattle.dr_plan_sound.proofs.Hopping.{sound_by_lines}
use Rattle.dr_cert_text.specs.Printable.{IsPrintableLine, IsPrintableHop, IsDigest}
use Rattle.dr_check.proofs.Entered.{no_entry_shows}
use Rattle.dr_check.proofs.Overfull.{first_overfull}
use Rattle.dr_check.proofs.Ready.{line_is_printable, hop_is_printable, hops_are_the_hops}
use Rattle.dr_check.proofs.verdict.judged.Goals as goal

pub order_hops-requires-clause-printable : goal.order_hops-requires-clause-printable
order_hops-requires-clause-printable c =
    let P : List Line → Type 0 = λ ls. AreNumbered ls c.in-Hops.hops.items in
    let numbered : AreNumbered c.args.lines.items c.in-Hops.hops.items = subst P c.as_slice.ensures.value (rw c.in-Hops.is at c.in_ok-from.ensures) in
    all_from_each IsPrintableHop c.in-Hops.hops.items (hop_is_printable c.args.plan.now c.requires.formed c.args.lines.items c.requires.ranked c.requires.few c.in-Hops.hops.items numbered)

pub order_lines-requires-clause-printable : goal.order_lines-requires-clause-printable
order_lines-requires-clause-printable c =
    all_from_each IsPrintableLine c.args.lines.items (line_is_printable c.args.plan.now c.requires.formed c.args.lines.items c.requires.ranked c.requires.few)

pub returns-in-TooMany : goal.returns-in-TooMany
returns-in-TooMany c =
    let P : List Line → Type 0 = λ ls. IsFirstTooMany ls c.in-TooMany.from c.in-TooMany.to in
    let many : IsFirstTooMany c.args.lines.items c.in-TooMany.from c.in-TooMany.to = subst P c.as_slice.ensures.value (rw c.in-TooMany.is at c.in_ok-from.ensures) in (
      first_overfull c.args.plan.now c.requires.formed c.args.lines.items c.requires.ranked c.in-TooMany.from c.in-TooMany.to many,
      tt,
      no_entry_shows c.args.plan.now c.requires.formed c.args.lines.items c.requires.ranked,
    )

pub returns-in_ok-order_lines-in-Hops : goal.returns-in_ok-order_lines-in-Hops
returns-in_ok-order_lines-in-Hops c =
    let P : List Line → Type 0 = λ ls. AreNumbered ls c.in-Hops.hops.items in
    let numbered : AreNumbered c.args.lines.items c.in-Hops.hops.items = subst P c.as_slice.ensures.value (rw c.in-Hops.is at c.in_ok-from.ensures) in
    let lines = c.in_ok-order_lines-in-Hops.ensures in
    let hops = c.in_ok-order_hops-in-Hops.ensures in
    let are = lines_are_the_lines c.args.plan.now c.requires.formed c.args.lines.items c.requires.ranked in
    let number = hops_are_the_hops c.args.plan.now c.requires.formed c.args.lines.items c.requires.ranked in
    let long : length c.in_ok-order_lines-in-Hops.field-0 ≡ length c.args.lines.items = lines.long in
    let all_few : length c.args.lines.items ≤ 65536 = c.requires.few.0 in
    let few : length c.in_ok-order_lines-in-Hops.field-0 ≤ 65536 = omega (arith, long, all_few) in
    let D : List ℕ → Type 0 = λ digest. IsDigest digest in (
      sound_by_lines c.args.plan.now c.requires.formed c.args.lines.items c.requires.ranked numbered.few,
      record {
        format = c.format.ensures;
        digest = c.digest.ensures;
        lines = λ line. ((λ h. (are line).0 ((lines.same line).0 h)), (λ h. (lines.same line).1 ((are line).1 h)));
        hops = λ hop. ((λ h. (number hop).0 ((numbered.each hop).0 ((hops.same hop).0 h))), (λ h. (hops.same hop).1 ((numbered.each hop).1 ((number hop).1 h))));
        lines_ordered = lines.ordered;
        hops_ordered = hops.ordered;
      },
      few,
      λ digest. record {
        digest = subst D (sym c.digest.ensures) digest;
        hops = all_from_each IsPrintableHop c.in_ok-order_hops-in-Hops.field-0
            (λ hop among. hop_is_printable c.args.plan.now c.requires.formed c.args.lines.items c.requires.ranked c.requires.few c.in-Hops.hops.items numbered
            hop ((hops.same hop).0 among));
        lines = all_from_each IsPrintableLine c.in_ok-order_lines-in-Hops.field-0
            (λ line among. line_is_printable c.args.plan.now c.requires.formed c.args.lines.items c.requires.ranked c.requires.few line ((lines.same line).0 among));
        few = few;
      },
    )
