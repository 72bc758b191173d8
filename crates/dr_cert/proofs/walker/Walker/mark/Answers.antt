use Rattle.std.proofs.Common.{◌≡◌, refl, sym, ◌∙◌, get_or, true, false}
use Rattle.std.proofs.lemmas.List.{get_or_default}
use Rattle.dr_cert.proofs.Marks.{marked_before, marked_now, in_lines}
use Rattle.std.proofs.Common.{arith}
use Rattle.dr_cert.proofs.walker.Walker.mark.Goals as goal

pub returns-in_ok-push : goal.returns-in_ok-push
returns-in_ok-push c =
    let n = c.requires.walking.long in
    let h = in_lines c.args.self.now.lines.now c.args.stop.now c.in-Some.place c.in-Some.ensures in
    let mark : get_or c.args.self.now.marks.items c.in-Some.place false ≡ false =
    get_or_default c.args.self.now.marks.items c.in-Some.place false c.index.result.now (omega (arith, n, h)) ∙ (sym c.index.ensures ∙ c.if-not-index.true) in
    marked_now c.args.self.now _ c.args.stop.now c.in-Some.place c.requires.walking c.requires.come_to c.in-Some.ensures mark refl refl refl refl c.in_ok-push.ensures.items

pub returns-else-not-index : goal.returns-else-not-index
returns-else-not-index c =
    let n = c.requires.walking.long in
    let h = in_lines c.args.self.now.lines.now c.args.stop.now c.in-Some.place c.in-Some.ensures in
    let mark : get_or c.args.self.now.marks.items c.in-Some.place true ≡ true =
    get_or_default c.args.self.now.marks.items c.in-Some.place true c.index.result.now (omega (arith, n, h)) ∙ (sym c.index.ensures ∙ c.if-not-index.false) in
    marked_before c.args.self.now c.args.stop.now c.in-Some.place c.requires.walking c.in-Some.ensures mark
