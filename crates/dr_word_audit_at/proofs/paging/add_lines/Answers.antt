use Rattle.std.proofs.Common.{◌≡◌, subst, sym, get_or, length, Contains}
use Rattle.std.proofs.lemmas.Iterator.Consumers.{YieldsList-turn}
use Rattle.std.proofs.lemmas.Iterator.Splits.{YieldsList-from_lines}
use Rattle.std.proofs.lemmas.List.Elements.{Contains-get_or}
use Rattle.std.specs.Str.Lines.{lines as text_lines}
use Rattle.dr_base.specs.Texts.{Text}
use Rattle.dr_word_audit_at.specs.Pages.{HasLineOf}
use Rattle.dr_word_audit_at.proofs.Numbering.{grow_if, grow_none}
use Rattle.dr_word_audit_at.proofs.paging.add_lines.Goals as goal

pub loop-line-init : goal.loop-line-init
loop-line-init c = (grow_none (HasLineOf c.args.text.now) c.args.lines.now, c.requires)

pub loop-line-preserved : goal.loop-line-preserved
loop-line-preserved c =
    let text = c.args.text.now in
    let t = YieldsList-turn (YieldsList-from_lines text cc) c.loop-line.yielded _ c.loop-line.yielded_by _ _ c.in-Some.line c.in-Some.is c.next.ensures.steps in
    let there : Contains (text_lines text) c.in-Some.line.now = subst (Contains (text_lines text)) (sym t.1) (Contains-get_or (text_lines text) (length c.loop-line.yielded) c.in-Some.line.now t.0) in
    (grow_if text c.in-Some.line.now c.args.lines.now c.loop-line.lines c.add_if.new.lines there c.loop-line.invariant.0 c.in_ok-add_if.ensures.adds, c.in_ok-add_if.ensures.most)
