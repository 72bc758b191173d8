use Rattle.dr_dataset.proofs.HearLemmas.{begins_at_once, same_scanner}
use Rattle.dr_dataset.proofs.hearing.Scan.take_first.Goals as goal

pub returns-in_default : goal.returns-in_default
returns-in_default c =
    let t = c.take_one.ensures in
    let e = c.in_default.ensures.err in
    (t.0, t.1, t.2, λ is s text h. t.3 is s text (same_scanner c.args.self.now c.step.new.self c.step.ensures.syntax e.1 is s text h))

pub returns : goal.returns
returns c =
    let o = c.in-Ok.ensures.ok in
    begins_at_once c.args.self.now c.step.new.self c.args.piece.now c.in-Ok.token c.in-Ok.rest.now c.begin.new.self c.requires.fresh c.step.ensures.syntax o.0 o.1 c.args.self.now.scanner.nested c.begin.ensures
