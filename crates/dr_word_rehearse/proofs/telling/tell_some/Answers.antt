use Rattle.std.specs.Prelude.{flat_map}
use Rattle.dr_word_rehearse.specs.Endings.{lines_of}
use Rattle.dr_word_rehearse.proofs.Printed.{ends_some, wrote}
use Rattle.dr_word_rehearse.proofs.telling.tell_some.Goals as goal

pub returns-in-Ok : goal.returns-in-Ok
returns-in-Ok g c =
    ends_some c.args.all.now c.args.stop.halt (g.W.Write.contents c.args.output.now) (g.W.Write.contents c.write_text.new.output) (g.W.Write.contents c.tell_stop.new.output) c.tell_stop.result
    (wrote (g.W.Write.contents c.args.output.now) (g.W.Write.contents c.write_text.new.output) (flat_map lines_of c.args.all.now) c.lines_text.result c.lines_text.ensures c.in-Ok.ensures)
    c.tell_stop.ensures
