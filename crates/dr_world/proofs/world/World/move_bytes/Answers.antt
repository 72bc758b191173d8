use Rattle.dr_world.specs.Ends.{named}
use Rattle.dr_world.proofs.Arriving.{bytes_move, end_moves, nothing_moves}
use Rattle.dr_world.proofs.world.World.move_bytes.Goals as goal

pub returns-in-Nothing : goal.returns-in-Nothing
returns-in-Nothing g c = nothing_moves c.args.self.now c.args.link c.args.most (named c.args.reader) c.due.result c.due.ensures c.in-Nothing.is

pub returns-in_ok-_note-in-End : goal.returns-in_ok-_note-in-End
returns-in_ok-_note-in-End g c =
    end_moves c.args.self.now c.meet.new.self c.args.link c.args.most (named c.args.reader) c.due.result c.in_ok-_note-in-End._note c.ended.result c.due.ensures c.in-End.is c.ended.ensures c.in_ok-_note-in-End.ensures

pub returns-in_ok-note-in-Bytes : goal.returns-in_ok-note-in-Bytes
returns-in_ok-note-in-Bytes g c =
    bytes_move c.args.self.now c.hear.new.self c.args.link c.args.most (named c.args.reader) c.in-Bytes.count c.due.result c.in_ok-note-in-Bytes.note c.due.ensures c.in-Bytes.is c.in_ok-note-in-Bytes.ensures
