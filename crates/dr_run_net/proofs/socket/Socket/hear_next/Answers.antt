use Rattle.std.proofs.Common.{sym, ◌∙◌}
use Rattle.dr_run_net.proofs.Heard.{heard_bytes, missed}
use Rattle.dr_run_net.specs.Hearing.{ear}
use Rattle.dr_run_net.proofs.socket.Socket.hear_next.Goals as goal

pub returns-in-Ok-clause-hears : goal.returns-in-Ok-clause-hears
returns-in-Ok-clause-hears g c =
    let read = c.in-Ok.ensures.same in
    let heard = c.hear.ensures.same in
    heard_bytes (g.C.Clock.tells c.args.self.now.clock.now) c.args.self.now.limits c.args.now c.in-Ok.count c.read.new.self.piece.items
    (ear (g.S.Read.remaining c.args.self.now.stream) c.args.self.now.marked c.args.self.now.rested c.args.self.now.window c.args.self.now.warned)
    (g.S.Read.remaining c.hear.new.self.stream) c.hear.new.self.marked c.hear.new.self.rested c.hear.new.self.window c.hear.new.self.warned c.hear.result
    c.requires.told c.requires.soon c.requires.swift c.in-Ok.ensures.within (rw heard.0 c.in-Ok.ensures.consumed.0) (heard.1 ∙ read.0) (heard.2 ∙ read.1) (heard.3 ∙ read.3) (rw (sym read.2) c.hear.ensures.window) c.hear.ensures.heard

pub returns-in-Err-clause-hears : goal.returns-in-Err-clause-hears
returns-in-Err-clause-hears g c =
    let read = c.in-Err.ensures.same in
    missed (λ clock. g.C.Clock.tells clock.now) c.args.self.now.clock c.read.new.self.clock c.args.self.now.limits c.read.new.self.limits
    (g.S.Read.remaining c.args.self.now.stream) (g.S.Read.remaining c.read.new.self.stream) c.args.self.now.marked c.read.new.self.marked c.args.self.now.rested c.read.new.self.rested
    c.args.self.now.window c.read.new.self.window c.args.self.now.warned c.read.new.self.warned c.miss.result
    (ear (g.S.Read.remaining c.miss.new.self.stream) c.miss.new.self.marked c.miss.new.self.rested c.miss.new.self.window c.miss.new.self.warned)
    read.6 read.4 read.0 read.1 read.2 read.3 c.in-Err.ensures.consumed c.miss.ensures.hears
