use Rattle.std.proofs.Common.{subst}
use Rattle.std.specs.Prelude.{Bool}
use Rattle.dr_word_at.proofs.caller.exchange.Goals as goal

pub returns-then-send : goal.returns-then-send
returns-then-send g c =
    (c.send.new.self, subst (λ (b : Bool). g.L.Link.sends c.args.link.now c.args.bytes.now b c.send.new.self) c.if-send.true c.send.ensures.sends)
