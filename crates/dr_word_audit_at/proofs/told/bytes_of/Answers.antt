use Rattle.std.proofs.Common.{◌≡◌, ◌∙◌, sym, ap}
use Rattle.std.proofs.lemmas.Iterator.{YieldsList-from_chars}
use Rattle.std.proofs.lemmas.Iterator.Consumers.{YieldsList-end}
use Rattle.dr_word_audit_at.proofs.Spelled.{as_it_is}
use Rattle.dr_word_audit_at.proofs.told.bytes_of.Goals as goal

pub returns : goal.returns
returns c =
    let t = YieldsList-end (YieldsList-from_chars c.args.text.now c.utf8.text cc) c.loop-character.yielded _ c.loop-character.yielded_by _ _ c.in-None.is c.next.ensures.steps in
    c.from_vec.ensures ∙ c.loop-character.invariant ∙ sym (as_it_is c.loop-character.yielded) ∙ t.0
