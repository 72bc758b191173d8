use Rattle.std.proofs.Common.{inl, inr}
use Rattle.dr_dataset.proofs.NestLemmas.{room_for_sequence, sequence_nests, room_for_item, item_nests, open_at_item_end, open_at_sequence_end}
use Rattle.dr_dataset.proofs.scanner.Scanner.step.Goals as goal

pub push-requires : goal.push-requires
push-requires c = room_for_sequence c.args.self.now.syntax _ c.args.text.now _ _ _ _ c.args.self.now.nested c.in_ok-token.ensures c.in-Sequence.is

pub invariant_of-self : goal.invariant_of-self
invariant_of-self c =
    record { nested = rw c.push.ensures (sequence_nests c.args.self.now.syntax _ c.args.text.now _ _ _ _ c.args.self.now.nested c.in_ok-token.ensures c.in-Sequence.is) }

pub push-requires-in-Item : goal.push-requires-in-Item
push-requires-in-Item c = room_for_item c.args.self.now.syntax _ c.args.text.now _ _ c.args.self.now.nested c.in_ok-token.ensures c.in-Item.is

pub invariant_of-self-in-Item : goal.invariant_of-self-in-Item
invariant_of-self-in-Item c =
    record { nested = rw c.push-in-Item.ensures (item_nests c.args.self.now.syntax _ c.args.text.now _ _ c.syntax_in_force-inside.result c.args.self.now.nested c.in_ok-token.ensures c.in-Item.is) }

pub pop-requires : goal.pop-requires
pop-requires c =
    elim c.in-ItemEnd.is [
      | inl e ↦ open_at_item_end c.args.self.now.syntax _ c.args.text.now _ _ c.in_ok-token.ensures e
      | inr e ↦ open_at_sequence_end c.args.self.now.syntax _ c.args.text.now _ _ e.0 c.in_ok-token.ensures e.1
    ]
