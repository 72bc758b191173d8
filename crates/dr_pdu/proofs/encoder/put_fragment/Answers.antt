use Rattle.std.proofs.Common.{ap, ◌+◌, ◌∙◌, ◌++◌, List, ℕ, length, refl}
use Rattle.dr_pdu.proofs.Values.{framed_on}
use Rattle.dr_pdu.proofs.encoder.put_fragment.Goals as goal

pub returns-else-is_err-clause-ok : goal.returns-else-is_err-clause-ok
returns-else-is_err-clause-ok c =
    framed_on c.put_value-done.result c.args.out.now.items (record { id = c.args.id; header = c.args.header; fragment = c.args.fragment.now }) (length c.args.fragment.now + 6) c.extend_from_slice.new.self.items c.put_value-done.new.out.items
    refl (c.in_ok-extend_from_slice.ensures.items ∙ ap (λ (h : List ℕ). c.args.out.now.items ++ h) c.header_of.ensures) c.put_value-done.ensures.ok
