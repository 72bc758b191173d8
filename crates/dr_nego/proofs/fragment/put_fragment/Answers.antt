use Rattle.std.proofs.Common.{◌+◌, ◌++◌, ℕ, List, length, refl, ap, ◌∙◌}
use Rattle.dr_pdu.specs.declared.pdu.Pdv.{Pdv}
use Rattle.dr_pdu.specs.Items.{pdv_text}
use Rattle.dr_nego.specs.Fragments.{header_of, is_command}
use Rattle.dr_nego.proofs.Cutting.{value_written}
use Rattle.dr_nego.proofs.fragment.put_fragment.Goals as goal

pub returns-clause-ok : goal.returns-clause-ok
returns-clause-ok c =
    let value : ℕ → Pdv = λ h. record { id = c.args.id; header = h; fragment = c.args.fragment.now } in
    c.in_ok-put_value.ensures.ok
    ∙ (ap (λ (h : ℕ). c.put_header.new.out.items ++ pdv_text (value h)) c.header_of.ensures
    ∙ (ap (λ (l : List ℕ). l ++ pdv_text (value (header_of (is_command c.args.kind) c.args.is_last))) c.in_ok-put_header.ensures.ok
    ∙ value_written c.args.out.now.items (value (header_of (is_command c.args.kind) c.args.is_last)) (length c.args.fragment.now + 6) refl))
