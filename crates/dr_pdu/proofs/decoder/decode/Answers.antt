use Rattle.std.proofs.Common.{arith, true, false, sym, ◌∙◌, inr, get_or, ◌≡◌}
use Rattle.std.proofs.lemmas.Result.{err_from_is_err_and}
use Rattle.std.proofs.lemmas.List.{length-take-le}
use Rattle.dr_pdu.proofs.DecodeLemmas.{begins, header_shows, whole, body_refused, spelled}
use Rattle.dr_pdu.proofs.decoder.decode.Goals as goal

pub returns-in-Some : goal.returns-in-Some
returns-in-Some c =
    let b = begins c.args.text.now c.from_be_bytes-len.result c.in-len6-up.len_at_least (λ i. omega (arith, c.type_inv.text i)) (omega (arith, c.from_be_bytes-len.ensures)) in
    header_shows c.args.limit c.args.text.now _ _ _ b c.in-Some.fault (sym c.in-Some.ensures)

pub returns-then-rest-len : goal.returns-then-rest-len
returns-then-rest-len c =
    let b = begins c.args.text.now c.from_be_bytes-len.result c.in-len6-up.len_at_least (λ i. omega (arith, c.type_inv.text i)) (omega (arith, c.from_be_bytes-len.ensures)) in
    inr (_, _, _, b, sym c.in_default-fault_of_header.ensures, c.if-rest-len.true)

pub returns-in_err-pdu : goal.returns-in_err-pdu
returns-in_err-pdu c =
    let p = err_from_is_err_and c.from_residual.result c.from_residual.ensures.1 in
    let b = begins c.args.text.now c.from_be_bytes-len.result c.in-len6-up.len_at_least (λ i. omega (arith, c.type_inv.text i)) (omega (arith, c.from_be_bytes-len.ensures)) in
    rw (p.1, p.2) (body_refused c.args.limit c.args.text.now (get_or c.args.text.now 0 0) _ _ (whole c.args.limit c.args.text.now _ _ _ b (sym c.in_default-fault_of_header.ensures) c.if-rest-len.false) c.in_err-pdu.field-0.0 (rw c.split_at.ensures.front at c.in_err-pdu.ensures))

pub returns-then-not-has_context_ids : goal.returns-then-not-has_context_ids
returns-then-not-has_context_ids c =
    let b = begins c.args.text.now c.from_be_bytes-len.result c.in-len6-up.len_at_least (λ i. omega (arith, c.type_inv.text i)) (omega (arith, c.from_be_bytes-len.ensures)) in
    (_, _, _, c.in_ok-pdu.pdu, whole c.args.limit c.args.text.now _ _ _ b (sym c.in_default-fault_of_header.ensures) c.if-rest-len.false, rw c.split_at.ensures.front at c.in_ok-pdu.ensures, λ h. let e : c.has_context_ids.result ≡ true = c.has_context_ids.ensures.1 h in let f : false ≡ true = sym c.if-not-has_context_ids.true ∙ e in cc)

pub returns : goal.returns
returns c =
    let b = begins c.args.text.now c.from_be_bytes-len.result c.in-len6-up.len_at_least (λ i. omega (arith, c.type_inv.text i)) (omega (arith, c.from_be_bytes-len.ensures)) in
    let w = whole c.args.limit c.args.text.now _ _ _ b (sym c.in_default-fault_of_header.ensures) c.if-rest-len.false in
    let s = spelled c.args.limit c.args.text.now _ _ _ c.in_ok-pdu.pdu w (rw c.split_at.ensures.front at c.in_ok-pdu.ensures) (c.has_context_ids.ensures.0 c.if-not-has_context_ids.false) in
    (s.0, s.1, s.2, s.3 ∙ omega (arith, length-take-le c.from_be_bytes-len.result _ c.if-rest-len.false), s.4)
