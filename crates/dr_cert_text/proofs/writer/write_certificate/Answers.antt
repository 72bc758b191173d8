use Rattle.std.proofs.Common.{ℕ, List, ◌++◌, ◌∙◌, ap, codes, flat_map, sym}
use Rattle.hex.specs.Hex.{encode_lower}
use Rattle.dr_cert_text.specs.CertificateText.{row, version, hop_row, line_row}
use Rattle.dr_cert_text.proofs.Rows.{ended}
use Rattle.dr_cert_text.proofs.Whole.{first_rows, last_row}
use Rattle.dr_cert_text.proofs.writer.write_certificate.Goals as goal

pub returns : goal.returns
returns c =
    let certificate = c.args.certificate.now in
    rw (
      c.from_vec.ensures,
      c.in_ok-extend_from_slice-2.ensures.items,
      c.in_ok-write_rows-2.ensures,
      c.in_ok-write_rows.ensures,
      c.in_ok-push.ensures.items,
      c.in_ok-extend_from_slice.ensures.items,
      c.in_ok-out.ensures.items,
      c.front_of.ensures,
      c.as_bytes.ensures.value,
      c.in_ok-digest.ensures,
      c.as_slice.ensures,
      c.as_slice-2.ensures,
      c.as_slice-3.ensures,
    )
    (ap (λ (t : List ℕ). t ++ flat_map hop_row certificate.hops ++ flat_map line_row certificate.lines ++ last_row) (first_rows certificate.format (encode_lower certificate.digest)) ∙ sym (ended (row (codes "certificate") (version certificate.format) ++ row (codes "plan") (encode_lower certificate.digest) ++ flat_map hop_row certificate.hops ++ flat_map line_row certificate.lines)))
