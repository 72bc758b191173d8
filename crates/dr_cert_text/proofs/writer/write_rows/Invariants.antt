use Rattle.std.proofs.Common.{◌≡◌, ◌++◌, take}
use Rattle.std.specs.Prelude.{flat_map}
use Rattle.dr_cert_text.specs.CertificateText.{row}
use Rattle.dr_cert_text.proofs.writer.write_rows.Given as goal

abbrev pub invariant-loop-item : goal.invariant-loop-item
invariant-loop-item g l = l.out.items ≡ l.initial.out.items ++ flat_map (λ item. row g.P.Printed.word (g.P.Printed.printed item)) (take l.item-index l.items)
