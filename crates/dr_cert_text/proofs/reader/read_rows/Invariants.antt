use Rattle.std.proofs.Common.{◌≡◌, ◌++◌, length}
use Rattle.std.specs.Prelude.{All, flat_map}
use Rattle.dr_cert_text.specs.CertificateText.{row}
use Rattle.dr_cert_text.proofs.reader.read_rows.Given as goal

-- the text is the rows so far and what is left of it
abbrev pub invariant-loop-behind : goal.invariant-loop-behind
invariant-loop-behind g l =
    (l.text ≡ flat_map (λ item. row g.P.Printed.word (g.P.Printed.printed item)) l.items.items ++ l.rest) × All g.P.Printed.printable l.items.items

abbrev pub decreases-loop-behind : goal.decreases-loop-behind
decreases-loop-behind g l = length l.rest
