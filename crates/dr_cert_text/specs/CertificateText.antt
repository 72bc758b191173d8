-- The text of a certificate: rows ended by LF, whose fields are joined by one tab.
use Rattle.std.specs.Prelude.{◌∷◌, ◌++◌, [], codes, flat_map}
use Rattle.dr_plan_model.specs.declared.plan.Format.{Format}
use Rattle.dr_plan_model.specs.declared.plan.Format.TheVariants.{One, Two, Three}
use Rattle.hex.specs.Hex.{encode_lower}
use Rattle.dr_base.specs.Texts.{Text}
use Rattle.dr_plan_sound.specs.declared.certificate.Line.{Line}
use Rattle.dr_plan_sound.specs.declared.certificate.Hop.{Hop}
use Rattle.dr_plan_sound.specs.declared.certificate.Certificate.{Certificate}
use Rattle.dr_plan_sound.specs.Printed.{printed_line, printed_hop}

-- a row of the text: its word, a tab, its other fields, and the LF that ends it
abbrev pub row : Text → Text → Text
row word fields = word ++ (9 ∷ fields) ++ (10 ∷ [])

-- the row of a hop: `hop`, and then sender, receiver, id, class and transfer syntax
abbrev pub hop_row : Hop → Text
hop_row hop = row (codes "hop") (printed_hop hop)

-- the row of a line: `line`, and then caller, node, class, transfer syntax, modality, station and
-- rank
abbrev pub line_row : Line → Text
line_row line = row (codes "line") (printed_line line)

-- the number of a format, which is the version of the certificate
abbrev pub version : Format → Text
version One = codes "1"
version Two = codes "2"
version Three = codes "3"

-- the text up to the digest
abbrev pub front : Format → Text
front format = row (codes "certificate") (version format) ++ codes "plan" ++ (9 ∷ [])

-- the text of a certificate: its version, the SHA-256 of the plan's text in lower-case hex, the
-- hops, the lines, and nothing behind the end
abbrev pub certificate_text : Certificate → Text
certificate_text certificate =
    row (codes "certificate") (version certificate.format)
    ++ row (codes "plan") (encode_lower certificate.digest) ++ flat_map hop_row certificate.hops
    ++ flat_map line_row certificate.lines ++ codes "end" ++ (10 ∷ [])
