-- A whole text of a certificate.
use Rattle.std.proofs.Common.{◌≡◌, ◌≢◌, ℕ, ◌<◌, ◌≤◌, List, [], ◌∷◌, ◌++◌, length, get_or, codes, append_assoc, refl, sym, ap, ◌∙◌, arith, Err, ◌⊎◌, inl, inr, Ok, Result}
use Rattle.std.specs.Prelude.{flat_map}
use Rattle.std.proofs.lemmas.List.{append_cancel_left}
use Rattle.std.proofs.lemmas.List.Elements.{All-head}
use Rattle.hex.specs.Hex.{encode_lower, decode_sized}
use Rattle.dr_plan_model.specs.declared.plan.Format.{Format}
use Rattle.dr_plan_model.specs.declared.plan.Format.TheVariants.{One, Two, Three}
use Rattle.dr_plan_sound.specs.declared.certificate.Line.{Line}
use Rattle.dr_plan_sound.specs.declared.certificate.Hop.{Hop}
use Rattle.dr_plan_sound.specs.declared.certificate.Certificate.{Certificate}
use Rattle.dr_plan_sound.specs.Printed.{printed_line, printed_hop}
use Rattle.dr_cert_text.specs.CertificateText.{row, hop_row, line_row, front, version, certificate_text}
use Rattle.dr_cert_text.specs.Cuts.{Lacks, SplitsAt}
use Rattle.dr_cert_text.specs.Printable.{IsDigest, IsPrintableLine, IsPrintableHop, IsPrintable}
use Rattle.dr_cert_text.specs.Reading.{HasNone, IsReadBack, Reads, BeginsWithField, AreRowsOf, ReadsRows}
use Rattle.dr_cert_text.specs.declared.fault.CertificateFault.{CertificateFault}
use Rattle.dr_cert_text.specs.declared.fault.CertificateFault.TheVariants.{Text, Memory}
use Rattle.dr_cert_text.proofs.Injective.{same_line, same_hop, line_plain, hop_plain}
use Rattle.dr_cert_text.proofs.Numerals.{hex_plain, same_digest, decoded}
use Rattle.dr_cert_text.proofs.Splits.{unsplit, All-back}
use Rattle.dr_cert_text.proofs.Rows.{rows_same}

six_flat : (a b c d e f : List ℕ) → a ++ b ++ c ++ d ++ e ++ f ≡ a ++ (b ++ (c ++ (d ++ (e ++ f))))
six_flat a b c d e f = simp append_assoc

-- the last row
abbrev pub last_row : List ℕ
last_row = 101 ∷ 110 ∷ 100 ∷ 10 ∷ []

-- what follows the hops, and what follows the digest's row
abbrev pub behind_hops : Certificate → List ℕ
behind_hops certificate = flat_map line_row certificate.lines ++ last_row

abbrev pub behind_digest : Certificate → List ℕ
behind_digest certificate = flat_map hop_row certificate.hops ++ behind_hops certificate

pub text_is : (certificate : Certificate) → certificate_text certificate ≡ front certificate.format ++ (encode_lower certificate.digest ++ 10 ∷ behind_digest certificate)
text_is certificate = by_format certificate.format where
  flat : encode_lower certificate.digest ++ (10 ∷ []) ++ flat_map hop_row certificate.hops ++ flat_map line_row certificate.lines ++ codes "end" ++ (10 ∷ []) ≡ encode_lower certificate.digest ++ 10 ∷ behind_digest certificate
  flat = six_flat (encode_lower certificate.digest) (10 ∷ []) (flat_map hop_row certificate.hops) (flat_map line_row certificate.lines) (codes "end") (10 ∷ [])

  by_format : (f : Format) → certificate_text (record certificate { format = f }) ≡ front f ++ (encode_lower certificate.digest ++ 10 ∷ behind_digest certificate)
  by_format One = ap (λ (t : List ℕ). front One ++ t) flat
  by_format Two = ap (λ (t : List ℕ). front Two ++ t) flat
  by_format Three = ap (λ (t : List ℕ). front Three ++ t) flat

-- texts that begin alike are of one format, and what follows is the same
front_same : (f g : Format) (a b : List ℕ) → front f ++ a ≡ front g ++ b → (f ≡ g) × (a ≡ b)
front_same One One a b e = (refl, append_cancel_left (front One) a b e)
front_same One Two a b e = let d : ◌≡◌ {A = ℕ} 49 50 = ap (λ (t : List ℕ). get_or t 12 0) e in absurd (omega arith)
front_same One Three a b e = let d : ◌≡◌ {A = ℕ} 49 51 = ap (λ (t : List ℕ). get_or t 12 0) e in absurd (omega arith)
front_same Two One a b e = let d : ◌≡◌ {A = ℕ} 50 49 = ap (λ (t : List ℕ). get_or t 12 0) e in absurd (omega arith)
front_same Two Two a b e = (refl, append_cancel_left (front Two) a b e)
front_same Two Three a b e = let d : ◌≡◌ {A = ℕ} 50 51 = ap (λ (t : List ℕ). get_or t 12 0) e in absurd (omega arith)
front_same Three One a b e = let d : ◌≡◌ {A = ℕ} 51 49 = ap (λ (t : List ℕ). get_or t 12 0) e in absurd (omega arith)
front_same Three Two a b e = let d : ◌≡◌ {A = ℕ} 51 50 = ap (λ (t : List ℕ). get_or t 12 0) e in absurd (omega arith)
front_same Three Three a b e = (refl, append_cancel_left (front Three) a b e)

-- the text doesn't begin with the words of this version
abbrev pub Lacks_front : List ℕ → Format → Type 0
Lacks_front text format = (rest : List ℕ) → text ≡ front format ++ rest → ⊥

-- a text that begins with no version's words of the three begins with those of no version
pub begins_none : (text : List ℕ) → Lacks_front text One → Lacks_front text Two → Lacks_front text Three → (format : Format) (rest : List ℕ) → text ≡ front format ++ rest → ⊥
begins_none text one two three One rest e = one rest e
begins_none text one two three Two rest e = two rest e
begins_none text one two three Three rest e = three rest e

-- the first two rows
pub first_rows : (format : Format) (digits : List ℕ) → front format ++ digits ++ (10 ∷ []) ≡ row (codes "certificate") (version format) ++ row (codes "plan") digits
first_rows One digits = refl
first_rows Two digits = refl
first_rows Three digits = refl

-- no hop stands behind the hops, and no line behind the lines
pub hops_end : (lines : List Line) → BeginsWithField (codes "hop") (flat_map line_row lines ++ last_row) → ⊥
hops_end [] h = let e : ◌≡◌ {A = ℕ} 101 104 = ap (λ (t : List ℕ). get_or t 0 0) h.1 in absurd (omega arith)
hops_end (line ∷ lines) h = let e : ◌≡◌ {A = ℕ} 108 104 = ap (λ (t : List ℕ). get_or t 0 0) h.1 in absurd (omega arith)

pub lines_end : BeginsWithField (codes "line") last_row → ⊥
lines_end h = let e : ◌≡◌ {A = ℕ} 101 108 = ap (λ (t : List ℕ). get_or t 0 0) h.1 in absurd (omega arith)

-- a certificate's parts in its text
pub record Parts (certificate : Certificate) (digits rows : List ℕ) : Type 0 where
  pub digest : encode_lower certificate.digest ≡ digits
  pub rest : behind_digest certificate ≡ rows

pub parts : (format : Format) (text behind digits rows : List ℕ) → text ≡ front format ++ behind → SplitsAt 10 behind digits rows → (certificate : Certificate) → IsPrintable certificate → certificate_text certificate ≡ text → Parts certificate digits rows
parts format text behind digits rows starts split certificate p e =
    let body : encode_lower certificate.digest ++ 10 ∷ behind_digest certificate ≡ behind = (front_same certificate.format format _ _ (sym (text_is certificate) ∙ e ∙ starts)).1 in
    let two = unsplit 10 (encode_lower certificate.digest) digits (behind_digest certificate) rows (hex_plain certificate.digest p.digest) split.1 (body ∙ split.0) in
    record { digest = two.0; rest = two.1 }

-- the hops of a certificate are rows at the front of what follows its digest
pub hops_are_rows : (certificate : Certificate) (digits rows : List ℕ) → IsPrintable certificate → Parts certificate digits rows →
    AreRowsOf (codes "hop") printed_hop IsPrintableHop rows certificate.hops (behind_hops certificate)
hops_are_rows certificate digits rows p parts = (sym parts.rest, p.hops, hops_end certificate.lines)

-- rows that are read are those of the certificate
pub hops_read : (certificate : Certificate) (digits rows after : List ℕ) (hops : List Hop) → IsPrintable certificate → Parts certificate digits rows →
    AreRowsOf (codes "hop") printed_hop IsPrintableHop rows hops after → (hops ≡ certificate.hops) × (after ≡ behind_hops certificate)
hops_read certificate digits rows after hops p parts h =
    rows_same (codes "hop") printed_hop IsPrintableHop hop_plain same_hop hops certificate.hops after (behind_hops certificate) h.1 p.hops h.2 (hops_end certificate.lines) (sym h.0 ∙ sym parts.rest)

pub lines_are_rows : (certificate : Certificate) (after : List ℕ) → IsPrintable certificate → after ≡ behind_hops certificate → AreRowsOf (codes "line") printed_line IsPrintableLine after certificate.lines last_row
lines_are_rows certificate after p is = (is, p.lines, lines_end)

pub lines_read : (certificate : Certificate) (after rest : List ℕ) (lines : List Line) → IsPrintable certificate → after ≡ behind_hops certificate →
    AreRowsOf (codes "line") printed_line IsPrintableLine after lines rest → (lines ≡ certificate.lines) × (rest ≡ last_row)
lines_read certificate after rest lines p is h =
    rows_same (codes "line") printed_line IsPrintableLine line_plain same_line lines certificate.lines rest last_row h.1 p.lines h.2 lines_end (sym h.0 ∙ is)

pub no_lf_here : (format : Format) (text behind : List ℕ) → text ≡ front format ++ behind → Lacks 10 behind → HasNone certificate_text IsPrintable text
no_lf_here format text behind starts lacks certificate p e =
    let body : encode_lower certificate.digest ++ 10 ∷ behind_digest certificate ≡ behind = (front_same certificate.format format _ _ (sym (text_is certificate) ∙ e ∙ starts)).1 in
    let l : Lacks 10 (encode_lower certificate.digest ++ 10 ∷ behind_digest certificate) = rw body lacks in
    All-head (λ b. b ≢ 10) 10 (behind_digest certificate) (All-back (λ b. b ≢ 10) (encode_lower certificate.digest) (10 ∷ behind_digest certificate) l) refl

pub no_digest : (format : Format) (text behind digits rows : List ℕ) → text ≡ front format ++ behind → SplitsAt 10 behind digits rows → HasNone encode_lower IsDigest digits → HasNone certificate_text IsPrintable text
no_digest format text behind digits rows starts split none certificate p e = none certificate.digest p.digest (parts format text behind digits rows starts split certificate p e).digest

pub hops_fault : (format : Format) (text behind digits rows : List ℕ) → text ≡ front format ++ behind → SplitsAt 10 behind digits rows →
    (fault : CertificateFault) → ReadsRows (codes "hop") printed_hop IsPrintableHop rows (Err fault) → Reads certificate_text IsPrintable text (Err fault)
hops_fault format text behind digits rows starts split Text none = λ certificate p e.
    none certificate.hops (behind_hops certificate) (hops_are_rows certificate digits rows p (parts format text behind digits rows starts split certificate p e))
hops_fault format text behind digits rows starts split Memory none = tt

-- what follows the hops that were read is what follows them in each certificate with the text
after_hops : (format : Format) (text behind digits rows after : List ℕ) (hops : List Hop) → text ≡ front format ++ behind → SplitsAt 10 behind digits rows → AreRowsOf (codes "hop") printed_hop IsPrintableHop rows hops after →
    (certificate : Certificate) → IsPrintable certificate → certificate_text certificate ≡ text → after ≡ behind_hops certificate
after_hops format text behind digits rows after hops starts split read certificate p e = (hops_read certificate digits rows after hops p (parts format text behind digits rows starts split certificate p e) read).1

pub lines_fault : (format : Format) (text behind digits rows after : List ℕ) (hops : List Hop) → text ≡ front format ++ behind → SplitsAt 10 behind digits rows → AreRowsOf (codes "hop") printed_hop IsPrintableHop rows hops after →
    (fault : CertificateFault) → ReadsRows (codes "line") printed_line IsPrintableLine after (Err fault) → Reads certificate_text IsPrintable text (Err fault)
lines_fault format text behind digits rows after hops starts split read Text none = λ certificate p e.
    none certificate.lines last_row (lines_are_rows certificate after p (after_hops format text behind digits rows after hops starts split read certificate p e))
lines_fault format text behind digits rows after hops starts split read Memory none = tt

-- each certificate with the text has the lines that were read, and the last row follows them
pub all_lines : (format : Format) (text behind digits rows after rest : List ℕ) (hops : List Hop) (lines : List Line) → text ≡ front format ++ behind → SplitsAt 10 behind digits rows →
    AreRowsOf (codes "hop") printed_hop IsPrintableHop rows hops after → AreRowsOf (codes "line") printed_line IsPrintableLine after lines rest →
    (certificate : Certificate) → IsPrintable certificate → certificate_text certificate ≡ text → (lines ≡ certificate.lines) × (rest ≡ last_row)
all_lines format text behind digits rows after rest hops lines starts split read_hops read_lines certificate p e =
    lines_read certificate after rest lines p (after_hops format text behind digits rows after hops starts split read_hops certificate p e) read_lines

pub too_many : (format : Format) (text behind digits rows after rest : List ℕ) (hops : List Hop) (lines : List Line) → text ≡ front format ++ behind → SplitsAt 10 behind digits rows →
    AreRowsOf (codes "hop") printed_hop IsPrintableHop rows hops after → AreRowsOf (codes "line") printed_line IsPrintableLine after lines rest →
    65536 < length lines → HasNone certificate_text IsPrintable text
too_many format text behind digits rows after rest hops lines starts split read_hops read_lines many certificate p e =
    let same : lines ≡ certificate.lines = (all_lines format text behind digits rows after rest hops lines starts split read_hops read_lines certificate p e).0 in
    let few : length certificate.lines ≤ 65536 = p.few in
    let long : length lines ≡ length certificate.lines = ap (λ (ls : List Line). length ls) same in
    absurd (omega arith)

pub whole_read : (text behind digits rows after rest : List ℕ) (certificate : Certificate) → text ≡ front certificate.format ++ behind → SplitsAt 10 behind digits rows → IsReadBack encode_lower IsDigest digits certificate.digest →
    AreRowsOf (codes "hop") printed_hop IsPrintableHop rows certificate.hops after → AreRowsOf (codes "line") printed_line IsPrintableLine after certificate.lines rest →
    rest ≡ last_row → length certificate.lines ≤ 65536 → IsReadBack certificate_text IsPrintable text certificate
whole_read text behind digits rows after rest certificate starts split digest hops lines end few =
    let tail : behind_hops certificate ≡ after = ap (λ (t : List ℕ). flat_map line_row certificate.lines ++ t) (sym end) ∙ sym lines.0 in
    let body : behind_digest certificate ≡ rows = ap (λ (t : List ℕ). flat_map hop_row certificate.hops ++ t) tail ∙ sym hops.0 in
    let row_of : encode_lower certificate.digest ++ 10 ∷ behind_digest certificate ≡ behind = rw (digest.0, body) (sym split.0) in
    (text_is certificate ∙ ap (λ (t : List ℕ). front certificate.format ++ t) row_of ∙ sym starts, record { digest = digest.1; hops = hops.1; lines = lines.1; few = few })

pub same_certificate : (a b : Certificate) → IsPrintable a → IsPrintable b → certificate_text a ≡ certificate_text b → a ≡ b
same_certificate a b pa pb e =
    let body : encode_lower a.digest ++ 10 ∷ behind_digest a ≡ encode_lower b.digest ++ 10 ∷ behind_digest b = (front_same a.format b.format _ _ (sym (text_is a) ∙ e ∙ text_is b)).1 in
    let format = (front_same a.format b.format _ _ (sym (text_is a) ∙ e ∙ text_is b)).0 in
    let two = unsplit 10 (encode_lower a.digest) (encode_lower b.digest) (behind_digest a) (behind_digest b) (hex_plain a.digest pa.digest) (hex_plain b.digest pb.digest) body in
    let digest : a.digest ≡ b.digest = same_digest a.digest b.digest (decode_sized (encode_lower b.digest) 32) (decoded a.digest (encode_lower b.digest) pa.digest two.0) (decoded b.digest (encode_lower b.digest) pb.digest refl) in
    let hops = rows_same (codes "hop") printed_hop IsPrintableHop hop_plain same_hop a.hops b.hops (behind_hops a) (behind_hops b) pa.hops pb.hops (hops_end a.lines) (hops_end b.lines) two.1 in
    let lines = rows_same (codes "line") printed_line IsPrintableLine line_plain same_line a.lines b.lines last_row last_row pa.lines pb.lines lines_end lines_end hops.1 in
    λ i. record { format = format i; digest = digest i; hops = hops.0 i; lines = lines.0 i }

pub read_back : (certificate : Certificate) → IsPrintable certificate → (answer : Result Certificate CertificateFault) → Reads certificate_text IsPrintable (certificate_text certificate) answer →
    (answer ≡ Ok certificate) ⊎ (answer ≡ Err Memory)
read_back certificate p (Ok found) h = inl (ap Ok (same_certificate found certificate h.1 p h.0))
read_back certificate p (Err Text) h = absurd (h certificate p refl)
read_back certificate p (Err Memory) h = inr refl
