-- Rows of which the first fields are cut off.
use Rattle.std.proofs.Common.{◌≡◌, ◌≢◌, ℕ, suc, ◌<◌, ◌≤◌, ◌^◌, List, [], ◌∷◌, length, decimal, sym, ap, ◌∙◌, arith}
use Rattle.std.proofs.lemmas.Fmt.{decimal_injective}
use Rattle.dr_base.specs.Numbers.{IsNumeral}
use Rattle.dr_base.specs.Syntaxes.{syntax_uid, NamesNoSyntax}
use Rattle.dr_plan_sound.specs.declared.certificate.Hop.{Hop}
use Rattle.dr_plan_sound.specs.Printed.{printed_line, printed_hop}
use Rattle.dr_cert_text.specs.Printable.{IsPrintableLine, IsPrintableHop}
use Rattle.dr_cert_text.specs.Cuts.{cuts, CutsField}
use Rattle.dr_cert_text.specs.Reading.{HasNone}
use Rattle.dr_cert_text.proofs.Cuts.{cuts-one}
use Rattle.dr_cert_text.proofs.Injective.{line_fields, hop_fields, line_cuts, hop_cuts}

pub one_part : (text : List ℕ) → cuts 9 text ≡ text ∷ [] → length (cuts 9 text) ≡ 1
one_part text e = ap (λ (parts : List (List ℕ)). length parts) e

pub one_more_part : {text field rest : List ℕ} (n : ℕ) → CutsField text field rest → length (cuts 9 rest) ≡ n → length (cuts 9 text) ≡ suc n
one_more_part n cut e = ap (λ (parts : List (List ℕ)). length parts) cut.parts ∙ ap suc e

pub short_line : (row : List ℕ) (n : ℕ) → length (cuts 9 row) ≡ n → n ≢ 7 → HasNone printed_line IsPrintableLine row
short_line row n long other line p e =
    other (sym long ∙ ap (λ (text : List ℕ). length (cuts 9 text)) (sym e) ∙ ap (λ (parts : List (List ℕ)). length parts) (line_cuts line p))

pub short_hop : (row : List ℕ) (n : ℕ) → length (cuts 9 row) ≡ n → n ≢ 5 → HasNone printed_hop IsPrintableHop row
short_hop row n long other hop p e =
    other (sym long ∙ ap (λ (text : List ℕ). length (cuts 9 text)) (sym e) ∙ ap (λ (parts : List (List ℕ)). length parts) (hop_cuts hop p))

-- the first three parts, and the first four
three_parts : (t a r1 b r2 c r3 : List ℕ) → CutsField t a r1 → CutsField r1 b r2 → CutsField r2 c r3 → cuts 9 t ≡ a ∷ b ∷ c ∷ cuts 9 r3
three_parts t a r1 b r2 c r3 h1 h2 h3 = h1.parts ∙ ap (λ parts. a ∷ parts) (h2.parts ∙ ap (λ parts. b ∷ parts) h3.parts)

four_parts : (t a r1 b r2 c r3 d r4 : List ℕ) → CutsField t a r1 → CutsField r1 b r2 → CutsField r2 c r3 → CutsField r3 d r4 → cuts 9 t ≡ a ∷ b ∷ c ∷ d ∷ cuts 9 r4
four_parts t a r1 b r2 c r3 d r4 h1 h2 h3 h4 = three_parts t a r1 b r2 c r3 h1 h2 h3 ∙ ap (λ parts. a ∷ b ∷ c ∷ parts) h4.parts

pub bad_syntax_line : {t a r1 b r2 c r3 d r4 : List ℕ} → CutsField t a r1 → CutsField r1 b r2 → CutsField r2 c r3 → CutsField r3 d r4 → NamesNoSyntax d → HasNone printed_line IsPrintableLine t
bad_syntax_line {t} {a} {r1} {b} {r2} {c} {r3} {d} {r4} h1 h2 h3 h4 none line p e =
    let parts : a ∷ b ∷ c ∷ d ∷ cuts 9 r4 ≡ line_fields line = sym (four_parts t a r1 b r2 c r3 d r4 h1 h2 h3 h4) ∙ ap (cuts 9) (sym e) ∙ line_cuts line p in
    let uid : d ≡ syntax_uid line.stop.cell.syntax = cc in
    none line.stop.cell.syntax uid

pub bad_rank : {t a r1 b r2 c r3 d r4 f r5 g r6 : List ℕ} → CutsField t a r1 → CutsField r1 b r2 → CutsField r2 c r3 → CutsField r3 d r4 → CutsField r4 f r5 → CutsField r5 g r6 →
    ((n : ℕ) → IsNumeral 32 n r6 → ⊥) → HasNone printed_line IsPrintableLine t
bad_rank {t} {a} {r1} {b} {r2} {c} {r3} {d} {r4} {f} {r5} {g} {r6} h1 h2 h3 h4 h5 h6 none line p e =
    let six : cuts 9 t ≡ a ∷ b ∷ c ∷ d ∷ f ∷ g ∷ cuts 9 r6 = four_parts t a r1 b r2 c r3 d r4 h1 h2 h3 h4 ∙ ap (λ parts. a ∷ b ∷ c ∷ d ∷ parts) (h5.parts ∙ ap (λ parts. f ∷ parts) h6.parts) in
    let parts : a ∷ b ∷ c ∷ d ∷ f ∷ g ∷ cuts 9 r6 ≡ line_fields line = sym six ∙ ap (cuts 9) (sym e) ∙ line_cuts line p in
    let last : cuts 9 r6 ≡ decimal line.rank ∷ [] = cc in
    none line.rank (sym (cuts-one 9 r6 (decimal line.rank) last), omega (arith, p.rank))

-- the third field of a hop is its id
id_field : {t a r1 b r2 c r3 : List ℕ} → CutsField t a r1 → CutsField r1 b r2 → CutsField r2 c r3 → (hop : Hop) → IsPrintableHop hop → printed_hop hop ≡ t → decimal hop.id ≡ c
id_field {t} {a} {r1} {b} {r2} {c} {r3} h1 h2 h3 hop p e =
    let parts : a ∷ b ∷ c ∷ cuts 9 r3 ≡ hop_fields hop = sym (three_parts t a r1 b r2 c r3 h1 h2 h3) ∙ ap (cuts 9) (sym e) ∙ hop_cuts hop p in
    cc

pub bad_number : {t a r1 b r2 c r3 : List ℕ} → CutsField t a r1 → CutsField r1 b r2 → CutsField r2 c r3 → ((n : ℕ) → IsNumeral 32 n c → ⊥) → HasNone printed_hop IsPrintableHop t
bad_number h1 h2 h3 none hop p e = let small : hop.id ≤ 255 = p.id in none hop.id (id_field h1 h2 h3 hop p e, omega arith)

pub bad_id : {t a r1 b r2 c r3 : List ℕ} (n : ℕ) → CutsField t a r1 → CutsField r1 b r2 → CutsField r2 c r3 → decimal n ≡ c → n < 2 ^ 32 → 255 < n → HasNone printed_hop IsPrintableHop t
bad_id n h1 h2 h3 is fits large hop p e =
    let small : hop.id ≤ 255 = p.id in
    let same : hop.id ≡ n = decimal_injective hop.id n (omega arith) (omega arith) (id_field h1 h2 h3 hop p e ∙ sym is) in
    absurd (omega arith)

pub bad_syntax_hop : {t a r1 b r2 c r3 d r4 : List ℕ} → CutsField t a r1 → CutsField r1 b r2 → CutsField r2 c r3 → CutsField r3 d r4 → NamesNoSyntax r4 → HasNone printed_hop IsPrintableHop t
bad_syntax_hop {t} {a} {r1} {b} {r2} {c} {r3} {d} {r4} h1 h2 h3 h4 none hop p e =
    let parts : a ∷ b ∷ c ∷ d ∷ cuts 9 r4 ≡ hop_fields hop = sym (four_parts t a r1 b r2 c r3 d r4 h1 h2 h3 h4) ∙ ap (cuts 9) (sym e) ∙ hop_cuts hop p in
    let last : cuts 9 r4 ≡ syntax_uid hop.syntax ∷ [] = cc in
    none hop.syntax (cuts-one 9 r4 (syntax_uid hop.syntax) last)
