-- What a printed line or hop was can be told from its text.
use Rattle.std.proofs.Common.{◌≡◌, ◌≢◌, ℕ, ◌≤◌, List, [], ◌∷◌, ◌++◌, length, refl, sym, ap, ◌∙◌, arith, append_assoc, decimal}
use Rattle.std.specs.Prelude.{All, AllPairs}
use Rattle.std.specs.List.{list_all}
use Rattle.std.proofs.lemmas.List.Sums.{AllPass-from_list_all}
use mathlib.Core.Bool.{true≢false}
use Rattle.std.proofs.Common.{true, not, eqb, eq-eqb}
use Rattle.std.specs.Str.Parse.{AllDigits}
use Rattle.std.proofs.lemmas.List.{append_cancel_right}
use Rattle.std.proofs.lemmas.Fmt.{decimal_is_IsNumeral, decimal_injective}
use Rattle.std.proofs.lemmas.Str.Parse.{digit_at}
use Rattle.std.proofs.lemmas.List.Elements.{All-weaker, All-from_get_or, All-append, All-cons, All-nil}
use Rattle.dr_base.specs.Texts.{Text}
use Rattle.dr_base.specs.Syntaxes.{syntax_uid}
use Rattle.dr_base.specs.declared.syntax.Syntax.{Syntax}
use Rattle.dr_base.specs.declared.syntax.Syntax.TheVariants.{Implicit, Explicit}
use Rattle.dr_route.specs.declared.cell.OwnedField.{OwnedField}
use Rattle.dr_route.specs.declared.cell.OwnedField.TheVariants.{Literal, Prefix, Rest}
use Rattle.dr_plan_sound.specs.declared.certificate.Line.{Line}
use Rattle.dr_plan_sound.specs.declared.certificate.Hop.{Hop}
use Rattle.dr_plan_sound.specs.Printed.{printed_field, printed_line, printed_hop}
use Rattle.dr_cert_text.specs.Printable.{IsPlain, IsPlainField, IsPrintableLine, IsPrintableHop}
use Rattle.dr_cert_text.specs.Cuts.{cuts, grown, Lacks}
use Rattle.dr_cert_text.proofs.Cuts.{cuts-at, cuts-last}

pub no_tab : (text : Text) → IsPlain text → All (λ b. b ≢ 9) text
no_tab text plain = All-weaker (λ b. (b ≢ 9) × (b ≢ 10)) (λ b. b ≢ 9) (λ b h. h.0) text plain

-- the digits of a number are neither tab nor LF
pub decimal_plain : (n : ℕ) → n ≤ 4294967295 → IsPlain (decimal n)
decimal_plain n small =
    let digits : AllDigits 10 (decimal n) = (decimal_is_IsNumeral n (omega arith)).0.1 in
    All-from_get_or (λ b. (b ≢ 9) × (b ≢ 10)) (decimal n) 0 (λ i lt. let d = digit_at (decimal n) i digits lt in (λ e. absurd (omega arith), λ e. absurd (omega arith)))

uid_cuts : (syntax : Syntax) (rest : List ℕ) → cuts 9 (syntax_uid syntax ++ 9 ∷ rest) ≡ syntax_uid syntax ∷ cuts 9 rest
unfolding cuts grown
uid_cuts Implicit rest = refl
uid_cuts Explicit rest = refl

uid_last : (syntax : Syntax) → cuts 9 (syntax_uid syntax) ≡ syntax_uid syntax ∷ []
unfolding cuts grown
uid_last Implicit = refl
uid_last Explicit = refl

star_no_tab : (prefix : Text) → IsPlain prefix → All (λ b. b ≢ 9) (prefix ++ 42 ∷ [])
star_no_tab prefix plain = All-append (λ b. b ≢ 9) prefix (42 ∷ []) (no_tab prefix plain) (All-cons (λ b. b ≢ 9) 42 [] (λ e. omega arith) (All-nil (λ b. b ≢ 9)))

field_cuts : (part : OwnedField) (rest : List ℕ) → IsPlainField part → cuts 9 (printed_field part ++ 9 ∷ rest) ≡ printed_field part ∷ cuts 9 rest
unfolding cuts grown
field_cuts (Literal literal) rest plain = cuts-at 9 literal rest (no_tab literal plain.0)
field_cuts (Prefix prefix) rest plain = cuts-at 9 (prefix ++ 42 ∷ []) rest (star_no_tab prefix plain.0)
field_cuts Rest rest plain = refl

-- the fields of a line, and of a hop
abbrev pub line_fields : Line → List Text
line_fields line = line.stop.caller ∷ line.stop.node ∷ line.stop.cell.class ∷ syntax_uid line.stop.cell.syntax ∷ printed_field line.stop.cell.modality
    ∷ printed_field line.stop.cell.station ∷ decimal line.rank ∷ []

abbrev pub hop_fields : Hop → List Text
hop_fields hop = hop.from ∷ hop.to ∷ decimal hop.id ∷ hop.class ∷ syntax_uid hop.syntax ∷ []

-- a text that ends at a tab
abbrev EndsAtTab : Text → Type 0
EndsAtTab text = (rest : List ℕ) → cuts 9 (text ++ 9 ∷ rest) ≡ text ∷ cuts 9 rest

seven_flat : (a b c d e f g : List ℕ) → a ++ b ++ c ++ d ++ e ++ f ++ g ≡ a ++ (b ++ (c ++ (d ++ (e ++ (f ++ g)))))
seven_flat a b c d e f g = simp append_assoc

five_flat : (a b c d e : List ℕ) → a ++ b ++ c ++ d ++ e ≡ a ++ (b ++ (c ++ (d ++ e)))
five_flat a b c d e = simp append_assoc

seven_cuts : (a b c d e f g : Text) → EndsAtTab a → EndsAtTab b → EndsAtTab c → EndsAtTab d → EndsAtTab e → EndsAtTab f → cuts 9 g ≡ g ∷ [] →
    cuts 9 (a ++ (9 ∷ b) ++ (9 ∷ c) ++ (9 ∷ d) ++ (9 ∷ e) ++ (9 ∷ f) ++ (9 ∷ g)) ≡ a ∷ b ∷ c ∷ d ∷ e ∷ f ∷ g ∷ []
seven_cuts a b c d e f g ha hb hc hd he hf hg =
    let r6 = f ++ 9 ∷ g in
    let r5 = e ++ 9 ∷ r6 in
    let r4 = d ++ 9 ∷ r5 in
    let r3 = c ++ 9 ∷ r4 in
    let r2 = b ++ 9 ∷ r3 in
    let flat : a ++ (9 ∷ b) ++ (9 ∷ c) ++ (9 ∷ d) ++ (9 ∷ e) ++ (9 ∷ f) ++ (9 ∷ g) ≡ a ++ 9 ∷ r2 = seven_flat a (9 ∷ b) (9 ∷ c) (9 ∷ d) (9 ∷ e) (9 ∷ f) (9 ∷ g) in
    ap (cuts 9) flat ∙ rw (ha r2, hb r3, hc r4, hd r5, he r6, hf g, hg) refl

five_cuts : (a b c d e : Text) → EndsAtTab a → EndsAtTab b → EndsAtTab c → EndsAtTab d → cuts 9 e ≡ e ∷ [] →
    cuts 9 (a ++ (9 ∷ b) ++ (9 ∷ c) ++ (9 ∷ d) ++ (9 ∷ e)) ≡ a ∷ b ∷ c ∷ d ∷ e ∷ []
five_cuts a b c d e ha hb hc hd he =
    let r4 = d ++ 9 ∷ e in
    let r3 = c ++ 9 ∷ r4 in
    let r2 = b ++ 9 ∷ r3 in
    let flat : a ++ (9 ∷ b) ++ (9 ∷ c) ++ (9 ∷ d) ++ (9 ∷ e) ≡ a ++ 9 ∷ r2 = five_flat a (9 ∷ b) (9 ∷ c) (9 ∷ d) (9 ∷ e) in
    ap (cuts 9) flat ∙ rw (ha r2, hb r3, hc r4, hd e, he) refl

pub line_cuts : (line : Line) → IsPrintableLine line → cuts 9 (printed_line line) ≡ line_fields line
line_cuts line p =
    let cell = line.stop.cell in
    seven_cuts line.stop.caller line.stop.node cell.class (syntax_uid cell.syntax) (printed_field cell.modality) (printed_field cell.station) (decimal line.rank)
    (λ rest. cuts-at 9 _ rest (no_tab _ p.caller)) (λ rest. cuts-at 9 _ rest (no_tab _ p.node)) (λ rest. cuts-at 9 _ rest (no_tab _ p.class)) (uid_cuts cell.syntax)
    (λ rest. field_cuts cell.modality rest p.modality) (λ rest. field_cuts cell.station rest p.station) (cuts-last 9 _ (no_tab _ (decimal_plain line.rank p.rank)))

pub hop_cuts : (hop : Hop) → IsPrintableHop hop → cuts 9 (printed_hop hop) ≡ hop_fields hop
hop_cuts hop p =
    five_cuts hop.from hop.to (decimal hop.id) hop.class (syntax_uid hop.syntax)
    (λ rest. cuts-at 9 _ rest (no_tab _ p.from)) (λ rest. cuts-at 9 _ rest (no_tab _ p.to))
    (λ rest. cuts-at 9 _ rest (no_tab _ (decimal_plain hop.id (let small : hop.id ≤ 255 = p.id in omega arith)))) (λ rest. cuts-at 9 _ rest (no_tab _ p.class)) (uid_last hop.syntax)

long_same : (s t : Syntax) → length (syntax_uid s) ≡ length (syntax_uid t) → s ≡ t
long_same Implicit Implicit e = refl
long_same Implicit Explicit e = let h : ◌≡◌ {A = ℕ} 17 19 = e in absurd (omega arith)
long_same Explicit Implicit e = let h : ◌≡◌ {A = ℕ} 19 17 = e in absurd (omega arith)
long_same Explicit Explicit e = refl

pub uid_same : (s t : Syntax) → syntax_uid s ≡ syntax_uid t → s ≡ t
uid_same s t e = long_same s t (ap (λ (uid : List ℕ). length uid) e)

star_alone : (prefix : Text) → prefix ++ 42 ∷ [] ≡ 42 ∷ [] → prefix ≡ []
star_alone prefix e = append_cancel_right prefix [] (42 ∷ []) e

field_same : (f g : OwnedField) → IsPlainField f → IsPlainField g → printed_field f ≡ printed_field g → f ≡ g
field_same (Literal a) (Literal b) p q e = ap Literal e
field_same (Literal a) (Prefix b) p q e = absurd (p.1 b e)
field_same (Literal a) Rest p q e = absurd (p.1 [] e)
field_same (Prefix a) (Literal b) p q e = absurd (q.1 a (sym e))
field_same (Prefix a) (Prefix b) p q e = ap Prefix (append_cancel_right a b (42 ∷ []) e)
field_same (Prefix a) Rest p q e = absurd (p.1 (star_alone a e))
field_same Rest (Literal b) p q e = absurd (q.1 [] (sym e))
field_same Rest (Prefix b) p q e = absurd (q.1 (star_alone b (sym e)))
field_same Rest Rest p q e = refl

pub same_line : (a b : Line) → IsPrintableLine a → IsPrintableLine b → printed_line a ≡ printed_line b → a ≡ b
same_line a b pa pb e =
    let fields : line_fields a ≡ line_fields b = sym (line_cuts a pa) ∙ ap (cuts 9) e ∙ line_cuts b pb in
    let caller : a.stop.caller ≡ b.stop.caller = cc in
    let node : a.stop.node ≡ b.stop.node = cc in
    let class : a.stop.cell.class ≡ b.stop.cell.class = cc in
    let uid : syntax_uid a.stop.cell.syntax ≡ syntax_uid b.stop.cell.syntax = cc in
    let modality : printed_field a.stop.cell.modality ≡ printed_field b.stop.cell.modality = cc in
    let station : printed_field a.stop.cell.station ≡ printed_field b.stop.cell.station = cc in
    let digits : decimal a.rank ≡ decimal b.rank = cc in
    let small_a : a.rank ≤ 4294967295 = pa.rank in
    let small_b : b.rank ≤ 4294967295 = pb.rank in
    let syntax = uid_same a.stop.cell.syntax b.stop.cell.syntax uid in
    let modalities = field_same a.stop.cell.modality b.stop.cell.modality pa.modality pb.modality modality in
    let stations = field_same a.stop.cell.station b.stop.cell.station pa.station pb.station station in
    let rank = decimal_injective a.rank b.rank (omega arith) (omega arith) digits in
    λ i. record { stop = record { caller = caller i; node = node i; cell = record { class = class i; syntax = syntax i; modality = modalities i; station = stations i } }; rank = rank i }

pub same_hop : (a b : Hop) → IsPrintableHop a → IsPrintableHop b → printed_hop a ≡ printed_hop b → a ≡ b
same_hop a b pa pb e =
    let fields : hop_fields a ≡ hop_fields b = sym (hop_cuts a pa) ∙ ap (cuts 9) e ∙ hop_cuts b pb in
    let sender : a.from ≡ b.from = cc in
    let receiver : a.to ≡ b.to = cc in
    let digits : decimal a.id ≡ decimal b.id = cc in
    let class : a.class ≡ b.class = cc in
    let uid : syntax_uid a.syntax ≡ syntax_uid b.syntax = cc in
    let small_a : a.id ≤ 255 = pa.id in
    let small_b : b.id ≤ 255 = pb.id in
    let id = decimal_injective a.id b.id (omega arith) (omega arith) digits in
    let syntax = uid_same a.syntax b.syntax uid in
    λ i. record { «from» = sender i; «to» = receiver i; id = id i; class = class i; syntax = syntax i }

-- different ones are printed differently
pub lines_apart : (lines : List Line) → All IsPrintableLine lines → AllPairs (λ a b. a ≢ b) lines → AllPairs (λ a b. printed_line a ≢ printed_line b) lines
lines_apart lines all apart = λ i j d lt long e. apart i j d lt long (same_line _ _ (all i d (omega arith)) (all j d long) e)

pub hops_apart : (hops : List Hop) → All IsPrintableHop hops → AllPairs (λ a b. a ≢ b) hops → AllPairs (λ a b. printed_hop a ≢ printed_hop b) hops
hops_apart hops all apart = λ i j d lt long e. apart i j d lt long (same_hop _ _ (all i d (omega arith)) (all j d long) e)

no_lf : (text : Text) → IsPlain text → All (λ b. b ≢ 10) text
no_lf text plain = All-weaker (λ b. (b ≢ 9) × (b ≢ 10)) (λ b. b ≢ 10) (λ b h. h.1) text plain

join_lf : (xs ys : Text) → Lacks 10 xs → Lacks 10 ys → Lacks 10 (xs ++ 9 ∷ ys)
join_lf xs ys hx hy = All-append (λ b. b ≢ 10) xs (9 ∷ ys) hx (All-cons (λ b. b ≢ 10) 9 ys (λ e. omega arith) hy)

tested : (text : List ℕ) → list_all (λ b. not (eqb b 10)) text ≡ true → Lacks 10 text
tested text h =
    All-weaker (λ b. not (eqb b 10) ≡ true) (λ b. b ≢ 10) (λ b passes e. let yes : eqb b 10 ≡ true = eq-eqb b 10 e in let no : not true ≡ true = rw yes at passes in absurd (true≢false (sym no))) text
    (AllPass-from_list_all (λ b. not (eqb b 10)) text h)

uid_lf : (syntax : Syntax) → Lacks 10 (syntax_uid syntax)
uid_lf Implicit = tested (syntax_uid Implicit) refl
uid_lf Explicit = tested (syntax_uid Explicit) refl

field_lf : (part : OwnedField) → IsPlainField part → Lacks 10 (printed_field part)
field_lf (Literal literal) plain = no_lf literal plain.0
field_lf (Prefix prefix) plain = All-append (λ b. b ≢ 10) prefix (42 ∷ []) (no_lf prefix plain.0) (All-cons (λ b. b ≢ 10) 42 [] (λ e. omega arith) (All-nil (λ b. b ≢ 10)))
field_lf Rest plain = All-cons (λ b. b ≢ 10) 42 [] (λ e. omega arith) (All-nil (λ b. b ≢ 10))

-- a printed line is one row, and a printed hop
pub line_plain : (line : Line) → IsPrintableLine line → Lacks 10 (printed_line line)
line_plain line p =
    join_lf _ _ (join_lf _ _ (join_lf _ _ (join_lf _ _ (join_lf _ _ (join_lf _ _ (no_lf _ p.caller) (no_lf _ p.node)) (no_lf _ p.class)) (uid_lf line.stop.cell.syntax))
    (field_lf line.stop.cell.modality p.modality)) (field_lf line.stop.cell.station p.station)) (no_lf _ (decimal_plain line.rank p.rank))

pub hop_plain : (hop : Hop) → IsPrintableHop hop → Lacks 10 (printed_hop hop)
hop_plain hop p =
    join_lf _ _ (join_lf _ _ (join_lf _ _ (join_lf _ _ (no_lf _ p.from) (no_lf _ p.to)) (no_lf _ (decimal_plain hop.id (let small : hop.id ≤ 255 = p.id in omega arith)))) (no_lf _ p.class)) (uid_lf hop.syntax)

pub stops_apart : (a b : Line) → IsPrintableLine a → IsPrintableLine b → a.stop ≢ b.stop → printed_line a ≢ printed_line b
stops_apart a b pa pb apart e = apart (ap (λ (line : Line). line.stop) (same_line a b pa pb e))

pub same_stop : (a b : Line) → IsPrintableLine a → IsPrintableLine b → printed_line (record a { rank = b.rank }) ≡ printed_line b → a.stop ≡ b.stop
same_stop a b pa pb e =
    let like : IsPrintableLine (record a { rank = b.rank }) = record { caller = pa.caller; node = pa.node; class = pa.class; modality = pa.modality; station = pa.station; rank = pb.rank } in
    ap (λ (line : Line). line.stop) (same_line (record a { rank = b.rank }) b like pb e)
