-- Texts of fields and of lines are told apart.
use Rattle.std.proofs.Common.{◌≡◌, ◌≢◌, ◌∙◌, ◌<◌, ◌+◌, ◌*◌, ◌^◌, ℕ, List, [], ◌∷◌, ◌++◌, All, refl, sym, ap, arith, drop, get_or, length, decimal}
use Rattle.std.specs.Str.Parse.{AllDigits}
use Rattle.std.proofs.lemmas.Fmt.{decimal_injective, decimal_is_IsNumeral}
use Rattle.std.proofs.lemmas.List.Elements.{All-cons, All-head, All-nil, All-tail}
use Rattle.std.proofs.lemmas.Str.Parse.{digit_from_value}
use Rattle.hex.specs.Hex.{decode_sized, encode_lower, lower_digits}
use Rattle.hex.proofs.HexLemmas.{length-encode_with}
use Rattle.dr_base.specs.Texts.{Text}
use Rattle.dr_base.specs.Syntaxes.{syntax_uid}
use Rattle.dr_base.specs.declared.syntax.Syntax.{Syntax}
use Rattle.dr_base.specs.declared.syntax.Syntax.TheVariants.{Implicit, Explicit}
use Rattle.dr_route.specs.declared.key.Key.{Key}
use Rattle.dr_cert_text.specs.Cuts.{Lacks}
use Rattle.dr_cert_text.specs.Printable.{IsDigest}
use Rattle.dr_cert_text.proofs.Numerals.{decoded, same_digest}
use Rattle.dr_cert_text.proofs.Splits.{unsplit}
use Rattle.dr_ledger.specs.Pairs.{Pair}
use Rattle.dr_ledger.specs.declared.item.Cause.{Cause}
use Rattle.dr_ledger.specs.declared.item.Cause.TheVariants as cause
use Rattle.dr_ledger.specs.declared.item.Instance.{Instance}
use Rattle.dr_ledger.specs.declared.item.Progress.{Progress}
use Rattle.dr_ledger.specs.declared.item.Progress.TheVariants as progress
use Rattle.dr_ledger_balance.specs.Fields.{FitsField, FitsNumber, FitsProgress, digest_then, field_then, number_then, progress_then, syntax_then}
use Rattle.dr_ledger_balance.specs.Pieces.{AreToldApart, HasNone, all_spelled}
use Rattle.dr_ledger_balance.specs.Spelling.{FitsArrival, FitsItem, FitsKey, FitsRow, arrival_then, end_then, item_then, kept_then, key_then, row_then}

-- ---- numbers

no_mark : (ds : List ℕ) → AllDigits 10 ds → Lacks 58 ds
no_mark [] p = All-nil (λ b. b ≢ 58)
no_mark (d ∷ ds) p = All-cons (λ b. b ≢ 58) d ds (λ e. let r = digit_from_value d p.0 in omega (arith, r.1, e)) (no_mark ds p.1)

-- no digit is a colon
pub no_colon : (n : ℕ) → n < 2 ^ 64 → Lacks 58 (decimal n)
no_colon n low = no_mark (decimal n) (decimal_is_IsNumeral n low).0.1

pub number_apart : AreToldApart FitsNumber number_then
number_apart n m a b p q e =
    let r = unsplit 58 (decimal n) (decimal m) a b (no_colon n p) (no_colon m q) (ap (λ (l : List ℕ). drop 1 l) e) in
    (decimal_injective n m p q r.0, r.1)

-- ---- texts

pub same_front : (v w a b : List ℕ) → length v ≡ length w → v ++ a ≡ w ++ b → (v ≡ w) × (a ≡ b)
same_front [] [] a b l e = (refl, e)
same_front [] (d ∷ ds) a b l e = absurd (omega (arith, l))
same_front (c ∷ cs) [] a b l e = absurd (omega (arith, l))
same_front (c ∷ cs) (d ∷ ds) a b l e =
    let on = same_front cs ds a b (omega (arith, l)) (ap (λ (t : List ℕ). drop 1 t) e) in
    (ap (λ (n : ℕ). n ∷ cs) (ap (λ (t : List ℕ). get_or t 0 0) e) ∙ ap (λ (t : List ℕ). d ∷ t) on.0, on.1)

pub field_apart : AreToldApart FitsField field_then
field_apart v w a b p q e =
    let r = number_apart (length v) (length w) (v ++ a) (w ++ b) p q e in
    same_front v w a b r.0 r.1

-- ---- digests

pub fits_digits : (digest : List ℕ) → IsDigest digest → FitsField (encode_lower digest)
fits_digits digest is = let l = length-encode_with lower_digits digest in omega (arith, l, is.0)

pub digest_apart : AreToldApart IsDigest digest_then
digest_apart d f a b p q e =
    let r = field_apart (encode_lower d) (encode_lower f) a b (fits_digits d p) (fits_digits f q) e in
    (same_digest d f (decode_sized (encode_lower f) 32) (decoded d (encode_lower f) p r.0) (decoded f (encode_lower f) q refl), r.1)

-- ---- transfer syntaxes

pub fits_uid : (s : Syntax) → FitsField (syntax_uid s)
fits_uid Implicit = omega arith
fits_uid Explicit = omega arith

pub one_uid : (s t : Syntax) → syntax_uid s ≡ syntax_uid t → s ≡ t
one_uid Implicit Implicit e = refl
one_uid Explicit Explicit e = refl
one_uid Implicit Explicit e = let l : 17 ≡ 19 = ap (λ (t : List ℕ). length t) e in absurd (omega (arith, l))
one_uid Explicit Implicit e = let l : 19 ≡ 17 = ap (λ (t : List ℕ). length t) e in absurd (omega (arith, l))

pub syntax_apart : AreToldApart (λ (s : Syntax). Unit {0}) syntax_then
syntax_apart s t a b p q e =
    let r = field_apart (syntax_uid s) (syntax_uid t) a b (fits_uid s) (fits_uid t) e in
    (one_uid s t r.0, r.1)

-- ---- how far a row is

-- a number by which words are told apart
abbrev pub word_number : Text → ℕ
word_number text = get_or text 1 0 * 256 + get_or text 2 0

-- those of a row that is held lie between those of others
pub held_between : (c : Cause) (rest : Text) → (28000 < word_number (progress_then (progress.Held c) rest)) × (word_number (progress_then (progress.Held c) rest) < 30100)
held_between (cause.Status s) rest = (omega arith, omega arith)
held_between cause.NoContext rest = (omega arith, omega arith)
held_between cause.Unreadable rest = (omega arith, omega arith)

cause_apart : (c d : Cause) (a b : Text) → FitsProgress (progress.Held c) → FitsProgress (progress.Held d) → progress_then (progress.Held c) a ≡ progress_then (progress.Held d) b
    → (progress.Held c ≡ progress.Held d) × (a ≡ b)
cause_apart (cause.Status s) (cause.Status t) a b p q e =
    let r = number_apart s t a b (omega (arith, p)) (omega (arith, q)) (ap (λ (l : List ℕ). drop 7 l) e) in
    (ap (λ (n : ℕ). progress.Held (cause.Status n)) r.0, r.1)
cause_apart cause.NoContext cause.NoContext a b p q e = (refl, ap (λ (l : List ℕ). drop 11 l) e)
cause_apart cause.Unreadable cause.Unreadable a b p q e = (refl, ap (λ (l : List ℕ). drop 11 l) e)
cause_apart c d a b p q e = absurd (omega (arith, ap word_number e))

pub progress_apart : AreToldApart FitsProgress progress_then
progress_apart (progress.Waiting t d) (progress.Waiting u f) a b p q e =
    let r = number_apart t u (number_then d a) (number_then f b) (omega (arith, p.0)) (omega (arith, q.0)) (ap (λ (l : List ℕ). drop 8 l) e) in
    let s = number_apart d f a b p.1 q.1 r.1 in
    (ap (λ (n : ℕ). progress.Waiting n d) r.0 ∙ ap (λ (n : ℕ). progress.Waiting u n) s.0, s.1)
progress_apart (progress.Held c) (progress.Held d) a b p q e = cause_apart c d a b p q e
progress_apart (progress.Held c) y a b p q e = let l = held_between c a in absurd (omega (arith, l.0, l.1, ap word_number e))
progress_apart x (progress.Held d) a b p q e = let l = held_between d b in absurd (omega (arith, l.0, l.1, ap word_number e))
progress_apart progress.Done progress.Done a b p q e = (refl, ap (λ (l : List ℕ). drop 5 l) e)
progress_apart progress.Dropped progress.Dropped a b p q e = (refl, ap (λ (l : List ℕ). drop 8 l) e)
progress_apart x y a b p q e = absurd (omega (arith, ap word_number e))

-- ---- lines

abbrev key_made : Text → Syntax → Text → Text → Key
key_made class syntax modality station = record { class = class; syntax = syntax; modality = modality; station = station }

pub key_apart : AreToldApart FitsKey key_then
key_apart k l a b p q e =
    let c = field_apart k.class l.class (syntax_then k.syntax (field_then k.modality (field_then k.station a))) (syntax_then l.syntax (field_then l.modality (field_then l.station b))) p.class q.class e in
    let s = syntax_apart k.syntax l.syntax (field_then k.modality (field_then k.station a)) (field_then l.modality (field_then l.station b)) tt tt c.1 in
    let m = field_apart k.modality l.modality (field_then k.station a) (field_then l.station b) p.modality q.modality s.1 in
    let t = field_apart k.station l.station a b p.station q.station m.1 in (
      ap (λ (x : Text). key_made x k.syntax k.modality k.station) c.0 ∙ ap (λ (x : Syntax). key_made l.class x k.modality k.station) s.0
          ∙ ap (λ (x : Text). key_made l.class l.syntax x k.station) m.0 ∙ ap (λ (x : Text). key_made l.class l.syntax l.modality x) t.0,
      t.1,
    )

abbrev item_made : Text → Key → ℕ → List ℕ → Instance
item_made uid key size digest = record { uid = uid; key = key; size = size; digest = digest }

abbrev item_2 : Instance → Text → Text
item_2 i x = key_then i.key (number_then i.size (digest_then i.digest (10 ∷ x)))

pub item_apart : AreToldApart FitsItem item_then
item_apart i j a b p q e =
    let u = field_apart i.uid j.uid (item_2 i a) (item_2 j b) p.uid q.uid (ap (λ (l : List ℕ). drop 8 l) e) in
    let k = key_apart i.key j.key (number_then i.size (digest_then i.digest (10 ∷ a))) (number_then j.size (digest_then j.digest (10 ∷ b))) p.key q.key u.1 in
    let s = number_apart i.size j.size (digest_then i.digest (10 ∷ a)) (digest_then j.digest (10 ∷ b)) p.size q.size k.1 in
    let d = digest_apart i.digest j.digest (10 ∷ a) (10 ∷ b) p.digest q.digest s.1 in (
      ap (λ (x : Text). item_made x i.key i.size i.digest) u.0 ∙ ap (λ (x : Key). item_made j.uid x i.size i.digest) k.0
          ∙ ap (λ (x : ℕ). item_made j.uid j.key x i.digest) s.0 ∙ ap (λ (x : List ℕ). item_made j.uid j.key j.size x) d.0,
      ap (λ (l : List ℕ). drop 1 l) d.1,
    )

pub pair_apart : (x y : Pair) (a b : Text) → FitsArrival x → FitsArrival y → field_then x.0 (field_then x.1 a) ≡ field_then y.0 (field_then y.1 b) → (x ≡ y) × (a ≡ b)
pair_apart x y a b p q e =
    let c = field_apart x.0 y.0 (field_then x.1 a) (field_then y.1 b) p.0 q.0 e in
    let u = field_apart x.1 y.1 a b p.1 q.1 c.1 in
    (ap (λ (t : Text). (t, x.1)) c.0 ∙ ap (λ (t : Text). (y.0, t)) u.0, u.1)

pub arrival_apart : AreToldApart FitsArrival arrival_then
arrival_apart x y a b p q e =
    let r = pair_apart x y (10 ∷ a) (10 ∷ b) p q (ap (λ (l : List ℕ). drop 7 l) e) in
    (r.0, ap (λ (l : List ℕ). drop 1 l) r.1)

pub kept_apart : AreToldApart FitsField kept_then
kept_apart x y a b p q e =
    let r = field_apart x y (10 ∷ a) (10 ∷ b) p q (ap (λ (l : List ℕ). drop 4 l) e) in
    (r.0, ap (λ (l : List ℕ). drop 1 l) r.1)

pub row_apart : AreToldApart FitsRow row_then
row_apart x y a b p q e =
    let r = pair_apart x.0 y.0 (progress_then x.1 (10 ∷ a)) (progress_then y.1 (10 ∷ b)) p.0 q.0 (ap (λ (l : List ℕ). drop 3 l) e) in
    let s = progress_apart x.1 y.1 (10 ∷ a) (10 ∷ b) p.1 q.1 r.1 in
    (ap (λ (t : Pair). (t, x.1)) r.0 ∙ ap (λ (t : Progress). (y.0, t)) s.0, ap (λ (l : List ℕ). drop 1 l) s.1)

pub end_apart : AreToldApart FitsNumber end_then
end_apart n m a b p q e =
    let r = number_apart n m (10 ∷ a) (10 ∷ b) p q (ap (λ (l : List ℕ). drop 5 l) e) in
    (r.0, ap (λ (l : List ℕ). drop 1 l) r.1)

-- ---- lists

pub all_apart : {X : Type 0} (Fits : X → Type 0) (spelled : X → Text → Text) → AreToldApart Fits spelled → (xs ys : List X) (a b : Text) → All Fits xs → All Fits ys
    → HasNone Fits spelled a → HasNone Fits spelled b → all_spelled spelled xs a ≡ all_spelled spelled ys b → (xs ≡ ys) × (a ≡ b)
all_apart Fits spelled apart [] [] a b p q m n e = (refl, e)
all_apart Fits spelled apart [] (y ∷ ys) a b p q m n e = absurd (m y (all_spelled spelled ys b) (All-head Fits y ys q, e))
all_apart Fits spelled apart (x ∷ xs) [] a b p q m n e = absurd (n x (all_spelled spelled xs a) (All-head Fits x xs p, sym e))
all_apart Fits spelled apart (x ∷ xs) (y ∷ ys) a b p q m n e =
    let r = apart x y (all_spelled spelled xs a) (all_spelled spelled ys b) (All-head Fits x xs p) (All-head Fits y ys q) e in
    let on = all_apart Fits spelled apart xs ys a b (All-tail Fits x xs p) (All-tail Fits y ys q) m n r.1 in
    (ap (λ z. z ∷ xs) r.0 ∙ ap (λ zs. y ∷ zs) on.0, on.1)

pub all_push : {X : Type 0} (spelled : X → Text → Text) (xs : List X) (x : X) (rest : Text) → all_spelled spelled (xs ++ x ∷ []) rest ≡ all_spelled spelled xs (spelled x rest)
all_push spelled [] x rest = refl
all_push spelled (y ∷ ys) x rest = ap (λ t. spelled y t) (all_push spelled ys x rest)
