-- A header that is cut: one byte more completes it with nothing behind it, and twelve bytes hold each.
use Rattle.std.proofs.Common.{◌≡◌, ◌≢◌, ℕ, suc, ◌<◌, ◌≤◌, Bool, true, false, cond, eqb, ◌&&◌, List, [], ◌∷◌, ◌++◌, length, get_or, refl, sym, ap, ◌∙◌, arith, inl, inr, Option, Some, None, Result, Ok, Err, append_assoc}
use Rattle.std.specs.Int.{w16, w32, to_le_bytes, from_le_bytes}
use Rattle.std.proofs.lemmas.List.{length-append, append-nil}
use Rattle.std.proofs.lemmas.Bool.{lt-ltb, and_from}
use Rattle.dr_base.specs.declared.syntax.Syntax.{Syntax}
use Rattle.dr_base.specs.declared.syntax.Syntax.TheVariants.{Implicit, Explicit}
use Rattle.dr_dataset.specs.declared.fault.DataFault.{DataFault}
use Rattle.dr_dataset.specs.declared.fault.DataFault.TheVariants.{Truncated, BadLength}
use Rattle.dr_dataset.specs.declared.header.Tag.{Tag}
use Rattle.dr_dataset.specs.declared.header.Vr.{Vr}
use Rattle.dr_dataset.specs.declared.header.HeaderForm.{HeaderForm}
use Rattle.dr_dataset.specs.declared.frame.OpenSequence.{OpenSequence}
use Rattle.dr_dataset.specs.declared.frame.OpenSequence.TheVariants.{InSequence, InItem}
use Rattle.dr_dataset.specs.declared.token.Token.{Token}
use Rattle.dr_dataset.specs.declared.token.Token.TheVariants.{Value, Sequence, PlainItem, Item, ItemEnd, SequenceEnd}
use Rattle.dr_dataset.specs.Elements.{item_group, undefined, inside, is_short, tag_text, StartsForm, StartsHeader, StartsMark}
use Rattle.dr_dataset.specs.DataSet.{has_tag, in_force}
use Rattle.dr_dataset.specs.Reading.{is_byte, short_of, long_of, tag_of, form_with, lettered_form_of, are_capitals, form_of}
use Rattle.dr_dataset.specs.Tokens.{sequence_token, value_token, is_long_key, element_token_by, element_token_with, element_token, end_token, open_item_token, is_full, token_with, token_of}
use Rattle.dr_dataset.proofs.TokenLemmas.{IsNext, token_sound, token_whole}

-- ---- a header is a front of the text, whatever is behind it

abbrev Splits : (List ℕ → List ℕ → Type 0) → List ℕ → List ℕ → Type 0
Splits Starts text rest = (pre : List ℕ) × (text ≡ pre ++ rest) × ((r : List ℕ) → Starts (pre ++ r) r)

form_splits : (s : Syntax) (text : List ℕ) (f : HeaderForm) (rest : List ℕ) → StartsForm s text f rest → Splits (λ x r. StartsForm s x f r) text rest
form_splits Implicit text f rest (v, h, is) = (to_le_bytes w32 f.len, is, λ r. (v, h, refl))
form_splits Explicit text f rest (v, has, capitals, inl (short, h, is)) = (v.first ∷ v.second ∷ to_le_bytes w16 f.len, is, λ r. (v, has, capitals, inl (short, h, refl)))
form_splits Explicit text f rest (v, has, capitals, inr (a, b, short, h, is)) = (v.first ∷ v.second ∷ a ∷ b ∷ to_le_bytes w32 f.len, is, λ r. (v, has, capitals, inr (a, b, short, h, refl)))

header_splits : (s : Syntax) (text : List ℕ) (t : Tag) (f : HeaderForm) (rest : List ℕ) → StartsHeader s text t f rest → Splits (λ x r. StartsHeader s x t f r) text rest
header_splits s text t f rest (behind, (g, e, is), ne, form) =
    let p = form_splits s behind f rest form in
    (tag_text t ++ p.0, is ∙ ap (λ (x : List ℕ). tag_text t ++ x) p.1, λ r. (p.0 ++ r, (g, e, refl), ne, p.2 r))

mark_splits : (element : ℕ) (text : List ℕ) (len : ℕ) (rest : List ℕ) → StartsMark element text len rest → Splits (λ x r. StartsMark element x len r) text rest
mark_splits element text len rest (behind, (g, e, is), h, len_is) =
    let t : Tag = record { group = item_group; element = element } in
    (tag_text t ++ to_le_bytes w32 len, is ∙ ap (λ (x : List ℕ). tag_text t ++ x) len_is, λ r. (to_le_bytes w32 len ++ r, (g, e, refl), h, refl))

next_splits : (s : Syntax) (fs : List OpenSequence) (text : List ℕ) (token : Token) (rest : List ℕ) → IsNext s fs text token rest → Splits (λ x r. IsNext s fs x token r) text rest
next_splits s fs text (Value t len) rest (wants, f, header, is, defined, short) = let p = header_splits (in_force s fs) text t f rest header in (p.0, p.1, λ r. (wants, f, p.2 r, is, defined, short))
next_splits s fs text (Sequence t w) rest (wants, room, (f, header, len, is)) = let p = header_splits (in_force s fs) text t f rest header in (p.0, p.1, λ r. (wants, room, (f, p.2 r, len, is)))
next_splits s fs text (PlainItem len) rest (wants, defined, m) = let p = mark_splits 0xE000 text len rest m in (p.0, p.1, λ r. (wants, defined, p.2 r))
next_splits s fs text Item rest (wants, m) = let p = mark_splits 0xE000 text undefined rest m in (p.0, p.1, λ r. (wants, p.2 r))
next_splits s fs text ItemEnd rest (is, (len, m)) = let p = mark_splits 0xE00D text len rest m in (p.0, p.1, λ r. (is, (len, p.2 r)))
next_splits s fs text (SequenceEnd t) rest (is, (len, m)) = let p = mark_splits 0xE0DD text len rest m in (p.0, p.1, λ r. (is, (len, p.2 r)))

-- a list with an element is a list and a last one
last_of : (c : ℕ) (cs : List ℕ) → (r : List ℕ) × (d : ℕ) × (c ∷ cs ≡ r ++ d ∷ [])
last_of c [] = ([], c, refl)
last_of c (e ∷ cs) = let p = last_of e cs in (c ∷ p.0, p.1, ap (λ (x : List ℕ). c ∷ x) p.2)

snoc_same : (xs ys : List ℕ) (b d : ℕ) → xs ++ b ∷ [] ≡ ys ++ d ∷ [] → xs ≡ ys
snoc_same [] [] b d e = refl
snoc_same [] (y ∷ ys) b d e = absurd (omega (arith, ap length e, length-append ys (d ∷ [])))
snoc_same (x ∷ xs) [] b d e = absurd (omega (arith, ap length e, length-append xs (b ∷ [])))
snoc_same (x ∷ xs) (y ∷ ys) b d e =
    let head : x ≡ y = cc in
    let tail : xs ++ b ∷ [] ≡ ys ++ d ∷ [] = cc in
    let same : xs ≡ ys = snoc_same xs ys b d tail in
    cc

abbrev Answer : Type 0
Answer = Result (Token × List ℕ) DataFault

ok_not_err : (p : Token × List ℕ) (f : DataFault) → ◌≡◌ {A = Answer} (Ok p) (Err f) → ⊥
ok_not_err p f e = cc

pub nothing_behind : (s : Syntax) (fs : List OpenSequence) (h : List ℕ) (b : ℕ) (token : Token) (rest : List ℕ) → token_of s fs h ≡ Err Truncated → token_of s fs (h ++ b ∷ []) ≡ Ok (token, rest) → rest ≡ []
nothing_behind s fs h b token [] cut e = refl
nothing_behind s fs h b token (c ∷ cs) cut e =
    let p = next_splits s fs (h ++ b ∷ []) token (c ∷ cs) (token_sound s fs (h ++ b ∷ []) token (c ∷ cs) e) in
    let l = last_of c cs in
    let whole : h ++ b ∷ [] ≡ (p.0 ++ l.0) ++ l.1 ∷ [] = p.1 ∙ ap (λ (x : List ℕ). p.0 ++ x) l.2 ∙ sym (append_assoc p.0 l.0 (l.1 ∷ [])) in
    let front : h ≡ p.0 ++ l.0 = snoc_same h (p.0 ++ l.0) b l.1 whole in
    let sooner : token_of s fs h ≡ Ok (token, l.0) = ap (token_of s fs) front ∙ token_whole s fs (p.0 ++ l.0) token l.0 (p.2 l.0) in
    absurd (ok_not_err (token, l.0) Truncated (sym sooner ∙ cut))

-- a header that is read, alone
pub header_alone : (s : Syntax) (fs : List OpenSequence) (text : List ℕ) (token : Token) (rest : List ℕ) → token_of s fs text ≡ Ok (token, rest) → (pre : List ℕ) × (text ≡ pre ++ rest) × (token_of s fs pre ≡ Ok (token, []))
header_alone s fs text token rest e =
    let p = next_splits s fs text token rest (token_sound s fs text token rest e) in
    (p.0, p.1, ap (token_of s fs) (sym (append-nil p.0)) ∙ token_whole s fs (p.0 ++ []) token [] (p.2 []))

-- ---- twelve bytes hold each header

abbrev pub AreBytes : List ℕ → Type 0
AreBytes text = (i : ℕ) → get_or text i 0 < 256

later_bytes : (a : ℕ) (text : List ℕ) → AreBytes (a ∷ text) → AreBytes text
later_bytes a text h = λ i. h (suc i)

byte_is : (a : ℕ) → a < 256 → is_byte a ≡ true
byte_is a h = lt-ltb a 256 h

short_stands : (text : List ℕ) → 2 ≤ length text → AreBytes text → (p : ℕ × List ℕ) × (short_of text ≡ Some p)
short_stands [] len h = absurd (omega arith)
short_stands (a ∷ []) len h = absurd (omega arith)
short_stands (a ∷ b ∷ rest) len h =
    ((from_le_bytes w16 (a ∷ b ∷ []), rest), ap (λ (x : Bool). cond x (Some (from_le_bytes w16 (a ∷ b ∷ []), rest)) None) (and_from (is_byte a) (is_byte b) (byte_is a (h 0)) (byte_is b (h 1))))

four : (a b c d : ℕ) (rest : List ℕ) → AreBytes (a ∷ b ∷ c ∷ d ∷ rest) → (is_byte a && is_byte b) && (is_byte c && is_byte d) ≡ true
four a b c d rest h =
    and_from (is_byte a && is_byte b) (is_byte c && is_byte d) (and_from (is_byte a) (is_byte b) (byte_is a (h 0)) (byte_is b (h 1))) (and_from (is_byte c) (is_byte d) (byte_is c (h 2)) (byte_is d (h 3)))

long_stands : (text : List ℕ) → 4 ≤ length text → AreBytes text → (p : ℕ × List ℕ) × (long_of text ≡ Some p)
long_stands [] len h = absurd (omega arith)
long_stands (a ∷ []) len h = absurd (omega arith)
long_stands (a ∷ b ∷ []) len h = absurd (omega arith)
long_stands (a ∷ b ∷ c ∷ []) len h = absurd (omega arith)
long_stands (a ∷ b ∷ c ∷ d ∷ rest) len h =
    let p : ℕ × List ℕ = (from_le_bytes w32 (a ∷ b ∷ c ∷ d ∷ []), rest) in (p, ap (λ (x : Bool). cond x (Some p) None) (four a b c d rest h))

abbrev FormAnswer : Type 0
FormAnswer = Result (HeaderForm × List ℕ) DataFault

with_stands : (v : Option Vr) (o : Option (ℕ × List ℕ)) → ((p : ℕ × List ℕ) × (o ≡ Some p)) → form_with v o ≢ Err Truncated
with_stands v None p e = absurd (cc p.1)
with_stands v (Some q) p e = cc e

lettered_stands : (capitals short : Bool) (v : Vr) (text : List ℕ) → 6 ≤ length text → AreBytes text → lettered_form_of capitals short v text ≢ Err Truncated
lettered_stands false short v text len h e = cc e
lettered_stands true true v text len h e = with_stands (Some v) (short_of text) (short_stands text (omega (arith, len)) h) e
lettered_stands true false v [] len h e = absurd (omega arith)
lettered_stands true false v (r ∷ []) len h e = absurd (omega arith)
lettered_stands true false v (r ∷ s ∷ text) len h e =
    with_stands (Some v) (long_of text) (long_stands text (omega (arith, len)) (later_bytes s text (later_bytes r (s ∷ text) h))) e

form_stands : (s : Syntax) (text : List ℕ) → 8 ≤ length text → AreBytes text → form_of s text ≢ Err Truncated
form_stands Implicit text len h e = with_stands None (long_of text) (long_stands text (omega (arith, len)) h) e
form_stands Explicit [] len h e = absurd (omega arith)
form_stands Explicit (a ∷ []) len h e = absurd (omega arith)
form_stands Explicit (a ∷ b ∷ text) len h e =
    let v : Vr = record { first = a; second = b } in
    lettered_stands (are_capitals v) (is_short v) v text (omega (arith, len)) (later_bytes b text (later_bytes a (b ∷ text) h)) e

sequence_whole : (full : Bool) (t : Tag) (rest : List ℕ) (w : Option Syntax) → sequence_token full t rest w ≢ Err Truncated
sequence_whole full t rest None e = cc e
sequence_whole true t rest (Some w) e = cc e
sequence_whole false t rest (Some w) e = cc e

value_whole : (o : Bool) (t : Tag) (len : ℕ) (rest : List ℕ) → value_token o t len rest ≢ Err Truncated
value_whole true t len rest e = cc e
value_whole false t len rest e = cc e

by_whole : (u : Bool) (s : Syntax) (top full : Bool) (t : Tag) (f : HeaderForm) (rest : List ℕ) → element_token_by u s top full t f rest ≢ Err Truncated
by_whole true s top full t f rest e = sequence_whole full t rest (inside s f.vr) e
by_whole false s top full t f rest e = value_whole (is_long_key top t f.len) t f.len rest e

with_whole : (s : Syntax) (top full : Bool) (t : Tag) (o : FormAnswer) → o ≢ Err Truncated → element_token_with s top full t o ≢ Err Truncated
with_whole s top full t (Err f) ne e = let same : f ≡ Truncated = cc in ne (ap (λ (x : DataFault). Err x) same)
with_whole s top full t (Ok p) ne e = by_whole (eqb p.0.len undefined) s top full t p.0 p.1 e

element_by : (o : Bool) (a : Answer) → a ≢ Err Truncated → cond o (Err BadLength) a ≢ Err Truncated
element_by true a ne e = cc e
element_by false a ne e = ne e

element_stands : (s : Syntax) (top full : Bool) (t : Tag) (text : List ℕ) → 8 ≤ length text → AreBytes text → element_token s top full t text ≢ Err Truncated
element_stands s top full t text len h = element_by (eqb t.group item_group) (element_token_with s top full t (form_of s text)) (with_whole s top full t (form_of s text) (form_stands s text len h))

end_stands : (end : Token) (o : Option (ℕ × List ℕ)) → ((p : ℕ × List ℕ) × (o ≡ Some p)) → end_token end o ≢ Err Truncated
end_stands end None p e = absurd (cc p.1)
end_stands end (Some q) p e = cc e

open_item_by : (u : Bool) (q : ℕ × List ℕ) → ◌≢◌ {A = Answer} (cond u (Ok (Item, q.1)) (Ok (PlainItem q.0, q.1))) (Err Truncated)
open_item_by true q e = cc e
open_item_by false q e = cc e

open_item_stands : (o : Option (ℕ × List ℕ)) → ((p : ℕ × List ℕ) × (o ≡ Some p)) → open_item_token o ≢ Err Truncated
open_item_stands None p e = absurd (cc p.1)
open_item_stands (Some q) p e = open_item_by (eqb q.0 undefined) q e

if_stands : (o : Bool) (a b : Answer) → a ≢ Err Truncated → b ≢ Err Truncated → cond o a b ≢ Err Truncated
if_stands true a b p q e = p e
if_stands false a b p q e = q e

length_not_cut : ◌≢◌ {A = Answer} (Err BadLength) (Err Truncated)
length_not_cut e = cc e

tag_stands : (s : Syntax) (fs : List OpenSequence) (t : Tag) (text : List ℕ) → 8 ≤ length text → AreBytes text → token_with s fs (Some (t, text)) ≢ Err Truncated
tag_stands s [] t text len h = element_stands s true (is_full []) t text len h
tag_stands s (InItem w ∷ fs) t text len h =
    let l = long_stands text (omega (arith, len)) h in
    if_stands (has_tag item_group 0xE00D t) (end_token ItemEnd (long_of text)) (element_token w false (is_full (InItem w ∷ fs)) t text) (end_stands ItemEnd (long_of text) l) (element_stands w false (is_full (InItem w ∷ fs)) t text len h)
tag_stands s (InSequence u w ∷ fs) t text len h =
    let l = long_stands text (omega (arith, len)) h in
    if_stands (has_tag item_group 0xE000 t) (open_item_token (long_of text)) (cond (has_tag item_group 0xE0DD t) (end_token (SequenceEnd u) (long_of text)) (Err BadLength)) (open_item_stands (long_of text) l)
    (if_stands (has_tag item_group 0xE0DD t) (end_token (SequenceEnd u) (long_of text)) (Err BadLength) (end_stands (SequenceEnd u) (long_of text) l) length_not_cut)

pub twelve_hold : (s : Syntax) (fs : List OpenSequence) (text : List ℕ) → 12 ≤ length text → AreBytes text → token_of s fs text ≢ Err Truncated
twelve_hold s fs [] len h e = absurd (omega arith)
twelve_hold s fs (a ∷ []) len h e = absurd (omega arith)
twelve_hold s fs (a ∷ b ∷ []) len h e = absurd (omega arith)
twelve_hold s fs (a ∷ b ∷ c ∷ []) len h e = absurd (omega arith)
twelve_hold s fs (a ∷ b ∷ c ∷ d ∷ rest) len h e =
    let t : Tag = record { group = from_le_bytes w16 (a ∷ b ∷ []); element = from_le_bytes w16 (c ∷ d ∷ []) } in
    let is : tag_of (a ∷ b ∷ c ∷ d ∷ rest) ≡ Some (t, rest) = ap (λ (x : Bool). cond x (Some (t, rest)) None) (four a b c d rest h) in
    let bytes : AreBytes rest = later_bytes d rest (later_bytes c (d ∷ rest) (later_bytes b (c ∷ d ∷ rest) (later_bytes a (b ∷ c ∷ d ∷ rest) h))) in
    tag_stands s fs t rest (omega (arith, len)) bytes (ap (token_with s fs) (sym is) ∙ e)
