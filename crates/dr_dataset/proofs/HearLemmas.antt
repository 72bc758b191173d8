-- Each step of a scan that hears a data set keeps what it knows of the bytes so far.
use Rattle.std.proofs.Common.{◌≡◌, ◌≢◌, ℕ, zero, suc, ◌+◌, ◌-◌, ◌<◌, ◌≤◌, Bool, true, false, cond, ◌||◌, List, [], ◌∷◌, ◌++◌, length, get_or, take, drop, refl, sym, ap, subst, ◌∙◌, arith, inl, inr, Option, Some, None, Result, Ok, Err, ◌⊎◌, append_assoc}
use Rattle.std.specs.Prelude.{unwrap_or}
use Rattle.std.specs.List.{flat_map}
use Rattle.std.specs.Option.{option_copied, option_or}
use Rattle.std.proofs.lemmas.List.{length-append, append-nil, take_rest}
use Rattle.std.proofs.lemmas.Bool.{or_parts}
use Rattle.arrayvec.specs.ArrayVec.{ArrayVec}
use Rattle.dr_base.specs.declared.syntax.Syntax.{Syntax}
use Rattle.dr_dataset.specs.declared.fault.DataFault.{DataFault}
use Rattle.dr_dataset.specs.declared.fault.DataFault.TheVariants.{Truncated, BadVr, BadLength, TooDeep, Memory}
use Rattle.dr_dataset.specs.declared.header.Tag.{Tag}
use Rattle.dr_dataset.specs.declared.frame.OpenSequence.{OpenSequence}
use Rattle.dr_dataset.specs.declared.token.Token.{Token}
use Rattle.dr_dataset.specs.declared.token.Token.TheVariants.{Value, Sequence, Item, ItemEnd, SequenceEnd}
use Rattle.dr_dataset.specs.declared.values.Attributes.{Attributes}
use Rattle.dr_dataset.specs.declared.whole.Whole.{Whole}
use Rattle.dr_dataset.specs.declared.caught.Caught.{Caught}
use Rattle.dr_dataset.specs.declared.scanner.Scanner.{Scanner}
use Rattle.dr_dataset.specs.declared.hearing.Scan.{Scan}
use Rattle.dr_dataset.specs.declared.hearing.ScanPlace.{ScanPlace}
use Rattle.dr_dataset.specs.declared.hearing.ScanPlace.TheVariants.{InHeader, InValue, Failed}
use Rattle.dr_dataset.specs.Elements.{Element}
use Rattle.dr_dataset.specs.DataSet.{has_tag, is_key, first_value, Opens, FirstFault, Scans, IsDataSet}
use Rattle.dr_base.specs.Padding.{trimmed}
use Rattle.dr_dataset.specs.Tokens.{token_of, open_behind, is_nested}
use Rattle.dr_dataset.specs.Wholes.{whole, elements_of}
use Rattle.dr_dataset.specs.Hearing.{bytes_of_slot, AreCaught, IsShort, IsShortKey, value_header, is_kept, AreBytes, HearsAt, Hears, HearsAlike, HasFailed, Finishes, HearsMore, GoesOnBy, Begun, AreSlots}
use Rattle.dr_dataset.proofs.FoundLemmas.{first_value_more, found_more}
use Rattle.dr_dataset.proofs.TokenLemmas.{token_sound, token_tells}
use Rattle.dr_dataset.proofs.OpensLemmas.{Has, shows, cut_shows, after_value, after_plain_item}
use Rattle.dr_dataset.proofs.AdvanceLemmas.{Grows, opening_grows, open_item_grows, item_end_grows, sequence_end_grows}
use Rattle.dr_dataset.proofs.OneAnswerLemmas.{one_first_fault, data_set_or_fault}
use Rattle.dr_dataset.proofs.LongerLemmas.{opens_longer, token_longer, fault_stays}
use Rattle.dr_dataset.proofs.CutLemmas.{nothing_behind, twelve_hold, header_alone}

ok_not_cut : {p : Token × List ℕ} → ◌≡◌ {A = Result (Token × List ℕ) DataFault} (Ok p) (Err Truncated) → ⊥
ok_not_cut e = cc

-- ---- values that are caught

-- of an element that is none of the four the value makes no difference
other_tag : (group element : ℕ) (es : List Element) (t : Tag) (v w : Option (List ℕ)) → has_tag group element t ≡ false → first_value group element (es ++ record { tag = t; value = v } ∷ []) ≡ first_value group element (es ++ record { tag = t; value = w } ∷ [])
other_tag group element es t v w other =
    first_value_more group element es (record { tag = t; value = v })
    ∙ ap (λ (b : Bool). option_or (first_value group element es) (cond b (Some (unwrap_or v [])) None)) other
    ∙ ap (λ (b : Bool). option_or (first_value group element es) (cond b (Some (unwrap_or w [])) None)) (sym other)
    ∙ sym (first_value_more group element es (record { tag = t; value = w }))

other_value : (c : Caught) (es : List Element) (t : Tag) (v w : Option (List ℕ)) → is_key t ≡ false → AreCaught c (es ++ record { tag = t; value = v } ∷ []) → AreCaught c (es ++ record { tag = t; value = w } ∷ [])
other_value c es t v w other a =
    let p = or_parts ((has_tag 0x0008 0x0016 t || has_tag 0x0008 0x0018 t) || has_tag 0x0008 0x0060 t) (has_tag 0x0008 0x1010 t) other in
    let q = or_parts (has_tag 0x0008 0x0016 t || has_tag 0x0008 0x0018 t) (has_tag 0x0008 0x0060 t) p.0 in
    let r = or_parts (has_tag 0x0008 0x0016 t) (has_tag 0x0008 0x0018 t) q.0 in
    (a.0 ∙ other_tag 0x0008 0x0016 es t v w r.0, a.1 ∙ other_tag 0x0008 0x0018 es t v w r.1, a.2 ∙ other_tag 0x0008 0x0060 es t v w q.1, a.3 ∙ other_tag 0x0008 0x1010 es t v w p.1)

pub note_one_keeps : (c d : Caught) (t : Tag) (bytes : List ℕ) (b0 b1 b2 b3 : Bool) → b0 ≡ has_tag 0x0008 0x0016 t → b1 ≡ has_tag 0x0008 0x0018 t → b2 ≡ has_tag 0x0008 0x0060 t → b3 ≡ has_tag 0x0008 0x1010 t
    → ((b0 ≡ true → length bytes ≤ 1024) → bytes_of_slot d.class ≡ option_or (bytes_of_slot c.class) (cond b0 (Some bytes) None))
    → ((b1 ≡ true → length bytes ≤ 1024) → bytes_of_slot d.instance ≡ option_or (bytes_of_slot c.instance) (cond b1 (Some bytes) None))
    → ((b2 ≡ true → length bytes ≤ 1024) → bytes_of_slot d.modality ≡ option_or (bytes_of_slot c.modality) (cond b2 (Some bytes) None))
    → ((b3 ≡ true → length bytes ≤ 1024) → bytes_of_slot d.station ≡ option_or (bytes_of_slot c.station) (cond b3 (Some bytes) None))
    → (es : List Element) (e : Element) → e.tag ≡ t → unwrap_or e.value [] ≡ bytes → (is_key t ≡ true → length bytes ≤ 1024) → AreCaught c es → AreCaught d (es ++ e ∷ [])
note_one_keeps c d t bytes b0 b1 b2 b3 i0 i1 i2 i3 k0 k1 k2 k3 es e tag value short a =
    let is0 : b0 ≡ true → is_key t ≡ true = λ h. first0 (has_tag 0x0008 0x0016 t) (has_tag 0x0008 0x0018 t) (has_tag 0x0008 0x0060 t) (has_tag 0x0008 0x1010 t) (sym i0 ∙ h) in
    let is1 : b1 ≡ true → is_key t ≡ true = λ h. first1 (has_tag 0x0008 0x0016 t) (has_tag 0x0008 0x0018 t) (has_tag 0x0008 0x0060 t) (has_tag 0x0008 0x1010 t) (sym i1 ∙ h) in
    let is2 : b2 ≡ true → is_key t ≡ true = λ h. first2 (has_tag 0x0008 0x0016 t) (has_tag 0x0008 0x0018 t) (has_tag 0x0008 0x0060 t) (has_tag 0x0008 0x1010 t) (sym i2 ∙ h) in
    let is3 : b3 ≡ true → is_key t ≡ true = λ h. first3 (has_tag 0x0008 0x0016 t) (has_tag 0x0008 0x0018 t) (has_tag 0x0008 0x0060 t) (has_tag 0x0008 0x1010 t) (sym i3 ∙ h) in (
      found_more 0x0008 0x0016 es e (bytes_of_slot c.class) (bytes_of_slot d.class) b0 bytes a.0 (i0 ∙ ap (has_tag 0x0008 0x0016) (sym tag)) (sym value) (k0 (λ h. short (is0 h))),
      found_more 0x0008 0x0018 es e (bytes_of_slot c.instance) (bytes_of_slot d.instance) b1 bytes a.1 (i1 ∙ ap (has_tag 0x0008 0x0018) (sym tag)) (sym value) (k1 (λ h. short (is1 h))),
      found_more 0x0008 0x0060 es e (bytes_of_slot c.modality) (bytes_of_slot d.modality) b2 bytes a.2 (i2 ∙ ap (has_tag 0x0008 0x0060) (sym tag)) (sym value) (k2 (λ h. short (is2 h))),
      found_more 0x0008 0x1010 es e (bytes_of_slot c.station) (bytes_of_slot d.station) b3 bytes a.3 (i3 ∙ ap (has_tag 0x0008 0x1010) (sym tag)) (sym value) (k3 (λ h. short (is3 h))),
    )
  where
    first0 : (a b c d : Bool) → a ≡ true → ((a || b) || c) || d ≡ true
    first0 true b c d e = refl
    first0 false b c d e = absurd (cc)

    first1 : (a b c d : Bool) → b ≡ true → ((a || b) || c) || d ≡ true
    first1 true b c d e = refl
    first1 false true c d e = refl
    first1 false false c d e = absurd (cc)

    first2 : (a b c d : Bool) → c ≡ true → ((a || b) || c) || d ≡ true
    first2 true b c d e = refl
    first2 false true c d e = refl
    first2 false false true d e = refl
    first2 false false false d e = absurd (cc)

    first3 : (a b c d : Bool) → d ≡ true → ((a || b) || c) || d ≡ true
    first3 true b c d e = refl
    first3 false true c d e = refl
    first3 false false true d e = refl
    first3 false false false true e = refl
    first3 false false false false e = absurd (cc)

pub short_whole : (w : Option Whole) (fs : List OpenSequence) (t : Tag) (v : Option (List ℕ)) → elements_of w ≡ whole fs t v → IsShort v → IsShortKey w
short_whole None fs t v e h = tt
short_whole (Some w) (f ∷ fs) t v e h = absurd (cc)
short_whole (Some w) [] t v e h =
    let same : ◌≡◌ {A = Element} (record { tag = w.tag; value = option_copied w.value }) (record { tag = t; value = v }) = cc in
    λ _. subst IsShort (sym (ap (λ (x : Element). x.value) same)) h

-- ---- places

at_place : (s : Syntax) (text : List ℕ) (scan : Scan) (p : ScanPlace) → scan.place ≡ p → Hears s text scan → HearsAt s text scan p
at_place s text scan p is h = subst (λ (x : ScanPlace). HearsAt s text scan x) is h.1

nothing_yet : (s : Syntax) (fs : List OpenSequence) → token_of s fs [] ≡ Err Truncated
nothing_yet s fs = refl

no_bytes : AreBytes []
no_bytes = λ i. omega arith

in_header : (s : Syntax) (text : List ℕ) (scan : Scan) (es : List Element) → Opens s scan.scanner.stack text es [] → AreCaught scan.found es → scan.header.items ≡ [] → HearsAt s text scan InHeader
in_header s text scan es o a none =
    (es, subst (λ (x : List ℕ). Opens s scan.scanner.stack text es x) (sym none) o, a, ap (token_of s scan.scanner.stack) none ∙ nothing_yet s scan.scanner.stack, subst AreBytes (sym none) no_bytes)

ends_value : (len missing : ℕ) (got : List ℕ) → len ≡ length got + missing → missing ≤ 0 → (take len got ≡ got) × (drop len got ≡ []) × (len ≤ length got)
ends_value len missing got e z =
    let same : len ≡ length got = omega (arith, e, z) in
    (ap (λ (n : ℕ). take n got) same ∙ take_all got, ap (λ (n : ℕ). drop n got) same ∙ drop_all got, omega (arith, same))
  where
    take_all : (xs : List ℕ) → take (length xs) xs ≡ xs
    take_all [] = refl
    take_all (x ∷ xs) = ap (λ (y : List ℕ). x ∷ y) (take_all xs)

    drop_all : (xs : List ℕ) → drop (length xs) xs ≡ []
    drop_all [] = refl
    drop_all (x ∷ xs) = drop_all xs

-- ---- the end of a value

pub settles_item : (scan : Scan) (missing : ℕ) → scan.place ≡ InValue None missing → missing ≤ 0 → (s : Syntax) (text : List ℕ) → Hears s text scan → Hears s text (record scan { place = InHeader })
settles_item scan missing is z s text h =
    let (es, token, got, o, a, e, kept, none) = at_place s text scan (InValue None missing) is h in
    let len = length got + missing in
    let ends = ends_value len missing got refl z in
    let on = after_plain_item s scan.scanner.stack text token es len got e ends.2 o in
    (h.0, in_header s text (record scan { place = InHeader }) es (subst (λ (x : List ℕ). Opens s scan.scanner.stack text es x) ends.1 on) a none)

-- an element whose bytes were kept, or one that is none of the four, or that isn't at the top
caught_on : (c : Caught) (es : List Element) (fs : List OpenSequence) (t : Tag) (items got : List ℕ) → (is_kept fs (Some t) ≡ true → items ≡ got) → AreCaught c (es ++ whole fs t (Some items)) → AreCaught c (es ++ whole fs t (Some got))
caught_on c es (f ∷ fs) t items got kept a = a
caught_on c es [] t items got kept a = by_key (is_key t) refl
  where
    by_key : (b : Bool) → is_key t ≡ b → AreCaught c (es ++ record { tag = t; value = Some got } ∷ [])
    by_key true e = subst (λ (x : List ℕ). AreCaught c (es ++ record { tag = t; value = Some x } ∷ [])) (kept e) a
    by_key false e = other_value c es t (Some items) (Some got) e a

pub settles_element : (scan : Scan) (t : Tag) (missing : ℕ) (w : Option Whole) (found : Caught) → scan.place ≡ InValue (Some t) missing → missing ≤ 0 → elements_of w ≡ whole scan.scanner.stack t (Some scan.value.items) → length scan.value.items ≤ 1024
    → ((es : List Element) → IsShortKey w → AreCaught scan.found es → AreCaught found (es ++ elements_of w)) → (s : Syntax) (text : List ℕ) → Hears s text scan → Hears s text (record scan { found = found; place = InHeader })
settles_element scan t missing w found is z elements fits note s text h =
    let (es, token, got, o, a, e, kept, none) = at_place s text scan (InValue (Some t) missing) is h in
    let fs = scan.scanner.stack in
    let len = length got + missing in
    let ends = ends_value len missing got refl z in
    let on = after_value s fs text token es t len got e ends.2 o in
    let opens : Opens s fs text (es ++ whole fs t (Some got)) [] =
    subst (λ (x : List ℕ). Opens s fs text (es ++ whole fs t (Some got)) x) ends.1 (subst (λ (x : List ℕ). Opens s fs text (es ++ whole fs t (Some x)) (drop len got)) ends.0 on) in
    let noted : AreCaught found (es ++ whole fs t (Some scan.value.items)) =
    subst (λ (x : List Element). AreCaught found (es ++ x)) elements (note es (short_whole w fs t (Some scan.value.items) elements fits) a) in
    (h.0, in_header s text (record scan { found = found; place = InHeader }) (es ++ whole fs t (Some got)) opens (caught_on found es fs t scan.value.items got kept noted) none)

-- ---- bytes of a value

kept_short : (s : Syntax) (fs : List OpenSequence) (t : Option Tag) (len : ℕ) (token got : List ℕ) → is_kept fs t ≡ true → token_of s fs token ≡ Ok (value_header t len, got) → len ≤ 1024
kept_short s [] (Some t) len token got kept e = let next = token_sound s [] token (Value t len) got e in next.5 refl kept
kept_short s [] None len token got kept e = absurd (cc)
kept_short s (f ∷ fs) t len token got kept e = absurd (cc)

pub takes_value : (scan : Scan) (t : Option Tag) (missing count : ℕ) (bytes : List ℕ) (value : ArrayVec ℕ) (b : Bool) → b ≡ is_kept scan.scanner.stack t → count ≤ missing → length bytes ≡ count
    → (b ≡ true → length scan.value.items + length bytes ≤ 1024 → value.items ≡ scan.value.items ++ bytes)
    → scan.place ≡ InValue t missing → (s : Syntax) (text : List ℕ) → Hears s text scan → Hears s (text ++ bytes) (record scan { value = value; place = InValue t (missing - count) })
takes_value scan t missing count bytes value b is fits len more place s text h =
    let (es, token, got, o, a, e, kept, none) = at_place s text scan (InValue t missing) place h in
    let fs = scan.scanner.stack in
    let whole_len : length got + missing ≡ length (got ++ bytes) + (missing - count) = omega (arith, length-append got bytes, len, fits) in
    let longer = token_longer s fs token (value_header t (length got + missing)) got bytes e in
    let header : token_of s fs (token ++ bytes) ≡ Ok (value_header t (length (got ++ bytes) + (missing - count)), got ++ bytes) =
    longer ∙ ap (λ (n : ℕ). Ok (value_header t n, got ++ bytes)) whole_len in
    let same : is_kept fs t ≡ true → value.items ≡ got ++ bytes =
    λ k. let short = kept_short s fs t (length got + missing) token got k e in
    more (is ∙ k) (omega (arith, ap length (kept k), len, fits, short)) ∙ ap (λ (x : List ℕ). x ++ bytes) (kept k) in
    (h.0, (es, token ++ bytes, got ++ bytes, opens_longer s fs text es token bytes o, a, header, same, none))

-- ---- bytes of a header

byte_more : (items : List ℕ) (b : ℕ) → b < 256 → AreBytes items → AreBytes (items ++ b ∷ [])
byte_more [] b h a zero = h
byte_more [] b h a (suc i) = omega arith
byte_more (x ∷ xs) b h a zero = a 0
byte_more (x ∷ xs) b h a (suc i) = byte_more xs b h (λ j. a (suc j)) i

pub never_full : (scan : Scan) (s : Syntax) (text : List ℕ) → Hears s text scan → scan.place ≡ InHeader → length scan.header.items ≡ 12 → ⊥
never_full scan s text h is full =
    let (es, o, a, e, bytes) = at_place s text scan InHeader is h in
    twelve_hold s scan.scanner.stack scan.header.items (omega (arith, full)) bytes e

pub waits : (scan : Scan) (scanner : Scanner) (header : ArrayVec ℕ) (b : ℕ) → b < 256 → header.items ≡ scan.header.items ++ b ∷ [] → scanner.syntax ≡ scan.scanner.syntax → scanner.stack ≡ scan.scanner.stack
    → token_of scan.scanner.syntax scan.scanner.stack header.items ≡ Err Truncated
    → scan.place ≡ InHeader → (s : Syntax) (text : List ℕ) → Hears s text scan → Hears s (text ++ b ∷ []) (record scan { scanner = scanner; header = header })
waits scan scanner header b byte items syntax stack cut is s text h =
    let (es, o, a, e, bytes) = at_place s text scan InHeader is h in
    let new = record scan { scanner = scanner; header = header } in
    let longer : Opens s scanner.stack (text ++ b ∷ []) es header.items =
    subst (λ (x : List ℕ). Opens s scanner.stack (text ++ b ∷ []) es x) (sym items) (subst (λ (x : List OpenSequence). Opens s x (text ++ b ∷ []) es (scan.header.items ++ b ∷ [])) (sym stack) (opens_longer s scan.scanner.stack text es scan.header.items (b ∷ []) o)) in
    let still : token_of s scanner.stack header.items ≡ Err Truncated =
    ap (λ (x : List OpenSequence). token_of s x header.items) stack ∙ ap (λ (x : Syntax). token_of x scan.scanner.stack header.items) (sym h.0) ∙ cut in
    let here : HearsAt s (text ++ b ∷ []) new InHeader = (es, longer, a, still, subst AreBytes (sym items) (byte_more scan.header.items b byte bytes)) in
    (syntax ∙ h.0, subst (λ (x : ScanPlace). HearsAt s (text ++ b ∷ []) new x) (sym is) here)

some_text : (xs : List ℕ) (b : ℕ) → xs ++ b ∷ [] ≢ []
some_text [] b e = cc e
some_text (x ∷ xs) b e = cc e

pub faults : (scan : Scan) (scanner : Scanner) (header : ArrayVec ℕ) (b : ℕ) (f : DataFault) → header.items ≡ scan.header.items ++ b ∷ [] → scanner.syntax ≡ scan.scanner.syntax → f ≢ Truncated
    → token_of scan.scanner.syntax scan.scanner.stack header.items ≡ Err f
    → scan.place ≡ InHeader → (s : Syntax) (text : List ℕ) → Hears s text scan → Hears s (text ++ b ∷ []) (record scan { scanner = scanner; header = header; place = Failed f })
faults scan scanner header b f items syntax ne fault is s text h =
    let (es, o, a, e, bytes) = at_place s text scan InHeader is h in
    let fs = scan.scanner.stack in
    let answer : token_of s fs header.items ≡ Err f = ap (λ (x : Syntax). token_of x fs header.items) (sym h.0) ∙ fault in
    let longer : Opens s fs (text ++ b ∷ []) es header.items = subst (λ (x : List ℕ). Opens s fs (text ++ b ∷ []) es x) (sym items) (opens_longer s fs text es scan.header.items (b ∷ []) o) in
    let some : header.items ≢ [] = λ none. some_text scan.header.items b (sym items ∙ none) in
    (syntax ∙ h.0, (ne, (λ m. token_tells s fs header.items Memory (answer ∙ ap (λ (x : DataFault). Err x) m)), (fs, es, header.items, longer, shows s fs header.items f (λ none. absurd (some none)) answer)))

pub begins : (scan : Scan) (scanner : Scanner) (header : ArrayVec ℕ) (b : ℕ) (token : Token) (rest : List ℕ) (cleared : ArrayVec ℕ) → header.items ≡ scan.header.items ++ b ∷ [] → scanner.syntax ≡ scan.scanner.syntax
    → token_of scan.scanner.syntax scan.scanner.stack header.items ≡ Ok (token, rest) → scanner.stack ≡ open_behind scan.scanner.syntax token scan.scanner.stack → is_nested scan.scanner.stack ≡ true → cleared.items ≡ []
    → scan.place ≡ InHeader → (s : Syntax) (text : List ℕ) → Hears s text scan → Begun s (text ++ b ∷ []) token (record scan { scanner = scanner; header = cleared })
begins scan scanner header b token rest cleared items syntax read stack nested none is s text h =
    let (es, o, a, e, bytes) = at_place s text scan InHeader is h in
    let fs = scan.scanner.stack in
    let answer : token_of s fs (scan.header.items ++ b ∷ []) ≡ Ok (token, rest) =
    ap (token_of s fs) (sym items) ∙ ap (λ (x : Syntax). token_of x fs header.items) (sym h.0) ∙ read in
    let nothing : rest ≡ [] = nothing_behind s fs scan.header.items b token rest e answer in
    (syntax ∙ h.0, is, none, (fs, es, scan.header.items ++ b ∷ [], opens_longer s fs text es scan.header.items (b ∷ []) o, a, answer ∙ ap (λ (x : List ℕ). Ok (token, x)) nothing, stack ∙ ap (λ (x : Syntax). open_behind x token fs) h.0, nested))

-- ---- behind a header

pub awaits : (scan : Scan) (t : Option Tag) (len : ℕ) (token : Token) → token ≡ value_header t len → (s : Syntax) (text : List ℕ) → Begun s text token scan → Hears s text (record scan { place = InValue t len; value = record { items = [] } })
awaits scan t len token is s text (syntax, place, none, (before, es, header, o, a, e, stack, nested)) =
    let new = record scan { place = InValue t len; value = record { items = [] } } in
    let same : scan.scanner.stack ≡ before = stack ∙ ap (λ (x : Token). open_behind s x before) is ∙ unmoved t in
    let sum : len ≡ length {A = ℕ} [] + len = omega arith in
    let here : token_of s scan.scanner.stack header ≡ Ok (value_header t (length {A = ℕ} [] + len), []) =
    ap (λ (x : List OpenSequence). token_of s x header) same ∙ e ∙ ap (λ (x : Token). Ok (x, [])) is ∙ ap (λ (n : ℕ). Ok (value_header t n, [])) sum in
    (syntax, (es, header, [], subst (λ (x : List OpenSequence). Opens s x text es header) (sym same) o, a, here, (λ _. refl), none))
  where
    unmoved : (t : Option Tag) → open_behind s (value_header t len) before ≡ before
    unmoved None = refl
    unmoved (Some t) = refl

goes_on_by : (scan : Scan) (s : Syntax) (text : List ℕ) (found : Caught) (before : List OpenSequence) (header : List ℕ) (es more : List Element) → scan.scanner.syntax ≡ s → scan.place ≡ InHeader → scan.header.items ≡ [] → Opens s before text es header
    → Grows s before header scan.scanner.stack more [] → AreCaught found (es ++ more) → Hears s text (record scan { found = found })
goes_on_by scan s text found before header es more syntax place none o grows a =
    let new = record scan { found = found } in
    (syntax, subst (λ (x : ScanPlace). HearsAt s text new x) (sym place) (in_header s text new (es ++ more) (grows text es o) a none))

pub opens_on : (scan : Scan) (token : Token) → (((t : Tag) × (w : Syntax) × (token ≡ Sequence t w)) ⊎ ((token ≡ Item) ⊎ (token ≡ ItemEnd))) → (s : Syntax) (text : List ℕ) → Begun s text token scan → Hears s text scan
opens_on scan token which s text (syntax, place, none, (before, es, header, o, a, e, stack, nested)) =
    let caught : AreCaught scan.found (es ++ []) = subst (AreCaught scan.found) (sym (append-nil es)) a in
    let grows : Grows s before header scan.scanner.stack [] [] = elim which [
      | inl p ↦ opening_grows s before header token [] p.0 p.1 scan.scanner.stack nested e p.2 stack
      | inr q ↦ elim q [
        | inl p ↦ open_item_grows s before header token [] scan.scanner.stack e p stack
        | inr p ↦ item_end_grows s before header token [] scan.scanner.stack e p stack
      ]
    ] in
    goes_on_by scan s text scan.found before header es [] syntax place none o grows caught

pub ends_sequence : (scan : Scan) (token : Token) (t : Tag) (w : Option Whole) (found : Caught) → token ≡ SequenceEnd t → elements_of w ≡ whole scan.scanner.stack t None
    → ((es : List Element) → IsShortKey w → AreCaught scan.found es → AreCaught found (es ++ elements_of w)) → (s : Syntax) (text : List ℕ) → Begun s text token scan → Hears s text (record scan { found = found })
ends_sequence scan token t w found is elements note s text (syntax, place, none, (before, es, header, o, a, e, stack, nested)) =
    goes_on_by scan s text found before header es (elements_of w) syntax place none o
    (sequence_end_grows s before header token [] t scan.scanner.stack (elements_of w) e is stack elements) (note es (short_whole w scan.scanner.stack t None elements tt) a)

-- ---- the end of the text

pub stays_failed : (scan : Scan) (f : DataFault) (more : List ℕ) → scan.place ≡ Failed f → (s : Syntax) (text : List ℕ) → Hears s text scan → Hears s (text ++ more) scan
stays_failed scan f more is s text h =
    let (cut, memory, fault) = at_place s text scan (Failed f) is h in
    (h.0, subst (λ (x : ScanPlace). HearsAt s (text ++ more) scan x) (sym is) (cut, memory, fault_stays s text more f cut memory fault))

pub failed : (scan : Scan) (f : DataFault) → scan.place ≡ Failed f → (s : Syntax) (text : List ℕ) → Hears s text scan → FirstFault s text f
failed scan f is s text h = (at_place s text scan (Failed f) is h).2

not_there : (t : Option Tag) (got : List ℕ) (missing : ℕ) → missing ≢ 0 → Has (value_header t (length got + missing)) got → ⊥
not_there None got missing ne has = ne (omega (arith, has))
not_there (Some t) got missing ne has = ne (omega (arith, has))

pub cut : (scan : Scan) → ((t : Option Tag) → scan.place ≢ InValue t 0) → ((f : DataFault) → scan.place ≢ Failed f) → (scan.place ≡ InHeader → scan.header.items ≡ [] → scan.scanner.stack ≢ [])
    → (s : Syntax) (text : List ℕ) → Hears s text scan → FirstFault s text Truncated
cut scan settled unfailed more s text h = by_place scan.place refl
  where
    by_place : (p : ScanPlace) → scan.place ≡ p → FirstFault s text Truncated
    by_place InHeader is =
        let (es, o, a, e, bytes) = at_place s text scan InHeader is h in
        (scan.scanner.stack, es, scan.header.items, o, shows s scan.scanner.stack scan.header.items Truncated (more is) e)
    by_place (InValue t missing) is =
        let (es, token, got, o, a, e, kept, none) = at_place s text scan (InValue t missing) is h in
        (scan.scanner.stack, es, token, o, cut_shows s scan.scanner.stack token (value_header t (length got + missing)) got e (not_there t got missing (λ z. settled t (is ∙ ap (λ (n : ℕ). InValue t n) z))))
    by_place (Failed f) is = absurd (unfailed f is)

pub whole_set : (scan : Scan) → (scan.place ≡ InHeader) × (scan.header.items ≡ []) × (scan.scanner.stack ≡ []) → (s : Syntax) (text : List ℕ) → Hears s text scan
    → (es : List Element) × Opens s [] text es [] × AreCaught scan.found es
whole_set scan (is, none, top) s text h =
    let (es, o, a, e, bytes) = at_place s text scan InHeader is h in
    (es, subst (λ (x : List OpenSequence). Opens s x text es []) top (subst (λ (x : List ℕ). Opens s scan.scanner.stack text es x) none o), a)

pub no_memory : (scan : Scan) → (scan.place ≡ InHeader) × (scan.header.items ≡ []) × (scan.scanner.stack ≡ []) → (s : Syntax) (text : List ℕ) → Hears s text scan → FirstFault s text Memory
no_memory scan end s text h = let w = whole_set scan end s text h in ([], w.0, [], w.1, (refl, refl))

pub read : (scan : Scan) (a : Attributes) → (scan.place ≡ InHeader) × (scan.header.items ≡ []) × (scan.scanner.stack ≡ []) → AreSlots scan.found a → (s : Syntax) (text : List ℕ) → Hears s text scan → Scans s text (Ok a)
read scan a end values s text h =
    let w = whole_set scan end s text h in
    (w.0, w.1, values.0 ∙ ap text_at w.2.0, values.1 ∙ ap text_at w.2.1, values.2 ∙ ap text_at w.2.2, values.3 ∙ ap text_at w.2.3)
  where
    text_at : Option (List ℕ) → List ℕ
    text_at o = trimmed (unwrap_or o [])

pub some_taken : (bytes : List ℕ) (n : ℕ) → length bytes ≡ n → 0 < n → bytes ≢ []
some_taken [] n len some e = absurd (omega (arith, len, some))
some_taken (b ∷ bs) n len some e = absurd (cc e)

pub some_length : (piece : List ℕ) → piece ≢ [] → 0 < length piece
some_length [] ne = absurd (ne refl)
some_length (b ∷ bs) ne = omega arith

pub one_byte : (piece : List ℕ) → 1 ≤ length piece → piece ≡ (get_or piece 0 0 ∷ []) ++ take (length piece - 1) (drop 1 piece)
one_byte [] len = absurd (omega arith)
one_byte (b ∷ bs) len = ap (λ (x : List ℕ). b ∷ x) (sym (take_rest (b ∷ bs) 1))

pub some_byte : (b : ℕ) → b ∷ [] ≢ []
some_byte b e = cc e

pub all_taken : (piece taken rest : List ℕ) → piece ≡ taken ++ rest → length rest ≡ 0 → taken ≡ piece
all_taken piece taken [] is none = sym (append-nil taken) ∙ sym is
all_taken piece taken (b ∷ bs) is none = absurd (omega (arith, none))

pub failed_same : (f g : DataFault) → Failed f ≡ Failed g → f ≡ g
failed_same f g e = cc

-- a fault that has shown stays
pub finishes_failed : (old new : Scan) (f : DataFault) → HearsAlike old new → HasFailed new f → Finishes old (Err f) new
finishes_failed old new Memory alike is = alike
finishes_failed old new Truncated alike is = is
finishes_failed old new BadVr alike is = is
finishes_failed old new BadLength alike is = is
finishes_failed old new TooDeep alike is = is

-- the pieces, one after the other, are heard as what they join to
pub goes_on_joined : (old : Scan) (pieces : List (List ℕ)) (new : Scan) → GoesOnBy old pieces new → HearsMore old (flat_map (λ (piece : List ℕ). piece) pieces) new
goes_on_joined old [] new h = λ s text heard. subst (λ (t : List ℕ). Hears s t new) (sym (append-nil text)) (subst (λ (x : Scan). Hears s text x) h heard)
goes_on_joined old (piece ∷ pieces) new h = λ s text heard.
    let later = flat_map (λ (x : List ℕ). x) pieces in
    subst (λ (t : List ℕ). Hears s t new) (append_assoc text piece later) (goes_on_joined h.0 pieces new h.2 s (text ++ piece) (h.1 s text heard))

-- the whole header at once
pub begins_at_once : (scan : Scan) (scanner : Scanner) (piece : List ℕ) (token : Token) (rest : List ℕ) (new : Scan) → scan.header.items ≡ [] → scanner.syntax ≡ scan.scanner.syntax
    → token_of scan.scanner.syntax scan.scanner.stack piece ≡ Ok (token, rest) → scanner.stack ≡ open_behind scan.scanner.syntax token scan.scanner.stack → is_nested scan.scanner.stack ≡ true
    → ((s : Syntax) (text : List ℕ) → Begun s text token (record scan { scanner = scanner }) → Hears s text new)
    → (taken : List ℕ) × (piece ≡ taken ++ rest) × (taken ≢ []) × (scan.place ≡ InHeader → (s : Syntax) (text : List ℕ) → Hears s text scan → Hears s (text ++ taken) new)
begins_at_once scan scanner piece token rest new none syntax read stack nested onward =
    let fs = scan.scanner.stack in
    let a = header_alone scan.scanner.syntax fs piece token rest read in
    (a.0, a.1, some a.0 a.2, λ is s text h. onward s (text ++ a.0) (syntax ∙ h.0, is, none, begun a is s text h))
  where
    some : (pre : List ℕ) → token_of scan.scanner.syntax scan.scanner.stack pre ≡ Ok (token, []) → pre ≢ []
    some pre e empty = ok_not_cut (sym e ∙ ap (token_of scan.scanner.syntax scan.scanner.stack) empty ∙ nothing_yet scan.scanner.syntax scan.scanner.stack)

    begun : (a : (pre : List ℕ) × (piece ≡ pre ++ rest) × (token_of scan.scanner.syntax scan.scanner.stack pre ≡ Ok (token, []))) → scan.place ≡ InHeader → (s : Syntax) (text : List ℕ) → Hears s text scan
        → (before : List OpenSequence) × (es : List Element) × (header : List ℕ) × Opens s before (text ++ a.0) es header × AreCaught scan.found es × (token_of s before header ≡ Ok (token, [])) × (scanner.stack ≡ open_behind s token before) × (is_nested before ≡ true)
    begun a is s text h =
        let (es, o, c, e, bytes) = at_place s text scan InHeader is h in
        let from_start : Opens s scan.scanner.stack text es [] = subst (λ (x : List ℕ). Opens s scan.scanner.stack text es x) none o in
        (scan.scanner.stack, es, a.0, opens_longer s scan.scanner.stack text es [] a.0 from_start, c, ap (λ (x : Syntax). token_of x scan.scanner.stack a.0) (sym h.0) ∙ a.2, stack ∙ ap (λ (x : Syntax). open_behind x token scan.scanner.stack) h.0, nested)

-- a step that took nothing
pub same_scanner : (scan : Scan) (scanner : Scanner) → scanner.syntax ≡ scan.scanner.syntax → scanner.stack ≡ scan.scanner.stack → scan.place ≡ InHeader → (s : Syntax) (text : List ℕ) → Hears s text scan → Hears s text (record scan { scanner = scanner })
same_scanner scan scanner syntax stack is s text h =
    let (es, o, c, e, bytes) = at_place s text scan InHeader is h in
    let new = record scan { scanner = scanner } in
    let here : HearsAt s text new InHeader =
    (es, subst (λ (x : List OpenSequence). Opens s x text es scan.header.items) (sym stack) o, c, ap (λ (x : List OpenSequence). token_of s x scan.header.items) stack ∙ e, bytes) in
    (syntax ∙ h.0, subst (λ (x : ScanPlace). HearsAt s text new x) (sym is) here)

-- ---- the text so far

abbrev IsCutOrWhole : Syntax → List ℕ → Type 0
IsCutOrWhole s text = FirstFault s text Truncated ⊎ ((es : List Element) × IsDataSet s text es)

cut_or_whole : (s : Syntax) (text : List ℕ) (es : List Element) (fs : List OpenSequence) (items : List ℕ) → Opens s fs text es items → token_of s fs items ≡ Err Truncated → IsCutOrWhole s text
cut_or_whole s text es [] [] o e = inr (es, o)
cut_or_whole s text es (f ∷ fs) items o e = inl (f ∷ fs, es, items, o, shows s (f ∷ fs) items Truncated (λ none top. cc top) e)
cut_or_whole s text es [] (b ∷ bs) o e = inl ([], es, b ∷ bs, o, shows s [] (b ∷ bs) Truncated (λ none top. cc none) e)

behind_value : (s : Syntax) (text : List ℕ) (es : List Element) (fs : List OpenSequence) (t : Option Tag) (token got : List ℕ) → Opens s fs text es token → token_of s fs token ≡ Ok (value_header t (length got + 0), got) → IsCutOrWhole s text
behind_value s text es fs None token got o e =
    let ends = ends_value (length got + 0) 0 got refl (omega arith) in
    cut_or_whole s text es fs [] (subst (λ (x : List ℕ). Opens s fs text es x) ends.1 (after_plain_item s fs text token es (length got + 0) got e ends.2 o)) (nothing_yet s fs)
behind_value s text es fs (Some t) token got o e =
    let ends = ends_value (length got + 0) 0 got refl (omega arith) in
    let found = es ++ whole fs t (Some (take (length got + 0) got)) in
    cut_or_whole s text found fs [] (subst (λ (x : List ℕ). Opens s fs text found x) ends.1 (after_value s fs text token es t (length got + 0) got e ends.2 o)) (nothing_yet s fs)

pub in_order : (scan : Scan) → ((f : DataFault) → scan.place ≢ Failed f) → (s : Syntax) (text : List ℕ) → Hears s text scan → (f : DataFault) → FirstFault s text f → (f ≡ Truncated) ⊎ (f ≡ Memory)
in_order scan unfailed s text h f fault = by_fault f fault
  where
    by_place : (p : ScanPlace) → scan.place ≡ p → IsCutOrWhole s text
    by_place InHeader is = let (es, o, a, e, bytes) = at_place s text scan InHeader is h in cut_or_whole s text es scan.scanner.stack scan.header.items o e
    by_place (InValue t zero) is = let (es, token, got, o, a, e, kept, none) = at_place s text scan (InValue t zero) is h in behind_value s text es scan.scanner.stack t token got o e
    by_place (InValue t (suc m)) is =
        let (es, token, got, o, a, e, kept, none) = at_place s text scan (InValue t (suc m)) is h in
        inl (scan.scanner.stack, es, token, o, cut_shows s scan.scanner.stack token (value_header t (length got + suc m)) got e (not_there t got (suc m) (λ z. cc z)))
    by_place (Failed g) is = absurd (unfailed g is)

    other : (g : DataFault) → g ≢ Memory → FirstFault s text g → (g ≡ Truncated) ⊎ (g ≡ Memory)
    other g ne k = elim (by_place scan.place refl) [
      | inl w ↦ inl (one_first_fault s text g Truncated ne (λ e. cc e) k w)
      | inr w ↦ absurd (data_set_or_fault s text w.0 g ne w.1 k)
    ]

    by_fault : (g : DataFault) → FirstFault s text g → (g ≡ Truncated) ⊎ (g ≡ Memory)
    by_fault Memory k = inr refl
    by_fault Truncated k = inl refl
    by_fault BadVr k = other BadVr (λ e. cc e) k
    by_fault BadLength k = other BadLength (λ e. cc e) k
    by_fault TooDeep k = other TooDeep (λ e. cc e) k
