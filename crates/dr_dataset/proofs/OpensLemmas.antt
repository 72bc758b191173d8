-- Each token keeps that the text has a front that is in order.
use Rattle.std.proofs.Common.{◌≡◌, ◌≢◌, ℕ, zero, suc, ◌-◌, ◌<◌, ◌≤◌, true, false, List, [], ◌∷◌, ◌++◌, length, take, drop, refl, sym, ap, subst, ◌∙◌, arith, inl, inr, Some, None, Result, Ok, Err}
use Rattle.std.specs.Prelude.{IfSome}
use Rattle.std.proofs.lemmas.List.{take-append-drop, length-take-le, append-nil, length-append}
use Rattle.std.proofs.lemmas.Bool.{eqb-false, ne_eqb}
use Rattle.dr_base.specs.Runs.{Run}
use Rattle.dr_base.proofs.RunLemmas.{run_more}
use Rattle.dr_base.specs.declared.syntax.Syntax.{Syntax}
use Rattle.dr_base.specs.declared.syntax.Syntax.TheVariants.{Implicit, Explicit}
use Rattle.dr_dataset.specs.declared.fault.DataFault.{DataFault}
use Rattle.dr_dataset.specs.declared.fault.DataFault.TheVariants.{Truncated, BadVr, BadLength, TooDeep, Memory}
use Rattle.dr_dataset.specs.declared.header.Tag.{Tag}
use Rattle.dr_dataset.specs.declared.header.HeaderForm.{HeaderForm}
use Rattle.dr_dataset.specs.declared.frame.OpenSequence.{OpenSequence}
use Rattle.dr_dataset.specs.declared.frame.OpenSequence.TheVariants.{InSequence, InItem}
use Rattle.dr_dataset.specs.declared.token.Token.{Token}
use Rattle.dr_dataset.specs.declared.token.Token.TheVariants.{Value, Sequence, PlainItem, Item, ItemEnd, SequenceEnd}
use Rattle.dr_dataset.specs.Elements.{Element, undefined, item_group, StartsTag, StartsForm, StartsHeader, StartsMark, StartsPlain, StartsPlainItem, StartsItem, EndsItem, EndsSequence, StartsElement}
use Rattle.dr_dataset.specs.DataSet.{is_key, in_force, open_sequences, levels_left, wants_elements, StartsTop, Opens, MayOpen, StartsToken, ShowsFault}
use Rattle.dr_dataset.specs.Tokens.{is_full, is_nested, token_of}
use Rattle.dr_dataset.specs.Wholes.{whole}
use Rattle.dr_dataset.proofs.TokenLemmas.{IsNext, token_sound, token_whole, token_tells, vr_fault, length_fault, depth_fault}
use Rattle.dr_dataset.proofs.NestLemmas.{counts}

plain_any : (levels : ℕ) (s : Syntax) (text : List ℕ) (e : Element) (rest : List ℕ) → StartsPlain s text e rest → StartsElement levels s text e rest
plain_any zero s text e rest p = p
plain_any (suc n) s text e rest p = inl p

-- an element of defined length, behind its header
pub plain_of : (s : Syntax) (text : List ℕ) (t : Tag) (f : HeaderForm) (behind : List ℕ) (len : ℕ) → StartsHeader s text t f behind → f.len ≡ len → len ≢ undefined → len ≤ length behind
    → StartsPlain s text (record { tag = t; value = Some (take len behind) }) (drop len behind)
plain_of s text t f behind len header is defined fits = (
  t,
  f,
  take len behind,
  subst (λ (b : List ℕ). StartsHeader s text t f b) (sym (take-append-drop len behind)) header,
  subst (λ (n : ℕ). n ≢ undefined) (sym is) defined,
  length-take-le len behind fits ∙ sym is,
  refl,
)

pub after_value : (s : Syntax) (fs : List OpenSequence) (front text : List ℕ) (es : List Element) (t : Tag) (len : ℕ) (behind : List ℕ) → token_of s fs text ≡ Ok (Value t len, behind) → len ≤ length behind
    → Opens s fs front es text → Opens s fs front (es ++ whole fs t (Some (take len behind))) (drop len behind)
after_value s [] front text es t len behind e fits o =
    let (wants, f, header, is, defined, short) = token_sound s [] text (Value t len) behind e in
    let plain = plain_of s text t f behind len header is defined fits in
    let top : StartsTop s text (record { tag = t; value = Some (take len behind) }) (drop len behind) =
    (inl plain, λ key. subst (λ (n : ℕ). n ≤ 1024) (sym (length-take-le len behind fits)) (short refl key)) in
    run_more (StartsTop s) es (record { tag = t; value = Some (take len behind) }) front text (drop len behind) o top
after_value s (InSequence u w ∷ fs) front text es t len behind e fits o =
    let next = token_sound s (InSequence u w ∷ fs) text (Value t len) behind e in absurd (cc next.0)
after_value s (InItem w ∷ fs) front text es t len behind e fits (xs, mid, first, o, m, r) =
    let (wants, f, header, is, defined, short) = token_sound s (InItem w ∷ fs) text (Value t len) behind e in
    let x : Element = record { tag = t; value = Some (take len behind) } in
    let plain = plain_of w text t f behind len header is defined fits in
    let here : Opens s (InItem w ∷ fs) front es (drop len behind) =
    (xs ++ x ∷ [], mid, first, o, m, run_more (StartsElement (levels_left fs) w) xs x first text (drop len behind) r (plain_any (levels_left fs) w text x (drop len behind) plain)) in
    subst (λ (l : List Element). Opens s (InItem w ∷ fs) front l (drop len behind)) (sym (append-nil es)) here

pub after_plain_item : (s : Syntax) (fs : List OpenSequence) (front text : List ℕ) (es : List Element) (len : ℕ) (behind : List ℕ) → token_of s fs text ≡ Ok (PlainItem len, behind) → len ≤ length behind
    → Opens s fs front es text → Opens s fs front es (drop len behind)
after_plain_item s [] front text es len behind e fits o = let next = token_sound s [] text (PlainItem len) behind e in absurd (cc next.0)
after_plain_item s (InItem w ∷ fs) front text es len behind e fits o = let next = token_sound s (InItem w ∷ fs) text (PlainItem len) behind e in absurd (cc next.0)
after_plain_item s (InSequence t w ∷ fs) front text es len behind e fits (items, mid, first, o, m, r) =
    let (wants, defined, mark) = token_sound s (InSequence t w ∷ fs) text (PlainItem len) behind e in
    let same : length (take len behind) ≡ len = length-take-le len behind fits in
    let plain : StartsPlainItem text (drop len behind) = (
      take len behind,
      subst (λ (n : ℕ). n ≢ undefined) (sym same) defined,
      subst (λ (n : ℕ). StartsMark 0xE000 text n (take len behind ++ drop len behind)) (sym same) (subst (λ (b : List ℕ). StartsMark 0xE000 text len b) (sym (take-append-drop len behind)) mark),
    ) in
    (items ++ [] ∷ [], mid, first, o, m, run_more (StartsItem (StartsElement (levels_left (InSequence t w ∷ fs)) w)) items [] first text (drop len behind) r (inl (plain, refl)))

pub after_sequence : (s : Syntax) (fs : List OpenSequence) (front text : List ℕ) (es : List Element) (t : Tag) (w : Syntax) (behind : List ℕ) → is_nested fs ≡ true → token_of s fs text ≡ Ok (Sequence t w, behind)
    → Opens s fs front es text → Opens s (InSequence t w ∷ fs) front es behind
after_sequence s fs front text es t w behind n e o =
    let (wants, room, opens) = token_sound s fs text (Sequence t w) behind e in
    let c = counts fs n in
    let fewer : open_sequences fs ≢ 32 = eqb-false (open_sequences fs) 32 room in
    ([], text, behind, o, (wants, omega (arith, c.2, fewer), opens), refl)

pub after_item : (s : Syntax) (fs : List OpenSequence) (front text : List ℕ) (es : List Element) (behind : List ℕ) → token_of s fs text ≡ Ok (Item, behind)
    → Opens s fs front es text → Opens s (InItem (in_force s fs) ∷ fs) front es behind
after_item s [] front text es behind e o = let next = token_sound s [] text Item behind e in absurd (cc next.0)
after_item s (InItem w ∷ fs) front text es behind e o = let next = token_sound s (InItem w ∷ fs) text Item behind e in absurd (cc next.0)
after_item s (InSequence t w ∷ fs) front text es behind e o =
    let next = token_sound s (InSequence t w ∷ fs) text Item behind e in
    ([], text, behind, o, (refl, next.1), refl)

-- the end of an item, which stands in a sequence
pub after_item_end : (s : Syntax) (w : Syntax) (fs : List OpenSequence) (front text : List ℕ) (es : List Element) (behind : List ℕ) → EndsItem text behind
    → Opens s (InItem w ∷ fs) front es text → Opens s fs front es behind
after_item_end s w [] front text es behind end (xs, mid, first, o, m, r) = absurd m
after_item_end s w (InItem v ∷ fs) front text es behind end (xs, mid, first, o, m, r) = absurd m
after_item_end s w (InSequence t u ∷ fs) front text es behind end (xs, mid, first, (items, mid', first', o, m', r'), m, r) =
    let left = levels_left (InSequence t u ∷ fs) in
    let item : StartsItem (StartsElement left u) mid xs behind =
    inr (first, text, m.1, subst (λ (v : Syntax). Run (StartsElement left v) xs first text) m.0 r, end) in
    (items ++ xs ∷ [], mid', first', o, m', run_more (StartsItem (StartsElement left u)) items xs first' mid behind r' item)

-- the end of a sequence: at the top an element is whole
pub after_sequence_end : (s : Syntax) (t : Tag) (w : Syntax) (fs : List OpenSequence) (front text : List ℕ) (es : List Element) (behind : List ℕ) → EndsSequence text behind
    → Opens s (InSequence t w ∷ fs) front es text → Opens s fs front (es ++ whole fs t None) behind
after_sequence_end s t w [] front text es behind end (items, mid, first, o, m, r) =
    let e : Element = record { tag = t; value = None } in
    let element : StartsTop s mid e behind = (inr (t, w, items, first, text, m.2, r, end, refl), λ _. tt) in
    run_more (StartsTop s) es e front mid behind o element
after_sequence_end s t w (InSequence u v ∷ fs) front text es behind end (items, mid, first, o, m, r) = absurd (cc m.0)
after_sequence_end s t w (InItem v ∷ fs) front text es behind end (items, mid, first, (xs, mid', first', o, m', r'), m, r) =
    let n = open_sequences fs in
    let e : Element = record { tag = t; value = None } in
    let level : 32 - n ≡ suc (32 - suc n) = omega (arith, m.1) in
    let element : StartsElement (suc (32 - suc n)) v mid e behind = inr (t, w, items, first, text, m.2, r, end, refl) in
    let nested : StartsElement (32 - n) v mid e behind = subst (λ (k : ℕ). StartsElement k v mid e behind) (sym level) element in
    let here : Opens s (InItem v ∷ fs) front es behind = (xs ++ e ∷ [], mid', first', o, m', run_more (StartsElement (32 - n) v) xs e first' mid behind r' nested) in
    subst (λ (l : List Element). Opens s (InItem v ∷ fs) front l behind) (sym (append-nil es)) here

-- ---- faults

abbrev Answer : Type 0
Answer = Result (Token × List ℕ) DataFault

ok_not_err : {p : Token × List ℕ} {f : DataFault} → ◌≡◌ {A = Answer} (Ok p) (Err f) → ⊥
ok_not_err q = cc

vr_not_cut : ◌≡◌ {A = Answer} (Err BadVr) (Err Truncated) → ⊥
vr_not_cut q = cc

length_not_cut : ◌≡◌ {A = Answer} (Err BadLength) (Err Truncated) → ⊥
length_not_cut q = cc

depth_not_cut : ◌≡◌ {A = Answer} (Err TooDeep) (Err Truncated) → ⊥
depth_not_cut q = cc

-- the bytes that a header announces are there
abbrev pub Has : Token → List ℕ → Type 0
Has (Value t len) behind = len ≤ length behind
Has (Sequence t w) behind = Unit {0}
Has (PlainItem len) behind = len ≤ length behind
Has Item behind = Unit {0}
Has ItemEnd behind = Unit {0}
Has (SequenceEnd t) behind = Unit {0}

-- a token that may stand there is read
abbrev Stands : Syntax → List OpenSequence → List ℕ → List ℕ → Type 0
Stands s fs text rest = (token : Token) × (behind : List ℕ) × (token_of s fs text ≡ Ok (token, behind)) × Has token behind

fits : (value rest : List ℕ) (n : ℕ) → length value ≡ n → n ≤ length (value ++ rest)
fits value rest n e = omega (arith, length-append value rest, e)

plain_stands : (s : Syntax) (fs : List OpenSequence) (text rest : List ℕ) (e : Element) → wants_elements fs ≡ true → StartsPlain (in_force s fs) text e rest → (fs ≡ [] → is_key e.tag ≡ true → IfSome e.value (λ v. length v ≤ 1024)) → Stands s fs text rest
plain_stands s fs text rest e wants (t, f, value, header, defined, len, is) short =
    let whole_element : Element = record { tag = t; value = Some value } in
    let bound : fs ≡ [] → is_key t ≡ true → f.len ≤ 1024 =
    λ none key. subst (λ (n : ℕ). n ≤ 1024) len (subst (λ (x : Element). is_key x.tag ≡ true → IfSome x.value (λ v. length v ≤ 1024)) is (short none) key) in
    let next : IsNext s fs text (Value t f.len) (value ++ rest) = (wants, f, header, refl, defined, bound) in
    (Value t f.len, value ++ rest, token_whole s fs text (Value t f.len) (value ++ rest) next, fits value rest f.len len)

room_is : (fs : List OpenSequence) → open_sequences fs < 32 → is_full fs ≡ false
room_is fs h = ne_eqb (open_sequences fs) 32 (λ e. omega (arith, e, h))

opening_stands : (s : Syntax) (fs : List OpenSequence) (text rest : List ℕ) (t : Tag) (w : Syntax) → MayOpen s fs text t w rest → Stands s fs text rest
opening_stands s fs text rest t w (wants, room, opens) =
    let next : IsNext s fs text (Sequence t w) rest = (wants, room_is fs room, opens) in
    (Sequence t w, rest, token_whole s fs text (Sequence t w) rest next, tt)

token_stands : (s : Syntax) (fs : List OpenSequence) (text rest : List ℕ) → StartsToken s fs text rest → Stands s fs text rest
token_stands s [] text rest (inl (e, plain, short)) = plain_stands s [] text rest e refl plain (λ _. short)
token_stands s [] text rest (inr (t, w, opens)) = opening_stands s [] text rest t w opens
token_stands s (InItem u ∷ fs) text rest (inl (e, plain)) = plain_stands s (InItem u ∷ fs) text rest e refl plain (λ none. absurd (cc))
token_stands s (InItem u ∷ fs) text rest (inr (inl (t, w, opens))) = opening_stands s (InItem u ∷ fs) text rest t w opens
token_stands s (InItem u ∷ fs) text rest (inr (inr end)) = (ItemEnd, rest, token_whole s (InItem u ∷ fs) text ItemEnd rest ((u, fs, refl), end), tt)
token_stands s (InSequence t u ∷ fs) text rest (inl (value, defined, mark)) =
    (PlainItem (length value), value ++ rest, token_whole s (InSequence t u ∷ fs) text (PlainItem (length value)) (value ++ rest) (refl, defined, mark), fits value rest (length value) refl)
token_stands s (InSequence t u ∷ fs) text rest (inr (inl item)) = (Item, rest, token_whole s (InSequence t u ∷ fs) text Item rest (refl, item), tt)
token_stands s (InSequence t u ∷ fs) text rest (inr (inr end)) = (SequenceEnd t, rest, token_whole s (InSequence t u ∷ fs) text (SequenceEnd t) rest ((u, fs, refl), end), tt)

-- an answer that is no fault of the three, and leaves no whole token, is a cut
cut_if : (s : Syntax) (fs : List OpenSequence) (text : List ℕ) → (text ≡ [] → fs ≢ []) → ((rest : List ℕ) → Stands s fs text rest → ⊥) → (token_of s fs text ≡ Err BadVr → ⊥) → (token_of s fs text ≡ Err BadLength → ⊥) → (token_of s fs text ≡ Err TooDeep → ⊥)
    → ShowsFault s fs text Truncated
cut_if s fs text more none vr len deep =
    (more, λ rest h. none rest (token_stands s fs text rest h), λ h. vr (vr_fault s fs text h), λ h. len (length_fault s fs text h), λ h. deep (depth_fault s fs text h))

pub shows : (s : Syntax) (fs : List OpenSequence) (text : List ℕ) (fault : DataFault) → (text ≡ [] → fs ≢ []) → token_of s fs text ≡ Err fault → ShowsFault s fs text fault
shows s fs text BadVr more e = token_tells s fs text BadVr e
shows s fs text BadLength more e = token_tells s fs text BadLength e
shows s fs text TooDeep more e = token_tells s fs text TooDeep e
shows s fs text Memory more e = absurd (token_tells s fs text Memory e)
shows s fs text Truncated more e =
    cut_if s fs text more (λ rest (token, behind, is, has). ok_not_err (sym is ∙ e)) (λ f. vr_not_cut (sym f ∙ e)) (λ f. length_not_cut (sym f ∙ e)) (λ f. depth_not_cut (sym f ∙ e))

-- a header whose bytes aren't all there
pub cut_shows : (s : Syntax) (fs : List OpenSequence) (text : List ℕ) (token : Token) (behind : List ℕ) → token_of s fs text ≡ Ok (token, behind) → (Has token behind → ⊥) → ShowsFault s fs text Truncated
cut_shows s fs text token behind e cut =
    cut_if s fs text (λ none. absurd (ok_not_err (sym e ∙ ap (token_of s fs) none)))
    (λ rest (other, after, is, has). cut (same other after (sym is ∙ e) has))
    (λ f. ok_not_err (sym e ∙ f)) (λ f. ok_not_err (sym e ∙ f)) (λ f. ok_not_err (sym e ∙ f))
  where
    same : (other : Token) (after : List ℕ) → ◌≡◌ {A = Answer} (Ok (other, after)) (Ok (token, behind)) → Has other after → Has token behind
    same other after q has =
        let pair : ◌≡◌ {A = Token × List ℕ} (other, after) (token, behind) = cc in
        subst (λ (p : Token × List ℕ). Has p.0 p.1) pair has

-- ---- a token takes some of the text

tag_shorter : (text : List ℕ) (t : Tag) (rest : List ℕ) → StartsTag text t rest → length rest < length text
tag_shorter text t rest s = omega (arith, ap length s.2)

form_shorter : (s : Syntax) (text : List ℕ) (f : HeaderForm) (rest : List ℕ) → StartsForm s text f rest → length rest < length text
form_shorter Implicit text f rest (v, h, e) = omega (arith, ap length e)
form_shorter Explicit text f rest (v, is, capitals, inl (short, h, e)) = omega (arith, ap length e)
form_shorter Explicit text f rest (v, is, capitals, inr (r, s, short, h, e)) = omega (arith, ap length e)

header_shorter : (s : Syntax) (text : List ℕ) (t : Tag) (f : HeaderForm) (rest : List ℕ) → StartsHeader s text t f rest → length rest < length text
header_shorter s text t f rest (behind, starts, ne, form) = omega (arith, tag_shorter text t behind starts, form_shorter s behind f rest form)

mark_shorter : (element : ℕ) (text : List ℕ) (len : ℕ) (rest : List ℕ) → StartsMark element text len rest → length rest < length text
mark_shorter element text len rest (behind, starts, h, e) =
    omega (arith, tag_shorter text (record { group = item_group; element = element }) behind starts, ap length e)

pub token_shorter : (s : Syntax) (fs : List OpenSequence) (text : List ℕ) (token : Token) (rest : List ℕ) → token_of s fs text ≡ Ok (token, rest) → length rest < length text
token_shorter s fs text token rest e = by_token token (token_sound s fs text token rest e)
  where
    by_token : (token : Token) → IsNext s fs text token rest → length rest < length text
    by_token (Value t len) (wants, f, header, is, defined, short) = header_shorter (in_force s fs) text t f rest header
    by_token (Sequence t w) (wants, room, (f, header, len, is)) = header_shorter (in_force s fs) text t f rest header
    by_token (PlainItem len) (wants, defined, m) = mark_shorter 0xE000 text len rest m
    by_token Item (wants, m) = mark_shorter 0xE000 text undefined rest m
    by_token ItemEnd (is, (len, m)) = mark_shorter 0xE00D text len rest m
    by_token (SequenceEnd t) (is, (len, m)) = mark_shorter 0xE0DD text len rest m
