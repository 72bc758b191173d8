-- The next token as a function is the next token as the grammar has it, and its faults are those that show.
use Rattle.std.proofs.Common.{◌≡◌, ◌≢◌, ℕ, ◌<◌, ◌≤◌, Bool, true, false, cond, ltb, eqb, ◌&&◌, List, [], ◌∷◌, refl, sym, ap, subst, ◌∙◌, inl, inr, Option, Some, None, Result, Ok, Err, ◌⊎◌}
use Rattle.std.proofs.lemmas.Bool.{lt-ltb, ltb-true, ltb-false, le-ltb, eqb-true, eqb-false, eq-eqb, ne_eqb, cases_eq, both_ways, and_parts, and_cases}
use Rattle.dr_base.specs.declared.syntax.Syntax.{Syntax}
use Rattle.dr_base.specs.declared.syntax.Syntax.TheVariants.{Explicit}
use Rattle.dr_dataset.specs.declared.fault.DataFault.{DataFault}
use Rattle.dr_dataset.specs.declared.fault.DataFault.TheVariants.{Truncated, BadVr, BadLength, TooDeep, Memory}
use Rattle.dr_dataset.specs.declared.header.Tag.{Tag}
use Rattle.dr_dataset.specs.declared.header.HeaderForm.{HeaderForm}
use Rattle.dr_dataset.specs.declared.frame.OpenSequence.{OpenSequence}
use Rattle.dr_dataset.specs.declared.frame.OpenSequence.TheVariants.{InSequence, InItem}
use Rattle.dr_dataset.specs.declared.token.Token.{Token}
use Rattle.dr_dataset.specs.declared.token.Token.TheVariants.{Value, Sequence, PlainItem, Item, ItemEnd, SequenceEnd}
use Rattle.dr_dataset.specs.Elements.{undefined, item_group, inside, StartsTag, StartsForm, StartsHeader, StartsMark, OpensSequence, OpensItem, EndsItem, EndsSequence}
use Rattle.dr_dataset.specs.DataSet.{has_tag, is_key, in_force, open_sequences, wants_elements, IsBadTag, ShowsVr, ShowsLength, ShowsDepth}
use Rattle.dr_dataset.specs.Reading.{long_of, tag_of, form_of}
use Rattle.dr_dataset.specs.Tokens.{sequence_token, value_token, is_long_key, element_token_by, element_token_with, element_token, end_token, open_item_token, is_full, token_with, token_of}
use Rattle.dr_dataset.proofs.ReadingLemmas.{long_sound, long_whole, tag_sound, tag_whole, form_sound, form_whole, form_faults, bad_letters}

abbrev Answer : Type 0
Answer = Result (Token × List ℕ) DataFault

ok_parts : (a c : Token) (b d : List ℕ) → ◌≡◌ {A = Answer} (Ok (a, b)) (Ok (c, d)) → (a ≡ c) × (b ≡ d)
ok_parts a c b d e =
    let same : ◌≡◌ {A = Token × List ℕ} (a, b) (c, d) = cc in
    (ap (λ (p : Token × List ℕ). p.0) same, ap (λ (p : Token × List ℕ). p.1) same)

-- the header of an element, behind its tag
abbrev IsElement : Syntax → Bool → Bool → Tag → List ℕ → Token → List ℕ → Type 0
IsElement s top full t text token rest = (t.group ≢ item_group) × (f : HeaderForm) × StartsForm s text f rest
    × (((within : Syntax) × (f.len ≡ undefined) × (inside s f.vr ≡ Some within) × (full ≡ false) × (token ≡ Sequence t within))
    ⊎ ((f.len ≢ undefined) × (is_long_key top t f.len ≡ false) × (token ≡ Value t f.len)))

value_sound : (o : Bool) (t : Tag) (len : ℕ) (behind : List ℕ) (token : Token) (rest : List ℕ) → value_token o t len behind ≡ Ok (token, rest) → (o ≡ false) × (token ≡ Value t len) × (behind ≡ rest)
value_sound true t len behind token rest e = absurd (cc)
value_sound false t len behind token rest e = let p = ok_parts (Value t len) token behind rest e in (refl, sym p.0, p.1)

sequence_sound : (full : Bool) (t : Tag) (behind : List ℕ) (w : Option Syntax) (token : Token) (rest : List ℕ) → sequence_token full t behind w ≡ Ok (token, rest)
    → (within : Syntax) × (w ≡ Some within) × (full ≡ false) × (token ≡ Sequence t within) × (behind ≡ rest)
sequence_sound full t behind None token rest e = absurd (cc)
sequence_sound true t behind (Some within) token rest e = absurd (cc)
sequence_sound false t behind (Some within) token rest e = let p = ok_parts (Sequence t within) token behind rest e in (within, refl, refl, sym p.0, p.1)

by_sound : (u : Bool) (s : Syntax) (top full : Bool) (t : Tag) (f : HeaderForm) (text behind : List ℕ) (token : Token) (rest : List ℕ) → eqb f.len undefined ≡ u → t.group ≢ item_group → StartsForm s text f behind
    → element_token_by u s top full t f behind ≡ Ok (token, rest) → IsElement s top full t text token rest
by_sound true s top full t f text behind token rest len ne starts e =
    let q = sequence_sound full t behind (inside s f.vr) token rest e in
    (ne, f, subst (λ (r : List ℕ). StartsForm s text f r) q.4 starts, inl (q.0, eqb-true f.len undefined len, q.1, q.2, q.3))
by_sound false s top full t f text behind token rest len ne starts e =
    let q = value_sound (is_long_key top t f.len) t f.len behind token rest e in
    (ne, f, subst (λ (r : List ℕ). StartsForm s text f r) q.2 starts, inr (eqb-false f.len undefined len, q.0, q.1))

with_sound : (s : Syntax) (top full : Bool) (t : Tag) (text : List ℕ) (o : Result (HeaderForm × List ℕ) DataFault) (token : Token) (rest : List ℕ) → form_of s text ≡ o → t.group ≢ item_group
    → element_token_with s top full t o ≡ Ok (token, rest) → IsElement s top full t text token rest
with_sound s top full t text (Err fault) token rest is ne e = absurd (cc)
with_sound s top full t text (Ok p) token rest is ne e =
    by_sound (eqb p.0.len undefined) s top full t p.0 text p.1 token rest refl ne (form_sound s text p.0 p.1 is) e

element_sound_by : (o : Bool) (s : Syntax) (top full : Bool) (t : Tag) (text : List ℕ) (token : Token) (rest : List ℕ) → eqb t.group item_group ≡ o
    → cond o (Err BadLength) (element_token_with s top full t (form_of s text)) ≡ Ok (token, rest) → IsElement s top full t text token rest
element_sound_by true s top full t text token rest o e = absurd (cc)
element_sound_by false s top full t text token rest o e = with_sound s top full t text (form_of s text) token rest refl (eqb-false t.group item_group o) e

element_sound : (s : Syntax) (top full : Bool) (t : Tag) (text : List ℕ) (token : Token) (rest : List ℕ) → element_token s top full t text ≡ Ok (token, rest) → IsElement s top full t text token rest
element_sound s top full t text token rest e = element_sound_by (eqb t.group item_group) s top full t text token rest refl e

-- ---- the next token, under what is open

abbrev IsInItem : List OpenSequence → Type 0
IsInItem fs = (within : Syntax) × (outer : List OpenSequence) × (fs ≡ InItem within ∷ outer)

abbrev IsInSequence : List OpenSequence → Tag → Type 0
IsInSequence fs t = (within : Syntax) × (outer : List OpenSequence) × (fs ≡ InSequence t within ∷ outer)

abbrev pub IsNext : Syntax → List OpenSequence → List ℕ → Token → List ℕ → Type 0
IsNext s fs text (Value t len) rest = (wants_elements fs ≡ true) × (f : HeaderForm) × StartsHeader (in_force s fs) text t f rest × (f.len ≡ len) × (len ≢ undefined) × (fs ≡ [] → is_key t ≡ true → len ≤ 1024)
IsNext s fs text (Sequence t within) rest = (wants_elements fs ≡ true) × (is_full fs ≡ false) × OpensSequence (in_force s fs) text t within rest
IsNext s fs text (PlainItem len) rest = (wants_elements fs ≡ false) × (len ≢ undefined) × StartsMark 0xE000 text len rest
IsNext s fs text Item rest = (wants_elements fs ≡ false) × OpensItem text rest
IsNext s fs text ItemEnd rest = IsInItem fs × EndsItem text rest
IsNext s fs text (SequenceEnd t) rest = IsInSequence fs t × EndsSequence text rest

short_key : (top : Bool) (t : Tag) (len : ℕ) → is_long_key top t len ≡ false → top ≡ true → is_key t ≡ true → len ≤ 1024
short_key top t len e is key =
    let inner : ltb 1024 len ≡ false = elim (and_cases top (is_key t && ltb 1024 len) e) [
      | inl h ↦ absurd (both_ways top h is)
      | inr h ↦ elim (and_cases (is_key t) (ltb 1024 len) h) [ inl g ↦ absurd (both_ways (is_key t) g key) | inr g ↦ g ]
    ] in
    ltb-false 1024 len inner

-- an element's header at a place where elements are expected
element_next : (s : Syntax) (fs : List OpenSequence) (top : Bool) (t : Tag) (text behind : List ℕ) (token : Token) (rest : List ℕ) → wants_elements fs ≡ true → (fs ≡ [] → top ≡ true) → StartsTag text t behind
    → IsElement (in_force s fs) top (is_full fs) t behind token rest → IsNext s fs text token rest
element_next s fs top t text behind token rest wants at_top starts (ne, f, form, inl (within, len, is, full, token_is)) =
    let next : IsNext s fs text (Sequence t within) rest = (wants, full, (f, (behind, starts, ne, form), len, is)) in
    subst (λ (x : Token). IsNext s fs text x rest) (sym token_is) next
element_next s fs top t text behind token rest wants at_top starts (ne, f, form, inr (len, key, token_is)) =
    let next : IsNext s fs text (Value t f.len) rest = (wants, f, (behind, starts, ne, form), refl, len, λ none. short_key top t f.len key (at_top none)) in
    subst (λ (x : Token). IsNext s fs text x rest) (sym token_is) next

tag_is : (group element : ℕ) (t : Tag) → has_tag group element t ≡ true → t ≡ record { group = group; element = element }
tag_is group element t e =
    let p = and_parts (eqb t.group group) (eqb t.element element) e in
    let g : t.group ≡ group = eqb-true t.group group p.0 in
    let d : t.element ≡ element = eqb-true t.element element p.1 in
    ap (λ (x : ℕ). record t { group = x }) g ∙ ap (λ (x : ℕ). record { group = group; element = x }) d

-- an end or an item: its tag and a length of four bytes
mark : (element : ℕ) (text : List ℕ) (t : Tag) (behind : List ℕ) (len : ℕ) (rest : List ℕ) → StartsTag text t behind → has_tag item_group element t ≡ true → long_of behind ≡ Some (len, rest) → StartsMark element text len rest
mark element text t behind len rest starts is e =
    let l = long_sound behind len rest e in
    (behind, subst (λ (x : Tag). StartsTag text x behind) (tag_is item_group element t is) starts, l.0, l.1)

end_sound : (end : Token) (o : Option (ℕ × List ℕ)) (token : Token) (rest : List ℕ) → end_token end o ≡ Ok (token, rest) → (len : ℕ) × (o ≡ Some (len, rest)) × (token ≡ end)
end_sound end None token rest e = absurd (cc)
end_sound end (Some p) token rest e =
    let q = ok_parts end token p.1 rest e in
    (p.0, ap (λ (r : List ℕ). Some (p.0, r)) q.1, sym q.0)

open_item_sound_by : (u : Bool) (p : ℕ × List ℕ) (token : Token) (rest : List ℕ) → eqb p.0 undefined ≡ u → ◌≡◌ {A = Answer} (cond u (Ok (Item, p.1)) (Ok (PlainItem p.0, p.1))) (Ok (token, rest))
    → (p.1 ≡ rest) × (((p.0 ≡ undefined) × (token ≡ Item)) ⊎ ((p.0 ≢ undefined) × (token ≡ PlainItem p.0)))
open_item_sound_by true p token rest u e = let q = ok_parts Item token p.1 rest e in (q.1, inl (eqb-true p.0 undefined u, sym q.0))
open_item_sound_by false p token rest u e = let q = ok_parts (PlainItem p.0) token p.1 rest e in (q.1, inr (eqb-false p.0 undefined u, sym q.0))

open_item_sound : (o : Option (ℕ × List ℕ)) (token : Token) (rest : List ℕ) → open_item_token o ≡ Ok (token, rest)
    → (len : ℕ) × (o ≡ Some (len, rest)) × (((len ≡ undefined) × (token ≡ Item)) ⊎ ((len ≢ undefined) × (token ≡ PlainItem len)))
open_item_sound None token rest e = absurd (cc)
open_item_sound (Some p) token rest e =
    let q = open_item_sound_by (eqb p.0 undefined) p token rest refl e in
    (p.0, ap (λ (r : List ℕ). Some (p.0, r)) q.0, q.1)

item_next : (s : Syntax) (sequence : Tag) (within : Syntax) (fs : List OpenSequence) (t : Tag) (text behind : List ℕ) (token : Token) (rest : List ℕ) (o p : Bool) → StartsTag text t behind
    → has_tag item_group 0xE000 t ≡ o → has_tag item_group 0xE0DD t ≡ p
    → cond o (open_item_token (long_of behind)) (cond p (end_token (SequenceEnd sequence) (long_of behind)) (Err BadLength)) ≡ Ok (token, rest) → IsNext s (InSequence sequence within ∷ fs) text token rest
item_next s sequence within fs t text behind token rest true p starts o e f =
    let q = open_item_sound (long_of behind) token rest f in
    let m = mark 0xE000 text t behind q.0 rest starts o q.1 in
    elim q.2 [
      | inl h ↦ subst (λ (x : Token). IsNext s (InSequence sequence within ∷ fs) text x rest) (sym h.1) (refl, subst (λ (n : ℕ). StartsMark 0xE000 text n rest) h.0 m)
      | inr h ↦ subst (λ (x : Token). IsNext s (InSequence sequence within ∷ fs) text x rest) (sym h.1) (refl, h.0, m)
    ]
item_next s sequence within fs t text behind token rest false true starts o e f =
    let q = end_sound (SequenceEnd sequence) (long_of behind) token rest f in
    let m = mark 0xE0DD text t behind q.0 rest starts e q.1 in
    subst (λ (x : Token). IsNext s (InSequence sequence within ∷ fs) text x rest) (sym q.2) ((within, fs, refl), (q.0, m))
item_next s sequence within fs t text behind token rest false false starts o e f = absurd (cc)

in_item_next : (s within : Syntax) (fs : List OpenSequence) (t : Tag) (text behind : List ℕ) (token : Token) (rest : List ℕ) (o : Bool) → StartsTag text t behind → has_tag item_group 0xE00D t ≡ o
    → cond o (end_token ItemEnd (long_of behind)) (element_token within false (is_full (InItem within ∷ fs)) t behind) ≡ Ok (token, rest) → IsNext s (InItem within ∷ fs) text token rest
in_item_next s within fs t text behind token rest true starts o f =
    let q = end_sound ItemEnd (long_of behind) token rest f in
    let m = mark 0xE00D text t behind q.0 rest starts o q.1 in
    subst (λ (x : Token). IsNext s (InItem within ∷ fs) text x rest) (sym q.2) ((within, fs, refl), (q.0, m))
in_item_next s within fs t text behind token rest false starts o f =
    element_next s (InItem within ∷ fs) false t text behind token rest refl (λ none. absurd (cc)) starts (element_sound within false (is_full (InItem within ∷ fs)) t behind token rest f)

with_next : (s : Syntax) (fs : List OpenSequence) (text : List ℕ) (o : Option (Tag × List ℕ)) (token : Token) (rest : List ℕ) → tag_of text ≡ o → token_with s fs o ≡ Ok (token, rest) → IsNext s fs text token rest
with_next s fs text None token rest o e = absurd (cc)
with_next s [] text (Some p) token rest o e =
    element_next s [] true p.0 text p.1 token rest refl (λ _. refl) (tag_sound text p.0 p.1 o) (element_sound s true (is_full []) p.0 p.1 token rest e)
with_next s (InItem within ∷ fs) text (Some p) token rest o e =
    in_item_next s within fs p.0 text p.1 token rest (has_tag item_group 0xE00D p.0) (tag_sound text p.0 p.1 o) refl e
with_next s (InSequence t within ∷ fs) text (Some p) token rest o e =
    item_next s t within fs p.0 text p.1 token rest (has_tag item_group 0xE000 p.0) (has_tag item_group 0xE0DD p.0) (tag_sound text p.0 p.1 o) refl refl e

pub token_sound : (s : Syntax) (fs : List OpenSequence) (text : List ℕ) (token : Token) (rest : List ℕ) → token_of s fs text ≡ Ok (token, rest) → IsNext s fs text token rest
token_sound s fs text token rest e = with_next s fs text (tag_of text) token rest refl e

-- ---- all that the grammar has is read

-- an element whose form reads so
element_is : (s : Syntax) (top full : Bool) (t : Tag) (f : HeaderForm) (text rest : List ℕ) → t.group ≢ item_group → StartsForm s text f rest
    → element_token s top full t text ≡ element_token_by (eqb f.len undefined) s top full t f rest
element_is s top full t f text rest ne form =
    let other : eqb t.group item_group ≡ false = ne_eqb t.group item_group ne in
    ap (λ (o : Bool). cond o (Err BadLength) (element_token_with s top full t (form_of s text))) other ∙ ap (λ (o : Result (HeaderForm × List ℕ) DataFault). element_token_with s top full t o) (form_whole s text f rest form)

value_is : (s : Syntax) (top full : Bool) (t : Tag) (f : HeaderForm) (text rest : List ℕ) (o : Bool) → t.group ≢ item_group → StartsForm s text f rest → f.len ≢ undefined → is_long_key top t f.len ≡ o
    → element_token s top full t text ≡ value_token o t f.len rest
value_is s top full t f text rest o ne form len key =
    element_is s top full t f text rest ne form ∙ ap (λ (u : Bool). element_token_by u s top full t f rest) (ne_eqb f.len undefined len) ∙ ap (λ (u : Bool). value_token u t f.len rest) key

sequence_is : (s : Syntax) (top full : Bool) (t : Tag) (f : HeaderForm) (text rest : List ℕ) (w : Option Syntax) → t.group ≢ item_group → StartsForm s text f rest → f.len ≡ undefined → inside s f.vr ≡ w
    → element_token s top full t text ≡ sequence_token full t rest w
sequence_is s top full t f text rest w ne form len is =
    element_is s top full t f text rest ne form ∙ ap (λ (u : Bool). element_token_by u s top full t f rest) (eq-eqb f.len undefined len) ∙ ap (λ (u : Option Syntax). sequence_token full t rest u) is

-- whether elements stand at the top
abbrev is_top : List OpenSequence → Bool
is_top [] = true
is_top (f ∷ fs) = false

-- where elements are expected, a tag of another group begins one
place_is : (s : Syntax) (fs : List OpenSequence) (t : Tag) (text behind : List ℕ) → wants_elements fs ≡ true → StartsTag text t behind → t.group ≢ item_group
    → token_of s fs text ≡ element_token (in_force s fs) (is_top fs) (is_full fs) t behind
place_is s [] t text behind wants starts ne = ap (λ (o : Option (Tag × List ℕ)). token_with s [] o) (tag_whole text t behind starts)
place_is s (InSequence u within ∷ fs) t text behind wants starts ne = absurd (cc)
place_is s (InItem within ∷ fs) t text behind wants starts ne =
    let other : has_tag item_group 0xE00D t ≡ false = ap (λ (o : Bool). o && eqb t.element 0xE00D) (ne_eqb t.group item_group ne) in
    ap (λ (o : Option (Tag × List ℕ)). token_with s (InItem within ∷ fs) o) (tag_whole text t behind starts)
    ∙ ap (λ (o : Bool). cond o (end_token ItemEnd (long_of behind)) (element_token within false (is_full (InItem within ∷ fs)) t behind)) other

key_fits : (fs : List OpenSequence) (t : Tag) (len : ℕ) (k : Bool) → is_key t ≡ k → (fs ≡ [] → is_key t ≡ true → len ≤ 1024) → is_long_key (is_top fs) t len ≡ false
key_fits (f ∷ fs) t len k is h = refl
key_fits [] t len false is h = ap (λ (o : Bool). o && ltb 1024 len) is
key_fits [] t len true is h = ap (λ (o : Bool). o && ltb 1024 len) is ∙ le-ltb 1024 len (h refl is)

mark_is : (element : ℕ) (text : List ℕ) (len : ℕ) (rest : List ℕ) → StartsMark element text len rest → (behind : List ℕ) × (tag_of text ≡ Some (record { group = item_group; element = element }, behind)) × (long_of behind ≡ Some (len, rest))
mark_is element text len rest (behind, starts, h, e) = (behind, tag_whole text (record { group = item_group; element = element }) behind starts, ap long_of e ∙ long_whole len rest h)

pub token_whole : (s : Syntax) (fs : List OpenSequence) (text : List ℕ) (token : Token) (rest : List ℕ) → IsNext s fs text token rest → token_of s fs text ≡ Ok (token, rest)
token_whole s fs text (Value t len) rest (wants, f, (behind, starts, ne, form), is, defined, short) =
    let same : f.len ≢ undefined = subst (λ (n : ℕ). n ≢ undefined) (sym is) defined in
    let fits : fs ≡ [] → is_key t ≡ true → f.len ≤ 1024 = subst (λ (n : ℕ). fs ≡ [] → is_key t ≡ true → n ≤ 1024) (sym is) short in
    place_is s fs t text behind wants starts ne ∙ value_is (in_force s fs) (is_top fs) (is_full fs) t f behind rest false ne form same (key_fits fs t f.len (is_key t) refl fits)
    ∙ ap (λ (n : ℕ). Ok (Value t n, rest)) is
token_whole s fs text (Sequence t within) rest (wants, room, (f, (behind, starts, ne, form), len, is)) =
    place_is s fs t text behind wants starts ne ∙ sequence_is (in_force s fs) (is_top fs) (is_full fs) t f behind rest (Some within) ne form len is
    ∙ ap (λ (o : Bool). sequence_token o t rest (Some within)) room
token_whole s [] text (PlainItem len) rest (wants, defined, m) = absurd (cc)
token_whole s (InItem w ∷ fs) text (PlainItem len) rest (wants, defined, m) = absurd (cc)
token_whole s (InSequence t w ∷ fs) text (PlainItem len) rest (wants, defined, m) =
    let q = mark_is 0xE000 text len rest m in
    ap (λ (o : Option (Tag × List ℕ)). token_with s (InSequence t w ∷ fs) o) q.1 ∙ ap open_item_token q.2
    ∙ ap (λ (o : Bool). cond o (Ok (Item, rest)) (Ok (PlainItem len, rest))) (ne_eqb len undefined defined)
token_whole s [] text Item rest (wants, m) = absurd (cc)
token_whole s (InItem w ∷ fs) text Item rest (wants, m) = absurd (cc)
token_whole s (InSequence t w ∷ fs) text Item rest (wants, m) =
    let q = mark_is 0xE000 text undefined rest m in
    ap (λ (o : Option (Tag × List ℕ)). token_with s (InSequence t w ∷ fs) o) q.1 ∙ ap open_item_token q.2
token_whole s [] text ItemEnd rest ((w, outer, e), m) = absurd (cc)
token_whole s (InSequence t v ∷ fs) text ItemEnd rest ((w, outer, e), m) = absurd (cc)
token_whole s (InItem v ∷ fs) text ItemEnd rest ((w, outer, e), (len, m)) =
    let q = mark_is 0xE00D text len rest m in
    ap (λ (o : Option (Tag × List ℕ)). token_with s (InItem v ∷ fs) o) q.1 ∙ ap (end_token ItemEnd) q.2
token_whole s [] text (SequenceEnd t) rest ((w, outer, e), m) = absurd (cc)
token_whole s (InItem v ∷ fs) text (SequenceEnd t) rest ((w, outer, e), m) = absurd (cc)
token_whole s (InSequence u v ∷ fs) text (SequenceEnd t) rest ((w, outer, e), (len, m)) =
    let q = mark_is 0xE0DD text len rest m in
    let same : u ≡ t = cc in
    ap (λ (o : Option (Tag × List ℕ)). token_with s (InSequence u v ∷ fs) o) q.1 ∙ ap (end_token (SequenceEnd u)) q.2 ∙ ap (λ (x : Tag). Ok (SequenceEnd x, rest)) same

-- ---- faults that show are answered

not_tag : (group element : ℕ) (t : Tag) → (t.group ≡ group → t.element ≢ element) → has_tag group element t ≡ false
not_tag group element t h = elim (cases_eq t.group group) [
  | inl e ↦ ap (λ (o : Bool). eqb t.group group && o) (ne_eqb t.element element (h e)) ∙ elim_false (eqb t.group group)
  | inr e ↦ ap (λ (o : Bool). o && eqb t.element element) (ne_eqb t.group group e)
]
  where
    elim_false : (b : Bool) → b && false ≡ false
    elim_false true = refl
    elim_false false = refl

bad_group : (s : Syntax) (top full : Bool) (t : Tag) (text : List ℕ) → t.group ≡ item_group → element_token s top full t text ≡ Err BadLength
bad_group s top full t text e = ap (λ (o : Bool). cond o (Err BadLength) (element_token_with s top full t (form_of s text))) (eq-eqb t.group item_group e)

pub bad_tag : (s : Syntax) (fs : List OpenSequence) (t : Tag) (text behind : List ℕ) → StartsTag text t behind → IsBadTag fs t → token_of s fs text ≡ Err BadLength
bad_tag s [] t text behind starts bad = ap (λ (o : Option (Tag × List ℕ)). token_with s [] o) (tag_whole text t behind starts) ∙ bad_group s true (is_full []) t behind bad
bad_tag s (InItem within ∷ fs) t text behind starts bad =
    let other : has_tag item_group 0xE00D t ≡ false = not_tag item_group 0xE00D t (λ _. bad.1) in
    ap (λ (o : Option (Tag × List ℕ)). token_with s (InItem within ∷ fs) o) (tag_whole text t behind starts)
    ∙ ap (λ (o : Bool). cond o (end_token ItemEnd (long_of behind)) (element_token within false (is_full (InItem within ∷ fs)) t behind)) other
    ∙ bad_group within false (is_full (InItem within ∷ fs)) t behind bad.0
bad_tag s (InSequence u within ∷ fs) t text behind starts bad =
    let no_item : has_tag item_group 0xE000 t ≡ false = not_tag item_group 0xE000 t (λ e. (bad e).0) in
    let no_end : has_tag item_group 0xE0DD t ≡ false = not_tag item_group 0xE0DD t (λ e. (bad e).1) in
    ap (λ (o : Option (Tag × List ℕ)). token_with s (InSequence u within ∷ fs) o) (tag_whole text t behind starts)
    ∙ ap (λ (o : Bool). cond o (open_item_token (long_of behind)) (cond (has_tag item_group 0xE0DD t) (end_token (SequenceEnd u) (long_of behind)) (Err BadLength))) no_item
    ∙ ap (λ (o : Bool). cond o (end_token (SequenceEnd u) (long_of behind)) (Err BadLength)) no_end

pub vr_fault : (s : Syntax) (fs : List OpenSequence) (text : List ℕ) → ShowsVr s fs text → token_of s fs text ≡ Err BadVr
vr_fault s fs text (t, a, b, rest, wants, explicit, starts, ne, letters) =
    let other : eqb t.group item_group ≡ false = ne_eqb t.group item_group ne in
    place_is s fs t text (a ∷ b ∷ rest) wants starts ne
    ∙ ap (λ (x : Syntax). element_token x (is_top fs) (is_full fs) t (a ∷ b ∷ rest)) explicit
    ∙ ap (λ (o : Bool). cond o (Err BadLength) (element_token_with Explicit (is_top fs) (is_full fs) t (form_of Explicit (a ∷ b ∷ rest)))) other
    ∙ ap (element_token_with Explicit (is_top fs) (is_full fs) t) (bad_letters a b rest letters)

long_key : (fs : List OpenSequence) (t : Tag) (len : ℕ) → fs ≡ [] → is_key t ≡ true → 1024 < len → is_long_key (is_top fs) t len ≡ true
long_key [] t len e key h = ap (λ (o : Bool). o && ltb 1024 len) key ∙ lt-ltb 1024 len h
long_key (f ∷ fs) t len e key h = absurd (cc)

pub length_fault : (s : Syntax) (fs : List OpenSequence) (text : List ℕ) → ShowsLength s fs text → token_of s fs text ≡ Err BadLength
length_fault s fs text (inl (t, rest, starts, bad)) = bad_tag s fs t text rest starts bad
length_fault s fs text (inr (t, f, rest, wants, (behind, starts, ne, form), inl (len, none))) =
    place_is s fs t text behind wants starts ne ∙ sequence_is (in_force s fs) (is_top fs) (is_full fs) t f behind rest None ne form len none
length_fault s fs text (inr (t, f, rest, wants, (behind, starts, ne, form), inr (top, key, len, long))) =
    place_is s fs t text behind wants starts ne ∙ value_is (in_force s fs) (is_top fs) (is_full fs) t f behind rest true ne form len (long_key fs t f.len top key long)

pub depth_fault : (s : Syntax) (fs : List OpenSequence) (text : List ℕ) → ShowsDepth s fs text → token_of s fs text ≡ Err TooDeep
depth_fault s fs text (t, within, rest, wants, (f, (behind, starts, ne, form), len, is), deep) =
    place_is s fs t text behind wants starts ne ∙ sequence_is (in_force s fs) (is_top fs) (is_full fs) t f behind rest (Some within) ne form len is
    ∙ ap (λ (o : Bool). sequence_token o t rest (Some within)) (eq-eqb (open_sequences fs) 32 deep)

-- ---- faults that are answered show

-- what each answered fault says; `Truncated` says it elsewhere, by what is not there
abbrev pub Tells : Syntax → List OpenSequence → List ℕ → DataFault → Type 0
Tells s fs text Truncated = Unit {0}
Tells s fs text BadVr = ShowsVr s fs text
Tells s fs text BadLength = ShowsLength s fs text
Tells s fs text TooDeep = ShowsDepth s fs text
Tells s fs text Memory = ⊥

err_is : (f g : DataFault) → ◌≡◌ {A = Answer} (Err f) (Err g) → f ≡ g
err_is f g e = cc

full_is : (fs : List OpenSequence) → is_full fs ≡ true → open_sequences fs ≡ 32
full_is fs e = eqb-true (open_sequences fs) 32 e

tells : (s : Syntax) (fs : List OpenSequence) (text : List ℕ) (f fault : DataFault) → Tells s fs text f → ◌≡◌ {A = Answer} (Err f) (Err fault) → Tells s fs text fault
tells s fs text f fault t e = subst (λ (x : DataFault). Tells s fs text x) (err_is f fault e) t

sequence_tells : (s : Syntax) (fs : List OpenSequence) (text : List ℕ) (t : Tag) (f : HeaderForm) (rest : List ℕ) (full : Bool) (w : Option Syntax) (fault : DataFault) → wants_elements fs ≡ true → StartsHeader (in_force s fs) text t f rest
    → f.len ≡ undefined → inside (in_force s fs) f.vr ≡ w → is_full fs ≡ full → sequence_token full t rest w ≡ Err fault → Tells s fs text fault
sequence_tells s fs text t f rest full None fault wants h len is room e = tells s fs text BadLength fault (inr (t, f, rest, wants, h, inl (len, is))) e
sequence_tells s fs text t f rest true (Some within) fault wants h len is room e = tells s fs text TooDeep fault (t, within, rest, wants, (f, h, len, is), full_is fs room) e
sequence_tells s fs text t f rest false (Some within) fault wants h len is room e = absurd (cc)

long_is : (fs : List OpenSequence) (t : Tag) (len : ℕ) → is_long_key (is_top fs) t len ≡ true → (fs ≡ []) × (is_key t ≡ true) × (1024 < len)
long_is [] t len e = let p = and_parts (is_key t) (ltb 1024 len) e in (refl, p.0, ltb-true 1024 len p.1)
long_is (f ∷ fs) t len e = absurd (cc)

value_tells : (s : Syntax) (fs : List OpenSequence) (text : List ℕ) (t : Tag) (f : HeaderForm) (rest : List ℕ) (o : Bool) (fault : DataFault) → wants_elements fs ≡ true → StartsHeader (in_force s fs) text t f rest
    → f.len ≢ undefined → is_long_key (is_top fs) t f.len ≡ o → value_token o t f.len rest ≡ Err fault → Tells s fs text fault
value_tells s fs text t f rest true fault wants h len long e =
    let l = long_is fs t f.len long in
    tells s fs text BadLength fault (inr (t, f, rest, wants, h, inr (l.0, l.1, len, l.2))) e
value_tells s fs text t f rest false fault wants h len long e = absurd (cc)

by_tells : (s : Syntax) (fs : List OpenSequence) (text : List ℕ) (t : Tag) (f : HeaderForm) (rest : List ℕ) (u : Bool) (fault : DataFault) → wants_elements fs ≡ true → StartsHeader (in_force s fs) text t f rest
    → eqb f.len undefined ≡ u → element_token_by u (in_force s fs) (is_top fs) (is_full fs) t f rest ≡ Err fault → Tells s fs text fault
by_tells s fs text t f rest true fault wants h u e =
    sequence_tells s fs text t f rest (is_full fs) (inside (in_force s fs) f.vr) fault wants h (eqb-true f.len undefined u) refl refl e
by_tells s fs text t f rest false fault wants h u e =
    value_tells s fs text t f rest (is_long_key (is_top fs) t f.len) fault wants h (eqb-false f.len undefined u) refl e

form_tells : (s : Syntax) (fs : List OpenSequence) (text : List ℕ) (t : Tag) (behind : List ℕ) (o : Result (HeaderForm × List ℕ) DataFault) (fault : DataFault) → wants_elements fs ≡ true → StartsTag text t behind → t.group ≢ item_group
    → form_of (in_force s fs) behind ≡ o → element_token_with (in_force s fs) (is_top fs) (is_full fs) t o ≡ Err fault → Tells s fs text fault
form_tells s fs text t behind (Ok p) fault wants starts ne is e =
    by_tells s fs text t p.0 p.1 (eqb p.0.len undefined) fault wants (behind, starts, ne, form_sound (in_force s fs) behind p.0 p.1 is) refl e
form_tells s fs text t behind (Err f) fault wants starts ne is e =
    elim (form_faults (in_force s fs) behind f is) [
      | inl h ↦ tells s fs text f fault (subst (λ (x : DataFault). Tells s fs text x) (sym h) tt) e
      | inr h ↦ tells s fs text f fault (subst (λ (x : DataFault). Tells s fs text x) (sym h.0)
          (t, h.2, h.3, h.4, wants, h.1, subst (λ (x : List ℕ). StartsTag text t x) h.5 starts, ne, h.6)) e
    ]

element_tells : (s : Syntax) (fs : List OpenSequence) (text : List ℕ) (t : Tag) (behind : List ℕ) (o : Bool) (fault : DataFault) → wants_elements fs ≡ true → StartsTag text t behind → (t.group ≡ item_group → IsBadTag fs t)
    → eqb t.group item_group ≡ o → cond o (Err BadLength) (element_token_with (in_force s fs) (is_top fs) (is_full fs) t (form_of (in_force s fs) behind)) ≡ Err fault → Tells s fs text fault
element_tells s fs text t behind true fault wants starts bad o e = tells s fs text BadLength fault (inl (t, behind, starts, bad (eqb-true t.group item_group o))) e
element_tells s fs text t behind false fault wants starts bad o e =
    form_tells s fs text t behind (form_of (in_force s fs) behind) fault wants starts (eqb-false t.group item_group o) refl e

end_tells : (s : Syntax) (fs : List OpenSequence) (text : List ℕ) (end : Token) (o : Option (ℕ × List ℕ)) (fault : DataFault) → end_token end o ≡ Err fault → Tells s fs text fault
end_tells s fs text end None fault e = tells s fs text Truncated fault tt e
end_tells s fs text end (Some p) fault e = absurd (cc)

open_item_tells : (s : Syntax) (fs : List OpenSequence) (text : List ℕ) (o : Option (ℕ × List ℕ)) (fault : DataFault) → open_item_token o ≡ Err fault → Tells s fs text fault
open_item_tells s fs text None fault e = tells s fs text Truncated fault tt e
open_item_tells s fs text (Some p) fault e = absurd (never (eqb p.0 undefined) e)
  where
    never : (u : Bool) → ◌≡◌ {A = Answer} (cond u (Ok (Item, p.1)) (Ok (PlainItem p.0, p.1))) (Err fault) → ⊥
    never true f = cc
    never false f = cc

has_not : (group element : ℕ) (t : Tag) → has_tag group element t ≡ false → t.group ≡ group → t.element ≢ element
has_not group element t e is = elim (and_cases (eqb t.group group) (eqb t.element element) e) [
  | inl h ↦ λ _. eqb-false t.group group h is
  | inr h ↦ eqb-false t.element element h
]

item_tells : (s : Syntax) (u : Tag) (within : Syntax) (fs : List OpenSequence) (text : List ℕ) (t : Tag) (behind : List ℕ) (o p : Bool) (fault : DataFault) → StartsTag text t behind → has_tag item_group 0xE000 t ≡ o → has_tag item_group 0xE0DD t ≡ p
    → cond o (open_item_token (long_of behind)) (cond p (end_token (SequenceEnd u) (long_of behind)) (Err BadLength)) ≡ Err fault → Tells s (InSequence u within ∷ fs) text fault
item_tells s u within fs text t behind true p fault starts o q e = open_item_tells s (InSequence u within ∷ fs) text (long_of behind) fault e
item_tells s u within fs text t behind false true fault starts o q e = end_tells s (InSequence u within ∷ fs) text (SequenceEnd u) (long_of behind) fault e
item_tells s u within fs text t behind false false fault starts o q e =
    tells s (InSequence u within ∷ fs) text BadLength fault (inl (t, behind, starts, λ is. (has_not item_group 0xE000 t o is, has_not item_group 0xE0DD t q is))) e

in_item_tells : (s within : Syntax) (fs : List OpenSequence) (text : List ℕ) (t : Tag) (behind : List ℕ) (o : Bool) (fault : DataFault) → StartsTag text t behind → has_tag item_group 0xE00D t ≡ o
    → cond o (end_token ItemEnd (long_of behind)) (element_token within false (is_full (InItem within ∷ fs)) t behind) ≡ Err fault → Tells s (InItem within ∷ fs) text fault
in_item_tells s within fs text t behind true fault starts o e = end_tells s (InItem within ∷ fs) text ItemEnd (long_of behind) fault e
in_item_tells s within fs text t behind false fault starts o e =
    element_tells s (InItem within ∷ fs) text t behind (eqb t.group item_group) fault refl starts (λ is. (is, has_not item_group 0xE00D t o is)) refl e

with_tells : (s : Syntax) (fs : List OpenSequence) (text : List ℕ) (o : Option (Tag × List ℕ)) (fault : DataFault) → tag_of text ≡ o → token_with s fs o ≡ Err fault → Tells s fs text fault
with_tells s fs text None fault o e = tells s fs text Truncated fault tt e
with_tells s [] text (Some p) fault o e = element_tells s [] text p.0 p.1 (eqb p.0.group item_group) fault refl (tag_sound text p.0 p.1 o) (λ is. is) refl e
with_tells s (InItem within ∷ fs) text (Some p) fault o e = in_item_tells s within fs text p.0 p.1 (has_tag item_group 0xE00D p.0) fault (tag_sound text p.0 p.1 o) refl e
with_tells s (InSequence t within ∷ fs) text (Some p) fault o e =
    item_tells s t within fs text p.0 p.1 (has_tag item_group 0xE000 p.0) (has_tag item_group 0xE0DD p.0) fault (tag_sound text p.0 p.1 o) refl refl e

pub token_tells : (s : Syntax) (fs : List OpenSequence) (text : List ℕ) (fault : DataFault) → token_of s fs text ≡ Err fault → Tells s fs text fault
token_tells s fs text fault e = with_tells s fs text (tag_of text) fault refl e
