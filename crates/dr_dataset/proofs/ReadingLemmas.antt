-- Numbers, tags and forms in front of a text: the functions that take them off read what the relations say, and all of it.
use Rattle.std.proofs.Common.{◌≡◌, ℕ, ◌/◌, ◌%◌, ◌^◌, ◌<◌, Bool, true, false, cond, ◌&&◌, List, [], ◌∷◌, ◌++◌, refl, sym, ap, ◌∙◌, arith, inl, inr, Option, Some, None, Result, Ok, Err, ◌⊎◌}
use Rattle.std.specs.Int.{w16, w32, to_le_bytes, from_le_bytes}
use Rattle.std.proofs.lemmas.Bool.{lt-ltb, ltb-true}
use Rattle.std.proofs.lemmas.Nat.{from_le_bytes-to_le_bytes_2, from_le_bytes-to_le_bytes_4}
use Rattle.dr_base.specs.declared.syntax.Syntax.{Syntax}
use Rattle.dr_base.specs.declared.syntax.Syntax.TheVariants.{Implicit, Explicit}
use Rattle.dr_dataset.specs.declared.fault.DataFault.{DataFault}
use Rattle.dr_dataset.specs.declared.fault.DataFault.TheVariants.{Truncated, BadVr}
use Rattle.dr_dataset.specs.declared.header.Tag.{Tag}
use Rattle.dr_dataset.specs.declared.header.Vr.{Vr}
use Rattle.dr_dataset.specs.declared.header.HeaderForm.{HeaderForm}
use Rattle.dr_dataset.specs.Elements.{is_capital, is_short, tag_text, StartsTag, StartsForm}
use Rattle.dr_dataset.specs.Reading.{is_byte, short_of, long_of, tag_of, form_with, lettered_form_of, are_capitals, explicit_form_of, form_of}

pub if_some : {X : Type 0} (b : Bool) (x y : X) → cond b (Some x) None ≡ Some y → (b ≡ true) × (x ≡ y)
if_some true x y e = (refl, cc)
if_some false x y e = absurd (cc)

pub both : (a b : Bool) → a && b ≡ true → (a ≡ true) × (b ≡ true)
both true b e = (refl, e)
both false b e = absurd (cc)

is_byte-true : (a : ℕ) → a < 256 → is_byte a ≡ true
is_byte-true a h = lt-ltb a 256 h

two_cells : (a b n : ℕ) → a < 256 → b < 256 → n ≡ from_le_bytes w16 (a ∷ b ∷ []) → (n < 2 ^ 16) × (to_le_bytes w16 n ≡ a ∷ b ∷ [])
two_cells a b n ha hb e =
    let low : n % 256 ≡ a = omega (arith, e) in
    let high : n / 256 ^ 1 % 256 ≡ b = omega (arith, e) in
    (omega (arith, e), rw (low, high) refl)

four_cells : (a b c d n : ℕ) → a < 256 → b < 256 → c < 256 → d < 256 → n ≡ from_le_bytes w32 (a ∷ b ∷ c ∷ d ∷ []) → (n < 2 ^ 32) × (to_le_bytes w32 n ≡ a ∷ b ∷ c ∷ d ∷ [])
four_cells a b c d n ha hb hc hd e =
    let h : n % 256 ≡ a = omega (arith, e) in
    let i : n / 256 ^ 1 % 256 ≡ b = omega (arith, e) in
    let j : n / 256 ^ 2 % 256 ≡ c = omega (arith, e) in
    let k : n / 256 ^ 3 % 256 ≡ d = omega (arith, e) in
    (omega (arith, e), rw (h, i, j, k) refl)

pub short_sound : (text : List ℕ) (n : ℕ) (rest : List ℕ) → short_of text ≡ Some (n, rest) → (n < 2 ^ 16) × (text ≡ to_le_bytes w16 n ++ rest)
short_sound [] n rest e = absurd (cc)
short_sound (a ∷ []) n rest e = absurd (cc)
short_sound (a ∷ b ∷ more) n rest e =
    let i = if_some (is_byte a && is_byte b) (from_le_bytes w16 (a ∷ b ∷ []), more) (n, rest) e in
    let bs = both (is_byte a) (is_byte b) i.0 in
    let cells = two_cells a b n (ltb-true a 256 bs.0) (ltb-true b 256 bs.1) (ap (λ (p : ℕ × List ℕ). p.0) (sym i.1)) in
    let same : more ≡ rest = ap (λ (p : ℕ × List ℕ). p.1) i.1 in
    (cells.0, ap (λ (r : List ℕ). a ∷ b ∷ r) same ∙ ap (λ (c : List ℕ). c ++ rest) (sym cells.1))

pub short_whole : (n : ℕ) (rest : List ℕ) → n < 2 ^ 16 → short_of (to_le_bytes w16 n ++ rest) ≡ Some (n, rest)
short_whole n rest h =
    let low : is_byte (n % 256) ≡ true = is_byte-true _ (omega arith) in
    let high : is_byte (n / 256 ^ 1 % 256) ≡ true = is_byte-true _ (omega arith) in
    let number : from_le_bytes w16 (to_le_bytes w16 n) ≡ n = omega (arith, h) in
    rw (low, high, number) refl

pub long_sound : (text : List ℕ) (n : ℕ) (rest : List ℕ) → long_of text ≡ Some (n, rest) → (n < 2 ^ 32) × (text ≡ to_le_bytes w32 n ++ rest)
long_sound [] n rest e = absurd (cc)
long_sound (a ∷ []) n rest e = absurd (cc)
long_sound (a ∷ b ∷ []) n rest e = absurd (cc)
long_sound (a ∷ b ∷ c ∷ []) n rest e = absurd (cc)
long_sound (a ∷ b ∷ c ∷ d ∷ more) n rest e =
    let i = if_some ((is_byte a && is_byte b) && (is_byte c && is_byte d)) (from_le_bytes w32 (a ∷ b ∷ c ∷ d ∷ []), more) (n, rest) e in
    let halves = both (is_byte a && is_byte b) (is_byte c && is_byte d) i.0 in
    let low = both (is_byte a) (is_byte b) halves.0 in
    let high = both (is_byte c) (is_byte d) halves.1 in
    let cells = four_cells a b c d n (ltb-true a 256 low.0) (ltb-true b 256 low.1) (ltb-true c 256 high.0) (ltb-true d 256 high.1) (ap (λ (p : ℕ × List ℕ). p.0) (sym i.1)) in
    let same : more ≡ rest = ap (λ (p : ℕ × List ℕ). p.1) i.1 in
    (cells.0, ap (λ (r : List ℕ). a ∷ b ∷ c ∷ d ∷ r) same ∙ ap (λ (x : List ℕ). x ++ rest) (sym cells.1))

pub long_whole : (n : ℕ) (rest : List ℕ) → n < 2 ^ 32 → long_of (to_le_bytes w32 n ++ rest) ≡ Some (n, rest)
long_whole n rest h =
    let i : is_byte (n % 256) ≡ true = is_byte-true _ (omega arith) in
    let j : is_byte (n / 256 ^ 1 % 256) ≡ true = is_byte-true _ (omega arith) in
    let k : is_byte (n / 256 ^ 2 % 256) ≡ true = is_byte-true _ (omega arith) in
    let l : is_byte (n / 256 ^ 3 % 256) ≡ true = is_byte-true _ (omega arith) in
    let number : from_le_bytes w32 (to_le_bytes w32 n) ≡ n = from_le_bytes-to_le_bytes_4 n h in
    rw (i, j, k, l, number) refl

pub tag_sound : (text : List ℕ) (t : Tag) (rest : List ℕ) → tag_of text ≡ Some (t, rest) → StartsTag text t rest
tag_sound [] t rest e = absurd (cc)
tag_sound (a ∷ []) t rest e = absurd (cc)
tag_sound (a ∷ b ∷ []) t rest e = absurd (cc)
tag_sound (a ∷ b ∷ c ∷ []) t rest e = absurd (cc)
tag_sound (a ∷ b ∷ c ∷ d ∷ more) t rest e =
    let here : Tag = record { group = from_le_bytes w16 (a ∷ b ∷ []); element = from_le_bytes w16 (c ∷ d ∷ []) } in
    let i = if_some ((is_byte a && is_byte b) && (is_byte c && is_byte d)) (here, more) (t, rest) e in
    let halves = both (is_byte a && is_byte b) (is_byte c && is_byte d) i.0 in
    let low = both (is_byte a) (is_byte b) halves.0 in
    let high = both (is_byte c) (is_byte d) halves.1 in
    let same_tag : here ≡ t = ap (λ (p : Tag × List ℕ). p.0) i.1 in
    let same_rest : more ≡ rest = ap (λ (p : Tag × List ℕ). p.1) i.1 in
    let group = two_cells a b t.group (ltb-true a 256 low.0) (ltb-true b 256 low.1) (ap (λ (x : Tag). x.group) (sym same_tag)) in
    let element = two_cells c d t.element (ltb-true c 256 high.0) (ltb-true d 256 high.1) (ap (λ (x : Tag). x.element) (sym same_tag)) in
    (group.0, element.0, ap (λ (r : List ℕ). a ∷ b ∷ c ∷ d ∷ r) same_rest ∙ ap (λ (x : List ℕ). (x ++ (c ∷ d ∷ [])) ++ rest) (sym group.1) ∙ ap (λ (x : List ℕ). (to_le_bytes w16 t.group ++ x) ++ rest) (sym element.1))

pub tag_whole : (text : List ℕ) (t : Tag) (rest : List ℕ) → StartsTag text t rest → tag_of text ≡ Some (t, rest)
tag_whole text t rest (g, e, is) =
    let i : is_byte (t.group % 256) ≡ true = is_byte-true _ (omega arith) in
    let j : is_byte (t.group / 256 ^ 1 % 256) ≡ true = is_byte-true _ (omega arith) in
    let k : is_byte (t.element % 256) ≡ true = is_byte-true _ (omega arith) in
    let l : is_byte (t.element / 256 ^ 1 % 256) ≡ true = is_byte-true _ (omega arith) in
    let group : from_le_bytes w16 (to_le_bytes w16 t.group) ≡ t.group = from_le_bytes-to_le_bytes_2 t.group g in
    let element : from_le_bytes w16 (to_le_bytes w16 t.element) ≡ t.element = from_le_bytes-to_le_bytes_2 t.element e in
    let here : tag_of (tag_text t ++ rest) ≡ Some (t, rest) = rw (i, j, k, l, group, element) refl in
    ap tag_of is ∙ here

-- ---- what stands behind a tag

some_pair : (a c : ℕ) (b d : List ℕ) → a ≡ c → b ≡ d → ◌≡◌ {A = Option (ℕ × List ℕ)} (Some (a, b)) (Some (c, d))
some_pair a c b d e f = ap (λ (n : ℕ). Some (n, b)) e ∙ ap (λ (r : List ℕ). Some (c, r)) f

ok_form : (f g : HeaderForm) (b d : List ℕ) → ◌≡◌ {A = Result (HeaderForm × List ℕ) DataFault} (Ok (f, b)) (Ok (g, d)) → (f ≡ g) × (b ≡ d)
ok_form f g b d e =
    let same : ◌≡◌ {A = HeaderForm × List ℕ} (f, b) (g, d) = cc in
    (ap (λ (q : HeaderForm × List ℕ). q.0) same, ap (λ (q : HeaderForm × List ℕ). q.1) same)

with_sound : (v : Option Vr) (o : Option (ℕ × List ℕ)) (f : HeaderForm) (rest : List ℕ) → form_with v o ≡ Ok (f, rest) → (f.vr ≡ v) × (o ≡ Some (f.len, rest))
with_sound v None f rest e = absurd (cc)
with_sound v (Some p) f rest e =
    let same = ok_form (record { vr = v; len = p.0 }) f p.1 rest e in
    (sym (ap (λ (x : HeaderForm). x.vr) same.0), some_pair p.0 f.len p.1 rest (ap (λ (x : HeaderForm). x.len) same.0) same.1)

-- the letters and the length that an explicit form has
abbrev IsLettered : Bool → Bool → Vr → List ℕ → HeaderForm → List ℕ → Type 0
IsLettered capitals short v text f rest = (capitals ≡ true) × (f.vr ≡ Some v)
    × (((short ≡ true) × (f.len < 2 ^ 16) × (text ≡ to_le_bytes w16 f.len ++ rest))
    ⊎ ((r s : ℕ) × (short ≡ false) × (f.len < 2 ^ 32) × (text ≡ r ∷ s ∷ (to_le_bytes w32 f.len ++ rest))))

lettered_sound : (capitals short : Bool) (v : Vr) (text : List ℕ) (f : HeaderForm) (rest : List ℕ) → lettered_form_of capitals short v text ≡ Ok (f, rest) → IsLettered capitals short v text f rest
lettered_sound false short v text f rest e = absurd (cc)
lettered_sound true true v text f rest e =
    let w = with_sound (Some v) (short_of text) f rest e in
    let s = short_sound text f.len rest w.1 in
    (refl, w.0, inl (refl, s.0, s.1))
lettered_sound true false v [] f rest e = absurd (cc)
lettered_sound true false v (r ∷ []) f rest e = absurd (cc)
lettered_sound true false v (r ∷ s ∷ text) f rest e =
    let w = with_sound (Some v) (long_of text) f rest e in
    let l = long_sound text f.len rest w.1 in
    (refl, w.0, inr (r, s, refl, l.0, ap (λ (x : List ℕ). r ∷ s ∷ x) l.1))

pub form_sound : (s : Syntax) (text : List ℕ) (f : HeaderForm) (rest : List ℕ) → form_of s text ≡ Ok (f, rest) → StartsForm s text f rest
form_sound Implicit text f rest e =
    let w = with_sound None (long_of text) f rest e in
    let l = long_sound text f.len rest w.1 in
    (w.0, l.0, l.1)
form_sound Explicit [] f rest e = absurd (cc)
form_sound Explicit (a ∷ []) f rest e = absurd (cc)
form_sound Explicit (a ∷ b ∷ text) f rest e =
    let v : Vr = record { first = a; second = b } in
    let l = lettered_sound (are_capitals v) (is_short v) v text f rest e in
    (v, l.1, l.0, elim l.2 [ inl h ↦ inl (h.0, h.1, ap (λ (x : List ℕ). a ∷ b ∷ x) h.2) | inr h ↦ inr (h.0, h.1, h.2, h.3, ap (λ (x : List ℕ). a ∷ b ∷ x) h.4) ])

whole_with : (f : HeaderForm) (v : Option Vr) (rest : List ℕ) → f.vr ≡ v → form_with v (Some (f.len, rest)) ≡ Ok (f, rest)
whole_with f v rest e = ap (λ (x : Option Vr). Ok (record { vr = x; len = f.len }, rest)) (sym e)

pub form_whole : (s : Syntax) (text : List ℕ) (f : HeaderForm) (rest : List ℕ) → StartsForm s text f rest → form_of s text ≡ Ok (f, rest)
form_whole Implicit text f rest (v, h, e) =
    ap (λ (x : List ℕ). form_with None (long_of x)) e ∙ ap (λ (o : Option (ℕ × List ℕ)). form_with None o) (long_whole f.len rest h) ∙ whole_with f None rest v
form_whole Explicit text f rest (v, is, capitals, inl (short, h, e)) =
    ap explicit_form_of e ∙ ap (λ (c : Bool). lettered_form_of c (is_short v) v (to_le_bytes w16 f.len ++ rest)) capitals
    ∙ ap (λ (c : Bool). lettered_form_of true c v (to_le_bytes w16 f.len ++ rest)) short
    ∙ ap (λ (o : Option (ℕ × List ℕ)). form_with (Some v) o) (short_whole f.len rest h) ∙ whole_with f (Some v) rest is
form_whole Explicit text f rest (v, is, capitals, inr (r, s, short, h, e)) =
    ap explicit_form_of e ∙ ap (λ (c : Bool). lettered_form_of c (is_short v) v (r ∷ s ∷ (to_le_bytes w32 f.len ++ rest))) capitals
    ∙ ap (λ (c : Bool). lettered_form_of true c v (r ∷ s ∷ (to_le_bytes w32 f.len ++ rest))) short
    ∙ ap (λ (o : Option (ℕ × List ℕ)). form_with (Some v) o) (long_whole f.len rest h) ∙ whole_with f (Some v) rest is

with_faults : (v : Option Vr) (o : Option (ℕ × List ℕ)) (fault : DataFault) → form_with v o ≡ Err fault → fault ≡ Truncated
with_faults v None fault e = cc
with_faults v (Some p) fault e = absurd (cc)

-- a form is cut, or its letters are no capitals
abbrev pub IsFormFault : Syntax → List ℕ → DataFault → Type 0
IsFormFault s text fault = (fault ≡ Truncated)
    ⊎ ((fault ≡ BadVr) × (s ≡ Explicit) × (a b : ℕ) × (rest : List ℕ) × (text ≡ a ∷ b ∷ rest) × (is_capital a && is_capital b ≡ false))

lettered_faults : (capitals short : Bool) (v : Vr) (text : List ℕ) (fault : DataFault) → lettered_form_of capitals short v text ≡ Err fault → (fault ≡ Truncated) ⊎ ((fault ≡ BadVr) × (capitals ≡ false))
lettered_faults false short v text fault e = inr (cc, refl)
lettered_faults true true v text fault e = inl (with_faults (Some v) (short_of text) fault e)
lettered_faults true false v [] fault e = inl cc
lettered_faults true false v (r ∷ []) fault e = inl cc
lettered_faults true false v (r ∷ s ∷ text) fault e = inl (with_faults (Some v) (long_of text) fault e)

pub form_faults : (s : Syntax) (text : List ℕ) (fault : DataFault) → form_of s text ≡ Err fault → IsFormFault s text fault
form_faults Implicit text fault e = inl (with_faults None (long_of text) fault e)
form_faults Explicit [] fault e = inl cc
form_faults Explicit (a ∷ []) fault e = inl cc
form_faults Explicit (a ∷ b ∷ rest) fault e =
    let v : Vr = record { first = a; second = b } in
    elim (lettered_faults (are_capitals v) (is_short v) v rest fault e) [ inl h ↦ inl h | inr h ↦ inr (h.0, refl, a, b, rest, refl, h.1) ]

-- two letters that aren't capitals are a fault
pub bad_letters : (a b : ℕ) (rest : List ℕ) → is_capital a && is_capital b ≡ false → form_of Explicit (a ∷ b ∷ rest) ≡ Err BadVr
bad_letters a b rest h =
    let v : Vr = record { first = a; second = b } in
    ap (λ (c : Bool). lettered_form_of c (is_short v) v rest) h
