-- What the first 68 bytes of an association's body say.
use Rattle.std.proofs.Common.{◌≡◌, ℕ, ◌+◌, ◌-◌, ◌*◌, ◌/◌, ◌%◌, ◌^◌, ◌≤◌, List, [], ◌∷◌, ◌++◌, length, get_or, take, drop, refl, sym, ap, ◌∙◌, arith}
use Rattle.std.specs.Int.{w16, to_be_bytes}
use Rattle.std.proofs.lemmas.List.{take_rest, take_at, drop_at, take-append-drop, length-take-le, length-drop, length-append}
use Rattle.dr_pdu.specs.declared.pdu.Front.{Front}
use Rattle.dr_base.specs.Padding.{trimmed}
use Rattle.dr_pdu.specs.Grammar.{IsFront}
use Rattle.dr_pdu.proofs.Bytes.{IsBytes, front4, two_bytes}

-- the front that a text begins with, if it does, and what follows it
front_text : List ℕ → Front × List ℕ
front_text body =
    let text = drop 4 body in
    let later = drop 16 text in
    let last = drop 16 later in
    (record { version = get_or body 0 0 * 256 + get_or body 1 0; called = trimmed (take 16 text); calling = trimmed (take 16 later); reserved = take 32 last }, drop 32 last)

front_is : (body : List ℕ) (f : Front) (rest : List ℕ) → IsFront body f rest → (f, rest) ≡ front_text body
unfolding front_text
front_is body f rest (r, s, called, calling, small, ca, cl, re, tca, tcl, e) =
    let v = f.version in
    let number : v / 256 ^ 1 % 256 * 256 + v % 256 ≡ v = omega (arith, small) in
    let last = f.reserved ++ rest in
    let later = calling ++ last in
    let here : front_text (to_be_bytes w16 v ++ r ∷ s ∷ (called ++ later)) ≡ (f, rest) =
    rw (number, take_at called later 16 ca, drop_at called later 16 ca, take_at calling last 16 cl, drop_at calling last 16 cl, take_at f.reserved rest 32 re, drop_at f.reserved rest 32 re, tca, tcl) refl in
    sym here ∙ ap front_text (sym e)

-- a text has one front at most
pub same_front_part : (body : List ℕ) (f g : Front) (rest rest' : List ℕ) → IsFront body f rest → IsFront body g rest' → ◌≡◌ {A = Front × List ℕ} (f, rest) (g, rest')
same_front_part body f g rest rest' p q = front_is body f rest p ∙ sym (front_is body g rest' q)

-- and it is long
pub front_is_long : (body : List ℕ) (f : Front) (rest : List ℕ) → IsFront body f rest → 68 ≤ length body
front_is_long body f rest (r, s, called, calling, small, ca, cl, re, tca, tcl, e) =
    let whole = ap (λ (t : List ℕ). length t) e in
    omega (arith, whole, length-append called (calling ++ (f.reserved ++ rest)), length-append calling (f.reserved ++ rest), length-append f.reserved rest)

-- 68 bytes and more begin with a front
pub front_read : (body text : List ℕ) (f : Front) → text ≡ take (length body - 4) (drop 4 body) → 4 ≤ length body → 64 ≤ length text → IsBytes body
    → f.version ≡ get_or body 0 0 * 256 + get_or body 1 0 → trimmed (take 16 text) ≡ f.called → trimmed (take 16 (drop 16 text)) ≡ f.calling → f.reserved ≡ take 32 (drop 16 (drop 16 text))
    → IsFront body f (drop 32 (drop 16 (drop 16 text)))
front_read body text f is long more bytes number called calling reserved =
    let v = f.version in
    let later = drop 16 text in
    let last = drop 16 later in
    let r = get_or body 2 0 in
    let s = get_or body 3 0 in
    let n1 : length later ≡ length text - 16 = length-drop 16 text in
    let n2 : length last ≡ length later - 16 = length-drop 16 later in
    let l1 : length (take 16 text) ≡ 16 = length-take-le 16 text (omega arith) in
    let l2 : length (take 16 later) ≡ 16 = length-take-le 16 later (omega arith) in
    let l3 : length (take 32 last) ≡ 32 = length-take-le 32 last (omega arith) in
    let parts : drop 4 body ≡ take 16 text ++ (take 16 later ++ (f.reserved ++ drop 32 last)) =
    sym (take_rest body 4) ∙ sym is ∙ sym (take-append-drop 16 text) ∙ ap (λ (t : List ℕ). take 16 text ++ t) (sym (take-append-drop 16 later))
    ∙ ap (λ (t : List ℕ). take 16 text ++ (take 16 later ++ t)) (sym (take-append-drop 32 last))
    ∙ ap (λ (t : List ℕ). take 16 text ++ (take 16 later ++ (t ++ drop 32 last))) (sym reserved) in
    let first : to_be_bytes w16 v ≡ get_or body 0 0 ∷ get_or body 1 0 ∷ [] = two_bytes _ _ v (bytes 0) (bytes 1) number in
    let whole : body ≡ to_be_bytes w16 v ++ r ∷ s ∷ (take 16 text ++ (take 16 later ++ (f.reserved ++ drop 32 last))) =
    front4 body long ∙ ap (λ (bs : List ℕ). bs ++ r ∷ s ∷ drop 4 body) (sym first) ∙ ap (λ (t : List ℕ). to_be_bytes w16 v ++ r ∷ s ∷ t) parts in
    (r, s, take 16 text, take 16 later, omega (arith, bytes 0, bytes 1), l1, l2, ap (λ (t : List ℕ). length t) reserved ∙ l3, called, calling, whole)
