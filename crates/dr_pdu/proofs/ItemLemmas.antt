-- Items in a text.
use Rattle.std.proofs.Common.{◌≡◌, ℕ, ◌+◌, ◌-◌, ◌*◌, ◌/◌, ◌%◌, ◌^◌, ◌≤◌, List, [], ◌∷◌, ◌++◌, length, get_or, take, drop, refl, sym, ap, subst, ◌∙◌, arith}
use Rattle.std.specs.Int.{w16, to_be_bytes}
use Rattle.std.proofs.lemmas.List.{take-append-drop, length-take-le, take_rest, take_at, drop_at}
use Rattle.dr_pdu.specs.Items.{Item, item_text, StartsPduItem}
use Rattle.dr_pdu.proofs.Bytes.{IsBytes, front4, two_bytes}
use Rattle.dr_base.specs.Runs.{AreParts}

-- after the four bytes of an item's header, its body and the rest
pub starts : (text : List ℕ) (n : ℕ) → 4 ≤ length text → IsBytes text → n ≡ get_or text 2 0 * 256 + get_or text 3 0 → n ≤ length (drop 4 text)
    → StartsPduItem text (record { kind = get_or text 0 0; body = take n (drop 4 text) }) (drop n (drop 4 text))
starts text n long bytes is fits =
    let rest = drop 4 text in
    let len : length (take n rest) ≡ n = length-take-le n rest fits in
    let number : to_be_bytes w16 n ≡ get_or text 2 0 ∷ get_or text 3 0 ∷ [] = two_bytes _ _ n (bytes 2) (bytes 3) is in
    let k = get_or text 0 0 in
    let r = get_or text 1 0 in
    let whole : text ≡ item_text r (record { kind = k; body = take n rest }) ++ drop n rest =
    front4 text long ∙ ap (λ (bs : List ℕ). k ∷ r ∷ (bs ++ rest)) (sym number) ∙ ap (λ (m : ℕ). k ∷ r ∷ (to_be_bytes w16 m ++ rest)) (sym len)
    ∙ ap (λ (q : List ℕ). k ∷ r ∷ (to_be_bytes w16 (length (take n rest)) ++ q)) (sym (take-append-drop n rest)) in
    (get_or text 1 0, omega (arith, len, bytes 2, bytes 3), whole)

-- the same as the code has it
pub starts_at : (text rest : List ℕ) (n : ℕ) → rest ≡ take (length text - 4) (drop 4 text) → 4 ≤ length text → IsBytes text → n ≡ get_or text 2 0 * 256 + get_or text 3 0 → n ≤ length rest
    → StartsPduItem text (record { kind = get_or text 0 0; body = take n rest }) (drop n rest)
starts_at text rest n is long bytes number fits =
    let all : rest ≡ drop 4 text = is ∙ take_rest text 4 in
    subst (λ (r : List ℕ). StartsPduItem text (record { kind = get_or text 0 0; body = take n r }) (drop n r)) (sym all) (starts text n long bytes number (subst (λ (r : List ℕ). n ≤ length r) all fits))

-- the item that a text begins with, if it does
front_item : List ℕ → Item × List ℕ
front_item text =
    let n = get_or text 2 0 * 256 + get_or text 3 0 in
    (record { kind = get_or text 0 0; body = take n (drop 4 text) }, drop n (drop 4 text))

start_is : (text : List ℕ) (i : Item) (rest : List ℕ) → StartsPduItem text i rest → (i, rest) ≡ front_item text
unfolding front_item
start_is text i rest s =
    let n = length i.body in
    let number : n / 256 ^ 1 % 256 * 256 + n % 256 ≡ n = omega (arith, s.1) in
    let here : front_item (item_text s.0 i ++ rest) ≡ (i, rest) =
    rw (number, take_at i.body rest n refl, drop_at i.body rest n refl) refl in
    sym here ∙ ap front_item (sym s.2)

nothing_starts : (i : Item) (rest : List ℕ) → StartsPduItem [] i rest → ⊥
nothing_starts i rest s = let e = s.2 in cc

pub item_parts : AreParts StartsPduItem
item_parts = record {
  one = λ text x y a b p q. start_is text x a p ∙ sym (start_is text y b q);
  some = nothing_starts;
}
