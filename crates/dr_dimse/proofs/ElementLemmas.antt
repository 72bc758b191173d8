-- Elements in a text.
use Rattle.std.proofs.Common.{◌≡◌, ℕ, List, [], ◌∷◌, ◌++◌, length, get_or, take, drop, refl, sym, ap, ◌∙◌, arith}
use Rattle.std.specs.Int.{w16, w32, to_le_bytes, from_le_bytes}
use Rattle.std.proofs.lemmas.Nat.{from_le_bytes-to_le_bytes_2, from_le_bytes-to_le_bytes_4}
use Rattle.std.proofs.lemmas.List.{take_at, drop_at}
use Rattle.dr_base.specs.Runs.{AreParts}
use Rattle.dr_dimse.specs.Commands.{CommandElement, element_text, StartsCommandElement}

abbrev number_at : List ℕ → ℕ
number_at text = from_le_bytes w16 (get_or text 2 0 ∷ get_or text 3 0 ∷ [])

abbrev length_at : List ℕ → ℕ
length_at text = from_le_bytes w32 (get_or text 4 0 ∷ get_or text 5 0 ∷ get_or text 6 0 ∷ get_or text 7 0 ∷ [])

-- the element that a text begins with, if it does
front_element : List ℕ → CommandElement × List ℕ
front_element text = (record { number = number_at text; value = take (length_at text) (drop 8 text) }, drop (length_at text) (drop 8 text))

start_is : (text : List ℕ) (e : CommandElement) (rest : List ℕ) → StartsCommandElement text e rest → (e, rest) ≡ front_element text
unfolding front_element
start_is text e rest s =
    let n = length e.value in
    let number : from_le_bytes w16 (to_le_bytes w16 e.number) ≡ e.number = from_le_bytes-to_le_bytes_2 e.number s.0 in
    let len : from_le_bytes w32 (to_le_bytes w32 n) ≡ n = from_le_bytes-to_le_bytes_4 n (omega (arith, s.1)) in
    let here : front_element (element_text e ++ rest) ≡ (e, rest) =
    rw (number, len, take_at e.value rest n refl, drop_at e.value rest n refl) refl in
    sym here ∙ ap front_element (sym s.2)

nothing_starts : (e : CommandElement) (rest : List ℕ) → StartsCommandElement [] e rest → ⊥
nothing_starts e rest s = let is = s.2 in cc

pub element_parts : AreParts StartsCommandElement
element_parts = record {
  one = λ text x y a b p q. start_is text x a p ∙ sym (start_is text y b q);
  some = nothing_starts;
}
