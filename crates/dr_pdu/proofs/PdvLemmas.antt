-- PDVs in a text.
use Rattle.std.proofs.Common.{◌≡◌, ℕ, ◌+◌, ◌-◌, ◌*◌, ◌/◌, ◌%◌, ◌^◌, List, [], ◌++◌, length, get_or, take, drop, refl, sym, ap, ◌∙◌, arith}
use Rattle.std.proofs.lemmas.List.{take_at, drop_at}
use Rattle.dr_pdu.specs.declared.pdu.Pdv.{Pdv}
use Rattle.dr_pdu.specs.Items.{pdv_text, StartsPdv}
use Rattle.dr_base.specs.Runs.{AreParts}

front_pdv : List ℕ → Pdv × List ℕ
front_pdv text =
    let n = ((get_or text 0 0 * 256 + get_or text 1 0) * 256 + get_or text 2 0) * 256 + get_or text 3 0 in
    (record { id = get_or text 4 0; header = get_or text 5 0; fragment = take (n - 2) (drop 6 text) }, drop (n - 2) (drop 6 text))

start_is : (text : List ℕ) (p : Pdv) (rest : List ℕ) → StartsPdv text p rest → (p, rest) ≡ front_pdv text
unfolding front_pdv
start_is text p rest s =
    let n = 2 + length p.fragment in
    let number : ((n / 256 ^ 3 % 256 * 256 + n / 256 ^ 2 % 256) * 256 + n / 256 ^ 1 % 256) * 256 + n % 256 ≡ n = omega (arith, s.0) in
    let short : n - 2 ≡ length p.fragment = omega arith in
    let here : front_pdv (pdv_text p ++ rest) ≡ (p, rest) =
    rw (number, short, take_at p.fragment rest (length p.fragment) refl, drop_at p.fragment rest (length p.fragment) refl) refl in
    sym here ∙ ap front_pdv (sym s.1)

nothing_starts : (p : Pdv) (rest : List ℕ) → StartsPdv [] p rest → ⊥
nothing_starts p rest s = let e = s.1 in cc

pub pdv_parts : AreParts StartsPdv
pdv_parts = record {
  one = λ text x y a b p q. start_is text x a p ∙ sym (start_is text y b q);
  some = nothing_starts;
}
