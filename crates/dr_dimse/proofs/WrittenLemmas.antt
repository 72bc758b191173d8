-- What is written is read again.
use Rattle.std.proofs.Common.{◌≡◌, ℕ, ◌<◌, ◌≤◌, ◌^◌, Bool, true, false, cond, leb, List, [], ◌∷◌, ◌++◌, length, Option, Some, None, refl, sym, subst, arith, inl, inr}
use Rattle.std.specs.Int.{w16, to_le_bytes}
use Rattle.std.specs.List.{AllByRecursion}
use Rattle.std.proofs.lemmas.Bool.{le-leb, lt-leb}
use Rattle.dr_base.specs.Runs.{Run}
use Rattle.dr_dimse.specs.declared.command.Command.{Command}
use Rattle.dr_dimse.specs.declared.command.Command.TheVariants.{StoreRq, StoreRsp, EchoRq, EchoRsp, Other}
use Rattle.dr_dimse.specs.Commands.{CommandElement, StartsCommandElement, first_value, HasNoName, Announces, IsCommand}
use Rattle.dr_dimse.specs.Written.{even, number_element, data_element, if_some, elements_of, element_texts, group_length, written, IsNumber, FieldFits, CommandFits}
use Rattle.dr_dimse.proofs.TextLemmas.{unpadded_even, even_short, uid_unpadded}

abbrev IsElement : CommandElement → Type 0
IsElement e = (e.number < 2 ^ 16) × (length e.value < 0xFFFFFFFF)

run_elements : (es : List CommandElement) → AllByRecursion IsElement es → Run StartsCommandElement es (element_texts es) []
run_elements [] h = refl
run_elements (e ∷ es) h = (element_texts es, (h.0.0, h.0.1, refl), run_elements es h.1)

-- a text of up to 16,384 bytes makes an element
text_small : (t : List ℕ) → length t ≤ 16384 → length (even t) < 0xFFFFFFFF
text_small t h = omega (arith, h, even_short t)

follows : (es : List CommandElement) (b : Bool) → first_value 0x0800 es ≡ Some (to_le_bytes w16 (cond b 0x0001 0x0101)) → Announces es b
follows es true e = (0x0001, (omega arith, e), refl)
follows es false e = (0x0101, (omega arith, e), refl)

abbrev whole : List CommandElement → List CommandElement
whole es = group_length es ∷ es

store_request : (id : ℕ) (class instance : List ℕ) → CommandFits (StoreRq id class instance) → IsCommand (written (StoreRq id class instance)) (StoreRq id class instance)
store_request id class instance (n, u, v) =
    let es = whole (elements_of (StoreRq id class instance)) in
    let run = run_elements es ((omega arith, omega arith), ((omega arith, text_small class (omega (arith, u.1))), ((omega arith, omega arith), ((omega arith, omega arith), ((omega arith, omega arith), ((omega arith, omega arith), ((omega arith, text_small instance (omega (arith, v.1))), tt))))))) in (
      es,
      run,
      (refl, refl, tt, refl, refl, tt, tt),
      (
        (omega arith, refl),
        (0x0001, (omega arith, refl), refl),
        inr (inl ((λ e. omega (arith, e)), omega arith, (id, refl, (n, refl)), refl)),
        (sym (unpadded_even class (uid_unpadded class u)), sym (unpadded_even instance (uid_unpadded instance v)), u, v),
      ),
    )

store_answer : (to status : ℕ) (class instance : List ℕ) (d : Bool) → CommandFits (StoreRsp to status class instance d) → IsCommand (written (StoreRsp to status class instance d)) (StoreRsp to status class instance d)
store_answer to status class instance d (n, m, u, v) =
    let es = whole (elements_of (StoreRsp to status class instance d)) in
    let run = run_elements es ((omega arith, omega arith), ((omega arith, text_small class u.1), ((omega arith, omega arith), ((omega arith, omega arith), ((omega arith, omega arith), ((omega arith, omega arith), ((omega arith, text_small instance v.1), tt))))))) in (
      es,
      run,
      (refl, tt, refl, tt, refl, refl, tt),
      (
        (omega arith, refl),
        follows es d refl,
        inr (inr (omega arith, (to, refl, (n, refl)), (status, refl, (m, refl)))),
        (sym (unpadded_even class u.0), sym (unpadded_even instance v.0)),
      ),
    )

echo_request : (id : ℕ) (class : List ℕ) (d : Bool) → CommandFits (EchoRq id class d) → IsCommand (written (EchoRq id class d)) (EchoRq id class d)
echo_request id class d (n, u) =
    let es = whole (elements_of (EchoRq id class d)) in
    let run = run_elements es ((omega arith, omega arith), ((omega arith, text_small class u.1), ((omega arith, omega arith), ((omega arith, omega arith), ((omega arith, omega arith), tt))))) in
    (es, run, (refl, refl, tt, tt, refl, tt, tt), ((omega arith, refl), follows es d refl, inr (inl ((λ e. omega (arith, e)), omega arith, (id, refl, (n, refl)), refl)), sym (unpadded_even class u.0)))

echo_answer : (to status : ℕ) (class : List ℕ) (d : Bool) → CommandFits (EchoRsp to status class d) → IsCommand (written (EchoRsp to status class d)) (EchoRsp to status class d)
echo_answer to status class d (n, m, u) =
    let es = whole (elements_of (EchoRsp to status class d)) in
    let run = run_elements es ((omega arith, omega arith), ((omega arith, text_small class u.1), ((omega arith, omega arith), ((omega arith, omega arith), ((omega arith, omega arith), ((omega arith, omega arith), tt)))))) in
    (es, run, (refl, tt, refl, tt, refl, refl, tt), ((omega arith, refl), follows es d refl, inr (inr (omega arith, (to, refl, (n, refl)), (status, refl, (m, refl)))), sym (unpadded_even class u.0)))

-- the elements of another command, whose kind decides the number of its id
abbrev others : Bool → ℕ → Option ℕ → Option ℕ → Bool → List CommandElement
others b field id status d = number_element 0x0100 field ∷ (if_some (cond b 0x0120 0x0110) id ++ (data_element d ∷ if_some 0x0900 status))

other : (field : ℕ) (id status : Option ℕ) (d : Bool) → IsNumber field → HasNoName field → FieldFits field id status → IsCommand (written (Other field id status d)) (Other field id status d)
other field None None d n names (inl h) =
    let es = whole (elements_of (Other field None None d)) in
    let run = run_elements es ((omega arith, omega arith), ((omega arith, omega arith), ((omega arith, omega arith), tt))) in
    (es, run, (refl, tt, tt, tt, refl, tt, tt), ((n, refl), follows es d refl, inl (h.0, refl, refl), names))
other field (Some i) None d n names (inr (inl (cancel, small, has, none))) =
    let test : leb 0x8000 field ≡ false = lt-leb 0x8000 field small in
    let es = whole (others false field (Some i) None d) in
    let run = run_elements es ((omega arith, omega arith), ((omega arith, omega arith), ((omega arith, omega arith), ((omega arith, omega arith), tt)))) in
    let number : IsNumber i = number_is has in
    let it : IsCommand (element_texts es) (Other field (Some i) None d) =
    (es, run, (refl, refl, tt, tt, refl, tt, tt), ((n, refl), follows es d refl, inr (inl (cancel, small, (i, refl, (number, refl)), refl)), names)) in
    subst (λ (b : Bool). IsCommand (element_texts (whole (others b field (Some i) None d))) (Other field (Some i) None d)) (sym test) it
  where
    number_is : (m : ℕ) × (Some i ≡ Some m) × IsNumber m → IsNumber i
    number_is (m, e, h) = let same : m ≡ i = cc in subst IsNumber same h
other field (Some i) (Some q) d n names (inr (inr (large, has, has'))) =
    let test : leb 0x8000 field ≡ true = le-leb 0x8000 field large in
    let es = whole (others true field (Some i) (Some q) d) in
    let run = run_elements es ((omega arith, omega arith), ((omega arith, omega arith), ((omega arith, omega arith), ((omega arith, omega arith), ((omega arith, omega arith), tt))))) in
    let it : IsCommand (element_texts es) (Other field (Some i) (Some q) d) =
    (es, run, (refl, tt, refl, tt, refl, refl, tt), ((n, refl), follows es d refl, inr (inr (large, (i, refl, (number_is i has, refl)), (q, refl, (number_is q has', refl)))), names)) in
    subst (λ (b : Bool). IsCommand (element_texts (whole (others b field (Some i) (Some q) d))) (Other field (Some i) (Some q) d)) (sym test) it
  where
    number_is : (k : ℕ) → (m : ℕ) × (Some k ≡ Some m) × IsNumber m → IsNumber k
    number_is k (m, e, h) = let same : m ≡ k = cc in subst IsNumber same h
other field (Some i) status d n names (inl h) = let e = h.1 in absurd (cc)
other field None (Some q) d n names (inl h) = let e = h.2 in absurd (cc)
other field None status d n names (inr (inl h)) = let e = h.2.1 in absurd (cc)
other field (Some i) (Some q) d n names (inr (inl h)) = let e = h.3 in absurd (cc)
other field None status d n names (inr (inr h)) = let e = h.1.1 in absurd (cc)
other field (Some i) None d n names (inr (inr h)) = let e = h.2.1 in absurd (cc)

pub written_reads : (c : Command) → CommandFits c → IsCommand (written c) c
written_reads (StoreRq id class instance) f = store_request id class instance f
written_reads (StoreRsp to status class instance d) f = store_answer to status class instance d f
written_reads (EchoRq id class d) f = echo_request id class d f
written_reads (EchoRsp to status class d) f = echo_answer to status class d f
written_reads (Other field id status d) f = other field id status d f.0 f.1 f.2
