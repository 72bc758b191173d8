-- What the elements of a text say is one command at most.
use Rattle.std.proofs.Common.{◌≡◌, ℕ, ◌≤◌, Bool, not, eqb, List, [], Option, Some, sym, ap, subst, ◌∙◌, arith, inl, inr}
use Rattle.std.specs.Int.{w16, to_le_bytes, from_le_bytes}
use Rattle.std.proofs.lemmas.Nat.{from_le_bytes-to_le_bytes_2}
use Rattle.dr_base.specs.Runs.{Run}
use Rattle.dr_base.proofs.RunLemmas.{run_same}
use Rattle.dr_dimse.specs.declared.command.Command.{Command}
use Rattle.dr_dimse.specs.declared.command.Command.TheVariants.{StoreRq, StoreRsp, EchoRq, EchoRsp, Other}
use Rattle.dr_dimse.specs.Commands.{CommandElement, StartsCommandElement, HasNumber, AreNumbers, field_of, announces, id_of, status_of, Announces, HasIds, HasTexts, SayCommand, IsCommand}
use Rattle.dr_dimse.proofs.ElementLemmas.{element_parts}

pub same_elements : (es fs : List CommandElement) (text : List ℕ) → Run StartsCommandElement es text [] → Run StartsCommandElement fs text [] → fs ≡ es
same_elements = run_same StartsCommandElement element_parts

pub one_number : (es : List CommandElement) (number n m : ℕ) → HasNumber es number n → HasNumber es number m → n ≡ m
one_number es number n m h k =
    let e : Some (to_le_bytes w16 n) ≡ Some (to_le_bytes w16 m) = sym h.1 ∙ k.1 in
    let same : to_le_bytes w16 n ≡ to_le_bytes w16 m = cc in
    sym (from_le_bytes-to_le_bytes_2 n h.0) ∙ ap (from_le_bytes w16) same ∙ from_le_bytes-to_le_bytes_2 m k.0

pub one_follows : (es : List CommandElement) (b d : Bool) → Announces es b → Announces es d → b ≡ d
one_follows es b d (n, h, e) (m, k, f) = e ∙ ap (λ (x : ℕ). not (eqb x 0x0101)) (one_number es 0x0800 n m h k) ∙ sym f

some_of : (es : List CommandElement) (number : ℕ) (o p : Option ℕ) → (n : ℕ) × (o ≡ Some n) × HasNumber es number n → (n : ℕ) × (p ≡ Some n) × HasNumber es number n → o ≡ p
some_of es number o p (n, e, h) (m, f, k) = e ∙ ap Some (one_number es number n m h k) ∙ sym f

pub one_ids : (es : List CommandElement) (field : ℕ) (i j s t : Option ℕ) → HasIds es field i s → HasIds es field j t → (i ≡ j) × (s ≡ t)
one_ids es field i j s t (inl h) (inl k) = (h.1 ∙ sym k.1, h.2 ∙ sym k.2)
one_ids es field i j s t (inr (inl h)) (inr (inl k)) = (some_of es 0x0110 i j h.2 k.2, h.3 ∙ sym k.3)
one_ids es field i j s t (inr (inr h)) (inr (inr k)) = (some_of es 0x0120 i j h.1 k.1, some_of es 0x0900 s t h.2 k.2)
one_ids es field i j s t (inl h) (inr (inl k)) = absurd (k.0 h.0)
one_ids es field i j s t (inl h) (inr (inr k)) = absurd (omega (arith, h.0, k.0))
one_ids es field i j s t (inr (inl h)) (inl k) = absurd (h.0 k.0)
one_ids es field i j s t (inr (inr h)) (inl k) = absurd (omega (arith, h.0, k.0))
one_ids es field i j s t (inr (inl h)) (inr (inr k)) = absurd (omega (arith, h.1, k.0))
one_ids es field i j s t (inr (inr h)) (inr (inl k)) = absurd (omega (arith, h.0, k.1))

-- the field, the ids and the data set type leave no choice but the texts, which the elements give
pub one_kind : (es : List CommandElement) (c d : Command) → field_of c ≡ field_of d → announces c ≡ announces d → id_of c ≡ id_of d → status_of c ≡ status_of d → HasTexts es c → HasTexts es d → c ≡ d
one_kind es (StoreRq i a b) (StoreRq j x y) f n k s h t =
    let id : i ≡ j = cc in
    let class : a ≡ x = h.0 ∙ sym t.0 in
    let instance : b ≡ y = h.1 ∙ sym t.1 in cc
one_kind es (StoreRsp i q a b m) (StoreRsp j r x y l) f n k s h t =
    let id : i ≡ j = cc in
    let status : q ≡ r = cc in
    let class : a ≡ x = h.0 ∙ sym t.0 in
    let instance : b ≡ y = h.1 ∙ sym t.1 in cc
one_kind es (EchoRq i a m) (EchoRq j x l) f n k s h t =
    let id : i ≡ j = cc in
    let class : a ≡ x = h ∙ sym t in cc
one_kind es (EchoRsp i q a m) (EchoRsp j r x l) f n k s h t =
    let id : i ≡ j = cc in
    let status : q ≡ r = cc in
    let class : a ≡ x = h ∙ sym t in cc
one_kind es (Other g i q m) (Other e j r l) f n k s h t = cc
one_kind es (Other g i q m) (StoreRq j x y) f n k s h t = absurd (h.0 f)
one_kind es (Other g i q m) (StoreRsp j r x y l) f n k s h t = absurd (h.1 f)
one_kind es (Other g i q m) (EchoRq j x l) f n k s h t = absurd (h.2 f)
one_kind es (Other g i q m) (EchoRsp j r x l) f n k s h t = absurd (h.3 f)
one_kind es (StoreRq i a b) (Other e j r l) f n k s h t = absurd (t.0 (sym f))
one_kind es (StoreRsp i q a b m) (Other e j r l) f n k s h t = absurd (t.1 (sym f))
one_kind es (EchoRq i a m) (Other e j r l) f n k s h t = absurd (t.2 (sym f))
one_kind es (EchoRsp i q a m) (Other e j r l) f n k s h t = absurd (t.3 (sym f))
one_kind es c d f n k s h t = absurd (omega (arith, f))

pub one_said : (es : List CommandElement) (c d : Command) → SayCommand es c → SayCommand es d → c ≡ d
one_said es c d h k =
    let field = one_number es 0x0100 (field_of c) (field_of d) h.0 k.0 in
    let ids = one_ids es (field_of d) (id_of c) (id_of d) (status_of c) (status_of d) (subst (λ (f : ℕ). HasIds es f (id_of c) (status_of c)) field h.2) k.2 in
    one_kind es c d field (one_follows es (announces c) (announces d) h.1 k.1) ids.0 ids.1 h.3 k.3

pub one_command : (text : List ℕ) (c d : Command) → IsCommand text c → IsCommand text d → c ≡ d
one_command text c d (es, run, are, says) (fs, run', are', says') =
    one_said es c d says (subst (λ (gs : List CommandElement). SayCommand gs d) (same_elements es fs text run run') says')

-- ---- what the readers need of a text

-- an answer has a status
pub answer_status : (es : List CommandElement) (field : ℕ) (id status : Option ℕ) → 0x8000 ≤ field → HasIds es field id status → (n : ℕ) × HasNumber es 0x0900 n
answer_status es field id status large (inl h) = absurd (omega (arith, large, h.0))
answer_status es field id status large (inr (inl h)) = absurd (omega (arith, large, h.1))
answer_status es field id status large (inr (inr h)) = (h.2.0, h.2.2)

-- the command of a text is said by the elements that were found in it
pub numbers_of : (es : List CommandElement) (text : List ℕ) (c : Command) → Run StartsCommandElement es text [] → IsCommand text c → AreNumbers es
numbers_of es text c run h = subst AreNumbers (sym (same_elements h.0 es text h.1 run)) h.2

pub said_of : (es : List CommandElement) (text : List ℕ) (c : Command) → Run StartsCommandElement es text [] → IsCommand text c → SayCommand es c
said_of es text c run h = subst (λ (fs : List CommandElement). SayCommand fs c) (sym (same_elements h.0 es text h.1 run)) h.3
