-- A command that was read can be written, and so can its answers.
use Rattle.std.proofs.Common.{◌≡◌, ℕ, ◌+◌, ◌<◌, ◌≤◌, ◌^◌, Bool, true, false, eqb, List, [], ◌∷◌, length, Option, Some, None, refl, sym, ap, subst, ◌∙◌, arith, inl, inr}
use Rattle.std.proofs.lemmas.List.{length-append}
use Rattle.dr_base.specs.Runs.{Run}
use Rattle.dr_dimse.specs.declared.command.Command.{Command}
use Rattle.dr_dimse.specs.declared.command.Command.TheVariants.{StoreRq, StoreRsp, EchoRq, EchoRsp, Other}
use Rattle.dr_dimse.specs.Commands.{CommandElement, element_text, StartsCommandElement, first_value, text_at, HasNumber, HasIds, IsCommand}
use Rattle.dr_dimse.specs.Written.{IsText, IsNumber, FieldFits, CommandFits}
use Rattle.dr_dimse.proofs.TextLemmas.{read_unpadded, read_short, uid_is_text}

-- a value is no longer than the text that its element stands in
value_short : (es : List CommandElement) (text rest : List ℕ) → Run StartsCommandElement es text rest → (number : ℕ) (v : List ℕ) → first_value number es ≡ Some v → length v ≤ length text
value_short [] text rest run number v e = absurd (cc)
value_short (x ∷ xs) text rest (after, starts, run) number v e = by_test (eqb x.number number) refl (value_short xs after rest run number v)
  where
    long : length text ≡ 8 + length x.value + length after
    long = let whole = ap (λ (t : List ℕ). length t) starts.2 in omega (arith, whole, length-append (element_text x) after)

    by_test : (b : Bool) → eqb x.number number ≡ b → (first_value number xs ≡ Some v → length v ≤ length after) → length v ≤ length text
    by_test true t on =
        let first : first_value number (x ∷ xs) ≡ Some x.value = rw t refl in
        let some : Some x.value ≡ Some v = sym first ∙ e in
        let same : x.value ≡ v = cc in
        let sizes = ap (λ (u : List ℕ). length u) same in omega (arith, sizes, long)
    by_test false t on =
        let later : first_value number (x ∷ xs) ≡ first_value number xs = rw t refl in
        omega (arith, long, on (sym later ∙ e))

text_fits : (es : List CommandElement) (text : List ℕ) (number : ℕ) → Run StartsCommandElement es text [] → length text ≤ 16384 → IsText (text_at number es)
text_fits es text number run short =
    (read_unpadded (first_value number es), omega (arith, short, read_short (first_value number es) (length text) (λ v e. value_short es text [] run number v e)))

a_text : (es : List CommandElement) (text : List ℕ) (number : ℕ) (t : List ℕ) → Run StartsCommandElement es text [] → length text ≤ 16384 → t ≡ text_at number es → IsText t
a_text es text number t run short e = subst IsText (sym e) (text_fits es text number run short)

is_number : (es : List CommandElement) (number i n : ℕ) → Some i ≡ Some n → HasNumber es number n → IsNumber i
is_number es number i n e h = let same : n ≡ i = cc in subst IsNumber same h.0

id_small : (es : List CommandElement) (field i : ℕ) (status : Option ℕ) → HasIds es field (Some i) status → IsNumber i
id_small es field i status (inl h) = let e = h.1 in absurd (cc)
id_small es field i status (inr (inl h)) = is_number es 0x0110 i h.2.0 h.2.1 h.2.2
id_small es field i status (inr (inr h)) = is_number es 0x0120 i h.1.0 h.1.1 h.1.2

status_small : (es : List CommandElement) (field q : ℕ) (id : Option ℕ) → HasIds es field id (Some q) → IsNumber q
status_small es field q id (inl h) = let e = h.2 in absurd (cc)
status_small es field q id (inr (inl h)) = let e = h.3 in absurd (cc)
status_small es field q id (inr (inr h)) = is_number es 0x0900 q h.2.0 h.2.1 h.2.2

field_fits : (es : List CommandElement) (field : ℕ) (id status : Option ℕ) → HasIds es field id status → FieldFits field id status
field_fits es field id status (inl h) = inl h
field_fits es field id status (inr (inl h)) = inr (inl (h.0, h.1, (h.2.0, h.2.1, h.2.2.0), h.3))
field_fits es field id status (inr (inr h)) = inr (inr (h.0, (h.1.0, h.1.1, h.1.2.0), (h.2.0, h.2.1, h.2.2.0)))

pub read_fits : (text : List ℕ) (c : Command) → IsCommand text c → length text ≤ 16384 → CommandFits c
read_fits text (StoreRq id class instance) (es, run, are, (f, a, ids, texts)) short = (id_small es 0x0001 id None ids, texts.2, texts.3)
read_fits text (StoreRsp to status class instance d) (es, run, are, (f, a, ids, texts)) short =
    (id_small es 0x8001 to (Some status) ids, status_small es 0x8001 status (Some to) ids, a_text es text 0x0002 class run short texts.0, a_text es text 0x1000 instance run short texts.1)
read_fits text (EchoRq id class d) (es, run, are, (f, a, ids, texts)) short = (id_small es 0x0030 id None ids, a_text es text 0x0002 class run short texts)
read_fits text (EchoRsp to status class d) (es, run, are, (f, a, ids, texts)) short =
    (id_small es 0x8030 to (Some status) ids, status_small es 0x8030 status (Some to) ids, a_text es text 0x0002 class run short texts)
read_fits text (Other field id status d) (es, run, are, (f, a, ids, texts)) short = (f.0, texts, field_fits es field id status ids)

pub store_answer_fits : (id status : ℕ) (class instance : List ℕ) (d : Bool) → CommandFits (StoreRq id class instance) → status < 2 ^ 16 → CommandFits (StoreRsp id status class instance d)
store_answer_fits id status class instance d f s = (f.0, s, uid_is_text class f.1, uid_is_text instance f.2)

pub echo_answer_fits : (id status : ℕ) (class : List ℕ) (d e : Bool) → CommandFits (EchoRq id class d) → status < 2 ^ 16 → CommandFits (EchoRsp id status class e)
echo_answer_fits id status class d e f s = (f.0, s, f.1)

pub other_answer_fits : (field id status : ℕ) (was : Option ℕ) (d e : Bool) → CommandFits (Other field (Some id) was d) → field < 0x8000 → status < 2 ^ 16 → CommandFits (Other (0x8000 + field) (Some id) (Some status) e)
other_answer_fits field id status was d e (n, names, fits) small s = (
  omega (arith, small),
  ((λ q. omega (arith, q)), (λ q. names.0 (omega (arith, q))), (λ q. omega (arith, q)), (λ q. names.2 (omega (arith, q)))),
  inr (inr (omega arith, (id, refl, by_kind fits), (status, refl, s))),
)
  where
    by_kind : FieldFits field (Some id) was → IsNumber id
    by_kind (inl h) = let e = h.1 in absurd (cc)
    by_kind (inr (inl h)) = let e = h.2.1 in let same : h.2.0 ≡ id = cc in subst IsNumber same h.2.2
    by_kind (inr (inr h)) = absurd (omega (arith, h.0, small))
