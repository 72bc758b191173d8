-- Sequences and items nest by turns, so the stack has room for what a token opens, and a frame for what it ends.
use Rattle.std.proofs.Common.{◌≡◌, ◌≢◌, ℕ, ◌+◌, ◌*◌, ◌<◌, ◌≤◌, Bool, true, false, cond, ltb, eqb, List, [], ◌∷◌, length, refl, sym, ap, subst, ◌∙◌, arith, inl, inr, Option, Some, Ok}
use Rattle.std.specs.Prelude.{slice_get}
use Rattle.std.proofs.lemmas.Bool.{lt-ltb, ltb-true, eqb-false, eq-eqb, ne_eqb, cases_eq, and_parts, and_from}
use Rattle.dr_base.specs.declared.syntax.Syntax.{Syntax}
use Rattle.dr_dataset.specs.declared.header.Tag.{Tag}
use Rattle.dr_dataset.specs.declared.frame.OpenSequence.{OpenSequence}
use Rattle.dr_dataset.specs.declared.frame.OpenSequence.TheVariants.{InSequence, InItem}
use Rattle.dr_dataset.specs.declared.token.Token.{Token}
use Rattle.dr_dataset.specs.declared.token.Token.TheVariants.{Sequence, Item, ItemEnd, SequenceEnd}
use Rattle.dr_dataset.specs.Elements.{item_group}
use Rattle.dr_dataset.specs.DataSet.{has_tag, open_sequences, wants_elements}
use Rattle.dr_dataset.specs.Reading.{long_of, tag_of}
use Rattle.dr_dataset.specs.Tokens.{element_token, end_token, is_full, is_nested, token_with, token_of}
use Rattle.dr_dataset.proofs.TokenLemmas.{IsNext, token_sound}

-- how many frames there are
abbrev Counts : List OpenSequence → Type 0
Counts fs = (wants_elements fs ≡ true → length fs ≡ 2 * open_sequences fs) × (wants_elements fs ≡ false → length fs + 1 ≡ 2 * open_sequences fs) × (open_sequences fs ≤ 32)

pub counts : (fs : List OpenSequence) → is_nested fs ≡ true → Counts fs
counts [] n = (λ _. refl, λ e. absurd (cc), omega arith)
counts (InSequence t w ∷ []) n = (λ e. absurd (cc), λ _. refl, omega arith)
counts (InSequence t w ∷ InSequence u v ∷ fs) n = absurd (cc)
counts (InSequence t w ∷ InItem v ∷ fs) n =
    let p = and_parts (ltb (open_sequences fs) 32) (is_nested (InItem v ∷ fs)) n in
    let q = counts (InItem v ∷ fs) p.1 in
    let more : length (InItem v ∷ fs) ≡ 2 * open_sequences fs = q.0 refl in
    let room : open_sequences fs < 32 = ltb-true (open_sequences fs) 32 p.0 in
    (λ e. absurd (cc), λ _. omega (arith, more), omega (arith, room))
counts (InItem w ∷ []) n = absurd (cc)
counts (InItem w ∷ InItem v ∷ fs) n = absurd (cc)
counts (InItem w ∷ InSequence t v ∷ fs) n =
    let q = counts (InSequence t v ∷ fs) n in
    let more : length (InSequence t v ∷ fs) + 1 ≡ 2 * open_sequences (InSequence t v ∷ fs) = q.1 refl in
    (λ _. omega (arith, more), λ e. absurd (cc), q.2)

pub nested_outer : (f : OpenSequence) (fs : List OpenSequence) → is_nested (f ∷ fs) ≡ true → is_nested fs ≡ true
nested_outer (InSequence t w) [] n = refl
nested_outer (InSequence t w) (InSequence u v ∷ fs) n = absurd (cc)
nested_outer (InSequence t w) (InItem v ∷ fs) n = (and_parts (ltb (open_sequences fs) 32) (is_nested (InItem v ∷ fs)) n).1
nested_outer (InItem w) [] n = absurd (cc)
nested_outer (InItem w) (InItem v ∷ fs) n = absurd (cc)
nested_outer (InItem w) (InSequence t v ∷ fs) n = n

-- the array is full where as many sequences are open as may be
pub full_same : (fs : List OpenSequence) → is_nested fs ≡ true → wants_elements fs ≡ true → eqb (length fs) 64 ≡ is_full fs
full_same fs n wants =
    let c = counts fs n in
    let even : length fs ≡ 2 * open_sequences fs = c.0 wants in
    elim (cases_eq (open_sequences fs) 32) [
      | inl e ↦ eq-eqb (length fs) 64 (omega (arith, even, e)) ∙ sym (eq-eqb (open_sequences fs) 32 e)
      | inr ne ↦ ne_eqb (length fs) 64 (λ h. ne (omega (arith, even, h))) ∙ sym (ne_eqb (open_sequences fs) 32 ne)
    ]

pub token_in_item : (s : Syntax) (fs : List OpenSequence) (text behind : List ℕ) (t : Tag) (within : Syntax) → slice_get fs 0 ≡ Some (InItem within) → is_nested fs ≡ true → tag_of text ≡ Some (t, behind)
    → has_tag item_group 0xE00D t ≡ false → token_of s fs text ≡ element_token within false (eqb (length fs) 64) t behind
token_in_item s [] text behind t within top n is other = absurd (cc)
token_in_item s (InSequence u v ∷ fs) text behind t within top n is other = absurd (cc)
token_in_item s (InItem v ∷ fs) text behind t within top n is other =
    let same : v ≡ within = cc in
    ap (λ (o : Option (Tag × List ℕ)). token_with s (InItem v ∷ fs) o) is
    ∙ ap (λ (o : Bool). cond o (end_token ItemEnd (long_of behind)) (element_token v false (is_full (InItem v ∷ fs)) t behind)) other
    ∙ ap (λ (o : Bool). element_token v false o t behind) (sym (full_same (InItem v ∷ fs) n refl))
    ∙ ap (λ (x : Syntax). element_token x false (eqb (length (InItem v ∷ fs)) 64) t behind) same

-- ---- what a token opens and ends

next_at : (s : Syntax) (fs : List OpenSequence) (text : List ℕ) (token tok : Token) (rest : List ℕ) → token_of s fs text ≡ Ok (token, rest) → token ≡ tok → IsNext s fs text tok rest
next_at s fs text token tok rest e is = token_sound s fs text tok rest (e ∙ ap (λ (x : Token). Ok (x, rest)) is)

pub room_for_sequence : (s : Syntax) (fs : List OpenSequence) (text : List ℕ) (token : Token) (rest : List ℕ) (t : Tag) (w : Syntax) → is_nested fs ≡ true → token_of s fs text ≡ Ok (token, rest) → token ≡ Sequence t w → length fs < 64
room_for_sequence s fs text token rest t w n e is =
    let next = next_at s fs text token (Sequence t w) rest e is in
    let c = counts fs n in
    let even : length fs ≡ 2 * open_sequences fs = c.0 next.0 in
    let room : open_sequences fs ≢ 32 = eqb-false (open_sequences fs) 32 next.1 in
    omega (arith, even, c.2, room)

pub sequence_nests : (s : Syntax) (fs : List OpenSequence) (text : List ℕ) (token : Token) (rest : List ℕ) (t : Tag) (w : Syntax) → is_nested fs ≡ true → token_of s fs text ≡ Ok (token, rest) → token ≡ Sequence t w
    → is_nested (InSequence t w ∷ fs) ≡ true
sequence_nests s [] text token rest t w n e is = refl
sequence_nests s (InSequence u v ∷ fs) text token rest t w n e is = let next = next_at s (InSequence u v ∷ fs) text token (Sequence t w) rest e is in absurd (cc next.0)
sequence_nests s (InItem v ∷ fs) text token rest t w n e is =
    let next = next_at s (InItem v ∷ fs) text token (Sequence t w) rest e is in
    let room : open_sequences fs ≢ 32 = eqb-false (open_sequences fs) 32 next.1 in
    let most = counts (InItem v ∷ fs) n in
    and_from (ltb (open_sequences fs) 32) (is_nested (InItem v ∷ fs)) (lt-ltb (open_sequences fs) 32 (omega (arith, most.2, room))) n

pub room_for_item : (s : Syntax) (fs : List OpenSequence) (text : List ℕ) (token : Token) (rest : List ℕ) → is_nested fs ≡ true → token_of s fs text ≡ Ok (token, rest) → token ≡ Item → length fs < 64
room_for_item s fs text token rest n e is =
    let next = next_at s fs text token Item rest e is in
    let c = counts fs n in
    let odd : length fs + 1 ≡ 2 * open_sequences fs = c.1 next.0 in
    omega (arith, odd, c.2)

pub item_nests : (s : Syntax) (fs : List OpenSequence) (text : List ℕ) (token : Token) (rest : List ℕ) (w : Syntax) → is_nested fs ≡ true → token_of s fs text ≡ Ok (token, rest) → token ≡ Item → is_nested (InItem w ∷ fs) ≡ true
item_nests s [] text token rest w n e is = let next = next_at s [] text token Item rest e is in absurd (cc next.0)
item_nests s (InItem v ∷ fs) text token rest w n e is = let next = next_at s (InItem v ∷ fs) text token Item rest e is in absurd (cc next.0)
item_nests s (InSequence t v ∷ fs) text token rest w n e is = n

pub open_at_item_end : (s : Syntax) (fs : List OpenSequence) (text : List ℕ) (token : Token) (rest : List ℕ) → token_of s fs text ≡ Ok (token, rest) → token ≡ ItemEnd → 0 < length fs
open_at_item_end s fs text token rest e is =
    let next = next_at s fs text token ItemEnd rest e is in
    subst (λ (x : List OpenSequence). 0 < length x) (sym next.0.2) (omega arith)

pub open_at_sequence_end : (s : Syntax) (fs : List OpenSequence) (text : List ℕ) (token : Token) (rest : List ℕ) (t : Tag) → token_of s fs text ≡ Ok (token, rest) → token ≡ SequenceEnd t → 0 < length fs
open_at_sequence_end s fs text token rest t e is =
    let next = next_at s fs text token (SequenceEnd t) rest e is in
    subst (λ (x : List OpenSequence). 0 < length x) (sym next.0.2) (omega arith)
