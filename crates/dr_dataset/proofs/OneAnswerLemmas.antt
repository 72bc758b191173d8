-- A text has one answer: both walk to a place from which no move leads on, and there is one such place.
use Rattle.std.proofs.Common.{◌≡◌, ◌≢◌, ℕ, zero, suc, ◌<◌, ◌≤◌, Bool, true, false, leb, List, [], ◌∷◌, ◌++◌, length, take, drop, refl, sym, ap, subst, ◌∙◌, arith, inl, inr, Option, Some, None, Result, Ok, Err}
use Rattle.std.specs.Prelude.{option_and_then}
use Rattle.std.proofs.lemmas.List.{take-append-drop, length-take-le}
use Rattle.std.proofs.lemmas.Bool.{eqb-false, leb-true}
use Rattle.dr_base.specs.declared.syntax.Syntax.{Syntax}
use Rattle.dr_dataset.specs.declared.fault.DataFault.{DataFault}
use Rattle.dr_dataset.specs.declared.fault.DataFault.TheVariants.{Truncated, BadVr, BadLength, TooDeep, Memory}
use Rattle.dr_dataset.specs.declared.values.Attributes.{Attributes}
use Rattle.dr_dataset.specs.declared.frame.OpenSequence.{OpenSequence}
use Rattle.dr_dataset.specs.declared.frame.OpenSequence.TheVariants.{InSequence, InItem}
use Rattle.dr_dataset.specs.declared.token.Token.{Token}
use Rattle.dr_dataset.specs.declared.token.Token.TheVariants.{Value, Sequence, PlainItem, Item, ItemEnd, SequenceEnd}
use Rattle.dr_dataset.specs.Elements.{Element, undefined, StartsMark}
use Rattle.dr_dataset.specs.DataSet.{open_sequences, Opens, StartsToken, ShowsFault, FirstFault, IsDataSet, Scans, value_at}
use Rattle.dr_dataset.specs.Tokens.{is_full, token_of}
use Rattle.dr_dataset.proofs.TokenLemmas.{IsNext, token_sound, vr_fault, length_fault, depth_fault}
use Rattle.dr_dataset.proofs.OpensLemmas.{Has, plain_of}
use Rattle.dr_dataset.proofs.WalkLemmas.{Place, at, move, move_by, move_token, walk, Walks, opens_walk}

-- ---- where no move leads on, walks meet

pub meet : (s : Syntax) (n m : ℕ) (p x y : Place) → walk s n p ≡ Some x → walk s m p ≡ Some y → move s x ≡ None → Walks s y x
unfolding walk
meet s zero zero p x y e f stuck = let same : y ≡ x = cc in subst (λ (q : Place). Walks s y q) same (zero, refl)
meet s (suc n) zero p x y e f stuck = let same : p ≡ y = cc in subst (λ (q : Place). Walks s q x) same (suc n, e)
meet s zero (suc m) p x y e f stuck =
    let same : p ≡ x = cc in
    let none : move s p ≡ None = subst (λ (q : Place). move s q ≡ None) (sym same) stuck in
    absurd (cc (sym f ∙ ap (option_and_then (walk s m)) none))
meet s (suc n) (suc m) p x y e f stuck = on (move s p) refl e f (λ q g h. meet s n m q x y g h stuck)
  where
    on : (o : Option Place) → move s p ≡ o → option_and_then (walk s n) o ≡ Some x → option_and_then (walk s m) o ≡ Some y → ((q : Place) → walk s n q ≡ Some x → walk s m q ≡ Some y → Walks s y x) → Walks s y x
    on None is g h go = absurd (cc)
    on (Some q) is g h go = go q g h

pub stuck_stays : (s : Syntax) (n : ℕ) (y x : Place) → walk s n y ≡ Some x → move s y ≡ None → y ≡ x
unfolding walk
stuck_stays s zero y x e stuck = cc
stuck_stays s (suc n) y x e stuck = absurd (cc (sym e ∙ ap (option_and_then (walk s n)) stuck))

pub one_place : (s : Syntax) (p x y : Place) → Walks s p x → Walks s p y → move s x ≡ None → move s y ≡ None → y ≡ x
one_place s p x y a b stuck end = let w = meet s a.0 b.0 p x y a.1 b.1 stuck in stuck_stays s w.0 y x w.1 end

-- ---- no move leads on from a fault

room : (fs : List OpenSequence) → open_sequences fs ≤ 32 → is_full fs ≡ false → open_sequences fs < 32
room fs most e = let ne : open_sequences fs ≢ 32 = eqb-false (open_sequences fs) 32 e in omega (arith, most, ne)

-- a header whose bytes are there is a token that may stand there
token_then : (s : Syntax) (fs : List OpenSequence) (text : List ℕ) (token : Token) (behind : List ℕ) → open_sequences fs ≤ 32 → IsNext s fs text token behind → Has token behind → (rest : List ℕ) × StartsToken s fs text rest
token_then s [] text (Value t len) behind most (wants, f, header, is, defined, short) has =
    let e : Element = record { tag = t; value = Some (take len behind) } in
    (drop len behind, inl (e, plain_of s text t f behind len header is defined has, λ key. subst (λ (n : ℕ). n ≤ 1024) (sym (length-take-le len behind has)) (short refl key)))
token_then s (InItem w ∷ fs) text (Value t len) behind most (wants, f, header, is, defined, short) has =
    (drop len behind, inl (record { tag = t; value = Some (take len behind) }, plain_of w text t f behind len header is defined has))
token_then s (InSequence u w ∷ fs) text (Value t len) behind most next has = absurd (cc next.0)
token_then s [] text (Sequence t w) behind most (wants, full, opens) has = (behind, inr (t, w, (wants, room [] most full, opens)))
token_then s (InItem v ∷ fs) text (Sequence t w) behind most (wants, full, opens) has = (behind, inr (inl (t, w, (wants, room (InItem v ∷ fs) most full, opens))))
token_then s (InSequence u v ∷ fs) text (Sequence t w) behind most next has = absurd (cc next.0)
token_then s [] text (PlainItem len) behind most next has = absurd (cc next.0)
token_then s (InItem w ∷ fs) text (PlainItem len) behind most next has = absurd (cc next.0)
token_then s (InSequence t w ∷ fs) text (PlainItem len) behind most (wants, defined, mark) has =
    let same : length (take len behind) ≡ len = length-take-le len behind has in (
      drop len behind,
      inl (
        take len behind,
        subst (λ (n : ℕ). n ≢ undefined) (sym same) defined,
        subst (λ (n : ℕ). StartsMark 0xE000 text n (take len behind ++ drop len behind)) (sym same) (subst (λ (b : List ℕ). StartsMark 0xE000 text len b) (sym (take-append-drop len behind)) mark),
      ),
    )
token_then s [] text Item behind most next has = absurd (cc next.0)
token_then s (InItem w ∷ fs) text Item behind most next has = absurd (cc next.0)
token_then s (InSequence t w ∷ fs) text Item behind most next has = (behind, inr (inl next.1))
token_then s [] text ItemEnd behind most next has = absurd (cc next.0.2)
token_then s (InItem w ∷ fs) text ItemEnd behind most next has = (behind, inr (inr next.1))
token_then s (InSequence t w ∷ fs) text ItemEnd behind most next has = absurd (cc next.0.2)
token_then s [] text (SequenceEnd t) behind most next has = absurd (cc next.0.2)
token_then s (InItem w ∷ fs) text (SequenceEnd t) behind most next has = absurd (cc next.0.2)
token_then s (InSequence u w ∷ fs) text (SequenceEnd t) behind most next has = (behind, inr (inr next.1))

-- where a token leads on, its bytes are there
no_move : (s : Syntax) (fs : List OpenSequence) (es : List Element) (token : Token) (behind : List ℕ) → (Has token behind → ⊥) → move_token s fs es token behind ≡ None
no_move s fs es (Value t len) behind none = by_test (leb len (length behind)) refl
  where
    by_test : (b : Bool) → leb len (length behind) ≡ b → move_token s fs es (Value t len) behind ≡ None
    by_test true e = absurd (none (leb-true len (length behind) e))
    by_test false e = rw e refl
no_move s fs es (PlainItem len) behind none = by_test (leb len (length behind)) refl
  where
    by_test : (b : Bool) → leb len (length behind) ≡ b → move_token s fs es (PlainItem len) behind ≡ None
    by_test true e = absurd (none (leb-true len (length behind) e))
    by_test false e = rw e refl
no_move s fs es (Sequence t w) behind none = absurd (none tt)
no_move s fs es Item behind none = absurd (none tt)
no_move s fs es ItemEnd behind none = absurd (none tt)
no_move s fs es (SequenceEnd t) behind none = absurd (none tt)

cut_is_stuck : (s : Syntax) (fs : List OpenSequence) (es : List Element) (text : List ℕ) (o : Result (Token × List ℕ) DataFault) → open_sequences fs ≤ 32 → token_of s fs text ≡ o → ((rest : List ℕ) → StartsToken s fs text rest → ⊥) → move_by s fs es o ≡ None
cut_is_stuck s fs es text (Err f) most e none = refl
cut_is_stuck s fs es text (Ok p) most e none =
    no_move s fs es p.0 p.1 (λ has. let t = token_then s fs text p.0 p.1 most (token_sound s fs text p.0 p.1 e) has in none t.0 t.1)

pub fault_is_stuck : (s : Syntax) (fs : List OpenSequence) (es : List Element) (text : List ℕ) (f : DataFault) → open_sequences fs ≤ 32 → f ≢ Memory → ShowsFault s fs text f → move s (at fs text es) ≡ None
fault_is_stuck s fs es text BadVr most ne h = ap (move_by s fs es) (vr_fault s fs text h)
fault_is_stuck s fs es text BadLength most ne h = ap (move_by s fs es) (length_fault s fs text h)
fault_is_stuck s fs es text TooDeep most ne h = ap (move_by s fs es) (depth_fault s fs text h)
fault_is_stuck s fs es text Memory most ne h = absurd (ne refl)
fault_is_stuck s fs es text Truncated most ne h = cut_is_stuck s fs es text (token_of s fs text) most refl h.1

pub open_at_most : (s : Syntax) (fs : List OpenSequence) (text : List ℕ) (es : List Element) (rest : List ℕ) → Opens s fs text es rest → open_sequences fs ≤ 32
open_at_most s [] text es rest o = omega arith
open_at_most s (InSequence t w ∷ fs) text es rest (items, mid, first, o, m, r) = omega (arith, m.1)
open_at_most s (InItem w ∷ fs) text es rest (xs, mid, first, o, m, r) = open_at_most s fs text es mid o

-- ---- one fault at one place

abbrev Answer : Type 0
Answer = Result (Token × List ℕ) DataFault

vr_not_length : ◌≡◌ {A = Answer} (Err BadVr) (Err BadLength) → ⊥
vr_not_length e = cc

vr_not_depth : ◌≡◌ {A = Answer} (Err BadVr) (Err TooDeep) → ⊥
vr_not_depth e = cc

length_not_depth : ◌≡◌ {A = Answer} (Err BadLength) (Err TooDeep) → ⊥
length_not_depth e = cc

pub one_fault : (s : Syntax) (fs : List OpenSequence) (text : List ℕ) (f g : DataFault) → f ≢ Memory → g ≢ Memory → ShowsFault s fs text f → ShowsFault s fs text g → f ≡ g
one_fault s fs text Memory g mf mg a b = absurd (mf refl)
one_fault s fs text Truncated Memory mf mg a b = absurd (mg refl)
one_fault s fs text BadVr Memory mf mg a b = absurd (mg refl)
one_fault s fs text BadLength Memory mf mg a b = absurd (mg refl)
one_fault s fs text TooDeep Memory mf mg a b = absurd (mg refl)
one_fault s fs text Truncated Truncated mf mg a b = refl
one_fault s fs text Truncated BadVr mf mg a b = absurd (a.2 b)
one_fault s fs text Truncated BadLength mf mg a b = absurd (a.3 b)
one_fault s fs text Truncated TooDeep mf mg a b = absurd (a.4 b)
one_fault s fs text BadVr Truncated mf mg a b = absurd (b.2 a)
one_fault s fs text BadVr BadVr mf mg a b = refl
one_fault s fs text BadVr BadLength mf mg a b = absurd (vr_not_length (sym (vr_fault s fs text a) ∙ length_fault s fs text b))
one_fault s fs text BadVr TooDeep mf mg a b = absurd (vr_not_depth (sym (vr_fault s fs text a) ∙ depth_fault s fs text b))
one_fault s fs text BadLength Truncated mf mg a b = absurd (b.3 a)
one_fault s fs text BadLength BadVr mf mg a b = absurd (vr_not_length (sym (vr_fault s fs text b) ∙ length_fault s fs text a))
one_fault s fs text BadLength BadLength mf mg a b = refl
one_fault s fs text BadLength TooDeep mf mg a b = absurd (length_not_depth (sym (length_fault s fs text a) ∙ depth_fault s fs text b))
one_fault s fs text TooDeep Truncated mf mg a b = absurd (b.4 a)
one_fault s fs text TooDeep BadVr mf mg a b = absurd (vr_not_depth (sym (vr_fault s fs text b) ∙ depth_fault s fs text a))
one_fault s fs text TooDeep BadLength mf mg a b = absurd (length_not_depth (sym (length_fault s fs text b) ∙ depth_fault s fs text a))
one_fault s fs text TooDeep TooDeep mf mg a b = refl

-- nothing shows at the end of a data set
no_fault_at_end : (s : Syntax) (fs : List OpenSequence) (text : List ℕ) (f : DataFault) → f ≢ Memory → fs ≡ [] → text ≡ [] → ShowsFault s fs text f → ⊥
no_fault_at_end s fs text f ne none end h = at_end f ne (subst (λ (x : List OpenSequence). ShowsFault s x [] f) none (subst (λ (x : List ℕ). ShowsFault s fs x f) end h))
  where
    at_end : (f : DataFault) → f ≢ Memory → ShowsFault s [] [] f → ⊥
    at_end Truncated ne h = h.0 refl refl
    at_end BadVr ne h = cc (vr_fault s [] [] h)
    at_end BadLength ne h = cc (length_fault s [] [] h)
    at_end TooDeep ne h = cc (depth_fault s [] [] h)
    at_end Memory ne h = ne refl

frames_of : (p q : Place) → p ≡ q → p.frames ≡ q.frames
frames_of p q e = ap (λ (x : Place). x.frames) e

rest_of : (p q : Place) → p ≡ q → p.rest ≡ q.rest
rest_of p q e = ap (λ (x : Place). x.rest) e

done_of : (p q : Place) → p ≡ q → p.done ≡ q.done
done_of p q e = ap (λ (x : Place). x.done) e

-- a data set has one list of elements
pub one_reading : (s : Syntax) (text : List ℕ) (es xs : List Element) → IsDataSet s text es → IsDataSet s text xs → es ≡ xs
one_reading s text es xs a b =
    done_of (at [] [] es) (at [] [] xs) (one_place s (at [] text []) (at [] [] xs) (at [] [] es) (opens_walk s [] text xs [] b) (opens_walk s [] text es [] a) refl refl)

pub data_set_or_fault : (s : Syntax) (text : List ℕ) (es : List Element) (f : DataFault) → f ≢ Memory → IsDataSet s text es → FirstFault s text f → ⊥
data_set_or_fault s text es f ne a (fs, xs, rest, o, h) =
    let same = one_place s (at [] text []) (at [] [] es) (at fs rest xs) (opens_walk s [] text es [] a) (opens_walk s fs text xs rest o) refl (fault_is_stuck s fs xs rest f (open_at_most s fs text xs rest o) ne h) in
    no_fault_at_end s fs rest f ne (frames_of (at fs rest xs) (at [] [] es) same) (rest_of (at fs rest xs) (at [] [] es) same) h

pub one_first_fault : (s : Syntax) (text : List ℕ) (f g : DataFault) → f ≢ Memory → g ≢ Memory → FirstFault s text f → FirstFault s text g → f ≡ g
one_first_fault s text f g mf mg (fs, es, rest, o, h) (gs, xs, more, p, k) =
    let same = one_place s (at [] text []) (at fs rest es) (at gs more xs) (opens_walk s fs text es rest o) (opens_walk s gs text xs more p)
    (fault_is_stuck s fs es rest f (open_at_most s fs text es rest o) mf h) (fault_is_stuck s gs xs more g (open_at_most s gs text xs more p) mg k) in
    let there : ShowsFault s fs rest g = subst (λ (x : List ℕ). ShowsFault s fs x g) (rest_of (at gs more xs) (at fs rest es) same) (subst (λ (x : List OpenSequence). ShowsFault s x more g) (frames_of (at gs more xs) (at fs rest es) same) k) in
    one_fault s fs rest f g mf mg h there

err_of : (f : DataFault) → ◌≢◌ {A = Result Attributes DataFault} (Err f) (Err Memory) → f ≢ Memory
err_of f ne e = ne (ap (λ (x : DataFault). Err x) e)

pub one_answer : (s : Syntax) (text : List ℕ) (r q : Result Attributes DataFault) → r ≢ Err Memory → q ≢ Err Memory → Scans s text r → Scans s text q → r ≡ q
one_answer s text (Ok a) (Ok b) mr mq (es, d, class, instance, modality, station) (xs, d', class', instance', modality', station') =
    let same : es ≡ xs = one_reading s text es xs d d' in
    let i : a.class ≡ b.class = class ∙ ap (value_at 0x0008 0x0016) same ∙ sym class' in
    let j : a.instance ≡ b.instance = instance ∙ ap (value_at 0x0008 0x0018) same ∙ sym instance' in
    let k : a.modality ≡ b.modality = modality ∙ ap (value_at 0x0008 0x0060) same ∙ sym modality' in
    let l : a.station ≡ b.station = station ∙ ap (value_at 0x0008 0x1010) same ∙ sym station' in
    let all : a ≡ b = ap (λ (x : List ℕ). record a { class = x }) i ∙ ap (λ (x : List ℕ). record a { class = b.class; instance = x }) j
    ∙ ap (λ (x : List ℕ). record a { class = b.class; instance = b.instance; modality = x }) k ∙ ap (λ (x : List ℕ). record b { station = x }) l in
    ap (λ (x : Attributes). Ok x) all
one_answer s text (Ok a) (Err g) mr mq d h = absurd (data_set_or_fault s text d.0 g (err_of g mq) d.1 h)
one_answer s text (Err f) (Ok b) mr mq h d = absurd (data_set_or_fault s text d.0 f (err_of f mr) d.1 h)
one_answer s text (Err f) (Err g) mr mq h k = ap (λ (x : DataFault). Err x) (one_first_fault s text f g (err_of f mr) (err_of g mq) h k)
