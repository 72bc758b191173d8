-- A data set is read in one way: each place of it has one next place, and the grammar's parts are walks from place to place.
use Rattle.std.proofs.Common.{◌≡◌, ℕ, zero, suc, ◌<◌, ◌≤◌, Bool, true, false, leb, List, [], ◌∷◌, ◌++◌, length, take, drop, refl, sym, ap, subst, ◌∙◌, arith, inl, inr, Option, Some, None, Result, Ok, Err, append_assoc}
use Rattle.std.specs.Prelude.{IfSome, option_and_then}
use Rattle.std.proofs.lemmas.List.{append-nil, length-append, take_at, drop_at}
use Rattle.std.proofs.lemmas.Bool.{ne_eqb, le-leb}
use Rattle.dr_base.specs.Runs.{Run}
use Rattle.dr_base.specs.declared.syntax.Syntax.{Syntax}
use Rattle.dr_dataset.specs.declared.fault.DataFault.{DataFault}
use Rattle.dr_dataset.specs.declared.header.Tag.{Tag}
use Rattle.dr_dataset.specs.declared.frame.OpenSequence.{OpenSequence}
use Rattle.dr_dataset.specs.declared.frame.OpenSequence.TheVariants.{InSequence, InItem}
use Rattle.dr_dataset.specs.declared.token.Token.{Token}
use Rattle.dr_dataset.specs.declared.token.Token.TheVariants.{Value, Sequence, PlainItem, Item, ItemEnd, SequenceEnd}
use Rattle.dr_dataset.specs.Elements.{Element, StartsPlain, StartsItem, OpensItem, EndsItem, EndsSequence, StartsElement}
use Rattle.dr_dataset.specs.DataSet.{is_key, in_force, open_sequences, levels_left, wants_elements, StartsTop, Opens, MayOpen}
use Rattle.dr_dataset.specs.Tokens.{token_of, without_first}
use Rattle.dr_dataset.specs.Wholes.{whole}
use Rattle.dr_dataset.proofs.TokenLemmas.{IsNext, token_whole}

-- a place: what is open, what is left, and which elements of the top level are whole
pub record Place : Type 0 where
  pub frames : List OpenSequence
  pub rest : List ℕ
  pub done : List Element

abbrev pub at : List OpenSequence → List ℕ → List Element → Place
at fs rest es = record { frames = fs; rest = rest; done = es }

abbrev pub value_by : Bool → List OpenSequence → List ℕ → List Element → Option Place
value_by false fs rest es = None
value_by true fs rest es = Some (at fs rest es)

abbrev pub move_token : Syntax → List OpenSequence → List Element → Token → List ℕ → Option Place
move_token s fs es (Value t len) behind = value_by (leb len (length behind)) fs (drop len behind) (es ++ whole fs t (Some (take len behind)))
move_token s fs es (Sequence t w) behind = Some (at (InSequence t w ∷ fs) behind es)
move_token s fs es (PlainItem len) behind = value_by (leb len (length behind)) fs (drop len behind) es
move_token s fs es Item behind = Some (at (InItem (in_force s fs) ∷ fs) behind es)
move_token s fs es ItemEnd behind = Some (at (without_first fs) behind es)
move_token s fs es (SequenceEnd t) behind = Some (at (without_first fs) behind (es ++ whole (without_first fs) t None))

abbrev pub move_by : Syntax → List OpenSequence → List Element → Result (Token × List ℕ) DataFault → Option Place
move_by s fs es (Err f) = None
move_by s fs es (Ok p) = move_token s fs es p.0 p.1

-- the next place
abbrev pub move : Syntax → Place → Option Place
move s p = move_by s p.frames p.done (token_of s p.frames p.rest)

unfoldable pub walk : Syntax → ℕ → Place → Option Place
walk s zero p = Some p
walk s (suc n) p = option_and_then (walk s n) (move s p)

abbrev pub Walks : Syntax → Place → Place → Type 0
Walks s p q = (n : ℕ) × (walk s n p ≡ Some q)

pub stays : (s : Syntax) (p : Place) → Walks s p p
unfolding walk
stays s p = (zero, refl)

pub moves : (s : Syntax) (p q r : Place) → move s p ≡ Some q → Walks s q r → Walks s p r
unfolding walk
moves s p q r e w = (suc w.0, ap (option_and_then (walk s w.0)) e ∙ w.1)

after_move : (s : Syntax) (n : ℕ) (p q r : Place) (o : Option Place) → move s p ≡ o → option_and_then (walk s n) o ≡ Some q → ((x : Place) → walk s n x ≡ Some q → Walks s x r) → Walks s p r
after_move s n p q r None is e on = absurd (cc)
after_move s n p q r (Some x) is e on = moves s p x r is (on x e)

pub walks_on : (s : Syntax) (n : ℕ) (p q r : Place) → walk s n p ≡ Some q → Walks s q r → Walks s p r
unfolding walk
walks_on s zero p q r e w = let same : p ≡ q = cc in subst (λ (x : Place). Walks s x r) (sym same) w
walks_on s (suc n) p q r e w = after_move s n p q r (move s p) refl e (λ x f. walks_on s n x q r f w)

pub then_walks : (s : Syntax) (p q r : Place) → Walks s p q → Walks s q r → Walks s p r
then_walks s p q r a b = walks_on s a.0 p q r a.1 b

-- a run of parts, each a walk that comes back to the same frames
pub run_walks : {X : Type 0} (s : Syntax) (fs : List OpenSequence) (es : List Element) (Starts : List ℕ → X → List ℕ → Type 0) → ((text : List ℕ) (x : X) (rest : List ℕ) → Starts text x rest → Walks s (at fs text es) (at fs rest es))
    → (xs : List X) (text rest : List ℕ) → Run Starts xs text rest → Walks s (at fs text es) (at fs rest es)
run_walks s fs es Starts each [] text rest r = subst (λ (x : List ℕ). Walks s (at fs text es) (at fs x es)) r (stays s (at fs text es))
run_walks s fs es Starts each (x ∷ xs) text rest r =
    then_walks s (at fs text es) (at fs r.0 es) (at fs rest es) (each text x r.0 r.1) (run_walks s fs es Starts each xs r.0 rest r.2)

-- ---- each part is a walk

by_token : (s : Syntax) (fs : List OpenSequence) (es : List Element) (text : List ℕ) (token : Token) (behind : List ℕ) → IsNext s fs text token behind → move s (at fs text es) ≡ move_token s fs es token behind
by_token s fs es text token behind next = ap (move_by s fs es) (token_whole s fs text token behind next)

one_move : (s : Syntax) (p q : Place) → move s p ≡ Some q → Walks s p q
one_move s p q e = moves s p q q e (stays s q)

taken : (value rest : List ℕ) (n : ℕ) → length value ≡ n → take n (value ++ rest) ≡ value
taken value rest n e = take_at value rest n e

left : (value rest : List ℕ) (n : ℕ) → length value ≡ n → drop n (value ++ rest) ≡ rest
left value rest n e = drop_at value rest n e

there : (value rest : List ℕ) (n : ℕ) → length value ≡ n → leb n (length (value ++ rest)) ≡ true
there value rest n e = le-leb n (length (value ++ rest)) (omega (arith, length-append value rest, e))

-- what the bytes of a value move to
value_moves : (fs : List OpenSequence) (es es' : List Element) (value rest : List ℕ) (n : ℕ) → length value ≡ n → es ≡ es' → value_by (leb n (length (value ++ rest))) fs (drop n (value ++ rest)) es ≡ Some (at fs rest es')
value_moves fs es es' value rest n len e =
    ap (λ (b : Bool). value_by b fs (drop n (value ++ rest)) es) (there value rest n len) ∙ ap (λ (x : List ℕ). Some (at fs x es)) (left value rest n len) ∙ ap (λ (x : List Element). Some (at fs rest x)) e

-- one of the four is short, where it stands at the top
abbrev pub IsFit : List OpenSequence → Element → Type 0
IsFit fs e = fs ≡ [] → is_key e.tag ≡ true → IfSome e.value (λ v. length v ≤ 1024)

plain_walks : (s : Syntax) (fs : List OpenSequence) (es : List Element) (text : List ℕ) (e : Element) (rest : List ℕ) → wants_elements fs ≡ true → IsFit fs e → StartsPlain (in_force s fs) text e rest
    → Walks s (at fs text es) (at fs rest (es ++ whole fs e.tag e.value))
plain_walks s fs es text e rest wants short (t, f, value, header, defined, len, is) =
    let bound : fs ≡ [] → is_key t ≡ true → f.len ≤ 1024 = λ none key. subst (λ (n : ℕ). n ≤ 1024) len (subst (λ (x : Element). is_key x.tag ≡ true → IfSome x.value (λ v. length v ≤ 1024)) is (short none) key) in
    let next : IsNext s fs text (Value t f.len) (value ++ rest) = (wants, f, header, refl, defined, bound) in
    let found : es ++ whole fs t (Some (take f.len (value ++ rest))) ≡ es ++ whole fs t (Some value) = ap (λ (x : List ℕ). es ++ whole fs t (Some x)) (taken value rest f.len len) in
    let here : move s (at fs text es) ≡ Some (at fs rest (es ++ whole fs t (Some value))) =
    by_token s fs es text (Value t f.len) (value ++ rest) next ∙ value_moves fs (es ++ whole fs t (Some (take f.len (value ++ rest)))) (es ++ whole fs t (Some value)) value rest f.len len found in
    subst (λ (x : Element). Walks s (at fs text es) (at fs rest (es ++ whole fs x.tag x.value))) (sym is) (one_move s (at fs text es) (at fs rest (es ++ whole fs t (Some value))) here)

open_walks : (s : Syntax) (fs : List OpenSequence) (es : List Element) (text : List ℕ) (t : Tag) (w : Syntax) (rest : List ℕ) → MayOpen s fs text t w rest → Walks s (at fs text es) (at (InSequence t w ∷ fs) rest es)
open_walks s fs es text t w rest (wants, room, opens) =
    let next : IsNext s fs text (Sequence t w) rest = (wants, ne_eqb (open_sequences fs) 32 (λ e. omega (arith, e, room)), opens) in
    one_move s (at fs text es) (at (InSequence t w ∷ fs) rest es) (by_token s fs es text (Sequence t w) rest next)

open_item_walks : (s : Syntax) (t : Tag) (w : Syntax) (fs : List OpenSequence) (es : List Element) (text rest : List ℕ) → OpensItem text rest → Walks s (at (InSequence t w ∷ fs) text es) (at (InItem w ∷ InSequence t w ∷ fs) rest es)
open_item_walks s t w fs es text rest opens =
    one_move s (at (InSequence t w ∷ fs) text es) (at (InItem w ∷ InSequence t w ∷ fs) rest es) (by_token s (InSequence t w ∷ fs) es text Item rest (refl, opens))

end_item_walks : (s : Syntax) (w : Syntax) (fs : List OpenSequence) (es : List Element) (text rest : List ℕ) → EndsItem text rest → Walks s (at (InItem w ∷ fs) text es) (at fs rest es)
end_item_walks s w fs es text rest end = one_move s (at (InItem w ∷ fs) text es) (at fs rest es) (by_token s (InItem w ∷ fs) es text ItemEnd rest ((w, fs, refl), end))

end_sequence_walks : (s : Syntax) (t : Tag) (w : Syntax) (fs : List OpenSequence) (es : List Element) (text rest : List ℕ) → EndsSequence text rest → Walks s (at (InSequence t w ∷ fs) text es) (at fs rest (es ++ whole fs t None))
end_sequence_walks s t w fs es text rest end =
    one_move s (at (InSequence t w ∷ fs) text es) (at fs rest (es ++ whole fs t None)) (by_token s (InSequence t w ∷ fs) es text (SequenceEnd t) rest ((w, fs, refl), end))

-- elements with at most so many levels, where so many are left
abbrev ElementsWalk : Syntax → ℕ → Type 0
ElementsWalk s n = (fs : List OpenSequence) (es : List Element) (text : List ℕ) (e : Element) (rest : List ℕ) → wants_elements fs ≡ true → n ≡ levels_left fs → IsFit fs e → StartsElement n (in_force s fs) text e rest
    → Walks s (at fs text es) (at fs rest (es ++ whole fs e.tag e.value))

-- an element in an item leaves the same elements whole
inner_walks : (s : Syntax) (n : ℕ) → ElementsWalk s n → (w : Syntax) (fs : List OpenSequence) (es : List Element) → n ≡ levels_left (InItem w ∷ fs) → (xs : List Element) (text rest : List ℕ)
    → Run (StartsElement n w) xs text rest → Walks s (at (InItem w ∷ fs) text es) (at (InItem w ∷ fs) rest es)
inner_walks s n each w fs es levels =
    run_walks s (InItem w ∷ fs) es (StartsElement n w)
    (λ text x rest starts. subst (λ (l : List Element). Walks s (at (InItem w ∷ fs) text es) (at (InItem w ∷ fs) rest l)) (append-nil es) (each (InItem w ∷ fs) es text x rest refl levels (λ none. absurd (cc)) starts))

item_walks : (s : Syntax) (n : ℕ) → ElementsWalk s n → (t : Tag) (w : Syntax) (fs : List OpenSequence) (es : List Element) → n ≡ levels_left (InSequence t w ∷ fs) → (text : List ℕ) (xs : List Element) (rest : List ℕ)
    → StartsItem (StartsElement n w) text xs rest → Walks s (at (InSequence t w ∷ fs) text es) (at (InSequence t w ∷ fs) rest es)
item_walks s n each t w fs es levels text xs rest (inl ((value, defined, mark), none)) =
    let here = InSequence t w ∷ fs in
    one_move s (at here text es) (at here rest es) (by_token s here es text (PlainItem (length value)) (value ++ rest) (refl, defined, mark) ∙ value_moves here es es value rest (length value) refl refl)
item_walks s n each t w fs es levels text xs rest (inr (first, close, opens, run, end)) =
    let here = InSequence t w ∷ fs in
    then_walks s (at here text es) (at (InItem w ∷ here) first es) (at here rest es) (open_item_walks s t w fs es text first opens)
    (then_walks s (at (InItem w ∷ here) first es) (at (InItem w ∷ here) close es) (at here rest es) (inner_walks s n each w here es levels xs first close run) (end_item_walks s w here es close rest end))

pub element_walks : (s : Syntax) (n : ℕ) → ElementsWalk s n
element_walks s zero fs es text e rest wants levels fit starts = plain_walks s fs es text e rest wants fit starts
element_walks s (suc n) fs es text e rest wants levels fit (inl plain) = plain_walks s fs es text e rest wants fit plain
element_walks s (suc n) fs es text e rest wants levels fit (inr (t, w, items, first, close, opens, run, end, is)) =
    let inside = InSequence t w ∷ fs in
    let room : open_sequences fs < 32 = omega (arith, levels) in
    let fewer : n ≡ levels_left inside = omega (arith, levels) in
    let all : Walks s (at fs text es) (at fs rest (es ++ whole fs t None)) =
    then_walks s (at fs text es) (at inside first es) (at fs rest (es ++ whole fs t None)) (open_walks s fs es text t w first (wants, room, opens))
    (then_walks s (at inside first es) (at inside close es) (at fs rest (es ++ whole fs t None))
    (run_walks s inside es (StartsItem (StartsElement n w)) (item_walks s n (element_walks s n) t w fs es fewer) items first close run)
    (end_sequence_walks s t w fs es close rest end)) in
    subst (λ (x : Element). Walks s (at fs text es) (at fs rest (es ++ whole fs x.tag x.value))) (sym is) all

pub top_walks : (s : Syntax) (es : List Element) (text : List ℕ) (e : Element) (rest : List ℕ) → StartsTop s text e rest → Walks s (at [] text es) (at [] rest (es ++ e ∷ []))
top_walks s es text e rest starts = element_walks s 32 [] es text e rest refl refl (λ _. starts.1) starts.0

tops_walk : (s : Syntax) (xs es : List Element) (text rest : List ℕ) → Run (StartsTop s) xs text rest → Walks s (at [] text es) (at [] rest (es ++ xs))
tops_walk s [] es text rest r =
    subst (λ (x : List Element). Walks s (at [] text es) (at [] rest x)) (sym (append-nil es)) (subst (λ (x : List ℕ). Walks s (at [] text es) (at [] x es)) r (stays s (at [] text es)))
tops_walk s (x ∷ xs) es text rest r =
    let on = tops_walk s xs (es ++ x ∷ []) r.0 rest r.2 in
    let same : (es ++ x ∷ []) ++ xs ≡ es ++ x ∷ xs = append_assoc es (x ∷ []) xs in
    then_walks s (at [] text es) (at [] r.0 (es ++ x ∷ [])) (at [] rest (es ++ x ∷ xs)) (top_walks s es text x r.0 r.1) (subst (λ (l : List Element). Walks s (at [] r.0 (es ++ x ∷ [])) (at [] rest l)) same on)

-- a front that is in order is a walk from its start
pub opens_walk : (s : Syntax) (fs : List OpenSequence) (text : List ℕ) (es : List Element) (rest : List ℕ) → Opens s fs text es rest → Walks s (at [] text []) (at fs rest es)
opens_walk s [] text es rest r = tops_walk s es [] text rest r
opens_walk s (InSequence t w ∷ fs) text es rest (items, mid, first, o, m, r) =
    let n = levels_left (InSequence t w ∷ fs) in
    then_walks s (at [] text []) (at fs mid es) (at (InSequence t w ∷ fs) rest es) (opens_walk s fs text es mid o)
    (then_walks s (at fs mid es) (at (InSequence t w ∷ fs) first es) (at (InSequence t w ∷ fs) rest es) (open_walks s fs es mid t w first m)
    (run_walks s (InSequence t w ∷ fs) es (StartsItem (StartsElement n w)) (item_walks s n (element_walks s n) t w fs es refl) items first rest r))
opens_walk s (InItem w ∷ []) text es rest (xs, mid, first, o, m, r) = absurd m
opens_walk s (InItem w ∷ InItem v ∷ fs) text es rest (xs, mid, first, o, m, r) = absurd m
opens_walk s (InItem w ∷ InSequence t u ∷ fs) text es rest (xs, mid, first, o, m, r) =
    let outer = InSequence t u ∷ fs in
    let n = levels_left outer in
    let opened : Walks s (at outer mid es) (at (InItem w ∷ outer) first es) =
    subst (λ (x : Syntax). Walks s (at outer mid es) (at (InItem x ∷ outer) first es)) (sym m.0) (open_item_walks s t u fs es mid first m.1) in
    then_walks s (at [] text []) (at outer mid es) (at (InItem w ∷ outer) rest es) (opens_walk s (InSequence t u ∷ fs) text es mid o)
    (then_walks s (at outer mid es) (at (InItem w ∷ outer) first es) (at (InItem w ∷ outer) rest es) opened (inner_walks s n (element_walks s n) w outer es refl xs first rest r))
