-- Each text has an answer: a front that is in order goes on by a token, ends the data set, or shows a fault.
use Rattle.std.proofs.Common.{◌≡◌, ◌≢◌, ℕ, zero, suc, ◌<◌, ◌≤◌, Bool, true, false, leb, List, [], ◌∷◌, ◌++◌, length, take, drop, refl, ap, subst, ◌∙◌, arith, inl, inr, Some, None, Result, Ok, Err, ◌⊎◌}
use Rattle.std.proofs.lemmas.List.{length-drop}
use Rattle.std.proofs.lemmas.Bool.{leb-true, leb-false}
use Rattle.dr_base.specs.declared.syntax.Syntax.{Syntax}
use Rattle.dr_dataset.specs.declared.fault.DataFault.{DataFault}
use Rattle.dr_dataset.specs.declared.fault.DataFault.TheVariants.{Truncated, Memory}
use Rattle.dr_dataset.specs.declared.values.Attributes.{Attributes}
use Rattle.dr_dataset.specs.declared.header.Tag.{Tag}
use Rattle.dr_dataset.specs.declared.frame.OpenSequence.{OpenSequence}
use Rattle.dr_dataset.specs.declared.frame.OpenSequence.TheVariants.{InSequence, InItem}
use Rattle.dr_dataset.specs.declared.token.Token.{Token}
use Rattle.dr_dataset.specs.declared.token.Token.TheVariants.{Value, Sequence, PlainItem, Item, ItemEnd, SequenceEnd}
use Rattle.dr_dataset.specs.Elements.{Element, EndsItem, EndsSequence}
use Rattle.dr_dataset.specs.DataSet.{in_force, Opens, IsDataSet, FirstFault, Scans, value_at}
use Rattle.dr_dataset.specs.Tokens.{token_of, is_nested}
use Rattle.dr_dataset.specs.Wholes.{whole}
use Rattle.dr_dataset.proofs.TokenLemmas.{token_sound, token_tells}
use Rattle.dr_dataset.proofs.NestLemmas.{sequence_nests, item_nests, nested_outer}
use Rattle.dr_dataset.proofs.OpensLemmas.{Has, shows, cut_shows, after_value, after_plain_item, after_sequence, after_item, after_item_end, after_sequence_end, token_shorter}

abbrev IsAnswered : Syntax → List ℕ → Type 0
IsAnswered s text = ((f : DataFault) × (f ≢ Memory) × FirstFault s text f) ⊎ ((es : List Element) × IsDataSet s text es)

-- the answer behind any longer front
abbrev Later : Syntax → List ℕ → List ℕ → Type 0
Later s text rest = (fs : List OpenSequence) (es : List Element) (more : List ℕ) → length more < length rest → Opens s fs text es more → is_nested fs ≡ true → IsAnswered s text

cut : (s : Syntax) (fs : List OpenSequence) (text : List ℕ) (es : List Element) (rest : List ℕ) (token : Token) (behind : List ℕ) → Opens s fs text es rest → token_of s fs rest ≡ Ok (token, behind) → (Has token behind → ⊥) → IsAnswered s text
cut s fs text es rest token behind o e missing = inl (Truncated, (λ m. cc m), (fs, es, rest, o, cut_shows s fs rest token behind e missing))

dropped : (rest behind : List ℕ) (len : ℕ) → length behind < length rest → length (drop len behind) < length rest
dropped rest behind len h = omega (arith, length-drop len behind, h)

by_value : (s : Syntax) (fs : List OpenSequence) (text : List ℕ) (es : List Element) (rest : List ℕ) (t : Tag) (len : ℕ) (behind : List ℕ) (b : Bool) → leb len (length behind) ≡ b → Opens s fs text es rest → is_nested fs ≡ true
    → token_of s fs rest ≡ Ok (Value t len, behind) → Later s text rest → IsAnswered s text
by_value s fs text es rest t len behind true b o n e later =
    let fits = leb-true len (length behind) b in
    later fs (es ++ whole fs t (Some (take len behind))) (drop len behind) (dropped rest behind len (token_shorter s fs rest (Value t len) behind e)) (after_value s fs text rest es t len behind e fits o) n
by_value s fs text es rest t len behind false b o n e later =
    let short = leb-false len (length behind) b in cut s fs text es rest (Value t len) behind o e (λ has. omega (arith, short, has))

by_item : (s : Syntax) (fs : List OpenSequence) (text : List ℕ) (es : List Element) (rest : List ℕ) (len : ℕ) (behind : List ℕ) (b : Bool) → leb len (length behind) ≡ b → Opens s fs text es rest → is_nested fs ≡ true
    → token_of s fs rest ≡ Ok (PlainItem len, behind) → Later s text rest → IsAnswered s text
by_item s fs text es rest len behind true b o n e later =
    later fs es (drop len behind) (dropped rest behind len (token_shorter s fs rest (PlainItem len) behind e)) (after_plain_item s fs text rest es len behind e (leb-true len (length behind) b) o) n
by_item s fs text es rest len behind false b o n e later =
    let short = leb-false len (length behind) b in cut s fs text es rest (PlainItem len) behind o e (λ has. omega (arith, short, has))

item_ends : (s : Syntax) (fs : List OpenSequence) (text : List ℕ) (es : List Element) (rest behind : List ℕ) (w : Syntax) (outer : List OpenSequence) → fs ≡ InItem w ∷ outer → EndsItem rest behind → length behind < length rest → Opens s fs text es rest
    → is_nested fs ≡ true → Later s text rest → IsAnswered s text
item_ends s fs text es rest behind w outer is end shorter o n later =
    let at : Opens s (InItem w ∷ outer) text es rest = subst (λ (x : List OpenSequence). Opens s x text es rest) is o in
    let nested : is_nested (InItem w ∷ outer) ≡ true = subst (λ (x : List OpenSequence). is_nested x ≡ true) is n in
    later outer es behind shorter (after_item_end s w outer text rest es behind end at) (nested_outer (InItem w) outer nested)

sequence_ends : (s : Syntax) (fs : List OpenSequence) (text : List ℕ) (es : List Element) (rest behind : List ℕ) (t : Tag) (w : Syntax) (outer : List OpenSequence) → fs ≡ InSequence t w ∷ outer → EndsSequence rest behind → length behind < length rest
    → Opens s fs text es rest → is_nested fs ≡ true → Later s text rest → IsAnswered s text
sequence_ends s fs text es rest behind t w outer is end shorter o n later =
    let at : Opens s (InSequence t w ∷ outer) text es rest = subst (λ (x : List OpenSequence). Opens s x text es rest) is o in
    let nested : is_nested (InSequence t w ∷ outer) ≡ true = subst (λ (x : List OpenSequence). is_nested x ≡ true) is n in
    later outer (es ++ whole outer t None) behind shorter (after_sequence_end s t w outer text rest es behind end at) (nested_outer (InSequence t w) outer nested)

by_token : (s : Syntax) (fs : List OpenSequence) (text : List ℕ) (es : List Element) (rest : List ℕ) (token : Token) (behind : List ℕ) → Opens s fs text es rest → is_nested fs ≡ true → token_of s fs rest ≡ Ok (token, behind) → Later s text rest → IsAnswered s text
by_token s fs text es rest (Value t len) behind o n e later = by_value s fs text es rest t len behind (leb len (length behind)) refl o n e later
by_token s fs text es rest (PlainItem len) behind o n e later = by_item s fs text es rest len behind (leb len (length behind)) refl o n e later
by_token s fs text es rest (Sequence t w) behind o n e later =
    later (InSequence t w ∷ fs) es behind (token_shorter s fs rest (Sequence t w) behind e) (after_sequence s fs text rest es t w behind n e o) (sequence_nests s fs rest (Sequence t w) behind t w n e refl)
by_token s fs text es rest Item behind o n e later =
    later (InItem (in_force s fs) ∷ fs) es behind (token_shorter s fs rest Item behind e) (after_item s fs text rest es behind e o) (item_nests s fs rest Item behind (in_force s fs) n e refl)
by_token s fs text es rest ItemEnd behind o n e later =
    let next = token_sound s fs rest ItemEnd behind e in item_ends s fs text es rest behind next.0.0 next.0.1 next.0.2 next.1 (token_shorter s fs rest ItemEnd behind e) o n later
by_token s fs text es rest (SequenceEnd t) behind o n e later =
    let next = token_sound s fs rest (SequenceEnd t) behind e in sequence_ends s fs text es rest behind t next.0.0 next.0.1 next.0.2 next.1 (token_shorter s fs rest (SequenceEnd t) behind e) o n later

by_answer : (s : Syntax) (fs : List OpenSequence) (text : List ℕ) (es : List Element) (rest : List ℕ) (a : Result (Token × List ℕ) DataFault) → (rest ≡ [] → fs ≢ []) → Opens s fs text es rest → is_nested fs ≡ true → token_of s fs rest ≡ a → Later s text rest → IsAnswered s text
by_answer s fs text es rest (Ok p) more o n e later = by_token s fs text es rest p.0 p.1 o n e later
by_answer s fs text es rest (Err f) more o n e later =
    inl (f, (λ m. token_tells s fs rest Memory (e ∙ ap (λ (x : DataFault). Err x) m)), (fs, es, rest, o, shows s fs rest f more e))

by_place : (s : Syntax) (fs : List OpenSequence) (text : List ℕ) (es : List Element) (rest : List ℕ) → Opens s fs text es rest → is_nested fs ≡ true → Later s text rest → IsAnswered s text
by_place s [] text es [] o n later = inr (es, o)
by_place s [] text es (b ∷ bs) o n later = by_answer s [] text es (b ∷ bs) (token_of s [] (b ∷ bs)) (λ none top. cc none) o n refl later
by_place s (f ∷ fs) text es rest o n later = by_answer s (f ∷ fs) text es rest (token_of s (f ∷ fs) rest) (λ none top. cc top) o n refl later

answered : (n : ℕ) (s : Syntax) (fs : List OpenSequence) (text : List ℕ) (es : List Element) (rest : List ℕ) → length rest ≤ n → Opens s fs text es rest → is_nested fs ≡ true → IsAnswered s text
answered zero s fs text es rest len o nested = by_place s fs text es rest o nested (λ gs xs more shorter. absurd (omega (arith, len, shorter)))
answered (suc n) s fs text es rest len o nested = by_place s fs text es rest o nested (λ gs xs more shorter p m. answered n s gs text xs more (omega (arith, len, shorter)) p m)

err_is : (f : DataFault) → f ≢ Memory → ◌≢◌ {A = Result Attributes DataFault} (Err f) (Err Memory)
err_is f ne e = ne (cc e)

ok_is : (a : Attributes) → ◌≢◌ {A = Result Attributes DataFault} (Ok a) (Err Memory)
ok_is a e = cc e

pub some_answer : (s : Syntax) (text : List ℕ) → (r : Result Attributes DataFault) × (r ≢ Err Memory) × Scans s text r
some_answer s text = elim (answered (length text) s [] text [] text (omega arith) refl refl) [
  | inl w ↦ (Err w.0, err_is w.0 w.1, w.2)
  | inr w ↦ (Ok (record { class = value_at 0x0008 0x0016 w.0; instance = value_at 0x0008 0x0018 w.0; modality = value_at 0x0008 0x0060 w.0; station = value_at 0x0008 0x1010 w.0 }), ok_is _, (w.0, w.1, refl, refl, refl, refl))
]
