-- What one token with its value does, in the code's terms.
use Rattle.std.proofs.Common.{◌≡◌, ◌≢◌, ℕ, ◌<◌, true, List, [], ◌∷◌, ◌++◌, length, take, drop, refl, sym, ap, subst, ◌∙◌, arith, Option, Some, None, Ok, Err}
use Rattle.std.specs.List.{IsSplitAt}
use Rattle.std.specs.Prelude.{MatchOption}
use Rattle.std.proofs.lemmas.List.{append-nil}
use Rattle.dr_base.specs.declared.syntax.Syntax.{Syntax}
use Rattle.dr_dataset.specs.declared.fault.DataFault.{DataFault}
use Rattle.dr_dataset.specs.declared.fault.DataFault.TheVariants.{Truncated, Memory}
use Rattle.dr_dataset.specs.declared.header.Tag.{Tag}
use Rattle.dr_dataset.specs.declared.frame.OpenSequence.{OpenSequence}
use Rattle.dr_dataset.specs.declared.frame.OpenSequence.TheVariants.{InSequence, InItem}
use Rattle.dr_dataset.specs.declared.token.Token.{Token}
use Rattle.dr_dataset.specs.declared.token.Token.TheVariants.{Value, Sequence, PlainItem, Item, ItemEnd, SequenceEnd}
use Rattle.dr_dataset.specs.Elements.{Element, EndsSequence, EndsItem}
use Rattle.dr_dataset.specs.DataSet.{Opens, ShowsFault, StartsTop, in_force}
use Rattle.dr_dataset.specs.Tokens.{is_nested, token_of, open_behind, without_first}
use Rattle.dr_dataset.specs.Wholes.{whole, elements_of, element_of}
use Rattle.dr_dataset.specs.declared.whole.Whole.{Whole}
use Rattle.dr_dataset.proofs.TokenLemmas.{token_sound, token_tells}
use Rattle.dr_dataset.proofs.OpensLemmas.{Has, shows, cut_shows, after_value, after_plain_item, after_sequence, after_item, after_item_end, after_sequence_end, token_shorter}

-- a fault but for memory, which shows
abbrev pub IsShown : Syntax → List OpenSequence → List ℕ → DataFault → Type 0
IsShown s fs text fault = (fault ≢ Memory) × ((text ≡ [] → fs ≢ []) → ShowsFault s fs text fault)

pub err_shows : (s : Syntax) (fs : List OpenSequence) (text : List ℕ) (fault : DataFault) → token_of s fs text ≡ Err fault → IsShown s fs text fault
err_shows s fs text fault e = (λ m. token_tells s fs text Memory (e ∙ ap (λ (f : DataFault). Err f) m), λ more. shows s fs text fault more e)

cut : (s : Syntax) (fs : List OpenSequence) (text : List ℕ) (token : Token) (behind : List ℕ) → token_of s fs text ≡ Ok (token, behind) → (Has token behind → ⊥) → IsShown s fs text Truncated
cut s fs text token behind e missing = (λ m. cc, λ _. cut_shows s fs text token behind e missing)

pub value_cut : (s : Syntax) (fs : List OpenSequence) (text : List ℕ) (token : Token) (behind : List ℕ) (t : Tag) (len : ℕ) → token_of s fs text ≡ Ok (token, behind) → token ≡ Value t len → length behind < len → IsShown s fs text Truncated
value_cut s fs text token behind t len e is short =
    cut s fs text (Value t len) behind (e ∙ ap (λ (x : Token). Ok (x, behind)) is) (λ has. omega (arith, has, short))

pub item_cut : (s : Syntax) (fs : List OpenSequence) (text : List ℕ) (token : Token) (behind : List ℕ) (len : ℕ) → token_of s fs text ≡ Ok (token, behind) → token ≡ PlainItem len → length behind < len → IsShown s fs text Truncated
item_cut s fs text token behind len e is short =
    cut s fs text (PlainItem len) behind (e ∙ ap (λ (x : Token). Ok (x, behind)) is) (λ has. omega (arith, has, short))

-- the front that is in order grows, and a number of elements with it
abbrev pub Grows : Syntax → List OpenSequence → List ℕ → List OpenSequence → List Element → List ℕ → Type 0
Grows s fs text stack found rest = (front : List ℕ) (es : List Element) → Opens s fs front es text → Opens s stack front (es ++ found) rest

token_at : (s : Syntax) (fs : List OpenSequence) (text : List ℕ) (token tok : Token) (behind : List ℕ) → token_of s fs text ≡ Ok (token, behind) → token ≡ tok → token_of s fs text ≡ Ok (tok, behind)
token_at s fs text token tok behind e is = e ∙ ap (λ (x : Token). Ok (x, behind)) is

-- at the same stack and with these elements
grows_as : (s : Syntax) (fs : List OpenSequence) (text : List ℕ) (stack stack' : List OpenSequence) (found found' : List Element) (rest rest' : List ℕ) → stack ≡ stack' → found ≡ found' → rest ≡ rest' → Grows s fs text stack' found' rest' → Grows s fs text stack found rest
grows_as s fs text stack stack' found found' rest rest' e f r g =
    subst (λ (x : List OpenSequence). Grows s fs text x found rest) (sym e) (subst (λ (x : List Element). Grows s fs text stack' x rest) (sym f) (subst (λ (x : List ℕ). Grows s fs text stack' found' x) (sym r) g))

nothing_more : (s : Syntax) (fs : List OpenSequence) (text : List ℕ) (stack : List OpenSequence) (rest : List ℕ) → ((front : List ℕ) (es : List Element) → Opens s fs front es text → Opens s stack front es rest) → Grows s fs text stack [] rest
nothing_more s fs text stack rest h front es o = subst (λ (x : List Element). Opens s stack front x rest) (sym (append-nil es)) (h front es o)

pub value_grows : (s : Syntax) (fs : List OpenSequence) (text : List ℕ) (token : Token) (behind : List ℕ) (t : Tag) (len : ℕ) (value rest : List ℕ) (stack : List OpenSequence) (found : List Element)
    → token_of s fs text ≡ Ok (token, behind) → token ≡ Value t len → IsSplitAt behind len value rest → stack ≡ open_behind s token fs → found ≡ whole stack t (Some value) → Grows s fs text stack found rest
value_grows s fs text token behind t len value rest stack found e is split st f =
    let same : stack ≡ fs = st ∙ ap (λ (x : Token). open_behind s x fs) is in
    let elements : found ≡ whole fs t (Some (take len behind)) = f ∙ ap (λ (x : List OpenSequence). whole x t (Some value)) same ∙ ap (λ (x : List ℕ). whole fs t (Some x)) split.1 in
    grows_as s fs text stack fs found (whole fs t (Some (take len behind))) rest (drop len behind) same elements split.2
    (λ front es o. after_value s fs front text es t len behind (token_at s fs text token (Value t len) behind e is) split.0 o)

pub item_grows : (s : Syntax) (fs : List OpenSequence) (text : List ℕ) (token : Token) (behind : List ℕ) (len : ℕ) (value rest : List ℕ) (stack : List OpenSequence)
    → token_of s fs text ≡ Ok (token, behind) → token ≡ PlainItem len → IsSplitAt behind len value rest → stack ≡ open_behind s token fs → Grows s fs text stack [] rest
item_grows s fs text token behind len value rest stack e is split st =
    let same : stack ≡ fs = st ∙ ap (λ (x : Token). open_behind s x fs) is in
    grows_as s fs text stack fs [] [] rest (drop len behind) same refl split.2
    (nothing_more s fs text fs (drop len behind) (λ front es o. after_plain_item s fs front text es len behind (token_at s fs text token (PlainItem len) behind e is) split.0 o))

pub opening_grows : (s : Syntax) (fs : List OpenSequence) (text : List ℕ) (token : Token) (behind : List ℕ) (t : Tag) (w : Syntax) (stack : List OpenSequence) → is_nested fs ≡ true
    → token_of s fs text ≡ Ok (token, behind) → token ≡ Sequence t w → stack ≡ open_behind s token fs → Grows s fs text stack [] behind
opening_grows s fs text token behind t w stack n e is st =
    let same : stack ≡ InSequence t w ∷ fs = st ∙ ap (λ (x : Token). open_behind s x fs) is in
    grows_as s fs text stack (InSequence t w ∷ fs) [] [] behind behind same refl refl
    (nothing_more s fs text (InSequence t w ∷ fs) behind (λ front es o. after_sequence s fs front text es t w behind n (token_at s fs text token (Sequence t w) behind e is) o))

pub open_item_grows : (s : Syntax) (fs : List OpenSequence) (text : List ℕ) (token : Token) (behind : List ℕ) (stack : List OpenSequence)
    → token_of s fs text ≡ Ok (token, behind) → token ≡ Item → stack ≡ open_behind s token fs → Grows s fs text stack [] behind
open_item_grows s fs text token behind stack e is st =
    let same : stack ≡ InItem (in_force s fs) ∷ fs = st ∙ ap (λ (x : Token). open_behind s x fs) is in
    grows_as s fs text stack (InItem (in_force s fs) ∷ fs) [] [] behind behind same refl refl
    (nothing_more s fs text (InItem (in_force s fs) ∷ fs) behind (λ front es o. after_item s fs front text es behind (token_at s fs text token Item behind e is) o))

item_end_at : (s : Syntax) (fs : List OpenSequence) (text behind : List ℕ) (w : Syntax) (outer : List OpenSequence) → fs ≡ InItem w ∷ outer → EndsItem text behind → Grows s fs text (without_first fs) [] behind
item_end_at s fs text behind w outer is end =
    subst (λ (x : List OpenSequence). Grows s x text (without_first x) [] behind) (sym is)
    (nothing_more s (InItem w ∷ outer) text outer behind (λ front es o. after_item_end s w outer front text es behind end o))

pub item_end_grows : (s : Syntax) (fs : List OpenSequence) (text : List ℕ) (token : Token) (behind : List ℕ) (stack : List OpenSequence)
    → token_of s fs text ≡ Ok (token, behind) → token ≡ ItemEnd → stack ≡ open_behind s token fs → Grows s fs text stack [] behind
item_end_grows s fs text token behind stack e is st =
    let next = token_sound s fs text ItemEnd behind (token_at s fs text token ItemEnd behind e is) in
    let same : stack ≡ without_first fs = st ∙ ap (λ (x : Token). open_behind s x fs) is in
    grows_as s fs text stack (without_first fs) [] [] behind behind same refl refl (item_end_at s fs text behind next.0.0 next.0.1 next.0.2 next.1)

sequence_end_at : (s : Syntax) (fs : List OpenSequence) (text behind : List ℕ) (t : Tag) (w : Syntax) (outer : List OpenSequence) → fs ≡ InSequence t w ∷ outer → EndsSequence text behind → Grows s fs text (without_first fs) (whole (without_first fs) t None) behind
sequence_end_at s fs text behind t w outer is end =
    subst (λ (x : List OpenSequence). Grows s x text (without_first x) (whole (without_first x) t None) behind) (sym is) (λ front es o. after_sequence_end s t w outer front text es behind end o)

pub sequence_end_grows : (s : Syntax) (fs : List OpenSequence) (text : List ℕ) (token : Token) (behind : List ℕ) (t : Tag) (stack : List OpenSequence) (found : List Element)
    → token_of s fs text ≡ Ok (token, behind) → token ≡ SequenceEnd t → stack ≡ open_behind s token fs → found ≡ whole stack t None → Grows s fs text stack found behind
sequence_end_grows s fs text token behind t stack found e is st f =
    let next = token_sound s fs text (SequenceEnd t) behind (token_at s fs text token (SequenceEnd t) behind e is) in
    let same : stack ≡ without_first fs = st ∙ ap (λ (x : Token). open_behind s x fs) is in
    let elements : found ≡ whole (without_first fs) t None = f ∙ ap (λ (x : List OpenSequence). whole x t None) same in
    grows_as s fs text stack (without_first fs) found (whole (without_first fs) t None) behind behind same elements refl (sequence_end_at s fs text behind t next.0.0 next.0.1 next.0.2 next.1)

pub split_shorter : (s : Syntax) (fs : List OpenSequence) (text : List ℕ) (token : Token) (behind : List ℕ) (len : ℕ) (value rest : List ℕ) → token_of s fs text ≡ Ok (token, behind) → IsSplitAt behind len value rest → length rest < length text
split_shorter s fs text token behind len value rest e split = omega (arith, token_shorter s fs text token behind e, split.4)

-- where a token ends an element of the top level, the element is the first that the text begins with
pub whole_element : (s t : Syntax) (fs : List OpenSequence) (front text : List ℕ) (stack : List OpenSequence) (found : Option Whole) (w : Whole) (rest : List ℕ) → t ≡ s → Opens s fs front [] text → found ≡ Some w
    → MatchOption found (stack ≢ []) (λ _. stack ≡ []) → ((start : List ℕ) (es : List Element) → Opens t fs start es text → Opens t stack start (es ++ elements_of found) rest) → (stack ≡ []) × StartsTop s front (element_of w) rest
whole_element s t fs front text stack found w rest same o is top grows =
    let none : stack ≡ [] = subst (λ (x : Option Whole). MatchOption x (stack ≢ []) (λ _. stack ≡ [])) is top in
    let grown : Opens s stack front (elements_of found) rest = subst (λ (x : Syntax). Opens x fs front [] text → Opens x stack front (elements_of found) rest) same (grows front []) o in
    let at_top : Opens s [] front (elements_of found) rest = subst (λ (x : List OpenSequence). Opens s x front (elements_of found) rest) none grown in
    let run : Opens s [] front (element_of w ∷ []) rest = subst (λ (x : Option Whole). Opens s [] front (elements_of x) rest) is at_top in
    (none, subst (λ (x : List ℕ). StartsTop s front (element_of w) x) run.2 run.1)
