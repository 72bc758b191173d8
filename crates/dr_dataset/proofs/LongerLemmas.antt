-- What is read of a text is read of each longer one.
use Rattle.std.proofs.Common.{◌≡◌, ◌≢◌, ℕ, zero, suc, List, [], ◌∷◌, ◌++◌, length, refl, ap, subst, inl, inr, Ok, append_assoc}
use Rattle.dr_base.proofs.RunLemmas.{run_longer}
use Rattle.dr_base.specs.declared.syntax.Syntax.{Syntax}
use Rattle.dr_base.specs.declared.syntax.Syntax.TheVariants.{Implicit, Explicit}
use Rattle.dr_dataset.specs.declared.fault.DataFault.{DataFault}
use Rattle.dr_dataset.specs.declared.fault.DataFault.TheVariants.{Truncated, BadVr, BadLength, TooDeep, Memory}
use Rattle.dr_dataset.specs.declared.header.Tag.{Tag}
use Rattle.dr_dataset.specs.declared.header.HeaderForm.{HeaderForm}
use Rattle.dr_dataset.specs.declared.frame.OpenSequence.{OpenSequence}
use Rattle.dr_dataset.specs.declared.frame.OpenSequence.TheVariants.{InSequence, InItem}
use Rattle.dr_dataset.specs.declared.token.Token.{Token}
use Rattle.dr_dataset.specs.declared.token.Token.TheVariants.{Value, Sequence, PlainItem, Item, ItemEnd, SequenceEnd}
use Rattle.dr_dataset.specs.Elements.{Element, StartsTag, StartsForm, StartsHeader, StartsMark, StartsPlain, StartsItem, OpensSequence, StartsElement}
use Rattle.dr_dataset.specs.DataSet.{in_force, levels_left, StartsTop, Opens, MayOpenItem, ShowsVr, ShowsLength, ShowsDepth, ShowsFault, FirstFault}
use Rattle.dr_dataset.specs.Tokens.{token_of}
use Rattle.dr_dataset.proofs.TokenLemmas.{IsNext, token_sound, token_whole}

tag_longer : (text : List ℕ) (t : Tag) (rest more : List ℕ) → StartsTag text t rest → StartsTag (text ++ more) t (rest ++ more)
tag_longer text t rest more (g, e, is) = (g, e, ap (λ (x : List ℕ). x ++ more) is)

form_longer : (s : Syntax) (text : List ℕ) (f : HeaderForm) (rest more : List ℕ) → StartsForm s text f rest → StartsForm s (text ++ more) f (rest ++ more)
form_longer Implicit text f rest more (v, h, is) = (v, h, ap (λ (x : List ℕ). x ++ more) is)
form_longer Explicit text f rest more (v, has, capitals, inl (short, h, is)) = (v, has, capitals, inl (short, h, ap (λ (x : List ℕ). x ++ more) is))
form_longer Explicit text f rest more (v, has, capitals, inr (r, s, short, h, is)) = (v, has, capitals, inr (r, s, short, h, ap (λ (x : List ℕ). x ++ more) is))

header_longer : (s : Syntax) (text : List ℕ) (t : Tag) (f : HeaderForm) (rest more : List ℕ) → StartsHeader s text t f rest → StartsHeader s (text ++ more) t f (rest ++ more)
header_longer s text t f rest more (behind, starts, ne, form) = (behind ++ more, tag_longer text t behind more starts, ne, form_longer s behind f rest more form)

mark_longer : (element : ℕ) (text : List ℕ) (len : ℕ) (rest more : List ℕ) → StartsMark element text len rest → StartsMark element (text ++ more) len (rest ++ more)
mark_longer element text len rest more (behind, starts, h, is) =
    (behind ++ more, tag_longer text (record { group = 0xFFFE; element = element }) behind more starts, h, ap (λ (x : List ℕ). x ++ more) is)

plain_longer : (s : Syntax) (text : List ℕ) (e : Element) (rest more : List ℕ) → StartsPlain s text e rest → StartsPlain s (text ++ more) e (rest ++ more)
plain_longer s text e rest more (t, f, value, header, defined, len, is) =
    (t, f, value, subst (λ (x : List ℕ). StartsHeader s (text ++ more) t f x) (append_assoc value rest more) (header_longer s text t f (value ++ rest) more header), defined, len, is)

opens_sequence_longer : (s : Syntax) (text : List ℕ) (t : Tag) (w : Syntax) (rest more : List ℕ) → OpensSequence s text t w rest → OpensSequence s (text ++ more) t w (rest ++ more)
opens_sequence_longer s text t w rest more (f, header, len, is) = (f, header_longer s text t f rest more header, len, is)

item_longer : (Starts : List ℕ → Element → List ℕ → Type 0) → ((text : List ℕ) (e : Element) (rest more : List ℕ) → Starts text e rest → Starts (text ++ more) e (rest ++ more))
    → (text : List ℕ) (es : List Element) (rest more : List ℕ) → StartsItem Starts text es rest → StartsItem Starts (text ++ more) es (rest ++ more)
item_longer Starts on text es rest more (inl ((value, defined, mark), none)) =
    inl ((value, defined, subst (λ (x : List ℕ). StartsMark 0xE000 (text ++ more) (length value) x) (append_assoc value rest more) (mark_longer 0xE000 text (length value) (value ++ rest) more mark)), none)
item_longer Starts on text es rest more (inr (first, close, opens, run, (len, end))) =
    inr (first ++ more, close ++ more, mark_longer 0xE000 text 4294967295 first more opens, run_longer Starts on es first close more run, (len, mark_longer 0xE00D close len rest more end))

element_longer : (n : ℕ) (s : Syntax) (text : List ℕ) (e : Element) (rest more : List ℕ) → StartsElement n s text e rest → StartsElement n s (text ++ more) e (rest ++ more)
element_longer zero s text e rest more starts = plain_longer s text e rest more starts
element_longer (suc n) s text e rest more (inl plain) = inl (plain_longer s text e rest more plain)
element_longer (suc n) s text e rest more (inr (t, w, items, first, close, opens, run, (len, end), is)) =
    inr (
      t,
      w,
      items,
      first ++ more,
      close ++ more,
      opens_sequence_longer s text t w first more opens,
      run_longer (StartsItem (StartsElement n w)) (item_longer (StartsElement n w) (element_longer n w)) items first close more run,
      (len, mark_longer 0xE0DD close len rest more end),
      is,
    )

top_longer : (s : Syntax) (text : List ℕ) (e : Element) (rest more : List ℕ) → StartsTop s text e rest → StartsTop s (text ++ more) e (rest ++ more)
top_longer s text e rest more starts = (element_longer 32 s text e rest more starts.0, starts.1)

open_item_longer : (fs : List OpenSequence) (text : List ℕ) (w : Syntax) (rest more : List ℕ) → MayOpenItem fs text w rest → MayOpenItem fs (text ++ more) w (rest ++ more)
open_item_longer [] text w rest more o = absurd o
open_item_longer (InItem u ∷ fs) text w rest more o = absurd o
open_item_longer (InSequence t u ∷ fs) text w rest more o = (o.0, mark_longer 0xE000 text 4294967295 rest more o.1)

-- a front that is in order stays so, whatever follows
pub opens_longer : (s : Syntax) (fs : List OpenSequence) (text : List ℕ) (es : List Element) (rest more : List ℕ) → Opens s fs text es rest → Opens s fs (text ++ more) es (rest ++ more)
opens_longer s [] text es rest more r = run_longer (StartsTop s) (top_longer s) es text rest more r
opens_longer s (InSequence t w ∷ fs) text es rest more (items, mid, first, o, m, r) =
    let n = levels_left (InSequence t w ∷ fs) in (
      items,
      mid ++ more,
      first ++ more,
      opens_longer s fs text es mid more o,
      (m.0, m.1, opens_sequence_longer (in_force s fs) mid t w first more m.2),
      run_longer (StartsItem (StartsElement n w)) (item_longer (StartsElement n w) (element_longer n w)) items first rest more r,
    )
opens_longer s (InItem w ∷ fs) text es rest more (xs, mid, first, o, m, r) =
    (xs, mid ++ more, first ++ more, opens_longer s fs text es mid more o, open_item_longer fs mid w first more m, run_longer (StartsElement (levels_left fs) w) (element_longer (levels_left fs) w) xs first rest more r)

next_longer : (s : Syntax) (fs : List OpenSequence) (text : List ℕ) (token : Token) (rest more : List ℕ) → IsNext s fs text token rest → IsNext s fs (text ++ more) token (rest ++ more)
next_longer s fs text (Value t len) rest more (wants, f, header, is, defined, short) = (wants, f, header_longer (in_force s fs) text t f rest more header, is, defined, short)
next_longer s fs text (Sequence t w) rest more (wants, room, opens) = (wants, room, opens_sequence_longer (in_force s fs) text t w rest more opens)
next_longer s fs text (PlainItem len) rest more (wants, defined, m) = (wants, defined, mark_longer 0xE000 text len rest more m)
next_longer s fs text Item rest more (wants, m) = (wants, mark_longer 0xE000 text 4294967295 rest more m)
next_longer s fs text ItemEnd rest more (is, (len, m)) = (is, (len, mark_longer 0xE00D text len rest more m))
next_longer s fs text (SequenceEnd t) rest more (is, (len, m)) = (is, (len, mark_longer 0xE0DD text len rest more m))

-- a token that is read stays so
pub token_longer : (s : Syntax) (fs : List OpenSequence) (text : List ℕ) (token : Token) (rest more : List ℕ) → token_of s fs text ≡ Ok (token, rest) → token_of s fs (text ++ more) ≡ Ok (token, rest ++ more)
token_longer s fs text token rest more e = token_whole s fs (text ++ more) token (rest ++ more) (next_longer s fs text token rest more (token_sound s fs text token rest e))

vr_longer : (s : Syntax) (fs : List OpenSequence) (text more : List ℕ) → ShowsVr s fs text → ShowsVr s fs (text ++ more)
vr_longer s fs text more (t, a, b, rest, wants, explicit, starts, ne, letters) = (t, a, b, rest ++ more, wants, explicit, tag_longer text t (a ∷ b ∷ rest) more starts, ne, letters)

length_longer : (s : Syntax) (fs : List OpenSequence) (text more : List ℕ) → ShowsLength s fs text → ShowsLength s fs (text ++ more)
length_longer s fs text more (inl (t, rest, starts, bad)) = inl (t, rest ++ more, tag_longer text t rest more starts, bad)
length_longer s fs text more (inr (t, f, rest, wants, header, bad)) = inr (t, f, rest ++ more, wants, header_longer (in_force s fs) text t f rest more header, bad)

depth_longer : (s : Syntax) (fs : List OpenSequence) (text more : List ℕ) → ShowsDepth s fs text → ShowsDepth s fs (text ++ more)
depth_longer s fs text more (t, w, rest, wants, opens, deep) = (t, w, rest ++ more, wants, opens_sequence_longer (in_force s fs) text t w rest more opens, deep)

-- a fault that shows stays, unless more bytes may mend it
pub shows_longer : (s : Syntax) (fs : List OpenSequence) (text more : List ℕ) (f : DataFault) → f ≢ Truncated → f ≢ Memory → ShowsFault s fs text f → ShowsFault s fs (text ++ more) f
shows_longer s fs text more BadVr cut memory h = vr_longer s fs text more h
shows_longer s fs text more BadLength cut memory h = length_longer s fs text more h
shows_longer s fs text more TooDeep cut memory h = depth_longer s fs text more h
shows_longer s fs text more Truncated cut memory h = absurd (cut refl)
shows_longer s fs text more Memory cut memory h = absurd (memory refl)

pub fault_stays : (s : Syntax) (text more : List ℕ) (f : DataFault) → f ≢ Truncated → f ≢ Memory → FirstFault s text f → FirstFault s (text ++ more) f
fault_stays s text more f cut memory (fs, es, rest, o, h) = (fs, es, rest ++ more, opens_longer s fs text es rest more o, shows_longer s fs rest more f cut memory h)
