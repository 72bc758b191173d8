-- The file meta information of a text is read in one way.
use Rattle.std.proofs.Common.{◌≡◌, ◌≢◌, ℕ, zero, suc, ◌<◌, ◌≤◌, Bool, true, false, cond, eqb, List, [], ◌∷◌, ◌++◌, length, take, drop, refl, sym, ap, subst, ◌∙◌, arith, inl, inr, Option, Some, None}
use Rattle.std.specs.Prelude.{codes, option_map, unwrap_or}
use Rattle.std.specs.Option.{option_or}
use Rattle.dr_base.proofs.RunLemmas.{run_more}
use Rattle.dr_dataset.proofs.FoundLemmas.{found_more}
use Rattle.std.specs.Bool.{MatchBool}
use Rattle.std.specs.List.{IsSplitAt}
use Rattle.std.proofs.lemmas.List.{append-nil, length-append, take-append-drop, drop_at}
use Rattle.std.proofs.lemmas.Bool.{eqb-true, eqb-false}
use Rattle.dr_base.specs.Runs.{Run}
use Rattle.dr_base.specs.declared.syntax.Syntax.{Syntax}
use Rattle.dr_base.specs.declared.syntax.Syntax.TheVariants.{Explicit}
use Rattle.dr_dataset.specs.declared.fault.DataFault.{DataFault}
use Rattle.dr_dataset.specs.declared.fault.DataFault.TheVariants.{Memory}
use Rattle.dr_dataset.specs.declared.header.Tag.{Tag}
use Rattle.dr_dataset.specs.Elements.{Element, StartsTag, StartsElement}
use Rattle.dr_dataset.specs.DataSet.{has_tag, is_key, first_value, StartsTop}
use Rattle.dr_base.specs.Padding.{unpadded}
use Rattle.dr_dataset.specs.Reading.{tag_of}
use Rattle.dr_dataset.specs.Wholes.{FailsAtOnce}
use Rattle.dr_dataset.specs.Files.{IsFile, StartsMeta, EndsMeta, IsMeta, named}
use Rattle.dr_dataset.proofs.ReadingLemmas.{tag_sound, tag_whole}
use Rattle.dr_dataset.proofs.ElementLemmas.{one_element, none_where_it_fails}

-- ---- tags

tag_pair : (t u : Tag) (a b : List ℕ) → ◌≡◌ {A = Option (Tag × List ℕ)} (Some (t, a)) (Some (u, b)) → t ≡ u
tag_pair t u a b e = let same : ◌≡◌ {A = Tag × List ℕ} (t, a) (u, b) = cc in ap (λ (p : Tag × List ℕ). p.0) same

one_tag : (text : List ℕ) (t u : Tag) (a b : List ℕ) → StartsTag text t a → StartsTag text u b → t ≡ u
one_tag text t u a b p q = tag_pair t u a b (sym (tag_whole text t a p) ∙ tag_whole text u b q)

no_tag : (text : List ℕ) → tag_of text ≡ None → (t : Tag) (rest : List ℕ) → StartsTag text t rest → ⊥
no_tag text e t rest starts = cc (sym e ∙ tag_whole text t rest starts)

no_tag_in_nothing : (t : Tag) (rest : List ℕ) → StartsTag [] t rest → ⊥
no_tag_in_nothing t rest starts = no_tag [] refl t rest starts

-- an element begins with its tag
element_tag : (n : ℕ) (s : Syntax) (text : List ℕ) (e : Element) (rest : List ℕ) → StartsElement n s text e rest → (behind : List ℕ) × StartsTag text e.tag behind
element_tag zero s text e rest (t, f, value, (behind, starts, ne, form), defined, len, is) = (behind, subst (λ (x : Element). StartsTag text x.tag behind) (sym is) starts)
element_tag (suc n) s text e rest (inl (t, f, value, (behind, starts, ne, form), defined, len, is)) = (behind, subst (λ (x : Element). StartsTag text x.tag behind) (sym is) starts)
element_tag (suc n) s text e rest (inr (t, w, items, first, close, (f, (behind, starts, ne, form), len, within), run, end, is)) = (behind, subst (λ (x : Element). StartsTag text x.tag behind) (sym is) starts)

-- ---- what comes next

pub next_is_meta : (text : List ℕ) (t : Tag) (rest : List ℕ) (b : Bool) → tag_of text ≡ Some (t, rest) → eqb t.group 2 ≡ b
    → MatchBool b ((u : Tag) × (more : List ℕ) × StartsTag text u more × (u.group ≡ 2)) ((u : Tag) (more : List ℕ) → StartsTag text u more → u.group ≢ 2)
next_is_meta text t rest true e is = (t, rest, tag_sound text t rest e, eqb-true t.group 2 is)
next_is_meta text t rest false e is = λ u more starts h. eqb-false t.group 2 is (ap (λ (x : Tag). x.group) (one_tag text t u rest more (tag_sound text t rest e) starts) ∙ h)

pub not_meta_without_tag : (text : List ℕ) → tag_of text ≡ None → (u : Tag) (more : List ℕ) → StartsTag text u more → u.group ≢ 2
not_meta_without_tag text e u more starts = absurd (no_tag text e u more starts)

-- ---- runs of the file meta information

not_a_key : (t : Tag) → t.group ≡ 2 → is_key t ≡ false
not_a_key t e = rw e refl

pub meta_is_top : (text : List ℕ) (e : Element) (rest : List ℕ) → StartsMeta text e rest → StartsTop Explicit text e rest
meta_is_top text e rest (starts, group) = (starts, λ key. absurd (cc (sym key ∙ not_a_key e.tag group)))

one_meta : (text : List ℕ) (x y : Element) (a b : List ℕ) → StartsMeta text x a → StartsMeta text y b → (x ≡ y) × (a ≡ b)
one_meta text x y a b p q = one_element Explicit text x y a b (meta_is_top text x a p) (meta_is_top text y b q)

pub meta_then_end : (text : List ℕ) (e : Element) (rest : List ℕ) → EndsMeta text → StartsMeta text e rest → ⊥
meta_then_end text e rest (inl none) (starts, group) = let t = element_tag 32 Explicit text e rest starts in no_tag_in_nothing e.tag t.0 (subst (λ (x : List ℕ). StartsTag x e.tag t.0) none t.1)
meta_then_end text e rest (inr (t, more, begins, other)) (starts, group) =
    let u = element_tag 32 Explicit text e rest starts in
    other (ap (λ (x : Tag). x.group) (one_tag text t e.tag more u.0 begins u.1) ∙ group)

-- of two runs from one text the one that ends the meta information is no shorter
pub goes_on : (xs ys : List Element) (text mid end : List ℕ) → Run StartsMeta xs text mid → Run StartsMeta ys text end → EndsMeta end → (later : List Element) × (ys ≡ xs ++ later) × Run StartsMeta later mid end
goes_on [] ys text mid end r q ends = (ys, refl, subst (λ (t : List ℕ). Run StartsMeta ys t end) r q)
goes_on (x ∷ xs) [] text mid end r q ends = absurd (meta_then_end end x r.0 ends (subst (λ (t : List ℕ). StartsMeta t x r.0) q r.1))
goes_on (x ∷ xs) (y ∷ ys) text mid end r q ends =
    let e = one_meta text x y r.0 q.0 r.1 q.1 in
    let on = goes_on xs ys r.0 mid end r.2 (subst (λ (t : List ℕ). Run StartsMeta ys t end) (sym e.1) q.2) ends in
    (on.0, cc (e.0, on.1), on.2)

-- where neither an element of the meta information nor its end comes next, there is none
no_meta : (text : List ℕ) (es : List Element) (rest : List ℕ) → Run StartsMeta es text rest → (EndsMeta rest → ⊥) → ((e : Element) (more : List ℕ) → StartsMeta rest e more → ⊥) → (name behind : List ℕ) → IsMeta text name behind → ⊥
no_meta text es rest run unended none name behind (xs, other, ends, is) =
    let on = goes_on es xs text rest behind run other ends in first on.0 on.2
  where
    first : (later : List Element) → Run StartsMeta later rest behind → ⊥
    first [] r = unended (subst EndsMeta (sym r) ends)
    first (x ∷ later) r = none x r.0 r.1

pub fails : (text : List ℕ) (es : List Element) (rest : List ℕ) (f : DataFault) → Run StartsMeta es text rest → f ≢ Memory → FailsAtOnce Explicit rest f → ((t : Tag) × (more : List ℕ) × StartsTag rest t more × (t.group ≡ 2))
    → (name behind : List ℕ) → IsMeta text name behind → ⊥
fails text es rest f run ne h (t, more, begins, group) =
    no_meta text es rest run unended (λ e after starts. none_where_it_fails Explicit rest f e after ne h (meta_is_top rest e after starts))
  where
    unended : EndsMeta rest → ⊥
    unended (inl none) = no_tag_in_nothing t more (subst (λ (x : List ℕ). StartsTag x t more) none begins)
    unended (inr (u, after, other, ne)) = ne (ap (λ (x : Tag). x.group) (one_tag rest u t after more other begins) ∙ group)

pub cut_tag : (text : List ℕ) (es : List Element) (rest : List ℕ) → Run StartsMeta es text rest → rest ≢ [] → tag_of rest ≡ None → (name behind : List ℕ) → IsMeta text name behind → ⊥
cut_tag text es rest run some cut = no_meta text es rest run unended (λ e more starts. let t = element_tag 32 Explicit rest e more starts.0 in no_tag rest cut e.tag t.0 t.1)
  where
    unended : EndsMeta rest → ⊥
    unended (inl none) = some none
    unended (inr (u, after, other, ne)) = no_tag rest cut u after other

-- the meta information ends there: it has these elements
ended : (text : List ℕ) (es : List Element) (rest : List ℕ) → Run StartsMeta es text rest → EndsMeta rest → (xs : List Element) (behind : List ℕ) → Run StartsMeta xs text behind → EndsMeta behind → xs ≡ es
ended text es rest run ends xs behind other stop =
    let on = goes_on es xs text rest behind run other stop in on.1 ∙ ap (λ (k : List Element). es ++ k) (none on.0 on.2) ∙ append-nil es
  where
    none : (later : List Element) → Run StartsMeta later rest behind → later ≡ []
    none [] r = refl
    none (x ∷ later) r = absurd (meta_then_end rest x r.0 ends r.1)

pub unnamed : (text : List ℕ) (es : List Element) (rest : List ℕ) → Run StartsMeta es text rest → EndsMeta rest → first_value 2 0x10 es ≡ None → (name behind : List ℕ) → IsMeta text name behind → ⊥
unnamed text es rest run ends none name behind (xs, other, stop, is) =
    let same : xs ≡ es = ended text es rest run ends xs behind other stop in
    cc (sym is ∙ ap named same ∙ ap (option_map unpadded) none)

pub meta_named : (text : List ℕ) (es : List Element) (rest name : List ℕ) → Run StartsMeta es text rest → EndsMeta rest → first_value 2 0x10 es ≡ Some name → IsMeta text (unpadded name) rest
meta_named text es rest name run ends is = (es, run, ends, ap (option_map unpadded) is)

-- behind the meta information: nothing, or a tag of another group
pub ends_here : (rest : List ℕ) (o : Option (Tag × List ℕ)) → tag_of rest ≡ o → (rest ≢ [] → o ≢ None) → ((u : Tag) (more : List ℕ) → StartsTag rest u more → u.group ≢ 2) → EndsMeta rest
ends_here [] o e some other = inl refl
ends_here (b ∷ bs) None e some other = absurd (some (λ h. cc h) refl)
ends_here (b ∷ bs) (Some p) e some other = let t = tag_sound (b ∷ bs) p.0 p.1 e in inr (p.0, p.1, t, other p.0 p.1 t)

-- ---- the preamble

-- what follows 128 bytes, in a file
file_marks : (text preamble marked rest : List ℕ) → IsSplitAt text 128 preamble marked → IsFile text rest → marked ≡ codes "DICM" ++ rest
file_marks text preamble marked rest split (front, len, is) =
    split.2 ∙ ap (drop 128) is ∙ drop_at front (codes "DICM" ++ rest) 128 len

pub short_file : (text rest : List ℕ) → length text < 128 → IsFile text rest → ⊥
short_file text rest short (front, len, is) = omega (arith, short, len, ap length is, length-append front (codes "DICM" ++ rest))

pub short_mark : (text preamble marked rest : List ℕ) → IsSplitAt text 128 preamble marked → length marked < 4 → IsFile text rest → ⊥
short_mark text preamble marked rest split short file = omega (arith, short, ap length (file_marks text preamble marked rest split file))

pub other_mark : (text preamble marked mark after rest : List ℕ) → IsSplitAt text 128 preamble marked → IsSplitAt marked 4 mark after → mark ≢ codes "DICM" → IsFile text rest → ⊥
other_mark text preamble marked mark after rest split split' ne file = ne (split'.1 ∙ ap (take 4) (file_marks text preamble marked rest split file))

pub is_file : (text preamble marked mark rest : List ℕ) → IsSplitAt text 128 preamble marked → IsSplitAt marked 4 mark rest → mark ≡ codes "DICM" → IsFile text rest
is_file text preamble marked mark rest split split' is = (
  preamble,
  split.3,
  sym (take-append-drop 128 text) ∙ ap (λ (x : List ℕ). x ++ drop 128 text) (sym split.1) ∙ ap (λ (x : List ℕ). preamble ++ x) (sym split.2)
      ∙ ap (λ (x : List ℕ). preamble ++ x) (sym (take-append-drop 4 marked) ∙ ap (λ (x : List ℕ). x ++ drop 4 marked) (sym split'.1 ∙ is) ∙ ap (λ (x : List ℕ). codes "DICM" ++ x) (sym split'.2)),
)

-- ---- one more element of the meta information

same_group : (text : List ℕ) (e : Element) (rest : List ℕ) → StartsElement 32 Explicit text e rest → ((t : Tag) × (more : List ℕ) × StartsTag text t more × (t.group ≡ 2)) → e.tag.group ≡ 2
same_group text e rest starts (t, more, begins, group) =
    let u = element_tag 32 Explicit text e rest starts in ap (λ (x : Tag). x.group) (one_tag text e.tag t u.0 more u.1 begins) ∙ group

pub meta_goes_on : (s : Syntax) (text mid : List ℕ) (es : List Element) (x : Element) (rest : List ℕ) (found result : Option (List ℕ)) (is_name : Bool) (bytes : List ℕ) → s ≡ Explicit → ((t : Tag) × (more : List ℕ) × StartsTag mid t more × (t.group ≡ 2))
    → Run StartsMeta es text mid → found ≡ first_value 2 0x10 es → StartsTop s mid x rest → is_name ≡ has_tag 2 0x10 x.tag → bytes ≡ unwrap_or x.value [] → result ≡ option_or found (cond is_name (Some bytes) None)
    → (xs : List Element) × Run StartsMeta xs text rest × (result ≡ first_value 2 0x10 xs)
meta_goes_on s text mid es x rest found result is_name bytes same next run first starts name value is =
    let explicit : StartsElement 32 Explicit mid x rest = subst (λ (t : Syntax). StartsElement 32 t mid x rest) same starts.0 in
    (es ++ x ∷ [], run_more StartsMeta es x text mid rest run (explicit, same_group mid x rest explicit next), found_more 2 0x10 es x found result is_name bytes first name value is)

pub file_longer : (text rest : List ℕ) → IsFile text rest → length rest ≤ length text
file_longer text rest (front, len, is) = omega (arith, ap length is, length-append front (codes "DICM" ++ rest))
