-- What is answered where one syntax is proposed that some row has.
use Rattle.std.proofs.Common.{◌≡◌, ◌≢◌, ℕ, Bool, Decides, true, false, List, [], ◌∷◌, length, Option, Some, None, Contains, refl, sym, ap, subst, ◌∙◌, inl, inr, arith}
use Rattle.std.specs.Prelude.{filter, find, ◌||◌}
use Rattle.std.specs.List.{flat_map, list_any}
use Rattle.std.specs.Str.{bytes_eq}
use Rattle.std.proofs.lemmas.Bool.{cases_Bool, false≢true}
use Rattle.std.proofs.lemmas.List.Elements.{Contains-append_left, Contains-append_right}
use Rattle.std.proofs.lemmas.Bool.Decides.{Decides-and}
use Rattle.std.proofs.lemmas.Slice.Eq.{bytes_eq-Decides}
use Rattle.dr_base.specs.Texts.{Text}
use Rattle.dr_base.specs.Syntaxes.{syntax_uid}
use Rattle.dr_base.specs.declared.syntax.Syntax.{Syntax}
use Rattle.dr_base.specs.declared.syntax.Syntax.TheVariants.{Implicit, Explicit}
use Rattle.dr_route.specs.Routes.{IsCaller, TakesClass, Takes, AcceptsBy}
use Rattle.dr_route.specs.declared.accept.Callers.{Callers}
use Rattle.dr_route.specs.declared.accept.Callers.TheVariants as callers
use Rattle.dr_route.specs.declared.accept.AcceptRow.{AcceptRow}
use Rattle.dr_plan_model.proofs.Gathered.{nothing_in_nil, Contains-cons_cases, Contains-there, Contains-here}
use Rattle.dr_site.proofs.AsPlanned.{keeps_by}
use Rattle.dr_pdu.specs.declared.pdu.ContextProposal.{ContextProposal}
use Rattle.dr_pdu.specs.declared.pdu.ContextAnswer.{ContextAnswer}
use Rattle.dr_nego.specs.Answering.{member, is_caller, is_row_for, syntaxes_for, is_proposed, answer_with, first_proposed, answer_of}
use Rattle.dr_base.specs.Standard.{verification}

pub same_texts : (a b : Text) → a ≡ b → bytes_eq a b ≡ true
same_texts a b h = (bytes_eq-Decides a b).1 h

-- ---- members

pub or_second : (a b : Bool) → b ≡ true → (a || b) ≡ true
or_second true b h = refl
or_second false b h = h

pub is_among : (x : Text) (xs : List Text) → Contains xs x → member x xs ≡ true
is_among x [] h = absurd (nothing_in_nil x h)
is_among x (y ∷ ys) h = elim (Contains-cons_cases y ys x h) [
  | inl same ↦ ap (λ (b : Bool). b || list_any (bytes_eq x) ys) (same_texts x y (sym same))
  | inr later ↦ or_second (bytes_eq x y) (list_any (bytes_eq x) ys) (is_among x ys later)
]

pub among_texts : (y : Text) (xs : List Text) → member y xs ≡ true → Contains xs y
among_texts y [] h = absurd (false≢true h)
among_texts y (x ∷ xs) h = elim (cases_Bool (bytes_eq y x)) [
  | inl same ↦ subst (λ (t : Text). Contains (x ∷ xs) t) (sym ((bytes_eq-Decides y x).0 same)) (Contains-here x xs)
  | inr other ↦ Contains-there x xs y (among_texts y xs (let f : (bytes_eq y x || member y xs) ≡ true = h in rw other at f))
]

-- what a search finds passes, and is one of those
pub found_is : {X : Type 0} (test : X → Bool) (xs : List X) (x : X) → find test xs ≡ Some x → (test x ≡ true) × Contains xs x
found_is test [] x h = absurd (let f : None ≡ Some x = h in cc f)
found_is test (z ∷ zs) x h = elim (cases_Bool (test z)) [
  | inl passes ↦
      let f : Some z ≡ Some x = rw passes at h in
      let e : z ≡ x = cc f in
      (ap test (sym e) ∙ passes, let P : _ → Type 0 = λ y. Contains (z ∷ zs) y in subst P e (Contains-here z zs))
  | inr fails ↦ (let f : find test zs ≡ Some x = rw fails at h in let r = found_is test zs x f in (r.0, Contains-there z zs x r.1))
]

-- ---- one proposed syntax

abbrev first_length : List Text → ℕ
first_length [] = 0
first_length (t ∷ ts) = length t

pub one_syntax : (a b : Syntax) → syntax_uid a ≡ syntax_uid b → a ≡ b
one_syntax Implicit Implicit h = refl
one_syntax Explicit Explicit h = refl
one_syntax Implicit Explicit h = absurd (let e : 17 ≡ 19 = ap (λ (t : Text). length t) h in omega (arith, e))
one_syntax Explicit Implicit h = absurd (let e : 19 ≡ 17 = ap (λ (t : Text). length t) h in omega (arith, e))

pub only_syntax : (a b : Syntax) → syntax_uid a ∷ [] ≡ syntax_uid b ∷ [] → a ≡ b
only_syntax Implicit Implicit h = refl
only_syntax Explicit Explicit h = refl
only_syntax Implicit Explicit h = absurd (let e : 17 ≡ 19 = ap first_length h in omega (arith, e))
only_syntax Explicit Implicit h = absurd (let e : 19 ≡ 17 = ap first_length h in omega (arith, e))

only_member : (y u : Text) → member y (u ∷ []) ≡ true → y ≡ u
only_member y u h = elim (cases_Bool (bytes_eq y u)) [
  | inl is_so ↦ (bytes_eq-Decides y u).0 is_so
  | inr is_not ↦ absurd (false≢true (let e : (bytes_eq y u || false) ≡ true = h in rw is_not at e))
]

proposed_only : (c : ContextProposal) (s t : Syntax) → c.syntaxes ≡ syntax_uid s ∷ [] → is_proposed c t ≡ true → t ≡ s
proposed_only c s t one h =
    let P : List Text → Type 0 = λ l. member (syntax_uid t) l ≡ true in
    one_syntax t s (only_member (syntax_uid t) (syntax_uid s) (subst P one h))

proposed_is : (c : ContextProposal) (s : Syntax) → c.syntaxes ≡ syntax_uid s ∷ [] → is_proposed c s ≡ true
proposed_is c s one = is_among (syntax_uid s) c.syntaxes (let P : List Text → Type 0 = λ l. Contains l (syntax_uid s) in subst P (sym one) (Contains-here (syntax_uid s) []))

-- of syntaxes one of which is s, the first that is s
found_by : (test : Syntax → Bool) (s : Syntax) → ((t : Syntax) → test t ≡ true → t ≡ s) → test s ≡ true → (ss : List Syntax) → Contains ss s → find test ss ≡ Some s
found_by test s only is [] h = absurd (nothing_in_nil s h)
found_by test s only is (t ∷ ts) h = elim (cases_Bool (test t)) [
  | inl is_so ↦ rw is_so (ap (λ (x : Syntax). Some x) (only t is_so))
  | inr is_not ↦ rw is_not (elim (Contains-cons_cases t ts s h) [
    | inl same ↦ absurd (false≢true (sym is_not ∙ (ap test same ∙ is)))
    | inr later ↦ found_by test s only is ts later
  ])
]

first_is : (c : ContextProposal) (s : Syntax) (ss : List Syntax) → c.syntaxes ≡ syntax_uid s ∷ [] → Contains ss s → first_proposed c ss ≡ Some s
first_is c s ss one h = found_by (is_proposed c) s (λ t. proposed_only c s t one) (proposed_is c s one) ss h

-- ---- rows

accepting : (rows : List AcceptRow) (caller class : Text) (s : Syntax) → AcceptsBy rows caller class s → (row : AcceptRow) × Contains rows row × Takes row caller class s
accepting [] caller class s h = absurd h
accepting (row ∷ rows) caller class s (inl takes) = (row, Contains-here row rows, takes)
accepting (row ∷ rows) caller class s (inr more) =
    let a = accepting rows caller class s more in
    (a.0, Contains-there row rows a.0 a.1, a.2)

-- the tests of a row tell what the row says
pub caller_told : (from : Callers) (caller : Text) → Decides (is_caller from caller) (IsCaller from caller)
caller_told callers.Any caller = (λ h. tt, λ h. refl)
caller_told (callers.Listed names) caller = (among_texts caller names, is_among caller names)

pub class_told : (row : AcceptRow) (caller class : Text) → Decides (is_row_for caller class row) (TakesClass caller class row)
class_told row caller class = Decides-and (is_caller row.from caller) (bytes_eq row.class class) (caller_told row.from caller) (bytes_eq-Decides row.class class)

pub is_the_caller : (from : Callers) (caller : Text) → IsCaller from caller → is_caller from caller ≡ true
is_the_caller from caller h = (caller_told from caller).1 h

pub row_is_for : (row : AcceptRow) (caller class : Text) (s : Syntax) → Takes row caller class s → is_row_for caller class row ≡ true
row_is_for row caller class s takes = (class_told row caller class).1 (takes.0, takes.1)

-- a test that some element passes
pub any_passes : {X : Type 0} (test : X → Bool) (xs : List X) (x : X) → Contains xs x → test x ≡ true → list_any test xs ≡ true
any_passes test [] x h is = absurd (nothing_in_nil x h)
any_passes test (y ∷ ys) x h is = elim (Contains-cons_cases y ys x h) [
  | inl same ↦ ap (λ (b : Bool). b || list_any test ys) (ap test same ∙ is)
  | inr later ↦ or_second (test y) (list_any test ys) (any_passes test ys x later is)
]

in_lists : (rows : List AcceptRow) (row : AcceptRow) (s : Syntax) → Contains rows row → Contains row.syntaxes s → Contains (flat_map (λ (r : AcceptRow). r.syntaxes) rows) s
in_lists [] row s h has = absurd (nothing_in_nil row h)
in_lists (first ∷ rows) row s h has = elim (Contains-cons_cases first rows row h) [
  | inl same ↦ Contains-append_left first.syntaxes (flat_map (λ (r : AcceptRow). r.syntaxes) rows) s (let P : AcceptRow → Type 0 = λ r. Contains r.syntaxes s in subst P (sym same) has)
  | inr later ↦ Contains-append_right first.syntaxes (flat_map (λ (r : AcceptRow). r.syntaxes) rows) s (in_lists rows row s later has)
]

offered : (rows : List AcceptRow) (caller class : Text) (s : Syntax) → AcceptsBy rows caller class s → (list_any (is_row_for caller class) rows ≡ true) × Contains (syntaxes_for rows caller class) s
offered rows caller class s h =
    let a = accepting rows caller class s h in
    let is = row_is_for a.0 caller class s a.2 in
    (any_passes (is_row_for caller class) rows a.0 a.1 is, in_lists (filter (is_row_for caller class) rows) a.0 s (keeps_by (is_row_for caller class) rows a.0 a.1 is) a.2.2)

both : (s : Syntax) → Contains (Implicit ∷ Explicit ∷ []) s
both Implicit = Contains-here Implicit (Explicit ∷ [])
both Explicit = Contains-there Implicit (Explicit ∷ []) Explicit (Contains-here Explicit [])

-- a context with one syntax that a row has is accepted with it
pub accepted_with : (rows : List AcceptRow) (caller : Text) (c : ContextProposal) (s : Syntax) → c.syntaxes ≡ syntax_uid s ∷ [] → AcceptsBy rows caller c.class s →
    answer_of rows caller c ≡ record { id = c.id; result = 0; syntax = syntax_uid s }
accepted_with rows caller c s one h = elim (cases_Bool (bytes_eq c.class verification)) [
  | inl is_so ↦ rw is_so (ap (λ (o : Option Syntax). answer_with c o) (first_is c s (Implicit ∷ Explicit ∷ []) one (both s)))
  | inr is_not ↦
      let o = offered rows caller c.class s h in
      rw (is_not, o.0) (ap (λ (o : Option Syntax). answer_with c o) (first_is c s (syntaxes_for rows caller c.class) one o.1))
]

-- ---- each answer is fair: its id is the context's, and an accepted syntax was proposed

pub record IsFair (c : ContextProposal) (a : ContextAnswer) : Type 0 where
  pub id : a.id ≡ c.id
  pub proposed : a.result ≡ 0 → (s : Syntax) × (a.syntax ≡ syntax_uid s) × Contains c.syntaxes a.syntax
  pub refused : a.result ≢ 0 → a.syntax ≡ []

fair_with : (c : ContextProposal) (o : Option Syntax) → ((s : Syntax) → o ≡ Some s → is_proposed c s ≡ true) → IsFair c (answer_with c o)
fair_with c None f = record { id = refl; proposed = λ e. (let four : ℕ = 4 in let g : four ≡ 0 = e in absurd (omega (arith, g))); refused = λ e. refl }
fair_with c (Some s) f = record { id = refl; proposed = λ e. (s, refl, among_texts (syntax_uid s) c.syntaxes (f s refl)); refused = λ e. absurd (e refl) }

fair_first : (c : ContextProposal) (ss : List Syntax) → IsFair c (answer_with c (first_proposed c ss))
fair_first c ss = fair_with c (first_proposed c ss) (λ s e. (found_is (is_proposed c) ss s e).0)

refused_so : (c : ContextProposal) → IsFair c (record { id = c.id; result = 3; syntax = [] })
refused_so c = record { id = refl; proposed = λ e. (let three : ℕ = 3 in let g : three ≡ 0 = e in absurd (omega (arith, g))); refused = λ e. refl }

pub fair : (rows : List AcceptRow) (caller : Text) (c : ContextProposal) → IsFair c (answer_of rows caller c)
fair rows caller c = elim (cases_Bool (bytes_eq c.class verification)) [
  | inl is_so ↦ rw is_so (fair_first c (Implicit ∷ Explicit ∷ []))
  | inr is_not ↦ elim (cases_Bool (list_any (is_row_for caller c.class) rows)) [
    | inl some ↦ rw (is_not, some) (fair_first c (syntaxes_for rows caller c.class))
    | inr none ↦ rw (is_not, none) (refused_so c)
  ]
]
