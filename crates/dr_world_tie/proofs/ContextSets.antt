-- Agreed contexts as a set of pairs.
use Rattle.std.proofs.Common.{◌≡◌, Bool, true, false, List, [], ◌∷◌, Contains, refl, sym, ap, subst, ◌∙◌, inl, inr, ◌⊎◌}
use Rattle.std.specs.FinSet as set
use Rattle.std.specs.Str.{bytes_eq}
use Rattle.std.proofs.lemmas.Bool.{false≢true}
use Rattle.std.proofs.lemmas.Slice.Eq.{bytes_eq-Decides}
use Rattle.dr_base.specs.Texts.{Text}
use Rattle.dr_base.specs.Syntaxes.{syntax_uid}
use Rattle.dr_base.specs.declared.syntax.Syntax.{Syntax}
use Rattle.dr_base.specs.declared.syntax.Syntax.TheVariants.{Implicit, Explicit}
use Rattle.dr_plan_model.proofs.Gathered.{nothing_in_nil, Contains-cons_cases, Contains-there, Contains-here}
use Rattle.dr_plan_sound.specs.Certificates.{pair_cmp as context_cmp}
use Rattle.dr_ledger.proofs.Maps.{IsExact, contains_new, still_contains, contained}
use Rattle.dr_world_model.proofs.OneReply.{contexts_exact, contexts_total}
use Rattle.dr_world_model.specs.Worlds.{Contexts}
use Rattle.dr_nego.specs.declared.agreed.Pair.{Pair}
use Rattle.dr_world_tie.specs.Channels.{contexts_of, with_context, syntaxes_named, if_named}

contexts : IsExact context_cmp
contexts = record { total = contexts_total; exact = contexts_exact }

named_by : (b c : Bool) (uid : Text) → bytes_eq uid (syntax_uid Implicit) ≡ b → bytes_eq uid (syntax_uid Explicit) ≡ c → (s : Syntax) → Contains (if_named b Implicit (if_named c Explicit [])) s → uid ≡ syntax_uid s
named_by true true uid i e s h = elim (Contains-cons_cases Implicit (Explicit ∷ []) s h) [
  | inl same ↦ subst (λ (r : Syntax). uid ≡ syntax_uid r) same ((bytes_eq-Decides uid (syntax_uid Implicit)).0 i)
  | inr later ↦ only s later
]
  where
    only : (s : Syntax) → Contains (Explicit ∷ []) s → uid ≡ syntax_uid s
    only s h = elim (Contains-cons_cases Explicit [] s h) [
      | inl same ↦ subst (λ (r : Syntax). uid ≡ syntax_uid r) same ((bytes_eq-Decides uid (syntax_uid Explicit)).0 e)
      | inr later ↦ absurd (nothing_in_nil s later)
    ]
named_by true false uid i e s h = elim (Contains-cons_cases Implicit [] s h) [
  | inl same ↦ subst (λ (r : Syntax). uid ≡ syntax_uid r) same ((bytes_eq-Decides uid (syntax_uid Implicit)).0 i)
  | inr later ↦ absurd (nothing_in_nil s later)
]
named_by false true uid i e s h = elim (Contains-cons_cases Explicit [] s h) [
  | inl same ↦ subst (λ (r : Syntax). uid ≡ syntax_uid r) same ((bytes_eq-Decides uid (syntax_uid Explicit)).0 e)
  | inr later ↦ absurd (nothing_in_nil s later)
]
named_by false false uid i e s h = absurd (nothing_in_nil s h)

named_from : (uid : Text) (s : Syntax) → Contains (syntaxes_named uid) s → uid ≡ syntax_uid s
named_from uid s h = named_by (bytes_eq uid (syntax_uid Implicit)) (bytes_eq uid (syntax_uid Explicit)) uid refl refl s h

behind : (b : Bool) (t s : Syntax) (more : List Syntax) → Contains more s → Contains (if_named b t more) s
behind true t s more h = Contains-there t more s h
behind false t s more h = h

named_here : (b : Bool) (t : Syntax) (more : List Syntax) → b ≡ true → Contains (if_named b t more) t
named_here true t more e = Contains-here t more
named_here false t more e = absurd (false≢true e)

is_named : (s : Syntax) → Contains (syntaxes_named (syntax_uid s)) s
is_named Implicit = named_here (bytes_eq (syntax_uid Implicit) (syntax_uid Implicit)) Implicit (if_named (bytes_eq (syntax_uid Implicit) (syntax_uid Explicit)) Explicit []) ((bytes_eq-Decides (syntax_uid Implicit) (syntax_uid Implicit)).1 refl)
is_named Explicit = behind (bytes_eq (syntax_uid Explicit) (syntax_uid Implicit)) Implicit Explicit (if_named (bytes_eq (syntax_uid Explicit) (syntax_uid Explicit)) Explicit []) (named_here (bytes_eq (syntax_uid Explicit) (syntax_uid Explicit)) Explicit [] ((bytes_eq-Decides (syntax_uid Explicit) (syntax_uid Explicit)).1 refl))

still : (class : Text) (ss : List Syntax) (all : Contexts) (pair : Text × Syntax) → set.contains all pair ≡ true → set.contains (with_context class ss all) pair ≡ true
still class [] all pair h = h
still class (s ∷ ss) all pair h = still_contains contexts (with_context class ss all) (class, s) pair (still class ss all pair h)

put : (class : Text) (ss : List Syntax) (all : Contexts) (s : Syntax) → Contains ss s → set.contains (with_context class ss all) (class, s) ≡ true
put class [] all s h = absurd (nothing_in_nil s h)
put class (r ∷ rs) all s h = elim (Contains-cons_cases r rs s h) [
  | inl same ↦ subst (λ (q : Syntax). set.contains (with_context class (r ∷ rs) all) (class, q) ≡ true) same (contains_new contexts (with_context class rs all) (class, r))
  | inr later ↦ still_contains contexts (with_context class rs all) (class, r) (class, s) (put class rs all s later)
]

was : (class : Text) (ss : List Syntax) (all : Contexts) (c : Text) (s : Syntax) → set.contains (with_context class ss all) (c, s) ≡ true → ((class ≡ c) × Contains ss s) ⊎ (set.contains all (c, s) ≡ true)
was class [] all c s h = inr h
was class (r ∷ rs) all c s h = elim (contained contexts (with_context class rs all) (class, r) (c, s) h) [
  | inl same ↦ inl (sym (ap (λ (p : Text × Syntax). p.0) same), subst (λ (q : Syntax). Contains (r ∷ rs) q) (sym (ap (λ (p : Text × Syntax). p.1) same)) (Contains-here r rs))
  | inr before ↦ elim (was class rs all c s before) [ inl x ↦ inl (x.0, Contains-there r rs s x.1) | inr y ↦ inr y ]
]

pub has_context : (xs : List Pair) (x : Pair) (class : Text) (s : Syntax) → Contains xs x → x.class ≡ class → x.syntax ≡ syntax_uid s → set.contains (contexts_of xs) (class, s) ≡ true
has_context [] x class s h c e = absurd (nothing_in_nil x h)
has_context (y ∷ ys) x class s h c e = elim (Contains-cons_cases y ys x h) [
  | inl same ↦
      let classes : y.class ≡ class = ap (λ (p : Pair). p.class) same ∙ c in
      let uids : y.syntax ≡ syntax_uid s = ap (λ (p : Pair). p.syntax) same ∙ e in
      subst (λ (t : Text). set.contains (contexts_of (y ∷ ys)) (t, s) ≡ true) classes
      (put y.class (syntaxes_named y.syntax) (contexts_of ys) s (subst (λ (u : Text). Contains (syntaxes_named u) s) (sym uids) (is_named s)))
  | inr later ↦ still y.class (syntaxes_named y.syntax) (contexts_of ys) (class, s) (has_context ys x class s later c e)
]

pub from_context : (xs : List Pair) (class : Text) (s : Syntax) → set.contains (contexts_of xs) (class, s) ≡ true → (x : Pair) × Contains xs x × (x.class ≡ class) × (x.syntax ≡ syntax_uid s)
from_context [] class s h = absurd (let e = set.contains-empty context_cmp (class, s) in false≢true (sym e ∙ h))
from_context (y ∷ ys) class s h = elim (was y.class (syntaxes_named y.syntax) (contexts_of ys) class s h) [
  | inl here ↦ (y, Contains-here y ys, here.0, named_from y.syntax s here.1)
  | inr before ↦
      let r = from_context ys class s before in
      (r.0, Contains-there y ys r.0 r.1, r.2, r.3)
]
