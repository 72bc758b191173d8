-- A ledger that has taken another plan, or is as it was.
use Rattle.std.proofs.Common.{◌≡◌, ◌⊎◌, ℕ, ◌≤◌, List, Option, None, Some, Result, Ok, Err, inl, inr}
use Rattle.std.proofs.Common.{refl, sym, ap, subst, ◌∙◌, arith}
use Rattle.std.specs.FinMap as map
use mathlib.Core.Logic.{∥∥₁_elim}
use Rattle.dr_base.specs.Texts.{Text}
use Rattle.dr_cert.specs.Sealing.{Certified}
use Rattle.dr_plan_model.specs.Networks.{Network}
use Rattle.dr_plan_model.specs.Plans.{IsNode, IsTheNode, NamesNoNode}
use Rattle.dr_plan_model.specs.declared.plan.Node.{Node}
use Rattle.dr_ledger.specs.declared.fault.LedgerFault.{LedgerFault}
use Rattle.dr_ledger.specs.declared.fault.LedgerFault.TheVariants as ledger
use Rattle.dr_ledger.specs.Adopting.{Adopting, IsFit, Unfits}
use Rattle.dr_ledger.specs.Bodies.{Bodies, HasBodies, IsNeeded, LosesNone, OnlyLetsGo}
use Rattle.dr_ledger.specs.Books.{Adoption, Book, after}
use Rattle.dr_ledger.specs.Replies.{Counts, HasRisen}
use Rattle.dr_ledger.proofs.Maps.{texts}
use Rattle.dr_ledger.proofs.Needs.{adoptions_need_the_same}
use Rattle.dr_site.specs.Parts.{IsPartOf, Part}
use Rattle.dr_desk.specs.declared.adopting.AdoptFault.{AdoptFault}
use Rattle.dr_desk.specs.declared.adopting.AdoptFault.TheVariants as fault
use Rattle.dr_desk.specs.Adoptions.{AnswersPlan, HasTaken, IsAsItWas, LastsAfter, RefusesPlan}
use Rattle.dr_desk.specs.Adoptions.{StillStands, untaken_by}

-- ---- the premise

-- what the ledger answered
pub lasts_still :
    {A : Type 0} (why : LedgerFault) (told : AdoptFault) (Trusted Trusts Stood Stands : Type 0)
    → told ≡ untaken_by why → (Trusts → Trusted)
    → StillStands {A = A} (Err told) Trusted Trusts Stood Stands
lasts_still {A} why told Trusted Trusts Stood Stands is trusted = record {
  trusted = trusted;
  lasts = subst
      (λ (w : AdoptFault). LastsAfter {A = A} (Err w) (Trusts → Stood → Stands)) (sym is) (of why);
}
  where
    of : (w : LedgerFault) → LastsAfter {A = A} (Err (untaken_by w)) (Trusts → Stood → Stands)
    of ledger.Store = tt
    of ledger.Memory = tt
    of ledger.NoLine = tt
    of ledger.Conflict = tt
    of ledger.NotWaiting = tt
    of ledger.NotHeld = tt
    of ledger.NotOver = tt

-- an answer that comes once the rows were looked at
pub lasts_then :
    {A : Type 0} (result : Result A AdoptFault) (Trusted Mid Trusts Stood Between Stands : Type 0)
    → (Mid → Trusted) → (Mid → Stood → Between)
    → StillStands result Mid Trusts Between Stands
    → StillStands result Trusted Trusts Stood Stands
lasts_then {A} result Trusted Mid Trusts Stood Between Stands first goes h =
    record { trusted = λ t. first (h.trusted t); lasts = of result h.lasts }
  where
    of : (r : Result A AdoptFault)
        → LastsAfter r (Trusts → Between → Stands)
        → LastsAfter r (Trusts → Stood → Stands)
    of (Ok value) k = λ t s. k t (goes (h.trusted t) s)
    of (Err fault.NoNode) k = λ t s. k t (goes (h.trusted t) s)
    of (Err (fault.Unfit uid dest)) k = λ t s. k t (goes (h.trusted t) s)
    of (Err fault.Store) k = tt
    of (Err fault.Memory) k = tt

-- ---- data sets

none_or_some : {X : Type 0} (o : Option X) → (o ≡ None) ⊎ ((x : X) × (o ≡ Some x))
none_or_some None = inl refl
none_or_some (Some x) = inr (x, refl)

-- where all that was needed is needed still, data sets were only let go, and none was lost, none was
-- let go
pub same_bodies : (b c : Book) (old new : Bodies) → ∥ HasBodies b old ∥₁
    → ((uid : Text) → IsNeeded b uid → IsNeeded c uid)
    → OnlyLetsGo old new
    → LosesNone b old c new
    → new ≡ old
same_bodies b c old new had needed lets_go loses = map.same_map texts.total texts.exact new old each
  where
    gone : (uid : Text) → map.get new uid ≡ None → (body : List ℕ) → map.get old uid ≡ Some body → ⊥
    gone uid none body was =
        ∥∥₁_elim had (λ x y. absurd x) (λ h.
        let there = loses uid (needed uid (h.there uid body was)) (inl (body, was)) in
        let e : None ≡ Some there.0 = sym none ∙ there.1 in
        cc)

    each : (uid : Text) → map.get new uid ≡ map.get old uid
    each uid = elim (none_or_some (map.get new uid)) [
      | inl none ↦ elim (none_or_some (map.get old uid)) [
        | inl also ↦ none ∙ sym also
        | inr was ↦ absurd (gone uid none was.0 was.1)
      ]
      | inr there ↦ there.1 ∙ sym (lets_go uid there.0 there.1)
    ]

-- ---- nodes

pub no_node : (plan seen : Network) (name asked : Text)
    → seen ≡ plan → asked ≡ name → NamesNoNode seen asked → NamesNoNode plan name
no_node plan seen name asked p n h =
    subst (λ (x : Network). NamesNoNode x name) p (subst (λ (t : Text). NamesNoNode seen t) n h)

pub one_node : (plan seen : Network) (name asked : Text) (node : Node)
    → seen ≡ plan → asked ≡ name
    → IsTheNode seen asked node
    → NamesNoNode plan name → ⊥
one_node plan seen name asked node p n h none = none node
    (subst (λ (x : Network). IsNode x name node) p (subst (λ (t : Text). IsNode seen t node) n h.0))

-- ---- books

-- a refused adoption leaves the book
pub left : (b c : Book) (why : LedgerFault) → Adopting b (Err why) c → c ≡ b
left b c ledger.Store h = h
left b c ledger.Memory h = h
left b c ledger.NoLine h = absurd h
left b c ledger.Conflict h = absurd h
left b c ledger.NotWaiting h = absurd h
left b c ledger.NotHeld h = absurd h
left b c ledger.NotOver h = absurd h

module _ {L : Type 0} (site_of : L → Part) (book : L → Book) (bodies : L → Bodies)
    (stands : L → Type 0) (failed : L → ℕ) where
  pub still : (old : L) → IsAsItWas site_of book bodies stands failed old old
  still old = record {
    site = refl;
    stood = λ s. s;
    same = λ s. refl;
    data_sets = λ s. refl;
    never_falls = omega arith;
  }

  pub both : (old mid new : L)
      → IsAsItWas site_of book bodies stands failed old mid
      → IsAsItWas site_of book bodies stands failed mid new
      → IsAsItWas site_of book bodies stands failed old new
  both old mid new a b = record {
    site = b.site ∙ a.site;
    stood = λ s. a.stood (b.stood s);
    same = λ s. b.same s ∙ a.same (b.stood s);
    data_sets = λ s. b.data_sets s ∙ a.data_sets (b.stood s);
    never_falls = (let p = a.never_falls in let q = b.never_falls in omega arith);
  }

  -- what fits the ledger as it was fits it
  pub fit_then : (plan : Network) (old mid : L)
      → IsAsItWas site_of book bodies stands failed old mid
      → (stands mid → IsFit plan (site_of old).name (book old))
      → stands mid → IsFit plan (site_of mid).name (book mid)
  fit_then plan old mid a fit s =
      subst (λ (p : Part). IsFit plan p.name (book mid)) (sym a.site)
      (subst (λ (x : Book). IsFit plan (site_of old).name x) (sym (a.same s)) (fit s))

  -- the ledger was only read
  pub was_read : {A : Type 0} (result : Result A LedgerFault) (old new : L)
      → site_of new ≡ site_of old
      → (stands new → stands old)
      → (stands new → (book new ≡ book old) × (bodies new ≡ bodies old))
      → Counts result (failed old) (failed new)
      → IsAsItWas site_of book bodies stands failed old new
  was_read result old new site stood same counts = record {
    site = site;
    stood = stood;
    same = λ s. (same s).0;
    data_sets = λ s. (same s).1;
    never_falls = counts.never_falls;
  }

  -- the ledger refused
  pub refused : {A : Type 0} (next : Network) (why : LedgerFault) (result : Result A LedgerFault)
      (old new : L)
      → result ≡ Err why
      → (NamesNoNode next (site_of old).name → ⊥)
      → Counts result (failed old) (failed new)
      → RefusesPlan site_of book bodies stands failed next (untaken_by why) old new
  refused next ledger.Store result old new is node counts = (node, counts.has_cause is)
  refused next ledger.Memory result old new is node counts = node
  refused next ledger.NoLine result old new is node counts = node
  refused next ledger.Conflict result old new is node counts = node
  refused next ledger.NotWaiting result old new is node counts = node
  refused next ledger.NotHeld result old new is node counts = node
  refused next ledger.NotOver result old new is node counts = node

  -- the ledger adopted the plan
  pub went_over : (next : Certified) (own : Part) (old new : L)
      → ((l : L) → stands l → ∥ HasBodies (book l) (bodies l) ∥₁)
      → IsPartOf next.plan next.certificate own
      → own.name ≡ (site_of old).name
      → (stands old → IsFit next.plan own.name (book old))
      → site_of new ≡ own
      → (stands new → stands old)
      → (stands new → book new ≡ after Adoption (book old))
      → (stands new → OnlyLetsGo (bodies old) (bodies new))
      → (stands new → LosesNone (book old) (bodies old) (book new) (bodies new))
      → failed old ≤ failed new
      → HasTaken site_of book bodies stands failed next own old new
  went_over next own old new bodied part named fit site stood adopted lets_go loses falls = record {
    part = part;
    named = named;
    site = site;
    stood = stood;
    fit = λ s. fit (stood s);
    adopted = adopted;
    data_sets = λ s. same_bodies (book old) (book new) (bodies old) (bodies new)
        (bodied old (stood s))
        (λ uid needed. subst
        (λ (b : Book). IsNeeded b uid) (sym (adopted s))
        ((adoptions_need_the_same (book old) uid).1 needed)) (lets_go s) (loses s);
    never_falls = falls;
  }

  -- the ledger didn't adopt the plan
  pub stayed : (why : LedgerFault) (own : Part) (old new : L)
      → ((l : L) → stands l → ∥ HasBodies (book l) (bodies l) ∥₁)
      → site_of new ≡ site_of old
      → (stands new → stands old)
      → (stands new → Adopting (book old) (Err why) (book new))
      → (stands new → OnlyLetsGo (bodies old) (bodies new))
      → (stands new → LosesNone (book old) (bodies old) (book new) (bodies new))
      → failed old ≤ failed new
      → IsAsItWas site_of book bodies stands failed old new
  stayed why own old new bodied site stood reply lets_go loses falls =
      let same : stands new → book new ≡ book old = λ s. left (book old) (book new) why (reply s) in
      record {
        site = site;
        stood = stood;
        same = same;
        data_sets = λ s. same_bodies (book old) (book new) (bodies old) (bodies new)
            (bodied old (stood s))
            (λ uid needed. subst (λ (b : Book). IsNeeded b uid) (sym (same s)) needed) (lets_go s)
            (loses s);
        never_falls = falls;
      }

  -- what is taken once the rows were looked at
  pub taken_then : (next : Certified) (own : Part) (old mid new : L)
      → IsAsItWas site_of book bodies stands failed old mid
      → HasTaken site_of book bodies stands failed next own mid new
      → HasTaken site_of book bodies stands failed next own old new
  taken_then next own old mid new a t = record {
    part = t.part;
    named = t.named ∙ ap (λ (p : Part). p.name) a.site;
    site = t.site;
    stood = λ s. a.stood (t.stood s);
    fit = λ s. subst (λ (b : Book). IsFit next.plan own.name b) (a.same (t.stood s)) (t.fit s);
    adopted = λ s. t.adopted s ∙ ap (λ (b : Book). after Adoption b) (a.same (t.stood s));
    data_sets = λ s. t.data_sets s ∙ a.data_sets (t.stood s);
    never_falls = (let p = a.never_falls in let q = t.never_falls in omega arith);
  }

  risen : (a b c : ℕ) → a ≤ b → HasRisen b c → HasRisen a c
  risen a b c le (inl more) = inl (omega arith)
  risen a b c le (inr most) = inr most

  -- what is refused once the rows were looked at
  pub refused_then : (next : Network) (why : AdoptFault) (old mid new : L)
      → (NamesNoNode next (site_of old).name → ⊥)
      → IsAsItWas site_of book bodies stands failed old mid
      → IsAsItWas site_of book bodies stands failed mid new
      → RefusesPlan site_of book bodies stands failed next why mid new
      → RefusesPlan site_of book bodies stands failed next why old new
  refused_then next fault.NoNode old mid new node a b h =
      absurd (node (subst (λ (p : Part). NamesNoNode next p.name) a.site h.0))
  refused_then next (fault.Unfit uid dest) old mid new node a b h = (
    node,
    λ s. subst
        (λ (p : Part). Unfits next p.name (book old) (Some (uid, dest))) a.site
        (subst
        (λ (x : Book). Unfits next (site_of mid).name x (Some (uid, dest))) (a.same (b.stood s))
        (h.1 s)),
  )
  refused_then next fault.Store old mid new node a b h = (node, risen _ _ _ a.never_falls h.1)
  refused_then next fault.Memory old mid new node a b h = node

  pub answered_then : (next : Certified) (result : Result Part AdoptFault) (old mid new : L)
      → (NamesNoNode next.plan (site_of old).name → ⊥)
      → IsAsItWas site_of book bodies stands failed old mid
      → AnswersPlan site_of book bodies stands failed next result mid new
      → AnswersPlan site_of book bodies stands failed next result old new
  answered_then next (Ok own) old mid new node a h = taken_then next own old mid new a h
  answered_then next (Err why) old mid new node a h =
      (refused_then next.plan why old mid new node a h.1 h.0, both old mid new a h.1)
