-- A shared desk that takes another plan, or is shared as before.
use Rattle.std.proofs.Common.{◌≡◌, ℕ, List, [], ◌∷◌, All, map as mapped, sym, subst}
use Rattle.std.specs.List.{AllByRecursion, flat_map}
use Rattle.dr_plan_model.specs.Networks.{Network}
use Rattle.dr_plan_model.specs.Plans.{NamesNoNode}
use Rattle.dr_ledger.specs.declared.item.Entry.{Entry}
use Rattle.dr_ledger.specs.Adopting.{IsFit}
use Rattle.dr_ledger.specs.Bodies.{Bodies}
use Rattle.dr_ledger.specs.Books.{Adoption, Book, Line, after}
use Rattle.dr_ledger.specs.Replies.{entry_of}
use Rattle.dr_site.specs.Parts.{Part}
use Rattle.dr_desk.specs.declared.adopting.AdoptFault.{AdoptFault}
use Rattle.dr_desk.specs.declared.changing.ChangeFault.{ChangeFault}
use Rattle.dr_desk.specs.declared.changing.ChangeFault.TheVariants.{Plan, Receipt}
use Rattle.dr_desk.specs.declared.closing.CloseFault.{CloseFault}
use Rattle.dr_desk.specs.declared.closing.CloseFault.TheVariants as close
use Rattle.dr_desk.specs.declared.receipt.Receipt.{Receipt as ReceiptValue}
use Rattle.dr_desk.specs.Adoptions.{IsAsItWas, RefusesPlan}
use Rattle.dr_desk.specs.Agreeing.{AreApart, Fails, IsOfLine, Rises, numbers}
use Rattle.dr_desk.specs.Changes.{RefusesChange, disagreed_by}
use Rattle.dr_desk.specs.Growing.{BeginWith}
use Rattle.dr_desk.proofs.Carried.{receipts_stay}
use Rattle.dr_desk.proofs.Taken.{both, refused_then}

-- receipts of lines of a journal are of lines of it after an adoption
pub of_lines_after : {X : Type 0} (f : X → List ReceiptValue) (xs : List X) (old new : Book)
    → new ≡ after Adoption old
    → AllByRecursion (λ x. All (IsOfLine (mapped entry_of old.lines)) (f x)) xs
    → AllByRecursion (λ x. All (IsOfLine (mapped entry_of new.lines)) (f x)) xs
of_lines_after {X} f xs old new is h = subst
    (λ (b : Book). AllByRecursion (λ x. All (IsOfLine (mapped entry_of b.lines)) (f x)) xs) (sym is)
    (each xs h)
  where
    each : (ys : List X) → AllByRecursion (λ x. All (IsOfLine (mapped entry_of old.lines)) (f x)) ys
        → AllByRecursion (λ x. All (IsOfLine (mapped entry_of (after Adoption old).lines)) (f x)) ys
    each [] k = tt
    each (y ∷ ys) k = (λ i d below. receipts_stay old _ (k.0 i d below), each ys k.1)

module _ {L : Type 0} (site_of : L → Part) (book : L → Book) (bodies : L → Bodies)
    (stands : L → Type 0) (failed : L → ℕ) (own : Part) (first : List Line) where
  -- a comparison that failed is no agreement, whatever the plan
  disagrees_so : (Of : List Entry → Type 0) (Rise Apart : Type 0) (plan : Network)
      (why : CloseFault) (old new : L)
      → (NamesNoNode plan (site_of old).name → ⊥)
      → (stands new
      → IsFit plan (site_of old).name (book old)
      × Fails why (BeginWith first (book old).lines) (Of (mapped entry_of (book old).lines)) Rise
      Apart)
      → RefusesChange site_of book bodies stands failed own first Of Rise Apart plan
      (disagreed_by why) old new
  disagrees_so Of Rise Apart plan (close.Receipt why) old new node fails = (node, fails)
  disagrees_so Of Rise Apart plan close.Store old new node fails = node
  disagrees_so Of Rise Apart plan close.Memory old new node fails = node

  disagrees : (Of : List Entry → Type 0) (Rise Apart : Type 0) (plan : Network) (why : CloseFault)
      (told : ChangeFault) (old new : L)
      → told ≡ disagreed_by why
      → (NamesNoNode plan (site_of old).name → ⊥)
      → (stands new
      → IsFit plan (site_of old).name (book old)
      × Fails why (BeginWith first (book old).lines) (Of (mapped entry_of (book old).lines)) Rise
      Apart)
      → RefusesChange site_of book bodies stands failed own first Of Rise Apart plan told old new
  disagrees Of Rise Apart plan why told old new is node fails = subst
      (λ (w : ChangeFault).
      RefusesChange site_of book bodies stands failed own first Of Rise Apart plan w old new)
      (sym is) (disagrees_so Of Rise Apart plan why old new node fails)

  -- what the ledger refuses the desk refuses
  by_plan : (Of : List Entry → Type 0) (Rise Apart : Type 0) (plan : Network) (why : AdoptFault)
      (told : ChangeFault) (old new : L)
      → told ≡ Plan why
      → RefusesPlan site_of book bodies stands failed plan why old new
      → RefusesChange site_of book bodies stands failed own first Of Rise Apart plan told old new
  by_plan Of Rise Apart plan why told old new is h = subst
      (λ (w : ChangeFault).
      RefusesChange site_of book bodies stands failed own first Of Rise Apart plan w old new)
      (sym is) h

  -- what is refused once the ledger was read
  changed_then : (Of : List Entry → Type 0) (Rise Apart : Type 0) (plan : Network)
      (why : ChangeFault) (old mid new : L)
      → (NamesNoNode plan (site_of old).name → ⊥)
      → IsAsItWas site_of book bodies stands failed old mid
      → IsAsItWas site_of book bodies stands failed mid new
      → RefusesChange site_of book bodies stands failed own first Of Rise Apart plan why mid new
      → RefusesChange site_of book bodies stands failed own first Of Rise Apart plan why old new
  changed_then Of Rise Apart plan (Plan why) old mid new node a b h =
      refused_then site_of book bodies stands failed plan why old mid new node a b h
  changed_then Of Rise Apart plan (Receipt why) old mid new node a b h = (
    node,
    λ s.
        let same = a.same (b.stood s) in (
          subst (λ (p : Part). IsFit plan p.name (book old)) a.site
              (subst (λ (x : Book). IsFit plan (site_of mid).name x) same (h.1 s).0),
          subst
              (λ (x : Book). Fails (close.Receipt why) (BeginWith first x.lines)
              (Of (mapped entry_of x.lines)) Rise Apart) same (h.1 s).1,
        ),
  )

  -- the same, of passes whose receipts these are
  module _ {X : Type 0} (xs : List X) (receipts : X → List ReceiptValue) (plan : Network) where
    abbrev Of : List X → List Entry → Type 0
    Of zs lines = AllByRecursion (λ x. All (IsOfLine lines) (receipts x)) zs

    abbrev Rise : List X → Type 0
    Rise zs = AllByRecursion (λ x. Rises (receipts x)) zs

    abbrev Apart : List X → Type 0
    Apart zs = AreApart (flat_map (λ x. numbers (receipts x)) zs)

    abbrev Refuses : List X → ChangeFault → L → L → Type 0
    Refuses zs why old new = RefusesChange site_of book bodies stands failed own first (Of zs)
        (Rise zs) (Apart zs) plan why old new

    pub passes_disagree : (why : CloseFault) (told : ChangeFault) (old new : L)
        → told ≡ disagreed_by why
        → (NamesNoNode plan (site_of old).name → ⊥)
        → (stands new
        → IsFit plan (site_of old).name (book old)
        × Fails why (BeginWith first (book old).lines) (Of xs (mapped entry_of (book old).lines))
        (Rise xs) (Apart xs))
        → Refuses xs told old new
    passes_disagree why told old new is node fails =
        disagrees (Of xs) (Rise xs) (Apart xs) plan why told old new is node fails

    -- what is said of the passes that were read is said of those that there are
    pub stays_as : (ys : List X) (told : ChangeFault) (old mid new : L)
        → ys ≡ xs
        → (NamesNoNode plan (site_of old).name → ⊥)
        → IsAsItWas site_of book bodies stands failed old mid
        → IsAsItWas site_of book bodies stands failed mid new
        → Refuses ys told mid new
        → Refuses xs told old new × IsAsItWas site_of book bodies stands failed old new
    stays_as ys told old mid new same node a b h = (
      changed_then (Of xs) (Rise xs) (Apart xs) plan told old mid new node a b
          (subst (λ (zs : List X). Refuses zs told mid new) same h),
      both site_of book bodies stands failed old mid new a b,
    )

    pub stays_by_plan : (why : AdoptFault) (told : ChangeFault) (old mid new : L)
        → told ≡ Plan why
        → (NamesNoNode plan (site_of old).name → ⊥)
        → IsAsItWas site_of book bodies stands failed old mid
        → IsAsItWas site_of book bodies stands failed mid new
        → RefusesPlan site_of book bodies stands failed plan why mid new
        → Refuses xs told old new × IsAsItWas site_of book bodies stands failed old new
    stays_by_plan why told old mid new is node a b h = (
      by_plan (Of xs) (Rise xs) (Apart xs) plan why told old new is
          (refused_then site_of book bodies stands failed plan why old mid new node a b h),
      both site_of book bodies stands failed old mid new a b,
    )
