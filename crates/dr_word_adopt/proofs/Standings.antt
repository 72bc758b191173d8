-- From ledgers that were looked into and changed to the nodes.
use Rattle.std.proofs.Common.{Bool, ◌≡◌, ◌∙◌, inl, inr, ◌++◌, ◌∷◌, [], List, length, map, get_or, refl, sym, ap, subst, Ok, Err, Option, None, Some, is_some, true≢false}
use Rattle.std.specs.Prelude.{All, Contains}
use Rattle.std.proofs.Math.Seq.{take-append_seam}
use Rattle.std.proofs.lemmas.List.{map-append}
use Rattle.std.proofs.lemmas.List.Elements.{All-cons, All-head, All-nil, All-push, All-tail, All-take}
use Rattle.dr_base.specs.Texts.{Text}
use Rattle.dr_cert.specs.Sealing.{Certified}
use Rattle.dr_ledger.specs.Adopting.{IsFit, Unfits}
use Rattle.dr_ledger.specs.Books.{Book, Adoption, after}
use Rattle.dr_ledger.specs.Pairs.{Pair}
use Rattle.dr_run_open.specs.Openings.{IsUnopened, Sites}
use Rattle.dr_run_open.specs.declared.halt.Halt.{Halt}
use Rattle.dr_run_open.specs.declared.halt.Halt.TheVariants.{NoPlan, NoCertificate, NoNode, NotOpened, NoInstance, Refused, Receipt, Failed, Memory}
use Rattle.dr_plan_model.proofs.Gathered.{Contains-cons_cases, Contains-here, Contains-there, nothing_in_nil}
use Rattle.dr_site.specs.Parts.{Part, IsPartOf}
use Rattle.dr_base.specs.Lists.{Each}
use Rattle.dr_word_adopt.specs.Beginnings.{OpensThere, path_in}
use Rattle.dr_word_adopt.specs.Changes.{AreFirst, IsAsOpened, IsLeft, IsOver, IsReady, IsSiteAt, IsUnfitAt, OnlyFirstAreOver, StopsAt, UnfitLeavesAll, name_by}
use Rattle.dr_word_adopt.specs.Changings.{IsChanged, IsKept, LeavesLedger, MayChange, OnlyFirstAreChanged}
use Rattle.dr_word_adopt.specs.Lookings.{IsFound, IsSeen, IsUnseen, LooksInto, StandsAt, stood}
use Rattle.dr_word_adopt.specs.declared.standing.Standing.{Standing}
use Rattle.dr_word_adopt.specs.declared.standing.Standing.TheVariants.{Ready, Over}
use Rattle.dr_word_adopt.specs.declared.standing.FoundLedger.{FoundLedger}
use Rattle.dr_word_adopt.specs.declared.standing.FoundLedger.TheVariants.{InForce, Next}

-- what is shown of an element shows one of them
pub unmapped : {X Y : Type 0} (f : X → Y) (xs : List X) (y : Y) → Contains (map f xs) y → (x : X) × Contains xs x × (f x ≡ y)
unmapped f [] y among = absurd (nothing_in_nil y among)
unmapped f (x ∷ xs) y among = elim (Contains-cons_cases (f x) (map f xs) y among) [
  | inl same ↦ (x, Contains-here x xs, same)
  | inr later ↦ (let found = unmapped f xs y later in (found.0, Contains-there x xs found.0 found.1, found.2))
]

module _ {L : Type 0} (opens : Text → L → Type 0) (site_of : L → Part) (book : L → Book) (stands : L → Type 0) (folder : Text) (old next : Certified) where
  abbrev Left : Standing L → Type 0
  Left s = IsAsOpened opens site_of book stands folder old next s

  abbrev Ripe : Standing L → Type 0
  Ripe s = IsReady opens site_of book stands folder old next s

  -- the ledger of a node that was found, as it was opened
  pub stands_at : (name : Text) (site own : Part) → IsSiteAt old name site → IsSiteAt next name own → (found : FoundLedger L) → IsFound opens site_of (path_in folder name) site own found
      → StandsAt opens site_of book stands folder old next name (stood own found)
  stands_at name site own at_old at_next (InForce l) f =
      let here : (site_of l).name ≡ own.name = ap (λ (p : Part). p.name) f.1 ∙ at_old.named ∙ sym at_next.named in
      let part : IsPartOf old.plan old.certificate (site_of l) = subst (λ (p : Part). IsPartOf old.plan old.certificate p) (sym f.1) at_old.part in
      let opened : opens (path_in folder own.name) l = subst (λ (n : Text). opens (path_in folder n) l) (sym at_next.named) f.0 in (
        at_next.named,
        (l, record { opened = opened; at = record { part = part; named = here } }, at_next.part, refl, λ st. (st, refl, tt)),
      )
  stands_at name site own at_old at_next (Next l) f =
      let here : (site_of l).name ≡ name = ap (λ (s : Part). s.name) f.1 ∙ at_next.named in (
        here,
        record {
          opened = subst (λ (n : Text). opens (path_in folder n) l) (sym here) f.0;
          at = record { part = subst (λ (s : Part). IsPartOf next.plan next.certificate s) (sym f.1) at_next.part; named = refl };
        },
      )

  -- what is left with a book of which more is known is left
  weaker : (Shows : Text → Book → Type 0) (s : Standing L) → IsLeft opens site_of book stands folder old next Shows s → Left s
  weaker Shows (Ready last own) h = (h.0, h.1, h.2, h.3, λ st. ((h.4 st).0, (h.4 st).1, tt))
  weaker Shows (Over l) h = h

  pub ready_left : (s : Standing L) → Ripe s → Left s
  ready_left s h = weaker (IsFit next.plan) s h

  pub unfit_left : (uid dest : Text) (s : Standing L) → IsUnfitAt opens site_of book stands folder old next uid dest s → Left s
  unfit_left uid dest (Ready last own) h = weaker (λ name b. Unfits next.plan name b (Some (uid, dest))) (Ready last own) h
  unfit_left uid dest (Over l) h = absurd h

  -- a look into a ledger as it was opened
  looked : (last : L) (ledger : L) (own : Part) (unfit : Option Pair) → Left (Ready ledger own) → site_of last ≡ site_of ledger
      → (stands last → stands ledger × (book last ≡ book ledger) × Unfits next.plan (site_of ledger).name (book ledger) unfit)
      → IsLeft opens site_of book stands folder old next (λ name b. Unfits next.plan name b unfit) (Ready last own)
  looked last ledger own unfit a same h = (
    a.0,
    a.1,
    a.2,
    same ∙ a.3,
    λ st.
        let was = a.4 (h st).0 in
        let named : (site_of ledger).name ≡ own.name = ap (λ (s : Part). s.name) a.3 ∙ a.1.at.named in
        (was.0, (h st).1 ∙ was.1, subst (λ (b : Book). Unfits next.plan own.name b unfit) was.1 (subst (λ (n : Text). Unfits next.plan n (book ledger) unfit) named (h st).2)),
  )

  pub seen : (s now : Standing L) (unfit : Option Pair) → Left s → LooksInto site_of book stands next s unfit now → IsSeen opens site_of book stands folder old next unfit now
  seen (Ready ledger own) now None a h = subst Ripe (sym h.1) (looked h.0 ledger own None a h.2 h.3)
  seen (Ready ledger own) now (Some row) a h = subst (λ s. IsUnfitAt opens site_of book stands folder old next row.0 row.1 s) (sym h.1) (looked h.0 ledger own (Some row) a h.2 h.3)
  seen (Over ledger) now None a h = subst Ripe (sym h.1) a
  seen (Over ledger) now (Some row) a h = absurd (none_some row h.0)
    where
      none_some : (r : Pair) → Some r ≡ None → ⊥
      none_some r e = true≢false (ap is_some e)

  pub seen_name : (s now : Standing L) (unfit : Option Pair) → LooksInto site_of book stands next s unfit now → name_by site_of now ≡ name_by site_of s
  seen_name (Ready ledger own) now unfit h = ap (name_by site_of) h.1
  seen_name (Over ledger) now unfit h = ap (name_by site_of) h.1

  -- a ledger whose owner and book are as they were is left
  pub kept_left : (s now : Standing L) → Left s → IsKept site_of book stands next s now → Left now
  kept_left (Ready ledger own) now a h = subst Left (sym h.1) (a.0, a.1, a.2, h.2 ∙ a.3, λ st. let was = a.4 (h.3 st).0 in (was.0, (h.3 st).1 ∙ was.1, tt))
  kept_left (Over ledger) now a h = subst Left (sym h) a

  pub kept_name : (s now : Standing L) → IsKept site_of book stands next s now → name_by site_of now ≡ name_by site_of s
  kept_name (Ready ledger own) now h = ap (name_by site_of) h.1
  kept_name (Over ledger) now h = ap (name_by site_of) h

  -- a ledger that is ready may be changed, and then it is over
  may : (s : Standing L) → Ripe s → MayChange site_of book stands next s
  may (Over l) h = tt
  may (Ready l own) h = (
    h.2,
    sym (ap (λ (s : Part). s.name) h.3 ∙ h.1.at.named),
    λ st. subst (λ (b : Book). IsFit next.plan own.name b) (sym (h.4 st).1) (h.4 st).2,
  )

  pub all_may : (all : List (Standing L)) → All Ripe all → All (MayChange site_of book stands next) all
  all_may all ripe = λ k d lt. may (get_or all k d) (ripe k d lt)

  abbrev Done : Standing L → Type 0
  Done s = IsOver opens site_of book stands folder old next s

  over : (s now : Standing L) → Ripe s → IsChanged site_of book stands next s now → Done now
  over (Over l) now h c = subst Done (sym c) h
  over (Ready l own) now h c = subst Done (sym c.1) (
    h.0,
    h.1,
    h.2,
    c.2,
    λ st. let was = h.4 (c.3 st).0 in (was.0, was.2, (c.3 st).1 ∙ ap (λ (b : Book). after Adoption b) was.1),
  )

  changed_name : (s now : Standing L) → IsChanged site_of book stands next s now → name_by site_of now ≡ name_by site_of s
  changed_name (Ready ledger own) now h = ap (name_by site_of) h.1
  changed_name (Over ledger) now h = ap (name_by site_of) h

  pub all_over : (all now : List (Standing L)) → All Ripe all → Each (IsChanged site_of book stands next) all now → All Done now
  all_over [] [] ripe c = All-nil Done
  all_over [] (y ∷ ys) ripe c = absurd c
  all_over (x ∷ xs) [] ripe c = absurd c
  all_over (x ∷ xs) (y ∷ ys) ripe c = All-cons Done y ys (over x y (All-head Ripe x xs ripe) c.0) (all_over xs ys (All-tail Ripe x xs ripe) c.1)

  pub all_named : (all now : List (Standing L)) → Each (IsChanged site_of book stands next) all now → map (name_by site_of) now ≡ map (name_by site_of) all
  all_named [] [] c = refl
  all_named [] (y ∷ ys) c = absurd c
  all_named (x ∷ xs) [] c = absurd c
  all_named (x ∷ xs) (y ∷ ys) c = (λ i. changed_name x y c.0 i ∷ all_named xs ys c.1 i)

  first_of_all : (P : Standing L → Type 0) (xs ys : List (Standing L)) → All P (xs ++ ys) → All P xs
  first_of_all P xs ys all = subst (All P) (take-append_seam xs ys) (All-take P (length xs) (xs ++ ys) all)

  rest_of_all : (P : Standing L → Type 0) (xs ys : List (Standing L)) → All P (xs ++ ys) → All P ys
  rest_of_all P [] ys all = all
  rest_of_all P (x ∷ xs) ys all = rest_of_all P xs ys (All-tail P x (xs ++ ys) all)

  -- what is left where one of them refused
  pub stops_behind : (all now : List (Standing L)) → All Ripe all → OnlyFirstAreChanged site_of book stands next all now → OnlyFirstAreOver opens site_of book stands folder old next now
  stops_behind all now ripe h =
      let both : All Ripe (h.done ++ h.one ∷ h.later) = subst (All Ripe) h.was ripe in
      let rest : All Ripe (h.one ∷ h.later) = rest_of_all Ripe h.done (h.one ∷ h.later) both in (
        h.changed,
        h.left ∷ h.later,
        h.is,
        all_over h.done h.changed (first_of_all Ripe h.done (h.one ∷ h.later) both) h.first,
        All-cons Left h.left h.later (kept_left h.one h.left (ready_left h.one (All-head Ripe h.one h.later rest)) h.kept) (λ k d lt. ready_left (get_or h.later k d) (All-tail Ripe h.one h.later rest k d lt)),
      )

  pub stops_named : (all now : List (Standing L)) → OnlyFirstAreChanged site_of book stands next all now → map (name_by site_of) now ≡ map (name_by site_of) all
  stops_named all now h =
      ap (map (name_by site_of)) h.is ∙ map-append (name_by site_of) h.changed (h.left ∷ h.later)
      ∙ (λ i. all_named h.done h.changed h.first i ++ kept_name h.one h.left h.kept i ∷ map (name_by site_of) h.later)
      ∙ sym (map-append (name_by site_of) h.done (h.one ∷ h.later)) ∙ ap (map (name_by site_of)) (sym h.was)

  -- why it stops, by what is said of the refusal
  pub stops_by : (ours : List Text) (now : List (Standing L)) (halt : Halt) → LeavesLedger halt → AreFirst opens site_of book stands folder old next ours now → OnlyFirstAreOver opens site_of book stands folder old next now
      → StopsAt opens site_of book stands folder old next ours halt now
  stops_by ours now (Refused fault) u first only = (first, only)
  stops_by ours now Memory u first only = only
  stops_by ours now (NoPlan told) u first only = absurd u
  stops_by ours now (NoCertificate fault) u first only = absurd u
  stops_by ours now NoNode u first only = absurd u
  stops_by ours now (NotOpened fault) u first only = absurd u
  stops_by ours now (NoInstance fault) u first only = absurd u
  stops_by ours now Receipt u first only = absurd u
  stops_by ours now (Failed failure) u first only = absurd u

  -- none went over yet
  pub none_over : (all : List (Standing L)) → All Left all → OnlyFirstAreOver opens site_of book stands folder old next all
  none_over all left = ([], all, refl, All-nil Done, left)

  -- why the change stops at a node that isn't looked into
  pub stops_unseen : (names : List Text) (name : Text) (halt : Halt) (all : List (Standing L)) → Contains names name → IsUnseen old next name halt
      → AreFirst opens site_of book stands folder old next names all → All Left all → StopsAt opens site_of book stands folder old next names halt all
  stops_unseen names name NoNode all among stranger first left = ((name, among, stranger), left)
  stops_unseen names name (Refused fault) all among h first left = (first, none_over all left)
  stops_unseen names name (NotOpened fault) all among h first left = (first, left)
  stops_unseen names name Memory all among h first left = none_over all left
  stops_unseen names name (NoPlan told) all among h first left = absurd h
  stops_unseen names name (NoCertificate fault) all among h first left = absurd h
  stops_unseen names name (NoInstance fault) all among h first left = absurd h
  stops_unseen names name Receipt all among h first left = absurd h
  stops_unseen names name (Failed failure) all among h first left = absurd h

  -- the ledgers behind which a row isn't fit are left
  pub left_behind : (uid dest : Text) (all before : List (Standing L)) (one : Standing L) → all ≡ before ++ one ∷ [] → All Ripe before → IsUnfitAt opens site_of book stands folder old next uid dest one → All Left all
  left_behind uid dest all before one is ripe unfit =
      subst (All Left) (sym is)
      (All-push Left before one (λ k d lt. ready_left (get_or before k d) (ripe k d lt)) (unfit_left uid dest one unfit))

-- a row that isn't fit leaves all
pub unfit_leaves_all :
    {L : Type 0} (opens : Text → L → Type 0) (shows : Text → Bool → Type 0) (site_of : L → Part) (book : L → Book) (stands : L → Type 0) (folder : Text) (old next : Certified) (others : List Text)
    → UnfitLeavesAll opens shows site_of book stands folder old next others
unfit_leaves_all opens shows site_of book stands folder old next others name uid dest all h =
    let k = h.1.1 in
    left_behind (OpensThere opens shows) site_of book stands folder old next uid dest all k.0 k.1 k.3 k.6 k.7

-- the site of a node that is found
pub site_at : (sealed : Certified) (name : Text) (site : Part) → Sites sealed name (Ok site) → IsSiteAt sealed name site
site_at sealed name site h = record { part = h.1; named = h.0 }

module _ (old next : Certified) (name : Text) where
  -- a node that the plan in force doesn't have, or for which there is no memory, isn't looked into
  pub stranger_unseen : (halt : Halt) → Sites old name (Err halt) → IsUnseen old next name halt
  stranger_unseen NoNode h = inl h
  stranger_unseen Memory h = tt
  stranger_unseen (NoPlan told) h = absurd h
  stranger_unseen (NoCertificate fault) h = absurd h
  stranger_unseen (NotOpened fault) h = absurd h
  stranger_unseen (NoInstance fault) h = absurd h
  stranger_unseen (Refused fault) h = absurd h
  stranger_unseen Receipt h = absurd h
  stranger_unseen (Failed failure) h = absurd h

  -- the same of the next plan
  pub newcomer_unseen : (halt : Halt) → Sites next name (Err halt) → IsUnseen old next name halt
  newcomer_unseen NoNode h = inr h
  newcomer_unseen Memory h = tt
  newcomer_unseen (NoPlan told) h = absurd h
  newcomer_unseen (NoCertificate fault) h = absurd h
  newcomer_unseen (NotOpened fault) h = absurd h
  newcomer_unseen (NoInstance fault) h = absurd h
  newcomer_unseen (Refused fault) h = absurd h
  newcomer_unseen Receipt h = absurd h
  newcomer_unseen (Failed failure) h = absurd h

  -- a node whose ledger isn't opened isn't looked into
  pub unopened_unseen : (halt : Halt) → IsUnopened halt → IsUnseen old next name halt
  unopened_unseen (NotOpened fault) h = tt
  unopened_unseen Memory h = tt
  unopened_unseen NoNode h = absurd h
  unopened_unseen (NoPlan told) h = absurd h
  unopened_unseen (NoCertificate fault) h = absurd h
  unopened_unseen (NoInstance fault) h = absurd h
  unopened_unseen (Refused fault) h = absurd h
  unopened_unseen Receipt h = absurd h
  unopened_unseen (Failed failure) h = absurd h
