-- From looks at single ledgers to what is shown of the nodes.
use Rattle.std.proofs.Common.{◌≡◌, ◌∙◌, ◌⊎◌, inl, inr, ◌++◌, ◌∷◌, [], ◌+◌, ◌<◌, ℕ, List, length, take, drop, get_or, refl, sym, ap, subst, map as mapped, Result, Ok, Err}
use Rattle.std.specs.Prelude.{All, Contains, MatchResult}
use Rattle.std.proofs.lemmas.List.{append-nil, map-append, take_more, take-append-drop}
use Rattle.std.proofs.lemmas.List.Elements.{All-nil, All-push}
use Rattle.dr_base.specs.Texts.{Text}
use Rattle.dr_cert.specs.Sealing.{Certified}
use Rattle.dr_ledger.specs.Books.{Book}
use Rattle.dr_run_open.specs.Openings.{IsUnopened}
use Rattle.dr_run_open.specs.declared.halt.Halt.{Halt}
use Rattle.dr_run_open.specs.declared.halt.Halt.TheVariants.{NoPlan, NoCertificate, NoNode, NotOpened, NoInstance, Refused, Receipt, Failed, Memory}
use Rattle.dr_plan_model.specs.Networks.{Network}
use Rattle.dr_site.specs.Parts.{Part, IsPartOf}
use Rattle.dr_word_adopt.specs.Beginnings.{path_in}
use Rattle.dr_word_adopt.specs.Changes.{IsOpenedFor, IsSiteAt}
use Rattle.dr_word_adopt.specs.Lookings.{IsUnseen}
use Rattle.dr_word_rehearse.specs.Looks.{HasJust, IsFoundBy, IsLookAt, IsLooked, IsOverAt, IsUnread, LooksInto, LooksOver, Places}
use Rattle.dr_word_rehearse.specs.Rehearsals.{AreLooked, LooksAt, looked, node_of}
use Rattle.dr_word_rehearse.specs.declared.finds.LedgerFound.{LedgerFound}
use Rattle.dr_word_rehearse.specs.declared.finds.LedgerFound.TheVariants as found
use Rattle.dr_word_rehearse.specs.declared.looking.LedgerLook.{LedgerLook}
use Rattle.dr_word_rehearse.specs.declared.looking.LedgerLook.TheVariants.{Nothing, Older, Rows}
use Rattle.dr_word_rehearse.specs.declared.looking.Looked.{Looked}

module _ {L : Type 0} (site_of : L → Part) (book : L → Book) (stands : L → Type 0) (Opens : L → Type 0) (site own : Part) where
  -- a ledger of the next plan
  pub over_at : (f : LedgerFound L) (look : LedgerLook) → IsFoundBy Opens site_of own f → LooksOver f look → IsOverAt site_of Opens own look
  over_at found.Older look by is = subst (IsOverAt site_of Opens own) (sym is) tt
  over_at (found.Ledger ledger) look by is = subst (IsOverAt site_of Opens own) (sym is.1) (ledger, by.0, by.1, is.2)

  module _ (next : Network) (name : Text) where
    -- one of the plan in force
    pub into_at : (f : LedgerFound L) (look : LedgerLook) → IsFoundBy Opens site_of site f → LooksInto site_of book stands next name f look → IsLookAt site_of book stands next name Opens site own look
    into_at found.Older look by is = subst (IsLookAt site_of book stands next name Opens site own) (sym is) tt
    into_at (found.Ledger first) look by is = subst (IsLookAt site_of book stands next name Opens site own) (sym is.1) (inl (first, by.0, by.1, is.2))

    pub look_at_next : (look : LedgerLook) → IsOverAt site_of Opens own look → IsLookAt site_of book stands next name Opens site own look
    look_at_next Nothing h = tt
    look_at_next Older h = tt
    look_at_next (Rows rows) h = inr h

    -- what a look into what was found came to
    pub into_all : (f : LedgerFound L) (result : Result LedgerLook Halt) → IsFoundBy Opens site_of site f → MatchResult result (LooksInto site_of book stands next name f) IsUnread
        → MatchResult result (IsLookAt site_of book stands next name Opens site own) IsUnread
    into_all f (Ok look) by h = into_at f look by h
    into_all f (Err halt) by h = h

-- why a ledger isn't opened is why it isn't read
pub unopened_unread : (halt : Halt) → IsUnopened halt → IsUnread halt
unopened_unread (NotOpened fault) h = tt
unopened_unread Memory h = tt
unopened_unread (Refused fault) h = absurd h
unopened_unread NoNode h = absurd h
unopened_unread (NoPlan told) h = absurd h
unopened_unread (NoCertificate fault) h = absurd h
unopened_unread (NoInstance fault) h = absurd h
unopened_unread Receipt h = absurd h
unopened_unread (Failed failure) h = absurd h

-- why a ledger isn't read is why the node isn't seen
pub unread_unseen : (old next : Certified) (name : Text) (halt : Halt) → IsUnread halt → IsUnseen old next name halt
unread_unseen old next name (NotOpened fault) h = tt
unread_unseen old next name (Refused fault) h = tt
unread_unseen old next name Memory h = tt
unread_unseen old next name NoNode h = absurd h
unread_unseen old next name (NoPlan told) h = absurd h
unread_unseen old next name (NoCertificate fault) h = absurd h
unread_unseen old next name (NoInstance fault) h = absurd h
unread_unseen old next name Receipt h = absurd h
unread_unseen old next name (Failed failure) h = absurd h

module _ {L : Type 0} (opens : Text → L → Type 0) (site_of : L → Part) (book : L → Book) (stands : L → Type 0) (folder : Text) (old next : Certified) where
  abbrev Shown : Text → LedgerLook → Type 0
  Shown name look = IsLooked opens site_of book stands folder old next name look

  opened : (sealed : Certified) (name : Text) (site : Part) (ledger : L) → IsSiteAt sealed name site → opens (path_in folder name) ledger → site_of ledger ≡ site → IsOpenedFor opens site_of book stands folder sealed name ledger
  opened sealed name site ledger at opens_it is = record {
    opened = opens_it;
    at = record {
      part = subst (λ (p : Part). IsPartOf sealed.plan sealed.certificate p) (sym is) at.part;
      named = ap (λ (p : Part). p.name) is ∙ at.named;
    };
  }

  -- a look at the ledger by its path is a look at the node
  pub at_node : (name : Text) (site own : Part) (look : LedgerLook) → IsSiteAt old name site → IsSiteAt next name own → IsLookAt site_of book stands next.plan name (opens (path_in folder name)) site own look → Shown name look
  at_node name site own Nothing at_old at_next h = tt
  at_node name site own Older at_old at_next h = tt
  at_node name site own (Rows rows) at_old at_next (inl h) = inl (h.0, opened old name site h.0 at_old h.1 h.2, h.3)
  at_node name site own (Rows rows) at_old at_next (inr h) = inr (h.0, opened next name own h.0 at_next h.1 h.2, h.3)

  abbrev AllShown : List Looked → Type 0
  AllShown all = AreLooked opens site_of book stands folder old next all

  pub none_shown : (names : List Text) (all : List Looked) → all ≡ [] → (mapped node_of all ≡ take 0 names) × AllShown all
  none_shown names all none =
      let P : List Looked → Type 0 = λ ls. (mapped node_of ls ≡ take 0 names) × AllShown ls in
      subst P (sym none) (nothing names, All-nil (λ (it : Looked). Shown it.node it.look))
    where
      nothing : (ns : List Text) → [] ≡ take 0 ns
      nothing [] = refl
      nothing (n ∷ ns) = refl

  module _ (names : List Text) (i : ℕ) (name : Text) (lt : i < length names) (at : name ≡ get_or names i name) (was : List Looked) (so_far : (mapped node_of was ≡ take i names) × AllShown was) where
    pub one_shown : (all : List Looked) (look : LedgerLook) → all ≡ was ++ looked name look ∷ [] → Shown name look → (mapped node_of all ≡ take (i + 1) names) × AllShown all
    one_shown all look is shown =
        let P : List Looked → Type 0 = λ ls. (mapped node_of ls ≡ take (i + 1) names) × AllShown ls in
        subst P (sym is) (
          map-append node_of was (looked name look ∷ []) ∙ ap (λ (ns : List Text). ns ++ name ∷ []) so_far.0 ∙ ap (λ (n : Text). take i names ++ n ∷ []) at ∙ sym (take_more names i name lt),
          All-push (λ (it : Looked). Shown it.node it.look) was (looked name look) so_far.1 shown,
        )

    first : (later : List Text) × (names ≡ mapped node_of was ++ later)
    first = (drop i names, sym (take-append-drop i names) ∙ ap (λ (ns : List Text). ns ++ drop i names) (sym so_far.0))

    -- the node isn't seen
    pub stops_here : (halt : Halt) → IsUnseen old next name halt → LooksAt opens site_of book stands folder old next names (Err halt) was
    stops_here NoNode h = ((name, (i, lt, sym at), h), so_far.1)
    stops_here (NotOpened fault) h = (first, so_far.1)
    stops_here (Refused fault) h = (first, so_far.1)
    stops_here Memory h = so_far.1
    stops_here (NoPlan told) h = absurd h
    stops_here (NoCertificate fault) h = absurd h
    stops_here (NoInstance fault) h = absurd h
    stops_here Receipt h = absurd h
    stops_here (Failed failure) h = absurd h
