-- From looks at nodes, and from changes of their ledgers, to what comes of the change of the plan.
use Rattle.std.proofs.Common.{◌≡◌, ◌∙◌, ◌++◌, ◌∷◌, [], ◌+◌, ◌<◌, ℕ, inl, inr, List, length, suc, map, take, drop, get_or, sym, ap, subst, Result, Ok, Err, None, Some}
use Rattle.std.specs.Prelude.{All, MatchResult}
use Rattle.std.proofs.lemmas.List.{append-nil, take-append-drop}
use Rattle.std.proofs.lemmas.List.Elements.{All-push}
use Rattle.dr_base.specs.Texts.{Text}
use Rattle.dr_cert.specs.Sealing.{Certified}
use Rattle.dr_ledger.specs.Books.{Book}
use Rattle.dr_ledger.specs.Pairs.{Pair}
use Rattle.dr_run_open.specs.declared.halt.Halt.{Halt}
use Rattle.dr_run_open.specs.declared.halt.Halt.TheVariants.{Memory}
use Rattle.dr_site.specs.Parts.{Part}
use Rattle.dr_base.specs.Lists.{Each}
use Rattle.dr_word_adopt.specs.Changes.{AreFirst, ChangesOf, IsAsOpened, IsReady, IsUnfitAt, StopsAt, came_of, name_by}
use Rattle.dr_word_adopt.specs.Changings.{IsChanged, LeavesLedger, OnlyFirstAreChanged}
use Rattle.dr_word_adopt.specs.Lookings.{AllLookAs, IsUnseen, LooksAs, MayAdd}
use Rattle.dr_word_adopt.specs.declared.change.Changeover.{Changeover}
use Rattle.dr_word_adopt.specs.declared.change.Changeover.TheVariants.{Made, Unfit}
use Rattle.dr_word_adopt.specs.declared.change.Halted.{Halted}
use Rattle.dr_word_adopt.specs.declared.change.UnfitRow.{UnfitRow}
use Rattle.dr_word_adopt.specs.declared.standing.Standing.{Standing}
use Rattle.dr_word_adopt.proofs.Lists.{cut_at, shows_more}
use Rattle.dr_word_adopt.proofs.Standings.{all_named, all_over, none_over, ready_left, stops_behind, stops_by, stops_named, stops_unseen, unfit_left}

module _ {L : Type 0} (opens : Text → L → Type 0) (site_of : L → Part) (book : L → Book) (stands : L → Type 0) (folder : Text) (old next : Certified) where
  abbrev Ripe : Standing L → Type 0
  Ripe s = IsReady opens site_of book stands folder old next s

  abbrev Left : Standing L → Type 0
  Left s = IsAsOpened opens site_of book stands folder old next s

  all_left : (all : List (Standing L)) → All Ripe all → All Left all
  all_left all ripe = λ k d lt. ready_left opens site_of book stands folder old next (get_or all k d) (ripe k d lt)

  module _ (names : List Text) (i : ℕ) (name : Text) (lt : i < length names) (at : name ≡ get_or names i name) (was all : List (Standing L)) (shown : map (name_by site_of) was ≡ take i names) (ripe : All Ripe was) where
    more : (one : Standing L) → all ≡ was ++ one ∷ [] → name_by site_of one ≡ name → map (name_by site_of) all ≡ take (i + 1) names
    more one is named = ap (map (name_by site_of)) is ∙ shows_more (name_by site_of) was one names i name lt at shown named

    -- one more node that is ready
    pub one_more : LooksAs opens site_of book stands folder old next name None was all → (map (name_by site_of) all ≡ take (i + 1) names) × All Ripe all
    one_more h = (more h.0 h.1 h.2, subst (All Ripe) (sym h.1) (All-push Ripe was h.0 ripe h.3))

    -- the first row that isn't fit
    pub found_unfit : (row : Pair) (unfit : UnfitRow) → unfit.node ≡ name → unfit.uid ≡ row.0 → unfit.dest ≡ row.1 → LooksAs opens site_of book stands folder old next name (Some row) was all
        → AllLookAs opens site_of book stands folder old next names (Some unfit) all
    found_unfit row unfit node uid dest h = (
      was,
      h.0,
      drop (suc i) names,
      h.1,
      cut_at names i name lt at ∙ (λ k. sym shown k ++ sym node k ∷ drop (suc i) names),
      h.2 ∙ sym node,
      ripe,
      subst (λ (u : Text). IsUnfitAt opens site_of book stands folder old next u unfit.dest h.0) (sym uid) (subst (λ (d : Text). IsUnfitAt opens site_of book stands folder old next row.0 d h.0) (sym dest) h.3),
    )

    left_unfit : (row : Pair) → LooksAs opens site_of book stands folder old next name (Some row) was all → All Left all
    left_unfit row h = subst (All Left) (sym h.1) (All-push Left was h.0 (all_left was ripe) (unfit_left opens site_of book stands folder old next row.0 row.1 h.0 h.3))

    -- there was no memory to name it
    pub unnamed : (row : Pair) → LooksAs opens site_of book stands folder old next name (Some row) was all → StopsAt opens site_of book stands folder old next names Memory all
    unnamed row h = none_over opens site_of book stands folder old next all (left_unfit row h)

    -- a node that isn't looked into
    pub stops_here : (halt : Halt) → IsUnseen old next name halt → MayAdd opens site_of book stands folder old next name was all → StopsAt opens site_of book stands folder old next names halt all
    stops_here halt u (inl same) =
        let here : AreFirst opens site_of book stands folder old next names all = (drop i names, sym (take-append-drop i names) ∙ ap (λ xs. xs ++ drop i names) (sym shown ∙ ap (map (name_by site_of)) (sym same))) in
        stops_unseen opens site_of book stands folder old next names name halt all (i, lt, sym at) u here (subst (All Left) (sym same) (all_left was ripe))
    stops_here halt u (inr one) =
        let here : AreFirst opens site_of book stands folder old next names all = (drop (i + 1) names, sym (take-append-drop (i + 1) names) ∙ ap (λ xs. xs ++ drop (i + 1) names) (sym (more one.0 one.1 one.2.0))) in
        stops_unseen opens site_of book stands folder old next names name halt all (i, lt, sym at) u here (subst (All Left) (sym one.1) (All-push Left was one.0 (all_left was ripe) one.2.1))

  module _ (names : List Text) (mid all : List (Standing L)) (shown : map (name_by site_of) mid ≡ names) (ripe : All Ripe mid) where
    -- all were changed, or only the first ones
    pub ends_between : (result : Result Changeover Halted) → MatchResult result (λ change. (change ≡ Made) × Each (IsChanged site_of book stands next) mid all)
        (λ stop. LeavesLedger stop.halt × OnlyFirstAreChanged site_of book stands next mid all) → ChangesOf opens site_of book stands folder old next names (came_of result) all
    ends_between (Ok change) h = subst (λ c. ChangesOf opens site_of book stands folder old next names (Ok c) all) (sym h.0) (
      all_named opens site_of book stands folder old next mid all h.1 ∙ shown,
      all_over opens site_of book stands folder old next mid all ripe h.1,
    )
    ends_between (Err stop) h = stops_by opens site_of book stands folder old next names all stop.halt h.0
        ([], sym shown ∙ sym (stops_named opens site_of book stands folder old next mid all h.1) ∙ sym (append-nil (map (name_by site_of) all)))
        (stops_behind opens site_of book stands folder old next mid all ripe h.1)

  -- a row isn't fit
  pub unfit_between : (names : List Text) (all : List (Standing L)) (unfit : UnfitRow) → AllLookAs opens site_of book stands folder old next names (Some unfit) all
      → ChangesOf opens site_of book stands folder old next names (Ok (Unfit unfit.node unfit.uid unfit.dest)) all
  unfit_between names all unfit h = h
