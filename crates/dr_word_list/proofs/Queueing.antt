-- The lines of the nodes to which some hops lead, and one more.
use Rattle.std.proofs.Common.{◌≡◌, ◌∙◌, ◌<◌, ◌+◌, ◌++◌, ◌∷◌, [], ℕ, List, take, get_or, length, refl, sym, ap, subst, append_assoc}
use Rattle.std.proofs.lemmas.List.{append-nil, take_more}
use Rattle.dr_base.specs.Texts.{Text}
use Rattle.dr_ledger.specs.Books.{Row}
use Rattle.dr_word_list.specs.Summaries.{AreQueueLines, IsQueueLine}
use Rattle.dr_run_open.specs.declared.hops.NextHop.{NextHop}

module _ (rows : List Row) where
  line_push : (hops : List NextHop) (hop : NextHop) (done here : Text) → AreQueueLines rows hops done → IsQueueLine rows hop.dest here → AreQueueLines rows (hops ++ hop ∷ []) (done ++ here)
  line_push [] hop done here so_far is = (here, [], is, refl, ap (λ (d : Text). d ++ here) so_far ∙ sym (append-nil here))
  line_push (x ∷ xs) hop done here so_far is =
      (so_far.0, so_far.1 ++ here, so_far.2, line_push xs hop so_far.1 here so_far.3 is, ap (λ (d : Text). d ++ here) so_far.4 ∙ append_assoc so_far.0 so_far.1 here)

  -- the lines for these hops were added
  abbrev pub AreQueued : List NextHop → List ℕ → List ℕ → Type 0
  AreQueued hops old new = (lines : Text) × AreQueueLines rows hops lines × (new ≡ old ++ lines)

  pub none_queued : (old : List ℕ) → AreQueued [] old old
  none_queued old = ([], refl, sym (append-nil old))

  pub one_queued : (hops : List NextHop) (i : ℕ) (hop : NextHop) (old before now : List ℕ) → i < length hops → hop ≡ get_or hops i hop → AreQueued (take i hops) old before
      → ((here : Text) × IsQueueLine rows hop.dest here × (now ≡ before ++ here)) → AreQueued (take (i + 1) hops) old now
  one_queued hops i hop old before now lt at so_far more =
      let pushed : take (i + 1) hops ≡ take i hops ++ hop ∷ [] = take_more hops i hop lt ∙ ap (λ (h : NextHop). take i hops ++ h ∷ []) (sym at) in
      let P : List NextHop → Type 0 = λ hs. AreQueueLines rows hs (so_far.0 ++ more.0) in (
        so_far.0 ++ more.0,
        subst P (sym pushed) (line_push (take i hops) hop so_far.0 more.0 so_far.1 more.1),
        more.2 ∙ ap (λ (b : List ℕ). b ++ more.0) so_far.2 ∙ append_assoc old so_far.0 more.0,
      )

  pub all_queued : (hops : List NextHop) (i : ℕ) (old now : List ℕ) → take i hops ≡ hops → AreQueued (take i hops) old now → AreQueued hops old now
  all_queued hops i old now all so_far = subst (λ (hs : List NextHop). AreQueued hs old now) all so_far
