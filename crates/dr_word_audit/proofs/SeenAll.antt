-- Nodes that were read, one after another.
use Rattle.std.proofs.Common.{◌≡◌, ◌∙◌, ◌+◌, ◌<◌, ◌++◌, ◌∷◌, [], ℕ, List, drop, get_or, length, suc, take, map as mapped, refl, sym, ap, subst}
use Rattle.std.proofs.lemmas.List.{append_assoc, append-nil, map-append, take_more, take-append-drop}
use Rattle.std.proofs.Math.Seq.{drop-cons}
use Rattle.dr_base.specs.Texts.{Text}
use Rattle.dr_cert.specs.Sealing.{Certified}
use Rattle.dr_site.specs.Parts.{Part}
use Rattle.dr_ledger.specs.Books.{Book}
use Rattle.dr_world_audit.specs.Sites.{names}
use Rattle.dr_world_audit.specs.declared.audit.NodeJournal.{NodeJournal}
use Rattle.dr_word_audit.specs.Audits.{AreSeen, IsMissing, IsSeen}

module _ {L : Type 0} (opens : Text → L → Type 0) (site_of : L → Part) (book : L → Book) (stands : L → Type 0) (folder : Text) (sealed : Certified) (others : List Text) where
  seen_push : (nodes : List NodeJournal) (node : NodeJournal) (told line : Text) → AreSeen opens site_of book stands folder sealed others nodes told → IsSeen opens site_of book stands folder sealed others node line
      → AreSeen opens site_of book stands folder sealed others (nodes ++ node ∷ []) (told ++ line)
  seen_push [] node told line so_far one = (line, [], one, refl, ap (λ (t : Text). t ++ line) so_far ∙ sym (append-nil line))
  seen_push (x ∷ xs) node told line so_far one =
      (so_far.0, so_far.1 ++ line, so_far.2, seen_push xs node so_far.1 line so_far.3 one, ap (λ (t : Text). t ++ line) so_far.4 ∙ append_assoc so_far.0 so_far.1 line)

  none_taken : (all : List Text) → [] ≡ take 0 all
  none_taken [] = refl
  none_taken (x ∷ xs) = refl

  -- none yet
  pub none_seen : (all : List Text) (nodes : List NodeJournal) (told : Text) → nodes ≡ [] → told ≡ []
      → (names nodes ≡ take 0 all) × AreSeen opens site_of book stands folder sealed others nodes told
  none_seen all nodes told no_nodes nothing =
      let P : List NodeJournal → Type 0 = λ ns. (names ns ≡ take 0 all) × AreSeen opens site_of book stands folder sealed others ns told in
      subst P (sym no_nodes) (none_taken all, nothing)

  -- one node more
  pub one_seen : (all : List Text) (i : ℕ) (name : Text) (nodes more : List NodeJournal) (node : NodeJournal) (told longer line : Text) → i < length all → name ≡ get_or all i name
      → (names nodes ≡ take i all) × AreSeen opens site_of book stands folder sealed others nodes told → node.name ≡ name → IsSeen opens site_of book stands folder sealed others node line
      → more ≡ nodes ++ node ∷ [] → longer ≡ told ++ line → (names more ≡ take (i + 1) all) × AreSeen opens site_of book stands folder sealed others more longer
  one_seen all i name nodes more node told longer line lt at so_far named seen is_more is_longer =
      let P : List NodeJournal → Type 0 = λ ns. (names ns ≡ take (i + 1) all) × AreSeen opens site_of book stands folder sealed others ns longer in
      let Q : Text → Type 0 = λ t. AreSeen opens site_of book stands folder sealed others (nodes ++ node ∷ []) t in
      let name_of : NodeJournal → Text = λ n. n.name in
      let shown : names (nodes ++ node ∷ []) ≡ take (i + 1) all = map-append name_of nodes (node ∷ []) ∙ ap (λ (ns : List Text). ns ++ node.name ∷ []) so_far.0 ∙ ap (λ (n : Text). take i all ++ n ∷ []) (named ∙ at)
      ∙ sym (take_more all i name lt) in
      subst P (sym is_more) (shown, subst Q (sym is_longer) (seen_push nodes node told line so_far.1 seen))

  -- one node that isn't there, behind those
  pub one_missing : (all : List Text) (i : ℕ) (name : Text) (nodes : List NodeJournal) (told : Text) → i < length all → name ≡ get_or all i name
      → (names nodes ≡ take i all) × AreSeen opens site_of book stands folder sealed others nodes told → IsMissing opens site_of book stands folder sealed others all name
  one_missing all i name nodes told lt at so_far = (
    take i all,
    drop (suc i) all,
    nodes,
    told,
    sym (take-append-drop i all) ∙ ap (λ (ns : List Text). take i all ++ ns) (drop-cons all i name lt) ∙ ap (λ (n : Text). take i all ++ n ∷ drop (suc i) all) (sym at),
    so_far.0,
    so_far.1,
  )
