-- Telling one line more, and lines that are no history.
use Rattle.std.specs.Prelude.{◌≡◌, ℕ, ◌+◌, ◌-◌, ◌≤◌, true, false, List, [], ◌∷◌, ◌++◌, length, take, drop, Err}
use Rattle.std.specs.Prelude.{map as mapped}
use Rattle.std.proofs.Common.{refl, sym, ap, subst, ◌∙◌, arith}
use Rattle.std.proofs.lemmas.List.{append-nil, append_assoc, length-append, take-append-drop, take-append-le, take_all}
use mathlib.Core.Logic.{inr}
use Rattle.std.specs.FinMap as map
use Rattle.std.specs.FinMap.{FinMap}
use Rattle.dr_base.specs.Texts.{Text, text_cmp}
use Rattle.dr_site.specs.Parts.{Part}
use Rattle.dr_ledger.specs.declared.item.Instance.{Instance}
use Rattle.dr_ledger.specs.Books.{Book, Line, Arrival, Repeat, Settling, Requeuing, Dropping, Forgetting, Adoption, Fold, after, empty_book, folded, since_adoption, with_line}
use Rattle.dr_ledger.specs.Histories.{IsBeforeAdoption, IsHistory, IsPast}
use Rattle.dr_ledger.specs.Routings.{Routing}
use Rattle.dr_ledger.specs.SiteRoutes.{site_routing}
use Rattle.dr_ledger.proofs.Folding.{folded_append}
use Rattle.dr_ledger.proofs.Since.{since_push}
use Rattle.dr_ledger_history.specs.declared.line.HistoryFault.{HistoryFault}
use Rattle.dr_ledger_history.specs.declared.line.HistoryFault.TheVariants as fault
use Rattle.dr_ledger_history.specs.declared.line.JournalLine.{JournalLine}
use Rattle.dr_ledger_history.specs.Contents.{Content, book_of}
use Rattle.dr_ledger_history.specs.Lines.{line_of}
use Rattle.dr_ledger_history.specs.Told.{IsToldSince, Tells, TellsSince}
use Rattle.dr_world_audit.specs.declared.trail.Trail.{Trail}
use Rattle.dr_world_audit.specs.Hops.{Notes}
use Rattle.dr_world_audit.specs.Replays.{NotesAll, TellsAll, TellsAllSince, is_an_adoption}
use Rattle.dr_world_audit.proofs.Lists.{notes_on}
use Rattle.dr_world_journals.specs.Hops.{Hop, came, came_by, done, done_by, hop_of, if_success, went, went_by}
use Rattle.dr_world_journals.specs.Journals.{until_adoption}

-- ---- the lines up to the last adoption
plain_line : (line : Line) → is_an_adoption line ≡ false → (since : List Line) → with_line since line ≡ since ++ line ∷ []
plain_line (Arrival caller item to keep) f since = refl
plain_line (Repeat caller item) f since = refl
plain_line (Settling uid dest outcome now) f since = refl
plain_line (Requeuing uid dest) f since = refl
plain_line (Dropping uid dest now) f since = refl
plain_line (Forgetting uid) f since = refl
plain_line Adoption f since = absurd (let e : ⊥ = cc in e)

none_since : (line : Line) → is_an_adoption line ≡ true → (since : List Line) → with_line since line ≡ []
none_since (Arrival caller item to keep) t since = absurd (let e : ⊥ = cc in e)
none_since (Repeat caller item) t since = absurd (let e : ⊥ = cc in e)
none_since (Settling uid dest outcome now) t since = absurd (let e : ⊥ = cc in e)
none_since (Requeuing uid dest) t since = absurd (let e : ⊥ = cc in e)
none_since (Dropping uid dest now) t since = absurd (let e : ⊥ = cc in e)
none_since (Forgetting uid) t since = absurd (let e : ⊥ = cc in e)
none_since Adoption t since = refl

is_adoption_line : (line : Line) → is_an_adoption line ≡ true → line ≡ Adoption
is_adoption_line (Arrival caller item to keep) t = absurd (let e : ⊥ = cc in e)
is_adoption_line (Repeat caller item) t = absurd (let e : ⊥ = cc in e)
is_adoption_line (Settling uid dest outcome now) t = absurd (let e : ⊥ = cc in e)
is_adoption_line (Requeuing uid dest) t = absurd (let e : ⊥ = cc in e)
is_adoption_line (Dropping uid dest now) t = absurd (let e : ⊥ = cc in e)
is_adoption_line (Forgetting uid) t = absurd (let e : ⊥ = cc in e)
is_adoption_line Adoption t = refl

pub ends_with : (lines : List Line) (line : Line) → is_an_adoption line ≡ true → IsBeforeAdoption (lines ++ line ∷ [])
ends_with lines line t = inr (lines, ap (λ l. lines ++ l ∷ []) (is_adoption_line line t))

pub until_here : (lines : List Line) (line : Line) → is_an_adoption line ≡ true → until_adoption (lines ++ line ∷ []) ≡ lines ++ line ∷ []
until_here lines line t =
    let all = lines ++ line ∷ [] in
    let none : since_adoption all ≡ [] = since_push lines line ∙ none_since line t (since_adoption lines) in
    ap (λ (s : List Line). take (length all - length s) all) none ∙ take_all (length all - 0) all (all_of (length all))
  where
    all_of : (n : ℕ) → n ≤ n - 0
    all_of n = omega arith

pub until_still : (lines : List Line) (line : Line) → is_an_adoption line ≡ false → until_adoption (lines ++ line ∷ []) ≡ until_adoption lines
until_still lines line f =
    let all = lines ++ line ∷ [] in
    let s = since_adoption lines in
    let since : since_adoption all ≡ s ++ line ∷ [] = since_push lines line ∙ plain_line line f s in
    let sum : length all ≡ length lines + 1 = length-append lines (line ∷ []) in
    let more : length (s ++ line ∷ []) ≡ length s + 1 = length-append s (line ∷ []) in
    let count : length all - length (s ++ line ∷ []) ≡ length lines - length s = less (length all) (length (s ++ line ∷ [])) (length lines) (length s) sum more in
    ap (λ (x : List Line). take (length all - length x) all) since ∙ (ap (λ n. take n all) count ∙ take-append-le (length lines - length s) lines (line ∷ []) (within (length lines) (length s)))
  where
    less : (a b c d : ℕ) → a ≡ c + 1 → b ≡ d + 1 → a - b ≡ c - d
    less a b c d h k = omega arith

    within : (a b : ℕ) → a - b ≤ a
    within a b = omega arith

-- ---- lists
pub mapped_append : {X Y : Type 0} (f : X → Y) (a b : List X) → mapped f (a ++ b) ≡ mapped f a ++ mapped f b
mapped_append f [] b = refl
mapped_append f (x ∷ a) b = ap (λ ys. f x ∷ ys) (mapped_append f a b)

-- all lines begin with the first of them
pub begins : (lines : List JournalLine) (n : ℕ) → mapped line_of lines ≡ mapped line_of (take n lines) ++ mapped line_of (drop n lines)
begins lines n = ap (mapped line_of) (sym (take-append-drop n lines)) ∙ mapped_append line_of (take n lines) (drop n lines)

past_prefix : (xs ys : List Line) (b : Book) → IsPast (xs ++ ys) b → IsPast xs b
past_prefix [] ys b h = tt
past_prefix (line ∷ xs) ys b h = (h.0, past_prefix xs ys (after line b) h.1)

history_prefix : (routing : Routing) (xs ys : List Line) (b : Book) → IsHistory routing (xs ++ ys) b → IsHistory routing xs b
history_prefix routing [] ys b h = tt
history_prefix routing (line ∷ xs) ys b h = (h.0, history_prefix routing xs ys (after line b) h.1)

-- ---- a line that isn't taken
pub past_ends : (fault : HistoryFault) (told rest all : List Line) (line : Line) → all ≡ (told ++ line ∷ []) ++ rest → Tells told line (Err fault) → TellsAll all (Err fault)
past_ends fault.NoCall told rest all line is fails = λ h. fails (past_prefix (told ++ line ∷ []) rest empty_book (subst (λ ls. IsPast ls empty_book) is h))
past_ends fault.Memory told rest all line is fails = tt

pub since_ends : (site : Part) (fault : HistoryFault) (past told rest all : List Line) (line : Line) (old new : Trail) → all ≡ (told ++ line ∷ []) ++ rest → TellsSince (site_routing site) past told line (Err fault) →
    TellsAllSince site past all old new (Err fault)
since_ends site fault.NoCall past told rest all line old new is fails =
    λ h. fails (history_prefix (site_routing site) (told ++ line ∷ []) rest (Fold past) (subst (λ ls. IsHistory (site_routing site) ls (Fold past)) is h))
since_ends site fault.Memory past told rest all line old new is fails = tt

-- ---- a line that is taken
came_push : (name : Text) (lines : List Line) (line : Line) → came name (lines ++ line ∷ []) ≡ came name lines ++ came_by name line
came_push name [] line = append-nil (came_by name line)
came_push name (first ∷ lines) line = ap (λ hs. came_by name first ++ hs) (came_push name lines line) ∙ sym (append_assoc (came_by name first) (came name lines) (came_by name line))

went_push : (routing : Routing) (name : Text) (lines : List Line) (line : Line) → went routing name (lines ++ line ∷ []) ≡ went routing name lines ++ went_by routing name line
went_push routing name [] line = append-nil (went_by routing name line)
went_push routing name (first ∷ lines) line =
    ap (λ hs. went_by routing name first ++ hs) (went_push routing name lines line) ∙ sym (append_assoc (went_by routing name first) (went routing name lines) (went_by routing name line))

done_push : (name : Text) (b : Book) (lines : List Line) (line : Line) → done name b (lines ++ line ∷ []) ≡ done name b lines ++ done_by name (folded b lines) line
done_push name b [] line = append-nil (done_by name b line)
done_push name b (first ∷ lines) line =
    ap (λ hs. done_by name b first ++ hs) (done_push name (after first b) lines line)
    ∙ sym (append_assoc (done_by name b first) (done name (after first b) lines) (done_by name (folded (after first b) lines) line))

-- what was answered is read off the items alone
done_same : (name : Text) (a b : Book) (line : Line) → a.items ≡ b.items → done_by name a line ≡ done_by name b line
done_same name a b (Arrival caller item to keep) is = refl
done_same name a b (Repeat caller item) is = refl
done_same name a b (Settling uid dest outcome now) is = (let P : FinMap text_cmp Instance → List Hop = λ items. if_success outcome (hop_of name dest (map.get items uid)) in ap P is)
done_same name a b (Requeuing uid dest) is = refl
done_same name a b (Dropping uid dest now) is = refl
done_same name a b (Forgetting uid) is = refl
done_same name a b Adoption is = refl

pub noted_on : (site : Part) (past told : List Line) (line : Line) (c : Content) (old mid new : Trail) → IsToldSince (site_routing site) past told c → NotesAll site past told old mid →
    Notes mid (came_by site.name line) (went_by (site_routing site) site.name line) (done_by site.name (book_of c) line) new → NotesAll site past (told ++ line ∷ []) old new
noted_on site past told line c old mid new t so_far now =
    let routing = site_routing site in
    let items : c.items ≡ (folded (Fold past) told).items = ap (λ (x : Content). x.items) t.fold ∙ ap (λ (b : Book). b.items) (folded_append past told empty_book) in
    let last = done_same site.name (book_of c) (folded (Fold past) told) line items in
    let all = notes_on old (came site.name told) (went routing site.name told) (done site.name (Fold past) told) mid
    (came_by site.name line) (went_by routing site.name line) (done_by site.name (book_of c) line) new so_far now in
    let P : List Hop × List Hop × List Hop → Type 0 = λ p. Notes old p.0 p.1 p.2 new in
    subst P (λ j. (
      sym (came_push site.name told line) j,
      sym (went_push routing site.name told line) j,
      (ap (λ hs. done site.name (Fold past) told ++ hs) last ∙ sym (done_push site.name (Fold past) told line)) j,
    )) all
