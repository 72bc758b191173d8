-- Where a journal is split: at its last adoption, and there alone.
use Rattle.std.proofs.Common.{◌≡◌, ◌≢◌, ◌≤◌, ◌<◌, ◌+◌, inl, inr, ℕ, zero, suc, Bool, true, false, leb, leb-true, leb-false, List, [], ◌∷◌, ◌++◌, drop, take, length, slice_index_or, refl, sym, ap, subst, ◌∙◌, arith}
use Rattle.std.specs.Prelude.{MatchResult, Result, Ok, Err}
use Rattle.std.proofs.lemmas.List.{append-nil, append_assoc}
use Rattle.dr_ledger.specs.Books.{Adoption, Arrival, Book, Dropping, Fold, Forgetting, Line, Repeat, Requeuing, Settling, after, empty_book}
use Rattle.dr_ledger.specs.Histories.{IsBeforeAdoption, IsCall, IsHistory, IsJournalled, IsPast}
use Rattle.dr_ledger.specs.Routings.{Routing}
use Rattle.dr_ledger.proofs.Folding.{folds_have_their_lines}
use Rattle.dr_store_lists.specs.Lists.{Goal}
use Rattle.dr_store_lists.specs.declared.listing.JournalRow.{JournalRow}
use Rattle.dr_store_lists.specs.declared.listing.JournalRow.TheVariants as note
use Rattle.dr_store_audit.specs.Journal.{line_told, lines_told}
use Rattle.dr_store_audit.specs.Telling.{EndsAtAdoption, GoOnUnder, IsNoJournal, IsToldJournal, NoneIsOver}
use Rattle.dr_store_audit.proofs.Journals.{lines_join}
use Rattle.dr_store_audit.specs.declared.fault.FindingFault.{FindingFault}
use Rattle.dr_store_audit.specs.declared.fault.FindingFault.TheVariants as finding
use Rattle.dr_ledger_history.specs.Contents.{Content, content, content_of}
use Rattle.dr_ledger_history.specs.Told.{IsTold, IsToldSince}
use Rattle.dr_ledger_history.specs.declared.history.History.{History}
use Rattle.dr_ledger_history.proofs.Telling.{past_is_over}
use Rattle.dr_store_audit.proofs.Told.{over, told_all}

-- ---- what a whole is, its beginning is

pub past_front : (lines more : List Line) (b : Book) → IsPast (lines ++ more) b → IsPast lines b
past_front [] more b h = tt
past_front (line ∷ lines) more b h = (h.0, past_front lines more (after line b) h.1)

pub history_front : (routing : Routing) (lines more : List Line) (b : Book) → IsHistory routing (lines ++ more) b → IsHistory routing lines b
history_front routing [] more b h = tt
history_front routing (line ∷ lines) more b h = (h.0, history_front routing lines more (after line b) h.1)

whole_of : {X : Type 0} (n : ℕ) (xs : List X) → take n xs ++ drop n xs ≡ xs
whole_of zero xs = refl
whole_of (suc n) [] = refl
whole_of (suc n) (x ∷ xs) = ap (λ rest. x ∷ rest) (whole_of n xs)

all_told : (goals : List Goal) (notes : List (ℕ × JournalRow)) (n : ℕ) → lines_told goals notes ≡ lines_told goals (take n notes) ++ lines_told goals (drop n notes)
all_told goals notes n = ap (lines_told goals) (sym (whole_of n notes)) ∙ lines_join goals (take n notes) (drop n notes)

told_behind : (before : List Line) (goals : List Goal) (notes : List (ℕ × JournalRow)) (n : ℕ) → before ++ lines_told goals notes ≡ (before ++ lines_told goals (take n notes)) ++ lines_told goals (drop n notes)
told_behind before goals notes n = ap (λ xs. before ++ xs) (all_told goals notes n) ∙ sym (append_assoc before (lines_told goals (take n notes)) (lines_told goals (drop n notes)))

-- where all notes tell a past, the first ones do
pub past_told : (before : List Line) (goals : List Goal) (notes : List (ℕ × JournalRow)) (n : ℕ) (b : Book) → IsPast (before ++ lines_told goals notes) b → IsPast (before ++ lines_told goals (take n notes)) b
past_told before goals notes n b h = past_front (before ++ lines_told goals (take n notes)) (lines_told goals (drop n notes)) b (subst (λ (lines : List Line). IsPast lines b) (told_behind before goals notes n) h)

pub history_told : (routing : Routing) (before : List Line) (goals : List Goal) (notes : List (ℕ × JournalRow)) (n : ℕ) (b : Book) → IsHistory routing (before ++ lines_told goals notes) b → IsHistory routing (before ++ lines_told goals (take n notes)) b
history_told routing before goals notes n b h = history_front routing (before ++ lines_told goals (take n notes)) (lines_told goals (drop n notes)) b (subst (λ (lines : List Line). IsHistory routing lines b) (told_behind before goals notes n) h)

-- ---- lines without an adoption

abbrev IsNone : Line → Type 0
IsNone (Arrival caller item to keep) = Unit {0}
IsNone (Repeat caller item) = Unit {0}
IsNone (Settling uid dest outcome now) = Unit {0}
IsNone (Requeuing uid dest) = Unit {0}
IsNone (Dropping uid dest now) = Unit {0}
IsNone (Forgetting uid) = Unit {0}
IsNone Adoption = ⊥

abbrev pub NoneAdopts : List Line → Type 0
NoneAdopts [] = Unit {0}
NoneAdopts (line ∷ lines) = IsNone line × NoneAdopts lines

a_call_is_none : (routing : Routing) (line : Line) (b : Book) → IsCall routing line b → IsNone line
a_call_is_none routing (Arrival caller item to keep) b h = tt
a_call_is_none routing (Repeat caller item) b h = tt
a_call_is_none routing (Settling uid dest outcome now) b h = tt
a_call_is_none routing (Requeuing uid dest) b h = tt
a_call_is_none routing (Dropping uid dest now) b h = tt
a_call_is_none routing (Forgetting uid) b h = tt
a_call_is_none routing Adoption b h = h

history_adopts_none : (routing : Routing) (lines : List Line) (b : Book) → IsHistory routing lines b → NoneAdopts lines
history_adopts_none routing [] b h = tt
history_adopts_none routing (line ∷ lines) b h = (a_call_is_none routing line b h.0, history_adopts_none routing lines (after line b) h.1)

line_is_none : (goals : List Goal) (n : ℕ) (x : JournalRow) → x ≢ note.Adoption → IsNone (line_told goals n x)
line_is_none goals n (note.Arrival caller item) h = tt
line_is_none goals n (note.Repeat caller item) h = tt
line_is_none goals n (note.Settling uid dest what now) h = tt
line_is_none goals n (note.Requeuing uid dest) h = tt
line_is_none goals n (note.Dropping uid dest now) h = tt
line_is_none goals n (note.Forgetting uid) h = tt
line_is_none goals n note.Adoption h = h refl

pub none_told : (goals : List Goal) (notes : List (ℕ × JournalRow)) → ((k : ℕ) (d : ℕ × JournalRow) → k < length notes → (slice_index_or notes k d).1 ≢ note.Adoption) → NoneAdopts (lines_told goals notes)
none_told goals [] each = tt
none_told goals (e ∷ notes) each = (line_is_none goals e.0 e.1 (each 0 e (omega arith)), none_told goals notes (λ k d low. each (suc k) d (omega (arith, low))))

slice_or : {X : Type 0} (xs : List X) (k : ℕ) (c d : X) → k < length xs → slice_index_or xs k c ≡ slice_index_or xs k d
slice_or [] k c d low = absurd (omega (arith, low))
slice_or (x ∷ xs) zero c d low = refl
slice_or (x ∷ xs) (suc k) c d low = slice_or xs k c d (omega (arith, low))

-- one note more that is no adoption
pub one_more_none : (notes : List (ℕ × JournalRow)) (i end : ℕ) (entry : ℕ × JournalRow) → slice_index_or notes i entry ≡ entry → i < length notes → entry.1 ≢ note.Adoption
    → ((k : ℕ) (d : ℕ × JournalRow) → end ≤ k → k < i → (slice_index_or notes k d).1 ≢ note.Adoption)
    → (k : ℕ) (d : ℕ × JournalRow) → end ≤ k → k < i + 1 → (slice_index_or notes k d).1 ≢ note.Adoption
one_more_none notes i end entry is low other before k d from below = by_case (leb i k) refl
  where
    here : k ≡ i → (slice_index_or notes k d).1 ≢ note.Adoption
    here same adopts = other (ap (λ (e : ℕ × JournalRow). e.1) (sym is ∙ slice_or notes i entry d low ∙ ap (λ n. slice_index_or notes n d) (sym same)) ∙ adopts)

    by_case : (b : Bool) → leb i k ≡ b → (slice_index_or notes k d).1 ≢ note.Adoption
    by_case true e = here (let high : i ≤ k = leb-true i k e in omega (arith, high, below))
    by_case false e = before k d from (leb-false i k e)

-- none behind a place, of those that are left from there on
pub none_behind : (notes : List (ℕ × JournalRow)) (n : ℕ) → NoneIsOver n notes → (k : ℕ) (d : ℕ × JournalRow) → k < length (drop n notes) → (slice_index_or (drop n notes) k d).1 ≢ note.Adoption
none_behind notes zero none k d low = none k d (omega arith) low
none_behind [] (suc n) none k d low = absurd (omega (arith, low))
none_behind (e ∷ notes) (suc n) none k d low = none_behind notes n (λ m x from more. none (suc m) x (omega (arith, from)) (omega (arith, more))) k d low

-- ---- one split

none_in : (earlier more : List Line) → NoneAdopts ((earlier ++ Adoption ∷ []) ++ more) → ⊥
none_in [] more h = h.0
none_in (line ∷ earlier) more h = none_in earlier more h.1

first_is : (x y : Line) (xs ys : List Line) → x ∷ xs ≡ y ∷ ys → x ≡ y
first_is x y xs ys e = cc

rest_is : (x y : Line) (xs ys : List Line) → x ∷ xs ≡ y ∷ ys → xs ≡ ys
rest_is x y xs ys e = cc

no_lines : (x : Line) (xs : List Line) → x ∷ xs ≡ [] → ⊥
no_lines x xs e = cc

-- what begins with the adoption's past has one
adopts : (line : Line) (past more : List Line) → IsBeforeAdoption (line ∷ past) → NoneAdopts ((line ∷ past) ++ more) → ⊥
adopts line past more (inl none) h = no_lines line past none
adopts line past more (inr it) h = none_in it.0 more (subst (λ (p : List Line). NoneAdopts (p ++ more)) it.1 h)

shorter : (line : Line) (past : List Line) → IsBeforeAdoption (line ∷ past) → IsBeforeAdoption past
shorter line past (inl none) = absurd (no_lines line past none)
shorter line past (inr ([], e)) = inl (rest_is line Adoption past [] e)
shorter line past (inr (first ∷ earlier, e)) = inr (earlier, rest_is line first past (earlier ++ Adoption ∷ []) e)

pub one_split : (past other since more : List Line) → IsBeforeAdoption past → IsBeforeAdoption other → NoneAdopts since → NoneAdopts more → past ++ since ≡ other ++ more → (past ≡ other) × (since ≡ more)
one_split [] [] since more p o s m same = (refl, same)
one_split [] (line ∷ other) since more p o s m same = absurd (adopts line other more o (subst NoneAdopts same s))
one_split (line ∷ past) [] since more p o s m same = absurd (adopts line past since p (subst NoneAdopts (sym same) m))
one_split (line ∷ past) (first ∷ other) since more p o s m same =
    let rest = one_split past other since more (shorter line past p) (shorter first other o) s m (rest_is line first (past ++ since) (other ++ more) same) in
    (λ i. first_is line first (past ++ since) (other ++ more) same i ∷ rest.0 i, rest.1)

-- ---- why lines are no journal

module _ (routing : Routing) (past since : List Line) (ends : IsBeforeAdoption past) (none : NoneAdopts since) where
  -- the lines up to the last adoption are no past, or those since then are no history behind it
  pub no_journal : (IsPast past empty_book → IsHistory routing since (Fold past) → ⊥) → IsNoJournal routing (past ++ since)
  no_journal neither b journalled lines =
      let is = journalled.1 in
      let split = one_split journalled.0 past is.since since is.before ends (history_adopts_none routing is.since (Fold journalled.0) is.history) none (sym is.lines ∙ lines) in
      neither (subst (λ (p : List Line). IsPast p empty_book) split.0 is.accepted)
      (subst (λ (s : List Line). IsHistory routing s (Fold past)) split.1 (subst (λ (p : List Line). IsHistory routing is.since (Fold p)) split.0 is.history))

-- where none of some lines adopts, and none of others, none of all does
none_of_both : (lines more : List Line) → NoneAdopts lines → NoneAdopts more → NoneAdopts (lines ++ more)
none_of_both [] more n m = m
none_of_both (line ∷ lines) more n m = (n.0, none_of_both lines more n.1 m)

-- What telling the lines since the last adoption answered, whatever was told before.
abbrev pub ToldSince : Routing → List Line → Content → Result History FindingFault → Type 0
ToldSince routing since first r =
    MatchResult r (λ h. (past earlier : List Line) → IsToldSince routing past earlier first → IsToldSince routing past (earlier ++ since) (content h.parts))
    (λ fault. (past earlier : List Line) → fault ≡ finding.OtherSite → IsToldSince routing past earlier first → IsHistory routing (earlier ++ since) (Fold past) → ⊥)

abbrev pub ToldAs : Routing → List Line → Result History FindingFault → Type 0
ToldAs routing lines r = MatchResult r (λ h. IsToldJournal routing lines (content h.parts)) (λ fault. fault ≡ finding.OtherSite → IsNoJournal routing lines)

-- what was told in two parts, or why it wasn't
told_by : (routing : Routing) (past earlier since : List Line) (first : Content) → NoneAdopts (earlier ++ since) → IsToldSince routing past earlier first → (r : Result History FindingFault)
    → ToldSince routing since first r → ToldAs routing (past ++ (earlier ++ since)) r
told_by routing past earlier since first none told (Ok h) goes = told_all routing past (earlier ++ since) (content h.parts) (goes past earlier told)
told_by routing past earlier since first none told (Err fault) fails = λ other.
    no_journal routing past (earlier ++ since) told.before none (λ p h. fails past earlier other told h)

-- all notes, where the last ones are told since the last adoption
module _ (routing : Routing) (before : List Line) (goals : List Goal) (notes front back : List (ℕ × JournalRow)) (whole : notes ≡ front ++ back) (none : NoneAdopts (lines_told goals back)) (first : Content)
    (told : IsTold (before ++ lines_told goals front) first) (r : Result History FindingFault) (goes : ToldSince routing (lines_told goals back) first r) where
  all_lines : before ++ lines_told goals notes ≡ (before ++ lines_told goals front) ++ lines_told goals back
  all_lines = ap (λ ns. before ++ lines_told goals ns) whole ∙ ap (λ xs. before ++ xs) (lines_join goals front back) ∙ sym (append_assoc before (lines_told goals front) (lines_told goals back))

  -- behind an adoption among them
  told_over : (earlier : List (ℕ × JournalRow)) (n : ℕ) → front ≡ earlier ++ (n, note.Adoption) ∷ [] → ToldAs routing (before ++ lines_told goals notes) r
  told_over earlier n ends =
      let past = before ++ lines_told goals front in
      subst (λ lines. ToldAs routing lines r) (sym all_lines)
      (told_by routing past [] (lines_told goals back) first none (past_is_over routing past first told (over before goals front earlier n ends)) r goes)

  -- behind a journal under the plan in force
  told_under : front ≡ [] → IsJournalled routing (Fold before) → ToldAs routing (before ++ lines_told goals notes) r
  told_under nothing journalled =
      let past = journalled.0 in
      let is = journalled.1 in
      let lines : before ≡ past ++ is.since = sym (folds_have_their_lines before) ∙ is.lines in
      let front_is : before ++ lines_told goals front ≡ past ++ is.since = ap (λ ns. before ++ lines_told goals ns) nothing ∙ append-nil before ∙ lines in
      let none_at_all = none_of_both is.since (lines_told goals back) (history_adopts_none routing is.since (Fold past) is.history) none in
      subst (λ all. ToldAs routing all r) (sym (all_lines ∙ ap (λ xs. xs ++ lines_told goals back) front_is ∙ append_assoc past is.since (lines_told goals back)))
      (told_by routing past is.since (lines_told goals back) first none_at_all (record {
        before = is.before;
        accepted = is.accepted;
        history = is.history;
        fold = told.fold ∙ ap (λ xs. content_of (Fold xs)) front_is;
      }) r goes)

-- where no note is told before the last adoption, none adopts a plan
nothing_over : (notes : List (ℕ × JournalRow)) (n k : ℕ) (d : ℕ × JournalRow) → take n notes ≡ [] → NoneIsOver n notes → k < length notes → (slice_index_or notes k d).1 ≡ note.Adoption → ⊥
nothing_over notes n k d nothing none low adopts =
    let all : drop n notes ≡ notes = ap (λ xs. xs ++ drop n notes) (sym nothing) ∙ whole_of n notes in
    subst (λ xs. k < length xs → (slice_index_or xs k d).1 ≢ note.Adoption) all (λ fewer. none_behind notes n none k d fewer) low adopts

-- what all notes tell
pub told_so : (routing : Routing) (before : List Line) (goals : List Goal) (notes : List (ℕ × JournalRow)) (n : ℕ) → EndsAtAdoption (take n notes) → NoneIsOver n notes → (first : Content) → IsTold (before ++ lines_told goals (take n notes)) first
    → (r : Result History FindingFault) → ToldSince routing (lines_told goals (drop n notes)) first r → GoOnUnder routing before notes → ToldAs routing (before ++ lines_told goals notes) r
told_so routing before goals notes n ends over_there first told r goes under =
    let none = none_told goals (drop n notes) (none_behind notes n over_there) in
    elim ends [
      | inl nothing ↦ elim under [
        | inl journalled ↦ told_under routing before goals notes (take n notes) (drop n notes) (sym (whole_of n notes)) none first told r goes nothing journalled
        | inr it ↦ absurd (nothing_over notes n it.0 it.1 nothing over_there it.2 it.3)
      ]
      | inr it ↦ told_over routing before goals notes (take n notes) (drop n notes) (sym (whole_of n notes)) none first told r goes it.0 it.1 it.2
    ]

-- why notes whose first ones are no past tell no journal
pub no_past : (routing : Routing) (before : List Line) (goals : List Goal) (notes : List (ℕ × JournalRow)) (n : ℕ) → EndsAtAdoption (take n notes) → NoneIsOver n notes → (first : Content) → IsTold before first
    → (IsPast (before ++ lines_told goals (take n notes)) empty_book → ⊥) → IsNoJournal routing (before ++ lines_told goals notes)
no_past routing before goals notes n ends over_there first told not = elim ends [
  | inl nothing ↦ absurd (not (subst (λ (xs : List Line). IsPast xs empty_book) (sym (ap (λ ns. before ++ lines_told goals ns) nothing ∙ append-nil before)) told.past))
  | inr it ↦ subst (IsNoJournal routing) (sym (told_behind before goals notes n)) (no_journal routing (before ++ lines_told goals (take n notes)) (lines_told goals (drop n notes)) (over before goals (take n notes) it.0 it.1 it.2)
      (none_told goals (drop n notes) (none_behind notes n over_there)) (λ past _. not past))
]
