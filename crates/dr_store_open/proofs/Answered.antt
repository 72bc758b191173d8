-- Queries within a transaction, and what is known of all that a file from before has.
use Rattle.std.proofs.Common.{◌≡◌, ◌∙◌, [], ℕ, List, Result, Ok, Err, IfOk, OnOk, sym, subst}
use Rattle.sqlite.specs.Effect.{Database, IsDatabase, Reads}
use Rattle.sqlite.specs.Given.{IsPlain}
use Rattle.sqlite.specs.Listing.{IsSourceOf}
use Rattle.sqlite.specs.Order.{Row}
use Rattle.sqlite.specs.State.{State, Shown}
use Rattle.dr_store_schema.specs.Statements as text
use Rattle.dr_store_reads.proofs.Asking.{shown_same}
use Rattle.dr_store_open.specs.declared.sheets.Sheets.{Sheets}
use Rattle.dr_store_open.specs.Renewing.{AreSheetsOf, IsAnswer, IsQuery, KeepsRows, OnlyAsks, all_calls}

pub if_ok_map : {A E : Type 0} {P Q : A → Type 0} (r : Result A E) → ((x : A) → P x → Q x) → IfOk r P → IfOk r Q
if_ok_map (Ok x) f h = f x h
if_ok_map (Err e) f h = tt

-- ---- one query

pub is_answer : (sql : List ℕ) (old new : State) (rows : List Row) → IsQuery old.now.schema sql → Shown sql [] old new rows → IsAnswer sql old.now rows
unfolding Shown
is_answer sql old new rows q h =
    let bare = subst IsPlain h.1.is q.plain in
    let it = rw (bare.0, bare.1) at h.2 in
    let db : it.0 ≡ old.now = subst (λ b. IsSourceOf b old.now it.0) q.listing it.1 in
    record { query = h.0; is = h.1.is; reads = subst (λ d. Reads h.0.command d [] rows) db it.2 }

-- and all stays
pub answered : (sql : List ℕ) (old new : State) (rows : List Row) → OnlyAsks sql → Shown sql [] old new rows → IsAnswer sql old.now rows × (new.now ≡ old.now)
unfolding Shown
answered sql old new rows asks h =
    let q : IsQuery old.now.schema sql = asks old.now.schema h.0 h.1.is in
    (is_answer sql old new rows q h, shown_same sql [] old new rows q.plain h)

-- ---- all of it

pub both_keep : (old new : Database) (sheets : Sheets) → AreSheetsOf old sheets → AreSheetsOf new sheets → KeepsRows old new
both_keep old new sheets one two = record {
  site = (sheets.site.items, one.site, two.site);
  items = (sheets.items.items, one.items, two.items);
  arrivals = (sheets.arrivals.items, one.arrivals, two.arrivals);
  kept = (sheets.kept.items, one.kept, two.kept);
  rows = (sheets.rows.items, one.rows, two.rows);
  lines = (sheets.lines.items, one.lines, two.lines);
}

-- what was told before, and is told after
pub told_again : {A E : Type 0} (r : Result A E) (old mid new : Database) (sheets : Sheets) → AreSheetsOf old sheets
    → OnOk r (AreSheetsOf mid sheets × (new ≡ mid)) → OnOk r (KeepsRows old new)
told_again (Err e) old mid new sheets one two = tt
told_again (Ok x) old mid new sheets one two = subst (KeepsRows old) (sym two.1) (both_keep old mid sheets one two.0)

-- what was looked at is listed still
pub listed_still : {A E : Type 0} (P : Type 0) (r : Result A E) (mid new : Database) → IsDatabase mid → OnOk r (P × (new ≡ mid)) → OnOk r (IsDatabase new)
listed_still P (Err e) mid new listed looked = tt
listed_still P (Ok x) mid new listed looked = subst IsDatabase (sym looked.1) listed

-- ---- one after another

-- what a query answers of a database, and that it is the same then
abbrev pub Answers : List ℕ → Database → Database → List Row → Type 0
Answers sql old new rows = IsAnswer sql old rows × (new ≡ old)

-- three of them, of the first database
abbrev pub ThreeAnswers : List ℕ → List ℕ → List ℕ → Database → Database → List Row → List Row → List Row → Type 0
ThreeAnswers a b c old new r s t = IsAnswer a old r × IsAnswer b old s × IsAnswer c old t × (new ≡ old)

pub three_answers : (a b c : List ℕ) (old one two new : Database) (r s t : List Row) → Answers a old one r → Answers b one two s → Answers c two new t → ThreeAnswers a b c old new r s t
three_answers a b c old one two new r s t first second third =
    let same = second.1 ∙ first.1 in
    (first.0, subst (λ d. IsAnswer b d s) first.1 second.0, subst (λ d. IsAnswer c d t) same third.0, third.1 ∙ same)

-- the last of which may have failed
pub three_tested : {A E : Type 0} (result : Result A E) (a b c : List ℕ) (old one two new : Database) (r s t : List Row) → Answers a old one r → Answers b one two s
    → OnOk result (Answers c two new t) → OnOk result (ThreeAnswers a b c old new r s t)
three_tested (Ok x) a b c old one two new r s t first second third = three_answers a b c old one two new r s t first second third
three_tested (Err e) a b c old one two new r s t first second third = tt

-- ---- what stands in the tables, by two looks

abbrev pub StockAnswers : Database → Database → Sheets → Type 0
StockAnswers old new sheets = ThreeAnswers text.the_site text.all_items text.all_arrivals old new sheets.site.items sheets.items.items sheets.arrivals.items

abbrev pub MovesAnswers : Database → Database → Sheets → Type 0
MovesAnswers old new sheets = ThreeAnswers text.all_kept text.all_rows all_calls old new sheets.kept.items sheets.rows.items sheets.lines.items

told_before : (old mid new : Database) (sheets : Sheets) → StockAnswers old mid sheets → MovesAnswers mid new sheets → AreSheetsOf old sheets
told_before old mid new sheets stock moves = record {
  site = stock.0;
  items = stock.1;
  arrivals = stock.2;
  kept = subst (λ d. IsAnswer text.all_kept d sheets.kept.items) stock.3 moves.0;
  rows = subst (λ d. IsAnswer text.all_rows d sheets.rows.items) stock.3 moves.1;
  lines = subst (λ d. IsAnswer all_calls d sheets.lines.items) stock.3 moves.2;
}

-- all that was told, of the first database
abbrev pub TellsAll : Database → Database → Sheets → Type 0
TellsAll old new sheets = AreSheetsOf old sheets × (new ≡ old)

pub both_asked : (old mid new : Database) (sheets : Sheets) → StockAnswers old mid sheets → MovesAnswers mid new sheets → TellsAll old new sheets
both_asked old mid new sheets stock moves = (told_before old mid new sheets stock moves, moves.3 ∙ stock.3)

pub both_tested : {A E : Type 0} (r : Result A E) (old mid new : Database) (sheets : Sheets) → StockAnswers old mid sheets → OnOk r (MovesAnswers mid new sheets) → OnOk r (TellsAll old new sheets)
both_tested (Err e) old mid new sheets stock moves = tt
both_tested (Ok x) old mid new sheets stock moves = both_asked old mid new sheets stock moves

-- what is said of a file that isn't from before
pub if_older : {A E B : Type 0} (C : Type 0) (r : Result A E) → B → OnOk r ((B → ⊥) → C)
if_older C (Ok x) older = λ no. absurd (no older)
if_older C (Err e) older = tt
