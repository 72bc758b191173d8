-- What came to be over by the lines of a journal: when a row of an instance was last done or
-- dropped. What was forgotten since isn't here any more, nor is what the node keeps.
use Rattle.std.specs.Prelude.{◌≡◌, ◌≢◌, ◌≤◌, ◌↔◌, ◌⊎◌, ℕ, Bool, true, false, cond, ◌&&◌, max}
use Rattle.std.specs.Prelude.{List, [], ◌∷◌, ◌++◌, flat_map, length, map as mapped}
use Rattle.std.specs.Prelude.{Contains, Option, None, Some, Result, Ok, Err}
use Rattle.std.specs.BTreeMap as tree
use Rattle.std.specs.BTreeMap.{is_at}
use Rattle.std.specs.BTreeSet as set
use Rattle.std.specs.List.Sorted.{IsNonDecreasingBy}
use Rattle.dr_base.specs.Texts.{Text, text_cmp}
use Rattle.dr_desk.specs.Reading.{Reading}
use Rattle.dr_ledger.specs.Bodies.{Bodies}
use Rattle.dr_ledger.specs.Books.{Book, Line, is_success}
use Rattle.dr_ledger.specs.Replies.{Reads}
use Rattle.dr_ledger.specs.declared.fault.LedgerFault.{LedgerFault}
use Rattle.dr_ledger.specs.declared.fault.LedgerFault.TheVariants as fault
use Rattle.dr_ledger.specs.declared.item.Outcome.{Outcome}
use Rattle.dr_ledger.specs.declared.item.Outcome.TheVariants.{Status, Broken, NoContext, Unreadable}
use Rattle.dr_ledger_history.specs.Lines.{line_of}
use Rattle.dr_ledger_history.specs.declared.line.JournalLine.{JournalLine}
use Rattle.dr_ledger_history.specs.declared.line.JournalLine.TheVariants as told
use Rattle.dr_ledger_views.specs.Numbers.{AreBehind}
use Rattle.dr_run_answer.specs.Journals.{next_number}
use Rattle.dr_run_serve.specs.declared.past.Past.{Past}
use Rattle.dr_run_serve.specs.declared.sweep.OverInstance.{OverInstance}
use Rattle.dr_run_serve.specs.declared.sweep.Sweep.{Sweep}
use Rattle.dr_site.specs.Parts.{Part}

-- ---- one instance

-- a row is done after this outcome
abbrev pub ends_row : Outcome → Bool
ends_row (Status status) = is_success status
ends_row Broken = false
ends_row NoContext = false
ends_row Unreadable = false

-- it is the same uid
abbrev pub is_uid : Text → Text → Bool
is_uid uid other = is_at (text_cmp uid) other

-- of the moment that is known, if one is, and this one, the greater
abbrev pub later : Option ℕ → ℕ → Option ℕ
later None now = Some now
later (Some known) now = Some (max now known)

-- what is known of an instance: whether the node keeps it, and when a row of it was last done or
-- dropped
abbrev pub KnownEnd : Type 0
KnownEnd = Bool × Option ℕ

abbrev pub nothing : KnownEnd
nothing = (false, None)

-- a row of it ended at that moment; of one that the node keeps that isn't noted
abbrev pub ended_by : KnownEnd → ℕ → KnownEnd
ended_by known now = (known.0, cond known.0 known.1 (later known.1 now))

-- what is known of the instance of that uid behind the line
abbrev pub known_by : Text → KnownEnd → JournalLine → KnownEnd
known_by q known (told.Arrival caller instance to keep) =
    cond (keep && is_uid instance.uid q) (true, None) known
known_by q known (told.Repeat caller instance) = known
known_by q known (told.Settling uid dest outcome now) =
    cond (ends_row outcome && is_uid uid q) (ended_by known now) known
known_by q known (told.Requeuing uid dest) = known
known_by q known (told.Dropping uid dest now) = cond (is_uid uid q) (ended_by known now) known
known_by q known (told.Forgetting uid) = cond (is_uid uid q) (known.0, None) known
known_by q known told.Adoption = known

-- and behind these lines
abbrev pub known_after : Text → KnownEnd → List JournalLine → KnownEnd
known_after q known [] = known
known_after q known (line ∷ lines) = known_after q (known_by q known line) lines

-- ---- all of them

-- the number behind these lines
abbrev pub counted_from : ℕ → List JournalLine → ℕ
counted_from n [] = n
counted_from n (line ∷ lines) = counted_from (next_number n) lines

-- what is noted of an instance
abbrev pub known_in : Past → Text → KnownEnd
known_in past q = (set.contains text_cmp past.kept q, tree.get text_cmp past.ends q)

-- of each instance that is noted which follows so from what was
abbrev pub Knows : (Text → KnownEnd → KnownEnd) → Past → Past → Type 0
Knows now old new = (q : Text) → known_in new q ≡ now q (known_in old q)

-- these lines were read, and what they say is noted
pub record HasNoted (lines : List JournalLine) (past : Past) : Type 0 where
  pub count : past.after ≡ counted_from 0 lines
  pub known : (q : Text) → known_in past q ≡ known_after q nothing lines

-- The queue has just the instances of which a row was done or dropped by these lines, which the
-- node doesn't keep, and that weren't forgotten since, each with the last such moment, and in the
-- order of these moments.
pub record IsFoundIn (lines : List JournalLine) (queue : List OverInstance) : Type 0 where
  pub ordered : IsNonDecreasingBy (λ (over : OverInstance). over.at) queue
  pub just : (uid : Text) (at : ℕ)
      → Contains queue (record { uid = uid; at = at })
      ↔ ((known_after uid nothing lines).1 ≡ Some at)

-- the queue has just what is noted in the tree, in the order of the moments
pub record IsQueueOf (ends : tree.BTreeMap Text ℕ) (queue : List OverInstance) : Type 0 where
  pub ordered : IsNonDecreasingBy (λ (over : OverInstance). over.at) queue
  pub just : (uid : Text) (at : ℕ)
      → Contains queue (record { uid = uid; at = at }) ↔ (tree.get text_cmp ends uid ≡ Some at)

-- ---- as a desk tells them

module _ {L : Type 0} (site_of : L → Part) (book : L → Book) (bodies : L → Bodies)
    (stands : L → Type 0) (failed : L → ℕ) (own : Part) (first : List Line)
    (numbered : L → List (ℕ × Line)) where
  -- at some moment the desk answered that to the question for the lines behind that number
  abbrev pub TellsPage : ℕ → Result (List JournalLine) LedgerFault → Type 0
  TellsPage after came =
      Reading site_of book bodies stands failed own first
      (λ ledger answer. Reads answer (λ lines.
      AreBehind after 256 (numbered ledger) (mapped line_of lines))) came

-- all lines of these pages
abbrev pub joined : List (List JournalLine) → List JournalLine
joined pages = flat_map (λ (page : List JournalLine). page) pages

module _ (tells : ℕ → Result (List JournalLine) LedgerFault → Type 0) where
  -- What was read behind that number, of one page. True: no line was told. False: the lines that
  -- were told. Else no lines, for the fault that was told; or the first of those that were told,
  -- where memory ran out behind them.
  abbrev pub ReadsPage : ℕ → Result Bool LedgerFault → List JournalLine → Type 0
  ReadsPage after (Ok true) more = (more ≡ []) × tells after (Ok [])
  ReadsPage after (Ok false) more = (more ≢ []) × tells after (Ok more)
  ReadsPage after (Err why) more =
      ((more ≡ []) × tells after (Err why))
      ⊎ ((rest : List JournalLine)
      × (why ≡ fault.Memory) × tells after (Ok (more ++ rest)))

  -- pages were read, each behind the one before, and lines were told in each
  abbrev pub ArePages : ℕ → List (List JournalLine) → Type 0
  ArePages after [] = Unit {0}
  ArePages after (page ∷ pages) =
      ReadsPage after (Ok false) page × ArePages (counted_from after page) pages

  -- What comes behind so many pages: the last one, or no more than a hundred are read.
  abbrev pub EndsPages : ℕ → ℕ → Result Bool LedgerFault → List JournalLine → Type 0
  EndsPages after count (Ok true) last = ReadsPage after (Ok true) last
  EndsPages after count (Ok false) last = (last ≡ []) × (count ≡ 100)
  EndsPages after count (Err why) last = ReadsPage after (Err why) last

  -- What was read behind that number: all lines of pages, a hundred at most, and of the last one
  -- what could be. True: no line was told behind them.
  abbrev pub ReadsOn : ℕ → Result Bool LedgerFault → List JournalLine → Type 0
  ReadsOn after result more =
      (pages : List (List JournalLine)) × (last : List JournalLine)
      × ArePages after pages
      × (length pages ≤ 100)
      × (more ≡ joined pages ++ last)
      × EndsPages (counted_from after (joined pages)) (length pages) result last

  -- What reading on came to, where these lines had been read: what is over by all lines, and none
  -- is noted any more; nothing yet, and the lines are noted; or what the end of it was, and the
  -- lines are noted, or none is, where memory ran out behind the last one.
  abbrev pub FindsOver : List JournalLine → Result (Option Sweep) LedgerFault → Past → Type 0
  FindsOver lines (Ok (Some sweep)) past =
      (more : List JournalLine)
      × ReadsOn (counted_from 0 lines) (Ok true) more
      × IsFoundIn (lines ++ more) sweep.queue.items
      × HasNoted [] past
  FindsOver lines (Ok None) past =
      (more : List JournalLine)
      × ReadsOn (counted_from 0 lines) (Ok false) more
      × HasNoted (lines ++ more) past
  FindsOver lines (Err why) past =
      ((more : List JournalLine)
      × ReadsOn (counted_from 0 lines) (Err why) more
      × HasNoted (lines ++ more) past)
      ⊎ ((more : List JournalLine)
      × ReadsOn (counted_from 0 lines) (Ok true) more
      × (why ≡ fault.Memory) × HasNoted [] past)

  -- what is known to be over: the queue, and no line was read; or else what is found
  abbrev pub IsKnown : List JournalLine → Option Sweep → Result (Option Sweep) LedgerFault
      → Past → Type 0
  IsKnown lines (Some sweep) known past = (known ≡ Ok (Some sweep)) × HasNoted lines past
  IsKnown lines None known past = FindsOver lines known past
