-- Where the first lines of a journal stand that say something of another node.
use Rattle.std.specs.Prelude.{◌≡◌, ◌-◌, ℕ, Bool, true, false, List, Option, None, Some, MatchOption}
use Rattle.std.specs.Prelude.{length, take}
use Rattle.std.specs.BTreeMap as tree
use Rattle.std.specs.BTreeMap.{is_at}
use Rattle.std.specs.List.{AllByRecursion, AllZip, list_any}
use Rattle.dr_base.specs.Texts.{Text}
use Rattle.dr_ledger.specs.Pairs.{Pair, pair_cmp}
use Rattle.dr_ledger_history.specs.declared.line.JournalLine.{JournalLine}
use Rattle.dr_ledger_history.specs.declared.line.JournalLine.TheVariants as told
use Rattle.dr_world_audit.specs.declared.audit.NodeJournal.{NodeJournal}
use Rattle.dr_word_audit_at.specs.declared.moving.FirstLines.{FirstLines}

-- by the line the uid came from the node of that name
abbrev pub says_came : Pair → JournalLine → Bool
says_came q (told.Arrival caller item to keep) = is_at (pair_cmp (item.uid, caller)) q
says_came q (told.Repeat caller item) = is_at (pair_cmp (item.uid, caller)) q
says_came q (told.Settling uid dest outcome now) = false
says_came q (told.Requeuing uid dest) = false
says_came q (told.Dropping uid dest now) = false
says_came q (told.Forgetting uid) = false
says_came q told.Adoption = false

-- one of these names, with the uid, is that
abbrev pub is_goal : Text → List Text → Pair → Bool
is_goal uid to q = list_any (λ (next : Text). is_at (pair_cmp (uid, next)) q) to

-- by the line the uid goes on to the node of that name
abbrev pub says_goes : Pair → JournalLine → Bool
says_goes q (told.Arrival caller item to keep) = is_goal item.uid to q
says_goes q (told.Repeat caller item) = false
says_goes q (told.Settling uid dest outcome now) = false
says_goes q (told.Requeuing uid dest) = false
says_goes q (told.Dropping uid dest now) = false
says_goes q (told.Forgetting uid) = false
says_goes q told.Adoption = false

-- what is noted already, or this, if there is something to note
abbrev pub or_first : Option ℕ → Bool → ℕ → Option ℕ
or_first (Some n) hit place = Some n
or_first None true place = Some place
or_first None false place = None

-- none of these lines says it
abbrev pub SaysNowhere : (JournalLine → Bool) → List JournalLine → Type 0
SaysNowhere says = AllByRecursion (λ line. says line ≡ false)

-- so many lines there are up to the first that says it; or none of the first lines does
abbrev pub IsFirst : (JournalLine → Bool) → List JournalLine → ℕ → Option ℕ → Type 0
IsFirst says lines count found = MatchOption found (SaysNowhere says (take count lines))
    (λ n. SaysNowhere says (take (n - 1) lines))

-- the places are those of the first of so many lines
pub record AreFirst (lines : List JournalLine) (count : ℕ) (first : FirstLines) : Type 0 where
  pub came : (q : Pair) → IsFirst (says_came q) lines count (tree.get pair_cmp first.came q)
  pub goes : (q : Pair) → IsFirst (says_goes q) lines count (tree.get pair_cmp first.goes q)

-- so of each journal
abbrev pub AreAllFirst : List FirstLines → List NodeJournal → Type 0
AreAllFirst = AllZip (λ (first : FirstLines) (node : NodeJournal).
    AreFirst node.lines (length node.lines) first)
