-- Journals of nodes that run, each cut somewhere, and what stands behind the cut.
use Rattle.std.specs.Prelude.{◌≡◌, ◌≤◌, ◌+◌, ◌⊎◌, ℕ, Bool, true, false, cond, List, [], ◌∷◌, ◌++◌}
use Rattle.std.specs.Prelude.{Contains, drop, length, map as mapped, reverse, take}
use Rattle.std.specs.Global.{Vec}
use Rattle.std.specs.List.{AllByRecursion, AllZip}
use Rattle.std.specs.Str.{bytes_eq}
use Rattle.dr_base.specs.Texts.{Text}
use Rattle.dr_plan_model.specs.Networks.{Network}
use Rattle.dr_ledger_history.specs.Lines.{line_of}
use Rattle.dr_ledger_history.specs.declared.line.JournalLine.{JournalLine}
use Rattle.dr_ledger_history.specs.declared.line.JournalLine.TheVariants as told
use Rattle.dr_world_audit.specs.Sites.{Audits, DoesNotHold}
use Rattle.dr_world_audit.specs.declared.audit.AuditVerdict.{AuditVerdict}
use Rattle.dr_world_audit.specs.declared.audit.AuditVerdict.TheVariants as verdict
use Rattle.dr_world_audit.specs.declared.audit.Mismatch.{Mismatch}
use Rattle.dr_world_audit.specs.declared.audit.Mismatch.TheVariants as what
use Rattle.dr_world_audit.specs.declared.audit.NodeJournal.{NodeJournal}
use Rattle.dr_word_audit.specs.Audits.{IsConclusion}
use Rattle.dr_word_audit.specs.Figures.{is_taken}
use Rattle.dr_word_audit.specs.Places.{came_from, goes_on}
use Rattle.dr_word_audit.specs.declared.audited.Audited.{Audited}
use Rattle.dr_word_audit_at.specs.declared.cutting.MissingLine.{MissingLine}
use Rattle.dr_word_audit_at.specs.declared.cutting.MissingLine.TheVariants as missing
use Rattle.dr_word_audit_at.specs.declared.judging.Round.{Round}
use Rattle.dr_word_audit_at.specs.declared.judging.Round.TheVariants.{Over, Moved}

-- ---- cuts

-- the first lines of a journal, so many
abbrev pub cut_at : ℕ → NodeJournal → NodeJournal
cut_at n node = record { name = node.name; lines = take n node.lines }

-- each journal cut at its number
abbrev pub cuts : List ℕ → List NodeJournal → List NodeJournal
cuts [] nodes = []
cuts (n ∷ ns) [] = []
cuts (n ∷ ns) (node ∷ nodes) = cut_at n node ∷ cuts ns nodes

-- a journal with the lines behind its cut, of which the last one comes first
abbrev pub joined_at : NodeJournal → List JournalLine → NodeJournal
joined_at node rest = record { name = node.name; lines = node.lines ++ reverse rest }

-- the lines behind each cut
abbrev pub rests_of : List (Vec JournalLine) → List (List JournalLine)
rests_of = mapped (λ (rest : Vec JournalLine). rest.items)

-- each journal with the lines behind its cut
abbrev pub joined : List NodeJournal → List (List JournalLine) → List NodeJournal
joined [] rests = []
joined (node ∷ nodes) [] = []
joined (node ∷ nodes) (rest ∷ rests) = joined_at node rest ∷ joined nodes rests

-- no cut has gone back
abbrev pub AreNoEarlier : List ℕ → List ℕ → Type 0
AreNoEarlier = AllZip (λ before after. before ≤ after)

-- what was read of the node of that name behind its cut
abbrev pub rest_named : Text → List ℕ → List NodeJournal → List JournalLine
rest_named name [] nodes = []
rest_named name (n ∷ ns) [] = []
rest_named name (n ∷ ns) (node ∷ nodes) =
    cond (bytes_eq node.name name) (drop n node.lines) (rest_named name ns nodes)

-- ---- what would mend a mismatch

-- a line says it: of an arrival of the uid from there, or of one that goes on to there
abbrev pub mends : MissingLine → JournalLine → Bool
mends (missing.CameFrom uid from) line = came_from uid from (line_of line)
mends (missing.GoesOn uid to) line = goes_on uid to (line_of line)

-- none of these lines does
abbrev pub MendsNowhere : MissingLine → List JournalLine → Type 0
MendsNowhere mend = AllByRecursion (λ line. mends mend line ≡ false)

-- What would mend a mismatch, and at which node: an arrival of what is noted as taken, or a reason
-- there for what came from there. What a journal shows by itself no other one mends.
abbrev pub IsFor : Mismatch → MissingLine → Text → Type 0
IsFor (what.NoHistory node) mend at = ⊥
IsFor (what.NoHop node uid to) mend at = ⊥
IsFor (what.NotFair node uid to) mend at = ⊥
IsFor (what.NoArrival node uid to) mend at = (mend ≡ missing.CameFrom uid node) × (at ≡ to)
IsFor (what.NoReason node uid from) mend at = (mend ≡ missing.GoesOn uid node) × (at ≡ from)

abbrev pub HasNone : Mismatch → Type 0
HasNone mismatch = (mend : MissingLine) (at : Text) → IsFor mismatch mend at → ⊥

-- nothing that was read behind the cuts mends the mismatch
abbrev pub IsLacking : List ℕ → List NodeJournal → Mismatch → Type 0
IsLacking ns nodes mismatch =
    (mend : MissingLine) (at : Text)
    → IsFor mismatch mend at
    → MendsNowhere mend (rest_named at ns nodes)

-- ---- how cuts are moved

-- What a line of the node of that name rests on, and at which node: what was taken there came there
-- from here, and what came from there goes on from there to here.
abbrev pub RestsOn : Text → JournalLine → MissingLine → Text → Type 0
RestsOn name (told.Settling uid dest outcome now) mend at =
    (is_taken outcome ≡ true) × (mend ≡ missing.CameFrom uid name) × (at ≡ dest)
RestsOn name (told.Arrival caller item to keep) mend at =
    (mend ≡ missing.GoesOn item.uid name) × (at ≡ caller)
RestsOn name (told.Repeat caller item) mend at =
    (mend ≡ missing.GoesOn item.uid name) × (at ≡ caller)
RestsOn name (told.Requeuing uid dest) mend at = ⊥
RestsOn name (told.Dropping uid dest now) mend at = ⊥
RestsOn name (told.Forgetting uid) mend at = ⊥
RestsOn name told.Adoption mend at = ⊥

-- one of these journals is of the node of that name, and has the line
abbrev pub HasLine : List NodeJournal → Text → JournalLine → Type 0
HasLine nodes name line =
    (node : NodeJournal) × Contains nodes node × Contains node.lines line × (node.name ≡ name)

-- the lines of the node of that name
abbrev pub lines_named : Text → List NodeJournal → List JournalLine
lines_named name [] = []
lines_named name (node ∷ nodes) =
    cond (bytes_eq node.name name) node.lines (lines_named name nodes)

-- a line of these journals rests on it, and none there says it
pub record IsRestedOn (nodes : List NodeJournal) (mend : MissingLine) (at : Text) : Type 0 where
  pub name : Text
  pub line : JournalLine
  pub has : HasLine nodes name line
  pub rests : RestsOn name line mend at
  pub lacking : MendsNowhere mend (lines_named at nodes)

-- it would mend a mismatch of these journals
pub record IsMissed (plan : Network) (nodes : List NodeJournal) (mend : MissingLine)
    (at : Text) : Type 0 where
  pub mismatch : Mismatch
  pub fails : DoesNotHold plan nodes mismatch
  pub lacks : IsFor mismatch mend at

-- so many of these lines there are up to the first that says it
pub record IsUpToNext (mend : MissingLine) (rest : List JournalLine) (more : ℕ) : Type 0 where
  pub passed : List JournalLine
  pub line : JournalLine
  pub later : List JournalLine
  pub lines : rest ≡ passed ++ line ∷ later
  pub none : MendsNowhere mend passed
  pub says : mends mend line ≡ true
  pub count : more ≡ length passed + 1

-- the cut of the node of that name, put so many lines further on
abbrev pub put_on : Text → ℕ → List ℕ → List NodeJournal → List ℕ
put_on name more [] nodes = []
put_on name more (n ∷ ns) [] = n ∷ ns
put_on name more (n ∷ ns) (node ∷ nodes) =
    cond (bytes_eq node.name name) ((n + more) ∷ ns) (n ∷ put_on name more ns nodes)

-- the cut of that node is put behind the next line that says it, if one does
abbrev pub Moves : MissingLine → Text → List NodeJournal → List ℕ → List ℕ → Bool → Type 0
Moves mend at read old new true =
    (more : ℕ) × IsUpToNext mend (rest_named at old read) more × (new ≡ put_on at more old read)
Moves mend at read old new false = (new ≡ old) × MendsNowhere mend (rest_named at old read)

-- One cut is moved, and for a reason: behind the next line that says what a line before the cuts
-- rests on, or what would mend a mismatch of what is before them.
pub record IsMove (plan : Network) (read : List NodeJournal) (old new : List ℕ) : Type 0 where
  pub mend : MissingLine
  pub at : Text
  pub wanted : IsRestedOn (cuts old read) mend at ⊎ IsMissed plan (cuts old read) mend at
  pub moves : Moves mend at read old new true

-- by such moves, one after another, these cuts become those
abbrev pub AreMoves : Network → List NodeJournal → List ℕ → List (List ℕ) → List ℕ → Type 0
AreMoves plan read first [] at = at ≡ first
AreMoves plan read first (next ∷ more) at =
    IsMove plan read first next × AreMoves plan read next more at

abbrev pub AreReached : Network → List NodeJournal → List ℕ → List ℕ → Type 0
AreReached plan read first at = (steps : List (List ℕ)) × AreMoves plan read first steps at

-- ---- the verdict

-- The verdict on journals that were cut at these numbers, of those that were read: where it is no,
-- nothing behind the cuts mends it.
abbrev pub IsFinal : List ℕ → List NodeJournal → AuditVerdict → Type 0
IsFinal ns nodes verdict.Holds = Unit {0}
IsFinal ns nodes (verdict.No mismatch) = IsLacking ns nodes mismatch

-- where the verdict is no, and a line behind the cuts mends it, that journal's cut is moved; else
-- none is
abbrev pub MovesFor : List NodeJournal → AuditVerdict → List ℕ → List ℕ → Bool → Type 0
MovesFor read came old new true =
    (mismatch : Mismatch) × (mend : MissingLine) × (at : Text)
    × (came ≡ verdict.No mismatch)
    × IsFor mismatch mend at
    × Moves mend at read old new true
MovesFor read came old new false = (new ≡ old) × IsFinal old read came

-- What comes of an audit of journals that were read and cut at these numbers: it is over, and no
-- cut is moved; or one is, and they are as they were read.
abbrev pub IsRound : Network → List NodeJournal → List ℕ → List ℕ → Round → Type 0
IsRound plan read old new (Over judged) =
    (judged.journals.items ≡ cuts old read)
    × Audits plan judged.journals.items judged.verdict
    × MovesFor read judged.verdict old new false
IsRound plan read old new (Moved back) =
    (back.items ≡ read)
    × ((came : AuditVerdict) × Audits plan (cuts old read) came
    × MovesFor read came old new true)

-- What is audited of journals of which so many lines were there first, and these in the end. Each
-- is cut where it was first, or further on, and no further than what is before the cuts wants;
-- these cuts are audited; and only what is mended by no line behind them is missing.
pub record IsJudged (plan : Network) (first : List ℕ) (read nodes : List NodeJournal)
    (came : AuditVerdict) : Type 0 where
  pub at : List ℕ
  pub later : AreNoEarlier first at
  pub reached : AreReached plan read first at
  pub cut : nodes ≡ cuts at read
  pub audited : Audits plan nodes came
  pub final : IsFinal at read came

-- What is concluded of journals that were read: the verdict on them as they were cut, and what is
-- printed of it.
abbrev pub IsConcluded : Network → List ℕ → List NodeJournal → Audited → Type 0
IsConcluded plan first read audited =
    (nodes : List NodeJournal) × (came : AuditVerdict) × (told : Text)
    × IsJudged plan first read nodes came
    × IsConclusion plan nodes told audited
