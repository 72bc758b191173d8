-- What a first arrival puts in.
use Rattle.std.specs.Prelude.{◌≡◌, List, T}
use Rattle.std.specs.FinMap.{is_sorted}
use Rattle.dr_base.specs.Texts.{Text, text_cmp}
use Rattle.dr_route.specs.declared.rule.Targets.{Targets}
use Rattle.dr_ledger.specs.declared.content.Job.{Job}
use Rattle.dr_ledger.specs.Items.{IsItem, instance_of}
use Rattle.dr_ledger_history.specs.declared.line.JournalLine.{JournalLine}
use Rattle.dr_ledger_history.specs.declared.line.JournalLine.TheVariants as note
use Rattle.dr_ledger_memory.specs.declared.bringing.Copies.{Copies}
use Rattle.dr_ledger_memory.specs.declared.bringing.CopiedLine.{CopiedLine}
use Rattle.dr_ledger_memory.specs.declared.parts.Bringing.{Bringing}
use Rattle.dr_ledger_memory.specs.Entries.{OwnRow, filled}

-- the line of the arrival
abbrev pub note_for : Text → Job → Targets → JournalLine
note_for caller item targets = note.Arrival caller (instance_of item) targets.to targets.keep

-- all that the item's first arrival from the caller puts in, where the uid has these rows
pub record IsFor (caller : Text) (item : Job) (targets : Targets) (rows : List OwnRow)
    (new : Bringing) : Type 0 where
  pub is_item : IsItem item
  pub arrival : new.arrival ≡ (caller, item.uid)
  pub uid : new.uid ≡ item.uid
  pub instance : new.instance ≡ instance_of item
  pub rows_are : new.rows.items ≡ filled rows targets.to
  pub sorted : T (is_sorted text_cmp new.rows.items)
  pub keep : new.keep ≡ targets.keep
  pub body : new.body ≡ item.body
  pub note : new.note ≡ note_for caller item targets

-- what is copied for its line
pub record IsLine (caller : Text) (item : Job) (line : CopiedLine) : Type 0 where
  pub caller_is : line.caller ≡ caller
  pub instance : line.instance ≡ instance_of item

-- what is copied for it, where the uid has these rows
pub record AreCopies (caller : Text) (item : Job) (to : List Text) (rows : List OwnRow)
    (copies : Copies) : Type 0 where
  pub arrival : copies.arrival ≡ (caller, item.uid)
  pub instance : copies.instance ≡ instance_of item
  pub rows_are : copies.rows.items ≡ filled rows to
  pub sorted : T (is_sorted text_cmp copies.rows.items)
  pub line : IsLine caller item copies.line

-- the copies with what the item and the targets have
pub record IsJoined (item : Job) (targets : Targets) (copies : Copies)
    (new : Bringing) : Type 0 where
  pub is_item : IsItem item
  pub arrival : new.arrival ≡ copies.arrival
  pub uid : new.uid ≡ item.uid
  pub instance : new.instance ≡ copies.instance
  pub rows : new.rows.items ≡ copies.rows.items
  pub keep : new.keep ≡ targets.keep
  pub body : new.body ≡ item.body
  pub note : new.note ≡ note.Arrival copies.line.caller copies.line.instance targets.to targets.keep
