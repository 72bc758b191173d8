-- Laws of a ledger that takes another plan.
use Rattle.std.specs.Prelude.{◌≡◌, ◌+◌, ℕ, Bool, [], ◌∷◌, ◌++◌, filter, length, codes}
use Rattle.std.specs.Prelude.{map as mapped, Ok, Err}
use Rattle.dr_base.specs.Texts.{Text}
use Rattle.dr_cert.specs.Sealing.{Certified}
use Rattle.dr_ledger.specs.declared.item.Cause.TheVariants.{NoContext}
use Rattle.dr_ledger.specs.declared.item.Progress.{Progress}
use Rattle.dr_ledger.specs.declared.item.Progress.TheVariants.{Waiting, Held, Done, Dropped}
use Rattle.dr_ledger.specs.Bodies.{Bodies}
use Rattle.dr_ledger.specs.Books.{Adoption, Book, after, is_queued}
use Rattle.dr_ledger.specs.Pairs.{Pair}
use Rattle.dr_ledger.specs.Replies.{entry_of}
use Rattle.dr_site.specs.Parts.{Part}
use Rattle.dr_desk.specs.declared.adopting.AdoptFault.{AdoptFault}
use Rattle.dr_desk.specs.declared.adopting.AdoptFault.TheVariants as fault
use Rattle.dr_desk.specs.declared.holdings.Holdings.{Holdings}
use Rattle.dr_desk.specs.declared.receipt.Receipt.{Receipt}
use Rattle.dr_desk.specs.Adoptions.{AnswersPlan}
use Rattle.dr_desk.specs.Agreeing.{IsOfLine}
use Rattle.dr_desk.specs.Reading.{AreHoldings}

-- the row waits, or is held
abbrev pub stays : Pair × Progress → Bool
stays row = is_queued row.1

-- What is listed after an adoption, by what was listed before it: no arrival, what is kept, the
-- rows that are still queued, and one line more.
abbrev pub carried_over : Holdings → Holdings
carried_over held = record {
  arrivals = [];
  kept = held.kept;
  rows = filter stays held.rows;
  lines = held.lines + 1;
}

module _ {L : Type 0} (site_of : L → Part) (book : L → Book) (bodies : L → Bodies)
    (stands : L → Type 0) (failed : L → ℕ) where
  -- A refused adoption leaves all that is listed.
  abbrev pub RefusalsLeaveTheHoldings : Type 0
  RefusalsLeaveTheHoldings =
      (next : Certified) (why : AdoptFault) (old new : L) (held : Holdings)
      → AnswersPlan site_of book bodies stands failed next (Err why) old new
      → stands new
      → AreHoldings (book old) held
      → AreHoldings (book new) held

  -- An accepted adoption keeps what is kept, and carries over what is queued.
  abbrev pub AdoptionsCarryOver : Type 0
  AdoptionsCarryOver =
      (next : Certified) (own : Part) (old new : L) (held : Holdings)
      → AnswersPlan site_of book bodies stands failed next (Ok own) old new
      → stands new
      → AreHoldings (book old) held
      → AreHoldings (book new) (carried_over held)

  -- An accepted adoption is noted, by one line at the journal's end.
  abbrev pub AdoptionsAreNoted : Type 0
  AdoptionsAreNoted =
      (next : Certified) (own : Part) (old new : L)
      → AnswersPlan site_of book bodies stands failed next (Ok own) old new
      → stands new
      → (book new).lines ≡ (book old).lines ++ Adoption ∷ []

  -- A plan that has no such node is refused for that alone.
  abbrev pub NoNodeComesFirst : Type 0
  NoNodeComesFirst =
      (next : Certified) (why : AdoptFault) (old new other : L)
      → AnswersPlan site_of book bodies stands failed next (Err fault.NoNode) old other
      → AnswersPlan site_of book bodies stands failed next (Err why) old new
      → why ≡ fault.NoNode

  -- A plan that is taken has the node, and no row is unfit for it.
  abbrev pub TakenPlansAreFit : Type 0
  TakenPlansAreFit =
      (next : Certified) (own : Part) (old new other : L)
      → AnswersPlan site_of book bodies stands failed next (Ok own) old new
      → (AnswersPlan site_of book bodies stands failed next (Err fault.NoNode) old other → ⊥)
      × ((uid dest : Text)
      → AnswersPlan site_of book bodies stands failed next (Err (fault.Unfit uid dest)) old other
      → stands new → stands other → ⊥)

  -- The row for which a plan is refused is one.
  abbrev pub UnfitRowsAreOne : Type 0
  UnfitRowsAreOne =
      (next : Certified) (uid dest id to : Text) (old new other : L)
      → AnswersPlan site_of book bodies stands failed next (Err (fault.Unfit uid dest)) old new
      → AnswersPlan site_of book bodies stands failed next (Err (fault.Unfit id to)) old other
      → stands new → stands other
      → (uid ≡ id) × (dest ≡ to)

-- What a receipt says stays true of the journal after an adoption.
abbrev pub ReceiptsStay : Type 0
ReceiptsStay =
    (b : Book) (receipt : Receipt)
    → IsOfLine (mapped entry_of b.lines) receipt
    → IsOfLine (mapped entry_of (after Adoption b).lines) receipt

-- The line of an adoption has no receipt: it is no call of a desk that is shared.
abbrev pub AdoptionsHaveNoReceipt : Type 0
AdoptionsHaveNoReceipt =
    (b : Book) (receipt : Receipt)
    → receipt.number ≡ length (after Adoption b).lines
    → IsOfLine (mapped entry_of (after Adoption b).lines) receipt
    → ⊥

-- four rows, at each stage one
abbrev pub four_rows : Holdings
four_rows = record {
  arrivals = (codes "CT1", codes "1.2.3") ∷ [];
  kept = (codes "1.2.3", 70) ∷ [];
  rows = ((codes "1.2.3", codes "A"), Waiting 1 1000) ∷ ((codes "1.2.3", codes "B"), Done)
      ∷ ((codes "1.2.3", codes "C"), Held NoContext) ∷ ((codes "1.2.3", codes "D"), Dropped) ∷ [];
  lines = 7;
}

-- Two of the four are carried over, as they were; those that are done or dropped aren't, and no
-- arrival is.
abbrev pub TwoAreCarriedOver : Type 0
TwoAreCarriedOver = carried_over four_rows ≡ record {
  arrivals = [];
  kept = (codes "1.2.3", 70) ∷ [];
  rows = ((codes "1.2.3", codes "A"), Waiting 1 1000)
      ∷ ((codes "1.2.3", codes "C"), Held NoContext) ∷ [];
  lines = 8;
}
