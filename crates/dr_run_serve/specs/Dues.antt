-- What is due, asked of a ledger by its owner, and from when on something is.
use Rattle.std.specs.Prelude.{◌≡◌, ◌-◌, ◌^◌, ℕ, Bool, None, Some, Result, Ok, Err}
use Rattle.std.specs.declared.option.Option.{Option}
use Rattle.dr_base.specs.Texts.{Text}
use Rattle.dr_ledger.specs.Bodies.{Bodies}
use Rattle.dr_ledger.specs.Books.{Book}
use Rattle.dr_ledger.specs.Replies.{Dues, LastsThrough, Reads}
use Rattle.dr_ledger.specs.declared.fault.LedgerFault.{LedgerFault}
use Rattle.dr_site.specs.Parts.{Part}

-- from which moment on a row is due, of what was found: the last moment of all where none waits
abbrev pub due_of : Result (Option ℕ) LedgerFault → Result ℕ LedgerFault
due_of (Ok (Some due)) = Ok due
due_of (Ok None) = Ok (2 ^ 64 - 1)
due_of (Err why) = Err why

module _ {L : Type 0} (site : L → Part) (book : L → Book) (bodies : L → Bodies) (armed : L → Bool)
    (trusts stands : L → Type 0) where
  -- The uid of the first row that is due for the destination, or none where no row is. The ledger
  -- has what it had, and its premise goes on as behind any call that reads.
  pub record FindsIn (old : L) (dest : Text) (now : ℕ) (answer : Result (Option Text) LedgerFault)
      (new : L) : Type 0 where
    pub reply : stands new → Reads answer (Dues (book old) dest now)
    pub same : stands new → (book new ≡ book old) × (bodies new ≡ bodies old)
    pub armed_still : armed new ≡ armed old
    pub stood : stands new → stands old
    pub lasts : LastsThrough trusts stands old answer new
    pub site_still : site new ≡ site old
