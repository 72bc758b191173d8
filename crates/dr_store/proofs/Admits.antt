-- What is known of an instance tells whether it would be taken.
use Rattle.std.proofs.Common.{◌≡◌, ◌≢◌, ◌⊎◌, inl, inr, Bool, Option, Some, None, Result, Ok, Err, refl, sym, ap, subst, ◌∙◌}
use Rattle.std.specs.FinMap as map
use Rattle.sqlite.specs.Tree.{Trees}
use Rattle.dr_base.specs.Texts.{Text}
use Rattle.dr_site.specs.Parts.{Part}
use Rattle.dr_site.specs.Routing.{HasLineFor}
use Rattle.dr_ledger.specs.declared.fault.LedgerFault.{LedgerFault}
use Rattle.dr_ledger.specs.declared.fault.LedgerFault.TheVariants as fault
use Rattle.dr_ledger.specs.declared.item.Instance.{Instance}
use Rattle.dr_ledger.specs.Replies.{Admits}
use Rattle.dr_ledger.specs.SiteRoutes.{site_routing}
use Rattle.dr_ledger.proofs.Growing.{inside}
use Rattle.dr_store_schema.specs.Books.{book_of, items_of}
use Rattle.dr_store_calls.specs.Calling.{IsOwnFault}
use Rattle.dr_store_calls.specs.Knowing.{IsWhatIsKnown}
use Rattle.dr_store_calls.specs.declared.knowing.Known.{Known}
use Rattle.dr_store_calls.specs.declared.knowing.Known.TheVariants as known
use Rattle.dr_store_calls.proofs.Knows.{no_item_there}
use Rattle.dr_store.specs.Reading.{AdmitsKnown}

module _ (part : Part) (caller : Text) (item : Instance) (line : HasLineFor part caller item.key) where
  abbrev pub Says : Result (Unit {0}) LedgerFault → Trees → Type 0
  Says r base = Admits (site_routing part) caller item (book_of base) r

  as_said : (r q : Result (Unit {0}) LedgerFault) (base : Trees) → r ≡ q → Says q base → Says r base
  as_said r q base is h = let P : Result (Unit {0}) LedgerFault → Type 0 = λ x. Says x base in subst P (sym is) h

  pub told : (what : Known) (r : Result (Unit {0}) LedgerFault) (base : Trees) → AdmitsKnown what r → IsWhatIsKnown base item what → Says r base
  told known.No r base is h = as_said r (Ok tt) base is (record {
    line = line;
    same = λ held there. absurd (let e : None ≡ Some held = sym (no_item_there base item.uid h.0) ∙ there in cc);
  })
  told known.Other r base is h = as_said r (Err fault.Conflict) base is (line, h)
  told (known.Same whole) r base is h = as_said r (Ok tt) base is (record { line = line; same = λ held there. inside held item (sym there ∙ h.same) })

  pub own : (e : LedgerFault) (base : Trees) → IsOwnFault e → Says (Err e) base
  own e base (inl is) = as_said (Err e) (Err fault.Store) base (ap Err is) line
  own e base (inr is) = as_said (Err e) (Err fault.Memory) base (ap Err is) line
