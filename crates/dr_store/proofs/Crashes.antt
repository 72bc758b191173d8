-- What a crash leaves of a call, told by the books.
use Rattle.std.proofs.Common.{inl, inr, List, Ok, ap}
use Rattle.std.proofs.Math.Logic.{∥∥₁_map}
use Rattle.sqlite.specs.Tree.{Trees}
use Rattle.dr_ledger.specs.Adopting.{Adopting}
use Rattle.dr_ledger.specs.Books.{Book, Line}
use Rattle.dr_ledger.specs.Replies.{Drops, Forgets, Requeues, Settles}
use Rattle.dr_store_calls.specs.Knowing.{IsAccepted}
use Rattle.dr_site.specs.Parts.{Part}
use Rattle.dr_store.specs.Pasts.{whole_book}
use Rattle.dr_store.specs.Surviving.{AdoptsWhole, CrashesAreTold, IsToldByBooks, MakesLedger}
use Rattle.dr_store.proofs.Replies.{accepted, adopting, drops, forgets, requeues, settles}
use Rattle.dr_store.proofs.Sets.{coded_book}
use Rattle.dr_store.proofs.Stable.{Stable, either, tested}

module _ (all : List Line) where
  -- books can be compared, and so can be what an accepted call says of them
  told : (Makes : Trees → Trees → Type 0) (Accepts : Book → Book → Type 0) → ((base db : Trees) → Makes base db → Accepts (whole_book all base) (whole_book all db)) → ((b d : Book) → Stable (Accepts b d))
      → IsToldByBooks all Makes Accepts
  told Makes Accepts says stable base db h = either (tested coded_book (whole_book all db) (whole_book all base)) (stable (whole_book all base) (whole_book all db))
      (∥∥₁_map h (λ s. elim s [ inl same ↦ inl (ap (whole_book all) same) | inr made ↦ inr (says base db made) ]))

  -- a call that says of the books alone what it makes
  by_books : (part : Part) (Accepts : Book → Book → Type 0) → ((b d : Book) → Stable (Accepts b d)) → IsToldByBooks all (MakesLedger all part (λ base db. Accepts (whole_book all base) (whole_book all db))) Accepts
  by_books part Accepts stable = told (MakesLedger all part (λ base db. Accepts (whole_book all base) (whole_book all db))) Accepts (λ base db made. made.1) stable

  pub crashes_are_told : CrashesAreTold all
  crashes_are_told = record {
    arrival = λ part caller item. by_books part (λ b d. IsAccepted part caller item b d) (accepted part caller item);
    settling = λ part uid dest outcome now. by_books part (λ b d. Settles uid dest outcome now b (Ok tt) d) (λ b d. settles uid dest outcome now b (Ok tt) d);
    requeuing = λ part uid dest. by_books part (λ b d. Requeues uid dest b (Ok tt) d) (λ b d. requeues uid dest b (Ok tt) d);
    dropping = λ part uid dest now. by_books part (λ b d. Drops uid dest now b (Ok tt) d) (λ b d. drops uid dest now b (Ok tt) d);
    forgetting = λ part uid. by_books part (λ b d. Forgets uid b (Ok tt) d) (λ b d. forgets uid b (Ok tt) d);
    adoption = λ next. told (MakesLedger all next (AdoptsWhole all next)) (λ b d. Adopting b (Ok tt) d) (λ base db made. made.1.0) (λ b d. adopting b (Ok tt) d);
  }
