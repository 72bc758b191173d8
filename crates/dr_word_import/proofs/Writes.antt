-- From a text that was written to the plan of devices.
use Rattle.std.proofs.Common.{◌≡◌, ◌∙◌, ◌++◌, ap, append_assoc, List, Option, Result, Ok, Err, inl, inr, ℕ}
use Rattle.std.specs.Prelude.{IfOk}
use Rattle.dr_base.specs.Texts.{Text}
use Rattle.dr_run_open.specs.declared.status.Status.{Status}
use Rattle.dr_word_import.specs.Imports.{PrintsPlan, WritesPlan}
use Rattle.dr_word_import.specs.Tables.{plan_of}
use Rattle.dr_word_import.specs.declared.device.Device.{Device}

pub prints_plan : {E : Type 0} (result : Result Status E) (all : List Device) (gate text : Text) (old new : Option (List ℕ)) → text ≡ plan_of all gate → IfOk result (λ status. WritesPlan text old new) → IfOk result (λ status. PrintsPlan old new)
prints_plan (Ok status) all gate text old new is (inl w) = inr (text, w.0, (all, gate, w.1.0, is, w.1.1))
prints_plan (Ok status) all gate text old new is (inr none) = inl none
prints_plan (Err e) all gate text old new is h = tt

-- a piece, and what was added behind it
pub chained : (o a b p q : List ℕ) → p ≡ o ++ a → q ≡ p ++ b → q ≡ o ++ (a ++ b)
chained o a b p q first later = later ∙ (ap (λ (x : List ℕ). x ++ b) first ∙ append_assoc o a b)
