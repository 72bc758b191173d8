-- A data set that can be read, and has other UIDs than the command, is answered A900H.
use Rattle.std.proofs.Common.{◌≡◌, refl, sym, ap, subst, ◌∙◌, ℕ, ◌≤◌, arith, Bool, true, false, List, length, Result, Ok, Err}
use Rattle.std.specs.Prelude.{if◌then◌else◌}
use Rattle.std.specs.Str.{bytes_eq}
use Rattle.std.proofs.lemmas.Bool.{and_parts}
use Rattle.std.proofs.lemmas.Slice.Eq.{bytes_eq-Decides}
use Rattle.dr_base.specs.Texts.{Text}
use Rattle.dr_base.specs.Uids.{IsUid}
use Rattle.dr_base.specs.declared.syntax.Syntax.{Syntax}
use Rattle.dr_dataset.specs.declared.fault.DataFault.{DataFault}
use Rattle.dr_dataset.specs.declared.fault.DataFault.TheVariants as dataset
use Rattle.dr_dataset.specs.declared.values.Attributes.{Attributes}
use Rattle.dr_dataset.specs.DataSet.{Scans}
use Rattle.dr_dataset.proofs.OneAnswerLemmas.{one_answer}
use Rattle.dr_ledger.specs.declared.content.ItemFault.{ItemFault}
use Rattle.dr_ledger.specs.declared.content.ItemFault.TheVariants as items
use Rattle.dr_ledger.specs.declared.content.Job.{Job}
use Rattle.dr_ledger.specs.Items.{IsFaulty, ReadsItem, largest_body, values_of}
use Rattle.dr_session.specs.declared.ends.Core.{Core}
use Rattle.dr_session.specs.declared.ends.Found.{Found}
use Rattle.dr_session.specs.Desks.{Arrive}
use Rattle.dr_session.specs.Differences.{DiffersFrom, DifferingIsRefused, LackingDiffers}
use Rattle.dr_session.specs.Reactions.{Reaction, arrival, arrives, is_named, stored}
use Rattle.dr_ledger.specs.Replies.{store_status}
use Rattle.dr_session.specs.Telling.{Finds}
use Rattle.dr_session.specs.Turns.{Asks, Ends}

inside_ok : {X E : Type 0} (a b : X) → ◌≡◌ {A = Result X E} (Ok a) (Ok b) → a ≡ b
inside_ok a b e = cc

module _ (syntax : Syntax) (text : List ℕ) (values : Attributes) (c : Core) (context id : ℕ) (class instance : Text) (scans : Scans syntax text (Ok values)) (differs : DiffersFrom values class instance) where
  abbrev refusal : Reaction
  refusal = Ends (stored c context id class instance 0xA900)

  no_fault : IsFaulty syntax text → ⊥
  no_fault f =
      let fault : DataFault = f.0 in
      let e : ◌≡◌ {A = Result Attributes DataFault} (Ok values) (Err fault) = one_answer syntax text (Ok values) (Err fault) (λ e. cc) (λ e. f.1 (let g : fault ≡ dataset.Memory = cc in g)) scans f.2 in
      cc e

  its_values : (item : Job) → ReadsItem syntax text (Ok item) → values_of item ≡ values
  its_values item i =
      let P : Syntax → Type 0 = λ s. Scans s item.body (Ok (values_of item)) in
      let Q : List ℕ → Type 0 = λ b. Scans syntax b (Ok (values_of item)) in
      inside_ok (values_of item) values (one_answer syntax text (Ok (values_of item)) (Ok values) (λ e. cc) (λ e. cc) (subst Q i.2 (subst P i.1 i.0.read)) scans)

  by_name : (item : Job) → values_of item ≡ values → (b : Bool) → is_named item class instance ≡ b →
      (if b then Asks (Arrive c.peer item) (arrival (λ r. Ends (stored c context id class instance (store_status r)))) else refusal) ≡ refusal
  by_name item same true e =
      let both = and_parts (bytes_eq item.uid instance) (bytes_eq item.key.class class) e in
      absurd
      (differs (ap (λ (v : Attributes). v.class) (sym same) ∙ (bytes_eq-Decides item.key.class class).0 both.1)
      (ap (λ (v : Attributes). v.instance) (sym same) ∙ (bytes_eq-Decides item.uid instance).0 both.0))
  by_name item same false e = refl

  by_read : (r : Result Job ItemFault) (found : Found) → length text ≤ largest_body → ReadsItem syntax text r → Finds r found → arrives c context id class instance found ≡ refusal
  by_read (Ok item) found fits reads is =
      ap (λ (f : Found). arrives c context id class instance f) is ∙ by_name item (its_values item reads) (is_named item class instance) refl
  by_read (Err items.Data) found fits reads is = absurd (no_fault reads.1)
  by_read (Err items.NoUid) found fits reads is = ap (λ (f : Found). arrives c context id class instance f) is
  by_read (Err items.TooLarge) found fits reads is = absurd (omega (arith, fits, reads))
  by_read (Err items.Memory) found fits reads is = absurd is

pub differing_is_refused : DifferingIsRefused
differing_is_refused syntax text values found c context id class instance fits scans differs finds =
    by_read syntax text values c context id class instance scans differs finds.0 found fits finds.1 finds.2

pub lacking_differs : LackingDiffers
lacking_differs syntax text class instance named instance_named lacks = (
  lacks.0,
  lacks.1,
  λ same same_instance. lacks.2 (subst IsUid (sym same) named) (subst IsUid (sym same_instance) instance_named),
)
