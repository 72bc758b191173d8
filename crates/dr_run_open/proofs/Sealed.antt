-- What comes of a plan that is sealed, and of the node that is opened by it.
use Rattle.std.proofs.Common.{◌≡◌, sym, subst, Ok, Err}
use Rattle.std.specs.Prelude.{Result, MatchResult}
use Rattle.dr_base.specs.Texts.{Text}
use Rattle.dr_plan_model.specs.Networks.{Network}
use Rattle.dr_plan_sound.specs.Certificates.{IsCertificateOf}
use Rattle.dr_plan_sound.specs.Soundness.{IsSound}
use Rattle.dr_plan.specs.Reading.{Reads}
use Rattle.dr_cert.specs.Sealing.{Certified}
use Rattle.dr_site.specs.Parts.{Part, IsPartOf}
use Rattle.dr_run_open.specs.Openings.{SealsSecond, SealsFiles, IsSealedBy, IsAt, IsNotThere, HaltsAs}
use Rattle.dr_run_open.specs.declared.halt.Halt.{Halt}
use Rattle.dr_run_open.specs.declared.halt.Halt.TheVariants as halts

-- a plan that is read of a text, and is sealed or not, is so of two files
pub sealed_so : (HP HC : Text → Type 0) (text : Text) (plan : Network) (r : Result Certified Halt) → HP text → Reads text (Ok plan) → SealsSecond HC plan r → SealsFiles HP HC r
sealed_so HP HC text plan (Ok sealed) held reads h =
    let P : Network → Type 0 = λ p. Reads text (Ok p) in
    let Q : Network → Type 0 = λ p. IsCertificateOf p sealed.certificate in
    record {
      text = text;
      held = held;
      reads = subst P (sym h.2) reads;
      second = h.0;
      held_second = h.1;
      written = h.3;
      sound = subst IsSound (sym h.2) h.4;
      own = subst Q (sym h.2) h.5;
    }
sealed_so HP HC text plan (Err (halts.NoCertificate fault)) held reads h = (text, h.0, plan, held, reads, h.1, h.2)
sealed_so HP HC text plan (Err (halts.Failed failure)) held reads h = h
sealed_so HP HC text plan (Err (halts.NoPlan told)) held reads h = absurd h
sealed_so HP HC text plan (Err halts.NoNode) held reads h = absurd h
sealed_so HP HC text plan (Err (halts.NotOpened fault)) held reads h = absurd h
sealed_so HP HC text plan (Err (halts.NoInstance fault)) held reads h = absurd h
sealed_so HP HC text plan (Err (halts.Refused fault)) held reads h = absurd h
sealed_so HP HC text plan (Err halts.Receipt) held reads h = absurd h
sealed_so HP HC text plan (Err halts.Memory) held reads h = absurd h

-- the site and the ledger of a node, by the plan that was sealed
pub placed : {L : Type 0} (HP HC : Text → Type 0) (MayOpen : L → Type 0) (site_of : L → Part) (name : Text) (sealed own : Certified) (site : Part) (ledger : L) → IsSealedBy HP HC sealed
    → (own ≡ sealed) × IsPartOf sealed.plan sealed.certificate site × (site.name ≡ name) × MayOpen ledger × (site_of ledger ≡ site) → IsAt HP HC MayOpen site_of name own site ledger
placed HP HC MayOpen site_of name sealed own site ledger by h =
    let P : Certified → Type 0 = λ s. IsPartOf s.plan s.certificate site in
    record {
      at = record { by = subst (IsSealedBy HP HC) (sym h.0) by; part = subst P (sym h.0) h.1; named = h.2 };
      opened = h.3;
      of = h.4;
    }

-- why a word doesn't come to a node of the plan that was sealed
pub halted : (HP HC : Text → Type 0) (name : Text) (sealed : Certified) (halt : Halt) → IsSealedBy HP HC sealed → IsNotThere sealed name halt → HaltsAs HP HC name halt
halted HP HC name sealed halts.NoNode by h = (sealed, by, h)
halted HP HC name sealed (halts.NotOpened fault) by h = (sealed, h.0, record { by = by; part = h.1; named = h.2 })
halted HP HC name sealed halts.Memory by h = h
halted HP HC name sealed (halts.NoPlan told) by h = absurd h
halted HP HC name sealed (halts.NoCertificate fault) by h = absurd h
halted HP HC name sealed (halts.NoInstance fault) by h = absurd h
halted HP HC name sealed (halts.Refused fault) by h = absurd h
halted HP HC name sealed halts.Receipt by h = absurd h
halted HP HC name sealed (halts.Failed failure) by h = absurd h

-- what is so of both cases of a result
pub both_ways : {A B : Type 0} {P R : A → Type 0} {Q S : B → Type 0} (r : Result A B) → ((a : A) → P a → R a) → ((b : B) → Q b → S b) → MatchResult r P Q → MatchResult r R S
both_ways (Ok a) ok err h = ok a h
both_ways (Err b) ok err h = err b h
