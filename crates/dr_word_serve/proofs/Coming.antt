-- What comes of a word at a node, from what comes of its parts.
use Rattle.std.proofs.Common.{◌≡◌, sym, subst, List, Ok, Err, Result}
use Rattle.std.specs.Result.{IsErr, IsErrAnd}
use Rattle.std.proofs.lemmas.Bool.{false≢true}
use Rattle.std.specs.Prelude.{MatchResult}
use Rattle.std.specs.declared.option.Option.{Option}
use Rattle.dr_base.specs.Texts.{Text}
use Rattle.dr_cert.specs.Sealing.{Certified}
use Rattle.dr_ledger.specs.Books.{Book}
use Rattle.dr_ledger.specs.declared.content.Job.{Job}
use Rattle.dr_run_open.specs.Hops.{hops_from}
use Rattle.dr_run_open.specs.Openings.{HaltsAs, IsAt}
use Rattle.dr_run_open.specs.declared.halt.Halt.{Halt}
use Rattle.dr_run_open.specs.declared.halt.Halt.TheVariants.{NoPlan, NoCertificate, NoNode, NotOpened, NoInstance, Refused, Receipt, Failed, Memory}
use Rattle.dr_run_open.specs.declared.hops.NextHop.{NextHop}
use Rattle.dr_plan_model.specs.Plans.{NamesNoNode}
use Rattle.dr_run_serve.specs.declared.tallied.OwnPort.{OwnPort}
use Rattle.dr_site.specs.Parts.{Part}
use Rattle.dr_word_serve.specs.Sending.{IsUnsent, ReadsFrom, Sends, SentFrom}
use Rattle.dr_word_serve.specs.Serving.{Grew, IsUnheard, IsUnserved, Serves}

-- what holds of a fault holds of the result that hands it on
pub err_as : {A E : Type 0} (P : Result A E → Type 0) (why : E) (r : Result A E) → IsErr r → IsErrAnd r (λ (e : E). e ≡ why) → P (Err why) → P r
err_as {A} {E} P why (Ok done) no_err gives h = absurd (false≢true no_err)
err_as {A} {E} P why (Err e) err gives h = subst (λ (w : E). P (Err w)) (sym gives) h

module _ {L : Type 0} (HoldsPlan HoldsCertificate : Text → Type 0) (MayOpen : L → Type 0) (site_of : L → Part) (book : L → Book) (stands : L → Type 0) (name : Text) where
  -- a word that doesn't come to the node doesn't serve
  pub unopened_serves : (halt : Halt) → HaltsAs HoldsPlan HoldsCertificate name halt → Serves HoldsPlan HoldsCertificate MayOpen site_of book stands name (Err halt)
  unopened_serves (NoPlan told) h = h
  unopened_serves (NoCertificate fault) h = h
  unopened_serves NoNode h = h
  unopened_serves (NotOpened fault) h = h
  unopened_serves (NoInstance fault) h = h
  unopened_serves (Refused fault) h = absurd h
  unopened_serves Receipt h = absurd h
  unopened_serves (Failed failure) h = h
  unopened_serves Memory h = h

  module _ (sealed : Certified) (site : Part) (old : L) (at : IsAt HoldsPlan HoldsCertificate MayOpen site_of name sealed site old) where
    unheard : (halt : Halt) → IsUnheard sealed.plan site.name halt → HaltsAs HoldsPlan HoldsCertificate name halt
    unheard NoNode h = (sealed, at.at.by, subst (NamesNoNode sealed.plan) at.at.named h)
    unheard (Failed failure) h = tt
    unheard (NoPlan told) h = absurd h
    unheard (NoCertificate fault) h = absurd h
    unheard (NotOpened fault) h = absurd h
    unheard (NoInstance fault) h = absurd h
    unheard (Refused fault) h = absurd h
    unheard Receipt h = absurd h
    unheard Memory h = absurd h

    -- neither does a node that listens nowhere, or whose address can't be bound to
    pub unheard_serves : (halt : Halt) → IsUnheard sealed.plan site.name halt → Serves HoldsPlan HoldsCertificate MayOpen site_of book stands name (Err halt)
    unheard_serves halt h = unopened_serves halt (unheard halt h)

    -- what comes of serving at the opened node is what the word comes to
    pub reported_serves : (text : Text) (last : L) → (stands last → Grew site site.name (book old) (book last) text) → Serves HoldsPlan HoldsCertificate MayOpen site_of book stands name (Ok text)
    reported_serves text last grew = (sealed, site, old, at, (last, λ s. subst (λ n. Grew site n (book old) (book last) text) at.at.named (grew s)))

    pub opened_serves : (halt : Halt) → IsUnserved halt → Serves HoldsPlan HoldsCertificate MayOpen site_of book stands name (Err halt)
    opened_serves (Refused fault) h = (sealed, site, old, at, tt)
    opened_serves Receipt h = (sealed, site, old, at, tt)
    opened_serves Memory h = tt
    opened_serves (NoPlan told) h = absurd h
    opened_serves (NoCertificate fault) h = absurd h
    opened_serves NoNode h = absurd h
    opened_serves (NotOpened fault) h = absurd h
    opened_serves (NoInstance fault) h = absurd h
    opened_serves (Failed failure) h = absurd h

  module _ (HoldsFile : Text → Type 0) (VisitsAll : Part → List NextHop → OwnPort L → OwnPort L → Type 0) (before after : Option Text) where
    -- a word that doesn't come to the node doesn't send
    pub unopened_sends : (halt : Halt) → HaltsAs HoldsPlan HoldsCertificate name halt → Sends HoldsPlan HoldsCertificate HoldsFile MayOpen site_of book stands VisitsAll name (Err halt) before after
    unopened_sends (NoPlan told) h = h
    unopened_sends (NoCertificate fault) h = h
    unopened_sends NoNode h = h
    unopened_sends (NotOpened fault) h = h
    unopened_sends (NoInstance fault) h = absurd h
    unopened_sends (Refused fault) h = absurd h
    unopened_sends Receipt h = absurd h
    unopened_sends (Failed failure) h = h
    unopened_sends Memory h = h

    module _ (sealed : Certified) (site : Part) (old : L) (at : IsAt HoldsPlan HoldsCertificate MayOpen site_of name sealed site old) where
      -- neither does a file without an instance
      pub unread_sends : (halt : Halt) → ReadsFrom HoldsFile (Err halt) → Sends HoldsPlan HoldsCertificate HoldsFile MayOpen site_of book stands VisitsAll name (Err halt) before after
      unread_sends (NoInstance fault) h = (sealed, site, old, at, h)
      unread_sends (Failed failure) h = tt
      unread_sends (NoPlan told) h = absurd h
      unread_sends (NoCertificate fault) h = absurd h
      unread_sends NoNode h = absurd h
      unread_sends (NotOpened fault) h = absurd h
      unread_sends (Refused fault) h = absurd h
      unread_sends Receipt h = absurd h
      unread_sends Memory h = absurd h

      -- what comes of sending at the opened node is what the word comes to
      pub opened_sends : (item : Job) → ReadsFrom HoldsFile (Ok item) → (result : Result Text Halt)
          → MatchResult result (λ report. SentFrom book stands VisitsAll site (hops_from site sealed.plan.nodes) item old report before after) IsUnsent
          → Sends HoldsPlan HoldsCertificate HoldsFile MayOpen site_of book stands VisitsAll name result before after
      opened_sends item read (Ok report) h = (sealed, site, old, at, (item, read, h))
      opened_sends item read (Err (Refused fault)) h = (sealed, site, old, at, (item, read))
      opened_sends item read (Err (Failed failure)) h = tt
      opened_sends item read (Err Memory) h = tt
      opened_sends item read (Err (NoPlan told)) h = absurd h
      opened_sends item read (Err (NoCertificate fault)) h = absurd h
      opened_sends item read (Err NoNode) h = absurd h
      opened_sends item read (Err (NotOpened fault)) h = absurd h
      opened_sends item read (Err (NoInstance fault)) h = absurd h
      opened_sends item read (Err Receipt) h = absurd h
