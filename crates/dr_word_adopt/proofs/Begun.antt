-- From which nodes are to go over to what comes of the change.
use Rattle.std.proofs.Common.{◌≡◌, inl, inr, [], Bool, List, Result, Vec, Ok, Err, subst, sym}
use Rattle.std.specs.Global.{Global}
use Rattle.std.specs.Prelude.{◌≢◌, All, Contains, MatchResult}
use Rattle.dr_base.specs.Texts.{Text}
use Rattle.dr_cert.specs.Sealing.{Certified}
use Rattle.dr_ledger.specs.Books.{Book}
use Rattle.dr_plan_model.specs.Networks.{Network}
use Rattle.dr_run_open.specs.Openings.{IsUnopened}
use Rattle.dr_run_open.specs.declared.halt.Halt.{Halt}
use Rattle.dr_run_open.specs.declared.halt.Halt.TheVariants.{NoPlan, NoCertificate, NoNode, NotOpened, NoInstance, Refused, Receipt, Failed, Memory}
use Rattle.dr_run_open.specs.declared.ledgers.OpenFault.TheVariants as opening
use Rattle.dr_site.specs.Parts.{Part}
use Rattle.dr_word_adopt.specs.Beginnings.{AreToGo, HasNoFile, IsNotBegun, IsRefusedFor, OpensThere}
use Rattle.dr_word_adopt.specs.Changes.{ChangesBetween, ChangesOf, came_of}
use Rattle.dr_word_adopt.specs.Names.{AreOurs}
use Rattle.dr_word_adopt.specs.declared.change.Changeover.{Changeover}
use Rattle.dr_word_adopt.specs.declared.change.Halted.{Halted}
use Rattle.dr_word_adopt.specs.declared.standing.Standing.{Standing}

-- what comes of the change of these nodes comes of it all
pub goes_over :
    {L : Type 0} (opens : Text → L → Type 0) (shows : Text → Bool → Type 0) (site_of : L → Part) (book : L → Book) (stands : L → Type 0) (folder : Text) (old next : Certified) (others ours : List Text)
    → AreToGo shows folder old.plan next.plan others ours
    → (result : Result Changeover Halted) (all : List (Standing L))
    → ChangesOf (OpensThere opens shows) site_of book stands folder old next ours (came_of result) all
    → ChangesBetween opens shows site_of book stands folder old next others (came_of result) all
goes_over opens shows site_of book stands folder old next others ours go (Ok change) all came = (ours, (go, came))
goes_over opens shows site_of book stands folder old next others ours go (Err stop) all came = inl (ours, (go, came))

-- which are to go over, where one is left
pub some_to_go :
    (shows : Text → Bool → Type 0) (folder : Text) (old next : Network) (others : List Text) (ours : Vec Text Global) (result : Result (Vec Text Global) Halted)
    → AreOurs old next others ours.items → All (HasNoFile shows folder) others
    → MatchResult result (λ (some : Vec Text Global). (some ≡ ours) × (ours.items ≢ [])) (λ (stop : Halted). (stop.halt ≡ NotOpened opening.NoLedger) × (ours.items ≡ []))
    → MatchResult result (λ (some : Vec Text Global). AreToGo shows folder old next others some.items) (λ (stop : Halted). IsNotBegun old next others stop.halt)
some_to_go shows folder old next others ours (Ok some) are none came =
    let P : Vec Text Global → Type 0 = λ v. AreToGo shows folder old next others v.items in
    subst P (sym came.0) (record { are = are; some = came.1; none = none })
some_to_go shows folder old next others ours (Err stop) are none came =
    inr (inr (came.0, subst (λ (names : List Text). AreOurs old next others names) came.1 are))

-- a name of which no path can be made is refused
pub unopened_refused : (names : List Text) (name : Text) (halt : Halt) → Contains names name → IsUnopened halt → IsRefusedFor names halt
unopened_refused names name (NotOpened fault) among h = (name, among)
unopened_refused names name Memory among h = tt
unopened_refused names name NoNode among h = absurd h
unopened_refused names name (NoPlan told) among h = absurd h
unopened_refused names name (NoCertificate fault) among h = absurd h
unopened_refused names name (NoInstance fault) among h = absurd h
unopened_refused names name (Refused fault) among h = absurd h
unopened_refused names name Receipt among h = absurd h
unopened_refused names name (Failed failure) among h = absurd h
