-- What is heard, after a read that failed and after one that brought bytes.
use Rattle.std.specs.Prelude.{Bool, ◌≡◌, ◌⊎◌, ℕ, ◌+◌, ◌<◌, ◌≤◌, List, length, take, Some, None}
use Rattle.std.proofs.Common.{refl, sym, ap, subst, ◌∙◌, inl, inr, length-take-le}
use Rattle.std.specs.declared.option.Option.{Option}
use Rattle.std.specs.Io.KnownBytes.{Consumes, IsAtEnd, Keeps}
use Rattle.std.proofs.KnownBytes.{Keeps-trans}
use Rattle.dr_session.specs.declared.ends.Heard.{Heard}
use Rattle.dr_session.specs.declared.ends.Heard.TheVariants.{Bytes, End, Late, Idle, Crowded, Fault, Memory}
use Rattle.dr_run_net.specs.declared.limits.Limits.{Limits}
use Rattle.dr_run_net.specs.declared.window.Window.{Window}
use Rattle.dr_run_net.specs.Hearing.{Ear, Hears, IsSwift, IsWidened, ear}

keeps_consumes : (a b c : Option (List ℕ)) (bs : List ℕ) → Keeps a b → Consumes b c bs → Consumes a c bs
keeps_consumes None b c bs p q = tt
keeps_consumes (Some x) None c bs p q = absurd p
keeps_consumes (Some x) (Some y) None bs p q = absurd q
keeps_consumes (Some x) (Some y) (Some z) bs p q = sym p ∙ q

-- what is heard behind a call that took nothing is heard before it
module _ (tells : ℕ → Type 0) (limits : Limits) (old mid : Option (List ℕ)) (marked rested : ℕ)
    (window : Option Window) (warned : Bool) where
  kept : (came : Heard) (new : Ear) → Keeps old mid
      → Hears tells limits (ear mid marked rested window warned) came new
      → Hears tells limits (ear old marked rested window warned) came new
  kept (Bytes piece) new keeps (now, told, (soon, swift, takes, marks, rests, warns, more)) =
      (now, told, (soon, swift, keeps_consumes old mid new.left piece keeps takes, marks, rests, warns, more))
  kept End new keeps h = h
  kept Late new keeps (now, told, (why, stays, marks, rests, same, warns)) =
      (now, told, (why, Keeps-trans old mid new.left keeps stays, marks, rests, same, warns))
  kept Idle new keeps (now, told, (why, stays, rests, none)) =
      (now, told, (why, Keeps-trans old mid new.left keeps stays, rests, none))
  kept Crowded new keeps (now, told, nothing) = absurd nothing
  kept Fault new keeps h = tt
  kept Memory new keeps h = tt

pub missed : {C : Type 0} (tells : C → ℕ → Type 0) (clock clock' : C) (limits limits' : Limits) (left left' : Option (List ℕ)) (marked marked' rested rested' : ℕ) (window window' : Option Window) (warned warned' : Bool) (came : Heard) (new : Ear)
    → clock' ≡ clock → limits' ≡ limits → marked' ≡ marked → rested' ≡ rested → window' ≡ window → warned' ≡ warned → Keeps left left'
    → Hears (tells clock') limits' (ear left' marked' rested' window' warned') came new → Hears (tells clock) limits (ear left marked rested window warned) came new
missed tells clock clock' limits limits' left left' marked marked' rested rested' window window' warned warned' came new ec el em er ew ed keeps h =
    kept (tells clock) limits left left' marked rested window warned came new keeps (rw (sym ec, sym el, sym em, sym er, sym ew, sym ed) h)

pub heard_bytes : (tells : ℕ → Type 0) (limits : Limits) (now count : ℕ) (room : List ℕ) (old : Ear) (left : Option (List ℕ)) (marked rested : ℕ) (window : Option Window) (warned : Bool) (result : Heard)
    → tells now → now < old.marked + 1000 → IsSwift limits.message now old.window → count ≤ length room → Consumes old.left left (take count room) → marked ≡ old.marked → rested ≡ old.rested → warned ≡ old.warned
    → ((w : Window) × (window ≡ Some w) × IsWidened now count old.window w)
    → (result ≡ Bytes (take count room)) ⊎ (result ≡ Memory)
    → Hears tells limits old result (ear left marked rested window warned)
heard_bytes tells limits now count room old left marked rested window warned result told soon swift within takes em er ed (w, ew, widened) (inl is) =
    let same : IsWidened now (length (take count room)) old.window w = subst (λ (n : ℕ). IsWidened now n old.window w) (sym (length-take-le count room within)) widened in
    rw is (now, told, (soon, swift, takes, em, er, ed, (w, ew, same)))
heard_bytes tells limits now count room old left marked rested window warned result told soon swift within takes em er ed widened (inr is) = rw is tt
