-- An end that is over, and one that isn't.
use Rattle.std.proofs.Common.{◌≡◌, ℕ, Bool, true, false, List, [], Option, Some, None, Result, Ok, Err, refl, sym, ap, subst, ◌∙◌}
use Rattle.std.specs.Result.{IsErr, IsErrAnd}
use Rattle.dr_base.specs.Texts.{Text}
use Rattle.dr_site.specs.Parts.{Part}
use Rattle.dr_nego.specs.Agreeing.{AssociateRq}
use Rattle.dr_nego.specs.declared.fault.NegoFault.{NegoFault}
use Rattle.dr_nego.specs.declared.fault.NegoFault.TheVariants as negofault
use Rattle.dr_nego.specs.Proposing.{Proposes}
use Rattle.std.proofs.lemmas.Bool.{false≢true}
use Rattle.dr_pdu.specs.Feeding.{Feeding, fresh}
use Rattle.dr_session.specs.declared.ends.Effect.{Effect}
use Rattle.dr_session.specs.Breaks.{HasActs}
use Rattle.dr_session.specs.Plays.{Reacts, Stops, PlaysBytes, BreaksBytes, at_moment, without_data}
use Rattle.std.specs.declared.alloc.AllocError.{AllocError}
use Rattle.dr_ulstate.specs.Phases.{state_of}
use Rattle.dr_session.specs.declared.ends.Core.{Core}
use Rattle.dr_session.specs.declared.ends.Input.{Input}
use Rattle.dr_session.specs.declared.ends.LinkAction.{LinkAction}
use Rattle.dr_session.specs.declared.ends.Moment.{Moment}
use Rattle.dr_session.specs.Desks.{DeskCall, DeskAnswer}
use Rattle.dr_session.specs.Ends.{Terminal, IsEndOver, TakesCore, TakesFree, EchoesBy, EchoesIn, echoes_by, is_free, is_free_in, OpensTo, begins, requesting, is_gone, MeetsBy, MeetsIn, Meets, HearsPiece, HearsBytes, LosesBy, LosesIn, CrowdsBy, CrowdsIn}

module _ {S : Type 0} (step : S → DeskCall → DeskAnswer → S → Type 0) (at : Moment) where
  meets_none : (core : Option Core) (i : Input) (old : Terminal) (s : S) → IsEndOver core → MeetsIn step core at i old s (Ok []) old s
  meets_none None i old s over = (refl, refl, refl)
  meets_none (Some c) i old s over = rw over (refl, refl, refl)

  pub meets_over : (i : Input) (old : Terminal) (s : S) → IsEndOver old.core → Meets step at i old s (Ok []) old s
  meets_over i old s over = meets_none old.core i old s over

  pub meets_live : (i : Input) (c : Core) (old new : Terminal) (s t : S) (result : Result (List LinkAction) AllocError) → old.core ≡ Some c → is_gone (state_of c.phase) ≡ false
      → MeetsBy step false at i c old s result new t → Meets step at i old s result new t
  meets_live i c old new s t result is live h =
      subst (λ (o : Option Core). MeetsIn step o at i old s result new t) (sym is) (subst (λ (b : Bool). MeetsBy step b at i c old s result new t) (sym live) h)

  hears_none : (core : Option Core) (piece : List ℕ) (old : Terminal) (s : S) → IsEndOver core → HearsBytes step core at piece old s (Ok []) old s
  hears_none None piece old s over = (refl, refl, refl)
  hears_none (Some c) piece old s over = rw over (refl, refl, refl)

  pub hears_over : (piece : List ℕ) (old : Terminal) (s : S) → IsEndOver old.core → HearsBytes step old.core at piece old s (Ok []) old s
  hears_over piece old s over = hears_none old.core piece old s over

  pub hears_live : (piece : List ℕ) (c : Core) (old new : Terminal) (s t : S) (result : Result (List LinkAction) AllocError) → old.core ≡ Some c → is_gone (state_of c.phase) ≡ false
      → HearsPiece step false at piece c old s result new t → HearsBytes step old.core at piece old s result new t
  hears_live piece c old new s t result is live h =
      subst (λ (o : Option Core). HearsBytes step o at piece old s result new t) (sym is) (subst (λ (b : Bool). HearsPiece step b at piece c old s result new t) (sym live) h)

  -- ---- the same by what was taken and put back

  pub meets_over_as : (i : Input) (old new : Terminal) (s : S) (acts : List LinkAction) → IsEndOver old.core × (new ≡ old) → acts ≡ [] → Meets step at i old s (Ok acts) new s
  meets_over_as i old new s acts (over, same) none =
      subst (λ (l : List LinkAction). Meets step at i old s (Ok l) new s) (sym none) (subst (λ (x : Terminal). Meets step at i old s (Ok []) x s) (sym same) (meets_over i old s over))

  pub meets_done : (i : Input) (c : Core) (old mid new : Terminal) (s t : S) (x : Effect) → TakesCore old (Some c) mid → new ≡ record { ear = mid.ear; core = Some x.core } → Reacts step c (at_moment at i) s x t
      → Meets step at i old s (Ok x.acts) new t
  meets_done i c old mid new s t x (is, live, taken) put reacts =
      meets_live i c old new s t (Ok x.acts) is live (x, reacts, refl, put ∙ ap (λ (y : Terminal). let z : Terminal = record { ear = y.ear; core = Some x.core } in z) taken)

  pub meets_broke : (i : Input) (c : Core) (old mid : Terminal) (s t : S) (r : Result (List LinkAction) AllocError) → TakesCore old (Some c) mid → IsErr r → Stops step c (at_moment at i) s t → Meets step at i old s r mid t
  meets_broke i c old mid s t (Ok acts) taken no_err stops = absurd (false≢true no_err)
  meets_broke i c old mid s t (Err e) (is, live, taken) is_err stops = meets_live i c old mid s t (Err e) is live (stops, taken)

  pub hears_over_as : (piece : List ℕ) (old new : Terminal) (s : S) (acts : List LinkAction) → IsEndOver old.core × (new ≡ old) → acts ≡ [] → HearsBytes step old.core at piece old s (Ok acts) new s
  hears_over_as piece old new s acts (over, same) none =
      subst (λ (l : List LinkAction). HearsBytes step old.core at piece old s (Ok l) new s) (sym none)
      (subst (λ (x : Terminal). HearsBytes step old.core at piece old s (Ok []) x s) (sym same) (hears_over piece old s over))

  pub hears_done : (piece : List ℕ) (c : Core) (old mid new : Terminal) (s t : S) (ear : Feeding) (x : Effect) → TakesCore old (Some c) mid → new ≡ record { ear = ear; core = Some x.core }
      → PlaysBytes step at mid.ear c piece s ear x t → HearsBytes step old.core at piece old s (Ok x.acts) new t
  hears_done piece c old mid new s t ear x (is, live, taken) put plays =
      let same : mid.ear ≡ old.ear = ap (λ (y : Terminal). y.ear) taken in
      let all : PlaysBytes step at old.ear c piece s new.ear x t =
      subst (λ (e : Feeding). PlaysBytes step at old.ear c piece s e x t) (sym (ap (λ (y : Terminal). y.ear) put)) (subst (λ (e : Feeding). PlaysBytes step at e c piece s ear x t) same plays) in
      hears_live piece c old new s t (Ok x.acts) is live (x, all, refl, ap (λ (y : Terminal). y.core) put)

  pub hears_broke : (piece : List ℕ) (c : Core) (old mid new : Terminal) (s t : S) (r : Result (List LinkAction) AllocError) → TakesCore old (Some c) mid → new.core ≡ mid.core → IsErr r
      → BreaksBytes step at mid.ear c piece s t → HearsBytes step old.core at piece old s r new t
  hears_broke piece c old mid new s t (Ok acts) taken still no_err broke = absurd (false≢true no_err)
  hears_broke piece c old mid new s t (Err e) (is, live, taken) still is_err broke =
      let same : mid.ear ≡ old.ear = ap (λ (y : Terminal). y.ear) taken in
      hears_live piece c old new s t (Err e) is live
      (subst (λ (f : Feeding). BreaksBytes step at f c piece s t) same broke, still ∙ ap (λ (y : Terminal). y.core) taken)

abbrev pub terminal : Feeding → Option Core → Terminal
terminal ear core = record { ear = ear; core = core }

-- the link has no memory
loses_if : (o : Option Core) (old new : Terminal) (acts : List LinkAction) → IsEndOver o → new ≡ old → acts ≡ [] → LosesIn o old (Ok acts) new
loses_if None old new acts over same none = (ap (λ (l : List LinkAction). Ok l) none, same)
loses_if (Some c) old new acts over same none =
    subst (λ (b : Bool). LosesBy b old (Ok acts) new) (sym over) (ap (λ (l : List LinkAction). Ok l) none, same)

pub loses_over : (old new : Terminal) (acts : List LinkAction) → IsEndOver old.core × (new ≡ old) → acts ≡ [] → LosesIn old.core old (Ok acts) new
loses_over old new acts (over, same) none = loses_if old.core old new acts over same none

pub loses_core : (old new : Terminal) (o : Option Core) (c : Core) (e : AllocError) → o ≡ Some c → TakesCore old o new → LosesIn old.core old (Err e) new
loses_core old new o c e some taken =
    let one : TakesCore old (Some c) new = subst (λ (x : Option Core). TakesCore old x new) some taken in
    subst (λ (x : Option Core). LosesIn x old (Err e) new) (sym one.0) (subst (λ (b : Bool). LosesBy b old (Err e) new) (sym one.1) (tt, one.2))

-- a core was taken, and what is left is seen by its fields
pub taken_as : (old mid seen : Terminal) (o : Option Core) (c : Core) → o ≡ Some c → seen ≡ mid → TakesCore old o mid → TakesCore old (Some c) seen
taken_as old mid seen o c is view taken =
    subst (λ (x : Terminal). TakesCore old (Some c) x) (sym view) (subst (λ (x : Option Core). TakesCore old x mid) is taken)

pub begin_as : (ear : Feeding) (core c : Core) (limit n : ℕ) → ear ≡ fresh n → n ≡ limit → core ≡ c → terminal ear (Some core) ≡ begins limit c
begin_as ear core c limit n fed same is =
    ap (λ (e : Feeding). terminal e (Some core)) (fed ∙ ap (λ (k : ℕ). fresh k) same) ∙ ap (λ (x : Core). terminal (fresh limit) (Some x)) is

pub requesting_as : (site : Option Part) (peer dest : Text) (p rq : AssociateRq) (now : ℕ) → peer ≡ dest → p ≡ rq → requesting site peer p now ≡ requesting site dest rq now
requesting_as site peer dest p rq now e f = ap (λ (t : Text). requesting site t p now) e ∙ ap (λ (x : AssociateRq). requesting site dest x now) f

opens_refused : (site : Part) (dest : Text) (now : ℕ) (why : NegoFault) → Proposes site dest (Err why) → OpensTo site dest now (Err why)
opens_refused site dest now negofault.NoHop h = h
opens_refused site dest now negofault.StrangeId h = absurd h
opens_refused site dest now negofault.StrangeSyntax h = absurd h
opens_refused site dest now negofault.LimitTooSmall h = absurd h
opens_refused site dest now negofault.Memory h = h

pub opens_not : (site : Part) (dest : Text) (now : ℕ) (why : NegoFault) (r : Result (Terminal × List LinkAction) NegoFault) → IsErr r → IsErrAnd r (λ (e : NegoFault). e ≡ why) → Proposes site dest (Err why) → OpensTo site dest now r
opens_not site dest now why (Ok x) no_err is h = absurd (false≢true no_err)
opens_not site dest now why (Err e) err is h = subst (λ (x : NegoFault). OpensTo site dest now (Err x)) (sym is) (opens_refused site dest now why h)

-- ---- an echo

echoes_none : (core : Option Core) (now : ℕ) (old : Terminal) → is_free_in core ≡ false → EchoesIn core now old (Ok []) old
echoes_none None now old e = (refl, refl)
echoes_none (Some c) now old e = subst (λ (b : Bool). EchoesBy b now c old (Ok []) old) (sym e) (refl, refl)

pub echoes_not : (now : ℕ) (old new : Terminal) (acts : List LinkAction) → TakesFree old None new → acts ≡ [] → EchoesIn old.core now old (Ok acts) new
echoes_not now old new acts (e, same) none =
    subst (λ (l : List LinkAction). EchoesIn old.core now old (Ok l) new) (sym none) (subst (λ (x : Terminal). EchoesIn old.core now old (Ok []) x) (sym same) (echoes_none old.core now old e))

echoes_live : (now : ℕ) (c : Core) (old new : Terminal) (r : Result (List LinkAction) AllocError) → old.core ≡ Some c → is_free c ≡ true → EchoesBy true now c old r new → EchoesIn old.core now old r new
echoes_live now c old new r is free h = subst (λ (o : Option Core). EchoesIn o now old r new) (sym is) (subst (λ (b : Bool). EchoesBy b now c old r new) (sym free) h)

pub echoes_done : (now : ℕ) (c : Core) (old mid new : Terminal) (x : Effect) → TakesFree old (Some c) mid → new ≡ record { ear = mid.ear; core = Some x.core } → x ≡ echoes_by c.agreed now c
    → EchoesIn old.core now old (Ok x.acts) new
echoes_done now c old mid new x (is, free, taken) put e =
    echoes_live now c old new (Ok x.acts) is free
    (ap (λ (y : Effect). y.acts) e, put ∙ (ap (λ (y : Terminal). terminal y.ear (Some x.core)) taken ∙ ap (λ (y : Effect). terminal old.ear (Some y.core)) e))

pub echoes_broke : (now : ℕ) (c : Core) (old mid : Terminal) (r : Result (List LinkAction) AllocError) → TakesFree old (Some c) mid → IsErr r → HasActs (echoes_by c.agreed now c).acts → EchoesIn old.core now old r mid
echoes_broke now c old mid (Ok acts) taken no_err wants = absurd (false≢true no_err)
echoes_broke now c old mid (Err e) (is, free, taken) err wants = echoes_live now c old mid (Err e) is free (wants, taken)

pub takes_free : (old : Terminal) (ear : Feeding) (core r after : Option Core) → r ≡ core → after ≡ None → terminal ear core ≡ old → is_free_in old.core ≡ true → TakesFree old r (terminal ear after)
takes_free old ear core None after same none view free =
    let is : old.core ≡ None = ap (λ (y : Terminal). y.core) (sym view) ∙ sym same in
    absurd (false≢true (subst (λ (o : Option Core). is_free_in o ≡ true) is free))
takes_free old ear core (Some c) after same none view free =
    let is : old.core ≡ Some c = ap (λ (y : Terminal). y.core) (sym view) ∙ sym same in
    (is, subst (λ (o : Option Core). is_free_in o ≡ true) is free, ap (λ (o : Option Core). terminal ear o) none ∙ ap (λ (y : Terminal). terminal y.ear None) view)

-- ---- no room

crowds_none : (core : Option Core) (old : Terminal) → IsEndOver core → CrowdsIn core old (Ok []) old
crowds_none None old over = (refl, refl)
crowds_none (Some c) old over = rw over (refl, refl)

pub crowds_over : (old new : Terminal) (acts : List LinkAction) → IsEndOver old.core × (new ≡ old) → acts ≡ [] → CrowdsIn old.core old (Ok acts) new
crowds_over old new acts (over, same) none =
    subst (λ (l : List LinkAction). CrowdsIn old.core old (Ok l) new) (sym none) (subst (λ (x : Terminal). CrowdsIn old.core old (Ok []) x) (sym same) (crowds_none old.core old over))

pub crowds_live : (c : Core) (old mid new : Terminal) (acts : List LinkAction) → TakesCore old (Some c) mid → new ≡ record { ear = mid.ear; core = Some (without_data c) } → acts ≡ []
    → CrowdsIn old.core old (Ok acts) new
crowds_live c old mid new acts (is, live, taken) put none =
    let same : new ≡ record { ear = old.ear; core = Some (without_data c) } = put ∙ ap (λ (y : Terminal). let z : Terminal = record { ear = y.ear; core = Some (without_data c) } in z) taken in
    subst (λ (o : Option Core). CrowdsIn o old (Ok acts) new) (sym is)
    (subst (λ (b : Bool). CrowdsBy b c old (Ok acts) new) (sym live) (ap (λ (l : List LinkAction). let r : Result (List LinkAction) AllocError = Ok l in r) none, same))
