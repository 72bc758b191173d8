-- What is heard of a piece of the bytes.
use Rattle.std.proofs.Common.{◌≡◌, ◌≢◌, ℕ, Bool, true, false, List, [], ◌∷◌, ◌++◌, map, length, Result, Ok, Err, refl, sym, ap, subst, ◌∙◌, inl, inr, append_assoc, arith}
use Rattle.std.specs.Prelude.{◌⊎◌, ◌==◌, IfOk, OnErr, Option, Some, None}
use Rattle.std.proofs.lemmas.Bool.{false≢true, eqb-true}
use Rattle.std.specs.List.{flat_map, AllByRecursion}
use Rattle.std.proofs.lemmas.List.{append-nil, map-append}
use Rattle.std.proofs.lemmas.List.Concat.{flat_map-append}
use Rattle.dr_base.specs.Runs.{Run}
use Rattle.dr_base.proofs.RunLemmas.{run_append, run_longer}
use Rattle.dr_pdu.specs.declared.pdu.Pdu.{Pdu}
use Rattle.dr_pdu.specs.declared.pdu.Pdu.TheVariants as pdu
use Rattle.dr_pdu.specs.declared.fault.PduFault.{PduFault}
use Rattle.dr_pdu.specs.declared.fault.PduFault.TheVariants.{More, UnknownType, TooLong, BadItem, BadContextId, Memory, Failed}
use Rattle.dr_pdu.specs.Grammar.{Shows, Spells}
use Rattle.dr_pdu.specs.Feeding.{StartsPdu, Units, Feeding, Feeds}
use Rattle.dr_pdu.proofs.ReadFits.{read_fits}
use Rattle.dr_pdu.proofs.CutLemmas.{shows_on}
use Rattle.dr_session.specs.declared.ends.Input.{Input}
use Rattle.dr_session.specs.declared.ends.LinkAction.{LinkAction}
use Rattle.dr_session.specs.declared.ends.Core.{Core}
use Rattle.dr_session.specs.declared.ends.Effect.{Effect}
use Rattle.dr_session.specs.declared.ends.Moment.{Moment}
use Rattle.dr_session.specs.Desks.{DeskCall, DeskAnswer}
use Rattle.dr_session.specs.Fits.{PduFits, InputFits}
use Rattle.dr_session.specs.Plays.{At, Plays, PlaysMore, BreaksOff, inputs_of, input_of, IsFault, HearsLast, HearsOn, HearsBy, Hears, PlaysBytes, EndsThere, FaultShows, PlaysOn, IsLast, BreaksOn, BreaksBytes, at_moment}
use Rattle.dr_session.proofs.InTurn.{plays_append, breaks_later}

-- ---- what was read can be written

pub spelled_fits : (limit : ℕ) (text : List ℕ) (p : Pdu) → Spells limit text p → PduFits p
spelled_fits limit text (pdu.AssociateRq rq) s = read_fits limit text (pdu.AssociateRq rq) tt s
spelled_fits limit text (pdu.AssociateAc ac) s = tt
spelled_fits limit text (pdu.AssociateRj rj) s = tt
spelled_fits limit text (pdu.Transfer pdvs) s = tt
spelled_fits limit text pdu.ReleaseRq s = tt
spelled_fits limit text pdu.ReleaseRp s = tt
spelled_fits limit text (pdu.Abort a) s = tt

pub run_fits : (limit : ℕ) (ps : List Pdu) (text rest : List ℕ) → Run (StartsPdu limit) ps text rest → AllByRecursion PduFits ps
run_fits limit [] text rest run = tt
run_fits limit (p ∷ ps) text rest (after, starts, run) = (spelled_fits limit starts.0 p starts.2, run_fits limit ps after rest run)

-- ---- one piece

by_works : (old : Feeding) (piece : List ℕ) (inputs : List Input) (new : Feeding) → old.failed ≡ false → HearsOn old.limit old.kept piece inputs new → Hears old piece inputs new
by_works old piece inputs new works h = subst (λ (f : Bool). HearsBy f old piece inputs new) (sym works) h

-- a feeder that has failed hears nothing
pub hears_failed : (old : Feeding) (piece : List ℕ) (new : Feeding) → old.failed ≡ true → new ≡ old → Hears old piece [] new
hears_failed old piece new failed same = subst (λ (f : Bool). HearsBy f old piece [] new) (sym failed) (refl, same)

-- no whole PDU yet
pub hears_none : (old : Feeding) (piece : List ℕ) (pdus : List Pdu) (new : Feeding) → pdus ≡ [] → Feeds old piece (Ok pdus) new → Hears old piece [] new
hears_none old piece pdus new none (works, units, more, still, limit) = by_works old piece [] new works (record {
  pdus = [];
  rest = new.kept;
  last = [];
  run = subst (λ (ps : List Pdu). Run (StartsPdu old.limit) ps (old.kept ++ piece) new.kept) none units.0;
  stops = subst (λ (f : Bool). HearsLast f old.limit new.kept [] new.kept) (sym still) (more none, refl, refl);
  same = limit;
  are = refl;
})

-- whole PDUs, and what stands behind them
pub hears_on : (old : Feeding) (piece : List ℕ) (pdus : List Pdu) (mid new : Feeding) (last : List Input) → Feeds old piece (Ok pdus) mid
    → HearsLast new.failed mid.limit mid.kept last new.kept → new.limit ≡ mid.limit → Hears old piece (flat_map inputs_of pdus ++ last) new
hears_on old piece pdus mid new last (works, units, more, still, limit) stops same = by_works old piece (flat_map inputs_of pdus ++ last) new works (record {
  pdus = pdus;
  rest = mid.kept;
  last = last;
  run = units.0;
  stops = subst (λ (k : ℕ). HearsLast new.failed k mid.kept last new.kept) limit stops;
  same = same ∙ limit;
  are = refl;
})

-- a fault in front
pub hears_fault : (old : Feeding) (piece : List ℕ) (fault : PduFault) (new : Feeding) → IsFault fault → old.failed ≡ false → Shows old.limit (old.kept ++ piece) fault
    → new ≡ record { limit = old.limit; failed = true; kept = [] } → Hears old piece (input_of fault ∷ []) new
hears_fault old piece fault new is works shows e =
    subst (λ (f : Feeding). Hears old piece (input_of fault ∷ []) f) (sym e) (by_works old piece (input_of fault ∷ []) (record { limit = old.limit; failed = true; kept = [] }) works (record {
      pdus = [];
      rest = old.kept ++ piece;
      last = input_of fault ∷ [];
      run = refl;
      stops = (fault, is, shows, refl, refl);
      same = refl;
      are = refl;
    }))

module _ {S : Type 0} (step : S → DeskCall → DeskAnswer → S → Type 0) (at : Moment) where
  -- nothing is heard, and nothing done
  pub plays_nothing : (old : Feeding) (piece : List ℕ) (c : Core) (s : S) (new : Feeding) → Hears old piece [] new → PlaysBytes step at old c piece s new (record { acts = []; core = c }) s
  plays_nothing old piece c s new h = ([], h, (refl, refl, refl))

  pub plays_fault : (old : Feeding) (piece : List ℕ) (fault : PduFault) (c : Core) (s t : S) (new : Feeding) (x : Effect) → Hears old piece (input_of fault ∷ []) new
      → Plays step c (at_moment at (input_of fault) ∷ []) s x.acts x.core t → PlaysBytes step at old c piece s new x t
  plays_fault old piece fault c s t new x h plays = (input_of fault ∷ [], h, plays)

  pub breaks_fault : (old : Feeding) (piece : List ℕ) (fault : PduFault) (c : Core) (s t : S) → old.failed ≡ false → IsFault fault → Shows old.limit (old.kept ++ piece) fault
      → BreaksOff step [] c (at_moment at (input_of fault) ∷ []) s t → BreaksBytes step at old c piece s t
  breaks_fault old piece fault c s t works is shows broke = (works, inr ([], old.kept ++ piece, input_of fault ∷ [], refl, inr (fault, is, shows, refl), broke))

  pub plays_pdus : (old : Feeding) (piece : List ℕ) (pdus : List Pdu) (c : Core) (s t : S) (mid new : Feeding) (x : Effect) → Feeds old piece (Ok pdus) mid
      → PlaysOn step at mid pdus c s new x t → PlaysBytes step at old c piece s new x t
  plays_pdus old piece pdus c s t mid new x feeds (last, stops, same, plays) =
      (flat_map inputs_of pdus ++ last, hears_on old piece pdus mid new last feeds stops same, plays)

  pub breaks_pdus : (old : Feeding) (piece : List ℕ) (pdus : List Pdu) (c : Core) (s t : S) (mid : Feeding) → Feeds old piece (Ok pdus) mid
      → BreaksOn step at mid pdus c s t → BreaksBytes step at old c piece s t
  breaks_pdus old piece pdus c s t mid feeds (inl same) = (feeds.0, inl same)
  breaks_pdus old piece pdus c s t mid (works, units, more, still, limit) (inr (last, is, broke)) =
      (works, inr (pdus, mid.kept, last, units.0, subst (λ (k : ℕ). IsLast k mid.kept last) limit is, broke))

  -- ---- behind the PDUs

  abbrev ins : List Input → List At
  ins is = map (at_moment at) is

  -- more is to come
  pub on_more : (old : Feeding) (pdus : List Pdu) (c : Core) (s t : S) (new : Feeding) (x : Effect) → FaultShows old new None
      → Plays step c (ins (flat_map inputs_of pdus)) s x.acts x.core t → PlaysOn step at old pdus c s new x t
  on_more old pdus c s t new x h plays =
      ([], h.0, h.1, subst (λ (is : List Input). Plays step c (ins is) s x.acts x.core t) (sym (append-nil (flat_map inputs_of pdus))) plays)

  pub on_fault : (old : Feeding) (pdus : List Pdu) (fault : PduFault) (c d : Core) (s m t : S) (new : Feeding) (acts : List LinkAction) (x : Effect) → IsFault fault → Shows old.limit old.kept fault
      → new ≡ record { limit = old.limit; failed = true; kept = [] } → Plays step c (ins (flat_map inputs_of pdus)) s acts d m
      → Plays step d (at_moment at (input_of fault) ∷ []) m x.acts x.core t → PlaysOn step at old pdus c s new (record { acts = acts ++ x.acts; core = x.core }) t
  on_fault old pdus fault c d s m t new acts x is shows e first last =
      subst (λ (f : Feeding). PlaysOn step at old pdus c s f (record { acts = acts ++ x.acts; core = x.core }) t) (sym e) (
        input_of fault ∷ [],
        (fault, is, shows, refl, refl),
        refl,
        subst (λ (is : List At). Plays step c is s (acts ++ x.acts) x.core t) (sym (map-append (at_moment at) (flat_map inputs_of pdus) (input_of fault ∷ [])))
            (plays_append step (ins (flat_map inputs_of pdus)) (at_moment at (input_of fault) ∷ []) c d x.core s m t acts x.acts first last),
      )

  -- the PDUs were left on the way
  pub on_broke_first : (old : Feeding) (pdus : List Pdu) (c : Core) (s t : S) → BreaksOff step [] c (ins (flat_map inputs_of pdus)) s t → BreaksOn step at old pdus c s t
  on_broke_first old pdus c s t broke = inr ([], inl refl, subst (λ (is : List Input). BreaksOff step [] c (ins is) s t) (sym (append-nil (flat_map inputs_of pdus))) broke)

  -- the fault behind them was left on the way
  pub on_broke_fault : (old : Feeding) (pdus : List Pdu) (fault : PduFault) (c d : Core) (s m t : S) (acts : List LinkAction) → IsFault fault → Shows old.limit old.kept fault
      → Plays step c (ins (flat_map inputs_of pdus)) s acts d m → BreaksOff step acts d (at_moment at (input_of fault) ∷ []) m t → BreaksOn step at old pdus c s t
  on_broke_fault old pdus fault c d s m t acts is shows first broke = inr (
    input_of fault ∷ [],
    inr (fault, is, shows, refl),
    subst (λ (is : List At). BreaksOff step [] c is s t) (sym (map-append (at_moment at) (flat_map inputs_of pdus) (input_of fault ∷ [])))
        (breaks_later step [] (ins (flat_map inputs_of pdus)) (at_moment at (input_of fault) ∷ []) c d s m t acts first broke),
  )

  -- one more input behind the PDUs, the fault
  pub on_fault_more : (old : Feeding) (pdus : List Pdu) (fault : PduFault) (input : Input) (c : Core) (s m t : S) (new : Feeding) (first x : Effect) → IsFault fault → Shows old.limit old.kept fault
      → new ≡ record { limit = old.limit; failed = true; kept = [] } → input ≡ input_of fault → Plays step c (ins (flat_map inputs_of pdus)) s first.acts first.core m
      → PlaysMore step first (at_moment at input) m x t → PlaysOn step at old pdus c s new x t
  on_fault_more old pdus fault input c s m t new first x is shows e says plays (more, last, acts) =
      subst (λ (l : List LinkAction). PlaysOn step at old pdus c s new (record { acts = l; core = x.core }) t) (sym acts)
      (on_fault old pdus fault c first.core s m t new first.acts (record { acts = more; core = x.core }) is shows e plays (subst (λ (i : Input). Plays step first.core (at_moment at i ∷ []) m more x.core t) says last))

  pub on_fault_broke : (old : Feeding) (pdus : List Pdu) (fault : PduFault) (input : Input) (c : Core) (s m t : S) (first : Effect) → IsFault fault → Shows old.limit old.kept fault
      → input ≡ input_of fault → Plays step c (ins (flat_map inputs_of pdus)) s first.acts first.core m → BreaksOff step first.acts first.core (at_moment at input ∷ []) m t → BreaksOn step at old pdus c s t
  on_fault_broke old pdus fault input c s m t first is shows says plays broke =
      on_broke_fault old pdus fault c first.core s m t first.acts is shows plays (subst (λ (i : Input). BreaksOff step first.acts first.core (at_moment at i ∷ []) m t) says broke)

-- ---- a call of the feeder that answers PDUs

pub nothing_fed : (pdus : List Pdu) → (length pdus == 0) ≡ true → pdus ≡ []
nothing_fed [] e = refl
nothing_fed (p ∷ ps) e = absurd (let l : length (p ∷ ps) ≡ 0 = eqb-true (length (p ∷ ps)) 0 e in omega (arith, l))

pub ends_there : (old : Feeding) (piece : List ℕ) (pdus : List Pdu) (new : Feeding) → Feeds old piece (Ok pdus) new → EndsThere new
ends_there old piece pdus new (works, units, more, still, limit) =
    let P : ℕ → Type 0 = λ k. (p : Pdu) (after : List ℕ) → StartsPdu k new.kept p after → ⊥ in
    (still, subst P (sym limit) units.1)

-- ---- a call of the feeder that answers a fault

-- it had not failed before, as the bytes show it now
pub record Refused (old : Feeding) (piece : List ℕ) (fault : PduFault) (new : Feeding) : Type 0 where
  pub is : IsFault fault
  pub works : old.failed ≡ false
  pub shows : Shows old.limit (old.kept ++ piece) fault
  pub after : new ≡ record { limit = old.limit; failed = true; kept = [] }

pub refused : (old : Feeding) (piece : List ℕ) (fault : PduFault) (new : Feeding) → fault ≢ More → fault ≢ Memory → fault ≢ Failed → Feeds old piece (Err fault) new → Refused old piece fault new
refused old piece More new a b c f = absurd (a refl)
refused old piece Memory new a b c f = absurd (b refl)
refused old piece Failed new a b c f = absurd (c refl)
refused old piece UnknownType new a b c (works, shows, after) = record { is = tt; works = works; shows = shows; after = after }
refused old piece TooLong new a b c (works, shows, after) = record { is = tt; works = works; shows = shows; after = after }
refused old piece BadItem new a b c (works, shows, after) = record { is = tt; works = works; shows = shows; after = after }
refused old piece BadContextId new a b c (works, shows, after) = record { is = tt; works = works; shows = shows; after = after }

pub more_never : (old : Feeding) (piece : List ℕ) (fault : PduFault) (new : Feeding) → fault ≡ More → Feeds old piece (Err fault) new → ⊥
more_never old piece fault new e f = subst (λ (x : PduFault). Feeds old piece (Err x) new) e f

pub failed_never : (old : Feeding) (piece : List ℕ) (fault : PduFault) (new : Feeding) → old.failed ≡ false → fault ≡ Failed → Feeds old piece (Err fault) new → ⊥
failed_never old piece fault new works e f = let h : Feeds old piece (Err Failed) new = subst (λ (x : PduFault). Feeds old piece (Err x) new) e f in false≢true (sym works ∙ h.0)

pub failed_before : (old : Feeding) (piece : List ℕ) (fault : PduFault) (new : Feeding) → fault ≡ Failed → Feeds old piece (Err fault) new → (old.failed ≡ true) × (new ≡ old)
failed_before old piece fault new e f = subst (λ (x : PduFault). Feeds old piece (Err x) new) e f

pub memory_before : (old : Feeding) (piece : List ℕ) (fault : PduFault) (new : Feeding) → fault ≡ Memory → Feeds old piece (Err fault) new → (old.failed ≡ false) × (new ≡ old)
memory_before old piece fault new e f = subst (λ (x : PduFault). Feeds old piece (Err x) new) e f

pub fault_fits : (input : Input) (fault : PduFault) → input ≡ input_of fault → InputFits input
fault_fits input fault e = subst InputFits (sym e) (by_fault fault)
  where
    by_fault : (f : PduFault) → InputFits (input_of f)
    by_fault More = tt
    by_fault Memory = tt
    by_fault Failed = tt
    by_fault UnknownType = tt
    by_fault TooLong = tt
    by_fault BadItem = tt
    by_fault BadContextId = tt

-- ---- what stands behind the PDUs that came out

-- nothing more came out
pub none_behind : (old : Feeding) (more : List Pdu) (new : Feeding) → EndsThere old → Feeds old [] (Ok more) new → FaultShows old new None
none_behind old [] new ends (works, units, shows, still, limit) =
    let kept : new.kept ≡ old.kept = sym (sym (append-nil old.kept) ∙ units.0) in (
      subst (λ (f : Bool). HearsLast f old.limit old.kept [] new.kept) (sym still)
          (subst (λ (k : List ℕ). Shows old.limit k More) kept (shows refl), refl, kept),
      limit,
    )
none_behind old (p ∷ ps) new ends (works, units, shows, still, limit) =
    absurd (ends.1 p units.0.0 (subst (λ (k : List ℕ). StartsPdu old.limit k p units.0.0) (append-nil old.kept) units.0.1))

-- a fault
pub fault_behind : (old : Feeding) (fault : PduFault) (new : Feeding) → Refused old [] fault new → FaultShows old new (Some fault)
fault_behind old fault new r = (r.is, subst (λ (k : List ℕ). Shows old.limit k fault) (append-nil old.kept) r.shows, r.after)

-- ---- clauses on results

pub if_ok : {A E : Type 0} (r : Result A E) (P Q : A → Type 0) → ((x : A) → P x → Q x) → IfOk r P → IfOk r Q
if_ok (Ok x) P Q on h = on x h
if_ok (Err e) P Q on h = tt

pub if_err : {A E : Type 0} (r : Result A E) (P Q : Type 0) → (P → Q) → OnErr r P → OnErr r Q
if_err (Ok x) P Q on h = tt
if_err (Err e) P Q on h = on h
