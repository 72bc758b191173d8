-- Pieces at one moment are heard as their joined bytes are.
use Rattle.std.proofs.Common.{◌≡◌, ◌≢◌, ℕ, Bool, true, false, List, [], ◌∷◌, ◌++◌, map, refl, sym, ap, subst, ◌∙◌, append_assoc}
use Rattle.std.specs.List.{flat_map}
use Rattle.std.proofs.lemmas.List.{append-nil, map-append}
use Rattle.std.proofs.lemmas.List.Concat.{flat_map-append}
use Rattle.dr_base.specs.Runs.{Run}
use Rattle.dr_base.proofs.RunLemmas.{run_append, run_longer}
use Rattle.dr_pdu.specs.declared.pdu.Pdu.{Pdu}
use Rattle.dr_pdu.specs.declared.fault.PduFault.{PduFault}
use Rattle.dr_pdu.specs.declared.fault.PduFault.TheVariants.{More, UnknownType, TooLong, BadItem, BadContextId, Memory, Failed}
use Rattle.dr_pdu.specs.Grammar.{Shows}
use Rattle.dr_pdu.specs.Feeding.{StartsPdu, Feeding}
use Rattle.dr_pdu.proofs.CutLemmas.{shows_on}
use Rattle.dr_session.specs.declared.ends.Input.{Input}
use Rattle.dr_session.specs.Desks.{DeskCall, DeskAnswer}
use Rattle.dr_session.specs.declared.ends.Core.{Core}
use Rattle.dr_session.specs.declared.ends.Effect.{Effect}
use Rattle.dr_session.specs.declared.ends.LinkAction.{LinkAction}
use Rattle.dr_session.specs.declared.ends.Moment.{Moment}
use Rattle.dr_session.specs.Laws.{Joins, JoinsAll, PlaysPieces}
use Rattle.dr_session.specs.Plays.{At, Plays, PlaysBytes, inputs_of, input_of, IsFault, HearsLast, HearsOn, HearsBy, Hears, at_moment}
use Rattle.dr_session.proofs.InTurn.{plays_append}

starts_on : (limit : ℕ) (text : List ℕ) (p : Pdu) (rest more : List ℕ) → StartsPdu limit text p rest → StartsPdu limit (text ++ more) p (rest ++ more)
starts_on limit text p rest more s = (s.0, ap (λ (t : List ℕ). t ++ more) s.1 ∙ append_assoc s.0 rest more, s.2)

fault_stays : (limit : ℕ) (text more : List ℕ) (fault : PduFault) → IsFault fault → Shows limit text fault → Shows limit (text ++ more) fault
fault_stays limit text more More is h = absurd is
fault_stays limit text more Memory is h = absurd is
fault_stays limit text more Failed is h = absurd is
fault_stays limit text more UnknownType is h = shows_on limit text more UnknownType (λ e. cc) h
fault_stays limit text more TooLong is h = shows_on limit text more TooLong (λ e. cc) h
fault_stays limit text more BadItem is h = shows_on limit text more BadItem (λ e. cc) h
fault_stays limit text more BadContextId is h = shows_on limit text more BadContextId (λ e. cc) h

inputs_join : (ps qs : List Pdu) (last is js : List Input) → is ≡ flat_map inputs_of ps ++ [] → js ≡ flat_map inputs_of qs ++ last → is ++ js ≡ flat_map inputs_of (ps ++ qs) ++ last
inputs_join ps qs last is js first second =
    ap (λ (x : List Input). x ++ js) (first ∙ append-nil (flat_map inputs_of ps))
    ∙ (ap (λ (x : List Input). flat_map inputs_of ps ++ x) second
    ∙ (sym (append_assoc (flat_map inputs_of ps) (flat_map inputs_of qs) last)
    ∙ ap (λ (x : List Input). x ++ last) (sym (flat_map-append inputs_of ps qs))))

-- a second piece behind a first one, which ended in no PDU
behind_more : (limit : ℕ) (kept a b : List ℕ) (is js : List Input) (mid new : Feeding) (h : HearsOn limit kept a is mid) (k : HearsOn mid.limit mid.kept b js new)
    → h.last ≡ [] → mid.kept ≡ h.rest → HearsOn limit kept (a ++ b) (is ++ js) new
behind_more limit kept a b is js mid new h k none same = record {
  pdus = h.pdus ++ k.pdus;
  rest = k.rest;
  last = k.last;
  run = subst (λ (l : List ℕ). Run (StartsPdu limit) (h.pdus ++ k.pdus) l k.rest) (append_assoc kept a b)
      (run_append (StartsPdu limit) h.pdus k.pdus ((kept ++ a) ++ b) (h.rest ++ b) k.rest (run_longer (StartsPdu limit) (starts_on limit) h.pdus (kept ++ a) h.rest b h.run)
      (subst (λ (l : List ℕ). Run (StartsPdu limit) k.pdus (l ++ b) k.rest) same (subst (λ (m : ℕ). Run (StartsPdu m) k.pdus (mid.kept ++ b) k.rest) h.same k.run)));
  stops = subst (λ (m : ℕ). HearsLast new.failed m k.rest k.last new.kept) h.same k.stops;
  same = k.same ∙ h.same;
  are = inputs_join h.pdus k.pdus k.last is js (subst (λ (l : List Input). is ≡ flat_map inputs_of h.pdus ++ l) none h.are) k.are;
}

-- a second piece behind one with a fault, of which nothing is heard
behind_fault : (limit : ℕ) (kept a b : List ℕ) (is js : List Input) (mid new : Feeding) (h : HearsOn limit kept a is mid) → mid.failed ≡ true → js ≡ [] → new ≡ mid → HearsOn limit kept (a ++ b) (is ++ js) new
behind_fault limit kept a b is js mid new h failed none same =
    let stops : HearsLast true limit h.rest h.last mid.kept = subst (λ (f : Bool). HearsLast f limit h.rest h.last mid.kept) failed h.stops in
    let on : HearsLast true limit (h.rest ++ b) h.last mid.kept = (stops.0, stops.1, fault_stays limit h.rest b stops.0 stops.1 stops.2, stops.3, stops.4) in
    subst (λ (f : Feeding). HearsOn limit kept (a ++ b) (is ++ js) f) (sym same)
    (subst (λ (l : List Input). HearsOn limit kept (a ++ b) (is ++ l) mid) (sym none) (record {
      pdus = h.pdus;
      rest = h.rest ++ b;
      last = h.last;
      run = subst (λ (l : List ℕ). Run (StartsPdu limit) h.pdus l (h.rest ++ b)) (append_assoc kept a b) (run_longer (StartsPdu limit) (starts_on limit) h.pdus (kept ++ a) h.rest b h.run);
      stops = subst (λ (f : Bool). HearsLast f limit (h.rest ++ b) h.last mid.kept) (sym failed) on;
      same = h.same;
      are = append-nil is ∙ h.are;
    }))

joined_by : (failed : Bool) (limit : ℕ) (kept a b : List ℕ) (is js : List Input) (mid new : Feeding) → mid.failed ≡ failed → (h : HearsOn limit kept a is mid) → HearsBy failed mid b js new
    → HearsOn limit kept (a ++ b) (is ++ js) new
joined_by false limit kept a b is js mid new works h k =
    let stops : HearsLast false limit h.rest h.last mid.kept = subst (λ (f : Bool). HearsLast f limit h.rest h.last mid.kept) works h.stops in
    behind_more limit kept a b is js mid new h k stops.1 stops.2
joined_by true limit kept a b is js mid new failed h (none, same) = behind_fault limit kept a b is js mid new h failed none same

hears_by : (failed : Bool) (old mid new : Feeding) (a b : List ℕ) (is js : List Input) → old.failed ≡ failed → HearsBy failed old a is mid → Hears mid b js new → HearsBy failed old (a ++ b) (is ++ js) new
hears_by false old mid new a b is js e h k = joined_by mid.failed old.limit old.kept a b is js mid new refl h k
hears_by true old mid new a b is js e (none, same) k =
    let l : HearsBy true old b js new = subst (λ (f : Bool). HearsBy f old b js new) e (subst (λ (m : Feeding). Hears m b js new) same k) in
    (ap (λ (x : List Input). x ++ js) none ∙ l.0, l.1)

pub hears_joined : (old mid new : Feeding) (a b : List ℕ) (is js : List Input) → Hears old a is mid → Hears mid b js new → Hears old (a ++ b) (is ++ js) new
hears_joined old mid new a b is js h k = hears_by old.failed old mid new a b is js refl h k

pub joins : {S : Type 0} (step : S → DeskCall → DeskAnswer → S → Type 0) → Joins step
joins {S} step moment old mid new c x y a b s m t (is, heard, plays) (js, heard_more, more) = (
  is ++ js,
  hears_joined old mid new a b is js heard heard_more,
  subst (λ (l : List At). Plays step c l s (x.acts ++ y.acts) y.core t) (sym (map-append (at_moment moment) is js))
      (plays_append step (map (at_moment moment) is) (map (at_moment moment) js) c x.core y.core s m t x.acts y.acts plays more),
)

-- ---- many pieces

abbrev join : List (List ℕ) → List ℕ
join pieces = flat_map (λ (piece : List ℕ). piece) pieces

module _ {S : Type 0} (step : S → DeskCall → DeskAnswer → S → Type 0) (moment : Moment) where
  -- one piece alone
  alone : (old mid new : Feeding) (c : Core) (x first later : Effect) (piece : List ℕ) (s m t : S) → PlaysBytes step moment old c piece s mid first m → PlaysPieces step moment mid first.core [] m new later t
      → x ≡ record { acts = first.acts ++ later.acts; core = later.core } → PlaysBytes step moment old c (join (piece ∷ [])) s new x t
  alone old mid new c x first later piece s m t (is, heard, plays) (same, nothing, stood) are =
      let acts : x.acts ≡ first.acts = ap (λ (e : Effect). e.acts) are ∙ (ap (λ (e : Effect). first.acts ++ e.acts) nothing ∙ append-nil first.acts) in
      let core : x.core ≡ first.core = ap (λ (e : Effect). e.core) are ∙ ap (λ (e : Effect). e.core) nothing in
      let inputs : List At = map (at_moment moment) is in (
        is,
        subst (λ (f : Feeding). Hears old (piece ++ []) is f) (sym same) (subst (λ (l : List ℕ). Hears old l is mid) (sym (append-nil piece)) heard),
        subst (λ (u : S). Plays step c inputs s x.acts x.core u) (sym stood)
            (subst (λ (d : Core). Plays step c inputs s x.acts d m) (sym core) (subst (λ (a : List LinkAction). Plays step c inputs s a first.core m) (sym acts) plays)),
      )

  all : (old new : Feeding) (c : Core) (x : Effect) (piece : List ℕ) (pieces : List (List ℕ)) (s t : S) → PlaysPieces step moment old c (piece ∷ pieces) s new x t → PlaysBytes step moment old c (join (piece ∷ pieces)) s new x t
  all old new c x piece [] s t (mid, first, later, m, plays, none, are) = alone old mid new c x first later piece s m t plays none are
  all old new c x piece (second ∷ others) s t (mid, first, later, m, plays, more, are) =
      subst (λ (e : Effect). PlaysBytes step moment old c (piece ++ join (second ∷ others)) s new e t) (sym are)
      (joins step moment old mid new c first later piece (join (second ∷ others)) s m t plays (all mid new first.core later second others m t more))

pub joins_all : {S : Type 0} (step : S → DeskCall → DeskAnswer → S → Type 0) → JoinsAll step
joins_all step moment old new c x first others s t h = all step moment old new c x first others s t h
