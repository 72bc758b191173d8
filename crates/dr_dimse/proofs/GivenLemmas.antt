-- A list of values gives a message at its last one, and none before, just where it is that message.
use Rattle.std.proofs.Common.{◌≡◌, ℕ, ◌≤◌, true, false, List, [], ◌∷◌, ◌++◌, length, Option, Some, None, Result, Ok, Err, refl, sym, ap, subst, ◌∙◌, arith, inl, inr, append_assoc}
use Rattle.std.specs.List.{AllByRecursion}
use Rattle.std.proofs.lemmas.List.{append-nil, length-append}
use Rattle.dr_pdu.specs.declared.pdu.Pdv.{Pdv}
use Rattle.dr_dimse.specs.declared.message.Body.{Body}
use Rattle.dr_dimse.specs.declared.message.Body.TheVariants.{Whole}
use Rattle.dr_dimse.specs.declared.message.Message.{Message}
use Rattle.dr_dimse.specs.declared.message.Awaited.{Awaited}
use Rattle.dr_dimse.specs.declared.command.Command.{Command}
use Rattle.dr_dimse.specs.declared.fault.DimseFault.{DimseFault}
use Rattle.dr_dimse.specs.Messages.{is_last, joined, IsOfKind, AreInner, body_of, IsMessage}
use Rattle.dr_dimse.specs.Taking.{MessageStage, Idle, InCommand, InData, LeavesStage, wants_command, text_so_far, kept, IsAwaited, InContext, InPlace, EndsCommand, TakesData, TakesValue, TakeCall, Took, given_by, given, Waits, GivesMessage}
use Rattle.dr_dimse.proofs.MessageLemmas.{leaves_more, message_ends, kept_is, fault_stays}

-- ---- what is given is the message

-- the command before a data set was awaited
abbrev pub IsKnown : Awaited → MessageStage → Type 0
IsKnown a (InData id c body) = IsAwaited a c
IsKnown a s = Unit {0}

data_known : (a : Awaited) (s : MessageStage) (p : Pdv) (new : MessageStage) → IsKnown a s → TakesData s p None new → IsKnown a new
data_known a Idle p new k takes = absurd takes
data_known a (InCommand id text) p new k takes = absurd takes
data_known a (InData id c body) p new k takes = subst (λ (u : MessageStage). IsKnown a u) (sym takes.1) k

known_more : (a : Awaited) (s : MessageStage) (p : Pdv) (new : MessageStage) → IsKnown a s → TakesValue a s p (Ok None) new → IsKnown a new
known_more a s p new k (inl h) = data_known a s p new k h.2
known_more a s p new k (inr (inl h)) = subst (λ (u : MessageStage). IsKnown a u) (sym h.3) tt
known_more a s p new k (inr (inr h)) = subst (λ (u : MessageStage). IsKnown a u) (sym h.5.1) h.4

data_known_ends : (a : Awaited) (s : MessageStage) (p : Pdv) (m : Message) (new : MessageStage) → IsKnown a s → TakesData s p (Some m) new → IsAwaited a m.command
data_known_ends a Idle p m new k takes = absurd takes
data_known_ends a (InCommand id text) p m new k takes = absurd takes
data_known_ends a (InData id c body) p m new k takes = subst (λ (d : Command). IsAwaited a d) (ap (λ (n : Message). n.command) (sym takes.1)) k

known_ends : (a : Awaited) (s : MessageStage) (p : Pdv) (m : Message) (new : MessageStage) → IsKnown a s → TakesValue a s p (Ok (Some m)) new → IsAwaited a m.command
known_ends a s p m new k (inl h) = data_known_ends a s p m new k h.2
known_ends a s p m new k (inr (inl h)) = let e = h.2 in absurd (cc)
known_ends a s p m new k (inr (inr h)) = subst (λ (d : Command). IsAwaited a d) (ap (λ (n : Message). n.command) (sym h.5.1)) h.4

data_idle : (s : MessageStage) (p : Pdv) (m : Message) (new : MessageStage) → TakesData s p (Some m) new → new ≡ Idle
data_idle Idle p m new takes = absurd takes
data_idle (InCommand id text) p m new takes = absurd takes
data_idle (InData id c body) p m new takes = takes.2

-- nothing is under way behind a message
idle_then : (a : Awaited) (s : MessageStage) (p : Pdv) (m : Message) (new : MessageStage) → TakesValue a s p (Ok (Some m)) new → new ≡ Idle
idle_then a s p m new (inl h) = data_idle s p m new h.2
idle_then a s p m new (inr (inl h)) = let e = h.2 in absurd (cc)
idle_then a s p m new (inr (inr h)) = h.5.2

pub waits_leave : (a : Awaited) (qs ps : List Pdv) (s new : MessageStage) → LeavesStage ps s → IsKnown a s → Waits a s qs new → LeavesStage (ps ++ qs) new × IsKnown a new
waits_leave a [] ps s new l k w = subst (λ (u : MessageStage). LeavesStage (ps ++ []) u × IsKnown a u) w (subst (λ (qs : List Pdv). LeavesStage qs s) (sym (append-nil ps)) l, k)
waits_leave a (q ∷ qs) ps s new l k w =
    let it = waits_leave a qs (ps ++ q ∷ []) w.0 new (leaves_more a ps s q w.0 l w.1) (known_more a s q w.0 k w.1) w.2 in
    (subst (λ (all : List Pdv). LeavesStage all new) (append_assoc ps (q ∷ []) qs) it.0, it.1)

pub given_is : (a : Awaited) (ps : List Pdv) (m : Message) → GivesMessage a ps m → IsMessage ps m × IsAwaited a m.command
given_is a ps m (front, final, mid, split, waits, takes) =
    let w = waits_leave a front [] Idle mid refl tt waits in
    let e = message_ends a front mid final m Idle w.0 takes in
    (subst (λ (qs : List Pdv). IsMessage qs m) (sym split) e.0, known_ends a mid final m Idle w.1 takes)

-- ---- the message is given

waits_append : (a : Awaited) (xs ys : List Pdv) (s mid new : MessageStage) → Waits a s xs mid → Waits a mid ys new → Waits a s (xs ++ ys) new
waits_append a [] ys s mid new w v = subst (λ (u : MessageStage). Waits a u ys new) (sym w) v
waits_append a (x ∷ xs) ys s mid new w v = (w.0, w.1, waits_append a xs ys w.0 mid new w.2 v)

-- the stage takes fragments of a command in this context
record IsReady (id : ℕ) (s : MessageStage) (text : List ℕ) : Type 0 where
  inside : (p : Pdv) → p.id ≡ id → InContext s p
  wants : wants_command s ≡ true
  so_far : text_so_far s ≡ text

command_ready : (id : ℕ) (text : List ℕ) → IsReady id (InCommand id text) text
command_ready id text = record { inside = λ p same. same; wants = refl; so_far = refl }

short_front : (x y z : List ℕ) → length (x ++ (y ++ z)) ≤ 16384 → length (x ++ y) ≤ 16384
short_front x y z h = omega (arith, h, length-append x (y ++ z), length-append y z, length-append x y)

command_waits : (a : Awaited) (id : ℕ) (front : List Pdv) (s : MessageStage) (text more : List ℕ) → IsReady id s text → AreInner true id front → length (text ++ (joined front ++ more)) ≤ 16384
    → (mid : MessageStage) × Waits a s front mid × IsReady id mid (text ++ joined front)
command_waits a id [] s text more r inner short = (s, refl, record { inside = r.inside; wants = r.wants; so_far = r.so_far ∙ sym (append-nil text) })
command_waits a id (p ∷ ps) s text more r (here, inner) short =
    let place : InPlace s p = (r.inside p here.0.0, here.0.1 ∙ sym r.wants) in
    let all : text ++ ((p.fragment ++ joined ps) ++ more) ≡ (text ++ p.fragment) ++ (joined ps ++ more) =
    ap (λ (t : List ℕ). text ++ t) (append_assoc p.fragment (joined ps) more) ∙ sym (append_assoc text p.fragment (joined ps ++ more)) in
    let short' : length ((text ++ p.fragment) ++ (joined ps ++ more)) ≤ 16384 = subst (λ (t : List ℕ). length t ≤ 16384) all short in
    let little : length (text ++ p.fragment) ≤ 16384 = omega (arith, short', length-append (text ++ p.fragment) (joined ps ++ more)) in
    let little' : length (text_so_far s ++ p.fragment) ≤ 16384 = subst (λ (t : List ℕ). length (t ++ p.fragment) ≤ 16384) (sym r.so_far) little in
    let step : TakesValue a s p (Ok None) (InCommand id (text ++ p.fragment)) = inr (inl (
      (place, r.wants, little'),
      here.1,
      refl,
      ap (λ (i : ℕ). InCommand i (text ++ p.fragment)) (sym here.0.0) ∙ ap (λ (t : List ℕ). InCommand p.id (t ++ p.fragment)) (sym r.so_far),
    )) in
    let on = command_waits a id ps (InCommand id (text ++ p.fragment)) (text ++ p.fragment) more (command_ready id (text ++ p.fragment)) inner short' in
    (on.0, (InCommand id (text ++ p.fragment), step, on.1), subst (λ (t : List ℕ). IsReady id on.0 t) (append_assoc text p.fragment (joined ps)) on.2)

joined_end : (ps : List Pdv) (p : Pdv) → joined (ps ++ p ∷ []) ≡ joined ps ++ p.fragment
joined_end [] p = append-nil p.fragment
joined_end (q ∷ qs) p = ap (λ (t : List ℕ). q.fragment ++ t) (joined_end qs p) ∙ sym (append_assoc q.fragment (joined qs) p.fragment)

data_waits : (a : Awaited) (id : ℕ) (c : Command) (front : List Pdv) (text : List ℕ) → AreInner false id front → Waits a (InData id c (body_of text)) front (InData id c (body_of (text ++ joined front)))
data_waits a id c [] text inner = ap (λ (t : List ℕ). InData id c (body_of t)) (sym (append-nil text))
data_waits a id c (p ∷ ps) text (here, inner) =
    let on = data_waits a id c ps (text ++ p.fragment) inner in
    let step : TakesValue a (InData id c (body_of text)) p (Ok None) (InData id c (body_of (text ++ p.fragment))) =
    inl ((here.0.0, here.0.1), refl, (here.1, ap (λ (b : Body). InData id c b) (sym (kept_is text p.fragment)))) in
    (InData id c (body_of (text ++ p.fragment)), step, subst (λ (t : List ℕ). Waits a (InData id c (body_of (text ++ p.fragment))) ps (InData id c (body_of t))) (append_assoc text p.fragment (joined ps)) on)

-- the command up to its last value
record AtEnd (a : Awaited) (id : ℕ) (front : List Pdv) (final : Pdv) (text : List ℕ) : Type 0 where
  mid : MessageStage
  waits : Waits a Idle front mid
  ends : EndsCommand mid final text

at_end : (a : Awaited) (id : ℕ) (front : List Pdv) (final : Pdv) (text : List ℕ) → AreInner true id front → IsOfKind true id final → is_last final ≡ true → text ≡ joined (front ++ final ∷ []) → length text ≤ 16384 → AtEnd a id front final text
at_end a id front final text inner kind last is short =
    let whole : text ≡ joined front ++ final.fragment = is ∙ joined_end front final in
    let start : IsReady id Idle [] = record { inside = λ p same. tt; wants = refl; so_far = refl } in
    let w = command_waits a id front Idle [] final.fragment start inner (subst (λ (t : List ℕ). length t ≤ 16384) whole short) in
    let r = w.2 in
    let here : text ≡ text_so_far w.0 ++ final.fragment = whole ∙ ap (λ (t : List ℕ). t ++ final.fragment) (sym r.so_far) in
    record {
      mid = w.0;
      waits = w.1;
      ends = (((r.inside final kind.0, kind.1 ∙ sym r.wants), r.wants, subst (λ (t : List ℕ). length t ≤ 16384) here short), last, here);
    }

abbrev a_message : ℕ → Command → Option Body → Message
a_message id c body = record { id = id; command = c; body = body }

same_message : (m : Message) (body : Option Body) → m.body ≡ body → m ≡ a_message m.id m.command body
same_message m body e = ap (λ (b : Option Body). a_message m.id m.command b) e

pub is_given : (a : Awaited) (ps : List Pdv) (m : Message) → IsMessage ps m → IsAwaited a m.command → GivesMessage a ps m
is_given a ps m (cs, ds, text, split, (front, final, parts, inner, kind, last, is), short, command, inl (follows, none, body)) awaited =
    let e = at_end a m.id front final text inner kind last (is ∙ ap joined parts) short in
    let all : ps ≡ front ++ final ∷ [] = split ∙ ap (λ (x : List Pdv). cs ++ x) none ∙ append-nil cs ∙ parts in
    let made : m ≡ a_message final.id m.command None = same_message m None body ∙ ap (λ (i : ℕ). a_message i m.command None) (sym kind.0) in
    (front, final, e.mid, all, e.waits, inr (inr (text, m.command, e.ends, command, awaited, (follows, made, refl))))
is_given a ps m (cs, ds, text, split, (front, final, parts, inner, kind, last, is), short, command, inr (follows, (body, (front', final', parts', inner', kind', last', is'), has))) awaited =
    let e = at_end a m.id front final text inner kind last (is ∙ ap joined parts) short in
    let begun : TakesValue a e.mid final (Ok None) (InData m.id m.command (body_of [])) =
    inr (inr (text, m.command, e.ends, command, awaited, (follows, ap (λ (i : ℕ). InData i m.command (Whole [])) (sym kind.0)))) in
    let then : Waits a Idle (front ++ final ∷ []) (InData m.id m.command (body_of [])) =
    waits_append a front (final ∷ []) Idle e.mid (InData m.id m.command (body_of [])) e.waits (InData m.id m.command (body_of []), begun, refl) in
    let on = data_waits a m.id m.command front' [] inner' in
    let whole : body ≡ joined front' ++ final'.fragment = is' ∙ ap joined parts' ∙ joined_end front' final' in
    let kept' : Some (body_of body) ≡ Some (kept (body_of (joined front')) final'.fragment) = ap (λ (t : List ℕ). Some (body_of t)) whole ∙ ap Some (sym (kept_is (joined front') final'.fragment)) in
    let all : ps ≡ ((front ++ final ∷ []) ++ front') ++ final' ∷ [] =
    split ∙ ap (λ (x : List Pdv). x ++ ds) parts ∙ ap (λ (x : List Pdv). (front ++ final ∷ []) ++ x) parts' ∙ sym (append_assoc (front ++ final ∷ []) front' (final' ∷ [])) in (
      (front ++ final ∷ []) ++ front',
      final',
      InData m.id m.command (body_of (joined front')),
      all,
      waits_append a (front ++ final ∷ []) front' Idle (InData m.id m.command (body_of [])) (InData m.id m.command (body_of (joined front'))) then on,
      inl ((kind'.0, kind'.1), refl, (last', same_message m (Some (kept (body_of (joined front')) final'.fragment)) (has ∙ kept'), refl)),
    )

-- ---- what is given was awaited

known_on : (a : Awaited) (p : Pdv) (r : Result (Option Message) DimseFault) (ms : List Message) (s mid : MessageStage) → IsKnown a s → TakesValue a s p r mid → (IsKnown a mid → AllByRecursion (λ (m : Message). IsAwaited a m.command) ms)
    → AllByRecursion (λ (m : Message). IsAwaited a m.command) (given_by r ++ ms)
known_on a p (Err f) ms s mid k t on = on (subst (λ (u : MessageStage). IsKnown a u) (sym (fault_stays a s p f mid t)) k)
known_on a p (Ok None) ms s mid k t on = on (known_more a s p mid k t)
known_on a p (Ok (Some m)) ms s mid k t on = (known_ends a s p m mid k t, on (subst (λ (u : MessageStage). IsKnown a u) (sym (idle_then a s p m mid t)) tt))

pub given_awaited : (a : Awaited) (calls : List TakeCall) (s new : MessageStage) → IsKnown a s → AllByRecursion (λ (x : TakeCall). x.awaited ≡ a) calls → Took s calls new → AllByRecursion (λ (m : Message). IsAwaited a m.command) (given calls)
given_awaited a [] s new k all t = tt
given_awaited a (x ∷ xs) s new k all t =
    known_on a x.value x.answer (given xs) s t.0 k (subst (λ (b : Awaited). TakesValue b s x.value x.answer t.0) all.0 t.1) (λ known. given_awaited a xs t.0 new known all.1 t.2)
