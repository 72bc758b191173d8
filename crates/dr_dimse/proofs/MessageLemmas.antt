-- One value after the other makes the messages of the list of values.
use Rattle.std.proofs.Common.{◌≡◌, ◌≢◌, ℕ, ◌≤◌, Bool, true, false, cond, ltb, List, [], ◌∷◌, ◌++◌, length, Option, Some, None, Result, Ok, Err, refl, sym, ap, subst, ◌∙◌, arith, inl, inr, append_assoc}
use Rattle.std.proofs.lemmas.List.{append-nil, length-append}
use Rattle.std.proofs.lemmas.Bool.{lt-ltb, ltb-true}
use Rattle.dr_pdu.specs.declared.pdu.Pdv.{Pdv}
use Rattle.dr_dimse.specs.declared.message.Body.{Body}
use Rattle.dr_dimse.specs.declared.message.Body.TheVariants.{Whole, TooLarge}
use Rattle.dr_dimse.specs.declared.message.Message.{Message}
use Rattle.dr_dimse.specs.declared.message.Awaited.{Awaited}
use Rattle.dr_dimse.specs.declared.fault.DimseFault.{DimseFault}
use Rattle.dr_dimse.specs.declared.fault.DimseFault.TheVariants.{OutOfPlace, MixedContext, BadCommand, TooLong, Memory}
use Rattle.dr_dimse.specs.Messages.{is_last, joined, IsOfKind, AreInner, IsWhole, body_of, IsMessage, AreMessages}
use Rattle.dr_dimse.specs.Taking.{MessageStage, Idle, InCommand, InData, LeavesStage, wants_command, text_so_far, kept, InContext, InPlace, IsShortEnough, EndsCommand, TakesData, TakesValue, TakeCall, Took, taken_by, given_by, taken, given}

-- ---- lists of values

inner_more : (kind : Bool) (id : ℕ) (ps : List Pdv) (p : Pdv) → AreInner kind id ps → IsOfKind kind id p → is_last p ≡ false → AreInner kind id (ps ++ p ∷ [])
inner_more kind id [] p h k last = ((k, last), tt)
inner_more kind id (q ∷ qs) p h k last = (h.0, inner_more kind id qs p h.1 k last)

joined_more : (ps : List Pdv) (p : Pdv) → joined (ps ++ p ∷ []) ≡ joined ps ++ p.fragment
joined_more [] p = append-nil p.fragment
joined_more (q ∷ qs) p = ap (λ (t : List ℕ). q.fragment ++ t) (joined_more qs p) ∙ sym (append_assoc q.fragment (joined qs) p.fragment)

some_more : (ps : List Pdv) (p : Pdv) → ps ++ p ∷ [] ≢ []
some_more [] p = λ e. absurd (cc)
some_more (q ∷ qs) p = λ e. absurd (cc)

pub kept_is : (t more : List ℕ) → kept (body_of t) more ≡ body_of (t ++ more)
kept_is t more = by_test (ltb 67108864 (length t)) refl
  where
    by_test : (b : Bool) → ltb 67108864 (length t) ≡ b → kept (cond b TooLarge (Whole t)) more ≡ body_of (t ++ more)
    by_test true e =
        let longer : ltb 67108864 (length (t ++ more)) ≡ true = lt-ltb 67108864 (length (t ++ more)) (omega (arith, ltb-true 67108864 (length t) e, length-append t more)) in
        rw longer refl
    by_test false e = refl

-- ---- what is under way is the values since the last message

record Front (ps : List Pdv) (s : MessageStage) (p : Pdv) : Type 0 where
  inner : AreInner true p.id ps
  text : text_so_far s ≡ joined ps

front_of : (ps : List Pdv) (s : MessageStage) (p : Pdv) → LeavesStage ps s → wants_command s ≡ true → InContext s p → Front ps s p
front_of ps Idle p l wants inside = record {
  inner = subst (λ (qs : List Pdv). AreInner true p.id qs) (sym l) tt;
  text = ap joined (sym l);
}
front_of ps (InCommand id text) p l wants inside = record {
  inner = subst (λ (i : ℕ). AreInner true i ps) (sym inside) l.1;
  text = l.2;
}
front_of ps (InData id c body) p l wants inside = absurd (cc)

command_goes_on : (ps : List Pdv) (s : MessageStage) (p : Pdv) → LeavesStage ps s → IsShortEnough s p → is_last p ≡ false → LeavesStage (ps ++ p ∷ []) (InCommand p.id (text_so_far s ++ p.fragment))
command_goes_on ps s p l (place, wants, short) last =
    let f = front_of ps s p l wants place.0 in
    (some_more ps p, inner_more true p.id ps p f.inner (refl, place.1 ∙ wants) last, ap (λ (t : List ℕ). t ++ p.fragment) f.text ∙ sym (joined_more ps p), short)

command_ends : (ps : List Pdv) (s : MessageStage) (p : Pdv) (text : List ℕ) → LeavesStage ps s → EndsCommand s p text → IsWhole true p.id (ps ++ p ∷ []) text × (length text ≤ 16384)
command_ends ps s p text l ((place, wants, short), last, is) =
    let f = front_of ps s p l wants place.0 in (
      (ps, p, refl, f.inner, (refl, place.1 ∙ wants), last, is ∙ ap (λ (t : List ℕ). t ++ p.fragment) f.text ∙ sym (joined_more ps p)),
      subst (λ (t : List ℕ). length t ≤ 16384) (sym is) short,
    )

-- a fragment of a data set
data_goes_on : (ps : List Pdv) (s : MessageStage) (p : Pdv) (new : MessageStage) → LeavesStage ps s → InPlace s p → TakesData s p None new → LeavesStage (ps ++ p ∷ []) new
data_goes_on ps Idle p new l place takes = absurd takes
data_goes_on ps (InCommand id text) p new l place takes = absurd takes
data_goes_on ps (InData id c body) p new (cs, ds, text, split, whole, short, is, follows, inner, so_far) place (last, then) =
    let all : ps ++ p ∷ [] ≡ cs ++ (ds ++ p ∷ []) = ap (λ (qs : List Pdv). qs ++ p ∷ []) split ∙ append_assoc cs ds (p ∷ []) in
    let more : kept body p.fragment ≡ body_of (joined (ds ++ p ∷ [])) =
    ap (λ (b : Body). kept b p.fragment) so_far ∙ kept_is (joined ds) p.fragment ∙ ap body_of (sym (joined_more ds p)) in
    subst (λ (u : MessageStage). LeavesStage (ps ++ p ∷ []) u) (sym then)
    (cs, ds ++ p ∷ [], text, all, whole, short, is, follows, inner_more false id ds p inner (place.0, place.1) last, more)

data_ends : (ps : List Pdv) (s : MessageStage) (p : Pdv) (m : Message) (new : MessageStage) → LeavesStage ps s → InPlace s p → TakesData s p (Some m) new → IsMessage (ps ++ p ∷ []) m × (new ≡ Idle)
data_ends ps Idle p m new l place takes = absurd takes
data_ends ps (InCommand id text) p m new l place takes = absurd takes
data_ends ps (InData id c body) p m new (cs, ds, text, split, whole, short, is, follows, inner, so_far) place (last, made, then) =
    let all : ps ++ p ∷ [] ≡ cs ++ (ds ++ p ∷ []) = ap (λ (qs : List Pdv). qs ++ p ∷ []) split ∙ append_assoc cs ds (p ∷ []) in
    let more : kept body p.fragment ≡ body_of (joined (ds ++ p ∷ [])) =
    ap (λ (b : Body). kept b p.fragment) so_far ∙ kept_is (joined ds) p.fragment ∙ ap body_of (sym (joined_more ds p)) in
    let it : IsMessage (ps ++ p ∷ []) (record { id = id; command = c; body = Some (kept body p.fragment) }) =
    (cs, ds ++ p ∷ [], text, all, whole, short, is, inr (follows, (joined (ds ++ p ∷ []), (ds, p, refl, inner, (place.0, place.1), last, refl), ap Some more))) in
    (subst (λ (n : Message). IsMessage (ps ++ p ∷ []) n) (sym made) it, then)

-- a value that ends no message
pub leaves_more : (a : Awaited) (ps : List Pdv) (s : MessageStage) (p : Pdv) (new : MessageStage) → LeavesStage ps s → TakesValue a s p (Ok None) new → LeavesStage (ps ++ p ∷ []) new
leaves_more a ps s p new l (inl (place, wants, takes)) = data_goes_on ps s p new l place takes
leaves_more a ps s p new l (inr (inl (short, last, none, is))) = subst (λ (u : MessageStage). LeavesStage (ps ++ p ∷ []) u) (sym is) (command_goes_on ps s p l short last)
leaves_more a ps s p new l (inr (inr (text, c, ends, is, awaited, (follows, then)))) =
    let e = command_ends ps s p text l ends in
    subst (λ (u : MessageStage). LeavesStage (ps ++ p ∷ []) u) (sym then)
    (ps ++ p ∷ [], [], text, sym (append-nil (ps ++ p ∷ [])), e.0, e.1, is, follows, tt, refl)

-- a value that ends one
pub message_ends : (a : Awaited) (ps : List Pdv) (s : MessageStage) (p : Pdv) (m : Message) (new : MessageStage) → LeavesStage ps s → TakesValue a s p (Ok (Some m)) new → IsMessage (ps ++ p ∷ []) m × (new ≡ Idle)
message_ends a ps s p m new l (inl (place, wants, takes)) = data_ends ps s p m new l place takes
message_ends a ps s p m new l (inr (inl (short, last, none, is))) = absurd (cc)
message_ends a ps s p m new l (inr (inr (text, c, ends, is, awaited, (follows, made, then)))) =
    let e = command_ends ps s p text l ends in
    let it : IsMessage (ps ++ p ∷ []) (record { id = p.id; command = c; body = None }) =
    (ps ++ p ∷ [], [], text, sym (append-nil (ps ++ p ∷ [])), e.0, e.1, is, inl (follows, refl, refl)) in
    (subst (λ (n : Message). IsMessage (ps ++ p ∷ []) n) (sym made) it, then)

-- a fault leaves the stage
pub fault_stays : (a : Awaited) (s : MessageStage) (p : Pdv) (f : DimseFault) (new : MessageStage) → TakesValue a s p (Err f) new → new ≡ s
fault_stays a s p MixedContext new h = h.0
fault_stays a s p OutOfPlace new h = h.0
fault_stays a s p TooLong new h = h.0
fault_stays a s p BadCommand new h = h.0
fault_stays a s p Memory new h = h

-- ---- many calls

abbrev Told : List Pdv → List Message → MessageStage → Type 0
Told ps ms new = (rest : List Pdv) × AreMessages ps ms rest × LeavesStage rest new

told_one : (a : Awaited) (p : Pdv) (r : Result (Option Message) DimseFault) (ps qs : List Pdv) (ms : List Message) (s mid new : MessageStage) → LeavesStage ps s → TakesValue a s p r mid
    → ((before : List Pdv) → LeavesStage before mid → Told (before ++ qs) ms new) → Told (ps ++ (taken_by p r ++ qs)) (given_by r ++ ms) new
told_one a p (Err f) ps qs ms s mid new l t on = on ps (subst (λ (u : MessageStage). LeavesStage ps u) (sym (fault_stays a s p f mid t)) l)
told_one a p (Ok None) ps qs ms s mid new l t on =
    subst (λ (all : List Pdv). Told all ms new) (append_assoc ps (p ∷ []) qs) (on (ps ++ p ∷ []) (leaves_more a ps s p mid l t))
told_one a p (Ok (Some m)) ps qs ms s mid new l t on =
    let e = message_ends a ps s p m mid l t in
    let it = on [] (subst (λ (u : MessageStage). LeavesStage [] u) (sym e.1) refl) in
    (it.0, (ps ++ p ∷ [], qs, sym (append_assoc ps (p ∷ []) qs), e.0, it.1), it.2)

pub told : (calls : List TakeCall) (ps : List Pdv) (s new : MessageStage) → LeavesStage ps s → Took s calls new → Told (ps ++ taken calls) (given calls) new
told [] ps s new l t = (ps, append-nil ps, subst (λ (u : MessageStage). LeavesStage ps u) t l)
told (x ∷ xs) ps s new l t = told_one x.awaited x.value x.answer ps (taken xs) (given xs) s t.0 new l t.1 (λ before here. told xs before t.0 new here t.2)
