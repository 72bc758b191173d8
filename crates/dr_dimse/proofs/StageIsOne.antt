-- The values since the last message leave one stage, and a message comes value by value.
use Rattle.std.proofs.Common.{◌≡◌, ◌≢◌, ℕ, true, false, List, [], ◌∷◌, ◌++◌, Some, None, Ok, get_or, drop, refl, sym, ap, subst, ◌∙◌, append_assoc}
use Rattle.dr_pdu.specs.declared.pdu.Pdv.{Pdv}
use Rattle.dr_dimse.specs.declared.command.Command.{Command}
use Rattle.dr_dimse.specs.declared.message.Awaited.{Awaited}
use Rattle.dr_dimse.specs.declared.message.Body.{Body}
use Rattle.dr_dimse.specs.declared.message.Message.{Message}
use Rattle.dr_dimse.specs.Commands.{IsCommand}
use Rattle.dr_dimse.specs.Messages.{is_last, joined, AreInner, body_of, IsMessage}
use Rattle.dr_dimse.specs.Taking.{MessageStage, Idle, InCommand, InData, LeavesStage, IsAwaited, TakesValue, Waits, ended_by, since}
use Rattle.dr_dimse.proofs.OneCommand.{one_command}
use Rattle.dr_dimse.proofs.MessageLemmas.{leaves_more}
use Rattle.dr_dimse.proofs.GivenLemmas.{is_given, waits_leave}

heads : (p q : Pdv) (ps qs : List Pdv) → p ∷ ps ≡ q ∷ qs → p ≡ q
heads p q ps qs e = ap (λ (xs : List Pdv). get_or xs 0 p) e

tails : (p q : Pdv) (ps qs : List Pdv) → p ∷ ps ≡ q ∷ qs → ps ≡ qs
tails p q ps qs e = ap (λ (xs : List Pdv). drop 1 xs) e

last_clash : (p q : Pdv) → p ≡ q → is_last p ≡ true → is_last q ≡ false → ⊥
last_clash p q e l n = let t : true ≡ false = sym l ∙ ap is_last e ∙ n in absurd (cc)

-- ---- a list of values is split at its first last fragment

record Split (front front' : List Pdv) (final final' : Pdv) (more more' : List Pdv) : Type 0 where
  fronts : front ≡ front'
  finals : final ≡ final'
  mores : more ≡ more'

same_split : (i j : ℕ) (front front' : List Pdv) (final final' : Pdv) (more more' : List Pdv) → AreInner true i front → AreInner true j front' → is_last final ≡ true → is_last final' ≡ true
    → front ++ final ∷ more ≡ front' ++ final' ∷ more' → Split front front' final final' more more'
same_split i j [] [] f g x y a b l m e = record { fronts = refl; finals = heads f g x y e; mores = tails f g x y e }
same_split i j [] (q ∷ qs) f g x y a b l m e = absurd (last_clash f q (heads f q x (qs ++ g ∷ y) e) l b.0.1)
same_split i j (p ∷ ps) [] f g x y a b l m e = absurd (last_clash g p (sym (heads p g (ps ++ f ∷ x) y e)) m a.0.1)
same_split i j (p ∷ ps) (q ∷ qs) f g x y a b l m e =
    let on = same_split i j ps qs f g x y a.1 b.1 l m (tails p q (ps ++ f ∷ x) (qs ++ g ∷ y) e) in
    record {
      fronts = ap (λ (r : Pdv). r ∷ ps) (heads p q (ps ++ f ∷ x) (qs ++ g ∷ y) e) ∙ ap (λ (rs : List Pdv). q ∷ rs) on.fronts;
      finals = on.finals;
      mores = on.mores;
    }

-- values of which none is a last fragment have none in them
no_last : (i : ℕ) (front : List Pdv) (final : Pdv) (more : List Pdv) → AreInner true i (front ++ final ∷ more) → is_last final ≡ true → ⊥
no_last i [] f more a l = last_clash f f refl l a.0.1
no_last i (p ∷ ps) f more a l = no_last i ps f more a.1 l

none_there : (front : List Pdv) (final : Pdv) (more : List Pdv) → front ++ final ∷ more ≡ [] → ⊥
none_there [] f more e = absurd (cc)
none_there (p ∷ ps) f more e = absurd (cc)

-- a command's values and those of the data set behind it, as one list that is split
joined_up : (ps cs ds front : List Pdv) (final : Pdv) → ps ≡ cs ++ ds → cs ≡ front ++ final ∷ [] → ps ≡ front ++ final ∷ ds
joined_up ps cs ds front final e f = e ∙ ap (λ (xs : List Pdv). xs ++ ds) f ∙ append_assoc front (final ∷ []) ds

-- ---- one stage

same_context : (i j : ℕ) (ps : List Pdv) → ps ≢ [] → AreInner true i ps → AreInner true j ps → i ≡ j
same_context i j [] some a b = absurd (some refl)
same_context i j (p ∷ ps) some a b = sym a.0.0.0 ∙ b.0.0.0

same_data : (i j : ℕ) (c d : Command) (a b : Body) → i ≡ j → c ≡ d → a ≡ b → InData i c a ≡ InData j d b
same_data i j c d a b p q r = ap (λ (x : ℕ). InData x c a) p ∙ ap (λ (x : Command). InData j x a) q ∙ ap (λ (x : Body). InData j d x) r

pub stage_is_one : (ps : List Pdv) (s t : MessageStage) → LeavesStage ps s → LeavesStage ps t → s ≡ t
stage_is_one ps Idle Idle h k = refl
stage_is_one ps Idle (InCommand i x) h k = absurd (k.0 h)
stage_is_one ps Idle (InData i c b) h (cs, ds, x, split, (front, final, is, inner, kind, last, text), short, command, follows, data_inner, body) = absurd (none_there front final ds (sym (joined_up ps cs ds front final split is) ∙ h))
stage_is_one ps (InCommand i x) Idle h k = absurd (h.0 k)
stage_is_one ps (InCommand i x) (InCommand j y) h k =
    ap (λ (n : ℕ). InCommand n x) (same_context i j ps h.0 h.1 k.1) ∙ ap (λ (t : List ℕ). InCommand j t) (h.2 ∙ sym k.2)
stage_is_one ps (InCommand i x) (InData j c b) h (cs, ds, y, split, (front, final, is, inner, kind, last, text), short, command, follows, data_inner, body) =
    absurd (no_last i front final ds (subst (λ (qs : List Pdv). AreInner true i qs) (joined_up ps cs ds front final split is) h.1) last)
stage_is_one ps (InData j c b) Idle (cs, ds, x, split, (front, final, is, inner, kind, last, text), short, command, follows, data_inner, body) k = absurd (none_there front final ds (sym (joined_up ps cs ds front final split is) ∙ k))
stage_is_one ps (InData j c b) (InCommand i x) (cs, ds, y, split, (front, final, is, inner, kind, last, text), short, command, follows, data_inner, body) k =
    absurd (no_last i front final ds (subst (λ (qs : List Pdv). AreInner true i qs) (joined_up ps cs ds front final split is) k.1) last)
stage_is_one ps (InData i c a) (InData j d b) (cs, ds, x, split, (front, final, is, inner, kind, last, text), short, command, follows, data_inner, body) (cs', ds', y, split', (front', final', is', inner', kind', last', text'), short', command', follows', data_inner', body') =
    let s = same_split i j front front' final final' ds ds' inner inner' last last' (sym (joined_up ps cs ds front final split is) ∙ joined_up ps cs' ds' front' final' split' is') in
    let commands : cs ≡ cs' = is ∙ ap (λ (xs : List Pdv). xs ++ final ∷ []) s.fronts ∙ ap (λ (p : Pdv). front' ++ p ∷ []) s.finals ∙ sym is' in
    let texts : x ≡ y = text ∙ ap joined commands ∙ sym text' in
    let contexts : i ≡ j = sym kind.0 ∙ ap (λ (p : Pdv). p.id) s.finals ∙ kind'.0 in
    same_data i j c d a b contexts (one_command y c d (subst (λ (t : List ℕ). IsCommand t c) texts command) command') (body ∙ ap (λ (qs : List Pdv). body_of (joined qs)) s.mores ∙ sym body')

-- ---- value by value

-- the last of two lists
ends : (xs ys : List Pdv) (p q : Pdv) → xs ++ p ∷ [] ≡ ys ++ q ∷ [] → (xs ≡ ys) × (p ≡ q)
ends [] [] p q e = (refl, heads p q [] [] e)
ends [] (y ∷ []) p q e = let t = tails p y [] (q ∷ []) e in absurd (cc)
ends [] (y ∷ z ∷ ys) p q e = let t = tails p y [] (z ∷ ys ++ q ∷ []) e in absurd (cc)
ends (x ∷ []) [] p q e = let t = tails x q (p ∷ []) [] e in absurd (cc)
ends (x ∷ z ∷ xs) [] p q e = let t = tails x q (z ∷ xs ++ p ∷ []) [] e in absurd (cc)
ends (x ∷ xs) (y ∷ ys) p q e =
    let on = ends xs ys p q (tails x y (xs ++ p ∷ []) (ys ++ q ∷ []) e) in
    (ap (λ (r : Pdv). r ∷ xs) (heads x y (xs ++ p ∷ []) (ys ++ q ∷ []) e) ∙ ap (λ (rs : List Pdv). y ∷ rs) on.0, on.1)

-- a list that isn't empty, up to its last
unsnoc : (p : Pdv) (later : List Pdv) → (front : List Pdv) × (final : Pdv) × (p ∷ later ≡ front ++ final ∷ [])
unsnoc p [] = ([], p, refl)
unsnoc p (q ∷ qs) = let u = unsnoc q qs in (p ∷ u.0, u.1, ap (λ (rs : List Pdv). p ∷ rs) u.2)

waits_split : (a : Awaited) (xs ys : List Pdv) (s new : MessageStage) → Waits a s (xs ++ ys) new → (mid : MessageStage) × Waits a s xs mid × Waits a mid ys new
waits_split a [] ys s new w = (s, refl, w)
waits_split a (x ∷ xs) ys s new w = let on = waits_split a xs ys w.0 new w.2 in (on.0, (w.0, w.1, on.1), on.2)

abbrev GoesOn : Awaited → List Pdv → Pdv → List Pdv → Message → MessageStage → Type 0
GoesOn a before p later m s = (new : MessageStage) × TakesValue a s p (Ok (ended_by later m)) new × LeavesStage (since (before ++ p ∷ []) later) new

-- what leads to the values so far leads to the stage that they leave
reached : (a : Awaited) (before : List Pdv) (s mid : MessageStage) → LeavesStage before s → Waits a Idle before mid → mid ≡ s
reached a before s mid l w = stage_is_one before mid s (waits_leave a before [] Idle mid refl tt w).0 l

pub goes_on_by : (a : Awaited) (before : List Pdv) (p : Pdv) (later : List Pdv) (m : Message) (s : MessageStage) → LeavesStage before s → IsMessage (before ++ p ∷ later) m → IsAwaited a m.command → GoesOn a before p later m s
goes_on_by a before p [] m s l is awaited =
    let (front, final, mid, split, waits, takes) = is_given a (before ++ p ∷ []) m is awaited in
    let e = ends before front p final split in
    let here : mid ≡ s = reached a before s mid l (subst (λ (xs : List Pdv). Waits a Idle xs mid) (sym e.0) waits) in
    (Idle, subst (λ (u : MessageStage). TakesValue a u p (Ok (Some m)) Idle) here (subst (λ (q : Pdv). TakesValue a mid q (Ok (Some m)) Idle) (sym e.1) takes), refl)
goes_on_by a before p (q ∷ qs) m s l is awaited =
    let (front, final, mid, split, waits, takes) = is_given a (before ++ p ∷ q ∷ qs) m is awaited in
    let u = unsnoc q qs in
    let all : (before ++ p ∷ u.0) ++ u.1 ∷ [] ≡ front ++ final ∷ [] =
    append_assoc before (p ∷ u.0) (u.1 ∷ []) ∙ ap (λ (rs : List Pdv). before ++ p ∷ rs) (sym u.2) ∙ split in
    let e = ends (before ++ p ∷ u.0) front u.1 final all in
    let w = waits_split a before (p ∷ u.0) Idle mid (subst (λ (xs : List Pdv). Waits a Idle xs mid) (sym e.0) waits) in
    let step : TakesValue a s p (Ok None) w.2.0 = subst (λ (t : MessageStage). TakesValue a t p (Ok None) w.2.0) (reached a before s w.0 l w.1) w.2.1 in
    (w.2.0, step, leaves_more a before s p w.2.0 l step)
