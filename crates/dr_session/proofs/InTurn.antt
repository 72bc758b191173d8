-- What an end does over inputs, one after the other.
use Rattle.std.proofs.Common.{◌≡◌, ℕ, Bool, true, false, List, [], ◌∷◌, ◌++◌, ◌≤◌, map, length, Result, Ok, Err, refl, sym, ap, subst, ◌∙◌, inl, inr, append_assoc, arith}
use Rattle.std.specs.Prelude.{OnErr}
use Rattle.std.proofs.lemmas.List.{append-nil, map-append}
use Rattle.dr_session.specs.declared.ends.Input.{Input}
use Rattle.dr_session.specs.declared.ends.LinkAction.{LinkAction}
use Rattle.dr_session.specs.declared.ends.Core.{Core}
use Rattle.dr_session.specs.declared.ends.Effect.{Effect}
use Rattle.dr_session.specs.Desks.{DeskCall, DeskAnswer}
use Rattle.std.specs.Prelude.{◌==◌}
use Rattle.std.proofs.lemmas.Bool.{false≢true, eqb-true}
use Rattle.dr_pdu.specs.declared.pdu.Pdv.{Pdv}
use Rattle.dr_session.specs.declared.ends.Input.TheVariants.{Value, NoValue}
use Rattle.dr_session.specs.Plays.{At, AreSeveral, Reacts, Stops, Plays, BreaksOff, values_of}

-- several are several behind others
several_after : (w v : List LinkAction) → AreSeveral v → AreSeveral (w ++ v)
several_after [] v h = h
several_after (x ∷ w) v h = (let l : AreSeveral (w ++ v) = several_after w v h in omega (arith, l))

-- one of two lists is empty
pub nothing_before : (w v : List LinkAction) → (length w == 0) ≡ true → v ≡ w ++ v
nothing_before [] v e = refl
nothing_before (x ∷ w) v e = absurd (let l : length (x ∷ w) ≡ 0 = eqb-true (length (x ∷ w)) 0 e in omega (arith, l))

pub nothing_behind : (w v : List LinkAction) → (length v == 0) ≡ true → w ≡ w ++ v
nothing_behind w [] e = sym (append-nil w)
nothing_behind w (x ∷ v) e = absurd (let l : length (x ∷ v) ≡ 0 = eqb-true (length (x ∷ v)) 0 e in omega (arith, l))

-- two lists with something in each, one behind the other
pub both_several : (w v : List LinkAction) → (length w == 0) ≡ false → (length v == 0) ≡ false → AreSeveral (w ++ v)
both_several [] v a b = absurd (false≢true (sym a))
both_several (x ∷ w) [] a b = absurd (false≢true (sym b))
both_several (x ∷ []) (y ∷ v) a b = omega arith
both_several (x ∷ z ∷ w) (y ∷ v) a b = omega arith

module _ {S : Type 0} (step : S → DeskCall → DeskAnswer → S → Type 0) where
  pub plays_one : (c : Core) (i : At) (s t : S) (x : Effect) → Reacts step c i s x t → Plays step c (i ∷ []) s x.acts x.core t
  plays_one c i s t x h = (x, t, [], h, (refl, refl, refl), sym (append-nil x.acts))

  pub breaks_one : (w : List LinkAction) (c : Core) (i : At) (s t : S) → Stops step c i s t → BreaksOff step w c (i ∷ []) s t
  breaks_one w c i s t h = inr (inl h)

  -- inputs of two lists in turn
  pub plays_append : (is js : List At) (c d e : Core) (s m t : S) (xs ys : List LinkAction)
      → Plays step c is s xs d m → Plays step d js m ys e t → Plays step c (is ++ js) s (xs ++ ys) e t
  plays_append [] js c d e s m t xs ys (a, b, k) h =
      subst (λ (l : List LinkAction). Plays step c js s (l ++ ys) e t) (sym a)
      (subst (λ (x : Core). Plays step x js s ys e t) b (subst (λ (x : S). Plays step d js x ys e t) k h))
  plays_append (i ∷ is) js c d e s m t xs ys (x, u, later, one, more, a) h =
      (x, u, later ++ ys, one, plays_append is js x.core d e u m t later ys more h, ap (λ (l : List LinkAction). l ++ ys) a ∙ append_assoc x.acts later ys)

  -- what was written is to be put together, before any inputs
  pub breaks_joined : (w : List LinkAction) (is : List At) (c : Core) (s : S) → AreSeveral w → BreaksOff step w c is s s
  breaks_joined w [] c s several = (several, refl)
  breaks_joined w (i ∷ is) c s several = inl (several, refl)

  -- some were done, and the others were left on the way
  pub breaks_later : (w : List LinkAction) (is js : List At) (c d : Core) (s m t : S) (xs : List LinkAction) → Plays step c is s xs d m → BreaksOff step (w ++ xs) d js m t → BreaksOff step w c (is ++ js) s t
  breaks_later w [] js c d s m t xs (a, b, k) h =
      subst (λ (l : List LinkAction). BreaksOff step l c js s t) (ap (λ (l : List LinkAction). w ++ l) a ∙ append-nil w)
      (subst (λ (x : Core). BreaksOff step (w ++ xs) x js s t) b (subst (λ (x : S). BreaksOff step (w ++ xs) d js x t) k h))
  breaks_later w (i ∷ is) js c d s m t xs (x, u, later, one, more, a) h = inr (inr (
    x,
    u,
    one,
    breaks_later (w ++ x.acts) is js x.core d u m t later more
        (subst (λ (l : List LinkAction). BreaksOff step l d js m t) (ap (λ (l : List LinkAction). w ++ l) a ∙ sym (append_assoc w x.acts later)) h),
  ))

  -- the first were left on the way, whatever follows
  pub breaks_first : (w : List LinkAction) (is js : List At) (c : Core) (s t : S) → BreaksOff step w c is s t → BreaksOff step w c (is ++ js) s t
  breaks_first w [] js c s t (several, same) = subst (λ (u : S). BreaksOff step w c js s u) (sym same) (breaks_joined w js c s several)
  breaks_first w (i ∷ is) js c s t (inl h) = inl h
  breaks_first w (i ∷ is) js c s t (inr (inl h)) = inr (inl h)
  breaks_first w (i ∷ is) js c s t (inr (inr (x, m, one, more))) = inr (inr (x, m, one, breaks_first (w ++ x.acts) is js x.core m t more))

  -- so are they where more was written before
  pub breaks_after : (w v : List LinkAction) (is : List At) (c : Core) (s t : S) → BreaksOff step v c is s t → BreaksOff step (w ++ v) c is s t
  breaks_after w v [] c s t (several, same) = (several_after w v several, same)
  breaks_after w v (i ∷ is) c s t (inl (several, same)) = inl (several_after w v several, same)
  breaks_after w v (i ∷ is) c s t (inr (inl h)) = inr (inl h)
  breaks_after w v (i ∷ is) c s t (inr (inr (x, m, one, more))) = inr (inr (
    x,
    m,
    one,
    subst (λ (l : List LinkAction). BreaksOff step l x.core is m t) (sym (append_assoc w v x.acts)) (breaks_after w (v ++ x.acts) is x.core m t more),
  ))

  pub breaks_since : (w : List LinkAction) (is : List At) (c : Core) (s t : S) → BreaksOff step [] c is s t → BreaksOff step w c is s t
  breaks_since w is c s t h = subst (λ (l : List LinkAction). BreaksOff step l c is s t) (append-nil w) (breaks_after w [] is c s t h)

  -- inputs were done, and what they wrote was to be put behind what was written before
  pub breaks_behind : (w : List LinkAction) (c d : Core) (is js : List At) (s m : S) (xs : List LinkAction) → Plays step c is s xs d m → AreSeveral (w ++ xs) → BreaksOff step w c (is ++ js) s m
  breaks_behind w c d is js s m xs plays several = breaks_later w is js c d s m m xs plays (breaks_joined (w ++ xs) js d m several)

  -- what is still to be done decides what is done of all
  pub record Toward (c : Core) (all : List At) (s : S) (acts : List LinkAction) (d : Core) (left : List At) (m : S) : Type 0 where
    pub done : (later : List LinkAction) (e : Core) (t : S) → Plays step d left m later e t → Plays step c all s (acts ++ later) e t
    pub broke : (t : S) → BreaksOff step acts d left m t → BreaksOff step [] c all s t

  pub toward_all : (c : Core) (all : List At) (s : S) → Toward c all s [] c all s
  toward_all c all s = record { done = λ later e t h. h; broke = λ t h. h }

  pub toward_next : (c : Core) (all front left : List At) (s m u : S) (acts xs : List LinkAction) (d e : Core)
      → Toward c all s acts d (front ++ left) m → Plays step d front m xs e u → Toward c all s (acts ++ xs) e left u
  toward_next c all front left s m u acts xs d e h plays = record {
    done = λ later f t more. subst (λ (l : List LinkAction). Plays step c all s l f t) (sym (append_assoc acts xs later))
        (h.done (xs ++ later) f t (plays_append front left d e f m u t xs later plays more));
    broke = λ t more. h.broke t (breaks_later acts front left d e m u t xs plays more);
  }

  pub toward_end : (c d : Core) (all : List At) (s m : S) (acts : List LinkAction) → Toward c all s acts d [] m → Plays step c all s acts d m
  toward_end c d all s m acts h = subst (λ (l : List LinkAction). Plays step c all s l d m) (append-nil acts) (h.done [] d m (refl, refl, refl))

  pub toward_break : (c d : Core) (all front left : List At) (s m t : S) (acts : List LinkAction) → Toward c all s acts d (front ++ left) m → BreaksOff step [] d front m t → BreaksOff step [] c all s t
  toward_break c d all front left s m t acts h broke =
      h.broke t (breaks_first acts front left d m t (breaks_since acts front d m t broke))

  -- ---- a loop over inputs at one moment

  pub toward_from : (c : Core) (all left : List At) (s : S) (acts : List LinkAction) → acts ≡ [] → left ≡ all → Toward c all s acts c left s
  toward_from c all left s acts none same =
      subst (λ (l : List LinkAction). Toward c all s l c left s) (sym none) (subst (λ (l : List At). Toward c all s [] c l s) (sym same) (toward_all c all s))

  -- some inputs were done
  pub toward_more : (c d e : Core) (all left front later : List At) (s m u : S) (acts xs new : List LinkAction) → Toward c all s acts d left m → left ≡ front ++ later
      → Plays step d front m xs e u → new ≡ acts ++ xs → Toward c all s new e later u
  toward_more c d e all left front later s m u acts xs new h split plays same =
      subst (λ (l : List LinkAction). Toward c all s l e later u) (sym same)
      (toward_next c all front later s m u acts xs d e (subst (λ (l : List At). Toward c all s acts d l m) split h) plays)

  -- the next ones were left on the way
  pub toward_stop : (c d : Core) (all left front later : List At) (s m t : S) (acts : List LinkAction) → Toward c all s acts d left m → left ≡ front ++ later → BreaksOff step [] d front m t → BreaksOff step [] c all s t
  toward_stop c d all left front later s m t acts h split broke =
      toward_break c d all front later s m t acts (subst (λ (l : List At). Toward c all s acts d l m) split h) broke

  -- the next ones were done, and what they wrote was to be put behind what was written before
  pub toward_stop_behind : (c d e : Core) (all left front later : List At) (s m u : S) (acts xs : List LinkAction) → Toward c all s acts d left m → left ≡ front ++ later
      → Plays step d front m xs e u → AreSeveral (acts ++ xs) → BreaksOff step [] c all s u
  toward_stop_behind c d e all left front later s m u acts xs h split plays several =
      (toward_more c d e all left front later s m u acts xs (acts ++ xs) h split plays refl).broke u (breaks_joined (acts ++ xs) later e u several)

  -- nothing is left
  pub toward_done : (c d : Core) (all left : List At) (s m : S) (acts new : List LinkAction) → Toward c all s acts d left m → left ≡ [] → new ≡ acts → Plays step c all s new d m
  toward_done c d all left s m acts new h none same =
      subst (λ (l : List LinkAction). Plays step c all s l d m) (sym same) (toward_end c d all s m acts (subst (λ (l : List At). Toward c all s acts d l m) none h))

-- what holds of a fault holds of a result that is one
pub on_err : {A E : Type 0} (r : Result A E) (P : Type 0) → P → OnErr r P
on_err (Ok x) P h = tt
on_err (Err e) P h = h

-- a loop has come to its end
pub no_items : {X : Type 0} (items : List X) (n : ℕ) → n ≡ length items → n ≡ 0 → items ≡ []
no_items [] n e zero = refl
no_items (x ∷ items) n e zero = absurd (let l : length (x ∷ items) ≡ 0 = sym e ∙ zero in omega arith)

-- the inputs of the values of a P-DATA-TF
pub values_none : (pdvs : List Pdv) → (length pdvs == 0) ≡ true → values_of pdvs ≡ NoValue ∷ []
values_none [] e = refl
values_none (p ∷ ps) e = absurd (let l : length (p ∷ ps) ≡ 0 = eqb-true (length (p ∷ ps)) 0 e in omega (arith, l))

pub values_some : (pdvs : List Pdv) → (length pdvs == 0) ≡ false → values_of pdvs ≡ map Value pdvs
values_some [] e = absurd (false≢true (sym e))
values_some (p ∷ ps) e = refl
