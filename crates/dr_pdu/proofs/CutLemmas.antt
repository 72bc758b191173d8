-- Many pieces of a stream.
use Rattle.std.proofs.Common.{◌≡◌, ◌≢◌, ℕ, List, [], ◌∷◌, ◌++◌, length, true, false, refl, sym, ap, subst, ◌∙◌, append_assoc, arith, inl, inr, Result, Ok, Err}
use Rattle.std.proofs.lemmas.List.{append-nil, append_cancel_left, length-append}
use Rattle.dr_base.specs.Runs.{Run}
use Rattle.dr_base.proofs.RunLemmas.{run_append, run_longer}
use Rattle.dr_pdu.specs.declared.pdu.Pdu.{Pdu}
use Rattle.dr_pdu.specs.declared.fault.PduFault.{PduFault}
use Rattle.dr_pdu.specs.declared.fault.PduFault.TheVariants.{More, UnknownType, TooLong, BadItem, BadContextId, Memory, Failed}
use Rattle.dr_pdu.specs.Grammar.{StartsFrame, HasWholeBody, Shows}
use Rattle.dr_pdu.specs.Feeding.{StartsPdu, Units, Feeding, Feeds, FeedCall, Fed, taken_by, taken, given_by, given, shown_by, shown, KeepsNoPdu, LeavesStream, fresh}
use Rattle.dr_pdu.proofs.FrontLemmas.{one_spelling, length_of}
use Rattle.dr_pdu.proofs.FeedLemmas.{excludes}

starts_on : (limit : ℕ) (text : List ℕ) (p : Pdu) (rest more : List ℕ) → StartsPdu limit text p rest → StartsPdu limit (text ++ more) p (rest ++ more)
starts_on limit text p rest more s = (s.0, ap (λ (t : List ℕ). t ++ more) s.1 ∙ append_assoc s.0 rest more, s.2)

starts_one : (limit : ℕ) (text : List ℕ) (p q : Pdu) (a b : List ℕ) → StartsPdu limit text p a → StartsPdu limit text q b → ◌≡◌ {A = Pdu × List ℕ} (p, a) (q, b)
starts_one limit text p q a b s t =
    let both : s.0 ++ a ≡ t.0 ++ b = sym s.1 ∙ t.1 in
    let same = one_spelling limit limit s.0 t.0 a b p q s.2 t.2 both in
    let rests : a ≡ b = append_cancel_left s.0 a b (both ∙ ap (λ (k : List ℕ). k ++ b) (sym same.0)) in
    ap (λ (x : Pdu). let z : Pdu × List ℕ = (x, a) in z) same.1 ∙ ap (λ (x : List ℕ). let z : Pdu × List ℕ = (q, x) in z) rests

pub starts_nothing : (limit : ℕ) (p : Pdu) (a : List ℕ) → StartsPdu limit [] p a → ⊥
starts_nothing limit p a s =
    let whole : 0 ≡ length (s.0 ++ a) = ap (λ (t : List ℕ). length t) s.1 in
    omega (arith, whole, length-append s.0 a, length_of limit s.0 p s.2)

-- the longest list is one
pub one_longest : (limit : ℕ) (text : List ℕ) (ps qs : List Pdu) (a b : List ℕ) → Units limit text ps a → Units limit text qs b → (ps ≡ qs) × (a ≡ b)
one_longest limit text [] [] a b u v = (refl, sym u.0 ∙ v.0)
one_longest limit text [] (q ∷ qs) a b u v = absurd (u.1 q v.0.0 (subst (λ (t : List ℕ). StartsPdu limit t q v.0.0) u.0 v.0.1))
one_longest limit text (p ∷ ps) [] a b u v = absurd (v.1 p u.0.0 (subst (λ (t : List ℕ). StartsPdu limit t p u.0.0) v.0 u.0.1))
one_longest limit text (p ∷ ps) (q ∷ qs) a b u v =
    let same = starts_one limit text p q u.0.0 v.0.0 u.0.1 v.0.1 in
    let firsts : p ≡ q = ap (λ (z : Pdu × List ℕ). z.0) same in
    let more = one_longest limit u.0.0 ps qs a b (u.0.2, u.1) (subst (λ (t : List ℕ). Run (StartsPdu limit) qs t b) (sym (ap (λ (z : Pdu × List ℕ). z.1) same)) v.0.2, v.1) in
    (ap (λ (x : Pdu). x ∷ ps) firsts ∙ ap (λ (xs : List Pdu). q ∷ xs) more.0, more.1)

-- ---- a fault shows whatever follows

begins_on : (text : List ℕ) (kind len : ℕ) (rest more : List ℕ) → StartsFrame text kind len rest → StartsFrame (text ++ more) kind len (rest ++ more)
begins_on text kind len rest more b = (b.0, b.1, ap (λ (t : List ℕ). t ++ more) b.2)

whole_on : (limit : ℕ) (text : List ℕ) (kind : ℕ) (body rest more : List ℕ) → HasWholeBody limit text kind body rest → HasWholeBody limit (text ++ more) kind body (rest ++ more)
whole_on limit text kind body rest more w =
    (subst (λ (t : List ℕ). StartsFrame (text ++ more) kind (length body) t) (append_assoc body rest more) (begins_on text kind (length body) (body ++ rest) more w.0), w.1)

pub shows_on : (limit : ℕ) (text more : List ℕ) (fault : PduFault) → fault ≢ More → Shows limit text fault → Shows limit (text ++ more) fault
shows_on limit text more More other h = absurd (other refl)
shows_on limit text more UnknownType other (kind, len, rest, b, h) = (kind, len, rest ++ more, begins_on text kind len rest more b, h)
shows_on limit text more TooLong other (kind, len, rest, b, h) = (kind, len, rest ++ more, begins_on text kind len rest more b, h)
shows_on limit text more BadItem other (inl (kind, len, rest, b, h)) = inl (kind, len, rest ++ more, begins_on text kind len rest more b, h)
shows_on limit text more BadItem other (inr (kind, body, rest, w, h)) = inr (kind, body, rest ++ more, whole_on limit text kind body rest more w, h)
shows_on limit text more BadContextId other (kind, body, rest, p, w, is, h) = (kind, body, rest ++ more, p, whole_on limit text kind body rest more w, is, h)
shows_on limit text more Memory other h = tt
shows_on limit text more Failed other h = h

-- ---- calls

-- a feeder that has failed gives nothing more
failed_stays : (old : Feeding) (xs : List FeedCall) (new : Feeding) → old.failed ≡ true → Fed old xs new → (given xs ≡ []) × (new.failed ≡ true) × (shown xs ≡ [])
failed_stays old [] new f h = (refl, subst (λ (x : Feeding). x.failed ≡ true) h f, refl)
failed_stays old (x ∷ xs) new f h = by_answer (λ g. failed_stays h.0 xs new g h.2) x.0 x.1 h.1
  where
    by_answer : (h.0.failed ≡ true → (given xs ≡ []) × (new.failed ≡ true) × (shown xs ≡ [])) → (piece : List ℕ) (r : Result (List Pdu) PduFault) → Feeds old piece r h.0
        → (given_by r ++ given xs ≡ []) × (new.failed ≡ true) × (shown_by r ++ shown xs ≡ [])
    by_answer later piece (Ok pdus) s = let e : true ≡ false = sym f ∙ s.0 in absurd cc
    by_answer later piece (Err Failed) s = later (ap (λ (x : Feeding). x.failed) s.1 ∙ f)
    by_answer later piece (Err More) s = absurd s
    by_answer later piece (Err Memory) s = let e : true ≡ false = sym f ∙ s.0 in absurd cc
    by_answer later piece (Err UnknownType) s = let e : true ≡ false = sym f ∙ s.0 in absurd cc
    by_answer later piece (Err TooLong) s = let e : true ≡ false = sym f ∙ s.0 in absurd cc
    by_answer later piece (Err BadItem) s = let e : true ≡ false = sym f ∙ s.0 in absurd cc
    by_answer later piece (Err BadContextId) s = let e : true ≡ false = sym f ∙ s.0 in absurd cc

abbrev Nothing : ℕ → List ℕ → Type 0
Nothing limit text = (p : Pdu) (after : List ℕ) → StartsPdu limit text p after → ⊥

abbrev Cut : ℕ → List ℕ → List Pdu → List PduFault → Feeding → Type 0
Cut limit text pdus faults new = (rest : List ℕ) × Units limit text pdus rest × LeavesStream limit faults new rest

-- a fault that the feeder answers ends the list
ended : (limit : ℕ) (kept piece : List ℕ) (mid : Feeding) (xs : List FeedCall) (new : Feeding) (fault : PduFault) → fault ≢ More → fault ≢ Memory → Shows limit (kept ++ piece) fault → mid.failed ≡ true → Fed mid xs new
    → Cut limit (kept ++ (piece ++ taken xs)) (given xs) (fault ∷ shown xs) new
ended limit kept piece mid xs new fault m n shows f h =
    let stays = failed_stays mid xs new f h in
    let text = kept ++ (piece ++ taken xs) in
    let on : Shows limit text fault = subst (λ (t : List ℕ). Shows limit t fault) (append_assoc kept piece (taken xs)) (shows_on limit (kept ++ piece) (taken xs) fault m shows) in
    (text, (subst (λ (ps : List Pdu). Run (StartsPdu limit) ps text text) (sym stays.0) refl, excludes limit text fault on n), inr (fault, ap (λ (fs : List PduFault). fault ∷ fs) stays.2, stays.1, m, n, on))

pub cuts : (limit : ℕ) (old : Feeding) (xs : List FeedCall) (new : Feeding) → old.limit ≡ limit → old.failed ≡ false → Nothing limit old.kept → Fed old xs new → Cut limit (old.kept ++ taken xs) (given xs) (shown xs) new
cuts limit old [] new l f none h =
    (old.kept, (append-nil old.kept, none), inl (refl, subst (λ (x : Feeding). x.failed ≡ false) h f, ap (λ (x : Feeding). x.kept) h))
cuts limit old (x ∷ xs) new l f none h = by_answer (λ old' l' f' none' h'. cuts limit old' xs new l' f' none' h') x.0 x.1 h.1
  where
    failing : (piece : List ℕ) (fault : PduFault) → fault ≢ More → fault ≢ Memory → Shows old.limit (old.kept ++ piece) fault → h.0 ≡ record { limit = old.limit; failed = true; kept = [] }
        → Cut limit (old.kept ++ (piece ++ taken xs)) (given xs) (fault ∷ shown xs) new
    failing piece fault m n shows e = ended limit old.kept piece h.0 xs new fault m n (subst (λ (k : ℕ). Shows k (old.kept ++ piece) fault) l shows) (ap (λ (x : Feeding). x.failed) e) h.2

    by_answer : ((old' : Feeding) → old'.limit ≡ limit → old'.failed ≡ false → Nothing limit old'.kept → Fed old' xs new → Cut limit (old'.kept ++ taken xs) (given xs) (shown xs) new) → (piece : List ℕ) (r : Result (List Pdu) PduFault) → Feeds old piece r h.0
        → Cut limit (old.kept ++ (taken_by piece r ++ taken xs)) (given_by r ++ given xs) (shown_by r ++ shown xs) new
    by_answer later piece (Ok pdus) s =
        let units : Units limit (old.kept ++ piece) pdus h.0.kept = subst (λ (k : ℕ). Units k (old.kept ++ piece) pdus h.0.kept) l s.1 in
        let more = later h.0 (s.4 ∙ l) s.3 units.1 h.2 in
        let run = run_longer (StartsPdu limit) (starts_on limit) pdus (old.kept ++ piece) h.0.kept (taken xs) units.0 in
        let whole = run_append (StartsPdu limit) pdus (given xs) ((old.kept ++ piece) ++ taken xs) (h.0.kept ++ taken xs) more.0 run more.1.0 in
        (more.0, (subst (λ (t : List ℕ). Run (StartsPdu limit) (pdus ++ given xs) t more.0) (append_assoc old.kept piece (taken xs)) whole, more.1.1), more.2)
    by_answer later piece (Err Memory) s =
        later old l f none (subst (λ (m : Feeding). Fed m xs new) s.1 h.2)
    by_answer later piece (Err More) s = absurd s
    by_answer later piece (Err Failed) s = let e : false ≡ true = sym f ∙ s.0 in absurd cc
    by_answer later piece (Err UnknownType) s = failing piece UnknownType (λ e. cc) (λ e. cc) s.1 s.2
    by_answer later piece (Err TooLong) s = failing piece TooLong (λ e. cc) (λ e. cc) s.1 s.2
    by_answer later piece (Err BadItem) s = failing piece BadItem (λ e. cc) (λ e. cc) s.1 s.2
    by_answer later piece (Err BadContextId) s = failing piece BadContextId (λ e. cc) (λ e. cc) s.1 s.2

pub cuts_of_a_stream : (limit : ℕ) (xs : List FeedCall) (new : Feeding) → Fed (fresh limit) xs new → (rest : List ℕ) × Units limit (taken xs) (given xs) rest × LeavesStream limit (shown xs) new rest
cuts_of_a_stream limit xs new h = cuts limit (fresh limit) xs new refl refl (starts_nothing limit) h

pub cuts_midstream : (old : Feeding) (xs : List FeedCall) (new : Feeding) → old.failed ≡ false → KeepsNoPdu old → Fed old xs new → (rest : List ℕ) × Units old.limit (old.kept ++ taken xs) (given xs) rest × LeavesStream old.limit (shown xs) new rest
cuts_midstream old xs new f none h = cuts old.limit old xs new refl f none h

-- ---- what no call changes

abbrev NoPdu : ℕ → List ℕ → Type 0
NoPdu limit kept = (p : Pdu) (after : List ℕ) → StartsPdu limit kept p after → ⊥

nothing_kept : (limit : ℕ) (new : Feeding) → new ≡ record { limit = limit; failed = true; kept = [] } → KeepsNoPdu new
nothing_kept limit new e = subst KeepsNoPdu (sym e) (starts_nothing limit)

-- no PDU starts what is kept, behind every call
pub still_no_pdu : (old : Feeding) (piece : List ℕ) (r : Result (List Pdu) PduFault) (new : Feeding) → Feeds old piece r new → KeepsNoPdu old → KeepsNoPdu new
still_no_pdu old piece (Ok pdus) new s none = subst (λ (l : ℕ). NoPdu l new.kept) (sym s.4) s.1.1
still_no_pdu old piece (Err Memory) new s none = subst KeepsNoPdu (sym s.1) none
still_no_pdu old piece (Err Failed) new s none = subst KeepsNoPdu (sym s.1) none
still_no_pdu old piece (Err More) new s none = absurd s
still_no_pdu old piece (Err UnknownType) new s none = nothing_kept old.limit new s.2
still_no_pdu old piece (Err TooLong) new s none = nothing_kept old.limit new s.2
still_no_pdu old piece (Err BadItem) new s none = nothing_kept old.limit new s.2
still_no_pdu old piece (Err BadContextId) new s none = nothing_kept old.limit new s.2

-- a call leaves the limit
one_limit : (old : Feeding) (piece : List ℕ) (r : Result (List Pdu) PduFault) (new : Feeding) → Feeds old piece r new → new.limit ≡ old.limit
one_limit old piece (Ok pdus) new s = s.4
one_limit old piece (Err Memory) new s = ap (λ (f : Feeding). f.limit) s.1
one_limit old piece (Err Failed) new s = ap (λ (f : Feeding). f.limit) s.1
one_limit old piece (Err More) new s = absurd s
one_limit old piece (Err UnknownType) new s = ap (λ (f : Feeding). f.limit) s.2
one_limit old piece (Err TooLong) new s = ap (λ (f : Feeding). f.limit) s.2
one_limit old piece (Err BadItem) new s = ap (λ (f : Feeding). f.limit) s.2
one_limit old piece (Err BadContextId) new s = ap (λ (f : Feeding). f.limit) s.2

pub same_limit : (old : Feeding) (xs : List FeedCall) (new : Feeding) → Fed old xs new → new.limit ≡ old.limit
same_limit old [] new h = ap (λ (f : Feeding). f.limit) (sym h)
same_limit old (x ∷ xs) new h = same_limit h.0 xs new h.2 ∙ one_limit old x.0 x.1 h.0 h.1
