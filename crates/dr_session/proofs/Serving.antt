-- A session, step by step.
use Rattle.std.specs.Prelude.{◌≡◌, ◌⊎◌, ◌^◌, ℕ, Bool, true, false, List, [], ◌∷◌, ◌++◌, drop, length, ◌<◌, ◌≤◌, ◌+◌, suc, not, ◌||◌, nat_le, if◌then◌else◌, Some, None, Result, Ok, Err}
use Rattle.std.proofs.Common.{refl, sym, ap, subst, ◌∙◌, drop-cons, get_or, arith, inl, inr}
use Rattle.std.specs.Result.{IsErr, IsErrAnd}
use Rattle.std.proofs.lemmas.Bool.{false≢true, leb-false}
use Rattle.std.proofs.Math.ListN.{drop_of_length-le}
use Rattle.std.specs.declared.alloc.AllocError.{AllocError}
use Rattle.dr_session.specs.declared.ends.Heard.{Heard}
use Rattle.dr_session.specs.declared.ends.Heard.TheVariants as heard
use Rattle.dr_session.specs.declared.ends.LinkAction.{LinkAction}
use Rattle.dr_session.specs.declared.ends.LinkAction.TheVariants.{Write, Close}
use Rattle.dr_session.specs.declared.ends.Moment.{Moment}
use Rattle.dr_session.specs.declared.ends.Over.{Over}
use Rattle.dr_session.specs.declared.ends.Over.TheVariants as over
use Rattle.dr_session.specs.declared.ends.Ended.{Ended}
use Rattle.dr_session.specs.declared.sessions.SessionFault.{SessionFault}
use Rattle.dr_session.specs.declared.sessions.SessionFault.TheVariants as fault
use Rattle.dr_session.specs.declared.wishes.Kind.{Kind}
use Rattle.dr_session.specs.declared.wishes.Kind.TheVariants.{Receive, Deliver, EchoOnce}
use Rattle.dr_session.specs.declared.wishes.Wish.{Wish}
use Rattle.dr_session.specs.declared.wishes.Wish.TheVariants.{Listen, Push, Release, Echo}
use Rattle.dr_session.specs.Desks.{DeskCall, DeskAnswer}
use Rattle.dr_session.specs.Ends.{Terminal, HearsOf, over_of, is_free_in, is_dry_in}
use Rattle.dr_ledger.specs.Replies.{HasRisen}
use Rattle.dr_session.specs.Links.{Counts, IsLinkFault, Performs, FailsToPerform, PerformsOne, EndDoing, Hears, Asks, Echoes, wants, IsWished, asked_after, reads, Finishes, Place, place, IsMoment, Does, Performed, Did, CarriesOut, Leaves, Stops, GoesOn, Served, StopsAt, EndsAs, Begins, StartsAs, IsLinkFailure, reads_by, asked_by}

-- what is the link's fault is the one value that says so
pub fault_is : (came : Heard) → IsLinkFault came → came ≡ heard.Fault
fault_is heard.Fault h = refl
fault_is heard.End h = absurd h
fault_is heard.Late h = absurd h
fault_is heard.Crowded h = absurd h
fault_is heard.Idle h = absurd h
fault_is heard.Memory h = absurd h
fault_is (heard.Bytes piece) h = absurd h

-- ---- actions

-- what is still to be performed decides how all is performed
abbrev pub TowardAll : {L : Type 0} → (L → List ℕ → Bool → L → Type 0) → (L → L → Type 0) → L → List LinkAction → L → List LinkAction → Type 0
TowardAll {L} sends closes k xs l ys = ((t : L) → Performs sends closes l ys t → Performs sends closes k xs t) × ((t : L) → FailsToPerform sends closes l ys t → FailsToPerform sends closes k xs t)

module _ {L : Type 0} (sends : L → List ℕ → Bool → L → Type 0) (closes : L → L → Type 0) where
  performs_one : (a : LinkAction) (ys : List LinkAction) (l m t : L) → PerformsOne sends closes true l a m → Performs sends closes m ys t → Performs sends closes l (a ∷ ys) t
  performs_one (Write bytes) ys l m t one more = (m, one, more)
  performs_one Close ys l m t (e, one) more = (m, one, more)

  fails_later : (a : LinkAction) (ys : List LinkAction) (l m t : L) → PerformsOne sends closes true l a m → FailsToPerform sends closes m ys t → FailsToPerform sends closes l (a ∷ ys) t
  fails_later (Write bytes) ys l m t one more = inr (m, one, more)
  fails_later Close ys l m t (e, one) more = (m, one, more)

  fails_now : (a : LinkAction) (ys : List LinkAction) (l t : L) → PerformsOne sends closes false l a t → FailsToPerform sends closes l (a ∷ ys) t
  fails_now (Write bytes) ys l t one = inl one
  fails_now Close ys l t (e, one) = absurd (false≢true e)

  pub toward_next : (k l m : L) (xs : List LinkAction) (i : ℕ) (d a : LinkAction) → i < length xs → TowardAll sends closes k xs l (drop i xs) → a ≡ get_or xs i d → PerformsOne sends closes true l a m
      → TowardAll sends closes k xs m (drop (i + 1) xs)
  toward_next k l m xs i d a below (done, failed) is one =
      let cons : drop i xs ≡ a ∷ drop (suc i) xs = drop-cons xs i d below ∙ ap (λ (x : LinkAction). x ∷ drop (suc i) xs) (sym is) in
      let next : i + 1 ≡ suc i = omega arith in
      rw next (
        (λ t h. done t (subst (λ (ys : List LinkAction). Performs sends closes l ys t) (sym cons) (performs_one a (drop (suc i) xs) l m t one h))),
        (λ t h. failed t (subst (λ (ys : List LinkAction). FailsToPerform sends closes l ys t) (sym cons) (fails_later a (drop (suc i) xs) l m t one h))),
      )

  pub toward_fault : (k l t : L) (xs : List LinkAction) (i : ℕ) (d a : LinkAction) → i < length xs → TowardAll sends closes k xs l (drop i xs) → a ≡ get_or xs i d → PerformsOne sends closes false l a t
      → FailsToPerform sends closes k xs t
  toward_fault k l t xs i d a below (done, failed) is one =
      let cons : drop i xs ≡ a ∷ drop (suc i) xs = drop-cons xs i d below ∙ ap (λ (x : LinkAction). x ∷ drop (suc i) xs) (sym is) in
      failed t (subst (λ (ys : List LinkAction). FailsToPerform sends closes l ys t) (sym cons) (fails_now a (drop (suc i) xs) l t one))

  pub toward_end : (k l : L) (xs : List LinkAction) (i : ℕ) → length xs ≤ i → TowardAll sends closes k xs l (drop i xs) → Performs sends closes k xs l
  toward_end k l xs i past (done, failed) = done l (rw (drop_of_length-le xs past) refl)

-- ---- the count of failures

pub counts_none : (Failed : Type 0) (before now : ℕ) → before ≤ now → (Failed → ⊥) → Counts Failed before now
counts_none Failed before now h none = (h, λ f. absurd (none f))

pub risen_later : (a b c : ℕ) → a ≤ b → HasRisen b c → HasRisen a c
risen_later a b c h (inl more) = inl (omega (arith, h, more))
risen_later a b c h (inr most) = inr most

pub risen_on : (a b c : ℕ) → b ≤ c → c < 2 ^ 64 → HasRisen a b → HasRisen a c
risen_on a b c h top (inl more) = inl (omega (arith, h, more))
risen_on a b c h top (inr most) = inr (omega (arith, h, most, top))

pub counts_later : (Failed : Type 0) (a b c : ℕ) → a ≤ b → Counts Failed b c → Counts Failed a c
counts_later Failed a b c h (grows, risen) = (omega (arith, h, grows), λ f. risen_later a b c h (risen f))

pub no_failure : {X : Type 0} (r : Result X SessionFault) (a b : ℕ) → a ≤ b → (IsLinkFailure r → ⊥) → Counts (IsLinkFailure r) a b
no_failure r a b h none = (h, λ f. absurd (none f))

memory_is_none : {X : Type 0} (r : Result X SessionFault) → IsErr r → IsErrAnd r (λ (e : SessionFault). e ≡ fault.Memory) → IsLinkFailure r → ⊥
memory_is_none (Ok x) no_err is f = f
memory_is_none {X = X} (Err e) err is f = subst (λ (w : SessionFault). IsLinkFailure {X = X} (Err w)) is f

-- want of memory is no failure of the link
pub memory_counts : {X : Type 0} (r : Result X SessionFault) (a b : ℕ) → IsErr r → IsErrAnd r (λ (e : SessionFault). e ≡ fault.Memory) → a ≤ b → Counts (IsLinkFailure r) a b
memory_counts r a b err is h = no_failure r a b h (memory_is_none r err is)

-- ---- one doing

module _ {L S : Type 0} (hears : L → Heard → L → Type 0) (sends : L → List ℕ → Bool → L → Type 0) (closes : L → L → Type 0) (step : S → DeskCall → DeskAnswer → S → Type 0)
    (tells : ℕ → Type 0) (others : ℕ) where
  abbrev pub IsPerformed : List LinkAction → Place L S → Place L S → Type 0
  IsPerformed acts mid new = Performs sends closes mid.link acts new.link × (new.port ≡ mid.port) × (new.terminal ≡ mid.terminal)

  pub performed_hears : (at : Moment) (came : Heard) (mid new : Place L S) (acts : List LinkAction) → (came ≡ heard.Fault → ⊥) → IsPerformed acts mid new
      → Performed hears sends closes step tells others (Hears at came) mid acts new
  performed_hears at heard.Fault mid new acts other h = absurd (other refl)
  performed_hears at heard.End mid new acts other h = h
  performed_hears at heard.Late mid new acts other h = h
  performed_hears at heard.Crowded mid new acts other h = h
  performed_hears at heard.Idle mid new acts other h = h
  performed_hears at heard.Memory mid new acts other h = h
  performed_hears at (heard.Bytes piece) mid new acts other h = h

  pub goes_on : (Is : EndDoing → Type 0) (x : EndDoing) (at : Moment) (acts : List LinkAction) (old mid new : Place L S) (r : Result (Unit {0}) SessionFault)
      → Is x → Does hears sends closes step tells others x old (Ok acts) mid → IsMoment tells others at
      → (IsPerformed acts mid new → Performed hears sends closes step tells others x mid acts new)
      → CarriesOut sends closes step at acts mid r new → GoesOn hears sends closes step tells others Is r old new
  goes_on Is x at acts old mid new (Ok done) is does moment performed h = (x, is, (acts, mid, does, performed h))
  goes_on Is x at acts old mid new (Err fault.Write) is does moment performed (fails, (dropped, h)) = (x, acts, dropped, mid, is, does, fails, (at, new.terminal, moment, h))
  goes_on Is x at acts old mid new (Err fault.Memory) is does moment performed (fails, (e, h)) = inr (x, acts, e, mid, is, does, fails, (at, new.terminal, moment, h))
  goes_on Is x at acts old mid new (Err fault.NoHop) is does moment performed h = absurd h
  goes_on Is x at acts old mid new (Err fault.Read) is does moment performed h = absurd h
  goes_on Is x at acts old mid new (Err fault.TooManyReads) is does moment performed h = absurd h
  goes_on Is x at acts old mid new (Err fault.Desk) is does moment performed h = absurd h

  memory_as : (Is : EndDoing → Type 0) (old new : Place L S) (e : SessionFault) → e ≡ fault.Memory → Stops hears sends closes step tells others Is fault.Memory old new.link new.port
      → GoesOn hears sends closes step tells others Is (Err e) old new
  memory_as Is old new e is h = subst (λ (w : SessionFault). GoesOn hears sends closes step tells others Is (Err w) old new) (sym is) h

  pub memory_ends : (Is : EndDoing → Type 0) (x : EndDoing) (e : AllocError) (old new : Place L S) (r : Result (Unit {0}) SessionFault) → IsErr r → IsErrAnd r (λ (w : SessionFault). w ≡ fault.Memory)
      → Is x → Does hears sends closes step tells others x old (Err e) new → GoesOn hears sends closes step tells others Is r old new
  memory_ends Is x e old new (Ok done) no_err gives is does = absurd (false≢true no_err)
  memory_ends Is x e old new (Err w) err gives is does = memory_as Is old new w gives (inl (x, e, new.terminal, is, does))

  -- an action could not be performed, and memory ended while leaving
  pub carries_memory : (at : Moment) (acts : List LinkAction) (e : AllocError) (mid new : Place L S) (r : Result (Unit {0}) SessionFault) → IsErr r → IsErrAnd r (λ (w : SessionFault). w ≡ fault.Memory)
      → FailsToPerform sends closes mid.link acts new.link → HearsOf step heard.Fault at mid.terminal mid.port (Err e) new.terminal new.port
      → CarriesOut sends closes step at acts mid r new
  carries_memory at acts e mid new (Ok done) no_err gives fails h = absurd (false≢true no_err)
  carries_memory at acts e mid new (Err w) err gives fails h =
      subst (λ (x : SessionFault). CarriesOut sends closes step at acts mid (Err x) new) (sym gives) (fails, (e, h))

module _ {L S : Type 0} (hears : L → Heard → L → Type 0) (step : S → DeskCall → DeskAnswer → S → Type 0) (tells : ℕ → Type 0) (others : ℕ) where
  -- the link's fault was heard
  pub heard_fault : (at : Moment) (came : Heard) (acts : List LinkAction) (k l : L) (old new : Terminal) (s t : S) → came ≡ heard.Fault → IsMoment tells others at → hears k came l
      → HearsOf step came at old s (Ok acts) new t
      → (at' : Moment) × (acts' : List LinkAction) × (new' : Terminal) × Unit {0} × (IsMoment tells others at' × hears k heard.Fault l × HearsOf step heard.Fault at' old s (Ok acts') new' t)
  heard_fault at came acts k l old new s t is moment comes h =
      (at, acts, new, tt, (moment, subst (λ (x : Heard). hears k x l) is comes, subst (λ (x : Heard). HearsOf step x at old s (Ok acts) new t) is h))

-- ---- counts of reads, and of what was asked

abbrev pub reads_after : EndDoing → ℕ → ℕ
reads_after (Hears at came) n = n + 1
reads_after (Asks at input) n = n
reads_after (Echoes at) n = n

after_suc : (x : EndDoing) (n : ℕ) → reads_after x n + 1 ≡ reads_after x (n + 1)
after_suc (Hears at came) n = refl
after_suc (Asks at input) n = refl
after_suc (Echoes at) n = refl

reads_more : (xs : List EndDoing) (x : EndDoing) → reads (xs ++ x ∷ []) ≡ reads_after x (reads xs)
reads_more [] (Hears at came) = refl
reads_more [] (Asks at input) = refl
reads_more [] (Echoes at) = refl
reads_more (Hears at came ∷ xs) x = ap (λ (n : ℕ). n + 1) (reads_more xs x) ∙ after_suc x (reads xs)
reads_more (Asks at input ∷ xs) x = reads_more xs x
reads_more (Echoes at ∷ xs) x = reads_more xs x

read_as : (w : Wish) (x : EndDoing) (n : ℕ) → IsWished w x → reads_after x n ≡ reads_by w n
read_as Listen (Hears at came) n is = refl
read_as Listen (Asks at input) n is = absurd is
read_as Listen (Echoes at) n is = absurd is
read_as Push (Hears at came) n is = absurd is
read_as Push (Asks at input) n is = refl
read_as Push (Echoes at) n is = absurd is
read_as Release (Hears at came) n is = absurd is
read_as Release (Asks at input) n is = refl
read_as Release (Echoes at) n is = absurd is
read_as Echo (Hears at came) n is = absurd is
read_as Echo (Asks at input) n is = absurd is
read_as Echo (Echoes at) n is = refl

asked_as : (w : Wish) (x : EndDoing) (n : ℕ) → IsWished w x → asked_after x n ≡ asked_by w n
asked_as Listen (Hears at came) n is = refl
asked_as Listen (Asks at input) n is = absurd is
asked_as Listen (Echoes at) n is = absurd is
asked_as Push (Hears at came) n is = absurd is
asked_as Push (Asks at input) n is = refl
asked_as Push (Echoes at) n is = absurd is
asked_as Release (Hears at came) n is = absurd is
asked_as Release (Asks at input) n is = refl
asked_as Release (Echoes at) n is = absurd is
asked_as Echo (Hears at came) n is = absurd is
asked_as Echo (Asks at input) n is = absurd is
asked_as Echo (Echoes at) n is = refl

pub both_count : (w : Wish) (reads asked done : ℕ) → reads + asked ≡ done → reads_by w reads + asked_by w asked ≡ done + 1
both_count Listen reads asked done e = omega (arith, e)
both_count Push reads asked done e = omega (arith, e)
both_count Release reads asked done e = omega (arith, e)
both_count Echo reads asked done e = omega (arith, e)

pub reads_below : (w : Wish) (reads : ℕ) → reads < 2 ^ 40 → reads_by w reads ≤ 2 ^ 40
reads_below Listen reads h = omega (arith, h)
reads_below Push reads h = omega (arith, h)
reads_below Release reads h = omega (arith, h)
reads_below Echo reads h = omega (arith, h)

-- one that asked 65,536 times listens
asked_by_test : (free full dry : Bool) (n : ℕ) → nat_le 65536 n ≡ full → n ≤ 65536 → asked_by (if not free || full then Listen else if dry then Release else Push) n ≤ 65536
asked_by_test false full dry n e h = h
asked_by_test true true dry n e h = h
asked_by_test true false true n e h = (let l = leb-false 65536 n e in omega (arith, l))
asked_by_test true false false n e h = (let l = leb-false 65536 n e in omega (arith, l))

echo_by_test : (free full dry : Bool) (n : ℕ) → nat_le 2 n ≡ full → n ≤ 65536 → asked_by (if not free || full then Listen else if dry then Release else Echo) n ≤ 65536
echo_by_test false full dry n e h = h
echo_by_test true true dry n e h = h
echo_by_test true false true n e h = (let l = leb-false 2 n e in omega (arith, l))
echo_by_test true false false n e h = (let l = leb-false 2 n e in omega (arith, l))

pub asked_below : (kind : Kind) (n : ℕ) (t : Terminal) → n ≤ 65536 → asked_by (wants kind n t) n ≤ 65536
asked_below Receive n t h = h
asked_below Deliver n t h = asked_by_test (is_free_in t.core) (nat_le 65536 n) (is_dry_in t.core || nat_le 65535 n) n refl h
asked_below EchoOnce n t h = echo_by_test (is_free_in t.core) (nat_le 2 n) (nat_le 1 n) n refl h

-- ---- a session so far

module _ {L S : Type 0} (hears : L → Heard → L → Type 0) (sends : L → List ℕ → Bool → L → Type 0) (closes : L → L → Type 0) (step : S → DeskCall → DeskAnswer → S → Type 0)
    (tells : ℕ → Type 0) (others : ℕ) (kind : Kind) where
  served_more : (xs : List EndDoing) (x : EndDoing) (asked told : ℕ) (old mid new : Place L S) → Served hears sends closes step tells others kind asked old xs told mid
      → over_of mid.terminal.core ≡ None → IsWished (wants kind told mid.terminal) x → Did hears sends closes step tells others mid x new
      → Served hears sends closes step tells others kind asked old (xs ++ x ∷ []) (asked_after x told) new
  served_more [] x asked told old mid new (t, same) going is did = (
    subst (λ (m : Place L S). over_of m.terminal.core ≡ None) same going,
    subst (λ (n : ℕ). IsWished (wants kind n old.terminal) x) t (subst (λ (m : Place L S). IsWished (wants kind told m.terminal) x) same is),
    (new, subst (λ (m : Place L S). Did hears sends closes step tells others m x new) same did, (ap (λ (n : ℕ). asked_after x n) t, refl)),
  )
  served_more (y ∷ ys) x asked told old mid new (going', is', (next, did', later)) going is did =
      (going', is', (next, did', served_more ys x (asked_after y asked) told next mid new later going is did))

  -- what has been done so far, with its counts
  pub record SoFar (old : Place L S) (done reads_made asked : ℕ) (now : Place L S) : Type 0 where
    pub doings : List EndDoing
    pub served : Served hears sends closes step tells others kind 0 old doings asked now
    pub reads_are : reads doings ≡ reads_made
    pub few : asked ≤ 65536
    pub below : reads_made ≤ 2 ^ 40
    pub counted : reads_made + asked ≡ done

  pub so_far : (old : Place L S) → SoFar old 0 0 0 old
  so_far old = record { doings = []; served = (refl, refl); reads_are = refl; few = omega arith; below = omega arith; counted = refl }

  pub more_done : (w : Wish) (old now new : Place L S) (done reads_made asked : ℕ) → SoFar old done reads_made asked now → over_of now.terminal.core ≡ None → w ≡ wants kind asked now.terminal → reads_made < 2 ^ 40
      → GoesOn hears sends closes step tells others (IsWished w) (Ok tt) now new → SoFar old (done + 1) (reads_by w reads_made) (asked_by w asked) new
  more_done w old now new done reads_made asked h going wished few_reads (x, is, did) = record {
    doings = h.doings ++ x ∷ [];
    served = subst (λ (n : ℕ). Served hears sends closes step tells others kind 0 old (h.doings ++ x ∷ []) n new) (asked_as w x asked is)
        (served_more h.doings x 0 asked old now new h.served going (subst (λ (v : Wish). IsWished v x) wished is) did);
    reads_are = reads_more h.doings x ∙ (ap (λ (n : ℕ). reads_after x n) h.reads_are ∙ read_as w x reads_made is);
    few = subst (λ (v : Wish). asked_by v asked ≤ 65536) (sym wished) (asked_below kind asked now.terminal h.few);
    below = reads_below w reads_made few_reads;
    counted = both_count w reads_made asked done h.counted;
  }

  pub more_done_as : (w : Wish) (old now new : Place L S) (done reads_made asked r a : ℕ) → SoFar old done reads_made asked now → over_of now.terminal.core ≡ None → w ≡ wants kind asked now.terminal → reads_made < 2 ^ 40
      → GoesOn hears sends closes step tells others (IsWished w) (Ok tt) now new → r ≡ reads_by w reads_made → a ≡ asked_by w asked → SoFar old (done + 1) r a new
  more_done_as w old now new done reads_made asked r a h going wished few_reads goes e f =
      subst (λ (n : ℕ). SoFar old (done + 1) n a new) (sym e) (subst (λ (n : ℕ). SoFar old (done + 1) (reads_by w reads_made) n new) (sym f) (more_done w old now new done reads_made asked h going wished few_reads goes))

  pub ends_over : (o : Over) (r : Result Ended SessionFault) (old now : Place L S) (done reads_made asked : ℕ) → SoFar old done reads_made asked now → over_of now.terminal.core ≡ Some o → Finishes o r
      → EndsAs hears sends closes step tells others kind r old now.link now.port
  ends_over (over.Ended e) r old now done reads_made asked h is f =
      subst (λ (x : Result Ended SessionFault). EndsAs hears sends closes step tells others kind x old now.link now.port) (sym f) (h.doings, asked, now.terminal, h.served, is)
  ends_over over.Desk r old now done reads_made asked h is f =
      subst (λ (x : Result Ended SessionFault). EndsAs hears sends closes step tells others kind x old now.link now.port) (sym f) (h.doings, asked, now.terminal, h.served, is)
  ends_over over.Memory r old now done reads_made asked h is f =
      subst (λ (x : Result Ended SessionFault). EndsAs hears sends closes step tells others kind x old now.link now.port) (sym f) (inr (h.doings, asked, now, h.served, inl (is, refl, refl)))

  stops_as : (why : SessionFault) (old now : Place L S) (done reads_made asked : ℕ) (l : L) (t : S) → SoFar old done reads_made asked now
      → Stops hears sends closes step tells others (IsWished (wants kind asked now.terminal)) why now l t → EndsAs hears sends closes step tells others kind (Err why) old l t
  stops_as fault.Read old now done reads_made asked l t h s = (h.doings, asked, now, h.served, s)
  stops_as fault.Write old now done reads_made asked l t h s = (h.doings, asked, now, h.served, s)
  stops_as fault.Memory old now done reads_made asked l t h s = inr (h.doings, asked, now, h.served, inr s)
  stops_as fault.NoHop old now done reads_made asked l t h s = absurd s
  stops_as fault.TooManyReads old now done reads_made asked l t h s = absurd s
  stops_as fault.Desk old now done reads_made asked l t h s = absurd s

  pub ends_stopped : (w : Wish) (why : SessionFault) (r : Result Ended SessionFault) (old now new : Place L S) (done reads_made asked : ℕ) → SoFar old done reads_made asked now → w ≡ wants kind asked now.terminal
      → IsErr r → IsErrAnd r (λ (e : SessionFault). e ≡ why) → GoesOn hears sends closes step tells others (IsWished w) (Err why) now new → EndsAs hears sends closes step tells others kind r old new.link new.port
  ends_stopped w why (Ok e) old now new done reads_made asked h wished no_err gives s = absurd (false≢true no_err)
  ends_stopped w why (Err e) old now new done reads_made asked h wished err gives s =
      subst (λ (x : SessionFault). EndsAs hears sends closes step tells others kind (Err x) old new.link new.port) (sym gives)
      (stops_as why old now done reads_made asked new.link new.port h (subst (λ (v : Wish). Stops hears sends closes step tells others (IsWished v) why now new.link new.port) wished s))

  -- memory ended before anything was done
  pub ends_unbegun : (r : Result Ended SessionFault) (old : Place L S) → IsErr r → IsErrAnd r (λ (e : SessionFault). e ≡ fault.Memory) → EndsAs hears sends closes step tells others kind r old old.link old.port
  ends_unbegun (Ok e) old no_err gives = absurd (false≢true no_err)
  ends_unbegun (Err e) old err gives =
      subst (λ (x : SessionFault). EndsAs hears sends closes step tells others kind (Err x) old old.link old.port) (sym gives) (inl (refl, refl))

  -- ---- a requestor's session

  -- its request went out, and the session followed
  pub starts : (result : Result Ended SessionFault) (acts : List LinkAction) (at : Moment) (old mid : Place L S) (l : L) (t : S) → CarriesOut sends closes step at acts old (Ok tt) mid
      → EndsAs hears sends closes step tells others kind result mid l t → StartsAs hears sends closes step tells others kind result old.link acts old.port old.terminal l t
  starts result acts at old mid l t (performs, port, terminal) ends bytes are =
      let one : Performs sends closes old.link (Write bytes ∷ []) mid.link = subst (λ (x : List LinkAction). Performs sends closes old.link x mid.link) are performs in
      let E : L → S → Terminal → Type 0 = λ k s x. EndsAs hears sends closes step tells others kind result (place k s x) l t in
      (true, (one.0, one.1, subst (λ (k : L). E k old.port old.terminal) one.2 (subst (λ (s : S). E mid.link s old.terminal) port (subst (λ (x : Terminal). E mid.link mid.port x) terminal ends))))

  starts_err : (why : SessionFault) (bytes : List ℕ) (at : Moment) (old new : Place L S) → IsMoment tells others at → CarriesOut sends closes step at (Write bytes ∷ []) old (Err why) new
      → (sent : Bool) × Begins hears sends closes step tells others kind sent (Err why) old.link bytes old.port old.terminal new.link new.port
  starts_err fault.Write bytes at old new moment (inl fails, (dropped, h)) = (false, (fails, (dropped, (at, new.terminal, moment, h))))
  starts_err fault.Write bytes at old new moment (inr more, rest) = absurd more.2
  starts_err fault.Memory bytes at old new moment (inl fails, (e, h)) = (false, (fails, (e, (at, new.terminal, moment, h))))
  starts_err fault.Memory bytes at old new moment (inr more, rest) = absurd more.2
  starts_err fault.Read bytes at old new moment h = absurd h
  starts_err fault.NoHop bytes at old new moment h = absurd h
  starts_err fault.TooManyReads bytes at old new moment h = absurd h
  starts_err fault.Desk bytes at old new moment h = absurd h

  pub starts_not : (why : SessionFault) (r : Result Ended SessionFault) (acts : List LinkAction) (at : Moment) (old new : Place L S) → IsErr r → IsErrAnd r (λ (e : SessionFault). e ≡ why) → IsMoment tells others at
      → CarriesOut sends closes step at acts old (Err why) new → StartsAs hears sends closes step tells others kind r old.link acts old.port old.terminal new.link new.port
  starts_not why (Ok e) acts at old new no_err gives moment h bytes are = absurd (false≢true no_err)
  starts_not why (Err e) acts at old new err gives moment h bytes are =
      subst (λ (x : SessionFault). (sent : Bool) × Begins hears sends closes step tells others kind sent (Err x) old.link bytes old.port old.terminal new.link new.port) (sym gives)
      (starts_err why bytes at old new moment (subst (λ (l : List LinkAction). CarriesOut sends closes step at l old (Err why) new) are h))

pub failure_same : {X : Type 0} (Y : Type 0) (r : Result X SessionFault) (why : SessionFault) (a b : ℕ) → IsErr r → IsErrAnd r (λ (e : SessionFault). e ≡ why) → Counts (IsLinkFailure {X = Y} (Err why)) a b → Counts (IsLinkFailure r) a b
failure_same Y (Ok x) why a b no_err gives h = absurd (false≢true no_err)
failure_same {X = X} Y (Err e) why a b err gives h = (h.0, λ f. h.1 (across e why gives f))
  where
    same : (w : SessionFault) → IsLinkFailure {X = X} (Err w) → IsLinkFailure {X = Y} (Err w)
    same fault.Read f = f
    same fault.Write f = f
    same fault.NoHop f = f
    same fault.TooManyReads f = f
    same fault.Desk f = f
    same fault.Memory f = f

    across : (e why : SessionFault) → e ≡ why → IsLinkFailure {X = X} (Err e) → IsLinkFailure {X = Y} (Err why)
    across e why is f = same why (subst (λ (w : SessionFault). IsLinkFailure {X = X} (Err w)) is f)

pub finish_counts : (o : Over) (r : Result Ended SessionFault) (a b : ℕ) → Finishes o r → a ≤ b → Counts (IsLinkFailure r) a b
finish_counts o r a b f h = no_failure r a b h (by_over o r f)
  where
    by_over : (o : Over) (r : Result Ended SessionFault) → Finishes o r → IsLinkFailure r → ⊥
    by_over (over.Ended e) r f g = subst (λ (x : Result Ended SessionFault). IsLinkFailure x) f g
    by_over over.Desk r f g = subst (λ (x : Result Ended SessionFault). IsLinkFailure x) f g
    by_over over.Memory r f g = subst (λ (x : Result Ended SessionFault). IsLinkFailure x) f g
