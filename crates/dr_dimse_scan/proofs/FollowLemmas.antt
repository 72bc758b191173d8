-- A scan has heard what has come of a data set, whatever value comes next.
use Rattle.std.proofs.Common.{◌≡◌, ℕ, Bool, true, false, List, ◌++◌, length, take, drop, Option, Some, None, Ok, sym, subst, arith, inl, inr}
use Rattle.std.specs.Prelude.{IfSome, if◌then◌else◌}
use Rattle.std.proofs.lemmas.List.{take_at, take-append-drop, length-append}
use Rattle.dr_base.specs.declared.syntax.Syntax.{Syntax}
use Rattle.dr_pdu.specs.declared.pdu.Pdv.{Pdv}
use Rattle.dr_dimse.specs.declared.command.Command.{Command}
use Rattle.dr_dimse.specs.declared.command.Command.TheVariants.{StoreRq, StoreRsp, EchoRq, EchoRsp, Other}
use Rattle.dr_dimse.specs.declared.message.Awaited.{Awaited}
use Rattle.dr_dimse.specs.declared.message.Body.{Body}
use Rattle.dr_dimse.specs.declared.message.Body.TheVariants.{Whole, TooLarge}
use Rattle.dr_dimse.specs.declared.message.Message.{Message}
use Rattle.dr_dimse.specs.Taking.{MessageStage, Idle, InCommand, InData, bytes_of, data_so_far, wants_command, kept, TakesData, TakesValue}
use Rattle.dr_dataset.specs.declared.hearing.Scan.{Scan}
use Rattle.dr_dataset.specs.Hearing.{Hears, HearsMore}
use Rattle.dr_dimse_scan.specs.declared.hearing.Reading.{Reading}
use Rattle.dr_dimse_scan.specs.Stores.{store_in, bytes_in, IsScanOf}
use Rattle.dr_dimse_scan.specs.Following.{is_storing, store_of, HearsAll, HearsFirst, HasHeard, HasHeardFirst}

-- ---- one scan

-- behind the first bytes of a text it hears the others
pub hears_rest : (s : Syntax) (n : ℕ) (text more : List ℕ) (old new : Scan) → more ≡ drop n text → HearsMore old more new → Hears s (take n text) old → Hears s text new
hears_rest s n text more old new is on h =
    subst (λ (x : List ℕ). Hears s x new) (take-append-drop n text) (subst (λ (x : List ℕ). Hears s (take n text ++ x) new) is (on s (take n text) h))

-- it is the data set under way that it has heard now
hears_on : (n : ℕ) (old new : Reading) (stage : MessageStage) (bytes : List ℕ) → HearsFirst n old (store_of stage) → bytes ≡ data_so_far stage
    → (new.syntax ≡ old.syntax) × ((s : Syntax) → Hears s (take n bytes) old.scan.value → Hears s bytes new.scan.value) → HearsAll new (store_of stage)
hears_on n old new Idle bytes h e on = absurd h
hears_on n old new (InCommand id text) bytes h e on = absurd h
hears_on n old new (InData id (StoreRq i c u) (Whole text)) bytes h e on =
    let before : Hears old.syntax (take n bytes) old.scan.value = subst (λ (x : List ℕ). Hears old.syntax (take n x) old.scan.value) (sym e) h.1 in
    let after : Hears old.syntax text new.scan.value = subst (λ (x : List ℕ). Hears old.syntax x new.scan.value) e (on.1 old.syntax before) in
    subst (λ (s : Syntax). Hears s text new.scan.value) (sym on.0) after
hears_on n old new (InData id (StoreRq i c u) TooLarge) bytes h e on = tt
hears_on n old new (InData id (StoreRsp t s c u d) body) bytes h e on = absurd h
hears_on n old new (InData id (EchoRq i c d) body) bytes h e on = absurd h
hears_on n old new (InData id (EchoRsp t s c d) body) bytes h e on = absurd h
hears_on n old new (InData id (Other f i s d) body) bytes h e on = absurd h

pub follows : (n : ℕ) (reading : Option Reading) (old : Reading) (new : Option Reading) (stage : MessageStage) (bytes : List ℕ) → reading ≡ Some old → HasHeardFirst n reading (store_of stage) → bytes ≡ data_so_far stage
    → IfSome new (λ (r : Reading). (r.syntax ≡ old.syntax) × ((s : Syntax) → Hears s (take n bytes) old.scan.value → Hears s bytes r.scan.value)) → HasHeard new stage
follows n reading old None stage bytes is h e on = tt
follows n reading old (Some r) stage bytes is h e on = hears_on n old r stage bytes (subst (λ (x : Option Reading). HasHeardFirst n x (store_of stage)) is h) e on

-- a scan that has heard the bytes so far
hears_first : (new : Reading) (stage : MessageStage) (bytes : List ℕ) → is_storing stage ≡ true → bytes ≡ data_so_far stage → Hears new.syntax bytes new.scan.value → HearsAll new (store_of stage)
hears_first new Idle bytes is e h = absurd (cc)
hears_first new (InCommand id text) bytes is e h = absurd (cc)
hears_first new (InData id (StoreRq i c u) (Whole text)) bytes is e h = subst (λ (x : List ℕ). Hears new.syntax x new.scan.value) e h
hears_first new (InData id (StoreRq i c u) TooLarge) bytes is e h = tt
hears_first new (InData id (StoreRsp t s c u d) body) bytes is e h = absurd (cc)
hears_first new (InData id (EchoRq i c d) body) bytes is e h = absurd (cc)
hears_first new (InData id (EchoRsp t s c d) body) bytes is e h = absurd (cc)
hears_first new (InData id (Other f i s d) body) bytes is e h = absurd (cc)

pub begins : (new : Option Reading) (stage : MessageStage) (bytes : List ℕ) → is_storing stage ≡ true → bytes ≡ data_so_far stage
    → IfSome new (λ (r : Reading). Hears r.syntax bytes r.scan.value) → HasHeard new stage
begins None stage bytes is e h = tt
begins (Some r) stage bytes is e h = hears_first r stage bytes is e h

-- ---- one value more

sized : (b : Bool) (text more : List ℕ) (r : Reading) (n : ℕ) → Hears r.syntax text r.scan.value → n ≡ length text → HearsFirst n r (Some (if b then TooLarge else Whole (text ++ more)))
sized true text more r n h e = tt
sized false text more r n h e =
    (omega (arith, e, length-append text more), subst (λ (x : List ℕ). Hears r.syntax x r.scan.value) (sym (take_at text more n (sym e))) h)

-- what it has heard is the front of the data set with one more fragment
grows : (c : Command) (body : Body) (more : List ℕ) (r : Reading) (n : ℕ) → HearsAll r (store_in c (Some body)) → n ≡ length (bytes_of body) → HearsFirst n r (store_in c (Some (kept body more)))
grows (StoreRq i c u) (Whole text) more r n h e = sized _ text more r n h e
grows (StoreRq i c u) TooLarge more r n h e = tt
grows (StoreRsp t s c u d) body more r n h e = absurd h
grows (EchoRq i c d) body more r n h e = absurd h
grows (EchoRsp t s c d) body more r n h e = absurd h
grows (Other f i s d) body more r n h e = absurd h

no_store : (s : MessageStage) (r : Reading) → HearsAll r (store_of s) → wants_command s ≡ true → ⊥
no_store Idle r h w = h
no_store (InCommand id text) r h w = h
no_store (InData id c body) r h w = absurd (cc)

data_on : (old : MessageStage) (p : Pdv) (new : MessageStage) (r : Reading) (n : ℕ) → HearsAll r (store_of old) → n ≡ length (data_so_far old) → TakesData old p None new → HearsFirst n r (store_of new)
data_on Idle p new r n h e t = absurd h
data_on (InCommand id text) p new r n h e t = absurd h
data_on (InData id c body) p new r n h e t = subst (λ (s : MessageStage). HearsFirst n r (store_of s)) (sym t.1) (grows c body p.fragment r n h e)

data_ends : (old : MessageStage) (p : Pdv) (m : Message) (new : MessageStage) (r : Reading) (n : ℕ) → HearsAll r (store_of old) → n ≡ length (data_so_far old) → TakesData old p (Some m) new → HearsFirst n r (store_in m.command m.body)
data_ends Idle p m new r n h e t = absurd h
data_ends (InCommand id text) p m new r n h e t = absurd h
data_ends (InData id c body) p m new r n h e t = subst (λ (x : Message). HearsFirst n r (store_in x.command x.body)) (sym t.1) (grows c body p.fragment r n h e)

-- behind a value that ends no message
pub goes_on : (a : Awaited) (old : MessageStage) (p : Pdv) (new : MessageStage) (reading : Option Reading) (n : ℕ) → HasHeard reading old → n ≡ length (data_so_far old) → TakesValue a old p (Ok None) new → HasHeardFirst n reading (store_of new)
goes_on a old p new None n h e t = tt
goes_on a old p new (Some r) n h e (inl t) = data_on old p new r n h e t.2
goes_on a old p new (Some r) n h e (inr (inl t)) = absurd (no_store old r h t.0.1)
goes_on a old p new (Some r) n h e (inr (inr t)) = absurd (no_store old r h t.2.0.1)

-- behind one that does
pub ends : (a : Awaited) (old : MessageStage) (p : Pdv) (m : Message) (new : MessageStage) (reading : Option Reading) (n : ℕ) → HasHeard reading old → n ≡ length (data_so_far old) → TakesValue a old p (Ok (Some m)) new → HasHeardFirst n reading (store_in m.command m.body)
ends a old p m new None n h e t = tt
ends a old p m new (Some r) n h e (inl t) = data_ends old p m new r n h e t.2
ends a old p m new (Some r) n h e (inr (inl t)) = absurd (no_store old r h t.0.1)
ends a old p m new (Some r) n h e (inr (inr t)) = absurd (no_store old r h t.2.0.1)

-- ---- a whole data set

-- what is heard of a body is heard of its bytes
front_of : (n : ℕ) (r : Reading) (body : Option Body) (text : List ℕ) → HearsFirst n r body → Some text ≡ bytes_in body → Hears r.syntax (take n text) r.scan.value
front_of n r None text h e = absurd h
front_of n r (Some TooLarge) text h e = absurd (cc)
front_of n r (Some (Whole t)) text h e =
    let same : text ≡ t = cc in
    subst (λ (x : List ℕ). Hears r.syntax (take n x) r.scan.value) (sym same) h.1

pub hears_whole : (syntax : Option Syntax) (s : Syntax) (n : ℕ) (text : List ℕ) (body : Option Body) (reading : Option Reading) (old new : Reading) → syntax ≡ Some s → reading ≡ Some old → HasHeardFirst n reading body
    → Some text ≡ bytes_in body → old.syntax ≡ s → ((t : Syntax) → Hears t (take n text) old.scan.value → Hears t text new.scan.value) → IsScanOf syntax (bytes_in body) new.scan.value
hears_whole syntax s n text body reading old new named is h e same on =
    let heard = front_of n old body text (subst (λ (x : Option Reading). HasHeardFirst n x body) is h) e in
    let whole : IsScanOf (Some s) (Some text) new.scan.value = on s (subst (λ (x : Syntax). Hears x (take n text) old.scan.value) same heard) in
    subst (λ (x : Option Syntax). IsScanOf x (bytes_in body) new.scan.value) (sym named) (subst (λ (x : Option (List ℕ)). IsScanOf (Some s) x new.scan.value) e whole)
