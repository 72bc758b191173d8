-- What is told with a message is of the whole data set in its values.
use Rattle.std.proofs.Common.{◌≡◌, ◌≢◌, ℕ, ◌<◌, ◌≤◌, Bool, true, false, not, cond, List, [], ◌∷◌, ◌++◌, length, Option, Some, None, Result, Err, refl, sym, ap, subst, ◌∙◌, inl, inr, append_assoc}
use Rattle.std.specs.Prelude.{filter}
use Rattle.std.proofs.lemmas.Bool.{le-ltb, lt-ltb}
use Rattle.dr_base.specs.declared.syntax.Syntax.{Syntax}
use Rattle.dr_pdu.specs.declared.pdu.Pdv.{Pdv}
use Rattle.dr_dimse.specs.declared.command.Command.{Command}
use Rattle.dr_dimse.specs.declared.command.Command.TheVariants.{StoreRq, StoreRsp, EchoRq, EchoRsp, Other}
use Rattle.dr_dimse.specs.declared.message.Awaited.{Awaited}
use Rattle.dr_dimse.specs.declared.message.Body.{Body}
use Rattle.dr_dimse.specs.declared.message.Body.TheVariants.{Whole, TooLarge}
use Rattle.dr_dimse.specs.declared.message.Message.{Message}
use Rattle.dr_dimse.specs.Commands.{announces}
use Rattle.dr_dimse.specs.Messages.{is_command, joined, AreInner, body_of, IsMessage}
use Rattle.dr_dimse.specs.Taking.{GivesMessage}
use Rattle.dr_dimse.proofs.GivenLemmas.{given_is}
use Rattle.dr_dataset.specs.declared.fault.DataFault.{DataFault}
use Rattle.dr_dataset.specs.declared.fault.DataFault.TheVariants.{Memory}
use Rattle.dr_dataset.specs.declared.hearing.Scan.{Scan}
use Rattle.dr_dataset.specs.Hearing.{Hears}
use Rattle.dr_dataset.specs.declared.values.Attributes.{Attributes}
use Rattle.dr_dataset.specs.DataSet.{Scans}
use Rattle.dr_dataset.proofs.OneAnswerLemmas.{one_answer}
use Rattle.dr_dataset.proofs.SomeAnswerLemmas.{some_answer}
use Rattle.dr_dimse_scan.specs.Stores.{store_in, bytes_in, store_text, ReadsStore, IsScanOf}
use Rattle.dr_dimse_scan.specs.Fragments.{data_text}

-- ---- one answer

abbrev Told : Type 0
Told = Option (Result Attributes DataFault)

same_some : (r q : Result Attributes DataFault) → r ≡ q → ◌≡◌ {A = Told} (Some r) (Some q)
same_some r q e = ap (λ (x : Result Attributes DataFault). Some x) e

pub one_told : (s : Option Syntax) (text : Option (List ℕ)) (r q : Told) → r ≢ Some (Err Memory) → q ≢ Some (Err Memory) → ReadsStore s text r → ReadsStore s text q → r ≡ q
one_told (Some s) (Some text) (Some r) (Some q) mr mq h k = same_some r q (one_answer s text r q (λ e. mr (same_some r (Err Memory) e)) (λ e. mq (same_some q (Err Memory) e)) h k)
one_told (Some s) (Some text) None q mr mq h k = absurd h
one_told (Some s) (Some text) (Some r) None mr mq h k = absurd k
one_told (Some s) None r q mr mq h k = h ∙ sym k
one_told None text r q mr mq h k = h ∙ sym k

of_some : (r : Result Attributes DataFault) → r ≢ Err Memory → ◌≢◌ {A = Told} (Some r) (Some (Err Memory))
of_some r ne e = ne (cc)

pub some_told : (s : Option Syntax) (text : Option (List ℕ)) → (r : Told) × (r ≢ Some (Err Memory)) × ReadsStore s text r
some_told (Some s) (Some text) = let a = some_answer s text in (Some a.0, of_some a.0 a.1, a.2)
some_told (Some s) None = (None, (λ e. absurd (cc)), refl)
some_told None text = (None, (λ e. absurd (cc)), refl)

-- ---- stores alone

abbrev IsKeptStore : Command → Option Body → Type 0
IsKeptStore c body = (n : ℕ) × (class instance text : List ℕ) × (c ≡ StoreRq n class instance) × (body ≡ Some (Whole text))

kept_store : (s : Syntax) (c : Command) (body : Option Body) (found : Result Attributes DataFault) → ReadsStore (Some s) (bytes_in (store_in c body)) (Some found) → IsKeptStore c body
unfolding IsKeptStore
kept_store s (StoreRq n class instance) (Some (Whole text)) found h = (n, class, instance, text, refl, refl)
kept_store s (StoreRq n class instance) (Some TooLarge) found h = absurd (cc)
kept_store s (StoreRq n class instance) None found h = absurd (cc)
kept_store s (StoreRsp t u c i d) body found h = absurd (cc)
kept_store s (EchoRq i c d) body found h = absurd (cc)
kept_store s (EchoRsp t u c d) body found h = absurd (cc)
kept_store s (Other f i u d) body found h = absurd (cc)

pub stores_alone : (s : Option Syntax) (m : Message) (found : Result Attributes DataFault) → ReadsStore s (store_text m) (Some found)
    → (n : ℕ) × (class instance text : List ℕ) × (m.command ≡ StoreRq n class instance) × (m.body ≡ Some (Whole text))
stores_alone (Some s) m found h = kept_store s m.command m.body found h
stores_alone None m found h = absurd (cc)

-- ---- the data set among the values

abbrev data_values : List Pdv → List Pdv
data_values ps = filter (λ (p : Pdv). not (is_command p)) ps

passes_command : (p : Pdv) (ps : List Pdv) → is_command p ≡ true → data_values (p ∷ ps) ≡ data_values ps
passes_command p ps e = ap (λ (b : Bool). cond (not b) (p ∷ data_values ps) (data_values ps)) e

keeps_data : (p : Pdv) (ps : List Pdv) → is_command p ≡ false → data_values (p ∷ ps) ≡ p ∷ data_values ps
keeps_data p ps e = ap (λ (b : Bool). cond (not b) (p ∷ data_values ps) (data_values ps)) e

no_data : (id : ℕ) (front rest : List Pdv) → AreInner true id front → data_values (front ++ rest) ≡ data_values rest
no_data id [] rest a = refl
no_data id (p ∷ ps) rest a = passes_command p (ps ++ rest) a.0.0.1 ∙ no_data id ps rest a.1

all_data : (id : ℕ) (front rest : List Pdv) → AreInner false id front → data_values (front ++ rest) ≡ front ++ data_values rest
all_data id [] rest a = refl
all_data id (p ∷ ps) rest a = keeps_data p (ps ++ rest) a.0.0.1 ∙ ap (λ (x : List Pdv). p ∷ x) (all_data id ps rest a.1)

pub body_is : (ps : List Pdv) (m : Message) → IsMessage ps m → announces m.command ≡ true → m.body ≡ Some (body_of (data_text ps))
body_is ps m (cs, ds, text, split, whole, short, command, inl (follows, none, body)) yes_data = let e : false ≡ true = sym follows ∙ yes_data in absurd (cc)
body_is ps m (cs, ds, text, split, (front, final, parts, inner, kind, last, is), short, command, inr (follows, (body, (front', final', parts', inner', kind', last', is'), has))) yes_data =
    let all : ps ≡ front ++ final ∷ ds =
    split ∙ ap (λ (x : List Pdv). x ++ ds) parts ∙ append_assoc front (final ∷ []) ds in
    let behind : data_values ps ≡ data_values ds = ap (λ (x : List Pdv). data_values x) all ∙ no_data m.id front (final ∷ ds) inner ∙ passes_command final ds kind.1 in
    let own : data_values ds ≡ ds =
    ap (λ (x : List Pdv). data_values x) parts' ∙ all_data m.id front' (final' ∷ []) inner' ∙ ap (λ (x : List Pdv). front' ++ x) (keeps_data final' [] kind'.1) ∙ sym parts' in
    has ∙ ap (λ (t : List ℕ). Some (body_of t)) (is' ∙ sym (ap joined (behind ∙ own)))

-- of a store the bytes are those of its values
pub text_is : (ps : List Pdv) (m : Message) (n : ℕ) (class instance : List ℕ) → IsMessage ps m → m.command ≡ StoreRq n class instance → store_text m ≡ bytes_in (Some (body_of (data_text ps)))
text_is ps m n class instance is store =
    ap (λ (c : Command). bytes_in (store_in c m.body)) store ∙ ap (λ (b : Option Body). bytes_in b) (body_is ps m is (ap announces store))

kept_text : (t : List ℕ) → length t ≤ 67108864 → bytes_in (Some (body_of t)) ≡ Some t
kept_text t small = ap (λ (b : Bool). bytes_in (Some (cond b TooLarge (Whole t)))) (le-ltb 67108864 (length t) small)

large_text : (t : List ℕ) → 67108864 < length t → bytes_in (Some (body_of t)) ≡ None
large_text t large = ap (λ (b : Bool). bytes_in (Some (cond b TooLarge (Whole t)))) (lt-ltb 67108864 (length t) large)

some_found : (s : Syntax) (text : List ℕ) (told : Told) → ReadsStore (Some s) (Some text) told → (found : Result Attributes DataFault) × (told ≡ Some found) × Scans s text found
some_found s text (Some found) h = (found, refl, h)
some_found s text None h = absurd h

pub read_whole : (a : Awaited) (ps : List Pdv) (m : Message) (n : ℕ) (class instance : List ℕ) (s : Syntax) (told : Told) → GivesMessage a ps m → m.command ≡ StoreRq n class instance → length (data_text ps) ≤ 67108864
    → ReadsStore (Some s) (store_text m) told → (found : Result Attributes DataFault) × (told ≡ Some found) × Scans s (data_text ps) found
read_whole a ps m n class instance s told gives store small h =
    let is = (given_is a ps m gives).0 in
    let same : store_text m ≡ Some (data_text ps) = text_is ps m n class instance is store ∙ kept_text (data_text ps) small in
    some_found s (data_text ps) told (subst (λ (t : Option (List ℕ)). ReadsStore (Some s) t told) same h)

-- ---- too large

none_told : (s : Option Syntax) (told : Told) → ReadsStore s None told → told ≡ None
none_told (Some s) told h = h
none_told None told h = h

no_text : (c : Command) (t : List ℕ) (body : Option Body) → 67108864 < length t → (announces c ≡ true → body ≡ Some (body_of t)) → bytes_in (store_in c body) ≡ None
no_text (StoreRq n class instance) t body large is = ap (λ (b : Option Body). bytes_in b) (is refl) ∙ large_text t large
no_text (StoreRsp to u c i d) t body large is = refl
no_text (EchoRq i c d) t body large is = refl
no_text (EchoRsp to u c d) t body large is = refl
no_text (Other f i u d) t body large is = refl

pub large_is_none : (a : Awaited) (ps : List Pdv) (m : Message) (s : Option Syntax) (told : Told) → GivesMessage a ps m → 67108864 < length (data_text ps) → ReadsStore s (store_text m) told → told ≡ None
large_is_none a ps m s told gives large h =
    let is = (given_is a ps m gives).0 in
    let same : store_text m ≡ None = no_text m.command (data_text ps) m.body large (body_is ps m is) in
    none_told s told (subst (λ (t : Option (List ℕ)). ReadsStore s t told) same h)

-- ---- cuts

same_text : (c d : Command) (b e : Option Body) (t u : List ℕ) → (announces c ≡ true → b ≡ Some (body_of t)) → (announces d ≡ true → e ≡ Some (body_of u)) → c ≡ d → t ≡ u → bytes_in (store_in c b) ≡ bytes_in (store_in d e)
same_text c d b e t u is its same text = subst (λ (x : Command). (announces x ≡ true → e ≡ Some (body_of u)) → bytes_in (store_in c b) ≡ bytes_in (store_in x e)) same (alike c is) its
  where
    alike : (c : Command) → (announces c ≡ true → b ≡ Some (body_of t)) → (announces c ≡ true → e ≡ Some (body_of u)) → bytes_in (store_in c b) ≡ bytes_in (store_in c e)
    alike (StoreRq n class instance) is its = ap (λ (x : Option Body). bytes_in x) (is refl ∙ ap (λ (x : List ℕ). Some (body_of x)) text ∙ sym (its refl))
    alike (StoreRsp to v x i d) is its = refl
    alike (EchoRq i x d) is its = refl
    alike (EchoRsp to v x d) is its = refl
    alike (Other f i v d) is its = refl

pub cuts : (ps qs : List Pdv) (m o : Message) (s : Option Syntax) (r q : Told) → IsMessage ps m → IsMessage qs o → m.command ≡ o.command → data_text ps ≡ data_text qs
    → r ≢ Some (Err Memory) → q ≢ Some (Err Memory) → ReadsStore s (store_text m) r → ReadsStore s (store_text o) q → r ≡ q
cuts ps qs m o s r q is its command text mr mq h k =
    let same : store_text m ≡ store_text o = same_text m.command o.command m.body o.body (data_text ps) (data_text qs) (body_is ps m is) (body_is qs o its) command text in
    one_told s (store_text o) r q mr mq (subst (λ (t : Option (List ℕ)). ReadsStore s t r) same h) k

-- ---- by a scan

scanned : (s : Syntax) (bytes : Option (List ℕ)) (scan : Scan) (found : Result Attributes DataFault) → IsScanOf (Some s) bytes scan
    → ((t : Syntax) (x : List ℕ) → Hears t x scan → Scans t x found) → ReadsStore (Some s) bytes (Some found)
scanned s (Some t) scan found h scans = scans s t h
scanned s None scan found h scans = absurd h

-- what a scan of the bytes answers is what they are read as
pub read_by_scan : (syntax : Option Syntax) (s : Syntax) (bytes : Option (List ℕ)) (scan : Scan) (found : Result Attributes DataFault) → syntax ≡ Some s → IsScanOf syntax bytes scan
    → ((t : Syntax) (x : List ℕ) → Hears t x scan → Scans t x found) → ReadsStore syntax bytes (Some found)
read_by_scan syntax s bytes scan found named h scans =
    subst (λ (x : Option Syntax). ReadsStore x bytes (Some found)) (sym named) (scanned s bytes scan found (subst (λ (x : Option Syntax). IsScanOf x bytes scan) named h) scans)

pub read_at_once : (syntax : Option Syntax) (s : Syntax) (text : List ℕ) (bytes : Option (List ℕ)) (found : Result Attributes DataFault) → syntax ≡ Some s → Some text ≡ bytes → Scans s text found → ReadsStore syntax bytes (Some found)
read_at_once syntax s text bytes found named e h =
    subst (λ (x : Option Syntax). ReadsStore x bytes (Some found)) (sym named) (subst (λ (x : Option (List ℕ)). ReadsStore (Some s) x (Some found)) e h)
