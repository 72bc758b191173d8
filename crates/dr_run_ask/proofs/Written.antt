-- What is read of a form that was written.
use Rattle.std.proofs.Common.{◌≡◌, ◌≢◌, ◌∙◌, ◌<◌, ℕ, List, [], ◌∷◌, ◌++◌, All, length, ⊎_elim, ap, append_assoc, arith, length-append, refl}
use Rattle.std.specs.Prelude.{Some, None, codes, option_map}
use Rattle.std.proofs.lemmas.Bool.{cond-true, lt-ltb}
use Rattle.std.proofs.lemmas.Bool.Decides.{nat_tests}
use Rattle.std.proofs.lemmas.List.Elements.{All-nil, All-cons, All-append, All-weaker}
use Rattle.form_urlencoded.specs.Form.{byte_serialize, decode, extend_pairs, raw_pairs, separator, serialize_pair, split_once, split_pair}
use Rattle.form_urlencoded.proofs.FormLemmas.{All-byte_serialize, IsSerializedByte, decode-byte_serialize, raw_pairs-nil, raw_pairs_first, split_once_after_at, split_once_after_none, split_once_before_at, split_once_before_none}
use Rattle.form_urlencoded.proofs.OnLiterals.{form_urlencoded_on_literals}
use Rattle.dr_base.specs.Texts.{Text}
use Rattle.dr_run_request.specs.Forms.{first_value, value_in}
use Rattle.dr_run_ask.specs.Calls.{copy_form, dest_form, reason_form, row_form, rows_form, uid_form}
use Rattle.dr_run_ask.specs.Laws.{AreBytes, ReadsTwo}

abbrev Pair : Type 0
Pair = List ℕ × List ℕ

not_separator : (b : ℕ) → IsSerializedByte b → (b ≢ 38) × (b ≢ 61)
not_separator b h =
    ⊎_elim (λ kept. (λ e. grind (arith, nat_tests), λ e. grind (arith, nat_tests))) (λ other. (λ e. grind arith, λ e. grind arith)) h.allowed

no_ampersand : (pair : Pair) → All (λ b. b ≢ 38) (serialize_pair pair)
no_ampersand pair =
    let P = λ (b : ℕ). b ≢ 38 in
    let part = λ (bs : List ℕ). All-weaker IsSerializedByte P (λ b x. (not_separator b x).0) (byte_serialize bs) (All-byte_serialize bs) in
    All-append P (byte_serialize pair.0 ++ 61 ∷ []) (byte_serialize pair.1) (All-append P (byte_serialize pair.0) (61 ∷ []) (part pair.0) (All-cons P 61 [] (λ e. omega arith) (All-nil P))) (part pair.1)

split_written : (pair : Pair) → split_pair (serialize_pair pair) ≡ (byte_serialize pair.0, byte_serialize pair.1)
split_written pair =
    let none = All-weaker IsSerializedByte (λ b. b ≢ 61) (λ b x. (not_separator b x).1) (byte_serialize pair.0) (All-byte_serialize pair.0) in
    rw (append_assoc, split_once_before_at 61 _ (byte_serialize pair.1) none, split_once_after_at 61 _ (byte_serialize pair.1) none)

is_some : (pair : Pair) → 0 < length (serialize_pair pair)
is_some pair = simp length-append (omega arith)

-- a pair that was written in front is the first one
first_is : (pair : Pair) (input rest : List ℕ) → (split_once 38 input).0 ≡ serialize_pair pair → (split_once 38 input).1 ≡ rest
    → raw_pairs input ≡ (byte_serialize pair.0, byte_serialize pair.1) ∷ raw_pairs rest
first_is pair input rest first others =
    let some : 0 < length ((split_once 38 input).0) = rw first (is_some pair) in
    raw_pairs_first input some
    ∙ ap (λ (t : List ℕ). split_pair t ∷ raw_pairs ((split_once 38 input).1)) first
    ∙ ap (λ (t : List ℕ). split_pair (serialize_pair pair) ∷ raw_pairs t) others
    ∙ ap (λ (p : Pair). p ∷ raw_pairs rest) (split_written pair)

-- one pair that was written, and two
one_is : (pair : Pair) → raw_pairs (serialize_pair pair) ≡ (byte_serialize pair.0, byte_serialize pair.1) ∷ []
one_is pair =
    let none = no_ampersand pair in
    first_is pair (serialize_pair pair) [] (split_once_before_none 38 _ none) (split_once_after_none 38 _ none)
    ∙ ap (λ (l : List Pair). (byte_serialize pair.0, byte_serialize pair.1) ∷ l) raw_pairs-nil

two_are : (one two : Pair)
    → raw_pairs (serialize_pair one ++ 38 ∷ serialize_pair two) ≡ (byte_serialize one.0, byte_serialize one.1) ∷ (byte_serialize two.0, byte_serialize two.1) ∷ []
two_are one two =
    let none = no_ampersand one in
    let rest = serialize_pair two in
    first_is one (serialize_pair one ++ 38 ∷ rest) rest (split_once_before_at 38 _ rest none) (split_once_after_at 38 _ rest none)
    ∙ ap (λ (l : List Pair). (byte_serialize one.0, byte_serialize one.1) ∷ l) (one_is two)

three_are : (one two three : Pair)
    → raw_pairs (serialize_pair one ++ 38 ∷ (serialize_pair two ++ 38 ∷ serialize_pair three))
    ≡ (byte_serialize one.0, byte_serialize one.1) ∷ (byte_serialize two.0, byte_serialize two.1)
    ∷ (byte_serialize three.0, byte_serialize three.1) ∷ []
three_are one two three =
    let none = no_ampersand one in
    let rest = serialize_pair two ++ 38 ∷ serialize_pair three in
    first_is one (serialize_pair one ++ 38 ∷ rest) rest (split_once_before_at 38 _ rest none)
    (split_once_after_at 38 _ rest none)
    ∙ ap (λ (l : List Pair). (byte_serialize one.0, byte_serialize one.1) ∷ l) (two_are two three)

-- two pairs are joined by an ampersand
joined : (one two : Pair) → extend_pairs [] (one ∷ two ∷ []) ≡ serialize_pair one ++ 38 ∷ serialize_pair two
joined one two =
    let front = serialize_pair one in
    let sep : separator front ≡ 38 ∷ [] = cond-true _ _ _ (lt-ltb 0 _ (is_some one)) in
    ap (λ (s : List ℕ). front ++ s ++ serialize_pair two) sep ∙ append_assoc front (38 ∷ []) (serialize_pair two)

-- and three
joined_3 : (one two three : Pair)
    → extend_pairs [] (one ∷ two ∷ three ∷ [])
    ≡ serialize_pair one ++ 38 ∷ (serialize_pair two ++ 38 ∷ serialize_pair three)
joined_3 one two three =
    let front = serialize_pair one ++ 38 ∷ serialize_pair two in
    let last = serialize_pair three in
    let some : 0 < length front = simp length-append (omega arith) in
    let sep : separator front ≡ 38 ∷ [] = cond-true _ _ _ (lt-ltb 0 _ some) in
    ap (λ (s : List ℕ). s ++ separator s ++ last) (joined one two)
    ∙ ap (λ (s : List ℕ). front ++ s ++ last) sep
    ∙ append_assoc front (38 ∷ []) last
    ∙ append_assoc (serialize_pair one) (38 ∷ serialize_pair two) (38 ∷ last)

-- the names of fields are written as they are
uid_name : byte_serialize (codes "uid") ≡ codes "uid"
unfolding form_urlencoded_on_literals
uid_name = refl

dest_name : byte_serialize (codes "dest") ≡ codes "dest"
unfolding form_urlencoded_on_literals
dest_name = refl

reason_name : byte_serialize (codes "reason") ≡ codes "reason"
unfolding form_urlencoded_on_literals
reason_name = refl

copy_name : byte_serialize (codes "copy") ≡ codes "copy"
unfolding form_urlencoded_on_literals
copy_name = refl

after_name : byte_serialize (codes "after") ≡ codes "after"
unfolding form_urlencoded_on_literals
after_name = refl

-- what a form of these pairs says of a name
says : (form name value : Text) (pairs : List Pair) → raw_pairs form ≡ pairs → first_value pairs name ≡ Some (byte_serialize value) → AreBytes value → value_in form name ≡ Some value
says form name value pairs are found bytes =
    ap (λ (l : List Pair). option_map decode (first_value l name)) are ∙ ap (option_map decode) found ∙ ap Some (decode-byte_serialize value bytes)

row_pairs : (uid dest : Text) → raw_pairs (row_form uid dest) ≡ (codes "uid", byte_serialize uid) ∷ (codes "dest", byte_serialize dest) ∷ []
row_pairs uid dest =
    ap raw_pairs (joined (codes "uid", uid) (codes "dest", dest)) ∙ two_are (codes "uid", uid) (codes "dest", dest)
    ∙ ap (λ (n : List ℕ). (n, byte_serialize uid) ∷ (byte_serialize (codes "dest"), byte_serialize dest) ∷ []) uid_name
    ∙ ap (λ (n : List ℕ). (codes "uid", byte_serialize uid) ∷ (n, byte_serialize dest) ∷ []) dest_name

reason_pairs : (uid dest reason : Text)
    → raw_pairs (reason_form uid dest reason)
    ≡ (codes "uid", byte_serialize uid) ∷ (codes "dest", byte_serialize dest)
    ∷ (codes "reason", byte_serialize reason) ∷ []
reason_pairs uid dest reason =
    let last = byte_serialize reason in
    ap raw_pairs (joined_3 (codes "uid", uid) (codes "dest", dest) (codes "reason", reason))
    ∙ three_are (codes "uid", uid) (codes "dest", dest) (codes "reason", reason)
    ∙ ap (λ (n : List ℕ). (n, byte_serialize uid) ∷ (byte_serialize (codes "dest"), byte_serialize dest)
    ∷ (byte_serialize (codes "reason"), last) ∷ []) uid_name
    ∙ ap (λ (n : List ℕ). (codes "uid", byte_serialize uid) ∷ (n, byte_serialize dest)
    ∷ (byte_serialize (codes "reason"), last) ∷ []) dest_name
    ∙ ap (λ (n : List ℕ). (codes "uid", byte_serialize uid) ∷ (codes "dest", byte_serialize dest)
    ∷ (n, last) ∷ []) reason_name

rows_pairs : (dest after : Text) → raw_pairs (rows_form dest after) ≡ (codes "dest", byte_serialize dest) ∷ (codes "after", byte_serialize after) ∷ []
rows_pairs dest after =
    ap raw_pairs (joined (codes "dest", dest) (codes "after", after)) ∙ two_are (codes "dest", dest) (codes "after", after)
    ∙ ap (λ (n : List ℕ). (n, byte_serialize dest) ∷ (byte_serialize (codes "after"), byte_serialize after) ∷ []) dest_name
    ∙ ap (λ (n : List ℕ). (codes "dest", byte_serialize dest) ∷ (n, byte_serialize after) ∷ []) after_name

dest_pairs : (dest : Text) → raw_pairs (dest_form dest) ≡ (codes "dest", byte_serialize dest) ∷ []
dest_pairs dest = one_is (codes "dest", dest) ∙ ap (λ (n : List ℕ). (n, byte_serialize dest) ∷ []) dest_name

uid_pairs : (uid : Text) → raw_pairs (uid_form uid) ≡ (codes "uid", byte_serialize uid) ∷ []
uid_pairs uid = one_is (codes "uid", uid) ∙ ap (λ (n : List ℕ). (n, byte_serialize uid) ∷ []) uid_name

copy_pairs : (path : Text) → raw_pairs (copy_form path) ≡ (codes "copy", byte_serialize path) ∷ []
copy_pairs path = one_is (codes "copy", path) ∙ ap (λ (n : List ℕ). (n, byte_serialize path) ∷ []) copy_name

pub row_read : (uid dest : Text) → AreBytes uid → AreBytes dest
    → ReadsTwo (row_form uid dest) (codes "uid") uid (codes "dest") dest
    × (value_in (row_form uid dest) (codes "reason") ≡ None)
row_read uid dest a b = (
  (
    says _ (codes "uid") uid _ (row_pairs uid dest) refl a,
    says _ (codes "dest") dest _ (row_pairs uid dest) refl b,
  ),
  ap (λ (l : List Pair). option_map decode (first_value l (codes "reason"))) (row_pairs uid dest),
)

pub reason_read : (uid dest reason : Text) → AreBytes uid → AreBytes dest → AreBytes reason
    → ReadsTwo (reason_form uid dest reason) (codes "uid") uid (codes "dest") dest
    × (value_in (reason_form uid dest reason) (codes "reason") ≡ Some reason)
reason_read uid dest reason a b d =
    let pairs = reason_pairs uid dest reason in (
      (says _ (codes "uid") uid _ pairs refl a, says _ (codes "dest") dest _ pairs refl b),
      says _ (codes "reason") reason _ pairs refl d,
    )

pub rows_read : (dest after : Text) → AreBytes dest → AreBytes after
    → ReadsTwo (rows_form dest after) (codes "dest") dest (codes "after") after × (value_in (rows_form dest after) (codes "state") ≡ None)
rows_read dest after a b = (
  (says _ (codes "dest") dest _ (rows_pairs dest after) refl a, says _ (codes "after") after _ (rows_pairs dest after) refl b),
  ap (λ (l : List Pair). option_map decode (first_value l (codes "state"))) (rows_pairs dest after),
)

pub dest_read : (dest : Text) → AreBytes dest → (value_in (dest_form dest) (codes "uid") ≡ None) × (value_in (dest_form dest) (codes "dest") ≡ Some dest)
dest_read dest a = (
  ap (λ (l : List Pair). option_map decode (first_value l (codes "uid"))) (dest_pairs dest),
  says _ (codes "dest") dest _ (dest_pairs dest) refl a,
)

pub uid_read : (uid : Text) → AreBytes uid → value_in (uid_form uid) (codes "uid") ≡ Some uid
uid_read uid a = says _ (codes "uid") uid _ (uid_pairs uid) refl a

pub copy_read : (path : Text) → AreBytes path → value_in (copy_form path) (codes "copy") ≡ Some path
copy_read path a = says _ (codes "copy") path _ (copy_pairs path) refl a
