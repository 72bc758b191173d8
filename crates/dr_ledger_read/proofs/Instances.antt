-- Instances, cut off the front of a text.
use Rattle.std.proofs.Common.{◌≡◌, ◌∙◌, ◌<◌, ◌^◌, ℕ, List, [], ◌∷◌, ◌++◌, Bor, refl, sym, ap, subst, arith, append_assoc, get_or, inl, codes, decimal}
use Rattle.dr_base.specs.Texts.{Text}
use Rattle.dr_base.specs.Syntaxes.{syntax_uid}
use Rattle.dr_base.specs.declared.syntax.Syntax.{Syntax}
use Rattle.dr_route.specs.declared.key.Key.{Key}
use Rattle.dr_ledger.specs.declared.item.Instance.{Instance}
use Rattle.dr_ledger_text.specs.Members.{number, word}
use Rattle.dr_ledger_read.specs.Behind.{digest_then, item_then, key_then}
use Rattle.dr_ledger_read.specs.Cutting.{HasNone, IsCut, Same}
use Rattle.dr_ledger_read.specs.Pieces.{Holds, IsCount, IsWord, EndsDigits}
use Rattle.dr_ledger_read.specs.Places.{IsDigest, IsItem, IsKey, IsSyntax, ShowsItem, ShowsKey}
use Rattle.dr_ledger_read.specs.declared.places.ItemPlaces.{ItemPlaces}
use Rattle.dr_ledger_read.specs.declared.places.KeyPlaces.{KeyPlaces}

-- a text in quotes behind given bytes was cut off
abbrev pub CutsWord : Text → Text → Bor Text → Bor Text → Type 0
CutsWord start text at rest = IsCut (Bor (List ℕ)) (List ℕ) (λ (p : Bor (List ℕ)). Holds p.now) (IsWord start text) (at, rest)

-- ---- what rules read

abbrev key_2 : Key → Text → Text
key_2 key x = word (codes "syntax") (syntax_uid key.syntax) ++ (word (codes "modality") key.modality ++ (word (codes "station") key.station ++ x))

abbrev key_3 : Key → Text → Text
key_3 key x = word (codes "modality") key.modality ++ (word (codes "station") key.station ++ x)

abbrev key_4 : Key → Text → Text
key_4 key x = word (codes "station") key.station ++ x

pub no_class : (text : Text) → HasNone (IsWord (codes ",\"class\":") text) → HasNone (IsKey text)
no_class text none key rest is = none key.class (key_2 key rest) (is.0.class, is.1)

module _ (text : Text) (class r1 : Bor Text) (c1 : CutsWord (codes ",\"class\":") text class r1) where
  after_class : (key : Key) (rest : Text) → IsKey text key rest → Holds class.now key.class × (key_2 key rest ≡ r1.now)
  after_class key rest is = c1.each key.class (key_2 key rest) (is.0.class, is.1)

  pub no_syntax_there : HasNone (IsSyntax r1.now) → HasNone (IsKey text)
  no_syntax_there none key rest is = none key.syntax (key_3 key rest) (sym (after_class key rest is).1)

  module _ (syntax : Syntax) (r2 : Bor Text) (c2 : IsCut Syntax Syntax Same (IsSyntax r1.now) (syntax, r2)) where
    after_syntax : (key : Key) (rest : Text) → IsKey text key rest → (syntax ≡ key.syntax) × (key_3 key rest ≡ r2.now)
    after_syntax key rest is = c2.each key.syntax (key_3 key rest) (sym (after_class key rest is).1)

    pub no_modality : HasNone (IsWord (codes ",\"modality\":") r2.now) → HasNone (IsKey text)
    no_modality none key rest is = none key.modality (key_4 key rest) (is.0.modality, sym (after_syntax key rest is).1)

    module _ (modality r3 : Bor Text) (c3 : CutsWord (codes ",\"modality\":") r2.now modality r3) where
      after_modality : (key : Key) (rest : Text) → IsKey text key rest → Holds modality.now key.modality × (key_4 key rest ≡ r3.now)
      after_modality key rest is = c3.each key.modality (key_4 key rest) (is.0.modality, sym (after_syntax key rest is).1)

      pub no_station : HasNone (IsWord (codes ",\"station\":") r3.now) → HasNone (IsKey text)
      no_station none key rest is = none key.station rest (is.0.station, sym (after_modality key rest is).1)

      pub key_cut : (station r4 : Bor Text) → CutsWord (codes ",\"station\":") r3.now station r4
          → IsCut KeyPlaces Key ShowsKey (IsKey text) (record { class = class; syntax = syntax; modality = modality; station = station }, r4)
      key_cut station r4 c4 = record {
        value = record { class = c1.value; syntax = c2.value; modality = c3.value; station = c4.value };
        is = (
          record { class = c1.is.0; modality = c3.is.0; station = c4.is.0 },
          c1.is.1 ∙ ap (λ (l : Text). word (codes "class") c1.value ++ l)
              (c2.is ∙ ap (λ (l : Text). word (codes "syntax") (syntax_uid c2.value) ++ l) (c3.is.1 ∙ ap (λ (l : Text). word (codes "modality") c3.value ++ l) c4.is.1)),
        );
        each = λ key rest is.
            let last = c4.each key.station rest (is.0.station, sym (after_modality key rest is).1) in (
              record { class = (after_class key rest is).0; syntax = (after_syntax key rest is).0; modality = (after_modality key rest is).0; station = last.0 },
              last.1,
            );
      }

-- ---- an instance

abbrev item_2 : Instance → Text → Text
item_2 item x = key_then item.key (number (codes "length") item.size ++ digest_then item.digest x)

abbrev item_3 : Instance → Text → Text
item_3 item x = number (codes "length") item.size ++ digest_then item.digest x

pub comma : (x : Text) → get_or x 0 0 ≡ 44 → EndsDigits x
comma x e = record { it = inl (omega (arith, e)) }

pub no_uid : (text : Text) → HasNone (IsWord (codes ",\"uid\":") text) → HasNone (IsItem text)
no_uid text none item rest is = none item.uid (item_2 item rest) (is.0.uid, is.1)

module _ (text : Text) (uid r1 : Bor Text) (c1 : CutsWord (codes ",\"uid\":") text uid r1) where
  after_uid : (item : Instance) (rest : Text) → IsItem text item rest → Holds uid.now item.uid × (item_2 item rest ≡ r1.now)
  after_uid item rest is = c1.each item.uid (item_2 item rest) (is.0.uid, is.1)

  pub no_key : HasNone (IsKey r1.now) → HasNone (IsItem text)
  no_key none item rest is = none item.key (item_3 item rest) (is.0.key, sym (after_uid item rest is).1)

  module _ (key : KeyPlaces) (r2 : Bor Text) (c2 : IsCut KeyPlaces Key ShowsKey (IsKey r1.now) (key, r2)) where
    after_key : (item : Instance) (rest : Text) → IsItem text item rest → ShowsKey key item.key × (item_3 item rest ≡ r2.now)
    after_key item rest is = c2.each item.key (item_3 item rest) (is.0.key, sym (after_uid item rest is).1)

    size_there : (item : Instance) (rest : Text) → IsItem text item rest → IsCount (codes ",\"length\":") r2.now item.size (digest_then item.digest rest)
    size_there item rest is = (is.0.size, comma (digest_then item.digest rest) refl, sym (after_key item rest is).1)

    pub no_size : HasNone (IsCount (codes ",\"length\":") r2.now) → HasNone (IsItem text)
    no_size none item rest is = none item.size (digest_then item.digest rest) (size_there item rest is)

    module _ (size : ℕ) (r3 : Bor Text) (c3 : IsCut ℕ ℕ Same (IsCount (codes ",\"length\":") r2.now) (size, r3)) where
      after_size : (item : Instance) (rest : Text) → IsItem text item rest → (size ≡ item.size) × (digest_then item.digest rest ≡ r3.now)
      after_size item rest is = c3.each item.size (digest_then item.digest rest) (size_there item rest is)

      pub no_sha : HasNone (IsDigest r3.now) → HasNone (IsItem text)
      no_sha none item rest is = none item.digest rest (is.0.digest, sym (after_size item rest is).1)

      pub item_cut : (digest : List ℕ) (r4 : Bor Text) → IsCut (List ℕ) (List ℕ) Same (IsDigest r3.now) (digest, r4)
          → IsCut ItemPlaces Instance ShowsItem (IsItem text) (record { uid = uid; key = key; size = size; digest = digest }, r4)
      item_cut digest r4 c4 = record {
        value = record { uid = c1.value; key = c2.value; size = c3.value; digest = c4.value };
        is = (
          record { uid = c1.is.0; key = c2.is.0; size = c3.is.0; digest = c4.is.0 },
          c1.is.1 ∙ ap (λ (l : Text). word (codes "uid") c1.value ++ l)
              (c2.is.1 ∙ ap (λ (l : Text). key_then c2.value l) (c3.is.2 ∙ ap (λ (l : Text). number (codes "length") c3.value ++ l) c4.is.1)),
        );
        each = λ item rest is.
            let last = c4.each item.digest rest (is.0.digest, sym (after_size item rest is).1) in (
              record { uid = (after_uid item rest is).0; key = (after_key item rest is).0; size = (after_size item rest is).0; digest = last.0 },
              last.1,
            );
      }

-- ---- what stands at places

abbrev key_of : Text → Syntax → Text → Text → Key
key_of class syntax modality station = record { class = class; syntax = syntax; modality = modality; station = station }

pub same_key : (class modality station : Text) (places : KeyPlaces) (key : Key) → class ≡ key.class → modality ≡ key.modality → station ≡ key.station → places.syntax ≡ key.syntax
    → key_of class places.syntax modality station ≡ key_of key.class key.syntax key.modality key.station
same_key class modality station places key e f g h =
    ap (λ (t : Text). key_of t places.syntax modality station) e ∙ ap (λ (s : Syntax). key_of key.class s modality station) h ∙ ap (λ (t : Text). key_of key.class key.syntax t station) f
    ∙ ap (λ (t : Text). key_of key.class key.syntax key.modality t) g

abbrev item_of : Text → Key → ℕ → List ℕ → Instance
item_of uid key size digest = record { uid = uid; key = key; size = size; digest = digest }

pub same_item : (uid : Text) (key : Key) (size : ℕ) (digest : List ℕ) (item : Instance) → uid ≡ item.uid → key ≡ item.key → size ≡ item.size → digest ≡ item.digest
    → item_of uid key size digest ≡ item_of item.uid item.key item.size item.digest
same_item uid key size digest item e f g h =
    ap (λ (t : Text). item_of t key size digest) e ∙ ap (λ (k : Key). item_of item.uid k size digest) f ∙ ap (λ (n : ℕ). item_of item.uid item.key n digest) g
    ∙ ap (λ (l : List ℕ). item_of item.uid item.key item.size l) h
