-- The keys of a table, as its map lists them, and the keys that a table may have.
use Rattle.std.proofs.Common.{◌≡◌, ℕ, ◌<◌, ◌∙◌, List, [], ◌∷◌, map, length, get_or, Contains, String, Global, Bor, string_bytes, arith}
use Rattle.std.specs.Map.{keys_of}
use Rattle.std.proofs.lemmas.List.{get_or-map, get_or_default, length-map}
use Rattle.toml.specs.declared.value.Value.{Value}
use Rattle.toml.specs.View.{members_view}
use Rattle.dr_base.specs.Texts.{Text}
use Rattle.dr_plan_text.specs.Fields.{HasOnly}

abbrev pub AreKnown : List Text → List (String Global) → Type 0
AreKnown known [] = Unit {0}
AreKnown known (key ∷ keys) = Contains known (string_bytes key) × AreKnown known keys

pub HasOnly-keys : (known : List Text) (es : List (String Global × Value)) → AreKnown known (keys_of es) → HasOnly known (members_view es)
HasOnly-keys known [] h = tt
HasOnly-keys known (e ∷ es) h = (h.0, HasOnly-keys known es h.1)

pub AreKnown-keys : (known : List Text) (es : List (String Global × Value)) → HasOnly known (members_view es) → AreKnown known (keys_of es)
AreKnown-keys known [] h = tt
AreKnown-keys known (e ∷ es) h = (h.0, AreKnown-keys known es h.1)

abbrev Known : Type 0
Known = List (Bor Text)

abbrev texts_lent : Known → List Text
texts_lent known = map (λ (x : Bor Text). x.now) known

pub lent_at : (known : Known) (k : ℕ) (d : Bor Text) (e : Text) → k < length known → get_or (texts_lent known) k e ≡ (get_or known k d).now
lent_at known k d e h = get_or-map (λ (x : Bor Text). x.now) known k d e h

pub found_among : (known : Known) (k : ℕ) (d : Bor Text) (key : Text) → k < length known → (get_or known k d).now ≡ key → Contains (texts_lent known) key
found_among known k d key h same = (k, rw (length-map known (λ (x : Bor Text). x.now)) h, lent_at known k d key h ∙ same)

pub not_among : (known : Known) (key : Text) (n : ℕ) → n ≡ length known → ((k : ℕ) → k < n → get_or (texts_lent known) k [] ≡ key → ⊥) → Contains (texts_lent known) key → ⊥
not_among known key n all none among =
    let lt : among.0 < length (texts_lent known) = among.1 in
    let l : length (texts_lent known) ≡ length known = length-map known (λ (x : Bor Text). x.now) in
    let small : among.0 < n = omega arith in
    none among.0 small (get_or_default (texts_lent known) among.0 [] key lt ∙ among.2)
