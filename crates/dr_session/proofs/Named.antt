-- What can be named has UIDs, and items do.
use Rattle.std.proofs.Common.{◌≡◌, ℕ, ◌≤◌, ◌&&◌, Bool, true, List, [], ◌∷◌, length, refl, nat_le}
use Rattle.std.specs.List.{AllByRecursion, list_all}
use Rattle.std.proofs.lemmas.Bool.{and_parts, and_from, leb-true, le-leb}
use Rattle.dr_base.specs.Texts.{Text}
use Rattle.dr_base.specs.Uids.{IsUid}
use Rattle.dr_ledger.specs.declared.content.Job.{Job}
use Rattle.dr_ledger.specs.Items.{IsItem}
use Rattle.dr_session.specs.Reactions.{can_be_named, is_graphic, is_uid}

graphic : (bytes : List ℕ) → list_all is_graphic bytes ≡ true → AllByRecursion (λ b. (0x21 ≤ b) × (b ≤ 0x7E)) bytes
graphic [] h = tt
graphic (b ∷ bytes) h =
    let both = and_parts (is_graphic b) (list_all is_graphic bytes) h in
    let one = and_parts (nat_le 0x21 b) (nat_le b 0x7E) both.0 in
    ((leb-true 0x21 b one.0, leb-true b 0x7E one.1), graphic bytes both.1)

all_graphic : (bytes : List ℕ) → AllByRecursion (λ b. (0x21 ≤ b) × (b ≤ 0x7E)) bytes → list_all is_graphic bytes ≡ true
all_graphic [] h = refl
all_graphic (b ∷ bytes) h =
    and_from (is_graphic b) (list_all is_graphic bytes) (and_from (nat_le 0x21 b) (nat_le b 0x7E) (le-leb 0x21 b h.0.0) (le-leb b 0x7E h.0.1)) (all_graphic bytes h.1)

is_a_uid : (uid : Text) → is_uid uid ≡ true → IsUid uid
is_a_uid uid h =
    let first = and_parts (nat_le 1 (length uid)) (nat_le (length uid) 64 && list_all is_graphic uid) h in
    let more = and_parts (nat_le (length uid) 64) (list_all is_graphic uid) first.1 in
    (leb-true 1 (length uid) first.0, leb-true (length uid) 64 more.0, graphic uid more.1)

uid_is : (uid : Text) → IsUid uid → is_uid uid ≡ true
uid_is uid h =
    and_from (nat_le 1 (length uid)) (nat_le (length uid) 64 && list_all is_graphic uid) (le-leb 1 (length uid) h.0)
    (and_from (nat_le (length uid) 64) (list_all is_graphic uid) (le-leb (length uid) 64 h.1) (all_graphic uid h.2))

pub named : (item : Job) → can_be_named item ≡ true → IsUid item.key.class × IsUid item.uid
named item h =
    let both = and_parts (is_uid item.key.class) (is_uid item.uid) h in
    (is_a_uid item.key.class both.0, is_a_uid item.uid both.1)

pub items_are_named : (item : Job) → IsItem item → can_be_named item ≡ true
items_are_named item is = and_from (is_uid item.key.class) (is_uid item.uid) (uid_is item.key.class is.class) (uid_is item.uid is.instance)
