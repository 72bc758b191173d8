-- The bytes of the head, and of a mark in the tables.
use Rattle.std.proofs.Common.{◌≡◌, ◌∙◌, ℕ, [], ◌+◌, ◌^◌, ◌<◌, ◌≤◌, List, ◌++◌, length, take, drop, slice_index, sym, ap, subst, refl, arith}
use Rattle.std.proofs.Common.{length-append, take_at, drop_at, replicate}
use Rattle.std.specs.Int.{w64, from_le_bytes, to_le_bytes}
use Rattle.std.specs.Prelude.{codes}
use Rattle.std.proofs.lemmas.List.{ext_get_or, length-replicate}
use Rattle.std.proofs.lemmas.Nat.{from_le_bytes-to_le_bytes_8}
use Rattle.sqlite_disk.specs.Disk.{Holds}
use Rattle.dr_store_data.specs.declared.mark.DataMark.{DataMark}
use Rattle.dr_store_data.specs.Heads.{HasHead, IsMarkOf, bytes_of_mark, head_of}

-- what a file has at a place is one text of so many bytes
pub one_text : (seen xs ys : List ℕ) (at : ℕ) → length xs ≡ length ys → Holds seen at xs → Holds seen at ys → xs ≡ ys
one_text seen xs ys at long one two =
    ext_get_or 0 xs ys long (λ i low. sym (one.each i low) ∙ two.each i (omega (arith, low, long)))

pub head_length : (mark : List ℕ) → length mark ≡ 16 → length (head_of mark) ≡ 4096
head_length mark long =
    length-append (codes "Bitrusset data 1" ++ mark) (replicate 4064 0)
    ∙ omega (arith, long, length-append (codes "Bitrusset data 1") mark, length-replicate {A = ℕ} 4064 0)

mark_back : (mark : List ℕ) → length mark ≡ 16 → drop 16 (take 32 (head_of mark)) ≡ mark
mark_back mark long =
    ap (drop 16)
    (take_at (codes "Bitrusset data 1" ++ mark) (replicate 4064 0) 32
    (length-append (codes "Bitrusset data 1") mark ∙ omega (arith, long)))
    ∙ drop_at (codes "Bitrusset data 1") mark 16 refl

pub one_head : (mark other seen : List ℕ) → length mark ≡ 16 → length other ≡ 16 → HasHead mark seen → HasHead other seen → mark ≡ other
one_head mark other seen long wide one two =
    sym (mark_back mark long)
    ∙ ap (λ h. drop 16 (take 32 h)) (one_text seen (head_of mark) (head_of other) 0 (head_length mark long ∙ sym (head_length other wide)) one two)
    ∙ mark_back other wide

pub mark_read : (mark : DataMark) → mark.key < 2 ^ 64 → length mark.mark ≡ 16 → IsMarkOf (bytes_of_mark mark) mark
mark_read mark fits long = record {
  long = length-append (to_le_bytes w64 mark.key) mark.mark ∙ omega (arith, long);
  key = sym (ap (from_le_bytes w64) (take_at (to_le_bytes w64 mark.key) mark.mark 8 refl) ∙ from_le_bytes-to_le_bytes_8 mark.key fits);
  mark = sym (drop_at (to_le_bytes w64 mark.key) mark.mark 8 refl);
}

-- three texts behind one another
pub three_pushed : (none one two three a b c : List ℕ) → none ≡ [] → one ≡ none ++ a → two ≡ one ++ b → three ≡ two ++ c → three ≡ a ++ b ++ c
three_pushed none one two three a b c first second third last =
    last ∙ ap (λ x. x ++ c) (third ∙ ap (λ x. x ++ b) (second ∙ ap (λ x. x ++ a) first))
