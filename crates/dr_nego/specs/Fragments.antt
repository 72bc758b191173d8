-- Commands and data sets in fragments (PS3.8 annexes D.1 and E): each is the one value of a
-- P-DATA-TF.
use Rattle.std.specs.Prelude.{◌≡◌, ℕ, zero, suc, ◌+◌, ◌-◌, ◌*◌, ◌/◌, ◌≤◌, Bool, true, false, List}
use Rattle.std.specs.Prelude.{[], ◌∷◌, ◌++◌, length, take, drop, nat_le, nat_lt, ◌==◌, ◌||◌}
use Rattle.std.specs.Prelude.{if◌then◌else◌, All}
use Rattle.std.specs.List.{flat_map}
use Rattle.dr_pdu.specs.declared.pdu.Pdu.{Pdu}
use Rattle.dr_pdu.specs.declared.pdu.Pdu.TheVariants.{Transfer}
use Rattle.dr_pdu.specs.Written.{written}
use Rattle.dr_nego.specs.declared.fragment.FragmentKind.{FragmentKind}
use Rattle.dr_nego.specs.declared.fragment.FragmentKind.TheVariants.{Command, DataSet}

-- The largest even size within a limit less 6 bytes: the length, the context and the header of a
-- value stand before its fragment. No limit, and one over 1,048,576, count as 1,048,576.
abbrev pub piece_size : ℕ → ℕ
piece_size limit = (if (limit == 0) || nat_lt 1048576 limit then 1048570 else limit - 6) / 2 * 2

-- full pieces of this size and then one that isn't over full, by at most so many cuts; one empty
-- piece of nothing
abbrev pub cut : ℕ → ℕ → List ℕ → List (List ℕ)
cut zero size text = text ∷ []
cut (suc more) size text =
    if nat_le (length text) size then text ∷ [] else take size text ∷ cut more size (drop size text)

-- a text in pieces of this size: 2,036 bytes by 1,018 are two
abbrev pub pieces : ℕ → List ℕ → List (List ℕ)
pieces size text = cut (length text) size text

-- pieces of a text as a relation: joined they are the text, all but the last are full, and the last
-- isn't over full; it is empty only where the text is
pub record ArePieces (size : ℕ) (text : List ℕ) (parts : List (List ℕ)) : Type 0 where
  pub front : List (List ℕ)
  pub final : List ℕ
  pub are : parts ≡ front ++ final ∷ []
  pub full : All (λ (x : List ℕ). length x ≡ size) front
  pub short : length final ≤ size
  pub joined : text ≡ flat_map (λ (x : List ℕ). x) parts
  pub some : final ≡ [] → front ≡ []

-- the message control header (PS3.8 E.2): bit 0 of a command, bit 1 of the last fragment
abbrev pub header_of : Bool → Bool → ℕ
header_of is_command is_last = (if is_command then 1 else 0) + (if is_last then 2 else 0)

-- the P-DATA-TF whose one value carries this fragment in this context
abbrev pub value_pdu : ℕ → Bool → Bool → List ℕ → Pdu
value_pdu id is_command is_last fragment =
    Transfer (record { id = id; header = header_of is_command is_last; fragment = fragment } ∷ [])

-- the P-DATA-TFs of these pieces, in order; the last piece alone is marked as the last fragment
abbrev pub value_pdus : ℕ → Bool → List (List ℕ) → List Pdu
value_pdus id is_command [] = []
value_pdus id is_command (piece ∷ []) = value_pdu id is_command true piece ∷ []
value_pdus id is_command (piece ∷ next ∷ more) =
    value_pdu id is_command false piece ∷ value_pdus id is_command (next ∷ more)

-- whether the fragments are of a command, and not of a data set
abbrev pub is_command : FragmentKind → Bool
is_command Command = true
is_command DataSet = false

-- the P-DATA-TFs that a command or a data set is sent in, in a context and within the receiver's
-- greatest length
abbrev pub fragment_pdus : ℕ → ℕ → FragmentKind → List ℕ → List Pdu
fragment_pdus limit id kind text = value_pdus id (is_command kind) (pieces (piece_size limit) text)

-- what is written of PDUs, one after the other
abbrev pub spellings : List Pdu → List ℕ
spellings pdus = flat_map written pdus
