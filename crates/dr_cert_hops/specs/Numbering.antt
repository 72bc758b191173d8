-- The pairs that go over hops, one list of them for all hops, and their numbers.
use Rattle.std.specs.Prelude.{◌≡◌, ◌≢◌, ℕ, ◌+◌, ◌*◌, ◌≤◌, ◌↔◌, ◌&&◌, Bool, List, [], ◌∷◌, ◌++◌}
use Rattle.std.specs.Prelude.{length, filter, map, Contains, AllPairs, unwrap_or}
use Rattle.std.specs.declared.cmp.Ordering.{Ordering}
use Rattle.std.specs.BTreeMap.{BTreeMap, get}
use Rattle.std.specs.List.Sorted.{IsStrictlySortedBy}
use Rattle.std.specs.Str.{bytes_eq}
use Rattle.dr_base.specs.Texts.{Text}
use Rattle.dr_base.specs.declared.syntax.Syntax.{Syntax}
use Rattle.dr_plan_sound.specs.declared.certificate.Line.{Line}
use Rattle.dr_plan_sound.specs.declared.certificate.Hop.{Hop}
use Rattle.dr_plan_sound.specs.HopPairs.{OverHop, AreNumbered, IsFirstTooMany}
use Rattle.dr_cert_hops.specs.declared.hops.Passage.{Passage}
use Rattle.dr_cert_hops.specs.declared.hops.Ends.{Ends}
use Rattle.dr_cert_hops.specs.declared.hops.Numbered.{Numbered}
use Rattle.dr_cert_hops.specs.declared.hops.Numbered.TheVariants as numbered
use Rattle.dr_cert_hops.specs.contracts.hops.PassageOrd.TheImpl as passages
use Rattle.dr_cert_hops.specs.contracts.hops.EndsOrd.TheImpl as ends

-- the order of passages: by sender, receiver, class, and then the transfer syntax
abbrev pub passage_cmp : Passage → Passage → Ordering
passage_cmp = passages.cmp-value.it

-- the order of hops by their two ends: by sender, and then the receiver
abbrev pub ends_cmp : Ends → Ends → Ordering
ends_cmp = ends.cmp-value.it

-- the class and the transfer syntax that go over a hop by the passage
abbrev pub pair_of : Passage → Text × Syntax
pair_of p = (p.class, p.syntax)

-- the sender and the receiver of the passage's hop
abbrev pub ends_at : Passage → Ends
ends_at p = record { «from» = p.from; «to» = p.to }

-- the passage that a line shows: from its caller to its node, with the class and transfer syntax of
-- its cell
abbrev pub shown_passage : Line → Passage
shown_passage line = record {
  «from» = line.stop.caller;
  «to» = line.stop.node;
  class = line.stop.cell.class;
  syntax = line.stop.cell.syntax;
}

-- some of the lines shows the passage
abbrev pub IsPassage : List Line → Passage → Type 0
IsPassage lines p = OverHop lines p.from p.to (pair_of p)

-- just the passages that the lines show, in order, each once
pub record ArePassages (lines : List Line) (all : List Passage) : Type 0 where
  pub each : (p : Passage) → Contains all p ↔ IsPassage lines p
  pub ordered : IsStrictlySortedBy passage_cmp all

-- the passage goes over the hop between these two nodes
abbrev pub goes_over : Text → Text → Passage → Bool
goes_over a b p = bytes_eq a p.from && bytes_eq b p.to

-- how many of the passages go over the hop between these two nodes
abbrev pub count_over : Text → Text → List Passage → ℕ
count_over a b all = length (filter (goes_over a b) all)

-- how many pairs of the passage's hop have been counted so far
abbrev pub counted : BTreeMap Ends ℕ → Passage → ℕ
counted counts p = unwrap_or (get ends_cmp counts (ends_at p)) 0

-- the passage as a hop of a certificate, behind so many others: its id is 1, 3, 5 and so on
abbrev pub hop_after : Passage → ℕ → Hop
hop_after p before =
    record { «from» = p.from; «to» = p.to; id = 2 * before + 1; class = p.class; syntax = p.syntax }

-- the passages behind others, each with its number on its hop
abbrev pub numbered_after : List Passage → List Passage → List Hop
numbered_after before [] = []
numbered_after before (p ∷ ps) =
    hop_after p (count_over p.from p.to before) ∷ numbered_after (before ++ p ∷ []) ps

-- what numbering lines answers: the numbered hops that they show, or the first hop with more than
-- 128 pairs
abbrev pub Numbers : List Line → Numbered → Type 0
Numbers lines (numbered.Hops hops) = AreNumbered lines hops.items
Numbers lines (numbered.TooMany a b) = IsFirstTooMany lines a b

-- what numbering passages answers: all of them numbered, over no hop more than 128; or the hop of
-- the first passage that is one more than 128
abbrev pub NumbersAll : List Passage → Numbered → Type 0
NumbersAll all (numbered.Hops hops) =
    (hops.items ≡ numbered_after [] all) × ((a b : Text) → count_over a b all ≤ 128)
NumbersAll all (numbered.TooMany a b) =
    (front : List Passage) × (q : Passage) × (rest : List Passage)
    × (all ≡ front ++ q ∷ rest)
    × (q.from ≡ a) × (q.to ≡ b)
    × (count_over a b front ≡ 128)
    × ((c d : Text) → count_over c d front ≤ 128)
