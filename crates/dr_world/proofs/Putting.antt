-- What is written, one action after the other.
use Rattle.std.proofs.Common.{◌≡◌, ℕ, ◌+◌, ◌<◌, ◌≤◌, List, [], ◌∷◌, ◌++◌, length, get_or, take, refl, sym, ap, ◌∙◌, append_assoc}
use Rattle.std.proofs.lemmas.List.{append-nil, take_more, take_all}
use Rattle.dr_session.specs.declared.ends.LinkAction.{LinkAction}
use Rattle.dr_session.specs.declared.ends.LinkAction.TheVariants.{Write, Close}
use Rattle.dr_world_tie.specs.Channels.{bytes_of}

pub bytes_append : (xs ys : List LinkAction) → bytes_of (xs ++ ys) ≡ bytes_of xs ++ bytes_of ys
bytes_append [] ys = refl
bytes_append (Write bytes ∷ xs) ys = ap (λ (l : List ℕ). bytes ++ l) (bytes_append xs ys) ∙ sym (append_assoc bytes (bytes_of xs) (bytes_of ys))
bytes_append (Close ∷ xs) ys = bytes_append xs ys

pub nothing_put : (wire : List ℕ) (acts : List LinkAction) → wire ≡ wire ++ bytes_of (take 0 acts)
nothing_put wire acts = sym (append-nil wire)

pub one_more_put : (first wire new : List ℕ) (acts : List LinkAction) (i : ℕ) (a : LinkAction) → i < length acts → wire ≡ first ++ bytes_of (take i acts) → new ≡ wire ++ bytes_of (a ∷ []) → a ≡ get_or acts i a → new ≡ first ++ bytes_of (take (i + 1) acts)
one_more_put first wire new acts i a less was put is =
    put ∙ (ap (λ (l : List ℕ). l ++ bytes_of (a ∷ [])) was ∙ (append_assoc first (bytes_of (take i acts)) (bytes_of (a ∷ []))
    ∙ ap (λ (l : List ℕ). first ++ l) (sym (bytes_append (take i acts) (a ∷ [])) ∙ ap bytes_of (ap (λ (x : LinkAction). take i acts ++ x ∷ []) is ∙ sym (take_more acts i a less)))))

pub all_put : (first wire : List ℕ) (acts : List LinkAction) (i : ℕ) → length acts ≤ i → wire ≡ first ++ bytes_of (take i acts) → wire ≡ first ++ bytes_of acts
all_put first wire acts i all was = was ∙ ap (λ (l : List LinkAction). first ++ bytes_of l) (take_all i acts all)
