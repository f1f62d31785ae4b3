-- The words of some records, one after the other, and words that stand between others.
use Rattle.std.proofs.Common.{◌≡◌, ℕ, ◌+◌, ◌*◌, List, ◌∷◌, ◌++◌, map, length, take, drop, sym, refl, ap, ◌∙◌, ap₂, append_assoc, length-append, take_at}
use Rattle.std.proofs.Common.{drop_at}
use mathlib.Core.List.{map-append, flatten}
use lib.ListN.{length-map}
use Rattle.lists.specs.Groups.{Group, totals_width, group_words}
use Rattle.list_group_totals.specs.GroupTotals.{totals_words, totals_of}
use Rattle.lists.proofs.Records.{length_flatten, flatten_append}
use Rattle.lists.proofs.GroupWords.{HaveKeys, wide_words_lem}
use Rattle.list_group_totals.proofs.TotalsWords.{group_words_lem}

-- ---- the words of some records
abbrev pub flat : List Group → List ℕ
flat gs = flatten (map group_words gs)

pub flat_append : (gs hs : List Group) → flat (gs ++ hs) ≡ flat gs ++ flat hs
flat_append gs hs = ap flatten (map-append group_words gs hs) ∙ flatten_append (map group_words gs) (map group_words hs)

pub flat_cons : (g : Group) (gs : List Group) → flat (g ∷ gs) ≡ (g.keys ++ totals_words (totals_of g)) ++ flat gs
unfolding flatten
flat_cons g gs = ap (λ l. l ++ flat gs) (group_words_lem g)

pub length_flat : (n : ℕ) (gs : List Group) → HaveKeys n gs → length (flat gs) ≡ length gs * (n + totals_width)
length_flat n gs h = length_flatten (n + totals_width) (map group_words gs) (wide_words_lem n gs h) ∙
    ap (λ k. k * (n + totals_width)) (length-map gs group_words)

-- ---- words that stand between others
pub regroup : (P K T Q R : List ℕ) → (P ++ K) ++ (T ++ (Q ++ R)) ≡ (P ++ ((K ++ T) ++ Q)) ++ R
regroup P K T Q R = simp append_assoc

module _ (P K T Q R out : List ℕ) (n g : ℕ) (p : length P ≡ n) (k : length K ≡ g)
    (e : out ≡ (P ++ ((K ++ T) ++ Q)) ++ R) where
  joined : out ≡ (P ++ K) ++ (T ++ (Q ++ R))
  joined = e ∙ sym (regroup P K T Q R)

  front_size : length (P ++ K) ≡ n + g
  front_size = length-append P K ∙ ap₂ ◌+◌ p k

  pub before_them : take (n + g) out ≡ P ++ K
  before_them = ap (take (n + g)) joined ∙ take_at (P ++ K) (T ++ (Q ++ R)) (n + g) front_size

  from_them : drop (n + g) out ≡ T ++ (Q ++ R)
  from_them = ap (drop (n + g)) joined ∙ drop_at (P ++ K) (T ++ (Q ++ R)) (n + g) front_size

  pub are_they : take (length T) (drop (n + g) out) ≡ T
  are_they = ap (take (length T)) from_them ∙ take_at T (Q ++ R) (length T) refl

  pub after_them : drop (length T) (drop (n + g) out) ≡ Q ++ R
  after_them = ap (drop (length T)) from_them ∙ drop_at T (Q ++ R) (length T) refl
