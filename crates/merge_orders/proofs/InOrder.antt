-- Lists merged in the order of turns, one after the other, and the numbers of these turns.
use Prim.Native.Nat.{ℕ, zero, suc, ◌≤◌}
use native.Mathlib.Omega.{arith}
use mathlib.Core.Path.{◌≡◌, refl, sym, ◌∙◌, ap}
use mathlib.Core.List.{List, [], ◌∷◌, ◌++◌, map, map-append, flatten, foldl}
use lib.ListN.{length, take, get_or}
use lib.Seq.{take-suc, take-length}
use Rattle.sequences.specs.Sequences.{numbers}
use Rattle.sequences.proofs.Each.{Each}
use Rattle.sequences.proofs.Numbers.{numbers_none, numbers_next}
use Rattle.plans.specs.Endings.{group, registers}
use Rattle.registers.specs.Registers.{register_count, registers_in, greater_of}
use Rattle.registers.proofs.Merging.{greater_comm, greater_assoc}
use Rattle.registers.proofs.Bounds.{greater_length, none_greater}
use Rattle.lists.specs.Groups.{Group, keys_before, together, add_all_by, add_groups, group_words}
use Rattle.lists.specs.Gathering.{groups_in, merged}
use Rattle.lists.proofs.Wrapping.{all_wrapped_twice}
use Rattle.lists.proofs.Adding.{add_all_append}
use Rattle.lists.proofs.GroupWords.{HaveKeys, wrapped, groups_in_words, have_keys_in}
use Rattle.lists.proofs.GroupsAdded.{have_add_all}
use Rattle.lists.proofs.Wrapping.{words_added}
use Rattle.lists.proofs.RegisterLists.{registers_in_lem}
use Rattle.merge_orders.proofs.RegisterWays.{greatest_of}

-- ---- the turns by their numbers, in order
taken_numbers : {A : Type 0} (d : A) (xs : List A) (n : ℕ) → n ≤ length xs → map (λ i. get_or xs i d) (numbers n) ≡ take n xs
taken_numbers d xs zero h = ap (map (λ i. get_or xs i d)) (sym numbers_none)
taken_numbers d xs (suc n) h =
    ap (map (λ i. get_or xs i d)) (sym (numbers_next n))
    ∙ map-append (λ i. get_or xs i d) (numbers n) (n ∷ [])
    ∙ ap (λ l. l ++ (get_or xs n d ∷ [])) (taken_numbers d xs n (omega arith))
    ∙ sym (take-suc xs n d (omega arith))

pub map_twice : {A B C : Type 0} (f : A → B) (g : B → C) (xs : List A) → map (λ x. g (f x)) xs ≡ map g (map f xs)
map_twice f g [] = refl
map_twice f g (x ∷ xs) = ap (λ l. g (f x) ∷ l) (map_twice f g xs)

pub each_number : {A : Type 0} (d : A) (xs : List A) → map (λ i. get_or xs i d) (numbers (length xs)) ≡ xs
each_number d xs = taken_numbers d xs (length xs) (omega arith) ∙ take-length xs

pub all_numbers : {A B : Type 0} (d : A) (f : A → B) (xs : List A) → map (λ i. f (get_or xs i d)) (numbers (length xs)) ≡ map f xs
all_numbers d f xs =
    map_twice (λ i. get_or xs i d) f (numbers (length xs))
    ∙ ap (map f) (each_number d xs)

-- ---- groups: sums are wrapped in words, which adds up to the same words
words_onto : (gs hs : List Group) → map group_words (add_groups (map wrapped gs) hs) ≡ map group_words (add_groups gs hs)
words_onto gs hs =
    sym (words_added (map wrapped gs) hs)
    ∙ ap (λ l. map group_words (add_groups l (map wrapped hs))) (all_wrapped_twice gs)
    ∙ words_added gs hs

module _ (vs : List ℕ) (m : ℕ) where
  abbrev pub records_all : List (List ℕ) → List Group
  records_all ls = flatten (map (groups_in vs) ls)

  groups_from : (ls : List (List ℕ)) (gs : List Group) → HaveKeys (length vs) gs
      → foldl (merged (group vs m)) (flatten (map group_words gs)) ls ≡ flatten (map group_words (add_groups gs (records_all ls)))
  unfolding flatten add_all_by merged
  groups_from [] gs h = refl
  groups_from (l ∷ ls) gs h =
      ap (λ a. foldl (merged (group vs m)) a ls)
      (ap (λ g. flatten (map group_words (add_groups g (groups_in vs l)))) (groups_in_words vs gs h)
      ∙ ap flatten (words_onto gs (groups_in vs l)))
      ∙ groups_from ls (add_groups gs (groups_in vs l)) (have_add_all (length vs) gs (groups_in vs l) h (have_keys_in vs l))
      ∙ ap (λ g. flatten (map group_words g)) (sym (add_all_append keys_before together gs (groups_in vs l) (records_all ls)))

  -- in the order of turns, from an empty list
  pub groups_in_order : (ls : List (List ℕ)) → foldl (merged (group vs m)) [] ls ≡ flatten (map group_words (add_groups [] (records_all ls)))
  unfolding flatten
  groups_in_order ls = groups_from ls [] tt

-- ---- registers, of lists that have them all
module _ (v : ℕ) where
  abbrev Whole : List ℕ → Type 0
  Whole l = length l ≡ register_count

  onto_registers : (ls : List (List ℕ)) → Each Whole ls → (k : List ℕ) → Whole k
      → foldl (merged (registers v)) k ls ≡ greater_of k (greatest_of ls)
  unfolding merged
  onto_registers [] h k p = sym (greater_comm k (registers_in []) ∙ none_greater k p)
  onto_registers (l ∷ ls) h k p =
      ap (λ r. foldl (merged (registers v)) (greater_of r l) ls) (registers_in_lem k p)
      ∙ onto_registers ls h.1 (greater_of k l) (greater_length k l (p ∙ sym h.0) ∙ p)
      ∙ greater_assoc k l (greatest_of ls)
      ∙ ap (λ r. greater_of k (greater_of r (greatest_of ls))) (sym (registers_in_lem l h.0))

  pub registers_in_order : (l : List ℕ) (ls : List (List ℕ)) → Each Whole (l ∷ ls)
      → foldl (merged (registers v)) [] (l ∷ ls) ≡ greatest_of (l ∷ ls)
  unfolding merged
  registers_in_order l ls h =
      ap (λ r. foldl (merged (registers v)) r ls) (none_greater l h.0)
      ∙ onto_registers ls h.1 l h.0
      ∙ ap (λ r. greater_of r (greatest_of ls)) (sym (registers_in_lem l h.0))
