-- Lists of registers merged in any order and grouping: the end is the same.
use Prim.Native.Nat.{ℕ}
use native.Mathlib.Omega.{arith}
use mathlib.Core.Path.{◌≡◌, refl, sym, ◌∙◌, ap, ap₂}
use mathlib.Core.Bool.{true}
use mathlib.Core.Option.{some}
use mathlib.Core.List.{List, [], ◌∷◌, ◌++◌, map, map-append}
use mathlib.Core.List.{Permᴰ}
use lib.ListN.{length, get_or}
use Rattle.sequences.proofs.Booleans.{absurd_true}
use Rattle.words.proofs.Testing.{some_injective}
use Rattle.plans.specs.Endings.{registers}
use Rattle.plans.specs.Plans.{plan_of}
use Rattle.plans.proofs.Bounds.{next_some}
use Rattle.registers.specs.Registers.{register_count, registers_in, greater_of, are_registers, kept_registers}
use Rattle.registers.proofs.Merging.{greater_comm, greater_assoc}
use Rattle.registers.proofs.Bounds.{greater_length, none_greater}
use Rattle.registers.proofs.Reports.{some_right}
use Rattle.lists.specs.Gathering.{merged, list_right, kept_right}
use Rattle.lists.specs.Thresholds.{chosen_from}
use Rattle.lists.proofs.RegisterLists.{registers_in_lem, right_length, right_kept}
use Rattle.merge_orders.specs.Ways.{Way, empty, turn, into, turns_along, is_merge, merged_by, given}
use Rattle.merge_orders.proofs.Served.{merged_given, served_passes}

-- ---- the greatest of some lists, each of which may be empty
abbrev pub greatest_of : List (List ℕ) → List ℕ
greatest_of [] = registers_in []
greatest_of (l ∷ ls) = greater_of (registers_in l) (greatest_of ls)

-- does not depend on their sequence
greater_swap : (a b c : List ℕ) → greater_of a (greater_of b c) ≡ greater_of b (greater_of a c)
greater_swap a b c = sym (greater_assoc a b c) ∙ ap (λ l. greater_of l c) (greater_comm a b) ∙ greater_assoc b a c

pub greatest_permuted : {A : Type 0} (f : A → List ℕ) {xs ys : List A} → Permᴰ xs ys → greatest_of (map f xs) ≡ greatest_of (map f ys)
greatest_permuted f Permᴰ.nil = refl
greatest_permuted f (Permᴰ.cons {a = a} {l₂ = ys} e p) =
    ap (greater_of (registers_in (f a))) (greatest_permuted f p) ∙ ap (λ b. greater_of (registers_in (f b)) (greatest_of (map f ys))) e
greatest_permuted f (Permᴰ.swap {a = a} {b = b} {a' = c} {b' = d} {l = l} e g) =
    greater_swap (registers_in (f a)) (registers_in (f b)) (greatest_of (map f l))
    ∙ ap (λ u. greater_of (registers_in (f u)) (greater_of (registers_in (f a)) (greatest_of (map f l)))) g
    ∙ ap (λ u. greater_of (registers_in (f c)) (greater_of (registers_in (f u)) (greatest_of (map f l)))) e
greatest_permuted f (Permᴰ.trans p q) = greatest_permuted f p ∙ greatest_permuted f q

-- of two parts
greatest_append : (xs ys : List (List ℕ)) → length (greatest_of ys) ≡ register_count → greater_of (greatest_of xs) (greatest_of ys) ≡ greatest_of (xs ++ ys)
greatest_append [] ys h = none_greater (greatest_of ys) h
greatest_append (x ∷ xs) ys h =
    greater_assoc (registers_in x) (greatest_of xs) (greatest_of ys) ∙ ap (greater_of (registers_in x)) (greatest_append xs ys h)

-- ---- one list
right_in : (ws : List ℕ) → are_registers ws ≡ true → registers_in ws ≡ ws
right_in ws h = registers_in_lem ws (right_length ws h)

kept_length : (ws : List ℕ) → kept_registers ws ≡ true → length (registers_in ws) ≡ register_count
kept_length [] h = refl
kept_length (w ∷ ws) h = right_length (w ∷ ws) (some_right w ws h)

alone : (ws : List ℕ) → kept_registers ws ≡ true → greater_of (registers_in ws) (registers_in []) ≡ registers_in ws
alone ws h = greater_comm (registers_in ws) (registers_in []) ∙ none_greater (registers_in ws) (kept_length ws h)

append_none : {A : Type 0} (xs ys : List A) → xs ++ ys ≡ [] → ys ≡ []
append_none [] ys e = e
append_none (x ∷ xs) ys e = absurd (let z : ◌≡◌ {A = ℕ} 0 1 = cc in omega arith)

module _ (plan : List ℕ) (lists : List (List ℕ)) (v : ℕ) (ending : (plan_of plan).ending ≡ registers v) where
  abbrev pub greatest_at : List ℕ → List ℕ
  greatest_at is = greatest_of (chosen_from lists is)

  -- of a served merge the kept list has all registers or none, and the other has all
  both_right_lem : (kept behind list a : List ℕ) → merged_by plan kept behind list ≡ some a → (kept_registers kept ≡ true) × (are_registers list ≡ true)
  unfolding list_right
  both_right_lem kept behind list a e =
      let t = served_passes plan kept behind list a e in
      (sym (ap (λ d. kept_right d kept) ending) ∙ t.0, sym (ap (λ d. list_right d list) ending) ∙ t.1)

  -- where what each side gives stands for the greatest of its turns' lists, so does what the merge gives, which has all registers
  both_given : (a b : Way) (behind x y c : List ℕ) → merged_by plan x behind y ≡ some c
      → registers_in x ≡ greatest_at (turns_along a) → registers_in y ≡ greatest_at (turns_along b)
      → (c ≡ greatest_at (turns_along (into a behind b))) × (length c ≡ register_count)
  unfolding merged turns_along
  both_given a b behind x y c e s u =
      let r = both_right_lem x behind y c e in
      let m = merged_given plan x behind y c e ∙ ap (λ d. merged d x y) ending in
      let n = right_length y r.1 in
      let z = sym (right_in y r.1) ∙ u in (
        m ∙ ap₂ greater_of s z
            ∙ greatest_append (chosen_from lists (turns_along a)) (chosen_from lists (turns_along b)) (sym (ap length z) ∙ n)
            ∙ ap greatest_of (sym (map-append (λ j. get_or lists j []) (turns_along a) (turns_along b))),
        ap length m ∙ greater_length (registers_in x) y (kept_length x r.0 ∙ sym n) ∙ kept_length x r.0,
      )

  -- what a way gives, if it is right for a kept list, are the greatest of its turns' lists
  way_stands : (w : Way) (a : List ℕ) → given plan lists w ≡ some a → kept_registers a ≡ true → registers_in a ≡ greatest_at (turns_along w)
  unfolding given turns_along
  way_stands empty a e r = ap registers_in (sym (some_injective e))
  way_stands (turn j) a e r =
      ap registers_in (sym (some_injective e)) ∙ sym (alone (get_or lists j []) (ap kept_registers (some_injective e) ∙ r))
  way_stands (into a behind b) c e r =
      let p = next_some (given plan lists a) _ c e in
      let q = next_some (given plan lists b) _ c p.2 in
      let t = both_right_lem p.0 behind q.0 c q.2 in
      let g = both_given a b behind p.0 q.0 c q.2 (way_stands a p.0 p.1 t.0)
      (way_stands b q.0 q.1 (right_kept q.0 t.1)) in
      registers_in_lem c g.1 ∙ g.0

  -- a merge gives them as they are, all of them
  pub way_gives : (w : Way) (a : List ℕ) → is_merge w ≡ true → given plan lists w ≡ some a
      → (a ≡ greatest_at (turns_along w)) × (length a ≡ register_count)
  unfolding given
  way_gives empty a i e = absurd_true i refl
  way_gives (turn j) a i e = absurd_true i refl
  way_gives (into a behind b) c i e =
      let p = next_some (given plan lists a) _ c e in
      let q = next_some (given plan lists b) _ c p.2 in
      let t = both_right_lem p.0 behind q.0 c q.2 in
      both_given a b behind p.0 q.0 c q.2 (way_stands a p.0 p.1 t.0) (way_stands b q.0 q.1 (right_kept q.0 t.1))

  -- in every order and grouping, with the same end
  pub any_order : (x y : Way) → is_merge x ≡ true → is_merge y ≡ true → Permᴰ (turns_along x) (turns_along y)
      → (a b : List ℕ) → given plan lists x ≡ some a → given plan lists y ≡ some b → a ≡ b
  any_order x y i j p a b e f =
      (way_gives x a i e).0 ∙ greatest_permuted (λ k. get_or lists k []) p ∙ sym (way_gives y b j f).0

  -- it is of some turn: an empty list is no turn's
  no_list : (w : Way) (a : List ℕ) → given plan lists w ≡ some a → are_registers a ≡ true → turns_along w ≡ [] → ⊥
  unfolding given turns_along
  no_list empty a e r h = absurd_true refl (sym (ap are_registers (some_injective e) ∙ r))
  no_list (turn j) a e r h = let z : ◌≡◌ {A = ℕ} 0 1 = cc in omega arith
  no_list (into a behind b) c e r h =
      let p = next_some (given plan lists a) _ c e in
      let q = next_some (given plan lists b) _ c p.2 in
      no_list b q.0 q.1 (both_right_lem p.0 behind q.0 c q.2).1 (append_none (turns_along a) (turns_along b) h)

  pub some_turn : (w : Way) (a : List ℕ) → is_merge w ≡ true → given plan lists w ≡ some a → turns_along w ≡ [] → ⊥
  unfolding given turns_along
  some_turn empty a i e h = absurd_true i refl
  some_turn (turn j) a i e h = absurd_true i refl
  some_turn (into a behind b) c i e h =
      let p = next_some (given plan lists a) _ c e in
      let q = next_some (given plan lists b) _ c p.2 in
      no_list b q.0 q.1 (both_right_lem p.0 behind q.0 c q.2).1 (append_none (turns_along a) (turns_along b) h)
