-- Words written one after the other behind the first ones of a buffer.
use Prim.Native.Nat.{ℕ, ◌+◌, ◌≤◌, ◌<◌, ◌%◌}
use native.Mathlib.Omega.{arith}
use mathlib.Core.Path.{◌≡◌, refl, sym, ◌∙◌, ap, subst}
use mathlib.Core.List.{List, [], ◌∷◌, ◌++◌, append-nil, append_assoc}
use lib.ListN.{length, take, set, length-set, length-append}
use Rattle.words.specs.Words.{word, number, comparison_kind, and_kind, or_kind, low_numbers, equal_to, unequal_to, last_operator}
use Rattle.plans.specs.Conditions.{Condition, compared}
use Rattle.plans.specs.Grammar.{condition_words}
use borrow.Author.Tests.{eq-eqb, ne_eqb}
use Rattle.sequences.proofs.Growing.{written_next}
use Rattle.constants.specs.declared.Constant.{Constant}
use Rattle.constants.specs.declared.Constant.TheVariants.{Term, NoName, NoText, Below, Above}
use Rattle.constants.specs.Constants.{with_no_text, with_no_number, with_below, with_above, compared_with, Appended}

module _ (out : List ℕ) (at : ℕ) where
  pub one_appended : at < length out → (w : ℕ) → Appended out at (w ∷ []) (set out at w) (at + 1)
  one_appended h w = (
    refl,
    length-set out at w,
    sym (written_next out at w h (take at out ++ (w ∷ [])) [] refl ∙ append-nil (take (at + 1) (set out at w))),
  )

  pub more_appended : (ws vs mid end : List ℕ) (m r : ℕ) → Appended out at ws mid m → Appended mid m vs end r → Appended out at (ws ++ vs) end r
  more_appended ws vs mid end m r p q =
      let n = length-append ws vs in
      (omega (arith, n, p.0, q.0), q.1 ∙ p.1, q.2 ∙ ap (λ l. l ++ vs) p.2 ∙ append_assoc (take at out) ws vs)

  pub three_appended : at + 3 ≤ length out → (a b c : ℕ) → Appended out at (a ∷ b ∷ c ∷ [])
      (set (set (set out at a) (at + 1) b) (at + 2) c) (at + 3)
  three_appended h a b c =
      let x = length-set out at a in
      let y = length-set (set out at a) (at + 1) b in
      let z = length-set (set (set out at a) (at + 1) b) (at + 2) c in
      let s : at + 1 + 1 ≡ at + 2 = omega arith in
      let t : at + 2 + 1 ≡ at + 3 = omega arith in
      let whole = take at out ++ (a ∷ b ∷ c ∷ []) in
      let one : whole ≡ take (at + 1) (set out at a) ++ (b ∷ c ∷ []) = written_next out at a (omega arith) whole (b ∷ c ∷ []) refl in
      let two : whole ≡ take (at + 1 + 1) (set (set out at a) (at + 1) b) ++ (c ∷ []) =
      written_next (set out at a) (at + 1) b (omega (arith, x)) whole (c ∷ []) one in
      let three : whole ≡ take (at + 2 + 1) (set (set (set out at a) (at + 1) b) (at + 2) c) ++ [] =
      written_next (set (set out at a) (at + 1) b) (at + 2) c (omega (arith, x, y)) whole []
      (two ∙ ap (λ n. take n (set (set out at a) (at + 1) b) ++ (c ∷ [])) s) in (
        refl,
        z ∙ y ∙ x,
        sym
            (three
            ∙ append-nil (take (at + 2 + 1) (set (set (set out at a) (at + 1) b) (at + 2) c))
            ∙ ap (λ n. take n (set (set (set out at a) (at + 1) b) (at + 2) c)) t),
      )

  pub comparison_appended : at + 3 ≤ length out → (o x y w : ℕ) → o ≤ last_operator → w ≡ word comparison_kind (o % low_numbers)
      → Appended out at (condition_words (compared o x y)) (set (set (set out at w) (at + 1) x) (at + 2) y) (at + 3)
  unfolding condition_words
  comparison_appended h o x y w k e =
      let z : w ≡ word comparison_kind o = omega (arith, e) in
      rw (← z) (three_appended h w x y)

pub comparison_length : (o x y : ℕ) → length (condition_words (compared o x y)) ≡ 3
unfolding condition_words
comparison_length o x y = refl

-- ---- two comparisons under a node
module _ (out : List ℕ) (at o x : ℕ) (end : List ℕ) (r w : ℕ) where
  pub and_pair : w ≡ word and_kind 0 → o ≡ equal_to
      → Appended out at (w ∷ (condition_words (compared equal_to x (number 0)) ++ condition_words (compared equal_to x (number 1)))) end r
      → Appended out at (condition_words (with_no_number o x)) end r
  unfolding condition_words
  and_pair e k p =
      let both = condition_words (compared equal_to x (number 0)) ++ condition_words (compared equal_to x (number 1)) in
      rw (eq-eqb o equal_to k) (subst (λ v. Appended out at (v ∷ both) end r) e p)

  pub or_pair : w ≡ word or_kind 0 → (o ≡ equal_to → ⊥)
      → Appended out at (w ∷ (condition_words (compared unequal_to x (number 0)) ++ condition_words (compared unequal_to x (number 1)))) end r
      → Appended out at (condition_words (with_no_number o x)) end r
  unfolding condition_words
  or_pair e k p =
      let both = condition_words (compared unequal_to x (number 0)) ++ condition_words (compared unequal_to x (number 1)) in
      rw (ne_eqb o equal_to k) (subst (λ v. Appended out at (v ∷ both) end r) e p)

-- ---- each kind of constant
module _ (out : List ℕ) (at unnamed unwritten o x : ℕ) (k : Constant) (end : List ℕ) (r : ℕ) where
  abbrev written : Condition → Type 0
  written c = Appended out at (condition_words c) end r

  pub of_term : (w : ℕ) → k ≡ Term w → written (compared o x w) → written (compared_with unnamed unwritten o x k)
  unfolding compared_with
  of_term w e p = rw e p

  pub of_no_name : k ≡ NoName → written (compared o x unnamed) → written (compared_with unnamed unwritten o x k)
  unfolding compared_with
  of_no_name e p = rw e p

  pub of_no_text : (w : ℕ) → k ≡ NoText w → written (with_no_text unwritten w o x) → written (compared_with unnamed unwritten o x k)
  unfolding compared_with
  of_no_text w e p = rw e p

  pub of_below : k ≡ Below → written (with_below o x) → written (compared_with unnamed unwritten o x k)
  unfolding compared_with
  of_below e p = rw e p

  pub of_above : k ≡ Above → written (with_above o x) → written (compared_with unnamed unwritten o x k)
  unfolding compared_with
  of_above e p = rw e p
