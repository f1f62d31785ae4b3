-- Rows of which none comes before the other keep their order of delivery: the sort is stable.
use mathlib.Core.Path.{◌≡◌, sym, ◌∙◌, ap}
use mathlib.Core.Bool.{Bool, true, false, not, ◌&&◌}
use mathlib.Core.List.{List, [], ◌∷◌, ◌++◌, append-nil, append_assoc}
use Rattle.sequences.specs.Sequences.{keep}
use Rattle.sequences.proofs.Booleans.{absurd_true, and_left, Decided, yes, no, decided}
use Rattle.sequences.proofs.Orders.{Ordered}
use borrow.Author.Tests.{not-true}
use Rattle.sequences.specs.Sorting.{insert_by, insert_all_by, sort_by}
use Rattle.sequences.proofs.Inserting.{insert_nil, insert_here, insert_later}
use Rattle.sequences.proofs.Each.{Each}
use Rattle.lists.proofs.Keeping.{keep_none}
use Rattle.lists.proofs.Counts.{keep_nil, keep_yes, keep_no, keep_append}
use Rattle.sequences.proofs.Sorting.{Sorted, sorted_insert}

-- neither comes before the other
abbrev pub alike : {A : Type 0} → (A → A → Bool) → A → A → Bool
alike before a x = not (before x a) && not (before a x)

module _ {A : Type 0} (before : A → A → Bool) (o : Ordered before) (a : A) where
  -- what a row alike to a comes before, a comes before
  past : (y z : A) → alike before a y ≡ true → before y z ≡ true → before a z ≡ true
  past y z e h =
      elim (decided (before a z)) [
        | yes p ↦ p
        | no p ↦ absurd_true (o.weak y z a h p) (not-true (before y a) (and_left (not (before y a)) (not (before a y)) e))
      ]

  unlike : (z : A) → before a z ≡ true → alike before a z ≡ false
  unlike z h = rw (o.asym a z h, h)

  after_none : (y z : A) (zs : List A) → alike before a y ≡ true → before y z ≡ true → Each (λ x. before x z ≡ false) zs
      → Each (λ x. alike before a x ≡ false) zs
  after_none y z [] e h n = tt
  after_none y z (x ∷ zs) e h n =
      (unlike x (past y x e (o.weak y z x h n.0)), after_none y z zs e h n.1)

  abbrev same : List A → List A
  same xs = keep (alike before a) xs

  -- a row is put after all that are alike
  keep_insert : (y : A) (xs : List A) → Sorted before xs
      → same (insert_by before y xs) ≡ same xs ++ same (y ∷ [])
  keep_insert y [] s = rw (insert_nil before y, keep_nil (alike before a))
  keep_insert y (x ∷ xs) s =
      go (decided (before y x)) (decided (alike before a y)) (decided (alike before a x)) (keep_insert y xs s.1)
    where
      go : Decided (before y x) → Decided (alike before a y) → Decided (alike before a x)
          → same (insert_by before y xs) ≡ same xs ++ same (y ∷ [])
          → same (insert_by before y (x ∷ xs)) ≡ same (x ∷ xs) ++ same (y ∷ [])
      go (yes e) (yes p) d ih =
          let none = keep_none (alike before a) (x ∷ xs) (unlike x (past y x p e), after_none y x xs p e s.0) in
          ap same (insert_here before y x xs e)
          ∙ keep_yes (alike before a) y (x ∷ xs) p
          ∙ ap (λ l. y ∷ l) (none ∙ sym (keep_nil (alike before a)))
          ∙ sym (keep_yes (alike before a) y [] p)
          ∙ ap (λ l. l ++ same (y ∷ [])) (sym none)
      go (yes e) (no p) d ih =
          ap same (insert_here before y x xs e)
          ∙ keep_no (alike before a) y (x ∷ xs) p
          ∙ sym (append-nil (same (x ∷ xs)))
          ∙ ap (λ l. same (x ∷ xs) ++ l) (sym (keep_no (alike before a) y [] p ∙ keep_nil (alike before a)))
      go (no e) d (yes q) ih =
          ap same (insert_later before y x xs e)
          ∙ keep_yes (alike before a) x (insert_by before y xs) q
          ∙ ap (λ l. x ∷ l) ih
          ∙ ap (λ l. l ++ same (y ∷ [])) (sym (keep_yes (alike before a) x xs q))
      go (no e) d (no q) ih =
          ap same (insert_later before y x xs e)
          ∙ keep_no (alike before a) x (insert_by before y xs) q
          ∙ ih
          ∙ ap (λ l. l ++ same (y ∷ [])) (sym (keep_no (alike before a) x xs q))

  keep_insert_all : (ys xs : List A) → Sorted before xs
      → same (insert_all_by before xs ys) ≡ same xs ++ same ys
  unfolding insert_all_by
  keep_insert_all [] xs s =
      sym (append-nil (same xs)) ∙ ap (λ l. same xs ++ l) (sym (keep_nil (alike before a)))
  keep_insert_all (y ∷ ys) xs s =
      keep_insert_all ys (insert_by before y xs) (sorted_insert before o y xs s)
      ∙ ap (λ l. l ++ same ys) (keep_insert y xs s)
      ∙ append_assoc (same xs) (same (y ∷ [])) (same ys)
      ∙ ap (λ l. same xs ++ l) (sym (keep_append (alike before a) (y ∷ []) ys))

  -- the rows alike to any one stand in the sorted list as they were delivered
  pub sort_stable : (xs : List A) → keep (alike before a) (sort_by before xs) ≡ keep (alike before a) xs
  unfolding sort_by
  sort_stable xs = keep_insert_all xs [] tt ∙ ap (λ l. l ++ keep (alike before a) xs) (keep_nil (alike before a))
