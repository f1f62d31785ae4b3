-- Numbers that pass a test, numbered anew: the new numbers are those from 0 on.
use Prim.Native.Nat.{ℕ, zero, suc, ◌+◌, ◌<◌}
use native.Mathlib.Omega.{arith}
use mathlib.Core.Path.{◌≡◌, sym, ◌∙◌, ap}
use mathlib.Core.Bool.{Bool, true, false}
use mathlib.Core.List.{[], ◌∷◌, ◌++◌, map, append-nil, map-append}
use lib.ListN.{length, get_or, length-append, get_or-append}
use lib.Seq.{get_or-append_seam}
use Rattle.sequences.specs.Sequences.{keep, numbers}
use Rattle.sequences.proofs.Booleans.{Decided, yes, no, decided}
use Rattle.sequences.proofs.Keeping.{keep_nil, keep_yes, keep_no, keep_append}
use Rattle.sequences.proofs.Numbers.{numbers_none, numbers_next}
use Rattle.sequences.proofs.Orders.{Three, less, same, more, three}
use Rattle.views.specs.Renumbered.{passed_before}

-- ---- numbers that pass a test
module _ (f : ℕ → Bool) where
  -- one number more
  pub keep_more : (n : ℕ) → keep f (numbers (suc n)) ≡ keep f (numbers n) ++ keep f (n ∷ [])
  keep_more n = ap (keep f) (sym (numbers_next n)) ∙ keep_append f (numbers n) (n ∷ [])

  pub more_yes : (n : ℕ) → f n ≡ true → keep f (numbers (suc n)) ≡ keep f (numbers n) ++ (n ∷ [])
  more_yes n e = keep_more n ∙ ap (λ l. keep f (numbers n) ++ l) (keep_yes f n [] e ∙ ap (λ l. n ∷ l) (keep_nil f))

  pub more_no : (n : ℕ) → f n ≡ false → keep f (numbers (suc n)) ≡ keep f (numbers n)
  more_no n e = keep_more n ∙ ap (λ l. keep f (numbers n) ++ l) (keep_no f n [] e ∙ keep_nil f) ∙ append-nil (keep f (numbers n))

  pub passed_yes : (n : ℕ) → f n ≡ true → passed_before f (suc n) ≡ passed_before f n + 1
  passed_yes n e = ap length (more_yes n e) ∙ length-append (keep f (numbers n)) (n ∷ [])

  pub passed_no : (n : ℕ) → f n ≡ false → passed_before f (suc n) ≡ passed_before f n
  passed_no n e = ap length (more_no n e)

  pub passed_none : passed_before f 0 ≡ 0
  passed_none = ap length (ap (keep f) (sym numbers_none) ∙ keep_nil f)

  -- their new numbers are those from 0 on
  pub numbered : (n : ℕ) → map (passed_before f) (keep f (numbers n)) ≡ numbers (length (keep f (numbers n)))
  numbered zero =
      ap (map (passed_before f)) (ap (keep f) (sym numbers_none) ∙ keep_nil f) ∙ numbers_none ∙ ap numbers (sym passed_none)
  numbered (suc n) = go (decided (f n)) (numbered n)
    where
      go : Decided (f n) → map (passed_before f) (keep f (numbers n)) ≡ numbers (length (keep f (numbers n)))
          → map (passed_before f) (keep f (numbers (suc n))) ≡ numbers (length (keep f (numbers (suc n))))
      go (yes e) ih =
          let s : suc (passed_before f n) ≡ passed_before f (suc n) = omega (arith, passed_yes n e) in
          ap (map (passed_before f)) (more_yes n e)
          ∙ map-append (passed_before f) (keep f (numbers n)) (n ∷ [])
          ∙ ap (λ l. l ++ (passed_before f n ∷ [])) ih
          ∙ numbers_next (passed_before f n)
          ∙ ap numbers s
      go (no e) ih = ap (map (passed_before f)) (more_no n e) ∙ ih ∙ ap numbers (sym (passed_no n e))

  -- a number that passes stands at its new number
  pub record Placed (n r : ℕ) : Type 0 where
    pub inside : passed_before f r < length (keep f (numbers n))
    pub is : get_or (keep f (numbers n)) (passed_before f r) 0 ≡ r

  pub placed : (n r : ℕ) → r < n → f r ≡ true → Placed n r
  placed zero r h e = absurd (omega arith)
  placed (suc n) r h e = go (three r n) (decided (f n)) (λ l. placed n r l e)
    where
      here : r ≡ n → Placed (suc n) n
      here k =
          let p = more_yes n (ap f (sym k) ∙ e) in
          let l = passed_yes n (ap f (sym k) ∙ e) in
          record {
            inside = omega arith;
            is = ap (λ l. get_or l (passed_before f n) 0) p ∙ get_or-append_seam (keep f (numbers n)) n [] 0;
          }

      go : Three r n → Decided (f n) → (r < n → Placed n r) → Placed (suc n) r
      go (less k) (yes p) ih =
          let i = ih k in
          let l = i.inside in
          let m = passed_yes n p in
          record {
            inside = omega arith;
            is =
                ap (λ l. get_or l (passed_before f r) 0) (more_yes n p)
                ∙ get_or-append (keep f (numbers n)) (n ∷ []) 0 (passed_before f r) l
                ∙ i.is;
          }
      go (less k) (no p) ih =
          let i = ih k in
          let l = i.inside in
          let m = passed_no n p in
          record { inside = omega arith; is = ap (λ l. get_or l (passed_before f r) 0) (more_no n p) ∙ i.is }
      go (same k) d ih = rw k (here k)
      go (more k) d ih = absurd (omega arith)
