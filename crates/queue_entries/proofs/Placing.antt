-- A settled list, by its parts: the entries before the gap, those behind it up to the last place, and what was past them.
use Prim.Native.Nat.{ℕ, zero, suc, ◌+◌, ◌-◌, ◌<◌, ◌≤◌}
use native.Mathlib.Omega.{arith}
use mathlib.Core.Path.{◌≡◌, sym, ◌∙◌, ap}
use mathlib.Core.Bool.{true, false}
use mathlib.Core.List.{List, [], ◌∷◌, ◌++◌, append_assoc, append-nil}
use lib.ListN.{length, take, drop, set, get_or, length-append, length-drop, take-append-drop}
use lib.Seq.{get_or-drop, drop-cons, length-take-le, paste, take-suc, set_at, set_split, get_or-append-add}
use Rattle.queues.specs.declared.Entry.{Entry}
use Rattle.queues.specs.Lists.{entries_over}
use Rattle.queue_entries.specs.Entries.{nobody, moved_up, settled}

-- the entries before the gap `g`, and `k` of those behind it
abbrev moved : List Entry → ℕ → ℕ → List Entry
moved ys g k = take g ys ++ take k (drop (g + 1) ys)

moved_length : (ys : List Entry) (g k : ℕ) → g + k < length ys → length (moved ys g k) ≡ g + k
moved_length ys g k h =
    length-append (take g ys) (take k (drop (g + 1) ys))
    ∙ (λ i. length-take-le g ys (let z : g ≤ length ys = omega arith in z) i
    + length-take-le k (drop (g + 1) ys) (let z : k ≤ length (drop (g + 1) ys) = rw (length-drop (g + 1) ys) (omega arith) in z) i)

pub moved_up_is : (ys : List Entry) (g k : ℕ) → g + k < length ys → moved_up ys g k ≡ moved ys g k ++ drop (g + k) ys
moved_up_is ys g zero h =
    sym (take-append-drop g ys)
    ∙ (λ i. sym (append-nil (take g ys)) i ++ drop ((let z : g ≡ g + 0 = omega arith in z) i) ys)
moved_up_is ys g (suc k) h = there (moved_up_is ys g k (omega arith)) ∙ sym here
  where
    at : ℕ
    at = g + k

    p : List Entry
    p = moved ys g k

    a : Entry
    a = get_or ys at nobody

    b : Entry
    b = get_or ys (at + 1) nobody

    rest : List Entry
    rest = drop (suc (suc at)) ys

    counted : length p ≡ at
    counted = moved_length ys g k (let z : g + k < length ys = omega arith in z)

    behind : drop (suc at) ys ≡ b ∷ rest
    behind = drop-cons ys (suc at) nobody (omega arith) ∙ ap (λ (n : ℕ). get_or ys n nobody ∷ rest) (let z : suc at ≡ at + 1 = omega arith in z)

    before : moved_up ys g k ≡ p ++ drop at ys → moved_up ys g k ≡ p ++ (a ∷ (b ∷ rest))
    before again =
        again
        ∙ ap (λ (xs : List Entry). p ++ xs) (drop-cons ys at nobody (omega arith) ∙ ap (λ (xs : List Entry). a ∷ xs) behind)

    next : moved_up ys g k ≡ p ++ (a ∷ (b ∷ rest)) → get_or (moved_up ys g k) (at + 1) nobody ≡ b
    next is =
        ap (λ (xs : List Entry). get_or xs (at + 1) nobody) is
        ∙ ap (λ (n : ℕ). get_or (p ++ (a ∷ (b ∷ rest))) (n + 1) nobody) (sym counted)
        ∙ get_or-append-add p (a ∷ (b ∷ rest)) 1 nobody

    there : moved_up ys g k ≡ p ++ drop at ys → moved_up ys g (suc k) ≡ p ++ (b ∷ (b ∷ rest))
    there again =
        (λ i. set (before again i) at (next (before again) i))
        ∙ set_at p a (b ∷ rest) b at counted

    one_more_fact : moved ys g (suc k) ≡ p ++ (b ∷ [])
    one_more_fact =
        ap (λ (xs : List Entry). take g ys ++ xs)
        (take-suc (drop (g + 1) ys) k nobody (rw (length-drop (g + 1) ys) (omega arith))
        ∙ ap (λ (e : Entry). take k (drop (g + 1) ys) ++ (e ∷ []))
        (get_or-drop (g + 1) ys k nobody ∙ ap (λ (n : ℕ). get_or ys n nobody) (let z : g + 1 + k ≡ at + 1 = omega arith in z)))
        ∙ sym (append_assoc (take g ys) (take k (drop (g + 1) ys)) (b ∷ []))

    here : moved ys g (suc k) ++ drop (g + suc k) ys ≡ p ++ (b ∷ (b ∷ rest))
    here =
        (λ i. one_more_fact i ++ (ap (λ (n : ℕ). drop n ys) (let z : g + suc k ≡ suc at = omega arith in z) ∙ behind) i)
        ∙ append_assoc p (b ∷ []) (b ∷ rest)

-- they are moved by one copy too
pub moved_up_paste : (ys : List Entry) (g last : ℕ) → g < last → last < length ys
    → paste ys g (drop (g + 1) ys) (last + 1 - (g + 1)) ≡ moved_up ys g (last - g)
moved_up_paste ys g last l h =
    let k : last + 1 - (g + 1) ≡ last - g = omega arith in ap (paste ys g (drop (g + 1) ys)) k ∙ sym (moved_up_is ys g (last - g) (omega arith))

-- ---- what a list is after it is settled
module _ (ys : List Entry) (e : Entry) where
  -- one is added behind the first n
  pub settled_added : (n : ℕ) → n < length ys → settled ys n n true e ≡ entries_over (take n ys ++ (e ∷ [])) ys
  settled_added n h =
      ap (λ (k : ℕ). set (moved_up ys n k) n e) (let z : n - n ≡ 0 = omega arith in z)
      ∙ set_split ys n e h
      ∙ sym (append_assoc (take n ys) (e ∷ []) (drop (suc n) ys))
      ∙ ap (λ (k : ℕ). (take n ys ++ (e ∷ [])) ++ drop k ys) (sym counted)
    where
      counted : length (take n ys ++ (e ∷ [])) ≡ suc n
      counted = length-append (take n ys) (e ∷ []) ∙ ap (λ (k : ℕ). k + 1) (length-take-le n ys (omega arith))
          ∙ (let z : n + 1 ≡ suc n = omega arith in z)

  -- the one at a place of the first n leaves
  pub settled_gone : (g n : ℕ) → g < n → n ≤ length ys
      → settled ys g (n - 1) false e ≡ entries_over (take g ys ++ take (n - 1 - g) (drop (g + 1) ys)) ys
  settled_gone g n l h =
      moved_up_is ys g (n - 1 - g) (omega arith)
      ∙ ap (λ (k : ℕ). moved ys g (n - 1 - g) ++ drop k ys) (sym (moved_length ys g (n - 1 - g) (omega arith)))

  -- it leaves, and one is added behind the others
  pub settled_back : (g n : ℕ) → g < n → n ≤ length ys
      → settled ys g (n - 1) true e ≡ entries_over ((take g ys ++ take (n - 1 - g) (drop (g + 1) ys)) ++ (e ∷ [])) ys
  settled_back g n l h =
      ap (λ (zs : List Entry). set zs (n - 1) e) (moved_up_is ys g k within ∙ ap (λ (xs : List Entry). p ++ xs) last)
      ∙ set_at p _ (drop n ys) e (n - 1) counted
      ∙ sym (append_assoc p (e ∷ []) (drop n ys))
      ∙ ap (λ (m : ℕ). (p ++ (e ∷ [])) ++ drop m ys) (sym more)
    where
      k : ℕ
      k = n - 1 - g

      p : List Entry
      p = moved ys g k

      within : g + k < length ys
      within = omega arith

      counted : length p ≡ n - 1
      counted = moved_length ys g k within ∙ (let z : g + k ≡ n - 1 = omega arith in z)

      last : drop (g + k) ys ≡ get_or ys (g + k) nobody ∷ drop n ys
      last = drop-cons ys (g + k) nobody within ∙ ap (λ (m : ℕ). get_or ys (g + k) nobody ∷ drop m ys) (let z : suc (g + k) ≡ n = omega arith in z)

      more : length (p ++ (e ∷ [])) ≡ n
      more = length-append p (e ∷ []) ∙ ap (λ (m : ℕ). m + 1) counted ∙ (let z : n - 1 + 1 ≡ n = omega arith in z)

-- a list over whose front its own first entries are written
pub stays : (es : List Entry) (n : ℕ) → n ≤ length es → entries_over (take n es) es ≡ es
stays es n h = ap (λ (k : ℕ). take n es ++ drop k es) (length-take-le n es h) ∙ take-append-drop n es
