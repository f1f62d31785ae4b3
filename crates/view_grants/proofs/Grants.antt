-- Test 20 of a grant, by its parts and by neighbours.
use Prim.Native.Nat.{ℕ, suc, ◌-◌, ◌≤◌, ◌<◌}
use native.Mathlib.Omega.{arith}
use mathlib.Core.Path.{◌≡◌, refl, sym, ◌∙◌, ap}
use mathlib.Core.Bool.{true, false, ◌&&◌, and-false, and-true}
use mathlib.Core.List.{List, [], ◌∷◌}
use lib.Dec.{ltb}
use lib.ListN.{length, get_or, drop, length-drop}
use lib.Seq.{drop-cons}
use Rattle.sequences.specs.Sequences.{all, neighbours}
use borrow.Author.Tests.{ltb-true, eqb-true, eq-eqb}
use Rattle.words.specs.Words.{term_kind, name_kind}
use Rattle.sequences.proofs.Booleans.{and_left, and_right, Decided, yes, no, decided}
use Rattle.views.specs.Viewing.{is_name, grant_right}

module _ (grant : List ℕ) where
  pub by_order : neighbours ltb grant ≡ false → grant_right grant ≡ false
  unfolding grant_right
  by_order e = rw e (and-false (all is_name grant))

  pub by_names : neighbours ltb grant ≡ true → grant_right grant ≡ all is_name grant
  unfolding grant_right
  by_names e = rw e (and-true (all is_name grant))

  pub right_ascends : grant_right grant ≡ true → neighbours ltb grant ≡ true
  unfolding grant_right
  right_ascends e = and_right (all is_name grant) _ e

-- ---- neighbours from a place on
short : (xs : List ℕ) → length xs ≤ 1 → neighbours ltb xs ≡ true
unfolding neighbours
short [] h = refl
short (x ∷ []) h = refl
short (x ∷ y ∷ ys) h = absurd (omega arith)

two : (x y : ℕ) (ys : List ℕ) → neighbours ltb (x ∷ y ∷ ys) ≡ (ltb x y && neighbours ltb (y ∷ ys))
unfolding neighbours
two x y ys = refl

module _ (xs : List ℕ) (k : ℕ) where
  pub neighbours_end : length xs ≤ suc k → neighbours ltb (drop k xs) ≡ true
  neighbours_end h = short (drop k xs) (omega (arith, length-drop k xs))

  pub neighbours_step : suc k < length xs
      → neighbours ltb (drop k xs) ≡ (ltb (get_or xs k 0) (get_or xs (suc k) 0) && neighbours ltb (drop (suc k) xs))
  neighbours_step h =
      let e = drop-cons xs (suc k) 0 h in
      ap (neighbours ltb) (drop-cons xs k 0 (omega arith) ∙ ap (λ l. get_or xs k 0 ∷ l) e)
      ∙ two (get_or xs k 0) (get_or xs (suc k) 0) (drop (suc (suc k)) xs)
      ∙ ap (λ l. ltb (get_or xs k 0) (get_or xs (suc k) 0) && neighbours ltb l) (sym e)

-- ---- names are the least words: where they ascend, the last tells of all
pub none_named : (xs : List ℕ) → length xs ≡ 0 → all is_name xs ≡ true
unfolding all
none_named [] h = refl
none_named (x ∷ xs) h = absurd (omega arith)

less_named : (x y : ℕ) → ltb x y ≡ true → is_name y ≡ true → is_name x ≡ true
less_named x y h e =
    let l = ltb-true x y h in
    let n = eqb-true (term_kind y) name_kind e in
    eq-eqb (term_kind x) name_kind (omega arith)

all_cons : (x : ℕ) (xs : List ℕ) → all is_name (x ∷ xs) ≡ (is_name x && all is_name xs)
unfolding all
all_cons x xs = refl

all_none : all is_name [] ≡ true
unfolding all
all_none = refl

first_too : (x y : ℕ) (ys : List ℕ) → ltb x y ≡ true → all is_name (y ∷ ys) ≡ all is_name (x ∷ y ∷ ys)
first_too x y ys h = go (decided (all is_name (y ∷ ys))) ∙ sym (all_cons x (y ∷ ys))
  where
    go : Decided (all is_name (y ∷ ys)) → all is_name (y ∷ ys) ≡ (is_name x && all is_name (y ∷ ys))
    go (yes p) =
        let n = less_named x y h (and_left (is_name y) (all is_name ys) (sym (all_cons y ys) ∙ p)) in
        sym (ap (λ b. b && all is_name (y ∷ ys)) n)
    go (no p) = p ∙ sym (ap (λ b. is_name x && b) p ∙ and-false (is_name x))

pub last_name : (xs : List ℕ) → neighbours ltb xs ≡ true → 0 < length xs → is_name (get_or xs (length xs - 1) 0) ≡ all is_name xs
last_name [] h l = absurd (omega arith)
last_name (x ∷ []) h l = sym (all_cons x [] ∙ ap (λ b. is_name x && b) all_none ∙ and-true (is_name x))
last_name (x ∷ y ∷ ys) h l =
    let e : length (x ∷ y ∷ ys) - 1 ≡ suc (length (y ∷ ys) - 1) = omega arith in
    let b = sym (two x y ys) ∙ h in
    ap (λ k. is_name (get_or (x ∷ y ∷ ys) k 0)) e
    ∙ last_name (y ∷ ys) (and_right (ltb x y) (neighbours ltb (y ∷ ys)) b) (omega arith)
    ∙ first_too x y ys (and_left (ltb x y) (neighbours ltb (y ∷ ys)) b)
