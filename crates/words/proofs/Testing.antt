-- Tests in order: the first of two lists to fail decides, and a call is served exactly when all of its tests pass.
use Prim.Native.Nat.{ℕ}
use mathlib.Core.Path.{◌≡◌, refl, sym}
use mathlib.Core.Bool.{Bool, true, false, cond, ◌&&◌}
use mathlib.Core.Option.{Option, none, some}
use mathlib.Core.List.{List, [], ◌∷◌, ◌++◌}
use lib.Dec.{eqb}
use native.Mathlib.Omega.{arith}
use borrow.Author.Tests.{eqb-true, eq-eqb}
use Rattle.words.specs.Tests.{Test, first_failing, AllPass, FirstFails, here, there, tests_before}
use Rattle.sequences.proofs.Booleans.{absurd_true}

pub none_some {ℓ} : {A : Type ℓ} {a : A} → ◌≡◌ {A = Option A} none (some a) → ⊥
none_some e = let z : ◌≡◌ {A = ℕ} 0 1 = cc in omega arith

pub some_injective {ℓ} : {A : Type ℓ} {a b : A} → some a ≡ some b → a ≡ b
some_injective e = cc

pub passes_all : (xs : List Test) → first_failing xs ≡ none → AllPass xs
unfolding first_failing
passes_all [] e = tt
passes_all (x ∷ xs) e = go x.1 refl e (λ h. passes_all xs h)
  where
    go : (b : Bool) → x.1 ≡ b → cond b (first_failing xs) (some x.0) ≡ none → (first_failing xs ≡ none → AllPass xs)
        → (x.1 ≡ true) × AllPass xs
    go true p h ih = (p, ih h)
    go false p h ih = absurd (none_some (sym h))

pub all_passes : (xs : List Test) → AllPass xs → first_failing xs ≡ none
unfolding first_failing
all_passes [] h = refl
all_passes (x ∷ xs) h = rw h.0 (all_passes xs h.1)

pub first_fails : (n : ℕ) (xs : List Test) → first_failing xs ≡ some n → FirstFails n xs
unfolding first_failing
first_fails n [] e = absurd (none_some e)
first_fails n ((m, true) ∷ xs) e = there (first_fails n xs e)
first_fails n ((m, false) ∷ xs) e = let p : m ≡ n = cc in rw p here

pub fails_first : (n : ℕ) (xs : List Test) → FirstFails n xs → first_failing xs ≡ some n
unfolding first_failing
fails_first n [] h = elim h [ ]
fails_first n ((m, b) ∷ xs) here = refl
fails_first n ((m, b) ∷ xs) (there h) = fails_first n xs h

-- the tests of a list and then those of another
abbrev pub or_else : Option ℕ → Option ℕ → Option ℕ
or_else none y = y
or_else (some n) y = some n

pub first_append : (xs ys : List Test) → first_failing (xs ++ ys) ≡ or_else (first_failing xs) (first_failing ys)
unfolding first_failing
first_append [] ys = refl
first_append (x ∷ xs) ys = go x.1 (first_append xs ys)
  where
    go : (b : Bool) → first_failing (xs ++ ys) ≡ or_else (first_failing xs) (first_failing ys)
        → cond b (first_failing (xs ++ ys)) (some x.0) ≡ or_else (cond b (first_failing xs) (some x.0)) (first_failing ys)
    go true ih = ih
    go false ih = refl

-- ---- tests that passed
-- those of two lists, one behind the other
pub front_passes : (xs ys : List Test) → AllPass (xs ++ ys) → AllPass xs
front_passes [] ys h = tt
front_passes (x ∷ xs) ys h = (h.0, front_passes xs ys h.1)

pub rest_passes : (xs ys : List Test) → AllPass (xs ++ ys) → AllPass ys
rest_passes [] ys h = h
rest_passes (x ∷ xs) ys h = rest_passes xs ys h.1

-- what the first test with a number says, true where none has it; it computes on a list whose numbers stand there
abbrev pub test_numbered : ℕ → List Test → Bool
test_numbered n [] = true
test_numbered n (x ∷ xs) = cond (eqb n x.0) x.1 (test_numbered n xs)

-- a test that passed, by its number: tests that are put in before it or after it change nothing
pub test_passed : (n : ℕ) (xs : List Test) → AllPass xs → test_numbered n xs ≡ true
test_passed n [] h = refl
test_passed n (x ∷ xs) h = go (eqb n x.0) (test_passed n xs h.1)
  where
    go : (b : Bool) → test_numbered n xs ≡ true → cond b x.1 (test_numbered n xs) ≡ true
    go true ih = h.0
    go false ih = ih

-- ---- a test that fails, by its number
-- some test fails first
pub some_fails : (n : ℕ) (xs : List Test) → test_numbered n xs ≡ false → (y : ℕ) × FirstFails y xs
some_fails n xs e = go (first_failing xs) refl
  where
    go : (o : Option ℕ) → first_failing xs ≡ o → (y : ℕ) × FirstFails y xs
    go none p = absurd_true (test_passed n xs (passes_all xs p)) e
    go (some y) p = (y, first_fails y xs p)

-- and where those before it pass, it is that one
pub fails_at : (n : ℕ) (xs : List Test) → test_numbered n xs ≡ false → AllPass (tests_before n xs) → FirstFails n xs
fails_at n [] e h = absurd_true refl e
fails_at n ((m, b) ∷ xs) e h = go (eqb n m) refl e h (fails_at n xs)
  where
    go : (c : Bool) → eqb n m ≡ c → cond c b (test_numbered n xs) ≡ false → AllPass (cond c [] ((m, b) ∷ tests_before n xs))
        → (test_numbered n xs ≡ false → AllPass (tests_before n xs) → FirstFails n xs) → FirstFails n ((m, b) ∷ xs)
    go true p f k ih = rw (f, ← eqb-true n m p) here
    go false p f k ih = rw k.0 (there (ih f k.1))

-- those before it pass
pub passed_before_lem : (n : ℕ) (xs : List Test) → FirstFails n xs → AllPass (tests_before n xs)
passed_before_lem n xs here = rw (eq-eqb n n refl) tt
passed_before_lem n xs (there {m = m} {xs = ys} h) = go (eqb n m) (passed_before_lem n ys h)
  where
    go : (b : Bool) → AllPass (tests_before n ys) → AllPass (cond b [] ((m, true) ∷ tests_before n ys))
    go true ih = tt
    go false ih = (refl, ih)

-- and not every test with its number does
abbrev pub each_numbered : ℕ → List Test → Bool
each_numbered n [] = true
each_numbered n (x ∷ xs) = cond (eqb n x.0) (x.1 && each_numbered n xs) (each_numbered n xs)

pub first_not_passed : (n : ℕ) (xs : List Test) → FirstFails n xs → each_numbered n xs ≡ false
first_not_passed n xs here = rw (eq-eqb n n refl) refl
first_not_passed n xs (there {m = m} {xs = ys} h) = go (eqb n m) (first_not_passed n ys h)
  where
    go : (b : Bool) → each_numbered n ys ≡ false → cond b (true && each_numbered n ys) (each_numbered n ys) ≡ false
    go true e = e
    go false e = e
