-- Small functions on lists and numbers that the definitions use. Assumes nothing: these are definitions.
use Rattle.std.specs.Prelude.{ℕ, zero, suc, ◌+◌, Bool, true, false, cond, ◌&&◌, ◌||◌, not, List, [], ◌∷◌, ◌++◌, eqb, ltb, length, take, drop}

-- a test passes at each number below n; how many numbers below n pass it
unfoldable pub all_below : (ℕ → Bool) → ℕ → Bool
all_below f zero = true
all_below f (suc n) = all_below f n && f n

unfoldable pub count_below : (ℕ → Bool) → ℕ → ℕ
count_below f zero = 0
count_below f (suc n) = cond (f n) (count_below f n + 1) (count_below f n)

-- a test passes at some number below n
abbrev pub some_below : (ℕ → Bool) → ℕ → Bool
some_below f n = not (all_below (λ i. not (f i)) n)

-- the numbers below n, ascending
unfoldable pub numbers : ℕ → List ℕ
numbers zero = []
numbers (suc n) = numbers n ++ (n ∷ [])

-- a test passes at each element; the elements that pass it
unfoldable pub all {ℓ} : {A : Type ℓ} → (A → Bool) → List A → Bool
all f [] = true
all f (x ∷ xs) = f x && all f xs

unfoldable pub keep {ℓ} : {A : Type ℓ} → (A → Bool) → List A → List A
keep f [] = []
keep f (x ∷ xs) = cond (f x) (x ∷ keep f xs) (keep f xs)

-- a test passes at each two neighbours
unfoldable pub neighbours {ℓ} : {A : Type ℓ} → (A → A → Bool) → List A → Bool
neighbours f [] = true
neighbours f (x ∷ []) = true
neighbours f (x ∷ y ∷ ys) = f x y && neighbours f (y ∷ ys)

-- a word is among others; no word stands twice
unfoldable pub member : ℕ → List ℕ → Bool
member a [] = false
member a (x ∷ xs) = eqb a x || member a xs

unfoldable pub distinct : List ℕ → Bool
distinct [] = true
distinct (x ∷ xs) = not (member x xs) && distinct xs

-- n parts of w elements each
unfoldable pub parts {ℓ} : {A : Type ℓ} → ℕ → ℕ → List A → List (List A)
parts w zero xs = []
parts w (suc n) xs = take w xs ∷ parts w n (drop w xs)

-- xs comes before ys: the lexicographic order, on as many elements as the shorter list has
unfoldable pub lex_before : List ℕ → List ℕ → Bool
lex_before xs [] = false
lex_before [] (y ∷ ys) = false
lex_before (x ∷ xs) (y ∷ ys) = ltb x y || (eqb x y && lex_before xs ys)

-- `f`, a number of times
unfoldable pub iterate {ℓ} : {A : Type ℓ} → (A → A) → ℕ → A → A
iterate f zero a = a
iterate f (suc n) a = f (iterate f n a)

-- a buffer with its first words replaced
abbrev pub over : List ℕ → List ℕ → List ℕ
over ws buffer = ws ++ drop (length ws) buffer
