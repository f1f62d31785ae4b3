-- Registers merged by the greater of each: in every order and grouping, and as their values join.
use Prim.Native.Nat.{ℕ, ◌≤◌, max}
use native.Mathlib.Nat.{max_comm, zero-max, max-le, le-max_left, le-max_right, le_antisymm, le_trans, le_refl}
use mathlib.Core.Path.{◌≡◌, refl, sym, ◌∙◌, ap, ap₂}
use mathlib.Core.List.{List, [], ◌∷◌, ◌++◌, map}
use Rattle.sequences.specs.Sequences.{numbers}
use Rattle.registers.specs.Registers.{given_to, register_of, registers_of, greater_of, register_count}

-- ---- of two numbers
max_assoc : (a b c : ℕ) → max (max a b) c ≡ max a (max b c)
max_assoc a b c =
    let left : max b c ≤ max a (max b c) = le-max_right a (max b c) in
    let right : max a b ≤ max (max a b) c = le-max_left (max a b) c in
    le_antisymm
    (max-le (max-le (le-max_left a (max b c)) (le_trans (le-max_left b c) left)) (le_trans (le-max_right b c) left))
    (max-le (le_trans (le-max_left a b) right) (max-le (le_trans (le-max_right a b) right) (le-max_right (max a b) c)))

max_self : (a : ℕ) → max a a ≡ a
max_self a = le_antisymm (max-le (le_refl a) (le_refl a)) (le-max_left a a)

-- ---- of any registers
pub greater_comm : (xs ys : List ℕ) → greater_of xs ys ≡ greater_of ys xs
unfolding greater_of
greater_comm [] [] = refl
greater_comm [] (y ∷ ys) = refl
greater_comm (x ∷ xs) [] = refl
greater_comm (x ∷ xs) (y ∷ ys) = ap₂ ◌∷◌ (max_comm x y) (greater_comm xs ys)

pub greater_assoc : (xs ys zs : List ℕ) → greater_of (greater_of xs ys) zs ≡ greater_of xs (greater_of ys zs)
unfolding greater_of
greater_assoc [] ys zs = refl
greater_assoc (x ∷ xs) [] zs = refl
greater_assoc (x ∷ xs) (y ∷ ys) [] = refl
greater_assoc (x ∷ xs) (y ∷ ys) (z ∷ zs) = ap₂ ◌∷◌ (max_assoc x y z) (greater_assoc xs ys zs)

pub greater_self : (xs : List ℕ) → greater_of xs xs ≡ xs
unfolding greater_of
greater_self [] = refl
greater_self (x ∷ xs) = ap₂ ◌∷◌ (max_self x) (greater_self xs)

-- ---- of two parts of some values
pub register_append : (i : ℕ) (xs ys : List ℕ) → register_of i (xs ++ ys) ≡ max (register_of i xs) (register_of i ys)
unfolding register_of
register_append i [] ys = sym (zero-max (register_of i ys))
register_append i (x ∷ xs) ys =
    ap (max (given_to i x)) (register_append i xs ys) ∙ sym (max_assoc (given_to i x) (register_of i xs) (register_of i ys))

greater_map : (f g : ℕ → ℕ) (is : List ℕ) → greater_of (map f is) (map g is) ≡ map (λ i. max (f i) (g i)) is
unfolding greater_of
greater_map f g [] = refl
greater_map f g (i ∷ is) = ap (λ l. max (f i) (g i) ∷ l) (greater_map f g is)

pub map_same : (f g : ℕ → ℕ) → ((i : ℕ) → f i ≡ g i) → (is : List ℕ) → map f is ≡ map g is
map_same f g h [] = refl
map_same f g h (i ∷ is) = ap₂ ◌∷◌ (h i) (map_same f g h is)

-- the registers of both, merged, are those of all
pub registers_append : (xs ys : List ℕ) → greater_of (registers_of xs) (registers_of ys) ≡ registers_of (xs ++ ys)
unfolding registers_of
registers_append xs ys =
    greater_map _ _ (numbers register_count) ∙ map_same _ _ (λ i. sym (register_append i xs ys)) (numbers register_count)
