-- The registers of one value are 0 but for the one that it picks; merged with others they raise that one.
use Prim.Native.Nat.{ℕ, zero, suc, ◌≤◌, ◌<◌, max}
use native.Mathlib.Omega.{arith}
use native.Mathlib.Nat.{max-zero}
use native.Mathlib.Numerals.{add-one}
use mathlib.Core.Path.{◌≡◌, refl, sym, ◌∙◌, ap, ap₂}
use mathlib.Core.Bool.{cond}
use mathlib.Core.List.{List, [], ◌∷◌, ◌++◌, map}
use lib.Dec.{eqb}
use lib.ListN.{length, get_or, take, drop, set, replicate, length-append, length-set, length-replicate, replicate-append-replicate}
use lib.ListN.{take-append-drop, get_or-append}
use lib.Seq.{length-take-le, set-append_left, set-append_seam, set_out}
use borrow.Author.Tests.{eq-eqb, ne_eqb}
use Rattle.sequences.specs.Sequences.{numbers, over}
use Rattle.sequences.proofs.Orders.{Three, less, same, more, three}
use Rattle.sequences.proofs.Numbers.{numbers_none, numbers_next}
use Rattle.register_hashes.specs.Hashes.{hash_of, picked_by, rank_in}
use Rattle.registers.specs.Registers.{register_count, given_to, register_of, registers_of, greater_of}
use Rattle.registers.proofs.Merging.{map_same}

-- ---- zeros
abbrev pub zeros : ℕ → List ℕ
zeros n = replicate n 0

zeros_length : (n : ℕ) → length (zeros n) ≡ n
zeros_length n = length-replicate {A = ℕ} n 0

pub zeros_next : (n : ℕ) → zeros n ++ (0 ∷ []) ≡ zeros (suc n)
zeros_next n = replicate-append-replicate {A = ℕ} n 1 0 ∙ ap (λ k. zeros k) (add-one n)

pub registers_none : registers_of [] ≡ zeros register_count
unfolding registers_of register_of numbers
registers_none = refl

-- ---- of one value
pub map_last : (f : ℕ → ℕ) (vs : List ℕ) (n : ℕ) → map f (vs ++ (n ∷ [])) ≡ map f vs ++ (f n ∷ [])
map_last f [] n = refl
map_last f (v ∷ vs) n = ap (λ l. f v ∷ l) (map_last f vs n)

-- what is given to each register where p is picked
abbrev gives : ℕ → ℕ → ℕ → ℕ
gives p r i = cond (eqb p i) r 0

one_given : (p r n : ℕ) → map (gives p r) (numbers n) ≡ set (zeros n) p r
one_given p r zero = ap (map (gives p r)) (sym numbers_none)
one_given p r (suc n) =
    ap (map (gives p r)) (sym (numbers_next n)) ∙ map_last (gives p r) (numbers n) n
    ∙ ap (λ l. l ++ (gives p r n ∷ [])) (one_given p r n) ∙ go (three p n) ∙ ap (λ l. set l p r) (zeros_next n)
  where
    size : length (zeros n) ≡ n
    size = zeros_length n

    go : Three p n → set (zeros n) p r ++ (gives p r n ∷ []) ≡ set (zeros n ++ (0 ∷ [])) p r
    go (less h) =
        ap (λ b. set (zeros n) p r ++ (cond b r 0 ∷ [])) (ne_eqb p n (λ e. omega arith))
        ∙ sym (set-append_left (zeros n) (0 ∷ []) p r (omega (arith, size)))
    go (same h) =
        ap (λ b. set (zeros n) p r ++ (cond b r 0 ∷ [])) (eq-eqb p n h)
        ∙ ap (λ l. l ++ (r ∷ [])) (set_out (zeros n) p r (omega (arith, size)))
        ∙ sym (ap (λ k. set (zeros n ++ (0 ∷ [])) k r) (h ∙ sym size) ∙ set-append_seam (zeros n) 0 [] r)
    go (more h) =
        ap (λ b. set (zeros n) p r ++ (cond b r 0 ∷ [])) (ne_eqb p n (λ e. omega arith))
        ∙ ap (λ l. l ++ (0 ∷ [])) (set_out (zeros n) p r (omega (arith, size)))
        ∙ sym (set_out (zeros n ++ (0 ∷ [])) p r (omega (arith, size, length-append (zeros n) (0 ∷ []))))

registers_one : (x : ℕ) → registers_of (x ∷ []) ≡ set (zeros register_count) (picked_by (hash_of x)) (rank_in (hash_of x))
unfolding registers_of register_of given_to
registers_one x =
    map_same (λ i. max (gives (picked_by (hash_of x)) (rank_in (hash_of x)) i) 0) (gives (picked_by (hash_of x)) (rank_in (hash_of x)))
    (λ i. max-zero (gives (picked_by (hash_of x)) (rank_in (hash_of x)) i)) (numbers register_count)
    ∙ one_given (picked_by (hash_of x)) (rank_in (hash_of x)) register_count

-- ---- merged with others
greater_zeros : (ws : List ℕ) → greater_of ws (zeros (length ws)) ≡ ws
unfolding greater_of
greater_zeros [] = refl
greater_zeros (w ∷ ws) = ap₂ ◌∷◌ (max-zero w) (greater_zeros ws)

greater_one : (ws : List ℕ) (p r : ℕ) → greater_of ws (set (zeros (length ws)) p r) ≡ set ws p (max (get_or ws p 0) r)
unfolding greater_of
greater_one [] p r = refl
greater_one (w ∷ ws) zero r = ap (λ l. max w r ∷ l) (greater_zeros ws)
greater_one (w ∷ ws) (suc p) r = ap₂ ◌∷◌ (max-zero w) (greater_one ws p r)

-- a word set in the front of a buffer
set_front : (n : ℕ) (out : List ℕ) (p v : ℕ) → n ≤ length out → p < n → over (set (take n out) p v) out ≡ set out p v
set_front n out p v h l =
    let s : length (take n out) ≡ n = length-take-le n out h in
    ap (λ k. set (take n out) p v ++ drop k out) (length-set (take n out) p v ∙ s)
    ∙ sym (set-append_left (take n out) (drop n out) p v (omega (arith, s))) ∙ ap (λ b. set b p v) (take-append-drop n out)

front_at : (n : ℕ) (out : List ℕ) (p : ℕ) → n ≤ length out → p < n → get_or (take n out) p 0 ≡ get_or out p 0
front_at n out p h l =
    let s : length (take n out) ≡ n = length-take-le n out h in
    sym (get_or-append (take n out) (drop n out) 0 p (omega (arith, s))) ∙ ap (λ b. get_or b p 0) (take-append-drop n out)

pub raised : (out : List ℕ) (x : ℕ) → register_count ≤ length out → picked_by (hash_of x) < register_count
    → set out (picked_by (hash_of x)) (max (get_or out (picked_by (hash_of x)) 0) (rank_in (hash_of x)))
    ≡ over (greater_of (take register_count out) (registers_of (x ∷ []))) out
raised out x h l =
    let n = register_count in
    let p = picked_by (hash_of x) in
    let r = rank_in (hash_of x) in
    let s : length (take register_count out) ≡ register_count = length-take-le register_count out h in
    let one : greater_of (take register_count out) (registers_of (x ∷ [])) ≡ set (take register_count out) p (max (get_or out p 0) r) =
    ap (greater_of (take register_count out)) (registers_one x ∙ ap (λ k. set (zeros k) p r) (sym s))
    ∙ greater_one (take register_count out) p r ∙ ap (λ v. set (take register_count out) p (max v r)) (front_at register_count out p h l) in
    sym (ap (λ ws. over ws out) one ∙ set_front register_count out p (max (get_or out p 0) r) h l)

-- the first words of a buffer, over them, leave it as it was
pub over_own : (out : List ℕ) (n : ℕ) → n ≤ length out → out ≡ over (take n out) out
over_own out n h = sym (ap (λ k. take n out ++ drop k out) (length-take-le n out h) ∙ take-append-drop n out)
