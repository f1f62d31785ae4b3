-- A product modulo 2^64 from the halves of its factors.
use Rattle.std.proofs.Common.{◌≡◌, ℕ, ◌+◌, ◌*◌, ◌/◌, ◌%◌, ◌^◌, ◌<◌, sym, ap, ◌∙◌, ap₂, lt_of_le_of_lt, le_of_lt, mul_assoc, mul_comm, add-mul, mul-le-mul_left}
use Rattle.std.proofs.Common.{mul-lt-mul_of_pos_right, mul-add, arith, pow_pos, pow-add}
use mathlib.Core.Path.{subst⁻¹}

pub below : (k : ℕ) {a b : ℕ} → a < 2 ^ k → b < 2 ^ k → a * b < 2 ^ (k + k)
below k {a} {b} ha hb =
    subst⁻¹ (λ (n : ℕ). a * b < n) (pow-add 2 k k)
    (lt_of_le_of_lt (mul-le-mul_left a (le_of_lt hb)) (mul-lt-mul_of_pos_right ha (pow_pos k)))

abbrev half : ℕ
half = 4294967296

-- both halves of both factors
expanded : (h l i m : ℕ) → (h * half + l) * (i * half + m) ≡ h * i * (half * half) + (h * m + l * i) * half + l * m
expanded h l i m =
    let a : (h * half + l) * (i * half + m) ≡ h * half * (i * half + m) + l * (i * half + m) = add-mul (h * half) l (i * half + m) in
    let b : h * half * (i * half + m) ≡ h * half * (i * half) + h * half * m = mul-add (h * half) (i * half) m in
    let c : l * (i * half + m) ≡ l * (i * half) + l * m = mul-add l (i * half) m in
    let d : h * half * (i * half) ≡ h * i * (half * half) =
    mul_assoc h half (i * half)
    ∙ ap (λ x. h * x) (sym (mul_assoc half i half) ∙ ap (λ x. x * half) (mul_comm half i) ∙ mul_assoc i half half)
    ∙ sym (mul_assoc h i (half * half)) in
    let e : h * half * m ≡ h * m * half = mul_assoc h half m ∙ ap (λ x. h * x) (mul_comm half m) ∙ sym (mul_assoc h m half) in
    let f : l * (i * half) ≡ l * i * half = sym (mul_assoc l i half) in
    omega arith

pub product : (a b : ℕ)
    → (a % half * (b % half) + (a / half * (b % half) + a % half * (b / half)) % 2 ^ 64 % half * half) % 2 ^ 64 ≡ (a * b) % 2 ^ 64
product a b =
    let p : a ≡ a / half * half + a % half = omega arith in
    let q : b ≡ b / half * half + b % half = omega arith in
    let e : a * b ≡ a / half * (b / half) * (half * half) + (a / half * (b % half) + a % half * (b / half)) * half + a % half * (b % half) =
    ap₂ (λ x y. x * y) p q ∙ expanded (a / half) (a % half) (b / half) (b % half) in
    omega arith
