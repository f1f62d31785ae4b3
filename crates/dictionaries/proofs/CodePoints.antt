-- For well-formed UTF-8 the order of bytes is the order of code points.
use Prim.Native.Nat.{ℕ, ◌+◌, ◌*◌, ◌<◌}
use native.Mathlib.Omega.{arith}
use mathlib.Core.Path.{◌≡◌, refl, sym, ◌∙◌, ap}
use mathlib.Core.Bool.{true}
use mathlib.Core.List.{List, ◌∷◌}
use Rattle.dictionaries.specs.Strings.{string_before}
use Rattle.dictionaries.specs.Utf8.{well_formed, code_points}
use Rattle.dictionaries.proofs.Strings.{before_less, before_same, before_more, before_none, before_some, before_equal, before_self, heads}
use Rattle.sequences.proofs.Each.{Each}
use Rattle.dictionaries.proofs.Characters.{Utf8Text, end, one, two, three, four, text_of}

text_order : {xs cs ys ds : List ℕ} → Utf8Text xs cs → Utf8Text ys ds → string_before xs ys ≡ string_before cs ds
text_order end end = refl
text_order end (one {bs = ys} {cs = ds} {p = p₂} b0₂ t₂) = before_some _ _ ∙ sym (before_some _ _)
text_order end (two {bs = ys} {cs = ds} {p = p₂} {q = q₂} b0₂ b1₂ l₂ t₂) = before_some _ _ ∙ sym (before_some _ _)
text_order end (three {bs = ys} {cs = ds} {p = p₂} {q = q₂} {r = r₂} b0₂ b1₂ b2₂ l₂ t₂) = before_some _ _ ∙ sym (before_some _ _)
text_order end (four {bs = ys} {cs = ds} {p = p₂} {q = q₂} {r = r₂} {s = s₂} b0₂ b1₂ b2₂ b3₂ l₂ m₂ t₂) = before_some _ _
    ∙ sym (before_some _ _)
text_order (one {bs = xs} {cs = cs} {p = p₁} b0₁ t₁) end = before_none _ ∙ sym (before_none _)
text_order (two {bs = xs} {cs = cs} {p = p₁} {q = q₁} b0₁ b1₁ l₁ t₁) end = before_none _ ∙ sym (before_none _)
text_order (three {bs = xs} {cs = cs} {p = p₁} {q = q₁} {r = r₁} b0₁ b1₁ b2₁ l₁ t₁) end = before_none _ ∙ sym (before_none _)
text_order (four {bs = xs} {cs = cs} {p = p₁} {q = q₁} {r = r₁} {s = s₁} b0₁ b1₁ b2₁ b3₁ l₁ m₁ t₁) end = before_none _
    ∙ sym (before_none _)
text_order (one {bs = xs} {cs = cs} {p = p₁} b0₁ t₁) (one {bs = ys} {cs = ds} {p = p₂} b0₂ t₂) =
    heads {x = p₁} {y = p₂} {c = p₁} {d = p₂} xs ys cs ds (λ h. omega arith) (λ h. omega arith) (λ e0.
    text_order t₁ t₂ ∙ sym (before_same {x = p₁} {y = p₂} cs ds (omega arith)))
text_order (one {bs = xs} {cs = cs} {p = p₁} b0₁ t₁) (two {bs = ys} {cs = ds} {p = p₂} {q = q₂} b0₂ b1₂ l₂ t₂) =
    before_less {x = p₁} {y = (0xC0 + p₂)} xs ((0x80 + q₂) ∷ ys) (omega arith)
    ∙ sym (before_less {x = p₁} {y = (p₂ * 64 + q₂)} cs ds (omega arith))
text_order (one {bs = xs} {cs = cs} {p = p₁} b0₁ t₁) (three {bs = ys} {cs = ds} {p = p₂} {q = q₂} {r = r₂} b0₂ b1₂ b2₂ l₂ t₂) =
    before_less {x = p₁} {y = (0xE0 + p₂)} xs ((0x80 + q₂) ∷ (0x80 + r₂) ∷ ys) (omega arith)
    ∙ sym (before_less {x = p₁} {y = ((p₂ * 64 + q₂) * 64 + r₂)} cs ds (omega arith))
text_order (one {bs = xs} {cs = cs} {p = p₁} b0₁ t₁)
    (four {bs = ys} {cs = ds} {p = p₂} {q = q₂} {r = r₂} {s = s₂} b0₂ b1₂ b2₂ b3₂ l₂ m₂ t₂) =
    before_less {x = p₁} {y = (0xF0 + p₂)} xs ((0x80 + q₂) ∷ (0x80 + r₂) ∷ (0x80 + s₂) ∷ ys) (omega arith)
    ∙ sym (before_less {x = p₁} {y = (((p₂ * 64 + q₂) * 64 + r₂) * 64 + s₂)} cs ds (omega arith))
text_order (two {bs = xs} {cs = cs} {p = p₁} {q = q₁} b0₁ b1₁ l₁ t₁) (one {bs = ys} {cs = ds} {p = p₂} b0₂ t₂) =
    before_more {x = (0xC0 + p₁)} {y = p₂} ((0x80 + q₁) ∷ xs) ys (omega arith)
    ∙ sym (before_more {x = (p₁ * 64 + q₁)} {y = p₂} cs ds (omega arith))
text_order (two {bs = xs} {cs = cs} {p = p₁} {q = q₁} b0₁ b1₁ l₁ t₁) (two {bs = ys} {cs = ds} {p = p₂} {q = q₂} b0₂ b1₂ l₂ t₂) =
    heads {x = (0xC0 + p₁)} {y = (0xC0 + p₂)} {c = (p₁ * 64 + q₁)} {d = (p₂ * 64 + q₂)} ((0x80 + q₁) ∷ xs) ((0x80 + q₂) ∷ ys) cs ds
    (λ h. omega arith) (λ h. omega arith) (λ e0.
    heads {x = (0x80 + q₁)} {y = (0x80 + q₂)} {c = (p₁ * 64 + q₁)} {d = (p₂ * 64 + q₂)} xs ys cs ds (λ h. omega arith) (λ h. omega arith) (λ e1.
    text_order t₁ t₂ ∙ sym (before_same {x = (p₁ * 64 + q₁)} {y = (p₂ * 64 + q₂)} cs ds (omega arith))))
text_order (two {bs = xs} {cs = cs} {p = p₁} {q = q₁} b0₁ b1₁ l₁ t₁)
    (three {bs = ys} {cs = ds} {p = p₂} {q = q₂} {r = r₂} b0₂ b1₂ b2₂ l₂ t₂) =
    before_less {x = (0xC0 + p₁)} {y = (0xE0 + p₂)} ((0x80 + q₁) ∷ xs) ((0x80 + q₂) ∷ (0x80 + r₂) ∷ ys) (omega arith)
    ∙ sym (before_less {x = (p₁ * 64 + q₁)} {y = ((p₂ * 64 + q₂) * 64 + r₂)} cs ds (omega arith))
text_order (two {bs = xs} {cs = cs} {p = p₁} {q = q₁} b0₁ b1₁ l₁ t₁)
    (four {bs = ys} {cs = ds} {p = p₂} {q = q₂} {r = r₂} {s = s₂} b0₂ b1₂ b2₂ b3₂ l₂ m₂ t₂) =
    before_less {x = (0xC0 + p₁)} {y = (0xF0 + p₂)} ((0x80 + q₁) ∷ xs) ((0x80 + q₂) ∷ (0x80 + r₂) ∷ (0x80 + s₂) ∷ ys) (omega arith)
    ∙ sym (before_less {x = (p₁ * 64 + q₁)} {y = (((p₂ * 64 + q₂) * 64 + r₂) * 64 + s₂)} cs ds (omega arith))
text_order (three {bs = xs} {cs = cs} {p = p₁} {q = q₁} {r = r₁} b0₁ b1₁ b2₁ l₁ t₁) (one {bs = ys} {cs = ds} {p = p₂} b0₂ t₂) =
    before_more {x = (0xE0 + p₁)} {y = p₂} ((0x80 + q₁) ∷ (0x80 + r₁) ∷ xs) ys (omega arith)
    ∙ sym (before_more {x = ((p₁ * 64 + q₁) * 64 + r₁)} {y = p₂} cs ds (omega arith))
text_order (three {bs = xs} {cs = cs} {p = p₁} {q = q₁} {r = r₁} b0₁ b1₁ b2₁ l₁ t₁)
    (two {bs = ys} {cs = ds} {p = p₂} {q = q₂} b0₂ b1₂ l₂ t₂) =
    before_more {x = (0xE0 + p₁)} {y = (0xC0 + p₂)} ((0x80 + q₁) ∷ (0x80 + r₁) ∷ xs) ((0x80 + q₂) ∷ ys) (omega arith)
    ∙ sym (before_more {x = ((p₁ * 64 + q₁) * 64 + r₁)} {y = (p₂ * 64 + q₂)} cs ds (omega arith))
text_order (three {bs = xs} {cs = cs} {p = p₁} {q = q₁} {r = r₁} b0₁ b1₁ b2₁ l₁ t₁)
    (three {bs = ys} {cs = ds} {p = p₂} {q = q₂} {r = r₂} b0₂ b1₂ b2₂ l₂ t₂) =
    heads {x = (0xE0 + p₁)} {y = (0xE0 + p₂)} {c = ((p₁ * 64 + q₁) * 64 + r₁)} {d = ((p₂ * 64 + q₂) * 64 + r₂)}
    ((0x80 + q₁) ∷ (0x80 + r₁) ∷ xs) ((0x80 + q₂) ∷ (0x80 + r₂) ∷ ys) cs ds (λ h. omega arith) (λ h. omega arith) (λ e0.
    heads {x = (0x80 + q₁)} {y = (0x80 + q₂)} {c = ((p₁ * 64 + q₁) * 64 + r₁)} {d = ((p₂ * 64 + q₂) * 64 + r₂)} ((0x80 + r₁) ∷ xs)
    ((0x80 + r₂) ∷ ys) cs ds (λ h. omega arith) (λ h. omega arith) (λ e1.
    heads {x = (0x80 + r₁)} {y = (0x80 + r₂)} {c = ((p₁ * 64 + q₁) * 64 + r₁)} {d = ((p₂ * 64 + q₂) * 64 + r₂)} xs ys cs ds
    (λ h. omega arith) (λ h. omega arith) (λ e2.
    text_order t₁ t₂ ∙ sym (before_same {x = ((p₁ * 64 + q₁) * 64 + r₁)} {y = ((p₂ * 64 + q₂) * 64 + r₂)} cs ds (omega arith)))))
text_order (three {bs = xs} {cs = cs} {p = p₁} {q = q₁} {r = r₁} b0₁ b1₁ b2₁ l₁ t₁)
    (four {bs = ys} {cs = ds} {p = p₂} {q = q₂} {r = r₂} {s = s₂} b0₂ b1₂ b2₂ b3₂ l₂ m₂ t₂) =
    before_less {x = (0xE0 + p₁)} {y = (0xF0 + p₂)} ((0x80 + q₁) ∷ (0x80 + r₁) ∷ xs) ((0x80 + q₂) ∷ (0x80 + r₂) ∷ (0x80 + s₂) ∷ ys)
    (omega arith) ∙ sym (before_less {x = ((p₁ * 64 + q₁) * 64 + r₁)} {y = (((p₂ * 64 + q₂) * 64 + r₂) * 64 + s₂)} cs ds (omega arith))
text_order (four {bs = xs} {cs = cs} {p = p₁} {q = q₁} {r = r₁} {s = s₁} b0₁ b1₁ b2₁ b3₁ l₁ m₁ t₁)
    (one {bs = ys} {cs = ds} {p = p₂} b0₂ t₂) =
    before_more {x = (0xF0 + p₁)} {y = p₂} ((0x80 + q₁) ∷ (0x80 + r₁) ∷ (0x80 + s₁) ∷ xs) ys (omega arith)
    ∙ sym (before_more {x = (((p₁ * 64 + q₁) * 64 + r₁) * 64 + s₁)} {y = p₂} cs ds (omega arith))
text_order (four {bs = xs} {cs = cs} {p = p₁} {q = q₁} {r = r₁} {s = s₁} b0₁ b1₁ b2₁ b3₁ l₁ m₁ t₁)
    (two {bs = ys} {cs = ds} {p = p₂} {q = q₂} b0₂ b1₂ l₂ t₂) =
    before_more {x = (0xF0 + p₁)} {y = (0xC0 + p₂)} ((0x80 + q₁) ∷ (0x80 + r₁) ∷ (0x80 + s₁) ∷ xs) ((0x80 + q₂) ∷ ys) (omega arith)
    ∙ sym (before_more {x = (((p₁ * 64 + q₁) * 64 + r₁) * 64 + s₁)} {y = (p₂ * 64 + q₂)} cs ds (omega arith))
text_order (four {bs = xs} {cs = cs} {p = p₁} {q = q₁} {r = r₁} {s = s₁} b0₁ b1₁ b2₁ b3₁ l₁ m₁ t₁)
    (three {bs = ys} {cs = ds} {p = p₂} {q = q₂} {r = r₂} b0₂ b1₂ b2₂ l₂ t₂) =
    before_more {x = (0xF0 + p₁)} {y = (0xE0 + p₂)} ((0x80 + q₁) ∷ (0x80 + r₁) ∷ (0x80 + s₁) ∷ xs) ((0x80 + q₂) ∷ (0x80 + r₂) ∷ ys)
    (omega arith) ∙ sym (before_more {x = (((p₁ * 64 + q₁) * 64 + r₁) * 64 + s₁)} {y = ((p₂ * 64 + q₂) * 64 + r₂)} cs ds (omega arith))
text_order (four {bs = xs} {cs = cs} {p = p₁} {q = q₁} {r = r₁} {s = s₁} b0₁ b1₁ b2₁ b3₁ l₁ m₁ t₁)
    (four {bs = ys} {cs = ds} {p = p₂} {q = q₂} {r = r₂} {s = s₂} b0₂ b1₂ b2₂ b3₂ l₂ m₂ t₂) =
    heads {x = (0xF0 + p₁)} {y = (0xF0 + p₂)} {c = (((p₁ * 64 + q₁) * 64 + r₁) * 64 + s₁)} {d = (((p₂ * 64 + q₂) * 64 + r₂) * 64 + s₂)}
    ((0x80 + q₁) ∷ (0x80 + r₁) ∷ (0x80 + s₁) ∷ xs) ((0x80 + q₂) ∷ (0x80 + r₂) ∷ (0x80 + s₂) ∷ ys) cs ds (λ h. omega arith)
    (λ h. omega arith) (λ e0.
    heads {x = (0x80 + q₁)} {y = (0x80 + q₂)} {c = (((p₁ * 64 + q₁) * 64 + r₁) * 64 + s₁)} {d = (((p₂ * 64 + q₂) * 64 + r₂) * 64 + s₂)}
    ((0x80 + r₁) ∷ (0x80 + s₁) ∷ xs) ((0x80 + r₂) ∷ (0x80 + s₂) ∷ ys) cs ds (λ h. omega arith) (λ h. omega arith) (λ e1.
    heads {x = (0x80 + r₁)} {y = (0x80 + r₂)} {c = (((p₁ * 64 + q₁) * 64 + r₁) * 64 + s₁)} {d = (((p₂ * 64 + q₂) * 64 + r₂) * 64 + s₂)}
    ((0x80 + s₁) ∷ xs) ((0x80 + s₂) ∷ ys) cs ds (λ h. omega arith) (λ h. omega arith) (λ e2.
    heads {x = (0x80 + s₁)} {y = (0x80 + s₂)} {c = (((p₁ * 64 + q₁) * 64 + r₁) * 64 + s₁)}
    {d = (((p₂ * 64 + q₂) * 64 + r₂) * 64 + s₂)} xs ys cs ds (λ h. omega arith) (λ h. omega arith) (λ e3.
    text_order t₁ t₂ ∙ sym (before_same {x = (((p₁ * 64 + q₁) * 64 + r₁) * 64 + s₁)}
    {y = (((p₂ * 64 + q₂) * 64 + r₂) * 64 + s₂)} cs ds (omega arith))))))

pub code_points_lem : (xs ys : List ℕ) → well_formed xs ≡ true → well_formed ys ≡ true
    → string_before xs ys ≡ string_before (code_points xs) (code_points ys)
code_points_lem xs ys f g = text_order (text_of xs f) (text_of ys g)

-- no two well-formed strings have the same code points
pub code_points_equal : (xs ys : List ℕ) → well_formed xs ≡ true → well_formed ys ≡ true → code_points xs ≡ code_points ys → xs ≡ ys
code_points_equal xs ys f g e =
    before_equal xs ys (code_points_lem xs ys f g ∙ ap (string_before (code_points xs)) (sym e) ∙ before_self (code_points xs))
    (code_points_lem ys xs g f ∙ ap (string_before (code_points ys)) e ∙ before_self (code_points ys))

-- code points end at 10FFFF
text_below : {xs cs : List ℕ} → Utf8Text xs cs → Each (λ c. c < 0x110000) cs
text_below end = tt
text_below (one {p = p} b t) = (omega arith, text_below t)
text_below (two {p = p} {q = q} b d l t) = (omega arith, text_below t)
text_below (three {p = p} {q = q} {r = r} b d f l t) = (omega arith, text_below t)
text_below (four {p = p} {q = q} {r = r} {s = s} b d f g l m t) = (m, text_below t)

pub points_below : (xs : List ℕ) → well_formed xs ≡ true → Each (λ c. c < 0x110000) (code_points xs)
points_below xs f = text_below (text_of xs f)
