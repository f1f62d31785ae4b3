-- What the test of a whole dictionary says; and that the characters of a name may be looked at byte by byte, since all that it may not have are single bytes.
use Prim.Native.Nat.{ℕ, suc, ◌+◌, ◌*◌, ◌≤◌, ◌<◌}
use native.Mathlib.Omega.{arith}
use mathlib.Core.Path.{◌≡◌, refl, sym, ◌∙◌, ap, ap₂}
use mathlib.Core.Bool.{Bool, true, false, ◌&&◌, ◌||◌}
use mathlib.Core.Logic.{◌↔◌}
use mathlib.Core.List.{List, ◌∷◌}
use lib.Dec.{eqb, ltb, leb}
use lib.ListN.{length}
use borrow.Author.Tests.{lt-ltb, ne_eqb}
use Rattle.sequences.specs.Sequences.{all, neighbours, member}
use Rattle.sequences.proofs.Booleans.{absurd_true, and_left, and_right, and_both}
use Rattle.sequences.proofs.Elements.{all_weaken}
use Rattle.dictionaries.specs.declared.StringKind.{StringKind}
use Rattle.dictionaries.specs.declared.StringKind.TheVariants.{Names, Texts}
use Rattle.dictionaries.specs.Strings.{string_before}
use Rattle.dictionaries.specs.Utf8.{well_formed, code_points}
use Rattle.dictionaries.specs.Dictionaries.{strings_of, ends_right, most_strings}
use Rattle.dictionaries.specs.Checking.{iri_character, is_iri, string_right, dictionary_right, RightOf}
use Rattle.dictionaries.proofs.Characters.{Utf8Text, end, one, two, three, four, text_of}

-- ---- a test that everything from U+0080 on passes, of bytes and of code points
module _ (f : ℕ → Bool) (g : (c : ℕ) → 0x80 ≤ c → f c ≡ true) where
  bytes_points : {bs cs : List ℕ} → Utf8Text bs cs → all f bs ≡ all f cs
  unfolding all
  bytes_points end = refl
  bytes_points (one {bs = bs} {cs = cs} {p = p} h t) = ap (λ b. f p && b) (bytes_points t)
  bytes_points (two {bs = bs} {cs = cs} {p = p} {q = q} h k l t) =
      rw (g (0xC0 + p) (omega arith), g (0x80 + q) (omega arith), g (p * 64 + q) (omega arith)) (bytes_points t)
  bytes_points (three {bs = bs} {cs = cs} {p = p} {q = q} {r = r} h k m l t) =
      rw (g (0xE0 + p) (omega arith), g (0x80 + q) (omega arith), g (0x80 + r) (omega arith), g ((p * 64 + q) * 64 + r) (omega arith)) (bytes_points t)
  bytes_points (four {bs = bs} {cs = cs} {p = p} {q = q} {r = r} {s = s} h k m n l o t) =
      rw (
        g (0xF0 + p) (omega arith),
        g (0x80 + q) (omega arith),
        g (0x80 + r) (omega arith),
        g (0x80 + s) (omega arith),
        g (((p * 64 + q) * 64 + r) * 64 + s) (omega arith),
      )
      (bytes_points t)

both_some : (m n : ℕ) → ltb 0 (suc m) ≡ ltb 0 (suc n)
both_some m n = lt-ltb 0 (suc m) (omega arith) ∙ sym (lt-ltb 0 (suc n) (omega arith))

some_points : {bs cs : List ℕ} → Utf8Text bs cs → ltb 0 (length bs) ≡ ltb 0 (length cs)
some_points end = refl
some_points (one {bs = bs} {cs = cs} h t) = both_some (length bs) (length cs)
some_points (two {bs = bs} {cs = cs} {q = q} h k l t) = both_some (length ((0x80 + q) ∷ bs)) (length cs)
some_points (three {bs = bs} {cs = cs} {q = q} {r = r} h k m l t) = both_some (length ((0x80 + q) ∷ (0x80 + r) ∷ bs)) (length cs)
some_points (four {bs = bs} {cs = cs} {q = q} {r = r} {s = s} h k m n l o t) = both_some (length ((0x80 + q) ∷ (0x80 + r) ∷ (0x80 + s) ∷ bs)) (length cs)

iri_late : (c : ℕ) → 0x80 ≤ c → iri_character c ≡ true
unfolding iri_character member
iri_late c h =
    let apart : (n : ℕ) → n < 0x80 → eqb c n ≡ false = λ n k. ne_eqb c n (λ e. omega arith) in
    rw (
      lt-ltb 0x20 c (omega arith),
      apart 0x22 (omega arith),
      apart 0x3C (omega arith),
      apart 0x3E (omega arith),
      apart 0x5C (omega arith),
      apart 0x5E (omega arith),
      apart 0x60 (omega arith),
      apart 0x7B (omega arith),
      apart 0x7C (omega arith),
      apart 0x7D (omega arith),
    )

-- a name by its bytes
pub iri_bytes : (s : List ℕ) → well_formed s ≡ true → is_iri s ≡ is_iri (code_points s)
iri_bytes s h = let t = text_of s h in ap₂ ◌&&◌ (some_points t) (bytes_points iri_character iri_late t)

-- ---- the test of a whole dictionary
-- what is left of an "or" whose first part is false
pub or_rest : (a b : Bool) → a ≡ false → a || b ≡ true → b ≡ true
or_rest true b e h = absurd_true refl e
or_rest false b e h = h

string_formed : (k : StringKind) (s : List ℕ) → string_right k s ≡ true → well_formed s ≡ true
string_formed Names s h = and_left (well_formed s) (is_iri (code_points s)) h
string_formed Texts s h = h

pub tested : (k : StringKind) (bytes ends : List ℕ) → (dictionary_right k bytes ends ≡ true) ↔ RightOf k bytes ends
unfolding dictionary_right
tested k bytes ends = (to, from)
  where
    to : leb (length ends) most_strings
        && (ends_right (length bytes) 0 ends && (all (string_right k) (strings_of bytes ends) && neighbours string_before (strings_of bytes ends))) ≡ true
        → RightOf k bytes ends
    to h =
        let r = and_right (leb (length ends) most_strings) _ h in
        let q = and_right (ends_right (length bytes) 0 ends) _ r in
        let a = and_left (all (string_right k) (strings_of bytes ends)) _ q in
        record {
          right = record {
            cut = and_left (ends_right (length bytes) 0 ends) _ r;
            few = and_left (leb (length ends) most_strings) _ h;
            formed = all_weaken (string_right k) well_formed (strings_of bytes ends) (string_formed k) a;
            ascend = and_right (all (string_right k) (strings_of bytes ends)) _ q;
          };
          kind = a;
        }

    from : RightOf k bytes ends → leb (length ends) most_strings
        && (ends_right (length bytes) 0 ends && (all (string_right k) (strings_of bytes ends) && neighbours string_before (strings_of bytes ends))) ≡ true
    from d =
        and_both _ _ d.right.few
        (and_both _ _ d.right.cut (and_both _ _ d.kind d.right.ascend))
