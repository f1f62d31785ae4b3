-- The last declaration of a prefix, one declaration further.
use Prim.Native.Nat.{ℕ, zero, suc, ◌+◌, ◌-◌, ◌<◌}
use native.Mathlib.Omega.{arith}
use mathlib.Core.Path.{◌≡◌, refl, sym, ◌∙◌, ap}
use mathlib.Core.Bool.{cond}
use mathlib.Core.List.{List}
use lib.ListN.{drop}
use lib.Seq.{drop-drop}
use Rattle.dictionaries.specs.Strings.{same_string}
use Rattle.terminals.specs.Names.{within, name_prefix, Declared, iri, last_declared}
use Rattle.terminal_names.specs.Declaring.{letters_of, declared_first}

module _ (points ws : List ℕ) (at : ℕ) where
  next : (p : List ℕ) (n : ℕ) (f : Declared)
      → last_declared (declared_first points (suc n) (drop at ws)) p f
      ≡ last_declared (declared_first points n (drop (at + 9) ws)) p
      (cond (same_string p (name_prefix (letters_of points (drop (at + 3) ws)))) (iri (within (letters_of points (drop (at + 6) ws)))) f)
  unfolding last_declared declared_first
  next p n f = rw (drop-drop 3 at ws, drop-drop 6 at ws, drop-drop 9 at ws) refl

  pub declared_next : (p : List ℕ) (left : ℕ) (f g : Declared) → 0 < left
      → g ≡ cond (same_string p (name_prefix (letters_of points (drop (at + 3) ws)))) (iri (within (letters_of points (drop (at + 6) ws)))) f
      → last_declared (declared_first points left (drop at ws)) p f ≡ last_declared (declared_first points (left - 1) (drop (at + 9) ws)) p g
  declared_next p zero f g h e = absurd (omega arith)
  declared_next p (suc n) f g h e =
      let z : n ≡ suc n - 1 = omega arith in
      next p n f
      ∙ ap (λ d. last_declared (declared_first points n (drop (at + 9) ws)) p d) (sym e)
      ∙ ap (λ m. last_declared (declared_first points m (drop (at + 9) ws)) p g) z

  pub declared_end : (p : List ℕ) (left : ℕ) (f : Declared) → left ≡ 0 → last_declared (declared_first points left (drop at ws)) p f ≡ f
  unfolding last_declared declared_first
  declared_end p left f e = rw e refl
