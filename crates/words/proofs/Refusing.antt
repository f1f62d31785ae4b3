-- A call that answers by the first of its tests to fail: it refuses with a number exactly where that test fails first, and
-- serves exactly where all tests pass.
use Prim.Native.Nat.{ℕ}
use mathlib.Core.Path.{◌≡◌, refl, sym, ◌∙◌, ap}
use mathlib.Core.Logic.{◌↔◌}
use mathlib.Core.Option.{Option, none, some}
use mathlib.Core.List.{List}
use Rattle.words.specs.Tests.{Test, first_failing, AllPass, FirstFails}
use Rattle.words.proofs.Testing.{passes_all, all_passes, first_fails, fails_first}

-- an answer's type, its refusals, and the answer by the number of the first test that fails
module _ {A : Type 0} (refused : ℕ → A) (answers : Option ℕ → A)
    (same : (x y : ℕ) → refused x ≡ refused y → x ≡ y)
    (refuses : (x : ℕ) → answers (some x) ≡ refused x)
    (serves : (x : ℕ) → ¬ (answers none ≡ refused x)) where
  pub refused_by_lem : (tests : List Test) (x : ℕ) → (answers (first_failing tests) ≡ refused x) ↔ FirstFails x tests
  refused_by_lem tests x = (λ e. go (first_failing tests) refl e, λ h. ap answers (fails_first x tests h) ∙ refuses x)
    where
      go : (o : Option ℕ) → first_failing tests ≡ o → answers (first_failing tests) ≡ refused x → FirstFails x tests
      go none p e = absurd (serves x (sym (ap answers p) ∙ e))
      go (some y) p e =
          first_fails x tests (p ∙ ap some (same y x (sym (refuses y) ∙ (sym (ap answers p) ∙ e))))

  pub served_when : (tests : List Test) → ((x : ℕ) → ¬ (answers (first_failing tests) ≡ refused x)) ↔ AllPass tests
  served_when tests = (λ h. go (first_failing tests) refl h, λ h x e. serves x (sym (ap answers (all_passes tests h)) ∙ e))
    where
      go : (o : Option ℕ) → first_failing tests ≡ o → ((x : ℕ) → ¬ (answers (first_failing tests) ≡ refused x)) → AllPass tests
      go none p h = passes_all tests p
      go (some y) p h = absurd (h y (ap answers p ∙ refuses y))
