-- Where the rows that admit their subject are flagged, what flags tell is what is visible.
use Prim.Native.Nat.{ℕ, ◌/◌, ◌<◌}
use mathlib.Core.Path.{◌≡◌, refl, sym, ◌∙◌, ap, ap₂}
use mathlib.Core.Bool.{Bool, true, false, ◌&&◌, ◌||◌}
use mathlib.Core.List.{List, [], ◌∷◌, map}
use lib.Dec.{eqb}
use lib.ListN.{length, get_or}
use Rattle.sequences.specs.Sequences.{some_below, member, numbers}
use Rattle.sequences.proofs.Booleans.{Decided, yes, no, decided}
use Rattle.sequences.proofs.Each.{Each}
use Rattle.sequences.proofs.EachMore.{each_always}
use Rattle.sequences.proofs.Elements.{same_test}
use Rattle.sequences.proofs.Keeping.{keep_agree}
use Rattle.sequences.proofs.Somewhere.{some_at, at_some}
use Rattle.tables.specs.Tables.{column_count, year_column, subject_column, field_of}
use Rattle.views.specs.Views.{is_of, admits, visible}
use Rattle.views.specs.Renumbered.{passed_before}
use Rattle.views.proofs.Visible.{of_year_lem, of_subject, admits_other}
use Rattle.view_members.specs.Flags.{flag_by, Flagged}
use Rattle.view_marks.specs.Marks.{mark_by, mark_of, marks_of}
use Rattle.view_marks.specs.Told.{told, seen_by}

some_agree : (f g : ℕ → Bool) (n : ℕ) → ((i : ℕ) → i < n → f i ≡ g i) → some_below f n ≡ some_below g n
some_agree f g n h =
    same_test (some_below f n) (some_below g n)
    (λ e. let s = some_at f n e in at_some g n s.which s.below (sym (h s.which s.below) ∙ s.passes))
    (λ e. let s = some_at g n e in at_some f n s.which s.below (h s.which s.below ∙ s.passes))

pub map_agree : (f g : ℕ → ℕ) (xs : List ℕ) → Each (λ x. f x ≡ g x) xs → map f xs ≡ map g xs
map_agree f g [] e = refl
map_agree f g (x ∷ xs) e = rw (e.0, map_agree f g xs e.1)

flag_is : (b : Bool) → eqb (flag_by b) 1 ≡ b
flag_is true = refl
flag_is false = refl

module _ (rows grant : List ℕ) (membership : ℕ) (flags : List ℕ) (f : Flagged rows grant membership flags) where
  told_admits : (year s i : ℕ) → i < length rows / column_count → told rows flags year s i ≡ admits rows grant membership year s i
  unfolding told
  told_admits year s i h = go (decided (is_of rows year s i))
    where
      go : Decided (is_of rows year s i) → (is_of rows year s i && eqb (get_or flags i 0) 1) ≡ admits rows grant membership year s i
      go (yes p) =
          rw p
          (ap (λ w. eqb w 1) (f.each i h)
          ∙ flag_is (admits rows grant membership (field_of rows i year_column) (field_of rows i subject_column) i)
          ∙ ap₂ (λ y x. admits rows grant membership y x i) (of_year_lem rows year s i p) (of_subject rows year s i p))
      go (no p) = rw p (sym (admits_other rows grant membership year s i p))

  pub seen_visible : (row : ℕ) → seen_by rows grant flags row ≡ visible rows grant membership row
  unfolding seen_by visible
  seen_visible row =
      let y = field_of rows row year_column in
      let s = field_of rows row subject_column in
      ap (λ b. member (field_of rows row subject_column) grant || b)
      (some_agree (told rows flags y s) (admits rows grant membership y s) (length rows / column_count) (told_admits y s))

  -- so the marks are those of the visible rows, and as many are counted
  pub number_visible : (n : ℕ) → passed_before (seen_by rows grant flags) n ≡ passed_before (visible rows grant membership) n
  number_visible n =
      ap length (keep_agree (seen_by rows grant flags) (visible rows grant membership) (numbers n) (each_always seen_visible (numbers n)))

  pub marks_visible : (n : ℕ) → marks_of (seen_by rows grant flags) n ≡ marks_of (visible rows grant membership) n
  unfolding marks_of
  marks_visible n =
      map_agree (mark_of (seen_by rows grant flags)) (mark_of (visible rows grant membership)) (numbers n)
      (each_always (λ row. ap₂ mark_by (seen_visible row) (number_visible row)) (numbers n))
