-- Rows of strings that ascend by one strict order, whichever it is: what stands in both stands there in one sequence, so that this need not be asked.
use Prim.Native.Nat.{ℕ}
use mathlib.Core.Path.{◌≡◌, refl, sym, ◌∙◌, ap, subst}
use mathlib.Core.Bool.{Bool, true, false, true≢false}
use mathlib.Core.List.{List, [], ◌∷◌, Memᴰ}
use borrow.Author.Tests.{eq-eqb}
use Rattle.sequences.specs.Sequences.{keep}
use Rattle.sequences.proofs.Booleans.{yes, no, decided}
use Rattle.sequences.proofs.Each.{Each, each_keep, each_kept}
use Rattle.sequences.proofs.EachMore.{each_weaken, each_both}
use Rattle.sequences.proofs.Ascending.{Ascending}
use Rattle.sequences.proofs.SortedStrictly.{ascending_keep}
use Rattle.views.proofs.Equal.{ascending_equal}
use Rattle.dictionaries.proofs.Strings.{same_self}
use Rattle.sparql_strings.proofs.Terms.{term_self}
use Rattle.sparql_strings.proofs.Strings.{strings_equality}
use Rattle.encodings.specs.StringRows.{StringRow, same_string_row}
use Rattle.view_names.specs.VisibleStrings.{some_row, stands_in, HiddenRows, SameStrings}
use Rattle.view_names.proofs.HiddenNames.{each_some, some_elim, row_equal, hidden_names}

row_self : (r : StringRow) → same_string_row r r ≡ true
row_self r =
    rw (eq-eqb r.year r.year refl, same_self r.subject, same_self r.predicate, term_self strings_equality r.object) refl

-- what passes a test is among what is kept by it
kept_in_lem : {A : Type 0} (g : A → Bool) (xs : List A) → Each (λ x. g x ≡ true → Memᴰ x (keep g xs)) xs
unfolding keep
kept_in_lem g [] = tt
kept_in_lem g (x ∷ xs) =
    elim (decided (g x)) [
      | yes h ↦
          let k : keep g (x ∷ xs) ≡ x ∷ keep g xs = rw h in
          subst (λ kept. Each (λ y. g y ≡ true → Memᴰ y kept) (x ∷ xs)) (sym k)
          (λ e. Memᴰ.head refl, each_weaken (λ y m e. Memᴰ.tail (m e)) xs (kept_in_lem g xs))
      | no h ↦
          let k : keep g (x ∷ xs) ≡ keep g xs = rw h in
          subst (λ kept. Each (λ y. g y ≡ true → Memᴰ y kept) (x ∷ xs)) (sym k)
          (λ e. absurd (true≢false (sym e ∙ h)), kept_in_lem g xs)
    ]

module _ (before : StringRow → StringRow → Bool) (asym : (x y : StringRow) → before x y ≡ true → before y x ≡ false) where
  all_in : (rows others : List StringRow) → Each (λ r. Memᴰ r (keep (stands_in rows) others)) (keep (stands_in others) rows)
  all_in rows others =
      each_both one (keep (stands_in others) rows) (each_kept (stands_in others) rows)
      (each_keep (λ a. (f : StringRow → Bool) → f a ≡ true → some_row f rows ≡ true) (stands_in others) rows (each_some rows))
    where
      one : (r : StringRow) → stands_in others r ≡ true → ((f : StringRow → Bool) → f r ≡ true → some_row f rows ≡ true)
          → Memᴰ r (keep (stands_in rows) others)
      one r s found =
          some_elim (same_string_row r) others s
          (each_weaken
          (λ b m e.
          let q = row_equal r b e in
          subst (λ z. Memᴰ z (keep (stands_in rows) others)) (sym q)
          (m (found (same_string_row b) (ap (same_string_row b) q ∙ row_self b))))
          others (kept_in_lem (stands_in rows) others))

  pub hidden_names_sorted : (grant : List (List ℕ)) (membership : List ℕ) (rows others : List StringRow)
      → Ascending before rows → Ascending before others → HiddenRows grant membership rows others → HiddenRows grant membership others rows
      → SameStrings grant membership rows others
  hidden_names_sorted grant membership rows others a b h k =
      hidden_names grant membership rows others
      (record {
        first = h;
        second = k;
        common =
            ascending_equal before asym (keep (stands_in others) rows) (keep (stands_in rows) others) (ascending_keep before (stands_in others) rows a)
            (ascending_keep before (stands_in rows) others b) (all_in rows others) (all_in others rows);
      })
