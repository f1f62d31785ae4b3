-- The list of the rows of right kinds, sorted in the front of a buffer; and the fates that it shows.
use Prim.Native.Nat.{ℕ, ◌≤◌}
use native.Mathlib.Omega.{arith}
use mathlib.Core.Path.{◌≡◌, ◌∙◌, ap}
use mathlib.Core.Bool.{true}
use mathlib.Core.List.{List, ◌++◌}
use lib.ListN.{length, take, drop, get_or, length-append, length-drop}
use lib.Seq.{length-take-le, take_at}
use Rattle.sequences.specs.Sequences.{all}
use Rattle.sequences.specs.Sorting.{sort_by}
use Rattle.sequences.proofs.SortingParts.{length_sort, all_sort}
use Rattle.tables.specs.declared.Order.TheVariants.{Spo}
use Rattle.tables.specs.RowLists.{in_rows, number_before}
use Rattle.uploads.specs.Uploads.{upload_count}
use Rattle.upload_fates.specs.Judging.{NumbersListed, good_numbers, right_numbers, Marked, Judged, marked}
use Rattle.upload_fates.proofs.RightNumbers.{good_named}
use Rattle.upload_fates.proofs.Judged.{marked_fates}

module _ (up : List ℕ) where
  module _ (list : List ℕ) (r : ℕ) (l : NumbersListed r list (good_numbers up (upload_count up))) where
    pub front_named : all (in_rows up) (take r list) ≡ true
    front_named = rw l.front (good_named up)

    module _ (s : List ℕ) (q : s ≡ sort_by (number_before Spo up) (take r list)) where
      sorted_is_right : s ≡ right_numbers up
      unfolding right_numbers
      sorted_is_right = q ∙ ap (sort_by (number_before Spo up)) l.front

      sorted_length : length s ≡ r
      sorted_length = ap length q ∙ length_sort (number_before Spo up) (take r list) ∙ length-take-le r list l.fits

      whole_length : length (s ++ drop r list) ≡ length list
      whole_length = omega (arith, length-append s (drop r list), length-drop r list, sorted_length, l.fits)

      front_is : take r (s ++ drop r list) ≡ right_numbers up
      front_is = take_at s (drop r list) r sorted_length ∙ sorted_is_right

      pub listed : NumbersListed r (s ++ drop r list) (right_numbers up)
      listed = record { fits = omega (arith, whole_length, l.fits); front = front_is }

      pub sorted_named : all (in_rows up) (take r (s ++ drop r list)) ≡ true
      sorted_named = rw (take_at s (drop r list) r sorted_length, q) (all_sort (number_before Spo up) (in_rows up) (take r list) front_named)

      pub judged : (fates after : List ℕ) → upload_count up ≤ length fates → Marked up fates (upload_count up)
          → after ≡ marked up (take r (s ++ drop r list)) fates (length (take r (s ++ drop r list))) → Judged up after
      judged fates after n m a =
          record {
            fate = λ row k.
                ap (λ fs. get_or fs row 0) (a ∙ ap (λ xs. marked up xs fates (length xs)) front_is)
                ∙ marked_fates up fates n m.mark row k;
          }
