-- What a merge of groups answers and leaves: a total that does not fit, no room, or the merged list in front of the buffer.
use Prim.Native.Nat.{ℕ, ◌+◌, ◌*◌, ◌/◌, ◌%◌, ◌≤◌, ◌<◌}
use native.Mathlib.Omega.{arith}
use native.Mathlib.Nat.{mul-le-mul_right, div-mul-le_self, div-lt_iff_lt-mul}
use mathlib.Core.Path.{◌≡◌, sym, ◌∙◌, ap, ap₂, subst}
use mathlib.Core.Bool.{Bool, true}
use mathlib.Core.List.{List, ◌++◌}
use lib.ListN.{length, get_or, take, drop, replicate, length-replicate}
use lib.Seq.{length-take-le}
use borrow.Author.Tests.{le-leb, lt-leb}
use mir.Val.{Fits}
use mir.Syntax.{w32}
use Rattle.plans.specs.Endings.{group}
use Rattle.std.specs.Prelude.{Some, None, Ok, Err}
use Rattle.list_group_merges.specs.declared.MergeFault.TheVariants.{Overflow, NoRoom}
use Rattle.lists.specs.Groups.{totals_width}
use Rattle.lists.specs.Gathering.{list_right, merged, totals_fit}
use Rattle.list_group_merges.specs.MergingBackwards.{merged_records, union_of}
use Rattle.list_group_merges.specs.MergingGroups.{groups_merged_as, merged_over}
use Rattle.lists.proofs.GroupWords.{Words}
use Rattle.lists.proofs.GroupValid.{right_whole}
use Rattle.list_group_merges.proofs.WalkedGroups.{merged_walked, union_over, union_fits}

-- as many records as a buffer has room for
pub room_for : (room w n : ℕ) → n ≤ room / w → n * w ≤ room
room_for room w n h = let m = mul-le-mul_right {m = n} {n = room / w} w h in let d = div-mul-le_self room w in omega arith

pub no_room_for : (room w n : ℕ) → 0 < w → room / w < n → room < n * w
no_room_for room w n p h = (div-lt_iff_lt-mul p).0 h

module _ (g : ℕ) (kept : List ℕ) (used : ℕ) (list : List ℕ) (u : used ≤ length kept)
    (right : (vs : List ℕ) (m : ℕ) → length vs ≡ g → (list_right (group vs m) (take used kept) ≡ true)
    × (list_right (group vs m) list ≡ true)) where
  any : List ℕ
  any = replicate g 0

  any_length : length any ≡ g
  unfolding any
  any_length = length-replicate g 0

  -- both lists have whole records
  pub kept_whole : used % (g + totals_width) ≡ 0
  kept_whole =
      ap₂ (λ k n. k % (n + totals_width)) (sym (length-take-le used kept u)) (sym any_length)
      ∙ right_whole any 0 (take used kept) (right any 0 any_length).0

  pub list_whole : length list % (g + totals_width) ≡ 0
  list_whole = ap (λ n. length list % (n + totals_width)) (sym any_length) ∙ right_whole any 0 list (right any 0 any_length).1

  module _ (fk : (i : ℕ) → Fits w32 (get_or kept i 0)) (fl : (i : ℕ) → Fits w32 (get_or list i 0)) (vs : List ℕ) (m : ℕ) (e : length vs ≡ g) where
    words_kept : Words kept
    words_kept i = let h = fk i in omega arith

    words_list : Words list
    words_list i = let h = fl i in omega arith

    abbrev result : List ℕ
    result = merged (group vs m) (take used kept) list

    abbrev fit : Bool
    fit = totals_fit (group vs m) (take used kept) list

    union_of_lem : (n : ℕ) → union_of g kept list (used / (g + totals_width)) (length list / (g + totals_width)) ≡ Some n
        → (fit ≡ true) × (length result ≡ n * (g + totals_width))
    union_of_lem n h =
        let r = right vs m e in
        let p = union_fits vs m kept used list u words_kept words_list r.0 r.1 n
        (subst (λ k. union_of k kept list (used / (k + totals_width)) (length list / (k + totals_width)) ≡ Some n) (sym e) h) in
        (p.0, p.1 ∙ ap (λ k. n * (k + totals_width)) e)

    -- 13
    pub merge_over : union_of g kept list (used / (g + totals_width)) (length list / (g + totals_width)) ≡ None
        → (Err Overflow ≡ groups_merged_as fit result kept) × (kept ≡ merged_over fit result kept)
    merge_over h =
        let r = right vs m e in
        let p = union_over vs m kept used list u words_kept words_list r.0 r.1
        (subst (λ k. union_of k kept list (used / (k + totals_width)) (length list / (k + totals_width)) ≡ None) (sym e) h) in
        (rw p, rw p)

    module _ (n : ℕ) (h : union_of g kept list (used / (g + totals_width)) (length list / (g + totals_width)) ≡ Some n) where
      -- 14
      pub merge_small : length kept / (g + totals_width) < n → (Err NoRoom ≡ groups_merged_as fit result kept) × (kept ≡ merged_over fit result kept)
      merge_small l =
          let p = union_of_lem n h in
          let s = no_room_for (length kept) (g + totals_width) n (omega arith) l in
          let t = lt-leb (length result) (length kept) (omega arith) in
          (rw (p.0, t), rw (p.0, t))

      pub merge_words : n ≤ length kept / (g + totals_width) → (after : List ℕ)
          → after ≡ merged_records g kept list (used / (g + totals_width)) (length list / (g + totals_width)) ++ drop (n * (g + totals_width)) kept
          → (Ok (n * (g + totals_width)) ≡ groups_merged_as fit result kept) × (after ≡ merged_over fit result kept)
      merge_words l after a =
          let p = union_of_lem n h in
          let r = right vs m e in
          let s = room_for (length kept) (g + totals_width) n l in
          let t = le-leb (length result) (length kept) (omega arith) in
          let w : result ≡ merged_records g kept list (used / (g + totals_width)) (length list / (g + totals_width)) =
          merged_walked vs m kept used list u words_kept words_list r.0 r.1
          ∙ ap (λ k. merged_records k kept list (used / (k + totals_width)) (length list / (k + totals_width))) e in
          let o : after ≡ result ++ drop (length result) kept = a ∙ ap₂ (λ k j. k ++ drop j kept) (sym w) (sym p.1) in
          (rw (p.0, t, p.1), o ∙ rw (p.0, t))
