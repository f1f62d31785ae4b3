-- A merge of best-of lists under way in its buffer: at each row of the turn's list, what is left of it makes the same of the rows kept
-- so far.
use Prim.Native.Nat.{ℕ, ◌+◌, ◌-◌, ◌%◌, ◌≤◌, ◌<◌}
use native.Mathlib.Omega.{arith}
use mathlib.Core.Path.{◌≡◌, refl, sym, ◌∙◌, ap, ap₂, subst}
use mathlib.Core.List.{List, [], ◌++◌}
use native.Mathlib.Nat.{add-mod_left, mod-eq_of_lt}
use lib.ListN.{length, take, drop, take-append-drop, length-append}
use lib.Seq.{drop-drop, length-take-le}
use Rattle.sequences.specs.Sequences.{over}
use Rattle.sequences.proofs.Buffers.{take_over, drop_over, length_over}
use Rattle.plans.specs.Endings.{top}
use Rattle.lists.specs.Gathering.{merged}
use Rattle.lists.specs.Delivering.{with_best}
use Rattle.list_best.specs.BestLists.{BestList, Insertable, Mergeable}
use Rattle.std.proofs.lemmas.List.{nil_from_length}
use Rattle.list_best.proofs.BestWords.{with_best_lem}
use Rattle.list_best.proofs.MergingBest.{merged_nil, merged_cons, merged_longer, with_longer}

-- `rest` is left of the list: the buffer's first words are a best-of list, and the others are as they were
pub record Merging (k : ℕ) (vs keys before : List ℕ) (used : ℕ) (list kept : List ℕ) (words : ℕ) (rest : List ℕ) : Type 0 where
  pub whole : length rest % length vs ≡ 0
  pub size : length kept ≡ length before
  pub fit : words ≤ length kept
  pub best : BestList k vs keys (take words kept)
  pub same : merged (top k vs keys) (take used before) list ≡ merged (top k vs keys) (take words kept) rest
  pub behind : drop words kept ≡ drop words before

-- buffers that are the same from some words on are the same further on
deeper : (a b : ℕ) (x y : List ℕ) → a ≤ b → drop a x ≡ drop a y → drop b x ≡ drop b y
deeper a b x y h e =
    let n : a + (b - a) ≡ b = omega arith in
    ap (λ m. drop m x) (sym n)
    ∙ sym (drop-drop (b - a) a x)
    ∙ ap (drop (b - a)) e
    ∙ drop-drop (b - a) a y
    ∙ ap (λ m. drop m y) n

module _ {k : ℕ} {vs keys before : List ℕ} {used : ℕ} {list : List ℕ} (m : Mergeable k vs keys before used list) where
  pub merge_start : Merging k vs keys before used list before used list
  merge_start = record { whole = m.whole; size = refl; fit = m.fit; best = m.kept; same = refl; behind = refl }

  module _ {kept : List ℕ} {words : ℕ} {rest : List ℕ} (i : Merging k vs keys before used list kept words rest) where
    front : length (take words kept) ≡ words
    front = length-take-le words kept i.fit

    -- less than a row is left, so nothing
    pub merge_end : length rest < length vs
        → (words ≡ length (merged (top k vs keys) (take used before) list))
        × (kept ≡ over (merged (top k vs keys) (take used before) list) before)
    merge_end l =
        let none : rest ≡ [] = nil_from_length rest (sym (mod-eq_of_lt l) ∙ i.whole) in
        let e : merged (top k vs keys) (take used before) list ≡ take words kept =
        i.same
        ∙ ap (merged (top k vs keys) (take words kept)) none
        ∙ merged_nil k vs keys m.parts.some (take words kept) i.best in (
          sym (ap length e ∙ front),
          sym
              (ap (λ x. over x before) e
              ∙ ap (λ n. take words kept ++ drop n before) front
              ∙ ap (λ x. take words kept ++ x) (sym i.behind)
              ∙ take-append-drop words kept),
        )

    -- a row, and what is left behind it
    module _ (row more : List ℕ) (next : rest ≡ row ++ more) (wide : length row ≡ length vs) where
      abbrev result : List ℕ
      result = with_best k vs keys (take words kept) row

      result_best : BestList k vs keys result
      result_best = with_best_lem k vs keys m.parts.some (take words kept) row i.best wide

      rest_same : merged (top k vs keys) (take used before) list ≡ merged (top k vs keys) result more
      rest_same =
          i.same
          ∙ ap (merged (top k vs keys) (take words kept)) next
          ∙ merged_cons k vs keys m.parts.some (take words kept) i.best row more wide

      fits : length result ≤ length kept
      fits =
          let l = merged_longer k vs keys m.parts.some result result_best more in
          omega (arith, ap length rest_same, m.room, i.size)

      longer : length (take words kept) ≤ length result
      longer = with_longer k vs keys m.parts.some (take words kept) row i.best wide

      pub insertable : Insertable k vs keys row kept words
      insertable = record { parts = m.parts; width = wide; fit = i.fit; best = i.best; room = fits }

      -- past the row, with what putting it in has left
      pub merge_more : {w : ℕ} {after : List ℕ} → (w ≡ length result) × (after ≡ over result kept)
          → Merging k vs keys before used list after w more
      merge_more {w} {after} e =
          let front_is : take w after ≡ result = ap₂ take e.0 e.1 ∙ take_over result kept in
          let long : length after ≡ length kept = ap length e.1 ∙ length_over result kept fits in
          let left : length rest ≡ length vs + length more = ap length next ∙ length-append row more ∙ ap (λ n. n + length more) wide in
          record {
            whole = sym (ap (λ n. n % length vs) left ∙ add-mod_left (length vs) (length more)) ∙ i.whole;
            size = long ∙ i.size;
            fit = omega (arith, fits, e.0);
            best = subst (BestList k vs keys) (sym front_is) result_best;
            same = rest_same ∙ ap (λ x. merged (top k vs keys) x more) (sym front_is);
            behind = ap₂ drop e.0 e.1 ∙ drop_over result kept
                ∙ ap (λ m. drop m kept) (sym e.0) ∙ deeper words w kept before (omega (arith, e.0, front, longer)) i.behind;
          }
