-- `put_row` meets its contract: the words fill their part.
use Prim.Native.Nat.{ℕ, ◌+◌, ◌-◌, ◌≤◌}
use native.Mathlib.Omega.{arith}
use mathlib.Core.Path.{◌≡◌, sym, ap, ◌∙◌}
use mathlib.Core.List.{List, ◌++◌, append_assoc, append-nil}
use lib.ListN.{length, take, drop, length-drop, drop_of_length-le}
use lib.Seq.{drop-drop, length-take-le, paste}
use Rattle.view_calls.proofs.writing.put_row.Goals as goal

module _ (view x : List ℕ) (at : ℕ) (fits : at + length x ≤ length view) where
  abbrev part : List ℕ
  part = take (at + length x - at) (drop at view)

  part_length : length part ≡ length x
  part_length = length-take-le (at + length x - at) (drop at view) (simp length-drop (omega arith)) ∙ omega arith

  filled : paste part 0 x (length x) ≡ take (length x) x
  filled =
      let none : length part ≤ 0 + length x = omega (arith, part_length) in
      ap (λ l. take (length x) x ++ l) (drop_of_length-le part none)
      ∙ append-nil (take (length x) x)

  put : take at view ++ (paste part 0 x (length x) ++ drop (at + length x - at) (drop at view)) ≡ paste view at x (length x)
  put =
      let e : at + (at + length x - at) ≡ at + length x = omega arith in
      ap (λ l. take at view ++ (l ++ drop (at + length x - at) (drop at view))) filled
      ∙ sym (append_assoc (take at view) (take (length x) x) (drop (at + length x - at) (drop at view)))
      ∙ ap (λ l. (take at view ++ take (length x) x) ++ l) (drop-drop (at + length x - at) at view ∙ ap (λ k. drop k view) e)

pub returns : goal.returns
returns c =
    let at = c.args.at in
    let view = c.args.view.now in
    let x = c.args.words.now in
    ap (λ l. take at view ++ (l ++ drop (at + length x - at) (drop at view))) c.copy_in.ensures
    ∙ put view x at c.requires
