-- The premise of an adviser's theorem is met by tables of different numbers of rows, so that their view, and all queries over it, are the same.
use Prim.Native.Nat.{zero, suc}
use native.Mathlib.Omega.{arith}
use mathlib.Core.Path.{refl}
use mathlib.Core.List.{[], ◌∷◌}
use Rattle.table_answers.specs.Writing.{TableBuffers}
use Rattle.views.specs.Hidden.{HiddenAlone, lending}
use Rattle.view_turns.specs.Adviser.{SameToAdviser}
use Rattle.view_turns.proofs.Adviser.{same_to_adviser}
use Rattle.worked_cases.specs.Literals.{stems}
use Rattle.worked_premises.specs.HiddenRows.{second_and_fifth, HiddenDiffer}
use Rattle.worked_cases.proofs.Holds.{computing}

-- n1 and n3 are hidden, and n2 stands in the other wood
stems_hidden : HiddenAlone (2 ∷ []) 10 stems second_and_fifth
unfolding computing
stems_hidden zero l n = refl
stems_hidden (suc zero) l n = refl
stems_hidden (suc (suc zero)) l n = absurd (n (record { row = 0; there = omega arith; is = refl }))
stems_hidden (suc (suc (suc zero))) l n = absurd (n (record { row = 1; there = omega arith; is = refl }))
stems_hidden (suc (suc (suc (suc zero)))) l n = refl
stems_hidden (suc (suc (suc (suc (suc zero))))) l n = refl
stems_hidden (suc (suc (suc (suc (suc (suc row)))))) l n = absurd (omega arith)

-- n5 is
fifth_hidden : HiddenAlone (2 ∷ []) 10 second_and_fifth stems
unfolding computing
fifth_hidden zero l n = absurd (n (record { row = 2; there = omega arith; is = refl }))
fifth_hidden (suc zero) l n = absurd (n (record { row = 3; there = omega arith; is = refl }))
fifth_hidden (suc (suc zero)) l n = refl
fifth_hidden (suc (suc (suc row))) l n = absurd (omega arith)

pub hidden_differ : HiddenDiffer
unfolding computing
hidden_differ = record { first = refl; second = refl; six = refl; three = refl; hidden = record { first = stems_hidden; second = fifth_hidden } }

pub same_second : (b : TableBuffers) → SameToAdviser (lending (2 ∷ []) 10 b stems) (lending (2 ∷ []) 10 b second_and_fifth)
same_second b =
    same_to_adviser (2 ∷ []) 10 b stems second_and_fifth hidden_differ.first hidden_differ.second hidden_differ.hidden
