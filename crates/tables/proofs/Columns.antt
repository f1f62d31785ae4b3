-- A row's fields in the sequence of an order: how many they are, and which column each comes from.
use Prim.Native.Nat.{ℕ, zero, suc, ◌<◌}
use native.Mathlib.Omega.{arith}
use mathlib.Core.Path.{◌≡◌, refl, ◌∙◌}
use mathlib.Core.List.{List, [], ◌∷◌, map}
use lib.ListN.{length, get_or, length-map, get_or-map}
use Rattle.tables.specs.declared.Order.{Order}
use Rattle.tables.specs.declared.Order.TheVariants.{Spo, Pos, Osp}
use Rattle.tables.specs.Tables.{column_count, columns_of, field_of, fields_of}

pub columns_length : (o : Order) → length (columns_of o) ≡ column_count
columns_length Spo = refl
columns_length Pos = refl
columns_length Osp = refl

pub fields_length : (o : Order) (rows : List ℕ) (row : ℕ) → length (fields_of o rows row) ≡ column_count
unfolding fields_of
fields_length o rows row = length-map (columns_of o) (field_of rows row) ∙ columns_length o

-- what stands past a list's end does not matter within it
default : (l : List ℕ) (d e i : ℕ) → i < length l → get_or l i d ≡ get_or l i e
default [] d e i h = absurd (omega arith)
default (a ∷ l) d e zero h = refl
default (a ∷ l) d e (suc i) h = default l d e i (omega arith)

pub field_at : (o : Order) (rows : List ℕ) (row k : ℕ) → k < column_count
    → get_or (fields_of o rows row) k 0 ≡ field_of rows row (get_or (columns_of o) k 0)
unfolding fields_of
field_at o rows row k h =
    let l = fields_length o rows row in
    default (map (field_of rows row) (columns_of o)) 0 (field_of rows row 0) k (omega arith)
    ∙ get_or-map (field_of rows row) (columns_of o) k 0
