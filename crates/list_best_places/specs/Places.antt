-- Where a row is put among those of a best-of list. Assumes nothing: these are definitions.
use Rattle.std.specs.Prelude.{ℕ, suc, ◌%◌, ◌≤◌, ◌<◌, ◌≡◌, Bool, true, cond, not, List, [], ◌∷◌, length, take}
use Rattle.sequences.specs.Sequences.{all, neighbours}
use Rattle.plans.specs.Endings.{key_among}
use Rattle.lists.specs.Rows.{row_before}
use Rattle.lists.specs.Gathering.{records_in}

-- a row has a place among those of a list that does not descend, by keys among the variables
pub record Searchable (vs keys row list : List ℕ) : Type 0 where
  pub some : 0 < length vs
  pub among : all (key_among vs) keys ≡ true
  pub width : length row ≡ length vs
  pub whole : length list % length vs ≡ 0
  pub rising : neighbours (λ x y. not (row_before vs keys y x)) (records_in (length vs) list) ≡ true

-- how many elements stand in front of the first that x comes before: where x is put in
unfoldable pub place_in : {A : Type 0} → (A → A → Bool) → A → List A → ℕ
place_in before x [] = 0
place_in before x (y ∷ ys) = cond (before x y) 0 (suc (place_in before x ys))

-- the place of a row among those of a list
abbrev pub row_place : List ℕ → List ℕ → List ℕ → List ℕ → ℕ
row_place vs keys row list = place_in (row_before vs keys) row (records_in (length vs) list)

-- up to some words, of whole rows: the place is that among these rows
pub record PlacedUpTo (vs keys row list : List ℕ) (at : ℕ) : Type 0 where
  pub up_to : at ≤ length list
  pub whole : at % length vs ≡ 0
  pub same : row_place vs keys row list ≡ row_place vs keys row (take at list)
