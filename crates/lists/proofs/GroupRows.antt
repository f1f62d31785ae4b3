-- The records of rows: they have their keys, and where these are values they pass test 12.
use Prim.Native.Nat.{ℕ}
use mathlib.Core.Path.{◌≡◌, refl, sym, ◌∙◌, ap}
use mathlib.Core.Bool.{true}
use mathlib.Core.List.{List, [], ◌∷◌, map}
use lib.ListN.{length, length-map}
use Rattle.words.specs.Words.{is_value}
use Rattle.words.specs.Bindings.{Bindings, value_of}
use Rattle.sequences.specs.Sequences.{all}
use Rattle.lists.specs.Rows.{project}
use Rattle.lists.specs.Groups.{Group, of_row, keys_before, add_all_by, add_groups, groups_of}
use Rattle.lists.specs.Gathering.{group_right}
use Rattle.sequences.proofs.Each.{Each}
use Rattle.sequences.proofs.EachMore.{each_weaken, each_mapped}
use Rattle.lists.proofs.Stable.{alike}
use Rattle.lists.proofs.Keys.{same_words, place_keys}
use Rattle.lists.proofs.AddingKeeps.{each_add_all}
use Rattle.lists.proofs.Values.{AllValues, values_project}
use Rattle.lists.proofs.GroupsRight.{right_is, right_value, right_together}
use Rattle.lists.proofs.GroupsAdded.{Keyed, keyed_before, keyed_together, plain, plain_add_all}

-- each row has values for its keys
abbrev pub KeyValues : List ℕ → List Bindings → Type 0
KeyValues vs bs = Each (λ (b : Bindings). all is_value (project vs b) ≡ true) bs

pub key_values : (vs : List ℕ) (bs : List Bindings) → AllValues bs → KeyValues vs bs
key_values vs bs h = each_weaken (λ b. values_project vs b) bs h

-- the keys of records
abbrev pub keys_of : List Group → List (List ℕ)
keys_of gs = map (λ (g : Group). g.keys) gs

abbrev pub RightKeyed : (n : ℕ) → Keyed n → Type 0
RightKeyed n s = group_right s.0 ≡ true

module _ (vs : List ℕ) (m : ℕ) where
  pub rows_right : (bs : List Bindings) → KeyValues vs bs → Each (λ (b : Bindings). group_right (of_row vs m b) ≡ true) bs
  rows_right bs h = each_weaken (λ b. right_value (project vs b) (value_of b m)) bs h

  abbrev pub keyed_row : Bindings → Keyed (length vs)
  keyed_row b = (of_row vs m b, length-map vs (value_of b))

  -- the sum of some rows' records
  abbrev pub keyed_groups : List Bindings → List (Keyed (length vs))
  keyed_groups bs = add_all_by (keyed_before (length vs)) (keyed_together (length vs)) [] (map keyed_row bs)

  plain_rows : (bs : List Bindings) → plain (length vs) (map keyed_row bs) ≡ map (of_row vs m) bs
  plain_rows [] = refl
  plain_rows (b ∷ bs) = ap (λ l. of_row vs m b ∷ l) (plain_rows bs)

  pub groups_plain : (bs : List Bindings) → plain (length vs) (keyed_groups bs) ≡ groups_of vs m bs
  groups_plain bs = plain_add_all (length vs) [] (map keyed_row bs) ∙ ap (add_groups []) (plain_rows bs)

  pub groups_right : (bs : List Bindings) → KeyValues vs bs → Each (RightKeyed (length vs)) (keyed_groups bs)
  groups_right bs h =
      each_add_all (RightKeyed (length vs)) (keyed_before (length vs)) (keyed_together (length vs))
      (λ x y. right_together x.0 y.0) [] (map keyed_row bs) tt
      (each_mapped (RightKeyed (length vs)) keyed_row bs (rows_right bs h))

  -- a row has the place of a record exactly where it has its keys
  pub place_row : (s : Keyed (length vs)) → RightKeyed (length vs) s → (b : Bindings) → all is_value (project vs b) ≡ true
      → alike (keyed_before (length vs)) s (keyed_row b) ≡ same_words (project vs b) s.0.keys
  unfolding keys_before
  place_row s r b v =
      place_keys (project vs b) s.0.keys (length-map vs (value_of b) ∙ sym s.1) v (right_is s.0 r).keys
