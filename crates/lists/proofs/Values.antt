-- Words that a delivered row may have: where each word of the bindings is one, each word of the rows made from them is one.
use Prim.Native.Nat.{ℕ, zero, suc, ◌/◌}
use mathlib.Core.Path.{◌≡◌, refl}
use mathlib.Core.Bool.{true}
use mathlib.Core.List.{List, [], ◌∷◌, map, flatten}
use lib.ListN.{length, drop}
use Rattle.words.specs.Words.{is_variable, term_value, unbound, is_value}
use Rattle.words.specs.Bindings.{Bindings, value_of}
use Rattle.sequences.specs.Sequences.{all, parts}
use Rattle.sequences.proofs.Booleans.{yes, no, decided}
use Rattle.sequences.proofs.Elements.{all_get_d, all_take, all_append}
use Rattle.lists.specs.Rows.{project}
use Rattle.lists.specs.Gathering.{records_in}
use Rattle.sequences.proofs.Each.{Each, each_map, each_all, all_drop}

-- each word of each list is one that a delivered row may have
abbrev pub AllValues : List (List ℕ) → Type 0
AllValues xs = Each (λ (x : List ℕ). all is_value x ≡ true) xs

-- ---- from bindings to rows
pub value_of_lem : (b : Bindings) (w : ℕ) → all is_value b ≡ true → is_value (value_of b w) ≡ true
value_of_lem b w h =
    elim (decided (is_variable w)) [
      | yes e ↦ rw e (all_get_d is_value b (term_value w) unbound h refl)
      | no e ↦ rw e (rw e)
    ]

pub values_project : (vs : List ℕ) (b : Bindings) → all is_value b ≡ true → all is_value (project vs b) ≡ true
values_project vs b h =
    each_all is_value (project vs b) (each_map (λ x. is_value x ≡ true) (value_of b) (λ w. value_of_lem b w h) vs)

pub values_rows : (vs : List ℕ) (bs : List Bindings) → AllValues bs → AllValues (map (project vs) bs)
values_rows vs [] h = tt
values_rows vs (b ∷ bs) h = (values_project vs b h.0, values_rows vs bs h.1)

-- ---- of rows as words, and back
pub values_flatten : (xs : List (List ℕ)) → AllValues xs → all is_value (flatten xs) ≡ true
unfolding flatten all
values_flatten [] h = refl
values_flatten (x ∷ xs) h = all_append is_value x (flatten xs) h.0 (values_flatten xs h.1)

values_parts : (w n : ℕ) (ws : List ℕ) → all is_value ws ≡ true → AllValues (parts w n ws)
unfolding parts
values_parts w zero ws h = tt
values_parts w (suc n) ws h = (all_take is_value w ws h, values_parts w n (drop w ws) (all_drop is_value w ws h))

pub values_records : (w : ℕ) (ws : List ℕ) → all is_value ws ≡ true → AllValues (records_in w ws)
unfolding records_in
values_records w ws h = values_parts w (length ws / w) ws h
