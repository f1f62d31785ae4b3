-- A list has no space for a further row exactly where the list with it is longer than the output.
use Prim.Native.Nat.{ℕ, suc, ◌+◌, ◌*◌, ◌≤◌, ◌<◌}
use native.Mathlib.Omega.{arith}
use native.Mathlib.Numerals.{add-one}
use mathlib.Core.Path.{◌≡◌, sym, ◌∙◌, ap, subst, subst⁻¹}
use mathlib.Core.List.{List, [], ◌∷◌, ◌++◌}
use lib.ListN.{length, length-append}
use Rattle.words.specs.Bindings.{Bindings}
use Rattle.plans.specs.Endings.{Ending, rows, top, group, registers}
use Rattle.lists.specs.Groups.{totals_width, groups_of}
use Rattle.lists.specs.Gathering.{gathered, least_output}
use Rattle.lists.specs.Space.{NewGroup, NoSpaceFor}
use Rattle.lists.proofs.NewGroups.{OneMore, new, known, new_counts, one_more_fact}
use Rattle.lists.proofs.TopValid.{room_gathered, length_rows}
use Rattle.lists.proofs.GroupValid.{length_gathered}
use Rattle.lists.proofs.RegisterLists.{length_registers}

-- the words with one more row
rows_more : (vs threshold : List ℕ) (bs : List Bindings) (b : Bindings)
    → length (gathered (rows vs) threshold (bs ++ (b ∷ []))) ≡ (length bs + 1) * length vs
rows_more vs threshold bs b = length_rows vs threshold (bs ++ (b ∷ [])) ∙ ap (λ n. n * length vs) (length-append bs (b ∷ []))

groups_more : (vs threshold : List ℕ) (m : ℕ) (bs : List Bindings) (b : Bindings)
    → length (groups_of vs m (bs ++ (b ∷ []))) ≡ suc (length (groups_of vs m bs))
    → length (gathered (group vs m) threshold (bs ++ (b ∷ []))) ≡ (length (groups_of vs m bs) + 1) * (length vs + totals_width)
groups_more vs threshold m bs b e =
    length_gathered vs m threshold (bs ++ (b ∷ []))
    ∙ ap (λ n. n * (length vs + totals_width)) (e ∙ sym (add-one (length (groups_of vs m bs))))

-- then the list with it is longer than the output
pub no_space_longer : (e : Ending) (threshold : List ℕ) (room : ℕ) (bs : List Bindings) (b : Bindings)
    → NoSpaceFor e room bs b → room < length (gathered e threshold (bs ++ (b ∷ [])))
no_space_longer (rows vs) threshold room bs b h = subst⁻¹ (λ n. room < n) (rows_more vs threshold bs b) h
no_space_longer (top k vs keys) threshold room bs b h = absurd h
no_space_longer (group vs m) threshold room bs b h =
    subst⁻¹ (λ n. room < n) (groups_more vs threshold m bs b (new_counts vs m bs b h.0)) h.1
no_space_longer (registers v) threshold room bs b h = absurd h

-- and only then, where the output has the room that test 7 asks for and the rows so far fit
pub longer_no_space : (e : Ending) (threshold : List ℕ) (room : ℕ) (bs : List Bindings) (b : Bindings)
    → least_output e ≤ room → length (gathered e threshold bs) ≤ room → room < length (gathered e threshold (bs ++ (b ∷ [])))
    → NoSpaceFor e room bs b
longer_no_space (rows vs) threshold room bs b least fit h = subst (λ n. room < n) (rows_more vs threshold bs b) h
longer_no_space (top k vs keys) threshold room bs b least fit h =
    let l = room_gathered k vs keys threshold (bs ++ (b ∷ [])) in omega arith
longer_no_space (registers v) threshold room bs b least fit h =
    let l = length_registers v threshold (bs ++ (b ∷ [])) in omega arith
longer_no_space (group vs m) threshold room bs b least fit h = go (one_more_fact vs m bs b)
  where
    go : OneMore vs m bs b → NewGroup vs bs b × (room < (length (groups_of vs m bs) + 1) * (length vs + totals_width))
    go (new n e) = (n, subst (λ n. room < n) (groups_more vs threshold m bs b e) h)
    go (known e) =
        let p : length (gathered (group vs m) threshold (bs ++ (b ∷ []))) ≡ length (gathered (group vs m) threshold bs) =
        length_gathered vs m threshold (bs ++ (b ∷ [])) ∙ ap (λ n. n * (length vs + totals_width)) e
        ∙ sym (length_gathered vs m threshold bs) in
        absurd (omega arith)
