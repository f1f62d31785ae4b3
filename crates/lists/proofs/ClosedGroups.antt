-- Closed lists of groups of no variable: the record of no rows adds nothing, so that the closed list of further rows, taken behind the list of
-- some rows, is the closed list of all of them. They pass test 12 and have the words that test 7 asks for.
use Prim.Native.Nat.{ℕ, ◌+◌}
use native.Mathlib.Omega.{arith}
use mathlib.Core.Path.{◌≡◌, refl, sym, ◌∙◌, ap, ap₂}
use mathlib.Core.Bool.{Bool, true, false}
use mathlib.Core.List.{List, [], ◌∷◌, ◌++◌, map, flatten, append-nil}
use lib.Dec.{eqb}
use lib.ListN.{length}
use lib.IntN.{+ℤ_idr}
use borrow.Author.Tests.{eqb-true}
use Rattle.words.specs.Words.{unbound}
use Rattle.sequences.specs.Sequences.{all, lex_before}
use Rattle.words.specs.Bindings.{Bindings}
use Rattle.plans.specs.Endings.{group}
use Rattle.lists.specs.Groups.{Group, of_row, of_nothing, together, lesser, greater, keys_before, add_by, add_all_by, add_groups, groups_of, group_words}
use Rattle.lists.specs.Groups.{totals_width}
use Rattle.lists.specs.Gathering.{gathered, merged, groups_in, list_right, group_fits, totals_fit}
use Rattle.lists.specs.Closing.{or_nothing, closed}
use Rattle.lists.proofs.Values.{AllValues}
use Rattle.lists.proofs.GroupWords.{HaveKeys, wrapped, groups_in_words}
use Rattle.lists.proofs.Wrapping.{wrapped_all, words_added}
use Rattle.lists.proofs.GroupLists.{groups_in_any, groups_in_gathered, groups_append}
use Rattle.lists.proofs.GroupsRight.{right_nothing}
use Rattle.lists.proofs.GroupValid.{AllRight, words_right, groups_rights}

-- ---- added to a record it leaves it as it was
lesser_nothing : (a : ℕ) → lesser a unbound ≡ a
unfolding lesser
lesser_nothing a = go (eqb a unbound) refl
  where
    go : (b : Bool) → eqb a unbound ≡ b → lesser a unbound ≡ a
    go true e = rw e (sym (eqb-true a unbound e))
    go false e = rw e refl

greater_nothing : (a : ℕ) → greater a unbound ≡ a
unfolding greater
greater_nothing a = go (eqb a unbound) refl
  where
    go : (b : Bool) → eqb a unbound ≡ b → greater a unbound ≡ a
    go true e = rw e (sym (eqb-true a unbound e))
    go false e = rw e refl

pub together_nothing : (g : Group) → together g of_nothing ≡ g
together_nothing g =
    let p : g.rows + 0 ≡ g.rows = omega arith in
    let q : g.numbers + 0 ≡ g.numbers = omega arith in
    let r = +ℤ_idr g.sum in
    let l = lesser_nothing g.least in
    let m = greater_nothing g.greatest in
    λ i. record { keys = g.keys; rows = p i; numbers = q i; sum = r i; least = l i; greatest = m i }

-- ---- with no group variable some rows make one record
joins_alone : (x g : Group) → x.keys ≡ [] → g.keys ≡ [] → add_by keys_before together x (g ∷ []) ≡ together g x ∷ []
unfolding add_by keys_before lex_before
joins_alone x g p q = rw (p, q) refl

alone : (m : ℕ) (bs : List Bindings) (g : Group) → g.keys ≡ []
    → (h : Group) × (h.keys ≡ []) × (add_all_by keys_before together (g ∷ []) (map (of_row [] m) bs) ≡ h ∷ [])
unfolding add_all_by
alone m [] g p = (g, p, refl)
alone m (b ∷ bs) g p =
    let r = alone m bs (together g (of_row [] m b)) p in
    (r.0, r.1, ap (λ l. add_all_by keys_before together l (map (of_row [] m) bs)) (joins_alone (of_row [] m b) g refl p) ∙ r.2)

pub one_group_lem : (m : ℕ) (b : Bindings) (bs : List Bindings) → (h : Group) × (h.keys ≡ []) × (groups_of [] m (b ∷ bs) ≡ h ∷ [])
unfolding add_all_by add_by
one_group_lem m b bs = alone m bs (of_row [] m b) refl

-- ---- the records of a closed list: those of some rows, or the record of no rows where there is neither row nor variable
abbrev pub closed_groups : List ℕ → ℕ → List Bindings → List Group
closed_groups [] m [] = of_nothing ∷ []
closed_groups [] m (b ∷ bs) = groups_of [] m (b ∷ bs)
closed_groups (v ∷ vs) m bs = groups_of (v ∷ vs) m bs

-- with no variable there is one, and it has no keys
pub one_closed : (m : ℕ) (bs : List Bindings) → (h : Group) × (h.keys ≡ []) × (closed_groups [] m bs ≡ h ∷ [])
one_closed m [] = (of_nothing, refl, refl)
one_closed m (b ∷ bs) = one_group_lem m b bs

pub closed_have : (m : ℕ) (bs : List Bindings) → HaveKeys 0 (closed_groups [] m bs)
closed_have m bs = let r = one_closed m bs in rw r.2 (ap length r.1, tt)

-- their words are the list
pub closed_words : (vs : List ℕ) (m : ℕ) (th : List ℕ) (bs : List Bindings)
    → closed (group vs m) (gathered (group vs m) th bs) ≡ flatten (map group_words (closed_groups vs m bs))
unfolding closed gathered add_all_by group_words flatten
closed_words [] m th [] = refl
closed_words [] m th (b ∷ bs) = let r = one_group_lem m b bs in rw r.2 (some_words r.0 r.1)
  where
    some_words : (h : Group) → h.keys ≡ [] → or_nothing (group_words h ++ []) ≡ group_words h ++ []
    some_words h p = rw p refl
closed_words (v ∷ vs) m th bs = refl

groups_in_closed : (m : ℕ) (th : List ℕ) (bs : List Bindings)
    → groups_in [] (closed (group [] m) (gathered (group [] m) th bs)) ≡ map wrapped (closed_groups [] m bs)
groups_in_closed m th bs = ap (groups_in []) (closed_words [] m th bs) ∙ groups_in_words [] (closed_groups [] m bs) (closed_have m bs)

-- ---- taken behind the records of some rows, it is the record of all rows
some_closed : (m : ℕ) (xs : List Bindings) (b : Bindings) (bs : List Bindings)
    → groups_of [] m (xs ++ (b ∷ bs)) ≡ closed_groups [] m (xs ++ (b ∷ bs))
some_closed m [] b bs = refl
some_closed m (x ∷ xs) b bs = refl

nothing_added : (m : ℕ) (xs : List Bindings) → add_groups (groups_of [] m xs) (of_nothing ∷ []) ≡ closed_groups [] m xs
unfolding add_all_by add_by
nothing_added m [] = refl
nothing_added m (b ∷ bs) =
    let r = one_group_lem m b bs in
    ap (λ gs. add_groups gs (of_nothing ∷ [])) r.2
    ∙ joins_alone of_nothing r.0 refl r.1
    ∙ ap (λ g. g ∷ []) (together_nothing r.0)
    ∙ sym r.2

added_closed : (m : ℕ) (xs ys : List Bindings) → add_groups (groups_of [] m xs) (closed_groups [] m ys) ≡ closed_groups [] m (xs ++ ys)
added_closed m xs [] = nothing_added m xs ∙ ap (closed_groups [] m) (sym (append-nil xs))
added_closed m xs (b ∷ bs) = sym (groups_append [] m xs (b ∷ bs)) ∙ some_closed m xs b bs

-- as words
pub merge_closed : (m : ℕ) (th : List ℕ) (xs ys : List Bindings)
    → merged (group [] m) (gathered (group [] m) [] xs) (closed (group [] m) (gathered (group [] m) th ys))
    ≡ closed (group [] m) (gathered (group [] m) [] (xs ++ ys))
unfolding merged
merge_closed m th xs ys =
    ap (λ gs. flatten (map group_words gs)) (ap₂ add_groups (groups_in_any [] m [] xs) (groups_in_closed m th ys))
    ∙ ap flatten (words_added (groups_of [] m xs) (closed_groups [] m ys))
    ∙ ap (λ gs. flatten (map group_words gs)) (added_closed m xs ys)
    ∙ sym (closed_words [] m [] (xs ++ ys))

-- ---- its totals fit where those of the rows do
pub closed_fits : (vs : List ℕ) (m : ℕ) (bs : List Bindings) → all group_fits (closed_groups vs m bs) ≡ all group_fits (groups_of vs m bs)
unfolding all add_all_by
closed_fits [] m [] = refl
closed_fits [] m (b ∷ bs) = refl
closed_fits (v ∷ vs) m bs = refl

pub fits_closed : (m : ℕ) (th : List ℕ) (xs ys : List Bindings)
    → all group_fits (groups_of [] m xs) ≡ true → all group_fits (groups_of [] m ys) ≡ true
    → totals_fit (group [] m) (gathered (group [] m) [] xs) (closed (group [] m) (gathered (group [] m) th ys))
    ≡ all group_fits (groups_of [] m (xs ++ ys))
unfolding totals_fit
fits_closed m th xs ys f h =
    ap (all group_fits)
    (ap₂ add_groups (groups_in_gathered [] m [] xs f) (groups_in_closed m th ys ∙ wrapped_all (closed_groups [] m ys) (closed_fits [] m ys ∙ h))
    ∙ added_closed m xs ys)
    ∙ closed_fits [] m (xs ++ ys)

-- ---- test 12
closed_rights : (m : ℕ) (bs : List Bindings) → AllValues bs → AllRight (closed_groups [] m bs)
closed_rights m [] h = (right_nothing, tt)
closed_rights m (b ∷ bs) h = groups_rights [] m (b ∷ bs) h

pub closed_right : (m : ℕ) (th : List ℕ) (bs : List Bindings) → AllValues bs
    → list_right (group [] m) (closed (group [] m) (gathered (group [] m) th bs)) ≡ true
closed_right m th bs h =
    ap (list_right (group [] m)) (closed_words [] m th bs)
    ∙ words_right [] m (closed_groups [] m bs) (closed_have m bs) (closed_rights m bs h)
    (let r = one_closed m bs in rw r.2 (tt, tt))

-- ---- its words are those that test 7 asks an output for
pub length_closed : (m : ℕ) (th : List ℕ) (bs : List Bindings)
    → length (closed (group [] m) (gathered (group [] m) th bs)) ≡ totals_width
unfolding group_words flatten
length_closed m th bs =
    let r = one_closed m bs in
    ap length (closed_words [] m th bs ∙ ap (λ gs. flatten (map group_words gs)) r.2) ∙ one_length r.0 r.1
  where
    one_length : (h : Group) → h.keys ≡ [] → length (flatten (map group_words (h ∷ []))) ≡ totals_width
    one_length h p = rw p
