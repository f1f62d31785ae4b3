-- A turn of test 12 of a list of groups: the record at a word is right and follows the one before it, or the list is wrong.
use Prim.Native.Nat.{ℕ, zero, suc, ◌+◌, ◌-◌, ◌%◌, ◌≤◌, ◌<◌}
use native.Mathlib.Omega.{arith}
use native.Mathlib.Decide.{dec_lt}
use mathlib.Core.Path.{◌≡◌, refl, sym, ◌∙◌, ap, ap₂}
use mathlib.Core.Bool.{Bool, true, false, ◌&&◌, and-false}
use mathlib.Core.List.{List, [], ◌∷◌, map}
use lib.Dec.{eqb}
use lib.ListN.{length, take, drop, length-drop, drop_of_length-le}
use lib.Seq.{drop-drop, length-take-le}
use borrow.Author.Tests.{eq-eqb, ne_eqb}
use Rattle.words.specs.Words.{is_value}
use Rattle.sequences.specs.Sequences.{all, neighbours}
use Rattle.sequences.proofs.Booleans.{absurd_true}
use Rattle.plans.specs.Endings.{group}
use Rattle.lists.specs.Groups.{Group, totals_width, keys_before, group_in}
use Rattle.lists.specs.Gathering.{records_in, least_rows, group_right, list_right}
use Rattle.list_groups.specs.Keys.{keys_first}
use Rattle.list_group_merges.specs.GroupTests.{totals_right, follows_at}
use Rattle.list_group_totals.specs.GroupTotals.{totals_in}
use Rattle.lists.proofs.Records.{records_nil}
use Rattle.list_group_totals.proofs.TotalsWords.{group_at_lem}
use Rattle.list_groups.proofs.KeySides.{before_keys}
use Rattle.list_group_merges.proofs.RecordSteps.{whole_one, whole_rest, records_step}

-- the records of a list with g keys each
abbrev groups_at : ℕ → List ℕ → List Group
groups_at g ws = map (group_in g) (records_in (g + totals_width) ws)

-- each of them is right, and they ascend
abbrev pub right_at : ℕ → List ℕ → Bool
right_at g ws = all group_right (groups_at g ws) && neighbours keys_before (groups_at g ws)

pub right_list : (vs : List ℕ) (m : ℕ) (ws : List ℕ)
    → list_right (group vs m) ws ≡ (eqb (length ws % (length vs + totals_width)) 0 && right_at (length vs) ws)
unfolding list_right
right_list vs m ws = refl

groups_step : (g : ℕ) (ws : List ℕ) → g + totals_width ≤ length ws
    → groups_at g ws ≡ group_in g (take (g + totals_width) ws) ∷ groups_at g (drop (g + totals_width) ws)
groups_step g ws h = ap (map (group_in g)) (records_step (g + totals_width) (omega arith) ws h)

groups_none : (g : ℕ) (ws : List ℕ) → ws ≡ [] → groups_at g ws ≡ []
groups_none g ws e = ap (groups_at g) e ∙ ap (map (group_in g)) (records_nil (g + totals_width))

-- what is known where the test has come to a word: the list is right exactly where the rest is
pub record TestedGroups (g : ℕ) (list : List ℕ) (at : ℕ) : Type 0 where
  pub whole : length (drop at list) % (g + totals_width) ≡ 0
  pub inside : at ≤ length list
  pub first : at < g + totals_width → at ≡ 0
  pub rest : right_at g list ≡ (all group_right (groups_at g (drop at list)) && neighbours keys_before (groups_at g (drop (at - (g + totals_width)) list)))

pub tested_start : (g : ℕ) (list : List ℕ) → length list % (g + totals_width) ≡ 0 → TestedGroups g list 0
tested_start g list h =
    record {
      whole = h;
      inside = omega arith;
      first = λ l. refl;
      rest = ap (λ n. all group_right (groups_at g list) && neighbours keys_before (groups_at g (drop n list)))
          (let z : 0 ≡ 0 - (g + totals_width) = omega arith in z);
    }

module _ {g : ℕ} {list : List ℕ} {at : ℕ} (t : TestedGroups g list at) where
  abbrev w : ℕ
  w = g + totals_width

  left : length (drop at list) ≡ length list - at
  left = length-drop at list

  -- nothing is left
  pub tested_end : length list ≤ at → right_at g list ≡ true
  unfolding all neighbours
  tested_end h =
      let i = t.inside in
      let none = drop_of_length-le list {i = at} h in
      t.rest ∙ ap (λ gs. all group_right gs && neighbours keys_before (groups_at g (drop (at - w) list))) (groups_none g (drop at list) none) ∙
      elim (dec_lt at w) [
        | yes k ↦
            let z = t.first k in
            ap (neighbours keys_before) (groups_none g (drop (at - w) list) (drop_of_length-le list {i = at - w} (omega arith)))
        | no k ↦
            let l : length (drop (at - w) list) ≡ w = length-drop (at - w) list ∙ omega arith in
            let d : drop w (drop (at - w) list) ≡ [] = drop_of_length-le (drop (at - w) list) {i = w} (omega arith) in
            ap (neighbours keys_before) (groups_step g (drop (at - w) list) (omega arith) ∙ ap (λ gs. group_in g (take w (drop (at - w) list)) ∷ gs)
            (groups_none g (drop w (drop (at - w) list)) d))
      ]

  module _ (h : at < length list) where
    one : w ≤ length (drop at list)
    one = whole_one w (length (drop at list)) t.whole (let l = left in omega arith)

    pub tested_fits : at + w ≤ length list
    tested_fits = let l = left in let o = one in omega arith

    here : groups_at g (drop at list) ≡ group_in g (take w (drop at list)) ∷ groups_at g (drop (at + w) list)
    here = groups_step g (drop at list) one ∙ ap (λ ws. group_in g (take w (drop at list)) ∷ groups_at g ws) (drop-drop w at list)

    -- the record there is wrong
    pub tested_wrong : group_right (group_in g (take w (drop at list))) ≡ false → right_at g list ≡ false
    unfolding all
    tested_wrong e =
        t.rest
        ∙ ap (λ gs. all group_right gs && neighbours keys_before (groups_at g (drop (at - w) list))) here
        ∙ ap (λ b. (b && all group_right (groups_at g (drop (at + w) list))) && neighbours keys_before (groups_at g (drop (at - w) list))) e

    -- the records from the one before it on
    module _ (k : w ≤ at) where
      both : groups_at g (drop (at - w) list) ≡ group_in g (take w (drop (at - w) list)) ∷ groups_at g (drop at list)
      both =
          let l = left in
          let m = length-drop (at - w) list in
          groups_step g (drop (at - w) list) (omega arith)
          ∙ ap (λ ws. group_in g (take w (drop (at - w) list)) ∷ groups_at g ws)
          (drop-drop w (at - w) list ∙ ap (λ n. drop n list) (let z : at - w + w ≡ at = omega arith in z))

      follow : neighbours keys_before (groups_at g (drop (at - w) list)) ≡ (follows_at g list at && neighbours keys_before (groups_at g (drop at list)))
      unfolding neighbours
      follow =
          let n : eqb at 0 ≡ false = ne_eqb at 0 (λ e. omega arith) in
          let f : follows_at g list at ≡ keys_first (take g (drop (at - w) list)) (take g (drop at list)) = rw n in
          ap (neighbours keys_before) (both ∙ ap (λ gs. group_in g (take w (drop (at - w) list)) ∷ gs) here)
          ∙ ap₂ ◌&&◌ (before_keys g (drop (at - w) list) (drop at list) ∙ sym f) (ap (neighbours keys_before) (sym here))

    -- it does not follow the one before it
    pub tested_late : follows_at g list at ≡ false → right_at g list ≡ false
    tested_late e =
        elim (dec_lt at w) [
          | yes k ↦ absurd_true (let z = t.first k in rw (eq-eqb at 0 z)) e
          | no k ↦
              t.rest
              ∙ ap (λ b. all group_right (groups_at g (drop at list)) && b) (follow (omega arith)
              ∙ ap (λ b. b && neighbours keys_before (groups_at g (drop at list))) e)
              ∙ and-false (all group_right (groups_at g (drop at list)))
        ]

    -- it is right and follows
    pub tested_next : group_right (group_in g (take w (drop at list))) ≡ true → follows_at g list at ≡ true → TestedGroups g list (at + w)
    unfolding all
    tested_next e f =
        let back : at + w - w ≡ at = omega arith in
        let order : neighbours keys_before (groups_at g (drop (at - w) list)) ≡ neighbours keys_before (groups_at g (drop (at + w - w) list)) =
        elim (dec_lt at w) [
          | yes k ↦ let z = t.first k in ap (λ n. neighbours keys_before (groups_at g (drop n list))) (let y : at - w ≡ at + w - w = omega arith in y)
          | no k ↦
              follow (omega arith) ∙ ap (λ b. b && neighbours keys_before (groups_at g (drop at list))) f
              ∙ ap (λ n. neighbours keys_before (groups_at g (drop n list))) (sym back)
        ] in
        let l = left in
        let m = length-drop (at + w) list in
        record {
          whole =
              ap (λ n. n % w) (let z : length (drop (at + w) list) ≡ length (drop at list) - w = omega arith in z) ∙ whole_rest w
              (length (drop at list)) t.whole one;
          inside = tested_fits;
          first = λ k. absurd (omega arith);
          rest =
              t.rest
              ∙ ap₂ ◌&&◌ (ap (all group_right) here ∙ ap (λ b. b && all group_right (groups_at g (drop (at + w) list))) e) order;
        }

-- ---- the keys of two records, as they are lent
pub follows_lent : (g : ℕ) (list : List ℕ) (at : ℕ) → (at ≡ 0 → ⊥)
    → keys_first (take (at - (g + totals_width) + g - (at - (g + totals_width))) (drop (at - (g + totals_width)) list)) (take (at + g - at) (drop at list))
    ≡ follows_at g list at
follows_lent g list at n =
    ap₂ (λ p q. keys_first (take p (drop (at - (g + totals_width)) list)) (take q (drop at list)))
    (let z : at - (g + totals_width) + g - (at - (g + totals_width)) ≡ g = omega arith in z) (let z : at + g - at ≡ g = omega arith in z)
    ∙ (rw (ne_eqb at 0 n))

-- ---- a record: its keys and its totals
pub right_parts : (g : ℕ) (list : List ℕ) (at : ℕ) → at + (g + totals_width) ≤ length list
    → group_right (group_in g (take (g + totals_width) (drop at list)))
    ≡ (all is_value (take (at + g - at) (drop at list))
    && totals_right (least_rows g) (totals_in (take (at + g + totals_width - (at + g)) (drop (at + g) list))))
unfolding group_right
right_parts g list at h =
    let n : length (take g (drop at list)) ≡ g = length-take-le g (drop at list) (omega (arith, length-drop at list)) in
    ap group_right (group_at_lem g list at h)
    ∙ ap (λ n. all is_value (take g (drop at list)) && totals_right (least_rows n) (totals_in (take totals_width (drop (at + g) list)))) n
    ∙ ap₂ (λ p q. all is_value (take p (drop at list)) && totals_right (least_rows g) (totals_in (take q (drop (at + g) list))))
    (let z : g ≡ at + g - at = omega arith in z) (let z : totals_width ≡ at + g + totals_width - (at + g) = omega arith in z)

-- where there is a key, a row at least
pub least_some : (n : ℕ) → (n ≡ 0 → ⊥) → 1 ≡ least_rows n
least_some zero h = absurd (h refl)
least_some (suc n) h = refl

-- ---- the whole test, by the number of keys
module _ (g : ℕ) (list : List ℕ) (vs : List ℕ) (m : ℕ) (e : length vs ≡ g) where
  by_keys : list_right (group vs m) list ≡ (eqb (length list % (g + totals_width)) 0 && right_at g list)
  by_keys = right_list vs m list ∙ ap (λ n. eqb (length list % (n + totals_width)) 0 && right_at n list) e

  pub not_whole : (length list % (g + totals_width) ≡ 0 → ⊥) → false ≡ list_right (group vs m) list
  not_whole n = sym (by_keys ∙ rw (ne_eqb (length list % (g + totals_width)) 0 n))

  pub by_records : (r : Bool) → length list % (g + totals_width) ≡ 0 → right_at g list ≡ r → r ≡ list_right (group vs m) list
  by_records r h p = sym (by_keys ∙ ap (λ b. b && right_at g list) (eq-eqb (length list % (g + totals_width)) 0 h) ∙ p)
