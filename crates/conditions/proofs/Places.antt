-- Where the right operands of pairs stand, from a place of some words on.
use Prim.Native.Nat.{ℕ, zero, suc, ◌+◌, ◌-◌, ◌≤◌, ◌<◌}
use native.Mathlib.Omega.{arith}
use native.Mathlib.Numerals.{add-one}
use mathlib.Core.Path.{◌≡◌, refl, sym, ◌∙◌, ap}
use mathlib.Core.Option.{none, some}
use mathlib.Core.List.{List, [], ◌∷◌, ◌++◌}
use lib.ListN.{length, get_or, take, drop, set}
use lib.Seq.{take_all, take-suc, take-suc-set, drop-drop}
use Rattle.plans.specs.declared.Node.{Node}
use Rattle.plans.specs.declared.Node.TheVariants.{Always, Pair, Negated, Compared, Wrong}
use Rattle.plans.specs.Conditions.{Condition, Read, node_of, read_condition, most_depth}
use Rattle.plans.specs.Reading.{words_read}
use Rattle.conditions.specs.Values.{left_under, left_words, lefts_of}
use Rattle.conditions.proofs.Reading.{rest_of, Begins, Fits, fits}

pub length_lefts : (ws : List ℕ) → length (lefts_of ws) ≡ length ws
unfolding lefts_of
length_lefts [] = refl
length_lefts (w ∷ ws) = ap suc (length_lefts ws)

drop_lefts : (n : ℕ) (ws : List ℕ) → drop n (lefts_of ws) ≡ lefts_of (drop n ws)
unfolding lefts_of
drop_lefts zero ws = refl
drop_lefts (suc n) [] = refl
drop_lefts (suc n) (w ∷ ws) = drop_lefts n ws

-- the place of each, one after the other
pub left_at : (ws : List ℕ) (n : ℕ) → get_or (lefts_of ws) n 0 ≡ left_words (drop n ws)
unfolding lefts_of
left_at [] zero = refl
left_at [] (suc n) = refl
left_at (w ∷ ws) zero = refl
left_at (w ∷ ws) (suc n) = left_at ws n

-- a part to the end of both, as they are lent
pub lefts_part : (ws ls : List ℕ) (n : ℕ) → ls ≡ lefts_of ws → take (length ls - n) (drop n ls) ≡ lefts_of (take (length ws - n) (drop n ws))
lefts_part ws ls n e = rest_of ls n ∙ ap (drop n) e ∙ drop_lefts n ws ∙ ap lefts_of (sym (rest_of ws n))

pub lefts_length : (ws : List ℕ) {ls : List ℕ} → ls ≡ lefts_of ws → length ls ≡ length ws
lefts_length ws e = ap length e ∙ length_lefts ws

-- where a pair begins at a place
pub left_here : (ws : List ℕ) (at : ℕ) {d : ℕ} {ls : List ℕ} → Begins d (drop at ws) Pair → ls ≡ lefts_of ws
    → get_or ls at 0 ≡ words_read (read_condition most_depth (drop (at + 1) ws))
left_here ws at h e =
    ap (λ l. get_or l at 0) e ∙ left_at ws at ∙ go (drop at ws) h.there h.node ∙ ap (λ l. words_read (read_condition most_depth l)) (drop-drop 1 at ws)
  where
    go : (l : List ℕ) → (length l ≡ 0 → ⊥) → Pair ≡ node_of (get_or l 0 0) → left_words l ≡ words_read (read_condition most_depth (drop 1 l))
    go [] n p = absurd (n refl)
    go (w ∷ l) n p = rw (← p)

-- ---- found in code, one after the other
left_most : (n : Node) (x : Read Condition) (len : ℕ) → Fits x len → left_under n (words_read x) ≤ len
left_most Always x len h = omega arith
left_most Pair none len h = omega arith
left_most Pair (some x) len h = h.1
left_most Negated x len h = omega arith
left_most Compared x len h = omega arith
left_most Wrong x len h = omega arith

pub left_fits : (ws : List ℕ) → left_words ws ≤ length ws
left_fits [] = omega arith
left_fits (w ∷ ws) = omega (arith, left_most (node_of w) (read_condition most_depth ws) (length ws) (fits most_depth ws))

pub no_left : (ws : List ℕ) → length ws ≡ 0 → left_words ws ≡ 0
no_left [] h = refl
no_left (w ∷ ws) h = absurd (omega arith)

pub left_found : (ws : List ℕ) (n : Node) {m : ℕ} → (length ws ≡ 0 → ⊥) → n ≡ node_of (get_or ws 0 0)
    → m ≡ words_read (read_condition most_depth (take (length ws - 1) (drop 1 ws))) → left_words ws ≡ left_under n m
left_found [] n i e em = absurd (i refl)
left_found (w ∷ ws) n i e em = rw (e, em, rest_of)

pub lefts_next : (ws ls : List ℕ) (at : ℕ) {v : ℕ} → at < length ws → at < length ls → take at ls ≡ take at (lefts_of ws)
    → v ≡ left_words (take (length ws - at) (drop at ws)) → take (at + 1) (set ls at v) ≡ take (at + 1) (lefts_of ws)
lefts_next ws ls at {v} h k e ev =
    rw (add-one at) (
    take-suc-set ls at v k
    ∙ ap (λ l. l ++ (v ∷ [])) e
    ∙ ap (λ a. take at (lefts_of ws) ++ (a ∷ [])) (ev ∙ ap left_words (rest_of ws at) ∙ sym (left_at ws at))
    ∙ sym (take-suc (lefts_of ws) at 0 (omega (arith, length_lefts ws)))
    )

pub lefts_whole : (ws ls : List ℕ) (at : ℕ) → length ws ≤ at → at ≤ length ws → take at ls ≡ take at (lefts_of ws)
    → take (length ws) ls ≡ lefts_of ws
lefts_whole ws ls at h k e =
    let z : length ws ≡ at = omega arith in
    ap (λ n. take n ls) z ∙ e ∙ take_all at (lefts_of ws) (omega (arith, length_lefts ws))
