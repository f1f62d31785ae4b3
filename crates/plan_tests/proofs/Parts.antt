-- Reading branches: what the code answers of them, from its answers on their conditions and on the branches after them.
use Prim.Native.Nat.{ℕ, zero, suc, ◌+◌, ◌-◌, ◌*◌, ◌≤◌, ◌<◌}
use native.Mathlib.Omega.{arith}
use native.Mathlib.Numerals.{sub-one}
use mathlib.Core.Path.{◌≡◌, refl, sym, ◌∙◌, ap}
use mathlib.Core.Bool.{Bool, true, false, cond, ◌&&◌}
use mathlib.Core.Option.{none, some}
use mathlib.Core.List.{List, ◌∷◌}
use lib.Dec.{leb}
use lib.ListN.{length, get_or, take, drop}
use borrow.Author.Tests.{ne_eqb, lt-ltb, le-ltb}
use Rattle.std.specs.Prelude.{Option, None, Some, option_map}
use Rattle.std.proofs.lemmas.Option.{none-some}
use Rattle.sequences.specs.Sequences.{all}
use Rattle.sequences.proofs.Walking.{rest_of, rest_length}
use Rattle.plan_tests.specs.declared.Part.{Part}
use Rattle.plans.specs.declared.Tree.{Tree}
use Rattle.plans.specs.Conditions.{Condition, Read, next, read_condition, nodes, most_depth, most_nodes}
use Rattle.plans.specs.Branches.{Branch, pattern_width, pattern_count, with_condition, read_branch, read_branches, term_right, branch_right}
use Rattle.plans.specs.Reading.{is_read, words_read, tree_of}
use Rattle.plan_tests.specs.Testing.{part_of}
use Rattle.plans.proofs.Trees.{tree_words}
use Rattle.plans.proofs.BranchRead.{branch_in_lem, lent_terms, lent_terms_lem}
use Rattle.plans.proofs.BranchList.{branches_fit}

-- ---- a part that was read takes no more words than there are
answer_words : Option Part → ℕ
answer_words None = 0
answer_words (Some a) = a.words

module _ {A : Type 0} (test : A → Bool) where
  pub part_words : (r : Read A) (a : Part) → part_of test r ≡ Some a → words_read r ≡ a.words
  unfolding answer_words
  part_words none a e = absurd (none-some a e)
  part_words (some x) a e = ap answer_words e

  pub part_read : (r : Read A) (a : Part) → part_of test r ≡ Some a → is_read r ≡ true
  part_read none a e = absurd (none-some a e)
  part_read (some x) a e = refl

pub branch_words_lem : (ws : List ℕ) (a : Part) → part_of branch_right (read_branch ws) ≡ Some a → a.words ≤ length ws
branch_words_lem ws a e =
    omega (arith, part_words branch_right (read_branch ws) a e, (branch_in_lem ws (part_read branch_right (read_branch ws) a e)).fit)

pub branches_words : (n : ℕ) (ws : List ℕ) (a : Part) → part_of (all branch_right) (read_branches n ws) ≡ Some a → a.words ≤ length ws
branches_words n ws a e =
    omega (
      arith,
      part_words (all branch_right) (read_branches n ws) a e,
      branches_fit n ws (part_read (all branch_right) (read_branches n ws) a e),
    )

-- ---- a branch, from its condition
abbrev pub branch_part : ℕ → Bool → Option Tree → Option Part
branch_part at right None = None
branch_part at right (Some a) = cond (leb a.nodes most_nodes) (Some (record { words = at + a.words; right = right && a.bound })) None

kept : (t : Bool) (x : Branch × ℕ) → part_of branch_right (cond t (some x) none) ≡ cond t (Some (record { words = x.1; right = branch_right x.0 })) None
kept true x = refl
kept false x = refl

part_of_lem : (n : ℕ) (ws ts : List ℕ) → ts ≡ take (pattern_width * n) (drop 1 ws) → (r : Read Condition)
    → part_of branch_right (with_condition n ws r) ≡ branch_part (1 + pattern_width * n) (all term_right ts) (tree_of ts r)
part_of_lem n ws ts e none = refl
part_of_lem n ws ts e (some x) =
    kept (leb (nodes x.0) most_nodes) (record { terms = take (pattern_width * n) (drop 1 ws); condition = x.0 }, 1 + pattern_width * n + x.1)
    ∙ rw e

module _ (ws : List ℕ) (n : ℕ) (en : n ≡ pattern_count (get_or ws 0 0)) where
  pub branch_none : n ≡ 0 → read_branch ws ≡ none
  unfolding read_branch
  branch_none e = rw (← en, e)

  module _ (hn : n ≡ 0 → ⊥) where
    pub branch_short : length ws < 1 + pattern_width * n → read_branch ws ≡ none
    unfolding read_branch
    branch_short h = rw (← en, ne_eqb n 0 hn, lt-ltb (length ws) (1 + pattern_width * n) h)

    branch_long : 1 + pattern_width * n ≤ length ws
        → read_branch ws ≡ with_condition n ws (read_condition most_depth (drop (1 + pattern_width * n) ws))
    unfolding read_branch
    branch_long h = rw (← en, ne_eqb n 0 hn, le-ltb (length ws) (1 + pattern_width * n) h)

    module _ (h : 1 + pattern_width * n ≤ length ws) (l : Option Tree)
        (el : l ≡ tree_of (lent_terms n ws) (read_condition most_depth (take (length ws - (1 + pattern_width * n)) (drop (1 + pattern_width * n) ws))))
      where
        pub branch_with : part_of branch_right (read_branch ws) ≡ branch_part (1 + pattern_width * n) (all term_right (lent_terms n ws)) l
        branch_with =
            ap (part_of branch_right) (branch_long h)
            ∙ part_of_lem n ws (lent_terms n ws) (lent_terms_lem n ws) (read_condition most_depth (drop (1 + pattern_width * n) ws))
            ∙ rw (el, rest_of)

        pub condition_words_lem : (a : Tree) → l ≡ Some a → 1 + pattern_width * n + a.words ≤ length ws
        condition_words_lem a e =
            omega (
              arith,
              rest_length ws (1 + pattern_width * n),
              tree_words (lent_terms n ws) most_depth (take (length ws - (1 + pattern_width * n)) (drop (1 + pattern_width * n) ws)) l el a e,
            )

-- ---- branches, from the first and the rest
abbrev pub join_parts : Part → Part → Part
join_parts a b = record { words = a.words + b.words; right = a.right && b.right }

-- the rest is read where the first ends
abbrev pub part_then : Option Part → (ℕ → Option Part) → Option Part
part_then None f = None
part_then (Some a) f = option_map (join_parts a) (f a.words)

rest_part : (x : Branch × ℕ) (r : Read (List Branch))
    → part_of (all branch_right) (next r (λ y. some (x.0 ∷ y.0, x.1 + y.1)))
    ≡ option_map (join_parts (record { words = x.1; right = branch_right x.0 })) (part_of (all branch_right) r)
unfolding all
rest_part x none = refl
rest_part x (some y) = refl

two_parts : (g : List ℕ → Read (List Branch)) (ws : List ℕ) (r : Read Branch)
    → part_of (all branch_right) (next r (λ x. next (g (drop x.1 ws)) (λ y. some (x.0 ∷ y.0, x.1 + y.1))))
    ≡ part_then (part_of branch_right r) (λ m. part_of (all branch_right) (g (drop m ws)))
two_parts g ws none = refl
two_parts g ws (some x) = rest_part x (g (drop x.1 ws))

pub no_branches : (n : ℕ) (ws : List ℕ) → n ≡ 0 → part_of (all branch_right) (read_branches n ws) ≡ Some (record { words = 0; right = true })
unfolding read_branches all
no_branches zero ws h = refl
no_branches (suc n) ws h = absurd (omega arith)

branches_step : (n : ℕ) (ws : List ℕ) → (n ≡ 0 → ⊥)
    → part_of (all branch_right) (read_branches n ws)
    ≡ part_then (part_of branch_right (read_branch ws)) (λ m. part_of (all branch_right) (read_branches (n - 1) (drop m ws)))
unfolding read_branches
branches_step zero ws h = absurd (h refl)
branches_step (suc n) ws h = rw sub-one (two_parts (read_branches n) ws (read_branch ws))

module _ (n : ℕ) (ws : List ℕ) (hn : n ≡ 0 → ⊥) (l : Option Part) (el : l ≡ part_of branch_right (read_branch ws)) where
  pub branches_broken : l ≡ None → part_of (all branch_right) (read_branches n ws) ≡ None
  branches_broken e = branches_step n ws hn ∙ rw (← el, e)

  module _ (a : Part) (e : l ≡ Some a) where
    pub first_words : a.words ≤ length ws
    first_words = branch_words_lem ws a (sym el ∙ e)

    module _ (r : Option Part) (er : r ≡ part_of (all branch_right) (read_branches (n - 1) (take (length ws - a.words) (drop a.words ws)))) where
      pub rest_words : (b : Part) → r ≡ Some b → a.words + b.words ≤ length ws
      rest_words b x =
          omega (
            arith,
            first_words,
            rest_length ws a.words,
            branches_words (n - 1) (take (length ws - a.words) (drop a.words ws)) b (sym er ∙ x),
          )

      pub branches_two : part_of (all branch_right) (read_branches n ws) ≡ option_map (join_parts a) r
      branches_two = branches_step n ws hn ∙ rw (← el, e, er, rest_of)
