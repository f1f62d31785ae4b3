-- A loop over branches that were read: how many words are passed, and how many branches are left.
use Prim.Native.Nat.{ℕ, ◌+◌, ◌-◌, ◌≤◌, ◌<◌}
use native.Mathlib.Omega.{arith}
use mathlib.Core.Path.{◌≡◌, sym, ◌∙◌}
use mathlib.Core.Bool.{Bool, true, false, ◌||◌}
use mathlib.Core.List.{List}
use lib.ListN.{length, take, drop, length-drop}
use lib.Seq.{drop-drop}
use Rattle.sequences.specs.Sequences.{member}
use Rattle.sequences.proofs.Walking.{rest_of}
use Rattle.plans.specs.Branches.{read_branch, read_branches, binds}
use Rattle.plans.specs.Reading.{is_read, words_read, branch_in, branches_in}
use Rattle.plans.proofs.BranchRead.{branch_in_lem}
use Rattle.plans.proofs.BranchList.{FirstRead, first_read}

pub record BranchesWalked (n : ℕ) (ws : List ℕ) (at left : ℕ) : Type 0 where
  pub within : at ≤ length ws
  pub read : is_read (read_branches left (drop at ws)) ≡ true
  pub words : at + words_read (read_branches left (drop at ws)) ≡ words_read (read_branches n ws)

pub walk_start : (n : ℕ) (ws : List ℕ) → is_read (read_branches n ws) ≡ true → BranchesWalked n ws 0 n
walk_start n ws h = record { within = omega arith; read = h; words = omega arith }

module _ (n : ℕ) (ws : List ℕ) (at left : ℕ) (walk : BranchesWalked n ws at left) where
  pub walk_end : left ≡ 0 → at ≡ words_read (read_branches n ws)
  unfolding read_branches
  walk_end e = let w : at + 0 ≡ words_read (read_branches n ws) = rw e at walk.words in omega arith

  module _ (more : 0 < left) where
    here : FirstRead left (left - 1) (drop at ws)
    here = first_read left (drop at ws) (λ z. omega arith) walk.read

    -- the part from there on, as it is lent, starts with a branch
    pub walk_read : is_read (read_branch (take (length ws - at) (drop at ws))) ≡ true
    walk_read = rw rest_of here.first

    module _ (k : ℕ) (ek : k ≡ words_read (read_branch (take (length ws - at) (drop at ws)))) where
      count : words_read (read_branch (drop at ws)) ≡ k
      count = sym (ek ∙ rw rest_of)

      pub walk_words : at + k ≤ length ws
      walk_words = omega (arith, walk.within, count, (branch_in_lem (drop at ws) here.first).fit, length-drop at ws)

      on : drop (words_read (read_branch (drop at ws))) (drop at ws) ≡ drop (at + k) ws
      on = drop-drop (words_read (read_branch (drop at ws))) at ws ∙ rw count

      pub walk_next : BranchesWalked n ws (at + k) (left - 1)
      walk_next =
          record {
            within = walk_words;
            read = rw (← on) here.rest;
            words = let w = rw on at here.words in omega (arith, walk.words, count);
          }

      -- whether a branch that is left binds a word
      module _ (word : ℕ) (q : Bool) (eq : q ≡ member word (branch_in (take (length ws - at) (drop at ws))).terms) where
        binds_step : binds (branches_in left (drop at ws)) word ≡ (q || binds (branches_in (left - 1) (drop (at + k) ws)) word)
        unfolding binds
        binds_step = rw (here.list, on, eq, rest_of)

        pub binds_stops : q ≡ true → binds (branches_in left (drop at ws)) word ≡ true
        binds_stops e = binds_step ∙ rw e

        pub binds_goes : q ≡ false → binds (branches_in left (drop at ws)) word ≡ binds (branches_in (left - 1) (drop (at + k) ws)) word
        binds_goes e = binds_step ∙ rw e

pub binds_end : (ws : List ℕ) (left word : ℕ) → left ≡ 0 → binds (branches_in left ws) word ≡ false
unfolding binds read_branches
binds_end ws left word e = rw e
