-- What is certain of the served turns of a history whose lists are merged in any order and grouping: the uncut run's list. Assumes nothing:
-- these are definitions.
use Rattle.std.specs.Prelude.{ℕ, ◌≡◌, true, length}
use Rattle.std.proofs.Math.Option.{some}
use mathlib.Core.List.{List, map, flatten}
use Rattle.sequences.specs.Sequences.{numbers, distinct}
use Rattle.plans.specs.Endings as endings
use Rattle.plans.specs.Endings.{top, group}
use Rattle.plans.specs.Plans.{plan_of}
use Rattle.steps.specs.Steps.{after}
use Rattle.lists.specs.Rows.{project, row_before}
use Rattle.lists.specs.Gathering.{records_in}
use Rattle.turns.specs.Surveys.{Survey}
use Rattle.cuts.specs.Histories.{Phone, served_in, steps_in, done_in}
use Rattle.cuts.specs.Premises.{lists_in}
use Rattle.cuts.specs.Uncut.{EndsAt, Placed, kept_after, run_list}
use Rattle.cuts.specs.Unsent.{BestUnsent}
use Rattle.merge_orders.specs.Apart.{Apart}
use Rattle.merge_orders.specs.Ways.{Way, turns_along, is_merge, given, EachOnce}
use Rattle.merge_orders.specs.AnyOrder.{Reordered, SameEnd}
use Rattle.merge_orders.specs.Refused.{WaysRefused}

-- the lists of a history's served turns, merged by a way no merge of which is refused, give the uncut run's list up to a position of it
abbrev pub GivesUncut : Survey → List ℕ → Phone → ℕ → Way → Type 0
GivesUncut v plan h n w = (a : List ℕ) → given plan (lists_in (served_in h)) w ≡ some a → a ≡ kept_after v.tables (plan_of plan) n

pub record LateAsUncut (v : Survey) (plan : List ℕ) (h : Phone) : Type 0 where
  -- the position of the uncut run where the last served turn ended: each turn took it on from where the one before it ended
  pub reached : ℕ
  pub placed : Placed v (plan_of plan) 0 (served_in h) reached
  -- as many steps as the turns took: of a best-of query where no threshold was sent, of rows, groups and registers always
  pub unsent : BestUnsent (plan_of plan).ending (served_in h) → reached ≡ steps_in (served_in h)
  -- groups and registers: whatever the order and the grouping, as long as each turn's list is merged once
  pub groups : (vs : List ℕ) (m : ℕ) → (plan_of plan).ending ≡ group vs m
      → (w : Way) → is_merge w ≡ true → EachOnce (lists_in (served_in h)) w → GivesUncut v plan h reached w
  pub registers : (u : ℕ) → (plan_of plan).ending ≡ endings.registers u
      → (w : Way) → is_merge w ≡ true → EachOnce (lists_in (served_in h)) w → GivesUncut v plan h reached w
  -- best-of lists: the same where no two rows that the uncut run delivered up to there are equal in all keys, whatever the turns pruned
  pub tops : (k : ℕ) (vs keys : List ℕ) → (plan_of plan).ending ≡ top k vs keys
      → Apart (row_before vs keys) (map (project vs) (after v.tables (plan_of plan) reached).delivered)
      → (w : Way) → is_merge w ≡ true → EachOnce (lists_in (served_in h)) w → GivesUncut v plan h reached w
  -- and, which asks for less, where no two of the lists' rows are
  pub listed : (k : ℕ) (vs keys : List ℕ) → (plan_of plan).ending ≡ top k vs keys
      → Apart (row_before vs keys) (flatten (map (records_in (length vs)) (lists_in (served_in h))))
      → (w : Way) → is_merge w ≡ true → EachOnce (lists_in (served_in h)) w → GivesUncut v plan h reached w
  -- of some turns alone, each once: two ways that merge the same of them end alike where no two delivered rows are equal in all keys
  pub some_turns : (k : ℕ) (vs keys : List ℕ) → (plan_of plan).ending ≡ top k vs keys
      → Apart (row_before vs keys) (map (project vs) (after v.tables (plan_of plan) reached).delivered)
      → (x y : Way) → Reordered x y → distinct (turns_along x) ≡ true → SameEnd plan (lists_in (served_in h)) x y
  -- in whatever grouping, but in the order of turns, with no such premise
  pub grouped : (k : ℕ) (vs keys : List ℕ) → (plan_of plan).ending ≡ top k vs keys
      → (w : Way) → is_merge w ≡ true → turns_along w ≡ numbers (length (lists_in (served_in h))) → GivesUncut v plan h reached w
  -- where done was answered these are all of the query's turns, and the list is the whole uncut run's
  pub finished : done_in (served_in h) ≡ true
      → EndsAt v.tables (plan_of plan) reached
      × (kept_after v.tables (plan_of plan) reached ≡ run_list (plan_of plan).ending (after v.tables (plan_of plan) reached))
  -- by which numbers merges of these lists are refused, in whatever order and grouping: by 13 or 14 alone, best-of lists and registers by 14 alone
  pub refusals : WaysRefused plan (lists_in (served_in h))
