-- Merging: its tests in order, its answer, and the kept buffer at exit. Assumes nothing: these are definitions.
use Rattle.std.specs.Prelude.{ℕ, List, [], ◌∷◌, ◌++◌, ◌&&◌, length, take, leb}
use Rattle.words.specs.declared.Written.{Written}
use Rattle.words.specs.Tests.{Test}
use Rattle.calls.specs.Calls.{CallSchema, result_of_call}
use Rattle.calls.specs.Words.{WordsResult, writes_words}
use Rattle.plans.specs.Endings.{Ending}
use Rattle.plans.specs.Plans.{plan_of, plan_tests}
use Rattle.lists.specs.Gathering.{kept_right, list_right, totals_fit, merged}

pub record MergeInput : Type 0 where
  pub plan : List ℕ
  pub kept : List ℕ
  pub given : ℕ
  pub list : List ℕ

-- what a call lends
abbrev pub merge_input : List ℕ → List ℕ → ℕ → List ℕ → MergeInput
merge_input plan kept given list = record { plan = plan; kept = kept; given = given; list = list }

-- a kept list is the first words of its buffer, as many as the call gives
abbrev pub given_kept : MergeInput → List ℕ
given_kept i = take i.given i.kept

abbrev pub given_ending : MergeInput → Ending
given_ending i = (plan_of i.plan).ending

-- the words of the result
abbrev pub merged_words : MergeInput → List ℕ
merged_words i = merged (given_ending i) (given_kept i) i.list

-- 5, 6, 23; 12: both lists; 13: the totals; 14: room for the result
abbrev pub list_tests : MergeInput → List Test
list_tests i =
    (12, leb i.given (length i.kept) && (kept_right (given_ending i) (given_kept i) && list_right (given_ending i) i.list))
    ∷ (13, totals_fit (given_ending i) (given_kept i) i.list)
    ∷ (14, leb (length (merged_words i)) (length i.kept))
    ∷ []

abbrev pub merge_tests : MergeInput → List Test
merge_tests i = plan_tests i.plan ++ list_tests i

-- ---- the call
abbrev pub merge_schema : CallSchema MergeInput Written Written (List ℕ) ℕ
merge_schema = writes_words merge_tests (5 ∷ 6 ∷ 23 ∷ 12 ∷ 13 ∷ 14 ∷ []) (λ i. i.kept) merged_words

abbrev pub merge_of : MergeInput → WordsResult
merge_of = result_of_call merge_schema
