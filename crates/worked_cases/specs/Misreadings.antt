-- The misreadings that the rules (docs/RULES.md, 11) name: for each what a call gives, the right words, and those of the misreading.
use Rattle.std.specs.Prelude.{ℕ, ◌≡◌, List, [], ◌∷◌, ◌++◌, false, take}
use Rattle.words.specs.Words.{name, unbound}
use Rattle.words.specs.Answers.{words_in}
use Rattle.dictionaries.specs.Strings.{same_string}
use Rattle.turns.specs.Turns.{TurnInput, TurnResult, turn_of}
use Rattle.calls.specs.Words.{WordsResult}
use Rattle.merges.specs.Merging.{merge_of}
use Rattle.worked_cases.specs.Wood.{wood, not_error, rows01, plan_with, plan_a, plan_twice, plan_top, plan_unbound, start_of_a, stem}
use Rattle.worked_cases.specs.Calls.{turn_call, merge_call}

abbrev pub list_in : TurnResult → List ℕ
list_in r = take r.answer.listed r.buffers.output

abbrev pub state_after : TurnResult → List ℕ
state_after r = take r.answer.saved r.buffers.state

abbrev pub kept_in : WordsResult → List ℕ
kept_in r = take (words_in r.answer) r.buffers

pub record Misreading : Type 0 where
  pub given : List ℕ
  pub right : List ℕ
  pub wrong : List ℕ

-- what is given is right, and the wrong reading differs
abbrev pub Told : List Misreading → Type 0
Told [] = Unit {0}
Told (r ∷ rs) = (r.given ≡ r.right) × ((same_string r.right r.wrong ≡ false) × Told rs)

-- a turn with all the steps that it needs, and one whose output holds one row
abbrev pub whole_turn : List ℕ → TurnInput
whole_turn plan = turn_call wood plan start_of_a 100 [] 128

abbrev pub one_row : List ℕ → TurnInput
one_row state = turn_call wood plan_a state 10 [] 2

abbrev pub readings : List Misreading
readings =
    -- unbound sorts first
    record { given = list_in (turn_of (whole_turn plan_unbound)); right = name 1 ∷ unbound ∷ []; wrong = stem 1 45 }
    -- not(error) is error, and keeps nothing
    ∷ record {
      given = list_in (turn_of (whole_turn (plan_with not_error rows01)));
      right = [];
      wrong = stem 1 45 ++ (stem 2 310 ++ stem 3 310);
    }
    -- a later equal row does not push out the kept one: in a turn, and in a merge
    ∷ record { given = list_in (turn_of (whole_turn plan_top)); right = stem 2 310; wrong = stem 3 310 }
    ∷ record { given = kept_in (merge_of (merge_call plan_top (stem 2 310) 4 (stem 3 310))); right = stem 2 310; wrong = stem 3 310 }
    -- a full output uses up no step: the next turn delivers the row
    ∷ record {
      given = list_in (turn_of (one_row (state_after (turn_of (one_row start_of_a)))));
      right = stem 3 310;
      wrong = [];
    }
    -- duplicates between branches stay
    ∷ record {
      given = list_in (turn_of (whole_turn plan_twice));
      right = stem 2 310 ++ (stem 3 310 ++ (stem 2 310 ++ stem 3 310));
      wrong = stem 2 310 ++ stem 3 310;
    }
    ∷ []
