-- When a turn is refused by 9: the form of the state alone decides, and no number in it. Assumes nothing: these are definitions.
use Rattle.std.specs.Prelude.{◌≤◌, length}
use Rattle.words.specs.Tests.{AllPass, tests_before}
use Rattle.steps.specs.StateForms.{StateForm}
use Rattle.turns.specs.Turns.{TurnInput, given_state, given_plan, turn_tests}

-- the given words are there, and have the form of a state
abbrev pub GivenForm : TurnInput → Type 0
GivenForm i = (i.given ≤ length i.state) × StateForm i.survey.tables (given_plan i) (given_state i)

-- the tests before 9 pass, and the given words have not that form
abbrev pub WrongForm : TurnInput → Type 0
WrongForm i = AllPass (tests_before 9 (turn_tests i)) × ¬ GivenForm i
