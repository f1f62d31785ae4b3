-- `state_saving::save` meets its contract.
use Prim.Native.Nat.{ℕ, ◌-◌, ◌%◌, ◌<◌}
use mathlib.Core.Path.{◌≡◌, ap, ap₂, ◌∙◌}
use native.Mathlib.Omega.{arith}
use lib.ListN.{length, set, length-set}
use borrow.Rule.Slice.PartMut.{put_mid}
use Rattle.words.specs.Words.{low_numbers, survey_word, year_word}
use Rattle.steps.specs.Saved.{position_words}
use Rattle.steps.proofs.SavedWords.{position_length}
use Rattle.step_cursors.specs.Carried.{year_of}
use Rattle.step_cursors.specs.Held.{position_of}
use Rattle.step_cursors.proofs.Cursors.{upper_length as places_length}
use Rattle.state_saving.proofs.Storing.{both_first}
use Rattle.state_saving.proofs.saving.save.Goals as goal

-- a word holds a number below 2^28 whole
kept : (n : ℕ) → n < low_numbers → n % low_numbers ≡ n
kept n h = omega arith

pub bounds-state-1 : goal.bounds-state-1
bounds-state-1 c = simp length-set (omega arith)

pub overflow_add-result : goal.overflow_add-result
overflow_add-result c =
    let from = c.args.c in
    omega (arith, c.save_behind-behind.ensures.0, position_length (position_of from), places_length from.upper from.level, c.requires.0.level)

pub returns : goal.returns
returns c =
    let e = c.save_behind-behind.ensures in
    let buffer = c.args.state.now in
    let survey = c.survey.ensures ∙ ap survey_word (kept c.args.survey c.requires.1) in
    let year = c.year.ensures ∙ ap year_word (ap (λ n. n % low_numbers) c.value.ensures ∙ kept (year_of c.args.c) c.requires.0.year) in (
      omega (arith, e.0),
      ap₂ (λ w y. set (set (put_mid 2 (length buffer - 2) buffer c.save_behind-behind.new.state) 0 w) 1 y) survey year
          ∙ both_first (survey_word c.args.survey) (year_word (year_of c.args.c)) (position_words (position_of c.args.c)) c.save_behind-behind.new.state
          buffer (omega (arith, c.requires.2)) e.1,
    )
