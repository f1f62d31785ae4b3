-- After done every turn is refused: done leaves no state words, and no words are refused by 9 at the latest.
use Prim.Native.Nat.{ℕ}
use native.Mathlib.Omega.{arith}
use mathlib.Core.Path.{◌≡◌, refl, sym, ◌∙◌, ap}
use mathlib.Core.Bool.{Bool, true, false, ◌&&◌}
use mathlib.Core.List.{[]}
use lib.Dec.{leb}
use lib.ListN.{length, take}
use Rattle.words.proofs.Testing.{some_injective, test_numbered, some_fails, fails_at, fails_first}
use Rattle.tables.specs.Tables.{Tables}
use Rattle.plans.specs.Plans.{Plan}
use Rattle.steps.specs.Saved.{shape_right}
use Rattle.turns.specs.declared.TurnEnding.TheVariants.{Done}
use Rattle.turns.specs.Turns.{TurnInput, given_plan, turn_tests, turn_of}
use Rattle.turns.specs.Refusals.{Served}
use Rattle.turns.specs.AfterDone.{NoStateRefused, EveryTurnRefused}
use Rattle.turns.proofs.Refusals.{turn_refusals}
use Rattle.turns.proofs.Endings.{endings}

-- no words have the shape of no state
pub no_shape : (t : Tables) (q : Plan) → shape_right t q [] ≡ false
no_shape t q = refl

fails_right : (a b : Bool) → b ≡ false → a && b ≡ false
fails_right true b e = e
fails_right false b e = refl

-- so test 9 fails
state_fails : (j : TurnInput) → j.given ≡ 0 → test_numbered 9 (turn_tests j) ≡ false
state_fails j e =
    fails_right (leb j.given (length j.state)) (shape_right j.survey.tables (given_plan j) (take j.given j.state))
    (ap (λ n. shape_right j.survey.tables (given_plan j) (take n j.state)) e ∙ no_shape j.survey.tables (given_plan j))

pub no_state_refused : (j : TurnInput) → j.given ≡ 0 → NoStateRefused j
no_state_refused j e =
    let f = some_fails 9 (turn_tests j) (state_fails j e) in
    let r = ((turn_refusals j).refused f.0).1 f.1 in
    record {
      number = f.0;
      refused = r;
      first = f.1;
      nine = λ p. some_injective
          (sym (fails_first f.0 (turn_tests j) f.1) ∙ fails_first 9 (turn_tests j) (fails_at 9 (turn_tests j) (state_fails j e) p));
      unchanged = (turn_refusals j).unchanged f.0 r;
    }

pub done_refuses_every_turn : (i : TurnInput) → (turn_of i).answer.ending ≡ Done → EveryTurnRefused i
done_refuses_every_turn i e =
    let serve : Served i = λ y f. let z : ◌≡◌ {A = ℕ} 0 1 = cc in omega arith in
    let none_left = ((endings i serve).done.0 e).no_state in
    record { no_words = none_left; refuses = λ j g. no_state_refused j (g ∙ none_left) }
