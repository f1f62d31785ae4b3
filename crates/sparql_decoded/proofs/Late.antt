-- Lists that are merged late: where the query is done, what they come to in any order and grouping is SPARQL's answer, over numbers and over strings.
use Prim.Native.Nat.{ℕ}
use mathlib.Core.Path.{◌≡◌, ◌∙◌}
use mathlib.Core.Bool.{true}
use mathlib.Core.Option.{some}
use mathlib.Core.List.{List}
use Rattle.plans.specs.Plans.{plan_of}
use Rattle.steps.specs.Steps.{after}
use Rattle.turns.specs.Surveys.{Survey}
use Rattle.cuts.specs.Histories.{Phone, served_in, done_in}
use Rattle.cuts.specs.Premises.{lists_in}
use Rattle.cuts.specs.Uncut.{run_fits}
use Rattle.cuts.specs.Accepting.{Accepted}
use Rattle.merge_orders.specs.Ways.{Way, given}
use Rattle.merge_orders.specs.LateTurns.{GivesUncut, LateAsUncut}
use Rattle.sparql_finished.specs.Finished.{SparqlAnswer, SparqlAnswerOver}
use Rattle.sparql_finished.proofs.Finished.{run_answers}
use Rattle.sparql_strings.specs.Decoding.{read_decoded}
use Rattle.sparql_strings.specs.Strings.{Dictionaries, RightDictionaries, decoding}
use Rattle.sparql_decoded.proofs.Decoded.{answer_decoded}

module _ (v : Survey) (plan : List ℕ) (accepted : Accepted v.tables plan) (h : Phone) (late : LateAsUncut v plan h) where
  -- of a way that gives the uncut run's list (LateAsUncut says which do), where the totals of its groups are in their range
  pub late_answers : done_in (served_in h) ≡ true → run_fits (plan_of plan).ending (after v.tables (plan_of plan) late.reached) ≡ true
      → (w : Way) → GivesUncut v plan h late.reached w → (list : List ℕ) → given plan (lists_in (served_in h)) w ≡ some list
      → SparqlAnswer v.tables plan late.reached list
  late_answers done fits w gives list e =
      let f = late.finished done in run_answers v.tables plan accepted late.reached f.0 fits list (gives list e ∙ f.1)

  pub late_decoded : (d : Dictionaries) → RightDictionaries d
      → done_in (served_in h) ≡ true → run_fits (plan_of plan).ending (after v.tables (plan_of plan) late.reached) ≡ true
      → (w : Way) → GivesUncut v plan h late.reached w → (list : List ℕ) → given plan (lists_in (served_in h)) w ≡ some list
      → SparqlAnswerOver (read_decoded (decoding d) v.tables (plan_of plan)) v.tables plan late.reached list
  late_decoded d r done fits w gives list e =
      answer_decoded d r v.tables plan late.reached list (late_answers done fits w gives list e)
