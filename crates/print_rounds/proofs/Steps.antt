-- A turn from where a query stands, as the printer uses it: it is one of the uncut run, and its list is in the output.
use Prim.Native.Nat.{ℕ, ◌+◌, ◌≤◌}
use native.Mathlib.Omega.{arith}
use mathlib.Core.Path.{◌≡◌, sym, ◌∙◌, ap}
use mathlib.Core.Bool.{true}
use mathlib.Core.List.{List, []}
use lib.ListN.{length, take}
use Rattle.turns.specs.declared.Turned.{Turned}
use Rattle.turns.specs.Turns.{TurnInput, turn_of}
use Rattle.cuts.proofs.Accepting.{opening_accepts}
use Rattle.queries.specs.declared.Keeping.TheVariants.{Merged}
use Rattle.queries.specs.declared.Step.{Step}
use Rattle.queries.specs.Stepping.{is_served, take_turn_of}
use Rattle.queries.specs.Playing.{StandsAfter, Shows}
use Rattle.queries.proofs.Taking.{step_turned, step_output}
use Rattle.queries.proofs.Showing.{shows}
use Rattle.print_writing.specs.Shown.{CanOpen}
use Rattle.print_showing.proofs.TurnLists.{listed_room}

module _ (i : TurnInput) (kept : List ℕ) (used : ℕ) (r : Step) (state out left : List ℕ)
    (h : record { answer = r; state = state; output = out; kept = left } ≡ take_turn_of Merged i kept used) where
  turned_is : r.turned ≡ (turn_of i).answer
  turned_is = step_turned Merged i kept used r state out left h

  output_is : out ≡ (turn_of i).buffers.output
  output_is = step_output Merged i kept used r state out left h

  pub list_room : r.turned.listed ≤ length out
  list_room = omega (arith, listed_room i, ap length output_is, ap (λ (x : Turned). x.listed) turned_is)

  -- with no threshold, after `made` turns
  module _ (none_sent : i.threshold ≡ []) (made : ℕ) (o : CanOpen i.survey i.plan)
      (s : StandsAfter i.survey i.plan i.quantum (length i.output) made i.state i.given) where
    pub turn_shown : is_served r.turned.ending ≡ true
        → Shows i.survey.tables i.plan i.quantum (length i.output) (made + 1) r.turned (take r.turned.listed out)
    turn_shown f =
        let g : is_served (turn_of i).answer.ending ≡ true = ap (λ (x : Turned). is_served x.ending) (sym turned_is) ∙ f in
        rw (turned_is, output_is) (shows i (opening_accepts i.survey i.plan o.0 o.1) none_sent made s g)
