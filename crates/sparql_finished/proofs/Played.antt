-- Demands 2 and 3 of the calls themselves: a play that answers finished leaves SPARQL's rows, best-of list or groups of its tables and
-- its plan in the kept buffer, whatever the quantum, the output and the number of turns.
use Prim.Native.Nat.{ℕ}
use mathlib.Core.Path.{◌≡◌, sym, ◌∙◌, ap, ap₂, subst}
use mathlib.Core.List.{List}
use lib.ListN.{take, drop}
use Rattle.sequences.proofs.Buffers.{take_over, drop_over}
use Rattle.plans.specs.Plans.{plan_of}
use Rattle.turns.specs.Surveys.{Survey}
use Rattle.cuts.proofs.Accepting.{opening_accepts, accepted_form}
use Rattle.cuts.proofs.Chains.{kept_some}
use Rattle.cuts.proofs.Keeping.{end_later}
use Rattle.queries.specs.declared.Keeping.TheVariants.{All}
use Rattle.queries.specs.declared.Played.TheVariants as played
use Rattle.queries.specs.Rounds.{Lent, play_of}
use Rattle.queries.specs.Playing.{list_after, Plays}
use Rattle.queries.proofs.Plays.{plays}
use Rattle.sparql_finished.specs.Finished.{PlayedOut}
use Rattle.sparql_finished.proofs.Finished.{run_answers}

by_plays : (v : Survey) (plan : List ℕ) (quantum most : ℕ) (before left : Lent) (words : ℕ)
    → Plays All v plan quantum most before left (played.Finished words) → PlayedOut v.tables plan before.kept left.kept words
by_plays v plan quantum most before left words p =
    let n = p.1.steps in
    let l = p.1.list in
    let a = opening_accepts v plan before.state p.0 in
    record {
      steps = n;
      front =
          run_answers v.tables plan a n p.1.ends l.fits (take words left.kept)
          (ap₂ take l.counted l.whole
          ∙ take_over (list_after v.tables plan n) before.kept
          ∙ kept_some v.tables (plan_of plan) (accepted_form v.tables plan a).ending n (end_later v.tables (plan_of plan) n p.1.ends));
      rest =
          ap₂ drop l.counted l.whole
          ∙ drop_over (list_after v.tables plan n) before.kept
          ∙ ap (λ d. drop d before.kept) (sym l.counted);
    }

pub played_out : (v : Survey) (plan : List ℕ) (quantum most : ℕ) (before : Lent) (words : ℕ)
    → (play_of All v plan quantum most before).answer ≡ played.Finished words
    → PlayedOut v.tables plan before.kept (play_of All v plan quantum most before).held.kept words
played_out v plan quantum most before words e =
    let left = (play_of All v plan quantum most before).held in
    by_plays v plan quantum most before left words (subst (Plays All v plan quantum most before left) e (plays All v plan quantum most before))
