-- What is shown of a query: each turn is the uncut run's, its lists taken one after another make the run's list, and what is kept at the end is
-- whole.
use Prim.Native.Nat.{ℕ, ◌+◌, ◌-◌}
use native.Mathlib.Omega.{arith}
use mathlib.Core.Path.{◌≡◌, refl, sym, ◌∙◌, ap, ap₂}
use mathlib.Core.Bool.{true}
use mathlib.Core.Option.{Option, none, some}
use mathlib.Core.List.{List, [], ◌++◌}
use lib.ListN.{length, take, drop}
use lib.Seq.{drop-append_seam}
use Rattle.sequences.proofs.Buffers.{take_over}
use Rattle.tables.specs.Tables.{Tables}
use Rattle.plans.specs.Plans.{plan_of}
use Rattle.steps.specs.Steps.{State, after}
use Rattle.steps.specs.Saved.{saved_words}
use Rattle.lists.specs.Gathering.{taken_into}
use Rattle.lists.specs.Closing.{list_at}
use Rattle.lists.proofs.TopLists.{fine_none}
use Rattle.lists.proofs.OneRow.{none_taken}
use Rattle.lists.proofs.Closing.{at_adds}
use Rattle.turns.specs.Turns.{is_over, TurnInput, given_plan, turn_of}
use Rattle.cuts.specs.Uncut.{kept_after}
use Rattle.cuts.specs.Accepting.{Accepted}
use Rattle.cuts.proofs.Accepting.{accepted_form}
use Rattle.cuts.proofs.Chains.{kept_going, kept_some}
use Rattle.queries.specs.declared.Keeping.{Keeping}
use Rattle.queries.specs.Stepping.{is_served, output_list}
use Rattle.queries.specs.Playing.{list_after, part_after, list_between, Turn, StandsAfter, Finishes, Shows, IsWhole}
use Rattle.queries.proofs.Taking.{is_served_lem}
use Rattle.queries.proofs.Making.{turn_made, ending_made, list_made}
use Rattle.queries.proofs.Lengths.{rows_later}
use Rattle.queries.proofs.Once.{turn_going}

some_state : (o : Option State) → ¬ (o ≡ none) → (s : State) × (o ≡ some s)
some_state none f = absurd (f refl)
some_state (some s) f = (s, refl)

-- a turn from where a query stands, with no threshold
pub shows : (i : TurnInput) → Accepted i.survey.tables i.plan → i.threshold ≡ [] → (count : ℕ)
    → StandsAfter i.survey i.plan i.quantum (length i.output) count i.state i.given → is_served (turn_of i).answer.ending ≡ true
    → Shows i.survey.tables i.plan i.quantum (length i.output) (count + 1) (turn_of i).answer (output_list (turn_of i))
shows i a none_sent count s served =
    let n = s.steps in
    let here = some_state (after i.survey.tables (given_plan i) n).state s.going in
    let words = s.state_words_fact ∙ ap (saved_words i.survey.number) here.1 in
    let serve = is_served_lem i served in
    record {
      count = count;
      from = n;
      to = n + (turn_of i).answer.steps;
      numbered = refl;
      earlier = s.made;
      turn = turn_made i a n here.0 here.1 words none_sent serve;
      steps = refl;
      ending = ending_made i a n here.0 here.1 words none_sent serve;
      listed = list_made i a n here.0 here.1 words none_sent serve;
    }

-- the list up to a turn and the list of the turn make the list up to its end: rows joined, any other merged
pub shown_adds : (t : Tables) (plan : List ℕ) → Accepted t plan → (quantum room from to : ℕ) → Turn t plan quantum room from to
    → taken_into (plan_of plan).ending (list_after t plan from) (list_between t plan from to) ≡ list_after t plan to
shown_adds t plan a quantum room from to x =
    let q = plan_of plan in
    let e = q.ending in
    let form = (accepted_form t plan a).ending in
    let rows = (after t q from).delivered in
    let over = is_over (after t q to).state in
    let d : from + (to - from) ≡ to = omega (arith, x.further) in
    let more = rows_later t plan a from (to - from) in
    let all : (after t q to).delivered ≡ rows ++ more.0 = ap (λ n. (after t q n).delivered) (sym d) ∙ more.1 in
    let new = ap (drop (length rows)) all ∙ drop-append_seam rows more.0 in
    ap (λ bs. taken_into e (kept_after t q from) (list_at e [] over bs)) new
    ∙ kept_going t q form (λ l. taken_into e l (list_at e [] over more.0)) (none_taken e _) from (turn_going t plan a quantum room from to x)
    ∙ at_adds e form [] over rows more.0 (fine_none e rows)
    ∙ ap (list_at e [] over) (sym all)
    ∙ sym (kept_some t q form to (omega (arith, x.further)))

-- what a finished play keeps
pub kept_at_end : (keep : Keeping) (t : Tables) (plan : List ℕ) (quantum most room : ℕ) (before kept : List ℕ) (words : ℕ)
    → Finishes keep t plan quantum most room before kept words → IsWhole keep t plan (take words kept)
kept_at_end keep t plan quantum most room before kept words f =
    record {
      steps = f.steps;
      ends = f.ends;
      listed = ap₂ take f.list.counted f.list.whole ∙ take_over (part_after keep t plan f.steps) before;
    }
