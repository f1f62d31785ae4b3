-- A join is served of an owner that has no entry: 17 refuses the others.
use Prim.Native.Nat.{ℕ}
use mathlib.Core.Path.{◌≡◌, refl, sym, subst}
use mathlib.Core.Bool.{Bool, true, false, not}
use mathlib.Core.Option.{none}
use mathlib.Core.List.{List, [], ◌∷◌, ◌++◌}
use lib.Dec.{eqb}
use borrow.Author.Tests.{not-true}
use Rattle.sequences.specs.Sequences.{member}
use Rattle.words.specs.Tests.{Test, first_failing}
use Rattle.words.proofs.Numbering.{both_pass}
use Rattle.sequences.proofs.Booleans.{and_right, or_left, or_right}
use Rattle.words.proofs.Testing.{none_some}
use Rattle.tables.specs.Tables.{table_tests}
use Rattle.plans.specs.Plans.{plan_tests}
use Rattle.turns.specs.Surveys.{Survey}
use Rattle.queues.specs.Lists.{LentLists, line_of, aside_of, owners_in, owners, entries_right, Queue}
use Rattle.queues.specs.Joining.{Joining, join_tests}
use Rattle.queues.specs.Calls.{MadeCall, lent_to}
use Rattle.queue_cuts.specs.Owners.{NoneOf}
use Rattle.queues.proofs.Moving.{line_lent, aside_lent, first_passes}

not_there : (owner : ℕ) (xs ys : List ℕ) → member owner (xs ++ ys) ≡ false → (member owner xs ≡ false) × (member owner ys ≡ false)
unfolding member
not_there owner [] ys h = (refl, h)
not_there owner (x ∷ xs) ys h =
    let a = or_left (eqb owner x) (member owner (xs ++ ys)) h in
    let r = not_there owner xs ys (or_right (eqb owner x) (member owner (xs ++ ys)) h) in
    (rw (a, r.0), r.1)

after_first_lem : (x : ℕ) (b : Bool) (xs : List Test) → first_failing ((x, b) ∷ xs) ≡ none → first_failing xs ≡ none
unfolding first_failing
after_first_lem x true xs h = h
after_first_lem x false xs h = absurd (none_some (sym h))

pub comes_new : (v : Survey) (q : Queue) (m : MadeCall) (j : Joining) → first_failing (join_tests v (lent_to q m) j) ≡ none
    → NoneOf j.owner q.line × NoneOf j.owner q.aside
comes_new v q m j passed = (subst (NoneOf j.owner) (line_lent q m) both.0, subst (NoneOf j.owner) (aside_lent q m) both.1)
  where
    l : LentLists
    l = lent_to q m

    free : member j.owner (owners l) ≡ false
    free =
        let behind-tables = (both_pass (table_tests v.tables) _ passed).1 in
        let behind-plan = (both_pass (plan_tests j.plan) _ behind-tables).1 in
        let seventeen = first_passes _ 17 _ (after_first_lem 10 _ _ (after_first_lem 22 _ _ (after_first_lem 9 _ _ behind-plan))) in
        not-true (member j.owner (owners l)) (and_right (entries_right l) (not (member j.owner (owners l))) seventeen)

    both : (member j.owner (owners_in (line_of l)) ≡ false) × (member j.owner (owners_in (aside_of l)) ≡ false)
    both = not_there j.owner (owners_in (line_of l)) (owners_in (aside_of l)) free
