-- Test 17 of both lists, by the entries of one list after the other.
use Prim.Native.Nat.{ℕ}
use mathlib.Core.Path.{◌≡◌, refl, sym, ◌∙◌, ap, subst}
use mathlib.Core.Bool.{Bool, true, false, ◌&&◌, ◌||◌, not}
use mathlib.Core.List.{List, [], ◌∷◌, ◌++◌}
use lib.Dec.{eqb}
use Rattle.sequences.specs.Sequences.{all, member, distinct}
use Rattle.sequences.proofs.Booleans.{absurd_true, and_left, and_right, and_both}
use Rattle.sequences.proofs.Elements.{same_test}
use Rattle.queues.specs.declared.Entry.{Entry}
use Rattle.queues.specs.Lists.{LentLists, line_of, aside_of, owners_in, owners, has_steps, has_none, entries_right}
use Rattle.queue_entries.specs.Entries.{steps_right, standing}

-- ---- no owner twice in two lists
abbrev apart : List ℕ → List ℕ → Bool
apart xs ys = all (λ (x : ℕ). not (member x ys)) xs

pub member_both : (a : ℕ) (xs ys : List ℕ) → member a (xs ++ ys) ≡ (member a xs || member a ys)
unfolding member
member_both a [] ys = refl
member_both a (x ∷ xs) ys = ap (λ (b : Bool). eqb a x || b) (member_both a xs ys) ∙ assoc (eqb a x) (member a xs) (member a ys)
  where
    assoc : (a b c : Bool) → (a || (b || c)) ≡ ((a || b) || c)
    assoc true b c = refl
    assoc false b c = refl

record EntriesApart (xs ys : List ℕ) : Type 0 where
  here : distinct xs ≡ true
  between : apart xs ys ≡ true
  there : distinct ys ≡ true

not_either : (a b : Bool) → not (a || b) ≡ true → (not a ≡ true) × (not b ≡ true)
not_either true b h = absurd_true h refl
not_either false b h = (refl, h)

neither : (a b : Bool) → not a ≡ true → not b ≡ true → not (a || b) ≡ true
neither true b h k = h
neither false b h k = k

split_distinct : (xs ys : List ℕ) → distinct (xs ++ ys) ≡ true → EntriesApart xs ys
unfolding distinct all
split_distinct [] ys h = record { here = refl; between = refl; there = h }
split_distinct (x ∷ xs) ys h =
    let r = split_distinct xs ys (and_right (not (member x (xs ++ ys))) (distinct (xs ++ ys)) h) in
    let n = not_either (member x xs) (member x ys)
    (subst (λ (b : Bool). not b ≡ true) (member_both x xs ys) (and_left (not (member x (xs ++ ys))) (distinct (xs ++ ys)) h)) in
    record {
      here = and_both (not (member x xs)) (distinct xs) n.0 r.here;
      between = and_both (not (member x ys)) (apart xs ys) n.1 r.between;
      there = r.there;
    }

join_distinct : (xs ys : List ℕ) → EntriesApart xs ys → distinct (xs ++ ys) ≡ true
unfolding distinct all
join_distinct [] ys a = a.there
join_distinct (x ∷ xs) ys a =
    let one = neither (member x xs) (member x ys) (and_left (not (member x xs)) (distinct xs) a.here)
    (and_left (not (member x ys)) (apart xs ys) a.between) in
    and_both (not (member x (xs ++ ys))) (distinct (xs ++ ys)) (subst (λ (b : Bool). not b ≡ true) (sym (member_both x xs ys)) one)
    (join_distinct xs ys (record {
      here = and_right (not (member x xs)) (distinct xs) a.here;
      between = and_right (not (member x ys)) (apart xs ys) a.between;
      there = a.there;
    }))

-- ---- one list
record StandsInLine (waiting : Bool) (es : List Entry) (others : List ℕ) : Type 0 where
  steps : all (steps_right waiting) es ≡ true
  once : distinct (owners_in es) ≡ true
  elsewhere : apart (owners_in es) others ≡ true

stands_so : (waiting : Bool) (es : List Entry) (others : List ℕ) → standing waiting es others ≡ true → StandsInLine waiting es others
unfolding standing distinct all
stands_so waiting [] others h = record { steps = refl; once = refl; elsewhere = refl }
stands_so waiting (e ∷ es) others h =
    let first = and_left (steps_right waiting e && (not (member e.owner (owners_in es)) && not (member e.owner others))) (standing waiting es others) h in
    let r = stands_so waiting es others
    (and_right (steps_right waiting e && (not (member e.owner (owners_in es)) && not (member e.owner others))) (standing waiting es others) h) in
    let new = and_right (steps_right waiting e) (not (member e.owner (owners_in es)) && not (member e.owner others)) first in
    record {
      steps = and_both (steps_right waiting e) (all (steps_right waiting) es)
          (and_left (steps_right waiting e) (not (member e.owner (owners_in es)) && not (member e.owner others)) first) r.steps;
      once = and_both (not (member e.owner (owners_in es))) (distinct (owners_in es))
          (and_left (not (member e.owner (owners_in es))) (not (member e.owner others)) new) r.once;
      elsewhere = and_both (not (member e.owner others)) (apart (owners_in es) others)
          (and_right (not (member e.owner (owners_in es))) (not (member e.owner others)) new) r.elsewhere;
    }

so_stands : (waiting : Bool) (es : List Entry) (others : List ℕ) → StandsInLine waiting es others → standing waiting es others ≡ true
unfolding standing distinct all
so_stands waiting [] others s = refl
so_stands waiting (e ∷ es) others s =
    and_both (steps_right waiting e && (not (member e.owner (owners_in es)) && not (member e.owner others))) (standing waiting es others)
    (and_both (steps_right waiting e) (not (member e.owner (owners_in es)) && not (member e.owner others))
    (and_left (steps_right waiting e) (all (steps_right waiting) es) s.steps)
    (and_both (not (member e.owner (owners_in es))) (not (member e.owner others))
    (and_left (not (member e.owner (owners_in es))) (distinct (owners_in es)) s.once)
    (and_left (not (member e.owner others)) (apart (owners_in es) others) s.elsewhere)))
    (so_stands waiting es others (record {
      steps = and_right (steps_right waiting e) (all (steps_right waiting) es) s.steps;
      once = and_right (not (member e.owner (owners_in es))) (distinct (owners_in es)) s.once;
      elsewhere = and_right (not (member e.owner others)) (apart (owners_in es) others) s.elsewhere;
    }))

-- ---- both lists
apart_none : (xs : List ℕ) → apart xs [] ≡ true
unfolding all member
apart_none [] = refl
apart_none (x ∷ xs) = apart_none xs

pub both_stand : (l : LentLists) → entries_right l ≡ (standing true (line_of l) (owners_in (aside_of l)) && standing false (aside_of l) [])
both_stand l = same_test (entries_right l) (first && second) to back
  where
    first : Bool
    first = standing true (line_of l) (owners_in (aside_of l))

    second : Bool
    second = standing false (aside_of l) []

    steps : Bool
    steps = all has_steps (line_of l) && all has_none (aside_of l)

    to : entries_right l ≡ true → first && second ≡ true
    to h =
        let a = split_distinct (owners_in (line_of l)) (owners_in (aside_of l)) (and_left (distinct (owners l)) steps h) in
        let s = and_right (distinct (owners l)) steps h in
        and_both first second
        (so_stands true (line_of l) (owners_in (aside_of l))
        (record { steps = and_left (all has_steps (line_of l)) (all has_none (aside_of l)) s; once = a.here; elsewhere = a.between }))
        (so_stands false (aside_of l) []
        (record {
          steps = and_right (all has_steps (line_of l)) (all has_none (aside_of l)) s;
          once = a.there;
          elsewhere = apart_none
              (owners_in (aside_of l));
        }))

    back : first && second ≡ true → entries_right l ≡ true
    back h =
        let a = stands_so true (line_of l) (owners_in (aside_of l)) (and_left first second h) in
        let b = stands_so false (aside_of l) [] (and_right first second h) in
        and_both (distinct (owners l)) steps
        (join_distinct (owners_in (line_of l)) (owners_in (aside_of l)) (record { here = a.once; between = a.elsewhere; there = b.once }))
        (and_both (all has_steps (line_of l)) (all has_none (aside_of l)) a.steps b.steps)
