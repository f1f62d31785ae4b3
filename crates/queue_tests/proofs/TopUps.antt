-- Topping up by places: the owner's entry at the place found is the one that the definition takes out.
use Prim.Native.Nat.{ℕ, zero, suc, ◌+◌, ◌-◌, ◌<◌, ◌≤◌}
use native.Mathlib.Omega.{arith}
use mathlib.Core.Path.{◌≡◌, refl, sym, ◌∙◌, ap, subst}
use mathlib.Core.Bool.{Bool, true, false, ◌&&◌, not}
use mathlib.Core.Option.{none}
use mathlib.Core.List.{List, [], ◌∷◌, ◌++◌, map}
use lib.Dec.{leb, ltb}
use lib.ListN.{length, take, drop, get_or, length-append, length-drop}
use lib.Seq.{take-take, get_or-take, length-take-le}
use borrow.Author.Tests.{eq-eqb, ne_eqb, ltb-true, not-true}
use Rattle.sequences.specs.Sequences.{keep, member, distinct}
use Rattle.words.specs.Tests.{first_failing, number_of}
use Rattle.calls.specs.Calls.{result_by_number, result_of_call}
use Rattle.sequences.proofs.Booleans.{absurd_true, and_left, and_right}
use Rattle.words.proofs.Numbering.{one_fails}
use Rattle.queues.specs.declared.Entry.{Entry}
use Rattle.queues.specs.declared.Queued.TheVariants.{Lists}
use Rattle.queues.specs.Lists.{LentLists, lent_as, line_of, aside_of, owners_in, owners, has_owner, entries_over}
use Rattle.queues.specs.ToppingUp.{not_owner, top_up_tests_by, top_up_tests, with_allowance, top_up_schema, top_up_of}
use Rattle.queues.proofs.Moving.{kept_none, distinct_right}
use Rattle.queue_entries.specs.declared.Seen.{Seen}
use Rattle.queue_entries.specs.Entries.{nobody}
use Rattle.queue_entries.specs.Seeing.{SeenOf}
use Rattle.queue_entries.proofs.Finding.{there_is}
use Rattle.queue_entries.proofs.Placing.{settled_added, settled_gone}
use Rattle.queue_changes.specs.Changes.{room_by, queueing_refused, topped_by, Decides}
use Rattle.queue_changes.proofs.Numbering.{both_passed}
use Rattle.queue_changes.proofs.Seeing.{seen_entries, seen_room, seen_aside, Roomy, roomy}

-- ---- the owner's one entry
record Out (owner : ℕ) (es : List Entry) (k : ℕ) : Type 0 where
  taken : keep (has_owner owner) es ≡ get_or es k nobody ∷ []
  others : keep (not_owner owner) es ≡ take k es ++ drop (suc k) es

taken_out : (owner : ℕ) (es : List Entry) (k : ℕ) → k < length es → (get_or es k nobody).owner ≡ owner → distinct (owners_in es) ≡ true
    → Out owner es k
unfolding keep distinct
taken_out owner [] k l e d = absurd (omega arith)
taken_out owner (x ∷ es) zero l e d =
    let none = subst (λ (o : ℕ). member o (owners_in es) ≡ false) e
    (not-true (member x.owner (owners_in es)) (and_left (not (member x.owner (owners_in es))) (distinct (owners_in es)) d)) in
    let its = eq-eqb x.owner owner e in
    let rest = kept_none owner es none in
    record { taken = rw its (ap (λ (xs : List Entry). x ∷ xs) rest.0); others = rw its rest.1 }
taken_out owner (x ∷ es) (suc k) l e d =
    let again = taken_out owner es k (omega arith) e (and_right (not (member x.owner (owners_in es))) (distinct (owners_in es)) d) in
    let other = ne_eqb x.owner owner
    (λ f. absurd_true (there_is owner es k (omega arith) e)
    (subst (λ (o : ℕ). member o (owners_in es) ≡ false) f
    (not-true (member x.owner (owners_in es)) (and_left (not (member x.owner (owners_in es))) (distinct (owners_in es)) d)))) in
    record { taken = rw other again.taken; others = rw other (ap (λ (xs : List Entry). x ∷ xs) again.others) }

drop_take : (m n : ℕ) (es : List Entry) → drop m (take n es) ≡ take (n - m) (drop m es)
drop_take zero n es = ap (λ (k : ℕ). take k es) (let z : n ≡ n - 0 = omega arith in z)
drop_take (suc m) zero es = ap (λ (k : ℕ). take k (drop (suc m) es)) (let z : 0 ≡ 0 - suc m = omega arith in z)
drop_take (suc m) (suc n) [] = by_count (suc n - suc m)
  where
    by_count : (k : ℕ) → ◌≡◌ {A = List Entry} [] (take k [])
    by_count zero = refl
    by_count (suc k) = refl
drop_take (suc m) (suc n) (x ∷ es) =
    drop_take m n es ∙ ap (λ (k : ℕ). take k (drop m es)) (let z : n - m ≡ suc n - suc m = omega arith in z)

-- ---- a call that passes its tests
module _ (seen : Seen) (given kept amount : ℕ)
    (passed : number_of (first_failing (top_up_tests_by ((seen.lined && seen.rested) && (leb 1 amount && ltb seen.found seen.resting))
    (room_by seen.room seen.spare given kept 0))) ≡ 0) where
  abbrev lists : Bool
  lists = seen.lined && seen.rested

  abbrev found : Bool
  found = ltb seen.found seen.resting

  both : ((lists && (leb 1 amount && found)) ≡ true) × (room_by seen.room seen.spare given kept 0 ≡ true)
  both = both_passed (lists && (leb 1 amount && found)) (room_by seen.room seen.spare given kept 0) passed

  pub passed_room : Roomy seen.room seen.spare given kept 0
  passed_room = roomy seen.room seen.spare given kept 0 both.1

  pub passed_entries : seen.found < seen.resting
  passed_entries = ltb-true seen.found seen.resting (and_right (leb 1 amount) found (and_right lists (leb 1 amount && found) both.0))

-- ---- the call
module _ (line : List Entry) (given : ℕ) (aside : List Entry) (kept owner amount : ℕ) (seen : Seen)
    (is : SeenOf (lent_as line given aside kept) owner seen) where
  abbrev l : LentLists
  l = lent_as line given aside kept

  abbrev entries : Bool
  entries = (seen.lined && seen.rested) && (leb 1 amount && ltb seen.found seen.resting)

  abbrev room : Bool
  room = room_by seen.room seen.spare given kept 0

  same_tests : first_failing (top_up_tests_by entries room) ≡ first_failing (top_up_tests l owner amount)
  same_tests =
      λ i. first_failing
      (top_up_tests_by (seen_entries line given aside kept owner seen is i && (leb 1 amount && seen_aside line given aside kept owner seen is i))
      (seen_room line given aside kept owner seen is 0 i))

  pub top_up_refuses : (n : ℕ) → n ≡ number_of (first_failing (top_up_tests_by entries room)) → (n ≡ 0 → ⊥)
      → Decides l (queueing_refused n) (top_up_of l owner amount)
  unfolding result_of_call
  top_up_refuses n e h =
      record {
        line = ((λ z. absurd (omega arith)), (λ z. absurd_true z refl));
        aside = ((λ z. absurd (omega arith)), (λ z. absurd_true z refl));
        result = sym (ap (result_by_number (top_up_schema l) (owner, amount))
            (sym same_tests ∙ one_fails (first_failing (top_up_tests_by entries room)) n e h));
      }

  -- all tests pass
  module _ (passed : number_of (first_failing (top_up_tests_by entries room)) ≡ 0) where
    entries_pass : entries ≡ true
    entries_pass = (both_passed entries room passed).0

    none_fails : first_failing (top_up_tests l owner amount) ≡ none
    unfolding first_failing
    none_fails = sym same_tests ∙ (λ i. first_failing (top_up_tests_by (entries_pass i) ((both_passed entries room passed).1 i)))

    lists_right_lem : (seen.lined && seen.rested) ≡ true
    lists_right_lem = and_left (seen.lined && seen.rested) (leb 1 amount && ltb seen.found seen.resting) entries_pass

    found_in_lem : seen.found < seen.resting
    found_in_lem = passed_entries seen given kept amount passed

    top_up_roomy : Roomy seen.room seen.spare given kept 0
    top_up_roomy = passed_room seen given kept amount passed

    module _ (e : Entry) (its : e ≡ get_or aside seen.found nobody) (within : seen.resting ≤ kept) where
      abbrev k : ℕ
      k = seen.found

      abbrev e' : Entry
      e' = with_allowance amount e

      line_long : given < length line
      line_long = let r = top_up_roomy in let n : seen.room ≡ length line = is.room in let g = r.line in let h = r.entries in let f = found_in_lem in
          omega arith

      aside_long : kept ≤ length aside
      aside_long = let r = top_up_roomy in let n : seen.spare ≡ length aside = is.spare in let g = r.aside in let h = r.entries in omega arith

      k_kept : k < kept
      k_kept = let f = found_in_lem in omega arith

      once : distinct (owners_in (take kept aside)) ≡ true
      once =
          distinct_right (owners_in (take given line)) (owners_in (take kept aside))
          (and_left (distinct (owners l)) _ (sym (seen_entries line given aside kept owner seen is) ∙ lists_right_lem))

      at_k : get_or (take kept aside) k nobody ≡ e
      at_k = get_or-take kept aside k nobody k_kept ∙ sym its

      out : Out owner (take kept aside) k
      out =
          taken_out owner (take kept aside) k (rw (length-take-le kept aside aside_long) k_kept)
          (ap (λ (x : Entry). x.owner) (get_or-take kept aside k nobody k_kept) ∙ is.found.its found_in_lem) once

      new_line : line_of l ++ map (with_allowance amount) (keep (has_owner owner) (aside_of l)) ≡ take given line ++ (e' ∷ [])
      new_line =
          ap (λ (xs : List Entry). take given line ++ map (with_allowance amount) xs) (out.taken ∙ ap (λ (x : Entry). x ∷ []) at_k)

      abbrev rest : List Entry
      rest = take k aside ++ take (kept - 1 - k) (drop (k + 1) aside)

      new_aside : keep (not_owner owner) (aside_of l) ≡ rest
      new_aside =
          out.others
          ∙ (λ i. take-take k kept aside (let z : k ≤ kept = omega (arith, k_kept) in z) i
          ++ (drop_take (suc k) kept aside
          ∙ (λ j. take ((let z : kept - suc k ≡ kept - 1 - k = omega arith in z) j) (drop ((let z : suc k ≡ k + 1 = omega arith in z) j) aside))) i)

      line_count : given + 1 ≡ length (line_of l ++ map (with_allowance amount) (keep (has_owner owner) (aside_of l)))
      line_count =
          sym (ap length new_line ∙ length-append (take given line) (e' ∷ [])
          ∙ ap (λ (n : ℕ). n + 1) (length-take-le given line (let z : given ≤ length line = omega (arith, line_long) in z)))

      aside_count : kept - 1 ≡ length (keep (not_owner owner) (aside_of l))
      aside_count =
          sym (ap length new_aside ∙ length-append (take k aside) (take (kept - 1 - k) (drop (k + 1) aside))
          ∙ (λ i. length-take-le k aside (let z : k ≤ length aside = omega (arith, k_kept, aside_long) in z) i
          + length-take-le (kept - 1 - k) (drop (k + 1) aside)
          (let z : kept - 1 - k ≤ length (drop (k + 1) aside) = rw (length-drop (k + 1) aside) (omega (arith, k_kept, aside_long)) in z) i)
          ∙ (let z : k + (kept - 1 - k) ≡ kept - 1 = omega (arith, k_kept) in z))

      pub top_up_accepts : Decides l (topped_by k given kept e') (top_up_of l owner amount)
      unfolding result_of_call
      top_up_accepts =
          record {
            line = ((λ z. absurd (omega arith)), (λ z. line_long));
            aside = ((λ z. omega (arith, k_kept, aside_long)), (λ z. absurd_true z refl));
            result = (λ i. record {
              answer = Lists (line_count i) (aside_count i);
              buffers = record {
                line = (settled_added line e' given line_long ∙ ap (λ (es : List Entry). entries_over es line) (sym new_line)) i;
                aside = (settled_gone aside e' k kept k_kept aside_long ∙ ap (λ (es : List Entry). entries_over es aside) (sym new_aside)) i;
              };
            })
                ∙ ap (result_by_number (top_up_schema l) (owner, amount)) (sym none_fails);
          }
