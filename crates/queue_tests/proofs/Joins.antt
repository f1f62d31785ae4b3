-- Joining by places: the entry's words, and the end of the list that it goes to.
use Prim.Native.Nat.{ℕ, zero, suc, ◌+◌, ◌-◌, ◌<◌, ◌≤◌}
use native.Mathlib.Omega.{arith}
use mathlib.Core.Path.{◌≡◌, refl, sym, ◌∙◌, ap, subst}
use mathlib.Core.Bool.{Bool, true, false, cond, ◌&&◌, ◌||◌, not}
use mathlib.Core.Option.{Option, none}
use mathlib.Core.List.{List, [], ◌∷◌, ◌++◌}
use lib.Dec.{ltb, eqb}
use lib.ListN.{length, take, drop, get_or, replicate, length-append, length-drop}
use lib.Seq.{take-length, length-take-le, paste}
use Rattle.sequences.specs.Sequences.{all, member}
use Rattle.words.specs.Tests.{first_failing, number_of, AllPass}
use Rattle.calls.specs.Calls.{result_by_number, result_of_call}
use Rattle.sequences.proofs.Booleans.{absurd_true, and_right}
use Rattle.words.proofs.Numbering.{none_fails, one_fails}
use Rattle.words.proofs.Testing.{passes_all, test_passed}
use Rattle.tables.specs.Tables.{Tables}
use Rattle.plans.specs.Plans.{read_plan, has_form, plan_of}
use Rattle.plans.proofs.PlanRead.{plan_in_lem}
use Rattle.steps.specs.Years.{is_year_read}
use Rattle.steps.specs.Saved.{least_state_words, is_survey, is_year, year_in, shape_behind, shape_right}
use Rattle.state_saving.proofs.Loads.{whole}
use Rattle.turns.specs.Surveys.{Survey}
use Rattle.queues.specs.declared.Entry.{Entry}
use Rattle.queues.specs.declared.Queued.TheVariants.{Lists}
use Rattle.queues.specs.Lists.{LentLists, lent_as, line_of, aside_of, owners_in, owners, filled, entry_plan_room, entry_state_room}
use Rattle.queues.specs.Changing.{lists_with}
use Rattle.queues.specs.Joining.{Joining, join_tests, join_tests_by, new_entry, join_schema, join_queue_of}
use Rattle.queues.specs.ToppingUp.{top_up_tests_by}
use Rattle.queue_entries.specs.declared.Seen.{Seen}
use Rattle.queue_entries.specs.Seeing.{SeenOf}
use Rattle.queue_entries.proofs.Standing.{member_both}
use Rattle.queue_entries.proofs.Placing.{settled_added, stays}
use Rattle.queue_changes.specs.Changes.{room_by, first_number, queueing_refused, admitted_by, Decides}
use Rattle.queue_changes.proofs.Following.{numbers_follow}
use Rattle.queue_changes.proofs.Seeing.{seen_entries, seen_room, seen_line, seen_aside, Roomy, roomy}
use Rattle.queue_tests.specs.Queries.{query_tests}

-- ---- an entry's words
drop_zeros : (k n : ℕ) → drop {A = ℕ} k (replicate n 0) ≡ replicate (n - k) 0
drop_zeros zero n = ap (λ (m : ℕ). replicate {A = ℕ} m 0) (let z : n ≡ n - 0 = omega arith in z)
drop_zeros (suc k) zero = ap (λ (m : ℕ). replicate {A = ℕ} m 0) (let z : 0 ≡ 0 - suc k = omega arith in z)
drop_zeros (suc k) (suc n) = drop_zeros k n ∙ ap (λ (m : ℕ). replicate {A = ℕ} m 0) (let z : n - k ≡ suc n - suc k = omega arith in z)

pub pasted : (n : ℕ) (ws : List ℕ) → paste (replicate n 0) 0 ws (length ws) ≡ filled n ws
pasted n ws = λ i. take-length ws i ++ (ap (λ (k : ℕ). drop {A = ℕ} k (replicate n 0)) (let z : 0 + length ws ≡ length ws = omega arith in z)
    ∙ drop_zeros (length ws) n) i

-- a state that has the shape is short enough
state_short : (t : Tables) (plan ws : List ℕ) → has_form (read_plan plan) ≡ true → shape_right t (plan_of plan) ws ≡ true
    → length ws ≤ least_state_words
state_short t plan ws h e =
    let q = plan_of plan in
    let y = and_right (is_survey (get_or ws 0 0)) _ e in
    let r = and_right (is_year (get_or ws 1 0)) _ y in
    let f = (whole plan (drop 2 ws) h (and_right (is_year_read t q.years (year_in ws)) (shape_behind q (drop 2 ws)) r)).few in
    let l = length-drop 2 ws in
    omega arith

-- ---- tests
not_either : (a b : Bool) → not (a || b) ≡ (not a && not b)
not_either true b = refl
not_either false b = refl

module _ (v : Survey) (line : List Entry) (given : ℕ) (aside : List Entry) (kept : ℕ) (j : Joining) (seen : Seen)
    (is : SeenOf (lent_as line given aside kept) j.owner seen) where
  abbrev l : LentLists
  l = lent_as line given aside kept

  abbrev entries : Bool
  entries = (seen.lined && seen.rested) && (not (ltb seen.place seen.waiting) && not (ltb seen.found seen.resting))

  abbrev room : Bool
  room = room_by seen.room seen.spare given kept 1

  free : (not (ltb seen.place seen.waiting) && not (ltb seen.found seen.resting)) ≡ not (member j.owner (owners l))
  free =
      (λ i. not (seen_line line given aside kept j.owner seen is i) && not (seen_aside line given aside kept j.owner seen is i))
      ∙ sym (not_either (member j.owner (owners_in (take given line))) (member j.owner (owners_in (take kept aside))))
      ∙ ap not (sym (member_both j.owner (owners_in (take given line)) (owners_in (take kept aside))))

  same_tests : first_failing (join_tests_by v j.plan j.state entries room) ≡ first_failing (join_tests v l j)
  same_tests =
      λ i. first_failing (join_tests_by v j.plan j.state (seen_entries line given aside kept j.owner seen is i && free i)
      (seen_room line given aside kept j.owner seen is 1 i))

  pub join_refuses : (n : ℕ) → n ≡ number_of (first_failing (join_tests_by v j.plan j.state entries room)) → (n ≡ 0 → ⊥)
      → Decides l (queueing_refused n) (join_queue_of v l j)
  unfolding result_of_call
  join_refuses n e h =
      record {
        line = ((λ z. absurd (omega arith)), (λ z. absurd_true z refl));
        aside = ((λ z. absurd (omega arith)), (λ z. absurd_true z refl));
        result = sym (ap (result_by_number (join_schema v l) j)
            (sym same_tests ∙ one_fails (first_failing (join_tests_by v j.plan j.state entries room)) n e h));
      }

-- the number that the code puts together
pub join_number : (v : Survey) (plan state : List ℕ) (entries room : Bool) (n query late : ℕ) → n ≡ first_number query late
    → query ≡ number_of (first_failing (query_tests v plan state)) → late ≡ number_of (first_failing (top_up_tests_by entries room))
    → n ≡ number_of (first_failing (join_tests_by v plan state entries room))
unfolding all
join_number v plan state entries room n query late e f g =
    e ∙ (λ i. first_number (f i) (g i)) ∙ numbers_follow (query_tests v plan state) (top_up_tests_by entries room) refl

-- ---- a call that passes its tests
module _ (v : Survey) (plan state : List ℕ) (entries : Bool) (seen : Seen) (given kept : ℕ)
    (passed : number_of (first_failing (join_tests_by v plan state entries (room_by seen.room seen.spare given kept 1))) ≡ 0) where
  all_pass : AllPass (join_tests_by v plan state entries (room_by seen.room seen.spare given kept 1))
  unfolding all
  all_pass = passes_all _ (none_fails (join_tests_by v plan state entries (room_by seen.room seen.spare given kept 1)) refl passed)

  pub joined_none : first_failing (join_tests_by v plan state entries (room_by seen.room seen.spare given kept 1)) ≡ none
  unfolding all
  joined_none = none_fails (join_tests_by v plan state entries (room_by seen.room seen.spare given kept 1)) refl passed

  pub joined_room : Roomy seen.room seen.spare given kept 1
  joined_room =
      roomy seen.room seen.spare given kept 1
      (test_passed 18 (join_tests_by v plan state entries (room_by seen.room seen.spare given kept 1)) all_pass)

  form : has_form (read_plan plan) ≡ true
  form = test_passed 5 (join_tests_by v plan state entries (room_by seen.room seen.spare given kept 1)) all_pass

  pub joined_short : (length plan ≤ entry_plan_room) × (length state ≤ entry_state_room)
  joined_short =
      let shape = test_passed 9 (join_tests_by v plan state entries (room_by seen.room seen.spare given kept 1)) all_pass in
      let f = state_short v.tables plan state form shape in
      ((plan_in_lem plan form).short, omega arith)

-- ---- where the entry goes
module _ (line : List Entry) (given : ℕ) (aside : List Entry) (kept : ℕ) (e : Entry) (line_long : given < length line)
    (aside_long : kept < length aside) where
  abbrev lent : LentLists
  lent = lent_as line given aside kept

  one_more_fact : (es : List Entry) (n : ℕ) → n < length es → n + 1 ≡ length (take n es ++ (e ∷ []))
  one_more_fact es n h = sym (length-append (take n es) (e ∷ []) ∙ ap (λ (k : ℕ). k + 1) (length-take-le n es (let z : n ≤ length es = omega arith in z)))

  as_many : (es : List Entry) (n : ℕ) → n < length es → n ≡ length (take n es)
  as_many es n h = sym (length-take-le n es (let z : n ≤ length es = omega arith in z))

  goes : (b : Bool)
      → Decides lent
      (cond b (record {
        answer = Lists given (kept + 1);
        line = record { gap = 0; last = 0; adds = false };
        aside = record { gap = kept; last = kept; adds = true };
        entry = e;
      })
      (record {
        answer = Lists (given + 1) kept;
        line = record { gap = given; last = given; adds = true };
        aside = record { gap = 0; last = 0; adds = false };
        entry = e;
      }))
      (lists_with lent
      (cond b (record { line = line_of lent; aside = aside_of lent ++ (e ∷ []) }) (record { line = line_of lent ++ (e ∷ []); aside = aside_of lent })))
  goes true =
      record {
        line = ((λ z. absurd (omega arith)), (λ z. absurd_true z refl));
        aside = ((λ z. absurd (omega arith)), (λ z. aside_long));
        result = λ i. record {
          answer = Lists (as_many line given line_long i) (one_more_fact aside kept aside_long i);
          buffers = record {
            line = sym (stays line given (let z : given ≤ length line = omega (arith, line_long) in z)) i;
            aside = settled_added aside e kept aside_long i;
          };
        };
      }
  goes false =
      record {
        line = ((λ z. absurd (omega arith)), (λ z. line_long));
        aside = ((λ z. absurd (omega arith)), (λ z. absurd_true z refl));
        result = λ i. record {
          answer = Lists (one_more_fact line given line_long i) (as_many aside kept aside_long i);
          buffers = record {
            line = settled_added line e given line_long i;
            aside = sym (stays aside kept (let z : kept ≤ length aside = omega (arith, aside_long) in z)) i;
          };
        };
      }

module _ (v : Survey) (line : List Entry) (given : ℕ) (aside : List Entry) (kept : ℕ) (j : Joining) (seen : Seen)
    (is : SeenOf (lent_as line given aside kept) j.owner seen)
    (passed : number_of
    (first_failing (join_tests_by v j.plan j.state (entries v line given aside kept j seen is) (room v line given aside kept j seen is))) ≡ 0) where
  pub join_accepts : Decides (lent_as line given aside kept) (admitted_by (new_entry j) given kept) (join_queue_of v (lent_as line given aside kept) j)
  unfolding result_of_call
  join_accepts =
      let r = joined_room v j.plan j.state (entries v line given aside kept j seen is) seen given kept passed in
      let a : seen.room ≡ length line = is.room in
      let b : seen.spare ≡ length aside = is.spare in
      let f = r.line in let g = r.aside in let h = r.entries in
      subst (λ (o : Option ℕ). Decides (lent_as line given aside kept) (admitted_by (new_entry j) given kept)
      (result_by_number (join_schema v (lent_as line given aside kept)) j o))
      (sym (joined_none v j.plan j.state (entries v line given aside kept j seen is) seen given kept passed)
      ∙ same_tests v line given aside kept j seen is)
      (goes line given aside kept (new_entry j) (let z : given < length line = omega arith in z) (let z : kept < length aside = omega arith in
      z) (eqb j.allowance 0))
