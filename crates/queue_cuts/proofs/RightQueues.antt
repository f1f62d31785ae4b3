-- Every queue that calls over one survey make of an empty one is right: an entry comes, goes or moves, and the rest stays as it was.
use Prim.Native.Nat.{ℕ, ◌+◌, ◌≤◌}
use native.Mathlib.Omega.{arith}
use mathlib.Core.Path.{◌≡◌, refl, sym, ◌∙◌, ap, subst}
use mathlib.Core.Bool.{Bool, true, false, ◌&&◌, not}
use mathlib.Core.Option.{Option, none, some}
use mathlib.Core.List.{List, [], ◌∷◌, ◌++◌, map-append, append_assoc, append-nil}
use lib.Dec.{eqb, leb}
use lib.ListN.{length, length-append}
use borrow.Author.Tests.{leb-true}
use Rattle.sequences.specs.Sequences.{all, member, distinct}
use Rattle.words.specs.Tests.{first_failing}
use Rattle.sequences.proofs.Booleans.{and_left, and_right, and_both}
use Rattle.sequences.proofs.Elements.{all_head, all_tail, all_cons, all_append}
use Rattle.words.proofs.Testing.{passes_all, test_passed}
use Rattle.turns.specs.Surveys.{Survey}
use Rattle.queues.specs.declared.Entry.{Entry}
use Rattle.queues.specs.Lists.{most_entries, LentLists, aside_of, owners_in, owners, has_steps, has_none, entries_right, Queue}
use Rattle.queues.specs.Joining.{Joining, new_entry, join_tests}
use Rattle.queues.specs.ToppingUp.{top_up_tests, with_allowance}
use Rattle.queues.specs.Serving.{Serving, ServeResult, entry_after, front_turn, serve_of}
use Rattle.queues.specs.Calls.{QueueCall, join, serve, top_up, MadeCall, lent_to, after_call, after_calls}
use Rattle.queues.proofs.Moving.{queue, line_lent, aside_lent, topped_up_lem, join_leaves, joined_to, with_entry, top_up_leaves, topped_to, one_topped}
use Rattle.queue_cuts.specs.InTurn.{ReachedQueue, EntryRight, EachRight, QueueRight}
use Rattle.queue_cuts.proofs.OwnersOnce.{distinct_among}
use Rattle.queue_cuts.proofs.FrontTurns.{Serviced, not_served, off, on, out, serves, some_left}
use Rattle.queue_cuts.proofs.RightEntries.{joined_right, after_right, topped_right}

abbrev owners_of : List Entry → List Entry → List ℕ
owners_of line aside = owners_in line ++ owners_in aside

-- the owners, where the line is in two parts, and where the list set aside is
line_in_two : (before behind aside : List Entry) → owners_of (before ++ behind) aside ≡ owners_in before ++ owners_of behind aside
line_in_two before behind aside =
    ap (λ (os : List ℕ). os ++ owners_in aside) (map-append (λ (e : Entry). e.owner) before behind)
    ∙ append_assoc (owners_in before) (owners_in behind) (owners_in aside)

aside_in_two : (line before behind : List Entry) → owners_of line (before ++ behind) ≡ owners_of line before ++ owners_in behind
aside_in_two line before behind =
    ap (λ (os : List ℕ). owners_in line ++ os) (map-append (λ (e : Entry). e.owner) before behind)
    ∙ sym (append_assoc (owners_in line) (owners_in before) (owners_in behind))

one_less : (before behind : List Entry) (e : Entry) → length (before ++ (e ∷ behind)) ≡ length (before ++ behind) + 1
one_less before behind e = let a = length-append before (e ∷ behind) in let b = length-append before behind in omega (arith, a, b)

one_passes : (f : Entry → Bool) (d : Entry) → f d ≡ true → all f (d ∷ []) ≡ true
unfolding all
one_passes f d h = and_both (f d) true h refl

all_without : (f : Entry → Bool) (xs ys : List Entry) (e : Entry) → all f (xs ++ (e ∷ ys)) ≡ true → all f (xs ++ ys) ≡ true
all_without f [] ys e h = all_tail f e ys h
all_without f (x ∷ xs) ys e h =
    all_cons f x (xs ++ ys) (all_head f x (xs ++ (e ∷ ys)) h) (all_without f xs ys e (all_tail f x (xs ++ (e ∷ ys)) h))

module _ (v : Survey) where
  each_both : (xs ys : List Entry) → EachRight v xs → EachRight v ys → EachRight v (xs ++ ys)
  each_both [] ys h k = k
  each_both (x ∷ xs) ys h k = (h.0, each_both xs ys h.1 k)

  each_without : (xs ys : List Entry) (e : Entry) → EachRight v (xs ++ (e ∷ ys)) → EntryRight v e × EachRight v (xs ++ ys)
  each_without [] ys e h = h
  each_without (x ∷ xs) ys e h = let k = each_without xs ys e h.1 in (k.0, (h.0, k.1))

  -- a right queue with room for one more, which has no entry of an owner
  record RoomFor (owner : ℕ) (line aside : List Entry) : Type 0 where
    right : QueueRight v (queue line aside)
    new : not (member owner (owners_of line aside)) ≡ true
    room : length line + length aside + 1 ≤ 32

  -- ---- one comes
  to_line : (line aside : List Entry) (d : Entry) → RoomFor d.owner line aside → EntryRight v d → has_steps d ≡ true
      → QueueRight v (queue (line ++ (d ∷ [])) aside)
  to_line line aside d h right steps =
      record {
        line = each_both line (d ∷ []) h.right.line (right, tt);
        aside = h.right.aside;
        steps = all_append has_steps line (d ∷ []) h.right.steps (one_passes has_steps d steps);
        no_steps = h.right.no_steps;
        once = ap distinct (line_in_two line (d ∷ []) aside)
            ∙ distinct_among d.owner (owners_in line) (owners_in aside)
            ∙ and_both _ _ h.new h.right.once;
        few = let g = length-append line (d ∷ []) in let k = h.room in omega (arith, g, k);
      }

  to_aside : (line aside : List Entry) (d : Entry) → RoomFor d.owner line aside → EntryRight v d → has_none d ≡ true
      → QueueRight v (queue line (aside ++ (d ∷ [])))
  to_aside line aside d h right no_steps =
      record {
        line = h.right.line;
        aside = each_both aside (d ∷ []) h.right.aside (right, tt);
        steps = h.right.steps;
        no_steps = all_append has_none aside (d ∷ []) h.right.no_steps (one_passes has_none d no_steps);
        once = ap distinct (aside_in_two line aside (d ∷ []))
            ∙ distinct_among d.owner (owners_of line aside) []
            ∙ ap (λ (os : List ℕ). not (member d.owner os) && distinct os) (append-nil (owners_of line aside))
            ∙ and_both _ _ h.new h.right.once;
        few = let g = length-append aside (d ∷ []) in let k = h.room in omega (arith, g, k);
      }

  -- ---- one goes
  off_line : (before behind aside : List Entry) (e : Entry) → QueueRight v (queue (before ++ (e ∷ behind)) aside)
      → RoomFor e.owner (before ++ behind) aside
  off_line before behind aside e h =
      record {
        right = record {
          line = (each_without before behind e h.line).1;
          aside = h.aside;
          steps = all_without has_steps before behind e h.steps;
          no_steps = h.no_steps;
          once = and_right (not (member e.owner rest)) (distinct rest) once;
          few = omega (arith, fewer);
        };
        new = and_left (not (member e.owner rest)) (distinct rest) once;
        room = fewer;
      }
    where
      rest : List ℕ
      rest = owners_of (before ++ behind) aside

      fewer : length (before ++ behind) + length aside + 1 ≤ 32
      fewer = let k = h.few in let a = one_less before behind e in omega (arith, k, a)

      once : not (member e.owner rest) && distinct rest ≡ true
      once =
          ap (λ (os : List ℕ). not (member e.owner os) && distinct os) (line_in_two before behind aside)
          ∙ sym (distinct_among e.owner (owners_in before) (owners_of behind aside))
          ∙ sym (ap distinct (line_in_two before (e ∷ behind) aside)) ∙ h.once

  off_aside : (line before behind : List Entry) (e : Entry) → QueueRight v (queue line (before ++ (e ∷ behind)))
      → RoomFor e.owner line (before ++ behind)
  off_aside line before behind e h =
      record {
        right = record {
          line = h.line;
          aside = (each_without before behind e h.aside).1;
          steps = h.steps;
          no_steps = all_without has_none before behind e h.no_steps;
          once = and_right (not (member e.owner rest)) (distinct rest) once;
          few = omega (arith, fewer);
        };
        new = and_left (not (member e.owner rest)) (distinct rest) once;
        room = fewer;
      }
    where
      rest : List ℕ
      rest = owners_of line (before ++ behind)

      fewer : length line + length (before ++ behind) + 1 ≤ 32
      fewer =
          let k = h.few in let a = one_less before behind e in omega (arith, k, a)

      once : not (member e.owner rest) && distinct rest ≡ true
      once =
          ap (λ (os : List ℕ). not (member e.owner os) && distinct os) (aside_in_two line before behind)
          ∙ sym (distinct_among e.owner (owners_of line before) (owners_in behind))
          ∙ sym (ap distinct (aside_in_two line before (e ∷ behind))) ∙ h.once

  -- an entry that the service takes out, of the line or of the list set aside, leaves a right queue
  pub out_of_line : (before behind aside : List Entry) (e : Entry) → QueueRight v (queue (before ++ (e ∷ behind)) aside)
      → QueueRight v (queue (before ++ behind) aside)
  out_of_line before behind aside e h = (off_line before behind aside e h).right

  pub out_of_aside : (line before behind : List Entry) (e : Entry) → QueueRight v (queue line (before ++ (e ∷ behind)))
      → QueueRight v (queue line (before ++ behind))
  out_of_aside line before behind e h = (off_aside line before behind e h).right

  -- ---- the three calls
  join_right : (q : Queue) (m : MadeCall) (j : Joining) → QueueRight v q → QueueRight v (after_call v q (lent_to q m) (join j))
  join_right q m j h = subst (QueueRight v) (sym (join_leaves v q m j)) (by_tests (first_failing (join_tests v l j)) refl)
    where
      l : LentLists
      l = lent_to q m

      d : Entry
      d = new_entry j

      free : first_failing (join_tests v l j) ≡ none → RoomFor j.owner q.line q.aside
      free e =
          let passed = passes_all (join_tests v l j) e in
          let entries = and_right (entries_right l) (not (member j.owner (owners l))) (test_passed 17 (join_tests v l j) passed) in
          let count = leb (length q.line + length q.aside + 1) most_entries in
          let lengths = and_right (leb most_entries (length l.line)) (leb most_entries (length l.aside) && count)
          (test_passed 18 (join_tests v l j) passed) in
          record {
            right = h;
            new = rw (line_lent q m, aside_lent q m) at entries;
            room = leb-true (length q.line + length q.aside + 1) most_entries (and_right (leb most_entries (length l.aside)) count lengths);
          }

      by_steps : RoomFor j.owner q.line q.aside → EntryRight v d → (b : Bool) → eqb j.allowance 0 ≡ b
          → QueueRight v (with_entry v q m j b)
      by_steps f right true z = to_aside q.line q.aside d f right z
      by_steps f right false z = to_line q.line q.aside d f right (some_left j.allowance z)

      by_tests : (o : Option ℕ) → first_failing (join_tests v l j) ≡ o → QueueRight v (joined_to v q m j o)
      by_tests (some x) e = h
      by_tests none e = by_steps (free e) (joined_right v l j e) (eqb j.allowance 0) refl

  top_up_right : (q : Queue) (m : MadeCall) (o n : ℕ) → QueueRight v q → QueueRight v (after_call v q (lent_to q m) (top_up o n))
  top_up_right q m o n h = subst (QueueRight v) (sym (top_up_leaves q m v o n)) (by_tests (first_failing (top_up_tests l o n)) refl)
    where
      l : LentLists
      l = lent_to q m

      by_tests : (x : Option ℕ) → first_failing (top_up_tests l o n) ≡ x → QueueRight v (topped_to q m o n x)
      by_tests (some x) e = h
      by_tests none e =
          let f = topped_up_lem q m o n e in
          let right = and_right (entries_right l) (leb 1 n && member o (owners_in (aside_of l)))
          (test_passed 17 (top_up_tests l o n) (passes_all (top_up_tests l o n) e)) in
          let whole = subst (λ (es : List Entry). QueueRight v (queue q.line es)) f.whole h in
          subst (QueueRight v) (sym (one_topped q m o n e))
          (to_line q.line (f.before ++ f.behind) (with_allowance n f.entry) (off_aside q.line f.before f.behind f.entry whole)
          (topped_right v n f.entry (each_without f.before f.behind f.entry whole.aside).0)
          (and_left (leb 1 n) (member o (owners_in (aside_of l))) right))

  serve_right : (q : Queue) (s : Serving) (y : ServeResult) → QueueRight v q → {r : Queue} → Serviced v s q y r → QueueRight v r
  serve_right q s y h (not_served e) = h
  serve_right q s y h (off e es front told) =
      (off_line [] es q.aside e (subst (λ (xs : List Entry). QueueRight v (queue xs q.aside)) front h)).right
  serve_right q s y h (on e es front told f left) =
      let whole = subst (λ (xs : List Entry). QueueRight v (queue xs q.aside)) front h in
      to_line es q.aside (entry_after e (front_turn v s e)) (off_line [] es q.aside e whole) (after_right v s e told.served f whole.line.0) left
  serve_right q s y h (out e es front told f left) =
      let whole = subst (λ (xs : List Entry). QueueRight v (queue xs q.aside)) front h in
      to_aside es q.aside (entry_after e (front_turn v s e)) (off_line [] es q.aside e whole) (after_right v s e told.served f whole.line.0) left

  pub call_right : (q : Queue) (m : MadeCall) (c : QueueCall) → QueueRight v q → QueueRight v (after_call v q (lent_to q m) c)
  call_right q m (join j) h = join_right q m j h
  call_right q m (serve s) h = serve_right q s (serve_of v (lent_to q m) s) h (serves v q m s)
  call_right q m (top_up o n) h = top_up_right q m o n h

  -- ---- any list of calls
  pub calls_right : (ms : List MadeCall) (q : Queue) → QueueRight v q → QueueRight v (after_calls v q ms)
  unfolding after_calls
  calls_right [] q h = h
  calls_right (m ∷ ms) q h = calls_right ms (after_call v q (lent_to q m) m.call) (call_right q m m.call h)

  none_right : QueueRight v (queue [] [])
  unfolding all distinct
  none_right = record { line = tt; aside = tt; steps = refl; no_steps = refl; once = refl; few = omega arith }

  pub reached_right : (q : Queue) → ReachedQueue v q → QueueRight v q
  reached_right q r = subst (QueueRight v) r.from_none (calls_right r.made (queue [] []) none_right)
