-- Served turns are pieces of the uncut run, one behind the other: their lists make the run's list up to where they end.
use Prim.Native.Nat.{ℕ, zero, suc, ◌+◌, ◌≤◌}
use native.Mathlib.Omega.{arith}
use mathlib.Core.Path.{◌≡◌, refl, sym, ◌∙◌, ap, ap₂, subst}
use mathlib.Core.Bool.{Bool, true, false, ◌||◌, or-false}
use mathlib.Core.List.{List, [], ◌∷◌, ◌++◌, flatten, append_assoc, append-nil}
use lib.ListN.{take}
use Rattle.words.specs.Bindings.{Bindings}
use Rattle.sequences.specs.Sequences.{iterate}
use Rattle.tables.specs.Tables.{Tables}
use Rattle.plans.specs.Endings.{rows}
use Rattle.plans.specs.Plans.{Plan}
use Rattle.plans.proofs.Bounds.{EndingForm}
use Rattle.steps.specs.Steps.{after}
use Rattle.lists.specs.Gathering.{gathered, taken_into, rows_fit, threshold_right}
use Rattle.lists.specs.Closing.{list_at}
use Rattle.lists.proofs.TopLists.{Fine}
use Rattle.lists.proofs.FullLists.{lists_of, delivered_by}
use Rattle.lists.proofs.OneRow.{none_taken}
use Rattle.lists.proofs.Closing.{at_adds}
use Rattle.turns.specs.Surveys.{Survey}
use Rattle.turns.specs.Turns.{is_done, is_over}
use Rattle.cuts.specs.Histories.{ServedTurn, steps_in, done_in}
use Rattle.cuts.specs.Premises.{lists_in}
use Rattle.cuts.specs.Uncut.{Takes, Placed, joined_lists, run_list, kept_after}
use Rattle.cuts.specs.Unsent.{BestUnsent}
use Rattle.cuts.proofs.Placing.{steps_from_start}
use Rattle.cuts.proofs.NoThreshold.{ThresholdsPass, all_unsent}

-- ---- steps added up, and done
pub steps_append : (xs ys : List ServedTurn) → steps_in (xs ++ ys) ≡ steps_in xs + steps_in ys
unfolding steps_in
steps_append [] ys = omega arith
steps_append (x ∷ xs) ys = let e = steps_append xs ys in omega arith

pub steps_more : (xs : List ServedTurn) (x : ServedTurn) → steps_in (xs ++ (x ∷ [])) ≡ steps_in xs + x.steps
unfolding steps_in
steps_more xs x = let e = steps_append xs (x ∷ []) in omega arith

pub done_more : (xs : List ServedTurn) (x : ServedTurn) → done_in xs ≡ false → done_in (xs ++ (x ∷ [])) ≡ is_done x.ending
unfolding done_in
done_more [] x e = or-false (is_done x.ending)
done_more (y ∷ xs) x e = go (is_done y.ending) e (done_more xs x)
  where
    go : (b : Bool) → b || done_in xs ≡ false → (done_in xs ≡ false → done_in (xs ++ (x ∷ [])) ≡ is_done x.ending)
        → b || done_in (xs ++ (x ∷ [])) ≡ is_done x.ending
    go true f ih = absurd (let z : true ≡ false = f in let w : ◌≡◌ {A = ℕ} 0 1 = cc in omega arith)
    go false f ih = ih f

-- ---- what is kept of the uncut run
module _ (t : Tables) (q : Plan) (form : EndingForm q.ending) where
  -- up to where the run goes on it is the list of its rows there, for whatever makes the same of no list yet as of the list of no rows
  pub kept_going : {A : Type 0} (f : List ℕ → A) → f [] ≡ f (gathered q.ending [] []) → (from : ℕ) → is_over (after t q from).state ≡ false
      → f (kept_after t q from) ≡ f (gathered q.ending [] (after t q from).delivered)
  unfolding after iterate
  kept_going f h zero e = h
  kept_going f h (suc n) e = ap (λ d. f (list_at q.ending [] d (after t q (suc n)).delivered)) e

  -- after some steps
  pub kept_some : (n : ℕ) → 1 ≤ n → kept_after t q n ≡ run_list q.ending (after t q n)
  kept_some zero l = absurd (omega arith)
  kept_some (suc n) l = refl

-- ---- pieces
-- a served turn that takes the run from one position, where it goes on, to another: its list is that of the run's rows between them, which its
-- threshold may leave out, closed at the run's end; they are so few that their totals fit
pub record TurnStretch (v : Survey) (q : Plan) (from to : ℕ) (x : ServedTurn) : Type 0 where
  pub takes : Takes v q from to x
  pub rows : List Bindings
  pub more : (after v.tables q to).delivered ≡ (after v.tables q from).delivered ++ rows
  pub going : is_over (after v.tables q from).state ≡ false
  pub list : x.list ≡ list_at q.ending x.sent (is_over (after v.tables q to).state) rows
  pub right : threshold_right q.ending x.sent ≡ true
  pub fits : rows_fit q.ending rows ≡ true

-- and one whose threshold leaves out none of the best of the run's rows
pub record Piece (v : Survey) (q : Plan) (from to : ℕ) (x : ServedTurn) : Type 0 where
  pub stretch : TurnStretch v q from to x
  pub fine : Fine q.ending (after v.tables q from).delivered x.sent

abbrev pub Chain : Survey → Plan → ℕ → List ServedTurn → ℕ → Type 0
Chain v q from [] end = from ≡ end
Chain v q from (x ∷ xs) end = (to : ℕ) × (Piece v q from to x × Chain v q to xs end)

module _ (v : Survey) (q : Plan) where
  pub chain_append : (a b c : ℕ) (xs ys : List ServedTurn) → Chain v q a xs b → Chain v q b ys c → Chain v q a (xs ++ ys) c
  chain_append a b c [] ys p r = subst (λ n. Chain v q n ys c) (sym p) r
  chain_append a b c (x ∷ xs) ys p r = (p.0, (p.1.0, chain_append p.0 b c xs ys p.1.1 r))

  pub chain_take : (k a c : ℕ) (xs : List ServedTurn) → Chain v q a xs c → (b : ℕ) × Chain v q a (take k xs) b
  chain_take zero a c xs p = (a, refl)
  chain_take (suc k) a c [] p = (a, refl)
  chain_take (suc k) a c (x ∷ xs) p = let r = chain_take k p.0 c xs p.1.1 in (r.0, (p.0, (p.1.0, r.1)))

  pub chain_placed : (a b : ℕ) (xs : List ServedTurn) → Chain v q a xs b → Placed v q a xs b
  chain_placed a b [] c = c
  chain_placed a b (x ∷ xs) c = (c.0, (c.1.0.stretch.takes, chain_placed c.0 b xs c.1.1))

  -- where no threshold was sent with a best-of query, as many steps as the distance
  chain_passes : (a b : ℕ) (xs : List ServedTurn) → Chain v q a xs b → ThresholdsPass q.ending xs
  chain_passes a b [] c = tt
  chain_passes a b (x ∷ xs) c = (c.1.0.stretch.right, chain_passes c.0 b xs c.1.1)

  pub chain_steps : (b : ℕ) (xs : List ServedTurn) → Chain v q 0 xs b → BestUnsent q.ending xs → b ≡ steps_in xs
  chain_steps b xs c u = steps_from_start v q b xs (all_unsent q.ending xs (chain_passes 0 b xs c) u) (chain_placed 0 b xs c)

  -- ---- the thresholds and the rows of the pieces, and their lists, where done adds nothing to them
  pub sent_rows : (a b : ℕ) (xs : List ServedTurn) → Chain v q a xs b → List (List ℕ × List Bindings)
  sent_rows a b [] c = []
  sent_rows a b (x ∷ xs) c = (x.sent, c.1.0.stretch.rows) ∷ sent_rows c.0 b xs c.1.1

  pub sent_lists : ((threshold : List ℕ) (done : Bool) (bs : List Bindings) → list_at q.ending threshold done bs ≡ gathered q.ending threshold bs)
      → (a b : ℕ) (xs : List ServedTurn) (c : Chain v q a xs b) → lists_of q.ending (sent_rows a b xs c) ≡ lists_in xs
  unfolding sent_rows
  sent_lists same a b [] c = refl
  sent_lists same a b (x ∷ xs) c =
      ap₂ ◌∷◌ (sym (c.1.0.stretch.list ∙ same x.sent (is_over (after v.tables q c.0).state) c.1.0.stretch.rows))
      (sent_lists same c.0 b xs c.1.1)

  pub sent_rows_lem : (a b : ℕ) (xs : List ServedTurn) (c : Chain v q a xs b)
      → (after v.tables q b).delivered ≡ (after v.tables q a).delivered ++ delivered_by (sent_rows a b xs c)
  unfolding sent_rows flatten
  sent_rows_lem a b [] c = ap (λ n. (after v.tables q n).delivered) (sym c) ∙ sym (append-nil (after v.tables q a).delivered)
  sent_rows_lem a b (x ∷ xs) c =
      sent_rows_lem c.0 b xs c.1.1
      ∙ ap (λ l. l ++ delivered_by (sent_rows c.0 b xs c.1.1)) c.1.0.stretch.more
      ∙ append_assoc (after v.tables q a).delivered c.1.0.stretch.rows (delivered_by (sent_rows c.0 b xs c.1.1))

  module _ (form : EndingForm q.ending) where
    -- the list of a piece, taken into what was kept before it
    pub piece_adds : (a b : ℕ) (x : ServedTurn) → Piece v q a b x
        → taken_into q.ending (kept_after v.tables q a) x.list ≡ kept_after v.tables q b
    piece_adds a b x p =
        let d = is_over (after v.tables q b).state in
        ap (taken_into q.ending (kept_after v.tables q a)) p.stretch.list
        ∙ kept_going v.tables q form (λ l. taken_into q.ending l (list_at q.ending x.sent d p.stretch.rows)) (none_taken q.ending _) a
        p.stretch.going
        ∙ at_adds q.ending form x.sent d (after v.tables q a).delivered p.stretch.rows p.fine
        ∙ ap (list_at q.ending [] d) (sym p.stretch.more)
        ∙ sym (kept_some v.tables q form b (omega (arith, p.stretch.takes.least, p.stretch.takes.no_further)))

    -- the lists of a row query's pieces, joined behind the rows before them
    pub chain_joined : (vs : List ℕ) → q.ending ≡ rows vs → (a b : ℕ) (xs : List ServedTurn) → Chain v q a xs b
        → kept_after v.tables q a ++ joined_lists xs ≡ kept_after v.tables q b
    unfolding flatten
    chain_joined vs e a b [] c = append-nil (kept_after v.tables q a) ∙ ap (kept_after v.tables q) c
    chain_joined vs e a b (x ∷ xs) c =
        sym (append_assoc (kept_after v.tables q a) x.list (joined_lists xs))
        ∙ ap (λ l. l ++ joined_lists xs)
        (sym (ap (λ d. taken_into d (kept_after v.tables q a) x.list) e) ∙ piece_adds a c.0 x c.1.0)
        ∙ chain_joined vs e c.0 b xs c.1.1
