-- What every history keeps true, and what that says of it; and that it is kept when a list is taken or a turn is served.
use Prim.Native.Nat.{ℕ, zero, suc, ◌≤◌, ◌<◌}
use native.Mathlib.Omega.{arith}
use mathlib.Core.Path.{◌≡◌, refl, sym, ◌∙◌, ap, subst, subst⁻¹}
use mathlib.Core.Bool.{true}
use mathlib.Core.Option.{Option, none, some}
use mathlib.Core.List.{List, [], ◌∷◌, ◌++◌, flatten, append_assoc}
use lib.ListN.{take}
use Rattle.sequences.specs.Sequences.{iterate}
use Rattle.sequences.proofs.Booleans.{absurd_true}
use Rattle.words.proofs.Testing.{none_some}
use Rattle.tables.specs.Tables.{Tables}
use Rattle.plans.specs.Endings.{rows}
use Rattle.plans.specs.Plans.{Plan}
use Rattle.plans.proofs.Bounds.{EndingForm}
use Rattle.steps.specs.Steps.{State, after}
use Rattle.steps.specs.Saved.{saved_words, position_words}
use Rattle.lists.specs.Gathering.{gathered, taken_into}
use Rattle.step_prunings.proofs.Sending.{KeepsNoBest, of_rows_fact}
use Rattle.turns.specs.Surveys.{Survey}
use Rattle.turns.specs.Turns.{is_done, is_over}
use Rattle.cuts.specs.Histories.{ServedTurn, Phone, served_in, steps_in, done_in, after_served, after_taking}
use Rattle.cuts.specs.Uncut.{EndsAt, AsUncut, joined_lists, run_list, kept_after, run_fits}
use Rattle.cuts.specs.Unsent.{Unsent}
use Rattle.cuts.proofs.Placing.{placed_most, steps_from_start}
use Rattle.cuts.proofs.NoThreshold.{nothing_asked}
use Rattle.cuts.proofs.Chains.{done_more, kept_some, Piece, Chain, chain_append, chain_take, chain_placed, chain_steps, piece_adds, chain_joined}

pub record Kept (v : Survey) (q : Plan) (h : Phone) : Type 0 where
  pub upto : ℕ
  pub reached : ℕ
  pub taken : Chain v q 0 h.taken upto
  pub waiting : Chain v q upto h.waiting reached
  pub saved : h.saved ≡ saved_words v.number (after v.tables q reached).state
  pub alive : (m : ℕ) → m < reached → (after v.tables q m).state ≡ none → ⊥
  pub done : done_in (served_in h) ≡ is_over (after v.tables q reached).state
  pub list : h.kept ≡ kept_after v.tables q upto
  pub fits : run_fits q.ending (after v.tables q upto) ≡ true

-- the run does not end at its start
pub end_later : (t : Tables) (q : Plan) (n : ℕ) → EndsAt t q n → 1 ≤ n
unfolding after iterate
end_later t q zero e = absurd (none_some (sym e.over))
end_later t q (suc n) e = omega arith

no_words : (number : ℕ) (o : Option State) → saved_words number o ≡ [] → o ≡ none
unfolding position_words
no_words number none e = refl
no_words number (some s) e = cc

pub is_none : (o : Option State) → is_over o ≡ true → o ≡ none
is_none none e = refl
is_none (some s) e = absurd_true refl (sym e)

-- a turn that is served comes last of all
pub served_more : (h : Phone) (x : ServedTurn) → served_in (after_served h x) ≡ served_in h ++ (x ∷ [])
served_more h x = sym (append_assoc h.taken h.waiting (x ∷ []))

-- no served turn is lost or added where a list is taken
pub same_served : (h : Phone) (x : ServedTurn) (rest : List ServedTurn) → h.waiting ≡ x ∷ rest → (kept : List ℕ)
    → served_in (after_taking h x rest kept) ≡ served_in h
same_served h x rest waits kept = append_assoc h.taken (x ∷ []) rest ∙ ap (λ l. h.taken ++ l) (sym waits)

module _ (v : Survey) (q : Plan) (h : Phone) (k : Kept v q h) where
  -- all served turns, from the start to the saved words
  pub whole : Chain v q 0 (served_in h) k.reached
  whole = chain_append v q 0 k.upto k.reached h.taken h.waiting k.taken k.waiting

  -- where no threshold was sent, the lists are taken up to as many steps as their turns took
  pub taken_to : Unsent h.taken → k.upto ≡ steps_in h.taken
  taken_to u = steps_from_start v q k.upto h.taken u (chain_placed v q 0 k.upto h.taken k.taken)

  -- the earliest list not taken yet is the next piece
  pub next : (x : ServedTurn) (rest : List ServedTurn) → h.waiting ≡ x ∷ rest
      → (to : ℕ) × (Piece v q k.upto to x × Chain v q to rest k.reached)
  next x rest e = subst (λ l. Chain v q k.upto l k.reached) e k.waiting

module _ (v : Survey) (q : Plan) (form : EndingForm q.ending) where
  -- of a row query the kept rows and the run's are the same at the start too
  kept_rows : (vs : List ℕ) → q.ending ≡ rows vs → (n : ℕ) → kept_after v.tables q n ≡ run_list q.ending (after v.tables q n)
  unfolding after iterate gathered flatten
  kept_rows vs e zero = sym (ap (λ d. run_list d (after v.tables q 0)) e)
  kept_rows vs e (suc n) = refl

  module _ (h : Phone) (k : Kept v q h) where
    ends : (after v.tables q k.reached).state ≡ none → EndsAt v.tables q k.reached
    ends e = record { over = e; not_before = k.alive }

    -- a row query's turns have their positions by their steps alone
    prefixes : (vs : List ℕ) → q.ending ≡ rows vs → (j : ℕ)
        → joined_lists (take j (served_in h)) ≡ run_list q.ending (after v.tables q (steps_in (take j (served_in h))))
    prefixes vs e j =
        let xs = take j (served_in h) in
        let c = chain_take v q j 0 k.reached (served_in h) (whole v q h k) in
        let at = chain_steps v q c.0 xs c.1 (nothing_asked (subst⁻¹ KeepsNoBest e of_rows_fact) xs) in
        chain_joined v q form vs e 0 c.0 xs c.1
        ∙ ap (kept_after v.tables q) at
        ∙ kept_rows vs e (steps_in xs)

    -- with every list taken the run is taken up to the saved words
    all_taken : (xs : List ServedTurn) → Chain v q k.upto xs k.reached → xs ≡ [] → k.upto ≡ k.reached
    all_taken [] c e = c
    all_taken (x ∷ xs) c e = absurd (let z : ◌≡◌ {A = ℕ} 0 1 = cc in omega arith)

    pub as_uncut : AsUncut v q h
    as_uncut =
        record {
          upto = k.upto;
          reached = k.reached;
          ordered = omega (arith, placed_most v q k.upto k.reached h.waiting (chain_placed v q k.upto k.reached h.waiting k.waiting));
          taken = chain_placed v q 0 k.upto h.taken k.taken;
          waiting = chain_placed v q k.upto k.reached h.waiting k.waiting;
          steps = omega (arith, placed_most v q 0 k.reached (served_in h) (chain_placed v q 0 k.reached (served_in h) (whole v q h k)));
          state = k.saved;
          end = (λ e. ends (no_words v.number _ (sym k.saved ∙ e)), λ x. k.saved ∙ ap (saved_words v.number) x.over);
          done = (λ e. ends (is_none _ (sym k.done ∙ e)), λ x. k.done ∙ ap is_over x.over);
          list = k.list;
          fits = k.fits;
          prefixes = prefixes;
          finished = λ e w.
              let end = subst (EndsAt v.tables q) (sym (all_taken h.waiting k.waiting w)) (ends (is_none _ (sym k.done ∙ e))) in
              (end, k.list ∙ kept_some v.tables q form k.upto (end_later v.tables q k.upto end));
        }

    -- ---- the earliest list is taken into the kept one, where their totals fit
    module _ (x : ServedTurn) (rest : List ServedTurn) (waits : h.waiting ≡ x ∷ rest) where
      pub taking_keeps : (kept : List ℕ) → kept ≡ taken_into q.ending h.kept x.list
          → run_fits q.ending (after v.tables q (next v q h k x rest waits).0) ≡ true → Kept v q (after_taking h x rest kept)
      taking_keeps kept e f =
          let c = next v q h k x rest waits in
          record {
            upto = c.0;
            reached = k.reached;
            taken = chain_append v q 0 k.upto c.0 h.taken (x ∷ []) k.taken (c.0, (c.1.0, refl));
            waiting = c.1.1;
            saved = k.saved;
            alive = k.alive;
            done = ap done_in (same_served h x rest waits kept) ∙ k.done;
            list = e ∙ ap (λ l. taken_into q.ending l x.list) k.list ∙ piece_adds v q form k.upto c.0 x c.1.0;
            fits = f;
          }

    -- ---- a turn is served: it takes the run on from the saved words
    pub serving_keeps : (to : ℕ) (x : ServedTurn) → Piece v q k.reached to x
        → is_done x.ending ≡ is_over (after v.tables q to).state → Kept v q (after_served h x)
    serving_keeps to x p d =
        record {
          upto = k.upto;
          reached = to;
          taken = k.taken;
          waiting = chain_append v q k.upto k.reached to h.waiting (x ∷ []) k.waiting (to, (p, refl));
          saved = p.stretch.takes.left;
          alive = p.stretch.takes.going;
          done = ap done_in (served_more h x) ∙ done_more (served_in h) x (k.done ∙ p.stretch.going) ∙ d;
          list = k.list;
          fits = k.fits;
        }
