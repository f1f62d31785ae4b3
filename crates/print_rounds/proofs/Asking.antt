-- What the calls are lent is the file's: so what is true of it is true of the file.
use Prim.Native.Nat.{ℕ}
use mathlib.Core.Path.{◌≡◌, subst}
use mathlib.Core.List.{List}
use lib.ListN.{length}
use Rattle.words.specs.declared.Written.TheVariants as written
use Rattle.turns.specs.declared.Turned.{Turned}
use Rattle.turns.specs.Surveys.{Survey, under_number}
use Rattle.turns.specs.Opening.{open_of}
use Rattle.queries.specs.declared.Keeping.TheVariants.{Merged}
use Rattle.queries.specs.declared.Played.{Played}
use Rattle.queries.specs.Playing.{Leaves, Shows}
use Rattle.print_writing.specs.declared.Listing.{Listing}
use Rattle.print_writing.specs.Listings.{ListsOf}
use Rattle.print_writing.specs.FileQueries.{file_number, file_survey, file_plan, file_quantum, lent_survey, Asks, state_room, output_room, kept_room}
use Rattle.print_writing.specs.Shown.{most_turns, CanOpen, TurnShown, RefusedBy, by_opening, LeftToShow}
use Rattle.print_showing.proofs.KeptLists.{left_to_show}

module _ (bytes rows pos osp plan : List ℕ) (quantum : ℕ) (a : Asks bytes rows pos osp plan quantum) where
  abbrev v : Survey
  v = lent_survey rows pos osp

  moved : (F : Survey → List ℕ → ℕ → Type 0) → F v plan quantum → F (file_survey bytes) (file_plan bytes) (file_quantum bytes)
  moved F x =
      subst (λ q. F (file_survey bytes) (file_plan bytes) q) a.quantum_word
      (subst (λ p. F (file_survey bytes) p quantum) a.plan_words_fact
      (subst (λ t. F (under_number file_number t) plan quantum) a.tables x))

  pub file_lists : (l : Listing) → ListsOf plan l → ListsOf (file_plan bytes) l
  file_lists l h = subst (λ p. ListsOf p l) a.plan_words_fact h

  pub file_opens : CanOpen v plan → CanOpen (file_survey bytes) (file_plan bytes)
  file_opens o = moved (λ u p q. CanOpen u p) o

  pub file_turn : (number : ℕ) (turned : Turned) (list : List ℕ) (room : ℕ) → room ≡ output_room plan
      → Shows v.tables plan quantum room number turned list → TurnShown bytes number turned list
  file_turn number turned list room e s =
      moved (λ u p q. Shows u.tables p q (output_room p) number turned list) (subst (λ n. Shows v.tables plan quantum n number turned list) e s)

  pub file_refused : (state : List ℕ) (x : ℕ) → (open_of v plan state).answer ≡ written.Refused x → length state ≡ state_room → RefusedBy bytes x
  file_refused state x e l = by_opening a.accepted state l x (moved (λ u w q. (open_of u w state).answer ≡ written.Refused x) e)

  pub file_left : CanOpen v plan → (room : ℕ) (before state kept : List ℕ) (r : Played)
      → Leaves Merged v plan quantum most_turns room before state kept r → room ≡ output_room plan → length before ≡ kept_room
      → LeftToShow bytes kept r
  file_left o room before state kept r f e l =
      left_to_show bytes a.accepted (file_opens o) before state kept l r
      (moved (λ u p q. Leaves Merged u p q most_turns (output_room p) before state kept r)
      (subst (λ n. Leaves Merged v plan quantum most_turns n before state kept r) e f))
