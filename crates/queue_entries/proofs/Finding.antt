-- A search for an owner's entry, as membership among the owners of a part of a list.
use Prim.Native.Nat.{ℕ, zero, suc, ◌+◌, ◌-◌, ◌<◌, ◌≤◌}
use native.Mathlib.Nat.{le_trans, min-le_left}
use native.Mathlib.Omega.{arith}
use mathlib.Core.Path.{◌≡◌, refl, sym, ◌∙◌, ap}
use mathlib.Core.Bool.{Bool, true, false, cond, ◌&&◌, ◌||◌, not}
use mathlib.Core.List.{List, [], ◌∷◌}
use lib.Dec.{eqb, leb, ltb}
use lib.ListN.{length, take, drop, get_or, length-take, length-drop, drop_of_length-le}
use lib.Seq.{get_or-take, get_or-drop, drop-cons, length-take-le}
use borrow.Author.Tests.{eq-eqb, ne_eqb, lt-ltb, le-ltb}
use Rattle.sequences.specs.Sequences.{member}
use Rattle.sequences.proofs.Orders.{less, same, more, three}
use Rattle.queues.specs.declared.Entry.{Entry}
use Rattle.queues.specs.Lists.{owners_in}
use Rattle.queue_entries.specs.Entries.{nobody, FoundAt, steps_right, standing}

-- an entry at some place has the owner
pub there_is : (owner : ℕ) (es : List Entry) (k : ℕ) → k < length es → (get_or es k nobody).owner ≡ owner → member owner (owners_in es) ≡ true
unfolding member
there_is owner [] k l e = absurd (omega arith)
there_is owner (x ∷ es) zero l e = rw (eq-eqb owner x.owner (sym e)) refl
there_is owner (x ∷ es) (suc k) l e = rw (there_is owner es k (omega arith) e) (either (eqb owner x.owner))
  where
    either : (b : Bool) → (b || true) ≡ true
    either true = refl
    either false = refl

-- none has
there_is_none : (owner : ℕ) (es : List Entry) → ((k : ℕ) → k < length es → (get_or es k nobody).owner ≡ owner → ⊥)
    → member owner (owners_in es) ≡ false
unfolding member
there_is_none owner [] h = refl
there_is_none owner (x ∷ es) h =
    rw (ne_eqb owner x.owner (λ e. h 0 (omega arith) (sym e))) (there_is_none owner es (λ k l e. h (suc k) (omega arith) e))

module _ (es : List Entry) (start end owner r : ℕ) (below : end ≤ length es) where
  abbrev part : List Entry
  part = drop start (take end es)

  part_length : start ≤ end → length part ≡ end - start
  part_length h = length-drop start (take end es) ∙ ap (λ (n : ℕ). n - start) (length-take-le end es below)

  part_at : (k : ℕ) → start + k < end → get_or part k nobody ≡ get_or es (start + k) nobody
  part_at k h = get_or-drop start (take end es) k nobody ∙ get_or-take end es (start + k) nobody h

  pub found_member : start ≤ end → FoundAt es start end owner r → ltb r end ≡ member owner (owners_in part)
  found_member within f = elim (three r end) [ less l ↦ yes l | same e ↦ no e | more l ↦ absurd (let m = f.most in omega arith) ]
    where
      yes : r < end → ltb r end ≡ member owner (owners_in part)
      yes l =
          let m = f.least in
          let at : start + (r - start) ≡ r = omega arith in
          lt-ltb r end l
          ∙ sym (there_is owner part (r - start) (let n = part_length within in omega arith)
          (ap (λ (e : Entry). e.owner) (part_at (r - start) (omega arith)) ∙ ap (λ (k : ℕ). (get_or es k nobody).owner) at ∙ f.its l))

      no : r ≡ end → ltb r end ≡ member owner (owners_in part)
      no e =
          le-ltb r end (omega arith)
          ∙ sym (there_is_none owner part (λ k l is.
          let n = part_length within in
          f.not_before (start + k) (omega arith) (omega arith) (sym (ap (λ (x : Entry). x.owner) (part_at k (omega arith))) ∙ is)))

-- ---- one entry of a list, and the rest of it
module _ (ys zs : List Entry) (count few : ℕ) (waiting : Bool) where
  abbrev others : List ℕ
  others = owners_in (take few zs)

  module _ (i : ℕ) (here : i < count) (below : count ≤ length ys) (all : few ≤ length zs) where
    abbrev e : Entry
    e = get_or ys i nobody

    from_here : drop i (take count ys) ≡ e ∷ drop (i + 1) (take count ys)
    from_here =
        drop-cons (take count ys) i nobody (rw (length-take-le count ys below) here)
        ∙ (λ k. get_or-take count ys i nobody here k ∷ drop ((let z : suc i ≡ i + 1 = omega arith in z) k) (take count ys))

    by_list : (b : Bool) → cond b (leb 1 e.allowance) (eqb e.allowance 0) ≡ steps_right b e
    by_list true = refl
    by_list false = refl

    pub stands_here : (again elsewhere : ℕ) (r : Bool) → FoundAt ys (i + 1) count e.owner again → FoundAt zs 0 few e.owner elsewhere
        → r ≡ cond waiting (leb 1 e.allowance) (eqb e.allowance 0) && (not (ltb again count) && not (ltb elsewhere few))
        → standing waiting (drop i (take count ys)) others ≡ (r && standing waiting (drop (i + 1) (take count ys)) others)
    unfolding standing
    stands_here again elsewhere r f g is =
        ap (λ (es : List Entry). standing waiting es others) from_here
        ∙ ap (λ (b : Bool). b && standing waiting (drop (i + 1) (take count ys)) others) (sym found)
      where
        found : r ≡ steps_right waiting e && (not (member e.owner (owners_in (drop (i + 1) (take count ys)))) && not (member e.owner others))
        found =
            is
            ∙ (λ k. by_list waiting k && (not (found_member ys (i + 1) count e.owner again below (let z : i + 1 ≤ count = omega arith in z) f k)
            && not (found_member zs 0 few e.owner elsewhere all (let z : 0 ≤ few = omega arith in z) g k)))

  -- past the last there is nothing left
  pub stands_all : (i : ℕ) → count ≤ i → standing waiting (drop i (take count ys)) others ≡ true
  unfolding standing
  stands_all i h =
      ap (λ (es : List Entry). standing waiting es others)
      (drop_of_length-le (take count ys) (le_trans (rw (length-take count ys) (min-le_left count (length ys))) h))
